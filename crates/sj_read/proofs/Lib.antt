pub mod PartsLemmas
pub mod SortedLemmas
