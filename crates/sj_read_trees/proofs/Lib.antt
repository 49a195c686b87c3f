pub mod ManyLemmas
pub mod TreeLemmas
