pub mod SpecialUnit
