pub mod Bytes
pub mod Exact
pub mod NamesExact
pub mod OwnExact
pub mod TermsExact
pub mod MethodsExact
pub mod Cases
