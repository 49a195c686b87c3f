pub mod Laws
pub use Rattle.dispatch_laws.specs.Laws as DispatchLawsLaws
