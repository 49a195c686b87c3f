pub mod Rules
pub mod Refusals
pub mod Reachable
pub mod Laws
pub mod Rows
pub use Rattle.sj_infos.specs.Forms
pub use Rattle.sj_infos.specs.declared.forms.BodyForm.TheVariants as BodyFormVariants
pub use Rattle.sj_infos.specs.declared.forms.BodyForm
pub use Rattle.sj_infos.specs.Trees
