pub mod Bindings
pub mod Mangling
pub mod Numerals
pub use Rattle.sj_names.specs.Same
pub use Rattle.sj_names.specs.declared.method_names.Member
pub use Rattle.sj_names.specs.declared.method_names.MethodName
pub use Rattle.sj_names.specs.declared.method_names.Namespace
pub use Rattle.sj_names.specs.declared.method_names.Namespace.TheVariants as NamespaceVariants
pub use Rattle.sj_names.specs.declared.references.BaseRef
pub use Rattle.sj_names.specs.declared.references.TypeRef
pub use Rattle.sj_names.specs.declared.references.TypeRef.TheVariants as TypeRefVariants
pub use Rattle.sj_names.specs.Grammar
