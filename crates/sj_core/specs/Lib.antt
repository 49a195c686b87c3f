pub mod Lookup
pub mod Terms
pub mod Views
pub use Rattle.sj_names.specs.Same
pub use Rattle.sj_names.specs.declared.method_names.Member
pub use Rattle.sj_names.specs.declared.method_names.MethodName
pub use Rattle.sj_names.specs.declared.method_names.Namespace
pub use Rattle.sj_names.specs.declared.method_names.Namespace.TheVariants as NamespaceVariants
pub use Rattle.sj_names.specs.declared.references.TypeRef
pub use Rattle.sj_trees.specs.Erase
pub use Rattle.sj_trees.specs.Term
pub use Rattle.sj_trees.specs.TypeOf
pub use Rattle.sj_trees.specs.Types
pub use Rattle.sj_trees.specs.declared.classes.MethodDef
pub use Rattle.sj_trees.specs.declared.classes.ParamDef
pub use Rattle.sj_trees.specs.declared.operators.BinaryOp
pub use Rattle.sj_trees.specs.declared.operators.BinaryOp.TheVariants as BinaryOpVariants
pub use Rattle.sj_trees.specs.declared.operators.UnaryOp.TheVariants as UnaryOpVariants
pub use Rattle.sj_trees.specs.declared.positions.Position
pub use Rattle.sj_trees.specs.declared.types.IrType
pub use Rattle.sj_trees.specs.declared.types.IrType.TheVariants as IrTypeVariants
pub use Rattle.sj_trees.specs.declared.operators.UnaryOp
