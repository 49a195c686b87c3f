-- What a method has of which no tree breaks the local rules.
use Rattle.std.specs.Prelude.{◌≡◌, None}
use Rattle.sj_local.specs.Firsts.{first_where}
use Rattle.sj_local.specs.TreeRules.{DeclaresTwice, breaks, method_nodes}
use Rattle.sj_local.specs.declared.rules.Rule.TheVariants as rules
use Rattle.sj_trees.specs.declared.classes.ClassDef.{ClassDef}
use Rattle.sj_trees.specs.declared.classes.MethodDef.{MethodDef}

-- the rules on declarations, definitions, variables, jumps, This, stores of modules and targets of assignments are kept by the method
pub record KeepsTreeRules (c : ClassDef) (d : MethodDef) : Type 0 where
  pub declared : DeclaresTwice d None
  pub definition : first_where (breaks rules.Definition c d.namespace) (method_nodes d) ≡ None
  pub variable : first_where (breaks rules.Variable c d.namespace) (method_nodes d) ≡ None
  pub jump : first_where (breaks rules.ReturnLabel c d.namespace) (method_nodes d) ≡ None
  pub this : first_where (breaks rules.This c d.namespace) (method_nodes d) ≡ None
  pub stored : first_where (breaks rules.StoreModule c d.namespace) (method_nodes d) ≡ None
  pub target : first_where (breaks rules.Target c d.namespace) (method_nodes d) ≡ None
