-- Methods, with a body or without one.
use Rattle.std.specs.Prelude.{Option, Some, None}
use Rattle.sj_core.specs.Terms.{Method, no_statements}
use Rattle.sj_desugar_spec.specs.Desugar.{desugared_member, names_of}
use Rattle.sj_trees.specs.Term.{Term}
use Rattle.sj_trees.specs.declared.classes.MethodDef.{MethodDef}

abbrev pub desugared_with : MethodDef → Option Term → Method
desugared_with d None = record { namespace = d.namespace; params = names_of d.params; body = no_statements }
desugared_with d (Some e) = desugared_member d e

-- a method in the core: one without a body has no statements
abbrev pub method_desugared : MethodDef → Method
method_desugared d = desugared_with d d.body
