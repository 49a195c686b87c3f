-- A worked program of two methods: one triples in a loop, and the other tests what it gives.
use Rattle.std.specs.Prelude.{List, [], ◌∷◌, pos, codes}
use Rattle.agree_soundness.specs.Rows.{nowhere, object_name, object_with, static_method, int_method, int_call, triples, logs}
use Rattle.agree_soundness.specs.World.{World}
use Rattle.sj_trees.specs.Term.{Term, if_then, int_literal, binary_op}
use Rattle.sj_trees.specs.declared.classes.MethodDef.{MethodDef}
use Rattle.sj_trees.specs.declared.operators.BinaryOp.TheVariants.{IntEqual}
use Rattle.sj_trees.specs.declared.types.IrType.TheVariants.{NoType}
use Rattle.agree_soundness.specs.EmittedMethods.{EmittedMethod}

-- `if (f(1) == 27) log "yes" else log "no"`
abbrev pub tests_it : Term
tests_it = if_then nowhere (binary_op nowhere IntEqual (int_call (pos 1)) (int_literal nowhere (pos 27))) (logs (codes "yes")) (logs (codes "no")) NoType

abbrev pub main_method : MethodDef
main_method = static_method (codes "main") tests_it

abbrev pub tripling_method : MethodDef
tripling_method = int_method triples

abbrev pub worked_world : World
worked_world = object_with (main_method ∷ tripling_method ∷ []) ∷ []

-- a method of `java.lang.Object` as one whose function is emitted
abbrev pub emitted : MethodDef → Term → EmittedMethod
emitted d e = record { member = record { class = object_name; namespace = d.namespace; method = d.name }; definition = d; its_body = e }

abbrev pub worked_methods : List EmittedMethod
worked_methods = emitted main_method tests_it ∷ emitted tripling_method triples ∷ []
