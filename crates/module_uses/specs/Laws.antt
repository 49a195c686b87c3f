-- Laws of what the files of a plan use.
use Rattle.std.specs.Prelude.{◌≡◌, ◌↔◌, Bool, true, List, Contains}
use Rattle.running_modules.specs.Given.{FitsDivision}
use Rattle.running_modules.specs.BodyUsesLaws.{used_by}
use Rattle.running_modules.specs.Built.{Usable}
use Rattle.running_modules.specs.Declared.{IsAmong}
use Rattle.running_modules.specs.Typing.{is_built_with}
use Rattle.js_tree.specs.Terms.{Piece}
use Rattle.js_tree.specs.declared.items.Binding.{Binding}
use Rattle.sj_emit_module_spec.specs.Laws.{Uses}
use Rattle.sj_infos.specs.Trees.{trees}
use Rattle.sj_split.specs.Orders.{Bytes}
use Rattle.sj_split.specs.declared.plans.PlannedModule.{PlannedModule}
use Rattle.sj_trees.specs.Term.{Term, binary_op}
use Rattle.sj_trees.specs.declared.classes.MethodDef.{MethodDef}
use Rattle.sj_trees.specs.declared.operators.BinaryOp.{BinaryOp}
use Rattle.sj_trees.specs.declared.positions.Position.{Position}
use Rattle.module_uses.specs.Used.{restricted, uses_in}

-- each divisor in this tree is of the type that is divided
abbrev pub DivisorsFit : Term → Type 0
DivisorsFit e = (p : Position) (o : BinaryOp) (a d : Term) → Contains (trees e) (binary_op p o a d) → FitsDivision o d

-- a body that is built with what is there is built with what of it its code uses
abbrev pub BodiesUseNoMore : Type 0
BodiesUseNoMore = (has : Usable) (uses : Binding → Bool) (d : MethodDef) (e : Term)
    → is_built_with has d e ≡ true
    → DivisorsFit e
    → ((b : Binding) → Contains (used_by has.lookup d e) b → uses b ≡ true)
    → is_built_with (restricted has uses) d e ≡ true

-- what is used of what is there is among it
abbrev pub RestrictedIsAmong : Type 0
RestrictedIsAmong = (has : Usable) (uses : Binding → Bool) → IsAmong (restricted has uses) has

-- the test is passed by what the file uses, and by nothing else
abbrev pub FilesUse : Type 0
FilesUse = (modules : List PlannedModule) (ps : List Piece) (f : Bytes) (b : Binding) → (uses_in modules ps f b ≡ true) ↔ Uses modules ps f b
