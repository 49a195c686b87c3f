-- What a class and the file of its functions show at the bounds that the reference recorded.
use Rattle.std.specs.Prelude.{ℕ, zero, suc, Bool, List, [], ◌∷◌, map, codes, Option, Some, None}
use Rattle.outcomes.specs.Outcome.{Line, Lines, Done, Going}
use Rattle.outcomes.specs.Shown.{normal, Shown}
use Rattle.ir_mean.specs.Rows.{nowhere, object_name, once}
use Rattle.ir_mean.specs.Shows.{ir_shows}
use Rattle.js_mean.specs.Shows.{js_shows}
use Rattle.js_tree.specs.Texts.{put_item_line}
use Rattle.agree_early_errors.specs.EmittedMethods.{EmittedMethod}
use Rattle.agree_early_errors.specs.Emitted.{function_item_of}
use Rattle.agree_classes.specs.Files.{program_with}
use Rattle.sj_names.specs.declared.method_names.Namespace.{Namespace}
use Rattle.sj_names.specs.declared.references.TypeRef.{TypeRef}
use Rattle.sj_trees.specs.Term.{Term}
use Rattle.sj_trees.specs.declared.classes.ClassDef.{ClassDef}
use Rattle.sj_trees.specs.declared.classes.MethodDef.{MethodDef}
use Rattle.sj_trees.specs.declared.classes.ParamDef.{ParamDef}
use Rattle.sj_trees.specs.declared.types.IrType.{IrType}

abbrev pub bounds : List ℕ
bounds = 0 ∷ 1 ∷ 2 ∷ 3 ∷ 10 ∷ 50 ∷ []

-- what is shown at each of these
abbrev pub Answers : Type 0
Answers = List Shown

-- the class alone, of which the initializer of the module `main` calls `main`
abbrev pub class_within : ClassDef → ℕ → Shown
class_within c = ir_shows (c ∷ []) once (codes "main")

abbrev pub class_shows : ClassDef → Answers
class_shows c = map (class_within c) bounds

abbrev pub emitted_of : MethodDef → Option Term → List EmittedMethod → List EmittedMethod
emitted_of d None es = es
emitted_of d (Some e) es = record { member = record { class = object_name; namespace = d.namespace; method = d.name }; definition = d; its_body = e } ∷ es

-- methods of `java.lang.Object` as those whose functions are emitted
abbrev pub all_emitted : List MethodDef → List EmittedMethod
all_emitted [] = []
all_emitted (d ∷ ds) = emitted_of d d.body (all_emitted ds)

-- the file of the functions of these methods, and behind them the call of `main`
abbrev pub file_within : List MethodDef → ℕ → Shown
file_within ds = js_shows (program_with (codes "main") (all_emitted ds) once) (codes "main")

abbrev pub file_shows : List MethodDef → Answers
file_shows ds = map (file_within ds) bounds

-- the texts of the functions of these methods
abbrev pub function_texts : List MethodDef → List (List ℕ)
function_texts ds = map (λ (e : EmittedMethod). put_item_line (function_item_of e) []) (all_emitted ds)

-- these lines and the end, and these lines so far
abbrev pub ends_with : Lines → Shown
ends_with ls = record { lines = ls; end = Done normal }

abbrev pub goes_on_with : Lines → Shown
goes_on_with ls = record { lines = ls; end = Going }

-- nothing within the bound 0, and all within each further one
abbrev pub all_from_one : Lines → Answers
all_from_one ls = goes_on_with [] ∷ ends_with ls ∷ ends_with ls ∷ ends_with ls ∷ ends_with ls ∷ ends_with ls ∷ []

abbrev pub times : ℕ → Line → Lines
times zero l = []
times (suc n) l = l ∷ times n l

abbrev pub parameter : List ℕ → Bool → IrType → ParamDef
parameter x is_mutable t = record { name = x; «mutable» = is_mutable; tpe = t }

-- a method with this namespace and name, with the references of its parameters and its result, its parameters, and its body
abbrev pub method_of : Namespace → List ℕ → List TypeRef → TypeRef → List ParamDef → IrType → Term → MethodDef
method_of n x rs r ds t e = record { pos = nowhere; namespace = n; name = record { simple = x; params = rs; result = Some r }; params = ds; result = t; body = Some e; hash = None }
