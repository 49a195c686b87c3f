-- The names of the emitted code differ.
use Rattle.std.proofs.Common.{◌≡◌, ◌≤◌, ℕ, Bool, true, false, List, ◌∷◌, refl, ap, sym, ◌∙◌, arith}
use Rattle.std.specs.Prelude.{codes}
use Rattle.array_code.specs.Helpers.{helper_name}
use Rattle.agree_bodies.specs.Helper.{Helper}
use Rattle.array_code.specs.HelperVariants as helpers
use Rattle.array_code.specs.FailureVariants as failures
use Rattle.outcomes.specs.Agreement.{Room}
use Rattle.dispatch_laws.specs.World as ir_world
use Rattle.js_mean.specs.States as js
use Rattle.js_tree.specs.Terms.{Name}
use Rattle.sj_core.specs.Terms.{Variable, named, numbered, receiver}
use Rattle.dispatch_laws.specs.Names.{variable_name}
use Rattle.dispatch_laws.specs.Templates.{member_name, static_name, setter_name, load_name, store_name}
use Rattle.dispatch_laws.specs.Tests.{test_name, cast_name}
use Rattle.sj_mangling.specs.Bindings.{function_name, class_binding, method_binding}
use Rattle.sj_mangling.specs.declared.bindings.MethodBinding.TheVariants.{Dispatch, Reflective}
use Rattle.sj_mangling.specs.declared.bindings.ClassBinding.TheVariants.{Constants}
use Rattle.sj_mangling.specs.declared.bindings.ClassBinding.TheVariants as class_bindings
use Rattle.sj_mangling.specs.Mangling.{mangled}
use Rattle.sj_mangling.specs.Numerals.{number_text}
use Rattle.sj_names.proofs.Same.{impossible}
use Rattle.sj_names.specs.declared.method_names.Member.{Member}
use Rattle.sj_names.specs.declared.method_names.MethodName.{MethodName}
use Rattle.sj_names.specs.declared.method_names.Namespace.{Namespace}
use Rattle.sj_names.specs.declared.method_names.Namespace.TheVariants.{Public, PublicStatic, Private, PrivateStatic, Constructor}
use Rattle.agree_bodies.specs.Settings.{Top, a_function, a_method, a_constructor, a_dispatch, a_reflection, a_class, some_constants, a_static, a_setter, a_cell, a_loader, a_storer, a_test, a_cast, a_helper, cell_name, top_name, NamesDiffer}
use Rattle.sj_trees.specs.declared.types.IrType.{IrType}
use Rattle.sj_trees.specs.declared.types.IrType.TheVariants.{Class}
use Rattle.agree_bodies.proofs.Names.{first, heads, tails, low-numeral, variables-differ, labels-differ}
use Rattle.agree_calls.specs.Names.{emitted_in}
use Rattle.agree_bodies.specs.Built.{Usable}

-- the name of a function begins with `f`, `s`, `p` or `c`
begins : (n : Namespace) (c : List ℕ) (k : MethodName) (a : ℕ) (rest : List ℕ) → a ∷ rest ≡ function_name n c k → (99 ≤ a) × (a ≤ 115)
begins Public c k a rest e = let h : a ≡ 102 = ap first e in (omega arith, omega arith)
begins PublicStatic c k a rest e = let h : a ≡ 115 = ap first e in (omega arith, omega arith)
begins Private c k a rest e = let h : a ≡ 112 = ap first e in (omega arith, omega arith)
begins PrivateStatic c k a rest e = let h : a ≡ 112 = ap first e in (omega arith, omega arith)
begins Constructor c k a rest e = let h : a ≡ 99 = ap first e in (omega arith, omega arith)

no_function : (m : Member) (x : Variable) → variable_name x ≡ member_name m → ⊥
no_function m (named x) e = let h = begins m.namespace m.class m.method 118 (95 ∷ mangled x) e in let k : 118 ≤ 115 = h.1 in omega arith
no_function m receiver e = let h = begins m.namespace m.class m.method 36 (codes "this") e in let k : 99 ≤ 36 = h.0 in omega arith
no_function m (numbered n) e = let h = begins m.namespace m.class m.method 36 (number_text n) e in let k : 99 ≤ 36 = h.0 in omega arith

-- the name of a class begins with `c`
no_class : (c : List ℕ) (x : Variable) → variable_name x ≡ class_binding class_bindings.Class c → ⊥
no_class c (named x) e = let h : ◌≡◌ {A = ℕ} 118 99 = ap first e in absurd (omega arith)
no_class c receiver e = let h : ◌≡◌ {A = ℕ} 36 99 = ap first e in absurd (omega arith)
no_class c (numbered n) e = let h : ◌≡◌ {A = ℕ} 36 99 = ap first e in absurd (omega arith)

-- and that of its constants with `k`
no_constants : (c : List ℕ) (x : Variable) → variable_name x ≡ class_binding Constants c → ⊥
no_constants c (named x) e = let h : ◌≡◌ {A = ℕ} 118 107 = ap first e in absurd (omega arith)
no_constants c receiver e = let h : ◌≡◌ {A = ℕ} 36 107 = ap first e in absurd (omega arith)
no_constants c (numbered n) e = let h : ◌≡◌ {A = ℕ} 36 107 = ap first e in absurd (omega arith)

-- the name of the variable of a static field begins with `t`, and that of the function that sets it with `u`
no_static : (c f : List ℕ) (x : Variable) → variable_name x ≡ static_name c f → ⊥
no_static c f (named x) e = let h : ◌≡◌ {A = ℕ} 118 116 = ap first e in absurd (omega arith)
no_static c f receiver e = let h : ◌≡◌ {A = ℕ} 36 116 = ap first e in absurd (omega arith)
no_static c f (numbered n) e = let h : ◌≡◌ {A = ℕ} 36 116 = ap first e in absurd (omega arith)

no_setter : (c f : List ℕ) (x : Variable) → variable_name x ≡ setter_name c f → ⊥
no_setter c f (named x) e = let h : ◌≡◌ {A = ℕ} 118 117 = ap first e in absurd (omega arith)
no_setter c f receiver e = let h : ◌≡◌ {A = ℕ} 36 117 = ap first e in absurd (omega arith)
no_setter c f (numbered n) e = let h : ◌≡◌ {A = ℕ} 36 117 = ap first e in absurd (omega arith)

-- the name of a helper is `$` and a letter, and more
pub record BeginsSo (name : Name) : Type 0 where
  pub letter : ℕ
  pub rest : List ℕ
  pub is : name ≡ 36 ∷ letter ∷ rest
  pub high : 58 ≤ letter
  pub other : letter ≡ 116 → ⊥

helper-begins : (h : Helper) → BeginsSo (helper_name h)
helper-begins (helpers.TestOf k) = record { letter = 105; rest = _; is = refl; high = omega arith; other = λ e. omega arith }
helper-begins (helpers.CastTo k) = record { letter = 97; rest = _; is = refl; high = omega arith; other = λ e. omega arith }
helper-begins (helpers.ConstantsOf k) = record { letter = 107; rest = _; is = refl; high = omega arith; other = λ e. omega arith }
helper-begins helpers.NotNull = record { letter = 110; rest = _; is = refl; high = omega arith; other = λ e. omega arith }
helper-begins helpers.IntQuotient = record { letter = 105; rest = _; is = refl; high = omega arith; other = λ e. omega arith }
helper-begins helpers.IntRemainder = record { letter = 105; rest = _; is = refl; high = omega arith; other = λ e. omega arith }
helper-begins helpers.LongQuotient = record { letter = 108; rest = _; is = refl; high = omega arith; other = λ e. omega arith }
helper-begins helpers.LongRemainder = record { letter = 108; rest = _; is = refl; high = omega arith; other = λ e. omega arith }
helper-begins helpers.BoxedChar = record { letter = 67; rest = _; is = refl; high = omega arith; other = λ e. omega arith }
helper-begins helpers.Equal = record { letter = 101; rest = _; is = refl; high = omega arith; other = λ e. omega arith }
helper-begins helpers.ArrayClass = record { letter = 65; rest = _; is = refl; high = omega arith; other = λ e. omega arith }
helper-begins helpers.MakeArray = record { letter = 109; rest = _; is = refl; high = omega arith; other = λ e. omega arith }
helper-begins helpers.CheckIndex = record { letter = 105; rest = _; is = refl; high = omega arith; other = λ e. omega arith }
helper-begins helpers.Get = record { letter = 103; rest = _; is = refl; high = omega arith; other = λ e. omega arith }
helper-begins helpers.Set = record { letter = 115; rest = _; is = refl; high = omega arith; other = λ e. omega arith }
helper-begins helpers.Put = record { letter = 112; rest = _; is = refl; high = omega arith; other = λ e. omega arith }
helper-begins helpers.Covers = record { letter = 99; rest = _; is = refl; high = omega arith; other = λ e. omega arith }
helper-begins helpers.Fits = record { letter = 102; rest = _; is = refl; high = omega arith; other = λ e. omega arith }
helper-begins helpers.ClassOf = record { letter = 107; rest = _; is = refl; high = omega arith; other = λ e. omega arith }
helper-begins helpers.TestOfArray = record { letter = 105; rest = _; is = refl; high = omega arith; other = λ e. omega arith }
helper-begins helpers.CastToArray = record { letter = 97; rest = _; is = refl; high = omega arith; other = λ e. omega arith }
helper-begins (helpers.Throws failures.NullReceiver) = record { letter = 110; rest = _; is = refl; high = omega arith; other = λ e. omega arith }
helper-begins (helpers.Throws failures.Division) = record { letter = 97; rest = _; is = refl; high = omega arith; other = λ e. omega arith }
helper-begins (helpers.Throws failures.Cast) = record { letter = 99; rest = _; is = refl; high = omega arith; other = λ e. omega arith }
helper-begins (helpers.Throws failures.Index) = record { letter = 105; rest = _; is = refl; high = omega arith; other = λ e. omega arith }
helper-begins (helpers.Throws failures.Store) = record { letter = 97; rest = _; is = refl; high = omega arith; other = λ e. omega arith }
helper-begins (helpers.Throws failures.Size) = record { letter = 110; rest = _; is = refl; high = omega arith; other = λ e. omega arith }
helper-begins (helpers.Throws failures.Method) = record { letter = 110; rest = _; is = refl; high = omega arith; other = λ e. omega arith }

no_letter : (name : List ℕ) → BeginsSo name → (x : Variable) → variable_name x ≡ name → ⊥
no_letter name b (named x) e = let k : ◌≡◌ {A = ℕ} 118 36 = heads 118 36 (95 ∷ mangled x) (b.letter ∷ b.rest) (e ∙ b.is) in absurd (omega arith)
no_letter name b (numbered n) e = low-numeral n b.letter b.rest (sym (tails 36 36 (number_text n) (b.letter ∷ b.rest) (e ∙ b.is))) b.high
no_letter name b receiver e = b.other (sym (heads 116 b.letter (codes "his") b.rest (tails 36 36 (codes "this") (b.letter ∷ b.rest) (e ∙ b.is))))

-- the name of the test of a class begins with `i`, and that of its cast with `a`; those of other types are names of helpers
no_test : (t : IrType) (x : Variable) → variable_name x ≡ test_name t → ⊥
no_test (Class c) (named x) e = let h : ◌≡◌ {A = ℕ} 118 105 = ap first e in absurd (omega arith)
no_test (Class c) receiver e = let h : ◌≡◌ {A = ℕ} 36 105 = ap first e in absurd (omega arith)
no_test (Class c) (numbered n) e = let h : ◌≡◌ {A = ℕ} 36 105 = ap first e in absurd (omega arith)
no_test t x e = no_letter (test_name t) (record { letter = 105; rest = _; is = refl; high = omega arith; other = λ e. omega arith }) x e

no_cast : (t : IrType) (x : Variable) → variable_name x ≡ cast_name t → ⊥
no_cast (Class c) (named x) e = let h : ◌≡◌ {A = ℕ} 118 97 = ap first e in absurd (omega arith)
no_cast (Class c) receiver e = let h : ◌≡◌ {A = ℕ} 36 97 = ap first e in absurd (omega arith)
no_cast (Class c) (numbered n) e = let h : ◌≡◌ {A = ℕ} 36 97 = ap first e in absurd (omega arith)
no_cast t x e = no_letter (cast_name t) (record { letter = 97; rest = _; is = refl; high = omega arith; other = λ e. omega arith }) x e

-- the name of a function that tells receivers apart begins with `d`
no_dispatch : (m : MethodName) (x : Variable) → variable_name x ≡ method_binding Dispatch m → ⊥
no_dispatch m (named x) e = let h : ◌≡◌ {A = ℕ} 118 100 = ap first e in absurd (omega arith)
no_dispatch m receiver e = let h : ◌≡◌ {A = ℕ} 36 100 = ap first e in absurd (omega arith)
no_dispatch m (numbered n) e = let h : ◌≡◌ {A = ℕ} 36 100 = ap first e in absurd (omega arith)

-- that of a function by which receivers are called under a reflective name begins with `r`
no_reflection : (m : MethodName) (x : Variable) → variable_name x ≡ method_binding Reflective m → ⊥
no_reflection m (named x) e = let h : ◌≡◌ {A = ℕ} 118 114 = ap first e in absurd (omega arith)
no_reflection m receiver e = let h : ◌≡◌ {A = ℕ} 36 114 = ap first e in absurd (omega arith)
no_reflection m (numbered n) e = let h : ◌≡◌ {A = ℕ} 36 114 = ap first e in absurd (omega arith)

-- the name of the cell of a class begins with `n`, that of the function that loads its one object with `g`, and that of the one that stores it with `q`
no_cell : (c : List ℕ) (x : Variable) → variable_name x ≡ cell_name c → ⊥
no_cell c (named x) e = let h : ◌≡◌ {A = ℕ} 118 110 = ap first e in absurd (omega arith)
no_cell c receiver e = let h : ◌≡◌ {A = ℕ} 36 110 = ap first e in absurd (omega arith)
no_cell c (numbered n) e = let h : ◌≡◌ {A = ℕ} 36 110 = ap first e in absurd (omega arith)

no_loader : (c : List ℕ) (x : Variable) → variable_name x ≡ load_name c → ⊥
no_loader c (named x) e = let h : ◌≡◌ {A = ℕ} 118 103 = ap first e in absurd (omega arith)
no_loader c receiver e = let h : ◌≡◌ {A = ℕ} 36 103 = ap first e in absurd (omega arith)
no_loader c (numbered n) e = let h : ◌≡◌ {A = ℕ} 36 103 = ap first e in absurd (omega arith)

no_storer : (c : List ℕ) (x : Variable) → variable_name x ≡ store_name c → ⊥
no_storer c (named x) e = let h : ◌≡◌ {A = ℕ} 118 113 = ap first e in absurd (omega arith)
no_storer c receiver e = let h : ◌≡◌ {A = ℕ} 36 113 = ap first e in absurd (omega arith)
no_storer c (numbered n) e = let h : ◌≡◌ {A = ℕ} 36 113 = ap first e in absurd (omega arith)

no_top : (t : Top) (x : Variable) → variable_name x ≡ top_name t → ⊥
no_top (a_function m) = no_function m
no_top (a_method m) = no_function m
no_top (a_constructor m) = no_function m
no_top (a_dispatch m) = no_dispatch m
no_top (a_reflection m) = no_reflection m
no_top (a_class c) = no_class c
no_top (some_constants c) = no_constants c
no_top (a_static c f t) = no_static c f
no_top (a_setter c f t) = no_setter c f
no_top (a_cell c) = no_cell c
no_top (a_loader c) = no_loader c
no_top (a_storer c) = no_storer c
no_top (a_test t) = no_test t
no_top (a_cast t) = no_cast t
no_top (a_helper h) = no_letter (helper_name h) (helper-begins h)

pub emitted_names_differ : (classes typing : ir_world.World) (program : js.Program) (home : Top → Name) (has : Name → Usable) (room : Room) → NamesDiffer (emitted_in classes typing program home has room)
emitted_names_differ classes typing program home has room = record { variables = variables-differ; labels = labels-differ; tops = no_top }

-- any binding but the variable of a static field
abbrev pub is_static_variable : Top → Bool
is_static_variable (a_static c f t) = true
is_static_variable _ = false

no_member : (m : Member) (c f : List ℕ) → member_name m ≡ static_name c f → ⊥
no_member m c f e = let h = begins m.namespace m.class m.method 116 _ (sym e) in let k : 116 ≤ 115 = h.1 in omega arith

-- it has no name of a static field's variable
pub static_apart : (t : Top) (c f : List ℕ) → is_static_variable t ≡ false → top_name t ≡ static_name c f → ⊥
static_apart (a_function m) c f h e = no_member m c f e
static_apart (a_method m) c f h e = no_member m c f e
static_apart (a_constructor m) c f h e = no_member m c f e
static_apart (a_dispatch m) c f h e = let k : ◌≡◌ {A = ℕ} 100 116 = ap first e in absurd (omega arith)
static_apart (a_reflection m) c f h e = let k : ◌≡◌ {A = ℕ} 114 116 = ap first e in absurd (omega arith)
static_apart (a_class d) c f h e = let k : ◌≡◌ {A = ℕ} 99 116 = ap first e in absurd (omega arith)
static_apart (some_constants d) c f h e = let k : ◌≡◌ {A = ℕ} 107 116 = ap first e in absurd (omega arith)
static_apart (a_static d g t) c f h e = impossible (sym h)
static_apart (a_setter d g t) c f h e = let k : ◌≡◌ {A = ℕ} 117 116 = ap first e in absurd (omega arith)
static_apart (a_cell d) c f h e = let k : ◌≡◌ {A = ℕ} 110 116 = ap first e in absurd (omega arith)
static_apart (a_loader d) c f h e = let k : ◌≡◌ {A = ℕ} 103 116 = ap first e in absurd (omega arith)
static_apart (a_storer d) c f h e = let k : ◌≡◌ {A = ℕ} 113 116 = ap first e in absurd (omega arith)
static_apart (a_test (Class d)) c f h e = let k : ◌≡◌ {A = ℕ} 105 116 = ap first e in absurd (omega arith)
static_apart (a_test t) c f h e = let k : ◌≡◌ {A = ℕ} 36 116 = ap first e in absurd (omega arith)
static_apart (a_cast (Class d)) c f h e = let k : ◌≡◌ {A = ℕ} 97 116 = ap first e in absurd (omega arith)
static_apart (a_cast t) c f h e = let k : ◌≡◌ {A = ℕ} 36 116 = ap first e in absurd (omega arith)
static_apart (a_helper k) c f h e = let b = helper-begins k in let n : ◌≡◌ {A = ℕ} 36 116 = heads 36 116 (b.letter ∷ b.rest) _ (sym b.is ∙ e) in absurd (omega arith)

-- any binding but the cell of a class
abbrev pub is_cell : Top → Bool
is_cell (a_cell c) = true
is_cell _ = false

no_member_cell : (m : Member) (c : List ℕ) → member_name m ≡ cell_name c → ⊥
no_member_cell m c e = by m.namespace (sym e)
  where
    by : (n : Namespace) → cell_name c ≡ function_name n m.class m.method → ⊥
    by Public e = let k : ◌≡◌ {A = ℕ} 110 102 = ap first e in absurd (omega arith)
    by PublicStatic e = let k : ◌≡◌ {A = ℕ} 110 115 = ap first e in absurd (omega arith)
    by Private e = let k : ◌≡◌ {A = ℕ} 110 112 = ap first e in absurd (omega arith)
    by PrivateStatic e = let k : ◌≡◌ {A = ℕ} 110 112 = ap first e in absurd (omega arith)
    by Constructor e = let k : ◌≡◌ {A = ℕ} 110 99 = ap first e in absurd (omega arith)

-- it has no name of a cell
pub cell_apart : (t : Top) (c : List ℕ) → is_cell t ≡ false → top_name t ≡ cell_name c → ⊥
cell_apart (a_function m) c h e = no_member_cell m c e
cell_apart (a_method m) c h e = no_member_cell m c e
cell_apart (a_constructor m) c h e = no_member_cell m c e
cell_apart (a_dispatch m) c h e = let k : ◌≡◌ {A = ℕ} 100 110 = ap first e in absurd (omega arith)
cell_apart (a_reflection m) c h e = let k : ◌≡◌ {A = ℕ} 114 110 = ap first e in absurd (omega arith)
cell_apart (a_class d) c h e = let k : ◌≡◌ {A = ℕ} 99 110 = ap first e in absurd (omega arith)
cell_apart (some_constants d) c h e = let k : ◌≡◌ {A = ℕ} 107 110 = ap first e in absurd (omega arith)
cell_apart (a_static d g t) c h e = let k : ◌≡◌ {A = ℕ} 116 110 = ap first e in absurd (omega arith)
cell_apart (a_setter d g t) c h e = let k : ◌≡◌ {A = ℕ} 117 110 = ap first e in absurd (omega arith)
cell_apart (a_cell d) c h e = impossible (sym h)
cell_apart (a_loader d) c h e = let k : ◌≡◌ {A = ℕ} 103 110 = ap first e in absurd (omega arith)
cell_apart (a_storer d) c h e = let k : ◌≡◌ {A = ℕ} 113 110 = ap first e in absurd (omega arith)
cell_apart (a_test (Class d)) c h e = let k : ◌≡◌ {A = ℕ} 105 110 = ap first e in absurd (omega arith)
cell_apart (a_test t) c h e = let k : ◌≡◌ {A = ℕ} 36 110 = ap first e in absurd (omega arith)
cell_apart (a_cast (Class d)) c h e = let k : ◌≡◌ {A = ℕ} 97 110 = ap first e in absurd (omega arith)
cell_apart (a_cast t) c h e = let k : ◌≡◌ {A = ℕ} 36 110 = ap first e in absurd (omega arith)
cell_apart (a_helper k) c h e = let b = helper-begins k in let n : ◌≡◌ {A = ℕ} 36 110 = heads 36 110 (b.letter ∷ b.rest) _ (sym b.is ∙ e) in absurd (omega arith)
