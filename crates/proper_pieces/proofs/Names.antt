-- What is read back from the name of a piece: a number for its prefix, and the class that owns it.
use Rattle.std.proofs.Common.{◌≡◌, ◌++◌, ℕ, Bool, true, false, [], ◌∷◌, IsTrue, refl, sym, ap, ◌∙◌, arith, append_assoc, if◌then◌else◌}
use Rattle.std.specs.Prelude.{◌==◌, codes}
use Rattle.sj_emit_help_spec.specs.Helpers.{helper_name}
use Rattle.sj_emit_help_spec.specs.declared.kinds.Kind.{Kind}
use Rattle.sj_emit_help_spec.specs.declared.kinds.Helper.{Helper}
use Rattle.sj_emit_help_spec.specs.declared.kinds.Helper.TheVariants as helpers
use Rattle.sj_emit_help_spec.specs.declared.kinds.Failure.{Failure}
use Rattle.sj_emit_help_spec.specs.declared.kinds.Failure.TheVariants as failures
use Rattle.js_tree.specs.Terms.{Name}
use Rattle.linked_pieces.specs.Dispatch.{dispatch_name, reflective_name}
use Rattle.sj_mangling.specs.Bindings.{field_binding, function_name}
use Rattle.sj_mangling.specs.Mangling.{mangled}
use Rattle.sj_mangling.specs.declared.bindings.FieldBinding.TheVariants.{Variable, Setter}
use Rattle.sj_mangling.proofs.FunctionNames.{split_class}
use Rattle.sj_mangling.proofs.Injective.{mangled_texts_differ}
use Rattle.sj_names.proofs.Same.{text-same}
use Rattle.sj_names.specs.Grammar.{is_class_name}
use Rattle.sj_names.specs.MethodNames.{spelled_method}
use Rattle.sj_names.specs.Same.{is_same_text}
use Rattle.sj_names.specs.WellKnown.{object, is_object}
use Rattle.sj_names.specs.declared.method_names.MethodName.{MethodName}
use Rattle.sj_names.specs.declared.method_names.Namespace.{Namespace}
use Rattle.sj_names.specs.declared.method_names.Namespace.TheVariants.{Public, PublicStatic, Private, PrivateStatic, Constructor}

-- what stands before the first `_`, and behind it
abbrev front : Name → Name
front [] = []
front (b ∷ bs) = if b == 95 then [] else b ∷ front bs

abbrev pub behind : Name → Name
behind [] = []
behind (b ∷ bs) = if b == 95 then bs else behind bs

-- functions, helpers and the functions that tell receivers apart, of methods and of reflective names, have the last four numbers
abbrev number_of : Name → ℕ
number_of f =
    if is_same_text f (codes "k") then 0 else
    if is_same_text f (codes "c") then 1 else
    if is_same_text f (codes "t") then 2 else
    if is_same_text f (codes "u") then 3 else
    if is_same_text f (codes "n") then 4 else
    if is_same_text f (codes "g") then 5 else
    if is_same_text f (codes "q") then 6 else
    if is_same_text f (codes "is") then 7 else
    if is_same_text f (codes "as") then 8 else
    if is_same_text f (codes "d") then 11 else
    if is_same_text f (codes "r") then 12 else
    9

abbrev begins_as_helper : Name → Bool
begins_as_helper [] = false
begins_as_helper (b ∷ bs) = b == 36

abbrev pub rank : Name → ℕ
rank n = if begins_as_helper n then 10 else number_of (front n)

-- 0 where the class stands alone, 1 where more stands behind it, 2 for a helper and a function that tells receivers apart
abbrev shape : ℕ → ℕ
shape r = if r == 12 then 2 else if r == 11 then 2 else if r == 10 then 2 else if r == 9 then 1 else if r == 2 then 1 else if r == 3 then 1 else 0

pub function_rank : (s : Namespace) (c : Name) (m : MethodName) → rank (function_name s c m) ≡ 9
function_rank Public c m = refl
function_rank PublicStatic c m = refl
function_rank Private c m = refl
function_rank PrivateStatic c m = refl
function_rank Constructor c m = refl

kind_rank : (k : Kind) → (rank (helper_name (helpers.TestOf k)) ≡ 10) × (rank (helper_name (helpers.CastTo k)) ≡ 10) × (rank (helper_name (helpers.ConstantsOf k)) ≡ 10)
kind_rank k = (refl, refl, refl)

failure_rank : (f : Failure) → rank (helper_name (helpers.Throws f)) ≡ 10
failure_rank failures.NullReceiver = refl
failure_rank failures.Division = refl
failure_rank failures.Cast = refl
failure_rank failures.Index = refl
failure_rank failures.Store = refl
failure_rank failures.Size = refl
failure_rank failures.Method = refl

pub helper_rank : (h : Helper) → rank (helper_name h) ≡ 10
helper_rank (helpers.TestOf k) = (kind_rank k).0
helper_rank (helpers.CastTo k) = (kind_rank k).1
helper_rank (helpers.ConstantsOf k) = (kind_rank k).2
helper_rank helpers.NotNull = refl
helper_rank helpers.IntQuotient = refl
helper_rank helpers.IntRemainder = refl
helper_rank helpers.LongQuotient = refl
helper_rank helpers.LongRemainder = refl
helper_rank helpers.BoxedChar = refl
helper_rank helpers.Equal = refl
helper_rank helpers.ArrayClass = refl
helper_rank helpers.MakeArray = refl
helper_rank helpers.CheckIndex = refl
helper_rank helpers.Get = refl
helper_rank helpers.Set = refl
helper_rank helpers.Put = refl
helper_rank helpers.Covers = refl
helper_rank helpers.Fits = refl
helper_rank helpers.ClassOf = refl
helper_rank helpers.TestOfArray = refl
helper_rank helpers.CastToArray = refl
helper_rank (helpers.Throws f) = failure_rank f

pub dispatch_rank : (m : MethodName) → rank (dispatch_name m) ≡ 11
dispatch_rank m = refl

pub reflective_rank : (m : MethodName) → rank (reflective_name m) ≡ 12
reflective_rank m = refl

-- the name of a piece that this class owns
pub data Owns (c n : Name) : Type 0 where
  alone : shape (rank n) ≡ 0 → behind n ≡ mangled c → Owns c n
  with_more : (more : Name) → shape (rank n) ≡ 1 → behind n ≡ mangled c ++ (95 ∷ 95 ∷ more) → Owns c n
  a_helper : shape (rank n) ≡ 2 → is_object c ≡ true → Owns c n

behind_function : (s : Namespace) (c : Name) (m : MethodName) → behind (function_name s c m) ≡ mangled c ++ (95 ∷ 95 ∷ mangled (spelled_method m))
behind_function Public c m = append_assoc (mangled c) (codes "__") (mangled (spelled_method m))
behind_function PublicStatic c m = append_assoc (mangled c) (codes "__") (mangled (spelled_method m))
behind_function Private c m = append_assoc (mangled c) (codes "__") (mangled (spelled_method m))
behind_function PrivateStatic c m = append_assoc (mangled c) (codes "__") (mangled (spelled_method m))
behind_function Constructor c m = append_assoc (mangled c) (codes "__") (mangled (spelled_method m))

pub behind_variable : (c f : Name) → behind (field_binding Variable c f) ≡ mangled c ++ (95 ∷ 95 ∷ mangled f)
behind_variable c f = append_assoc (mangled c) (codes "__") (mangled f)

pub behind_setter : (c f : Name) → behind (field_binding Setter c f) ≡ mangled c ++ (95 ∷ 95 ∷ mangled f)
behind_setter c f = append_assoc (mangled c) (codes "__") (mangled f)

pub owns_function : (s : Namespace) (c : Name) (m : MethodName) → Owns c (function_name s c m)
owns_function s c m = with_more (mangled (spelled_method m)) (ap shape (function_rank s c m)) (behind_function s c m)

pub owns_variable : (c f : Name) → Owns c (field_binding Variable c f)
owns_variable c f = with_more (mangled f) refl (behind_variable c f)

pub owns_setter : (c f : Name) → Owns c (field_binding Setter c f)
owns_setter c f = with_more (mangled f) refl (behind_setter c f)

pub owns_helper : (c : Name) (h : Helper) → is_object c ≡ true → Owns c (helper_name h)
owns_helper c h o = a_helper (ap shape (helper_rank h)) o

pub owns_dispatch : (c : Name) (m : MethodName) → is_object c ≡ true → Owns c (dispatch_name m)
owns_dispatch c m o = a_helper (ap shape (dispatch_rank m)) o

pub owns_reflective : (c : Name) (m : MethodName) → is_object c ≡ true → Owns c (reflective_name m)
owns_reflective c m o = a_helper (ap shape (reflective_rank m)) o

-- the same class is read with the same rest behind it
pub same_class : (c d more others : Name) → IsTrue (is_class_name c) → IsTrue (is_class_name d) → mangled c ++ (95 ∷ 95 ∷ more) ≡ mangled d ++ (95 ∷ 95 ∷ others) → (c ≡ d) × (more ≡ others)
same_class c d more others h k e = split_class false false c d more others h k e

-- a name has one owner
pub one_owner : (c d n : Name) → IsTrue (is_class_name c) → IsTrue (is_class_name d) → Owns c n → Owns d n → c ≡ d
one_owner c d n h k (alone s e) (alone t f) = mangled_texts_differ c d (sym e ∙ f)
one_owner c d n h k (alone s e) (with_more others t f) = let no : ◌≡◌ {A = ℕ} 0 1 = sym s ∙ t in absurd (omega (arith, no))
one_owner c d n h k (alone s e) (a_helper t f) = let no : ◌≡◌ {A = ℕ} 0 2 = sym s ∙ t in absurd (omega (arith, no))
one_owner c d n h k (with_more more s e) (alone t f) = let no : ◌≡◌ {A = ℕ} 1 0 = sym s ∙ t in absurd (omega (arith, no))
one_owner c d n h k (with_more more s e) (with_more others t f) = (same_class c d more others h k (sym e ∙ f)).0
one_owner c d n h k (with_more more s e) (a_helper t f) = let no : ◌≡◌ {A = ℕ} 1 2 = sym s ∙ t in absurd (omega (arith, no))
one_owner c d n h k (a_helper s e) (alone t f) = let no : ◌≡◌ {A = ℕ} 2 0 = sym s ∙ t in absurd (omega (arith, no))
one_owner c d n h k (a_helper s e) (with_more others t f) = let no : ◌≡◌ {A = ℕ} 2 1 = sym s ∙ t in absurd (omega (arith, no))
one_owner c d n h k (a_helper s e) (a_helper t f) = text-same c object e ∙ sym (text-same d object f)
