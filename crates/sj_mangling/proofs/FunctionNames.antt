-- The parts of a function's name are read back.
use Rattle.std.proofs.Common.{◌≡◌, ◌+◌, ℕ, Bool, true, false, List, [], ◌∷◌, ◌++◌, refl, sym, subst, cond, ap, ◌∙◌, drop, append_assoc, Option, Some, None, if◌then◌else◌}
use Rattle.std.specs.Prelude.{◌==◌, ◌&&◌, codes}
use Rattle.std.proofs.lemmas.Bool.{and_parts}
use Rattle.sj_names.specs.Grammar.{is_name_byte, is_dotted}
use Rattle.sj_names.specs.MethodNames.{spelled_method, method_name_of}
use Rattle.sj_names.specs.declared.method_names.MethodName.{MethodName}
use Rattle.sj_names.specs.declared.method_names.Namespace.{Namespace}
use Rattle.sj_names.specs.declared.method_names.Namespace.TheVariants.{Public, PublicStatic, Private, PrivateStatic, Constructor}
use Rattle.sj_names.proofs.ReadMethodNames.{reads_method_names}
use Rattle.sj_mangling.specs.Mangling.{mangled}
use Rattle.sj_mangling.specs.Bindings.{function_prefix, function_name, FunctionNamesDiffer}
use Rattle.sj_mangling.proofs.Injective.{unmangled, mangled-cons, same_reading, same_cons, mangled_texts_differ}

-- what a text behind a byte of a class name is, and behind a dot
dotted_tail : (begun : Bool) (b : ℕ) (bs : List ℕ) → is_dotted begun (b ∷ bs) ≡ true → (next : Bool) × (is_dotted next bs ≡ true)
dotted_tail begun b bs e =
    elim (b == 46) as (λ v. cond v (begun && is_dotted false bs) (is_name_byte b && is_dotted true bs) ≡ true → (next : Bool) × (is_dotted next bs ≡ true)) [
      | true ↦ λ h. (false, (and_parts begun (is_dotted false bs) h).1)
      | false ↦ λ h. (true, (and_parts (is_name_byte b) (is_dotted true bs) h).1)
    ] e

dot_tail : (begun : Bool) (b : ℕ) (bs : List ℕ) → 46 ≡ b → is_dotted begun (b ∷ bs) ≡ true → is_dotted false bs ≡ true
dot_tail begun b bs dot e =
    let plain : (begun && is_dotted false bs) ≡ true = subst (λ c. is_dotted begun (c ∷ bs) ≡ true) (sym dot) e in
    (and_parts begun (is_dotted false bs) plain).1

-- behind a dot of a class name stands no `_`
no_second : (bs rest front : List ℕ) → is_dotted false bs ≡ true → 95 ∷ front ≡ mangled bs ++ (95 ∷ 95 ∷ rest) → ⊥
unfolding unmangled
no_second [] rest front e same = cc
no_second (b ∷ bs) rest front e same =
    let read : ◌≡◌ {A = Option (ℕ × List ℕ)} (Some (46, front)) (Some (b, mangled bs ++ (95 ∷ 95 ∷ rest))) = ap unmangled same ∙ mangled-cons b bs (95 ∷ 95 ∷ rest) in
    let dot = (same_reading 46 b front (mangled bs ++ (95 ∷ 95 ∷ rest)) read).0 in
    let none : false ≡ true = subst (λ c. is_dotted false (c ∷ bs) ≡ true) (sym dot) e in
    cc

-- one name has ended, and the other goes on
ends_first : (begun : Bool) (b : ℕ) (bs rest front : List ℕ) → is_dotted begun (b ∷ bs) ≡ true → 95 ∷ 95 ∷ front ≡ mangled (b ∷ bs) ++ (95 ∷ 95 ∷ rest) → ⊥
unfolding unmangled
ends_first begun b bs rest front e same =
    let read : ◌≡◌ {A = Option (ℕ × List ℕ)} (Some (46, 95 ∷ front)) (Some (b, mangled bs ++ (95 ∷ 95 ∷ rest))) = ap unmangled same ∙ mangled-cons b bs (95 ∷ 95 ∷ rest) in
    let parts = same_reading 46 b (95 ∷ front) (mangled bs ++ (95 ∷ 95 ∷ rest)) read in
    no_second bs rest front (dot_tail begun b bs parts.0 e) parts.1

-- two names of classes with what stands behind them
pub split_class : (begun further : Bool) (one other rest behind : List ℕ) → is_dotted begun one ≡ true → is_dotted further other ≡ true →
    mangled one ++ (95 ∷ 95 ∷ rest) ≡ mangled other ++ (95 ∷ 95 ∷ behind) → (one ≡ other) × (rest ≡ behind)
split_class begun further [] [] rest behind e h same = (refl, ap (drop 2) same)
split_class begun further [] (y ∷ ys) rest behind e h same = absurd (ends_first further y ys behind rest h same)
split_class begun further (x ∷ xs) [] rest behind e h same = absurd (ends_first begun x xs rest behind e (sym same))
split_class begun further (x ∷ xs) (y ∷ ys) rest behind e h same =
    let one = mangled-cons x xs (95 ∷ 95 ∷ rest) in
    let other = mangled-cons y ys (95 ∷ 95 ∷ behind) in
    let read = same_reading x y (mangled xs ++ (95 ∷ 95 ∷ rest)) (mangled ys ++ (95 ∷ 95 ∷ behind)) (sym one ∙ ap unmangled same ∙ other) in
    let tail = dotted_tail begun x xs e in
    let tails = dotted_tail further y ys h in
    let known = split_class tail.0 tails.0 xs ys rest behind tail.1 tails.1 read.1 in
    (same_cons x y xs ys read.0 known.0, known.1)

-- the namespace of a function's name, and what stands behind its first `_`
namespace_of : List ℕ → Option (Namespace × List ℕ)
namespace_of [] = None
namespace_of (a ∷ []) = None
namespace_of (a ∷ b ∷ rest) =
    if a == 102 then Some (Public, rest) else
    if a == 115 then Some (PublicStatic, rest) else
    if a == 99 then Some (Constructor, drop 1 rest) else
    if b == 95 then Some (Private, rest) else
    Some (PrivateStatic, drop 1 rest)

namespace_of-function : (namespace : Namespace) (rest : List ℕ) → namespace_of (function_prefix namespace ++ codes "_" ++ rest) ≡ Some (namespace, rest)
unfolding namespace_of
namespace_of-function Public rest = refl
namespace_of-function PublicStatic rest = refl
namespace_of-function Private rest = refl
namespace_of-function PrivateStatic rest = refl
namespace_of-function Constructor rest = refl

same_namespace : (x y : Namespace) (xs ys : List ℕ) → ◌≡◌ {A = Option (Namespace × List ℕ)} (Some (x, xs)) (Some (y, ys)) → (x ≡ y) × (xs ≡ ys)
same_namespace x y xs ys e =
    let both : ◌≡◌ {A = Namespace × List ℕ} (x, xs) (y, ys) = cc in
    (ap (λ p. p.0) both, ap (λ p. p.1) both)

same_method : (one other : MethodName) → ◌≡◌ {A = Option MethodName} (Some one) (Some other) → one ≡ other
same_method one other e = cc

-- a function's name, its parts grouped from the right
grouped : (namespace : Namespace) (class : List ℕ) (method : MethodName) → function_name namespace class method ≡ function_prefix namespace ++ codes "_" ++ (mangled class ++ (95 ∷ 95 ∷ mangled (spelled_method method)))
grouped namespace class method =
    let front : List ℕ = function_prefix namespace ++ codes "_" in
    append_assoc (front ++ mangled class) (codes "__") (mangled (spelled_method method))
    ∙ append_assoc front (mangled class) (95 ∷ 95 ∷ mangled (spelled_method method))

pub function_names_differ : FunctionNamesDiffer
function_names_differ one other class another method further class_is another_is method_is further_is same =
    let rest : List ℕ = mangled class ++ (95 ∷ 95 ∷ mangled (spelled_method method)) in
    let behind : List ℕ = mangled another ++ (95 ∷ 95 ∷ mangled (spelled_method further)) in
    let named = same_namespace one other rest behind
    (sym (namespace_of-function one rest) ∙ ap namespace_of (sym (grouped one class method) ∙ same ∙ grouped other another further) ∙ namespace_of-function other behind) in
    let parts = split_class false false class another (mangled (spelled_method method)) (mangled (spelled_method further)) class_is another_is named.1 in
    let spelled = mangled_texts_differ (spelled_method method) (spelled_method further) parts.1 in (
      named.0,
      parts.0,
      same_method method further
          (sym ((reads_method_names (spelled_method method) method).1 (method_is, refl)) ∙ ap method_name_of spelled ∙ (reads_method_names (spelled_method further) further).1 (further_is, refl)),
    )
