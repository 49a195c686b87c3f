-- A text spells a base exactly where it is its spelling.
use Rattle.std.proofs.Common.{◌≡◌, ℕ, true, false, List, [], ◌∷◌, refl, sym, subst, ap, arith, Option, Some, None, if◌then◌else◌}
use Rattle.std.specs.Prelude.{◌==◌, ◌&&◌, nat_eq, codes}
use Rattle.std.specs.Cmp.Lexicographic.{pointwise, bytes_decides}
use Rattle.std.proofs.lemmas.Bool.{and_parts}
use Rattle.sj_names.specs.Grammar.{is_class_name}
use Rattle.sj_names.specs.Bases.{spelled_base, IsBase, class_of, base_of}
use Rattle.sj_names.specs.declared.references.BaseRef.{BaseRef}
use Rattle.sj_names.specs.declared.references.BaseRef.TheVariants.{Boolean, Char, Byte, Short, Int, Long, Class}

-- a base and the text that spells it
pub record IsSpelling (base : BaseRef) (text : List ℕ) : Type 0 where
  pub is_base : IsBase base
  pub is_text : spelled_base base ≡ text

-- a choice by a test of the text
choice : (text : List ℕ) (letter : List ℕ) (one base : BaseRef) (others : Option BaseRef) → (text ≡ letter → IsSpelling one text) → (others ≡ Some base → IsSpelling base text) →
    (if pointwise nat_eq text letter then Some one else others) ≡ Some base → IsSpelling base text
choice text letter one base others here there e =
    elim (pointwise nat_eq text letter) as (λ v. pointwise nat_eq text letter ≡ v → (if v then Some one else others) ≡ Some base → IsSpelling base text) [
      | true ↦ λ is h. let same : one ≡ base = cc in subst (λ b. IsSpelling b text) same (here ((bytes_decides text letter).0 is))
      | false ↦ λ is h. there h
    ] refl e

of_class : (text : List ℕ) (base : BaseRef) → class_of text ≡ Some base → IsSpelling base text
of_class [] base e = absurd (cc)
of_class (byte ∷ name) base e =
    elim (byte == 0x4c && is_class_name name) as (λ v. (byte == 0x4c && is_class_name name) ≡ v → (if v then Some (Class name) else None) ≡ Some base → IsSpelling base (byte ∷ name)) [
      | true ↦ λ is h.
          let same : Class name ≡ base = cc in
          let parts = and_parts (byte == 0x4c) (is_class_name name) is in
          let letter : 0x4c ≡ byte = grind arith in
          subst (λ b. IsSpelling b (byte ∷ name)) same (record { is_base = parts.1; is_text = ap (λ b. b ∷ name) letter })
      | false ↦ λ is h. absurd (cc)
    ] refl e

pub spelling-base_of : (text : List ℕ) (base : BaseRef) → base_of text ≡ Some base → IsSpelling base text
spelling-base_of text base e =
    choice text (codes "Z") Boolean base _ (λ is. record { is_base = tt; is_text = sym is })
    (choice text (codes "C") Char base _ (λ is. record { is_base = tt; is_text = sym is })
    (choice text (codes "B") Byte base _ (λ is. record { is_base = tt; is_text = sym is })
    (choice text (codes "S") Short base _ (λ is. record { is_base = tt; is_text = sym is })
    (choice text (codes "I") Int base _ (λ is. record { is_base = tt; is_text = sym is })
    (choice text (codes "J") Long base (class_of text) (λ is. record { is_base = tt; is_text = sym is })
    (of_class text base)))))) e

pub base_of-spelled_base : (base : BaseRef) → IsBase base → base_of (spelled_base base) ≡ Some base
base_of-spelled_base Boolean is = refl
base_of-spelled_base Char is = refl
base_of-spelled_base Byte is = refl
base_of-spelled_base Short is = refl
base_of-spelled_base Int is = refl
base_of-spelled_base Long is = refl
base_of-spelled_base (Class name) is = rw is
