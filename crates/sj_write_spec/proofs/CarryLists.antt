-- Lists and things that may be missing.
use Rattle.std.proofs.Common.{◌≡◌, ℕ, zero, suc, ◌<◌, ◌^◌, Bool, true, false, List, length, map, Option, Some, None, refl, sym, ap, ◌∙◌, subst, arith}
use Rattle.std.specs.Prelude.{option_map}
use Rattle.exact_place.specs.Grammar.{Spelling}
use Rattle.sj_read_spec.specs.Spelling.{IsBytes, IsEach, IsCounted}
use Rattle.sj_read_spec.specs.Tables.{Tables}
use Rattle.sj_read_spec.specs.Types.{IsMark, IsOptionOf, IsOption, mark_with}
use Rattle.sj_write_spec.specs.Fields.{Fields, plain_field, ◌▸◌, mark, count, each, list_fields, option_fields}
use Rattle.sj_write_spec.proofs.Bytes.{step}
use Rattle.sj_write_spec.proofs.Carry.{Carried, join, last, last_of, value, carried_number, carried_code}

pub carried_mark : {old : Tables} (b : Bool) → Carried old (λ new text. IsMark b text) (λ new. mark b) (mark b)
carried_mark false = carried_code mark_with 0 false (omega arith) refl
carried_mark true = carried_code mark_with 1 true (omega arith) refl

-- a value that is another
pub as_value : {A : Type 0} {old : Tables} (Goal : A → Tables → List ℕ → Type 0) (moved : A → Tables → Fields) (fields : A → Fields) (x y : A) → y ≡ x → Carried old (Goal x) (moved x) (fields x) → Carried old (Goal y) (moved y) (fields y)
as_value {old = old} Goal moved fields x y e one = subst (λ z. Carried old (Goal z) (moved z) (fields z)) (sym e) one

module _ {A : Type 0} (old : Tables) (P : Spelling A) (P' : Tables → Spelling A) (move : Tables → A → A) (fields' : Tables → A → Fields) (fields : A → Fields)
    (inner : (x : A) (text : List ℕ) → P x text → Carried old (λ new text. P' new (move new x) text) (λ new. fields' new (move new x)) (fields x)) where
  -- each of a list
  pub carried_each : (n : ℕ) (xs : List A) (text : List ℕ) → IsEach P n xs text
      → (length xs ≡ n) × Carried old (λ new text. IsEach (P' new) n (map (move new) xs) text) (λ new. each (fields' new) (map (move new) xs)) (each fields xs)
  unfolding IsEach
  carried_each zero xs text h =
      subst (λ (ys : List A). (length ys ≡ 0) × Carried old (λ new text. IsEach (P' new) zero (map (move new) ys) text) (λ new. each (fields' new) (map (move new) ys)) (each fields ys)) (sym h.same)
      (refl, value)
  carried_each (suc n) xs text h =
      step h (λ y front back p h. step h (λ ys front back q h.
      let rest = carried_each n ys front q in
      subst (λ (zs : List A). (length zs ≡ suc n) × Carried old (λ new text. IsEach (P' new) (suc n) (map (move new) zs) text) (λ new. each (fields' new) (map (move new) zs)) (each fields zs)) (sym h.same)
      (ap suc rest.0, join _ (inner y _ p) (last _ rest.1))))

  -- how many there are, and each
  pub carried_list : (xs : List A) (text : List ℕ) → IsCounted P xs text
      → Carried old (λ new text. IsCounted (P' new) (map (move new) xs) text) (λ new. count (length xs) ▸ each (fields' new) (map (move new) xs)) (list_fields fields xs)
  carried_list xs text h =
      step h (λ n front back p h.
      let all = carried_each n xs back h in
      let few : length xs < 256 ^ 4 = subst (λ (m : ℕ). m < 256 ^ 4) (sym all.0) p.small in
      join (λ new. length xs) (carried_number 4 (length xs) few) (subst (λ (m : ℕ). Carried old (λ new text. IsEach (P' new) m (map (move new) xs) text) (λ new. each (fields' new) (map (move new) xs)) (each fields xs)) (sym all.0) all.1))

  carried_option_of : (there : Bool) (o : Option A) (text : List ℕ) → IsOptionOf P there o text
      → Carried old (λ new text. IsOption (P' new) (option_map (move new) o) text) (λ new. option_fields (fields' new) (option_map (move new) o)) (option_fields fields o)
  carried_option_of true o text h =
      step h (λ x front back p h. as_value (λ o new text. IsOption (P' new) (option_map (move new) o) text) (λ o new. option_fields (fields' new) (option_map (move new) o)) (option_fields fields) (Some x) o h.same
      (join (λ new. true) (carried_mark true) (last _ (inner x _ p))))
  carried_option_of false o text h =
      as_value (λ o new text. IsOption (P' new) (option_map (move new) o) text) (λ o new. option_fields (fields' new) (option_map (move new) o)) (option_fields fields) None o h.same
      (last_of (λ new. false) (carried_mark false) (λ new. record { same = refl; empty = refl }))

  -- a thing that may be missing
  pub carried_option : (o : Option A) (text : List ℕ) → IsOption P o text
      → Carried old (λ new text. IsOption (P' new) (option_map (move new) o) text) (λ new. option_fields (fields' new) (option_map (move new) o)) (option_fields fields o)
  carried_option o text h = step h (λ there front back p h. carried_option_of there o back h)

-- so many bytes
pub carried_bytes : (old : Tables) (n : ℕ) (bytes text : List ℕ) → IsBytes n bytes text → Carried old (λ new text. IsBytes n bytes text) (λ new. plain_field bytes) (plain_field bytes)
carried_bytes old n bytes text h = record { inside = tt; same = λ new cover. refl; again = λ new fit cover. record { count = ap length h.same ∙ h.count; same = refl } }
