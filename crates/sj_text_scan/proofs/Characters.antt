-- Reading the characters of a name one after the other, as a loop does.
use Rattle.std.proofs.Common.{◌≡◌, ℕ, suc, ◌+◌, ◌-◌, ◌<◌, ◌≤◌, Bool, true, false, cond, not, ◌&&◌, ◌||◌, eqb, leb, List, [], ◌∷◌, ◌++◌, length, Option, Some, None, Ok, Err, refl, sym, subst, ◌∙◌, arith, inl, inr, codes}
use Rattle.std.proofs.lemmas.Bool.{leb-true, lt-ltb}
use Rattle.std.specs.Char.{IsScalar, encode_utf8}
use Rattle.std.specs.Prelude.{is_some}
use Rattle.exact_place.specs.Reading.{Reading, ◌>>=◌, passes, found_at, one_at, literal_at, lead_at}
use Rattle.exact_place.proofs.Steps.{went, good_is}
use Rattle.exact_place.proofs.Words.{both}
use Rattle.sj_text_spec.specs.declared.words.Spot.{Spot}
use Rattle.sj_text_spec.specs.Names.{step, moved, is_open, is_simple, plain_of, escape_at, character_at, characters_at}
use Rattle.sj_text_spec.proofs.Escapes.{law_escape}
use Rattle.text_scan.specs.declared.stop.Stop.{Stop}
use Rattle.text_scan.specs.declared.stop.Stop.TheVariants as stops
use Rattle.text_scan.specs.Gives.{Fails}

-- ---- each character that is read is one

escape_scalar : (bytes : List ℕ) (c : ℕ) (rest : List ℕ) → escape_at bytes ≡ Ok (c, rest) → IsScalar c
escape_scalar bytes c rest e = ((law_escape {n = 0}).takes bytes c rest e).spelled.scalar

none_some : {A : Type 0} (x : A) → ◌≡◌ {A = Option A} None (Some x) → ⊥
none_some x e = cc e

some_is : (a b : ℕ) → ◌≡◌ {A = Option ℕ} (Some a) (Some b) → a ≡ b
some_is a b e = cc e

ok_is : (a b : ℕ) (r q : List ℕ) → ◌≡◌ {A = Reading ℕ} (Ok (a, r)) (Ok (b, q)) → a ≡ b
ok_is a b r q e = (good_is a b r q e).value

err_ok : {A : Type 0} (left : ℕ) (x : A) (rest : List ℕ) → ◌≡◌ {A = Reading A} (Err left) (Ok (x, rest)) → ⊥
err_ok left x rest e = cc e

plain_scalar : (s : Spot) (bytes : List ℕ) (c : ℕ) (rest : List ℕ) → one_at (plain_of s) bytes ≡ Ok (c, rest) → IsScalar c
plain_scalar s [] c rest e = absurd (err_ok 0 c rest e)
plain_scalar s (b ∷ bytes) c rest e = by (is_simple b && is_some (step s b)) refl e
  where
    by : (a : Bool) → (is_simple b && is_some (step s b)) ≡ a → found_at (cond a (Some b) None) (b ∷ bytes) bytes ≡ Ok (c, rest) → IsScalar c
    by false off e = absurd (err_ok _ c rest e)
    by true on e =
        let simple : is_simple b ≡ true = (both (is_simple b) (is_some (step s b)) on).0 in
        let range = both (leb 32 b) (leb b 126) (both (leb 32 b && leb b 126) (not (eqb b 34 || eqb b 92)) simple).0 in
        let low : b < 55296 = omega (arith, leb-true b 126 range.1) in
        let scalar : IsScalar b = rw (lt-ltb b 55296 low) refl in
        subst IsScalar (ok_is b c bytes rest e) scalar

escaped_scalar : (bytes : List ℕ) (c : ℕ) (rest : List ℕ) → lead_at (codes "\\") escape_at bytes ≡ Ok (c, rest) → IsScalar c
unfolding literal_at
escaped_scalar [] c rest e = absurd (err_ok 0 c rest e)
escaped_scalar (b ∷ bytes) c rest e = by (eqb b 92) refl e
  where
    front : Bool → Reading (Unit {0})
    front a = cond a (Ok (tt, bytes)) (Err (length (b ∷ bytes)))

    by : (a : Bool) → eqb b 92 ≡ a → (front a >>= λ x. escape_at x.1) ≡ Ok (c, rest) → IsScalar c
    by false off e = absurd (err_ok _ c rest e)
    by true on e = escape_scalar bytes c rest e

pub character_scalar : (s : Spot) (bytes : List ℕ) (c : ℕ) (rest : List ℕ) → character_at s bytes ≡ Ok (c, rest) → IsScalar c
unfolding character_at
character_scalar s bytes c rest e = elim (went (is_open s) _ _ _ e) [
  | inr k ↦ plain_scalar s bytes c rest k.1
  | inl k ↦ elim (went (passes (λ c. eqb c 92) bytes) _ _ _ k.1) [
    | inl l ↦ escaped_scalar bytes c rest l.1
    | inr l ↦ plain_scalar s bytes c rest l.1
  ]
]

-- ---- one character after the other

pub characters_goes : (front : List ℕ) (count i : ℕ) (s : Spot) (bytes : List ℕ) (c : ℕ) (after : List ℕ) (total : Reading (List ℕ)) → i < count → passes (λ c. eqb c 34) bytes ≡ false → character_at s bytes ≡ Ok (c, after)
    → characters_at (count - i) s front bytes ≡ total → characters_at (count - (i + 1)) (moved s c) (front ++ encode_utf8 c) after ≡ total
unfolding characters_at
characters_goes front count i s bytes c after total lt go is so_far =
    let k : count - i ≡ suc (count - (i + 1)) = omega arith in
    let one : characters_at (count - i) s front bytes ≡ characters_at (count - (i + 1)) (moved s c) (front ++ encode_utf8 c) after = rw (k, go, is) refl in
    sym one ∙ so_far

pub characters_fail : (e : Stop) (front : List ℕ) (count i : ℕ) (s : Spot) (bytes : List ℕ) (total : Reading (List ℕ)) → i < count → passes (λ c. eqb c 34) bytes ≡ false → Fails e (character_at s bytes)
    → characters_at (count - i) s front bytes ≡ total → Fails e total
unfolding characters_at
characters_fail stops.NoMemory front count i s bytes total lt go is so_far = tt
characters_fail (stops.Bad left) front count i s bytes total lt go is so_far =
    let k : count - i ≡ suc (count - (i + 1)) = omega arith in
    let one : characters_at (count - i) s front bytes ≡ Err left = rw (k, go, is) refl in
    sym so_far ∙ one

pub characters_stop : (front : List ℕ) (count i : ℕ) (s : Spot) (bytes : List ℕ) (total : Reading (List ℕ)) → i < count → passes (λ c. eqb c 34) bytes ≡ true
    → characters_at (count - i) s front bytes ≡ total → total ≡ Ok (front, bytes)
unfolding characters_at
characters_stop front count i s bytes total lt go so_far =
    let k : count - i ≡ suc (count - (i + 1)) = omega arith in
    let one : characters_at (count - i) s front bytes ≡ Ok (front, bytes) = rw (k, go) refl in
    sym so_far ∙ one

pub characters_out : (front : List ℕ) (count i : ℕ) (s : Spot) (bytes : List ℕ) (total : Reading (List ℕ)) → count ≤ i
    → characters_at (count - i) s front bytes ≡ total → total ≡ Err (length bytes)
unfolding characters_at
characters_out front count i s bytes total le so_far =
    let k : count - i ≡ 0 = omega arith in
    let one : characters_at (count - i) s front bytes ≡ Err (length bytes) = rw k refl in
    sym so_far ∙ one
