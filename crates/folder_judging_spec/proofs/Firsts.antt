-- The first, the least, and lists of one thing for each place are one.
use Rattle.std.proofs.Common.{◌≡◌, ℕ, zero, suc, ◌<◌, Bool, true, false, List, [], ◌∷◌, Some, slice_get, refl, sym, ap, ◌∙◌, length, arith, inl, inr}
use Rattle.std.specs.Prelude.{◌⊎◌, ◌||◌, ◌&&◌, nat_lt}
use Rattle.std.proofs.lemmas.Bool.{lt-ltb}
use Rattle.sj_world.specs.Known.{Name, is_same}
use Rattle.sj_world.specs.Paths.{IsFirst}
use Rattle.sj_world.specs.Refusals.{is_before}
use Rattle.sj_world.proofs.Orders.{same_name, differs_after}
use Rattle.sj_reach.specs.Answers.{comes_first}
use Rattle.sj_reach.specs.declared.findings.Report.{Report}

pub in_order : (i j : ℕ) → (i < j) ⊎ ((j < i) ⊎ (i ≡ j))
in_order i j = grind arith

same_some : {X : Type 0} (x y : X) → Some x ≡ Some y → x ≡ y
same_some x y e = cc

pub same_first : {X : Type 0} (Has : X → Type 0) (xs : List X) (x y : X) → IsFirst Has xs x → IsFirst Has xs y → x ≡ y
same_first Has xs x y p q = elim (in_order p.place q.place) [
  | inl l ↦ absurd (q.none_before p.place x l p.stands p.has)
  | inr (inl l) ↦ absurd (p.none_before q.place y l q.stands q.has)
  | inr (inr e) ↦ same_some x y (sym p.stands ∙ ap (slice_get xs) e ∙ q.stands)
]

-- what stands at a place of a list that is as long as another
pub record Standing {X : Type 0} (xs : List X) (i : ℕ) : Type 0 where
  pub item : X
  pub at : slice_get xs i ≡ Some item

pub standing : {X Y : Type 0} (xs : List X) (ys : List Y) (i : ℕ) (y : Y) → length xs ≡ length ys → slice_get ys i ≡ Some y → Standing xs i
standing [] [] i y e at = cc
standing [] (z ∷ ys) i y e at = absurd (omega (arith, e))
standing (x ∷ xs) [] i y e at = absurd (omega (arith, e))
standing (x ∷ xs) (z ∷ ys) zero y e at = record { item = x; at = refl }
standing (x ∷ xs) (z ∷ ys) (suc i) y e at = let s = standing xs ys i y (omega (arith, e)) at in record { item = s.item; at = s.at }

pub same_lists : {X : Type 0} (xs ys : List X) → length xs ≡ length ys → ((i : ℕ) (x y : X) → slice_get xs i ≡ Some x → slice_get ys i ≡ Some y → x ≡ y) → xs ≡ ys
same_lists [] [] e each = refl
same_lists [] (y ∷ ys) e each = absurd (omega (arith, e))
same_lists (x ∷ xs) [] e each = absurd (omega (arith, e))
same_lists (x ∷ xs) (y ∷ ys) e each = let first : x ≡ y = each 0 x y refl refl in let others : xs ≡ ys = same_lists xs ys (omega (arith, e)) (λ i a b p q. each (suc i) a b p q) in cc

neither : (b c : Bool) → (b || c) ≡ false → (b ≡ false) × (c ≡ false)
neither true c e = cc
neither false c e = (refl, e)

not_less : (a b : ℕ) → nat_lt a b ≡ false → a < b → ⊥
not_less a b e l = let wrong : true ≡ false = sym (lt-ltb a b l) ∙ e in cc

abbrev of_parts : ℕ → Name → Report
of_parts code place = record { code = code; place = place }

-- of two of which neither comes first, both are one
pub same_least : (a b : Report) → comes_first a b ≡ false → comes_first b a ≡ false → a ≡ b
same_least a b p q = by (is_same a.place b.place) refl (is_same b.place a.place) refl
  where
    after : is_before a.place b.place ≡ false
    after = (neither (is_before a.place b.place) (is_same a.place b.place && nat_lt a.code b.code) p).0

    before : is_before b.place a.place ≡ false
    before = (neither (is_before b.place a.place) (is_same b.place a.place && nat_lt b.code a.code) q).0

    lower : (s : Bool) → is_same a.place b.place ≡ s → s ≡ true → nat_lt a.code b.code ≡ false
    lower s e t = ap (λ c. c && nat_lt a.code b.code) (sym t ∙ sym e) ∙ (neither (is_before a.place b.place) (is_same a.place b.place && nat_lt a.code b.code) p).1

    higher : (s : Bool) → is_same b.place a.place ≡ s → s ≡ true → nat_lt b.code a.code ≡ false
    higher s e t = ap (λ c. c && nat_lt b.code a.code) (sym t ∙ sym e) ∙ (neither (is_before b.place a.place) (is_same b.place a.place && nat_lt b.code a.code) q).1

    differ : {A : Type 0} → is_same a.place b.place ≡ false → A
    differ e = let wrong : true ≡ false = sym (differs_after a.place b.place before e) ∙ after in cc

    differ_too : {A : Type 0} → is_same b.place a.place ≡ false → A
    differ_too e = let wrong : true ≡ false = sym (differs_after b.place a.place after e) ∙ before in cc

    by : (s : Bool) → is_same a.place b.place ≡ s → (t : Bool) → is_same b.place a.place ≡ t → a ≡ b
    by false e t f = differ e
    by true e false f = differ_too f
    by true e true f =
        let place : a.place ≡ b.place = same_name a.place b.place e in
        let low = not_less a.code b.code (lower true e refl) in
        let high = not_less b.code a.code (higher true f refl) in
        let code : a.code ≡ b.code = elim (in_order a.code b.code) [ inl l ↦ absurd (low l) | inr (inl l) ↦ absurd (high l) | inr (inr s) ↦ s ] in
        ap (λ n. of_parts a.code n) place ∙ ap (λ n. of_parts n b.place) code
