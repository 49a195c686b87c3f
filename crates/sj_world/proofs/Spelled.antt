-- The order of spellings by their parts.
use Rattle.std.proofs.Common.{◌≡◌, ℕ, zero, suc, ◌<◌, List, [], ◌∷◌, ◌++◌, Some, slice_get, drop, replicate, refl, sym, ap, ◌∙◌, arith}
use Rattle.std.specs.declared.cmp.Ordering.{Ordering}
use Rattle.std.specs.Ordering.{nat_cmp, ordering_then}
use Rattle.std.specs.declared.cmp.Ordering.TheVariants.{Less, Greater}
use Rattle.std.specs.Cmp.{nat_cmp_total}
use Rattle.std.proofs.lemmas.Cmp.{tied_itself}
use Rattle.sj_world.specs.Spellings.{IsSpelled, parts_cmp}
use Rattle.sj_world.proofs.Orders.{compared}

-- what stands in front of both plays no part
pub same_front : (front a b : List ℕ) → compared (front ++ a) (front ++ b) ≡ compared a b
same_front [] a b = refl
same_front (x ∷ front) a b = ap (λ (o : Ordering). ordering_then o (compared (front ++ a) (front ++ b))) (tied_itself nat_cmp_total x) ∙ same_front front a b

less : (a b : ℕ) → a < b → nat_cmp a b ≡ Less
less a b lt = grind arith

greater : (a b : ℕ) → b < a → nat_cmp a b ≡ Greater
greater a b lt = grind arith

next : (a b : ℕ) → nat_cmp a b ≡ nat_cmp (suc a) (suc b)
next a b = grind arith

in_parts : (d e letter other : ℕ) (name another : List ℕ) → letter < 0x5b → other < 0x5b → compared (replicate d 0x5b ++ (letter ∷ name)) (replicate e 0x5b ++ (other ∷ another)) ≡ parts_cmp d letter name e other another
in_parts zero zero letter other name another low also = refl
in_parts zero (suc e) letter other name another low also = ap (λ (o : Ordering). ordering_then o (compared name (replicate e 0x5b ++ (other ∷ another)))) (less letter 0x5b low) ∙ sym (ap (λ (o : Ordering). ordering_then (ordering_then o (nat_cmp letter other)) (compared name another)) (less 0 (suc e) (omega arith)))
in_parts (suc d) zero letter other name another low also = ap (λ (o : Ordering). ordering_then o (compared (replicate d 0x5b ++ (letter ∷ name)) another)) (greater 0x5b other also) ∙ sym (ap (λ (o : Ordering). ordering_then (ordering_then o (nat_cmp letter other)) (compared name another)) (greater (suc d) 0 (omega arith)))
in_parts (suc d) (suc e) letter other name another low also = in_parts d e letter other name another low also ∙ ap (λ (o : Ordering). ordering_then (ordering_then o (nat_cmp letter other)) (compared name another)) (next d e)

pub spelled_parts : (d e letter other : ℕ) (name another one two : List ℕ) → IsSpelled d letter name one → IsSpelled e other another two → parts_cmp d letter name e other another ≡ compared one two
spelled_parts d e letter other name another one two s t = sym (in_parts d e letter other name another s.before_bracket t.before_bracket) ∙ ap (λ (x : List ℕ). compared x (replicate e 0x5b ++ (other ∷ another))) (sym s.text_is) ∙ ap (compared one) (sym t.text_is)

pub first_and_rest : (xs : List ℕ) (x : ℕ) → slice_get xs 0 ≡ Some x → xs ≡ x ∷ drop 1 xs
first_and_rest [] x at = cc
first_and_rest (y ∷ ys) x at = let e : y ≡ x = cc in ap (λ (z : ℕ). z ∷ ys) e
