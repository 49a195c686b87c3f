-- Variables that are kept once, one more at a time.
use Rattle.std.proofs.Common.{◌≡◌, ◌∙◌, ◌<◌, ◌≤◌, ◌+◌, ℕ, suc, Bool, true, false, ◌||◌, List, [], ◌∷◌, ◌++◌, refl, ap, sym, length, get_or, drop, map, add-one, append_assoc, if◌then◌else◌}
use Rattle.std.proofs.Math.Seq.{drop-cons}
use Rattle.std.proofs.lemmas.List.{append-nil, drop_all}
use Rattle.std.proofs.lemmas.List.Folds.{list_any-append}
use Rattle.std.specs.List.{list_any, flat_map}
use Rattle.sj_core.specs.Terms.{Variable}
use Rattle.sj_desugar_spec.specs.Finalizers.{is_same_variable, variables_in, each_once}
use Rattle.sj_desugar_spec.specs.Spill.{Destination, discard, to_variable, to_result}

-- it is the variables alone that are there already, and not their order
each-alike : (ks ls : List Variable) → ((x : Variable) → list_any (is_same_variable x) ks ≡ list_any (is_same_variable x) ls) → (xs : List Variable) → each_once ks xs ≡ each_once ls xs
each-alike ks ls h [] = refl
each-alike ks ls h (x ∷ xs) = λ i. if h x i then each-alike ks ls h xs i else (x ∷ each-alike (x ∷ ks) (x ∷ ls) (λ y. ap (λ b. is_same_variable y x || b) (h y)) xs i)

turned : (a b : Bool) → (a || (b || false)) ≡ (b || a)
turned true true = refl
turned true false = refl
turned false true = refl
turned false false = refl

last-first : (ks : List Variable) (x y : Variable) → list_any (is_same_variable y) (ks ++ x ∷ []) ≡ list_any (is_same_variable y) (x ∷ ks)
last-first ks x y = list_any-append (is_same_variable y) ks (x ∷ []) ∙ turned (list_any (is_same_variable y) ks) (is_same_variable y x)

one-more : (ks : List Variable) (x : Variable) (xs : List Variable) → (ks ++ each_once ks (x ∷ [])) ++ each_once (ks ++ each_once ks (x ∷ [])) xs ≡ ks ++ each_once ks (x ∷ xs)
one-more ks x xs = go (list_any (is_same_variable x) ks)
  where
    go : (b : Bool) → (ks ++ (if b then [] else (x ∷ []))) ++ each_once (ks ++ (if b then [] else (x ∷ []))) xs ≡ ks ++ (if b then each_once ks xs else (x ∷ each_once (x ∷ ks) xs))
    go true = ap (λ us. us ++ each_once us xs) (append-nil ks)
    go false = append_assoc ks (x ∷ []) (each_once (ks ++ x ∷ []) xs) ∙ ap (λ us. ks ++ x ∷ us) (each-alike (ks ++ x ∷ []) (x ∷ ks) (last-first ks x) xs)

-- a destination more
destination-more : (ks : List Variable) (d : Destination) (xs : List Variable) → (ks ++ each_once ks (variables_in d)) ++ each_once (ks ++ each_once ks (variables_in d)) xs ≡ ks ++ each_once ks (variables_in d ++ xs)
destination-more ks (to_variable x t) xs = one-more ks x xs
destination-more ks discard xs = ap (λ us. us ++ each_once us xs) (append-nil ks)
destination-more ks (to_result t) xs = ap (λ us. us ++ each_once us xs) (append-nil ks)

-- a label more, where the variables kept behind it are these
pub label-more : {T : Type 0} (ts : List T) (name : T → List ℕ) (goes_to : List ℕ → Destination) (n : ℕ) (t : T) (ks ls : List Variable) (d : Destination) → n < length ts → t ≡ get_or ts n t → d ≡ goes_to (name t) → ls ≡ ks ++ each_once ks (variables_in d) → ls ++ each_once ls (flat_map (λ l. variables_in (goes_to l)) (map name (drop (n + 1) ts))) ≡ ks ++ each_once ks (flat_map (λ l. variables_in (goes_to l)) (map name (drop n ts)))
label-more ts name goes_to n t ks ls d h e there more =
    let rest = flat_map (λ l. variables_in (goes_to l)) (map name (drop (n + 1) ts)) in
    let from : drop n ts ≡ t ∷ drop (n + 1) ts = drop-cons ts n t h ∙ ap (λ y. y ∷ drop (suc n) ts) (sym e) ∙ ap (λ n. t ∷ drop n ts) (sym (add-one n)) in
    ap (λ us. us ++ each_once us rest) more ∙ destination-more ks d rest ∙ ap (λ (d : Destination). ks ++ each_once ks (variables_in d ++ rest)) there ∙ sym (ap (λ us. ks ++ each_once ks (flat_map (λ l. variables_in (goes_to l)) (map name us))) from)

-- behind the last label
pub label-end : {T : Type 0} (ts : List T) (name : T → List ℕ) (goes_to : List ℕ → Destination) (n : ℕ) (ks : List Variable) → length ts ≤ n → ks ≡ ks ++ each_once ks (flat_map (λ l. variables_in (goes_to l)) (map name (drop n ts)))
label-end ts name goes_to n ks h = sym (append-nil ks) ∙ sym (ap (λ us. ks ++ each_once ks (flat_map (λ l. variables_in (goes_to l)) (map name us))) (drop_all n ts h))
