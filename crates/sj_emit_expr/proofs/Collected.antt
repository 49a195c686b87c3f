-- Bindings collected in order, each once.
use Rattle.std.proofs.Common.{◌≡◌, ◌∙◌, ◌<◌, ◌+◌, ℕ, suc, Bool, true, false, ◌||◌, List, [], ◌∷◌, ◌++◌, refl, ap, sym, length, get_or, drop, add-one, append_assoc, if◌then◌else◌}
use Rattle.std.proofs.Math.Seq.{drop-cons}
use Rattle.std.proofs.lemmas.List.{append-nil}
use Rattle.std.specs.List.{list_any}
use Rattle.js_tree.specs.declared.items.Binding.{Binding}
use Rattle.sj_core.specs.Lookup.{Lookup}
use Rattle.sj_core.specs.Views.{case_view, cases_view}
use Rattle.sj_core.specs.declared.statements.CoreCase.{CoreCase}
use Rattle.sj_emit_expr_spec.specs.Uses.{is_same_binding, once_each, uses_of_all, uses_of_cases}
use Rattle.sj_emit_expr.specs.Collecting.{with_use, with_uses}

pub with_uses-append : (bs cs ds : List Binding) → with_uses bs (cs ++ ds) ≡ with_uses (with_uses bs cs) ds
with_uses-append bs [] ds = refl
with_uses-append bs (c ∷ cs) ds = with_uses-append (with_use bs c) cs ds

-- bindings behind those that were put behind others
pub more-uses : (b0 b1 xs ys us : List Binding) → b1 ≡ with_uses b0 xs → xs ++ ys ≡ us → with_uses b1 ys ≡ with_uses b0 us
more-uses b0 b1 xs ys us e h = ap (λ b. with_uses b ys) e ∙ sym (with_uses-append b0 xs ys) ∙ ap (with_uses b0) h

pub case-step : (known : Lookup) (cs : List CoreCase) (i : ℕ) (c : CoreCase) (b0 b1 : List Binding) → i < length cs → c ≡ get_or cs i c → b1 ≡ with_uses b0 (uses_of_all known (case_view c).1) → with_uses b1 (uses_of_cases known (cases_view (drop (i + 1) cs))) ≡ with_uses b0 (uses_of_cases known (cases_view (drop i cs)))
case-step known cs i c b0 b1 h e g =
    let here : uses_of_all known (case_view c).1 ++ uses_of_cases known (cases_view (drop (i + 1) cs)) ≡ uses_of_cases known (cases_view (drop i cs)) =
    ap (λ n. uses_of_all known (case_view c).1 ++ uses_of_cases known (cases_view (drop n cs))) (add-one i) ∙ ap (λ u. uses_of_all known (case_view u).1 ++ uses_of_cases known (cases_view (drop (suc i) cs))) e ∙ sym (ap (λ us. uses_of_cases known (cases_view us)) (drop-cons cs i c h)) in
    more-uses b0 b1 (uses_of_all known (case_view c).1) (uses_of_cases known (cases_view (drop (i + 1) cs))) (uses_of_cases known (cases_view (drop i cs))) g here

pub ruleset steps = (with_uses-append)

any-append : (f : Binding → Bool) (bs : List Binding) (b : Binding) → list_any f (bs ++ b ∷ []) ≡ (f b || list_any f bs)
any-append f [] b = refl
any-append f (x ∷ bs) b = ap (λ r. f x || r) (any-append f bs b) ∙ exchanged (f x) (f b) (list_any f bs)
  where
    exchanged : (p q r : Bool) → (p || (q || r)) ≡ (q || (p || r))
    exchanged true true r = refl
    exchanged true false r = refl
    exchanged false true r = refl
    exchanged false false r = refl

-- the same bindings are there, whatever their order
abbrev AreAlike : List Binding → List Binding → Type 0
AreAlike bs seen = (b : Binding) → list_any (is_same_binding b) bs ≡ list_any (is_same_binding b) seen

chosen : (bs seen : List Binding) (c : Binding) (cs : List Binding) (p q : Bool) → p ≡ q → with_uses bs cs ≡ bs ++ once_each seen cs → with_uses (bs ++ c ∷ []) cs ≡ bs ++ c ∷ once_each (c ∷ seen) cs → with_uses (if p then bs else (bs ++ c ∷ [])) cs ≡ bs ++ (if q then once_each seen cs else (c ∷ once_each (c ∷ seen) cs))
chosen bs seen c cs true true e there absent = there
chosen bs seen c cs false false e there absent = absent
chosen bs seen c cs true false e there absent = cc
chosen bs seen c cs false true e there absent = cc

one_more : (bs seen : List Binding) (c : Binding) → AreAlike bs seen → AreAlike (bs ++ c ∷ []) (c ∷ seen)
one_more bs seen c alike b = any-append (is_same_binding b) bs c ∙ ap (λ r. is_same_binding b c || r) (alike b)

collected : (bs seen cs : List Binding) → AreAlike bs seen → with_uses bs cs ≡ bs ++ once_each seen cs
collected bs seen [] alike = sym (append-nil bs)
collected bs seen (c ∷ cs) alike = chosen bs seen c cs (list_any (is_same_binding c) bs) (list_any (is_same_binding c) seen) (alike c) (collected bs seen cs alike) (collected (bs ++ c ∷ []) (c ∷ seen) cs (one_more bs seen c alike) ∙ append_assoc bs (c ∷ []) (once_each (c ∷ seen) cs))

pub collected-once : (cs : List Binding) → with_uses [] cs ≡ once_each [] cs
collected-once cs = collected [] [] cs (λ b. refl)

pub ruleset once = (collected-once)
