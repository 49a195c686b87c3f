-- Variables in a row that are kept, or given back.
use Rattle.std.proofs.Common.{◌≡◌, ◌∙◌, ◌<◌, ◌+◌, ℕ, suc, List, [], ◌∷◌, None, ap, sym, length, get_or, drop, map, add-one}
use Rattle.std.proofs.Math.Seq.{drop-cons}
use Rattle.sj_core.specs.Terms.{numbered, variable_use, constant_of, assign_to, Statements, no_statements, statement}
use Rattle.sj_core.specs.Views.{variable_view}
use Rattle.sj_core.specs.declared.expressions.CoreVariable.{CoreVariable}
use Rattle.sj_desugar_spec.specs.Finalizers.{keep_all, give_all_back}
use Rattle.sj_desugar_spec.specs.Spill.{Code, joined}
use Rattle.sj_desugar_forms.proofs.Lists.{followed-assoc}

from_item : (xs : List CoreVariable) (i : ℕ) (x : CoreVariable) → i < length xs → x ≡ get_or xs i x → drop i xs ≡ x ∷ drop (i + 1) xs
from_item xs i x h e = drop-cons xs i x h ∙ ap (λ y. y ∷ drop (suc i) xs) (sym e) ∙ ap (λ n. x ∷ drop n xs) (sym (add-one i))

pub keep-step : (xs : List CoreVariable) (i : ℕ) (x : CoreVariable) (w c v : Code) → i < length xs → x ≡ get_or xs i x → c ≡ keep_all (variable_view x ∷ []) w.next → v ≡ joined w c → joined v (keep_all (map variable_view (drop (i + 1) xs)) v.next) ≡ joined w (keep_all (map variable_view (drop i xs)) w.next)
keep-step xs i x w c v h e is joins =
    let rest : Code = keep_all (map variable_view (drop (i + 1) xs)) (suc w.next) in
    let first : Statements = statement (constant_of None (numbered w.next) (variable_use (variable_view x))) no_statements in
    ap (λ (u : Code). joined u (keep_all (map variable_view (drop (i + 1) xs)) u.next)) (joins ∙ ap (joined w) is) ∙ (λ k. record { statements = followed-assoc w.statements first rest.statements k; next = rest.next }) ∙ sym (ap (λ ys. joined w (keep_all (map variable_view ys) w.next)) (from_item xs i x h e))

pub give-step : (xs : List CoreVariable) (i : ℕ) (x : CoreVariable) (w c v : Code) (number next : ℕ) → i < length xs → x ≡ get_or xs i x → c ≡ give_all_back (variable_view x ∷ []) number next → v ≡ joined w c → joined v (give_all_back (map variable_view (drop (i + 1) xs)) (suc number) next) ≡ joined w (give_all_back (map variable_view (drop i xs)) number next)
give-step xs i x w c v number next h e is joins =
    let rest : Code = give_all_back (map variable_view (drop (i + 1) xs)) (suc number) next in
    let first : Statements = statement (assign_to None (variable_view x) (variable_use (numbered number))) no_statements in
    ap (λ (u : Code). joined u rest) (joins ∙ ap (joined w) is) ∙ (λ k. record { statements = followed-assoc w.statements first rest.statements k; next = rest.next }) ∙ sym (ap (λ ys. joined w (give_all_back (map variable_view ys) number next)) (from_item xs i x h e))
