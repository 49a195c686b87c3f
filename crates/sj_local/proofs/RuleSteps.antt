-- The first rule of the list that is broken.
use Rattle.std.proofs.Common.{◌≡◌, ℕ, zero, suc, ◌+◌, ◌≤◌, ◌<◌, List, ◌∷◌, drop, get_or, Option, Some, None, refl, sym, ap, ◌∙◌, subst, arith}
use Rattle.std.proofs.Math.Seq.{drop-cons}
use Rattle.std.proofs.lemmas.List.{drop_all}
use Rattle.sj_trees.specs.declared.classes.ClassDef.{ClassDef}
use Rattle.sj_local.specs.declared.rules.Rule.{Rule}
use Rattle.sj_local.specs.declared.rules.Where.{Where}
use Rattle.sj_local.specs.Firsts.{FirstAnswer, none_left, this_one, a_later_one}
use Rattle.sj_local.specs.Broken.{Breaks, FirstBroken, all_rules, number}

-- what the rules behind say of all
abbrev pub Leads : ClassDef → ℕ → Type 0
Leads c i = (found : Option (ℕ × Where)) → FirstAnswer (Breaks c) (1 + i) (drop i all_rules) found → FirstAnswer (Breaks c) 1 all_rules found

numbered : (i : ℕ) (d : Rule) → i < 17 → number (get_or all_rules i d) ≡ 1 + i
numbered zero d h = refl
numbered (suc zero) d h = refl
numbered (suc (suc zero)) d h = refl
numbered (suc (suc (suc zero))) d h = refl
numbered (suc (suc (suc (suc zero)))) d h = refl
numbered (suc (suc (suc (suc (suc zero))))) d h = refl
numbered (suc (suc (suc (suc (suc (suc zero)))))) d h = refl
numbered (suc (suc (suc (suc (suc (suc (suc zero))))))) d h = refl
numbered (suc (suc (suc (suc (suc (suc (suc (suc zero)))))))) d h = refl
numbered (suc (suc (suc (suc (suc (suc (suc (suc (suc zero))))))))) d h = refl
numbered (suc (suc (suc (suc (suc (suc (suc (suc (suc (suc zero)))))))))) d h = refl
numbered (suc (suc (suc (suc (suc (suc (suc (suc (suc (suc (suc zero))))))))))) d h = refl
numbered (suc (suc (suc (suc (suc (suc (suc (suc (suc (suc (suc (suc zero)))))))))))) d h = refl
numbered (suc (suc (suc (suc (suc (suc (suc (suc (suc (suc (suc (suc (suc zero))))))))))))) d h = refl
numbered (suc (suc (suc (suc (suc (suc (suc (suc (suc (suc (suc (suc (suc (suc zero)))))))))))))) d h = refl
numbered (suc (suc (suc (suc (suc (suc (suc (suc (suc (suc (suc (suc (suc (suc (suc zero))))))))))))))) d h = refl
numbered (suc (suc (suc (suc (suc (suc (suc (suc (suc (suc (suc (suc (suc (suc (suc (suc zero)))))))))))))))) d h = refl
numbered (suc (suc (suc (suc (suc (suc (suc (suc (suc (suc (suc (suc (suc (suc (suc (suc (suc i))))))))))))))))) d h = absurd (omega arith)

rest_is : (i : ℕ) (rule d : Rule) → i < 17 → rule ≡ get_or all_rules i d → drop i all_rules ≡ rule ∷ drop (suc i) all_rules
rest_is i rule d within at = drop-cons all_rules i d within ∙ ap (λ (r : Rule). r ∷ drop (suc i) all_rules) (sym at)

pub rule_hit : (c : ClassDef) (i : ℕ) (rule d : Rule) (place : Where) → Leads c i → i < 17 → rule ≡ get_or all_rules i d → Breaks c rule (Some place) → FirstBroken c (Some (number rule, place))
rule_hit c i rule d place leads within at breaks =
    let n : 1 + i ≡ number rule = sym (numbered i d within) ∙ ap number (sym at) in
    subst (λ (k : ℕ). FirstBroken c (Some (k, place))) n (leads (Some (1 + i, place)) (subst (λ (rs : List Rule). FirstAnswer (Breaks c) (1 + i) rs (Some (1 + i, place))) (sym (rest_is i rule d within at)) (this_one (1 + i) rule (drop (suc i) all_rules) place breaks)))

pub rule_miss : (c : ClassDef) (i : ℕ) (rule d : Rule) → Leads c i → i < 17 → rule ≡ get_or all_rules i d → Breaks c rule None → Leads c (i + 1)
rule_miss c i rule d leads within at kept found h =
    let index : i + 1 ≡ suc i = omega arith in
    let next : 1 + (i + 1) ≡ suc (1 + i) = omega arith in
    let later : FirstAnswer (Breaks c) (suc (1 + i)) (drop (suc i) all_rules) found = subst (λ (k : ℕ). FirstAnswer (Breaks c) (suc (1 + i)) (drop k all_rules) found) index (subst (λ (k : ℕ). FirstAnswer (Breaks c) k (drop (i + 1) all_rules) found) next h) in
    leads found (subst (λ (rs : List Rule). FirstAnswer (Breaks c) (1 + i) rs found) (sym (rest_is i rule d within at)) (a_later_one (1 + i) rule (drop (suc i) all_rules) found kept later))

pub rule_end : (c : ClassDef) (i : ℕ) → Leads c i → 17 ≤ i → FirstBroken c None
rule_end c i leads past = leads None (subst (λ (rs : List Rule). FirstAnswer (Breaks c) (1 + i) rs None) (sym (drop_all i all_rules past)) (none_left (1 + i)))
