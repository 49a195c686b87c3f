-- Small folders with their verdicts, worked out.
use Rattle.std.proofs.Common.{◌≡◌, ℕ, ◌+◌, ◌≤◌, Bool, true, false, [], ◌∷◌, Some, None, Option, refl, sym, ap, ◌∙◌, subst, arith, lit<, codes, cond, drop}
use Rattle.sj_trees.specs.declared.classes.ClassDef.{ClassDef}
use Rattle.sj_local.specs.declared.rules.Where.{Where}
use Rattle.sj_local.specs.declared.rules.Rule.TheVariants as rules
use Rattle.sj_local.specs.Broken.{FirstBroken, no_member, all_rules}
use Rattle.sj_local.specs.Firsts.{this_one}
use Rattle.sj_local.proofs.Once.{checks_once}
use Rattle.sj_world.specs.Known.{Name, is_same}
use Rattle.sj_world.specs.Refusals.{is_before, IsTwice}
use Rattle.sj_world.proofs.Orders.{same_name, not_before_itself}
use Rattle.worklist.proofs.Inserted.{only_one}
use Rattle.sj_reach.specs.Answers.{comes_first}
use Rattle.folder_judging_spec.specs.Rows.{rootless, WorkedVerdicts}
use Rattle.folder_judging_spec.specs.Stages.{rule_at, IsBroken}
use Rattle.folder_judging_spec.specs.Verdicts.{apart, twice, broken}

-- how often the name comes where one class has it, or two, or none
twice_at : (b : Bool) → 2 ≤ 0 + cond b 1 0 → ⊥
twice_at true h = omega arith
twice_at false h = omega arith

not_twice : (name : Name) → IsTwice (rootless ∷ []) name → ⊥
not_twice name h = twice_at (is_same (codes "A") name) h

abbrev found : ℕ → Where → Option (ℕ × Where)
found rule place = Some (rule, place)

first_rule : FirstBroken rootless (found 1 no_member)
first_rule = this_one 1 rules.Superclass (drop 1 all_rules) no_member refl

abbrev rule_in : Option (ℕ × Where) → ℕ
rule_in None = 0
rule_in (Some answer) = answer.0

same_rule : (rule : ℕ) (place : Where) → found rule place ≡ found 1 no_member → rule ≡ 1
same_rule rule place e = ap rule_in e

least_rule : (other : Name) (rule : ℕ) → IsBroken (rootless ∷ []) other rule → comes_first (rule_at rule other) (rule_at 1 (codes "A")) ≡ false
least_rule other rule h =
    let same : rootless ≡ h.class = only_one rootless h.class h.among in
    let name : codes "A" ≡ other = ap (λ (c : ClassDef). c.name) same ∙ h.name_is in
    let first : FirstBroken rootless (found rule h.place) = subst (λ (c : ClassDef). FirstBroken c (found rule h.place)) (sym same) h.first in
    let one : rule ≡ 1 = same_rule rule h.place (checks_once rootless (found rule h.place) (found 1 no_member) first first_rule) in
    subst (λ (n : Name). comes_first (rule_at rule n) (rule_at 1 (codes "A")) ≡ false) name (subst (λ (r : ℕ). comes_first (rule_at r (codes "A")) (rule_at 1 (codes "A")) ≡ false) (sym one) refl)

not_none : 2 ≤ 0 + 0 + 0 → ⊥
not_none h = omega arith

least_name : (other : Name) → IsTwice (rootless ∷ rootless ∷ []) other → is_before other (codes "A") ≡ false
least_name other h = go (is_same (codes "A") other) refl h
  where
    go : (b : Bool) → is_same (codes "A") other ≡ b → 2 ≤ 0 + cond b 1 0 + cond b 1 0 → is_before other (codes "A") ≡ false
    go true e l = subst (λ (n : Name). is_before n (codes "A") ≡ false) (same_name (codes "A") other e) (not_before_itself (codes "A"))
    go false e l = absurd (not_none l)

pub worked : WorkedVerdicts
worked entries = (
  apart _ not_twice (broken (codes "A") 1 (record { broken = record { class = rootless; among = (0, lit< tt, refl); name_is = refl; place = no_member; first = first_rule }; least = least_rule })),
  twice (codes "A") (record { twice = omega arith; least = least_name }),
)
