-- What is refused at a place.
use Rattle.std.proofs.Common.{◌≡◌, ℕ, List, ◌++◌, ◌≤◌, true, Option, Some, None, Result, Ok, Err, MatchOption, MatchResult, sym, subst}
use Rattle.std.specs.Prelude.{codes, decimal}
use Rattle.sj_names.specs.declared.entry_points.EntryPoint.{EntryPoint}
use Rattle.sj_world.specs.Known.{Classes, Name, is_same}
use Rattle.sj_world.specs.Refusals.{IsTwice, IsCyclic, IsSortedFrom, IsWorldOf, IsRefused, is_before}
use Rattle.sj_world.specs.declared.worlds.WorldError.{WorldError}
use Rattle.sj_world.specs.declared.worlds.WorldError.TheVariants.{DuplicateClass, Cycle}
use Rattle.sj_world.proofs.Counts.{Two, two_counted}
use Rattle.sj_world.proofs.Orders.{same_name, not_before_itself}
use Rattle.sj_world.proofs.Twice.{same_count}
use Rattle.sj_trees.specs.declared.classes.ClassDef.{ClassDef}
use Rattle.sj_reach.specs.declared.findings.Report.{Report}
use Rattle.sj_reach.specs.declared.errors.ReachError.{ReachError}
use Rattle.sj_reach.specs.declared.errors.ReachError.TheVariants.{Refused as ReachRefused}
use Rattle.sj_reach.specs.Answers.{IsRefused as IsReachRefused}
use Rattle.folder_judging_spec.specs.Verdicts.{Verdict, refused, ByNames, apart, twice, broken, kept, cyclic, ByReferences, unresolved}
use Rattle.folder_judging.specs.declared.errors.JudgeError.{JudgeError}
use Rattle.folder_judging.specs.declared.errors.JudgeError.TheVariants.{Refused, NoMemory}
use Rattle.folder_judging.specs.Judging.{IsKeptWorld}
use Rattle.folder_judging.specs.Refusals.{IsRefusal, IsAt}
use Rattle.folder_judging.specs.Rules.{IsLeastIn}

-- what refuses at this place refuses so
pub at_refusal : (By : Verdict → Type 0) (code : ℕ) (place : List ℕ) (e : JudgeError) → IsAt code place e → By (refused code place) → IsRefusal By e
at_refusal By code place (Refused c p) h by = subst By (sym h) by
at_refusal By code place NoMemory h by = tt

pub not_twice : (given w : Classes) → IsSortedFrom given w → (name : Name) → IsTwice given name → ⊥
not_twice given w s name t = both (two_counted (λ (c : ClassDef). is_same c.name name) w (subst (λ (n : ℕ). 2 ≤ n) (sym (same_count given w name s.same)) t))
  where
    both : Two (λ (c : ClassDef). is_same c.name name) w → ⊥
    both two = let r : is_before name name ≡ true = subst (λ (n : Name). is_before name n ≡ true) (same_name _ _ two.passes_too) (subst (λ (n : Name). is_before n two.other.name ≡ true) (same_name _ _ two.passes) (s.in_order.rises two.place two.later two.item two.other two.after two.at two.there)) in let f = not_before_itself name in cc

abbrev Named : Classes → Verdict → Type 0
Named classes v = (entries : List EntryPoint) → ByNames entries classes v

pub duplicate : (classes : Classes) (name : Name) (e : JudgeError) (w : WorldError) → w ≡ DuplicateClass name → IsRefused classes w → IsAt 11 name e → IsRefusal (Named classes) e
duplicate classes name e w is least at = at_refusal (Named classes) 11 name e at (λ entries. twice name (subst (IsRefused classes) is least))

-- a class that breaks a rule, where no name comes twice
ruled : (classes w : Classes) (r : Report) (e : JudgeError) → IsSortedFrom classes w → IsLeastIn classes (Some r) → IsAt 19 (r.place ++ codes " " ++ decimal r.code) e → IsRefusal (Named classes) e
ruled classes w r e sorted least at = at_refusal (Named classes) 19 (r.place ++ codes " " ++ decimal r.code) e at (λ entries. apart _ (not_twice classes w sorted) (broken r.place r.code least))

on_cycle : (classes : Classes) (found : Option Report) (name : Name) (e : JudgeError) → IsLeastIn classes found → IsCyclic classes name → MatchOption found (IsAt 17 name e) (λ r. IsAt 19 (r.place ++ codes " " ++ decimal r.code) e) → IsRefusal (Named classes) e
on_cycle classes None name e keep is at = at_refusal (Named classes) 17 name e at (λ entries. apart _ (not_twice classes is.w is.sorted) (kept _ keep (cyclic name is)))
on_cycle classes (Some r) name e least is at = ruled classes is.w r e is.sorted least at

pub told_on_cycle : (classes : Classes) (found : Option Report) (name : Name) (e : JudgeError) (w : WorldError) → w ≡ Cycle name → IsLeastIn classes found → IsRefused classes w → MatchOption found (IsAt 17 name e) (λ r. IsAt 19 (r.place ++ codes " " ++ decimal r.code) e) → IsRefusal (Named classes) e
told_on_cycle classes found name e w is least cyclic_too at = on_cycle classes found name e least (subst (IsRefused classes) is cyclic_too) at

pub in_world : (classes w : Classes) (found : Option Report) (result : Result Classes JudgeError) → IsLeastIn classes found → IsWorldOf classes w → MatchOption found (result ≡ Ok w) (λ r. MatchResult result (λ _. ⊥) (IsAt 19 (r.place ++ codes " " ++ decimal r.code))) → MatchResult result (IsKeptWorld classes) (IsRefusal (Named classes))
in_world classes w None result keep is same = subst (λ (r : Result Classes JudgeError). MatchResult r (IsKeptWorld classes) (IsRefusal (Named classes))) (sym same) (record { world = is; kept = keep })
in_world classes w (Some r) (Ok v) least is h = absurd h
in_world classes w (Some r) (Err e) least is h = ruled classes w r e is.sorted least h

pub unresolved_at : (w : Classes) (entries : List EntryPoint) (e : ReachError) (code : ℕ) (place : List ℕ) → e ≡ ReachRefused code place → IsReachRefused w entries e → ByReferences entries w (refused code place)
unresolved_at w entries e code place is h = unresolved (record { code = code; place = place }) (subst (IsReachRefused w entries) is h)
