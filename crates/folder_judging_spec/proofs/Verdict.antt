-- No folder has two verdicts.
use Rattle.std.proofs.Common.{◌≡◌, ℕ, false, List, ◌++◌, Some, None, slice_get, refl, sym, ap, ◌∙◌, subst, inl, inr, codes}
use Rattle.std.specs.Prelude.{decimal}
use Rattle.folder_sizes.specs.Sizes.{IsFirstTooLarge}
use Rattle.sj_names.specs.declared.entry_points.EntryPoint.{EntryPoint}
use Rattle.sj_names.specs.declared.folders.SourceFile.{SourceFile}
use Rattle.sj_trees.specs.Refusals.{number_of}
use Rattle.sj_read_spec.specs.Files.{Fails}
use Rattle.sj_read_spec.proofs.ExactFiles.{one_answer}
use Rattle.sj_local.specs.declared.rules.Where.{Where}
use Rattle.sj_local.proofs.Once.{checks_once}
use Rattle.sj_world.specs.Known.{Name, Classes}
use Rattle.sj_world.specs.Paths.{IsFirst}
use Rattle.sj_world.specs.Refusals.{IsLeastTwice, IsCyclic, IsWorldOf}
use Rattle.sj_world.specs.declared.worlds.WorldError.TheVariants.{DuplicateClass, Cycle, NoMemory}
use Rattle.sj_world.proofs.OneWorld.{one_world, one_refusal, world_or_refusal}
use Rattle.sj_reach.specs.Answers.{comes_first, IsLeastTold}
use Rattle.sj_reach.specs.declared.findings.Report.{Report}
use Rattle.sj_typing_verdicts.proofs.OneVerdict.{has_one_verdict}
use Rattle.folder_judging_spec.specs.Laws.{VerdictIsOne}
use Rattle.folder_judging_spec.specs.Stages.{HasFault, AreRead, rule_at, IsLeastBroken, KeepRules, IsLeastUntyped, AreTyped}
use Rattle.folder_judging_spec.specs.Verdicts.{Verdict, refused, ByTypes, untyped, typed, ByReferences, unresolved, resolved, ByCycles, cyclic, acyclic, ByLocalRules, broken, kept, ByNames, twice, apart, ByFiles, faulty, read, IsVerdict, too_large, small}
use Rattle.folder_judging_spec.proofs.Firsts.{in_order, same_first, standing, same_lists, same_least}

module _ (entries : List EntryPoint) where
  same_untyped : (w : Classes) (spelled other : List ℕ) (rule another : ℕ) → IsLeastUntyped w entries spelled rule → IsLeastUntyped w entries other another → rule_at rule spelled ≡ rule_at another other
  same_untyped w spelled other rule another h k = same_least (rule_at rule spelled) (rule_at another other) (k.least spelled rule h.untyped) (h.least other another k.untyped)

  abbrev at_rule : ℕ → Report → Verdict
  at_rule code r = refused code (r.place ++ codes " " ++ decimal r.code)

  not_typed : (w : Classes) (spelled : List ℕ) (rule : ℕ) → IsLeastUntyped w entries spelled rule → AreTyped w entries → ⊥
  not_typed w spelled rule h all = (has_one_verdict w h.untyped.definition).not_both rule h.untyped.place (all h.untyped.member h.untyped.definition h.untyped.needed h.untyped.defined) h.untyped.untyped

  by_types : (w : Classes) (v u : Verdict) → ByTypes entries w v → ByTypes entries w u → v ≡ u
  by_types w _ _ (untyped spelled rule h) (untyped other another k) = ap (at_rule 20) (same_untyped w spelled other rule another h k)
  by_types w _ _ (untyped spelled rule h) (typed all) = absurd (not_typed w spelled rule h all)
  by_types w _ _ (typed all) (untyped spelled rule h) = absurd (not_typed w spelled rule h all)
  by_types w _ _ (typed all) (typed too) = refl

  same_told : (w : Classes) (told other : Report) → IsLeastTold w entries told → IsLeastTold w entries other → told ≡ other
  same_told w told other h k = same_least told other (subst (λ (r : Report). comes_first r other ≡ false) (sym h.told_is) (k.least h.refusal h.unresolved)) (subst (λ (r : Report). comes_first r told ≡ false) (sym k.told_is) (h.least k.refusal k.unresolved))

  abbrev at_report : Report → Verdict
  at_report r = refused r.code r.place

  by_references : (w : Classes) (v u : Verdict) → ByReferences entries w v → ByReferences entries w u → v ≡ u
  by_references w _ _ (unresolved told h) (unresolved other k) = ap at_report (same_told w told other h k)
  by_references w _ _ (unresolved told h) (resolved u none rest) = absurd (none h.refusal h.unresolved)
  by_references w _ _ (resolved v none rest) (unresolved told h) = absurd (none h.refusal h.unresolved)
  by_references w _ _ (resolved v none rest) (resolved u none_too too) = by_types w v u rest too

  not_for_memory : (name : Name) → Cycle name ≡ NoMemory → ⊥
  not_for_memory name e = cc

  no_world : (classes w : Classes) (name : Name) → IsCyclic classes name → IsWorldOf classes w → ⊥
  no_world classes w name h is = not_for_memory name (world_or_refusal classes w (Cycle name) is h)

  same_cycle : (classes : Classes) (name other : Name) → IsCyclic classes name → IsCyclic classes other → name ≡ other
  same_cycle classes name other h k = let e : Cycle name ≡ Cycle other = one_refusal classes (Cycle name) (Cycle other) h k (not_for_memory name) (not_for_memory other) in cc

  by_cycles : (classes : Classes) (v u : Verdict) → ByCycles entries classes v → ByCycles entries classes u → v ≡ u
  by_cycles classes _ _ (cyclic name h) (cyclic other k) = ap (refused 17) (same_cycle classes name other h k)
  by_cycles classes _ _ (cyclic name h) (acyclic w u is rest) = absurd (no_world classes w name h is)
  by_cycles classes _ _ (acyclic w v is rest) (cyclic name h) = absurd (no_world classes w name h is)
  by_cycles classes _ _ (acyclic w v is rest) (acyclic x u is_too too) = by_references w v u rest (subst (λ (z : Classes). ByReferences entries z u) (one_world classes x w is_too is) too)

  same_broken : (classes : Classes) (name other : Name) (rule another : ℕ) → IsLeastBroken classes name rule → IsLeastBroken classes other another → rule_at rule name ≡ rule_at another other
  same_broken classes name other rule another h k = same_least (rule_at rule name) (rule_at another other) (k.least name rule h.broken) (h.least other another k.broken)

  no_rule : (o : ℕ × Where) → None ≡ Some o → ⊥
  no_rule o e = cc

  not_kept : (classes : Classes) (name : Name) (rule : ℕ) → IsLeastBroken classes name rule → KeepRules classes → ⊥
  not_kept classes name rule h all = no_rule (rule, h.broken.place) (checks_once h.broken.class None (Some (rule, h.broken.place)) (all h.broken.class h.broken.among) h.broken.first)

  by_local_rules : (classes : Classes) (v u : Verdict) → ByLocalRules entries classes v → ByLocalRules entries classes u → v ≡ u
  by_local_rules classes _ _ (broken name rule h) (broken other another k) = ap (at_rule 19) (same_broken classes name other rule another h k)
  by_local_rules classes _ _ (broken name rule h) (kept u all rest) = absurd (not_kept classes name rule h all)
  by_local_rules classes _ _ (kept v all rest) (broken name rule h) = absurd (not_kept classes name rule h all)
  by_local_rules classes _ _ (kept v all rest) (kept u all_too too) = by_cycles classes v u rest too

  no_memory_twice : (name : Name) → DuplicateClass name ≡ NoMemory → ⊥
  no_memory_twice name e = cc

  same_twice : (classes : Classes) (name other : Name) → IsLeastTwice classes name → IsLeastTwice classes other → name ≡ other
  same_twice classes name other h k = let e : DuplicateClass name ≡ DuplicateClass other = one_refusal classes (DuplicateClass name) (DuplicateClass other) h k (no_memory_twice name) (no_memory_twice other) in cc

  by_names : (classes : Classes) (v u : Verdict) → ByNames entries classes v → ByNames entries classes u → v ≡ u
  by_names classes _ _ (twice name h) (twice other k) = ap (refused 11) (same_twice classes name other h k)
  by_names classes _ _ (twice name h) (apart u none rest) = absurd (none name h.twice)
  by_names classes _ _ (apart v none rest) (twice name h) = absurd (none name h.twice)
  by_names classes _ _ (apart v none rest) (apart u none_too too) = by_local_rules classes v u rest too

  abbrev at_fault : ℕ → List ℕ → ℕ → Verdict
  at_fault code path place = refused code (path ++ codes ":" ++ decimal place)

  same_fault : (file other : SourceFile) (fault : HasFault file) (another : HasFault other) → file ≡ other → at_fault (number_of fault.code) file.path fault.place ≡ at_fault (number_of another.code) other.path another.place
  same_fault file other fault another e =
      let fails : Fails file.bytes another.code another.place = subst (λ (f : SourceFile). Fails f.bytes another.code another.place) (sym e) another.fails in
      let one = (one_answer file.bytes).one_failure fault.code another.code fault.place another.place fault.fails fails in
      ap (λ c. at_fault (number_of c) file.path fault.place) one.0 ∙ ap (λ p. at_fault (number_of another.code) file.path p) one.1 ∙ ap (λ (f : SourceFile). at_fault (number_of another.code) f.path another.place) e

  not_read : (files : List SourceFile) (file : SourceFile) (classes : Classes) → IsFirst HasFault files file → AreRead files classes → ⊥
  not_read files file classes h are =
      let s = standing classes files h.place file are.whole h.stands in
      (one_answer file.bytes).not_both s.item h.has.code h.has.place (are.each h.place file s.item h.stands s.at) h.has.fails

  same_classes : (files : List SourceFile) (classes others : Classes) → AreRead files classes → AreRead files others → classes ≡ others
  same_classes files classes others are too = same_lists classes others (are.whole ∙ sym too.whole) (λ i class other at at_too. (let s = standing files classes i class (sym are.whole) at in (one_answer s.item.bytes).one_class class other (are.each i s.item class s.at at) (too.each i s.item other s.at at_too)))

  by_files : (files : List SourceFile) (v u : Verdict) → ByFiles entries files v → ByFiles entries files u → v ≡ u
  by_files files _ _ (faulty file fault h) (faulty other another k) = same_fault file other fault another (same_first HasFault files file other h k)
  by_files files _ _ (faulty file fault h) (read classes u are rest) = absurd (not_read files file classes h are)
  by_files files _ _ (read classes v are rest) (faulty file fault h) = absurd (not_read files file classes h are)
  by_files files _ _ (read classes v are rest) (read others u too more) = by_names classes v u rest (subst (λ (c : Classes). ByNames entries c u) (same_classes files others classes too are) more)

  same_place : (sizes : List ℕ) (p q : ℕ) → IsFirstTooLarge sizes p → IsFirstTooLarge sizes q → p ≡ q
  same_place sizes p q h k = elim (in_order p q) [ inl l ↦ absurd (k.first p l h.too_large) | inr (inl l) ↦ absurd (h.first q l k.too_large) | inr (inr e) ↦ e ]

  same_file : (files : List SourceFile) (p q : ℕ) (file other : SourceFile) → p ≡ q → slice_get files p ≡ Some file → slice_get files q ≡ Some other → file ≡ other
  same_file files p q file other e at at_too = let s : Some file ≡ Some other = sym at ∙ ap (slice_get files) e ∙ at_too in cc

  by_sizes : (files : List SourceFile) (v u : Verdict) → IsVerdict entries files v → IsVerdict entries files u → v ≡ u
  by_sizes files _ _ (too_large p file h at) (too_large q other k at_too) = ap (λ (f : SourceFile). refused 18 f.path) (same_file files p q file other (same_place _ p q h k) at at_too)
  by_sizes files _ _ (too_large p file h at) (small u none rest) = absurd (none p h.too_large)
  by_sizes files _ _ (small v none rest) (too_large p file h at) = absurd (none p h.too_large)
  by_sizes files _ _ (small v none rest) (small u none_too too) = by_files files v u rest too

pub one_verdict : VerdictIsOne
one_verdict entries files v u h k = by_sizes entries files v u h k
