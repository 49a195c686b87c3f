-- The verdict of a stage from that of the next.
use Rattle.std.proofs.Common.{◌≡◌, ℕ, ◌<◌, List, Some, None, Result, Ok, Err, Contains, slice_get, get_or, length, refl, sym, ap, subst, arith}
use Rattle.std.proofs.lemmas.List.{length-map}
use Rattle.std.proofs.lemmas.Option.{slice_get_within, slice_get-get_or}
use Rattle.std.proofs.lemmas.List.Sorted.{Contains-permutation, IsPermutation-sym}
use Rattle.sj_names.specs.declared.counters.Meter.{Meter}
use Rattle.sj_names.specs.declared.entry_points.EntryPoint.{EntryPoint}
use Rattle.sj_names.specs.declared.folders.SourceFile.{SourceFile}
use Rattle.sj_ask.proofs.One.{one_method}
use Rattle.sj_typing_spec.specs.Typed.{IsTyped, IsUntyped}
use Rattle.sj_world.specs.Known.{Classes}
use Rattle.sj_world.specs.Linked.{Linked}
use Rattle.sj_world.specs.Members.{IsMethodOf}
use Rattle.sj_world.specs.Refusals.{IsWorldOf}
use Rattle.sj_world.specs.declared.facts.Fact.{Fact}
use Rattle.sj_world.specs.declared.facts.Fact.TheVariants as fact
use Rattle.sj_reach.specs.Answers.{AreReachable}
use Rattle.sj_reach.specs.declared.findings.Report.{Report}
use Rattle.folder_sizes.specs.Sizes.{IsTooLarge, IsFirstTooLarge}
use Rattle.folder_sizes.specs.Files.{sizes, size_of}
use Rattle.folder_judging_spec.specs.Stages.{rule_at, AreRead, KeepRules, IsUntypedBody, AreTyped}
use Rattle.folder_judging_spec.specs.Verdicts.{Verdict, accepted, refused, untyped, typed, ByReferences, resolved, acyclic, kept, ByNames, apart, ByFiles, read, IsVerdict, too_large, small}
use Rattle.folder_judging.specs.declared.errors.JudgeError.{JudgeError}
use Rattle.folder_judging.specs.declared.errors.JudgeError.TheVariants.{Refused, NoMemory}
use Rattle.folder_judging.specs.Counts.{with_reads, ChecksAtMost, none, bodies, HasChecked, CountsChecks, HasReadSome, Counts}
use Rattle.folder_judging.specs.Judging.{Judges, IsLinked, IsLinkedOf, IsLinkedFolder, AreFactsOf, AreFactsRead, AreFactsIn, IsKeptWorld}
use Rattle.folder_judging.specs.Refusals.{IsRefusal, IsAt}
use Rattle.folder_judging.specs.Types.{IsFailing, IsLeastUntypedIn, IsToldUntyped, ChecksSome}
use Rattle.folder_judging.proofs.Refused.{at_refusal, not_twice}

-- nothing is checked where a stage before the types refuses
pub unchecked : (AreFacts : List Fact → Type 0) (m : Meter) (e : JudgeError) → CountsChecks AreFacts (Err e) m m
unchecked AreFacts m (Refused code place) = (record { checks = 0; most = none; counted = refl }, λ other. refl)
unchecked AreFacts m NoMemory = record { checks = 0; most = none; counted = refl }

code_told : (a b : ℕ) (p q : List ℕ) → refused a p ≡ refused b q → a ≡ b
code_told a b p q e = cc

module _ (entries : List EntryPoint) (w : Classes) (l : Linked) (linked : IsLinked entries w l) where
  reached : AreReachable w entries l.facts
  reached = linked.reached

  all_typed : IsLeastUntypedIn l None → AreTyped w entries
  all_typed all k d r defined =
      let t = all k ((reached.exact (fact.Body k)).1 r) in
      subst (IsTyped w) (one_method w k t.definition d (subst (λ (v : Classes). IsMethodOf v k t.definition) linked.world t.defined) defined) (subst (λ (v : Classes). IsTyped v t.definition) linked.world t.typed)

  pub by_types : IsLeastUntypedIn l None → ByReferences entries w accepted
  by_types all = resolved accepted reached.resolved (typed (all_typed all))

  failing : (r : Report) → IsFailing l.world (λ k. Contains l.facts (fact.Body k)) r → IsUntypedBody w entries r.place r.code
  failing r h = record {
    member = h.member;
    needed = (reached.exact (fact.Body h.member)).0 h.among;
    definition = h.fails.definition;
    defined = subst (λ (v : Classes). IsMethodOf v h.member h.fails.definition) linked.world h.fails.defined;
    spelled_is = sym h.spelled;
    place = h.fails.fails.place;
    untyped = subst (λ (v : Classes). IsUntyped v h.fails.definition r.code h.fails.fails.place) linked.world h.fails.fails.untyped;
  }

  back : (other : List ℕ) (another : ℕ) → IsUntypedBody w entries other another → IsFailing l.world (λ k. Contains l.facts (fact.Body k)) (rule_at another other)
  back other another h = record {
    member = h.member;
    among = (reached.exact (fact.Body h.member)).1 h.needed;
    spelled = sym h.spelled_is;
    fails = record { definition = h.definition; defined = subst (λ (v : Classes). IsMethodOf v h.member h.definition) (sym linked.world) h.defined; fails = record { place = h.place; untyped = subst (λ (v : Classes). IsUntyped v h.definition another h.place) (sym linked.world) h.untyped } };
  }

  untyped_one : (v : Verdict) → IsToldUntyped l v → ByReferences entries w v
  untyped_one v h = subst (ByReferences entries w) (sym h.told) (resolved _ reached.resolved (untyped h.report.place h.report.code (record { untyped = failing h.report h.least.failing; least = λ other another k. h.least.least (rule_at another other) (back other another k) })))

  pub by_untyped : (e : JudgeError) → IsRefusal (IsToldUntyped l) e → IsRefusal (ByReferences entries w) e
  by_untyped (Refused code place) h = untyped_one (refused code place) h
  by_untyped NoMemory h = tt

  some_checked : (old new : Meter) → ChecksSome l.facts old new → HasChecked (AreReachable w entries) old new
  some_checked old new h = record { checks = h.checks; most = bodies l.facts h.checks reached h.most; counted = h.counted }

  pub counts_untyped : (e : JudgeError) (old new : Meter) → IsRefusal (IsToldUntyped l) e → ChecksSome l.facts old new → CountsChecks (AreReachable w entries) (Err e) old new
  counts_untyped (Refused code place) old new h k = (some_checked old new k, λ other. absurd (other (code_told code 20 place _ h.told)))
  counts_untyped NoMemory old new h k = some_checked old new k

module _ (entries : List EntryPoint) (classes w : Classes) (kept_world : IsKeptWorld classes w) where
  pub keep_rules : KeepRules w
  keep_rules c among = kept_world.kept c (Contains-permutation w classes c (IsPermutation-sym classes w kept_world.world.sorted.same) among)

  by_world : (v : Verdict) → ByReferences entries w v → ByNames entries classes v
  by_world v h = apart v (not_twice classes w kept_world.world.sorted) (kept v kept_world.kept (acyclic w v kept_world.world h))

  linked_of : (l : Linked) → IsLinked entries w l → IsLinkedOf entries classes l
  linked_of l h = record { world = subst (IsWorldOf classes) (sym h.world) kept_world.world; linked = subst (λ (v : Classes). IsLinked entries v l) (sym h.world) h }

  pub by_names : (r : Result Linked JudgeError) → Judges (ByReferences entries w) (IsLinked entries w) r → Judges (ByNames entries classes) (IsLinkedOf entries classes) r
  by_names (Ok l) h = (by_world accepted h.0, linked_of l h.1)
  by_names (Err (Refused code place)) h = by_world (refused code place) h
  by_names (Err NoMemory) h = tt

-- what is known of some facts is known of others
at_most : (P Q : List Fact → Type 0) → ((facts : List Fact) → P facts → Q facts) → (n : ℕ) → ChecksAtMost P n → ChecksAtMost Q n
at_most P Q into _ none = none
at_most P Q into _ (bodies facts n h le) = bodies facts n (into facts h) le

has_checked : (P Q : List Fact → Type 0) → ((facts : List Fact) → P facts → Q facts) → (old new : Meter) → HasChecked P old new → HasChecked Q old new
has_checked P Q into old new h = record { checks = h.checks; most = at_most P Q into h.checks h.most; counted = h.counted }

counts_more : (P Q : List Fact → Type 0) → ((facts : List Fact) → P facts → Q facts) → (r : Result Linked JudgeError) (old new : Meter) → CountsChecks P r old new → CountsChecks Q r old new
counts_more P Q into (Ok l) old new h = h
counts_more P Q into (Err (Refused code place)) old new h = (has_checked P Q into old new h.0, h.1)
counts_more P Q into (Err NoMemory) old new h = has_checked P Q into old new h

pub counts_in_world : (entries : List EntryPoint) (classes w : Classes) → IsKeptWorld classes w → (r : Result Linked JudgeError) (old new : Meter) → CountsChecks (AreReachable w entries) r old new → CountsChecks (AreFactsOf entries classes) r old new
counts_in_world entries classes w is = counts_more (AreReachable w entries) (AreFactsOf entries classes) (λ facts h. record { w = w; world = is; reached = h })

module _ (entries : List EntryPoint) (files : List SourceFile) (classes : Classes) (are : AreRead files classes) where
  pub by_files : (r : Result Linked JudgeError) → Judges (ByNames entries classes) (IsLinkedOf entries classes) r → Judges (ByFiles entries files) (IsLinkedFolder entries files) r
  by_files (Ok l) h = (read classes accepted are h.0, record { classes = classes; read = are; linked = h.1 })
  by_files (Err (Refused code place)) h = read classes (refused code place) are h
  by_files (Err NoMemory) h = tt

  counts_facts : (r : Result Linked JudgeError) (old new : Meter) → CountsChecks (AreFactsOf entries classes) r old new → CountsChecks (AreFactsRead entries files) r old new
  counts_facts = counts_more (AreFactsOf entries classes) (AreFactsRead entries files) (λ facts h. record { classes = classes; read = are; known = h })

  pub counts_in_files : (r : Result Linked JudgeError) (old mid new : Meter) → mid ≡ with_reads (length files) old → CountsChecks (AreFactsOf entries classes) r mid new → Counts files (AreFactsRead entries files) r old new
  counts_in_files (Ok l) old mid new e h = record { reads = length files; whole = refl; checked = counts_facts (Ok l) _ new (subst (λ (m : Meter). CountsChecks (AreFactsOf entries classes) (Ok l) m new) e h) }
  counts_in_files (Err f) old mid new e h = record { reads = length files; whole = omega arith; checked = counts_facts (Err f) _ new (subst (λ (m : Meter). CountsChecks (AreFactsOf entries classes) (Err f) m new) e h) }

-- some files are read and nothing is checked
pub counts_unread : (files : List SourceFile) (AreFacts : List Fact → Type 0) (e : JudgeError) (old new : Meter) → HasReadSome files old new → Counts files AreFacts (Err e) old new
counts_unread files AreFacts e old new h = record { reads = h.reads; whole = h.most; checked = subst (λ (m : Meter). CountsChecks AreFacts (Err e) (with_reads h.reads old) m) (sym h.counted) (unchecked AreFacts (with_reads h.reads old) e) }

pub counts_nothing : (files : List SourceFile) (AreFacts : List Fact → Type 0) (e : JudgeError) (m : Meter) → Counts files AreFacts (Err e) m m
counts_nothing files AreFacts e m = record { reads = 0; whole = omega arith; checked = unchecked AreFacts m e }

module _ (files : List SourceFile) (place : ℕ) (found : List ℕ) (are : found ≡ sizes files) where
  -- a place at which a folder is too large is that of a file
  pub place_inside : IsFirstTooLarge found place → place < length files
  place_inside h = omega (arith, slice_get_within found place h.too_large.size h.too_large.at, ap length are, length-map files size_of)

  too_large_there : (entries : List EntryPoint) (e : JudgeError) (file : SourceFile) → IsFirstTooLarge found place → slice_get files place ≡ Some file → IsAt 18 file.path e → IsRefusal (IsVerdict entries files) e
  too_large_there entries e file h at told = at_refusal (IsVerdict entries files) 18 file.path e told (too_large place file (subst (λ (ns : List ℕ). IsFirstTooLarge ns place) are h) at)

  pub too_large_at : (entries : List EntryPoint) (e : JudgeError) (file : SourceFile) → IsFirstTooLarge found place → IsAt 18 (get_or files place file).path e → IsRefusal (IsVerdict entries files) e
  too_large_at entries e file h told = too_large_there entries e (get_or files place file) h (slice_get-get_or files place file (place_inside h)) told

pub by_sizes : (entries : List EntryPoint) (files : List SourceFile) (found : List ℕ) → found ≡ sizes files → ((place : ℕ) → IsTooLarge found place → ⊥) → (r : Result Linked JudgeError) → Judges (ByFiles entries files) (IsLinkedFolder entries files) r → Judges (IsVerdict entries files) (IsLinkedFolder entries files) r
by_sizes entries files found are fit r h = go r h
  where
    fits : (place : ℕ) → IsTooLarge (sizes files) place → ⊥
    fits place t = fit place (subst (λ (ns : List ℕ). IsTooLarge ns place) (sym are) t)

    go : (r : Result Linked JudgeError) → Judges (ByFiles entries files) (IsLinkedFolder entries files) r → Judges (IsVerdict entries files) (IsLinkedFolder entries files) r
    go (Ok l) k = (small accepted fits k.0, k.1)
    go (Err (Refused code path)) k = small (refused code path) fits k
    go (Err NoMemory) k = tt

pub counts_small : (entries : List EntryPoint) (files : List SourceFile) (found : List ℕ) → found ≡ sizes files → ((place : ℕ) → IsTooLarge found place → ⊥) → (r : Result Linked JudgeError) (old new : Meter) → Counts files (AreFactsRead entries files) r old new → Counts files (AreFactsIn entries files) r old new
counts_small entries files found are fit r old new h = record { reads = h.reads; whole = h.whole; checked = counts_more (AreFactsRead entries files) (AreFactsIn entries files) (λ facts k. record { small = λ place t. fit place (subst (λ (ns : List ℕ). IsTooLarge ns place) (sym are) t); facts_read = k }) r (with_reads h.reads old) new h.checked }
