-- Emission by the answers of a world gives the function whose calls run the targets of that world.
use Rattle.std.proofs.Common.{◌≡◌, ◌↔◌, IsTrue, Bool, true, false, List, [], ◌∷◌, Contains, Option, Some, None, Ok, if◌then◌else◌, refl, sym, ap, ◌∙◌, subst, inl, inr}
use Rattle.std.proofs.lemmas.Bool.{cond-true}
use Rattle.std.proofs.lemmas.List.Elements.{All-head, All-tail}
use Rattle.sj_emit_expr_questions.specs.Calls.{calls_of_all}
use Rattle.sj_emit_expr_questions.specs.Task.{is_same_member, Targets, with_target, target_by, Mixed, hijacked_by, Found, nothing_found, lookup_by, asks_all, Emitted, emitted}
use Rattle.sj_emit_expr_questions.specs.declared.Inquiry.{Inquiry}
use Rattle.sj_emit_expr_questions.specs.declared.Inquiry.TheVariants as inquiries
use Rattle.sj_emit_expr_questions.proofs.Agree.{IsSame, same_emitted}
use Rattle.sj_emit_expr_questions.proofs.PublicCalls.{IsPublic, ArePublic, public_of_all}
use Rattle.ir_mean.proofs.AncestorsFound.{ancestors_are_worked_out}
use Rattle.ir_mean.specs.Dispatch.{resolved, is_ancestor}
use Rattle.sj_emit_expr_questions.proofs.One.{one_truth}
use Rattle.sj_emit_expr_questions.specs.Answers.{IsAnswer, IsTarget, IsAboveHijacked, GivesMember, SaysWhether, target_member}
use Rattle.sj_emit_expr_questions.specs.Apart.{Exchange}
use Rattle.sj_emit_expr_questions.specs.Answer.{Answer}
use Rattle.sj_emit_expr_questions.specs.AnswerVariants as answer
use Rattle.sj_emit_expr_questions.specs.Runs.{Comes}
use Rattle.sj_emit_expr_questions.specs.Stands.{Stand}
use Rattle.sj_emit_expr_questions.specs.Tasks.{done, ◌>>=◌, found_member, says_yes, asks_target, asks_hijacked}
use Rattle.sj_names.proofs.Same.{text-same, text-refl}
use Rattle.sj_names.specs.Same.{is_same_text}
use Rattle.sj_names.specs.declared.memory.NoMemory.{NoMemory}
use Rattle.sj_names.specs.declared.method_names.Member.{Member}
use Rattle.sj_names.specs.declared.method_names.Namespace.{Namespace}
use Rattle.sj_names.specs.declared.method_names.Namespace.TheVariants.{Public}
use Rattle.ir_mean.specs.Known.{Name, Classes, hijacked}
use Rattle.ir_mean.specs.Refusals.{IsInOrder}
use Rattle.ir_mean.specs.Resolution as resolution
use Rattle.worklist.proofs.Inserted.{nothing_in}
use Rattle.dispatch_laws.specs.Laws.{found_by, EmissionFindsTargets}
use Rattle.dispatch_laws.specs.Targets.{at_owner, target_from, target_in, has_hijacked_in, lookup_in}
use Rattle.dispatch_laws.proofs.Lists.{first_or_behind, any_of, Passing, passing}
use Rattle.dispatch_laws.proofs.SameNames.{member-itself, member-same}
use Rattle.dispatch_laws.proofs.WorkedOut.{targets_are_worked_out}

module _ (w : Classes) where
  -- each of these is the target of its member
  abbrev AreTargets : Targets → Type 0
  AreTargets [] = Unit {0}
  AreTargets (t ∷ ts) = (t.1 ≡ target_in w t.0) × AreTargets ts

  -- a call of the member runs its target by these
  abbrev IsKnown : Targets → Member → Type 0
  IsKnown ts k = target_by ts k ≡ target_in w k

  own_known : (ts : Targets) (k : Member) → AreTargets ts → target_in w k ≡ k → IsKnown ts k
  own_known [] k right e = sym e
  own_known (t ∷ ts) k right e = go (is_same_member t.0 k) refl (own_known ts k right.1 e)
    where
      go : (b : Bool) → is_same_member t.0 k ≡ b → IsKnown ts k → (if b then t.1 else target_by ts k) ≡ target_in w k
      go true s later = right.0 ∙ ap (target_in w) (member-same t.0 k s)
      go false s later = later

  still_known : (ts : Targets) (j t k : Member) → t ≡ target_in w j → IsKnown ts k → IsKnown ((j, t) ∷ ts) k
  still_known ts j t k right known = go (is_same_member j k) refl
    where
      go : (b : Bool) → is_same_member j k ≡ b → (if b then t else target_by ts k) ≡ target_in w k
      go true s = right ∙ ap (target_in w) (member-same j k s)
      go false s = known

  target_of-public : (k : Member) → k.namespace ≡ Public → target_in w k ≡ at_owner k (resolved w k.class k.method)
  target_of-public k e = ap (λ (n : Namespace). target_from w n k) e

  -- what was answered for a member: its target, or none, and then it is its own
  abbrev Tells : Member → Option Member → Type 0
  Tells k None = target_in w k ≡ k
  Tells k (Some t) = t ≡ target_in w k

  tells : IsInOrder w → (k : Member) → k.namespace ≡ Public → (found : Option Member) → IsTarget w k.class k.method found → Tells k found
  tells sorted k public found t = subst (Tells k) (sym t.is_member) (go t.run (target_of-public k public ∙ ap (at_owner k) (targets_are_worked_out w sorted k.class k.method t.run t.resolves)))
    where
      go : (r : resolution.Answer) → target_in w k ≡ at_owner k (found_by r) → Tells k (target_member k.method r)
      go (resolution.target d owner) e = sym (e ∙ (λ i. record { class = owner; namespace = public i; method = k.method }))
      go resolution.abstract e = e
      go resolution.missing e = e

  -- classes, each with whether a hijacked one stands below it
  abbrev AreMixed : Mixed → Type 0
  AreMixed [] = Unit {0}
  AreMixed (h ∷ hs) = (h.1 ≡ has_hijacked_in w h.0) × AreMixed hs

  abbrev AreRight : Found → Type 0
  AreRight found = AreTargets found.targets × AreMixed found.mixed

  -- by what was found an inquiry is answered as in the world
  abbrev IsAnswered : Found → Inquiry → Type 0
  IsAnswered found q = IsSame (lookup_by found) (lookup_in w) q

  still_mixed : (hs : Mixed) (c d : Name) (b : Bool) → b ≡ has_hijacked_in w c → hijacked_by hs d ≡ has_hijacked_in w d → hijacked_by ((c, b) ∷ hs) d ≡ has_hijacked_in w d
  still_mixed hs c d b right known = go (is_same_text c d) refl
    where
      go : (x : Bool) → is_same_text c d ≡ x → (if x then b else hijacked_by hs d) ≡ has_hijacked_in w d
      go true s = right ∙ ap (has_hijacked_in w) (text-same c d s)
      go false s = known

  -- what is worked out of hijacked classes is so
  above : (c : Name) → IsTrue (has_hijacked_in w c) ↔ IsAboveHijacked w c
  above c = (λ h. from (passing (λ t. is_ancestor w t c) hijacked h), to)
    where
      from : Passing (λ t. is_ancestor w t c) hijacked → IsAboveHijacked w c
      from p = record { below = p.item; hijacked = any_of (is_same_text p.item) hijacked p.item p.stands (text-refl p.item); way = (ancestors_are_worked_out w p.item c).0 p.passes }

      at : (h : IsAboveHijacked w c) → Passing (is_same_text h.below) hijacked → IsTrue (has_hijacked_in w c)
      at h p = any_of (λ t. is_ancestor w t c) hijacked p.item p.stands (subst (λ (t : Name). is_ancestor w t c ≡ true) (text-same h.below p.item p.passes) ((ancestors_are_worked_out w h.below c).1 h.way))

      to : IsAboveHijacked w c → IsTrue (has_hijacked_in w c)
      to h = at h (passing (is_same_text h.below) hijacked h.hijacked)

-- what emission ends with, where each of these inquiries is answered
record Ended (w : Classes) (qs : List Inquiry) (before : Found) (f : Found → Emitted) (e : Emitted) : Type 0 where
  found : Found
  gives : e ≡ f found
  known : (q : Inquiry) → Contains qs q → IsAnswered w found q
  kept : (q : Inquiry) → IsAnswered w before q → IsAnswered w found q

module _ (s : Stand) (sorted : IsInOrder s.classes) (f : Found → Emitted) (e : Emitted) where
  abbrev Ends : List Inquiry → Found → Type 0
  Ends qs before = Ended s.classes qs before f e

  -- one inquiry more: it is answered by what was found behind it, and what was answered stays so
  one_more : (q : Inquiry) (qs : List Inquiry) (before after : Found) → IsAnswered s.classes after q → ((p : Inquiry) → IsAnswered s.classes before p → IsAnswered s.classes after p) → Ends qs after → Ends (q ∷ qs) before
  one_more q qs before after here still r = record {
    found = r.found;
    gives = r.gives;
    known = λ p i. elim (first_or_behind q qs p i) [ inl same ↦ subst (IsAnswered s.classes r.found) same (r.kept q here) | inr behind ↦ r.known p behind ];
    kept = λ p known. r.kept p (still p known);
  }

  abbrev with_member : Member → Option Member → Found → Found
  with_member k t found = record { targets = with_target k t found.targets; mixed = found.mixed }

  abbrev with_class : Name → Bool → Found → Found
  with_class c b found = record { targets = found.targets; mixed = (c, b) ∷ found.mixed }

  target_more : (k : Member) (qs : List Inquiry) (before : Found) (t : Option Member) → AreRight s.classes before → Tells s.classes k t → (AreRight s.classes (with_member k t before) → Ends qs (with_member k t before)) → Ends (inquiries.Target k ∷ qs) before
  target_more k qs before None right t later = one_more (inquiries.Target k) qs before before (own_known s.classes before.targets k right.0 t) (λ p known. known) (later right)
  target_more k qs before (Some m) right t later = one_more (inquiries.Target k) qs before (with_member k (Some m) before) (cond-true (is_same_member k k) m (target_by before.targets k) (member-itself k) ∙ t) still (later ((t, right.0), right.1))
    where
      still : (p : Inquiry) → IsAnswered s.classes before p → IsAnswered s.classes (with_member k (Some m) before) p
      still (inquiries.Target j) known = still_known s.classes before.targets k m j t known
      still (inquiries.Hijacked c) known = known

  class_more : (c : Name) (qs : List Inquiry) (before : Found) (b : Bool) → AreRight s.classes before → b ≡ has_hijacked_in s.classes c → (AreRight s.classes (with_class c b before) → Ends qs (with_class c b before)) → Ends (inquiries.Hijacked c ∷ qs) before
  class_more c qs before b right t later = one_more (inquiries.Hijacked c) qs before (with_class c b before) (cond-true (is_same_text c c) b (hijacked_by before.mixed c) (text-refl c) ∙ t) still (later (right.0, (t, right.1)))
    where
      still : (p : Inquiry) → IsAnswered s.classes before p → IsAnswered s.classes (with_class c b before) p
      still (inquiries.Target j) known = known
      still (inquiries.Hijacked d) known = still_mixed s.classes before.mixed c d b t known

  asked : (qs : List Inquiry) (before : Found) (log : List Exchange) → ArePublic qs → AreRight s.classes before → Comes {E = NoMemory} (IsAnswer s) (asks_all qs before >>= (λ found. done (f found))) (Ok e) log → Ends qs before
  unfolding ◌>>=◌ asks_target asks_hijacked
  asked [] before log public right c = let same : e ≡ f before = cc (c.0) in record { found = before; gives = same; known = λ q i. nothing_in q i; kept = λ q known. known }
  asked (inquiries.Target k ∷ qs) before log public right c = go c.given c.is_answer (λ r. asked qs (with_member k (found_member c.given) before) c.others (All-tail IsPublic (inquiries.Target k) qs public) r c.rest)
    where
      go : (x : Answer) → GivesMember (IsTarget s.classes k.class k.method) x → (AreRight s.classes (with_member k (found_member x) before) → Ends qs (with_member k (found_member x) before)) → Ends (inquiries.Target k ∷ qs) before
      go (answer.Member found) is later = target_more k qs before found right (tells s.classes sorted k (All-head IsPublic (inquiries.Target k) qs public) found is) later
      go _ is later = absurd is
  asked (inquiries.Hijacked d ∷ qs) before log public right c = go c.given c.is_answer (λ r. asked qs (with_class d (says_yes c.given) before) c.others (All-tail IsPublic (inquiries.Hijacked d) qs public) r c.rest)
    where
      go : (x : Answer) → SaysWhether (IsAboveHijacked s.classes d) x → (AreRight s.classes (with_class d (says_yes x) before) → Ends qs (with_class d (says_yes x) before)) → Ends (inquiries.Hijacked d ∷ qs) before
      go (answer.Yes b) is later = class_more d qs before b right (one_truth (IsAboveHijacked s.classes d) b (has_hijacked_in s.classes d) is (above s.classes d)) later
      go _ is later = absurd is

pub emission_finds_targets : EmissionFindsTargets
emission_finds_targets s sorted m e log c =
    let r = asked s sorted (λ found. emitted (lookup_by found) m) e (calls_of_all m.body) nothing_found log (public_of_all m.body) (tt, tt) c in
    r.gives ∙ same_emitted (lookup_by r.found) (lookup_in s.classes) m r.known
