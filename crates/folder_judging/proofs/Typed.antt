-- The least body that isn't typed, as bodies are checked in the order of their spellings.
use Rattle.std.proofs.Common.{◌≡◌, ℕ, ◌+◌, ◌<◌, ◌≤◌, Bool, true, false, List, length, Option, Some, None, slice_get, get_or, refl, sym, ap, ◌∙◌, subst, inl, inr, arith}
use Rattle.std.specs.Prelude.{◌⊎◌, ◌||◌, ◌&&◌, nat_lt}
use Rattle.std.specs.Cmp.Lexicographic.{nat_list_cmp_total}
use Rattle.std.proofs.lemmas.List.Sorted.{sorted_far, ranks_by}
use Rattle.std.proofs.lemmas.Option.{slice_get_within, get_or_from_slice_get}
use Rattle.sj_names.specs.declared.method_names.Member.{Member}
use Rattle.sj_trees.specs.declared.classes.MethodDef.{MethodDef}
use Rattle.sj_ask.proofs.One.{one_method}
use Rattle.sj_typing_spec.specs.Typed.{IsTyped, IsUntyped}
use Rattle.sj_typing_verdicts.proofs.OneVerdict.{has_one_verdict}
use Rattle.sj_world.specs.Known.{Classes, is_same}
use Rattle.sj_world.specs.Linked.{Linked}
use Rattle.sj_world.specs.Refusals.{is_before}
use Rattle.sj_world.proofs.Orders.{before_not_after, before_trans, differs_after, same_name, not_before_itself, is_same_itself}
use Rattle.sj_world.proofs.Searches.{contains_at, stands_at}
use Rattle.sj_reach.specs.Answers.{comes_first, first_told}
use Rattle.sj_reach.specs.declared.findings.Report.{Report}
use Rattle.sj_reach_spec.specs.Refusals.{spelled_member}
use Rattle.folder_judging_spec.specs.Stages.{rule_at}
use Rattle.folder_judging.specs.Bodies.{is_spelled_before, AreInOrder}
use Rattle.folder_judging.specs.Types.{IsTypedAt, FailsAt, IsWithBody, kept, fails, IsFailing, IsLeastFailing, IsLeastAmong, IsNeeded, IsLeastUntypedIn, is_told_before}
use Rattle.folder_judging.specs.declared.bodies.SpelledBody.{SpelledBody}
use Rattle.folder_judging.proofs.Least.{IsLeast, with_first, with_more}

-- one of the first bodies is that of the member
pub record IsAmongFirst (bodies : List SpelledBody) (n : ℕ) (k : Member) : Type 0 where
  pub place : ℕ
  pub early : place < n
  pub body : SpelledBody
  pub at : slice_get bodies place ≡ Some body
  pub is : body.member.now ≡ k

module _ (w : Classes) (k : Member) where
  pub not_both : (rule : ℕ) → IsTypedAt w k → FailsAt w k rule → ⊥
  not_both rule t f = (has_one_verdict w f.definition).not_both rule f.fails.place (subst (IsTyped w) (one_method w k t.definition f.definition t.defined f.defined) t.typed) f.fails.untyped

  pub one_rule : (rule other : ℕ) → FailsAt w k rule → FailsAt w k other → rule ≡ other
  one_rule rule other f g = ((has_one_verdict w g.definition).one_fault rule other f.fails.place g.fails.place (subst (λ (d : MethodDef). IsUntyped w d rule f.fails.place) (one_method w k f.definition g.definition f.defined g.defined) f.fails.untyped) g.fails.untyped).0

same_some : (a b : SpelledBody) → Some a ≡ Some b → a ≡ b
same_some a b e = cc

abbrev of_parts : ℕ → List ℕ → Report
of_parts code place = record { code = code; place = place }

not_both_truths : true ≡ false → ⊥
not_both_truths e = cc

not_same : {b : Bool} → (b ≡ true → ⊥) → b ≡ false
not_same {b = true} h = absurd (h refl)
not_same {b = false} h = refl

order : (i n : ℕ) → (i < n) ⊎ (n ≤ i)
order i n = grind arith

module _ (w : Classes) (bodies : List SpelledBody) (n : ℕ) (b : SpelledBody) (at : slice_get bodies n ≡ Some b) where
  abbrev First : Member → Type 0
  First = IsAmongFirst bodies n

  abbrev More : Member → Type 0
  More = IsAmongFirst bodies (n + 1)

  wider : (k : Member) → First k → More k
  wider k h = let l : h.place < n = h.early in record { place = h.place; early = omega arith; body = h.body; at = h.at; is = h.is }

  split : (i : ℕ) → i < n + 1 → (i < n) ⊎ (i ≡ n)
  split i l = grind arith

  -- one of them is among those before, or the new one
  either_member : (k : Member) → More k → First k ⊎ (b.member.now ≡ k)
  either_member k h = go (split h.place h.early)
    where
      go : (h.place < n) ⊎ (h.place ≡ n) → First k ⊎ (b.member.now ≡ k)
      go (inl l) = inl (record { place = h.place; early = l; body = h.body; at = h.at; is = h.is })
      go (inr e) = inr (ap (λ (x : SpelledBody). x.member.now) (same_some b h.body (sym at ∙ ap (slice_get bodies) (sym e) ∙ h.at)) ∙ h.is)

  new_member : More b.member.now
  new_member = record { place = n; early = omega arith; body = b; at = at; is = refl }

  more_failing : (r : Report) → IsFailing w First r → IsFailing w More r
  more_failing r h = record { member = h.member; among = wider h.member h.among; spelled = h.spelled; fails = h.fails }

  -- a body that is typed adds nothing that fails
  same_failing : IsTypedAt w b.member.now → (r : Report) → IsFailing w More r → IsFailing w First r
  same_failing t r h = go (either_member h.member h.among)
    where
      go : First h.member ⊎ (b.member.now ≡ h.member) → IsFailing w First r
      go (inl there) = record { member = h.member; among = there; spelled = h.spelled; fails = h.fails }
      go (inr e) = absurd (not_both w h.member r.code (subst (IsTypedAt w) e t) h.fails)

  typed_too : IsTypedAt w b.member.now → ((k : Member) → First k → IsTypedAt w k) → (k : Member) → More k → IsTypedAt w k
  typed_too t all k h = go (either_member k h)
    where
      go : First k ⊎ (b.member.now ≡ k) → IsTypedAt w k
      go (inl there) = all k there
      go (inr e) = subst (IsTypedAt w) e t

  none_fails : ((k : Member) → First k → IsTypedAt w k) → (r : Report) → IsFailing w First r → ⊥
  none_fails all r h = not_both w h.member r.code (all h.member h.among) h.fails

  module _ (spelled : b.spelled ≡ spelled_member b.member.now) (rule : ℕ) (f : FailsAt w b.member.now rule) where
    here : IsFailing w More (rule_at rule b.spelled)
    here = record { member = b.member.now; among = new_member; spelled = spelled; fails = f }

    here_or_there : (r : Report) → IsFailing w More r → IsFailing w First r ⊎ (r ≡ rule_at rule b.spelled)
    here_or_there r h = go (either_member h.member h.among)
      where
        go : First h.member ⊎ (b.member.now ≡ h.member) → IsFailing w First r ⊎ (r ≡ rule_at rule b.spelled)
        go (inl there) = inl (record { member = h.member; among = there; spelled = h.spelled; fails = h.fails })
        go (inr e) =
            let one : r.code ≡ rule = one_rule w h.member r.code rule h.fails (subst (λ (k : Member). FailsAt w k rule) e f) in
            let name : r.place ≡ b.spelled = h.spelled ∙ ap spelled_member (sym e) ∙ sym spelled in
            inr (ap (λ p. of_parts r.code p) name ∙ ap (λ c. of_parts c b.spelled) one)

    as_least : (r : Report) → IsLeast (IsFailing w More) r → IsLeastFailing w More r
    as_least r h = record { failing = h.is; least = h.least }

    fails_alone : ((k : Member) → First k → IsTypedAt w k) → IsLeastFailing w More (rule_at rule b.spelled)
    fails_alone all = as_least (rule_at rule b.spelled) (with_first (IsFailing w First) (IsFailing w More) (rule_at rule b.spelled) more_failing here here_or_there (none_fails all))

    fails_too : (old : Report) → IsLeastFailing w First old → IsLeastFailing w More (first_told (Some old) (rule_at rule b.spelled))
    fails_too old h = as_least (first_told (Some old) (rule_at rule b.spelled)) (with_more (IsFailing w First) (IsFailing w More) (rule_at rule b.spelled) more_failing here here_or_there old (record { is = h.failing; least = h.least }))

  pub with_body_goes_on : b.spelled ≡ spelled_member b.member.now → (least found : Option Report) → IsLeastAmong w First least → IsWithBody w least b found → IsLeastAmong w More found
  with_body_goes_on spelled None _ all (kept t) = typed_too t all
  with_body_goes_on spelled (Some old) _ h (kept t) = record { failing = more_failing old h.failing; least = λ o k. h.least o (same_failing t o k) }
  with_body_goes_on spelled None _ all (fails rule f) = fails_alone spelled rule f all
  with_body_goes_on spelled (Some old) _ h (fails rule f) = fails_too spelled rule f old h

-- all of them
module _ (l : Linked) (bodies : List SpelledBody) (in_order : AreInOrder l.facts bodies) where
  found_at : (k : Member) → IsNeeded l k → IsAmongFirst bodies (length bodies) k
  found_at k needed =
      let h = (in_order.bodies_right.members k).0 needed in
      let at : slice_get bodies h.among.0 ≡ Some h.body = stands_at bodies h.body h.among in
      record { place = h.among.0; early = slice_get_within bodies h.among.0 h.body at; body = h.body; at = at; is = h.is }

  needed_at : (k : Member) (n : ℕ) → IsAmongFirst bodies n k → IsNeeded l k
  needed_at k n h = (in_order.bodies_right.members k).1 (record { body = h.body; among = contains_at bodies h.place h.body h.at; is = h.is })

  in_first : (k : Member) (n : ℕ) → length bodies ≤ n → IsNeeded l k → IsAmongFirst bodies n k
  in_first k n over needed = let h = found_at k needed in let e : h.place < length bodies = h.early in record { place = h.place; early = omega arith; body = h.body; at = h.at; is = h.is }

  pub ends : (n : ℕ) (least : Option Report) → length bodies ≤ n → IsLeastAmong l.world (IsAmongFirst bodies n) least → IsLeastUntypedIn l least
  ends n None over all = λ k needed. all k (in_first k n over needed)
  ends n (Some r) over h = record {
    failing = record { member = h.failing.member; among = needed_at h.failing.member n h.failing.among; spelled = h.failing.spelled; fails = h.failing.fails };
    least = λ o k. h.least o (record { member = k.member; among = in_first k.member n over k.among; spelled = k.spelled; fails = k.fails });
  }

  module _ (n : ℕ) (b : SpelledBody) (at : slice_get bodies n ≡ Some b) (r : Report) (before : is_before r.place b.spelled ≡ true) where
    -- a body that stands behind has no lesser spelling
    far : (i : ℕ) (c : SpelledBody) → n ≤ i → slice_get bodies i ≡ Some c → is_before c.spelled b.spelled ≡ false
    far i c le there =
        subst (λ (x : SpelledBody). is_before x.spelled b.spelled ≡ false) (get_or_from_slice_get bodies i c b there)
        (subst (λ (x : SpelledBody). is_before (get_or bodies i b).spelled x.spelled ≡ false) (get_or_from_slice_get bodies n b b at)
        (sorted_far is_spelled_before (ranks_by nat_list_cmp_total (λ (x : SpelledBody). x.spelled)) bodies in_order.in_order n i b le (slice_get_within bodies i c there)))

    -- so what was found stands before it
    behind : (c : SpelledBody) → is_before c.spelled b.spelled ≡ false → is_before r.place c.spelled ≡ true
    behind c low = go (is_same c.spelled b.spelled) refl
      where
        go : (s : Bool) → is_same c.spelled b.spelled ≡ s → is_before r.place c.spelled ≡ true
        go true e = subst (λ (x : List ℕ). is_before r.place x ≡ true) (sym (same_name c.spelled b.spelled e)) before
        go false e = before_trans r.place b.spelled c.spelled before (differs_after b.spelled c.spelled low (same_either e))
          where
            same_either : is_same c.spelled b.spelled ≡ false → is_same b.spelled c.spelled ≡ false
            same_either e = not_same (λ t. let q : c.spelled ≡ b.spelled = sym (same_name b.spelled c.spelled t) in let u : is_same c.spelled b.spelled ≡ true = subst (λ (x : List ℕ). is_same c.spelled x ≡ true) q (is_same_itself c.spelled) in not_both_truths (sym u ∙ e))

    not_first : (o : Report) (c : SpelledBody) → o.place ≡ c.spelled → is_before r.place c.spelled ≡ true → comes_first o r ≡ false
    not_first o c e low = subst (λ (p : List ℕ). (is_before p r.place || (is_same p r.place && nat_lt o.code r.code)) ≡ false) (sym e) (both (is_before c.spelled r.place) (is_same c.spelled r.place) (before_not_after r.place c.spelled low) (before_differs_back c low))
      where
        both : (p q : Bool) → p ≡ false → q ≡ false → (p || (q && nat_lt o.code r.code)) ≡ false
        both p q e f = ap (λ (x : Bool). x || (q && nat_lt o.code r.code)) e ∙ ap (λ (x : Bool). x && nat_lt o.code r.code) f

        before_differs_back : (c : SpelledBody) → is_before r.place c.spelled ≡ true → is_same c.spelled r.place ≡ false
        before_differs_back c low = not_same (λ t. let q : r.place ≡ c.spelled = sym (same_name c.spelled r.place t) in not_both_truths (sym (subst (λ (x : List ℕ). is_before r.place x ≡ true) (sym q) low) ∙ not_before_itself r.place))

    pub stops : IsLeastAmong l.world (IsAmongFirst bodies n) (Some r) → IsLeastUntypedIn l (Some r)
    stops h = record {
      failing = record { member = h.failing.member; among = needed_at h.failing.member n h.failing.among; spelled = h.failing.spelled; fails = h.failing.fails };
      least = λ o k. go o k (found_at k.member k.among);
    }
      where
        go : (o : Report) (k : IsFailing l.world (IsNeeded l) o) → IsAmongFirst bodies (length bodies) k.member → comes_first o r ≡ false
        go o k f = elim (order f.place n) [
          | inl lt ↦ h.least o (record { member = k.member; among = record { place = f.place; early = lt; body = f.body; at = f.at; is = f.is }; spelled = k.spelled; fails = k.fails })
          | inr le ↦ not_first o f.body (k.spelled ∙ ap spelled_member (sym f.is) ∙ sym (in_order.bodies_right.spelled.each f.body (contains_at bodies f.place f.body f.at))) (behind f.body (far f.place f.body le f.at))
        ]

pub with_failing : (w : Classes) (least : Option Report) (b : SpelledBody) (rule : ℕ) (place : List ℕ) (found : Report) → FailsAt w b.member.now rule → place ≡ b.spelled → found ≡ first_told least (rule_at rule place) → IsWithBody w least b (Some found)
with_failing w least b rule place found f e is = subst (λ (r : Report). IsWithBody w least b (Some r)) (sym (is ∙ ap (λ (p : List ℕ). first_told least (rule_at rule p)) e)) (fails rule f)

pub none_first : (w : Classes) (bodies : List SpelledBody) → IsLeastAmong w (IsAmongFirst bodies 0) None
none_first w bodies k h = let l : h.place < 0 = h.early in absurd (omega arith)

pub stops_at : (l : Linked) (bodies : List SpelledBody) (in_order : AreInOrder l.facts bodies) (n : ℕ) (b : SpelledBody) (least : Option Report) → slice_get bodies n ≡ Some b → is_told_before least b.spelled ≡ true → IsLeastAmong l.world (IsAmongFirst bodies n) least → IsLeastUntypedIn l least
stops_at l bodies in_order n b None at told h = cc
stops_at l bodies in_order n b (Some r) at told h = stops l bodies in_order n b at r told h

-- a body of the list is needed, and spelled as its member
module _ (l : Linked) (bodies : List SpelledBody) (in_order : AreInOrder l.facts bodies) (n : ℕ) (b : SpelledBody) (at : slice_get bodies n ≡ Some b) where
  pub needed_one : IsNeeded l b.member.now
  needed_one = (in_order.bodies_right.members b.member.now).1 (record { body = b; among = contains_at bodies n b at; is = refl })

  pub spelled_one : b.spelled ≡ spelled_member b.member.now
  spelled_one = in_order.bodies_right.spelled.each b (contains_at bodies n b at)
