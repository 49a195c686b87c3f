-- What was asked for calls, and what is still to be asked.
use Rattle.std.proofs.Common.{◌≡◌, ◌∙◌, ◌<◌, ◌+◌, ◌≤◌, ℕ, Bool, true, false, cond, List, [], ◌∷◌, Result, Ok, Err, IfOk, Some, Option, refl, ap, sym, subst, length, get_or, drop}
use Rattle.std.specs.Map.{lookup}
use Rattle.std.specs.Prelude.{unwrap_or, if◌then◌else◌}
use Rattle.std.proofs.lemmas.List.{drop_more, drop_all}
use Rattle.sj_emit_expr_questions.specs.Calls.{calls_of_all}
use Rattle.sj_emit_expr_questions.specs.Laws.{AsEmitted}
use Rattle.sj_emit_expr_questions.specs.Task.{is_same_member, target_by, hijacked_by, lookup_by, Found, nothing_found, asks_one, asks_all, Emitted, emitted, emitted_view}
use Rattle.sj_emit_expr_questions.specs.declared.Inquiry.{Inquiry}
use Rattle.sj_emit_expr_questions.specs.declared.Inquiry.TheVariants as inquiries
use Rattle.indexmap.specs.IndexMap.{get}
use Rattle.js_tree.specs.declared.items.JsMember.{JsMember}
use Rattle.sj_ask.proofs.Running.{ran-done, ran-bind, ran-ask}
use Rattle.sj_ask.specs.Runs.{Ran}
use Rattle.sj_ask.specs.Tasks.{◌>>=◌, done, asks_target, asks_hijacked}
use Rattle.sj_ask.specs.Told.{Told, told_more}
use Rattle.sj_ask.specs.declared.questions.Answer.{Answer}
use Rattle.sj_ask.specs.declared.questions.Question.{Question}
use Rattle.sj_core.specs.Lookup.{Lookup}
use Rattle.sj_core.specs.Terms.{Method}
use Rattle.sj_emit_expr_parts.proofs.SameMembers.{equality-of-members}
use Rattle.sj_emit_expr_parts.specs.Known.{target_of, lookup_of, KnowsNothing, Keeps, question_of, more_targets, more_mixed, found_more, AreAsked}
use Rattle.sj_emit_expr_parts.specs.declared.lookup.CallLookup.{CallLookup}
use Rattle.sj_names.specs.Same.{is_same_text}
use Rattle.sj_names.specs.contracts.method_names.MemberPartialEq.TheImpl as member_eq
use Rattle.sj_names.specs.declared.memory.NoMemory.{NoMemory}
use Rattle.sj_names.specs.declared.method_names.Member.{Member}

-- what is kept was found by the first of all that is to be asked, and where the rest is asked from here on, all was asked
pub record LeadsOn (Is : Question → Answer → Type 0) (all rest : List Inquiry) (known : CallLookup) (before now : Told) : Type 0 where
  pub found : Found
  pub keeps : Keeps known found
  pub ran : (in_the_end : Found) (after : Told) → Ran {E = NoMemory} Is (asks_all rest found) (Ok in_the_end) now after → Ran {E = NoMemory} Is (asks_all all nothing_found) (Ok in_the_end) before after

kept-none : (known : CallLookup) → KnowsNothing known → Keeps known nothing_found
kept-none known e = record {
  targets = λ k. ap (λ es. unwrap_or (lookup (is_same_member k) es) k) e.targets;
  mixed = λ c. ap (λ es. unwrap_or (lookup (is_same_text c) es) false) e.mixed;
}

-- what a look-up gave
pub looked-up : (known : CallLookup) (k : Member) (o : Option Member) → o ≡ get member_eq.ghosts.eq known.targets k → unwrap_or o k ≡ target_of known k
looked-up known k o e = ap (λ (x : Option Member). unwrap_or x k) (e ∙ ap (λ eq. get eq known.targets k) equality-of-members)

-- a target that is put in
pub kept-target : (old new : CallLookup) (k t : Member) (found : Found) → new.mixed ≡ old.mixed → ((q : Member) → get member_eq.ghosts.eq new.targets q ≡ cond (member_eq.ghosts.eq k q) (Some t) (get member_eq.ghosts.eq old.targets q)) → Keeps old found → Keeps new (more_targets k (Some t) found)
kept-target old new k t found same puts keeps = record {
  targets = λ q. ap (λ (o : Option Member). unwrap_or o q) (here q) ∙ go q (is_same_member k q);
  mixed = λ c. ap (λ m. unwrap_or (get is_same_text m c) false) same ∙ keeps.mixed c;
}
  where
    here : (q : Member) → get is_same_member new.targets q ≡ cond (is_same_member k q) (Some t) (get is_same_member old.targets q)
    here q = subst (λ eq. get eq new.targets q ≡ cond (eq k q) (Some t) (get eq old.targets q)) equality-of-members (puts q)

    go : (q : Member) (b : Bool) → unwrap_or (cond b (Some t) (get is_same_member old.targets q)) q ≡ (if b then t else target_by found.targets q)
    go q true = refl
    go q false = keeps.targets q

-- a class that is put in
pub kept-mixed : (old new : CallLookup) (d : List ℕ) (b : Bool) (found : Found) → new.targets ≡ old.targets → ((c : List ℕ) → get is_same_text new.mixed c ≡ cond (is_same_text d c) (Some b) (get is_same_text old.mixed c)) → Keeps old found → Keeps new (more_mixed d b found)
kept-mixed old new d b found same puts keeps = record {
  targets = λ q. ap (λ m. unwrap_or (get is_same_member m q) q) same ∙ keeps.targets q;
  mixed = λ c. ap (λ (o : Option Bool). unwrap_or o false) (puts c) ∙ go c (is_same_text d c);
}
  where
    go : (c : List ℕ) (q : Bool) → unwrap_or (cond q (Some b) (get is_same_text old.mixed c)) false ≡ (if q then b else hijacked_by found.mixed c)
    go c true = refl
    go c false = keeps.mixed c

pub asked-one : (Is : Question → Answer → Type 0) (q : Inquiry) (x : Answer) (found : Found) (s t : Told) → Is (question_of q) x → t ≡ told_more s ((question_of q, x) ∷ []) → Ran {E = NoMemory} Is (asks_one q found) (Ok (found_more q x found)) s t
unfolding ◌>>=◌ asks_target asks_hijacked
asked-one Is (inquiries.Target k) x found s t is told = ran-ask Is (question_of (inquiries.Target k)) (λ y. found_more (inquiries.Target k) y found) x s t is told
asked-one Is (inquiries.Hijacked c) x found s t is told = ran-ask Is (question_of (inquiries.Hijacked c)) (λ y. found_more (inquiries.Hijacked c) y found) x s t is told

dropped : (qs : List Inquiry) (i : ℕ) (q : Inquiry) → i < length qs → q ≡ get_or qs i q → drop i qs ≡ q ∷ drop (i + 1) qs
dropped qs i q lt e = drop_more qs i q lt ∙ ap (λ x. x ∷ drop (i + 1) qs) (sym e)

module _ (Is : Question → Answer → Type 0) (qs : List Inquiry) where
  pub asks-first : (known : CallLookup) (t : Told) → KnowsNothing known → LeadsOn Is qs qs known t t
  asks-first known t e = record { found = nothing_found; keeps = kept-none known e; ran = λ r u h. h }

  pub asks-next : (i : ℕ) (q : Inquiry) (x : Answer) (old new : CallLookup) (s t u : Told) → i < length qs → q ≡ get_or qs i q → LeadsOn Is qs (drop i qs) old s t → ((found : Found) → Ran {E = NoMemory} Is (asks_one q found) (Ok (found_more q x found)) t u) → ((found : Found) → Keeps old found → Keeps new (found_more q x found)) → LeadsOn Is qs (drop (i + 1) qs) new s u
  asks-next i q x old new s t u lt e h asked puts = record {
    found = found_more q x h.found;
    keeps = puts h.found h.keeps;
    ran = λ r v g. h.ran r v (subst (λ (l : List Inquiry). Ran {E = NoMemory} Is (asks_all l h.found) (Ok r) t v) (sym (dropped qs i q lt e)) (ran-bind Is (asks_one q h.found) (asks_all (drop (i + 1) qs)) (found_more q x h.found) (Ok r) t u v (asked h.found) g));
  }

  pub asks-all : (i : ℕ) (known : CallLookup) (s t : Told) → length qs ≤ i → LeadsOn Is qs (drop i qs) known s t → AreAsked Is qs known s t
  asks-all i known s t le h = record {
    found = h.found;
    ran = h.ran h.found t (subst (λ (l : List Inquiry). Ran {E = NoMemory} Is (asks_all l h.found) (Ok h.found) t t) (sym (drop_all i qs le)) (ran-done Is h.found t));
    keeps = h.keeps;
  }

-- the function that is emitted by what was asked
pub as-emitted : (Is : Question → Answer → Type 0) (m : Method) (known : CallLookup) (r : Result JsMember NoMemory) (s t : Told) → AreAsked Is (calls_of_all m.body) known s t → IfOk r (λ e. emitted_view e ≡ emitted (lookup_of known) m) → AsEmitted Is m r s t
as-emitted Is m known (Err e) s t h k = tt
as-emitted Is m known (Ok e) s t h k =
    let same : lookup_of known ≡ lookup_by h.found = λ i. record { target = λ q. h.keeps.targets q i; has_hijacked = λ c. h.keeps.mixed c i } in
    ran-bind Is (asks_all (calls_of_all m.body) nothing_found) (λ found. done (emitted (lookup_by found) m)) h.found (Ok (emitted_view e)) s t t h.ran (subst (λ (x : Emitted). Ran {E = NoMemory} Is (done (emitted (lookup_by h.found) m)) (Ok x) t t) (sym (k ∙ ap (λ (f : Lookup). emitted f m) same)) (ran-done Is (emitted (lookup_by h.found) m) t))
