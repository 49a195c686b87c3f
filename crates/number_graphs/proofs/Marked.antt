-- Marks that are set, and what they mean in the end.
use Rattle.std.proofs.Common.{◌≡◌, ℕ, zero, suc, ◌+◌, ◌<◌, Bool, true, false, List, [], ◌∷◌, ◌++◌, Contains, refl, sym, ap, ◌∙◌, subst, length, arith, inl, inr}
use Rattle.std.specs.Prelude.{◌⊎◌, ◌↔◌, replicate}
use Rattle.std.proofs.Math.ListN.{set}
use Rattle.std.proofs.lemmas.List.{length-append, length-set}
use Rattle.worklist.specs.Paths.{stay, on, IsReached}
use Rattle.number_graphs.specs.Graphs.{At, Lists, next_of, Leads, Walk}
use Rattle.number_graphs.specs.Marks.{unmarked, IsAmong, IsMarking}
use Rattle.number_graphs.proofs.Places.{within, at_left, at_last, at_push, at_set, at_set_other, from_set_other, contains_at, among}
use Rattle.number_graphs.proofs.Searched.{same_or_not}

pub at_replicate : {X : Type 0} (n : ℕ) (y : X) (i : ℕ) (x : X) → At (replicate n y) i x → x ≡ y
at_replicate zero y i x at = cc
at_replicate (suc n) y zero x at = cc
at_replicate (suc n) y (suc i) x at = at_replicate n y i x at

fewer_unmarked : (marks : List Bool) (number : ℕ) → At marks number false → unmarked (set marks number true) + 1 ≡ unmarked marks
fewer_unmarked [] number at = cc
fewer_unmarked (true ∷ marks) zero at = cc
fewer_unmarked (false ∷ marks) zero at = omega arith
fewer_unmarked (true ∷ marks) (suc number) at = fewer_unmarked marks number at
fewer_unmarked (false ∷ marks) (suc number) at = let r = fewer_unmarked marks number at in omega (arith, r)

pub marking_begins : (numbers : List ℕ) (marks : List Bool) (pending : List ℕ) → numbers ≡ [] → IsMarking numbers marks pending marks pending
marking_begins numbers marks pending e = record {
  same_length = refl;
  from = λ number at. inl at;
  kept = λ number at. at;
  all = λ place number at. (let wrong : At {X = ℕ} [] place number = subst (λ (l : List ℕ). At l place number) e at in cc);
  still_pending = λ place number at. at;
  pending_from = λ place number at. inl at;
  new_pending = λ number at. inl at;
  fewer = omega arith;
  counted = refl;
}

module _ (numbers more : List ℕ) (old_marks : List Bool) (old_pending : List ℕ) (marks : List Bool) (pending : List ℕ) (number : ℕ) (m : IsMarking numbers old_marks old_pending marks pending) (is_more : more ≡ numbers ++ number ∷ []) where
  further : (other : ℕ) → IsAmong numbers other → IsAmong more other
  further other a = record { place = a.place; at = subst (λ (l : List ℕ). At l a.place other) (sym is_more) (at_left numbers (number ∷ []) a.place other a.at) }

  newest : IsAmong more number
  newest = record { place = length numbers; at = subst (λ (l : List ℕ). At l (length numbers) number) (sym is_more) (at_last numbers number) }

  old_or_new : (place other : ℕ) → At more place other → At numbers place other ⊎ (other ≡ number)
  old_or_new place other at = elim (at_push numbers number place other (subst (λ (l : List ℕ). At l place other) is_more at)) [ inl old ↦ inl old | inr new ↦ inr new.1 ]

  -- it was marked already
  pub marked_already : At marks number true → IsMarking more old_marks old_pending marks pending
  marked_already is = record {
    same_length = m.same_length;
    from = λ other at. elim (m.from other at) [ inl old ↦ inl old | inr new ↦ inr (further other new) ];
    kept = m.kept;
    all = λ place other at. elim (old_or_new place other at) [ inl old ↦ m.all place other old | inr new ↦ subst (λ (n : ℕ). At marks n true) (sym new) is ];
    still_pending = m.still_pending;
    pending_from = m.pending_from;
    new_pending = m.new_pending;
    fewer = m.fewer;
    counted = m.counted;
  }

  -- it is marked now
  pub marked_now : (longer : List ℕ) → At marks number false → longer ≡ pending ++ number ∷ [] → IsMarking more old_marks old_pending (set marks number true) longer
  marked_now longer is e = record {
    same_length = length-set marks number true ∙ m.same_length;
    from = λ other at. elim (same_or_not other number) [ inl here ↦ inr (subst (λ (n : ℕ). IsAmong more n) (sym here) newest) | inr ne ↦ elim (m.from other (from_set_other marks number true other true ne at)) [ inl old ↦ inl old | inr new ↦ inr (further other new) ] ];
    kept = λ other at. still other (m.kept other at);
    all = λ place other at. elim (old_or_new place other at) [ inl old ↦ still other (m.all place other old) | inr new ↦ subst (λ (n : ℕ). At (set marks number true) n true) (sym new) here ];
    still_pending = λ place other at. subst (λ (l : List ℕ). At l place other) (sym e) (at_left pending (number ∷ []) place other (m.still_pending place other at));
    pending_from = λ place other at. elim (at_push pending number place other (subst (λ (l : List ℕ). At l place other) e at)) [ inl old ↦ elim (m.pending_from place other old) [ inl before ↦ inl before | inr marked ↦ inr (still other marked) ] | inr new ↦ inr (subst (λ (n : ℕ). At (set marks number true) n true) (sym new.1) here) ];
    new_pending = λ other at. elim (same_or_not other number) [ inl same ↦ inr (record { place = length pending; at = subst (λ (l : List ℕ). At l (length pending) other) (sym e) (subst (λ (n : ℕ). At (pending ++ number ∷ []) (length pending) n) (sym same) (at_last pending number)) }) | inr ne ↦ elim (m.new_pending other (from_set_other marks number true other true ne at)) [ inl old ↦ inl old | inr a ↦ inr (record { place = a.place; at = subst (λ (l : List ℕ). At l a.place other) (sym e) (at_left pending (number ∷ []) a.place other a.at) }) ] ];
    fewer = (let r = fewer_unmarked marks number is in let f = m.fewer in omega (arith, r, f));
    counted = (let r = fewer_unmarked marks number is in let c = m.counted in let l : length longer ≡ length (pending ++ number ∷ []) = ap (λ (x : List ℕ). length x) e in omega (arith, r, c, l, length-append pending (number ∷ [])));
  }
    where
      here : At (set marks number true) number true
      here = at_set marks number true (within marks number false is)

      still : (other : ℕ) → At marks other true → At (set marks number true) other true
      still other at = elim (same_or_not other number) [ inl same ↦ subst (λ (n : ℕ). At (set marks number true) n true) (sym same) here | inr ne ↦ at_set_other marks number true other true ne at ]

-- what holds in a search for what starts lead to
pub record Reaching (next : Lists) (starts : List ℕ) (marks : List Bool) (pending : List ℕ) : Type 0 where
  pub whole : length marks ≡ length next
  pub sound : (number : ℕ) → At marks number true → IsReached (next_of next) starts number
  pub begun : (place number : ℕ) → At starts place number → At marks number true
  pub marked : (place number : ℕ) → At pending place number → At marks number true
  pub closed : (a b : ℕ) → At marks a true → Leads next a b → At marks b true ⊎ IsAmong pending a

pub reaching_begins : (next : Lists) (starts : List ℕ) (none : List Bool) (empty : List ℕ) (marks : List Bool) (pending : List ℕ) → none ≡ replicate (length next) false → length none ≡ length next → empty ≡ [] → IsMarking starts none empty marks pending → Reaching next starts marks pending
reaching_begins next starts none empty marks pending is_none whole is_empty m = record {
  whole = m.same_length ∙ whole;
  sound = λ number at. elim (m.from number at) [ inl old ↦ never number old | inr new ↦ record { from = number; begins = contains_at starts new.place number new.at; path = stay } ];
  begun = m.all;
  marked = λ place number at. elim (m.pending_from place number at) [ inl old ↦ (let wrong : At {X = ℕ} [] place number = subst (λ (l : List ℕ). At l place number) is_empty old in cc) | inr is ↦ is ];
  closed = λ a b at leads. elim (m.new_pending a at) [ inl old ↦ never a old | inr is ↦ inr is ];
}
  where
    never : {A : Type 0} (number : ℕ) → At none number true → A
    never number at = let wrong : true ≡ false = at_replicate (length next) false number true (subst (λ (l : List Bool). At l number true) is_none at) in cc

module _ (next : Lists) (starts : List ℕ) (marks : List Bool) (before pending : List ℕ) (number : ℕ) (r : Reaching next starts marks before) (popped : before ≡ pending ++ number ∷ []) where
  is_marked : At marks number true
  is_marked = r.marked (length pending) number (subst (λ (l : List ℕ). At l (length pending) number) (sym popped) (at_last pending number))

  pub is_below : number < length next
  is_below = let low = within marks number true is_marked in let e = r.whole in omega (arith, low, e)

  pub reaching_more : (numbers : List ℕ) (new_marks : List Bool) (new_pending : List ℕ) → numbers ≡ next_of next number → IsMarking numbers marks pending new_marks new_pending → Reaching next starts new_marks new_pending
  reaching_more numbers new_marks new_pending e m = record {
    whole = m.same_length ∙ r.whole;
    sound = λ other at. elim (m.from other at) [ inl old ↦ r.sound other old | inr new ↦ (let s = r.sound number is_marked in record { from = s.from; begins = s.begins; path = on number other s.path (subst (λ (l : List ℕ). Contains l other) e (contains_at numbers new.place other new.at)) }) ];
    begun = λ place other at. m.kept other (r.begun place other at);
    marked = λ place other at. elim (m.pending_from place other at) [ inl old ↦ m.kept other (r.marked place other (subst (λ (l : List ℕ). At l place other) (sym popped) (at_left pending (number ∷ []) place other old))) | inr is ↦ is ];
    closed = closed;
  }
    where
      kept : (a : ℕ) → IsAmong pending a → IsAmong new_pending a
      kept a is = record { place = is.place; at = m.still_pending is.place a is.at }

      asked : (a b : ℕ) → Leads next a b → IsAmong before a → At new_marks b true ⊎ IsAmong new_pending a
      asked a b leads is = elim (at_push pending number is.place a (subst (λ (l : List ℕ). At l is.place a) popped is.at)) [ inl old ↦ inr (kept a (record { place = is.place; at = old })) | inr new ↦ inl (let there = among numbers b (subst (λ (l : List ℕ). Contains l b) (sym e) (subst (λ (n : ℕ). Leads next n b) new.1 leads)) in m.all there.place b there.at) ]

      closed : (a b : ℕ) → At new_marks a true → Leads next a b → At new_marks b true ⊎ IsAmong new_pending a
      closed a b at leads = elim (m.new_pending a at) [ inl old ↦ elim (r.closed a b old leads) [ inl marked ↦ inl (m.kept b marked) | inr is ↦ asked a b leads is ] | inr is ↦ inr is ]

pub reaching_ends : (next : Lists) (starts : List ℕ) (marks : List Bool) (pending : List ℕ) → Reaching next starts marks pending → length pending ≡ 0 → (number : ℕ) → At marks number true ↔ IsReached (next_of next) starts number
reaching_ends next starts marks pending r none number = (r.sound number, λ is. walked is.from number (let a = among starts is.from is.begins in r.begun a.place is.from a.at) is.path)
  where
    walked : (a b : ℕ) → At marks a true → Walk next a b → At marks b true
    walked a _ at stay = at
    walked a _ at (on x y path step) = elim (r.closed x y (walked a x at path) step) [ inl is ↦ is | inr is ↦ (let low = within pending is.place x is.at in absurd (omega (arith, low, none))) ]
