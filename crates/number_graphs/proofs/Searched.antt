-- A search for components stays right.
use Rattle.std.proofs.Common.{◌≡◌, ℕ, zero, suc, ◌+◌, ◌-◌, ◌<◌, ◌≤◌, List, [], ◌∷◌, ◌++◌, refl, sym, ap, ◌∙◌, subst, length, take, arith, inl, inr}
use Rattle.std.specs.Prelude.{◌⊎◌, ◌≢◌}
use Rattle.std.proofs.Math.ListN.{set}
use Rattle.std.proofs.lemmas.List.{length-append, length-set, length-take}
use Rattle.worklist.specs.Paths.{stay, on}
use Rattle.number_graphs.specs.declared.paths.Found.{Found}
use Rattle.number_graphs.specs.declared.paths.Found.TheVariants.{Not, OnPath, Within}
use Rattle.number_graphs.specs.declared.paths.Group.{Group}
use Rattle.number_graphs.specs.Graphs.{At, Lists, next_of, Leads, Walk}
use Rattle.number_graphs.specs.Searching.{Head, IsKnown, settled, ahead, asked, Asked, IsSettled, IsSearch, group_at, JoinedGroups, AreMarked}
use Rattle.number_graphs.proofs.Places.{within, one_at, There, there, at_left, at_cases, at_right, at_last, at_push, at_take, into_take, at_set, at_set_other, from_set_other, contains_at, among}

pub le_cases : (a b : ℕ) → (a ≤ b) ⊎ (b < a)
le_cases zero b = inl (omega arith)
le_cases (suc a) zero = inr (omega arith)
le_cases (suc a) (suc b) = elim (le_cases a b) [ inl low ↦ inl (omega (arith, low)) | inr high ↦ inr (omega (arith, high)) ]

pub same_or_not : (a b : ℕ) → (a ≡ b) ⊎ (a ≢ b)
same_or_not a b = elim (le_cases a b) [ inl low ↦ elim (le_cases b a) [ inl high ↦ inl (omega (arith, low, high)) | inr less ↦ inr (λ e. absurd (omega (arith, e, less))) ] | inr more ↦ inr (λ e. absurd (omega (arith, e, more))) ]

module _ (next : Lists) where
  pub joined_walk : (a b c : ℕ) → Walk next a b → Walk next b c → Walk next a c
  joined_walk a b _ h stay = h
  joined_walk a b _ h (on x y path step) = on x y (joined_walk a b x h path) step

  pub step_walk : (a b c : ℕ) → Walk next a b → Leads next b c → Walk next a c
  step_walk a b c path step = on b c path step

  module _ (found : List Found) (members pending : List ℕ) (groups : List Group) (firsts : List ℕ) (s : IsSearch next found members pending groups firsts) where
    not_behind : (j k : ℕ) (one other : Group) → j ≤ k → At groups j one → At groups k other → (one.members ≤ other.members) × (one.pending ≤ other.pending)
    not_behind j k one other low at_one at_other = elim (same_or_not j k) [ inl e ↦ (let same : one ≡ other = one_at groups k one other (subst (λ (n : ℕ). At groups n one) e at_one) at_other in subst (λ (g : Group). (one.members ≤ g.members) × (one.pending ≤ g.pending)) same (omega arith, omega arith)) | inr ne ↦ (let r = s.in_order j k one other (omega (arith, low, ne)) at_one at_other in (omega (arith, r.0), r.1)) ]

    module _ (k : ℕ) (group : Group) (is_at : At groups k group) (is_last : k + 1 ≡ length groups) where
      pub last_greatest : (j : ℕ) (other : Group) → At groups j other → (other.members ≤ group.members) × (other.pending ≤ group.pending)
      last_greatest j other at = let low = within groups j other at in not_behind j k other group (omega (arith, low, is_last)) at is_at

      -- a member of the last group leads to each other
      pub leads_round : (i j a b : ℕ) → group.members ≤ i → group.members ≤ j → At members i a → At members j b → Walk next a b
      leads_round i j a b low_i low_j at_i at_j =
          let h = s.heads i a at_i in
          let more : group.members ≤ h.group.members = h.greatest k group is_at low_i in
          let less : h.group.members ≤ group.members = (last_greatest h.index h.group h.among).0 in
          joined_walk a h.first b h.back (s.forward h.group.members j h.first b (omega (arith, less, low_j)) h.is_first at_j)

      -- each number on the path leads to what the last group leads to
      pub reaches : (place w : ℕ) → At pending place w → group.pending ≤ place → (i a : ℕ) → At members i a → Walk next a w
      reaches place w at low i a at_i = step_walk a r.by w (elim (le_cases i r.by_place) [ inl early ↦ s.forward i r.by_place a r.by early at_i r.at | inr late ↦ leads_round i r.by_place a r.by (omega (arith, by_last, late)) by_last at_i r.at ]) r.leads
        where
          r : Asked next members groups place w
          r = s.asked place w at

          by_last : group.members ≤ r.by_place
          by_last = r.below k group is_at low

  -- the last pending reference leads to what is known
  pub looked_at : (found : List Found) (members pending : List ℕ) (groups others : List Group) (firsts : List ℕ) (w k : ℕ) (group : Group) → IsSearch next found members (pending ++ w ∷ []) groups firsts → At groups k group → k + 1 ≡ length groups → group.pending ≤ length pending → ((j : ℕ) (g : Group) → At others j g → At groups j g) → ((j : ℕ) (g : Group) → At others j g → IsKnown found members pending g w) → ((place a : ℕ) → At members place a → Head next members others place a) → IsSearch next found members pending others firsts
  looked_at found members pending groups others firsts w k group s is_at is_last low kept is_known heads = record {
    whole = s.whole;
    on_path = s.on_path;
    forward = s.forward;
    heads = heads;
    known = λ j g place a b at below member leads. by j g b at (s.known j g place a b (kept j g at) below member leads);
    asked = λ place number at. let r = s.asked place number (at_left pending (w ∷ []) place number at) in record {
      by_place = r.by_place;
      by = r.by;
      at = r.at;
      leads = r.leads;
      below = λ j g there low. r.below j g (kept j g there) low;
      above = λ j g there high. r.above j g (kept j g there) high;
    };
    begins = λ j g at. ((s.begins j g (kept j g at)).0, (let less = (last_greatest found members (pending ++ w ∷ []) groups firsts s k group is_at is_last j g (kept j g at)).1 in omega (arith, less, low)));
    in_order = λ i j one other before at_one at_other. s.in_order i j one other before (kept i one at_one) (kept j other at_other);
    settled = s.settled;
    together = s.together;
    firsts_are = s.firsts_are;
    numbered = s.numbered;
  }
    where
      by : (j : ℕ) (g : Group) (b : ℕ) → At others j g → IsKnown found members (pending ++ w ∷ []) g b → IsKnown found members pending g b
      by j g b at (settled component is) = settled component is
      by j g b at (ahead place low is) = ahead place low is
      by j g b at (asked place low is) = elim (at_push pending w place b is) [ inl old ↦ asked place low old | inr new ↦ subst (λ (n : ℕ). IsKnown found members pending g n) (sym new.1) (is_known j g at) ]

  -- it is settled
  pub discarded : (found : List Found) (members pending : List ℕ) (groups : List Group) (firsts : List ℕ) (w k component : ℕ) (group : Group) → IsSearch next found members (pending ++ w ∷ []) groups firsts → At groups k group → k + 1 ≡ length groups → group.pending ≤ length pending → At found w (Within component) → IsSearch next found members pending groups firsts
  discarded found members pending groups firsts w k component group s is_at is_last low is = looked_at found members pending groups groups firsts w k group s is_at is_last low (λ j g at. at) (λ j g at. settled component is) s.heads

  -- it is on the path
  pub joined : (found : List Found) (members pending : List ℕ) (groups others : List Group) (firsts : List ℕ) (w k path_place : ℕ) (group : Group) → IsSearch next found members (pending ++ w ∷ []) groups firsts → At groups k group → k + 1 ≡ length groups → group.pending ≤ length pending → At found w (OnPath path_place) → JoinedGroups path_place groups others → IsSearch next found members pending others firsts
  joined found members pending groups others firsts w k path_place group s is_at is_last low is r = looked_at found members pending groups others firsts w k group s is_at is_last low r.kept (λ j g at. ahead path_place (early j g at) member) heads
    where
      member : At members path_place w
      member = (s.on_path path_place w).0 is

      early : (j : ℕ) (g : Group) → At others j g → g.members ≤ path_place
      early j g at =
          let inside = within others j g at in
          let t = there others (length others - 1) (omega (arith, inside)) in
          let less = (not_behind found members (pending ++ w ∷ []) groups firsts s j (length others - 1) g t.item (omega (arith, inside)) (r.kept j g at) (r.kept (length others - 1) t.item t.at)).0 in
          let last = r.last (length others - 1) t.item t.at (omega (arith, inside)) in
          omega (arith, less, last)

      first_head : Head next members groups path_place w
      first_head = s.heads path_place w member

      first_kept : At others first_head.index first_head.group
      first_kept = elim (r.taken first_head.index first_head.group first_head.among) [ inl there ↦ there | inr past ↦ (let low = first_head.below in absurd (omega (arith, low, past))) ]

      old_head : (place a : ℕ) → (h : Head next members groups place a) → At others h.index h.group → Head next members others place a
      old_head place a h at = record { index = h.index; group = h.group; among = at; below = h.below; first = h.first; is_first = h.is_first; back = h.back; greatest = λ j g there. h.greatest j g (r.kept j g there) }

      new_head : (place a : ℕ) → At members place a → path_place < place → Head next members others place a
      new_head place a at past = record {
        index = first_head.index;
        group = first_head.group;
        among = first_kept;
        below = (let low = first_head.below in omega (arith, low, past));
        first = first_head.first;
        is_first = first_head.is_first;
        back = joined_walk a w first_head.first (reaches found members (pending ++ w ∷ []) groups firsts s k group is_at is_last (length pending) w (at_last pending w) low place a at) first_head.back;
        greatest = λ j g there below. first_head.greatest j g (r.kept j g there) (early j g there);
      }

      heads : (place a : ℕ) → At members place a → Head next members others place a
      heads place a at = elim (r.taken (s.heads place a at).index (s.heads place a at).group (s.heads place a at).among) [ inl there ↦ old_head place a (s.heads place a at) there | inr past ↦ new_head place a at (let low = (s.heads place a at).below in omega (arith, low, past)) ]

  -- a new number, to which all on the path lead
  module _ (found : List Found) (members before pending : List ℕ) (groups : List Group) (firsts : List ℕ) (w : ℕ) (s : IsSearch next found members before groups firsts) (unknown : At found w Not) (split : (place x : ℕ) → At before place x → At pending place x ⊎ (x ≡ w)) (kept : (place x : ℕ) → At pending place x → At before place x) (reach : (place a : ℕ) → At members place a → Walk next a w) (low : (k : ℕ) (g : Group) → At groups k g → g.pending ≤ length pending) where
    abbrev place_of : ℕ
    place_of = length members

    abbrev new_found : List Found
    new_found = set found w (OnPath place_of)

    abbrev new_members : List ℕ
    new_members = members ++ w ∷ []

    abbrev new_pending : List ℕ
    new_pending = pending ++ next_of next w

    abbrev new_group : Group
    new_group = group_at place_of (length pending)

    abbrev new_groups : List Group
    new_groups = groups ++ new_group ∷ []

    not_new : (v : ℕ) (x : Found) → At found v x → x ≢ Not → v ≢ w
    not_new v x at ne e = ne (one_at found w x Not (subst (λ (n : ℕ). At found n x) e at) unknown)

    is_new : At new_found w (OnPath place_of)
    is_new = at_set found w (OnPath place_of) (within found w Not unknown)

    into_within : (v component : ℕ) → At found v (Within component) → At new_found v (Within component)
    into_within v component at = at_set_other found w (OnPath place_of) v (Within component) (not_new v (Within component) at (λ e. cc)) at

    from_within : (v component : ℕ) → At new_found v (Within component) → At found v (Within component)
    from_within v component at = elim (same_or_not v w) [ inl e ↦ (let wrong : Within component ≡ OnPath place_of = one_at new_found w (Within component) (OnPath place_of) (subst (λ (n : ℕ). At new_found n (Within component)) e at) is_new in cc) | inr ne ↦ from_set_other found w (OnPath place_of) v (Within component) ne at ]

    new_at_end : At new_members place_of w
    new_at_end = at_last members w

    to_path : (place v : ℕ) → At new_found v (OnPath place) → At new_members place v
    to_path place v at = elim (same_or_not v w) [ inl e ↦ here e (one_at new_found w (OnPath place) (OnPath place_of) (subst (λ (n : ℕ). At new_found n (OnPath place)) e at) is_new) | inr ne ↦ at_left members (w ∷ []) place v ((s.on_path place v).0 (from_set_other found w (OnPath place_of) v (OnPath place) ne at)) ]
      where
        here : v ≡ w → OnPath place ≡ OnPath place_of → At new_members place v
        here e same = let there : place ≡ place_of = cc in subst (λ (n : ℕ). At new_members n v) (sym there) (subst (λ (n : ℕ). At new_members place_of n) (sym e) new_at_end)

    from_path : (place v : ℕ) → At new_members place v → At new_found v (OnPath place)
    from_path place v at = elim (at_push members w place v at) [ inl old ↦ (let here = (s.on_path place v).1 old in at_set_other found w (OnPath place_of) v (OnPath place) (not_new v (OnPath place) here (λ e. cc)) here) | inr new ↦ subst (λ (n : ℕ). At new_found v (OnPath n)) (sym new.0) (subst (λ (n : ℕ). At new_found n (OnPath place_of)) (sym new.1) is_new) ]

    walks : (i j a b : ℕ) → i ≤ j → At new_members i a → At new_members j b → Walk next a b
    walks i j a b in_order at_i at_j = by (at_push members w i a at_i) (at_push members w j b at_j)
      where
        by : At members i a ⊎ ((i ≡ place_of) × (a ≡ w)) → At members j b ⊎ ((j ≡ place_of) × (b ≡ w)) → Walk next a b
        by (inl x) (inl y) = s.forward i j a b in_order x y
        by (inl x) (inr y) = subst (λ (n : ℕ). Walk next a n) (sym y.1) (reach i a x)
        by (inr x) (inl y) = let inside = within members j b y in let e = x.0 in absurd (omega (arith, inside, e))
        by (inr x) (inr y) = subst (λ (n : ℕ). Walk next a n) (x.1 ∙ sym y.1) stay

    old_below : (k : ℕ) (g : Group) → At groups k g → g.members < place_of
    old_below k g at = (s.begins k g at).0

    old_head : (place number : ℕ) → At members place number → Head next new_members new_groups place number
    old_head place number at = let h = s.heads place number at in record {
      index = h.index;
      group = h.group;
      among = at_left groups (new_group ∷ []) h.index h.group h.among;
      below = h.below;
      first = h.first;
      is_first = at_left members (w ∷ []) h.group.members h.first h.is_first;
      back = h.back;
      greatest = λ k g there below. elim (at_push groups new_group k g there) [ inl old ↦ h.greatest k g old below | inr new ↦ (let inside = within members place number at in let e : g.members ≡ place_of = ap (λ (x : Group). x.members) new.1 in absurd (omega (arith, inside, e, below))) ];
    }

    new_head : Head next new_members new_groups place_of w
    new_head = record {
      index = length groups;
      group = new_group;
      among = at_last groups new_group;
      below = omega arith;
      first = w;
      is_first = new_at_end;
      back = stay;
      greatest = λ k g there below. below;
    }

    new_heads : (place number : ℕ) → At new_members place number → Head next new_members new_groups place number
    new_heads place number at = elim (at_push members w place number at) [ inl old ↦ old_head place number old | inr new ↦ subst (λ (n : ℕ). Head next new_members new_groups n number) (sym new.0) (subst (λ (n : ℕ). Head next new_members new_groups place_of n) (sym new.1) new_head) ]

    asked_now : (g : Group) (b : ℕ) → g.pending ≤ length pending → Leads next w b → IsKnown new_found new_members new_pending g b
    asked_now g b less leads = let a = among (next_of next w) b leads in asked (length pending + a.place) (omega (arith, less)) (at_right pending (next_of next w) (length pending + a.place) a.place b a.at refl)

    still_known : (k : ℕ) (g : Group) (b : ℕ) → At groups k g → IsKnown found members before g b → IsKnown new_found new_members new_pending g b
    still_known k g b at (settled component is) = settled component (into_within b component is)
    still_known k g b at (ahead place less is) = ahead place less (at_left members (w ∷ []) place b is)
    still_known k g b at (asked place less is) = elim (split place b is) [ inl there ↦ asked place less (at_left pending (next_of next w) place b there) | inr e ↦ ahead place_of (let r = old_below k g at in omega (arith, r)) (subst (λ (n : ℕ). At new_members place_of n) (sym e) new_at_end) ]

    new_known : (k : ℕ) (g : Group) (place a b : ℕ) → At new_groups k g → g.members ≤ place → At new_members place a → Leads next a b → IsKnown new_found new_members new_pending g b
    new_known k g place a b at below member leads = by (at_push groups new_group k g at) (at_push members w place a member)
      where
        by : At groups k g ⊎ ((k ≡ length groups) × (g ≡ new_group)) → At members place a ⊎ ((place ≡ place_of) × (a ≡ w)) → IsKnown new_found new_members new_pending g b
        by (inl old) (inl x) = still_known k g b old (s.known k g place a b old below x leads)
        by (inl old) (inr x) = asked_now g b (low k g old) (subst (λ (n : ℕ). Leads next n b) x.1 leads)
        by (inr new) (inl x) = let inside = within members place a x in let e : g.members ≡ place_of = ap (λ (x : Group). x.members) new.1 in absurd (omega (arith, inside, e, below))
        by (inr new) (inr x) = let e : g.pending ≡ length pending = ap (λ (x : Group). x.pending) new.1 in asked_now g b (omega (arith, e)) (subst (λ (n : ℕ). Leads next n b) x.1 leads)

    old_asked : (place number : ℕ) → At pending place number → Asked next new_members new_groups place number
    old_asked place number at = let r = s.asked place number (kept place number at) in let inside = within pending place number at in record {
      by_place = r.by_place;
      by = r.by;
      at = at_left members (w ∷ []) r.by_place r.by r.at;
      leads = r.leads;
      below = λ k g there less. elim (at_push groups new_group k g there) [ inl old ↦ r.below k g old less | inr new ↦ (let e : g.pending ≡ length pending = ap (λ (x : Group). x.pending) new.1 in absurd (omega (arith, inside, e, less))) ];
      above = λ k g there more. elim (at_push groups new_group k g there) [ inl old ↦ r.above k g old more | inr new ↦ (let e : g.members ≡ place_of = ap (λ (x : Group). x.members) new.1 in let inside = within members r.by_place r.by r.at in omega (arith, e, inside)) ];
    }

    now_asked : (place number : ℕ) → length pending ≤ place → Leads next w number → Asked next new_members new_groups place number
    now_asked place number past leads = record {
      by_place = place_of;
      by = w;
      at = new_at_end;
      leads = leads;
      below = λ k g there less. elim (at_push groups new_group k g there) [ inl old ↦ (let r = old_below k g old in omega (arith, r)) | inr new ↦ (let e : g.members ≡ place_of = ap (λ (x : Group). x.members) new.1 in omega (arith, e)) ];
      above = λ k g there more. elim (at_push groups new_group k g there) [ inl old ↦ (let r = low k g old in absurd (omega (arith, r, more, past))) | inr new ↦ (let e : g.pending ≡ length pending = ap (λ (x : Group). x.pending) new.1 in absurd (omega (arith, e, more, past))) ];
    }

    new_asked : (place number : ℕ) → At new_pending place number → Asked next new_members new_groups place number
    new_asked place number at = elim (at_cases pending (next_of next w) place number at) [ inl old ↦ old_asked place number old | inr b ↦ (let e = b.is in now_asked place number (omega (arith, e)) (contains_at (next_of next w) b.place number b.at)) ]

    new_begins : (k : ℕ) (g : Group) → At new_groups k g → (g.members < length new_members) × (g.pending ≤ length new_pending)
    new_begins k g at = elim (at_push groups new_group k g at) [ inl old ↦ (let r = old_below k g old in let t = low k g old in (omega (arith, r, length-append members (w ∷ [])), omega (arith, t, length-append pending (next_of next w)))) | inr new ↦ (let e : g.members ≡ place_of = ap (λ (x : Group). x.members) new.1 in let f : g.pending ≡ length pending = ap (λ (x : Group). x.pending) new.1 in (omega (arith, e, length-append members (w ∷ [])), omega (arith, f, length-append pending (next_of next w)))) ]

    new_order : (j k : ℕ) (one other : Group) → j < k → At new_groups j one → At new_groups k other → (one.members < other.members) × (one.pending ≤ other.pending)
    new_order j k one other before_it at_j at_k = by (at_push groups new_group j one at_j) (at_push groups new_group k other at_k)
      where
        by : At groups j one ⊎ ((j ≡ length groups) × (one ≡ new_group)) → At groups k other ⊎ ((k ≡ length groups) × (other ≡ new_group)) → (one.members < other.members) × (one.pending ≤ other.pending)
        by (inl x) (inl y) = s.in_order j k one other before_it x y
        by (inl x) (inr y) = let e : other.members ≡ place_of = ap (λ (x : Group). x.members) y.1 in let f : other.pending ≡ length pending = ap (λ (x : Group). x.pending) y.1 in let r = old_below j one x in let t = low j one x in (omega (arith, e, r), omega (arith, f, t))
        by (inr x) (inl y) = let inside = within groups k other y in let e = x.0 in absurd (omega (arith, inside, e, before_it))
        by (inr x) (inr y) = let e = x.0 in let f = y.0 in absurd (omega (arith, e, f, before_it))

    pub entered : IsSearch next new_found new_members new_pending new_groups firsts
    entered = record {
      whole = length-set found w (OnPath place_of) ∙ s.whole;
      on_path = λ place number. (to_path place number, from_path place number);
      forward = walks;
      heads = new_heads;
      known = new_known;
      asked = new_asked;
      begins = new_begins;
      in_order = new_order;
      settled = λ a b component at leads. let r = s.settled a b component (from_within a component at) leads in record { component = r.component; early = r.early; is = into_within b r.component r.is };
      together = λ a b component at_a at_b. s.together a b component (from_within a component at_a) (from_within b component at_b);
      firsts_are = λ component number at. into_within number component (s.firsts_are component number at);
      numbered = λ number component at. s.numbered number component (from_within number component at);
    }

  -- the last group becomes a component
  module _ (found marked : List Found) (members pending : List ℕ) (groups : List Group) (firsts : List ℕ) (k : ℕ) (group : Group) (first : ℕ) (s : IsSearch next found members pending groups firsts) (is_at : At groups k group) (is_last : k + 1 ≡ length groups) (none : length pending ≤ group.pending) (m : AreMarked (length firsts) group.members (length members) found marked) (is_first : At members group.members first) where
    abbrev shorter : List ℕ
    shorter = take group.members members

    abbrev fewer : List Group
    fewer = take k groups

    component_now : (place v : ℕ) → group.members ≤ place → At members place v → At marked v (Within (length firsts))
    component_now place v low at = m.inside v place ((s.on_path place v).1 at) low (within members place v at)

    -- a member of the last group
    record IsMember (v component : ℕ) : Type 0 where
      place : ℕ
      low : group.members ≤ place
      at : At members place v
      is : component ≡ length firsts

    was : (v : ℕ) (y : Found) → At marked v y → There found v
    was v y at = let inside = within marked v y at in there found v (let e = m.same_length in omega (arith, inside, e))

    was_within : (v component : ℕ) → At marked v (Within component) → At found v (Within component) ⊎ IsMember v component
    was_within v component at = by (was v (Within component) at).item (was v (Within component) at).at
      where
        placed : (place : ℕ) → At found v (OnPath place) → (group.members ≤ place) ⊎ (place < group.members) → IsMember v component
        placed place here (inl low) = let member = (s.on_path place v).0 here in let e : Within component ≡ Within (length firsts) = one_at marked v (Within component) (Within (length firsts)) at (component_now place v low member) in record { place = place; low = low; at = member; is = cc }
        placed place here (inr high) = let e : Within component ≡ OnPath place = one_at marked v (Within component) (OnPath place) at (m.before v place here high) in cc

        by : (x : Found) → At found v x → At found v (Within component) ⊎ IsMember v component
        by Not is = let e : Within component ≡ Not = one_at marked v (Within component) Not at (m.not_yet v is) in cc
        by (OnPath place) is = inr (placed place is (le_cases group.members place))
        by (Within other) is = let e : Within component ≡ Within other = one_at marked v (Within component) (Within other) at (m.within v other is) in let same : component ≡ other = cc in inl (subst (λ (n : ℕ). At found v (Within n)) (sym same) is)

    was_on_path : (v place : ℕ) → At marked v (OnPath place) → At shorter place v
    was_on_path v place at = by (was v (OnPath place) at).item (was v (OnPath place) at).at
      where
        placed : (other : ℕ) → At found v (OnPath other) → (group.members ≤ other) ⊎ (other < group.members) → At shorter place v
        placed other here (inl low) = let e : OnPath place ≡ Within (length firsts) = one_at marked v (OnPath place) (Within (length firsts)) at (component_now other v low ((s.on_path other v).0 here)) in cc
        placed other here (inr high) = let e : OnPath place ≡ OnPath other = one_at marked v (OnPath place) (OnPath other) at (m.before v other here high) in let same : place ≡ other = cc in subst (λ (n : ℕ). At shorter n v) (sym same) (into_take group.members members other v ((s.on_path other v).0 here) high)

        by : (x : Found) → At found v x → At shorter place v
        by Not is = let e : OnPath place ≡ Not = one_at marked v (OnPath place) Not at (m.not_yet v is) in cc
        by (OnPath other) is = placed other is (le_cases group.members other)
        by (Within other) is = let e : OnPath place ≡ Within other = one_at marked v (OnPath place) (Within other) at (m.within v other is) in cc

    still_on_path : (v place : ℕ) → At shorter place v → At marked v (OnPath place)
    still_on_path v place at = let r = at_take group.members members place v at in m.before v place ((s.on_path place v).1 r.0) r.1

    left_head : (place v : ℕ) → At shorter place v → Head next shorter fewer place v
    left_head place v at =
        let r = at_take group.members members place v at in
        let h = s.heads place v r.0 in
        let low : h.group.members < group.members = (let less = h.below in omega (arith, less, r.1)) in
        record {
          index = h.index;
          group = h.group;
          among = into_take k groups h.index h.group h.among (earlier h.index h.group h.among low);
          below = h.below;
          first = h.first;
          is_first = into_take group.members members h.group.members h.first h.is_first low;
          back = h.back;
          greatest = λ j g there below. h.greatest j g (at_take k groups j g there).0 below;
        }
      where
        earlier : (j : ℕ) (g : Group) → At groups j g → g.members < group.members → j < k
        earlier j g at low = elim (same_or_not j k) [ inl e ↦ (let same : g ≡ group = one_at groups k g group (subst (λ (n : ℕ). At groups n g) e at) is_at in let equal : g.members ≡ group.members = ap (λ (x : Group). x.members) same in absurd (omega (arith, equal, low))) | inr ne ↦ (let inside = within groups j g at in omega (arith, inside, ne, is_last)) ]

    left_known : (b : ℕ) (g : Group) → IsKnown found members pending g b → IsKnown marked shorter pending g b
    left_known b g (settled component is) = settled component (m.within b component is)
    left_known b g (ahead place low is) = elim (le_cases group.members place) [ inl past ↦ settled (length firsts) (component_now place b past is) | inr early ↦ ahead place low (into_take group.members members place b is early) ]
    left_known b g (asked place low is) = asked place low is

    left_asked : (place number : ℕ) → At pending place number → Asked next shorter fewer place number
    left_asked place number at = let r = s.asked place number at in let inside = within pending place number at in record {
      by_place = r.by_place;
      by = r.by;
      at = into_take group.members members r.by_place r.by r.at (r.above k group is_at (omega (arith, inside)));
      leads = r.leads;
      below = λ j g there low. r.below j g (at_take k groups j g there).0 low;
      above = λ j g there high. r.above j g (at_take k groups j g there).0 high;
    }

    left_begins : (j : ℕ) (g : Group) → At fewer j g → (g.members < length shorter) × (g.pending ≤ length pending)
    left_begins j g at = let r = at_take k groups j g at in let o = (s.in_order j k g group r.1 r.0 is_at).0 in let inside = within members group.members first is_first in (omega (arith, o, inside, length-take group.members members), (s.begins j g r.0).1)

    -- what a member of the last group leads to is settled now
    member_settled : (a b : ℕ) → IsMember a (length firsts) → Leads next a b → IsSettled marked (length firsts) b
    member_settled a b r leads = by (s.known k group r.place a b is_at r.low r.at leads)
      where
        by : IsKnown found members pending group b → IsSettled marked (length firsts) b
        by (settled component is) = let less = s.numbered b component is in record { component = component; early = omega (arith, less); is = m.within b component is }
        by (ahead place low is) = record { component = length firsts; early = omega arith; is = component_now place b low is }
        by (asked place low is) = let inside = within pending place b is in absurd (omega (arith, inside, low))

    left_settled : (a b component : ℕ) → At marked a (Within component) → Leads next a b → IsSettled marked component b
    left_settled a b component at leads = elim (was_within a component at) [ inl old ↦ (let r = s.settled a b component old leads in record { component = r.component; early = r.early; is = m.within b r.component r.is }) | inr new ↦ subst (λ (n : ℕ). IsSettled marked n b) (sym new.is) (member_settled a b (record { place = new.place; low = new.low; at = new.at; is = refl }) leads) ]

    left_together : (a b component : ℕ) → At marked a (Within component) → At marked b (Within component) → Walk next a b
    left_together a b component at_a at_b = by (was_within a component at_a) (was_within b component at_b)
      where
        by : At found a (Within component) ⊎ IsMember a component → At found b (Within component) ⊎ IsMember b component → Walk next a b
        by (inl x) (inl y) = s.together a b component x y
        by (inl x) (inr y) = let less = s.numbered a component x in let e = y.is in absurd (omega (arith, less, e))
        by (inr x) (inl y) = let less = s.numbered b component y in let e = x.is in absurd (omega (arith, less, e))
        by (inr x) (inr y) = leads_round found members pending groups firsts s k group is_at is_last x.place y.place a b x.low y.low x.at y.at

    pub left : IsSearch next marked shorter pending fewer (firsts ++ first ∷ [])
    left = record {
      whole = m.same_length ∙ s.whole;
      on_path = λ place number. (was_on_path number place, still_on_path number place);
      forward = λ i j a b in_order at_i at_j. s.forward i j a b in_order (at_take group.members members i a at_i).0 (at_take group.members members j b at_j).0;
      heads = left_head;
      known = λ j g place a b at below member leads. left_known b g (s.known j g place a b (at_take k groups j g at).0 below (at_take group.members members place a member).0 leads);
      asked = left_asked;
      begins = left_begins;
      in_order = λ i j one other before at_i at_j. s.in_order i j one other before (at_take k groups i one at_i).0 (at_take k groups j other at_j).0;
      settled = left_settled;
      together = left_together;
      firsts_are = λ component number at. elim (at_push firsts first component number at) [ inl old ↦ m.within number component (s.firsts_are component number old) | inr new ↦ subst (λ (n : ℕ). At marked number (Within n)) (sym new.0) (subst (λ (n : ℕ). At marked n (Within (length firsts))) (sym new.1) (component_now group.members first (omega arith) is_first)) ];
      numbered = λ number component at. elim (was_within number component at) [ inl old ↦ (let less = s.numbered number component old in omega (arith, less, length-append firsts (first ∷ []))) | inr new ↦ (let e = new.is in omega (arith, e, length-append firsts (first ∷ []))) ];
    }

  pub begins_right : (found : List Found) (members pending : List ℕ) (groups : List Group) (firsts : List ℕ) → length found ≡ length next → ((number : ℕ) (x : Found) → At found number x → x ≡ Not) → members ≡ [] → pending ≡ [] → groups ≡ [] → firsts ≡ [] → IsSearch next found members pending groups firsts
  begins_right found members pending groups firsts whole unknown no_member no_pending no_group no_first = record {
    whole = whole;
    on_path = λ place number. (λ at. (let e : OnPath place ≡ Not = unknown number (OnPath place) at in cc), λ at. empty members place number no_member at);
    forward = λ i j a b in_order at_i at_j. empty members i a no_member at_i;
    heads = λ place number at. empty members place number no_member at;
    known = λ k group place a b at below member leads. empty members place a no_member member;
    asked = λ place number at. empty pending place number no_pending at;
    begins = λ k group at. empty groups k group no_group at;
    in_order = λ j k one other before at_j at_k. empty groups j one no_group at_j;
    settled = λ a b component at leads. (let e : Within component ≡ Not = unknown a (Within component) at in cc);
    together = λ a b component at_a at_b. (let e : Within component ≡ Not = unknown a (Within component) at_a in cc);
    firsts_are = λ component number at. empty firsts component number no_first at;
    numbered = λ number component at. (let e : Within component ≡ Not = unknown number (Within component) at in cc);
  }
    where
      empty : {X A : Type 0} (xs : List X) (i : ℕ) (x : X) → xs ≡ [] → At xs i x → A
      empty {X} xs i x e at = let n : At {X = X} [] i x = subst (λ (l : List X). At l i x) e at in cc
