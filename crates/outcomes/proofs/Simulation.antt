-- Laws of `Sim`, and the agreement that follows from both of its directions.
use Rattle.std.proofs.Common.{◌≡◌, ℕ, refl, sym, ap, subst, ◌∙◌, [], ◌∷◌, ◌++◌, append_assoc, append-nil, arith}
use Rattle.outcomes.specs.Outcome.{Lines, Line, End, Done, Going, Wrong, Out, done, going, wrong, behind, after, then_do}
use Rattle.std.specs.Prelude.{◌+◌, ◌*◌}
use Rattle.outcomes.specs.Agreement.{IsPrefix, IsNotWrong, FollowsBy, Agree, Direction, forward, backward, Room, Enough, Related, Sim}

pub prefix-refl : (l : Lines) → IsPrefix l l
prefix-refl l = record { rest = []; parts = sym (append-nil l) }

pub prefix-nil : (l : Lines) → IsPrefix [] l
prefix-nil l = record { rest = l; parts = refl }

pub prefix-append : (l m : Lines) → IsPrefix l (l ++ m)
prefix-append l m = record { rest = m; parts = refl }

pub prefix-behind : (l m n : Lines) → IsPrefix m n → IsPrefix (l ++ m) (l ++ n)
prefix-behind l m n p = record { rest = p.rest; parts = ap (λ (k : Lines). l ++ k) p.parts ∙ sym (append_assoc l m p.rest) }

pub prefix-then : (l m n : Lines) → IsPrefix l m → IsPrefix l (m ++ n)
prefix-then l m n p = record { rest = p.rest ++ n; parts = ap (λ (k : Lines). k ++ n) p.parts ∙ append_assoc l p.rest n }

-- both done
pub sim_done : {A B : Type 0} (d : Direction) (E : A → B → Type 0) (a : A) (b : B) → E a b → Sim d E (done a) (done b)
sim_done forward E a b e = record { by = (refl, e) }
sim_done backward E a b e = record { by = (refl, e) }

-- a wrong first side
pub sim_wrong : {A B : Type 0} (d : Direction) (E : A → B → Type 0) (p : Out B) → Sim d E wrong p
sim_wrong forward E p = record { by = tt }
sim_wrong backward E p = record { by = tt }

-- the first side is going before it has shown anything
pub sim_over : {A B : Type 0} (E : A → B → Type 0) (p : Out B) → Sim forward E going p
sim_over E p = record { by = prefix-nil p.lines }

related_going : {A B : Type 0} (E : A → B → Type 0) (l : Lines) (e : End A) → Related {B = B} backward E l e [] Going
related_going E l (Done a) = prefix-nil l
related_going E l Going = prefix-nil l
related_going E l Wrong = tt

-- the second side is going before it has shown anything
pub sim_going : {A B : Type 0} (E : A → B → Type 0) (o : Out A) → Sim backward E o going
sim_going E o = record { by = related_going E o.lines o.end }

related_behind : {A B : Type 0} (d : Direction) (E : A → B → Type 0) (k l : Lines) (e : End A) (m : Lines) (f : End B) → Related d E l e m f → Related d E (k ++ l) e (k ++ m) f
related_behind forward E k l Wrong m f r = tt
related_behind backward E k l Wrong m f r = tt
related_behind forward E k l (Done a) m (Done b) r = (ap (λ (x : Lines). k ++ x) r.0, r.1)
related_behind backward E k l (Done a) m (Done b) r = (ap (λ (x : Lines). k ++ x) r.0, r.1)
related_behind forward E k l (Done a) m Going r = r
related_behind backward E k l (Done a) m Going r = prefix-behind k m l r
related_behind forward E k l (Done a) m Wrong r = r
related_behind backward E k l (Done a) m Wrong r = r
related_behind forward E k l Going m f r = prefix-behind k l m r
related_behind backward E k l Going m (Done b) r = r
related_behind backward E k l Going m Going r = prefix-behind k m l r
related_behind backward E k l Going m Wrong r = r

-- the same lines in front of both
pub sim_behind : {A B : Type 0} (d : Direction) (E : A → B → Type 0) (k : Lines) (o : Out A) (p : Out B) → Sim d E o p → Sim d E (behind k o) (behind k p)
sim_behind d E k o p s = record { by = related_behind d E k o.lines o.end p.lines p.end s.by }

pub sim_says : {A B : Type 0} (d : Direction) (E : A → B → Type 0) (l : Line) (a : A) (b : B) → E a b → Sim d E (behind (l ∷ []) (done a)) (behind (l ∷ []) (done b))
sim_says d E l a b e = sim_behind d E (l ∷ []) (done a) (done b) (sim_done d E a b e)

lines_after : {A B : Type 0} (k m : Lines) (e : End A) (g : A → Out B) → IsPrefix k m → IsPrefix k (after m e g).lines
lines_after k m (Done b) g p = prefix-then k m (g b).lines p
lines_after k m Going g p = p
lines_after k m Wrong g p = p

related_more : {A B : Type 0} (F : A → B → Type 0) (m l : Lines) (e : End A) → IsPrefix m l → Related {B = B} backward F l e m Going
related_more F m l (Done a) p = p
related_more F m l Going p = p
related_more F m l Wrong p = tt

related_then : {A B C D : Type 0} (d : Direction) (E : A → B → Type 0) (F : C → D → Type 0) (l : Lines) (e : End A) (m : Lines) (k : End B) (f : A → Out C) (g : B → Out D) → Related d E l e m k → ((a : A) (b : B) → E a b → Sim d F (f a) (g b)) → Sim d F (after l e f) (after m k g)
related_then forward E F l Wrong m k f g r h = record { by = tt }
related_then backward E F l Wrong m k f g r h = record { by = tt }
related_then forward E F l (Done a) m (Done b) f g r h = subst (λ (x : Lines). Sim forward F (behind l (f a)) (behind x (g b))) r.0 (sim_behind forward F l (f a) (g b) (h a b r.1))
related_then backward E F l (Done a) m (Done b) f g r h = subst (λ (x : Lines). Sim backward F (behind l (f a)) (behind x (g b))) r.0 (sim_behind backward F l (f a) (g b) (h a b r.1))
related_then forward E F l (Done a) m Going f g r h = absurd r
related_then backward E F l (Done a) m Going f g r h = record { by = related_more F m (l ++ (f a).lines) (f a).end (prefix-then m l (f a).lines r) }
related_then forward E F l (Done a) m Wrong f g r h = absurd r
related_then backward E F l (Done a) m Wrong f g r h = absurd r
related_then forward E F l Going m k f g r h = record { by = lines_after l m k g r }
related_then backward E F l Going m (Done b) f g r h = absurd r
related_then backward E F l Going m Going f g r h = record { by = r }
related_then backward E F l Going m Wrong f g r h = absurd r

-- one behind the other
pub sim_then : {A B C D : Type 0} (d : Direction) (E : A → B → Type 0) (F : C → D → Type 0) (o : Out A) (p : Out B) (f : A → Out C) (g : B → Out D) → Sim d E o p → ((a : A) (b : B) → E a b → Sim d F (f a) (g b)) → Sim d F (then_do o f) (then_do p g)
sim_then d E F o p f g s h = related_then d E F o.lines o.end p.lines p.end f g s.by h

related_weaken : {A B : Type 0} (d : Direction) (E F : A → B → Type 0) (l : Lines) (e : End A) (m : Lines) (k : End B) → ((a : A) (b : B) → E a b → F a b) → Related d E l e m k → Related d F l e m k
related_weaken forward E F l Wrong m k h r = tt
related_weaken backward E F l Wrong m k h r = tt
related_weaken forward E F l (Done a) m (Done b) h r = (r.0, h a b r.1)
related_weaken backward E F l (Done a) m (Done b) h r = (r.0, h a b r.1)
related_weaken forward E F l (Done a) m Going h r = r
related_weaken backward E F l (Done a) m Going h r = r
related_weaken forward E F l (Done a) m Wrong h r = r
related_weaken backward E F l (Done a) m Wrong h r = r
related_weaken forward E F l Going m k h r = r
related_weaken backward E F l Going m (Done b) h r = r
related_weaken backward E F l Going m Going h r = r
related_weaken backward E F l Going m Wrong h r = r

-- results that are alike by one relation are so by another that follows from it
pub sim_weaken : {A B : Type 0} (d : Direction) (E F : A → B → Type 0) (o : Out A) (p : Out B) → ((a : A) (b : B) → E a b → F a b) → Sim d E o p → Sim d F o p
sim_weaken d E F o p h s = record { by = related_weaken d E F o.lines o.end p.lines p.end h s.by }

follows_forward : {A : Type 0} (l : Lines) (e : End A) (m : Lines) (k : End A) → Related forward ◌≡◌ l e m k → IsNotWrong e → FollowsBy e (record { lines = l; end = e }) (record { lines = m; end = k })
follows_forward l (Done a) m (Done b) r h = λ i. record { lines = r.0 i; end = Done (r.1 i) }
follows_forward l (Done a) m Going r h = absurd r
follows_forward l (Done a) m Wrong r h = absurd r
follows_forward l Going m k r h = r
follows_forward l Wrong m k r h = absurd h

follows_backward : {A : Type 0} (l : Lines) (e : End A) (m : Lines) (k : End A) → Related backward ◌≡◌ l e m k → IsNotWrong e → FollowsBy k (record { lines = m; end = k }) (record { lines = l; end = e })
follows_backward l (Done a) m (Done b) r h = λ i. record { lines = sym r.0 i; end = Done (sym r.1 i) }
follows_backward l (Done a) m Going r h = r
follows_backward l (Done a) m Wrong r h = absurd r
follows_backward l Going m (Done b) r h = absurd r
follows_backward l Going m Going r h = r
follows_backward l Going m Wrong r h = absurd r
follows_backward l Wrong m k r h = absurd h

right_too : {A : Type 0} (l : Lines) (e : End A) (m : Lines) (k : End A) → Related backward ◌≡◌ l e m k → IsNotWrong e → IsNotWrong k
right_too l (Done a) m (Done b) r h = tt
right_too l (Done a) m Going r h = tt
right_too l (Done a) m Wrong r h = r
right_too l Going m (Done b) r h = tt
right_too l Going m Going r h = tt
right_too l Going m Wrong r h = r
right_too l Wrong m k r h = absurd h

-- meanings that are alike in both directions where the other has enough units, and of which the first is never wrong, agree
pub agree-from_sim : {A : Type 0} (room : Room) (one other : ℕ → Out A) → ((d : Direction) (n m : ℕ) → Enough room 0 d n m → Sim d ◌≡◌ (one n) (other m)) → ((n : ℕ) → IsNotWrong (one n).end) → Agree one other
agree-from_sim room one other sim right = record {
  there = λ n. (n + room.each * n + room.beyond, follows_forward (one n).lines (one n).end (other (n + room.each * n + room.beyond)).lines (other (n + room.each * n + room.beyond)).end (sim forward n (n + room.each * n + room.beyond) (omega arith)).by (right n));
  back = λ m. (m, follows_backward (one m).lines (one m).end (other m).lines (other m).end (sim backward m m (omega arith)).by (right m));
  one_never_wrong = right;
  other_never_wrong = λ m. right_too (one m).lines (one m).end (other m).lines (other m).end (sim backward m m (omega arith)).by (right m);
}
