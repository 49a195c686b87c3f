-- Outcomes one behind the other.
use Rattle.std.proofs.Common.{◌≡◌, refl, ap, ◌++◌, append_assoc, append-nil}
use Rattle.outcomes.specs.Outcome.{Lines, End, Done, Going, Wrong, Out, done, behind, after, then_do}

pub then_do-left : {A B : Type 0} (a : A) (f : A → Out B) → then_do (done a) f ≡ f a
then_do-left a f = refl

after-right : {A : Type 0} (l : Lines) (e : End A) → after l e done ≡ record { lines = l; end = e }
after-right l (Done a) = ap (λ (k : Lines). record { lines = k; end = Done a }) (append-nil l)
after-right l Going = refl
after-right l Wrong = refl

pub then_do-right : {A : Type 0} (o : Out A) → then_do o done ≡ o
then_do-right o = after-right o.lines o.end

after-behind : {A B : Type 0} (l m : Lines) (e : End A) (f : A → Out B) → after (l ++ m) e f ≡ behind l (after m e f)
after-behind l m (Done a) f = ap (λ (k : Lines). record { lines = k; end = (f a).end }) (append_assoc l m (f a).lines)
after-behind l m Going f = refl
after-behind l m Wrong f = refl

after-associative : {A B C : Type 0} (l : Lines) (e : End A) (f : A → Out B) (g : B → Out C) → then_do (after l e f) g ≡ after l e (λ a. then_do (f a) g)
after-associative l (Done a) f g = after-behind l (f a).lines (f a).end g
after-associative l Going f g = refl
after-associative l Wrong f g = refl

pub then_do-associative : {A B C : Type 0} (o : Out A) (f : A → Out B) (g : B → Out C) → then_do (then_do o f) g ≡ then_do o (λ a. then_do (f a) g)
then_do-associative o f g = after-associative o.lines o.end f g
