-- Runs of tasks, one behind another.
use Rattle.std.proofs.Common.{◌≡◌, List, [], ◌∷◌, ◌++◌, Some, None, Result, Ok, Err, refl, sym, ap, ◌∙◌, subst, append_assoc, append-nil}
use Rattle.sj_ask.specs.declared.questions.Question.{Question}
use Rattle.sj_ask.specs.declared.questions.Answer.{Answer}
use Rattle.sj_ask.specs.Apart.{Exchange}
use Rattle.sj_ask.specs.Told.{Told, told_more}
use Rattle.sj_ask.specs.Tasks.{Asking, done, stop, ask, ◌>>=◌}
use Rattle.sj_ask.specs.Runs.{Comes, Ran}

told-nil : (t : Told) → t ≡ told_more t []
told-nil None = refl
told-nil (Some log) = ap (λ (xs : List Exchange). Some (record log { asked = xs })) (sym (append-nil log.asked))

told-append : (t : Told) (log more : List Exchange) → told_more (told_more t log) more ≡ told_more t (log ++ more)
told-append None log more = refl
told-append (Some kept) log more = ap (λ (xs : List Exchange). Some (record kept { asked = xs })) (append_assoc kept.asked log more)

comes-bind : {E A B : Type 0} (Is : Question → Answer → Type 0) (m : Asking E A) (k : A → Asking E B) (a : A) (r : Result B E) (log more : List Exchange) → Comes Is m (Ok a) log → Comes Is (k a) r more → Comes Is (m >>= k) r (log ++ more)
unfolding ◌>>=◌
comes-bind Is (done b) k a r log more h n =
    let e : a ≡ b = cc in
    let whole : more ≡ log ++ more = sym (ap (λ (l : List Exchange). l ++ more) h.1) in
    subst (λ (l : List Exchange). Comes Is (k b) r l) whole (subst (λ x. Comes Is (k x) r more) e n)
comes-bind Is (stop e) k a r log more h n = let no : Ok a ≡ Err e = h.0 in cc
comes-bind Is (ask q next) k a r log more h n = record {
  given = h.given;
  is_answer = h.is_answer;
  others = h.others ++ more;
  rest = comes-bind Is (next h.given) k a r h.others more h.rest n;
  log_is = ap (λ (l : List Exchange). l ++ more) h.log_is;
}

comes-stop : {E A B : Type 0} (Is : Question → Answer → Type 0) (m : Asking E A) (k : A → Asking E B) (e : E) (log : List Exchange) → Comes Is m (Err e) log → Comes Is (m >>= k) (Err e) log
unfolding ◌>>=◌
comes-stop Is (done b) k e log h = let no : Err e ≡ Ok b = h.0 in cc
comes-stop Is (stop d) k e log h = let s : e ≡ d = cc in (ap Err s, h.1)
comes-stop Is (ask q next) k e log h = record { given = h.given; is_answer = h.is_answer; others = h.others; rest = comes-stop Is (next h.given) k e h.others h.rest; log_is = h.log_is }

pub ran-done : {E A : Type 0} (Is : Question → Answer → Type 0) (a : A) (t : Told) → Ran {E = E} Is (done a) (Ok a) t t
ran-done Is a t = record { log = []; comes = (refl, refl); told = told-nil t }

pub ran-refused : {E A : Type 0} (Is : Question → Answer → Type 0) (e : E) (t : Told) → Ran {A = A} Is (stop e) (Err e) t t
ran-refused Is e t = record { log = []; comes = (refl, refl); told = told-nil t }

pub ran-bind : {E A B : Type 0} (Is : Question → Answer → Type 0) (m : Asking E A) (k : A → Asking E B) (a : A) (r : Result B E) (s t u : Told) → Ran Is m (Ok a) s t → Ran Is (k a) r t u → Ran Is (m >>= k) r s u
ran-bind Is m k a r s t u h n = record {
  log = h.log ++ n.log;
  comes = comes-bind Is m k a r h.log n.log h.comes n.comes;
  told = n.told ∙ ap (λ (x : Told). told_more x n.log) h.told ∙ told-append s h.log n.log;
}

pub ran-stop : {E A B : Type 0} (Is : Question → Answer → Type 0) (m : Asking E A) (k : A → Asking E B) (e : E) (s t : Told) → Ran Is m (Err e) s t → Ran Is (m >>= k) (Err e) s t
ran-stop Is m k e s t h = record { log = h.log; comes = comes-stop Is m k e h.log h.comes; told = h.told }

-- a question is answered, and the answer taken apart
pub ran-ask : {E A : Type 0} (Is : Question → Answer → Type 0) (q : Question) (seen : Answer → A) (x : Answer) (s t : Told) → Is q x → t ≡ told_more s ((q, x) ∷ []) → Ran {E = E} Is (ask q (λ y. done (seen y))) (Ok (seen x)) s t
ran-ask Is q seen x s t is told = record { log = (q, x) ∷ []; comes = record { given = x; is_answer = is; others = []; rest = (refl, refl); log_is = refl }; told = told }

-- how a task with another behind it came to its end: through the first, or no further
pub data Parted {E A B : Type 0} (Is : Question → Answer → Type 0) (m : Asking E A) (k : A → Asking E B) (r : Result B E) (log : List Exchange) : Type 0 where
  went : (a : A) (one two : List Exchange) → Comes Is m (Ok a) one → Comes Is (k a) r two → log ≡ one ++ two → Parted Is m k r log
  stopped : (e : E) → Comes Is m (Err e) log → r ≡ Err e → Parted Is m k r log

pub comes-parted : {E A B : Type 0} (Is : Question → Answer → Type 0) (m : Asking E A) (k : A → Asking E B) (r : Result B E) (log : List Exchange) → Comes Is (m >>= k) r log → Parted Is m k r log
unfolding ◌>>=◌
comes-parted Is (done a) k r log h = went a [] log (refl, refl) h refl
comes-parted Is (stop e) k r log h = stopped e (refl, h.1) h.0
comes-parted {E} {A} {B} Is (ask q next) k r log h = go (comes-parted Is (next h.given) k r h.others h.rest)
  where
    go : Parted Is (next h.given) k r h.others → Parted Is (ask q next) k r log
    go (went a one two first second e) = went a ((q, h.given) ∷ one) two (record { given = h.given; is_answer = h.is_answer; others = one; rest = first; log_is = refl }) second (h.log_is ∙ ap (λ (l : List Exchange). (q, h.given) ∷ l) e)
    go (stopped e first is) = stopped e (record { given = h.given; is_answer = h.is_answer; others = h.others; rest = first; log_is = h.log_is }) is
