-- Tasks that ask the same and go on alike: where their questions have the same answers, they ask the same and end alike.
use Rattle.std.proofs.Common.{◌≡◌, List, ◌∷◌, Result, Ok, Err, refl, sym, ap, ◌∙◌, subst}
use Rattle.std.proofs.lemmas.List.Elements.{All-head, All-tail}
use Rattle.sj_ask.specs.declared.questions.Question.{Question}
use Rattle.sj_ask.specs.Stands.{Stand}
use Rattle.sj_ask.specs.Answers.{IsAnswer}
use Rattle.sj_ask.specs.Apart.{Exchange, answer_apart, asked_apart}
use Rattle.sj_ask.specs.Tasks.{Asking, done, stop, ask, ◌>>=◌}
use Rattle.sj_ask.specs.Runs.{Comes}
use Rattle.sj_ask.specs.Laws.{HoldsIn, Alike, SameEnd, IsSameRun}
use Rattle.sj_ask.proofs.Asked.{answers_are_one}

pub same_run : {E A B : Type 0} (R : A → B → Type 0) (s t : Stand) (m : Asking E A) (n : Asking E B) (r : Result A E) (r' : Result B E) (log log' : List Exchange) → Alike R m n → Comes (IsAnswer s) m r log → HoldsIn t log → Comes (IsAnswer t) n r' log' → IsSameRun R r log r' log'
same_run R s t (done a) (done b) r r' log log' alike h holds k = record {
  asked = ap asked_apart (k.1 ∙ sym h.1);
  ends = subst (λ x. SameEnd R x r') (sym h.0) (subst (λ y. SameEnd R (Ok a) y) (sym k.0) alike);
}
same_run {E} {A} {B} R s t (stop d) (stop e) r r' log log' alike h holds k = record {
  asked = ap asked_apart (k.1 ∙ sym h.1);
  ends = subst (λ x. SameEnd R x r') (sym h.0) (subst (λ y. SameEnd {E = E} {A = A} {B = B} R (Err d) y) (sym k.0) alike);
}
same_run R s t (ask q next) (ask p later) r r' log log' alike h holds k =
    let there : HoldsIn t ((q, h.given) ∷ h.others) = subst (HoldsIn t) h.log_is holds in
    let first : IsAnswer t q h.given = All-head (λ x. IsAnswer t x.0 x.1) (q, h.given) h.others there in
    let second : IsAnswer t q k.given = subst (λ (x : Question). IsAnswer t x k.given) (sym alike.0) k.is_answer in
    let one : answer_apart h.given ≡ answer_apart k.given = answers_are_one t q h.given k.given first second in
    let rest = same_run R s t (next h.given) (later k.given) r r' h.others k.others (alike.1 h.given k.given one) h.rest (All-tail (λ x. IsAnswer t x.0 x.1) (q, h.given) h.others there) k.rest in
    record {
      asked = ap asked_apart k.log_is ∙ (λ i. (sym alike.0 i, sym one i) ∷ rest.asked i) ∙ sym (ap asked_apart h.log_is);
      ends = rest.ends;
    }
same_run R s t _ _ r r' log log' alike h holds k = absurd alike

-- what is asked in one world is asked in another that gives these answers
pub held_runs : {E A : Type 0} (s t : Stand) (m : Asking E A) (r : Result A E) (log : List Exchange) → Comes (IsAnswer s) m r log → HoldsIn t log → Comes (IsAnswer t) m r log
held_runs s t (done a) r log h holds = h
held_runs s t (stop e) r log h holds = h
held_runs s t (ask q next) r log h holds =
    let there : HoldsIn t ((q, h.given) ∷ h.others) = subst (HoldsIn t) h.log_is holds in
    record {
      given = h.given;
      is_answer = All-head (λ x. IsAnswer t x.0 x.1) (q, h.given) h.others there;
      others = h.others;
      rest = held_runs s t (next h.given) r h.others h.rest (All-tail (λ x. IsAnswer t x.0 x.1) (q, h.given) h.others there);
      log_is = h.log_is;
    }

pub alike_bind : {E A B C D : Type 0} (R : A → B → Type 0) (S : C → D → Type 0) (m : Asking E A) (n : Asking E B) (k : A → Asking E C) (l : B → Asking E D) → Alike R m n → ((a : A) (b : B) → R a b → Alike S (k a) (l b)) → Alike S (m >>= k) (n >>= l)
unfolding ◌>>=◌
alike_bind R S (done a) (done b) k l h f = f a b h
alike_bind R S (stop d) (stop e) k l h f = h
alike_bind R S (ask q next) (ask p later) k l h f = (h.0, λ x y e. alike_bind R S (next x) (later y) k l (h.1 x y e) f)
alike_bind R S _ _ k l h f = absurd h

pub alike_sym : {E A : Type 0} (m n : Asking E A) → Alike (λ a b. a ≡ b) m n → Alike (λ a b. a ≡ b) n m
alike_sym (done a) (done b) h = sym h
alike_sym (stop d) (stop e) h = sym h
alike_sym (ask q next) (ask p later) h = (sym h.0, λ x y e. alike_sym (next y) (later x) (h.1 y x (sym e)))
alike_sym _ _ h = absurd h

pub alike_trans : {E A : Type 0} (m n o : Asking E A) → Alike (λ a b. a ≡ b) m n → Alike (λ a b. a ≡ b) n o → Alike (λ a b. a ≡ b) m o
alike_trans (done a) (done b) (done c) h k = h ∙ k
alike_trans (stop d) (stop e) (stop f) h k = h ∙ k
alike_trans (ask q next) (ask p middle) (ask o later) h k = (h.0 ∙ k.0, λ x y e. alike_trans (next x) (middle x) (later y) (h.1 x x refl) (k.1 x y e))
alike_trans (done a) (done b) (stop f) h k = absurd k
alike_trans (done a) (done b) (ask o later) h k = absurd k
alike_trans (stop d) (stop e) (done c) h k = absurd k
alike_trans (stop d) (stop e) (ask o later) h k = absurd k
alike_trans (ask q next) (ask p middle) (done c) h k = absurd k
alike_trans (ask q next) (ask p middle) (stop f) h k = absurd k
alike_trans _ _ _ h k = absurd h
