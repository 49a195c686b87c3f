-- What answers say.
use Rattle.std.proofs.Common.{◌≡◌, Bool, ap, sym, subst}
use Rattle.std.specs.Prelude.{◌↔◌, IsTrue}
use Rattle.sj_ask.specs.declared.questions.Question.{Question}
use Rattle.sj_ask.specs.declared.questions.Answer.{Answer}
use Rattle.sj_ask.specs.declared.questions.Answer.TheVariants as answer
use Rattle.sj_ask.specs.Stands.{Stand}
use Rattle.sj_ask.specs.Answers.{IsAnswer, SaysWhether}
use Rattle.sj_ask.proofs.One.{one_truth}

pub truth_said : (P : Type 0) (now r : Bool) (x : Answer) → IsTrue now ↔ P → IsTrue r ↔ (x ≡ answer.Yes now) → IsTrue r ↔ SaysWhether P x
truth_said P now r (answer.Yes said) h k = (
  λ t. let e : answer.Yes said ≡ answer.Yes now = k.0 t in let q : now ≡ said = cc in subst (λ (b : Bool). IsTrue b ↔ P) q h,
  λ q. k.1 (ap answer.Yes (one_truth P said now q h)),
)
truth_said P now r (answer.Field f) h k = (λ t. let e : answer.Field f ≡ answer.Yes now = k.0 t in cc, λ q. absurd q)
truth_said P now r (answer.Member f) h k = (λ t. let e : answer.Member f ≡ answer.Yes now = k.0 t in cc, λ q. absurd q)
truth_said P now r (answer.Body f) h k = (λ t. let e : answer.Body f ≡ answer.Yes now = k.0 t in cc, λ q. absurd q)

-- a test of the answer to one question is a test of the answer to that which is asked
pub asked_tested : (s : Stand) (p q : Question) (x : Answer) (r : Bool) → q ≡ p → IsTrue r ↔ IsAnswer s p x → IsTrue r ↔ IsAnswer s q x
asked_tested s p q x r e h = subst (λ (z : Question). IsTrue r ↔ IsAnswer s z x) (sym e) h
