-- Tasks, as what they ask and what they do with each answer.
use Rattle.std.specs.Prelude.{ℕ, Bool, false, List, Option, None}
use Rattle.sj_names.specs.declared.method_names.Member.{Member}
use Rattle.sj_names.specs.declared.method_names.MethodName.{MethodName}
use Rattle.sj_trees.specs.declared.classes.FieldDef.{FieldDef}
use Rattle.sj_trees.specs.declared.classes.MethodDef.{MethodDef}
use Rattle.sj_trees.specs.declared.types.IrType.{IrType}
use Rattle.sj_ask.specs.declared.questions.Question.{Question}
use Rattle.sj_ask.specs.declared.questions.Question.TheVariants as question
use Rattle.sj_ask.specs.declared.questions.Answer.{Answer}
use Rattle.sj_ask.specs.declared.questions.Answer.TheVariants as answer

-- a task that is done, stops with a refusal, or asks a question and goes on with the answer
pub data Asking (E A : Type 0) : Type 0 where
  done : A → Asking E A
  stop : E → Asking E A
  ask : Question → (Answer → Asking E A) → Asking E A

infixl 10 ◌>>=◌
-- one task, and behind it another that takes what the first gives
unfoldable pub ◌>>=◌ : {E A B : Type 0} → Asking E A → (A → Asking E B) → Asking E B
(done a) >>= k = k a
(stop e) >>= k = stop e
(ask q next) >>= k = ask q (λ x. next x >>= k)

-- whether an answer says yes
abbrev pub says_yes : Answer → Bool
says_yes (answer.Yes r) = r
says_yes _ = false

abbrev pub found_field : Answer → Option FieldDef
found_field (answer.Field found) = found
found_field _ = None

abbrev pub found_member : Answer → Option Member
found_member (answer.Member found) = found
found_member _ = None

abbrev pub found_body : Answer → Option MethodDef
found_body (answer.Body found) = found
found_body _ = None

-- each kind of question, with its answer taken apart
unfoldable pub asks_sub : {E : Type 0} → IrType → IrType → Asking E Bool
asks_sub s t = ask (question.IsSub s t) (λ x. done (says_yes x))

unfoldable pub asks_field : {E : Type 0} → List ℕ → List ℕ → Bool → Asking E (Option FieldDef)
asks_field c name mark = ask (question.Field c name mark) (λ x. done (found_field x))

unfoldable pub asks_target : {E : Type 0} → List ℕ → MethodName → Asking E (Option Member)
asks_target c m = ask (question.Resolve c m) (λ x. done (found_member x))

unfoldable pub asks_single : {E : Type 0} → List ℕ → MethodName → Asking E (Option Member)
asks_single c m = ask (question.Single c m) (λ x. done (found_member x))

unfoldable pub asks_hijacked : {E : Type 0} → List ℕ → Asking E Bool
asks_hijacked c = ask (question.HasHijacked c) (λ x. done (says_yes x))

unfoldable pub asks_body : {E : Type 0} → Member → Asking E (Option MethodDef)
asks_body k = ask (question.Body k) (λ x. done (found_body x))
