-- The emission of a method asks the same, and goes on alike, at answers that are the same apart from positions.
use Rattle.std.proofs.Common.{◌≡◌, Bool, List, [], ◌∷◌, Option, refl, sym, ap, ◌∙◌, subst}
use Rattle.sj_ask.specs.Apart.{answer_apart}
use Rattle.sj_ask.specs.declared.questions.Answer.{Answer}
use Rattle.sj_ask.specs.declared.questions.Answer.TheVariants as answer
use Rattle.sj_ask.specs.Laws.{Alike}
use Rattle.sj_ask.specs.Tasks.{done, ◌>>=◌, found_member, says_yes, asks_target, asks_hijacked}
use Rattle.sj_ask.proofs.SameRuns.{same_run, alike_bind}
use Rattle.sj_emit_expr_spec.specs.Terms.{Method}
use Rattle.sj_names.specs.declared.memory.NoMemory.{NoMemory}
use Rattle.sj_names.specs.declared.method_names.Member.{Member}
use Rattle.sj_emit_expr_questions.specs.Calls.{calls_of_all}
use Rattle.sj_emit_expr_questions.specs.Laws.{EqualAnswersGiveEqualFunctions}
use Rattle.sj_emit_expr_questions.specs.Task.{Found, nothing_found, with_target, lookup_by, asks_all, Emitted, emitted, emit_task}
use Rattle.sj_emit_expr_questions.specs.declared.Inquiry.{Inquiry}
use Rattle.sj_emit_expr_questions.specs.declared.Inquiry.TheVariants as inquiries

member-apart : (x : Answer) → found_member (answer_apart x) ≡ found_member x
member-apart (answer.Yes r) = refl
member-apart (answer.Field f) = refl
member-apart (answer.Member m) = refl
member-apart (answer.Body b) = refl

same_member : (x y : Answer) → answer_apart x ≡ answer_apart y → found_member x ≡ found_member y
same_member x y e = sym (member-apart x) ∙ ap found_member e ∙ member-apart y

yes-apart : (x : Answer) → says_yes (answer_apart x) ≡ says_yes x
yes-apart (answer.Yes r) = refl
yes-apart (answer.Field f) = refl
yes-apart (answer.Member m) = refl
yes-apart (answer.Body b) = refl

same_yes : (x y : Answer) → answer_apart x ≡ answer_apart y → says_yes x ≡ says_yes y
same_yes x y e = sym (yes-apart x) ∙ ap says_yes e ∙ yes-apart y

abbrev Goes : List Inquiry → Found → Found → Type 0
Goes qs a b = Alike {E = NoMemory} (λ (a b : Found). a ≡ b) (asks_all qs a) (asks_all qs b)

alike_all : (qs : List Inquiry) (found : Found) → Goes qs found found
unfolding ◌>>=◌ asks_target asks_hijacked
alike_all [] found = refl
alike_all (inquiries.Target k ∷ qs) found = (refl, λ x y e. subst (λ (o : Option Member). Goes qs (record { targets = with_target k (found_member x) found.targets; mixed = found.mixed }) (record { targets = with_target k o found.targets; mixed = found.mixed })) (same_member x y e) (alike_all qs (record { targets = with_target k (found_member x) found.targets; mixed = found.mixed })))
alike_all (inquiries.Hijacked c ∷ qs) found = (refl, λ x y e. subst (λ (b : Bool). Goes qs (record { targets = found.targets; mixed = (c, says_yes x) ∷ found.mixed }) (record { targets = found.targets; mixed = (c, b) ∷ found.mixed })) (same_yes x y e) (alike_all qs (record { targets = found.targets; mixed = (c, says_yes x) ∷ found.mixed })))

alike_emission : (m : Method) → Alike {E = NoMemory} (λ (a b : Emitted). a ≡ b) (emit_task m) (emit_task m)
alike_emission m = alike_bind (λ (a b : Found). a ≡ b) (λ (a b : Emitted). a ≡ b) (asks_all (calls_of_all m.body) nothing_found) (asks_all (calls_of_all m.body) nothing_found) (λ found. done (emitted (lookup_by found) m)) (λ found. done (emitted (lookup_by found) m)) (alike_all (calls_of_all m.body) nothing_found) (λ a b e. ap (λ (found : Found). emitted (lookup_by found) m) e)

pub equal_functions : EqualAnswersGiveEqualFunctions
equal_functions s t m r r' log log' h holds k = same_run (λ (a b : Emitted). a ≡ b) s t (emit_task m) (emit_task m) r r' log log' (alike_emission m) h holds k
