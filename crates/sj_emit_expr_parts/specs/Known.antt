-- What is asked for calls on receivers, and what is kept of the answers.
use Rattle.std.specs.Prelude.{◌≡◌, ℕ, Bool, false, List, [], ◌∷◌, Option, Ok, unwrap_or}
use Rattle.sj_emit_expr_questions.specs.Task.{is_same_member, with_target, target_by, hijacked_by, Found, nothing_found, asks_all}
use Rattle.sj_emit_expr_questions.specs.declared.Inquiry.{Inquiry}
use Rattle.sj_emit_expr_questions.specs.declared.Inquiry.TheVariants as inquiries
use Rattle.indexmap.specs.IndexMap.{get}
use Rattle.sj_ask.specs.Runs.{Ran}
use Rattle.sj_ask.specs.Tasks.{found_member, says_yes}
use Rattle.sj_ask.specs.Told.{Told}
use Rattle.sj_ask.specs.declared.questions.Answer.{Answer}
use Rattle.sj_ask.specs.declared.questions.Question.{Question}
use Rattle.sj_core.specs.Lookup.{Lookup}
use Rattle.sj_emit_expr_parts.specs.declared.lookup.CallLookup.{CallLookup}
use Rattle.sj_names.specs.Same.{is_same_text}
use Rattle.sj_names.specs.declared.memory.NoMemory.{NoMemory}
use Rattle.sj_names.specs.declared.method_names.Member.{Member}

-- what a call of a member runs: what is kept for the member, else the member itself
abbrev pub target_of : CallLookup → Member → Member
target_of known k = unwrap_or (get is_same_member known.targets k) k

-- whether a hijacked class stands below a class: what is kept for the class
abbrev pub has_hijacked_of : CallLookup → List ℕ → Bool
has_hijacked_of known c = unwrap_or (get is_same_text known.mixed c) false

abbrev pub lookup_of : CallLookup → Lookup
lookup_of known = record { target = target_of known; has_hijacked = has_hijacked_of known }

-- nothing is kept
pub record KnowsNothing (known : CallLookup) : Type 0 where
  pub targets : known.targets.entries ≡ []
  pub mixed : known.mixed.entries ≡ []

-- what was found is kept
pub record Keeps (known : CallLookup) (found : Found) : Type 0 where
  pub targets : (k : Member) → target_of known k ≡ target_by found.targets k
  pub mixed : (c : List ℕ) → has_hijacked_of known c ≡ hijacked_by found.mixed c

abbrev pub question_of : Inquiry → Question
question_of (inquiries.Target k) = Question.Resolve k.class k.method
question_of (inquiries.Hijacked c) = Question.HasHijacked c

abbrev pub more_targets : Member → Option Member → Found → Found
more_targets k t found = record { targets = with_target k t found.targets; mixed = found.mixed }

abbrev pub more_mixed : List ℕ → Bool → Found → Found
more_mixed c b found = record { targets = found.targets; mixed = (c, b) ∷ found.mixed }

-- what is found by an answer
abbrev pub found_more : Inquiry → Answer → Found → Found
found_more (inquiries.Target k) x found = more_targets k (found_member x) found
found_more (inquiries.Hijacked c) x found = more_mixed c (says_yes x) found

-- all this was asked, and what was found is kept
pub record AreAsked (Is : Question → Answer → Type 0) (asked : List Inquiry) (known : CallLookup) (before after : Told) : Type 0 where
  pub found : Found
  pub ran : Ran {E = NoMemory} Is (asks_all asked nothing_found) (Ok found) before after
  pub keeps : Keeps known found
