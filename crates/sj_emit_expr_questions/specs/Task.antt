-- The emission of a method as a task: what it asks, and the function that it gives by the answers.
use Rattle.std.specs.Prelude.{ℕ, Bool, false, ◌&&◌, List, [], ◌∷◌, Option, Some, None, if◌then◌else◌}
use Rattle.js_tree.specs.Terms.{Name, Statements}
use Rattle.js_tree.specs.Views.{body_view}
use Rattle.js_tree.specs.declared.items.Binding.{Binding}
use Rattle.js_tree.specs.declared.items.JsMember.{JsMember}
use Rattle.sj_ask.specs.Tasks.{Asking, done, ◌>>=◌, asks_target, asks_hijacked}
use Rattle.sj_emit_expr_questions.specs.declared.Inquiry.{Inquiry}
use Rattle.sj_emit_expr_questions.specs.declared.Inquiry.TheVariants as inquiries
use Rattle.sj_emit_expr_spec.specs.Lookup.{Lookup}
use Rattle.sj_emit_expr_spec.specs.Terms.{Method}
use Rattle.sj_emit_expr_spec.specs.Members.{function_parameters}
use Rattle.sj_emit_expr_spec.specs.Templates.{body_template}
use Rattle.sj_emit_expr_spec.specs.Uses.{uses}
use Rattle.sj_names.specs.Same.{is_same_text, is_same_method, is_same_namespace}
use Rattle.sj_names.specs.declared.method_names.Member.{Member}
use Rattle.sj_emit_expr_questions.specs.Calls.{calls_of_all}

abbrev pub is_same_member : Member → Member → Bool
is_same_member a b = is_same_text a.class b.class && is_same_namespace a.namespace b.namespace && is_same_method a.method b.method

-- members, each with the one that a call of it runs
abbrev pub Targets : Type 0
Targets = List (Member × Member)

-- what a call runs: what was found for its member first, else the member itself
abbrev pub target_by : Targets → Member → Member
target_by [] k = k
target_by (t ∷ ts) k = if is_same_member t.0 k then t.1 else target_by ts k

abbrev pub with_target : Member → Option Member → Targets → Targets
with_target k None ts = ts
with_target k (Some t) ts = (k, t) ∷ ts

-- classes, each with whether a hijacked class stands below it
abbrev pub Mixed : Type 0
Mixed = List (List ℕ × Bool)

-- whether one stands below a class, by what was found first
abbrev pub hijacked_by : Mixed → List ℕ → Bool
hijacked_by [] c = false
hijacked_by (h ∷ hs) c = if is_same_text h.0 c then h.1 else hijacked_by hs c

-- what was found
pub record Found : Type 0 where
  pub targets : Targets
  pub mixed : Mixed

abbrev pub nothing_found : Found
nothing_found = record { targets = []; mixed = [] }

abbrev pub lookup_by : Found → Lookup
lookup_by found = record { target = target_by found.targets; has_hijacked = hijacked_by found.mixed }

abbrev pub asks_one : {E : Type 0} → Inquiry → Found → Asking E Found
asks_one (inquiries.Target k) found = asks_target k.class k.method >>= (λ t. done (record { targets = with_target k t found.targets; mixed = found.mixed }))
asks_one (inquiries.Hijacked c) found = asks_hijacked c >>= (λ b. done (record { targets = found.targets; mixed = (c, b) ∷ found.mixed }))

-- one behind the other, each time one comes
abbrev pub asks_all : {E : Type 0} → List Inquiry → Found → Asking E Found
asks_all [] found = done found
asks_all (q ∷ qs) found = asks_one q found >>= asks_all qs

-- the emitted function of a method, by what is known of the classes
pub record Emitted : Type 0 where
  pub params : List Name
  pub body : Statements
  pub uses : List Binding

abbrev pub emitted : Lookup → Method → Emitted
emitted known m = record { params = function_parameters m; body = body_template known m; uses = uses known m.body }

abbrev pub emit_task : {E : Type 0} → Method → Asking E Emitted
emit_task m = asks_all (calls_of_all m.body) nothing_found >>= (λ found. done (emitted (lookup_by found) m))

abbrev pub emitted_view : JsMember → Emitted
emitted_view e = record { params = e.params; body = body_view e.body; uses = e.uses }
