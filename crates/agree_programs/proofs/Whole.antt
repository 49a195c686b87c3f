-- A program of methods that keep the rules, and its file.
use Rattle.std.proofs.Common.{◌≡◌, ℕ, true, List, [], ◌∷◌, subst, ⊎_elim, Contains}
use Rattle.std.proofs.lemmas.Bool.{and_parts}
use Rattle.outcomes.specs.Agreement.{Agree}
use Rattle.agree_soundness.proofs.Lists.{nothing_in, in_front_or_behind}
use Rattle.agree_soundness.proofs.Modules.{never_wrong, nothing_asked}
use Rattle.agree_soundness.proofs.Plain.{plain_world}
use Rattle.agree_soundness.specs.Rules.{RightMember}
use Rattle.agree_soundness.specs.Shows as ir_showing
use Rattle.agree_soundness.specs.World as ir_world
use Rattle.js_mean.specs.Proper.{is_proper_module}
use Rattle.js_mean.specs.Shows as js_showing
use Rattle.agree_calls.proofs.Whole as calls
use Rattle.agree_calls.specs.Files.{program_with}
use Rattle.sj_names.specs.declared.entry_points.EntryPoint.{EntryPoint}
use Rattle.sj_names.specs.declared.method_names.Member.{Member}
use Rattle.agree_soundness.proofs.AgreeEarlyErrorsModules.{module_proper}
use Rattle.agree_soundness.specs.EmittedMethods.{EmittedMethod, HaveOwnMembers}
use Rattle.agree_soundness.specs.Emitted.{initializer_member, module_with, IsNamed}
use Rattle.agree_programs.proofs.Same.{has_function-is}
use Rattle.agree_programs.specs.Linked.{IsWhole, has_function, have_functions, IsRight, functions_of}
use Rattle.agree_soundness.specs.SjWorldLaws.{IsPlain}

member-of : (w typing : ir_world.World) (fs : List EmittedMethod) (e : EmittedMethod) → IsRight w typing fs e → RightMember w typing (functions_of fs) e.member
member-of w typing fs e r = record { definition = e.definition; its_body = e.its_body; found = r.found; has_body = r.has_body; rules = r.rules; names = r.names; parameters = r.parameters; result_is = r.result_is }

members : (w typing : ir_world.World) (fs : List EmittedMethod) → ((e : EmittedMethod) → Contains fs e → IsRight w typing fs e) → (m : Member) → has_function fs m ≡ true → RightMember w typing (functions_of fs) m
members w typing fs right m l = let h = has_function-is fs m l in subst (RightMember w typing (functions_of fs)) h.is (member-of w typing fs h.method (right h.method h.listed))

pub called : (fs : List EmittedMethod) (es : List EntryPoint) → have_functions fs es ≡ true → (e : EntryPoint) → Contains es e → has_function fs (initializer_member e) ≡ true
called fs [] h e i = nothing_in e i
called fs (c ∷ cs) h e i = let k = and_parts (has_function fs (initializer_member c)) (have_functions fs cs) h in ⊎_elim (λ same. subst (λ x. has_function fs (initializer_member x) ≡ true) same k.0) (λ later. called fs cs k.1 e later) (in_front_or_behind c cs e i)

pub program_agrees : (w typing : ir_world.World) → IsPlain typing → (entries : List EntryPoint) (id : List ℕ) (fs : List EmittedMethod) → is_proper_module (module_with fs (ir_showing.initializers entries id)) ≡ true → ((e : EmittedMethod) → Contains fs e → IsRight w typing fs e) → have_functions fs (ir_showing.initializers entries id) ≡ true → Agree (ir_showing.ir_shows w entries id) (js_showing.js_shows (program_with id fs (ir_showing.initializers entries id)) id)
program_agrees w typing plain entries id fs proper right all = calls.file_agrees w typing plain entries id fs (has_function fs) proper right (has_function-is fs) (called fs (ir_showing.initializers entries id) all) (never_wrong w typing plain (functions_of fs) (nothing_asked w typing (has_function fs)) (members w typing fs right) entries id (called fs (ir_showing.initializers entries id) all))

named : (w typing : ir_world.World) (fs : List EmittedMethod) (e : EmittedMethod) → IsWhole w typing fs e → IsNamed e
named w typing fs e h = record { once = h.right.rules.once; class_name = h.class_name; method_name = h.method_name }

pub linked_agrees : (w typing : ir_world.World) → IsPlain typing → (entries : List EntryPoint) (id : List ℕ) (fs : List EmittedMethod) → ((e : EmittedMethod) → Contains fs e → IsWhole w typing fs e) → HaveOwnMembers fs → have_functions fs (ir_showing.initializers entries id) ≡ true → Agree (ir_showing.ir_shows w entries id) (js_showing.js_shows (program_with id fs (ir_showing.initializers entries id)) id)
linked_agrees w typing plain entries id fs all own called = program_agrees w typing plain entries id fs (module_proper fs (ir_showing.initializers entries id) (λ e i. named w typing fs e (all e i)) own) (λ e i. (all e i).right) called

pub alone_agree : (w : ir_world.World) (entries : List EntryPoint) (id : List ℕ) (fs : List EmittedMethod) → ((e : EmittedMethod) → Contains fs e → IsWhole w [] fs e) → HaveOwnMembers fs → have_functions fs (ir_showing.initializers entries id) ≡ true → Agree (ir_showing.ir_shows w entries id) (js_showing.js_shows (program_with id fs (ir_showing.initializers entries id)) id)
alone_agree w entries id = linked_agrees w [] (plain_world [] (λ c i. nothing_in c i) (λ c i. nothing_in c i)) entries id
