-- The worked methods have names of their own.
use Rattle.std.proofs.Common.{◌≡◌, [], ◌∷◌, codes, refl, sym, ap, subst, ⊎_elim, Contains}
use Rattle.std.proofs.lemmas.List.Elements.{All-cons, All-nil}
use Rattle.outcomes.specs.Agreement.{Agree}
use Rattle.agree_soundness.specs.Rows.{once, triples}
use Rattle.agree_soundness.specs.Shows.{ir_shows}
use Rattle.js_mean.specs.Shows.{js_shows}
use Rattle.sj_names.specs.declared.method_names.Member.{Member}
use Rattle.sj_names.specs.MethodNames.{IsParameter}
use Rattle.sj_names.specs.declared.references.TypeRef.TheVariants.{Int}
use Rattle.agree_soundness.specs.EmittedMethods.{EmittedMethod, HaveOwnMembers}
use Rattle.agree_calls.specs.Files.{program_with}
use Rattle.agree_soundness.proofs.Lists.{nothing_in, in_front_or_behind}
use Rattle.agree_programs.specs.Worked.{tests_it, main_method, tripling_method, worked_world, emitted, worked_methods}
use Rattle.agree_soundness.specs.World.{World}
use Rattle.agree_programs.proofs.Worked.{main_right, tripling_right, worked_plain}
use Rattle.agree_programs.specs.Linked.{IsWhole}
use Rattle.agree_programs.proofs.Whole.{linked_agrees}

main_whole : (typing : World) → IsWhole worked_world typing worked_methods (emitted main_method tests_it)
main_whole typing = record {
  right = main_right typing;
  class_name = refl;
  method_name = record { simple = refl; params = All-nil IsParameter; result = tt };
}

tripling_whole : (typing : World) → IsWhole worked_world typing worked_methods (emitted tripling_method triples)
tripling_whole typing = record {
  right = tripling_right typing;
  class_name = refl;
  method_name = record { simple = refl; params = All-cons IsParameter Int [] (tt, λ e. cc) (All-nil IsParameter); result = tt };
}

pub each_whole : (typing : World) (e : EmittedMethod) → Contains worked_methods e → IsWhole worked_world typing worked_methods e
each_whole typing e h = ⊎_elim (λ same. subst (IsWhole worked_world typing worked_methods) same (main_whole typing)) (λ later. ⊎_elim (λ same. subst (IsWhole worked_world typing worked_methods) same (tripling_whole typing)) (λ none. nothing_in e none) (in_front_or_behind (emitted tripling_method triples) [] e later)) (in_front_or_behind (emitted main_method tests_it) (emitted tripling_method triples ∷ []) e h)

other : (o : EmittedMethod) → Contains (emitted tripling_method triples ∷ []) o → (emitted main_method tests_it).member ≡ o.member → ⊥
other o h e = ⊎_elim (λ same. differ (subst (λ (x : EmittedMethod). (emitted main_method tests_it).member ≡ x.member) (sym same) e)) (λ none. nothing_in o none) (in_front_or_behind (emitted tripling_method triples) [] o h)
  where
    differ : (emitted main_method tests_it).member ≡ (emitted tripling_method triples).member → ⊥
    differ e = let names : codes "main" ≡ codes "f" = ap (λ (m : Member). m.method.simple) e in cc

own_members : HaveOwnMembers worked_methods
own_members = (other, ((λ o h e. nothing_in o h), tt))

pub worked_agrees : Agree (ir_shows worked_world once (codes "main")) (js_shows (program_with (codes "main") worked_methods once) (codes "main"))
worked_agrees = linked_agrees worked_world worked_world worked_plain once (codes "main") worked_methods (each_whole worked_world) own_members refl
