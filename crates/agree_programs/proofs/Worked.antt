-- The worked program keeps the rules.
use Rattle.std.proofs.Common.{◌≡◌, ◌<◌, ◌^◌, ℕ, Bool, true, false, List, [], ◌∷◌, codes, Some, None, refl, subst, inl, inr, ⊎_elim, Contains, arith, if◌then◌else◌}
use Rattle.std.specs.Prelude.{pos, nat_eq, FitsSigned}
use Rattle.std.specs.Cmp.Lexicographic.{pointwise}
use Rattle.std.specs.Int.{w32}
use Rattle.outcomes.specs.Agreement.{Agree}
use Rattle.agree_soundness.specs.Rows.{nowhere, object_name, object_with, once, triples}
use Rattle.sj_local.specs.ClassRules.{keeps_superclass, keeps_hijacked}
use Rattle.sj_trees.specs.declared.classes.ClassDef.{ClassDef}
use Rattle.agree_soundness.specs.Shows.{ir_shows}
use Rattle.js_mean.specs.Shows.{js_shows}
use Rattle.sj_trees.specs.declared.classes.ParamDef.{ParamDef}
use Rattle.sj_trees.specs.declared.types.IrType.TheVariants.{Int}
use Rattle.agree_soundness.specs.Locals.{Own, local_of, HasValue}
use Rattle.sj_names.proofs.Same.{impossible}
use Rattle.agree_soundness.specs.EmittedMethods.{EmittedMethod}
use Rattle.agree_calls.specs.Files.{program_with}
use Rattle.agree_soundness.proofs.Lists.{nothing_in, in_front_or_behind}
use Rattle.agree_programs.specs.Linked.{IsRight, functions_of}
use Rattle.agree_soundness.specs.Methods.{scene_of, KeepsRules}
use Rattle.agree_soundness.specs.World.{World}
use Rattle.agree_soundness.specs.SjWorldLaws.{IsPlain}
use Rattle.agree_soundness.specs.Subtypes.{equal}
use Rattle.agree_soundness.proofs.Plain.{plain_world}
use Rattle.agree_soundness.specs.Typing.{Scene, IsLocal, IsVariable, Here}
use Rattle.agree_soundness.specs.SjTypingSpecRules.{nothing_wanted, fitting}
use Rattle.sj_trees.specs.Term.{int_literal, var_ref}
use Rattle.agree_programs.specs.Worked.{tests_it, main_method, tripling_method, worked_world, emitted, worked_methods}
use Rattle.agree_programs.proofs.Whole.{program_agrees}
use Rattle.agree_soundness.specs.Built.{Usable}

fits : (n : ℕ) → n < 2 ^ 31 → FitsSigned w32 (pos n)
fits n h = record { sfits = h }

abbrev linked : Usable
linked = functions_of worked_methods

number_here : (typing : World) (s : Scene) (n : ℕ) → n < 2 ^ 31 → Here typing linked s (int_literal nowhere (pos n))
number_here typing s n h = record { meets = tt; built = refl; finds = fits n h }

main_rules : (typing : World) → KeepsRules typing linked object_name main_method tests_it
main_rules typing = record {
  typed = (record { meets = (equal refl, nothing_wanted refl, nothing_wanted refl); built = refl; finds = tt }, (record { meets = (equal refl, equal refl); built = refl; finds = tt }, (record { meets = (tt, refl, (equal refl, tt)); built = refl; finds = (refl, tt) }, (number_here typing (scene_of object_name main_method tests_it) 1 (omega arith), tt)), number_here typing (scene_of object_name main_method tests_it) 27 (omega arith)), (record { meets = equal refl; built = refl; finds = tt }, record { meets = tt; built = refl; finds = tt }), (record { meets = equal refl; built = refl; finds = tt }, record { meets = tt; built = refl; finds = tt }));
  yields = nothing_wanted refl;
  boxed = refl;
  result = inl refl;
  values = λ x p e. impossible (cc);
  once = record { once = (((tt, tt, λ x o k. k), tt, λ x o k. k), tt, tt, (λ x o k. k), (λ x o k. k), (λ x o k. k)); parameters = tt; fresh = λ x o i. i };
}

p_local : IsLocal (scene_of object_name tripling_method triples) (codes "p") Int
p_local = record { local = record { name = codes "p"; «mutable» = true; tpe = Int }; is = refl; type_is = refl }

p_variable : IsVariable (scene_of object_name tripling_method triples) (codes "p") Int
p_variable = record { local = record { name = codes "p"; «mutable» = true; tpe = Int }; is = refl; type_is = refl; «mutable» = refl }

p_here : (typing : World) → Here typing linked (scene_of object_name tripling_method triples) (var_ref nowhere (codes "p") Int)
p_here typing = record { meets = tt; built = refl; finds = p_local }

only_parameter : (x : List ℕ) (p : ParamDef) → local_of tripling_method.params x ≡ Some p → HasValue p.tpe
only_parameter x p e = go (pointwise nat_eq x (codes "p")) e
  where
    go : (b : Bool) → (if b then Some (record { name = codes "p"; «mutable» = true; tpe = Int }) else None) ≡ Some p → HasValue p.tpe
    go true k = let same : record { name = codes "p"; «mutable» = true; tpe = Int } ≡ p = cc in subst (λ (a : ParamDef). HasValue a.tpe) same refl
    go false k = impossible (cc)

no_local : (x : List ℕ) → Own triples x → ⊥
no_local x o = ⊎_elim (λ i. ⊎_elim (λ j. ⊎_elim (λ k. k) (λ k. k) j) (λ j. ⊎_elim (λ k. k) (λ k. k) j) i) (λ i. ⊎_elim (λ k. k) (λ k. k) i) o

tripling_rules : (typing : World) → KeepsRules typing linked object_name tripling_method triples
tripling_rules typing = record {
  typed = ((record { meets = equal refl; built = refl; finds = tt }, (record { meets = (equal refl, equal refl); built = refl; finds = tt }, p_here typing, number_here typing (scene_of object_name tripling_method triples) 10 (omega arith)), (record { meets = (tt, equal refl); built = refl; finds = p_variable }, (record { meets = (equal refl, equal refl); built = refl; finds = tt }, p_here typing, number_here typing (scene_of object_name tripling_method triples) 3 (omega arith)))), (λ x d o. d), p_here typing);
  yields = fitting (equal refl);
  boxed = refl;
  result = inr refl;
  values = only_parameter;
  once = record { once = (((tt, tt, λ x o k. k), ((tt, tt, λ x o k. k)), λ x o k. ⊎_elim (λ i. i) (λ i. i) k), (tt, tt, λ x o k. k), λ x o k. ⊎_elim (λ i. i) (λ i. i) k); parameters = ((λ i. i), tt); fresh = λ x o i. no_local x o };
}

pub main_right : (typing : World) → IsRight worked_world typing worked_methods (emitted main_method tests_it)
main_right typing = record { found = refl; has_body = refl; parameters = tt; result_is = refl; rules = main_rules typing; names = record { once = tt; fresh = λ x n i. n } }

pub tripling_right : (typing : World) → IsRight worked_world typing worked_methods (emitted tripling_method triples)
tripling_right typing = record { found = refl; has_body = refl; parameters = (refl, tt); result_is = refl; rules = tripling_rules typing; names = record { once = tt; fresh = λ x n i. n } }

each_right : (typing : World) (e : EmittedMethod) → Contains worked_methods e → IsRight worked_world typing worked_methods e
each_right typing e h = ⊎_elim (λ same. subst (IsRight worked_world typing worked_methods) same (main_right typing)) (λ later. ⊎_elim (λ same. subst (IsRight worked_world typing worked_methods) same (tripling_right typing)) (λ none. nothing_in e none) (in_front_or_behind (emitted tripling_method triples) [] e later)) (in_front_or_behind (emitted main_method tests_it) (emitted tripling_method triples ∷ []) e h)

pub worked_plain : IsPlain worked_world
worked_plain = plain_world worked_world (λ c i. only c (λ (d : ClassDef). keeps_superclass d ≡ true) refl i) (λ c i. only c (λ (d : ClassDef). keeps_hijacked d ≡ true) refl i)
  where
    only : (c : ClassDef) (P : ClassDef → Type 0) → P (object_with (main_method ∷ tripling_method ∷ [])) → Contains worked_world c → P c
    only c P h i = ⊎_elim (λ same. subst P same h) (λ none. nothing_in c none) (in_front_or_behind (object_with (main_method ∷ tripling_method ∷ [])) [] c i)

pub worked_agrees : Agree (ir_shows worked_world once (codes "main")) (js_shows (program_with (codes "main") worked_methods once) (codes "main"))
worked_agrees = program_agrees worked_world worked_world worked_plain once (codes "main") worked_methods refl (each_right worked_world) refl
