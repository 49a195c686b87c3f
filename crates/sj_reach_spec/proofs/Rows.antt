-- Small folders worked out.
use Rattle.std.proofs.Common.{◌≡◌, ℕ, zero, suc, ◌<◌, true, false, ap, ◌∙◌, subst, List, [], ◌∷◌, Some, None, Contains, slice_get, refl, arith, lit<, codes}
use Rattle.sj_trees.specs.Term.{Term, no_terms, skip, new_object, load_module}
use Rattle.sj_trees.specs.Erase.{nowhere}
use Rattle.sj_trees.specs.declared.classes.ClassKind.TheVariants.{Class}
use Rattle.sj_trees.specs.declared.classes.MethodDef.{MethodDef}
use Rattle.sj_trees.specs.declared.types.IrType.TheVariants.{NoType}
use Rattle.sj_names.specs.WellKnown.{init, is_same_text}
use Rattle.sj_names.specs.declared.method_names.Member.{Member}
use Rattle.sj_names.specs.declared.method_names.MethodName.{MethodName}
use Rattle.sj_names.specs.declared.method_names.Namespace.TheVariants.{Public, PublicStatic, Constructor}
use Rattle.sj_infos.specs.Infos.{asked_in}
use Rattle.sj_infos.specs.declared.infos.Info.{Info}
use Rattle.sj_ask.specs.Known.{object}
use Rattle.sj_ask.specs.Members.{IsMethod}
use Rattle.sj_ask.specs.Ancestors.{IsAncestor, by_path, is_object}
use Rattle.sj_ask.specs.Calls.{IsNamedBy, IsProxyTarget, narrowest}
use Rattle.sj_ask.specs.Paths.{IsFirst, stay}
use Rattle.sj_ask.specs.Resolution.{IsBody, IsBodyAt, Resolves, by_chain, begin, target}
use Rattle.sj_ask.specs.Subtypes.{IsSub, equal}
use Rattle.sj_ask.specs.FactVariants as fact
use Rattle.sj_reach_spec.specs.Reachable.{Reachable}
use Rattle.sj_reach_spec.specs.Refusals.{no_class, no_member, no_body, no_field, no_class_made, no_module, no_target, no_target_body, no_dispatched_method, no_reflective_body}
use Rattle.sj_reach_spec.specs.Rows.{a_method, class_with_m, new_a, made_and, call_m, call_by_proxy, call_as_a, call_as_i, field_of_a, array_of_ints, is_an_i, quotient, proxy, IsReached, WorkedFacts, plain_name, folder, main_entries, static_method, static_call, static_field, WorkedReachability, WorkedAbstractTargets, abstract_m}
use Rattle.sj_reach_spec.specs.Rules.{Reads, of_entry, of_new, of_load, of_throw, of_call, on_made, on_hijacked, asked_body, static_class, new_made, new_needed, call, dispatched, reflective, load_used, load_made, resolved_body, field_needed, array_made, class_named, throw_made, entry_member}
use Rattle.sj_reach_spec.proofs.Derivations.{closed}
use Rattle.sj_reach_spec.proofs.First.{first_of}
use Rattle.sj_reach_spec.proofs.Bodiless.{boolean_is_abstract, interface_is_abstract, proxy_of_boolean}
use Rattle.sj_reach_spec.proofs.Lacking.{boolean_has_none, interface_has_none}

-- what `main` asks for is read
reads : (body : Term) (methods : List MethodDef) (i : Info) → Contains (asked_in body) i → Reads (folder body methods) main_entries (Reachable (folder body methods) main_entries) i
reads body methods i h = record {
  member = entry_member (record { «module» = codes "main"; class = object; method = codes "main" });
  needed = record { earlier = []; derived = (asked_body _ (of_entry _ (0, lit< tt, refl)), tt) };
  definition = static_method (codes "main") (Some body);
  defined = record { class = _; is_class = refl; first = first_of _ _ methods (record { namespace_is = refl; name_is = refl }) };
  asked = h;
}

abbrev go : Member
go = record { class = object; namespace = PublicStatic; method = plain_name (codes "go") }

abbrev main_method : MethodDef
main_method = static_method (codes "main") (Some (static_call object (codes "go")))

apart : main_method.name ≡ go.method → ⊥
apart e = let b : false ≡ true = ap (λ (n : MethodName). is_same_text n.simple (codes "go")) e in cc

main_is_not_go : (y : MethodDef) → Some main_method ≡ Some y → IsMethod go y → ⊥
main_is_not_go y e h = let q : main_method ≡ y = cc in apart (ap (λ (d : MethodDef). d.name) q ∙ h.name_is)

no_go : (i : ℕ) (y : MethodDef) → slice_get (main_method ∷ []) i ≡ Some y → IsMethod go y → ⊥
no_go zero y e h = main_is_not_go y e h
no_go (suc i) y e h = cc

before_go : (i : ℕ) (y : MethodDef) → i < 1 → slice_get (main_method ∷ static_method (codes "go") None ∷ []) i ≡ Some y → IsMethod go y → ⊥
before_go zero y l e h = main_is_not_go y e h
before_go (suc i) y l e h = omega arith

second : IsFirst (IsMethod go) (main_method ∷ static_method (codes "go") None ∷ []) (static_method (codes "go") None)
second = record { place = 1; stands = refl; has = record { namespace_is = refl; name_is = refl }; none_before = before_go }

constructor_is_not_m : (y : MethodDef) → Some (a_method Constructor init (Some (skip nowhere))) ≡ Some y → IsBody (plain_name (codes "m")) y → ⊥
constructor_is_not_m y e h = let q : a_method Constructor init (Some (skip nowhere)) ≡ y = cc in let n : Constructor ≡ Public = ap (λ (d : MethodDef). d.namespace) q ∙ h.is_public.namespace_is in cc

-- the body of `m` in `A`
m_in_a : (body : Term) → IsBodyAt (folder body []) (plain_name (codes "m")) (codes "A") (a_method Public (codes "m") (Some (skip nowhere)))
m_in_a body = record { class = class_with_m (codes "A") Class; is_class = refl; first = record { place = 1; stands = refl; has = record { is_public = record { namespace_is = refl; name_is = refl }; has_body = refl }; none_before = before } }
  where
    before : (i : ℕ) (y : MethodDef) → i < 1 → slice_get (a_method Constructor init (Some (skip nowhere)) ∷ a_method Public (codes "m") (Some (skip nowhere)) ∷ []) i ≡ Some y → IsBody (plain_name (codes "m")) y → ⊥
    before zero y l e h = constructor_is_not_m y e h
    before (suc i) y l e h = omega arith

resolves : (body : Term) → Resolves (folder body []) (codes "A") (plain_name (codes "m")) (target (a_method Public (codes "m") (Some (skip nowhere))) (codes "A"))
resolves body = by_chain _ _ (record { passes = begin; body = m_in_a body })

below_object : (body : Term) → IsAncestor (folder body []) (codes "A") object
below_object body = record { known = refl; way = is_object refl }

abbrev constructor_of_a : MethodDef
constructor_of_a = a_method Constructor init (Some (skip nowhere))

abbrev method_of_a : MethodDef
method_of_a = a_method Public (codes "m") (Some (skip nowhere))

not_named : (other : MethodDef) → constructor_of_a ≡ other → IsNamedBy proxy other → ⊥
not_named other q h = let n : Constructor ≡ Public = ap (λ (d : MethodDef). d.namespace) q ∙ h.namespace_is in cc

narrow : (body : Term) (other : MethodDef) → Contains (constructor_of_a ∷ method_of_a ∷ []) other → IsNamedBy proxy other → IsSub (folder body []) NoType other.result
narrow body other (zero, l, e) h = absurd (not_named other e h)
narrow body other (suc zero, l, e) h = subst (λ (d : MethodDef). IsSub (folder body []) NoType d.result) e (equal refl)
narrow body other (suc (suc k), l, e) h = let m : suc (suc k) < 2 = l in absurd (omega arith)

proxy_of_a : (body : Term) → IsProxyTarget (folder body []) (codes "A") proxy method_of_a (codes "A")
proxy_of_a body = record { passes = begin; chosen = record { class = class_with_m (codes "A") Class; is_class = refl; chosen = narrowest (record { among = (1, lit< tt, refl); named = record { namespace_is = refl; simple_is = refl; params_are = refl }; narrow = record { below = narrow body } }) } }

pub facts : WorkedFacts
facts = (
  closed _ _ _ (new_made _ _ (reads new_a [] _ (0, lit< tt, refl))),
  closed _ _ _ (new_needed _ _ (reads new_a [] _ (0, lit< tt, refl))),
  closed _ _ _ (asked_body _ (of_new _ _ (reads new_a [] _ (0, lit< tt, refl)))),
  closed _ _ _ (call _ _ (reads call_m [] _ (0, lit< tt, refl)) refl),
  closed _ _ _ (dispatched _ _ _ _ (on_made _ object (closed _ _ _ (call _ _ (reads (made_and call_m) [] _ (1, lit< tt, refl)) refl)) (closed _ _ _ (new_made _ _ (reads (made_and call_m) [] _ (0, lit< tt, refl)))) (below_object (made_and call_m))) (resolves (made_and call_m))),
  called_by_proxy,
  closed _ _ _ (dispatched _ _ _ _ (on_made _ (codes "A") called_by_proxy made_there (record { known = refl; way = by_path stay })) (resolves (made_and call_by_proxy))),
  closed _ _ _ (load_used _ (reads (load_module nowhere (codes "M")) [] _ (0, lit< tt, refl))),
  closed _ _ _ (load_made _ (reads (load_module nowhere (codes "M")) [] _ (0, lit< tt, refl))),
  closed _ _ _ (asked_body _ (of_load _ (reads (load_module nowhere (codes "M")) [] _ (0, lit< tt, refl)))),
  closed _ _ _ (resolved_body _ _ _ _ (reads call_as_a [] _ (0, lit< tt, refl)) (resolves call_as_a)),
  closed _ _ _ (field_needed _ _ _ (reads field_of_a [] _ (0, lit< tt, refl))),
  closed _ _ _ (array_made (reads array_of_ints [] _ (0, lit< tt, refl))),
  closed _ _ _ (class_named _ (reads is_an_i [] _ (0, lit< tt, refl))),
  closed _ _ _ (throw_made _ (reads quotient [] _ (0, lit< tt, refl))),
  closed _ _ _ (asked_body _ (of_throw _ (reads quotient [] _ (0, lit< tt, refl)))),
)
  where
    made_there : IsReached (made_and call_by_proxy) (fact.Made (codes "A"))
    made_there = closed _ _ _ (new_made _ _ (reads (made_and call_by_proxy) [] _ (0, lit< tt, refl)))

    called_by_proxy : IsReached (made_and call_by_proxy) (fact.Called (codes "A") (plain_name (codes "m")))
    called_by_proxy = closed _ _ _ (reflective _ _ _ _ (reads (made_and call_by_proxy) [] _ (1, lit< tt, refl)) made_there (proxy_of_a (made_and call_by_proxy)))

pub worked : WorkedReachability
worked = (
  (no_class (codes "Gone") (closed _ _ _ (static_class _ (reads (static_call (codes "Gone") (codes "go")) [] _ (0, lit< tt, refl)))) refl, refl),
  (no_member _ (of_call _ (reads (static_call object (codes "go")) [] _ (0, lit< tt, refl))) (record { class = _; is_class = refl; none = record { none = no_go } }), refl),
  (no_body _ (of_call _ (reads (static_call object (codes "go")) (static_method (codes "go") None ∷ []) _ (0, lit< tt, refl))) (record { definition = static_method (codes "go") None; defined = record { class = _; is_class = refl; first = second }; has_none = refl }), refl),
  (no_field _ _ _ (reads static_field [] _ (0, lit< tt, refl)) (record { class = _; is_class = refl; none = record { none = λ i y e. cc } }), refl),
  (no_class_made _ _ (reads (new_object nowhere (codes "I") _ no_terms) [] _ (0, lit< tt, refl)) (record { class = _; is_class = refl; other = λ e. cc }), refl),
  (no_module _ (reads (load_module nowhere object) [] _ (0, lit< tt, refl)) (record { class = _; is_class = refl; other = λ e. cc }), refl),
  (no_dispatched_method _ _ (on_hijacked _ object (closed _ _ _ (call _ _ (reads call_m [] _ (0, lit< tt, refl)) refl)) refl (record { known = refl; way = is_object refl })) (boolean_has_none call_m), refl),
  (no_target _ _ (reads call_as_i [] _ (0, lit< tt, refl)) (record { class = _; is_class = refl }) (interface_has_none call_as_i), refl),
)

pub abstract_targets : WorkedAbstractTargets
abstract_targets = (
  (no_target_body _ _ (reads call_as_i (abstract_m ∷ []) _ (0, lit< tt, refl)) (record { class = _; is_class = refl }) (interface_is_abstract call_as_i), refl),
  (no_reflective_body _ _ _ _ (reads call_by_proxy (abstract_m ∷ []) _ (0, lit< tt, refl)) refl (proxy_of_boolean call_by_proxy) (boolean_is_abstract call_by_proxy), refl),
)
