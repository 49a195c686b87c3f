-- What isn't reachable in a small folder.
use Rattle.std.proofs.Common.{◌≡◌, zero, suc, ◌<◌, true, false, [], ◌∷◌, Some, Contains, refl, sym, ap, subst, inl, inr, codes, arith}
use Rattle.std.specs.Prelude.{◌⊎◌}
use Rattle.std.proofs.lemmas.List.Elements.{Contains-append_left, Contains-push}
use Rattle.sj_trees.specs.Term.{skip}
use Rattle.sj_trees.specs.Erase.{nowhere}
use Rattle.sj_trees.specs.declared.classes.MethodDef.{MethodDef}
use Rattle.sj_names.specs.WellKnown.{hijacked, is_same_text}
use Rattle.sj_names.specs.declared.entry_points.EntryPoint.{EntryPoint}
use Rattle.sj_names.specs.declared.method_names.Member.{Member}
use Rattle.sj_ask.specs.Members.{IsMethodOf}
use Rattle.sj_ask.proofs.One.{one_method}
use Rattle.sj_infos.specs.Infos.{asked_by}
use Rattle.sj_infos.specs.declared.infos.Info.{Info}
use Rattle.sj_ask.specs.Ancestors.{written_above}
use Rattle.sj_ask.specs.Known.{Name, Classes, object}
use Rattle.sj_ask.specs.Fact.{Fact}
use Rattle.sj_ask.specs.FactVariants as fact
use Rattle.sj_ask.proofs.OnCycles.{among}
use Rattle.worklist.proofs.Inserted.{nothing_in, only_one}
use Rattle.sj_reach_spec.specs.Rows.{folder, static_method, main_entries, unused, IsUnneeded}
use Rattle.sj_reach_spec.specs.Rules.{entry_member, Reads, IsAsked, of_entry, of_new, of_load, of_call, of_throw, IsCalledOn, on_made, on_hijacked, Rule, the_object, entry_class, above, above_hijacked, asked_body, new_needed, new_made, load_needed, load_made, load_used, field_class, field_needed, static_class, resolved_class, resolved_body, call_class, call_hijacked, call, dispatched, reflective, reflective_hijacked, array_made, class_named, throw_needed, throw_made}
use Rattle.sj_reach_spec.proofs.Derivations.{derived-all}
use Rattle.sj_reach_spec.proofs.First.{first_of}

abbrev w : Classes
w = folder (skip nowhere) (unused ∷ [])

abbrev the_entry : EntryPoint
the_entry = record { «module» = codes "main"; class = object; method = codes "main" }

abbrev main : Member
main = entry_member the_entry

-- the facts that are reachable
abbrev IsThere : Fact → Type 0
IsThere f = (f ≡ fact.Needed object) ⊎ (f ≡ fact.Body main)

same_needed : (a b : Name) → fact.Needed a ≡ fact.Needed b → a ≡ b
same_needed a b e = cc

same_body : (a b : Member) → fact.Body a ≡ fact.Body b → a ≡ b
same_body a b e = cc

main_defined : IsMethodOf w main (static_method (codes "main") (Some (skip nowhere)))
main_defined = record { class = _; is_class = refl; first = first_of _ _ (unused ∷ []) (record { namespace_is = refl; name_is = refl }) }

main_asks : (i : Info) (k : Member) (d : MethodDef) → k ≡ main → IsMethodOf w k d → Contains (asked_by d) i → ⊥
main_asks i k d e m h = nothing_in i (subst (λ (x : MethodDef). Contains (asked_by x) i) (one_method w main d (static_method (codes "main") (Some (skip nowhere))) (subst (λ (j : Member). IsMethodOf w j d) e m) main_defined) h)

reads_nothing : (i : Info) → Reads w main_entries IsThere i → ⊥
reads_nothing i r = go r.needed
  where
    go : IsThere (fact.Body r.member) → ⊥
    go (inl e) = absurd (let b : ⊥ = cc in b)
    go (inr e) = main_asks i r.member r.definition (same_body r.member main e) r.defined r.asked

not_called : (d : Name) (m : _) → IsThere (fact.Called d m) → ⊥
not_called d m (inl e) = let b : ⊥ = cc in b
not_called d m (inr e) = let b : ⊥ = cc in b

not_on : (m : _) (c : Name) → IsCalledOn w main_entries IsThere m c → ⊥
not_on m _ (on_made c d h i a) = not_called d m h
not_on m _ (on_hijacked c d h i a) = not_called d m h

none_above : (c d : Name) → Contains hijacked c → Contains (written_above w c) d → ⊥
none_above c d (zero, l, e) h = nothing_in d (subst (λ (n : Name). Contains (written_above w n) d) (sym e) h)
none_above c d (suc zero, l, e) h = nothing_in d (subst (λ (n : Name). Contains (written_above w n) d) (sym e) h)
none_above c d (suc (suc zero), l, e) h = nothing_in d (subst (λ (n : Name). Contains (written_above w n) d) (sym e) h)
none_above c d (suc (suc (suc zero)), l, e) h = nothing_in d (subst (λ (n : Name). Contains (written_above w n) d) (sym e) h)
none_above c d (suc (suc (suc (suc zero))), l, e) h = nothing_in d (subst (λ (n : Name). Contains (written_above w n) d) (sym e) h)
none_above c d (suc (suc (suc (suc (suc zero)))), l, e) h = nothing_in d (subst (λ (n : Name). Contains (written_above w n) d) (sym e) h)
none_above c d (suc (suc (suc (suc (suc (suc zero))))), l, e) h = nothing_in d (subst (λ (n : Name). Contains (written_above w n) d) (sym e) h)
none_above c d (suc (suc (suc (suc (suc (suc (suc zero)))))), l, e) h = nothing_in d (subst (λ (n : Name). Contains (written_above w n) d) (sym e) h)
none_above c d (suc (suc (suc (suc (suc (suc (suc (suc k))))))), l, e) h = let b : suc (suc (suc (suc (suc (suc (suc (suc k))))))) < 8 = l in omega arith

above_needed : (c d : Name) → IsThere (fact.Needed c) → Contains (written_above w c) d → ⊥
above_needed c d (inl e) h = nothing_in d (subst (λ (n : Name). Contains (written_above w n) d) (same_needed c object e) h)
above_needed c d (inr e) h = let b : ⊥ = cc in b

asked : (k : Member) → IsAsked w main_entries IsThere k → IsThere (fact.Body k)
asked _ (of_entry e h) = inr (ap (λ (x : EntryPoint). fact.Body (entry_member x)) (sym (only_one the_entry e h)))
asked _ (of_new c m r) = absurd (reads_nothing _ r)
asked _ (of_load c r) = absurd (reads_nothing _ r)
asked _ (of_call k r) = absurd (reads_nothing _ r)
asked _ (of_throw c r) = absurd (reads_nothing _ r)

stays : (f : Fact) → Rule w main_entries IsThere f → IsThere f
stays _ the_object = inl refl
stays _ (entry_class e h) = inl (ap (λ (x : EntryPoint). fact.Needed x.class) (sym (only_one the_entry e h)))
stays _ (above c d h wr) = absurd (above_needed c d h wr)
stays _ (above_hijacked c d h wr) = absurd (none_above c d ((among hijacked c).0 h) wr)
stays _ (asked_body k a) = asked k a
stays _ (new_needed c m r) = absurd (reads_nothing _ r)
stays _ (new_made c m r) = absurd (reads_nothing _ r)
stays _ (load_needed c r) = absurd (reads_nothing _ r)
stays _ (load_made c r) = absurd (reads_nothing _ r)
stays _ (load_used c r) = absurd (reads_nothing _ r)
stays _ (field_class c f s r) = absurd (reads_nothing _ r)
stays _ (field_needed c f s r) = absurd (reads_nothing _ r)
stays _ (static_class k r) = absurd (reads_nothing _ r)
stays _ (resolved_class c m r) = absurd (reads_nothing _ r)
stays _ (resolved_body c m d owner r h) = absurd (reads_nothing _ r)
stays _ (call_class c m r) = absurd (reads_nothing _ r)
stays _ (call_hijacked c m d owner r h k) = absurd (reads_nothing _ r)
stays _ (call c m r h) = absurd (reads_nothing _ r)
stays _ (dispatched c m d owner on h) = absurd (not_on m c on)
stays _ (reflective c p d owner r h t) = absurd (reads_nothing _ r)
stays _ (reflective_hijacked c p d e owner there r h t k) = absurd (reads_nothing _ r)
stays _ (array_made r) = absurd (reads_nothing _ r)
stays _ (class_named c r) = absurd (reads_nothing _ r)
stays _ (throw_needed c r) = absurd (reads_nothing _ r)
stays _ (throw_made c r) = absurd (reads_nothing _ r)

gone_is_not_there : IsThere (fact.Needed (codes "Gone")) → ⊥
gone_is_not_there (inl e) = let b : false ≡ true = ap (λ (n : Name). is_same_text n object) (same_needed (codes "Gone") object e) in cc
gone_is_not_there (inr e) = let b : ⊥ = cc in b

pub unneeded : IsUnneeded
unneeded r = gone_is_not_there (derived-all w main_entries IsThere stays (fact.Needed (codes "Gone") ∷ r.earlier) r.derived (fact.Needed (codes "Gone")) (Contains-append_left (fact.Needed (codes "Gone") ∷ []) r.earlier (fact.Needed (codes "Gone")) (Contains-push [] (fact.Needed (codes "Gone")))))
