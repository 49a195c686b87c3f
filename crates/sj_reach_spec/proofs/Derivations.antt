-- Derivations, one behind the other: what they lead to is what is reachable.
use Rattle.std.proofs.Common.{◌≡◌, ◌<◌, true, List, [], ◌∷◌, ◌++◌, Contains, ◌⊎◌, inl, inr, ⊎_elim, subst, arith}
use Rattle.std.proofs.lemmas.List.Elements.{Contains-append_left, Contains-append_right, Contains-append_cases, Contains-push, Contains-push_cases}
use Rattle.sj_names.specs.declared.entry_points.EntryPoint.{EntryPoint}
use Rattle.sj_names.specs.declared.method_names.Member.{Member}
use Rattle.sj_names.specs.declared.method_names.MethodName.{MethodName}
use Rattle.sj_infos.specs.declared.infos.Info.{Info}
use Rattle.sj_ask.specs.Known.{Name, Classes}
use Rattle.sj_ask.specs.Fact.{Fact}
use Rattle.sj_reach_spec.specs.Laws.{ReachableFactsAreClosed, ReachableFactsAreLeast}
use Rattle.sj_reach_spec.specs.Reachable.{IsDerivation, Reachable}
use Rattle.sj_reach_spec.specs.Rules.{Reads, IsAsked, of_entry, of_new, of_load, of_call, of_throw, IsCalledOn, on_made, on_hijacked, Rule, the_object, entry_class, above, above_hijacked, asked_body, new_needed, new_made, load_needed, load_made, load_used, field_class, field_needed, static_class, resolved_class, resolved_body, call_class, call_hijacked, call, dispatched, reflective, reflective_hijacked, array_made, class_named, throw_needed, throw_made}
use Rattle.sj_reach_spec.proofs.Grows.{reads-grow, rule-grow}

nothing : {X : Type 0} (x : X) → Contains [] x → ⊥
nothing x h = let l : h.0 < 0 = h.1 in omega arith

head_or_tail : (f : Fact) (fs : List Fact) (x : Fact) → Contains (f ∷ fs) x → (f ≡ x) ⊎ Contains fs x
head_or_tail f fs x h = ⊎_elim (λ a. ⊎_elim (λ n. absurd (nothing x n)) (λ e. inl e) (Contains-push_cases [] f x a)) (λ t. inr t) (Contains-append_cases (f ∷ []) fs x h)

-- what is closed holds of each fact of a derivation
pub derived-all : (w : Classes) (entries : List EntryPoint) (P : Fact → Type 0) → ((f : Fact) → Rule w entries P f → P f) → (fs : List Fact) → IsDerivation w entries fs → (f : Fact) → Contains fs f → P f
derived-all w entries P closed [] d x h = absurd (nothing x h)
derived-all w entries P closed (f ∷ fs) d x h = ⊎_elim (λ e. subst P e (closed f (rule-grow w entries (Contains fs) P (derived-all w entries P closed fs d.1) f d.0))) (derived-all w entries P closed fs d.1 x) (head_or_tail f fs x h)

pub least : ReachableFactsAreLeast
least w entries test closed f r = closed f (rule-grow w entries (Contains r.earlier) (λ g. test g ≡ true) (derived-all w entries (λ g. test g ≡ true) closed r.earlier r.derived.1) f r.derived.0)

-- two derivations, one behind the other
joined : (w : Classes) (entries : List EntryPoint) (xs ys : List Fact) → IsDerivation w entries xs → IsDerivation w entries ys → IsDerivation w entries (xs ++ ys)
joined w entries [] ys d e = e
joined w entries (x ∷ xs) ys d e = (rule-grow w entries (Contains xs) (Contains (xs ++ ys)) (Contains-append_left xs ys) x d.0, joined w entries xs ys d.1 e)

-- a derivation that has all that is asked
abbrev Gathered : Classes → List EntryPoint → (List Fact → Type 0) → Type 0
Gathered w entries F = (fs : List Fact) × IsDerivation w entries fs × F fs

holds-gather : (w : Classes) (entries : List EntryPoint) (f : Fact) → Reachable w entries f → Gathered w entries (λ fs. Contains fs f)
holds-gather w entries f r = (f ∷ r.earlier, r.derived, Contains-append_left (f ∷ []) r.earlier f (Contains-push [] f))

reads-gather : (w : Classes) (entries : List EntryPoint) (i : Info) → Reads w entries (Reachable w entries) i → Gathered w entries (λ fs. Reads w entries (Contains fs) i)
reads-gather w entries i r = let g = holds-gather w entries _ r.needed in (g.0, g.1, record { member = r.member; needed = g.2; definition = r.definition; defined = r.defined; asked = r.asked })

asked-gather : (w : Classes) (entries : List EntryPoint) (k : Member) → IsAsked w entries (Reachable w entries) k → Gathered w entries (λ fs. IsAsked w entries (Contains fs) k)
asked-gather w entries _ (of_entry e h) = ([], tt, of_entry e h)
asked-gather w entries _ (of_new c m r) = let g = reads-gather w entries _ r in (g.0, g.1, of_new c m g.2)
asked-gather w entries _ (of_load c r) = let g = reads-gather w entries _ r in (g.0, g.1, of_load c g.2)
asked-gather w entries _ (of_call k r) = let g = reads-gather w entries _ r in (g.0, g.1, of_call k g.2)
asked-gather w entries _ (of_throw c r) = let g = reads-gather w entries _ r in (g.0, g.1, of_throw c g.2)

called-gather : (w : Classes) (entries : List EntryPoint) (m : MethodName) (c : Name) → IsCalledOn w entries (Reachable w entries) m c → Gathered w entries (λ fs. IsCalledOn w entries (Contains fs) m c)
called-gather w entries m _ (on_made c d h i a) = let g = holds-gather w entries _ h in let k = holds-gather w entries _ i in (g.0 ++ k.0, joined w entries g.0 k.0 g.1 k.1, on_made c d (Contains-append_left g.0 k.0 _ g.2) (Contains-append_right g.0 k.0 _ k.2) a)
called-gather w entries m _ (on_hijacked c d h i a) = let g = holds-gather w entries _ h in (g.0, g.1, on_hijacked c d g.2 i a)

rule-gather : (w : Classes) (entries : List EntryPoint) (f : Fact) → Rule w entries (Reachable w entries) f → Gathered w entries (λ fs. Rule w entries (Contains fs) f)
rule-gather w entries _ the_object = ([], tt, the_object)
rule-gather w entries _ (entry_class e h1) = ([], tt, entry_class e h1)
rule-gather w entries _ (above c d h1 h2) = let g = holds-gather w entries _ h1 in (g.0, g.1, above c d g.2 h2)
rule-gather w entries _ (above_hijacked c d h1 h2) = ([], tt, above_hijacked c d h1 h2)
rule-gather w entries _ (asked_body k h1) = let g = asked-gather w entries _ h1 in (g.0, g.1, asked_body k g.2)
rule-gather w entries _ (new_needed c m h1) = let g = reads-gather w entries _ h1 in (g.0, g.1, new_needed c m g.2)
rule-gather w entries _ (new_made c m h1) = let g = reads-gather w entries _ h1 in (g.0, g.1, new_made c m g.2)
rule-gather w entries _ (load_needed c h1) = let g = reads-gather w entries _ h1 in (g.0, g.1, load_needed c g.2)
rule-gather w entries _ (load_made c h1) = let g = reads-gather w entries _ h1 in (g.0, g.1, load_made c g.2)
rule-gather w entries _ (load_used c h1) = let g = reads-gather w entries _ h1 in (g.0, g.1, load_used c g.2)
rule-gather w entries _ (field_class c f s h1) = let g = reads-gather w entries _ h1 in (g.0, g.1, field_class c f s g.2)
rule-gather w entries _ (field_needed c f s h1) = let g = reads-gather w entries _ h1 in (g.0, g.1, field_needed c f s g.2)
rule-gather w entries _ (static_class k h1) = let g = reads-gather w entries _ h1 in (g.0, g.1, static_class k g.2)
rule-gather w entries _ (resolved_class c m h1) = let g = reads-gather w entries _ h1 in (g.0, g.1, resolved_class c m g.2)
rule-gather w entries _ (resolved_body c m d owner h1 h2) = let g = reads-gather w entries _ h1 in (g.0, g.1, resolved_body c m d owner g.2 h2)
rule-gather w entries _ (call_class c m h1) = let g = reads-gather w entries _ h1 in (g.0, g.1, call_class c m g.2)
rule-gather w entries _ (call_hijacked c m d owner h1 h2 h3) = let g = reads-gather w entries _ h1 in (g.0, g.1, call_hijacked c m d owner g.2 h2 h3)
rule-gather w entries _ (call c m h1 h2) = let g = reads-gather w entries _ h1 in (g.0, g.1, call c m g.2 h2)
rule-gather w entries _ (dispatched c m d owner h1 h2) = let g = called-gather w entries _ _ h1 in (g.0, g.1, dispatched c m d owner g.2 h2)
rule-gather w entries _ (reflective c p d owner h1 h2 h3) = let g = reads-gather w entries _ h1 in let k = holds-gather w entries _ h2 in (g.0 ++ k.0, joined w entries g.0 k.0 g.1 k.1, reflective c p d owner (reads-grow w entries (Contains g.0) (Contains (g.0 ++ k.0)) (Contains-append_left g.0 k.0) _ g.2) (Contains-append_right g.0 k.0 _ k.2) h3)
rule-gather w entries _ (reflective_hijacked c p d e owner there h1 h2 h3 h4) = let g = reads-gather w entries _ h1 in (g.0, g.1, reflective_hijacked c p d e owner there g.2 h2 h3 h4)
rule-gather w entries _ (array_made h1) = let g = reads-gather w entries _ h1 in (g.0, g.1, array_made g.2)
rule-gather w entries _ (class_named c h1) = let g = reads-gather w entries _ h1 in (g.0, g.1, class_named c g.2)
rule-gather w entries _ (throw_needed c h1) = let g = reads-gather w entries _ h1 in (g.0, g.1, throw_needed c g.2)
rule-gather w entries _ (throw_made c h1) = let g = reads-gather w entries _ h1 in (g.0, g.1, throw_made c g.2)

pub closed : ReachableFactsAreClosed
closed w entries f r = let g = rule-gather w entries f r in record { earlier = g.0; derived = (g.2, g.1) }
