-- What single steps of the walk put.
use Rattle.std.proofs.Common.{◌≡◌, ℕ, ◌≤◌, Bool, true, false, List, [], ◌∷◌, inl, inr, Contains, Some, None, length, refl, sym, ap, ◌∙◌, subst}
use Rattle.std.specs.Prelude.{◌↔◌, ◌⊎◌}
use Rattle.std.proofs.lemmas.List.Elements.{Contains-push}
use Rattle.worklist.proofs.Inserted.{nothing_in, only_one}
use Rattle.sj_names.specs.declared.method_names.Member.{Member}
use Rattle.sj_trees.specs.declared.classes.MethodDef.{MethodDef}
use Rattle.sj_infos.specs.Forms.{forms_by}
use Rattle.sj_infos.specs.declared.forms.BodyForm.{BodyForm}
use Rattle.sj_world.specs.Ancestors.{IsOnChain}
use Rattle.sj_world.specs.Known.{Name, Classes, is_known}
use Rattle.sj_world.specs.Paths.{stay}
use Rattle.sj_world.specs.Members.{IsMethodOf}
use Rattle.sj_world.specs.Tables.{AreChain}
use Rattle.sj_world.specs.declared.facts.Fact.{Fact}
use Rattle.sj_ask.proofs.One.{one_method}
use Rattle.sj_reach_spec.proofs.Lacking.{same_some}
use Rattle.sj_baselink.specs.Steps.{Puts, OfOne}
use Rattle.sj_baselink.proofs.Putting.{adds_none, adds_as, OfFirst, each_ends, only_these, all_put}
use Rattle.sj_baselink.proofs.Chained.{puts_chain, puts_alone}
use Rattle.sj_emit_class_needs.specs.Needs.{need_of, IsNeedIn, IsNeedOf, IsNeedBy, IsNeed, IsLiveBy, IsStaticBy}
use Rattle.sj_emit_class_needs.specs.declared.needs.ClassNeed.{ClassNeed}
use Rattle.sj_emit_class_needs.specs.declared.needs.ClassNeed.TheVariants.{Live, Static}

-- a form with a need
pub puts_need : (form : BodyForm) (made : ClassNeed) (a b : List ClassNeed) → need_of form ≡ Some made → Puts (λ n. made ≡ n) a b → Puts (λ n. need_of form ≡ Some n) a b
puts_need form made a b h puts = adds_as Contains (λ n. made ≡ n) (λ n. need_of form ≡ Some n) a b (λ n e. h ∙ ap Some e) (λ n e. same_some made n (sym h ∙ e)) puts

-- a form without one
pub puts_no_need : (form : BodyForm) (a : List ClassNeed) → need_of form ≡ None → Puts (λ n. need_of form ≡ Some n) a a
puts_no_need form a h = adds_none Contains (λ n. need_of form ≡ Some n) a (λ n e. let s : None ≡ Some n = sym h ∙ e in let z : ⊥ = cc in z)

pub puts_forms : (forms : List BodyForm) (n : ℕ) (a b : List ClassNeed) → length forms ≤ n → Puts (OfFirst forms n (λ form q. need_of form ≡ Some q)) a b → Puts (IsNeedIn forms) a b
puts_forms forms n a b over f = adds_as Contains _ (IsNeedIn forms) a b (λ q h. record { form = h.thing; has = h.among; need_is = h.holds }) (λ q h. record { thing = h.form; among = h.has; holds = h.need_is }) (each_ends Contains (λ form q. need_of form ≡ Some q) forms n a b over f)

pub puts_forms_by : (d : MethodDef) (forms listed : List BodyForm) (a b : List ClassNeed) → forms ≡ forms_by d → listed ≡ forms → Puts (IsNeedIn listed) a b → Puts (IsNeedIn (forms_by d)) a b
puts_forms_by d forms listed a b is same f = subst (λ (l : List BodyForm). Puts (IsNeedIn l) a b) (same ∙ is) f

pub puts_in : (w : Classes) (k : Member) (d : MethodDef) (a b : List ClassNeed) → IsMethodOf w k d → Puts (IsNeedIn (forms_by d)) a b → Puts (IsNeedOf w k) a b
puts_in w k d a b is f = adds_as Contains _ (IsNeedOf w k) a b (λ q h. record { definition = d; defined = is; has = h }) (λ q r. subst (λ (e : MethodDef). IsNeedIn (forms_by e) q) (one_method w k r.definition d r.defined is) r.has) f

pub puts_none_in : (w : Classes) (k : Member) (a : List ClassNeed) → ((d : MethodDef) → IsMethodOf w k d → ⊥) → Puts (IsNeedOf w k) a a
puts_none_in w k a none = adds_none Contains (IsNeedOf w k) a (λ q r. none r.definition r.defined)

-- what a fact needs, and all of them
pub puts_by : (w : Classes) (f g : Fact) (a b : List ClassNeed) → f ≡ g → Puts (IsNeedBy w g) a b → Puts (IsNeedBy w f) a b
puts_by w f g a b is = subst (λ (h : Fact). Puts (IsNeedBy w h) a b) (sym is)

pub are_needs : (w : Classes) (facts : List Fact) (n : ℕ) (needs : List ClassNeed) → length facts ≤ n → Puts (OfFirst facts n (IsNeedBy w)) [] needs → (q : ClassNeed) → Contains needs q ↔ IsNeed w facts q
are_needs w facts n needs over f q = let both = only_these (IsNeedBy w) facts n needs over f q in (λ h. let o = both.0 h in record { fact = o.thing; among = o.among; needs = o.holds }, λ r. both.1 (record { thing = r.fact; among = r.among; holds = r.needs }))

-- a chain
pub puts_live : (w : Classes) (c : Name) (names : List Name) (a b : List ClassNeed) → ((d : Name) → Contains names d ↔ IsOnChain w c d) → Puts (OfOne names (λ d n. Live d ≡ n)) a b → Puts (IsLiveBy w c) a b
puts_live w c names a b on f = adds_as Contains _ (IsLiveBy w c) a b (λ n q. record { class = q.thing; on_chain = (on q.thing).0 q.among; need_is = q.holds }) (λ n q. record { thing = q.class; among = (on q.class).1 q.on_chain; holds = q.need_is }) f

on_these : (w : Classes) (c : Name) (names : List Name) → AreChain w c names → (d : Name) → Contains names d ↔ IsOnChain w c d
on_these w c names chain = all_put (IsOnChain w c) [] names refl (puts_chain w c names chain [] names (record { exact = λ d. (λ h. inr h, λ q. these d q) }))
  where
    these : (d : Name) → Contains [] d ⊎ Contains names d → Contains names d
    these d (inl h) = absurd (nothing_in d h)
    these d (inr h) = h

pub puts_chain_live : (w : Classes) (c : Name) (names : List Name) (a b : List ClassNeed) → AreChain w c names → Puts (OfOne names (λ d n. Live d ≡ n)) a b → Puts (IsLiveBy w c) a b
puts_chain_live w c names a b chain f = puts_live w c names a b (on_these w c names chain) f

-- a class that isn't known stands alone on its chain
alone : (w : Classes) (c : Name) → is_known w c ≡ false → (d : Name) → IsOnChain w c d → c ≡ d
alone w c unknown d path = only_one c d ((all_put (IsOnChain w c) [] (c ∷ []) refl (puts_alone w c unknown [] (c ∷ []) (record { exact = λ x. (λ h. inr (only_one c x h), λ q. that x q) })) d).1 path)
  where
    that : (x : Name) → Contains [] x ⊎ (c ≡ x) → Contains (c ∷ []) x
    that x (inl h) = absurd (nothing_in x h)
    that x (inr e) = subst (λ (z : Name). Contains (c ∷ []) z) e (Contains-push [] c)

pub puts_alone_live : (w : Classes) (c : Name) (a b : List ClassNeed) → is_known w c ≡ false → Puts (λ n. Live c ≡ n) a b → Puts (IsLiveBy w c) a b
puts_alone_live w c a b unknown f = adds_as Contains (λ n. Live c ≡ n) (IsLiveBy w c) a b (λ n e. record { class = c; on_chain = stay; need_is = e }) (λ n q. ap Live (alone w c unknown q.class q.on_chain) ∙ q.need_is) f

-- a fact that needs nothing, and a field
pub puts_nothing : (w : Classes) (f g : Fact) (a : List ClassNeed) → f ≡ g → ((n : ClassNeed) → IsNeedBy w g n → ⊥) → Puts (IsNeedBy w f) a a
puts_nothing w f g a is none = puts_by w f g a a is (adds_none Contains (IsNeedBy w g) a none)

pub puts_static : (c f : Name) (mark : Bool) (a b : List ClassNeed) → mark ≡ true → Puts (λ n. Static c f ≡ n) a b → Puts (IsStaticBy c f mark) a b
puts_static c f mark a b is = subst (λ (m : Bool). Puts (IsStaticBy c f m) a b) (sym is)

pub puts_no_static : (c f : Name) (mark : Bool) (a : List ClassNeed) → mark ≡ false → Puts (IsStaticBy c f mark) a a
puts_no_static c f mark a is = subst (λ (m : Bool). Puts (IsStaticBy c f m) a a) (sym is) (adds_none Contains (IsStaticBy c f false) a (λ n q. q))
