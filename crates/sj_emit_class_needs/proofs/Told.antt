-- What each need is by the facts and the forms of bodies.
use Rattle.std.proofs.Common.{◌≡◌, true, false, List, Option, Some, None, Contains, refl, sym, ap, ◌∙◌, subst}
use Rattle.sj_infos.specs.Forms.{forms_by}
use Rattle.sj_infos.specs.declared.forms.BodyForm.{BodyForm}
use Rattle.sj_infos.specs.declared.forms.BodyForm.TheVariants as forms
use Rattle.sj_world.specs.Ancestors.{IsOnChain}
use Rattle.sj_world.specs.Known.{Name, Classes}
use Rattle.sj_world.specs.declared.facts.Fact.{Fact}
use Rattle.sj_world.specs.declared.facts.Fact.TheVariants as facts
use Rattle.sj_baselink_spec.specs.Entries.{IsLive}
use Rattle.sj_emit_class_spec.specs.Classes.{HasForm}
use Rattle.sj_reach_spec.proofs.Lacking.{same_some}
use Rattle.sj_emit_class_needs.specs.Needs.{need_of, IsNeedBy, IsNeed}
use Rattle.sj_emit_class_needs.specs.declared.needs.ClassNeed.{ClassNeed}
use Rattle.sj_emit_class_needs.specs.declared.needs.ClassNeed.TheVariants as needs

-- the form with a need
abbrev pub form_with : ClassNeed → Option BodyForm
form_with (needs.Test c) = Some (forms.Test c)
form_with (needs.Cast c) = Some (forms.Cast c)
form_with (needs.Base c) = Some (forms.Base c)
form_with (needs.Load c) = Some (forms.Load c)
form_with (needs.Store c) = Some (forms.Store c)
form_with (needs.Live c) = None
form_with (needs.Static c f) = None

none_some : {A B : Type 0} (a : A) → None ≡ Some a → B
none_some a e = let z : ⊥ = cc in absurd z

there : (n m : ClassNeed) (o : Option BodyForm) → Some m ≡ Some n → form_with m ≡ o → form_with n ≡ o
there n m o e h = sym (ap form_with (same_some m n e)) ∙ h

back : (a : BodyForm) (n : ClassNeed) → need_of a ≡ Some n → form_with n ≡ Some a
back (forms.Test c) n h = there n (needs.Test c) (Some (forms.Test c)) h refl
back (forms.Cast c) n h = there n (needs.Cast c) (Some (forms.Cast c)) h refl
back (forms.Base c) n h = there n (needs.Base c) (Some (forms.Base c)) h refl
back (forms.Load c) n h = there n (needs.Load c) (Some (forms.Load c)) h refl
back (forms.Store c) n h = there n (needs.Store c) (Some (forms.Store c)) h refl
back (forms.Reflective m) n h = none_some n h

-- a fact that isn't a body has no need of a form
no_form : {B : Type 0} (m n : ClassNeed) (form : BodyForm) → form_with n ≡ Some form → form_with m ≡ None → m ≡ n → B
no_form m n form f g e = none_some form (sym g ∙ ap form_with e ∙ f)

module _ (w : Classes) (known : List Fact) where
  pub of_form : (n : ClassNeed) (form : BodyForm) → form_with n ≡ Some form → IsNeed w known n → HasForm w known form
  of_form n form is r = by_fact r.fact r.among r.needs
    where
      by_fact : (f : Fact) → Contains known f → IsNeedBy w f n → HasForm w known form
      by_fact (facts.Body k) h q = record { member = k; needed = h; definition = q.definition; defined = q.defined; has = subst (λ (a : BodyForm). Contains (forms_by q.definition) a) (same_some q.has.form form (sym (back q.has.form n q.has.need_is) ∙ is)) q.has.has }
      by_fact (facts.NeededField c f true) h q = no_form (needs.Static c f) n form is refl q
      by_fact (facts.NeededField c f false) h q = absurd q
      by_fact (facts.Made c) h q = no_form (needs.Live q.class) n form is refl q.need_is
      by_fact (facts.Needed c) h q = absurd q
      by_fact (facts.CellUsed c) h q = absurd q
      by_fact (facts.Called c m) h q = absurd q

  pub to_form : (n : ClassNeed) (form : BodyForm) → need_of form ≡ Some n → HasForm w known form → IsNeed w known n
  to_form n form is q = record { fact = facts.Body q.member; among = q.needed; needs = record { definition = q.definition; defined = q.defined; has = record { form = form; has = q.has; need_is = is } } }

  same_live : (c d : Name) → needs.Live c ≡ needs.Live d → c ≡ d
  same_live c d e = cc

  pub of_live : (c : Name) → IsNeed w known (needs.Live c) → IsLive w known c
  of_live c r = by_fact r.fact r.among r.needs
    where
      by_fact : (f : Fact) → Contains known f → IsNeedBy w f (needs.Live c) → IsLive w known c
      by_fact (facts.Body k) h q = none_some q.has.form (back q.has.form (needs.Live c) q.has.need_is)
      by_fact (facts.NeededField d f true) h q = let z : ⊥ = cc in absurd z
      by_fact (facts.NeededField d f false) h q = absurd q
      by_fact (facts.Made d) h q = record { made = d; is_made = h; on_chain = subst (IsOnChain w d) (same_live q.class c q.need_is) q.on_chain }
      by_fact (facts.Needed d) h q = absurd q
      by_fact (facts.CellUsed d) h q = absurd q
      by_fact (facts.Called d m) h q = absurd q

  pub to_live : (c : Name) → IsLive w known c → IsNeed w known (needs.Live c)
  to_live c q = record { fact = facts.Made q.made; among = q.is_made; needs = record { class = c; on_chain = q.on_chain; need_is = refl } }

  same_class : (c d f g : Name) → needs.Static c f ≡ needs.Static d g → c ≡ d
  same_class c d f g e = cc

  same_field : (c d f g : Name) → needs.Static c f ≡ needs.Static d g → f ≡ g
  same_field c d f g e = cc

  pub of_field : (c f : Name) → IsNeed w known (needs.Static c f) → Contains known (facts.NeededField c f true)
  of_field c f r = by_fact r.fact r.among r.needs
    where
      by_fact : (fact : Fact) → Contains known fact → IsNeedBy w fact (needs.Static c f) → Contains known (facts.NeededField c f true)
      by_fact (facts.Body k) h q = none_some q.has.form (back q.has.form (needs.Static c f) q.has.need_is)
      by_fact (facts.NeededField d g true) h q = subst (λ (x : Fact). Contains known x) (λ i. facts.NeededField (same_class d c g f q i) (same_field d c g f q i) true) h
      by_fact (facts.NeededField d g false) h q = absurd q
      by_fact (facts.Made d) h q = let e : needs.Live q.class ≡ needs.Static c f = q.need_is in let z : ⊥ = cc in absurd z
      by_fact (facts.Needed d) h q = absurd q
      by_fact (facts.CellUsed d) h q = absurd q
      by_fact (facts.Called d m) h q = absurd q

  pub to_field : (c f : Name) → Contains known (facts.NeededField c f true) → IsNeed w known (needs.Static c f)
  to_field c f h = record { fact = facts.NeededField c f true; among = h; needs = refl }
