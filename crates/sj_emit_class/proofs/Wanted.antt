-- What the needs of classes say of a class.
use Rattle.std.proofs.Common.{◌≡◌, ℕ, Bool, true, List, Contains, Some, IsTrue, refl, sym, ◌∙◌, subst}
use Rattle.std.specs.Prelude.{◌↔◌, nat_eq, ◌&&◌}
use Rattle.std.specs.Bool.{Decides}
use Rattle.std.specs.Cmp.Lexicographic.{pointwise}
use Rattle.std.specs.List.{list_any}
use Rattle.std.proofs.lemmas.Bool.Decides.{Decides-and}
use Rattle.std.proofs.lemmas.Map.Made.{is_member-Decides}
use Rattle.std.proofs.lemmas.Slice.Eq.{bytes_eq-Decides}
use Rattle.sj_emit_class_needs.specs.Needs.{AreNeeds, need_of}
use Rattle.sj_emit_class_needs.specs.contracts.needs.ClassNeedPartialEq.TheImpl as need_eq
use Rattle.sj_emit_class_needs.specs.declared.needs.ClassNeed.{ClassNeed}
use Rattle.sj_emit_class_needs.specs.declared.needs.ClassNeed.TheVariants as needs
use Rattle.sj_emit_class_needs.proofs.SameNeeds.{need_is}
use Rattle.sj_emit_class_needs.proofs.Told.{form_with, of_form, to_form, of_live, to_live, of_field, to_field}
use Rattle.sj_baselink_spec.specs.Entries.{IsLive}
use Rattle.sj_emit_class_spec.specs.Classes.{HasForm}
use Rattle.sj_infos.specs.declared.forms.BodyForm.{BodyForm}
use Rattle.sj_world.specs.Known.{Name, Classes}
use Rattle.sj_world.specs.declared.facts.Fact.{Fact}
use Rattle.sj_world.specs.declared.facts.Fact.TheVariants.{NeededField}

both : (c d f g : List ℕ) → Decides (pointwise nat_eq c d && pointwise nat_eq f g) ((c ≡ d) × (f ≡ g))
both c d f g = Decides-and (pointwise nat_eq c d) (pointwise nat_eq f g) (bytes_eq-Decides c d) (bytes_eq-Decides f g)

is_itself : (a : ClassNeed) → need_eq.ghosts.eq a a ≡ true
is_itself (ClassNeed.Test c) = (bytes_eq-Decides c c).1 refl
is_itself (ClassNeed.Cast c) = (bytes_eq-Decides c c).1 refl
is_itself (ClassNeed.Base c) = (bytes_eq-Decides c c).1 refl
is_itself (ClassNeed.Load c) = (bytes_eq-Decides c c).1 refl
is_itself (ClassNeed.Store c) = (bytes_eq-Decides c c).1 refl
is_itself (ClassNeed.Live c) = (bytes_eq-Decides c c).1 refl
is_itself (ClassNeed.Static c f) = (both c c f f).1 (refl, refl)

need_decides : (a b : ClassNeed) → Decides (need_eq.ghosts.eq a b) (a ≡ b)
need_decides a b = (need_is a b, λ e. subst (λ (z : ClassNeed). need_eq.ghosts.eq a z ≡ true) e (is_itself a))

pub need_among : (listed : List ClassNeed) (n : ClassNeed) (r : Bool) → r ≡ list_any (need_eq.ghosts.eq n) listed → IsTrue r ↔ Contains listed n
need_among listed n r is = let test = is_member-Decides need_decides listed n in (λ t. test.0 (sym is ∙ t), λ h. is ∙ test.1 h)

pub through : {A B C : Type 0} → A ↔ B → B ↔ C → A ↔ C
through f g = (λ a. g.0 (f.0 a), λ c. f.1 (g.1 c))

module _ (w : Classes) (known : List Fact) (listed : List ClassNeed) (are : AreNeeds w known listed) where
  pub form_needed : (r : Bool) (n : Name → ClassNeed) (form : Name → BodyForm) (c d : Name) → form_with (n c) ≡ Some (form c) → need_of (form c) ≡ Some (n c) → d ≡ c → IsTrue r ↔ Contains listed (n d) → IsTrue r ↔ HasForm w known (form c)
  form_needed r n form c d back there is f = through (subst (λ (z : Name). IsTrue r ↔ Contains listed (n z)) is f) (through (are.exact (n c)) (of_form w known (n c) (form c) back, to_form w known (n c) (form c) there))

  pub live_needed : (r : Bool) (c d : Name) → d ≡ c → IsTrue r ↔ Contains listed (needs.Live d) → IsTrue r ↔ IsLive w known c
  live_needed r c d is f = through (subst (λ (z : Name). IsTrue r ↔ Contains listed (needs.Live z)) is f) (through (are.exact (needs.Live c)) (of_live w known c, to_live w known c))

  pub static_needed : (r : Bool) (c d f g : Name) → d ≡ c → g ≡ f → IsTrue r ↔ Contains listed (needs.Static d g) → IsTrue r ↔ Contains known (NeededField c f true)
  static_needed r c d f g is same h = through (subst (λ (z : Name). IsTrue r ↔ Contains listed (needs.Static c z)) same (subst (λ (z : Name). IsTrue r ↔ Contains listed (needs.Static z g)) is h)) (through (are.exact (needs.Static c f)) (of_field w known c f, to_field w known c f))
