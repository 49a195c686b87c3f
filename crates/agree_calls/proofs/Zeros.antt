-- The properties of a new object: each field of each class of its chain at the zero of its type.
use Rattle.std.proofs.Common.{◌≡◌, Bool, true, false, List, [], ◌∷◌, ◌&&◌, Option, Some, refl, sym, ap, ◌∙◌, subst, ◌⊎◌, inl, inr, if◌then◌else◌}
use Rattle.std.specs.Prelude.{◌||◌}
use Rattle.std.specs.List.{list_any}
use Rattle.std.proofs.lemmas.Slice.Eq.{bytes_eq-Decides}
use Rattle.dispatch_laws.specs.States as ir
use Rattle.js_mean.specs.Objects.{with_property}
use Rattle.js_mean.specs.States as js
use Rattle.js_tree.specs.Terms.{Name}
use Rattle.sj_mangling.specs.Bindings.{field_binding}
use Rattle.sj_mangling.specs.declared.bindings.FieldBinding.TheVariants.{Property}
use Rattle.sj_names.proofs.Same.{impossible}
use Rattle.sj_names.specs.Same.{is_same_text}
use Rattle.agree_bodies.specs.Settings.{Place, IsField, FieldsDiffer, SameState}
use Rattle.agree_bodies.specs.Worlds.{World}
use Rattle.sj_trees.specs.declared.classes.FieldDef.{FieldDef}
use Rattle.sj_trees.specs.declared.types.IrType.{IrType}
use Rattle.agree_calls.specs.Chains.{ChainStands, extends_none, extends_one, AllFields, HasAmong, ChainFields}
use Rattle.agree_calls.specs.Made.{zero_shown, with_fields}
use Rattle.agree_calls.proofs.Chains.{made_by}

same : (a : Name) → is_same_text a a ≡ true
same a = (bytes_eq-Decides a a).1 refl

module _ (p : Place) (differ : FieldsDiffer p) where
  -- what a property holds behind one that is set
  behind_one : (c f d g : Name) (s t : IrType) (v : js.Value) (own : Name → Option js.Value) → IsField p.classes c f s → IsField p.classes d g t → with_property (field_binding Property c f) v own (field_binding Property d g) ≡ (if (is_same_text d c && is_same_text g f) then Some v else own (field_binding Property d g))
  behind_one c f d g s t v own i j = ap (λ (b : Bool). if b then Some v else own (field_binding Property d g)) (differ.properties c f d g s t i j)

  -- the constructor of another class leaves the property alone
  others : (c : Name) (fs : List FieldDef) (d g : Name) (t : IrType) (own : Name → Option js.Value) → AllFields p c fs → IsField p.classes d g t → is_same_text d c ≡ false → with_fields c fs own (field_binding Property d g) ≡ own (field_binding Property d g)
  others c [] d g t own all i e = refl
  others c (f ∷ fs) d g t own all i e = others c fs d g t (with_property (field_binding Property c f.name) (zero_shown f.tpe) own) all.1 i e ∙ behind_one c f.name d g f.tpe t (zero_shown f.tpe) own all.0 i ∙ ap (λ (b : Bool). if (b && is_same_text g f.name) then Some (zero_shown f.tpe) else own (field_binding Property d g)) e

  -- and that of its own sets it to its zero
  own_zero : (c : Name) (fs : List FieldDef) (g : Name) (t : IrType) (own : Name → Option js.Value) → AllFields p c fs → IsField p.classes c g t → (own (field_binding Property c g) ≡ Some (zero_shown t)) ⊎ HasAmong fs g t → with_fields c fs own (field_binding Property c g) ≡ Some (zero_shown t)
  own_zero c [] g t own all i (inl h) = h
  own_zero c [] g t own all i (inr h) = absurd h
  own_zero c (f ∷ fs) g t own all i h = own_zero c fs g t (with_property (field_binding Property c f.name) (zero_shown f.tpe) own) all.1 i (go (is_same_text g f.name) refl h)
    where
      set_one : with_property (field_binding Property c f.name) (zero_shown f.tpe) own (field_binding Property c g) ≡ (if is_same_text g f.name then Some (zero_shown f.tpe) else own (field_binding Property c g))
      set_one = behind_one c f.name c g f.tpe t (zero_shown f.tpe) own all.0 i ∙ ap (λ (b : Bool). if (b && is_same_text g f.name) then Some (zero_shown f.tpe) else own (field_binding Property c g)) (same c)

      type_is : g ≡ f.name → f.tpe ≡ t
      type_is e = differ.types c g f.tpe t (subst (λ n. IsField p.classes c n f.tpe) (sym e) all.0) i

      go : (b : Bool) → is_same_text g f.name ≡ b → (own (field_binding Property c g) ≡ Some (zero_shown t)) ⊎ (((f.name ≡ g) × (f.tpe ≡ t)) ⊎ HasAmong fs g t) → (with_property (field_binding Property c f.name) (zero_shown f.tpe) own (field_binding Property c g) ≡ Some (zero_shown t)) ⊎ HasAmong fs g t
      go true e h = inl (set_one ∙ ap (λ (b : Bool). if b then Some (zero_shown f.tpe) else own (field_binding Property c g)) e ∙ ap (λ k. Some (zero_shown k)) (type_is ((bytes_eq-Decides g f.name).0 e)))
      go false e (inl h) = inl (set_one ∙ ap (λ (b : Bool). if b then Some (zero_shown f.tpe) else own (field_binding Property c g)) e ∙ h)
      go false e (inr (inl h)) = absurd (impossible (sym (subst (λ n. is_same_text g n ≡ false) h.0 e) ∙ same g))
      go false e (inr (inr h)) = inr h

  module _ (w : World) (s : ir.State) (u : js.State) (states : SameState p w s u) where
    -- each field of a class of the chain is at its zero
    pub zeros : (c : Name) (cs : List Name) (st : ChainStands p (c ∷ cs)) → ChainFields p (c ∷ cs) st → (d g : Name) (t : IrType) → IsField p.classes d g t → list_any (is_same_text d) (c ∷ cs) ≡ true → (made_by p w s u states c cs st).own (field_binding Property d g) ≡ Some (zero_shown t)
    zeros _ _ (extends_none c fields st) all d g t i h = go (is_same_text d c) refl h
      where
        go : (b : Bool) → is_same_text d c ≡ b → (b || false) ≡ true → (made_by p w s u states c [] (extends_none c fields st)).own (field_binding Property d g) ≡ Some (zero_shown t)
        go false e k = impossible k
        go true e k = let here : d ≡ c = (bytes_eq-Decides d c).0 e in subst (λ n. (made_by p w s u states c [] (extends_none c fields st)).own (field_binding Property n g) ≡ Some (zero_shown t)) (sym here) (own_zero c fields g t _ all.0 (subst (λ n. IsField p.classes n g t) here i) (inr (all.1 g t (subst (λ n. IsField p.classes n g t) here i))))
    zeros _ _ (extends_one c e es fields st rest) all d g t i h = go (λ k. zeros e es rest all.2 d g t i k) (is_same_text d c) refl h
      where
        go : (list_any (is_same_text d) (e ∷ es) ≡ true → (made_by p w s u states e es rest).own (field_binding Property d g) ≡ Some (zero_shown t)) → (b : Bool) → is_same_text d c ≡ b → (b || list_any (is_same_text d) (e ∷ es)) ≡ true → (made_by p w s u states c (e ∷ es) (extends_one c e es fields st rest)).own (field_binding Property d g) ≡ Some (zero_shown t)
        go below true q k = let here : d ≡ c = (bytes_eq-Decides d c).0 q in subst (λ n. (made_by p w s u states c (e ∷ es) (extends_one c e es fields st rest)).own (field_binding Property n g) ≡ Some (zero_shown t)) (sym here) (own_zero c fields g t _ all.0 (subst (λ n. IsField p.classes n g t) here i) (inr (all.1 g t (subst (λ n. IsField p.classes n g t) here i))))
        go below false q k = others c fields d g t _ all.0 i q ∙ below k
