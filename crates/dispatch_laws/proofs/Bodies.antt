-- The body that a class has for a method, as it is worked out and as a world has it.
use Rattle.std.proofs.Common.{◌≡◌, ℕ, zero, suc, ◌<◌, Bool, true, false, ◌&&◌, List, [], ◌∷◌, slice_get, Option, Some, None, MatchOption, refl, sym, ap, ◌∙◌, subst, arith}
use Rattle.std.specs.Prelude.{filter, is_some}
use Rattle.std.proofs.lemmas.Bool.{and_parts, and_from, cond-true, cond-false}
use Rattle.ir_mean.specs.Dispatch.{is_public, is_body, first_of, methods_in, body_at}
use Rattle.sj_names.proofs.Same.{method-same, namespace-same}
use Rattle.sj_names.specs.Same.{is_same_method, is_same_namespace}
use Rattle.sj_names.specs.declared.method_names.MethodName.{MethodName}
use Rattle.sj_names.specs.declared.method_names.Namespace.{Namespace}
use Rattle.sj_names.specs.declared.method_names.Namespace.TheVariants.{Public}
use Rattle.sj_trees.specs.declared.classes.ClassDef.{ClassDef}
use Rattle.sj_trees.specs.declared.classes.MethodDef.{MethodDef}
use Rattle.ir_mean.specs.Known.{Name, Classes, class_of}
use Rattle.ir_mean.specs.Paths.{IsFirst, HasNone}
use Rattle.ir_mean.specs.Resolution.{IsBody, IsBodyAt, HasNoBody}
use Rattle.ir_mean.proofs.Bodies.{no_body, body_is}
use Rattle.ir_mean.proofs.LawsHold.{same_body}
use Rattle.dispatch_laws.proofs.SameNames.{method-itself}

module _ (m : MethodName) where
  pub is_body-right : (d : MethodDef) → is_body m d ≡ true → IsBody m d
  is_body-right d h =
      let both = and_parts (is_public d && is_same_method m d.name) (is_some d.body) h in
      let named = and_parts (is_public d) (is_same_method m d.name) both.0 in
      record { is_public = record { namespace_is = namespace-same d.namespace Public named.0; name_is = sym (method-same m d.name named.1) }; has_body = both.1 }

  pub is_body-tells : (d : MethodDef) → IsBody m d → is_body m d ≡ true
  is_body-tells d b =
      let public : is_public d ≡ true = subst (λ (n : Namespace). is_same_namespace n Public ≡ true) (sym b.is_public.namespace_is) refl in
      let named : is_same_method m d.name ≡ true = subst (λ (n : MethodName). is_same_method m n ≡ true) (sym b.is_public.name_is) (method-itself m) in
      and_from (is_public d && is_same_method m d.name) (is_some d.body) (and_from (is_public d) (is_same_method m d.name) public named) b.has_body

  -- the first of methods that is a body is found, if there is one
  pub first_body : (ds : List MethodDef) → MatchOption (first_of (filter (is_body m) ds)) (HasNone (IsBody m) ds) (IsFirst (IsBody m) ds)
  first_body [] = record { none = λ i d at h. absurd (cc) }
  first_body (x ∷ xs) = go (is_body m x) refl (first_body xs)
    where
      Right : List MethodDef → Type 0
      Right l = MatchOption (first_of l) (HasNone (IsBody m) (x ∷ xs)) (IsFirst (IsBody m) (x ∷ xs))

      here : is_body m x ≡ true → IsFirst (IsBody m) (x ∷ xs) x
      here e = record { place = 0; stands = refl; has = is_body-right x e; none_before = λ i y lt at h. absurd (omega arith) }

      refused : is_body m x ≡ false → (y : MethodDef) → Some x ≡ Some y → IsBody m y → ⊥
      refused e y s h = let same : x ≡ y = cc in let t : is_body m x ≡ true = is_body-tells x (subst (IsBody m) (sym same) h) in cc

      later : is_body m x ≡ false → (o : Option MethodDef) → MatchOption o (HasNone (IsBody m) xs) (IsFirst (IsBody m) xs) → MatchOption o (HasNone (IsBody m) (x ∷ xs)) (IsFirst (IsBody m) (x ∷ xs))
      later e None none = record { none = none_here }
        where
          none_here : (i : ℕ) (y : MethodDef) → slice_get (x ∷ xs) i ≡ Some y → IsBody m y → ⊥
          none_here zero y at h = refused e y at h
          none_here (suc i) y at h = none.none i y at h
      later e (Some d) first = record { place = suc first.place; stands = first.stands; has = first.has; none_before = none_here }
        where
          none_here : (i : ℕ) (y : MethodDef) → i < suc first.place → slice_get (x ∷ xs) i ≡ Some y → IsBody m y → ⊥
          none_here zero y lt at h = refused e y at h
          none_here (suc i) y lt at h = first.none_before i y (omega (arith, lt)) at h

      go : (b : Bool) → is_body m x ≡ b → MatchOption (first_of (filter (is_body m) xs)) (HasNone (IsBody m) xs) (IsFirst (IsBody m) xs) → Right (filter (is_body m) (x ∷ xs))
      go true e below = subst Right (sym (cond-true (is_body m x) (x ∷ filter (is_body m) xs) (filter (is_body m) xs) e)) (here e)
      go false e below = subst Right (sym (cond-false (is_body m x) (x ∷ filter (is_body m) xs) (filter (is_body m) xs) e)) (later e (first_of (filter (is_body m) xs)) below)

module _ (w : Classes) (m : MethodName) (name : Name) where
  in_class : (o : Option ClassDef) → class_of w name ≡ o → (found : Option MethodDef) → first_of (filter (is_body m) (methods_in o)) ≡ found → MatchOption found (HasNoBody w m name) (IsBodyAt w m name)
  in_class None e None f = record { none = λ d b. let s : None ≡ Some b.class = sym e ∙ b.is_class in cc }
  in_class None e (Some d) f = absurd (cc)
  in_class (Some c) e found f = right found (subst (λ (o : Option MethodDef). MatchOption o (HasNone (IsBody m) c.methods) (IsFirst (IsBody m) c.methods)) f (first_body m c.methods))
    where
      right : (o : Option MethodDef) → MatchOption o (HasNone (IsBody m) c.methods) (IsFirst (IsBody m) c.methods) → MatchOption o (HasNoBody w m name) (IsBodyAt w m name)
      right None none = no_body w m name c (sym e) none
      right (Some d) first = body_is w m name c d (sym e) first

  pub body_at-right : (found : Option MethodDef) → body_at w m name ≡ found → MatchOption found (HasNoBody w m name) (IsBodyAt w m name)
  body_at-right found e = in_class (class_of w name) refl found e

  pub body_found : (d : MethodDef) → IsBodyAt w m name d → body_at w m name ≡ Some d
  body_found d b = go (body_at w m name) refl
    where
      go : (o : Option MethodDef) → body_at w m name ≡ o → body_at w m name ≡ Some d
      go None e = absurd ((body_at-right None e).none d b)
      go (Some x) e = e ∙ ap Some (same_body w m name x d (body_at-right (Some x) e) b)

  pub none_found : HasNoBody w m name → body_at w m name ≡ None
  none_found none = go (body_at w m name) refl
    where
      go : (o : Option MethodDef) → body_at w m name ≡ o → body_at w m name ≡ None
      go None e = e
      go (Some x) e = absurd (none.none x (body_at-right (Some x) e))
