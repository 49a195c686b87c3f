-- The least default above a class, as it is worked out and as a world has it.
use Rattle.std.proofs.Common.{◌≡◌, ◌&&◌, Bool, true, false, List, [], ◌∷◌, Contains, Option, Some, None, MatchOption, if◌then◌else◌, refl, sym, ap, ◌∙◌, subst, inl, inr}
use Rattle.std.specs.Prelude.{◌⊎◌, filter, not}
use Rattle.std.specs.List.{list_any}
use Rattle.std.proofs.lemmas.Bool.{and_parts, and_from, not-true, not_from_false, false_from_ne_true}
use Rattle.ir_mean.specs.Dispatch.{Found, is_ancestor, is_interface, is_body, first_of, is_default, is_overridden, candidates, lesser_class, least_class, body_at, or_found, default_of}
use Rattle.ir_mean.proofs.AncestorsFound.{ancestors_are_worked_out}
use Rattle.sj_names.specs.declared.method_names.MethodName.{MethodName}
use Rattle.sj_trees.specs.declared.classes.ClassDef.{ClassDef}
use Rattle.sj_trees.specs.declared.classes.ClassKind.{ClassKind}
use Rattle.sj_trees.specs.declared.classes.ClassKind.TheVariants.{Interface}
use Rattle.sj_trees.specs.declared.classes.MethodDef.{MethodDef}
use Rattle.ir_mean.specs.Ancestors.{IsAncestor}
use Rattle.ir_mean.specs.Known.{Name, Classes, is_same, class_of}
use Rattle.ir_mean.specs.Paths.{IsFirst, HasNone}
use Rattle.ir_mean.specs.Refusals.{is_before, IsInOrder}
use Rattle.ir_mean.specs.Resolution.{IsBody, IsDefault, IsOverridden, IsCandidate, IsLeastCandidate, HasNoCandidate}
use Rattle.ir_mean.proofs.ByName.{class_of-place, class_of-stands, name_of_class}
use Rattle.ir_mean.proofs.Orders.{same_name, is_same_itself, differs_after}
use Rattle.ir_mean.proofs.Searches.{stands_at, contains_at}
use Rattle.worklist.proofs.Inserted.{nothing_in}
use Rattle.dispatch_laws.proofs.Bodies.{is_body-tells, is_body-right, first_body, body_found}
use Rattle.dispatch_laws.proofs.Lists.{first_stands, stands_behind, first_or_behind, any_of, passing, kept_stands, kept_passes, is_kept}

-- the least of classes is one of them
pub least_stands : (cs : List ClassDef) (k : ClassDef) → least_class cs ≡ Some k → Contains cs k
least_stands [] k e = absurd (cc)
least_stands (c ∷ cs) k e = go (least_class cs) refl e (least_stands cs k)
  where
    first : Some c ≡ Some k → Contains (c ∷ cs) k
    first s = let same : c ≡ k = cc in subst (Contains (c ∷ cs)) same (first_stands c cs)

    by_name : (b : Bool) (d : ClassDef) → least_class cs ≡ Some d → (if b then Some d else Some c) ≡ Some k → (least_class cs ≡ Some k → Contains cs k) → Contains (c ∷ cs) k
    by_name true d l h later = stands_behind c cs k (later (l ∙ h))
    by_name false d l h later = first h

    go : (o : Option ClassDef) → least_class cs ≡ o → lesser_class c o ≡ Some k → (least_class cs ≡ Some k → Contains cs k) → Contains (c ∷ cs) k
    go None l h later = first h
    go (Some d) l h later = by_name (is_before d.name c.name) d l h later

-- of two names of which neither stands before the other, both are one
neither_before : (a b : Name) → is_before a b ≡ false → is_before b a ≡ false → a ≡ b
neither_before a b h k = go (is_same a b) refl
  where
    go : (t : Bool) → is_same a b ≡ t → a ≡ b
    go true e = same_name a b e
    go false e = let wrong : true ≡ false = sym (differs_after a b k e) ∙ h in absurd (cc)

-- what is found as the least of classes has this name
record IsLeastOf (cs : List ClassDef) (name : Name) : Type 0 where
  class : ClassDef
  is_least : least_class cs ≡ Some class
  name_is : class.name ≡ name

-- a class that none of classes stands before has the name of the least
least_found : (cs : List ClassDef) (k : ClassDef) → Contains cs k → ((x : ClassDef) → Contains cs x → is_before x.name k.name ≡ false) → IsLeastOf cs k.name
least_found [] k h least = nothing_in k h
least_found (c ∷ cs) k h least = go (first_or_behind c cs k h) (λ i. least_found cs k i (λ x j. least x (stands_behind c cs x j)))
  where
    alone : (o : Option ClassDef) → least_class cs ≡ o → c ≡ k → IsLeastOf (c ∷ cs) k.name
    alone None l s = record { class = c; is_least = ap (lesser_class c) l; name_is = ap (λ (x : ClassDef). x.name) s }
    alone (Some d) l s =
        let none : is_before d.name c.name ≡ false = subst (λ (x : ClassDef). is_before d.name x.name ≡ false) (sym s) (least d (stands_behind c cs d (least_stands cs d l))) in
        record { class = c; is_least = ap (lesser_class c) l ∙ ap (λ (b : Bool). if b then Some d else Some c) none; name_is = ap (λ (x : ClassDef). x.name) s }

    compared : (b : Bool) (r : IsLeastOf cs k.name) → is_before r.class.name c.name ≡ b → IsLeastOf (c ∷ cs) k.name
    compared true r e = record { class = r.class; is_least = ap (lesser_class c) r.is_least ∙ ap (λ (b : Bool). if b then Some r.class else Some c) e; name_is = r.name_is }
    compared false r e =
        let after : is_before c.name r.class.name ≡ false = subst (λ (n : Name). is_before c.name n ≡ false) (sym r.name_is) (least c (first_stands c cs)) in
        record { class = c; is_least = ap (lesser_class c) r.is_least ∙ ap (λ (b : Bool). if b then Some r.class else Some c) e; name_is = neither_before c.name r.class.name after e ∙ r.name_is }

    go : (c ≡ k) ⊎ Contains cs k → (Contains cs k → IsLeastOf cs k.name) → IsLeastOf (c ∷ cs) k.name
    go (inl s) later = alone (least_class cs) refl s
    go (inr i) later = let r = later i in compared (is_before r.class.name c.name) r refl

is_interface-right : (k : ClassKind) → is_interface k ≡ true → k ≡ Interface
is_interface-right Interface h = refl
is_interface-right _ h = absurd (cc)

module _ (w : Classes) (m : MethodName) (c : Name) where
  -- the interfaces above with a body
  abbrev above_with_body : ClassDef → Bool
  above_with_body d = is_default m d && is_ancestor w c d.name

  abbrev defaults : List ClassDef
  defaults = filter above_with_body w

  abbrev overrides : ClassDef → ClassDef → Bool
  overrides k d = not (is_same d.name k.name) && is_ancestor w d.name k.name

  abbrev is_free : ClassDef → Bool
  is_free k = not (is_overridden w defaults k)

  pub candidate_above : (k : ClassDef) → Contains (candidates w m c) k → IsAncestor w c k.name
  candidate_above k h =
      let passes = and_parts (is_default m k) (is_ancestor w c k.name) (kept_passes above_with_body w k (kept_stands is_free defaults k h)) in
      (ancestors_are_worked_out w c k.name).0 passes.1

  -- a default stands among those above
  default_tells : (name : Name) (d : MethodDef) (b : IsDefault w m name d) → is_default m b.class ≡ true
  default_tells name d b = and_from (is_interface b.class.kind) (list_any (is_body m) b.class.methods) (ap is_interface b.is_interface) (any_of (is_body m) b.class.methods d (contains_at b.class.methods b.first.place d b.first.stands) (is_body-tells m d b.first.has))

  default_listed : (name : Name) (d : MethodDef) (b : IsDefault w m name d) → IsAncestor w c name → Contains defaults b.class
  default_listed name d b above =
      let named : b.class.name ≡ name = name_of_class w name b.class b.is_class in
      let stands = class_of-stands w name b.class b.is_class in
      let worked : is_ancestor w c b.class.name ≡ true = (ancestors_are_worked_out w c b.class.name).1 (subst (IsAncestor w c) (sym named) above) in
      is_kept above_with_body w b.class (and_from (is_default m b.class) (is_ancestor w c b.class.name) (default_tells name d b) worked) (contains_at w stands.place b.class stands.at)

  module _ (sorted : IsInOrder w) where
    is_found : (k : ClassDef) → Contains w k → class_of w k.name ≡ Some k
    is_found k h = class_of-place w sorted h.0 k k.name (stands_at w k h) (is_same_itself k.name)

    record SomeDefault (k : ClassDef) : Type 0 where
      method : MethodDef
      is_default : IsDefault w m k.name method

    default_right : (k : ClassDef) → class_of w k.name ≡ Some k → is_default m k ≡ true → SomeDefault k
    default_right k e h = go (first_of (filter (is_body m) k.methods)) (first_body m k.methods)
      where
        parts : (is_interface k.kind ≡ true) × (list_any (is_body m) k.methods ≡ true)
        parts = and_parts (is_interface k.kind) (list_any (is_body m) k.methods) h

        go : (o : Option MethodDef) → MatchOption o (HasNone (IsBody m) k.methods) (IsFirst (IsBody m) k.methods) → SomeDefault k
        go None none = let p = passing (is_body m) k.methods parts.1 in absurd (none.none p.stands.0 p.item (stands_at k.methods p.item p.stands) (is_body-right m p.item p.passes))
        go (Some d) first = record { method = d; is_default = record { class = k; is_class = e; is_interface = is_interface-right k.kind parts.0; first = first } }

    -- a default among those above
    default_among : (k : ClassDef) → Contains defaults k → SomeDefault k
    default_among k h = default_right k (is_found k (kept_stands above_with_body w k h)) (and_parts (is_default m k) (is_ancestor w c k.name) (kept_passes above_with_body w k h)).0

    above_among : (k : ClassDef) → Contains defaults k → IsAncestor w c k.name
    above_among k h = (ancestors_are_worked_out w c k.name).0 (and_parts (is_default m k) (is_ancestor w c k.name) (kept_passes above_with_body w k h)).1

    record SomeCandidate (k : ClassDef) : Type 0 where
      method : MethodDef
      is_candidate : IsCandidate w (IsAncestor w c) m k.name method

    candidate_right : (k : ClassDef) → Contains (candidates w m c) k → SomeCandidate k
    candidate_right k h =
        let among : Contains defaults k = kept_stands is_free defaults k h in
        let free : is_overridden w defaults k ≡ false = not-true (is_overridden w defaults k) (kept_passes is_free defaults k h) in
        let d = default_among k among in
        record { method = d.method; is_candidate = record { above = above_among k among; default = d.is_default; not_overridden = not_overridden free } }
      where
        not_overridden : is_overridden w defaults k ≡ false → IsOverridden w (IsAncestor w c) m k.name → ⊥
        not_overridden free o =
            let b = o.override.is_default in
            let named : b.class.name ≡ o.other = name_of_class w o.other b.class b.is_class in
            let apart : is_same b.class.name k.name ≡ false = false_from_ne_true (is_same b.class.name k.name) (λ e. o.override.apart (sym named ∙ same_name b.class.name k.name e)) in
            let below : is_ancestor w b.class.name k.name ≡ true = (ancestors_are_worked_out w b.class.name k.name).1 (subst (λ (n : Name). IsAncestor w n k.name) (sym named) o.override.below) in
            let overridden : is_overridden w defaults k ≡ true = any_of (overrides k) defaults b.class (default_listed o.other o.override.method b o.above) (and_from (not (is_same b.class.name k.name)) (is_ancestor w b.class.name k.name) (not_from_false (is_same b.class.name k.name) apart) below) in
            cc

    candidate_listed : (name : Name) (d : MethodDef) (x : IsCandidate w (IsAncestor w c) m name d) → Contains (candidates w m c) x.default.class
    candidate_listed name d x = is_kept is_free defaults k (not_from_false (is_overridden w defaults k) (false_from_ne_true (is_overridden w defaults k) (λ h. x.not_overridden (overridden h)))) (default_listed name d x.default x.above)
      where
        k : ClassDef
        k = x.default.class

        named : k.name ≡ name
        named = name_of_class w name k x.default.is_class

        overridden : is_overridden w defaults k ≡ true → IsOverridden w (IsAncestor w c) m name
        overridden h =
            let p = passing (overrides k) defaults h in
            let both = and_parts (not (is_same p.item.name k.name)) (is_ancestor w p.item.name k.name) p.passes in
            let differs : is_same p.item.name k.name ≡ false = not-true (is_same p.item.name k.name) both.0 in
            let o = default_among p.item p.stands in
            record {
              other = p.item.name;
              above = above_among p.item p.stands;
              override = record {
                apart = λ e. let same : is_same p.item.name k.name ≡ true = subst (λ (n : Name). is_same p.item.name n ≡ true) (e ∙ sym named) (is_same_itself p.item.name) in cc;
                below = subst (IsAncestor w p.item.name) named ((ancestors_are_worked_out w p.item.name k.name).0 both.1);
                method = o.method;
                is_default = o.is_default;
              };
            }

    -- the least of the candidates is found
    pub default_found : (d : MethodDef) (owner : Name) → IsLeastCandidate w (IsAncestor w c) m d owner → default_of w m (least_class (candidates w m c)) ≡ Some (record { owner = owner; method = d })
    default_found d owner l =
        let b = l.candidate.default in
        let named : b.class.name ≡ owner = name_of_class w owner b.class b.is_class in
        let r = least_found (candidates w m c) b.class (candidate_listed owner d l.candidate) (λ x h. let s = candidate_right x h in subst (λ (n : Name). is_before x.name n ≡ false) (sym named) (l.least x.name s.method s.is_candidate)) in
        ap (default_of w m) r.is_least ∙ ap (λ (n : Name). default_at n) (r.name_is ∙ named) ∙ ap (λ (o : Option MethodDef). or_found o owner None) (body_found w m owner d (record { class = b.class; is_class = b.is_class; first = b.first }))
      where
        default_at : Name → Option Found
        default_at n = or_found (body_at w m n) n None

    pub none_default : HasNoCandidate w (IsAncestor w c) m → default_of w m (least_class (candidates w m c)) ≡ None
    none_default none = ap (λ (cs : List ClassDef). default_of w m (least_class cs)) (go (candidates w m c) refl)
      where
        go : (cs : List ClassDef) → candidates w m c ≡ cs → candidates w m c ≡ []
        go [] e = e
        go (k ∷ ks) e = let s = candidate_right k (subst (λ (cs : List ClassDef). Contains cs k) (sym e) (first_stands k ks)) in absurd (none.none k.name s.method s.is_candidate)
