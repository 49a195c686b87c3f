-- Which classes of values stand at or below a class that isn't hijacked.
use Rattle.std.proofs.Common.{◌≡◌, ◌⊎◌, Bool, true, false, [], ◌∷◌, ◌||◌, inl, inr, Option, Some, None, codes, refl, sym, ap, subst, ◌∙◌, Contains, if◌then◌else◌}
use Rattle.std.specs.Prelude.{is_some}
use Rattle.std.specs.List.{filter, list_any}
use Rattle.std.proofs.lemmas.Bool.{or_cases, or_right}
use Rattle.std.proofs.lemmas.List.Folds.{Any-from_list_any}
use Rattle.object_helpers.proofs.AncestorsFound.{ancestors_are_worked_out}
use Rattle.object_helpers.proofs.Written.{any_of}
use Rattle.object_helpers.specs.AgreeSoundnessLaws.{class_of_kind}
use Rattle.object_helpers.specs.Targets.{has_hijacked_in}
use Rattle.file_declarations.specs.ClassTestsKinds.{is_told}
use Rattle.sj_emit_help_spec.specs.Words.{kind_class}
use Rattle.sj_emit_help_spec.specs.declared.kinds.Kind.{Kind}
use Rattle.sj_emit_help_spec.specs.declared.kinds.Kind.TheVariants as kinds
use Rattle.ir_mean.specs.Dispatch.{is_ancestor}
use Rattle.sj_trees.specs.Types.{class_type}
use Rattle.sj_names.proofs.Same.{impossible, text-same}
use Rattle.sj_names.specs.Same.{is_same_text}
use Rattle.sj_names.specs.WellKnown.{integer, hijacked, is_object, is_hijacked, object}
use Rattle.sj_trees.specs.declared.classes.ClassDef.{ClassDef}
use Rattle.sj_trees.specs.declared.types.IrType.{IrType}
use Rattle.sj_world.specs.Ancestors as ancestors
use Rattle.sj_world.specs.Ancestors.{IsParent, IsAncestor, Way, by_path, directly_above}
use Rattle.sj_world.specs.Known.{Name, Classes, class_of, is_known, stands_as}
use Rattle.sj_world.specs.Paths.{Path, stay, on}
use Rattle.sj_world.specs.Subtypes.{hijacked_class, IsSub, equal, from_nothing, to_any, null_to_class, null_to_array, class_to_class, primitive_to_class, arrays_alike, arrays_of_arrays}

none_there : {A X : Type 0} (o : Option X) (x : X) → o ≡ None → o ≡ Some x → A
none_there o x e f = let s : None ≡ Some x = sym e ∙ f in absurd (cc)

pub kind_hijacked : (k : Kind) → is_hijacked (kind_class k) ≡ true
kind_hijacked kinds.Undefined = refl
kind_hijacked kinds.Boolean = refl
kind_hijacked kinds.Char = refl
kind_hijacked kinds.Byte = refl
kind_hijacked kinds.Short = refl
kind_hijacked kinds.Int = refl
kind_hijacked kinds.Long = refl
kind_hijacked kinds.Text = refl

module _ (w : Classes) where
  pub known_class : (d : Name) (k : ClassDef) → class_of w d ≡ Some k → is_known w d ≡ true
  known_class d k e = ap (λ (o : Option ClassDef). is_some o || is_hijacked d) e

  pub known_hijacked : (h : Name) → is_hijacked h ≡ true → is_known w h ≡ true
  known_hijacked h e = or_right (is_some (class_of w h)) (is_hijacked h) e

  pub stands_above : (a b : Name) → is_ancestor w a b ≡ true → IsAncestor w a b
  stands_above a b = (ancestors_are_worked_out w a b).0

  pub above_found : (a b : Name) → IsAncestor w a b → is_ancestor w a b ≡ true
  above_found a b = (ancestors_are_worked_out w a b).1

  -- what stands above a class of small numbers stands above that of ints
  small_path : (s c : Name) → stands_as s ≡ stands_as integer → Path (IsParent w) s c → (s ≡ c) ⊎ Path (IsParent w) integer c
  small_path s _ e stay = inl refl
  small_path s _ e (on b d path step) = go (small_path s b e path)
    where
      go : (s ≡ b) ⊎ Path (IsParent w) integer b → (s ≡ d) ⊎ Path (IsParent w) integer d
      go (inl same) = inr (on integer d stay (subst (λ (n : Name). Contains (filter (is_known w) (directly_above w n)) d) e (subst (λ (x : Name). IsParent w x d) (sym same) step)))
      go (inr p) = inr (on b d p step)

  small_above : (s c : Name) → stands_as s ≡ stands_as integer → is_hijacked s ≡ true → is_hijacked c ≡ false → IsAncestor w s c → IsAncestor w integer c
  small_above s c e is free h = record { known = known_hijacked integer refl; way = go h.way }
    where
      by : (s ≡ c) ⊎ Path (IsParent w) integer c → Way w integer c
      by (inl same) = impossible (sym free ∙ subst (λ (n : Name). is_hijacked n ≡ true) same is)
      by (inr p) = by_path p

      go : Way w s c → Way w integer c
      go (by_path p) = by (small_path s c e p)
      go (ancestors.is_object o) = ancestors.is_object o

  -- a kind that is told, whose class stands at or below this one
  pub record ToldBelow (c : Name) : Type 0 where
    pub kind : Kind
    pub told : is_told kind ≡ true
    pub below : is_ancestor w (kind_class kind) c ≡ true

  module _ (c : Name) (free : is_hijacked c ≡ false) where
    abbrev Below : Name → Bool
    Below h = is_ancestor w h c

    ints : Below (codes "java.lang.Integer") ≡ true → ToldBelow c
    ints h = record { kind = kinds.Int; told = refl; below = h }

    small_told : (s : Name) → stands_as s ≡ stands_as integer → is_hijacked s ≡ true → Below s ≡ true → ToldBelow c
    small_told s e is h = ints (above_found integer c (small_above s c e is free (stands_above s c h)))

    pub told_below : has_hijacked_in w c ≡ true → ToldBelow c
    told_below h = elim (or_cases (Below (codes "java.lang.Void")) (list_any Below (codes "java.lang.Boolean" ∷ codes "java.lang.Character" ∷ codes "java.lang.Byte" ∷ codes "java.lang.Short" ∷ codes "java.lang.Integer" ∷ codes "java.lang.Long" ∷ codes "java.lang.String" ∷ [])) h) [
      | inl it ↦ record { kind = kinds.Undefined; told = refl; below = it }
      | inr h ↦ elim (or_cases (Below (codes "java.lang.Boolean")) (list_any Below (codes "java.lang.Character" ∷ codes "java.lang.Byte" ∷ codes "java.lang.Short" ∷ codes "java.lang.Integer" ∷ codes "java.lang.Long" ∷ codes "java.lang.String" ∷ [])) h) [
        | inl it ↦ record { kind = kinds.Boolean; told = refl; below = it }
        | inr h ↦ elim (or_cases (Below (codes "java.lang.Character")) (list_any Below (codes "java.lang.Byte" ∷ codes "java.lang.Short" ∷ codes "java.lang.Integer" ∷ codes "java.lang.Long" ∷ codes "java.lang.String" ∷ [])) h) [
          | inl it ↦ record { kind = kinds.Char; told = refl; below = it }
          | inr h ↦ elim (or_cases (Below (codes "java.lang.Byte")) (list_any Below (codes "java.lang.Short" ∷ codes "java.lang.Integer" ∷ codes "java.lang.Long" ∷ codes "java.lang.String" ∷ [])) h) [
            | inl it ↦ small_told (codes "java.lang.Byte") refl refl it
            | inr h ↦ elim (or_cases (Below (codes "java.lang.Short")) (list_any Below (codes "java.lang.Integer" ∷ codes "java.lang.Long" ∷ codes "java.lang.String" ∷ [])) h) [
              | inl it ↦ small_told (codes "java.lang.Short") refl refl it
              | inr h ↦ elim (or_cases (Below (codes "java.lang.Integer")) (list_any Below (codes "java.lang.Long" ∷ codes "java.lang.String" ∷ [])) h) [
                | inl it ↦ ints it
                | inr h ↦ elim (or_cases (Below (codes "java.lang.Long")) (list_any Below (codes "java.lang.String" ∷ [])) h) [
                  | inl it ↦ record { kind = kinds.Long; told = refl; below = it }
                  | inr h ↦ elim (or_cases (Below (codes "java.lang.String")) false h) [
                    | inl it ↦ record { kind = kinds.Text; told = refl; below = it }
                    | inr none ↦ impossible none
                  ]
                ]
              ]
            ]
          ]
        ]
      ]
    ]

    -- where no hijacked class stands there or below, each is elsewhere
    pub none_below : has_hijacked_in w c ≡ false → (h : Name) → is_hijacked h ≡ true → Below h ≡ false
    none_below none h is = go (Below h) refl
      where
        go : (b : Bool) → Below h ≡ b → Below h ≡ false
        go false e = e
        go true e =
            let found = Any-from_list_any (is_same_text h) hijacked is in
            impossible (sym none ∙ any_of Below hijacked found.1 (found.0, found.2, found.3) (subst (λ (n : Name). Below n ≡ true) (text-same h found.1 found.4) e))

    -- where a hijacked class does, some does
    pub some_below : (k : Kind) → Below (kind_class k) ≡ true → has_hijacked_in w c ≡ true
    some_below k e = go (has_hijacked_in w c) refl
      where
        go : (b : Bool) → has_hijacked_in w c ≡ b → has_hijacked_in w c ≡ true
        go true f = f
        go false f = impossible (sym (none_below f (kind_class k) (kind_hijacked k)) ∙ e)

    -- a class of which objects are made stands at or below one whose type theirs is below
    pub class_below : (d : Name) → is_known w d ≡ true → IsSub w (IrType.Class d) (class_type c) → Below d ≡ true
    class_below d known s = above_found d c (go (is_object c) refl s)
      where
        go : (b : Bool) → is_object c ≡ b → IsSub w (IrType.Class d) (if b then IrType.Any else IrType.Class c) → IsAncestor w d c
        go true e s = record { known = known; way = ancestors.is_object (text-same c object e) }
        go false e (equal f) = let same : d ≡ c = cc in record { known = known; way = by_path (subst (Path (IsParent w) d) same stay) }
        go false e (class_to_class a b f g h) = let one : a ≡ d = cc in let two : b ≡ c = cc in subst (IsAncestor w d) two (subst (λ (n : Name). IsAncestor w n b) one h)
        go false e (from_nothing f) = absurd cc
        go false e (to_any f n) = absurd cc
        go false e (null_to_class a f g) = absurd cc
        go false e (null_to_array b f g) = absurd cc
        go false e (primitive_to_class a b f g h) = absurd cc
        go false e (arrays_alike a b f g i j) = absurd cc
        go false e (arrays_of_arrays a b f g i j) = absurd cc

    -- and so does the class of a primitive type below it
    hijacked_below : (o : IrType) (h : Name) → hijacked_class o ≡ Some h → is_hijacked h ≡ true → IsSub w o (class_type c) → IsAncestor w h c
    hijacked_below o h e is s = go (is_object c) refl s
      where
        no_class : {A : Type 0} (t : IrType) → o ≡ t → hijacked_class t ≡ None → A
        no_class t f none = none_there (hijacked_class o) h (ap hijacked_class f ∙ none) e

        go : (b : Bool) → is_object c ≡ b → IsSub w o (if b then IrType.Any else IrType.Class c) → IsAncestor w h c
        go true f s = record { known = known_hijacked h is; way = ancestors.is_object (text-same c object f) }
        go false f (primitive_to_class a b g i j) = let one : a ≡ h = cc in let two : b ≡ c = cc in subst (IsAncestor w h) two (subst (λ (n : Name). IsAncestor w n b) one j)
        go false f (equal g) = no_class (IrType.Class c) g refl
        go false f (from_nothing g) = no_class IrType.Nothing g refl
        go false f (to_any g n) = absurd cc
        go false f (null_to_class a g i) = no_class IrType.Null g refl
        go false f (null_to_array b g i) = no_class IrType.Null g refl
        go false f (class_to_class a b g i j) = no_class (IrType.Class a) g refl
        go false f (arrays_alike a b g i j k) = no_class (IrType.Array a) g refl
        go false f (arrays_of_arrays a b g i j k) = no_class (IrType.Array a) g refl

    -- the kind of the class by which a call on values of a primitive type is looked up
    pub record ToldKind (d : Name) : Type 0 where
      pub kind : Kind
      pub told : is_told kind ≡ true
      pub is : kind_class kind ≡ d
      pub below : is_ancestor w (kind_class kind) c ≡ true

    one_name : (a b : Name) → Some a ≡ Some b → a ≡ b
    one_name a b e = cc

    as_it_is : (o : IrType) (k : Kind) (d : Name) → is_told k ≡ true → hijacked_class o ≡ Some (kind_class k) → Some (kind_class k) ≡ Some d → IsSub w o (class_type c) → ToldKind d
    as_it_is o k d told e same s = record { kind = k; told = told; is = one_name (kind_class k) d same; below = above_found (kind_class k) c (hijacked_below o (kind_class k) e (kind_hijacked k) s) }

    as_an_int : (o : IrType) (h d : Name) → hijacked_class o ≡ Some h → stands_as h ≡ stands_as integer → is_hijacked h ≡ true → Some integer ≡ Some d → IsSub w o (class_type c) → ToldKind d
    as_an_int o h d e small is same s = record { kind = kinds.Int; told = refl; is = one_name integer d same; below = above_found integer c (small_above h c small is free (hijacked_below o h e is s)) }

    pub told_kind : (o : IrType) (d : Name) → class_of_kind o ≡ Some d → IsSub w o (class_type c) → ToldKind d
    told_kind IrType.Undefined d e s = as_it_is IrType.Undefined kinds.Undefined d refl refl e s
    told_kind IrType.Boolean d e s = as_it_is IrType.Boolean kinds.Boolean d refl refl e s
    told_kind IrType.Char d e s = as_it_is IrType.Char kinds.Char d refl refl e s
    told_kind IrType.Byte d e s = as_an_int IrType.Byte (codes "java.lang.Byte") d refl refl refl e s
    told_kind IrType.Short d e s = as_an_int IrType.Short (codes "java.lang.Short") d refl refl refl e s
    told_kind IrType.Int d e s = as_it_is IrType.Int kinds.Int d refl refl e s
    told_kind IrType.Long d e s = as_it_is IrType.Long kinds.Long d refl refl e s
    told_kind IrType.String d e s = as_it_is IrType.String kinds.Text d refl refl e s
    told_kind IrType.Any d e s = absurd (cc)
    told_kind IrType.Nothing d e s = absurd (cc)
    told_kind IrType.Null d e s = absurd (cc)
    told_kind IrType.NoType d e s = absurd (cc)
    told_kind (IrType.Class a) d e s = absurd (cc)
    told_kind (IrType.Array a) d e s = absurd (cc)
