-- What stands above the hijacked classes.
use Rattle.std.proofs.Common.{◌≡◌, zero, suc, Bool, true, false, List, [], ◌∷◌, Contains, Option, Some, None, refl, sym, ap, ◌∙◌, subst, cond, inl, inr, arith}
use Rattle.std.specs.Prelude.{◌⊎◌, ◌↔◌, ◌||◌, IsTrue, is_some, codes}
use Rattle.std.specs.List.{filter}
use Rattle.std.specs.List.{list_any}
use Rattle.std.proofs.lemmas.Bool.{or_cases}
use Rattle.sj_world.proofs.Orders.{same_name, is_same_itself}
use Rattle.sj_trees.specs.declared.classes.ClassDef.{ClassDef}
use Rattle.sj_world.specs.Paths.{Path, stay, on}
use Rattle.sj_world.specs.Known.{Name, Classes, class_of, is_known, is_same, is_hijacked, hijacked, stands_as, object, integer}
use Rattle.sj_world.specs.Ancestors.{IsAncestor, IsParent, Way, by_path, is_object, directly_above, above_in, listed, parents}
use Rattle.sj_world.proofs.LawsHold.{joined}
use Rattle.sj_world.proofs.ByName.{name_is}
use Rattle.sj_ask.specs.Answers.{IsAboveHijacked}
use Rattle.sj_ask.specs.Hijacked.{IsAboveObject, IsAboveIn, IsAboveName, IsAboveOne, void, boolean, character, long, string}
use Rattle.sj_ask.specs.Hijacked as one

-- a path of one step or more, by its first
record Departs {X : Type 0} (Step : X → X → Type 0) (a c : X) : Type 0 where
  to : X
  step : Step a to
  rest : Path Step to c

first_step : {X : Type 0} (Step : X → X → Type 0) (a c : X) → Path Step a c → (a ≡ c) ⊎ Departs Step a c
first_step Step a c stay = inl refl
first_step {X} Step a c (on b _ path step) = go (first_step Step a b path)
  where
    go : (a ≡ b) ⊎ Departs Step a b → (a ≡ c) ⊎ Departs Step a c
    go (inl e) = inr (record { to = c; step = subst (λ (x : X). Step x c) (sym e) step; rest = stay })
    go (inr d) = inr (record { to = d.to; step = d.step; rest = on b c d.rest step })

only_one : (y x : Name) → Contains (y ∷ []) x → x ≡ y
only_one y x (zero, lt, e) = sym e
only_one y x (suc i, lt, e) = absurd (omega arith)

or_true : (x : Bool) → (x || true) ≡ true
or_true true = refl
or_true false = refl

-- the eight are known
hijacked_known : (w : Classes) (n : Name) → is_hijacked n ≡ true → is_known w n ≡ true
hijacked_known w n h = ap (λ (t : Bool). is_some (class_of w n) || t) h ∙ or_true (is_some (class_of w n))

module _ (w : Classes) where
  record ObjectThere : Type 0 where
    class : ClassDef
    is_class : class_of w object ≡ Some class

  object_there : is_known w object ≡ true → ObjectThere
  object_there known = go (class_of w object) refl
    where
      go : (o : Option ClassDef) → class_of w object ≡ o → ObjectThere
      go (Some class) e = record { class = class; is_class = e }
      go None e = let t : false ≡ true = sym (ap (λ (o : Option ClassDef). is_some o || is_hijacked object) e) ∙ known in cc

  object_known : (class : ClassDef) → class_of w object ≡ Some class → is_known w object ≡ true
  object_known class e = ap (λ (o : Option ClassDef). is_some o || is_hijacked object) e

  object_alone : (t : Bool) (x : Name) → is_known w object ≡ t → Contains (cond t (object ∷ []) []) x → (x ≡ object) × (is_known w object ≡ true)
  object_alone true x e h = (only_one object x h, e)
  object_alone false x e (i, lt, at) = absurd (omega arith)

  module _ (b : Name) (is_one : is_hijacked b ≡ true) (plain : stands_as b ≡ b) where
    module _ (absent : class_of w b ≡ None) where
      parents_are : parents w b ≡ filter (is_known w) (object ∷ [])
      parents_are = ap (λ (n : Name). filter (is_known w) (directly_above w n)) plain ∙ ap (λ (o : Option ClassDef). filter (is_known w) (above_in o b)) absent ∙ ap (λ (t : Bool). filter (is_known w) (listed (cond t (Some object) None))) is_one

      above_object : (c : Name) → (c ≡ b → ⊥) → (c ≡ object → ⊥) → IsAncestor w b c → IsAboveObject w c
      above_object c not_b not_object a = go a.way
        where
          departs : Departs (IsParent w) b c → IsAboveObject w c
          departs d =
              let at = object_alone (is_known w object) d.to refl (subst (λ (l : List Name). Contains l d.to) parents_are d.step) in
              let there = object_there at.1 in
              record { class = there.class; is_class = there.is_class; way = record { known = at.1; way = by_path (subst (λ (n : Name). Path (IsParent w) n c) at.0 d.rest) } }

          go : Way w b c → IsAboveObject w c
          go (by_path p) = elim (first_step (IsParent w) b c p) [ inl e ↦ absurd (not_b (sym e)) | inr d ↦ departs d ]
          go (is_object e) = absurd (not_object e)

      from_object : (c : Name) → IsAboveObject w c → IsAncestor w b c
      from_object c o = record { known = hijacked_known w b is_one; way = go o.way.way }
        where
          known : is_known w object ≡ true
          known = object_known o.class o.is_class

          stands : Contains (filter (is_known w) (object ∷ [])) object
          stands = subst (λ (t : Bool). Contains (cond t (object ∷ []) []) object) (sym known) (0, omega arith, refl)

          step : IsParent w b object
          step = subst (λ (l : List Name). Contains l object) (sym parents_are) stands

          go : Way w object c → Way w b c
          go (by_path p) = by_path (joined (IsParent w) b object c (on b object stay step) p)
          go (is_object e) = is_object e

    name_above : (c : Name) → (c ≡ b → ⊥) → (c ≡ object → ⊥) → IsAncestor w b c → IsAboveName w b c
    name_above c not_b not_object a = go (class_of w b) refl
      where
        go : (o : Option ClassDef) → class_of w b ≡ o → IsAboveIn w o b c
        go None e = above_object e c not_b not_object a
        go (Some class) e = a

    above_name : (c : Name) → IsAboveName w b c → IsAncestor w b c
    above_name c = go (class_of w b) refl
      where
        go : (o : Option ClassDef) → class_of w b ≡ o → IsAboveIn w o b c → IsAncestor w b c
        go None e h = from_object e c h
        go (Some class) e h = h

  -- what stands above `java.lang.Byte` and `java.lang.Short` stands above `java.lang.Integer`
  integer_above : (b c : Name) → stands_as b ≡ integer → (c ≡ b → ⊥) → IsAncestor w b c → IsAncestor w integer c
  integer_above b c stands not_b a = record { known = hijacked_known w integer refl; way = go a.way }
    where
      same : parents w b ≡ parents w integer
      same = ap (λ (n : Name). filter (is_known w) (directly_above w n)) stands

      go : Way w b c → Way w integer c
      go (by_path p) = elim (first_step (IsParent w) b c p) [
        | inl e ↦ absurd (not_b (sym e))
        | inr d ↦ by_path (joined (IsParent w) integer d.to c (on integer d.to stay (subst (λ (l : List Name). Contains l d.to) same d.step)) d.rest)
      ]
      go (is_object e) = is_object e

-- one of the eight
data Which (n : Name) : Type 0 where
  is_void : n ≡ codes "java.lang.Void" → Which n
  is_boolean : n ≡ codes "java.lang.Boolean" → Which n
  is_character : n ≡ codes "java.lang.Character" → Which n
  is_byte : n ≡ codes "java.lang.Byte" → Which n
  is_short : n ≡ codes "java.lang.Short" → Which n
  is_integer : n ≡ codes "java.lang.Integer" → Which n
  is_long : n ≡ codes "java.lang.Long" → Which n
  is_string : n ≡ codes "java.lang.String" → Which n

which_at : (n : Name) → Contains hijacked n → Which n
which_at n (zero, lt, e) = is_void (sym e)
which_at n (suc zero, lt, e) = is_boolean (sym e)
which_at n (suc (suc zero), lt, e) = is_character (sym e)
which_at n (suc (suc (suc zero)), lt, e) = is_byte (sym e)
which_at n (suc (suc (suc (suc zero))), lt, e) = is_short (sym e)
which_at n (suc (suc (suc (suc (suc zero)))), lt, e) = is_integer (sym e)
which_at n (suc (suc (suc (suc (suc (suc zero))))), lt, e) = is_long (sym e)
which_at n (suc (suc (suc (suc (suc (suc (suc zero)))))), lt, e) = is_string (sym e)
which_at n (suc (suc (suc (suc (suc (suc (suc (suc i))))))), lt, e) = absurd (omega arith)

named : (names : List Name) (n : Name) → list_any (is_same n) names ≡ true → Contains names n
named [] n h = cc
named (x ∷ names) n h = elim (or_cases (is_same n x) (list_any (is_same n) names) h) [
  | inl e ↦ (0, omega arith, sym (same_name n x e))
  | inr r ↦ later (named names n r)
]
  where
    later : Contains names n → Contains (x ∷ names) n
    later (i, lt, e) = (suc i, omega arith, e)

which : (n : Name) → is_hijacked n ≡ true → Which n
which n h = which_at n (named hijacked n h)

module _ (w : Classes) (c : Name) where
  -- above one of the eight, of which it is none, and other than `java.lang.Object`
  pub above_one : is_hijacked c ≡ false → (c ≡ object → ⊥) → IsAboveHijacked w c → IsAboveOne w c
  above_one none not_object h = go (which h.below h.hijacked)
    where
      other : (n : Name) → is_hijacked n ≡ true → c ≡ n → ⊥
      other n is e = let t : is_hijacked c ≡ true = ap is_hijacked e ∙ is in cc

      at : (n : Name) → h.below ≡ n → IsAncestor w n c
      at n e = subst (λ (b : Name). IsAncestor w b c) e h.way

      through : (n : Name) → is_hijacked n ≡ true → stands_as n ≡ integer → h.below ≡ n → IsAboveOne w c
      through n is stands e = one.integer (name_above w integer refl refl c (other integer refl) not_object (integer_above w n c stands (other n is) (at n e)))

      go : Which h.below → IsAboveOne w c
      go (is_void e) = void (name_above w (codes "java.lang.Void") refl refl c (other (codes "java.lang.Void") refl) not_object (at (codes "java.lang.Void") e))
      go (is_boolean e) = boolean (name_above w (codes "java.lang.Boolean") refl refl c (other (codes "java.lang.Boolean") refl) not_object (at (codes "java.lang.Boolean") e))
      go (is_character e) = character (name_above w (codes "java.lang.Character") refl refl c (other (codes "java.lang.Character") refl) not_object (at (codes "java.lang.Character") e))
      go (is_byte e) = through (codes "java.lang.Byte") refl refl e
      go (is_short e) = through (codes "java.lang.Short") refl refl e
      go (is_integer e) = one.integer (name_above w (codes "java.lang.Integer") refl refl c (other (codes "java.lang.Integer") refl) not_object (at (codes "java.lang.Integer") e))
      go (is_long e) = long (name_above w (codes "java.lang.Long") refl refl c (other (codes "java.lang.Long") refl) not_object (at (codes "java.lang.Long") e))
      go (is_string e) = string (name_above w (codes "java.lang.String") refl refl c (other (codes "java.lang.String") refl) not_object (at (codes "java.lang.String") e))

  pub one_above : IsAboveOne w c → IsAboveHijacked w c
  one_above (void h) = record { below = codes "java.lang.Void"; hijacked = refl; way = above_name w (codes "java.lang.Void") refl refl c h }
  one_above (boolean h) = record { below = codes "java.lang.Boolean"; hijacked = refl; way = above_name w (codes "java.lang.Boolean") refl refl c h }
  one_above (character h) = record { below = codes "java.lang.Character"; hijacked = refl; way = above_name w (codes "java.lang.Character") refl refl c h }
  one_above (one.integer h) = record { below = codes "java.lang.Integer"; hijacked = refl; way = above_name w (codes "java.lang.Integer") refl refl c h }
  one_above (long h) = record { below = codes "java.lang.Long"; hijacked = refl; way = above_name w (codes "java.lang.Long") refl refl c h }
  one_above (string h) = record { below = codes "java.lang.String"; hijacked = refl; way = above_name w (codes "java.lang.String") refl refl c h }

  pub itself : is_hijacked c ≡ true → IsAboveHijacked w c
  itself is = record { below = c; hijacked = is; way = record { known = hijacked_known w c is; way = by_path stay } }

  pub at_object : c ≡ object → IsAboveHijacked w c
  at_object e = record { below = codes "java.lang.Void"; hijacked = refl; way = record { known = hijacked_known w (codes "java.lang.Void") refl; way = is_object e } }

module _ (w : Classes) (c : Name) where
  -- a test of what is above a class that is there
  pub object_tested : (class : ClassDef) (r : Bool) → Some class ≡ class_of w object → IsTrue r ↔ IsAncestor w class.name c → IsTrue r ↔ IsAboveObject w c
  object_tested class r at h = (
    λ t. record { class = class; is_class = sym at; way = subst (λ (n : Name). IsAncestor w n c) (name_is w object class at) (h.0 t) },
    λ o. h.1 (subst (λ (n : Name). IsAncestor w n c) (sym (name_is w object class at)) o.way),
  )

  pub no_object : None ≡ class_of w object → IsTrue false ↔ IsAboveObject w c
  no_object at = (λ t. cc, λ o. let e : None ≡ Some o.class = at ∙ o.is_class in cc)

module _ (w : Classes) (b c : Name) where
  pub name_tested : (class : ClassDef) (r : Bool) → Some class ≡ class_of w b → IsTrue r ↔ IsAncestor w class.name c → IsTrue r ↔ IsAboveName w b c
  name_tested class r at h =
      subst (λ (o : Option ClassDef). IsTrue r ↔ IsAboveIn w o b c) at (
        λ t. subst (λ (n : Name). IsAncestor w n c) (name_is w b class at) (h.0 t),
        λ a. h.1 (subst (λ (n : Name). IsAncestor w n c) (sym (name_is w b class at)) a),
      )

module _ (w : Classes) (c : Name) where
  not_this : (n : Name) (r : Bool) → IsTrue r ↔ IsAboveName w n c → r ≡ false → IsAboveName w n c → ⊥
  not_this n r h e a = let t : r ≡ true = h.1 a in cc

  -- where it is above none of the first five, it is above one where it is above the last
  pub last_tested : (a b d e f r : Bool) → IsTrue a ↔ IsAboveName w (codes "java.lang.Void") c → IsTrue b ↔ IsAboveName w (codes "java.lang.Boolean") c → IsTrue d ↔ IsAboveName w (codes "java.lang.Character") c → IsTrue e ↔ IsAboveName w (codes "java.lang.Integer") c → IsTrue f ↔ IsAboveName w (codes "java.lang.Long") c → IsTrue r ↔ IsAboveName w (codes "java.lang.String") c → a ≡ false → b ≡ false → d ≡ false → e ≡ false → f ≡ false → IsTrue r ↔ IsAboveOne w c
  last_tested a b d e f r ha hb hd he hf hr na nb nd ne nf = (λ t. string (hr.0 t), go)
    where
      go : IsAboveOne w c → IsTrue r
      go (void h) = absurd (not_this (codes "java.lang.Void") a ha na h)
      go (boolean h) = absurd (not_this (codes "java.lang.Boolean") b hb nb h)
      go (character h) = absurd (not_this (codes "java.lang.Character") d hd nd h)
      go (one.integer h) = absurd (not_this (codes "java.lang.Integer") e he ne h)
      go (long h) = absurd (not_this (codes "java.lang.Long") f hf nf h)
      go (string h) = hr.1 h

  pub by_name : (t : Name) → t ≡ c → is_hijacked t ≡ true → IsAboveHijacked w c
  by_name t e h = itself w c (subst (λ (n : Name). is_hijacked n ≡ true) e h)

  pub by_object : (t : Name) → t ≡ c → is_same t object ≡ true → IsAboveHijacked w c
  by_object t e h = at_object w c (sym e ∙ same_name t object h)

  pub rest_tested : (t u : Name) (r : Bool) → t ≡ c → u ≡ c → is_hijacked t ≡ false → is_same u object ≡ false → IsTrue r ↔ IsAboveOne w c → IsTrue r ↔ IsAboveHijacked w c
  rest_tested t u r e d none other h = (
    λ s. one_above w c (h.0 s),
    λ a. h.1 (above_one w c (subst (λ (n : Name). is_hijacked n ≡ false) e none) (λ o. let s : is_same u object ≡ true = subst (λ (n : Name). is_same u n ≡ true) (d ∙ o) (is_same_itself u) in cc) a),
  )
