-- The fields of a class that keeps the local rules.
use Rattle.std.proofs.Common.{◌≡◌, ◌⊎◌, ◌&&◌, ◌||◌, not, ℕ, Bool, true, false, List, [], ◌∷◌, Option, Some, None, inl, inr, refl, sym, ap, subst, ◌∙◌, Contains, arith, if◌then◌else◌}
use Rattle.std.specs.Prelude.{option_map}
use Rattle.std.specs.List.{list_any}
use Rattle.std.proofs.lemmas.Bool.{and_parts, and_from}
use Rattle.std.proofs.lemmas.List.Folds.{Any-from_list_any}
use Rattle.linked_entries.proofs.Members.{same-class}
use Rattle.linked_entries.proofs.Lists.{nothing_in, in_front_or_behind}
use Rattle.linked_entries.proofs.Plain.{class_found}
use Rattle.linked_entries.specs.Locals.{HasValue}
use Rattle.linked_entries.proofs.Chains.{has_fields}
use Rattle.linked_entries.specs.Worlds.{HasFields}
use Rattle.ir_mean.specs.World.{instance_zero, zeros_in, static_zero, statics_in, zero_of}
use Rattle.ir_mean.specs.World as ir
use Rattle.linked_entries.proofs.Fields.{Apart, is_same_field, from_key, fields_apart}
use Rattle.linked_entries.specs.Used.{is_its_field, has_field_in, is_its_static, has_static_in}
use Rattle.linked_entries.proofs.Classes.{none-each, none-passes, keeps-hijacked}
use Rattle.linked_entries.proofs.Types.{empty-is}
use Rattle.sj_local.specs.Broken.{FirstBroken, Breaks, all_rules, at_member}
use Rattle.sj_local.specs.Firsts.{first_where}
use Rattle.sj_local.specs.MemberRules.{breaks_field, has_no_fields, field_key}
use Rattle.sj_local.specs.Names.{is_empty_type}
use Rattle.sj_local.specs.declared.rules.Rule.TheVariants as rule
use Rattle.sj_names.proofs.Same.{impossible, text-same, text-refl}
use Rattle.sj_names.specs.Same.{is_same_text}
use Rattle.sj_trees.proofs.SameTypes.{type-same}
use Rattle.sj_trees.specs.SameTypes.{is_same_type}
use Rattle.sj_trees.specs.declared.classes.ClassDef.{ClassDef}
use Rattle.sj_trees.specs.declared.classes.FieldDef.{FieldDef}
use Rattle.sj_trees.specs.declared.types.IrType.{IrType}
use Rattle.sj_world.specs.Known.{Name, Classes, class_of}

no_place : (o : Option ℕ) → None ≡ option_map at_member o → o ≡ None
no_place None e = refl
no_place (Some n) e = impossible cc

-- a field of a class that keeps the local rules keeps the rule on fields
pub field_keeps : (c : ClassDef) → FirstBroken c None → (d : FieldDef) → Contains c.fields d → breaks_field c d ≡ false
field_keeps c h d i = none-passes (breaks_field c) c.fields (no_place (first_where (breaks_field c) c.fields) (none-each (Breaks c) 1 all_rules None h refl rule.Field (4, omega arith, refl))) d i

first_false : (a b : Bool) → (a || b) ≡ false → a ≡ false
first_false true b h = impossible (sym h)
first_false false b h = refl

not_true : (b : Bool) → not b ≡ true → b ≡ false
not_true true h = impossible h
not_true false h = refl

pub has_value : (c : ClassDef) (d : FieldDef) → breaks_field c d ≡ false → HasValue d.tpe
has_value c d h = empty-is d.tpe ∙ first_false (is_empty_type d.tpe) (not d.is_static && has_no_fields c) h

-- an instance field of this name and type among fields
pub record IsInstanceField (fs : List FieldDef) (f : Name) (t : IrType) : Type 0 where
  pub field : FieldDef
  pub among : Contains fs field
  pub instance : field.is_static ≡ false
  pub name_is : f ≡ field.name
  pub type_is : t ≡ field.tpe

pub field_found : (fs : List FieldDef) (f : Name) (t : IrType) → list_any (is_its_field f t) fs ≡ true → IsInstanceField fs f t
field_found fs f t h =
    let a = Any-from_list_any (is_its_field f t) fs h in
    let p = and_parts (not a.1.is_static) (is_same_text f a.1.name && is_same_type t a.1.tpe) a.4 in
    let q = and_parts (is_same_text f a.1.name) (is_same_type t a.1.tpe) p.1 in
    record { field = a.1; among = (a.0, a.2, a.3); instance = not_true a.1.is_static p.0; name_is = text-same f a.1.name q.0; type_is = type-same t a.1.tpe q.1 }

-- a static field of this name and type among fields
pub record IsStaticAmong (fs : List FieldDef) (f : Name) (t : IrType) : Type 0 where
  pub field : FieldDef
  pub among : Contains fs field
  pub static : field.is_static ≡ true
  pub name_is : f ≡ field.name
  pub type_is : t ≡ field.tpe

pub static_found : (fs : List FieldDef) (f : Name) (t : IrType) → list_any (is_its_static f t) fs ≡ true → IsStaticAmong fs f t
static_found fs f t h =
    let a = Any-from_list_any (is_its_static f t) fs h in
    let p = and_parts a.1.is_static (is_same_text f a.1.name && is_same_type t a.1.tpe) a.4 in
    let q = and_parts (is_same_text f a.1.name) (is_same_type t a.1.tpe) p.1 in
    record { field = a.1; among = (a.0, a.2, a.3); static = p.0; name_is = text-same f a.1.name q.0; type_is = type-same t a.1.tpe q.1 }

-- two fields that are apart have two keys
pub one_field : (fs : List FieldDef) → Apart fs → (a b : FieldDef) → Contains fs a → Contains fs b → field_key a ≡ field_key b → a ≡ b
one_field [] h a b i k e = nothing_in a i
one_field (x ∷ xs) h a b i k e = go (in_front_or_behind x xs a i) (in_front_or_behind x xs b k) (λ p q. one_field xs h.1 a b p q e)
  where
    go : (x ≡ a) ⊎ Contains xs a → (x ≡ b) ⊎ Contains xs b → (Contains xs a → Contains xs b → a ≡ b) → a ≡ b
    go (inl p) (inl q) later = sym p ∙ q
    go (inl p) (inr q) later = impossible (sym (h.0 b q) ∙ subst (λ (y : FieldDef). is_same_field y b ≡ true) (sym p) (from_key a b e))
    go (inr p) (inl q) later = impossible (sym (h.0 a p) ∙ subst (λ (y : FieldDef). is_same_field y a ≡ true) (sym q) (from_key b a (sym e)))
    go (inr p) (inr q) later = later p q

pub key_of : (d : FieldDef) (f : Name) (b : Bool) → d.is_static ≡ b → f ≡ d.name → field_key d ≡ record { is_static = b; name = f }
key_of d f b mark name = (λ i. record { is_static = mark i; name = sym name i })

-- among fields that are apart, an instance field is at first at the zero of its type
zero_there : (fs : List FieldDef) → Apart fs → (d : FieldDef) (f : Name) → Contains fs d → d.is_static ≡ false → f ≡ d.name → instance_zero fs f ≡ Some (zero_of d.tpe)
zero_there [] h d f i mark name = nothing_in d i
zero_there (x ∷ xs) h d f i mark name = go (not x.is_static && is_same_text f x.name) refl (in_front_or_behind x xs d i) (zero_there xs h.1 d f)
  where
    tested : x ≡ d → (not x.is_static && is_same_text f x.name) ≡ true
    tested e = subst (λ (y : FieldDef). (not y.is_static && is_same_text f y.name) ≡ true) (sym e) (and_from (not d.is_static) (is_same_text f d.name) (ap not mark) (subst (λ (n : Name). is_same_text f n ≡ true) name (text-refl f)))

    same : (not x.is_static && is_same_text f x.name) ≡ true → field_key x ≡ field_key d
    same t = let p = and_parts (not x.is_static) (is_same_text f x.name) t in key_of x f false (not_true x.is_static p.0) (text-same f x.name p.1) ∙ sym (key_of d f false mark name)

    go : (b : Bool) → (not x.is_static && is_same_text f x.name) ≡ b → (x ≡ d) ⊎ Contains xs d → (Contains xs d → d.is_static ≡ false → f ≡ d.name → instance_zero xs f ≡ Some (zero_of d.tpe)) → (if b then Some (zero_of x.tpe) else instance_zero xs f) ≡ Some (zero_of d.tpe)
    go true t (inl e) later = ap (λ (y : FieldDef). Some (zero_of y.tpe)) e
    go true t (inr k) later = impossible (sym (h.0 d k) ∙ from_key x d (same t))
    go false t (inl e) later = impossible (sym t ∙ tested e)
    go false t (inr k) later = later k mark name

-- and so is a static one
static_zero_there : (fs : List FieldDef) → Apart fs → (d : FieldDef) (f : Name) → Contains fs d → d.is_static ≡ true → f ≡ d.name → static_zero fs f ≡ Some (zero_of d.tpe)
static_zero_there [] h d f i mark name = nothing_in d i
static_zero_there (x ∷ xs) h d f i mark name = go (x.is_static && is_same_text f x.name) refl (in_front_or_behind x xs d i) (static_zero_there xs h.1 d f)
  where
    tested : x ≡ d → (x.is_static && is_same_text f x.name) ≡ true
    tested e = subst (λ (y : FieldDef). (y.is_static && is_same_text f y.name) ≡ true) (sym e) (and_from d.is_static (is_same_text f d.name) mark (subst (λ (n : Name). is_same_text f n ≡ true) name (text-refl f)))

    same : (x.is_static && is_same_text f x.name) ≡ true → field_key x ≡ field_key d
    same t = let p = and_parts x.is_static (is_same_text f x.name) t in key_of x f true p.0 (text-same f x.name p.1) ∙ sym (key_of d f true mark name)

    go : (b : Bool) → (x.is_static && is_same_text f x.name) ≡ b → (x ≡ d) ⊎ Contains xs d → (Contains xs d → d.is_static ≡ true → f ≡ d.name → static_zero xs f ≡ Some (zero_of d.tpe)) → (if b then Some (zero_of x.tpe) else static_zero xs f) ≡ Some (zero_of d.tpe)
    go true t (inl e) later = ap (λ (y : FieldDef). Some (zero_of y.tpe)) e
    go true t (inr k) later = impossible (sym (h.0 d k) ∙ from_key x d (same t))
    go false t (inl e) later = impossible (sym t ∙ tested e)
    go false t (inr k) later = later k mark name

module _ (w : Classes) (unbroken : (c : ClassDef) → Contains w c → FirstBroken c None) where
  -- a field that can be used is an instance field of its class
  pub field_there : (c f : Name) (t : IrType) → has_field_in (class_of w c) f t ≡ true → HasFields w c × HasValue t × (zeros_in (ir.class_of w c) f ≡ Some (zero_of t))
  field_there c f t h = go (class_of w c) refl h
    where
      go : (o : Option ClassDef) → class_of w c ≡ o → has_field_in o f t ≡ true → HasFields w c × HasValue t × (zeros_in (ir.class_of w c) f ≡ Some (zero_of t))
      go None e k = impossible k
      go (Some class) e k =
          let at = class_found w c class e in
          let its = field_found class.fields f t k in
          let keeps = field_keeps class (unbroken class at.0) its.field its.among in
          let found : class_of w class.name ≡ Some class = subst (λ (n : Name). class_of w n ≡ Some class) (sym at.1) e in
          let zero : instance_zero class.fields f ≡ Some (zero_of its.field.tpe) = zero_there class.fields (fields_apart class (unbroken class at.0)) its.field f its.among its.instance its.name_is in
          (subst (HasFields w) at.1 (has_fields w class its.field found (keeps-hijacked class (unbroken class at.0)) keeps its.instance), subst HasValue (sym its.type_is) (has_value class its.field keeps), ap (λ (o : Option ClassDef). zeros_in o f) (same-class w c ∙ e) ∙ subst (λ (u : IrType). instance_zero class.fields f ≡ Some (zero_of u)) (sym its.type_is) zero)

  -- it has one type
  pub type_there : (c f : Name) (s t : IrType) → has_field_in (class_of w c) f s ≡ true → has_field_in (class_of w c) f t ≡ true → s ≡ t
  type_there c f s t h k = go (class_of w c) refl h k
    where
      go : (o : Option ClassDef) → class_of w c ≡ o → has_field_in o f s ≡ true → has_field_in o f t ≡ true → s ≡ t
      go None e i j = impossible i
      go (Some class) e i j =
          let one = field_found class.fields f s i in
          let other = field_found class.fields f t j in
          let same : one.field ≡ other.field = one_field class.fields (fields_apart class (unbroken class (class_found w c class e).0)) one.field other.field one.among other.among (key_of one.field f false one.instance one.name_is ∙ sym (key_of other.field f false other.instance other.name_is)) in
          one.type_is ∙ ap (λ (d : FieldDef). d.tpe) same ∙ sym other.type_is

  -- a static field that can be used is one of its class
  pub static_there : (c f : Name) (t : IrType) → has_static_in (class_of w c) f t ≡ true → HasValue t × (statics_in (ir.class_of w c) f ≡ Some (zero_of t))
  static_there c f t h = go (class_of w c) refl h
    where
      go : (o : Option ClassDef) → class_of w c ≡ o → has_static_in o f t ≡ true → HasValue t × (statics_in (ir.class_of w c) f ≡ Some (zero_of t))
      go None e k = impossible k
      go (Some class) e k =
          let at = class_found w c class e in
          let its = static_found class.fields f t k in
          let keeps = field_keeps class (unbroken class at.0) its.field its.among in
          let zero : static_zero class.fields f ≡ Some (zero_of its.field.tpe) = static_zero_there class.fields (fields_apart class (unbroken class at.0)) its.field f its.among its.static its.name_is in
          (subst HasValue (sym its.type_is) (has_value class its.field keeps), ap (λ (o : Option ClassDef). statics_in o f) (same-class w c ∙ e) ∙ subst (λ (u : IrType). static_zero class.fields f ≡ Some (zero_of u)) (sym its.type_is) zero)

  -- it has one type
  pub static_type_there : (c f : Name) (s t : IrType) → has_static_in (class_of w c) f s ≡ true → has_static_in (class_of w c) f t ≡ true → s ≡ t
  static_type_there c f s t h k = go (class_of w c) refl h k
    where
      go : (o : Option ClassDef) → class_of w c ≡ o → has_static_in o f s ≡ true → has_static_in o f t ≡ true → s ≡ t
      go None e i j = impossible i
      go (Some class) e i j =
          let one = static_found class.fields f s i in
          let other = static_found class.fields f t j in
          let same : one.field ≡ other.field = one_field class.fields (fields_apart class (unbroken class (class_found w c class e).0)) one.field other.field one.among other.among (key_of one.field f true one.static one.name_is ∙ sym (key_of other.field f true other.static other.name_is)) in
          one.type_is ∙ ap (λ (d : FieldDef). d.tpe) same ∙ sym other.type_is
