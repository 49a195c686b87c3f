-- The pieces of a class of a linked world, by its facts and its method entries.
use Rattle.std.specs.Prelude.{◌≡◌, ◌↔◌, Bool, true, List, [], ◌∷◌, ◌++◌, Contains, Some, None, IsTrue, not}
use Rattle.std.specs.Cmp.Lexicographic.{slice_cmp}
use Rattle.std.specs.List.{filter}
use Rattle.std.specs.List.Sorted.{IsPermutation, IsSorted}
use Rattle.std.specs.Ordering.{nat_cmp}
use Rattle.std.specs.declared.cmp.Ordering.{Ordering}
use Rattle.js_tree.specs.Terms.{Name, Piece}
use Rattle.sj_names.specs.declared.method_names.Member.{Member}
use Rattle.sj_trees.specs.declared.classes.FieldDef.{FieldDef}
use Rattle.sj_trees.specs.declared.classes.MethodDef.{MethodDef}
use Rattle.sj_baselink_spec.specs.Forms.{forms_by}
use Rattle.sj_baselink_spec.specs.BodyForm.{BodyForm}
use Rattle.sj_baselink_spec.specs.BodyFormVariants as forms
use Rattle.sj_baselink_spec.specs.Ancestors.{IsAncestor}
use Rattle.sj_baselink_spec.specs.Known.{Classes, class_of, is_same}
use Rattle.sj_baselink_spec.specs.Linked.{Linked}
use Rattle.sj_baselink_spec.specs.Members.{IsMethodOf}
use Rattle.sj_emit_expr_spec.specs.Tables.{AreAncestors}
use Rattle.sj_baselink_spec.specs.Fact.{Fact}
use Rattle.sj_baselink_spec.specs.FactVariants as facts
use Rattle.sj_baselink_spec.specs.Entries.{IsLive}
use Rattle.sj_emit_help_spec.specs.Words.{kind_class, worded_kinds}
use Rattle.sj_emit_class_spec.specs.Pieces.{Parts, pieces}
use Rattle.sj_emit_help_spec.specs.declared.kinds.Kind.{Kind}

-- a body that is needed has this form
pub record HasForm (w : Classes) (known : List Fact) (form : BodyForm) : Type 0 where
  pub member : Member
  pub needed : Contains known (facts.Body member)
  pub definition : MethodDef
  pub defined : IsMethodOf w member definition
  pub has : Contains (forms_by definition) form

-- by their names, in the order of their bytes
abbrev pub field_cmp : FieldDef → FieldDef → Ordering
field_cmp a b = slice_cmp nat_cmp a.name b.name

-- those of the fields with the property, in the order of their names
pub record AreSorted (given sorted : List FieldDef) : Type 0 where
  pub exact : IsPermutation given sorted
  pub in_order : IsSorted field_cmp sorted

abbrev pub is_own : FieldDef → Bool
is_own f = not f.is_static

-- of these kinds, in order, those whose values are instances of the class
pub data AreInstances (w : Classes) (c : Name) : List Kind → List Kind → Type 0 where
  none_yet : AreInstances w c [] []
  instance : (k : Kind) (ks ts : List Kind) → AreInstances w c ks ts → IsAncestor w (kind_class k) c → AreInstances w c (ks ++ k ∷ []) (ts ++ k ∷ [])
  other : (k : Kind) (ks ts : List Kind) → AreInstances w c ks ts → (IsAncestor w (kind_class k) c → ⊥) → AreInstances w c (ks ++ k ∷ []) ts

-- of these fields, in order, the static ones of the class that are reached
pub data AreReached (known : List Fact) (c : Name) : List FieldDef → List FieldDef → Type 0 where
  none_yet : AreReached known c [] []
  reached : (f : FieldDef) (fs gs : List FieldDef) → AreReached known c fs gs → IsTrue f.is_static → Contains known (facts.NeededField c f.name true) → AreReached known c (fs ++ f ∷ []) (gs ++ f ∷ [])
  other : (f : FieldDef) (fs gs : List FieldDef) → AreReached known c fs gs → (IsTrue f.is_static → Contains known (facts.NeededField c f.name true) → ⊥) → AreReached known c (fs ++ f ∷ []) gs

-- the static fields that are reached, in the order of their names
pub record AreStatics (known : List Fact) (c : Name) (fields statics : List FieldDef) : Type 0 where
  pub reached : List FieldDef
  pub are_reached : AreReached known c fields reached
  pub sorted : AreSorted reached statics

-- what the pieces of a class are made of
pub record AreParts (l : Linked) (c : Name) (p : Parts) : Type 0 where
  pub class_is : class_of l.world c ≡ Some p.class
  pub ancestors : AreAncestors l.world c p.ancestors
  pub entries : p.entries ≡ filter (λ e. is_same e.class c) l.entries
  pub fields : AreSorted (filter is_own p.class.fields) p.fields
  pub statics : AreStatics l.facts c p.class.fields p.statics
  pub instances : AreInstances l.world c worded_kinds p.instances
  pub live : IsTrue p.is_live ↔ IsLive l.world l.facts c
  pub base : IsTrue p.is_base ↔ (HasForm l.world l.facts (forms.Base c))
  pub loaded : IsTrue p.is_loaded ↔ HasForm l.world l.facts (forms.Load c)
  pub stored : IsTrue p.is_stored ↔ HasForm l.world l.facts (forms.Store c)
  pub tested : IsTrue p.is_tested ↔ HasForm l.world l.facts (forms.Test c)
  pub cast : IsTrue p.is_cast ↔ HasForm l.world l.facts (forms.Cast c)

-- the pieces of a class: none, where the world hasn't the class
pub data AreClassPieces (l : Linked) (c : Name) (result : List Piece) : Type 0 where
  absent : class_of l.world c ≡ None → result ≡ [] → AreClassPieces l c result
  present : (p : Parts) → AreParts l c p → result ≡ pieces p → AreClassPieces l c result
