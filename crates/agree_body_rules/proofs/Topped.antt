-- In a world where no class writes a hijacked class or stands above `java.lang.Object`, nothing stands above this one, and a class stands below
-- `java.lang.String` only as that class itself.
use Rattle.std.proofs.Common.{◌≡◌, Bool, true, false, [], Contains, Option, Some, None, codes, refl, sym, subst, inl, inr}
use Rattle.std.specs.Prelude.{if◌then◌else◌}
use Rattle.agree_body_rules.proofs.Lists.{nothing_in, in_front_or_behind, from_filter}
use Rattle.sj_names.proofs.Same.{impossible}
use Rattle.sj_trees.specs.declared.classes.ClassDef.{ClassDef}
use Rattle.sj_emit_expr_spec.specs.Ancestors.{listed, superclass_of_absent, above_in, written_in, directly_above, IsParent, Way, by_path, is_object, IsAncestor}
use Rattle.sj_emit_expr_spec.specs.Known.{Name, Classes, class_of, is_known, is_hijacked, stands_as, object}
use Rattle.sj_emit_expr_spec.specs.Laws.{IsTopped, IsPlain}
use Rattle.sj_emit_expr_spec.specs.Paths.{Path, stay, on}

abbrev pub string_class : Name
string_class = codes "java.lang.String"

-- what stands directly above a class that is absent: `java.lang.Object`, of one that isn't what it writes
pub absent_above : (name x : Name) → Contains (listed (superclass_of_absent name)) x → x ≡ object
absent_above name x h = go (is_hijacked name) h
  where
    go : (b : Bool) → Contains (listed (if b then Some object else None)) x → x ≡ object
    go true k = elim (in_front_or_behind object [] x k) [ inl e ↦ sym e | inr none ↦ nothing_in x none ]
    go false k = nothing_in x k

module _ (w : Classes) (plain : IsPlain w) where
  no_parent : (d : Name) → IsParent w object d → ⊥
  no_parent d i = go (class_of w object) refl (from_filter (is_known w) (directly_above w object) d i)
    where
      go : (o : Option ClassDef) → class_of w object ≡ o → Contains (above_in o object) d → ⊥
      go None e k = nothing_in d k
      go (Some c) e k = plain.topped d (subst (λ (o : Option ClassDef). Contains (written_in o) d) (sym e) k)

  up : (d : Name) → Path (IsParent w) object d → d ≡ object
  up _ stay = refl
  up _ (on b c path step) = absurd (no_parent c (subst (λ (x : Name). IsParent w x c) (up b path) step))

  at_top : (d : Name) → Way w object d → d ≡ object
  at_top d (by_path path) = up d path
  at_top d (is_object e) = e

  pub topped : IsTopped w
  topped = record { top = λ d a. at_top d a.way }

  no_child : (d : Name) → IsParent w d string_class → ⊥
  no_child d i = go (class_of w (stands_as d)) refl (from_filter (is_known w) (directly_above w (stands_as d)) string_class i)
    where
      go : (o : Option ClassDef) → class_of w (stands_as d) ≡ o → Contains (above_in o (stands_as d)) string_class → ⊥
      go None e k = let same : string_class ≡ object = absent_above (stands_as d) string_class k in let different : is_hijacked object ≡ true = subst (λ (n : Name). is_hijacked n ≡ true) same refl in impossible different
      go (Some c) e k = let free : is_hijacked string_class ≡ false = plain.apart (stands_as d) string_class (subst (λ (o : Option ClassDef). Contains (written_in o) string_class) (sym e) k) in impossible (sym free)

  below_string : (c : Name) (d : Name) → Path (IsParent w) c d → d ≡ string_class → c ≡ string_class
  below_string c _ stay e = e
  below_string c _ (on b d path step) e = absurd (no_child b (subst (λ (x : Name). IsParent w b x) e step))

  -- nothing but itself stands below `java.lang.String`
  pub string_alone : (c : Name) → IsAncestor w c string_class → c ≡ string_class
  string_alone c a = go a.way
    where
      go : Way w c string_class → c ≡ string_class
      go (by_path path) = below_string c string_class path refl
      go (is_object e) = let different : is_hijacked object ≡ true = subst (λ (n : Name). is_hijacked n ≡ true) e refl in impossible different
