-- The type of a label, with one more label inside.
use Rattle.std.proofs.Common.{◌≡◌, ◌∙◌, ℕ, Bool, true, false, List, [], ◌∷◌, ◌++◌, Option, Some, None, refl, sym, ap, subst, if◌then◌else◌}
use Rattle.std.specs.Prelude.{nat_eq}
use Rattle.std.specs.Cmp.Lexicographic.{pointwise}
use Rattle.std.proofs.lemmas.Slice.Eq.{bytes_eq-Decides}
use Rattle.sj_trees.specs.declared.types.IrType.{IrType}
use Rattle.sj_typing_spec.specs.declared.labels.Label.{Label}
use Rattle.sj_typing_spec.specs.Labels.{label_type, type_of_label}
use Rattle.sj_typing_spec.specs.Nodes.{inside}

same_turned : (x y : List ℕ) → pointwise nat_eq x y ≡ pointwise nat_eq y x
same_turned x y = go (pointwise nat_eq x y) (pointwise nat_eq y x) refl refl
  where
    go : (a b : Bool) → a ≡ pointwise nat_eq x y → b ≡ pointwise nat_eq y x → pointwise nat_eq x y ≡ pointwise nat_eq y x
    go true b e f = let same : x ≡ y = (bytes_eq-Decides x y).0 (sym e) in subst (λ (z : List ℕ). pointwise nat_eq x z ≡ pointwise nat_eq z x) same refl
    go false true e f = let same : y ≡ x = (bytes_eq-Decides y x).0 (sym f) in subst (λ (z : List ℕ). pointwise nat_eq z y ≡ pointwise nat_eq y z) same refl
    go false false e f = sym e ∙ f

behind_all : (ls : List Label) (b : Label) (name : List ℕ) (found : Option IrType) → label_type (ls ++ b ∷ []) name found ≡ (if pointwise nat_eq b.name name then Some b.tpe else label_type ls name found)
behind_all [] b name found = refl
behind_all (a ∷ ls) b name found = behind_all ls b name (if pointwise nat_eq a.name name then Some a.tpe else found)

pub type_inside : (l : List ℕ) (t : IrType) (ls : List Label) (name : List ℕ) → type_of_label (inside l t ls) name ≡ (if pointwise nat_eq name l then Some t else type_of_label ls name)
type_inside l t ls name = behind_all ls (record { name = l; tpe = t }) name None ∙ ap (λ (b : Bool). if b then Some t else type_of_label ls name) (same_turned l name)
