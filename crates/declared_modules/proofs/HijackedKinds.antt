-- The kind of a hijacked class, and that a class without one isn't hijacked.
use Rattle.std.proofs.Common.{◌≡◌, Bool, true, false, List, [], ◌∷◌, Some, None, refl, ap, subst, ◌∙◌, ◌||◌, map, cond}
use Rattle.std.specs.List.{list_any}
use Rattle.module_uses.specs.Pieces.{kind_of_class}
use Rattle.sj_emit_help_spec.specs.Words.{kind_class, all_kinds}
use Rattle.sj_emit_help_spec.specs.declared.kinds.Kind.{Kind}
use Rattle.sj_names.proofs.Same.{text-same}
use Rattle.sj_world.specs.Known.{Name, is_same, is_hijacked}

pub kind_is : (c : Name) (ks : List Kind) (k : Kind) → kind_of_class c ks ≡ Some k → c ≡ kind_class k
kind_is c [] k e = absurd (cc)
kind_is c (j ∷ ks) k e = go (is_same c (kind_class j)) refl e (kind_is c ks k)
  where
    go : (b : Bool) → is_same c (kind_class j) ≡ b → cond b (Some j) (kind_of_class c ks) ≡ Some k → (kind_of_class c ks ≡ Some k → c ≡ kind_class k) → c ≡ kind_class k
    go true same f rest = let is : j ≡ k = cc in text-same c (kind_class j) same ∙ subst (λ (x : Kind). kind_class j ≡ kind_class x) is refl
    go false same f rest = rest f

unnamed : (c : Name) (ks : List Kind) → kind_of_class c ks ≡ None → list_any (is_same c) (map kind_class ks) ≡ false
unnamed c [] e = refl
unnamed c (j ∷ ks) e = go (is_same c (kind_class j)) refl e (unnamed c ks)
  where
    go : (b : Bool) → is_same c (kind_class j) ≡ b → cond b (Some j) (kind_of_class c ks) ≡ None → (kind_of_class c ks ≡ None → list_any (is_same c) (map kind_class ks) ≡ false) → list_any (is_same c) (map kind_class (j ∷ ks)) ≡ false
    go true same f rest = absurd (cc)
    go false same f rest = ap (λ (b : Bool). b || list_any (is_same c) (map kind_class ks)) same ∙ rest f

pub not_hijacked : (c : Name) → kind_of_class c all_kinds ≡ None → is_hijacked c ≡ false
not_hijacked c e = unnamed c all_kinds e
