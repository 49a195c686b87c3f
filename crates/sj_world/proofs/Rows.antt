-- What doesn't stand above a class in a worked world.
use Rattle.std.proofs.Common.{◌≡◌, refl, sym, subst}
use Rattle.std.specs.Prelude.{codes}
use Rattle.sj_world.specs.Known.{Name}
use Rattle.sj_world.specs.Paths.{Path, stay, on}
use Rattle.sj_world.specs.Ancestors.{IsAncestor, IsParent, Way, by_path, is_object}
use Rattle.sj_world.specs.Rows.{capped}
use Rattle.worklist.proofs.Inserted.{nothing_in}

no_path : (x : Name) → Path (IsParent capped) (codes "A") x → codes "A" ≡ x
no_path x stay = refl
no_path x (on b _ path step) = nothing_in x (subst (λ (n : Name). IsParent capped n x) (sym (no_path b path)) step)

no_way : Way capped (codes "A") (codes "Top") → ⊥
no_way (by_path path) = let e : codes "A" ≡ codes "Top" = no_path (codes "Top") path in cc
no_way (is_object e) = cc

pub not_above_a : IsAncestor capped (codes "A") (codes "Top") → ⊥
not_above_a a = no_way a.way
