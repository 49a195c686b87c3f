-- The initializers of a module are entries of the folder.
use Rattle.std.proofs.Common.{◌≡◌, ◌⊎◌, ℕ, Bool, true, false, List, [], ◌∷◌, inl, inr, subst, Contains, if◌then◌else◌}
use Rattle.ir_mean.specs.Shows.{initializers}
use Rattle.sj_names.specs.Same.{is_same_text}
use Rattle.sj_names.specs.declared.entry_points.EntryPoint.{EntryPoint}
use Rattle.sj_split.proofs.Members.{at_first, further, cons_cases}
use Rattle.worklist.proofs.Inserted.{nothing_in}

pub initializers_among : (id : List ℕ) (es : List EntryPoint) (e : EntryPoint) → Contains (initializers es id) e → Contains es e
initializers_among id [] e h = nothing_in e h
initializers_among id (d ∷ es) e h = go (is_same_text id d.module) h (initializers_among id es e)
  where
    later : (d ≡ e) ⊎ Contains (initializers es id) e → (Contains (initializers es id) e → Contains es e) → Contains (d ∷ es) e
    later (inl same) rest = subst (Contains (d ∷ es)) same (at_first d es)
    later (inr i) rest = further d e es (rest i)

    go : (b : Bool) → Contains (if b then (d ∷ initializers es id) else initializers es id) e → (Contains (initializers es id) e → Contains es e) → Contains (d ∷ es) e
    go true i rest = later (cons_cases d e (initializers es id) i) rest
    go false i rest = further d e es (rest i)
