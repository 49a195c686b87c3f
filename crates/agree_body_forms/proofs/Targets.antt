-- The goal of what leaves to a label is where its target goes.
use Rattle.std.proofs.Common.{◌≡◌, ℕ, Bool, true, false, List, [], ◌∷◌, refl, if◌then◌else◌}
use Rattle.std.specs.Prelude.{nat_eq}
use Rattle.std.specs.Cmp.Lexicographic.{pointwise}
use Rattle.agree_body_forms.specs.Boxes.{Goal, goal_of, goals_of, goal_of_label}
use Rattle.sj_desugar_spec.specs.Desugar.{Targets, target_of}
use Rattle.sj_desugar_spec.specs.Spill.{Destination}

by_name : (b : Bool) (k d : Destination) (g : Goal) → goal_of d ≡ g → goal_of (if b then k else d) ≡ (if b then goal_of k else g)
by_name true k d g e = refl
by_name false k d g e = e

pub target_goal : (ts : Targets) (l : List ℕ) → goal_of (target_of ts l) ≡ goal_of_label (goals_of ts) l
target_goal [] l = refl
target_goal (t ∷ ts) l = by_name (pointwise nat_eq l t.label) t.goes_to (target_of ts l) (goal_of_label (goals_of ts) l) (target_goal ts l)
