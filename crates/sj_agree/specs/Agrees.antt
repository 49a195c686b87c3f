-- When files show what the classes that they were linked from show.
use Rattle.std.specs.Prelude.{◌≡◌, ℕ, List}
use Rattle.js_tree.specs.Spelling.{Spells}
use Rattle.js_tree.specs.Terms.{Module}
use Rattle.sj_names.specs.declared.entry_points.EntryPoint.{EntryPoint}
use Rattle.outcomes.specs.Agreement.{Agree}
use Rattle.ir_mean.specs.World.{World}
use Rattle.ir_mean.specs.Shows.{ir_shows}
use Rattle.js_mean.specs.States.{Program}
use Rattle.js_mean.specs.Shows.{File, IsRead, js_shows}

-- the files, as they are read, show of this public module what its initializers show
pub record Agrees (world : World) (entries : List EntryPoint) (files : List File) (id : List ℕ) : Type 0 where
  pub program : Program
  pub read : IsRead files program
  pub agree : Agree (ir_shows world entries id) (js_shows program id)

-- bytes spell at most one module
abbrev pub SpellsOne : Type 0
SpellsOne = (m k : Module) (bytes : List ℕ) → Spells m bytes → Spells k bytes → m ≡ k
