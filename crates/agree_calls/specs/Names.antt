-- The place whose variables and labels have the names of the emitted code.
use Rattle.outcomes.specs.Agreement.{Room}
use Rattle.dispatch_laws.specs.World as ir_world
use Rattle.js_mean.specs.States as js
use Rattle.js_tree.specs.Terms.{Name}
use Rattle.dispatch_laws.specs.Names.{variable_name, label_name}
use Rattle.agree_bodies.specs.Settings.{Place, Top}
use Rattle.agree_bodies.specs.Built.{Usable}

abbrev pub emitted_in : ir_world.World → ir_world.World → js.Program → (Top → Name) → (Name → Usable) → Room → Place
emitted_in classes typing program home has room = record { classes = classes; typing = typing; program = program; name = variable_name; label = label_name; home = home; has = has; room = room }
