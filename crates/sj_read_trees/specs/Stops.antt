-- What a reader of the code gives, beside the reading function.
use Rattle.std.specs.Prelude.{◌≡◌, Result, Ok, Err}
use Rattle.sj_read_spec.specs.declared.faults.Fault.{Fault}
use Rattle.sj_read_trees.specs.declared.stops.Stop.{Stop}
use Rattle.sj_read_trees.specs.declared.stops.Stop.TheVariants.{NoMemory, Bad}

-- why a reader stopped: the fault that the reading function gives, or want of memory
abbrev pub StopsAs : {Y : Type 0} → Stop → Result Y Fault → Type 0
StopsAs NoMemory read = Unit {0}
StopsAs (Bad f) read = read ≡ Err f

-- what a reader returned, seen by view, is what the reading function gives, unless memory ran out
abbrev pub Gives : {X Y : Type 0} → (X → Y) → Result X Stop → Result Y Fault → Type 0
Gives view (Ok x) read = read ≡ Ok (view x)
Gives view (Err e) read = StopsAs e read
