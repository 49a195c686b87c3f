-- What a reader of the code gives: what the reader on lists gives, unless memory ran out.
use Rattle.std.specs.Prelude.{◌≡◌, ℕ, Result, Ok, Err}
use Rattle.text_scan.specs.declared.stop.Stop.{Stop}
use Rattle.text_scan.specs.declared.stop.Stop.TheVariants as stops

abbrev pub Fails : {Y : Type 0} → Stop → Result Y ℕ → Type 0
Fails stops.NoMemory read = Unit {0}
Fails (stops.Bad left) read = read ≡ Err left

abbrev pub Gives : {X Y : Type 0} → (X → Y) → Result X Stop → Result Y ℕ → Type 0
Gives view (Ok x) read = read ≡ Ok (view x)
Gives view (Err e) read = Fails e read
