-- What a call that may refuse has taken.
use Rattle.std.specs.Prelude.{◌≡◌, Option, Some, None, Result, Ok, Err, IsErr}
use Rattle.sj_names.specs.declared.memory.NameError.{NameError}
use Rattle.sj_names.specs.declared.memory.NameError.TheVariants as name
use Rattle.sj_units.specs.declared.errors.UnitsError.{UnitsError}
use Rattle.sj_units.specs.declared.errors.UnitsError.TheVariants as units

-- the name, or none where the text is refused; not decided where no memory was left
abbrev pub IsNameTaken : {T U : Type 0} → Result T NameError → Result (Option T) U → Type 0
IsNameTaken (Ok x) r = r ≡ Ok (Some x)
IsNameTaken (Err name.BadName) r = r ≡ Ok None
IsNameTaken (Err name.NoMemory) r = IsErr r

-- the same of units
abbrev pub AreUnitsTaken : {T U : Type 0} → Result T UnitsError → Result (Option T) U → Type 0
AreUnitsTaken (Ok x) r = r ≡ Ok (Some x)
AreUnitsTaken (Err units.BadText) r = r ≡ Ok None
AreUnitsTaken (Err units.NoMemory) r = IsErr r
