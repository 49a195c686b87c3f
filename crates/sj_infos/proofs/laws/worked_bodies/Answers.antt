use Rattle.std.proofs.Common.{refl}
use Rattle.sj_infos.proofs.laws.worked_bodies.Goals as goal

pub returns : goal.returns
returns c = record { mutable_local = refl; sure_local = refl; objects = refl; ints = refl; by_zero = refl; by_two = refl; called = refl; called_on_null = refl; reflective = refl; resolved = refl; constructor_call = refl; cast = refl; cast_to_any = refl }
