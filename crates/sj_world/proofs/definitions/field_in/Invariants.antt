use Rattle.sj_world.proofs.Searches.{NoneYet}
use Rattle.sj_world.specs.Members.{IsField}
use Rattle.sj_world.proofs.definitions.field_in.Given as goal

abbrev pub invariant-loop-field : goal.invariant-loop-field
invariant-loop-field l = NoneYet (IsField l.name l.is_static) l.fields l.field-index
