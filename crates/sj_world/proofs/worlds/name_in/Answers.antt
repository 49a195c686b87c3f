use Rattle.std.proofs.Common.{sym, ◌∙◌, ap, refl, arith}
use Rattle.std.proofs.lemmas.Option.{slice_get_read}
use Rattle.sj_world.specs.Known.{is_same}
use Rattle.sj_world.proofs.Lined.{found_name}
use Rattle.sj_world.proofs.worlds.name_in.Goals as goal

pub returns-then-eq : goal.returns-then-eq
returns-then-eq c = found_name c.args.names.now c.loop-name.name-index c.name-item.result c.args.text.now (slice_get_read c.args.names.now _ c.loop-name.name-index c.name-item.result refl (omega arith) c.name-item.is) (ap (is_same c.args.text.now) (sym c.text.ensures.text) ∙ sym c.eq.ensures ∙ c.if-eq.true)
