use Rattle.std.proofs.Common.{◌≡◌, ◌++◌, [], refl, sym, arith}
use Rattle.std.specs.Prelude.{string_bytes}
use Rattle.std.specs.Char.{encode_utf8}
use Rattle.std.proofs.lemmas.Result.{err_from_is_err_and}
use Rattle.sj_text_spec.specs.Names.{characters_at}
use Rattle.sj_text_scan.proofs.Characters.{character_scalar, characters_goes, characters_fail, characters_stop, characters_out}
use Rattle.sj_text_scan.proofs.names.characters_of.Goals as goal

pub returns-then-next_is : goal.returns-then-next_is
returns-then-next_is c = characters_stop (string_bytes c.loop.name) c.args.fuel c.loop.counter c.loop.spot c.loop.rest.now (characters_at c.args.fuel c.args.start [] c.args.bytes.now) (omega arith) (sym c.if-next_is.ensures) c.loop.invariant

pub character_of_code-requires : goal.character_of_code-requires
character_of_code-requires c = character_scalar c.loop.spot c.loop.rest.now c.in_ok-code.code c.in_ok-code.after.now c.in_ok-code.ensures

pub returns-in_err-code : goal.returns-in_err-code
returns-in_err-code c =
    let p = err_from_is_err_and c.from_residual.result c.from_residual.ensures.1 in
    rw (p.1, p.2) (characters_fail c.in_err-code.field-0.0 (string_bytes c.loop.name) c.args.fuel c.loop.counter c.loop.spot c.loop.rest.now (characters_at c.args.fuel c.args.start [] c.args.bytes.now) c.loop-test.true (sym c.if-next_is.ensures) c.in_err-code.ensures c.loop.invariant)

pub loop-preserved : goal.loop-preserved
loop-preserved c =
    let e : string_bytes c.push.new.self ≡ string_bytes c.loop.name ++ encode_utf8 c.in_ok-code.code = rw (c.in_ok-push.ensures.bytes, c.character_of_code.ensures) refl in
    rw (e, c.moved-spot.ensures) (characters_goes (string_bytes c.loop.name) c.args.fuel c.loop.counter c.loop.spot c.loop.rest.now c.in_ok-code.code c.in_ok-code.after.now (characters_at c.args.fuel c.args.start [] c.args.bytes.now) c.loop-test.true (sym c.if-next_is.ensures) c.in_ok-code.ensures c.loop.invariant)

pub returns : goal.returns
returns c = characters_out (string_bytes c.loop.name) c.args.fuel c.loop.counter c.loop.spot c.loop.rest.now (characters_at c.args.fuel c.args.start [] c.args.bytes.now) (omega arith) c.loop.invariant
