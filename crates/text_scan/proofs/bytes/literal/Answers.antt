use Rattle.std.proofs.Common.{◌≡◌, ◌+◌, ℕ, List, drop, sym, subst, arith}
use Rattle.exact_place.specs.Reading.{literal_at}
use Rattle.text_scan.proofs.Literals.{literal_goes, literal_fails, rest_of}
use Rattle.text_scan.proofs.bytes.literal.Goals as goal

pub returns-then-not-next_is : goal.returns-then-not-next_is
returns-then-not-next_is c = literal_fails c.args.want.now c.loop-byte.byte-index c.loop-byte.rest.now (literal_at c.args.want.now c.args.bytes.now) (omega arith) (sym c.if-not-next_is.ensures) c.loop-byte.invariant

pub loop-byte-preserved : goal.loop-byte-preserved
loop-byte-preserved c = subst (λ (r : List ℕ). literal_at (drop (c.loop-byte.byte-index + 1) c.args.want.now) r ≡ literal_at c.args.want.now c.args.bytes.now) (sym (rest_of 1 c.loop-byte.rest.now)) (literal_goes c.args.want.now c.loop-byte.byte-index c.loop-byte.rest.now (literal_at c.args.want.now c.args.bytes.now) (omega arith) (sym c.if-not-next_is.ensures) c.loop-byte.invariant)
