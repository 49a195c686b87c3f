use Rattle.std.proofs.Common.{◌≡◌, true, false, ap, sym, ◌∙◌, refl}
use Rattle.std.specs.Ordering.{is_lt, nat_cmp}
use Rattle.std.specs.Cmp.Lexicographic.{slice_cmp}
use Rattle.std.proofs.lemmas.List.{length-set}
use Rattle.number_graphs.proofs.Places.{at_read, at_set, from_set_other}
use Rattle.sj_split.specs.Steps.{taken, left}
use Rattle.sj_split.proofs.Least.{lt-less}
use Rattle.sj_split.proofs.components.lower.Goals as goal

pub returns-then-lt : goal.returns-then-lt
returns-then-lt c = taken c.index.result.now c.class-2.result.now c.class.result.now (at_read c.args.least.now.items c.args.component c.index.result.now c.requires.component c.index.ensures) c.class-2.ensures c.class.ensures (lt-less (slice_cmp nat_cmp c.class.result.now c.class-2.result.now) (sym c.lt.ensures ∙ c.if-lt.true)) (at_set c.args.least.now.items c.args.component c.args.number c.requires.component) (length-set c.args.least.now.items c.args.component c.args.number) (λ other n ne at. from_set_other c.args.least.now.items c.args.component c.args.number other n ne at)

pub returns-else-lt : goal.returns-else-lt
returns-else-lt c = left c.index.result.now c.class-2.result.now c.class.result.now (at_read c.args.least.now.items c.args.component c.index.result.now c.requires.component c.index.ensures) c.class-2.ensures c.class.ensures (λ less. (let wrong : true ≡ false = sym (ap is_lt less) ∙ sym c.lt.ensures ∙ c.if-lt.false in cc)) refl
