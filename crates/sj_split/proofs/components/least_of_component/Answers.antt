use Rattle.std.proofs.Common.{get_or}
use Rattle.sj_split.proofs.Least.{least_is, least_within}
use Rattle.sj_split.proofs.components.least_of_component.Goals as goal

pub class-requires : goal.class-requires
class-requires c = (least_within c.args.numbers.now.classes.keys c.args.of.now c.args.least.now c.number_of.result c.args.class.now c.number_of.ensures c.requires.whole c.requires.least).low

pub returns : goal.returns
returns c references firsts numbered components =
    let w = least_within c.args.numbers.now.classes.keys c.args.of.now c.args.least.now c.number_of.result c.args.class.now c.number_of.ensures c.requires.whole c.requires.least in
    least_is references c.args.numbers.now.classes.keys c.args.numbers.now.next.items numbered c.args.of.now firsts c.args.least.now components c.requires.least c.number_of.result (get_or c.args.of.now c.number_of.result 0) (get_or c.args.least.now (get_or c.args.of.now c.number_of.result 0) 0) c.args.class.now c.class.result.now c.number_of.ensures w.at_of w.at_least c.class.ensures
