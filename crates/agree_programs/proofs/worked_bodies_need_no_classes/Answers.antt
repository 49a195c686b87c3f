use Rattle.std.proofs.Common.{[]}
use Rattle.agree_programs.proofs.WorkedWhole.{each_whole}
use Rattle.agree_programs.proofs.worked_bodies_need_no_classes.Goals as goal

pub returns : goal.returns
returns c = each_whole []
