use Rattle.sj_words.proofs.Stays.{first_stays, split_stays}
use Rattle.sj_words.proofs.laws.earlier_commands_stay.Goals as goal

pub returns : goal.returns
returns c = record { first = first_stays; split = split_stays }
