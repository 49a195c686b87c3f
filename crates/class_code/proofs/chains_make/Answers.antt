use Rattle.class_code.proofs.Making as laws
use Rattle.class_code.proofs.chains_make.Goals as goal

pub returns : goal.returns
returns c = record { whole = laws.chains_make; short = laws.short_bounds_go }
