use Rattle.class_tests.proofs.Reflecting as laws
use Rattle.class_tests.proofs.reflections_tell.Goals as goal

pub returns : goal.returns
returns c = record { cases = laws.reflection_tells; own_lines = laws.own_lines_run; entries = laws.proxies_hand_on; short = laws.short_reflections_go }
