use Rattle.std.proofs.Common.{◌≤◌, vec_len}
use Rattle.sj_outside.proofs.real_folders.front_of_file.Given as goal

abbrev pub invariant-loop : goal.invariant-loop
invariant-loop g l = vec_len l.bytes ≤ l.most
