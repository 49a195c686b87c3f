use Rattle.std.proofs.Common.{append_assoc}
use Rattle.sj_world.proofs.lines.add_hijacked.Goals as goal

pub returns : goal.returns
returns c = rw (c.in_ok-add_name-8.ensures, c.in_ok-add_name-7.ensures, c.in_ok-add_name-6.ensures, c.in_ok-add_name-5.ensures, c.in_ok-add_name-4.ensures, c.in_ok-add_name-3.ensures, c.in_ok-add_name-2.ensures, c.in_ok-add_name.ensures) (simp append_assoc)
