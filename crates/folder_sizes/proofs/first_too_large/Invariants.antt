use Rattle.folder_sizes.proofs.Looked.{Looked}
use Rattle.folder_sizes.proofs.first_too_large.Given as goal

abbrev pub invariant-loop-place : goal.invariant-loop-place
invariant-loop-place l = Looked l.sizes l.place l.total
