use Rattle.std.proofs.Common.{◌≡◌, map, take}
use Rattle.folder_sizes.specs.Files.{size_of}
use Rattle.folder_judging.proofs.sizes.sizes_of.Given as goal

abbrev pub invariant-loop-file : goal.invariant-loop-file
invariant-loop-file l = l.sizes.items ≡ map size_of (take l.file-index l.files)
