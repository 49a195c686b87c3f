use Rattle.std.proofs.Common.{◌≡◌, ◌++◌, take, drop}
use Rattle.module_names.specs.Counts.{count_at}
use Rattle.module_names.specs.Names.{Digest, sha1_digest, count_with, names_of, names_behind}
use Rattle.module_names.proofs.naming.internal_names.Given as goal

abbrev pub invariant-loop-key : goal.invariant-loop-key
invariant-loop-key l = record {
  names : l.names.items ++ names_behind sha1_digest (take l.key-index l.keys) (drop l.key-index l.keys) ≡ names_of sha1_digest l.keys;
  counts : (digest : Digest) → count_at l.counts digest ≡ count_with sha1_digest (take l.key-index l.keys) digest;
}
