use denote.Shadow.{shadow}
use denote.Text.{Utf8}
use Rattle.std.proofs.Common.{◌≡◌, ◌++◌, option_map, length}
use Rattle.sj_names.specs.MethodNames.{signature_of, parts}
use Rattle.sj_names.proofs.method_names.parse_signature.Given as goal

abbrev pub invariant-loop-parameter : goal.invariant-loop-parameter
invariant-loop-parameter l = (option_map (λ x. (l.params.items ++ x.0, x.1)) (signature_of (parts l.rest)) ≡ signature_of (parts l.text)) × shadow (Utf8 l.rest)

abbrev pub decreases-loop-parameter : goal.decreases-loop-parameter
decreases-loop-parameter l = length l.rest
