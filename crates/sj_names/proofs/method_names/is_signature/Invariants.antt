use denote.Shadow.{shadow}
use denote.Text.{Utf8}
use Rattle.std.proofs.Common.{◌≡◌, length}
use Rattle.std.specs.Option.{is_some}
use Rattle.sj_names.specs.MethodNames.{signature_of, parts}
use Rattle.sj_names.proofs.method_names.is_signature.Given as goal

abbrev pub invariant-loop-parameter : goal.invariant-loop-parameter
invariant-loop-parameter l = (is_some (signature_of (parts l.rest)) ≡ is_some (signature_of (parts l.text))) × shadow (Utf8 l.rest)

abbrev pub decreases-loop-parameter : goal.decreases-loop-parameter
decreases-loop-parameter l = length l.rest
