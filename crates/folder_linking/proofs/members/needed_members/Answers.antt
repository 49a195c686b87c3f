use Rattle.std.proofs.Common.{◌∙◌, ◌++◌, ◌∷◌, [], ap, arith, refl, sym}
use Rattle.std.proofs.lemmas.Option.{slice_get_read}
use Rattle.folder_judging.specs.Counts.{members_of}
use Rattle.folder_linking.proofs.Bodies.{members_more}
use Rattle.folder_linking.proofs.members.needed_members.Goals as goal

pub loop-fact-preserved : goal.loop-fact-preserved
loop-fact-preserved c = c.in_ok-add_member.ensures ∙ ap (λ ks. ks ++ members_of (c.fact-item.result ∷ [])) c.loop-fact.invariant ∙ sym (members_more c.args.facts.now c.loop-fact.fact-index c.fact-item.result (slice_get_read c.args.facts.now _ c.loop-fact.fact-index c.fact-item.result refl (omega arith) c.fact-item.is))
