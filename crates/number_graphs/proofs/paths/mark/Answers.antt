use Rattle.std.proofs.Common.{ℕ, ◌+◌, refl, ◌∙◌, subst, arith, get_or}
use Rattle.std.proofs.lemmas.List.{length-set}
use Rattle.std.proofs.lemmas.Option.{slice_get-get_or}
use Rattle.number_graphs.specs.declared.paths.Found.TheVariants.{Within}
use Rattle.number_graphs.specs.Searching.{AreMarked}
use Rattle.number_graphs.proofs.Groups.{marking_begins, marking_more}
use Rattle.number_graphs.proofs.Places.{one_at}
use Rattle.number_graphs.proofs.paths.mark.Goals as goal

pub loop-member-init : goal.loop-member-init
loop-member-init c = record { same_length = refl; marked = λ from placed. marking_begins c.args.component from (from + 0) c.args.found.now (omega arith) }

pub loop-member-preserved : goal.loop-member-preserved
loop-member-preserved c =
    let here = slice_get-get_or c.args.members.now c.loop-member.member-index 0 (omega arith) in
    record {
      same_length = length-set c.loop-member.found (get_or c.args.members.now c.loop-member.member-index 0) (Within c.args.component) ∙ c.loop-member.invariant.same_length;
      marked = λ from placed. marking_more c.args.component from (from + c.loop-member.member-index) (from + (c.loop-member.member-index + 1)) c.args.found.now c.loop-member.found (get_or c.args.members.now c.loop-member.member-index 0) (c.loop-member.invariant.marked from placed) ((placed c.loop-member.member-index (get_or c.args.members.now c.loop-member.member-index 0)).1 here) (λ number at. one_at c.args.members.now c.loop-member.member-index number (get_or c.args.members.now c.loop-member.member-index 0) ((placed c.loop-member.member-index number).0 at) here) (omega arith) (omega arith);
    }

pub returns : goal.returns
returns c from placed = subst (λ (n : ℕ). AreMarked c.args.component from (from + n) c.args.found.now c.loop-member.found) (omega arith) (c.loop-member.invariant.marked from placed)
