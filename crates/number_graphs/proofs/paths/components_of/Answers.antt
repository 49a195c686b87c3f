use Rattle.std.proofs.Common.{◌∷◌, [], get_or, length, ap, ◌∙◌, subst, arith, inl, inr, List, ℕ}
use Rattle.std.proofs.lemmas.List.{length-append}
use Rattle.std.proofs.lemmas.Option.{slice_get-get_or}
use Rattle.number_graphs.specs.declared.paths.Found.{Found}
use Rattle.number_graphs.specs.declared.paths.Found.TheVariants.{Not, Within}
use Rattle.number_graphs.specs.Graphs.{At}
use Rattle.number_graphs.specs.Searching.{IsWithin}
use Rattle.number_graphs.proofs.Finished.{read_more}
use Rattle.number_graphs.proofs.paths.components_of.Goals as goal

pub unreachable-requires : goal.unreachable-requires
unreachable-requires c =
    let is : IsWithin (get_or c.args.found.now c.loop-one.one-index Not) = c.requires c.loop-one.one-index (get_or c.args.found.now c.loop-one.one-index Not) (slice_get-get_or c.args.found.now c.loop-one.one-index Not (omega arith)) in
    elim c.in-Not.is [ inl e ↦ subst (λ (x : Found). IsWithin x) e is | inr p ↦ subst (λ (x : Found). IsWithin x) p.1 is ]

pub loop-one-preserved : goal.loop-one-preserved
loop-one-preserved c =
    let at : At c.args.found.now c.loop-one.one-index (Within c.in-Within.component) = subst (λ (x : Found). At c.args.found.now c.loop-one.one-index x) c.in-Within.is (slice_get-get_or c.args.found.now c.loop-one.one-index Not (omega arith)) in
    record {
      whole = ap (λ (l : List ℕ). length l) c.in_ok-push-in-Within.ensures.items ∙ (let e = c.loop-one.invariant.whole in omega (arith, e, length-append c.loop-one.of.items (c.in-Within.component ∷ [])));
      right = read_more c.args.found.now c.loop-one.of.items c.push.new.self.items c.loop-one.one-index c.in-Within.component c.loop-one.invariant.whole c.loop-one.invariant.right at c.in_ok-push-in-Within.ensures.items;
    }
