use Rattle.std.proofs.Common.{◌∙◌, List, ap, arith, map, refl, subst}
use Rattle.std.specs.Prelude.{option_map}
use Rattle.std.proofs.lemmas.Option.{slice_get-map, slice_get_read}
use Rattle.sj_world.specs.Known.{Name}
use Rattle.world_pieces.specs.Blocks.{AreMade}
use Rattle.world_pieces.specs.Places.{name_of}
use Rattle.world_pieces.proofs.Kept.{whole}
use Rattle.world_pieces.proofs.Made.{no_blocks, one_more, not_before, not_yet, not_next}
use Rattle.world_pieces.proofs.blocks.blocks_with.Goals as goal

pub loop-class-init : goal.loop-class-init
loop-class-init c = record {
  made = λ functions are. no_blocks c.args.linked.now functions (map name_of c.args.classes.now) _ c.new-blocks.ensures.items;
  left = λ n missing. refl;
}

pub loop-class-preserved : goal.loop-class-preserved
loop-class-preserved c =
    let at = slice_get-map name_of c.args.classes.now c.loop-class.class-index ∙ ap (option_map name_of) (slice_get_read c.args.classes.now _ c.loop-class.class-index c.class-item.result refl (omega arith) c.class-item.is) in
    let names = map name_of c.args.classes.now in
    record {
      made = λ functions are. one_more c.args.linked.now functions _ names c.loop-class.class-index c.class-item.result.name c.in_ok-block_of.field-0 _ _ at c.in_ok-block_of.ensures.class (c.take-functions.ensures.taken ∙ c.loop-class.invariant.left c.class-item.result.name (not_before names c.loop-class.class-index c.class-item.result.name c.requires.once at) ∙ are c.class-item.result.name) c.in_ok-block_of.ensures.made c.in_ok-push.ensures.items (c.loop-class.invariant.made functions are);
      left = λ n missing. c.take-functions.ensures.others n (not_next names c.loop-class.class-index c.class-item.result.name n at missing) ∙ c.loop-class.invariant.left n (not_yet names c.loop-class.class-index c.class-item.result.name n at missing);
    }

pub returns : goal.returns
returns c functions are = subst (λ (names : List Name). AreMade c.args.linked.now functions names c.loop-class.blocks.items) (whole name_of c.args.classes.now c.loop-class.class-index c.loop-class-test.false) (c.loop-class.invariant.made functions are)
