use Rattle.std.proofs.Common.{◌∙◌, List, Contains, ap, arith, map, refl, sym, subst}
use Rattle.std.specs.List.{IsDistinct}
use Rattle.std.specs.Prelude.{option_map}
use Rattle.std.proofs.lemmas.Option.{slice_get-map, slice_get_read}
use Rattle.sj_trees.specs.declared.classes.ClassDef.{ClassDef}
use Rattle.sj_world.proofs.Searches.{contains_at}
use Rattle.sj_world.specs.Known.{is_same}
use Rattle.world_pieces.specs.Places.{class_name}
use Rattle.world_pieces.proofs.Kept.{whole}
use Rattle.world_pieces.proofs.Placed.{class_known, no_places, one_more, names_once}
use Rattle.world_pieces.proofs.classes.places_of.Goals as goal

pub loop-class-init : goal.loop-class-init
loop-class-init c = no_places c.args.world.now (map class_name c.classes-classes.result.now) _ c.new-places.ensures.items

pub place_of-requires : goal.place_of-requires
place_of-requires c = class_known c.args.world.now c.class-item.result (subst (λ (w : List ClassDef). Contains w c.class-item.result) c.classes-classes.ensures.all (contains_at c.classes-classes.result.now c.loop-class.class-index c.class-item.result (slice_get_read c.classes-classes.result.now _ c.loop-class.class-index c.class-item.result refl (omega arith) c.class-item.is)))

pub loop-class-preserved : goal.loop-class-preserved
loop-class-preserved c = one_more c.args.world.now (map class_name c.classes-classes.result.now) c.loop-class.class-index c.class-item.result.name c.in_ok-place_of.field-0 _ _ (slice_get-map class_name c.classes-classes.result.now c.loop-class.class-index ∙ ap (option_map class_name) (slice_get_read c.classes-classes.result.now _ c.loop-class.class-index c.class-item.result refl (omega arith) c.class-item.is)) c.in_ok-place_of.ensures.name c.in_ok-place_of.ensures.ancestors c.in_ok-push.ensures.items c.loop-class.invariant

pub returns-clause-once : goal.returns-clause-once
returns-clause-once c = subst (IsDistinct is_same) (sym (c.loop-class.invariant.names_are ∙ whole class_name c.classes-classes.result.now c.loop-class.class-index c.loop-class-test.false)) (subst (λ (w : List ClassDef). IsDistinct is_same (map class_name w)) (sym c.classes-classes.ensures.all) (names_once c.args.world.now c.classes-classes.ensures.in_order))
