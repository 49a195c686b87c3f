use Rattle.std.proofs.Common.{refl}
use Rattle.sj_infos.specs.declared.forms.BodyForm.TheVariants as forms
use Rattle.sj_emit_class_needs.specs.declared.needs.ClassNeed.TheVariants as needs
use Rattle.sj_emit_class.proofs.Wanted.{form_needed, live_needed}
use Rattle.sj_emit_class.proofs.marks.marks_of.Goals as goal

pub returns : goal.returns
returns c = record {
  live = live_needed c.args.w.now.world c.args.w.now.facts c.args.needs.now.keys c.requires c.is_among.result c.args.class.now c.in_ok-copied.field-0 c.in_ok-copied.ensures c.is_among.ensures;
  base = form_needed c.args.w.now.world c.args.w.now.facts c.args.needs.now.keys c.requires c.is_among-2.result needs.Base forms.Base c.args.class.now c.in_ok-copied-2.field-0 refl refl c.in_ok-copied-2.ensures c.is_among-2.ensures;
  loaded = form_needed c.args.w.now.world c.args.w.now.facts c.args.needs.now.keys c.requires c.is_among-3.result needs.Load forms.Load c.args.class.now c.in_ok-copied-3.field-0 refl refl c.in_ok-copied-3.ensures c.is_among-3.ensures;
  stored = form_needed c.args.w.now.world c.args.w.now.facts c.args.needs.now.keys c.requires c.is_among-4.result needs.Store forms.Store c.args.class.now c.in_ok-copied-4.field-0 refl refl c.in_ok-copied-4.ensures c.is_among-4.ensures;
  tested = form_needed c.args.w.now.world c.args.w.now.facts c.args.needs.now.keys c.requires c.is_among-5.result needs.Test forms.Test c.args.class.now c.in_ok-copied-5.field-0 refl refl c.in_ok-copied-5.ensures c.is_among-5.ensures;
  cast = form_needed c.args.w.now.world c.args.w.now.facts c.args.needs.now.keys c.requires c.is_among-6.result needs.Cast forms.Cast c.args.class.now c.in_ok-copied-6.field-0 refl refl c.in_ok-copied-6.ensures c.is_among-6.ensures;
}
