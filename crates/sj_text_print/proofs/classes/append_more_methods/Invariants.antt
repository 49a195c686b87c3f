use Rattle.std.proofs.Common.{◌≡◌, drop, codes}
use Rattle.js_tree.specs.Written.{put_more}
use Rattle.sj_text_spec.specs.Texts.{put_method}
use Rattle.sj_text_print.proofs.classes.append_more_methods.Given as goal

abbrev pub invariant-loop-method : goal.invariant-loop-method
invariant-loop-method l = put_more (codes " ") put_method (drop l.method-index l.methods) l.out.items ≡ put_more (codes " ") put_method l.methods l.initial.out.items
