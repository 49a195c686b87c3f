use Rattle.std.proofs.Common.{◌≡◌, drop, codes}
use Rattle.js_tree.specs.Written.{put_more}
use Rattle.sj_text_spec.specs.Texts.{put_param}
use Rattle.sj_text_print.proofs.classes.append_more_params.Given as goal

abbrev pub invariant-loop-param : goal.invariant-loop-param
invariant-loop-param l = put_more (codes " ") put_param (drop l.param-index l.params) l.out.items ≡ put_more (codes " ") put_param l.params l.initial.out.items
