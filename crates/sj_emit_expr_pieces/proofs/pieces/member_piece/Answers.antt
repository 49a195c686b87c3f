use Rattle.std.proofs.Common.{◌≡◌, ◌∙◌, subst, sym}
use Rattle.std.proofs.lemmas.Result.{IfOk-weaker}
use Rattle.sj_emit_expr_questions.specs.Task.{emitted, emitted_view}
use Rattle.js_tree.specs.Rules.{IsPiece}
use Rattle.js_tree.specs.declared.items.JsMember.{JsMember}
use Rattle.sj_core.specs.Lookup.{Lookup}
use Rattle.sj_core.specs.Terms.{Method}
use Rattle.sj_core.specs.Views.{method_view}
use Rattle.sj_emit_expr_spec.specs.Members as members
use Rattle.sj_emit_expr_spec.specs.Pieces.{function_piece}
use Rattle.sj_names.specs.declared.method_names.Member.{Member}
use Rattle.sj_emit_expr_pieces.proofs.Kept.{piece-kept}
use Rattle.sj_emit_expr_pieces.proofs.pieces.member_piece.Goals as goal

-- the piece of a function by its view
same_piece : (known : Lookup) (m : Member) (e : JsMember) (c : Method) → emitted_view e ≡ emitted known c → function_piece m (emitted_view e).params (emitted_view e).body (emitted_view e).uses ≡ members.member_piece known m c
same_piece known m e c same = λ i. function_piece m (same i).params (same i).body (same i).uses

pub returns-clause-piece : goal.returns-clause-piece
returns-clause-piece c = λ known same. IfOk-weaker c.function_piece.result _ _ (λ p h. h ∙ same_piece known c.args.member.now c.args.emitted (method_view c.args.m.now) same) c.function_piece.ensures

pub returns-clause-rules : goal.returns-clause-rules
returns-clause-rules c = λ known same ranges keys owners fit. IfOk-weaker c.function_piece.result _ _ (λ p h. subst IsPiece (sym (h ∙ same_piece known c.args.member.now c.args.emitted (method_view c.args.m.now) same)) (piece-kept known c.args.member.now (method_view c.args.m.now) c.member_fits.ensures ranges keys owners fit)) c.function_piece.ensures
