-- What a listing has of a class is in its ranges: the names of the classes, and what desugaring gives for their methods.
use Rattle.std.proofs.Common.{[], ◌∷◌, All, Option, Some, None}
use Rattle.std.specs.Prelude.{MatchOption}
use Rattle.std.proofs.lemmas.List.Elements.{All-nil, All-cons, All-contains}
use Rattle.folder_judging.proofs.FolderJudgingSpecDefined.{found_in}
use Rattle.sj_desugar.specs.Methods.{desugared_with}
use Rattle.sj_emit_expr_pieces.proofs.Fitted.{names-fit, member-fits}
use Rattle.sj_emit_expr_pieces.proofs.Listed.{text-fits}
use Rattle.sj_emit_expr_pieces.specs.Ranges.{AreBytes, FitsMethod}
use Rattle.sj_names.specs.declared.method_names.Member.{Member}
use Rattle.sj_split.proofs.Members.{at_first, further}
use Rattle.sj_text_spec.specs.Rules.{IsListedMethod, IsListedParam, IsListedTree}
use Rattle.sj_trees.specs.Term.{Term}
use Rattle.sj_trees.specs.declared.classes.MethodDef.{MethodDef}
use Rattle.sj_world.proofs.Searches.{contains_at}
use Rattle.sj_world.specs.Known.{Classes, names_of}
use Rattle.sj_world.specs.Members.{IsMethodOf}
use Rattle.folder_linking.specs.Functions.{AreListed}

pub names_listed : (w : Classes) → AreListed w → All AreBytes (names_of w)
names_listed [] listed = All-nil AreBytes
names_listed (c ∷ w) listed = All-cons AreBytes c.name (names_of w) (text-fits c.name (listed c (at_first c w)).name.1) (names_listed w (λ d i. listed d (further c d w i)))

pub method_listed : (w : Classes) → AreListed w → (k : Member) (d : MethodDef) → IsMethodOf w k d → IsListedMethod d
method_listed w listed k d h = All-contains IsListedMethod h.class.methods d (listed h.class (found_in w k.class h.class h.is_class)).methods (contains_at h.class.methods h.first.place d h.first.stands)

with_body : (d : MethodDef) (body : Option Term) → All IsListedParam d.params → MatchOption body (Unit {0}) IsListedTree → FitsMethod (desugared_with d body)
with_body d None params h = (names-fit d.params params, tt)
with_body d (Some e) params h = member-fits d e params h

pub with_ranges : (d : MethodDef) → IsListedMethod d → FitsMethod (desugared_with d d.body)
with_ranges d h = with_body d d.body h.1 h.3
