-- The members whose bodies are needed, and their functions.
use Rattle.std.proofs.Common.{◌≡◌, ◌+◌, ℕ, true, false, List, [], ◌∷◌, ◌++◌, ◌⊎◌, inl, inr, Option, Some, None, refl, sym, ap, subst, ◌∙◌, map, take, slice_get, Contains}
use Rattle.std.specs.Prelude.{IsSome}
use Rattle.std.proofs.lemmas.List.{map-append}
use Rattle.std.proofs.lemmas.List.Elements.{Contains-push_cases}
use Rattle.dispatch_laws.specs.Targets.{lookup_in}
use Rattle.js_tree.specs.Rules.{IsPiece}
use Rattle.js_tree.specs.Views.{piece_view}
use Rattle.sj_desugar.specs.Methods.{method_desugared, desugared_with}
use Rattle.sj_emit_expr_spec.specs.Members.{member_piece}
use Rattle.sj_names.specs.declared.method_names.Member.{Member}
use Rattle.sj_emit_expr_pieces.specs.Owners.{BodyOnObjects}
use Rattle.sj_trees.specs.Term.{Term}
use Rattle.sj_trees.specs.declared.classes.MethodDef.{MethodDef}
use Rattle.sj_world.specs.Known.{Classes}
use Rattle.sj_world.specs.Members.{IsMethodOf}
use Rattle.sj_world.specs.declared.facts.Fact.{Fact}
use Rattle.sj_world.specs.declared.facts.Fact.TheVariants as fact
use Rattle.linked_modules.proofs.Members.{found-member}
use Rattle.folder_judging.specs.Counts.{members_of}
use Rattle.folder_judging.specs.Stages.{IsDefined}
use Rattle.folder_linking.proofs.Taken.{more_taken}
use Rattle.folder_linking.specs.declared.functions.Function.{Function}
use Rattle.folder_linking.specs.Functions.{IsFunction, AreFunctions, member_of}

-- the members of more facts
members_append : (facts : List Fact) (f : Fact) → members_of (facts ++ f ∷ []) ≡ members_of facts ++ members_of (f ∷ [])
members_append [] f = refl
members_append (fact.Needed c ∷ facts) f = members_append facts f
members_append (fact.Made c ∷ facts) f = members_append facts f
members_append (fact.CellUsed c ∷ facts) f = members_append facts f
members_append (fact.NeededField c g s ∷ facts) f = members_append facts f
members_append (fact.Body k ∷ facts) f = ap (λ (ks : List Member). k ∷ ks) (members_append facts f)
members_append (fact.Called c m ∷ facts) f = members_append facts f

pub no_member : (f : Fact) → ((k : Member) → f ≡ fact.Body k → ⊥) → members_of (f ∷ []) ≡ []
no_member (fact.Needed c) other = refl
no_member (fact.Made c) other = refl
no_member (fact.CellUsed c) other = refl
no_member (fact.NeededField c f s) other = refl
no_member (fact.Body k) other = absurd (other k refl)
no_member (fact.Called c m) other = refl

pub members_more : (facts : List Fact) (n : ℕ) (f : Fact) → slice_get facts n ≡ Some f → members_of (take (n + 1) facts) ≡ members_of (take n facts) ++ members_of (f ∷ [])
members_more facts n f at = ap members_of (more_taken facts n f at) ∙ members_append (take n facts) f

some_of : (o : Option Term) → IsSome o → (t : Term) × (o ≡ Some t)
some_of None h = let wrong : false ≡ true = h in cc
some_of (Some t) h = (t, refl)

same_definition : (w : Classes) (k : Member) (d e : MethodDef) → IsMethodOf w k d → IsMethodOf w k e → d ≡ e
same_definition w k d e h g = let s : Some d ≡ Some e = sym (found-member w k d h) ∙ found-member w k e g in cc

-- the function of a member that has this definition
pub function_is : (w : Classes) (k : Member) (d : MethodDef) (f : Function) → IsDefined w k → IsMethodOf w k d → f.member.now ≡ k → piece_view f.piece ≡ member_piece (lookup_in w) k (method_desugared d) → (BodyOnObjects d.body → IsPiece (piece_view f.piece)) → IsFunction w f
function_is w k d f has is member piece rules = go (some_of d.body (subst (λ (e : MethodDef). IsSome e.body) (same_definition w k has.definition d has.defined is) has.has_body))
  where
    go : (t : Term) × (d.body ≡ Some t) → IsFunction w f
    go b = record {
      method = record { member = k; definition = d; its_body = b.0 };
      member_is = sym member;
      found = record { found = found-member w k d is; has_body = b.1 };
      piece_is = piece ∙ ap (λ o. member_piece (lookup_in w) k (desugared_with d o)) b.1;
      rules = λ h. rules (subst BodyOnObjects (sym b.1) h);
    }

pub more_functions : (w : Classes) (ms : List Member) (n : ℕ) (k : Member) (f : Function) (old new : List Function) → slice_get ms n ≡ Some k → f.member.now ≡ k → IsFunction w f → new ≡ old ++ f ∷ [] → AreFunctions w (take n ms) old → AreFunctions w (take (n + 1) ms) new
more_functions w ms n k f old new at member is made h = record {
  members_are = ap (map member_of) made ∙ map-append member_of old (f ∷ []) ∙ ap (λ (ks : List Member). ks ++ f.member.now ∷ []) h.members_are ∙ ap (λ (j : Member). take n ms ++ j ∷ []) member ∙ sym (more_taken ms n k at);
  each = λ g i. each g (Contains-push_cases old f g (subst (λ (l : List Function). Contains l g) made i));
}
  where
    each : (g : Function) → Contains old g ⊎ (f ≡ g) → IsFunction w g
    each g (inl there) = h.each g there
    each g (inr same) = subst (IsFunction w) same is
