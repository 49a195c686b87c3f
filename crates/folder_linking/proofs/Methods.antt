-- The methods of functions.
use Rattle.std.proofs.Common.{◌≡◌, List, [], ◌∷◌, ◌⊎◌, inl, inr, refl, sym, subst, map, Contains}
use Rattle.std.proofs.lemmas.List.Elements.{All-nil, All-cons}
use Rattle.std.specs.List.{All}
use Rattle.js_tree.specs.Rules.{IsPiece}
use Rattle.js_tree.specs.Views.{piece_view}
use Rattle.world_pieces.specs.Pieces.{piece_of_member}
use Rattle.agree_soundness.specs.EmittedMethods.{EmittedMethod}
use Rattle.sj_emit_expr_pieces.specs.Owners.{OnObjects}
use Rattle.sj_split.proofs.Members.{at_first, further, cons_cases}
use Rattle.sj_world.specs.Known.{Classes}
use Rattle.worklist.proofs.Inserted.{nothing_in}
use Rattle.linked_modules.specs.Bodies.{IsFound}
use Rattle.folder_linking.specs.declared.functions.Function.{Function}
use Rattle.folder_linking.specs.Functions.{IsFunction, member_of}

module _ (w : Classes) where
  -- the methods of functions
  pub methods : (fs : List Function) → ((f : Function) → Contains fs f → IsFunction w f) → List EmittedMethod
  methods [] each = []
  methods (f ∷ fs) each = (each f (at_first f fs)).method ∷ methods fs (λ g h. each g (further f g fs h))

  pub record Made (fs : List Function) (e : EmittedMethod) : Type 0 where
    pub function : Function
    pub among : Contains fs function
    pub is : IsFunction w function
    pub method_is : is.method ≡ e

  in_methods : (fs : List Function) (each : (f : Function) → Contains fs f → IsFunction w f) (e : EmittedMethod) → Contains (methods fs each) e → Made fs e
  unfolding methods
  in_methods [] each e h = nothing_in e h
  in_methods (f ∷ fs) each e h = go (cons_cases (each f (at_first f fs)).method e (methods fs (λ g i. each g (further f g fs i))) h) (in_methods fs (λ g i. each g (further f g fs i)) e)
    where
      go : ((each f (at_first f fs)).method ≡ e) ⊎ Contains (methods fs (λ g i. each g (further f g fs i))) e → (Contains (methods fs (λ g i. each g (further f g fs i))) e → Made fs e) → Made (f ∷ fs) e
      go (inl same) rest = record { function = f; among = at_first f fs; is = each f (at_first f fs); method_is = same }
      go (inr later) rest = let m = rest later in record { function = m.function; among = further f m.function fs m.among; is = m.is; method_is = m.method_is }

  -- the members and the pieces of the methods are those of the functions
  pub members_are : (fs : List Function) (each : (f : Function) → Contains fs f → IsFunction w f) → map (λ (e : EmittedMethod). e.member) (methods fs each) ≡ map member_of fs
  unfolding methods
  members_are [] each = refl
  members_are (f ∷ fs) each =
      let first : (each f (at_first f fs)).method.member ≡ member_of f = (each f (at_first f fs)).member_is in
      let rest = members_are fs (λ g i. each g (further f g fs i)) in
      (λ i. first i ∷ rest i)

  pub pieces_are : (fs : List Function) (each : (f : Function) → Contains fs f → IsFunction w f) → map (piece_of_member w) (methods fs each) ≡ map (λ (f : Function). piece_view f.piece) fs
  unfolding methods
  pieces_are [] each = refl
  pieces_are (f ∷ fs) each =
      let first : piece_of_member w (each f (at_first f fs)).method ≡ piece_view f.piece = sym (each f (at_first f fs)).piece_is in
      let rest = pieces_are fs (λ g i. each g (further f g fs i)) in
      (λ i. first i ∷ rest i)

  pub methods_found : (fs : List Function) (each : (f : Function) → Contains fs f → IsFunction w f) (e : EmittedMethod) → Contains (methods fs each) e → IsFound w e
  methods_found fs each e h = let m = in_methods fs each e h in subst (IsFound w) m.method_is m.is.found

  pub pieces_keep : (fs : List Function) (each : (f : Function) → Contains fs f → IsFunction w f) → ((e : EmittedMethod) → Contains (methods fs each) e → OnObjects e.its_body) → All IsPiece (map (λ (f : Function). piece_view f.piece) fs)
  unfolding methods
  pieces_keep [] each objects = All-nil IsPiece
  pieces_keep (f ∷ fs) each objects =
      let rest = λ (g : Function) (i : Contains fs g). each g (further f g fs i) in
      let first = each f (at_first f fs) in
      All-cons IsPiece (piece_view f.piece) (map (λ (g : Function). piece_view g.piece) fs) (first.rules (objects first.method (at_first first.method (methods fs rest)))) (pieces_keep fs rest (λ e i. objects e (further first.method e (methods fs rest) i)))
