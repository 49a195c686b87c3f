-- The method names of which the functions tell primitive receivers apart, and the pieces of these functions.
use Rattle.std.proofs.Common.{◌≡◌, ◌+◌, ◌∙◌, ℕ, Bool, true, false, List, [], ◌∷◌, ◌++◌, Option, Some, None, IsTrue, Contains, ap, drop, inl, inr, map, refl, slice_get, sym, subst, take}
use Rattle.std.specs.List.{AllByRecursion, IsDistinct}
use Rattle.std.specs.Prelude.{◌↔◌, All}
use Rattle.std.proofs.lemmas.List.{map-append, take_more}
use Rattle.std.proofs.lemmas.List.Elements.{All-contains, Contains-append_left, Contains-push, Contains-push_cases}
use Rattle.std.proofs.lemmas.List.Sorted.{Contains-permutation, IsPermutation-map, IsPermutation-sym}
use Rattle.std.proofs.lemmas.Map.Keys.{IsDistinct-cons, IsDistinct-head, IsDistinct-tail}
use Rattle.std.proofs.lemmas.Option.{get_or_from_slice_get, slice_get_within}
use Rattle.js_tree.specs.Rules.{IsPiece}
use Rattle.js_tree.specs.Terms.{Name, Piece}
use Rattle.js_tree.specs.Views.{piece_view}
use Rattle.js_tree.specs.declared.items.JsPiece.{JsPiece}
use Rattle.linked_pieces.specs.Dispatched.{IsDispatched, OfDispatched, HasDispatchPiece, HasLesserPiece, AreDispatchPieces}
use Rattle.linked_pieces.specs.Order.{AreInOrder}
use Rattle.linked_pieces.specs.Reflected.{IsReflected, OfReflected, HasReflectivePiece, AreReflectivePieces}
use Rattle.sj_emit_class_spec.specs.Dispatch.{dispatch_name, reflective_name, IsDispatchPiece, IsReflectivePiece}
use Rattle.sj_baselink.proofs.Putting.{adds_as}
use Rattle.sj_baselink.specs.Steps.{Puts, OfOne, AreReflective}
use Rattle.sj_mangling.proofs.Injective.{mangled_texts_differ}
use Rattle.sj_mangling.specs.Bindings.{method_binding, method_prefix}
use Rattle.sj_mangling.specs.Mangling.{mangled}
use Rattle.sj_mangling.specs.declared.bindings.MethodBinding.{MethodBinding}
use Rattle.sj_mangling.specs.declared.bindings.MethodBinding.TheVariants.{Entry, Dispatch, Reflective}
use Rattle.sj_names.proofs.Equal.{method_decides}
use Rattle.sj_names.proofs.ReadMethodNames.{reads_method_names}
use Rattle.sj_names.proofs.Same.{impossible}
use Rattle.sj_names.specs.MethodNames.{spelled_method, method_name_of, IsMethodName}
use Rattle.sj_names.specs.contracts.method_names.MethodNamePartialEq.TheImpl as method_eq
use Rattle.sj_names.specs.declared.method_names.MethodName.{MethodName}
use Rattle.sj_split.proofs.Members.{at_first, further}
use Rattle.sj_split.specs.Orders.{IsBefore}
use Rattle.sj_world.specs.Known.{is_same}
use Rattle.sj_world.specs.Linked.{Linked}
use Rattle.sj_world.specs.declared.facts.Fact.{Fact}
use Rattle.sj_world.specs.declared.facts.Fact.TheVariants.{Called}
use Rattle.worklist.proofs.Inserted.{nothing_in}
use Rattle.world_pieces.specs.Functions.{has_lesser_name, AreByName}
use Rattle.world_pieces.specs.Helpers.{UsesWord}
use Rattle.world_pieces.specs.Told.{IsUsedMethod, IsUsedBy, IsUsedName, Piecing, piece_name, OfMethod, HasPiece, AreTheirs}
use Rattle.world_pieces.proofs.InOrder.{before_other, sorted_stand, into_images}
use Rattle.world_pieces.proofs.Kept.{appended}
use Rattle.world_pieces.proofs.Linked.{function_name, map_twice, name_ranks, not_same, nothing_distinct}
use Rattle.world_pieces.proofs.Made.{all_from}
use Rattle.world_pieces.proofs.Placed.{once_moved}

-- method names are told apart by the names of their functions
same_method : (m n : MethodName) → ◌≡◌ {A = Option MethodName} (Some m) (Some n) → m ≡ n
same_method m n e = cc

no_method : (m : MethodName) → ◌≡◌ {A = Option MethodName} None (Some m) → ⊥
no_method m e = cc

same_behind : (b : MethodBinding) (xs ys : Name) → method_prefix b ++ xs ≡ method_prefix b ++ ys → xs ≡ ys
same_behind Entry xs ys same = ap (drop 2) same
same_behind Dispatch xs ys same = ap (drop 2) same
same_behind Reflective xs ys same = ap (drop 2) same

one_name : (b : MethodBinding) (m n : MethodName) → IsMethodName m → IsMethodName n → method_binding b m ≡ method_binding b n → m ≡ n
one_name b m n h k same =
    let spelled : spelled_method m ≡ spelled_method n = mangled_texts_differ (spelled_method m) (spelled_method n) (same_behind b (mangled (spelled_method m)) (mangled (spelled_method n)) same) in
    same_method m n (sym ((reads_method_names (spelled_method m) m).1 (h, refl)) ∙ ap method_name_of spelled ∙ (reads_method_names (spelled_method n) n).1 (k, refl))

-- whether the spelling of a name is read as this name
pub is_read : (m read : MethodName) (b : Bool) → method_name_of (spelled_method m) ≡ Some read → IsTrue b ↔ (read ≡ m) → IsTrue b ↔ IsMethodName m
is_read m read b found same = (λ t. ((reads_method_names (spelled_method m) m).0 (found ∙ ap Some (same.0 t))).0, λ h. same.1 (same_method read m (sym found ∙ (reads_method_names (spelled_method m) m).1 (h, refl))))

pub not_read : (m : MethodName) → method_name_of (spelled_method m) ≡ None → IsTrue false ↔ IsMethodName m
not_read m none = (λ t. impossible t, λ h. absurd (no_method m (sym none ∙ (reads_method_names (spelled_method m) m).1 (h, refl))))

-- the method names that are put
pub one_used : (binding : MethodBinding) (words : List Name) (m : MethodName) (a b : List MethodName) → IsMethodName m × Contains words (method_binding binding m) → Puts (λ x. m ≡ x) a b → Puts (IsUsedMethod binding words m) a b
one_used binding words m a b h f = adds_as Contains (λ x. m ≡ x) (IsUsedMethod binding words m) a b (λ x e. record { same = e; named = h.0; word = h.1 }) (λ x q. q.same) f

same_called : (c d : Name) (m n : MethodName) → Called c m ≡ Called d n → m ≡ n
same_called c d m n e = cc

pub puts_called : (words : List Name) (f : Fact) (c : Name) (m : MethodName) (a b : List MethodName) → f ≡ Called c m → Puts (IsUsedMethod Dispatch words m) a b → Puts (IsUsedBy words f) a b
puts_called words f c m a b is puts = adds_as Contains (IsUsedMethod Dispatch words m) (IsUsedBy words f) a b to from puts
  where
    to : (x : MethodName) → IsUsedMethod Dispatch words m x → IsUsedBy words f x
    to x q = record { receiver = c; called = is ∙ ap (Called c) q.same; named = subst IsMethodName q.same q.named; word = subst (λ (y : MethodName). Contains words (dispatch_name y)) q.same q.word }

    from : (x : MethodName) → IsUsedBy words f x → IsUsedMethod Dispatch words m x
    from x q = let e : x ≡ m = same_called q.receiver c x m (sym q.called ∙ is) in record { same = sym e; named = subst IsMethodName e q.named; word = subst (λ (y : MethodName). Contains words (dispatch_name y)) e q.word }

-- those of the reflective names that are used
pub names_used : (l : Linked) (words : List Name) (called names used : List MethodName) → AreReflective l.world l.facts called → names ≡ called → ((p : MethodName) → Contains used p ↔ OfOne names (IsUsedMethod Reflective words) p) → (p : MethodName) → Contains used p ↔ IsUsedName l words p
names_used l words called names used are same put p = (λ h. to ((put p).0 h), λ q. (put p).1 (from q))
  where
    to : OfOne names (IsUsedMethod Reflective words) p → IsUsedName l words p
    to q = record {
      called = (are.exact p).0 (subst (λ (x : MethodName). Contains called x) q.holds.same (subst (λ (ns : List MethodName). Contains ns q.thing) same q.among));
      named = subst IsMethodName q.holds.same q.holds.named;
      word = subst (λ (x : MethodName). Contains words (reflective_name x)) q.holds.same q.holds.word;
    }

    from : IsUsedName l words p → OfOne names (IsUsedMethod Reflective words) p
    from q = record { thing = p; among = subst (λ (ns : List MethodName). Contains ns p) (sym same) ((are.exact p).1 q.called); holds = record { same = refl; named = q.named; word = q.word } }

-- one piece more
taken_more : (ms : List MethodName) (i : ℕ) (m : MethodName) → slice_get ms i ≡ Some m → take (i + 1) ms ≡ take i ms ++ m ∷ []
taken_more ms i m at = take_more ms i m (slice_get_within ms i m at) ∙ ap (λ (x : MethodName). take i ms ++ x ∷ []) (get_or_from_slice_get ms i m m at)

pub dispatch_named : (l : Linked) (m : MethodName) (p : Piece) → IsDispatchPiece l.world l.facts m p → piece_name p ≡ dispatch_name m
dispatch_named l m p is = ap piece_name is.piece_is

pub reflective_named : (l : Linked) (m : MethodName) (p : Piece) → IsReflectivePiece l.world l.facts m p → piece_name p ≡ reflective_name m
reflective_named l m p is = ap piece_name is.piece_is

module _ (b : MethodBinding) (Is : Piecing) where
  pub none_theirs : (ms : List MethodName) (ps : List JsPiece) → ps ≡ [] → AreTheirs b Is (take 0 ms) (map piece_view ps)
  none_theirs ms ps none = record { names_are = ap (λ (qs : List JsPiece). map piece_name (map piece_view qs)) none; made = λ p h. nothing_in p (subst (λ (qs : List JsPiece). Contains (map piece_view qs) p) none h); each = λ m h. nothing_in m h }

  module _ (ms : List MethodName) (ps : List Piece) (m : MethodName) (p : Piece) (name : piece_name p ≡ method_binding b m) (is : Is m p) (are : AreTheirs b Is ms ps) where
    made_more : (q : Piece) → Contains (ps ++ p ∷ []) q → OfMethod Is (ms ++ m ∷ []) q
    made_more q h = elim (Contains-push_cases ps p q h) [ inl older ↦ before (are.made q older) | inr e ↦ record { method = m; among = Contains-push ms m; is_piece = subst (Is m) e is } ]
      where
        before : OfMethod Is ms q → OfMethod Is (ms ++ m ∷ []) q
        before o = record { method = o.method; among = Contains-append_left ms (m ∷ []) o.method o.among; is_piece = o.is_piece }

    each_more : (n : MethodName) → Contains (ms ++ m ∷ []) n → HasPiece Is (ps ++ p ∷ []) n
    each_more n h = elim (Contains-push_cases ms m n h) [ inl older ↦ before (are.each n older) | inr e ↦ record { piece = p; among = Contains-push ps p; is_piece = subst (λ (x : MethodName). Is x p) e is } ]
      where
        before : HasPiece Is ps n → HasPiece Is (ps ++ p ∷ []) n
        before o = record { piece = o.piece; among = Contains-append_left ps (p ∷ []) o.piece o.among; is_piece = o.is_piece }

    more_theirs : AreTheirs b Is (ms ++ m ∷ []) (ps ++ p ∷ [])
    more_theirs = record {
      names_are = map-append piece_name ps (p ∷ []) ∙ (λ t. are.names_are t ++ name t ∷ []) ∙ sym (map-append (method_binding b) ms (m ∷ []));
      made = made_more;
      each = each_more;
    }

  pub one_theirs : ((m : MethodName) (p : Piece) → Is m p → piece_name p ≡ method_binding b m) → (ms : List MethodName) (i : ℕ) (m : MethodName) (old new : List JsPiece) (p : JsPiece) → slice_get ms i ≡ Some m → Is m (piece_view p) → new ≡ old ++ p ∷ [] → AreTheirs b Is (take i ms) (map piece_view old) → AreTheirs b Is (take (i + 1) ms) (map piece_view new)
  one_theirs name ms i m old new p at is put are = subst (λ (ns : List MethodName). AreTheirs b Is ns (map piece_view new)) (sym (taken_more ms i m at)) (subst (λ (qs : List Piece). AreTheirs b Is (take i ms ++ m ∷ []) qs) (sym (appended old (p ∷ []) new put)) (more_theirs (take i ms) (map piece_view old) m (piece_view p) (name m (piece_view p) is) is are))

-- the names of the functions of methods
differ : (m n : MethodName) → method_eq.ghosts.eq m n ≡ false → m ≡ n → ⊥
differ m n other e = let t : true ≡ false = sym ((method_decides m n).1 e) ∙ other in cc

module _ (b : MethodBinding) where
  others : (m : MethodName) (ms : List MethodName) → IsMethodName m → ((n : MethodName) → Contains ms n → IsMethodName n) → AllByRecursion (λ n. method_eq.ghosts.eq m n ≡ false) ms → AllByRecursion (λ x. is_same (method_binding b m) x ≡ false) (map (method_binding b) ms)
  others m [] h each all = tt
  others m (n ∷ ms) h each all = (not_same (method_binding b m) (method_binding b n) (λ e. differ m n all.0 (one_name b m n h (each n (at_first n ms)) e)), others m ms h (λ x i. each x (further n x ms i)) all.1)

  named_once : (ms : List MethodName) → ((n : MethodName) → Contains ms n → IsMethodName n) → IsDistinct method_eq.ghosts.eq ms → IsDistinct is_same (map (method_binding b) ms)
  named_once [] each once = nothing_distinct
  named_once (m ∷ ms) each once = IsDistinct-cons is_same (method_binding b m) (map (method_binding b) ms) (others m ms (each m (at_first m ms)) (λ n i. each n (further m n ms i)) (IsDistinct-head method_eq.ghosts.eq m ms once)) (named_once ms (λ n i. each n (further m n ms i)) (IsDistinct-tail method_eq.ghosts.eq m ms once))

-- the pieces in the order of their names
module _ (given sorted : List JsPiece) (by : AreByName given sorted) where
  back : (p : Piece) → Contains (map piece_view sorted) p → Contains (map piece_view given) p
  back p = Contains-permutation (map piece_view sorted) (map piece_view given) p (IsPermutation-sym (map piece_view given) (map piece_view sorted) (IsPermutation-map piece_view given sorted by.same))

  forth : (p : Piece) → Contains (map piece_view given) p → Contains (map piece_view sorted) p
  forth p = Contains-permutation (map piece_view given) (map piece_view sorted) p (IsPermutation-map piece_view given sorted by.same)

  pub sorted_keep : All IsPiece (map piece_view given) → All IsPiece (map piece_view sorted)
  sorted_keep keep = all_from IsPiece (map piece_view sorted) (λ p h. All-contains IsPiece (map piece_view given) p keep (back p h))

  in_their_order : (b : MethodBinding) (Is : Piecing) (ms : List MethodName) → ((m : MethodName) → Contains ms m → IsMethodName m) → IsDistinct method_eq.ghosts.eq ms → AreTheirs b Is ms (map piece_view given) → AreInOrder HasLesserPiece (map piece_view sorted)
  in_their_order b Is ms named once theirs = into_images HasLesserPiece piece_view sorted stand
    where
      names : map function_name given ≡ map (method_binding b) ms
      names = sym (map_twice piece_view piece_name given) ∙ theirs.names_are

      names_once : IsDistinct is_same (map function_name sorted)
      names_once = once_moved (map function_name given) (map function_name sorted) (IsPermutation-map function_name given sorted by.same) (subst (IsDistinct is_same) (sym names) (named_once b ms named once))

      stand : AreInOrder (λ (f g : JsPiece). IsBefore f.name g.name) sorted
      stand = sorted_stand (λ (f g : JsPiece). IsBefore f.name g.name) has_lesser_name name_ranks function_name (λ _. Unit {0}) (λ f g _ _ differs low. before_other f.name g.name differs low) sorted (λ _ _. tt) by.in_order names_once

  module _ (l : Linked) (ps : List Piece) (words : List Name) (ms : List MethodName) (are_words : (x : Name) → Contains words x ↔ OfOne ps UsesWord x) (once : IsDistinct method_eq.ghosts.eq ms) where
    module _ (exact : (m : MethodName) → Contains ms m ↔ OfOne l.facts (IsUsedBy words) m) (theirs : AreTheirs Dispatch (IsDispatchPiece l.world l.facts) ms (map piece_view given)) where
      is_dispatched : (m : MethodName) → Contains ms m → IsDispatched l ps m
      is_dispatched m i =
          let q = (exact m).0 i in
          let u = (are_words (dispatch_name m)).0 q.holds.word in
          record { named = q.holds.named; receiver = q.holds.receiver; called = subst (Contains l.facts) q.holds.called q.among; user = u.thing; among = u.among; uses = u.holds }

      among_methods : (m : MethodName) → IsDispatched l ps m → Contains ms m
      among_methods m d = (exact m).1 (record { thing = Called d.receiver m; among = d.called; holds = record { receiver = d.receiver; called = refl; named = d.named; word = (are_words (dispatch_name m)).1 (record { thing = d.user; among = d.among; holds = d.uses }) } })

      of_dispatched : (p : Piece) → OfMethod (IsDispatchPiece l.world l.facts) ms p → OfDispatched l ps p
      of_dispatched p o = record { method = o.method; dispatched = is_dispatched o.method o.among; is_piece = o.is_piece }

      its_dispatch_piece : (m : MethodName) → HasPiece (IsDispatchPiece l.world l.facts) (map piece_view given) m → HasDispatchPiece l (map piece_view sorted) m
      its_dispatch_piece m h = record { piece = h.piece; among = forth h.piece h.among; is_piece = h.is_piece }

      pub are_dispatch_pieces : AreDispatchPieces l ps (map piece_view sorted)
      are_dispatch_pieces = record {
        made = λ p h. of_dispatched p (theirs.made p (back p h));
        each = λ m d. its_dispatch_piece m (theirs.each m (among_methods m d));
        in_order = in_their_order Dispatch (IsDispatchPiece l.world l.facts) ms (λ m i. (is_dispatched m i).named) once theirs;
      }

    module _ (exact : (p : MethodName) → Contains ms p ↔ IsUsedName l words p) (theirs : AreTheirs Reflective (IsReflectivePiece l.world l.facts) ms (map piece_view given)) where
      is_reflected : (p : MethodName) → Contains ms p → IsReflected l ps p
      is_reflected p i =
          let q = (exact p).0 i in
          let u = (are_words (reflective_name p)).0 q.word in
          record { named = q.named; called = q.called; user = u.thing; among = u.among; uses = u.holds }

      among_names : (p : MethodName) → IsReflected l ps p → Contains ms p
      among_names p r = (exact p).1 (record { called = r.called; named = r.named; word = (are_words (reflective_name p)).1 (record { thing = r.user; among = r.among; holds = r.uses }) })

      of_reflected : (p : Piece) → OfMethod (IsReflectivePiece l.world l.facts) ms p → OfReflected l ps p
      of_reflected p o = record { method = o.method; reflected = is_reflected o.method o.among; is_piece = o.is_piece }

      its_reflective_piece : (p : MethodName) → HasPiece (IsReflectivePiece l.world l.facts) (map piece_view given) p → HasReflectivePiece l (map piece_view sorted) p
      its_reflective_piece p h = record { piece = h.piece; among = forth h.piece h.among; is_piece = h.is_piece }

      pub are_reflective_pieces : AreReflectivePieces l ps (map piece_view sorted)
      are_reflective_pieces = record {
        made = λ p h. of_reflected p (theirs.made p (back p h));
        each = λ m r. its_reflective_piece m (theirs.each m (among_names m r));
        in_order = in_their_order Reflective (IsReflectivePiece l.world l.facts) ms (λ m i. (is_reflected m i).named) once theirs;
      }
