-- Each piece has no early error by itself.
use Rattle.std.proofs.Common.{◌≡◌, ◌⊎◌, ◌++◌, ◌&&◌, ◌||◌, not, Bool, true, false, ℕ, List, [], ◌∷◌, Option, Some, None, inl, inr, refl, sym, ap, subst, map, length, codes, Contains, append-nil}
use Rattle.std.specs.List.{list_all, list_any}
use Rattle.std.proofs.lemmas.List.Elements.{Contains-append_cases}
use Rattle.sj_emit_help_spec.specs.Helpers.{Above, helper_piece}
use Rattle.sj_emit_help_spec.specs.Words.{parameters_of, all_kinds, units_of}
use Rattle.sj_emit_help_spec.specs.declared.kinds.Helper.{Helper}
use Rattle.sj_emit_help_spec.specs.declared.kinds.Helper.TheVariants as helpers
use Rattle.sj_emit_help_spec.specs.declared.kinds.Failure.{Failure}
use Rattle.sj_emit_help_spec.specs.declared.kinds.Failure.TheVariants as failures
use Rattle.js_mean.specs.Proper.{Place, are_distinct, declared, are_proper, is_proper_member, is_proper_item, is_constructor}
use Rattle.js_tree.specs.Terms.{Name, Piece, Statements}
use Rattle.js_tree.specs.Views.{statements_of}
use Rattle.linked_pieces.specs.Dispatch.{Told, dispatch_body, dispatch_piece, Reflected, reflected_body, reflective_piece}
use Rattle.sj_names.specs.MethodNames.{spelled_method}
use Rattle.linked_pieces.specs.SjEmitClassSpecPieces.{Parts, pieces, when, constants_piece, class_piece, entry_member, field_start, all_statics, variable_piece, setter_piece, cell_piece, load_piece, store_piece, cell_pieces, test_piece, kind_of_class, cast_piece, constants_of, class_of, module_of, tests_of}
use Rattle.proper_pieces.specs.Laws.{PiecesAreProper}
use Rattle.linked_pieces.proofs.Modules.{member_proper}
use Rattle.linked_pieces.specs.Targets.{lookup_in}
use Rattle.sj_names.specs.declared.method_names.MethodName.{MethodName}
use Rattle.sj_split.proofs.Members.{cons_cases}
use Rattle.sj_trees.specs.declared.classes.FieldDef.{FieldDef}
use Rattle.sj_world.specs.declared.linked.MethodEntry.{MethodEntry}
use Rattle.worklist.proofs.Inserted.{nothing_in}
use Rattle.proper_pieces.proofs.Apart.{both, not_is, parameters_distinct, behind_receiver}

abbrev AreProper : List Piece → Type 0
AreProper ps = (q : Piece) → Contains ps q → is_proper_item q.item ≡ true

none_proper : AreProper []
none_proper q i = nothing_in q i

more_proper : (p : Piece) (ps : List Piece) → is_proper_item p.item ≡ true → AreProper ps → AreProper (p ∷ ps)
more_proper p ps h k q i = go (cons_cases p q ps i)
  where
    go : (p ≡ q) ⊎ Contains ps q → is_proper_item q.item ≡ true
    go (inl e) = subst (λ (x : Piece). is_proper_item x.item ≡ true) e h
    go (inr later) = k q later

one_proper : (p : Piece) → is_proper_item p.item ≡ true → AreProper (p ∷ [])
one_proper p h = more_proper p [] h none_proper

joined_proper : (ps qs : List Piece) → AreProper ps → AreProper qs → AreProper (ps ++ qs)
joined_proper ps qs h k q i = go (Contains-append_cases ps qs q i)
  where
    go : Contains ps q ⊎ Contains qs q → is_proper_item q.item ≡ true
    go (inl j) = h q j
    go (inr j) = k q j

when_proper : (b : Bool) (ps : List Piece) → AreProper ps → AreProper (when b ps)
when_proper true ps h = h
when_proper false ps h = none_proper

-- the statements that set fields
starts_declare : (c : Name) (fs : List FieldDef) → declared (statements_of (map (field_start c) fs)) ≡ []
starts_declare c [] = refl
starts_declare c (f ∷ fs) = starts_declare c fs

starts_proper : (at : Place) (c : Name) (fs : List FieldDef) → are_proper at (statements_of (map (field_start c) fs)) ≡ true
starts_proper at c [] = refl
starts_proper at c (f ∷ fs) = starts_proper at c fs

only_entries : (es : List MethodEntry) → list_any is_constructor (map entry_member es) ≡ false
only_entries [] = refl
only_entries (e ∷ es) = only_entries es

entry_proper : (extends : Bool) (e : MethodEntry) → is_proper_member extends (entry_member e) ≡ true
entry_proper extends e = both (are_distinct (parameters_of e.name ++ [])) true (subst (λ (xs : List Name). are_distinct xs ≡ true) (sym (append-nil (parameters_of e.name))) (parameters_distinct (length e.name.params))) refl

entries_proper : (extends : Bool) (es : List MethodEntry) → list_all (is_proper_member extends) (map entry_member es) ≡ true
entries_proper extends [] = refl
entries_proper extends (e ∷ es) = both (is_proper_member extends (entry_member e)) (list_all (is_proper_member extends) (map entry_member es)) (entry_proper extends e) (entries_proper extends es)

class_proper : (c : Name) (superclass : Option Name) (es : List MethodEntry) (fs : List FieldDef) → is_proper_item (class_piece c superclass es fs).item ≡ true
class_proper c None es fs = both (not (list_any is_constructor (map entry_member es))) ((are_distinct (declared (statements_of (map (field_start c) fs))) && are_proper (record { labels = []; breakable = false; super_allowed = false }) (statements_of (map (field_start c) fs))) && list_all (is_proper_member false) (map entry_member es)) (not_is (list_any is_constructor (map entry_member es)) (only_entries es)) (both (are_distinct (declared (statements_of (map (field_start c) fs))) && are_proper (record { labels = []; breakable = false; super_allowed = false }) (statements_of (map (field_start c) fs))) (list_all (is_proper_member false) (map entry_member es)) (both (are_distinct (declared (statements_of (map (field_start c) fs)))) (are_proper (record { labels = []; breakable = false; super_allowed = false }) (statements_of (map (field_start c) fs))) (ap are_distinct (starts_declare c fs)) (starts_proper (record { labels = []; breakable = false; super_allowed = false }) c fs)) (entries_proper false es))
class_proper c (Some s) es fs = both (not (list_any is_constructor (map entry_member es))) ((are_distinct (declared (statements_of (map (field_start c) fs))) && are_proper (record { labels = []; breakable = false; super_allowed = true }) (statements_of (map (field_start c) fs))) && list_all (is_proper_member true) (map entry_member es)) (not_is (list_any is_constructor (map entry_member es)) (only_entries es)) (both (are_distinct (declared (statements_of (map (field_start c) fs))) && are_proper (record { labels = []; breakable = false; super_allowed = true }) (statements_of (map (field_start c) fs))) (list_all (is_proper_member true) (map entry_member es)) (both (are_distinct (declared (statements_of (map (field_start c) fs)))) (are_proper (record { labels = []; breakable = false; super_allowed = true }) (statements_of (map (field_start c) fs))) (ap are_distinct (starts_declare c fs)) (starts_proper (record { labels = []; breakable = false; super_allowed = true }) c fs)) (entries_proper true es))

statics_proper : (c : Name) (fs : List FieldDef) → AreProper (all_statics c fs)
statics_proper c [] = none_proper
statics_proper c (f ∷ fs) = more_proper (variable_piece c f) (setter_piece c f ∷ all_statics c fs) refl (more_proper (setter_piece c f) (all_statics c fs) refl (statics_proper c fs))

cells_proper : (c : Name) (loaded : Bool) → AreProper (cell_pieces c loaded)
cells_proper c loaded = more_proper (cell_piece c) (when loaded (load_piece c ∷ []) ++ store_piece c ∷ []) refl (joined_proper (when loaded (load_piece c ∷ [])) (store_piece c ∷ []) (when_proper loaded (load_piece c ∷ []) (one_proper (load_piece c) refl)) (one_proper (store_piece c) refl))

class_pieces_proper : (p : Parts) → AreProper (pieces p)
class_pieces_proper p =
    joined_proper (constants_of p ++ class_of p ++ all_statics c p.statics ++ module_of p) (tests_of p)
    (joined_proper (constants_of p ++ class_of p ++ all_statics c p.statics) (module_of p)
    (joined_proper (constants_of p ++ class_of p) (all_statics c p.statics)
    (joined_proper (constants_of p) (class_of p)
    (when_proper (p.is_live || p.is_base) (constants_piece c p.ancestors ∷ []) (one_proper (constants_piece c p.ancestors) refl))
    (when_proper p.is_live (class_piece c p.class.superclass p.entries p.fields ∷ []) (one_proper (class_piece c p.class.superclass p.entries p.fields) (class_proper c p.class.superclass p.entries p.fields))))
    (statics_proper c p.statics))
    (when_proper (p.is_loaded || p.is_stored) (cell_pieces c p.is_loaded) (cells_proper c p.is_loaded)))
    (joined_proper (when (p.is_tested || p.is_cast) (tested ∷ [])) (when p.is_cast (cast_piece c ∷ []))
    (when_proper (p.is_tested || p.is_cast) (tested ∷ []) (one_proper tested refl))
    (when_proper p.is_cast (cast_piece c ∷ []) (one_proper (cast_piece c) refl)))
  where
    c : Name
    c = p.class.name

    tested : Piece
    tested = test_piece c p.instances (kind_of_class c all_kinds)

failure_proper : (above : Above) (f : Failure) → is_proper_item (helper_piece above (helpers.Throws f)).item ≡ true
failure_proper above failures.NullReceiver = refl
failure_proper above failures.Division = refl
failure_proper above failures.Cast = refl
failure_proper above failures.Index = refl
failure_proper above failures.Store = refl
failure_proper above failures.Size = refl
failure_proper above failures.Method = refl

helper_proper : (above : Above) (h : Helper) → is_proper_item (helper_piece above h).item ≡ true
helper_proper above (helpers.TestOf k) = refl
helper_proper above (helpers.CastTo k) = refl
helper_proper above (helpers.ConstantsOf k) = refl
helper_proper above helpers.NotNull = refl
helper_proper above helpers.IntQuotient = refl
helper_proper above helpers.IntRemainder = refl
helper_proper above helpers.LongQuotient = refl
helper_proper above helpers.LongRemainder = refl
helper_proper above helpers.BoxedChar = refl
helper_proper above helpers.Equal = refl
helper_proper above helpers.ArrayClass = refl
helper_proper above helpers.MakeArray = refl
helper_proper above helpers.CheckIndex = refl
helper_proper above helpers.Get = refl
helper_proper above helpers.Set = refl
helper_proper above helpers.Put = refl
helper_proper above helpers.Covers = refl
helper_proper above helpers.Fits = refl
helper_proper above helpers.ClassOf = refl
helper_proper above helpers.TestOfArray = refl
helper_proper above helpers.CastToArray = refl
helper_proper above (helpers.Throws f) = failure_proper above f

-- the cases of a function that tells receivers apart
cases_declare : (m : MethodName) (ts : List Told) → declared (dispatch_body m ts) ≡ []
cases_declare m [] = refl
cases_declare m (t ∷ ts) = cases_declare m ts

cases_proper : (at : Place) (m : MethodName) (ts : List Told) → are_proper at (dispatch_body m ts) ≡ true
cases_proper at m [] = refl
cases_proper at m (t ∷ ts) = cases_proper at m ts

dispatch_proper : (m : MethodName) (ts : List Told) → is_proper_item (dispatch_piece m ts).item ≡ true
dispatch_proper m ts = both (are_distinct (names ++ declared (dispatch_body m ts))) (are_proper at (dispatch_body m ts)) (subst (λ (xs : List Name). are_distinct (names ++ xs) ≡ true) (sym (cases_declare m ts)) (subst (λ (xs : List Name). are_distinct xs ≡ true) (sym (append-nil names)) (behind_receiver (length m.params)))) (cases_proper at m ts)
  where
    names : List Name
    names = codes "x" ∷ parameters_of m

    at : Place
    at = record { labels = []; breakable = false; super_allowed = false }

-- and those of one of a reflective name, a char boxed or not
reflected_declare : (p : MethodName) (message : List ℕ) (ts : List Reflected) → declared (reflected_body p message ts) ≡ []
reflected_declare p message [] = refl
reflected_declare p message (t ∷ ts) = reflected_declare p message ts

reflected_proper : (at : Place) (p : MethodName) (message : List ℕ) (ts : List Reflected) → are_proper at (reflected_body p message ts) ≡ true
reflected_proper at p message [] = refl
reflected_proper at p message (t ∷ ts) = reflected_proper at p message ts

reflective_proper : (m : MethodName) (ts : List Reflected) → is_proper_item (reflective_piece m ts).item ≡ true
reflective_proper m ts = both (are_distinct (names ++ declared body)) (are_proper at body) (subst (λ (xs : List Name). are_distinct (names ++ xs) ≡ true) (sym (reflected_declare m message ts)) (subst (λ (xs : List Name). are_distinct xs ≡ true) (sym (append-nil names)) (behind_receiver (length m.params)))) (reflected_proper at m message ts)
  where
    names : List Name
    names = codes "x" ∷ parameters_of m

    message : List ℕ
    message = units_of (spelled_method m)

    body : Statements
    body = reflected_body m message ts

    at : Place
    at = record { labels = []; breakable = false; super_allowed = false }

pub pieces_are_proper : PiecesAreProper
pieces_are_proper = record { of_classes = class_pieces_proper; of_helpers = helper_proper; of_dispatch = dispatch_proper; of_reflective = reflective_proper; of_methods = λ w e h. member_proper (lookup_in w) e h }
