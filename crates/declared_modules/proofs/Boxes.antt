-- The class of objects that hold chars has no entry of a method, in whatever file it stands.
use Rattle.std.proofs.Common.{◌≡◌, ◌⊎◌, ◌++◌, inl, inr, Bool, true, false, List, [], ◌∷◌, Option, Some, None, map, refl, sym, subst, Contains, if◌then◌else◌}
use Rattle.std.specs.List.{filter}
use Rattle.std.proofs.lemmas.List.Elements.{Contains-append_cases}
use Rattle.sj_emit_help_spec.specs.Helpers.{Above, helper_name, helper_item}
use Rattle.sj_emit_help_spec.specs.Words.{entry_name}
use Rattle.sj_emit_help_spec.specs.declared.kinds.Failure.{Failure}
use Rattle.sj_emit_help_spec.specs.declared.kinds.Failure.TheVariants as failures
use Rattle.sj_emit_help_spec.specs.declared.kinds.Helper.{Helper}
use Rattle.sj_emit_help_spec.specs.declared.kinds.Helper.TheVariants as helpers
use Rattle.js_mean.specs.Classes.{method_in, members_among, members_in, members_of}
use Rattle.js_mean.specs.Files.{module_among}
use Rattle.js_mean.specs.Meaning.{Code}
use Rattle.js_tree.specs.Terms.{Name, Item, class_item, subclass_item, Piece}
use Rattle.sj_emit_module_spec.specs.Calls.{call_item_of}
use Rattle.sj_emit_module_spec.specs.Modules.{file_with, is_owned_in, item_of, module_of as planned_module}
use Rattle.sj_split.specs.Modules.{file}
use Rattle.module_uses.proofs.Places.{Stands, own, method, helps, tells, names, stands}
use Rattle.module_uses.specs.EmittedMethods.{EmittedMethod}
use Rattle.module_uses.specs.Files.{program_of, source_of}
use Rattle.module_uses.specs.LinkedPiecesPieces.{AreLinkedPieces}
use Rattle.module_uses.specs.Pieces.{Parts, pieces, class_piece}
use Rattle.module_uses.proofs.Each.{each_own}
use Rattle.sj_names.specs.Same.{is_same_text}
use Rattle.sj_names.specs.declared.entry_points.EntryPoint.{EntryPoint}
use Rattle.sj_names.specs.declared.method_names.MethodName.{MethodName}
use Rattle.sj_split.proofs.Members.{at_first, further, from_map, from_filter}
use Rattle.sj_split.specs.declared.plans.PlannedModule.{PlannedModule}
use Rattle.sj_world.specs.Linked.{Linked}

module _ (m : MethodName) where
  abbrev box : Name
  box = helper_name helpers.BoxedChar

  -- what the class of the name has under that of the entry
  abbrev pub entry_in : List Item → Option Code
  entry_in is = method_in (members_among is box) (entry_name m)

  abbrev IsBare : Item → Type 0
  IsBare i = entry_in (i ∷ []) ≡ None

  bare_members : (b : Bool) (ms : List _) (o : Option (List _)) → method_in (if b then Some ms else None) (entry_name m) ≡ None → method_in o (entry_name m) ≡ None → method_in (if b then Some ms else o) (entry_name m) ≡ None
  bare_members true ms o h k = h
  bare_members false ms o h k = k

  one_more : (i : Item) (is : List Item) → IsBare i → entry_in is ≡ None → entry_in (i ∷ is) ≡ None
  one_more (class_item y ms) is h k = bare_members (is_same_text box y) ms (members_among is box) h k
  one_more (subclass_item y z ms) is h k = bare_members (is_same_text box y) ms (members_among is box) h k
  one_more _ is h k = k

  all_bare : (is : List Item) → ((i : Item) → Contains is i → IsBare i) → entry_in is ≡ None
  all_bare [] h = refl
  all_bare (i ∷ is) h = one_more i is (h i (at_first i is)) (all_bare is (λ j k. h j (further i j is k)))

  abbrev Right : Piece → Type 0
  Right q = IsBare q.item

  class_bare : (p : Parts) → Right (class_piece p.class.name p.class.superclass p.entries p.fields)
  class_bare p = go p.class.superclass
    where
      go : (s : Option Name) → Right (class_piece p.class.name s p.entries p.fields)
      go None = refl
      go (Some s) = refl

  own_bare : (p : Parts) (q : Piece) → Contains (pieces p) q → Right q
  own_bare p = each_own Right p (record { constants = refl; class = class_bare p; variable = λ d. refl; setter = λ d. refl; cell = refl; load = refl; store = refl; test = refl; cast = refl })

  failure_bare : (above : Above) (f : Failure) → IsBare (helper_item above (helpers.Throws f))
  failure_bare above failures.NullReceiver = refl
  failure_bare above failures.Division = refl
  failure_bare above failures.Cast = refl
  failure_bare above failures.Index = refl
  failure_bare above failures.Store = refl
  failure_bare above failures.Size = refl
  failure_bare above failures.Method = refl

  helper_bare : (above : Above) (h : Helper) → IsBare (helper_item above h)
  helper_bare above (helpers.TestOf k) = refl
  helper_bare above (helpers.CastTo k) = refl
  helper_bare above (helpers.ConstantsOf k) = refl
  helper_bare above helpers.NotNull = refl
  helper_bare above helpers.IntQuotient = refl
  helper_bare above helpers.IntRemainder = refl
  helper_bare above helpers.LongQuotient = refl
  helper_bare above helpers.LongRemainder = refl
  helper_bare above helpers.BoxedChar = refl
  helper_bare above helpers.Equal = refl
  helper_bare above helpers.ArrayClass = refl
  helper_bare above helpers.MakeArray = refl
  helper_bare above helpers.CheckIndex = refl
  helper_bare above helpers.Get = refl
  helper_bare above helpers.Set = refl
  helper_bare above helpers.Put = refl
  helper_bare above helpers.Covers = refl
  helper_bare above helpers.Fits = refl
  helper_bare above helpers.ClassOf = refl
  helper_bare above helpers.TestOfArray = refl
  helper_bare above helpers.CastToArray = refl
  helper_bare above (helpers.Throws f) = failure_bare above f

  module _ (l : Linked) (all : List EmittedMethod) (ps : List Piece) (p : AreLinkedPieces l all ps) where
    piece_bare : (q : Piece) → Stands l all ps p q → IsBare q.item
    piece_bare q (own c parts are there i) = own_bare parts q i
    piece_bare q (method e i j same) = subst (λ (x : Piece). IsBare x.item) same refl
    piece_bare q (helps h i same) = subst (λ (x : Piece). IsBare x.item) same (helper_bare p.above h)
    piece_bare q (tells i o) = subst (λ (x : Piece). IsBare x.item) (sym o.is_piece.piece_is) refl
    piece_bare q (names i o) = subst (λ (x : Piece). IsBare x.item) (sym o.is_piece.piece_is) refl

    items_bare : (owned : Piece → Bool) (es : List EntryPoint) (i : Item) → Contains (map item_of (filter owned ps) ++ map call_item_of es) i → IsBare i
    items_bare owned es i k = go (Contains-append_cases (map item_of (filter owned ps)) (map call_item_of es) i k)
      where
        go : Contains (map item_of (filter owned ps)) i ⊎ Contains (map call_item_of es) i → IsBare i
        go (inl j) = let o = from_map item_of (filter owned ps) i j in subst IsBare o.is (piece_bare o.item (stands l all ps p o.item (from_filter owned ps o.item o.among).among))
        go (inr j) = let o = from_map call_item_of es i j in subst IsBare o.is refl

    -- in each file of a plan
    pub boxes_bare : (modules : List PlannedModule) (f : Name) → method_in (members_of (program_of modules ps) (record { file = f; name = box })) (entry_name m) ≡ None
    boxes_bare modules f = go modules
      where
        by : (b : Bool) (k : PlannedModule) (ks : List PlannedModule) → method_in (members_in (module_among (map (source_of modules ps) ks) f) box) (entry_name m) ≡ None → method_in (members_in (if b then Some (planned_module modules k ps) else module_among (map (source_of modules ps) ks) f) box) (entry_name m) ≡ None
        by true k ks later = all_bare (map item_of (filter (is_owned_in (file_with modules) (file k)) ps) ++ map call_item_of k.initializers) (items_bare (is_owned_in (file_with modules) (file k)) k.initializers)
        by false k ks later = later

        go : (ks : List PlannedModule) → method_in (members_in (module_among (map (source_of modules ps) ks) f) box) (entry_name m) ≡ None
        go [] = refl
        go (k ∷ ks) = by (is_same_text f (file k)) k ks (go ks)
