-- The constants and the class of a class that is live are among its pieces, and what the class uses.
use Rattle.std.proofs.Common.{◌≡◌, ◌++◌, ◌||◌, ◌⊎◌, Bool, true, List, [], ◌∷◌, Option, Some, inl, inr, sym, subst}
use Rattle.std.specs.List.{Contains}
use Rattle.std.proofs.lemmas.List.Elements.{Contains-append_left, Contains-append_right, Contains-append_cases}
use Rattle.object_helpers.proofs.Given.{IsKept, kept}
use Rattle.sj_emit_help_spec.specs.Words.{class_name, bound, all_kinds}
use Rattle.js_tree.specs.Terms.{Name, Piece}
use Rattle.js_tree.specs.declared.items.Binding.{Binding}
use Rattle.file_declarations.specs.Pieces.{Parts, pieces, when, constants_piece, class_piece, own_constants, uses_of_entries, parent_uses, class_uses, constants_of, class_of, all_statics, variable_piece, setter_piece, cell_piece, load_piece, store_piece, cell_pieces, module_of, test_piece, kind_of_class, cast_piece, tests_of}
use Rattle.sj_emit_expr_spec.specs.Uses.{once_each}
use Rattle.sj_names.proofs.Same.{impossible}
use Rattle.file_declarations.specs.Classes.{AreReached, none_yet, reached, other}
use Rattle.sj_split.proofs.Members.{at_first, further, cons_cases}
use Rattle.sj_trees.specs.declared.classes.FieldDef.{FieldDef}
use Rattle.sj_world.specs.declared.facts.Fact.{Fact}
use Rattle.sj_world.specs.declared.facts.Fact.TheVariants.{NeededField}
use Rattle.worklist.proofs.Inserted.{nothing_in}
use Rattle.sj_world.specs.declared.linked.MethodEntry.{MethodEntry}

module _ (p : Parts) (live : p.is_live ≡ true) where
  abbrev front : List Piece
  front = constants_of p ++ class_of p

  in_front : (q : Piece) → Contains front q → Contains (pieces p) q
  in_front q i =
      Contains-append_left (front ++ all_statics p.class.name p.statics ++ module_of p) (tests_of p) q
      (Contains-append_left (front ++ all_statics p.class.name p.statics) (module_of p) q
      (Contains-append_left front (all_statics p.class.name p.statics) q i))

  pub constants_there : Contains (pieces p) (constants_piece p.class.name p.ancestors)
  constants_there = in_front (constants_piece p.class.name p.ancestors) (Contains-append_left (constants_of p) (class_of p) (constants_piece p.class.name p.ancestors) (subst (λ (b : Bool). Contains (when (b || p.is_base) (constants_piece p.class.name p.ancestors ∷ [])) (constants_piece p.class.name p.ancestors)) (sym live) (at_first (constants_piece p.class.name p.ancestors) [])))

  abbrev pub its_class : Piece
  its_class = class_piece p.class.name p.class.superclass p.entries p.fields

  pub class_there : Contains (pieces p) its_class
  class_there = in_front its_class (Contains-append_right (constants_of p) (class_of p) its_class (subst (λ (b : Bool). Contains (when b (its_class ∷ [])) its_class) (sym live) (at_first its_class [])))

-- the constants of a class that is live or named as the base of arrays, among its pieces
pub constants_among : (p : Parts) → (p.is_live || p.is_base) ≡ true → Contains (pieces p) (constants_piece p.class.name p.ancestors)
constants_among p h =
    let own : Piece = constants_piece p.class.name p.ancestors in
    Contains-append_left (constants_of p ++ class_of p ++ all_statics p.class.name p.statics ++ module_of p) (tests_of p) own
    (Contains-append_left (constants_of p ++ class_of p ++ all_statics p.class.name p.statics) (module_of p) own
    (Contains-append_left (constants_of p ++ class_of p) (all_statics p.class.name p.statics) own
    (Contains-append_left (constants_of p) (class_of p) own (subst (λ (b : Bool). Contains (when b (own ∷ [])) own) (sym h) (at_first own [])))))

-- the test of a class, and the cast to it, among its pieces
abbrev before_tests : Parts → List Piece
before_tests p = constants_of p ++ class_of p ++ all_statics p.class.name p.statics ++ module_of p

pub test_among : (p : Parts) → (p.is_tested || p.is_cast) ≡ true → Contains (pieces p) (test_piece p.class.name p.instances (kind_of_class p.class.name all_kinds))
test_among p h =
    let test : Piece = test_piece p.class.name p.instances (kind_of_class p.class.name all_kinds) in
    Contains-append_right (before_tests p) (tests_of p) test (Contains-append_left (when (p.is_tested || p.is_cast) (test ∷ [])) (when p.is_cast (cast_piece p.class.name ∷ [])) test (subst (λ (t : Bool). Contains (when t (test ∷ [])) test) (sym h) (at_first test [])))

pub cast_among : (p : Parts) → p.is_cast ≡ true → Contains (pieces p) (cast_piece p.class.name)
cast_among p h =
    let test : Piece = test_piece p.class.name p.instances (kind_of_class p.class.name all_kinds) in
    let casts : Piece = cast_piece p.class.name in
    Contains-append_right (before_tests p) (tests_of p) casts (Contains-append_right (when (p.is_tested || p.is_cast) (test ∷ [])) (when p.is_cast (casts ∷ [])) casts (subst (λ (t : Bool). Contains (when t (casts ∷ [])) casts) (sym h) (at_first casts [])))

-- the cell of a module that is loaded or stored, the function that stores it, and for one that is loaded the function that loads it
pub cell_among : (p : Parts) → (p.is_loaded || p.is_stored) ≡ true → (q : Piece) → Contains (cell_pieces p.class.name p.is_loaded) q → Contains (pieces p) q
cell_among p h q i =
    Contains-append_left (constants_of p ++ class_of p ++ all_statics p.class.name p.statics ++ module_of p) (tests_of p) q
    (Contains-append_right (constants_of p ++ class_of p ++ all_statics p.class.name p.statics) (module_of p) q
    (subst (λ (t : Bool). Contains (when t (cell_pieces p.class.name p.is_loaded)) q) (sym h) i))

pub cell_there : (c : Name) (loaded : Bool) → Contains (cell_pieces c loaded) (cell_piece c)
cell_there c loaded = at_first (cell_piece c) (when loaded (load_piece c ∷ []) ++ store_piece c ∷ [])

pub storer_there : (c : Name) (loaded : Bool) → Contains (cell_pieces c loaded) (store_piece c)
storer_there c loaded = further (cell_piece c) (store_piece c) (when loaded (load_piece c ∷ []) ++ store_piece c ∷ []) (Contains-append_right (when loaded (load_piece c ∷ [])) (store_piece c ∷ []) (store_piece c) (at_first (store_piece c) []))

pub loader_there : (c : Name) (loaded : Bool) → loaded ≡ true → Contains (cell_pieces c loaded) (load_piece c)
loader_there c loaded h = subst (λ (t : Bool). Contains (cell_pieces c t) (load_piece c)) (sym h) (further (cell_piece c) (load_piece c) (load_piece c ∷ store_piece c ∷ []) (at_first (load_piece c) (store_piece c ∷ [])))

-- and so are the variables of the static fields that are reached, and the functions that set them
pub statics_among : (p : Parts) (q : Piece) → Contains (all_statics p.class.name p.statics) q → Contains (pieces p) q
statics_among p q i =
    Contains-append_left (constants_of p ++ class_of p ++ all_statics p.class.name p.statics ++ module_of p) (tests_of p) q
    (Contains-append_left (constants_of p ++ class_of p ++ all_statics p.class.name p.statics) (module_of p) q
    (Contains-append_right (constants_of p ++ class_of p) (all_statics p.class.name p.statics) q i))

pub in_statics : (c : Name) (fs : List FieldDef) (d : FieldDef) → Contains fs d → Contains (all_statics c fs) (variable_piece c d) × Contains (all_statics c fs) (setter_piece c d)
in_statics c [] d i = nothing_in d i
in_statics c (f ∷ fs) d i = go (cons_cases f d fs i) (in_statics c fs d)
  where
    behind : (q : Piece) → Contains (all_statics c fs) q → Contains (all_statics c (f ∷ fs)) q
    behind q j = further (variable_piece c f) q (setter_piece c f ∷ all_statics c fs) (further (setter_piece c f) q (all_statics c fs) j)

    go : (f ≡ d) ⊎ Contains fs d → (Contains fs d → Contains (all_statics c fs) (variable_piece c d) × Contains (all_statics c fs) (setter_piece c d)) → Contains (all_statics c (f ∷ fs)) (variable_piece c d) × Contains (all_statics c (f ∷ fs)) (setter_piece c d)
    go (inl same) later = subst (λ (x : FieldDef). Contains (all_statics c (f ∷ fs)) (variable_piece c x) × Contains (all_statics c (f ∷ fs)) (setter_piece c x)) same (at_first (variable_piece c f) (setter_piece c f ∷ all_statics c fs), further (variable_piece c f) (setter_piece c f) (setter_piece c f ∷ all_statics c fs) (at_first (setter_piece c f) (all_statics c fs)))
    go (inr rest) later = let both = later rest in (behind (variable_piece c d) both.0, behind (setter_piece c d) both.1)

-- a static field that is needed is reached
pub is_reached : (known : List Fact) (c : Name) (fs gs : List FieldDef) → AreReached known c fs gs → (d : FieldDef) → Contains fs d → d.is_static ≡ true → Contains known (NeededField c d.name true) → Contains gs d
is_reached known c _ _ none_yet d i mark need = nothing_in d i
is_reached known c _ _ (reached f fs gs h is_static there) d i mark need = elim (Contains-append_cases fs (f ∷ []) d i) [
  | inl first ↦ Contains-append_left gs (f ∷ []) d (is_reached known c fs gs h d first mark need)
  | inr last ↦ Contains-append_right gs (f ∷ []) d last
]
is_reached known c _ _ (other f fs gs h never) d i mark need = elim (Contains-append_cases fs (f ∷ []) d i) [
  | inl first ↦ is_reached known c fs gs h d first mark need
  | inr last ↦ elim (cons_cases f d [] last) [
    | inl same ↦ absurd (never (subst (λ (x : FieldDef). x.is_static ≡ true) (sym same) mark) (subst (λ (x : FieldDef). Contains known (NeededField c x.name true)) (sym same) need))
    | inr none ↦ nothing_in d none
  ]
]

pub in_once : (bs : List Binding) (b : Binding) → Contains bs b → Contains (once_each [] bs) b
in_once bs b i = go (kept bs [] b i)
  where
    go : IsKept [] bs b → Contains (once_each [] bs) b
    go (inl h) = impossible h
    go (inr k) = k

-- a class uses its superclass
pub uses_superclass : (c s : Name) (superclass : Option Name) (es : List MethodEntry) → superclass ≡ Some s → Contains (once_each [] (class_uses c superclass es)) (bound s (class_name s))
uses_superclass c s superclass es e = in_once (class_uses c superclass es) (bound s (class_name s)) (Contains-append_left (parent_uses superclass) (own_constants c ∷ uses_of_entries es) (bound s (class_name s)) (subst (λ (o : Option Name). Contains (parent_uses o) (bound s (class_name s))) (sym e) (at_first (bound s (class_name s)) [])))

-- and its constants
pub uses_constants : (c : Name) (superclass : Option Name) (es : List MethodEntry) → Contains (once_each [] (class_uses c superclass es)) (own_constants c)
uses_constants c superclass es = in_once (class_uses c superclass es) (own_constants c) (Contains-append_right (parent_uses superclass) (own_constants c ∷ uses_of_entries es) (own_constants c) (at_first (own_constants c) (uses_of_entries es)))
