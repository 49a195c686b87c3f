-- The pieces of classes keep the rules of printing.
use Rattle.std.proofs.Common.{ℕ, ◌<◌, ◌^◌, Bool, List, [], ◌∷◌, ◌++◌, Option, Some, None, refl, arith, map, ◌||◌}
use Rattle.std.specs.Prelude.{codes, All, IfSome}
use Rattle.std.specs.List.{flat_map, list_any}
use Rattle.std.proofs.lemmas.List.Elements.{All-nil, All-cons, All-head, All-tail, All-append}
use Rattle.sj_emit_class_printing.specs.Fits.{FitsEntry, FitsField, FitParts, FitTold, FitReflected}
use Rattle.sj_emit_class_printing.proofs.Named.{choose, class-named, field-named, property-named, marker-named, entry-named, entry-units, method-named, marker-units, parameters-named}
use Rattle.sj_emit_expr_pieces.proofs.Units.{text-units}
use Rattle.sj_emit_help_spec.specs.Helpers.{constants, own_marker, marker_property}
use Rattle.sj_emit_help_spec.specs.Words.{uses, x, parameters_of, is_name as test_name, all_kinds, units_of, helper, bound, call1}
use Rattle.sj_emit_help_spec.specs.declared.kinds.Kind.{Kind}
use Rattle.sj_emit_help_spec.specs.declared.kinds.Kind.TheVariants as kinds
use Rattle.js_tree.specs.Rules.{IsName, IsUnit, IsExpression, IsExpressions, IsStatement, AreStatements, IsObjectProperty, IsMember, IsItem, IsBinding, IsPiece}
use Rattle.js_tree.specs.Terms.{object_item, Name, Expression, expression, call_of, text_literal, Statement, expression_statement, Member, Piece}
use Rattle.js_tree.specs.Views.{statements_of}
use Rattle.js_tree.specs.declared.items.Binding.{Binding}
use Rattle.sj_emit_class_spec.specs.Dispatch as dispatch
use Rattle.sj_emit_class_spec.specs.Pieces as pieces
use Rattle.sj_emit_class_spec.specs.Pieces.{Parts}
use Rattle.sj_emit_expr_spec.specs.Uses.{once_each, is_same_binding}
use Rattle.sj_emit_expr_spec.specs.Templates.{member_name}
use Rattle.sj_mangling.specs.Bindings.{class_binding, field_binding, function_name}
use Rattle.sj_mangling.specs.declared.bindings.ClassBinding.TheVariants as classes
use Rattle.sj_mangling.specs.declared.bindings.FieldBinding.TheVariants as fields
use Rattle.sj_mangling.specs.declared.bindings.MethodBinding.TheVariants as methods
use Rattle.sj_names.specs.MethodNames.{spelled_method}
use Rattle.sj_names.specs.declared.method_names.MethodName.{MethodName}
use Rattle.sj_names.specs.declared.method_names.Namespace.TheVariants.{Public, Constructor}
use Rattle.sj_emit_expr_pieces.specs.Ranges.{AreBytes, FitsReference, FitsMethodName}
use Rattle.sj_emit_expr_pieces.proofs.Names.{member-named, spelled-bytes}
use Rattle.sj_trees.specs.declared.classes.FieldDef.{FieldDef}
use Rattle.sj_trees.specs.declared.types.IrType.{IrType}
use Rattle.sj_trees.specs.declared.types.IrType.TheVariants as Types
use Rattle.sj_world.specs.declared.linked.MethodEntry.{MethodEntry}

abbrev IsByte : ℕ → Type 0
IsByte b = b < 2 ^ 8

abbrev Named : List Binding → Type 0
Named bs = All IsBinding bs

none : Named []
none = All-nil IsBinding

one : (b : Binding) → IsName b.name → Named (b ∷ [])
one b h = All-cons IsBinding b [] h none

once-named : (seen bs : List Binding) → Named bs → Named (once_each seen bs)
once-named seen [] h = none
once-named seen (b ∷ bs) h =
    let rest = All-tail IsBinding b bs h in
    choose Named (list_any (is_same_binding b) seen) (once_each seen bs) (b ∷ once_each (b ∷ seen) bs) (once-named seen bs rest) (All-cons IsBinding b (once_each (b ∷ seen) bs) (All-head IsBinding b bs h) (once-named (b ∷ seen) bs rest))

-- each of the things that a list is made of
mapped : {X Y : Type 0} (P : X → Type 0) (Q : Y → Type 0) (f : X → Y) → ((x : X) → P x → Q (f x)) → (xs : List X) → All P xs → All Q (map f xs)
mapped P Q f each [] h = All-nil Q
mapped P Q f each (x ∷ xs) h = All-cons Q (f x) (map f xs) (each x (All-head P x xs h)) (mapped P Q f each xs (All-tail P x xs h))

flat : {X Y : Type 0} (P : X → Type 0) (Q : Y → Type 0) (f : X → List Y) → ((x : X) → P x → All Q (f x)) → (xs : List X) → All P xs → All Q (flat_map f xs)
flat P Q f each [] h = All-nil Q
flat P Q f each (x ∷ xs) h = All-append Q (f x) (flat_map f xs) (each x (All-head P x xs h)) (flat P Q f each xs (All-tail P x xs h))

uses-kept : (xs : List Name) → All IsName xs → IsExpressions (uses xs)
uses-kept [] h = tt
uses-kept (y ∷ ys) h = (All-head IsName y ys h, uses-kept ys (All-tail IsName y ys h))

statements-kept : (ss : List Statement) → All IsStatement ss → AreStatements (statements_of ss)
statements-kept [] h = tt
statements-kept (s ∷ ss) h = (All-head IsStatement s ss h, statements-kept ss (All-tail IsStatement s ss h))

-- constants
marker-kept : (c : Name) → AreBytes c → IsObjectProperty (marker_property c)
marker-kept c h = (marker-named c h, omega arith)

pub constants-item : (name c : Name) (above : List Name) → IsName name → AreBytes c → All AreBytes above → IsItem (object_item name (constants c above))
constants-item name c above n h k = (n, All-cons IsObjectProperty (own_marker c) (map marker_property above) (refl, marker-units c h) (mapped AreBytes IsObjectProperty marker_property marker-kept above k))

constants-kept : (c : Name) (above : List Name) → AreBytes c → All AreBytes above → IsPiece (pieces.constants_piece c above)
constants-kept c above h k = (class-named classes.Constants c h, none, constants-item (pieces.constants_piece c above).name c above (class-named classes.Constants c h) h k)

-- classes
boxed-kept : (m : MethodName) (e : Expression) → IsExpression e → IsExpression (pieces.boxed_result m e)
boxed-kept m e h = choose IsExpression (pieces.is_char m.result) (pieces.boxed e) e (refl, (h, tt)) h

entry-call-kept : (e : MethodEntry) → FitsEntry e → IsExpression (pieces.entry_call e)
entry-call-kept e h = choose IsExpression (pieces.is_proxy e) (pieces.proxy_call e) (pieces.direct_call e) (boxed-kept e.target.method _ (refl, tt, entry-named e.target.method h.1.1, uses-kept (parameters_of e.name) (parameters-named e.name))) (member-named e.target h.1, (tt, uses-kept (parameters_of e.name) (parameters-named e.name)))

entry-kept : (e : MethodEntry) → FitsEntry e → IsMember (pieces.entry_member e)
entry-kept e h = (entry-named e.name h.0, parameters-named e.name, (entry-call-kept e h, tt))

entry-used : (e : MethodEntry) → FitsEntry e → Named (pieces.entry_uses e)
entry-used e h = choose Named (pieces.is_proxy e) (pieces.box_uses e.target.method) _ (choose Named (pieces.is_char e.target.method.result) (helper (codes "$C") ∷ []) [] (one (helper (codes "$C")) refl) none) (one (bound e.target.class (member_name e.target)) (member-named e.target h.1))

zero-kept : (t : IrType) → IsExpression (pieces.zero_of t)
zero-kept Types.Char = omega arith
zero-kept Types.Byte = omega arith
zero-kept Types.Short = omega arith
zero-kept Types.Int = omega arith
zero-kept Types.Long = omega arith
zero-kept Types.String = All-nil IsUnit
zero-kept _ = tt

start-kept : (c : Name) → AreBytes c → (f : FieldDef) → FitsField f → IsStatement (pieces.field_start c f)
start-kept c h f k = (refl, tt, property-named c f.name h k, zero-kept f.tpe)

super-kept : (s : Option Name) → All IsStatement (pieces.start_of_super s)
super-kept None = All-nil IsStatement
super-kept (Some s) = All-cons IsStatement _ [] tt (All-nil IsStatement)

body-kept : (c : Name) (s : Option Name) (fs : List FieldDef) → AreBytes c → All FitsField fs → AreStatements (statements_of (pieces.constructor_body c s fs))
body-kept c s fs h k = statements-kept (pieces.constructor_body c s fs) (All-append IsStatement (pieces.start_of_super s) (pieces.set_constants c ∷ map (pieces.field_start c) fs) (super-kept s) (All-cons IsStatement (pieces.set_constants c) (map (pieces.field_start c) fs) (refl, tt, refl, class-named classes.Constants c h) (mapped FitsField IsStatement (pieces.field_start c) (start-kept c h) fs k)))

members-kept : (c : Name) (s : Option Name) (es : List MethodEntry) (fs : List FieldDef) → AreBytes c → All FitsEntry es → All FitsField fs → All IsMember (pieces.members c s es fs)
members-kept c s es fs h k l = All-cons IsMember _ (map pieces.entry_member es) (All-nil IsName, body-kept c s fs h l) (mapped FitsEntry IsMember pieces.entry_member entry-kept es k)

item-kept : (c : Name) (s : Option Name) (ms : List Member) → AreBytes c → IfSome s AreBytes → All IsMember ms → IsItem (pieces.class_item_of c s ms)
item-kept c None ms h k l = (class-named classes.Class c h, l)
item-kept c (Some s) ms h k l = (class-named classes.Class c h, class-named classes.Class s k, l)

parent-used : (s : Option Name) → IfSome s AreBytes → Named (pieces.parent_uses s)
parent-used None h = none
parent-used (Some s) h = one (bound s (class_binding classes.Class s)) (class-named classes.Class s h)

class-used : (c : Name) (s : Option Name) (es : List MethodEntry) → AreBytes c → IfSome s AreBytes → All FitsEntry es → Named (pieces.class_uses c s es)
class-used c s es h k l = All-append IsBinding (pieces.parent_uses s) (pieces.own_constants c ∷ pieces.uses_of_entries es) (parent-used s k) (All-cons IsBinding (pieces.own_constants c) (pieces.uses_of_entries es) (class-named classes.Constants c h) (flat FitsEntry IsBinding pieces.entry_uses entry-used es l))

class-kept : (c : Name) (s : Option Name) (es : List MethodEntry) (fs : List FieldDef) → AreBytes c → IfSome s AreBytes → All FitsEntry es → All FitsField fs → IsPiece (pieces.class_piece c s es fs)
class-kept c s es fs h k l m = (class-named classes.Class c h, once-named [] (pieces.class_uses c s es) (class-used c s es h k l), item-kept c s (pieces.members c s es fs) h k (members-kept c s es fs h l m))

-- setters, static fields and cells
set-kept : (c function variable : Name) → IsName function → IsName variable → IsPiece (pieces.set_piece c function variable)
set-kept c function variable h k = (h, one (bound c variable) k, (h, All-cons IsName (codes "x") [] refl (All-nil IsName), ((k, refl), tt)))

variable-kept : (c : Name) (f : FieldDef) → AreBytes c → FitsField f → IsPiece (pieces.variable_piece c f)
variable-kept c f h k = (field-named fields.Variable c f.name h k, none, (field-named fields.Variable c f.name h k, zero-kept f.tpe))

statics-kept : (c : Name) (fs : List FieldDef) → AreBytes c → All FitsField fs → All IsPiece (pieces.all_statics c fs)
statics-kept c [] h k = All-nil IsPiece
statics-kept c (f ∷ fs) h k =
    let own = All-head FitsField f fs k in
    All-cons IsPiece (pieces.variable_piece c f) (pieces.setter_piece c f ∷ pieces.all_statics c fs) (variable-kept c f h own) (All-cons IsPiece (pieces.setter_piece c f) (pieces.all_statics c fs) (set-kept c (field_binding fields.Setter c f.name) (field_binding fields.Variable c f.name) (field-named fields.Setter c f.name h own) (field-named fields.Variable c f.name h own)) (statics-kept c fs h (All-tail FitsField f fs k)))

init-named : (c : Name) → AreBytes c → IsName (pieces.init_name c)
init-named c h = member-named (record { class = c; namespace = Constructor; method = pieces.init }) (h, (init-bytes, All-nil FitsReference, tt))
  where
    init-bytes : AreBytes (codes "<init>")
    init-bytes = All-cons IsByte 60 (codes "init>") (omega arith) (All-cons IsByte 105 (codes "nit>") (omega arith) (All-cons IsByte 110 (codes "it>") (omega arith) (All-cons IsByte 105 (codes "t>") (omega arith) (All-cons IsByte 116 (codes ">") (omega arith) (All-cons IsByte 62 [] (omega arith) (All-nil IsByte))))))

cell-kept : (c : Name) → AreBytes c → IsPiece (pieces.cell_piece c)
cell-kept c h = (class-named classes.Instance c h, none, (class-named classes.Instance c h, tt))

load-kept : (c : Name) → AreBytes c → IsPiece (pieces.load_piece c)
load-kept c h =
    let cell = class-named classes.Instance c h in
    let fill : IsStatement (pieces.fill_cell c (class_binding classes.Instance c)) = ((cell, tt), ((refl, (init-named c h, ((class-named classes.Class c h, tt), tt))), ((cell, refl), tt))) in
    (class-named classes.LoadModule c h, All-cons IsBinding (bound c (class_binding classes.Instance c)) (bound c (pieces.init_name c) ∷ bound c (class_binding classes.Class c) ∷ []) cell (All-cons IsBinding (bound c (pieces.init_name c)) (bound c (class_binding classes.Class c) ∷ []) (init-named c h) (one (bound c (class_binding classes.Class c)) (class-named classes.Class c h))), (class-named classes.LoadModule c h, All-nil IsName, (fill, (cell, tt))))

when-kept : (b : Bool) (ps : List Piece) → All IsPiece ps → All IsPiece (pieces.when b ps)
when-kept b ps h = choose (All IsPiece) b ps [] h (All-nil IsPiece)

alone : (p : Piece) → IsPiece p → All IsPiece (p ∷ [])
alone p h = All-cons IsPiece p [] h (All-nil IsPiece)

cells-kept : (c : Name) (loaded : Bool) → AreBytes c → All IsPiece (pieces.cell_pieces c loaded)
cells-kept c loaded h = All-cons IsPiece (pieces.cell_piece c) (pieces.when loaded (pieces.load_piece c ∷ []) ++ pieces.store_piece c ∷ []) (cell-kept c h) (All-append IsPiece (pieces.when loaded (pieces.load_piece c ∷ [])) (pieces.store_piece c ∷ []) (when-kept loaded _ (alone _ (load-kept c h))) (alone _ (set-kept c (class_binding classes.StoreModule c) (class_binding classes.Instance c) (class-named classes.StoreModule c h) (class-named classes.Instance c h))))

-- tests and casts
test-named : (k : Kind) → IsName (test_name k)
test-named kinds.Undefined = refl
test-named kinds.Boolean = refl
test-named kinds.Char = refl
test-named kinds.Byte = refl
test-named kinds.Short = refl
test-named kinds.Int = refl
test-named kinds.Long = refl
test-named kinds.Text = refl

kind-kept : (k : Kind) → IsExpression (pieces.kind_test k)
kind-kept k = (test-named k, (refl, tt))

joined-kept : (e : Expression) (ks : List Kind) → IsExpression e → IsExpression (pieces.joined e ks)
joined-kept e [] h = h
joined-kept e (k ∷ ks) h = joined-kept _ ks (h, kind-kept k)

any-kept : (ks : List Kind) (e : Expression) → IsExpression e → IsExpression (pieces.any_of ks e)
any-kept [] e h = h
any-kept (k ∷ ks) e h = (joined-kept (pieces.kind_test k) ks (kind-kept k), h)

has-marker-kept : (c : Name) → AreBytes c → IsExpression (pieces.has_marker c)
has-marker-kept c h = ((refl, word-units), (marker-units c h, (refl, refl, refl)))
  where
    word-units : All IsUnit (codes "object")
    word-units = All-cons IsUnit 111 (codes "bject") (omega arith) (All-cons IsUnit 98 (codes "ject") (omega arith) (All-cons IsUnit 106 (codes "ect") (omega arith) (All-cons IsUnit 101 (codes "ct") (omega arith) (All-cons IsUnit 99 (codes "t") (omega arith) (All-cons IsUnit 116 [] (omega arith) (All-nil IsUnit))))))

instance-kept : (c : Name) (ks : List Kind) (kind : Option Kind) → AreBytes c → IsExpression (pieces.instance_test c ks kind)
instance-kept c ks (Some k) h = kind-kept k
instance-kept c ks None h = ((refl, tt), any-kept ks _ (has-marker-kept c h))

kinds-used : (ks : List Kind) → Named (map pieces.test_binding ks)
kinds-used [] = none
kinds-used (k ∷ ks) = All-cons IsBinding (helper (test_name k)) (map pieces.test_binding ks) (test-named k) (kinds-used ks)

test-used : (ks : List Kind) (kind : Option Kind) → Named (pieces.test_uses ks kind)
test-used ks (Some k) = one (helper (test_name k)) (test-named k)
test-used ks None = kinds-used ks

only-x : All IsName (codes "x" ∷ [])
only-x = All-cons IsName (codes "x") [] refl (All-nil IsName)

test-kept : (c : Name) (ks : List Kind) (kind : Option Kind) → AreBytes c → IsPiece (pieces.test_piece c ks kind)
test-kept c ks kind h = (class-named classes.IsInstance c h, test-used ks kind, (class-named classes.IsInstance c h, only-x, (instance-kept c ks kind h, tt)))

cast-kept : (c : Name) → AreBytes c → All IsUnit (units_of c) → IsPiece (pieces.cast_piece c)
cast-kept c h k =
    let test = class-named classes.IsInstance c h in
    let value : IsExpression (pieces.cast_value c) = (((refl, tt), (test, (refl, tt))), refl, (refl, (k, tt))) in
    (class-named classes.AsInstance c h, All-cons IsBinding (bound c (class_binding classes.IsInstance c)) (helper (codes "$cce") ∷ []) test (one (helper (codes "$cce")) refl), (class-named classes.AsInstance c h, only-x, (value, tt)))

tests-kept : (p : Parts) → FitParts p → All IsPiece (pieces.tests_of p)
tests-kept p h =
    let test : Piece = pieces.test_piece p.class.name p.instances (pieces.kind_of_class p.class.name all_kinds) in
    let cast : Piece = pieces.cast_piece p.class.name in
    All-append IsPiece (pieces.when (p.is_tested || p.is_cast) (test ∷ [])) (pieces.when p.is_cast (cast ∷ [])) (when-kept (p.is_tested || p.is_cast) (test ∷ []) (alone test (test-kept p.class.name p.instances (pieces.kind_of_class p.class.name all_kinds) h.class))) (when-kept p.is_cast (cast ∷ []) (alone cast (cast-kept p.class.name h.class (text-units p.class.name h.class))))

module-kept : (p : Parts) → FitParts p → All IsPiece (pieces.module_of p)
module-kept p h = when-kept (p.is_loaded || p.is_stored) (pieces.cell_pieces p.class.name p.is_loaded) (cells-kept p.class.name p.is_loaded h.class)

constant-kept : (p : Parts) → FitParts p → All IsPiece (pieces.constants_of p)
constant-kept p h =
    let piece : Piece = pieces.constants_piece p.class.name p.ancestors in
    when-kept (p.is_live || p.is_base) (piece ∷ []) (alone piece (constants-kept p.class.name p.ancestors h.class h.ancestors))

own-class-kept : (p : Parts) → FitParts p → All IsPiece (pieces.class_of p)
own-class-kept p h =
    let piece : Piece = pieces.class_piece p.class.name p.class.superclass p.entries p.fields in
    when-kept p.is_live (piece ∷ []) (alone piece (class-kept p.class.name p.class.superclass p.entries p.fields h.class h.superclass h.entries h.fields))

pub pieces-kept : (p : Parts) → FitParts p → All IsPiece (pieces.pieces p)
pieces-kept p h =
    let classes_kept = All-append IsPiece (pieces.constants_of p) (pieces.class_of p) (constant-kept p h) (own-class-kept p h) in
    let statics = All-append IsPiece (pieces.constants_of p ++ pieces.class_of p) (pieces.all_statics p.class.name p.statics) classes_kept (statics-kept p.class.name p.statics h.class h.statics) in
    let modules = All-append IsPiece (pieces.constants_of p ++ pieces.class_of p ++ pieces.all_statics p.class.name p.statics) (pieces.module_of p) statics (module-kept p h) in
    All-append IsPiece (pieces.constants_of p ++ pieces.class_of p ++ pieces.all_statics p.class.name p.statics ++ pieces.module_of p) (pieces.tests_of p) modules (tests-kept p h)

-- the functions that tell primitive receivers apart
told-kept : (m : MethodName) → FitsMethodName m → (t : dispatch.Told) → FitTold t → IsStatement (dispatch.told_case m t)
told-kept m h t k = ((test-named t.kind, (refl, tt)), ((member-named (record { class = t.owner; namespace = Public; method = m }) (k, h), (refl, uses-kept (parameters_of m) (parameters-named m))), tt))

told-used : (m : MethodName) → FitsMethodName m → (t : dispatch.Told) → FitTold t → Named (dispatch.told_uses m t)
told-used m h t k = All-cons IsBinding (helper (test_name t.kind)) (bound t.owner (function_name Public t.owner m) ∷ []) (test-named t.kind) (one (bound t.owner (function_name Public t.owner m)) (member-named (record { class = t.owner; namespace = Public; method = m }) (k, h)))

pub dispatch-kept : (m : MethodName) (ts : List dispatch.Told) → FitsMethodName m → All FitTold ts → IsPiece (dispatch.dispatch_piece m ts)
dispatch-kept m ts h k = (method-named methods.Dispatch m h, once-named [] (flat_map (dispatch.told_uses m) ts) (flat FitTold IsBinding (dispatch.told_uses m) (told-used m h) ts k), (method-named methods.Dispatch m h, All-cons IsName (codes "x") (parameters_of m) refl (parameters-named m), statements-kept _ (All-append IsStatement (map (dispatch.told_case m) ts) _ (mapped FitTold IsStatement (dispatch.told_case m) (told-kept m h) ts k) (All-cons IsStatement _ [] (refl, refl, entry-named m h, uses-kept (parameters_of m) (parameters-named m)) (All-nil IsStatement)))))

reflected-kept : (p : MethodName) → (t : dispatch.Reflected) → FitReflected t → IsStatement (dispatch.reflected_case p t)
reflected-kept p t k = ((test-named t.kind, (refl, tt)), (boxed-kept t.method (call_of (function_name Public t.owner t.method) (expression x (uses (parameters_of p)))) (member-named (record { class = t.owner; namespace = Public; method = t.method }) k, (refl, uses-kept (parameters_of p) (parameters-named p))), tt))

reflected-used : (t : dispatch.Reflected) → FitReflected t → Named (dispatch.reflected_uses t)
reflected-used t k = All-cons IsBinding (helper (test_name t.kind)) (pieces.box_uses t.method ++ bound t.owner (function_name Public t.owner t.method) ∷ []) (test-named t.kind) (All-append IsBinding (pieces.box_uses t.method) (bound t.owner (function_name Public t.owner t.method) ∷ []) (choose Named (pieces.is_char t.method.result) (helper (codes "$C") ∷ []) [] (one (helper (codes "$C")) refl) none) (one (bound t.owner (function_name Public t.owner t.method)) (member-named (record { class = t.owner; namespace = Public; method = t.method }) k)))

object-units : All IsUnit (codes "object")
object-units = All-cons IsUnit 111 (codes "bject") (omega arith) (All-cons IsUnit 98 (codes "ject") (omega arith) (All-cons IsUnit 106 (codes "ect") (omega arith) (All-cons IsUnit 101 (codes "ct") (omega arith) (All-cons IsUnit 99 (codes "t") (omega arith) (All-cons IsUnit 116 [] (omega arith) (All-nil IsUnit))))))

own-kept : (p : MethodName) → FitsMethodName p → IsStatement (dispatch.own_case p)
own-kept p h = (((refl, object-units), (entry-units p h, refl)), ((refl, refl, entry-named p h, uses-kept (parameters_of p) (parameters-named p)), tt))

pub reflective-kept : (p : MethodName) (ts : List dispatch.Reflected) → FitsMethodName p → All FitReflected ts → IsPiece (dispatch.reflective_piece p ts)
reflective-kept p ts h k = (method-named methods.Reflective p h, once-named [] (flat_map dispatch.reflected_uses ts ++ helper (codes "$nme") ∷ []) (All-append IsBinding (flat_map dispatch.reflected_uses ts) (helper (codes "$nme") ∷ []) (flat FitReflected IsBinding dispatch.reflected_uses reflected-used ts k) (one (helper (codes "$nme")) refl)), (method-named methods.Reflective p h, All-cons IsName (codes "x") (parameters_of p) refl (parameters-named p), statements-kept _ (All-append IsStatement (map (dispatch.reflected_case p) ts) _ (mapped FitReflected IsStatement (dispatch.reflected_case p) (reflected-kept p) ts k) (All-cons IsStatement (dispatch.own_case p) (expression_statement (call1 (codes "$nme") (text_literal (units_of (spelled_method p)))) ∷ []) (own-kept p h) (All-cons IsStatement (expression_statement (call1 (codes "$nme") (text_literal (units_of (spelled_method p))))) [] (refl, (text-units (spelled_method p) (spelled-bytes p h), tt)) (All-nil IsStatement))))))
