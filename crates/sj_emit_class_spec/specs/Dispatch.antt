-- The functions that tell primitive receivers apart.
use Rattle.std.specs.Prelude.{◌≡◌, ℕ, List, [], ◌∷◌, ◌++◌, Contains, codes, map}
use Rattle.std.specs.List.{flat_map}
use Rattle.js_tree.specs.Terms.{Name, Expression, expression, text_literal, call_of, method_call_of, binary_of, Statement, Statements, expression_statement, return_of, if_only, Item, function_item, Piece}
use Rattle.js_tree.specs.Views.{statements_of}
use Rattle.js_tree.specs.declared.operators.BinaryOperator.TheVariants.{In}
use Rattle.js_tree.specs.declared.items.Binding.{Binding}
use Rattle.sj_mangling.specs.Bindings.{method_binding}
use Rattle.sj_mangling.specs.declared.bindings.MethodBinding.TheVariants.{Dispatch, Reflective}
use Rattle.sj_names.specs.declared.method_names.MethodName.{MethodName}
use Rattle.sj_baselink_spec.specs.Fact.{Fact}
use Rattle.sj_baselink_spec.specs.FactVariants as facts
use Rattle.sj_baselink_spec.specs.Known.{Classes}
use Rattle.sj_baselink_spec.specs.Calls.{IsProxyTarget}
use Rattle.sj_trees.specs.declared.classes.MethodDef.{MethodDef}
use Rattle.sj_emit_class_spec.specs.Pieces.{boxed_result, box_uses}
use Rattle.sj_emit_expr_spec.specs.Uses.{once_each}
use Rattle.sj_names.specs.MethodNames.{spelled_method}
use Rattle.sj_baselink_spec.specs.Entries.{IsTarget}
use Rattle.sj_baselink_spec.specs.Rules.{public_member}
use Rattle.sj_emit_help_spec.specs.Words.{kind_class, is_name, told_kinds, entry_name, public_function, parameters_of, units_of, uses, x, call1, only_return, has_word, both, bound, helper, object_class}
use Rattle.sj_emit_help_spec.specs.declared.kinds.Kind.{Kind}

-- a kind of receivers, and the class whose body a call runs for it
pub record Told : Type 0 where
  pub kind : Kind
  pub owner : Name

-- `if ($isX(x)) { return f_O__m(x, a0, ..); }`
abbrev pub told_case : MethodName → Told → Statement
told_case m t = if_only (call1 (is_name t.kind) x) (only_return (call_of (public_function t.owner m) (expression x (uses (parameters_of m)))))

-- a case each, and last the object's own entry
abbrev pub dispatch_body : MethodName → List Told → Statements
dispatch_body m ts = statements_of (map (told_case m) ts ++ return_of (method_call_of x (entry_name m) (uses (parameters_of m))) ∷ [])

abbrev pub dispatch_name : MethodName → Name
dispatch_name = method_binding Dispatch

-- `function d_m(x, a0, ..) { .. }`
abbrev pub dispatch_item : MethodName → List Told → Item
dispatch_item m ts = function_item (dispatch_name m) (codes "x" ∷ parameters_of m) (dispatch_body m ts)

abbrev pub told_uses : MethodName → Told → List Binding
told_uses m t = helper (is_name t.kind) ∷ bound t.owner (public_function t.owner m) ∷ []

-- a call of m on a value of this class runs the body of this owner, and the body is needed
pub record IsReachedTarget (w : Classes) (known : List Fact) (c : Name) (m : MethodName) (owner : Name) : Type 0 where
  pub is_target : IsTarget w c m owner
  pub reached : Contains known (facts.Body (public_member owner m))

-- the kinds of these, in order, whose classes have a reached target for m, each with its owner
pub data AreTold (w : Classes) (known : List Fact) (m : MethodName) : List Kind → List Told → Type 0 where
  told_none : AreTold w known m [] []
  told : (k : Kind) (ks : List Kind) (owner : Name) (ts : List Told) → AreTold w known m ks ts → IsReachedTarget w known (kind_class k) m owner → AreTold w known m (ks ++ k ∷ []) (ts ++ record { kind = k; owner = owner } ∷ [])
  untold : (k : Kind) (ks : List Kind) (ts : List Told) → AreTold w known m ks ts → ((owner : Name) → IsReachedTarget w known (kind_class k) m owner → ⊥) → AreTold w known m (ks ++ k ∷ []) ts

-- the function with its cases
abbrev pub dispatch_piece : MethodName → List Told → Piece
dispatch_piece m ts = record { owner = object_class; name = dispatch_name m; uses = once_each [] (flat_map (told_uses m) ts); item = dispatch_item m ts }

-- the piece of `d_m`
pub record IsDispatchPiece (w : Classes) (known : List Fact) (m : MethodName) (piece : Piece) : Type 0 where
  pub cases : List Told
  pub are_told : AreTold w known m told_kinds cases
  pub piece_is : piece ≡ dispatch_piece m cases

-- a kind, the class whose body a reflective call runs for it, and the name of the method that it reaches
pub record Reflected : Type 0 where
  pub kind : Kind
  pub owner : Name
  pub method : MethodName

-- `if ($isX(x)) { return f_O__t(x, a0, ..); }`, a char boxed
abbrev pub reflected_case : MethodName → Reflected → Statement
reflected_case p t = if_only (call1 (is_name t.kind) x) (only_return (boxed_result t.method (call_of (public_function t.owner t.method) (expression x (uses (parameters_of p))))))

-- `if ((((typeof x) === "object") && ("m_p" in x))) { return x.m_p(a0, ..); }`
abbrev pub has_entry : MethodName → Expression
has_entry p = both (has_word (codes "object") x) (binary_of (text_literal (entry_name p)) In x)

abbrev pub own_case : MethodName → Statement
own_case p = if_only (has_entry p) (only_return (method_call_of x (entry_name p) (uses (parameters_of p))))

-- a case each, then the object's own entry of the name, and where it has none the exception, with the name as its message
abbrev pub reflected_body : MethodName → List ℕ → List Reflected → Statements
reflected_body p message ts = statements_of (map (reflected_case p) ts ++ own_case p ∷ expression_statement (call1 (codes "$nme") (text_literal message)) ∷ [])

abbrev pub reflective_name : MethodName → Name
reflective_name = method_binding Reflective

abbrev pub reflective_item : MethodName → List ℕ → List Reflected → Item
reflective_item p message ts = function_item (reflective_name p) (codes "x" ∷ parameters_of p) (reflected_body p message ts)

abbrev pub reflected_uses : Reflected → List Binding
reflected_uses t = helper (is_name t.kind) ∷ box_uses t.method ++ bound t.owner (public_function t.owner t.method) ∷ []

-- a reflective call of p on a value of this class reaches t, and a call of t the body of this owner, which is reached
pub record IsReflectedTarget (w : Classes) (known : List Fact) (c : Name) (p t : MethodName) (owner : Name) : Type 0 where
  pub definition : MethodDef
  pub declared_by : Name
  pub proxy : IsProxyTarget w c p definition declared_by
  pub method_is : t ≡ definition.name
  pub target : IsReachedTarget w known c t owner

pub data AreReflected (w : Classes) (known : List Fact) (p : MethodName) : List Kind → List Reflected → Type 0 where
  reflected_none : AreReflected w known p [] []
  reflected : (k : Kind) (ks : List Kind) (t : MethodName) (owner : Name) (ts : List Reflected) → AreReflected w known p ks ts → IsReflectedTarget w known (kind_class k) p t owner → AreReflected w known p (ks ++ k ∷ []) (ts ++ record { kind = k; owner = owner; method = t } ∷ [])
  unreflected : (k : Kind) (ks : List Kind) (ts : List Reflected) → AreReflected w known p ks ts → ((t : MethodName) (owner : Name) → IsReflectedTarget w known (kind_class k) p t owner → ⊥) → AreReflected w known p (ks ++ k ∷ []) ts

-- the function with its cases
abbrev pub reflective_piece : MethodName → List Reflected → Piece
reflective_piece p ts = record { owner = object_class; name = reflective_name p; uses = once_each [] (flat_map reflected_uses ts ++ helper (codes "$nme") ∷ []); item = reflective_item p (units_of (spelled_method p)) ts }

-- the piece of `r_p`
pub record IsReflectivePiece (w : Classes) (known : List Fact) (p : MethodName) (piece : Piece) : Type 0 where
  pub cases : List Reflected
  pub are_reflected : AreReflected w known p told_kinds cases
  pub piece_is : piece ≡ reflective_piece p cases
