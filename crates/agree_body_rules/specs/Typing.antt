-- The rules of bodies, in one statement: each tree meets the rule of its form, is of the forms that are built, and finds what it uses around it.
use Rattle.std.specs.Prelude.{◌≡◌, ℕ, ◌^◌, ◌<◌, ◌≤◌, true, List, [], ◌∷◌, ◌⊎◌, FitsSigned, Some, Bool, ◌||◌, false}
use Rattle.std.specs.Int.{w32, w64}
use Rattle.agree_body_forms.specs.Built.{Usable, stands, is_built_method}
use Rattle.sj_emit_expr_spec.specs.Templates.{check_name}
use Rattle.sj_names.specs.declared.method_names.Namespace.{Namespace}
use Rattle.sj_names.specs.declared.method_names.Namespace.TheVariants.{PublicStatic, PrivateStatic}
use Rattle.sj_emit_expr_spec.specs.Sure.{is_sure, sure_locals}
use Rattle.sj_names.specs.declared.references.ArrayRef.{ArrayRef}
use Rattle.sj_names.specs.declared.references.TypeRef.{TypeRef}
use Rattle.agree_body_rules.specs.Locals.{Own, OwnAll, local_of, HasValue}
use Rattle.sj_trees.specs.TypeOf.{type_of_term}
use Rattle.sj_trees.specs.Term.{Term, Terms, no_terms, more_terms, Cases, no_cases, more_cases, var_def, block_of, labeled, assign, return_to, if_then, while_loop, do_while, try_catch, try_finally, match_on, throw, new_object, new_array, array_value, array_length, array_select, select, select_static, apply, apply_statically, this_ref, apply_static, unary_op, binary_op, is_instance_of, as_instance_of, boolean_literal, char_literal, byte_literal, short_literal, int_literal, long_literal, var_ref, log_line, store_module}
use Rattle.sj_trees.specs.Types.{class_type, reference_type}
use Rattle.sj_trees.specs.declared.classes.MethodDef.{MethodDef}
use Rattle.sj_trees.specs.declared.classes.ParamDef.{ParamDef}
use Rattle.sj_trees.specs.declared.positions.Position.{Position}
use Rattle.sj_trees.specs.declared.types.IrType.{IrType}
use Rattle.sj_trees.specs.declared.types.IrType.TheVariants.{Array, NoType, Any}
use Rattle.sj_emit_expr_spec.specs.Known.{Classes}
use Rattle.agree_body_forms.specs.Label.{Label}
use Rattle.agree_body_forms.specs.Nodes.{inside}
use Rattle.agree_body_forms.specs.Rules.{Meets, Yields}

-- what a tree stands in: the class and the namespace of its method, the locals of the body that are never null, the locals in scope, the innermost first, and
-- the labels around it, the innermost last
pub record Scene : Type 0 where
  pub owner : List ℕ
  pub space : Namespace
  pub sure : List ℕ → Bool
  pub locals : List ParamDef
  pub labels : List Label

-- none, or a type of which there are values
abbrev pub IsResult : IrType → Type 0
IsResult t = (t ≡ NoType) ⊎ HasValue t

-- each parameter has values
abbrev pub AllHaveValues : List TypeRef → Type 0
AllHaveValues [] = Unit {0}
AllHaveValues (r ∷ rs) = HasValue (reference_type r) × AllHaveValues rs

-- a local in scope, with its type; and one that is mutable
pub record IsLocal (s : Scene) (x : List ℕ) (t : IrType) : Type 0 where
  pub local : ParamDef
  pub is : local_of s.locals x ≡ Some local
  pub type_is : local.tpe ≡ t

pub record IsVariable (s : Scene) (x : List ℕ) (t : IrType) : Type 0 where
  pub local : ParamDef
  pub is : local_of s.locals x ≡ Some local
  pub type_is : local.tpe ≡ t
  pub mutable : local.mutable ≡ true

pub data IsTrueLiteral : Term → Type 0 where
  true_literal : (p : Position) → IsTrueLiteral (boolean_literal p true)

-- what a statement of a block defines for those behind it
abbrev pub Defines : Term → List ℕ → Type 0
Defines (var_def p x t b e) y = x ≡ y
Defines _ y = ⊥

abbrev pub behind : Term → Scene → Scene
behind (var_def p x t b e) s = record { owner = s.owner; space = s.space; sure = s.sure; locals = record { name = x; «mutable» = b; tpe = t } ∷ s.locals; labels = s.labels }
behind _ s = s

-- in a handler, what is caught is a local that isn't mutable
abbrev pub catching : List ℕ → Scene → Scene
catching x s = record { owner = s.owner; space = s.space; sure = s.sure; locals = record { name = x; «mutable» = false; tpe = Any } ∷ s.locals; labels = s.labels }

abbrev pub in_label : List ℕ → IrType → Scene → Scene
in_label l t s = record { owner = s.owner; space = s.space; sure = s.sure; locals = s.locals; labels = inside l t s.labels }

-- a method that runs on an object
abbrev pub RunsOnObject : Namespace → Type 0
RunsOnObject PublicStatic = ⊥
RunsOnObject PrivateStatic = ⊥
RunsOnObject _ = Unit {0}

-- a receiver that is never null or whose null check can be used
abbrev pub may_check : Usable → (List ℕ → Bool) → Term → Bool
may_check has sure e = is_sure sure e || has.helper check_name

-- the body of a method is of the forms that are built, by what it can use
abbrev pub is_built_with : Usable → MethodDef → Term → Bool
is_built_with has d e = is_built_method has (may_check has (sure_locals e)) d e

-- from 1 to 255 dimensions
abbrev pub HasDimensions : ArrayRef → Type 0
HasDimensions r = (1 ≤ r.dimensions) × (r.dimensions ≤ 255)

abbrev pub AreDimensions : IrType → Type 0
AreDimensions (Array r) = HasDimensions r
AreDimensions t = Unit {0}

-- what a tree asks of its surroundings: that a local which it uses is in scope, and one which it defines isn't defined in it again, nor one that holds what is caught in its handler; that there are values where
-- they are handed over; and that numbers are those of their types, those of dimensions among them
abbrev pub Finds : Scene → Term → Type 0
Finds s (var_def p x t b e) = HasValue t × (Own e x → ⊥)
Finds s (assign p (var_ref q x t) e) = IsVariable s x t
Finds s (assign p (array_select q d i t) e) = AreDimensions (type_of_term d)
Finds s (try_catch p e x d t) = Own d x → ⊥
Finds s (new_object p c m ts) = AllHaveValues m.params
Finds s (new_array p r e) = HasDimensions r
Finds s (array_value p r ts) = HasDimensions r
Finds s (array_select p e i t) = AreDimensions (type_of_term e)
Finds s (is_instance_of p e t) = AreDimensions t
Finds s (as_instance_of p e t) = AreDimensions t
Finds s (apply p e m ts t) = AllHaveValues m.params
Finds s (apply_statically p e c n m ts t) = AllHaveValues m.params
Finds s (apply_static p c n m ts t) = AllHaveValues m.params
Finds s (char_literal p u) = u < 2 ^ 16
Finds s (byte_literal p z) = FitsSigned w32 z
Finds s (short_literal p z) = FitsSigned w32 z
Finds s (int_literal p z) = FitsSigned w32 z
Finds s (long_literal p z) = FitsSigned w64 z
Finds s (var_ref p x t) = IsLocal s x t
Finds s (this_ref p t) = RunsOnObject s.space × (t ≡ class_type s.owner)
Finds s _ = Unit {0}

module _ (w : Classes) (has : Usable) where
  -- what is asked at a tree, beside what is asked at those in it
  pub record Here (s : Scene) (t : Term) : Type 0 where
    pub meets : Meets w s.space s.labels t
    pub built : stands has (may_check has s.sure) t ≡ true
    pub finds : Finds s t

  abbrev mutual
    pub Typed : Scene → Term → Type 0
    Typed s (var_def p x t b e) = Here s (var_def p x t b e) × Typed s e
    Typed s (block_of p ts) = TypedBlock s ts
    Typed s (labeled p l t e) = Here s (labeled p l t e) × Typed (in_label l t s) e
    Typed s (assign p (var_ref q x t) e) = Here s (assign p (var_ref q x t) e) × Typed s e
    Typed s (assign p (select q d c f t) e) = Here s (assign p (select q d c f t) e) × Typed s (select q d c f t) × Typed s e
    Typed s (assign p (select_static q c f t) e) = Here s (assign p (select_static q c f t) e) × Meets w s.space s.labels (select_static q c f t) × Typed s e
    Typed s (assign p (array_select q d i t) e) = Here s (assign p (array_select q d i t) e) × Meets w s.space s.labels (array_select q d i t) × Typed s d × Typed s i × Typed s e
    Typed s (return_to p e l) = Here s (return_to p e l) × Typed s e
    Typed s (if_then p c a b t) = Here s (if_then p c a b t) × Typed s c × Typed s a × Typed s b
    Typed s (while_loop p c b) = Here s (while_loop p c b) × Typed s c × Typed s b
    Typed s (do_while p b c) = Here s (do_while p b c) × Typed s b × Typed s c
    Typed s (try_catch p e x d t) = Here s (try_catch p e x d t) × Typed s e × Typed (catching x s) d
    Typed s (try_finally p e d) = Here s (try_finally p e d) × Typed s e × Typed s d
    Typed s (throw p e) = Here s (throw p e) × Typed s e
    Typed s (match_on p e cs d t) = Here s (match_on p e cs d t) × Typed s e × TypedCases s t cs × Typed s d
    Typed s (new_object p c m ts) = Here s (new_object p c m ts) × TypedAll s ts
    Typed s (store_module p c e) = Here s (store_module p c e) × Typed s e
    Typed s (select p e c f t) = Here s (select p e c f t) × Typed s e
    Typed s (apply p e m ts t) = Here s (apply p e m ts t) × Typed s e × TypedAll s ts
    Typed s (apply_statically p e c n m ts t) = Here s (apply_statically p e c n m ts t) × Typed s e × TypedAll s ts
    Typed s (apply_static p c n m ts t) = Here s (apply_static p c n m ts t) × TypedAll s ts
    Typed s (unary_op p o e) = Here s (unary_op p o e) × Typed s e
    Typed s (binary_op p o e d) = Here s (binary_op p o e d) × Typed s e × Typed s d
    Typed s (new_array p r e) = Here s (new_array p r e) × Typed s e
    Typed s (array_value p r ts) = Here s (array_value p r ts) × TypedAll s ts
    Typed s (array_length p e) = Here s (array_length p e) × Typed s e
    Typed s (array_select p e i t) = Here s (array_select p e i t) × Typed s e × Typed s i
    Typed s (is_instance_of p e t) = Here s (is_instance_of p e t) × Typed s e
    Typed s (as_instance_of p e t) = Here s (as_instance_of p e t) × Typed s e
    Typed s (log_line p e) = Here s (log_line p e) × Typed s e
    -- a tree with none in it that is built
    Typed s t = Here s t

    -- a block isn't empty, and what a statement defines no later one defines again
    pub TypedBlock : Scene → Terms → Type 0
    TypedBlock s no_terms = ⊥
    TypedBlock s (more_terms t no_terms) = Typed s t
    TypedBlock s (more_terms t (more_terms u us)) = Typed s t × ((x : List ℕ) → Defines t x → OwnAll (more_terms u us) x → ⊥) × TypedBlock (behind t s) (more_terms u us)

    pub TypedAll : Scene → Terms → Type 0
    TypedAll s no_terms = Unit {0}
    TypedAll s (more_terms t ts) = Typed s t × TypedAll s ts

    -- a case without keys isn't chosen
    pub TypedCases : Scene → IrType → Cases → Type 0
    TypedCases s t no_cases = Unit {0}
    TypedCases s t (more_cases [] e cs) = TypedCases s t cs
    TypedCases s t (more_cases (n ∷ ns) e cs) = Yields w e t × Typed s e × TypedCases s t cs
