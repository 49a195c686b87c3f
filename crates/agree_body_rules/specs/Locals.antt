-- The locals that a tree defines, and those that are in scope.
use Rattle.std.specs.Prelude.{◌≡◌, ℕ, Bool, true, false, List, [], ◌∷◌, ◌⊎◌, Option, Some, None, nat_eq, if◌then◌else◌}
use Rattle.std.specs.Cmp.Lexicographic.{pointwise}
use Rattle.sj_emit_expr_spec.specs.Desugar.{has_no_value}
use Rattle.sj_emit_expr_spec.specs.Plain.{is_among}
use Rattle.sj_trees.specs.declared.types.IrType.{IrType}
use Rattle.sj_trees.specs.declared.classes.ParamDef.{ParamDef}
use Rattle.sj_trees.specs.Term.{Term, Terms, no_terms, more_terms, Cases, no_cases, more_cases, var_def, block_of, labeled, assign, return_to, if_then, while_loop, do_while, try_catch, try_finally, match_on, throw, new_object, new_array, array_value, array_length, array_select, select, apply, apply_statically, apply_static, unary_op, binary_op, is_instance_of, as_instance_of, log_line, store_module}

abbrev mutual
  -- the locals that a tree of the forms that are built defines
  pub Own : Term → List ℕ → Type 0
  Own (var_def p x t b e) y = (x ≡ y) ⊎ Own e y
  Own (block_of p ts) y = OwnAll ts y
  Own (labeled p l t e) y = Own e y
  Own (assign p (select q d c f t) e) y = Own d y ⊎ Own e y
  Own (assign p (array_select q d i t) e) y = Own d y ⊎ (Own i y ⊎ Own e y)
  Own (assign p d e) y = Own e y
  Own (throw p e) y = Own e y
  Own (return_to p e l) y = Own e y
  Own (if_then p c a b t) y = Own c y ⊎ (Own a y ⊎ Own b y)
  Own (while_loop p c b) y = Own c y ⊎ Own b y
  Own (do_while p b c) y = Own b y ⊎ Own c y
  Own (try_catch p e x d t) y = (x ≡ y) ⊎ (Own e y ⊎ Own d y)
  Own (try_finally p e d) y = Own e y ⊎ Own d y
  Own (match_on p e cs d t) y = Own e y ⊎ (OwnCases cs y ⊎ Own d y)
  Own (new_object p c m ts) y = OwnAll ts y
  Own (store_module p c e) y = Own e y
  Own (select p e c f t) y = Own e y
  Own (apply p e m ts t) y = Own e y ⊎ OwnAll ts y
  Own (apply_statically p e c n m ts t) y = Own e y ⊎ OwnAll ts y
  Own (apply_static p c n m ts t) y = OwnAll ts y
  Own (unary_op p o e) y = Own e y
  Own (new_array p r e) y = Own e y
  Own (array_value p r ts) y = OwnAll ts y
  Own (array_length p e) y = Own e y
  Own (array_select p e i t) y = Own e y ⊎ Own i y
  Own (is_instance_of p e t) y = Own e y
  Own (as_instance_of p e t) y = Own e y
  Own (binary_op p o e d) y = Own e y ⊎ Own d y
  Own (log_line p e) y = Own e y
  Own _ y = ⊥

  pub OwnAll : Terms → List ℕ → Type 0
  OwnAll no_terms y = ⊥
  OwnAll (more_terms t ts) y = Own t y ⊎ OwnAll ts y

  pub OwnCases : Cases → List ℕ → Type 0
  OwnCases no_cases y = ⊥
  OwnCases (more_cases ks t cs) y = Own t y ⊎ OwnCases cs y

abbrev pub IsParameter : List ParamDef → List ℕ → Type 0
IsParameter [] x = ⊥
IsParameter (d ∷ ds) x = (x ≡ d.name) ⊎ IsParameter ds x

-- the locals in scope, each with its type
abbrev pub Scope : Type 1
Scope = List ℕ → IrType → Type 0

-- a local that is defined, and those in scope but for others of its name
abbrev pub with_local : List ℕ → IrType → Scope → Scope
with_local x t scope y i = ((y ≡ x) × (i ≡ t)) ⊎ ((y ≡ x → ⊥) × scope y i)

-- the parameters in scope, each with its type
abbrev pub parameters_of : List ParamDef → Scope
parameters_of [] x t = ⊥
parameters_of (d ∷ ds) x t = with_local d.name d.tpe (parameters_of ds) x t

-- the innermost local of a name
abbrev pub local_of : List ParamDef → List ℕ → Option ParamDef
local_of [] x = None
local_of (d ∷ ds) x = if pointwise nat_eq x d.name then Some d else local_of ds x

-- a type of which there are values
abbrev pub HasValue : IrType → Type 0
HasValue t = has_no_value t ≡ false

-- every local in scope has a type with values
abbrev pub HaveValues : List ParamDef → Type 0
HaveValues ds = (x : List ℕ) (d : ParamDef) → local_of ds x ≡ Some d → HasValue d.tpe

-- each that is mutable is taken for it
abbrev pub AreMutable : (List ℕ → Bool) → List ParamDef → Type 0
AreMutable is_mutable ds = (x : List ℕ) (d : ParamDef) → local_of ds x ≡ Some d → d.«mutable» ≡ true → is_mutable x ≡ true

-- what is put in front is mutable
abbrev pub Mutable : (List ℕ → Bool) → (List (List ℕ) → List (List ℕ)) → Type 0
Mutable is_mutable f = (y : List ℕ) → is_among (f []) y ≡ true → is_mutable y ≡ true
