-- The rule that each form of tree has to meet in a world.
use Rattle.std.specs.Prelude.{◌≡◌, ◌⊎◌, ℕ, Bool, true, false, List, [], ◌∷◌, Option, Some, None, codes}
use Rattle.sj_names.specs.declared.method_names.Namespace.{Namespace}
use Rattle.sj_names.specs.declared.method_names.Namespace.TheVariants.{Public, PublicStatic, Private, PrivateStatic, Constructor}
use Rattle.sj_names.specs.declared.references.TypeRef.{TypeRef}
use Rattle.sj_trees.specs.declared.classes.FieldDef.{FieldDef}
use Rattle.sj_trees.specs.declared.operators.BinaryOp.{BinaryOp}
use Rattle.sj_trees.specs.declared.operators.BinaryOp.TheVariants as binary
use Rattle.sj_trees.specs.declared.operators.UnaryOp.{UnaryOp}
use Rattle.sj_trees.specs.declared.operators.UnaryOp.TheVariants as unary
use Rattle.sj_trees.specs.declared.types.IrType.{IrType}
use Rattle.sj_trees.specs.declared.types.IrType.TheVariants as type
use Rattle.sj_trees.specs.Term.{Term, Terms, Cases, no_terms, more_terms, no_cases, more_cases, var_def, skip, block_of, labeled, assign, return_to, if_then, while_loop, do_while, try_catch, try_finally, throw, match_on, new_object, load_module, store_module, select, select_static, apply, apply_statically, apply_static, unary_op, binary_op, new_array, array_value, array_length, array_select, is_instance_of, as_instance_of, undefined_literal, null_literal, boolean_literal, char_literal, byte_literal, short_literal, int_literal, long_literal, string_literal, var_ref, this_ref, log_line}
use Rattle.sj_trees.specs.TypeOf.{type_of_term}
use Rattle.sj_trees.specs.Types.{class_type, element_type, reference_type}
use Rattle.sj_ask.specs.Known.{Name, Classes}
use Rattle.sj_ask.specs.Subtypes.{IsSub}
use Rattle.sj_ask.specs.Members.{IsFieldOf}
use Rattle.sj_typing_spec.specs.declared.labels.Label.{Label}
use Rattle.sj_typing_spec.specs.Labels.{type_of_label}

-- e fits T: its type is a subtype of T
abbrev pub Fits : Classes → Term → IrType → Type 0
Fits w e t = IsSub w (type_of_term e) t

-- e yields T: there is no value to yield, or e fits T
pub data Yields (w : Classes) (e : Term) (t : IrType) : Type 0 where
  nothing_wanted : t ≡ type.NoType → Yields w e t
  fitting : Fits w e t → Yields w e t

-- each fits T
abbrev pub AllFit : Classes → Terms → IrType → Type 0
AllFit w no_terms t = Unit {0}
AllFit w (more_terms e es) t = Fits w e t × AllFit w es t

-- the tree of each case yields T
abbrev pub CasesYield : Classes → Cases → IrType → Type 0
CasesYield w no_cases t = Unit {0}
CasesYield w (more_cases keys e cs) t = Yields w e t × CasesYield w cs t

-- arguments are as many as the parameters, and fit their types
abbrev pub ArgumentsFit : Classes → Terms → List TypeRef → Type 0
ArgumentsFit w no_terms [] = Unit {0}
ArgumentsFit w (more_terms e es) (r ∷ rs) = Fits w e (reference_type r) × ArgumentsFit w es rs
ArgumentsFit w _ _ = ⊥

-- the type of a call: that of its result, and any for a reflective call
abbrev pub call_type : Option TypeRef → IrType
call_type None = type.Any
call_type (Some r) = reference_type r

-- the field has this type
pub record HasFieldType (w : Classes) (c name : Name) (mark : Bool) (t : IrType) : Type 0 where
  pub field : FieldDef
  pub is_field : IsFieldOf w c name mark field
  pub type_is : field.tpe ≡ t

-- This, in a constructor of the class: its type is that of the class
abbrev pub IsOwn : Namespace → Term → Name → Type 0
IsOwn Constructor (this_ref p t) c = t ≡ class_type c
IsOwn _ _ c = ⊥

-- the field is mutable
pub record IsMutable (w : Classes) (c name : Name) (mark : Bool) : Type 0 where
  pub field : FieldDef
  pub is_field : IsFieldOf w c name mark field
  pub mutable : field.mutable ≡ true

-- what may be assigned to: a field is mutable, or stands on This in a constructor of its class
abbrev pub MaySet : Classes → Namespace → Term → Type 0
MaySet w space (select p e c f t) = IsMutable w c f false ⊎ IsOwn space e c
MaySet w space (select_static p c f t) = IsMutable w c f true
MaySet w space _ = Unit {0}

pub record ReturnsTo (w : Classes) (ls : List Label) (l : List ℕ) (e : Term) : Type 0 where
  pub tpe : IrType
  pub is_type : type_of_label ls l ≡ Some tpe
  pub yields : Yields w e tpe

abbrev pub IsStatic : Namespace → Type 0
IsStatic PublicStatic = Unit {0}
IsStatic PrivateStatic = Unit {0}
IsStatic _ = ⊥

-- a call of a constructor is on This, and no call here is static
abbrev pub IsReceiver : Namespace → Term → Type 0
IsReceiver Public e = Unit {0}
IsReceiver Private e = Unit {0}
IsReceiver Constructor (this_ref p t) = Unit {0}
IsReceiver _ _ = ⊥

-- a receiver isn't null, nothing or without a type
abbrev pub HasReceiver : IrType → Type 0
HasReceiver type.Null = ⊥
HasReceiver type.Nothing = ⊥
HasReceiver type.NoType = ⊥
HasReceiver _ = Unit {0}

-- a type to which a value is cast
abbrev pub IsCastType : IrType → Type 0
IsCastType type.Nothing = ⊥
IsCastType type.Null = ⊥
IsCastType type.NoType = ⊥
IsCastType _ = Unit {0}

-- a type that a value is tested for
abbrev pub IsTestType : IrType → Type 0
IsTestType type.Any = ⊥
IsTestType t = IsCastType t

abbrev pub IsArray : IrType → Type 0
IsArray (type.Array r) = Unit {0}
IsArray _ = ⊥

-- an array whose items have this type
abbrev pub HasItems : IrType → IrType → Type 0
HasItems (type.Array r) t = element_type r ≡ t
HasItems _ t = ⊥

-- what joins to a text: nothing, a primitive type, or `java.lang.String`
abbrev pub IsText : IrType → Type 0
IsText type.Any = ⊥
IsText type.NoType = ⊥
IsText (type.Array r) = ⊥
IsText (type.Class c) = c ≡ codes "java.lang.String"
IsText _ = Unit {0}

-- the type of an operand
abbrev pub unary_operand : UnaryOp → IrType
unary_operand unary.BooleanNot = type.Boolean
unary_operand unary.CharToInt = type.Char
unary_operand unary.ByteToInt = type.Byte
unary_operand unary.ShortToInt = type.Short
unary_operand unary.IntToLong = type.Int
unary_operand unary.IntToChar = type.Int
unary_operand unary.IntToByte = type.Int
unary_operand unary.IntToShort = type.Int
unary_operand unary.LongToInt = type.Long

-- the type of both operands, and for a shift of a long that of the left one; the operands of a join have a rule of their own
abbrev pub left_operand : BinaryOp → IrType
left_operand binary.StrictEqual = type.Any
left_operand binary.StrictNotEqual = type.Any
left_operand binary.StringConcatenate = type.Any
left_operand binary.BooleanEqual = type.Boolean
left_operand binary.BooleanNotEqual = type.Boolean
left_operand binary.BooleanOr = type.Boolean
left_operand binary.BooleanAnd = type.Boolean
left_operand binary.IntAdd = type.Int
left_operand binary.IntSubtract = type.Int
left_operand binary.IntMultiply = type.Int
left_operand binary.IntDivide = type.Int
left_operand binary.IntRemainder = type.Int
left_operand binary.IntOr = type.Int
left_operand binary.IntAnd = type.Int
left_operand binary.IntXor = type.Int
left_operand binary.IntShiftLeft = type.Int
left_operand binary.IntShiftRightLogical = type.Int
left_operand binary.IntShiftRightArithmetic = type.Int
left_operand binary.IntEqual = type.Int
left_operand binary.IntNotEqual = type.Int
left_operand binary.IntLess = type.Int
left_operand binary.IntLessOrEqual = type.Int
left_operand binary.IntGreater = type.Int
left_operand binary.IntGreaterOrEqual = type.Int
left_operand binary.LongAdd = type.Long
left_operand binary.LongSubtract = type.Long
left_operand binary.LongMultiply = type.Long
left_operand binary.LongDivide = type.Long
left_operand binary.LongRemainder = type.Long
left_operand binary.LongOr = type.Long
left_operand binary.LongAnd = type.Long
left_operand binary.LongXor = type.Long
left_operand binary.LongShiftLeft = type.Long
left_operand binary.LongShiftRightLogical = type.Long
left_operand binary.LongShiftRightArithmetic = type.Long
left_operand binary.LongEqual = type.Long
left_operand binary.LongNotEqual = type.Long
left_operand binary.LongLess = type.Long
left_operand binary.LongLessOrEqual = type.Long
left_operand binary.LongGreater = type.Long
left_operand binary.LongGreaterOrEqual = type.Long

-- a long is shifted by an int
abbrev pub right_operand : BinaryOp → IrType
right_operand binary.LongShiftLeft = type.Int
right_operand binary.LongShiftRightLogical = type.Int
right_operand binary.LongShiftRightArithmetic = type.Int
right_operand o = left_operand o

abbrev pub OperandsFit : Classes → BinaryOp → Term → Term → Type 0
OperandsFit w binary.StringConcatenate a b = IsText (type_of_term a) × IsText (type_of_term b)
OperandsFit w o a b = Fits w a (left_operand o) × Fits w b (right_operand o)

-- the rule of each form, for a tree with these labels around it in a method of this namespace
abbrev pub Meets : Classes → Namespace → List Label → Term → Type 0
Meets w space ls (var_def p x t m e) = Fits w e t
Meets w space ls (skip p) = Unit {0}
Meets w space ls (block_of p es) = Unit {0}
Meets w space ls (labeled p l t e) = Yields w e t
Meets w space ls (assign p e d) = MaySet w space e × Fits w d (type_of_term e)
Meets w space ls (return_to p e l) = ReturnsTo w ls l e
Meets w space ls (if_then p c e d t) = Fits w c type.Boolean × Yields w e t × Yields w d t
Meets w space ls (while_loop p c e) = Fits w c type.Boolean
Meets w space ls (do_while p e c) = Fits w c type.Boolean
Meets w space ls (try_catch p e x d t) = Yields w e t × Yields w d t
Meets w space ls (try_finally p e d) = Unit {0}
Meets w space ls (throw p e) = Fits w e type.Any
Meets w space ls (match_on p s cs d t) = Fits w s type.Int × CasesYield w cs t × Yields w d t
Meets w space ls (new_object p c k es) = (k.simple ≡ codes "<init>") × ArgumentsFit w es k.params
Meets w space ls (load_module p c) = Unit {0}
Meets w space ls (store_module p c e) = Fits w e (class_type c)
Meets w space ls (select p e c f t) = Fits w e (class_type c) × HasFieldType w c f false t
Meets w space ls (select_static p c f t) = HasFieldType w c f true t
Meets w space ls (apply p e k es t) = HasReceiver (type_of_term e) × (t ≡ call_type k.result) × ArgumentsFit w es k.params
Meets w space ls (apply_statically p e c s k es t) = IsReceiver s e × (t ≡ call_type k.result) × Fits w e (class_type c) × ArgumentsFit w es k.params
Meets w space ls (apply_static p c s k es t) = IsStatic s × (t ≡ call_type k.result) × ArgumentsFit w es k.params
Meets w space ls (unary_op p o e) = Fits w e (unary_operand o)
Meets w space ls (binary_op p o a b) = OperandsFit w o a b
Meets w space ls (new_array p r e) = Fits w e type.Int
Meets w space ls (array_value p r es) = AllFit w es (element_type r)
Meets w space ls (array_length p e) = IsArray (type_of_term e)
Meets w space ls (array_select p e i t) = HasItems (type_of_term e) t × Fits w i type.Int
Meets w space ls (is_instance_of p e t) = IsTestType t × Fits w e type.Any
Meets w space ls (as_instance_of p e t) = IsCastType t × Fits w e type.Any
Meets w space ls (undefined_literal p) = Unit {0}
Meets w space ls (null_literal p) = Unit {0}
Meets w space ls (boolean_literal p v) = Unit {0}
Meets w space ls (char_literal p v) = Unit {0}
Meets w space ls (byte_literal p v) = Unit {0}
Meets w space ls (short_literal p v) = Unit {0}
Meets w space ls (int_literal p v) = Unit {0}
Meets w space ls (long_literal p v) = Unit {0}
Meets w space ls (string_literal p u) = Unit {0}
Meets w space ls (var_ref p x t) = Unit {0}
Meets w space ls (this_ref p t) = Unit {0}
Meets w space ls (log_line p e) = Fits w e type.String
