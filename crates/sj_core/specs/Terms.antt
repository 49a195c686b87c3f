-- The terms of the core: methods whose statements and expressions are apart, without pointers.
use Rattle.std.specs.Prelude.{ℕ, ℤ, Bool, List, Option}
use Rattle.sj_names.specs.declared.method_names.Member.{Member}
use Rattle.sj_names.specs.declared.method_names.Namespace.{Namespace}
use Rattle.sj_names.specs.declared.references.ArrayRef.{ArrayRef}
use Rattle.sj_core.specs.declared.callees.Callee.{Callee}
use Rattle.sj_trees.specs.declared.operators.BinaryOp.{BinaryOp}
use Rattle.sj_trees.specs.declared.operators.UnaryOp.{UnaryOp}
use Rattle.sj_trees.specs.declared.positions.Position.{Position}
use Rattle.sj_trees.specs.declared.types.IrType.{IrType}

-- a variable of the IR by its name, one by its number, which holds an operand, or the one that holds This
pub data Variable : Type 0 where
  named : List ℕ → Variable
  numbered : ℕ → Variable
  receiver : Variable

mutual
  -- among them a field of an object, a static field, the one object of a class, a value that isn't null, an object of the member's class on which that constructor ran, a call of the
  -- callee on a receiver, whether a value is of a type, a value cast to a type, a new array of this length, one with these items, the length of an array, and the element of one at an
  -- index
  pub data Expression : Type 0 where
    undefined_value : Expression
    null_value : Expression
    boolean_value : Bool → Expression
    number_value : ℤ → Expression
    long_value : ℤ → Expression
    text_value : List ℕ → Expression
    variable_use : Variable → Expression
    boxed_char : Expression → Expression
    char_text : Expression → Expression
    value_text : Expression → Expression
    choice_of : Expression → Expression → Expression → Expression
    static_call : Member → Expressions → Expression
    field_of : Expression → List ℕ → List ℕ → Expression
    static_of : List ℕ → List ℕ → Expression
    module_of : List ℕ → Expression
    checked_value : Expression → Expression
    made_of : Member → Expressions → Expression
    receiver_call : Callee → Expression → Expressions → Expression
    test_of : IrType → Expression → Expression
    cast_of : IrType → Expression → Expression
    new_array_of : ArrayRef → Expression → Expression
    array_of : ArrayRef → Expressions → Expression
    length_of : Expression → Expression
    element_of : Expression → Expression → Expression
    unary_of : UnaryOp → Expression → Expression
    binary_of : BinaryOp → Expression → Expression → Expression

  pub data Expressions : Type 0 where
    no_expressions : Expressions
    expression : Expression → Expressions → Expressions

-- where a statement comes from: the position of a tree, if its line has one
abbrev pub Origin : Type 0
Origin = Option Position

mutual
  -- where an element of an array is set: the type of the elements, the array, the index and the value
  pub data Statement : Type 0 where
    constant_of : Origin → Variable → Expression → Statement
    define_of : Origin → Variable → Expression → Statement
    declare_of : Origin → Variable → Statement
    assign_to : Origin → Variable → Expression → Statement
    evaluate_of : Origin → Expression → Statement
    return_of : Origin → Expression → Statement
    log_of : Origin → Expression → Statement
    assign_field : Origin → Expression → List ℕ → List ℕ → Expression → Statement
    assign_static : Origin → List ℕ → List ℕ → Expression → Statement
    assign_element : Origin → IrType → Expression → Expression → Expression → Statement
    store_module_of : Origin → List ℕ → Expression → Statement
    throw_of : Origin → Expression → Statement
    leave_label : Origin → List ℕ → Statement
    break_nearest : Origin → Statement
    if_of : Origin → Expression → Statements → Statements → Statement
    while_of : Origin → Expression → Statements → Statement
    loop_of : Origin → Statements → Statement
    labeled_of : Origin → List ℕ → Statements → Statement
    switch_of : Origin → Expression → Cases → Statements → Statement
    try_of : Origin → Statements → Variable → Statements → Statement
    finally_of : Origin → Statements → Statements → Statement

  pub data Statements : Type 0 where
    no_statements : Statements
    statement : Statement → Statements → Statements

  -- the cases of a switch before its default: keys and statements
  pub data Cases : Type 0 where
    no_cases : Cases
    switch_case : List ℤ → Statements → Cases → Cases

pub record Method : Type 0 where
  pub namespace : Namespace
  pub params : List (List ℕ)
  pub body : Statements

-- the one and behind them the others
abbrev pub followed : Statements → Statements → Statements
followed no_statements ts = ts
followed (statement s ss) ts = statement s (followed ss ts)
