-- The terms of the emitted subset: one constructor for each production, no pointers. Names, property names and files are their
-- bytes, strings their units, Numbers and BigInts integers.
use Rattle.std.specs.Prelude.{List, ℕ, ℤ, Bool}
use Rattle.js_tree.specs.declared.operators.BinaryOperator.{BinaryOperator}
use Rattle.js_tree.specs.declared.operators.UnaryOperator.{UnaryOperator}
use Rattle.js_tree.specs.declared.operators.HostFunction.{HostFunction}
use Rattle.js_tree.specs.declared.operators.HostOperation.{HostOperation}
use Rattle.js_tree.specs.declared.items.JsImport.{JsImport}
use Rattle.js_tree.specs.declared.items.Binding.{Binding}

-- a name, a property name, a file: its bytes
abbrev pub Name : Type 0
Name = List ℕ

mutual
  pub data Expression : Type 0 where
    null_literal : Expression
    boolean_literal : Bool → Expression
    undefined_literal : Expression
    number_literal : ℤ → Expression
    big_literal : ℤ → Expression
    text_literal : List ℕ → Expression
    name_use : Name → Expression
    this_use : Expression
    property_of : Expression → Name → Expression
    index_of : Expression → Expression → Expression
    call_of : Name → Expressions → Expression
    method_call_of : Expression → Name → Expressions → Expression
    new_of : Name → Expressions → Expression
    new_array_of : Expression → Expression
    list_of : Expressions → Expression
    binary_of : Expression → BinaryOperator → Expression → Expression
    unary_of : UnaryOperator → Expression → Expression
    conditional_of : Expression → Expression → Expression → Expression
    host_call : HostFunction → Expression → Expression
    host_call_of_two : HostOperation → Expression → Expression → Expression

  pub data Expressions : Type 0 where
    no_expressions : Expressions
    expression : Expression → Expressions → Expressions

mutual
  pub data Statement : Type 0 where
    const_of : Name → Expression → Statement
    let_of : Name → Expression → Statement
    declare_of : Name → Statement
    expression_statement : Expression → Statement
    assign_name : Name → Expression → Statement
    assign_property : Expression → Name → Expression → Statement
    assign_index : Expression → Expression → Expression → Statement
    super_call : Statement
    throw_of : Expression → Statement
    return_of : Expression → Statement
    break_nearest : Statement
    break_to : Name → Statement
    if_only : Expression → Statements → Statement
    if_else : Expression → Statements → Statements → Statement
    while_of : Expression → Statements → Statement
    do_forever : Statements → Statement
    labeled_of : Name → Statements → Statement
    try_catch : Statements → Name → Statements → Statement
    try_finally : Statements → Statements → Statement
    switch_on : Expression → Cases → Statements → Statement

  pub data Statements : Type 0 where
    no_statements : Statements
    statement : Statement → Statements → Statements

  -- the cases of a switch before its default: keys and block
  pub data Cases : Type 0 where
    no_cases : Cases
    switch_case : List ℤ → Statements → Cases → Cases

-- a property of an object literal
pub record Property : Type 0 where
  pub name : Name
  pub value : Expression

pub data Member : Type 0 where
  constructor_of : List Name → Statements → Member
  method_of : Name → List Name → Statements → Member

pub data Item : Type 0 where
  const_item : Name → Expression → Item
  object_item : Name → List Property → Item
  let_item : Name → Expression → Item
  expression_item : Expression → Item
  function_item : Name → List Name → Statements → Item
  class_item : Name → List Member → Item
  subclass_item : Name → Name → List Member → Item

pub record Piece : Type 0 where
  pub owner : Name
  pub name : Name
  pub uses : List Binding
  pub item : Item

pub record Module : Type 0 where
  pub imports : List JsImport
  pub items : List Item
  pub exports : List Name
