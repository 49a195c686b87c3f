-- Terms: the trees of the IR as plain data, one constructor a form.
use Rattle.std.specs.Prelude.{ℕ, ℤ, Bool, List}
use Rattle.sj_names.specs.declared.method_names.MethodName.{MethodName}
use Rattle.sj_names.specs.declared.method_names.Namespace.{Namespace}
use Rattle.sj_names.specs.declared.references.ArrayRef.{ArrayRef}
use Rattle.sj_trees.specs.declared.operators.BinaryOp.{BinaryOp}
use Rattle.sj_trees.specs.declared.operators.UnaryOp.{UnaryOp}
use Rattle.sj_trees.specs.declared.positions.Position.{Position}
use Rattle.sj_trees.specs.declared.types.IrType.{IrType}

mutual
  -- a tree: its position, and then its parts in the order of the file format
  pub data Term : Type 0 where
    var_def : Position → List ℕ → IrType → Bool → Term → Term
    skip : Position → Term
    block_of : Position → Terms → Term
    labeled : Position → List ℕ → IrType → Term → Term
    assign : Position → Term → Term → Term
    return_to : Position → Term → List ℕ → Term
    if_then : Position → Term → Term → Term → IrType → Term
    while_loop : Position → Term → Term → Term
    do_while : Position → Term → Term → Term
    try_catch : Position → Term → List ℕ → Term → IrType → Term
    try_finally : Position → Term → Term → Term
    throw : Position → Term → Term
    match_on : Position → Term → Cases → Term → IrType → Term
    new_object : Position → List ℕ → MethodName → Terms → Term
    load_module : Position → List ℕ → Term
    store_module : Position → List ℕ → Term → Term
    select : Position → Term → List ℕ → List ℕ → IrType → Term
    select_static : Position → List ℕ → List ℕ → IrType → Term
    apply : Position → Term → MethodName → Terms → IrType → Term
    apply_statically : Position → Term → List ℕ → Namespace → MethodName → Terms → IrType → Term
    apply_static : Position → List ℕ → Namespace → MethodName → Terms → IrType → Term
    unary_op : Position → UnaryOp → Term → Term
    binary_op : Position → BinaryOp → Term → Term → Term
    new_array : Position → ArrayRef → Term → Term
    array_value : Position → ArrayRef → Terms → Term
    array_length : Position → Term → Term
    array_select : Position → Term → Term → IrType → Term
    is_instance_of : Position → Term → IrType → Term
    as_instance_of : Position → Term → IrType → Term
    undefined_literal : Position → Term
    null_literal : Position → Term
    boolean_literal : Position → Bool → Term
    char_literal : Position → ℕ → Term
    byte_literal : Position → ℤ → Term
    short_literal : Position → ℤ → Term
    int_literal : Position → ℤ → Term
    long_literal : Position → ℤ → Term
    string_literal : Position → List ℕ → Term
    var_ref : Position → List ℕ → IrType → Term
    this_ref : Position → IrType → Term
    log_line : Position → Term → Term

  -- a list of trees
  pub data Terms : Type 0 where
    no_terms : Terms
    more_terms : Term → Terms → Terms

  -- the cases of a match, each with its keys
  pub data Cases : Type 0 where
    no_cases : Cases
    more_cases : List ℤ → Term → Cases → Cases
