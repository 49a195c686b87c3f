-- What the types of the parts of a method say: names are texts of bytes, numbers have 32 bits, longs 64 and units 16.
use Rattle.std.specs.Prelude.{◌<◌, ◌^◌, ℕ, List, All, IfSome}
use Rattle.js_tree.specs.Rules.{IsNumber, IsBig, IsUnit}
use Rattle.sj_core.specs.declared.callees.Callee.{Callee}
use Rattle.sj_core.specs.declared.callees.Callee.TheVariants as callees
use Rattle.sj_core.specs.Terms.{Variable, named, numbered, receiver, Expression, number_value, long_value, text_value, variable_use, boxed_char, char_text, value_text, choice_of, static_call, field_of, static_of, module_of, checked_value, made_of, receiver_call, test_of, cast_of, new_array_of, array_of, length_of, element_of, unary_of, binary_of, Expressions, no_expressions, expression, Statement, constant_of, define_of, declare_of, assign_to, evaluate_of, return_of, log_of, assign_field, assign_static, assign_element, store_module_of, throw_of, leave_label, break_nearest, if_of, while_of, loop_of, labeled_of, switch_of, try_of, finally_of, Statements, no_statements, statement, Cases, no_cases, switch_case, Method}
use Rattle.sj_names.specs.declared.method_names.Member.{Member}
use Rattle.sj_names.specs.declared.method_names.MethodName.{MethodName}
use Rattle.sj_names.specs.declared.references.ArrayRef.{ArrayRef}
use Rattle.sj_names.specs.declared.references.BaseRef.{BaseRef}
use Rattle.sj_names.specs.declared.references.BaseRef.TheVariants as bases
use Rattle.sj_names.specs.declared.references.TypeRef.{TypeRef}
use Rattle.sj_names.specs.declared.references.TypeRef.TheVariants as types
use Rattle.sj_trees.specs.declared.types.IrType.{IrType}
use Rattle.sj_trees.specs.declared.types.IrType.TheVariants.{Class, Array}

abbrev pub AreBytes : List ℕ → Type 0
AreBytes text = All (λ byte. byte < 2 ^ 8) text

abbrev pub FitsBase : BaseRef → Type 0
FitsBase (bases.Class name) = AreBytes name
FitsBase _ = Unit {0}

-- at most 255 dimensions
abbrev pub FitsArray : ArrayRef → Type 0
FitsArray array = (array.dimensions < 2 ^ 8) × FitsBase array.base

abbrev pub FitsReference : TypeRef → Type 0
FitsReference (types.Class name) = AreBytes name
FitsReference (types.Array array) = FitsBase array.base
FitsReference _ = Unit {0}

abbrev pub FitsType : IrType → Type 0
FitsType (Class name) = AreBytes name
FitsType (Array array) = FitsArray array
FitsType _ = Unit {0}

abbrev pub FitsMethodName : MethodName → Type 0
FitsMethodName m = AreBytes m.simple × All FitsReference m.params × IfSome m.result FitsReference

abbrev pub FitsMember : Member → Type 0
FitsMember m = AreBytes m.class × FitsMethodName m.method

abbrev pub FitsCallee : Callee → Type 0
FitsCallee (callees.Member m) = FitsMember m
FitsCallee (callees.LookedUp c m) = AreBytes c × FitsMethodName m
FitsCallee (callees.OfArray m) = FitsMethodName m
FitsCallee (callees.Reflective m) = FitsMethodName m

abbrev pub FitsVariable : Variable → Type 0
FitsVariable (named x) = AreBytes x
FitsVariable (numbered n) = Unit {0}
FitsVariable receiver = Unit {0}

abbrev mutual
  pub FitsExpression : Expression → Type 0
  FitsExpression (number_value z) = IsNumber z
  FitsExpression (long_value z) = IsBig z
  FitsExpression (text_value us) = All IsUnit us
  FitsExpression (variable_use x) = FitsVariable x
  FitsExpression (boxed_char e) = FitsExpression e
  FitsExpression (char_text e) = FitsExpression e
  FitsExpression (value_text e) = FitsExpression e
  FitsExpression (choice_of c e g) = FitsExpression c × FitsExpression e × FitsExpression g
  FitsExpression (static_call m es) = FitsMember m × FitExpressions es
  FitsExpression (field_of e c f) = FitsExpression e × AreBytes c × AreBytes f
  FitsExpression (static_of c f) = AreBytes c × AreBytes f
  FitsExpression (module_of c) = AreBytes c
  FitsExpression (checked_value e) = FitsExpression e
  FitsExpression (made_of m es) = FitsMember m × FitExpressions es
  FitsExpression (receiver_call k e es) = FitsCallee k × FitsExpression e × FitExpressions es
  FitsExpression (test_of t e) = FitsType t × FitsExpression e
  FitsExpression (cast_of t e) = FitsType t × FitsExpression e
  FitsExpression (new_array_of r e) = FitsArray r × FitsExpression e
  FitsExpression (array_of r es) = FitsArray r × FitExpressions es
  FitsExpression (length_of e) = FitsExpression e
  FitsExpression (element_of e i) = FitsExpression e × FitsExpression i
  FitsExpression (unary_of o e) = FitsExpression e
  FitsExpression (binary_of o e g) = FitsExpression e × FitsExpression g
  FitsExpression _ = Unit {0}

  pub FitExpressions : Expressions → Type 0
  FitExpressions no_expressions = Unit {0}
  FitExpressions (expression e es) = FitsExpression e × FitExpressions es

abbrev mutual
  pub FitsStatement : Statement → Type 0
  FitsStatement (constant_of p x e) = FitsVariable x × FitsExpression e
  FitsStatement (define_of p x e) = FitsVariable x × FitsExpression e
  FitsStatement (declare_of p x) = FitsVariable x
  FitsStatement (assign_to p x e) = FitsVariable x × FitsExpression e
  FitsStatement (evaluate_of p e) = FitsExpression e
  FitsStatement (return_of p e) = FitsExpression e
  FitsStatement (log_of p e) = FitsExpression e
  FitsStatement (assign_field p e c f g) = FitsExpression e × AreBytes c × AreBytes f × FitsExpression g
  FitsStatement (assign_static p c f e) = AreBytes c × AreBytes f × FitsExpression e
  FitsStatement (assign_element p t e i g) = FitsExpression e × FitsExpression i × FitsExpression g
  FitsStatement (store_module_of p c e) = AreBytes c × FitsExpression e
  FitsStatement (throw_of p e) = FitsExpression e
  FitsStatement (leave_label p l) = AreBytes l
  FitsStatement (break_nearest p) = Unit {0}
  FitsStatement (if_of p c ss ts) = FitsExpression c × FitStatements ss × FitStatements ts
  FitsStatement (while_of p c ss) = FitsExpression c × FitStatements ss
  FitsStatement (loop_of p ss) = FitStatements ss
  FitsStatement (labeled_of p l ss) = AreBytes l × FitStatements ss
  FitsStatement (switch_of p e cs ss) = FitsExpression e × FitCases cs × FitStatements ss
  FitsStatement (try_of p ss x ts) = FitStatements ss × FitsVariable x × FitStatements ts
  FitsStatement (finally_of p ss ts) = FitStatements ss × FitStatements ts

  pub FitStatements : Statements → Type 0
  FitStatements no_statements = Unit {0}
  FitStatements (statement s ss) = FitsStatement s × FitStatements ss

  pub FitCases : Cases → Type 0
  FitCases no_cases = Unit {0}
  FitCases (switch_case ks ss cs) = All IsNumber ks × FitStatements ss × FitCases cs

abbrev pub FitsMethod : Method → Type 0
FitsMethod m = All AreBytes m.params × FitStatements m.body
