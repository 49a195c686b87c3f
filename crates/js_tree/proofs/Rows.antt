-- Texts of terms, by computation. (Digits do not compute here: the tests have terms with numbers.)
use Rattle.std.specs.Prelude.{◌≡◌, ℕ, true, false, List, [], ◌∷◌, codes, refl}
use Rattle.js_tree.specs.Terms.{boolean_literal, undefined_literal, null_literal, text_literal, this_use, name_use, method_call_of, unary_of, conditional_of, host_call, host_call_of_two, no_expressions, expression, break_to, expression_statement, return_of, while_of, labeled_of, try_finally, try_catch, throw_of, if_else, Statement, Statements, no_statements, statement, constructor_of, method_of, super_call, object_item, subclass_item}
use Rattle.js_tree.specs.Texts.{put_lines, put_item, expression_text, module_text}
use Rattle.js_tree.specs.Written.{put}
use Rattle.js_tree.specs.declared.operators.UnaryOperator.TheVariants.{TypeOf}
use Rattle.js_tree.specs.declared.operators.HostFunction.TheVariants.{ConsoleLog}
use Rattle.js_tree.specs.declared.operators.HostOperation.TheVariants.{BigIntAsIntN}

abbrev logged : List ℕ → Statement
logged us = expression_statement (host_call ConsoleLog (text_literal us))

abbrev alone : Statement → Statements
alone s = statement s no_statements

jump_through_a_finalizer : put_lines 1 (statement (labeled_of (codes "l_l") (alone (while_of (boolean_literal true) (alone
    (try_finally (statement (logged (codes "in")) (alone (break_to (codes "l_l")))) (alone (logged (codes "fin")))))))) (alone (logged (codes "out")))) []
    ≡ codes "  l_l: {\n    while (true) {\n      try {\n        console.log(\"in\");\n        break l_l;\n      } finally {\n        console.log(\"fin\");\n      }\n    }\n  }\n  console.log(\"out\");\n"
unfolding put
jump_through_a_finalizer = refl

caught_or_not : put_lines 0 (alone (if_else (name_use (codes "v_a")) (alone (try_catch (alone (throw_of null_literal)) (codes "v_e") no_statements)) no_statements)) []
    ≡ codes "if (v_a) {\n  try {\n    throw null;\n  } catch (v_e) {\n  }\n} else {\n}\n"
unfolding put
caught_or_not = refl

calls_and_operators : expression_text (conditional_of (boolean_literal false) (host_call_of_two BigIntAsIntN this_use
    (unary_of TypeOf (method_call_of (name_use (codes "v_s")) (codes "charCodeAt") (expression this_use (expression null_literal no_expressions))))) undefined_literal)
    ≡ codes "(false ? BigInt.asIntN(this, (typeof v_s.charCodeAt(this, null))) : (void 0))"
unfolding put
calls_and_operators = refl

object_literal : put_item (object_item (codes "$kA") (record { name = codes "s_a"; value = this_use } ∷ record { name = codes "s_b"; value = null_literal } ∷ [])) [] ≡ codes "const $kA = {s_a: this, s_b: null};"
unfolding put
object_literal = refl

class_of_two_members : put_item (subclass_item (codes "c_A") (codes "c_B") (constructor_of (codes "v_x" ∷ codes "v_y" ∷ []) (alone super_call) ∷ method_of (codes "m_m") [] (alone (return_of (name_use (codes "x")))) ∷ [])) []
    ≡ codes "class c_A extends c_B {\n  constructor(v_x, v_y) {\n    super();\n  }\n  m_m() {\n    return x;\n  }\n}"
unfolding put
class_of_two_members = refl

import_and_export : module_text (record { imports = record { names = codes "a" ∷ codes "b" ∷ []; file = codes "a-b.js" } ∷ []; items = []; exports = codes "a" ∷ codes "b" ∷ [] })
    ≡ codes "import { a, b } from \"./a-b.js\";\nexport { a, b };\n"
unfolding put
import_and_export = refl
