-- Reading the texts of the helpers, by computing.
use Rattle.std.proofs.Common.{IsTrue, refl, rules}
use Rattle.exact_place.specs.Reading.{literal_at, run_at, list_at, walk_at}
use Rattle.js_tree.specs.Spelling.{Spells}
use Rattle.js_read_spec.specs.Tokens.{name_at, property_at, head_at, new_head_at, parenthesis_head_at, statement_head_at, line_head_at, member_head_at, infix_at, digits_at, below_digits_at, number_end_at, number_at, below_end_at, below_at, key_digits_at, below_key_digits_at, key_at, hex_at, escape_at, unit_at, string_at}
use Rattle.js_read_spec.specs.Expressions.{with_suffixes, more_at, expressions_at, host_at, host_of_two_at, new_after_at, big_after_at, primary_at, suffix_at, suffixes_at, expression_after_at, infix_after_at, tail_at, unary_at, parenthesis_after_at, parenthesis_at, bracketed_at, wordless_level, expression_level, expression_at, wordless_at}
use Rattle.js_read_spec.specs.Statements.{case_key_at, ended_at, line_at as statement_line_at, lines_at, block_at, keys_at, case_at, cases_at, switch_at, else_at, handler_at, target_at, statement_after_at, statement_level, statement_at}
use Rattle.js_read_spec.specs.Modules.{names_at, parameters_at, object_property_at, properties_at, object_at, body_at, member_at, members_at, item_ended_at, item_after_at, line_after_at, line_at, module_of, module_lines_at, module_at}
use Rattle.js_read_spec.proofs.WholeModules.{module_spelled}
use Rattle.sj_emit_help_spec.specs.Helpers.{Above, helper_item}
use Rattle.sj_emit_help_spec.specs.Texts.{is_fixed, helper_text, only_item}
use Rattle.sj_emit_help_spec.specs.declared.kinds.Failure.TheVariants as failures
use Rattle.sj_emit_help_spec.specs.declared.kinds.Helper.{Helper}
use Rattle.sj_emit_help_spec.specs.declared.kinds.Helper.TheVariants as helpers
use Rattle.sj_emit_help_spec.specs.declared.kinds.Kind.TheVariants as kinds

pub text_spells : (above : Above) (h : Helper) → IsTrue (is_fixed h) → Spells (only_item (helper_item above h)) (helper_text h)
unfolding literal_at run_at list_at walk_at name_at property_at head_at new_head_at parenthesis_head_at statement_head_at line_head_at member_head_at infix_at digits_at below_digits_at number_end_at number_at below_end_at below_at key_digits_at below_key_digits_at key_at hex_at escape_at unit_at string_at with_suffixes more_at expressions_at host_at host_of_two_at new_after_at big_after_at primary_at suffix_at suffixes_at expression_after_at infix_after_at tail_at unary_at parenthesis_after_at parenthesis_at bracketed_at wordless_level expression_level expression_at wordless_at case_key_at ended_at statement_line_at lines_at block_at keys_at case_at cases_at switch_at else_at handler_at target_at statement_after_at statement_level statement_at names_at parameters_at object_property_at properties_at object_at body_at member_at members_at item_ended_at item_after_at line_after_at line_at module_of module_lines_at module_at
text_spells above (helpers.TestOf kinds.Undefined) fixed = module_spelled _ _ refl
text_spells above (helpers.TestOf kinds.Boolean) fixed = module_spelled _ _ refl
text_spells above (helpers.TestOf kinds.Char) fixed = module_spelled _ _ refl
text_spells above (helpers.TestOf kinds.Byte) fixed = module_spelled _ _ refl
text_spells above (helpers.TestOf kinds.Short) fixed = module_spelled _ _ refl
text_spells above (helpers.TestOf kinds.Int) fixed = module_spelled _ _ refl
text_spells above (helpers.TestOf kinds.Long) fixed = module_spelled _ _ refl
text_spells above (helpers.TestOf kinds.Text) fixed = module_spelled _ _ refl
text_spells above (helpers.CastTo kinds.Undefined) fixed = module_spelled _ _ refl
text_spells above (helpers.CastTo kinds.Boolean) fixed = module_spelled _ _ refl
text_spells above (helpers.CastTo kinds.Char) fixed = module_spelled _ _ refl
text_spells above (helpers.CastTo kinds.Byte) fixed = module_spelled _ _ refl
text_spells above (helpers.CastTo kinds.Short) fixed = module_spelled _ _ refl
text_spells above (helpers.CastTo kinds.Int) fixed = module_spelled _ _ refl
text_spells above (helpers.CastTo kinds.Long) fixed = module_spelled _ _ refl
text_spells above (helpers.CastTo kinds.Text) fixed = module_spelled _ _ refl
text_spells above (helpers.ConstantsOf k) fixed = search rules
text_spells above helpers.NotNull fixed = module_spelled _ _ refl
text_spells above helpers.IntQuotient fixed = module_spelled _ _ refl
text_spells above helpers.IntRemainder fixed = module_spelled _ _ refl
text_spells above helpers.LongQuotient fixed = module_spelled _ _ refl
text_spells above helpers.LongRemainder fixed = module_spelled _ _ refl
text_spells above helpers.BoxedChar fixed = module_spelled _ _ refl
text_spells above helpers.Equal fixed = module_spelled _ _ refl
text_spells above helpers.ArrayClass fixed = module_spelled _ _ refl
text_spells above helpers.MakeArray fixed = module_spelled _ _ refl
text_spells above helpers.CheckIndex fixed = module_spelled _ _ refl
text_spells above helpers.Get fixed = module_spelled _ _ refl
text_spells above helpers.Set fixed = module_spelled _ _ refl
text_spells above helpers.Put fixed = module_spelled _ _ refl
text_spells above helpers.Covers fixed = module_spelled _ _ refl
text_spells above helpers.Fits fixed = module_spelled _ _ refl
text_spells above helpers.ClassOf fixed = module_spelled _ _ refl
text_spells above helpers.TestOfArray fixed = module_spelled _ _ refl
text_spells above helpers.CastToArray fixed = module_spelled _ _ refl
text_spells above (helpers.Throws failures.NullReceiver) fixed = module_spelled _ _ refl
text_spells above (helpers.Throws failures.Division) fixed = module_spelled _ _ refl
text_spells above (helpers.Throws failures.Cast) fixed = module_spelled _ _ refl
text_spells above (helpers.Throws failures.Index) fixed = module_spelled _ _ refl
text_spells above (helpers.Throws failures.Store) fixed = module_spelled _ _ refl
text_spells above (helpers.Throws failures.Size) fixed = module_spelled _ _ refl
text_spells above (helpers.Throws failures.Method) fixed = module_spelled _ _ refl
