-- The reader of items and modules.
use Rattle.std.specs.Prelude.{ℕ, Bool, true, false, not, List, [], ◌∷◌, ◌++◌, ◌==◌, ◌&&◌, codes}
use Rattle.std.specs.List.{list_all}
use Rattle.exact_place.specs.Reading.{Reading, value_at, literal_at, run_at, after_at, lead_at, map_at, either_at, list_at, walk_at, end_at}
use Rattle.exact_place.specs.Tokens.{word_of}
use Rattle.js_tree.specs.Names.{is_file_character, is_empty}
use Rattle.js_tree.specs.Terms.{Name, Expression, Statements, Property, Member, constructor_of, method_of, Item, const_item, object_item, let_item, expression_item, function_item, class_item, subclass_item, Module}
use Rattle.js_tree.specs.declared.items.JsImport.{JsImport}
use Rattle.js_read_spec.specs.declared.words.ItemHead.{ItemHead}
use Rattle.js_read_spec.specs.declared.words.ItemHead.TheVariants as items
use Rattle.js_read_spec.specs.declared.words.LineHead.{LineHead}
use Rattle.js_read_spec.specs.declared.words.LineHead.TheVariants as lines
use Rattle.js_read_spec.specs.declared.words.MemberHead.{MemberHead}
use Rattle.js_read_spec.specs.declared.words.MemberHead.TheVariants as members
use Rattle.js_read_spec.specs.declared.words.Stage.{Stage}
use Rattle.js_read_spec.specs.declared.words.Stage.TheVariants.{Imports, Items, End}
use Rattle.js_read_spec.specs.Words.{is_word_start, no_keyword}
use Rattle.js_read_spec.specs.Tokens.{name_at, property_at, line_head_at, member_head_at}
use Rattle.js_read_spec.specs.Expressions.{is_comma, expression_at, wordless_at, expression_after_at}
use Rattle.js_read_spec.specs.Statements.{block_at, statement_at}

-- A line of a module, or an item on its lines.
pub data Line : Type 0 where
  import_line : JsImport → Line
  item_line : Item → Line
  export_line : List Name → Line

abbrev pub member_of : MemberHead → List Name → Statements → Member
member_of members.Constructor xs ss = constructor_of xs ss
member_of (members.Method p) xs ss = method_of p xs ss

-- the characters of a file's name before `.js`, one or more
abbrev pub begins_file : List ℕ → Bool
begins_file u = list_all is_file_character u

abbrev pub is_file_front : List ℕ → Bool
is_file_front u = begins_file u && not (is_empty u)

unfoldable pub file_front_at : List ℕ → Reading (List ℕ)
file_front_at bytes = run_at begins_file (word_of is_file_front (λ x. x) no_keyword) [] bytes

unfoldable pub file_at : List ℕ → Reading Name
file_at = after_at file_front_at (λ u. lead_at (codes ".js") (value_at (u ++ codes ".js")))

module _ (n : ℕ) where
  -- one name or more
  unfoldable pub names_at : List ℕ → Reading (List Name)
  names_at = after_at name_at (λ x. map_at (λ xs. x ∷ xs) (list_at n is_comma (lead_at (codes ", ") name_at)))

  -- behind `(`
  unfoldable pub parameters_at : List ℕ → Reading (List Name)
  parameters_at = either_at (λ c. c == 41) (lead_at (codes ")") (value_at [])) (after_at names_at (λ xs. lead_at (codes ")") (value_at xs)))

  unfoldable pub object_property_at : List ℕ → Reading Property
  object_property_at = after_at property_at (λ p. lead_at (codes ": ") (map_at (λ e. record { name = p; value = e }) (expression_at n)))

  -- one property or more
  unfoldable pub properties_at : List ℕ → Reading (List Property)
  properties_at = after_at object_property_at (λ p. map_at (λ ps. p ∷ ps) (list_at n is_comma (lead_at (codes ", ") object_property_at)))

  -- behind `{` of an object
  unfoldable pub object_at : Name → List ℕ → Reading Item
  object_at x = either_at (λ c. c == 125) (lead_at (codes "};") (value_at (object_item x []))) (after_at properties_at (λ ps. lead_at (codes "};") (value_at (object_item x ps))))

  -- the block of a function or a member at this level
  unfoldable pub body_at : ℕ → List ℕ → Reading Statements
  body_at level = block_at (statement_at n) n level

  -- a member and the line feed behind it
  unfoldable pub member_at : List ℕ → Reading Member
  member_at = lead_at (codes "  ") (after_at member_head_at (λ h. lead_at (codes "(") (after_at parameters_at (λ xs. lead_at (codes " ") (after_at (body_at 1) (λ ss. lead_at (codes "\n") (value_at (member_of h xs ss))))))))

  unfoldable pub members_at : List ℕ → Reading (List Member)
  members_at = lead_at (codes "{\n") (after_at (list_at n (λ c. c == 32) member_at) (λ ms. lead_at (codes "}") (value_at ms)))

  -- `e;`
  unfoldable pub item_ended_at : (Expression → Item) → List ℕ → Reading Item
  item_ended_at f = after_at (expression_at n) (λ e. map_at (λ u. f e) (literal_at (codes ";")))

  -- behind the first word of an item
  unfoldable pub item_after_at : ItemHead → List ℕ → Reading Item
  item_after_at items.Const = lead_at (codes " ") (after_at name_at (λ x. lead_at (codes " = ") (either_at (λ c. c == 123) (lead_at (codes "{") (object_at x)) (item_ended_at (λ e. const_item x e)))))
  item_after_at items.Let = lead_at (codes " ") (after_at name_at (λ x. lead_at (codes " = ") (item_ended_at (λ e. let_item x e))))
  item_after_at items.Function = lead_at (codes " ") (after_at name_at (λ x. lead_at (codes "(") (after_at parameters_at (λ xs. lead_at (codes " ") (map_at (λ ss. function_item x xs ss) (body_at 0))))))
  item_after_at items.Class = lead_at (codes " ") (after_at name_at (λ x. lead_at (codes " ") (either_at (λ c. c == 123) (map_at (λ ms. class_item x ms) members_at)
      (lead_at (codes "extends ") (after_at name_at (λ y. lead_at (codes " ") (map_at (λ ms. subclass_item x y ms) members_at)))))))
  item_after_at (items.Expression h) = after_at (expression_after_at (expression_at n) n h) (λ e. map_at (λ u. expression_item e) (literal_at (codes ";")))

  -- behind the first word of a line
  unfoldable pub line_after_at : LineHead → List ℕ → Reading Line
  line_after_at lines.Import = lead_at (codes " { ") (after_at names_at (λ xs. lead_at (codes " } from \"./") (after_at file_at (λ f. lead_at (codes "\";\n") (value_at (import_line (record { names = xs; file = f })))))))
  line_after_at lines.Export = lead_at (codes " { ") (after_at names_at (λ xs. lead_at (codes " };\n") (value_at (export_line xs))))
  line_after_at (lines.Item h) = after_at (item_after_at h) (λ i. lead_at (codes "\n") (value_at (item_line i)))

  -- a line, where an import may come or not any more
  unfoldable pub line_at : Bool → List ℕ → Reading Line
  line_at imports = either_at is_word_start (after_at (line_head_at imports) line_after_at) (after_at (wordless_at n) (λ e. lead_at (codes ";\n") (value_at (item_line (expression_item e)))))

-- where a module stands: before its first item, behind it, behind its export line
abbrev pub is_imports : Stage → Bool
is_imports Imports = true
is_imports Items = false
is_imports End = false

abbrev pub goes_on : Stage → ℕ → Bool
goes_on Imports c = true
goes_on Items c = true
goes_on End c = false

abbrev pub stage_after : Stage → Line → Stage
stage_after s (import_line i) = s
stage_after s (item_line i) = Items
stage_after s (export_line xs) = End

unfoldable pub module_of : List Line → Module
module_of [] = record { imports = []; items = []; exports = [] }
module_of (import_line i ∷ ls) = record { imports = i ∷ (module_of ls).imports; items = (module_of ls).items; exports = (module_of ls).exports }
module_of (item_line i ∷ ls) = record { imports = (module_of ls).imports; items = i ∷ (module_of ls).items; exports = (module_of ls).exports }
module_of (export_line xs ∷ ls) = record { imports = (module_of ls).imports; items = (module_of ls).items; exports = xs }

unfoldable pub module_lines_at : ℕ → Stage → List ℕ → Reading (List Line)
module_lines_at n s = walk_at n goes_on (λ t. line_at n (is_imports t)) stage_after s

unfoldable pub module_at : ℕ → List ℕ → Reading Module
module_at n = after_at (module_lines_at n Imports) (λ ls. map_at (λ u. module_of ls) end_at)
