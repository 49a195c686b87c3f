-- Readers of the tokens: words, numbers and strings.
use Rattle.std.specs.Prelude.{ℕ, ℤ, pos, negsuc, ◌+◌, ◌-◌, ◌*◌, ◌^◌, Bool, true, false, cond, List, [], ◌&&◌, ◌||◌, not, nat_lt, nat_le, ◌==◌, Option, Some, None, codes}
use Rattle.exact_place.specs.Reading.{Reading, value_at, one_at, run_at, after_at, lead_at, map_at, either_at, list_at}
use Rattle.exact_place.specs.Tokens.{begins_entry, entry_of, begins_number, number_of}
use Rattle.js_tree.specs.Terms.{Expression, number_literal, big_literal, text_literal}
use Rattle.js_read_spec.specs.declared.words.Head.{Head}
use Rattle.js_read_spec.specs.declared.words.NewHead.{NewHead}
use Rattle.js_read_spec.specs.declared.words.ParenthesisHead.{ParenthesisHead}
use Rattle.js_read_spec.specs.declared.words.Infix.{Infix}
use Rattle.js_read_spec.specs.declared.words.StatementHead.{StatementHead}
use Rattle.js_read_spec.specs.declared.words.LineHead.{LineHead}
use Rattle.js_read_spec.specs.declared.words.MemberHead.{MemberHead}
use Rattle.js_read_spec.specs.Words.{begins_name, begins_property, name_of, property_name_of, head_of, new_head_of, parenthesis_head_of, statement_head_of, line_head_of, member_head_of, infix_words}

-- ---- words

unfoldable pub name_at : List ℕ → Reading (List ℕ)
name_at bytes = run_at begins_name name_of [] bytes

unfoldable pub property_at : List ℕ → Reading (List ℕ)
property_at bytes = run_at begins_property property_name_of [] bytes

unfoldable pub head_at : List ℕ → Reading Head
head_at bytes = run_at begins_name head_of [] bytes

unfoldable pub new_head_at : List ℕ → Reading NewHead
new_head_at bytes = run_at begins_name new_head_of [] bytes

unfoldable pub parenthesis_head_at : List ℕ → Reading ParenthesisHead
parenthesis_head_at bytes = run_at begins_name parenthesis_head_of [] bytes

unfoldable pub statement_head_at : List ℕ → Reading StatementHead
statement_head_at bytes = run_at begins_name statement_head_of [] bytes

unfoldable pub line_head_at : Bool → List ℕ → Reading LineHead
line_head_at imports bytes = run_at begins_name (line_head_of imports) [] bytes

unfoldable pub member_head_at : List ℕ → Reading MemberHead
member_head_at bytes = run_at begins_property member_head_of [] bytes

unfoldable pub infix_at : List ℕ → Reading Infix
infix_at bytes = run_at (begins_entry infix_words) (entry_of infix_words) [] bytes

-- ---- numbers

-- the digits of a Number or a BigInt
unfoldable pub digits_at : List ℕ → Reading ℕ
digits_at bytes = run_at (begins_number true (2 ^ 63)) (number_of true (2 ^ 63)) [] bytes

-- behind `(-`
unfoldable pub below_digits_at : List ℕ → Reading ℕ
below_digits_at bytes = run_at (begins_number false (2 ^ 63 + 1)) (number_of false (2 ^ 63 + 1)) [] bytes

-- behind a Number's digits `n` may follow; behind those of a number that is no Number it must
unfoldable pub number_end_at : ℕ → List ℕ → Reading Expression
number_end_at v bytes = cond (nat_lt v (2 ^ 31))
    (either_at (λ c. c == 110) (lead_at (codes "n") (value_at (big_literal (pos v)))) (value_at (number_literal (pos v))) bytes)
    (lead_at (codes "n") (value_at (big_literal (pos v))) bytes)

unfoldable pub number_at : List ℕ → Reading Expression
number_at = after_at digits_at number_end_at

unfoldable pub below_end_at : ℕ → List ℕ → Reading Expression
below_end_at v bytes = cond (nat_lt v (2 ^ 31 + 1))
    (either_at (λ c. c == 110) (lead_at (codes "n)") (value_at (big_literal (negsuc (v - 1))))) (lead_at (codes ")") (value_at (number_literal (negsuc (v - 1))))) bytes)
    (lead_at (codes "n)") (value_at (big_literal (negsuc (v - 1)))) bytes)

-- behind `(-`
unfoldable pub below_at : List ℕ → Reading Expression
below_at = after_at below_digits_at below_end_at

-- the key of a case
unfoldable pub key_digits_at : List ℕ → Reading ℕ
key_digits_at bytes = run_at (begins_number true (2 ^ 31)) (number_of true (2 ^ 31)) [] bytes

unfoldable pub below_key_digits_at : List ℕ → Reading ℕ
below_key_digits_at bytes = run_at (begins_number false (2 ^ 31 + 1)) (number_of false (2 ^ 31 + 1)) [] bytes

unfoldable pub key_at : List ℕ → Reading ℤ
key_at = either_at (λ c. c == 40)
    (lead_at (codes "(-") (after_at below_key_digits_at (λ v. lead_at (codes ")") (value_at (negsuc (v - 1))))))
    (map_at (λ v. pos v) key_digits_at)

-- ---- strings

-- a unit that stands as it is
abbrev pub plain_unit : ℕ → Option ℕ
plain_unit c = cond ((nat_le 32 c && nat_le c 126) && (not (c == 34) && not (c == 92))) (Some c) None

-- the value of a hexadecimal digit, lower case
abbrev pub hex_of : ℕ → Option ℕ
hex_of c = cond (nat_le 48 c && nat_le c 57) (Some (c - 48)) (cond (nat_le 97 c && nat_le c 102) (Some (c - 87)) None)

-- the third digit: units from 0020 to 007E have no escape
abbrev pub third_digit : ℕ → Option ℕ → Option ℕ
third_digit high None = None
third_digit high (Some d) = cond ((nat_le 2 d && nat_le d 6) && high == 0) None (Some (high * 16 + d))

abbrev pub third_of : ℕ → ℕ → Option ℕ
third_of high c = third_digit high (hex_of c)

abbrev pub fourth_digit : ℕ → Option ℕ → Option ℕ
fourth_digit high None = None
fourth_digit high (Some d) = cond (not (d == 15) && high == 7) None (Some (high * 16 + d))

abbrev pub fourth_of : ℕ → ℕ → Option ℕ
fourth_of high c = fourth_digit high (hex_of c)

-- the four digits behind `\u`
unfoldable pub hex_at : List ℕ → Reading ℕ
hex_at = after_at (one_at hex_of) (λ a. after_at (one_at hex_of) (λ b. after_at (one_at (third_of (a * 16 + b))) (λ v. one_at (fourth_of v))))

-- the quote and the backslash stand behind a backslash
abbrev pub simple_escape : ℕ → Option ℕ
simple_escape c = cond (c == 34 || c == 92) (Some c) None

-- behind a backslash
unfoldable pub escape_at : List ℕ → Reading ℕ
escape_at = either_at (λ c. c == 117) (lead_at (codes "u") hex_at) (one_at simple_escape)

unfoldable pub unit_at : List ℕ → Reading ℕ
unit_at = either_at (λ c. c == 92) (lead_at (codes "\\") escape_at) (one_at plain_unit)

-- behind the first quote
unfoldable pub string_at : ℕ → List ℕ → Reading Expression
string_at n = after_at (list_at n (λ c. not (c == 34)) unit_at) (λ us. lead_at (codes "\"") (value_at (text_literal us)))
