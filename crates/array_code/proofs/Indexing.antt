-- Checks of indices, and items that are read and set.
use Rattle.std.proofs.Common.{◌≡◌, ◌≢◌, ℕ, zero, suc, ◌-◌, ◌^◌, Bool, true, false, List, [], ◌∷◌, pos, negsuc, ◌++◌, length, replicate, set, slice_get, Option, Some, None, refl, sym, ap, ◌∙◌, arith, ◌||◌}
use Rattle.std.proofs.lemmas.Bool.Decides.{nat_tests}
use Rattle.std.specs.Prelude.{ℤ, int_lt, int_le, nat_le, nat_lt, not, codes, if◌then◌else◌}
use Rattle.js_tree.specs.Terms.{Name, Expression, index_of, binary_of, unary_of, Statements, no_statements, statement, expression_statement, assign_index, return_of, if_only}
use Rattle.js_tree.specs.Views.{expressions_of}
use Rattle.js_tree.specs.declared.operators.BinaryOperator.TheVariants.{Less, GreaterOrEqual}
use Rattle.js_tree.specs.declared.operators.UnaryOperator.TheVariants.{Not}
use Rattle.outcomes.specs.Outcome.{Out, done, going, then_do}
use Rattle.js_mean.specs.Objects.{at_address, item_at, set_array_element, set_stored_element, stored_element, stored_property, with_item}
use Rattle.js_mean.specs.States.{Value, undefined, null, boolean, number, object, ClassLink, absent, holds, Stored, plain, array, Scope, State, ExpressionEnd, gives, StatementEnd, with_value, in_statement, next_statement, Program}
use Rattle.js_mean.specs.Meaning.{Low, Code, below, code_call, evaluate, execute_all, function_scope, in_block, taken, nothing, negated, read_element, returned, value_or_wrong, with_state}
use Rattle.class_casts.specs.FailureVariants.{Index, Store}
use Rattle.class_casts.specs.Helpers.{calls, at, helper_name, num, var}
use Rattle.class_casts.specs.HelperVariants.{CheckIndex, Fits, Get, Put, Set, Throws}
use Rattle.class_casts.specs.Words.{both, either, not_null, x}
use Rattle.class_casts.proofs.Bridge.{name_held, return_hands_on}
use Rattle.class_casts.proofs.Kinded.{differs_from_null}
use Rattle.array_code.specs.Arrays.{IsArrayObject}
use Rattle.array_code.specs.Codes.{helper_code, helper_call, UsesThrower, GivesNone}
use Rattle.array_code.specs.Items.{is_index, with_item_set, ChecksTell, UsesCheck, GetsTell, SetsTell, UsesFits, PutsTell, SetItemsStay}
use Rattle.array_code.proofs.Stepping.{nothing_behind, own_property, one_more, property_comes, operands_come, both_come, either_comes, not_comes, call_comes, set_comes, in_front, passed_by, called_first, rest_of}

-- what the check asks
outside_is : (k : ℕ) (z : ℤ) → (int_lt z (pos 0) || int_le (pos k) z) ≡ not (is_index k z)
outside_is k (negsuc n) = refl
outside_is k (pos n) = let e : (nat_lt n 0 || nat_le k n) ≡ not (nat_lt n k) = grind (arith, nat_tests) in e

-- the items of an array object under a name that holds it
module _ (p : Program) (low : Low) (sc : Scope) (links : List ClassLink) (s : State) (a depth : ℕ) (element : Value) (b : ℕ) (items : List Value) (is : IsArrayObject links s a depth element b items) (e : Expression) (held : evaluate p low e sc s ≡ done (gives (object a) s)) where
  pub items_come : evaluate p low (at e (codes "a")) sc s ≡ done (gives (object b) s)
  items_come = property_comes p low sc s e (codes "a") (object a) (object b) held (own_property p s a links is.own (codes "a") (object b) is.stored is.items_at)

  pub depth_comes : evaluate p low (at e (codes "n")) sc s ≡ done (gives (number (pos depth)) s)
  depth_comes = property_comes p low sc s e (codes "n") (object a) (number (pos depth)) held (own_property p s a links is.own (codes "n") (number (pos depth)) is.stored is.depth_is)

  pub element_comes : evaluate p low (at e (codes "e")) sc s ≡ done (gives element s)
  element_comes = property_comes p low sc s e (codes "e") (object a) element held (own_property p s a links is.own (codes "e") element is.stored is.element_is)

  length_comes : evaluate p low (at (at e (codes "a")) (codes "length")) sc s ≡ done (gives (number (pos (length items))) s)
  length_comes = property_comes p low sc s (at e (codes "a")) (codes "length") (object b) (number (pos (length items))) items_come (ap (λ (o : Option Stored). stored_property p o (codes "length")) is.items_are)

  outside_comes : (i : Expression) (z : ℤ) → evaluate p low i sc s ≡ done (gives (number z) s) → evaluate p low (either (binary_of i Less (num 0)) (binary_of i GreaterOrEqual (at (at e (codes "a")) (codes "length")))) sc s ≡ done (gives (boolean (not (is_index (length items) z))) s)
  outside_comes i z i_held =
      either_comes p low sc s (binary_of i Less (num 0)) (binary_of i GreaterOrEqual (at (at e (codes "a")) (codes "length"))) (int_lt z (pos 0)) (int_le (pos (length items)) z)
      (operands_come p low sc s Less i (num 0) (number z) (number (pos 0)) (boolean (int_lt z (pos 0))) i_held refl refl)
      (operands_come p low sc s GreaterOrEqual i (at (at e (codes "a")) (codes "length")) (number z) (number (pos (length items))) (boolean (int_le (pos (length items)) z)) i_held length_comes refl)
      ∙ ap (λ (t : Bool). done (gives (boolean t) s)) (outside_is (length items) z)

  item_comes : (i : Expression) (z : ℤ) → evaluate p low i sc s ≡ done (gives (number z) s) → evaluate p low (index_of (at e (codes "a")) i) sc s ≡ done (gives (item_at items z) s)
  item_comes i z i_held =
      one_more p (evaluate p low (at e (codes "a"))) (evaluate p low i ∷ []) (read_element p) (object b) sc s items_come
      ∙ one_more p (evaluate p low i) [] (λ vs. read_element p (object b ∷ vs)) (number z) sc s i_held
      ∙ ap (λ (o : Option Stored). value_or_wrong (stored_element p o (number z)) sc s) is.items_are

  abbrev behind : Out StatementEnd → Out ExpressionEnd
  behind o = then_do (then_do o (next_statement (execute_all p low no_statements))) returned

  set_inside : (k : ℕ) (v : Value) → nat_lt k (length items) ≡ true → with_item items k v ≡ set items k v
  set_inside k v inside = ap (λ (t : Bool). if t then set items k v else (items ++ replicate (k - length items) undefined ++ v ∷ [])) inside

  -- the last statement of the helpers that set an item
  last_sets : (i g : Expression) (k : ℕ) (v : Value) → evaluate p low i sc s ≡ done (gives (number (pos k)) s) → evaluate p low g sc s ≡ done (gives v s) → nat_lt k (length items) ≡ true → nat_lt k (2 ^ 32 - 1) ≡ true →
      then_do (execute_all p low (statement (assign_index (at e (codes "a")) i g) no_statements) sc s) returned ≡ done (gives undefined (with_item_set b items k v s))
  last_sets i g k v i_held g_held inside small =
      ap behind (set_comes p low sc s (at e (codes "a")) i g b (number (pos k)) v items_come i_held g_held)
      ∙ ap (λ (o : Option Stored). behind (with_state (set_stored_element b o (number (pos k)) v s) sc s)) is.items_are
      ∙ ap (λ (t : Bool). behind (with_state (if t then Some (at_address b (array (with_item items k v)) s) else None) sc s)) small
      ∙ ap (λ (vs : List Value). done (gives undefined (at_address b (array vs) s))) (set_inside k v inside)

-- the check of an index
module _ (p : Program) (n : ℕ) (g : Name) (links : List ClassLink) (s : State) (a depth : ℕ) (element : Value) (b : ℕ) (items : List Value) (z : ℤ) (is : IsArrayObject links s a depth element b items) where
  abbrev low : Low
  low = below p n

  abbrev sc : Scope
  sc = function_scope g (helper_code CheckIndex) (object a ∷ number z ∷ [])

  abbrev is_outside : Expression
  is_outside = either (binary_of (var (codes "i")) Less (num 0)) (binary_of (var (codes "i")) GreaterOrEqual (at (at x (codes "a")) (codes "length")))

  abbrev refusing : Expression
  refusing = calls (Throws Index) (var (codes "i") ∷ [])

  told : evaluate p low is_outside sc s ≡ done (gives (boolean (not (is_index (length items) z))) s)
  told = outside_comes p low sc links s a depth element b items is x refl (var (codes "i")) z refl

  pub inside : is_index (length items) z ≡ true → code_call (below p (suc n)) g (Some (helper_code CheckIndex)) (object a ∷ number z ∷ []) s ≡ done (gives undefined s)
  inside h = passed_by p low sc s is_outside refusing no_statements (told ∙ ap (λ (t : Bool). done (gives (boolean (not t)) s)) h)

  pub outside : (index : UsesThrower p g (Throws Index) s) → is_index (length items) z ≡ false → GivesNone (helper_call p n index.home (Throws Index) (number z ∷ []) s) → code_call (below p (suc n)) g (Some (helper_code CheckIndex)) (object a ∷ number z ∷ []) s ≡ helper_call p n index.home (Throws Index) (number z ∷ []) s
  outside index h none =
      called_first p low sc s is_outside refusing no_statements (told ∙ ap (λ (t : Bool). done (gives (boolean (not t)) s)) h)
      ∙ ap (λ (o : Out ExpressionEnd). then_do o (with_value (rest_of p low sc s no_statements))) (call_comes p low sc s (helper_name (Throws Index)) index.home (expressions_of (var (codes "i") ∷ [])) (number z ∷ []) refl index.top (λ act. refl))
      ∙ nothing_behind (helper_call p n index.home (Throws Index) (number z ∷ []) s) (rest_of p low sc s no_statements) none

pub checks_tell : ChecksTell
checks_tell = record {
  inside = λ p n g links s a depth element b items z is h. inside p n g links s a depth element b items z is h;
  outside = λ p n g links s a depth element b items z index is h none. outside p n g links s a depth element b items z is index h none;
}

-- statements behind a check of an index
module _ (p : Program) (n : ℕ) (links : List ClassLink) (s : State) (a depth : ℕ) (element : Value) (b : ℕ) (items : List Value) (z : ℤ) (is : IsArrayObject links s a depth element b items) (sc : Scope) (uses : UsesCheck p sc.file s) (free : sc.bindings (helper_name CheckIndex) ≡ absent) (x_held : sc.bindings (codes "x") ≡ holds false (object a)) (i_held : sc.bindings (codes "i") ≡ holds false (number z)) (rest : Statements) where
  abbrev checking : Expression
  checking = calls CheckIndex (x ∷ var (codes "i") ∷ [])

  abbrev upper : Low
  upper = below p (suc n)

  check_comes : evaluate p upper checking sc s ≡ code_call upper uses.check.home (Some (helper_code CheckIndex)) (object a ∷ number z ∷ []) s
  check_comes =
      call_comes p upper sc s (helper_name CheckIndex) uses.check.home (expressions_of (x ∷ var (codes "i") ∷ [])) (object a ∷ number z ∷ []) free uses.check.top (λ act. one_more p (evaluate p upper x) (evaluate p upper (var (codes "i")) ∷ []) act (object a) sc s (name_held p (codes "x") false (object a) sc s x_held) ∙ one_more p (evaluate p upper (var (codes "i"))) [] (λ vs. act (object a ∷ vs)) (number z) sc s (name_held p (codes "i") false (number z) sc s i_held))
      ∙ ap (λ (o : Option Code). code_call upper uses.check.home o (object a ∷ number z ∷ []) s) uses.check.code_is

  pub goes_on : is_index (length items) z ≡ true → then_do (execute_all p upper (statement (expression_statement checking) rest) sc s) returned ≡ then_do (execute_all p upper rest sc s) returned
  goes_on h =
      in_front p upper sc s checking rest
      ∙ ap (λ (o : Out ExpressionEnd). then_do o (with_value (rest_of p upper sc s rest))) (check_comes ∙ inside p n uses.check.home links s a depth element b items z is h)

  pub stops : is_index (length items) z ≡ false → GivesNone (helper_call p n uses.index.home (Throws Index) (number z ∷ []) s) → then_do (execute_all p upper (statement (expression_statement checking) rest) sc s) returned ≡ helper_call p n uses.index.home (Throws Index) (number z ∷ []) s
  stops h none =
      in_front p upper sc s checking rest
      ∙ ap (λ (o : Out ExpressionEnd). then_do o (with_value (rest_of p upper sc s rest))) (check_comes ∙ outside p n uses.check.home links s a depth element b items z is uses.index h none)
      ∙ nothing_behind (helper_call p n uses.index.home (Throws Index) (number z ∷ []) s) (rest_of p upper sc s rest) none

-- within one unit the check is going
module _ (p : Program) (s : State) (u i : Value) (sc : Scope) (uses : UsesCheck p sc.file s) (free : sc.bindings (helper_name CheckIndex) ≡ absent) (x_held : sc.bindings (codes "x") ≡ holds false u) (i_held : sc.bindings (codes "i") ≡ holds false i) (rest : Statements) where
  abbrev check : Expression
  check = calls CheckIndex (x ∷ var (codes "i") ∷ [])

  abbrev bottom : Low
  bottom = below p 0

  pub check_goes : then_do (execute_all p bottom (statement (expression_statement check) rest) sc s) returned ≡ going
  check_goes =
      in_front p bottom sc s check rest
      ∙ ap (λ (o : Out ExpressionEnd). then_do o (with_value (rest_of p bottom sc s rest)))
      (call_comes p bottom sc s (helper_name CheckIndex) uses.check.home (expressions_of (x ∷ var (codes "i") ∷ [])) (u ∷ i ∷ []) free uses.check.top (λ act. one_more p (evaluate p bottom x) (evaluate p bottom (var (codes "i")) ∷ []) act u sc s (name_held p (codes "x") false u sc s x_held) ∙ one_more p (evaluate p bottom (var (codes "i"))) [] (λ vs. act (u ∷ vs)) i sc s (name_held p (codes "i") false i sc s i_held))
      ∙ ap (λ (o : Option Code). code_call bottom uses.check.home o (u ∷ i ∷ []) s) uses.check.code_is)

-- `$get`
abbrev reading : Expression
reading = index_of (at x (codes "a")) (var (codes "i"))

abbrev get_rest : Statements
get_rest = statement (return_of reading) no_statements

pub gets_tell : GetsTell
gets_tell = record {
  inside = λ p n g links s a depth element b items z uses is h.
      let sc : Scope = function_scope g (helper_code Get) (object a ∷ number z ∷ []) in
      goes_on p n links s a depth element b items z is sc uses refl refl refl get_rest h
      ∙ return_hands_on p (below p (suc n)) reading no_statements sc s
      ∙ item_comes p (below p (suc n)) sc links s a depth element b items is x refl (var (codes "i")) z refl;
  outside = λ p n g links s a depth element b items z uses is h none. stops p n links s a depth element b items z is (function_scope g (helper_code Get) (object a ∷ number z ∷ [])) uses refl refl refl get_rest h none;
  within_1 = λ p g s u i uses. check_goes p s u i (function_scope g (helper_code Get) (u ∷ i ∷ [])) uses refl refl refl get_rest;
}

-- `$set`
abbrev set_rest : Statements
set_rest = statement (assign_index (at x (codes "a")) (var (codes "i")) (var (codes "v"))) no_statements

pub sets_tell : SetsTell
sets_tell = record {
  inside = λ p n g links s a depth element b items k v uses is h small.
      let sc : Scope = function_scope g (helper_code Set) (object a ∷ number (pos k) ∷ v ∷ []) in
      goes_on p n links s a depth element b items (pos k) is sc uses refl refl refl set_rest h
      ∙ last_sets p (below p (suc n)) sc links s a depth element b items is x refl (var (codes "i")) (var (codes "v")) k v refl refl h small;
  outside = λ p n g links s a depth element b items z v uses is h none. stops p n links s a depth element b items z is (function_scope g (helper_code Set) (object a ∷ number z ∷ v ∷ [])) uses refl refl refl set_rest h none;
  within_1 = λ p g s u i v uses. check_goes p s u i (function_scope g (helper_code Set) (u ∷ i ∷ v ∷ [])) uses refl refl refl set_rest;
}

-- `$put`
abbrev fit_asked : Expression
fit_asked = calls Fits (var (codes "v") ∷ at x (codes "n") ∷ at x (codes "e") ∷ [])

abbrev is_bad : Expression
is_bad = both (not_null (var (codes "v"))) (unary_of Not fit_asked)

abbrev store_refused : Expression
store_refused = calls (Throws Store) []

abbrev refusing_block : Statements
refusing_block = statement (expression_statement store_refused) no_statements

abbrev put_rest : Statements
put_rest = statement (if_only is_bad refusing_block) set_rest

module _ (p : Program) (n : ℕ) (g : Name) (links : List ClassLink) (s : State) (a depth : ℕ) (element : Value) (b : ℕ) (items : List Value) (z : ℤ) (v : Value) (is : IsArrayObject links s a depth element b items) (uses : UsesFits p g s) where
  abbrev put_scope : Scope
  put_scope = function_scope g (helper_code Put) (object a ∷ number z ∷ v ∷ [])

  abbrev high : Low
  high = below p (suc n)

  fit_comes : evaluate p high fit_asked put_scope s ≡ helper_call p (suc n) uses.fits.home Fits (v ∷ number (pos depth) ∷ element ∷ []) s
  fit_comes = call_comes p high put_scope s (helper_name Fits) uses.fits.home (expressions_of (var (codes "v") ∷ at x (codes "n") ∷ at x (codes "e") ∷ [])) (v ∷ number (pos depth) ∷ element ∷ []) refl uses.fits.top
      (λ act.
      one_more p (evaluate p high (at x (codes "n"))) (evaluate p high (at x (codes "e")) ∷ []) (λ vs. act (v ∷ vs)) (number (pos depth)) put_scope s (depth_comes p high put_scope links s a depth element b items is x refl)
      ∙ one_more p (evaluate p high (at x (codes "e"))) [] (λ vs. act (v ∷ number (pos depth) ∷ vs)) element put_scope s (element_comes p high put_scope links s a depth element b items is x refl))

  -- what is asked of a value other than null
  bad_comes : (t : Bool) → v ≢ null → helper_call p (suc n) uses.fits.home Fits (v ∷ number (pos depth) ∷ element ∷ []) s ≡ done (gives (boolean t) s) → evaluate p high is_bad put_scope s ≡ done (gives (boolean (not t)) s)
  bad_comes t other fits = both_come p high put_scope s (not_null (var (codes "v"))) (unary_of Not fit_asked) true (done (gives (boolean (not t)) s)) (ap (λ (d : Bool). done (gives (boolean (not d)) s)) (differs_from_null v other)) (λ e. not_comes p high put_scope s fit_asked t (fit_comes ∙ fits))

  bad_goes : v ≢ null → helper_call p (suc n) uses.fits.home Fits (v ∷ number (pos depth) ∷ element ∷ []) s ≡ going → evaluate p high is_bad put_scope s ≡ going
  bad_goes other fits = both_come p high put_scope s (not_null (var (codes "v"))) (unary_of Not fit_asked) true going (ap (λ (d : Bool). done (gives (boolean (not d)) s)) (differs_from_null v other)) (λ e. ap (λ (o : Out ExpressionEnd). then_do o (with_value (λ w. negated (w ∷ []) put_scope))) (fit_comes ∙ fits))

  checked : is_index (length items) z ≡ true → code_call (below p (suc (suc n))) g (Some (helper_code Put)) (object a ∷ number z ∷ v ∷ []) s ≡ then_do (execute_all p high put_rest put_scope s) returned
  checked h = goes_on p n links s a depth element b items z is put_scope uses.checks refl refl refl put_rest h

  fitting : (k : ℕ) → z ≡ pos k → nat_lt k (length items) ≡ true → nat_lt k (2 ^ 32 - 1) ≡ true → evaluate p high is_bad put_scope s ≡ done (gives (boolean false) s) → code_call (below p (suc (suc n))) g (Some (helper_code Put)) (object a ∷ number z ∷ v ∷ []) s ≡ done (gives undefined (with_item_set b items k v s))
  fitting k e h small bad =
      checked (ap (is_index (length items)) e ∙ h)
      ∙ passed_by p high put_scope s is_bad store_refused set_rest bad
      ∙ last_sets p high put_scope links s a depth element b items is x refl (var (codes "i")) (var (codes "v")) k v (ap (λ (y : ℤ). done (gives (number y) s)) e) refl h small

  refused : is_index (length items) z ≡ true → v ≢ null → helper_call p (suc n) uses.fits.home Fits (v ∷ number (pos depth) ∷ element ∷ []) s ≡ done (gives (boolean false) s) → GivesNone (helper_call p (suc n) uses.store.home (Throws Store) [] s) →
      code_call (below p (suc (suc n))) g (Some (helper_code Put)) (object a ∷ number z ∷ v ∷ []) s ≡ helper_call p (suc n) uses.store.home (Throws Store) [] s
  refused h other fits none =
      checked h
      ∙ called_first p high put_scope s is_bad store_refused set_rest (bad_comes false other fits)
      ∙ ap (λ (o : Out ExpressionEnd). then_do o (with_value (rest_of p high put_scope s set_rest))) (call_comes p high put_scope s (helper_name (Throws Store)) uses.store.home (expressions_of []) [] refl uses.store.top (λ act. refl))
      ∙ nothing_behind (helper_call p (suc n) uses.store.home (Throws Store) [] s) (rest_of p high put_scope s set_rest) none

  put_goes : is_index (length items) z ≡ true → v ≢ null → helper_call p (suc n) uses.fits.home Fits (v ∷ number (pos depth) ∷ element ∷ []) s ≡ going → code_call (below p (suc (suc n))) g (Some (helper_code Put)) (object a ∷ number z ∷ v ∷ []) s ≡ going
  put_goes h other fits =
      checked h
      ∙ ap (λ (o : Out ExpressionEnd). then_do (then_do (then_do o (in_statement put_scope (λ w. taken (in_block refusing_block (execute_all p high refusing_block)) nothing w put_scope))) (next_statement (execute_all p high set_rest))) returned) (bad_goes other fits)

pub puts_tell : PutsTell
puts_tell = record {
  of_null = λ p n g links s a depth element b items k uses is h small. fitting p n g links s a depth element b items (pos k) null is uses k refl h small refl;
  of_element = λ p n g links s a depth element b items k v uses is h small other fits. fitting p n g links s a depth element b items (pos k) v is uses k refl h small (bad_comes p n g links s a depth element b items (pos k) v is uses true other fits);
  of_other = λ p n g links s a depth element b items z v uses is h other fits none. refused p n g links s a depth element b items z v is uses h other fits none;
  outside = λ p n g links s a depth element b items z v uses is h none. stops p n links s a depth element b items z is (function_scope g (helper_code Put) (object a ∷ number z ∷ v ∷ [])) uses.checks refl refl refl put_rest h none;
  within_1 = λ p g s u i v uses. check_goes p s u i (function_scope g (helper_code Put) (u ∷ i ∷ v ∷ [])) uses.checks refl refl refl put_rest;
  fits_going = λ p n g links s a depth element b items z v uses is h other fits. put_goes p n g links s a depth element b items z v is uses h other fits;
}

-- what stands on a heap where an array is set
others_stay : (h : List Stored) (a b : ℕ) (links : List ClassLink) (own : Name → Option Value) (items : List Value) (y : Stored) → slice_get h a ≡ Some (plain links own) → slice_get h b ≡ Some (array items) → slice_get (set h b y) a ≡ Some (plain links own)
others_stay [] a b links own items y e f = cc
others_stay (x ∷ h) zero zero links own items y e f = let same : Some (plain links own) ≡ Some (array items) = sym e ∙ f in cc
others_stay (x ∷ h) zero (suc b) links own items y e f = e
others_stay (x ∷ h) (suc a) zero links own items y e f = e
others_stay (x ∷ h) (suc a) (suc b) links own items y e f = others_stay h a b links own items y e f

set_there : (h : List Stored) (b : ℕ) (z y : Stored) → slice_get h b ≡ Some z → slice_get (set h b y) b ≡ Some y
set_there [] b z y e = cc
set_there (x ∷ h) zero z y e = refl
set_there (x ∷ h) (suc b) z y e = set_there h b z y e

pub set_items_stay : SetItemsStay
set_items_stay links s a depth element b items k v is = record {
  own = is.own;
  stored = others_stay s.heap a b links is.own items (array (set items k v)) is.stored is.items_are;
  depth_is = is.depth_is;
  element_is = is.element_is;
  items_at = is.items_at;
  items_are = set_there s.heap b (array items) (array (set items k v)) is.items_are;
}
