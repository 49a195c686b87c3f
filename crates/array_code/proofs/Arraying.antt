-- Objects of arrays are made.
use Rattle.std.proofs.Common.{◌≡◌, ℕ, zero, suc, ◌^◌, Bool, true, false, List, [], ◌∷◌, ◌++◌, pos, negsuc, replicate, slice_get, length, Option, Some, None, refl, ap, ◌∙◌, arith}
use Rattle.std.proofs.lemmas.Bool.Decides.{nat_tests}
use Rattle.std.proofs.lemmas.List.{length-replicate}
use Rattle.std.specs.Prelude.{ℤ, int_lt, nat_lt, codes, if◌then◌else◌}
use Rattle.js_tree.specs.Names.{is_same_text}
use Rattle.js_tree.specs.Terms.{Name, Member, Expression, Expressions, expression, no_expressions, name_use, this_use, method_call_of, new_of, new_array_of, binary_of, Statements, no_statements, statement, assign_property, return_of}
use Rattle.js_tree.specs.Views.{expressions_of}
use Rattle.js_tree.specs.declared.operators.BinaryOperator.TheVariants.{Less}
use Rattle.outcomes.specs.Outcome.{Out, done, going, then_do}
use Rattle.js_mean.specs.Classes.{Code, constructor_among, members_of}
use Rattle.js_mean.specs.Objects.{with_property, allocated, next_address, with_stored, with_heap, stored_callee, filled, callee}
use Rattle.js_mean.specs.States.{Value, undefined, boolean, number, object, class, ClassLink, Making, making, Stored, plain, array, Scope, State, ExpressionEnd, gives, StatementEnd, with_value, next_statement, Program}
use Rattle.js_mean.specs.Meaning.{Low, below, code_call, construct, construct_by, construct_value, evaluate, execute_all, arguments, in_order, member_scope, function_scope, made, with_this, made_array, array_made, call_property, given_in}
use Rattle.class_code.proofs.Making.{last_at, last_set, sets}
use Rattle.class_casts.specs.FailureVariants.{Size}
use Rattle.class_casts.specs.Helpers.{calls, helper_name, num, var}
use Rattle.class_casts.specs.HelperVariants.{ArrayClass, MakeArray, Throws}
use Rattle.class_casts.proofs.Bridge.{name_at_top, return_hands_on}
use Rattle.array_code.specs.Arrays.{array_members, array_properties, ArrayClassMakes, ArraysStand, MakingTells, ArraysAreMade, MadeAreArrays}
use Rattle.array_code.specs.Codes.{helper_code, helper_call, UsesThrower, GivesNone}
use Rattle.array_code.proofs.Stepping.{nothing_behind, call_comes, passed_by, called_first, rest_of}

pub none_below : (n : ℕ) → nat_lt n 0 ≡ false
none_below n = grind (arith, nat_tests)

-- the constructor of arrays
module _ (p : Program) (n : ℕ) (l top : ClassLink) (above target : List ClassLink) (depth element items : Value) (s : State) where
  abbrev ls : List ClassLink
  ls = top ∷ above

  abbrev m : Making
  m = record { above = ls; target = target; handed = [] }

  abbrev code : Code
  code = constructor_among ls array_members

  abbrev before : Scope
  before = member_scope l ls (making m None) code (depth ∷ element ∷ items ∷ [])

  abbrev inside : Scope
  inside = member_scope l ls (making m (Some (object (next_address s)))) code (depth ∷ element ∷ items ∷ [])

  abbrev set_to : Name → Statements → Statements
  set_to y rest = statement (assign_property this_use y (name_use y)) rest

  abbrev behind_super : Statements
  behind_super = set_to (codes "n") (set_to (codes "e") (set_to (codes "a") no_statements))

  set_one : (y : Name) (v : Value) (rest : Statements) (own : Name → Option Value) → evaluate p (below p n) (name_use y) inside (allocated target own s) ≡ done (gives v (allocated target own s)) → is_same_text y (codes "__proto__") ≡ false → execute_all p (below p n) (set_to y rest) inside (allocated target own s) ≡ execute_all p (below p n) rest inside (allocated target (with_property y v own) s)
  set_one y v rest own h free = ap (λ (o : Out StatementEnd). then_do o (next_statement (execute_all p (below p n) rest))) (sets p target s (below p n) inside m y (name_use y) v own free refl h)

  pub object_made : (own : Name → Option Value) → members_of p l ≡ Some array_members → construct p (below p n) ls target [] s ≡ done (gives (object (next_address s)) (allocated target own s)) → construct p (below p (suc n)) (l ∷ ls) target (depth ∷ element ∷ items ∷ []) s ≡ done (gives (object (next_address s)) (allocated target (array_properties depth element items own) s))
  object_made own members super =
      ap (λ (o : Option (List Member)). construct_by (below p (suc n)) l ls o target (depth ∷ element ∷ items ∷ []) s) members
      ∙ ap (λ (o : Out ExpressionEnd). then_do (then_do (then_do o (with_this m None before)) (next_statement (execute_all p (below p n) behind_super))) made) super
      ∙ ap (λ (o : Out StatementEnd). then_do o made)
      (set_one (codes "n") depth (set_to (codes "e") (set_to (codes "a") no_statements)) own refl refl
      ∙ set_one (codes "e") element (set_to (codes "a") no_statements) (with_property (codes "n") depth own) refl refl
      ∙ set_one (codes "a") items no_statements (with_property (codes "e") element (with_property (codes "n") depth own)) refl refl)

module _ (p : Program) (n : ℕ) (l top : ClassLink) (above target : List ClassLink) (vs : List Value) (s : State) where
  abbrev upper : List ClassLink
  upper = top ∷ above

  abbrev making_it : Making
  making_it = record { above = upper; target = target; handed = [] }

  super_goes : members_of p l ≡ Some array_members → construct p (below p n) upper target [] s ≡ going → construct p (below p (suc n)) (l ∷ upper) target vs s ≡ going
  super_goes members super =
      ap (λ (o : Option (List Member)). construct_by (below p (suc n)) l upper o target vs s) members
      ∙ ap (λ (o : Out ExpressionEnd). then_do (then_do (then_do o (with_this making_it None (member_scope l upper (making making_it None) (constructor_among upper array_members) vs))) (next_statement (execute_all p (below p n) (set_to p n l top above target undefined undefined undefined s (codes "n") (set_to p n l top above target undefined undefined undefined s (codes "e") (set_to p n l top above target undefined undefined undefined s (codes "a") no_statements)))))) made) super

pub array_class_makes : ArrayClassMakes
array_class_makes = record {
  made = λ p n l top above target depth element items own s members super. object_made p n l top above target depth element items s own members super;
  without = λ p l above target vs s members. ap (λ (o : Option (List Member)). construct_by (below p 0) l above o target vs s) members;
  super_going = λ p n l top above target vs s members super. super_goes p n l top above target vs s members super;
}

-- the array of its items, which is filled
module _ (p : Program) (low : Low) (sc : Scope) (s : State) (k : ℕ) (filling : Value) where
  abbrev length_use : Expression
  length_use = name_use (codes "l")

  abbrev filling_use : Expression
  filling_use = name_use (codes "z")

  abbrev bare : List Value
  bare = replicate k undefined

  abbrev bare_state : State
  bare_state = with_stored (array bare) s

  abbrev called : ExpressionEnd → Out ExpressionEnd
  called = with_value (λ v t. call_property p low (arguments p low (expression filling_use no_expressions)) v (callee p t v (codes "fill")) sc t)

  pub items_made : evaluate p low length_use sc s ≡ done (gives (number (pos k)) s) → evaluate p low filling_use sc bare_state ≡ done (gives filling bare_state) → nat_lt k (2 ^ 32) ≡ true →
      evaluate p low (method_call_of (new_array_of length_use) (codes "fill") (expression filling_use no_expressions)) sc s ≡ done (gives (object (next_address s)) (with_stored (array (replicate k filling)) s))
  items_made length_is filling_is small =
      ap (λ (o : Out ExpressionEnd). then_do (then_do o (with_value (λ v. array_made (v ∷ []) sc))) called) length_is
      ∙ ap (λ (b : Bool). then_do (made_array (if b then Some bare else None) sc s) called) small
      ∙ ap (λ (o : Option Stored). call_property p low (arguments p low (expression filling_use no_expressions)) (object (next_address s)) (stored_callee p (next_address s) o (codes "fill")) sc bare_state) (last_at s.heap (array bare))
      ∙ ap (λ (o : Out ExpressionEnd). then_do o (with_value (λ v t. given_in (object (next_address s)) (filled (next_address s) (slice_get t.heap (next_address s)) v t)))) filling_is
      ∙ ap (λ (o : Option Stored). given_in (object (next_address s)) (filled (next_address s) o filling bare_state)) (last_at s.heap (array bare))
      ∙ ap (λ (h : List Stored). done (gives (object (next_address s)) (with_heap h bare_state))) (last_set s.heap (array (replicate (length bare) filling)) (array bare))
      ∙ ap (λ (i : ℕ). done (gives (object (next_address s)) (with_stored (array (replicate i filling)) s))) (length-replicate k undefined)

module _ (p : Program) (n : ℕ) (g : Name) (s : State) (depth element filling : Value) (z : ℤ) where
  abbrev low : Low
  low = below p n

  abbrev sc : Scope
  sc = function_scope g (helper_code MakeArray) (depth ∷ element ∷ number z ∷ filling ∷ [])

  abbrev too_short : Expression
  too_short = binary_of (var (codes "l")) Less (num 0)

  abbrev refusing : Expression
  refusing = calls (Throws Size) (var (codes "l") ∷ [])

  abbrev object_parts : Expressions
  object_parts = expressions_of (var (codes "n") ∷ var (codes "e") ∷ method_call_of (new_array_of (var (codes "l"))) (codes "fill") (expressions_of (var (codes "z") ∷ [])) ∷ [])

  abbrev making_object : Expression
  making_object = new_of (helper_name ArrayClass) object_parts

  abbrev last : Statements
  last = statement (return_of making_object) no_statements

  made_of : (links : List ClassLink) (k : ℕ) → z ≡ pos k → ArraysStand p g links s → nat_lt k (2 ^ 32) ≡ true → evaluate p low making_object sc s ≡ construct p low links links (depth ∷ element ∷ object (next_address s) ∷ []) (with_stored (array (replicate k filling)) s)
  made_of links k is st small =
      ap (λ (o : Out ExpressionEnd). then_do o (with_value (λ f. in_order (arguments p low object_parts) (construct_value p low f) sc))) (name_at_top p (helper_name ArrayClass) st.const (class links) sc s refl st.cell_is)
      ∙ ap (λ (o : Out ExpressionEnd). then_do o (with_value (λ w. construct_value p low (class links) (depth ∷ element ∷ w ∷ []) sc))) (items_made p low sc s k filling (ap (λ (y : ℤ). done (gives (number y) s)) is) refl small)

  pub of_length : (links : List ClassLink) (k : ℕ) → z ≡ pos k → ArraysStand p g links s → nat_lt k (2 ^ 32) ≡ true → code_call (below p (suc n)) g (Some (helper_code MakeArray)) (depth ∷ element ∷ number z ∷ filling ∷ []) s ≡ construct p low links links (depth ∷ element ∷ object (next_address s) ∷ []) (with_stored (array (replicate k filling)) s)
  of_length links k is st small =
      passed_by p low sc s too_short refusing last (ap (λ (y : ℤ). done (gives (boolean (int_lt y (pos 0))) s)) is ∙ ap (λ (b : Bool). done (gives (boolean b) s)) (none_below k))
      ∙ return_hands_on p low making_object no_statements sc s
      ∙ made_of links k is st small

  pub of_negative : (size : UsesThrower p g (Throws Size) s) → int_lt z (pos 0) ≡ true → GivesNone (helper_call p n size.home (Throws Size) (number z ∷ []) s) → code_call (below p (suc n)) g (Some (helper_code MakeArray)) (depth ∷ element ∷ number z ∷ filling ∷ []) s ≡ helper_call p n size.home (Throws Size) (number z ∷ []) s
  of_negative size negative none =
      called_first p low sc s too_short refusing last (ap (λ (b : Bool). done (gives (boolean b) s)) negative)
      ∙ ap (λ (o : Out ExpressionEnd). then_do o (with_value (rest_of p low sc s last))) (call_comes p low sc s (helper_name (Throws Size)) size.home (expressions_of (var (codes "l") ∷ [])) (number z ∷ []) refl size.top (λ act. refl))
      ∙ nothing_behind (helper_call p n size.home (Throws Size) (number z ∷ []) s) (rest_of p low sc s last) none

pub making_tells : MakingTells
making_tells = record {
  of_length = λ p n g links s k depth element filling st small. of_length p n g s depth element filling (pos k) links k refl st small;
  of_negative = λ p n g s k depth element filling size none. of_negative p n g s depth element filling (negsuc k) size refl none;
}

pub arrays_are_made : ArraysAreMade
arrays_are_made p n g l top above s k depth element filling own st members small super =
    of_length p (suc n) g s depth element filling (pos k) (l ∷ top ∷ above) k refl st small
    ∙ object_made p n l top above (l ∷ top ∷ above) depth element (object (next_address s)) (with_stored (array (replicate k filling)) s) own members super

kept_at : (h : List Stored) (z y : Stored) (i : ℕ) → slice_get h i ≡ Some y → slice_get (h ++ z ∷ []) i ≡ Some y
kept_at [] z y i e = cc
kept_at (x ∷ h) z y zero e = e
kept_at (x ∷ h) z y (suc i) e = kept_at h z y i e

pub made_are_arrays : MadeAreArrays
made_are_arrays links s k depth element filling own = record {
  own = (array_properties (number (pos depth)) element (object (next_address s)) own);
  stored = last_at (s.heap ++ array (replicate k filling) ∷ []) (plain links (array_properties (number (pos depth)) element (object (next_address s)) own));
  depth_is = refl;
  element_is = refl;
  items_at = refl;
  items_are = kept_at (s.heap ++ array (replicate k filling) ∷ []) (plain links (array_properties (number (pos depth)) element (object (next_address s)) own)) (array (replicate k filling)) (length s.heap) (last_at s.heap (array (replicate k filling)));
}
