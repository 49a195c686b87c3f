-- Small bodies: which are of the forms that are built.
use Rattle.std.specs.Prelude.{◌≡◌, ℕ, pos, Bool, true, false, List, [], ◌∷◌, Some, None, codes}
use Rattle.sj_names.specs.declared.method_names.MethodName.{MethodName}
use Rattle.sj_names.specs.declared.method_names.Namespace.{Namespace}
use Rattle.sj_names.specs.declared.method_names.Namespace.TheVariants.{Public, PublicStatic, Private, Constructor}
use Rattle.sj_names.specs.declared.references.BaseRef.{BaseRef}
use Rattle.sj_names.specs.declared.references.TypeRef.{TypeRef}
use Rattle.sj_trees.specs.Erase.{nowhere}
use Rattle.sj_trees.specs.Term.{Term, Terms, no_terms, more_terms, no_cases, more_cases, var_def, load_module, store_module, new_array, array_value, array_length, array_select, skip, block_of, labeled, assign, return_to, if_then, try_catch, try_finally, match_on, throw, new_object, select, select_static, apply, apply_statically, apply_static, this_ref, binary_op, is_instance_of, as_instance_of, char_literal, int_literal, long_literal, var_ref}
use Rattle.sj_trees.specs.declared.classes.MethodDef.{MethodDef}
use Rattle.sj_trees.specs.declared.operators.BinaryOp.{BinaryOp}
use Rattle.sj_trees.specs.declared.operators.BinaryOp.TheVariants.{StrictEqual, StrictNotEqual, IntDivide, IntEqual, LongRemainder}
use Rattle.sj_trees.specs.declared.types.IrType.{IrType}
use Rattle.sj_trees.specs.declared.types.IrType.TheVariants.{Any, Boolean, Char, Int, Long, String, Null, Class, Array, NoType}
use Rattle.sj_desugar_spec.specs.Lookup.{own_targets}
use Rattle.agree_body_forms.specs.Built.{Usable, anything, is_built, is_built_method, is_object_body, body_boxes}

abbrev pub method_name : TypeRef → MethodName
method_name param = record { simple = codes "m"; params = param ∷ []; result = Some TypeRef.Void }

-- a static method with this body that gives a value of this type, and one whose value is given up
abbrev pub giving : IrType → Term → MethodDef
giving result body = record { pos = nowhere; namespace = PublicStatic; name = method_name TypeRef.Int; params = []; result = result; body = Some body; hash = None }

abbrev pub static : Term → MethodDef
static body = giving NoType body

-- the body is of the forms that are built, where its value is given up
abbrev pub builds : Term → Bool
builds body = is_object_body (static body) body

abbrev pub nothing : Term
nothing = skip nowhere

abbrev pub letter : Term
letter = char_literal nowhere 97

abbrev pub number : ℕ → Term
number n = int_literal nowhere (pos n)

abbrev pub object : Term
object = new_object nowhere (codes "A") (method_name TypeRef.Int) no_terms

-- a new object of a constructor that has a value, which isn't built
abbrev pub unbuilt : Term
unbuilt = new_object nowhere (codes "A") (record { simple = codes "m"; params = []; result = Some TypeRef.Int }) no_terms

-- a new array
abbrev pub array : Term
array = new_array nowhere (record { base = BaseRef.Int; dimensions = 1 }) (number 1)

-- the one object of the class is this value
abbrev pub storing : Term → Term
storing value = store_module nowhere (codes "A") value

-- what the block throws is caught for the handler
abbrev pub catching : Term → Term → Term
catching block handler = try_catch nowhere block (codes "e") handler NoType

-- behind the block the finalizer runs
abbrev pub finalizing : Term → Term → Term
finalizing block finalizer = try_finally nowhere block finalizer

abbrev pub catching_value : Term → Term → Term
catching_value block handler = try_catch nowhere block (codes "e") handler Any

-- a test and a cast of a value
abbrev pub tested : IrType → Term → Term
tested t value = is_instance_of nowhere value t

abbrev pub casted : IrType → Term → Term
casted t value = as_instance_of nowhere value t

-- a call that isn't looked up
abbrev pub direct : Namespace → Term → IrType → Term
direct namespace receiver t = apply_statically nowhere receiver (codes "A") namespace (method_name TypeRef.Int) (more_terms (number 1) no_terms) t

-- a call that is looked up on this receiver
abbrev pub called : Term → MethodName → Term
called receiver m = apply nowhere receiver m (more_terms (number 1) no_terms) NoType

abbrev pub local_of : IrType → Term
local_of t = var_ref nowhere (codes "x") t

-- an operator between a local and this divisor
abbrev pub operation : BinaryOp → IrType → Term → Term
operation op t d = binary_op nowhere op (var_ref nowhere (codes "x") t) d

abbrev pub leave : Term → Term
leave value = return_to nowhere value (codes "l")

abbrev pub inside : IrType → Term → Term
inside t body = labeled nowhere (codes "l") t body

abbrev pub call : TypeRef → Term → Term
call param argument = apply_static nowhere (codes "A") PublicStatic (method_name param) (more_terms argument no_terms) NoType

-- a choice that has one case with these keys and this body
abbrev pub case : List ℕ → Term → Term
case [] body = match_on nowhere (number 1) (more_cases [] body no_cases) nothing NoType
case (k ∷ ks) body = match_on nowhere (number 1) (more_cases (pos k ∷ []) body no_cases) nothing NoType

-- a field can be used, whatever its class, its name and its type are
abbrev pub with_fields : Usable
with_fields = record { linked = λ m. true; lookup = own_targets; received = λ m. false; looked_up = λ c m. false; dispatched = λ m. false; reflected = λ m. false; built = λ m. false; made = λ c. false; live = λ c. false; field = λ c f t. true; static_field = λ c f t. false; static_setter = λ c f t. false; modules = λ c. false; stored = λ c. false; tests = λ t. false; casts = λ t. false; bases = λ c. false; arrays = false; on_arrays = λ m. false; helper = λ x. false; objects = false }

-- there is a test for each type, and there is a cast to each
abbrev pub with_tests : Usable
with_tests = record with_fields { tests = λ t. true }

abbrev pub with_casts : Usable
with_casts = record with_fields { casts = λ t. true }

-- each class can be loaded, and the one object of each can be stored
abbrev pub with_modules : Usable
with_modules = record with_fields { modules = λ c. true }

abbrev pub with_stores : Usable
with_stores = record with_fields { stored = λ c. true }

-- objects that hold chars can be made, and so can arrays
abbrev pub with_boxes : Usable
with_boxes = record { linked = λ m. true; lookup = own_targets; received = λ m. false; looked_up = λ c m. false; dispatched = λ m. false; reflected = λ m. false; built = λ m. false; made = λ c. false; live = λ c. false; field = λ c f t. true; static_field = λ c f t. false; static_setter = λ c f t. false; modules = λ c. false; stored = λ c. false; tests = λ t. false; casts = λ t. false; bases = λ c. false; arrays = true; on_arrays = λ m. false; helper = λ x. true; objects = false }

-- an array of objects of a class, one of these items, and an item of an array
abbrev pub of_class : Term
of_class = new_array nowhere (record { base = BaseRef.Class (codes "A"); dimensions = 1 }) (number 1)

abbrev pub items_of : Terms → Term
items_of ts = array_value nowhere (record { base = BaseRef.Int; dimensions = 1 }) ts

abbrev pub item_of : Term → Term
item_of a = array_select nowhere a (number 0) Int

abbrev pub setting_item : Term → Term → Term
setting_item a value = assign nowhere (item_of a) value

-- the code of a method that gives a value of this type makes an object that holds a char
abbrev pub makes_box : IrType → Term → Bool
makes_box result body = body_boxes (giving result body) body

abbrev pub two : Term → Term → Term
two a b = block_of nowhere (more_terms a (more_terms b no_terms))

abbrev pub choice : IrType → Term → Term → Term
choice t a b = if_then nowhere (var_ref nowhere (codes "b") Boolean) a b t

-- a call for a value of this type
abbrev pub call_for : IrType → TypeRef → Term → Term
call_for t param argument = apply_static nowhere (codes "A") PublicStatic (method_name param) (more_terms argument no_terms) t

-- a local of this type
abbrev pub local : IrType → Term → Term
local t value = var_def nowhere (codes "x") t false value

-- an assignment to a field of this type
abbrev pub setting : IrType → Term → Term
setting t value = assign nowhere (select nowhere (var_ref nowhere (codes "x") Any) (codes "A") (codes "f") t) value

pub record WorkedForms : Type 0 where
  pub nothing_at_all : builds nothing ≡ true
  pub makes_an_object : builds object ≡ true
  pub makes_an_object_of_a_char : builds (new_object nowhere (codes "A") (method_name TypeRef.Int) (more_terms letter no_terms)) ≡ true
  pub sets_a_field : builds (assign nowhere (select nowhere object (codes "A") (codes "f") Int) (number 1)) ≡ true
  pub sets_a_field_to_a_char : builds (assign nowhere (select nowhere object (codes "A") (codes "f") Any) letter) ≡ true
  pub sets_a_static_field : builds (assign nowhere (select_static nowhere (codes "A") (codes "f") Int) (number 1)) ≡ true
  pub sets_a_static_field_to_a_char : builds (assign nowhere (select_static nowhere (codes "A") (codes "f") Any) letter) ≡ true
  pub sets_a_static_field_to_what_is_not_built : builds (assign nowhere (select_static nowhere (codes "A") (codes "f") Any) unbuilt) ≡ false
  pub reads_a_static_field : builds (select_static nowhere (codes "A") (codes "f") Int) ≡ true
  pub reads_a_static_field_it_can_not_use : is_built with_fields (λ e. true) (select_static nowhere (codes "A") (codes "f") Int) ≡ false
  pub loads_a_module : builds (load_module nowhere (codes "A")) ≡ true
  pub loads_a_module_it_can_not_use : is_built with_fields (λ e. true) (load_module nowhere (codes "A")) ≡ false
  pub loads_a_module_it_can_use : is_built with_modules (λ e. true) (load_module nowhere (codes "A")) ≡ true
  pub stores_a_module : builds (storing object) ≡ true
  pub stores_a_module_of_what_is_not_built : builds (storing unbuilt) ≡ false
  pub stores_a_module_it_can_not_use : is_built with_modules (λ e. true) (storing (number 1)) ≡ false
  pub stores_a_module_it_can_use : is_built with_stores (λ e. true) (storing (number 1)) ≡ true
  pub reads_a_field : builds (select nowhere object (codes "A") (codes "f") Int) ≡ true
  pub reads_a_field_of_what_is_not_built : builds (select nowhere unbuilt (codes "A") (codes "f") Int) ≡ false
  pub throws : builds (throw nowhere object) ≡ true
  pub catches : builds (catching (throw nowhere object) nothing) ≡ true
  pub catches_in_what_is_not_built : builds (catching unbuilt nothing) ≡ false
  pub catches_for_what_is_not_built : builds (catching nothing unbuilt) ≡ false
  pub catches_without_objects : is_built anything (λ e. true) (catching nothing nothing) ≡ false
  pub finalizes : builds (finalizing nothing nothing) ≡ true
  pub finalizes_what_is_not_built : builds (finalizing unbuilt nothing) ≡ false
  pub finalizes_by_what_is_not_built : builds (finalizing nothing unbuilt) ≡ false
  pub throws_a_char : builds (throw nowhere letter) ≡ true
  pub calls_a_private_method : builds (direct Private object NoType) ≡ true
  pub calls_a_private_method_on_a_char : builds (direct Private letter NoType) ≡ true
  pub calls_a_private_method_on_what_is_not_built : builds (direct Private unbuilt NoType) ≡ false
  pub calls_a_public_method : builds (direct Public object NoType) ≡ true
  pub calls_a_constructor : builds (direct Constructor object NoType) ≡ true
  pub calls_a_constructor_for_a_value : builds (direct Constructor object Int) ≡ true
  pub calls_a_constructor_that_has_a_value : builds (apply_statically nowhere object (codes "A") Constructor (record { simple = codes "m"; params = []; result = Some TypeRef.Int }) no_terms Int) ≡ true
  pub makes_an_object_by_a_constructor_that_has_a_value : builds (new_object nowhere (codes "A") (record { simple = codes "m"; params = []; result = Some TypeRef.Int }) no_terms) ≡ false
  pub names_its_receiver : builds (this_ref nowhere Any) ≡ true
  pub calls_a_method_that_is_looked_up : builds (called object (method_name TypeRef.Int)) ≡ true
  pub calls_a_method_of_a_number : builds (called (number 1) (method_name TypeRef.Int)) ≡ true
  pub calls_a_method_of_a_char : builds (called letter (method_name TypeRef.Int)) ≡ true
  pub calls_a_method_of_a_hijacked_class : builds (called (local_of (Class (codes "java.lang.Byte"))) (method_name TypeRef.Int)) ≡ true
  pub calls_a_method_of_any_value : builds (called (local_of Any) (method_name TypeRef.Int)) ≡ true
  pub calls_a_method_of_an_array : builds (called (local_of (Array (record { base = BaseRef.Int; dimensions = 1 }))) (method_name TypeRef.Int)) ≡ true
  pub calls_a_number_by_a_reflective_name : builds (called (number 1) (record { simple = codes "m"; params = TypeRef.Int ∷ []; result = None })) ≡ true
  pub calls_a_method_of_a_number_with_what_is_not_built : builds (apply nowhere (number 1) (method_name TypeRef.Int) (more_terms unbuilt no_terms) NoType) ≡ false
  pub sets_a_field_it_can_use : is_built with_fields (λ e. true) (setting Int (number 1)) ≡ true
  pub field_set_by_a_call : is_built with_fields (λ e. true) (setting Int (apply_static nowhere (codes "A") PublicStatic (method_name TypeRef.Int) (more_terms (number 1) no_terms) Int)) ≡ true
  pub field_of_an_unchecked_object : is_built with_fields (λ e. false) (setting Int (number 1)) ≡ false
  pub identity : builds (operation StrictEqual Any (number 1)) ≡ true
  pub no_identity : builds (operation StrictNotEqual Any (number 1)) ≡ true
  pub identity_with_a_char : builds (operation StrictEqual Any letter) ≡ true
  pub identity_with_what_is_not_built : builds (operation StrictEqual Any unbuilt) ≡ false
  pub identity_without_a_helper : is_built with_fields (λ e. true) (operation StrictEqual Any (number 1)) ≡ false
  pub identity_it_can_use : is_built with_boxes (λ e. true) (operation StrictEqual Any (number 1)) ≡ true
  pub test_of_an_int : builds (tested Int object) ≡ true
  pub test_of_a_text : builds (tested String object) ≡ true
  pub test_of_a_char : builds (tested Char letter) ≡ true
  pub test_of_null : builds (tested Null object) ≡ false
  pub test_of_a_class : builds (tested (Class (codes "A")) object) ≡ true
  pub test_of_a_class_of_what_is_not_built : builds (tested (Class (codes "A")) unbuilt) ≡ false
  pub test_of_an_array : builds (tested (Array (record { base = BaseRef.Int; dimensions = 1 })) object) ≡ true
  pub test_of_an_array_of_a_class : builds (tested (Array (record { base = BaseRef.Class (codes "A"); dimensions = 2 })) object) ≡ true
  pub test_of_an_array_of_what_is_not_built : builds (tested (Array (record { base = BaseRef.Int; dimensions = 1 })) unbuilt) ≡ false
  pub test_of_an_int_of_what_is_not_built : builds (tested Int unbuilt) ≡ false
  pub test_it_can_use : is_built with_tests (λ e. true) (tested String (number 1)) ≡ true
  pub test_of_what_is_not_built : is_built with_tests (λ e. true) (tested String unbuilt) ≡ false
  pub cast_to_an_int : builds (casted Int object) ≡ true
  pub cast_to_a_text : builds (casted String object) ≡ true
  pub cast_of_a_char : builds (casted Char letter) ≡ true
  pub cast_to_null : builds (casted Null object) ≡ false
  pub cast_to_a_class : builds (casted (Class (codes "A")) object) ≡ true
  pub cast_to_a_class_of_what_is_not_built : builds (casted (Class (codes "A")) unbuilt) ≡ false
  pub cast_to_an_array : builds (casted (Array (record { base = BaseRef.Int; dimensions = 1 })) object) ≡ true
  pub cast_to_an_array_of_a_class : builds (casted (Array (record { base = BaseRef.Class (codes "A"); dimensions = 2 })) object) ≡ true
  pub cast_to_an_array_of_what_is_not_built : builds (casted (Array (record { base = BaseRef.Int; dimensions = 1 })) unbuilt) ≡ false
  pub cast_to_an_int_of_what_is_not_built : builds (casted Int unbuilt) ≡ false
  pub cast_to_any : builds (casted Any object) ≡ true
  pub cast_of_a_char_to_any : builds (casted Any letter) ≡ true
  pub cast_to_any_of_what_is_not_built : builds (casted Any unbuilt) ≡ false
  pub cast_it_can_use : is_built with_casts (λ e. true) (casted String (number 1)) ≡ true
  pub cast_with_tests_alone : is_built with_tests (λ e. true) (casted String (number 1)) ≡ false
  pub test_with_casts_alone : is_built with_casts (λ e. true) (tested String (number 1)) ≡ false
  pub length_of_an_array : builds (array_length nowhere (local_of (Array (record { base = BaseRef.Int; dimensions = 1 })))) ≡ true
  pub length_of_an_unchecked_array : is_built with_boxes (λ e. false) (array_length nowhere (local_of Null)) ≡ false
  pub length_of_what_is_not_built : builds (array_length nowhere unbuilt) ≡ false
  pub makes_an_array : builds array ≡ true
  pub makes_an_array_of_a_class : builds of_class ≡ true
  pub makes_an_array_of_a_length_that_is_not_built : builds (new_array nowhere (record { base = BaseRef.Int; dimensions = 1 }) unbuilt) ≡ false
  pub items : builds (items_of no_terms) ≡ true
  pub items_that_are_not_built : builds (items_of (more_terms (number 1) (more_terms unbuilt no_terms))) ≡ false
  pub item : builds (item_of (local_of Null)) ≡ true
  pub item_of_what_is_not_built : builds (item_of unbuilt) ≡ false
  pub item_at_what_is_not_built : builds (array_select nowhere array unbuilt Int) ≡ false
  pub sets_an_item : builds (setting_item (local_of Null) (number 1)) ≡ true
  pub sets_an_item_of_what_is_not_built : builds (setting_item unbuilt (number 1)) ≡ false
  pub sets_an_item_at_what_is_not_built : builds (assign nowhere (array_select nowhere array unbuilt Int) (number 1)) ≡ false
  pub sets_an_item_to_what_is_not_built : builds (setting_item array unbuilt) ≡ false
  pub array_it_can_use : is_built with_boxes (λ e. true) array ≡ true
  pub array_without_a_helper : is_built (record with_fields { arrays = true }) (λ e. true) array ≡ false
  pub array_where_none_can_be_made : is_built (record with_boxes { arrays = false }) (λ e. true) array ≡ false
  pub items_where_no_array_can_be_made : is_built (record with_boxes { arrays = false }) (λ e. true) (items_of no_terms) ≡ false
  pub array_of_a_class_that_has_no_name : is_built with_boxes (λ e. true) of_class ≡ false
  pub items_it_can_use : is_built with_boxes (λ e. true) (items_of (more_terms (number 1) no_terms)) ≡ true
  pub item_it_can_use : is_built with_boxes (λ e. true) (item_of array) ≡ true
  pub item_of_an_unchecked_array : is_built with_boxes (λ e. false) (item_of array) ≡ false
  pub item_without_a_helper : is_built with_fields (λ e. true) (item_of (local_of Null)) ≡ false
  pub sets_an_item_it_can_use : is_built with_boxes (λ e. true) (setting_item array (number 1)) ≡ true
  pub sets_an_item_without_a_helper : is_built with_fields (λ e. true) (setting_item (local_of Null) (number 1)) ≡ false
  pub by_two : builds (operation IntDivide Int (number 2)) ≡ true
  pub by_zero : builds (operation IntDivide Int (number 0)) ≡ true
  pub by_a_local : builds (operation IntDivide Int (var_ref nowhere (codes "y") Int)) ≡ true
  pub by_a_local_without_a_helper : is_built with_fields (λ e. true) (operation IntDivide Int (var_ref nowhere (codes "y") Int)) ≡ false
  pub by_zero_without_a_helper : is_built with_fields (λ e. true) (operation IntDivide Int (number 0)) ≡ false
  pub by_two_without_a_helper : is_built with_fields (λ e. true) (operation IntDivide Int (number 2)) ≡ true
  pub long_by_two : builds (operation LongRemainder Long (long_literal nowhere (pos 2))) ≡ true
  pub long_by_an_int_without_a_helper : is_built with_fields (λ e. true) (operation LongRemainder Long (number 2)) ≡ false
  pub char_as_a_value : is_object_body (giving Any letter) letter ≡ true
  pub case_with_a_key : builds (case (1 ∷ []) unbuilt) ≡ false
  pub case_without_keys : builds (case [] unbuilt) ≡ true
  pub needs_a_box : is_built_method with_fields (λ e. true) (giving Any letter) letter ≡ false
  pub has_a_box : is_built_method with_boxes (λ e. true) (giving Any letter) letter ≡ true
  pub needs_no_box : is_built_method with_fields (λ e. true) (giving Char letter) letter ≡ true
  pub char_as_a_char : makes_box Char letter ≡ false
  pub char_given_up : makes_box NoType letter ≡ false
  pub char_at_any : makes_box Any letter ≡ true
  pub last_is_a_char : makes_box Any (two nothing letter) ≡ true
  pub first_is_a_char : makes_box Any (two letter (number 1)) ≡ false
  pub char_that_only_throws : makes_box Any (inside Char (throw nowhere object)) ≡ false
  pub char_that_throws_or_gives : makes_box Any (choice Char (throw nowhere object) letter) ≡ true
  pub char_that_is_caught_for : makes_box Any (catching_value letter (number 1)) ≡ true
  pub char_of_a_handler : makes_box Any (catching_value (number 1) letter) ≡ true
  pub char_of_neither : makes_box Any (catching_value (number 1) (number 2)) ≡ false
  pub char_that_is_finalized : makes_box Any (finalizing letter (number 1)) ≡ true
  pub char_of_a_finalizer : makes_box Any (finalizing (number 1) letter) ≡ false
  pub throws_a_char_itself : makes_box NoType (throw nowhere letter) ≡ true
  pub branch_is_a_char : makes_box Any (choice Any letter (number 1)) ≡ true
  pub branch_is_a_char_given_up : makes_box NoType (choice Any (two nothing letter) (number 1)) ≡ false
  pub char_in_an_expression : makes_box NoType (operation IntDivide Int (choice Any letter (number 1))) ≡ true
  pub choice_between_chars_at_any : makes_box Any (choice Char letter letter) ≡ true
  pub choice_between_chars : makes_box Char (choice Char letter letter) ≡ false
  pub operand_that_is_a_choice_between_chars : makes_box NoType (setting Any (choice Char letter letter)) ≡ true
  pub condition_with_a_char : makes_box NoType (if_then nowhere (call_for Boolean TypeRef.Int letter) nothing nothing NoType) ≡ true
  pub argument_is_a_char : makes_box NoType (call TypeRef.Int letter) ≡ true
  pub argument_for_a_char : makes_box NoType (call TypeRef.Char letter) ≡ false
  pub argument_in_pieces_for_a_char : makes_box NoType (call TypeRef.Char (two nothing letter)) ≡ false
  pub argument_in_pieces : makes_box NoType (call TypeRef.Int (two nothing letter)) ≡ true
  pub receiver_is_a_char : makes_box NoType (direct Private letter NoType) ≡ true
  pub call_that_gives_a_char : makes_box Any (call_for Char TypeRef.Int (number 1)) ≡ true
  pub call_that_gives_a_char_up : makes_box NoType (call_for Char TypeRef.Int (number 1)) ≡ false
  pub char_in_a_field : makes_box NoType (setting Any letter) ≡ true
  pub char_in_a_field_of_chars : makes_box NoType (setting Char letter) ≡ false
  pub char_in_a_static_field : makes_box NoType (assign nowhere (select_static nowhere (codes "A") (codes "f") Any) letter) ≡ true
  pub char_in_a_module : makes_box NoType (storing letter) ≡ true
  pub object_in_a_module : makes_box NoType (storing object) ≡ false
  pub char_in_pieces_in_a_module : makes_box NoType (storing (two (call TypeRef.Int letter) object)) ≡ true
  pub module_as_a_value : makes_box Any (load_module nowhere (codes "A")) ≡ false
  pub plain_value_of_a_local : makes_box NoType (local Any letter) ≡ true
  pub value_of_a_local_that_throws : makes_box NoType (local Any (inside Char (throw nowhere object))) ≡ false
  pub value_of_a_local_in_pieces : makes_box NoType (local Any (two nothing letter)) ≡ true
  pub leaves_to_a_value : makes_box Any (inside Char (leave letter)) ≡ true
  pub leaves_to_a_char : makes_box Char (inside Any (leave letter)) ≡ false
  pub leaves_to_what_is_given_up : makes_box NoType (inside Any (leave letter)) ≡ false
  pub leaves_the_inner_block : makes_box Any (inside Any (two (inside Char (leave letter)) (number 1))) ≡ false
  pub leaves_no_block : makes_box Any (leave letter) ≡ false
  pub case_with_a_char : makes_box Any (case (1 ∷ []) letter) ≡ true
  pub case_with_a_char_without_keys : makes_box Any (case [] letter) ≡ false
  pub char_that_is_tested : makes_box NoType (tested String letter) ≡ true
  pub number_that_is_tested : makes_box NoType (tested String (number 1)) ≡ false
  pub char_that_is_cast : makes_box NoType (casted String letter) ≡ true
  pub char_that_is_cast_to_any : makes_box NoType (casted Any letter) ≡ true
  pub value_that_is_cast_to_a_char : makes_box Char (casted Char (number 1)) ≡ false
  pub value_that_is_cast_to_a_char_at_any : makes_box Any (casted Char (number 1)) ≡ true
  pub char_at_identity : makes_box NoType (operation StrictEqual Int letter) ≡ true
  pub char_before_identity : makes_box NoType (operation StrictNotEqual Char (number 1)) ≡ true
  pub numbers_at_identity : makes_box NoType (operation StrictEqual Int (number 1)) ≡ false
  pub char_at_another_operator : makes_box NoType (operation IntEqual Char letter) ≡ false
  pub char_tested_in_an_expression : makes_box NoType (operation IntEqual Int (choice Int (tested String letter) (number 1))) ≡ true
