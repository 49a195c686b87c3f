-- The helpers that the code of bodies uses.
use Rattle.std.specs.Prelude.{◌≡◌, Bool, true, false, List, Contains, codes}
use Rattle.sj_emit_help_spec.specs.declared.kinds.Helper.{Helper}
use Rattle.sj_emit_help_spec.specs.declared.kinds.Helper.TheVariants as helpers
use Rattle.sj_emit_help_spec.specs.declared.kinds.Kind.{Kind}
use Rattle.sj_infos.specs.declared.infos.Info.{Info}
use Rattle.sj_infos.specs.declared.infos.Info.TheVariants.{Throws, ArrayForm}

abbrev pub is_division : Helper → Bool
is_division helpers.IntQuotient = true
is_division helpers.IntRemainder = true
is_division helpers.LongQuotient = true
is_division helpers.LongRemainder = true
is_division _ = false

-- a body that asks for these may use the helper itself: a check, a division, a cast, the length of an array that is made, an index, and an item that is set where it asks for the exception that this throws, what makes
-- arrays, tests for them and casts to them where it asks for arrays, and boxed chars, tests and identity
pub data UsesIt (infos : List Info) : Helper → Type 0 where
  a_check : Contains infos (Throws (codes "java.lang.NullPointerException")) → UsesIt infos helpers.NotNull
  a_division : (h : Helper) → is_division h ≡ true → Contains infos (Throws (codes "java.lang.ArithmeticException")) → UsesIt infos h
  a_char : UsesIt infos helpers.BoxedChar
  a_test : (k : Kind) → UsesIt infos (helpers.TestOf k)
  a_cast : (k : Kind) → Contains infos (Throws (codes "java.lang.ClassCastException")) → UsesIt infos (helpers.CastTo k)
  an_identity : UsesIt infos helpers.Equal
  a_new_array : Contains infos ArrayForm → Contains infos (Throws (codes "java.lang.NegativeArraySizeException")) → UsesIt infos helpers.MakeArray
  an_array_of_items : Contains infos ArrayForm → UsesIt infos helpers.ArrayClass
  an_item : Contains infos (Throws (codes "java.lang.ArrayIndexOutOfBoundsException")) → UsesIt infos helpers.Get
  a_primitive_item : Contains infos (Throws (codes "java.lang.ArrayIndexOutOfBoundsException")) → UsesIt infos helpers.Set
  another_item : Contains infos (Throws (codes "java.lang.ArrayIndexOutOfBoundsException")) → Contains infos (Throws (codes "java.lang.ArrayStoreException")) → UsesIt infos helpers.Put
  a_test_of_arrays : Contains infos ArrayForm → UsesIt infos helpers.TestOfArray
  a_cast_to_arrays : Contains infos ArrayForm → Contains infos (Throws (codes "java.lang.ClassCastException")) → UsesIt infos helpers.CastToArray
