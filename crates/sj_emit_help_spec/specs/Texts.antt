-- The text of each helper that has the same one in every program.
use Rattle.std.specs.Prelude.{ℕ, Bool, true, false, List, [], ◌∷◌, codes}
use Rattle.js_tree.specs.Terms.{Item, Module}
use Rattle.sj_emit_help_spec.specs.declared.kinds.Failure.TheVariants as failures
use Rattle.sj_emit_help_spec.specs.declared.kinds.Helper.{Helper}
use Rattle.sj_emit_help_spec.specs.declared.kinds.Helper.TheVariants as helpers
use Rattle.sj_emit_help_spec.specs.declared.kinds.Kind.TheVariants as kinds

-- what the running code knows of the class of a kind depends on the classes above it
abbrev pub is_fixed : Helper → Bool
is_fixed (helpers.ConstantsOf k) = false
is_fixed _ = true

abbrev pub helper_text : Helper → List ℕ
helper_text (helpers.TestOf kinds.Undefined) = codes "function $isV(x) {\n  return (x === (void 0));\n}\n"
helper_text (helpers.TestOf kinds.Boolean) = codes "function $isZ(x) {\n  return ((typeof x) === \"boolean\");\n}\n"
helper_text (helpers.TestOf kinds.Char) = codes "function $isC(x) {\n  return (x instanceof $C);\n}\n"
helper_text (helpers.TestOf kinds.Byte) = codes "function $isB(x) {\n  return (((typeof x) === \"number\") && (((x << 24) >> 24) === x));\n}\n"
helper_text (helpers.TestOf kinds.Short) = codes "function $isS(x) {\n  return (((typeof x) === \"number\") && (((x << 16) >> 16) === x));\n}\n"
helper_text (helpers.TestOf kinds.Int) = codes "function $isI(x) {\n  return ((typeof x) === \"number\");\n}\n"
helper_text (helpers.TestOf kinds.Long) = codes "function $isJ(x) {\n  return ((typeof x) === \"bigint\");\n}\n"
helper_text (helpers.TestOf kinds.Text) = codes "function $isT(x) {\n  return ((typeof x) === \"string\");\n}\n"
helper_text (helpers.CastTo kinds.Undefined) = codes "function $asV(x) {\n  return ((x === null) ? (void 0) : ($isV(x) ? x : $cce(\"undef\")));\n}\n"
helper_text (helpers.CastTo kinds.Boolean) = codes "function $asZ(x) {\n  return ((x === null) ? false : ($isZ(x) ? x : $cce(\"boolean\")));\n}\n"
helper_text (helpers.CastTo kinds.Char) = codes "function $asC(x) {\n  return ((x === null) ? 0 : ($isC(x) ? x.c : $cce(\"char\")));\n}\n"
helper_text (helpers.CastTo kinds.Byte) = codes "function $asB(x) {\n  return ((x === null) ? 0 : ($isB(x) ? x : $cce(\"byte\")));\n}\n"
helper_text (helpers.CastTo kinds.Short) = codes "function $asS(x) {\n  return ((x === null) ? 0 : ($isS(x) ? x : $cce(\"short\")));\n}\n"
helper_text (helpers.CastTo kinds.Int) = codes "function $asI(x) {\n  return ((x === null) ? 0 : ($isI(x) ? x : $cce(\"int\")));\n}\n"
helper_text (helpers.CastTo kinds.Long) = codes "function $asJ(x) {\n  return ((x === null) ? 0n : ($isJ(x) ? x : $cce(\"long\")));\n}\n"
helper_text (helpers.CastTo kinds.Text) = codes "function $asT(x) {\n  return ((x === null) ? \"\" : ($isT(x) ? x : $cce(\"string\")));\n}\n"
helper_text (helpers.ConstantsOf k) = []
helper_text helpers.NotNull = codes "function $nn(x) {\n  if ((x === null)) {\n    $npe();\n  }\n  return x;\n}\n"
helper_text helpers.IntQuotient = codes "function $id(a, b) {\n  if ((b === 0)) {\n    $ae();\n  }\n  return ((a / b) | 0);\n}\n"
helper_text helpers.IntRemainder = codes "function $im(a, b) {\n  if ((b === 0)) {\n    $ae();\n  }\n  return ((a % b) | 0);\n}\n"
helper_text helpers.LongQuotient = codes "function $ld(a, b) {\n  if ((b === 0n)) {\n    $ae();\n  }\n  return BigInt.asIntN(64, (a / b));\n}\n"
helper_text helpers.LongRemainder = codes "function $lm(a, b) {\n  if ((b === 0n)) {\n    $ae();\n  }\n  return (a % b);\n}\n"
helper_text helpers.BoxedChar = codes "class $C {\n  constructor(c) {\n    this.k = $kC;\n    this.c = c;\n  }\n}\n"
helper_text helpers.Equal = codes "function $eq(x, y) {\n  return (((x instanceof $C) && (y instanceof $C)) ? (x.c === y.c) : (x === y));\n}\n"
helper_text helpers.ArrayClass = codes "class $A extends c_java_lang_Object {\n  constructor(n, e, a) {\n    super();\n    this.n = n;\n    this.e = e;\n    this.a = a;\n  }\n}\n"
helper_text helpers.MakeArray = codes "function $mk(n, e, l, z) {\n  if ((l < 0)) {\n    $nse(l);\n  }\n  return new $A(n, e, new Array(l).fill(z));\n}\n"
helper_text helpers.CheckIndex = codes "function $ix(x, i) {\n  if (((i < 0) || (i >= x.a.length))) {\n    $ioe(i);\n  }\n}\n"
helper_text helpers.Get = codes "function $get(x, i) {\n  $ix(x, i);\n  return x.a[i];\n}\n"
helper_text helpers.Set = codes "function $set(x, i, v) {\n  $ix(x, i);\n  x.a[i] = v;\n}\n"
helper_text helpers.Put = codes "function $put(x, i, v) {\n  $ix(x, i);\n  if (((v !== null) && (!$fits(v, x.n, x.e)))) {\n    $ase();\n  }\n  x.a[i] = v;\n}\n"
helper_text helpers.Covers = codes "function $cov(n, e, m, d) {\n  if ((n === m)) {\n    return (((typeof d) === \"string\") ? (e === d) : (((typeof e) === \"object\") && (d.s in e)));\n  }\n  return (((n > m) && ((typeof d) === \"object\")) && (d.s === \"i_java_lang_Object\"));\n}\n"
helper_text helpers.Fits = codes "function $fits(v, n, e) {\n  if ((n > 1)) {\n    return ((v instanceof $A) && $cov(v.n, v.e, ((n - 1) | 0), e));\n  }\n  if ((e.s === \"i_java_lang_Byte\")) {\n    return $isB(v);\n  }\n  if ((e.s === \"i_java_lang_Short\")) {\n    return $isS(v);\n  }\n  return (e.s in $kof(v));\n}\n"
helper_text helpers.ClassOf = codes "function $kof(v) {\n  if ($isV(v)) {\n    return $kV;\n  }\n  if ($isZ(v)) {\n    return $kZ;\n  }\n  if ($isI(v)) {\n    return $kI;\n  }\n  if ($isJ(v)) {\n    return $kJ;\n  }\n  if ($isT(v)) {\n    return $kT;\n  }\n  return v.k;\n}\n"
helper_text helpers.TestOfArray = codes "function $isA(x, n, e) {\n  return ((x instanceof $A) && $cov(x.n, x.e, n, e));\n}\n"
helper_text helpers.CastToArray = codes "function $asA(x, n, e, t) {\n  return (((x === null) || $isA(x, n, e)) ? x : $cce(t));\n}\n"
helper_text (helpers.Throws failures.NullReceiver) = codes "function $npe() {\n  throw ct_java_lang_NullPointerException__$3cinit$3e$$Ljava_lang_String$$V(new c_java_lang_NullPointerException(), \"null\");\n}\n"
helper_text (helpers.Throws failures.Division) = codes "function $ae() {\n  throw ct_java_lang_ArithmeticException__$3cinit$3e$$Ljava_lang_String$$V(new c_java_lang_ArithmeticException(), \"/ by zero\");\n}\n"
helper_text (helpers.Throws failures.Cast) = codes "function $cce(t) {\n  throw ct_java_lang_ClassCastException__$3cinit$3e$$Ljava_lang_String$$V(new c_java_lang_ClassCastException(), t);\n}\n"
helper_text (helpers.Throws failures.Index) = codes "function $ioe(i) {\n  throw ct_java_lang_ArrayIndexOutOfBoundsException__$3cinit$3e$$Ljava_lang_String$$V(new c_java_lang_ArrayIndexOutOfBoundsException(), (\"\" + i));\n}\n"
helper_text (helpers.Throws failures.Store) = codes "function $ase() {\n  throw ct_java_lang_ArrayStoreException__$3cinit$3e$$Ljava_lang_String$$V(new c_java_lang_ArrayStoreException(), \"bad element\");\n}\n"
helper_text (helpers.Throws failures.Size) = codes "function $nse(n) {\n  throw ct_java_lang_NegativeArraySizeException__$3cinit$3e$$Ljava_lang_String$$V(new c_java_lang_NegativeArraySizeException(), (\"\" + n));\n}\n"
helper_text (helpers.Throws failures.Method) = codes "function $nme(t) {\n  throw ct_java_lang_NoSuchMethodException__$3cinit$3e$$Ljava_lang_String$$V(new c_java_lang_NoSuchMethodException(), t);\n}\n"

-- the module of one item
abbrev pub only_item : Item → Module
only_item i = record { imports = []; items = i ∷ []; exports = [] }
