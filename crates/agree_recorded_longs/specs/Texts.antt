-- The recorded texts of the functions of these classes, in the order of the methods.
use Rattle.std.specs.Prelude.{[], ◌∷◌, codes}
use Rattle.agree_recorded.specs.Texts.{Texts}

abbrev pub least_int_divided : Texts
least_int_divided = codes "function s_java_lang_Object__main$$V() {\n  console.log((\"\" + (\"\" + (((-2147483648) / (-1)) | 0))));\n  console.log((\"\" + (\"\" + (((-4) % 2) | 0))));\n}\n" ∷ []

abbrev pub least_long : Texts
least_long = codes "function s_java_lang_Object__main$$V() {\n  console.log((\"\" + (\"\" + BigInt.asIntN(64, ((-9223372036854775808n) * (-1n))))));\n  console.log((\"\" + (\"\" + BigInt.asIntN(64, (BigInt.asUintN(64, (-9223372036854775808n)) >> BigInt((64 & 63)))))));\n  console.log((\"\" + (\"\" + BigInt.asIntN(64, (BigInt.asUintN(64, (-9223372036854775808n)) >> BigInt((65 & 63)))))));\n  console.log((\"\" + (\"\" + BigInt.asIntN(64, ((-9223372036854775808n) / (-1n))))));\n  console.log((\"\" + (\"\" + ((-9223372036854775808n) % (-1n)))));\n}\n" ∷ []

abbrev pub three_counted : Texts
three_counted = codes "function s_java_lang_Object__main$$V() {\n  console.log((((\"\" + (void 0)) + (\"\" + BigInt.asIntN(64, (BigInt.asUintN(64, 64n) >> BigInt((128 & 63)))))) + \"\\u00e9\\ud83d\\ude00\"));\n  let v_break = (void 0);\n  let v_x$241 = 0;\n  l_l1: {\n    while (true) {\n      v_x$241 = ((v_x$241 + 1) | 0);\n      console.log((\"\" + (\"\" + v_x$241)));\n      if ((v_x$241 > 2)) {\n        break l_l1;\n      }\n    }\n  }\n}\n" ∷ codes "function s_java_lang_Object__g1$$I$$Ljava_lang_Object$$B(v_break, v_this) {\n  let $1;\n  console.log(\"e1\");\n  let $2;\n  switch (v_break) {\n    case 5:\n    case 2: {\n      $2 = (-9223372036854775808n);\n      break;\n    }\n    default: {\n      $2 = (-1n);\n    }\n  }\n  $1 = ($2 !== 1n);\n  if ($1) {\n    return (((ps_java_lang_Object__g0$$B$$I(0) ^ 0) << 24) >> 24);\n  } else {\n    l_l$5f: {\n      let v_$5f = (-32768);\n      console.log(\"a\");\n    }\n    return 127;\n  }\n}\n" ∷ codes "function ps_java_lang_Object__g0$$B$$I(v_x1) {\n  let v_$c3$a9 = ((((-32769) - 127) | 0) & 65535);\n  return 32768;\n}\n" ∷ []

abbrev pub char_argument : Texts
char_argument = codes "function s_java_lang_Object__two0$$C$$J$$S(v_$24this, v_y) {\n  let $1;\n  let v_x$5f = ((-129) & (-129));\n  let $2;\n  console.log(\"t\");\n  console.log(\"t8\");\n  $2 = true;\n  if ($2) {\n    $1 = 33;\n  } else {\n    $1 = v_x$5f;\n  }\n  return (($1 << 16) >> 16);\n}\n" ∷ codes "function s_java_lang_Object__f1$$Ljava_lang_Object$$I$$B(v_console, v_$241) {\n  return (((((false ? false : false) === false) ? 65535 : 2) << 24) >> 24);\n}\n" ∷ codes "function s_java_lang_Object__main$$V() {\n  console.log(((\"\" + s_java_lang_Object__two0$$C$$J$$S(65535, (1234567890123456789n | 3n))) + String.fromCharCode(55296)));\n  let v_break = (false ? null : null);\n  v_break = null;\n  let v_x$27;\n  const $1 = (128 & 32);\n  let $2;\n  l_in: {\n    if (true) {\n      $2 = 0;\n      break l_in;\n    }\n    $2 = 256;\n  }\n  v_x$27 = ($1 & $2);\n  console.log(\"t\");\n}\n" ∷ []

abbrev pub compared_longs : Texts
compared_longs = codes "function s_java_lang_Object__main$$V() {\n  let $1;\n  let $2;\n  let $3;\n  console.log(\"e5\");\n  $3 = (-9223372036854775807n);\n  let $4;\n  switch ((32767 & 3)) {\n    case (-1): {\n      $4 = 64n;\n      break;\n    }\n    case 2: {\n      $4 = 9223372036854775807n;\n      break;\n    }\n    case (-2): {\n      $4 = (-9223372036854775807n);\n      break;\n    }\n    default: {\n      $4 = 9223372036854775807n;\n    }\n  }\n  $2 = ($3 === $4);\n  $1 = ((\"\" + $2) + (\"\" + 32));\n  console.log($1);\n  console.log(\"t\");\n}\n" ∷ codes "function s_java_lang_Object__$c3$a92$$Ljava_lang_Object$$B$$C(v_x, v_break) {\n  let $1;\n  let $2;\n  console.log(\"e7\");\n  $2 = 32768;\n  $1 = ($2 >> ((32767 + (-1)) | 0));\n  return ($1 & 65535);\n}\n" ∷ codes "function s_java_lang_Object__two1$$B() {\n  return ((((Number(BigInt.asIntN(32, 0n)) >>> (-32769)) | 0) << 24) >> 24);\n}\n" ∷ codes "function s_java_lang_Object__two0$$J$$J$$I$$Ljava_lang_Object(v_x, v_$24this, v_x$5f) {\n  return ((\"\" + true) + String.fromCharCode((v_x$5f & 65535)));\n}\n" ∷ []

abbrev pub turns_in_a_choice : Texts
turns_in_a_choice = codes "function s_java_lang_Object__g0$$J$$C$$S$$Z(v_1, v_v$5fx, v_x) {\n  console.log(\"e6\");\n  return true;\n}\n" ∷ codes "function s_java_lang_Object__main$$V() {\n  if (false) {\n    let v_x$241 = BigInt.asIntN(64, (4611686018427387904n * 4611686018427387904n));\n  } else {\n    let v_console = 0;\n    while (true) {\n      let $1;\n      let $2;\n      console.log(\"w\");\n      $2 = (v_console < 2);\n      $1 = (!(!(true & $2)));\n      if ((!$1)) {\n        break;\n      }\n      v_console = ((v_console + 1) | 0);\n      let v_k = v_console;\n    }\n  }\n}\n" ∷ []

abbrev pub int_as_long : Texts
int_as_long = codes "function s_java_lang_Object__main$$V() {\n  if ((BigInt(Math.imul(31, 127)) === ((!(!(false & true))) ? (false ? 0n : (-2147483648n)) : 9223372036854775807n))) {\n    console.log(\"t\");\n  } else {\n    console.log(\"t2\");\n  }\n  console.log(\"t\");\n}\n" ∷ codes "function s_java_lang_Object__g1$$S$$I$$C(v_y, v_l$5fx) {\n  return ps_java_lang_Object__f0$$C();\n}\n" ∷ codes "function ps_java_lang_Object__f0$$C() {\n  return ((((3 | 1) << 2) >> 128) & 65535);\n}\n" ∷ []

abbrev pub long_as_byte : Texts
long_as_byte = codes "function s_java_lang_Object__main$$V() {\n  let v_k = ((Number(BigInt.asIntN(32, 63n)) << 24) >> 24);\n  let v_x = 1234567890123456789n;\n  console.log(\"t6\");\n}\n" ∷ codes "function s_java_lang_Object__$c3$a90$$Ljava_lang_Object$$S(v_a0) {\n  return (-32768);\n}\n" ∷ []

abbrev pub match_in_a_condition : Texts
match_in_a_condition = codes "function s_java_lang_Object__h$5f0$$S$$S(v_$5f) {\n  let v_k = ((true ? 32 : 97) >> (false ? 31 : (-2147483647)));\n  if (true) {\n    return v_$5f;\n  } else {\n    return 1;\n  }\n}\n" ∷ codes "function s_java_lang_Object__main$$V() {\n  let v_$241 = 0;\n  do {\n    v_$241 = ((v_$241 + 1) | 0);\n    let v_this = BigInt.asIntN(64, (64n + 9007199254740993n));\n    let $1;\n    let $2;\n    switch (((-1) & 3)) {\n      default: {\n        $2 = false;\n      }\n    }\n    if ($2) {\n      $1 = (v_$241 < 3);\n    } else {\n      $1 = (2 > v_$241);\n    }\n    if ((!$1)) {\n      break;\n    }\n  } while (true);\n  console.log(((\"\" + null) + (\"\" + 32767)));\n  let v_a0;\n  let $3;\n  console.log(\"e1\");\n  console.log(\"e5\");\n  $3 = 0;\n  v_a0 = s_java_lang_Object__h$5f0$$S$$S($3);\n}\n" ∷ []

abbrev pub greater_long : Texts
greater_long = codes "function s_java_lang_Object__$c3$a90$$J() {\n  let $1;\n  let $2;\n  l_in$5f: {\n    $2 = 1;\n  }\n  $1 = Math.imul($2, 256);\n  return BigInt($1);\n}\n" ∷ codes "function ps_java_lang_Object__h$5f1$$C() {\n  console.log(\"e1\");\n  let $1;\n  console.log(\"e0\");\n  let v_console = 1;\n  $1 = (-2147483647);\n  return ($1 & 65535);\n}\n" ∷ codes "function s_java_lang_Object__main$$V() {\n  let $1;\n  let $2;\n  console.log(\"e0\");\n  $2 = (!true);\n  $1 = (!(!($2 & (64n > (true ? (-9223372036854775808n) : (-9223372036854775807n))))));\n  if ($1) {\n    console.log(\"t1\");\n    let v_$c3$a9 = 0;\n  }\n  let v_$241 = (void 0);\n  let v_a0 = \"\\\"\\\\\";\n}\n" ∷ []

abbrev pub longs_unread : Texts
longs_unread = codes "function s_java_lang_Object__main$$V() {\n  let v_$241 = ((\"\" + (void 0)) + (\"\" + ((55296 << 16) >> 16)));\n}\n" ∷ codes "function s_java_lang_Object__$c3$a92$$I$$J(v_x$5f) {\n  return BigInt.asIntN(64, (BigInt.asIntN(64, (4611686018427387904n - ((2n | 2147483648n) ^ BigInt.asIntN(64, (3n + 0n))))) * (((4294967296n % 63n) % 63n) | (((-2147483648n) >> BigInt((v_x$5f & 63))) >> BigInt((((v_x$5f >>> 255) | 0) & 63))))));\n}\n" ∷ codes "function s_java_lang_Object__g1$$C() {\n  let $1;\n  let $2;\n  switch ((Math.imul(3, (-1)) & 3)) {\n    default: {\n      $2 = Math.imul((-2147483647), (-32769));\n    }\n  }\n  $1 = ($2 >> ((65535 << 32767) ^ (-1)));\n  return ($1 & 65535);\n}\n" ∷ codes "function s_java_lang_Object__two0$$B$$B(v_x$5f) {\n  if (true) {\n    return ((((Math.imul(32, (-129)) + (-1)) | 0) << 24) >> 24);\n  } else {\n    return 1;\n  }\n}\n" ∷ []

abbrev pub long_moved_left : Texts
long_moved_left = codes "function s_java_lang_Object__main$$V() {\n  let v_$24this;\n  let $1;\n  let v_y = false;\n  $1 = v_y;\n  let $2;\n  l_in$5f: {\n    console.log(\"t\");\n    $2 = false;\n  }\n  v_$24this = (!(!($1 | $2)));\n  if (false) {\n    let v_console = ((\"\" + true) + String.fromCharCode((false ? 55296 : 34)));\n    let $3;\n    let $4;\n    console.log(\"e2\");\n    $4 = (void 0);\n    $3 = ((\"\" + $4) + (\"\" + 255));\n    console.log($3);\n  }\n  let v_$241 = (4611686018427387904n | 63n);\n  console.log(\"t\");\n}\n" ∷ codes "function s_java_lang_Object__f2$$I() {\n  return (-2147483647);\n}\n" ∷ codes "function s_java_lang_Object__$c3$a91$$I$$J(v_v$5fx) {\n  const $1 = BigInt.asIntN(64, (4611686018427387904n << BigInt((Math.imul((7 & v_v$5fx), (v_v$5fx ^ v_v$5fx)) & 63))));\n  let $2;\n  switch ((32768 & 3)) {\n    case (-2): {\n      $2 = 4611686018427387904n;\n      break;\n    }\n    case (-1):\n    case 4: {\n      $2 = 9223372036854775807n;\n      break;\n    }\n    case 1: {\n      $2 = (-9223372036854775808n);\n      break;\n    }\n    default: {\n      $2 = (-2147483648n);\n    }\n  }\n  return BigInt.asIntN(64, ($1 * $2));\n}\n" ∷ codes "function s_java_lang_Object__h$5f0$$Ljava_lang_Object() {\n  let $1;\n  console.log(\"\\u0000\\ud800\\u2028\\\"\");\n  if (true) {\n    $1 = false;\n  } else {\n    $1 = false;\n  }\n  if ($1) {\n    return null;\n  }\n  console.log(\"t\");\n  return null;\n}\n" ∷ []
