-- The recorded texts of the functions of these classes, in the order of the methods.
use Rattle.std.specs.Prelude.{[], ◌∷◌, codes}
use Rattle.agree_recorded.specs.Texts.{Texts}

abbrev pub tripled : Texts
tripled = codes "function s_java_lang_Object__main$$V() {\n  console.log((\"\" + (\"\" + s_java_lang_Object__f$$I$$I(1))));\n}\n" ∷ codes "function s_java_lang_Object__f$$I$$I(v_p) {\n  while ((v_p < 10)) {\n    v_p = Math.imul(v_p, 3);\n  }\n  return v_p;\n}\n" ∷ []

abbrev pub spilled_call : Texts
spilled_call = codes "function s_java_lang_Object__main$$V() {\n  console.log((\"\" + (\"\" + s_java_lang_Object__two$$I())));\n}\n" ∷ codes "function s_java_lang_Object__one$$I() {\n  return 1;\n}\n" ∷ codes "function s_java_lang_Object__two$$I() {\n  const $1 = s_java_lang_Object__one$$I();\n  let $2;\n  console.log(\"x\");\n  $2 = 2;\n  return (($1 + $2) | 0);\n}\n" ∷ []

abbrev pub call_in_a_call : Texts
call_in_a_call = codes "function s_java_lang_Object__main$$V() {\n  console.log((\"\" + (\"\" + s_java_lang_Object__two$$I())));\n}\n" ∷ codes "function s_java_lang_Object__one$$I() {\n  return 1;\n}\n" ∷ codes "function s_java_lang_Object__two$$I() {\n  const $1 = s_java_lang_Object__one$$I();\n  let $2;\n  $2 = 2;\n  return (($1 + $2) | 0);\n}\n" ∷ []

abbrev pub left_with_a_value : Texts
left_with_a_value = codes "function s_java_lang_Object__main$$V() {\n  let v_x;\n  l_x: {\n    if (true) {\n      v_x = 1;\n      break l_x;\n    } else {\n      v_x = 2;\n    }\n  }\n  console.log((\"\" + (\"\" + v_x)));\n}\n" ∷ []

abbrev pub matches_by_key : Texts
matches_by_key = codes "function s_java_lang_Object__main$$V() {\n  switch (2) {\n    case 1:\n    case (-5): {\n      console.log(\"a\");\n      break;\n    }\n    case 2:\n    case 3: {\n      console.log(\"c\");\n      break;\n    }\n    default: {\n      console.log(\"d\");\n    }\n  }\n  let $1;\n  let $2;\n  switch (9) {\n    default: {\n      console.log(\"s\");\n      $2 = 4;\n    }\n  }\n  $1 = (\"\" + (\"\" + $2));\n  console.log($1);\n}\n" ∷ []

abbrev pub joined_values : Texts
joined_values = codes "function s_java_lang_Object__main$$V() {\n  console.log((((\"\" + (\"\" + null)) + (\"\" + (void 0))) + ((\"\" + true) + String.fromCharCode(55296))));\n  console.log(((\"\" + (-128)) + (\"\" + (-32768))));\n  console.log(((\"\" + (-9223372036854775808n)) + String.fromCharCode(97)));\n}\n" ∷ []

abbrev pub joined_behind_a_line : Texts
joined_behind_a_line = codes "function s_java_lang_Object__main$$V() {\n  let $1;\n  let $2;\n  console.log(\"e5\");\n  $2 = (-128);\n  $1 = ((\"\" + $2) + \"\");\n  console.log($1);\n  console.log(((\"\" + ((!(!(true | true))) ? 0 : (97 >> 3))) + (\"\" + null)));\n}\n" ∷ codes "function s_java_lang_Object__f2$$J() {\n  return (((1 !== s_java_lang_Object__h$5f0$$Z$$I(true)) ? ((0n ^ 4611686018427387904n) % 4294967296n) : BigInt.asIntN(64, (9223372036854775807n * (-2147483648n)))) & 9223372036854775807n);\n}\n" ∷ codes "function ps_java_lang_Object__g1$$Ljava_lang_Object$$V(v_$24this) {\n  let v_$c3$a9 = (BigInt((-2147483648)) >> BigInt((0 & 63)));\n  v_$c3$a9 = ((s_java_lang_Object__h$5f0$$Z$$I(false) << 24) >> 24);\n  let v_x$27 = null;\n  let v_break = \"\";\n}\n" ∷ codes "function s_java_lang_Object__h$5f0$$Z$$I(v_$24this) {\n  let $1;\n  let $2;\n  console.log(\"e4\");\n  let v_y = 65536;\n  $2 = v_y;\n  let $3;\n  console.log(\"e6\");\n  $3 = (65536 ^ 33);\n  $1 = ($2 >> $3);\n  return ($1 << (((-129) / 32) | 0));\n}\n" ∷ []

abbrev pub joined_nulls : Texts
joined_nulls = codes "function s_java_lang_Object__main$$V() {\n  let v_console = (-129);\n  console.log(((\"\" + ((v_console << 16) >> 16)) + (\"\" + 0)));\n  let v_x$5f = ((2n <= (-9223372036854775807n)) === true);\n  let $1;\n  let $2;\n  console.log(\"e4\");\n  $2 = null;\n  $1 = ((\"\" + (void 0)) + (\"\" + $2));\n  console.log($1);\n  let v_v$5fx = ((false ? true : true) ? null : null);\n}\n" ∷ codes "function s_java_lang_Object__g0$$J$$B(v_k) {\n  console.log(((\"\" + (true ? (-1) : 1)) + String.fromCharCode(55296)));\n  return (-1);\n}\n" ∷ []

abbrev pub joined_letters : Texts
joined_letters = codes "function s_java_lang_Object__two0$$J() {\n  let $1;\n  let $2;\n  let $3;\n  l_l$5f: {\n    if (true) {\n      $3 = 4294967296n;\n      break l_l$5f;\n    }\n    console.log(\"t4\");\n    $3 = (-9223372036854775807n);\n  }\n  $2 = ($3 | (-2147483648n));\n  $1 = ($2 >> BigInt(((-129) & 63)));\n  return ($1 ^ 2n);\n}\n" ∷ codes "function s_java_lang_Object__h$5f1$$I$$V(v_x) {\n  v_x = (v_x | ((true ? v_x : v_x) << ((v_x / 1) | 0)));\n  let v_$241 = (true ? (-1) : 1);\n  console.log(\"t\");\n  let v_this = 0;\n}\n" ∷ codes "function s_java_lang_Object__main$$V() {\n  console.log((((\"\" + (97 | 33)) + \"a\") + \"\\u00e9\\ud83d\\ude00\"));\n  console.log(\"t9\");\n}\n" ∷ []

abbrev pub char_of_an_int : Texts
char_of_an_int = codes "function s_java_lang_Object__$c3$a90$$Ljava_lang_Object$$B$$B(v_$24this, v_x1) {\n  return ((256 << 24) >> 24);\n}\n" ∷ codes "function s_java_lang_Object__main$$V() {\n  console.log((String.fromCharCode((7 & 65535)) + (\"\" + \"hi\")));\n  let v_a0;\n  let $1;\n  console.log(\"e9\");\n  $1 = 2147483647;\n  v_a0 = ($1 !== 2147483647);\n  l_in: {\n    console.log(\"t\");\n    let v_console = (void 0);\n    let v_1 = 0;\n    while ((v_1 < 1)) {\n      v_1 = ((v_1 + 1) | 0);\n      console.log(\"t\");\n    }\n    let v_console0 = ((32 + 97) | 0);\n  }\n  console.log(\"t\");\n}\n" ∷ []

abbrev pub left_behind_a_line : Texts
left_behind_a_line = codes "function s_java_lang_Object__main$$V() {\n  console.log((((\"\" + (void 0)) + (\"\" + 1234567890123456789n)) + (\"\" + (true === true))));\n  let $1;\n  l_k1: {\n    if (true) {\n      console.log(\"t2\");\n      let v_console = (-32768);\n      $1 = false;\n      break l_k1;\n    }\n    console.log(((\"\" + (-2147483647)) + (\"\" + (-1n))));\n    $1 = false;\n  }\n  if ($1) {\n  }\n  console.log(\"t8\");\n}\n" ∷ codes "function ps_java_lang_Object__f1$$C$$B$$B$$Ljava_lang_Object(v_console, v_x1, v_$241) {\n  let $1;\n  let $2;\n  console.log(\"e7\");\n  $2 = (void 0);\n  $1 = ((\"\" + $2) + (\"\" + BigInt.asIntN(64, (9007199254740993n / 9223372036854775807n))));\n  console.log($1);\n  return null;\n}\n" ∷ codes "function s_java_lang_Object__h$5f0$$S$$I$$B(v_console, v_1) {\n  let $1;\n  let $2;\n  const $3 = (v_1 <= 31);\n  let $4;\n  console.log(\"e4\");\n  $4 = true;\n  $2 = (!(!($3 | $4)));\n  if ($2) {\n    const $5 = (true ? v_1 : v_1);\n    let $6;\n    l_x$5f: {\n      if (true) {\n        $6 = v_1;\n        break l_x$5f;\n      }\n      $6 = 255;\n    }\n    $1 = (($5 >>> $6) | 0);\n  } else {\n    console.log(\"e3\");\n    $1 = (v_1 << v_1);\n  }\n  return (($1 << 24) >> 24);\n}\n" ∷ []

abbrev pub calls_behind_calls : Texts
calls_behind_calls = codes "function s_java_lang_Object__$c3$a90$$Z$$B$$B(v_x, v_x$5f) {\n  return (((((7 ^ 0) >= 31) ? 32 : 65536) << 24) >> 24);\n}\n" ∷ codes "function s_java_lang_Object__two1$$I$$J(v_$24this) {\n  let $1;\n  let $2;\n  switch ((55296 & 3)) {\n    case 5:\n    case 3: {\n      switch ((v_$24this & 3)) {\n        case 5: {\n          $2 = v_$24this;\n          break;\n        }\n        default: {\n          $2 = v_$24this;\n        }\n      }\n      break;\n    }\n    case 0: {\n      console.log(\"t\");\n      $2 = v_$24this;\n      break;\n    }\n    default: {\n      $2 = (3 | v_$24this);\n    }\n  }\n  let $3;\n  switch ((v_$24this & 3)) {\n    case 0: {\n      console.log(\"e0\");\n      $3 = v_$24this;\n      break;\n    }\n    case (-1): {\n      $3 = v_$24this;\n      break;\n    }\n    case 3:\n    case (-3): {\n      $3 = v_$24this;\n      break;\n    }\n    default: {\n      $3 = v_$24this;\n    }\n  }\n  $1 = (($2 >>> $3) | 0);\n  return BigInt($1);\n}\n" ∷ codes "function s_java_lang_Object__two2$$Z$$V(v_1) {\n  let $1;\n  let $2;\n  const $3 = ((-128) ^ 97);\n  let $4;\n  let v_console = (-128);\n  $4 = v_console;\n  $2 = ($3 & $4);\n  $1 = ((\"\" + $2) + (\"\" + s_java_lang_Object__two1$$I$$J((128 << (-2147483648)))));\n  console.log($1);\n}\n" ∷ codes "function s_java_lang_Object__main$$V() {\n  let $1;\n  const $2 = (!(!(true & true)));\n  let $3;\n  switch (256) {\n    default: {\n      $3 = false;\n    }\n  }\n  $1 = (!(!($2 & $3)));\n  s_java_lang_Object__two2$$Z$$V($1);\n  console.log(\"\\u007f\\u001f \");\n}\n" ∷ []

abbrev pub kept_text : Texts
kept_text = codes "function ps_java_lang_Object__g0$$Ljava_lang_Object$$Ljava_lang_Object$$Z(v_x$241, v_break) {\n  switch (256) {\n    default: {\n      let v_x1 = (-32768);\n    }\n  }\n  return false;\n  let v_x = (void 0);\n  return (false !== ((-2147483648) >= ((-32769) >> 3)));\n}\n" ∷ codes "function s_java_lang_Object__main$$V() {\n  let v_x;\n  const $1 = ((\"\" + (((-128) << 24) >> 24)) + ((\"\" + 0) + (\"\" + null)));\n  let $2;\n  let $3;\n  console.log(\"e7\");\n  $3 = 33;\n  $2 = (($3 << 16) >> 16);\n  v_x = ($1 + (\"\" + $2));\n}\n" ∷ []
