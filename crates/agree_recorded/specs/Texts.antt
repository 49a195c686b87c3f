-- The recorded texts of the functions of these classes, in the order of the methods.
use Rattle.std.specs.Prelude.{ℕ, List, [], ◌∷◌, codes}

abbrev pub Texts : Type 0
Texts = List (List ℕ)

abbrev pub logs_hi : Texts
logs_hi = codes "function s_java_lang_Object__main$$V() {\n  console.log(\"hi\");\n}\n" ∷ []

abbrev pub calls_itself : Texts
calls_itself = codes "function s_java_lang_Object__main$$V() {\n  s_java_lang_Object__again$$V();\n}\n" ∷ codes "function s_java_lang_Object__again$$V() {\n  console.log(\"x\");\n  s_java_lang_Object__again$$V();\n}\n" ∷ []

abbrev pub odd_units : Texts
odd_units = codes "function s_java_lang_Object__main$$V() {\n  console.log(\"\\u0000\\ud800\\u2028\\\"\");\n}\n" ∷ []

abbrev pub one_turn : Texts
one_turn = codes "function s_java_lang_Object__main$$V() {\n  let v_i = 0;\n  while ((v_i < 1)) {\n    v_i = ((v_i + 1) | 0);\n  }\n  console.log(\"done\");\n}\n" ∷ []

abbrev pub three_loops : Texts
three_loops = codes "function s_java_lang_Object__main$$V() {\n  do {\n    console.log(\"once\");\n    if ((!false)) {\n      break;\n    }\n  } while (true);\n  while (false) {\n    console.log(\"never\");\n  }\n  l_l: {\n    do {\n      console.log(\"in\");\n      break l_l;\n      if ((!true)) {\n        break;\n      }\n    } while (true);\n  }\n  console.log(\"out\");\n}\n" ∷ []

abbrev pub block_value : Texts
block_value = codes "function s_java_lang_Object__h$5f0$$Ljava_lang_Object$$I$$Z(v_v$5fx, v_x$241) {\n  return (0 !== (-2147483648));\n}\n" ∷ codes "function s_java_lang_Object__main$$V() {\n  let v_v$5fx;\n  console.log(\"e8\");\n  v_v$5fx = false;\n}\n" ∷ []

abbrev pub spilled_matches : Texts
spilled_matches = codes "function ps_java_lang_Object__h$5f0$$S$$Ljava_lang_Object(v_a0) {\n  console.log(\"e6\");\n  return null;\n}\n" ∷ codes "function s_java_lang_Object__$c3$a91$$I$$Z$$Z(v_1, v_x$5f) {\n  let $1;\n  console.log(\"e6\");\n  let v_$241 = null;\n  switch (v_1) {\n    default: {\n      $1 = true;\n    }\n  }\n  let $2;\n  let $3;\n  switch ((32768 & 3)) {\n    case (-2): {\n      $3 = ((v_1 - v_1) | 0);\n      break;\n    }\n    default: {\n      $3 = Math.imul(v_1, v_1);\n    }\n  }\n  $2 = (v_1 === $3);\n  return ($1 !== $2);\n}\n" ∷ codes "function s_java_lang_Object__f2$$Ljava_lang_Object$$J$$B$$S(v_console, v_1, v_this) {\n  return 0;\n}\n" ∷ codes "function s_java_lang_Object__main$$V() {\n  let v_x$27;\n  console.log(\"e0\");\n  console.log(\"t\");\n  v_x$27 = (-32768);\n  let $1;\n  const $2 = ((-129) & 255);\n  let $3;\n  l_$c3$a9: {\n    $3 = 3;\n    break l_$c3$a9;\n  }\n  $1 = ($2 & $3);\n  switch ($1) {\n    case (-2): {\n      let v_$24this = null;\n      break;\n    }\n    default: {\n      switch (((32767 >> 0) & 3)) {\n        case (-1): {\n          let v_$24thisx = 31;\n          break;\n        }\n        case (-3): {\n          let v_l$5fx = (-2147483648);\n          break;\n        }\n        case 0: {\n          console.log(\"a\");\n          break;\n        }\n        default: {\n        }\n      }\n    }\n  }\n}\n" ∷ []

abbrev pub choices : Texts
choices = codes "function s_java_lang_Object__main$$V() {\n  l_l$5f$5f: {\n    let v_$5f = (((-2147483648) >= 33) ? (false ? (-32768) : 0) : ((2147483647 << 16) >> 16));\n  }\n  let v_x$27 = (-1);\n  console.log(\"t\");\n}\n" ∷ codes "function s_java_lang_Object__two1$$Z$$J$$J$$S(v_k, v_$241, v_x) {\n  return (((((2 << (32 << (-2147483647))) + 2147483647) | 0) << 16) >> 16);\n}\n" ∷ codes "function ps_java_lang_Object__$c3$a90$$I$$Ljava_lang_Object$$B(v_x$5f, v_k) {\n  return 0;\n}\n" ∷ []

abbrev pub no_such_key : Texts
no_such_key = codes "function ps_java_lang_Object__two0$$C$$S$$C(v_$c3$a9, v_x$27) {\n  let $1;\n  let $2;\n  const $3 = (128 | (-1));\n  let $4;\n  switch (((-129) & 3)) {\n    case 2:\n    case (-1): {\n      $4 = 32;\n      break;\n    }\n    case (-3): {\n      $4 = 255;\n      break;\n    }\n    case 0: {\n      $4 = 65535;\n      break;\n    }\n    default: {\n      $4 = (-129);\n    }\n  }\n  $2 = ($3 | $4);\n  let $5;\n  if ((false === true)) {\n    $5 = (32767 & (-128));\n  } else {\n    let v_$c3$a9x = \"a\";\n    let v_x = v_$c3$a9;\n    $5 = 33;\n  }\n  $1 = ($2 << $5);\n  return ($1 & 65535);\n}\n" ∷ codes "function ps_java_lang_Object__h$5f1$$V() {\n  let v_v$5fx = 0;\n  while (true) {\n    let $1;\n    let $2;\n    console.log(\"w\");\n    $2 = (v_v$5fx < 1);\n    $1 = (!(!(true & $2)));\n    if ((!$1)) {\n      break;\n    }\n    v_v$5fx = ((v_v$5fx + 1) | 0);\n    let v_$24this = true;\n  }\n  if (((-9223372036854775807n) < 3n)) {\n  }\n  console.log(\"t\");\n  console.log(\"t2\");\n}\n" ∷ codes "function s_java_lang_Object__main$$V() {\n  switch (33) {\n    case 5:\n    case 4: {\n      switch ((7 & 3)) {\n        case 5: {\n          console.log(\"\\u00e9\\ud83d\\ude00\");\n          break;\n        }\n        case 4:\n        case (-1): {\n          let v_x1 = 1;\n          break;\n        }\n        default: {\n          console.log(\"t\");\n        }\n      }\n      console.log(\"t\");\n      break;\n    }\n    default: {\n      console.log(\"t6\");\n    }\n  }\n}\n" ∷ []

abbrev pub no_lines : Texts
no_lines = codes "function s_java_lang_Object__main$$V() {\n  let v_k = ((((255 + (-32769)) | 0) | (-129)) | 33);\n}\n" ∷ codes "function s_java_lang_Object__$c3$a92$$J$$Z$$C$$V(v_1, v_$c3$a9, v_y) {\n  let v_k;\n  switch ((-2147483647)) {\n    default: {\n      v_k = 256;\n    }\n  }\n  let v_break;\n  l_break$5f: {\n    if ((v_1 >= v_1)) {\n      v_break = \"\\u0000\\ud800\\u2028\\\"\";\n      break l_break$5f;\n    } else {\n      v_break = \"a\";\n      break l_break$5f;\n    }\n    console.log(\"e3\");\n    v_break = ((\"\" + 33) + \"~ \");\n  }\n  console.log(\"\\u0000\\ud800\\u2028\\\"\");\n  if (v_$c3$a9) {\n    let v_console = 0;\n    while (true) {\n      let $1;\n      let $2;\n      console.log(\"w\");\n      $2 = (v_console < 2);\n      $1 = (!(!(true & $2)));\n      if ((!$1)) {\n        break;\n      }\n      v_console = ((v_console + 1) | 0);\n      console.log(\"t\");\n    }\n    let v_l$5fx = v_$c3$a9;\n    let v_x = s_java_lang_Object__$c3$a91$$J();\n  }\n}\n" ∷ codes "function s_java_lang_Object__$c3$a91$$J() {\n  console.log(\"e7\");\n  return BigInt((-1));\n}\n" ∷ codes "function ps_java_lang_Object__h$5f0$$S$$B(v_x$241) {\n  return 0;\n}\n" ∷ []

abbrev pub four_turns : Texts
four_turns = codes "function s_java_lang_Object__main$$V() {\n  let v_console = null;\n  let v_$24this = v_console;\n  let v_y = 0;\n  while (true) {\n    let $1;\n    console.log(\"c\");\n    $1 = (v_y < 3);\n    if ((!$1)) {\n      break;\n    }\n    v_y = ((v_y + 1) | 0);\n    let v_x$241 = (-128);\n    let v_l$5fx = (void 0);\n  }\n}\n" ∷ codes "function s_java_lang_Object__two2$$C$$S$$I$$C(v_a0, v_$c3$a9, v_$c3$a9$24) {\n  let $1;\n  console.log(\"e1\");\n  l_in: {\n    if (false) {\n      $1 = v_$c3$a9$24;\n      break l_in;\n    }\n    $1 = (32 | v_$c3$a9$24);\n  }\n  return ($1 & 65535);\n}\n" ∷ codes "function s_java_lang_Object__f1$$J$$Ljava_lang_Object$$Ljava_lang_Object$$I(v_x$241, v_$241, v_y) {\n  if ((!(!((((128 / 32767) | 0) === ((1 - (-32769)) | 0)) | ((65536 ^ 7) === ((7 + 3) | 0)))))) {\n    let $1;\n    switch ((((32 + (-2147483648)) | 0) & 3)) {\n      case (-1):\n      case (-3): {\n        $1 = (33 ^ (-128));\n        break;\n      }\n      case 2:\n      case 3: {\n        $1 = (((-1) / 256) | 0);\n        break;\n      }\n      default: {\n        $1 = ((127 + 32767) | 0);\n      }\n    }\n    let $2;\n    l_l$5f$5f: {\n      if (false) {\n        $2 = 32768;\n        break l_l$5f$5f;\n      }\n      $2 = (128 >> (-1));\n    }\n    return (($1 + $2) | 0);\n  } else {\n    return 2147483647;\n  }\n}\n" ∷ codes "function s_java_lang_Object__$c3$a90$$S() {\n  let $1;\n  let $2;\n  let $3;\n  console.log(\"e7\");\n  $3 = 2;\n  $2 = (((-2147483647) >>> $3) | 0);\n  $1 = Math.imul($2, ((-1) >> 97));\n  return (($1 << 16) >> 16);\n}\n" ∷ []

abbrev pub choice_with_lines : Texts
choice_with_lines = codes "function s_java_lang_Object__main$$V() {\n  let v_x;\n  console.log(\"e2\");\n  if ((true ? false : false)) {\n    console.log(\"e2\");\n    v_x = null;\n  } else {\n    v_x = null;\n  }\n}\n" ∷ codes "function ps_java_lang_Object__two1$$I$$J(v_$5f) {\n  return 9007199254740993n;\n}\n" ∷ codes "function s_java_lang_Object__g0$$Ljava_lang_Object$$B(v_x1) {\n  return ((((((!false) ? 255 : 32767) - 31) | 0) << 24) >> 24);\n}\n" ∷ []
