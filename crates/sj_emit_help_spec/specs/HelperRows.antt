-- The bindings that each helper with a fixed text uses, and the texts of those that know of a class: one row each.
use Rattle.std.specs.Prelude.{◌≡◌, ℕ, List, [], ◌∷◌, codes}
use Rattle.js_tree.specs.Terms.{Name}
use Rattle.js_tree.specs.Texts.{piece_text}
use Rattle.js_tree.specs.declared.items.Binding.{Binding}
use Rattle.sj_emit_help_spec.specs.Helpers.{helper_piece, helper_uses}
use Rattle.sj_emit_help_spec.specs.Words.{bound}
use Rattle.sj_emit_help_spec.specs.declared.kinds.Failure.TheVariants as failures
use Rattle.sj_emit_help_spec.specs.declared.kinds.Helper.{Helper}
use Rattle.sj_emit_help_spec.specs.declared.kinds.Helper.TheVariants as helpers
use Rattle.sj_emit_help_spec.specs.declared.kinds.Kind.{Kind}
use Rattle.sj_emit_help_spec.specs.declared.kinds.Kind.TheVariants as kinds

-- a helper is written as this text and uses these bindings
abbrev pub IsWritten : (Kind → List Name) → Helper → List ℕ → List Binding → Type 0
IsWritten above h text used = (piece_text (helper_piece above h) ≡ text) × (helper_uses h ≡ used)

-- a helper uses these bindings
abbrev pub Uses : Helper → List Binding → Type 0
Uses h used = helper_uses h ≡ used

abbrev pub row_A : Type 0
row_A = Uses helpers.ArrayClass (bound (codes "java.lang.Object") (codes "c_java_lang_Object") ∷ [])

abbrev pub row_C : Type 0
row_C = Uses helpers.BoxedChar (bound (codes "java.lang.Object") (codes "$kC") ∷ [])

abbrev pub row_ae : Type 0
row_ae = Uses (helpers.Throws failures.Division) (bound (codes "java.lang.ArithmeticException") (codes "ct_java_lang_ArithmeticException__$3cinit$3e$$Ljava_lang_String$$V") ∷ bound (codes "java.lang.ArithmeticException") (codes "c_java_lang_ArithmeticException") ∷ [])

abbrev pub row_asA : Type 0
row_asA = Uses helpers.CastToArray (bound (codes "java.lang.Object") (codes "$isA") ∷ bound (codes "java.lang.Object") (codes "$cce") ∷ [])

abbrev pub row_asB : Type 0
row_asB = Uses (helpers.CastTo kinds.Byte) (bound (codes "java.lang.Object") (codes "$isB") ∷ bound (codes "java.lang.Object") (codes "$cce") ∷ [])

abbrev pub row_asC : Type 0
row_asC = Uses (helpers.CastTo kinds.Char) (bound (codes "java.lang.Object") (codes "$isC") ∷ bound (codes "java.lang.Object") (codes "$cce") ∷ [])

abbrev pub row_asI : Type 0
row_asI = Uses (helpers.CastTo kinds.Int) (bound (codes "java.lang.Object") (codes "$isI") ∷ bound (codes "java.lang.Object") (codes "$cce") ∷ [])

abbrev pub row_asJ : Type 0
row_asJ = Uses (helpers.CastTo kinds.Long) (bound (codes "java.lang.Object") (codes "$isJ") ∷ bound (codes "java.lang.Object") (codes "$cce") ∷ [])

abbrev pub row_asS : Type 0
row_asS = Uses (helpers.CastTo kinds.Short) (bound (codes "java.lang.Object") (codes "$isS") ∷ bound (codes "java.lang.Object") (codes "$cce") ∷ [])

abbrev pub row_asT : Type 0
row_asT = Uses (helpers.CastTo kinds.Text) (bound (codes "java.lang.Object") (codes "$isT") ∷ bound (codes "java.lang.Object") (codes "$cce") ∷ [])

abbrev pub row_asV : Type 0
row_asV = Uses (helpers.CastTo kinds.Undefined) (bound (codes "java.lang.Object") (codes "$isV") ∷ bound (codes "java.lang.Object") (codes "$cce") ∷ [])

abbrev pub row_asZ : Type 0
row_asZ = Uses (helpers.CastTo kinds.Boolean) (bound (codes "java.lang.Object") (codes "$isZ") ∷ bound (codes "java.lang.Object") (codes "$cce") ∷ [])

abbrev pub row_ase : Type 0
row_ase = Uses (helpers.Throws failures.Store) (bound (codes "java.lang.ArrayStoreException") (codes "ct_java_lang_ArrayStoreException__$3cinit$3e$$Ljava_lang_String$$V") ∷ bound (codes "java.lang.ArrayStoreException") (codes "c_java_lang_ArrayStoreException") ∷ [])

abbrev pub row_cce : Type 0
row_cce = Uses (helpers.Throws failures.Cast) (bound (codes "java.lang.ClassCastException") (codes "ct_java_lang_ClassCastException__$3cinit$3e$$Ljava_lang_String$$V") ∷ bound (codes "java.lang.ClassCastException") (codes "c_java_lang_ClassCastException") ∷ [])

abbrev pub row_cov : Type 0
row_cov = Uses helpers.Covers ([])

abbrev pub row_eq : Type 0
row_eq = Uses helpers.Equal (bound (codes "java.lang.Object") (codes "$C") ∷ [])

abbrev pub row_fits : Type 0
row_fits = Uses helpers.Fits (bound (codes "java.lang.Object") (codes "$A") ∷ bound (codes "java.lang.Object") (codes "$cov") ∷ bound (codes "java.lang.Object") (codes "$isB") ∷ bound (codes "java.lang.Object") (codes "$isS") ∷ bound (codes "java.lang.Object") (codes "$kof") ∷ [])

abbrev pub row_get : Type 0
row_get = Uses helpers.Get (bound (codes "java.lang.Object") (codes "$ix") ∷ [])

abbrev pub row_id : Type 0
row_id = Uses helpers.IntQuotient (bound (codes "java.lang.Object") (codes "$ae") ∷ [])

abbrev pub row_im : Type 0
row_im = Uses helpers.IntRemainder (bound (codes "java.lang.Object") (codes "$ae") ∷ [])

abbrev pub row_ioe : Type 0
row_ioe = Uses (helpers.Throws failures.Index) (bound (codes "java.lang.ArrayIndexOutOfBoundsException") (codes "ct_java_lang_ArrayIndexOutOfBoundsException__$3cinit$3e$$Ljava_lang_String$$V") ∷ bound (codes "java.lang.ArrayIndexOutOfBoundsException") (codes "c_java_lang_ArrayIndexOutOfBoundsException") ∷ [])

abbrev pub row_isA : Type 0
row_isA = Uses helpers.TestOfArray (bound (codes "java.lang.Object") (codes "$A") ∷ bound (codes "java.lang.Object") (codes "$cov") ∷ [])

abbrev pub row_isB : Type 0
row_isB = Uses (helpers.TestOf kinds.Byte) ([])

abbrev pub row_isC : Type 0
row_isC = Uses (helpers.TestOf kinds.Char) (bound (codes "java.lang.Object") (codes "$C") ∷ [])

abbrev pub row_isI : Type 0
row_isI = Uses (helpers.TestOf kinds.Int) ([])

abbrev pub row_isJ : Type 0
row_isJ = Uses (helpers.TestOf kinds.Long) ([])

abbrev pub row_isS : Type 0
row_isS = Uses (helpers.TestOf kinds.Short) ([])

abbrev pub row_isT : Type 0
row_isT = Uses (helpers.TestOf kinds.Text) ([])

abbrev pub row_isV : Type 0
row_isV = Uses (helpers.TestOf kinds.Undefined) ([])

abbrev pub row_isZ : Type 0
row_isZ = Uses (helpers.TestOf kinds.Boolean) ([])

abbrev pub row_ix : Type 0
row_ix = Uses helpers.CheckIndex (bound (codes "java.lang.Object") (codes "$ioe") ∷ [])

abbrev pub row_kC : Type 0
row_kC = IsWritten (λ _. codes "java.lang.Character" ∷ codes "java.lang.Object" ∷ []) (helpers.ConstantsOf kinds.Char) (codes "const $kC = {s: \"i_java_lang_Character\", i_java_lang_Character: 1, i_java_lang_Object: 1};\n") ([])

abbrev pub row_kI : Type 0
row_kI = IsWritten (λ _. codes "java.lang.Integer" ∷ codes "java.lang.Object" ∷ []) (helpers.ConstantsOf kinds.Int) (codes "const $kI = {s: \"i_java_lang_Integer\", i_java_lang_Integer: 1, i_java_lang_Object: 1};\n") ([])

abbrev pub row_kJ : Type 0
row_kJ = IsWritten (λ _. codes "java.lang.Long" ∷ codes "java.lang.Object" ∷ []) (helpers.ConstantsOf kinds.Long) (codes "const $kJ = {s: \"i_java_lang_Long\", i_java_lang_Long: 1, i_java_lang_Object: 1};\n") ([])

abbrev pub row_kT : Type 0
row_kT = IsWritten (λ _. codes "java.lang.Object" ∷ codes "java.lang.String" ∷ []) (helpers.ConstantsOf kinds.Text) (codes "const $kT = {s: \"i_java_lang_String\", i_java_lang_Object: 1, i_java_lang_String: 1};\n") ([])

abbrev pub row_kV : Type 0
row_kV = IsWritten (λ _. codes "java.lang.Object" ∷ codes "java.lang.Void" ∷ []) (helpers.ConstantsOf kinds.Undefined) (codes "const $kV = {s: \"i_java_lang_Void\", i_java_lang_Object: 1, i_java_lang_Void: 1};\n") ([])

abbrev pub row_kZ : Type 0
row_kZ = IsWritten (λ _. codes "java.lang.Boolean" ∷ codes "java.lang.Object" ∷ []) (helpers.ConstantsOf kinds.Boolean) (codes "const $kZ = {s: \"i_java_lang_Boolean\", i_java_lang_Boolean: 1, i_java_lang_Object: 1};\n") ([])

abbrev pub row_kof : Type 0
row_kof = Uses helpers.ClassOf (bound (codes "java.lang.Object") (codes "$isV") ∷ bound (codes "java.lang.Object") (codes "$kV") ∷ bound (codes "java.lang.Object") (codes "$isZ") ∷ bound (codes "java.lang.Object") (codes "$kZ") ∷ bound (codes "java.lang.Object") (codes "$isI") ∷ bound (codes "java.lang.Object") (codes "$kI") ∷ bound (codes "java.lang.Object") (codes "$isJ") ∷ bound (codes "java.lang.Object") (codes "$kJ") ∷ bound (codes "java.lang.Object") (codes "$isT") ∷ bound (codes "java.lang.Object") (codes "$kT") ∷ [])

abbrev pub row_ld : Type 0
row_ld = Uses helpers.LongQuotient (bound (codes "java.lang.Object") (codes "$ae") ∷ [])

abbrev pub row_lm : Type 0
row_lm = Uses helpers.LongRemainder (bound (codes "java.lang.Object") (codes "$ae") ∷ [])

abbrev pub row_mk : Type 0
row_mk = Uses helpers.MakeArray (bound (codes "java.lang.Object") (codes "$nse") ∷ bound (codes "java.lang.Object") (codes "$A") ∷ [])

abbrev pub row_nme : Type 0
row_nme = Uses (helpers.Throws failures.Method) (bound (codes "java.lang.NoSuchMethodException") (codes "ct_java_lang_NoSuchMethodException__$3cinit$3e$$Ljava_lang_String$$V") ∷ bound (codes "java.lang.NoSuchMethodException") (codes "c_java_lang_NoSuchMethodException") ∷ [])

abbrev pub row_nn : Type 0
row_nn = Uses helpers.NotNull (bound (codes "java.lang.Object") (codes "$npe") ∷ [])

abbrev pub row_npe : Type 0
row_npe = Uses (helpers.Throws failures.NullReceiver) (bound (codes "java.lang.NullPointerException") (codes "ct_java_lang_NullPointerException__$3cinit$3e$$Ljava_lang_String$$V") ∷ bound (codes "java.lang.NullPointerException") (codes "c_java_lang_NullPointerException") ∷ [])

abbrev pub row_nse : Type 0
row_nse = Uses (helpers.Throws failures.Size) (bound (codes "java.lang.NegativeArraySizeException") (codes "ct_java_lang_NegativeArraySizeException__$3cinit$3e$$Ljava_lang_String$$V") ∷ bound (codes "java.lang.NegativeArraySizeException") (codes "c_java_lang_NegativeArraySizeException") ∷ [])

abbrev pub row_put : Type 0
row_put = Uses helpers.Put (bound (codes "java.lang.Object") (codes "$ix") ∷ bound (codes "java.lang.Object") (codes "$fits") ∷ bound (codes "java.lang.Object") (codes "$ase") ∷ [])

abbrev pub row_set : Type 0
row_set = Uses helpers.Set (bound (codes "java.lang.Object") (codes "$ix") ∷ [])
