-- Helpers keep the rules of printing.
use Rattle.std.proofs.Common.{◌≡◌, ℕ, ◌<◌, ◌^◌, true, List, [], ◌∷◌, IsTrue, refl, arith, map}
use Rattle.std.specs.Prelude.{All, nat_lt}
use Rattle.std.specs.List.{list_all}
use Rattle.std.proofs.lemmas.Bool.Decides.{nat_tests}
use Rattle.std.proofs.lemmas.List.Elements.{All-nil, All-cons, All-head, All-append}
use Rattle.sj_emit_class_printing.proofs.Named.{and_left, and_right}
use Rattle.sj_emit_class_printing.proofs.Kept.{constants-item}
use Rattle.sj_emit_help_spec.specs.Helpers.{Above, helper_name, helper_item, helper_piece, used_helpers, used_of_classes, of, raises, failure_class, init_name}
use Rattle.sj_emit_help_spec.specs.Texts.{is_fixed, helper_text, only_item}
use Rattle.sj_emit_help_spec.specs.Words.{kind_class, bound, object_class, class_name}
use Rattle.sj_emit_help_spec.specs.declared.kinds.Failure.{Failure}
use Rattle.sj_emit_help_spec.specs.declared.kinds.Failure.TheVariants as failures
use Rattle.sj_emit_help_spec.specs.declared.kinds.Helper.{Helper}
use Rattle.sj_emit_help_spec.specs.declared.kinds.Helper.TheVariants as helpers
use Rattle.sj_emit_help_spec.specs.declared.kinds.Kind.{Kind}
use Rattle.sj_emit_help_spec.specs.declared.kinds.Kind.TheVariants as kinds
use Rattle.sj_emit_help_spec.proofs.Read.{text_spells}
use Rattle.js_tree.specs.Rules.{IsName, IsItem, IsBinding, IsPiece}
use Rattle.js_tree.specs.Terms.{Name}
use Rattle.js_tree.proofs.Kept.{module_kept}
use Rattle.sj_emit_expr_pieces.specs.Ranges.{AreBytes}

helper-named : (h : Helper) → IsName (helper_name h)
helper-named (helpers.TestOf kinds.Undefined) = refl
helper-named (helpers.TestOf kinds.Boolean) = refl
helper-named (helpers.TestOf kinds.Char) = refl
helper-named (helpers.TestOf kinds.Byte) = refl
helper-named (helpers.TestOf kinds.Short) = refl
helper-named (helpers.TestOf kinds.Int) = refl
helper-named (helpers.TestOf kinds.Long) = refl
helper-named (helpers.TestOf kinds.Text) = refl
helper-named (helpers.CastTo kinds.Undefined) = refl
helper-named (helpers.CastTo kinds.Boolean) = refl
helper-named (helpers.CastTo kinds.Char) = refl
helper-named (helpers.CastTo kinds.Byte) = refl
helper-named (helpers.CastTo kinds.Short) = refl
helper-named (helpers.CastTo kinds.Int) = refl
helper-named (helpers.CastTo kinds.Long) = refl
helper-named (helpers.CastTo kinds.Text) = refl
helper-named (helpers.ConstantsOf kinds.Undefined) = refl
helper-named (helpers.ConstantsOf kinds.Boolean) = refl
helper-named (helpers.ConstantsOf kinds.Char) = refl
helper-named (helpers.ConstantsOf kinds.Byte) = refl
helper-named (helpers.ConstantsOf kinds.Short) = refl
helper-named (helpers.ConstantsOf kinds.Int) = refl
helper-named (helpers.ConstantsOf kinds.Long) = refl
helper-named (helpers.ConstantsOf kinds.Text) = refl
helper-named helpers.NotNull = refl
helper-named helpers.IntQuotient = refl
helper-named helpers.IntRemainder = refl
helper-named helpers.LongQuotient = refl
helper-named helpers.LongRemainder = refl
helper-named helpers.BoxedChar = refl
helper-named helpers.Equal = refl
helper-named helpers.ArrayClass = refl
helper-named helpers.MakeArray = refl
helper-named helpers.CheckIndex = refl
helper-named helpers.Get = refl
helper-named helpers.Set = refl
helper-named helpers.Put = refl
helper-named helpers.Covers = refl
helper-named helpers.Fits = refl
helper-named helpers.ClassOf = refl
helper-named helpers.TestOfArray = refl
helper-named helpers.CastToArray = refl
helper-named (helpers.Throws failures.NullReceiver) = refl
helper-named (helpers.Throws failures.Division) = refl
helper-named (helpers.Throws failures.Cast) = refl
helper-named (helpers.Throws failures.Index) = refl
helper-named (helpers.Throws failures.Store) = refl
helper-named (helpers.Throws failures.Size) = refl
helper-named (helpers.Throws failures.Method) = refl

used-named : (hs : List Helper) → All IsBinding (map of hs)
used-named [] = All-nil IsBinding
used-named (h ∷ hs) = All-cons IsBinding (of h) (map of hs) (helper-named h) (used-named hs)

raised-named : (e : Name) → IsName (init_name e) → IsName (class_name e) → All IsBinding (raises e)
raised-named e h k = All-cons IsBinding (bound e (init_name e)) (bound e (class_name e) ∷ []) h (All-cons IsBinding (bound e (class_name e)) [] k (All-nil IsBinding))

failure-named : (f : Failure) → All IsBinding (raises (failure_class f))
failure-named failures.NullReceiver = raised-named (failure_class failures.NullReceiver) refl refl
failure-named failures.Division = raised-named (failure_class failures.Division) refl refl
failure-named failures.Cast = raised-named (failure_class failures.Cast) refl refl
failure-named failures.Index = raised-named (failure_class failures.Index) refl refl
failure-named failures.Store = raised-named (failure_class failures.Store) refl refl
failure-named failures.Size = raised-named (failure_class failures.Size) refl refl
failure-named failures.Method = raised-named (failure_class failures.Method) refl refl

classes-named : (h : Helper) → All IsBinding (used_of_classes h)
classes-named helpers.ArrayClass = All-cons IsBinding (bound object_class (class_name object_class)) [] refl (All-nil IsBinding)
classes-named (helpers.Throws f) = failure-named f
classes-named _ = All-nil IsBinding

-- closed texts are texts of bytes
bytes-of : (xs : List ℕ) → list_all (λ b. nat_lt b 256) xs ≡ true → AreBytes xs
bytes-of [] h = All-nil (λ b. b < 2 ^ 8)
bytes-of (x ∷ xs) h = All-cons (λ b. b < 2 ^ 8) x xs (is_byte x (and_left (nat_lt x 256) (list_all (λ b. nat_lt b 256) xs) h)) (bytes-of xs (and_right (nat_lt x 256) (list_all (λ b. nat_lt b 256) xs) h))
  where
    is_byte : (x : ℕ) → nat_lt x 256 ≡ true → x < 2 ^ 8
    is_byte x t = let l : x < 256 = grind (arith, nat_tests, t) in omega (arith, l)

kind-bytes : (k : Kind) → AreBytes (kind_class k)
kind-bytes kinds.Undefined = bytes-of (kind_class kinds.Undefined) refl
kind-bytes kinds.Boolean = bytes-of (kind_class kinds.Boolean) refl
kind-bytes kinds.Char = bytes-of (kind_class kinds.Char) refl
kind-bytes kinds.Byte = bytes-of (kind_class kinds.Byte) refl
kind-bytes kinds.Short = bytes-of (kind_class kinds.Short) refl
kind-bytes kinds.Int = bytes-of (kind_class kinds.Int) refl
kind-bytes kinds.Long = bytes-of (kind_class kinds.Long) refl
kind-bytes kinds.Text = bytes-of (kind_class kinds.Text) refl

fixed-kept : (above : Above) (h : Helper) → IsTrue (is_fixed h) → IsItem (helper_item above h)
fixed-kept above h fixed = All-head IsItem (helper_item above h) [] (module_kept (only_item (helper_item above h)) (helper_text h) (text_spells above h fixed)).1

item-kept : (above : Above) (h : Helper) → ((k : Kind) → All AreBytes (above k)) → IsItem (helper_item above h)
item-kept above (helpers.ConstantsOf k) bytes = constants-item (helper_name (helpers.ConstantsOf k)) (kind_class k) (above k) (helper-named (helpers.ConstantsOf k)) (kind-bytes k) (bytes k)
item-kept above (helpers.TestOf k) bytes = fixed-kept above (helpers.TestOf k) refl
item-kept above (helpers.CastTo k) bytes = fixed-kept above (helpers.CastTo k) refl
item-kept above helpers.NotNull bytes = fixed-kept above helpers.NotNull refl
item-kept above helpers.IntQuotient bytes = fixed-kept above helpers.IntQuotient refl
item-kept above helpers.IntRemainder bytes = fixed-kept above helpers.IntRemainder refl
item-kept above helpers.LongQuotient bytes = fixed-kept above helpers.LongQuotient refl
item-kept above helpers.LongRemainder bytes = fixed-kept above helpers.LongRemainder refl
item-kept above helpers.BoxedChar bytes = fixed-kept above helpers.BoxedChar refl
item-kept above helpers.Equal bytes = fixed-kept above helpers.Equal refl
item-kept above helpers.ArrayClass bytes = fixed-kept above helpers.ArrayClass refl
item-kept above helpers.MakeArray bytes = fixed-kept above helpers.MakeArray refl
item-kept above helpers.CheckIndex bytes = fixed-kept above helpers.CheckIndex refl
item-kept above helpers.Get bytes = fixed-kept above helpers.Get refl
item-kept above helpers.Set bytes = fixed-kept above helpers.Set refl
item-kept above helpers.Put bytes = fixed-kept above helpers.Put refl
item-kept above helpers.Covers bytes = fixed-kept above helpers.Covers refl
item-kept above helpers.Fits bytes = fixed-kept above helpers.Fits refl
item-kept above helpers.ClassOf bytes = fixed-kept above helpers.ClassOf refl
item-kept above helpers.TestOfArray bytes = fixed-kept above helpers.TestOfArray refl
item-kept above helpers.CastToArray bytes = fixed-kept above helpers.CastToArray refl
item-kept above (helpers.Throws f) bytes = fixed-kept above (helpers.Throws f) refl

pub helper-kept : (above : Above) (h : Helper) → ((k : Kind) → All AreBytes (above k)) → IsPiece (helper_piece above h)
helper-kept above h bytes = (helper-named h, All-append IsBinding (used_of_classes h) (map of (used_helpers h)) (classes-named h) (used-named (used_helpers h)), item-kept above h bytes)
