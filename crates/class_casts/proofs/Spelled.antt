-- The pieces of casts have the code that the laws speak of.
use Rattle.std.proofs.Common.{◌≡◌, Bool, List, ◌∷◌, Some, refl, ap, cond}
use Rattle.js_tree.specs.Terms.{Item}
use Rattle.sj_mangling.specs.Bindings.{class_binding}
use Rattle.sj_mangling.specs.declared.bindings.ClassBinding.TheVariants.{AsInstance}
use Rattle.js_mean.specs.Meaning.{code_among}
use Rattle.class_tests.proofs.Bridge.{same_text}
use Rattle.class_tests.specs.Kind.{Kind}
use Rattle.class_tests.specs.KindVariants.{Undefined, Boolean, Char, Byte, Short, Int, Long, Text}
use Rattle.class_tests.specs.HelperVariants.{CastTo}
use Rattle.class_tests.specs.Helpers.{Above, helper_item, helper_name}
use Rattle.class_casts.specs.Kinds.{cast_code}
use Rattle.class_casts.specs.Classes.{class_cast_code, class_test_name, hijacked_test_code}
use Rattle.class_casts.specs.Coded.{PiecesHaveCodes}

kind_cast : (above : Above) (k : Kind) (items : List Item) → code_among (helper_item above (CastTo k) ∷ items) (helper_name (CastTo k)) ≡ Some (cast_code k)
kind_cast above Undefined items = refl
kind_cast above Boolean items = refl
kind_cast above Char items = refl
kind_cast above Byte items = refl
kind_cast above Short items = refl
kind_cast above Int items = refl
kind_cast above Long items = refl
kind_cast above Text items = refl

pub pieces_have_codes : PiecesHaveCodes
pieces_have_codes = record {
  kind_cast = λ above k items. kind_cast above k items;
  class_cast = λ c items. ap (λ (b : Bool). cond b (Some (class_cast_code c)) (code_among items (class_binding AsInstance c))) (same_text (class_binding AsInstance c));
  hijacked_test = λ c kinds k items. ap (λ (b : Bool). cond b (Some (hijacked_test_code k)) (code_among items (class_test_name c))) (same_text (class_test_name c));
}
