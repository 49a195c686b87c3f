-- The pieces of casts have the code that these laws speak of.
use Rattle.std.specs.Prelude.{◌≡◌, List, ◌∷◌, Some}
use Rattle.js_tree.specs.Terms.{Name, Item}
use Rattle.sj_mangling.specs.Bindings.{class_binding}
use Rattle.sj_mangling.specs.declared.bindings.ClassBinding.TheVariants.{AsInstance}
use Rattle.js_mean.specs.Meaning.{code_among}
use Rattle.class_tests.specs.Kind.{Kind}
use Rattle.class_tests.specs.HelperVariants.{CastTo}
use Rattle.class_tests.specs.Helpers.{Above, helper_item, helper_name}
use Rattle.class_tests.specs.Pieces.{cast_piece, test_piece}
use Rattle.class_casts.specs.Kinds.{cast_code}
use Rattle.class_casts.specs.Classes.{class_cast_code, class_test_name, hijacked_test_code}

-- of the cast of a kind and of a class, and of the test of a hijacked class
pub record PiecesHaveCodes : Type 0 where
  pub kind_cast : (above : Above) (k : Kind) (items : List Item) → code_among (helper_item above (CastTo k) ∷ items) (helper_name (CastTo k)) ≡ Some (cast_code k)
  pub class_cast : (c : Name) (items : List Item) → code_among ((cast_piece c).item ∷ items) (class_binding AsInstance c) ≡ Some (class_cast_code c)
  pub hijacked_test : (c : Name) (kinds : List Kind) (k : Kind) (items : List Item) → code_among ((test_piece c kinds (Some k)).item ∷ items) (class_test_name c) ≡ Some (hijacked_test_code k)
