-- The words of listings, as tables.
use Rattle.std.specs.Prelude.{ℕ, Bool, List, [], ◌∷◌, ◌||◌, ◌==◌, codes, map}
use Rattle.exact_place.specs.Tokens.{Entry}
use Rattle.sj_names.specs.declared.method_names.Namespace.{Namespace}
use Rattle.sj_names.specs.declared.method_names.Namespace.TheVariants as namespaces
use Rattle.sj_trees.specs.declared.classes.ClassKind.{ClassKind}
use Rattle.sj_trees.specs.declared.classes.ClassKind.TheVariants as kinds
use Rattle.sj_trees.specs.declared.types.IrType.{IrType}
use Rattle.sj_trees.specs.declared.types.IrType.TheVariants as types
use Rattle.sj_trees.specs.Forms as tree_forms
use Rattle.sj_trees.specs.declared.forms.Form.{Form}

abbrev pub entry : {A : Type 0} → List ℕ → A → Entry A
entry word value = record { word = word; value = value }

-- what ends a word: a space or a closing parenthesis
abbrev pub ends_word : ℕ → Bool
ends_word c = c == 32 || c == 41

-- the words of forms
abbrev pub form_words : List (Entry Form)
form_words = map (λ row. entry row.0 row.1) tree_forms.form_words

-- the types of one word
abbrev pub type_words : List (Entry IrType)
type_words =
    entry (codes "any") types.Any ∷ entry (codes "nothing") types.Nothing ∷ entry (codes "undef") types.Undefined ∷ entry (codes "boolean") types.Boolean ∷
    entry (codes "char") types.Char ∷ entry (codes "byte") types.Byte ∷ entry (codes "short") types.Short ∷ entry (codes "int") types.Int ∷
    entry (codes "long") types.Long ∷ entry (codes "string") types.String ∷ entry (codes "null") types.Null ∷ entry (codes "none") types.NoType ∷ []

abbrev pub namespace_words : List (Entry Namespace)
namespace_words =
    entry (codes "Public") namespaces.Public ∷ entry (codes "PublicStatic") namespaces.PublicStatic ∷ entry (codes "Private") namespaces.Private ∷
    entry (codes "PrivateStatic") namespaces.PrivateStatic ∷ entry (codes "Constructor") namespaces.Constructor ∷ []

abbrev pub kind_words : List (Entry ClassKind)
kind_words =
    entry (codes "Class") kinds.Class ∷ entry (codes "ModuleClass") kinds.ModuleClass ∷ entry (codes "Interface") kinds.Interface ∷
    entry (codes "HijackedClass") kinds.HijackedClass ∷ []
