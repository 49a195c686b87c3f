-- A class and its listing, and two texts that are none, computed.
use Rattle.std.specs.Prelude.{◌≡◌, [], ◌∷◌, Some, None, Err, codes}
use Rattle.std.proofs.Common.{refl}
use Rattle.std.specs.Str.{chars}
use Rattle.exact_place.specs.Reading.{literal_at}
use Rattle.js_tree.specs.Written.{put}
use Rattle.sj_names.specs.declared.references.TypeRef.TheVariants.{Void}
use Rattle.sj_names.specs.declared.method_names.Namespace.TheVariants.{PublicStatic}
use Rattle.sj_trees.specs.Erase.{nowhere}
use Rattle.sj_trees.specs.Term.{log_line, string_literal}
use Rattle.sj_trees.specs.declared.classes.ClassKind.TheVariants.{Class}
use Rattle.sj_trees.specs.declared.classes.ClassDef.{ClassDef}
use Rattle.sj_trees.specs.declared.types.IrType.TheVariants.{NoType}
use Rattle.sj_text_spec.specs.Reading as reading
use Rattle.sj_text_spec.specs.Texts.{listing_text}

pub hello : ClassDef
hello = record {
  pos = nowhere;
  files = [] ∷ [];
  name = codes "java.lang.Object";
  kind = Class;
  superclass = None;
  interfaces = [];
  fields = [];
  methods = record {
    pos = nowhere;
    namespace = PublicStatic;
    name = record { simple = codes "main"; params = []; result = Some Void };
    params = [];
    result = NoType;
    body = Some (log_line nowhere (string_literal nowhere (codes "hi")));
    hash = None;
  } ∷ [];
}

pub hello_listing : listing_text hello ≡ codes "(class \"java.lang.Object\" Class - [] [] [(method PublicStatic \"main;V\" [] none (Log (StringLiteral \"hi\")))])"
unfolding hello put chars
hello_listing = refl

-- the front of each listing: nothing is left
pub class_alone : reading.listing_at 7 (codes "(class") ≡ Err 0
unfolding reading.listing_at reading.class_at literal_at
class_alone = refl

-- no listing begins so: one byte is left
pub x_alone : reading.listing_at 2 (codes "x") ≡ Err 1
unfolding reading.listing_at reading.class_at literal_at
x_alone = refl
