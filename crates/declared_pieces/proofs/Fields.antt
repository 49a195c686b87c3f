-- The names and the fields of the classes of an accepted folder.
use Rattle.std.proofs.Common.{◌≡◌, true, List, Option, Some, None, IsTrue, refl, sym, subst, ◌∙◌}
use Rattle.std.specs.List.{Contains}
use Rattle.std.specs.Str.{is_utf8}
use Rattle.std.proofs.lemmas.List.Elements.{All-contains}
use Rattle.std.proofs.lemmas.Str.{is_utf8-from_IsUtf8}
use Rattle.object_helpers.proofs.Members.{same-class}
use Rattle.object_helpers.proofs.Worlds.{judged}
use Rattle.object_helpers.specs.Accepted.{IsAccepted}
use Rattle.object_helpers.specs.Locals.{HasValue}
use Rattle.file_declarations.specs.Declared.{FieldsAreKept}
use Rattle.sj_text_files.proofs.ListedClasses.{file_is_listed}
use Rattle.object_helpers.proofs.LinkedPiecesFields.{fields_apart}
use Rattle.object_helpers.specs.Used.{has_field_in, has_static_in}
use Rattle.sj_text_spec.specs.Rules.{HasListing, IsListedField}
use Rattle.object_helpers.proofs.Fields.{field_keeps, has_value, field_found, static_found, one_field, key_of}
use Rattle.object_helpers.specs.Judged.{IsJudgedClass}
use Rattle.sj_names.proofs.Same.{impossible}
use Rattle.sj_names.specs.Grammar.{is_class_name, is_plain_name}
use Rattle.sj_names.specs.declared.entry_points.EntryPoint.{EntryPoint}
use Rattle.sj_names.specs.declared.folders.SourceFile.{SourceFile}
use Rattle.file_declarations.specs.Settings.{IsField, IsStaticField}
use Rattle.sj_trees.specs.declared.classes.ClassDef.{ClassDef}
use Rattle.sj_trees.specs.declared.classes.FieldDef.{FieldDef}
use Rattle.sj_trees.specs.declared.types.IrType.{IrType}
use Rattle.sj_trees.specs.declared.types.IrType.TheVariants.{Nothing}
use Rattle.sj_world.specs.Known.{Name, Classes, class_of}

pub field_there : (w : Classes) (c f : Name) (t : IrType) → has_field_in (class_of w c) f t ≡ true → IsField w c f t
field_there w c f t h = go (class_of w c) refl h
  where
    go : (o : Option ClassDef) → class_of w c ≡ o → has_field_in o f t ≡ true → IsField w c f t
    go None e k = impossible k
    go (Some class) e k =
        let its = field_found class.fields f t k in
        record { definition = class; field = its.field; found = same-class w c ∙ e; among = its.among; of_objects = its.instance; named = sym its.name_is; typed = sym its.type_is }

pub static_there : (w : Classes) (c f : Name) (t : IrType) → has_static_in (class_of w c) f t ≡ true → IsStaticField w c f t
static_there w c f t h = go (class_of w c) refl h
  where
    go : (o : Option ClassDef) → class_of w c ≡ o → has_static_in o f t ≡ true → IsStaticField w c f t
    go None e k = impossible k
    go (Some class) e k =
        let its = static_found class.fields f t k in
        record { definition = class; field = its.field; found = same-class w c ∙ e; among = its.among; of_class = its.static; named = sym its.name_is; typed = sym its.type_is }

nothing_has : HasValue Nothing → ⊥
nothing_has h = impossible (sym h)

module _ (entries : List EntryPoint) (files : List SourceFile) (w : Classes) (a : IsAccepted entries files w) where
  its : (d : ClassDef) → Contains w d → IsJudgedClass d
  its d i = judged entries files w a d i

  listing : (d : ClassDef) → Contains w d → HasListing d
  listing d i = let j = its d i in file_is_listed j.bytes d j.read

  pub class_named : (d : ClassDef) → Contains w d → IsTrue (is_class_name d.name)
  class_named d i = (listing d i).name.0

  pub class_utf8 : (d : ClassDef) → Contains w d → IsTrue (is_utf8 d.name)
  class_utf8 d i = is_utf8-from_IsUtf8 d.name (listing d i).name.1

  field_named : (d : ClassDef) (f : FieldDef) → Contains w d → Contains d.fields f → IsTrue (is_plain_name f.name)
  field_named d f i k = let all = All-contains IsListedField d.fields f (listing d i).fields k in all.0.0

  pub fields_kept : FieldsAreKept w
  fields_kept = record {
    class_names = class_named;
    field_names = field_named;
    once = λ d f g i j k m e. one_field d.fields (fields_apart d (its d i).unbroken) f g j k (key_of f f.name g.is_static m refl ∙ sym (key_of g f.name g.is_static refl e));
    values = λ d f i k e. nothing_has (subst HasValue e (has_value d f (field_keeps d (its d i).unbroken f k)));
  }
