-- Classes and their members.
use Rattle.std.specs.Prelude.{ℕ, List, [], ◌∷◌, length, Ok}
use Rattle.sj_names.specs.Grammar.{is_plain_name, is_class_name}
use Rattle.sj_trees.specs.Term.{Term}
use Rattle.sj_trees.specs.declared.classes.ParamDef.{ParamDef}
use Rattle.sj_trees.specs.declared.classes.FieldDef.{FieldDef}
use Rattle.sj_trees.specs.declared.classes.MethodDef.{MethodDef}
use Rattle.sj_trees.specs.declared.classes.ClassDef.{ClassDef}
use Rattle.sj_read_spec.specs.declared.members.MemberDef.{MemberDef}
use Rattle.sj_read_spec.specs.declared.members.MemberDef.TheVariants.{Field, Method}
use Rattle.sj_read_spec.specs.declared.codes.MemberTag.{MemberTag}
use Rattle.sj_read_spec.specs.declared.codes.MemberTag.TheVariants as tags
use Rattle.sj_read_spec.specs.Codes.{kinds, reserved_kinds, member_tags, reserved_members}
use Rattle.sj_trees.specs.Forms.{among}
use Rattle.exact_place.specs.Reading.{◌>>=◌}
use Rattle.sj_read_spec.specs.Reading.{Reading, bytes_at, list_at}
use Rattle.exact_place.specs.Grammar.{Spelling, ◌then◌, IsValue}
use Rattle.sj_read_spec.specs.Spelling.{IsBytes, IsCounted}
use Rattle.sj_read_spec.specs.Tables.{Tables, entry_at, IsEntry, name_at, IsName}
use Rattle.sj_read_spec.specs.Types.{code_at, IsCode, mark_at, IsMark, option_at, IsOption, position_at, IsPosition, namespace_at, IsNamespace, type_at, IsType}
use Rattle.sj_read_spec.specs.Trees.{tree_at, IsTree}

-- the trees of a body stand one in another 200 times at most
unfoldable pub body_at : Tables → List ℕ → Reading Term
body_at tables bytes = tree_at 200 tables bytes

unfoldable pub IsBody : Tables → Spelling Term
IsBody tables = IsTree 200 tables

-- a parameter
unfoldable pub param_at : Tables → List ℕ → Reading ParamDef
param_at tables bytes = do
  name ← name_at is_plain_name tables.names bytes
  mutable ← mark_at name.1
  tpe ← type_at tables.names mutable.1
  Ok (record { name = name.0; mutable = mutable.0; tpe = tpe.0 }, tpe.1)

unfoldable pub IsParam : Tables → Spelling ParamDef
IsParam tables = IsName is_plain_name tables.names then λ name. IsMark then λ mutable. IsType tables.names then λ tpe. IsValue (record { name = name; mutable = mutable; tpe = tpe })

-- a field behind its tag
unfoldable pub field_at : Tables → List ℕ → Reading FieldDef
field_at tables bytes = do
  pos ← position_at (length tables.files) bytes
  is_static ← mark_at pos.1
  mutable ← mark_at is_static.1
  name ← name_at is_plain_name tables.names mutable.1
  tpe ← type_at tables.names name.1
  Ok (record { pos = pos.0; is_static = is_static.0; mutable = mutable.0; name = name.0; tpe = tpe.0 }, tpe.1)

unfoldable pub IsField : Tables → Spelling FieldDef
IsField tables = IsPosition (length tables.files) then λ pos. IsMark then λ is_static. IsMark then λ mutable. IsName is_plain_name tables.names then λ name. IsType tables.names then λ tpe. IsValue (record { pos = pos; is_static = is_static; mutable = mutable; name = name; tpe = tpe })

-- a method behind its tag; a hash has twenty bytes
unfoldable pub method_at : Tables → List ℕ → Reading MethodDef
method_at tables bytes = do
  pos ← position_at (length tables.files) bytes
  namespace ← namespace_at pos.1
  name ← entry_at tables.methods namespace.1
  params ← list_at (param_at tables) name.1
  result ← type_at tables.names params.1
  body ← option_at (body_at tables) result.1
  hash ← option_at (bytes_at 20) body.1
  Ok (record { pos = pos.0; namespace = namespace.0; name = name.0; params = params.0; result = result.0; body = body.0; hash = hash.0 }, hash.1)

unfoldable pub IsMethod : Tables → Spelling MethodDef
IsMethod tables = IsPosition (length tables.files) then λ pos. IsNamespace then λ namespace. IsEntry tables.methods then λ name. IsCounted (IsParam tables) then λ params. IsType tables.names then λ result. IsOption (IsBody tables) then λ body. IsOption (IsBytes 20) then λ hash. IsValue (record { pos = pos; namespace = namespace; name = name; params = params; result = result; body = body; hash = hash })

-- a member: its tag, and the field or the method
abbrev pub member_of : Tables → MemberTag → List ℕ → Reading MemberDef
member_of tables tags.Field bytes = field_at tables bytes >>= λ f. Ok (Field f.0, f.1)
member_of tables tags.Method bytes = method_at tables bytes >>= λ m. Ok (Method m.0, m.1)

unfoldable pub member_at : Tables → List ℕ → Reading MemberDef
member_at tables bytes = code_at (among member_tags) (among reserved_members) bytes >>= λ tag. member_of tables tag.0 tag.1

abbrev pub IsMemberOf : Tables → MemberTag → Spelling MemberDef
IsMemberOf tables tags.Field = IsField tables then λ f. IsValue (Field f)
IsMemberOf tables tags.Method = IsMethod tables then λ m. IsValue (Method m)

unfoldable pub IsMember : Tables → Spelling MemberDef
IsMember tables = IsCode (among member_tags) then λ tag. IsMemberOf tables tag

-- the fields among members, in their order
abbrev pub fields_in : List MemberDef → List FieldDef
fields_in [] = []
fields_in (Field f ∷ ms) = f ∷ fields_in ms
fields_in (Method m ∷ ms) = fields_in ms

-- the methods among members, in their order
abbrev pub methods_in : List MemberDef → List MethodDef
methods_in [] = []
methods_in (Field f ∷ ms) = methods_in ms
methods_in (Method m ∷ ms) = m ∷ methods_in ms

-- the class
unfoldable pub class_at : Tables → List ℕ → Reading ClassDef
class_at tables bytes = do
  pos ← position_at (length tables.files) bytes
  name ← name_at is_class_name tables.names pos.1
  kind ← code_at (among kinds) (among reserved_kinds) name.1
  superclass ← option_at (name_at is_class_name tables.names) kind.1
  interfaces ← list_at (name_at is_class_name tables.names) superclass.1
  members ← list_at (member_at tables) interfaces.1
  Ok (record { pos = pos.0; files = tables.files; name = name.0; kind = kind.0; superclass = superclass.0; interfaces = interfaces.0; fields = fields_in members.0; methods = methods_in members.0 }, members.1)

unfoldable pub IsClass : Tables → Spelling ClassDef
IsClass tables = IsPosition (length tables.files) then λ pos. IsName is_class_name tables.names then λ name. IsCode (among kinds) then λ kind. IsOption (IsName is_class_name tables.names) then λ superclass. IsCounted (IsName is_class_name tables.names) then λ interfaces. IsCounted (IsMember tables) then λ members. IsValue (record { pos = pos; files = tables.files; name = name; kind = kind; superclass = superclass; interfaces = interfaces; fields = fields_in members; methods = methods_in members })
