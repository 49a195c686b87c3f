-- Parts of methods, classes and tables, as the code reads them.
use Rattle.std.specs.Prelude.{ℕ, Bool, true, false, List, Option, Some, None, length, Ok}
use Rattle.std.specs.Option.{option_copied}
use Rattle.sj_names.specs.Grammar.{is_class_name}
use Rattle.sj_names.specs.declared.method_names.MethodName.{MethodName}
use Rattle.sj_trees.specs.Term.{Term}
use Rattle.sj_trees.specs.declared.types.IrType.{IrType}
use Rattle.sj_trees.specs.declared.classes.MethodDef.{MethodDef}
use Rattle.sj_trees.specs.declared.classes.ClassDef.{ClassDef}
use Rattle.sj_read_spec.specs.declared.members.MemberDef.{MemberDef}
use Rattle.sj_read_spec.specs.Codes.{kinds, reserved_kinds}
use Rattle.sj_trees.specs.Forms.{among}
use Rattle.exact_place.specs.Reading.{◌>>=◌}
use Rattle.sj_read_spec.specs.Reading.{Reading, bytes_at, list_at}
use Rattle.sj_read_spec.specs.Tables.{Tables, entry_at, name_at, text_at, string_at}
use Rattle.sj_read_spec.specs.References.{method_name_at}
use Rattle.sj_read_spec.specs.Types.{code_at, mark_at, option_at, position_at, namespace_at, type_at}
use Rattle.sj_read_spec.specs.Classes.{body_at, param_at, member_at, fields_in, methods_in}
use Rattle.sj_read.specs.declared.classes.MethodHead.{MethodHead}
use Rattle.sj_read.specs.declared.classes.Implementation.{Implementation}
use Rattle.sj_read.specs.declared.classes.MethodTail.{MethodTail}
use Rattle.sj_read.specs.declared.classes.Members.{Members}
use Rattle.sj_read.specs.declared.classes.ClassHead.{ClassHead}
use Rattle.sj_read.specs.declared.classes.ClassTail.{ClassTail}
use Rattle.sj_read.specs.declared.classes.ClassParts.{ClassParts}

-- a method up to its parameters
unfoldable pub method_head_at : Tables → List ℕ → Reading MethodHead
method_head_at tables bytes = do
  pos ← position_at (length tables.files) bytes
  namespace ← namespace_at pos.1
  name ← entry_at tables.methods namespace.1
  params ← list_at (param_at tables) name.1
  Ok (record { pos = pos.0; namespace = namespace.0; name = name.0; params = params.0 }, params.1)

-- the body and the hash of a method, as a contract sees them
abbrev pub Doing : Type 0
Doing = Option Term × Option (List ℕ)

abbrev pub seen_implementation : Implementation → Doing
seen_implementation i = (i.body, option_copied i.hash)

abbrev pub body_and_hash_at : Tables → List ℕ → Reading Doing
body_and_hash_at tables bytes = body_at tables bytes >>= λ body. option_at (bytes_at 20) body.1 >>= λ hash. Ok ((Some body.0, hash.0), hash.1)

abbrev pub behind_mark_at : Tables → Bool → List ℕ → Reading Doing
behind_mark_at tables true bytes = body_and_hash_at tables bytes
behind_mark_at tables false bytes = option_at (bytes_at 20) bytes >>= λ hash. Ok ((None, hash.0), hash.1)

unfoldable pub implementation_at : Tables → List ℕ → Reading Doing
implementation_at tables bytes = mark_at bytes >>= λ there. behind_mark_at tables there.0 there.1

-- a method behind its parameters
abbrev pub seen_tail : MethodTail → IrType × Doing
seen_tail t = (t.result, seen_implementation t.implementation)

unfoldable pub method_tail_at : Tables → List ℕ → Reading (IrType × Doing)
method_tail_at tables bytes = do
  result ← type_at tables.names bytes
  implementation ← implementation_at tables result.1
  Ok ((result.0, implementation.0), implementation.1)

abbrev pub method_of_parts : MethodHead → IrType × Doing → MethodDef
method_of_parts head tail = record { pos = head.pos; namespace = head.namespace; name = head.name; params = head.params; result = tail.0; body = tail.1.0; hash = tail.1.1 }

-- the fields and the methods among members
abbrev pub members_in : List MemberDef → Members
members_in ms = record { fields = fields_in ms; methods = methods_in ms }

unfoldable pub members_at : Tables → List ℕ → Reading Members
members_at tables bytes = list_at (member_at tables) bytes >>= λ ms. Ok (members_in ms.0, ms.1)

-- a class up to its superclass
unfoldable pub class_head_at : Tables → List ℕ → Reading ClassHead
class_head_at tables bytes = do
  pos ← position_at (length tables.files) bytes
  name ← name_at is_class_name tables.names pos.1
  kind ← code_at (among kinds) (among reserved_kinds) name.1
  superclass ← option_at (name_at is_class_name tables.names) kind.1
  Ok (record { pos = pos.0; name = name.0; kind = kind.0; superclass = superclass.0 }, superclass.1)

-- a class behind its superclass
unfoldable pub class_tail_at : Tables → List ℕ → Reading ClassTail
class_tail_at tables bytes = do
  interfaces ← list_at (name_at is_class_name tables.names) bytes
  members ← members_at tables interfaces.1
  Ok (record { interfaces = interfaces.0; members = members.0 }, members.1)

-- a class, but for its source files
unfoldable pub class_parts_at : Tables → List ℕ → Reading ClassParts
class_parts_at tables bytes = do
  head ← class_head_at tables bytes
  tail ← class_tail_at tables head.1
  Ok (record { head = head.0; tail = tail.0 }, tail.1)

abbrev pub class_of_parts : List (List ℕ) → ClassParts → ClassDef
class_of_parts files parts = record { pos = parts.head.pos; files = files; name = parts.head.name; kind = parts.head.kind; superclass = parts.head.superclass; interfaces = parts.tail.interfaces; fields = parts.tail.members.fields; methods = parts.tail.members.methods }

-- the source files and the names
unfoldable pub text_tables_at : List ℕ → Reading (List (List ℕ) × List (List ℕ))
text_tables_at bytes = do
  files ← list_at text_at bytes
  names ← list_at text_at files.1
  Ok ((files.0, names.0), names.1)

-- the method names and the strings
unfoldable pub more_tables_at : List (List ℕ) → List ℕ → Reading (List MethodName × List (List ℕ))
more_tables_at names bytes = do
  methods ← list_at (method_name_at names) bytes
  strings ← list_at string_at methods.1
  Ok ((methods.0, strings.0), strings.1)
