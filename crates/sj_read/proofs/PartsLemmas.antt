-- Methods, classes and tables are read by their parts.
use Rattle.std.proofs.Common.{◌≡◌, ℕ, List, Option, length, Ok, Err, refl, sym, ◌∙◌, arith}
use Rattle.sj_names.specs.Grammar.{is_class_name}
use Rattle.sj_names.specs.declared.method_names.Namespace.{Namespace}
use Rattle.sj_names.specs.declared.method_names.MethodName.{MethodName}
use Rattle.sj_trees.specs.declared.positions.Position.{Position}
use Rattle.sj_trees.specs.declared.classes.ClassKind.{ClassKind}
use Rattle.sj_trees.specs.declared.classes.ParamDef.{ParamDef}
use Rattle.sj_trees.specs.declared.classes.MethodDef.{MethodDef}
use Rattle.sj_trees.specs.declared.classes.ClassDef.{ClassDef}
use Rattle.sj_read_spec.specs.Codes.{kinds, reserved_kinds}
use Rattle.sj_trees.specs.Forms.{among}
use Rattle.exact_place.specs.Reading.{◌>>=◌}
use Rattle.sj_read_spec.specs.Reading.{Reading, bytes_at, list_at}
use Rattle.sj_read_spec.specs.Tables.{Tables, entry_at, name_at}
use Rattle.sj_read_spec.specs.Types.{code_at, option_at, position_at, namespace_at, type_at}
use Rattle.sj_read_spec.specs.Classes.{body_at, param_at, member_at, fields_in, methods_in, method_at, class_at}
use Rattle.sj_read_spec.specs.Files.{tables_at}
use Rattle.sj_read.specs.declared.classes.MethodHead.{MethodHead}
use Rattle.sj_read.specs.declared.classes.ClassHead.{ClassHead}
use Rattle.sj_read.specs.declared.classes.ClassTail.{ClassTail}
use Rattle.sj_read.specs.declared.classes.ClassParts.{ClassParts}
use Rattle.sj_read.specs.Parts.{method_head_at, implementation_at, method_tail_at, method_of_parts, members_at, class_head_at, class_tail_at, class_parts_at, class_of_parts, text_tables_at, more_tables_at}

abbrev taken : {A : Type 0} → A → List ℕ → Reading A
taken x rest = Ok (x, rest)

-- parts that are read one after the other and put together, and what follows
regroup1 : {A H Z : Type 0} (m : Reading A) (k : A → H) (follow : H → List ℕ → Reading Z) (flat : A → List ℕ → Reading Z) → ((x : A) (rest : List ℕ) → follow (k x) rest ≡ flat x rest)
    → (m >>= λ x. taken (k x.0) x.1) >>= (λ h. follow h.0 h.1) ≡ (m >>= λ x. flat x.0 x.1)
regroup1 (Ok x) k follow flat same = same x.0 x.1
regroup1 (Err e) k follow flat same = refl

regroup2 : {A B H Z : Type 0} (m : Reading A) (b : List ℕ → Reading B) (k : A → B → H) (follow : H → List ℕ → Reading Z) (flat : A → B → List ℕ → Reading Z) → ((x : A) (y : B) (rest : List ℕ) → follow (k x y) rest ≡ flat x y rest)
    → (m >>= λ x. b x.1 >>= λ y. taken (k x.0 y.0) y.1) >>= (λ h. follow h.0 h.1) ≡ (m >>= λ x. b x.1 >>= λ y. flat x.0 y.0 y.1)
regroup2 (Ok x) b k follow flat same = regroup1 (b x.1) (k x.0) follow (flat x.0) (same x.0)
regroup2 (Err e) b k follow flat same = refl

regroup3 : {A B C H Z : Type 0} (m : Reading A) (b : List ℕ → Reading B) (c : List ℕ → Reading C) (k : A → B → C → H) (follow : H → List ℕ → Reading Z) (flat : A → B → C → List ℕ → Reading Z) → ((x : A) (y : B) (z : C) (rest : List ℕ) → follow (k x y z) rest ≡ flat x y z rest)
    → (m >>= λ x. b x.1 >>= λ y. c y.1 >>= λ z. taken (k x.0 y.0 z.0) z.1) >>= (λ h. follow h.0 h.1) ≡ (m >>= λ x. b x.1 >>= λ y. c y.1 >>= λ z. flat x.0 y.0 z.0 z.1)
regroup3 (Ok x) b c k follow flat same = regroup2 (b x.1) c (k x.0) follow (flat x.0) (same x.0)
regroup3 (Err e) b c k follow flat same = refl

regroup4 : {A B C D H Z : Type 0} (m : Reading A) (b : List ℕ → Reading B) (c : List ℕ → Reading C) (d : List ℕ → Reading D) (k : A → B → C → D → H) (follow : H → List ℕ → Reading Z) (flat : A → B → C → D → List ℕ → Reading Z)
    → ((x : A) (y : B) (z : C) (w : D) (rest : List ℕ) → follow (k x y z w) rest ≡ flat x y z w rest)
    → (m >>= λ x. b x.1 >>= λ y. c y.1 >>= λ z. d z.1 >>= λ w. taken (k x.0 y.0 z.0 w.0) w.1) >>= (λ h. follow h.0 h.1) ≡ (m >>= λ x. b x.1 >>= λ y. c y.1 >>= λ z. d z.1 >>= λ w. flat x.0 y.0 z.0 w.0 w.1)
regroup4 (Ok x) b c d k follow flat same = regroup3 (b x.1) c d (k x.0) follow (flat x.0) (same x.0)
regroup4 (Err e) b c d k follow flat same = refl

abbrev behind_head : Tables → MethodHead → List ℕ → Reading MethodDef
behind_head tables head bytes = method_tail_at tables bytes >>= λ tail. Ok (method_of_parts head tail.0, tail.1)

abbrev behind_head_flat : Tables → MethodHead → List ℕ → Reading MethodDef
behind_head_flat tables head bytes = type_at tables.names bytes >>= λ result. option_at (body_at tables) result.1 >>= λ body. option_at (bytes_at 20) body.1 >>= λ hash. Ok (record { pos = head.pos; namespace = head.namespace; name = head.name; params = head.params; result = result.0; body = body.0; hash = hash.0 }, hash.1)

method_tail_in_parts : (tables : Tables) (head : MethodHead) (bytes : List ℕ) → behind_head tables head bytes ≡ behind_head_flat tables head bytes
unfolding implementation_at method_tail_at
method_tail_in_parts tables head bytes = grind arith

abbrev head_of : Position → Namespace → MethodName → List ParamDef → MethodHead
head_of pos namespace name params = record { pos = pos; namespace = namespace; name = name; params = params }

pub method_in_parts : (tables : Tables) (bytes : List ℕ)
    → method_at tables bytes ≡ (method_head_at tables bytes >>= λ head. method_tail_at tables head.1 >>= λ tail. Ok (method_of_parts head.0 tail.0, tail.1))
unfolding method_at method_head_at
method_in_parts tables bytes =
    sym (regroup4 (position_at (length tables.files) bytes) (λ (b : List ℕ). namespace_at b) (λ (b : List ℕ). entry_at tables.methods b) (λ (b : List ℕ). list_at (param_at tables) b) head_of (behind_head tables)
    (λ (pos : Position) (namespace : Namespace) (name : MethodName) (params : List ParamDef) (rest : List ℕ). behind_head_flat tables (head_of pos namespace name params) rest)
    (λ pos namespace name params rest. method_tail_in_parts tables (head_of pos namespace name params) rest))

abbrev behind_class_head : Tables → ClassHead → List ℕ → Reading ClassDef
behind_class_head tables head bytes = class_tail_at tables bytes >>= λ tail. Ok (class_of_parts tables.files (record { head = head; tail = tail.0 }), tail.1)

abbrev behind_class_head_flat : Tables → ClassHead → List ℕ → Reading ClassDef
behind_class_head_flat tables head bytes = list_at (name_at is_class_name tables.names) bytes >>= λ interfaces. list_at (member_at tables) interfaces.1 >>= λ members. Ok (record { pos = head.pos; files = tables.files; name = head.name; kind = head.kind; superclass = head.superclass; interfaces = interfaces.0; fields = fields_in members.0; methods = methods_in members.0 }, members.1)

class_tail_in_parts : (tables : Tables) (head : ClassHead) (bytes : List ℕ) → behind_class_head tables head bytes ≡ behind_class_head_flat tables head bytes
unfolding class_tail_at members_at
class_tail_in_parts tables head bytes = grind arith

abbrev class_head_of : Position → List ℕ → ClassKind → Option (List ℕ) → ClassHead
class_head_of pos name kind superclass = record { pos = pos; name = name; kind = kind; superclass = superclass }

class_head_in_parts : (tables : Tables) (bytes : List ℕ) → class_at tables bytes ≡ (class_head_at tables bytes >>= λ head. behind_class_head tables head.0 head.1)
unfolding class_at class_head_at
class_head_in_parts tables bytes =
    sym (regroup4 (position_at (length tables.files) bytes) (λ (b : List ℕ). name_at is_class_name tables.names b) (λ (b : List ℕ). code_at (among kinds) (among reserved_kinds) b) (λ (b : List ℕ). option_at (name_at is_class_name tables.names) b) class_head_of (behind_class_head tables)
    (λ (pos : Position) (name : List ℕ) (kind : ClassKind) (superclass : Option (List ℕ)) (rest : List ℕ). behind_class_head_flat tables (class_head_of pos name kind superclass) rest)
    (λ pos name kind superclass rest. class_tail_in_parts tables (class_head_of pos name kind superclass) rest))

abbrev whole : ClassHead → ClassTail → ClassParts
whole head tail = record { head = head; tail = tail }

pub class_in_parts : (tables : Tables) (bytes : List ℕ)
    → class_at tables bytes ≡ (class_parts_at tables bytes >>= λ parts. Ok (class_of_parts tables.files parts.0, parts.1))
unfolding class_parts_at
class_in_parts tables bytes =
    class_head_in_parts tables bytes ∙ sym (regroup2 (class_head_at tables bytes) (λ (b : List ℕ). class_tail_at tables b) whole
    (λ (parts : ClassParts) (rest : List ℕ). taken (class_of_parts tables.files parts) rest) (λ (head : ClassHead) (tail : ClassTail) (rest : List ℕ). taken (class_of_parts tables.files (whole head tail)) rest) (λ head tail rest. refl))

pub tables_in_parts : (bytes : List ℕ)
    → tables_at bytes ≡ (text_tables_at bytes >>= λ texts. more_tables_at texts.0.1 texts.1 >>= λ more. Ok (record { files = texts.0.0; names = texts.0.1; methods = more.0.0; strings = more.0.1 }, more.1))
unfolding tables_at text_tables_at more_tables_at
tables_in_parts bytes = grind arith
