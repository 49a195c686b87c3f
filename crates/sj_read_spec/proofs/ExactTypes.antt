-- Marks, codes, signed numbers, positions and types.
use Rattle.std.proofs.Common.{ℕ, Bool, true, false, List, eqb, Option, Some, None}
use Rattle.std.specs.Int.{Width, cast_signed}
use Rattle.sj_names.specs.Grammar.{is_class_name}
use Rattle.sj_trees.specs.declared.types.IrType.TheVariants.{Array}
use Rattle.sj_trees.specs.declared.refusals.Reserved.{Reserved}
use Rattle.sj_trees.specs.declared.refusals.Code.TheVariants.{BadTag, Unsupported}
use Rattle.sj_read_spec.specs.Codes.{plain_types, reserved_types, namespaces, reserved_namespaces}
use Rattle.sj_trees.specs.Forms.{among}
use Rattle.sj_read_spec.specs.Reading.{Reading, fault}
use Rattle.exact_place.specs.Grammar.{Spelling}
use Rattle.sj_read_spec.specs.Spelling.{Found}
use Rattle.sj_trees.specs.Types.{class_type}
use Rattle.sj_read_spec.specs.Types.{coded, code_at, IsCode, mark_with, mark_at, IsMark, option_of, option_at, IsOptionOf, IsOption, signed_at, IsSigned, position_at, IsPosition, namespace_at, IsNamespace, type_of, type_at, IsTypeOf, IsType}
use Rattle.sj_read_spec.proofs.Exact.{Exact, exact_from, exact_then, exact_value, exact_never, exact_found, exact_chosen, exact_byte, exact_number}
use Rattle.sj_read_spec.proofs.ExactTables.{exact_below, exact_name}
use Rattle.sj_read_spec.proofs.ExactReferences.{exact_array_reference}

pub exact_coded : {A : Type 0} (o : Option A) (form : Option Reserved) (front : List ℕ) → Exact (coded o form front) (Found o)
exact_coded (Some x) form front = exact_value x
exact_coded None (Some form) front = exact_never (λ rest. fault (Unsupported form) front)
exact_coded None None front = exact_never (λ rest. fault BadTag front)

pub exact_code : {A : Type 0} (meaning : ℕ → Option A) (reserved : ℕ → Option Reserved) → Exact (code_at meaning reserved) (IsCode meaning)
exact_code meaning reserved = exact_from _ _ _ _ exact_byte (λ front code. exact_coded (meaning code) (reserved code) front)

pub exact_mark : Exact mark_at IsMark
exact_mark = exact_from _ _ _ _ exact_byte (λ front code. exact_found BadTag (mark_with code) front)

exact_option_of : {A : Type 0} (read : List ℕ → Reading A) (P : Spelling A) → Exact read P → (there : Bool) → Exact (option_of read there) (IsOptionOf P there)
exact_option_of read P each true = exact_then _ _ _ _ each (λ x. exact_value _)
exact_option_of read P each false = exact_value None

pub exact_option : {A : Type 0} (read : List ℕ → Reading A) (P : Spelling A) → Exact read P → Exact (option_at read) (IsOption P)
exact_option read P each = exact_then _ _ _ _ exact_mark (λ there. exact_option_of read P each there)

pub exact_signed : (w : Width) (n : ℕ) → Exact (signed_at w n) (IsSigned w n)
exact_signed w n = exact_then _ _ _ _ (exact_number n) (λ x. exact_value (cast_signed w x))

pub exact_position : (files : ℕ) → Exact (position_at files) (IsPosition files)
unfolding position_at IsPosition
exact_position files = exact_then _ _ _ _ (exact_below files) (λ file. exact_then _ _ _ _ (exact_number 4) (λ line. exact_then _ _ _ _ (exact_number 4) (λ column. exact_value _)))

pub exact_namespace : Exact namespace_at IsNamespace
exact_namespace = exact_code (among namespaces) (among reserved_namespaces)

exact_type_of : (names : List (List ℕ)) (code : ℕ) (front : List ℕ) → Exact (type_of names code front) (IsTypeOf names code)
unfolding type_of IsTypeOf
exact_type_of names code front = exact_chosen (eqb code 12) _ _ _ _ (exact_then _ _ _ _ (exact_name is_class_name names) (λ c. exact_value (class_type c))) (exact_chosen (eqb code 13) _ _ _ _ (exact_then _ _ _ _ (exact_array_reference names) (λ a. exact_value (Array a))) (exact_coded (among plain_types code) (among reserved_types code) front))

pub exact_type : (names : List (List ℕ)) → Exact (type_at names) (IsType names)
exact_type names = exact_from _ _ _ _ exact_byte (λ front code. exact_type_of names code front)
