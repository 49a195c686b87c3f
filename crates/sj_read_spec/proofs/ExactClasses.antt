-- Classes and their members.
use Rattle.std.proofs.Common.{length}
use Rattle.sj_names.specs.Grammar.{is_plain_name, is_class_name}
use Rattle.sj_read_spec.specs.declared.codes.MemberTag.{MemberTag}
use Rattle.sj_read_spec.specs.declared.codes.MemberTag.TheVariants as tags
use Rattle.sj_read_spec.specs.Codes.{kinds, reserved_kinds, member_tags, reserved_members}
use Rattle.sj_trees.specs.Forms.{among}
use Rattle.sj_read_spec.specs.Tables.{Tables}
use Rattle.sj_read_spec.specs.Classes.{body_at, IsBody, param_at, IsParam, field_at, IsField, method_at, IsMethod, member_of, member_at, IsMemberOf, IsMember, class_at, IsClass}
use Rattle.sj_read_spec.proofs.Exact.{Exact, exact_then, exact_value, exact_list, exact_bytes}
use Rattle.sj_read_spec.proofs.ExactTables.{exact_entry, exact_name}
use Rattle.sj_read_spec.proofs.ExactTypes.{exact_code, exact_mark, exact_option, exact_position, exact_namespace, exact_type}
use Rattle.sj_read_spec.proofs.ExactTrees.{exact_tree}

exact_body : (tables : Tables) → Exact (body_at tables) (IsBody tables)
unfolding body_at IsBody
exact_body tables = exact_tree 200 tables

exact_param : (tables : Tables) → Exact (param_at tables) (IsParam tables)
unfolding param_at IsParam
exact_param tables = exact_then _ _ _ _ (exact_name is_plain_name tables.names) (λ name. exact_then _ _ _ _ exact_mark (λ mutable. exact_then _ _ _ _ (exact_type tables.names) (λ tpe. exact_value _)))

exact_field : (tables : Tables) → Exact (field_at tables) (IsField tables)
unfolding field_at IsField
exact_field tables = exact_then _ _ _ _ (exact_position (length tables.files)) (λ pos. exact_then _ _ _ _ exact_mark (λ is_static. exact_then _ _ _ _ exact_mark (λ mutable. exact_then _ _ _ _ (exact_name is_plain_name tables.names) (λ name. exact_then _ _ _ _ (exact_type tables.names) (λ tpe. exact_value _)))))

exact_method : (tables : Tables) → Exact (method_at tables) (IsMethod tables)
unfolding method_at IsMethod
exact_method tables = exact_then _ _ _ _ (exact_position (length tables.files)) (λ pos. exact_then _ _ _ _ exact_namespace (λ namespace. exact_then _ _ _ _ (exact_entry tables.methods) (λ name. exact_then _ _ _ _ (exact_list _ _ (exact_param tables)) (λ params. exact_then _ _ _ _ (exact_type tables.names) (λ result. exact_then _ _ _ _ (exact_option _ _ (exact_body tables)) (λ body. exact_then _ _ _ _ (exact_option _ _ (exact_bytes 20)) (λ hash. exact_value _)))))))

exact_member_of : (tables : Tables) (tag : MemberTag) → Exact (member_of tables tag) (IsMemberOf tables tag)
exact_member_of tables tags.Field = exact_then _ _ _ _ (exact_field tables) (λ f. exact_value _)
exact_member_of tables tags.Method = exact_then _ _ _ _ (exact_method tables) (λ m. exact_value _)

exact_member : (tables : Tables) → Exact (member_at tables) (IsMember tables)
unfolding member_at IsMember
exact_member tables = exact_then _ _ _ _ (exact_code (among member_tags) (among reserved_members)) (λ tag. exact_member_of tables tag)

pub exact_class : (tables : Tables) → Exact (class_at tables) (IsClass tables)
unfolding class_at IsClass
exact_class tables = exact_then _ _ _ _ (exact_position (length tables.files)) (λ pos. exact_then _ _ _ _ (exact_name is_class_name tables.names) (λ name. exact_then _ _ _ _ (exact_code (among kinds) (among reserved_kinds)) (λ kind. exact_then _ _ _ _ (exact_option _ _ (exact_name is_class_name tables.names)) (λ superclass. exact_then _ _ _ _ (exact_list _ _ (exact_name is_class_name tables.names)) (λ interfaces. exact_then _ _ _ _ (exact_list _ _ (exact_member tables)) (λ members. exact_value _))))))
