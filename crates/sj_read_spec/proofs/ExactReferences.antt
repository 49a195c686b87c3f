-- References to types, and method names.
use Rattle.std.proofs.Common.{ℕ, List, ltb, eqb, Some, None}
use Rattle.sj_names.specs.declared.references.TypeRef.TheVariants.{Void}
use Rattle.sj_names.specs.Grammar.{is_class_name, is_simple_name}
use Rattle.sj_trees.specs.declared.refusals.Code.TheVariants.{BadTag}
use Rattle.sj_read_spec.specs.References.{plain_base, plain_reference, base_at, IsBase, array_at, IsArray, array_reference_at, IsArrayReference, reference_of, IsReference, parameter_at, IsParameter, result_at, IsResult, method_name_at, IsMethodName}
use Rattle.sj_read_spec.proofs.Exact.{Exact, exact_from, exact_then, exact_value, exact_found, exact_tested, exact_chosen, exact_byte, exact_list}
use Rattle.sj_read_spec.proofs.ExactTables.{exact_name}

pub exact_base : (names : List (List ℕ)) → Exact (base_at names) (IsBase names)
exact_base names = exact_from _ _ _ _ exact_byte (λ front code. exact_chosen _ _ _ _ _ (exact_then _ _ _ _ (exact_name is_class_name names) (λ c. exact_value _)) (exact_found BadTag (plain_base code) front))

pub exact_array : (names : List (List ℕ)) → Exact (array_at names) (IsArray names)
unfolding array_at IsArray
exact_array names = exact_then _ _ _ _ (exact_from _ _ _ _ exact_byte (λ front n. exact_tested BadTag (ltb 0 n) n front)) (λ n. exact_then _ _ _ _ (exact_base names) (λ base. exact_value _))

pub exact_array_reference : (names : List (List ℕ)) → Exact (array_reference_at names) (IsArrayReference names)
unfolding array_reference_at IsArrayReference
exact_array_reference names = exact_from _ _ _ _ exact_byte (λ front code. exact_then _ _ _ _ (exact_tested BadTag (eqb code 9) code front) (λ nine. exact_array names))

pub exact_reference : (names : List (List ℕ)) (code : ℕ) (front : List ℕ) → Exact (reference_of names code front) (IsReference names code)
unfolding reference_of IsReference
exact_reference names code front = exact_chosen _ _ _ _ _ (exact_then _ _ _ _ (exact_name is_class_name names) (λ c. exact_value _)) (exact_chosen _ _ _ _ _ (exact_then _ _ _ _ (exact_array names) (λ a. exact_value _)) (exact_found BadTag (plain_reference code) front))

pub exact_parameter : (names : List (List ℕ)) → Exact (parameter_at names) (IsParameter names)
exact_parameter names = exact_from _ _ _ _ exact_byte (λ front code. exact_reference names code front)

pub exact_result : (names : List (List ℕ)) → Exact (result_at names) (IsResult names)
exact_result names = exact_from _ _ _ _ exact_byte (λ front code. exact_chosen (eqb code 0) _ _ _ _ (exact_value None) (exact_chosen (eqb code 1) _ _ _ _ (exact_value (Some Void)) (exact_then _ _ _ _ (exact_reference names code front) (λ r. exact_value (Some r)))))

pub exact_method_name : (names : List (List ℕ)) → Exact (method_name_at names) (IsMethodName names)
unfolding method_name_at IsMethodName
exact_method_name names = exact_then _ _ _ _ (exact_name is_simple_name names) (λ simple. exact_then _ _ _ _ (exact_list _ _ (exact_parameter names)) (λ params. exact_then _ _ _ _ (exact_result names) (λ result. exact_value _)))
