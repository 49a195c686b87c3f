-- What a tree comes to as an operand.
use Rattle.std.specs.Prelude.{ℕ, Bool, true, ◌&&◌, List, Some}
use Rattle.sj_core.specs.Terms.{named, undefined_value, no_statements, assign_to, assign_field, assign_static, assign_element}
use Rattle.sj_desugar_spec.specs.Coercions.{coerced}
use Rattle.sj_desugar_spec.specs.Desugar.{Targets, into, operand, receiver}
use Rattle.sj_desugar_spec.specs.Plain.{is_plain}
use Rattle.sj_desugar_spec.specs.Spill.{Code, no_code, one}
use Rattle.sj_desugar_forms.specs.Forms.{behind}
use Rattle.sj_desugar_forms.specs.Placing.{Placed, placed}
use Rattle.sj_trees.specs.Term.{Term, var_ref, select, select_static, array_select}
use Rattle.sj_trees.specs.TypeOf.{type_of_term}
use Rattle.sj_trees.specs.declared.positions.Position.{Position}

-- by whether all operands behind it are plain, with variables from this number on
unfoldable pub comes_to : (List ℕ → Bool) → (List ℕ → Bool) → Targets → Bool → ℕ → Term → Placed
comes_to m s ls rest j t = placed rest (operand m s t (λ k j. into m s ls k j t)) j

-- the same of a receiver
unfoldable pub comes_received : (List ℕ → Bool) → (List ℕ → Bool) → Targets → Bool → ℕ → Term → Placed
comes_received m s ls rest j t = placed rest (receiver m s t (λ k j. into m s ls k j t)) j

-- the object of the field that a tree names, or the array of the element, and nothing where it names neither
abbrev pub owner_place : (List ℕ → Bool) → (List ℕ → Bool) → Targets → Bool → ℕ → Term → Placed
owner_place m s ls rest j (select q d c f t) = comes_received m s ls rest j d
owner_place m s ls rest j (array_select q d i t) = comes_received m s ls (is_plain i && rest) j d
owner_place m s ls rest j _ = record { statements = no_statements; expression = undefined_value; next = j }

-- the index of the element that a tree names, and nothing where it names none
abbrev pub index_place : (List ℕ → Bool) → (List ℕ → Bool) → Targets → Bool → ℕ → Term → Placed
index_place m s ls rest j (array_select q d i t) = comes_to m s ls rest j i
index_place m s ls rest j _ = record { statements = no_statements; expression = undefined_value; next = j }

-- an assignment of the second tree's value to what the first names, behind the object of a field, or the array and the index of an element
abbrev pub assigned_code : (List ℕ → Bool) → (List ℕ → Bool) → Targets → ℕ → Position → Term → Term → Placed → Placed → Code
assigned_code m s ls j p (var_ref q x t) e o i = behind (comes_to m s ls true j e) (λ g. one (assign_to (Some p) (named x) (coerced t (type_of_term e) g)))
assigned_code m s ls j p (select q d c f t) e o i = behind o (λ g k. behind (comes_to m s ls true k e) (λ h. one (assign_field (Some p) g c f (coerced t (type_of_term e) h))))
assigned_code m s ls j p (select_static q c f t) e o i = behind (comes_to m s ls true j e) (λ g. one (assign_static (Some p) c f (coerced t (type_of_term e) g)))
assigned_code m s ls j p (array_select q d n t) e o i = behind o (λ g k. behind i (λ h l. behind (comes_to m s ls true l e) (λ v. one (assign_element (Some p) t g h (coerced t (type_of_term e) v)))))
assigned_code m s ls j p _ e o i = no_code j
