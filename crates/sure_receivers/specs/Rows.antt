-- Which receivers and locals are sure, in worked bodies.
use Rattle.std.specs.Prelude.{◌≡◌, ℕ, pos, Bool, true, false, List, [], Some, codes}
use Rattle.sj_trees.specs.TypeRef.{TypeRef}
use Rattle.sj_trees.specs.Erase.{nowhere}
use Rattle.sj_trees.specs.Term.{Term, no_terms, more_terms, var_def, block_of, if_then, new_object, select, boolean_literal, null_literal, int_literal, var_ref, this_ref}
use Rattle.sj_trees.specs.declared.types.IrType.{IrType}
use Rattle.sj_trees.specs.declared.types.IrType.TheVariants.{String, Class}
use Rattle.sure_receivers.specs.Sure.{is_sure, sure_locals}

abbrev pub a_class : IrType
a_class = Class (codes "A")

abbrev pub made : Term
made = new_object nowhere (codes "A") (record { simple = codes "<init>"; params = []; result = Some TypeRef.Void }) no_terms

abbrev pub local : List ℕ → Term
local x = var_ref nowhere x a_class

abbrev pub none : List ℕ → Bool
none x = false

-- `x` with this right side, and `y`, which is `x` again, both of the class A
abbrev pub two_locals : Bool → Term → Term
two_locals changes right = block_of nowhere (more_terms (var_def nowhere (codes "x") a_class changes right) (more_terms (var_def nowhere (codes "y") a_class false (local (codes "x"))) no_terms))

-- a choice between an object and null, of the class A
abbrev pub either : Term
either = if_then nowhere (boolean_literal nowhere true) made (null_literal nowhere) a_class

pub record WorkedReceivers : Type 0 where
  pub this : is_sure none (this_ref nowhere a_class) ≡ true
  pub an_object : is_sure none made ≡ true
  pub a_number : is_sure none (int_literal nowhere (pos 1)) ≡ true
  pub a_text : is_sure none (var_ref nowhere (codes "s") String) ≡ true
  pub null : is_sure none (null_literal nowhere) ≡ false
  pub a_parameter : is_sure none (local (codes "x")) ≡ false
  pub a_field : is_sure none (select nowhere made (codes "A") (codes "f") a_class) ≡ false
  pub a_choice : is_sure none either ≡ false
  pub an_immutable_local : sure_locals (two_locals false made) (codes "x") ≡ true
  pub its_copy : sure_locals (two_locals false made) (codes "y") ≡ true
  pub a_mutable_local : sure_locals (two_locals true made) (codes "x") ≡ false
  pub the_copy_of_that : sure_locals (two_locals true made) (codes "y") ≡ false
  pub a_local_that_may_be_null : sure_locals (two_locals false either) (codes "x") ≡ false
  pub no_local : sure_locals (two_locals false made) (codes "z") ≡ false
