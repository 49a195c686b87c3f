use Rattle.std.proofs.Common.{refl}
use Rattle.sure_receivers.proofs.worked_receivers.Goals as goal

pub returns : goal.returns
returns c = record {
  this = refl;
  an_object = refl;
  a_number = refl;
  a_text = refl;
  null = refl;
  a_parameter = refl;
  a_field = refl;
  a_choice = refl;
  an_immutable_local = refl;
  its_copy = refl;
  a_mutable_local = refl;
  the_copy_of_that = refl;
  a_local_that_may_be_null = refl;
  no_local = refl;
}
