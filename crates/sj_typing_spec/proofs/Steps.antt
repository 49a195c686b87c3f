-- Steps of a check, as runs of its parts.
use Rattle.std.proofs.Common.{◌≡◌, ℕ, Bool, true, false, List, [], ◌∷◌, Option, Result, Ok, Err, refl, sym, ap, subst}
use Rattle.sj_names.specs.declared.method_names.Namespace.{Namespace}
use Rattle.sj_trees.specs.declared.classes.FieldDef.{FieldDef}
use Rattle.sj_trees.specs.declared.types.IrType.{IrType}
use Rattle.sj_trees.specs.declared.types.IrType.TheVariants as type
use Rattle.sj_trees.specs.Term.{Term}
use Rattle.sj_ask.specs.declared.errors.TypeError.{TypeError}
use Rattle.sj_ask.specs.declared.errors.TypeError.TheVariants.{NoMemory}
use Rattle.sj_ask.specs.declared.questions.Question.{Question}
use Rattle.sj_ask.specs.declared.questions.Question.TheVariants as question
use Rattle.sj_ask.specs.declared.questions.Answer.{Answer}
use Rattle.sj_ask.specs.Stands.{Stand}
use Rattle.sj_ask.specs.Answers.{IsAnswer}
use Rattle.sj_ask.specs.Told.{Told, told_more}
use Rattle.sj_ask.specs.Tasks.{done, ◌>>=◌, says_yes, found_field, asks_sub, asks_field}
use Rattle.sj_ask.specs.Runs.{Ran}
use Rattle.sj_ask.proofs.Running.{ran-done, ran-refused, ran-bind, ran-stop, ran-ask}
use Rattle.sj_typing_spec.specs.declared.labels.Label.{Label}
use Rattle.sj_typing_spec.specs.declared.rows.Checked.{Checked}
use Rattle.sj_typing_spec.specs.declared.rows.Row.{Row}
use Rattle.sj_typing_spec.specs.Rows.{row_of}
use Rattle.sj_typing_spec.specs.Checks.{Checking, then_do, both, met, unless_no, ask_fits, ask_field, ask_row, fault_at, check_of, ask_result, body_task, ask_wanted}
use Rattle.sj_typing_spec.specs.Answered.{AsRun, as_ran, no_memory, seen, ended, behind, numbered}

-- the end of a first part with the end of a second
abbrev pub first_of : Bool → Result Bool TypeError → Result Bool TypeError
first_of a (Ok b) = Ok a
first_of a (Err e) = Err e

pub seen-behind : (x : Checked) (r : Result Checked TypeError) → seen (behind x r) ≡ first_of x.settable (seen r)
seen-behind x (Ok y) = refl
seen-behind x (Err e) = refl

pub seen-numbered : (r : Result Bool TypeError) (n : ℕ) → seen (numbered r n) ≡ r
seen-numbered (Ok b) n = refl
seen-numbered (Err e) n = refl

module _ (Is : Question → Answer → Type 0) where
  pub as_done : (b : Bool) (t : Told) → AsRun Is (done b) (Ok b) t t
  as_done b t = as_ran (ran-done Is b t)

  pub as_ended : (r : Result Bool TypeError) (t : Told) → AsRun Is (ended r) r t t
  as_ended (Ok b) t = as_ran (ran-done Is b t)
  as_ended (Err e) t = as_ran (ran-refused Is e t)

  pub as_both : (m n : Checking) (a : Bool) (r : Result Bool TypeError) (s t u : Told) → AsRun Is m (Ok a) s t → AsRun Is n r t u → AsRun Is (both m n) (first_of a r) s u
  unfolding both
  as_both m n a (Ok b) s t u (as_ran h) (as_ran k) = as_ran (ran-bind Is m (λ x. n >>= (λ o. done x)) a (Ok a) s t u h (ran-bind Is n (λ o. done a) b (Ok a) t u u k (ran-done Is a u)))
  as_both m n a (Err e) s t u (as_ran h) (as_ran k) = as_ran (ran-bind Is m (λ x. n >>= (λ o. done x)) a (Err e) s t u h (ran-stop Is n (λ o. done a) e t u k))
  as_both m n a (Ok b) s t u (as_ran h) (no_memory q) = cc
  as_both m n a (Err e) s t u (as_ran h) (no_memory q) = no_memory q
  as_both m n a r s t u (no_memory q) k = cc

  pub as_both_stop : (m n : Checking) (e : TypeError) (s t : Told) → AsRun Is m (Err e) s t → AsRun Is (both m n) (Err e) s t
  unfolding both
  as_both_stop m n e s t (as_ran h) = as_ran (ran-stop Is m (λ x. n >>= (λ o. done x)) e s t h)
  as_both_stop m n e s t (no_memory q) = no_memory q

  pub as_then : (m n : Checking) (a : Bool) (r : Result Bool TypeError) (s t u : Told) → AsRun Is m (Ok a) s t → AsRun Is n r t u → AsRun Is (then_do m n) r s u
  unfolding then_do
  as_then m n a r s t u (as_ran h) (as_ran k) = as_ran (ran-bind Is m (λ x. n) a r s t u h k)
  as_then m n a r s t u (as_ran h) (no_memory q) = no_memory q
  as_then m n a r s t u (no_memory q) k = cc

  pub as_then_stop : (m n : Checking) (e : TypeError) (s t : Told) → AsRun Is m (Err e) s t → AsRun Is (then_do m n) (Err e) s t
  unfolding then_do
  as_then_stop m n e s t (as_ran h) = as_ran (ran-stop Is m (λ x. n) e s t h)
  as_then_stop m n e s t (no_memory q) = no_memory q

  pub as_met : (space : Namespace) (ls : List Label) (n : ℕ) (t : Term) (m : Checking) (a : Bool) (r : Result Bool TypeError) (s u v : Told) → AsRun Is m (Ok a) s u → AsRun Is (ask_row (fault_at t n) (row_of space ls a t)) r u v → AsRun Is (met space ls n t m) r s v
  unfolding met
  as_met space ls n t m a r s u v (as_ran h) (as_ran k) = as_ran (ran-bind Is m (λ x. ask_row (fault_at t n) (row_of space ls x t)) a r s u v h k)
  as_met space ls n t m a r s u v (as_ran h) (no_memory q) = no_memory q
  as_met space ls n t m a r s u v (no_memory q) k = cc

  pub as_met_stop : (space : Namespace) (ls : List Label) (n : ℕ) (t : Term) (m : Checking) (e : TypeError) (s u : Told) → AsRun Is m (Err e) s u → AsRun Is (met space ls n t m) (Err e) s u
  unfolding met
  as_met_stop space ls n t m e s u (as_ran h) = as_ran (ran-stop Is m (λ x. ask_row (fault_at t n) (row_of space ls x t)) e s u h)
  as_met_stop space ls n t m e s u (no_memory q) = no_memory q

  -- a subtype is asked for, and then one goes on
  pub as_asked : (a b : IrType) (y : Bool) (k : Bool → Checking) (r : Result Bool TypeError) (s t u : Told) → Ran {E = TypeError} Is (asks_sub a b) (Ok y) s t → AsRun Is (k y) r t u → AsRun Is (asks_sub a b >>= k) r s u
  as_asked a b y k r s t u h (as_ran l) = as_ran (ran-bind Is (asks_sub a b) k y r s t u h l)
  as_asked a b y k r s t u h (no_memory q) = no_memory q

  pub as_found : (c name : List ℕ) (mark : Bool) (found : Option FieldDef) (k : Option FieldDef → Checking) (r : Result Bool TypeError) (s t u : Told) → Ran {E = TypeError} Is (asks_field c name mark) (Ok found) s t → AsRun Is (k found) r t u → AsRun Is (asks_field c name mark >>= k) r s u
  as_found c name mark found k r s t u h (as_ran l) = as_ran (ran-bind Is (asks_field c name mark) k found r s t u h l)
  as_found c name mark found k r s t u h (no_memory q) = no_memory q

  pub ran_sub : (a b : IrType) (x : Answer) (s t : Told) → Is (question.IsSub a b) x → t ≡ told_more s ((question.IsSub a b, x) ∷ []) → Ran {E = TypeError} Is (asks_sub a b) (Ok (says_yes x)) s t
  unfolding asks_sub
  ran_sub a b x s t is told = ran-ask Is (question.IsSub a b) says_yes x s t is told

  pub ran_field : (c name : List ℕ) (mark : Bool) (x : Answer) (s t : Told) → Is (question.Field c name mark) x → t ≡ told_more s ((question.Field c name mark, x) ∷ []) → Ran {E = TypeError} Is (asks_field c name mark) (Ok (found_field x)) s t
  unfolding asks_field
  ran_field c name mark x s t is told = ran-ask Is (question.Field c name mark) found_field x s t is told

  -- a task that has come to its end
  pub as_judged : (m : Checking) (r : Result Bool TypeError) (t : Told) → m ≡ ended r → AsRun Is m r t t
  as_judged m r t e = subst (λ (x : Checking). AsRun Is x r t t) (sym e) (as_ended r t)

  pub as_out : (m : Checking) (e : TypeError) (s t : Told) → e ≡ NoMemory → AsRun Is m (Err e) s t
  as_out m e s t q = no_memory (ap Err q)

  pub as_row_no : (fault : TypeError) (row : Row) (t : Told) → row.holds ≡ false → AsRun Is (ask_row fault row) (Err fault) t t
  as_row_no fault row t e = subst (λ (b : Bool). AsRun Is (unless_no fault (then_do (ask_fits fault row.fits) (ask_field fault row.field)) b) (Err fault) t t) (sym e) (as_ended (Err fault) t)

  pub as_row : (fault : TypeError) (row : Row) (r : Result Bool TypeError) (s t : Told) → row.holds ≡ true → AsRun Is (then_do (ask_fits fault row.fits) (ask_field fault row.field)) r s t → AsRun Is (ask_row fault row) r s t
  as_row fault row r s t e h = subst (λ (b : Bool). AsRun Is (unless_no fault (then_do (ask_fits fault row.fits) (ask_field fault row.field)) b) r s t) (sym e) h

  pub as_body : (space : Namespace) (body : Term) (tpe : IrType) (r : Result Bool TypeError) (s t : Told) → AsRun Is (then_do (check_of space [] 0 body) (ask_result body tpe)) r s t → AsRun Is (body_task space body tpe) r s t
  unfolding body_task
  as_body space body tpe r s t h = h

-- in the same world
pub at_stand : (s s' : Stand) (m : Checking) (r : Result Bool TypeError) (t u : Told) → s' ≡ s → AsRun (IsAnswer s') m r t u → AsRun (IsAnswer s) m r t u
at_stand s s' m r t u e h = subst (λ (x : Stand). AsRun (IsAnswer x) m r t u) e h

pub at_check : (s s' : Stand) (m m' : Checking) (r : Result Bool TypeError) (t u : Told) → s' ≡ s → m' ≡ m → AsRun (IsAnswer s') m' r t u → AsRun (IsAnswer s) m r t u
at_check s s' m m' r t u e q h = subst (λ (x : Checking). AsRun (IsAnswer s) x r t u) q (at_stand s s' m' r t u e h)

pub wanted-is : (body : Term) (t : IrType) → (t ≡ type.NoType → ⊥) → ask_result body t ≡ ask_wanted body t
wanted-is body type.NoType not = absurd (not refl)
wanted-is body t not = refl
