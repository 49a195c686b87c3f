-- What helpers throw can be made, where helpers are written.
use Rattle.std.proofs.Common.{◌≡◌, Bool, true, false, List, [], ◌∷◌, codes, refl, sym, subst, ◌∙◌, Contains}
use Rattle.std.specs.List.{list_any}
use Rattle.std.proofs.lemmas.Bool.{and_parts, and_from}
use Rattle.std.proofs.lemmas.List.Folds.{Any-from_list_any}
use Rattle.linked_entries.proofs.Members.{has_function-from}
use Rattle.linked_entries.proofs.Lists.{at_front, further_on}
use Rattle.linked_entries.specs.AgreeSoundnessLaws.{null_pointer, arithmetic, class_cast, out_of_bounds, array_store, negative_size, CanRaise}
use Rattle.linked_entries.specs.Built.{Usable, divides, can_put, has_kind}
use Rattle.sj_emit_help_spec.specs.Helpers.{helper_name, used_helpers, failure_class}
use Rattle.sj_emit_help_spec.specs.declared.kinds.Failure.{Failure}
use Rattle.sj_emit_help_spec.specs.declared.kinds.Failure.TheVariants.{NullReceiver, Division, Cast, Index, Store, Size}
use Rattle.sj_emit_help_spec.specs.declared.kinds.Helper.{Helper}
use Rattle.sj_emit_help_spec.specs.declared.kinds.Helper.TheVariants.{TestOf, CastTo, ConstantsOf, NotNull, IntQuotient, IntRemainder, LongQuotient, LongRemainder, ArrayClass, MakeArray, CheckIndex, Get, Set, Put, Fits, TestOfArray, CastToArray, Throws}
use Rattle.ir_mean.specs.Meaning.{with_message, without_parameters}
use Rattle.linked_entries.specs.EmittedMethods.{EmittedMethod, HasFunction}
use Rattle.linked_entries.specs.SjReachSpecRules.{plain_constructor}
use Rattle.linked_entries.proofs.Facts.{made_told}
use Rattle.linked_entries.specs.Used.{used_of, is_among, makes, uses_helper, is_cast as is_cast_to}
use Rattle.object_folders.specs.Running.{CanRun, CanBeThrown}
use Rattle.sj_desugar_spec.specs.Desugar.{member}
use Rattle.sj_emit_expr_spec.specs.Templates.{check_name}
use Rattle.sj_emit_expr_spec.specs.Tests.{cast_name}
use Rattle.sj_names.proofs.Same.{impossible, text-same}
use Rattle.sj_names.specs.Same.{is_same_text}
use Rattle.sj_names.specs.WellKnown.{object}
use Rattle.sj_names.specs.declared.entry_points.EntryPoint.{EntryPoint}
use Rattle.sj_names.specs.declared.method_names.Namespace.TheVariants.{Constructor}
use Rattle.linked_entries.specs.Linked.{has_function}
use Rattle.sj_trees.specs.declared.operators.BinaryOp.{BinaryOp}
use Rattle.sj_trees.specs.declared.operators.BinaryOp.TheVariants.{IntDivide, IntRemainder as IntRest, LongDivide, LongRemainder as LongRest}
use Rattle.sj_trees.specs.declared.types.IrType.{IrType}
use Rattle.sj_trees.specs.declared.types.IrType.TheVariants.{Undefined, Boolean, Char, Byte, Short, Int, Long, String, Null, Array, Class as IrClass}
use Rattle.sj_world.proofs.OnCycles.{among}
use Rattle.sj_world.specs.Known.{Name, Classes}
use Rattle.sj_world.specs.declared.facts.Fact.{Fact}
use Rattle.sj_world.specs.declared.facts.Fact.TheVariants.{Made}

-- the null check, by its name
abbrev is_check : Name → Bool
is_check = is_same_text check_name

-- and the divisions
abbrev is_division : Name → Bool
is_division x = list_any (is_same_text x) (codes "$id" ∷ codes "$im" ∷ codes "$ld" ∷ codes "$lm" ∷ [])

-- and the casts to primitive types and to arrays
abbrev is_cast : Name → Bool
is_cast x = list_any (is_same_text x) (codes "$asV" ∷ codes "$asZ" ∷ codes "$asC" ∷ codes "$asB" ∷ codes "$asS" ∷ codes "$asI" ∷ codes "$asJ" ∷ codes "$asT" ∷ codes "$asA" ∷ [])

no_check : (f : Failure) → is_check (helper_name (Throws f)) ≡ false
no_check NullReceiver = refl
no_check _ = refl

no_division : (f : Failure) → is_division (helper_name (Throws f)) ≡ false
no_division NullReceiver = refl
no_division _ = refl

no_cast : (f : Failure) → is_cast (helper_name (Throws f)) ≡ false
no_cast NullReceiver = refl
no_cast _ = refl

-- the helper of this name uses the one that throws
checks : (h : Helper) → is_check (helper_name h) ≡ true → Contains (used_helpers h) (Throws NullReceiver)
checks NotNull e = at_front (Throws NullReceiver) []
checks (TestOf k) e = impossible e
checks (CastTo k) e = impossible e
checks (ConstantsOf k) e = impossible e
checks (Throws f) e = impossible (sym (no_check f) ∙ e)
checks _ e = impossible e

divisions : (h : Helper) → is_division (helper_name h) ≡ true → Contains (used_helpers h) (Throws Division)
divisions IntQuotient e = at_front (Throws Division) []
divisions IntRemainder e = at_front (Throws Division) []
divisions LongQuotient e = at_front (Throws Division) []
divisions LongRemainder e = at_front (Throws Division) []
divisions (TestOf k) e = impossible e
divisions (CastTo k) e = impossible e
divisions (ConstantsOf k) e = impossible e
divisions (Throws f) e = impossible (sym (no_division f) ∙ e)
divisions _ e = impossible e

casts : (h : Helper) → is_cast (helper_name h) ≡ true → Contains (used_helpers h) (Throws Cast)
casts (CastTo k) e = further_on (TestOf k) (Throws Cast ∷ []) (Throws Cast) (at_front (Throws Cast) [])
casts CastToArray e = further_on TestOfArray (Throws Cast ∷ []) (Throws Cast) (at_front (Throws Cast) [])
casts (TestOf k) e = impossible e
casts (ConstantsOf k) e = impossible e
casts (Throws f) e = impossible (sym (no_cast f) ∙ e)
casts _ e = impossible e

-- the helper that makes arrays of lengths, those that read and set items, and the one that sets items that aren't primitive
abbrev is_sized : Name → Bool
is_sized = is_same_text (codes "$mk")

abbrev is_indexed : Name → Bool
is_indexed x = list_any (is_same_text x) (codes "$get" ∷ codes "$set" ∷ codes "$put" ∷ [])

abbrev is_put : Name → Bool
is_put = is_same_text (codes "$put")

not_sized : (f : Failure) → is_sized (helper_name (Throws f)) ≡ false
not_sized NullReceiver = refl
not_sized _ = refl

not_indexed : (f : Failure) → is_indexed (helper_name (Throws f)) ≡ false
not_indexed NullReceiver = refl
not_indexed _ = refl

no_put : (f : Failure) → is_put (helper_name (Throws f)) ≡ false
no_put NullReceiver = refl
no_put _ = refl

asks_size : (h : Helper) → is_sized (helper_name h) ≡ true → Contains (used_helpers h) (Throws Size)
asks_size MakeArray e = at_front (Throws Size) (ArrayClass ∷ [])
asks_size (TestOf k) e = impossible e
asks_size (CastTo k) e = impossible e
asks_size (ConstantsOf k) e = impossible e
asks_size (Throws f) e = impossible (sym (not_sized f) ∙ e)
asks_size _ e = impossible e

asks_index : (h : Helper) → is_indexed (helper_name h) ≡ true → Contains (used_helpers h) CheckIndex
asks_index Get e = at_front CheckIndex []
asks_index Set e = at_front CheckIndex []
asks_index Put e = at_front CheckIndex (Fits ∷ Throws Store ∷ [])
asks_index (TestOf k) e = impossible e
asks_index (CastTo k) e = impossible e
asks_index (ConstantsOf k) e = impossible e
asks_index (Throws f) e = impossible (sym (not_indexed f) ∙ e)
asks_index _ e = impossible e

asks_store : (h : Helper) → is_put (helper_name h) ≡ true → Contains (used_helpers h) (Throws Store)
asks_store Put e = further_on CheckIndex (Fits ∷ Throws Store ∷ []) (Throws Store) (further_on Fits (Throws Store ∷ []) (Throws Store) (at_front (Throws Store) []))
asks_store (TestOf k) e = impossible e
asks_store (CastTo k) e = impossible e
asks_store (ConstantsOf k) e = impossible e
asks_store (Throws f) e = impossible (sym (no_put f) ∙ e)
asks_store _ e = impossible e

-- the name of the cast to a primitive type
is_cast_name : (t : IrType) → has_kind t ≡ true → is_cast (cast_name t) ≡ true
is_cast_name Undefined k = refl
is_cast_name Boolean k = refl
is_cast_name Char k = refl
is_cast_name Byte k = refl
is_cast_name Short k = refl
is_cast_name Int k = refl
is_cast_name Long k = refl
is_cast_name String k = refl
is_cast_name _ k = impossible k

-- an exception of a class that is made and written can be made
pub exception_made : (w : Classes) (facts : List Fact) (all : List EmittedMethod) (live : List Name) (helpers : List Helper) (written : List Name) (c : Name) → CanBeThrown facts all written c → ((used_of w facts all live helpers written).made c ≡ true) × ((used_of w facts all live helpers written).built (member c Constructor with_message) ≡ true)
exception_made w facts all live helpers written c h =
    let is_written : is_among written c ≡ true = (among written c).1 h.is_written in
    (and_from (is_among written c) (list_any (makes c) facts) is_written (made_told facts c h.is_made), and_from (is_among written c) (has_function all (member c Constructor with_message)) is_written (has_function-from all (member c Constructor with_message) h.constructor))

-- and so can the object of a class that is written and made, and whose constructor is among the methods
pub module_made : (w : Classes) (facts : List Fact) (all : List EmittedMethod) (live : List Name) (helpers : List Helper) (written : List Name) (c : Name) → Contains written c → Contains facts (Made c) × HasFunction all (plain_constructor c) → ((used_of w facts all live helpers written).made c ≡ true) × ((used_of w facts all live helpers written).built (member c Constructor without_parameters) ≡ true)
module_made w facts all live helpers written c here h =
    let is_written : is_among written c ≡ true = (among written c).1 here in
    (and_from (is_among written c) (list_any (makes c) facts) is_written (made_told facts c h.0), and_from (is_among written c) (has_function all (member c Constructor without_parameters)) is_written (has_function-from all (member c Constructor without_parameters) h.1))

module _ (w : Classes) (entries : List EntryPoint) (facts : List Fact) (all : List EmittedMethod) (live : List Name) (helpers : List Helper) (written : List Name) (run : CanRun w entries facts all live helpers written) where
  abbrev has : Usable
  has = used_of w facts all live helpers written

  -- an exception of this class can be made
  abbrev Makes : Name → Type 0
  Makes c = (has.made c ≡ true) × (has.built (member c Constructor with_message) ≡ true)

  can_make : (c : Name) → CanBeThrown facts all written c → Makes c
  can_make = exception_made w facts all live helpers written

  -- a helper of this name is there, and the helpers are written
  record Named (x : Name) : Type 0 where
    named : Helper
    there : Contains helpers named
    name_is : x ≡ helper_name named
    are_written : Contains written object

  found : (x : Name) → has.helper x ≡ true → Named x
  found x h =
      let p = and_parts (is_among written object) (list_any (λ h. is_same_text x (helper_name h)) helpers) h in
      let it = Any-from_list_any (λ h. is_same_text x (helper_name h)) helpers p.1 in
      record { named = it.1; there = (it.0, it.2, it.3); name_is = text-same x (helper_name it.1) it.4; are_written = (among written object).0 p.0 }

  throwing : (f : Failure) (x : Name) → ((h : Helper) → helper_name h ≡ x → Contains (used_helpers h) (Throws f)) → has.helper x ≡ true → Makes (failure_class f)
  throwing f x uses h = let it = found x h in can_make (failure_class f) (run.thrown f (run.closed it.named (Throws f) it.there (uses it.named (sym it.name_is))) it.are_written)

  pub exceptions : has.helper check_name ≡ true → Makes null_pointer
  exceptions h = throwing NullReceiver check_name (λ g e. checks g (subst (λ (y : Name). is_check y ≡ true) (sym e) refl)) h

  dividing : (x : Name) → is_division x ≡ true → has.helper x ≡ true → Makes arithmetic
  dividing x is h = throwing Division x (λ g e. divisions g (subst (λ (y : Name). is_division y ≡ true) (sym e) is)) h

  pub division : (o : BinaryOp) → divides has o ≡ true → Makes arithmetic
  division IntDivide h = dividing (codes "$id") refl h
  division IntRest h = dividing (codes "$im") refl h
  division LongDivide h = dividing (codes "$ld") refl h
  division LongRest h = dividing (codes "$lm") refl h
  division _ h = impossible h

  casting : (x : Name) → is_cast x ≡ true → has.helper x ≡ true → Makes class_cast
  casting x is h = throwing Cast x (λ g e. casts g (subst (λ (y : Name). is_cast y ≡ true) (sym e) is)) h

  pub cast_throws : (t : IrType) → has.casts t ≡ true → Makes class_cast
  cast_throws (IrClass c) h = let q = and_parts (is_among written c) (is_cast_to all c) h in let k = run.casts c ((among written c).0 q.0) q.1 in can_make class_cast (run.thrown Cast k.1 k.0)
  cast_throws (Array r) h = casting (codes "$asA") refl h
  cast_throws t h = let q = and_parts (has_kind t) (uses_helper helpers written (cast_name t)) h in casting (cast_name t) (is_cast_name t q.0) q.1

  -- a helper that asks for an index asks the one that throws where it is out of bounds
  indexing : (x : Name) → is_indexed x ≡ true → has.helper x ≡ true → CanRaise has out_of_bounds
  indexing x is h =
      let it = found x h in
      let check = run.closed it.named CheckIndex it.there (asks_index it.named (subst (λ (y : Name). is_indexed y ≡ true) it.name_is is)) in
      can_make out_of_bounds (run.thrown Index (run.closed CheckIndex (Throws Index) check (at_front (Throws Index) [])) it.are_written)

  pub sizes : has.helper (codes "$mk") ≡ true → CanRaise has negative_size
  sizes h = throwing Size (codes "$mk") (λ g e. asks_size g (subst (λ (y : Name). is_sized y ≡ true) (sym e) refl)) h

  pub reads : has.helper (codes "$get") ≡ true → CanRaise has out_of_bounds
  reads h = indexing (codes "$get") refl h

  pub writes : (t : IrType) → can_put has t ≡ true → CanRaise has out_of_bounds
  writes Undefined h = indexing (codes "$set") refl h
  writes Boolean h = indexing (codes "$set") refl h
  writes Char h = indexing (codes "$set") refl h
  writes Byte h = indexing (codes "$set") refl h
  writes Short h = indexing (codes "$set") refl h
  writes Int h = indexing (codes "$set") refl h
  writes Long h = indexing (codes "$set") refl h
  writes String h = indexing (codes "$set") refl h
  writes Null h = indexing (codes "$set") refl h
  writes _ h = indexing (codes "$put") refl h

  pub stores : has.helper (codes "$put") ≡ true → CanRaise has array_store
  stores h = throwing Store (codes "$put") (λ g e. asks_store g (subst (λ (y : Name). is_put y ≡ true) (sym e) refl)) h
