-- What a public module shows is wrong at no bound, where its members keep the rules.
use Rattle.std.proofs.Common.{◌≡◌, ℕ, Bool, true, false, List, [], ◌∷◌, Some, None, Option, slice_get, refl, sym, subst, Contains}
use Rattle.agree_early_errors.proofs.InWorld.{in_world}
use Rattle.agree_early_errors.proofs.Lists.{at_front, further_on}
use Rattle.agree_early_errors.proofs.RulesGive.{no_division}
use Rattle.agree_soundness.proofs.Right.{Comes, comes_then, CameRight, gave, left, threw, ObjectTyped, typed_object, ArrayTyped, typed_array, HoldsType, holds_type, zero_type, null_type, HeapTyped, call_right, bodies_right, none_left, nothing_there, no_label, no_object, Ready}
use Rattle.agree_soundness.proofs.Values.{Classes, HasType, has_type, of_undefined, of_null, of_boolean, of_char, of_long, of_byte, of_short, of_int, of_text, of_object, of_array, of_any_array}
use Rattle.agree_soundness.specs.Laws.{NeedsClasses, by_cast, by_item, by_call, ObjectLaws}
use Rattle.agree_soundness.specs.Rules.{RightMember}
use Rattle.agree_early_errors.specs.Typing.{Scene}
use Rattle.agree_early_errors.specs.Built.{Usable, members_alone}
use Rattle.dispatch_laws.specs.Meaning as ir_meaning
use Rattle.dispatch_laws.specs.Shows as ir_showing
use Rattle.dispatch_laws.specs.States as ir
use Rattle.dispatch_laws.specs.World.{World, opening, zero_of}
use Rattle.outcomes.specs.Agreement.{IsNotWrong}
use Rattle.outcomes.specs.Outcome.{End, Done, Going, Wrong}
use Rattle.sj_names.proofs.Same.{impossible}
use Rattle.sj_names.specs.declared.entry_points.EntryPoint.{EntryPoint}
use Rattle.sj_names.specs.declared.method_names.Member.{Member}
use Rattle.sj_names.specs.declared.method_names.Namespace.TheVariants.{PublicStatic}
use Rattle.agree_early_errors.specs.Emitted.{initializer_member}
use Rattle.sj_names.specs.declared.references.ArrayRef.{ArrayRef}
use Rattle.sj_trees.specs.declared.types.IrType.{IrType}
use Rattle.sj_trees.specs.declared.types.IrType.TheVariants.{Any, Class, Array, NoType}
use Rattle.dispatch_laws.specs.SjWorldLaws.{IsPlain}
use Rattle.dispatch_laws.specs.Subtypes.{IsSub}

-- not wrong, whatever it comes to
abbrev Fine : {A : Type 0} → End A → Type 0
Fine e = Comes (λ a. Unit {0}) e

fine-not_wrong : {A : Type 0} (e : End A) → Fine e → IsNotWrong e
fine-not_wrong (Done a) h = tt
fine-not_wrong Going h = tt
fine-not_wrong Wrong h = h

-- outside any method
abbrev nowhere : Scene
nowhere = record { owner = []; space = PublicStatic; sure = λ x. false; locals = []; labels = [] }

abbrev no_classes : Classes
no_classes i = None

no_class : (t : IrType) → ◌≡◌ {A = Option IrType} None (Some t) → ⊥
no_class t e = cc

module _ (w typing : World) (plain : IsPlain typing) (has : Usable) (laws : ObjectLaws w typing has) (members : (m : Member) → has.linked m ≡ true → RightMember w typing has m) where
  abbrev Typed : Classes → ir.State → Type 0
  Typed = HeapTyped w typing (in_world typing plain) has

  -- a value that is thrown and nothing catches is shown
  array_fine : (at : Classes) (r : ArrayRef) (o : Option ir.Stored) → ArrayTyped w typing (in_world typing plain) has at r o → Fine (ir_showing.uncaught_or_wrong (ir_showing.thrown_stored o)).end
  array_fine at r _ (typed_array items h) = tt

  stored_fine : (at : Classes) (c : List ℕ) (o : Option ir.Stored) → ObjectTyped w typing (in_world typing plain) has at c o → Fine (ir_showing.uncaught_or_wrong (ir_showing.thrown_stored o)).end
  stored_fine at c _ (typed_object fields h) = tt

  uncaught_fine : (at : Classes) (v : ir.Value) (st : ir.State) → HasType (IsSub typing) (in_world typing plain) at v Any → Typed at st → Fine (ir_showing.uncaught_or_wrong (ir_showing.thrown st v)).end
  uncaught_fine at _ st (has_type _ of_undefined f) h = tt
  uncaught_fine at _ st (has_type _ of_null f) h = tt
  uncaught_fine at _ st (has_type _ (of_boolean b) f) h = tt
  uncaught_fine at _ st (has_type _ (of_char u) f) h = tt
  uncaught_fine at _ st (has_type _ (of_long z) f) h = tt
  uncaught_fine at _ st (has_type _ (of_byte z) f) h = tt
  uncaught_fine at _ st (has_type _ (of_short z) f) h = tt
  uncaught_fine at _ st (has_type _ (of_int z) f) h = tt
  uncaught_fine at _ st (has_type _ (of_text us) f) h = tt
  uncaught_fine at _ st (has_type _ (of_object i c e n) f) h = stored_fine at c (slice_get st.heap i) (h.stored i (Class c) e)
  uncaught_fine at _ st (has_type _ (of_array i r e) f) h = array_fine at r (slice_get st.heap i) (h.stored i (Array r) e)
  uncaught_fine at _ st (has_type _ (of_any_array i r e) f) h = array_fine at r (slice_get st.heap i) (h.stored i (Array r) e)

  ready : (at : Classes) (st : ir.State) → Typed at st → Ready w typing (in_world typing plain) has at (record { owner = []; space = PublicStatic; sure = λ x. false }) [] ir_showing.outside st
  ready at st typed = record { locals = record { holds = nothing_there w typing (in_world typing plain) has at; full = λ x d e k. absurd (cc); this = λ r. absurd r; sure = refl }; heap = typed }

  one_comes : (n : ℕ) (e : EntryPoint) → has.linked (initializer_member e) ≡ true → (at : Classes) (st : ir.State) → Typed at st → Comes (CameRight w typing (in_world typing plain) has at nowhere [] NoType) (ir_meaning.meaning w n (ir_showing.initializer_call e) ir_showing.outside st).end
  one_comes n e l at st typed = call_right w typing (in_world typing plain) has laws (ir_meaning.below w n) (bodies_right w typing (in_world typing plain) has laws members n) (initializer_member e) (members (initializer_member e) l) nowhere NoType refl at [] none_left None (λ r. absurd (no_object PublicStatic tt r)) ir_showing.outside st (ready at st typed)

  all_fine : (n : ℕ) (es : List EntryPoint) → ((e : EntryPoint) → Contains es e → has.linked (initializer_member e) ≡ true) → (at : Classes) (st : ir.State) → Typed at st → Fine (ir_showing.all_show w n es st).end
  all_fine n [] l at st typed = tt
  all_fine n (e ∷ es) l at st typed = comes_then (CameRight w typing (in_world typing plain) has at nowhere [] NoType) (λ a. Unit {0}) (ir_meaning.meaning w n (ir_showing.initializer_call e) ir_showing.outside st) (ir_showing.next_or_end (ir_showing.all_show w n es)) (one_comes n e (l e (at_front e es)) at st typed) (next at (all_fine n es (λ x i. l x (further_on e es x i))))
    where
      next : (at : Classes) → ((at : Classes) (st : ir.State) → Typed at st → Fine (ir_showing.all_show w n es st).end) → (a : ir.Ended) → CameRight w typing (in_world typing plain) has at nowhere [] NoType a → Fine (ir_showing.next_or_end (ir_showing.all_show w n es) a).end
      next at others _ (gave k v env st a g i) = others k st i.heap
      next at others _ (left k l v env st r a i g j) = no_label w typing (in_world typing plain) has l r i
      next at others _ (threw k v env st a i j) = uncaught_fine k v st i j.heap

  pub never_wrong : (entries : List EntryPoint) (id : List ℕ) → ((e : EntryPoint) → Contains (ir_showing.initializers entries id) e → has.linked (initializer_member e) ≡ true) → (n : ℕ) → IsNotWrong (ir_showing.ir_shows w entries id n).end
  never_wrong entries id l n = fine-not_wrong (ir_showing.ir_shows w entries id n).end (all_fine n (ir_showing.initializers entries id) l no_classes (opening w) (record { stored = λ i t e. absurd (no_class t e); made = λ i t e. absurd (no_class t e); statics = λ c f t h. let its = laws.statics c f t h in subst (λ o. HoldsType w typing (in_world typing plain) has no_classes o t) (sym its.1) (holds_type (zero_of t) t (zero_type w typing (in_world typing plain) has no_classes t its.0)); cells = λ c h. null_type w typing (in_world typing plain) has no_classes c }))

-- where nothing but static members is used, nothing is asked of the world
nothing_needed : (w typing : World) (linked : Member → Bool) → NeedsClasses (members_alone linked) → typing ≡ w
nothing_needed w typing linked (by_cast t h) = impossible h
nothing_needed w typing linked (by_item t h) = impossible h
nothing_needed w typing linked (by_call m h) = impossible h

pub nothing_asked : (w typing : World) (linked : Member → Bool) → ObjectLaws w typing (members_alone linked)
nothing_asked w typing linked = record {
  typed = nothing_needed w typing linked;
  received = λ m h. impossible h;
  targets = λ m h. impossible h;
  looked = λ c m h d b. impossible h;
  on_arrays = λ m h made. impossible h;
  reflected = λ p h d b. impossible h;
  built = λ m h. impossible h;
  made = λ c h. impossible h;
  fields = λ c f t h. impossible h;
  one_type = λ c f s t h k. impossible h;
  holders = λ c f t h d m s. impossible h;
  strangers = λ c f t h o n i s. impossible h;
  statics = λ c f t h. impossible h;
  one_static = λ c f s t h k. impossible h;
  modules = λ c h. impossible h;
  exceptions = λ h. impossible h;
  divisions = λ o h. no_division (members_alone linked) (λ x. refl) o h;
  casts = λ t h. impossible h;
  tops = λ c f t h s. impossible h;
  arrays = λ h. impossible h;
  sizes = λ h. impossible h;
  reads = λ h. impossible h;
  writes = λ t h. impossible h;
  stores = λ h. impossible h;
}
