-- All levels, where code makes objects and uses them: trees and calls are alike at bounds that stand to each other as the direction says.
use Rattle.agree_calls.proofs.Looking.{TargetsAlike, EntryCalls, arrays_find, calls_on, calls_going, entries_alike, dispatches_alike, dispatches_going}
use Rattle.agree_calls.specs.Looked.{DispatchStands, FindsTarget, KindsRun, no_kinds, some_kinds, LooksUpThere}
use Rattle.std.specs.Prelude.{◌+◌, ◌*◌, ◌≤◌, ◌&&◌, not, codes}
use Rattle.std.proofs.Common.{◌≡◌, ℕ, zero, suc, Bool, true, false, List, [], ◌∷◌, Option, Some, length, refl, sym, ap, subst, arith, ◌⊎◌, inl, inr, if◌then◌else◌}
use Rattle.int_arithmetic.specs.Decimals.{decimal_text}
use Rattle.std.specs.Prelude.{ℤ, ◌<◌, is_some}
use Rattle.outcomes.specs.Agreement.{Direction, forward, backward, Enough, Sim}
use Rattle.outcomes.proofs.Simulation.{sim_over, sim_going}
use Rattle.agree_calls.proofs.Reflecting.{reflected_value, reflected_short, reflected_none_left}
use Rattle.agree_calls.specs.Reflected.{ReflectionStands}
use Rattle.sj_names.specs.MethodNames.{spelled_method}
use Rattle.dispatch_laws.specs.Meaning.{no_such_method}
use Rattle.array_code.specs.Codes.{GivesNone}
use Rattle.array_code.specs.FailureVariants.{NullReceiver, Division, Cast, Index, Method, Size, Store}
use Rattle.array_code.specs.Helpers.{kind_word}
use Rattle.array_code.specs.Helpers.{helper_name}
use Rattle.array_code.specs.Words.{object_class, units_of}
use Rattle.agree_bodies.specs.Helper.{Helper}
use Rattle.array_code.specs.HelperVariants.{Equal, Get, MakeArray, NotNull, Put, Set, Throws}
use Rattle.dispatch_laws.proofs.OwnTargets.{called_target}
use Rattle.dispatch_laws.specs.Targets.{IsTargetOf}
use Rattle.dispatch_laws.specs.Ancestors.{IsAncestor}
use Rattle.dispatch_laws.specs.Dispatch.{chain_of, is_ancestor}
use Rattle.dispatch_laws.specs.Tests.{array_text}
use Rattle.dispatch_laws.specs.Meaning as ir_meaning
use Rattle.dispatch_laws.specs.States as ir
use Rattle.dispatch_laws.specs.World.{member_of}
use Rattle.js_mean.specs.Classes.{method_in}
use Rattle.js_mean.specs.Meaning as js_meaning
use Rattle.js_mean.specs.Objects as js_objects
use Rattle.js_mean.specs.States as js
use Rattle.js_tree.specs.Terms as tree
use Rattle.js_tree.specs.Terms.{Name}
use Rattle.sj_mangling.specs.Bindings.{method_binding}
use Rattle.sj_mangling.specs.declared.bindings.MethodBinding.TheVariants.{Entry}
use Rattle.sj_names.specs.declared.references.ArrayRef.{ArrayRef}
use Rattle.agree_bodies.specs.Desugar.{into, is_mutable_in}
use Rattle.dispatch_laws.specs.Templates.{called_member, statement_templates}
use Rattle.sj_names.specs.declared.method_names.Member.{Member}
use Rattle.sj_names.specs.declared.method_names.MethodName.{MethodName}
use Rattle.agree_bodies.specs.Coercions.{is_char}
use Rattle.agree_bodies.proofs.Fitting.{fits-sub}
use Rattle.agree_bodies.proofs.Boxes.{class-no-char}
use Rattle.sure_receivers.specs.Sure.{sure_locals}
use Rattle.agree_bodies.specs.Settings.{Place, Code, a_function, a_method, a_constructor, a_setter, a_loader, a_storer, a_helper, division_helper, setting_helper, Setting, SameState, Valued, Built, NamesDiffer, Reaches, Based, Lawful, BuildsAlike, ReceivesAlike, SetsAlike, StoresAlike, LoadsAlike, ChecksAlike, DividesAlike, HasFunction, TestsAlike, CastsAlike, ComparesAlike, IsReceiver, a_test, a_cast, top_call, DispatchesAlike, EntriesAlike, LooksUp, ReflectsAlike, MadeSomewhere, IsConstantsOf, array_links, links_of, depth_of, zero_shown, ArraysFind, GetsAlike, GivesArraysAlike, MakesArraysAlike, PutsAlike, TestsArraysAlike, CastsArraysAlike}
use Rattle.agree_bodies.specs.Typing.{HasDimensions}
use Rattle.agree_bodies.specs.Standing.{Fits, is_array_type, types_referred, call_type}
use Rattle.agree_bodies.proofs.Statics.{set_static, load_cell, store_cell}
use Rattle.agree_bodies.specs.Built.{divides}
use Rattle.dispatch_laws.specs.Operators.{binary_value}
use Rattle.agree_bodies.specs.Desugar.{member}
use Rattle.sj_names.specs.declared.method_names.Namespace.TheVariants.{Constructor}
use Rattle.sj_trees.specs.TypeOf.{binary_result}
use Rattle.sj_trees.specs.Types.{class_type, element_type}
use Rattle.sj_names.proofs.Same.{impossible}
use Rattle.sj_trees.specs.declared.operators.BinaryOp.{BinaryOp}
use Rattle.sj_trees.specs.declared.operators.BinaryOp.TheVariants.{StrictEqual}
use Rattle.sj_trees.specs.declared.types.IrType.{IrType}
use Rattle.sj_trees.specs.declared.types.IrType.TheVariants.{Any, Boolean, Int, Array, NoType, Class}
use Rattle.agree_bodies.proofs.Worlds.{World, SameValue, SameValues, value-fits}
use Rattle.agree_bodies.proofs.Contexts.{Came}
use Rattle.agree_bodies.proofs.InWorld.{in_world}
use Rattle.agree_bodies.proofs.Main.{does}
use Rattle.agree_bodies.proofs.Trees.{LowAlike}
use Rattle.agree_bodies.specs.Subtyping.{IsSubtyping}
use Rattle.dispatch_laws.specs.Known.{is_hijacked}
use Rattle.dispatch_laws.specs.SjWorldLaws.{IsPlain}
use Rattle.dispatch_laws.specs.Subtypes.{IsSub}
use Rattle.agree_calls.specs.Arrays.{CanGiveArrays, CanMakeArrays, ChecksIndex, CanPut, CanTestArrays, CanCastArrays}
use Rattle.agree_calls.specs.Helpers.{Failed, CanTest, ClassTest, CanCompare}
use Rattle.agree_calls.specs.Methods.{Linked, CallsAgree, ir_call, js_call}
use Rattle.agree_calls.specs.Objects.{RunsOn, Constructs}
use Rattle.agree_calls.specs.Worlds.{IsMade, CanCheck, CanDivide, Tested, of_kind, of_class, of_array, CanCast, CanCastClass, Casted, to_kind, to_class, to_array, ArrayEntries, HasObjects}
use Rattle.agree_calls.proofs.ArrayUses.{checks_there, maker_arrays_there, maker_throws_there}
use Rattle.agree_calls.proofs.Failing.{index_exception, size_exception, store_exception, index_fails_as, size_fails_as, none_thrown}
use Rattle.agree_calls.proofs.Giving.{gives_alike}
use Rattle.agree_calls.proofs.Lengths.{makes_alike}
use Rattle.agree_calls.proofs.Putting.{puts_alike}
use Rattle.agree_calls.proofs.Reading.{gets_alike}
use Rattle.agree_calls.proofs.SameElements.{one_setter}
use Rattle.agree_calls.proofs.Setting.{sets_alike as items_set_alike}
use Rattle.agree_calls.proofs.ShortHelpers.{none_alike, gets_short, sets_short, puts_short, tests_within, casts_within, casts_short}
use Rattle.agree_calls.proofs.Boxing.{boxes_alike}
use Rattle.agree_calls.proofs.Calls.{call_alike}
use Rattle.agree_calls.proofs.Dividing.{divides_alike}
use Rattle.agree_calls.proofs.Casting.{cast_exception, cast_fails_as, told_fails_as, casts_alike, short_cast}
use Rattle.agree_calls.proofs.ClassCasting.{class_casts_alike}
use Rattle.agree_calls.proofs.ClassTesting.{class_tests_alike}
use Rattle.agree_calls.proofs.Helps.{FailsAs, FailsOn, fails_itself, fails_alike, checks_alike, in_helper}
use Rattle.agree_calls.proofs.News.{made_alike}
use Rattle.agree_calls.proofs.Receivers.{receive_alike, build_alike}
use Rattle.agree_calls.proofs.Sameness.{compares_alike}
use Rattle.agree_calls.proofs.Setters.{sets_alike}
use Rattle.agree_calls.proofs.Modules.{stores_alike, loading, loads_alike}
use Rattle.agree_calls.proofs.Testing.{primitive, tests_alike}

module _ (p : Place) (plain : IsPlain p.classes) (ordered : IsSubtyping (IsSub p.typing)) (names : NamesDiffer p) (has : HasObjects p) where
  -- a body in a file of the place, with what the levels of these bounds give
  abbrev within : Code → Direction → (List ℕ → Bool) → ℕ → ℕ → Setting
  within f d is_mutable n k = record { place = p; code = f; direction = d; is_mutable = is_mutable; low = ir_meaning.below p.classes n; js_low = js_meaning.below p.program k }

  abbrev Level : Direction → ℕ → ℕ → Type 1
  Level d n k = (f : Code) → Reaches p f.file → (is_mutable : List ℕ → Bool) → LowAlike (within f d is_mutable n k)

  -- one bound of the IR, and each bound of the emitted code that is enough for it
  abbrev Levels : Direction → ℕ → Type 1
  Levels d n = (k : ℕ) → Enough p.room 0 d n k → Level d n k

  fewer : (d : Direction) (more n k : ℕ) → Enough p.room more d n k → Enough p.room 0 d n k
  fewer forward more n k h = omega arith
  fewer backward more n k h = h

  -- two units less, where there are those around a call
  two_fewer : (d : Direction) (n k : ℕ) → Enough p.room p.room.each d n (suc (suc k)) → Enough p.room 0 d n k
  two_fewer forward n k h = let e = has.each in omega (arith, e, h)
  two_fewer backward n k h = omega (arith, h)

  one_fewer : (d : Direction) (n k : ℕ) → Enough p.room p.room.each d n (suc k) → Enough p.room 0 d n k
  one_fewer forward n k h = let e = has.each in omega (arith, e, h)
  one_fewer backward n k h = omega (arith, h)

  times-suc : (a n : ℕ) → a * suc n ≡ a + a * n
  times-suc a n = grind arith

  spent : (d : Direction) (n k : ℕ) → Enough p.room 0 d (suc n) (suc k) → Enough p.room p.room.each d n k
  spent forward n k h = let e = times-suc p.room.each n in omega arith
  spent backward n k h = omega arith

  member_alike : (d : Direction) (n k : ℕ) → Level d n k → (m : Member) → Linked p m → (w : World) (vs : List ir.Value) (xs : List js.Value) (env : ir.Env) (s : ir.State) (u : js.State) → SameValues w (types_referred m.method.params) vs xs → SameState p w s u → Sim d (Valued p w env (call_type m.method.result)) (ir_call p m vs env s n) (js_call p m xs u k)
  member_alike d n k level m l = call_alike p names d (ir_meaning.below p.classes n) (js_meaning.below p.program k) m l (level (record { file = p.home (a_function m); owner = m.class; sure = sure_locals l.its_body }) l.reaches (is_mutable_in l.definition l.its_body))

  -- what a member may run on, its target may
  taken_by : (w : World) (m o : Member) (v : ir.Value) (x : js.Value) → IsTargetOf p.classes m o → IsReceiver w m.class v x → IsReceiver w o.class v x
  taken_by w m o v x its this = record { stands = value-fits w (class_type o.class) (class_type m.class) v x (fits-sub p.classes (in_world p.classes plain) (class_type o.class) (class_type m.class) its.above (ap (λ b. b && not (is_char (class_type o.class))) (class-no-char m.class))) this.stands; there = this.there }

  target_alike : (d : Direction) (n k : ℕ) → Level d n k → TargetsAlike p d (ir_meaning.below p.classes n) (js_meaning.below p.program k)
  target_alike d n k level m o its l w v x vs xs env s u this values same = subst (λ (g : MethodName). Sim d (Valued p w env (call_type g.result)) (ir_meaning.call (ir_meaning.below p.classes n) (ir_meaning.static_target p.classes m.class m.namespace m.method) (Some v) vs env s) (top_call p (js_meaning.below p.program k) (a_method o) (x ∷ xs) u)) its.method (receive_alike p names d (ir_meaning.below p.classes n) k o l (ir_meaning.static_target p.classes m.class m.namespace m.method) (its.runs l.definition l.its_body l.has_body l.found) (level (record { file = p.home (a_method o); owner = o.class; sure = sure_locals l.its_body }) l.reaches (is_mutable_in l.definition l.its_body)) w v x vs xs env s u (taken_by w m o v x its this) (subst (λ (g : MethodName). SameValues w (types_referred g.params) vs xs) (sym its.method) values) same)

  method_alike : (f : Code) (is_mutable : List ℕ → Bool) (d : Direction) (n k : ℕ) → Level d n k → (m : Member) → IsTargetOf p.classes m (called_member (p.has f.file).lookup m.namespace m) → RunsOn p (called_member (p.has f.file).lookup m.namespace m) → ReceivesAlike (within f d is_mutable n k) m
  method_alike f is_mutable d n k level m its l = target_alike d n k level m (called_member (p.has f.file).lookup m.namespace m) its l

  -- the class of arrays has no method of its own
  array_entries : ArrayEntries p
  array_entries a m = ap (λ (o : Option (List tree.Member)). if is_some (method_in o (method_binding Entry m)) then Some (js.method (array_links p) (method_binding Entry m)) else js_objects.method_on p.program (links_of p object_class) (method_binding Entry m)) (has.gives a.file a.maker a.made a.can).members_are

  entry_calls : (f : Code) (is_mutable : List ℕ → Bool) (c : List ℕ) (m : MethodName) (d : Direction) (n k : ℕ) → Levels d n → Enough p.room p.room.each d n k → EntryCalls (within f d is_mutable n k) array_entries c m
  entry_calls f is_mutable c m d n (suc k) levels h = calls_on (within f d is_mutable n (suc k)) array_entries c m k refl (target_alike d n k (levels k (one_fewer d n k h)))
  entry_calls f is_mutable c m forward n zero levels h = let e = has.beyond in absurd (omega (arith, e, h))
  entry_calls f is_mutable c m backward n zero levels h = calls_going (within f backward is_mutable n zero) array_entries c m refl refl

  -- a method that is looked up takes a unit where an object is asked, and two where a function tells receivers apart
  entries_at : (f : Code) (is_mutable : List ℕ → Bool) (c : List ℕ) (m : MethodName) → ((e : List ℕ) → MadeSomewhere p e → is_ancestor p.classes e c ≡ true → FindsTarget p e m) → ((h : List ℕ) → is_hijacked h ≡ true → is_ancestor p.classes h c ≡ false) → (d : Direction) (n k : ℕ) → Levels d n → Enough p.room p.room.each d n k → EntriesAlike (within f d is_mutable n k) c m
  entries_at f is_mutable c m objects none d n k levels h = entries_alike (within f d is_mutable n k) array_entries c m (entry_calls f is_mutable c m d n k levels h) objects none

  -- and so does one that is called on an array
  arrays_at : (f : Code) (is_mutable : List ℕ → Bool) (m : MethodName) → (MadeSomewhere p object_class → FindsTarget p object_class m) → (d : Direction) (n k : ℕ) → Levels d n → Enough p.room p.room.each d n k → ArraysFind (within f d is_mutable n k) m
  arrays_at f is_mutable m finds d n k levels h = λ w i a q there is s u same. let somewhere = (same.heaps.arrays i q is).made in arrays_find (within f d is_mutable n k) array_entries object_class m (entry_calls f is_mutable object_class m d n k levels h) (finds (has.gives somewhere.file somewhere.maker somewhere.made somewhere.can).made) w i a q there is s u same

  dispatches_at : (f : Code) (is_mutable : List ℕ → Bool) (c : List ℕ) (m : MethodName) → ((e : List ℕ) → MadeSomewhere p e → is_ancestor p.classes e c ≡ true → FindsTarget p e m) → DispatchStands p c m → (d : Direction) (n k : ℕ) → Levels d n → Enough p.room p.room.each d n k → DispatchesAlike (within f d is_mutable n k) c m
  dispatches_at f is_mutable c m objects st d n (suc (suc k)) levels h = dispatches_alike (within f d is_mutable n (suc (suc k))) array_entries c m k refl (target_alike d n (suc k) (levels (suc k) (one_fewer d n (suc k) h))) (target_alike d n k (levels k (two_fewer d n k h))) objects st
  dispatches_at f is_mutable c m objects st forward n (suc zero) levels h = let e = has.each in absurd (omega (arith, e, h))
  dispatches_at f is_mutable c m objects st forward n zero levels h = let e = has.beyond in absurd (omega (arith, e, h))
  dispatches_at f is_mutable c m objects st backward n (suc zero) levels h = dispatches_going (within f backward is_mutable n 1) array_entries c m st refl (inr refl)
  dispatches_at f is_mutable c m objects st backward n zero levels h = dispatches_going (within f backward is_mutable n 0) array_entries c m st refl (inl refl)

  -- a call by a reflective name takes three units: for the function, the entry of the name and that of the method
  three_fewer : (d : Direction) (n k : ℕ) → Enough p.room p.room.each d n (suc (suc (suc k))) → Enough p.room 0 d n k
  three_fewer forward n k h = let e = has.each in omega (arith, e, h)
  three_fewer backward n k h = omega (arith, h)

  reflected_room : (d : Direction) (n k : ℕ) → Enough p.room p.room.each d n (suc (suc k)) → d ≡ forward → 1 ≤ k
  reflected_room forward n k h e = let a = has.each in let b = has.beyond in omega (arith, a, b, h)
  reflected_room backward n k h e = absurd (cc)

  not_forward : backward ≡ forward → ⊥
  not_forward e = cc

  constructor_alike : (f : Code) (is_mutable : List ℕ → Bool) (d : Direction) (n k : ℕ) → Enough p.room 0 d n k → Level d n k → (m : Member) → Constructs p m → BuildsAlike (within f d is_mutable n k) m
  constructor_alike f is_mutable d n (suc k) h level m l = build_alike p names d (ir_meaning.below p.classes n) k m l (level (record { file = p.home (a_constructor m); owner = m.class; sure = sure_locals l.its_body }) l.reaches (is_mutable_in l.definition l.its_body))
  constructor_alike f is_mutable forward n zero h level m l = let e = has.beyond in absurd (omega (arith, e, h))
  constructor_alike f is_mutable backward n zero h level m l = λ w v x vs xs env s u this values same. subst (λ o. Sim backward (Built p w env x) (ir_meaning.call (ir_meaning.below p.classes n) (member_of p.classes m.class m.namespace m.method) (Some v) vs env s) o) (sym (ap (λ o. js_meaning.code_call (js_meaning.below p.program 0) (p.home (a_constructor m)) o (x ∷ xs) u) l.emitted)) (sim_going (Built p w env x) (ir_meaning.call (ir_meaning.below p.classes n) (member_of p.classes m.class m.namespace m.method) (Some v) vs env s))

  enough_for : (d : Direction) (n k : ℕ) (c : List ℕ) → IsMade p c → Enough p.room 0 d n k → d ≡ forward → length (chain_of p.classes c) ≤ k
  enough_for forward n k c made h e = let l = made.depth in omega (arith, l, h)
  enough_for backward n k c made h e = absurd (cc)

  set_alike : (f : Code) (is_mutable : List ℕ → Bool) (d : Direction) (n k : ℕ) → Enough p.room 0 d n k → (c g : List ℕ) (t : IrType) → (p.has f.file).static_setter c g t ≡ true → SetsAlike (within f d is_mutable n k) c g t
  set_alike f is_mutable d n (suc k) h c g t l = let can = set_static (p.has f.file) c g t l in sets_alike d p has.statics c g t (has.statics f.file c g t can) f.file can k
  set_alike f is_mutable forward n zero h c g t l = let e = has.beyond in absurd (omega (arith, e, h))
  set_alike f is_mutable backward n zero h c g t l = λ w v x env s u a same. subst (λ o. Sim backward (Valued p w env NoType) (ir_meaning.assign_static c g (v ∷ []) env s) o) (sym (ap (λ o. js_meaning.code_call (js_meaning.below p.program 0) (p.home (a_setter c g t)) o (x ∷ []) u) (has.statics f.file c g t (set_static (p.has f.file) c g t l)).sets)) (sim_going (Valued p w env NoType) (ir_meaning.assign_static c g (v ∷ []) env s))

  store_alike : (f : Code) (is_mutable : List ℕ → Bool) (d : Direction) (n k : ℕ) → Enough p.room 0 d n k → (c : List ℕ) → (p.has f.file).stored c ≡ true → StoresAlike (within f d is_mutable n k) c
  store_alike f is_mutable d n (suc k) h c l = let can = store_cell (p.has f.file) c l in stores_alike d p has.cells c (has.cells f.file c can) f.file can (has.stores f.file c l) k
  store_alike f is_mutable forward n zero h c l = let e = has.beyond in absurd (omega (arith, e, h))
  store_alike f is_mutable backward n zero h c l = λ w v x env s u a same. subst (λ o. Sim backward (Valued p w env NoType) (ir_meaning.store c (v ∷ []) env s) o) (sym (ap (λ o. js_meaning.code_call (js_meaning.below p.program 0) (p.home (a_storer c)) o (x ∷ []) u) (has.stores f.file c l).stores)) (sim_going (Valued p w env NoType) (ir_meaning.store c (v ∷ []) env s))

  based : (d : Direction) (n k : ℕ) → Levels d n → Enough p.room 0 d n k → (f : Code) → Reaches p f.file → (is_mutable : List ℕ → Bool) → Based (within f d is_mutable n k)
  based d n k levels h f reaches is_mutable = record {
    ordered = ordered;
    names = names;
    reaches = reaches;
    objects = has.objects f.file;
    lives = has.lives f.file;
    fields = has.field f.file;
    statics = λ c g t l. (has.statics f.file c g t l).field;
    sets = λ c g t l. set_alike f is_mutable d n k h c g t l;
    stores = λ c l. store_alike f is_mutable d n k h c l;
    calls = λ m l. member_alike d n k (levels k h) m (has.linked f.file m l);
    receives = λ m l. method_alike f is_mutable d n k (levels k h) m (called_target p.classes (p.has f.file).lookup (λ o. (p.has f.file).received o ≡ true) (λ o i. has.targets f.file o i) m.namespace m l) (has.received f.file (called_member (p.has f.file).lookup m.namespace m) l);
    builds = λ m l. constructor_alike f is_mutable d n k h (levels k h) m (has.built f.file m l);
    makes = λ c l w env s u same. let made = has.made f.file c l in made_alike d p c k (enough_for d n k c made h) w env s u (made.stands w s u same) same;
  }

  -- what is left of the units around a call, where no more than five are spent
  left : (d : Direction) (n k q : ℕ) → Enough p.room p.room.each d n k → q < k → k ≤ q + 5 → Enough p.room 0 d n q
  left forward n k q h below near = let e = has.each in omega (arith, e, h, below, near)
  left backward n k q h below near = omega (arith, h, below)

  -- a helper that fails, within what is left
  fails_within : (h : Helper) (xs : List js.Value) (e message : List ℕ) → FailsAs p h xs e message → Reaches p (p.home (a_helper h)) → (p.has (p.home (a_helper h))).built (member e Constructor ir_meaning.with_message) ≡ true → (p.has (p.home (a_helper h))).made e ≡ true → is_hijacked e ≡ false → Fits Any (class_type e) → (d : Direction) (n k m : ℕ) → Levels d n → Enough p.room p.room.each d n k → m < k → k ≤ m + 4 → FailsOn d p (ir_meaning.below p.classes n) m h xs e message
  fails_within h xs e message fails reaches built made free any d n k (suc q) levels enough below near = fails_alike d p h (ir_meaning.below p.classes n) q xs e message (based d n q levels (left d n k q enough (omega (arith, below)) (omega (arith, near))) (in_helper p h) reaches (λ x. false)) fails built made free any
  fails_within h xs e message fails reaches built made free any forward n k zero levels enough below near = let r = has.each in let b = has.beyond in absurd (omega (arith, r, b, enough, near))
  fails_within h xs e message fails reaches built made free any backward n k zero levels enough below near = λ w env s u same. subst (λ o. Sim backward (Failed p w env) (ir_meaning.raise p.classes (ir_meaning.below p.classes n) e message env s) o) (sym (fails 0 u)) (sim_going (Failed p w env) (ir_meaning.raise p.classes (ir_meaning.below p.classes n) e message env s))

  fails_at : (h : Helper) (xs : List js.Value) (e message : List ℕ) → FailsAs p h xs e message → Reaches p (p.home (a_helper h)) → (p.has (p.home (a_helper h))).built (member e Constructor ir_meaning.with_message) ≡ true → (p.has (p.home (a_helper h))).made e ≡ true → is_hijacked e ≡ false → Fits Any (class_type e) → (d : Direction) (n m : ℕ) → Levels d n → Enough p.room p.room.each d n (suc m) → FailsOn d p (ir_meaning.below p.classes n) m h xs e message
  fails_at h xs e message fails reaches built made free any d n m levels enough = fails_within h xs e message fails reaches built made free any d n (suc m) m levels enough (omega arith) (omega arith)

  checks_at : CanCheck p → (f : Code) (is_mutable : List ℕ → Bool) (d : Direction) (n k : ℕ) → Levels d n → Enough p.room p.room.each d n k → ChecksAlike (within f d is_mutable n k)
  checks_at can f is_mutable d n (suc m) levels h = checks_alike d p (ir_meaning.below p.classes n) m can.check can.owned (fails_at (Throws NullReceiver) [] (codes "java.lang.NullPointerException") (codes "null") (fails_itself p (Throws NullReceiver) (codes "java.lang.NullPointerException") (codes "null") can.failure) can.reaches can.built can.made refl refl d n m levels h) can.held
  checks_at can f is_mutable forward n zero levels h = let e = has.beyond in absurd (omega (arith, e, h))
  checks_at can f is_mutable backward n zero levels h = λ t w v x env s u a same. subst (λ o. Sim backward (Valued p w env t) (ir_meaning.answered p.classes (ir_meaning.below p.classes n) (ir_meaning.not_null p.classes v) env s) o) (sym (ap (λ o. js_meaning.code_call (js_meaning.below p.program 0) (p.home (a_helper NotNull)) o (x ∷ []) u) can.check)) (sim_going (Valued p w env t) (ir_meaning.answered p.classes (ir_meaning.below p.classes n) (ir_meaning.not_null p.classes v) env s))

  divides_at : (f : Code) (is_mutable : List ℕ → Bool) (o : BinaryOp) → divides (p.has f.file) o ≡ true → CanDivide p o → (d : Direction) (n k : ℕ) → Levels d n → Enough p.room p.room.each d n k → DividesAlike (within f d is_mutable n k) o
  divides_at f is_mutable o i can d n (suc m) levels h = λ w v v' x x' env s u a b same. divides_alike d p (ir_meaning.below p.classes n) m (fails_at (Throws Division) [] (codes "java.lang.ArithmeticException") (codes "/ by zero") (fails_itself p (Throws Division) (codes "java.lang.ArithmeticException") (codes "/ by zero") can.failure) can.reaches can.built can.made refl refl d n m levels h) w env s u same (p.has f.file) o i can v v' x x' a b
  divides_at f is_mutable o i can forward n zero levels h = let e = has.beyond in absurd (omega (arith, e, h))
  divides_at f is_mutable o i can backward n zero levels h = λ w v v' x x' env s u a b same. subst (λ q. Sim backward (Valued p w env (binary_result o)) (ir_meaning.answered p.classes (ir_meaning.below p.classes n) (binary_value o v v') env s) q) (sym (ap (λ c. js_meaning.code_call (js_meaning.below p.program 0) (p.home (a_helper (division_helper o))) c (x ∷ x' ∷ []) u) can.division)) (sim_going (Valued p w env (binary_result o)) (ir_meaning.answered p.classes (ir_meaning.below p.classes n) (binary_value o v v') env s))

  tests_at : (f : Code) (is_mutable : List ℕ → Bool) (t : IrType) → CanTest p t → (d : Direction) (n k : ℕ) → Enough p.room p.room.each d n k → TestsAlike (within f d is_mutable n k) t
  tests_at f is_mutable t can d n (suc m) h = λ w v x env s u a same. tests_alike p w s u same t can d m env v x a
  tests_at f is_mutable t can forward n zero h = let e = has.beyond in absurd (omega (arith, e, h))
  tests_at f is_mutable t can backward n zero h = λ w v x env s u a same. subst (λ q. Sim backward (Valued p w env Boolean) (ir.given (ir_meaning.is_instance_value p.classes t s v) env s) q) (sym (ap (λ c. js_meaning.code_call (js_meaning.below p.program 0) (p.home (a_test t)) c (x ∷ []) u) can.test)) (sim_going (Valued p w env Boolean) (ir.given (ir_meaning.is_instance_value p.classes t s v) env s))

  casts_at : (f : Code) (is_mutable : List ℕ → Bool) (t : IrType) → CanCast p t → (d : Direction) (n k : ℕ) → Levels d n → Enough p.room p.room.each d n k → CastsAlike (within f d is_mutable n k) t
  casts_at f is_mutable t can d n (suc (suc m)) levels h = λ w v x env s u a same. casts_alike p w s u same t can d (ir_meaning.below p.classes n) env m (fails_at (Throws Cast) (js.text (kind_word can.kind) ∷ []) (codes "java.lang.ClassCastException") (kind_word can.kind) (cast_fails_as p (kind_word can.kind) can.throws.failure) can.throws.reaches can.throws.built can.throws.made refl refl d n (suc m) levels h) v x a
  casts_at f is_mutable t can forward n (suc zero) levels h = let e = has.each in absurd (omega (arith, e, h))
  casts_at f is_mutable t can backward n (suc zero) levels h = λ w v x env s u a same. short_cast p w s u same t can (ir_meaning.below p.classes n) env v x a
  casts_at f is_mutable t can forward n zero levels h = let e = has.beyond in absurd (omega (arith, e, h))
  casts_at f is_mutable t can backward n zero levels h = λ w v x env s u a same. subst (λ q. Sim backward (Valued p w env t) (ir_meaning.answered p.classes (ir_meaning.below p.classes n) (ir_meaning.cast_answer p.classes t s v) env s) q) (sym (ap (λ c. js_meaning.code_call (js_meaning.below p.program 0) (p.home (a_cast t)) c (x ∷ []) u) can.cast)) (sim_going (Valued p w env t) (ir_meaning.answered p.classes (ir_meaning.below p.classes n) (ir_meaning.cast_answer p.classes t s v) env s))

  -- the cast of a class takes three units: itself, its test, and the test of a kind
  class_room : (d : Direction) (n k : ℕ) → Enough p.room p.room.each d n k → d ≡ forward → 3 ≤ k
  class_room forward n k h e = let a = has.each in let b = has.beyond in omega (arith, a, b, h)
  class_room backward n k h e = absurd (cc)

  test_room : (d : Direction) (n m : ℕ) → Enough p.room p.room.each d n (suc m) → d ≡ forward → 2 ≤ m
  test_room d n m h e = let l = class_room d n (suc m) h e in omega (arith, l)

  class_tests_at : (f : Code) (is_mutable : List ℕ → Bool) (c : List ℕ) → ClassTest p c → (d : Direction) (n k : ℕ) → Enough p.room p.room.each d n k → TestsAlike (within f d is_mutable n k) (Class c)
  class_tests_at f is_mutable c test d n k h = λ w v x env s u a same. class_tests_alike p plain w s u same c test d k (λ e. let l = class_room d n k h e in omega (arith, l)) env v x a

  class_casts_at : (f : Code) (is_mutable : List ℕ → Bool) (c : List ℕ) → CanCastClass p c → (d : Direction) (n k : ℕ) → Levels d n → Enough p.room p.room.each d n k → CastsAlike (within f d is_mutable n k) (Class c)
  class_casts_at f is_mutable c can d n (suc m) levels h = λ w v x env s u a same. class_casts_alike p plain w s u same c can d (ir_meaning.below p.classes n) env m (fails_at (Throws Cast) (js.text (units_of c) ∷ []) (codes "java.lang.ClassCastException") (units_of c) (cast_fails_as p (units_of c) can.throws.failure) can.throws.reaches can.throws.built can.throws.made refl refl d n m levels h) (test_room d n m h) v x a
  class_casts_at f is_mutable c can forward n zero levels h = let e = has.beyond in absurd (omega (arith, e, h))
  class_casts_at f is_mutable c can backward n zero levels h = λ w v x env s u a same. subst (λ q. Sim backward (Valued p w env (Class c)) (ir_meaning.answered p.classes (ir_meaning.below p.classes n) (ir_meaning.cast_answer p.classes (Class c) s v) env s) q) (sym (ap (λ o. js_meaning.code_call (js_meaning.below p.program 0) (p.home (a_cast (Class c))) o (x ∷ []) u) can.cast)) (sim_going (Valued p w env (Class c)) (ir_meaning.answered p.classes (ir_meaning.below p.classes n) (ir_meaning.cast_answer p.classes (Class c) s v) env s))

  test_there : (f : Code) (is_mutable : List ℕ → Bool) (t : IrType) → Tested p t → is_array_type t ≡ false → (d : Direction) (n k : ℕ) → Enough p.room p.room.each d n k → HasFunction t × TestsAlike (within f d is_mutable n k) t
  test_there f is_mutable _ (of_kind t can) a d n k h = (primitive t can.kind can.its_kind, tests_at f is_mutable t can d n k h)
  test_there f is_mutable _ (of_class c test) a d n k h = (tt, class_tests_at f is_mutable c test d n k h)
  test_there f is_mutable _ (of_array r can) a d n k h = impossible (sym a)

  cast_there : (f : Code) (is_mutable : List ℕ → Bool) (t : IrType) → Casted p t → is_array_type t ≡ false → (d : Direction) (n k : ℕ) → Levels d n → Enough p.room p.room.each d n k → HasFunction t × CastsAlike (within f d is_mutable n k) t
  cast_there f is_mutable _ (to_kind t can) a d n k levels h = (primitive t can.kind can.its_kind, casts_at f is_mutable t can d n k levels h)
  cast_there f is_mutable _ (to_class c can) a d n k levels h = (tt, class_casts_at f is_mutable c can d n k levels h)
  cast_there f is_mutable _ (to_array r can) a d n k levels h = impossible (sym a)

  compares_at : (f : Code) (is_mutable : List ℕ → Bool) → CanCompare p → (d : Direction) (n k : ℕ) → Enough p.room p.room.each d n k → ComparesAlike (within f d is_mutable n k)
  compares_at f is_mutable can d n (suc m) h = λ w v v' x x' env s u a b same. compares_alike p can w s u same m d (ir_meaning.below p.classes n) env v v' x x' a b
  compares_at f is_mutable can forward n zero h = let e = has.beyond in absurd (omega (arith, e, h))
  compares_at f is_mutable can backward n zero h = λ w v v' x x' env s u a b same. subst (λ q. Sim backward (Valued p w env Boolean) (ir_meaning.answered p.classes (ir_meaning.below p.classes n) (binary_value StrictEqual v v') env s) q) (sym (ap (λ c. js_meaning.code_call (js_meaning.below p.program 0) (p.home (a_helper Equal)) c (x ∷ x' ∷ []) u) can.equality)) (sim_going (Valued p w env Boolean) (ir_meaning.answered p.classes (ir_meaning.below p.classes n) (binary_value StrictEqual v v') env s))

  -- an object that holds a char takes a unit
  box_room : (d : Direction) (n k : ℕ) → Enough p.room p.room.each d n k → d ≡ forward → 1 ≤ k
  box_room forward n k h e = let b = has.beyond in omega (arith, b, h)
  box_room backward n k h e = absurd (cc)

  looks_at : (f : Code) (is_mutable : List ℕ → Bool) (c : List ℕ) (m : MethodName) (b : Bool) → LooksUpThere p c m b → (d : Direction) (n k : ℕ) → Levels d n → Enough p.room p.room.each d n k → LooksUp b (within f d is_mutable n k) c m
  looks_at f is_mutable c m b there = by b there.kinds
    where
      by : (b : Bool) → KindsRun p c m b → (d : Direction) (n k : ℕ) → Levels d n → Enough p.room p.room.each d n k → LooksUp b (within f d is_mutable n k) c m
      by _ (no_kinds none) d n k levels h = entries_at f is_mutable c m there.objects none d n k levels h
      by _ (some_kinds st) d n k levels h = dispatches_at f is_mutable c m there.objects st d n k levels h

  reflects_at : (f : Code) (is_mutable : List ℕ → Bool) (m : MethodName) → ReflectionStands p m → (d : Direction) (n k : ℕ) → Levels d n → Enough p.room p.room.each d n k → ReflectsAlike (within f d is_mutable n k) m
  reflects_at f is_mutable m st d n (suc (suc k)) levels h = λ w v x vs xs env s u a values same. reflected_value p array_entries d (ir_meaning.below p.classes n) has.boxes m st w s u same vs xs values env k (target_alike d n (suc k) (levels (suc k) (one_fewer d n (suc k) h))) (λ j e. target_alike d n j (levels j (three_fewer d n j (subst (λ (i : ℕ). Enough p.room p.room.each d n (suc (suc i))) (sym e) h)))) (reflected_room d n k h) (fails_at (Throws Method) (js.text (units_of (spelled_method m)) ∷ []) no_such_method (units_of (spelled_method m)) (told_fails_as p (Throws Method) no_such_method (units_of (spelled_method m)) st.throws.failure) st.throws.reaches st.throws.built st.throws.made refl refl d n (suc k) levels h) v x a.stands
  reflects_at f is_mutable m st forward n (suc zero) levels h = let e = has.each in absurd (omega (arith, e, h))
  reflects_at f is_mutable m st forward n zero levels h = let e = has.each in absurd (omega (arith, e, h))
  reflects_at f is_mutable m st backward n (suc zero) levels h = λ w v x vs xs env s u a values same. reflected_short p array_entries backward (ir_meaning.below p.classes n) has.boxes m st w s u same vs xs values env not_forward v x a.stands
  reflects_at f is_mutable m st backward n zero levels h = λ w v x vs xs env s u a values same. reflected_none_left p array_entries backward (ir_meaning.below p.classes n) has.boxes m st w s u same vs xs values env not_forward v x

  -- a class is loaded in one unit, in which its object is made where there is none yet
  loads_at : (f : Code) (is_mutable : List ℕ → Bool) (c : List ℕ) → (p.has f.file).modules c ≡ true → (d : Direction) (n k : ℕ) → Levels d n → Enough p.room p.room.each d n k → LoadsAlike (within f d is_mutable n k) c
  loads_at f is_mutable c l d n (suc k) levels h = let can = load_cell (p.has f.file) c l in loads_alike d p has.cells c (has.cells f.file c can) f.file can (has.loads f.file c l) (ir_meaning.below p.classes n) k (based d n k levels (one_fewer d n k h) (loading p c) (has.loads f.file c l).reaches (λ x. false))
  loads_at f is_mutable c l forward n zero levels h = let e = has.each in absurd (omega (arith, e, h))
  loads_at f is_mutable c l backward n zero levels h = λ w env s u same. subst (λ o. Sim backward (Valued p w env (class_type c)) (ir_meaning.load p.classes (ir_meaning.below p.classes n) c (s.cells c) env s) o) (sym (ap (λ o. js_meaning.code_call (js_meaning.below p.program 0) (p.home (a_loader c)) o [] u) (has.loads f.file c l).loads)) (sim_going (Valued p w env (class_type c)) (ir_meaning.load p.classes (ir_meaning.below p.classes n) c (s.cells c) env s))

  -- each class that has constants stands above itself
  known : (w : World) (s : ir.State) (u : js.State) → SameState p w s u → (c : List ℕ) (x : js.Value) → IsConstantsOf w.owned c x → IsAncestor p.classes c c
  known w s u same c x k = (same.heaps.marked k.address k.constants k.owned_there).known c k.marked

  -- what the helpers of arrays throw
  index_fails : (h : Helper) → ChecksIndex p h → (d : Direction) (n k m : ℕ) → Levels d n → Enough p.room p.room.each d n k → m < k → k ≤ m + 4 → (z : ℤ) → FailsOn d p (ir_meaning.below p.classes n) m (Throws Index) (js.number z ∷ []) index_exception (decimal_text z)
  index_fails h can d n k m levels enough below near z = fails_within (Throws Index) (js.number z ∷ []) index_exception (decimal_text z) (index_fails_as p z can.throws.failure) can.throws.reaches can.throws.built can.throws.made refl refl d n k m levels enough below near

  no_index : (h : Helper) → ChecksIndex p h → (m : ℕ) (z : ℤ) (u : js.State) → GivesNone (top_call p (js_meaning.below p.program m) (a_helper (Throws Index)) (js.number z ∷ []) u)
  no_index h can m z u = none_thrown p (Throws Index) (js.number z ∷ []) index_exception (decimal_text z) (index_fails_as p z can.throws.failure) m u

  array_room : (d : Direction) (n k : ℕ) → Enough p.room p.room.each d n k → d ≡ forward → 6 ≤ k
  array_room forward n k h e = let a = has.each in let b = has.beyond in omega (arith, a, b, h)
  array_room backward n k h e = absurd (cc)

  array_tested : (r : ArrayRef) → Tested p (Array r) → CanTestArrays p r
  array_tested r (of_kind _ can) = let e = can.its_kind in absurd (cc)
  array_tested r (of_array _ can) = can

  array_cast : (r : ArrayRef) → Casted p (Array r) → CanCastArrays p r
  array_cast r (to_kind _ can) = let e = can.its_kind in absurd (cc)
  array_cast r (to_array _ can) = can

  array_tests_at : (f : Code) (is_mutable : List ℕ → Bool) (r : ArrayRef) → CanTestArrays p r → (d : Direction) (n k : ℕ) → Enough p.room p.room.each d n k → TestsArraysAlike (within f d is_mutable n k) r
  array_tests_at f is_mutable r can d n k h = λ dims w v x base env s u a stands same. tests_within p plain r w (known w s u same) env s u base stands same can d k (λ e. let l = array_room d n k h e in omega (arith, l)) v x a

  array_casts_at : (f : Code) (is_mutable : List ℕ → Bool) (r : ArrayRef) → CanCastArrays p r → (d : Direction) (n k : ℕ) → Levels d n → Enough p.room p.room.each d n k → CastsArraysAlike (within f d is_mutable n k) r
  array_casts_at f is_mutable r can d n (suc m) levels h = λ dims w v x base env s u a stands same. casts_within p plain r w (known w s u same) env s u base stands same can (ir_meaning.below p.classes n) d m (λ e. let l = array_room d n (suc m) h e in omega (arith, l)) (fails_at (Throws Cast) (js.text (array_text r) ∷ []) cast_exception (array_text r) (cast_fails_as p (array_text r) can.throws.failure) can.throws.reaches can.throws.built can.throws.made refl refl d n m levels h) v x a
  array_casts_at f is_mutable r can forward n zero levels h = let l = array_room forward n 0 h refl in absurd (omega (arith, l))
  array_casts_at f is_mutable r can backward n zero levels h = λ dims w v x base env s u a stands same. casts_short p plain r w (known w s u same) env s u base stands same can (ir_meaning.below p.classes n) v x

  makes_at : (f : Code) (is_mutable : List ℕ → Bool) → CanGiveArrays p → CanMakeArrays p → (d : Direction) (n k : ℕ) → Levels d n → Enough p.room p.room.each d n k → MakesArraysAlike (within f d is_mutable n k)
  makes_at f is_mutable gives can d n (suc m) levels h = λ r dims w v x base env s u a stands same. makes_alike d p (ir_meaning.below p.classes n) m (λ e. let l = array_room d n (suc m) h e in omega (arith, l)) gives (maker_arrays_there p can) (maker_throws_there p can) (λ z. fails_at (Throws Size) (js.number z ∷ []) size_exception (decimal_text z) (size_fails_as p z can.throws.failure) can.throws.reaches can.throws.built can.throws.made refl refl d n m levels h) (λ z u. none_thrown p (Throws Size) (js.number z ∷ []) size_exception (decimal_text z) (size_fails_as p z can.throws.failure) m u) can.stands r dims w v x base env s u a stands same
  makes_at f is_mutable gives can forward n zero levels h = let l = array_room forward n 0 h refl in absurd (omega (arith, l))
  makes_at f is_mutable gives can backward n zero levels h = λ r dims w v x base env s u a stands same. none_alike p (Valued p w env (Array r)) (ir_meaning.new_items p.classes (ir_meaning.below p.classes n) r (v ∷ []) env s) MakeArray can.stands (depth_of r ∷ base ∷ x ∷ zero_shown (element_type r) ∷ []) u

  gets_at : (f : Code) (is_mutable : List ℕ → Bool) → ChecksIndex p Get → (d : Direction) (n k : ℕ) → Levels d n → Enough p.room p.room.each d n k → GetsAlike (within f d is_mutable n k)
  gets_at f is_mutable can d n (suc (suc m)) levels h = gets_alike d p (ir_meaning.below p.classes n) m (checks_there p Get can) (index_fails Get can d n (suc (suc m)) m levels h (omega arith) (omega arith)) (no_index Get can m) can.stands
  gets_at f is_mutable can forward n (suc zero) levels h = let l = array_room forward n 1 h refl in absurd (omega (arith, l))
  gets_at f is_mutable can forward n zero levels h = let l = array_room forward n 0 h refl in absurd (omega (arith, l))
  gets_at f is_mutable can backward n (suc zero) levels h = λ r dims w v i x j env s u a b same. gets_short p w s u same env (element_type r) (ir_meaning.select_item p.classes (ir_meaning.below p.classes n) (v ∷ i ∷ []) env s) 1 (omega arith) can x j
  gets_at f is_mutable can backward n zero levels h = λ r dims w v i x j env s u a b same. gets_short p w s u same env (element_type r) (ir_meaning.select_item p.classes (ir_meaning.below p.classes n) (v ∷ i ∷ []) env s) 0 (omega arith) can x j

  -- what it is to set an item by a helper
  abbrev ItemsSet : Direction → ℕ → ℕ → ArrayRef → Helper → Type 0
  ItemsSet d n k r q = (w : World) (v i e : ir.Value) (x j y : js.Value) (env : ir.Env) (s : ir.State) (u : js.State) → SameValue w (Array r) v x → SameValue w Int i j → SameValue w (element_type r) e y → SameState p w s u → Sim d (Valued p w env NoType) (ir_meaning.assign_item p.classes (ir_meaning.below p.classes n) (v ∷ i ∷ e ∷ []) env s) (top_call p (js_meaning.below p.program k) (a_helper q) (x ∷ j ∷ y ∷ []) u)

  abbrev SetsBy : Helper → Direction → ℕ → ℕ → Type 0
  SetsBy q d n k = (r : ArrayRef) → HasDimensions r → setting_helper (element_type r) ≡ q → ItemsSet d n k r q

  sets_by : ChecksIndex p Set → (d : Direction) (n k : ℕ) → Levels d n → Enough p.room p.room.each d n k → SetsBy Set d n k
  sets_by can d n (suc (suc m)) levels h = items_set_alike d p (ir_meaning.below p.classes n) m (checks_there p Set can) (index_fails Set can d n (suc (suc m)) m levels h (omega arith) (omega arith)) (no_index Set can m) can.stands
  sets_by can forward n (suc zero) levels h = let l = array_room forward n 1 h refl in absurd (omega (arith, l))
  sets_by can forward n zero levels h = let l = array_room forward n 0 h refl in absurd (omega (arith, l))
  sets_by can backward n (suc zero) levels h = λ r dims is w v i e x j y env s u a b c same. sets_short p w s u same env NoType (ir_meaning.assign_item p.classes (ir_meaning.below p.classes n) (v ∷ i ∷ e ∷ []) env s) 1 (omega arith) can x j y
  sets_by can backward n zero levels h = λ r dims is w v i e x j y env s u a b c same. sets_short p w s u same env NoType (ir_meaning.assign_item p.classes (ir_meaning.below p.classes n) (v ∷ i ∷ e ∷ []) env s) 0 (omega arith) can x j y

  puts_by : CanPut p → (d : Direction) (n k : ℕ) → Levels d n → Enough p.room p.room.each d n k → SetsBy Put d n k
  puts_by can d n (suc (suc m)) levels h = λ r dims is w v i e x j y env s u a b c same. puts_alike d p plain (ir_meaning.below p.classes n) m (λ q. let l = array_room d n (suc (suc m)) h q in omega (arith, l)) can (index_fails Put can.index d n (suc (suc m)) m levels h (omega arith) (omega arith)) (no_index Put can.index m) (fails_at (Throws Store) [] store_exception (codes "bad element") (fails_itself p (Throws Store) store_exception (codes "bad element") can.throws.failure) can.throws.reaches can.throws.built can.throws.made refl refl d n (suc m) levels h) (none_thrown p (Throws Store) [] store_exception (codes "bad element") (fails_itself p (Throws Store) store_exception (codes "bad element") can.throws.failure) (suc m)) r dims is w (known w s u same) (λ q k f. (same.heaps.arrays q k f).few) v i e x j y env s u a b c same
  puts_by can forward n (suc zero) levels h = let l = array_room forward n 1 h refl in absurd (omega (arith, l))
  puts_by can forward n zero levels h = let l = array_room forward n 0 h refl in absurd (omega (arith, l))
  puts_by can backward n (suc zero) levels h = λ r dims is w v i e x j y env s u a b c same. puts_short p w s u same env NoType (ir_meaning.assign_item p.classes (ir_meaning.below p.classes n) (v ∷ i ∷ e ∷ []) env s) 1 (omega arith) can x j y
  puts_by can backward n zero levels h = λ r dims is w v i e x j y env s u a b c same. puts_short p w s u same env NoType (ir_meaning.assign_item p.classes (ir_meaning.below p.classes n) (v ∷ i ∷ e ∷ []) env s) 0 (omega arith) can x j y

  puts_at : (f : Code) (is_mutable : List ℕ → Bool) (d : Direction) (n k : ℕ) → Levels d n → Enough p.room p.room.each d n k → PutsAlike (within f d is_mutable n k)
  puts_at f is_mutable d n k levels h r dims usable = by (one_setter (element_type r))
    where
      can : (q : Helper) → setting_helper (element_type r) ≡ q → (p.has f.file).helper (helper_name q) ≡ true
      can q is = subst (λ (g : Helper). (p.has f.file).helper (helper_name g) ≡ true) is usable

      by : (setting_helper (element_type r) ≡ Set) ⊎ (setting_helper (element_type r) ≡ Put) → ItemsSet d n k r (setting_helper (element_type r))
      by (inl is) = subst (ItemsSet d n k r) (sym is) (sets_by (has.sets f.file (can Set is)) d n k levels h r dims is)
      by (inr is) = subst (ItemsSet d n k r) (sym is) (puts_by (has.puts f.file (can Put is)) d n k levels h r dims is)

  gives_at : (f : Code) (is_mutable : List ℕ → Bool) → CanGiveArrays p → (d : Direction) (n k : ℕ) → Enough p.room p.room.each d n k → GivesArraysAlike (within f d is_mutable n k)
  gives_at f is_mutable can d n k h = gives_alike (within f d is_mutable n k) k can refl (λ e. let l = array_room d n k h e in omega (arith, l))

  lawful : (d : Direction) (n k : ℕ) → Levels d n → Enough p.room p.room.each d n k → (f : Code) → Reaches p f.file → (is_mutable : List ℕ → Bool) → Lawful (within f d is_mutable n k)
  lawful d n k levels h f reaches is_mutable = record { base = based d n k levels (fewer d p.room.each n k h) f reaches is_mutable; reflects = λ m i. reflects_at f is_mutable m (has.reflected f.file m i) d n k levels h; looks = λ c m i. looks_at f is_mutable c m ((p.has f.file).lookup.has_hijacked c) (has.looked f.file c m i) d n k levels h; loads = λ c i. loads_at f is_mutable c i d n k levels h; checks = λ i. checks_at (has.checked f.file i) f is_mutable d n k levels h; divisions = λ o i. divides_at f is_mutable o i (has.divided f.file o i) d n k levels h; boxes = λ i. boxes_alike (within f d is_mutable n k) k (has.boxes f.file i) refl (box_room d n k h); tests = λ t a i. test_there f is_mutable t (has.tested f.file t i) a d n k h; casts = λ t a i. cast_there f is_mutable t (has.cast f.file t i) a d n k levels h; array_tests = λ r i. array_tests_at f is_mutable r (array_tested r (has.tested f.file (Array r) i)) d n k h; array_casts = λ r i. array_casts_at f is_mutable r (array_cast r (has.cast f.file (Array r) i)) d n k levels h; makes_arrays = λ arrays i. let can = has.makes f.file i in makes_at f is_mutable (has.gives can.arrays.user f.file can.arrays.usable arrays) can d n k levels h; gives_arrays = λ arrays i. gives_at f is_mutable (has.gives f.file f.file i arrays) d n k h; gets = λ i. gets_at f is_mutable (has.gets f.file i) d n k levels h; puts = puts_at f is_mutable d n k levels h; array_calls = λ m i. arrays_at f is_mutable m (has.on_arrays f.file m i) d n k levels h; compares = λ i. compares_at f is_mutable (has.compared f.file i) d n k h }

  next : (d : Direction) (n k : ℕ) → Levels d n → Enough p.room p.room.each d n k → Level d (suc n) (suc k)
  next d n k levels h f reaches is_mutable c q j t sound ahead out wr fine w env s sc u ready same = does (within f d is_mutable n k) (lawful d n k levels h f reaches is_mutable) (levels k (fewer d p.room.each n k h) f reaches is_mutable) t c q j sound ahead out wr fine w env s sc u ready same

  pub levels : (d : Direction) (n : ℕ) → Levels d n
  levels forward zero k h = λ f reaches is_mutable c q j t sound ahead out wr fine w env s sc u ready same. sim_over (Came p f c c.scope q w sc) (js_meaning.below p.program k (statement_templates p.name p.label (p.has f.file).lookup (into is_mutable f.sure c.targets q j t).statements) sc u)
  levels backward n zero h = λ f reaches is_mutable c q j t sound ahead out wr fine w env s sc u ready same. sim_going (Came p f c c.scope q w sc) (ir_meaning.below p.classes n t env s)
  levels forward (suc n) zero h = absurd (omega arith)
  levels backward zero (suc k) h = absurd (omega arith)
  levels d (suc n) (suc k) h = next d n k (levels d n) (spent d n k h)

  -- calls of static members agree, where code makes objects and uses them
  pub calls_agree : (f : Name) (m : Member) → (p.has f).linked m ≡ true → (w : World) (vs : List ir.Value) (xs : List js.Value) (env : ir.Env) (s : ir.State) (u : js.State) → SameValues w (types_referred m.method.params) vs xs → SameState p w s u → CallsAgree p m w vs xs env s u
  calls_agree f m l w vs xs env s u values same = record {
    there = λ n k h. member_alike forward n k (levels forward n k h) m (has.linked f m l) w vs xs env s u values same;
    back = λ n k h. member_alike backward n k (levels backward n k h) m (has.linked f m l) w vs xs env s u values same;
  }
