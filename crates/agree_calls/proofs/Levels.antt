-- All levels: trees and calls are alike at bounds that stand to each other as the direction says, by induction on the IR's bound alone, for each
-- bound of the emitted code that is enough for it.
use Rattle.std.specs.Prelude.{◌+◌, ◌*◌, codes, not}
use Rattle.std.proofs.Common.{◌≡◌, ℕ, zero, suc, Bool, true, List, arith, sym, ◌∙◌, ◌||◌}
use Rattle.sj_names.proofs.Same.{impossible}
use Rattle.dispatch_laws.specs.Templates.{called_member, check_name, statement_templates}
use Rattle.sure_receivers.specs.Sure.{sure_locals}
use Rattle.outcomes.specs.Agreement.{Direction, forward, backward, Enough, Sim}
use Rattle.outcomes.proofs.Simulation.{sim_over, sim_going}
use Rattle.dispatch_laws.specs.Meaning as ir_meaning
use Rattle.dispatch_laws.specs.States as ir
use Rattle.js_mean.specs.Meaning as js_meaning
use Rattle.js_mean.specs.States as js
use Rattle.js_tree.specs.Terms.{Name}
use Rattle.agree_bodies.specs.Desugar.{into, is_mutable_in}
use Rattle.sj_names.specs.declared.method_names.Member.{Member}
use Rattle.agree_bodies.specs.Settings.{Place, Code, a_function, Setting, SameState, Valued, NamesDiffer, Reaches, Based, Lawful, setting_helper}
use Rattle.array_code.specs.Helpers.{helper_name}
use Rattle.array_code.specs.HelperVariants.{ArrayClass, Get, MakeArray}
use Rattle.sj_trees.specs.Types.{element_type}
use Rattle.sj_trees.specs.declared.types.IrType.TheVariants.{Array}
use Rattle.agree_bodies.proofs.Contexts.{Came}
use Rattle.agree_bodies.proofs.Main.{does}
use Rattle.agree_bodies.proofs.Trees.{LowAlike}
use Rattle.agree_bodies.proofs.Worlds.{World, SameValues}
use Rattle.std.proofs.lemmas.Bool.{or_from, and_parts}
use Rattle.agree_bodies.specs.Standing.{types_referred, call_type}
use Rattle.agree_calls.specs.Methods.{Linked, CallsAlone, CallsAgree, ir_call, js_call}
use Rattle.agree_calls.proofs.Calls.{call_alike}
use Rattle.agree_bodies.proofs.RulesGive.{no_division}
use Rattle.agree_bodies.specs.Subtyping.{IsSubtyping}
use Rattle.dispatch_laws.specs.Subtypes.{IsSub}

module _ (p : Place) (ordered : IsSubtyping (IsSub p.typing)) (names : NamesDiffer p) (linked : (f : Name) (m : Member) → (p.has f).linked m ≡ true → Linked p m) (alone : CallsAlone p) where
  -- a body in a file of the place, with what the levels of these bounds give
  abbrev within : Code → Direction → (List ℕ → Bool) → ℕ → ℕ → Setting
  within f d is_mutable n k = record { place = p; code = f; direction = d; is_mutable = is_mutable; low = ir_meaning.below p.classes n; js_low = js_meaning.below p.program k }

  abbrev Level : Direction → ℕ → ℕ → Type 1
  Level d n k = (f : Code) → Reaches p f.file → (is_mutable : List ℕ → Bool) → LowAlike (within f d is_mutable n k)

  -- one bound of the IR, and each bound of the emitted code that is enough for it
  abbrev Levels : Direction → ℕ → Type 1
  Levels d n = (k : ℕ) → Enough p.room 0 d n k → Level d n k

  fewer : (d : Direction) (more n k : ℕ) → Enough p.room more d n k → Enough p.room 0 d n k
  fewer forward more n k h = omega arith
  fewer backward more n k h = h

  times-suc : (a n : ℕ) → a * suc n ≡ a + a * n
  times-suc a n = grind arith

  -- where a unit of the IR is spent on a call, and one of the emitted code, there are as many more for what stands around the call as the IR's unit allows
  spent : (d : Direction) (n k : ℕ) → Enough p.room 0 d (suc n) (suc k) → Enough p.room p.room.each d n k
  spent forward n k h = let e = times-suc p.room.each n in omega arith
  spent backward n k h = omega arith

  -- a member that the code of some file can use
  member_alike : (d : Direction) (n k : ℕ) → Level d n k → (m : Member) → Linked p m → (w : World) (vs : List ir.Value) (xs : List js.Value) (env : ir.Env) (s : ir.State) (u : js.State) → SameValues w (types_referred m.method.params) vs xs → SameState p w s u → Sim d (Valued p w env (call_type m.method.result)) (ir_call p m vs env s n) (js_call p m xs u k)
  member_alike d n k level m l = call_alike p names d (ir_meaning.below p.classes n) (js_meaning.below p.program k) m l (level (record { file = p.home (a_function m); owner = m.class; sure = sure_locals l.its_body }) l.reaches (is_mutable_in l.definition l.its_body))

  based : (d : Direction) (n k : ℕ) → Levels d n → Enough p.room 0 d n k → (f : Code) → Reaches p f.file → (is_mutable : List ℕ → Bool) → Based (within f d is_mutable n k)
  based d n k levels h f reaches is_mutable = record {
    ordered = ordered;
    names = names;
    reaches = reaches;
    fields = λ c g t i. impossible (sym (alone.field f.file c g t) ∙ i);
    statics = λ c g t i. impossible (sym (or_from ((p.has f.file).static_field c g t) ((p.has f.file).static_setter c g t) (alone.static_field f.file c g t) (alone.static_setter f.file c g t)) ∙ i);
    sets = λ c g t i. impossible (sym (alone.static_setter f.file c g t) ∙ i);
    stores = λ c i. impossible (sym (alone.stored f.file c) ∙ i);
    calls = λ m l. member_alike d n k (levels k h) m (linked f.file m l);
    receives = λ m l. impossible (sym (alone.received f.file (called_member (p.has f.file).lookup m.namespace m)) ∙ l);
    builds = λ m l. impossible (sym (alone.built f.file m) ∙ l);
    makes = λ c l. impossible (sym (alone.made f.file c) ∙ l);
    objects = λ c l. impossible (sym (alone.made f.file c) ∙ l);
    lives = λ c l. impossible (sym (alone.made f.file c) ∙ l);
  }

  lawful : (d : Direction) (n k : ℕ) → Levels d n → Enough p.room p.room.each d n k → (f : Code) → Reaches p f.file → (is_mutable : List ℕ → Bool) → Lawful (within f d is_mutable n k)
  lawful d n k levels h f reaches is_mutable = record { base = based d n k levels (fewer d p.room.each n k h) f reaches is_mutable; reflects = λ m i. impossible (sym (alone.reflected f.file m) ∙ i); looks = λ c m i. impossible (sym (alone.looked f.file c m) ∙ (and_parts ((p.has f.file).looked_up c m) ((p.has f.file).dispatched m || not ((p.has f.file).lookup.has_hijacked c)) i).0); loads = λ c i. impossible (sym (alone.modules f.file c) ∙ i); checks = λ i. impossible (sym (alone.helper f.file check_name) ∙ i); divisions = λ o i. no_division (p.has f.file) (alone.helper f.file) o i; boxes = λ i. impossible (sym (alone.helper f.file (codes "$C")) ∙ i); tests = λ t a i. impossible (sym (alone.tests f.file t) ∙ i); casts = λ t a i. impossible (sym (alone.casts f.file t) ∙ i); compares = λ i. impossible (sym (alone.helper f.file (codes "$eq")) ∙ i); array_tests = λ r i. impossible (sym (alone.tests f.file (Array r)) ∙ i); array_casts = λ r i. impossible (sym (alone.casts f.file (Array r)) ∙ i); makes_arrays = λ arrays i. impossible (sym (alone.helper f.file (helper_name MakeArray)) ∙ i); gives_arrays = λ arrays i. impossible (sym (alone.helper f.file (helper_name ArrayClass)) ∙ i); gets = λ i. impossible (sym (alone.helper f.file (helper_name Get)) ∙ i); puts = λ r _ i. impossible (sym (alone.helper f.file (helper_name (setting_helper (element_type r)))) ∙ i); array_calls = λ m i. impossible (sym (alone.on_arrays f.file m) ∙ i) }

  next : (d : Direction) (n k : ℕ) → Levels d n → Enough p.room p.room.each d n k → Level d (suc n) (suc k)
  next d n k levels h f reaches is_mutable c q j t sound ahead out wr fine w env s sc u ready same = does (within f d is_mutable n k) (lawful d n k levels h f reaches is_mutable) (levels k (fewer d p.room.each n k h) f reaches is_mutable) t c q j sound ahead out wr fine w env s sc u ready same

  pub levels : (d : Direction) (n : ℕ) → Levels d n
  levels forward zero k h = λ f reaches is_mutable c q j t sound ahead out wr fine w env s sc u ready same. sim_over (Came p f c c.scope q w sc) (js_meaning.below p.program k (statement_templates p.name p.label (p.has f.file).lookup (into is_mutable f.sure c.targets q j t).statements) sc u)
  levels backward n zero h = λ f reaches is_mutable c q j t sound ahead out wr fine w env s sc u ready same. sim_going (Came p f c c.scope q w sc) (ir_meaning.below p.classes n t env s)
  levels forward (suc n) zero h = absurd (omega arith)
  levels backward zero (suc k) h = absurd (omega arith)
  levels d (suc n) (suc k) h = next d n k (levels d n) (spent d n k h)

  pub calls_agree : (f : Name) (m : Member) → (p.has f).linked m ≡ true → (w : World) (vs : List ir.Value) (xs : List js.Value) (env : ir.Env) (s : ir.State) (u : js.State) → SameValues w (types_referred m.method.params) vs xs → SameState p w s u → CallsAgree p m w vs xs env s u
  calls_agree f m l w vs xs env s u values same = record {
    there = λ n k h. member_alike forward n k (levels forward n k h) m (linked f m l) w vs xs env s u values same;
    back = λ n k h. member_alike backward n k (levels backward n k h) m (linked f m l) w vs xs env s u values same;
  }
