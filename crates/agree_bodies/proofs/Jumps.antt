-- Labels, returns to them, and loops.
use Rattle.std.proofs.Common.{◌≡◌, ◌⊎◌, inl, inr, ℕ, Bool, true, false, List, [], ◌∷◌, Some, refl, sym, ap, ◌∙◌, subst, if◌then◌else◌}
use Rattle.std.specs.Prelude.{nat_eq}
use Rattle.std.specs.Cmp.Lexicographic.{pointwise}
use Rattle.outcomes.specs.Outcome.{Out, done, then_do}
use Rattle.outcomes.specs.Agreement.{Sim}
use Rattle.outcomes.proofs.Sequence.{then_do-right}
use Rattle.outcomes.proofs.Simulation.{sim_done, sim_then}
use Rattle.agree_plain_trees.specs.Meaning as ir_meaning
use Rattle.agree_plain_trees.specs.States as ir
use Rattle.js_mean.specs.Meaning as js_meaning
use Rattle.js_mean.specs.States as js
use Rattle.sj_core.specs.Terms as core
use Rattle.agree_early_errors.specs.Desugar.{target_of, labeled_code, leaving_code}
use Rattle.agree_early_errors.specs.Spill.{Destination, discard, to_variable, to_result, Code}
use Rattle.agree_early_errors.specs.Templates.{statement_templates}
use Rattle.sj_trees.specs.declared.positions.Position.{Position}
use Rattle.sj_trees.specs.declared.types.IrType.{IrType}
use Rattle.agree_plain_trees.specs.Settings.{Setting, run, SameState, Lawful, usable}
use Rattle.agree_bodies.proofs.Blocks.{Undeclared, block_alike}
use Rattle.agree_bodies.specs.Placed.{with_reach}
use Rattle.agree_bodies.proofs.Contexts.{Context, Writes, writes-more, Sound, Ready, Keeps, Less, Arrives, let_go, stored, returned, Came, gave, left, threw, stopped}
use Rattle.agree_early_errors.proofs.Equal.{differs, equals, is-equal}
use Rattle.sj_names.proofs.Same.{impossible}
use Rattle.agree_bodies.proofs.Statements.{run-followed, leaves_on, ends-one, Ends}
use Rattle.agree_plain_trees.proofs.Worlds.{World, SameValue}

module _ (z : Setting) (lawful : Lawful z) where
  -- a context with one more label
  abbrev pub labelling : Context → List ℕ → Destination → Context
  labelling c l k = record { scope = c.scope; writable = c.writable; written = c.written; kept = c.kept; targets = record { label = l; goes_to = k } ∷ c.targets; reaches = with_reach l c.reaches; tries = c.tries; turning = c.turning }

  same_target : (c : Context) (l m : List ℕ) (k : Destination) → pointwise nat_eq m l ≡ true → target_of (record { label = l; goes_to = k } ∷ c.targets) m ≡ k
  same_target c l m k e = ap (λ (b : Bool). if b then k else target_of c.targets m) e

  other_target : (c : Context) (l m : List ℕ) (k : Destination) → pointwise nat_eq m l ≡ false → target_of (record { label = l; goes_to = k } ∷ c.targets) m ≡ target_of c.targets m
  other_target c l m k e = ap (λ (b : Bool). if b then k else target_of c.targets m) e

  -- a label that is another is one of those around
  past_label : (c : Context) (l m : List ℕ) → pointwise nat_eq m l ≡ false → (m ≡ l) ⊎ c.reaches m → c.reaches m
  past_label c l m e (inl same) = impossible (sym (subst (λ x. pointwise nat_eq x l ≡ false) same e) ∙ equals l)
  past_label c l m e (inr there) = there

  pub sound-labelling : (c : Context) (l : List ℕ) (k : Destination) → Sound z.is_mutable c → Writes c.written k → Sound z.is_mutable (labelling c l k)
  sound-labelling c l k sound wr = record {
    hidden = sound.hidden;
    constant = sound.constant;
    changing = sound.changing;
    alone = sound.alone;
    within = sound.within;
    aims = λ m. aim m (pointwise nat_eq m l) refl;
    reached = λ m r. go m (pointwise nat_eq m l) refl r;
    apart = sound.apart;
    receiver = sound.receiver;
    received = sound.received;
  }
    where
      writes : Writes c.writable k
      writes = writes-more c.written c.writable k sound.within wr

      aim : (m : List ℕ) (b : Bool) → pointwise nat_eq m l ≡ b → Writes c.writable (target_of (record { label = l; goes_to = k } ∷ c.targets) m)
      aim m true e = subst (Writes c.writable) (sym (same_target c l m k e)) writes
      aim m false e = subst (Writes c.writable) (sym (other_target c l m k e)) (sound.aims m)

      go : (m : List ℕ) (b : Bool) → pointwise nat_eq m l ≡ b → (m ≡ l) ⊎ c.reaches m → Writes c.written (target_of (record { label = l; goes_to = k } ∷ c.targets) m)
      go m true e r = subst (Writes c.written) (sym (same_target c l m k e)) wr
      go m false e r = subst (Writes c.written) (sym (other_target c l m k e)) (sound.reached m (past_label c l m e r))

  arrive-js : (l m : List ℕ) (b : Bool) (sc : js.Scope) (u : js.State) → pointwise nat_eq (z.place.label m) (z.place.label l) ≡ b → js_meaning.arrive (z.place.label l) (js.ends (js.breaks (z.place.label m)) sc u) ≡ (if b then done (js.ends js.normally sc u) else done (js.ends (js.breaks (z.place.label m)) sc u))
  arrive-js l m b sc u e = ap (λ (b : Bool). if b then done (js.ends js.normally sc u) else done (js.ends (js.breaks (z.place.label m)) sc u)) e

  label-other : (l m : List ℕ) → pointwise nat_eq m l ≡ false → pointwise nat_eq (z.place.label m) (z.place.label l) ≡ false
  label-other l m e = differs (z.place.label m) (z.place.label l) (λ h. impossible (sym (subst (λ x. pointwise nat_eq x l ≡ false) (lawful.base.names.labels m l h) e) ∙ equals l))

  label-same : (l m : List ℕ) → pointwise nat_eq m l ≡ true → pointwise nat_eq (z.place.label m) (z.place.label l) ≡ true
  label-same l m e = subst (λ x. pointwise nat_eq (z.place.label m) (z.place.label x) ≡ true) (is-equal m l e) (equals (z.place.label m))

  -- what leaves to a label has come to the labelled block, which is no end of the function
  arrive_block : (c : Context) (l : List ℕ) (k : Destination) (plain : (t : IrType) → k ≡ to_result t → ⊥) (w : World) (sc : js.Scope) (a : ir.Ended) (b : js.StatementEnd) → Came z.place z.code (labelling c l k) c.scope k w sc a b → Sim z.direction (Came z.place z.code c c.scope k w sc) (ir_meaning.arrive l a) (js_meaning.arrive (z.place.label l) b)
  arrive_block c l k plain w sc _ _ (stopped y env s sc' u t g r ks same) = sim_done z.direction (Came z.place z.code c c.scope k w sc) (ir.ends ir.stops env s) (js.ends js.breaks_nearest sc' u) (stopped y env s sc' u t g r ks same)
  arrive_block c l k plain w sc _ _ (threw y v x env s sc' u g a r ks same) = sim_done z.direction (Came z.place z.code c c.scope k w sc) (ir.ends (ir.throws v) env s) (js.ends (js.thrown_with x) sc' u) (threw y v x env s sc' u g a r ks same)
  arrive_block c l k plain w sc _ _ (gave y v env s sc' u e g a r ks same) = passes k e a refl
    where
      passes : (d : Destination) (e : js.Completion) → Arrives z.place y v sc' js.normally d e → k ≡ d → Sim z.direction (Came z.place z.code c c.scope k w sc) (done (ir.ends (ir.gives v) env s)) (js_meaning.arrive (z.place.label l) (js.ends e sc' u))
      passes _ _ let_go q = sim_done z.direction (Came z.place z.code c c.scope k w sc) (ir.ends (ir.gives v) env s) (js.ends js.normally sc' u) (gave y v env s sc' u js.normally g (subst (λ d. Arrives z.place y v sc' js.normally d js.normally) (sym q) let_go) r ks same)
      passes _ _ (stored x t j i h) q = sim_done z.direction (Came z.place z.code c c.scope k w sc) (ir.ends (ir.gives v) env s) (js.ends js.normally sc' u) (gave y v env s sc' u js.normally g (subst (λ d. Arrives z.place y v sc' js.normally d js.normally) (sym q) (stored x t j i h)) r ks same)
      passes _ _ (returned t j i) q = absurd (plain t q)
  arrive_block c l k plain w sc _ _ (left y m v env s sc' u e reach g a r ks same) = go (pointwise nat_eq m l) refl
    where
      comes : Keeps z.place (Less c.kept k) sc sc' → (d : Destination) (e : js.Completion) → Arrives z.place y v sc' (js.breaks (z.place.label m)) d e → k ≡ d → pointwise nat_eq (z.place.label m) (z.place.label l) ≡ true → Sim z.direction (Came z.place z.code c c.scope k w sc) (done (ir.ends (ir.gives v) env s)) (js_meaning.arrive (z.place.label l) (js.ends e sc' u))
      comes held _ _ let_go q h = subst (λ o. Sim z.direction (Came z.place z.code c c.scope k w sc) (done (ir.ends (ir.gives v) env s)) o) (sym (arrive-js l m true sc' u h)) (sim_done z.direction (Came z.place z.code c c.scope k w sc) (ir.ends (ir.gives v) env s) (js.ends js.normally sc' u) (gave y v env s sc' u js.normally g (subst (λ d. Arrives z.place y v sc' js.normally d js.normally) (sym q) let_go) r held same))
      comes held _ _ (stored x t j i f) q h = subst (λ o. Sim z.direction (Came z.place z.code c c.scope k w sc) (done (ir.ends (ir.gives v) env s)) o) (sym (arrive-js l m true sc' u h)) (sim_done z.direction (Came z.place z.code c c.scope k w sc) (ir.ends (ir.gives v) env s) (js.ends js.normally sc' u) (gave y v env s sc' u js.normally g (subst (λ d. Arrives z.place y v sc' js.normally d js.normally) (sym q) (stored x t j i f)) r held same))
      comes held _ _ (returned t j i) q h = absurd (plain t q)

      goes_on : c.reaches m → Keeps z.place (Less c.kept (target_of c.targets m)) sc sc' → (d : Destination) (e : js.Completion) → Arrives z.place y v sc' (js.breaks (z.place.label m)) d e → target_of c.targets m ≡ d → pointwise nat_eq (z.place.label m) (z.place.label l) ≡ false → Sim z.direction (Came z.place z.code c c.scope k w sc) (done (ir.ends (ir.leaves m v) env s)) (js_meaning.arrive (z.place.label l) (js.ends e sc' u))
      goes_on reach held _ _ let_go q h = subst (λ o. Sim z.direction (Came z.place z.code c c.scope k w sc) (done (ir.ends (ir.leaves m v) env s)) o) (sym (arrive-js l m false sc' u h)) (sim_done z.direction (Came z.place z.code c c.scope k w sc) (ir.ends (ir.leaves m v) env s) (js.ends (js.breaks (z.place.label m)) sc' u) (left y m v env s sc' u (js.breaks (z.place.label m)) reach g (subst (λ d. Arrives z.place y v sc' (js.breaks (z.place.label m)) d (js.breaks (z.place.label m))) (sym q) let_go) r held same))
      goes_on reach held _ _ (stored x t j i f) q h = subst (λ o. Sim z.direction (Came z.place z.code c c.scope k w sc) (done (ir.ends (ir.leaves m v) env s)) o) (sym (arrive-js l m false sc' u h)) (sim_done z.direction (Came z.place z.code c c.scope k w sc) (ir.ends (ir.leaves m v) env s) (js.ends (js.breaks (z.place.label m)) sc' u) (left y m v env s sc' u (js.breaks (z.place.label m)) reach g (subst (λ d. Arrives z.place y v sc' (js.breaks (z.place.label m)) d (js.breaks (z.place.label m))) (sym q) (stored x t j i f)) r held same))
      goes_on reach held _ _ (returned t j i) q h = sim_done z.direction (Came z.place z.code c c.scope k w sc) (ir.ends (ir.leaves m v) env s) (js.ends (js.returns j) sc' u) (left y m v env s sc' u (js.returns j) reach g (subst (λ d. Arrives z.place y v sc' (js.breaks (z.place.label m)) d (js.returns j)) (sym q) (returned t j i)) r held same)

      go : (b : Bool) → pointwise nat_eq m l ≡ b → Sim z.direction (Came z.place z.code c c.scope k w sc) (ir_meaning.arrive l (ir.ends (ir.leaves m v) env s)) (js_meaning.arrive (z.place.label l) (js.ends e sc' u))
      go true h = subst (λ (b : Bool). Sim z.direction (Came z.place z.code c c.scope k w sc) (if b then ir.given v env s else done (ir.ends (ir.leaves m v) env s)) (js_meaning.arrive (z.place.label l) (js.ends e sc' u))) (sym h) (comes (subst (λ d. Keeps z.place (Less c.kept d) sc sc') (same_target c l m k h) ks) (target_of (record { label = l; goes_to = k } ∷ c.targets) m) e a (sym (same_target c l m k h)) (label-same l m h))
      go false h = subst (λ (b : Bool). Sim z.direction (Came z.place z.code c c.scope k w sc) (if b then ir.given v env s else done (ir.ends (ir.leaves m v) env s)) (js_meaning.arrive (z.place.label l) (js.ends e sc' u))) (sym h) (goes_on (past_label c l m h reach) (subst (λ d. Keeps z.place (Less c.kept d) sc sc') (other_target c l m k h) ks) (target_of (record { label = l; goes_to = k } ∷ c.targets) m) e a (sym (other_target c l m k h)) (label-other l m h))

  -- the same where the labelled block is the end of the function, and so has no label in the emitted code
  result_type : (s t : IrType) → to_result s ≡ to_result t → s ≡ t
  result_type s t e = cc

  arrive_end : (c : Context) (l : List ℕ) (t : IrType) (w : World) (sc : js.Scope) (a : ir.Ended) (b : js.StatementEnd) → Came z.place z.code (labelling c l (to_result t)) c.scope (to_result t) w sc a b → Sim z.direction (Came z.place z.code c c.scope (to_result t) w sc) (ir_meaning.arrive l a) (done b)
  arrive_end c l t w sc _ _ (stopped y env s sc' u h g r ks same) = sim_done z.direction (Came z.place z.code c c.scope (to_result t) w sc) (ir.ends ir.stops env s) (js.ends js.breaks_nearest sc' u) (stopped y env s sc' u h g r ks same)
  arrive_end c l t w sc _ _ (threw y v x env s sc' u g a r ks same) = sim_done z.direction (Came z.place z.code c c.scope (to_result t) w sc) (ir.ends (ir.throws v) env s) (js.ends (js.thrown_with x) sc' u) (threw y v x env s sc' u g a r ks same)
  arrive_end c l t w sc _ _ (gave y v env s sc' u e g a r ks same) = sim_done z.direction (Came z.place z.code c c.scope (to_result t) w sc) (ir.ends (ir.gives v) env s) (js.ends e sc' u) (gave y v env s sc' u e g a r ks same)
  arrive_end c l t w sc _ _ (left y m v env s sc' u e reach g a r ks same) = go (pointwise nat_eq m l) refl
    where
      comes : (d : Destination) (e : js.Completion) → Arrives z.place y v sc' (js.breaks (z.place.label m)) d e → to_result t ≡ d → Arrives z.place y v sc' js.normally (to_result t) e
      comes _ _ let_go q = absurd (cc)
      comes _ _ (stored x i j f h) q = absurd (cc)
      comes _ _ (returned i j f) q = returned t j (subst (λ n. SameValue y n v j) (sym (result_type t i q)) f)

      go : (b : Bool) → pointwise nat_eq m l ≡ b → Sim z.direction (Came z.place z.code c c.scope (to_result t) w sc) (ir_meaning.arrive l (ir.ends (ir.leaves m v) env s)) (done (js.ends e sc' u))
      go true h = subst (λ (b : Bool). Sim z.direction (Came z.place z.code c c.scope (to_result t) w sc) (if b then ir.given v env s else done (ir.ends (ir.leaves m v) env s)) (done (js.ends e sc' u))) (sym h) (sim_done z.direction (Came z.place z.code c c.scope (to_result t) w sc) (ir.ends (ir.gives v) env s) (js.ends e sc' u) (gave y v env s sc' u e g (comes (target_of (record { label = l; goes_to = to_result t } ∷ c.targets) m) e a (sym (same_target c l m (to_result t) h))) r (subst (λ d. Keeps z.place (Less c.kept d) sc sc') (same_target c l m (to_result t) h) ks) same))
      go false h = subst (λ (b : Bool). Sim z.direction (Came z.place z.code c c.scope (to_result t) w sc) (if b then ir.given v env s else done (ir.ends (ir.leaves m v) env s)) (done (js.ends e sc' u))) (sym h) (sim_done z.direction (Came z.place z.code c c.scope (to_result t) w sc) (ir.ends (ir.leaves m v) env s) (js.ends e sc' u) (left y m v env s sc' u e (past_label c l m h reach) g (subst (λ d. Arrives z.place y v sc' (js.breaks (z.place.label m)) d e) (other_target c l m (to_result t) h) a) r (subst (λ d. Keeps z.place (Less c.kept d) sc sc') (other_target c l m (to_result t) h) ks) same))

  block_labeled : (c : Context) (l : List ℕ) (k : Destination) (plain : (t : IrType) → k ≡ to_result t → ⊥) (p : Position) (r : ir.Run) (code : Code) → Sound z.is_mutable (labelling c l k) → Writes c.written k → Undeclared (labelling c l k) code.statements → ((w : World) (env : ir.Env) (s : ir.State) (sc : js.Scope) (u : js.State) → Ready z.place z.code c.scope c.writable w env sc → SameState z.place w s u → Sim z.direction (Came z.place z.code (labelling c l k) c.scope k w sc) (r env s) (run z code.statements sc u)) → (w : World) (env : ir.Env) (s : ir.State) (sc : js.Scope) (u : js.State) → Ready z.place z.code c.scope c.writable w env sc → SameState z.place w s u → Ends z lawful c c.scope k w sc (then_do (r env s) (ir_meaning.arrive l)) (core.statement (core.labeled_of (Some p) l code.statements) core.no_statements) sc u
  block_labeled c l k plain p r code sound wr free does w env s sc u ready same = ends-one z lawful c c.scope k w sc (then_do (r env s) (ir_meaning.arrive l)) (core.labeled_of (Some p) l code.statements) sc u (sim_then z.direction (Came z.place z.code (labelling c l k) c.scope k w sc) (Came z.place z.code c c.scope k w sc) (r env s) (js_meaning.in_block (statement_templates z.place.name z.place.label (usable z).lookup code.statements) (run z code.statements) sc u) (ir_meaning.arrive l) (js_meaning.arrive (z.place.label l)) (block_alike z lawful (labelling c l k) code.statements free k w env sc u (r env s) sound wr ready (λ inner. does w env s (js_meaning.enter (statement_templates z.place.name z.place.label (usable z).lookup code.statements) sc) u inner same)) (arrive_block c l k plain w sc))

  pub labeled_alike : (c : Context) (l : List ℕ) (k : Destination) (p : Position) (r : ir.Run) (code : Code) → Sound z.is_mutable (labelling c l k) → Writes c.written k → Undeclared (labelling c l k) code.statements → ((w : World) (env : ir.Env) (s : ir.State) (sc : js.Scope) (u : js.State) → Ready z.place z.code c.scope c.writable w env sc → SameState z.place w s u → Sim z.direction (Came z.place z.code (labelling c l k) c.scope k w sc) (r env s) (run z code.statements sc u)) → (w : World) (env : ir.Env) (s : ir.State) (sc : js.Scope) (u : js.State) → Ready z.place z.code c.scope c.writable w env sc → SameState z.place w s u → Ends z lawful c c.scope k w sc (then_do (r env s) (ir_meaning.arrive l)) (labeled_code k p l code).statements sc u
  labeled_alike c l discard p r code sound wr free does w env s sc u ready same = block_labeled c l discard (λ t e. absurd (cc)) p r code sound wr free does w env s sc u ready same
  labeled_alike c l (to_variable x i) p r code sound wr free does w env s sc u ready same = block_labeled c l (to_variable x i) (λ t e. absurd (cc)) p r code sound wr free does w env s sc u ready same
  labeled_alike c l (to_result t) p r code sound wr free does w env s sc u ready same = subst (λ o. Sim z.direction (Came z.place z.code c c.scope (to_result t) w sc) (then_do (r env s) (ir_meaning.arrive l)) o) (then_do-right (run z code.statements sc u)) (sim_then z.direction (Came z.place z.code (labelling c l (to_result t)) c.scope (to_result t) w sc) (Came z.place z.code c c.scope (to_result t) w sc) (r env s) (run z code.statements sc u) (ir_meaning.arrive l) done (does w env s sc u ready same) (arrive_end c l t w sc))

  -- a return to a label: the value has come where it goes, and the jump behind it
  abbrev leaving : List ℕ → ir.Ended → Out ir.Ended
  leaving l = ir.onward (λ v. ir_meaning.in_order [] (λ vs. ir_meaning.leave l (v ∷ vs)))

  jump : (c : Context) (k : Destination) (p : Position) (l : List ℕ) (w : World) (sc : js.Scope) (d : Destination) → target_of c.targets l ≡ d → c.reaches l → ((t : IrType) → d ≡ to_result t → ⊥) → (a : ir.Ended) (b : js.StatementEnd) → Came z.place z.code c c.scope d w sc a b → Sim z.direction (Came z.place z.code c c.scope k w sc) (leaving l a) (js.next_statement (run z (core.statement (core.leave_label (Some p) l) core.no_statements)) b)
  jump c k p l w sc d t own plain _ _ (stopped y env s sc' u h g r ks same) = sim_done z.direction (Came z.place z.code c c.scope k w sc) (ir.ends ir.stops env s) (js.ends js.breaks_nearest sc' u) (stopped y env s sc' u h g r ks same)
  jump c k p l w sc d t own plain _ _ (left y m v env s sc' u e reach g a r ks same) = leaves_on z lawful c c.scope k w sc (run z (core.statement (core.leave_label (Some p) l) core.no_statements)) y m v env s sc' u e (target_of c.targets m) refl reach g a r ks same
  jump c k p l w sc d t own plain _ _ (threw y v x env s sc' u g a r ks same) = sim_done z.direction (Came z.place z.code c c.scope k w sc) (ir.ends (ir.throws v) env s) (js.ends (js.thrown_with x) sc' u) (threw y v x env s sc' u g a r ks same)
  jump c k p l w sc d t own plain _ _ (gave y v env s sc' u e g a r ks same) = passes (subst (λ d. Keeps z.place (Less c.kept d) sc sc') (sym t) ks) d e a t plain
    where
      passes : Keeps z.place (Less c.kept (target_of c.targets l)) sc sc' → (d : Destination) (e : js.Completion) → Arrives z.place y v sc' js.normally d e → target_of c.targets l ≡ d → ((t : IrType) → d ≡ to_result t → ⊥) → Sim z.direction (Came z.place z.code c c.scope k w sc) (done (ir.ends (ir.leaves l v) env s)) (js.next_statement (run z (core.statement (core.leave_label (Some p) l) core.no_statements)) (js.ends e sc' u))
      passes held _ _ let_go q plain = sim_done z.direction (Came z.place z.code c c.scope k w sc) (ir.ends (ir.leaves l v) env s) (js.ends (js.breaks (z.place.label l)) sc' u) (left y l v env s sc' u (js.breaks (z.place.label l)) own g (subst (λ d. Arrives z.place y v sc' (js.breaks (z.place.label l)) d (js.breaks (z.place.label l))) (sym q) let_go) r held same)
      passes held _ _ (stored x i j f h) q plain = sim_done z.direction (Came z.place z.code c c.scope k w sc) (ir.ends (ir.leaves l v) env s) (js.ends (js.breaks (z.place.label l)) sc' u) (left y l v env s sc' u (js.breaks (z.place.label l)) own g (subst (λ d. Arrives z.place y v sc' (js.breaks (z.place.label l)) d (js.breaks (z.place.label l))) (sym q) (stored x i j f h)) r held same)
      passes held _ _ (returned i j f) q plain = absurd (plain i refl)

  jump_end : (c : Context) (k : Destination) (l : List ℕ) (w : World) (sc : js.Scope) (i : IrType) → target_of c.targets l ≡ to_result i → c.reaches l → (a : ir.Ended) (b : js.StatementEnd) → Came z.place z.code c c.scope (to_result i) w sc a b → Sim z.direction (Came z.place z.code c c.scope k w sc) (leaving l a) (done b)
  jump_end c k l w sc i t own _ _ (stopped y env s sc' u h g r ks same) = sim_done z.direction (Came z.place z.code c c.scope k w sc) (ir.ends ir.stops env s) (js.ends js.breaks_nearest sc' u) (stopped y env s sc' u h g r ks same)
  jump_end c k l w sc i t own _ _ (left y m v env s sc' u e reach g a r ks same) = sim_done z.direction (Came z.place z.code c c.scope k w sc) (ir.ends (ir.leaves m v) env s) (js.ends e sc' u) (left y m v env s sc' u e reach g a r ks same)
  jump_end c k l w sc i t own _ _ (threw y v x env s sc' u g a r ks same) = sim_done z.direction (Came z.place z.code c c.scope k w sc) (ir.ends (ir.throws v) env s) (js.ends (js.thrown_with x) sc' u) (threw y v x env s sc' u g a r ks same)
  jump_end c k l w sc i t own _ _ (gave y v env s sc' u _ g (returned _ j f) r ks same) = sim_done z.direction (Came z.place z.code c c.scope k w sc) (ir.ends (ir.leaves l v) env s) (js.ends (js.returns j) sc' u) (left y l v env s sc' u (js.returns j) own g (subst (λ d. Arrives z.place y v sc' (js.breaks (z.place.label l)) d (js.returns j)) (sym t) (returned i j f)) r (subst (λ d. Keeps z.place (Less c.kept d) sc sc') (sym t) ks) same)

  pub return_alike : (c : Context) (k d : Destination) (p : Position) (l : List ℕ) (r : ir.Run) (code : Code) → target_of c.targets l ≡ d → c.reaches l → (w : World) (env : ir.Env) (s : ir.State) (sc : js.Scope) (u : js.State) → Sim z.direction (Came z.place z.code c c.scope d w sc) (r env s) (run z code.statements sc u) → Ends z lawful c c.scope k w sc (ir_meaning.in_order (r ∷ []) (ir_meaning.leave l) env s) (leaving_code d p l code).statements sc u
  return_alike c k discard p l r code t own w env s sc u alike = subst (λ o. Sim z.direction (Came z.place z.code c c.scope k w sc) (then_do (r env s) (leaving l)) o) (sym (run-followed z code.statements (core.statement (core.leave_label (Some p) l) core.no_statements) sc u)) (sim_then z.direction (Came z.place z.code c c.scope discard w sc) (Came z.place z.code c c.scope k w sc) (r env s) (run z code.statements sc u) (leaving l) (js.next_statement (run z (core.statement (core.leave_label (Some p) l) core.no_statements))) alike (jump c k p l w sc discard t own (λ i e. absurd (cc))))
  return_alike c k (to_variable x i) p l r code t own w env s sc u alike = subst (λ o. Sim z.direction (Came z.place z.code c c.scope k w sc) (then_do (r env s) (leaving l)) o) (sym (run-followed z code.statements (core.statement (core.leave_label (Some p) l) core.no_statements) sc u)) (sim_then z.direction (Came z.place z.code c c.scope (to_variable x i) w sc) (Came z.place z.code c c.scope k w sc) (r env s) (run z code.statements sc u) (leaving l) (js.next_statement (run z (core.statement (core.leave_label (Some p) l) core.no_statements))) alike (jump c k p l w sc (to_variable x i) t own (λ i e. absurd (cc))))
  return_alike c k (to_result i) p l r code t own w env s sc u alike = subst (λ o. Sim z.direction (Came z.place z.code c c.scope k w sc) (then_do (r env s) (leaving l)) o) (then_do-right (run z code.statements sc u)) (sim_then z.direction (Came z.place z.code c c.scope (to_result i) w sc) (Came z.place z.code c c.scope k w sc) (r env s) (run z code.statements sc u) (leaving l) done alike (jump_end c k l w sc i t own))
