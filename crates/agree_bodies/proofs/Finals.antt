-- A try with a finalizer: it runs behind the block however this ends, and what has come to a variable by then is there behind it.
use Rattle.std.proofs.Common.{◌≡◌, ℕ, ◌≤◌, Bool, true, false, List, [], Some, refl, sym, ap, ◌∙◌, subst, ◌⊎◌, inl, inr, ⊎_elim, arith, if◌then◌else◌}
use Rattle.outcomes.specs.Outcome.{Out, done, then_do}
use Rattle.outcomes.specs.Agreement.{Sim}
use Rattle.outcomes.proofs.Sequence.{then_do-right}
use Rattle.outcomes.proofs.Simulation.{sim_done, sim_then}
use Rattle.agree_plain_trees.specs.Meaning as ir_meaning
use Rattle.agree_plain_trees.specs.States as ir
use Rattle.js_mean.specs.Meaning as js_meaning
use Rattle.js_mean.specs.States as js
use Rattle.js_tree.specs.Terms as tree
use Rattle.sj_core.specs.Terms as core
use Rattle.sj_core.specs.Terms.{followed}
use Rattle.sj_names.proofs.Same.{impossible}
use Rattle.agree_early_errors.specs.Desugar.{target_of}
use Rattle.agree_early_errors.specs.Finalizers.{holds_finally, left_labels, each_once, kept, keep_all, give_all_back, finalizer_code}
use Rattle.agree_early_errors.specs.Plain.{is_among}
use Rattle.agree_early_errors.specs.Spill.{Destination, discard, to_variable, to_result, Code}
use Rattle.agree_early_errors.specs.Templates.{statement_templates}
use Rattle.agree_early_errors.specs.Locals.{Scope}
use Rattle.agree_early_errors.proofs.Declared.{Declares}
use Rattle.sj_trees.specs.Term.{Term}
use Rattle.sj_trees.specs.declared.positions.Position.{Position}
use Rattle.sj_trees.specs.declared.types.IrType.TheVariants.{Any}
use Rattle.agree_plain_trees.specs.Settings.{Receiving, Setting, run, SameState, Lawful, Holding, usable}
use Rattle.agree_plain_trees.proofs.Worlds.{World, Grows, grows-trans, SameValue, value-lift}
use Rattle.agree_bodies.proofs.Blocks.{Outside, Undeclared, not_declared, entered, enter-ready, leave-ready, block_alike}
use Rattle.agree_bodies.proofs.Contexts.{Context, Writes, writes-more, Sound, Ahead, IsOpen, Ready, Keeps, keeps-trans, keeps-fewer, keeps-all, less-trans, Goes, Less, Arrives, let_go, stored, returned, Came, gave, left, threw, stopped}
use Rattle.agree_bodies.proofs.Saves.{is_in, once_in, in_once, aims_of, label_in, in_label, IsSaved, saved_next, saved_between, saved_numbered, Early, Opened, Saves, keeping, giving, keeping_other, keeping_inside, giving_other, giving_inside, keeping_saves, saves_still, giving_back, keeps_run, gives_run}
use Rattle.agree_bodies.proofs.Statements.{run-followed, ends-one, Ends}

-- the variables to which what leaves the finalizer goes, and those of them that are kept
abbrev pub aims : Context → Term → List core.Variable
aims c f = each_once [] (aims_of (target_of c.targets) (left_labels [] f))

abbrev pub saved : Context → Term → List core.Variable
saved c f = kept (target_of c.targets) f

-- the context of a finalizer whose constants have numbers from this on: it writes the variables to which what leaves it goes, and all variables keep what they
-- hold there but for those that it writes and that are given back behind it
abbrev pub finishing : Context → Term → ℕ → Context
finishing c f j = record {
  scope = c.scope;
  writable = c.writable;
  written = λ y. c.written y × (is_in (aims c f) y ≡ true);
  kept = λ y. (c.kept y ⊎ (c.writable y ⊎ IsSaved (saved c f) j y)) × (c.written y → is_in (saved c f) y ≡ false);
  targets = c.targets;
  reaches = λ l. c.reaches l × (is_among (left_labels [] f) l ≡ true);
  tries = holds_finally f ≡ true;
  turning = c.turning;
}

numbered-named : (x : List ℕ) (k : ℕ) → core.named x ≡ core.numbered k → ⊥
numbered-named x k e = absurd (cc)

receiver-numbered : (k : ℕ) → core.receiver ≡ core.numbered k → ⊥
receiver-numbered k e = absurd (cc)

-- those that are kept are among those to which what leaves goes, and where a try is in the finalizer they are these
saved_step : (b : Bool) (xs : List core.Variable) (y : core.Variable) → is_in (if b then xs else []) y ≡ true → is_in xs y ≡ true
saved_step true xs y h = h
saved_step false xs y h = impossible h

saved_aims : (c : Context) (f : Term) (y : core.Variable) → is_in (saved c f) y ≡ true → is_in (aims c f) y ≡ true
saved_aims c f y h = saved_step (holds_finally f) (aims c f) y h

aims_saved : (c : Context) (f : Term) (y : core.Variable) → holds_finally f ≡ true → is_in (aims c f) y ≡ true → is_in (saved c f) y ≡ true
aims_saved c f y t h = ap (λ (b : Bool). is_in (if b then aims c f else []) y) t ∙ h

aim_written : (q : core.Variable → Type 0) (k : Destination) (y : core.Variable) → Writes q k → Goes k y → q y
aim_written q discard y wr g = absurd g
aim_written q (to_result t) y wr g = absurd g
aim_written q (to_variable x t) y wr g = subst q g wr

aim_there : (q : core.Variable → Type 0) (k : Destination) → ((y : core.Variable) → Goes k y → q y) → Writes q k
aim_there q discard h = tt
aim_there q (to_result t) h = tt
aim_there q (to_variable x t) h = h x refl

module _ (z : Setting) (lawful : Lawful z) (c : Context) (f : Term) (j : ℕ) (sound : Sound z.is_mutable c) (ahead : Ahead c j) where
  aims_writable : (y : core.Variable) → is_in (aims c f) y ≡ true → c.writable y
  aims_writable y h = let l = in_label (target_of c.targets) (left_labels [] f) y (once_in [] (aims_of (target_of c.targets) (left_labels [] f)) y h) in aim_written c.writable (target_of c.targets l.0) y (sound.aims l.0) l.1

  saved_writable : (y : core.Variable) → is_in (saved c f) y ≡ true → c.writable y
  saved_writable y h = aims_writable y (saved_aims c f y h)

  saved_early : Early (saved c f) j
  saved_early y h k l e = ahead.writable k l (subst c.writable e (saved_writable y h))

  aim_in : (l : List ℕ) → is_among (left_labels [] f) l ≡ true → (y : core.Variable) → Goes (target_of c.targets l) y → is_in (aims c f) y ≡ true
  aim_in l r y g = in_once [] (aims_of (target_of c.targets) (left_labels [] f)) y refl (label_in (target_of c.targets) (left_labels [] f) l y r g)

  pub sound-finishing : Sound z.is_mutable (finishing c f j)
  sound-finishing = record {
    hidden = sound.hidden;
    constant = λ x t g m. (inl (sound.constant x t g m), λ wr. absurd (sound.hidden x t (sound.within (core.named x) wr) g));
    changing = λ x t g i m. ⊎_elim (λ h. sound.changing x t g h m) (λ i. ⊎_elim (λ wr. sound.hidden x t wr g) (λ s. let n = saved_numbered (saved c f) j (core.named x) s in numbered-named x n.0 n.2) i) i.0;
    alone = sound.alone;
    within = λ y h. sound.within y h.0;
    aims = sound.aims;
    reached = λ l r. aim_there (λ y. c.written y × (is_in (aims c f) y ≡ true)) (target_of c.targets l) (λ y g. (aim_written c.written (target_of c.targets l) y (sound.reached l r.0) g, aim_in l r.1 y g));
    apart = λ t y k h. impossible (sym (k.1 h.0) ∙ aims_saved c f y t h.1);
    receiver = (inl sound.receiver, λ wr. absurd (sound.received (sound.within core.receiver wr)));
    received = sound.received;
  }

  abbrev pub next : ℕ
  next = (keep_all (saved c f) j).next

  pub ahead-finishing : Ahead (finishing c f j) next
  ahead-finishing = record {
    writable = λ k l wr. let n = saved_next (saved c f) j in ahead.writable k (omega arith) wr;
    kept = λ k l i. let n = saved_next (saved c f) j in ⊎_elim (λ h. ahead.kept k (omega arith) h) (λ i. ⊎_elim (λ wr. ahead.writable k (omega arith) wr) (λ s. let b = saved_between (saved c f) j k s in let m = b.1 in absurd (omega arith)) i) i.0;
  }

  pub outside-finishing : (own : List ℕ → Type 0) → Outside c own → Outside (finishing c f j) own
  outside-finishing own out = record {
    scope = out.scope;
    writable = out.writable;
    kept = λ x o i. ⊎_elim (λ h. out.kept x o h) (λ i. ⊎_elim (λ wr. out.writable x o wr) (λ s. let n = saved_numbered (saved c f) j (core.named x) s in numbered-named x n.0 n.2) i) i.0;
  }

  -- how the statements of a finalizer have ended: where they have come to their own end, all that is kept or may be written is as it was
  pub data Finished (from : World) (before : js.Scope) : ir.Ended → js.StatementEnd → Type 0 where
    ended : (w : World) (v : ir.Value) (env : ir.Env) (s : ir.State) (sc : js.Scope) (u : js.State) → Grows from w → Ready z.place z.code c.scope c.writable w env sc → Keeps z.place (λ y. c.kept y ⊎ c.writable y) before sc → SameState z.place w s u → Finished from before (ir.ends (ir.gives v) env s) (js.ends js.normally sc u)
    cut_left : (w : World) (l : List ℕ) (v : ir.Value) (env : ir.Env) (s : ir.State) (sc : js.Scope) (u : js.State) (e : js.Completion) → c.reaches l → Grows from w → Arrives z.place w v sc (js.breaks (z.place.label l)) (target_of c.targets l) e → Ready z.place z.code c.scope c.writable w env sc → Keeps z.place (Less c.kept (target_of c.targets l)) before sc → SameState z.place w s u → Finished from before (ir.ends (ir.leaves l v) env s) (js.ends e sc u)
    cut_thrown : (w : World) (v : ir.Value) (x : js.Value) (env : ir.Env) (s : ir.State) (sc : js.Scope) (u : js.State) → Grows from w → SameValue w Any v x → Ready z.place z.code c.scope c.writable w env sc → Keeps z.place c.kept before sc → SameState z.place w s u → Finished from before (ir.ends (ir.throws v) env s) (js.ends (js.thrown_with x) sc u)
    cut_stopped : (w : World) (env : ir.Env) (s : ir.State) (sc : js.Scope) (u : js.State) → c.turning → Grows from w → Ready z.place z.code c.scope c.writable w env sc → Keeps z.place c.kept before sc → SameState z.place w s u → Finished from before (ir.ends ir.stops env s) (js.ends js.breaks_nearest sc u)

  -- what leaves by a jump passes by what comes behind
  passes_on : (from : World) (before : js.Scope) (second : js.Execution) (w : World) (l : List ℕ) (v : ir.Value) (env : ir.Env) (s : ir.State) (sc : js.Scope) (u : js.State) (e : js.Completion) (d : Destination) → target_of c.targets l ≡ d → c.reaches l → Grows from w → Arrives z.place w v sc (js.breaks (z.place.label l)) d e → Ready z.place z.code c.scope c.writable w env sc → Keeps z.place (Less c.kept (target_of c.targets l)) before sc → SameState z.place w s u → Sim z.direction (Finished from before) (done (ir.ends (ir.leaves l v) env s)) (js.next_statement second (js.ends e sc u))
  passes_on from before second w l v env s sc u _ _ t reach g let_go r ks same = sim_done z.direction (Finished from before) (ir.ends (ir.leaves l v) env s) (js.ends (js.breaks (z.place.label l)) sc u) (cut_left w l v env s sc u (js.breaks (z.place.label l)) reach g (subst (λ d. Arrives z.place w v sc (js.breaks (z.place.label l)) d (js.breaks (z.place.label l))) (sym t) let_go) r ks same)
  passes_on from before second w l v env s sc u _ _ t reach g (stored x i q a h) r ks same = sim_done z.direction (Finished from before) (ir.ends (ir.leaves l v) env s) (js.ends (js.breaks (z.place.label l)) sc u) (cut_left w l v env s sc u (js.breaks (z.place.label l)) reach g (subst (λ d. Arrives z.place w v sc (js.breaks (z.place.label l)) d (js.breaks (z.place.label l))) (sym t) (stored x i q a h)) r ks same)
  passes_on from before second w l v env s sc u _ _ t reach g (returned i q a) r ks same = sim_done z.direction (Finished from before) (ir.ends (ir.leaves l v) env s) (js.ends (js.returns q) sc u) (cut_left w l v env s sc u (js.returns q) reach g (subst (λ d. Arrives z.place w v sc (js.breaks (z.place.label l)) d (js.returns q)) (sym t) (returned i q a)) r ks same)

  -- where a try with a finalizer may stand, what is kept there is kept in the finalizer
  module _ (tries : c.tries) where
    kept_there : (y : core.Variable) → c.kept y → (finishing c f j).kept y
    kept_there y k = (inl k, λ wr. absurd (sound.apart tries y k wr))

    unnumbered : (y : core.Variable) → c.kept y ⊎ c.writable y → (k : ℕ) → j ≤ k → y ≡ core.numbered k → ⊥
    unnumbered y h k l e = ⊎_elim (λ i. ahead.kept k l (subst c.kept e i)) (λ i. ahead.writable k l (subst c.writable e i)) h

    -- what comes behind the constants is in a scope that is ready
    keeping_ready : (w : World) (env : ir.Env) (sc : js.Scope) → Ready z.place z.code c.scope c.writable w env sc → Ready z.place z.code c.scope c.writable w env (keeping z lawful (saved c f) j sc)
    keeping_ready w env sc r = record {
      sees = record { inside = keeping_inside z lawful (saved c f) j sc r.sees.inside; this = subst (Receiving w z.code.owner env.this_value) (sym (keeping_other z lawful (saved c f) j sc core.receiver (λ k l e. receiver-numbered k e))) r.sees.this; sure = r.sees.sure; locals = λ x t i. subst (Holding w t (env.locals x)) (sym (keeping_other z lawful (saved c f) j sc (core.named x) (λ k l e. numbered-named x k e))) (r.sees.locals x t i) };
      «open» = λ y i. record { value = (r.«open» y i).value; is = keeping_other z lawful (saved c f) j sc y (unnumbered y (inr i)) ∙ (r.«open» y i).is };
    }

    opened_there : (env : ir.Env) (w : World) (sc : js.Scope) → Ready z.place z.code c.scope c.writable w env sc → Opened z lawful (saved c f) sc
    opened_there env w sc r y h = r.«open» y (saved_writable y h)

    module _ (from : World) (before : js.Scope) (opened : Opened z lawful (saved c f) before) where
      -- the scope behind the constants
      abbrev kept_scope : js.Scope
      kept_scope = keeping z lawful (saved c f) j before

      -- the scope behind what is given back
      abbrev given_scope : js.Scope → js.Scope
      given_scope sc = giving z lawful (saved c f) j sc

      saves_before : Saves z lawful (saved c f) j before kept_scope
      saves_before = keeping_saves z lawful (saved c f) j before before (λ y h. refl) saved_early

      saves_there : (sc : js.Scope) → Keeps z.place (finishing c f j).kept kept_scope sc → Saves z lawful (saved c f) j before sc
      saves_there sc ks = saves_still z lawful (saved c f) j before kept_scope sc (λ y s. ks.same y (inr (inr s), λ wr. let n = saved_numbered (saved c f) j y s in absurd (ahead.writable n.0 n.1 (subst c.writable n.2 (sound.within y wr))))) saves_before

      -- what is given back is as it was, and so is all else that is kept or may be written
      as_before : (sc : js.Scope) → Keeps z.place (finishing c f j).kept kept_scope sc → (y : core.Variable) → c.kept y ⊎ c.writable y → (given_scope sc).bindings (z.place.name y) ≡ before.bindings (z.place.name y)
      as_before sc ks y h = go (is_in (saved c f) y) refl
        where
          go : (b : Bool) → is_in (saved c f) y ≡ b → (given_scope sc).bindings (z.place.name y) ≡ before.bindings (z.place.name y)
          go true e = giving_back z lawful (saved c f) j before sc (saves_there sc ks) saved_early opened y e
          go false e = giving_other z lawful (saved c f) j sc y e ∙ ks.same y (⊎_elim (λ i. inl i) (λ i. inr (inl i)) h, λ wr. e) ∙ keeping_other z lawful (saved c f) j before y (unnumbered y h)

      not_saved : (y : core.Variable) → (c.writable y → ⊥) → is_in (saved c f) y ≡ false
      not_saved y h = go (is_in (saved c f) y) refl
        where
          go : (b : Bool) → is_in (saved c f) y ≡ b → is_in (saved c f) y ≡ false
          go true e = absurd (h (saved_writable y e))
          go false e = e

      giving_ready : (w : World) (env : ir.Env) (sc : js.Scope) → ((y : core.Variable) → c.writable y → IsOpen (before.bindings (z.place.name y))) → Keeps z.place (finishing c f j).kept kept_scope sc → Ready z.place z.code c.scope c.writable w env sc → Ready z.place z.code c.scope c.writable w env (given_scope sc)
      giving_ready w env sc «open» ks r = record {
        sees = record { inside = giving_inside z lawful (saved c f) j sc r.sees.inside; this = subst (Receiving w z.code.owner env.this_value) (sym (giving_other z lawful (saved c f) j sc core.receiver (not_saved core.receiver sound.received))) r.sees.this; sure = r.sees.sure; locals = λ x t i. subst (Holding w t (env.locals x)) (sym (giving_other z lawful (saved c f) j sc (core.named x) (not_saved (core.named x) (λ wr. sound.hidden x t wr i)))) (r.sees.locals x t i) };
        «open» = λ y i. record { value = («open» y i).value; is = as_before sc ks y (inr i) ∙ («open» y i).is };
      }

      -- what is kept around the finalizer is as it was where it is cut short
      still_kept : (sc : js.Scope) → Keeps z.place (finishing c f j).kept kept_scope sc → Keeps z.place c.kept before sc
      still_kept sc ks = record { same = λ y i. ks.same y (kept_there y i) ∙ keeping_other z lawful (saved c f) j before y (unnumbered y (inl i)) }

      still_kept_less : (k : Destination) (sc : js.Scope) → Keeps z.place (Less (finishing c f j).kept k) kept_scope sc → Keeps z.place (Less c.kept k) before sc
      still_kept_less k sc ks = record { same = λ y i. ks.same y (kept_there y i.0, i.1) ∙ keeping_other z lawful (saved c f) j before y (unnumbered y (inl i.0)) }

      behind_body : (code : ℕ) → ((y : core.Variable) → c.writable y → IsOpen (before.bindings (z.place.name y))) → (a : ir.Ended) (b : js.StatementEnd) → Came z.place z.code (finishing c f j) c.scope discard from kept_scope a b → Sim z.direction (Finished from before) (done a) (js.next_statement (run z (give_all_back (saved c f) j code).statements) b)
      behind_body code «open» _ _ (gave w v env s sc u _ g let_go r ks same) =
          let still : Keeps z.place (finishing c f j).kept kept_scope sc = keeps-all z (finishing c f j).kept kept_scope sc ks in
          subst (λ (o : Out js.StatementEnd). Sim z.direction (Finished from before) (done (ir.ends (ir.gives v) env s)) o) (sym (gives_run z lawful (saved c f) j code before sc u (saves_there sc still) (opened_there env w sc r) saved_early))
          (sim_done z.direction (Finished from before) (ir.ends (ir.gives v) env s) (js.ends js.normally (given_scope sc) u) (ended w v env s (given_scope sc) u g (giving_ready w env sc «open» still r) (record { same = λ y i. as_before sc still y i }) same))
      behind_body code «open» _ _ (left w l v env s sc u e reach g a r ks same) = passes_on from before (run z (give_all_back (saved c f) j code).statements) w l v env s sc u e (target_of c.targets l) refl reach.0 g a r (still_kept_less (target_of c.targets l) sc ks) same
      behind_body code «open» _ _ (threw w v x env s sc u g a r ks same) = sim_done z.direction (Finished from before) (ir.ends (ir.throws v) env s) (js.ends (js.thrown_with x) sc u) (cut_thrown w v x env s sc u g a r (still_kept sc ks) same)
      behind_body code «open» _ _ (stopped w env s sc u t g r ks same) = sim_done z.direction (Finished from before) (ir.ends ir.stops env s) (js.ends js.breaks_nearest sc u) (cut_stopped w env s sc u t g r (still_kept sc ks) same)

    -- the statements of a finalizer, by those of its tree
    abbrev code_of : (ℕ → Code) → Code
    code_of body = finalizer_code (target_of c.targets) f j body

    abbrev BodyDoes : (ℕ → Code) → ir.Run → Type 0
    BodyDoes body run_of = (w : World) (env : ir.Env) (s : ir.State) (sc : js.Scope) (u : js.State) → Ready z.place z.code c.scope c.writable w env sc → SameState z.place w s u → Sim z.direction (Came z.place z.code (finishing c f j) c.scope discard w sc) (run_of env s) (run z (body next).statements sc u)

    code_run : (body : ℕ → Code) (sc : js.Scope) (u : js.State) → Opened z lawful (saved c f) sc → run z (code_of body).statements sc u ≡ then_do (run z (body next).statements (keeping z lawful (saved c f) j sc) u) (js.next_statement (run z (give_all_back (saved c f) j (body next).next).statements))
    code_run body sc u opened = run-followed z (followed (keep_all (saved c f) j).statements (body next).statements) (give_all_back (saved c f) j (body next).next).statements sc u ∙ ap (λ (o : Out js.StatementEnd). then_do o (js.next_statement (run z (give_all_back (saved c f) j (body next).next).statements))) (keeps_run z lawful (saved c f) j (body next).statements sc u opened saved_early)

    code_does : (body : ℕ → Code) (run_of : ir.Run) → BodyDoes body run_of → (w : World) (env : ir.Env) (s : ir.State) (sc : js.Scope) (u : js.State) → Ready z.place z.code c.scope c.writable w env sc → SameState z.place w s u → Sim z.direction (Finished w sc) (run_of env s) (run z (code_of body).statements sc u)
    code_does body run_of does w env s sc u r same =
        let opened : Opened z lawful (saved c f) sc = opened_there env w sc r in
        subst (λ (o : Out js.StatementEnd). Sim z.direction (Finished w sc) (run_of env s) o) (sym (code_run body sc u opened))
        (subst (λ (o : Out ir.Ended). Sim z.direction (Finished w sc) o (then_do (run z (body next).statements (keeping z lawful (saved c f) j sc) u) (js.next_statement (run z (give_all_back (saved c f) j (body next).next).statements)))) (then_do-right (run_of env s))
        (sim_then z.direction (Came z.place z.code (finishing c f j) c.scope discard w (keeping z lawful (saved c f) j sc)) (Finished w sc) (run_of env s) (run z (body next).statements (keeping z lawful (saved c f) j sc) u) done (js.next_statement (run z (give_all_back (saved c f) j (body next).next).statements)) (does w env s (keeping z lawful (saved c f) j sc) u (keeping_ready w env sc r) same) (behind_body w sc opened (body next).next (λ y i. r.«open» y i))))

    -- a block of such statements leaves its constants behind
    module _ (ss : core.Statements) (free : Undeclared c ss) where
      abbrev shown_finalizer : tree.Statements
      shown_finalizer = statement_templates z.place.name z.place.label (usable z).lookup ss

      behind_finalizer : (outer inner : js.Scope) (y : core.Variable) → (Declares ss y → ⊥) → (js_meaning.leave shown_finalizer outer inner).bindings (z.place.name y) ≡ inner.bindings (z.place.name y)
      behind_finalizer outer inner y h = ap (λ (b : Bool). if b then outer.bindings (z.place.name y) else inner.bindings (z.place.name y)) (not_declared z lawful c ss free y h)

      undeclared_there : (y : core.Variable) → c.kept y ⊎ c.writable y → Declares ss y → ⊥
      undeclared_there y h d = ⊎_elim (λ i. free.kept y i d) (λ i. free.writable y i d) h

      leave_keeps : (q : core.Variable → Type 0) (outer inner : js.Scope) → ((y : core.Variable) → q y → c.kept y ⊎ c.writable y) → Keeps z.place q (js_meaning.enter shown_finalizer outer) inner → Keeps z.place q outer (js_meaning.leave shown_finalizer outer inner)
      leave_keeps q outer inner sub ks = record { same = λ y i. behind_finalizer outer inner y (undeclared_there y (sub y i)) ∙ ks.same y i ∙ entered z lawful c ss free outer (z.place.name y) (not_declared z lawful c ss free y (undeclared_there y (sub y i))) }

      leave_arrives : (w : World) (v : ir.Value) (outer inner : js.Scope) (usual : js.Completion) (k : Destination) (e : js.Completion) → Writes c.writable k → Arrives z.place w v inner usual k e → Arrives z.place w v (js_meaning.leave shown_finalizer outer inner) usual k e
      leave_arrives w v outer inner usual _ _ wr let_go = let_go
      leave_arrives w v outer inner usual _ _ wr (stored x t q a h) = stored x t q a (behind_finalizer outer inner x (free.writable x wr) ∙ h)
      leave_arrives w v outer inner usual _ _ wr (returned t q a) = returned t q a

      leaving_does : (w : World) (sc : js.Scope) (a : ir.Ended) (b : js.StatementEnd) → Finished w (js_meaning.enter shown_finalizer sc) a b → Sim z.direction (Finished w sc) (done a) (js_meaning.leaving shown_finalizer sc b)
      leaving_does w sc _ _ (ended y v env s sc' u g r ks same) = sim_done z.direction (Finished w sc) (ir.ends (ir.gives v) env s) (js.ends js.normally (js_meaning.leave shown_finalizer sc sc') u) (ended y v env s (js_meaning.leave shown_finalizer sc sc') u g (leave-ready z lawful c ss free y env sc sc' r) (leave_keeps (λ y. c.kept y ⊎ c.writable y) sc sc' (λ y h. h) ks) same)
      leaving_does w sc _ _ (cut_left y l v env s sc' u e reach g a r ks same) = sim_done z.direction (Finished w sc) (ir.ends (ir.leaves l v) env s) (js.ends e (js_meaning.leave shown_finalizer sc sc') u) (cut_left y l v env s (js_meaning.leave shown_finalizer sc sc') u e reach g (leave_arrives y v sc sc' (js.breaks (z.place.label l)) (target_of c.targets l) e (sound.aims l) a) (leave-ready z lawful c ss free y env sc sc' r) (leave_keeps (Less c.kept (target_of c.targets l)) sc sc' (λ y h. inl h.0) ks) same)
      leaving_does w sc _ _ (cut_thrown y v x env s sc' u g a r ks same) = sim_done z.direction (Finished w sc) (ir.ends (ir.throws v) env s) (js.ends (js.thrown_with x) (js_meaning.leave shown_finalizer sc sc') u) (cut_thrown y v x env s (js_meaning.leave shown_finalizer sc sc') u g a (leave-ready z lawful c ss free y env sc sc' r) (leave_keeps c.kept sc sc' (λ y h. inl h) ks) same)
      leaving_does w sc _ _ (cut_stopped y env s sc' u t g r ks same) = sim_done z.direction (Finished w sc) (ir.ends ir.stops env s) (js.ends js.breaks_nearest (js_meaning.leave shown_finalizer sc sc') u) (cut_stopped y env s (js_meaning.leave shown_finalizer sc sc') u t g (leave-ready z lawful c ss free y env sc sc' r) (leave_keeps c.kept sc sc' (λ y h. inl h) ks) same)

      finalizer_does : (run_of : ir.Run) → ((w : World) (env : ir.Env) (s : ir.State) (sc : js.Scope) (u : js.State) → Ready z.place z.code c.scope c.writable w env sc → SameState z.place w s u → Sim z.direction (Finished w sc) (run_of env s) (run z ss sc u)) → (w : World) (env : ir.Env) (s : ir.State) (sc : js.Scope) (u : js.State) → Ready z.place z.code c.scope c.writable w env sc → SameState z.place w s u → Sim z.direction (Finished w sc) (run_of env s) (js_meaning.in_block shown_finalizer (run z ss) sc u)
      finalizer_does run_of does w env s sc u r same = subst (λ (o : Out ir.Ended). Sim z.direction (Finished w sc) o (js_meaning.in_block shown_finalizer (run z ss) sc u)) (then_do-right (run_of env s)) (sim_then z.direction (Finished w (js_meaning.enter shown_finalizer sc)) (Finished w sc) (run_of env s) (run z ss (js_meaning.enter shown_finalizer sc) u) done (js_meaning.leaving shown_finalizer sc) (does w env s (js_meaning.enter shown_finalizer sc) u (enter-ready z lawful c ss free w env sc r) same) (leaving_does w sc))

    -- behind the block
    module _ (k : Destination) (wr : Writes c.written k) (from : World) (before : js.Scope) where
      abbrev Resumes : World → js.Scope → ir.Kind → js.Completion → Type 0
      Resumes y at kind e = (w : World) (env : ir.Env) (s : ir.State) (sc : js.Scope) (u : js.State) → Grows y w → Ready z.place z.code c.scope c.writable w env sc → Keeps z.place (λ y. c.kept y ⊎ c.writable y) at sc → SameState z.place w s u → Came z.place z.code c c.scope k from before (ir.ends kind env s) (js.ends e sc u)

      abbrev Whole : ir.Ended → js.StatementEnd → Type 0
      Whole = Came z.place z.code c c.scope k from before

      cut_passes : (kind : ir.Kind) (e : js.Completion) (w : World) (l : List ℕ) (v : ir.Value) (env : ir.Env) (s : ir.State) (sc : js.Scope) (u : js.State) (e2 : js.Completion) (d : Destination) → target_of c.targets l ≡ d → c.reaches l → Grows from w → Arrives z.place w v sc (js.breaks (z.place.label l)) d e2 → Ready z.place z.code c.scope c.writable w env sc → Keeps z.place (Less c.kept (target_of c.targets l)) before sc → SameState z.place w s u → Sim z.direction Whole (ir_meaning.resumed kind (ir.ends (ir.leaves l v) env s)) (js_meaning.resumed e (js.ends e2 sc u))
      cut_passes kind e w l v env s sc u _ _ t reach g let_go r ks same = sim_done z.direction Whole (ir.ends (ir.leaves l v) env s) (js.ends (js.breaks (z.place.label l)) sc u) (left w l v env s sc u (js.breaks (z.place.label l)) reach g (subst (λ d. Arrives z.place w v sc (js.breaks (z.place.label l)) d (js.breaks (z.place.label l))) (sym t) let_go) r ks same)
      cut_passes kind e w l v env s sc u _ _ t reach g (stored x i q a h) r ks same = sim_done z.direction Whole (ir.ends (ir.leaves l v) env s) (js.ends (js.breaks (z.place.label l)) sc u) (left w l v env s sc u (js.breaks (z.place.label l)) reach g (subst (λ d. Arrives z.place w v sc (js.breaks (z.place.label l)) d (js.breaks (z.place.label l))) (sym t) (stored x i q a h)) r ks same)
      cut_passes kind e w l v env s sc u _ _ t reach g (returned i q a) r ks same = sim_done z.direction Whole (ir.ends (ir.leaves l v) env s) (js.ends (js.returns q) sc u) (left w l v env s sc u (js.returns q) reach g (subst (λ d. Arrives z.place w v sc (js.breaks (z.place.label l)) d (js.returns q)) (sym t) (returned i q a)) r ks same)

      resumed_alike : (y : World) (at : js.Scope) (kind : ir.Kind) (e : js.Completion) → Grows from y → Keeps z.place c.kept before at → Resumes y at kind e → (a : ir.Ended) (b : js.StatementEnd) → Finished y at a b → Sim z.direction Whole (ir_meaning.resumed kind a) (js_meaning.resumed e b)
      resumed_alike y at kind e g ks resume _ _ (ended w v env s sc u h r kp same) = sim_done z.direction Whole (ir.ends kind env s) (js.ends e sc u) (resume w env s sc u h r kp same)
      resumed_alike y at kind e g ks resume _ _ (cut_left w l v env s sc u e2 reach h a r kp same) = cut_passes kind e w l v env s sc u e2 (target_of c.targets l) refl reach (grows-trans from y w g h) a r (less-trans z c.kept (target_of c.targets l) before at sc ks kp) same
      resumed_alike y at kind e g ks resume _ _ (cut_thrown w v x env s sc u h a r kp same) = sim_done z.direction Whole (ir.ends (ir.throws v) env s) (js.ends (js.thrown_with x) sc u) (threw w v x env s sc u (grows-trans from y w g h) a r (keeps-trans z c.kept before at sc ks kp) same)
      resumed_alike y at kind e g ks resume _ _ (cut_stopped w env s sc u t h r kp same) = sim_done z.direction Whole (ir.ends ir.stops env s) (js.ends js.breaks_nearest sc u) (stopped w env s sc u t (grows-trans from y w g h) r (keeps-trans z c.kept before at sc ks kp) same)

      -- a value that has come to a variable isn't kept there, and is there behind the finalizer
      unchanged : (d : Destination) (at : js.Scope) → Writes c.written d → Keeps z.place (Less c.kept d) before at → Keeps z.place c.kept before at
      unchanged d at wr ks = keeps-fewer z (Less c.kept d) c.kept before at (λ y i. (i, λ g. sound.apart tries y i (aim_written c.written d y wr g))) ks

      still_there : (y w : World) (v : ir.Value) (at sc : js.Scope) (usual : js.Completion) (d : Destination) (e : js.Completion) → Writes c.writable d → Grows y w → Keeps z.place (λ y. c.kept y ⊎ c.writable y) at sc → Arrives z.place y v at usual d e → Arrives z.place w v sc usual d e
      still_there y w v at sc usual _ _ wr g ks let_go = let_go
      still_there y w v at sc usual _ _ wr g ks (stored x t q a h) = stored x t q (value-lift y w t v q g a) (ks.same x (inr wr) ∙ h)
      still_there y w v at sc usual _ _ wr g ks (returned t q a) = returned t q (value-lift y w t v q g a)

      finally_ends : (finalizer : ir.Run) (shown_one : js.Execution) → ((w : World) (env : ir.Env) (s : ir.State) (sc : js.Scope) (u : js.State) → Ready z.place z.code c.scope c.writable w env sc → SameState z.place w s u → Sim z.direction (Finished w sc) (finalizer env s) (shown_one sc u)) → (a : ir.Ended) (b : js.StatementEnd) → Whole a b → Sim z.direction Whole (ir_meaning.finally finalizer a) (js_meaning.finally shown_one b)
      finally_ends finalizer shown_one does _ _ (gave y v env s at u e g a r ks same) = sim_then z.direction (Finished y at) Whole (finalizer env s) (shown_one at u) (ir_meaning.resumed (ir.gives v)) (js_meaning.resumed e) (does y env s at u r same) (resumed_alike y at (ir.gives v) e g (unchanged k at wr ks) (λ w env2 s2 sc u2 h r2 kp same2. gave w v env2 s2 sc u2 e (grows-trans from y w g h) (still_there y w v at sc js.normally k e (writes-more c.written c.writable k sound.within wr) h kp a) r2 (keeps-trans z (Less c.kept k) before at sc ks (keeps-fewer z (λ y. c.kept y ⊎ c.writable y) (Less c.kept k) at sc (λ y i. inl i.0) kp)) same2))
      finally_ends finalizer shown_one does _ _ (left y l v env s at u e reach g a r ks same) = sim_then z.direction (Finished y at) Whole (finalizer env s) (shown_one at u) (ir_meaning.resumed (ir.leaves l v)) (js_meaning.resumed e) (does y env s at u r same) (resumed_alike y at (ir.leaves l v) e g (unchanged (target_of c.targets l) at (sound.reached l reach) ks) (λ w env2 s2 sc u2 h r2 kp same2. left w l v env2 s2 sc u2 e reach (grows-trans from y w g h) (still_there y w v at sc (js.breaks (z.place.label l)) (target_of c.targets l) e (sound.aims l) h kp a) r2 (keeps-trans z (Less c.kept (target_of c.targets l)) before at sc ks (keeps-fewer z (λ y. c.kept y ⊎ c.writable y) (Less c.kept (target_of c.targets l)) at sc (λ y i. inl i.0) kp)) same2))
      finally_ends finalizer shown_one does _ _ (threw y v x env s at u g a r ks same) = sim_then z.direction (Finished y at) Whole (finalizer env s) (shown_one at u) (ir_meaning.resumed (ir.throws v)) (js_meaning.resumed (js.thrown_with x)) (does y env s at u r same) (resumed_alike y at (ir.throws v) (js.thrown_with x) g ks (λ w env2 s2 sc u2 h r2 kp same2. threw w v x env2 s2 sc u2 (grows-trans from y w g h) (value-lift y w Any v x h a) r2 (keeps-trans z c.kept before at sc ks (keeps-fewer z (λ y. c.kept y ⊎ c.writable y) c.kept at sc (λ y i. inl i) kp)) same2))
      finally_ends finalizer shown_one does _ _ (stopped y env s at u t g r ks same) = sim_then z.direction (Finished y at) Whole (finalizer env s) (shown_one at u) (ir_meaning.resumed ir.stops) (js_meaning.resumed js.breaks_nearest) (does y env s at u r same) (resumed_alike y at ir.stops js.breaks_nearest g ks (λ w env2 s2 sc u2 h r2 kp same2. stopped w env2 s2 sc u2 t (grows-trans from y w g h) r2 (keeps-trans z c.kept before at sc ks (keeps-fewer z (λ y. c.kept y ⊎ c.writable y) c.kept at sc (λ y i. inl i) kp)) same2))

    -- a tree whose statements come to this in the context, and those of a finalizer
    pub finally_alike : (k : Destination) (p : Position) (a : core.Statements) (body : ℕ → Code) (first second : ir.Run) → Writes c.written k → Undeclared c a → Undeclared c (code_of body).statements → ((w : World) (env : ir.Env) (s : ir.State) (sc : js.Scope) (u : js.State) → Ready z.place z.code c.scope c.writable w env sc → SameState z.place w s u → Ends z lawful c c.scope k w sc (first env s) a sc u) → BodyDoes body second → (w : World) (env : ir.Env) (s : ir.State) (sc : js.Scope) (u : js.State) → Ready z.place z.code c.scope c.writable w env sc → SameState z.place w s u → Ends z lawful c c.scope k w sc (then_do (first env s) (ir_meaning.finally second)) (core.statement (core.finally_of (Some p) a (code_of body).statements) core.no_statements) sc u
    finally_alike k p a body first second wr free_a free_b does_a does_b w env s sc u ready same =
        let shown_a = statement_templates z.place.name z.place.label (usable z).lookup a in
        let shown_b = statement_templates z.place.name z.place.label (usable z).lookup (code_of body).statements in
        let shown_one : js.Execution = js_meaning.in_block shown_b (run z (code_of body).statements) in
        ends-one z lawful c c.scope k w sc (then_do (first env s) (ir_meaning.finally second)) (core.finally_of (Some p) a (code_of body).statements) sc u
        (sim_then z.direction (Came z.place z.code c c.scope k w sc) (Came z.place z.code c c.scope k w sc) (first env s) (js_meaning.in_block shown_a (run z a) sc u) (ir_meaning.finally second) (js_meaning.finally shown_one)
        (block_alike z lawful c a free_a k w env sc u (first env s) sound wr ready (λ inner. does_a w env s (js_meaning.enter shown_a sc) u inner same))
        (finally_ends k wr w sc second shown_one (finalizer_does (code_of body).statements free_b second (code_does body second does_b))))
