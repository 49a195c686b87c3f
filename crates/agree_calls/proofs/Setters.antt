-- A static field is set: by the IR, and by the function that sets its variable.
use Rattle.std.proofs.Common.{◌≡◌, ℕ, suc, Bool, true, false, List, [], ◌∷◌, Option, Some, refl, sym, ap, ◌∙◌, subst, if◌then◌else◌}
use Rattle.std.specs.Prelude.{◌&&◌}
use Rattle.std.proofs.lemmas.Bool.{and_parts}
use Rattle.agree_bodies.specs.Built.{has_static}
use Rattle.agree_bodies.proofs.Equal.{differs, equals, is-equal}
use Rattle.outcomes.specs.Outcome.{Out, done, then_do}
use Rattle.outcomes.specs.Agreement.{Direction, Sim}
use Rattle.outcomes.proofs.Simulation.{sim_done}
use Rattle.dispatch_laws.specs.Meaning as ir_meaning
use Rattle.dispatch_laws.specs.States as ir
use Rattle.js_mean.specs.Meaning as js_meaning
use Rattle.js_mean.specs.States as js
use Rattle.js_tree.specs.Terms.{Name, no_statements}
use Rattle.dispatch_laws.specs.Templates.{static_name}
use Rattle.sj_names.specs.Same.{is_same_text}
use Rattle.agree_bodies.specs.Settings.{Place, Top, a_static, a_setter, a_cell, cell_name, top_name, top_call, is_usable, TopHolds, IsStaticField, SameState, Holding, holding, Valued, valued}
use Rattle.agree_bodies.proofs.Worlds.{World, grows-refl, SameValue, same_undefined}
use Rattle.sj_trees.specs.declared.types.IrType.{IrType}
use Rattle.sj_trees.specs.declared.types.IrType.TheVariants.{NoType}
use Rattle.array_code.specs.Modules.{with_top}
use Rattle.sj_trees.specs.Types.{class_type}
use Rattle.agree_calls.specs.Worlds.{StaticStands, setter_code}
use Rattle.agree_calls.proofs.Names.{is_static_variable, static_apart}

-- every other binding stays
pub other-stays : (file x : Name) (v : js.Value) (u : js.State) (g y : Name) → is_same_text y x ≡ false → (with_top file x v u).tops g y ≡ u.tops g y
other-stays file x v u g y apart = go (is_same_text g file)
  where
    go : (b : Bool) → (if b then (if is_same_text y x then js.holds false v else u.tops g y) else u.tops g y) ≡ u.tops g y
    go true = ap (λ (t : Bool). if t then js.holds false v else u.tops g y) apart
    go false = refl

-- and it holds the value
pub holds-it : (file x : Name) (v : js.Value) (u : js.State) (g y : Name) → is_same_text g file ≡ true → is_same_text y x ≡ true → (with_top file x v u).tops g y ≡ js.holds false v
holds-it file x v u g y here same = ap (λ (t : Bool). if t then (if is_same_text y x then js.holds false v else u.tops g y) else u.tops g y) here ∙ ap (λ (t : Bool). if t then js.holds false v else u.tops g y) same

module _ (p : Place) (c f : List ℕ) (t : IrType) (stands : StaticStands p c f t) where
  abbrev file : Name
  file = p.home (a_setter c f t)

  abbrev variable : Name
  variable = static_name c f

  -- what a call of the function comes to
  setter_runs : (m : ℕ) (x old : js.Value) (u : js.State) → u.tops (p.home (a_static c f t)) variable ≡ js.holds false old → top_call p (js_meaning.below p.program (suc m)) (a_setter c f t) (x ∷ []) u ≡ done (js.gives js.undefined (with_top file variable x u))
  setter_runs m x old u held =
      ap (λ o. js_meaning.code_call (js_meaning.below p.program (suc m)) file o (x ∷ []) u) stands.sets
      ∙ ap (λ (o : Option Name). behind (js_meaning.assign_top (js_meaning.is_own file o) variable x (js_meaning.top_cell o variable u) scope u)) stands.owned
      ∙ ap (λ (b : Bool). behind (js_meaning.assign_top b variable x (u.tops file variable) scope u)) (equals file)
      ∙ ap (λ (cell : js.Cell). behind (js_meaning.assign_top true variable x cell scope u)) (ap (λ (g : Name). u.tops g variable) (sym stands.beside) ∙ held)
    where
      scope : js.Scope
      scope = js_meaning.function_scope file (setter_code c f) (x ∷ [])

      behind : Out js.StatementEnd → Out js.ExpressionEnd
      behind o = then_do (then_do o (js.next_statement (js_meaning.execute_all p.program (js_meaning.below p.program m) no_statements))) js_meaning.returned

module _ (d : Direction) (p : Place) (all : (g : Name) (c f : List ℕ) (t : IrType) → has_static (p.has g) c f t ≡ true → StaticStands p c f t) (c f : List ℕ) (t : IrType) (stands : StaticStands p c f t) where
  abbrev here : Name
  here = p.home (a_setter c f t)

  abbrev name : Name
  name = static_name c f

  module _ (w : World) (v : ir.Value) (x : js.Value) (s : ir.State) (u : js.State) (alike : SameValue w t v x) (same : SameState p w s u) where
    abbrev after : js.State
    after = with_top here name x u

    top_stays : (g : Name) (top : Top) → is_usable (p.has g) top ≡ true → (b : Bool) → is_static_variable top ≡ b → TopHolds p w.owned top (after.tops (p.home top) (top_name top))
    top_stays g (a_static b n k) l true e = tt
    top_stays g top l false e = subst (TopHolds p w.owned top) (sym (other-stays here name x u (p.home top) (top_name top) (differs (top_name top) name (static_apart top c f e)))) (same.tops g top l)
    top_stays g _ l true e = absurd (cc)

    static_there : (g : Name) (b n : List ℕ) (k : IrType) → has_static (p.has g) b n k ≡ true → Holding w k (ir.with_field c f v s.statics b n) (after.tops (p.home (a_static b n k)) (static_name b n))
    static_there g b n k l = go (is_same_text b c && is_same_text n f) refl
      where
        its : StaticStands p b n k
        its = all g b n k l

        name_is : is_same_text (static_name b n) name ≡ (is_same_text b c && is_same_text n f)
        name_is = stands.field.differ.variables c f b n t k stands.field.field its.field.field

        go : (q : Bool) → (is_same_text b c && is_same_text n f) ≡ q → Holding w k (ir.with_field c f v s.statics b n) (after.tops (p.home (a_static b n k)) (static_name b n))
        go false e = subst (λ o. Holding w k o (after.tops (p.home (a_static b n k)) (static_name b n))) (sym (ap (λ (a : Bool). if a then Some v else s.statics b n) e)) (subst (Holding w k (s.statics b n)) (sym (other-stays here name x u (p.home (a_static b n k)) (static_name b n) (name_is ∙ e))) (same.statics g b n k l))
        go true e = subst (λ o. Holding w k o (after.tops (p.home (a_static b n k)) (static_name b n))) (sym (ap (λ (a : Bool). if a then Some v else s.statics b n) e)) (subst (Holding w k (Some v)) (sym (holds-it here name x u (p.home (a_static b n k)) (static_name b n) home_is (name_is ∙ e))) (holding v x (subst (λ i. SameValue w i v x) type_is alike)))
          where
            class_is : b ≡ c
            class_is = is-equal b c (and_parts (is_same_text b c) (is_same_text n f) e).0

            field_is : n ≡ f
            field_is = is-equal n f (and_parts (is_same_text b c) (is_same_text n f) e).1

            type_is : t ≡ k
            type_is = stands.field.differ.types c f t k stands.field.field (subst (λ y. IsStaticField p.classes y f k) class_is (subst (λ y. IsStaticField p.classes b y k) field_is its.field.field))

            file_is : p.home (a_static b n k) ≡ here
            file_is = ap (λ y. p.home (a_static y n k)) class_is ∙ ap (λ y. p.home (a_static c y k)) field_is ∙ ap (λ y. p.home (a_static c f y)) (sym type_is) ∙ stands.beside

            home_is : is_same_text (p.home (a_static b n k)) here ≡ true
            home_is = ap (λ y. is_same_text y here) file_is ∙ equals here

    states : SameState p w (ir.with_static c f v s) after
    states = record { heaps = same.heaps; tops = λ g top l. top_stays g top l (is_static_variable top) refl; statics = static_there; cells = λ g b l. subst (Holding w (class_type b) (Some (s.cells b))) (sym (other-stays here name x u (p.home (a_cell b)) (cell_name b) (differs (cell_name b) name (static_apart (a_cell b) c f refl)))) (same.cells g b l) }

  pub sets_alike : (g : Name) → has_static (p.has g) c f t ≡ true → (m : ℕ) (w : World) (v : ir.Value) (x : js.Value) (env : ir.Env) (s : ir.State) (u : js.State) → SameValue w t v x → SameState p w s u → Sim d (Valued p w env NoType) (ir_meaning.assign_static c f (v ∷ []) env s) (top_call p (js_meaning.below p.program (suc m)) (a_setter c f t) (x ∷ []) u)
  sets_alike g there m w v x env s u alike same = go (s.statics c f) (u.tops (p.home (a_static c f t)) name) refl refl (same.statics g c f t there)
    where
      go : (o : Option ir.Value) (cell : js.Cell) → s.statics c f ≡ o → u.tops (p.home (a_static c f t)) name ≡ cell → Holding w t o cell → Sim d (Valued p w env NoType) (ir_meaning.assigned (ir_meaning.if_there (s.statics c f) (ir.with_static c f v s)) env s) (top_call p (js_meaning.below p.program (suc m)) (a_setter c f t) (x ∷ []) u)
      go _ _ e held (holding was old a) = subst (λ q. Sim d (Valued p w env NoType) (ir_meaning.assigned (ir_meaning.if_there q (ir.with_static c f v s)) env s) (top_call p (js_meaning.below p.program (suc m)) (a_setter c f t) (x ∷ []) u)) (sym e) (subst (λ q. Sim d (Valued p w env NoType) (done (ir.ends (ir.gives ir.undefined) env (ir.with_static c f v s))) q) (sym (setter_runs p c f t stands m x old u held)) (sim_done d (Valued p w env NoType) (ir.ends (ir.gives ir.undefined) env (ir.with_static c f v s)) (js.gives js.undefined (with_top here name x u)) (valued w ir.undefined js.undefined (ir.with_static c f v s) (with_top here name x u) (grows-refl w) (record { stands = same_undefined; suits = refl; shaped = tt }) (states w v x s u alike same))))
