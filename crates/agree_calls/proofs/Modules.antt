-- The one object of a class is stored and loaded: by the IR, and by the functions that do it.
use Rattle.std.proofs.Common.{◌≡◌, ℕ, suc, Bool, true, false, List, [], ◌∷◌, Option, Some, refl, sym, ap, ◌∙◌, subst, if◌then◌else◌}
use Rattle.agree_bodies.specs.Built.{has_cell}
use Rattle.agree_bodies.proofs.Equal.{differs, equals, is-equal}
use Rattle.agree_bodies.proofs.Objects.{new_alike}
use Rattle.agree_bodies.proofs.Orders.{no_operands}
use Rattle.outcomes.specs.Outcome.{Out, done}
use Rattle.outcomes.specs.Agreement.{Direction, Sim}
use Rattle.outcomes.proofs.Simulation.{sim_done, sim_then}
use Rattle.array_code.proofs.Loading.{instance_made, stores_tell, loads_tell}
use Rattle.array_code.specs.Modules.{with_top, given_in_top, set_top, MakesModule, constructed, loader_code, storer_code}
use Rattle.dispatch_laws.specs.Meaning as ir_meaning
use Rattle.dispatch_laws.specs.Meaning.{without_parameters}
use Rattle.dispatch_laws.specs.States as ir
use Rattle.dispatch_laws.specs.Templates.{static_name}
use Rattle.js_mean.specs.Meaning as js_meaning
use Rattle.js_mean.specs.Operators.{is_strictly_equal}
use Rattle.js_mean.specs.States as js
use Rattle.js_tree.specs.Terms.{Name}
use Rattle.agree_bodies.specs.Desugar.{member}
use Rattle.sj_names.specs.Same.{is_same_text}
use Rattle.sj_names.specs.declared.method_names.Member.{Member}
use Rattle.sj_names.specs.declared.method_names.Namespace.TheVariants.{Constructor}
use Rattle.agree_bodies.specs.Coercions.{is_char}
use Rattle.agree_bodies.specs.Settings.{Place, Code, Setting, Based, Top, a_class, a_constructor, a_static, a_cell, a_loader, a_storer, cell_name, top_name, top_call, links_of, is_usable, TopHolds, SameState, Holding, holding, Valued, valued, thrown}
use Rattle.agree_bodies.proofs.Worlds.{World, grows-refl, SameValue, Stands, same_undefined, same_null, same_boolean, same_char, same_box, same_number, same_long, same_text, same_reference}
use Rattle.sj_trees.specs.Types.{class_type}
use Rattle.sj_trees.specs.declared.types.IrType.TheVariants.{NoType}
use Rattle.agree_calls.specs.Worlds.{CellStands, StoreStands, LoadStands}
use Rattle.agree_calls.proofs.Names.{is_cell, cell_apart}
use Rattle.agree_calls.proofs.Setters.{other-stays, holds-it}

-- the code of the function that loads a class
abbrev pub loading : Place → List ℕ → Code
loading p c = record { file = p.home (a_loader c); owner = []; sure = λ x. false }

module _ (d : Direction) (p : Place) (all : (g : Name) (c : List ℕ) → has_cell (p.has g) c ≡ true → CellStands p c) (c : List ℕ) (its : CellStands p c) where
  abbrev here : Name
  here = p.home (a_cell c)

  abbrev name : Name
  name = cell_name c

  module _ (w : World) (v : ir.Value) (x : js.Value) (s : ir.State) (u : js.State) (alike : SameValue w (class_type c) v x) (same : SameState p w s u) where
    abbrev after : js.State
    after = with_top here name x u

    top_stays : (g : Name) (top : Top) → is_usable (p.has g) top ≡ true → (b : Bool) → is_cell top ≡ b → TopHolds p w.owned top (after.tops (p.home top) (top_name top))
    top_stays g (a_cell b) l true e = tt
    top_stays g top l false e = subst (TopHolds p w.owned top) (sym (other-stays here name x u (p.home top) (top_name top) (differs (top_name top) name (cell_apart top c e)))) (same.tops g top l)
    top_stays g _ l true e = absurd (cc)

    cell_there : (g : Name) (b : List ℕ) → has_cell (p.has g) b ≡ true → Holding w (class_type b) (Some (if is_same_text b c then v else s.cells b)) (after.tops (p.home (a_cell b)) (cell_name b))
    cell_there g b l = go (is_same_text b c) refl
      where
        name_is : is_same_text (cell_name b) name ≡ is_same_text b c
        name_is = its.differ c b its.class (all g b l).class

        go : (q : Bool) → is_same_text b c ≡ q → Holding w (class_type b) (Some (if is_same_text b c then v else s.cells b)) (after.tops (p.home (a_cell b)) (cell_name b))
        go false e = subst (λ o. Holding w (class_type b) (Some o) (after.tops (p.home (a_cell b)) (cell_name b))) (sym (ap (λ (a : Bool). if a then v else s.cells b) e)) (subst (Holding w (class_type b) (Some (s.cells b))) (sym (other-stays here name x u (p.home (a_cell b)) (cell_name b) (name_is ∙ e))) (same.cells g b l))
        go true e = subst (λ o. Holding w (class_type b) (Some o) (after.tops (p.home (a_cell b)) (cell_name b))) (sym (ap (λ (a : Bool). if a then v else s.cells b) e)) (subst (Holding w (class_type b) (Some v)) (sym (holds-it here name x u (p.home (a_cell b)) (cell_name b) home_is (name_is ∙ e))) (holding v x (subst (λ y. SameValue w (class_type y) v x) (sym class_is) alike)))
          where
            class_is : b ≡ c
            class_is = is-equal b c e

            home_is : is_same_text (p.home (a_cell b)) here ≡ true
            home_is = ap (λ y. is_same_text (p.home (a_cell y)) here) class_is ∙ equals here

    -- the value is in the cell on both sides
    states : SameState p w (ir.with_cell c v s) after
    states = record { heaps = same.heaps; tops = λ g top l. top_stays g top l (is_cell top) refl; statics = λ g b n t l. subst (Holding w t (s.statics b n)) (sym (other-stays here name x u (p.home (a_static b n t)) (static_name b n) (differs (static_name b n) name (cell_apart (a_static b n t) c refl)))) (same.statics g b n t l); cells = cell_there }

  module _ (g : Name) (there : has_cell (p.has g) c ≡ true) where
    -- the variable can be set
    can_set : (w : World) (x given : js.Value) (s : ir.State) (u : js.State) → SameState p w s u → set_top here name x given u ≡ done (js.gives given (with_top here name x u))
    can_set w x given s u same = go (Some (s.cells c)) (u.tops here name) (same.cells g c there)
      where
        go : (o : Option ir.Value) (cell : js.Cell) → Holding w (class_type c) o cell → given_in_top here name x u cell given ≡ done (js.gives given (with_top here name x u))
        go _ _ (holding v y a) = refl

    pub stores_alike : StoreStands p c → (m : ℕ) (w : World) (v : ir.Value) (x : js.Value) (env : ir.Env) (s : ir.State) (u : js.State) → SameValue w (class_type c) v x → SameState p w s u → Sim d (Valued p w env NoType) (ir_meaning.store c (v ∷ []) env s) (top_call p (js_meaning.below p.program (suc m)) (a_storer c) (x ∷ []) u)
    stores_alike st m w v x env s u alike same = subst (Sim d (Valued p w env NoType) (ir_meaning.store c (v ∷ []) env s)) (sym runs) (sim_done d (Valued p w env NoType) (ir.ends (ir.gives ir.undefined) env (ir.with_cell c v s)) (js.gives js.undefined (with_top here name x u)) (valued w ir.undefined js.undefined (ir.with_cell c v s) (with_top here name x u) (grows-refl w) (record { stands = same_undefined; suits = refl; shaped = tt }) (states w v x s u alike same)))
      where
        runs : top_call p (js_meaning.below p.program (suc m)) (a_storer c) (x ∷ []) u ≡ done (js.gives js.undefined (with_top here name x u))
        runs = ap (λ o. js_meaning.code_call (js_meaning.below p.program (suc m)) (p.home (a_storer c)) o (x ∷ []) u) st.stores ∙ ap (λ f. js_meaning.code_call (js_meaning.below p.program (suc m)) f (Some (storer_code c)) (x ∷ []) u) st.beside ∙ stores_tell p.program m here c x u its.owned ∙ can_set w x js.undefined s u same

    module _ (st : LoadStands p c) (low : ir_meaning.Low) (m : ℕ) where
      -- what the function that loads it is within one unit less
      abbrev z : Setting
      z = record { place = p; code = loading p c; direction = d; is_mutable = λ x. false; low = low; js_low = js_meaning.below p.program m }

      abbrev its_constructor : Member
      its_constructor = member c Constructor without_parameters

      module _ (law : Based z) (w : World) (env : ir.Env) (s : ir.State) (u : js.State) (same : SameState p w s u) where
        abbrev F : ir.Ended → js.ExpressionEnd → Type 0
        F = Valued p w env (class_type c)

        abbrev js_load : Out js.ExpressionEnd
        js_load = top_call p (js_meaning.below p.program (suc m)) (a_loader c) [] u

        loads : js_load ≡ js_meaning.code_call (js_meaning.below p.program (suc m)) here (Some (loader_code c)) [] u
        loads = ap (λ o. js_meaning.code_call (js_meaning.below p.program (suc m)) (p.home (a_loader c)) o [] u) st.loads ∙ ap (λ f. js_meaning.code_call (js_meaning.below p.program (suc m)) f (Some (loader_code c)) [] u) st.beside

        abbrev links : List js.ClassLink
        links = links_of p c

        makes : MakesModule p.program (p.home (a_loader c)) c (p.home (a_constructor its_constructor)) links u
        makes = record {
          constructor = record { const = false; cell_is = ap (λ o. js_meaning.top_cell o (top_name (a_constructor its_constructor)) u) (law.reaches (a_constructor its_constructor) st.built) ∙ same.tops (p.home (a_loader c)) (a_constructor its_constructor) st.built };
          const = false;
          class_is = ap (λ o. js_meaning.top_cell o (top_name (a_class c)) u) (law.reaches (a_class c) (law.lives c st.made)) ∙ same.tops (p.home (a_loader c)) (a_class c) (law.lives c st.made);
        }

        -- a scope in which nothing is bound
        abbrev bare : js.Scope
        bare = record { file = p.home (a_loader c); this_value = js.this_is js.undefined; bindings = λ x. js.absent }

        made_alike : Sim d F (ir_meaning.construct p.classes low c without_parameters [] env s) (constructed p.program (js_meaning.below p.program m) c (p.home (a_constructor its_constructor)) links u)
        made_alike = subst (Sim d F (ir_meaning.construct p.classes low c without_parameters [] env s)) (instance_made p.program (js_meaning.below p.program m) (p.home (a_loader c)) c (p.home (a_constructor its_constructor)) links bare u refl refl refl makes) (new_alike z law c without_parameters [] [] [] [] refl st.built st.made (law.objects c st.made) tt w env s bare u (record { file = refl; free = λ x o. refl }) no_operands same)

        each : (a : ir.Ended) (b : js.ExpressionEnd) → F a b → Sim d F (ir.onward (ir_meaning.loaded p.classes c) a) (js.with_value (λ v. set_top here name v v) b)
        each _ _ (valued y v x s2 u2 g a states2) = subst (Sim d F (done (ir.ends (ir.gives v) env (ir.with_cell c v s2)))) (sym (can_set y x x s2 u2 states2)) (sim_done d F (ir.ends (ir.gives v) env (ir.with_cell c v s2)) (js.gives x (with_top here name x u2)) (valued y v x (ir.with_cell c v s2) (with_top here name x u2) g a (states y v x s2 u2 a states2)))
        each _ _ (thrown y v x s2 u2 g a states2) = sim_done d F (ir.ends (ir.throws v) env s2) (js.throws x u2) (thrown y v x s2 u2 g a states2)

        -- there is none yet
        of_null : u.tops here name ≡ js.holds false js.null → Sim d F (ir_meaning.load p.classes low c ir.null env s) js_load
        of_null held = subst (Sim d F (ir_meaning.load p.classes low c ir.null env s)) (sym (loads ∙ loads_tell.of_null p.program m here c (p.home (a_constructor its_constructor)) links u its.owned held (subst (λ f. MakesModule p.program f c (p.home (a_constructor its_constructor)) links u) st.beside makes))) (sim_then d F F (ir_meaning.construct p.classes low c without_parameters [] env s) (constructed p.program (js_meaning.below p.program m) c (p.home (a_constructor its_constructor)) links u) (ir.onward (ir_meaning.loaded p.classes c)) (js.with_value (λ v. set_top here name v v)) made_alike each)

        -- there is one
        of_value : (v : ir.Value) (x : js.Value) → SameValue w (class_type c) v x → is_strictly_equal x js.null ≡ false → u.tops here name ≡ js.holds false x → Sim d F (done (ir.ends (ir.gives v) env s)) js_load
        of_value v x a apart held = subst (Sim d F (done (ir.ends (ir.gives v) env s))) (sym (loads ∙ loads_tell.of_object p.program m here c x u its.owned held apart)) (sim_done d F (ir.ends (ir.gives v) env s) (js.gives x u) (valued w v x s u (grows-refl w) a same))

        by : (v : ir.Value) (x : js.Value) → Stands w (is_char (class_type c)) v x → SameValue w (class_type c) v x → u.tops here name ≡ js.holds false x → Sim d F (ir_meaning.load p.classes low c v env s) js_load
        by _ _ same_null a held = of_null held
        by _ _ same_undefined a held = of_value _ _ a refl held
        by _ _ (same_boolean b) a held = of_value _ _ a refl held
        by _ _ (same_char r k h) a held = of_value _ _ a refl held
        by _ _ (same_box r k b h i) a held = of_value _ _ a refl held
        by _ _ (same_number n h) a held = of_value _ _ a refl held
        by _ _ (same_long n h) a held = of_value _ _ a refl held
        by _ _ (same_text us) a held = of_value _ _ a refl held
        by _ _ (same_reference i b e) a held = of_value _ _ a refl held

        pub loads_alike : Sim d F (ir_meaning.load p.classes low c (s.cells c) env s) js_load
        loads_alike = go (Some (s.cells c)) (u.tops here name) (same.cells g c there) refl refl
          where
            go : (o : Option ir.Value) (k : js.Cell) → Holding w (class_type c) o k → ◌≡◌ {A = Option ir.Value} (Some (s.cells c)) o → u.tops here name ≡ k → Sim d F (ir_meaning.load p.classes low c (s.cells c) env s) js_load
            go _ _ (holding v x a) e held = let it : s.cells c ≡ v = cc in subst (λ q. Sim d F (ir_meaning.load p.classes low c q env s) js_load) (sym it) (by v x a.stands a held)
