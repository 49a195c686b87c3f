-- Fields, and objects that are made: what the acts of the IR come to, the expressions come to.
use Rattle.std.specs.Prelude.{◌==◌}
use Rattle.std.proofs.lemmas.Bool.{eq-eqb, and_parts}
use Rattle.std.proofs.Common.{◌≡◌, ℕ, Bool, true, false, List, [], ◌∷◌, ◌&&◌, slice_get, length, Some, None, Option, refl, sym, ap, ◌∙◌, subst, if◌then◌else◌}
use Rattle.outcomes.specs.Outcome.{Out, done, wrong, then_do}
use Rattle.outcomes.specs.Agreement.{Sim}
use Rattle.outcomes.proofs.Sequence.{then_do-right}
use Rattle.outcomes.proofs.Simulation.{sim_done, sim_wrong, sim_then, sim_weaken}
use Rattle.ir_mean.specs.Meaning as ir_meaning
use Rattle.ir_mean.specs.States as ir
use Rattle.ir_mean.specs.World as ir_world
use Rattle.js_mean.specs.Meaning as js_meaning
use Rattle.js_mean.specs.Objects as js_objects
use Rattle.js_mean.specs.States as js
use Rattle.js_tree.specs.Terms.{Name}
use Rattle.js_tree.specs.Terms as tree
use Rattle.sj_core.specs.declared.callees.Callee.TheVariants as callees
use Rattle.sj_core.specs.Terms as core
use Rattle.sj_core.specs.Views.{expressions_of}
use Rattle.agree_body_rules.specs.Desugar.{member}
use Rattle.agree_body_rules.specs.Templates.{called_member, check_name, property_name, class_name, static_name, setter_name, expression_template, expression_templates}
use Rattle.sj_mangling.specs.Bindings.{field_binding}
use Rattle.sj_mangling.specs.declared.bindings.FieldBinding.TheVariants.{Property}
use Rattle.agree_body_rules.specs.Coercions.{is_char}
use Rattle.sj_names.specs.Same.{is_same_text}
use Rattle.sj_emit_help_spec.specs.declared.kinds.Helper.TheVariants.{NotNull}
use Rattle.sj_names.specs.declared.method_names.Member.{Member}
use Rattle.ir_mean.specs.Known.{is_hijacked}
use Rattle.sj_names.specs.declared.method_names.MethodName.{MethodName}
use Rattle.sj_names.specs.declared.method_names.Namespace.TheVariants.{Constructor}
use Rattle.sj_trees.specs.Types.{class_type}
use Rattle.sj_trees.specs.declared.types.IrType.{IrType}
use Rattle.sj_trees.specs.declared.types.IrType.TheVariants.{NoType}
use Rattle.agree_body_rules.proofs.Statics.{read_static}
use Rattle.agree_plain_trees.specs.Settings.{Setting, shown, usable, IsField, FieldsDiffer, SameField, same_field, no_field, SameStored, same_object, same_array, HasNoEntries, SameHeap, SameState, Valued, valued, thrown, Based, Lawful, a_constructor, a_class, a_method, a_static, a_setter, a_cell, cell_name, a_helper, Holding, holding, top_function, top_call, links_of, Inside, Makes, makes, Built, built, failed, zeroed, IsReceiver}
use Rattle.agree_body_rules.specs.Standing.{Fits, FitAll, types_referred, call_type}
use Rattle.agree_plain_trees.specs.Worlds.{ArrayAt, with_pending, with_born}
use Rattle.agree_plain_trees.proofs.Heaps.{writes, births, stored-carry, holding-carry, numbers-same, place-there}
use Rattle.agree_plain_trees.proofs.Orders.{ActsAlike, OperandAlike, OperandsAlike, all_shown, in_order_alike, valued-weaken}
use Rattle.agree_plain_trees.proofs.Standing.{open-refers, type-open}
use Rattle.agree_plain_trees.proofs.Tops.{row_shown, top_seen}
use Rattle.std.proofs.lemmas.Slice.Eq.{bytes_eq-Decides}
use Rattle.agree_plain_trees.proofs.Worlds.{World, Keeps, shaped-class, Grows, grows-refl, grows-trans, SameValue, Stands, same_undefined, same_null, same_boolean, same_char, same_box, same_number, same_long, same_text, same_reference, value-fits, value-carry, values-fit, SameValues, no_values, one_more}

-- two texts that are the same by their test
same-class : (d c : List ℕ) (b : Bool) → (is_same_text d c && b) ≡ true → d ≡ c
same-class d c b h = (bytes_eq-Decides d c).0 (and_parts (is_same_text d c) b h).0

same-name : (b : Bool) (g f : List ℕ) → (b && is_same_text g f) ≡ true → g ≡ f
same-name b g f h = (bytes_eq-Decides g f).0 (and_parts b (is_same_text g f) h).1

-- the property of a field is no entry of a method
pub no_entries_with : (c f : List ℕ) (x : js.Value) (properties : Name → Option js.Value) → HasNoEntries properties → HasNoEntries (js_objects.with_property (field_binding Property c f) x properties)
no_entries_with c f x properties bare m = bare m

module _ (z : Setting) (law : Based z) where
  -- a field that is read
  selected : (base y : World) (env : ir.Env) (sc : js.Scope) (s : ir.State) (u : js.State) (c f : List ℕ) (t : IrType) (k : List ℕ) (n : Option ArrayAt) (o : Option ir.Stored) (q : Option js.Stored) → IsField z.place.classes c f t → Grows base y → SameState z.place y s u → SameStored z.place y k n o q → Sim z.direction (Valued z.place base env t) (ir_meaning.value_or_wrong (ir_meaning.field_of c f o) env s) (js_meaning.value_or_wrong (js_objects.stored_property z.place.program q (property_name c f)) sc u)
  selected base y env sc s u c f t _ _ _ _ has g same (same_array k items properties told bare its) = sim_wrong z.direction (Valued z.place base env t) _
  selected base y env sc s u c f t _ _ _ _ has g same (same_object d fields properties told bare fs) = field (fields c f) (properties (property_name c f)) refl (fs c f t has)
    where
      field : (v : Option ir.Value) (x : Option js.Value) → properties (property_name c f) ≡ x → SameField y t v x → Sim z.direction (Valued z.place base env t) (ir_meaning.value_or_wrong v env s) (js_meaning.value_or_wrong (js_objects.value_on (js_objects.or_value (properties (property_name c f)) (js_objects.method_on z.place.program (links_of z.place d) (property_name c f))) (property_name c f)) sc u)
      field _ _ e (same_field v x a) = subst (λ r. Sim z.direction (Valued z.place base env t) (done (ir.ends (ir.gives v) env s)) (js_meaning.value_or_wrong (js_objects.value_on (js_objects.or_value r (js_objects.method_on z.place.program (links_of z.place d) (property_name c f))) (property_name c f)) sc u)) (sym e) (sim_done z.direction (Valued z.place base env t) (ir.ends (ir.gives v) env s) (js.gives x u) (valued y v x s u g a same))
      field _ _ e (no_field x) = sim_wrong z.direction (Valued z.place base env t) _

  pub select_acts : (base : World) (env : ir.Env) (sc : js.Scope) (own : IrType) (c f : List ℕ) (t : IrType) → IsField z.place.classes c f t → ActsAlike z base base env (own ∷ []) t (ir_meaning.select_field c f) (js_meaning.read_property z.place.program (property_name c f)) sc
  select_acts base env sc own c f t has y _ _ s u g (one_more _ v x _ _ _ a no_values) same = by v x a.stands
    where
      by : (v : ir.Value) (x : js.Value) → Stands y (is_char own) v x → Sim z.direction (Valued z.place base env t) (ir_meaning.select_field c f (v ∷ []) env s) (js_meaning.read_property z.place.program (property_name c f) (x ∷ []) sc u)
      by _ _ (same_reference i a e) = let h = same.heaps.objects i a e in selected base y env sc s u c f t h.class (y.arrays i) (slice_get s.heap i) (slice_get u.heap a) has g same h.alike
      by _ _ _ = sim_wrong z.direction (Valued z.place base env t) _

  -- a field of a receiver
  pub select_alike : (w : World) (env : ir.Env) (s : ir.State) (sc : js.Scope) (u : js.State) (own : IrType) (r : ir.Run) (e : core.Expression) (c f : List ℕ) (t : IrType) → IsField z.place.classes c f t → OperandsAlike z w env sc (own ∷ []) (r ∷ []) (e ∷ []) → SameState z.place w s u → Sim z.direction (Valued z.place w env t) (ir_meaning.in_order (r ∷ []) (ir_meaning.select_field c f) env s) (shown z (core.field_of e c f) sc u)
  select_alike w env s sc u own r e c f t has operands same = in_order_alike z w w env sc w (own ∷ []) t (r ∷ []) (e ∷ []) (ir_meaning.select_field c f) (js_meaning.read_property z.place.program (property_name c f)) operands (select_acts w env sc own c f t has) w s u (grows-refl w) (grows-refl w) (grows-refl w) same

  -- a static field that is read
  pub static_alike : (c f : List ℕ) (t : IrType) → (usable z).static_field c f t ≡ true → (w : World) (env : ir.Env) (s : ir.State) (sc : js.Scope) (u : js.State) → Inside z.place z.code sc → SameState z.place w s u → Sim z.direction (Valued z.place w env t) (ir_meaning.value_or_wrong (s.statics c f) env s) (shown z (core.static_of c f) sc u)
  static_alike c f t has w env s sc u inside same = go (s.statics c f) (u.tops (z.place.home (a_static c f t)) (static_name c f)) refl (same.statics z.code.file c f t (read_static (usable z) c f t has))
    where
      go : (o : Option ir.Value) (cell : js.Cell) → u.tops (z.place.home (a_static c f t)) (static_name c f) ≡ cell → Holding w t o cell → Sim z.direction (Valued z.place w env t) (ir_meaning.value_or_wrong o env s) (shown z (core.static_of c f) sc u)
      go _ _ e (holding v x a) = subst (λ q. Sim z.direction (Valued z.place w env t) (done (ir.ends (ir.gives v) env s)) q) (sym (top_seen z law (a_static c f t) x sc u has inside e)) (sim_done z.direction (Valued z.place w env t) (ir.ends (ir.gives v) env s) (js.gives x u) (valued w v x s u (grows-refl w) a same))

  -- one that is set, by the function that sets its variable
  set_acts : (c f : List ℕ) (t own : IrType) → Fits t own → (base : World) (env : ir.Env) (sc : js.Scope) → (usable z).static_setter c f t ≡ true → ActsAlike z base base env (own ∷ []) NoType (ir_meaning.assign_static c f) (js_meaning.call z.place.program z.js_low (top_function z.place (a_setter c f t))) sc
  set_acts c f t own fit base env sc has y _ _ s u g (one_more _ v x _ _ _ a no_values) same = sim_weaken z.direction (Valued z.place y env NoType) (Valued z.place base env NoType) _ _ (λ a b. valued-weaken z base y env NoType a b g) (law.sets c f t has y v x env s u (value-fits y t own v x fit a) same)

  -- the call of that function with an expression
  abbrev pub setter_text : List ℕ → List ℕ → core.Expression → js.Evaluation
  setter_text c f e = js_meaning.evaluate z.place.program z.js_low (tree.call_of (setter_name c f) (tree.expression (expression_template z.place.name z.place.label (usable z).lookup e) tree.no_expressions))

  pub static_set_alike : (c f : List ℕ) (t own : IrType) (r : ir.Run) (e : core.Expression) → (usable z).static_setter c f t ≡ true → Fits t own → (w : World) (env : ir.Env) (s : ir.State) (sc : js.Scope) (u : js.State) → Inside z.place z.code sc → OperandsAlike z w env sc (own ∷ []) (r ∷ []) (e ∷ []) → SameState z.place w s u → Sim z.direction (Valued z.place w env NoType) (ir_meaning.in_order (r ∷ []) (ir_meaning.assign_static c f) env s) (setter_text c f e sc u)
  static_set_alike c f t own r e has fit w env s sc u inside operand same = subst (λ o. Sim z.direction (Valued z.place w env NoType) (ir_meaning.in_order (r ∷ []) (ir_meaning.assign_static c f) env s) o) (sym js_is) (in_order_alike z w w env sc w (own ∷ []) NoType (r ∷ []) (e ∷ []) (ir_meaning.assign_static c f) (js_meaning.call z.place.program z.js_low fun) operand (set_acts c f t own fit w env sc has) w s u (grows-refl w) (grows-refl w) (grows-refl w) same)
    where
      fun : js.Value
      fun = top_function z.place (a_setter c f t)

      js_is : setter_text c f e sc u ≡ js_meaning.in_order (shown z e ∷ []) (js_meaning.call z.place.program z.js_low fun) sc u
      js_is = ap (λ o. then_do o (js.with_value (λ g. js_meaning.in_order (shown z e ∷ []) (js_meaning.call z.place.program z.js_low g) sc))) (top_seen z law (a_setter c f t) fun sc u has inside (same.tops z.code.file (a_setter c f t) has))

  -- a field that is written
  written : FieldsDiffer z.place → (y : World) (v : ir.Value) (x : js.Value) (c f : List ℕ) (t : IrType) (fields : ir.Fields) (properties : Name → Option js.Value) → IsField z.place.classes c f t → SameValue y t v x → ((d g : List ℕ) (i : IrType) → IsField z.place.classes d g i → SameField y i (fields d g) (properties (field_binding Property d g))) → (d g : List ℕ) (i : IrType) → IsField z.place.classes d g i → SameField y i (ir.with_field c f v fields d g) (js_objects.with_property (property_name c f) x properties (field_binding Property d g))
  written differ y v x c f t fields properties has a fs d g i there = subst (λ b. SameField y i (ir.with_field c f v fields d g) (if b then Some x else properties (field_binding Property d g))) (sym (differ.properties c f d g t i has there)) (go (is_same_text d c && is_same_text g f) refl)
    where
      go : (b : Bool) → (is_same_text d c && is_same_text g f) ≡ b → SameField y i (if b then Some v else fields d g) (if b then Some x else properties (field_binding Property d g))
      go true e = same_field v x (subst (λ k. SameValue y k v x) (differ.types c f t i has (subst (λ n. IsField z.place.classes n f i) (same-class d c (is_same_text g f) e) (subst (λ n. IsField z.place.classes d n i) (same-name (is_same_text d c) g f e) there))) a)
      go false e = fs d g i there

  written_there : FieldsDiffer z.place → (F : ir.Ended → js.StatementEnd → Type 0) (y : World) (env : ir.Env) (sc : js.Scope) (s : ir.State) (u : js.State) (i a : ℕ) (v : ir.Value) (x : js.Value) (c f : List ℕ) (t : IrType) (k : List ℕ) (n : Option ArrayAt) (o : Option ir.Stored) (q : Option js.Stored) → IsField z.place.classes c f t → y.place i ≡ Some a → y.classes i ≡ Some k → y.arrays i ≡ n → SameValue y t v x → SameState z.place y s u → ((s : ir.State) (u : js.State) → SameState z.place y s u → F (ir.ends (ir.gives ir.undefined) env s) (js.ends js.normally sc u)) → SameStored z.place y k n o q → Sim z.direction F (ir_meaning.assigned (ir_meaning.set_field c f v i o s) env s) (js_meaning.with_state (js_objects.set_stored a q (property_name c f) x u) sc u)
  written_there differ F y env sc s u i a v x c f t _ _ _ _ has there known none alike same goes (same_array k items properties told bare its) = sim_wrong z.direction F _
  written_there differ F y env sc s u i a v x c f t _ _ _ _ has there known none alike same goes (same_object d fields properties told bare fs) = by (fields c f)
    where
      with_it : js.Stored
      with_it = js.plain (links_of z.place d) (js_objects.with_property (property_name c f) x properties)

      by : (old : Option ir.Value) → Sim z.direction F (ir_meaning.assigned (ir_meaning.if_there old (ir.at_address i (ir.object d (ir.with_field c f v fields)) s)) env s) (done (js.ends js.normally sc (js_objects.at_address a with_it u)))
      by None = sim_wrong z.direction F _
      by (Some old) = sim_done z.direction F (ir.ends (ir.gives ir.undefined) env (ir.at_address i (ir.object d (ir.with_field c f v fields)) s)) (js.ends js.normally sc (js_objects.at_address a with_it u)) (goes _ _ (record { heaps = writes z.place y s.heap u.heap same.heaps i a d (ir.object d (ir.with_field c f v fields)) with_it there known none (same_object d (ir.with_field c f v fields) (js_objects.with_property (property_name c f) x properties) (record { address = told.address; constants = told.constants; held = told.held; owned = told.owned; marked = told.marked; known = told.known }) (no_entries_with c f x properties bare) (written differ y v x c f t fields properties has alike fs)); tops = same.tops; statics = same.statics; cells = same.cells }))

  -- a field of an object is written: the IR gives undef, and the statement ends normally, in states that stand for each other
  pub field_written : FieldsDiffer z.place → (F : ir.Ended → js.StatementEnd → Type 0) (y : World) (env : ir.Env) (sc : js.Scope) (s : ir.State) (u : js.State) (own : IrType) (r v : ir.Value) (q x : js.Value) (c f : List ℕ) (t : IrType) → IsField z.place.classes c f t → SameValue y own r q → SameValue y t v x → SameState z.place y s u → ((s : ir.State) (u : js.State) → SameState z.place y s u → F (ir.ends (ir.gives ir.undefined) env s) (js.ends js.normally sc u)) → Sim z.direction F (ir_meaning.assign_field c f (r ∷ v ∷ []) env s) (js_meaning.with_state (js_objects.set_property q (property_name c f) x u) sc u)
  field_written differ F y env sc s u own r v q x c f t has object alike same goes = by r q object.stands
    where
      by : (r : ir.Value) (q : js.Value) → Stands y (is_char own) r q → Sim z.direction F (ir_meaning.assign_field c f (r ∷ v ∷ []) env s) (js_meaning.with_state (js_objects.set_property q (property_name c f) x u) sc u)
      by _ _ (same_reference i a e) = let h = same.heaps.objects i a e in written_there differ F y env sc s u i a v x c f t h.class (y.arrays i) (slice_get s.heap i) (slice_get u.heap a) has e h.told refl alike same goes h.alike
      by _ _ _ = sim_wrong z.direction F _

  pending-kept : (w : World) (a b : ℕ) (o d : js.Stored) → ((b : js.Stored) → w.pending a ≡ Some b → ⊥) → w.pending b ≡ Some d → (t : Bool) → (b == a) ≡ t → (if t then Some o else w.pending b) ≡ Some d
  pending-kept w a b o d fresh h true e = absurd (fresh d (subst (λ x. w.pending x ≡ Some d) (numbers-same b a e) h))
  pending-kept w a b o d fresh h false e = h

  pending-left : (w y : World) (a b : ℕ) (d : js.Stored) → ((b : js.Stored) → w.pending a ≡ Some b → ⊥) → w.pending b ≡ Some d → y.pending b ≡ Some d → (t : Bool) → (b == a) ≡ t → (if t then None else y.pending b) ≡ Some d
  pending-left w y a b d fresh h k true e = absurd (fresh d (subst (λ x. w.pending x ≡ Some d) (numbers-same b a e) h))
  pending-left w y a b d fresh h k false e = k

  here-some : {A : Type 0} (n : ℕ) (x : A) (other : Option A) → (if (n == n) then Some x else other) ≡ Some x
  here-some n x other = ap (λ b. if b then Some x else other) (eq-eqb n n refl)

  placed-still : (y : World) (s : List ir.Stored) (u : List js.Stored) (h : SameHeap z.place y s u) (i b a : ℕ) → y.place i ≡ Some b → (t : Bool) → (i == length s) ≡ t → (if t then Some a else y.place i) ≡ Some b
  placed-still y s u h i b a e true k = absurd (place-there z.place y s u h i b e (numbers-same i (length s) k))
  placed-still y s u h i b a e false k = e

  classed-still : (y : World) (s : List ir.Stored) (u : List js.Stored) (h : SameHeap z.place y s u) (i b : ℕ) (c d : List ℕ) → y.place i ≡ Some b → y.classes i ≡ Some d → (t : Bool) → (i == length s) ≡ t → (if t then Some c else y.classes i) ≡ Some d
  classed-still y s u h i b c d e k true l = absurd (place-there z.place y s u h i b e (numbers-same i (length s) l))
  classed-still y s u h i b c d e k false l = k

  values-carry : (u w : World) (ts : List IrType) (vs : List ir.Value) (xs : List js.Value) → Keeps u w → SameValues u ts vs xs → SameValues w ts vs xs
  values-carry u w _ _ _ g no_values = no_values
  values-carry u w _ _ _ g (one_more t v x ts vs xs a others) = one_more t v x ts vs xs (value-carry u w t v x g a) (values-carry u w ts vs xs g others)

  -- the constructor runs on the object that the emitted code has made before the arguments, and the IR behind them
  construct_acts : (c : List ℕ) (m : MethodName) (ts : List IrType) (w : World) (env : ir.Env) (sc : js.Scope) (a : ℕ) (o : js.Stored) → (usable z).built (member c Constructor m) ≡ true → (usable z).made c ≡ true → is_hijacked c ≡ false → FitAll (types_referred m.params) ts → ((b : js.Stored) → w.pending a ≡ Some b → ⊥) → SameStored z.place w c None (Some (zeroed z.place c)) (Some o) → ActsAlike z w (with_pending a o w) env ts (class_type c) (ir_meaning.construct z.place.classes z.low c m) (λ xs. js_meaning.call z.place.program z.js_low (top_function z.place (a_constructor (member c Constructor m))) (js.object a ∷ xs)) sc
  construct_acts c m ts w env sc a o linked made free fit fresh shape y vs xs s u g alike same = subst (λ q. Sim z.direction (Valued z.place w env (class_type c)) (ir_meaning.construct z.place.classes z.low c m vs env s) q) (then_do-right (js_call u)) (sim_then z.direction (Built z.place born env (js.object a)) (Valued z.place w env (class_type c)) (ir_meaning.call z.low (ir_world.member_of z.place.classes c Constructor m) (Some (ir.reference i)) vs env (ir.with_stored (zeroed z.place c) s)) (js_call u) (ir.onward (λ v. ir.given (ir.reference i))) done (law.builds (member c Constructor m) linked born (ir.reference i) (js.object a) vs xs env (ir.with_stored (zeroed z.place c) s) u (record { stands = record { stands = same_reference i a (here-some i a (y.place i)); suits = open-refers (class_type c) i (type-open c free); shaped = shaped-class born c (ir.reference i) }; there = λ e. cc }) (values-carry y born (types_referred m.params) vs xs kept (values-fit y (types_referred m.params) ts vs xs fit alike)) states) each)
    where
      i : ℕ
      i = ir.next_address s

      js_call : js.State → Out js.ExpressionEnd
      js_call u = top_call z.place z.js_low (a_constructor (member c Constructor m)) (js.object a ∷ xs) u

      born : World
      born = with_born i a c y

      placed : (j b : ℕ) → y.place j ≡ Some b → born.place j ≡ Some b
      placed j b e = placed-still y s.heap u.heap same.heaps j b a e (j == i) refl

      kept : Keeps y born
      kept = record { places = placed; arrays = λ j k e. e; owns = λ b d e. e; boxes = refl }

      states : SameState z.place born (ir.with_stored (zeroed z.place c) s) u
      states = record { heaps = births z.place y s.heap u.heap same.heaps a o c (zeroed z.place c) (g.pends a o (here-some a o (w.pending a))) free (record { file = z.code.file; made = made }) (stored-carry z.place w y (record { places = g.places; arrays = g.arrays; owns = g.owns; boxes = g.boxes }) c None (Some (zeroed z.place c)) (Some o) shape); tops = same.tops; statics = λ q d n t l. holding-carry y born t kept (s.statics d n) (u.tops (z.place.home (a_static d n t)) (static_name d n)) (same.statics q d n t l); cells = λ q d l. holding-carry y born (class_type d) kept (Some (s.cells d)) (u.tops (z.place.home (a_cell d)) (cell_name d)) (same.cells q d l) }

      grown : Grows w born
      grown = record { places = λ j b e. placed j b (g.places j b e); classes = λ j b d e k. classed-still y s.heap u.heap same.heaps j b c d (g.places j b e) (g.classes j b d e k) (j == i) refl; arrays = g.arrays; owns = g.owns; boxes = g.boxes; pends = λ b d e. pending-left w y a b d fresh e (g.pends b d (pending-kept w a b o d fresh e (b == a) refl)) (b == a) refl }

      each : (e : ir.Ended) (b : js.ExpressionEnd) → Built z.place born env (js.object a) e b → Sim z.direction (Valued z.place w env (class_type c)) (ir.onward (λ v. ir.given (ir.reference i)) e) (done b)
      each _ _ (built w2 v s2 u2 h states) = sim_done z.direction (Valued z.place w env (class_type c)) (ir.ends (ir.gives (ir.reference i)) env s2) (js.gives (js.object a) u2) (valued w2 (ir.reference i) (js.object a) s2 u2 (grows-trans w born w2 grown h) (record { stands = same_reference i a (h.places i a (here-some i a (y.place i))); suits = open-refers (class_type c) i (type-open c free); shaped = shaped-class w2 c (ir.reference i) }) states)
      each _ _ (failed w2 v x s2 u2 h e states) = sim_done z.direction (Valued z.place w env (class_type c)) (ir.ends (ir.throws v) env s2) (js.throws x u2) (thrown w2 v x s2 u2 (grows-trans w born w2 grown h) e states)

  new_shown : (c : List ℕ) (w : World) (s : ir.State) (sc : js.Scope) (u : js.State) → (usable z).made c ≡ true → Inside z.place z.code sc → SameState z.place w s u → js_meaning.evaluate z.place.program z.js_low (tree.new_of (class_name c) tree.no_expressions) sc u ≡ js_meaning.construct z.place.program z.js_low (links_of z.place c) (links_of z.place c) [] u
  new_shown c w s sc u made inside same = ap (λ o. then_do o (js.with_value (λ f. js_meaning.in_order [] (js_meaning.construct_value z.place.program z.js_low f) sc))) (top_seen z law (a_class c) (js.class (links_of z.place c)) sc u (law.lives c made) inside (same.tops z.code.file (a_class c) (law.lives c made)))

  -- `ct_C__M(new c_C(), ..)`: the object is made in front of the arguments
  pub new_alike : (c : List ℕ) (m : MethodName) (ts : List IrType) (rs : List ir.Run) (es es' : List core.Expression) → es ≡ es' → (usable z).built (member c Constructor m) ≡ true → (usable z).made c ≡ true → is_hijacked c ≡ false → FitAll (types_referred m.params) ts → (w : World) (env : ir.Env) (s : ir.State) (sc : js.Scope) (u : js.State) → Inside z.place z.code sc → OperandsAlike z w env sc ts rs es' → SameState z.place w s u → Sim z.direction (Valued z.place w env (class_type c)) (ir_meaning.in_order rs (ir_meaning.construct z.place.classes z.low c m) env s) (shown z (core.made_of (member c Constructor m) (expressions_of es)) sc u)
  new_alike c m ts rs es es' are linked made free fit w env s sc u inside operands same = subst (λ q. Sim z.direction (Valued z.place w env (class_type c)) (ir_meaning.in_order rs act env s) q) (sym js_is) (sim_then z.direction (Makes z.place w c env s) (Valued z.place w env (class_type c)) (done (ir.ends (ir.gives ir.undefined) env s)) (js_make u) (ir.onward (λ v. ir_meaning.in_order rs act)) (js.with_value rest) (law.makes c made w env s u same) each)
    where
      act : List ir.Value → ir.Run
      act = ir_meaning.construct z.place.classes z.low c m

      fun : js.Value
      fun = top_function z.place (a_constructor (member c Constructor m))

      js_make : js.State → Out js.ExpressionEnd
      js_make u = js_meaning.construct z.place.program z.js_low (links_of z.place c) (links_of z.place c) [] u

      rest : js.Value → js.State → Out js.ExpressionEnd
      rest x = js_meaning.in_order (all_shown z es') (λ xs. js_meaning.call z.place.program z.js_low fun (x ∷ xs)) sc

      js_is : shown z (core.made_of (member c Constructor m) (expressions_of es)) sc u ≡ then_do (js_make u) (js.with_value rest)
      js_is = ap (λ o. then_do o (js.with_value (λ f. js_meaning.in_order (js_meaning.evaluate z.place.program z.js_low (tree.new_of (class_name c) tree.no_expressions) ∷ js_meaning.arguments z.place.program z.js_low (expression_templates z.place.name z.place.label (usable z).lookup (expressions_of es))) (js_meaning.call z.place.program z.js_low f) sc))) (top_seen z law (a_constructor (member c Constructor m)) fun sc u linked inside (same.tops z.code.file (a_constructor (member c Constructor m)) linked)) ∙ ap (λ args. js_meaning.in_order (js_meaning.evaluate z.place.program z.js_low (tree.new_of (class_name c) tree.no_expressions) ∷ args) (js_meaning.call z.place.program z.js_low fun) sc u) (row_shown z es ∙ ap (all_shown z) are) ∙ ap (λ o. then_do o (js.with_value rest)) (new_shown c w s sc u made inside same)

      each : (e : ir.Ended) (b : js.ExpressionEnd) → Makes z.place w c env s e b → Sim z.direction (Valued z.place w env (class_type c)) (ir.onward (λ v. ir_meaning.in_order rs act) e) (js.with_value rest b)
      each _ _ (makes a o u2 fresh shape states) = in_order_alike z w w env sc (with_pending a o w) ts (class_type c) rs es' act (λ xs. js_meaning.call z.place.program z.js_low fun (js.object a ∷ xs)) operands (construct_acts c m ts w env sc a o linked made free fit fresh shape) (with_pending a o w) s u2 (grown a o fresh) (grown a o fresh) (grows-refl (with_pending a o w)) states
        where
          grown : (a : ℕ) (o : js.Stored) → ((b : js.Stored) → w.pending a ≡ Some b → ⊥) → Grows w (with_pending a o w)
          grown a o fresh = record { places = λ j b e. e; classes = λ j b d e k. k; arrays = λ j k e. e; owns = λ b d e. e; boxes = refl; pends = λ b d e. pending-kept w a b o d fresh e (b == a) refl }

  -- a member runs on a receiver
  receive_acts : (m : Member) (own : IrType) (ts : List IrType) (w : World) (env : ir.Env) (sc : js.Scope) → (usable z).received (called_member (usable z).lookup m.namespace m) ≡ true → Fits (class_type m.class) own → FitAll (types_referred m.method.params) ts → ActsAlike z w w env (own ∷ ts) (call_type m.method.result) (ir_meaning.call_on z.place.classes z.low (ir_meaning.static_target z.place.classes m.class m.namespace m.method)) (js_meaning.call z.place.program z.js_low (top_function z.place (a_method (called_member (usable z).lookup m.namespace m)))) sc
  receive_acts m own ts w env sc there f fit y _ _ s u g (one_more _ v x _ vs xs a others) same = by v x a.stands (value-fits y (class_type m.class) own v x f a)
    where
      goes : (v : ir.Value) (x : js.Value) → IsReceiver y m.class v x → Sim z.direction (Valued z.place w env (call_type m.method.result)) (ir_meaning.call z.low (ir_meaning.static_target z.place.classes m.class m.namespace m.method) (Some v) vs env s) (top_call z.place z.js_low (a_method (called_member (usable z).lookup m.namespace m)) (x ∷ xs) u)
      goes v x r = sim_weaken z.direction (Valued z.place y env (call_type m.method.result)) (Valued z.place w env (call_type m.method.result)) _ _ (λ a b. valued-weaken z w y env (call_type m.method.result) a b g) (law.receives m there y v x vs xs env s u r (values-fit y (types_referred m.method.params) ts vs xs fit others) same)

      by : (v : ir.Value) (x : js.Value) → Stands y (is_char own) v x → SameValue y (class_type m.class) v x → Sim z.direction (Valued z.place w env (call_type m.method.result)) (ir_meaning.call_on z.place.classes z.low (ir_meaning.static_target z.place.classes m.class m.namespace m.method) (v ∷ vs) env s) (top_call z.place z.js_low (a_method (called_member (usable z).lookup m.namespace m)) (x ∷ xs) u)
      by _ _ same_null k = sim_wrong z.direction (Valued z.place w env (call_type m.method.result)) _
      by _ _ same_undefined k = goes _ _ (record { stands = k; there = λ e. cc })
      by _ _ (same_boolean b) k = goes _ _ (record { stands = k; there = λ e. cc })
      by _ _ (same_char r c h) k = goes _ _ (record { stands = k; there = λ e. cc })
      by _ _ (same_box r c b h i) k = goes _ _ (record { stands = k; there = λ e. cc })
      by _ _ (same_number n h) k = goes _ _ (record { stands = k; there = λ e. cc })
      by _ _ (same_long n h) k = goes _ _ (record { stands = k; there = λ e. cc })
      by _ _ (same_text us) k = goes _ _ (record { stands = k; there = λ e. cc })
      by _ _ (same_reference i a e) k = goes _ _ (record { stands = k; there = λ e. cc })

  pub received_call_alike : (m : Member) (own : IrType) (ts : List IrType) (r : ir.Run) (rs : List ir.Run) (e : core.Expression) (es : List core.Expression) → (usable z).received (called_member (usable z).lookup m.namespace m) ≡ true → Fits (class_type m.class) own → FitAll (types_referred m.method.params) ts → (w : World) (env : ir.Env) (s : ir.State) (sc : js.Scope) (u : js.State) → Inside z.place z.code sc → OperandsAlike z w env sc (own ∷ ts) (r ∷ rs) (e ∷ es) → SameState z.place w s u → Sim z.direction (Valued z.place w env (call_type m.method.result)) (ir_meaning.in_order (r ∷ rs) (ir_meaning.call_on z.place.classes z.low (ir_meaning.static_target z.place.classes m.class m.namespace m.method)) env s) (shown z (core.receiver_call (callees.Member m) e (expressions_of es)) sc u)
  received_call_alike m own ts r rs e es there f fit w env s sc u inside operands same = subst (λ q. Sim z.direction (Valued z.place w env (call_type m.method.result)) (ir_meaning.in_order (r ∷ rs) (ir_meaning.call_on z.place.classes z.low (ir_meaning.static_target z.place.classes m.class m.namespace m.method)) env s) q) (sym js_is) (in_order_alike z w w env sc w (own ∷ ts) (call_type m.method.result) (r ∷ rs) (e ∷ es) (ir_meaning.call_on z.place.classes z.low (ir_meaning.static_target z.place.classes m.class m.namespace m.method)) (js_meaning.call z.place.program z.js_low fun) operands (receive_acts m own ts w env sc there f fit) w s u (grows-refl w) (grows-refl w) (grows-refl w) same)
    where
      fun : js.Value
      fun = top_function z.place (a_method (called_member (usable z).lookup m.namespace m))

      js_is : shown z (core.receiver_call (callees.Member m) e (expressions_of es)) sc u ≡ js_meaning.in_order (all_shown z (e ∷ es)) (js_meaning.call z.place.program z.js_low fun) sc u
      js_is = ap (λ o. then_do o (js.with_value (λ g. js_meaning.in_order (shown z e ∷ js_meaning.arguments z.place.program z.js_low (expression_templates z.place.name z.place.label (usable z).lookup (expressions_of es))) (js_meaning.call z.place.program z.js_low g) sc))) (top_seen z law (a_method (called_member (usable z).lookup m.namespace m)) fun sc u there inside (same.tops z.code.file (a_method (called_member (usable z).lookup m.namespace m)) there)) ∙ ap (λ args. js_meaning.in_order (shown z e ∷ args) (js_meaning.call z.place.program z.js_low fun) sc u) (row_shown z es)

-- the null check of a value, as an act on it
abbrev pub null_act : Setting → List ir.Value → ir.Run
null_act z (v ∷ []) env s = ir_meaning.answered z.place.classes z.low (ir_meaning.not_null z.place.classes v) env s
null_act z _ env s = wrong

module _ (z : Setting) (lawful : Lawful z) where
  check_acts : (t : IrType) (base : World) (env : ir.Env) (sc : js.Scope) → (usable z).helper check_name ≡ true → ActsAlike z base base env (t ∷ []) t (null_act z) (js_meaning.call z.place.program z.js_low (top_function z.place (a_helper NotNull))) sc
  check_acts t base env sc has y _ _ s u g (one_more _ v x _ _ _ a no_values) same = sim_weaken z.direction (Valued z.place y env t) (Valued z.place base env t) _ _ (λ a b. valued-weaken z base y env t a b g) (lawful.checks has t y v x env s u a same)

  -- a receiver with its null check
  pub checked_alike : (t : IrType) (from : World) (env : ir.Env) (sc : js.Scope) (r : ir.Run) (e : core.Expression) → (usable z).helper check_name ≡ true → Inside z.place z.code sc → OperandsAlike z from env sc (t ∷ []) (r ∷ []) (e ∷ []) → OperandAlike z from env sc t (ir_meaning.checked z.place.classes z.low r) (shown z (core.checked_value e))
  checked_alike t from env sc r e has inside operand w s u g same = subst (λ o. Sim z.direction (Valued z.place w env t) (ir_meaning.checked z.place.classes z.low r env s) o) (sym js_is) (in_order_alike z w from env sc w (t ∷ []) t (r ∷ []) (e ∷ []) (null_act z) (js_meaning.call z.place.program z.js_low fun) operand (check_acts t w env sc has) w s u (grows-refl w) g (grows-refl w) same)
    where
      fun : js.Value
      fun = top_function z.place (a_helper NotNull)

      js_is : shown z (core.checked_value e) sc u ≡ js_meaning.in_order (shown z e ∷ []) (js_meaning.call z.place.program z.js_low fun) sc u
      js_is = ap (λ o. then_do o (js.with_value (λ g. js_meaning.in_order (shown z e ∷ []) (js_meaning.call z.place.program z.js_low g) sc))) (top_seen z lawful.base (a_helper NotNull) fun sc u has inside (same.tops z.code.file (a_helper NotNull) has))
