-- Trees of arrays, by what is known of their operands: new arrays, lengths, items, and items that are set.
use Rattle.std.specs.Prelude.{◌<◌, ◌^◌, codes}
use Rattle.std.proofs.Common.{◌≡◌, ℕ, true, false, List, [], ◌∷◌, length, Some, refl, sym, subst}
use Rattle.outcomes.specs.Outcome.{done, then_do}
use Rattle.outcomes.specs.Agreement.{Sim}
use Rattle.outcomes.proofs.Sequence.{then_do-right}
use Rattle.outcomes.proofs.Simulation.{sim_done, sim_then}
use Rattle.agree_plain_trees.specs.Meaning as ir_meaning
use Rattle.agree_plain_trees.specs.States as ir
use Rattle.js_mean.specs.Meaning as js_meaning
use Rattle.js_mean.specs.States as js
use Rattle.sj_core.specs.Terms as core
use Rattle.sj_core.specs.Views.{expressions_of}
use Rattle.agree_early_errors.proofs.Arrays.{ItemsOf}
use Rattle.agree_early_errors.specs.Built.{has_base, can_put}
use Rattle.agree_early_errors.specs.Coercions.{coerced, coerced_items}
use Rattle.agree_early_errors.specs.Desugar.{into, first_of, second_of, third_of, finish, types_of}
use Rattle.agree_early_errors.specs.Spill.{Destination, discard, Code, one, spill, then_use}
use Rattle.agree_early_errors.specs.Standing.{Fits}
use Rattle.agree_early_errors.specs.Typing.{HasDimensions}
use Rattle.sj_names.specs.declared.references.ArrayRef.{ArrayRef}
use Rattle.sj_trees.specs.Term.{Term, Terms, assign, new_array, array_value, array_length, array_select}
use Rattle.sj_trees.specs.TypeOf.{type_of_term}
use Rattle.sj_trees.specs.Types.{element_type}
use Rattle.sj_trees.specs.declared.positions.Position.{Position}
use Rattle.sj_trees.specs.declared.types.IrType.{IrType}
use Rattle.sj_trees.specs.declared.types.IrType.TheVariants.{Array, Int, NoType}
use Rattle.sure_receivers.specs.Sure.{is_sure}
use Rattle.agree_plain_trees.specs.Settings.{Setting, shown, usable, SameState, Valued, Lawful, Inside}
use Rattle.agree_plain_trees.proofs.Arrays.{StandForEach, items_coerced, new_array_alike, array_alike, length_alike, item_alike, item_setter, item_set_alike}
use Rattle.agree_plain_trees.proofs.Boxes.{StandsFor, stood, stood-fits, stood_alike, stood_told}
use Rattle.agree_plain_trees.proofs.Orders.{OperandsAlike, no_operands, more_operands}
use Rattle.agree_plain_trees.proofs.Worlds.{World, grows-trans}
use Rattle.agree_bodies.specs.Fine.{FitsIn}
use Rattle.agree_bodies.proofs.Contexts.{Context, Writes, Sound, Ahead, ready-lift, keeps-less, let_go, Came, gave}
use Rattle.agree_bodies.proofs.Forms.{of_operands}
use Rattle.agree_bodies.proofs.ObjectTrees.{expression_does, receiver_piece, received-type, sure_run}
use Rattle.agree_bodies.proofs.Spills.{Does, Final, OperandDoes, OperandsDo, operands_in, types}
use Rattle.agree_bodies.proofs.Statements.{valued_done, throws-on, ends-one, Ends}
use Rattle.agree_bodies.proofs.Trees.{LowAlike, piece, list_of, operands-list, runs-list, types-list}

module _ (z : Setting) (lawful : Lawful z) (low : LowAlike z) where
  -- a new array of a length
  pub new_array_does : (p : Position) (c : Context) (k : Destination) (j : ℕ) (r : ArrayRef) (e : Term) → Sound z.is_mutable c → Ahead c j → Writes c.written k → FitsIn (usable z) k (Array r) → HasDimensions r → (usable z).arrays ≡ true → (usable z).helper (codes "$mk") ≡ true → has_base (usable z) r.base ≡ true → Fits Int (type_of_term e) → OperandDoes z lawful c j (piece z lawful low c.targets e) → Does z lawful c k j (new_array p r e)
  new_array_does p c k j r e sound ahead wr fits d can has named fit operand = expression_does z lawful low c k j (piece z lawful low c.targets e ∷ []) (Array r) p (ir_meaning.new_items z.place.classes z.low r) (λ es. core.new_array_of r (first_of es)) sound ahead wr fits (operand, tt) given
    where
      given : (rs : List ir.Run) (es : List core.Expression) (w : World) (env : ir.Env) (s : ir.State) (sc : js.Scope) (u : js.State) → Inside z.place z.code sc → OperandsAlike z w env sc (type_of_term e ∷ []) rs es → SameState z.place w s u → Sim z.direction (Valued z.place w env (Array r)) (ir_meaning.in_order rs (ir_meaning.new_items z.place.classes z.low r) env s) (shown z (core.new_array_of r (first_of es)) sc u)
      given _ _ w env s sc u inside (more_operands own q g _ _ _ told one no_operands) same = new_array_alike z lawful r d can has named own fit q g w env s sc u inside (more_operands own q g [] [] [] told one no_operands) same

  -- an array with these items
  pub array_value_does : (p : Position) (c : Context) (k : Destination) (j : ℕ) (r : ArrayRef) (ts : Terms) → Sound z.is_mutable c → Ahead c j → Writes c.written k → FitsIn (usable z) k (Array r) → HasDimensions r → (usable z).arrays ≡ true → (usable z).helper (codes "$A") ≡ true → has_base (usable z) r.base ≡ true → length (types_of ts) < 2 ^ 31 → StandForEach z (element_type r) (types_of ts) → OperandsDo z lawful c j (list_of z lawful low c.targets ts) → Does z lawful c k j (array_value p r ts)
  array_value_does p c k j r ts sound ahead wr fits d can has named short fit ds w env s sc u ready same = subst (λ os. Ends z lawful c c.scope k w sc (ir_meaning.in_order (ir_meaning.operands z.place.classes z.low ts) act env s) (then_use (spill os j) (λ es. finish k p (Array r) false (text es))).statements sc u) (sym (operands-list z lawful low c.targets ts)) (subst (λ rs. Ends z lawful c c.scope k w sc (ir_meaning.in_order rs act env s) (then_use (spill (operands_in z lawful (list_of z lawful low c.targets ts)) j) (λ es. finish k p (Array r) false (text es))).statements sc u) (sym (runs-list z lawful low c.targets ts)) (expression_does z lawful low c k j (list_of z lawful low c.targets ts) (Array r) p act text sound ahead wr fits ds given w env s sc u ready same))
    where
      act : List ir.Value → ir.Run
      act = ir_meaning.made_array r

      text : List core.Expression → core.Expression
      text es = core.array_of r (expressions_of (coerced_items (element_type r) (types_of ts) es))

      given : (rs : List ir.Run) (es : List core.Expression) (w : World) (env : ir.Env) (s : ir.State) (sc : js.Scope) (u : js.State) → Inside z.place z.code sc → OperandsAlike z w env sc (types z lawful (list_of z lawful low c.targets ts)) rs es → SameState z.place w s u → Sim z.direction (Valued z.place w env (Array r)) (ir_meaning.in_order rs act env s) (shown z (text es) sc u)
      given rs es w env s sc u inside alike same = array_alike z lawful r d can has named (types_of ts) fit.0 short rs (coerced_items (element_type r) (types_of ts) es) (coerced_items (element_type r) (types_of ts) es) refl w env s sc u inside (items_coerced z lawful.base w env sc inside (element_type r) (types_of ts) rs es fit.0 fit.1 (subst (λ is. OperandsAlike z w env sc is rs es) (sym (types-list z lawful low c.targets ts)) alike)) same

  -- the length of an array
  pub length_does : (p : Position) (c : Context) (k : Destination) (j : ℕ) (e : Term) → Sound z.is_mutable c → Ahead c j → Writes c.written k → FitsIn (usable z) k Int → OperandDoes z lawful c j (receiver_piece z lawful low c.targets e) → Does z lawful c k j (array_length p e)
  length_does p c k j e sound ahead wr fits operand w env s sc u ready same = subst (λ o. Ends z lawful c c.scope k w sc o (into z.is_mutable z.code.sure c.targets k j (array_length p e)).statements sc u) (sym (sure_run z lawful low e ir_meaning.array_length_of [] w env s sc c.scope ready.sees)) (expression_does z lawful low c k j (receiver_piece z lawful low c.targets e ∷ []) Int p ir_meaning.array_length_of (λ es. core.length_of (first_of es)) sound ahead wr fits (operand, tt) given w env s sc u ready same)
    where
      given : (rs : List ir.Run) (es : List core.Expression) (w : World) (env : ir.Env) (s : ir.State) (sc : js.Scope) (u : js.State) → Inside z.place z.code sc → OperandsAlike z w env sc ((receiver_piece z lawful low c.targets e).here.tpe ∷ []) rs es → SameState z.place w s u → Sim z.direction (Valued z.place w env Int) (ir_meaning.in_order rs ir_meaning.array_length_of env s) (shown z (core.length_of (first_of es)) sc u)
      given _ _ w env s sc u inside (more_operands own q g _ _ _ told one no_operands) same = length_alike z lawful own q g w env s sc u (more_operands own q g [] [] [] told one no_operands) same

  receiver-fits : (c : Context) (e : Term) (r : ArrayRef) → Fits (Array r) (type_of_term e) → Fits (Array r) (receiver_piece z lawful low c.targets e).here.tpe
  receiver-fits c e r h = subst (Fits (Array r)) (sym (received-type (is_sure z.code.sure e) (piece z lawful low c.targets e).here)) h

  -- an item of an array
  pub item_does : (p : Position) (c : Context) (k : Destination) (j : ℕ) (e i : Term) (t : IrType) → Sound z.is_mutable c → Ahead c j → Writes c.written k → FitsIn (usable z) k t → (usable z).helper (codes "$get") ≡ true → ItemsOf (type_of_term e) t → Fits Int (type_of_term i) → OperandDoes z lawful c j (receiver_piece z lawful low c.targets e) → OperandDoes z lawful c j (piece z lawful low c.targets i) → Does z lawful c k j (array_select p e i t)
  item_does p c k j e i t sound ahead wr fits has its index array other w env s sc u ready same = subst (λ o. Ends z lawful c c.scope k w sc o (into z.is_mutable z.code.sure c.targets k j (array_select p e i t)).statements sc u) (sym (sure_run z lawful low e (ir_meaning.select_item z.place.classes z.low) (ir_meaning.step z.place.classes z.low i ∷ []) w env s sc c.scope ready.sees)) (expression_does z lawful low c k j (receiver_piece z lawful low c.targets e ∷ piece z lawful low c.targets i ∷ []) t p (ir_meaning.select_item z.place.classes z.low) (λ es. core.element_of (first_of es) (second_of es)) sound ahead wr fits (array, (other, tt)) given w env s sc u ready same)
    where
      given : (rs : List ir.Run) (es : List core.Expression) (w : World) (env : ir.Env) (s : ir.State) (sc : js.Scope) (u : js.State) → Inside z.place z.code sc → OperandsAlike z w env sc ((receiver_piece z lawful low c.targets e).here.tpe ∷ type_of_term i ∷ []) rs es → SameState z.place w s u → Sim z.direction (Valued z.place w env t) (ir_meaning.in_order rs (ir_meaning.select_item z.place.classes z.low) env s) (shown z (core.element_of (first_of es) (second_of es)) sc u)
      given _ _ w env s sc u inside (more_operands own q g _ _ _ told one (more_operands place o h _ _ _ also next no_operands)) same = subst (λ v. Sim z.direction (Valued z.place w env v) (ir_meaning.in_order (q ∷ o ∷ []) (ir_meaning.select_item z.place.classes z.low) env s) (shown z (core.element_of g h) sc u)) its.element (item_alike z lawful its.reference its.dimensions has own place (receiver-fits c e its.reference its.fits) index q o g h w env s sc u inside (more_operands own q g (place ∷ []) (o ∷ []) (h ∷ []) told one (more_operands place o h [] [] [] also next no_operands)) same)

  -- an item of an array that is set: the array, the index, the new value, and the call of the helper that sets it
  pub item_set_does : (p q : Position) (c : Context) (j : ℕ) (d i : Term) (t : IrType) (e : Term) → Sound z.is_mutable c → Ahead c j → can_put (usable z) t ≡ true → ItemsOf (type_of_term d) t → Fits Int (type_of_term i) → StandsFor z t (type_of_term e) → OperandDoes z lawful c j (receiver_piece z lawful low c.targets d) → OperandDoes z lawful c j (piece z lawful low c.targets i) → OperandDoes z lawful c j (piece z lawful low c.targets e) → Does z lawful c discard j (assign p (array_select q d i t) e)
  item_set_does p q c j d i t e sound ahead has its index stands array other value w env s sc u ready same = subst (λ o. Ends z lawful c c.scope discard w sc o (into z.is_mutable z.code.sure c.targets discard j (assign p (array_select q d i t) e)).statements sc u) (sym (sure_run z lawful low d act (ir_meaning.step z.place.classes z.low i ∷ ir_meaning.step z.place.classes z.low e ∷ []) w env s sc c.scope ready.sees)) (of_operands z lawful c discard (receiver_piece z lawful low c.targets d ∷ piece z lawful low c.targets i ∷ piece z lawful low c.targets e ∷ []) j act made sound ahead (array, (other, (value, tt))) final w env s sc u ready same)
    where
      act : List ir.Value → ir.Run
      act = ir_meaning.assign_item z.place.classes z.low

      made : List core.Expression → ℕ → Code
      made es = one (core.assign_element (Some p) t (first_of es) (second_of es) (coerced t (type_of_term e) (third_of es)))

      final : (w : World) (sc : js.Scope) → Final z lawful c discard w sc c.kept j sc w ((receiver_piece z lawful low c.targets d).here.tpe ∷ type_of_term i ∷ type_of_term e ∷ []) act made
      final from before qq n _ _ w env s sc u more so ah l g ready kb ks same (more_operands own a f _ _ _ told first (more_operands place b h _ _ _ also second (more_operands its_type m x _ _ _ tells third no_operands))) = ends-one z lawful c c.scope discard from before (ir_meaning.in_order (a ∷ b ∷ m ∷ []) act env s) (core.assign_element (Some p) t f h set) sc u (subst (λ o. Sim z.direction F o (then_do (item_setter z lawful t f h set sc u) (js.in_statement sc (λ v. js_meaning.nothing sc)))) (then_do-right (ir_meaning.in_order (a ∷ b ∷ m ∷ []) act env s)) (sim_then z.direction (Valued z.place w env NoType) F (ir_meaning.in_order (a ∷ b ∷ m ∷ []) act env s) (item_setter z lawful t f h set sc u) done (js.in_statement sc (λ v. js_meaning.nothing sc)) alike (valued_done z lawful F w env NoType sc (λ v. js_meaning.nothing sc) (throws-on z lawful c c.scope discard from w before env sc g kb ready) (λ y v q s u h a states. sim_done z.direction F (ir.ends (ir.gives v) env s) (js.ends js.normally sc u) (gave y v env s sc u js.normally (grows-trans from w y g h) let_go (ready-lift z c.scope c.writable w y env sc h ready) (keeps-less z c.kept discard before sc kb) states)))))
        where
          F : ir.Ended → js.StatementEnd → Type 0
          F = Came z.place z.code c c.scope discard from before

          set : core.Expression
          set = coerced t (type_of_term e) x

          operands : OperandsAlike z w env sc (own ∷ place ∷ stood t (type_of_term e) stands.0 ∷ []) (a ∷ b ∷ m ∷ []) (f ∷ h ∷ set ∷ [])
          operands = more_operands own a f _ _ _ told first (more_operands place b h _ _ _ also second (more_operands (stood t (type_of_term e) stands.0) m set [] [] [] (stood_told z lawful.base w env sc ready.sees.inside t (type_of_term e) stands.0 x tells) (stood_alike z lawful.base w env sc ready.sees.inside t (type_of_term e) stands.0 stands.1 m x third) no_operands))

          alike : Sim z.direction (Valued z.place w env NoType) (ir_meaning.in_order (a ∷ b ∷ m ∷ []) act env s) (item_setter z lawful t f h set sc u)
          alike = by t its.element has set operands
            where
              by : (v : IrType) → element_type its.reference ≡ v → can_put (usable z) v ≡ true → (x : core.Expression) → OperandsAlike z w env sc (own ∷ place ∷ stood t (type_of_term e) stands.0 ∷ []) (a ∷ b ∷ m ∷ []) (f ∷ h ∷ x ∷ []) → Sim z.direction (Valued z.place w env NoType) (ir_meaning.in_order (a ∷ b ∷ m ∷ []) act env s) (item_setter z lawful v f h x sc u)
              by v is can x operands = subst (λ k. Sim z.direction (Valued z.place w env NoType) (ir_meaning.in_order (a ∷ b ∷ m ∷ []) act env s) (item_setter z lawful k f h x sc u)) is (item_set_alike z lawful its.reference its.dimensions (subst (λ k. can_put (usable z) k ≡ true) (sym is) can) own place (stood t (type_of_term e) stands.0) (receiver-fits c d its.reference its.fits) index (subst (λ k. Fits k (stood t (type_of_term e) stands.0)) (sym its.element) (stood-fits t (type_of_term e) stands.0)) a b m f h x w env s sc u ready.sees.inside operands same)
