-- Arrays: what the acts of the IR come to, the expressions come to.
use Rattle.std.proofs.Common.{◌≡◌, ℕ, suc, arith, Bool, true, false, List, [], ◌∷◌, ◌++◌, length, slice_get, Some, Option, refl, sym, ap, ◌∙◌, subst, if◌then◌else◌}
use Rattle.std.specs.Prelude.{◌<◌, ◌≤◌, ◌^◌, pos, codes, FitsSigned}
use Rattle.std.specs.Int.{w32}
use Rattle.std.proofs.lemmas.Bool.{or_right}
use Rattle.outcomes.specs.Outcome.{Out, done, wrong, then_do}
use Rattle.outcomes.specs.Agreement.{Sim}
use Rattle.outcomes.proofs.Simulation.{sim_done, sim_wrong, sim_weaken}
use Rattle.ir_mean.specs.Meaning as ir_meaning
use Rattle.ir_mean.specs.States as ir
use Rattle.js_mean.specs.Meaning as js_meaning
use Rattle.js_mean.specs.Objects as js_objects
use Rattle.js_mean.specs.States as js
use Rattle.js_tree.specs.Terms as tree
use Rattle.sj_core.specs.Terms as core
use Rattle.sj_core.specs.Views.{expressions_of}
use Rattle.agree_body_rules.specs.Built.{has_base, is_based, can_cast, may_make}
use Rattle.agree_body_rules.proofs.RulesGive.{each_made}
use Rattle.agree_body_rules.specs.Boxes.{is_boxed, any_item_boxed}
use Rattle.agree_body_rules.specs.Coercions.{is_char, coerced, coerced_items}
use Rattle.agree_body_rules.specs.Desugar.{types_of}
use Rattle.agree_body_rules.specs.Rules.{AllFit}
use Rattle.agree_body_rules.specs.Standing.{Fits}
use Rattle.agree_body_rules.specs.Templates.{zero_template, element_setter, expression_template, expression_templates}
use Rattle.agree_body_rules.specs.Tests.{base_template, array_text}
use Rattle.agree_body_rules.specs.Typing.{HasDimensions, AreDimensions}
use Rattle.sj_emit_help_spec.specs.Helpers.{helper_name}
use Rattle.sj_emit_help_spec.specs.declared.kinds.Helper.TheVariants.{ArrayClass, MakeArray, Get}
use Rattle.sj_names.specs.Bases.{spelled_base}
use Rattle.sj_names.specs.declared.references.ArrayRef.{ArrayRef}
use Rattle.sj_names.specs.declared.references.BaseRef.{BaseRef}
use Rattle.sj_trees.specs.Term.{Terms, no_terms, more_terms}
use Rattle.sj_trees.specs.TypeOf.{type_of_term}
use Rattle.sj_trees.specs.Types.{element_type}
use Rattle.sj_trees.specs.declared.types.IrType.{IrType}
use Rattle.sj_trees.specs.declared.types.IrType.TheVariants.{Any, Undefined, Null, Nothing, Boolean, Char, Byte, Short, Int, Long, String, Class, Array, NoType}
use Rattle.agree_plain_trees.specs.Settings.{Place, TopHolds, Setting, shown, usable, Inside, SameStored, same_object, same_array, SameArray, SameItems, no_items, more_items, StandsForBase, SameState, Valued, valued, Based, Lawful, a_helper, a_test, a_cast, some_constants, array_links, top_function, depth_of, zero_shown, setting_helper, MayBox}
use Rattle.agree_plain_trees.specs.Standing.{suits, Takes}
use Rattle.agree_plain_trees.specs.Worlds.{ArrayAt}
use Rattle.agree_plain_trees.proofs.Boxes.{stands-for, stood, stood-fits, stood_told, stood_alike}
use Rattle.agree_plain_trees.proofs.Heaps.{base-carry, items-length}
use Rattle.agree_plain_trees.proofs.Orders.{ActsAlike, OperandsAlike, no_operands, more_operands, all_shown, in_order_alike, in_order-then, valued-weaken}
use Rattle.agree_plain_trees.proofs.Templates.{fits-exact}
use Rattle.agree_plain_trees.proofs.Tests.{test_alike, cast_alike}
use Rattle.agree_plain_trees.proofs.Tops.{row_shown, top_found, top_seen}
use Rattle.agree_plain_trees.proofs.Worlds.{World, Grows, grows-refl, SameValue, SameValues, no_values, one_more, Stands, same_number, same_reference, value-fits}

-- an expression that gives its value in front of others
pub in_order-given : (e : js.Evaluation) (es : List js.Evaluation) (act : List js.Value → js.Evaluation) (x : js.Value) (sc : js.Scope) (u : js.State) → e sc u ≡ done (js.gives x u) → js_meaning.in_order (e ∷ es) act sc u ≡ js_meaning.in_order es (λ xs. act (x ∷ xs)) sc u
in_order-given e es act x sc u h = ap (λ o. then_do o (js.with_value (λ x. js_meaning.in_order es (λ xs. act (x ∷ xs)) sc))) h

-- items where each is expected to be of one type
abbrev pub TakeEach : IrType → List IrType → Type 0
TakeEach t [] = Unit {0}
TakeEach t (own ∷ owns) = Takes t own × TakeEach t owns

abbrev pub MayBoxEach : Setting → IrType → List IrType → Type 0
MayBoxEach z t [] = Unit {0}
MayBoxEach z t (own ∷ owns) = MayBox z t own × MayBoxEach z t owns

abbrev pub StandForEach : Setting → IrType → List IrType → Type 0
StandForEach z t owns = TakeEach t owns × MayBoxEach z t owns

abbrev pub each_stood : (t : IrType) (owns : List IrType) → TakeEach t owns → List IrType
each_stood t [] h = []
each_stood t (own ∷ owns) h = stood t own h.0 ∷ each_stood t owns h.1

pub stand-for-each : (z : Setting) → Lawful z → (ts : Terms) (t : IrType) → may_make (usable z) (any_item_boxed t ts) ≡ true → AllFit z.place.typing ts t → StandForEach z t (types_of ts)
stand-for-each z lawful no_terms t may h = (tt, tt)
stand-for-each z lawful (more_terms e ts) t may h = let parts = each_made (usable z) (is_boxed t e) (any_item_boxed t ts) may in let own = stands-for z lawful t (type_of_term e) h.0 parts.0 in let others = stand-for-each z lawful ts t parts.1 h.1 in ((own.0, others.0), (own.1, others.1))

-- values at these types are items
pub items_given : (w : World) (t : IrType) (owns : List IrType) (h : TakeEach t owns) (vs : List ir.Value) (xs : List js.Value) → SameValues w (each_stood t owns h) vs xs → SameItems w t vs xs
items_given w t [] h _ _ no_values = no_items
items_given w t (own ∷ owns) h _ _ (one_more _ v x _ vs xs a others) = more_items v x vs xs (value-fits w t (stood t own h.0) v x (stood-fits t own h.0) a) (items_given w t owns h.1 vs xs others)

pub items_counted : (w : World) (t : IrType) (owns : List IrType) (h : TakeEach t owns) (vs : List ir.Value) (xs : List js.Value) → SameValues w (each_stood t owns h) vs xs → length vs ≡ length owns
items_counted w t [] h _ _ no_values = refl
items_counted w t (own ∷ owns) h _ _ (one_more _ v x _ vs xs a others) = ap suc (items_counted w t owns h.1 vs xs others)

-- an int tells each number below 2 ^ 31
pub counts-fit : (n : ℕ) → n < 2 ^ 31 → FitsSigned w32 (pos n)
counts-fit n h = record { sfits = omega arith }

zero_seen : (z : Setting) (t : IrType) (sc : js.Scope) (u : js.State) → js_meaning.evaluate z.place.program z.js_low (zero_template t) sc u ≡ done (js.gives (zero_shown t) u)
zero_seen z Any sc u = refl
zero_seen z Undefined sc u = refl
zero_seen z Null sc u = refl
zero_seen z Nothing sc u = refl
zero_seen z Boolean sc u = refl
zero_seen z Char sc u = refl
zero_seen z Byte sc u = refl
zero_seen z Short sc u = refl
zero_seen z Int sc u = refl
zero_seen z Long sc u = refl
zero_seen z String sc u = refl
zero_seen z (Class c) sc u = refl
zero_seen z (Array r) sc u = refl
zero_seen z NoType sc u = refl

setter_is : (t : IrType) → helper_name (setting_helper t) ≡ element_setter t
setter_is Any = refl
setter_is Undefined = refl
setter_is Null = refl
setter_is Nothing = refl
setter_is Boolean = refl
setter_is Char = refl
setter_is Byte = refl
setter_is Short = refl
setter_is Int = refl
setter_is Long = refl
setter_is String = refl
setter_is (Class c) = refl
setter_is (Array r) = refl
setter_is NoType = refl

-- the helpers that write items are functions
setter_held : (p : Place) (owned : ℕ → Option js.Stored) (t : IrType) (cell : js.Cell) → TopHolds p owned (a_helper (setting_helper t)) cell → cell ≡ js.holds false (top_function p (a_helper (setting_helper t)))
setter_held p owned Any cell h = h
setter_held p owned Undefined cell h = h
setter_held p owned Null cell h = h
setter_held p owned Nothing cell h = h
setter_held p owned Boolean cell h = h
setter_held p owned Char cell h = h
setter_held p owned Byte cell h = h
setter_held p owned Short cell h = h
setter_held p owned Int cell h = h
setter_held p owned Long cell h = h
setter_held p owned String cell h = h
setter_held p owned (Class c) cell h = h
setter_held p owned (Array r) cell h = h
setter_held p owned NoType cell h = h

module _ (z : Setting) (law : Based z) where
  abbrev base_of : BaseRef → js.Evaluation
  base_of b = js_meaning.evaluate z.place.program z.js_low (base_template b)

  -- the value that stands for a base, where its name is used
  pub record BaseSeen (w : World) (b : BaseRef) (sc : js.Scope) (u : js.State) : Type 0 where
    pub value : js.Value
    pub is : base_of b sc u ≡ done (js.gives value u)
    pub stands : StandsForBase w.owned b value

  letter_seen : (w : World) (b : BaseRef) (sc : js.Scope) (u : js.State) → base_template b ≡ tree.text_literal (spelled_base b) → StandsForBase w.owned b (js.text (spelled_base b)) → BaseSeen w b sc u
  letter_seen w b sc u h k = record { value = js.text (spelled_base b); is = ap (λ e. js_meaning.evaluate z.place.program z.js_low e sc u) h; stands = k }

  pub base_seen : (w : World) (b : BaseRef) → has_base (usable z) b ≡ true → (s : ir.State) (sc : js.Scope) (u : js.State) → Inside z.place z.code sc → SameState z.place w s u → BaseSeen w b sc u
  base_seen w BaseRef.Boolean h s sc u inside same = letter_seen w BaseRef.Boolean sc u refl refl
  base_seen w BaseRef.Char h s sc u inside same = letter_seen w BaseRef.Char sc u refl refl
  base_seen w BaseRef.Byte h s sc u inside same = letter_seen w BaseRef.Byte sc u refl refl
  base_seen w BaseRef.Short h s sc u inside same = letter_seen w BaseRef.Short sc u refl refl
  base_seen w BaseRef.Int h s sc u inside same = letter_seen w BaseRef.Int sc u refl refl
  base_seen w BaseRef.Long h s sc u inside same = letter_seen w BaseRef.Long sc u refl refl
  base_seen w (BaseRef.Class c) h s sc u inside same =
      let held = same.tops z.code.file (some_constants c) (or_right ((usable z).live c) ((usable z).bases c) h) in record {
        value = js.object held.address;
        is = top_found z law (some_constants c) true (js.object held.address) sc u h inside held.held;
        stands = record { address = held.address; constants = held.constants; is = refl; owned_there = held.owned_there; marked = held.marked };
      }

  depth_seen : (r : ArrayRef) → HasDimensions r → (sc : js.Scope) (u : js.State) → js_meaning.evaluate z.place.program z.js_low (tree.number_literal (pos r.dimensions)) sc u ≡ done (js.gives (depth_of r) u)
  depth_seen r h sc u = ap (λ (b : Bool). if b then done (js.gives (js.number (pos r.dimensions)) u) else wrong) (fits-exact (pos r.dimensions) (counts-fit r.dimensions (small r.dimensions h.1)))
    where
      small : (n : ℕ) → n ≤ 255 → n < 2 ^ 31
      small n h = omega arith

  -- the arguments that tell a type of arrays, in front of others and behind them
  told_first : (r : ArrayRef) → HasDimensions r → (es : List js.Evaluation) (act : List js.Value → js.Evaluation) (w : World) (sc : js.Scope) (u : js.State) (base : BaseSeen w r.base sc u) → js_meaning.in_order (js_meaning.evaluate z.place.program z.js_low (tree.number_literal (pos r.dimensions)) ∷ base_of r.base ∷ es) act sc u ≡ js_meaning.in_order es (λ xs. act (depth_of r ∷ base.value ∷ xs)) sc u
  told_first r d es act w sc u base = in_order-given (js_meaning.evaluate z.place.program z.js_low (tree.number_literal (pos r.dimensions))) (base_of r.base ∷ es) act (depth_of r) sc u (depth_seen r d sc u) ∙ in_order-given (base_of r.base) es (λ xs. act (depth_of r ∷ xs)) base.value sc u base.is

  base_later : (w y : World) (b : BaseRef) (x : js.Value) → Grows w y → StandsForBase w.owned b x → StandsForBase y.owned b x
  base_later w y b x g h = base-carry w.owned y.owned g.owns b x h

  -- items as they are coerced
  module _ (from : World) (env : ir.Env) (sc : js.Scope) (inside : Inside z.place z.code sc) where
    pub items_coerced : (t : IrType) (owns : List IrType) (runs : List ir.Run) (es : List core.Expression) (h : TakeEach t owns) → MayBoxEach z t owns → OperandsAlike z from env sc owns runs es → OperandsAlike z from env sc (each_stood t owns h) runs (coerced_items t owns es)
    items_coerced t _ _ _ h may no_operands = no_operands
    items_coerced t _ _ _ h may (more_operands own run e owns runs es told one others) = more_operands (stood t own h.0) run (coerced t own e) (each_stood t owns h.1) runs (coerced_items t owns es) (stood_told z law from env sc inside t own h.0 e told) (stood_alike z law from env sc inside t own h.0 may.0 run e one) (items_coerced t owns runs es h.1 may.1 others)

module _ (z : Setting) (lawful : Lawful z) where
  abbrev law : Based z
  law = lawful.base

  abbrev argument : tree.Expression → js.Evaluation
  argument = js_meaning.evaluate z.place.program z.js_low

  -- a new array of this length
  pub new_array_alike : (r : ArrayRef) → HasDimensions r → (usable z).arrays ≡ true → (usable z).helper (helper_name MakeArray) ≡ true → has_base (usable z) r.base ≡ true → (own : IrType) → Fits Int own → (q : ir.Run) (e : core.Expression) (w : World) (env : ir.Env) (s : ir.State) (sc : js.Scope) (u : js.State) → Inside z.place z.code sc → OperandsAlike z w env sc (own ∷ []) (q ∷ []) (e ∷ []) → SameState z.place w s u → Sim z.direction (Valued z.place w env (Array r)) (ir_meaning.in_order (q ∷ []) (ir_meaning.new_items z.place.classes z.low r) env s) (shown z (core.new_array_of r e) sc u)
  new_array_alike r d can has named own f q e w env s sc u inside operand same = subst (λ o. Sim z.direction (Valued z.place w env (Array r)) (ir_meaning.in_order (q ∷ []) (ir_meaning.new_items z.place.classes z.low r) env s) o) (sym js_is) (in_order_alike z w w env sc w (own ∷ []) (Array r) (q ∷ []) (e ∷ []) (ir_meaning.new_items z.place.classes z.low r) act operand acts w s u (grows-refl w) (grows-refl w) (grows-refl w) same)
    where
      fun : js.Value
      fun = top_function z.place (a_helper MakeArray)

      base : BaseSeen z law w r.base sc u
      base = base_seen z law w r.base named s sc u inside same

      behind : List js.Value → List js.Value → js.Evaluation
      behind xs ys = js_meaning.call z.place.program z.js_low fun (depth_of r ∷ base.value ∷ xs ++ ys)

      act : List js.Value → js.Evaluation
      act xs = js_meaning.in_order (argument (zero_template (element_type r)) ∷ []) (behind xs)

      js_is : shown z (core.new_array_of r e) sc u ≡ js_meaning.in_order (all_shown z (e ∷ [])) act sc u
      js_is = ap (λ o. then_do o (js.with_value (λ g. js_meaning.in_order (argument (tree.number_literal (pos r.dimensions)) ∷ argument (base_template r.base) ∷ shown z e ∷ argument (zero_template (element_type r)) ∷ []) (js_meaning.call z.place.program z.js_low g) sc))) (top_seen z law (a_helper MakeArray) fun sc u has inside (same.tops z.code.file (a_helper MakeArray) has)) ∙ told_first z law r d (shown z e ∷ argument (zero_template (element_type r)) ∷ []) (js_meaning.call z.place.program z.js_low fun) w sc u base

      acts : ActsAlike z w w env (own ∷ []) (Array r) (ir_meaning.new_items z.place.classes z.low r) act sc
      acts y _ _ s u g (one_more _ v x _ _ _ a no_values) same = subst (λ o. Sim z.direction (Valued z.place w env (Array r)) (ir_meaning.new_items z.place.classes z.low r (v ∷ []) env s) o) (sym (in_order-given (argument (zero_template (element_type r))) [] (behind (x ∷ [])) (zero_shown (element_type r)) sc u (zero_seen z (element_type r) sc u))) (sim_weaken z.direction (Valued z.place y env (Array r)) (Valued z.place w env (Array r)) _ _ (λ a b. valued-weaken z w y env (Array r) a b g) (lawful.makes_arrays can has r d y v x base.value env s u (value-fits y Int own v x f a) (base_later z law w y r.base base.value g base.stands) same))

  -- an array with these items
  pub array_alike : (r : ArrayRef) → HasDimensions r → (usable z).arrays ≡ true → (usable z).helper (helper_name ArrayClass) ≡ true → has_base (usable z) r.base ≡ true → (owns : List IrType) (fit : TakeEach (element_type r) owns) → length owns < 2 ^ 31 → (qs : List ir.Run) (es es' : List core.Expression) → es ≡ es' → (w : World) (env : ir.Env) (s : ir.State) (sc : js.Scope) (u : js.State) → Inside z.place z.code sc → OperandsAlike z w env sc (each_stood (element_type r) owns fit) qs es' → SameState z.place w s u → Sim z.direction (Valued z.place w env (Array r)) (ir_meaning.in_order qs (ir_meaning.made_array r) env s) (shown z (core.array_of r (expressions_of es)) sc u)
  array_alike r d can has named owns fit short qs es es' are w env s sc u inside operands same = subst (λ o. Sim z.direction (Valued z.place w env (Array r)) (ir_meaning.in_order qs (ir_meaning.made_array r) env s) o) (sym js_is) (in_order_alike z w w env sc w (each_stood (element_type r) owns fit) (Array r) qs es' (ir_meaning.made_array r) act operands acts w s u (grows-refl w) (grows-refl w) (grows-refl w) same)
    where
      base : BaseSeen z law w r.base sc u
      base = base_seen z law w r.base named s sc u inside same

      made : js.Value → js.Evaluation
      made x = js_meaning.construct_value z.place.program z.js_low (js.class (array_links z.place)) (depth_of r ∷ base.value ∷ x ∷ [])

      act : List js.Value → js.Evaluation
      act xs here u = then_do (js_meaning.list_made xs here u) (js.with_value (λ x. made x sc))

      items : List core.Expression → js.Evaluation
      items es = js_meaning.in_order (all_shown z es) js_meaning.list_made

      js_is : shown z (core.array_of r (expressions_of es)) sc u ≡ js_meaning.in_order (all_shown z es') act sc u
      js_is = ap (λ o. then_do o (js.with_value (λ g. js_meaning.in_order (argument (tree.number_literal (pos r.dimensions)) ∷ argument (base_template r.base) ∷ argument (tree.list_of (expression_templates z.place.name z.place.label (usable z).lookup (expressions_of es))) ∷ []) (js_meaning.construct_value z.place.program z.js_low g) sc))) (top_seen z law (a_helper ArrayClass) (js.class (array_links z.place)) sc u has inside (same.tops z.code.file (a_helper ArrayClass) has)) ∙ told_first z law r d (argument (tree.list_of (expression_templates z.place.name z.place.label (usable z).lookup (expressions_of es))) ∷ []) (js_meaning.construct_value z.place.program z.js_low (js.class (array_links z.place))) w sc u base ∙ ap (λ args. then_do (js_meaning.in_order args js_meaning.list_made sc u) (js.with_value (λ x. made x sc))) (row_shown z es ∙ ap (all_shown z) are) ∙ in_order-then (all_shown z es') js_meaning.list_made (λ x. made x sc) sc u

      acts : ActsAlike z w w env (each_stood (element_type r) owns fit) (Array r) (ir_meaning.made_array r) act sc
      acts y vs xs s u g alike same = sim_weaken z.direction (Valued z.place y env (Array r)) (Valued z.place w env (Array r)) _ _ (λ a b. valued-weaken z w y env (Array r) a b g) (lawful.gives_arrays can has r d y vs xs base.value env s u (items_given y (element_type r) owns fit vs xs alike) (subst (λ n. n < 2 ^ 31) (sym (items_counted y (element_type r) owns fit vs xs alike)) short) (base_later z law w y r.base base.value g base.stands) same)

  -- the length of an array
  abbrev length_read : js.Scope → js.Value → js.State → Out js.ExpressionEnd
  length_read sc x u = js_meaning.read_property z.place.program (codes "length") (x ∷ []) sc u

  one-list : (r : ArrayRef) (vs ws : List ir.Value) → ◌≡◌ {A = Option ir.Stored} (Some (ir.array r vs)) (Some (ir.array r ws)) → vs ≡ ws
  one-list r vs ws e = cc

  items_measured : (base y : World) (env : ir.Env) (sc : js.Scope) (s : ir.State) (u : js.State) (k : ArrayAt) (vs : List ir.Value) → Grows base y → SameState z.place y s u → SameArray z.place y k (Some (ir.array k.kind vs)) (slice_get u.heap k.items) → Sim z.direction (Valued z.place base env Int) (done (ir.ends (ir.gives (ir.number (pos (length vs)))) env s)) (length_read sc (js.object k.items) u)
  items_measured base y env sc s u k vs g same f = subst (λ o. Sim z.direction (Valued z.place base env Int) (done (ir.ends (ir.gives (ir.number (pos (length vs)))) env s)) (js_meaning.value_or_wrong (js_objects.stored_property z.place.program o (codes "length")) sc u)) (sym f.shown) (sim_done z.direction (Valued z.place base env Int) (ir.ends (ir.gives (ir.number (pos (length vs)))) env s) (js.gives (js.number (pos (length f.items))) u) (valued y (ir.number (pos (length vs))) (js.number (pos (length f.items))) s u g (subst (λ n. SameValue y Int (ir.number (pos (length vs))) (js.number (pos n))) (ap (λ ws. length ws) (one-list k.kind vs f.values f.stored) ∙ items-length y (element_type k.kind) f.values f.items f.alike) (record { stands = same_number (pos (length vs)) (counts-fit (length vs) (subst (λ ws. length ws < 2 ^ 31) (sym (one-list k.kind vs f.values f.stored)) f.short)); suits = refl; shaped = tt })) same))

  measured : (base y : World) (env : ir.Env) (sc : js.Scope) (s : ir.State) (u : js.State) (c : List ℕ) (n : Option ArrayAt) (o : Option ir.Stored) (q : Option js.Stored) → Grows base y → SameState z.place y s u → SameStored z.place y c n o q → ((k : ArrayAt) → n ≡ Some k → SameArray z.place y k o (slice_get u.heap k.items)) → Sim z.direction (Valued z.place base env Int) (ir_meaning.value_or_wrong (ir_meaning.length_of (ir_meaning.items_of o)) env s) (then_do (js_meaning.value_or_wrong (js_objects.stored_property z.place.program q (codes "a")) sc u) (js.with_value (length_read sc)))
  measured base y env sc s u _ _ _ _ g same (same_object c fields properties told bare fs) its = sim_wrong z.direction (Valued z.place base env Int) _
  measured base y env sc s u _ _ _ _ g same (same_array k items properties told bare tells) its = subst (λ v. Sim z.direction (Valued z.place base env Int) (done (ir.ends (ir.gives (ir.number (pos (length items)))) env s)) (then_do (js_meaning.value_or_wrong (js_objects.value_on (js_objects.or_value v (js_objects.method_on z.place.program (array_links z.place) (codes "a"))) (codes "a")) sc u) (js.with_value (length_read sc)))) (sym tells.items) (items_measured base y env sc s u k items g same (its k refl))

  pub length_alike : (own : IrType) (q : ir.Run) (e : core.Expression) (w : World) (env : ir.Env) (s : ir.State) (sc : js.Scope) (u : js.State) → OperandsAlike z w env sc (own ∷ []) (q ∷ []) (e ∷ []) → SameState z.place w s u → Sim z.direction (Valued z.place w env Int) (ir_meaning.in_order (q ∷ []) ir_meaning.array_length_of env s) (shown z (core.length_of e) sc u)
  length_alike own q e w env s sc u operand same = subst (λ o. Sim z.direction (Valued z.place w env Int) (ir_meaning.in_order (q ∷ []) ir_meaning.array_length_of env s) o) (sym (in_order-then (shown z e ∷ []) (js_meaning.read_property z.place.program (codes "a")) (length_read sc) sc u)) (in_order_alike z w w env sc w (own ∷ []) Int (q ∷ []) (e ∷ []) ir_meaning.array_length_of act operand acts w s u (grows-refl w) (grows-refl w) (grows-refl w) same)
    where
      act : List js.Value → js.Evaluation
      act xs here u = then_do (js_meaning.read_property z.place.program (codes "a") xs here u) (js.with_value (length_read sc))

      acts : ActsAlike z w w env (own ∷ []) Int ir_meaning.array_length_of act sc
      acts y _ _ s u g (one_more _ v x _ _ _ a no_values) same = by v x a.stands
        where
          by : (v : ir.Value) (x : js.Value) → Stands y (is_char own) v x → Sim z.direction (Valued z.place w env Int) (ir_meaning.array_length_of (v ∷ []) env s) (act (x ∷ []) sc u)
          by _ _ (same_reference i a there) = let h = same.heaps.objects i a there in measured w y env sc s u h.class (y.arrays i) (slice_get s.heap i) (slice_get u.heap a) g same h.alike (λ k e. same.heaps.arrays i k e)
          by _ _ _ = sim_wrong z.direction (Valued z.place w env Int) _

  -- an item that is read
  pub item_alike : (r : ArrayRef) → HasDimensions r → (usable z).helper (helper_name Get) ≡ true → (own index : IrType) → Fits (Array r) own → Fits Int index → (q p : ir.Run) (e i : core.Expression) (w : World) (env : ir.Env) (s : ir.State) (sc : js.Scope) (u : js.State) → Inside z.place z.code sc → OperandsAlike z w env sc (own ∷ index ∷ []) (q ∷ p ∷ []) (e ∷ i ∷ []) → SameState z.place w s u → Sim z.direction (Valued z.place w env (element_type r)) (ir_meaning.in_order (q ∷ p ∷ []) (ir_meaning.select_item z.place.classes z.low) env s) (shown z (core.element_of e i) sc u)
  item_alike r d has own index f k q p e i w env s sc u inside operands same = subst (λ o. Sim z.direction (Valued z.place w env (element_type r)) (ir_meaning.in_order (q ∷ p ∷ []) (ir_meaning.select_item z.place.classes z.low) env s) o) (sym js_is) (in_order_alike z w w env sc w (own ∷ index ∷ []) (element_type r) (q ∷ p ∷ []) (e ∷ i ∷ []) (ir_meaning.select_item z.place.classes z.low) (js_meaning.call z.place.program z.js_low fun) operands acts w s u (grows-refl w) (grows-refl w) (grows-refl w) same)
    where
      fun : js.Value
      fun = top_function z.place (a_helper Get)

      js_is : shown z (core.element_of e i) sc u ≡ js_meaning.in_order (shown z e ∷ shown z i ∷ []) (js_meaning.call z.place.program z.js_low fun) sc u
      js_is = ap (λ o. then_do o (js.with_value (λ g. js_meaning.in_order (shown z e ∷ shown z i ∷ []) (js_meaning.call z.place.program z.js_low g) sc))) (top_seen z law (a_helper Get) fun sc u has inside (same.tops z.code.file (a_helper Get) has))

      acts : ActsAlike z w w env (own ∷ index ∷ []) (element_type r) (ir_meaning.select_item z.place.classes z.low) (js_meaning.call z.place.program z.js_low fun) sc
      acts y _ _ s u g (one_more _ v x _ _ _ a (one_more _ v' x' _ _ _ b no_values)) same = sim_weaken z.direction (Valued z.place y env (element_type r)) (Valued z.place w env (element_type r)) _ _ (λ c d. valued-weaken z w y env (element_type r) c d g) (lawful.gets has r d y v v' x x' env s u (value-fits y (Array r) own v x f a) (value-fits y Int index v' x' k b) same)

  -- an item that is written, by the helper for its type
  abbrev pub item_setter : IrType → core.Expression → core.Expression → core.Expression → js.Evaluation
  item_setter t e i d = argument (tree.call_of (element_setter t) (tree.expression (expression_template z.place.name z.place.label (usable z).lookup e) (tree.expression (expression_template z.place.name z.place.label (usable z).lookup i) (tree.expression (expression_template z.place.name z.place.label (usable z).lookup d) tree.no_expressions))))

  pub item_set_alike : (r : ArrayRef) → HasDimensions r → (usable z).helper (element_setter (element_type r)) ≡ true → (own index value : IrType) → Fits (Array r) own → Fits Int index → Fits (element_type r) value → (q p m : ir.Run) (e i d : core.Expression) (w : World) (env : ir.Env) (s : ir.State) (sc : js.Scope) (u : js.State) → Inside z.place z.code sc → OperandsAlike z w env sc (own ∷ index ∷ value ∷ []) (q ∷ p ∷ m ∷ []) (e ∷ i ∷ d ∷ []) → SameState z.place w s u → Sim z.direction (Valued z.place w env NoType) (ir_meaning.in_order (q ∷ p ∷ m ∷ []) (ir_meaning.assign_item z.place.classes z.low) env s) (item_setter (element_type r) e i d sc u)
  item_set_alike r dims has own index value f k n q p m e i d w env s sc u inside operands same = subst (λ o. Sim z.direction (Valued z.place w env NoType) (ir_meaning.in_order (q ∷ p ∷ m ∷ []) (ir_meaning.assign_item z.place.classes z.low) env s) o) (sym js_is) (in_order_alike z w w env sc w (own ∷ index ∷ value ∷ []) NoType (q ∷ p ∷ m ∷ []) (e ∷ i ∷ d ∷ []) (ir_meaning.assign_item z.place.classes z.low) (js_meaning.call z.place.program z.js_low fun) operands acts w s u (grows-refl w) (grows-refl w) (grows-refl w) same)
    where
      t : IrType
      t = element_type r

      there : (usable z).helper (helper_name (setting_helper t)) ≡ true
      there = ap (usable z).helper (setter_is t) ∙ has

      held : u.tops (z.place.home (a_helper (setting_helper t))) (helper_name (setting_helper t)) ≡ js.holds false (top_function z.place (a_helper (setting_helper t)))
      held = setter_held z.place w.owned t (u.tops (z.place.home (a_helper (setting_helper t))) (helper_name (setting_helper t))) (same.tops z.code.file (a_helper (setting_helper t)) there)

      fun : js.Value
      fun = top_function z.place (a_helper (setting_helper t))

      js_is : item_setter t e i d sc u ≡ js_meaning.in_order (shown z e ∷ shown z i ∷ shown z d ∷ []) (js_meaning.call z.place.program z.js_low fun) sc u
      js_is = ap (λ x. then_do (js_meaning.name_value z.place.program x sc u) (js.with_value (λ g. js_meaning.in_order (shown z e ∷ shown z i ∷ shown z d ∷ []) (js_meaning.call z.place.program z.js_low g) sc))) (sym (setter_is t)) ∙ ap (λ o. then_do o (js.with_value (λ g. js_meaning.in_order (shown z e ∷ shown z i ∷ shown z d ∷ []) (js_meaning.call z.place.program z.js_low g) sc))) (top_seen z law (a_helper (setting_helper t)) fun sc u there inside held)

      acts : ActsAlike z w w env (own ∷ index ∷ value ∷ []) NoType (ir_meaning.assign_item z.place.classes z.low) (js_meaning.call z.place.program z.js_low fun) sc
      acts y _ _ s u g (one_more _ v x _ _ _ a (one_more _ v' x' _ _ _ b (one_more _ o j _ _ _ c no_values))) same = sim_weaken z.direction (Valued z.place y env NoType) (Valued z.place w env NoType) _ _ (λ c d. valued-weaken z w y env NoType c d g) (lawful.puts r dims there y v v' o x x' j env s u (value-fits y (Array r) own v x f a) (value-fits y Int index v' x' k b) (value-fits y t value o j n c) same)

  -- whether an operand that may stand for any is an array of this reference
  pub array_test_alike : (r : ArrayRef) → HasDimensions r → (usable z).tests (Array r) ≡ true → has_base (usable z) r.base ≡ true → (own : IrType) → Fits Any own → (q : ir.Run) (e : core.Expression) (w : World) (env : ir.Env) (s : ir.State) (sc : js.Scope) (u : js.State) → Inside z.place z.code sc → OperandsAlike z w env sc (own ∷ []) (q ∷ []) (e ∷ []) → SameState z.place w s u → Sim z.direction (Valued z.place w env Boolean) (ir_meaning.in_order (q ∷ []) (ir_meaning.test z.place.classes (Array r)) env s) (shown z (core.test_of (Array r) e) sc u)
  array_test_alike r d has named own f q e w env s sc u inside operand same = subst (λ o. Sim z.direction (Valued z.place w env Boolean) (ir_meaning.in_order (q ∷ []) (ir_meaning.test z.place.classes (Array r)) env s) o) (sym js_is) (in_order_alike z w w env sc w (own ∷ []) Boolean (q ∷ []) (e ∷ []) (ir_meaning.test z.place.classes (Array r)) act operand acts w s u (grows-refl w) (grows-refl w) (grows-refl w) same)
    where
      fun : js.Value
      fun = top_function z.place (a_test (Array r))

      behind : List js.Value → List js.Value → js.Evaluation
      behind xs ys = js_meaning.call z.place.program z.js_low fun (xs ++ ys)

      act : List js.Value → js.Evaluation
      act xs = js_meaning.in_order (argument (tree.number_literal (pos r.dimensions)) ∷ argument (base_template r.base) ∷ []) (behind xs)

      js_is : shown z (core.test_of (Array r) e) sc u ≡ js_meaning.in_order (all_shown z (e ∷ [])) act sc u
      js_is = ap (λ o. then_do o (js.with_value (λ g. js_meaning.in_order (shown z e ∷ argument (tree.number_literal (pos r.dimensions)) ∷ argument (base_template r.base) ∷ []) (js_meaning.call z.place.program z.js_low g) sc))) (top_seen z law (a_test (Array r)) fun sc u has inside (same.tops z.code.file (a_test (Array r)) has))

      acts : ActsAlike z w w env (own ∷ []) Boolean (ir_meaning.test z.place.classes (Array r)) act sc
      acts y _ _ s u g (one_more _ v x _ _ _ a no_values) same = let base = base_seen z law y r.base named s sc u inside same in subst (λ o. Sim z.direction (Valued z.place w env Boolean) (ir_meaning.test z.place.classes (Array r) (v ∷ []) env s) o) (sym (told_first z law r d [] (behind (x ∷ [])) y sc u base)) (sim_weaken z.direction (Valued z.place y env Boolean) (Valued z.place w env Boolean) _ _ (λ a b. valued-weaken z w y env Boolean a b g) (lawful.array_tests r has d y v x base.value env s u (value-fits y Any own v x f a) base.stands same))

  -- a cast of such an operand to an array of this reference
  pub array_cast_alike : (r : ArrayRef) → HasDimensions r → (usable z).casts (Array r) ≡ true → has_base (usable z) r.base ≡ true → (own : IrType) → Fits Any own → (q : ir.Run) (e : core.Expression) (w : World) (env : ir.Env) (s : ir.State) (sc : js.Scope) (u : js.State) → Inside z.place z.code sc → OperandsAlike z w env sc (own ∷ []) (q ∷ []) (e ∷ []) → SameState z.place w s u → Sim z.direction (Valued z.place w env (Array r)) (ir_meaning.in_order (q ∷ []) (ir_meaning.cast z.place.classes z.low (Array r)) env s) (shown z (core.cast_of (Array r) e) sc u)
  array_cast_alike r d has named own f q e w env s sc u inside operand same = subst (λ o. Sim z.direction (Valued z.place w env (Array r)) (ir_meaning.in_order (q ∷ []) (ir_meaning.cast z.place.classes z.low (Array r)) env s) o) (sym js_is) (in_order_alike z w w env sc w (own ∷ []) (Array r) (q ∷ []) (e ∷ []) (ir_meaning.cast z.place.classes z.low (Array r)) act operand acts w s u (grows-refl w) (grows-refl w) (grows-refl w) same)
    where
      fun : js.Value
      fun = top_function z.place (a_cast (Array r))

      last : js.Evaluation
      last = argument (tree.text_literal (array_text r))

      behind : List js.Value → List js.Value → js.Evaluation
      behind xs ys = js_meaning.call z.place.program z.js_low fun (xs ++ ys)

      act : List js.Value → js.Evaluation
      act xs = js_meaning.in_order (argument (tree.number_literal (pos r.dimensions)) ∷ argument (base_template r.base) ∷ last ∷ []) (behind xs)

      js_is : shown z (core.cast_of (Array r) e) sc u ≡ js_meaning.in_order (all_shown z (e ∷ [])) act sc u
      js_is = ap (λ o. then_do o (js.with_value (λ g. js_meaning.in_order (shown z e ∷ argument (tree.number_literal (pos r.dimensions)) ∷ argument (base_template r.base) ∷ last ∷ []) (js_meaning.call z.place.program z.js_low g) sc))) (top_seen z law (a_cast (Array r)) fun sc u has inside (same.tops z.code.file (a_cast (Array r)) has))

      acts : ActsAlike z w w env (own ∷ []) (Array r) (ir_meaning.cast z.place.classes z.low (Array r)) act sc
      acts y _ _ s u g (one_more _ v x _ _ _ a no_values) same = let base = base_seen z law y r.base named s sc u inside same in subst (λ o. Sim z.direction (Valued z.place w env (Array r)) (ir_meaning.cast z.place.classes z.low (Array r) (v ∷ []) env s) o) (sym (told_first z law r d (last ∷ []) (behind (x ∷ [])) y sc u base)) (sim_weaken z.direction (Valued z.place y env (Array r)) (Valued z.place w env (Array r)) _ _ (λ a b. valued-weaken z w y env (Array r) a b g) (lawful.array_casts r has d y v x base.value env s u (value-fits y Any own v x f a) base.stands same))

  -- a test or a cast, by whether the type is one of arrays
  pub any_test_alike : (t own : IrType) → AreDimensions t → (usable z).tests t ≡ true → is_based (usable z) t ≡ true → Fits Any own → (r : ir.Run) (e : core.Expression) (w : World) (env : ir.Env) (s : ir.State) (sc : js.Scope) (u : js.State) → Inside z.place z.code sc → OperandsAlike z w env sc (own ∷ []) (r ∷ []) (e ∷ []) → SameState z.place w s u → Sim z.direction (Valued z.place w env Boolean) (ir_meaning.in_order (r ∷ []) (ir_meaning.test z.place.classes t) env s) (shown z (core.test_of t e) sc u)
  any_test_alike (Array q) own d has based f r e w env s sc u inside operand same = array_test_alike q d has based own f r e w env s sc u inside operand same
  any_test_alike t own d has based f r e w env s sc u inside operand same = test_alike z lawful t own refl has f r e w env s sc u inside operand same

  pub any_cast_alike : (t own : IrType) → AreDimensions t → can_cast (usable z) t ≡ true → is_based (usable z) t ≡ true → Fits Any own → (r : ir.Run) (e : core.Expression) (w : World) (env : ir.Env) (s : ir.State) (sc : js.Scope) (u : js.State) → Inside z.place z.code sc → OperandsAlike z w env sc (own ∷ []) (r ∷ []) (e ∷ []) → SameState z.place w s u → Sim z.direction (Valued z.place w env t) (ir_meaning.in_order (r ∷ []) (ir_meaning.cast z.place.classes z.low t) env s) (shown z (core.cast_of t e) sc u)
  any_cast_alike (Array q) own d has based f r e w env s sc u inside operand same = array_cast_alike q d has based own f r e w env s sc u inside operand same
  any_cast_alike t own d has based f r e w env s sc u inside operand same = cast_alike z lawful t own refl has f r e w env s sc u inside operand same
