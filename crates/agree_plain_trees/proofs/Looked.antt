-- Calls of methods that are looked up: a receiver, which is an instance of the class, then the arguments, and the call.
use Rattle.std.proofs.Common.{◌≡◌, ℕ, Bool, true, false, List, [], ◌∷◌, ◌&&◌, ◌||◌, slice_get, Some, None, Option, codes, refl, sym, ap, ◌∙◌, subst, if◌then◌else◌}
use Rattle.std.specs.Prelude.{not, pos, negsuc, int_le}
use Rattle.std.proofs.lemmas.Bool.{and_parts}
use Rattle.outcomes.specs.Outcome.{Lines, End, Done, Going, Wrong, Out, done, wrong, then_do}
use Rattle.outcomes.specs.Agreement.{Direction, forward, backward, Related, Sim}
use Rattle.outcomes.proofs.Sequence.{then_do-right}
use Rattle.outcomes.proofs.Simulation.{sim_done, sim_wrong, sim_then, sim_weaken}
use Rattle.ir_mean.specs.Dispatch.{is_ancestor, is_ancestor_of_any}
use Rattle.ir_mean.specs.Meaning as ir_meaning
use Rattle.ir_mean.specs.States as ir
use Rattle.ir_mean.specs.World as ir_world
use Rattle.js_mean.specs.Meaning as js_meaning
use Rattle.js_mean.specs.Objects as js_objects
use Rattle.js_mean.specs.States as js
use Rattle.js_tree.specs.Terms as tree
use Rattle.sj_core.specs.declared.callees.Callee.{Callee}
use Rattle.sj_core.specs.declared.callees.Callee.TheVariants as callees
use Rattle.sj_core.specs.Terms as core
use Rattle.sj_core.specs.Views.{expressions_of}
use Rattle.agree_body_rules.specs.Built.{can_look_up}
use Rattle.agree_body_rules.specs.Coercions.{is_char}
use Rattle.agree_body_rules.specs.Standing.{Fits, FitAll, types_referred, call_type}
use Rattle.agree_body_rules.specs.Templates.{looked_up_template, expression_template, expression_templates}
use Rattle.ir_mean.specs.Known.{is_hijacked, object}
use Rattle.sj_mangling.specs.Bindings.{method_binding}
use Rattle.sj_mangling.specs.declared.bindings.MethodBinding.TheVariants.{Entry}
use Rattle.sj_names.proofs.Same.{impossible, text-same}
use Rattle.sj_names.specs.Same.{is_same_text}
use Rattle.sj_names.specs.declared.method_names.MethodName.{MethodName}
use Rattle.sj_names.specs.declared.references.ArrayRef.{ArrayRef}
use Rattle.sj_trees.specs.Types.{class_type}
use Rattle.sj_trees.specs.declared.types.IrType.{IrType}
use Rattle.sj_trees.specs.declared.types.IrType.TheVariants.{Any, Array}
use Rattle.agree_plain_trees.specs.Settings.{Place, Setting, shown, usable, SameState, Valued, valued, thrown, Lawful, Inside, a_dispatch, top_function, SameStored, same_object, same_array, ClassTold, of_object, of_kind, HasClass, IsInstance, Finds, DispatchesAlike, LooksUp}
use Rattle.agree_plain_trees.specs.Standing.{suits}
use Rattle.agree_plain_trees.specs.Worlds.{ArrayAt, Shaped}
use Rattle.agree_plain_trees.proofs.Classes.{class_there, object_there}
use Rattle.agree_plain_trees.proofs.Orders.{OperandAlike, OperandsAlike, more_operands, operands-lift, all_shown, in_order_alike, text_of, valued-weaken}
use Rattle.agree_plain_trees.proofs.Told.{tells}
use Rattle.agree_plain_trees.proofs.Tops.{row_shown, top_seen}
use Rattle.agree_plain_trees.proofs.Worlds.{World, Grows, grows-refl, grows-trans, SameValue, Stands, same_undefined, same_null, same_boolean, same_char, same_box, same_number, same_long, same_text, same_reference, value-fits, value-lift, values-fit, SameValues}

-- no number is told by its range to be of a class that isn't hijacked
other_name : (c n : List ℕ) → is_hijacked n ≡ true → is_hijacked c ≡ false → is_same_text c n ≡ false
other_name c n h free = go (is_same_text c n) refl
  where
    go : (b : Bool) → is_same_text c n ≡ b → is_same_text c n ≡ false
    go true k = impossible (sym free ∙ ap is_hijacked (text-same c n k) ∙ h)
    go false k = k

not_small : (v : ir.Value) (c : List ℕ) → is_hijacked c ≡ false → ir_world.is_small_number v c ≡ false
not_small (ir.number z) c free = ap (λ (b : Bool). (b && int_le (negsuc 127) z && int_le z (pos 127)) || (is_same_text c (codes "java.lang.Short") && int_le (negsuc 32767) z && int_le z (pos 32767))) (other_name c (codes "java.lang.Byte") refl free) ∙ ap (λ (b : Bool). b && int_le (negsuc 32767) z && int_le z (pos 32767)) (other_name c (codes "java.lang.Short") refl free)
not_small _ c free = refl

-- what an instance of a class is by its own class
pub record OwnClass (classes : ir_world.World) (c : List ℕ) (o : Option (List ℕ)) : Type 0 where
  pub class : List ℕ
  pub is : o ≡ Some class
  pub below : is_ancestor classes class c ≡ true

own_class : (classes : ir_world.World) (c : List ℕ) (o : Option (List ℕ)) (b : Bool) → b ≡ false → (is_ancestor_of_any classes o c || b) ≡ true → OwnClass classes c o
own_class classes c None b e h = impossible (sym e ∙ h)
own_class classes c (Some d) b e h = record { class = d; is = refl; below = go (is_ancestor classes d c) b e h }
  where
    go : (a b : Bool) → b ≡ false → (a || b) ≡ true → a ≡ true
    go true b e h = refl
    go false b e h = impossible (sym e ∙ h)

some_class : (c d : List ℕ) → Some c ≡ Some d → c ≡ d
some_class c d e = cc

module _ (p : Place) (w : World) (s : ir.State) (u : js.State) (same : SameState p w s u) where
  object_told : (i a : ℕ) (d : List ℕ) → w.place i ≡ Some a → ir_world.stored_class (slice_get s.heap i) ≡ Some d → ClassTold w (ir.reference i) d
  object_told i a d there e = subst (ClassTold w (ir.reference i)) (some_class h.0 d (sym (object_there p w s u same i a there h.0 h.1).stored ∙ e)) (of_object i a h.0 there h.1)
    where
      h : (c : List ℕ) × (w.classes i ≡ Some c)
      h = class_there p w s u same i a there

  class_told : (raw : Bool) (v : ir.Value) (x : js.Value) (d : List ℕ) → Stands w raw v x → ir_world.class_of_value s v ≡ Some d → ClassTold w v d
  class_told raw _ _ d same_undefined e = of_kind ir.undefined d (λ t. e)
  class_told raw _ _ d same_null e = impossible (cc)
  class_told raw _ _ d (same_boolean b) e = of_kind (ir.boolean b) d (λ t. e)
  class_told raw _ _ d (same_char r c f) e = of_kind (ir.char c) d (λ t. e)
  class_told raw _ _ d (same_box r c a f b) e = of_kind (ir.char c) d (λ t. e)
  class_told raw _ _ d (same_number n f) e = of_kind (ir.number n) d (λ t. e)
  class_told raw _ _ d (same_long n f) e = of_kind (ir.long n) d (λ t. e)
  class_told raw _ _ d (same_text us) e = of_kind (ir.text us) d (λ t. e)
  class_told raw _ _ d (same_reference i a there) e = object_told i a d there e

  pub told_class : (v : ir.Value) (d : List ℕ) → ClassTold w v d → ir_world.class_of_value s v ≡ Some d
  told_class _ _ (of_object i a c there told) = (object_there p w s u same i a there c told).stored
  told_class _ _ (of_kind v c h) = h s

  -- an instance by the test at run time is of a class that the world tells
  pub has_class : (c : List ℕ) (own : IrType) (v : ir.Value) (x : js.Value) → is_hijacked c ≡ false → SameValue w own v x → ir_world.is_instance p.classes s v c ≡ true → HasClass p.classes w c v
  has_class c own v x free a h = record { class = d.class; told = class_told (is_char own) v x d.class a.stands d.is; below = d.below }
    where
      d : OwnClass p.classes c (ir_world.class_of_value s v)
      d = own_class p.classes c (ir_world.class_of_value s v) (ir_world.is_small_number v c) (not_small v c free) h

  -- and the other way round
  instance_is : (c : List ℕ) (v : ir.Value) → HasClass p.classes w c v → ir_world.is_instance p.classes s v c ≡ true
  instance_is c v one = ap (λ (o : Option (List ℕ)). is_ancestor_of_any p.classes o c || ir_world.is_small_number v c) (told_class v one.class one.told) ∙ ap (λ (b : Bool). b || ir_world.is_small_number v c) one.below

  pub call_is : (low : ir_meaning.Low) (c : List ℕ) (m : MethodName) (v : ir.Value) (one : HasClass p.classes w c v) (vs : List ir.Value) (env : ir.Env) → ir_meaning.call_instance p.classes low c m (v ∷ vs) env s ≡ ir_meaning.call_on p.classes low (ir_meaning.target_in p.classes (Some one.class) m) (v ∷ vs) env s
  call_is low c m v one vs env = ap (λ (b : Bool). if b then ir_meaning.call_on p.classes low (ir_meaning.target_in p.classes (ir_world.class_of_value s v) m) (v ∷ vs) env s else wrong) (instance_is c v one) ∙ ap (λ (o : Option (List ℕ)). ir_meaning.call_on p.classes low (ir_meaning.target_in p.classes o m) (v ∷ vs) env s) (told_class v one.class one.told)

pub told_lift : (w y : World) (v : ir.Value) (d : List ℕ) → Grows w y → ClassTold w v d → ClassTold y v d
told_lift w y _ _ g (of_object i a c there told) = of_object i a c (g.places i a there) (g.classes i a c there told)
told_lift w y _ _ g (of_kind v c h) = of_kind v c h

abbrev pub class_lift : (classes : ir_world.World) (w y : World) (c : List ℕ) (v : ir.Value) → Grows w y → HasClass classes w c v → HasClass classes y c v
class_lift classes w y c v g one = record { class = one.class; told = told_lift w y v one.class g one.told; below = one.below }

pub instance_lift : (classes : ir_world.World) (w y : World) (c : List ℕ) (v : ir.Value) (x : js.Value) → Grows w y → IsInstance classes w c v x → IsInstance classes y c v x
instance_lift classes w y c v x g one = record { stands = value-lift w y (class_type c) v x g one.stands; its = class_lift classes w y c v g one.its }

-- what a tree gave
abbrev value_given : ir.Ended → ir.Value
value_given (ir.ends (ir.gives v) env s) = v
value_given _ = ir.undefined

-- one side that is done is so with what it gave
related_known : {A B : Type 0} (d : Direction) (E : A → B → Type 0) (a : A) (l m : Lines) (e : End B) → Related d E l (Done a) m e → Related d (λ x b. E x b × (x ≡ a)) l (Done a) m e
related_known forward E a l m (Done b) h = (h.0, (h.1, refl))
related_known backward E a l m (Done b) h = (h.0, (h.1, refl))
related_known forward E a l m Going h = h
related_known backward E a l m Going h = h
related_known forward E a l m Wrong h = h
related_known backward E a l m Wrong h = h

sim_known : {A B : Type 0} (d : Direction) (E : A → B → Type 0) (a : A) (o : Out B) → Sim d E (done a) o → Sim d (λ x b. E x b × (x ≡ a)) (done a) o
sim_known d E a o s = record { by = related_known d E a [] o.lines o.end s.by }

-- a receiver that was taken as an instance, or threw
data Taken (p : Place) (from : World) (env : ir.Env) (own : IrType) (c : List ℕ) : ir.Ended → js.ExpressionEnd → Type 0 where
  taken : (w : World) (v : ir.Value) (x : js.Value) (s : ir.State) (u : js.State) → Grows from w → SameValue w own v x → SameState p w s u → ir_world.is_instance p.classes s v c ≡ true → Taken p from env own c (ir.ends (ir.gives v) env s) (js.gives x u)
  taken_out : (w : World) (v : ir.Value) (x : js.Value) (s : ir.State) (u : js.State) → Grows from w → SameValue w Any v x → SameState p w s u → Taken p from env own c (ir.ends (ir.throws v) env s) (js.throws x u)

module _ (z : Setting) (c : List ℕ) where
  -- a receiver that is taken as an instance of the class
  abbrev pub as_instances : ir.Run → ir.Run
  as_instances r = λ env s. ir.go_on (r env s) (ir_meaning.only_instance z.place.classes c)

  takes : (w : World) (env : ir.Env) (s : ir.State) (sc : js.Scope) (u : js.State) (own : IrType) (r : ir.Run) (e : core.Expression) → Sim z.direction (Valued z.place w env own) (r env s) (shown z e sc u) → Sim z.direction (Taken z.place w env own c) (as_instances r env s) (shown z e sc u)
  takes w env s sc u own r e one = subst (λ q. Sim z.direction F (as_instances r env s) q) (then_do-right (shown z e sc u)) (sim_then z.direction (Valued z.place w env own) F (r env s) (shown z e sc u) (ir.onward (ir_meaning.only_instance z.place.classes c)) done one each)
    where
      F : ir.Ended → js.ExpressionEnd → Type 0
      F = Taken z.place w env own c

      each : (a : ir.Ended) (b : js.ExpressionEnd) → Valued z.place w env own a b → Sim z.direction F (ir.onward (ir_meaning.only_instance z.place.classes c) a) (done b)
      each _ _ (thrown y v x s u g a states) = sim_done z.direction F (ir.ends (ir.throws v) env s) (js.throws x u) (taken_out y v x s u g a states)
      each _ _ (valued y v x s u g a states) = by (ir_world.is_instance z.place.classes s v c) refl
        where
          by : (b : Bool) → ir_world.is_instance z.place.classes s v c ≡ b → Sim z.direction F (if ir_world.is_instance z.place.classes s v c then ir.given v env s else wrong) (done (js.gives x u))
          by true k = subst (λ (b : Bool). Sim z.direction F (if b then ir.given v env s else wrong) (done (js.gives x u))) (sym k) (sim_done z.direction F (ir.ends (ir.gives v) env s) (js.gives x u) (taken y v x s u g a states k))
          by false k = subst (λ (b : Bool). Sim z.direction F (if b then ir.given v env s else wrong) (done (js.gives x u))) (sym k) (sim_wrong z.direction F _)

module _ (z : Setting) (lawful : Lawful z) (c : List ℕ) (m : MethodName) (free : is_hijacked c ≡ false) where
  abbrev act : List ir.Value → ir.Run
  act = ir_meaning.call_instance z.place.classes z.low c m

  abbrev fun : js.Value
  fun = top_function z.place (a_dispatch m)

  -- what is done with a receiver's value, by whether a primitive value may be the receiver
  abbrev behind : Bool → List core.Expression → js.Scope → js.Value → js.State → Out js.ExpressionEnd
  behind true es sc x u = js_meaning.in_order (all_shown z es) (λ xs. js_meaning.call z.place.program z.js_low fun (x ∷ xs)) sc u
  behind false es sc x u = js_meaning.call_property z.place.program z.js_low (all_shown z es) x (js_objects.callee z.place.program u x (method_binding Entry m)) sc u

  -- what an instance answers: that function runs on it, or it has the entry
  abbrev Answers : Bool → (y : World) (v : ir.Value) (x : js.Value) → IsInstance z.place.classes y c v x → js.State → Type 0
  Answers true y v x one u = DispatchesAlike z c m
  Answers false y v x one u = Finds z m y one.its.class v x u

  -- a way to call it on values of this type
  pub record Way (own : IrType) : Type 0 where
    pub callee : Callee
    pub dispatches : Bool
    pub shows : (e : core.Expression) (es : List core.Expression) (w : World) (s : ir.State) (sc : js.Scope) (u : js.State) → Inside z.place z.code sc → SameState z.place w s u → shown z (core.receiver_call callee e (expressions_of es)) sc u ≡ then_do (shown z e sc u) (js.with_value (behind dispatches es sc))
    pub answers : (y : World) (v : ir.Value) (x : js.Value) (one : IsInstance z.place.classes y c v x) (s : ir.State) (u : js.State) → SameValue y own v x → SameState z.place y s u → Answers dispatches y v x one u
    pub told : (t : IrType) (e : core.Expression) (es : core.Expressions) → tells t (text_of z (core.receiver_call callee e es)) ≡ true

  -- the arguments, and the call
  behind_alike : (b : Bool) → (ts : List IrType) → FitAll (types_referred m.params) ts → (base y : World) (env : ir.Env) (s : ir.State) (sc : js.Scope) (u : js.State) (v : ir.Value) (x : js.Value) (rs : List ir.Run) (es : List core.Expression) → Grows base y → (one : IsInstance z.place.classes y c v x) → Answers b y v x one u → OperandsAlike z y env sc ts rs es → SameState z.place y s u → Sim z.direction (Valued z.place base env (call_type m.result)) (ir_meaning.in_order rs (λ vs. act (v ∷ vs)) env s) (behind b es sc x u)
  behind_alike true ts fit base y env s sc u v x rs es g one looks others same = in_order_alike z base y env sc y ts (call_type m.result) rs es (λ vs. act (v ∷ vs)) (λ xs. js_meaning.call z.place.program z.js_low fun (x ∷ xs)) others acts y s u g (grows-refl y) (grows-refl y) same
    where
      acts : (k : World) (vs : List ir.Value) (xs : List js.Value) (s : ir.State) (u : js.State) → Grows y k → SameValues k ts vs xs → SameState z.place k s u → Sim z.direction (Valued z.place base env (call_type m.result)) (act (v ∷ vs) env s) (js_meaning.call z.place.program z.js_low fun (x ∷ xs) sc u)
      acts k vs xs s u h alike same = let one = instance_lift z.place.classes y k c v x h one in subst (λ o. Sim z.direction (Valued z.place base env (call_type m.result)) o (js_meaning.call z.place.program z.js_low fun (x ∷ xs) sc u)) (sym (call_is z.place k s u same z.low c m v one.its vs env)) (sim_weaken z.direction (Valued z.place k env (call_type m.result)) (Valued z.place base env (call_type m.result)) _ _ (λ a b. valued-weaken z base k env (call_type m.result) a b (grows-trans base y k g h)) (looks k v x one vs xs env s u (values-fit k (types_referred m.params) ts vs xs fit alike) same))
  behind_alike false ts fit base y env s sc u v x rs es g one entry others same = subst (λ o. Sim z.direction (Valued z.place base env (call_type m.result)) (ir_meaning.in_order rs (λ vs. act (v ∷ vs)) env s) (js_meaning.call_property z.place.program z.js_low (all_shown z es) x o sc u)) (sym entry.is) (in_order_alike z base y env sc y ts (call_type m.result) rs es (λ vs. act (v ∷ vs)) (js_meaning.call_with_this z.place.program z.js_low x entry.found) others acts y s u g (grows-refl y) (grows-refl y) same)
    where
      acts : (k : World) (vs : List ir.Value) (xs : List js.Value) (s : ir.State) (u : js.State) → Grows y k → SameValues k ts vs xs → SameState z.place k s u → Sim z.direction (Valued z.place base env (call_type m.result)) (act (v ∷ vs) env s) (js_meaning.call_with_this z.place.program z.js_low x entry.found xs sc u)
      acts k vs xs s u h alike same = subst (λ o. Sim z.direction (Valued z.place base env (call_type m.result)) o (js_meaning.call_with_this z.place.program z.js_low x entry.found xs sc u)) (sym (call_is z.place k s u same z.low c m v (class_lift z.place.classes y k c v h one.its) vs env)) (sim_weaken z.direction (Valued z.place k env (call_type m.result)) (Valued z.place base env (call_type m.result)) _ _ (λ a b. valued-weaken z base k env (call_type m.result) a b (grows-trans base y k g h)) (entry.calls k h vs xs env sc s u (values-fit k (types_referred m.params) ts vs xs fit alike) same))

  module _ (can : can_look_up (usable z) c m ≡ true) where
    -- where a primitive value may be the receiver, the function that tells it apart is there
    dispatched_there : (usable z).lookup.has_hijacked c ≡ true → (usable z).dispatched m ≡ true
    dispatched_there = go ((usable z).dispatched m) ((usable z).lookup.has_hijacked c) (and_parts ((usable z).looked_up c m) ((usable z).dispatched m || not ((usable z).lookup.has_hijacked c)) can).1
      where
        go : (a b : Bool) → (a || not b) ≡ true → b ≡ true → a ≡ true
        go true b h e = refl
        go false true h e = impossible h
        go false false h e = impossible e

    pub js_is : (b : Bool) → (usable z).lookup.has_hijacked c ≡ b → (e : core.Expression) (es : List core.Expression) (w : World) (s : ir.State) (sc : js.Scope) (u : js.State) → Inside z.place z.code sc → SameState z.place w s u → shown z (core.receiver_call (callees.LookedUp c m) e (expressions_of es)) sc u ≡ then_do (shown z e sc u) (js.with_value (behind b es sc))
    js_is b h e es w s sc u inside same = ap (λ (q : Bool). js_meaning.evaluate z.place.program z.js_low (looked_up_template q m (expression_template z.place.name z.place.label (usable z).lookup e) (expression_templates z.place.name z.place.label (usable z).lookup (expressions_of es))) sc u) h ∙ by b h
      where
        by : (b : Bool) → (usable z).lookup.has_hijacked c ≡ b → js_meaning.evaluate z.place.program z.js_low (looked_up_template b m (expression_template z.place.name z.place.label (usable z).lookup e) (expression_templates z.place.name z.place.label (usable z).lookup (expressions_of es))) sc u ≡ then_do (shown z e sc u) (js.with_value (behind b es sc))
        by true h = ap (λ o. then_do o (js.with_value (λ g. js_meaning.in_order (shown z e ∷ js_meaning.arguments z.place.program z.js_low (expression_templates z.place.name z.place.label (usable z).lookup (expressions_of es))) (js_meaning.call z.place.program z.js_low g) sc))) (top_seen z lawful.base (a_dispatch m) fun sc u (dispatched_there h) inside (same.tops z.code.file (a_dispatch m) (dispatched_there h))) ∙ ap (λ args. js_meaning.in_order (shown z e ∷ args) (js_meaning.call z.place.program z.js_low fun) sc u) (row_shown z es)
        by false h = ap (λ args. then_do (shown z e sc u) (js.with_value (λ v s. js_meaning.call_property z.place.program z.js_low args v (js_objects.callee z.place.program s v (method_binding Entry m)) sc s))) (row_shown z es)

    pub looked_answers : (b : Bool) → LooksUp b z c m → (y : World) (v : ir.Value) (x : js.Value) (one : IsInstance z.place.classes y c v x) (s : ir.State) (u : js.State) → SameState z.place y s u → Answers b y v x one u
    looked_answers true looks y v x one s u same = looks
    looked_answers false looks y v x one s u same = looks y v x one s u same

    pub looked_told : (t : IrType) (b : Bool) (x : tree.Expression) (xs : tree.Expressions) → tells t (looked_up_template b m x xs) ≡ true
    looked_told t true x xs = refl
    looked_told t false x xs = refl

    -- a method that is looked up
    abbrev pub by_lookup : (own : IrType) → Way own
    by_lookup own = record {
      callee = callees.LookedUp c m;
      dispatches = (usable z).lookup.has_hijacked c;
      shows = js_is ((usable z).lookup.has_hijacked c) refl;
      answers = λ y v x one s u a same. looked_answers ((usable z).lookup.has_hijacked c) (lawful.looks c m can) y v x one s u same;
      told = λ t e es. looked_told t ((usable z).lookup.has_hijacked c) _ _;
    }

  -- a receiver that is taken first, whatever it is behind
  pub looked_call_alike : (own : IrType) (way : Way own) (ts : List IrType) (r : ir.Run) (rs : List ir.Run) (e : core.Expression) (es : List core.Expression) → Fits (class_type c) own → FitAll (types_referred m.params) ts → (w : World) (env : ir.Env) (s : ir.State) (sc : js.Scope) (u : js.State) → Inside z.place z.code sc → OperandsAlike z w env sc (own ∷ ts) (r ∷ rs) (e ∷ es) → SameState z.place w s u → Sim z.direction (Valued z.place w env (call_type m.result)) (ir_meaning.in_order (as_instances z c r ∷ rs) act env s) (shown z (core.receiver_call way.callee e (expressions_of es)) sc u)
  looked_call_alike own way ts r rs e es f fit w env s sc u inside (more_operands _ _ _ _ _ _ told one others) same = subst (λ o. Sim z.direction F (ir_meaning.in_order (as_instances z c r ∷ rs) act env s) o) (sym (way.shows e es w s sc u inside same)) (sim_then z.direction (Taken z.place w env own c) F (as_instances z c r env s) (shown z e sc u) (ir.onward (λ v. ir_meaning.in_order rs (λ vs. act (v ∷ vs)))) (js.with_value (behind way.dispatches es sc)) (takes z c w env s sc u own r e (one w s u (grows-refl w) same)) each)
    where
      F : ir.Ended → js.ExpressionEnd → Type 0
      F = Valued z.place w env (call_type m.result)

      each : (a : ir.Ended) (b : js.ExpressionEnd) → Taken z.place w env own c a b → Sim z.direction F (ir.onward (λ v. ir_meaning.in_order rs (λ vs. act (v ∷ vs))) a) (js.with_value (behind way.dispatches es sc) b)
      each _ _ (taken_out y v x s u g a states) = sim_done z.direction F (ir.ends (ir.throws v) env s) (js.throws x u) (thrown y v x s u g a states)
      each _ _ (taken y v x s u g a states k) = let one : IsInstance z.place.classes y c v x = record { stands = value-fits y (class_type c) own v x f a; its = has_class z.place y s u states c own v x free a k } in behind_alike way.dispatches ts fit w y env s sc u v x rs es g one (way.answers y v x one s u a states) (operands-lift z w y env sc ts rs es g others) states

  -- a receiver whose value is known to be an instance
  pub known_call_alike : (own : IrType) (way : Way own) (ts : List IrType) (v : ir.Value) (rs : List ir.Run) (e : core.Expression) (es : List core.Expression) → Fits (class_type c) own → FitAll (types_referred m.params) ts → (w : World) (env : ir.Env) (s : ir.State) (sc : js.Scope) (u : js.State) → Inside z.place z.code sc → HasClass z.place.classes w c v → OperandAlike z w env sc own (ir.given v) (shown z e) → OperandsAlike z w env sc ts rs es → SameState z.place w s u → Sim z.direction (Valued z.place w env (call_type m.result)) (ir_meaning.in_order rs (λ vs. act (v ∷ vs)) env s) (shown z (core.receiver_call way.callee e (expressions_of es)) sc u)
  known_call_alike own way ts v rs e es f fit w env s sc u inside one first others same = subst (λ o. Sim z.direction F (ir_meaning.in_order rs (λ vs. act (v ∷ vs)) env s) o) (sym (way.shows e es w s sc u inside same)) (sim_then z.direction (λ a b. Valued z.place w env own a b × (a ≡ ir.ends (ir.gives v) env s)) F (ir.given v env s) (shown z e sc u) (ir.onward (λ v. ir_meaning.in_order rs (λ vs. act (v ∷ vs)))) (js.with_value (behind way.dispatches es sc)) (sim_known z.direction (Valued z.place w env own) (ir.ends (ir.gives v) env s) (shown z e sc u) (first w s u (grows-refl w) same)) (λ a b h. each a b h.0 h.1))
    where
      F : ir.Ended → js.ExpressionEnd → Type 0
      F = Valued z.place w env (call_type m.result)

      each : (a : ir.Ended) (b : js.ExpressionEnd) → Valued z.place w env own a b → a ≡ ir.ends (ir.gives v) env s → Sim z.direction F (ir.onward (λ v. ir_meaning.in_order rs (λ vs. act (v ∷ vs))) a) (js.with_value (behind way.dispatches es sc) b)
      each _ _ (thrown y q j s2 u2 g a states) e = absurd (cc)
      each _ _ (valued y q j s2 u2 g a states) e = let is : q ≡ v = ap value_given e in subst (λ k. Sim z.direction F (ir_meaning.in_order rs (λ vs. act (k ∷ vs)) env s2) (behind way.dispatches es sc j u2)) (sym is) (let its : IsInstance z.place.classes y c v j = record { stands = value-fits y (class_type c) own v j f (subst (λ k. SameValue y own k j) is a); its = class_lift z.place.classes w y c v g one } in behind_alike way.dispatches ts fit w y env s2 sc u2 v j rs es g its (way.answers y v j its s2 u2 (subst (λ k. SameValue y own k j) is a) states) (operands-lift z w y env sc ts rs es g others) states)

-- what stands at the address of an array is of the class of objects
array_class : (p : Place) (w : World) (c : List ℕ) (k : ArrayAt) (n : Option ArrayAt) (o : Option ir.Stored) (q : Option js.Stored) → n ≡ Some k → SameStored p w c n o q → c ≡ object
array_class p w _ k _ _ _ e (same_object c fields properties tells bare fs) = impossible (cc)
array_class p w _ k _ _ _ e (same_array r items properties tells bare told) = refl

-- a method of an array: what is an instance at its type is an array, which has the entry
module _ (z : Setting) (lawful : Lawful z) (m : MethodName) (has : (usable z).on_arrays m ≡ true) (r : ArrayRef) where
  class_is : (y : World) (s : ir.State) (u : js.State) → SameState z.place y s u → (i a : ℕ) (k : ArrayAt) → y.place i ≡ Some a → y.arrays i ≡ Some k → (c : List ℕ) → ClassTold y (ir.reference i) c → c ≡ object
  class_is y s u same i a k there at c told = let h = same.heaps.objects i a there in some_class c h.class (sym (told_class z.place y s u same (ir.reference i) c told) ∙ (object_there z.place y s u same i a there h.class h.told).stored) ∙ array_class z.place y h.class k (y.arrays i) (slice_get s.heap i) (slice_get u.heap a) at h.alike

  pub array_answers : (y : World) (v : ir.Value) (x : js.Value) (one : IsInstance z.place.classes y object v x) (s : ir.State) (u : js.State) → Stands y false v x → suits (Array r) v ≡ true → Shaped y v (Array r) → SameState z.place y s u → Finds z m y one.its.class v x u
  array_answers y _ _ one s u (same_reference i a there) k h same = subst (λ c. Finds z m y c (ir.reference i) (js.object a) u) (sym (class_is y s u same i a h.at there h.told one.its.class one.its.told)) (lawful.array_calls m has y i a h.at there h.told s u same)
  array_answers y _ _ one s u same_null k h same = let e = told_class z.place y s u same ir.null one.its.class one.its.told in impossible (cc)
  array_answers y _ _ one s u same_undefined k h same = impossible k
  array_answers y _ _ one s u (same_boolean b) k h same = impossible k
  array_answers y _ _ one s u (same_char q c f) k h same = impossible q
  array_answers y _ _ one s u (same_box q c a f b) k h same = impossible k
  array_answers y _ _ one s u (same_number n f) k h same = impossible k
  array_answers y _ _ one s u (same_long n f) k h same = impossible k
  array_answers y _ _ one s u (same_text us) k h same = impossible k

  abbrev pub on_array : (own : IrType) → own ≡ Array r → Way z lawful object m refl own
  on_array own is = record {
    callee = callees.OfArray m;
    dispatches = false;
    shows = λ e es w s sc u inside same. ap (λ args. then_do (shown z e sc u) (js.with_value (λ v s. js_meaning.call_property z.place.program z.js_low args v (js_objects.callee z.place.program s v (method_binding Entry m)) sc s))) (row_shown z es);
    answers = λ y v x one s u a same. let b = subst (λ t. SameValue y t v x) is a in array_answers y v x one s u b.stands b.suits b.shaped same;
    told = λ t e es. refl;
  }
