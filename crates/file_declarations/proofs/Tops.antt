-- Declarations come to a state in which each binding holds what it is to hold.
use Rattle.std.proofs.Common.{◌≡◌, ℕ, zero, suc, Bool, true, false, List, [], ◌∷◌, ◌++◌, ◌||◌, length, slice_get, Option, Some, None, is_some, refl, sym, ap, ◌∙◌, subst, Contains, ◌⊎◌, inl, inr, ⊎_elim, cond}
use Rattle.std.specs.List.{list_all}
use Rattle.std.proofs.lemmas.Bool.{and_parts, or_cases}
use Rattle.std.proofs.lemmas.List.Elements.{Contains-append_left}
use Rattle.agree_calls.proofs.Equal.{equals, is-equal}
use Rattle.agree_calls.proofs.Lists.{at_front, further_on}
use Rattle.file_tops.proofs.Run.{others_stay}
use Rattle.file_tops.proofs.Standing.{owners_found}
use Rattle.file_tops.specs.Tops.{literal_value, literal_properties, with_each, started, link, classes_in, after_item, after_items, declares_name, start_name}
use Rattle.js_mean.specs.Files.{module_among, imports_in, imported_from, owner}
use Rattle.js_mean.specs.Meaning.{opening, items_cell, module_cell, top_cell, binding}
use Rattle.js_mean.specs.Objects.{with_property, no_properties, allocated, next_address}
use Rattle.js_mean.specs.Proper.{is_among, are_distinct, item_names}
use Rattle.js_mean.specs.States.{Value, object, function, class, ClassLink, Cell, holds, Stored, plain, State, Program}
use Rattle.js_tree.specs.Names.{is_same_text}
use Rattle.js_tree.specs.Terms.{Name, Expression, Statements, Property, Item, const_item, object_item, let_item, expression_item, function_item, class_item, subclass_item, Module}
use Rattle.file_declarations.specs.Declarations.{with_class, declares, declare, HoldsLiteral, Holds, behind, AllHold, DeclarationsHold}
use Rattle.file_declarations.proofs.Items.{name_of, among, among_first, among_step, rest_distinct, first_apart, differs, cell_found, front_distinct}

-- a name that isn't among the names of items
not_there : (b : Bool) → b ≡ true → b ≡ false → ⊥
not_there true h k = cc
not_there false h k = cc

other_names : (i : Item) (is : List Item) (y : Name) → is_among (item_names (i ∷ is)) y ≡ false → (is_among (item_names is) y ≡ false) × ((z : Name) → name_of i ≡ Some z → is_same_text y z ≡ false)
other_names i is y h = (rest (is_among (item_names is) y) refl, λ z e. name z e (is_same_text y z) refl)
  where
    rest : (b : Bool) → is_among (item_names is) y ≡ b → is_among (item_names is) y ≡ false
    rest false k = k
    rest true k = absurd (not_there (is_among (item_names (i ∷ is)) y) (among_step i is y k) h)

    name : (z : Name) → name_of i ≡ Some z → (b : Bool) → is_same_text y z ≡ b → is_same_text y z ≡ false
    name z e false k = k
    name z e true k = absurd (not_there (is_among (item_names (i ∷ is)) y) (among_first i is y (e ∙ ap Some (sym (is-equal y z k)))) h)

pub not_declared : (i : Item) (y : Name) → ((z : Name) → name_of i ≡ Some z → is_same_text y z ≡ false) → declares_name i y ≡ false
not_declared (const_item x e) y h = h x refl
not_declared (object_item x ps) y h = h x refl
not_declared (let_item x e) y h = h x refl
not_declared (expression_item e) y h = refl
not_declared (function_item x xs ss) y h = refl
not_declared (class_item x ms) y h = h x refl
not_declared (subclass_item x z ms) y h = h x refl

not_started : (is : List Item) (y : Name) → is_among (item_names is) y ≡ false → start_name is y ≡ false
not_started [] y h = refl
not_started (i ∷ is) y h = let k = other_names i is y h in ap (λ b. b || start_name is y) (not_declared i y k.1) ∙ not_started is y k.0

-- what a test knows
pub known : {A : Type 0} (o : Option A) → is_some o ≡ true → (a : A) × (o ≡ Some a)
known None h = cc
known (Some a) h = (a, refl)

pub properties_known : (ps : List Property) (own : Name → Option Value) → list_all (λ (q : Property). is_some (literal_value q.value)) ps ≡ true → (all : Name → Option Value) × (literal_properties ps own ≡ Some all)
properties_known [] own h = (own, refl)
properties_known (q ∷ ps) own h =
    let k = and_parts (is_some (literal_value q.value)) (list_all (λ (r : Property). is_some (literal_value r.value)) ps) h in
    let v = known (literal_value q.value) k.0 in
    let rest = properties_known ps (with_property q.name v.0 own) k.1 in
    (rest.0, ap (λ o. with_each o (λ w. literal_properties ps (with_property q.name w own))) v.1 ∙ rest.1)

-- heaps grow at their end
pub get_in_front : (h : List Stored) (z : Stored) (a : ℕ) (y : Stored) → slice_get h a ≡ Some y → slice_get (h ++ z ∷ []) a ≡ Some y
get_in_front [] z a y e = cc
get_in_front (x ∷ h) z zero y e = e
get_in_front (x ∷ h) z (suc a) y e = get_in_front h z a y e

pub get_last : (h : List Stored) (z : Stored) → slice_get (h ++ z ∷ []) (length h) ≡ Some z
get_last [] z = refl
get_last (x ∷ h) z = get_last h z

pub length_last : (h : List Stored) (z : Stored) → length (h ++ z ∷ []) ≡ suc (length h)
length_last [] z = refl
length_last (x ∷ h) z = ap suc (length_last h z)

abbrev pub HeapKept : State → State → Type 0
HeapKept s t = (a : ℕ) (y : Stored) → slice_get s.heap a ≡ Some y → slice_get t.heap a ≡ Some y

-- a binding holds a class
abbrev pub HasClass : Cell → Type 0
HasClass c = (ls : List ClassLink) × (c ≡ holds false (class ls))

module _ (p : Program) (f : Name) (owned : (x : Name) → owner p f x ≡ Some f) where
  starts_it : (const : Bool) (x : Name) (v : Value) (s : State) → (started const f x v s).tops f x ≡ holds const v
  starts_it const x v s = ap (λ (b : Bool). cond b (binding x (holds const v) (s.tops f) x) (s.tops f x)) (equals f) ∙ ap (λ (b : Bool). cond b (holds const v) (s.tops f x)) (equals x)

  -- what an item that runs leaves as it was
  leaves : (i : Item) (s t : State) (y : Name) → after_item p f i s ≡ Some t → ((z : Name) → name_of i ≡ Some z → is_same_text y z ≡ false) → t.tops f y ≡ s.tops f y
  leaves i s t y e h = others_stay p f (i ∷ []) s t f y (ap (λ o. with_each o (after_items p f [])) e) (λ _. ap (λ b. b || false) (not_declared i y h))

  -- an item that has run, in what stands behind these classes
  record Step (i : Item) (cs : List Name) (s : State) : Type 0 where
    next : State
    runs : after_item p f i s ≡ Some next
    size : length next.heap ≡ behind (length s.heap) i
    kept : HeapKept s next
    classes : (y : Name) → is_among (with_class i cs) y ≡ true → (is_among cs y ≡ true) ⊎ ((name_of i ≡ Some y) × HasClass (next.tops f y))
    held : (t : State) → ((x : Name) → name_of i ≡ Some x → t.tops f x ≡ next.tops f x) → ((y : Name) → is_among cs y ≡ true → t.tops f y ≡ s.tops f y) → HeapKept next t → Holds f t (length s.heap) i

  -- what is known where these items are next
  record Ready (cs : List Name) (is : List Item) (s : State) : Type 0 where
    functions : (x : Name) (xs : List Name) (ss : Statements) → Contains is (function_item x xs ss) → s.tops f x ≡ holds false (function f x)
    classes : (y : Name) → is_among cs y ≡ true → HasClass (s.tops f y)
    apart : (y : Name) → is_among cs y ≡ true → is_among (item_names is) y ≡ false
    distinct : are_distinct (item_names is) ≡ true

  new_class : (x y : Name) (cs : List Name) (t : State) (i : Item) → name_of i ≡ Some x → HasClass (t.tops f x) → is_among (x ∷ cs) y ≡ true → (is_among cs y ≡ true) ⊎ ((name_of i ≡ Some y) × HasClass (t.tops f y))
  new_class x y cs t i e has h = ⊎_elim (λ same. let is : x ≡ y = sym (is-equal y x same) in inr (e ∙ ap Some is, subst (λ z. HasClass (t.tops f z)) is has)) (λ front. inl front) (or_cases (is_same_text y x) (is_among cs y) h)

  literal_step : (const : Bool) (x : Name) (e : Expression) (cs : List Name) (s : State) (v : (v : Value) × (literal_value e ≡ Some v)) (t : State) → t.tops f x ≡ (started const f x v.0 s).tops f x → HoldsLiteral const e (t.tops f x)
  literal_step const x e cs s v t same = record { value = v.0; literal = v.1; held = same ∙ starts_it const x v.0 s }

  step : (i : Item) (cs : List Name) (is : List Item) (s : State) → Ready cs (i ∷ is) s → declares cs i ≡ true → Step i cs s
  step (const_item x e) cs is s r d = let v = known (literal_value e) d in record { next = started true f x v.0 s; runs = ap (λ o. with_each o (λ w. Some (started true f x w s))) v.1; size = refl; kept = λ a y h. h; classes = λ y h. inl h; held = λ t same above heap. literal_step true x e cs s v t (same x refl) }
  step (let_item x e) cs is s r d = let v = known (literal_value e) d in record { next = started false f x v.0 s; runs = ap (λ o. with_each o (λ w. Some (started false f x w s))) v.1; size = refl; kept = λ a y h. h; classes = λ y h. inl h; held = λ t same above heap. literal_step false x e cs s v t (same x refl) }
  step (object_item x ps) cs is s r d = let own = properties_known ps no_properties d in record {
    next = started true f x (object (next_address s)) (allocated [] own.0 s);
    runs = ap (λ o. with_each o (λ own. Some (started true f x (object (next_address s)) (allocated [] own s)))) own.1;
    size = length_last s.heap (plain [] own.0);
    kept = get_in_front s.heap (plain [] own.0);
    classes = λ y h. inl h;
    held = λ t same above heap. record { properties = own.0; literal = own.1; held = same x refl ∙ starts_it true x (object (next_address s)) (allocated [] own.0 s); there = heap (length s.heap) (plain [] own.0) (get_last s.heap (plain [] own.0)) };
  }
  step (expression_item e) cs is s r d = cc
  step (function_item x xs ss) cs is s r d = record { next = s; runs = refl; size = refl; kept = λ a y h. h; classes = λ y h. inl h; held = λ t same above heap. same x refl ∙ r.functions x xs ss (at_front (function_item x xs ss) is) }
  step (class_item x ms) cs is s r d = record {
    next = started false f x (class (link f x ∷ [])) s;
    runs = refl;
    size = refl;
    kept = λ a y h. h;
    classes = λ y h. new_class x y cs (started false f x (class (link f x ∷ [])) s) (class_item x ms) refl (link f x ∷ [], starts_it false x (class (link f x ∷ [])) s) h;
    held = λ t same above heap. same x refl ∙ starts_it false x (class (link f x ∷ [])) s;
  }
  step (subclass_item x y ms) cs is s r d = let c = r.classes y d in record {
    next = started false f x (class (link f x ∷ c.0)) s;
    runs = ap (λ o. with_each (classes_in (top_cell o y s)) (λ ls. Some (started false f x (class (link f x ∷ ls)) s))) (owned y) ∙ ap (λ o. with_each (classes_in o) (λ ls. Some (started false f x (class (link f x ∷ ls)) s))) c.1;
    size = refl;
    kept = λ a y h. h;
    classes = λ z h. new_class x z cs (started false f x (class (link f x ∷ c.0)) s) (subclass_item x y ms) refl (link f x ∷ c.0, starts_it false x (class (link f x ∷ c.0)) s) h;
    held = λ t same above heap. record { above = c.0; held = same x refl ∙ starts_it false x (class (link f x ∷ c.0)) s; held_above = above y d ∙ c.1 };
  }

  ready_next : (i : Item) (cs : List Name) (is : List Item) (s : State) → Ready cs (i ∷ is) s → (st : Step i cs s) → Ready (with_class i cs) is st.next
  ready_next i cs is s r st = record {
    functions = λ x xs ss h. leaves i s st.next x st.runs (λ z e. differs i is x z r.distinct e (among is (function_item x xs ss) x refl h)) ∙ r.functions x xs ss (further_on i is (function_item x xs ss) h);
    classes = λ y h. ⊎_elim (λ front. let c = r.classes y front in (c.0, leaves i s st.next y st.runs (other_names i is y (r.apart y front)).1 ∙ c.1)) (λ new. new.1) (st.classes y h);
    apart = λ y h. ⊎_elim (λ front. (other_names i is y (r.apart y front)).0) (λ new. first_apart i is y r.distinct new.0) (st.classes y h);
    distinct = rest_distinct i is r.distinct;
  }

  record Came (is : List Item) (s : State) : Type 0 where
    end : State
    runs : after_items p f is s ≡ Some end
    hold : AllHold f end (length s.heap) is
    kept : HeapKept s end

  onward : (i : Item) (cs : List Name) (is : List Item) (s : State) → Ready cs (i ∷ is) s → (st : Step i cs s) → Came is st.next → Came (i ∷ is) s
  onward i cs is s r st rest = record { end = rest.end; runs = ap (λ o. with_each o (after_items p f is)) st.runs ∙ rest.runs; hold = (st.held rest.end (λ x e. stays x (first_apart i is x r.distinct e)) (λ y h. let k = other_names i is y (r.apart y h) in stays y k.0 ∙ leaves i s st.next y st.runs k.1) rest.kept, subst (λ n. AllHold f rest.end n is) st.size rest.hold); kept = λ a y h. rest.kept a y (st.kept a y h) }
    where
      stays : (x : Name) → is_among (item_names is) x ≡ false → rest.end.tops f x ≡ st.next.tops f x
      stays x h = others_stay p f is st.next rest.end f x rest.runs (λ _. not_started is x h)

  came : (is : List Item) (cs : List Name) (s : State) → Ready cs is s → declare cs is ≡ true → Came is s
  came [] cs s r d = record { end = s; runs = refl; hold = tt; kept = λ a y h. h }
  came (i ∷ is) cs s r d =
      let parts = and_parts (declares cs i) (declare (with_class i cs) is) d in
      let st = step i cs is s r parts.0 in
      onward i cs is s r st (came is (with_class i cs) st.next (ready_next i cs is s r st) parts.1)

pub own_names : (p : Program) (f : Name) (m : Module) → module_among p f ≡ Some m → m.imports ≡ [] → (x : Name) → owner p f x ≡ Some f
own_names p f m here none x = owners_found.own p f x (ap (λ o. imported_from (imports_in o) x) here ∙ ap (λ is. imported_from is x) none)

pub declarations_hold : DeclarationsHold
declarations_hold p f m is rest here none items distinct d = record { end = all.end; runs = all.runs; hold = all.hold }
  where
    names : are_distinct (item_names (is ++ rest)) ≡ true
    names = ap (λ js. are_distinct (item_names js)) (sym items) ∙ distinct

    function_there : (x : Name) (xs : List Name) (ss : Statements) → Contains is (function_item x xs ss) → (opening p).tops f x ≡ holds false (function f x)
    function_there x xs ss h = ap (λ o. module_cell f o x) here ∙ ap (λ js. items_cell f js x) items ∙ cell_found f (is ++ rest) x xs ss names (Contains-append_left is rest (function_item x xs ss) h)

    all : Came p f (own_names p f m here none) is (opening p)
    all = came p f (own_names p f m here none) is [] (opening p) (record { functions = function_there; classes = λ y h. cc; apart = λ y h. cc; distinct = front_distinct is rest names }) d
