-- Declarations run to one state.
use Rattle.std.proofs.Common.{◌≡◌, ℕ, Bool, true, false, List, [], ◌∷◌, ◌++◌, Option, Some, None, ℤ, refl, sym, ap, ◌∙◌, cond, ◌||◌}
use Rattle.std.proofs.lemmas.Slice.Eq.{bytes_eq-Decides}
use Rattle.int_arithmetic.specs.BigInts.{is_in_range}
use Rattle.int_arithmetic.specs.Numbers.{is_exact}
use Rattle.js_tree.specs.Names.{is_same_text}
use Rattle.js_tree.specs.Terms.{Name, Member, Expression, null_literal, boolean_literal, undefined_literal, number_literal, big_literal, text_literal, name_use, this_use, property_of, index_of, call_of, method_call_of, new_of, new_array_of, list_of, binary_of, unary_of, conditional_of, host_call, host_call_of_two, Property, Item, const_item, object_item, let_item, expression_item, function_item, class_item, subclass_item}
use Rattle.outcomes.specs.Outcome.{Out, done, wrong, then_do}
use Rattle.js_mean.specs.Objects.{with_property, no_properties, allocated, next_address}
use Rattle.js_mean.specs.States.{Value, undefined, object, class, function, method, number, big_int, big_int, text, boolean, null, ClassLink, Cell, absent, unset, holds, Scope, State, Program, ExpressionEnd, gives, with_value}
use Rattle.js_mean.specs.Files.{module_among, items_in, owner}
use Rattle.js_mean.specs.Meaning.{Low, below, binding, cell_of, cell_value, top_cell, top_scope, evaluate, properties, object_made, extends, starts, run_item, run_items, run_files, literal, literal_of_big}
use Rattle.file_tops.specs.Tops.{literal_value, literal_properties, with_each, started, link, classes_in, after_item, after_items, after_files, declares_name, start_name}
use Rattle.file_tops.specs.Laws.{DeclarationsRun, FilesDeclare, OthersStay, Extends, IsSettled, ClassesExtend}

-- what a step came to, and what the rest of it did
pub each : {A B : Type 0} (o : Option A) (f : A → Option B) (b : B) → with_each o f ≡ Some b → (a : A) × (o ≡ Some a) × (f a ≡ Some b)
each None f b e = cc
each (Some a) f b e = (a, refl, e)

pub some_same : {A : Type 0} (a b : A) → Some a ≡ Some b → a ≡ b
some_same a b e = cc

module _ (p : Program) where
  exact_literal : (low : Low) (sc : Scope) (s : State) (z : ℤ) (v : Value) (b : Bool) → is_exact z ≡ b → cond b (Some (number z)) None ≡ Some v → literal z sc s ≡ done (gives v s)
  exact_literal low sc s z v true e h = ap (λ (b : Bool). cond b (done (gives (number z) s)) wrong) e ∙ ap (λ (w : Value). done (gives w s)) (some_same (number z) v h)
  exact_literal low sc s z v false e h = cc

  big_literal_runs : (low : Low) (sc : Scope) (s : State) (z : ℤ) (v : Value) (b : Bool) → is_in_range z ≡ b → cond b (Some (big_int z)) None ≡ Some v → literal_of_big z sc s ≡ done (gives v s)
  big_literal_runs low sc s z v true e h = ap (λ (b : Bool). cond b (done (gives (big_int z) s)) wrong) e ∙ ap (λ (w : Value). done (gives w s)) (some_same (big_int z) v h)
  big_literal_runs low sc s z v false e h = cc

  pub literal_runs : (low : Low) (sc : Scope) (s : State) (e : Expression) (v : Value) → literal_value e ≡ Some v → evaluate p low e sc s ≡ done (gives v s)
  literal_runs low sc s null_literal v h = ap (λ (w : Value). done (gives w s)) (some_same null v h)
  literal_runs low sc s (boolean_literal b) v h = ap (λ (w : Value). done (gives w s)) (some_same (boolean b) v h)
  literal_runs low sc s undefined_literal v h = ap (λ (w : Value). done (gives w s)) (some_same undefined v h)
  literal_runs low sc s (number_literal z) v h = exact_literal low sc s z v (is_exact z) refl h
  literal_runs low sc s (text_literal us) v h = ap (λ (w : Value). done (gives w s)) (some_same (text us) v h)
  literal_runs low sc s (big_literal z) v h = big_literal_runs low sc s z v (is_in_range z) refl h
  literal_runs low sc s (name_use x) v h = cc
  literal_runs low sc s this_use v h = cc
  literal_runs low sc s (property_of e x) v h = cc
  literal_runs low sc s (index_of e d) v h = cc
  literal_runs low sc s (call_of x es) v h = cc
  literal_runs low sc s (method_call_of e x es) v h = cc
  literal_runs low sc s (new_of x es) v h = cc
  literal_runs low sc s (new_array_of e) v h = cc
  literal_runs low sc s (list_of es) v h = cc
  literal_runs low sc s (binary_of e op d) v h = cc
  literal_runs low sc s (unary_of op e) v h = cc
  literal_runs low sc s (conditional_of c e d) v h = cc
  literal_runs low sc s (host_call op e) v h = cc
  literal_runs low sc s (host_call_of_two op e d) v h = cc

  properties_run : (low : Low) (sc : Scope) (ps : List Property) (own all : Name → Option Value) (act : (Name → Option Value) → State → Out ExpressionEnd) (s : State) → literal_properties ps own ≡ Some all → properties p low sc ps own act s ≡ act all s
  properties_run low sc [] own all act s h = ap (λ (o : Name → Option Value). act o s) (some_same own all h)
  properties_run low sc (q ∷ ps) own all act s h =
      let k = each (literal_value q.value) (λ v. literal_properties ps (with_property q.name v own)) all h in
      ap (λ (o : Out ExpressionEnd). then_do o (with_value (λ v. properties p low sc ps (with_property q.name v own) act))) (literal_runs low sc s q.value k.0 k.1) ∙ properties_run low sc ps (with_property q.name k.0 own) all act s k.2

  module _ (m : ℕ) (f : Name) where
    abbrev ends_in : State → Out ExpressionEnd
    ends_in t = done (gives undefined t)

    extended : (x y : Name) (c : Cell) (s t : State) → with_each (classes_in c) (λ ls. Some (started false f x (class (link f x ∷ ls)) s)) ≡ Some t → then_do (cell_value c s) (with_value (extends f x)) ≡ ends_in t
    extended x y absent s t h = cc
    extended x y (unset const) s t h = cc
    extended x y (holds const (class ls)) s t h = ap ends_in (some_same (started false f x (class (link f x ∷ ls)) s) t h)
    extended x y (holds const undefined) s t h = cc
    extended x y (holds const null) s t h = cc
    extended x y (holds const (boolean b)) s t h = cc
    extended x y (holds const (number z)) s t h = cc
    extended x y (holds const (big_int z)) s t h = cc
    extended x y (holds const (text us)) s t h = cc
    extended x y (holds const (object a)) s t h = cc
    extended x y (holds const (function g z)) s t h = cc
    extended x y (holds const (method ls z)) s t h = cc

    item_runs : (i : Item) (s t : State) → after_item p f i s ≡ Some t → run_item p m f i s ≡ ends_in t
    item_runs (function_item x xs ss) s t h = ap ends_in (some_same s t h)
    item_runs (class_item x ms) s t h = ap ends_in (some_same (started false f x (class (link f x ∷ [])) s) t h)
    item_runs (subclass_item x y ms) s t h = extended x y (cell_of p y (top_scope p f) s) s t h
    item_runs (const_item x e) s t h = go (each (literal_value e) (λ v. Some (started true f x v s)) t h)
      where
        go : (v : Value) × (literal_value e ≡ Some v) × (Some (started true f x v s) ≡ Some t) → run_item p m f (const_item x e) s ≡ ends_in t
        go k = ap (λ (o : Out ExpressionEnd). then_do o (with_value (starts true f x))) (literal_runs (below p m) (top_scope p f) s e k.0 k.1) ∙ ap ends_in (some_same (started true f x k.0 s) t k.2)
    item_runs (let_item x e) s t h = go (each (literal_value e) (λ v. Some (started false f x v s)) t h)
      where
        go : (v : Value) × (literal_value e ≡ Some v) × (Some (started false f x v s) ≡ Some t) → run_item p m f (let_item x e) s ≡ ends_in t
        go k = ap (λ (o : Out ExpressionEnd). then_do o (with_value (starts false f x))) (literal_runs (below p m) (top_scope p f) s e k.0 k.1) ∙ ap ends_in (some_same (started false f x k.0 s) t k.2)
    item_runs (object_item x ps) s t h = go (each (literal_properties ps no_properties) (λ own. Some (started true f x (object (next_address s)) (allocated [] own s))) t h)
      where
        go : (own : Name → Option Value) × (literal_properties ps no_properties ≡ Some own) × (Some (started true f x (object (next_address s)) (allocated [] own s)) ≡ Some t) → run_item p m f (object_item x ps) s ≡ ends_in t
        go k = properties_run (below p m) (top_scope p f) ps no_properties k.0 (object_made f x) s k.1 ∙ ap ends_in (some_same (started true f x (object (next_address s)) (allocated [] k.0 s)) t k.2)
    item_runs (expression_item e) s t h = cc

    items_run : (is js : List Item) (s t : State) → after_items p f is s ≡ Some t → run_items p m f (is ++ js) s ≡ run_items p m f js t
    items_run [] js s t h = ap (run_items p m f js) (some_same s t h)
    items_run (i ∷ is) js s t h =
        let k = each (after_item p f i s) (after_items p f is) t h in
        ap (λ (o : Out ExpressionEnd). then_do o (with_value (λ v. run_items p m f (is ++ js)))) (item_runs i s k.0 k.1) ∙ items_run is js k.0 t k.2

    all_items_run : (is : List Item) (s t : State) → after_items p f is s ≡ Some t → run_items p m f is s ≡ ends_in t
    all_items_run [] s t h = ap ends_in (some_same s t h)
    all_items_run (i ∷ is) s t h =
        let k = each (after_item p f i s) (after_items p f is) t h in
        ap (λ (o : Out ExpressionEnd). then_do o (with_value (λ v. run_items p m f is))) (item_runs i s k.0 k.1) ∙ all_items_run is k.0 t k.2

  files_run : (m : ℕ) (fs gs : List Name) (s t : State) → after_files p fs s ≡ Some t → run_files p m (fs ++ gs) s ≡ run_files p m gs t
  files_run m [] gs s t h = ap (run_files p m gs) (some_same s t h)
  files_run m (f ∷ fs) gs s t h =
      let k = each (after_items p f (items_in (module_among p f)) s) (after_files p fs) t h in
      ap (λ (o : Out ExpressionEnd). then_do o (with_value (λ v. run_files p m (fs ++ gs)))) (all_items_run m f (items_in (module_among p f)) s k.0 k.1) ∙ files_run m fs gs k.0 t k.2

pub declarations_run : DeclarationsRun
declarations_run p m f is js s t h = items_run p m f is js s t h

pub files_declare : FilesDeclare
files_declare p m fs gs s t h = files_run p m fs gs s t h

-- a name that isn't started
or_false : (a b : Bool) → (a || b) ≡ false → (a ≡ false) × (b ≡ false)
or_false true b e = cc
or_false false b e = (refl, e)

other_cell : (x y : Name) (c : Cell) (bs : Name → Cell) → is_same_text y x ≡ false → binding x c bs y ≡ bs y
other_cell x y c bs e = ap (λ (b : Bool). cond b c (bs y)) e

module _ (p : Program) (f g y : Name) where
  pub start_elsewhere : (const : Bool) (x : Name) (v : Value) (s : State) → (is_same_text g f ≡ true → is_same_text y x ≡ false) → (started const f x v s).tops g y ≡ s.tops g y
  start_elsewhere const x v s free = go (is_same_text g f) refl
    where
      go : (b : Bool) → is_same_text g f ≡ b → (started const f x v s).tops g y ≡ s.tops g y
      go true e = ap (λ (b : Bool). cond b (binding x (holds const v) (s.tops g) y) (s.tops g y)) e ∙ other_cell x y (holds const v) (s.tops g) (free e)
      go false e = ap (λ (b : Bool). cond b (binding x (holds const v) (s.tops g) y) (s.tops g y)) e

  abbrev at : State → Cell
  at s = s.tops g y

  item_leaves : (i : Item) (s t : State) → after_item p f i s ≡ Some t → (is_same_text g f ≡ true → declares_name i y ≡ false) → t.tops g y ≡ s.tops g y
  item_leaves (function_item x xs ss) s t h free = ap at (sym (some_same s t h))
  item_leaves (class_item x ms) s t h free = ap at (sym (some_same (started false f x (class (link f x ∷ [])) s) t h)) ∙ start_elsewhere false x (class (link f x ∷ [])) s free
  item_leaves (subclass_item x z ms) s t h free = go (each (classes_in (cell_of p z (top_scope p f) s)) (λ ls. Some (started false f x (class (link f x ∷ ls)) s)) t h)
    where
      go : (ls : List ClassLink) × (classes_in (cell_of p z (top_scope p f) s) ≡ Some ls) × (Some (started false f x (class (link f x ∷ ls)) s) ≡ Some t) → t.tops g y ≡ s.tops g y
      go k = ap at (sym (some_same (started false f x (class (link f x ∷ k.0)) s) t k.2)) ∙ start_elsewhere false x (class (link f x ∷ k.0)) s free
  item_leaves (const_item x e) s t h free = go (each (literal_value e) (λ v. Some (started true f x v s)) t h)
    where
      go : (v : Value) × (literal_value e ≡ Some v) × (Some (started true f x v s) ≡ Some t) → t.tops g y ≡ s.tops g y
      go k = ap at (sym (some_same (started true f x k.0 s) t k.2)) ∙ start_elsewhere true x k.0 s free
  item_leaves (let_item x e) s t h free = go (each (literal_value e) (λ v. Some (started false f x v s)) t h)
    where
      go : (v : Value) × (literal_value e ≡ Some v) × (Some (started false f x v s) ≡ Some t) → t.tops g y ≡ s.tops g y
      go k = ap at (sym (some_same (started false f x k.0 s) t k.2)) ∙ start_elsewhere false x k.0 s free
  item_leaves (object_item x ps) s t h free = go (each (literal_properties ps no_properties) (λ own. Some (started true f x (object (next_address s)) (allocated [] own s))) t h)
    where
      go : (own : Name → Option Value) × (literal_properties ps no_properties ≡ Some own) × (Some (started true f x (object (next_address s)) (allocated [] own s)) ≡ Some t) → t.tops g y ≡ s.tops g y
      go k = ap at (sym (some_same (started true f x (object (next_address s)) (allocated [] k.0 s)) t k.2)) ∙ start_elsewhere true x (object (next_address s)) (allocated [] k.0 s) free
  item_leaves (expression_item e) s t h free = cc

  items_leave : (is : List Item) (s t : State) → after_items p f is s ≡ Some t → (is_same_text g f ≡ true → start_name is y ≡ false) → t.tops g y ≡ s.tops g y
  items_leave [] s t h free = ap at (sym (some_same s t h))
  items_leave (i ∷ is) s t h free =
      let k = each (after_item p f i s) (after_items p f is) t h in
      items_leave is k.0 t k.2 (λ e. (or_false (declares_name i y) (start_name is y) (free e)).1) ∙ item_leaves i s k.0 k.1 (λ e. (or_false (declares_name i y) (start_name is y) (free e)).0)

pub others_stay : OthersStay
others_stay p f is s t g y h free = items_leave p f g y is s t h free

same_text : (a : Name) → is_same_text a a ≡ true
same_text a = (bytes_eq-Decides a a).1 refl

module _ (p : Program) (f : Name) where
  split : (front back : List Item) (s t : State) → after_items p f (front ++ back) s ≡ Some t → (u : State) × (after_items p f front s ≡ Some u) × (after_items p f back u ≡ Some t)
  split [] back s t h = (s, refl, h)
  split (i ∷ is) back s t h =
      let k = each (after_item p f i s) (after_items p f (is ++ back)) t h in
      let r = split is back k.0 t k.2 in
      (r.0, ap (λ (o : Option State). with_each o (after_items p f is)) k.1 ∙ r.1, r.2)

  starts_it : (const : Bool) (x : Name) (v : Value) (s : State) → (started const f x v s).tops f x ≡ holds const v
  starts_it const x v s = ap (λ (b : Bool). cond b (binding x (holds const v) (s.tops f) x) (s.tops f x)) (same_text f) ∙ ap (λ (b : Bool). cond b (holds const v) (s.tops f x)) (same_text x)

  -- what a name at the top stands for stays where nothing starts it
  cell_stays : (y : Name) (is : List Item) (s t : State) → after_items p f is s ≡ Some t → IsSettled p f y is → cell_of p y (top_scope p f) t ≡ cell_of p y (top_scope p f) s
  cell_stays y is s t h settled = go (owner p f y) refl
    where
      go : (o : Option Name) → owner p f y ≡ o → cell_of p y (top_scope p f) t ≡ cell_of p y (top_scope p f) s
      go None e = ap (λ (o : Option Name). top_cell o y t) e ∙ ap (λ (o : Option Name). top_cell o y s) (sym e)
      go (Some g) e = ap (λ (o : Option Name). top_cell o y t) e ∙ items_leave p f g y is s t h (settled g e) ∙ ap (λ (o : Option Name). top_cell o y s) (sym e)

  class_extends : (front back : List Item) (s t : State) (x y : Name) (ms : List Member) → after_items p f (front ++ subclass_item x y ms ∷ back) s ≡ Some t → start_name back x ≡ false → IsSettled p f y (subclass_item x y ms ∷ back) → Extends p f x y t
  class_extends front back s t x y ms h free settled = from (split front (subclass_item x y ms ∷ back) s t h)
    where
      class_at : (u v : State) (ls : List ClassLink) → started false f x (class (link f x ∷ ls)) u ≡ v → v.tops f x ≡ holds false (class (link f x ∷ ls))
      class_at u v ls e = ap (λ (z : State). z.tops f x) (sym e) ∙ starts_it false x (class (link f x ∷ ls)) u

      whole : (u v : State) (ls : List ClassLink) → after_items p f (subclass_item x y ms ∷ back) u ≡ Some t → classes_in (cell_of p y (top_scope p f) u) ≡ Some ls → Some (started false f x (class (link f x ∷ ls)) u) ≡ Some v → after_items p f back v ≡ Some t → Extends p f x y t
      whole u v ls all e k rest = record {
        above = ls;
        is_class = items_leave p f f x back v t rest (λ _. free) ∙ class_at u v ls (some_same (started false f x (class (link f x ∷ ls)) u) v k);
        is_above = ap classes_in (cell_stays y (subclass_item x y ms ∷ back) u t all settled) ∙ e;
      }

      from : (u : State) × (after_items p f front s ≡ Some u) × (after_items p f (subclass_item x y ms ∷ back) u ≡ Some t) → Extends p f x y t
      from r =
          let k = each (after_item p f (subclass_item x y ms) r.0) (after_items p f back) t r.2 in
          let l = each (classes_in (cell_of p y (top_scope p f) r.0)) (λ ls. Some (started false f x (class (link f x ∷ ls)) r.0)) k.0 k.1 in
          whole r.0 k.0 l.0 r.2 l.1 l.2 k.2

pub classes_extend : ClassesExtend
classes_extend p f front back s t x y ms h free settled = class_extends p f front back s t x y ms h free settled
