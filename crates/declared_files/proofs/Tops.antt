-- Declarations of files come to a state in which each binding holds what it is to hold.
use Rattle.std.proofs.Common.{◌≡◌, ℕ, slice_get, Bool, true, false, List, [], ◌∷◌, ◌++◌, ◌||◌, ◌&&◌, not, map, length, Option, Some, None, is_some, refl, sym, ap, ◌∙◌, subst, Contains, ◌⊎◌, inl, inr, ⊎_elim, cond}
use Rattle.std.specs.List.{list_all}
use Rattle.std.proofs.lemmas.Bool.{and_parts, or_cases, or_left, or_right, not-true}
use Rattle.std.proofs.lemmas.List.Elements.{Contains-append_left, Contains-append_cases}
use Rattle.agree_body_rules.proofs.Equal.{equals, is-equal}
use Rattle.agree_body_rules.proofs.Lists.{nothing_in, in_front_or_behind, at_front, further_on}
use Rattle.file_declarations.proofs.Items.{name_of, among, first_apart, rest_distinct, cell_found, front_distinct, not_both}
use Rattle.file_declarations.proofs.Tops.{not_declared, known, properties_known, get_in_front, get_last, length_last, HeapKept, HasClass}
use Rattle.file_declarations.specs.Declarations.{HoldsLiteral, behind}
use Rattle.file_tops.proofs.Run.{each, some_same, others_stay}
use Rattle.file_tops.specs.Tops.{literal_value, with_each, started, link, classes_in, after_item, after_items, after_files}
use Rattle.js_mean.specs.Files.{module_among, items_in, is_good_file, is_good_module, owner}
use Rattle.js_mean.specs.Meaning.{opening, module_cell, top_cell, binding}
use Rattle.js_mean.specs.Objects.{no_properties, allocated, next_address}
use Rattle.js_mean.specs.Proper.{is_among, are_distinct, item_names, imported_names, top_names, is_proper_item, is_proper_module}
use Rattle.js_mean.specs.States.{Value, object, function, class, ClassLink, holds, Stored, plain, State, Program}
use Rattle.js_tree.specs.Names.{is_same_text}
use Rattle.js_tree.specs.Terms.{Name, Expression, Statements, Item, const_item, object_item, let_item, expression_item, function_item, class_item, subclass_item, Module}
use Rattle.declared_files.specs.Placed.{Placed, placed, items_until, with_class, is_one_of, leads_to, declares, declare, Holds, AllHold, OfPlaced, DeclarationsOfFilesHold}
use Rattle.declared_files.proofs.Made.{made_by_files}

-- none of these items declares the name in the file
abbrev Free : List Placed → Name → Name → Type 0
Free ls f x = (l : Placed) → Contains ls l → l.file ≡ f → name_of l.item ≡ Some x → ⊥

-- no two declare one name in one file
abbrev Distinct : List Placed → Type 0
Distinct [] = Unit {0}
Distinct (l ∷ ls) = ((x : Name) → name_of l.item ≡ Some x → Free ls l.file x) × Distinct ls

-- a name that leads to one of these classes
leading : (cs : List ClassLink) (y : Name) (o : Option Name) → leads_to cs o y ≡ true → (g : Name) × (o ≡ Some g) × (is_one_of cs g y ≡ true)
leading cs y None h = cc
leading cs y (Some g) h = (g, refl, h)

starts_it : (f : Name) (const : Bool) (x : Name) (v : Value) (s : State) → (started const f x v s).tops f x ≡ holds const v
starts_it f const x v s = ap (λ (b : Bool). cond b (binding x (holds const v) (s.tops f) x) (s.tops f x)) (equals f) ∙ ap (λ (b : Bool). cond b (holds const v) (s.tops f x)) (equals x)

module _ (p : Program) where
  -- the state behind items of files
  abbrev after_placed : List Placed → State → Option State
  after_placed [] s = Some s
  after_placed (l ∷ ls) s = with_each (after_item p l.file l.item s) (after_placed ls)

  -- what an item that runs leaves as it was, and what items do
  leaves : (f : Name) (i : Item) (s t : State) (g y : Name) → after_item p f i s ≡ Some t → (f ≡ g → name_of i ≡ Some y → ⊥) → t.tops g y ≡ s.tops g y
  leaves f i s t g y e free = others_stay p f (i ∷ []) s t g y (ap (λ o. with_each o (after_items p f [])) e) (λ same. ap (λ b. b || false) (not_declared i y (λ z n. unlike z n (sym (is-equal g f same)) (is_same_text y z) refl)))
    where
      unlike : (z : Name) → name_of i ≡ Some z → f ≡ g → (b : Bool) → is_same_text y z ≡ b → is_same_text y z ≡ false
      unlike z n file false k = k
      unlike z n file true k = absurd (free file (n ∙ ap Some (sym (is-equal y z k))))

  all_leave : (ls : List Placed) (s t : State) (g y : Name) → after_placed ls s ≡ Some t → Free ls g y → t.tops g y ≡ s.tops g y
  all_leave [] s t g y e free = ap (λ (u : State). u.tops g y) (sym (some_same s t e))
  all_leave (l ∷ ls) s t g y e free = let k = each (after_item p l.file l.item s) (after_placed ls) t e in all_leave ls k.0 t g y k.2 (λ m c. free m (further_on l ls m c)) ∙ leaves l.file l.item s k.0 g y k.1 (free l (at_front l ls))

  -- an item that has run, in what stands behind these classes
  record Step (f : Name) (i : Item) (cs : List ClassLink) (s : State) : Type 0 where
    next : State
    runs : after_item p f i s ≡ Some next
    size : length next.heap ≡ behind (length s.heap) i
    kept : HeapKept s next
    classes : (g y : Name) → is_one_of (with_class f i cs) g y ≡ true → (is_one_of cs g y ≡ true) ⊎ ((f ≡ g) × (name_of i ≡ Some y) × HasClass (next.tops g y))
    held : (t : State) → ((x : Name) → name_of i ≡ Some x → t.tops f x ≡ next.tops f x) → ((g y : Name) → is_one_of cs g y ≡ true → t.tops g y ≡ s.tops g y) → HeapKept next t → Holds p t (length s.heap) f i

  -- what is known where these items are next
  record Ready (cs : List ClassLink) (ls : List Placed) (s : State) : Type 0 where
    functions : (f x : Name) (xs : List Name) (ss : Statements) → Contains ls (placed f (function_item x xs ss)) → s.tops f x ≡ holds false (function f x)
    classes : (g y : Name) → is_one_of cs g y ≡ true → HasClass (s.tops g y)
    apart : (g y : Name) → is_one_of cs g y ≡ true → Free ls g y
    distinct : Distinct ls

  new_class : (f x g y : Name) (cs : List ClassLink) (t : State) (i : Item) → name_of i ≡ Some x → HasClass (t.tops f x) → is_one_of (link f x ∷ cs) g y ≡ true → (is_one_of cs g y ≡ true) ⊎ ((f ≡ g) × (name_of i ≡ Some y) × HasClass (t.tops g y))
  new_class f x g y cs t i e has h = ⊎_elim this (λ front. inl front) (or_cases (is_same_text g f && is_same_text y x) (is_one_of cs g y) h)
    where
      this : (is_same_text g f && is_same_text y x) ≡ true → (is_one_of cs g y ≡ true) ⊎ ((f ≡ g) × (name_of i ≡ Some y) × HasClass (t.tops g y))
      this same =
          let k = and_parts (is_same_text g f) (is_same_text y x) same in
          let file : f ≡ g = sym (is-equal g f k.0) in
          let name : x ≡ y = sym (is-equal y x k.1) in
          inr (file, e ∙ ap Some name, subst (λ z. HasClass (t.tops z y)) file (subst (λ z. HasClass (t.tops f z)) name has))

  literal_step : (f : Name) (const : Bool) (x : Name) (e : Expression) (s : State) (v : (v : Value) × (literal_value e ≡ Some v)) (t : State) → t.tops f x ≡ (started const f x v.0 s).tops f x → HoldsLiteral const e (t.tops f x)
  literal_step f const x e s v t same = record { value = v.0; literal = v.1; held = same ∙ starts_it f const x v.0 s }

  step : (f : Name) (i : Item) (cs : List ClassLink) (ls : List Placed) (s : State) → Ready cs (placed f i ∷ ls) s → declares p cs f i ≡ true → Step f i cs s
  step f (const_item x e) cs ls s r d = let v = known (literal_value e) d in record { next = started true f x v.0 s; runs = ap (λ o. with_each o (λ w. Some (started true f x w s))) v.1; size = refl; kept = λ a y h. h; classes = λ g y h. inl h; held = λ t same above heap. literal_step f true x e s v t (same x refl) }
  step f (let_item x e) cs ls s r d = let v = known (literal_value e) d in record { next = started false f x v.0 s; runs = ap (λ o. with_each o (λ w. Some (started false f x w s))) v.1; size = refl; kept = λ a y h. h; classes = λ g y h. inl h; held = λ t same above heap. literal_step f false x e s v t (same x refl) }
  step f (object_item x ps) cs ls s r d = let own = properties_known ps no_properties d in record {
    next = started true f x (object (next_address s)) (allocated [] own.0 s);
    runs = ap (λ o. with_each o (λ own. Some (started true f x (object (next_address s)) (allocated [] own s)))) own.1;
    size = length_last s.heap (plain [] own.0);
    kept = get_in_front s.heap (plain [] own.0);
    classes = λ g y h. inl h;
    held = λ t same above heap. record { properties = own.0; literal = own.1; held = same x refl ∙ starts_it f true x (object (next_address s)) (allocated [] own.0 s); there = heap (length s.heap) (plain [] own.0) (get_last s.heap (plain [] own.0)) };
  }
  step f (expression_item e) cs ls s r d = cc
  step f (function_item x xs ss) cs ls s r d = record { next = s; runs = refl; size = refl; kept = λ a y h. h; classes = λ g y h. inl h; held = λ t same above heap. same x refl ∙ r.functions f x xs ss (at_front (placed f (function_item x xs ss)) ls) }
  step f (class_item x ms) cs ls s r d = record {
    next = started false f x (class (link f x ∷ [])) s;
    runs = refl;
    size = refl;
    kept = λ a y h. h;
    classes = λ g y h. new_class f x g y cs (started false f x (class (link f x ∷ [])) s) (class_item x ms) refl (link f x ∷ [], starts_it f false x (class (link f x ∷ [])) s) h;
    held = λ t same above heap. same x refl ∙ starts_it f false x (class (link f x ∷ [])) s;
  }
  step f (subclass_item x y ms) cs ls s r d = let k = leading cs y (owner p f y) d in let c = r.classes k.0 y k.2 in record {
    next = started false f x (class (link f x ∷ c.0)) s;
    runs = ap (λ o. with_each (classes_in (top_cell o y s)) (λ ls. Some (started false f x (class (link f x ∷ ls)) s))) k.1 ∙ ap (λ o. with_each (classes_in o) (λ ls. Some (started false f x (class (link f x ∷ ls)) s))) c.1;
    size = refl;
    kept = λ a y h. h;
    classes = λ g z h. new_class f x g z cs (started false f x (class (link f x ∷ c.0)) s) (subclass_item x y ms) refl (link f x ∷ c.0, starts_it f false x (class (link f x ∷ c.0)) s) h;
    held = λ t same above heap. record { from = k.0; owned = k.1; above = c.0; held = same x refl ∙ starts_it f false x (class (link f x ∷ c.0)) s; held_above = above k.0 y k.2 ∙ c.1 };
  }

  ready_next : (l : Placed) (cs : List ClassLink) (ls : List Placed) (s : State) → Ready cs (l ∷ ls) s → (st : Step l.file l.item cs s) → Ready (with_class l.file l.item cs) ls st.next
  ready_next l cs ls s r st = record {
    functions = λ g x xs ss h. leaves l.file l.item s st.next g x st.runs (λ file name. r.distinct.0 x name (placed g (function_item x xs ss)) h (sym file) refl) ∙ r.functions g x xs ss (further_on l ls (placed g (function_item x xs ss)) h);
    classes = λ g y h. ⊎_elim (λ front. let c = r.classes g y front in (c.0, leaves l.file l.item s st.next g y st.runs (r.apart g y front l (at_front l ls)) ∙ c.1)) (λ new. new.2) (st.classes g y h);
    apart = λ g y h. ⊎_elim (λ front. λ m c. r.apart g y front m (further_on l ls m c)) (λ new. subst (λ z. Free ls z y) new.0 (r.distinct.0 y new.1)) (st.classes g y h);
    distinct = r.distinct.1;
  }

  record Came (ls : List Placed) (s : State) : Type 0 where
    end : State
    runs : after_placed ls s ≡ Some end
    hold : AllHold p end (length s.heap) ls
    kept : HeapKept s end

  onward : (l : Placed) (cs : List ClassLink) (ls : List Placed) (s : State) → Ready cs (l ∷ ls) s → (st : Step l.file l.item cs s) → Came ls st.next → Came (l ∷ ls) s
  onward l cs ls s r st rest = record {
    end = rest.end;
    runs = ap (λ o. with_each o (after_placed ls)) st.runs ∙ rest.runs;
    hold = (st.held rest.end (λ x e. stays l.file x (r.distinct.0 x e)) (λ g y h. stays g y (λ m c. r.apart g y h m (further_on l ls m c)) ∙ leaves l.file l.item s st.next g y st.runs (r.apart g y h l (at_front l ls))) rest.kept, subst (λ n. AllHold p rest.end n ls) st.size rest.hold);
    kept = λ a y h. rest.kept a y (st.kept a y h);
  }
    where
      stays : (g x : Name) → Free ls g x → rest.end.tops g x ≡ st.next.tops g x
      stays g x free = all_leave ls st.next rest.end g x rest.runs free

  came : (ls : List Placed) (cs : List ClassLink) (s : State) → Ready cs ls s → declare p cs ls ≡ true → Came ls s
  came [] cs s r d = record { end = s; runs = refl; hold = tt; kept = λ a y h. h }
  came (l ∷ ls) cs s r d =
      let parts = and_parts (declares p cs l.file l.item) (declare p (with_class l.file l.item cs) ls) d in
      let st = step l.file l.item cs ls s r parts.0 in
      onward l cs ls s r st (came ls (with_class l.file l.item cs) st.next (ready_next l cs ls s r st) parts.1)

  -- items of files run as the files do
  split : (f : Name) (is : List Item) (ls : List Placed) (s t : State) → after_placed (map (placed f) is ++ ls) s ≡ Some t → (u : State) × (after_items p f is s ≡ Some u) × (after_placed ls u ≡ Some t)
  split f [] ls s t h = (s, refl, h)
  split f (i ∷ is) ls s t h =
      let k = each (after_item p f i s) (after_placed (map (placed f) is ++ ls)) t h in
      let r = split f is ls k.0 t k.2 in
      (r.0, ap (λ (o : Option State). with_each o (after_items p f is)) k.1 ∙ r.1, r.2)

  last_runs : (f : Name) (is : List Item) (s t : State) → after_placed (map (placed f) is) s ≡ Some t → after_items p f is s ≡ Some t
  last_runs f [] s t h = h
  last_runs f (i ∷ is) s t h = let k = each (after_item p f i s) (after_placed (map (placed f) is)) t h in ap (λ (o : Option State). with_each o (after_items p f is)) k.1 ∙ last_runs f is k.0 t k.2

  files_run : (fs : List Name) (f : Name) (is : List Item) (s t : State) → after_placed (items_until p fs f is) s ≡ Some t → (u : State) × (after_files p fs s ≡ Some u) × (after_items p f is u ≡ Some t)
  files_run [] f is s t h = (s, refl, last_runs f is s t h)
  files_run (g ∷ fs) f is s t h =
      let k = split g (items_in (module_among p g)) (items_until p fs f is) s t h in
      let r = files_run fs f is k.0 t k.2 in
      (r.0, ap (λ (o : Option State). with_each o (after_files p fs)) k.1 ∙ r.1, r.2)

-- items of a file
from_map : (f : Name) (is : List Item) (l : Placed) → Contains (map (placed f) is) l → (l.file ≡ f) × Contains is l.item
from_map f [] l h = nothing_in l h
from_map f (i ∷ is) l h = ⊎_elim (λ same. (ap (λ (m : Placed). m.file) (sym same), subst (λ (m : Placed). Contains (i ∷ is) m.item) same (at_front i is))) (λ later. let r = from_map f is l later in (r.0, further_on i is l.item r.1)) (in_front_or_behind (placed f i) (map (placed f) is) l h)

distinct_last : (f : Name) (is : List Item) → are_distinct (item_names is) ≡ true → Distinct (map (placed f) is)
distinct_last f [] d = tt
distinct_last f (i ∷ is) d = (λ x e l c file name. not_both (is_among (item_names is) x) (among is l.item x name (from_map f is l c).1) (first_apart i is x d e), distinct_last f is (rest_distinct i is d))

distinct_front : (f : Name) (is : List Item) (ls : List Placed) → are_distinct (item_names is) ≡ true → ((l : Placed) → Contains ls l → l.file ≡ f → ⊥) → Distinct ls → Distinct (map (placed f) is ++ ls)
distinct_front f [] ls d other rest = rest
distinct_front f (i ∷ is) ls d other rest = (λ x e l c file name. ⊎_elim (λ own. not_both (is_among (item_names is) x) (among is l.item x name (from_map f is l own).1) (first_apart i is x d e)) (λ later. other l later file) (Contains-append_cases (map (placed f) is) ls l c), distinct_front f is ls (rest_distinct i is d) other rest)

-- a name among names
is_there : (xs : List Name) (x : Name) → Contains xs x → is_among xs x ≡ true
is_there [] x h = nothing_in x h
is_there (y ∷ ys) x h = ⊎_elim (λ same. or_left (is_same_text x y) (is_among ys x) (ap (is_same_text x) same ∙ equals x)) (λ later. or_right (is_same_text x y) (is_among ys x) (is_there ys x later)) (in_front_or_behind y ys x h)

behind_distinct : (xs ys : List Name) → are_distinct (xs ++ ys) ≡ true → are_distinct ys ≡ true
behind_distinct [] ys h = h
behind_distinct (x ∷ xs) ys h = behind_distinct xs ys (and_parts (not (is_among (xs ++ ys) x)) (are_distinct (xs ++ ys)) h).1

pub all_pass : {A : Type 0} (test : A → Bool) (xs : List A) (x : A) → list_all test xs ≡ true → Contains xs x → test x ≡ true
all_pass test [] x h c = nothing_in x c
all_pass test (y ∷ ys) x h c = let k = and_parts (test y) (list_all test ys) h in ⊎_elim (λ same. ap test (sym same) ∙ k.0) (λ later. all_pass test ys x k.1 later) (in_front_or_behind y ys x c)

-- a good file has a module, and its items have distinct names
pub record HasModule (p : Program) (f : Name) : Type 0 where
  pub its_module : Module
  pub there : module_among p f ≡ Some its_module
  pub distinct : are_distinct (item_names its_module.items) ≡ true

distinct_items : (m : Module) → is_proper_module m ≡ true → are_distinct (item_names m.items) ≡ true
distinct_items m proper = behind_distinct (imported_names m.imports) (item_names m.items) (and_parts names exported (and_parts (names && exported) declared (and_parts (names && exported && declared) (list_all is_proper_item m.items) proper).0).0).0
  where
    names : Bool
    names = are_distinct (top_names m)

    exported : Bool
    exported = are_distinct m.exports

    declared : Bool
    declared = list_all (is_among (top_names m)) m.exports

pub good_module : (p : Program) (f : Name) → is_good_file p f ≡ true → HasModule p f
good_module p f h = go (module_among p f) refl h
  where
    go : (o : Option Module) → module_among p f ≡ o → is_good_module p f o ≡ true → HasModule p f
    go None e k = cc
    go (Some m) e k = record { its_module = m; there = e; distinct = distinct_items m (and_parts (is_proper_module m) (list_all (λ x. is_some (owner p f x)) (imported_names m.imports)) k).0 }

-- an item of these files stands in one of them
pub stands_in : (p : Program) (fs : List Name) (f : Name) (is rest : List Item) → items_in (module_among p f) ≡ is ++ rest → (l : Placed) → Contains (items_until p fs f is) l → Contains (fs ++ f ∷ []) l.file × Contains (items_in (module_among p l.file)) l.item
stands_in p [] f is rest items l h = let k = from_map f is l h in (subst (λ g. Contains (f ∷ []) g) (sym k.0) (at_front f []), subst (λ g. Contains (items_in (module_among p g)) l.item) (sym k.0) (subst (λ js. Contains js l.item) (sym items) (Contains-append_left is rest l.item k.1)))
stands_in p (g ∷ fs) f is rest items l h = ⊎_elim own (λ later. let k = stands_in p fs f is rest items l later in (further_on g (fs ++ f ∷ []) l.file k.0, k.1)) (Contains-append_cases (map (placed g) (items_in (module_among p g))) (items_until p fs f is) l h)
  where
    own : Contains (map (placed g) (items_in (module_among p g))) l → Contains (g ∷ fs ++ f ∷ []) l.file × Contains (items_in (module_among p l.file)) l.item
    own h = let k = from_map g (items_in (module_among p g)) l h in (subst (λ y. Contains (g ∷ fs ++ f ∷ []) y) (sym k.0) (at_front g (fs ++ f ∷ [])), subst (λ y. Contains (items_in (module_among p y)) l.item) (sym k.0) k.1)

pub declarations_of_files_hold : DeclarationsOfFilesHold
declarations_of_files_hold p fs f is rest run d = record { front = ran.0; runs = ran.1; end = all.end; runs_last = ran.2; hold = all.hold; made = λ a y h. made a y (made_by_files p fs f is (opening p) ran.0 all.end ran.1 ran.2 a y h) }
  where
    module_of : (g : Name) → Contains (fs ++ f ∷ []) g → HasModule p g
    module_of g c = good_module p g (all_pass (is_good_file p) (fs ++ f ∷ []) g run.good c)

    names_of : (g : Name) → Contains (fs ++ f ∷ []) g → are_distinct (item_names (items_in (module_among p g))) ≡ true
    names_of g c = let m = module_of g c in ap (λ o. are_distinct (item_names (items_in o))) m.there ∙ m.distinct

    function_there : (g x : Name) (xs : List Name) (ss : Statements) → Contains (items_until p fs f is) (placed g (function_item x xs ss)) → (opening p).tops g x ≡ holds false (function g x)
    function_there g x xs ss h =
        let k = stands_in p fs f is rest run.items (placed g (function_item x xs ss)) h in
        let m = module_of g k.0 in
        ap (λ o. module_cell g o x) m.there ∙ cell_found g m.its_module.items x xs ss m.distinct (subst (λ o. Contains (items_in o) (function_item x xs ss)) m.there k.1)

    distinct : (gs : List Name) → are_distinct (gs ++ f ∷ []) ≡ true → ((g : Name) → Contains (gs ++ f ∷ []) g → are_distinct (item_names (items_in (module_among p g))) ≡ true) → Distinct (items_until p gs f is)
    distinct [] once names = distinct_last f is (front_distinct is rest (ap (λ js. are_distinct (item_names js)) (sym run.items) ∙ names f (at_front f [])))
    distinct (g ∷ gs) once names =
        let k = and_parts (not (is_among (gs ++ f ∷ []) g)) (are_distinct (gs ++ f ∷ [])) once in
        distinct_front g (items_in (module_among p g)) (items_until p gs f is) (names g (at_front g (gs ++ f ∷ []))) (λ l c file. not_both (is_among (gs ++ f ∷ []) g) (is_there (gs ++ f ∷ []) g (subst (λ y. Contains (gs ++ f ∷ []) y) file (stands_in p gs f is rest run.items l c).0)) (not-true (is_among (gs ++ f ∷ []) g) k.0)) (distinct gs k.1 (λ y c. names y (further_on g (gs ++ f ∷ []) y c)))

    all : Came p (items_until p fs f is) (opening p)
    all = came p (items_until p fs f is) [] (opening p) (record { functions = function_there; classes = λ g y h. cc; apart = λ g y h. cc; distinct = distinct fs run.once names_of }) d

    ran : (u : State) × (after_files p fs (opening p) ≡ Some u) × (after_items p f is u ≡ Some all.end)
    ran = files_run p fs f is (opening p) all.end all.runs

    made : (a : ℕ) (y : Stored) → (slice_get (opening p).heap a ≡ Some y) ⊎ OfPlaced (items_until p fs f is) y → OfPlaced (items_until p fs f is) y
    made a y (inl before) = absurd (cc)
    made a y (inr its) = its
