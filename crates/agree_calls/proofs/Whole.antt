-- A file that has the functions of methods and calls initializers shows what these show.
use Rattle.std.proofs.Common.{◌≡◌, ℕ, Bool, true, false, List, [], ◌∷◌, ◌++◌, ◌&&◌, map, refl, sym, ap, ◌∙◌, subst, Contains, Option, Some, None, is_some, if◌then◌else◌, slice_get, length, ◌<◌, ◌^◌, arith}
use Rattle.std.specs.Char.{encode_utf8}
use Rattle.std.specs.Int.{w32, w64}
use Rattle.std.specs.Prelude.{ℤ, pos, negsuc, codes, FitsSigned, nat_lt}
use Rattle.std.specs.List.{list_all}
use Rattle.std.specs.Str.{is_utf8, chars}
use Rattle.std.proofs.lemmas.Bool.{and_parts}
use Rattle.agree_bodies.proofs.Lists.{at_front, further_on}
use Rattle.outcomes.specs.Outcome.{Out, done, wrong, then_do}
use Rattle.outcomes.specs.Shown as shown
use Rattle.outcomes.specs.Shown.{normal, uncaught, Shown}
use Rattle.outcomes.specs.Agreement.{Direction, forward, backward, Room, Enough, no_room, Sim, IsNotWrong, Agree}
use Rattle.outcomes.proofs.Sequence.{then_do-associative}
use Rattle.outcomes.proofs.Simulation.{sim_done, sim_then, agree-from_sim}
use Rattle.dispatch_laws.specs.Shows as ir_showing
use Rattle.dispatch_laws.specs.States as ir
use Rattle.dispatch_laws.specs.World as ir_world
use Rattle.js_mean.specs.Files as files
use Rattle.js_mean.specs.Meaning as js_meaning
use Rattle.js_mean.specs.Objects as js_objects
use Rattle.sj_mangling.specs.Bindings.{class_binding}
use Rattle.sj_mangling.specs.declared.bindings.ClassBinding.TheVariants.{Marker}
use Rattle.js_mean.specs.Proper.{is_among, are_distinct, item_names, imported_names, is_proper_item, is_proper_module}
use Rattle.js_mean.specs.Shows as js_showing
use Rattle.js_mean.specs.States as js
use Rattle.js_tree.specs.Terms.{Name, Item, Module, call_of, no_expressions}
use Rattle.sj_core.specs.Terms.{named}
use Rattle.agree_bodies.specs.Desugar.{desugared}
use Rattle.dispatch_laws.specs.Templates.{member_name, parameter_names}
use Rattle.sj_names.specs.declared.entry_points.EntryPoint.{EntryPoint}
use Rattle.sj_names.specs.declared.method_names.Member.{Member}
use Rattle.agree_bodies.specs.Settings.{some_constants, a_static, a_setter, a_cell, a_loader, a_storer, a_test, a_cast, links_of, array_links, box_link, TellsClass, SameStored, same_object, same_array, a_method, a_constructor, a_dispatch, a_reflection, a_helper, Place, Top, a_function, a_class, top_name, is_usable, TopHolds, SameHeap, SameState, Valued, valued, thrown, NamesDiffer, Reaches}
use Rattle.array_code.specs.Words.{object_class}
use Rattle.agree_bodies.specs.Worlds.{World, ArrayAt, nothing_made, Stands, same_undefined, same_null, same_boolean, same_char, same_box, IsBox, same_number, same_long, same_text, same_reference, no_values}
use Rattle.agree_bodies.specs.AgreePlainTreesStanding.{suits}
use Rattle.sj_names.proofs.Same.{impossible}
use Rattle.sj_trees.specs.declared.types.IrType.TheVariants.{Any, NoType}
use Rattle.agree_bodies.proofs.Equal.{equals}
use Rattle.agree_bodies.specs.EmittedMethods.{EmittedMethod, HasFunction}
use Rattle.agree_bodies.specs.Emitted.{function_item_of, initializer_member, call_item_of, module_with}
use Rattle.agree_calls.specs.Files.{program_with, IsEmitted}
use Rattle.agree_calls.specs.Methods.{CallsAlone, CallsAgree, parameters_in, function_of, Linked, ir_call, js_call}
use Rattle.agree_calls.specs.Names.{emitted_in}
use Rattle.agree_calls.proofs.Items.{code_with, code_found, cell_found}
use Rattle.agree_bodies.proofs.InWorld.{in_world}
use Rattle.agree_calls.proofs.Levels.{calls_agree}
use Rattle.dispatch_laws.specs.SjWorldLaws.{IsPlain}
use Rattle.agree_calls.proofs.Names.{emitted_names_differ}
use Rattle.agree_bodies.specs.Built.{Usable, members_alone}

-- a program of one file, and what is found in it
abbrev pub alone : Name → Module → js.Program
alone f m = record { file = f; content = Some m } ∷ []

pub module_there : (f : Name) (m : Module) → files.module_among (alone f m) f ≡ Some m
module_there f m = ap (λ b. if b then Some m else None) (equals f)

abbrev origin_by : js.Program → Name → Name → Option Module → Option Name
origin_by p f x content = elim (files.imported_from (files.imports_in content) x) [ None ↦ Some f | Some g ↦ if is_among (files.exports_in (files.module_among p g)) x then files.origin p (length p) g x else None ]

pub own_name : (f : Name) (m : Module) (x : Name) → m.imports ≡ [] → files.owner (alone f m) f x ≡ Some f
own_name f m x none = ap (origin_by (alone f m) f x) (module_there f m) ∙ ap (λ is. elim (files.imported_from is x) as (λ o. Option Name) [ None ↦ Some f | Some g ↦ if is_among (files.exports_in (files.module_among (alone f m) g)) x then files.origin (alone f m) 1 g x else None ]) none

abbrev order_by : js.Program → Name → Option Module → List Name
order_by p f content = (files.finish f (files.visit_all (files.visit p (length p)) (files.imports_in content) (record { entered = f ∷ []; finished = [] }))).finished

order_is : (f : Name) (m : Module) → m.imports ≡ [] → files.running_order (alone f m) f ≡ f ∷ []
order_is f m none = ap (order_by (alone f m) f) (module_there f m) ∙ ap (λ is. (files.finish f (files.visit_all (files.visit (alone f m) 1) is (record { entered = f ∷ []; finished = [] }))).finished) none

-- a value that nothing catches is shown alike
number_shown : (n : ℤ) → FitsSigned w32 n → js_showing.is_below (2 ^ 31) n ≡ true
number_shown (pos n) f = let h : n < 2 ^ 31 = f.sfits in grind arith
number_shown (negsuc n) f = let h : n < 2 ^ 31 = f.sfits in grind arith

long_shown : (n : ℤ) → FitsSigned w64 n → js_showing.is_below (2 ^ 63) n ≡ true
long_shown (pos n) f = let h : n < 2 ^ 63 = f.sfits in grind arith
long_shown (negsuc n) f = let h : n < 2 ^ 63 = f.sfits in grind arith

-- what stands at an address, and what stands for it there, are shown alike: by the class of the object, which its marker tells
stored_so : (p : Place) (q : js.Program) (d : Direction) (w : World) (s : List ir.Stored) (u : js.State) → SameHeap p w s u.heap → (ls : List js.ClassLink) (c : List ℕ) (properties : Name → Option js.Value) → TellsClass w c properties → Sim d ◌≡◌ (done (uncaught (shown.object_of c))) (js_showing.uncaught_or_wrong (js_showing.object_shown (js_showing.class_shown (js_showing.marker_in q u (js_objects.stored_property q (Some (js.plain ls properties)) (codes "k")))) (js_objects.stored_property q (Some (js.plain ls properties)) (codes "c"))))
stored_so p q d w s u heaps ls c properties told = subst (λ o. Sim d ◌≡◌ (done (uncaught (shown.object_of c))) (js_showing.uncaught_or_wrong o)) (sym is) (sim_done d ◌≡◌ (uncaught (shown.object_of c)) (uncaught (shown.object_of c)) refl)
  where
    char : Option js.Value
    char = js_objects.stored_property q (Some (js.plain ls properties)) (codes "c")

    -- the marker, by the properties that lead to it
    by_key : Option js.Value → Option js.Value
    by_key k = js_showing.marker_in q u (js_objects.value_on (js_objects.or_value k (js_objects.method_on q ls (codes "k"))) (codes "k"))

    by_constants : Option js.Stored → Option js.Value
    by_constants o = js_objects.stored_property q o (codes "s")

    by_marker : Option js.Value → Option js.Value
    by_marker m = js_objects.value_on (js_objects.or_value m (js_objects.method_on q [] (codes "s"))) (codes "s")

    marker_is : by_key (properties (codes "k")) ≡ Some (js.text (class_binding Marker c))
    marker_is = ap by_key told.held ∙ ap by_constants (heaps.owned told.address (js.plain [] told.constants) told.owned) ∙ ap by_marker told.marked

    is : js_showing.object_shown (js_showing.class_shown (js_showing.marker_in q u (js_objects.stored_property q (Some (js.plain ls properties)) (codes "k")))) char ≡ Some (shown.object_of c)
    is = ap (λ m. js_showing.object_shown (js_showing.class_shown m) char) marker_is ∙ told.known char

stored_alike : (p : Place) (q : js.Program) (d : Direction) (w : World) (s : List ir.Stored) (u : js.State) → SameHeap p w s u.heap → (c : List ℕ) (k : Option ArrayAt) (o : Option ir.Stored) (g : Option js.Stored) → SameStored p w c k o g → Sim d ◌≡◌ (ir_showing.uncaught_or_wrong (ir_showing.thrown_stored o)) (js_showing.uncaught_or_wrong (js_showing.object_shown (js_showing.class_shown (js_showing.marker_in q u (js_objects.stored_property q g (codes "k")))) (js_objects.stored_property q g (codes "c"))))
stored_alike p q d w s u heaps _ _ _ _ (same_object c fields properties told bare fs) = stored_so p q d w s u heaps (links_of p c) c properties told
stored_alike p q d w s u heaps _ _ _ _ (same_array k items properties told bare array) = stored_so p q d w s u heaps (array_links p) object_class properties told

-- an object that holds a char is shown as the char
char_below : (n : ℕ) → n < 2 ^ 16 → nat_lt n (2 ^ 16) ≡ true
char_below n h = grind arith

-- the marker of chars is read back as their class
char_marked : js_showing.class_shown (Some (js.text (class_binding Marker (codes "java.lang.Character")))) ≡ Some (codes "java.lang.Character")
unfolding is_utf8 chars encode_utf8
char_marked = refl

box_alike : (p : Place) (q : js.Program) (d : Direction) (w : World) (s : List ir.Stored) (u : js.State) (n a : ℕ) → SameHeap p w s u.heap → n < 2 ^ 16 → IsBox w n a → Sim d ◌≡◌ (done (uncaught (shown.char n))) (js_showing.uncaught_or_wrong (js_showing.thrown q u (js.object a)))
box_alike p q d w s u n a heaps below box = subst (λ o. Sim d ◌≡◌ (done (uncaught (shown.char n))) (js_showing.uncaught_or_wrong o)) (sym is) (sim_done d ◌≡◌ (uncaught (shown.char n)) (uncaught (shown.char n)) refl)
  where
    by_stored : Option js.Stored → Option shown.Thrown
    by_stored o = js_showing.object_shown (js_showing.class_shown (js_showing.marker_in q u (js_objects.stored_property q o (codes "k")))) (js_objects.stored_property q o (codes "c"))

    -- a property of the object itself
    own : Option js.Value → Name → Option js.Value
    own v x = js_objects.value_on (js_objects.or_value v (js_objects.method_on q w.boxes x)) x

    by_constants : Option js.Stored → Option js.Value
    by_constants o = js_objects.stored_property q o (codes "s")

    by_marker : Option js.Value → Option js.Value
    by_marker m = js_objects.value_on (js_objects.or_value m (js_objects.method_on q [] (codes "s"))) (codes "s")

    marker_is : js_showing.marker_in q u (own (box.properties (codes "k")) (codes "k")) ≡ Some (js.text (class_binding Marker (codes "java.lang.Character")))
    marker_is = ap (λ v. js_showing.marker_in q u (own v (codes "k"))) box.held ∙ ap by_constants (heaps.owned box.address (js.plain [] box.constants) box.constants_owned) ∙ ap by_marker box.marked

    is : js_showing.thrown q u (js.object a) ≡ Some (shown.char n)
    is = ap by_stored (heaps.owned a (js.plain w.boxes box.properties) box.owned) ∙ ap (λ m. js_showing.object_shown (js_showing.class_shown m) (own (box.properties (codes "c")) (codes "c"))) marker_is ∙ ap (λ (c : Option (List ℕ)). js_showing.object_shown c (own (box.properties (codes "c")) (codes "c"))) char_marked ∙ ap (λ v. js_showing.char_shown (own v (codes "c"))) box.char ∙ ap (λ (t : Bool). if t then Some (shown.char n) else None) (char_below n below)

uncaught_alike : (place : Place) (p : js.Program) (d : Direction) (w : World) (v : ir.Value) (x : js.Value) (s : ir.State) (u : js.State) → SameState place w s u → Stands w false v x → suits Any v ≡ true → Sim d ◌≡◌ (ir_showing.uncaught_or_wrong (ir_showing.thrown s v)) (js_showing.uncaught_or_wrong (js_showing.thrown p u x))
uncaught_alike place p d w _ _ s u same same_undefined h = sim_done d ◌≡◌ (uncaught shown.undefined) (uncaught shown.undefined) refl
uncaught_alike place p d w _ _ s u same same_null h = sim_done d ◌≡◌ (uncaught shown.null) (uncaught shown.null) refl
uncaught_alike place p d w _ _ s u same (same_boolean b) h = sim_done d ◌≡◌ (uncaught (shown.boolean b)) (uncaught (shown.boolean b)) refl
uncaught_alike place p d w _ _ s u same (same_char r n f) h = impossible r
uncaught_alike place p d w _ _ s u same (same_box r n a f b) h = box_alike place p d w s.heap u n a same.heaps f b
uncaught_alike place p d w _ _ s u same (same_number n f) h = subst (λ (b : Bool). Sim d ◌≡◌ (done (uncaught (shown.number n))) (js_showing.uncaught_or_wrong (if b then Some (shown.number n) else None))) (sym (number_shown n f)) (sim_done d ◌≡◌ (uncaught (shown.number n)) (uncaught (shown.number n)) refl)
uncaught_alike place p d w _ _ s u same (same_long n f) h = subst (λ (b : Bool). Sim d ◌≡◌ (done (uncaught (shown.long n))) (js_showing.uncaught_or_wrong (if b then Some (shown.long n) else None))) (sym (long_shown n f)) (sim_done d ◌≡◌ (uncaught (shown.long n)) (uncaught (shown.long n)) refl)
uncaught_alike place p d w _ _ s u same (same_text us) h = sim_done d ◌≡◌ (uncaught (shown.text us)) (uncaught (shown.text us)) refl
uncaught_alike place p d w _ _ s u same (same_reference i a e) h = let o = same.heaps.objects i a e in stored_alike place p d w s.heap u same.heaps o.class (w.arrays i) (slice_get s.heap i) (slice_get u.heap a) o.alike

-- calls of initializers in a file that reaches them by name
module _ (p : Place) (f : Name) (reaches : Reaches p f) where
  -- an initializer, and the item that calls it
  abbrev item_run : EntryPoint → ℕ → js.State → Out js.ExpressionEnd
  item_run e k u = js_meaning.evaluate p.program (js_meaning.below p.program k) (call_of (member_name (initializer_member e)) no_expressions) (js_meaning.top_scope p.program f) u

  item_is : (e : EntryPoint) (k : ℕ) (y : World) (s : ir.State) (u : js.State) → (p.has f).linked (initializer_member e) ≡ true → SameState p y s u → item_run e k u ≡ js_call p (initializer_member e) [] u k
  item_is e k y s u l same = ap (λ o. called (js_meaning.top_cell o name u)) (reaches (a_function (initializer_member e)) l) ∙ ap called (same.tops f (a_function (initializer_member e)) l)
    where
      name : Name
      name = member_name (initializer_member e)

      called : js.Cell → Out js.ExpressionEnd
      called cell = then_do (js_meaning.cell_value cell u) (js.with_value (λ g. js_meaning.in_order [] (js_meaning.call p.program (js_meaning.below p.program k) g) (js_meaning.top_scope p.program f)))

  abbrev pub calls_at : List EntryPoint → ℕ → js.State → Out js.ExpressionEnd
  calls_at es k u = js_meaning.run_items p.program k f (map call_item_of es) u

  -- the end of the files
  abbrev pub ended : ℕ → Out js.ExpressionEnd → Shown
  ended k o = then_do (then_do o (js.with_value (λ v. js_meaning.run_files p.program k []))) (js_showing.ending p.program)

  -- each initializer and its call agree
  abbrev pub InitializersAgreeAt : Type 0
  InitializersAgreeAt = (e : EntryPoint) → (p.has f).linked (initializer_member e) ≡ true → (y : World) (s : ir.State) (u : js.State) → SameState p y s u → CallsAgree p (initializer_member e) y [] [] ir_showing.outside s u

  module _ (agree : InitializersAgreeAt) where
    item_alike : (d : Direction) (n k : ℕ) → Enough p.room 0 d n k → (e : EntryPoint) → (p.has f).linked (initializer_member e) ≡ true → (y : World) (s : ir.State) (u : js.State) → SameState p y s u → Sim d (Valued p y ir_showing.outside NoType) (ir_call p (initializer_member e) [] ir_showing.outside s n) (item_run e k u)
    item_alike forward n k h e l y s u same = subst (λ o. Sim forward (Valued p y ir_showing.outside NoType) (ir_call p (initializer_member e) [] ir_showing.outside s n) o) (sym (item_is e k y s u l same)) ((agree e l y s u same).there n k h)
    item_alike backward n k h e l y s u same = subst (λ o. Sim backward (Valued p y ir_showing.outside NoType) (ir_call p (initializer_member e) [] ir_showing.outside s n) o) (sym (item_is e k y s u l same)) ((agree e l y s u same).back n k h)

    pub calls_alike : (d : Direction) (n k : ℕ) → Enough p.room 0 d n k → (es : List EntryPoint) → ((e : EntryPoint) → Contains es e → (p.has f).linked (initializer_member e) ≡ true) → (y : World) (s : ir.State) (u : js.State) → SameState p y s u → Sim d ◌≡◌ (ir_showing.all_show p.classes n es s) (ended k (calls_at es k u))
    calls_alike d n k h [] all y s u same = sim_done d ◌≡◌ normal normal refl
    calls_alike d n k h (e ∷ es) all y s u same = subst (λ o. Sim d ◌≡◌ (ir_showing.all_show p.classes n (e ∷ es) s) o) (sym regrouped) (sim_then d (Valued p y ir_showing.outside NoType) ◌≡◌ (ir_call p (initializer_member e) [] ir_showing.outside s n) (item_run e k u) (ir_showing.next_or_end (ir_showing.all_show p.classes n es)) behind (item_alike d n k h e (all e (at_front e es)) y s u same) (next d n k es y (λ z v s u same. calls_alike d n k h es (λ x i. all x (further_on e es x i)) z s u same)))
      where
        rest : js.ExpressionEnd → Out js.ExpressionEnd
        rest = js.with_value (λ v. js_meaning.run_items p.program k f (map call_item_of es))

        end : js.ExpressionEnd → Out js.ExpressionEnd
        end = js.with_value (λ v. js_meaning.run_files p.program k [])

        behind : js.ExpressionEnd → Shown
        behind b = then_do (then_do (rest b) end) (js_showing.ending p.program)

        regrouped : ended k (calls_at (e ∷ es) k u) ≡ then_do (item_run e k u) behind
        regrouped = ap (λ o. then_do o (js_showing.ending p.program)) (then_do-associative (item_run e k u) rest end) ∙ then_do-associative (item_run e k u) (λ b. then_do (rest b) end) (js_showing.ending p.program)

        next : (d : Direction) (n k : ℕ) (es : List EntryPoint) (y : World) → ((z : World) (v : ir.Value) (s : ir.State) (u : js.State) → SameState p z s u → Sim d ◌≡◌ (ir_showing.all_show p.classes n es s) (ended k (calls_at es k u))) → (a : ir.Ended) (b : js.ExpressionEnd) → Valued p y ir_showing.outside NoType a b → Sim d ◌≡◌ (ir_showing.next_or_end (ir_showing.all_show p.classes n es) a) (then_do (then_do (js.with_value (λ v. js_meaning.run_items p.program k f (map call_item_of es)) b) (js.with_value (λ v. js_meaning.run_files p.program k []))) (js_showing.ending p.program))
        next d n k es y others _ _ (valued z v x s u g a same) = others z v s u same
        next d n k es y others _ _ (thrown z v x s u g a same) = uncaught_alike p p.program d z v x s u same a.stands a.suits

-- a file that calls initializers behind what it declares
module _ (w typing : ir_world.World) (f : Name) (m : Module) (none : m.imports ≡ []) (usable : Usable) (room : Room) where
  abbrev pub place_of : Place
  place_of = emitted_in w typing (alone f m) (λ t. f) (λ g. usable) room

  pub reaches : Reaches place_of f
  reaches t u = own_name f m (top_name t) none

  abbrev pub calls : List EntryPoint → ℕ → js.State → Out js.ExpressionEnd
  calls = calls_at place_of f reaches

  abbrev pub order_shows : ℕ → List Name → Shown
  order_shows k names = if list_all (files.is_good_file (alone f m)) names then then_do (js_meaning.run_files (alone f m) k names (js_meaning.opening (alone f m))) (js_showing.ending (alone f m)) else wrong

  abbrev content_shows : ℕ → Option Module → Shown
  content_shows k content = if (files.is_good_module (alone f m) f content && true) then then_do (then_do (js_meaning.run_items (alone f m) k f (files.items_in content) (js_meaning.opening (alone f m))) (js.with_value (λ v. js_meaning.run_files (alone f m) k []))) (js_showing.ending (alone f m)) else wrong

  -- each initializer and its call agree
  abbrev pub InitializersAgree : Type 0
  InitializersAgree = InitializersAgreeAt place_of f reaches

  module _ (agree : InitializersAgree) where
    -- what the file shows, where its items come to a state that stands for the opening, and the calls of these initializers go on from it
    pub file_alike : is_proper_module m ≡ true → (es : List EntryPoint) (y : World) (u : js.State) → ((k : ℕ) → js_meaning.run_items (alone f m) k f m.items (js_meaning.opening (alone f m)) ≡ calls es k u) → SameState place_of y (ir_world.opening w) u → ((e : EntryPoint) → Contains es e → usable.linked (initializer_member e) ≡ true) → (d : Direction) (n k : ℕ) → Enough room 0 d n k → Sim d ◌≡◌ (ir_showing.all_show w n es (ir_world.opening w)) (order_shows k (files.running_order (alone f m) f))
    file_alike proper es y u runs same all d n k h = subst (λ o. Sim d ◌≡◌ (ir_showing.all_show w n es (ir_world.opening w)) o) (sym js_is) (calls_alike place_of f reaches agree d n k h es all y (ir_world.opening w) u same)
      where
        judged : files.is_good_module (alone f m) f (Some m) ≡ true
        judged = ap (λ b. b && list_all (λ x. is_some (files.owner (alone f m) f x)) (imported_names m.imports)) proper ∙ ap (λ is. list_all (λ x. is_some (files.owner (alone f m) f x)) (imported_names is)) none

        js_is : order_shows k (files.running_order (alone f m) f) ≡ ended place_of f reaches k (calls es k u)
        js_is = ap (order_shows k) (order_is f m none) ∙ ap (content_shows k) (module_there f m) ∙ (λ i. if (judged i && true) then ended place_of f reaches k (runs k i) else wrong)

-- functions do nothing as items
past_functions : (p : js.Program) (k : ℕ) (f : Name) (fs : List EmittedMethod) (is : List Item) (u : js.State) → js_meaning.run_items p k f (map function_item_of fs ++ is) u ≡ js_meaning.run_items p k f is u
past_functions p k f [] is u = refl
past_functions p k f (g ∷ gs) is u = past_functions p k f gs is u

-- nothing is made yet
nothing_there : {A : Type 0} (o : A) → None ≡ Some o → ⊥
nothing_there o e = cc

no_heaps : (p : Place) → SameHeap p (nothing_made (box_link p ∷ [])) [] []
no_heaps p = record {
  objects = λ i a e. absurd (nothing_there a e);
  arrays = λ i k e. absurd (nothing_there k e);
  items_differ = λ i j k l e g h. absurd (nothing_there k e);
  items_apart = λ i k o e g. nothing_there k e;
  items_born = λ i k o e g. nothing_there k e;
  free = λ i c e. absurd (nothing_there c e);
  made = λ i c e. absurd (nothing_there c e);
  differ = λ i j a e g. absurd (nothing_there a e);
  owned = λ a o e. absurd (nothing_there o e);
  marked = λ a constants e. absurd (nothing_there (js.plain [] constants) e);
  pending = λ a o e. absurd (nothing_there o e);
  apart = λ i a o e g. nothing_there a e;
  unborn = λ i a o e g. nothing_there a e;
  separate = λ a o b e g. nothing_there o e;
  boxes = refl;
}

module _ (w typing : ir_world.World) (id : List ℕ) (fs : List EmittedMethod) (es : List EntryPoint) (linked_here : Member → Bool) where
  abbrev has : Usable
  has = members_alone linked_here

  abbrev file : Name
  file = js_showing.file_of id

  abbrev program : js.Program
  program = program_with id fs es

  abbrev place : Place
  place = emitted_in w typing program (λ t. file) (λ f. has) no_room

  parameters-are : (xs : List (List ℕ)) → parameter_names xs ≡ parameters_in place xs
  parameters-are [] = refl
  parameters-are (x ∷ xs) = ap (λ ns. place.name (named x) ∷ ns) (parameters-are xs)

  pub code-is : (e : EmittedMethod) → code_with e ≡ function_of place file e.definition e.its_body
  code-is e = λ i. record { parameters = parameters-are (desugared e.definition e.its_body).params i; body = (code_with e).body }

  linked_by : is_proper_module (module_with fs es) ≡ true → (e : EmittedMethod) → Contains fs e → IsEmitted w typing has e → Linked place e.member
  linked_by proper e listed h = record {
    definition = e.definition;
    its_body = e.its_body;
    found = h.found;
    has_body = h.has_body;
    parameters = h.parameters;
    result_is = h.result_is;
    emitted = ap (λ o. js_meaning.code_in o (member_name e.member)) (module_there file (module_with fs es)) ∙ code_found fs (map call_item_of es) e listed distinct ∙ ap Some (code-is e);
    rules = h.rules;
    reaches = λ t u. own_name file (module_with fs es) (top_name t) refl;
  }
    where
      names : Bool
      names = are_distinct (item_names (map function_item_of fs ++ map call_item_of es))

      distinct : are_distinct (item_names (map function_item_of fs ++ map call_item_of es)) ≡ true
      distinct = (and_parts names true (and_parts (names && true) true (and_parts (names && true && true) (list_all is_proper_item (map function_item_of fs ++ map call_item_of es)) proper).0).0).0

  module _ (plain : IsPlain typing) (proper : is_proper_module (module_with fs es) ≡ true) (emitted : (e : EmittedMethod) → Contains fs e → IsEmitted w typing has e) (functions : (m : Member) → has.linked m ≡ true → HasFunction fs m) where
    linked : (m : Member) → has.linked m ≡ true → Linked place m
    linked m l = let h = functions m l in subst (Linked place) h.is (linked_by proper h.method h.listed (emitted h.method h.listed))

    opening_same : SameState place (nothing_made (box_link place ∷ [])) (ir_world.opening w) (js_meaning.opening program)
    opening_same = record { heaps = no_heaps place; tops = λ f t h. top_there t h; statics = λ f c g t h. impossible h; cells = λ f c h. impossible h }
      where
        top_there : (t : Top) → is_usable has t ≡ true → TopHolds place (nothing_made (box_link place ∷ [])).owned t ((js_meaning.opening program).tops file (top_name t))
        top_there (a_function m) l = let h = functions m l in ap (λ o. js_meaning.module_cell file o (member_name m)) (module_there file (module_with fs es)) ∙ subst (λ x. js_meaning.items_cell file (map function_item_of fs ++ map call_item_of es) (member_name x) ≡ js.holds false (js.function file (member_name x))) h.is (cell_found file fs (map call_item_of es) h.method h.listed)
        top_there (a_method m) l = impossible l
        top_there (a_constructor m) l = impossible l
        top_there (a_dispatch m) l = impossible l
        top_there (a_reflection m) l = impossible l
        top_there (a_class c) l = impossible l
        top_there (some_constants c) l = impossible l
        top_there (a_static c g t) l = impossible l
        top_there (a_setter c g t) l = impossible l
        top_there (a_cell c) l = impossible l
        top_there (a_loader c) l = impossible l
        top_there (a_storer c) l = impossible l
        top_there (a_test t) l = impossible l
        top_there (a_cast t) l = impossible l
        top_there (a_helper h) l = impossible l

    no_objects : CallsAlone place
    no_objects = record { received = λ f m. refl; looked = λ f c m. refl; reflected = λ f m. refl; built = λ f m. refl; made = λ f c. refl; field = λ f c g t. refl; static_field = λ f c g t. refl; static_setter = λ f c g t. refl; modules = λ f c. refl; stored = λ f c. refl; tests = λ f t. refl; casts = λ f t. refl; on_arrays = λ f m. refl; helper = λ f x. refl }

    names : NamesDiffer place
    names = emitted_names_differ w typing program (λ t. file) (λ f. has) no_room

    initializers_agree : InitializersAgree w typing file (module_with fs es) refl has no_room
    initializers_agree e l y s u same = calls_agree place (in_world typing plain) names (λ f m l. linked m l) no_objects file (initializer_member e) l y [] [] ir_showing.outside s u no_values same

    pub shows_alike : ((e : EntryPoint) → Contains es e → has.linked (initializer_member e) ≡ true) → (d : Direction) (n k : ℕ) → Enough place.room 0 d n k → Sim d ◌≡◌ (ir_showing.all_show w n es (ir_world.opening w)) (js_showing.js_shows program id k)
    shows_alike all d n k h = file_alike w typing file (module_with fs es) refl has no_room initializers_agree proper es (nothing_made (box_link place ∷ [])) (js_meaning.opening program) (λ k. past_functions program k file fs (map call_item_of es) (js_meaning.opening program)) opening_same all d n k h

pub file_agrees : (w typing : ir_world.World) → IsPlain typing → (entries : List EntryPoint) (id : List ℕ) (fs : List EmittedMethod) (linked_here : Member → Bool) → is_proper_module (module_with fs (ir_showing.initializers entries id)) ≡ true → ((e : EmittedMethod) → Contains fs e → IsEmitted w typing (members_alone linked_here) e) → ((m : Member) → linked_here m ≡ true → HasFunction fs m) → ((e : EntryPoint) → Contains (ir_showing.initializers entries id) e → linked_here (initializer_member e) ≡ true) → ((n : ℕ) → IsNotWrong (ir_showing.ir_shows w entries id n).end) → Agree (ir_showing.ir_shows w entries id) (js_showing.js_shows (program_with id fs (ir_showing.initializers entries id)) id)
file_agrees w typing plain entries id fs linked_here proper emitted functions all right = agree-from_sim no_room (ir_showing.ir_shows w entries id) (js_showing.js_shows (program_with id fs (ir_showing.initializers entries id)) id) (shows_alike w typing id fs (ir_showing.initializers entries id) linked_here plain proper emitted functions all) right
