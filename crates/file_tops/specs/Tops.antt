-- What the declarations at the tops of files come to, before anything is called.
use Rattle.std.specs.Prelude.{Bool, true, false, ◌||◌, ◌&&◌, List, [], ◌∷◌, Option, Some, None, if◌then◌else◌}
use Rattle.int_arithmetic.specs.BigInts.{is_in_range}
use Rattle.int_arithmetic.specs.Numbers.{is_exact}
use Rattle.js_tree.specs.Names.{is_same_text}
use Rattle.js_tree.specs.Terms.{Name, Expression, null_literal, boolean_literal, undefined_literal, number_literal, big_literal, text_literal, Property, Item, const_item, object_item, let_item, expression_item, function_item, class_item, subclass_item}
use Rattle.js_mean.specs.Objects.{with_property, no_properties, allocated, next_address}
use Rattle.js_mean.specs.States.{Value, undefined, null, boolean, number, big_int, text, object, class, ClassLink, Cell, holds, State, Program}
use Rattle.js_mean.specs.Files.{module_among, items_in}
use Rattle.js_mean.specs.Meaning.{binding, cell_of, top_scope}

-- the value of a literal
abbrev pub literal_value : Expression → Option Value
literal_value null_literal = Some null
literal_value (boolean_literal b) = Some (boolean b)
literal_value undefined_literal = Some undefined
literal_value (number_literal z) = if is_exact z then Some (number z) else None
literal_value (big_literal z) = if is_in_range z then Some (big_int z) else None
literal_value (text_literal us) = Some (text us)
literal_value _ = None

abbrev pub with_each : {A B : Type 0} → Option A → (A → Option B) → Option B
with_each None f = None
with_each (Some a) f = f a

-- properties that are literals
abbrev pub literal_properties : List Property → (Name → Option Value) → Option (Name → Option Value)
literal_properties [] own = Some own
literal_properties (p ∷ ps) own = with_each (literal_value p.value) (λ v. literal_properties ps (with_property p.name v own))

-- the state in which a binding at the top of a file has started
abbrev pub started : Bool → Name → Name → Value → State → State
started const f x v s = record { heap = s.heap; tops = λ g y. if is_same_text g f then binding x (holds const v) (s.tops g) y else s.tops g y }

abbrev pub link : Name → Name → ClassLink
link f x = record { file = f; name = x }

-- the classes that a binding holds
abbrev pub classes_in : Cell → Option (List ClassLink)
classes_in (holds const (class ls)) = Some ls
classes_in _ = None

-- the state behind an item that declares, and none where it does more than that, or extends what holds no class
abbrev pub after_item : Program → Name → Item → State → Option State
after_item p f (function_item x xs ss) s = Some s
after_item p f (class_item x ms) s = Some (started false f x (class (link f x ∷ [])) s)
after_item p f (subclass_item x y ms) s = with_each (classes_in (cell_of p y (top_scope p f) s)) (λ ls. Some (started false f x (class (link f x ∷ ls)) s))
after_item p f (const_item x e) s = with_each (literal_value e) (λ v. Some (started true f x v s))
after_item p f (let_item x e) s = with_each (literal_value e) (λ v. Some (started false f x v s))
after_item p f (object_item x ps) s = with_each (literal_properties ps no_properties) (λ own. Some (started true f x (object (next_address s)) (allocated [] own s)))
after_item p f (expression_item e) s = None

abbrev pub after_items : Program → Name → List Item → State → Option State
after_items p f [] s = Some s
after_items p f (i ∷ is) s = with_each (after_item p f i s) (after_items p f is)

-- the state behind the files in order
abbrev pub after_files : Program → List Name → State → Option State
after_files p [] s = Some s
after_files p (f ∷ fs) s = with_each (after_items p f (items_in (module_among p f)) s) (after_files p fs)

-- whether an item declares a name
abbrev pub declares_name : Item → Name → Bool
declares_name (const_item x e) y = is_same_text y x
declares_name (object_item x ps) y = is_same_text y x
declares_name (let_item x e) y = is_same_text y x
declares_name (expression_item e) y = false
declares_name (function_item x xs ss) y = false
declares_name (class_item x ms) y = is_same_text y x
declares_name (subclass_item x z ms) y = is_same_text y x

abbrev pub start_name : List Item → Name → Bool
start_name [] y = false
start_name (i ∷ is) y = declares_name i y || start_name is y

-- whether one of these files starts a name of a file
abbrev pub start_among : Program → List Name → Name → Name → Bool
start_among p [] g y = false
start_among p (f ∷ fs) g y = (is_same_text g f && start_name (items_in (module_among p f)) y) || start_among p fs g y
