-- The worked worlds have what soundness asks.
use Rattle.std.proofs.Common.{◌≡◌, codes, ◌<◌, ℕ, Bool, true, false, ◌&&◌, List, [], ◌∷◌, Some, None, Option, Contains, refl, sym, ◌∙◌, ◌||◌, subst, ◌⊎◌, inl, inr, ⊎_elim, arith}
use Rattle.std.specs.Int.{w32}
use Rattle.std.specs.List.{list_any}
use Rattle.std.specs.Prelude.{FitsSigned, pos}
use Rattle.std.proofs.lemmas.Bool.{and_parts}
use Rattle.agree_early_errors.proofs.Lists.{nothing_in, in_front_or_behind}
use Rattle.agree_early_errors.proofs.Plain.{class_found, plain_world}
use Rattle.agree_early_errors.specs.Locals.{HasValue}
use Rattle.agree_early_errors.proofs.RulesGive.{no_division}
use Rattle.dispatch_laws.proofs.OwnTargets.{own_target}
use Rattle.agree_soundness.proofs.Modules.{never_wrong}
use Rattle.agree_soundness.proofs.Chains.{no_primitive, on_chain as below_on_chain}
use Rattle.agree_soundness.specs.Laws.{ObjectLaws}
use Rattle.agree_soundness.specs.Rules.{RightMember}
use Rattle.agree_soundness.specs.Worked.{class_name, field_name, init_name, get_name, gets_field, gets, init_method, get_method, main_method, its_field, its_class, object_world, main_member, is_member, object_use, counts, counting_method, array_world, array_use}
use Rattle.agree_soundness.specs.Worlds.{AreClassesKept, HasFields, WritesInterfaces}
use Rattle.dispatch_laws.specs.Dispatch.{chain_of}
use Rattle.dispatch_laws.specs.Rows.{nowhere, object_name, object_with, main_entry, once}
use Rattle.dispatch_laws.specs.Shows.{initializers, ir_shows}
use Rattle.dispatch_laws.specs.World.{zeros_in, zero_of}
use Rattle.dispatch_laws.specs.World as ir_world
use Rattle.outcomes.specs.Agreement.{IsNotWrong}
use Rattle.agree_early_errors.specs.Desugar.{member}
use Rattle.agree_early_errors.specs.Built.{can_put, divides}
use Rattle.sj_local.specs.ClassRules.{keeps_superclass, keeps_hijacked}
use Rattle.sj_names.proofs.Same.{impossible, text-same, method-same, namespace-same}
use Rattle.sj_names.specs.Same.{is_same_text, is_same_namespace, is_same_method}
use Rattle.sj_names.specs.declared.method_names.Member.{Member}
use Rattle.sj_names.specs.declared.method_names.Namespace.TheVariants.{Private, Constructor}
use Rattle.sj_names.specs.declared.entry_points.EntryPoint.{EntryPoint}
use Rattle.agree_early_errors.specs.Emitted.{initializer_member}
use Rattle.agree_early_errors.specs.Methods.{KeepsRules}
use Rattle.sj_trees.proofs.SameTypes.{type-same}
use Rattle.sj_trees.specs.SameTypes.{is_same_type}
use Rattle.sj_trees.specs.Term.{skip}
use Rattle.sj_trees.specs.Types.{class_type}
use Rattle.sj_trees.specs.declared.classes.ClassDef.{ClassDef}
use Rattle.sj_trees.specs.declared.types.IrType.{IrType}
use Rattle.sj_trees.specs.declared.types.IrType.TheVariants.{Class, Undefined, Boolean, Char, Byte, Short, Int, Long, String, Null}
use Rattle.sj_trees.specs.declared.operators.BinaryOp.{BinaryOp}
use Rattle.sj_trees.specs.declared.operators.BinaryOp.TheVariants.{IntDivide, IntRemainder, LongDivide, LongRemainder}
use Rattle.dispatch_laws.specs.Ancestors.{next_on_chain, IsOnChain}
use Rattle.dispatch_laws.specs.Known.{Name, stands_as, is_hijacked}
use Rattle.dispatch_laws.specs.SjWorldLaws.{IsPlain}
use Rattle.dispatch_laws.specs.Paths.{stay, on}
use Rattle.dispatch_laws.specs.Subtypes.{hijacked_class, IsSub, equal}
use Rattle.agree_early_errors.specs.Rules.{nothing_wanted, fitting, HasFieldType}

pub member-same : (m k : Member) → is_member k m ≡ true → m ≡ k
member-same m k h =
    let p = and_parts (is_same_text m.class k.class) (is_same_namespace m.namespace k.namespace && is_same_method m.method k.method) h in
    let q = and_parts (is_same_namespace m.namespace k.namespace) (is_same_method m.method k.method) p.1 in
    let e = text-same m.class k.class p.0 in
    let f = namespace-same m.namespace k.namespace q.0 in
    let g = method-same m.method k.method q.1 in
    λ i. record { class = e i; namespace = f i; method = g i }

no_place : (i : ℕ) → i < 0 → ⊥
no_place i h = omega (arith, h)

field_type : HasFieldType object_world class_name field_name false Int
field_type = record { field = its_field; is_field = record { class = its_class; is_class = refl; first = record { place = 0; stands = refl; has = record { name_is = refl; mark_is = refl }; none_before = λ i y h s k. no_place i h } }; type_is = refl }

pub init_rules : KeepsRules object_world object_use class_name init_method (skip nowhere)
init_rules = record { typed = record { meets = tt; built = refl; finds = tt }; yields = nothing_wanted refl; boxed = refl; result = inl refl; values = λ x p e. impossible (cc); once = record { once = tt; parameters = tt; fresh = λ x o i. i } }

pub get_rules : KeepsRules object_world object_use class_name get_method gets_field
get_rules = record { typed = (record { meets = (equal refl, field_type); built = refl; finds = tt }, record { meets = tt; built = refl; finds = (tt, refl) }); yields = fitting (equal refl); boxed = refl; result = inr refl; values = λ x p e. impossible (cc); once = record { once = tt; parameters = tt; fresh = λ x o i. i } }

pub main_rules : KeepsRules object_world object_use object_name main_method gets
main_rules = record { typed = (record { meets = (tt, refl, equal refl, tt); built = refl; finds = tt }, (record { meets = (refl, tt); built = refl; finds = tt }, tt), tt); yields = nothing_wanted refl; boxed = refl; result = inl refl; values = λ x p e. impossible (cc); once = record { once = (tt, tt, λ x o i. i); parameters = tt; fresh = λ x o i. i } }

abbrev pub main_right : RightMember object_world object_world object_use main_member
main_right = record { definition = main_method; its_body = gets; found = refl; has_body = refl; rules = main_rules; names = record { once = tt; fresh = λ x n i. n }; parameters = tt; result_is = refl }

linked_right : (m : Member) → object_use.linked m ≡ true → RightMember object_world object_world object_use m
linked_right m h = subst (RightMember object_world object_world object_use) (sym (member-same m main_member h)) main_right

abbrev pub get_right : RightMember object_world object_world object_use (member class_name Private get_name)
get_right = record { definition = get_method; its_body = gets_field; found = refl; has_body = refl; rules = get_rules; names = record { once = tt; fresh = λ x n i. n }; parameters = tt; result_is = refl }

received_right : (m : Member) → object_use.received m ≡ true → RightMember object_world object_world object_use m
received_right m h = subst (RightMember object_world object_world object_use) (sym (member-same m (member class_name Private get_name) h)) get_right

abbrev pub init_right : RightMember object_world object_world object_use (member class_name Constructor init_name)
init_right = record { definition = init_method; its_body = skip nowhere; found = refl; has_body = refl; rules = init_rules; names = record { once = tt; fresh = λ x n i. n }; parameters = tt; result_is = refl }

built_right : (m : Member) → object_use.built m ≡ true → RightMember object_world object_world object_use m
built_right m h = subst (RightMember object_world object_world object_use) (sym (member-same m (member class_name Constructor init_name) h)) init_right

-- a class of the world is one of the two
pub each_class : (P : ClassDef → Type 0) → P (object_with (main_method ∷ [])) → P its_class → (c : ClassDef) → Contains object_world c → P c
each_class P first second c i = ⊎_elim (λ same. subst P same first) (λ later. ⊎_elim (λ same. subst P same second) (λ none. nothing_in c none) (in_front_or_behind its_class [] c later)) (in_front_or_behind (object_with (main_method ∷ [])) (its_class ∷ []) c i)

kept : AreClassesKept object_world
kept = record { superclass = each_class (λ c. keeps_superclass c ≡ true) refl refl; hijacked = each_class (λ c. keeps_hijacked c ≡ true) refl refl }

pub plain : IsPlain object_world
plain = plain_world object_world kept.superclass kept.hijacked

-- no class writes an interface
pub data OneField (c f : List ℕ) (t : IrType) : Type 0 where
  the_field : c ≡ class_name → f ≡ field_name → t ≡ Int → OneField c f t

pub field_is : (c f : List ℕ) (t : IrType) → object_use.field c f t ≡ true → OneField c f t
field_is c f t h = let p = and_parts (is_same_text c class_name) (is_same_text f field_name && is_same_type t Int) h in let q = and_parts (is_same_text f field_name) (is_same_type t Int) p.1 in the_field (text-same c class_name p.0) (text-same f field_name q.0) (type-same t Int q.1)

no_faces : (d : Name) → WritesInterfaces object_world d
no_faces d b path class found i face among there = nothing_in i (subst (λ (xs : List Name). Contains xs i) (each_class (λ (c : ClassDef). c.interfaces ≡ []) refl refl class (class_found object_world (stands_as b) class found).0) among)

has_fields : HasFields object_world class_name
has_fields = record { class = its_class; found = refl; no_interface = refl; no_object = refl; no_number = refl; no_hijacked = refl }

zeros : (c f : List ℕ) (t : IrType) → OneField c f t → HasValue t × (zeros_in (ir_world.class_of object_world c) f ≡ Some (zero_of t))
zeros c f t (the_field e g h) = (subst HasValue (sym h) refl, (λ i. zeros_in (ir_world.class_of object_world (e i)) (g i)) ∙ (λ i. Some (zero_of (sym h i))))

same_types : (c f : List ℕ) (s t : IrType) → OneField c f s → OneField c f t → s ≡ t
same_types c f s t (the_field d e g) (the_field h i j) = g ∙ sym j

-- what is made is of the class, or of the one above it, which isn't below the first
pub made_is : (c : List ℕ) → object_use.made c ≡ true → (c ≡ class_name) ⊎ (c ≡ object_name)
made_is c h = go (is_same_text c class_name) refl h
  where
    go : (b : Bool) → is_same_text c class_name ≡ b → (b || is_same_text c object_name) ≡ true → (c ≡ class_name) ⊎ (c ≡ object_name)
    go true e k = inl (text-same c class_name e)
    go false e k = inr (text-same c object_name k)

none_hijacked : (c : List ℕ) → (c ≡ class_name) ⊎ (c ≡ object_name) → is_hijacked c ≡ false
none_hijacked c (inl e) = subst (λ (n : List ℕ). is_hijacked n ≡ false) (sym e) refl
none_hijacked c (inr e) = subst (λ (n : List ℕ). is_hijacked n ≡ false) (sym e) refl

only_top : (c : Name) → IsOnChain object_world object_name c → c ≡ object_name
only_top _ stay = refl
only_top _ (on b c path step) = let next : ◌≡◌ {A = Option Name} None (Some c) = subst (λ (n : Name). next_on_chain object_world n ≡ Some c) (only_top b path) step in absurd (cc)

top_not_below : {A : Type 0} → IsSub object_world (Class object_name) (class_type class_name) → A
top_not_below sub = impossible (subst (λ (n : Name). is_same_text class_name n ≡ true) (only_top class_name (below_on_chain object_world kept class_name object_name has_fields refl (no_faces object_name) sub)) refl)

on_chain : (c f : List ℕ) (t : IrType) (d : List ℕ) → OneField c f t → (d ≡ class_name) ⊎ (d ≡ object_name) → IsSub object_world (Class d) (class_type c) → list_any (is_same_text c) (chain_of object_world d) ≡ true
on_chain c f t d (the_field e g h) (inl k) sub = (λ i. list_any (is_same_text (e i)) (chain_of object_world (k i)))
on_chain c f t d (the_field e g h) (inr k) sub = top_not_below (subst (λ (n : Name). IsSub object_world (Class object_name) (class_type n)) e (subst (λ (n : Name). IsSub object_world (Class n) (class_type c)) k sub))

none_below : (c f : List ℕ) (t : IrType) (o : IrType) (h : List ℕ) → OneField c f t → hijacked_class o ≡ Some h → IsSub object_world o (class_type c) → ⊥
none_below c f t o h (the_field e g i) its sub = no_primitive object_world kept class_name o h has_fields its (no_faces h) (subst (λ (n : List ℕ). IsSub object_world o (class_type n)) e sub)

no_top : (c f : List ℕ) (t : IrType) → OneField c f t → IsSub object_world (Class object_name) (class_type c) → ⊥
no_top c f t (the_field e g h) sub = top_not_below (subst (λ (n : Name). IsSub object_world (Class object_name) (class_type n)) e sub)

pub object_laws : ObjectLaws object_world object_world object_use
object_laws = record {
  typed = λ k. refl;
  received = received_right;
  looked = λ c m h d b. impossible h;
  reflected = λ p h d b. impossible h;
  targets = λ m h. own_target object_world m;
  built = built_right;
  made = λ c h. none_hijacked c (made_is c h);
  fields = λ c f t h. zeros c f t (field_is c f t h);
  one_type = λ c f s t h k. same_types c f s t (field_is c f s h) (field_is c f t k);
  holders = λ c f t h d m sub. on_chain c f t d (field_is c f t h) (made_is d m) sub;
  strangers = λ c f t h o n its sub. none_below c f t o n (field_is c f t h) its sub;
  statics = λ c f t h. impossible h;
  one_static = λ c f s t h k. impossible h;
  modules = λ c h. impossible h;
  exceptions = λ h. impossible h;
  divisions = λ o h. no_division object_use (λ x. refl) o h;
  casts = λ t h. impossible h;
  on_arrays = λ m h made. impossible h;
  tops = λ c f t h sub. no_top c f t (field_is c f t h) sub;
  arrays = λ h. impossible h;
  sizes = λ h. impossible h;
  reads = λ h. impossible h;
  writes = λ t h. impossible h;
  stores = λ h. impossible h;
}

pub initializer_linked : (e : EntryPoint) → Contains (initializers once (codes "main")) e → object_use.linked (initializer_member e) ≡ true
initializer_linked e i = ⊎_elim (λ same. subst (λ (x : EntryPoint). object_use.linked (initializer_member x) ≡ true) same refl) (λ none. nothing_in e none) (in_front_or_behind main_entry [] e i)

pub gets_right : (n : ℕ) → IsNotWrong (ir_shows object_world once (codes "main") n).end
gets_right = never_wrong object_world object_world plain object_use object_laws linked_right once (codes "main") initializer_linked

three : FitsSigned w32 (pos 3)
three = record { sfits = omega arith }

counting_rules : KeepsRules array_world array_use object_name counting_method counts
counting_rules = record { typed = (record { meets = tt; built = refl; finds = tt }, (record { meets = (equal refl, tt); built = refl; finds = (omega arith, omega arith) }, (record { meets = tt; built = refl; finds = three }, tt))); yields = nothing_wanted refl; boxed = refl; result = inl refl; values = λ x p e. impossible (cc); once = record { once = (tt, tt, λ x o i. i); parameters = tt; fresh = λ x o i. i } }

abbrev counting_right : RightMember array_world array_world array_use main_member
counting_right = record { definition = counting_method; its_body = counts; found = refl; has_body = refl; rules = counting_rules; names = record { once = tt; fresh = λ x n i. n }; parameters = tt; result_is = refl }

main_linked : (m : Member) → array_use.linked m ≡ true → RightMember array_world array_world array_use m
main_linked m h = subst (RightMember array_world array_world array_use) (sym (member-same m main_member h)) counting_right

one_class : (P : ClassDef → Type 0) → P (object_with (counting_method ∷ [])) → (c : ClassDef) → Contains array_world c → P c
one_class P here c i = ⊎_elim (λ same. subst P same here) (λ none. nothing_in c none) (in_front_or_behind (object_with (counting_method ∷ [])) [] c i)

-- no item is written, and no operator divides
no_items_set : (t : IrType) → can_put array_use t ≡ true → ⊥
no_items_set Undefined h = impossible h
no_items_set Boolean h = impossible h
no_items_set Char h = impossible h
no_items_set Byte h = impossible h
no_items_set Short h = impossible h
no_items_set Int h = impossible h
no_items_set Long h = impossible h
no_items_set String h = impossible h
no_items_set Null h = impossible h
no_items_set _ h = impossible h

divides_nothing : (o : BinaryOp) → divides array_use o ≡ true → ⊥
divides_nothing IntDivide h = impossible h
divides_nothing IntRemainder h = impossible h
divides_nothing LongDivide h = impossible h
divides_nothing LongRemainder h = impossible h
divides_nothing _ h = impossible h

pub array_laws : ObjectLaws array_world array_world array_use
array_laws = record {
  typed = λ k. refl;
  received = λ m h. impossible h;
  looked = λ c m h d b. impossible h;
  on_arrays = λ m h made. impossible h;
  reflected = λ p h d b. impossible h;
  targets = λ m h. own_target array_world m;
  built = λ m h. impossible h;
  made = λ c h. subst (λ (n : List ℕ). is_hijacked n ≡ false) (text-same object_name c h) refl;
  fields = λ c f t h. impossible h;
  one_type = λ c f s t h k. impossible h;
  holders = λ c f t h d m sub. impossible h;
  strangers = λ c f t h o n its sub. impossible h;
  tops = λ c f t h sub. impossible h;
  statics = λ c f t h. impossible h;
  one_static = λ c f s t h k. impossible h;
  modules = λ c h. impossible h;
  exceptions = λ h. impossible h;
  divisions = λ o h. absurd (divides_nothing o h);
  casts = λ t h. impossible h;
  arrays = λ h. refl;
  sizes = λ h. impossible h;
  reads = λ h. impossible h;
  writes = λ t h. absurd (no_items_set t h);
  stores = λ h. impossible h;
}

counting_linked : (e : EntryPoint) → Contains (initializers once (codes "main")) e → array_use.linked (initializer_member e) ≡ true
counting_linked e i = ⊎_elim (λ same. subst (λ (x : EntryPoint). array_use.linked (initializer_member x) ≡ true) same refl) (λ none. nothing_in e none) (in_front_or_behind main_entry [] e i)

pub length_never_wrong : (n : ℕ) → IsNotWrong (ir_shows array_world once (codes "main") n).end
length_never_wrong = never_wrong array_world array_world (plain_world array_world (one_class (λ c. keeps_superclass c ≡ true) refl) (one_class (λ c. keeps_hijacked c ≡ true) refl)) array_use array_laws main_linked once (codes "main") counting_linked
