-- Heaps that stand for each other: the emitted code makes an object, the IR makes its own for it, and a field of both is written.
use Rattle.std.proofs.Common.{◌≡◌, ◌≤◌, ℕ, zero, suc, Bool, true, false, List, [], ◌∷◌, ◌++◌, length, map, set, slice_get, arith, Option, Some, None, refl, sym, ap, ◌∙◌, subst, if◌then◌else◌}
use Rattle.std.specs.Prelude.{◌==◌, ◌<◌, ◌^◌}
use Rattle.ir_mean.specs.Dispatch.{chain_of}
use Rattle.ir_mean.specs.Known.{is_hijacked}
use Rattle.ir_mean.specs.States as ir
use Rattle.js_mean.specs.States as js
use Rattle.js_tree.specs.Terms.{Name}
use Rattle.sj_mangling.specs.Bindings.{field_binding}
use Rattle.sj_mangling.specs.declared.bindings.FieldBinding.TheVariants.{Property}
use Rattle.sj_emit_help_spec.specs.Words.{object_class}
use Rattle.sj_names.specs.declared.references.BaseRef.{BaseRef}
use Rattle.sj_trees.specs.Types.{element_type}
use Rattle.sj_trees.specs.declared.types.IrType.{IrType}
use Rattle.agree_plain_trees.specs.Settings.{Place, link_of, array_links, HasNoEntries, TellsArray, ArraysSomewhere, StandsForBase, TellsClass, SameField, same_field, no_field, SameStored, same_object, same_array, SameItems, no_items, more_items, SameArray, ObjectAt, MadeSomewhere, MarksAncestors, SameHeap, Holding, holding}
use Rattle.agree_plain_trees.specs.Worlds.{ArrayAt, with_pending, with_owned, with_born, with_array}
use Rattle.agree_plain_trees.proofs.Worlds.{World, Keeps, SameValue, value-carry}

pub get-end : {A : Type 0} (xs : List A) (x : A) → slice_get (xs ++ x ∷ []) (length xs) ≡ Some x
get-end [] x = refl
get-end (y ∷ xs) x = get-end xs x

pub get-front : {A : Type 0} (xs ys : List A) (i : ℕ) (x : A) → slice_get xs i ≡ Some x → slice_get (xs ++ ys) i ≡ Some x
get-front [] ys i x e = absurd (cc)
get-front (y ∷ xs) ys zero x e = e
get-front (y ∷ xs) ys (suc i) x e = get-front xs ys i x e

pub set-end : {A : Type 0} (xs : List A) (x y : A) → set (xs ++ x ∷ []) (length xs) y ≡ xs ++ y ∷ []
set-end [] x y = refl
set-end (z ∷ xs) x y = λ i. z ∷ set-end xs x y i

pub get-set : {A : Type 0} (xs : List A) (i : ℕ) (x y : A) → slice_get xs i ≡ Some x → slice_get (set xs i y) i ≡ Some y
get-set [] i x y e = absurd (cc)
get-set (z ∷ xs) zero x y e = refl
get-set (z ∷ xs) (suc i) x y e = get-set xs i x y e

pub get-set_other : {A : Type 0} (xs : List A) (i j : ℕ) (y : A) → (i ≡ j → ⊥) → slice_get (set xs j y) i ≡ slice_get xs i
get-set_other [] i j y h = refl
get-set_other (z ∷ xs) zero zero y h = absurd (h refl)
get-set_other (z ∷ xs) zero (suc j) y h = refl
get-set_other (z ∷ xs) (suc i) zero y h = refl
get-set_other (z ∷ xs) (suc i) (suc j) y h = get-set_other xs i j y (λ e. h (ap suc e))

pub not-past : {A : Type 0} (xs : List A) (x : A) → slice_get xs (length xs) ≡ Some x → ⊥
not-past [] x e = absurd (cc)
not-past (y ∷ xs) x e = not-past xs x e

pub numbers-same : (a b : ℕ) → (a == b) ≡ true → a ≡ b
numbers-same a b e = grind arith

pub numbers-apart : (a b : ℕ) → (a == b) ≡ false → a ≡ b → ⊥
numbers-apart a b f e = grind arith

pub classes-same : (c d : List ℕ) → ◌≡◌ {A = Option (List ℕ)} (Some c) (Some d) → c ≡ d
classes-same c d e = cc

-- what stands for a field, an object or its class in a world does so in one that has what that one has
pub field-carry : (w y : World) (t : IrType) → Keeps w y → (o : Option ir.Value) (q : Option js.Value) → SameField w t o q → SameField y t o q
field-carry w y t g _ _ (same_field v x a) = same_field v x (value-carry w y t v x g a)
field-carry w y t g _ _ (no_field x) = no_field x

-- what a variable holds
pub holding-carry : (w y : World) (t : IrType) → Keeps w y → (o : Option ir.Value) (cell : js.Cell) → Holding w t o cell → Holding y t o cell
holding-carry w y t g _ _ (holding v x a) = holding v x (value-carry w y t v x g a)

tells-carry : (w y : World) (c : List ℕ) (properties : Name → Option js.Value) → ((a : ℕ) (o : js.Stored) → w.owned a ≡ Some o → y.owned a ≡ Some o) → TellsClass w c properties → TellsClass y c properties
tells-carry w y c properties g h = record { address = h.address; constants = h.constants; held = h.held; owned = g h.address (js.plain [] h.constants) h.owned; marked = h.marked; known = h.known }

-- and for the base of an array
pub base-carry : (owned more : ℕ → Option js.Stored) → ((a : ℕ) (o : js.Stored) → owned a ≡ Some o → more a ≡ Some o) → (b : BaseRef) (x : js.Value) → StandsForBase owned b x → StandsForBase more b x
base-carry owned more h (BaseRef.Class c) x s = record { address = s.address; constants = s.constants; is = s.is; owned_there = h s.address (js.plain [] s.constants) s.owned_there; marked = s.marked }
base-carry owned more h BaseRef.Boolean x s = s
base-carry owned more h BaseRef.Char x s = s
base-carry owned more h BaseRef.Byte x s = s
base-carry owned more h BaseRef.Short x s = s
base-carry owned more h BaseRef.Int x s = s
base-carry owned more h BaseRef.Long x s = s

pub stored-carry : (p : Place) (w y : World) → Keeps w y → (c : List ℕ) (n : Option ArrayAt) (o : Option ir.Stored) (q : Option js.Stored) → SameStored p w c n o q → SameStored p y c n o q
stored-carry p w y g _ _ _ _ (same_array k items properties tells bare its) = same_array k items properties (tells-carry w y object_class properties g.owns tells) bare (record { dimensions = its.dimensions; base = its.base; held = its.held; stands = base-carry w.owned y.owned g.owns k.kind.base its.base its.stands; items = its.items })
stored-carry p w y g _ _ _ _ (same_object c fields properties k bare f) = same_object c fields properties (tells-carry w y c properties g.owns k) bare (λ d n t i. field-carry w y t g (fields d n) (properties (field_binding Property d n)) (f d n t i))

pub object-carry : (p : Place) (w y : World) → Keeps w y → (i : ℕ) → ((c : List ℕ) → w.classes i ≡ Some c → y.classes i ≡ Some c) → w.arrays i ≡ y.arrays i → (o : Option ir.Stored) (q : Option js.Stored) → ObjectAt p w i o q → ObjectAt p y i o q
object-carry p w y g i k same o q f = record { class = f.class; told = k f.class f.told; alike = subst (λ n. SameStored p y f.class n o q) same (stored-carry p w y g f.class (w.arrays i) o q f.alike) }

pub items-carry : (w y : World) → Keeps w y → (t : IrType) (vs : List ir.Value) (xs : List js.Value) → SameItems w t vs xs → SameItems y t vs xs
items-carry w y g t _ _ no_items = no_items
items-carry w y g t _ _ (more_items v x vs xs a others) = more_items v x vs xs (value-carry w y t v x g a) (items-carry w y g t vs xs others)

pub array-carry : (p : Place) (w y : World) → Keeps w y → (k : ArrayAt) (o : Option ir.Stored) (q : Option js.Stored) → SameArray p w k o q → SameArray p y k o q
array-carry p w y g k o q f = record { values = f.values; stored = f.stored; items = f.items; shown = f.shown; alike = items-carry w y g (element_type k.kind) f.values f.items f.alike; short = f.short; few = f.few; made = f.made }

pub record There {A : Type 0} (o : Option A) : Type 0 where
  pub what : A
  pub is : o ≡ Some what

pub stored-there : (p : Place) (w : World) (c : List ℕ) (n : Option ArrayAt) (o : Option ir.Stored) (q : Option js.Stored) → SameStored p w c n o q → There o × There q
stored-there p w _ _ _ _ (same_array k items properties tells bare its) = (record { what = ir.array k.kind items; is = refl }, record { what = js.plain (array_links p) properties; is = refl })
stored-there p w _ _ _ _ (same_object c fields properties k bare f) = (record { what = ir.object c fields; is = refl }, record { what = js.plain (map (link_of p) (chain_of p.classes c)) properties; is = refl })

pub object-there : (p : Place) (w : World) (i : ℕ) (o : Option ir.Stored) (q : Option js.Stored) → ObjectAt p w i o q → There o × There q
object-there p w i o q h = stored-there p w h.class (w.arrays i) o q h.alike

-- it is no list of items
stored-no_items : (p : Place) (w : World) (c : List ℕ) (n : Option ArrayAt) (o : Option ir.Stored) (q : Option js.Stored) → SameStored p w c n o q → (xs : List js.Value) → q ≡ Some (js.array xs) → ⊥
stored-no_items p w _ _ _ _ (same_array k items properties tells bare its) xs e = absurd (cc)
stored-no_items p w _ _ _ _ (same_object c fields properties k bare f) xs e = absurd (cc)

-- what stands for an array does so whatever its items are
array-again : (p : Place) (w : World) (c : List ℕ) (k : ArrayAt) (o : Option ir.Stored) (q : Option js.Stored) → SameStored p w c (Some k) o q → (vs : List ir.Value) → SameStored p w c (Some k) (Some (ir.array k.kind vs)) q
array-again p w _ _ _ _ (same_array k items properties tells bare its) vs = same_array k vs properties tells bare its

pub set-length : {A : Type 0} (xs : List A) (n : ℕ) (x : A) → length (set xs n x) ≡ length xs
set-length [] n x = refl
set-length (y ∷ xs) zero x = refl
set-length (y ∷ xs) (suc n) x = ap suc (set-length xs n x)

-- an item and what stands for it are written
pub items-set : (w : World) (t : IrType) (vs : List ir.Value) (xs : List js.Value) (n : ℕ) (v : ir.Value) (x : js.Value) → SameItems w t vs xs → SameValue w t v x → SameItems w t (set vs n v) (set xs n x)
items-set w t _ _ n v x no_items a = no_items
items-set w t _ _ zero v x (more_items o q vs xs b others) a = more_items v x vs xs a others
items-set w t _ _ (suc n) v x (more_items o q vs xs b others) a = more_items o q (set vs n v) (set xs n x) b (items-set w t vs xs n v x others a)

-- there are as many on both sides
pub items-length : (w : World) (t : IrType) (vs : List ir.Value) (xs : List js.Value) → SameItems w t vs xs → length vs ≡ length xs
items-length w t _ _ no_items = refl
items-length w t _ _ (more_items v x vs xs a others) = ap suc (items-length w t vs xs others)

module _ (p : Place) (w : World) (s : List ir.Stored) (u : List js.Stored) (h : SameHeap p w s u) where
  -- what stands at an address of the world, when the emitted code has made more
  front-there : (i a : ℕ) (o : js.Stored) → w.place i ≡ Some a → slice_get (u ++ o ∷ []) a ≡ slice_get u a
  front-there i a o e = let q = (object-there p w i (slice_get s i) (slice_get u a) (h.objects i a e)).1 in get-front u (o ∷ []) a q.what q.is ∙ sym q.is

  address-there : (i a : ℕ) → w.place i ≡ Some a → a ≡ length u → ⊥
  address-there i a e same = let q = (object-there p w i (slice_get s i) (slice_get u a) (h.objects i a e)).1 in not-past u q.what (subst (λ b. slice_get u b ≡ Some q.what) same q.is)

  pub place-there : (i a : ℕ) → w.place i ≡ Some a → i ≡ length s → ⊥
  place-there i a e same = let q = (object-there p w i (slice_get s i) (slice_get u a) (h.objects i a e)).0 in not-past s q.what (subst (λ b. slice_get s b ≡ Some q.what) same q.is)

  -- items stand among what the emitted code has, and the array among what the IR has
  items-there : (i : ℕ) (k : ArrayAt) → w.arrays i ≡ Some k → k.items ≡ length u → ⊥
  items-there i k e same = let f = h.arrays i k e in not-past u (js.array f.items) (subst (λ b. slice_get u b ≡ Some (js.array f.items)) same f.shown)

  pub array-there : (i : ℕ) (k : ArrayAt) → w.arrays i ≡ Some k → i ≡ length s → ⊥
  array-there i k e same = let f = h.arrays i k e in not-past s (ir.array k.kind f.values) (subst (λ b. slice_get s b ≡ Some (ir.array k.kind f.values)) same f.stored)

  -- the next address of the IR is none of an array yet
  pub none-yet : w.arrays (length s) ≡ None
  none-yet = go (w.arrays (length s)) refl
    where
      go : (n : Option ArrayAt) → w.arrays (length s) ≡ n → w.arrays (length s) ≡ None
      go None e = e
      go (Some k) e = absurd (array-there (length s) k e refl)

  -- no address of the world is that of items
  pub items-placed : (i j : ℕ) (k : ArrayAt) → w.arrays i ≡ Some k → w.place j ≡ Some k.items → ⊥
  items-placed i j k e there = let f = h.arrays i k e in let o = h.objects j k.items there in stored-no_items p w o.class (w.arrays j) (slice_get s j) (slice_get u k.items) o.alike f.items f.shown

  -- what stands for an array when the emitted code has made more
  array-front : (o : js.Stored) (y : World) → Keeps w y → (i : ℕ) (k : ArrayAt) → w.arrays i ≡ Some k → SameArray p y k (slice_get s i) (slice_get (u ++ o ∷ []) k.items)
  array-front o y g i k e = let f = h.arrays i k e in let r = array-carry p w y g k (slice_get s i) (slice_get u k.items) f in record { values = r.values; stored = r.stored; items = r.items; shown = get-front u (o ∷ []) k.items (js.array r.items) r.shown; alike = r.alike; short = r.short; few = r.few; made = r.made }

  -- an object of the emitted code that the IR hasn't made yet
  pub pends : (o : js.Stored) → SameHeap p (with_pending (length u) o w) s (u ++ o ∷ [])
  pends o = record {
    objects = λ i a e. subst (λ q. ObjectAt p (with_pending (length u) o w) i (slice_get s i) q) (sym (front-there i a o e)) (object-carry p w (with_pending (length u) o w) (record { places = λ i a e. e; arrays = λ i k e. e; owns = λ a o e. e; boxes = refl }) i (λ c k. k) refl (slice_get s i) (slice_get u a) (h.objects i a e));
    free = h.free;
    made = h.made;
    differ = h.differ;
    marked = h.marked;
    boxes = h.boxes;
    arrays = array-front o (with_pending (length u) o w) (record { places = λ i a e. e; arrays = λ i k e. e; owns = λ a o e. e; boxes = refl });
    items_differ = h.items_differ;
    items_apart = h.items_apart;
    items_born = λ i k b e f. items_wait i k b e (k.items == length u) refl f;
    owned = λ a b e. get-front u (o ∷ []) a b (h.owned a b e);
    pending = λ a b e. here a b (a == length u) refl e;
    apart = h.apart;
    unborn = λ i a b e k. born i a b e (a == length u) refl k;
    separate = λ a b d e k. owns a b d e (a == length u) refl k;
  }
    where
      here : (a : ℕ) (b : js.Stored) (t : Bool) → (a == length u) ≡ t → (if t then Some o else w.pending a) ≡ Some b → slice_get (u ++ o ∷ []) a ≡ Some b
      here a b true e k = subst (λ x. slice_get (u ++ o ∷ []) x ≡ Some b) (sym (numbers-same a (length u) e)) (get-end u o ∙ k)
      here a b false e k = get-front u (o ∷ []) a b (h.pending a b k)

      items_wait : (i : ℕ) (k : ArrayAt) (b : js.Stored) → w.arrays i ≡ Some k → (t : Bool) → (k.items == length u) ≡ t → (if t then Some o else w.pending k.items) ≡ Some b → ⊥
      items_wait i k b e true q f = items-there i k e (numbers-same k.items (length u) q)
      items_wait i k b e false q f = h.items_born i k b e f

      born : (i a : ℕ) (b : js.Stored) → w.place i ≡ Some a → (t : Bool) → (a == length u) ≡ t → (if t then Some o else w.pending a) ≡ Some b → ⊥
      born i a b e true q k = address-there i a e (numbers-same a (length u) q)
      born i a b e false q k = h.unborn i a b e k

      owns : (a : ℕ) (b d : js.Stored) → w.owned a ≡ Some b → (t : Bool) → (a == length u) ≡ t → (if t then Some o else w.pending a) ≡ Some d → ⊥
      owns a b d e true q k = not-past u b (subst (λ x. slice_get u x ≡ Some b) (numbers-same a (length u) q) (h.owned a b e))
      owns a b d e false q k = h.separate a b d e k

  pub unpending : (b : js.Stored) → w.pending (length u) ≡ Some b → ⊥
  unpending b e = not-past u b (h.pending (length u) b e)

  -- what the emitted code has for itself stays when it makes another object for itself
  pub owned-still : (o : js.Stored) (a : ℕ) (b : js.Stored) → w.owned a ≡ Some b → (with_owned (length u) o w).owned a ≡ Some b
  owned-still o a b e = go (a == length u) refl
    where
      go : (t : Bool) → (a == length u) ≡ t → (if (a == length u) then Some o else w.owned a) ≡ Some b
      go true k = absurd (not-past u b (subst (λ x. slice_get u x ≡ Some b) (numbers-same a (length u) k) (h.owned a b e)))
      go false k = ap (λ (t : Bool). if t then Some o else w.owned a) k ∙ e

  -- an object of some class that the emitted code makes for itself
  pub owns : (o : js.Stored) → ((constants : Name → Option js.Value) → o ≡ js.plain [] constants → ⊥) → SameHeap p (with_owned (length u) o w) s (u ++ o ∷ [])
  owns o classed = record {
    objects = λ i a e. subst (λ q. ObjectAt p (with_owned (length u) o w) i (slice_get s i) q) (sym (front-there i a o e)) (object-carry p w (with_owned (length u) o w) (record { places = λ i a e. e; arrays = λ i k e. e; owns = owned-still o; boxes = refl }) i (λ c k. k) refl (slice_get s i) (slice_get u a) (h.objects i a e));
    free = h.free;
    made = h.made;
    differ = h.differ;
    marked = λ a constants e. marks a constants (a == length u) refl e;
    boxes = h.boxes;
    arrays = array-front o (with_owned (length u) o w) (record { places = λ i a e. e; arrays = λ i k e. e; owns = owned-still o; boxes = refl });
    items_differ = h.items_differ;
    items_apart = λ i k b e f. items_away i k b e (k.items == length u) refl f;
    items_born = h.items_born;
    owned = λ a b e. here a b (a == length u) refl e;
    pending = λ a b e. get-front u (o ∷ []) a b (h.pending a b e);
    apart = λ i a b e k. away i a b e (a == length u) refl k;
    unborn = h.unborn;
    separate = λ a b d e k. waits a b d (a == length u) refl e k;
  }
    where
      one-stored : (a b : js.Stored) → ◌≡◌ {A = Option js.Stored} (Some a) (Some b) → a ≡ b
      one-stored a b e = cc

      marks : (a : ℕ) (constants : Name → Option js.Value) (t : Bool) → (a == length u) ≡ t → (if t then Some o else w.owned a) ≡ Some (js.plain [] constants) → MarksAncestors p.classes constants
      marks a constants true e k = absurd (classed constants (one-stored o (js.plain [] constants) k))
      marks a constants false e k = h.marked a constants k

      here : (a : ℕ) (b : js.Stored) (t : Bool) → (a == length u) ≡ t → (if t then Some o else w.owned a) ≡ Some b → slice_get (u ++ o ∷ []) a ≡ Some b
      here a b true e k = subst (λ x. slice_get (u ++ o ∷ []) x ≡ Some b) (sym (numbers-same a (length u) e)) (get-end u o ∙ k)
      here a b false e k = get-front u (o ∷ []) a b (h.owned a b k)

      items_away : (i : ℕ) (k : ArrayAt) (b : js.Stored) → w.arrays i ≡ Some k → (t : Bool) → (k.items == length u) ≡ t → (if t then Some o else w.owned k.items) ≡ Some b → ⊥
      items_away i k b e true q f = items-there i k e (numbers-same k.items (length u) q)
      items_away i k b e false q f = h.items_apart i k b e f

      away : (i a : ℕ) (b : js.Stored) → w.place i ≡ Some a → (t : Bool) → (a == length u) ≡ t → (if t then Some o else w.owned a) ≡ Some b → ⊥
      away i a b e true q k = address-there i a e (numbers-same a (length u) q)
      away i a b e false q k = h.apart i a b e k

      waits : (a : ℕ) (b d : js.Stored) (t : Bool) → (a == length u) ≡ t → (if t then Some o else w.owned a) ≡ Some b → w.pending a ≡ Some d → ⊥
      waits a b d true q e k = unpending d (subst (λ x. w.pending x ≡ Some d) (numbers-same a (length u) q) k)
      waits a b d false q e k = h.separate a b d e k

  -- the IR makes its object for one that is pending
  pub births : (a : ℕ) (o : js.Stored) (c : List ℕ) (q : ir.Stored) → w.pending a ≡ Some o → is_hijacked c ≡ false → MadeSomewhere p c → SameStored p w c None (Some q) (Some o) → SameHeap p (with_born (length s) a c w) (s ++ q ∷ []) u
  births a o c q there free made alike = record {
    objects = λ i b e. object i b (i == length s) refl e;
    differ = λ i j b e k. two i j b (i == length s) (j == length s) refl refl e k;
    free = λ i d e. frees i d (i == length s) e;
    made = λ i d e. makes i d (i == length s) e;
    marked = h.marked;
    boxes = h.boxes;
    arrays = λ i k e. array i k e;
    items_differ = h.items_differ;
    items_apart = h.items_apart;
    items_born = λ i k d e f. waits i k d e (k.items == a) refl f;
    owned = h.owned;
    pending = λ b d e. other b d (b == a) refl e;
    apart = λ i b d e k. owns i b d (i == length s) refl e k;
    unborn = λ i b d e k. still i b d (i == length s) refl e (b == a) refl k;
    separate = λ b d f e k. sep b d f e (b == a) refl k;
  }
    where
      y : World
      y = with_born (length s) a c w

      placed : (i b : ℕ) → w.place i ≡ Some b → y.place i ≡ Some b
      placed i b e = go (i == length s) refl
        where
          go : (t : Bool) → (i == length s) ≡ t → (if (i == length s) then Some a else w.place i) ≡ Some b
          go true k = absurd (place-there i b e (numbers-same i (length s) k))
          go false k = ap (λ (t : Bool). if t then Some a else w.place i) k ∙ e

      kept : Keeps w y
      kept = record { places = placed; arrays = λ j k e. e; owns = λ a o e. e; boxes = refl }

      some-same : (c d : ℕ) → ◌≡◌ {A = Option ℕ} (Some c) (Some d) → c ≡ d
      some-same c d e = cc

      array : (i : ℕ) (k : ArrayAt) → w.arrays i ≡ Some k → SameArray p y k (slice_get (s ++ q ∷ []) i) (slice_get u k.items)
      array i k e = let f = array-carry p w y kept k (slice_get s i) (slice_get u k.items) (h.arrays i k e) in record { values = f.values; stored = get-front s (q ∷ []) i (ir.array k.kind f.values) f.stored; items = f.items; shown = f.shown; alike = f.alike; short = f.short; few = f.few; made = f.made }

      waits : (i : ℕ) (k : ArrayAt) (d : js.Stored) → w.arrays i ≡ Some k → (t : Bool) → (k.items == a) ≡ t → (if t then None else w.pending k.items) ≡ Some d → ⊥
      waits i k d e true l f = cc
      waits i k d e false l f = h.items_born i k d e f

      stands : (i b : ℕ) → (i == length s) ≡ true → Some a ≡ Some b → SameStored p y c (w.arrays i) (slice_get (s ++ q ∷ []) i) (slice_get u b)
      stands i b k e = subst (λ x. SameStored p y c (w.arrays x) (slice_get (s ++ q ∷ []) x) (slice_get u b)) (sym (numbers-same i (length s) k)) (subst (λ n. SameStored p y c n (slice_get (s ++ q ∷ []) (length s)) (slice_get u b)) (sym none-yet) (subst (λ x. SameStored p y c None x (slice_get u b)) (sym (get-end s q)) (subst (λ x. SameStored p y c None (Some q) (slice_get u x)) (some-same a b e) (subst (λ x. SameStored p y c None (Some q) x) (sym (h.pending a o there)) (stored-carry p w y kept c None (Some q) (Some o) alike)))))

      object : (i b : ℕ) (t : Bool) → (i == length s) ≡ t → (if t then Some a else w.place i) ≡ Some b → ObjectAt p y i (slice_get (s ++ q ∷ []) i) (slice_get u b)
      object i b true k e = record { class = c; told = ap (λ (t : Bool). if t then Some c else w.classes i) k; alike = stands i b k e }
      object i b false k e = let r = (object-there p w i (slice_get s i) (slice_get u b) (h.objects i b e)).0 in subst (λ x. ObjectAt p y i x (slice_get u b)) (r.is ∙ sym (get-front s (q ∷ []) i r.what r.is)) (object-carry p w y kept i (λ d l. ap (λ (t : Bool). if t then Some c else w.classes i) k ∙ l) refl (slice_get s i) (slice_get u b) (h.objects i b e))

      frees : (i : ℕ) (d : List ℕ) (t : Bool) → (if t then Some c else w.classes i) ≡ Some d → is_hijacked d ≡ false
      frees i d true e = subst (λ x. is_hijacked x ≡ false) (classes-same c d e) free
      frees i d false e = h.free i d e

      makes : (i : ℕ) (d : List ℕ) (t : Bool) → (if t then Some c else w.classes i) ≡ Some d → MadeSomewhere p d
      makes i d true e = subst (MadeSomewhere p) (classes-same c d e) made
      makes i d false e = h.made i d e

      two : (i j b : ℕ) (t v : Bool) → (i == length s) ≡ t → (j == length s) ≡ v → (if t then Some a else w.place i) ≡ Some b → (if v then Some a else w.place j) ≡ Some b → i ≡ j
      two i j b true true k l e f = numbers-same i (length s) k ∙ sym (numbers-same j (length s) l)
      two i j b true false k l e f = absurd (h.unborn j a o (subst (λ x. w.place j ≡ Some x) (sym (some-same a b e)) f) there)
      two i j b false true k l e f = absurd (h.unborn i a o (subst (λ x. w.place i ≡ Some x) (sym (some-same a b f)) e) there)
      two i j b false false k l e f = h.differ i j b e f

      other : (b : ℕ) (d : js.Stored) (t : Bool) → (b == a) ≡ t → (if t then None else w.pending b) ≡ Some d → slice_get u b ≡ Some d
      other b d true k e = absurd (cc)
      other b d false k e = h.pending b d e

      owns : (i b : ℕ) (d : js.Stored) (t : Bool) → (i == length s) ≡ t → (if t then Some a else w.place i) ≡ Some b → w.owned b ≡ Some d → ⊥
      owns i b d true k e f = h.separate a d o (subst (λ x. w.owned x ≡ Some d) (sym (some-same a b e)) f) there
      owns i b d false k e f = h.apart i b d e f

      still : (i b : ℕ) (d : js.Stored) (t : Bool) → (i == length s) ≡ t → (if t then Some a else w.place i) ≡ Some b → (v : Bool) → (b == a) ≡ v → (if v then None else w.pending b) ≡ Some d → ⊥
      still i b d t k e true l f = cc
      still i b d true k e false l f = numbers-apart b a l (sym (some-same a b e))
      still i b d false k e false l f = h.unborn i b d e f

      sep : (b : ℕ) (d f : js.Stored) → w.owned b ≡ Some d → (t : Bool) → (b == a) ≡ t → (if t then None else w.pending b) ≡ Some f → ⊥
      sep b d f e true k l = cc
      sep b d f e false k l = h.separate b d f e l

  -- something else stands at an address of both
  pub writes : (i a : ℕ) (c : List ℕ) (q : ir.Stored) (o : js.Stored) → w.place i ≡ Some a → w.classes i ≡ Some c → w.arrays i ≡ None → SameStored p w c None (Some q) (Some o) → SameHeap p w (set s i q) (set u a o)
  writes i a c q o there told none alike = record {
    objects = λ j b e. object j b (j == i) refl e;
    free = h.free;
    made = h.made;
    differ = h.differ;
    marked = h.marked;
    boxes = h.boxes;
    arrays = λ j k e. array j k e;
    items_differ = h.items_differ;
    items_apart = h.items_apart;
    items_born = h.items_born;
    owned = λ b d e. get-set_other u b a o (λ k. h.apart i a d there (subst (λ x. w.owned x ≡ Some d) k e)) ∙ h.owned b d e;
    pending = λ b d e. get-set_other u b a o (λ k. h.unborn i a d there (subst (λ x. w.pending x ≡ Some d) k e)) ∙ h.pending b d e;
    apart = h.apart;
    unborn = h.unborn;
    separate = h.separate;
  }
    where
      some-same : (c d : ℕ) → ◌≡◌ {A = Option ℕ} (Some c) (Some d) → c ≡ d
      some-same c d e = cc

      array : (j : ℕ) (k : ArrayAt) → w.arrays j ≡ Some k → SameArray p w k (slice_get (set s i q) j) (slice_get (set u a o) k.items)
      array j k e = let f = h.arrays j k e in record { values = f.values; stored = get-set_other s j i q (λ l. no_array j k e l) ∙ f.stored; items = f.items; shown = get-set_other u k.items a o (λ l. items-placed j i k e (there ∙ ap Some (sym l))) ∙ f.shown; alike = f.alike; short = f.short; few = f.few; made = f.made }
        where
          no_array : (j : ℕ) (k : ArrayAt) → w.arrays j ≡ Some k → j ≡ i → ⊥
          no_array j k e l = absurd (one k (sym e ∙ ap w.arrays l ∙ none))
            where
              one : (k : ArrayAt) → ◌≡◌ {A = Option ArrayAt} (Some k) None → ⊥
              one k e = cc

      object : (j b : ℕ) (t : Bool) → (j == i) ≡ t → w.place j ≡ Some b → ObjectAt p w j (slice_get (set s i q) j) (slice_get (set u a o) b)
      object j b true k e = let same : j ≡ i = numbers-same j i k in let to : a ≡ b = some-same a b (sym there ∙ ap w.place (sym same) ∙ e) in let r = object-there p w i (slice_get s i) (slice_get u a) (h.objects i a there) in subst (λ x. ObjectAt p w x (slice_get (set s i q) x) (slice_get (set u a o) b)) (sym same) (record { class = c; told = told; alike = subst (λ n. SameStored p w c n (slice_get (set s i q) i) (slice_get (set u a o) b)) (sym none) (subst (λ x. SameStored p w c None (slice_get (set s i q) i) (slice_get (set u a o) x)) to (subst (λ x. SameStored p w c None x (slice_get (set u a o) a)) (sym (get-set s i r.0.what q r.0.is)) (subst (λ x. SameStored p w c None (Some q) x) (sym (get-set u a r.1.what o r.1.is)) alike))) })
      object j b false k e = subst (λ x. ObjectAt p w j x (slice_get (set u a o) b)) (sym (get-set_other s j i q (numbers-apart j i k))) (subst (λ x. ObjectAt p w j (slice_get s j) x) (sym (get-set_other u b a o (λ l. numbers-apart j i k (h.differ j i b e (subst (λ x. w.place i ≡ Some x) (sym l) there))))) (h.objects j b e))

  -- the emitted code makes something that the world doesn't tell of
  pub unowned : (o : js.Stored) → SameHeap p w s (u ++ o ∷ [])
  unowned o = record {
    objects = λ i a e. subst (λ q. ObjectAt p w i (slice_get s i) q) (sym (front-there i a o e)) (h.objects i a e);
    free = h.free;
    made = h.made;
    differ = h.differ;
    arrays = array-front o w (record { places = λ i a e. e; arrays = λ i k e. e; owns = λ a o e. e; boxes = refl });
    items_differ = h.items_differ;
    items_apart = h.items_apart;
    items_born = h.items_born;
    marked = h.marked;
    boxes = h.boxes;
    owned = λ a b e. get-front u (o ∷ []) a b (h.owned a b e);
    pending = λ a b e. get-front u (o ∷ []) a b (h.pending a b e);
    apart = h.apart;
    unborn = h.unborn;
    separate = h.separate;
  }

  -- both make an array, for which the emitted code has its items already, as no others
  pub array-births : (k : ArrayAt) (vs : List ir.Value) (xs : List js.Value) (properties : Name → Option js.Value) → slice_get u k.items ≡ Some (js.array xs) → ((j : ℕ) (l : ArrayAt) → w.arrays j ≡ Some l → l.items ≡ k.items → ⊥) → ((o : js.Stored) → w.owned k.items ≡ Some o → ⊥) → ((o : js.Stored) → w.pending k.items ≡ Some o → ⊥) → SameItems w (element_type k.kind) vs xs → length vs < 2 ^ 31 → k.kind.dimensions ≤ 255 → ArraysSomewhere p → MadeSomewhere p object_class → TellsClass w object_class properties → HasNoEntries properties → TellsArray w k properties → SameHeap p (with_array (length s) (length u) k w) (s ++ ir.array k.kind vs ∷ []) (u ++ js.plain (array_links p) properties ∷ [])
  array-births k vs xs properties there alone unowned unborn items short few somewhere made tells bare its = record {
    objects = λ j b e. object j b (j == length s) refl e;
    free = λ j d e. frees j d (j == length s) e;
    made = λ j d e. makes j d (j == length s) e;
    differ = λ j l b e f. two j l b (j == length s) (l == length s) refl refl e f;
    arrays = λ j l e. array j l (j == length s) refl e;
    items_differ = λ i j l m e f same. each i j l m (i == length s) (j == length s) refl refl e f same;
    items_apart = λ j l b e f. away j l b (j == length s) e f;
    items_born = λ j l b e f. waits j l b (j == length s) e f;
    marked = h.marked;
    boxes = h.boxes;
    owned = λ a b e. get-front u (o ∷ []) a b (h.owned a b e);
    pending = λ a b e. get-front u (o ∷ []) a b (h.pending a b e);
    apart = λ j b d e f. owns_apart j b d (j == length s) e f;
    unborn = λ j b d e f. pends_apart j b d (j == length s) e f;
    separate = h.separate;
  }
    where
      o : js.Stored
      o = js.plain (array_links p) properties

      q : ir.Stored
      q = ir.array k.kind vs

      y : World
      y = with_array (length s) (length u) k w

      placed : (i b : ℕ) → w.place i ≡ Some b → y.place i ≡ Some b
      placed i b e = go (i == length s) refl
        where
          go : (t : Bool) → (i == length s) ≡ t → (if (i == length s) then Some (length u) else w.place i) ≡ Some b
          go true f = absurd (place-there i b e (numbers-same i (length s) f))
          go false f = ap (λ (t : Bool). if t then Some (length u) else w.place i) f ∙ e

      still-array : (j : ℕ) (l : ArrayAt) → w.arrays j ≡ Some l → y.arrays j ≡ Some l
      still-array j l e = go (j == length s) refl
        where
          go : (t : Bool) → (j == length s) ≡ t → (if (j == length s) then Some k else w.arrays j) ≡ Some l
          go true f = absurd (array-there j l e (numbers-same j (length s) f))
          go false f = ap (λ (t : Bool). if t then Some k else w.arrays j) f ∙ e

      kept : Keeps w y
      kept = record { places = placed; arrays = still-array; owns = λ a o e. e; boxes = refl }

      some-same : (c d : ℕ) → ◌≡◌ {A = Option ℕ} (Some c) (Some d) → c ≡ d
      some-same c d e = cc

      one-array : (l m : ArrayAt) → ◌≡◌ {A = Option ArrayAt} (Some l) (Some m) → l ≡ m
      one-array l m e = cc

      new_object : (j b : ℕ) → (j == length s) ≡ true → Some (length u) ≡ Some b → SameStored p y object_class (Some k) (slice_get (s ++ q ∷ []) j) (slice_get (u ++ o ∷ []) b)
      new_object j b f e = subst (λ x. SameStored p y object_class (Some k) (slice_get (s ++ q ∷ []) x) (slice_get (u ++ o ∷ []) b)) (sym (numbers-same j (length s) f)) (subst (λ x. SameStored p y object_class (Some k) x (slice_get (u ++ o ∷ []) b)) (sym (get-end s q)) (subst (λ x. SameStored p y object_class (Some k) (Some q) (slice_get (u ++ o ∷ []) x)) (some-same (length u) b e) (subst (λ x. SameStored p y object_class (Some k) (Some q) x) (sym (get-end u o)) (stored-carry p w y kept object_class (Some k) (Some q) (Some o) (same_array k vs properties tells bare its)))))

      object : (j b : ℕ) (t : Bool) → (j == length s) ≡ t → (if t then Some (length u) else w.place j) ≡ Some b → ObjectAt p y j (slice_get (s ++ q ∷ []) j) (slice_get (u ++ o ∷ []) b)
      object j b true f e = record { class = object_class; told = ap (λ (t : Bool). if t then Some object_class else w.classes j) f; alike = subst (λ n. SameStored p y object_class n (slice_get (s ++ q ∷ []) j) (slice_get (u ++ o ∷ []) b)) (sym (ap (λ (t : Bool). if t then Some k else w.arrays j) f)) (new_object j b f e) }
      object j b false f e = let r = (object-there p w j (slice_get s j) (slice_get u b) (h.objects j b e)).0 in subst (λ x. ObjectAt p y j x (slice_get (u ++ o ∷ []) b)) (r.is ∙ sym (get-front s (q ∷ []) j r.what r.is)) (subst (λ x. ObjectAt p y j (slice_get s j) x) (sym (front-there j b o e)) (object-carry p w y kept j (λ d l. ap (λ (t : Bool). if t then Some object_class else w.classes j) f ∙ l) (sym (ap (λ (t : Bool). if t then Some k else w.arrays j) f)) (slice_get s j) (slice_get u b) (h.objects j b e)))

      frees : (j : ℕ) (d : List ℕ) (t : Bool) → (if t then Some object_class else w.classes j) ≡ Some d → is_hijacked d ≡ false
      frees j d true e = subst (λ x. is_hijacked x ≡ false) (classes-same object_class d e) refl
      frees j d false e = h.free j d e

      makes : (j : ℕ) (d : List ℕ) (t : Bool) → (if t then Some object_class else w.classes j) ≡ Some d → MadeSomewhere p d
      makes j d true e = subst (MadeSomewhere p) (classes-same object_class d e) made
      makes j d false e = h.made j d e

      two : (i j b : ℕ) (t v : Bool) → (i == length s) ≡ t → (j == length s) ≡ v → (if t then Some (length u) else w.place i) ≡ Some b → (if v then Some (length u) else w.place j) ≡ Some b → i ≡ j
      two i j b true true f g e l = numbers-same i (length s) f ∙ sym (numbers-same j (length s) g)
      two i j b true false f g e l = absurd (address-there j b l (sym (some-same (length u) b e)))
      two i j b false true f g e l = absurd (address-there i b e (sym (some-same (length u) b l)))
      two i j b false false f g e l = h.differ i j b e l

      array : (j : ℕ) (l : ArrayAt) (t : Bool) → (j == length s) ≡ t → (if t then Some k else w.arrays j) ≡ Some l → SameArray p y l (slice_get (s ++ q ∷ []) j) (slice_get (u ++ o ∷ []) l.items)
      array j l true f e = subst (λ m. SameArray p y m (slice_get (s ++ q ∷ []) j) (slice_get (u ++ o ∷ []) m.items)) (one-array k l e) (record { values = vs; stored = ap (slice_get (s ++ q ∷ [])) (numbers-same j (length s) f) ∙ get-end s q; items = xs; shown = get-front u (o ∷ []) k.items (js.array xs) there; alike = items-carry w y kept (element_type k.kind) vs xs items; short = short; few = few; made = somewhere })
      array j l false f e = let r = array-front o y kept j l e in record { values = r.values; stored = get-front s (q ∷ []) j (ir.array l.kind r.values) r.stored; items = r.items; shown = r.shown; alike = r.alike; short = r.short; few = r.few; made = r.made }

      each : (i j : ℕ) (l m : ArrayAt) (t v : Bool) → (i == length s) ≡ t → (j == length s) ≡ v → (if t then Some k else w.arrays i) ≡ Some l → (if v then Some k else w.arrays j) ≡ Some m → l.items ≡ m.items → i ≡ j
      each i j l m true true f g e r same = numbers-same i (length s) f ∙ sym (numbers-same j (length s) g)
      each i j l m true false f g e r same = absurd (alone j m r (sym same ∙ ap (λ (n : ArrayAt). n.items) (sym (one-array k l e))))
      each i j l m false true f g e r same = absurd (alone i l e (same ∙ ap (λ (n : ArrayAt). n.items) (sym (one-array k m r))))
      each i j l m false false f g e r same = h.items_differ i j l m e r same

      away : (j : ℕ) (l : ArrayAt) (b : js.Stored) (t : Bool) → (if t then Some k else w.arrays j) ≡ Some l → w.owned l.items ≡ Some b → ⊥
      away j l b true e f = unowned b (ap (λ (n : ArrayAt). w.owned n.items) (one-array k l e) ∙ f)
      away j l b false e f = h.items_apart j l b e f

      waits : (j : ℕ) (l : ArrayAt) (b : js.Stored) (t : Bool) → (if t then Some k else w.arrays j) ≡ Some l → w.pending l.items ≡ Some b → ⊥
      waits j l b true e f = unborn b (ap (λ (n : ArrayAt). w.pending n.items) (one-array k l e) ∙ f)
      waits j l b false e f = h.items_born j l b e f

      owns_apart : (j b : ℕ) (d : js.Stored) (t : Bool) → (if t then Some (length u) else w.place j) ≡ Some b → w.owned b ≡ Some d → ⊥
      owns_apart j b d true e f = not-past u d (subst (λ x. slice_get u x ≡ Some d) (sym (some-same (length u) b e)) (h.owned b d f))
      owns_apart j b d false e f = h.apart j b d e f

      pends_apart : (j b : ℕ) (d : js.Stored) (t : Bool) → (if t then Some (length u) else w.place j) ≡ Some b → w.pending b ≡ Some d → ⊥
      pends_apart j b d true e f = not-past u d (subst (λ x. slice_get u x ≡ Some d) (sym (some-same (length u) b e)) (h.pending b d f))
      pends_apart j b d false e f = h.unborn j b d e f

  -- an item of an array is written on both sides
  pub item-written : (i n : ℕ) (k : ArrayAt) (v : ir.Value) (x : js.Value) → (e : w.arrays i ≡ Some k) → SameValue w (element_type k.kind) v x → SameHeap p w (set s i (ir.array k.kind (set (h.arrays i k e).values n v))) (set u k.items (js.array (set (h.arrays i k e).items n x)))
  item-written i n k v x e alike = record {
    objects = λ j b there. object j b (j == i) refl there;
    free = h.free;
    made = h.made;
    differ = h.differ;
    arrays = λ j l known. array j l (j == i) refl known;
    items_differ = h.items_differ;
    items_apart = h.items_apart;
    items_born = h.items_born;
    marked = h.marked;
    boxes = h.boxes;
    owned = λ b d known. get-set_other u b k.items o (λ l. h.items_apart i k d e (subst (λ y. w.owned y ≡ Some d) l known)) ∙ h.owned b d known;
    pending = λ b d known. get-set_other u b k.items o (λ l. h.items_born i k d e (subst (λ y. w.pending y ≡ Some d) l known)) ∙ h.pending b d known;
    apart = h.apart;
    unborn = h.unborn;
    separate = h.separate;
  }
    where
      f : SameArray p w k (slice_get s i) (slice_get u k.items)
      f = h.arrays i k e

      q : ir.Stored
      q = ir.array k.kind (set f.values n v)

      o : js.Stored
      o = js.array (set f.items n x)

      one-array : (l m : ArrayAt) → ◌≡◌ {A = Option ArrayAt} (Some l) (Some m) → l ≡ m
      one-array l m e = cc

      -- the object of the array is as it was
      as_it_was : (j b : ℕ) → w.place j ≡ Some b → slice_get (set u k.items o) b ≡ slice_get u b
      as_it_was j b there = get-set_other u b k.items o (λ l. items-placed i j k e (there ∙ ap Some l))

      object : (j b : ℕ) (t : Bool) → (j == i) ≡ t → w.place j ≡ Some b → ObjectAt p w j (slice_get (set s i q) j) (slice_get (set u k.items o) b)
      object j b true g there = let same : j ≡ i = numbers-same j i g in let was = h.objects j b there in record { class = was.class; told = was.told; alike = subst (λ z. SameStored p w was.class (w.arrays j) (slice_get (set s i q) j) z) (sym (as_it_was j b there)) (subst (λ z. SameStored p w was.class (w.arrays j) z (slice_get u b)) (sym (ap (slice_get (set s i q)) same ∙ get-set s i (ir.array k.kind f.values) q f.stored)) (subst (λ m. SameStored p w was.class m (Some q) (slice_get u b)) (sym (ap w.arrays same ∙ e)) (array-again p w was.class k (slice_get s j) (slice_get u b) (subst (λ m. SameStored p w was.class m (slice_get s j) (slice_get u b)) (ap w.arrays same ∙ e) was.alike) (set f.values n v)))) }
      object j b false g there = subst (λ z. ObjectAt p w j z (slice_get (set u k.items o) b)) (sym (get-set_other s j i q (numbers-apart j i g))) (subst (λ z. ObjectAt p w j (slice_get s j) z) (sym (as_it_was j b there)) (h.objects j b there))

      array : (j : ℕ) (l : ArrayAt) (t : Bool) → (j == i) ≡ t → w.arrays j ≡ Some l → SameArray p w l (slice_get (set s i q) j) (slice_get (set u k.items o) l.items)
      array j l true g known = let same : j ≡ i = numbers-same j i g in subst (λ m. SameArray p w m (slice_get (set s i q) j) (slice_get (set u k.items o) m.items)) (one-array k l (sym e ∙ sym (ap w.arrays same) ∙ known)) (record { values = set f.values n v; stored = ap (slice_get (set s i q)) same ∙ get-set s i (ir.array k.kind f.values) q f.stored; items = set f.items n x; shown = get-set u k.items (js.array f.items) o f.shown; alike = items-set w (element_type k.kind) f.values f.items n v x f.alike alike; short = subst (λ m. m < 2 ^ 31) (sym (set-length f.values n v)) f.short; few = f.few; made = f.made })
      array j l false g known = let r = h.arrays j l known in record { values = r.values; stored = get-set_other s j i q (numbers-apart j i g) ∙ r.stored; items = r.items; shown = get-set_other u l.items k.items o (λ m. numbers-apart j i g (h.items_differ j i l k known e m)) ∙ r.shown; alike = r.alike; short = r.short; few = r.few; made = r.made }
