-- Items of distinct names are found by their names.
use Rattle.std.proofs.Common.{◌≡◌, Bool, true, false, List, [], ◌∷◌, ◌++◌, ◌||◌, not, refl, sym, ap, ◌∙◌, Contains, Option, Some, None, ⊎_elim, cond}
use Rattle.std.proofs.lemmas.Bool.{and_parts, or_left, or_right, not-true, and_from}
use Rattle.agree_calls.proofs.Equal.{equals, is-equal}
use Rattle.agree_calls.proofs.Lists.{nothing_in, in_front_or_behind}
use Rattle.js_mean.specs.Classes.{members_among}
use Rattle.js_mean.specs.Meaning.{code_among, item_cell, items_cell, or_outer}
use Rattle.js_mean.specs.Proper.{is_among, are_distinct, item_names}
use Rattle.js_mean.specs.States.{absent, unset, holds, function}
use Rattle.js_tree.specs.Names.{is_same_text}
use Rattle.js_tree.specs.Terms.{Name, Statements, Member, Item, const_item, object_item, let_item, expression_item, function_item, class_item, subclass_item}

-- the name that an item declares
abbrev pub name_of : Item → Option Name
name_of (const_item x e) = Some x
name_of (object_item x ps) = Some x
name_of (let_item x e) = Some x
name_of (expression_item e) = None
name_of (function_item x xs ss) = Some x
name_of (class_item x ms) = Some x
name_of (subclass_item x y ms) = Some x

abbrev pub with_name : Option Name → List Name → List Name
with_name None xs = xs
with_name (Some x) xs = x ∷ xs

names_step : (i : Item) (is : List Item) → item_names (i ∷ is) ≡ with_name (name_of i) (item_names is)
names_step (const_item x e) is = refl
names_step (object_item x ps) is = refl
names_step (let_item x e) is = refl
names_step (expression_item e) is = refl
names_step (function_item x xs ss) is = refl
names_step (class_item x ms) is = refl
names_step (subclass_item x y ms) is = refl

pub among_step : (i : Item) (is : List Item) (x : Name) → is_among (item_names is) x ≡ true → is_among (item_names (i ∷ is)) x ≡ true
among_step i is x h = ap (λ xs. is_among xs x) (names_step i is) ∙ by (name_of i)
  where
    by : (o : Option Name) → is_among (with_name o (item_names is)) x ≡ true
    by None = h
    by (Some y) = or_right (is_same_text x y) (is_among (item_names is) x) h

pub among_first : (i : Item) (is : List Item) (x : Name) → name_of i ≡ Some x → is_among (item_names (i ∷ is)) x ≡ true
among_first i is x e = ap (λ xs. is_among xs x) (names_step i is ∙ ap (λ o. with_name o (item_names is)) e) ∙ or_left (is_same_text x x) (is_among (item_names is) x) (equals x)

-- the name of an item is among those of the items
pub among : (is : List Item) (i : Item) (x : Name) → name_of i ≡ Some x → Contains is i → is_among (item_names is) x ≡ true
among [] i x e h = nothing_in i h
among (j ∷ js) i x e h = ⊎_elim (λ same. among_first j js x (ap name_of same ∙ e)) (λ later. among_step j js x (among js i x e later)) (in_front_or_behind j js i h)

-- names that are distinct: that of the first is none of the others, which are distinct
pub rest_distinct : (i : Item) (is : List Item) → are_distinct (item_names (i ∷ is)) ≡ true → are_distinct (item_names is) ≡ true
rest_distinct i is h = by (name_of i) (ap are_distinct (sym (names_step i is)) ∙ h)
  where
    by : (o : Option Name) → are_distinct (with_name o (item_names is)) ≡ true → are_distinct (item_names is) ≡ true
    by None k = k
    by (Some y) k = (and_parts (not (is_among (item_names is) y)) (are_distinct (item_names is)) k).1

pub first_apart : (i : Item) (is : List Item) (x : Name) → are_distinct (item_names (i ∷ is)) ≡ true → name_of i ≡ Some x → is_among (item_names is) x ≡ false
first_apart i is x h e = not-true (is_among (item_names is) x) (and_parts (not (is_among (item_names is) x)) (are_distinct (item_names is)) (ap are_distinct (ap (λ o. with_name o (item_names is)) (sym e) ∙ sym (names_step i is)) ∙ h)).0

pub not_both : (b : Bool) → b ≡ true → b ≡ false → ⊥
not_both true h k = cc
not_both false h k = cc

pub differs : (i : Item) (is : List Item) (x y : Name) → are_distinct (item_names (i ∷ is)) ≡ true → name_of i ≡ Some y → is_among (item_names is) x ≡ true → is_same_text x y ≡ false
differs i is x y h e a = go (is_same_text x y) refl
  where
    go : (b : Bool) → is_same_text x y ≡ b → is_same_text x y ≡ false
    go false k = k
    go true k = absurd (not_both (is_among (item_names is) x) a (ap (is_among (item_names is)) (is-equal x y k) ∙ first_apart i is y h e))

-- what stands in front of a name is passed over
code_past : (i : Item) (is : List Item) (x : Name) → ((y : Name) → name_of i ≡ Some y → is_same_text x y ≡ false) → code_among (i ∷ is) x ≡ code_among is x
code_past (const_item y e) is x h = refl
code_past (object_item y ps) is x h = refl
code_past (let_item y e) is x h = refl
code_past (expression_item e) is x h = refl
code_past (function_item y xs ss) is x h = ap (λ (b : Bool). cond b (Some (record { parameters = xs; body = ss })) (code_among is x)) (h y refl)
code_past (class_item y ms) is x h = refl
code_past (subclass_item y z ms) is x h = refl

members_past : (i : Item) (is : List Item) (x : Name) → ((y : Name) → name_of i ≡ Some y → is_same_text x y ≡ false) → members_among (i ∷ is) x ≡ members_among is x
members_past (const_item y e) is x h = refl
members_past (object_item y ps) is x h = refl
members_past (let_item y e) is x h = refl
members_past (expression_item e) is x h = refl
members_past (function_item y xs ss) is x h = refl
members_past (class_item y ms) is x h = ap (λ (b : Bool). cond b (Some ms) (members_among is x)) (h y refl)
members_past (subclass_item y z ms) is x h = ap (λ (b : Bool). cond b (Some ms) (members_among is x)) (h y refl)

cell_past : (f : Name) (i : Item) (is : List Item) (x : Name) → ((y : Name) → name_of i ≡ Some y → is_same_text x y ≡ false) → item_cell f i x ≡ absent
cell_past f (const_item y e) is x h = ap (λ (b : Bool). cond b (unset true) absent) (h y refl)
cell_past f (object_item y ps) is x h = ap (λ (b : Bool). cond b (unset true) absent) (h y refl)
cell_past f (let_item y e) is x h = ap (λ (b : Bool). cond b (unset false) absent) (h y refl)
cell_past f (expression_item e) is x h = refl
cell_past f (function_item y xs ss) is x h = ap (λ (b : Bool). cond b (holds false (function f y)) absent) (h y refl)
cell_past f (class_item y ms) is x h = ap (λ (b : Bool). cond b (unset false) absent) (h y refl)
cell_past f (subclass_item y z ms) is x h = ap (λ (b : Bool). cond b (unset false) absent) (h y refl)

-- each kind of item is found by its name
pub code_found : (is : List Item) (x : Name) (xs : List Name) (ss : Statements) → are_distinct (item_names is) ≡ true → Contains is (function_item x xs ss) → code_among is x ≡ Some (record { parameters = xs; body = ss })
code_found [] x xs ss d h = nothing_in (function_item x xs ss) h
code_found (i ∷ is) x xs ss d h = ⊎_elim (λ same. ap (λ j. code_among (j ∷ is) x) same ∙ ap (λ (b : Bool). cond b (Some (record { parameters = xs; body = ss })) (code_among is x)) (equals x)) (λ later. code_past i is x (λ y e. differs i is x y d e (among is (function_item x xs ss) x refl later)) ∙ code_found is x xs ss (rest_distinct i is d) later) (in_front_or_behind i is (function_item x xs ss) h)

pub cell_found : (f : Name) (is : List Item) (x : Name) (xs : List Name) (ss : Statements) → are_distinct (item_names is) ≡ true → Contains is (function_item x xs ss) → items_cell f is x ≡ holds false (function f x)
cell_found f [] x xs ss d h = nothing_in (function_item x xs ss) h
cell_found f (i ∷ is) x xs ss d h = ⊎_elim (λ same. ap (λ j. items_cell f (j ∷ is) x) same ∙ ap (λ (b : Bool). or_outer (cond b (holds false (function f x)) absent) (items_cell f is x)) (equals x)) (λ later. ap (λ c. or_outer c (items_cell f is x)) (cell_past f i is x (λ y e. differs i is x y d e (among is (function_item x xs ss) x refl later))) ∙ cell_found f is x xs ss (rest_distinct i is d) later) (in_front_or_behind i is (function_item x xs ss) h)

-- an item that is the class of this name with these members
pub data IsClassItem (x : Name) (ms : List Member) : Item → Type 0 where
  alone : IsClassItem x ms (class_item x ms)
  extending : (y : Name) → IsClassItem x ms (subclass_item x y ms)

class_named : (x : Name) (ms : List Member) (i : Item) → IsClassItem x ms i → name_of i ≡ Some x
class_named x ms _ alone = refl
class_named x ms _ (extending y) = refl

members_first : (x : Name) (ms : List Member) (i : Item) (is : List Item) → IsClassItem x ms i → members_among (i ∷ is) x ≡ Some ms
members_first x ms _ is alone = ap (λ (b : Bool). cond b (Some ms) (members_among is x)) (equals x)
members_first x ms _ is (extending y) = ap (λ (b : Bool). cond b (Some ms) (members_among is x)) (equals x)

pub members_found : (is : List Item) (x : Name) (ms : List Member) (c : Item) → IsClassItem x ms c → are_distinct (item_names is) ≡ true → Contains is c → members_among is x ≡ Some ms
members_found [] x ms c k d h = nothing_in c h
members_found (i ∷ is) x ms c k d h = ⊎_elim (λ same. ap (λ j. members_among (j ∷ is) x) same ∙ members_first x ms c is k) (λ later. members_past i is x (λ y e. differs i is x y d e (among is c x (class_named x ms c k) later)) ∙ members_found is x ms c k (rest_distinct i is d) later) (in_front_or_behind i is c h)

-- the items in front of others have distinct names where all have
pub front_among : (is rest : List Item) (x : Name) → is_among (item_names is) x ≡ true → is_among (item_names (is ++ rest)) x ≡ true
front_among [] rest x h = cc
front_among (i ∷ is) rest x h = ap (λ xs. is_among xs x) (names_step i (is ++ rest)) ∙ by (front_among is rest x) (name_of i) (ap (λ xs. is_among xs x) (sym (names_step i is)) ∙ h)
  where
    go : (is_among (item_names is) x ≡ true → is_among (item_names (is ++ rest)) x ≡ true) → (b : Bool) → (b || is_among (item_names is) x) ≡ true → (b || is_among (item_names (is ++ rest)) x) ≡ true
    go later true k = refl
    go later false k = later k

    by : (is_among (item_names is) x ≡ true → is_among (item_names (is ++ rest)) x ≡ true) → (o : Option Name) → is_among (with_name o (item_names is)) x ≡ true → is_among (with_name o (item_names (is ++ rest))) x ≡ true
    by later None k = later k
    by later (Some y) k = go later (is_same_text x y) k

pub front_distinct : (is rest : List Item) → are_distinct (item_names (is ++ rest)) ≡ true → are_distinct (item_names is) ≡ true
front_distinct [] rest h = refl
front_distinct (i ∷ is) rest h = ap are_distinct (names_step i is) ∙ by (front_distinct is rest (rest_distinct i (is ++ rest) h)) (name_of i) refl
  where
    apart : (x : Name) → name_of i ≡ Some x → (b : Bool) → is_among (item_names is) x ≡ b → not (is_among (item_names is) x) ≡ true
    apart x e false k = ap not k
    apart x e true k = absurd (not_both (is_among (item_names (is ++ rest)) x) (front_among is rest x k) (first_apart i (is ++ rest) x h e))

    by : are_distinct (item_names is) ≡ true → (o : Option Name) → name_of i ≡ o → are_distinct (with_name o (item_names is)) ≡ true
    by later None e = later
    by later (Some x) e = and_from (not (is_among (item_names is) x)) (are_distinct (item_names is)) (apart x e (is_among (item_names is) x) refl) later
