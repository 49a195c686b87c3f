-- A module of one item that was read.
use Rattle.std.proofs.Common.{◌≡◌, List, [], ◌∷◌, map, length, get_or, Ok, Err, Result, ◌⊎◌, inl, inr, ap, rules, arith}
use Rattle.js_read.specs.declared.errors.JsError.{JsError}
use Rattle.js_tree.specs.Terms.{Item, Module}
use Rattle.js_tree.specs.Views.{item_view, module_view}
use Rattle.js_tree.specs.declared.items.JsModule.{JsModule}
use Rattle.sj_emit_help_spec.specs.Texts.{only_item}

-- what is read, where memory suffices
pub was_read : (m : JsModule) (e : JsError) (i : Item) → (◌≡◌ {A = Result JsModule JsError} (Ok m) (Err e)) ⊎ (module_view m ≡ only_item i) → module_view m ≡ only_item i
was_read m e i (inl b) = search rules
was_read m e i (inr p) = p

-- the one element of a list
pub first_is : {A B : Type 0} (f : A → B) (xs : List A) (x : A) (b : B) → map f xs ≡ b ∷ [] → x ≡ get_or xs 0 x → f x ≡ b
first_is f [] x b e h = search rules
first_is f (y ∷ ys) x b e h = grind (arith, e, h)

one_is : {A B : Type 0} (f : A → B) (xs : List A) (b : B) → map f xs ≡ b ∷ [] → length xs ≡ 1
one_is f [] b e = search rules
one_is f (y ∷ []) b e = search rules
one_is f (y ∷ z ∷ ys) b e = search rules

pub one_item : (m : JsModule) (i : Item) → module_view m ≡ only_item i → length m.items.items ≡ 1
one_item m i e = one_is (λ r. item_view r.value) m.items.items i (ap (λ (k : Module). k.items) e)
