-- The functions of a module are found by their names.
use Rattle.std.proofs.Common.{◌≡◌, Bool, true, false, List, [], ◌∷◌, ◌++◌, ◌||◌, not, map, refl, sym, ap, ◌∙◌, subst, Contains, Some, ◌⊎◌, inl, inr, ⊎_elim, if◌then◌else◌}
use Rattle.std.proofs.lemmas.Bool.{and_parts}
use Rattle.js_mean.specs.Meaning.{Code, code_among, items_cell, or_outer}
use Rattle.js_mean.specs.Proper.{is_among, are_distinct, item_names}
use Rattle.js_mean.specs.States.{Cell, absent, holds, function}
use Rattle.js_tree.specs.Names.{is_same_text}
use Rattle.js_tree.specs.Terms.{Name, Item}
use Rattle.sj_core.specs.Lookup.{own_targets}
use Rattle.agree_bodies.specs.Desugar.{desugared}
use Rattle.dispatch_laws.specs.Templates.{member_name, parameter_names, body_template}
use Rattle.agree_bodies.proofs.Lists.{nothing_in, in_front_or_behind}
use Rattle.agree_bodies.proofs.Equal.{equals, is-equal}
use Rattle.sj_names.proofs.Same.{impossible}
use Rattle.agree_bodies.specs.EmittedMethods.{EmittedMethod}
use Rattle.agree_bodies.specs.Emitted.{function_item_of}

abbrev name_of : EmittedMethod → Name
name_of e = member_name e.member

abbrev pub code_with : EmittedMethod → Code
code_with e = record { parameters = parameter_names (desugared e.definition e.its_body).params; body = body_template own_targets (desugared e.definition e.its_body) }

first_too : (a b : Bool) → a ≡ true → (a || b) ≡ true
first_too true b h = refl
first_too false b h = impossible h

second_too : (a b : Bool) → b ≡ true → (a || b) ≡ true
second_too true b h = refl
second_too false b h = h

-- the name of a function is among those of the items
among : (fs : List EmittedMethod) (rest : List Item) (e : EmittedMethod) → Contains fs e → is_among (item_names (map function_item_of fs ++ rest)) (name_of e) ≡ true
among [] rest e h = nothing_in e h
among (g ∷ gs) rest e h = ⊎_elim (λ i. first_too (is_same_text (name_of e) (name_of g)) (is_among (item_names (map function_item_of gs ++ rest)) (name_of e)) (ap (λ x. is_same_text (name_of e) (name_of x)) i ∙ equals (name_of e))) (λ i. second_too (is_same_text (name_of e) (name_of g)) (is_among (item_names (map function_item_of gs ++ rest)) (name_of e)) (among gs rest e i)) (in_front_or_behind g gs e h)

not_not : (b : Bool) → not b ≡ true → b ≡ true → ⊥
not_not true h k = impossible h
not_not false h k = impossible k

-- names that are distinct tell the first from one behind it
other : (g e : EmittedMethod) (gs : List EmittedMethod) (rest : List Item) → Contains gs e → are_distinct (name_of g ∷ item_names (map function_item_of gs ++ rest)) ≡ true → is_same_text (name_of e) (name_of g) ≡ false
other g e gs rest h distinct = go (is_same_text (name_of e) (name_of g)) refl
  where
    go : (b : Bool) → is_same_text (name_of e) (name_of g) ≡ b → is_same_text (name_of e) (name_of g) ≡ false
    go false i = i
    go true i = absurd (not_not (is_among (item_names (map function_item_of gs ++ rest)) (name_of g)) (and_parts (not (is_among (item_names (map function_item_of gs ++ rest)) (name_of g))) (are_distinct (item_names (map function_item_of gs ++ rest))) distinct).0 (subst (λ x. is_among (item_names (map function_item_of gs ++ rest)) x ≡ true) (is-equal (name_of e) (name_of g) i) (among gs rest e h)))

pub code_found : (fs : List EmittedMethod) (rest : List Item) (e : EmittedMethod) → Contains fs e → are_distinct (item_names (map function_item_of fs ++ rest)) ≡ true → code_among (map function_item_of fs ++ rest) (name_of e) ≡ Some (code_with e)
code_found [] rest e h distinct = nothing_in e h
code_found (g ∷ gs) rest e h distinct = ⊎_elim (λ i. ap (λ b. if b then Some (code_with g) else code_among (map function_item_of gs ++ rest) (name_of e)) (ap (λ x. is_same_text (name_of e) (name_of x)) i ∙ equals (name_of e)) ∙ ap (λ x. Some (code_with x)) i) (λ i. ap (λ b. if b then Some (code_with g) else code_among (map function_item_of gs ++ rest) (name_of e)) (other g e gs rest i distinct) ∙ code_found gs rest e i (and_parts (not (is_among (item_names (map function_item_of gs ++ rest)) (name_of g))) (are_distinct (item_names (map function_item_of gs ++ rest))) distinct).1) (in_front_or_behind g gs e h)

pub cell_found : (f : Name) (fs : List EmittedMethod) (rest : List Item) (e : EmittedMethod) → Contains fs e → items_cell f (map function_item_of fs ++ rest) (name_of e) ≡ holds false (function f (name_of e))
cell_found f [] rest e h = nothing_in e h
cell_found f (g ∷ gs) rest e h = go (is_same_text (name_of e) (name_of g)) refl (cell_found f gs rest e) (in_front_or_behind g gs e h)
  where
    chosen : Bool → Cell
    chosen b = or_outer (if b then holds false (function f (name_of g)) else absent) (items_cell f (map function_item_of gs ++ rest) (name_of e))

    go : (b : Bool) → is_same_text (name_of e) (name_of g) ≡ b → (Contains gs e → items_cell f (map function_item_of gs ++ rest) (name_of e) ≡ holds false (function f (name_of e))) → (g ≡ e) ⊎ Contains gs e → chosen (is_same_text (name_of e) (name_of g)) ≡ holds false (function f (name_of e))
    go true i later h = ap chosen i ∙ ap (λ x. holds false (function f x)) (sym (is-equal (name_of e) (name_of g) i))
    go false i later (inl same) = impossible (sym i ∙ ap (λ x. is_same_text (name_of e) (name_of x)) same ∙ equals (name_of e))
    go false i later (inr there) = ap chosen i ∙ later there
