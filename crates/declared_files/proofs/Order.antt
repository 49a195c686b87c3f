-- Items of files only declare where each does so in its place.
use Rattle.std.proofs.Common.{◌≡◌, true, List, [], ◌∷◌, ◌++◌, ◌&&◌, map, append_assoc, refl, sym, ap, ◌∙◌, subst, Contains, ⊎_elim}
use Rattle.std.proofs.lemmas.Bool.{and_from, or_left, or_right}
use Rattle.std.proofs.lemmas.List.Elements.{Contains-append_cases}
use Rattle.agree_body_rules.proofs.Equal.{equals}
use Rattle.agree_body_rules.proofs.Lists.{nothing_in, in_front_or_behind}
use Rattle.js_mean.specs.Files.{module_among, items_in}
use Rattle.js_mean.specs.States.{ClassLink, Program}
use Rattle.js_tree.specs.Names.{is_same_text}
use Rattle.js_tree.specs.Terms.{Name, Item, const_item, object_item, let_item, expression_item, function_item, class_item, subclass_item}
use Rattle.declared_files.specs.Placed.{Placed, placed, items_until, with_class, is_one_of, leads_to, declares, declare, is_class, IsInFront, in_a_file, in_this_file, DeclaresBehind, FilesDeclareInOrder}

behind_nothing : {A : Type 0} (xs : List A) → xs ++ [] ≡ xs
behind_nothing [] = refl
behind_nothing (x ∷ xs) = ap (λ ys. x ∷ ys) (behind_nothing xs)

-- one more class
still : (f : Name) (i : Item) (cs : List ClassLink) (g y : Name) → is_one_of cs g y ≡ true → is_one_of (with_class f i cs) g y ≡ true
still f (const_item x e) cs g y h = h
still f (object_item x ps) cs g y h = h
still f (let_item x e) cs g y h = h
still f (expression_item e) cs g y h = h
still f (function_item x xs ss) cs g y h = h
still f (class_item x ms) cs g y h = or_right (is_same_text g f && is_same_text y x) (is_one_of cs g y) h
still f (subclass_item x z ms) cs g y h = or_right (is_same_text g f && is_same_text y x) (is_one_of cs g y) h

new_one : (f : Name) (i : Item) (cs : List ClassLink) (g y : Name) → f ≡ g → is_class y i ≡ true → is_one_of (with_class f i cs) g y ≡ true
new_one f (const_item x e) cs g y same h = cc
new_one f (object_item x ps) cs g y same h = cc
new_one f (let_item x e) cs g y same h = cc
new_one f (expression_item e) cs g y same h = cc
new_one f (function_item x xs ss) cs g y same h = cc
new_one f (class_item x ms) cs g y same h = or_left (is_same_text g f && is_same_text y x) (is_one_of cs g y) (and_from (is_same_text g f) (is_same_text y x) (ap (is_same_text g) same ∙ equals g) h)
new_one f (subclass_item x z ms) cs g y same h = or_left (is_same_text g f && is_same_text y x) (is_one_of cs g y) (and_from (is_same_text g f) (is_same_text y x) (ap (is_same_text g) same ∙ equals g) h)

module _ (p : Program) where
  abbrev items_of : Name → List Item
  items_of f = items_in (module_among p f)

  -- the classes that are known
  abbrev Known : List Name → Name → List Item → List ClassLink → Type 0
  Known fs f front cs = (g y : Name) → IsInFront p fs f front g y → is_one_of cs g y ≡ true

  abbrev KnownOfFiles : List Name → List ClassLink → Type 0
  KnownOfFiles fs cs = (g y : Name) (i : Item) → Contains fs g → Contains (items_of g) i → is_class y i ≡ true → is_one_of cs g y ≡ true

  at_first : (fs : List Name) (f : Name) (cs : List ClassLink) → KnownOfFiles fs cs → Known fs f [] cs
  at_first fs f cs known g y (in_a_file i among there is) = known g y i among there is
  at_first fs f cs known g y (in_this_file i same there is) = nothing_in i there

  one_more : (fs : List Name) (f : Name) (front : List Item) (i : Item) (cs : List ClassLink) → Known fs f front cs → Known fs f (front ++ i ∷ []) (with_class f i cs)
  one_more fs f front i cs known g y (in_a_file c among there is) = still f i cs g y (known g y (in_a_file c among there is))
  one_more fs f front i cs known g y (in_this_file c same there is) = ⊎_elim (λ before. still f i cs g y (known g y (in_this_file c same before is))) (λ last. ⊎_elim (λ e. new_one f i cs g y same (ap (is_class y) e ∙ is)) (λ none. nothing_in c none) (in_front_or_behind i [] c last)) (Contains-append_cases front (i ∷ []) c there)

  declares_it : (fs : List Name) (f : Name) (front : List Item) (cs : List ClassLink) (i : Item) → Known fs f front cs → DeclaresBehind p fs f front i → declares p cs f i ≡ true
  declares_it fs f front cs (const_item x e) known d = d
  declares_it fs f front cs (object_item x ps) known d = d
  declares_it fs f front cs (let_item x e) known d = d
  declares_it fs f front cs (expression_item e) known d = d
  declares_it fs f front cs (function_item x xs ss) known d = d
  declares_it fs f front cs (class_item x ms) known d = d
  declares_it fs f front cs (subclass_item x y ms) known d = ap (λ o. leads_to cs o y) d.1 ∙ known d.0 y d.2

  -- the items of a file, behind these of its own, and in front of those of others
  in_file : (fs : List Name) (f : Name) (is front : List Item) (cs : List ClassLink) (ls : List Placed) → ((mid behind : List Item) (i : Item) → is ≡ mid ++ i ∷ behind → DeclaresBehind p fs f (front ++ mid) i) → Known fs f front cs → ((more : List ClassLink) → Known fs f (front ++ is) more → declare p more ls ≡ true) → declare p cs (map (placed f) is ++ ls) ≡ true
  in_file fs f [] front cs ls each known rest = rest cs (subst (λ xs. Known fs f xs cs) (sym (behind_nothing front)) known)
  in_file fs f (i ∷ is) front cs ls each known rest = and_from (declares p cs f i) (declare p (with_class f i cs) (map (placed f) is ++ ls)) (declares_it fs f front cs i known (subst (λ xs. DeclaresBehind p fs f xs i) (behind_nothing front) (each [] is i refl))) (in_file fs f is (front ++ i ∷ []) (with_class f i cs) ls (λ mid behind k e. subst (λ xs. DeclaresBehind p fs f xs k) (sym (append_assoc front (i ∷ []) mid)) (each (i ∷ mid) behind k (ap (λ xs. i ∷ xs) e))) (one_more fs f front i cs known) (λ more k. rest more (subst (λ xs. Known fs f xs more) (append_assoc front (i ∷ []) is) k)))

  module _ (f : Name) (is : List Item) where
    -- each item of these files, behind those of the files before
    abbrev EachDeclares : List Name → List Name → Type 0
    EachDeclares before fs = (mid after : List Name) (g : Name) → fs ≡ mid ++ g ∷ after → (front behind : List Item) (i : Item) → items_of g ≡ front ++ i ∷ behind → DeclaresBehind p (before ++ mid) g front i

    abbrev LastDeclares : List Name → Type 0
    LastDeclares fs = (front behind : List Item) (i : Item) → is ≡ front ++ i ∷ behind → DeclaresBehind p fs f front i

    files_known : (before : List Name) (g : Name) (cs : List ClassLink) → Known before g (items_of g) cs → KnownOfFiles (before ++ g ∷ []) cs
    files_known before g cs known h y i among there is = ⊎_elim (λ front. known h y (in_a_file i front there is)) (λ last. ⊎_elim (λ same. known h y (in_this_file i same (subst (λ x. Contains (items_of x) i) (sym same) there) is)) (λ none. nothing_in h none) (in_front_or_behind g [] h last)) (Contains-append_cases before (g ∷ []) h among)

    in_files : (fs before : List Name) (cs : List ClassLink) → EachDeclares before fs → LastDeclares (before ++ fs) → KnownOfFiles before cs → declare p cs (items_until p fs f is) ≡ true
    in_files [] before cs each last known = subst (λ ls. declare p cs ls ≡ true) (behind_nothing (map (placed f) is)) (in_file before f is [] cs [] (subst LastDeclares (behind_nothing before) last) (at_first before f cs known) (λ more k. refl))
    in_files (g ∷ fs) before cs each last known = in_file before g (items_of g) [] cs (items_until p fs f is) (λ mid behind i e. subst (λ xs. DeclaresBehind p xs g mid i) (behind_nothing before) (each [] fs g refl mid behind i e)) (at_first before g cs known) (λ more k. in_files fs (before ++ g ∷ []) more (λ mid after h e front behind i there. subst (λ xs. DeclaresBehind p xs h front i) (sym (append_assoc before (g ∷ []) mid)) (each (g ∷ mid) after h (ap (λ xs. g ∷ xs) e) front behind i there)) (subst LastDeclares (sym (append_assoc before (g ∷ []) fs)) last) (files_known before g more k))

pub files_declare_in_order : FilesDeclareInOrder
files_declare_in_order p fs f is each last = in_files p f is fs [] [] each last (λ g y i among there is. nothing_in g among)
