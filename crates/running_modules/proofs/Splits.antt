-- Pieces in a list that declares in order: where each stands, and the classes in front of it.
use Rattle.std.proofs.Common.{◌≡◌, Bool, true, false, List, [], ◌∷◌, ◌++◌, inl, inr, refl, sym, ap, ◌∙◌, subst, Contains, map, cond}
use Rattle.std.specs.Prelude.{◌⊎◌, filter}
use Rattle.std.proofs.lemmas.Bool.{and_parts, or_cases}
use Rattle.std.proofs.lemmas.Slice.Eq.{bytes_eq-Decides}
use Rattle.declared_files.specs.Placed.{is_class}
use Rattle.declared_files.specs.Declarations.{with_class, declares, declare}
use Rattle.js_mean.specs.Proper.{is_among, item_names}
use Rattle.js_tree.specs.Names.{is_same_text}
use Rattle.js_tree.specs.Terms.{Name, Item, const_item, object_item, let_item, expression_item, function_item, class_item, subclass_item, Piece}
use Rattle.module_files.specs.Modules.{item_of}
use Rattle.sj_names.proofs.Same.{impossible}
use Rattle.sj_split.proofs.Members.{at_first, further}

-- the piece whose item stands behind these items of the pieces that pass the test
pub record Split (test : Piece → Bool) (ps : List Piece) (front : List Item) (i : Item) : Type 0 where
  pub before : List Piece
  pub piece : Piece
  pub after : List Piece
  pub is : ps ≡ before ++ piece ∷ after
  pub passes : test piece ≡ true
  pub item : piece.item ≡ i
  pub in_front : map item_of (filter test before) ≡ front

no_item : (front behind : List Item) (i : Item) → [] ≡ front ++ i ∷ behind → ⊥
no_item [] behind i e = cc
no_item (x ∷ front) behind i e = cc

heads : (x y : Item) (xs ys : List Item) → x ∷ xs ≡ y ∷ ys → x ≡ y
heads x y xs ys e = cc

tails : (x y : Item) (xs ys : List Item) → x ∷ xs ≡ y ∷ ys → xs ≡ ys
tails x y xs ys e = cc

pub split : (test : Piece → Bool) (ps : List Piece) (front behind : List Item) (i : Item) → map item_of (filter test ps) ≡ front ++ i ∷ behind → Split test ps front i
split test [] front behind i e = absurd (no_item front behind i e)
split test (p ∷ ps) front behind i e = go (test p) refl front e (λ fr h. split test ps fr behind i h)
  where
    left : (fr : List Item) → test p ≡ false → Split test ps fr i → Split test (p ∷ ps) fr i
    left fr t s = record {
      before = p ∷ s.before;
      piece = s.piece;
      after = s.after;
      is = ap (λ (l : List Piece). p ∷ l) s.is;
      passes = s.passes;
      item = s.item;
      in_front = ap (λ b. map item_of (cond b (p ∷ filter test s.before) (filter test s.before))) t ∙ s.in_front;
    }

    kept : (fr : List Item) (j : Item) → test p ≡ true → p.item ≡ j → Split test ps fr i → Split test (p ∷ ps) (j ∷ fr) i
    kept fr j t same s = record {
      before = p ∷ s.before;
      piece = s.piece;
      after = s.after;
      is = ap (λ (l : List Piece). p ∷ l) s.is;
      passes = s.passes;
      item = s.item;
      in_front = ap (λ b. map item_of (cond b (p ∷ filter test s.before) (filter test s.before))) t ∙ ap (λ (k : Item). k ∷ map item_of (filter test s.before)) same ∙ ap (λ (l : List Item). j ∷ l) s.in_front;
    }

    go : (b : Bool) → test p ≡ b → (fr : List Item) → map item_of (cond b (p ∷ filter test ps) (filter test ps)) ≡ fr ++ i ∷ behind → ((mid : List Item) → map item_of (filter test ps) ≡ mid ++ i ∷ behind → Split test ps mid i) → Split test (p ∷ ps) fr i
    go false t fr h later = left fr t (later fr h)
    go true t [] h later = record { before = []; piece = p; after = ps; is = refl; passes = t; item = heads p.item i (map item_of (filter test ps)) behind h; in_front = refl }
    go true t (j ∷ fr) h later = kept fr j t (heads p.item j (map item_of (filter test ps)) (fr ++ i ∷ behind) h) (later fr (tails p.item j (map item_of (filter test ps)) (fr ++ i ∷ behind) h))

-- one of these pieces, which passes the test, is the class of this name
pub record ClassAmong (test : Piece → Bool) (ps : List Piece) (y : Name) : Type 0 where
  pub piece : Piece
  pub among : Contains ps piece
  pub passes : test piece ≡ true
  pub is : is_class y piece.item ≡ true

class_further : (test : Piece → Bool) (p : Piece) (ps : List Piece) (y : Name) → ClassAmong test ps y → ClassAmong test (p ∷ ps) y
class_further test p ps y c = record { piece = c.piece; among = further p c.piece ps c.among; passes = c.passes; is = c.is }

-- the item only declares, where it extends no class but those
abbrev pub DeclaresWith : (Name → Type 0) → Item → Type 0
DeclaresWith Known (subclass_item x y ms) = Known y
DeclaresWith Known i = declares [] i ≡ true

of_item : (cs : List Name) (i : Item) → declares cs i ≡ true → DeclaresWith (λ y. is_among cs y ≡ true) i
of_item cs (const_item x e) h = h
of_item cs (object_item x ps) h = h
of_item cs (let_item x e) h = h
of_item cs (expression_item e) h = h
of_item cs (function_item x xs ss) h = h
of_item cs (class_item x ms) h = h
of_item cs (subclass_item x y ms) h = h

pub weaker : (One Other : Name → Type 0) (i : Item) → ((y : Name) → One y → Other y) → DeclaresWith One i → DeclaresWith Other i
weaker One Other (const_item x e) f h = h
weaker One Other (object_item x ps) f h = h
weaker One Other (let_item x e) f h = h
weaker One Other (expression_item e) f h = h
weaker One Other (function_item x xs ss) f h = h
weaker One Other (class_item x ms) f h = h
weaker One Other (subclass_item x y ms) f h = f y h

known_or_new : (i : Item) (cs : List Name) (y : Name) → is_among (with_class i cs) y ≡ true → (is_among cs y ≡ true) ⊎ (is_class y i ≡ true)
known_or_new (const_item x e) cs y h = inl h
known_or_new (object_item x ps) cs y h = inl h
known_or_new (let_item x e) cs y h = inl h
known_or_new (expression_item e) cs y h = inl h
known_or_new (function_item x xs ss) cs y h = inl h
known_or_new (class_item x ms) cs y h = elim (or_cases (is_same_text y x) (is_among cs y) h) [ inl e ↦ inr e | inr k ↦ inl k ]
known_or_new (subclass_item x z ms) cs y h = elim (or_cases (is_same_text y x) (is_among cs y) h) [ inl e ↦ inr e | inr k ↦ inl k ]

in_place : (test : Piece → Bool) (before : List Piece) (p : Piece) (after : List Piece) (cs : List Name) → declare cs (map item_of (filter test (before ++ p ∷ after))) ≡ true → test p ≡ true → DeclaresWith (λ y. (is_among cs y ≡ true) ⊎ ClassAmong test before y) p.item
in_place test [] p after cs h t = weaker (λ y. is_among cs y ≡ true) (λ y. (is_among cs y ≡ true) ⊎ ClassAmong test [] y) p.item (λ y k. inl k) (of_item cs p.item (and_parts (declares cs p.item) (declare (with_class p.item cs) (map item_of (filter test after))) (subst (λ (b : Bool). declare cs (map item_of (cond b (p ∷ filter test after) (filter test after))) ≡ true) t h)).0)
in_place test (q ∷ before) p after cs h t = go (test q) refl h (λ ds k. in_place test before p after ds k t)
  where
    items : List Item
    items = map item_of (filter test (before ++ p ∷ after))

    here : (y : Name) → test q ≡ true → (is_among cs y ≡ true) ⊎ (is_class y q.item ≡ true) → (is_among cs y ≡ true) ⊎ ClassAmong test (q ∷ before) y
    here y u (inl known) = inl known
    here y u (inr is) = inr (record { piece = q; among = at_first q before; passes = u; is = is })

    one_more : test q ≡ true → (y : Name) → (is_among (with_class q.item cs) y ≡ true) ⊎ ClassAmong test before y → (is_among cs y ≡ true) ⊎ ClassAmong test (q ∷ before) y
    one_more u y (inl known) = here y u (known_or_new q.item cs y known)
    one_more u y (inr c) = inr (class_further test q before y c)

    same : (y : Name) → (is_among cs y ≡ true) ⊎ ClassAmong test before y → (is_among cs y ≡ true) ⊎ ClassAmong test (q ∷ before) y
    same y (inl known) = inl known
    same y (inr c) = inr (class_further test q before y c)

    go : (b : Bool) → test q ≡ b → declare cs (map item_of (cond b (q ∷ filter test (before ++ p ∷ after)) (filter test (before ++ p ∷ after)))) ≡ true → ((ds : List Name) → declare ds items ≡ true → DeclaresWith (λ y. (is_among ds y ≡ true) ⊎ ClassAmong test before y) p.item) → DeclaresWith (λ y. (is_among cs y ≡ true) ⊎ ClassAmong test (q ∷ before) y) p.item
    go false u k later = weaker (λ y. (is_among cs y ≡ true) ⊎ ClassAmong test before y) (λ y. (is_among cs y ≡ true) ⊎ ClassAmong test (q ∷ before) y) p.item same (later cs k)
    go true u k later = weaker (λ y. (is_among (with_class q.item cs) y ≡ true) ⊎ ClassAmong test before y) (λ y. (is_among cs y ≡ true) ⊎ ClassAmong test (q ∷ before) y) p.item (one_more u) (later (with_class q.item cs) (and_parts (declares cs q.item) (declare (with_class q.item cs) items) k).1)

-- where the items of pieces declare in order, a class that one extends is among those in front of it
pub declares_in_place : (test : Piece → Bool) (before : List Piece) (p : Piece) (after : List Piece) → declare [] (map item_of (filter test (before ++ p ∷ after))) ≡ true → test p ≡ true → DeclaresWith (ClassAmong test before) p.item
declares_in_place test before p after h t = weaker (λ y. (is_among [] y ≡ true) ⊎ ClassAmong test before y) (ClassAmong test before) p.item (λ y either. elim either [ inl known ↦ impossible known | inr c ↦ c ]) (in_place test before p after [] h t)

-- a class declares its name
pub names_itself : (i : Item) (y : Name) → is_class y i ≡ true → item_names (i ∷ []) ≡ y ∷ []
names_itself (const_item x e) y h = impossible h
names_itself (object_item x ps) y h = impossible h
names_itself (let_item x e) y h = impossible h
names_itself (expression_item e) y h = impossible h
names_itself (function_item x xs ss) y h = impossible h
names_itself (class_item x ms) y h = ap (λ (n : Name). n ∷ []) (sym ((bytes_eq-Decides y x).0 h))
names_itself (subclass_item x z ms) y h = ap (λ (n : Name). n ∷ []) (sym ((bytes_eq-Decides y x).0 h))
