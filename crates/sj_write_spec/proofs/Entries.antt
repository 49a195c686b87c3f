-- Tables that hold each entry once.
use Rattle.std.proofs.Common.{◌≡◌, ℕ, zero, suc, ◌+◌, ◌<◌, ◌⊎◌, Bool, true, false, cond, not, ◌||◌, List, [], ◌∷◌, ◌++◌, length, Some, slice_get, refl, sym, ap, ◌∙◌, subst, inl, inr, true≢false, append_assoc, append-nil, one-add, arith}
use Rattle.std.proofs.lemmas.List.Folds.{list_any-append}
use Rattle.std.specs.Bool.{Decides}
use Rattle.std.specs.List.{list_any, IsDistinct, AllByRecursion}
use Rattle.sj_write_spec.specs.Tables.{with_entry, with_entries, index_of}

or_left : (b c : Bool) → b ≡ true → (b || c) ≡ true
or_left b c e = ap (λ (d : Bool). d || c) e

or_right : (b c : Bool) → c ≡ true → (b || c) ≡ true
or_right true c e = refl
or_right false c e = e

or_cases : (b c : Bool) → (b || c) ≡ true → (b ≡ true) ⊎ (c ≡ true)
or_cases true c e = inl refl
or_cases false c e = inr e

or_none : (b c : Bool) → (b || c) ≡ false → (b ≡ false) × (c ≡ false)
or_none true c e = absurd (true≢false e)
or_none false c e = (refl, e)

-- the table goes on with more
abbrev pub Extends : {A : Type 0} → List A → List A → Type 0
Extends {A} table new = (more : List A) × (new ≡ table ++ more)

pub extends_self : {A : Type 0} (table : List A) → Extends table table
extends_self table = ([], sym (append-nil table))

pub extends_then : {A : Type 0} (r s t : List A) → Extends r s → Extends s t → Extends r t
extends_then {A = A} r s t one two = (one.0 ++ two.0, two.1 ∙ ap (λ (l : List A). l ++ two.0) one.1 ∙ append_assoc r one.0 two.0)

module _ {A : Type 0} (same : A → A → Bool) (decides : (x y : A) → Decides (same x y) (x ≡ y)) where
  -- the entry is in the table
  abbrev pub Has : List A → A → Type 0
  Has table x = list_any (same x) table ≡ true

  pub has_front : (table more : List A) (x : A) → Has table x → Has (table ++ more) x
  has_front table more x h = list_any-append (same x) table more ∙ or_left (list_any (same x) table) (list_any (same x) more) h

  pub has_back : (table more : List A) (x : A) → Has more x → Has (table ++ more) x
  has_back table more x h = list_any-append (same x) table more ∙ or_right (list_any (same x) table) (list_any (same x) more) h

  pub has_either : (table more : List A) (x : A) → Has (table ++ more) x → Has table x ⊎ Has more x
  has_either table more x h = or_cases (list_any (same x) table) (list_any (same x) more) (sym (list_any-append (same x) table more) ∙ h)

  pub has_extended : (table new : List A) (x : A) → Extends table new → Has table x → Has new x
  has_extended table new x more h = ap (list_any (same x)) more.1 ∙ has_front table more.0 x h

  same_self : (x : A) → same x x ≡ true
  same_self x = (decides x x).1 refl

  pub has_one : (x : A) → Has (x ∷ []) x
  has_one x = or_left (same x x) false (same_self x)

  entry_by : (table : List A) (x : A) (b : Bool) → list_any (same x) table ≡ b → Extends table (with_entry same table x) × Has (with_entry same table x) x
  entry_by table x true e =
      let is : with_entry same table x ≡ table = ap (λ (c : Bool). cond c table (table ++ x ∷ [])) e in
      (([], is ∙ sym (append-nil table)), ap (list_any (same x)) is ∙ e)
  entry_by table x false e =
      let is : with_entry same table x ≡ table ++ x ∷ [] = ap (λ (c : Bool). cond c table (table ++ x ∷ [])) e in
      ((x ∷ [], is), ap (list_any (same x)) is ∙ has_back table (x ∷ []) x (has_one x))

  pub entry_extends : (table : List A) (x : A) → Extends table (with_entry same table x)
  entry_extends table x = (entry_by table x (list_any (same x) table) refl).0

  pub entry_has : (table : List A) (x : A) → Has (with_entry same table x) x
  entry_has table x = (entry_by table x (list_any (same x) table) refl).1

  pub entries_extend : (table xs : List A) → Extends table (with_entries same table xs)
  entries_extend table [] = extends_self table
  entries_extend table (x ∷ xs) = extends_then _ _ _ (entry_extends table x) (entries_extend (with_entry same table x) xs)

  pub entries_have : (table xs : List A) (y : A) → Has xs y → Has (with_entries same table xs) y
  entries_have table [] y h = absurd (true≢false (sym h))
  entries_have table (x ∷ xs) y h =
      elim (or_cases (same y x) (list_any (same y) xs) h) [
        | inl e ↦ has_extended _ _ y (entries_extend (with_entry same table x) xs) (subst (λ (z : A). Has (with_entry same table x) z) (sym ((decides y x).0 e)) (entry_has table x))
        | inr e ↦ entries_have (with_entry same table x) xs y e
      ]

  pub entries_then : (table xs ys : List A) → with_entries same table (xs ++ ys) ≡ with_entries same (with_entries same table xs) ys
  entries_then table [] ys = refl
  entries_then table (x ∷ xs) ys = entries_then (with_entry same table x) xs ys

  -- entries that are there change nothing
  pub entries_there : (table xs : List A) → ((y : A) → Has xs y → Has table y) → with_entries same table xs ≡ table
  entries_there table [] all = refl
  entries_there table (x ∷ xs) all =
      let is : with_entry same table x ≡ table = ap (λ (c : Bool). cond c table (table ++ x ∷ [])) (all x (or_left (same x x) (list_any (same x) xs) (same_self x))) in
      ap (λ (t : List A). with_entries same t xs) is ∙ entries_there table xs (λ y h. all y (or_right (same y x) (list_any (same y) xs) h))

  came_by : (table : List A) (x y : A) (b : Bool) → list_any (same x) table ≡ b → Has (with_entry same table x) y → Has table y ⊎ (same y x ≡ true)
  came_by table x y true e h = inl (sym (ap (λ (c : Bool). list_any (same y) (cond c table (table ++ x ∷ []))) e) ∙ h)
  came_by table x y false e h =
      elim (has_either table (x ∷ []) y (sym (ap (λ (c : Bool). list_any (same y) (cond c table (table ++ x ∷ []))) e) ∙ h)) [
        | inl f ↦ inl f
        | inr f ↦ elim (or_cases (same y x) false f) [ inl g ↦ inr g | inr g ↦ absurd (true≢false (sym g)) ]
      ]

  pub entries_came : (table xs : List A) (y : A) → Has (with_entries same table xs) y → Has table y ⊎ Has xs y
  entries_came table [] y h = inl h
  entries_came table (x ∷ xs) y h =
      elim (entries_came (with_entry same table x) xs y h) [
        | inl e ↦ elim (came_by table x y (list_any (same x) table) refl e) [ inl f ↦ inl f | inr f ↦ inr (or_left (same y x) (list_any (same y) xs) f) ]
        | inr e ↦ inr (or_right (same y x) (list_any (same y) xs) e)
      ]

  apart : (x y : A) → same x y ≡ false → (b : Bool) → same y x ≡ b → same y x ≡ false
  apart x y h true e = absurd (true≢false (sym ((decides x y).1 (sym ((decides y x).0 e))) ∙ h))
  apart x y h false e = e

  all_push : (y : A) (table : List A) (x : A) → AllByRecursion (λ z. same y z ≡ false) table → same y x ≡ false → AllByRecursion (λ z. same y z ≡ false) (table ++ x ∷ [])
  all_push y [] x all h = (h, tt)
  all_push y (t ∷ ts) x all h = (all.0, all_push y ts x all.1 h)

  distinct_push : (table : List A) (x : A) → IsDistinct same table → list_any (same x) table ≡ false → IsDistinct same (table ++ x ∷ [])
  unfolding IsDistinct
  distinct_push [] x d h = (tt, tt)
  distinct_push (t ∷ ts) x d h =
      let both = or_none (same x t) (list_any (same x) ts) h in
      (all_push t ts x d.0 (apart x t both.0 (same t x) refl), distinct_push ts x d.1 both.1)

  entry_distinct_by : (table : List A) (x : A) (b : Bool) → list_any (same x) table ≡ b → IsDistinct same table → IsDistinct same (with_entry same table x)
  entry_distinct_by table x true e d = subst (λ (c : Bool). IsDistinct same (cond c table (table ++ x ∷ []))) (sym e) d
  entry_distinct_by table x false e d = subst (λ (c : Bool). IsDistinct same (cond c table (table ++ x ∷ []))) (sym e) (distinct_push table x d e)

  pub entries_distinct : (table xs : List A) → IsDistinct same table → IsDistinct same (with_entries same table xs)
  entries_distinct table [] d = d
  entries_distinct table (x ∷ xs) d = entries_distinct (with_entry same table x) xs (entry_distinct_by table x (list_any (same x) table) refl d)

  -- the index of an entry stays when others come behind
  index_front_by : (t : A) (ts more : List A) (x : A) (b : Bool) → same x t ≡ b → ((list_any (same x) ts ≡ true) → index_of same (ts ++ more) x ≡ index_of same ts x) → Has (t ∷ ts) x → index_of same (t ∷ ts ++ more) x ≡ index_of same (t ∷ ts) x
  index_front_by t ts more x true e rest h = ap (λ (c : Bool). cond (not c) (1 + index_of same (ts ++ more) x) 0) e ∙ sym (ap (λ (c : Bool). cond (not c) (1 + index_of same ts x) 0) e)
  index_front_by t ts more x false e rest h =
      let later : list_any (same x) ts ≡ true = sym (ap (λ (c : Bool). c || list_any (same x) ts) e) ∙ h in
      ap (λ (n : ℕ). cond (not (same x t)) (1 + n) 0) (rest later)

  pub index_front : (table more : List A) (x : A) → Has table x → index_of same (table ++ more) x ≡ index_of same table x
  index_front [] more x h = absurd (true≢false (sym h))
  index_front (t ∷ ts) more x h = index_front_by t ts more x (same x t) refl (λ e. index_front ts more x e) h

  pub index_extended : (table new : List A) (x : A) → Extends table new → Has table x → index_of same new x ≡ index_of same table x
  index_extended table new x more h = ap (λ (t : List A). index_of same t x) more.1 ∙ index_front table more.0 x h

  index_push : (table : List A) (x : A) → index_of same (table ++ x ∷ []) x ≡ index_of same table x
  index_push [] x = ap (λ (c : Bool). cond (not c) (1 + 0) 0) (same_self x)
  index_push (t ∷ ts) x = ap (λ (n : ℕ). cond (not (same x t)) (1 + n) 0) (index_push ts x)

  index_entry_by : (table : List A) (x : A) (b : Bool) → list_any (same x) table ≡ b → index_of same (with_entry same table x) x ≡ index_of same table x
  index_entry_by table x true e = ap (λ (c : Bool). index_of same (cond c table (table ++ x ∷ [])) x) e
  index_entry_by table x false e = ap (λ (c : Bool). index_of same (cond c table (table ++ x ∷ [])) x) e ∙ index_push table x

  -- an entry gets the index that it has then
  pub index_entry : (table : List A) (x : A) → index_of same (with_entry same table x) x ≡ index_of same table x
  index_entry table x = index_entry_by table x (list_any (same x) table) refl

  found_by : (t : A) (ts : List A) (x : A) (b : Bool) → same x t ≡ b → (Has ts x → slice_get ts (index_of same ts x) ≡ Some x) → Has (t ∷ ts) x → slice_get (t ∷ ts) (index_of same (t ∷ ts) x) ≡ Some x
  found_by t ts x true e rest h = ap (λ (c : Bool). slice_get (t ∷ ts) (cond (not c) (1 + index_of same ts x) 0)) e ∙ ap Some (sym ((decides x t).0 e))
  found_by t ts x false e rest h =
      let later : list_any (same x) ts ≡ true = sym (ap (λ (c : Bool). c || list_any (same x) ts) e) ∙ h in
      ap (λ (c : Bool). slice_get (t ∷ ts) (cond (not c) (1 + index_of same ts x) 0)) e ∙ ap (slice_get (t ∷ ts)) (one-add (index_of same ts x)) ∙ rest later

  -- the entry stands at its index
  pub found : (table : List A) (x : A) → Has table x → slice_get table (index_of same table x) ≡ Some x
  found [] x h = absurd (true≢false (sym h))
  found (t ∷ ts) x h = found_by t ts x (same x t) refl (λ e. found ts x e) h

  below_by : (t : A) (ts : List A) (x : A) (b : Bool) → same x t ≡ b → (Has ts x → index_of same ts x < length ts) → Has (t ∷ ts) x → index_of same (t ∷ ts) x < length (t ∷ ts)
  below_by t ts x true e rest h = subst (λ (c : Bool). cond (not c) (1 + index_of same ts x) 0 < length (t ∷ ts)) (sym e) (omega arith)
  below_by t ts x false e rest h =
      let later : list_any (same x) ts ≡ true = sym (ap (λ (c : Bool). c || list_any (same x) ts) e) ∙ h in
      let less = rest later in
      subst (λ (c : Bool). cond (not c) (1 + index_of same ts x) 0 < length (t ∷ ts)) (sym e) (omega (arith, less))

  pub below : (table : List A) (x : A) → Has table x → index_of same table x < length table
  below [] x h = absurd (true≢false (sym h))
  below (t ∷ ts) x h = below_by t ts x (same x t) refl (λ e. below ts x e) h

  some_is : (x y : A) → (λ (z : A). Some z) x ≡ (λ (z : A). Some z) y → x ≡ y
  some_is x y e = cc

  -- what stands somewhere is in the table
  pub has_at : (table : List A) (n : ℕ) (x : A) → slice_get table n ≡ Some x → Has table x
  has_at [] n x e = absurd cc
  has_at (t ∷ ts) zero x e = or_left (same x t) (list_any (same x) ts) ((decides x t).1 (sym (some_is t x e)))
  has_at (t ∷ ts) (suc n) x e = or_right (same x t) (list_any (same x) ts) (has_at ts n x e)
