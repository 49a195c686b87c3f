-- Lists that stand at classes.
use Rattle.std.proofs.Common.{◌≡◌, ℕ, suc, ◌+◌, ◌<◌, ◌≤◌, Bool, true, false, not, cond, List, [], ◌∷◌, ◌++◌, refl, sym, ap, ◌∙◌, length, set, get_or, append-nil, arith}
use Rattle.std.specs.Prelude.{Vec, if◌then◌else◌, nat_lt, position, Some, None}
use Rattle.std.specs.List.{position_or_len}
use Rattle.std.specs.Cmp.Lexicographic.{nat_list_eq_equiv}
use Rattle.std.specs.declared.alloc.Global.{Global}
use Rattle.std.proofs.lemmas.Bool.Decides.{nat_tests}
use Rattle.std.proofs.lemmas.Slice.Eq.{bytes_eq-Decides}
use Rattle.class_groups.specs.Groups.{Name, is_same, list_at}

abbrev pub Lists : Type 0
Lists = List (Vec Name Global)

-- an empty list for one class more
pub more : (classes : List Name) (lists : Lists) (one : Name) (list : Vec Name Global) (class : Name) → length lists ≡ length classes → list.items ≡ [] → list_at (classes ++ one ∷ []) (lists ++ list ∷ []) class ≡ list_at classes lists class
more [] [] one list class long none = go (is_same class one)
  where
    go : (b : Bool) → (if b then list.items else []) ≡ []
    go true = none
    go false = refl
more [] (l ∷ ls) one list class long none = cc
more (c ∷ cs) [] one list class long none = cc
more (c ∷ cs) (l ∷ ls) one list class long none = ap (λ r. if is_same class c then l.items else r) (more cs ls one list class (omega (arith, long)) none)

chosen : (b : Bool) (x y z t : List Name) → x ≡ y ++ t → (if b then x else z) ≡ (if b then y else z) ++ (if b then t else [])
chosen true x y z t e = e
chosen false x y z t e = sym (append-nil z)

passed : (b : Bool) (x y z t : List Name) → (b ≡ true → t ≡ []) → y ≡ z ++ t → (if b then x else y) ≡ (if b then x else z) ++ t
passed true x y z t none e = sym (append-nil x) ∙ ap (λ l. x ++ l) (sym (none refl))
passed false x y z t none e = e

module _ (from to class : Name) where
  abbrev pub added : List Name
  added = if is_same from class then to ∷ [] else []

  abbrev PutBehind : List Name → Lists → Vec Name Global → Type 0
  PutBehind cs ls list = (p : ℕ) → p ≡ position_or_len (is_same from) cs → p < length ls → list.items ≡ (get_or ls p list).items ++ to ∷ [] → list_at cs (set ls p list) class ≡ list_at cs ls class ++ added

  -- one class more in the list of another
  pub put : (classes : List Name) (lists : Lists) (place : ℕ) (list : Vec Name Global) → place ≡ position_or_len (is_same from) classes → place < length lists → length lists ≡ length classes → list.items ≡ (get_or lists place list).items ++ to ∷ [] → list_at classes (set lists place list) class ≡ list_at classes lists class ++ added
  put [] lists place list at within long is = absurd (omega (arith, within, long))
  put (c ∷ cs) [] place list at within long is = cc
  put (c ∷ cs) (l ∷ ls) place list at within long is = go (is_same from c) refl (λ p is_p inside items. put cs ls p list is_p inside (omega (arith, long)) items)
    where
      same : is_same from c ≡ true → is_same class c ≡ is_same from class
      same e = let is : from ≡ c = (bytes_eq-Decides from c).0 e in nat_list_eq_equiv.symm class c ∙ ap (λ n. is_same n class) (sym is)

      first : is_same from c ≡ true → place ≡ 0 → list_at (c ∷ cs) (set (l ∷ ls) place list) class ≡ list_at (c ∷ cs) (l ∷ ls) class ++ added
      first e here =
          let items : list.items ≡ l.items ++ to ∷ [] = is ∙ ap (λ p. (get_or (l ∷ ls) p list).items ++ to ∷ []) here in
          ap (λ p. list_at (c ∷ cs) (set (l ∷ ls) p list) class) here
          ∙ chosen (is_same class c) list.items l.items (list_at cs ls class) (to ∷ []) items
          ∙ ap (λ b. (if is_same class c then l.items else list_at cs ls class) ++ (if b then to ∷ [] else [])) (same e)

      none_added : is_same from c ≡ false → is_same class c ≡ true → added ≡ []
      none_added e f = let is : class ≡ c = (bytes_eq-Decides class c).0 f in ap (λ b. if b then to ∷ [] else []) (ap (λ n. is_same from n) is ∙ e)

      later : PutBehind cs ls list → is_same from c ≡ false → (p : ℕ) → p ≡ position_or_len (is_same from) cs → place ≡ suc p → list_at (c ∷ cs) (set (l ∷ ls) place list) class ≡ list_at (c ∷ cs) (l ∷ ls) class ++ added
      later behind e p is_p there =
          let items : list.items ≡ (get_or ls p list).items ++ to ∷ [] = is ∙ ap (λ q. (get_or (l ∷ ls) q list).items ++ to ∷ []) there in
          ap (λ q. list_at (c ∷ cs) (set (l ∷ ls) q list) class) there
          ∙ passed (is_same class c) l.items (list_at cs (set ls p list) class) (list_at cs ls class) added (none_added e) (behind p is_p (omega (arith, within, there)) items)

      go : (b : Bool) → is_same from c ≡ b → PutBehind cs ls list → list_at (c ∷ cs) (set (l ∷ ls) place list) class ≡ list_at (c ∷ cs) (l ∷ ls) class ++ added
      go true e behind = first e (at ∙ ap (λ b. cond (not b) (1 + position_or_len (is_same from) cs) 0) e)
      go false e behind = later behind e (position_or_len (is_same from) cs) refl (at ∙ ap (λ b. cond (not b) (1 + position_or_len (is_same from) cs) 0) e ∙ omega arith)

module _ (class : Name) where
  abbrev ThereBehind : List Name → Lists → Vec Name Global → Type 0
  ThereBehind cs ls list = (p : ℕ) → p ≡ position_or_len (is_same class) cs → p < length cs → p < length ls → list ≡ get_or ls p list → list_at cs ls class ≡ list.items

  abbrev PastBehind : List Name → Lists → Type 0
  PastBehind cs ls = (p : ℕ) → p ≡ position_or_len (is_same class) cs → (p < length cs → length ls ≤ p) → list_at cs ls class ≡ []

  pub there : (classes : List Name) (lists : Lists) (place : ℕ) (list : Vec Name Global) → place ≡ position_or_len (is_same class) classes → place < length classes → place < length lists → list ≡ get_or lists place list → list_at classes lists class ≡ list.items
  there [] lists place list at some within is = absurd (omega arith)
  there (c ∷ cs) [] place list at some within is = absurd (omega arith)
  there (c ∷ cs) (l ∷ ls) place list at some within is = go (is_same class c) refl (λ p is_p inside short read. there cs ls p list is_p inside short read)
    where
      later : ThereBehind cs ls list → (p : ℕ) → p ≡ position_or_len (is_same class) cs → place ≡ suc p → list_at cs ls class ≡ list.items
      later behind p is_p e = behind p is_p (omega (arith, some, e)) (omega (arith, within, e)) (is ∙ ap (λ q. get_or (l ∷ ls) q list) e)

      go : (b : Bool) → is_same class c ≡ b → ThereBehind cs ls list → (if is_same class c then l.items else list_at cs ls class) ≡ list.items
      go true e behind =
          let here : place ≡ 0 = at ∙ ap (λ b. cond (not b) (1 + position_or_len (is_same class) cs) 0) e in
          ap (λ b. if b then l.items else list_at cs ls class) e ∙ ap (λ (v : Vec Name Global). v.items) (sym (is ∙ ap (λ q. get_or (l ∷ ls) q list) here))
      go false e behind = ap (λ b. if b then l.items else list_at cs ls class) e ∙ later behind (position_or_len (is_same class) cs) refl (at ∙ ap (λ b. cond (not b) (1 + position_or_len (is_same class) cs) 0) e ∙ omega arith)

  -- past the classes or the lists nothing stands
  pub nothing_past : (classes : List Name) (lists : Lists) (place : ℕ) → place ≡ position_or_len (is_same class) classes → (place < length classes → length lists ≤ place) → list_at classes lists class ≡ []
  nothing_past [] lists place at past = refl
  nothing_past (c ∷ cs) [] place at past = refl
  nothing_past (c ∷ cs) (l ∷ ls) place at past = go (is_same class c) refl (λ p is_p short. nothing_past cs ls p is_p short)
    where
      never : place ≡ 0 → l.items ≡ []
      never here = absurd (let low = past (omega (arith, here)) in omega (arith, low, here))

      later : PastBehind cs ls → (p : ℕ) → p ≡ position_or_len (is_same class) cs → place ≡ suc p → list_at cs ls class ≡ []
      later behind p is_p e = behind p is_p (λ within. let low = past (omega (arith, within, e)) in omega (arith, low, e))

      go : (b : Bool) → is_same class c ≡ b → PastBehind cs ls → (if is_same class c then l.items else list_at cs ls class) ≡ []
      go true e behind = ap (λ b. if b then l.items else list_at cs ls class) e ∙ never (at ∙ ap (λ b. cond (not b) (1 + position_or_len (is_same class) cs) 0) e)
      go false e behind = ap (λ b. if b then l.items else list_at cs ls class) e ∙ later behind (position_or_len (is_same class) cs) refl (at ∙ ap (λ b. cond (not b) (1 + position_or_len (is_same class) cs) 0) e ∙ omega arith)

pub position_found : (test : Name → Bool) (names : List Name) (place : ℕ) → position test names ≡ Some place → (place ≡ position_or_len test names) × (place < length names)
position_found test names place e = go (nat_lt (position_or_len test names) (length names)) refl
  where
    go : (b : Bool) → nat_lt (position_or_len test names) (length names) ≡ b → (place ≡ position_or_len test names) × (place < length names)
    go true low =
        let is : Some (position_or_len test names) ≡ Some place = sym (ap (λ b. cond b (Some (position_or_len test names)) None) low) ∙ e in
        let same : place ≡ position_or_len test names = cc in
        (same, grind (arith, nat_tests))
    go false high = let n : None ≡ Some place = sym (ap (λ b. cond b (Some (position_or_len test names)) None) high) ∙ e in cc

pub position_missed : (test : Name → Bool) (names : List Name) → position test names ≡ None → position_or_len test names < length names → ⊥
position_missed test names e low = go (nat_lt (position_or_len test names) (length names)) refl
  where
    go : (b : Bool) → nat_lt (position_or_len test names) (length names) ≡ b → ⊥
    go true is = let n : Some (position_or_len test names) ≡ None = sym (ap (λ b. cond b (Some (position_or_len test names)) None) is) ∙ e in cc
    go false high = absurd (grind (arith, nat_tests))
