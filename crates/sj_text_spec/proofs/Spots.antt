-- Facts of the spots of names: which characters lead nowhere, which lead on alike, and what a whole text leads to.
use Rattle.std.proofs.Common.{◌≡◌, ℕ, ◌+◌, ◌-◌, ◌/◌, ◌%◌, ◌<◌, ◌≤◌, Bool, true, false, cond, not, ◌&&◌, ◌||◌, eqb, ltb, List, [], ◌∷◌, ◌++◌, Option, Some, None, refl, sym, ap, subst, ◌∙◌, arith, inl, inr}
use Rattle.std.specs.Char.{IsScalar, encode_utf8}
use Rattle.std.specs.Str.{encode_utf8_all, all_scalars}
use Rattle.std.proofs.lemmas.Bool.{lt-ltb, ltb-true, ltb-false, le-ltb, eqb-true, eqb-false}
use Rattle.exact_place.proofs.Steps.{cases, went}
use Rattle.exact_place.proofs.Words.{both, none_some}
use Rattle.sj_names.specs.Grammar.{is_name_byte}
use Rattle.sj_text_spec.specs.Names.{on_name, on, is_letter, base_step, step, moved}
use Rattle.sj_text_spec.specs.declared.words.Spot.{Spot}
use Rattle.sj_text_spec.specs.declared.words.Spot.TheVariants.{NameStart, Name, PartStart, Part, ArrayStart, ArrayBase, ArrayEnd, MethodStart, Less, LessI, LessIn, LessIni, LessInit, InitEnd, Simple, TypeStart, TypeBase, TypePartStart, TypePart, TypeEnd, Last}

pub some_is : {A : Type 0} (a b : A) → Some a ≡ Some b → a ≡ b
some_is a b e = cc e

-- ---- characters that no rule names

record IsOrdinary (c : ℕ) : Type 0 where
  name : is_name_byte c ≡ true
  letter : is_letter c ≡ false
  dot : eqb c 46 ≡ false
  semicolon : eqb c 59 ≡ false
  less : eqb c 60 ≡ false
  greater : eqb c 62 ≡ false
  bracket : eqb c 91 ≡ false
  class : eqb c 76 ≡ false
  void : eqb c 86 ≡ false
  proxy : eqb c 82 ≡ false
  i : eqb c 105 ≡ false
  n : eqb c 110 ≡ false
  t : eqb c 116 ≡ false

differs : (c d : ℕ) → d < 128 → 128 ≤ c → eqb c d ≡ false
differs c d lt ge = elim (cases (eqb c d)) [ inl e ↦ absurd (let same : c ≡ d = eqb-true c d e in omega arith) | inr e ↦ e ]

far_ordinary : (c : ℕ) → 128 ≤ c → IsOrdinary c
far_ordinary c ge =
    let d : (k : ℕ) → k < 128 → eqb c k ≡ false = λ k lt. differs c k lt ge in
    record {
      name = rw (lt-ltb 32 c (omega arith), d 127 (omega arith), d 46 (omega arith), d 59 (omega arith), d 91 (omega arith), d 47 (omega arith), d 60 (omega arith), d 62 (omega arith)) refl;
      letter = rw (d 90 (omega arith), d 67 (omega arith), d 66 (omega arith), d 83 (omega arith), d 73 (omega arith), d 74 (omega arith)) refl;
      dot = d 46 (omega arith);
      semicolon = d 59 (omega arith);
      less = d 60 (omega arith);
      greater = d 62 (omega arith);
      bracket = d 91 (omega arith);
      class = d 76 (omega arith);
      void = d 86 (omega arith);
      proxy = d 82 (omega arith);
      i = d 105 (omega arith);
      n = d 110 (omega arith);
      t = d 116 (omega arith);
    }

quote_ordinary : IsOrdinary 34
quote_ordinary = record { name = refl; letter = refl; dot = refl; semicolon = refl; less = refl; greater = refl; bracket = refl; class = refl; void = refl; proxy = refl; i = refl; n = refl; t = refl }

backslash_ordinary : IsOrdinary 92
backslash_ordinary = record { name = refl; letter = refl; dot = refl; semicolon = refl; less = refl; greater = refl; bracket = refl; class = refl; void = refl; proxy = refl; i = refl; n = refl; t = refl }

-- such a character leads where `a` leads
alike : (s : Spot) (c : ℕ) → IsOrdinary c → step s c ≡ step s 97
alike NameStart c o = rw o.name refl
alike Name c o = rw o.name refl
alike PartStart c o = rw o.name refl
alike Part c o = rw (o.name, o.dot) refl
alike ArrayStart c o = rw o.bracket refl
alike (ArrayBase n) c o = rw (o.bracket, o.letter, o.class) refl
alike ArrayEnd c o = refl
alike MethodStart c o = rw (o.name, o.less) refl
alike Less c o = rw o.i refl
alike LessI c o = rw o.n refl
alike LessIn c o = rw o.i refl
alike LessIni c o = rw o.t refl
alike LessInit c o = rw o.greater refl
alike InitEnd c o = rw o.semicolon refl
alike Simple c o = rw (o.name, o.semicolon) refl
alike TypeStart c o = rw (o.void, o.proxy, o.bracket, o.letter, o.class) refl
alike (TypeBase n) c o = rw (o.bracket, o.letter, o.class) refl
alike TypePartStart c o = rw o.name refl
alike TypePart c o = rw (o.name, o.semicolon, o.dot) refl
alike TypeEnd c o = rw o.semicolon refl
alike Last c o = refl

pub far_alike : (s : Spot) (c : ℕ) → 128 ≤ c → step s c ≡ step s 97
far_alike s c ge = alike s c (far_ordinary c ge)

pub quote_alike : (s : Spot) → step s 34 ≡ step s 97
quote_alike s = alike s 34 quote_ordinary

pub backslash_alike : (s : Spot) → step s 92 ≡ step s 97
backslash_alike s = alike s 92 backslash_ordinary

-- and stays there
stays : (s t : Spot) → step s 97 ≡ Some t → step t 97 ≡ Some t
stays NameStart t e = subst (λ (u : Spot). step u 97 ≡ Some u) (some_is Name t e) refl
stays Name t e = subst (λ (u : Spot). step u 97 ≡ Some u) (some_is Name t e) refl
stays PartStart t e = subst (λ (u : Spot). step u 97 ≡ Some u) (some_is Part t e) refl
stays Part t e = subst (λ (u : Spot). step u 97 ≡ Some u) (some_is Part t e) refl
stays ArrayStart t e = absurd (none_some t e)
stays (ArrayBase n) t e = absurd (none_some t e)
stays ArrayEnd t e = absurd (none_some t e)
stays MethodStart t e = subst (λ (u : Spot). step u 97 ≡ Some u) (some_is Simple t e) refl
stays Less t e = absurd (none_some t e)
stays LessI t e = absurd (none_some t e)
stays LessIn t e = absurd (none_some t e)
stays LessIni t e = absurd (none_some t e)
stays LessInit t e = absurd (none_some t e)
stays InitEnd t e = absurd (none_some t e)
stays Simple t e = subst (λ (u : Spot). step u 97 ≡ Some u) (some_is Simple t e) refl
stays TypeStart t e = absurd (none_some t e)
stays (TypeBase n) t e = absurd (none_some t e)
stays TypePartStart t e = subst (λ (u : Spot). step u 97 ≡ Some u) (some_is TypePart t e) refl
stays TypePart t e = subst (λ (u : Spot). step u 97 ≡ Some u) (some_is TypePart t e) refl
stays TypeEnd t e = absurd (none_some t e)
stays Last t e = absurd (none_some t e)

-- ---- what leads on is a character of names

unfoldable IsVisible : ℕ → Type 0
IsVisible c = (32 < c) × (c ≡ 127 → ⊥)

by_name : (c : ℕ) (s t : Spot) → on_name c s ≡ Some t → IsVisible c
unfolding IsVisible
by_name c s t e = elim (went (is_name_byte c) (Some s) None (Some t) e) [
  | inl k ↦ visible k.0
  | inr k ↦ absurd (none_some t k.1)
]
  where
    turned : (b : Bool) → not b ≡ true → b ≡ false
    turned true e = absurd cc
    turned false e = refl

    visible : is_name_byte c ≡ true → (32 < c) × (c ≡ 127 → ⊥)
    visible k =
        let a = both _ _ k in
        let b = both _ _ a.0 in
        let d = both _ _ b.0 in
        let f = both _ _ d.0 in
        let g = both _ _ f.0 in
        let h = both _ _ g.0 in
        let i = both _ _ h.0 in
        (ltb-true 32 c i.0, eqb-false c 127 (turned (eqb c 127) i.1))

known : (c k : ℕ) → 32 < k → (k ≡ 127 → ⊥) → eqb c k ≡ true → IsVisible c
unfolding IsVisible
known c k lt n e = let same : c ≡ k = eqb-true c k e in (omega arith, λ is. n (sym same ∙ is))

by_one : (want c : ℕ) (s t : Spot) → 32 < want → (want ≡ 127 → ⊥) → on want c s ≡ Some t → IsVisible c
by_one want c s t lt n e = elim (went (eqb c want) (Some s) None (Some t) e) [ inl k ↦ known c want lt n k.0 | inr k ↦ absurd (none_some t k.1) ]

by_letter : (c : ℕ) → is_letter c ≡ true → IsVisible c
by_letter c e = elim (cases (eqb c 90)) [
  | inl k ↦ known c 90 (omega arith) (λ i. omega arith) k
  | inr k ↦
      elim (cases (eqb c 67)) [
        | inl l ↦ known c 67 (omega arith) (λ i. omega arith) l
        | inr l ↦
            elim (cases (eqb c 66)) [
              | inl m ↦ known c 66 (omega arith) (λ i. omega arith) m
              | inr m ↦
                  elim (cases (eqb c 83)) [
                    | inl n ↦ known c 83 (omega arith) (λ i. omega arith) n
                    | inr n ↦
                        elim (cases (eqb c 73)) [
                          | inl p ↦ known c 73 (omega arith) (λ i. omega arith) p
                          | inr p ↦
                              known c 74 (omega arith) (λ i. omega arith) (rw (k, l, m, n, p) at e)
                        ]
                  ]
            ]
      ]
]

by_base : (n c : ℕ) (deeper : ℕ → Spot) (letter class t : Spot) → base_step n c deeper letter class ≡ Some t → IsVisible c
by_base n c deeper letter class t e = elim (went (eqb c 91 && ltb n 255) (Some (deeper (n + 1))) _ (Some t) e) [
  | inl k ↦ known c 91 (omega arith) (λ i. omega arith) (both (eqb c 91) (ltb n 255) k.0).0
  | inr k ↦ elim (went (is_letter c) (Some letter) _ (Some t) k.1) [
    | inl l ↦ by_letter c l.0
    | inr l ↦ elim (went (eqb c 76) (Some class) None (Some t) l.1) [ inl m ↦ known c 76 (omega arith) (λ i. omega arith) m.0 | inr m ↦ absurd (none_some t m.1) ]
  ]
]

by_either : (want c : ℕ) (s t : Spot) (other : Option Spot) → 32 < want → (want ≡ 127 → ⊥) → (other ≡ Some t → IsVisible c) → cond (eqb c want) (Some s) other ≡ Some t → IsVisible c
by_either want c s t other lt n h e = elim (went (eqb c want) (Some s) other (Some t) e) [ inl k ↦ known c want lt n k.0 | inr k ↦ h k.1 ]

visible_at : (s : Spot) (c : ℕ) (t : Spot) → step s c ≡ Some t → IsVisible c
visible_at NameStart c t e = by_name c Name t e
visible_at Name c t e = by_name c Name t e
visible_at PartStart c t e = by_name c Part t e
visible_at Part c t e = by_either 46 c PartStart t (on_name c Part) (omega arith) (λ i. omega arith) (by_name c Part t) e
visible_at ArrayStart c t e = by_one 91 c (ArrayBase 1) t (omega arith) (λ i. omega arith) e
visible_at (ArrayBase n) c t e = by_base n c (λ m. ArrayBase m) ArrayEnd PartStart t e
visible_at ArrayEnd c t e = absurd (none_some t e)
visible_at MethodStart c t e = by_either 60 c Less t (on_name c Simple) (omega arith) (λ i. omega arith) (by_name c Simple t) e
visible_at Less c t e = by_one 105 c LessI t (omega arith) (λ i. omega arith) e
visible_at LessI c t e = by_one 110 c LessIn t (omega arith) (λ i. omega arith) e
visible_at LessIn c t e = by_one 105 c LessIni t (omega arith) (λ i. omega arith) e
visible_at LessIni c t e = by_one 116 c LessInit t (omega arith) (λ i. omega arith) e
visible_at LessInit c t e = by_one 62 c InitEnd t (omega arith) (λ i. omega arith) e
visible_at InitEnd c t e = by_one 59 c TypeStart t (omega arith) (λ i. omega arith) e
visible_at Simple c t e = by_either 59 c TypeStart t (on_name c Simple) (omega arith) (λ i. omega arith) (by_name c Simple t) e
visible_at TypeStart c t e = elim (went (eqb c 86 || eqb c 82) (Some Last) _ (Some t) e) [
  | inr k ↦ by_base 0 c (λ m. TypeBase m) TypeEnd TypePartStart t k.1
  | inl k ↦ elim (cases (eqb c 86)) [ inl l ↦ known c 86 (omega arith) (λ i. omega arith) l | inr l ↦ known c 82 (omega arith) (λ i. omega arith) (rw l at k.0) ]
]
visible_at (TypeBase n) c t e = by_base n c (λ m. TypeBase m) TypeEnd TypePartStart t e
visible_at TypePartStart c t e = by_name c TypePart t e
visible_at TypePart c t e = by_either 59 c TypeStart t _ (omega arith) (λ i. omega arith) (λ f. by_either 46 c TypePartStart t (on_name c TypePart) (omega arith) (λ i. omega arith) (by_name c TypePart t) f) e
visible_at TypeEnd c t e = by_one 59 c TypeStart t (omega arith) (λ i. omega arith) e
visible_at Last c t e = absurd (none_some t e)

pub above_space : (s : Spot) (c : ℕ) (t : Spot) → step s c ≡ Some t → 32 < c
unfolding IsVisible
above_space s c t e = (visible_at s c t e).0

pub no_delete : (s : Spot) (c : ℕ) (t : Spot) → step s c ≡ Some t → c ≡ 127 → ⊥
unfolding IsVisible
no_delete s c t e = (visible_at s c t e).1

-- ---- what a text leads to

abbrev pub then_on : Option Spot → (Spot → Option Spot) → Option Spot
then_on None f = None
then_on (Some t) f = f t

-- the spot behind bytes
abbrev pub run : Spot → List ℕ → Option Spot
run s [] = Some s
run s (b ∷ bs) = then_on (step s b) (λ t. run t bs)

then_is : (o : Option Spot) (f : Spot → Option Spot) (t : Spot) → then_on o f ≡ Some t → (u : Spot) × (o ≡ Some u) × (f u ≡ Some t)
then_is None f t e = absurd (none_some t e)
then_is (Some u) f t e = (u, refl, e)

pub run_on : (s t : Spot) (a b : List ℕ) → run s a ≡ Some t → run s (a ++ b) ≡ run t b
run_on s t [] b e = ap (λ (u : Spot). run u b) (some_is s t e)
run_on s t (c ∷ a) b e =
    let k = then_is (step s c) (λ u. run u a) t e in
    ap (λ (o : Option Spot). then_on o (λ u. run u (a ++ b))) k.1 ∙ run_on k.0 t a b k.2

-- where the whole leads on, its front did
pub run_front : (s t : Spot) (a b : List ℕ) → run s (a ++ b) ≡ Some t → (u : Spot) × (run s a ≡ Some u) × (run u b ≡ Some t)
run_front s t [] b e = (s, refl, e)
run_front s t (c ∷ a) b e =
    let k = then_is (step s c) (λ u. run u (a ++ b)) t e in
    let f = run_front k.0 t a b k.2 in
    (f.0, ap (λ (o : Option Spot). then_on o (λ v. run v a)) k.1 ∙ f.1, f.2)

unfoldable AllFar : List ℕ → Type 0
AllFar [] = Unit {0}
AllFar (b ∷ bs) = (128 ≤ b) × AllFar bs

run_far : (s : Spot) (bs : List ℕ) → AllFar bs → step s 97 ≡ Some s → run s bs ≡ Some s
unfolding AllFar
run_far s [] k e = refl
run_far s (b ∷ bs) k e = rw (far_alike s b k.0, e) (run_far s bs k.1 e)

record FarBytes (c : ℕ) : Type 0 where
  head : ℕ
  rest : List ℕ
  first : 128 ≤ head
  others : AllFar rest
  is : encode_utf8 c ≡ head ∷ rest

far_bytes : (c : ℕ) → 128 ≤ c → FarBytes c
unfolding AllFar encode_utf8
far_bytes c ge = elim (cases (ltb c 2048)) [
  | inl k ↦ record { head = 192 + c / 64; rest = (128 + c % 64) ∷ []; first = omega arith; others = (omega arith, tt); is = rw (le-ltb c 128 ge, k) refl }
  | inr k ↦ elim (cases (ltb c 65536)) [
    | inl l ↦ record { head = 224 + c / 4096; rest = (128 + c / 64 % 64) ∷ (128 + c % 64) ∷ []; first = omega arith; others = (omega arith, (omega arith, tt)); is = rw (le-ltb c 128 ge, k, l) refl }
    | inr l ↦ record { head = 240 + c / 262144; rest = (128 + c / 4096 % 64) ∷ (128 + c / 64 % 64) ∷ (128 + c % 64) ∷ []; first = omega arith; others = (omega arith, (omega arith, (omega arith, tt))); is = rw (le-ltb c 128 ge, k, l) refl }
  ]
]

near_bytes : (c : ℕ) → c < 128 → encode_utf8 c ≡ c ∷ []
unfolding encode_utf8
near_bytes c lt = rw (lt-ltb c 128 lt) refl

-- the bytes of a character lead where the character leads
pub run_character : (s : Spot) (c : ℕ) → run s (encode_utf8 c) ≡ step s c
run_character s c = elim (cases (ltb c 128)) [
  | inl k ↦ ap (run s) (near_bytes c (ltb-true c 128 k)) ∙ alone (step s c)
  | inr k ↦ far (ltb-false c 128 k) (far_bytes c (ltb-false c 128 k))
]
  where
    alone : (o : Option Spot) → then_on o (λ t. Some t) ≡ o
    alone None = refl
    alone (Some t) = refl

    far : 128 ≤ c → FarBytes c → run s (encode_utf8 c) ≡ step s c
    far ge f = ap (run s) f.is ∙ ap (λ (o : Option Spot). then_on o (λ t. run t f.rest)) (far_alike s f.head f.first) ∙ by (step s 97) refl ∙ sym (far_alike s c ge)
      where
        by : (o : Option Spot) → step s 97 ≡ o → then_on o (λ t. run t f.rest) ≡ o
        by None e = refl
        by (Some t) e = run_far t f.rest f.others (stays s t e)

pub moved_is : (s : Spot) (c : ℕ) (t : Spot) → step s c ≡ Some t → moved s c ≡ t
moved_is s c t e = rw e refl

-- ---- the characters of a text, one by one

unfoldable pub Walks : Spot → List ℕ → Type 0
Walks s [] = Unit {0}
Walks s (c ∷ cs) = (t : Spot) × (step s c ≡ Some t) × IsScalar c × Walks t cs

pub walks_of : (s t : Spot) (cs : List ℕ) → all_scalars cs ≡ true → run s (encode_utf8_all cs) ≡ Some t → Walks s cs
unfolding Walks
walks_of s t [] k e = tt
walks_of s t (c ∷ cs) k e =
    let f = run_front s t (encode_utf8 c) (encode_utf8_all cs) e in
    let b = both _ (all_scalars cs) k in
    (f.0, sym (run_character s c) ∙ f.1, b.0, walks_of f.0 t cs b.1 f.2)

pub scalars_of : (s : Spot) (cs : List ℕ) → Walks s cs → all_scalars cs ≡ true
unfolding Walks
scalars_of s [] k = refl
scalars_of s (c ∷ cs) k = rw k.2 (scalars_of k.0 cs k.3)
