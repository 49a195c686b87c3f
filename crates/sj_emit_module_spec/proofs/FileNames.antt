-- The names of the modules of a plan, with `.js`, are names of files.
use Rattle.std.proofs.Common.{◌≡◌, ◌<◌, ◌+◌, ◌/◌, ◌%◌, ◌^◌, ◌==◌, ◌++◌, ◌&&◌, ℕ, zero, suc, Bool, true, false, List, [], ◌∷◌, Contains, inl, inr, refl, sym, ap, subst, ◌∙◌, map, length, arith, slice_index}
use Rattle.std.specs.Prelude.{◌⊎◌, codes, nat_le, if◌then◌else◌}
use Rattle.std.specs.Int.Digits.{digits_of, AllBelowBase}
use Rattle.std.proofs.lemmas.Int.Digits.{all_below_base_digits_of}
use Rattle.std.specs.Int.{byte_at, bytes_high_first, to_be_bytes, w32}
use Rattle.std.specs.List.{list_all}
use Rattle.std.proofs.lemmas.Bool.{and_parts, and_from, eqb-true}
use Rattle.std.proofs.lemmas.List.Sorted.{Contains-permutation, IsPermutation-sym}
use Rattle.hex.specs.Hex.{encode_with, lower_digits}
use Rattle.js_tree.specs.Names.{is_file, is_file_character, is_file_rest, is_same_text}
use Rattle.module_names.specs.Names.{Key, mark, internal_name, count_with, names_behind, names_of, sha1_digest}
use Rattle.sha1.specs.Sha1.{sha1, digest_bytes}
use Rattle.sj_mangling.specs.Numerals.{number_text}
use Rattle.sj_names.specs.EntryPoints.{is_entry, is_id_byte, is_public_id}
use Rattle.sj_split.proofs.Ids.{each_passes}
use Rattle.sj_split.proofs.Members.{cons_cases, from_map, further, at_first, Mapped}
use Rattle.sj_split.proofs.OnePlace.{InternalOf, parted}
use Rattle.sj_split.specs.Modules.{internal_modules, module_of, public_module}
use Rattle.sj_split.specs.Orders.{Bytes}
use Rattle.sj_split.specs.Walks.{Name}
use Rattle.sj_split.specs.declared.homes.Settled.{Settled}
use Rattle.sj_split.specs.declared.plans.PlannedModule.{PlannedModule}
use Rattle.worklist.proofs.Inserted.{nothing_in}
use Rattle.sj_emit_module_spec.specs.Laws.{PlansNameFiles}

-- all its bytes are those of names of files
abbrev Fits : List ℕ → Type 0
Fits bytes = list_all is_file_character bytes ≡ true

fits_first : (b : ℕ) (bs : List ℕ) → Fits (b ∷ bs) → is_file_character b ≡ true
fits_first b bs h = (and_parts (is_file_character b) (list_all is_file_character bs) h).0

fits_rest : (b : ℕ) (bs : List ℕ) → Fits (b ∷ bs) → Fits bs
fits_rest b bs h = (and_parts (is_file_character b) (list_all is_file_character bs) h).1

fits_more : (b : ℕ) (bs : List ℕ) → is_file_character b ≡ true → Fits bs → Fits (b ∷ bs)
fits_more b bs h k = and_from (is_file_character b) (list_all is_file_character bs) h k

fits_join : (xs ys : List ℕ) → Fits xs → Fits ys → Fits (xs ++ ys)
fits_join [] ys h k = k
fits_join (x ∷ xs) ys h k = fits_more x (xs ++ ys) (fits_first x xs h) (fits_join xs ys (fits_rest x xs h) k)

not_dot : (b : ℕ) → is_file_character b ≡ true → (b == 46) ≡ false
not_dot b h = go (b == 46) refl
  where
    dot : b ≡ 46 → ⊥
    dot e = let w : false ≡ true = subst (λ (c : ℕ). is_file_character c ≡ true) e h in cc

    go : (t : Bool) → (b == 46) ≡ t → (b == 46) ≡ false
    go true e = absurd (dot (eqb-true b 46 e))
    go false e = e

-- with `.js` behind them they are the rest of a name of a file
one_more : (begun : Bool) (b : ℕ) (rest : List ℕ) → is_file_character b ≡ true → is_file_rest true rest ≡ true → is_file_rest begun (b ∷ rest) ≡ true
one_more begun b rest h k = ap (λ t. if t then (begun && is_same_text rest (codes "js")) else (is_file_character b && is_file_rest true rest)) (not_dot b h) ∙ and_from (is_file_character b) (is_file_rest true rest) h k

rest_of_file : (bs : List ℕ) → Fits bs → is_file_rest true (bs ++ codes ".js") ≡ true
rest_of_file [] h = refl
rest_of_file (b ∷ bs) h = one_more true b (bs ++ codes ".js") (fits_first b bs h) (rest_of_file bs (fits_rest b bs h))

whole_file : (b : ℕ) (bs : List ℕ) → Fits (b ∷ bs) → is_file (b ∷ bs ++ codes ".js") ≡ true
whole_file b bs h = one_more false b (bs ++ codes ".js") (fits_first b bs h) (rest_of_file bs (fits_rest b bs h))

-- a test that numbers below a limit pass
abbrev all_below : (ℕ → Bool) → ℕ → Bool
all_below test zero = true
all_below test (suc n) = all_below test n && test n

passes_below : (test : ℕ → Bool) (n d : ℕ) → all_below test n ≡ true → d < n → test d ≡ true
passes_below test zero d h low = absurd (omega (arith, low))
passes_below test (suc n) d h low = go (split d n low) (λ l. passes_below test n d (and_parts (all_below test n) (test n) h).0 l)
  where
    split : (i k : ℕ) → i < suc k → (i < k) ⊎ (i ≡ k)
    split i k l = grind (arith, l)

    go : (d < n) ⊎ (d ≡ n) → (d < n → test d ≡ true) → test d ≡ true
    go (inl l) rest = rest l
    go (inr e) rest = subst (λ (k : ℕ). test k ≡ true) (sym e) (and_parts (all_below test n) (test n) h).1

-- decimal numerals
numeral_digit : (d : ℕ) → d < 10 → is_file_character (48 + d) ≡ true
numeral_digit d small = passes_below (λ k. is_file_character (48 + k)) 10 d refl small

numeral_digits : (ds : List ℕ) → AllBelowBase 10 ds → Fits (map (λ d. 48 + d) ds)
numeral_digits [] h = refl
numeral_digits (d ∷ ds) h = fits_more (48 + d) (map (λ d. 48 + d) ds) (numeral_digit d h.0) (numeral_digits ds h.1)

numeral_fits : (n : ℕ) → Fits (number_text n)
numeral_fits zero = refl
numeral_fits (suc n) = numeral_digits (digits_of 10 (suc n)) (all_below_base_digits_of 10 (suc n) (omega arith))

mark_fits : (n : ℕ) → Fits (mark n)
mark_fits zero = refl
mark_fits (suc n) = fits_more 45 (number_text (suc n)) refl (numeral_fits (suc n))

-- digests
abbrev AreSmall : List ℕ → Type 0
AreSmall [] = Unit {0}
AreSmall (b ∷ bs) = (b < 256) × AreSmall bs

small_join : (xs ys : List ℕ) → AreSmall xs → AreSmall ys → AreSmall (xs ++ ys)
small_join [] ys h k = k
small_join (x ∷ xs) ys h k = (h.0, small_join xs ys h.1 k)

remainder_small : (n : ℕ) → n % 256 < 256
remainder_small n = omega arith

byte_small : (i n : ℕ) → byte_at i n < 256
byte_small zero n = remainder_small n
byte_small (suc i) n = remainder_small (n / 256 ^ suc i)

bytes_small : (k n : ℕ) → AreSmall (bytes_high_first k n)
bytes_small zero n = tt
bytes_small (suc k) n = (byte_small k n, bytes_small k n)

digest_small : (hash : List ℕ) (n : ℕ) → AreSmall (digest_bytes hash n)
unfolding digest_bytes
digest_small hash zero = tt
digest_small hash (suc n) = small_join (digest_bytes hash n) (to_be_bytes w32 (slice_index hash n)) (digest_small hash n) (bytes_small 4 (slice_index hash n))

sha1_small : (message : List ℕ) → AreSmall (sha1 message)
unfolding sha1
sha1_small message = digest_small _ 5

digit_fits : (d : ℕ) → d < 16 → is_file_character (slice_index lower_digits d) ≡ true
digit_fits d low = passes_below (λ e. is_file_character (slice_index lower_digits e)) 16 d refl low

encoded_fits : (bytes : List ℕ) → AreSmall bytes → Fits (encode_with lower_digits bytes)
unfolding encode_with
encoded_fits [] h = refl
encoded_fits (b ∷ bytes) h =
    let small : b < 256 = h.0 in
    fits_more (slice_index lower_digits (b / 16)) (slice_index lower_digits (b % 16) ∷ encode_with lower_digits bytes) (digit_fits (b / 16) (omega (arith, small))) (fits_more (slice_index lower_digits (b % 16)) (encode_with lower_digits bytes) (digit_fits (b % 16) (omega arith)) (encoded_fits bytes h.1))

digest_fits : (key : Key) → Fits (sha1_digest key)
digest_fits key = encoded_fits (sha1 key) (sha1_small key)

-- a name is a name of a file, with `.js`
abbrev NamesFile : Bytes → Type 0
NamesFile name = is_file (name ++ codes ".js") ≡ true

internal_file : (key : Key) (earlier : ℕ) → NamesFile (internal_name (sha1_digest key) earlier)
internal_file key earlier = whole_file 105 (codes "nternal-" ++ (sha1_digest key ++ mark earlier)) (fits_join (codes "internal-") (sha1_digest key ++ mark earlier) refl (fits_join (sha1_digest key) (mark earlier) (digest_fits key) (mark_fits earlier)))

internal_files : (earlier keys : List Key) (name : Bytes) → Contains (names_behind sha1_digest earlier keys) name → NamesFile name
internal_files earlier [] name h = nothing_in name h
internal_files earlier (key ∷ keys) name h =
    let first : Bytes = internal_name (sha1_digest key) (count_with sha1_digest earlier (sha1_digest key)) in
    elim (cons_cases first name (names_behind sha1_digest (earlier ++ key ∷ []) keys) h) [ inl e ↦ subst NamesFile e (internal_file key (count_with sha1_digest earlier (sha1_digest key))) | inr later ↦ internal_files (earlier ++ key ∷ []) keys name later ]

name_among : (homes : List Settled) (owners : List Name) (keys : List Key) (names : List Bytes) (key : Key) (m : PlannedModule) → InternalOf owners homes keys names key m → Contains names m.name
name_among homes owners [] names key m h = absurd h
name_among homes owners (k ∷ keys) [] key m h = absurd h
name_among homes owners (k ∷ keys) (name ∷ names) key m (inl p) = subst (Contains (name ∷ names)) (sym (ap (λ (x : PlannedModule). x.name) p.1)) (at_first name names)
name_among homes owners (k ∷ keys) (name ∷ names) key m (inr h) = further name m.name names (name_among homes owners keys names key m h)

public_file : (id : Bytes) → is_public_id id ≡ true → NamesFile id
public_file [] h = cc
public_file (b ∷ bs) h = whole_file b bs (and_parts (nat_le 1 (length (b ∷ bs)) && nat_le (length (b ∷ bs)) 64) (list_all is_id_byte (b ∷ bs)) (and_parts _ _ (and_parts _ _ h).0).0).1

pub plans_name_files : PlansNameFiles
plans_name_files graph entries style modules valid is m h =
    let names : List Bytes = names_of sha1_digest is.keys in
    elim (parted graph entries is.homes is.ids is.keys names m (Contains-permutation modules (map (public_module entries is.homes) is.ids ++ internal_modules graph.owners is.homes is.keys names) m (IsPermutation-sym (map (public_module entries is.homes) is.ids ++ internal_modules graph.owners is.homes is.keys names) modules is.exact) h)) [
      | inl public ↦ of_public public
      | inr internal ↦ internal_files [] is.keys m.name (name_among is.homes graph.owners is.keys names internal.key m internal.is)
    ]
  where
    of_entry : (id : Bytes) → Mapped module_of entries id → NamesFile id
    of_entry id e = subst NamesFile e.is (public_file e.item.module (and_parts (is_public_id e.item.module) _ (each_passes is_entry entries e.item valid.each e.among)).0)

    of_public : Mapped (public_module entries is.homes) is.ids m → NamesFile m.name
    of_public p = subst (λ (x : PlannedModule). NamesFile x.name) p.is (of_entry p.item (from_map module_of entries p.item ((is.are_ids.exact p.item).0 p.among)))
