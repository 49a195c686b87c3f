-- One name more.
use Rattle.std.proofs.Common.{◌≡◌, ℕ, ◌+◌, ◌<◌, Bool, true, false, List, [], ◌∷◌, ◌++◌, refl, sym, ap, ◌∙◌, length, take, drop, get_or, add-one}
use Rattle.std.specs.Prelude.{count_by, nat_eq, if◌then◌else◌}
use Rattle.std.specs.Cmp.Lexicographic.{pointwise}
use Rattle.std.proofs.lemmas.List.{append_assoc, take_more}
use Rattle.std.proofs.lemmas.List.Sums.{count_by_more_yes, count_by_more_no}
use Rattle.std.proofs.Math.Seq.{drop-cons}
use Rattle.module_names.specs.Names.{Key, Digest, internal_name, count_with, names_behind}

-- the name of the next key, with the count of those before it
pub names_more : (digest_of : Key → Digest) (keys : List Key) (place : ℕ) → place < length keys → (names : List (List ℕ)) (name : List ℕ) → name ≡ internal_name (digest_of (get_or keys place [])) (count_with digest_of (take place keys) (digest_of (get_or keys place []))) → (names ++ name ∷ []) ++ names_behind digest_of (take (place + 1) keys) (drop (place + 1) keys) ≡ names ++ names_behind digest_of (take place keys) (drop place keys)
names_more digest_of keys place within names name named =
    let key : Key = get_or keys place [] in
    let rest : drop place keys ≡ key ∷ drop (place + 1) keys = drop-cons keys place [] within ∙ ap (λ n. key ∷ drop n keys) (sym (add-one place)) in
    let front : take (place + 1) keys ≡ take place keys ++ key ∷ [] = take_more keys place [] within in
    let later : List Key = drop (place + 1) keys in
    append_assoc names (name ∷ []) (names_behind digest_of (take (place + 1) keys) later)
    ∙ ap (λ l. names ++ l) (ap (λ n. n ∷ names_behind digest_of (take (place + 1) keys) later) named
    ∙ ap (λ t. internal_name (digest_of key) (count_with digest_of (take place keys) (digest_of key)) ∷ names_behind digest_of t later) front
    ∙ sym (ap (λ l. names_behind digest_of (take place keys) l) rest))

-- one key more is counted under its digest
pub counted_more : (digest_of : Key → Digest) (keys : List Key) (place : ℕ) → place < length keys → (before after : ℕ) (digest : Digest) → before ≡ count_with digest_of (take place keys) digest → after ≡ (if pointwise nat_eq (digest_of (get_or keys place [])) digest then before + 1 else before) → after ≡ count_with digest_of (take (place + 1) keys) digest
counted_more digest_of keys place within before after digest counted is = go (test (get_or keys place [])) refl
  where
    test : Key → Bool
    test key = pointwise nat_eq (digest_of key) digest

    go : (b : Bool) → test (get_or keys place []) ≡ b → after ≡ count_with digest_of (take (place + 1) keys) digest
    go true e = is ∙ ap (λ b. if b then before + 1 else before) e ∙ ap (λ n. n + 1) counted ∙ sym (count_by_more_yes test keys place [] within e)
    go false e = is ∙ ap (λ b. if b then before + 1 else before) e ∙ counted ∙ sym (count_by_more_no test keys place [] within e)
