-- Units of characters, one behind the other.
use Rattle.std.proofs.Common.{◌≡◌, ℕ, List, [], ◌∷◌, ◌++◌, sym, ap, ◌∙◌, append-nil}
use Rattle.std.specs.Char.Escape.{encode_utf16}
use Rattle.std.specs.List.{flat_map}
use Rattle.std.proofs.lemmas.Grind.{flat_map-append}

-- the units of one character more behind what is there
pub one_more : (units new xs : List ℕ) (x : ℕ) → units ≡ flat_map encode_utf16 xs → new ≡ units ++ encode_utf16 x → new ≡ flat_map encode_utf16 (xs ++ x ∷ [])
one_more units new xs x before after = after ∙ ap (λ (us : List ℕ). us ++ encode_utf16 x) before ∙ ap (λ (us : List ℕ). flat_map encode_utf16 xs ++ us) (sym (append-nil (encode_utf16 x))) ∙ sym (flat_map-append encode_utf16 xs (x ∷ []))
