-- Whole listings: what the law of the reader says at the end of the bytes.
use Rattle.std.proofs.Common.{◌≡◌, ℕ, suc, ◌+◌, List, [], ◌∷◌, length, Result, Ok, Err, sym, ◌∙◌, arith}
use Rattle.sj_trees.specs.declared.classes.ClassDef.{ClassDef}
use Rattle.exact_place.specs.Reading.{map_at, end_at}
use Rattle.exact_place.specs.Place.{Place}
use Rattle.exact_place.proofs.Steps.{good_is, bind_ok}
use Rattle.exact_place.proofs.Whole.{whole_reads, whole_takes, whole_place, one_value}
use Rattle.sj_text_spec.specs.Spelling.{Lists}
use Rattle.sj_text_spec.specs.Reading.{class_at, listing_at}
use Rattle.sj_text_spec.proofs.ClassLaws.{law_listing}

pub one_class : (c d : ClassDef) (text : List ℕ) → Lists c text → Lists d text → c ≡ d
one_class = one_value Lists listing_at law_listing

pub listing_read : (c : ClassDef) (bytes : List ℕ) → Lists c bytes → listing_at (suc (length bytes)) bytes ≡ Ok (c, [])
listing_read c bytes s = whole_reads Lists listing_at law_listing c bytes (suc (length bytes)) (omega arith) s

pub class_listed : (c : ClassDef) (bytes : List ℕ) → listing_at (suc (length bytes)) bytes ≡ Ok (c, []) → Lists c bytes
class_listed c bytes e = whole_takes Lists listing_at law_listing c bytes (suc (length bytes)) e

ended : (d c : ClassDef) (mid rest : List ℕ) → map_at (λ u. d) end_at mid ≡ Ok (c, rest) → rest ≡ []
ended d c [] rest e = sym (good_is d c [] rest e).rest
ended d c (b ∷ mid) rest e = absurd cc

pub listing_whole : (c : ClassDef) (bytes rest : List ℕ) → listing_at (suc (length bytes)) bytes ≡ Ok (c, rest) → rest ≡ []
unfolding listing_at
listing_whole c bytes rest e =
    let b = bind_ok (class_at (suc (length bytes)) bytes) (λ x. map_at (λ u. x.0) end_at x.1) c rest e in
    ended b.0 c b.1 rest b.3

pub listing_place : (bytes : List ℕ) (left : ℕ) → listing_at (suc (length bytes)) bytes ≡ Err left → (place : ℕ) × (place + left ≡ length bytes) × Place Lists bytes place
listing_place bytes left e = whole_place Lists listing_at law_listing bytes (suc (length bytes)) left (omega arith) e

ok_err : {A : Type 0} (x : A) (left : ℕ) → ◌≡◌ {A = Result A ℕ} (Ok x) (Err left) → ⊥
ok_err x left e = cc

pub no_listing : (c : ClassDef) (bytes : List ℕ) (left : ℕ) → listing_at (suc (length bytes)) bytes ≡ Err left → Lists c bytes → ⊥
no_listing c bytes left e s = ok_err (c, []) left (sym (listing_read c bytes s) ∙ e)
