-- A plain name is the name of a local.
use Rattle.std.proofs.Common.{◌≡◌, ℕ, true, List, [], ◌∷◌, refl, cond, ap, ◌∙◌}
use Rattle.std.specs.Prelude.{◌&&◌, length, nat_lt, ◌==◌}
use Rattle.std.specs.List.{list_all}
use Rattle.std.proofs.lemmas.Bool.{and_parts, and_from}
use Rattle.sj_names.specs.Grammar.{is_name_byte, is_plain_name, is_local_name, is_inner_rest, in_name, one_slash}

pub rest-plain : (bs : List ℕ) → list_all is_name_byte bs ≡ true → is_inner_rest in_name bs ≡ true
rest-plain [] plain = refl
rest-plain (b ∷ bs) plain =
    let parts = and_parts (is_name_byte b) (list_all is_name_byte bs) plain in
    ap (λ v. cond v (is_inner_rest in_name bs) (b == 47 && is_inner_rest one_slash bs)) parts.0 ∙ rest-plain bs parts.1

pub is_local_name-plain : (bs : List ℕ) → is_plain_name bs ≡ true → is_local_name bs ≡ true
is_local_name-plain [] plain = plain
is_local_name-plain (b ∷ bs) plain =
    let all = (and_parts (nat_lt 0 (length (b ∷ bs))) (list_all is_name_byte (b ∷ bs)) plain).1 in
    let parts = and_parts (is_name_byte b) (list_all is_name_byte bs) all in
    and_from _ _ parts.0 (rest-plain bs parts.1)

pub ruleset plain_names = (is_local_name-plain)
