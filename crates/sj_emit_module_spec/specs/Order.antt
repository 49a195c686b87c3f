-- Texts in byte order, each once.
use Rattle.std.specs.Prelude.{List, [], ◌∷◌, if◌then◌else◌}
use Rattle.std.specs.Cmp.Lexicographic.{slice_cmp}
use Rattle.std.specs.Ordering.{nat_cmp, is_lt}
use Rattle.sj_split.specs.Orders.{Bytes, is_same}

-- texts in byte order, with one more at its place unless it is there
abbrev pub put_in_order : Bytes → List Bytes → List Bytes
put_in_order x [] = x ∷ []
put_in_order x (y ∷ ys) = if is_lt (slice_cmp nat_cmp x y) then x ∷ y ∷ ys else (if is_same x y then y ∷ ys else y ∷ put_in_order x ys)

abbrev pub each_once_in_order : List Bytes → List Bytes
each_once_in_order [] = []
each_once_in_order (x ∷ xs) = put_in_order x (each_once_in_order xs)
