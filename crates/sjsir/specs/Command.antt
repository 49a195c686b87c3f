-- What the words of a command line ask for.
use Rattle.std.specs.Prelude.{ℕ, Bool, true, false, List, [], ◌∷◌, ◌&&◌, not, codes, nat_eq, Option, Some, None, if◌then◌else◌}
use Rattle.std.specs.List.{list_all}
use Rattle.std.specs.Cmp.Lexicographic.{pointwise}
use Rattle.sj_outside.specs.Words.{is_operand}

pub data Command : Type 0 where
  help : Command
  version : Command
  -- the listings of class files
  print : (files : List (List ℕ)) → Command
  -- the class file of a listing
  make : (listing out : List ℕ) → Command

abbrev pub is_word : List ℕ → List ℕ → Bool
is_word = pointwise nat_eq

abbrev pub is_none : List (List ℕ) → Bool
is_none [] = true
is_none (name ∷ names) = false

abbrev pub alone : List (List ℕ) → Command → Option Command
alone names command = if is_none names then Some command else None

abbrev pub print_of : List (List ℕ) → Option Command
print_of names = if not (is_none names) && list_all is_operand names then Some (print names) else None

abbrev pub make_of : List (List ℕ) → Option Command
make_of (listing ∷ out ∷ []) = if is_operand listing && is_operand out then Some (make listing out) else None
make_of _ = None

-- `--help`, `--version`, `print FILE..` and `make LISTING OUT`, and nothing else
abbrev pub command : List (List ℕ) → Option Command
command [] = None
command (word ∷ names) =
    if is_word word (codes "--help") then alone names help
    else if is_word word (codes "--version") then alone names version
    else if is_word word (codes "print") then print_of names
    else if is_word word (codes "make") then make_of names
    else None
