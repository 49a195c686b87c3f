-- What an evaluation with a bound comes to: the lines that it logs by itself, and how it ends.
use Rattle.std.specs.Prelude.{ℕ, List, [], ◌∷◌, ◌++◌}

-- a line: the text that is logged, in 16-bit units
abbrev pub Line : Type 0
Line = List ℕ

abbrev pub Lines : Type 0
Lines = List Line

-- an evaluation ends with what it comes to, or is still going where its bound is used up, or is wrong
pub data End (A : Type 0) : Type 0 where
  Done : A → End A
  Going : End A
  Wrong : End A

pub record Out (A : Type 0) : Type 0 where
  pub lines : Lines
  pub end : End A

abbrev pub done : {A : Type 0} → A → Out A
done a = record { lines = []; end = Done a }

abbrev pub going : {A : Type 0} → Out A
going = record { lines = []; end = Going }

abbrev pub wrong : {A : Type 0} → Out A
wrong = record { lines = []; end = Wrong }

-- logs one line
abbrev pub says : {A : Type 0} → Line → A → Out A
says line a = record { lines = line ∷ []; end = Done a }

-- the outcome with lines in front of its own
abbrev pub behind : {A : Type 0} → Lines → Out A → Out A
behind lines o = record { lines = lines ++ o.lines; end = o.end }

abbrev pub after : {A B : Type 0} → Lines → End A → (A → Out B) → Out B
after lines (Done a) f = behind lines (f a)
after lines Going f = record { lines = lines; end = Going }
after lines Wrong f = record { lines = lines; end = Wrong }

-- the one, and where it is done the other with what it came to; going and wrong end everything around them
abbrev pub then_do : {A B : Type 0} → Out A → (A → Out B) → Out B
then_do o f = after o.lines o.end f
