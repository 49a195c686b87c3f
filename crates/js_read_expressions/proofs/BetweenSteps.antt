-- Forms whose parts are read with the bytes in front of them and behind them.
use Rattle.std.proofs.Common.{◌≡◌, ℕ, List, Ok, Err, refl, ◌∙◌, codes}
use Rattle.exact_place.specs.Reading.{Reading, ◌>>=◌, literal_at, value_at, after_at, lead_at, map_at}
use Rattle.js_tree.specs.Terms.{Expression, index_of, new_array_of, binary_of, unary_of, conditional_of, host_call, host_call_of_two}
use Rattle.js_tree.specs.declared.operators.BinaryOperator.{BinaryOperator}
use Rattle.js_tree.specs.declared.operators.UnaryOperator.{UnaryOperator}
use Rattle.js_tree.specs.declared.operators.HostFunction.{HostFunction}
use Rattle.js_tree.specs.declared.operators.HostOperation.{HostOperation}
use Rattle.js_read_spec.specs.declared.words.NewHead.TheVariants as news
use Rattle.js_read_spec.specs.declared.words.Infix.TheVariants as infixes
use Rattle.js_read_spec.specs.Expressions.{index_suffix, with_suffix, host_at, host_of_two_at, new_after_at, infix_after_at, unary_at}
use Rattle.text_scan.specs.declared.stop.Stop.{Stop}
use Rattle.text_scan.specs.Gives.{Fails}
use Rattle.js_read_scan.specs.Parts.{before_at}
use Rattle.js_read_scan.proofs.Parts.{before_read, before_missed, between_read, between_missed, fails_along}

-- an element is read as a suffix, and the expression in front of it is put into what was read
mapped_index : (read : List ℕ → Reading Expression) (e : Expression) (bytes : List ℕ)
    → map_at (λ s. with_suffix s e) (lead_at (codes "[") (after_at read (λ i. map_at (λ u. index_suffix i) (literal_at (codes "]"))))) bytes ≡ lead_at (codes "[") (after_at read (λ i. map_at (λ u. index_of e i) (literal_at (codes "]")))) bytes
mapped_index read e bytes = opened (literal_at (codes "[") bytes)
  where
    closed : (i : Expression) (third : Reading (Unit {0})) → map_at (λ s. with_suffix s e) (λ b. map_at (λ u. index_suffix i) (λ b. third) b) bytes ≡ map_at (λ u. index_of e i) (λ b. third) bytes
    closed i (Ok u) = refl
    closed i (Err k) = refl

    inside : (second : Reading Expression) → map_at (λ s. with_suffix s e) (λ b. second >>= λ i. map_at (λ u. index_suffix i.0) (literal_at (codes "]")) i.1) bytes ≡ (second >>= λ i. map_at (λ u. index_of e i.0) (literal_at (codes "]")) i.1)
    inside (Ok i) = closed i.0 (literal_at (codes "]") i.1)
    inside (Err k) = refl

    opened : (first : Reading (Unit {0})) → map_at (λ s. with_suffix s e) (λ b. first >>= λ u. after_at read (λ i. map_at (λ u. index_suffix i) (literal_at (codes "]"))) u.1) bytes ≡ (first >>= λ u. after_at read (λ i. map_at (λ u. index_of e i) (literal_at (codes "]"))) u.1)
    opened (Ok u) = inside (read u.1)
    opened (Err k) = refl

module _ (inner : List ℕ → Reading Expression) (n : ℕ) (bytes : List ℕ) where
  pub host_read : (lead : List ℕ) (f : HostFunction) (e : Expression) (rest : List ℕ) → lead_at lead (before_at (codes ")") inner) bytes ≡ Ok (e, rest) → lead_at lead (host_at inner n f) bytes ≡ Ok (host_call f e, rest)
  unfolding host_at
  host_read lead f e rest is = between_read inner (λ a. value_at (host_call f a)) lead (codes ")") bytes e rest is

  pub host_missed : (stop : Stop) (lead : List ℕ) (f : HostFunction) → Fails stop (lead_at lead (before_at (codes ")") inner) bytes) → Fails stop (lead_at lead (host_at inner n f) bytes)
  unfolding host_at
  host_missed stop lead f off = between_missed inner (λ a. value_at (host_call f a)) lead (codes ")") bytes stop off

  pub unary_read : (lead : List ℕ) (op : UnaryOperator) (e : Expression) (rest : List ℕ) → lead_at lead (before_at (codes ")") inner) bytes ≡ Ok (e, rest) → lead_at lead (unary_at inner n op) bytes ≡ Ok (unary_of op e, rest)
  unfolding unary_at
  unary_read lead op e rest is = between_read inner (λ a. value_at (unary_of op a)) lead (codes ")") bytes e rest is

  pub unary_missed : (stop : Stop) (lead : List ℕ) (op : UnaryOperator) → Fails stop (lead_at lead (before_at (codes ")") inner) bytes) → Fails stop (lead_at lead (unary_at inner n op) bytes)
  unfolding unary_at
  unary_missed stop lead op off = between_missed inner (λ a. value_at (unary_of op a)) lead (codes ")") bytes stop off

  pub array_read : (e : Expression) (rest : List ℕ) → lead_at (codes "(") (before_at (codes ")") inner) bytes ≡ Ok (e, rest) → new_after_at inner n news.Array bytes ≡ Ok (new_array_of e, rest)
  unfolding new_after_at
  array_read e rest is = between_read inner (λ a. value_at (new_array_of a)) (codes "(") (codes ")") bytes e rest is

  pub array_missed : (stop : Stop) → Fails stop (lead_at (codes "(") (before_at (codes ")") inner) bytes) → Fails stop (new_after_at inner n news.Array bytes)
  unfolding new_after_at
  array_missed stop off = between_missed inner (λ a. value_at (new_array_of a)) (codes "(") (codes ")") bytes stop off

  pub operator_read : (a : Expression) (op : BinaryOperator) (b : Expression) (rest : List ℕ) → lead_at (codes " ") (before_at (codes ")") inner) bytes ≡ Ok (b, rest) → infix_after_at inner n a (infixes.Operator op) bytes ≡ Ok (binary_of a op b, rest)
  unfolding infix_after_at
  operator_read a op b rest is = between_read inner (λ e. value_at (binary_of a op e)) (codes " ") (codes ")") bytes b rest is

  pub operator_missed : (stop : Stop) (a : Expression) (op : BinaryOperator) → Fails stop (lead_at (codes " ") (before_at (codes ")") inner) bytes) → Fails stop (infix_after_at inner n a (infixes.Operator op) bytes)
  unfolding infix_after_at
  operator_missed stop a op off = between_missed inner (λ e. value_at (binary_of a op e)) (codes " ") (codes ")") bytes stop off

  -- `a, b)` behind the bytes that lead
  module _ (lead : List ℕ) (f : HostOperation) where
    second_at : Expression → List ℕ → Reading Expression
    second_at a = after_at inner (λ b. map_at (λ u. host_call_of_two f a b) (literal_at (codes ")")))

    pub host_of_two_read : (a b : Expression) (mid rest : List ℕ) → lead_at lead (before_at (codes ", ") inner) bytes ≡ Ok (a, mid) → before_at (codes ")") inner mid ≡ Ok (b, rest) → lead_at lead (host_of_two_at inner n f) bytes ≡ Ok (host_call_of_two f a b, rest)
    unfolding host_of_two_at second_at
    host_of_two_read a b mid rest first second = between_read inner second_at lead (codes ", ") bytes a mid first ∙ before_read inner (λ e. value_at (host_call_of_two f a e)) mid (codes ")") b rest second

    pub host_of_two_missed : (stop : Stop) → Fails stop (lead_at lead (before_at (codes ", ") inner) bytes) → Fails stop (lead_at lead (host_of_two_at inner n f) bytes)
    unfolding host_of_two_at second_at
    host_of_two_missed stop off = between_missed inner second_at lead (codes ", ") bytes stop off

    pub host_of_two_half : (stop : Stop) (a : Expression) (mid : List ℕ) → lead_at lead (before_at (codes ", ") inner) bytes ≡ Ok (a, mid) → Fails stop (before_at (codes ")") inner mid) → Fails stop (lead_at lead (host_of_two_at inner n f) bytes)
    unfolding host_of_two_at second_at
    host_of_two_half stop a mid first off = fails_along stop (between_read inner second_at lead (codes ", ") bytes a mid first) (before_missed inner (λ e. value_at (host_call_of_two f a e)) mid (codes ")") stop off)

  -- `a : b)` behind a space
  module _ (test : Expression) where
    otherwise_at : Expression → List ℕ → Reading Expression
    otherwise_at a = after_at inner (λ b. map_at (λ u. conditional_of test a b) (literal_at (codes ")")))

    pub choice_read : (a b : Expression) (mid rest : List ℕ) → lead_at (codes " ") (before_at (codes " : ") inner) bytes ≡ Ok (a, mid) → before_at (codes ")") inner mid ≡ Ok (b, rest) → infix_after_at inner n test infixes.Question bytes ≡ Ok (conditional_of test a b, rest)
    unfolding infix_after_at otherwise_at
    choice_read a b mid rest first second = between_read inner otherwise_at (codes " ") (codes " : ") bytes a mid first ∙ before_read inner (λ e. value_at (conditional_of test a e)) mid (codes ")") b rest second

    pub choice_missed : (stop : Stop) → Fails stop (lead_at (codes " ") (before_at (codes " : ") inner) bytes) → Fails stop (infix_after_at inner n test infixes.Question bytes)
    unfolding infix_after_at otherwise_at
    choice_missed stop off = between_missed inner otherwise_at (codes " ") (codes " : ") bytes stop off

    pub choice_half : (stop : Stop) (a : Expression) (mid : List ℕ) → lead_at (codes " ") (before_at (codes " : ") inner) bytes ≡ Ok (a, mid) → Fails stop (before_at (codes ")") inner mid) → Fails stop (infix_after_at inner n test infixes.Question bytes)
    unfolding infix_after_at otherwise_at
    choice_half stop a mid first off = fails_along stop (between_read inner otherwise_at (codes " ") (codes " : ") bytes a mid first) (before_missed inner (λ e. value_at (conditional_of test a e)) mid (codes ")") stop off)

-- an element behind an expression
module _ (inner : List ℕ → Reading Expression) (n : ℕ) (object : Expression) (bytes : List ℕ) where
  pub index_read : (i : Expression) (rest : List ℕ) → lead_at (codes "[") (before_at (codes "]") inner) bytes ≡ Ok (i, rest) → map_at (λ s. with_suffix s object) (lead_at (codes "[") (after_at inner (λ e. map_at (λ u. index_suffix e) (literal_at (codes "]"))))) bytes ≡ Ok (index_of object i, rest)
  index_read i rest is = mapped_index inner object bytes ∙ between_read inner (λ e. value_at (index_of object e)) (codes "[") (codes "]") bytes i rest is

  pub index_missed : (stop : Stop) → Fails stop (lead_at (codes "[") (before_at (codes "]") inner) bytes) → Fails stop (map_at (λ s. with_suffix s object) (lead_at (codes "[") (after_at inner (λ e. map_at (λ u. index_suffix e) (literal_at (codes "]"))))) bytes)
  index_missed stop off = fails_along stop (mapped_index inner object bytes) (between_missed inner (λ e. value_at (index_of object e)) (codes "[") (codes "]") bytes stop off)

pub ruleset hosts = (host_read, host_missed)

pub ruleset hosts_of_two = (host_of_two_read, host_of_two_missed, host_of_two_half)

pub ruleset unaries = (unary_read, unary_missed)

pub ruleset arrays = (array_read, array_missed)

pub ruleset operators = (operator_read, operator_missed)

pub ruleset choices = (choice_read, choice_missed, choice_half)

pub ruleset indices = (index_read, index_missed)
