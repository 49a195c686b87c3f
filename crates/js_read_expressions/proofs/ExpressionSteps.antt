-- One level of the readers of expressions, at a fuel that isn't zero.
use Rattle.std.proofs.Common.{◌≡◌, ℕ, zero, suc, ◌-◌, true, false, List, length, Ok, Err, refl, ap, ◌∙◌, arith}
use Rattle.exact_place.specs.Reading.{passes}
use Rattle.exact_place.specs.Tokens.{is_digit}
use Rattle.js_tree.specs.Terms.{Expression}
use Rattle.js_read_spec.specs.declared.words.Head.{Head}
use Rattle.js_read_spec.specs.Words.{is_word_start}
use Rattle.js_read_spec.specs.Tokens.{head_at, number_at}
use Rattle.js_read_spec.specs.Expressions.{expression_level, wordless_level, expression_at, wordless_at, expression_after_at, bracketed_at, suffixes_at}
use Rattle.text_scan.specs.declared.stop.Stop.{Stop}
use Rattle.text_scan.specs.declared.stop.Stop.TheVariants as stops
use Rattle.text_scan.specs.Gives.{Fails}

pub expression_none : (n : ℕ) (bytes : List ℕ) → n ≡ 0 → expression_at n bytes ≡ Err (length bytes)
unfolding expression_at
expression_none zero bytes e = refl
expression_none (suc n) bytes e = absurd (omega arith)

pub wordless_none : (n : ℕ) (bytes : List ℕ) → n ≡ 0 → wordless_at n bytes ≡ Err (length bytes)
unfolding wordless_at
wordless_none zero bytes e = refl
wordless_none (suc n) bytes e = absurd (omega arith)

pub ruleset levels = (expression_none, wordless_none)

pub expression_word : (n : ℕ) (bytes : List ℕ) (h : Head) (rest : List ℕ) → (n ≡ 0 → ⊥) → passes is_word_start bytes ≡ true → head_at bytes ≡ Ok (h, rest) → expression_at n bytes ≡ expression_after_at (expression_at (n - 1)) (n - 1) h rest
unfolding expression_at expression_level
expression_word zero bytes h rest some go is = absurd (some refl)
expression_word (suc n) bytes h rest some go is =
    let less : n ≡ suc n - 1 = omega arith in
    rw (go, is) (ap (λ (m : ℕ). expression_after_at (expression_at m) m h rest) less)

pub expression_word_fails : (stop : Stop) (n : ℕ) (bytes : List ℕ) → (n ≡ 0 → ⊥) → passes is_word_start bytes ≡ true → Fails stop (head_at bytes) → Fails stop (expression_at n bytes)
unfolding expression_at expression_level
expression_word_fails stops.NoMemory n bytes some go is = tt
expression_word_fails (stops.Bad left) zero bytes some go is = absurd (some refl)
expression_word_fails (stops.Bad left) (suc n) bytes some go is = rw (go, is) refl

pub expression_wordless : (n : ℕ) (bytes : List ℕ) → (n ≡ 0 → ⊥) → passes is_word_start bytes ≡ false → expression_at n bytes ≡ wordless_at n bytes
unfolding expression_at expression_level wordless_at
expression_wordless zero bytes some go = absurd (some refl)
expression_wordless (suc n) bytes some go = rw go refl

pub wordless_number : (n : ℕ) (bytes : List ℕ) → (n ≡ 0 → ⊥) → passes is_digit bytes ≡ true → wordless_at n bytes ≡ number_at bytes
unfolding wordless_at wordless_level
wordless_number zero bytes some go = absurd (some refl)
wordless_number (suc n) bytes some go = rw go refl

pub wordless_object : (n : ℕ) (bytes : List ℕ) (e : Expression) (rest : List ℕ) → (n ≡ 0 → ⊥) → passes is_digit bytes ≡ false → bracketed_at (expression_at (n - 1)) (n - 1) (wordless_at (n - 1)) bytes ≡ Ok (e, rest)
    → wordless_at n bytes ≡ suffixes_at (expression_at (n - 1)) (n - 1) e rest
unfolding wordless_at wordless_level
wordless_object zero bytes e rest some go is = absurd (some refl)
wordless_object (suc n) bytes e rest some go is =
    let less : n ≡ suc n - 1 = omega arith in
    let here : bracketed_at (expression_at n) n (wordless_at n) bytes ≡ Ok (e, rest) = ap (λ (m : ℕ). bracketed_at (expression_at m) m (wordless_at m) bytes) less ∙ is in
    rw (go, here) (ap (λ (m : ℕ). suffixes_at (expression_at m) m e rest) less)

pub wordless_fails : (stop : Stop) (n : ℕ) (bytes : List ℕ) → (n ≡ 0 → ⊥) → passes is_digit bytes ≡ false → Fails stop (bracketed_at (expression_at (n - 1)) (n - 1) (wordless_at (n - 1)) bytes) → Fails stop (wordless_at n bytes)
unfolding wordless_at wordless_level
wordless_fails stops.NoMemory n bytes some go is = tt
wordless_fails (stops.Bad left) zero bytes some go is = absurd (some refl)
wordless_fails (stops.Bad left) (suc n) bytes some go is =
    let less : n ≡ suc n - 1 = omega arith in
    let here : bracketed_at (expression_at n) n (wordless_at n) bytes ≡ Err left = ap (λ (m : ℕ). bracketed_at (expression_at m) m (wordless_at m) bytes) less ∙ is in
    rw (go, here) refl
