-- One level of the reader of statements, at a fuel that isn't zero.
use Rattle.std.proofs.Common.{◌≡◌, ℕ, zero, suc, ◌-◌, true, false, List, length, Ok, Err, refl, ap, arith}
use Rattle.exact_place.specs.Reading.{passes}
use Rattle.js_tree.specs.Terms.{Expression}
use Rattle.js_read_spec.specs.declared.words.StatementHead.{StatementHead}
use Rattle.js_read_spec.specs.Words.{is_word_start}
use Rattle.js_read_spec.specs.Tokens.{statement_head_at}
use Rattle.js_read_spec.specs.Expressions.{wordless_at}
use Rattle.js_read_spec.specs.Statements.{statement_at, statement_level, statement_after_at, target_at}
use Rattle.text_scan.specs.declared.stop.Stop.{Stop}
use Rattle.text_scan.specs.declared.stop.Stop.TheVariants as stops
use Rattle.text_scan.specs.Gives.{Fails}

pub statement_none : (n level : ℕ) (bytes : List ℕ) → n ≡ 0 → statement_at n level bytes ≡ Err (length bytes)
unfolding statement_at
statement_none zero level bytes e = refl
statement_none (suc n) level bytes e = absurd (omega arith)

pub statement_word : (n level : ℕ) (bytes : List ℕ) (h : StatementHead) (rest : List ℕ) → (n ≡ 0 → ⊥) → passes is_word_start bytes ≡ true → statement_head_at bytes ≡ Ok (h, rest) → statement_at n level bytes ≡ statement_after_at (statement_at (n - 1)) (n - 1) level h rest
unfolding statement_at statement_level
statement_word zero level bytes h rest some go is = absurd (some refl)
statement_word (suc n) level bytes h rest some go is =
    let less : n ≡ suc n - 1 = omega arith in
    rw (go, is) (ap (λ (m : ℕ). statement_after_at (statement_at m) m level h rest) less)

pub statement_word_fails : (stop : Stop) (n level : ℕ) (bytes : List ℕ) → (n ≡ 0 → ⊥) → passes is_word_start bytes ≡ true → Fails stop (statement_head_at bytes) → Fails stop (statement_at n level bytes)
unfolding statement_at statement_level
statement_word_fails stops.NoMemory n level bytes some go is = tt
statement_word_fails (stops.Bad left) zero level bytes some go is = absurd (some refl)
statement_word_fails (stops.Bad left) (suc n) level bytes some go is = rw (go, is) refl

pub statement_wordless : (n level : ℕ) (bytes : List ℕ) (e : Expression) (rest : List ℕ) → (n ≡ 0 → ⊥) → passes is_word_start bytes ≡ false → wordless_at n bytes ≡ Ok (e, rest) → statement_at n level bytes ≡ target_at (statement_at (n - 1)) (n - 1) level e rest
unfolding statement_at statement_level
statement_wordless zero level bytes e rest some go is = absurd (some refl)
statement_wordless (suc n) level bytes e rest some go is =
    let less : n ≡ suc n - 1 = omega arith in
    rw (go, is) (ap (λ (m : ℕ). target_at (statement_at m) m level e rest) less)

pub statement_wordless_fails : (stop : Stop) (n level : ℕ) (bytes : List ℕ) → (n ≡ 0 → ⊥) → passes is_word_start bytes ≡ false → Fails stop (wordless_at n bytes) → Fails stop (statement_at n level bytes)
unfolding statement_at statement_level
statement_wordless_fails stops.NoMemory n level bytes some go is = tt
statement_wordless_fails (stops.Bad left) zero level bytes some go is = absurd (some refl)
statement_wordless_fails (stops.Bad left) (suc n) level bytes some go is = rw (go, is) refl
