use Rattle.std.proofs.Common.{◌≡◌, ◌∷◌, ◌++◌, [], List, ℕ, map, string_bytes, sym, ap, ◌∙◌}
use Rattle.sj_words.specs.Given.{given}
use Rattle.sj_words.specs.Collected.{gifts_in}
use Rattle.sj_words.proofs.Steps.{after_operand, after_setting, after_value, value_refused, lone_name, unknown_gives, refused_here, at_the_end, no_words_left, no_words_yet, is_empty}
use Rattle.sj_words.proofs.given.given.Goals as goal

pub loop-word-init : goal.loop-word-init
loop-word-init c = no_words_yet _ _ c.new-collected.ensures

pub returns-in-End : goal.returns-in-End
returns-in-End c =
    let r = ap (map string_bytes) c.in-Some.ensures.cases.0 ∙ ap (λ (w : List ℕ). w ∷ map string_bytes c.in-Some.behind.now) (sym c.as_str.ensures.value) in
    at_the_end _ _ _ _ _ _ c.loop-word.invariant r (sym c.kind.ensures ∙ c.in-End.is) c.in_ok-add_operands-in-End.ensures

pub loop-word-preserved-in-Operand : goal.loop-word-preserved-in-Operand
loop-word-preserved-in-Operand c =
    let r = ap (map string_bytes) c.in-Some.ensures.cases.0 ∙ ap (λ (w : List ℕ). w ∷ map string_bytes c.in-Some.behind.now) (sym c.as_str.ensures.value) in
    after_operand _ _ _ _ _ _ c.loop-word.invariant r (sym c.kind.ensures ∙ c.in-Operand.is) (c.in_ok-add_operand-in-Operand.ensures ∙ ap (λ (w : List ℕ). record (gifts_in c.loop-word.collected) { operands = (gifts_in c.loop-word.collected).operands ++ w ∷ [] }) (c.as_str-in-Operand.ensures.value ∙ sym c.as_str.ensures.value))

pub loop-word-preserved-in-Whole : goal.loop-word-preserved-in-Whole
loop-word-preserved-in-Whole c =
    let r = ap (map string_bytes) c.in-Some.ensures.cases.0 ∙ ap (λ (w : List ℕ). w ∷ map string_bytes c.in-Some.behind.now) (sym c.as_str.ensures.value) in
    after_setting _ _ _ _ _ _ _ c.loop-word.invariant r (sym c.kind.ensures ∙ c.in-Whole.is) c.in_ok-add_setting-in-Whole.ensures

pub returns-in_default-split_first : goal.returns-in_default-split_first
returns-in_default-split_first c =
    let r = ap (map string_bytes) c.in-Some.ensures.cases.0 ∙ ap (λ (w : List ℕ). w ∷ map string_bytes c.in-Some.behind.now) (sym c.as_str.ensures.value) in
    let e : map string_bytes c.in-Some.behind.now ≡ [] = ap (map string_bytes) (is_empty _ c.in_default-split_first.ensures.cases) in
    refused_here _ _ _ c.loop-word.invariant (ap given (r ∙ ap (λ (b : List (List ℕ)). c.as_str.result.now ∷ b) e) ∙ lone_name _ _ (sym c.kind.ensures ∙ c.in-Name.is))

pub returns-in_default-with_value : goal.returns-in_default-with_value
returns-in_default-with_value c =
    let r = ap (map string_bytes) c.in-Some.ensures.cases.0 ∙ ap (λ (w : List ℕ). w ∷ map string_bytes c.in-Some.behind.now) (sym c.as_str.ensures.value) in
    let q = ap (map string_bytes) c.in-Some-split_first.ensures.cases.0 ∙ ap (λ (w : List ℕ). w ∷ map string_bytes c.in-Some-split_first.behind.now) (sym c.as_str-in-Name.ensures.value) in
    refused_here _ _ _ c.loop-word.invariant (ap given (r ∙ ap (λ (b : List (List ℕ)). c.as_str.result.now ∷ b) q) ∙ value_refused _ _ _ _ (sym c.kind.ensures ∙ c.in-Name.is) (sym c.with_value.ensures ∙ c.in_default-with_value.is))

pub loop-word-preserved : goal.loop-word-preserved
loop-word-preserved c =
    let r = ap (map string_bytes) c.in-Some.ensures.cases.0 ∙ ap (λ (w : List ℕ). w ∷ map string_bytes c.in-Some.behind.now) (sym c.as_str.ensures.value) in
    let q = ap (map string_bytes) c.in-Some-split_first.ensures.cases.0 ∙ ap (λ (w : List ℕ). w ∷ map string_bytes c.in-Some-split_first.behind.now) (sym c.as_str-in-Name.ensures.value) in
    after_value _ _ _ _ _ _ _ _ _ c.loop-word.invariant (r ∙ ap (λ (b : List (List ℕ)). c.as_str.result.now ∷ b) q) (sym c.kind.ensures ∙ c.in-Name.is) (sym c.with_value.ensures ∙ c.in-Some-with_value.is) c.in_ok-add_setting-in-Name.ensures

pub returns-in-Unknown : goal.returns-in-Unknown
returns-in-Unknown c =
    let r = ap (map string_bytes) c.in-Some.ensures.cases.0 ∙ ap (λ (w : List ℕ). w ∷ map string_bytes c.in-Some.behind.now) (sym c.as_str.ensures.value) in
    refused_here _ _ _ c.loop-word.invariant (ap given r ∙ unknown_gives _ _ (sym c.kind.ensures ∙ c.in-Unknown.is))

pub returns : goal.returns
returns c = no_words_left _ _ _ c.loop-word.invariant (ap (map string_bytes) (is_empty _ c.in_default.ensures.cases))
