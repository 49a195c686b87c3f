-- A count in 32 bits is the number of trees, or the last of 32 bits.
use Rattle.std.proofs.Common.{◌≡◌, ℕ, ◌+◌, ap, ◌∙◌, arith}
use Rattle.sj_trees.specs.Term.{Term, Terms, Cases, no_terms, more_terms, no_cases, more_cases, var_def, skip, block_of, labeled, assign, return_to, if_then, while_loop, do_while, try_catch, try_finally, throw, match_on, new_object, load_module, store_module, select, select_static, apply, apply_statically, apply_static, unary_op, binary_op, new_array, array_value, array_length, array_select, is_instance_of, as_instance_of, undefined_literal, null_literal, boolean_literal, char_literal, byte_literal, short_literal, int_literal, long_literal, string_literal, var_ref, this_ref, log_line}
use Rattle.sj_ask.specs.Sizes.{size, size_of_all, size_of_cases, in_32_bits, next, counted, counted_all, counted_cases}

pub next_is : (n : ℕ) → next (in_32_bits n) ≡ in_32_bits (n + 1)
unfolding next
next_is n = omega arith

mutual
  pub counted_is : (t : Term) (n : ℕ) → counted t (in_32_bits n) ≡ in_32_bits (n + size t)
  counted_is (var_def p x t m e) n = ap (λ k. counted e (k)) (next_is n) ∙ counted_is e (n + 1) ∙ ap in_32_bits (omega arith)
  counted_is (skip p) n = next_is n
  counted_is (block_of p ts) n = ap (λ k. counted_all ts (k)) (next_is n) ∙ all_is ts (n + 1) ∙ ap in_32_bits (omega arith)
  counted_is (labeled p l t e) n = ap (λ k. counted e (k)) (next_is n) ∙ counted_is e (n + 1) ∙ ap in_32_bits (omega arith)
  counted_is (assign p e d) n = ap (λ k. counted d (counted e (k))) (next_is n) ∙ ap (λ k. counted d (k)) (counted_is e (n + 1)) ∙ counted_is d (n + 1 + size e) ∙ ap in_32_bits (omega arith)
  counted_is (return_to p e l) n = ap (λ k. counted e (k)) (next_is n) ∙ counted_is e (n + 1) ∙ ap in_32_bits (omega arith)
  counted_is (if_then p e d b t) n = ap (λ k. counted b (counted d (counted e (k)))) (next_is n) ∙ ap (λ k. counted b (counted d (k))) (counted_is e (n + 1)) ∙ ap (λ k. counted b (k)) (counted_is d (n + 1 + size e)) ∙ counted_is b (n + 1 + size e + size d) ∙ ap in_32_bits (omega arith)
  counted_is (while_loop p e d) n = ap (λ k. counted d (counted e (k))) (next_is n) ∙ ap (λ k. counted d (k)) (counted_is e (n + 1)) ∙ counted_is d (n + 1 + size e) ∙ ap in_32_bits (omega arith)
  counted_is (do_while p e d) n = ap (λ k. counted d (counted e (k))) (next_is n) ∙ ap (λ k. counted d (k)) (counted_is e (n + 1)) ∙ counted_is d (n + 1 + size e) ∙ ap in_32_bits (omega arith)
  counted_is (try_catch p e x d t) n = ap (λ k. counted d (counted e (k))) (next_is n) ∙ ap (λ k. counted d (k)) (counted_is e (n + 1)) ∙ counted_is d (n + 1 + size e) ∙ ap in_32_bits (omega arith)
  counted_is (try_finally p e d) n = ap (λ k. counted d (counted e (k))) (next_is n) ∙ ap (λ k. counted d (k)) (counted_is e (n + 1)) ∙ counted_is d (n + 1 + size e) ∙ ap in_32_bits (omega arith)
  counted_is (throw p e) n = ap (λ k. counted e (k)) (next_is n) ∙ counted_is e (n + 1) ∙ ap in_32_bits (omega arith)
  counted_is (match_on p e cs d t) n = ap (λ k. counted d (counted_cases cs (counted e (k)))) (next_is n) ∙ ap (λ k. counted d (counted_cases cs (k))) (counted_is e (n + 1)) ∙ ap (λ k. counted d (k)) (cases_is cs (n + 1 + size e)) ∙ counted_is d (n + 1 + size e + size_of_cases cs) ∙ ap in_32_bits (omega arith)
  counted_is (new_object p c k ts) n = ap (λ k. counted_all ts (k)) (next_is n) ∙ all_is ts (n + 1) ∙ ap in_32_bits (omega arith)
  counted_is (load_module p c) n = next_is n
  counted_is (store_module p c e) n = ap (λ k. counted e (k)) (next_is n) ∙ counted_is e (n + 1) ∙ ap in_32_bits (omega arith)
  counted_is (select p e c f t) n = ap (λ k. counted e (k)) (next_is n) ∙ counted_is e (n + 1) ∙ ap in_32_bits (omega arith)
  counted_is (select_static p c f t) n = next_is n
  counted_is (apply p e k ts t) n = ap (λ k. counted_all ts (counted e (k))) (next_is n) ∙ ap (λ k. counted_all ts (k)) (counted_is e (n + 1)) ∙ all_is ts (n + 1 + size e) ∙ ap in_32_bits (omega arith)
  counted_is (apply_statically p e c s k ts t) n = ap (λ k. counted_all ts (counted e (k))) (next_is n) ∙ ap (λ k. counted_all ts (k)) (counted_is e (n + 1)) ∙ all_is ts (n + 1 + size e) ∙ ap in_32_bits (omega arith)
  counted_is (apply_static p c s k ts t) n = ap (λ k. counted_all ts (k)) (next_is n) ∙ all_is ts (n + 1) ∙ ap in_32_bits (omega arith)
  counted_is (unary_op p o e) n = ap (λ k. counted e (k)) (next_is n) ∙ counted_is e (n + 1) ∙ ap in_32_bits (omega arith)
  counted_is (binary_op p o e d) n = ap (λ k. counted d (counted e (k))) (next_is n) ∙ ap (λ k. counted d (k)) (counted_is e (n + 1)) ∙ counted_is d (n + 1 + size e) ∙ ap in_32_bits (omega arith)
  counted_is (new_array p r e) n = ap (λ k. counted e (k)) (next_is n) ∙ counted_is e (n + 1) ∙ ap in_32_bits (omega arith)
  counted_is (array_value p r ts) n = ap (λ k. counted_all ts (k)) (next_is n) ∙ all_is ts (n + 1) ∙ ap in_32_bits (omega arith)
  counted_is (array_length p e) n = ap (λ k. counted e (k)) (next_is n) ∙ counted_is e (n + 1) ∙ ap in_32_bits (omega arith)
  counted_is (array_select p e d t) n = ap (λ k. counted d (counted e (k))) (next_is n) ∙ ap (λ k. counted d (k)) (counted_is e (n + 1)) ∙ counted_is d (n + 1 + size e) ∙ ap in_32_bits (omega arith)
  counted_is (is_instance_of p e t) n = ap (λ k. counted e (k)) (next_is n) ∙ counted_is e (n + 1) ∙ ap in_32_bits (omega arith)
  counted_is (as_instance_of p e t) n = ap (λ k. counted e (k)) (next_is n) ∙ counted_is e (n + 1) ∙ ap in_32_bits (omega arith)
  counted_is (undefined_literal p) n = next_is n
  counted_is (null_literal p) n = next_is n
  counted_is (boolean_literal p v) n = next_is n
  counted_is (char_literal p v) n = next_is n
  counted_is (byte_literal p v) n = next_is n
  counted_is (short_literal p v) n = next_is n
  counted_is (int_literal p v) n = next_is n
  counted_is (long_literal p v) n = next_is n
  counted_is (string_literal p u) n = next_is n
  counted_is (var_ref p x t) n = next_is n
  counted_is (this_ref p t) n = next_is n
  counted_is (log_line p e) n = ap (λ k. counted e (k)) (next_is n) ∙ counted_is e (n + 1) ∙ ap in_32_bits (omega arith)

  pub all_is : (ts : Terms) (n : ℕ) → counted_all ts (in_32_bits n) ≡ in_32_bits (n + size_of_all ts)
  all_is no_terms n = ap in_32_bits (omega arith)
  all_is (more_terms t ts) n = ap (counted_all ts) (counted_is t n) ∙ all_is ts (n + size t) ∙ ap in_32_bits (omega arith)

  pub cases_is : (cs : Cases) (n : ℕ) → counted_cases cs (in_32_bits n) ≡ in_32_bits (n + size_of_cases cs)
  cases_is no_cases n = ap in_32_bits (omega arith)
  cases_is (more_cases keys t cs) n = ap (counted_cases cs) (counted_is t n) ∙ cases_is cs (n + size t) ∙ ap in_32_bits (omega arith)
