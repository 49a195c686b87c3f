-- What the check of trees says of them.
use Rattle.std.proofs.Common.{◌≡◌, ℕ, ◌+◌, Bool, true, List, [], ◌∷◌, ◌++◌, Ok, Err, refl, sym, ap, ◌∙◌, subst, append_assoc}
use Rattle.std.specs.Prelude.{◌↔◌, IsTrue}
use Rattle.std.specs.List.{All}
use Rattle.std.proofs.lemmas.List.Elements.{All-append, All-nil, All-cons}
use Rattle.sj_names.specs.declared.method_names.Namespace.{Namespace}
use Rattle.sj_trees.specs.Term.{Term, Terms, Cases, no_terms, more_terms, no_cases, more_cases, var_def, skip, block_of, labeled, assign, return_to, if_then, while_loop, do_while, try_catch, try_finally, throw, match_on, new_object, load_module, store_module, select, select_static, apply, apply_statically, apply_static, unary_op, binary_op, new_array, array_value, array_length, array_select, is_instance_of, as_instance_of, undefined_literal, null_literal, boolean_literal, char_literal, byte_literal, short_literal, int_literal, long_literal, string_literal, var_ref, this_ref, log_line}
use Rattle.sj_ask.specs.Known.{Classes}
use Rattle.sj_ask.specs.declared.errors.TypeError.{TypeError}
use Rattle.sj_ask.specs.declared.errors.TypeError.TheVariants.{Refused}
use Rattle.sj_ask.specs.Stands.{Stand}
use Rattle.sj_ask.specs.Answers.{IsAnswer}
use Rattle.sj_ask.specs.Apart.{Exchange}
use Rattle.sj_ask.specs.Sizes.{size, size_of_all, size_of_cases, in_32_bits, next, counted, counted_all, counted_cases}
use Rattle.sj_ask.specs.Tasks.{done, ◌>>=◌}
use Rattle.sj_ask.specs.Runs.{Comes}
use Rattle.sj_ask.proofs.Counts.{next_is, counted_is, all_is, cases_is}
use Rattle.sj_ask.proofs.Running.{Parted, went, stopped, comes-parted}
use Rattle.sj_typing_spec.specs.declared.labels.Label.{Label}
use Rattle.sj_typing_spec.specs.Nodes.{Node, node, inside, below, nodes_of_all, nodes_of_cases}
use Rattle.sj_typing_spec.specs.Rules.{MaySet}
use Rattle.sj_typing_spec.specs.Typed.{tag, MeetsThere, FailsAt}
use Rattle.sj_typing_spec.specs.Rows.{row_of}
use Rattle.sj_typing_spec.specs.Checks.{Checking, then_do, both, met, ask_row, fault_at, parts_of, all_of, cases_of}
use Rattle.sj_typing_spec.proofs.Conditions.{row_came, row_refused}
use Rattle.sj_typing_spec.proofs.RowsMean.{PartsSet, row_means, row_holds, row_sets}

-- one of the trees fails first, and is refused
pub record Fails (w : Classes) (space : Namespace) (all : List Node) (e : TypeError) : Type 0 where
  pub tree : Node
  pub at : FailsAt w space all tree
  pub fault : e ≡ Refused (tag tree.tree) (in_32_bits tree.number)

-- a part of a check says of these trees that each meets its rule, and something of what it gives; or which fails first
pub record Judged (s : Stand) (space : Namespace) (m : Checking) (all : List Node) (Given : Bool → Type 0) : Type 0 where
  pub ok : (b : Bool) (log : List Exchange) → Comes (IsAnswer s) m (Ok b) log → All (MeetsThere s.classes space) all × Given b
  pub err : (e : TypeError) (log : List Exchange) → Comes (IsAnswer s) m (Err e) log → Fails s.classes space all e

-- what stands behind a first part
abbrev behind_first : Checking → Bool → Checking
behind_first n settable = n >>= (λ other. done settable)

-- what stands behind the trees in a tree
abbrev row_task : Namespace → List Label → ℕ → Term → Bool → Checking
row_task space ls k t settable = ask_row (fault_at t k) (row_of space ls settable t)

up : (n k : ℕ) → k ≡ in_32_bits n → next k ≡ in_32_bits (n + 1)
up n k q = ap next q ∙ next_is n

past : (t : Term) (n k : ℕ) → k ≡ in_32_bits n → counted t k ≡ in_32_bits (n + size t)
past t n k q = ap (counted t) q ∙ counted_is t n

past_all : (ts : Terms) (n k : ℕ) → k ≡ in_32_bits n → counted_all ts k ≡ in_32_bits (n + size_of_all ts)
past_all ts n k q = ap (counted_all ts) q ∙ all_is ts n

past_cases : (cs : Cases) (n k : ℕ) → k ≡ in_32_bits n → counted_cases cs k ≡ in_32_bits (n + size_of_cases cs)
past_cases cs n k q = ap (counted_cases cs) q ∙ cases_is cs n

module _ (s : Stand) (space : Namespace) where
  fails_first : (xs ys : List Node) (e : TypeError) → Fails s.classes space xs e → Fails s.classes space (xs ++ ys) e
  fails_first xs ys e f = record {
    tree = f.tree;
    at = record { before = f.at.before; behind = f.at.behind ++ ys; parts = ap (λ (l : List Node). l ++ ys) f.at.parts ∙ append_assoc f.at.before (f.tree ∷ f.at.behind) ys; met = f.at.met; fails = f.at.fails };
    fault = f.fault;
  }

  fails_later : (xs ys : List Node) (e : TypeError) → All (MeetsThere s.classes space) xs → Fails s.classes space ys e → Fails s.classes space (xs ++ ys) e
  fails_later xs ys e met f = record {
    tree = f.tree;
    at = record { before = xs ++ f.at.before; behind = f.at.behind; parts = ap (λ (l : List Node). xs ++ l) f.at.parts ∙ sym (append_assoc xs f.at.before (f.tree ∷ f.at.behind)); met = All-append (MeetsThere s.classes space) xs f.at.before met f.at.met; fails = f.at.fails };
    fault = f.fault;
  }

  judged_done : {Given : Bool → Type 0} → Given true → Judged s space (done true) [] Given
  judged_done {Given} g = record {
    ok = λ b log h. let e : true ≡ b = cc (h.0) in (All-nil (MeetsThere s.classes space), subst Given e g);
    err = λ e log h. let no : Err e ≡ Ok true = h.0 in cc;
  }

  judged_any : {m : Checking} {xs : List Node} {Given : Bool → Type 0} → Judged s space m xs Given → Judged s space m xs (λ _. Unit {0})
  judged_any j = record { ok = λ b log h. ((j.ok b log h).0, tt); err = j.err }

  judged_both : {m n : Checking} {xs ys : List Node} {Given Other : Bool → Type 0} → Judged s space m xs Given → Judged s space n ys Other → Judged s space (both m n) (xs ++ ys) Given
  unfolding both
  judged_both {m} {n} {xs} {ys} {Given} {Other} j l = record { ok = λ b log h. came b log (comes-parted (IsAnswer s) m (behind_first n) (Ok b) log h); err = λ e log h. refused e log (comes-parted (IsAnswer s) m (behind_first n) (Err e) log h) }
    where
      ends : (a b : Bool) (log : List Exchange) → Parted (IsAnswer s) n (λ other. done a) (Ok b) log → All (MeetsThere s.classes space) ys × (b ≡ a)
      ends a b log (went o one two h k e) = let q : b ≡ a = cc (k.0) in ((l.ok o one h).0, q)
      ends a b log (stopped e h q) = let no : Ok b ≡ Err e = q in cc

      came : (b : Bool) (log : List Exchange) → Parted (IsAnswer s) m (behind_first n) (Ok b) log → All (MeetsThere s.classes space) (xs ++ ys) × Given b
      came b log (went a one two h k e) =
          let first = j.ok a one h in
          let rest = ends a b two (comes-parted (IsAnswer s) n (λ other. done a) (Ok b) two k) in
          (All-append (MeetsThere s.classes space) xs ys first.0 rest.0, subst Given (sym rest.1) first.1)
      came b log (stopped e h q) = let no : Ok b ≡ Err e = q in cc

      fails : (a : Bool) (e : TypeError) (log : List Exchange) → Parted (IsAnswer s) n (λ other. done a) (Err e) log → Fails s.classes space ys e
      fails a e log (went o one two h k q) = let no : Err e ≡ Ok a = k.0 in cc
      fails a e log (stopped d h q) = let same : d ≡ e = cc (q) in subst (Fails s.classes space ys) same (l.err d log h)

      refused : (e : TypeError) (log : List Exchange) → Parted (IsAnswer s) m (behind_first n) (Err e) log → Fails s.classes space (xs ++ ys) e
      refused e log (went a one two h k q) = fails_later xs ys e (j.ok a one h).0 (fails a e two (comes-parted (IsAnswer s) n (λ other. done a) (Err e) two k))
      refused e log (stopped d h q) = let same : d ≡ e = cc (q) in fails_first xs ys e (subst (Fails s.classes space xs) same (j.err d log h))

  judged_then : {m n : Checking} {xs ys : List Node} {Given Other : Bool → Type 0} → Judged s space m xs Given → Judged s space n ys Other → Judged s space (then_do m n) (xs ++ ys) Other
  unfolding then_do
  judged_then {m} {n} {xs} {ys} {Given} {Other} j l = record { ok = λ b log h. came b log (comes-parted (IsAnswer s) m (λ _. n) (Ok b) log h); err = λ e log h. refused e log (comes-parted (IsAnswer s) m (λ _. n) (Err e) log h) }
    where
      came : (b : Bool) (log : List Exchange) → Parted (IsAnswer s) m (λ _. n) (Ok b) log → All (MeetsThere s.classes space) (xs ++ ys) × Other b
      came b log (went a one two h k e) = let rest = l.ok b two k in (All-append (MeetsThere s.classes space) xs ys (j.ok a one h).0 rest.0, rest.1)
      came b log (stopped e h q) = let no : Ok b ≡ Err e = q in cc

      refused : (e : TypeError) (log : List Exchange) → Parted (IsAnswer s) m (λ _. n) (Err e) log → Fails s.classes space (xs ++ ys) e
      refused e log (went a one two h k q) = fails_later xs ys e (j.ok a one h).0 (l.err e two k)
      refused e log (stopped d h q) = let same : d ≡ e = cc (q) in fails_first xs ys e (subst (Fails s.classes space xs) same (j.err d log h))

  pub judged_met : (ls : List Label) (n k : ℕ) (t : Term) → k ≡ in_32_bits n → {parts : Checking} {xs : List Node} → Judged s space parts xs (PartsSet s.classes space t) → Judged s space (met space ls k t parts) (xs ++ node n ls t ∷ []) (λ b. IsTrue b ↔ MaySet s.classes space t)
  unfolding met
  judged_met ls n k t q {parts} {xs} j = record { ok = λ b log h. came b log (comes-parted (IsAnswer s) parts (row_task space ls k t) (Ok b) log h); err = λ e log h. refused e log (comes-parted (IsAnswer s) parts (row_task space ls k t) (Err e) log h) }
    where
      came : (b : Bool) (log : List Exchange) → Parted (IsAnswer s) parts (row_task space ls k t) (Ok b) log → All (MeetsThere s.classes space) (xs ++ node n ls t ∷ []) × (IsTrue b ↔ MaySet s.classes space t)
      came b log (went a one two h c e) =
          let first = j.ok a one h in
          let row = row_came s (fault_at t k) (row_of space ls a t) b two c in
          (All-append (MeetsThere s.classes space) xs (node n ls t ∷ []) first.0 (All-cons (MeetsThere s.classes space) (node n ls t) [] (row_means s.classes space ls a t first.1 row.0) (All-nil (MeetsThere s.classes space))), row_sets s.classes space ls a b t row.1)
      came b log (stopped e h r) = let no : Ok b ≡ Err e = r in cc

      refused : (e : TypeError) (log : List Exchange) → Parted (IsAnswer s) parts (row_task space ls k t) (Err e) log → Fails s.classes space (xs ++ node n ls t ∷ []) e
      refused e log (went a one two h c r) =
          let first = j.ok a one h in
          let row = row_refused s (fault_at t k) (row_of space ls a t) e two c in
          record {
            tree = node n ls t;
            at = record { before = xs; behind = []; parts = refl; met = first.0; fails = λ m. row.1 (row_holds s.classes space ls a t first.1 m) };
            fault = row.0 ∙ ap (λ (i : ℕ). Refused (tag t) i) q;
          }
      refused e log (stopped d h r) = let same : d ≡ e = cc (r) in fails_first xs (node n ls t ∷ []) e (subst (Fails s.classes space xs) same (j.err d log h))

mutual
  pub judged_parts : (s : Stand) (space : Namespace) (ls : List Label) (n k : ℕ) (t : Term) → k ≡ in_32_bits (n + 1) → Judged s space (parts_of space ls k t) (below ls n t) (PartsSet s.classes space t)
  judged_parts s space ls n k (var_def p x t m e) q = judged_any s space (judged_met s space ls (n + 1) (k) e q (judged_parts s space ls (n + 1) (next (k)) e (up (n + 1) (k) q)))
  judged_parts s space ls n k (skip p) q = judged_done s space tt
  judged_parts s space ls n k (block_of p ts) q = judged_any s space (judged_all s space ls (n + 1) (k) ts q)
  judged_parts s space ls n k (labeled p l t e) q = judged_any s space (judged_met s space (inside l t ls) (n + 1) (k) e q (judged_parts s space (inside l t ls) (n + 1) (next (k)) e (up (n + 1) (k) q)))
  judged_parts s space ls n k (assign p e d) q = (judged_both s space (judged_met s space ls (n + 1) (k) e q (judged_parts s space ls (n + 1) (next (k)) e (up (n + 1) (k) q))) (judged_met s space ls (n + 1 + size e) (counted e (k)) d (past e (n + 1) (k) q) (judged_parts s space ls (n + 1 + size e) (next (counted e (k))) d (up (n + 1 + size e) (counted e (k)) (past e (n + 1) (k) q)))))
  judged_parts s space ls n k (return_to p e l) q = judged_any s space (judged_met s space ls (n + 1) (k) e q (judged_parts s space ls (n + 1) (next (k)) e (up (n + 1) (k) q)))
  judged_parts s space ls n k (if_then p e d b t) q = judged_any s space (judged_both s space (judged_met s space ls (n + 1) (k) e q (judged_parts s space ls (n + 1) (next (k)) e (up (n + 1) (k) q))) (judged_both s space (judged_met s space ls (n + 1 + size e) (counted e (k)) d (past e (n + 1) (k) q) (judged_parts s space ls (n + 1 + size e) (next (counted e (k))) d (up (n + 1 + size e) (counted e (k)) (past e (n + 1) (k) q)))) (judged_met s space ls (n + 1 + size e + size d) (counted d (counted e (k))) b (past d (n + 1 + size e) (counted e (k)) (past e (n + 1) (k) q)) (judged_parts s space ls (n + 1 + size e + size d) (next (counted d (counted e (k)))) b (up (n + 1 + size e + size d) (counted d (counted e (k))) (past d (n + 1 + size e) (counted e (k)) (past e (n + 1) (k) q)))))))
  judged_parts s space ls n k (while_loop p e d) q = judged_any s space (judged_both s space (judged_met s space ls (n + 1) (k) e q (judged_parts s space ls (n + 1) (next (k)) e (up (n + 1) (k) q))) (judged_met s space ls (n + 1 + size e) (counted e (k)) d (past e (n + 1) (k) q) (judged_parts s space ls (n + 1 + size e) (next (counted e (k))) d (up (n + 1 + size e) (counted e (k)) (past e (n + 1) (k) q)))))
  judged_parts s space ls n k (do_while p e d) q = judged_any s space (judged_both s space (judged_met s space ls (n + 1) (k) e q (judged_parts s space ls (n + 1) (next (k)) e (up (n + 1) (k) q))) (judged_met s space ls (n + 1 + size e) (counted e (k)) d (past e (n + 1) (k) q) (judged_parts s space ls (n + 1 + size e) (next (counted e (k))) d (up (n + 1 + size e) (counted e (k)) (past e (n + 1) (k) q)))))
  judged_parts s space ls n k (try_catch p e x d t) q = judged_any s space (judged_both s space (judged_met s space ls (n + 1) (k) e q (judged_parts s space ls (n + 1) (next (k)) e (up (n + 1) (k) q))) (judged_met s space ls (n + 1 + size e) (counted e (k)) d (past e (n + 1) (k) q) (judged_parts s space ls (n + 1 + size e) (next (counted e (k))) d (up (n + 1 + size e) (counted e (k)) (past e (n + 1) (k) q)))))
  judged_parts s space ls n k (try_finally p e d) q = judged_any s space (judged_both s space (judged_met s space ls (n + 1) (k) e q (judged_parts s space ls (n + 1) (next (k)) e (up (n + 1) (k) q))) (judged_met s space ls (n + 1 + size e) (counted e (k)) d (past e (n + 1) (k) q) (judged_parts s space ls (n + 1 + size e) (next (counted e (k))) d (up (n + 1 + size e) (counted e (k)) (past e (n + 1) (k) q)))))
  judged_parts s space ls n k (throw p e) q = judged_any s space (judged_met s space ls (n + 1) (k) e q (judged_parts s space ls (n + 1) (next (k)) e (up (n + 1) (k) q)))
  judged_parts s space ls n k (match_on p e cs d t) q = judged_any s space (judged_both s space (judged_met s space ls (n + 1) (k) e q (judged_parts s space ls (n + 1) (next (k)) e (up (n + 1) (k) q))) (judged_both s space (judged_cases s space ls (n + 1 + size e) (counted e (k)) cs (past e (n + 1) (k) q)) (judged_met s space ls (n + 1 + size e + size_of_cases cs) (counted_cases cs (counted e (k))) d (past_cases cs (n + 1 + size e) (counted e (k)) (past e (n + 1) (k) q)) (judged_parts s space ls (n + 1 + size e + size_of_cases cs) (next (counted_cases cs (counted e (k)))) d (up (n + 1 + size e + size_of_cases cs) (counted_cases cs (counted e (k))) (past_cases cs (n + 1 + size e) (counted e (k)) (past e (n + 1) (k) q)))))))
  judged_parts s space ls n k (new_object p c m ts) q = judged_any s space (judged_all s space ls (n + 1) (k) ts q)
  judged_parts s space ls n k (load_module p c) q = judged_done s space tt
  judged_parts s space ls n k (store_module p c e) q = judged_any s space (judged_met s space ls (n + 1) (k) e q (judged_parts s space ls (n + 1) (next (k)) e (up (n + 1) (k) q)))
  judged_parts s space ls n k (select p e c f t) q = judged_any s space (judged_met s space ls (n + 1) (k) e q (judged_parts s space ls (n + 1) (next (k)) e (up (n + 1) (k) q)))
  judged_parts s space ls n k (select_static p c f t) q = judged_done s space tt
  judged_parts s space ls n k (apply p e m ts t) q = judged_any s space (judged_both s space (judged_met s space ls (n + 1) (k) e q (judged_parts s space ls (n + 1) (next (k)) e (up (n + 1) (k) q))) (judged_all s space ls (n + 1 + size e) (counted e (k)) ts (past e (n + 1) (k) q)))
  judged_parts s space ls n k (apply_statically p e c o m ts t) q = judged_any s space (judged_both s space (judged_met s space ls (n + 1) (k) e q (judged_parts s space ls (n + 1) (next (k)) e (up (n + 1) (k) q))) (judged_all s space ls (n + 1 + size e) (counted e (k)) ts (past e (n + 1) (k) q)))
  judged_parts s space ls n k (apply_static p c o m ts t) q = judged_any s space (judged_all s space ls (n + 1) (k) ts q)
  judged_parts s space ls n k (unary_op p o e) q = judged_any s space (judged_met s space ls (n + 1) (k) e q (judged_parts s space ls (n + 1) (next (k)) e (up (n + 1) (k) q)))
  judged_parts s space ls n k (binary_op p o e d) q = judged_any s space (judged_both s space (judged_met s space ls (n + 1) (k) e q (judged_parts s space ls (n + 1) (next (k)) e (up (n + 1) (k) q))) (judged_met s space ls (n + 1 + size e) (counted e (k)) d (past e (n + 1) (k) q) (judged_parts s space ls (n + 1 + size e) (next (counted e (k))) d (up (n + 1 + size e) (counted e (k)) (past e (n + 1) (k) q)))))
  judged_parts s space ls n k (new_array p r e) q = judged_any s space (judged_met s space ls (n + 1) (k) e q (judged_parts s space ls (n + 1) (next (k)) e (up (n + 1) (k) q)))
  judged_parts s space ls n k (array_value p r ts) q = judged_any s space (judged_all s space ls (n + 1) (k) ts q)
  judged_parts s space ls n k (array_length p e) q = judged_any s space (judged_met s space ls (n + 1) (k) e q (judged_parts s space ls (n + 1) (next (k)) e (up (n + 1) (k) q)))
  judged_parts s space ls n k (array_select p e d t) q = judged_any s space (judged_both s space (judged_met s space ls (n + 1) (k) e q (judged_parts s space ls (n + 1) (next (k)) e (up (n + 1) (k) q))) (judged_met s space ls (n + 1 + size e) (counted e (k)) d (past e (n + 1) (k) q) (judged_parts s space ls (n + 1 + size e) (next (counted e (k))) d (up (n + 1 + size e) (counted e (k)) (past e (n + 1) (k) q)))))
  judged_parts s space ls n k (is_instance_of p e t) q = judged_any s space (judged_met s space ls (n + 1) (k) e q (judged_parts s space ls (n + 1) (next (k)) e (up (n + 1) (k) q)))
  judged_parts s space ls n k (as_instance_of p e t) q = judged_any s space (judged_met s space ls (n + 1) (k) e q (judged_parts s space ls (n + 1) (next (k)) e (up (n + 1) (k) q)))
  judged_parts s space ls n k (undefined_literal p) q = judged_done s space tt
  judged_parts s space ls n k (null_literal p) q = judged_done s space tt
  judged_parts s space ls n k (boolean_literal p v) q = judged_done s space tt
  judged_parts s space ls n k (char_literal p v) q = judged_done s space tt
  judged_parts s space ls n k (byte_literal p v) q = judged_done s space tt
  judged_parts s space ls n k (short_literal p v) q = judged_done s space tt
  judged_parts s space ls n k (int_literal p v) q = judged_done s space tt
  judged_parts s space ls n k (long_literal p v) q = judged_done s space tt
  judged_parts s space ls n k (string_literal p u) q = judged_done s space tt
  judged_parts s space ls n k (var_ref p x t) q = judged_done s space tt
  judged_parts s space ls n k (this_ref p t) q = judged_done s space tt
  judged_parts s space ls n k (log_line p e) q = judged_any s space (judged_met s space ls (n + 1) (k) e q (judged_parts s space ls (n + 1) (next (k)) e (up (n + 1) (k) q)))

  judged_all : (s : Stand) (space : Namespace) (ls : List Label) (n k : ℕ) (ts : Terms) → k ≡ in_32_bits n → Judged s space (all_of space ls k ts) (nodes_of_all ls n ts) (λ _. Unit {0})
  judged_all s space ls n k no_terms q = judged_done s space tt
  judged_all s space ls n k (more_terms t ts) q = judged_then s space (judged_met s space ls n k t q (judged_parts s space ls n (next k) t (up n k q))) (judged_all s space ls (n + size t) (counted t k) ts (past t n k q))

  judged_cases : (s : Stand) (space : Namespace) (ls : List Label) (n k : ℕ) (cs : Cases) → k ≡ in_32_bits n → Judged s space (cases_of space ls k cs) (nodes_of_cases ls n cs) (λ _. Unit {0})
  judged_cases s space ls n k no_cases q = judged_done s space tt
  judged_cases s space ls n k (more_cases keys t cs) q = judged_then s space (judged_met s space ls n k t q (judged_parts s space ls n (next k) t (up n k q))) (judged_cases s space ls (n + size t) (counted t k) cs (past t n k q))
