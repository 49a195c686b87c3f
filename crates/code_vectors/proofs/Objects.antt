-- A body that has nothing to do with objects has no field but those of objects.
use Rattle.std.proofs.Common.{◌≡◌, true, ◌&&◌, [], ◌∷◌, Option, Some, None}
use Rattle.std.proofs.lemmas.Bool.{and_parts}
use Rattle.code_vectors.specs.Forms.{is_static, are_static, are_static_cases, is_static_body}
use Rattle.sj_names.proofs.Same.{impossible}
use Rattle.sj_emit_expr_pieces.specs.Owners.{OnObjects, AllOnObjects, CasesOnObjects, BodyOnObjects}
use Rattle.sj_trees.specs.Term.{Term, Terms, no_terms, more_terms, Cases, no_cases, more_cases, var_def, skip, block_of, labeled, assign, return_to, if_then, while_loop, do_while, match_on, select, select_static, apply_static, unary_op, binary_op, array_select, undefined_literal, null_literal, boolean_literal, char_literal, byte_literal, short_literal, int_literal, long_literal, string_literal, var_ref, log_line}
use Rattle.sj_trees.specs.declared.positions.Position.{Position}

assigned : (t e : Term) → is_static t ≡ true → OnObjects e → (p : Position) → OnObjects (assign p t e)
assigned (var_ref q x t) e h k p = k
assigned (select q d c f t) e h k p = impossible h
assigned (select_static q c f t) e h k p = k
assigned (array_select q d i t) e h k p = impossible h
assigned _ e h k p = tt

mutual
  on_objects : (t : Term) → is_static t ≡ true → OnObjects t
  on_objects (var_def p x t b e) h = on_objects e h
  on_objects (block_of p ts) h = all_on_objects ts h
  on_objects (labeled p l t e) h = on_objects e h
  on_objects (assign p e d) h = let q = and_parts (is_static e) (is_static d) h in assigned e d q.0 (on_objects d q.1) p
  on_objects (return_to p e l) h = on_objects e h
  on_objects (if_then p c a b t) h =
      let q = and_parts (is_static c) (is_static a && is_static b) h in
      let r = and_parts (is_static a) (is_static b) q.1 in
      (on_objects c q.0, on_objects a r.0, on_objects b r.1)
  on_objects (while_loop p c b) h = let q = and_parts (is_static c) (is_static b) h in (on_objects c q.0, on_objects b q.1)
  on_objects (do_while p b c) h = let q = and_parts (is_static b) (is_static c) h in (on_objects b q.0, on_objects c q.1)
  on_objects (match_on p e cs d t) h =
      let q = and_parts (is_static e) (are_static_cases cs && is_static d) h in
      let r = and_parts (are_static_cases cs) (is_static d) q.1 in
      (on_objects e q.0, cases_on_objects cs r.0, on_objects d r.1)
  on_objects (apply_static p c n m ts t) h = all_on_objects ts h
  on_objects (unary_op p o e) h = on_objects e h
  on_objects (binary_op p o e d) h = let q = and_parts (is_static e) (is_static d) h in (on_objects e q.0, on_objects d q.1)
  on_objects (log_line p e) h = on_objects e h
  on_objects (skip p) h = tt
  on_objects (undefined_literal p) h = tt
  on_objects (null_literal p) h = tt
  on_objects (boolean_literal p b) h = tt
  on_objects (char_literal p u) h = tt
  on_objects (byte_literal p z) h = tt
  on_objects (short_literal p z) h = tt
  on_objects (int_literal p z) h = tt
  on_objects (long_literal p z) h = tt
  on_objects (string_literal p us) h = tt
  on_objects (var_ref p x t) h = tt
  on_objects _ h = impossible h

  all_on_objects : (ts : Terms) → are_static ts ≡ true → AllOnObjects ts
  all_on_objects no_terms h = tt
  all_on_objects (more_terms t ts) h = let q = and_parts (is_static t) (are_static ts) h in (on_objects t q.0, all_on_objects ts q.1)

  cases_on_objects : (cs : Cases) → are_static_cases cs ≡ true → CasesOnObjects cs
  cases_on_objects no_cases h = tt
  cases_on_objects (more_cases [] t cs) h = cases_on_objects cs (and_parts (is_static t) (are_static_cases cs) h).1
  cases_on_objects (more_cases (k ∷ ks) t cs) h = let q = and_parts (is_static t) (are_static_cases cs) h in (on_objects t q.0, cases_on_objects cs q.1)

pub body_on_objects : (body : Option Term) → is_static_body body ≡ true → BodyOnObjects body
body_on_objects None h = tt
body_on_objects (Some e) h = on_objects e h
