-- How the logic tells terms apart: a term is coded by the number of its form and the codes of its parts.
use Rattle.std.proofs.Common.{◌≡◌, ℕ, ℤ, List, [], ◌∷◌, ap, arith}
use Rattle.std.specs.Coded.{Coded, coded_ℕ, coded_ℤ, coded_bool, coded_list}
use base.Stored.{Gv, gnil, gnum, gcons, num}
use Rattle.sj_names.specs.contracts.method_names.MethodName as method_name
use Rattle.sj_names.specs.contracts.method_names.Namespace as namespace
use Rattle.sj_names.specs.contracts.references.ArrayRef as array_ref
use Rattle.sj_names.specs.declared.method_names.MethodName.{MethodName}
use Rattle.sj_names.specs.declared.method_names.Namespace.{Namespace}
use Rattle.sj_names.specs.declared.references.ArrayRef.{ArrayRef}
use Rattle.sj_trees.specs.contracts.operators.BinaryOp as binary
use Rattle.sj_trees.specs.contracts.operators.UnaryOp as unary
use Rattle.sj_trees.specs.contracts.positions.Position as position
use Rattle.sj_trees.specs.contracts.types.IrType as ir_type
use Rattle.sj_trees.specs.declared.operators.BinaryOp.{BinaryOp}
use Rattle.sj_trees.specs.declared.operators.UnaryOp.{UnaryOp}
use Rattle.sj_trees.specs.declared.positions.Position.{Position}
use Rattle.sj_trees.specs.declared.types.IrType.{IrType}
use Rattle.sj_trees.specs.Term.{Term, Terms, Cases, no_terms, more_terms, no_cases, more_cases, var_def, skip, block_of, labeled, assign, return_to, if_then, while_loop, do_while, try_catch, try_finally, throw, match_on, new_object, load_module, store_module, select, select_static, apply, apply_statically, apply_static, unary_op, binary_op, new_array, array_value, array_length, array_select, is_instance_of, as_instance_of, undefined_literal, null_literal, boolean_literal, char_literal, byte_literal, short_literal, int_literal, long_literal, string_literal, var_ref, this_ref, log_line}

-- the codes of what a term holds
abbrev texts : Coded (List ℕ)
texts = coded_list coded_ℕ

abbrev key_lists : Coded (List ℤ)
key_lists = coded_list coded_ℤ

abbrev places : Coded Position
places = position.the_row.coded

abbrev types : Coded IrType
types = ir_type.the_row.coded

abbrev methods : Coded MethodName
methods = method_name.the_row.coded

abbrev namespaces : Coded Namespace
namespaces = namespace.the_row.coded

abbrev arrays : Coded ArrayRef
arrays = array_ref.the_row.coded

abbrev unaries : Coded UnaryOp
unaries = unary.the_row.coded

abbrev binaries : Coded BinaryOp
binaries = binary.the_row.coded

-- codes in a row
abbrev row : List Gv → Gv
row [] = gnil
row (g ∷ gs) = gcons g (row gs)

abbrev mutual
  -- the code of a term
  code_of : Term → Gv
  code_of (var_def p x t b e1) = row (gnum 1 ∷ places.code p ∷ texts.code x ∷ types.code t ∷ coded_bool.code b ∷ code_of e1 ∷ [])
  code_of (skip p) = row (gnum 2 ∷ places.code p ∷ [])
  code_of (block_of p es) = row (gnum 3 ∷ places.code p ∷ code_of_all es ∷ [])
  code_of (labeled p l t e1) = row (gnum 4 ∷ places.code p ∷ texts.code l ∷ types.code t ∷ code_of e1 ∷ [])
  code_of (assign p e1 e2) = row (gnum 5 ∷ places.code p ∷ code_of e1 ∷ code_of e2 ∷ [])
  code_of (return_to p e1 l) = row (gnum 6 ∷ places.code p ∷ code_of e1 ∷ texts.code l ∷ [])
  code_of (if_then p e1 e2 e3 t) = row (gnum 7 ∷ places.code p ∷ code_of e1 ∷ code_of e2 ∷ code_of e3 ∷ types.code t ∷ [])
  code_of (while_loop p e1 e2) = row (gnum 8 ∷ places.code p ∷ code_of e1 ∷ code_of e2 ∷ [])
  code_of (do_while p e1 e2) = row (gnum 9 ∷ places.code p ∷ code_of e1 ∷ code_of e2 ∷ [])
  code_of (try_catch p e1 x e2 t) = row (gnum 10 ∷ places.code p ∷ code_of e1 ∷ texts.code x ∷ code_of e2 ∷ types.code t ∷ [])
  code_of (try_finally p e1 e2) = row (gnum 11 ∷ places.code p ∷ code_of e1 ∷ code_of e2 ∷ [])
  code_of (throw p e1) = row (gnum 12 ∷ places.code p ∷ code_of e1 ∷ [])
  code_of (match_on p e1 cs e2 t) = row (gnum 13 ∷ places.code p ∷ code_of e1 ∷ code_of_cases cs ∷ code_of e2 ∷ types.code t ∷ [])
  code_of (new_object p c m es) = row (gnum 14 ∷ places.code p ∷ texts.code c ∷ methods.code m ∷ code_of_all es ∷ [])
  code_of (load_module p c) = row (gnum 15 ∷ places.code p ∷ texts.code c ∷ [])
  code_of (store_module p c e1) = row (gnum 16 ∷ places.code p ∷ texts.code c ∷ code_of e1 ∷ [])
  code_of (select p e1 c f t) = row (gnum 17 ∷ places.code p ∷ code_of e1 ∷ texts.code c ∷ texts.code f ∷ types.code t ∷ [])
  code_of (select_static p c f t) = row (gnum 18 ∷ places.code p ∷ texts.code c ∷ texts.code f ∷ types.code t ∷ [])
  code_of (apply p e1 m es t) = row (gnum 19 ∷ places.code p ∷ code_of e1 ∷ methods.code m ∷ code_of_all es ∷ types.code t ∷ [])
  code_of (apply_statically p e1 c n m es t) = row (gnum 20 ∷ places.code p ∷ code_of e1 ∷ texts.code c ∷ namespaces.code n ∷ methods.code m ∷ code_of_all es ∷ types.code t ∷ [])
  code_of (apply_static p c n m es t) = row (gnum 21 ∷ places.code p ∷ texts.code c ∷ namespaces.code n ∷ methods.code m ∷ code_of_all es ∷ types.code t ∷ [])
  code_of (unary_op p o e1) = row (gnum 22 ∷ places.code p ∷ unaries.code o ∷ code_of e1 ∷ [])
  code_of (binary_op p o e1 e2) = row (gnum 23 ∷ places.code p ∷ binaries.code o ∷ code_of e1 ∷ code_of e2 ∷ [])
  code_of (new_array p r e1) = row (gnum 24 ∷ places.code p ∷ arrays.code r ∷ code_of e1 ∷ [])
  code_of (array_value p r es) = row (gnum 25 ∷ places.code p ∷ arrays.code r ∷ code_of_all es ∷ [])
  code_of (array_length p e1) = row (gnum 26 ∷ places.code p ∷ code_of e1 ∷ [])
  code_of (array_select p e1 e2 t) = row (gnum 27 ∷ places.code p ∷ code_of e1 ∷ code_of e2 ∷ types.code t ∷ [])
  code_of (is_instance_of p e1 t) = row (gnum 28 ∷ places.code p ∷ code_of e1 ∷ types.code t ∷ [])
  code_of (as_instance_of p e1 t) = row (gnum 29 ∷ places.code p ∷ code_of e1 ∷ types.code t ∷ [])
  code_of (undefined_literal p) = row (gnum 30 ∷ places.code p ∷ [])
  code_of (null_literal p) = row (gnum 31 ∷ places.code p ∷ [])
  code_of (boolean_literal p b) = row (gnum 32 ∷ places.code p ∷ coded_bool.code b ∷ [])
  code_of (char_literal p v) = row (gnum 33 ∷ places.code p ∷ coded_ℕ.code v ∷ [])
  code_of (byte_literal p v) = row (gnum 34 ∷ places.code p ∷ coded_ℤ.code v ∷ [])
  code_of (short_literal p v) = row (gnum 35 ∷ places.code p ∷ coded_ℤ.code v ∷ [])
  code_of (int_literal p v) = row (gnum 36 ∷ places.code p ∷ coded_ℤ.code v ∷ [])
  code_of (long_literal p v) = row (gnum 37 ∷ places.code p ∷ coded_ℤ.code v ∷ [])
  code_of (string_literal p u) = row (gnum 38 ∷ places.code p ∷ texts.code u ∷ [])
  code_of (var_ref p x t) = row (gnum 39 ∷ places.code p ∷ texts.code x ∷ types.code t ∷ [])
  code_of (this_ref p t) = row (gnum 40 ∷ places.code p ∷ types.code t ∷ [])
  code_of (log_line p e1) = row (gnum 41 ∷ places.code p ∷ code_of e1 ∷ [])

  -- the code of a list of terms
  code_of_all : Terms → Gv
  code_of_all no_terms = gnil
  code_of_all (more_terms e es) = gcons (code_of e) (code_of_all es)

  -- the code of the cases of a match
  code_of_cases : Cases → Gv
  code_of_cases no_cases = gnil
  code_of_cases (more_cases keys e cs) = gcons (key_lists.code keys) (gcons (code_of e) (code_of_cases cs))

-- the front of a pair
abbrev head : Gv → Gv
head gnil = gnil
head (gnum n) = gnil
head (gcons a b) = a

-- the rest of a pair
abbrev tail : Gv → Gv
tail gnil = gnil
tail (gnum n) = gnil
tail (gcons a b) = b

-- whether a code is a pair
abbrev pairs : Gv → ℕ
pairs gnil = 0
pairs (gnum n) = 0
pairs (gcons a b) = 1

-- the number of the form
abbrev form : Gv → ℕ
form g = num (head g)

-- the parts of the form
abbrev first : Gv → Gv
first g = head (tail g)

abbrev second : Gv → Gv
second g = head (tail (tail g))

abbrev third : Gv → Gv
third g = head (tail (tail (tail g)))

abbrev fourth : Gv → Gv
fourth g = head (tail (tail (tail (tail g))))

abbrev fifth : Gv → Gv
fifth g = head (tail (tail (tail (tail (tail g)))))

abbrev sixth : Gv → Gv
sixth g = head (tail (tail (tail (tail (tail (tail g))))))

abbrev seventh : Gv → Gv
seventh g = head (tail (tail (tail (tail (tail (tail (tail g)))))))

mutual
  pub inj : (x y : Term) → code_of x ≡ code_of y → x ≡ y
  inj (var_def p0 x0 t0 b0 e1a) (var_def p1 x1 t1 b1 e1b) q = λ i. var_def (places.inj p0 p1 (ap first q) i) (texts.inj x0 x1 (ap second q) i) (types.inj t0 t1 (ap third q) i) (coded_bool.inj b0 b1 (ap fourth q) i) (inj e1a e1b (ap fifth q) i)
  inj (skip p0) (skip p1) q = λ i. skip (places.inj p0 p1 (ap first q) i)
  inj (block_of p0 es0) (block_of p1 es1) q = λ i. block_of (places.inj p0 p1 (ap first q) i) (inj_all es0 es1 (ap second q) i)
  inj (labeled p0 l0 t0 e1a) (labeled p1 l1 t1 e1b) q = λ i. labeled (places.inj p0 p1 (ap first q) i) (texts.inj l0 l1 (ap second q) i) (types.inj t0 t1 (ap third q) i) (inj e1a e1b (ap fourth q) i)
  inj (assign p0 e1a e2a) (assign p1 e1b e2b) q = λ i. assign (places.inj p0 p1 (ap first q) i) (inj e1a e1b (ap second q) i) (inj e2a e2b (ap third q) i)
  inj (return_to p0 e1a l0) (return_to p1 e1b l1) q = λ i. return_to (places.inj p0 p1 (ap first q) i) (inj e1a e1b (ap second q) i) (texts.inj l0 l1 (ap third q) i)
  inj (if_then p0 e1a e2a e3a t0) (if_then p1 e1b e2b e3b t1) q = λ i. if_then (places.inj p0 p1 (ap first q) i) (inj e1a e1b (ap second q) i) (inj e2a e2b (ap third q) i) (inj e3a e3b (ap fourth q) i) (types.inj t0 t1 (ap fifth q) i)
  inj (while_loop p0 e1a e2a) (while_loop p1 e1b e2b) q = λ i. while_loop (places.inj p0 p1 (ap first q) i) (inj e1a e1b (ap second q) i) (inj e2a e2b (ap third q) i)
  inj (do_while p0 e1a e2a) (do_while p1 e1b e2b) q = λ i. do_while (places.inj p0 p1 (ap first q) i) (inj e1a e1b (ap second q) i) (inj e2a e2b (ap third q) i)
  inj (try_catch p0 e1a x0 e2a t0) (try_catch p1 e1b x1 e2b t1) q = λ i. try_catch (places.inj p0 p1 (ap first q) i) (inj e1a e1b (ap second q) i) (texts.inj x0 x1 (ap third q) i) (inj e2a e2b (ap fourth q) i) (types.inj t0 t1 (ap fifth q) i)
  inj (try_finally p0 e1a e2a) (try_finally p1 e1b e2b) q = λ i. try_finally (places.inj p0 p1 (ap first q) i) (inj e1a e1b (ap second q) i) (inj e2a e2b (ap third q) i)
  inj (throw p0 e1a) (throw p1 e1b) q = λ i. throw (places.inj p0 p1 (ap first q) i) (inj e1a e1b (ap second q) i)
  inj (match_on p0 e1a cs0 e2a t0) (match_on p1 e1b cs1 e2b t1) q = λ i. match_on (places.inj p0 p1 (ap first q) i) (inj e1a e1b (ap second q) i) (inj_cases cs0 cs1 (ap third q) i) (inj e2a e2b (ap fourth q) i) (types.inj t0 t1 (ap fifth q) i)
  inj (new_object p0 c0 m0 es0) (new_object p1 c1 m1 es1) q = λ i. new_object (places.inj p0 p1 (ap first q) i) (texts.inj c0 c1 (ap second q) i) (methods.inj m0 m1 (ap third q) i) (inj_all es0 es1 (ap fourth q) i)
  inj (load_module p0 c0) (load_module p1 c1) q = λ i. load_module (places.inj p0 p1 (ap first q) i) (texts.inj c0 c1 (ap second q) i)
  inj (store_module p0 c0 e1a) (store_module p1 c1 e1b) q = λ i. store_module (places.inj p0 p1 (ap first q) i) (texts.inj c0 c1 (ap second q) i) (inj e1a e1b (ap third q) i)
  inj (select p0 e1a c0 f0 t0) (select p1 e1b c1 f1 t1) q = λ i. select (places.inj p0 p1 (ap first q) i) (inj e1a e1b (ap second q) i) (texts.inj c0 c1 (ap third q) i) (texts.inj f0 f1 (ap fourth q) i) (types.inj t0 t1 (ap fifth q) i)
  inj (select_static p0 c0 f0 t0) (select_static p1 c1 f1 t1) q = λ i. select_static (places.inj p0 p1 (ap first q) i) (texts.inj c0 c1 (ap second q) i) (texts.inj f0 f1 (ap third q) i) (types.inj t0 t1 (ap fourth q) i)
  inj (apply p0 e1a m0 es0 t0) (apply p1 e1b m1 es1 t1) q = λ i. apply (places.inj p0 p1 (ap first q) i) (inj e1a e1b (ap second q) i) (methods.inj m0 m1 (ap third q) i) (inj_all es0 es1 (ap fourth q) i) (types.inj t0 t1 (ap fifth q) i)
  inj (apply_statically p0 e1a c0 n0 m0 es0 t0) (apply_statically p1 e1b c1 n1 m1 es1 t1) q = λ i. apply_statically (places.inj p0 p1 (ap first q) i) (inj e1a e1b (ap second q) i) (texts.inj c0 c1 (ap third q) i) (namespaces.inj n0 n1 (ap fourth q) i) (methods.inj m0 m1 (ap fifth q) i) (inj_all es0 es1 (ap sixth q) i) (types.inj t0 t1 (ap seventh q) i)
  inj (apply_static p0 c0 n0 m0 es0 t0) (apply_static p1 c1 n1 m1 es1 t1) q = λ i. apply_static (places.inj p0 p1 (ap first q) i) (texts.inj c0 c1 (ap second q) i) (namespaces.inj n0 n1 (ap third q) i) (methods.inj m0 m1 (ap fourth q) i) (inj_all es0 es1 (ap fifth q) i) (types.inj t0 t1 (ap sixth q) i)
  inj (unary_op p0 o0 e1a) (unary_op p1 o1 e1b) q = λ i. unary_op (places.inj p0 p1 (ap first q) i) (unaries.inj o0 o1 (ap second q) i) (inj e1a e1b (ap third q) i)
  inj (binary_op p0 o0 e1a e2a) (binary_op p1 o1 e1b e2b) q = λ i. binary_op (places.inj p0 p1 (ap first q) i) (binaries.inj o0 o1 (ap second q) i) (inj e1a e1b (ap third q) i) (inj e2a e2b (ap fourth q) i)
  inj (new_array p0 r0 e1a) (new_array p1 r1 e1b) q = λ i. new_array (places.inj p0 p1 (ap first q) i) (arrays.inj r0 r1 (ap second q) i) (inj e1a e1b (ap third q) i)
  inj (array_value p0 r0 es0) (array_value p1 r1 es1) q = λ i. array_value (places.inj p0 p1 (ap first q) i) (arrays.inj r0 r1 (ap second q) i) (inj_all es0 es1 (ap third q) i)
  inj (array_length p0 e1a) (array_length p1 e1b) q = λ i. array_length (places.inj p0 p1 (ap first q) i) (inj e1a e1b (ap second q) i)
  inj (array_select p0 e1a e2a t0) (array_select p1 e1b e2b t1) q = λ i. array_select (places.inj p0 p1 (ap first q) i) (inj e1a e1b (ap second q) i) (inj e2a e2b (ap third q) i) (types.inj t0 t1 (ap fourth q) i)
  inj (is_instance_of p0 e1a t0) (is_instance_of p1 e1b t1) q = λ i. is_instance_of (places.inj p0 p1 (ap first q) i) (inj e1a e1b (ap second q) i) (types.inj t0 t1 (ap third q) i)
  inj (as_instance_of p0 e1a t0) (as_instance_of p1 e1b t1) q = λ i. as_instance_of (places.inj p0 p1 (ap first q) i) (inj e1a e1b (ap second q) i) (types.inj t0 t1 (ap third q) i)
  inj (undefined_literal p0) (undefined_literal p1) q = λ i. undefined_literal (places.inj p0 p1 (ap first q) i)
  inj (null_literal p0) (null_literal p1) q = λ i. null_literal (places.inj p0 p1 (ap first q) i)
  inj (boolean_literal p0 b0) (boolean_literal p1 b1) q = λ i. boolean_literal (places.inj p0 p1 (ap first q) i) (coded_bool.inj b0 b1 (ap second q) i)
  inj (char_literal p0 v0) (char_literal p1 v1) q = λ i. char_literal (places.inj p0 p1 (ap first q) i) (coded_ℕ.inj v0 v1 (ap second q) i)
  inj (byte_literal p0 v0) (byte_literal p1 v1) q = λ i. byte_literal (places.inj p0 p1 (ap first q) i) (coded_ℤ.inj v0 v1 (ap second q) i)
  inj (short_literal p0 v0) (short_literal p1 v1) q = λ i. short_literal (places.inj p0 p1 (ap first q) i) (coded_ℤ.inj v0 v1 (ap second q) i)
  inj (int_literal p0 v0) (int_literal p1 v1) q = λ i. int_literal (places.inj p0 p1 (ap first q) i) (coded_ℤ.inj v0 v1 (ap second q) i)
  inj (long_literal p0 v0) (long_literal p1 v1) q = λ i. long_literal (places.inj p0 p1 (ap first q) i) (coded_ℤ.inj v0 v1 (ap second q) i)
  inj (string_literal p0 u0) (string_literal p1 u1) q = λ i. string_literal (places.inj p0 p1 (ap first q) i) (texts.inj u0 u1 (ap second q) i)
  inj (var_ref p0 x0 t0) (var_ref p1 x1 t1) q = λ i. var_ref (places.inj p0 p1 (ap first q) i) (texts.inj x0 x1 (ap second q) i) (types.inj t0 t1 (ap third q) i)
  inj (this_ref p0 t0) (this_ref p1 t1) q = λ i. this_ref (places.inj p0 p1 (ap first q) i) (types.inj t0 t1 (ap second q) i)
  inj (log_line p0 e1a) (log_line p1 e1b) q = λ i. log_line (places.inj p0 p1 (ap first q) i) (inj e1a e1b (ap second q) i)
  inj x y q = absurd (omega (arith, ap form q))

  pub inj_all : (x y : Terms) → code_of_all x ≡ code_of_all y → x ≡ y
  inj_all no_terms no_terms q = λ i. no_terms
  inj_all (more_terms e es) (more_terms d ds) q = λ i. more_terms (inj e d (ap head q) i) (inj_all es ds (ap tail q) i)
  inj_all x y q = absurd (omega (arith, ap pairs q))

  pub inj_cases : (x y : Cases) → code_of_cases x ≡ code_of_cases y → x ≡ y
  inj_cases no_cases no_cases q = λ i. no_cases
  inj_cases (more_cases j e cs) (more_cases k d ds) q =
      λ i. more_cases (key_lists.inj j k (ap head q) i) (inj e d (ap first q) i) (inj_cases cs ds (ap (λ g. tail (tail g)) q) i)
  inj_cases x y q = absurd (omega (arith, ap pairs q))

-- different terms have different codes
abbrev pub term_code : Coded Term
term_code = record { code = code_of; inj = inj }
