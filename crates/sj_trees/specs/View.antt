-- What a contract sees of a tree.
use Rattle.std.specs.Prelude.{ℤ, List, [], ◌∷◌, map}
use Rattle.sj_trees.specs.Term.{Term, Terms, Cases, no_terms, more_terms, no_cases, more_cases, var_def, skip, block_of, labeled, assign, return_to, if_then, while_loop, do_while, try_catch, try_finally, throw, match_on, new_object, load_module, store_module, select, select_static, apply, apply_statically, apply_static, unary_op, binary_op, new_array, array_value, array_length, array_select, is_instance_of, as_instance_of, undefined_literal, null_literal, boolean_literal, char_literal, byte_literal, short_literal, int_literal, long_literal, string_literal, var_ref, this_ref, log_line}
use Rattle.sj_trees.specs.declared.trees.Tree.{Tree}
use Rattle.sj_trees.specs.declared.trees.Tree.TheOpen.{Tree-F, MatchCase-F}
use Rattle.sj_trees.specs.declared.trees.Tree.TheFolds.{fold-Tree, fold-MatchCase}
use Rattle.sj_trees.specs.declared.trees.MatchCase.{MatchCase}

-- a case of a match: its keys and its term
abbrev pub Case : Type 0
Case = List ℤ × Term

-- terms in front of others
abbrev pub onto : List Term → Terms → Terms
onto [] us = us
onto (e ∷ es) us = more_terms e (onto es us)

-- the terms of a list
abbrev pub terms_of : List Term → Terms
terms_of es = onto es no_terms

-- cases in front of others
abbrev pub cases_onto : List Case → Cases → Cases
cases_onto [] us = us
cases_onto (c ∷ cs) us = more_cases c.0 c.1 (cases_onto cs us)

-- the cases of a list
abbrev pub cases_of : List Case → Cases
cases_of cs = cases_onto cs no_cases

-- the term of one form, whose parts are terms already
abbrev pub view_step : Tree-F Term Case → Term
view_step (Tree-F.VarDef p x t b e1) = var_def p x t b e1.value
view_step (Tree-F.Skip p) = skip p
view_step (Tree-F.Block p es) = block_of p (terms_of es.items)
view_step (Tree-F.Labeled p l t e1) = labeled p l t e1.value
view_step (Tree-F.Assign p e1 e2) = assign p e1.value e2.value
view_step (Tree-F.Return p e1 l) = return_to p e1.value l
view_step (Tree-F.If p e1 e2 e3 t) = if_then p e1.value e2.value e3.value t
view_step (Tree-F.While p e1 e2) = while_loop p e1.value e2.value
view_step (Tree-F.DoWhile p e1 e2) = do_while p e1.value e2.value
view_step (Tree-F.TryCatch p e1 x e2 t) = try_catch p e1.value x e2.value t
view_step (Tree-F.TryFinally p e1 e2) = try_finally p e1.value e2.value
view_step (Tree-F.Throw p e1) = throw p e1.value
view_step (Tree-F.Match p e1 cs e2 t) = match_on p e1.value (cases_of cs.items) e2.value t
view_step (Tree-F.New p c m es) = new_object p c m (terms_of es.items)
view_step (Tree-F.LoadModule p c) = load_module p c
view_step (Tree-F.StoreModule p c e1) = store_module p c e1.value
view_step (Tree-F.Select p e1 c f t) = select p e1.value c f t
view_step (Tree-F.SelectStatic p c f t) = select_static p c f t
view_step (Tree-F.Apply p e1 m es t) = apply p e1.value m (terms_of es.items) t
view_step (Tree-F.ApplyStatically p e1 c n m es t) = apply_statically p e1.value c n m (terms_of es.items) t
view_step (Tree-F.ApplyStatic p c n m es t) = apply_static p c n m (terms_of es.items) t
view_step (Tree-F.UnaryOp p o e1) = unary_op p o e1.value
view_step (Tree-F.BinaryOp p o e1 e2) = binary_op p o e1.value e2.value
view_step (Tree-F.NewArray p r e1) = new_array p r e1.value
view_step (Tree-F.ArrayValue p r es) = array_value p r (terms_of es.items)
view_step (Tree-F.ArrayLength p e1) = array_length p e1.value
view_step (Tree-F.ArraySelect p e1 e2 t) = array_select p e1.value e2.value t
view_step (Tree-F.IsInstanceOf p e1 t) = is_instance_of p e1.value t
view_step (Tree-F.AsInstanceOf p e1 t) = as_instance_of p e1.value t
view_step (Tree-F.Undefined p) = undefined_literal p
view_step (Tree-F.Null p) = null_literal p
view_step (Tree-F.BooleanLiteral p b) = boolean_literal p b
view_step (Tree-F.CharLiteral p v) = char_literal p v
view_step (Tree-F.ByteLiteral p v) = byte_literal p v
view_step (Tree-F.ShortLiteral p v) = short_literal p v
view_step (Tree-F.IntLiteral p v) = int_literal p v
view_step (Tree-F.LongLiteral p v) = long_literal p v
view_step (Tree-F.StringLiteral p u) = string_literal p u
view_step (Tree-F.VarRef p x t) = var_ref p x t
view_step (Tree-F.This p t) = this_ref p t
view_step (Tree-F.Log p e1) = log_line p e1.value

-- a case, whose body is a term already
abbrev pub case_step : MatchCase-F Term Case → Case
case_step c = (c.keys, c.body)

-- the term of a tree: its parts without pointers and capacities
abbrev pub view : Tree → Term
view = fold-Tree Term Case view_step case_step

-- the case of a match's case
abbrev pub view_case : MatchCase → Case
view_case = fold-MatchCase Term Case view_step case_step

-- the terms of trees
abbrev pub terms_view : List Tree → Terms
terms_view es = terms_of (map view es)

-- the cases of a match
abbrev pub cases_view : List MatchCase → Cases
cases_view cs = cases_of (map view_case cs)
