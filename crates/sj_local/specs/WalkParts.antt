-- What a walk over trees keeps, for inner functions.
use Rattle.std.specs.Prelude.{ℕ, ◌+◌, Bool, true, false, List, [], ◌∷◌, ◌++◌, Option, Some, None}
use Rattle.sj_names.specs.declared.method_names.Namespace.{Namespace}
use Rattle.sj_trees.specs.declared.classes.ClassDef.{ClassDef}
use Rattle.sj_trees.specs.declared.classes.MethodDef.{MethodDef}
use Rattle.sj_trees.specs.Term.{Term, Terms, Cases, no_terms, more_terms, no_cases, more_cases, var_def, skip, block_of, labeled, assign, return_to, if_then, while_loop, do_while, try_catch, try_finally, throw, match_on, new_object, load_module, store_module, select, select_static, apply, apply_statically, apply_static, unary_op, binary_op, new_array, array_value, array_length, array_select, is_instance_of, as_instance_of, undefined_literal, null_literal, boolean_literal, char_literal, byte_literal, short_literal, int_literal, long_literal, string_literal, var_ref, this_ref, log_line}
use Rattle.sj_local.specs.declared.walks.Local.{Local}
use Rattle.sj_local.specs.declared.walks.Declared.{Declared}
use Rattle.sj_local.specs.declared.walks.Walk.{Walk}
use Rattle.sj_local.specs.declared.findings.Judgement.{Judgement}
use Rattle.sj_local.specs.declared.findings.Findings.{Findings}
use Rattle.sj_local.specs.declared.rules.Rule.TheVariants as rules
use Rattle.sj_local.specs.Firsts.{in_32_bits}
use Rattle.sj_local.specs.Nodes.{Context, Node, node, inside, in_a_block, with_local, with_label, caught, defined, behind}
use Rattle.sj_local.specs.TreeRules.{breaks, method_nodes, declared_by}

-- which rules a tree breaks where it stands
abbrev pub judgement : ClassDef → Namespace → Node → Judgement
judgement c space n = record { definition = breaks rules.Definition c space n; variable = breaks rules.Variable c space n; return_label = breaks rules.ReturnLabel c space n; this = breaks rules.This c space n; store_module = breaks rules.StoreModule c space n; target = breaks rules.Target c space n; keys = breaks rules.Keys c space n }

-- a number where there was none yet and the rule is broken
abbrev pub noted : ℕ → Bool → Option ℕ → Option ℕ
noted n broken (Some k) = Some k
noted n true None = Some n
noted n false None = None

abbrev pub with_judgement : ℕ → Judgement → Findings → Findings
with_judgement n j f = record { definition = noted n j.definition f.definition; variable = noted n j.variable f.variable; return_label = noted n j.return_label f.return_label; this = noted n j.this f.this; store_module = noted n j.store_module f.store_module; target = noted n j.target f.target; keys = noted n j.keys f.keys }

-- the first tree that breaks each rule, among trees numbered from n
abbrev pub findings_from : ClassDef → Namespace → ℕ → List Node → Findings → Findings
findings_from c space n [] f = f
findings_from c space n (x ∷ xs) f = findings_from c space (in_32_bits (n + 1)) xs (with_judgement n (judgement c space x) f)

abbrev pub no_findings : Findings
no_findings = record { definition = None; variable = None; return_label = None; this = None; store_module = None; target = None; keys = None }

-- the first tree of a method that breaks each rule
abbrev pub findings_in : ClassDef → MethodDef → Findings
findings_in c m = findings_from c m.namespace 0 (method_nodes m) no_findings

-- where the next tree stands
abbrev pub context : Walk → Bool → Context
context w in_block = record { scope = w.scope.items; labels = w.labels.items; in_block = in_block }

-- what was seen
pub record Trace : Type 0 where
  pub count : ℕ
  pub declared : List Declared
  pub findings : Findings

abbrev pub trace : Walk → Trace
trace w = record { count = w.count; declared = w.declared.items; findings = w.findings }

-- after one tree
unfoldable pub with_node : ClassDef → Namespace → Node → Trace → Trace
with_node owner space n r = record { count = in_32_bits (r.count + 1); declared = r.declared ++ declared_by r.count n.tree; findings = with_judgement r.count (judgement owner space n) r.findings }

abbrev mutual
  -- after the trees in a tree
  pub after_below : ClassDef → Namespace → Context → Term → Trace → Trace
  after_below owner space x (var_def p n t m e) r = after_below owner space x e (with_node owner space (node x e) r)
  after_below owner space x (skip p) r = r
  after_below owner space x (block_of p ts) r = after_statements owner space (in_a_block x) ts r
  after_below owner space x (labeled p l t e) r = after_below owner space (with_label l x) e (with_node owner space (node (with_label l x) e) r)
  after_below owner space x (assign p a b) r = after_below owner space x b (with_node owner space (node x b) (after_below owner space x a (with_node owner space (node x a) r)))
  after_below owner space x (return_to p e l) r = after_below owner space x e (with_node owner space (node x e) r)
  after_below owner space x (if_then p c a b t) r = after_below owner space x b (with_node owner space (node x b) (after_below owner space x a (with_node owner space (node x a) (after_below owner space x c (with_node owner space (node x c) r)))))
  after_below owner space x (while_loop p c b) r = after_below owner space x b (with_node owner space (node x b) (after_below owner space x c (with_node owner space (node x c) r)))
  after_below owner space x (do_while p b c) r = after_below owner space x c (with_node owner space (node x c) (after_below owner space x b (with_node owner space (node x b) r)))
  after_below owner space x (try_catch p b n h t) r = after_below owner space (with_local (caught n) x) h (with_node owner space (node (with_local (caught n) x) h) (after_below owner space x b (with_node owner space (node x b) r)))
  after_below owner space x (try_finally p b f) r = after_below owner space x f (with_node owner space (node x f) (after_below owner space x b (with_node owner space (node x b) r)))
  after_below owner space x (throw p e) r = after_below owner space x e (with_node owner space (node x e) r)
  after_below owner space x (match_on p s cs d t) r = after_below owner space x d (with_node owner space (node x d) (after_cases owner space x cs (after_below owner space x s (with_node owner space (node x s) r))))
  after_below owner space x (new_object p c m ts) r = after_all owner space x ts r
  after_below owner space x (load_module p c) r = r
  after_below owner space x (store_module p c e) r = after_below owner space x e (with_node owner space (node x e) r)
  after_below owner space x (select p e c f t) r = after_below owner space x e (with_node owner space (node x e) r)
  after_below owner space x (select_static p c f t) r = r
  after_below owner space x (apply p e m ts t) r = after_all owner space x ts (after_below owner space x e (with_node owner space (node x e) r))
  after_below owner space x (apply_statically p e c n m ts t) r = after_all owner space x ts (after_below owner space x e (with_node owner space (node x e) r))
  after_below owner space x (apply_static p c n m ts t) r = after_all owner space x ts r
  after_below owner space x (unary_op p o e) r = after_below owner space x e (with_node owner space (node x e) r)
  after_below owner space x (binary_op p o a b) r = after_below owner space x b (with_node owner space (node x b) (after_below owner space x a (with_node owner space (node x a) r)))
  after_below owner space x (new_array p array e) r = after_below owner space x e (with_node owner space (node x e) r)
  after_below owner space x (array_value p array ts) r = after_all owner space x ts r
  after_below owner space x (array_length p e) r = after_below owner space x e (with_node owner space (node x e) r)
  after_below owner space x (array_select p a i t) r = after_below owner space x i (with_node owner space (node x i) (after_below owner space x a (with_node owner space (node x a) r)))
  after_below owner space x (is_instance_of p e t) r = after_below owner space x e (with_node owner space (node x e) r)
  after_below owner space x (as_instance_of p e t) r = after_below owner space x e (with_node owner space (node x e) r)
  after_below owner space x (undefined_literal p) r = r
  after_below owner space x (null_literal p) r = r
  after_below owner space x (boolean_literal p b) r = r
  after_below owner space x (char_literal p n) r = r
  after_below owner space x (byte_literal p z) r = r
  after_below owner space x (short_literal p z) r = r
  after_below owner space x (int_literal p z) r = r
  after_below owner space x (long_literal p z) r = r
  after_below owner space x (string_literal p us) r = r
  after_below owner space x (var_ref p n t) r = r
  after_below owner space x (this_ref p t) r = r
  after_below owner space x (log_line p e) r = after_below owner space x e (with_node owner space (node x e) r)

  pub after_statements : ClassDef → Namespace → Context → Terms → Trace → Trace
  after_statements owner space x no_terms r = r
  after_statements owner space x (more_terms t ts) r = after_statements owner space (behind t x) ts (after_below owner space (inside x) t (with_node owner space (node x t) r))

  pub after_all : ClassDef → Namespace → Context → Terms → Trace → Trace
  after_all owner space x no_terms r = r
  after_all owner space x (more_terms t ts) r = after_all owner space x ts (after_below owner space x t (with_node owner space (node x t) r))

  pub after_cases : ClassDef → Namespace → Context → Cases → Trace → Trace
  after_cases owner space x no_cases r = r
  after_cases owner space x (more_cases ks t cs) r = after_cases owner space x cs (after_below owner space x t (with_node owner space (node x t) r))

-- after a tree and those in it
abbrev pub after : ClassDef → Namespace → Context → Term → Trace → Trace
after owner space x t r = after_below owner space (inside x) t (with_node owner space (node x t) r)

-- what statements define
abbrev pub all_defined : Terms → List Local
all_defined no_terms = []
all_defined (more_terms t ts) = defined t ++ all_defined ts
