-- When a method is typed in a world, and what fails first where it isn't.
use Rattle.std.specs.Prelude.{◌≡◌, ℕ, List, [], ◌∷◌, ◌++◌, Some}
use Rattle.std.specs.List.{All}
use Rattle.sj_names.specs.declared.method_names.Namespace.{Namespace}
use Rattle.sj_trees.specs.declared.classes.MethodDef.{MethodDef}
use Rattle.sj_trees.specs.Forms.{form_code, form_of}
use Rattle.sj_trees.specs.Term.{Term, var_def, skip, block_of, labeled, assign, return_to, if_then, while_loop, do_while, try_catch, try_finally, throw, match_on, new_object, load_module, store_module, select, select_static, apply, apply_statically, apply_static, unary_op, binary_op, new_array, array_value, array_length, array_select, is_instance_of, as_instance_of, undefined_literal, null_literal, boolean_literal, char_literal, byte_literal, short_literal, int_literal, long_literal, string_literal, var_ref, this_ref, log_line}
use Rattle.sj_ask.specs.Known.{Classes}
use Rattle.sj_ask.specs.Sizes.{in_32_bits}
use Rattle.sj_typing_spec.specs.Nodes.{Node, nodes}
use Rattle.sj_typing_spec.specs.Rules.{Meets, Yields}

-- the tag of a tree's form
abbrev pub tag : Term → ℕ
tag t = form_code (form_of t)

-- the tree meets the rule of its form where it stands
abbrev pub MeetsThere : Classes → Namespace → Node → Type 0
MeetsThere w space x = Meets w space x.labels x.tree

-- the method has a body in which every tree meets the rule of its form, and which yields the method's result
pub record IsTyped (w : Classes) (m : MethodDef) : Type 0 where
  pub body : Term
  pub has_body : m.body ≡ Some body
  pub met : All (MeetsThere w m.namespace) (nodes [] 0 body)
  pub yields : Yields w body m.result

-- the first tree that doesn't meet its rule: those before it, children before parents and left to right, do
pub record FailsAt (w : Classes) (space : Namespace) (all : List Node) (x : Node) : Type 0 where
  pub before : List Node
  pub behind : List Node
  pub parts : all ≡ before ++ x ∷ behind
  pub met : All (MeetsThere w space) before
  pub fails : MeetsThere w space x → ⊥

-- what fails first: a tree, with the tag of its form and its number, of which those past 32 bits are given as the last; or, where every tree
-- meets its rule, that the body doesn't yield the result
pub data FirstUntyped (w : Classes) (m : MethodDef) (body : Term) : ℕ → ℕ → Type 0 where
  a_tree : (x : Node) → FailsAt w m.namespace (nodes [] 0 body) x → FirstUntyped w m body (tag x.tree) (in_32_bits x.number)
  the_body : All (MeetsThere w m.namespace) (nodes [] 0 body) → (Yields w body m.result → ⊥) → FirstUntyped w m body 0 0

pub record IsUntyped (w : Classes) (m : MethodDef) (rule place : ℕ) : Type 0 where
  pub body : Term
  pub has_body : m.body ≡ Some body
  pub first : FirstUntyped w m body rule place
