-- The labels that a tree jumps to, by its shape: whether it is a jump or has a label, and the trees in it.
use Rattle.std.specs.Prelude.{ℕ, List, [], ◌∷◌, ◌++◌}
use Rattle.sj_desugar_spec.specs.Finalizers.{if_outside, left_labels, all_left_labels, cases_left_labels}
use Rattle.sj_desugar_finalizers.specs.declared.walks.Jump.{Jump}
use Rattle.sj_desugar_finalizers.specs.declared.walks.Jump.TheVariants as the
use Rattle.sj_trees.specs.Term.{Term, labeled, return_to}
use Rattle.tree_parts.specs.Parts.{TermParts, no_part, one_part, two_parts, three_parts, many_parts, one_and_many, part_and_cases}

-- a jump to a label, a label around what is in the tree, or neither
pub data TermJump : Type 0 where
  to_label : List ℕ → TermJump
  around : List ℕ → TermJump
  no_jump : TermJump

abbrev pub jump_of : Term → TermJump
jump_of (return_to p e l) = to_label l
jump_of (labeled p l t e) = around l
jump_of _ = no_jump

-- what a contract sees of a jump
abbrev pub seen_jump : Jump → TermJump
seen_jump (the.To l) = to_label l.now
seen_jump (the.Around l) = around l.now
seen_jump the.None = no_jump

-- the labels outside to which the trees in a tree jump
abbrev pub left_in_parts : List (List ℕ) → TermParts → List (List ℕ)
left_in_parts inner no_part = []
left_in_parts inner (one_part a) = left_labels inner a
left_in_parts inner (two_parts a b) = left_labels inner a ++ left_labels inner b
left_in_parts inner (three_parts a b c) = left_labels inner a ++ left_labels inner b ++ left_labels inner c
left_in_parts inner (many_parts ts) = all_left_labels inner ts
left_in_parts inner (one_and_many a ts) = left_labels inner a ++ all_left_labels inner ts
left_in_parts inner (part_and_cases a cs b) = left_labels inner a ++ cases_left_labels inner cs ++ left_labels inner b

abbrev pub left_by_shape : TermJump → List (List ℕ) → TermParts → List (List ℕ)
left_by_shape (to_label l) inner parts = if_outside inner l (left_in_parts inner parts)
left_by_shape (around l) inner parts = left_in_parts (l ∷ inner) parts
left_by_shape no_jump inner parts = left_in_parts inner parts
