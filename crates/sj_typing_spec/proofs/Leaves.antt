-- Trees without trees in them.
use Rattle.std.proofs.Common.{◌≡◌, ℕ, Bool, true, List, Ok, sym, ap, ◌∙◌, subst, inl, inr}
use Rattle.std.specs.Prelude.{◌⊎◌, ℤ}
use Rattle.sj_names.specs.declared.method_names.Namespace.{Namespace}
use Rattle.sj_trees.specs.declared.positions.Position.{Position}
use Rattle.sj_trees.specs.declared.types.IrType.{IrType}
use Rattle.sj_trees.specs.declared.trees.Tree.{Tree}
use Rattle.sj_trees.specs.declared.trees.Tree.TheOpen.{Tree-F}
use Rattle.sj_trees.specs.declared.trees.Tree.TheFolds.{fold-roll-Tree}
use Rattle.sj_trees.specs.declared.trees.Tree.TheVariants as tree
use Rattle.sj_trees.specs.Term.{Term, skip, load_module, select_static, undefined_literal, null_literal, boolean_literal, char_literal, byte_literal, short_literal, int_literal, long_literal, string_literal, var_ref, this_ref}
use Rattle.sj_trees.specs.View.{view, view_step, case_step, Case}
use Rattle.sj_ask.specs.declared.questions.Question.{Question}
use Rattle.sj_ask.specs.declared.questions.Answer.{Answer}
use Rattle.sj_ask.specs.Told.{Told}
use Rattle.sj_ask.specs.Tasks.{done}
use Rattle.sj_typing_spec.specs.declared.labels.Label.{Label}
use Rattle.sj_typing_spec.specs.Checks.{Checking, parts_of}
use Rattle.sj_typing_spec.specs.Answered.{AsRun}
use Rattle.sj_typing_spec.proofs.Steps.{as_done}

sees-skip : (t : Tree) (p : Position) → t ≡ tree.Skip p → view t ≡ skip p
sees-skip t p e = ap view (e ∙ sym (tree.rolls-Skip p)) ∙ fold-roll-Tree Term Case view_step case_step (Tree-F.Skip p)

sees-load_module : (t : Tree) (p : Position) (c : List ℕ) → t ≡ tree.LoadModule p c → view t ≡ load_module p c
sees-load_module t p c e = ap view (e ∙ sym (tree.rolls-LoadModule p c)) ∙ fold-roll-Tree Term Case view_step case_step (Tree-F.LoadModule p c)

sees-select_static : (t : Tree) (p : Position) (c name : List ℕ) (tpe : IrType) → t ≡ tree.SelectStatic p c name tpe → view t ≡ select_static p c name tpe
sees-select_static t p c name tpe e = ap view (e ∙ sym (tree.rolls-SelectStatic p c name tpe)) ∙ fold-roll-Tree Term Case view_step case_step (Tree-F.SelectStatic p c name tpe)

sees-undefined_literal : (t : Tree) (p : Position) → t ≡ tree.Undefined p → view t ≡ undefined_literal p
sees-undefined_literal t p e = ap view (e ∙ sym (tree.rolls-Undefined p)) ∙ fold-roll-Tree Term Case view_step case_step (Tree-F.Undefined p)

sees-null_literal : (t : Tree) (p : Position) → t ≡ tree.Null p → view t ≡ null_literal p
sees-null_literal t p e = ap view (e ∙ sym (tree.rolls-Null p)) ∙ fold-roll-Tree Term Case view_step case_step (Tree-F.Null p)

sees-boolean_literal : (t : Tree) (p : Position) (b : Bool) → t ≡ tree.BooleanLiteral p b → view t ≡ boolean_literal p b
sees-boolean_literal t p b e = ap view (e ∙ sym (tree.rolls-BooleanLiteral p b)) ∙ fold-roll-Tree Term Case view_step case_step (Tree-F.BooleanLiteral p b)

sees-char_literal : (t : Tree) (p : Position) (v : ℕ) → t ≡ tree.CharLiteral p v → view t ≡ char_literal p v
sees-char_literal t p v e = ap view (e ∙ sym (tree.rolls-CharLiteral p v)) ∙ fold-roll-Tree Term Case view_step case_step (Tree-F.CharLiteral p v)

sees-byte_literal : (t : Tree) (p : Position) (z : ℤ) → t ≡ tree.ByteLiteral p z → view t ≡ byte_literal p z
sees-byte_literal t p z e = ap view (e ∙ sym (tree.rolls-ByteLiteral p z)) ∙ fold-roll-Tree Term Case view_step case_step (Tree-F.ByteLiteral p z)

sees-short_literal : (t : Tree) (p : Position) (z : ℤ) → t ≡ tree.ShortLiteral p z → view t ≡ short_literal p z
sees-short_literal t p z e = ap view (e ∙ sym (tree.rolls-ShortLiteral p z)) ∙ fold-roll-Tree Term Case view_step case_step (Tree-F.ShortLiteral p z)

sees-int_literal : (t : Tree) (p : Position) (z : ℤ) → t ≡ tree.IntLiteral p z → view t ≡ int_literal p z
sees-int_literal t p z e = ap view (e ∙ sym (tree.rolls-IntLiteral p z)) ∙ fold-roll-Tree Term Case view_step case_step (Tree-F.IntLiteral p z)

sees-long_literal : (t : Tree) (p : Position) (z : ℤ) → t ≡ tree.LongLiteral p z → view t ≡ long_literal p z
sees-long_literal t p z e = ap view (e ∙ sym (tree.rolls-LongLiteral p z)) ∙ fold-roll-Tree Term Case view_step case_step (Tree-F.LongLiteral p z)

sees-string_literal : (t : Tree) (p : Position) (us : List ℕ) → t ≡ tree.StringLiteral p us → view t ≡ string_literal p us
sees-string_literal t p us e = ap view (e ∙ sym (tree.rolls-StringLiteral p us)) ∙ fold-roll-Tree Term Case view_step case_step (Tree-F.StringLiteral p us)

sees-var_ref : (t : Tree) (p : Position) (x : List ℕ) (tpe : IrType) → t ≡ tree.VarRef p x tpe → view t ≡ var_ref p x tpe
sees-var_ref t p x tpe e = ap view (e ∙ sym (tree.rolls-VarRef p x tpe)) ∙ fold-roll-Tree Term Case view_step case_step (Tree-F.VarRef p x tpe)

sees-this_ref : (t : Tree) (p : Position) (tpe : IrType) → t ≡ tree.This p tpe → view t ≡ this_ref p tpe
sees-this_ref t p tpe e = ap view (e ∙ sym (tree.rolls-This p tpe)) ∙ fold-roll-Tree Term Case view_step case_step (Tree-F.This p tpe)

-- a tree of one of these forms
abbrev pub IsLeaf : Tree → Type 0
IsLeaf t = ((p : Position) × t ≡ tree.Skip p) ⊎ (((p : Position) × (c : List ℕ) × t ≡ tree.LoadModule p c) ⊎ (((p : Position) × (c : List ℕ) × (name : List ℕ) × (tpe : IrType) × t ≡ tree.SelectStatic p c name tpe) ⊎ (((p : Position) × t ≡ tree.Undefined p) ⊎ (((p : Position) × t ≡ tree.Null p) ⊎ (((p : Position) × (b : Bool) × t ≡ tree.BooleanLiteral p b) ⊎ (((p : Position) × (v : ℕ) × t ≡ tree.CharLiteral p v) ⊎ (((p : Position) × (z : ℤ) × t ≡ tree.ByteLiteral p z) ⊎ (((p : Position) × (z : ℤ) × t ≡ tree.ShortLiteral p z) ⊎ (((p : Position) × (z : ℤ) × t ≡ tree.IntLiteral p z) ⊎ (((p : Position) × (z : ℤ) × t ≡ tree.LongLiteral p z) ⊎ (((p : Position) × (us : List ℕ) × t ≡ tree.StringLiteral p us) ⊎ (((p : Position) × (x : List ℕ) × (tpe : IrType) × t ≡ tree.VarRef p x tpe) ⊎ (((p : Position) × (tpe : IrType) × t ≡ tree.This p tpe))))))))))))))

-- what is in such a tree asks nothing
leaf-done : (space : Namespace) (ls : List Label) (n : ℕ) (t : Tree) → IsLeaf t → parts_of space ls n (view t) ≡ done true
leaf-done space ls n t (inl a) = ap (parts_of space ls n) (sees-skip t a.0 a.1)
leaf-done space ls n t (inr (inl a)) = ap (parts_of space ls n) (sees-load_module t a.0 a.1 a.2)
leaf-done space ls n t (inr (inr (inl a))) = ap (parts_of space ls n) (sees-select_static t a.0 a.1 a.2 a.3 a.4)
leaf-done space ls n t (inr (inr (inr (inl a)))) = ap (parts_of space ls n) (sees-undefined_literal t a.0 a.1)
leaf-done space ls n t (inr (inr (inr (inr (inl a))))) = ap (parts_of space ls n) (sees-null_literal t a.0 a.1)
leaf-done space ls n t (inr (inr (inr (inr (inr (inl a)))))) = ap (parts_of space ls n) (sees-boolean_literal t a.0 a.1 a.2)
leaf-done space ls n t (inr (inr (inr (inr (inr (inr (inl a))))))) = ap (parts_of space ls n) (sees-char_literal t a.0 a.1 a.2)
leaf-done space ls n t (inr (inr (inr (inr (inr (inr (inr (inl a)))))))) = ap (parts_of space ls n) (sees-byte_literal t a.0 a.1 a.2)
leaf-done space ls n t (inr (inr (inr (inr (inr (inr (inr (inr (inl a))))))))) = ap (parts_of space ls n) (sees-short_literal t a.0 a.1 a.2)
leaf-done space ls n t (inr (inr (inr (inr (inr (inr (inr (inr (inr (inl a)))))))))) = ap (parts_of space ls n) (sees-int_literal t a.0 a.1 a.2)
leaf-done space ls n t (inr (inr (inr (inr (inr (inr (inr (inr (inr (inr (inl a))))))))))) = ap (parts_of space ls n) (sees-long_literal t a.0 a.1 a.2)
leaf-done space ls n t (inr (inr (inr (inr (inr (inr (inr (inr (inr (inr (inr (inl a)))))))))))) = ap (parts_of space ls n) (sees-string_literal t a.0 a.1 a.2)
leaf-done space ls n t (inr (inr (inr (inr (inr (inr (inr (inr (inr (inr (inr (inr (inl a))))))))))))) = ap (parts_of space ls n) (sees-var_ref t a.0 a.1 a.2 a.3)
leaf-done space ls n t (inr (inr (inr (inr (inr (inr (inr (inr (inr (inr (inr (inr (inr a))))))))))))) = ap (parts_of space ls n) (sees-this_ref t a.0 a.1 a.2)

pub at_leaf : (Is : Question → Answer → Type 0) (space : Namespace) (ls : List Label) (n : ℕ) (t : Tree) (told : Told) → IsLeaf t → AsRun Is (parts_of space ls n (view t)) (Ok true) told told
at_leaf Is space ls n t told h = subst (λ (m : Checking). AsRun Is m (Ok true) told told) (sym (leaf-done space ls n t h)) (as_done Is true told)
