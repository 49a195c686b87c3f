-- A class has one answer.
use Rattle.std.proofs.Common.{◌≡◌, ℕ, suc, List, [], Option, Some, None, map, length, refl, sym, ap, ◌∙◌}
use Rattle.std.specs.Prelude.{option_map, option_and_then, slice_get}
use Rattle.sj_trees.specs.declared.classes.ClassDef.{ClassDef}
use Rattle.sj_trees.specs.declared.classes.MethodDef.{MethodDef}
use Rattle.sj_local.specs.declared.walks.Declared.{Declared}
use Rattle.sj_local.specs.declared.rules.Rule.{Rule}
use Rattle.sj_local.specs.declared.rules.Rule.TheVariants as rules
use Rattle.sj_local.specs.declared.rules.Where.{Where}
use Rattle.sj_local.specs.Firsts.{FirstRepeat, nothing_left, here, later, FirstAnswer, none_left, this_one, a_later_one}
use Rattle.sj_local.specs.TreeRules.{DeclaresTwice, declared_in}
use Rattle.sj_local.specs.MemberRules.{field_key, method_key}
use Rattle.sj_local.specs.Broken.{no_member, repeat_place, tree_place, MemberRepeats, InterfaceRepeats, TreeBreaks, FirstTree, Breaks, all_rules}
use Rattle.sj_local.specs.Laws.{ChecksOnce}

repeat_once : {K : Type 0} (earlier keys : List K) (i j : Option ℕ) → FirstRepeat earlier keys i → FirstRepeat earlier keys j → i ≡ j
repeat_once _ _ _ _ (nothing_left _) (nothing_left _) = refl
repeat_once _ _ _ _ (here _ key keys there) (here _ _ _ too) = refl
repeat_once _ _ _ _ (here _ key keys there) (later _ _ _ j not_there rest) = absurd (not_there there)
repeat_once _ _ _ _ (later _ key keys i not_there rest) (here _ _ _ there) = absurd (not_there there)
repeat_once _ _ _ _ (later earlier key keys i not_there rest) (later _ _ _ j not_too others) = ap (option_map suc) (repeat_once _ keys i j rest others)

answer_once : {A R : Type 0} (Answers : A → Option R → Type 0) → ((x : A) (r s : Option R) → Answers x r → Answers x s → r ≡ s) → (n : ℕ) (xs : List A) (r s : Option (ℕ × R)) → FirstAnswer Answers n xs r → FirstAnswer Answers n xs s → r ≡ s
answer_once Answers once _ _ _ _ (none_left _) (none_left _) = refl
answer_once {A} {R} Answers once _ _ _ _ (this_one n x xs r h) (this_one _ _ _ s k) = let e : Some r ≡ Some s = once x (Some r) (Some s) h k in let same : r ≡ s = cc in ap (λ (q : R). Some (n, q)) same
answer_once Answers once _ _ _ _ (this_one n x xs r h) (a_later_one _ _ _ s none rest) = let e = once x (Some r) None h none in cc
answer_once Answers once _ _ _ _ (a_later_one n x xs r none rest) (this_one _ _ _ s k) = let e = once x (Some s) None k none in cc
answer_once Answers once _ _ _ _ (a_later_one n x xs r none rest) (a_later_one _ _ _ s none_too others) = answer_once Answers once (suc n) xs r s rest others

declares_once : (m : MethodDef) (r s : Option ℕ) → DeclaresTwice m r → DeclaresTwice m s → r ≡ s
declares_once m r s h k = h.is_tree ∙ ap (option_and_then (λ n. option_map (λ (d : Declared). d.tree) (slice_get (declared_in m) n))) (repeat_once [] (map (λ (d : Declared). d.declaration) (declared_in m)) h.index k.index h.first k.first) ∙ sym k.is_tree

tree_once : (rule : Rule) (c : ClassDef) (m : MethodDef) (r s : Option ℕ) → TreeBreaks rule c m r → TreeBreaks rule c m s → r ≡ s
tree_once rules.DeclaredTwice c m r s h k = declares_once m r s h k
tree_once rules.Definition c m r s h k = h ∙ sym k
tree_once rules.Variable c m r s h k = h ∙ sym k
tree_once rules.ReturnLabel c m r s h k = h ∙ sym k
tree_once rules.This c m r s h k = h ∙ sym k
tree_once rules.StoreModule c m r s h k = h ∙ sym k
tree_once rules.Target c m r s h k = h ∙ sym k
tree_once rules.Keys c m r s h k = h ∙ sym k
tree_once rules.Superclass c m r s h k = h ∙ sym k
tree_once rules.Hijacked c m r s h k = h ∙ sym k
tree_once rules.InterfaceTwice c m r s h k = h ∙ sym k
tree_once rules.MemberTwice c m r s h k = h ∙ sym k
tree_once rules.Field c m r s h k = h ∙ sym k
tree_once rules.MethodName c m r s h k = h ∙ sym k
tree_once rules.Signature c m r s h k = h ∙ sym k
tree_once rules.MissingBody c m r s h k = h ∙ sym k
tree_once rules.Constructors c m r s h k = h ∙ sym k

trees_once : (rule : Rule) (c : ClassDef) (p q : Option Where) → FirstTree rule c p → FirstTree rule c q → p ≡ q
trees_once rule c p q h k = h.is_place ∙ ap (option_map tree_place) (answer_once (TreeBreaks rule c) (tree_once rule c) (length c.fields) c.methods h.found k.found h.first k.first) ∙ sym k.is_place

interfaces_once : (c : ClassDef) (p q : Option Where) → InterfaceRepeats c p → InterfaceRepeats c q → p ≡ q
interfaces_once c p q h k = h.is_place ∙ ap (option_map (λ (n : ℕ). no_member)) (repeat_once [] c.interfaces h.index k.index h.first k.first) ∙ sym k.is_place

members_once : (c : ClassDef) (p q : Option Where) → MemberRepeats c p → MemberRepeats c q → p ≡ q
members_once c p q h k =
    let fields = repeat_once [] (map field_key c.fields) h.field k.field h.first_field k.first_field in
    let methods = repeat_once [] (map method_key c.methods) h.method k.method h.first_method k.first_method in
    h.is_place ∙ (λ i. repeat_place c (fields i) (methods i)) ∙ sym k.is_place

rule_once : (c : ClassDef) (rule : Rule) (p q : Option Where) → Breaks c rule p → Breaks c rule q → p ≡ q
rule_once c rules.Superclass p q h k = h ∙ sym k
rule_once c rules.Hijacked p q h k = h ∙ sym k
rule_once c rules.InterfaceTwice p q h k = interfaces_once c p q h k
rule_once c rules.MemberTwice p q h k = members_once c p q h k
rule_once c rules.Field p q h k = h ∙ sym k
rule_once c rules.MethodName p q h k = h ∙ sym k
rule_once c rules.Signature p q h k = h ∙ sym k
rule_once c rules.MissingBody p q h k = h ∙ sym k
rule_once c rules.Constructors p q h k = h ∙ sym k
rule_once c rules.DeclaredTwice p q h k = trees_once rules.DeclaredTwice c p q h k
rule_once c rules.Definition p q h k = trees_once rules.Definition c p q h k
rule_once c rules.Variable p q h k = trees_once rules.Variable c p q h k
rule_once c rules.ReturnLabel p q h k = trees_once rules.ReturnLabel c p q h k
rule_once c rules.This p q h k = trees_once rules.This c p q h k
rule_once c rules.StoreModule p q h k = trees_once rules.StoreModule c p q h k
rule_once c rules.Target p q h k = trees_once rules.Target c p q h k
rule_once c rules.Keys p q h k = trees_once rules.Keys c p q h k

pub checks_once : ChecksOnce
checks_once c one other h k = answer_once (Breaks c) (rule_once c) 1 all_rules one other h k
