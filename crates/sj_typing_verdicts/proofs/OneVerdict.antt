-- There is one verdict, and the end of a check is it.
use Rattle.std.proofs.Common.{◌≡◌, ℕ, List, [], ◌∷◌, ◌++◌, Some, None, Option, Result, refl, sym, ap, subst, ◌∙◌}
use Rattle.std.specs.List.{All}
use Rattle.std.proofs.lemmas.List.Elements.{All-head, All-tail}
use Rattle.sj_trees.specs.Term.{Term}
use Rattle.sj_trees.specs.declared.classes.MethodDef.{MethodDef}
use Rattle.sj_world.specs.Known.{Classes}
use Rattle.sj_typing_spec.specs.TypeError.{TypeError}
use Rattle.sj_typing_spec.specs.Stands.{Stand}
use Rattle.sj_typing_spec.specs.Answers.{IsAnswer}
use Rattle.sj_typing_spec.specs.Apart.{Exchange}
use Rattle.sj_typing_spec.specs.Runs.{Comes}
use Rattle.sj_typing_spec.specs.Sizes.{in_32_bits}
use Rattle.sj_typing_spec.specs.Checks.{check_task}
use Rattle.sj_typing_spec.specs.Nodes.{Node, nodes}
use Rattle.sj_typing_spec.specs.Rules.{Yields}
use Rattle.sj_typing_spec.specs.Typed.{tag, MeetsThere, IsTyped, IsUntyped, FailsAt, FirstUntyped, a_tree, the_body}
use Rattle.sj_typing_spec.specs.Answered.{as_ran, agreed, IsVerdict}
use Rattle.sj_typing_spec.proofs.Verdicts.{verdict}
use Rattle.sj_typing_verdicts.specs.Laws.{HasOneVerdict}

pub is_verdict : (s : Stand) (d : MethodDef) (body : Term) (r : Result (Unit {0}) TypeError) (log : List Exchange) → d.body ≡ Some body → Comes (IsAnswer s) (check_task d d.body) (agreed r) log → IsVerdict s.classes d r
is_verdict s d body r log has comes =
    let ran : Comes (IsAnswer s) (check_task d (Some body)) (agreed r) log = subst (λ (o : Option Term). Comes (IsAnswer s) (check_task d o) (agreed r) log) has comes in
    verdict s d body has r None None (as_ran (record { log = log; comes = ran; told = refl }))

module _ (P : Node → Type 0) where
  -- what holds of all holds of one in the middle
  in_the_middle : (xs ys : List Node) (x : Node) → All P (xs ++ x ∷ ys) → P x
  in_the_middle [] ys x all = All-head P x ys all
  in_the_middle (z ∷ zs) ys x all = in_the_middle zs ys x (All-tail P z (zs ++ x ∷ ys) all)

  -- the first of which it doesn't hold is one
  first_is_one : (xs ys zs ws : List Node) (x y : Node) → xs ++ x ∷ ys ≡ zs ++ y ∷ ws → All P xs → (P x → ⊥) → All P zs → (P y → ⊥) → x ≡ y
  first_is_one [] ys [] ws x y e a n b m = cc
  first_is_one [] ys (z ∷ zs) ws x y e a n b m = let same : z ≡ x = cc in absurd (n (subst P same (All-head P z zs b)))
  first_is_one (u ∷ xs) ys [] ws x y e a n b m = let same : u ≡ y = cc in absurd (m (subst P same (All-head P u xs a)))
  first_is_one (u ∷ xs) ys (z ∷ zs) ws x y e a n b m = let rest : xs ++ x ∷ ys ≡ zs ++ y ∷ ws = cc in first_is_one xs ys zs ws x y rest (All-tail P u xs a) n (All-tail P z zs b) m

module _ (w : Classes) (m : MethodDef) where
  fails_somewhere : (body : Term) (x : Node) → FailsAt w m.namespace (nodes [] 0 body) x → All (MeetsThere w m.namespace) (nodes [] 0 body) → ⊥
  fails_somewhere body x f all = f.fails (in_the_middle (MeetsThere w m.namespace) f.before f.behind x (subst (All (MeetsThere w m.namespace)) f.parts all))

  same_body : (one other : Term) → m.body ≡ Some one → m.body ≡ Some other → one ≡ other
  same_body one other e f = cc

  not_met : (body : Term) (rule place : ℕ) → All (MeetsThere w m.namespace) (nodes [] 0 body) → Yields w body m.result → FirstUntyped w m body rule place → ⊥
  not_met body _ _ all yields (a_tree x f) = fails_somewhere body x f all
  not_met body _ _ all yields (the_body met not) = not yields

  one_first : (body : Term) (rule other place another : ℕ) → FirstUntyped w m body rule place → FirstUntyped w m body other another → (rule ≡ other) × (place ≡ another)
  one_first body _ _ _ _ (a_tree x f) (a_tree y g) =
      let same : x ≡ y = first_is_one (MeetsThere w m.namespace) f.before f.behind g.before g.behind x y (sym f.parts ∙ g.parts) f.met f.fails g.met g.fails in
      (ap (λ (n : Node). tag n.tree) same, ap (λ (n : Node). in_32_bits n.number) same)
  one_first body _ _ _ _ (a_tree x f) (the_body met not) = absurd (fails_somewhere body x f met)
  one_first body _ _ _ _ (the_body met not) (a_tree x f) = absurd (fails_somewhere body x f met)
  one_first body _ _ _ _ (the_body met not) (the_body too fails) = (refl, refl)

  pub has_one_verdict : HasOneVerdict w m
  has_one_verdict = record {
    not_both = λ rule place t u. let same = same_body t.body u.body t.has_body u.has_body in not_met u.body rule place (subst (λ (b : Term). All (MeetsThere w m.namespace) (nodes [] 0 b)) same t.met) (subst (λ (b : Term). Yields w b m.result) same t.yields) u.first;
    one_fault = λ rule other place another t u. let same = same_body t.body u.body t.has_body u.has_body in one_first u.body rule other place another (subst (λ (b : Term). FirstUntyped w m b rule place) same t.first) u.first;
  }
