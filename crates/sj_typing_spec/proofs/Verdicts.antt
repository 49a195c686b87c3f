-- What the check of a method says of it.
use Rattle.std.proofs.Common.{◌≡◌, ℕ, Bool, true, false, List, [], Some, Result, Ok, Err, refl, subst}
use Rattle.std.specs.Prelude.{◌↔◌, IsTrue}
use Rattle.std.specs.List.{All}
use Rattle.sj_trees.specs.declared.classes.MethodDef.{MethodDef}
use Rattle.sj_trees.specs.declared.types.IrType.{IrType}
use Rattle.sj_trees.specs.declared.types.IrType.TheVariants as type
use Rattle.sj_trees.specs.Term.{Term}
use Rattle.sj_trees.specs.TypeOf.{type_of_term}
use Rattle.sj_ask.specs.declared.errors.TypeError.{TypeError}
use Rattle.sj_ask.specs.declared.errors.TypeError.TheVariants.{Refused, NoMemory}
use Rattle.sj_ask.specs.Stands.{Stand}
use Rattle.sj_ask.specs.Answers.{IsAnswer}
use Rattle.sj_ask.specs.Apart.{Exchange}
use Rattle.sj_ask.specs.Sizes.{in_32_bits, next}
use Rattle.sj_ask.specs.Told.{Told}
use Rattle.sj_ask.specs.Tasks.{done, ◌>>=◌, says_yes, asks_sub}
use Rattle.sj_ask.specs.Runs.{Comes}
use Rattle.sj_ask.proofs.Counts.{next_is}
use Rattle.sj_ask.proofs.Running.{Parted, went, stopped, comes-parted}
use Rattle.sj_typing_spec.specs.Nodes.{nodes}
use Rattle.sj_typing_spec.specs.Rules.{Fits, Yields, nothing_wanted, fitting, MaySet}
use Rattle.sj_typing_spec.specs.Typed.{tag, MeetsThere, IsTyped, IsUntyped, FirstUntyped, a_tree, the_body}
use Rattle.sj_typing_spec.specs.Checks.{then_do, unless_no, check_of, ask_wanted, ask_result, body_task}
use Rattle.sj_typing_spec.specs.Answered.{AsRun, as_ran, no_memory, agreed, IsVerdict}
use Rattle.sj_typing_spec.proofs.Conditions.{sub_answered}
use Rattle.sj_typing_spec.proofs.Judged.{Fails, Judged, judged_met, judged_parts}

module _ (s : Stand) where
  wanted_came : (body : Term) (t : IrType) (b : Bool) (log : List Exchange) → Comes (IsAnswer s) (ask_wanted body t) (Ok b) log → Fits s.classes body t
  unfolding ◌>>=◌ asks_sub
  wanted_came body t b log h = go (says_yes h.given) refl h.rest
    where
      go : (v : Bool) → says_yes h.given ≡ v → Comes (IsAnswer s) (unless_no (Refused 0 0) (done true) v) (Ok b) h.others → Fits s.classes body t
      go true e k = (sub_answered s (type_of_term body) t h.given h.is_answer).0 e
      go false e k = let no : Ok b ≡ Err (Refused 0 0) = k.0 in cc

  wanted_refused : (body : Term) (t : IrType) (e : TypeError) (log : List Exchange) → Comes (IsAnswer s) (ask_wanted body t) (Err e) log → (e ≡ Refused 0 0) × (Fits s.classes body t → ⊥)
  unfolding ◌>>=◌ asks_sub
  wanted_refused body t e log h = go (says_yes h.given) refl h.rest
    where
      go : (v : Bool) → says_yes h.given ≡ v → Comes (IsAnswer s) (unless_no (Refused 0 0) (done true) v) (Err e) h.others → (e ≡ Refused 0 0) × (Fits s.classes body t → ⊥)
      go true q k = let no : Err e ≡ Ok true = k.0 in cc
      go false q k = let same : e ≡ Refused 0 0 = cc (k.0) in (same, λ f. let yes : says_yes h.given ≡ true = (sub_answered s (type_of_term body) t h.given h.is_answer).1 f in cc)

  result_came : (body : Term) (t : IrType) (b : Bool) (log : List Exchange) → Comes (IsAnswer s) (ask_result body t) (Ok b) log → Yields s.classes body t
  result_came body type.NoType b log h = nothing_wanted refl
  result_came body t b log h = fitting (wanted_came body t b log h)

  result_refused : (body : Term) (t : IrType) (e : TypeError) (log : List Exchange) → Comes (IsAnswer s) (ask_result body t) (Err e) log → (e ≡ Refused 0 0) × (Yields s.classes body t → ⊥)
  result_refused body type.NoType e log h = let no : Err e ≡ Ok true = h.0 in cc
  result_refused body t e log h = let w = wanted_refused body t e log h in (w.0, λ y. go w.1 y)
    where
      go : (Fits s.classes body t → ⊥) → Yields s.classes body t → ⊥
      go not (fitting f) = not f
      go not (nothing_wanted n) = cc

  module _ (m : MethodDef) (body : Term) (has : m.body ≡ Some body) where
    judged : Judged s m.namespace (check_of m.namespace [] 0 body) (nodes [] 0 body) (λ b. IsTrue b ↔ MaySet s.classes m.namespace body)
    judged = judged_met s m.namespace [] 0 0 body refl (judged_parts s m.namespace [] 0 (next 0) body (next_is 0))

    typed : (b : Bool) (log : List Exchange) → Comes (IsAnswer s) (body_task m.namespace body m.result) (Ok b) log → IsTyped s.classes m
    unfolding body_task then_do
    typed b log h = go (comes-parted (IsAnswer s) (check_of m.namespace [] 0 body) (λ _. ask_result body m.result) (Ok b) log h)
      where
        go : Parted (IsAnswer s) (check_of m.namespace [] 0 body) (λ _. ask_result body m.result) (Ok b) log → IsTyped s.classes m
        go (went a one two k l e) = record { body = body; has_body = has; met = (judged.ok a one k).0; yields = result_came body m.result b two l }
        go (stopped e k q) = let no : Ok b ≡ Err e = q in cc

    untyped : (rule place : ℕ) (log : List Exchange) → Comes (IsAnswer s) (body_task m.namespace body m.result) (Err (Refused rule place)) log → IsUntyped s.classes m rule place
    unfolding body_task then_do
    untyped rule place log h = go (comes-parted (IsAnswer s) (check_of m.namespace [] 0 body) (λ _. ask_result body m.result) (Err (Refused rule place)) log h)
      where
        tree : (f : Fails s.classes m.namespace (nodes [] 0 body) (Refused rule place)) → FirstUntyped s.classes m body rule place
        tree f =
            let r : tag f.tree.tree ≡ rule = cc (f.fault) in
            let n : in_32_bits f.tree.number ≡ place = cc (f.fault) in
            subst (λ (x : ℕ). FirstUntyped s.classes m body x place) r (subst (λ (x : ℕ). FirstUntyped s.classes m body (tag f.tree.tree) x) n (a_tree f.tree f.at))

        root : (met : All (MeetsThere s.classes m.namespace) (nodes [] 0 body)) → Refused rule place ≡ Refused 0 0 → (Yields s.classes body m.result → ⊥) → FirstUntyped s.classes m body rule place
        root met e not =
            let r : 0 ≡ rule = cc (e) in
            let n : 0 ≡ place = cc (e) in
            subst (λ (x : ℕ). FirstUntyped s.classes m body x place) r (subst (λ (x : ℕ). FirstUntyped s.classes m body 0 x) n (the_body met not))

        go : Parted (IsAnswer s) (check_of m.namespace [] 0 body) (λ _. ask_result body m.result) (Err (Refused rule place)) log → IsUntyped s.classes m rule place
        go (went a one two k l e) = let w = result_refused body m.result (Refused rule place) two l in record { body = body; has_body = has; first = root (judged.ok a one k).0 w.0 w.1 }
        go (stopped d k q) = let same : d ≡ Refused rule place = cc (q) in record { body = body; has_body = has; first = tree (subst (Fails s.classes m.namespace (nodes [] 0 body)) same (judged.err d log k)) }

    -- the verdict of a run
    pub verdict : (r : Result (Unit {0}) TypeError) (before after : Told) → AsRun (IsAnswer s) (body_task m.namespace body m.result) (agreed r) before after → IsVerdict s.classes m r
    verdict (Ok x) before after (as_ran h) = typed true h.log h.comes
    verdict (Ok x) before after (no_memory q) = cc
    verdict (Err (Refused rule place)) before after (as_ran h) = untyped rule place h.log h.comes
    verdict (Err (Refused rule place)) before after (no_memory q) = cc
    verdict (Err NoMemory) before after h = tt
