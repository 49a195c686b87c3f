-- What the bodies call that are needed is among them.
use Rattle.std.proofs.Common.{◌≡◌, Bool, true, false, List, [], ◌∷◌, ◌++◌, ◌&&◌, Option, Some, refl, sym, subst, Contains, if◌then◌else◌}
use Rattle.std.specs.Prelude.{ℕ, not}
use Rattle.std.specs.List.{All}
use Rattle.std.proofs.lemmas.Bool.{and_parts, and_from}
use Rattle.std.proofs.lemmas.List.Elements.{All-nil, All-cons, All-head, All-tail}
use Rattle.ir_mean.specs.Shows.{initializers}
use Rattle.sj_core.specs.declared.callees.Callee.{Callee}
use Rattle.sj_core.specs.declared.callees.Callee.TheVariants as callees
use Rattle.agree_classes.specs.EmittedMethods.{EmittedMethod}
use Rattle.agree_classes.specs.Emitted.{initializer_member}
use Rattle.agree_classes.specs.Desugar.{member, callee_of}
use Rattle.sj_infos.specs.Infos.{asks, asked_by_body}
use Rattle.sj_infos.specs.Sure.{sure_among}
use Rattle.sj_infos.specs.Trees.{trees, below, all_below, cases_below}
use Rattle.sj_infos.specs.declared.infos.Info.TheVariants.{Static}
use Rattle.agree_classes.proofs.Found.{here, there}
use Rattle.sj_names.proofs.Same.{impossible}
use Rattle.sj_names.specs.Same.{is_same_text}
use Rattle.sj_names.specs.declared.entry_points.EntryPoint.{EntryPoint}
use Rattle.sj_names.specs.declared.method_names.Member.{Member}
use Rattle.agree_classes.specs.Built.{Usable}
use Rattle.agree_classes.specs.Linked.{has_function, have_functions, functions_of}
use Rattle.sj_trees.specs.Term.{Term, Terms, no_terms, more_terms, Cases, no_cases, more_cases, var_def, skip, block_of, labeled, assign, return_to, if_then, while_loop, do_while, try_finally, match_on, apply_statically, apply_static, unary_op, binary_op, as_instance_of, undefined_literal, null_literal, boolean_literal, char_literal, byte_literal, short_literal, int_literal, long_literal, string_literal, var_ref, log_line, apply}
use Rattle.sj_trees.specs.TypeOf.{type_of_term}
use Rattle.sj_trees.specs.declared.types.IrType.{IrType}
use Rattle.sj_trees.specs.declared.types.IrType.TheVariants.{Any, NoType}
use Rattle.agree_classes.specs.Built.{can_call, is_operation, is_based, can_cast, is_built, are_built, are_built_cases, anything, body_boxes, is_built_body}
use Rattle.agree_classes.proofs.RulesGive.{operation_kept}
use Rattle.agree_classes.specs.Typing.{may_check, is_built_with}
use Rattle.sure_receivers.specs.Sure.{sure_locals}
use Rattle.sj_names.specs.declared.method_names.MethodName.{MethodName}
use Rattle.sj_names.specs.declared.method_names.Namespace.{Namespace}
use Rattle.sj_trees.specs.declared.positions.Position.{Position}
use Rattle.sj_names.specs.declared.method_names.Namespace.TheVariants.{Public, Private, Constructor}
use Rattle.sj_world.specs.Known.{Classes}
use Rattle.sj_world.specs.declared.facts.Fact.TheVariants.{Body}
use Rattle.folder_judging_spec.proofs.Derivations.{closed}
use Rattle.folder_judging_spec.specs.Reachable.{Reachable}
use Rattle.folder_judging_spec.specs.Rules.{entry_member, of_call, of_entry, asked_body}
use Rattle.folder_judging_spec.proofs.EachTyped.{in_all}
use Rattle.accepted_folders.specs.Bodies.{AreBodies}
use Rattle.accepted_folders.specs.Laws.{CallsAreAmongBodies, InitializersAreAmongBodies}
use Rattle.accepted_folders.proofs.Members.{has_function-from, defined}

module _ (has : Usable) (checked : Term → Bool) where
  -- a call is of a linked member
  abbrev Calls : Term → Type 0
  Calls (apply_static p c n m ts t) = has.linked (member c n m) ≡ true
  Calls _ = Unit {0}

  abbrev Each : List Term → Type 0
  Each xs = All Calls xs

  front : (xs ys : List Term) → Each (xs ++ ys) → Each xs
  front [] ys h = All-nil Calls
  front (x ∷ xs) ys h = All-cons Calls x xs (All-head Calls x (xs ++ ys) h) (front xs ys (All-tail Calls x (xs ++ ys) h))

  back : (xs ys : List Term) → Each (xs ++ ys) → Each ys
  back [] ys h = h
  back (x ∷ xs) ys h = back xs ys (All-tail Calls x (xs ++ ys) h)

  inner : (t : Term) → Each (trees t) → Each (below t)
  inner t h = All-tail Calls t (below t) h

  two : (a b : Term) → Each (trees a ++ trees b) → Each (trees a) × Each (trees b)
  two a b h = (front (trees a) (trees b) h, back (trees a) (trees b) h)

  -- no member runs on an object
  no_call : {A : Type 0} (p : Position) (e : Term) (c : List ℕ) (n : Namespace) (m : MethodName) (ts : Terms) (t : IrType) → is_built anything (λ e. false) (apply_statically p e c n m ts t) ≡ true → A
  no_call p e c Public m ts t k = impossible k
  no_call p e c Private m ts t k = impossible k
  no_call p e c Constructor m ts NoType k = impossible k
  no_call p e c Constructor m ts _ k = impossible k
  no_call p e c n m ts t k = impossible k

  no_callee : {A : Type 0} (k : Callee) (a b : Bool) → ((can_call anything k && false) && (b && a)) ≡ true → A
  no_callee (callees.Member m) a b k = impossible k
  no_callee (callees.LookedUp c m) a b k = impossible k
  no_callee (callees.OfArray m) a b k = impossible k
  no_callee (callees.Reflective m) a b k = impossible k

  -- a cast goes to any alone
  cast_based : (t : IrType) → (can_cast anything t && is_based anything t) ≡ true → (can_cast has t && is_based has t) ≡ true
  cast_based Any k = refl
  cast_based _ k = impossible k

  mutual
    built : (t : Term) → is_built anything (λ e. false) t ≡ true → Each (trees t) → is_built has checked t ≡ true
    built (var_def p x t b e) k h = built e k (inner (var_def p x t b e) h)
    built (skip p) k h = refl
    built (block_of p ts) k h = all_built ts k (inner (block_of p ts) h)
    built (labeled p l t e) k h = built e k (inner (labeled p l t e) h)
    built (assign p (var_ref q x t) e) k h = built e k (two (var_ref q x t) e (inner (assign p (var_ref q x t) e) h)).1
    built (return_to p e l) k h = built e k (inner (return_to p e l) h)
    built (if_then p c a b t) k h =
        let r = and_parts (is_built anything (λ e. false) c) (is_built anything (λ e. false) a && is_built anything (λ e. false) b) k in
        let s = and_parts (is_built anything (λ e. false) a) (is_built anything (λ e. false) b) r.1 in
        let inside : Each (trees c ++ trees a ++ trees b) = inner (if_then p c a b t) h in
        let head = two c a (front (trees c ++ trees a) (trees b) inside) in
        let last = back (trees c ++ trees a) (trees b) inside in
        and_from (is_built has checked c) (is_built has checked a && is_built has checked b) (built c r.0 head.0) (and_from (is_built has checked a) (is_built has checked b) (built a s.0 head.1) (built b s.1 last))
    built (while_loop p c b) k h = let q = and_parts (is_built anything (λ e. false) c) (is_built anything (λ e. false) b) k in let parts = two c b (inner (while_loop p c b) h) in and_from (is_built has checked c) (is_built has checked b) (built c q.0 parts.0) (built b q.1 parts.1)
    built (do_while p b c) k h = let q = and_parts (is_built anything (λ e. false) b) (is_built anything (λ e. false) c) k in let parts = two b c (inner (do_while p b c) h) in and_from (is_built has checked b) (is_built has checked c) (built b q.0 parts.0) (built c q.1 parts.1)
    built (try_finally p e d) k h = let q = and_parts (is_built anything (λ e. false) e) (is_built anything (λ e. false) d) k in let parts = two e d (inner (try_finally p e d) h) in and_from (is_built has checked e) (is_built has checked d) (built e q.0 parts.0) (built d q.1 parts.1)
    built (match_on p e cs d t) k h =
        let r = and_parts (is_built anything (λ e. false) e) (are_built_cases anything (λ e. false) cs && is_built anything (λ e. false) d) k in
        let s = and_parts (are_built_cases anything (λ e. false) cs) (is_built anything (λ e. false) d) r.1 in
        let inside : Each (trees e ++ cases_below cs ++ trees d) = inner (match_on p e cs d t) h in
        let head : Each (trees e ++ cases_below cs) = front (trees e ++ cases_below cs) (trees d) inside in
        and_from (is_built has checked e) (are_built_cases has checked cs && is_built has checked d) (built e r.0 (front (trees e) (cases_below cs) head)) (and_from (are_built_cases has checked cs) (is_built has checked d) (cases_built cs s.0 (back (trees e) (cases_below cs) head)) (built d s.1 (back (trees e ++ cases_below cs) (trees d) inside)))
    built (apply_static p c n m ts t) k h = and_from (has.linked (member c n m)) (are_built has checked ts) (All-head Calls (apply_static p c n m ts t) (all_below ts) h) (all_built ts k (inner (apply_static p c n m ts t) h))
    built (unary_op p o e) k h = built e k (inner (unary_op p o e) h)
    built (binary_op p o e d) k h =
        let q = and_parts (is_operation anything o d) (is_built anything (λ e. false) e && is_built anything (λ e. false) d) k in
        let r = and_parts (is_built anything (λ e. false) e) (is_built anything (λ e. false) d) q.1 in
        let parts = two e d (inner (binary_op p o e d) h) in
        and_from (is_operation has o d) (is_built has checked e && is_built has checked d) (operation_kept (λ m. true) has o d q.0) (and_from (is_built has checked e) (is_built has checked d) (built e r.0 parts.0) (built d r.1 parts.1))
    built (as_instance_of p e t) k h =
        let q = and_parts (can_cast anything t && is_based anything t) (is_built anything (λ e. false) e) k in
        and_from (can_cast has t && is_based has t) (is_built has checked e) (cast_based t q.0) (built e q.1 (inner (as_instance_of p e t) h))
    built (undefined_literal p) k h = refl
    built (null_literal p) k h = refl
    built (boolean_literal p b) k h = refl
    built (char_literal p z) k h = refl
    built (byte_literal p z) k h = refl
    built (short_literal p z) k h = refl
    built (int_literal p z) k h = refl
    built (long_literal p z) k h = refl
    built (string_literal p us) k h = refl
    built (var_ref p x t) k h = refl
    built (log_line p e) k h = built e k (inner (log_line p e) h)
    built (apply p e m ts t) k h = no_callee (callee_of (type_of_term e) m) (are_built anything (λ e. false) ts) (is_built anything (λ e. false) e) k
    built (apply_statically p e c n m ts t) k h = no_call p e c n m ts t k
    built t k h = impossible k

    all_built : (ts : Terms) → are_built anything (λ e. false) ts ≡ true → Each (all_below ts) → are_built has checked ts ≡ true
    all_built no_terms k h = refl
    all_built (more_terms t ts) k h = let q = and_parts (is_built anything (λ e. false) t) (are_built anything (λ e. false) ts) k in and_from (is_built has checked t) (are_built has checked ts) (built t q.0 (front (trees t) (all_below ts) h)) (all_built ts q.1 (back (trees t) (all_below ts) h))

    cases_built : (cs : Cases) → are_built_cases anything (λ e. false) cs ≡ true → Each (cases_below cs) → are_built_cases has checked cs ≡ true
    cases_built no_cases k h = refl
    cases_built (more_cases [] e cs) k h = cases_built cs k (back (trees e) (cases_below cs) h)
    cases_built (more_cases (key ∷ keys) e cs) k h = let r = and_parts (is_built anything (λ e. false) e) (are_built_cases anything (λ e. false) cs) k in and_from (is_built has checked e) (are_built_cases has checked cs) (built e r.0 (front (trees e) (cases_below cs) h)) (cases_built cs r.1 (back (trees e) (cases_below cs) h))

all-from : {X : Type 0} (P : X → Type 0) (xs : List X) → ((x : X) → Contains xs x → P x) → All P xs
all-from P [] h = All-nil P
all-from P (x ∷ xs) h = All-cons P x xs (h x (here x xs)) (all-from P xs (λ y i. h y (there x xs y i)))

module _ (w : Classes) (entries : List EntryPoint) (fs : List EmittedMethod) (bodies : AreBodies w entries fs) where
  -- a method of the bodies is needed as one
  pub needed : (e : EmittedMethod) → Contains fs e → Reachable w entries (Body e.member)
  needed e i = (bodies.exact e.member).0 (record { method = e; listed = i; is = refl })

  has-body : (k : Member) → Reachable w entries (Body k) → has_function fs k ≡ true
  has-body k r = has_function-from fs k ((bodies.exact k).1 r)

  module _ (e : EmittedMethod) (i : Contains fs e) where
    abbrev checks : Term → Bool
    checks = may_check (functions_of fs) (sure_locals e.its_body)

    called : (k : Member) → Contains (asked_by_body (Some e.its_body)) (Static k) → has_function fs k ≡ true
    called k c = has-body k (closed w entries (Body k) (asked_body k (of_call k (record { member = e.member; needed = needed e i; definition = e.definition; defined = defined w e.member e.definition (bodies.found e i).found; asked = subst (λ (o : Option Term). Contains (asked_by_body o) (Static k)) (sym (bodies.found e i).has_body) c }))))

    each : (x : Term) → Contains (trees e.its_body) x → Calls (functions_of fs) checks x
    each (apply_static p c n m ts t) among = called (member c n m) (in_all (asks (sure_among [] (trees e.its_body))) (trees e.its_body) (apply_static p c n m ts t) (Static (member c n m)) among (here (Static (member c n m)) []))
    each x among = tt

    among_bodies : is_built_body e.definition e.its_body ≡ true → is_built_with (functions_of fs) e.definition e.its_body ≡ true
    among_bodies k = let q = and_parts (not (body_boxes e.definition e.its_body)) (is_built anything (λ e. false) e.its_body) k in and_from (not (body_boxes e.definition e.its_body)) (is_built (functions_of fs) checks e.its_body) q.0 (built (functions_of fs) checks e.its_body q.1 (all-from (Calls (functions_of fs) checks) (trees e.its_body) each))

  pub entry : (e : EntryPoint) → Contains entries e → has_function fs (initializer_member e) ≡ true
  entry e i = has-body (entry_member e) (closed w entries (Body (entry_member e)) (asked_body (entry_member e) (of_entry e i)))

  all_called : (id : List ℕ) (es : List EntryPoint) → ((e : EntryPoint) → Contains es e → has_function fs (initializer_member e) ≡ true) → have_functions fs (initializers es id) ≡ true
  all_called id [] h = refl
  all_called id (e ∷ es) h = step (is_same_text id e.module) (all_called id es (λ d i. h d (there e es d i)))
    where
      step : (b : Bool) → have_functions fs (initializers es id) ≡ true → have_functions fs (if b then (e ∷ initializers es id) else initializers es id) ≡ true
      step true rest = and_from (has_function fs (initializer_member e)) (have_functions fs (initializers es id)) (h e (here e es)) rest
      step false rest = rest

pub calls_among : CallsAreAmongBodies
calls_among w entries fs e bodies i k = among_bodies w entries fs bodies e i k

pub initializers_among : InitializersAreAmongBodies
initializers_among w entries fs id bodies = all_called w entries fs bodies id entries (entry w entries fs bodies)
