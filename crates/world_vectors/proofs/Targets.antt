-- What the calls of a method run in a world has names of bytes, as the classes of the world have.
use Rattle.std.proofs.Common.{◌≡◌, ◌∙◌, Bool, true, false, ◌&&◌, List, [], ◌∷◌, Option, Some, None, Result, Ok, Err, if◌then◌else◌, IfOk, refl, sym, subst}
use Rattle.std.specs.Prelude.{All}
use Rattle.std.proofs.lemmas.Bool.{and_parts}
use Rattle.std.proofs.lemmas.List.Elements.{All-head, All-tail}
use Rattle.sj_emit_expr_questions.specs.Calls.{calls_of_all}
use Rattle.sj_emit_expr_questions.specs.Laws.{AsEmitted}
use Rattle.sj_emit_expr_questions.specs.Task.{Targets, is_same_member, target_by, with_target, Found, nothing_found, lookup_by, asks_all, Emitted, emitted, emitted_view}
use Rattle.sj_emit_expr_questions.specs.declared.Inquiry.{Inquiry}
use Rattle.sj_emit_expr_questions.specs.declared.Inquiry.TheVariants as inquiries
use Rattle.js_tree.specs.declared.items.JsMember.{JsMember}
use Rattle.sj_ask.proofs.Running.{Parted, went, stopped, comes-parted}
use Rattle.sj_ask.specs.Answers.{IsAnswer, IsTarget, GivesMember, target_member}
use Rattle.sj_ask.specs.Apart.{Exchange}
use Rattle.sj_ask.specs.Runs.{Comes}
use Rattle.sj_ask.specs.Stands.{Stand}
use Rattle.sj_ask.specs.Tasks.{done, found_member, says_yes, asks_target, asks_hijacked, ◌>>=◌}
use Rattle.sj_ask.specs.Told.{Told}
use Rattle.sj_ask.specs.declared.questions.Answer.{Answer}
use Rattle.sj_ask.specs.declared.questions.Answer.TheVariants as answer
use Rattle.sj_core.specs.Terms.{Method}
use Rattle.sj_names.proofs.Same.{method-same}
use Rattle.sj_names.specs.Same.{is_same_text, is_same_method, is_same_namespace}
use Rattle.sj_names.specs.declared.memory.NoMemory.{NoMemory}
use Rattle.sj_names.specs.declared.method_names.Member.{Member}
use Rattle.sj_names.specs.declared.method_names.MethodName.{MethodName}
use Rattle.sj_emit_expr_pieces.specs.Ranges.{AreBytes, FitsMethodName, FitsMember}
use Rattle.sj_trees.specs.declared.classes.ClassDef.{ClassDef}
use Rattle.sj_world.proofs.Orders.{same_name}
use Rattle.sj_world.specs.Ancestors.{IsAncestor}
use Rattle.sj_world.specs.Known.{Name, Classes, class_of, is_same}
use Rattle.sj_world.specs.Resolution as resolution
use Rattle.sj_world.specs.Resolution.{Resolves, ResolvesAbove, target, abstract, missing, by_chain, by_ancestors, by_default, undeclared, declared}
use Rattle.world_vectors.specs.Emitted.{IsEmitted}

abbrev pub IsNamed : ClassDef → Type 0
IsNamed c = AreBytes c.name

-- a name under which a class is found is that of the class
named : (w : Classes) (name : Name) (c : ClassDef) → class_of w name ≡ Some c → All IsNamed w → AreBytes name
named [] name c e h = absurd (cc)
named (k ∷ w) name c e h = go (λ found. named w name c found (All-tail IsNamed k w h)) (is_same k.name name) refl e
  where
    go : (class_of w name ≡ Some c → AreBytes name) → (b : Bool) → is_same k.name name ≡ b → (if b then Some k else class_of w name) ≡ Some c → AreBytes name
    go below true same found = subst AreBytes (same_name k.name name same) (All-head IsNamed k w h)
    go below false other found = below found

-- what is found for a call of m: a member of this name, whose class has a name of bytes
abbrev IsFound : MethodName → Option Member → Type 0
IsFound m None = Unit {0}
IsFound m (Some t) = AreBytes t.class × (t.method ≡ m)

abbrev Fit : Targets → Type 0
Fit found = (k : Member) → FitsMember k → FitsMember (target_by found k)

module _ (w : Classes) (names : All IsNamed w) where
  target-found : (c : Name) (m : MethodName) (found : Option Member) → IsTarget w c m found → IsFound m found
  target-found c m found h = subst (IsFound m) (sym h.is_member) (go h.run h.resolves)
    where
      above : (r : resolution.Answer) → ResolvesAbove w (IsAncestor w c) m r → IsFound m (target_member m r)
      above _ (by_default d o least) = (named w o least.candidate.default.class least.candidate.default.is_class names, refl)
      above _ (undeclared _ _) = tt
      above _ (declared _ _) = tt

      go : (r : resolution.Answer) → Resolves w c m r → IsFound m (target_member m r)
      go _ (by_chain d o near) = (named w o near.body.class near.body.is_class names, refl)
      go r (by_ancestors _ none over) = above r over

  member-found : (c : Name) (m : MethodName) (x : Answer) → GivesMember (IsTarget w c m) x → IsFound m (found_member x)
  member-found c m (answer.Member found) h = target-found c m found h
  member-found c m (answer.Yes b) h = absurd h
  member-found c m (answer.Field f) h = absurd h
  member-found c m (answer.Body b) h = absurd h

same-method : (k q : Member) → is_same_member k q ≡ true → k.method ≡ q.method
same-method k q h = method-same k.method q.method (and_parts (is_same_text k.class q.class && is_same_namespace k.namespace q.namespace) (is_same_method k.method q.method) h).1

more-fit : (k : Member) (o : Option Member) (found : Targets) → IsFound k.method o → Fit found → Fit (with_target k o found)
more-fit k None found is fit = fit
more-fit k (Some t) found is fit = λ q h. go q h (is_same_member k q) refl
  where
    go : (q : Member) → FitsMember q → (b : Bool) → is_same_member k q ≡ b → FitsMember (if b then t else target_by found q)
    go q h true e = (is.0, subst FitsMethodName (sym (is.1 ∙ same-method k q e)) h.1)
    go q h false e = fit q h

stops : (f : Emitted) (e : NoMemory) → ◌≡◌ {A = Result Emitted NoMemory} (Ok f) (Err e) → ⊥
stops f e is = cc

module _ (s : Stand) (names : All IsNamed s.classes) where
  all-fit : (qs : List Inquiry) (before found : Found) (log : List Exchange) → Comes {E = NoMemory} (IsAnswer s) (asks_all qs before) (Ok found) log → Fit before.targets → Fit found.targets
  unfolding asks_target asks_hijacked ◌>>=◌
  all-fit [] before found log h fit = let e : ◌≡◌ {A = Result Found NoMemory} (Ok found) (Ok before) = h.0 in let same : found ≡ before = cc in subst (λ (f : Found). Fit f.targets) (sym same) fit
  all-fit (inquiries.Target k ∷ qs) before found log h fit = all-fit qs (record { targets = with_target k (found_member h.given) before.targets; mixed = before.mixed }) found h.others h.rest (more-fit k (found_member h.given) before.targets (member-found s.classes names k.class k.method h.given h.is_answer) fit)
  all-fit (inquiries.Hijacked c ∷ qs) before found log h fit = all-fit qs (record { targets = before.targets; mixed = (c, says_yes h.given) ∷ before.mixed }) found h.others h.rest fit

  -- the function that is emitted there
  pub emitted_there : (m : Method) (r : Result JsMember NoMemory) (t u : Told) → AsEmitted (IsAnswer s) m r t u → IfOk r (IsEmitted m)
  emitted_there m (Err e) t u h = tt
  emitted_there m (Ok f) t u h = go (comes-parted (IsAnswer s) (asks_all (calls_of_all m.body) nothing_found) (λ found. done (emitted (lookup_by found) m)) (Ok (emitted_view f)) h.log h.comes)
    where
      go : Parted {E = NoMemory} (IsAnswer s) (asks_all (calls_of_all m.body) nothing_found) (λ found. done (emitted (lookup_by found) m)) (Ok (emitted_view f)) h.log → IsEmitted m f
      go (went found one two first second _) =
          let is : ◌≡◌ {A = Result Emitted NoMemory} (Ok (emitted_view f)) (Ok (emitted (lookup_by found) m)) = second.0 in
          let same : emitted_view f ≡ emitted (lookup_by found) m = cc in
          let fit = all-fit (calls_of_all m.body) nothing_found found one first (λ k h. h) in
          record {
            known = lookup_by found;
            is = same;
            fit = λ k called h. fit k h;
          }
      go (stopped e first is) = absurd (stops (emitted_view f) e is)
