-- The names by which the bodies of an accepted folder call are in their grammar.
use Rattle.std.proofs.Common.{◌≡◌, ℕ, codes, Bool, true, false, List, [], ◌∷◌, ◌++◌, Option, Some, None, refl, sym, subst, Contains, if◌then◌else◌}
use Rattle.std.specs.Prelude.{MatchOption, is_none, is_some, ◌≢◌, not, ◌&&◌}
use Rattle.std.specs.List.{All, flat_map}
use Rattle.std.proofs.lemmas.List.Elements.{All-nil, All-cons, All-head, All-tail, All-contains}
use Rattle.object_helpers.specs.Accepted.{IsAccepted}
use Rattle.object_helpers.specs.Entries.{AreEntries, IsReflective, IsMethodEntry, direct, proxy, IsTarget}
use Rattle.object_helpers.specs.Judged.{IsJudgedClass}
use Rattle.object_helpers.specs.Reachable.{Reachable}
use Rattle.object_helpers.specs.Rules.{Reads, Rule, call, reflective}
use Rattle.object_helpers.proofs.Classes.{result-keeps}
use Rattle.object_helpers.proofs.Defined.{last}
use Rattle.object_helpers.proofs.Plain.{class_found}
use Rattle.object_helpers.proofs.EntryTargets.{IsMethodsName, target_named, proxy_reached}
use Rattle.object_helpers.proofs.Worlds.{judged}
use Rattle.sj_text_files.proofs.ListedClasses.{file_is_listed}
use Rattle.sj_text_spec.specs.Rules.{HasListing, IsListedMethod, IsListedTree, AreListedTrees, AreListedCases}
use Rattle.sj_infos.specs.Forms.{form_of, of_base, of_test, of_cast, forms_by_body}
use Rattle.sj_infos.specs.Infos.{null_pointer, arithmetic, class_cast, index_out_of_bounds, array_store, negative_size, no_such_method, of_receiver, of_call, of_apply, of_member, of_static_call, is_other_than_zero, divides, of_base as asked_of_base, of_array, of_type, is_any, of_store, asks, asked_by_body}
use Rattle.sj_infos.specs.Sure.{is_primitive}
use Rattle.sj_infos.specs.Sure.{is_sure, sure_among}
use Rattle.sj_infos.specs.Trees.{trees, below, all_below, cases_below}
use Rattle.sj_infos.specs.declared.forms.BodyForm.{BodyForm}
use Rattle.sj_infos.specs.declared.forms.BodyForm.TheVariants as forms
use Rattle.sj_infos.specs.declared.infos.Info.{Info}
use Rattle.sj_infos.specs.declared.infos.Info.TheVariants as infos
use Rattle.sj_names.proofs.Same.{impossible}
use Rattle.sj_names.specs.MethodNames.{IsMethodName}
use Rattle.sj_names.specs.declared.entry_points.EntryPoint.{EntryPoint}
use Rattle.sj_names.specs.declared.folders.SourceFile.{SourceFile}
use Rattle.sj_names.specs.declared.method_names.Member.{Member}
use Rattle.sj_names.specs.declared.method_names.MethodName.{MethodName}
use Rattle.sj_names.specs.declared.method_names.Namespace.{Namespace}
use Rattle.sj_names.specs.declared.method_names.Namespace.TheVariants.{Public}
use Rattle.sj_names.specs.declared.references.BaseRef.{BaseRef}
use Rattle.sj_names.specs.declared.references.TypeRef.{TypeRef}
use Rattle.sj_trees.specs.Term.{Term, Terms, no_terms, more_terms, Cases, no_cases, more_cases, var_def, block_of, labeled, assign, return_to, if_then, while_loop, do_while, try_catch, try_finally, throw, match_on, new_object, load_module, store_module, select, select_static, apply, apply_statically, apply_static, unary_op, binary_op, new_array, array_value, array_length, array_select, is_instance_of, as_instance_of, log_line}
use Rattle.sj_trees.specs.TypeOf.{type_of_term}
use Rattle.sj_trees.specs.declared.classes.ClassDef.{ClassDef}
use Rattle.sj_trees.specs.declared.classes.MethodDef.{MethodDef}
use Rattle.sj_trees.specs.declared.types.IrType.{IrType}
use Rattle.sj_world.proofs.Searches.{contains_at}
use Rattle.sj_world.specs.Calls.{receiver_class}
use Rattle.sj_world.specs.Known.{Name, Classes}
use Rattle.sj_world.specs.Members.{IsMethodOf}
use Rattle.sj_world.specs.declared.facts.Fact.{Fact}
use Rattle.sj_world.specs.declared.facts.Fact.TheVariants.{Called}
use Rattle.sj_world.specs.declared.linked.MethodEntry.{MethodEntry}

joined : {X : Type 0} (P : X → Type 0) (xs ys : List X) → All P xs → All P ys → All P (xs ++ ys)
joined P [] ys h k = k
joined P (x ∷ xs) ys h k = All-cons P x (xs ++ ys) (All-head P x xs h) (joined P xs ys (All-tail P x xs h) k)

each_of : {X Y : Type 0} (P : X → Type 0) (Q : Y → Type 0) (f : X → List Y) → ((x : X) → P x → All Q (f x)) → (xs : List X) → All P xs → All Q (flat_map f xs)
each_of P Q f step [] h = All-nil Q
each_of P Q f step (x ∷ xs) h = joined Q (f x) (flat_map f xs) (step x (All-head P x xs h)) (each_of P Q f step xs (All-tail P x xs h))

-- a call by the class of its receiver, or by a reflective name, has a name in the grammar
abbrev IsNamed : Term → Type 0
IsNamed (apply p e m ts t) = IsMethodName m
IsNamed _ = Unit {0}

abbrev Each : List Term → Type 0
Each ts = All IsNamed ts

more : (t : Term) → IsNamed t → Each (below t) → Each (trees t)
more t h rest = All-cons IsNamed t (below t) h rest

two : (a b : Term) → Each (trees a) → Each (trees b) → Each (trees a ++ trees b)
two a b h k = joined IsNamed (trees a) (trees b) h k

mutual
  named : (t : Term) → IsListedTree t → Each (trees t)
  named (var_def p x t b e) h = more (var_def p x t b e) tt (named e h.2)
  named (block_of p ts) h = more (block_of p ts) tt (all_named ts h)
  named (labeled p l t e) h = more (labeled p l t e) tt (named e h.2)
  named (assign p a b) h = more (assign p a b) tt (two a b (named a h.0) (named b h.1))
  named (return_to p e l) h = more (return_to p e l) tt (named e h.0)
  named (if_then p c a b t) h = more (if_then p c a b t) tt (joined IsNamed (trees c ++ trees a) (trees b) (two c a (named c h.0) (named a h.1)) (named b h.2))
  named (while_loop p c b) h = more (while_loop p c b) tt (two c b (named c h.0) (named b h.1))
  named (do_while p b c) h = more (do_while p b c) tt (two b c (named b h.0) (named c h.1))
  named (try_catch p a x b t) h = more (try_catch p a x b t) tt (two a b (named a h.0) (named b h.2))
  named (try_finally p a b) h = more (try_finally p a b) tt (two a b (named a h.0) (named b h.1))
  named (throw p e) h = more (throw p e) tt (named e h)
  named (match_on p e cs d t) h = more (match_on p e cs d t) tt (joined IsNamed (trees e ++ cases_below cs) (trees d) (joined IsNamed (trees e) (cases_below cs) (named e h.0) (cases_named cs h.1)) (named d h.2))
  named (new_object p c m ts) h = more (new_object p c m ts) tt (all_named ts h.2)
  named (store_module p c e) h = more (store_module p c e) tt (named e h.1)
  named (select p e c f t) h = more (select p e c f t) tt (named e h.0)
  named (apply p e m ts t) h = more (apply p e m ts t) h.1.0 (joined IsNamed (trees e) (all_below ts) (named e h.0) (all_named ts h.2))
  named (apply_statically p e c n m ts t) h = more (apply_statically p e c n m ts t) tt (joined IsNamed (trees e) (all_below ts) (named e h.0) (all_named ts h.3))
  named (apply_static p c n m ts t) h = more (apply_static p c n m ts t) tt (all_named ts h.2)
  named (unary_op p o e) h = more (unary_op p o e) tt (named e h)
  named (binary_op p o a b) h = more (binary_op p o a b) tt (two a b (named a h.0) (named b h.1))
  named (new_array p r e) h = more (new_array p r e) tt (named e h.1)
  named (array_value p r ts) h = more (array_value p r ts) tt (all_named ts h.1)
  named (array_length p e) h = more (array_length p e) tt (named e h)
  named (array_select p a b t) h = more (array_select p a b t) tt (two a b (named a h.0) (named b h.1))
  named (is_instance_of p e t) h = more (is_instance_of p e t) tt (named e h.0)
  named (as_instance_of p e t) h = more (as_instance_of p e t) tt (named e h.0)
  named (log_line p e) h = more (log_line p e) tt (named e h)
  named t h = more t tt (All-nil IsNamed)

  all_named : (ts : Terms) → AreListedTrees ts → Each (all_below ts)
  all_named no_terms h = All-nil IsNamed
  all_named (more_terms t ts) h = joined IsNamed (trees t) (all_below ts) (named t h.0) (all_named ts h.1)

  cases_named : (cs : Cases) → AreListedCases cs → Each (cases_below cs)
  cases_named no_cases h = All-nil IsNamed
  cases_named (more_cases keys t cs) h = joined IsNamed (trees t) (cases_below cs) (named t h.1) (cases_named cs h.2)

-- what is asked for by such a call has the name too
abbrev IsGood : Info → Type 0
IsGood (infos.Called c m) = IsMethodName m
IsGood _ = Unit {0}

abbrev AreGood : List Info → Type 0
AreGood os = All IsGood os

none_good : AreGood []
none_good = All-nil IsGood

one_good : (o : Info) → IsGood o → AreGood (o ∷ [])
one_good o h = All-cons IsGood o [] h none_good

both_good : (os qs : List Info) → AreGood os → AreGood qs → AreGood (os ++ qs)
both_good os qs h k = joined IsGood os qs h k

maybe_good : (b : Bool) (os qs : List Info) → AreGood os → AreGood qs → AreGood (if b then os else qs)
maybe_good true os qs h k = h
maybe_good false os qs h k = k

receiver_good : (sure : List (List ℕ)) (e : Term) → AreGood (of_receiver sure e)
receiver_good sure e = maybe_good (is_sure sure e) [] null_pointer none_good (one_good (infos.Throws (codes "java.lang.NullPointerException")) tt)

call_good : (m : MethodName) → IsMethodName m → (o : Option (List ℕ)) → AreGood (of_call m o)
call_good m h None = none_good
call_good m h (Some c) = one_good (infos.Called c m) h

apply_good : (sure : List (List ℕ)) (e : Term) (m : MethodName) → IsMethodName m → AreGood (of_apply sure e m)
apply_good sure e m h = maybe_good (is_none m.result) (infos.Reflective m ∷ of_receiver sure e ++ no_such_method) (of_call m (receiver_class (type_of_term e)) ++ of_receiver sure e)
    (All-cons IsGood (infos.Reflective m) (of_receiver sure e ++ no_such_method) tt (both_good (of_receiver sure e) no_such_method (receiver_good sure e) (one_good (infos.Throws (codes "java.lang.NoSuchMethodException")) tt)))
    (both_good (of_call m (receiver_class (type_of_term e))) (of_receiver sure e) (call_good m h (receiver_class (type_of_term e))) (receiver_good sure e))

member_good : (c : List ℕ) (n : Namespace) (m : MethodName) → AreGood (of_member c n m)
member_good c n m = one_good (infos.Static (record { class = c; namespace = n; method = m })) tt

static_good : (c : List ℕ) (n : Namespace) (m : MethodName) → AreGood (of_static_call c n m)
static_good c Public m = one_good (infos.Resolved c m) tt
static_good c n m = member_good c n m

base_good : (b : BaseRef) → AreGood (asked_of_base b)
base_good (BaseRef.Class c) = one_good (infos.Class c) tt
base_good _ = none_good

array_good : (b : BaseRef) → AreGood (asked_of_base b ++ infos.ArrayForm ∷ [])
array_good b = both_good (asked_of_base b) (infos.ArrayForm ∷ []) (base_good b) (one_good infos.ArrayForm tt)

type_good : (t : IrType) → AreGood (of_type t)
type_good (IrType.Class c) = one_good (infos.Class c) tt
type_good (IrType.Array r) = array_good r.base
type_good _ = none_good

store_good : (a : Term) → AreGood (of_store a)
store_good (array_select p a i t) = maybe_good (is_primitive t) [] array_store none_good (one_good (infos.Throws (codes "java.lang.ArrayStoreException")) tt)
store_good _ = none_good

good : (sure : List (List ℕ)) (t : Term) → IsNamed t → AreGood (asks sure t)
good sure (assign p a e) h = store_good a
good sure (new_object p c k ts) h = one_good (infos.New c k) tt
good sure (load_module p c) h = one_good (infos.Load c) tt
good sure (select p e c f t) h = All-cons IsGood (infos.Field c f false) (of_receiver sure e) tt (receiver_good sure e)
good sure (select_static p c f t) h = one_good (infos.Field c f true) tt
good sure (apply p e m ts t) h = apply_good sure e m h
good sure (apply_statically p e c n m ts t) h = both_good (of_static_call c n m) (of_receiver sure e) (static_good c n m) (receiver_good sure e)
good sure (apply_static p c n m ts t) h = member_good c n m
good sure (binary_op p o a b) h = maybe_good (divides o && not (is_other_than_zero b)) arithmetic [] (one_good (infos.Throws (codes "java.lang.ArithmeticException")) tt) none_good
good sure (new_array p r e) h = both_good (of_array r) negative_size (array_good r.base) (one_good (infos.Throws (codes "java.lang.NegativeArraySizeException")) tt)
good sure (array_value p r ts) h = array_good r.base
good sure (array_length p e) h = receiver_good sure e
good sure (array_select p e i t) h = both_good (of_receiver sure e) index_out_of_bounds (receiver_good sure e) (one_good (infos.Throws (codes "java.lang.ArrayIndexOutOfBoundsException")) tt)
good sure (is_instance_of p e t) h = type_good t
good sure (as_instance_of p e t) h = both_good (of_type t) (if is_any t then [] else class_cast) (type_good t) (maybe_good (is_any t) [] class_cast none_good (one_good (infos.Throws (codes "java.lang.ClassCastException")) tt))
good sure _ h = none_good

-- and so has a form
abbrev IsFine : BodyForm → Type 0
IsFine (forms.Reflective p) = IsMethodName p
IsFine _ = Unit {0}

abbrev AreFine : List BodyForm → Type 0
AreFine fs = All IsFine fs

none_fine : AreFine []
none_fine = All-nil IsFine

one_fine : (f : BodyForm) → IsFine f → AreFine (f ∷ [])
one_fine f h = All-cons IsFine f [] h none_fine

base_fine : (b : BaseRef) → AreFine (of_base b)
base_fine (BaseRef.Class c) = one_fine (forms.Base c) tt
base_fine _ = none_fine

test_fine : (t : IrType) → AreFine (of_test t)
test_fine (IrType.Class c) = one_fine (forms.Test c) tt
test_fine (IrType.Array r) = base_fine r.base
test_fine _ = none_fine

cast_fine : (t : IrType) → AreFine (of_cast t)
cast_fine (IrType.Class c) = one_fine (forms.Cast c) tt
cast_fine (IrType.Array r) = base_fine r.base
cast_fine _ = none_fine

reflective_fine : (m : MethodName) → IsMethodName m → (b : Bool) → AreFine (if b then forms.Reflective m ∷ [] else [])
reflective_fine m h true = one_fine (forms.Reflective m) h
reflective_fine m h false = none_fine

fine : (t : Term) → IsNamed t → AreFine (form_of t)
fine (load_module p c) h = one_fine (forms.Load c) tt
fine (store_module p c e) h = one_fine (forms.Store c) tt
fine (apply p e m ts t) h = reflective_fine m h (is_none m.result)
fine (new_array p r e) h = base_fine r.base
fine (array_value p r ts) h = base_fine r.base
fine (is_instance_of p e t) h = test_fine t
fine (as_instance_of p e t) h = cast_fine t
fine _ h = none_fine

body_good : (o : Option Term) → MatchOption o (Unit {0}) IsListedTree → AreGood (asked_by_body o)
body_good None h = none_good
body_good (Some e) h = each_of IsNamed IsGood (asks (sure_among [] (trees e))) (good (sure_among [] (trees e))) (trees e) (named e h)

body_fine : (o : Option Term) → MatchOption o (Unit {0}) IsListedTree → AreFine (forms_by_body o)
body_fine None h = none_fine
body_fine (Some e) h = each_of IsNamed IsFine form_of fine (trees e) (named e h)

module _ (entries : List EntryPoint) (files : List SourceFile) (w : Classes) (a : IsAccepted entries files w) where
  -- each method of a class of the world has a listing
  listed : (class : ClassDef) → Contains w class → (d : MethodDef) → Contains class.methods d → IsListedMethod d
  listed class i d k =
      let its : IsJudgedClass class = judged entries files w a class i in
      let listing : HasListing class = file_is_listed its.bytes class its.read in
      All-contains IsListedMethod class.methods d listing.methods k

  of_member_of : (m : Member) (d : MethodDef) → IsMethodOf w m d → IsListedMethod d
  of_member_of m d h = listed h.class (class_found w m.class h.class h.is_class).0 d (contains_at h.class.methods h.first.place d h.first.stands)

  -- the name of a method that is defined
  defined_named : (m : MethodName) → IsMethodsName w m → IsMethodName m
  defined_named m h = subst IsMethodName h.name_is (listed h.is_defined.class h.is_defined.in_world h.definition h.is_defined.among).0.0

  -- a name with a target
  pub target_name : (c : Name) (m : MethodName) (owner : Name) → IsTarget w c m owner → IsMethodName m
  target_name c m owner h = defined_named m (target_named w c m owner h)

  no_result : (o : Option TypeRef) → o ≡ None → is_some o ≡ true → ⊥
  no_result None e h = impossible h
  no_result (Some r) e h = absurd (cc)

  -- has a result
  pub target_result : (c : Name) (m : MethodName) (owner : Name) → IsTarget w c m owner → m.result ≢ None
  target_result c m owner h =
      let its : IsMethodsName w m = target_named w c m owner h in
      let k = its.is_defined in
      λ e. no_result its.definition.name.result (subst (λ (n : MethodName). n.result ≡ None) (sym its.name_is) e) (result-keeps k.class (judged entries files w a k.class k.in_world).unbroken its.definition k.among)

  -- a name under which a method is called
  pub called_name : (c : Name) (m : MethodName) → Reachable w entries (Called c m) → IsMethodName m
  called_name c m r = go (last w entries (Called c m) r)
    where
      asked_name : (d : Name) (n : MethodName) → Reads w entries (Reachable w entries) (infos.Called d n) → IsMethodName n
      asked_name d n reads = All-contains IsGood (asked_by_body reads.definition.body) (infos.Called d n) (body_good reads.definition.body (of_member_of reads.member reads.definition reads.defined).3) reads.asked

      go : Rule w entries (Reachable w entries) (Called c m) → IsMethodName m
      go (call _ _ reads free) = asked_name c m reads
      go (reflective _ p d owner reads made target) =
          let r = proxy_reached w c p d.name (record { definition = d; owner = owner; is_target = target; name_is = refl }) in
          defined_named d.name (record { definition = r.definition; is_defined = r.is_defined; name_is = r.name_is })

  -- a reflective name by which a body calls
  pub reflective_name : (facts : List Fact) (p : MethodName) → IsReflective w facts p → IsMethodName p
  reflective_name facts p r = All-contains IsFine (forms_by_body r.definition.body) (forms.Reflective p) (body_fine r.definition.body (of_member_of r.member r.definition r.defined).3) r.calls

  -- the names of method entries
  pub entry_names : (facts : List Fact) (es : List MethodEntry) → AreEntries w facts es → (e : MethodEntry) → Contains es e → IsMethodName e.name
  entry_names facts es are e i = go e ((are.exact e).0 i)
    where
      go : (e : MethodEntry) → IsMethodEntry w facts e → IsMethodName e.name
      go _ (direct c owner m h) = target_name c m owner h.is_target
      go _ (proxy c p t h) = reflective_name facts p h.reflective
