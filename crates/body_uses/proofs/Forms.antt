-- The bodies that are needed in an accepted folder are of the forms that are built, and so they are built with what is written.
use Rattle.std.proofs.Common.{arith, ◌≡◌, ◌≤◌, ◌^◌, length, Bool, true, false, ◌&&◌, List, [], ◌∷◌, ◌++◌, Option, Some, refl, sym, subst, ap, ◌∙◌, Contains, codes, if◌then◌else◌}
use Rattle.std.specs.List.{All}
use Rattle.std.proofs.lemmas.Bool.{and_from, lt-ltb}
use Rattle.std.proofs.lemmas.List.Elements.{All-head, All-tail}
use Rattle.body_uses.proofs.Given.{all_from}
use Rattle.body_uses.proofs.Standing.{Stands}
use Rattle.body_uses.proofs.Uses.{ahead, after}
use Rattle.body_uses.proofs.Written.{tree_stands, all_at, body_built}
use Rattle.body_uses.specs.Laws.{AcceptedBodiesUseWhatIsWritten}
use Rattle.body_uses.proofs.Sizes.{parts_small, items_small}
use Rattle.sj_read_sizes.proofs.ClassSizes.{bodies_are_small}
use Rattle.object_folders.proofs.Calls.{needed}
use Rattle.object_folders.proofs.Classes.{class-keeps, init-keeps}
use Rattle.object_folders.proofs.Derivations.{closed}
use Rattle.object_folders.proofs.EachTyped.{in_all}
use Rattle.object_folders.proofs.Found.{OwnerOf, owner_of, here}
use Rattle.object_folders.proofs.AcceptedFoldersWorlds.{judged, read_small}
use Rattle.object_folders.proofs.Members.{defined}
use Rattle.object_folders.proofs.Stores.{targets_kept}
use Rattle.object_folders.specs.Accepted.{IsAccepted}
use Rattle.object_folders.specs.Bodies.{AreBodies}
use Rattle.object_folders.specs.Built.{any_object, can_call, can_cast, has_base, has_no_value, is_based, is_operation, is_testable, are_countable, stands, is_built, are_built, are_built_cases, is_object_body}
use Rattle.object_folders.specs.EmittedMethods.{EmittedMethod}
use Rattle.object_folders.specs.Kept.{KeepsTreeRules}
use Rattle.object_folders.specs.Reachable.{Reachable}
use Rattle.object_folders.specs.Rules.{Reads, of_new, asked_body}
use Rattle.object_folders.specs.Typed.{MeetsThere}
use Rattle.object_folders.specs.SjTypingSpecRules.{IsReceiver, IsCastType, IsTestType, call_type}
use Rattle.sj_desugar_spec.specs.Callee.{Callee}
use Rattle.sj_desugar_spec.specs.CalleeVariants as callees
use Rattle.sj_ask.specs.Sizes.{size}
use Rattle.sj_desugar_spec.specs.Desugar.{callee_of, member, types_of}
use Rattle.sj_desugar_spec.specs.Plain.{is_no_type}
use Rattle.sj_infos.specs.Infos.{asks, asked_by_body, asked_in}
use Rattle.sj_infos.specs.Sure.{sure_among}
use Rattle.sj_infos.specs.Trees.{trees, below, all_below, cases_below}
use Rattle.sj_infos.specs.declared.infos.Info.{Info}
use Rattle.sj_infos.specs.declared.infos.Info.TheVariants.{New}
use Rattle.sj_local.specs.MemberRules.{is_void}
use Rattle.sj_local.specs.Names.{is_init}
use Rattle.sj_local.specs.TreeRules.{is_target}
use Rattle.sj_names.proofs.Same.{impossible}
use Rattle.sj_names.specs.WellKnown.{is_object}
use Rattle.sj_names.specs.declared.entry_points.EntryPoint.{EntryPoint}
use Rattle.sj_names.specs.declared.folders.SourceFile.{SourceFile}
use Rattle.sj_names.specs.declared.method_names.Member.{Member}
use Rattle.sj_names.specs.declared.method_names.MethodName.{MethodName}
use Rattle.sj_names.specs.declared.method_names.Namespace.{Namespace}
use Rattle.sj_names.specs.declared.method_names.Namespace.TheVariants.{Public, PublicStatic, Private, PrivateStatic, Constructor}
use Rattle.sj_names.specs.declared.references.ArrayRef.{ArrayRef}
use Rattle.sj_names.specs.declared.references.BaseRef.{BaseRef}
use Rattle.sj_names.specs.declared.references.TypeRef.{TypeRef}
use Rattle.sj_names.specs.declared.references.TypeRef.TheVariants.{Void}
use Rattle.sj_trees.specs.Term.{Term, Terms, Cases, no_terms, more_terms, no_cases, more_cases, var_def, block_of, labeled, assign, return_to, if_then, while_loop, do_while, try_catch, try_finally, throw, match_on, new_object, store_module, select, select_static, apply, apply_statically, apply_static, unary_op, binary_op, new_array, array_value, array_length, array_select, is_instance_of, as_instance_of, var_ref, log_line}
use Rattle.sj_trees.specs.TypeOf.{type_of_term}
use Rattle.sj_trees.specs.declared.operators.BinaryOp.{BinaryOp}
use Rattle.sj_trees.specs.declared.operators.BinaryOp.TheVariants.{StrictEqual, StrictNotEqual, IntDivide, IntRemainder, LongDivide, LongRemainder}
use Rattle.sj_trees.specs.declared.positions.Position.{Position}
use Rattle.sj_trees.specs.declared.types.IrType.{IrType}
use Rattle.sj_trees.specs.declared.types.IrType.TheVariants.{Any, Array, Class, Nothing, Null, NoType}
use Rattle.sj_world.specs.Known.{Name, Classes}
use Rattle.sj_world.specs.declared.facts.Fact.TheVariants.{Body}

abbrev unchecked : Term → Bool
unchecked e = true

abbrev Here : Term → Type 0
Here t = stands any_object unchecked t ≡ true

abbrev Each : List Term → Type 0
Each = All Here

-- what holds of each tree holds of those in it
own : (t : Term) → Each (trees t) → Here t
own t h = All-head Here t (below t) h

inner : (t : Term) → Each (trees t) → Each (below t)
inner t h = All-tail Here t (below t) h

front : (a : Term) (us : List Term) → Each (trees a ++ us) → Each (trees a)
front a us h = ahead Here (trees a) us h

rest : (a : Term) (us : List Term) → Each (trees a ++ us) → Each us
rest a us h = after Here (trees a) us h

mutual
  built : (t : Term) → Each (trees t) → is_built any_object unchecked t ≡ true
  built (var_def p x t b e) h = built e (inner (var_def p x t b e) h)
  built (block_of p ts) h = all_built ts (inner (block_of p ts) h)
  built (labeled p l t e) h = built e (inner (labeled p l t e) h)
  built (assign p (var_ref q x t) e) h = built e (rest (var_ref q x t) (trees e) (inner (assign p (var_ref q x t) e) h))
  built (assign p (select q d c f t) e) h = let parts = inner (assign p (select q d c f t) e) h in and_from (stands any_object unchecked (assign p (select q d c f t) e)) (is_built any_object unchecked d && is_built any_object unchecked e) (own (assign p (select q d c f t) e) h) (and_from (is_built any_object unchecked d) (is_built any_object unchecked e) (built d (inner (select q d c f t) (front (select q d c f t) (trees e) parts))) (built e (rest (select q d c f t) (trees e) parts)))
  built (assign p (select_static q c f t) e) h = and_from (stands any_object unchecked (assign p (select_static q c f t) e)) (is_built any_object unchecked e) (own (assign p (select_static q c f t) e) h) (built e (rest (select_static q c f t) (trees e) (inner (assign p (select_static q c f t) e) h)))
  built (assign p (array_select q d i t) e) h =
      let parts = inner (assign p (array_select q d i t) e) h in
      let items = inner (array_select q d i t) (front (array_select q d i t) (trees e) parts) in
      and_from (stands any_object unchecked (assign p (array_select q d i t) e)) (is_built any_object unchecked d && (is_built any_object unchecked i && is_built any_object unchecked e)) (own (assign p (array_select q d i t) e) h) (and_from (is_built any_object unchecked d) (is_built any_object unchecked i && is_built any_object unchecked e) (built d (front d (trees i) items)) (and_from (is_built any_object unchecked i) (is_built any_object unchecked e) (built i (rest d (trees i) items)) (built e (rest (array_select q d i t) (trees e) parts))))
  built (return_to p e l) h = built e (inner (return_to p e l) h)
  built (if_then p c a b t) h =
      let parts : Each (trees c ++ trees a ++ trees b) = inner (if_then p c a b t) h in
      let head = ahead Here (trees c ++ trees a) (trees b) parts in
      and_from (is_built any_object unchecked c) (is_built any_object unchecked a && is_built any_object unchecked b) (built c (front c (trees a) head)) (and_from (is_built any_object unchecked a) (is_built any_object unchecked b) (built a (rest c (trees a) head)) (built b (after Here (trees c ++ trees a) (trees b) parts)))
  built (while_loop p c b) h = let parts = inner (while_loop p c b) h in and_from (is_built any_object unchecked c) (is_built any_object unchecked b) (built c (front c (trees b) parts)) (built b (rest c (trees b) parts))
  built (do_while p b c) h = let parts = inner (do_while p b c) h in and_from (is_built any_object unchecked b) (is_built any_object unchecked c) (built b (front b (trees c) parts)) (built c (rest b (trees c) parts))
  built (try_catch p e x d t) h = let parts = inner (try_catch p e x d t) h in and_from (is_built any_object unchecked e) (is_built any_object unchecked d) (built e (front e (trees d) parts)) (built d (rest e (trees d) parts))
  built (try_finally p e d) h = let parts = inner (try_finally p e d) h in and_from (is_built any_object unchecked e) (is_built any_object unchecked d) (built e (front e (trees d) parts)) (built d (rest e (trees d) parts))
  built (throw p e) h = built e (inner (throw p e) h)
  built (match_on p e cs d t) h =
      let parts : Each (trees e ++ cases_below cs ++ trees d) = inner (match_on p e cs d t) h in
      let head = ahead Here (trees e ++ cases_below cs) (trees d) parts in
      and_from (is_built any_object unchecked e) (are_built_cases any_object unchecked cs && is_built any_object unchecked d) (built e (front e (cases_below cs) head)) (and_from (are_built_cases any_object unchecked cs) (is_built any_object unchecked d) (cases_built cs (rest e (cases_below cs) head)) (built d (after Here (trees e ++ cases_below cs) (trees d) parts)))
  built (new_object p c m ts) h = and_from (stands any_object unchecked (new_object p c m ts)) (are_built any_object unchecked ts) (own (new_object p c m ts) h) (all_built ts (inner (new_object p c m ts) h))
  built (store_module p c e) h = built e (inner (store_module p c e) h)
  built (select p e c f t) h = built e (inner (select p e c f t) h)
  built (apply p e m ts t) h = let parts = inner (apply p e m ts t) h in and_from (stands any_object unchecked (apply p e m ts t)) (is_built any_object unchecked e && are_built any_object unchecked ts) (own (apply p e m ts t) h) (and_from (is_built any_object unchecked e) (are_built any_object unchecked ts) (built e (front e (all_below ts) parts)) (all_built ts (rest e (all_below ts) parts)))
  built (apply_statically p e c n m ts t) h = let parts = inner (apply_statically p e c n m ts t) h in and_from (stands any_object unchecked (apply_statically p e c n m ts t)) (is_built any_object unchecked e && are_built any_object unchecked ts) (own (apply_statically p e c n m ts t) h) (and_from (is_built any_object unchecked e) (are_built any_object unchecked ts) (built e (front e (all_below ts) parts)) (all_built ts (rest e (all_below ts) parts)))
  built (apply_static p c n m ts t) h = all_built ts (inner (apply_static p c n m ts t) h)
  built (unary_op p o e) h = built e (inner (unary_op p o e) h)
  built (binary_op p o e d) h = let parts = inner (binary_op p o e d) h in and_from (stands any_object unchecked (binary_op p o e d)) (is_built any_object unchecked e && is_built any_object unchecked d) (own (binary_op p o e d) h) (and_from (is_built any_object unchecked e) (is_built any_object unchecked d) (built e (front e (trees d) parts)) (built d (rest e (trees d) parts)))
  built (new_array p r e) h = and_from (stands any_object unchecked (new_array p r e)) (is_built any_object unchecked e) (own (new_array p r e) h) (built e (inner (new_array p r e) h))
  built (array_value p r ts) h = and_from (stands any_object unchecked (array_value p r ts)) (are_built any_object unchecked ts) (own (array_value p r ts) h) (all_built ts (inner (array_value p r ts) h))
  built (array_length p e) h = built e (inner (array_length p e) h)
  built (array_select p e i t) h = let parts = inner (array_select p e i t) h in and_from (is_built any_object unchecked e) (is_built any_object unchecked i) (built e (front e (trees i) parts)) (built i (rest e (trees i) parts))
  built (is_instance_of p e t) h = and_from (stands any_object unchecked (is_instance_of p e t)) (is_built any_object unchecked e) (own (is_instance_of p e t) h) (built e (inner (is_instance_of p e t) h))
  built (as_instance_of p e t) h = and_from (stands any_object unchecked (as_instance_of p e t)) (is_built any_object unchecked e) (own (as_instance_of p e t) h) (built e (inner (as_instance_of p e t) h))
  built (log_line p e) h = built e (inner (log_line p e) h)
  built t h = own t h

  all_built : (ts : Terms) → Each (all_below ts) → are_built any_object unchecked ts ≡ true
  all_built no_terms h = refl
  all_built (more_terms t ts) h = and_from (is_built any_object unchecked t) (are_built any_object unchecked ts) (built t (front t (all_below ts) h)) (all_built ts (rest t (all_below ts) h))

  cases_built : (cs : Cases) → Each (cases_below cs) → are_built_cases any_object unchecked cs ≡ true
  cases_built no_cases h = refl
  cases_built (more_cases [] e cs) h = cases_built cs (rest e (cases_below cs) h)
  cases_built (more_cases (k ∷ ks) e cs) h = and_from (is_built any_object unchecked e) (are_built_cases any_object unchecked cs) (built e (front e (cases_below cs) h)) (cases_built cs (rest e (cases_below cs) h))

-- every callee can be called, and every base and every operator is there
called : (k : Callee) → can_call any_object k ≡ true
called (callees.Member m) = refl
called (callees.LookedUp c m) = refl
called (callees.OfArray m) = refl
called (callees.Reflective m) = refl

base_there : (b : BaseRef) → has_base any_object b ≡ true
base_there (BaseRef.Class c) = refl
base_there _ = refl

type_based : (t : IrType) → is_based any_object t ≡ true
type_based (Array r) = base_there r.base
type_based _ = refl

operation_there : (o : BinaryOp) (d : Term) → is_operation any_object o d ≡ true
operation_there StrictEqual d = refl
operation_there StrictNotEqual d = refl
operation_there IntDivide d = refl
operation_there IntRemainder d = refl
operation_there LongDivide d = refl
operation_there LongRemainder d = refl
operation_there _ d = refl

tested : (t : IrType) → IsTestType t → is_testable t ≡ true
tested Any h = absurd h
tested Nothing h = absurd h
tested Null h = absurd h
tested NoType h = absurd h
tested _ h = refl

casted : (t : IrType) → IsCastType t → can_cast any_object t ≡ true
casted Any h = refl
casted Nothing h = absurd h
casted Null h = absurd h
casted NoType h = absurd h
casted _ h = refl

targeted : (p : Position) (a d : Term) → is_target a ≡ true → Here (assign p a d)
targeted p (var_ref q x t) d h = refl
targeted p (select q e c f t) d h = refl
targeted p (select_static q c f t) d h = refl
targeted p (array_select q e k t) d h = refl
targeted p _ d h = impossible h

void_named : (r : Option TypeRef) → is_void r ≡ true → has_no_value r ≡ true
void_named (Some Void) h = refl
void_named _ h = impossible h

none_named : (r : Option TypeRef) → is_no_type (call_type r) ≡ true → has_no_value r ≡ true
none_named (Some Void) h = refl
none_named (Some (TypeRef.Class c)) h = of_class (is_object c) h
  where
    of_class : (b : Bool) → is_no_type (if b then Any else Class c) ≡ true → has_no_value (Some (TypeRef.Class c)) ≡ true
    of_class true k = impossible k
    of_class false k = impossible k
none_named _ h = impossible h

received : (p : Position) (e : Term) (c : Name) (n : Namespace) (m : MethodName) (ts : Terms) (t : IrType) → IsReceiver n e → t ≡ call_type m.result → Here (apply_statically p e c n m ts t)
received p e c Public m ts t r is = refl
received p e c Private m ts t r is = refl
received p e c PublicStatic m ts t r is = absurd r
received p e c PrivateStatic m ts t r is = absurd r
received p e c Constructor m ts t r is = by (is_no_type t) refl
  where
    by : (b : Bool) → is_no_type t ≡ b → (if is_no_type t then has_no_value m.result else true) ≡ true
    by true none = subst (λ (b : Bool). (if b then has_no_value m.result else true) ≡ true) (sym none) (none_named m.result (sym (ap is_no_type is) ∙ none))
    by false value = subst (λ (b : Bool). (if b then has_no_value m.result else true) ≡ true) (sym value) refl

module _ (entries : List EntryPoint) (files : List SourceFile) (w : Classes) (accepted : IsAccepted entries files w) (all : List EmittedMethod) (bodies : AreBodies w entries all) where
  -- what `new` calls is a constructor without a value
  module _ (e : EmittedMethod) (i : Contains all e) where
    reads : (o : Info) → Contains (asked_in e.its_body) o → Reads w entries (Reachable w entries) o
    reads o h = record {
      member = e.member;
      needed = needed w entries all bodies e i;
      definition = e.definition;
      defined = defined w e.member e.definition (bodies.found e i).found;
      asked = subst (λ (b : Option Term). Contains (asked_by_body b) o) (sym (bodies.found e i).has_body) h;
    }

    init_there : (p : Position) (c : Name) (m : MethodName) (ts : Terms) → Contains (trees e.its_body) (new_object p c m ts) → m.simple ≡ codes "<init>" → has_no_value m.result ≡ true
    init_there p c m ts among named =
        let k : Member = member c Constructor m in
        let asked = reads (New c m) (in_all (asks (sure_among [] (trees e.its_body))) (trees e.its_body) (new_object p c m ts) (New c m) among (here (New c m) [])) in
        let f = (bodies.exact k).1 (closed w entries (Body k) (asked_body k (of_new c m asked))) in
        let found = (bodies.found f.method f.listed).found in
        let its = owner_of w f.method.member f.method.definition found in
        let name : f.method.definition.name ≡ m = (defined w f.method.member f.method.definition found).first.has.name_is ∙ ap (λ (x : Member). x.method) f.is in
        let is_named : is_init f.method.definition.name.simple ≡ true = subst (λ (x : Name). is_init x ≡ true) (sym (ap (λ (x : MethodName). x.simple) name ∙ named)) refl in
        void_named m.result (subst (λ (x : MethodName). is_void x.result ≡ true) name (init-keeps its.owner (judged entries files w accepted its.owner its.in_world).unbroken f.method.definition its.listed is_named))

    its_owner : OwnerOf w e.member e.definition
    its_owner = owner_of w e.member e.definition (bodies.found e i).found

    kept : KeepsTreeRules its_owner.owner e.definition
    kept = class-keeps its_owner.owner (judged entries files w accepted its_owner.owner its_owner.in_world).unbroken e.definition its_owner.listed

    -- and no array is given more items than its file has bytes
    countable : (p : Position) (r : ArrayRef) (ts : Terms) → Contains (trees e.its_body) (array_value p r ts) → are_countable ts ≡ true
    countable p r ts among =
        let file = read_small entries files w accepted its_owner.owner its_owner.in_world in
        let whole : size e.its_body ≤ length file.bytes = bodies_are_small file.bytes its_owner.owner file.read e.definition its_owner.listed e.its_body (bodies.found e i).has_body in
        let array : size (array_value p r ts) ≤ size e.its_body = all_at (λ t. size t ≤ size e.its_body) (trees e.its_body) (parts_small (size e.its_body) e.its_body (omega arith)) (array_value p r ts) among in
        let items = items_small ts in
        let small = file.small in
        lt-ltb (length (types_of ts)) (2 ^ 31) (omega (arith, whole, array, items, small))

    stands_here : (t : Term) → Contains (trees e.its_body) t → Stands (MeetsThere w e.definition.namespace) t → Here t
    stands_here (assign p a d) among s = targeted p a d (targets_kept its_owner.owner e.definition e.its_body (bodies.found e i).has_body kept p a d among)
    stands_here (new_object p c m ts) among s = init_there p c m ts among s.asked.0
    stands_here (apply p d m ts t) among s = and_from (can_call any_object (callee_of (type_of_term d) m)) true (called (callee_of (type_of_term d) m)) refl
    stands_here (apply_statically p d c n m ts t) among s = received p d c n m ts t s.asked.0 s.asked.1
    stands_here (binary_op p o a d) among s = operation_there o d
    stands_here (new_array p r d) among s = base_there r.base
    stands_here (array_value p r ts) among s = and_from (has_base any_object r.base) (are_countable ts) (base_there r.base) (countable p r ts among)
    stands_here (is_instance_of p d t) among s = and_from (is_testable t) (is_based any_object t) (tested t s.asked.0) (type_based t)
    stands_here (as_instance_of p d t) among s = and_from (can_cast any_object t) (is_based any_object t) (casted t s.asked.0) (type_based t)
    stands_here _ among s = refl

    pub body_is_built : is_object_body e.definition e.its_body ≡ true
    body_is_built = built e.its_body (all_from Here (trees e.its_body) (λ t among. stands_here t among (tree_stands entries files w all accepted bodies e i t among)))

pub accepted_bodies : AcceptedBodiesUseWhatIsWritten
accepted_bodies entries files w facts all live helpers written accepted bodies uses e i here_written =
    body_built entries files w facts all live helpers written accepted bodies uses e i here_written (body_is_built entries files w accepted all bodies e i)
