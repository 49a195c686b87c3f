-- Fields of typed bodies are those of objects, and what desugaring gives for a body can be printed.
use Rattle.std.proofs.Common.{◌≡◌, ◌++◌, Bool, true, false, List, [], ◌∷◌, Option, Some, None, refl, sym, subst, ◌∙◌, Contains}
use Rattle.std.specs.List.{All}
use Rattle.std.proofs.lemmas.List.Elements.{All-head, All-tail}
use Rattle.linked_modules.proofs.Calls.{needed}
use Rattle.linked_modules.proofs.Members.{defined}
use Rattle.linked_modules.proofs.Objects as objects
use Rattle.linked_modules.proofs.Worlds.{judged}
use Rattle.linked_modules.specs.Accepted.{IsAccepted}
use Rattle.linked_modules.specs.Bodies.{AreBodies}
use Rattle.agree_soundness.proofs.Chains.{no_primitive}
use Rattle.agree_soundness.specs.Worlds.{AreClassesKept, HasFields}
use Rattle.linked_modules.proofs.Given.{all_from}
use Rattle.linked_modules.proofs.Standing.{Stands, each_stands}
use Rattle.linked_modules.proofs.Uses.{ahead, after}
use Rattle.linked_modules.proofs.Written as written
use Rattle.linked_modules.proofs.Fields.{field_there}
use Rattle.sj_reach.specs.Refusals.{hijacked}
use Rattle.sj_desugar.specs.Methods.{desugared_with}
use Rattle.sj_infos.specs.Trees.{trees, all_below, cases_below}
use Rattle.sj_names.proofs.Same.{impossible}
use Rattle.sj_names.specs.declared.entry_points.EntryPoint.{EntryPoint}
use Rattle.sj_names.specs.declared.folders.SourceFile.{SourceFile}
use Rattle.sj_emit_expr_pieces.specs.Keys.{HasKeys}
use Rattle.sj_emit_expr_pieces.proofs.Keyed.{member-keyed}
use Rattle.sj_emit_expr_pieces.proofs.Owned.{member-owned}
use Rattle.sj_text_files.proofs.ListedClasses.{file_is_listed}
use Rattle.folder_linking.specs.Functions.{AreListed}
use Rattle.sj_emit_expr_pieces.specs.Owners.{OnObjects, AllOnObjects, CasesOnObjects, BodyOnObjects, FieldsHaveOwners}
use Rattle.agree_soundness.specs.EmittedMethods.{EmittedMethod}
use Rattle.sj_trees.specs.Term.{Term, Terms, no_terms, more_terms, Cases, no_cases, more_cases, var_def, block_of, labeled, assign, return_to, if_then, while_loop, do_while, throw, try_catch, try_finally, match_on, new_object, store_module, select, select_static, apply, apply_statically, apply_static, unary_op, binary_op, new_array, array_value, array_length, array_select, is_instance_of, as_instance_of, var_ref, log_line}
use Rattle.sj_trees.specs.TypeOf.{type_of_term}
use Rattle.sj_trees.specs.Types.{class_type}
use Rattle.sj_trees.specs.declared.classes.ClassDef.{ClassDef}
use Rattle.sj_trees.specs.declared.classes.MethodDef.{MethodDef}
use Rattle.sj_trees.specs.declared.types.IrType.{IrType}
use Rattle.sj_trees.specs.declared.types.IrType.TheVariants as types
use Rattle.sj_local.specs.Broken.{FirstBroken}
use Rattle.sj_names.specs.WellKnown.{is_hijacked}
use Rattle.sj_world.specs.Known.{Name, Classes}
use Rattle.sj_world.specs.Subtypes.{IsSub, hijacked_class}
use Rattle.sure_receivers.specs.Sure.{is_sure_type}
use Rattle.agree_soundness.specs.SjTypingSpecRules.{HasFieldType, IsArray, HasItems}
use Rattle.folder_judging.specs.Typed.{MeetsThere}

-- a field, a length or an item is one of no tree of a primitive type
abbrev IsOfObject : Term → Type 0
IsOfObject (select p e c f t) = is_sure_type (type_of_term e) ≡ false
IsOfObject (array_length p e) = is_sure_type (type_of_term e) ≡ false
IsOfObject (array_select p e i t) = is_sure_type (type_of_term e) ≡ false
IsOfObject _ = Unit {0}

abbrev Each : List Term → Type 0
Each = All IsOfObject

mutual
  on_objects : (t : Term) → Each (trees t) → OnObjects t
  on_objects (var_def p x t b e) h = on_objects e (All-tail IsOfObject (var_def p x t b e) (trees e) h)
  on_objects (block_of p ts) h = all_on_objects ts (All-tail IsOfObject (block_of p ts) (all_below ts) h)
  on_objects (labeled p l t e) h = on_objects e (All-tail IsOfObject (labeled p l t e) (trees e) h)
  on_objects (assign p (var_ref q x t) e) h = on_objects e (after IsOfObject (trees (var_ref q x t)) (trees e) (All-tail IsOfObject (assign p (var_ref q x t) e) (trees (var_ref q x t) ++ trees e) h))
  on_objects (assign p (select q d c f t) e) h =
      let both = All-tail IsOfObject (assign p (select q d c f t) e) (trees (select q d c f t) ++ trees e) h in
      let own = ahead IsOfObject (trees (select q d c f t)) (trees e) both in
      (All-head IsOfObject (select q d c f t) (trees d) own, on_objects d (All-tail IsOfObject (select q d c f t) (trees d) own), on_objects e (after IsOfObject (trees (select q d c f t)) (trees e) both))
  on_objects (assign p (select_static q c f t) e) h = on_objects e (after IsOfObject (trees (select_static q c f t)) (trees e) (All-tail IsOfObject (assign p (select_static q c f t) e) (trees (select_static q c f t) ++ trees e) h))
  on_objects (assign p (array_select q d i t) e) h =
      let both = All-tail IsOfObject (assign p (array_select q d i t) e) (trees (array_select q d i t) ++ trees e) h in
      let own = ahead IsOfObject (trees (array_select q d i t)) (trees e) both in
      let parts = All-tail IsOfObject (array_select q d i t) (trees d ++ trees i) own in
      (All-head IsOfObject (array_select q d i t) (trees d ++ trees i) own, on_objects d (ahead IsOfObject (trees d) (trees i) parts), on_objects i (after IsOfObject (trees d) (trees i) parts), on_objects e (after IsOfObject (trees (array_select q d i t)) (trees e) both))
  on_objects (return_to p e l) h = on_objects e (All-tail IsOfObject (return_to p e l) (trees e) h)
  on_objects (if_then p c a b t) h =
      let all = All-tail IsOfObject (if_then p c a b t) ((trees c ++ trees a) ++ trees b) h in
      let front = ahead IsOfObject (trees c ++ trees a) (trees b) all in
      (on_objects c (ahead IsOfObject (trees c) (trees a) front), on_objects a (after IsOfObject (trees c) (trees a) front), on_objects b (after IsOfObject (trees c ++ trees a) (trees b) all))
  on_objects (while_loop p c b) h = let all = All-tail IsOfObject (while_loop p c b) (trees c ++ trees b) h in (on_objects c (ahead IsOfObject (trees c) (trees b) all), on_objects b (after IsOfObject (trees c) (trees b) all))
  on_objects (do_while p b c) h = let all = All-tail IsOfObject (do_while p b c) (trees b ++ trees c) h in (on_objects b (ahead IsOfObject (trees b) (trees c) all), on_objects c (after IsOfObject (trees b) (trees c) all))
  on_objects (try_catch p e x d t) h = let all = All-tail IsOfObject (try_catch p e x d t) (trees e ++ trees d) h in (on_objects e (ahead IsOfObject (trees e) (trees d) all), on_objects d (after IsOfObject (trees e) (trees d) all))
  on_objects (try_finally p e d) h = let all = All-tail IsOfObject (try_finally p e d) (trees e ++ trees d) h in (on_objects e (ahead IsOfObject (trees e) (trees d) all), on_objects d (after IsOfObject (trees e) (trees d) all))
  on_objects (throw p e) h = on_objects e (All-tail IsOfObject (throw p e) (trees e) h)
  on_objects (match_on p e cs d t) h =
      let all = All-tail IsOfObject (match_on p e cs d t) ((trees e ++ cases_below cs) ++ trees d) h in
      let front = ahead IsOfObject (trees e ++ cases_below cs) (trees d) all in
      (on_objects e (ahead IsOfObject (trees e) (cases_below cs) front), cases_on_objects cs (after IsOfObject (trees e) (cases_below cs) front), on_objects d (after IsOfObject (trees e ++ cases_below cs) (trees d) all))
  on_objects (new_object p c m ts) h = all_on_objects ts (All-tail IsOfObject (new_object p c m ts) (all_below ts) h)
  on_objects (store_module p c e) h = on_objects e (All-tail IsOfObject (store_module p c e) (trees e) h)
  on_objects (select p e c f t) h = (All-head IsOfObject (select p e c f t) (trees e) h, on_objects e (All-tail IsOfObject (select p e c f t) (trees e) h))
  on_objects (apply p e m ts t) h = let all = All-tail IsOfObject (apply p e m ts t) (trees e ++ all_below ts) h in (on_objects e (ahead IsOfObject (trees e) (all_below ts) all), all_on_objects ts (after IsOfObject (trees e) (all_below ts) all))
  on_objects (apply_statically p e c n m ts t) h = let all = All-tail IsOfObject (apply_statically p e c n m ts t) (trees e ++ all_below ts) h in (on_objects e (ahead IsOfObject (trees e) (all_below ts) all), all_on_objects ts (after IsOfObject (trees e) (all_below ts) all))
  on_objects (apply_static p c n m ts t) h = all_on_objects ts (All-tail IsOfObject (apply_static p c n m ts t) (all_below ts) h)
  on_objects (new_array p r e) h = on_objects e (All-tail IsOfObject (new_array p r e) (trees e) h)
  on_objects (array_value p r ts) h = all_on_objects ts (All-tail IsOfObject (array_value p r ts) (all_below ts) h)
  on_objects (array_length p e) h = (All-head IsOfObject (array_length p e) (trees e) h, on_objects e (All-tail IsOfObject (array_length p e) (trees e) h))
  on_objects (array_select p e i t) h =
      let parts = All-tail IsOfObject (array_select p e i t) (trees e ++ trees i) h in
      (All-head IsOfObject (array_select p e i t) (trees e ++ trees i) h, on_objects e (ahead IsOfObject (trees e) (trees i) parts), on_objects i (after IsOfObject (trees e) (trees i) parts))
  on_objects (unary_op p o e) h = on_objects e (All-tail IsOfObject (unary_op p o e) (trees e) h)
  on_objects (is_instance_of p e t) h = on_objects e (All-tail IsOfObject (is_instance_of p e t) (trees e) h)
  on_objects (as_instance_of p e t) h = on_objects e (All-tail IsOfObject (as_instance_of p e t) (trees e) h)
  on_objects (binary_op p o e d) h = let all = All-tail IsOfObject (binary_op p o e d) (trees e ++ trees d) h in (on_objects e (ahead IsOfObject (trees e) (trees d) all), on_objects d (after IsOfObject (trees e) (trees d) all))
  on_objects (log_line p e) h = on_objects e (All-tail IsOfObject (log_line p e) (trees e) h)
  on_objects _ h = tt

  all_on_objects : (ts : Terms) → Each (all_below ts) → AllOnObjects ts
  all_on_objects no_terms h = tt
  all_on_objects (more_terms t ts) h = (on_objects t (ahead IsOfObject (trees t) (all_below ts) h), all_on_objects ts (after IsOfObject (trees t) (all_below ts) h))

  cases_on_objects : (cs : Cases) → Each (cases_below cs) → CasesOnObjects cs
  cases_on_objects no_cases h = tt
  cases_on_objects (more_cases [] e cs) h = cases_on_objects cs (after IsOfObject (trees e) (cases_below cs) h)
  cases_on_objects (more_cases (n ∷ ns) e cs) h = (on_objects e (ahead IsOfObject (trees e) (cases_below cs) h), cases_on_objects cs (after IsOfObject (trees e) (cases_below cs) h))

-- the class of a primitive type
class_of_sure : (t : IrType) → is_sure_type t ≡ true → (h : Name) × (hijacked_class t ≡ Some h)
class_of_sure types.Undefined e = (_, refl)
class_of_sure types.Boolean e = (_, refl)
class_of_sure types.Char e = (_, refl)
class_of_sure types.Byte e = (_, refl)
class_of_sure types.Short e = (_, refl)
class_of_sure types.Int e = (_, refl)
class_of_sure types.Long e = (_, refl)
class_of_sure types.String e = (_, refl)
class_of_sure types.Any e = impossible e
class_of_sure types.Nothing e = impossible e
class_of_sure types.Null e = impossible e
class_of_sure types.NoType e = impossible e
class_of_sure (types.Class c) e = impossible e
class_of_sure (types.Array r) e = impossible e

some_name : (a b : Name) → Some a ≡ Some b → a ≡ b
some_name a b e = cc

no_name : (h : Name) → ◌≡◌ {A = Option Name} None (Some h) → ⊥
no_name h e = absurd (cc)

-- it is hijacked
is_hijacked_class : (t : IrType) (h : Name) → hijacked_class t ≡ Some h → is_hijacked h ≡ true
is_hijacked_class types.Undefined h e = subst (λ (n : Name). is_hijacked n ≡ true) (some_name _ h e) refl
is_hijacked_class types.Boolean h e = subst (λ (n : Name). is_hijacked n ≡ true) (some_name _ h e) refl
is_hijacked_class types.Char h e = subst (λ (n : Name). is_hijacked n ≡ true) (some_name _ h e) refl
is_hijacked_class types.Byte h e = subst (λ (n : Name). is_hijacked n ≡ true) (some_name _ h e) refl
is_hijacked_class types.Short h e = subst (λ (n : Name). is_hijacked n ≡ true) (some_name _ h e) refl
is_hijacked_class types.Int h e = subst (λ (n : Name). is_hijacked n ≡ true) (some_name _ h e) refl
is_hijacked_class types.Long h e = subst (λ (n : Name). is_hijacked n ≡ true) (some_name _ h e) refl
is_hijacked_class types.String h e = subst (λ (n : Name). is_hijacked n ≡ true) (some_name _ h e) refl
is_hijacked_class types.Any h e = absurd (no_name h e)
is_hijacked_class types.Nothing h e = absurd (no_name h e)
is_hijacked_class types.Null h e = absurd (no_name h e)
is_hijacked_class types.NoType h e = absurd (no_name h e)
is_hijacked_class (types.Class c) h e = absurd (no_name h e)
is_hijacked_class (types.Array r) h e = absurd (no_name h e)

-- an array is no primitive value
length_of_object : (t : IrType) → IsArray t → is_sure_type t ≡ false
length_of_object (types.Array r) h = refl
length_of_object _ h = absurd h

item_of_object : (t u : IrType) → HasItems t u → is_sure_type t ≡ false
item_of_object (types.Array r) u h = refl
item_of_object _ u h = absurd h

module _ (entries : List EntryPoint) (files : List SourceFile) (w : Classes) (a : IsAccepted entries files w) where
  kept : AreClassesKept w
  kept = objects.kept entries files w a

  pub all_listed : AreListed w
  all_listed c i = let j = judged entries files w a c i in file_is_listed j.bytes c j.read

  unbroken : (c : ClassDef) → Contains w c → FirstBroken c None
  unbroken c i = (judged entries files w a c i).unbroken

  -- no primitive value has a field
  of_object : (t : IrType) (c f : Name) (u : IrType) → IsSub w t (class_type c) → HasFieldType w c f false u → is_sure_type t ≡ false
  of_object t c f u sub field = go (is_sure_type t) refl
    where
      has : HasFields w c
      has = (field_there w unbroken c f u (written.field_there w c f u field)).0

      go : (b : Bool) → is_sure_type t ≡ b → is_sure_type t ≡ false
      go false e = e
      go true e = let k = class_of_sure t e in absurd (no_primitive w kept c t k.0 has k.1 (objects.write_interfaces entries files w a k.0 (hijacked (is_hijacked_class t k.0 k.1))) sub)

  module _ (all : List EmittedMethod) (bodies : AreBodies w entries all) (e : EmittedMethod) (i : Contains all e) where
    tree_of_object : (t : Term) → Stands (MeetsThere w e.definition.namespace) t → IsOfObject t
    tree_of_object (select p d c f t) s = of_object (type_of_term d) c f t s.asked.0 s.asked.1
    tree_of_object (array_length p d) s = length_of_object (type_of_term d) s.asked
    tree_of_object (array_select p d n t) s = item_of_object (type_of_term d) t s.asked.0
    tree_of_object t s = tt

    -- a needed body
    pub body_on_objects : OnObjects e.its_body
    body_on_objects =
        let typed = a.typed e.member e.definition (needed w entries all bodies e i) (defined w e.member e.definition (bodies.found e i).found) in
        let same : typed.body ≡ e.its_body = written.some_same typed.body e.its_body (sym typed.has_body ∙ (bodies.found e i).has_body) in
        let stands = subst (λ (b : Term). All (Stands (MeetsThere w e.definition.namespace)) (trees b)) same (each_stands (MeetsThere w e.definition.namespace) typed.body [] 0 typed.met) in
        on_objects e.its_body (all_from IsOfObject (trees e.its_body) (λ t among. tree_of_object t (written.all_at (Stands (MeetsThere w e.definition.namespace)) (trees e.its_body) stands t among)))

-- a method has what each body that it may have has
pub with_keys : (d : MethodDef) (body : Option Term) → HasKeys (desugared_with d body)
with_keys d None = tt
with_keys d (Some e) = member-keyed d e

pub with_owners : (d : MethodDef) (body : Option Term) → BodyOnObjects body → FieldsHaveOwners (desugared_with d body)
with_owners d None objects = tt
with_owners d (Some e) objects = member-owned d e objects
