-- A body that is built with what is there is built with what of it its code uses.
use Rattle.std.proofs.Common.{◌≡◌, Bool, true, false, List, [], ◌∷◌, refl, codes, Contains, ℕ}
use Rattle.std.specs.Prelude.{◌||◌, not}
use Rattle.std.proofs.lemmas.Bool.{and_parts, and_from}
use Rattle.std.proofs.lemmas.List.Elements.{All-head, All-tail}
use Rattle.std.specs.List.{All, list_all}
use Rattle.running_modules.specs.Typing.{may_check, is_built_with}
use Rattle.running_modules.proofs.Boxes.{box_used}
use Rattle.running_modules.proofs.Given.{all_from, completed_uses, in_uses, may_make_those}
use Rattle.running_modules.proofs.BodyUsesUses.{Gives, GivesReceived, or_first, or_second, tree}
use Rattle.running_modules.specs.Built.{Usable, can_box, can_look_up, has_base, is_based, may_make, is_built, body_boxes}
use Rattle.running_modules.specs.BodyUsesLaws.{used_by}
use Rattle.js_tree.specs.declared.items.Binding.{Binding}
use Rattle.sj_desugar_spec.specs.Desugar.{desugared_member, body_code, is_mutable_in, result_destination, member}
use Rattle.sj_emit_expr_spec.specs.Templates.{check_name}
use Rattle.sj_emit_expr_spec.specs.Uses.{object_binding, function_binding, class_use, static_use, setter_use, load_use, store_use, test_uses, cast_uses, base_uses, type_uses, looked_up_uses, call_uses, uses_of_all}
use Rattle.sj_desugar_spec.specs.CalleeVariants as callees
use Rattle.sj_infos.specs.Trees.{trees}
use Rattle.sj_names.specs.declared.method_names.MethodName.{MethodName}
use Rattle.sj_names.specs.declared.references.BaseRef.{BaseRef}
use Rattle.sj_trees.specs.declared.types.IrType.{IrType}
use Rattle.sj_trees.specs.declared.types.IrType.TheVariants.{Array}
use Rattle.sj_names.specs.declared.method_names.Namespace.{Namespace}
use Rattle.sj_names.specs.declared.method_names.Namespace.TheVariants.{Constructor, Public, Private}
use Rattle.sj_trees.specs.Term.{Term, new_object, new_array, array_value, load_module, store_module, select, select_static, apply_statically, apply_static, is_instance_of, as_instance_of, binary_op, apply}
use Rattle.sj_trees.specs.declared.classes.MethodDef.{MethodDef}
use Rattle.sure_receivers.specs.Sure.{is_sure, sure_locals}
use Rattle.module_uses.specs.Laws.{BodiesUseNoMore, DivisorsFit}
use Rattle.module_uses.specs.Used.{restricted}

module _ (has : Usable) (uses : Binding → Bool) where
  abbrev here : Usable
  here = restricted has uses

  abbrev IsUsed : Binding → Type 0
  IsUsed b = uses b ≡ true

  received_gives : (c : List ℕ) (n : Namespace) (m : MethodName) (t : IrType) → GivesReceived IsUsed has.lookup has here n c m t
  received_gives c Constructor m t = (and_from (has.built (member c Constructor m)) (uses (function_binding (member c Constructor m))), λ value. and_from (has.received (member c Constructor m)) (uses (function_binding (member c Constructor m))))
  received_gives c Public m t = and_from (has.received (has.lookup.target (member c Public m))) (uses (function_binding (has.lookup.target (member c Public m))))
  received_gives c Private m t = and_from (has.received (member c Private m)) (uses (function_binding (member c Private m)))
  received_gives c n m t = tt

  -- all that these name is used
  all_used : (bs : List Binding) → All IsUsed bs → list_all uses bs ≡ true
  all_used [] h = refl
  all_used (b ∷ bs) h = and_from (uses b) (list_all uses bs) (All-head IsUsed b bs h) (all_used bs (All-tail IsUsed b bs h))

  -- a method that can be looked up, where the function that tells primitive receivers apart is used if there may be some
  looked_gives : (c : List ℕ) (m : MethodName) → can_look_up has c m ≡ true → All IsUsed (looked_up_uses (has.lookup.has_hijacked c) m) → can_look_up here c m ≡ true
  looked_gives c m h u = let q = and_parts (has.looked_up c m) (has.dispatched m || not (has.lookup.has_hijacked c)) h in and_from (has.looked_up c m) (here.dispatched m || not (has.lookup.has_hijacked c)) q.0 (go (has.lookup.has_hijacked c) q.1 u)
    where
      first : (d : Bool) → (d || false) ≡ true → d ≡ true
      first true e = refl
      first false e = e

      go : (b : Bool) → (has.dispatched m || not b) ≡ true → All IsUsed (looked_up_uses b m) → (here.dispatched m || not b) ≡ true
      go true d u = or_first (here.dispatched m) false (and_from (has.dispatched m) (list_all uses (looked_up_uses true m)) (first (has.dispatched m) d) (all_used (looked_up_uses true m) u))
      go false d u = or_second (here.dispatched m) true refl

  -- a class that can be named as the base of an array
  base_gives : (b : BaseRef) → has_base has b ≡ true → All IsUsed (base_uses b) → has_base here b ≡ true
  base_gives (BaseRef.Class c) h u = and_from (has.bases c) (list_all uses (base_uses (BaseRef.Class c))) h (all_used (base_uses (BaseRef.Class c)) u)
  base_gives _ h u = refl

  type_gives : (t : IrType) → is_based has t ≡ true → All IsUsed (type_uses t) → is_based here t ≡ true
  type_gives (Array r) h u = base_gives r.base h u
  type_gives _ h u = refl

  module _ (e : Term) (fit : DivisorsFit e) where
    gives : (t : Term) → Contains (trees e) t → Gives IsUsed has.lookup has here t
    gives (apply_static p c n m ts t) i = and_from (has.linked (member c n m)) (uses (function_binding (member c n m)))
    gives (apply p d m ts t) i = (λ c same. received_gives c Public m t, (λ c same. looked_gives c m, (λ same h. h, λ n h u. and_from (has.reflected m) (list_all uses (call_uses has.lookup (callees.Reflective m))) h (all_used (call_uses has.lookup (callees.Reflective m)) u))))
    gives (apply_statically p d c n m ts t) i = received_gives c n m t
    gives (new_object p c m ts) i = λ h k f u. (and_from (has.built (member c Constructor m)) (uses (function_binding (member c Constructor m))) k f, and_from (has.made c) (uses (class_use c)) h u)
    gives (select p d c f t) i = λ h. h
    gives (select_static p c f t) i = (and_from (has.static_field c f t) (uses (static_use c f)), and_from (has.static_setter c f t) (uses (setter_use c f)))
    gives (load_module p c) i = and_from (has.modules c) (uses (load_use c))
    gives (store_module p c d) i = and_from (has.stored c) (uses (store_use c))
    gives (new_array p r d) i = (λ h u. h, base_gives r.base)
    gives (array_value p r ts) i = (λ h u. h, base_gives r.base)
    gives (is_instance_of p d t) i = (λ h u. and_from (has.tests t) (list_all uses (test_uses t)) h (all_used (test_uses t) u), type_gives t)
    gives (as_instance_of p d t) i = (λ h u. and_from (has.casts t) (list_all uses (cast_uses t)) h (all_used (cast_uses t) u), type_gives t)
    gives (binary_op p o a d) i = λ h. fit p o a d i
    gives t i = tt

  -- a receiver that isn't sure is checked by the helper
  check_used : (sure : List ℕ → Bool) (e : Term) → may_check has sure e ≡ true → is_sure sure e ≡ false → has.helper check_name ≡ true
  check_used sure e h n = go (is_sure sure e) n h
    where
      go : (b : Bool) → b ≡ false → (b || has.helper check_name) ≡ true → has.helper check_name ≡ true
      go true n h = absurd (cc)
      go false n h = h

  -- where objects that hold chars are made they can be made
  box_there : (boxed : Bool) → may_make has boxed ≡ true → boxed ≡ true → can_box has ≡ true
  box_there true h k = go (can_box has) h
    where
      go : (b : Bool) → (b || false) ≡ true → b ≡ true
      go true h = refl
      go false h = h
  box_there false h k = absurd (cc)

  pub built_here : (d : MethodDef) (e : Term) → is_built_with has d e ≡ true → DivisorsFit e → ((b : Binding) → Contains (used_by has.lookup d e) b → uses b ≡ true) → is_built_with here d e ≡ true
  built_here d e built fit used =
      let sure = sure_locals e in
      let code = body_code (is_mutable_in d e) d.result e in
      let whole = (desugared_member d e).body in
      let within = completed_uses IsUsed has.lookup d.namespace code (all_from IsUsed (uses_of_all has.lookup whole) (λ b i. used b (in_uses has.lookup whole b i))) in
      let parts = and_parts (may_make has (body_boxes d e)) (is_built has (may_check has sure) e) built in
      let each = all_from (Gives IsUsed has.lookup has here) (trees e) (gives e fit) in
      let made = may_make_those here (body_boxes d e) (λ h. and_from (can_box has) (uses (object_binding (codes "$C"))) (box_there (body_boxes d e) parts.0 h) (box_used IsUsed has.lookup sure (is_mutable_in d e) e [] (result_destination d.result) 1 within h)) in
      and_from (may_make here (body_boxes d e)) (is_built here (may_check here sure) e) made (tree IsUsed has.lookup has here (may_check has sure) sure (λ h. h) (λ x i. and_from (has.helper x) (uses (object_binding x))) (check_used sure) (is_mutable_in d e) e [] (result_destination d.result) 1 parts.1 each within)

pub no_more : BodiesUseNoMore
no_more = built_here
