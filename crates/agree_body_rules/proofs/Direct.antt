-- A call that is looked up on a receiver whose class is hijacked keeps the rules of a call of the member that this class runs; any other is of a method of an array, of one that is looked up, or by a reflective name.
use Rattle.std.proofs.Common.{◌≡◌, ◌∙◌, true, ◌&&◌, ap, sym, subst}
use Rattle.std.proofs.lemmas.Bool.{and_parts}
use Rattle.agree_body_rules.specs.Typing.{Scene, Here, may_check}
use Rattle.agree_body_forms.proofs.Direct.{IsArray, IsCalled, IsCalledByLookup, IsCalledOnArray, IsCalledByName, Calls, calls_member, looks_up, calls_array, calls_by_name, is_called}
use Rattle.agree_body_forms.specs.Built.{Usable, can_call}
use Rattle.sj_emit_expr_spec.specs.Desugar.{member, callee_of}
use Rattle.sj_names.specs.declared.method_names.MethodName.{MethodName}
use Rattle.sj_names.specs.declared.method_names.Namespace.TheVariants.{Public}
use Rattle.sj_trees.specs.Term.{Term, Terms, apply, apply_statically}
use Rattle.sj_trees.specs.TypeOf.{type_of_term}
use Rattle.sj_trees.specs.declared.positions.Position.{Position}
use Rattle.sj_trees.specs.declared.types.IrType.{IrType}
use Rattle.sj_trees.specs.declared.types.IrType.TheVariants.{NoType}
use Rattle.agree_body_forms.specs.Rules.{HasReceiver}
use Rattle.sj_emit_expr_spec.specs.Known.{Classes}

pub record Direct (w : Classes) (has : Usable) (s : Scene) (p : Position) (e : Term) (m : MethodName) (ts : Terms) (t : IrType) : Type 0 where
  pub is : IsCalled (type_of_term e) m
  pub there : has.received (has.lookup.target (member is.direct.class Public m)) ≡ true
  pub checked : may_check has s.sure e ≡ true
  pub here : Here w has s (apply_statically p e is.direct.class Public m ts t)

pub record ByLookup (w : Classes) (has : Usable) (s : Scene) (e : Term) (m : MethodName) : Type 0 where
  pub is : IsCalledByLookup has (type_of_term e) m
  pub checked : may_check has s.sure e ≡ true

pub record OnArray (w : Classes) (has : Usable) (s : Scene) (e : Term) (m : MethodName) : Type 0 where
  pub is : IsCalledOnArray has (type_of_term e) m
  pub array : IsArray (type_of_term e)
  pub checked : may_check has s.sure e ≡ true

pub record ByName (w : Classes) (has : Usable) (s : Scene) (e : Term) (m : MethodName) : Type 0 where
  pub is : IsCalledByName has (type_of_term e) m
  pub value : type_of_term e ≡ NoType → ⊥
  pub checked : may_check has s.sure e ≡ true

pub data Applied (w : Classes) (has : Usable) (s : Scene) (p : Position) (e : Term) (m : MethodName) (ts : Terms) (t : IrType) : Type 0 where
  directly : Direct w has s p e m ts t → Applied w has s p e m ts t
  by_lookup : ByLookup w has s e m → Applied w has s p e m ts t
  on_array : OnArray w has s e m → Applied w has s p e m ts t
  by_name : ByName w has s e m → Applied w has s p e m ts t

direct : (w : Classes) (has : Usable) (s : Scene) (p : Position) (e : Term) (m : MethodName) (ts : Terms) (t : IrType) → Here w has s (apply p e m ts t) → IsCalled (type_of_term e) m → Direct w has s p e m ts t
direct w has s p e m ts t h is = record {
  is = is;
  there = sym same ∙ its.0;
  checked = its.1;
  here = record { meets = (tt, h.meets.1, is.direct.below w, h.meets.2); built = sym (ap (λ b. b && may_check has s.sure e) same) ∙ h.built; finds = h.finds };
}
  where
    its : (can_call has (callee_of (type_of_term e) m) ≡ true) × (may_check has s.sure e ≡ true)
    its = and_parts (can_call has (callee_of (type_of_term e) m)) (may_check has s.sure e) h.built

    same : can_call has (callee_of (type_of_term e) m) ≡ has.received (has.lookup.target (member is.direct.class Public m))
    same = ap (can_call has) is.callee

pub applied : (w : Classes) (has : Usable) (s : Scene) (p : Position) (e : Term) (m : MethodName) (ts : Terms) (t : IrType) → Here w has s (apply p e m ts t) → Applied w has s p e m ts t
applied w has s p e m ts t h = by (is_called has (type_of_term e) m its.0)
  where
    its : (can_call has (callee_of (type_of_term e) m) ≡ true) × (may_check has s.sure e ≡ true)
    its = and_parts (can_call has (callee_of (type_of_term e) m)) (may_check has s.sure e) h.built

    by : Calls has (type_of_term e) m → Applied w has s p e m ts t
    by (calls_member is) = directly (direct w has s p e m ts t h is)
    by (looks_up is) = by_lookup (record { is = is; checked = its.1 })
    by (calls_by_name is) = by_name (record { is = is; value = λ i. subst HasReceiver i h.meets.0; checked = its.1 })
    by (calls_array is) = on_array (record { is = is; array = is.on.array h.meets.0; checked = its.1 })
