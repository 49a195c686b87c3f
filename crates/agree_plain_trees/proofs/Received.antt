-- What the rules give: which trees have a value, and what holds of a call on a receiver.
use Rattle.std.proofs.Common.{◌≡◌, ℕ, Bool, true, false, ◌&&◌, ◌⊎◌, inl, inr, List, refl, sym, ap, ◌∙◌, subst}
use Rattle.std.specs.Prelude.{◌||◌, if◌then◌else◌}
use Rattle.std.proofs.lemmas.Bool.{and_parts}
use Rattle.agree_body_rules.proofs.RulesGive.{class_has_value, ArgumentsFit, arguments_there, each_made}
use Rattle.agree_body_rules.specs.Standing.{MayStand}
use Rattle.agree_body_rules.specs.Subtyping.{IsSubtyping}
use Rattle.agree_body_rules.specs.Typing.{Scene, Typed, AllHaveValues, may_check}
use Rattle.agree_body_rules.specs.Locals.{HasValue}
use Rattle.agree_body_rules.specs.Templates.{called_member, check_name}
use Rattle.sure_receivers.specs.Sure.{is_sure}
use Rattle.agree_body_rules.specs.Boxes.{is_boxed, any_is_boxed}
use Rattle.agree_body_rules.specs.Built.{Usable, may_make}
use Rattle.agree_body_rules.specs.Desugar.{has_no_value, member}
use Rattle.agree_body_rules.specs.Plain.{is_no_type}
use Rattle.sj_names.proofs.Same.{impossible}
use Rattle.sj_names.specs.declared.method_names.MethodName.{MethodName}
use Rattle.sj_names.specs.declared.method_names.Namespace.{Namespace}
use Rattle.sj_names.specs.declared.method_names.Namespace.TheVariants.{Constructor}
use Rattle.agree_plain_trees.proofs.Boxes.{stands-at-class}
use Rattle.agree_plain_trees.specs.Conditions.{IsNoConstruction}
use Rattle.sj_trees.specs.Term.{Term, Terms, apply_statically, this_ref}
use Rattle.sj_trees.specs.TypeOf.{type_of_term}
use Rattle.sj_trees.specs.Types.{class_type}
use Rattle.sj_trees.specs.declared.types.IrType.{IrType}
use Rattle.sj_trees.specs.declared.types.IrType.TheVariants.{Any, Nothing, NoType}
use Rattle.sj_trees.specs.declared.positions.Position.{Position}
use Rattle.ir_mean.specs.Known.{Classes}
use Rattle.ir_mean.specs.Subtypes.{IsSub}
use Rattle.agree_body_rules.specs.Rules as rules

pub value_none : (t : IrType) → has_no_value t ≡ false → is_no_type t ≡ false
value_none NoType h = impossible (sym h)
value_none _ h = refl

pub not_none : (t : IrType) → (t ≡ NoType → ⊥) → is_no_type t ≡ false
not_none NoType h = absurd (h refl)
not_none _ h = refl

pub class_value : (c : List ℕ) → is_no_type (class_type c) ≡ false
class_value c = value_none (class_type c) (class_has_value c)

-- what stands where there is a value has one
pub value_below : (w : Classes) (law : IsSubtyping (IsSub w)) (own t : IrType) → IsSub w own t → is_no_type t ≡ false → is_no_type own ≡ false
value_below w law own t f n = not_none own (λ i. impossible (sym n ∙ ap is_no_type (law.from_none t (subst (λ s. IsSub w s t) i f))))

-- a tree with a value is no call of a constructor without one
pub value_apart : (w : Classes) (has : Usable) (s : Scene) (t : Term) → Typed w has s t → is_no_type (type_of_term t) ≡ false → IsNoConstruction t
value_apart w has s (apply_statically p e c n m ts t) h v = by n h
  where
    by : (n : Namespace) → Typed w has s (apply_statically p e c n m ts t) → IsNoConstruction (apply_statically p e c n m ts t)
    by Constructor h = v
    by _ h = tt
value_apart w has s _ h v = tt

-- the call of a constructor is that of a member on a receiver where it has a value, and of a constructor of its class where it has none
abbrev CallsConstructor : Usable → List ℕ → MethodName → Bool → Bool → Type 0
CallsConstructor has c m none checked = (if none then has.built (member c Constructor m) else (has.received (member c Constructor m) && checked)) ≡ true

pub without_value : (has : Usable) (c : List ℕ) (m : MethodName) (t : IrType) (checked : Bool) → is_no_type t ≡ true → CallsConstructor has c m (is_no_type t) checked → has.built (member c Constructor m) ≡ true
without_value has c m t checked none h = subst (λ (b : Bool). CallsConstructor has c m b checked) none h

pub with_value : (has : Usable) (c : List ℕ) (m : MethodName) (t : IrType) (checked : Bool) → is_no_type t ≡ false → CallsConstructor has c m (is_no_type t) checked → (has.received (member c Constructor m) && checked) ≡ true
with_value has c m t checked value h = subst (λ (b : Bool). CallsConstructor has c m b checked) value h

pub record Received (w : Classes) (has : Usable) (checked : Term → Bool) (e : Term) (c : List ℕ) (n : Namespace) (m : MethodName) (ts : Terms) : Type 0 where
  pub there : has.received (called_member has.lookup n (member c n m)) ≡ true
  pub may_be : checked e ≡ true
  pub below : IsSub w (type_of_term e) (class_type c)
  pub stands : MayStand has (class_type c) (type_of_term e)
  pub arguments : ArgumentsFit w has ts m.params

pub received : (w : Classes) (has : Usable) (checked : Term → Bool) (e : Term) (c : List ℕ) (n : Namespace) (m : MethodName) (ts : Terms) → (has.received (called_member has.lookup n (member c n m)) && checked e) ≡ true → may_make has (is_boxed Any e || any_is_boxed m.params ts) ≡ true → AllHaveValues m.params → rules.Fits w e (class_type c) → rules.ArgumentsFit w ts m.params → Received w has checked e c n m ts
received w has checked e c n m ts built boxed values on fits = record {
  there = its.0;
  may_be = its.1;
  below = on;
  stands = stands-at-class has c (type_of_term e) may.0;
  arguments = arguments_there w has ts m.params may.1 values fits;
}
  where
    its : (has.received (called_member has.lookup n (member c n m)) ≡ true) × (checked e ≡ true)
    its = and_parts (has.received (called_member has.lookup n (member c n m))) (checked e) built

    may : (may_make has (is_boxed Any e) ≡ true) × (may_make has (any_is_boxed m.params ts) ≡ true)
    may = each_made has (is_boxed Any e) (any_is_boxed m.params ts) boxed

-- what the rules give of the receiver and the arguments of a call that is looked up
pub looked_stand : (w : Classes) (has : Usable) (e : Term) (c : List ℕ) (m : MethodName) (ts : Terms) → may_make has (is_boxed Any e || any_is_boxed m.params ts) ≡ true → AllHaveValues m.params → rules.ArgumentsFit w ts m.params → MayStand has (class_type c) (type_of_term e) × ArgumentsFit w has ts m.params
looked_stand w has e c m ts boxed values fits = (stands-at-class has c (type_of_term e) may.0, arguments_there w has ts m.params may.1 values fits)
  where
    may : (may_make has (is_boxed Any e) ≡ true) × (may_make has (any_is_boxed m.params ts) ≡ true)
    may = each_made has (is_boxed Any e) (any_is_boxed m.params ts) boxed

-- a receiver that may be checked is never null, or its check is there
pub may_be_checked : (has : Usable) (sure : List ℕ → Bool) (e : Term) → may_check has sure e ≡ true → (is_sure sure e ≡ true) ⊎ (has.helper check_name ≡ true)
may_be_checked has sure e h = either_true (is_sure sure e) (has.helper check_name) h
  where
    either_true : (a b : Bool) → (a || b) ≡ true → (a ≡ true) ⊎ (b ≡ true)
    either_true true b h = inl refl
    either_true false b h = inr h

-- what stands where there is a value has one, or never comes to one
pub value_or_nothing : (w : Classes) (law : IsSubtyping (IsSub w)) (own t : IrType) → IsSub w own t → HasValue t → (has_no_value own ≡ false) ⊎ (own ≡ Nothing)
value_or_nothing w law NoType t f h = impossible (sym h ∙ ap has_no_value (law.from_none t f))
value_or_nothing w law Nothing t f h = inr refl
value_or_nothing w law _ t f h = inl refl

-- what the rules give of a call of a constructor without a value on This
pub record Constructed (w : Classes) (has : Usable) (s : Scene) (e : Term) (c : List ℕ) (m : MethodName) (ts : Terms) (t : IrType) : Type 0 where
  pub there : has.built (member c Constructor m) ≡ true
  pub none : t ≡ NoType
  pub surely : is_sure s.sure e ≡ true
  pub value : has_no_value (type_of_term e) ≡ false
  pub below : IsSub w (type_of_term e) (class_type c)
  pub stands : MayStand has (class_type c) (type_of_term e)
  pub arguments : ArgumentsFit w has ts m.params

on_this : (w : Classes) (has : Usable) (s : Scene) (e : Term) → rules.IsReceiver Constructor e → Typed w has s e → (is_sure s.sure e ≡ true) × (type_of_term e ≡ class_type s.owner)
on_this w has s (this_ref q i) r h = (refl, h.finds.1)
on_this w has s _ r h = absurd r

is_none : (t : IrType) → is_no_type t ≡ true → t ≡ NoType
is_none NoType h = refl
is_none _ h = impossible h

pub constructed : (w : Classes) (has : Usable) (s : Scene) (p : Position) (e : Term) (c : List ℕ) (m : MethodName) (ts : Terms) (t : IrType) → is_no_type t ≡ true → may_make has (is_boxed Any e || any_is_boxed m.params ts) ≡ true → Typed w has s (apply_statically p e c Constructor m ts t) → Constructed w has s e c m ts t
constructed w has s p e c m ts t none boxed h = record {
  there = without_value has c m t (may_check has s.sure e) none h.0.built;
  none = is_none t none;
  surely = this.0;
  value = subst HasValue (sym this.1) (class_has_value s.owner);
  below = h.0.meets.2;
  stands = stands-at-class has c (type_of_term e) may.0;
  arguments = arguments_there w has ts m.params may.1 h.0.finds h.0.meets.3;
}
  where
    may : (may_make has (is_boxed Any e) ≡ true) × (may_make has (any_is_boxed m.params ts) ≡ true)
    may = each_made has (is_boxed Any e) (any_is_boxed m.params ts) boxed

    this : (is_sure s.sure e ≡ true) × (type_of_term e ≡ class_type s.owner)
    this = on_this w has s e h.0.meets.0 h.1
