-- A class that keeps the local rules, and its methods.
use Rattle.std.proofs.Common.{◌≡◌, ℕ, suc, Bool, true, false, List, [], ◌∷◌, Some, None, Option, ◌&&◌, ◌||◌, not, map, if◌then◌else◌, refl, sym, subst, ◌⊎◌, inl, inr, ⊎_elim, Contains, length, arith}
use Rattle.std.specs.Prelude.{option_map, is_some}
use Rattle.std.specs.Cmp.Lexicographic.{pointwise}
use Rattle.std.proofs.lemmas.Bool.{and_parts}
use Rattle.sj_local.specs.MemberRules.{breaks_method, has_result, is_void}
use Rattle.sj_local.specs.TreeRules.{is_constructor}
use Rattle.sj_local.specs.ClassRules.{keeps_superclass, keeps_hijacked}
use Rattle.sj_local.specs.Names.{is_init, is_same_type}
use Rattle.sj_local.specs.Firsts.{in_32_bits, first_where, FirstAnswer, none_left, this_one, a_later_one}
use Rattle.sj_local.specs.Broken.{at_method, unless, Breaks, TreeBreaks, FirstTree, FirstBroken, all_rules, tree_place}
use Rattle.sj_local.specs.declared.rules.Rule.{Rule}
use Rattle.sj_local.specs.declared.rules.Rule.TheVariants as rule
use Rattle.sj_trees.specs.declared.classes.ClassDef.{ClassDef}
use Rattle.sj_trees.specs.declared.classes.MethodDef.{MethodDef}
use Rattle.sj_names.specs.declared.references.TypeRef.{TypeRef}
use Rattle.sj_trees.specs.Types.{reference_type}
use Rattle.sj_trees.specs.declared.classes.ParamDef.{ParamDef}
use Rattle.sj_trees.specs.declared.types.IrType.{IrType}
use Rattle.agree_early_errors.specs.Methods.{HaveTypes}
use Rattle.agree_early_errors.specs.Standing.{call_type}
use Rattle.agree_local_rules.specs.Kept.{KeepsTreeRules}
use Rattle.sj_trees.proofs.SameTypes.{type-same}
use Rattle.sj_names.proofs.Same.{impossible}
use Rattle.agree_early_errors.proofs.Lists.{nothing_in, in_front_or_behind}

-- where nothing is answered, each answers nothing
pub none-each : {A R : Type 0} (Answers : A → Option R → Type 0) (n : ℕ) (xs : List A) (r : Option (ℕ × R)) → FirstAnswer Answers n xs r → r ≡ None → (x : A) → Contains xs x → Answers x None
none-each Answers _ _ _ (none_left n) e x h = nothing_in x h
none-each Answers _ _ _ (this_one n y ys r a) e x h = impossible (cc)
none-each Answers _ _ _ (a_later_one n y ys found a rest) e x h = ⊎_elim (λ same. subst (λ z. Answers z None) same a) (λ later. none-each Answers (suc n) ys found rest e x later) (in_front_or_behind y ys x h)

place-none : (o : Option (ℕ × ℕ)) → None ≡ option_map tree_place o → o ≡ None
place-none None e = refl
place-none (Some p) e = impossible (cc)

none-first : (o : Option ℕ) → None ≡ option_map in_32_bits o → o ≡ None
none-first None e = refl
none-first (Some n) e = impossible (cc)

-- a rule on trees that a class keeps, for one of its methods
method-keeps : (c : ClassDef) (r : Rule) → FirstTree r c None → (m : MethodDef) → Contains c.methods m → TreeBreaks r c m None
method-keeps c r h m i = none-each (TreeBreaks r c) (length c.fields) c.methods h.found h.first (place-none h.found h.is_place) m i

-- the rules on trees of a class that breaks none
pub class-keeps : (c : ClassDef) → FirstBroken c None → (m : MethodDef) → Contains c.methods m → KeepsTreeRules c m
class-keeps c h m i = record {
  declared = method-keeps c rule.DeclaredTwice (kept rule.DeclaredTwice in_tenth) m i;
  definition = none-first _ (method-keeps c rule.Definition (kept rule.Definition in_eleventh) m i);
  variable = none-first _ (method-keeps c rule.Variable (kept rule.Variable in_twelfth) m i);
  jump = none-first _ (method-keeps c rule.ReturnLabel (kept rule.ReturnLabel in_thirteenth) m i);
  this = none-first _ (method-keeps c rule.This (kept rule.This in_fourteenth) m i);
  stored = none-first _ (method-keeps c rule.StoreModule (kept rule.StoreModule in_fifteenth) m i);
  target = none-first _ (method-keeps c rule.Target (kept rule.Target in_sixteenth) m i);
}
  where
    kept : (r : Rule) → Contains all_rules r → Breaks c r None
    kept r k = none-each (Breaks c) 1 all_rules None h refl r k

    in_tenth : Contains all_rules rule.DeclaredTwice
    in_tenth = (9, omega arith, refl)

    in_eleventh : Contains all_rules rule.Definition
    in_eleventh = (10, omega arith, refl)

    in_twelfth : Contains all_rules rule.Variable
    in_twelfth = (11, omega arith, refl)

    in_thirteenth : Contains all_rules rule.ReturnLabel
    in_thirteenth = (12, omega arith, refl)

    in_fourteenth : Contains all_rules rule.This
    in_fourteenth = (13, omega arith, refl)

    in_fifteenth : Contains all_rules rule.StoreModule
    in_fifteenth = (14, omega arith, refl)

    in_sixteenth : Contains all_rules rule.Target
    in_sixteenth = (15, omega arith, refl)

place-unless : (b : Bool) → None ≡ unless b → b ≡ true
place-unless true e = refl
place-unless false e = impossible (cc)

-- the rule on superclasses
pub keeps-superclass : (c : ClassDef) → FirstBroken c None → keeps_superclass c ≡ true
keeps-superclass c h = place-unless (keeps_superclass c) (none-each (Breaks c) 1 all_rules None h refl rule.Superclass (0, omega arith, refl))

-- the rule on hijacked classes
pub keeps-hijacked : (c : ClassDef) → FirstBroken c None → keeps_hijacked c ≡ true
keeps-hijacked c h = place-unless (keeps_hijacked c) (none-each (Breaks c) 1 all_rules None h refl rule.Hijacked (1, omega arith, refl))

-- where no element passes a test, each fails it
pub none-passes : {A : Type 0} (test : A → Bool) (xs : List A) → first_where test xs ≡ None → (x : A) → Contains xs x → test x ≡ false
none-passes test [] e x h = nothing_in x h
none-passes test (y ∷ ys) e x h = go (test y) refl e (in_front_or_behind y ys x h) (λ k i. none-passes test ys k x i)
  where
    none-suc : (o : Option ℕ) → option_map suc o ≡ None → o ≡ None
    none-suc None e = refl
    none-suc (Some n) e = impossible (cc)

    go : (b : Bool) → test y ≡ b → (if b then Some 0 else option_map suc (first_where test ys)) ≡ None → (y ≡ x) ⊎ Contains ys x → (first_where test ys ≡ None → Contains ys x → test x ≡ false) → test x ≡ false
    go true i k w others = impossible (cc)
    go false i k (inl same) others = subst (λ z. test z ≡ false) same i
    go false i k (inr there) others = others (none-suc (first_where test ys) k) there

no-place : (c : ClassDef) (o : Option ℕ) → None ≡ option_map (at_method c) o → o ≡ None
no-place c None e = refl
no-place c (Some n) e = impossible (cc)

not-broken : (b : Bool) → not b ≡ false → b ≡ true
not-broken true h = refl
not-broken false h = impossible (sym h)

first-false : (a b : Bool) → (a || b) ≡ false → a ≡ false
first-false true b h = h
first-false false b h = refl

second-false : (a b : Bool) → (a || b) ≡ false → b ≡ false
second-false true b h = impossible (sym h)
second-false false b h = h

types-are : (ps : List ParamDef) (rs : List TypeRef) → pointwise is_same_type (map (λ (p : ParamDef). p.tpe) ps) (map reference_type rs) ≡ true → HaveTypes ps rs
types-are [] [] h = tt
types-are [] (r ∷ rs) h = impossible h
types-are (p ∷ ps) [] h = impossible h
types-are (p ∷ ps) (r ∷ rs) h = let k = and_parts (is_same_type p.tpe (reference_type r)) (pointwise is_same_type (map (λ (p : ParamDef). p.tpe) ps) (map reference_type rs)) h in (type-same p.tpe (reference_type r) k.0, types-are ps rs k.1)

result-is : (t : IrType) (o : Option TypeRef) → is_some o ≡ true → has_result t o ≡ true → t ≡ call_type o
result-is t None h k = impossible h
result-is t (Some r) h k = type-same t (reference_type r) k

-- a rule on methods that a class keeps
method-passes : (c : ClassDef) (r : Rule) → None ≡ option_map (at_method c) (first_where (breaks_method c r) c.methods) → (m : MethodDef) → Contains c.methods m → breaks_method c r m ≡ false
method-passes c r e m i = none-passes (breaks_method c r) c.methods (no-place c (first_where (breaks_method c r) c.methods) e) m i

-- each method's name has a result
pub result-keeps : (c : ClassDef) → FirstBroken c None → (m : MethodDef) → Contains c.methods m → is_some m.name.result ≡ true
result-keeps c h m i = not-broken (is_some m.name.result) (second-false (is_init m.name.simple && not (is_constructor m.namespace && is_void m.name.result)) (not (is_some m.name.result)) (method-passes c rule.MethodName (none-each (Breaks c) 1 all_rules None h refl rule.MethodName (5, omega arith, refl)) m i))

-- `<init>` has no value
pub init-keeps : (c : ClassDef) → FirstBroken c None → (m : MethodDef) → Contains c.methods m → is_init m.name.simple ≡ true → is_void m.name.result ≡ true
init-keeps c h m i named = void (is_init m.name.simple) named (method-passes c rule.MethodName (none-each (Breaks c) 1 all_rules None h refl rule.MethodName (5, omega arith, refl)) m i)
  where
    void : (b : Bool) → b ≡ true → ((b && not (is_constructor m.namespace && is_void m.name.result)) || not (is_some m.name.result)) ≡ false → is_void m.name.result ≡ true
    void false e k = impossible e
    void true e k = (and_parts (is_constructor m.namespace) (is_void m.name.result) (not-broken (is_constructor m.namespace && is_void m.name.result) (first-false (not (is_constructor m.namespace && is_void m.name.result)) (not (is_some m.name.result)) k))).1

-- the types that a method's name tells
pub signature-keeps : (c : ClassDef) → FirstBroken c None → (m : MethodDef) → Contains c.methods m → HaveTypes m.params m.name.params × (m.result ≡ call_type m.name.result)
signature-keeps c h m i = (types-are m.params m.name.params parts.0, result-is m.result m.name.result (result-keeps c h m i) parts.1)
  where
    parts : (pointwise is_same_type (map (λ (p : ParamDef). p.tpe) m.params) (map reference_type m.name.params) ≡ true) × (has_result m.result m.name.result ≡ true)
    parts = and_parts (pointwise is_same_type (map (λ (p : ParamDef). p.tpe) m.params) (map reference_type m.name.params)) (has_result m.result m.name.result) (not-broken (pointwise is_same_type (map (λ (p : ParamDef). p.tpe) m.params) (map reference_type m.name.params) && has_result m.result m.name.result) (method-passes c rule.Signature (none-each (Breaks c) 1 all_rules None h refl rule.Signature (6, omega arith, refl)) m i))
