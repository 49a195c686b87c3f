-- The items of an array that stands where one of a primitive type is expected are of that type.
use Rattle.std.proofs.Common.{◌≡◌, ◌≤◌, arith, ℕ, zero, suc, Bool, true, false, List, ◌⊎◌, inl, inr, refl, sym, ap, ◌∙◌, subst, if◌then◌else◌}
use Rattle.std.specs.Prelude.{◌-◌, ◌==◌}
use Rattle.dispatch_laws.specs.Known.{Classes}
use Rattle.dispatch_laws.specs.Meaning as ir_meaning
use Rattle.dispatch_laws.specs.States as ir
use Rattle.array_code.specs.HelperVariants.{Set, Put}
use Rattle.agree_bodies.specs.Helper.{Helper}
use Rattle.agree_bodies.specs.Settings.{setting_helper}
use Rattle.agree_bodies.specs.Standing.{Fits, base_fits, array_fits, may_hold_arrays}
use Rattle.sj_names.proofs.Same.{impossible}
use Rattle.sj_names.specs.declared.references.ArrayRef.{ArrayRef}
use Rattle.sj_names.specs.declared.references.BaseRef.{BaseRef}
use Rattle.sj_trees.specs.Types.{class_type, base_type, nested_type, element_type}
use Rattle.sj_trees.specs.declared.types.IrType.{IrType}
use Rattle.sj_trees.specs.declared.types.IrType.TheVariants as types
use Rattle.sj_trees.specs.declared.types.IrType.TheVariants.{Array}

pub other_helper : {A : Type 0} → ◌≡◌ {A = Helper} Put Set → A
other_helper e = absurd (cc)

-- what may be an object is set by another helper
put_where : (b : Bool) (one : IrType) (c : List ℕ) → setting_helper one ≡ Put → setting_helper (if b then one else types.Class c) ≡ Put
put_where true one c h = h
put_where false one c h = refl

pub class_put : (c : List ℕ) → setting_helper (class_type c) ≡ Put
class_put c = put_where _ types.Any c refl

same_base : (b c : BaseRef) → setting_helper (base_type b) ≡ Set → base_fits b c ≡ true → b ≡ c
same_base BaseRef.Boolean BaseRef.Boolean s h = refl
same_base BaseRef.Char BaseRef.Char s h = refl
same_base BaseRef.Byte BaseRef.Byte s h = refl
same_base BaseRef.Short BaseRef.Short s h = refl
same_base BaseRef.Int BaseRef.Int s h = refl
same_base BaseRef.Long BaseRef.Long s h = refl
same_base (BaseRef.Class c) d s h = other_helper (sym (class_put c) ∙ s)
same_base b c s h = impossible h

none_held : {A : Type 0} (b : BaseRef) → setting_helper (base_type b) ≡ Set → may_hold_arrays b ≡ true → A
none_held (BaseRef.Class c) s h = other_helper (sym (class_put c) ∙ s)
none_held b s h = impossible h

-- the type of items with dimensions is one of arrays
pub array_put : (n : ℕ) (b : BaseRef) → setting_helper (nested_type (suc n) b) ≡ Put
array_put n b = go (suc n == 0) refl
  where
    go : (t : Bool) → (suc n == 0) ≡ t → setting_helper (if t then base_type b else Array (record { dimensions = suc n; base = b })) ≡ Put
    go true e = absurd (grind arith)
    go false e = refl

same_nested : (n : ℕ) (b : BaseRef) (m : ℕ) (c : BaseRef) → setting_helper (nested_type n b) ≡ Set → array_fits n b m c ≡ true → nested_type n b ≡ nested_type m c
same_nested zero b zero c s h = ap base_type (same_base b c s h)
same_nested zero b (suc m) c s h = none_held b s h
same_nested (suc n) b m c s h = other_helper (sym (array_put n b) ∙ s)

pub one_less : (n : ℕ) → suc n - 1 ≡ n
one_less n = grind arith

pub same_element : (r q : ArrayRef) → 1 ≤ r.dimensions → 1 ≤ q.dimensions → Fits (Array r) (Array q) → setting_helper (element_type r) ≡ Set → element_type r ≡ element_type q
same_element r q = by r.dimensions q.dimensions
  where
    by : (n m : ℕ) → 1 ≤ n → 1 ≤ m → array_fits n r.base m q.base ≡ true → setting_helper (nested_type (n - 1) r.base) ≡ Set → nested_type (n - 1) r.base ≡ nested_type (m - 1) q.base
    by (suc n) (suc m) i j h s =
        let t : setting_helper (nested_type n r.base) ≡ Set = subst (λ a. setting_helper (nested_type a r.base) ≡ Set) (one_less n) s in
        ap (λ a. nested_type a r.base) (one_less n) ∙ same_nested n r.base m q.base t h ∙ ap (λ a. nested_type a q.base) (sym (one_less m))
    by zero m i j h s = absurd (grind arith)
    by (suc n) zero i j h s = absurd (grind arith)

-- a value of a primitive type may be stored
pub stored_so : (world : Classes) (s : ir.State) (t : IrType) (v : ir.Value) → setting_helper t ≡ Set → ir_meaning.may_be_stored world s t v ≡ true
stored_so world s (types.Class c) v h = other_helper h
stored_so world s (types.Array r) v h = other_helper h
stored_so world s t ir.null h = refl
stored_so world s t v h = refl

-- items are set by one of two helpers
pub one_setter : (t : IrType) → (setting_helper t ≡ Set) ⊎ (setting_helper t ≡ Put)
one_setter types.Undefined = inl refl
one_setter types.Boolean = inl refl
one_setter types.Char = inl refl
one_setter types.Byte = inl refl
one_setter types.Short = inl refl
one_setter types.Int = inl refl
one_setter types.Long = inl refl
one_setter types.String = inl refl
one_setter types.Null = inl refl
one_setter _ = inr refl
