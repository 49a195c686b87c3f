-- References, names of methods and types.
use Rattle.std.proofs.Common.{◌≡◌, ℕ, ◌<◌, ◌⊎◌, Bool, true, false, cond, eqb, ltb, List, [], ◌∷◌, length, Option, Some, None, refl, sym, ap, ◌∙◌, subst, inl, inr, append-nil, map-id, arith}
use Rattle.std.specs.Prelude.{nat_eq, codes}
use Rattle.std.specs.Cmp.Lexicographic.{pointwise}
use Rattle.std.specs.List.{AllByRecursion}
use Rattle.sj_names.specs.Grammar.{is_class_name, is_simple_name}
use Rattle.sj_names.specs.declared.references.ArrayRef.{ArrayRef}
use Rattle.sj_names.specs.declared.references.BaseRef.{BaseRef}
use Rattle.sj_names.specs.declared.references.TypeRef.{TypeRef}
use Rattle.sj_names.specs.declared.method_names.MethodName.{MethodName}
use Rattle.sj_trees.specs.declared.types.IrType.{IrType}
use Rattle.sj_trees.specs.Types.{class_type}
use Rattle.sj_read_spec.specs.Codes.{plain_types}
use Rattle.sj_trees.specs.Forms.{among}
use Rattle.exact_place.specs.Grammar.{Spelling, ◌then◌, IsValue, chosen}
use Rattle.sj_read_spec.specs.Spelling.{Found, Tested, IsByte, IsCounted}
use Rattle.sj_read_spec.specs.Tables.{Tables, IsName}
use Rattle.sj_read_spec.specs.References.{plain_base, IsBase, IsArray, IsArrayReference, plain_reference, IsReference, IsParameter, IsResult, IsMethodName}
use Rattle.sj_read_spec.specs.Types.{IsTypeOf, IsType}
use Rattle.sj_write_spec.specs.Fields.{Fields, nothing, name_field, ◌▸◌, byte, count, each, list_fields}
use Rattle.sj_write_spec.specs.References.{base_fields, array_fields, reference_fields, result_fields, method_name_fields, type_fields}
use Rattle.sj_write_spec.specs.Written.{spelled}
use Rattle.sj_write_spec.proofs.Bytes.{step}
use Rattle.sj_write_spec.proofs.Carry.{Carried, join, last, last_of, carried_name, found_is, tested_is, carried_byte, byte_carried}
use Rattle.sj_write_spec.proofs.CarryLists.{as_value, carried_list}

cond_cases : {A : Type 0} (b : Bool) (x : A) (o : Option A) (r : A) → cond b (Some x) o ≡ Some r → (x ≡ r) ⊎ (o ≡ Some r)
cond_cases true x o r e = inl (some_is x r e)
  where
    some_is : {A : Type 0} (x y : A) → (λ (z : A). Some z) x ≡ (λ (z : A). Some z) y → x ≡ y
    some_is x y e = cc
cond_cases false x o r e = inr e

-- ---- bases

-- a base of one code
record IsPlainBase (base : BaseRef) : Type 0 where
  code : ℕ
  fields : base_fields base ≡ byte code
  small : code < 256
  is_base : plain_base code ≡ Some base
  no_class : eqb code 8 ≡ false

plain_base_found : (code : ℕ) (base : BaseRef) → plain_base code ≡ Some base → IsPlainBase base
plain_base_found code base e =
    elim (cond_cases (eqb code 2) BaseRef.Boolean _ base e) [
      | inl x ↦ subst IsPlainBase x (record { code = 2; fields = refl; small = omega arith; is_base = refl; no_class = refl })
      | inr e ↦
          elim (cond_cases (eqb code 3) BaseRef.Char _ base e) [
            | inl x ↦ subst IsPlainBase x (record { code = 3; fields = refl; small = omega arith; is_base = refl; no_class = refl })
            | inr e ↦
                elim (cond_cases (eqb code 4) BaseRef.Byte _ base e) [
                  | inl x ↦ subst IsPlainBase x (record { code = 4; fields = refl; small = omega arith; is_base = refl; no_class = refl })
                  | inr e ↦
                      elim (cond_cases (eqb code 5) BaseRef.Short _ base e) [
                        | inl x ↦ subst IsPlainBase x (record { code = 5; fields = refl; small = omega arith; is_base = refl; no_class = refl })
                        | inr e ↦
                            elim (cond_cases (eqb code 6) BaseRef.Int _ base e) [
                              | inl x ↦ subst IsPlainBase x (record { code = 6; fields = refl; small = omega arith; is_base = refl; no_class = refl })
                              | inr e ↦
                                  elim (cond_cases (eqb code 7) BaseRef.Long _ base e) [ inl x ↦ subst IsPlainBase x (record { code = 7; fields = refl; small = omega arith; is_base = refl; no_class = refl }) | inr e ↦ absurd cc ]
                            ]
                      ]
                ]
          ]
    ]

abbrev CarriedBase : Tables → BaseRef → Type 0
CarriedBase old base = Carried old (λ new text. IsBase new.names base text) (λ new. base_fields base) (base_fields base)

plain_base_carried : (old : Tables) (base : BaseRef) → IsPlainBase base → CarriedBase old base
plain_base_carried old base p =
    subst (λ (fs : Fields). Carried old (λ new text. IsBase new.names base text) (λ new. fs) fs) (sym p.fields)
    (record {
      inside = omega (arith, p.small);
      same = λ new cover. refl;
      again = λ new fit cover. record { value = p.code; front = spelled new (byte p.code); back = []; first = carried_byte p.code p.small; second = subst (λ (b : Bool). chosen b (IsName is_class_name new.names then λ c. IsValue (BaseRef.Class c)) (Found (plain_base p.code)) base []) (sym p.no_class) (subst (λ (o : Option BaseRef). Found o base []) (sym p.is_base) (record { same = refl; empty = refl })); parts = sym (append-nil (spelled new (byte p.code))) };
    })

base_by : (old : Tables) (base : BaseRef) (code : ℕ) (b : Bool) (text : List ℕ) → chosen b (IsName is_class_name old.names then λ c. IsValue (BaseRef.Class c)) (Found (plain_base code)) base text → CarriedBase old base
base_by old base code true text h =
    step h (λ c front back p h. as_value (λ base new text. IsBase new.names base text) (λ base new. base_fields base) base_fields (BaseRef.Class c) base h.same
    (join (λ new. 8) (byte_carried 8 (omega arith)) (last _ (carried_name is_class_name old c _ p))))
base_by old base code false text h = plain_base_carried old base (plain_base_found code base (found_is (plain_base code) base text h))

pub carried_base : (old : Tables) (base : BaseRef) (text : List ℕ) → IsBase old.names base text → CarriedBase old base
carried_base old base text h = step h (λ code front back p h. base_by old base code (eqb code 8) back h)

-- ---- arrays

dimensions_carried : {old : Tables} (n : ℕ) → n < 256 → ltb 0 n ≡ true → Carried old (λ new text. (IsByte then λ n. Tested (ltb 0 n) n) n text) (λ new. byte n) (byte n)
dimensions_carried n small some = last_of (λ new. n) (byte_carried n small) (λ new. subst (λ (b : Bool). Tested b n n []) (sym some) (record { same = refl; empty = refl }))

carried_dimensions : (old : Tables) (n : ℕ) (text : List ℕ) → (IsByte then λ n. Tested (ltb 0 n) n) n text → Carried old (λ new text. (IsByte then λ n. Tested (ltb 0 n) n) n text) (λ new. byte n) (byte n)
carried_dimensions old n text h =
    step h (λ m front back p h.
    let test = tested_is (ltb 0 m) m n back h in
    let small : n < 256 = subst (λ (k : ℕ). k < 256) (sym test.1) p.small in
    dimensions_carried n small (ap (ltb 0) test.1 ∙ test.0))

pub carried_array : (old : Tables) (a : ArrayRef) (text : List ℕ) → IsArray old.names a text → Carried old (λ new text. IsArray new.names a text) (λ new. byte a.dimensions ▸ base_fields a.base) (byte a.dimensions ▸ base_fields a.base)
unfolding IsArray
carried_array old a text h =
    step h (λ n front back p h. step h (λ base front back q h.
    as_value (λ a new text. IsArray new.names a text) (λ a new. byte a.dimensions ▸ base_fields a.base) (λ a. byte a.dimensions ▸ base_fields a.base) (record { dimensions = n; base = base }) a h.same
    (join (λ new. n) (carried_dimensions old n _ p) (last (λ new. base) (carried_base old base _ q)))))

pub carried_array_reference : (old : Tables) (a : ArrayRef) (text : List ℕ) → IsArrayReference old.names a text → Carried old (λ new text. IsArrayReference new.names a text) (λ new. array_fields a) (array_fields a)
unfolding IsArrayReference
carried_array_reference old a text h =
    step h (λ code front back p h. step h (λ nine front back q h.
    join (λ new. 9) (byte_carried 9 (omega arith)) (nine_then old a (carried_array old a _ h))))
  where
    nine_then : (old : Tables) (a : ArrayRef) → Carried old (λ new text. IsArray new.names a text) (λ new. byte a.dimensions ▸ base_fields a.base) (byte a.dimensions ▸ base_fields a.base)
        → Carried old (λ new text. (◌then◌ {A = ℕ} (Tested (eqb 9 9) 9) (λ nine. IsArray new.names)) a text) (λ new. byte a.dimensions ▸ base_fields a.base) (byte a.dimensions ▸ base_fields a.base)
    nine_then old a one = record {
      inside = one.inside;
      same = one.same;
      again = λ new fit cover. record { value = 9; front = []; back = spelled new (byte a.dimensions ▸ base_fields a.base); first = record { same = refl; empty = refl }; second = one.again new fit cover; parts = refl };
    }

-- ---- references

-- a reference of one code
record IsPlainReference (r : TypeRef) : Type 0 where
  code : ℕ
  fields : reference_fields r ≡ byte code
  small : code < 256
  is_reference : plain_reference code ≡ Some r
  none : eqb code 0 ≡ false
  void : eqb code 1 ≡ false
  no_class : eqb code 8 ≡ false
  no_array : eqb code 9 ≡ false

plain_reference_found : (code : ℕ) (r : TypeRef) → plain_reference code ≡ Some r → IsPlainReference r
plain_reference_found code r e =
    elim (cond_cases (eqb code 2) TypeRef.Boolean _ r e) [
      | inl x ↦ subst IsPlainReference x (record { code = 2; fields = refl; small = omega arith; is_reference = refl; none = refl; void = refl; no_class = refl; no_array = refl })
      | inr e ↦
          elim (cond_cases (eqb code 3) TypeRef.Char _ r e) [
            | inl x ↦ subst IsPlainReference x (record { code = 3; fields = refl; small = omega arith; is_reference = refl; none = refl; void = refl; no_class = refl; no_array = refl })
            | inr e ↦
                elim (cond_cases (eqb code 4) TypeRef.Byte _ r e) [
                  | inl x ↦ subst IsPlainReference x (record { code = 4; fields = refl; small = omega arith; is_reference = refl; none = refl; void = refl; no_class = refl; no_array = refl })
                  | inr e ↦
                      elim (cond_cases (eqb code 5) TypeRef.Short _ r e) [
                        | inl x ↦ subst IsPlainReference x (record { code = 5; fields = refl; small = omega arith; is_reference = refl; none = refl; void = refl; no_class = refl; no_array = refl })
                        | inr e ↦
                            elim (cond_cases (eqb code 6) TypeRef.Int _ r e) [
                              | inl x ↦ subst IsPlainReference x (record { code = 6; fields = refl; small = omega arith; is_reference = refl; none = refl; void = refl; no_class = refl; no_array = refl })
                              | inr e ↦
                                  elim (cond_cases (eqb code 7) TypeRef.Long _ r e) [ inl x ↦ subst IsPlainReference x (record { code = 7; fields = refl; small = omega arith; is_reference = refl; none = refl; void = refl; no_class = refl; no_array = refl }) | inr e ↦ absurd cc ]
                            ]
                      ]
                ]
          ]
    ]

-- a reference, by its code and what stands behind it
record CarriedReference (old : Tables) (r : TypeRef) : Type 0 where
  code : ℕ
  none : eqb code 0 ≡ false
  void : eqb code 1 ≡ false
  small : code < 256
  behind : Fields
  fields : (reference_fields r ≡ byte code ▸ behind) ⊎ ((reference_fields r ≡ byte code) × (behind ≡ nothing))
  carried : Carried old (λ new text. IsReference new.names code r text) (λ new. behind) behind

reference_plain : (old : Tables) (r : TypeRef) → IsPlainReference r → CarriedReference old r
unfolding IsReference
reference_plain old r p = record {
  code = p.code;
  none = p.none;
  void = p.void;
  small = p.small;
  behind = nothing;
  fields = inr (p.fields, refl);
  carried = record {
    inside = tt;
    same = λ new cover. refl;
    again = λ new fit cover.
        subst (λ (b : Bool). chosen b (IsName is_class_name new.names then λ c. IsValue (TypeRef.Class c)) (chosen (eqb p.code 9) (IsArray new.names then λ a. IsValue (TypeRef.Array a)) (Found (plain_reference p.code))) r []) (sym p.no_class)
        (subst (λ (b : Bool). chosen b (IsArray new.names then λ a. IsValue (TypeRef.Array a)) (Found (plain_reference p.code)) r []) (sym p.no_array)
        (subst (λ (o : Option TypeRef). Found o r []) (sym p.is_reference) (record { same = refl; empty = refl })));
  };
}

reference_by : (old : Tables) (r : TypeRef) (code : ℕ) (b c : Bool) (text : List ℕ) → chosen b (IsName is_class_name old.names then λ c. IsValue (TypeRef.Class c)) (chosen c (IsArray old.names then λ a. IsValue (TypeRef.Array a)) (Found (plain_reference code))) r text → CarriedReference old r
unfolding IsReference
reference_by old r code true c text h =
    step h (λ name front back p h. subst (CarriedReference old) (sym h.same) (record {
      code = 8;
      none = refl;
      void = refl;
      small = omega arith;
      behind = name_field name;
      fields = inl refl;
      carried = last (λ new. name) (carried_name is_class_name old name _ p);
    }))
reference_by old r code false true text h =
    step h (λ a front back p h. subst (CarriedReference old) (sym h.same) (record {
      code = 9;
      none = refl;
      void = refl;
      small = omega arith;
      behind = byte a.dimensions ▸ base_fields a.base;
      fields = inl refl;
      carried = last (λ new. a) (carried_array old a _ p);
    }))
reference_by old r code false false text h = reference_plain old r (plain_reference_found code r (found_is (plain_reference code) r text h))

carried_reference : (old : Tables) (r : TypeRef) (code : ℕ) (text : List ℕ) → IsReference old.names code r text → CarriedReference old r
unfolding IsReference
carried_reference old r code text h = reference_by old r code (eqb code 8) (eqb code 9) text h

-- what is spelled by a code alone, or by a code and more
code_and : {A : Type 0} {old : Tables} {Q : Tables → ℕ → Spelling A} (x : A) (code : ℕ) (behind fs : Fields) → code < 256 → (fs ≡ byte code ▸ behind) ⊎ ((fs ≡ byte code) × (behind ≡ nothing))
    → Carried old (λ new text. Q new code x text) (λ new. behind) behind → Carried old (λ new text. (IsByte then Q new) x text) (λ new. fs) fs
code_and {old = old} {Q = Q} x code behind fs small (inl e) one = subst (λ (gs : Fields). Carried old (λ new text. (IsByte then Q new) x text) (λ new. gs) gs) (sym e) (join (λ new. code) (byte_carried code small) one)
code_and {old = old} {Q = Q} x code behind fs small (inr e) one =
    let bare = subst (λ (gs : Fields). Carried old (λ new text. Q new code x text) (λ new. gs) gs) e.1 one in
    subst (λ (gs : Fields). Carried old (λ new text. (IsByte then Q new) x text) (λ new. gs) gs) (sym e.0) (record {
      inside = omega (arith, small);
      same = λ new cover. refl;
      again = λ new fit cover. record { value = code; front = spelled new (byte code); back = []; first = carried_byte code small; second = bare.again new fit tt; parts = sym (append-nil (spelled new (byte code))) };
    })

pub carried_parameter : (old : Tables) (r : TypeRef) (text : List ℕ) → IsParameter old.names r text → Carried old (λ new text. IsParameter new.names r text) (λ new. reference_fields r) (reference_fields r)
carried_parameter old r text h =
    step h (λ code front back p h.
    let one = carried_reference old r code back h in
    code_and {Q = λ new code. IsReference new.names code} r one.code one.behind (reference_fields r) one.small one.fields one.carried)

-- ---- results

result_of_reference : (old : Tables) (r : TypeRef) → CarriedReference old r → Carried old (λ new text. IsResult new.names (Some r) text) (λ new. reference_fields r) (reference_fields r)
result_of_reference old r one =
    code_and {Q = λ new code. chosen (eqb code 0) (IsValue None) (chosen (eqb code 1) (IsValue (Some TypeRef.Void)) (IsReference new.names code then λ r. IsValue (Some r)))} (Some r) one.code one.behind (reference_fields r) one.small one.fields (record {
      inside = one.carried.inside;
      same = λ new cover. refl;
      again = λ new fit cover.
          subst (λ (b : Bool). chosen b (IsValue None) (chosen (eqb one.code 1) (IsValue (Some TypeRef.Void)) (IsReference new.names one.code then λ r. IsValue (Some r))) (Some r) (spelled new one.behind)) (sym one.none)
          (subst (λ (b : Bool). chosen b (IsValue (Some TypeRef.Void)) (IsReference new.names one.code then λ r. IsValue (Some r)) (Some r) (spelled new one.behind)) (sym one.void)
          (record { value = r; front = spelled new one.behind; back = []; first = one.carried.again new fit cover; second = record { same = refl; empty = refl }; parts = sym (append-nil (spelled new one.behind)) }));
    })

abbrev CarriedResult : Tables → Option TypeRef → Type 0
CarriedResult old o = Carried old (λ new text. IsResult new.names o text) (λ new. result_fields o) (result_fields o)

result_by : (old : Tables) (o : Option TypeRef) (code : ℕ) (b c : Bool) (text : List ℕ) → chosen b (IsValue None) (chosen c (IsValue (Some TypeRef.Void)) (IsReference old.names code then λ r. IsValue (Some r))) o text → CarriedResult old o
result_by old o code true c text h = subst (CarriedResult old) (sym h.same) (last_of (λ new. 0) (byte_carried 0 (omega arith)) (λ new. record { same = refl; empty = refl }))
result_by old o code false true text h = subst (CarriedResult old) (sym h.same) (last_of (λ new. 1) (byte_carried 1 (omega arith)) (λ new. record { same = refl; empty = refl }))
result_by old o code false false text h = step h (λ r front back p h. subst (CarriedResult old) (sym h.same) (result_of_reference old r (carried_reference old r code _ p)))

pub carried_result : (old : Tables) (o : Option TypeRef) (text : List ℕ) → IsResult old.names o text → CarriedResult old o
carried_result old o text h = step h (λ code front back p h. result_by old o code (eqb code 0) (eqb code 1) back h)

-- ---- names of methods

pub carried_method_name : (old : Tables) (m : MethodName) (text : List ℕ) → IsMethodName old.names m text → Carried old (λ new text. IsMethodName new.names m text) (λ new. method_name_fields m) (method_name_fields m)
unfolding IsMethodName
carried_method_name old m text h =
    step h (λ simple front back p h. step h (λ params front back q h. step h (λ outcome front back r h.
    as_value (λ m new text. IsMethodName new.names m text) (λ m new. method_name_fields m) method_name_fields (record { simple = simple; params = params; result = outcome }) m h.same
    (join (λ new. simple) (carried_name is_simple_name old simple _ p) (join (λ new. params) (carried_params old params _ q) (last (λ new. outcome) (carried_result old outcome _ r)))))))
  where
    carried_params : (old : Tables) (params : List TypeRef) (text : List ℕ) → IsCounted (IsParameter old.names) params text → Carried old (λ new text. IsCounted (IsParameter new.names) params text) (λ new. list_fields reference_fields params) (list_fields reference_fields params)
    carried_params old params text h =
        let one = carried_list old (IsParameter old.names) (λ new. IsParameter new.names) (λ new r. r) (λ new. reference_fields) reference_fields (λ r text h. carried_parameter old r text h) params text h in
        subst (λ (ps : List TypeRef). Carried old (λ new text. IsCounted (IsParameter new.names) ps text) (λ new. count (length params) ▸ each reference_fields ps) (list_fields reference_fields params)) (map-id params) one

-- ---- types

-- a type of one code
record IsPlainType (t : IrType) : Type 0 where
  code : ℕ
  fields : type_fields t ≡ byte code
  small : code < 256
  is_type : among plain_types code ≡ Some t
  no_class : eqb code 12 ≡ false
  no_array : eqb code 13 ≡ false

among_all : {A : Type 0} (P : A → Type 0) (rows : List (ℕ × A)) → AllByRecursion (λ row. P row.1) rows → (code : ℕ) (x : A) → among rows code ≡ Some x → P x
among_all P [] all code x e = absurd cc
among_all P (row ∷ rows) all code x e = elim (cond_cases (eqb code row.0) row.1 (among rows code) x e) [ inl i ↦ subst P i all.0 | inr e ↦ among_all P rows all.1 code x e ]

plain : (t : IrType) (code : ℕ) → type_fields t ≡ byte code → code < 256 → among plain_types code ≡ Some t → eqb code 12 ≡ false → eqb code 13 ≡ false → IsPlainType t
plain t code f s i c a = record { code = code; fields = f; small = s; is_type = i; no_class = c; no_array = a }

all_plain : AllByRecursion (λ (row : ℕ × IrType). IsPlainType row.1) plain_types
all_plain = (
  plain _ 1 refl (omega arith) refl refl refl,
  (
    plain _ 2 refl (omega arith) refl refl refl,
    (
      plain _ 3 refl (omega arith) refl refl refl,
      (
        plain _ 4 refl (omega arith) refl refl refl,
        (
          plain _ 5 refl (omega arith) refl refl refl,
          (
            plain _ 6 refl (omega arith) refl refl refl,
            (
              plain _ 7 refl (omega arith) refl refl refl,
              (
                plain _ 8 refl (omega arith) refl refl refl,
                (plain _ 9 refl (omega arith) refl refl refl, (plain _ 10 refl (omega arith) refl refl refl, (plain _ 11 refl (omega arith) refl refl refl, (plain _ 14 refl (omega arith) refl refl refl, tt)))),
              ),
            ),
          ),
        ),
      ),
    ),
  ),
)

abbrev CarriedType : Tables → IrType → Type 0
CarriedType old t = Carried old (λ new text. IsType new.names t text) (λ new. type_fields t) (type_fields t)

plain_type_carried : (old : Tables) (t : IrType) → IsPlainType t → CarriedType old t
unfolding IsTypeOf
plain_type_carried old t p =
    subst (λ (fs : Fields). Carried old (λ new text. IsType new.names t text) (λ new. fs) fs) (sym p.fields)
    (last_of (λ new. p.code) (byte_carried p.code p.small) (λ new.
    subst (λ (b : Bool). chosen b (IsName is_class_name new.names then λ c. IsValue (class_type c)) (chosen (eqb p.code 13) (IsArrayReference new.names then λ a. IsValue (IrType.Array a)) (Found (among plain_types p.code))) t []) (sym p.no_class)
    (subst (λ (b : Bool). chosen b (IsArrayReference new.names then λ a. IsValue (IrType.Array a)) (Found (among plain_types p.code)) t []) (sym p.no_array)
    (subst (λ (o : Option IrType). Found o t []) (sym p.is_type) (record { same = refl; empty = refl })))))

class_by : (old : Tables) (c : List ℕ) (b : Bool) (text : List ℕ) → pointwise nat_eq c (codes "java.lang.Object") ≡ b → IsName is_class_name old.names c text → CarriedType old (class_type c)
unfolding IsTypeOf
class_by old c true text e h = subst (λ (b : Bool). CarriedType old (cond b IrType.Any (IrType.Class c))) (sym e) (plain_type_carried old IrType.Any (plain _ 1 refl (omega arith) refl refl refl))
class_by old c false text e h =
    subst (λ (b : Bool). CarriedType old (cond b IrType.Any (IrType.Class c))) (sym e)
    (join (λ new. 12) (byte_carried 12 (omega arith)) (class_again old c e (carried_name is_class_name old c text h)))
  where
    class_again : (old : Tables) (c : List ℕ) → pointwise nat_eq c (codes "java.lang.Object") ≡ false → Carried old (λ new text. IsName is_class_name new.names c text) (λ new. name_field c) (name_field c)
        → Carried old (λ new text. (IsName is_class_name new.names then λ c. IsValue (class_type c)) (IrType.Class c) text) (λ new. name_field c) (name_field c)
    class_again old c e one = last_of (λ new. c) one (λ new. record { same = sym (ap (λ (b : Bool). cond b IrType.Any (IrType.Class c)) e); empty = refl })

type_by : (old : Tables) (t : IrType) (code : ℕ) (b c : Bool) (text : List ℕ) → chosen b (IsName is_class_name old.names then λ c. IsValue (class_type c)) (chosen c (IsArrayReference old.names then λ a. IsValue (IrType.Array a)) (Found (among plain_types code))) t text → CarriedType old t
unfolding IsTypeOf
type_by old t code true c text h = step h (λ name front back p h. subst (CarriedType old) (sym h.same) (class_by old name (pointwise nat_eq name (codes "java.lang.Object")) _ refl p))
type_by old t code false true text h = step h (λ a front back p h. subst (CarriedType old) (sym h.same) (join (λ new. 13) (byte_carried 13 (omega arith)) (last (λ new. a) (carried_array_reference old a _ p))))
type_by old t code false false text h = plain_type_carried old t (among_all IsPlainType plain_types all_plain code t (found_is (among plain_types code) t text h))

pub carried_type : (old : Tables) (t : IrType) (text : List ℕ) → IsType old.names t text → CarriedType old t
unfolding IsTypeOf
carried_type old t text h = step h (λ code front back p h. type_by old t code (eqb code 12) (eqb code 13) back h)
