-- Classes and their members.
use Rattle.std.proofs.Common.{◌≡◌, ℕ, zero, suc, ◌+◌, ◌<◌, ◌^◌, List, [], ◌∷◌, ◌++◌, length, map, Option, Some, None, refl, sym, ap, ◌∙◌, subst, append-nil, append_assoc, map-id, arith}
use Rattle.std.specs.Prelude.{option_map}
use Rattle.sj_names.specs.Grammar.{is_plain_name, is_class_name}
use Rattle.sj_trees.specs.Term.{Term}
use Rattle.sj_trees.specs.declared.positions.Position.{Position}
use Rattle.sj_trees.specs.declared.classes.ParamDef.{ParamDef}
use Rattle.sj_trees.specs.declared.classes.FieldDef.{FieldDef}
use Rattle.sj_trees.specs.declared.classes.MethodDef.{MethodDef}
use Rattle.sj_trees.specs.declared.classes.ClassKind.{ClassKind}
use Rattle.sj_trees.specs.declared.classes.ClassDef.{ClassDef}
use Rattle.sj_read_spec.specs.declared.members.MemberDef.{MemberDef}
use Rattle.sj_read_spec.specs.declared.members.MemberDef.TheVariants.{Field, Method}
use Rattle.sj_read_spec.specs.declared.codes.MemberTag.{MemberTag}
use Rattle.sj_read_spec.specs.declared.codes.MemberTag.TheVariants as tags
use Rattle.sj_read_spec.specs.Codes.{kinds, member_tags}
use Rattle.sj_trees.specs.Forms.{among}
use Rattle.exact_place.specs.Grammar.{Spelling, ◌then◌, IsValue}
use Rattle.sj_read_spec.specs.Spelling.{IsBytes, IsEach, IsCounted}
use Rattle.sj_read_spec.specs.Tables.{Tables, IsName}
use Rattle.sj_read_spec.specs.Types.{IsCode, IsOption}
use Rattle.sj_read_spec.specs.Classes.{IsBody, IsParam, IsField, IsMethod, IsMemberOf, IsMember, IsClass, fields_in, methods_in}
use Rattle.sj_write_spec.specs.Fields.{Fields, name_field, plain_field, ◌▸◌, byte, count, each, list_fields, option_fields}
use Rattle.sj_write_spec.specs.Trees.{term_fields}
use Rattle.sj_write_spec.specs.Classes.{kind_code, param_fields, field_fields, method_fields, members_fields, class_fields}
use Rattle.sj_write_spec.specs.Renumbered.{renumbered_position, renumbered, renumbered_field, renumbered_method, renumbered_class}
use Rattle.sj_write_spec.specs.Written.{spelled}
use Rattle.sj_write_spec.proofs.Bytes.{step, number_spelled}
use Rattle.sj_write_spec.proofs.Carry.{Carried, join, last, value, carried_code, carried_name, carried_method}
use Rattle.sj_write_spec.proofs.CarryLists.{carried_list, carried_mark, carried_option, carried_bytes}
use Rattle.sj_write_spec.proofs.CarryNames.{carried_type}
use Rattle.sj_write_spec.proofs.CarryTrees.{number, Known, carried_position, carried_namespace, carried_tree, length_map}

carried_param : (old : Tables) (p : ParamDef) (text : List ℕ) → IsParam old p text → Carried old (λ new text. IsParam new p text) (λ new. param_fields p) (param_fields p)
unfolding IsParam
carried_param old p text h =
    step h (λ name f1 k1 h1 h. step h (λ mutable f2 k2 h2 h. step h (λ tpe f3 k3 h3 h.
    subst (λ (p : ParamDef). Carried old (λ new text. IsParam new p text) (λ new. param_fields p) (param_fields p)) (sym h.same)
    (join _ (carried_name is_plain_name old name _ h1) (join _ (carried_mark mutable) (last _ (carried_type old tpe _ h3)))))))

carried_params : (old : Tables) (ps : List ParamDef) (text : List ℕ) → IsCounted (IsParam old) ps text → Carried old (λ new text. IsCounted (IsParam new) ps text) (λ new. list_fields param_fields ps) (list_fields param_fields ps)
carried_params old ps text h =
    let one = carried_list old (IsParam old) (λ new. IsParam new) (λ new p. p) (λ new. param_fields) param_fields (carried_param old) ps text h in
    subst (λ (qs : List ParamDef). Carried old (λ new text. IsCounted (IsParam new) qs text) (λ new. count (length ps) ▸ each param_fields qs) (list_fields param_fields ps)) (map-id ps) one

carried_names : (old : Tables) (names : List (List ℕ)) (text : List ℕ) → IsCounted (IsName is_class_name old.names) names text → Carried old (λ new text. IsCounted (IsName is_class_name new.names) names text) (λ new. list_fields name_field names) (list_fields name_field names)
carried_names old names text h =
    let one = carried_list old (IsName is_class_name old.names) (λ new. IsName is_class_name new.names) (λ new x. x) (λ new. name_field) name_field (λ x text h. carried_name is_class_name old x text h) names text h in
    subst (λ (xs : List (List ℕ)). Carried old (λ new text. IsCounted (IsName is_class_name new.names) xs text) (λ new. count (length names) ▸ each name_field xs) (list_fields name_field names)) (map-id names) one

option_map_id : {A : Type 0} (o : Option A) → option_map (λ x. x) o ≡ o
option_map_id None = refl
option_map_id (Some x) = refl

carried_superclass : (old : Tables) (o : Option (List ℕ)) (text : List ℕ) → IsOption (IsName is_class_name old.names) o text → Carried old (λ new text. IsOption (IsName is_class_name new.names) o text) (λ new. option_fields name_field o) (option_fields name_field o)
carried_superclass old o text h =
    let one = carried_option old (IsName is_class_name old.names) (λ new. IsName is_class_name new.names) (λ new x. x) (λ new. name_field) name_field (λ x text h. carried_name is_class_name old x text h) o text h in
    subst (λ (p : Option (List ℕ)). Carried old (λ new text. IsOption (IsName is_class_name new.names) p text) (λ new. option_fields name_field p) (option_fields name_field o)) (option_map_id o) one

carried_hash : (old : Tables) (o : Option (List ℕ)) (text : List ℕ) → IsOption (IsBytes 20) o text → Carried old (λ new text. IsOption (IsBytes 20) o text) (λ new. option_fields plain_field o) (option_fields plain_field o)
carried_hash old o text h =
    let one = carried_option old (IsBytes 20) (λ new. IsBytes 20) (λ new x. x) (λ new. plain_field) plain_field (λ x text h. carried_bytes old 20 x text h) o text h in
    subst (λ (p : Option (List ℕ)). Carried old (λ new text. IsOption (IsBytes 20) p text) (λ new. option_fields plain_field p) (option_fields plain_field o)) (option_map_id o) one

carried_body : (old : Tables) → Known old → (y : Term) (text : List ℕ) → IsBody old y text → Carried old (λ new text. IsBody new (renumbered (number old new) y) text) (λ new. term_fields new.files (renumbered (number old new) y)) (term_fields old.files y)
unfolding IsBody
carried_body old known y text h = carried_tree old known 200 y text h

-- ---- members

abbrev FieldCarried : Tables → FieldDef → Type 0
FieldCarried old d = Carried old (λ new text. IsMember new (Field (renumbered_field (number old new) d)) text) (λ new. field_fields new.files (renumbered_field (number old new) d)) (field_fields old.files d)

abbrev MethodCarried : Tables → MethodDef → Type 0
MethodCarried old d = Carried old (λ new text. IsMember new (Method (renumbered_method (number old new) d)) text) (λ new. method_fields new.files (renumbered_method (number old new) d)) (method_fields old.files d)

tagged_field : (old : Tables) (d : FieldDef) (fs' : Tables → Fields) (fs : Fields) → Carried old (λ new text. IsField new (renumbered_field (number old new) d) text) fs' fs → Carried old (λ new text. IsMember new (Field (renumbered_field (number old new) d)) text) (λ new. byte 1 ▸ fs' new) (byte 1 ▸ fs)
unfolding IsMember
tagged_field old d fs' fs one = join (λ new. tags.Field) (carried_code (among member_tags) 1 tags.Field (omega arith) refl) (last (λ new. renumbered_field (number old new) d) one)

tagged_method : (old : Tables) (d : MethodDef) (fs' : Tables → Fields) (fs : Fields) → Carried old (λ new text. IsMethod new (renumbered_method (number old new) d) text) fs' fs → Carried old (λ new text. IsMember new (Method (renumbered_method (number old new) d)) text) (λ new. byte 2 ▸ fs' new) (byte 2 ▸ fs)
unfolding IsMember
tagged_method old d fs' fs one = join (λ new. tags.Method) (carried_code (among member_tags) 2 tags.Method (omega arith) refl) (last (λ new. renumbered_method (number old new) d) one)

carried_field : (old : Tables) (d : FieldDef) (text : List ℕ) → IsField old d text → FieldCarried old d
unfolding IsField
carried_field old d text h =
    step h (λ pos f1 k1 h1 h. step h (λ is_static f2 k2 h2 h. step h (λ mutable f3 k3 h3 h. step h (λ name f4 k4 h4 h. step h (λ tpe f5 k5 h5 h.
    subst (FieldCarried old) (sym h.same)
    (tagged_field old (record { pos = pos; is_static = is_static; mutable = mutable; name = name; tpe = tpe }) _ _
    (join _ (carried_position old pos _ h1) (join _ (carried_mark is_static) (join _ (carried_mark mutable) (join _ (carried_name is_plain_name old name _ h4) (last _ (carried_type old tpe _ h5))))))))))))

carried_method_def : (old : Tables) → Known old → (d : MethodDef) (text : List ℕ) → IsMethod old d text → MethodCarried old d
unfolding IsMethod
carried_method_def old known d text h =
    step h (λ pos f1 k1 h1 h. step h (λ namespace f2 k2 h2 h. step h (λ name f3 k3 h3 h. step h (λ params f4 k4 h4 h. step h (λ result f5 k5 h5 h. step h (λ body f6 k6 h6 h. step h (λ hash f7 k7 h7 h.
    subst (MethodCarried old) (sym h.same)
    (tagged_method old (record { pos = pos; namespace = namespace; name = name; params = params; result = result; body = body; hash = hash }) _ _
    (join _ (carried_position old pos _ h1) (join _ (carried_namespace namespace) (join _ (carried_method old name _ known h3) (join _ (carried_params old params _ h4) (join _ (carried_type old result _ h5)
    (join _ (carried_option old (IsBody old) (λ new. IsBody new) (λ new. renumbered (number old new)) (λ new. term_fields new.files) (term_fields old.files) (carried_body old known) body _ h6) (last _ (carried_hash old hash _ h7))))))))))))))))

-- the fields and the methods among members, each list by itself
record MembersCarried (old : Tables) (ms : List MemberDef) : Type 0 where
  count_is : length (fields_in ms) + length (methods_in ms) ≡ length ms
  fields : Carried old (λ new text. IsEach (IsMember new) (length (fields_in ms)) (map (λ d. Field (renumbered_field (number old new) d)) (fields_in ms)) text) (λ new. each (field_fields new.files) (map (renumbered_field (number old new)) (fields_in ms))) (each (field_fields old.files) (fields_in ms))
  methods : Carried old (λ new text. IsEach (IsMember new) (length (methods_in ms)) (map (λ d. Method (renumbered_method (number old new) d)) (methods_in ms)) text) (λ new. each (method_fields new.files) (map (renumbered_method (number old new)) (methods_in ms))) (each (method_fields old.files) (methods_in ms))

one_field : (old : Tables) (d : FieldDef) (ms : List MemberDef) → FieldCarried old d → MembersCarried old ms → MembersCarried old (Field d ∷ ms)
unfolding IsEach
one_field old d ms one rest = record { count_is = let e = rest.count_is in omega (arith, e); fields = join _ one (last _ rest.fields); methods = rest.methods }

one_method : (old : Tables) (d : MethodDef) (ms : List MemberDef) → MethodCarried old d → MembersCarried old ms → MembersCarried old (Method d ∷ ms)
unfolding IsEach
one_method old d ms one rest = record { count_is = let e = rest.count_is in omega (arith, e); fields = rest.fields; methods = join _ one (last _ rest.methods) }

no_member : (old : Tables) → MembersCarried old []
unfolding IsEach
no_member old = record { count_is = omega arith; fields = value; methods = value }

one_member_of : (old : Tables) → Known old → (tag : MemberTag) (m : MemberDef) (ms : List MemberDef) (text : List ℕ) → IsMemberOf old tag m text → MembersCarried old ms → MembersCarried old (m ∷ ms)
one_member_of old known tags.Field m ms text h rest = step h (λ d f1 k1 h1 h. subst (λ (m : MemberDef). MembersCarried old (m ∷ ms)) (sym h.same) (one_field old d ms (carried_field old d _ h1) rest))
one_member_of old known tags.Method m ms text h rest = step h (λ d f1 k1 h1 h. subst (λ (m : MemberDef). MembersCarried old (m ∷ ms)) (sym h.same) (one_method old d ms (carried_method_def old known d _ h1) rest))

one_member : (old : Tables) → Known old → (m : MemberDef) (ms : List MemberDef) (text : List ℕ) → IsMember old m text → MembersCarried old ms → MembersCarried old (m ∷ ms)
unfolding IsMember
one_member old known m ms text h rest = step h (λ tag f1 k1 h1 h. one_member_of old known tag m ms _ h rest)

carried_members : (old : Tables) → Known old → (n : ℕ) (ms : List MemberDef) (text : List ℕ) → IsEach (IsMember old) n ms text → (length ms ≡ n) × MembersCarried old ms
unfolding IsEach
carried_members old known zero ms text h = subst (λ (ns : List MemberDef). (length ns ≡ 0) × MembersCarried old ns) (sym h.same) (refl, no_member old)
carried_members old known (suc n) ms text h =
    step h (λ m f1 k1 h1 h. step h (λ rest f2 k2 h2 h.
    let others = carried_members old known n rest _ h2 in
    subst (λ (ns : List MemberDef). (length ns ≡ suc n) × MembersCarried old ns) (sym h.same) (ap suc others.0, one_member old known m rest _ h1 others.1)))

each_joined : {A : Type 0} (P : Spelling A) (n m : ℕ) (xs ys : List A) (front back : List ℕ) → IsEach P n xs front → IsEach P m ys back → IsEach P (n + m) (xs ++ ys) (front ++ back)
unfolding IsEach
each_joined P zero m xs ys front back p q =
    let sum : m ≡ zero + m = omega arith in
    subst (λ (k : ℕ). IsEach P k (xs ++ ys) (front ++ back)) sum
    (subst (λ (zs : List _). IsEach P m (zs ++ ys) (front ++ back)) (sym p.same) (subst (λ (t : List ℕ). IsEach P m ys (t ++ back)) (sym p.empty) q))
each_joined P (suc n) m xs ys front back p q =
    let rest = p.second in
    let joined = each_joined P n m rest.value ys rest.front back rest.first q in
    let sum : suc (n + m) ≡ suc n + m = omega arith in
    subst (λ (k : ℕ). IsEach P k (xs ++ ys) (front ++ back)) sum
    (subst (λ (zs : List _). IsEach P (suc (n + m)) (zs ++ ys) (front ++ back)) (sym rest.second.same)
    (record {
      value = p.value;
      front = p.front;
      back = rest.front ++ back;
      first = p.first;
      second = record { value = rest.value ++ ys; front = rest.front ++ back; back = []; first = joined; second = record { same = refl; empty = refl }; parts = sym (append-nil (rest.front ++ back)) };
      parts = ap (λ (t : List ℕ). t ++ back) (p.parts ∙ ap (λ (t : List ℕ). p.front ++ t) (rest.parts ∙ ap (λ (t : List ℕ). rest.front ++ t) rest.second.empty ∙ append-nil rest.front)) ∙ append_assoc p.front rest.front back;
    }))

fields_of : (f : FieldDef → FieldDef) (g : MethodDef → MethodDef) (fs : List FieldDef) (ms : List MethodDef) → fields_in (map (λ d. Field (f d)) fs ++ map (λ d. Method (g d)) ms) ≡ map f fs
fields_of f g [] [] = refl
fields_of f g [] (m ∷ ms) = fields_of f g [] ms
fields_of f g (d ∷ fs) ms = ap (λ (l : List FieldDef). f d ∷ l) (fields_of f g fs ms)

methods_of : (f : FieldDef → FieldDef) (g : MethodDef → MethodDef) (fs : List FieldDef) (ms : List MethodDef) → methods_in (map (λ d. Field (f d)) fs ++ map (λ d. Method (g d)) ms) ≡ map g ms
methods_of f g [] [] = refl
methods_of f g [] (m ∷ ms) = ap (λ (l : List MethodDef). g m ∷ l) (methods_of f g [] ms)
methods_of f g (d ∷ fs) ms = methods_of f g fs ms

carried_rest : (old : Tables) (pos : Position) (name : List ℕ) (kind : ClassKind) (superclass : Option (List ℕ)) (interfaces : List (List ℕ)) (ms : List MemberDef) → length ms < 256 ^ 4 → MembersCarried old ms
    → Carried old (λ new text. (◌then◌ {B = ClassDef} (IsCounted (IsMember new)) (λ members. IsValue (record { pos = renumbered_position (number old new) pos; files = new.files; name = name; kind = kind; superclass = superclass; interfaces = interfaces; fields = fields_in members; methods = methods_in members })))
    (record { pos = renumbered_position (number old new) pos; files = new.files; name = name; kind = kind; superclass = superclass; interfaces = interfaces; fields = map (renumbered_field (number old new)) (fields_in ms); methods = map (renumbered_method (number old new)) (methods_in ms) }) text)
    (λ new. members_fields new.files (map (renumbered_field (number old new)) (fields_in ms)) (map (renumbered_method (number old new)) (methods_in ms)))
    (members_fields old.files (fields_in ms) (methods_in ms))
carried_rest old pos name kind superclass interfaces ms few all =
    let fs = fields_in ms in
    let gs = methods_in ms in
    let small : length fs + length gs < 256 ^ 4 = subst (λ (n : ℕ). n < 256 ^ 4) (sym all.count_is) few in
    record {
      inside = (small, (all.fields.inside, all.methods.inside));
      same = λ new cover. λ i. count (length_map (renumbered_field (number old new)) fs i + length_map (renumbered_method (number old new)) gs i) ▸ (all.fields.same new cover.1.0 i ▸ all.methods.same new cover.1.1 i);
      again = λ new fit cover.
          let f = renumbered_field (number old new) in
          let g = renumbered_method (number old new) in
          let members = map (λ d. Field (f d)) fs ++ map (λ d. Method (g d)) gs in
          let bytes = spelled new (each (field_fields old.files) fs) ++ spelled new (each (method_fields old.files) gs) in
          record {
            value = members;
            front = spelled new (count (length fs + length gs)) ++ bytes;
            back = [];
            first = record { value = length fs + length gs; front = spelled new (count (length fs + length gs)); back = bytes; first = number_spelled 4 (length fs + length gs) small; second = each_joined (IsMember new) (length fs) (length gs) (map (λ d. Field (f d)) fs) (map (λ d. Method (g d)) gs) _ _ (all.fields.again new fit cover.1.0) (all.methods.again new fit cover.1.1); parts = refl };
            second = record { same = λ i. record { pos = renumbered_position (number old new) pos; files = new.files; name = name; kind = kind; superclass = superclass; interfaces = interfaces; fields = sym (fields_of f g fs gs) i; methods = sym (methods_of f g fs gs) i }; empty = refl };
            parts = sym (append-nil (spelled new (count (length fs + length gs)) ++ bytes));
          };
    }

carried_kind : {old : Tables} (k : ClassKind) → Carried old (λ new text. IsCode (among kinds) k text) (λ new. byte (kind_code k)) (byte (kind_code k))
carried_kind ClassKind.Class = carried_code (among kinds) 1 ClassKind.Class (omega arith) refl
carried_kind ClassKind.ModuleClass = carried_code (among kinds) 2 ClassKind.ModuleClass (omega arith) refl
carried_kind ClassKind.Interface = carried_code (among kinds) 3 ClassKind.Interface (omega arith) refl
carried_kind ClassKind.HijackedClass = carried_code (among kinds) 4 ClassKind.HijackedClass (omega arith) refl

abbrev pub ClassCarried : Tables → ClassDef → Type 0
ClassCarried old c = Carried old (λ new text. IsClass new (renumbered_class (number old new) new.files c) text) (λ new. class_fields (renumbered_class (number old new) new.files c)) (class_fields c)

-- a class of the old tables; its source files are theirs
pub carried_class : (old : Tables) → Known old → (c : ClassDef) (text : List ℕ) → IsClass old c text → (c.files ≡ old.files) × ClassCarried old c
unfolding IsClass
carried_class old known c text h =
    step h (λ pos f1 k1 h1 h. step h (λ name f2 k2 h2 h. step h (λ kind f3 k3 h3 h. step h (λ superclass f4 k4 h4 h. step h (λ interfaces f5 k5 h5 h. step h (λ ms f6 k6 h6 h.
    step h6 (λ n f7 k7 h7 h8.
    let all = carried_members old known n ms _ h8 in
    let few : length ms < 256 ^ 4 = subst (λ (m : ℕ). m < 256 ^ 4) (sym all.0) h7.small in
    subst (λ (c : ClassDef). (c.files ≡ old.files) × ClassCarried old c) (sym h.same)
    (refl, join _ (carried_position old pos _ h1) (join _ (carried_name is_class_name old name _ h2) (join _ (carried_kind kind) (join _ (carried_superclass old superclass _ h4) (join _ (carried_names old interfaces _ h5) (carried_rest old pos name kind superclass interfaces ms few all.1)))))))))))))
