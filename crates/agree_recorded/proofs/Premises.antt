-- What the theorem on classes asks of the methods of a program, by computation.
use Rattle.std.proofs.Common.{◌≡◌, ℕ, Bool, true, false, List, [], ◌∷◌, codes, map, ◌&&◌, ◌||◌, not, Option, Some, None, refl, sym, ap, subst, ⊎_elim, Contains, if◌then◌else◌, arith}
use Rattle.std.specs.Prelude.{nat_eq, is_some, MatchOption}
use Rattle.std.specs.List.{All}
use Rattle.std.specs.Cmp.Lexicographic.{pointwise}
use Rattle.std.specs.List.{list_all}
use Rattle.std.proofs.lemmas.Bool.{and_parts}
use Rattle.std.proofs.lemmas.List.Elements.{All-nil, All-cons, Contains-append_right}
use Rattle.outcomes.specs.Agreement.{Agree}
use Rattle.ir_mean.specs.Rows.{nowhere, object_name, once}
use Rattle.ir_mean.specs.World.{member_of}
use Rattle.sj_names.specs.Same.{is_same_text}
use Rattle.sj_local.specs.Broken.{method_place, constructors_place, FirstBroken}
use Rattle.sj_local.specs.ClassRules.{is_empty, keeps_superclass, keeps_hijacked}
use Rattle.sj_local.specs.Firsts.{first_where}
use Rattle.sj_local.specs.MemberRules.{field_key, method_key, breaks_field}
use Rattle.sj_local.specs.WalkParts.{findings_in, no_findings}
use Rattle.sj_local.specs.declared.rules.Rule.TheVariants as rules
use Rattle.sj_desugar_spec.specs.Desugar.{has_no_value}
use Rattle.sj_names.specs.Grammar.{is_class_name, is_simple_name}
use Rattle.sj_names.specs.MethodNames.{IsParameter, IsMethodName}
use Rattle.sj_names.specs.References.{IsReference}
use Rattle.sj_names.specs.declared.method_names.MethodName.{MethodName}
use Rattle.sj_names.specs.declared.references.TypeRef.{TypeRef}
use Rattle.sj_names.specs.declared.method_names.Member.{Member}
use Rattle.sj_trees.specs.Term.{Term, skip}
use Rattle.sj_trees.specs.declared.classes.ClassDef.{ClassDef}
use Rattle.sj_trees.specs.declared.classes.MethodDef.{MethodDef}
use Rattle.sj_trees.specs.declared.classes.ParamDef.{ParamDef}
use Rattle.agree_body_rules.proofs.Equal.{equals}
use Rattle.agree_early_errors.specs.EmittedMethods.{EmittedMethod, HaveOwnMembers}
use Rattle.agree_body_rules.proofs.Lists.{nothing_in, in_front_or_behind}
use Rattle.sj_names.proofs.Same.{impossible}
use Rattle.agree_classes.specs.Linked.{have_functions, functions_of}
use Rattle.agree_body_rules.proofs.Plain.{plain_world}
use Rattle.agree_body_forms.specs.Built.{Usable}
use Rattle.agree_body_forms.specs.Built.{body_boxes}
use Rattle.agree_body_rules.specs.Locals.{local_of, HasValue}
use Rattle.agree_early_errors.specs.Methods.{scene_of}
use Rattle.agree_classes.specs.Worked.{emitted}
use Rattle.agree_classes.specs.Programs.{IsAccepted}
use Rattle.agree_local_rules.proofs.Classes.{class-keeps, keeps-superclass, keeps-hijacked}
use Rattle.agree_local_rules.proofs.Methods.{body_keeps}
use Rattle.agree_classes.proofs.Programs.{classes_agree}
use Rattle.agree_recorded.specs.Bounds.{emitted_of, all_emitted, class_within, file_within}
use Rattle.agree_recorded.proofs.Deciding.{when_not, is_none, yields_there, is_typed, typed, yields_type, result_is}
use Rattle.agree_recorded.proofs.Unbroken.{opposite, are_new, like_named, declares_once, Computed, unbroken}

abbrev pub body_or_skip : Option Term → Term
body_or_skip None = skip nowhere
body_or_skip (Some e) = e

-- the body of a method that has one
abbrev pub body_in : MethodDef → Term
body_in d = body_or_skip d.body

abbrev are_values : List ParamDef → Bool
are_values [] = true
are_values (d ∷ ds) = not (has_no_value d.tpe) && are_values ds

-- there are values of the types of parameters
pub have_values : (ds : List ParamDef) → are_values ds ≡ true → (x : List ℕ) (p : ParamDef) → local_of ds x ≡ Some p → HasValue p.tpe
have_values [] h x p e = impossible (cc)
have_values (d ∷ ds) h x p e = let k = and_parts (not (has_no_value d.tpe)) (are_values ds) h in go (pointwise nat_eq x d.name) e (when_not (has_no_value d.tpe) k.0) (λ s. have_values ds k.1 x p s)
  where
    go : (b : Bool) → (if b then Some d else local_of ds x) ≡ Some p → HasValue d.tpe → (local_of ds x ≡ Some p → HasValue p.tpe) → HasValue p.tpe
    go true k first others = let same : d ≡ p = cc in subst (λ (a : ParamDef). HasValue a.tpe) same first
    go false k first others = others k

-- what each of a list has
abbrev pub AllOf : {X : Type 0} → (X → Type 0) → List X → Type 0
AllOf P [] = Unit {0}
AllOf P (x ∷ xs) = P x × AllOf P xs

pub each_of : {X : Type 0} (P : X → Type 0) (xs : List X) → AllOf P xs → (x : X) → Contains xs x → P x
each_of P [] h x i = nothing_in x i
each_of P (y ∷ ys) h x i = ⊎_elim (λ same. subst P same h.0) (λ k. each_of P ys h.1 x k) (in_front_or_behind y ys x i)

each_passes : {X : Type 0} (test : X → Bool) (xs : List X) → list_all test xs ≡ true → (x : X) → Contains xs x → test x ≡ true
each_passes test [] h x i = nothing_in x i
each_passes test (y ∷ ys) h x i = let p = and_parts (test y) (list_all test ys) h in ⊎_elim (λ same. subst (λ z. test z ≡ true) same p.0) (λ k. each_passes test ys p.1 x k) (in_front_or_behind y ys x i)

abbrev simple_of : EmittedMethod → List ℕ
simple_of e = e.member.method.simple

abbrev is_unlike : EmittedMethod → EmittedMethod → Bool
is_unlike e o = not (is_same_text (simple_of e) (simple_of o))

abbrev pub all_unlike : List EmittedMethod → Bool
all_unlike [] = true
all_unlike (e ∷ es) = list_all (is_unlike e) es && all_unlike es

-- methods with other simple names are those of other members
pub own : (es : List EmittedMethod) → all_unlike es ≡ true → HaveOwnMembers es
own [] h = tt
own (e ∷ es) h = let p = and_parts (list_all (is_unlike e) es) (all_unlike es) h in ((λ o i same. opposite (is_same_text (simple_of e) (simple_of o)) (each_passes (is_unlike e) es p.0 o i) (subst (λ (m : Member). is_same_text (simple_of e) m.method.simple ≡ true) same (equals (simple_of e)))), own es p.1)

-- ---- names of methods, by computing: those that name no array

abbrev is_named : TypeRef → Bool
is_named (TypeRef.Class c) = is_class_name c
is_named (TypeRef.Array r) = false
is_named _ = true

abbrev is_parameter : TypeRef → Bool
is_parameter TypeRef.Void = false
is_parameter r = is_named r

abbrev are_parameters : List TypeRef → Bool
are_parameters [] = true
are_parameters (r ∷ rs) = is_parameter r && are_parameters rs

abbrev is_result_named : Option TypeRef → Bool
is_result_named None = true
is_result_named (Some r) = is_named r

named : (r : TypeRef) → is_named r ≡ true → IsReference r
named TypeRef.Void h = tt
named TypeRef.Boolean h = tt
named TypeRef.Char h = tt
named TypeRef.Byte h = tt
named TypeRef.Short h = tt
named TypeRef.Int h = tt
named TypeRef.Long h = tt
named (TypeRef.Class c) h = h
named (TypeRef.Array r) h = impossible h

parameter : (r : TypeRef) → is_parameter r ≡ true → IsParameter r
parameter TypeRef.Void h = impossible h
parameter TypeRef.Boolean h = (tt, λ e. cc)
parameter TypeRef.Char h = (tt, λ e. cc)
parameter TypeRef.Byte h = (tt, λ e. cc)
parameter TypeRef.Short h = (tt, λ e. cc)
parameter TypeRef.Int h = (tt, λ e. cc)
parameter TypeRef.Long h = (tt, λ e. cc)
parameter (TypeRef.Class c) h = (h, λ e. cc)
parameter (TypeRef.Array r) h = impossible h

parameters : (rs : List TypeRef) → are_parameters rs ≡ true → All IsParameter rs
parameters [] h = All-nil IsParameter
parameters (r ∷ rs) h = let k = and_parts (is_parameter r) (are_parameters rs) h in All-cons IsParameter r rs (parameter r k.0) (parameters rs k.1)

result_named : (o : Option TypeRef) → is_result_named o ≡ true → MatchOption o (Unit {0}) IsReference
result_named None h = tt
result_named (Some r) h = named r h

-- ---- classes

abbrev is_well_named : MethodName → Bool
is_well_named m = is_simple_name m.simple && (are_parameters m.params && is_result_named m.result)

well_named : (m : MethodName) → is_well_named m ≡ true → IsMethodName m
well_named m h =
    let k = and_parts (is_simple_name m.simple) (are_parameters m.params && is_result_named m.result) h in
    let rest = and_parts (are_parameters m.params) (is_result_named m.result) k.1 in
    record { simple = k.0; params = parameters m.params rest.0; result = result_named m.result rest.1 }

abbrev is_accepted : Usable → MethodDef → Bool
is_accepted has d = is_typed has (scene_of object_name d (body_in d)) (body_in d) && (yields_there (body_in d) d.result && (not (body_boxes d (body_in d)) && ((is_none d.result || not (has_no_value d.result)) && (are_values d.params && is_well_named d.name))))

-- a method of `java.lang.Object` that the class gives for its member
record IsFound (c : ClassDef) (d : MethodDef) : Type 0 where
  pub listed : Contains c.methods d
  pub found : member_of (c ∷ []) object_name d.namespace d.name ≡ Some d
  pub has_body : d.body ≡ Some (body_in d)

accepted : (c : ClassDef) (fs : List EmittedMethod) (d : MethodDef) → FirstBroken c None → IsFound c d → is_accepted (functions_of fs) d ≡ true → IsAccepted (c ∷ []) (c ∷ []) fs (emitted d (body_in d))
accepted c fs d unbroken there h =
    let body = and_parts (is_typed (functions_of fs) (scene_of object_name d (body_in d)) (body_in d)) (yields_there (body_in d) d.result && (not (body_boxes d (body_in d)) && ((is_none d.result || not (has_no_value d.result)) && (are_values d.params && is_well_named d.name)))) h in
    let value = and_parts (yields_there (body_in d) d.result) (not (body_boxes d (body_in d)) && ((is_none d.result || not (has_no_value d.result)) && (are_values d.params && is_well_named d.name))) body.1 in
    let raw = and_parts (not (body_boxes d (body_in d))) ((is_none d.result || not (has_no_value d.result)) && (are_values d.params && is_well_named d.name)) value.1 in
    let result = and_parts (is_none d.result || not (has_no_value d.result)) (are_values d.params && is_well_named d.name) raw.1 in
    let names = and_parts (are_values d.params) (is_well_named d.name) result.1 in
    let once = body_keeps c d (body_in d) there.has_body (class-keeps c unbroken d there.listed) in
    record {
      owner = c;
      unbroken = unbroken;
      listed = there.listed;
      named = refl;
      found = there.found;
      has_body = there.has_body;
      rules = record {
        typed = typed (c ∷ []) (functions_of fs) [] (scene_of object_name d (body_in d)) (body_in d) once.once body.0;
        yields = yields_type (c ∷ []) (functions_of fs) (body_in d) d.result value.0;
        boxed = raw.0;
        result = result_is d.result result.0;
        values = have_values d.params names.0;
        once = once;
      };
      class_name = refl;
      method_name = well_named d.name names.1;
    }

abbrev has_body : MethodDef → Bool
has_body d = is_some d.body

body_is : (o : Option Term) → is_some o ≡ true → o ≡ Some (body_or_skip o)
body_is None h = impossible h
body_is (Some e) h = refl

abbrev pub found_in : ClassDef → MethodDef → Option MethodDef
found_in c d = member_of (c ∷ []) object_name d.namespace d.name

all_accepted : (c : ClassDef) (fs : List EmittedMethod) (ds : List MethodDef) → FirstBroken c None → ((d : MethodDef) → Contains ds d → Contains c.methods d) → map (found_in c) ds ≡ map Some ds → list_all has_body ds ≡ true → list_all (is_accepted (functions_of fs)) ds ≡ true → AllOf (IsAccepted (c ∷ []) (c ∷ []) fs) (all_emitted ds)
all_accepted c fs [] unbroken listed found bodies h = tt
all_accepted c fs (d ∷ ds) unbroken listed found bodies h =
    let its : found_in c d ≡ Some d = cc in
    let others : map (found_in c) ds ≡ map Some ds = cc in
    let its_bodies = and_parts (has_body d) (list_all has_body ds) bodies in
    let body : d.body ≡ Some (body_in d) = body_is d.body its_bodies.0 in
    let k = and_parts (is_accepted (functions_of fs) d) (list_all (is_accepted (functions_of fs)) ds) h in
    let first = accepted c fs d unbroken (record { listed = listed d (0, omega arith, refl); found = its; has_body = body }) k.0 in
    let rest = all_accepted c fs ds unbroken (λ x i. listed x (Contains-append_right (d ∷ []) ds x i)) others its_bodies.1 k.1 in
    subst (λ (o : Option Term). AllOf (IsAccepted (c ∷ []) (c ∷ []) fs) (emitted_of d o (all_emitted ds))) (sym body) (first, rest)

-- what is tested of a class that the reference recorded
abbrev pub tests : ClassDef → List Bool
tests c =
    keeps_superclass c ∷ keeps_hijacked c ∷ are_new is_same_text [] c.interfaces ∷ is_empty c.fields ∷ are_new like_named [] (map method_key c.methods) ∷
    not (is_some (method_place c rules.MethodName)) ∷ not (is_some (method_place c rules.Signature)) ∷ not (is_some (method_place c rules.MissingBody)) ∷
    not (is_some (constructors_place c)) ∷ list_all declares_once c.methods ∷ list_all has_body c.methods ∷
    list_all (is_accepted (functions_of (all_emitted c.methods))) c.methods ∷ all_unlike (all_emitted c.methods) ∷ have_functions (all_emitted c.methods) once ∷ []

abbrev pub all_hold : List Bool
all_hold = true ∷ true ∷ true ∷ true ∷ true ∷ true ∷ true ∷ true ∷ true ∷ true ∷ true ∷ true ∷ true ∷ true ∷ []

-- a class that the reference recorded, by computing
pub record Recorded (c : ClassDef) : Type 0 where
  pub found : map (found_in c) c.methods ≡ map Some c.methods
  pub findings : map (findings_in c) c.methods ≡ map (λ (m : MethodDef). no_findings) c.methods
  pub tested : tests c ≡ all_hold

absent : {X : Type 0} (o : Option X) → not (is_some o) ≡ true → o ≡ None
absent None h = refl
absent (Some x) h = impossible h

empty : {X : Type 0} (xs : List X) → is_empty xs ≡ true → xs ≡ []
empty [] h = refl
empty (x ∷ xs) h = impossible h

module _ (c : ClassDef) (h : Recorded c) where
  no_fields : c.fields ≡ []
  no_fields = let tested = h.tested in let none : is_empty c.fields ≡ true = cc in empty c.fields none

  computed : Computed c
  computed =
      let tested = h.tested in
      let superclass : keeps_superclass c ≡ true = cc in
      let hijacked : keeps_hijacked c ≡ true = cc in
      let interfaces : are_new is_same_text [] c.interfaces ≡ true = cc in
      let methods : are_new like_named [] (map method_key c.methods) ≡ true = cc in
      let name : not (is_some (method_place c rules.MethodName)) ≡ true = cc in
      let signature : not (is_some (method_place c rules.Signature)) ≡ true = cc in
      let missing_body : not (is_some (method_place c rules.MissingBody)) ≡ true = cc in
      let constructors : not (is_some (constructors_place c)) ≡ true = cc in
      let declarations : list_all declares_once c.methods ≡ true = cc in
      record {
        superclass = superclass;
        hijacked = hijacked;
        interfaces = interfaces;
        fields = ap (map field_key) no_fields;
        methods = methods;
        field = ap (first_where (breaks_field c)) no_fields;
        name = absent (method_place c rules.MethodName) name;
        signature = absent (method_place c rules.Signature) signature;
        missing_body = absent (method_place c rules.MissingBody) missing_body;
        constructors = absent (constructors_place c) constructors;
        declarations = declarations;
        findings = h.findings;
      }

  pub recorded_unbroken : FirstBroken c None
  recorded_unbroken = unbroken c computed

  pub each_accepted_of : (e : EmittedMethod) → Contains (all_emitted c.methods) e → IsAccepted (c ∷ []) (c ∷ []) (all_emitted c.methods) e
  each_accepted_of =
      let tested = h.tested in
      let fs = all_emitted c.methods in
      let bodies : list_all has_body c.methods ≡ true = cc in
      let rows : list_all (is_accepted (functions_of (all_emitted c.methods))) c.methods ≡ true = cc in
      each_of (IsAccepted (c ∷ []) (c ∷ []) fs) fs (all_accepted c fs c.methods recorded_unbroken (λ d i. i) h.found bodies rows)

  only : (d : ClassDef) (P : ClassDef → Type 0) → P c → Contains (c ∷ []) d → P d
  only d P h i = ⊎_elim (λ same. subst P same h) (λ none. nothing_in d none) (in_front_or_behind c [] d i)

  pub recorded_agrees : Agree (class_within c) (file_within c.methods)
  recorded_agrees =
      let tested = h.tested in
      let unlike : all_unlike (all_emitted c.methods) ≡ true = cc in
      let called : have_functions (all_emitted c.methods) once ≡ true = cc in
      classes_agree (c ∷ []) (c ∷ []) (plain_world (c ∷ []) (λ d i. only d (λ (e : ClassDef). keeps_superclass e ≡ true) (keeps-superclass c recorded_unbroken) i) (λ d i. only d (λ (e : ClassDef). keeps_hijacked e ≡ true) (keeps-hijacked c recorded_unbroken) i)) once (codes "main") (all_emitted c.methods) each_accepted_of (own (all_emitted c.methods) unlike) called
