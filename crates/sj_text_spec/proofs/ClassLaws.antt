-- The law of the reader of classes.
use Rattle.std.proofs.Common.{◌≡◌, ℕ, ◌+◌, ◌≤◌, true, false, eqb, List, [], ◌∷◌, ◌++◌, Option, Some, None, refl, sym, ap, ◌∙◌, append-nil, codes}
use Rattle.js_tree.specs.Written.{Grammar}
use Rattle.js_read_spec.proofs.Parts.{seq, led, lead_of}
use Rattle.exact_place.specs.Reading.{Reading, passes}
use Rattle.exact_place.specs.Grammar.{Spelling, ◌then◌, Leads, Either, first, second, IsLiteral, IsValue, IsMapped}
use Rattle.exact_place.specs.Place.{Law, Stops}
use Rattle.exact_place.proofs.Basic.{law_value, law_map, law_same, law_narrow, law_end}
use Rattle.exact_place.proofs.Sequence.{Starts, law_after, law_lead, law_either}
use Rattle.exact_place.proofs.First.{apart, starts_leads, starts_mapped, follows_starts}
use Rattle.sj_trees.specs.Erase.{nowhere}
use Rattle.sj_trees.specs.Term.{Term}
use Rattle.sj_trees.specs.declared.classes.ParamDef.{ParamDef}
use Rattle.sj_trees.specs.declared.classes.FieldDef.{FieldDef}
use Rattle.sj_trees.specs.declared.classes.MethodDef.{MethodDef}
use Rattle.sj_trees.specs.declared.classes.ClassDef.{ClassDef}
use Rattle.sj_text_spec.specs.Spelling.{End, Form, SpellsList, SpellsPlainName, SpellsClassName, SpellsMethodName, SpellsMark, SpellsNamespace, SpellsKind, SpellsType, SpellsTree, SpellsParam, SpellsField, SpellsBody, SpellsMethod, SpellsSuperclass, Lists}
use Rattle.sj_text_spec.specs.Words.{ends_word}
use Rattle.sj_text_spec.specs.Reading.{bracketed_at, param_at, member_field_at, body_at, method_at, superclass_at, class_at, listing_at}
use Rattle.sj_text_spec.specs.Names.{class_name_at}
use Rattle.sj_text_spec.proofs.Fields.{anything, fits, in_brackets, field, close, Field, Close, part, last, field_of, law_bracketed}
use Rattle.sj_text_spec.proofs.Values.{law_mark, law_namespace, law_kind}
use Rattle.sj_text_spec.proofs.Literals.{law_plain_name, law_class_name, law_any_class_name, starts_class_name, law_method_name, law_type}
use Rattle.sj_text_spec.proofs.TreeLaws.{starts_tree, law_tree}

close_is : {A : Type 0} (x y : A) {text : List ℕ} → y ≡ x → End text → Close x y text
close_is x y e s = record { back = []; second = record { same = e; empty = refl }; parts = s.same }

-- a word behind its parenthesis, and its fields
worded : {U : Type 0} {fields : Grammar} (word back : List ℕ) {text : List ℕ} → text ≡ (codes "(" ++ word) ++ back → U → fields back → Form U word fields text
worded word back {text} parts u f = record { blank = u; spelled = led (codes "(") (word ++ back) parts (seq word back refl (record { same = refl }) f) }

unworded : {U : Type 0} {fields : Grammar} (word : List ℕ) {text : List ℕ} (s : Form U word fields text) → text ≡ (codes "(" ++ word) ++ s.spelled.second.back
unworded word s = lead_of s.spelled ∙ ap (λ (t : List ℕ). codes "(" ++ t) (lead_of s.spelled.second)

starts_form : {U : Type 0} {fields : Grammar} (word : List ℕ) {text : List ℕ} → Form U word fields text → passes (λ c. eqb c 40) text ≡ true
starts_form word s = rw (lead_of s.spelled) refl

abbrev Param_form : Spelling ParamDef
Param_form = Leads (codes "(param") (Field SpellsPlainName (λ x. Field SpellsMark (λ b. Field SpellsType (λ t. Close (record { name = x; mutable = b; tpe = t })))))

param_to : (y : ParamDef) (text : List ℕ) → Param_form y text → SpellsParam y text
unfolding SpellsParam
param_to y text p =
    let p0 = p.second in
    let p1 = p0.second in
    let p2 = p1.second in
    let p3 = p2.second in
    rw p3.second.same (worded (codes "param") p.back p.parts tt (part p0 (part p1 (part p2 (last p3)))))

param_from : (y : ParamDef) (text : List ℕ) → SpellsParam y text → Param_form y text
unfolding SpellsParam
param_from y text h =
    let s0 = h.spelled.second.second in
    let s1 = s0.second.second in
    let s2 = s1.second.second in
    let s3 = s2.second.second in
    record { back = h.spelled.second.back; second = field_of y.name s0 (field_of y.mutable s1 (field_of y.tpe s2 (close_is (record { name = y.name; mutable = y.mutable; tpe = y.tpe }) y (λ i. record { name = y.name; mutable = y.mutable; tpe = y.tpe }) s3))); parts = unworded (codes "param") h }

starts_param : Starts (λ c. eqb c 40) SpellsParam
unfolding SpellsParam
starts_param y text p = starts_form (codes "param") p

abbrev Field_form : Spelling FieldDef
Field_form = Leads (codes "(field") (Field SpellsMark (λ s. Field SpellsMark (λ b. Field SpellsPlainName (λ x. Field SpellsType (λ t. Close (record { pos = nowhere; is_static = s; mutable = b; name = x; tpe = t }))))))

field_to : (y : FieldDef) (text : List ℕ) → Field_form y text → SpellsField y text
unfolding SpellsField
field_to y text p =
    let p0 = p.second in
    let p1 = p0.second in
    let p2 = p1.second in
    let p3 = p2.second in
    let p4 = p3.second in
    rw p4.second.same (worded (codes "field") p.back p.parts refl (part p0 (part p1 (part p2 (part p3 (last p4))))))

field_from : (y : FieldDef) (text : List ℕ) → SpellsField y text → Field_form y text
unfolding SpellsField
field_from y text h =
    let s0 = h.spelled.second.second in
    let s1 = s0.second.second in
    let s2 = s1.second.second in
    let s3 = s2.second.second in
    let s4 = s3.second.second in
    record { back = h.spelled.second.back; second = field_of y.is_static s0 (field_of y.mutable s1 (field_of y.name s2 (field_of y.tpe s3 (close_is (record { pos = nowhere; is_static = y.is_static; mutable = y.mutable; name = y.name; tpe = y.tpe }) y (λ i. record { pos = h.blank i; is_static = y.is_static; mutable = y.mutable; name = y.name; tpe = y.tpe }) s4)))); parts = unworded (codes "field") h }

starts_field : Starts (λ c. eqb c 40) SpellsField
unfolding SpellsField
starts_field y text p = starts_form (codes "field") p

abbrev Method_form : Spelling MethodDef
Method_form = Leads (codes "(method") (Field SpellsNamespace (λ s. Field SpellsMethodName (λ m'. Field (SpellsList SpellsParam) (λ ps. Field SpellsType (λ t. Field SpellsBody (λ b. Close (record { pos = nowhere; namespace = s; name = m'; params = ps; result = t; body = b; hash = None })))))))

method_to : (y : MethodDef) (text : List ℕ) → Method_form y text → SpellsMethod y text
unfolding SpellsMethod
method_to y text p =
    let p0 = p.second in
    let p1 = p0.second in
    let p2 = p1.second in
    let p3 = p2.second in
    let p4 = p3.second in
    let p5 = p4.second in
    rw p5.second.same (worded (codes "method") p.back p.parts (refl, refl) (part p0 (part p1 (part p2 (part p3 (part p4 (last p5)))))))

method_from : (y : MethodDef) (text : List ℕ) → SpellsMethod y text → Method_form y text
unfolding SpellsMethod
method_from y text h =
    let s0 = h.spelled.second.second in
    let s1 = s0.second.second in
    let s2 = s1.second.second in
    let s3 = s2.second.second in
    let s4 = s3.second.second in
    let s5 = s4.second.second in
    record { back = h.spelled.second.back; second = field_of y.namespace s0 (field_of y.name s1 (field_of y.params s2 (field_of y.result s3 (field_of y.body s4 (close_is (record { pos = nowhere; namespace = y.namespace; name = y.name; params = y.params; result = y.result; body = y.body; hash = None }) y (λ i. record { pos = h.blank.0 i; namespace = y.namespace; name = y.name; params = y.params; result = y.result; body = y.body; hash = h.blank.1 i }) s5))))); parts = unworded (codes "method") h }

starts_method : Starts (λ c. eqb c 40) SpellsMethod
unfolding SpellsMethod
starts_method y text p = starts_form (codes "method") p

abbrev Class_form : Spelling ClassDef
Class_form = Leads (codes "(class") (Field SpellsClassName (λ x. Field SpellsKind (λ k. Field SpellsSuperclass (λ s. Field (SpellsList SpellsClassName) (λ is. Field (SpellsList SpellsField) (λ fs. Field (SpellsList SpellsMethod) (λ ms. Close (record { pos = nowhere; files = [] ∷ []; name = x; kind = k; superclass = s; interfaces = is; fields = fs; methods = ms }))))))))

class_to : (y : ClassDef) (text : List ℕ) → Class_form y text → Lists y text
unfolding Lists
class_to y text p =
    let p0 = p.second in
    let p1 = p0.second in
    let p2 = p1.second in
    let p3 = p2.second in
    let p4 = p3.second in
    let p5 = p4.second in
    let p6 = p5.second in
    rw p6.second.same (worded (codes "class") p.back p.parts (refl, refl) (part p0 (part p1 (part p2 (part p3 (part p4 (part p5 (last p6))))))))

class_from : (y : ClassDef) (text : List ℕ) → Lists y text → Class_form y text
unfolding Lists
class_from y text h =
    let s0 = h.spelled.second.second in
    let s1 = s0.second.second in
    let s2 = s1.second.second in
    let s3 = s2.second.second in
    let s4 = s3.second.second in
    let s5 = s4.second.second in
    let s6 = s5.second.second in
    record { back = h.spelled.second.back; second = field_of y.name s0 (field_of y.kind s1 (field_of y.superclass s2 (field_of y.interfaces s3 (field_of y.fields s4 (field_of y.methods s5 (close_is (record { pos = nowhere; files = [] ∷ []; name = y.name; kind = y.kind; superclass = y.superclass; interfaces = y.interfaces; fields = y.fields; methods = y.methods }) y (λ i. record { pos = h.blank.0 i; files = h.blank.1 i; name = y.name; kind = y.kind; superclass = y.superclass; interfaces = y.interfaces; fields = y.fields; methods = y.methods }) s6)))))); parts = unworded (codes "class") h }

starts_class : Starts (λ c. eqb c 40) Lists
unfolding Lists
starts_class y text p = starts_form (codes "class") p

abbrev Body_form : Spelling (Option Term)
Body_form = Either (Leads (codes "-") (IsValue None)) (IsMapped (λ t. Some t) SpellsTree)

body_to : (b : Option Term) (text : List ℕ) → Body_form b text → SpellsBody b text
unfolding SpellsBody
body_to b text (first p) = rw p.second.same (record { same = p.parts ∙ ap (λ (t : List ℕ). codes "-" ++ t) p.second.empty })
body_to b text (second p) = rw p.is p.first

body_from : (b : Option Term) (text : List ℕ) → SpellsBody b text → Body_form b text
unfolding SpellsBody
body_from None text s = first (record { back = []; second = record { same = refl; empty = refl }; parts = s.same })
body_from (Some t) text s = second (record { value = t; first = s; is = refl })

abbrev Superclass_form : Spelling (Option (List ℕ))
Superclass_form = Either (Leads (codes "-") (IsValue None)) (IsMapped (λ c. Some c) SpellsClassName)

superclass_to : (c : Option (List ℕ)) (text : List ℕ) → Superclass_form c text → SpellsSuperclass c text
unfolding SpellsSuperclass
superclass_to c text (first p) = rw p.second.same (record { same = p.parts ∙ ap (λ (t : List ℕ). codes "-" ++ t) p.second.empty })
superclass_to c text (second p) = rw p.is p.first

superclass_from : (c : Option (List ℕ)) (text : List ℕ) → SpellsSuperclass c text → Superclass_form c text
unfolding SpellsSuperclass
superclass_from None text s = first (record { back = []; second = record { same = refl; empty = refl }; parts = s.same })
superclass_from (Some c) text s = second (record { value = c; first = s; is = refl })

module _ (n m : ℕ) (le : n ≤ m) where
  -- a list of parts that begin with a parenthesis
  listed : {A : Type 0} {read again : List ℕ → Reading A} (P : A → Grammar) → Starts (λ c. eqb c 40) P → Law n anything read again P → Law n ends_word (bracketed_at n read) (bracketed_at m again) (SpellsList P)
  listed P starts law = law_narrow ends_word (λ c e. refl) (law_bracketed n m le P (λ c. eqb c 40) starts refl (law_narrow in_brackets (λ c e. refl) law))

  law_param : Law n anything (param_at n) (param_at m) SpellsParam
  unfolding param_at
  law_param = law_same param_to param_from (law_lead (codes "(param") (field (law_plain_name n m le) (λ x. field law_mark (λ b. field (law_type n m le) (λ t. close (record { name = x; mutable = b; tpe = t }))))).law)

  law_params : Law n ends_word (bracketed_at n (param_at n)) (bracketed_at m (param_at m)) (SpellsList SpellsParam)
  law_params = listed SpellsParam starts_param law_param

  law_field : Law n anything (member_field_at n) (member_field_at m) SpellsField
  unfolding member_field_at
  law_field = law_same field_to field_from (law_lead (codes "(field") (field law_mark (λ s. field law_mark (λ b. field (law_plain_name n m le) (λ x. field (law_type n m le) (λ t. close (record { pos = nowhere; is_static = s; mutable = b; name = x; tpe = t })))))).law)

  law_fields : Law n ends_word (bracketed_at n (member_field_at n)) (bracketed_at m (member_field_at m)) (SpellsList SpellsField)
  law_fields = listed SpellsField starts_field law_field

  law_body : Law n ends_word (body_at n) (body_at m) SpellsBody
  unfolding body_at
  law_body = law_narrow ends_word (λ c e. refl) (law_same body_to body_from (law_either {stop = anything} (λ c. eqb c 45) (starts_leads _ 45 _ _ refl) (follows_starts _ anything (λ c. eqb c 40) _ (apart (λ c. eqb c 40) 45 refl) (starts_mapped _ _ _ starts_tree)) (law_lead (codes "-") (law_value None)) (law_map (λ t. Some t) (law_tree n m le))))

  law_superclass : Law n ends_word (superclass_at n) (superclass_at m) SpellsSuperclass
  unfolding superclass_at
  law_superclass = law_narrow ends_word (λ c e. refl) (law_same superclass_to superclass_from (law_either {stop = anything} (λ c. eqb c 45) (starts_leads _ 45 _ _ refl) (follows_starts _ anything (λ c. eqb c 34) _ (apart (λ c. eqb c 34) 45 refl) (starts_mapped _ _ _ starts_class_name)) (law_lead (codes "-") (law_value None)) (law_map (λ c. Some c) (law_any_class_name n m le))))

  law_interfaces : Law n ends_word (bracketed_at n (class_name_at n)) (bracketed_at m (class_name_at m)) (SpellsList SpellsClassName)
  law_interfaces = law_narrow ends_word (λ c e. refl) (law_bracketed n m le SpellsClassName (λ c. eqb c 34) starts_class_name refl (law_narrow in_brackets (λ c e. refl) (law_any_class_name n m le)))

  law_method : Law n anything (method_at n) (method_at m) SpellsMethod
  unfolding method_at
  law_method = law_same method_to method_from (law_lead (codes "(method") (field law_namespace (λ s. field (law_method_name n m le) (λ m'. field law_params (λ ps. field (law_type n m le) (λ t. field law_body (λ b. close (record { pos = nowhere; namespace = s; name = m'; params = ps; result = t; body = b; hash = None }))))))).law)

  law_methods : Law n ends_word (bracketed_at n (method_at n)) (bracketed_at m (method_at m)) (SpellsList SpellsMethod)
  law_methods = listed SpellsMethod starts_method law_method

  law_class : Law n anything (class_at n) (class_at m) Lists
  unfolding class_at
  law_class = law_same class_to class_from (law_lead (codes "(class") (field (law_class_name n m le) (λ x. field law_kind (λ k. field law_superclass (λ s. field law_interfaces (λ is. field law_fields (λ fs. field law_methods (λ ms. close (record { pos = nowhere; files = [] ∷ []; name = x; kind = k; superclass = s; interfaces = is; fields = fs; methods = ms })))))))).law)

whole_to : (c : ClassDef) (text : List ℕ) → (Lists then λ c. IsMapped (λ u. c) (IsLiteral [])) c text → Lists c text
whole_to c text p =
    let text_is : text ≡ p.front = p.parts ∙ ap (λ (t : List ℕ). p.front ++ t) p.second.first.is ∙ append-nil p.front in
    rw (p.second.is, text_is) p.first

whole_from : (c : ClassDef) (text : List ℕ) → Lists c text → (Lists then λ c. IsMapped (λ u. c) (IsLiteral [])) c text
whole_from c text s = record { value = c; front = text; back = []; first = s; second = record { value = tt; first = record { is = refl }; is = refl }; parts = sym (append-nil text) }

open_end : (bytes : List ℕ) → Stops anything bytes
open_end [] = tt
open_end (c ∷ rest) = refl

pub law_listing : (n m : ℕ) → n ≤ m → Law n (λ c. false) (listing_at n) (listing_at m) Lists
unfolding listing_at
law_listing n m le = law_same whole_to whole_from (law_after n n anything (λ c. false) (fits n Lists) (λ c y back rest q st. open_end (back ++ rest)) (law_class n m le) (λ c text p. law_map (λ u. c) law_end))
