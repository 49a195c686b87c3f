-- Items, members and lines of a module as the reader takes them, and that they are the grammar.
use Rattle.std.proofs.Common.{◌≡◌, ℕ, ◌+◌, Bool, true, false, List, [], ◌∷◌, ◌++◌, refl, sym, ap, ap₂, subst, ◌∙◌, append_assoc, append-nil, ◌⊎◌, inl, inr, codes}
use Rattle.js_tree.specs.Written.{Grammar, Is, ◌●◌, Separated, Each}
use Rattle.js_tree.specs.Spelling.{SpellsName, SpellsProperty, SpellsExpression, SpellsLines, Block, SpellsBlock, SpellsObjectProperty, SpellsParameters, SpellsMember, SpellsMembers, SpellsItem, SpellsItemLine, SpellsNames, SpellsFile, SpellsImport, SpellsExports, Spells}
use Rattle.js_tree.specs.Terms.{Name, Expression, Statements, Property, Member, constructor_of, method_of, Item, const_item, object_item, let_item, expression_item, function_item, class_item, subclass_item, Module}
use Rattle.js_tree.specs.declared.items.JsImport.{JsImport}
use Rattle.js_read_spec.specs.declared.words.ItemHead.{ItemHead}
use Rattle.js_read_spec.specs.declared.words.ItemHead.TheVariants as items
use Rattle.js_read_spec.specs.declared.words.LineHead.{LineHead}
use Rattle.js_read_spec.specs.declared.words.LineHead.TheVariants as lines
use Rattle.js_read_spec.specs.declared.words.MemberHead.{MemberHead}
use Rattle.js_read_spec.specs.declared.words.MemberHead.TheVariants as members
use Rattle.js_read_spec.specs.declared.words.Stage.{Stage}
use Rattle.js_read_spec.specs.declared.words.Stage.TheVariants.{Imports, Items, End}
use Rattle.exact_place.specs.Grammar.{Spelling, ◌then◌, Leads, Either, first, second, IsLiteral, IsValue, IsMapped, IsList, IsWalk, walk_ends, walk_on}
use Rattle.js_read_spec.specs.Modules.{Line, import_line, item_line, export_line, member_of, stage_after, module_of}
use Rattle.js_read_spec.proofs.Parts.{seq, led, lead_of, leads, closing, no_more, each_to, each_from, more_to, more_from, list_same, leads_same}
use Rattle.js_read_spec.proofs.HeadLaws.{IsItemHead, IsLineHead, IsMemberHead}
use Rattle.js_read_spec.proofs.ExpressionForms.{IsWordless, AfterForm, after_to, expression_from, wordless_off}
use Rattle.js_read_spec.proofs.StatementForms.{BlockForm, block_to, block_from}

abbrev glue : List ℕ → List ℕ → List ℕ
glue a b = a ++ b

word_led : {w v front back : List ℕ} → front ≡ w → back ≡ v → front ++ back ≡ w ++ v
word_led e f = ap₂ (λ (x y : List ℕ). x ++ y) e f

-- ---- forms

abbrev pub NamesForm : Spelling (List Name)
NamesForm = SpellsName then λ x. IsMapped (λ xs. x ∷ xs) (IsList (Leads (codes ", ") SpellsName))

abbrev pub ParametersForm : Spelling (List Name)
ParametersForm = Either (Leads (codes ")") (IsValue [])) (NamesForm then λ xs. Leads (codes ")") (IsValue xs))

abbrev pub PropertyForm : Spelling Property
PropertyForm = SpellsProperty then λ p. Leads (codes ": ") (IsMapped (λ e. record { name = p; value = e }) SpellsExpression)

abbrev pub PropertiesForm : Spelling (List Property)
PropertiesForm = PropertyForm then λ p. IsMapped (λ ps. p ∷ ps) (IsList (Leads (codes ", ") PropertyForm))

abbrev pub ObjectForm : Name → Spelling Item
ObjectForm x = Either (Leads (codes "};") (IsValue (object_item x []))) (PropertiesForm then λ ps. Leads (codes "};") (IsValue (object_item x ps)))

abbrev pub MemberForm : Spelling Member
MemberForm = Leads (codes "  ") (IsMemberHead then λ h. Leads (codes "(") (ParametersForm then λ xs. Leads (codes " ") (BlockForm 1 then λ ss. Leads (codes "\n") (IsValue (member_of h xs ss)))))

abbrev pub MembersForm : Spelling (List Member)
MembersForm = Leads (codes "{\n") (IsList MemberForm then λ ms. Leads (codes "}") (IsValue ms))

abbrev pub ItemEndedForm : (Expression → Item) → Spelling Item
ItemEndedForm f = SpellsExpression then λ e. IsMapped (λ u. f e) (IsLiteral (codes ";"))

abbrev pub ItemWordForm : ItemHead → Spelling Item
ItemWordForm items.Const = Leads (codes " ") (SpellsName then λ x. Leads (codes " = ") (Either (Leads (codes "{") (ObjectForm x)) (ItemEndedForm (λ e. const_item x e))))
ItemWordForm items.Let = Leads (codes " ") (SpellsName then λ x. Leads (codes " = ") (ItemEndedForm (λ e. let_item x e)))
ItemWordForm items.Function = Leads (codes " ") (SpellsName then λ x. Leads (codes "(") (ParametersForm then λ xs. Leads (codes " ") (IsMapped (λ ss. function_item x xs ss) (BlockForm 0))))
ItemWordForm items.Class = Leads (codes " ") (SpellsName then λ x. Leads (codes " ") (Either (IsMapped (λ ms. class_item x ms) MembersForm)
    (Leads (codes "extends ") (SpellsName then λ y. Leads (codes " ") (IsMapped (λ ms. subclass_item x y ms) MembersForm)))))
ItemWordForm (items.Expression h) = AfterForm h then λ e. IsMapped (λ u. expression_item e) (IsLiteral (codes ";"))

abbrev pub LineWordForm : LineHead → Spelling Line
LineWordForm lines.Import = Leads (codes " { ") (NamesForm then λ xs. Leads (codes " } from \"./") (SpellsFile then λ f. Leads (codes "\";\n") (IsValue (import_line (record { names = xs; file = f })))))
LineWordForm lines.Export = Leads (codes " { ") (NamesForm then λ xs. Leads (codes " };\n") (IsValue (export_line xs)))
LineWordForm (lines.Item h) = ItemWordForm h then λ i. Leads (codes "\n") (IsValue (item_line i))

abbrev pub ModuleLineForm : Bool → Spelling Line
ModuleLineForm imports = Either (IsLineHead imports then LineWordForm) (IsWordless then λ e. Leads (codes ";\n") (IsValue (item_line (expression_item e))))

-- a line as the grammar has it
abbrev pub IsLine : Bool → Line → Grammar
IsLine true (import_line i) = SpellsImport i
IsLine false (import_line i) = λ text. ⊥
IsLine imports (item_line i) = SpellsItemLine i
IsLine imports (export_line xs) = Is (codes "export { ") ● SpellsNames xs ● Is (codes " };\n")

-- ---- lists of names and properties

names_to : (xs : List Name) (text : List ℕ) → NamesForm xs text → SpellsNames xs text
unfolding SpellsNames Separated
names_to xs text p = rw p.second.is (record { holds = refl; spelled = seq p.front p.back p.parts p.first (more_to p.second.first) })

names_from : (xs : List Name) (text : List ℕ) → SpellsNames xs text → NamesForm xs text
unfolding SpellsNames Separated
names_from [] text s = absurd (cc s.holds)
names_from (x ∷ xs) text s =
    let t = s.spelled in
    record { value = x; front = t.front; back = t.back; first = t.first; parts = t.parts; second = record { value = xs; first = more_from (codes ", ") SpellsName xs t.back t.second; is = refl } }

valued : {A : Type 0} {ws text : List ℕ} {x y : A} (p : Leads ws (IsValue x) y text) → Is ws text
valued {ws = ws} p = record { same = p.parts ∙ ap (glue ws) p.second.empty ∙ append-nil ws }

to_value : {A : Type 0} {ws text : List ℕ} (x : A) → Is ws text → Leads ws (IsValue x) x text
to_value {ws = ws} x s = record { back = []; second = no_more x; parts = s.same ∙ sym (append-nil ws) }

parameters_to : (xs : List Name) (text back : List ℕ) → text ≡ codes "(" ++ back → ParametersForm xs back → SpellsParameters xs text
unfolding SpellsParameters Separated
parameters_to xs text back parts (first p) = rw p.second.same (led (codes "(") back parts (seq [] back refl (record { same = refl }) (valued p)))
parameters_to xs text back parts (second p) =
    let q = p.first in
    rw (p.second.second.same, q.second.is) (led (codes "(") back parts (seq p.front p.back p.parts (seq q.front q.back q.parts q.first (more_to q.second.first)) (valued p.second)))

parameters_from : (xs : List Name) (text : List ℕ) → SpellsParameters xs text → Leads (codes "(") ParametersForm xs text
unfolding SpellsParameters Separated
parameters_from [] text s =
    let t = s.second in
    leads _ s (first (to_value [] (record { same = t.parts ∙ ap₂ (λ (x y : List ℕ). x ++ y) t.first.same t.second.same })))
parameters_from (x ∷ xs) text s =
    let t = s.second in
    let u = t.first in
    leads _ s (second (record {
      value = x ∷ xs;
      front = t.front;
      back = t.back;
      parts = t.parts;
      second = to_value (x ∷ xs) t.second;
      first = record { value = x; front = u.front; back = u.back; first = u.first; parts = u.parts; second = record { value = xs; first = more_from (codes ", ") SpellsName xs u.back u.second; is = refl } };
    }))

property_to : (p : Property) (text : List ℕ) → PropertyForm p text → SpellsObjectProperty p text
unfolding SpellsObjectProperty
property_to y text p = rw p.second.second.is (seq p.front p.back p.parts p.first (led (codes ": ") p.second.back p.second.parts p.second.second.first))

property_from : (p : Property) (text : List ℕ) → SpellsObjectProperty p text → PropertyForm p text
unfolding SpellsObjectProperty
property_from p text s =
    let t = s.second in
    record { value = p.name; front = s.front; back = s.back; first = s.first; parts = s.parts; second = leads p t (record { value = p.value; first = t.second; is = refl }) }

-- ---- members

-- what stands behind the first word of a member
abbrev Behind : List Name → Statements → Grammar
Behind xs ss = SpellsParameters xs ● Is (codes " ") ● Block 1 (SpellsLines 2 ss) ● Is (codes "\n")

member_is : (h : MemberHead) (xs : List Name) (ss : Statements) (text one two : List ℕ) → text ≡ codes "  " ++ (one ++ two) → IsMemberHead h one → Behind xs ss two → SpellsMember (member_of h xs ss) text
unfolding SpellsMember SpellsBlock
member_is members.Constructor xs ss text one two parts n t = led (codes "  constructor") two (parts ∙ ap (λ (x : List ℕ). codes "  " ++ (x ++ two)) n.same) t
member_is (members.Method p) xs ss text one two parts n t = led (codes "  ") (one ++ two) parts (seq one two refl n t)

member_to : (m : Member) (text : List ℕ) → MemberForm m text → SpellsMember m text
member_to m text p =
    let q = p.second in
    let r = q.second in
    let t = r.second in
    let u = t.second in
    let b = u.second in
    let tail : Behind t.value b.value q.back = seq (codes "(" ++ t.front) t.back (r.parts ∙ ap (glue (codes "(")) t.parts) (parameters_to t.value (codes "(" ++ t.front) t.front refl t.first) (led (codes " ") u.back u.parts (seq b.front b.back b.parts (block_to 1 b.value b.front b.first) (valued b.second))) in
    rw b.second.second.same (member_is q.value t.value b.value text q.front q.back (p.parts ∙ ap (glue (codes "  ")) q.parts) q.first tail)

member_behind : (h : MemberHead) (xs : List Name) (ss : Statements) (text one two : List ℕ) → text ≡ codes "  " ++ (one ++ two) → IsMemberHead h one → Behind xs ss two → MemberForm (member_of h xs ss) text
member_behind h xs ss text one two parts n t =
    let u = t.second in
    let b = u.second in
    let ps = parameters_from xs t.front t.first in
    let whole : two ≡ codes "(" ++ (ps.back ++ t.back) = t.parts ∙ ap (λ (x : List ℕ). x ++ t.back) ps.parts in
    record {
      back = one ++ two;
      parts = parts;
      second = record {
        value = h;
        front = one;
        back = two;
        first = n;
        parts = refl;
        second = record {
          back = ps.back ++ t.back;
          parts = whole;
          second = record {
            value = xs;
            front = ps.back;
            back = t.back;
            first = ps.second;
            parts = refl;
            second = leads _ u (record { value = ss; front = b.front; back = b.back; first = block_from 1 ss b.front b.first; parts = b.parts; second = to_value (member_of h xs ss) b.second });
          };
        };
      };
    }

member_from : (m : Member) (text : List ℕ) → SpellsMember m text → MemberForm m text
unfolding SpellsMember SpellsBlock
member_from (constructor_of xs ss) text s = member_behind members.Constructor xs ss text (codes "constructor") s.back (lead_of s) (record { same = refl }) s.second
member_from (method_of p xs ss) text s =
    let t = s.second in
    member_behind (members.Method p) xs ss text t.front t.back (lead_of s ∙ ap (glue (codes "  ")) t.parts) t.first t.second

members_to : (ms : List Member) (text : List ℕ) → MembersForm ms text → SpellsMembers ms text
unfolding SpellsMembers
members_to ms text p =
    let q = p.second in
    rw q.second.second.same (led (codes "{\n") p.back p.parts (seq q.front q.back q.parts (each_to (list_same member_to q.first)) (valued q.second)))

members_from : (ms : List Member) (text : List ℕ) → SpellsMembers ms text → MembersForm ms text
unfolding SpellsMembers
members_from ms text s =
    let t = s.second in
    leads ms s (record { value = ms; front = t.front; back = t.back; first = list_same member_from (each_from SpellsMember ms t.front t.first); parts = t.parts; second = to_value ms t.second })

-- ---- items

item_ended : {f : Expression → Item} {y : Item} {text : List ℕ} (p : ItemEndedForm f y text) → (SpellsExpression p.value ● Is (codes ";")) text
item_ended p = seq p.front p.back p.parts p.first (record { same = p.second.first.is })

-- `{..};` behind `const x = `
object_to : (x : Name) (y : Item) (text back : List ℕ) (front : List ℕ) → text ≡ codes "const " ++ (front ++ (codes " = {" ++ back)) → SpellsName x front → ObjectForm x y back → SpellsItem y text
unfolding SpellsItem Separated
object_to x y text back front parts n (first p) = rw p.second.same (led (codes "const ") (front ++ (codes " = {" ++ back)) parts (seq front (codes " = {" ++ back) refl n (led (codes " = {") back refl (seq [] back refl (record { same = refl }) (valued p)))))
object_to x y text back front parts n (second p) =
    let q = p.first in
    rw (p.second.second.same, q.second.is) (led (codes "const ") (front ++ (codes " = {" ++ back)) parts (seq front (codes " = {" ++ back) refl n (led (codes " = {") back refl (seq p.front p.back p.parts (seq q.front q.back q.parts (property_to q.value q.front q.first) (more_to (list_same (leads_same property_to) q.second.first))) (valued p.second)))))

item_word_to : (h : ItemHead) (y : Item) (text front back : List ℕ) → text ≡ front ++ back → IsItemHead h front → ItemWordForm h y back → SpellsItem y text
unfolding SpellsItem SpellsBlock
item_word_to items.Const y text front back parts n p =
    let q = p.second in
    let r = q.second in
    elim r.second [
      | first t ↦
          let whole : text ≡ codes "const " ++ (q.front ++ (codes " = {" ++ t.back)) = parts ∙ word_led n.same p.parts ∙ ap (glue (codes "const ")) (q.parts ∙ ap (glue q.front) (r.parts ∙ ap (glue (codes " = ")) t.parts)) in
          object_to q.value y text t.back q.front whole q.first t.second
      | second t ↦ rw t.second.is (led (codes "const ") p.back (parts ∙ word_led n.same p.parts) (seq q.front q.back q.parts q.first (led (codes " = ") r.back r.parts (item_ended t))))
    ]
item_word_to items.Let y text front back parts n p =
    let q = p.second in
    let r = q.second in
    rw r.second.second.is (led (codes "let ") p.back (parts ∙ word_led n.same p.parts) (seq q.front q.back q.parts q.first (led (codes " = ") r.back r.parts (item_ended r.second))))
item_word_to items.Function y text front back parts n p =
    let q = p.second in
    let r = q.second in
    let t = r.second in
    let u = t.second in
    rw u.second.is (led (codes "function ") p.back (parts ∙ word_led n.same p.parts) (seq q.front q.back q.parts q.first (seq (codes "(" ++ t.front) t.back (r.parts ∙ ap (glue (codes "(")) t.parts) (parameters_to t.value (codes "(" ++ t.front) t.front refl t.first)
    (led (codes " ") u.back u.parts (block_to 0 u.second.value u.back u.second.first)))))
item_word_to items.Class y text front back parts n p =
    let q = p.second in
    let r = q.second in
    elim r.second [
      | first t ↦ rw t.is (led (codes "class ") p.back (parts ∙ word_led n.same p.parts) (seq q.front q.back q.parts q.first (led (codes " ") r.back r.parts (members_to t.value r.back t.first))))
      | second t ↦
          let x = t.second in
          let z = x.second in
          let whole : q.back ≡ codes " extends " ++ t.back = r.parts ∙ ap (glue (codes " ")) t.parts in
          rw z.second.is (led (codes "class ") p.back (parts ∙ word_led n.same p.parts) (seq q.front q.back q.parts q.first (led (codes " extends ") t.back whole (seq x.front x.back x.parts x.first (led (codes " ") z.back z.parts (members_to z.second.value z.back z.second.first))))))
    ]
item_word_to (items.Expression h) y text front back parts n p =
    rw p.second.is (seq (front ++ p.front) p.back (parts ∙ ap (glue front) p.parts ∙ sym (append_assoc front p.front p.back)) (after_to h p.value front p.front n p.first).spelled (record { same = p.second.first.is }))

-- ---- from the grammar to an item's form

record ItemParts (y : Item) (text : List ℕ) : Type 0 where
  head : ItemHead
  front : List ℕ
  back : List ℕ
  first : IsItemHead head front
  second : ItemWordForm head y back
  parts : text ≡ front ++ back

item_ended_from : (f : Expression → Item) (e : Expression) (text : List ℕ) → (SpellsExpression e ● Is (codes ";")) text → ItemEndedForm f (f e) text
item_ended_from f e text s = record { value = e; front = s.front; back = s.back; first = s.first; second = closing (f e) s.second; parts = s.parts }

object_from : (x : Name) (ps : List Property) (text : List ℕ) → (Separated (codes ", ") SpellsObjectProperty ps ● Is (codes "};")) text → ObjectForm x (object_item x ps) text
unfolding Separated
object_from x [] text s = first (to_value _ (record { same = s.parts ∙ ap₂ (λ (x y : List ℕ). x ++ y) s.first.same s.second.same }))
object_from x (p ∷ ps) text s =
    let t = s.first in
    second (record {
      value = p ∷ ps;
      front = s.front;
      back = s.back;
      parts = s.parts;
      second = to_value _ s.second;
      first = record { value = p; front = t.front; back = t.back; first = property_from p t.front t.first; parts = t.parts; second = record { value = ps; first = list_same (leads_same property_from) (more_from (codes ", ") SpellsObjectProperty ps t.back t.second); is = refl } };
    })

worded : (h : ItemHead) (y : Item) (text w back : List ℕ) → text ≡ w ++ back → IsItemHead h w → ItemWordForm h y back → ItemParts y text
worded h y text w back parts n p = record { head = h; front = w; back = back; first = n; second = p; parts = parts }

-- an item is an expression that begins with no word, or begins with a word
item_from : (y : Item) (text : List ℕ) → SpellsItem y text → (IsWordless then λ e. IsMapped (λ u. expression_item e) (IsLiteral (codes ";"))) y text ⊎ ItemParts y text
unfolding SpellsItem SpellsBlock
item_from (const_item x e) text s =
    let t = s.second in
    let u = t.second in
    inr (worded items.Const _ text (codes "const") (codes " " ++ s.back) (lead_of s) (record { same = refl })
    (record { back = s.back; parts = refl; second = record { value = x; front = t.front; back = t.back; first = t.first; parts = t.parts; second = leads _ u (second (item_ended_from (λ e. const_item x e) e u.back u.second)) } }))
item_from (object_item x ps) text s =
    let t = s.second in
    let u = t.second in
    inr (worded items.Const _ text (codes "const") (codes " " ++ s.back) (lead_of s) (record { same = refl })
    (record { back = s.back; parts = refl; second = record { value = x; front = t.front; back = t.back; first = t.first; parts = t.parts; second = record { back = codes "{" ++ u.back; parts = lead_of u; second = first (record { back = u.back; parts = refl; second = object_from x ps u.back u.second }) } } }))
item_from (let_item x e) text s =
    let t = s.second in
    let u = t.second in
    inr (worded items.Let _ text (codes "let") (codes " " ++ s.back) (lead_of s) (record { same = refl })
    (record { back = s.back; parts = refl; second = record { value = x; front = t.front; back = t.back; first = t.first; parts = t.parts; second = leads _ u (item_ended_from (λ e. let_item x e) e u.back u.second) } }))
item_from (expression_item e) text s = elim (expression_from e s.front s.first) [
  | first p ↦ inr (record { head = items.Expression p.value; front = p.front; back = p.back ++ s.back; first = p.first; second = record { value = e; front = p.back; back = s.back; first = p.second; second = closing (expression_item e) s.second; parts = refl }; parts = s.parts ∙ ap (λ (x : List ℕ). x ++ s.back) p.parts ∙ append_assoc p.front p.back s.back })
  | second p ↦ inl (record { value = e; front = s.front; back = s.back; first = record { spelled = s.first; off = wordless_off e s.front p }; second = closing (expression_item e) s.second; parts = s.parts })
]
item_from (function_item x xs ss) text s =
    let t = s.second in
    let u = t.second in
    let v = u.second in
    let ps = parameters_from xs u.front u.first in
    let whole : t.back ≡ codes "(" ++ (ps.back ++ u.back) = u.parts ∙ ap (λ (x : List ℕ). x ++ u.back) ps.parts in
    inr (worded items.Function _ text (codes "function") (codes " " ++ s.back) (lead_of s) (record { same = refl })
    (record {
      back = s.back;
      parts = refl;
      second = record {
        value = x;
        front = t.front;
        back = t.back;
        first = t.first;
        parts = t.parts;
        second = record {
          back = ps.back ++ u.back;
          parts = whole;
          second = record {
            value = xs;
            front = ps.back;
            back = u.back;
            first = ps.second;
            parts = refl;
            second = leads _ v (record { value = ss; first = block_from 0 ss v.back v.second; is = refl });
          };
        };
      };
    }))
item_from (class_item x ms) text s =
    let t = s.second in
    let u = t.second in
    inr (worded items.Class _ text (codes "class") (codes " " ++ s.back) (lead_of s) (record { same = refl })
    (record { back = s.back; parts = refl; second = record { value = x; front = t.front; back = t.back; first = t.first; parts = t.parts; second = leads _ u (first (record { value = ms; first = members_from ms u.back u.second; is = refl })) } }))
item_from (subclass_item x y ms) text s =
    let t = s.second in
    let u = t.second in
    let v = u.second in
    let w = v.second in
    inr (worded items.Class _ text (codes "class") (codes " " ++ s.back) (lead_of s) (record { same = refl })
    (record {
      back = s.back;
      parts = refl;
      second = record {
        value = x;
        front = t.front;
        back = t.back;
        first = t.first;
        parts = t.parts;
        second = record {
          back = codes "extends " ++ u.back;
          parts = lead_of u;
          second = second (record { back = u.back; parts = refl; second = record { value = y; front = v.front; back = v.back; first = v.first; parts = v.parts; second = leads _ w (record { value = ms; first = members_from ms w.back w.second; is = refl }) } });
        };
      };
    }))

-- ---- lines

import_to : (i : JsImport) (text front back : List ℕ) → text ≡ front ++ back → front ≡ codes "import" → LineWordForm lines.Import (import_line i) back → SpellsImport i text
unfolding SpellsImport
import_to i text front back parts n p =
    let q = p.second in
    let r = q.second in
    let t = r.second in
    let i_is : i ≡ record { names = q.value; file = t.value } = cc t.second.second.same in
    rw i_is (led (codes "import { ") p.back (parts ∙ word_led n p.parts) (seq q.front q.back q.parts (names_to q.value q.front q.first) (led (codes " } from \"./") r.back r.parts (seq t.front t.back t.parts t.first (valued t.second)))))

item_line_to : (y : Item) (text front back : List ℕ) → text ≡ front ++ back → SpellsItem y front → Is (codes "\n") back → SpellsItemLine y text
unfolding SpellsItemLine
item_line_to y text front back parts s t = seq front back parts s t

-- `e;` and the line feed as one literal
bare_to : (y : Line) (text : List ℕ) → (IsWordless then λ e. Leads (codes ";\n") (IsValue (item_line (expression_item e)))) y text → (e : Expression) × (y ≡ item_line (expression_item e)) × SpellsItemLine (expression_item e) text
unfolding SpellsItem
bare_to y text p =
    let end : p.back ≡ codes ";" ++ codes "\n" = (valued p.second).same in
    let whole : text ≡ (p.front ++ codes ";") ++ codes "\n" = p.parts ∙ ap (glue p.front) end ∙ sym (append_assoc p.front (codes ";") (codes "\n")) in
    (p.value, p.second.second.same, item_line_to (expression_item p.value) text (p.front ++ codes ";") (codes "\n") whole (seq p.front (codes ";") refl p.first.spelled (record { same = refl })) (record { same = refl }))

is_item_line : (imports : Bool) (y : Line) (i : Item) (text : List ℕ) → y ≡ item_line i → SpellsItemLine i text → IsLine imports y text
is_item_line true y i text e s = rw e s
is_item_line false y i text e s = rw e s

is_export_line : (imports : Bool) (y : Line) (xs : List Name) (text : List ℕ) → y ≡ export_line xs → (Is (codes "export { ") ● SpellsNames xs ● Is (codes " };\n")) text → IsLine imports y text
is_export_line true y xs text e s = rw e s
is_export_line false y xs text e s = rw e s

line_word_to : (imports : Bool) (h : LineHead) (l : Line) (text front back : List ℕ) → text ≡ front ++ back → IsLineHead imports h front → LineWordForm h l back → IsLine imports l text
line_word_to true lines.Import l text front back parts n p =
    let q = p.second in
    let t = q.second.second in
    rw t.second.second.same (import_to _ text front back parts n.same (record {
      back = p.back;
      parts = p.parts;
      second = record {
        value = q.value;
        front = q.front;
        back = q.back;
        first = q.first;
        parts = q.parts;
        second = record { back = q.second.back; parts = q.second.parts; second = record { value = t.value; front = t.front; back = t.back; first = t.first; parts = t.parts; second = record { back = t.second.back; parts = t.second.parts; second = record { same = refl; empty = t.second.second.empty } } } };
      };
    }))
line_word_to false lines.Import l text front back parts n p = absurd n
line_word_to true lines.Export l text front back parts n p =
    let q = p.second in
    is_export_line true l q.value text q.second.second.same (led (codes "export { ") p.back (parts ∙ word_led n.same p.parts) (seq q.front q.back q.parts (names_to q.value q.front q.first) (valued q.second)))
line_word_to false lines.Export l text front back parts n p =
    let q = p.second in
    is_export_line false l q.value text q.second.second.same (led (codes "export { ") p.back (parts ∙ word_led n.same p.parts) (seq q.front q.back q.parts (names_to q.value q.front q.first) (valued q.second)))
line_word_to true (lines.Item h) l text front back parts n p =
    is_item_line true l p.value text p.second.second.same (item_line_to p.value text (front ++ p.front) p.back (parts ∙ ap (glue front) p.parts ∙ sym (append_assoc front p.front p.back)) (item_word_to h p.value (front ++ p.front) front p.front refl n p.first) (valued p.second))
line_word_to false (lines.Item h) l text front back parts n p =
    is_item_line false l p.value text p.second.second.same (item_line_to p.value text (front ++ p.front) p.back (parts ∙ ap (glue front) p.parts ∙ sym (append_assoc front p.front p.back)) (item_word_to h p.value (front ++ p.front) front p.front refl n p.first) (valued p.second))

pub line_to : (imports : Bool) (l : Line) (text : List ℕ) → ModuleLineForm imports l text → IsLine imports l text
line_to imports l text (first p) = line_word_to imports p.value l text p.front p.back p.parts p.first p.second
line_to imports l text (second p) = let b = bare_to l text p in is_item_line imports l (expression_item b.0) text b.1 b.2

item_head : (imports : Bool) (h : ItemHead) (text : List ℕ) → IsItemHead h text → IsLineHead imports (lines.Item h) text
item_head true h text n = n
item_head false h text n = n

export_head : (imports : Bool) → IsLineHead imports lines.Export (codes "export")
export_head true = record { same = refl }
export_head false = record { same = refl }

item_line_from : (imports : Bool) (i : Item) (text : List ℕ) → SpellsItemLine i text → ModuleLineForm imports (item_line i) text
unfolding SpellsItemLine
item_line_from imports i text s = elim (item_from i s.front s.first) [
  | inl p ↦
      let whole : p.back ++ s.back ≡ codes ";\n" = ap₂ (λ (x y : List ℕ). x ++ y) p.second.first.is s.second.same in
      second (record {
        value = p.value;
        front = p.front;
        back = p.back ++ s.back;
        first = p.first;
        parts = s.parts ∙ ap (λ (x : List ℕ). x ++ s.back) p.parts ∙ append_assoc p.front p.back s.back;
        second = record { back = []; second = record { same = ap (λ (x : Item). item_line x) p.second.is; empty = refl }; parts = whole };
      })
  | inr p ↦
      first (record {
        value = lines.Item p.head;
        front = p.front;
        back = p.back ++ s.back;
        first = item_head imports p.head p.front p.first;
        parts = s.parts ∙ ap (λ (x : List ℕ). x ++ s.back) p.parts ∙ append_assoc p.front p.back s.back;
        second = record { value = i; front = p.back; back = s.back; first = p.second; second = to_value (item_line i) s.second; parts = refl };
      })
]

export_line_from : (imports : Bool) (xs : List Name) (text : List ℕ) → (Is (codes "export { ") ● SpellsNames xs ● Is (codes " };\n")) text → ModuleLineForm imports (export_line xs) text
export_line_from imports xs text s =
    let t = s.second in
    first (record {
      value = lines.Export;
      front = codes "export";
      back = codes " { " ++ s.back;
      first = export_head imports;
      parts = lead_of s;
      second = record { back = s.back; parts = refl; second = record { value = xs; front = t.front; back = t.back; first = names_from xs t.front t.first; parts = t.parts; second = to_value (export_line xs) t.second } };
    })

import_from : (i : JsImport) (text : List ℕ) → SpellsImport i text → ModuleLineForm true (import_line i) text
unfolding SpellsImport
import_from i text s =
    let t = s.second in
    let u = t.second in
    let v = u.second in
    first (record {
      value = lines.Import;
      front = codes "import";
      back = codes " { " ++ s.back;
      first = record { same = refl };
      parts = lead_of s;
      second = record {
        back = s.back;
        parts = refl;
        second = record {
          value = i.names;
          front = t.front;
          back = t.back;
          first = names_from i.names t.front t.first;
          parts = t.parts;
          second = leads _ u (record { value = i.file; front = v.front; back = v.back; first = v.first; parts = v.parts; second = to_value (import_line i) v.second });
        };
      };
    })

pub line_from : (imports : Bool) (l : Line) (text : List ℕ) → IsLine imports l text → ModuleLineForm imports l text
line_from true (import_line i) text s = import_from i text s
line_from false (import_line i) text s = absurd s
line_from true (item_line i) text s = item_line_from true i text s
line_from false (item_line i) text s = item_line_from false i text s
line_from true (export_line xs) text s = export_line_from true xs text s
line_from false (export_line xs) text s = export_line_from false xs text s

-- ---- modules

-- which line may come at a stage
abbrev pub LineAt : Stage → Spelling Line
LineAt Imports = IsLine true
LineAt Items = IsLine false
LineAt End = λ l text. ⊥

record Nothing (ls : List Line) (text : List ℕ) : Type 0 where
  no_lines : ls ≡ []
  empty : text ≡ []

ended_lines : {ls : List Line} {text : List ℕ} → IsWalk LineAt stage_after End ls text → Nothing ls text
ended_lines walk_ends = record { no_lines = refl; empty = refl }
ended_lines (walk_on p w) = absurd p

exported : (imports : Bool) (xs : List Name) (ls : List Line) (front back : List ℕ) → IsLine imports (export_line xs) front → IsWalk LineAt stage_after End ls back → SpellsExports xs (front ++ back)
unfolding SpellsExports SpellsNames
exported imports [] ls front back p w = absurd (none imports p)
  where
    none : (imports : Bool) → IsLine imports (export_line []) front → ⊥
    none true p = cc p.second.first.holds
    none false p = cc p.second.first.holds
exported true (x ∷ xs) ls front back p w = let n = ended_lines w in rw (n.empty, append-nil front) p
exported false (x ∷ xs) ls front back p w = let n = ended_lines w in rw (n.empty, append-nil front) p

-- items, and the export line that may follow them
record Itemed (ls : List Line) (text : List ℕ) : Type 0 where
  no_imports : (module_of ls).imports ≡ []
  spelled : (Each SpellsItemLine (module_of ls).items ● SpellsExports (module_of ls).exports) text

no_itemed : Itemed [] []
unfolding module_of Each SpellsExports
no_itemed = record { no_imports = refl; spelled = seq [] [] refl (record { same = refl }) (record { same = refl }) }

exported_itemed : (imports : Bool) (xs : List Name) (ls : List Line) (front back : List ℕ) → IsLine imports (export_line xs) front → IsWalk LineAt stage_after End ls back → Itemed (export_line xs ∷ ls) (front ++ back)
unfolding module_of Each
exported_itemed imports xs ls front back p w =
    let n = ended_lines w in
    let s = exported imports xs ls front back p w in
    record { no_imports = ap (λ (k : List Line). (module_of k).imports) n.no_lines; spelled = seq [] (front ++ back) refl (subst (λ (k : List Line). Each SpellsItemLine (module_of k).items []) (sym n.no_lines) (record { same = refl })) s }

item_itemed : (i : Item) (ls : List Line) (front back : List ℕ) → SpellsItemLine i front → Itemed ls back → Itemed (item_line i ∷ ls) (front ++ back)
unfolding module_of Each
item_itemed i ls front back p r =
    let s = r.spelled in
    record { no_imports = r.no_imports; spelled = seq (front ++ s.front) s.back (ap (glue front) s.parts ∙ sym (append_assoc front s.front s.back)) (seq front s.front refl p s.first) s.second }

items_to : {ls : List Line} {text : List ℕ} → IsWalk LineAt stage_after Items ls text → Itemed ls text
items_to walk_ends = no_itemed
items_to (walk_on {x = import_line i} p w) = absurd p
items_to (walk_on {x = item_line i} {xs = ls} {front = front} {back = back} p w) = item_itemed i ls front back p (items_to w)
items_to (walk_on {x = export_line xs} {xs = ls} {front = front} {back = back} p w) = exported_itemed false xs ls front back p w

no_imports_spelled : (ls : List Line) (text : List ℕ) → Itemed ls text → Spells (module_of ls) text
unfolding Spells Each
no_imports_spelled ls text r = seq [] text refl (subst (λ (is : List JsImport). Each SpellsImport is []) (sym r.no_imports) (record { same = refl })) r.spelled

import_spelled : (i : JsImport) (ls : List Line) (front back : List ℕ) → SpellsImport i front → Spells (module_of ls) back → Spells (module_of (import_line i ∷ ls)) (front ++ back)
unfolding Spells Each module_of
import_spelled i ls front back p s = seq (front ++ s.front) s.back (ap (glue front) s.parts ∙ sym (append_assoc front s.front s.back)) (seq front s.front refl p s.first) s.second

lines_spelled : {ls : List Line} {text : List ℕ} → IsWalk LineAt stage_after Imports ls text → Spells (module_of ls) text
lines_spelled walk_ends = no_imports_spelled [] [] no_itemed
lines_spelled (walk_on {x = import_line i} {xs = ls} {front = front} {back = back} p w) = import_spelled i ls front back p (lines_spelled w)
lines_spelled (walk_on {x = item_line i} {xs = ls} {front = front} {back = back} p w) = no_imports_spelled (item_line i ∷ ls) (front ++ back) (item_itemed i ls front back p (items_to w))
lines_spelled (walk_on {x = export_line xs} {xs = ls} {front = front} {back = back} p w) = no_imports_spelled (export_line xs ∷ ls) (front ++ back) (exported_itemed true xs ls front back p w)

-- ---- the lines of a module

export_lines : List Name → List Line
export_lines [] = []
export_lines (x ∷ xs) = export_line (x ∷ xs) ∷ []

item_lines : List Item → List Name → List Line
item_lines [] xs = export_lines xs
item_lines (i ∷ is) xs = item_line i ∷ item_lines is xs

all_lines : List JsImport → List Item → List Name → List Line
all_lines [] is xs = item_lines is xs
all_lines (j ∷ js) is xs = import_line j ∷ all_lines js is xs

export_module : (xs : List Name) → module_of (export_lines xs) ≡ record { imports = []; items = []; exports = xs }
unfolding module_of export_lines
export_module [] = refl
export_module (x ∷ xs) = refl

item_module : (is : List Item) (xs : List Name) → module_of (item_lines is xs) ≡ record { imports = []; items = is; exports = xs }
unfolding module_of item_lines
item_module [] xs = export_module xs
item_module (i ∷ is) xs = ap (λ (m : Module). record { imports = m.imports; items = i ∷ m.items; exports = m.exports }) (item_module is xs)

all_module : (js : List JsImport) (is : List Item) (xs : List Name) → module_of (all_lines js is xs) ≡ record { imports = js; items = is; exports = xs }
unfolding module_of all_lines
all_module [] is xs = item_module is xs
all_module (j ∷ js) is xs = ap (λ (m : Module). record { imports = j ∷ m.imports; items = m.items; exports = m.exports }) (all_module js is xs)

export_walk : (s : Stage) → ((xs : List Name) (text : List ℕ) → (Is (codes "export { ") ● SpellsNames xs ● Is (codes " };\n")) text → LineAt s (export_line xs) text) → (xs : List Name) (text : List ℕ) → SpellsExports xs text → IsWalk LineAt stage_after s (export_lines xs) text
unfolding SpellsExports export_lines
export_walk s here [] text e = subst (λ (t : List ℕ). IsWalk LineAt stage_after s [] t) (sym e.same) walk_ends
export_walk s here (x ∷ xs) text e = subst (λ (t : List ℕ). IsWalk LineAt stage_after s (export_line (x ∷ xs) ∷ []) t) (append-nil text) (walk_on (here (x ∷ xs) text e) walk_ends)

item_walk : (is : List Item) (xs : List Name) (text : List ℕ) → (Each SpellsItemLine is ● SpellsExports xs) text → IsWalk LineAt stage_after Items (item_lines is xs) text
unfolding Each item_lines
item_walk [] xs text s =
    let whole : text ≡ s.back = s.parts ∙ ap (λ (x : List ℕ). x ++ s.back) s.first.same in
    subst (λ (t : List ℕ). IsWalk LineAt stage_after Items (export_lines xs) t) (sym whole) (export_walk Items (λ ys t e. e) xs s.back s.second)
item_walk (i ∷ is) xs text s =
    let t = s.first in
    let whole : text ≡ t.front ++ (t.back ++ s.back) = s.parts ∙ ap (λ (x : List ℕ). x ++ s.back) t.parts ∙ append_assoc t.front t.back s.back in
    subst (λ (u : List ℕ). IsWalk LineAt stage_after Items (item_line i ∷ item_lines is xs) u) (sym whole) (walk_on t.first (item_walk is xs (t.back ++ s.back) (seq t.back s.back refl t.second s.second)))

first_walk : (is : List Item) (xs : List Name) (text : List ℕ) → (Each SpellsItemLine is ● SpellsExports xs) text → IsWalk LineAt stage_after Imports (item_lines is xs) text
unfolding Each item_lines
first_walk [] xs text s =
    let whole : text ≡ s.back = s.parts ∙ ap (λ (x : List ℕ). x ++ s.back) s.first.same in
    subst (λ (t : List ℕ). IsWalk LineAt stage_after Imports (export_lines xs) t) (sym whole) (export_walk Imports (λ ys t e. e) xs s.back s.second)
first_walk (i ∷ is) xs text s =
    let t = s.first in
    let whole : text ≡ t.front ++ (t.back ++ s.back) = s.parts ∙ ap (λ (x : List ℕ). x ++ s.back) t.parts ∙ append_assoc t.front t.back s.back in
    subst (λ (u : List ℕ). IsWalk LineAt stage_after Imports (item_line i ∷ item_lines is xs) u) (sym whole) (walk_on t.first (item_walk is xs (t.back ++ s.back) (seq t.back s.back refl t.second s.second)))

all_walk : (js : List JsImport) (is : List Item) (xs : List Name) (text : List ℕ) → (Each SpellsImport js ● Each SpellsItemLine is ● SpellsExports xs) text → IsWalk LineAt stage_after Imports (all_lines js is xs) text
unfolding Each all_lines
all_walk [] is xs text s =
    let whole : text ≡ s.back = s.parts ∙ ap (λ (x : List ℕ). x ++ s.back) s.first.same in
    subst (λ (t : List ℕ). IsWalk LineAt stage_after Imports (item_lines is xs) t) (sym whole) (first_walk is xs s.back s.second)
all_walk (j ∷ js) is xs text s =
    let t = s.first in
    let whole : text ≡ t.front ++ (t.back ++ s.back) = s.parts ∙ ap (λ (x : List ℕ). x ++ s.back) t.parts ∙ append_assoc t.front t.back s.back in
    subst (λ (u : List ℕ). IsWalk LineAt stage_after Imports (import_line j ∷ all_lines js is xs) u) (sym whole) (walk_on t.first (all_walk js is xs (t.back ++ s.back) (seq t.back s.back refl t.second s.second)))

abbrev pub ModuleForm : Spelling Module
ModuleForm = IsWalk LineAt stage_after Imports then λ ls. IsMapped (λ u. module_of ls) (IsLiteral [])

pub module_to : (m : Module) (text : List ℕ) → ModuleForm m text → Spells m text
module_to m text p =
    let whole : text ≡ p.front = p.parts ∙ ap (glue p.front) p.second.first.is ∙ append-nil p.front in
    rw (p.second.is, whole) (lines_spelled p.first)

pub module_from : (m : Module) (text : List ℕ) → Spells m text → ModuleForm m text
unfolding Spells
module_from m text s = record { value = all_lines m.imports m.items m.exports; front = text; back = []; first = all_walk m.imports m.items m.exports text s; second = record { value = tt; first = record { is = refl }; is = sym (all_module m.imports m.items m.exports) }; parts = sym (append-nil text) }
