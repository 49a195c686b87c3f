-- The law of the reader of modules.
use Rattle.std.proofs.Common.{◌≡◌, ℕ, ◌+◌, ◌≤◌, Bool, true, false, not, ◌&&◌, ◌||◌, eqb, List, [], ◌∷◌, ◌++◌, Some, None, refl, sym, ap, ap₂, subst, ◌∙◌, append_assoc, append-nil, arith, codes, inl, inr}
use Rattle.std.specs.List.{list_all}
use Rattle.std.specs.Cmp.Lexicographic.{same_text}
use Rattle.std.proofs.lemmas.Bool.{eqb-true}
use Rattle.js_tree.specs.Names.{is_name_character, is_digit, is_property, is_empty, is_same_text, is_file_character, is_file_rest, is_file}
use Rattle.js_tree.specs.Spelling.{SpellsName, SpellsProperty, SpellsFile, Spells}
use Rattle.js_tree.specs.Terms.{Name, Expression, Item, const_item, object_item, let_item, expression_item, function_item, class_item, subclass_item}
use Rattle.js_read_spec.specs.declared.words.Head.TheVariants as heads
use Rattle.js_read_spec.specs.declared.words.ItemHead.{ItemHead}
use Rattle.js_read_spec.specs.declared.words.ItemHead.TheVariants as items
use Rattle.js_read_spec.specs.declared.words.LineHead.{LineHead}
use Rattle.js_read_spec.specs.declared.words.LineHead.TheVariants as lines
use Rattle.js_read_spec.specs.declared.words.Stage.{Stage}
use Rattle.js_read_spec.specs.declared.words.Stage.TheVariants.{Imports, Items, End}
use Rattle.exact_place.specs.Reading.{Reading, passes, after_at}
use Rattle.exact_place.specs.Grammar.{Spelling, ◌then◌, Leads, first, second, IsLiteral, IsValue, IsMapped, IsRun, IsWalk}
use Rattle.exact_place.specs.Place.{Stops, Law}
use Rattle.exact_place.specs.Tokens.{AreNames, word_of}
use Rattle.exact_place.proofs.Steps.{cases, went}
use Rattle.exact_place.proofs.Basic.{law_value, law_literal, law_map, law_same, law_end}
use Rattle.exact_place.proofs.Sequence.{Starts, Follows, law_after, law_lead, law_either}
use Rattle.exact_place.proofs.Lists.{law_list, law_walk, Turn, open_turn, shut_turn}
use Rattle.exact_place.proofs.Tokens.{law_run}
use Rattle.exact_place.proofs.Words.{both, none_some, word_token}
use Rattle.exact_place.proofs.First.{apart, starts_leads, starts_mapped, starts_then, starts_either, starts_wider, follows_starts, follows_leads, follows_literal, follows_mapped, follows_list}
use Rattle.js_read_spec.specs.Words.{begins_name, is_word_start, ends_word, no_keyword}
use Rattle.js_read_spec.specs.Tokens.{name_at}
use Rattle.js_read_spec.specs.Expressions.{is_comma, expression_at}
use Rattle.js_read_spec.specs.Statements.{statement_at}
use Rattle.js_read_spec.specs.Modules.{Line, import_line, item_line, export_line, member_of, begins_file, is_file_front, file_front_at, file_at, names_at, parameters_at, object_property_at, properties_at, object_at, body_at, member_at, members_at, item_ended_at, item_after_at, line_after_at, line_at, is_imports, goes_on, stage_after, module_of, module_lines_at, module_at}
use Rattle.js_read_spec.proofs.WordLaws.{all_front, all_over, property_begins}
use Rattle.js_read_spec.proofs.HeadLaws.{IsItemHead, IsLineHead, law_names, law_properties, law_line_heads, law_member_heads}
use Rattle.js_read_spec.proofs.ExpressionForms.{IsWordless, starts_heads, starts_wordless, starts_expression, is_expression_start, wordless_from, wordless_no_word, is_wordless_start}
use Rattle.js_read_spec.proofs.ExpressionLaws.{after_expression, anything, this_byte, same, fits, after_follows, law_expression_after, law_expression, law_wordless}
use Rattle.js_read_spec.proofs.StatementForms.{BlockForm}
use Rattle.js_read_spec.proofs.StatementLaws.{law_block, law_statement}
use Rattle.js_read_spec.proofs.ModuleForms.{NamesForm, ParametersForm, PropertyForm, PropertiesForm, ObjectForm, MemberForm, MembersForm, ItemEndedForm, ItemWordForm, LineWordForm, IsLine, LineAt, line_to, line_from, module_to, module_from}

open_end : (bytes : List ℕ) → Stops anything bytes
open_end [] = tt
open_end (c ∷ rest) = refl

turned : (b : Bool) → not b ≡ true → b ≡ false
turned true e = absurd cc
turned false e = refl

both_true : (a b : Bool) → a ≡ true → b ≡ true → (a && b) ≡ true
both_true a b e f = rw (e, f) refl

-- ---- files

no_file_character : ℕ → Bool
no_file_character c = not (is_file_character c)

file_names : AreNames begins_file is_file_front no_file_character
unfolding no_file_character
file_names = record {
  nothing = refl;
  closed = λ front c more h. all_front is_file_character front c more h;
  names = λ text h. (both (begins_file text) (not (is_empty text)) h).0;
  grows = grows;
  ends = λ text c s. all_over is_file_character text c (turned (is_file_character c) s);
}
  where
    grows : (front : List ℕ) → begins_file front ≡ true → (more : List ℕ) × (is_file_front (front ++ more) ≡ true)
    grows [] h = (97 ∷ [], refl)
    grows (c ∷ front) h = ([], subst (λ (t : List ℕ). is_file_front t ≡ true) (sym (append-nil (c ∷ front))) (both_true (begins_file (c ∷ front)) true h refl))

record IsFront (u text : List ℕ) : Type 0 where
  is : text ≡ u
  front : is_file_front u ≡ true

law_file_front : {n : ℕ} → Law n no_file_character file_front_at file_front_at IsFront
unfolding file_front_at
law_file_front = law_same to from (law_run no_file_character (word_token (λ x. x) no_keyword file_names (λ text x e. absurd (none_some x e))))
  where
    value_is : (a b : List ℕ) → Some a ≡ Some b → a ≡ b
    value_is a b e = cc e

    to : (u text : List ℕ) → IsRun (word_of is_file_front (λ x. x) no_keyword) u text → IsFront u text
    to u text p = elim (went (is_file_front text) (Some text) None (Some u) p.is) [
      | inl k ↦ let e = value_is text u k.1 in record { is = e; front = subst (λ (v : List ℕ). is_file_front v ≡ true) e k.0 }
      | inr k ↦ absurd (none_some u k.1)
    ]

    from : (u text : List ℕ) → IsFront u text → IsRun (word_of is_file_front (λ x. x) no_keyword) u text
    from u text p = record { is = rw (p.is, p.front) refl }

abbrev FileForm : Spelling Name
FileForm = IsFront then λ u. Leads (codes ".js") (IsValue (u ++ codes ".js"))

not_dot : (b : ℕ) → is_file_character b ≡ true → eqb b 46 ≡ false
not_dot b e = elim (cases (eqb b 46)) [
  | inl k ↦ absurd (let f : is_file_character 46 ≡ true = subst (λ (d : ℕ). is_file_character d ≡ true) (eqb-true b 46 k) e in cc f)
  | inr k ↦ k
]

rest_file : (begun : Bool) (u : List ℕ) → begins_file u ≡ true → (begun || not (is_empty u)) ≡ true → is_file_rest begun (u ++ codes ".js") ≡ true
rest_file true [] h k = refl
rest_file false [] h k = absurd cc
rest_file begun (b ∷ u) h k =
    let l = both (is_file_character b) (list_all is_file_character u) h in
    rw (not_dot b l.0, l.0) (rest_file true u l.1 refl)

record FileParts (begun : Bool) (f : List ℕ) : Type 0 where
  front : List ℕ
  is : f ≡ front ++ codes ".js"
  file : begins_file front ≡ true
  some : (begun || not (is_empty front)) ≡ true

file_rest : (begun : Bool) (f : List ℕ) → is_file_rest begun f ≡ true → FileParts begun f
file_rest begun [] h = absurd cc
file_rest begun (b ∷ f) h = elim (went (eqb b 46) (begun && is_same_text f (codes "js")) (is_file_character b && is_file_rest true f) true h) [
  | inl k ↦
      let l = both begun (is_same_text f (codes "js")) k.1 in
      let rest : f ≡ codes "js" = same_text f (codes "js") (sym l.1) in
      record { front = []; is = ap₂ (λ (x : ℕ) (y : List ℕ). x ∷ y) (eqb-true b 46 k.0) rest; file = refl; some = rw l.0 refl }
  | inr k ↦
      let l = both (is_file_character b) (is_file_rest true f) k.1 in
      let r = file_rest true f l.1 in
      record { front = b ∷ r.front; is = ap (λ (y : List ℕ). b ∷ y) r.is; file = both_true (is_file_character b) (begins_file r.front) l.0 r.file; some = or_true begun }
]
  where
    or_true : (b : Bool) → (b || true) ≡ true
    or_true true = refl
    or_true false = refl

file_spelled : (f text : List ℕ) → FileForm f text → SpellsFile f text
unfolding SpellsFile
file_spelled f text p =
    let k = both (begins_file p.value) (not (is_empty p.value)) p.first.front in
    let q = p.second in
    let ok : is_file (p.value ++ codes ".js") ≡ true = rest_file false p.value k.0 k.1 in
    let text_is : text ≡ p.value ++ codes ".js" = p.parts ∙ ap₂ (λ (x y : List ℕ). x ++ y) p.first.is (q.parts ∙ ap (λ (x : List ℕ). codes ".js" ++ x) q.second.empty) in
    rw q.second.same (record { holds = ok; spelled = record { same = text_is } })

file_form : (f text : List ℕ) → SpellsFile f text → FileForm f text
unfolding SpellsFile
file_form f text s =
    let r = file_rest false f s.holds in
    record {
      value = r.front;
      front = r.front;
      back = codes ".js";
      first = record { is = refl; front = rw (r.file, r.some) refl };
      parts = s.spelled.same ∙ r.is;
      second = record { back = []; second = record { same = r.is; empty = refl }; parts = refl };
    }

law_file : {n : ℕ} → Law n anything file_at file_at SpellsFile
unfolding file_at no_file_character
law_file {n} = law_same to from (law_after n n no_file_character anything (fits n _) (λ u. follows_leads no_file_character 46 _ _ anything refl) law_file_front (λ u text p. law_lead (codes ".js") (law_value (u ++ codes ".js"))))
  where
    to : (f text : List ℕ) → FileForm f text → SpellsFile f text
    to f text p = file_spelled f text p

    from : (f text : List ℕ) → SpellsFile f text → FileForm f text
    from f text s = file_form f text s

-- ---- parts of items

property_starts : (x : List ℕ) → is_property x ≡ true → passes is_word_start x ≡ true
property_starts [] h = absurd cc
property_starts (b ∷ bs) h =
    let j = both (begins_name (b ∷ bs)) _ (property_begins (b ∷ bs) h) in
    let l = both (list_all is_name_character (b ∷ bs)) (not (is_digit b)) j.0 in
    let m = both (is_name_character b) (list_all is_name_character bs) l.0 in
    rw (m.0, l.1) refl

starts_property : Starts is_word_start SpellsProperty
unfolding SpellsProperty
starts_property x text p = rw p.spelled.same (property_starts x p.holds)

module _ (n m : ℕ) (le : n ≤ m) where
  named : {B : Type 0} {next next' : Name → List ℕ → Reading B} {Q : Name → Spelling B} (stop : ℕ → Bool) → ((x : Name) → Follows ends_word (Q x) stop)
      → ((x : Name) (text : List ℕ) → SpellsName x text → Law n stop (next x) (next' x) (Q x)) → Law n stop (λ bytes. after_at name_at next bytes) (λ bytes. after_at name_at next' bytes) (SpellsName then Q)
  named stop follows laws = law_after n n ends_word stop (fits n _) follows law_names laws

  -- what stands behind a list of names
  after_names : ℕ → Bool
  after_names c = ends_word c && not (is_comma c)

  law_name_list : Law n after_names (names_at n) (names_at m) NamesForm
  unfolding names_at after_names
  law_name_list = named after_names (λ x. follows_mapped ends_word _ _ after_names (follows_list ends_word is_comma _ after_names (λ c e. this_byte 44 ends_word refl c e) (starts_leads is_comma 44 _ _ refl) (λ c e. (both (ends_word c) (not (is_comma c)) e).0)))
      (λ x text p. law_map (λ xs. x ∷ xs) (law_list is_comma ends_word after_names le (starts_leads is_comma 44 _ _ refl) (λ c e. this_byte 44 ends_word refl c e) (λ c e. turned (is_comma c) (both (ends_word c) (not (is_comma c)) e).1) (λ c e. (both (ends_word c) (not (is_comma c)) e).0) (law_lead (codes ", ") law_names)))

  starts_names : Starts is_word_start NamesForm
  starts_names = starts_then is_word_start _ _ (λ x text p. starts_heads (heads.Name x) text p)

  -- a list of names, and a part behind it
  listed : {B : Type 0} {next next' : List Name → List ℕ → Reading B} {Q : List Name → Spelling B} (stop : ℕ → Bool) → ((xs : List Name) → Follows after_names (Q xs) stop)
      → ((xs : List Name) (text : List ℕ) → NamesForm xs text → Law n stop (next xs) (next' xs) (Q xs)) → Law n stop (λ bytes. after_at (names_at n) next bytes) (λ bytes. after_at (names_at m) next' bytes) (NamesForm then Q)
  listed stop follows laws = law_after n n after_names stop (fits n _) follows law_name_list laws

  law_parameters : Law n anything (parameters_at n) (parameters_at m) ParametersForm
  unfolding parameters_at after_names
  law_parameters = law_either (λ c. eqb c 41) (starts_leads _ 41 _ _ refl) (follows_starts _ anything is_word_start _ (apart is_word_start 41 refl) (starts_then is_word_start _ _ starts_names))
      (law_lead (codes ")") (law_value [])) (listed anything (λ xs. follows_leads after_names 41 _ _ anything refl) (λ xs text p. law_lead (codes ")") (law_value xs)))

  law_object_property : Law n after_expression (object_property_at n) (object_property_at m) PropertyForm
  unfolding object_property_at
  law_object_property = law_after n n ends_word after_expression (fits n _) (λ p. follows_leads ends_word 58 _ _ after_expression refl) law_properties (λ p text q. law_lead (codes ": ") (law_map (λ e. record { name = p; value = e }) (law_expression n m le)))

  -- what stands behind a list of properties
  after_pairs : ℕ → Bool
  after_pairs c = after_expression c && not (is_comma c)

  law_pairs : Law n after_pairs (properties_at n) (properties_at m) PropertiesForm
  unfolding properties_at after_pairs
  law_pairs = law_after n n after_expression after_pairs (fits n _) (λ p. follows_mapped after_expression _ _ after_pairs (follows_list after_expression is_comma _ after_pairs (λ c e. this_byte 44 after_expression refl c e) (starts_leads is_comma 44 _ _ refl) (λ c e. (both (after_expression c) (not (is_comma c)) e).0)))
      law_object_property (λ p text q. law_map (λ ps. p ∷ ps) (law_list is_comma after_expression after_pairs le (starts_leads is_comma 44 _ _ refl) (λ c e. this_byte 44 after_expression refl c e) (λ c e. turned (is_comma c) (both (after_expression c) (not (is_comma c)) e).1) (λ c e. (both (after_expression c) (not (is_comma c)) e).0) (law_lead (codes ", ") law_object_property)))

  starts_pairs : Starts is_word_start PropertiesForm
  starts_pairs = starts_then is_word_start _ _ (starts_then is_word_start _ _ starts_property)

  law_object : (x : Name) → Law n anything (object_at n x) (object_at m x) (ObjectForm x)
  unfolding object_at after_pairs
  law_object x = law_either (λ c. eqb c 125) (starts_leads _ 125 _ _ refl) (follows_starts _ anything is_word_start _ (apart is_word_start 125 refl) (starts_then is_word_start _ _ starts_pairs))
      (law_lead (codes "};") (law_value (object_item x []))) (law_after n n after_pairs anything (fits n _) (λ ps. follows_leads after_pairs 125 _ _ anything refl) law_pairs (λ ps text p. law_lead (codes "};") (law_value (object_item x ps))))

  law_body : (level : ℕ) → Law n anything (body_at n level) (body_at m level) (BlockForm level)
  unfolding body_at
  law_body level = law_block n m le (statement_at n) (statement_at m) (law_statement n m le) level

  law_member : Law n anything (member_at n) (member_at m) MemberForm
  unfolding member_at
  law_member = law_lead (codes "  ") (law_after n n ends_word anything (fits n _) (λ h. follows_leads ends_word 40 _ _ anything refl) law_member_heads (λ h text p. law_lead (codes "(")
      (law_after n n anything anything (fits n _) (λ xs y back rest q st. open_end (back ++ rest)) law_parameters (λ xs text p. law_lead (codes " ")
      (law_after n n anything anything (fits n _) (λ ss y back rest q st. open_end (back ++ rest)) (law_body 1) (λ ss text p. law_lead (codes "\n") (law_value (member_of h xs ss))))))))

  law_members : Law n anything (members_at n) (members_at m) MembersForm
  unfolding members_at
  law_members = law_lead (codes "{\n") (law_after n n (λ c. not (eqb c 32)) anything (fits n _) (λ ms. follows_leads _ 125 _ _ anything refl)
      (law_list (λ c. eqb c 32) anything (λ c. not (eqb c 32)) le (starts_leads _ 32 _ _ refl) (λ c e. refl) (λ c e. turned (eqb c 32) e) (λ c e. refl) law_member) (λ ms text p. law_lead (codes "}") (law_value ms)))

  law_item_ended : (f : Expression → Item) → Law n anything (item_ended_at n f) (item_ended_at m f) (ItemEndedForm f)
  unfolding item_ended_at
  law_item_ended f = law_after n n after_expression anything (fits n _) (λ e. follows_mapped after_expression _ _ anything (follows_literal after_expression 59 [] anything refl)) (law_expression n m le) (λ e text p. law_map (λ u. f e) (law_literal (codes ";")))

  law_item_word : (h : ItemHead) → Law n anything (item_after_at n h) (item_after_at m h) (ItemWordForm h)
  unfolding item_after_at
  law_item_word items.Const = law_lead (codes " ") (named anything (λ x. follows_leads ends_word 32 _ _ anything refl) (λ x text p. law_lead (codes " = ")
      (law_either (λ c. eqb c 123) (starts_leads _ 123 _ _ refl) (follows_starts _ anything is_expression_start _ (apart is_expression_start 123 refl) (starts_then is_expression_start _ _ starts_expression)) (law_lead (codes "{") (law_object x)) (law_item_ended (λ e. const_item x e)))))
  law_item_word items.Let = law_lead (codes " ") (named anything (λ x. follows_leads ends_word 32 _ _ anything refl) (λ x text p. law_lead (codes " = ") (law_item_ended (λ e. let_item x e))))
  law_item_word items.Function = law_lead (codes " ") (named anything (λ x. follows_leads ends_word 40 _ _ anything refl) (λ x text p. law_lead (codes "(")
      (law_after n n anything anything (fits n _) (λ xs y back rest q st. open_end (back ++ rest)) law_parameters (λ xs text p. law_lead (codes " ") (law_map (λ ss. function_item x xs ss) (law_body 0))))))
  law_item_word items.Class = law_lead (codes " ") (named anything (λ x. follows_leads ends_word 32 _ _ anything refl) (λ x text p. law_lead (codes " ")
      (law_either (λ c. eqb c 123) (starts_mapped _ _ _ (starts_leads _ 123 _ _ refl)) (follows_leads _ 101 _ _ anything refl) (law_map (λ ms. class_item x ms) law_members)
      (law_lead (codes "extends ") (named anything (λ y. follows_leads ends_word 32 _ _ anything refl) (λ y text p. law_lead (codes " ") (law_map (λ ms. subclass_item x y ms) law_members)))))))
  law_item_word (items.Expression h) = law_after n n after_expression anything (fits n _) (λ e. follows_mapped after_expression _ _ anything (follows_literal after_expression 59 [] anything refl)) (law_expression_after n m le (expression_at n) (expression_at m) (law_expression n m le) h) (λ e text p. law_map (λ u. expression_item e) (law_literal (codes ";")))

  item_follows : (h : ItemHead) → Follows ends_word (ItemWordForm h) anything
  item_follows items.Const = follows_leads ends_word 32 _ _ anything refl
  item_follows items.Let = follows_leads ends_word 32 _ _ anything refl
  item_follows items.Function = follows_leads ends_word 32 _ _ anything refl
  item_follows items.Class = follows_leads ends_word 32 _ _ anything refl
  item_follows (items.Expression h) = λ y back rest p st.
      let tail : Stops after_expression (p.back ++ rest) = follows_mapped after_expression _ _ anything (follows_literal after_expression 59 [] anything refl) y p.back rest p.second (open_end rest) in
      rw (p.parts, append_assoc p.front p.back rest) (after_follows n m le (expression_at n) (expression_at m) (law_expression n m le) h p.value p.front (p.back ++ rest) p.first tail)

  law_line_word : (h : LineHead) → Law n anything (line_after_at n h) (line_after_at m h) (LineWordForm h)
  unfolding line_after_at after_names
  law_line_word lines.Import = law_lead (codes " { ") (listed anything (λ xs. follows_leads after_names 32 _ _ anything refl) (λ xs text p. law_lead (codes " } from \"./")
      (law_after n n anything anything (fits n _) (λ f y back rest q st. open_end (back ++ rest)) law_file (λ f text p. law_lead (codes "\";\n") (law_value (import_line (record { names = xs; file = f })))))))
  law_line_word lines.Export = law_lead (codes " { ") (listed anything (λ xs. follows_leads after_names 32 _ _ anything refl) (λ xs text p. law_lead (codes " };\n") (law_value (export_line xs))))
  law_line_word (lines.Item h) = law_after n n anything anything (fits n _) (λ i y back rest q st. open_end (back ++ rest)) (law_item_word h) (λ i text p. law_lead (codes "\n") (law_value (item_line i)))

  line_follows : (h : LineHead) → Follows ends_word (LineWordForm h) anything
  line_follows lines.Import = follows_leads ends_word 32 _ _ anything refl
  line_follows lines.Export = follows_leads ends_word 32 _ _ anything refl
  line_follows (lines.Item h) = λ y back rest p st. rw (p.parts, append_assoc p.front p.back rest) (item_follows h p.value p.front (p.back ++ rest) p.first (open_end (p.back ++ rest)))

  starts_item_head : Starts is_word_start IsItemHead
  starts_item_head items.Const text p = rw p.same refl
  starts_item_head items.Let text p = rw p.same refl
  starts_item_head items.Function text p = rw p.same refl
  starts_item_head items.Class text p = rw p.same refl
  starts_item_head (items.Expression h) text p = starts_heads h text p

  starts_line_head : (imports : Bool) → Starts is_word_start (IsLineHead imports)
  starts_line_head true lines.Import text p = rw p.same refl
  starts_line_head false lines.Import text p = absurd p
  starts_line_head true lines.Export text p = rw p.same refl
  starts_line_head false lines.Export text p = rw p.same refl
  starts_line_head true (lines.Item h) text p = starts_item_head h text p
  starts_line_head false (lines.Item h) text p = starts_item_head h text p

  not_word : (c : ℕ) → is_wordless_start c ≡ true → not (is_word_start c) ≡ true
  not_word c e = rw (wordless_no_word c e) refl

  starts_bare : Starts is_wordless_start IsWordless
  starts_bare e text w = starts_wordless e text (wordless_from e text w)

  law_line : (imports : Bool) → Law n anything (line_at n imports) (line_at m imports) (IsLine imports)
  unfolding line_at
  law_line imports = law_same (line_to imports) (line_from imports)
      (law_either is_word_start (starts_then is_word_start _ _ (starts_line_head imports)) (follows_starts _ anything is_wordless_start _ not_word (starts_then is_wordless_start _ _ starts_bare))
      (law_after n n ends_word anything (fits n _) line_follows (law_line_heads imports) (λ h text p. law_line_word h))
      (law_after n n after_expression anything (fits n _) (λ e. follows_leads after_expression 59 _ _ anything refl) (law_wordless n m le) (λ e text p. law_lead (codes ";\n") (law_value (item_line (expression_item e))))))

  starts_line : (imports : Bool) → Starts anything (IsLine imports)
  starts_line imports l text s =
      starts_either anything _ _ (starts_then anything _ _ (starts_wider is_word_start anything _ (λ c e. refl) (starts_line_head imports))) (starts_then anything _ _ (starts_wider is_wordless_start anything _ (λ c e. refl) starts_bare)) l text (line_from imports l text s)

  turns : (s : Stage) → Turn n (goes_on s) anything (λ c. false) (line_at n (is_imports s)) (line_at m (is_imports s)) (LineAt s)
  turns Imports = open_turn (starts_line true) (λ c e. refl) (λ c e. absurd cc) (law_line true)
  turns Items = open_turn (starts_line false) (λ c e. refl) (λ c e. absurd cc) (law_line false)
  turns End = shut_turn (λ l text p. p) (λ c. refl)

  law_lines : Law n (λ c. false) (module_lines_at n Imports) (module_lines_at m Imports) (IsWalk LineAt stage_after Imports)
  unfolding module_lines_at
  law_lines = law_walk goes_on LineAt stage_after (λ s. line_at n (is_imports s)) (λ s. line_at m (is_imports s)) anything (λ c. false) n turns (λ c e. absurd cc) n m le (omega arith) Imports

  nothing_follows : (ls : List Line) → Follows (λ c. false) (IsMapped (λ u. module_of ls) (IsLiteral [])) (λ c. false)
  nothing_follows ls y back rest q st = rw q.first.is st

  pub law_module : Law n (λ c. false) (module_at n) (module_at m) Spells
  unfolding module_at
  law_module = law_same module_to module_from (law_after n n (λ c. false) (λ c. false) (fits n _) nothing_follows law_lines (λ ls text p. law_map (λ u. module_of ls) law_end))
