-- The pieces of a class declare names that differ, each of which the class owns.
use Rattle.std.proofs.Common.{◌≡◌, ◌≤◌, ◌<◌, ◌⊎◌, ◌++◌, ◌||◌, ℕ, Bool, true, false, List, [], ◌∷◌, Option, Some, None, IsTrue, inl, inr, refl, sym, ap, subst, ◌∙◌, Contains, arith}
use Rattle.std.proofs.lemmas.List.Elements.{Contains-append_cases}
use Rattle.sj_emit_help_spec.specs.Words.{all_kinds}
use Rattle.js_mean.specs.Proper.{item_names}
use Rattle.js_tree.specs.Terms.{Name, Item, Piece}
use Rattle.linked_pieces.specs.Order.{AreInOrder}
use Rattle.linked_pieces.specs.SjEmitClassSpecPieces.{Parts, pieces, when, constants_piece, class_piece, all_statics, variable_piece, setter_piece, cell_piece, load_piece, store_piece, cell_pieces, test_piece, kind_of_class, cast_piece, constants_of, class_of, module_of, tests_of}
use Rattle.sj_mangling.specs.Bindings.{field_binding}
use Rattle.sj_mangling.specs.Mangling.{mangled}
use Rattle.sj_mangling.specs.declared.bindings.FieldBinding.TheVariants.{Variable, Setter}
use Rattle.sj_mangling.proofs.Injective.{mangled_texts_differ}
use Rattle.sj_names.specs.Grammar.{is_class_name}
use Rattle.sj_split.proofs.Members.{at_first, further, cons_cases}
use Rattle.sj_trees.specs.declared.classes.FieldDef.{FieldDef}
use Rattle.worklist.proofs.Inserted.{nothing_in}
use Rattle.proper_pieces.proofs.Apart.{Differ, order_joined}
use Rattle.proper_pieces.proofs.Names.{behind, rank, Owns, alone, owns_variable, owns_setter, behind_variable, behind_setter, same_class}

abbrev pub HaveOwnNames : Piece → Piece → Type 0
HaveOwnNames p q = Differ p.name q.name

-- its item declares the name of the piece, and no other
abbrev pub DeclaresItself : Piece → Type 0
DeclaresItself p = (is : List Item) → item_names (p.item ∷ is) ≡ p.name ∷ item_names is

-- pieces that a class owns, whose names differ, with prefixes of these numbers
pub record Segment (c : Name) (low high : ℕ) (ps : List Piece) : Type 0 where
  pub onward : low ≤ high
  pub differ : AreInOrder HaveOwnNames ps
  pub from : (p : Piece) → Contains ps p → low ≤ rank p.name
  pub below : (p : Piece) → Contains ps p → rank p.name < high
  pub owns : (p : Piece) → Contains ps p → Owns c p.name
  pub declares : (p : Piece) → Contains ps p → DeclaresItself p

pub no_pieces : (c : Name) (low high : ℕ) → low ≤ high → Segment c low high []
no_pieces c low high h = record { onward = h; differ = tt; from = λ p i. nothing_in p i; below = λ p i. nothing_in p i; owns = λ p i. nothing_in p i; declares = λ p i. nothing_in p i }

either : (P : Piece → Type 0) (ps qs : List Piece) → ((p : Piece) → Contains ps p → P p) → ((p : Piece) → Contains qs p → P p) → (p : Piece) → Contains (ps ++ qs) p → P p
either P ps qs h k p i = go (Contains-append_cases ps qs p i)
  where
    go : Contains ps p ⊎ Contains qs p → P p
    go (inl j) = h p j
    go (inr j) = k p j

first_only : (P : Piece → Type 0) (p : Piece) → P p → (q : Piece) → Contains (p ∷ []) q → P q
first_only P p h q i = go (cons_cases p q [] i)
  where
    go : (p ≡ q) ⊎ Contains [] q → P q
    go (inl e) = subst P e h
    go (inr j) = nothing_in q j

pub joined : (c : Name) (low middle high : ℕ) (ps qs : List Piece) → Segment c low middle ps → Segment c middle high qs → Segment c low high (ps ++ qs)
joined c low middle high ps qs h k = record {
  onward = let a = h.onward in let b = k.onward in omega (arith, a, b);
  differ = order_joined HaveOwnNames ps qs h.differ k.differ (λ p q i j e. let a : rank p.name < middle = h.below p i in let b : middle ≤ rank q.name = k.from q j in let same : rank p.name ≡ rank q.name = ap rank e in omega (arith, a, b, same));
  from = either (λ p. low ≤ rank p.name) ps qs h.from (λ p j. let a = h.onward in let b = k.from p j in omega (arith, a, b));
  below = either (λ p. rank p.name < high) ps qs (λ p j. let a = k.onward in let b = h.below p j in omega (arith, a, b)) k.below;
  owns = either (λ p. Owns c p.name) ps qs h.owns k.owns;
  declares = either DeclaresItself ps qs h.declares k.declares;
}

single : (c : Name) (n high : ℕ) (p : Piece) → n < high → rank p.name ≡ n → Owns c p.name → DeclaresItself p → Segment c n high (p ∷ [])
single c n high p h is owns declares = record {
  onward = omega (arith, h);
  differ = ((λ q i. nothing_in q i), tt);
  from = first_only (λ q. n ≤ rank q.name) p (omega (arith, is));
  below = first_only (λ q. rank q.name < high) p (omega (arith, h, is));
  owns = first_only (λ q. Owns c q.name) p owns;
  declares = first_only DeclaresItself p declares;
}

when_segment : (c : Name) (low high : ℕ) (b : Bool) (ps : List Piece) → Segment c low high ps → Segment c low high (when b ps)
when_segment c low high true ps h = h
when_segment c low high false ps h = no_pieces c low high h.onward

-- no two of these fields have one name
abbrev pub NamesDiffer : List FieldDef → Type 0
NamesDiffer = AreInOrder (λ (f g : FieldDef). Differ f.name g.name)

-- a piece of a static field
data OfField (c : Name) (fs : List FieldDef) (p : Piece) : Type 0 where
  of_variable : (f : FieldDef) → Contains fs f → p ≡ variable_piece c f → OfField c fs p
  of_setter : (f : FieldDef) → Contains fs f → p ≡ setter_piece c f → OfField c fs p

of_further : (c : Name) (f : FieldDef) (fs : List FieldDef) (p : Piece) → OfField c fs p → OfField c (f ∷ fs) p
of_further c f fs p (of_variable g i e) = of_variable g (further f g fs i) e
of_further c f fs p (of_setter g i e) = of_setter g (further f g fs i) e

of_fields : (c : Name) (fs : List FieldDef) (p : Piece) → Contains (all_statics c fs) p → OfField c fs p
of_fields c [] p i = nothing_in p i
of_fields c (f ∷ fs) p i = go (of_fields c fs p) (cons_cases (variable_piece c f) p (setter_piece c f ∷ all_statics c fs) i)
  where
    next : (Contains (all_statics c fs) p → OfField c fs p) → (setter_piece c f ≡ p) ⊎ Contains (all_statics c fs) p → OfField c (f ∷ fs) p
    next rest (inl e) = of_setter f (at_first f fs) (sym e)
    next rest (inr j) = of_further c f fs p (rest j)

    go : (Contains (all_statics c fs) p → OfField c fs p) → (variable_piece c f ≡ p) ⊎ Contains (setter_piece c f ∷ all_statics c fs) p → OfField c (f ∷ fs) p
    go rest (inl e) = of_variable f (at_first f fs) (sym e)
    go rest (inr j) = next rest (cons_cases (setter_piece c f) p (all_statics c fs) j)

variable_or_setter : (c f g : Name) → field_binding Variable c f ≡ field_binding Setter c g → ⊥
variable_or_setter c f g e = let same : ◌≡◌ {A = ℕ} 2 3 = ap rank e in omega (arith, same)

same_rest : (c f g : Name) → IsTrue (is_class_name c) → mangled c ++ (95 ∷ 95 ∷ mangled f) ≡ mangled c ++ (95 ∷ 95 ∷ mangled g) → f ≡ g
same_rest c f g h e = mangled_texts_differ f g (same_class c c (mangled f) (mangled g) h h e).1

same_variable : (c f g : Name) → IsTrue (is_class_name c) → field_binding Variable c f ≡ field_binding Variable c g → f ≡ g
same_variable c f g h e = same_rest c f g h (sym (behind_variable c f) ∙ ap behind e ∙ behind_variable c g)

same_setter : (c f g : Name) → IsTrue (is_class_name c) → field_binding Setter c f ≡ field_binding Setter c g → f ≡ g
same_setter c f g h e = same_rest c f g h (sym (behind_setter c f) ∙ ap behind e ∙ behind_setter c g)

abbrev name_of : Piece → Name
name_of p = p.name

statics_differ : (c : Name) → IsTrue (is_class_name c) → (fs : List FieldDef) → NamesDiffer fs → AreInOrder HaveOwnNames (all_statics c fs)
statics_differ c h [] k = tt
statics_differ c h (f ∷ fs) k = ((λ p i e. variable_first p (cons_cases (setter_piece c f) p (all_statics c fs) i) e), ((λ p i e. setter_then p (of_fields c fs p i) e), statics_differ c h fs k.1))
  where
    variable_then : (p : Piece) → OfField c fs p → field_binding Variable c f.name ≡ p.name → ⊥
    variable_then p (of_variable g i is) e = k.0 g i (same_variable c f.name g.name h (e ∙ ap name_of is))
    variable_then p (of_setter g i is) e = variable_or_setter c f.name g.name (e ∙ ap name_of is)

    variable_first : (p : Piece) → (setter_piece c f ≡ p) ⊎ Contains (all_statics c fs) p → field_binding Variable c f.name ≡ p.name → ⊥
    variable_first p (inl is) e = variable_or_setter c f.name f.name (e ∙ sym (ap name_of is))
    variable_first p (inr i) e = variable_then p (of_fields c fs p i) e

    setter_then : (p : Piece) → OfField c fs p → field_binding Setter c f.name ≡ p.name → ⊥
    setter_then p (of_variable g i is) e = variable_or_setter c g.name f.name (sym (e ∙ ap name_of is))
    setter_then p (of_setter g i is) e = k.0 g i (same_setter c f.name g.name h (e ∙ ap name_of is))

each_static : (c : Name) (P : Piece → Type 0) → ((f : FieldDef) → P (variable_piece c f)) → ((f : FieldDef) → P (setter_piece c f)) → (fs : List FieldDef) (p : Piece) → Contains (all_statics c fs) p → P p
each_static c P h k fs p i = go (of_fields c fs p i)
  where
    go : OfField c fs p → P p
    go (of_variable f j e) = subst P (sym e) (h f)
    go (of_setter f j e) = subst P (sym e) (k f)

statics_segment : (c : Name) → IsTrue (is_class_name c) → (fs : List FieldDef) → NamesDiffer fs → Segment c 2 4 (all_statics c fs)
statics_segment c h fs k = record {
  onward = omega arith;
  differ = statics_differ c h fs k;
  from = each_static c (λ p. 2 ≤ rank p.name) (λ f. omega arith) (λ f. omega arith) fs;
  below = each_static c (λ p. rank p.name < 4) (λ f. omega arith) (λ f. omega arith) fs;
  owns = each_static c (λ p. Owns c p.name) (λ f. owns_variable c f.name) (λ f. owns_setter c f.name) fs;
  declares = each_static c DeclaresItself (λ f is. refl) (λ f is. refl) fs;
}

class_declares : (p : Parts) → DeclaresItself (class_piece p.class.name p.class.superclass p.entries p.fields)
class_declares p = go p.class.superclass
  where
    go : (s : Option Name) → DeclaresItself (class_piece p.class.name s p.entries p.fields)
    go None = λ is. refl
    go (Some s) = λ is. refl

cells_segment : (c : Name) (loaded : Bool) → Segment c 4 7 (cell_pieces c loaded)
cells_segment c loaded =
    joined c 4 6 7 (cell_piece c ∷ when loaded (load_piece c ∷ [])) (store_piece c ∷ [])
    (joined c 4 5 6 (cell_piece c ∷ []) (when loaded (load_piece c ∷ []))
    (single c 4 5 (cell_piece c) (omega arith) refl (alone refl refl) (λ is. refl))
    (when_segment c 5 6 loaded (load_piece c ∷ []) (single c 5 6 (load_piece c) (omega arith) refl (alone refl refl) (λ is. refl))))
    (single c 6 7 (store_piece c) (omega arith) refl (alone refl refl) (λ is. refl))

-- a class whose static fields have names that differ
pub own_segment : (p : Parts) → IsTrue (is_class_name p.class.name) → NamesDiffer p.statics → Segment p.class.name 0 9 (pieces p)
own_segment p h k =
    joined c 0 7 9 (constants_of p ++ class_of p ++ all_statics c p.statics ++ module_of p) (tests_of p)
    (joined c 0 4 7 (constants_of p ++ class_of p ++ all_statics c p.statics) (module_of p)
    (joined c 0 2 4 (constants_of p ++ class_of p) (all_statics c p.statics)
    (joined c 0 1 2 (constants_of p) (class_of p)
    (when_segment c 0 1 (p.is_live || p.is_base) (constants_piece c p.ancestors ∷ []) (single c 0 1 (constants_piece c p.ancestors) (omega arith) refl (alone refl refl) (λ is. refl)))
    (when_segment c 1 2 p.is_live (class_piece c p.class.superclass p.entries p.fields ∷ []) (single c 1 2 (class_piece c p.class.superclass p.entries p.fields) (omega arith) refl (alone refl refl) (class_declares p))))
    (statics_segment c h p.statics k))
    (when_segment c 4 7 (p.is_loaded || p.is_stored) (cell_pieces c p.is_loaded) (cells_segment c p.is_loaded)))
    (joined c 7 8 9 (when (p.is_tested || p.is_cast) (tested ∷ [])) (when p.is_cast (cast_piece c ∷ []))
    (when_segment c 7 8 (p.is_tested || p.is_cast) (tested ∷ []) (single c 7 8 tested (omega arith) refl (alone refl refl) (λ is. refl)))
    (when_segment c 8 9 p.is_cast (cast_piece c ∷ []) (single c 8 9 (cast_piece c) (omega arith) refl (alone refl refl) (λ is. refl))))
  where
    c : Name
    c = p.class.name

    tested : Piece
    tested = test_piece c p.instances (kind_of_class c all_kinds)
