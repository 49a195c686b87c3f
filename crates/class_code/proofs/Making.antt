-- Constructors of a chain make one object.
use Rattle.std.specs.Prelude.{set, if◌then◌else◌, codes}
use Rattle.std.proofs.Common.{◌≡◌, ℕ, zero, suc, ◌+◌, ◌<◌, Bool, true, false, List, [], ◌∷◌, ◌++◌, length, map, slice_get, Option, Some, None, refl, ap, ◌∙◌, arith}
use Rattle.js_tree.specs.Names.{is_same_text}
use Rattle.js_tree.specs.Terms.{Name, Member, Expression, this_use, name_use, assign_property}
use Rattle.js_tree.specs.Views.{statements_of}
use Rattle.outcomes.specs.Outcome.{Out, done, going, then_do}
use Rattle.sj_mangling.specs.Bindings.{field_binding}
use Rattle.sj_mangling.specs.declared.bindings.FieldBinding.TheVariants.{Property}
use Rattle.sj_trees.specs.declared.classes.FieldDef.{FieldDef}
use Rattle.js_mean.specs.Objects.{set_stored, at_address, no_properties, with_property, allocated, next_address, set_property, with_heap}
use Rattle.js_mean.specs.Files.{owner}
use Rattle.js_mean.specs.States.{Value, object, class, ClassLink, Making, This, making, Cell, absent, holds, Stored, plain, Scope, State, ExpressionEnd, gives, StatementEnd, ends, normally, in_statement, next_statement, Program}
use Rattle.js_mean.specs.Meaning.{unless_missing, with_expression, Low, below, binding, bind_declared, class_bindings, member_scope, top_cell, evaluate, execute, execute_all, with_state, this_of, with_this, construct, construct_by, made}
use Rattle.file_tops.specs.Tops.{literal_value}
use Rattle.file_tops.proofs.Run.{each, some_same, literal_runs}
use Rattle.class_code.proofs.Bridge.{name_at_top}
use Rattle.entry_search.specs.Words.{class_name, constants_name}
use Rattle.entry_search.specs.Pieces.{zero_of, constructor_body, field_start}
use Rattle.class_code.specs.Made.{with_fields, MakerStands, Makes, makes_top, makes_more, ChainsMake, ShortBoundsGo}

longer : (a n : ℕ) → suc a + n ≡ suc (a + n)
longer a n = omega arith

one_more : (n : ℕ) → 1 + n ≡ suc n
one_more n = omega arith

-- the last item of a heap
pub last_at : (h : List Stored) (y : Stored) → slice_get (h ++ y ∷ []) (length h) ≡ Some y
last_at [] y = refl
last_at (z ∷ h) y = last_at h y

pub last_set : (h : List Stored) (x y : Stored) → set (h ++ y ∷ []) (length h) x ≡ h ++ x ∷ []
last_set [] x y = refl
last_set (z ∷ h) x y = ap (λ (k : List Stored). z ∷ k) (last_set h x y)

property_set : (target : List ClassLink) (own : Name → Option Value) (s : State) (y : Name) (v : Value) → is_same_text y (codes "__proto__") ≡ false → set_property (object (next_address s)) y v (allocated target own s) ≡ Some (allocated target (with_property y v own) s)
property_set target own s y v free =
    ap (λ (o : Option Stored). set_stored (next_address s) o y v (allocated target own s)) (last_at s.heap (plain target own))
    ∙ ap (λ (b : Bool). if b then None else Some (at_address (next_address s) (plain target (with_property y v own)) (allocated target own s))) free
    ∙ ap (λ (h : List Stored). Some (with_heap h s)) (last_set s.heap (plain target (with_property y v own)) (plain target own))

same_top : (o : Option Name) (y : Name) (target : List ClassLink) (own : Name → Option Value) (s : State) → top_cell o y (allocated target own s) ≡ top_cell o y s
same_top None y target own s = refl
same_top (Some f) y target own s = refl

-- what sets properties declares nothing
fields_declare : (c : Name) (fs : List FieldDef) (bs : Name → Cell) → bind_declared (statements_of (map (field_start c) fs)) bs ≡ bs
fields_declare c [] bs = refl
fields_declare c (f ∷ fs) bs = fields_declare c fs bs

body_declares : (c : Name) (superclass : Option Name) (fs : List FieldDef) (bs : Name → Cell) → bind_declared (statements_of (constructor_body c superclass fs)) bs ≡ bs
body_declares c None fs bs = fields_declare c fs bs
body_declares c (Some d) fs bs = fields_declare c fs bs

module _ (p : Program) (target : List ClassLink) (s : State) where
  abbrev at : (Name → Option Value) → State
  at own = allocated target own s

  abbrev this_object : Value
  this_object = object (next_address s)

  -- one property of the object that is made
  pub sets : (low : Low) (sc : Scope) (m : Making) (y : Name) (e : Expression) (v : Value) (own : Name → Option Value) → is_same_text y (codes "__proto__") ≡ false → sc.this_value ≡ making m (Some this_object) → evaluate p low e sc (at own) ≡ done (gives v (at own)) → execute p low (assign_property this_use y e) sc (at own) ≡ done (ends normally sc (at (with_property y v own)))
  sets low sc m y e v own free this given =
      ap (λ (t : This). then_do (this_of t (at own)) (in_statement sc (λ u s. unless_missing u (with_expression p low e (λ w sc s. with_state (set_property u y w s) sc s)) sc s))) this
      ∙ ap (λ (o : Out ExpressionEnd). then_do o (in_statement sc (λ w s. with_state (set_property this_object y w s) sc s))) given
      ∙ ap (λ (o : Option State). with_state o sc (at own)) (property_set target own s y v free)

  fields_set : (low : Low) (sc : Scope) (m : Making) (c : Name) (fs : List FieldDef) (own all : Name → Option Value) → sc.this_value ≡ making m (Some this_object) → with_fields c fs own ≡ Some all → execute_all p low (statements_of (map (field_start c) fs)) sc (at own) ≡ done (ends normally sc (at all))
  fields_set low sc m c [] own all this h = ap (λ (o : Name → Option Value). done (ends normally sc (at o))) (some_same own all h)
  fields_set low sc m c (f ∷ fs) own all this h =
      let k = each (literal_value (zero_of f.tpe)) (λ v. with_fields c fs (with_property (field_binding Property c f.name) v own)) all h in
      ap (λ (o : Out StatementEnd). then_do o (next_statement (execute_all p low (statements_of (map (field_start c) fs))))) (sets low sc m (field_binding Property c f.name) (zero_of f.tpe) k.0 own refl this (literal_runs p low sc (at own) (zero_of f.tpe) k.0 k.1))
      ∙ fields_set low sc m c fs (with_property (field_binding Property c f.name) k.0 own) all this k.2

  -- the constants, and then the fields
  starts : (low : Low) (sc : Scope) (m : Making) (c : Name) (fs : List FieldDef) (k : ℕ) (const : Bool) (own all : Name → Option Value) → sc.this_value ≡ making m (Some this_object) → sc.bindings (constants_name c) ≡ absent → top_cell (owner p sc.file (constants_name c)) (constants_name c) s ≡ holds const (object k) → with_fields c fs (with_property (codes "k") (object k) own) ≡ Some all →
      execute_all p low (statements_of (constructor_body c None fs)) sc (at own) ≡ done (ends normally sc (at all))
  starts low sc m c fs k const own all this free top h =
      ap (λ (o : Out StatementEnd). then_do o (next_statement (execute_all p low (statements_of (map (field_start c) fs))))) (sets low sc m (codes "k") (name_use (constants_name c)) (object k) own refl this (name_at_top p (constants_name c) const (object k) sc (at own) free (same_top (owner p sc.file (constants_name c)) (constants_name c) target own s ∙ top)))
      ∙ fields_set low sc m c fs (with_property (codes "k") (object k) own) all this h

  module _ (link_of : Name → ClassLink) where
    constants_free : (c : Name) (superclass : Option Name) (fs : List FieldDef) (ls : List ClassLink) → (link_of c).name ≡ class_name c → bind_declared (statements_of (constructor_body c superclass fs)) (class_bindings (link_of c) ls) (constants_name c) ≡ absent
    constants_free c superclass fs ls named = ap (λ (bs : Name → Cell). bs (constants_name c)) (body_declares c superclass fs (class_bindings (link_of c) ls)) ∙ ap (λ (y : Name). binding y (holds true (class (link_of c ∷ ls))) (λ z. absent) (constants_name c)) named

    abbrev result : (Name → Option Value) → Out ExpressionEnd
    result own = done (gives this_object (at own))

    -- the constructor of a class that extends none
    top_makes : (c : Name) (fs : List FieldDef) (k : ℕ) (own : Name → Option Value) (n : ℕ) → MakerStands p link_of s c None fs k → with_fields c fs (with_property (codes "k") (object k) no_properties) ≡ Some own → construct p (below p (suc n)) (link_of c ∷ []) target [] s ≡ result own
    top_makes c fs k own n st h =
        ap (λ (o : Option (List Member)). construct_by (below p (suc n)) (link_of c) [] o target [] s) st.members_are
        ∙ ap (λ (o : Out StatementEnd). then_do o made) (starts (below p n) (member_scope (link_of c) [] (making (record { above = []; target = target; handed = [] }) (Some this_object)) (record { parameters = []; body = statements_of (constructor_body c None fs) }) []) (record { above = []; target = target; handed = [] }) c fs k st.const no_properties own refl (constants_free c None fs [] st.named) st.constants_stand h)

    -- and of one that extends another, which is made first
    more_makes : (c d : Name) (ds : List Name) (fs : List FieldDef) (k : ℕ) (before own : Name → Option Value) (n : ℕ) → MakerStands p link_of s c (Some d) fs k → with_fields c fs (with_property (codes "k") (object k) before) ≡ Some own → construct p (below p n) (link_of d ∷ map link_of ds) target [] s ≡ result before → construct p (below p (suc n)) (link_of c ∷ link_of d ∷ map link_of ds) target [] s ≡ result own
    more_makes c d ds fs k before own n st h below_made =
        ap (λ (o : Option (List Member)). construct_by (below p (suc n)) (link_of c) (link_of d ∷ map link_of ds) o target [] s) st.members_are
        ∙ ap (λ (o : Out ExpressionEnd). then_do (then_do (then_do o (with_this (record { above = link_of d ∷ map link_of ds; target = target; handed = [] }) None (member_scope (link_of c) (link_of d ∷ map link_of ds) (making (record { above = link_of d ∷ map link_of ds; target = target; handed = [] }) None) (record { parameters = []; body = statements_of (constructor_body c (Some d) fs) }) []))) (next_statement (execute_all p (below p n) (statements_of (constructor_body c None fs))))) made) below_made
        ∙ ap (λ (o : Out StatementEnd). then_do o made) (starts (below p n) (member_scope (link_of c) (link_of d ∷ map link_of ds) (making (record { above = link_of d ∷ map link_of ds; target = target; handed = [] }) (Some this_object)) (record { parameters = []; body = statements_of (constructor_body c (Some d) fs) }) []) (record { above = link_of d ∷ map link_of ds; target = target; handed = [] }) c fs k st.const before own refl (constants_free c (Some d) fs (link_of d ∷ map link_of ds) st.named) st.constants_stand h)

    chain_makes : (chain : List Name) (own : Name → Option Value) → Makes p link_of s chain own → (n : ℕ) → construct p (below p (length chain + n)) (map link_of chain) target [] s ≡ result own
    chain_makes [] own h n = elim h [ ]
    chain_makes (c ∷ []) own (makes_top _ fs k _ st h) n = ap (λ (i : ℕ). construct p (below p i) (link_of c ∷ []) target [] s) (one_more n) ∙ top_makes c fs k own n st h
    chain_makes (c ∷ d ∷ ds) own (makes_more _ _ _ fs k before _ rest st h) n = ap (λ (i : ℕ). construct p (below p i) (link_of c ∷ link_of d ∷ map link_of ds) target [] s) (longer (length (d ∷ ds)) n) ∙ more_makes c d ds fs k before own (length (d ∷ ds) + n) st h (chain_makes (d ∷ ds) before rest n)

    -- with fewer units it is going
    short_goes : (chain : List Name) (own : Name → Option Value) → Makes p link_of s chain own → (m : ℕ) → m < length chain → construct p (below p m) (map link_of chain) target [] s ≡ going
    short_goes [] own h m lt = elim h [ ]
    short_goes (c ∷ []) own (makes_top _ fs k _ st h) zero lt = ap (λ (o : Option (List Member)). construct_by (below p 0) (link_of c) [] o target [] s) st.members_are
    short_goes (c ∷ []) own (makes_top _ fs k _ st h) (suc m) lt = absurd (omega (arith, lt))
    short_goes (c ∷ d ∷ ds) own (makes_more _ _ _ fs k before _ rest st h) zero lt = ap (λ (o : Option (List Member)). construct_by (below p 0) (link_of c) (link_of d ∷ map link_of ds) o target [] s) st.members_are
    short_goes (c ∷ d ∷ ds) own (makes_more _ _ _ fs k before _ rest st h) (suc m) lt =
        ap (λ (o : Option (List Member)). construct_by (below p (suc m)) (link_of c) (link_of d ∷ map link_of ds) o target [] s) st.members_are
        ∙ ap (λ (o : Out ExpressionEnd). then_do (then_do (then_do o (with_this (record { above = link_of d ∷ map link_of ds; target = target; handed = [] }) None (member_scope (link_of c) (link_of d ∷ map link_of ds) (making (record { above = link_of d ∷ map link_of ds; target = target; handed = [] }) None) (record { parameters = []; body = statements_of (constructor_body c (Some d) fs) }) []))) (next_statement (execute_all p (below p m) (statements_of (constructor_body c None fs))))) made) (short_goes (d ∷ ds) before rest m (omega (arith, lt)))

pub chains_make : ChainsMake
chains_make p link_of s chain own target makes n = chain_makes p target s link_of chain own makes n

pub short_bounds_go : ShortBoundsGo
short_bounds_go p link_of s chain own target makes m lt = short_goes p target s link_of chain own makes m lt
