-- Constructors of a chain make one object.
use Rattle.std.proofs.Common.{◌≡◌, ℕ, zero, suc, ◌+◌, ◌<◌, Bool, true, false, List, [], ◌∷◌, ◌++◌, length, map, set, Option, Some, None, refl, ap, ◌∙◌, if◌then◌else◌, arith}
use Rattle.std.specs.Prelude.{codes}
use Rattle.js_tree.specs.Names.{is_same_text}
use Rattle.js_tree.specs.Terms.{Name, Member, Expression, this_use, name_use, assign_property}
use Rattle.js_tree.specs.Views.{statements_of}
use Rattle.outcomes.specs.Outcome.{Out, done, going, then_do}
use Rattle.sj_mangling.specs.Bindings.{field_binding}
use Rattle.sj_mangling.specs.declared.bindings.FieldBinding.TheVariants.{Property}
use Rattle.sj_trees.specs.declared.classes.FieldDef.{FieldDef}
use Rattle.sj_trees.specs.declared.types.IrType.{IrType}
use Rattle.sj_trees.specs.declared.types.IrType.TheVariants as Types
use Rattle.js_mean.specs.Files.{owner}
use Rattle.js_mean.specs.Objects.{no_properties, with_property, allocated, next_address, set_stored, set_property, with_heap}
use Rattle.js_mean.specs.States.{Value, object, class, ClassLink, Making, This, making, Cell, absent, holds, Stored, plain, Scope, State, ExpressionEnd, gives, StatementEnd, ends, normally, in_statement, next_statement, Program}
use Rattle.js_mean.specs.Meaning.{Low, below, binding, bind_declared, class_bindings, member_scope, or_outer, cell_value, top_cell, name_value, evaluate, execute, execute_all, unless_missing, with_expression, with_state, this_of, with_this, construct, construct_by, made}
use Rattle.array_code.specs.Pieces.{constructor_body, field_start, zero_of}
use Rattle.array_code.specs.Words.{class_name, constants_name}
use Rattle.agree_bodies.proofs.Heaps.{get-end, set-end}
use Rattle.agree_calls.specs.Made.{zero_shown, with_fields, started, MakerStands, Makers, makes_top, makes_more, ChainsMake, ShortBoundsGo}

longer : (a n : ℕ) → suc a + n ≡ suc (a + n)
longer a n = omega arith

one_more : (n : ℕ) → 1 + n ≡ suc n
one_more n = omega arith

zero_runs : (p : Program) (low : Low) (t : IrType) (sc : Scope) (s : State) → evaluate p low (zero_of t) sc s ≡ done (gives (zero_shown t) s)
zero_runs p low Types.Boolean sc s = refl
zero_runs p low Types.Char sc s = refl
zero_runs p low Types.Byte sc s = refl
zero_runs p low Types.Short sc s = refl
zero_runs p low Types.Int sc s = refl
zero_runs p low Types.Long sc s = refl
zero_runs p low Types.String sc s = refl
zero_runs p low Types.Undefined sc s = refl
zero_runs p low _ sc s = refl

property_set : (target : List ClassLink) (own : Name → Option Value) (s : State) (y : Name) (v : Value) → is_same_text y (codes "__proto__") ≡ false → set_property (object (next_address s)) y v (allocated target own s) ≡ Some (allocated target (with_property y v own) s)
property_set target own s y v plainly =
    ap (λ (o : Option Stored). set_stored (next_address s) o y v (allocated target own s)) (get-end s.heap (plain target own))
    ∙ ap (λ (b : Bool). if b then None else Some (with_heap (set (s.heap ++ plain target own ∷ []) (next_address s) (plain target (with_property y v own))) s)) plainly
    ∙ ap (λ (h : List Stored). Some (with_heap h s)) (set-end s.heap (plain target own) (plain target (with_property y v own)))

pub same_top : (o : Option Name) (y : Name) (target : List ClassLink) (own : Name → Option Value) (s : State) → top_cell o y (allocated target own s) ≡ top_cell o y s
same_top None y target own s = refl
same_top (Some f) y target own s = refl

-- a name that is bound at the top alone
pub name_at_top : (p : Program) (y : Name) (const : Bool) (v : Value) (sc : Scope) (s : State) → sc.bindings y ≡ absent → top_cell (owner p sc.file y) y s ≡ holds const v → name_value p y sc s ≡ done (gives v s)
name_at_top p y const v sc s free held = ap (λ (cell : Cell). cell_value (or_outer cell (top_cell (owner p sc.file y) y s)) s) free ∙ ap (λ (cell : Cell). cell_value cell s) held

-- what sets properties declares nothing
fields_declare : (c : Name) (fs : List FieldDef) (bs : Name → Cell) → bind_declared (statements_of (map (field_start c) fs)) bs ≡ bs
fields_declare c [] bs = refl
fields_declare c (f ∷ fs) bs = fields_declare c fs bs

body_declares : (c : Name) (superclass : Option Name) (fs : List FieldDef) (bs : Name → Cell) → bind_declared (statements_of (constructor_body c superclass fs)) bs ≡ bs
body_declares c None fs bs = fields_declare c fs bs
body_declares c (Some d) fs bs = fields_declare c fs bs

module _ (p : Program) (target : List ClassLink) (s : State) where
  abbrev pub at : (Name → Option Value) → State
  at own = allocated target own s

  abbrev pub this_object : Value
  this_object = object (next_address s)

  -- one property of the object that is made
  pub sets : (low : Low) (sc : Scope) (m : Making) (y : Name) (e : Expression) (v : Value) (own : Name → Option Value) → is_same_text y (codes "__proto__") ≡ false → sc.this_value ≡ making m (Some this_object) → evaluate p low e sc (at own) ≡ done (gives v (at own)) → execute p low (assign_property this_use y e) sc (at own) ≡ done (ends normally sc (at (with_property y v own)))
  sets low sc m y e v own plainly this given =
      ap (λ (t : This). then_do (this_of t (at own)) (in_statement sc (λ u. unless_missing u (with_expression p low e (λ w sc s. with_state (set_property u y w s) sc s)) sc))) this
      ∙ ap (λ (o : Out ExpressionEnd). then_do o (in_statement sc (λ w s. with_state (set_property this_object y w s) sc s))) given
      ∙ ap (λ (o : Option State). with_state o sc (at own)) (property_set target own s y v plainly)

  fields_set : (low : Low) (sc : Scope) (m : Making) (c : Name) (fs : List FieldDef) (own : Name → Option Value) → sc.this_value ≡ making m (Some this_object) → execute_all p low (statements_of (map (field_start c) fs)) sc (at own) ≡ done (ends normally sc (at (with_fields c fs own)))
  fields_set low sc m c [] own this = refl
  fields_set low sc m c (f ∷ fs) own this =
      ap (λ (o : Out StatementEnd). then_do o (next_statement (execute_all p low (statements_of (map (field_start c) fs))))) (sets low sc m (field_binding Property c f.name) (zero_of f.tpe) (zero_shown f.tpe) own refl this (zero_runs p low f.tpe sc (at own)))
      ∙ fields_set low sc m c fs (with_property (field_binding Property c f.name) (zero_shown f.tpe) own) this

  -- the constants, and then the fields
  starts : (low : Low) (sc : Scope) (m : Making) (c : Name) (fs : List FieldDef) (k : ℕ) (const : Bool) (own : Name → Option Value) → sc.this_value ≡ making m (Some this_object) → sc.bindings (constants_name c) ≡ absent → top_cell (owner p sc.file (constants_name c)) (constants_name c) s ≡ holds const (object k) →
      execute_all p low (statements_of (constructor_body c None fs)) sc (at own) ≡ done (ends normally sc (at (started c fs k own)))
  starts low sc m c fs k const own this free top =
      ap (λ (o : Out StatementEnd). then_do o (next_statement (execute_all p low (statements_of (map (field_start c) fs))))) (sets low sc m (codes "k") (name_use (constants_name c)) (object k) own refl this (name_at_top p (constants_name c) const (object k) sc (at own) free (same_top (owner p sc.file (constants_name c)) (constants_name c) target own s ∙ top)))
      ∙ fields_set low sc m c fs (with_property (codes "k") (object k) own) this

  module _ (link_of : Name → ClassLink) where
    constants_free : (c : Name) (superclass : Option Name) (fs : List FieldDef) (ls : List ClassLink) → (link_of c).name ≡ class_name c → bind_declared (statements_of (constructor_body c superclass fs)) (class_bindings (link_of c) ls) (constants_name c) ≡ absent
    constants_free c superclass fs ls named = ap (λ (bs : Name → Cell). bs (constants_name c)) (body_declares c superclass fs (class_bindings (link_of c) ls)) ∙ ap (λ (y : Name). binding y (holds true (class (link_of c ∷ ls))) (λ z. absent) (constants_name c)) named

    abbrev result : (Name → Option Value) → Out ExpressionEnd
    result own = done (gives this_object (at own))

    abbrev maker : List ClassLink → Making
    maker ls = record { above = ls; target = target; handed = [] }

    abbrev own_scope : Name → List ClassLink → This → Option Name → List FieldDef → Scope
    own_scope c ls this superclass fs = member_scope (link_of c) ls this (record { parameters = []; body = statements_of (constructor_body c superclass fs) }) []

    -- the constructor of a class that extends none
    top_makes : (c : Name) (fs : List FieldDef) (k : ℕ) (n : ℕ) → MakerStands p link_of s c None fs k → construct p (below p (suc n)) (link_of c ∷ []) target [] s ≡ result (started c fs k no_properties)
    top_makes c fs k n st =
        ap (λ (o : Option (List Member)). construct_by (below p (suc n)) (link_of c) [] o target [] s) st.members_are
        ∙ ap (λ (o : Out StatementEnd). then_do o made) (starts (below p n) (own_scope c [] (making (maker []) (Some this_object)) None fs) (maker []) c fs k st.const no_properties refl (constants_free c None fs [] st.named) st.constants_stand)

    -- what is done behind the class that it extends
    abbrev behind_super : Name → Name → List Name → List FieldDef → ℕ → Out ExpressionEnd → Out ExpressionEnd
    behind_super c d ds fs n o = then_do (then_do (then_do o (with_this (maker (link_of d ∷ map link_of ds)) None (own_scope c (link_of d ∷ map link_of ds) (making (maker (link_of d ∷ map link_of ds)) None) (Some d) fs))) (next_statement (execute_all p (below p n) (statements_of (constructor_body c None fs))))) made

    -- and of one that extends another, which is made first
    more_makes : (c d : Name) (ds : List Name) (fs : List FieldDef) (k : ℕ) (before : Name → Option Value) (n : ℕ) → MakerStands p link_of s c (Some d) fs k → construct p (below p n) (link_of d ∷ map link_of ds) target [] s ≡ result before → construct p (below p (suc n)) (link_of c ∷ link_of d ∷ map link_of ds) target [] s ≡ result (started c fs k before)
    more_makes c d ds fs k before n st below_made =
        ap (λ (o : Option (List Member)). construct_by (below p (suc n)) (link_of c) (link_of d ∷ map link_of ds) o target [] s) st.members_are
        ∙ ap (behind_super c d ds fs n) below_made
        ∙ ap (λ (o : Out StatementEnd). then_do o made) (starts (below p n) (own_scope c (link_of d ∷ map link_of ds) (making (maker (link_of d ∷ map link_of ds)) (Some this_object)) (Some d) fs) (maker (link_of d ∷ map link_of ds)) c fs k st.const before refl (constants_free c (Some d) fs (link_of d ∷ map link_of ds) st.named) st.constants_stand)

    chain_makes : (chain : List Name) (own : Name → Option Value) → Makers p link_of s chain own → (n : ℕ) → construct p (below p (length chain + n)) (map link_of chain) target [] s ≡ result own
    chain_makes _ _ (makes_top c fs k st) n = ap (λ (i : ℕ). construct p (below p i) (link_of c ∷ []) target [] s) (one_more n) ∙ top_makes c fs k n st
    chain_makes _ _ (makes_more c d ds fs k before rest st) n = ap (λ (i : ℕ). construct p (below p i) (link_of c ∷ link_of d ∷ map link_of ds) target [] s) (longer (length (d ∷ ds)) n) ∙ more_makes c d ds fs k before (length (d ∷ ds) + n) st (chain_makes (d ∷ ds) before rest n)

    -- with fewer units it is going
    short_goes : (chain : List Name) (own : Name → Option Value) → Makers p link_of s chain own → (m : ℕ) → m < length chain → construct p (below p m) (map link_of chain) target [] s ≡ going
    short_goes _ _ (makes_top c fs k st) zero lt = ap (λ (o : Option (List Member)). construct_by (below p 0) (link_of c) [] o target [] s) st.members_are
    short_goes _ _ (makes_top c fs k st) (suc m) lt = absurd (omega (arith, lt))
    short_goes _ _ (makes_more c d ds fs k before rest st) zero lt = ap (λ (o : Option (List Member)). construct_by (below p 0) (link_of c) (link_of d ∷ map link_of ds) o target [] s) st.members_are
    short_goes _ _ (makes_more c d ds fs k before rest st) (suc m) lt =
        ap (λ (o : Option (List Member)). construct_by (below p (suc m)) (link_of c) (link_of d ∷ map link_of ds) o target [] s) st.members_are
        ∙ ap (behind_super c d ds fs m) (short_goes (d ∷ ds) before rest m (omega (arith, lt)))

pub chains_make : ChainsMake
chains_make p link_of s chain own target makers n = chain_makes p target s link_of chain own makers n

pub short_bounds_go : ShortBoundsGo
short_bounds_go p link_of s chain own target makers m lt = short_goes p target s link_of chain own makers m lt
