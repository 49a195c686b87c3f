-- Where the classes of a chain stand in the program, their constructors make an object that leads to the constants of its class.
use Rattle.std.proofs.Common.{◌≡◌, true, List, [], ◌∷◌, Option, Some, None, refl, ap, ◌∙◌}
use Rattle.std.specs.Prelude.{codes, ◌||◌}
use Rattle.array_code.specs.Words.{constants_name}
use Rattle.dispatch_laws.specs.States as ir
use Rattle.js_mean.specs.Meaning.{top_cell}
use Rattle.js_mean.specs.Objects.{with_property, no_properties}
use Rattle.js_mean.specs.States as js
use Rattle.js_tree.specs.Terms.{Name}
use Rattle.sj_mangling.specs.Bindings.{field_binding}
use Rattle.sj_mangling.specs.declared.bindings.FieldBinding.TheVariants.{Property}
use Rattle.agree_bodies.specs.Settings.{Place, SameState, HoldsConstants, TellsClass, link_of, some_constants}
use Rattle.agree_bodies.specs.Worlds.{World}
use Rattle.sj_trees.specs.declared.classes.FieldDef.{FieldDef}
use Rattle.agree_calls.specs.Chains.{ClassStands, ChainStands, extends_none, extends_one, MadeBy}
use Rattle.agree_calls.specs.Made.{zero_shown, with_fields, started, MakerStands, makes_top, makes_more}

-- the fields leave the way to the constants alone
constants_kept : (c : Name) (fs : List FieldDef) (own : Name → Option js.Value) → with_fields c fs own (codes "k") ≡ own (codes "k")
constants_kept c [] own = refl
constants_kept c (f ∷ fs) own = constants_kept c fs (with_property (field_binding Property c f.name) (zero_shown f.tpe) own)

module _ (p : Place) (w : World) (s : ir.State) (u : js.State) (same : SameState p w s u) where
  pub holds_constants : (c : Name) (superclass : Option Name) (fields : List FieldDef) → ClassStands p c superclass fields → HoldsConstants w.owned c (u.tops (p.home (some_constants c)) (constants_name c))
  holds_constants c superclass fields st = same.tops st.user (some_constants c) (ap (λ b. b || (p.has st.user).bases c) st.usable)

  pub maker_stands : (c : Name) (superclass : Option Name) (fields : List FieldDef) (st : ClassStands p c superclass fields) → MakerStands p.program (link_of p) u c superclass fields (holds_constants c superclass fields st).address
  maker_stands c superclass fields st = record {
    others = st.others;
    members_are = st.members_are;
    named = refl;
    const = true;
    constants_stand = ap (λ (o : Option Name). top_cell o (constants_name c) u) st.reached ∙ (holds_constants c superclass fields st).held;
  }

  pub tells : (c : Name) (superclass : Option Name) (fields : List FieldDef) (st : ClassStands p c superclass fields) (before : Name → Option js.Value) → TellsClass w c (started c fields (holds_constants c superclass fields st).address before)
  tells c superclass fields st before = let h = holds_constants c superclass fields st in record {
    address = h.address;
    constants = h.constants;
    held = constants_kept c fields (with_property (codes "k") (js.object h.address) before);
    owned = h.owned_there;
    marked = h.marked;
    known = h.known st.no_char;
  }

  -- the constructors of a chain that stands in the program
  abbrev pub made_by : (c : Name) (cs : List Name) → ChainStands p (c ∷ cs) → MadeBy p w u c cs
  made_by _ _ (extends_none c fields st) = record { own = started c fields (holds_constants c None fields st).address no_properties; makers = makes_top c fields (holds_constants c None fields st).address (maker_stands c None fields st); tells = tells c None fields st no_properties }
  made_by _ _ (extends_one c d ds fields st rest) = let r = made_by d ds rest in record { own = started c fields (holds_constants c (Some d) fields st).address r.own; makers = makes_more c d ds fields (holds_constants c (Some d) fields st).address r.own r.makers (maker_stands c (Some d) fields st); tells = tells c (Some d) fields st r.own }
