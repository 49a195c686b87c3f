-- A new object of the emitted code stands for one of the IR, where the classes of its chain stand in the program.
use Rattle.std.proofs.Common.{◌≡◌, Bool, true, false, List, [], ◌∷◌, Option, Some, None, refl, sym, ap, ◌∙◌, subst, if◌then◌else◌, arith}
use Rattle.std.specs.List.{list_any}
use Rattle.std.specs.Prelude.{pos, codes}
use Rattle.dispatch_laws.specs.Dispatch.{chain_of}
use Rattle.dispatch_laws.specs.States as ir
use Rattle.dispatch_laws.specs.World as ir_world
use Rattle.js_mean.specs.Objects.{no_properties, with_property}
use Rattle.js_mean.specs.States as js
use Rattle.js_tree.specs.Terms.{Name}
use Rattle.sj_mangling.specs.Bindings.{field_binding}
use Rattle.sj_mangling.specs.declared.bindings.FieldBinding.TheVariants.{Property}
use Rattle.sj_names.specs.Same.{is_same_text}
use Rattle.agree_bodies.specs.Settings.{Place, IsField, FieldsDiffer, HasNoEntries, SameState, SameField, same_field, no_field, same_object, link_of}
use Rattle.agree_bodies.proofs.Objects.{no_entries_with}
use Rattle.agree_bodies.specs.Worlds.{World, SameValue, same_undefined, same_null, same_boolean, same_char, same_number, same_long, same_text}
use Rattle.sj_trees.specs.declared.classes.FieldDef.{FieldDef}
use Rattle.sj_trees.specs.declared.types.IrType.{IrType}
use Rattle.sj_trees.specs.declared.types.IrType.TheVariants as Types
use Rattle.agree_calls.specs.Chains.{ChainStands, MadeBy, ChainFields, BeginsAtZero}
use Rattle.agree_calls.specs.Made.{zero_shown, with_fields, Makers, makes_top, makes_more}
use Rattle.agree_calls.specs.Worlds.{Stands}
use Rattle.agree_calls.proofs.Chains.{made_by}
use Rattle.agree_calls.proofs.Zeros.{zeros}

-- the zero of a type of which there are values
pub zero_alike : (w : World) (t : IrType) → (t ≡ Types.Nothing → ⊥) → SameValue w t (ir_world.zero_of t) (zero_shown t)
zero_alike w Types.Boolean h = record { stands = same_boolean false; suits = refl; shaped = tt }
zero_alike w Types.Char h = record { stands = same_char refl 0 (omega arith); suits = refl; shaped = tt }
zero_alike w Types.Byte h = record { stands = same_number (pos 0) (record { sfits = omega arith }); suits = refl; shaped = tt }
zero_alike w Types.Short h = record { stands = same_number (pos 0) (record { sfits = omega arith }); suits = refl; shaped = tt }
zero_alike w Types.Int h = record { stands = same_number (pos 0) (record { sfits = omega arith }); suits = refl; shaped = tt }
zero_alike w Types.Long h = record { stands = same_long (pos 0) (record { sfits = omega arith }); suits = refl; shaped = tt }
zero_alike w Types.String h = record { stands = same_text []; suits = refl; shaped = tt }
zero_alike w Types.Undefined h = record { stands = same_undefined; suits = refl; shaped = tt }
zero_alike w Types.Nothing h = absurd (h refl)
zero_alike w Types.Any h = record { stands = same_null; suits = refl; shaped = tt }
zero_alike w (Types.Class c) h = record { stands = same_null; suits = refl; shaped = tt }
zero_alike w Types.Null h = record { stands = same_null; suits = refl; shaped = tt }
zero_alike w (Types.Array r) h = record { stands = same_null; suits = refl; shaped = tt }
zero_alike w Types.NoType h = record { stands = same_null; suits = refl; shaped = tt }

-- what constructors make has no entry of a method
with_fields_bare : (c : Name) (fs : List FieldDef) (own : Name → Option js.Value) → HasNoEntries own → HasNoEntries (with_fields c fs own)
with_fields_bare c [] own bare = bare
with_fields_bare c (f ∷ fs) own bare = with_fields_bare c fs (with_property (field_binding Property c f.name) (zero_shown f.tpe) own) (no_entries_with c f.name (zero_shown f.tpe) own bare)

made_bare : (p : js.Program) (link : Name → js.ClassLink) (u : js.State) (cs : List Name) (own : Name → Option js.Value) → Makers p link u cs own → HasNoEntries own
made_bare p link u _ _ (makes_top c fs k st) = with_fields_bare c fs (with_property (codes "k") (js.object k) no_properties) (λ m. refl)
made_bare p link u _ _ (makes_more c d ds fs k before rest st) = with_fields_bare c fs (with_property (codes "k") (js.object k) before) (made_bare p link u (d ∷ ds) before rest)

-- `new` of the class can be told in each state
pub stands_there : (p : Place) → FieldsDiffer p → ((d g : Name) (t : IrType) → IsField p.classes d g t → BeginsAtZero p d g t) → (c : Name) (cs : List Name) (st : ChainStands p (c ∷ cs)) → ChainFields p (c ∷ cs) st → chain_of p.classes c ≡ c ∷ cs → (w : World) (s : ir.State) (u : js.State) → SameState p w s u → Stands p c w u
stands_there p differ begins c cs st fields chain w s u same = record {
  own = r.own;
  makers = subst (λ ds. Makers p.program (link_of p) u ds r.own) (sym chain) r.makers;
  shape = same_object c (ir_world.new_fields p.classes c) r.own r.tells (made_bare p.program (link_of p) u (c ∷ cs) r.own r.makers) (λ d g t i. go d g t i (list_any (is_same_text d) (chain_of p.classes c)) refl);
}
  where
    r : MadeBy p w u c cs
    r = made_by p w s u same c cs st

    go : (d g : Name) (t : IrType) → IsField p.classes d g t → (b : Bool) → list_any (is_same_text d) (chain_of p.classes c) ≡ b → SameField w t (if b then ir_world.zeros_in (ir_world.class_of p.classes d) g else None) (r.own (field_binding Property d g))
    go d g t i false e = no_field (r.own (field_binding Property d g))
    go d g t i true e = subst (λ o. SameField w t o (r.own (field_binding Property d g))) (sym (begins d g t i).zero) (subst (λ q. SameField w t (Some (ir_world.zero_of t)) q) (sym (zeros p differ w s u same c cs st fields d g t i (ap (list_any (is_same_text d)) (sym chain) ∙ e))) (same_field (ir_world.zero_of t) (zero_shown t) (zero_alike w t (begins d g t i).values)))
