-- `new $C` of a char: where the class stands in the program, it makes an object that holds the char.
use Rattle.std.specs.Prelude.{◌≤◌, ◌<◌, ◌^◌, codes, pos}
use Rattle.std.proofs.Common.{◌≡◌, ℕ, zero, suc, Bool, true, false, List, [], ◌∷◌, Option, Some, refl, sym, ap, ◌∙◌, subst, arith}
use Rattle.array_code.specs.Helpers.{helper_name, box_constructor, set_from}
use Rattle.array_code.specs.HelperVariants.{BoxedChar, ConstantsOf}
use Rattle.array_code.specs.KindVariants as kinds
use Rattle.dispatch_laws.specs.States as ir
use Rattle.js_mean.specs.Classes.{members_of}
use Rattle.js_mean.specs.Files.{owner}
use Rattle.js_mean.specs.Meaning as js_meaning
use Rattle.js_mean.specs.Objects.{no_properties, with_property, allocated, next_address, with_stored}
use Rattle.js_mean.specs.States as js
use Rattle.js_tree.specs.Terms.{Name, Member, name_use, Statements}
use Rattle.js_tree.specs.Views.{statements_of}
use Rattle.outcomes.specs.Agreement.{Direction, forward, backward, Sim}
use Rattle.outcomes.specs.Outcome.{Out, done, going, then_do}
use Rattle.outcomes.proofs.Simulation.{sim_done, sim_going}
use Rattle.agree_bodies.specs.Coercions.{is_char}
use Rattle.agree_bodies.specs.Settings.{Place, Setting, a_helper, box_link, HoldsKindConstants, SameState, Valued, valued, BoxesAlike}
use Rattle.agree_bodies.specs.AgreePlainTreesStanding.{suits}
use Rattle.agree_bodies.proofs.Boxes.{more_owned, state-owns, grows-owned, owned-there}
use Rattle.agree_bodies.proofs.Heaps.{owned-still}
use Rattle.agree_bodies.proofs.Worlds.{World, IsBox, same_box}
use Rattle.sj_trees.specs.declared.types.IrType.{IrType}
use Rattle.agree_calls.specs.Helpers.{BoxStands, box_properties}
use Rattle.agree_calls.proofs.Making.{same_top, name_at_top, sets}

module _ (p : js.Program) (file : Name) (members_are : members_of p (record { file = file; name = helper_name BoxedChar }) ≡ Some (box_constructor ∷ [])) where
  abbrev link : js.ClassLink
  link = record { file = file; name = helper_name BoxedChar }

  abbrev sets_char : Statements
  sets_char = statements_of (set_from (codes "c") (codes "c") ∷ [])

  module _ (target : List js.ClassLink) (v : js.Value) (s : js.State) where
    abbrev maker : js.Making
    maker = record { above = []; target = target; handed = [] }

    abbrev scope : js.Scope
    scope = js_meaning.member_scope link [] (js.making maker (Some (js.object (next_address s)))) (record { parameters = codes "c" ∷ []; body = statements_of (set_from (codes "k") (codes "$kC") ∷ set_from (codes "c") (codes "c") ∷ []) }) (v ∷ [])

    -- within a unit or more
    pub box_made : (k : ℕ) (const : Bool) (n : ℕ) → js_meaning.top_cell (owner p file (helper_name (ConstantsOf kinds.Char))) (helper_name (ConstantsOf kinds.Char)) s ≡ js.holds const (js.object k) → js_meaning.construct p (js_meaning.below p (suc n)) (link ∷ []) target (v ∷ []) s ≡ done (js.gives (js.object (next_address s)) (allocated target (box_properties k v) s))
    box_made k const n stand =
        ap (λ (o : Option (List Member)). js_meaning.construct_by (js_meaning.below p (suc n)) link [] o target (v ∷ []) s) members_are
        ∙ ap (λ (o : Out js.StatementEnd). then_do (then_do o (js.next_statement (js_meaning.execute_all p (js_meaning.below p n) sets_char))) js_meaning.made) (sets p target s (js_meaning.below p n) scope maker (codes "k") (name_use (codes "$kC")) (js.object k) no_properties refl refl (name_at_top p (codes "$kC") const (js.object k) scope (allocated target no_properties s) refl (same_top (owner p file (codes "$kC")) (codes "$kC") target no_properties s ∙ stand)))
        ∙ ap (λ (o : Out js.StatementEnd). then_do (then_do o (js.next_statement (js_meaning.execute_all p (js_meaning.below p n) (statements_of [])))) js_meaning.made) (sets p target s (js_meaning.below p n) scope maker (codes "c") (name_use (codes "c")) v (with_property (codes "k") (js.object k) no_properties) refl refl refl)

    -- without one it is going
    pub box_short : js_meaning.construct p (js_meaning.below p zero) (link ∷ []) target (v ∷ []) s ≡ going
    box_short = ap (λ (o : Option (List Member)). js_meaning.construct_by (js_meaning.below p zero) link [] o target (v ∷ []) s) members_are

abbrev Boxed : Direction → Place → IrType → ℕ → World → ir.Env → ir.State → Out js.ExpressionEnd → Type 0
Boxed d p t c w env s o = Sim d (Valued p w env t) (done (ir.ends (ir.gives (ir.char c)) env s)) o

abbrev makes_box : Place → js_meaning.Low → ℕ → js.State → Out js.ExpressionEnd
makes_box p low c u = js_meaning.construct p.program low (box_link p ∷ []) (box_link p ∷ []) (js.number (pos c) ∷ []) u

module _ (p : Place) (stands : BoxStands p) where
  made_whole : (d : Direction) (t : IrType) (c : ℕ) (w : World) (env : ir.Env) (s : ir.State) (u : js.State) (n : ℕ) → is_char t ≡ false → suits t (ir.char c) ≡ true → c < 2 ^ 16 → SameState p w s u → Boxed d p t c w env s (makes_box p (js_meaning.below p.program (suc n)) c u)
  made_whole d t c w env s u n other suited below same = subst (Boxed d p t c w env s) (sym (box_made p.program (p.home (a_helper BoxedChar)) stands.members_are (box_link p ∷ []) (js.number (pos c)) u held.address true n there)) (sim_done d (Valued p w env t) (ir.ends (ir.gives (ir.char c)) env s) (js.gives (js.object (next_address u)) (with_stored box u)) (valued (more_owned p w s u same box) (ir.char c) (js.object (next_address u)) s (with_stored box u) (grows-owned p w s u same box) (record { stands = same_box other c (next_address u) below holds_it; suits = suited; shaped = tt }) (state-owns p w s u same box (λ constants e. cc))))
    where
      held : HoldsKindConstants w.owned kinds.Char (u.tops (p.home (a_helper (ConstantsOf kinds.Char))) (helper_name (ConstantsOf kinds.Char)))
      held = same.tops stands.user (a_helper (ConstantsOf kinds.Char)) stands.usable

      there : js_meaning.top_cell (owner p.program (p.home (a_helper BoxedChar)) (helper_name (ConstantsOf kinds.Char))) (helper_name (ConstantsOf kinds.Char)) u ≡ js.holds true (js.object held.address)
      there = ap (λ (o : Option Name). js_meaning.top_cell o (helper_name (ConstantsOf kinds.Char)) u) stands.reached ∙ held.held

      box : js.Stored
      box = js.plain (box_link p ∷ []) (box_properties held.address (js.number (pos c)))

      holds_it : IsBox (more_owned p w s u same box) c (next_address u)
      holds_it = record {
        properties = box_properties held.address (js.number (pos c));
        address = held.address;
        constants = held.constants;
        owned = owned-there p w s u same box ∙ ap (λ ls. Some (js.plain ls (box_properties held.address (js.number (pos c))))) (sym same.heaps.boxes);
        char = refl;
        held = refl;
        constants_owned = owned-still p w s.heap u.heap same.heaps box held.address (js.plain [] held.constants) held.owned_there;
        marked = held.marked;
        bare = λ m. refl;
      }

  -- by the forward half within a unit or more, by the backward half within any
  made_alike : (d : Direction) (n : ℕ) → (d ≡ forward → 1 ≤ n) → (t : IrType) (c : ℕ) (w : World) (env : ir.Env) (s : ir.State) (u : js.State) → is_char t ≡ false → suits t (ir.char c) ≡ true → c < 2 ^ 16 → SameState p w s u → Boxed d p t c w env s (makes_box p (js_meaning.below p.program n) c u)
  made_alike d (suc n) enough t c w env s u other suited below same = made_whole d t c w env s u n other suited below same
  made_alike forward zero enough t c w env s u other suited below same = let l = enough refl in absurd (omega (arith, l))
  made_alike backward zero enough t c w env s u other suited below same = subst (Boxed backward p t c w env s) (sym (box_short p.program (p.home (a_helper BoxedChar)) stands.members_are (box_link p ∷ []) (js.number (pos c)) u)) (sim_going (Valued p w env t) (done (ir.ends (ir.gives (ir.char c)) env s)))

pub boxes_alike : (z : Setting) (n : ℕ) → BoxStands z.place → z.js_low ≡ js_meaning.below z.place.program n → (z.direction ≡ forward → 1 ≤ n) → BoxesAlike z
boxes_alike z n stands low enough t c w env s u other suited below same = subst (λ l. Boxed z.direction z.place t c w env s (makes_box z.place l c u)) (sym low) (made_alike z.place stands z.direction n enough t c w env s u other suited below same)
