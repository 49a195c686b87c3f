-- Objects that hold chars: the emitted code makes one for itself, and where a tree is coerced, what it comes to stands at the type that is expected.
use Rattle.std.proofs.lemmas.Bool.{eq-eqb, and_parts, not-true}
use Rattle.std.proofs.Common.{◌≡◌, ℕ, Bool, true, false, ◌&&◌, inl, inr, List, [], ◌∷◌, Some, Option, refl, sym, ap, subst, if◌then◌else◌}
use Rattle.std.specs.Prelude.{not, pos, ◌||◌, codes, nat_eq}
use Rattle.std.specs.Cmp.Lexicographic.{pointwise}
use Rattle.outcomes.specs.Outcome.{Out, done, then_do}
use Rattle.outcomes.specs.Agreement.{Sim}
use Rattle.outcomes.proofs.Sequence.{then_do-right}
use Rattle.outcomes.proofs.Simulation.{sim_done, sim_then, sim_weaken}
use Rattle.agree_body_rules.proofs.Fitting.{fits-sub}
use Rattle.agree_body_rules.proofs.InWorld.{in_world}
use Rattle.agree_body_rules.proofs.RulesGive.{ArgumentsFit}
use Rattle.agree_body_rules.proofs.Standing.{coerced-same, fits-same}
use Rattle.agree_body_rules.specs.Standing.{is_bare, Fits, FitAll, types_referred, MayStand}
use Rattle.agree_body_rules.specs.Subtyping.{IsSubtyping}
use Rattle.agree_body_rules.specs.Built.{Usable, can_box}
use Rattle.sj_emit_help_spec.specs.Helpers.{helper_name}
use Rattle.sj_emit_help_spec.specs.declared.kinds.Helper.TheVariants.{BoxedChar, ConstantsOf}
use Rattle.ir_mean.specs.States as ir
use Rattle.js_mean.specs.Meaning as js_meaning
use Rattle.js_mean.specs.Objects as js_objects
use Rattle.js_mean.specs.States as js
use Rattle.js_tree.specs.Terms.{Name}
use Rattle.sj_core.specs.Terms as core
use Rattle.agree_body_rules.specs.Coercions.{is_char, coerced, coerced_arguments, coerced_receiver}
use Rattle.agree_body_rules.specs.Desugar.{types_of}
use Rattle.sj_names.proofs.Same.{impossible}
use Rattle.sj_names.specs.declared.references.TypeRef.{TypeRef}
use Rattle.sj_trees.specs.Term.{Terms, no_terms, more_terms}
use Rattle.sj_trees.specs.TypeOf.{type_of_term}
use Rattle.sj_trees.specs.Types.{class_type, reference_type}
use Rattle.sj_trees.specs.declared.types.IrType.{IrType}
use Rattle.sj_trees.specs.declared.types.IrType.TheVariants.{Any, Char, Class}
use Rattle.ir_mean.specs.Known.{Classes}
use Rattle.ir_mean.specs.Laws.{IsPlain}
use Rattle.ir_mean.specs.Subtypes.{IsSub}
use Rattle.agree_plain_trees.specs.Settings.{Place, Setting, shown, usable, Top, a_static, a_cell, cell_name, a_helper, some_constants, TopHolds, top_name, box_link, SameState, Valued, valued, thrown, Based, Lawful, Inside, BoxesAlike, MayBox}
use Rattle.agree_plain_trees.specs.Standing.{suits, Takes}
use Rattle.agree_plain_trees.specs.Worlds.{with_owned}
use Rattle.agree_body_rules.specs.Templates.{static_name}
use Rattle.agree_plain_trees.proofs.Heaps.{holding-carry, owned-still, owns}
use Rattle.agree_plain_trees.proofs.Orders.{OperandAlike, OperandsAlike, no_operands, more_operands, text_of, valued-weaken, valued-fits}
use Rattle.agree_plain_trees.proofs.Standing.{suits_open}
use Rattle.agree_plain_trees.proofs.Told.{tells}
use Rattle.agree_plain_trees.proofs.Tops.{top_seen}
use Rattle.agree_plain_trees.proofs.Worlds.{World, Keeps, Grows, Stands, same_char, same_box}

-- what a binding at the top holds it holds where the emitted code has more for itself
pub top-carry : (p : Place) (owned more : ℕ → Option js.Stored) → ((a : ℕ) (o : js.Stored) → owned a ≡ Some o → more a ≡ Some o) → (t : Top) (cell : js.Cell) → TopHolds p owned t cell → TopHolds p more t cell
top-carry p owned more g (some_constants c) cell h = record { address = h.address; constants = h.constants; held = h.held; owned_there = g h.address (js.plain [] h.constants) h.owned_there; marked = h.marked; known = h.known }
top-carry p owned more g (a_helper (ConstantsOf k)) cell h = record { address = h.address; constants = h.constants; held = h.held; owned_there = g h.address (js.plain [] h.constants) h.owned_there; marked = h.marked }
top-carry p owned more g _ cell h = h

module _ (p : Place) (w : World) (s : ir.State) (u : js.State) (same : SameState p w s u) (o : js.Stored) where
  -- the world in which the emitted code has made this object for itself
  abbrev pub more_owned : World
  more_owned = with_owned (js_objects.next_address u) o w

  kept : Keeps w more_owned
  kept = record { places = λ i a e. e; arrays = λ i k e. e; owns = owned-still p w s.heap u.heap same.heaps o; boxes = refl }

  pub state-owns : ((constants : Name → Option js.Value) → o ≡ js.plain [] constants → ⊥) → SameState p more_owned s (js_objects.with_stored o u)
  state-owns classed = record { heaps = owns p w s.heap u.heap same.heaps o classed; tops = λ f t h. top-carry p w.owned more_owned.owned (owned-still p w s.heap u.heap same.heaps o) t (u.tops (p.home t) (top_name t)) (same.tops f t h); statics = λ f c n t h. holding-carry w more_owned t kept (s.statics c n) (u.tops (p.home (a_static c n t)) (static_name c n)) (same.statics f c n t h); cells = λ f c h. holding-carry w more_owned (class_type c) kept (Some (s.cells c)) (u.tops (p.home (a_cell c)) (cell_name c)) (same.cells f c h) }

  pub grows-owned : Grows w more_owned
  grows-owned = record { places = λ i a e. e; classes = λ i a c e k. k; arrays = λ i k e. e; owns = owned-still p w s.heap u.heap same.heaps o; pends = λ a b e. e; boxes = refl }

  pub owned-there : more_owned.owned (js_objects.next_address u) ≡ Some o
  owned-there = ap (λ b. if b then Some o else w.owned (js_objects.next_address u)) (eq-eqb (js_objects.next_address u) (js_objects.next_address u) refl)

char_type : (t : IrType) → is_char t ≡ true → t ≡ Char
char_type Char h = refl
char_type _ h = impossible h

-- where objects stand no raw char does
open-other : (t : IrType) → is_bare t ≡ false → is_char t ≡ false
open-other Char b = impossible (sym b)
open-other _ b = refl

-- a char becomes an object where objects stand, and `$C` is called
becomes-object : (expected own : IrType) → (is_char own ≡ true) × (is_bare expected ≡ false) → (is_char own && not (is_char expected)) ≡ true
becomes-object expected own h = λ i. h.0 i && not (open-other expected h.1 i)

boxed-is : (expected own : IrType) (e : core.Expression) → (is_char own ≡ true) × (is_bare expected ≡ false) → coerced expected own e ≡ core.boxed_char e
boxed-is expected own e h = ap (λ (b : Bool). if b then core.boxed_char e else e) (becomes-object expected own h)

module _ (z : Setting) (law : Based z) where
  -- `new $C` of a value
  abbrev boxes_it : js.Value → js.State → Out js.ExpressionEnd
  boxes_it x u = js_meaning.construct z.place.program z.js_low (box_link z.place ∷ []) (box_link z.place ∷ []) (x ∷ []) u

  char_boxed : BoxesAlike z → (t : IrType) → is_bare t ≡ false → (w y : World) (env : ir.Env) (s : ir.State) (u : js.State) → Grows w y → SameState z.place y s u → (v : ir.Value) (x : js.Value) → Stands y true v x → suits Char v ≡ true → Sim z.direction (Valued z.place w env t) (done (ir.ends (ir.gives v) env s)) (boxes_it x u)
  char_boxed boxes t wide w y env s u g same _ _ (same_char r c below) h = sim_weaken z.direction (Valued z.place y env t) (Valued z.place w env t) (done (ir.ends (ir.gives (ir.char c)) env s)) (boxes_it (js.number (pos c)) u) (λ a b. valued-weaken z w y env t a b g) (boxes t c y env s u (open-other t wide) (suits_open t c (ap not wide)) below same)
  char_boxed boxes t wide w y env s u g same _ _ (same_box r c a below b) h = impossible (sym r)
  char_boxed boxes t wide w y env s u g same _ _ _ h = impossible h

  -- `new $C(e)`, where objects stand
  boxed_alike : (usable z).helper (helper_name BoxedChar) ≡ true → BoxesAlike z → (t : IrType) → is_bare t ≡ false → (w : World) (env : ir.Env) (s : ir.State) (sc : js.Scope) (u : js.State) → Inside z.place z.code sc → SameState z.place w s u → (o : Out ir.Ended) (e : core.Expression) → Sim z.direction (Valued z.place w env Char) o (shown z e sc u) → Sim z.direction (Valued z.place w env t) o (shown z (core.boxed_char e) sc u)
  boxed_alike has boxes t wide w env s sc u inside same o e alike = subst (λ q. Sim z.direction (Valued z.place w env t) q (shown z (core.boxed_char e) sc u)) (then_do-right o) (subst (λ q. Sim z.direction (Valued z.place w env t) (then_do o done) q) (sym js_is) (sim_then z.direction (Valued z.place w env Char) (Valued z.place w env t) o (shown z e sc u) done (js.with_value boxes_it) alike each))
    where
      js_is : shown z (core.boxed_char e) sc u ≡ then_do (shown z e sc u) (js.with_value boxes_it)
      js_is = ap (λ q. then_do q (js.with_value (λ f. js_meaning.in_order (shown z e ∷ []) (js_meaning.construct_value z.place.program z.js_low f) sc))) (top_seen z law (a_helper BoxedChar) (js.class (box_link z.place ∷ [])) sc u has inside (same.tops z.code.file (a_helper BoxedChar) has))

      each : (a : ir.Ended) (b : js.ExpressionEnd) → Valued z.place w env Char a b → Sim z.direction (Valued z.place w env t) (done a) (js.with_value boxes_it b)
      each _ _ (valued y v x k q g a states) = char_boxed boxes t wide w y env k q g states v x a.stands a.suits
      each _ _ (thrown y v x k q g a states) = sim_done z.direction (Valued z.place w env t) (ir.ends (ir.throws v) env k) (js.throws x q) (thrown y v x k q g a states)

  -- a tree and its expression are alike at its own type: then its expression as it is coerced is alike to it at the type that is expected
  pub coerced_alike : (expected own : IrType) → Takes expected own → MayBox z expected own → (w : World) (env : ir.Env) (s : ir.State) (sc : js.Scope) (u : js.State) → Inside z.place z.code sc → SameState z.place w s u → (o : Out ir.Ended) (e : core.Expression) → Sim z.direction (Valued z.place w env own) o (shown z e sc u) → Sim z.direction (Valued z.place w env expected) o (shown z (coerced expected own e) sc u)
  coerced_alike expected own (inl f) may w env s sc u inside same o e alike = subst (λ c. Sim z.direction (Valued z.place w env expected) o (shown z c sc u)) (sym (coerced-same expected own e f)) (sim_weaken z.direction (Valued z.place w env own) (Valued z.place w env expected) o (shown z e sc u) (λ a b. valued-fits z w env expected own a b f) alike)
  coerced_alike expected own (inr h) may w env s sc u inside same o e alike = subst (λ x. Sim z.direction (Valued z.place w env expected) o (shown z x sc u)) (sym (boxed-is expected own e h)) (boxed_alike has.0 has.1 expected h.1 w env s sc u inside same o e (subst (λ t. Sim z.direction (Valued z.place w env t) o (shown z e sc u)) (char_type own h.0) alike))
    where
      has : ((usable z).helper (helper_name BoxedChar) ≡ true) × BoxesAlike z
      has = may (becomes-object expected own h)

  -- the same of an operand, in each state
  pub operand_coerced : (expected own : IrType) → Takes expected own → MayBox z expected own → (from : World) (env : ir.Env) (sc : js.Scope) → Inside z.place z.code sc → (r : ir.Run) (e : core.Expression) → OperandAlike z from env sc own r (shown z e) → OperandAlike z from env sc expected r (shown z (coerced expected own e))
  operand_coerced expected own takes may from env sc inside r e alike w s u g same = coerced_alike expected own takes may w env s sc u inside same (r env s) e (alike w s u g same)

-- the type at which a tree stands as it is coerced: of a char that becomes an object the one that is expected, and else its own
abbrev pub stood : (expected own : IrType) → Takes expected own → IrType
stood expected own (inl f) = own
stood expected own (inr h) = expected

pub stood-fits : (expected own : IrType) (h : Takes expected own) → Fits expected (stood expected own h)
stood-fits expected own (inl f) = f
stood-fits expected own (inr h) = fits-same expected

-- any type may stand where any is expected
pub takes-any : (own : IrType) → Takes Any own
takes-any Char = inr (refl, refl)
takes-any own = inl refl

-- arguments are as many as the parameters, and may stand for them
abbrev pub TakeAll : List IrType → List IrType → Type 0
TakeAll [] [] = Unit {0}
TakeAll (t ∷ ts) (own ∷ owns) = Takes t own × TakeAll ts owns
TakeAll _ _ = ⊥

abbrev pub all_stood : (ts owns : List IrType) → TakeAll ts owns → List IrType
all_stood [] [] h = []
all_stood (t ∷ ts) (own ∷ owns) h = stood t own h.0 ∷ all_stood ts owns h.1
all_stood [] (own ∷ owns) h = absurd h
all_stood (t ∷ ts) [] h = absurd h

abbrev pub MayBoxAll : Setting → List IrType → List IrType → Type 0
MayBoxAll z (t ∷ ts) (own ∷ owns) = MayBox z t own × MayBoxAll z ts owns
MayBoxAll z _ _ = Unit {0}

pub all-stood-fit : (ts owns : List IrType) (h : TakeAll ts owns) → FitAll ts (all_stood ts owns h)
all-stood-fit [] [] h = tt
all-stood-fit (t ∷ ts) (own ∷ owns) h = (stood-fits t own h.0, all-stood-fit ts owns h.1)
all-stood-fit [] (own ∷ owns) h = absurd h
all-stood-fit (t ∷ ts) [] h = absurd h

module _ (z : Setting) (law : Based z) (from : World) (env : ir.Env) (sc : js.Scope) (inside : Inside z.place z.code sc) where
  pub stood_alike : (expected own : IrType) (h : Takes expected own) → MayBox z expected own → (r : ir.Run) (e : core.Expression) → OperandAlike z from env sc own r (shown z e) → OperandAlike z from env sc (stood expected own h) r (shown z (coerced expected own e))
  stood_alike expected own (inl f) may r e alike = subst (λ x. OperandAlike z from env sc own r (shown z x)) (sym (coerced-same expected own e f)) alike
  stood_alike expected own (inr h) may r e alike = operand_coerced z law expected own (inr h) may from env sc inside r e alike

  pub stood_told : (expected own : IrType) (h : Takes expected own) (e : core.Expression) → tells own (text_of z e) ≡ true → tells (stood expected own h) (text_of z (coerced expected own e)) ≡ true
  stood_told expected own (inl f) e told = subst (λ x. tells own (text_of z x) ≡ true) (sym (coerced-same expected own e f)) told
  stood_told expected own (inr h) e told = subst (λ x. tells expected (text_of z x) ≡ true) (sym (boxed-is expected own e h)) refl

  -- one operand as it is coerced, and two
  pub operand_stood : (expected own : IrType) (h : Takes expected own) → MayBox z expected own → (r : ir.Run) (e : core.Expression) → OperandsAlike z from env sc (own ∷ []) (r ∷ []) (e ∷ []) → OperandsAlike z from env sc (stood expected own h ∷ []) (r ∷ []) (coerced expected own e ∷ [])
  operand_stood expected _ h may _ _ (more_operands own r e _ _ _ told one no_operands) = more_operands (stood expected own h) r (coerced expected own e) [] [] [] (stood_told expected own h e told) (stood_alike expected own h may r e one) no_operands

  pub both_stood : (expected left right : IrType) (f : Takes expected left) (g : Takes expected right) → MayBox z expected left → MayBox z expected right → (r q : ir.Run) (e d : core.Expression) → OperandsAlike z from env sc (left ∷ right ∷ []) (r ∷ q ∷ []) (e ∷ d ∷ []) → OperandsAlike z from env sc (stood expected left f ∷ stood expected right g ∷ []) (r ∷ q ∷ []) (coerced expected left e ∷ coerced expected right d ∷ [])
  both_stood expected _ right f g may also _ q _ d (more_operands left r e _ _ _ told one others) = more_operands (stood expected left f) r (coerced expected left e) (stood expected right g ∷ []) (q ∷ []) (coerced expected right d ∷ []) (stood_told expected left f e told) (stood_alike expected left f may r e one) (operand_stood expected right g also q d others)

  -- arguments as they are coerced, each at a type that fits that of its parameter
  pub operands_coerced : (rs : List TypeRef) (owns : List IrType) (runs : List ir.Run) (es : List core.Expression) (h : TakeAll (types_referred rs) owns) → MayBoxAll z (types_referred rs) owns → OperandsAlike z from env sc owns runs es → OperandsAlike z from env sc (all_stood (types_referred rs) owns h) runs (coerced_arguments rs owns es)
  operands_coerced [] _ _ _ h may no_operands = no_operands
  operands_coerced [] _ _ _ h may (more_operands own run e owns runs es told one others) = absurd h
  operands_coerced (r ∷ rs) _ _ _ h may no_operands = absurd h
  operands_coerced (r ∷ rs) _ _ _ h may (more_operands own run e owns runs es told one others) = more_operands (stood (reference_type r) own h.0) run (coerced (reference_type r) own e) (all_stood (types_referred rs) owns h.1) runs (coerced_arguments rs owns es) (stood_told (reference_type r) own h.0 e told) (stood_alike (reference_type r) own h.0 may.0 run e one) (operands_coerced rs owns runs es h.1 may.1 others)

-- a tree of a subtype may stand where the type is expected, whether it is a char or not
pub takes-below : (w : Classes) → IsSubtyping (IsSub w) → (expected own : IrType) → IsSub w own expected → Takes expected own
takes-below w law expected own f = go (is_char own && not (is_char expected)) refl
  where
    go : (b : Bool) → (is_char own && not (is_char expected)) ≡ b → Takes expected own
    go false n = inl (fits-sub w law expected own f n)
    go true n = let q = and_parts (is_char own) (not (is_char expected)) n in inr (q.0, law.chars expected (subst (λ t. IsSub w t expected) (char_type own q.0) f) (not-true (is_char expected) q.1))

pub takes-sub : (w : Classes) → IsPlain w → (expected own : IrType) → IsSub w own expected → Takes expected own
takes-sub w plain = takes-below w (in_world w plain)

-- a tree of the second type may stand where the first is expected, by what the code at hand can make
abbrev pub StandsFor : Setting → IrType → IrType → Type 0
StandsFor z expected own = Takes expected own × MayBox z expected own

abbrev pub StandForAll : Setting → List IrType → List IrType → Type 0
StandForAll z ts owns = TakeAll ts owns × MayBoxAll z ts owns

boxes_it_has : (b x : Bool) → (b || not x) ≡ true → x ≡ true → b ≡ true
boxes_it_has true x h k = refl
boxes_it_has false true h k = impossible h
boxes_it_has false false h k = impossible k

module _ (z : Setting) (lawful : Lawful z) where
  pub may-box : (expected own : IrType) → MayStand (usable z) expected own → MayBox z expected own
  may-box expected own may char = let has = boxes_it_has (can_box (usable z)) (is_char own && not (is_char expected)) may char in (has, lawful.boxes has)

  pub stands-for : (expected own : IrType) → IsSub z.place.typing own expected → MayStand (usable z) expected own → StandsFor z expected own
  stands-for expected own f may = (takes-below z.place.typing lawful.base.ordered expected own f, may-box expected own may)

  pub stand-for-all : (ts : Terms) (rs : List TypeRef) → ArgumentsFit z.place.typing (usable z) ts rs → StandForAll z (types_referred rs) (types_of ts)
  stand-for-all no_terms [] h = (tt, tt)
  stand-for-all no_terms (r ∷ rs) h = absurd h
  stand-for-all (more_terms t ts) [] h = absurd h
  stand-for-all (more_terms t ts) (r ∷ rs) h = let own = stands-for (reference_type r) (type_of_term t) h.0.0 h.0.1 in let others = stand-for-all ts rs h.2 in ((own.0, others.0), (own.1, others.1))

-- the type of a class isn't that of chars
pub class-no-char : (c : List ℕ) → is_char (class_type c) ≡ false
class-no-char c = go (pointwise nat_eq c (codes "java.lang.Object"))
  where
    go : (b : Bool) → is_char (if b then Any else Class c) ≡ false
    go true = refl
    go false = refl

-- a receiver is coerced as to the type of its class
pub receiver-coerced : (c : List ℕ) (own : IrType) (e : core.Expression) → coerced_receiver own e ≡ coerced (class_type c) own e
receiver-coerced c own e = ap (λ (x : Bool). if (is_char own && not x) then core.boxed_char e else e) (sym (class-no-char c))

-- what may stand anywhere may stand at the type of a class
pub stands-at-class : (has : Usable) (c : List ℕ) (own : IrType) → MayStand has Any own → MayStand has (class_type c) own
stands-at-class has c own h = subst (λ (x : Bool). (can_box has || not (is_char own && not x)) ≡ true) (sym (class-no-char c)) h
