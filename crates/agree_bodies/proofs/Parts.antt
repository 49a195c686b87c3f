-- What a tree that keeps the rules gives where it is written: what is asked of its parts.
use Rattle.std.proofs.Common.{◌≡◌, ℕ, Bool, true, false, List, ◌∷◌, Some, refl, sym, ◌∙◌, subst, ◌⊎◌, inl, inr, ⊎_elim, if◌then◌else◌}
use Rattle.std.specs.Prelude.{nat_eq, ◌||◌}
use Rattle.std.specs.Cmp.Lexicographic.{pointwise}
use Rattle.sj_core.specs.Terms as core
use Rattle.agree_early_errors.specs.Desugar.{Targets, target_of}
use Rattle.agree_early_errors.specs.Plain.{is_plain, is_fixed, mutable_in}
use Rattle.agree_early_errors.specs.Spill.{Destination, discard, to_variable, to_result}
use Rattle.sj_trees.specs.Term.{Term, var_def, undefined_literal, null_literal, boolean_literal, char_literal, byte_literal, short_literal, int_literal, long_literal, string_literal, var_ref, this_ref}
use Rattle.sj_trees.specs.TypeOf.{type_of_term}
use Rattle.sj_trees.specs.declared.operators.BinaryOp.{BinaryOp}
use Rattle.sj_trees.specs.declared.positions.Position.{Position}
use Rattle.sj_trees.specs.declared.types.IrType.{IrType}
use Rattle.sj_trees.specs.declared.types.IrType.TheVariants.{NoType}
use Rattle.agree_early_errors.specs.Rules.{left_operand, right_operand, IsText, Yields}
use Rattle.agree_early_errors.specs.Rules as rules
use Rattle.agree_plain_trees.specs.Conditions.{IsNoConstruction, Plain}
use Rattle.agree_plain_trees.specs.Settings.{Code}
use Rattle.agree_plain_trees.proofs.Boxes.{takes-below}
use Rattle.agree_plain_trees.proofs.Received.{value_none, not_none, value_below, value_apart}
use Rattle.agree_early_errors.specs.Boxes.{is_boxed, brought_to, goal_of, goals_of, is_boxed_at, boxes_as_text, boxes, operand_boxes}
use Rattle.agree_early_errors.specs.Built.{Usable, may_make}
use Rattle.agree_early_errors.specs.Locals.{Scope, Mutable, with_local, HasValue}
use Rattle.agree_early_errors.specs.Standing.{MayStand}
use Rattle.agree_early_errors.proofs.Fitting.{value-not, not_no_type, left-operand-value, right-operand-value}
use Rattle.agree_bodies.specs.Placed.{Placed}
use Rattle.agree_early_errors.proofs.Locals.{values-behind, mutable-behind}
use Rattle.agree_bodies.specs.Fine.{Around, with_label, IsDiscard, is_discard, FitsIn, FineOperand, Fine, Amid, Asks}
use Rattle.sj_names.proofs.Same.{impossible}
use Rattle.agree_early_errors.specs.Subtyping.{IsSubtyping}
use Rattle.agree_early_errors.specs.Typing.{Scene, IsResult, in_label, Typed}
use Rattle.agree_early_errors.proofs.RulesGive.{Takes, its_types, texts, of_division, of_identity, each_made}
use Rattle.agree_plain_trees.specs.Known.{Classes}
use Rattle.agree_plain_trees.specs.Subtypes.{IsSub}
use Rattle.agree_early_errors.specs.Label.{Label}
use Rattle.agree_early_errors.specs.Labels.{type_of_label}
use Rattle.agree_early_errors.specs.Nodes.{inside}
use Rattle.agree_early_errors.proofs.Around.{type_inside}
use Rattle.agree_early_errors.proofs.Mutable.{of_first, of_second, of_value, front}

-- what isn't plain isn't fixed
pub not_fixed : (is_mutable : List ℕ → Bool) (t : Term) → is_plain t ≡ false → is_fixed is_mutable t ≡ false
not_fixed is_mutable (undefined_literal p) h = impossible (sym h)
not_fixed is_mutable (null_literal p) h = impossible (sym h)
not_fixed is_mutable (boolean_literal p b) h = impossible (sym h)
not_fixed is_mutable (char_literal p v) h = impossible (sym h)
not_fixed is_mutable (byte_literal p v) h = impossible (sym h)
not_fixed is_mutable (short_literal p v) h = impossible (sym h)
not_fixed is_mutable (int_literal p v) h = impossible (sym h)
not_fixed is_mutable (long_literal p v) h = impossible (sym h)
not_fixed is_mutable (string_literal p u) h = impossible (sym h)
not_fixed is_mutable (this_ref p t) h = impossible (sym h)
not_fixed is_mutable (var_ref p x t) h = impossible (sym h)
not_fixed is_mutable _ h = refl

module _ (w : Classes) (law : IsSubtyping (IsSub w)) where
  pub given_up : (k : Destination) → Asks w k NoType → IsDiscard k
  given_up discard h = is_discard
  given_up (to_variable x i) h = absurd (h.1 (law.from_none i h.0))
  given_up (to_result i) h = absurd (h.1 (law.from_none i h.0))

  asks-narrow : (k : Destination) (s t : IrType) → IsSub w s t → Asks w k t → Asks w k s
  asks-narrow discard s t f h = tt
  asks-narrow (to_variable x i) s t f h = (law.further s t i f h.0, h.1)
  asks-narrow (to_result i) s t f h = (law.further s t i f h.0, h.1)

  asks-none : (k : Destination) (s : IrType) → Asks w k NoType → Asks w k s
  asks-none discard s h = tt
  asks-none (to_variable x i) s h = absurd (h.1 (law.from_none i h.0))
  asks-none (to_result i) s h = absurd (h.1 (law.from_none i h.0))

  pub yields : (k : Destination) (e : Term) (t : IrType) → Asks w k t → Yields w e t → Asks w k (type_of_term e)
  yields k e t h (rules.nothing_wanted none) = asks-none k (type_of_term e) (subst (Asks w k) none h)
  yields k e t h (rules.fitting f) = asks-narrow k (type_of_term e) t f h

  -- a tree that fits a type with values goes to a variable of its own type
  pub asks-own : (y : core.Variable) (s t : IrType) → IsSub w s t → (t ≡ NoType → ⊥) → Asks w (to_variable y s) s
  asks-own y s t f h = (law.same s, λ e. h (law.from_none t (subst (λ a. IsSub w a t) e f)))

  asks-text : (y : core.Variable) (s : IrType) → IsText s → Asks w (to_variable y s) s
  asks-text y s h = (law.same s, not_no_type s h)

  -- the values that leave to a label go where they are of its type
  abbrev pub Reach : List Label → Targets → Type 0
  Reach bs ts = (l : List ℕ) (t : IrType) → type_of_label bs l ≡ Some t → Asks w (target_of ts l) t

  pub reach-inside : (bs : List Label) (ts : Targets) (l : List ℕ) (t : IrType) (k : Destination) → Asks w k t → Reach bs ts → Reach (inside l t bs) (record { label = l; goes_to = k } ∷ ts)
  reach-inside bs ts l t k asks reach m q e = go (pointwise nat_eq m l) (sym (type_inside l t bs m) ∙ e)
    where
      go : (c : Bool) → (if c then Some t else type_of_label bs m) ≡ Some q → Asks w (if c then k else target_of ts m) q
      go true i = let same : t ≡ q = cc in subst (Asks w k) same asks
      go false i = reach m q i

  module _ (has : Usable) where
    -- a value of this type comes to the destination as an object that holds a char only if one can be made
    abbrev pub MayCome : Destination → IrType → Type 0
    MayCome k t = may_make has (is_boxed_at (goal_of k) t) ≡ true

    pub fits-value : (k : Destination) (t : IrType) → Asks w k t → HasValue t → MayCome k t → FitsIn has k t
    fits-value discard t a h may = tt
    fits-value (to_variable x i) t a h may = (h, takes-below w law i t a.0, may)
    fits-value (to_result i) t a h may = (h, takes-below w law i t a.0, may)

    pub fits : (k : Destination) (t : IrType) → Asks w k t → IsResult t → MayCome k t → FitsIn has k t
    fits discard t a r may = tt
    fits (to_variable x i) t a (inl e) may = absurd (a.1 (law.from_none i (subst (λ s. IsSub w s i) e a.0)))
    fits (to_variable x i) t a (inr h) may = fits-value (to_variable x i) t a h may
    fits (to_result i) t a (inl e) may = absurd (a.1 (law.from_none i (subst (λ s. IsSub w s i) e a.0)))
    fits (to_result i) t a (inr h) may = fits-value (to_result i) t a h may

    pub asks-left : (y : core.Variable) (o : BinaryOp) (e d : Term) → Takes w has o e d → Asks w (to_variable y (type_of_term e)) (type_of_term e)
    asks-left y o e d (its_types h f g) = asks-own y (type_of_term e) (left_operand o) f (value-not (left_operand o) (left-operand-value o))
    asks-left y o e d (of_division h f g) = asks-own y (type_of_term e) (left_operand o) f (value-not (left_operand o) (left-operand-value o))
    asks-left y o e d (of_identity i h f g) = asks-own y (type_of_term e) (left_operand o) f (value-not (left_operand o) (left-operand-value o))
    asks-left y o e d (texts is f g) = asks-text y (type_of_term e) f

    pub asks-right : (y : core.Variable) (o : BinaryOp) (e d : Term) → Takes w has o e d → Asks w (to_variable y (type_of_term d)) (type_of_term d)
    asks-right y o e d (its_types h f g) = asks-own y (type_of_term d) (right_operand o) g (value-not (right_operand o) (right-operand-value o))
    asks-right y o e d (of_division h f g) = asks-own y (type_of_term d) (right_operand o) g (value-not (right_operand o) (right-operand-value o))
    asks-right y o e d (of_identity i h f g) = asks-own y (type_of_term d) (right_operand o) g (value-not (right_operand o) (right-operand-value o))
    asks-right y o e d (texts is f g) = asks-text y (type_of_term d) g

-- of two trees one after the other
pub one_mutable : (is_mutable : List ℕ → Bool) (a b : Term) → Mutable is_mutable (λ xs. mutable_in a (mutable_in b xs)) → Mutable is_mutable (mutable_in a)
one_mutable is_mutable a b = of_first is_mutable (mutable_in a) (mutable_in b) (front a)

pub other_mutable : (is_mutable : List ℕ → Bool) (a b : Term) → Mutable is_mutable (λ xs. mutable_in a (mutable_in b xs)) → Mutable is_mutable (mutable_in b)
other_mutable is_mutable a b = of_second is_mutable (mutable_in a) (mutable_in b) (front a)

-- a definition in front, and a label around
pub amid-behind : (w : Classes) (is_mutable : List ℕ → Bool) (here : Code) (g : Scope) (ls : Around) (s : Scene) (x : List ℕ) (t : IrType) (b : Bool) → Amid w is_mutable here g ls s → HasValue t → (b ≡ true → is_mutable x ≡ true) → Amid w is_mutable here (with_local x t g) ls (record { owner = s.owner; space = s.space; sure = s.sure; locals = record { name = x; «mutable» = b; tpe = t } ∷ s.locals; labels = s.labels })
amid-behind w is_mutable here g ls s x t b a v m = record {
  surely = a.surely;
  owned = a.owned;
  seen = λ y i h. ⊎_elim (λ e. inl e) (λ r. inr (r.0, a.seen y i r.1)) h;
  values = values-behind s.locals (record { name = x; «mutable» = b; tpe = t }) a.values v;
  changing = mutable-behind is_mutable s.locals (record { name = x; «mutable» = b; tpe = t }) a.changing m;
  targets = a.targets;
}

pub amid-inside : (w : Classes) → IsSubtyping (IsSub w) → (is_mutable : List ℕ → Bool) (here : Code) (g : Scope) (ls : Around) (s : Scene) (l : List ℕ) (t : IrType) (k : Destination) → Amid w is_mutable here g ls s → Asks w k t → Amid w is_mutable here g (with_label l k ls) (in_label l t s)
amid-inside w law is_mutable here g ls s l t k a asks = record {
  surely = a.surely;
  owned = a.owned;
  seen = a.seen;
  values = a.values;
  changing = a.changing;
  targets = reach-inside w law s.labels ls.targets l t k asks a.targets;
}

module _ (w : Classes) (law : IsSubtyping (IsSub w)) (is_mutable : List ℕ → Bool) (has : Usable) (here : Code) (g : Scope) (ls : Around) where
  abbrev pub FineAt : Destination → Term → Type 0
  FineAt k t = Fine w is_mutable has here g ls k t

  abbrev pub OperandAt : Term → Type 0
  OperandAt e = FineOperand w is_mutable has here g e (λ y. FineAt (to_variable y (type_of_term e)) e)

  abbrev Here : Scene → Type 0
  Here s = Amid w is_mutable here g ls s

  -- objects that hold chars can be made, or none is
  abbrev Makes : Bool → Type 0
  Makes boxed = may_make has boxed ≡ true

  pub plain_at : (s : Scene) → Here s → (e : Term) → Typed w has s e → Makes (boxes_as_text e) → is_plain e ≡ true → IsNoConstruction e → Plain w has here g e
  plain_at s a e h boxed i apart = record { scene = s; surely = a.surely; owned = a.owned; seen = a.seen; typed = h; boxed = boxed; plain = i; apart = apart }

  -- a tree in this scene
  pub tree_in : (s : Scene) → Here s → (k : Destination) (e : Term) → Mutable is_mutable (mutable_in e) → Asks w k (type_of_term e) → Typed w has s e → Makes (boxes (goals_of ls.targets) (goal_of k) e) → (around : List (List ℕ)) → Placed ls.reaches ls.tries around e → FineAt k e
  tree_in s a k e m asks h boxed around once = record { scene = s; amid = a; around = around; once = once; written = m; asks = asks; typed = h; boxed = boxed }

  -- an operand, by whether it is plain
  pub operand_by : (s : Scene) → Here s → (e : Term) → Mutable is_mutable (mutable_in e) → ((y : core.Variable) → Asks w (to_variable y (type_of_term e)) (type_of_term e)) → Typed w has s e → Makes (operand_boxes (goals_of ls.targets) e) → (around : List (List ℕ)) → Placed ls.reaches ls.tries around e → OperandAt e
  operand_by s a e m asks h boxed around once = go (is_plain e) refl boxed
    where
      go : (b : Bool) → is_plain e ≡ b → Makes (if b then boxes_as_text e else boxes (goals_of ls.targets) (brought_to (type_of_term e)) e) → OperandAt e
      go true i may = inl (plain_at s a e h may i (value_apart w has s e h (not_none (type_of_term e) (asks (core.numbered 0)).1)))
      go false i may = inr (i, not_fixed is_mutable e i, λ y. tree_in s a (to_variable y (type_of_term e)) e m (asks y) h may around once)

  -- one that fits a type with values
  pub operand_in : (s : Scene) → Here s → (e : Term) → Mutable is_mutable (mutable_in e) → (t : IrType) → IsSub w (type_of_term e) t → HasValue t → Typed w has s e → Makes (operand_boxes (goals_of ls.targets) e) → (around : List (List ℕ)) → Placed ls.reaches ls.tries around e → OperandAt e
  operand_in s a e m t fits value h boxed around once = operand_by s a e m (λ y. asks-own w law y (type_of_term e) t fits (value-not t value)) h boxed around once

  -- the right side of a definition
  pub definition_of : (k : Destination) (p : Position) (x : List ℕ) (t : IrType) (b : Bool) (e : Term) → FineAt k (var_def p x t b e) → (Plain w has here g e × IsSub w (type_of_term e) t × MayStand has t (type_of_term e)) ⊎ ((is_plain e ≡ false) × FineAt (to_variable (core.named x) t) e)
  definition_of k p x t b e f = go (is_plain e) refl f.boxed
    where
      go : (c : Bool) → is_plain e ≡ c → Makes (if c then is_boxed t e || boxes_as_text e else boxes (goals_of ls.targets) (brought_to t) e) → (Plain w has here g e × IsSub w (type_of_term e) t × MayStand has t (type_of_term e)) ⊎ ((is_plain e ≡ false) × FineAt (to_variable (core.named x) t) e)
      go true i may = let parts = each_made has (is_boxed t e) (boxes_as_text e) may in inl (plain_at f.scene f.amid e f.typed.1 parts.1 i (value_apart w has f.scene e f.typed.1 (value_below w law (type_of_term e) t f.typed.0.meets (value_none t f.typed.0.finds.0))), f.typed.0.meets, parts.0)
      go false i may = inr (i, tree_in f.scene f.amid (to_variable (core.named x) t) e (of_value is_mutable b x (mutable_in e) f.written) (f.typed.0.meets, value-not t f.typed.0.finds.0) f.typed.1 may f.around f.once.1)
