-- What the conditions of a tree say of a world.
use Rattle.std.proofs.Common.{◌≡◌, Bool, true, false, List, [], ◌∷◌, Option, Some, None, Ok, Err, refl, sym, ap, ◌∙◌, subst, inl, inr}
use Rattle.std.specs.Prelude.{◌⊎◌, ◌↔◌, ◌||◌, IsTrue}
use Rattle.std.proofs.lemmas.Bool.{or_cases}
use Rattle.sj_trees.specs.declared.classes.FieldDef.{FieldDef}
use Rattle.sj_trees.specs.declared.types.IrType.{IrType}
use Rattle.sj_ask.specs.Known.{Name, Classes}
use Rattle.sj_ask.specs.Subtypes.{IsSub}
use Rattle.sj_ask.specs.declared.errors.TypeError.{TypeError}
use Rattle.sj_ask.specs.declared.questions.Question.TheVariants as question
use Rattle.sj_ask.specs.declared.questions.Answer.{Answer}
use Rattle.sj_ask.specs.declared.questions.Answer.TheVariants as answer
use Rattle.sj_ask.specs.Stands.{Stand}
use Rattle.sj_ask.specs.Answers.{IsAnswer, IsFieldAnswer}
use Rattle.sj_ask.specs.Apart.{Exchange}
use Rattle.sj_ask.specs.Tasks.{done, ◌>>=◌, says_yes, found_field, asks_sub, asks_field}
use Rattle.sj_ask.specs.Runs.{Comes}
use Rattle.sj_ask.proofs.One.{one_field}
use Rattle.sj_ask.proofs.Running.{Parted, went, stopped, comes-parted}
use Rattle.sj_typing_spec.specs.declared.rows.Fit.{Fit}
use Rattle.sj_typing_spec.specs.declared.rows.FieldUse.{FieldUse}
use Rattle.sj_typing_spec.specs.declared.rows.Row.{Row}
use Rattle.sj_trees.specs.SameTypes.{is_same_type}
use Rattle.sj_typing_spec.specs.Rules.{HasFieldType, IsMutable}
use Rattle.sj_typing_spec.specs.Checks.{then_do, unless_no, ask_fits, judge_field, ask_field, ask_row}
use Rattle.sj_trees.proofs.SameTypes.{type-same, type-refl}

abbrev pub AllSub : Classes → List Fit → Type 0
AllSub w [] = Unit {0}
AllSub w (f ∷ fs) = IsSub w f.sub f.above × AllSub w fs

abbrev pub FieldHolds : Classes → Option FieldUse → Type 0
FieldHolds w None = Unit {0}
FieldHolds w (Some u) = HasFieldType w u.class u.name u.is_static u.tpe

-- the conditions of a tree hold
pub record RowHolds (w : Classes) (r : Row) : Type 0 where
  pub plain : r.holds ≡ true
  pub fits : AllSub w r.fits
  pub field : FieldHolds w r.field

-- what is given says whether the field may be set
abbrev pub FieldSet : Classes → Option FieldUse → Bool → Type 0
FieldSet w None b = b ≡ true
FieldSet w (Some u) b = IsTrue b ↔ (IsMutable w u.class u.name u.is_static ⊎ IsTrue u.is_own)

pub sub_answered : (s : Stand) (a b : IrType) (x : Answer) → IsAnswer s (question.IsSub a b) x → IsTrue (says_yes x) ↔ IsSub s.classes a b
sub_answered s a b (answer.Yes r) h = h
sub_answered s a b (answer.Field x) h = absurd h
sub_answered s a b (answer.Member x) h = absurd h
sub_answered s a b (answer.Body x) h = absurd h

field_answered : (s : Stand) (c name : Name) (mark : Bool) (x : Answer) → IsAnswer s (question.Field c name mark) x → IsFieldAnswer s.classes c name mark (found_field x)
field_answered s c name mark (answer.Field x) h = h
field_answered s c name mark (answer.Yes r) h = absurd h
field_answered s c name mark (answer.Member x) h = absurd h
field_answered s c name mark (answer.Body x) h = absurd h

false_not : {P : Type 0} (b : Bool) → IsTrue b ↔ P → b ≡ false → P → ⊥
false_not b h e p = let t : b ≡ true = h.1 p in cc

or_right : (a b : Bool) → b ≡ true → (a || b) ≡ true
or_right true b e = refl
or_right false b e = e

module _ (s : Stand) (fault : TypeError) where
  fits_came : (fs : List Fit) (b : Bool) (log : List Exchange) → Comes (IsAnswer s) (ask_fits fault fs) (Ok b) log → AllSub s.classes fs
  unfolding ◌>>=◌ asks_sub
  fits_came [] b log h = tt
  fits_came (f ∷ fs) b log h = go (λ k. fits_came fs b h.others k) (says_yes h.given) refl h.rest
    where
      go : (Comes (IsAnswer s) (ask_fits fault fs) (Ok b) h.others → AllSub s.classes fs) → (v : Bool) → says_yes h.given ≡ v → Comes (IsAnswer s) (unless_no fault (ask_fits fault fs) v) (Ok b) h.others → IsSub s.classes f.sub f.above × AllSub s.classes fs
      go rest true e k = ((sub_answered s f.sub f.above h.given h.is_answer).0 e, rest k)
      go rest false e k = let no : Ok b ≡ Err fault = k.0 in cc

  fits_refused : (fs : List Fit) (e : TypeError) (log : List Exchange) → Comes (IsAnswer s) (ask_fits fault fs) (Err e) log → (e ≡ fault) × (AllSub s.classes fs → ⊥)
  unfolding ◌>>=◌ asks_sub
  fits_refused [] e log h = let no : Err e ≡ Ok true = h.0 in cc
  fits_refused (f ∷ fs) e log h = go (λ k. fits_refused fs e h.others k) (says_yes h.given) refl h.rest
    where
      go : (Comes (IsAnswer s) (ask_fits fault fs) (Err e) h.others → (e ≡ fault) × (AllSub s.classes fs → ⊥)) → (v : Bool) → says_yes h.given ≡ v → Comes (IsAnswer s) (unless_no fault (ask_fits fault fs) v) (Err e) h.others → (e ≡ fault) × (IsSub s.classes f.sub f.above × AllSub s.classes fs → ⊥)
      go below true q k = let rest = below k in (rest.0, λ p. rest.1 p.1)
      go below false q k = let same : e ≡ fault = cc (k.0) in (same, λ p. false_not (says_yes h.given) (sub_answered s f.sub f.above h.given h.is_answer) q p.0)

  module _ (u : FieldUse) where
    judged_came : (found : Option FieldDef) (b : Bool) (log : List Exchange) → IsFieldAnswer s.classes u.class u.name u.is_static found → Comes (IsAnswer s) (judge_field fault u found) (Ok b) log → HasFieldType s.classes u.class u.name u.is_static u.tpe × FieldSet s.classes (Some u) b
    judged_came None b log is h = let no : Ok b ≡ Err fault = h.0 in cc
    judged_came (Some d) b log is h = go (is_same_type d.tpe u.tpe) refl h
      where
        tpe_is : d.tpe ≡ is.field.tpe
        tpe_is = ap (λ (f : FieldDef). f.tpe) is.same

        mutable_is : d.mutable ≡ is.field.mutable
        mutable_is = ap (λ (f : FieldDef). f.mutable) is.same

        settable : b ≡ (d.mutable || u.is_own) → FieldSet s.classes (Some u) b
        settable e = (
          λ t. elim (or_cases d.mutable u.is_own (sym e ∙ t)) [ inl m ↦ inl (record { field = is.field; is_field = is.is_field; mutable = sym mutable_is ∙ m }) | inr o ↦ inr o ],
          λ m. elim m as (λ _. IsTrue b) [
            | inl i ↦ e ∙ ap (λ (v : Bool). v || u.is_own) (mutable_is ∙ ap (λ (f : FieldDef). f.mutable) (one_field s.classes u.class u.name u.is_static is.field i.field is.is_field i.is_field) ∙ i.mutable)
            | inr o ↦ e ∙ or_right d.mutable u.is_own o
          ],
        )

        go : (v : Bool) → is_same_type d.tpe u.tpe ≡ v → Comes (IsAnswer s) (unless_no fault (done (d.mutable || u.is_own)) v) (Ok b) log → HasFieldType s.classes u.class u.name u.is_static u.tpe × FieldSet s.classes (Some u) b
        go true e k = let q : b ≡ (d.mutable || u.is_own) = cc (k.0) in (record { field = is.field; is_field = is.is_field; type_is = sym tpe_is ∙ type-same d.tpe u.tpe e }, settable q)
        go false e k = let no : Ok b ≡ Err fault = k.0 in cc

    judged_refused : (found : Option FieldDef) (e : TypeError) (log : List Exchange) → IsFieldAnswer s.classes u.class u.name u.is_static found → Comes (IsAnswer s) (judge_field fault u found) (Err e) log → (e ≡ fault) × (HasFieldType s.classes u.class u.name u.is_static u.tpe → ⊥)
    judged_refused None e log is h = let same : e ≡ fault = cc (h.0) in (same, λ p. is.none p.field p.is_field)
    judged_refused (Some d) e log is h = go (is_same_type d.tpe u.tpe) refl h
      where
        go : (v : Bool) → is_same_type d.tpe u.tpe ≡ v → Comes (IsAnswer s) (unless_no fault (done (d.mutable || u.is_own)) v) (Err e) log → (e ≡ fault) × (HasFieldType s.classes u.class u.name u.is_static u.tpe → ⊥)
        go true q k = let no : Err e ≡ Ok (d.mutable || u.is_own) = k.0 in cc
        go false q k =
            let same : e ≡ fault = cc (k.0) in (
              same,
              λ p.
                  let one : is.field ≡ p.field = one_field s.classes u.class u.name u.is_static is.field p.field is.is_field p.is_field in
                  let tpe : d.tpe ≡ u.tpe = ap (λ (f : FieldDef). f.tpe) is.same ∙ ap (λ (f : FieldDef). f.tpe) one ∙ p.type_is in
                  let t : is_same_type d.tpe u.tpe ≡ true = subst (λ (x : IrType). is_same_type d.tpe x ≡ true) tpe (type-refl d.tpe) in
                  cc,
            )

  field_came : (o : Option FieldUse) (b : Bool) (log : List Exchange) → Comes (IsAnswer s) (ask_field fault o) (Ok b) log → FieldHolds s.classes o × FieldSet s.classes o b
  unfolding ◌>>=◌ asks_field
  field_came None b log h = let e : b ≡ true = cc (h.0) in (tt, e)
  field_came (Some u) b log h = judged_came u (found_field h.given) b h.others (field_answered s u.class u.name u.is_static h.given h.is_answer) h.rest

  field_refused : (o : Option FieldUse) (e : TypeError) (log : List Exchange) → Comes (IsAnswer s) (ask_field fault o) (Err e) log → (e ≡ fault) × (FieldHolds s.classes o → ⊥)
  unfolding ◌>>=◌ asks_field
  field_refused None e log h = let no : Err e ≡ Ok true = h.0 in cc
  field_refused (Some u) e log h = judged_refused u (found_field h.given) e h.others (field_answered s u.class u.name u.is_static h.given h.is_answer) h.rest

  pub row_came : (r : Row) (b : Bool) (log : List Exchange) → Comes (IsAnswer s) (ask_row fault r) (Ok b) log → RowHolds s.classes r × FieldSet s.classes r.field b
  unfolding then_do
  row_came r b log h = go r.holds refl h
    where
      through : r.holds ≡ true → Parted (IsAnswer s) (ask_fits fault r.fits) (λ _. ask_field fault r.field) (Ok b) log → RowHolds s.classes r × FieldSet s.classes r.field b
      through e (went a one two first second is) = let f = field_came r.field b two second in (record { plain = e; fits = fits_came r.fits a one first; field = f.0 }, f.1)
      through e (stopped d first is) = let no : Ok b ≡ Err d = is in cc

      go : (v : Bool) → r.holds ≡ v → Comes (IsAnswer s) (unless_no fault (then_do (ask_fits fault r.fits) (ask_field fault r.field)) v) (Ok b) log → RowHolds s.classes r × FieldSet s.classes r.field b
      go true e k = through e (comes-parted (IsAnswer s) (ask_fits fault r.fits) (λ _. ask_field fault r.field) (Ok b) log k)
      go false e k = let no : Ok b ≡ Err fault = k.0 in cc

  pub row_refused : (r : Row) (e : TypeError) (log : List Exchange) → Comes (IsAnswer s) (ask_row fault r) (Err e) log → (e ≡ fault) × (RowHolds s.classes r → ⊥)
  unfolding then_do
  row_refused r e log h = go r.holds refl h
    where
      through : Parted (IsAnswer s) (ask_fits fault r.fits) (λ _. ask_field fault r.field) (Err e) log → (e ≡ fault) × (RowHolds s.classes r → ⊥)
      through (went a one two first second is) = let f = field_refused r.field e two second in (f.0, λ p. f.1 p.field)
      through (stopped d first is) = let f = fits_refused r.fits d log first in let same : e ≡ d = cc (is) in (same ∙ f.0, λ p. f.1 p.fits)

      go : (v : Bool) → r.holds ≡ v → Comes (IsAnswer s) (unless_no fault (then_do (ask_fits fault r.fits) (ask_field fault r.field)) v) (Err e) log → (e ≡ fault) × (RowHolds s.classes r → ⊥)
      go true q k = through (comes-parted (IsAnswer s) (ask_fits fault r.fits) (λ _. ask_field fault r.field) (Err e) log k)
      go false q k = let same : e ≡ fault = cc (k.0) in (same, λ p. let t : false ≡ true = sym q ∙ p.plain in cc)
