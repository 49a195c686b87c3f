-- What is asked for is one thing.
use Rattle.std.proofs.Common.{◌≡◌, ℕ, ◌<◌, Bool, true, false, List, Option, Some, None, refl, sym, ap, ◌∙◌, subst, arith, inl, inr}
use Rattle.std.specs.Prelude.{◌⊎◌, ◌↔◌, IsTrue, is_some, is_none, not, option_map, slice_get}
use Rattle.sj_names.specs.declared.method_names.Member.{Member}
use Rattle.sj_names.specs.declared.method_names.MethodName.{MethodName}
use Rattle.sj_trees.specs.declared.classes.ClassDef.{ClassDef}
use Rattle.sj_trees.specs.declared.classes.FieldDef.{FieldDef}
use Rattle.sj_trees.specs.declared.classes.MethodDef.{MethodDef}
use Rattle.sj_world.specs.Known.{Name, Classes, class_of}
use Rattle.sj_world.specs.Paths.{IsFirst}
use Rattle.sj_world.specs.declared.facts.Fact.{Fact}
use Rattle.sj_world.proofs.Once.{resolves_once}
use Rattle.tree_sameness.specs.Apart.{field_apart, method_apart}
use Rattle.sj_ask.specs.Stands.{Stand}
use Rattle.sj_world.specs.Members.{IsField, IsFieldOf, HasNoField, IsMethod, IsMethodOf}
use Rattle.sj_ask.specs.Answers.{public_member, target_member, IsTarget, IsSmallBody, HasNoSmallBody, IsFieldAnswer, IsSingleAnswer, IsBodyAnswer}

-- the first of a list with a property is one
one_first : {X : Type 0} (Has : X → Type 0) (xs : List X) (x y : X) → IsFirst Has xs x → IsFirst Has xs y → x ≡ y
one_first {X} Has xs x y h k = go (sides h.place k.place)
  where
    sides : (i j : ℕ) → (i < j) ⊎ ((j < i) ⊎ (i ≡ j))
    sides i j = grind arith

    go : (h.place < k.place) ⊎ ((k.place < h.place) ⊎ (h.place ≡ k.place)) → x ≡ y
    go (inl lt) = absurd (k.none_before h.place x lt h.stands h.has)
    go (inr (inl lt)) = absurd (h.none_before k.place y lt k.stands k.has)
    go (inr (inr e)) = let s : Some x ≡ Some y = sym h.stands ∙ ap (slice_get xs) e ∙ k.stands in cc

same_class : (w : Classes) (c : Name) (a b : ClassDef) → class_of w c ≡ Some a → class_of w c ≡ Some b → a ≡ b
same_class w c a b h k = let s : Some a ≡ Some b = sym h ∙ k in cc

pub one_field : (w : Classes) (c name : Name) (mark : Bool) (f g : FieldDef) → IsFieldOf w c name mark f → IsFieldOf w c name mark g → f ≡ g
one_field w c name mark f g h k = one_first (IsField name mark) k.class.fields f g (subst (λ (x : ClassDef). IsFirst (IsField name mark) x.fields f) (same_class w c h.class k.class h.is_class k.is_class) h.first) k.first

pub one_method : (w : Classes) (k : Member) (d e : MethodDef) → IsMethodOf w k d → IsMethodOf w k e → d ≡ e
one_method w k d e h j = one_first (IsMethod k) j.class.methods d e (subst (λ (x : ClassDef). IsFirst (IsMethod k) x.methods d) (same_class w k.class h.class j.class h.is_class j.is_class) h.first) j.first

-- a definition that is no small body, and so none of that member is
pub no_small_body : (s : Stand) (k : Member) (d : MethodDef) (r : Bool) → IsMethodOf s.classes k d → IsTrue r ↔ IsSmallBody s k d → r ≡ false → HasNoSmallBody s k
no_small_body s k d r is h e = record { none = λ other n. let same : other ≡ d = one_method s.classes k other d n.definition is in let t : r ≡ true = h.1 (subst (IsSmallBody s k) same n) in cc }

pub one_target : (w : Classes) (c : Name) (m : MethodName) (a b : Option Member) → IsTarget w c m a → IsTarget w c m b → a ≡ b
one_target w c m a b h k = h.is_member ∙ ap (target_member m) (resolves_once w c m h.run k.run h.resolves k.resolves) ∙ sym k.is_member

pub one_single : (w : Classes) (facts : List Fact) (c : Name) (m : MethodName) (a b : Option Member) → IsSingleAnswer w facts c m a → IsSingleAnswer w facts c m b → a ≡ b
one_single w facts c m None None h k = refl
one_single w facts c m None (Some b) h k = absurd (h.none b k)
one_single w facts c m (Some a) None h k = absurd (k.none a h)
one_single w facts c m (Some a) (Some b) h k = one_target w h.some m (Some a) (Some b) (h.run_all.all h.some h.is_some) (k.run_all.all h.some h.is_some)

pub one_field_answer : (w : Classes) (c name : Name) (mark : Bool) (a b : Option FieldDef) → IsFieldAnswer w c name mark a → IsFieldAnswer w c name mark b → option_map field_apart a ≡ option_map field_apart b
one_field_answer w c name mark None None h k = refl
one_field_answer w c name mark None (Some b) h k = absurd (h.none k.field k.is_field)
one_field_answer w c name mark (Some a) None h k = absurd (k.none h.field h.is_field)
one_field_answer w c name mark (Some a) (Some b) h k = ap Some (h.same ∙ ap field_apart (one_field w c name mark h.field k.field h.is_field k.is_field) ∙ sym k.same)

pub one_body_answer : (s : Stand) (m : Member) (a b : Option MethodDef) → IsBodyAnswer s m a → IsBodyAnswer s m b → option_map method_apart a ≡ option_map method_apart b
one_body_answer s m None None h k = refl
one_body_answer s m None (Some b) h k = absurd (h.none k.method k.is_small)
one_body_answer s m (Some a) None h k = absurd (k.none h.method h.is_small)
one_body_answer s m (Some a) (Some b) h k = ap Some (h.same ∙ ap method_apart (one_method s.classes m h.method k.method h.is_small.definition k.is_small.definition) ∙ sym k.same)

-- a test of one thing is a test of being it
pub tested : {X : Type 0} (P : X → Type 0) → ((x y : X) → P x → P y → x ≡ y) → (x y : X) (r : Bool) → P x → IsTrue r ↔ (y ≡ x) → IsTrue r ↔ P y
tested P one x y r p h = (λ t. subst P (sym (h.0 t)) p, λ q. h.1 (one y x q p))

-- two truths of one fact are one
same_truth : (a b : Bool) → (IsTrue a → IsTrue b) → (IsTrue b → IsTrue a) → a ≡ b
same_truth true true f g = refl
same_truth false false f g = refl
same_truth true false f g = let t : false ≡ true = f refl in cc
same_truth false true f g = let t : false ≡ true = g refl in cc

pub one_truth : (P : Type 0) (a b : Bool) → IsTrue a ↔ P → IsTrue b ↔ P → a ≡ b
one_truth P a b h k = same_truth a b (λ t. k.1 (h.0 t)) (λ t. h.1 (k.0 t))

pub truth_tested : (P : Type 0) (now said r : Bool) → IsTrue now ↔ P → IsTrue r ↔ (now ≡ said) → IsTrue r ↔ (IsTrue said ↔ P)
truth_tested P now said r h k = (λ t. subst (λ (b : Bool). IsTrue b ↔ P) (k.0 t) h, λ q. k.1 (one_truth P now said h q))

same_owner : (m : MethodName) (a b : Name) → Some (public_member a m) ≡ Some (public_member b m) → a ≡ b
same_owner m a b e = let s : public_member a m ≡ public_member b m = cc in ap (λ (k : Member). k.class) s

pub owner_tested : (w : Classes) (c : Name) (m : MethodName) (a b : Name) (r : Bool) → IsTarget w c m (Some (public_member a m)) → IsTrue r ↔ (a ≡ b) → IsTrue r ↔ IsTarget w c m (Some (public_member b m))
owner_tested w c m a b r h k = (λ t. subst (λ (x : Name). IsTarget w c m (Some (public_member x m))) (k.0 t) h, λ q. k.1 (same_owner m a b (one_target w c m (Some (public_member a m)) (Some (public_member b m)) h q)))

pub no_owner : (w : Classes) (c : Name) (m : MethodName) (b : Name) (r : Bool) → r ≡ false → IsTarget w c m None → IsTrue r ↔ IsTarget w c m (Some (public_member b m))
no_owner w c m b r e h = (λ t. let f : false ≡ true = sym e ∙ t in cc, λ q. let n : None ≡ Some (public_member b m) = one_target w c m None (Some (public_member b m)) h q in cc)

is_none_from : {X : Type 0} (found : Option X) (r : Bool) → is_some found ≡ not r → r ≡ is_none found
is_none_from None true e = refl
is_none_from None false e = cc
is_none_from (Some x) true e = cc
is_none_from (Some x) false e = refl

none_is : {X : Type 0} (found : Option X) (r : Bool) → r ≡ is_none found → IsTrue r ↔ (found ≡ None)
none_is None r e = (λ t. refl, λ q. e)
none_is (Some x) r e = (λ t. let f : false ≡ true = sym e ∙ t in cc, λ q. cc)

pub field_tested : (w : Classes) (c name : Name) (mark : Bool) (f : FieldDef) (found : Option FieldDef) (r : Bool) → IsFieldOf w c name mark f → IsTrue r ↔ (option_map field_apart found ≡ Some (field_apart f)) → IsTrue r ↔ IsFieldAnswer w c name mark found
field_tested w c name mark f None r is h = (λ t. let n : None ≡ Some (field_apart f) = h.0 t in cc, λ q. absurd (q.none f is))
field_tested w c name mark f (Some g) r is h = (
  λ t. let s : Some (field_apart g) ≡ Some (field_apart f) = h.0 t in record { field = f; is_field = is; same = cc },
  λ q. h.1 (ap Some (q.same ∙ ap field_apart (one_field w c name mark q.field f q.is_field is))),
)

pub no_field_tested : (w : Classes) (c name : Name) (mark : Bool) (found : Option FieldDef) (r : Bool) → HasNoField w c name mark → is_some found ≡ not r → IsTrue r ↔ IsFieldAnswer w c name mark found
no_field_tested w c name mark None r none e = (λ t. none, λ q. is_none_from {X = FieldDef} None r e)
no_field_tested w c name mark (Some g) r none e = (λ t. let f : false ≡ true = sym (is_none_from (Some g) r e) ∙ t in cc, λ q. absurd (none.none q.field q.is_field))

pub body_tested : (s : Stand) (m : Member) (d : MethodDef) (found : Option MethodDef) (r : Bool) → IsSmallBody s m d → IsTrue r ↔ (option_map method_apart found ≡ Some (method_apart d)) → IsTrue r ↔ IsBodyAnswer s m found
body_tested s m d None r is h = (λ t. let n : None ≡ Some (method_apart d) = h.0 t in cc, λ q. absurd (q.none d is))
body_tested s m d (Some e) r is h = (
  λ t. let q : Some (method_apart e) ≡ Some (method_apart d) = h.0 t in record { method = d; is_small = is; same = cc },
  λ q. h.1 (ap Some (q.same ∙ ap method_apart (one_method s.classes m q.method d q.is_small.definition is.definition))),
)

pub no_body_tested : (s : Stand) (m : Member) (found : Option MethodDef) (r : Bool) → HasNoSmallBody s m → is_some found ≡ not r → IsTrue r ↔ IsBodyAnswer s m found
no_body_tested s m None r none e = (λ t. none, λ q. is_none_from {X = MethodDef} None r e)
no_body_tested s m (Some d) r none e = (λ t. let f : false ≡ true = sym (is_none_from (Some d) r e) ∙ t in cc, λ q. absurd (none.none q.method q.is_small))

pub target_answer_tested : (w : Classes) (c : Name) (m : MethodName) (x found : Option Member) (r : Bool) → IsTarget w c m x → IsTrue r ↔ (found ≡ x) → IsTrue r ↔ IsTarget w c m found
target_answer_tested w c m x found r = tested (IsTarget w c m) (one_target w c m) x found r

pub single_answer_tested : (w : Classes) (facts : List Fact) (c : Name) (m : MethodName) (x found : Option Member) (r : Bool) → IsSingleAnswer w facts c m x → IsTrue r ↔ (found ≡ x) → IsTrue r ↔ IsSingleAnswer w facts c m found
single_answer_tested w facts c m x found r = tested (IsSingleAnswer w facts c m) (one_single w facts c m) x found r

pub none_tested : {X : Type 0} (found : Option X) (r : Bool) → is_some found ≡ not r → IsTrue r ↔ (found ≡ None)
none_tested found r e = none_is found r (is_none_from found r e)
