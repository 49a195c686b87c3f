-- What is gathered from the facts.
use Rattle.std.proofs.Common.{◌≡◌, ℕ, ◌≤◌, true, false, List, [], ◌∷◌, ◌++◌, Contains, None, Some, slice_get, length, refl, sym, ap, ◌∙◌, subst, inl, inr, if◌then◌else◌}
use Rattle.std.specs.Prelude.{◌⊎◌, ◌↔◌}
use Rattle.worklist.proofs.Inserted.{nothing_in}
use Rattle.class_lists.specs.Lists.{items_at}
use Rattle.class_lists.specs.declared.lists.Lists.{Lists}
use Rattle.sj_names.specs.declared.method_names.Member.{Member}
use Rattle.sj_names.specs.declared.method_names.MethodName.{MethodName}
use Rattle.sj_trees.specs.declared.classes.ClassDef.{ClassDef}
use Rattle.sj_trees.specs.declared.classes.MethodDef.{MethodDef}
use Rattle.sj_infos.specs.Forms.{forms_by}
use Rattle.sj_infos.specs.declared.forms.BodyForm.{BodyForm}
use Rattle.sj_infos.specs.declared.forms.BodyForm.TheVariants.{Reflective}
use Rattle.sj_world.specs.Ancestors.{next_on_chain}
use Rattle.sj_world.specs.Known.{Name, Classes, class_of, is_known, is_same}
use Rattle.sj_world.specs.Members.{IsMethod, IsMethodOf}
use Rattle.sj_world.specs.Paths.{IsFirst, HasNone}
use Rattle.sj_world.specs.Tables.{AreAncestors}
use Rattle.sj_world.specs.declared.facts.Fact.{Fact}
use Rattle.sj_world.specs.declared.facts.Fact.TheVariants as fact
use Rattle.sj_world.proofs.Kept.{put_exact}
use Rattle.sj_ask.proofs.One.{one_method}
use Rattle.sj_baselink_spec.specs.Entries.{IsWanted, IsReflective}
use Rattle.sj_baselink.specs.Steps.{Adds, Puts, OfOne, IsListed, PutsCalled, AreCalled, AreMade, AreReflective, IsReflectiveIn, IsReflectiveBy, IsWantedFrom, IsWantedAboveFrom, IsWantedAbove}
use Rattle.sj_baselink.proofs.Putting.{adds_none, adds_as, OfFirst, each_ends, only_these, one_itself, itself_one}

-- one of the facts is this one
is_fact : {A : Type 0} (facts : List Fact) (make : A → Fact) (a : A) → OfOne facts (λ f x. f ≡ make x) a → Contains facts (make a)
is_fact facts make a q = subst (λ (f : Fact). Contains facts f) q.holds q.among

fact_is : {A : Type 0} (facts : List Fact) (make : A → Fact) (a : A) → Contains facts (make a) → OfOne facts (λ f x. f ≡ make x) a
fact_is facts make a h = record { thing = make a; among = h; holds = refl }

-- the classes that are made
same_made : (c d : Name) → fact.Made c ≡ fact.Made d → c ≡ d
same_made c d e = cc

pub puts_made : (f : Fact) (c : Name) (a b : List Name) → f ≡ fact.Made c → Puts (λ d. c ≡ d) a b → Puts (λ d. f ≡ fact.Made d) a b
puts_made f c a b is puts = adds_as Contains (λ d. c ≡ d) (λ d. f ≡ fact.Made d) a b (λ d e. is ∙ ap fact.Made e) (λ d e. same_made c d (sym is ∙ e)) puts

pub are_made : (facts : List Fact) (n : ℕ) (made : List Name) → length facts ≤ n → Puts (OfFirst facts n (λ f c. f ≡ fact.Made c)) [] made → AreMade facts made
are_made facts n made over f = record { exact = λ c. let both = only_these (λ g d. g ≡ fact.Made d) facts n made over f c in (λ h. is_fact facts fact.Made c (both.0 h), λ h. both.1 (fact_is facts fact.Made c h)) }

-- the methods that are called
same_called_class : (c d : Name) (m n : MethodName) → fact.Called c m ≡ fact.Called d n → c ≡ d
same_called_class c d m n e = cc

same_called_method : (c d : Name) (m n : MethodName) → fact.Called c m ≡ fact.Called d n → m ≡ n
same_called_method c d m n e = cc

pub puts_called : (f : Fact) (c : Name) (m item : MethodName) (a b : Lists MethodName) → f ≡ fact.Called c m → item ≡ m → ((other : Name) → items_at b other ≡ (if is_same c other then items_at a other ++ item ∷ [] else items_at a other)) → PutsCalled f a b
puts_called f c m item a b is same puts = record { exact = λ p. (λ h. into p.0 p.1 ((put_exact a b c item puts p.0 p.1).0 h), λ q. (put_exact a b c item puts p.0 p.1).1 (from p.0 p.1 q)) }
  where
    into : (d : Name) (x : MethodName) → Contains (items_at a d) x ⊎ ((c ≡ d) × (item ≡ x)) → Contains (items_at a d) x ⊎ (f ≡ fact.Called d x)
    into d x (inl h) = inl h
    into d x (inr q) = let e = sym same ∙ q.1 in inr (is ∙ (λ i. fact.Called (q.0 i) (e i)))

    from : (d : Name) (x : MethodName) → Contains (items_at a d) x ⊎ (f ≡ fact.Called d x) → Contains (items_at a d) x ⊎ ((c ≡ d) × (item ≡ x))
    from d x (inl h) = inl h
    from d x (inr e) = inr (same_called_class c d m x (sym is ∙ e), same ∙ same_called_method c d m x (sym is ∙ e))

pub are_called : (facts : List Fact) (n : ℕ) (none called : Lists MethodName) → length facts ≤ n → ((name : Name) → items_at none name ≡ []) → Adds IsListed (OfFirst facts n (λ f p. f ≡ fact.Called p.0 p.1)) none called → AreCalled facts called
are_called facts n none called over empty f = record { exact = λ c m. let both = (each_ends IsListed (λ (g : Fact) (p : Name × MethodName). g ≡ fact.Called p.0 p.1) facts n none called over f).exact (c, m) in (λ h. into c m (both.0 h), λ h. both.1 (inr (fact_is facts (λ (p : Name × MethodName). fact.Called p.0 p.1) (c, m) h))) }
  where
    into : (c : Name) (m : MethodName) → Contains (items_at none c) m ⊎ OfOne facts (λ (g : Fact) (p : Name × MethodName). g ≡ fact.Called p.0 p.1) (c, m) → Contains facts (fact.Called c m)
    into c m (inl h) = nothing_in m (subst (λ (l : List MethodName). Contains l m) (empty c) h)
    into c m (inr q) = is_fact facts (λ (p : Name × MethodName). fact.Called p.0 p.1) (c, m) q

-- the methods that may be called on instances of a class
pub puts_these : {X : Type 0} (xs : List X) (n : ℕ) (a b : List X) → length xs ≤ n → Puts (OfFirst xs n (λ x y. x ≡ y)) a b → Puts (Contains xs) a b
puts_these xs n a b over f = adds_as Contains _ (Contains xs) a b (one_itself xs) (itself_one xs) (each_ends Contains (λ x y. x ≡ y) xs n a b over f)

pub puts_at : (called : Lists MethodName) (name : Name) (list a b : List MethodName) → list ≡ items_at called name → Puts (Contains list) a b → Puts (Contains (items_at called name)) a b
puts_at called name list a b e f = subst (λ (l : List MethodName). Puts (Contains l) a b) e f

pub puts_wanted : (w : Classes) (called : Lists MethodName) (c : Name) (names : List Name) (a b : List MethodName) → AreAncestors w c names → Puts (OfOne names (λ receiver. Contains (items_at called receiver))) a b → Puts (IsWantedFrom w called c) a b
puts_wanted w called c names a b are f = adds_as Contains _ (IsWantedFrom w called c) a b (λ m q. record { receiver = q.thing; among = q.holds; below = (are.exact q.thing).0 q.among }) (λ m q. record { thing = q.receiver; among = (are.exact q.receiver).1 q.below; holds = q.among }) f

pub same_next : (o : _) (a b : Name) → o ≡ Some a → o ≡ Some b → a ≡ b
same_next o a b h k = let s : Some a ≡ Some b = sym h ∙ k in cc

pub puts_at_next : (w : Classes) (called : Lists MethodName) (c above : Name) (a b : List MethodName) → Some above ≡ next_on_chain w c → Puts (IsWantedFrom w called above) a b → Puts (IsWantedAboveFrom w called c) a b
puts_at_next w called c above a b is f = adds_as Contains (IsWantedFrom w called above) (IsWantedAboveFrom w called c) a b (λ m q. record { superclass = above; is_next = sym is; wanted = q }) (λ m q. subst (λ (d : Name). IsWantedFrom w called d m) (same_next (next_on_chain w c) q.superclass above q.is_next (sym is)) q.wanted) f

pub puts_without_next : (w : Classes) (called : Lists MethodName) (c : Name) (a : List MethodName) → None ≡ next_on_chain w c → Puts (IsWantedAboveFrom w called c) a a
puts_without_next w called c a is = adds_none Contains (IsWantedAboveFrom w called c) a (λ m q. let e : None ≡ Some q.superclass = is ∙ q.is_next in let z : ⊥ = cc in z)

module _ (w : Classes) (facts : List Fact) (called : Lists MethodName) (are : AreCalled facts called) where
  pub wanted_here : (c : Name) (m : MethodName) → IsWantedFrom w called c m → IsWanted w facts c m
  wanted_here c m q = record { receiver = q.receiver; called = (are.exact q.receiver m).0 q.among; below = q.below }

  pub wanted_there : (c : Name) (m : MethodName) → IsWanted w facts c m → IsWantedFrom w called c m
  wanted_there c m q = record { receiver = q.receiver; among = (are.exact q.receiver m).1 q.called; below = q.below }

  pub wanted_above : (c : Name) (names : List MethodName) → ((m : MethodName) → Contains names m ↔ IsWantedAboveFrom w called c m) → (m : MethodName) → Contains names m ↔ IsWantedAbove w facts c m
  wanted_above c names exact m = (λ h. let q = (exact m).0 h in record { superclass = q.superclass; is_next = q.is_next; wanted = wanted_here q.superclass m q.wanted }, λ q. (exact m).1 (record { superclass = q.superclass; is_next = q.is_next; wanted = wanted_there q.superclass m q.wanted }))

-- the reflective names
same_body : (k l : Member) → fact.Body k ≡ fact.Body l → k ≡ l
same_body k l e = cc

same_form : (p q : MethodName) → Reflective p ≡ Reflective q → p ≡ q
same_form p q e = cc

pub puts_form : (form : BodyForm) (p : MethodName) (a b : List MethodName) → form ≡ Reflective p → Puts (λ q. p ≡ q) a b → Puts (λ q. form ≡ Reflective q) a b
puts_form form p a b is f = adds_as Contains (λ q. p ≡ q) (λ q. form ≡ Reflective q) a b (λ q e. is ∙ ap Reflective e) (λ q e. same_form p q (sym is ∙ e)) f

pub puts_forms : (forms : List BodyForm) (n : ℕ) (a b : List MethodName) → length forms ≤ n → Puts (OfFirst forms n (λ form q. form ≡ Reflective q)) a b → Puts (λ q. Contains forms (Reflective q)) a b
puts_forms forms n a b over f = adds_as Contains _ (λ q. Contains forms (Reflective q)) a b (λ q h. subst (λ (form : BodyForm). Contains forms form) h.holds h.among) (λ q h. record { thing = Reflective q; among = h; holds = refl }) (each_ends Contains (λ form q. form ≡ Reflective q) forms n a b over f)

pub puts_forms_by : (d : MethodDef) (forms listed : List BodyForm) (a b : List MethodName) → forms ≡ forms_by d → listed ≡ forms → Puts (λ q. Contains listed (Reflective q)) a b → Puts (λ q. Contains (forms_by d) (Reflective q)) a b
puts_forms_by d forms listed a b is same f = subst (λ (l : List BodyForm). Puts (λ q. Contains l (Reflective q)) a b) (same ∙ is) f

pub puts_in : (w : Classes) (k : Member) (d : MethodDef) (a b : List MethodName) → IsMethodOf w k d → Puts (λ q. Contains (forms_by d) (Reflective q)) a b → Puts (IsReflectiveIn w k) a b
puts_in w k d a b is f = adds_as Contains _ (IsReflectiveIn w k) a b (λ q h. record { definition = d; defined = is; calls = h }) (λ q r. subst (λ (e : MethodDef). Contains (forms_by e) (Reflective q)) (one_method w k r.definition d r.defined is) r.calls) f

pub puts_none_in : (w : Classes) (k : Member) (a : List MethodName) → ((d : MethodDef) → IsMethodOf w k d → ⊥) → Puts (IsReflectiveIn w k) a a
puts_none_in w k a none = adds_none Contains (IsReflectiveIn w k) a (λ q r. none r.definition r.defined)

pub puts_body : (w : Classes) (f : Fact) (k : Member) (a b : List MethodName) → f ≡ fact.Body k → Puts (IsReflectiveIn w k) a b → Puts (IsReflectiveBy w f) a b
puts_body w f k a b is puts = adds_as Contains (IsReflectiveIn w k) (IsReflectiveBy w f) a b (λ q r. record { member = k; needed = is; reflective = r }) (λ q r. subst (λ (l : Member). IsReflectiveIn w l q) (same_body r.member k (sym r.needed ∙ is)) r.reflective) puts

pub are_reflective : (w : Classes) (facts : List Fact) (n : ℕ) (names : List MethodName) → length facts ≤ n → Puts (OfFirst facts n (IsReflectiveBy w)) [] names → AreReflective w facts names
are_reflective w facts n names over f = record { exact = λ p. let both = only_these (IsReflectiveBy w) facts n names over f p in (λ h. into p (both.0 h), λ r. both.1 (from p r)) }
  where
    into : (p : MethodName) → OfOne facts (IsReflectiveBy w) p → IsReflective w facts p
    into p q = record { member = q.holds.member; needed = subst (λ (f : Fact). Contains facts f) q.holds.needed q.among; definition = q.holds.reflective.definition; defined = q.holds.reflective.defined; calls = q.holds.reflective.calls }

    from : (p : MethodName) → IsReflective w facts p → OfOne facts (IsReflectiveBy w) p
    from p r = record { thing = fact.Body r.member; among = r.needed; holds = record { member = r.member; needed = refl; reflective = record { definition = r.definition; defined = r.defined; calls = r.calls } } }

-- the definition of a member
same_class : (o : _) (a b : ClassDef) → Some a ≡ o → o ≡ Some b → a ≡ b
same_class o a b e f = let s : Some a ≡ Some b = e ∙ f in cc

pub is_method_of : (w : Classes) (k : Member) (class : ClassDef) (methods : List MethodDef) (d : MethodDef) → Some class ≡ class_of w k.class → methods ≡ class.methods → IsFirst (IsMethod k) methods d → IsMethodOf w k d
is_method_of w k class methods d is same first = record { class = class; is_class = sym is; first = subst (λ (l : List MethodDef). IsFirst (IsMethod k) l d) same first }

pub no_method_of : (w : Classes) (k : Member) (class : ClassDef) (methods : List MethodDef) → Some class ≡ class_of w k.class → methods ≡ class.methods → HasNone (IsMethod k) methods → (d : MethodDef) → IsMethodOf w k d → ⊥
no_method_of w k class methods is same none d m = none.none m.first.place d (subst (λ (l : List MethodDef). slice_get l m.first.place ≡ Some d) (sym (same ∙ ap (λ (c : ClassDef). c.methods) (same_class (class_of w k.class) class m.class is m.is_class))) m.first.stands) m.first.has

pub no_class_of : (w : Classes) (k : Member) → None ≡ class_of w k.class → (d : MethodDef) → IsMethodOf w k d → ⊥
no_class_of w k none d m = let s : None ≡ Some m.class = none ∙ m.is_class in absurd (let t : ⊥ = cc in t)

pub puts_none_wanted : (w : Classes) (called : Lists MethodName) (c : Name) (a : List MethodName) → is_known w c ≡ false → Puts (IsWantedFrom w called c) a a
puts_none_wanted w called c a unknown = adds_none Contains (IsWantedFrom w called c) a (λ m q. let e : true ≡ false = sym q.below.known ∙ unknown in let z : ⊥ = cc in z)
