-- Numbers that are given out.
use Rattle.std.proofs.Common.{◌≡◌, ℕ, zero, suc, ◌+◌, ◌<◌, Bool, true, false, not, List, [], ◌∷◌, ◌++◌, Contains, refl, sym, ap, ◌∙◌, subst, length, set, get_or, arith, inl, inr, cond, map, take, Some, None}
use Rattle.std.specs.Prelude.{◌⊎◌, ◌≢◌, Vec, position, nat_lt}
use Rattle.std.specs.Global.{Global}
use Rattle.std.specs.List.{list_any, position_or_len}
use Rattle.std.specs.Cmp.Lexicographic.{nat_list_eq_equiv}
use Rattle.std.proofs.lemmas.Bool.Decides.{nat_tests}
use Rattle.sj_names.specs.declared.entry_points.EntryPoint.{EntryPoint}
use Rattle.std.proofs.lemmas.Slice.Eq.{bytes_eq-Decides}
use Rattle.std.proofs.lemmas.Map.Views.{list_any-from_Contains}
use Rattle.std.proofs.lemmas.List.{length-append, length-set, take_more, map-append}
use Rattle.std.proofs.lemmas.List.Elements.{Contains-push_cases, Contains-push, Contains-append_left}
use Rattle.sj_graph.specs.declared.graphs.Reference.{Reference}
use Rattle.sj_graph.specs.References.{reference}
use Rattle.number_graphs.specs.Graphs.{At, Leads, Lists, next_of}
use Rattle.number_graphs.proofs.Places.{within, one_at, at_left, at_push, contains_at, among}
use Rattle.number_graphs.proofs.Listed.{leads_from, leads_left, leads_old, leads_more, LeadsMore}
use Rattle.class_numbers.specs.Numbering.{Name, is_same, Keeps, IsListed, AreNumbered, class_of}

pub same_name : (a b : Name) → is_same a b ≡ true → a ≡ b
same_name a b = (bytes_eq-Decides a b).0

pub none_numbered : (classes : List Name) (next : Lists) → classes ≡ [] → next ≡ [] → AreNumbered [] classes next
none_numbered classes next no_class none = record {
  whole = ap (λ (l : Lists). length l) none ∙ sym (ap (λ (l : List Name). length l) no_class);
  once = λ i j class at_i at_j. empty i class at_i;
  graph = λ i j leads. absurd (let low = leads_from next i j leads in let e : length next ≡ 0 = ap (λ (l : Lists). length l) none in omega (arith, low, e));
  right = λ i j a b at_i at_j leads. empty i a at_i;
  listed = λ one h. absurd (let p : h.0 < 0 = h.1 in omega arith);
}
  where
    empty : {A : Type 0} (i : ℕ) (class : Name) → At classes i class → A
    empty i class at = let wrong : At {X = Name} [] i class = subst (λ (l : List Name). At l i class) no_class at in cc

module _ (references : List Reference) (classes : List Name) (next : Lists) (n : AreNumbered references classes next) where
  -- a class more, with an empty list
  pub numbered_more : (class : Name) (list : Vec ℕ Global) → list_any (is_same class) classes ≡ false → list.items ≡ [] → AreNumbered references (classes ++ class ∷ []) (next ++ list ∷ [])
  numbered_more class list absent none = record {
    whole = (let e = n.whole in omega (arith, e, length-append next (list ∷ []), length-append classes (class ∷ [])));
    once = λ i j one at_i at_j. single i j one (at_push classes class i one at_i) (at_push classes class j one at_j);
    graph = λ i j leads. (let low = n.graph i j (leads_old next list i j none leads) in omega (arith, low, length-append next (list ∷ [])));
    right = λ i j a b at_i at_j leads. (let old = leads_old next list i j none leads in n.right i j a b (placed i a (leads_from next i j old) at_i) (placed j b (n.graph i j old) at_j) old);
    listed = λ one h. (let l = n.listed one h in record { from = l.from; to = l.to; is_from = at_left classes (class ∷ []) l.from one.from l.is_from; is_to = at_left classes (class ∷ []) l.to one.to l.is_to; leads = leads_left next (list ∷ []) l.from l.to l.leads });
  }
    where
      placed : (i : ℕ) (a : Name) → i < length next → At (classes ++ class ∷ []) i a → At classes i a
      placed i a low at = elim (at_push classes class i a at) [ inl old ↦ old | inr new ↦ (let e = new.0 in let f = n.whole in absurd (omega (arith, e, f, low))) ]

      not_there : {A : Type 0} (i : ℕ) (one : Name) → At classes i one → one ≡ class → A
      not_there i one at e = let wrong : true ≡ false = sym (list_any-from_Contains nat_list_eq_equiv class classes (subst (λ (c : Name). Contains classes c) e (contains_at classes i one at))) ∙ absent in cc

      single : (i j : ℕ) (one : Name) → At classes i one ⊎ ((i ≡ length classes) × (one ≡ class)) → At classes j one ⊎ ((j ≡ length classes) × (one ≡ class)) → i ≡ j
      single i j one (inl x) (inl y) = n.once i j one x y
      single i j one (inl x) (inr y) = not_there i one x y.1
      single i j one (inr x) (inl y) = not_there j one y x.1
      single i j one (inr x) (inr y) = x.0 ∙ sym y.0

  -- a reference more
  pub reference_more : (from to : ℕ) (one : Reference) (list : Vec ℕ Global) → At classes from one.from → At classes to one.to → list.items ≡ next_of next from ++ to ∷ [] → AreNumbered (references ++ one ∷ []) classes (set next from list)
  reference_more from to one list is_from is_to e = record {
    whole = more.whole ∙ n.whole;
    once = n.once;
    graph = λ i j leads. elim (more.cases i j leads) [ inl old ↦ (let low = n.graph i j old in let f = more.whole in omega (arith, low, f)) | inr new ↦ (let low = within classes to one.to is_to in let f = n.whole in let g = new.1 in let h = more.whole in omega (arith, low, f, g, h)) ];
    right = λ i j a b at_i at_j leads. elim (more.cases i j leads) [ inl old ↦ Contains-append_left references (one ∷ []) (reference a b) (n.right i j a b at_i at_j old) | inr new ↦ subst (λ (r : Reference). Contains (references ++ one ∷ []) r) (it i j a b at_i at_j new.0 new.1) (Contains-push references one) ];
    listed = λ other h. elim (Contains-push_cases references one other h) [ inl old ↦ (let l = n.listed other old in record { from = l.from; to = l.to; is_from = l.is_from; is_to = l.is_to; leads = more.kept l.from l.to l.leads }) | inr new ↦ subst (λ (r : Reference). IsListed classes (set next from list) r) new (record { from = from; to = to; is_from = is_from; is_to = is_to; leads = more.leads }) ];
  }
    where
      more : LeadsMore from to next (set next from list)
      more = leads_more next from to list (let inside = within classes from one.from is_from in let f = n.whole in omega (arith, inside, f)) e

      it : (i j : ℕ) (a b : Name) → At classes i a → At classes j b → i ≡ from → j ≡ to → one ≡ reference a b
      it i j a b at_i at_j is_i is_j = let p : one.from ≡ a = one_at classes from one.from a is_from (subst (λ (k : ℕ). At classes k a) is_i at_i) in let q : one.to ≡ b = one_at classes to one.to b is_to (subst (λ (k : ℕ). At classes k b) is_j at_j) in ap (λ x. reference x one.to) p ∙ ap (λ y. reference a y) q

pub still_contains : (old new : List Name) → Keeps old new → (class : Name) → Contains old class → Contains new class
still_contains old new kept class h = let a = among old class h in contains_at new a.place class (kept a.place class a.at)

-- the classes of one entry more
pub class_cases : (entries : List EntryPoint) (index : ℕ) (entry : EntryPoint) (class : Name) → index < length entries → entry ≡ get_or entries index entry → Contains (map class_of (take (index + 1) entries)) class → Contains (map class_of (take index entries)) class ⊎ (entry.class ≡ class)
class_cases entries index entry class low is h = Contains-push_cases (map class_of (take index entries)) entry.class class (subst (λ (l : List Name). Contains l class) (ap (λ (l : List EntryPoint). map class_of l) (take_more entries index entry low ∙ ap (λ (e : EntryPoint). take index entries ++ e ∷ []) (sym is)) ∙ map-append class_of (take index entries) (entry ∷ [])) h)

pub position_found : (test : Name → Bool) (names : List Name) (place : ℕ) → position test names ≡ Some place → (place ≡ position_or_len test names) × (place < length names)
position_found test names place e = go (nat_lt (position_or_len test names) (length names)) refl
  where
    go : (b : Bool) → nat_lt (position_or_len test names) (length names) ≡ b → (place ≡ position_or_len test names) × (place < length names)
    go true low =
        let is : Some (position_or_len test names) ≡ Some place = sym (ap (λ b. cond b (Some (position_or_len test names)) None) low) ∙ e in
        let same : place ≡ position_or_len test names = cc in
        (same, grind (arith, nat_tests))
    go false high = let n : None ≡ Some place = sym (ap (λ b. cond b (Some (position_or_len test names)) None) high) ∙ e in cc

-- a name stands at its first place
stands : (name : Name) (names : List Name) (place : ℕ) → place ≡ position_or_len (is_same name) names → place < length names → At names place name
stands name [] place is low = absurd (omega arith)
stands name (first ∷ names) place is low = go (is_same name first) refl (λ p is_p inside. stands name names p is_p inside)
  where
    go : (b : Bool) → is_same name first ≡ b → ((p : ℕ) → p ≡ position_or_len (is_same name) names → p < length names → At names p name) → At (first ∷ names) place name
    go true e rest = let here : place ≡ 0 = is ∙ ap (λ b. cond (not b) (1 + position_or_len (is_same name) names) 0) e in subst (λ (p : ℕ). At (first ∷ names) p name) (sym here) (ap Some (sym (same_name name first e)))
    go false e rest =
        let there : place ≡ suc (position_or_len (is_same name) names) = is ∙ ap (λ b. cond (not b) (1 + position_or_len (is_same name) names) 0) e ∙ omega arith in
        subst (λ (p : ℕ). At (first ∷ names) p name) (sym there) (rest (position_or_len (is_same name) names) refl (omega (arith, there, low)))

pub found_at : (name : Name) (names : List Name) (place : ℕ) → position (is_same name) names ≡ Some place → At names place name
found_at name names place e = let f = position_found (is_same name) names place e in stands name names place f.0 f.1

pub is_found : (name : Name) (names : List Name) → Contains names name → list_any (is_same name) names ≡ true
is_found name names h = list_any-from_Contains nat_list_eq_equiv name names h
