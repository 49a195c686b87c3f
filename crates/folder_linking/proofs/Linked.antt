-- A folder is linked: its pieces are those of all needed bodies, and its files those of the plan.
use Rattle.std.proofs.Common.{◌≡◌, ◌↔◌, ℕ, suc, Bool, true, false, List, [], ◌∷◌, ◌⊎◌, inl, inr, Some, refl, sym, ap, subst, ◌∙◌, map, length, Contains, arith}
use Rattle.std.specs.Prelude.{Result, Ok, Err, IfOk}
use Rattle.std.specs.List.{All, AllByRecursion, IsDistinct}
use Rattle.std.proofs.lemmas.List.{length-map}
use Rattle.std.proofs.lemmas.List.Sorted.{Contains-permutation, IsPermutation-sym}
use Rattle.std.proofs.lemmas.Map.Keys.{IsDistinct-cons}
use Rattle.std.proofs.lemmas.Option.{slice_get-get_or}
use Rattle.js_tree.specs.Rules.{IsPiece}
use Rattle.js_tree.specs.Terms.{Piece}
use Rattle.js_tree.specs.Views.{piece_view}
use Rattle.js_tree.specs.declared.items.JsPiece.{JsPiece}
use Rattle.agree_soundness.specs.EmittedMethods.{EmittedMethod, HaveOwnMembers}
use Rattle.world_pieces.specs.EmittedMethods.{HasFunction}
use Rattle.sj_names.proofs.Equal.{member_decides}
use Rattle.sj_names.specs.contracts.method_names.MemberPartialEq.TheImpl as member_eq
use Rattle.sj_names.specs.declared.entry_points.EntryPoint.{EntryPoint}
use Rattle.sj_names.specs.declared.method_names.Member.{Member}
use Rattle.sj_reach.specs.Answers.{StandOnce, AreReachable}
use Rattle.sj_reach.specs.Reachable.{Reachable}
use Rattle.sj_split.proofs.Members.{at_first, further, cons_cases, into_map, from_map}
use Rattle.sj_world.specs.Known.{Classes}
use Rattle.sj_world.specs.Linked.{Linked}
use Rattle.sj_world.specs.declared.facts.Fact.{Fact}
use Rattle.sj_world.specs.declared.facts.Fact.TheVariants as fact
use Rattle.folder_judging.proofs.FolderJudgingSpecDefined.{needed_bodies}
use Rattle.folder_judging.specs.Stages.{IsDefined, KeepRules}
use Rattle.worklist.proofs.Inserted.{nothing_in}
use Rattle.linked_modules.specs.Bodies.{AreBodies}
use Rattle.folder_judging.specs.Counts.{members_of, bodies_among}
use Rattle.linked_modules.proofs.LinkedFoldersEdits.{Differ, no_more}
use Rattle.linked_modules.proofs.Names.{names_tell}
use Rattle.folder_linking.specs.declared.functions.Function.{Function}
use Rattle.folder_linking.specs.Functions.{AreFunctions, piece}
use Rattle.folder_linking.specs.Linking.{IsLinkable, ArePrintable}
use Rattle.world_pieces.specs.Pieces.{piece_of_member, AreLinkedPieces}
use Rattle.world_pieces.specs.Names.{NamesTell}
use Rattle.folder_linking.proofs.Objects.{body_on_objects}
use Rattle.folder_linking.proofs.Methods.{methods, members_are, pieces_are, methods_found, pieces_keep}

abbrev is_one : Member → Member → Bool
is_one = member_eq.ghosts.eq

same_test : (a b : Member) (s t : Bool) → is_one a b ≡ s → is_one b a ≡ t → s ≡ t
same_test a b true true h k = refl
same_test a b false false h k = refl
same_test a b true false h k = sym ((member_decides b a).1 (sym ((member_decides a b).0 h))) ∙ k
same_test a b false true h k = sym (sym ((member_decides a b).1 (sym ((member_decides b a).0 k))) ∙ h)

flips : (a b : Member) → is_one a b ≡ is_one b a
flips a b = same_test a b _ _ refl refl

-- the members of facts
to_members : (facts : List Fact) (k : Member) → Contains facts (fact.Body k) → Contains (members_of facts) k
to_members [] k h = nothing_in _ h
to_members (f ∷ facts) k h = go f (cons_cases f (fact.Body k) facts h) (to_members facts k)
  where
    same_body : (j : Member) → fact.Body j ≡ fact.Body k → j ≡ k
    same_body j e = cc

    go : (g : Fact) → (g ≡ fact.Body k) ⊎ Contains facts (fact.Body k) → (Contains facts (fact.Body k) → Contains (members_of facts) k) → Contains (members_of (g ∷ facts)) k
    go (fact.Needed c) (inl e) rest = absurd (cc)
    go (fact.Needed c) (inr later) rest = rest later
    go (fact.Made c) (inl e) rest = absurd (cc)
    go (fact.Made c) (inr later) rest = rest later
    go (fact.CellUsed c) (inl e) rest = absurd (cc)
    go (fact.CellUsed c) (inr later) rest = rest later
    go (fact.NeededField c f s) (inl e) rest = absurd (cc)
    go (fact.NeededField c f s) (inr later) rest = rest later
    go (fact.Body j) (inl e) rest = subst (λ (m : Member). Contains (m ∷ members_of facts) k) (sym (same_body j e)) (at_first k (members_of facts))
    go (fact.Body j) (inr later) rest = further j k (members_of facts) (rest later)
    go (fact.Called c m) (inl e) rest = absurd (cc)
    go (fact.Called c m) (inr later) rest = rest later

from_members : (facts : List Fact) (k : Member) → Contains (members_of facts) k → Contains facts (fact.Body k)
from_members [] k h = nothing_in _ h
from_members (f ∷ facts) k h = go f h (from_members facts k)
  where
    go : (g : Fact) → Contains (members_of (g ∷ facts)) k → (Contains (members_of facts) k → Contains facts (fact.Body k)) → Contains (g ∷ facts) (fact.Body k)
    go (fact.Needed c) i rest = further (fact.Needed c) (fact.Body k) facts (rest i)
    go (fact.Made c) i rest = further (fact.Made c) (fact.Body k) facts (rest i)
    go (fact.CellUsed c) i rest = further (fact.CellUsed c) (fact.Body k) facts (rest i)
    go (fact.NeededField c f s) i rest = further (fact.NeededField c f s) (fact.Body k) facts (rest i)
    go (fact.Body j) i rest = elim (cons_cases j k (members_of facts) i) [ inl e ↦ subst (λ (m : Member). Contains (fact.Body m ∷ facts) (fact.Body k)) (sym e) (at_first (fact.Body k) facts) | inr later ↦ further (fact.Body j) (fact.Body k) facts (rest later) ]
    go (fact.Called c m) i rest = further (fact.Called c m) (fact.Body k) facts (rest i)

pub needed_members : (facts : List Fact) (k : Member) → Contains facts (fact.Body k) ↔ Contains (members_of facts) k
needed_members facts k = (to_members facts k, from_members facts k)

-- each member is another
tail_once : (f : Fact) (facts : List Fact) → StandOnce (f ∷ facts) → StandOnce facts
tail_once f facts s = record { once = λ i j g at there. down i j (s.once (suc i) (suc j) g at there) }
  where
    down : (i j : ℕ) → suc i ≡ suc j → i ≡ j
    down i j e = omega (arith, e)

not_again : (f : Fact) (facts : List Fact) → StandOnce (f ∷ facts) → Contains facts f → ⊥
not_again f facts s h = zero_is_not h.0 (s.once 0 (suc h.0) f refl (slice_get-get_or facts h.0 f h.1 ∙ ap Some h.2))
  where
    zero_is_not : (i : ℕ) → 0 ≡ suc i → ⊥
    zero_is_not i e = omega (arith, e)

others : (k : Member) (ks : List Member) → (Contains ks k → ⊥) → AllByRecursion (λ j. is_one k j ≡ false) ks
others k [] new = tt
others k (j ∷ ks) new = (go (is_one k j) refl, others k ks (λ h. new (further j k ks h)))
  where
    go : (b : Bool) → is_one k j ≡ b → is_one k j ≡ false
    go true e = absurd (new (subst (λ (m : Member). Contains (m ∷ ks) k) ((member_decides k j).0 e) (at_first k ks)))
    go false e = e

nothing_distinct : IsDistinct is_one []
unfolding IsDistinct
nothing_distinct = tt

members_distinct : (facts : List Fact) → StandOnce facts → IsDistinct is_one (members_of facts)
members_distinct [] s = nothing_distinct
members_distinct (fact.Needed c ∷ facts) s = members_distinct facts (tail_once _ facts s)
members_distinct (fact.Made c ∷ facts) s = members_distinct facts (tail_once _ facts s)
members_distinct (fact.CellUsed c ∷ facts) s = members_distinct facts (tail_once _ facts s)
members_distinct (fact.NeededField c f m ∷ facts) s = members_distinct facts (tail_once _ facts s)
members_distinct (fact.Body k ∷ facts) s = IsDistinct-cons is_one k (members_of facts) (others k (members_of facts) (λ h. not_again (fact.Body k) facts s (from_members facts k h))) (members_distinct facts (tail_once _ facts s))
members_distinct (fact.Called c m ∷ facts) s = members_distinct facts (tail_once _ facts s)

distinct_head : (k : Member) (ks : List Member) → IsDistinct is_one (k ∷ ks) → AllByRecursion (λ j. is_one k j ≡ false) ks
unfolding IsDistinct
distinct_head k ks d = d.0

distinct_tail : (k : Member) (ks : List Member) → IsDistinct is_one (k ∷ ks) → IsDistinct is_one ks
unfolding IsDistinct
distinct_tail k ks d = d.1

not_among : (k : Member) (ks : List Member) → AllByRecursion (λ j. is_one k j ≡ false) ks → Contains ks k → ⊥
not_among k [] all h = nothing_in k h
not_among k (j ∷ ks) all h = elim (cons_cases j k ks h) [ inl e ↦ wrong (is_one k j) ((member_decides k j).1 (sym e)) all.0 | inr later ↦ not_among k ks all.1 later ]
  where
    wrong : (b : Bool) → b ≡ true → b ≡ false → ⊥
    wrong b p q = cc

abbrev member_in : EmittedMethod → Member
member_in e = e.member

own_members : (es : List EmittedMethod) → IsDistinct is_one (map member_in es) → HaveOwnMembers es
own_members [] d = tt
own_members (e ∷ es) d = (λ o h same. not_among e.member (map member_in es) (distinct_head e.member (map member_in es) d) (subst (Contains (map member_in es)) (sym same) (into_map member_in es o h)), own_members es (distinct_tail e.member (map member_in es) d))

-- how many bodies are needed
distinct_differ : (ks : List Member) → IsDistinct is_one ks → Differ ks
distinct_differ [] d = tt
distinct_differ (k ∷ ks) d = (λ j h same. not_among k ks (distinct_head k ks d) (subst (Contains ks) (sym same) h), distinct_differ ks (distinct_tail k ks d))

own_differ : (es : List EmittedMethod) → HaveOwnMembers es → Differ (map member_in es)
own_differ [] own = tt
own_differ (e ∷ es) own = (λ k h same. (let m = from_map member_in es k h in own.0 m.item m.among (same ∙ sym m.is)), own_differ es own.1)

pub bodies_many : (w : Classes) (entries : List EntryPoint) (facts : List Fact) (all : List EmittedMethod) → AreReachable w entries facts → AreBodies w entries all → length all ≡ bodies_among facts
bodies_many w entries facts all reached bodies =
    let to = no_more (map member_in all) (members_of facts) (own_differ all bodies.own) (λ k h. (let m = from_map member_in all k h in to_members facts k ((reached.exact (fact.Body k)).1 ((bodies.exact k).0 (record { method = m.item; listed = m.among; is = m.is }))))) in
    let back = no_more (members_of facts) (map member_in all) (distinct_differ (members_of facts) (members_distinct facts reached.once)) (λ k h. (let f = (bodies.exact k).1 ((reached.exact (fact.Body k)).0 (from_members facts k h)) in subst (Contains (map member_in all)) f.is (into_map member_in all f.method f.listed))) in
    omega (arith, to, back, length-map all member_in)

-- each needed body is defined
pub all_defined : (entries : List EntryPoint) (l : Linked) → IsLinkable entries l → (k : Member) → Contains (members_of l.facts) k → IsDefined l.world k
all_defined entries l can k h = needed_bodies l.world entries keeps can.is_accepted.resolved k ((can.reached.exact (fact.Body k)).0 (from_members l.facts k h))
  where
    keeps : KeepRules l.world
    keeps c among = can.is_accepted.kept c (Contains-permutation l.world can.is_accepted.classes c (IsPermutation-sym can.is_accepted.classes l.world can.is_accepted.world.sorted.same) among)

module _ (entries : List EntryPoint) (l : Linked) (can : IsLinkable entries l) (fs : List Function) (are : AreFunctions l.world (members_of l.facts) fs) where
  abbrev pub all : List EmittedMethod
  all = methods l.world fs are.each

  same_members : map member_in all ≡ members_of l.facts
  same_members = members_are l.world fs are.each ∙ are.members_are

  exact : (k : Member) → HasFunction all k ↔ Reachable l.world entries (fact.Body k)
  exact k = (to, back)
    where
      to : HasFunction all k → Reachable l.world entries (fact.Body k)
      to h = let i : Contains (map member_in all) k = subst (Contains (map member_in all)) h.is (into_map member_in all h.method h.listed) in (can.reached.exact (fact.Body k)).0 (from_members l.facts k (subst (λ (ks : List Member). Contains ks k) same_members i))

      back : Reachable l.world entries (fact.Body k) → HasFunction all k
      back r =
          let i : Contains (members_of l.facts) k = to_members l.facts k ((can.reached.exact (fact.Body k)).1 r) in
          let m = from_map member_in all k (subst (λ (ks : List Member). Contains ks k) (sym same_members) i) in
          record { method = m.item; listed = m.among; is = m.is }

  pub own : HaveOwnMembers all
  own = own_members all (subst (IsDistinct is_one) (sym same_members) (members_distinct l.facts can.reached.once))

  bodies : AreBodies l.world entries all
  bodies = record { exact = exact; found = methods_found l.world fs are.each; own = own }

  pub tell : NamesTell all
  tell = names_tell entries can.files l.world all can.is_accepted bodies

  -- the pieces of the functions are those of all needed bodies, and keep the rules of printing
  views : (gs : List Function) → map piece_view (map piece gs) ≡ map (λ (f : Function). piece_view f.piece) gs
  views [] = refl
  views (g ∷ gs) = ap (λ (qs : List Piece). piece_view g.piece ∷ qs) (views gs)

  pub pieces_of_bodies : (ps : List JsPiece) → ps ≡ map piece fs → map piece_view ps ≡ map (piece_of_member l.world) all
  pieces_of_bodies ps made = ap (map piece_view) made ∙ views fs ∙ sym (pieces_are l.world fs are.each)

  pub bodies_keep : (ps : List JsPiece) → ps ≡ map piece fs → All IsPiece (map piece_view ps)
  bodies_keep ps made = subst (All IsPiece) (sym (ap (map piece_view) made ∙ views fs)) (pieces_keep l.world fs are.each (body_on_objects entries can.files l.world can.is_accepted all bodies))

  -- and those with the pieces of the classes can be printed
  pub printable : (ps : List Piece) → AreLinkedPieces l all ps → All IsPiece ps → ArePrintable l.world entries ps
  printable ps pieces rules = record {
    are = record { all = all; bodies = bodies; facts = l.facts; are_facts = can.reached.exact; linked = l; is_linked = record { world = refl; facts_are = refl; entries = can.method_entries }; are = pieces };
    rules = rules;
  }

-- two things that are known of what was answered
pub both_known : {A E : Type 0} (r : Result A E) (P Q R : A → Type 0) → ((a : A) → P a → Q a → R a) → IfOk r P → IfOk r Q → IfOk r R
both_known (Ok a) P Q R f p q = f a p q
both_known (Err e) P Q R f p q = tt
