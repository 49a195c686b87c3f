-- An accepted folder has one world, and as many needed bodies however they are listed.
use Rattle.std.proofs.Common.{◌≡◌, ◌≤◌, suc, List, [], ◌∷◌, ◌⊎◌, inl, inr, refl, sym, ap, subst, ◌∙◌, Contains, length, arith}
use Rattle.declared_pieces.specs.EmittedMethods.{EmittedMethod, HaveOwnMembers}
use Rattle.sj_read_spec.proofs.ExactFiles.{one_answer}
use Rattle.sj_names.specs.declared.entry_points.EntryPoint.{EntryPoint}
use Rattle.sj_names.specs.declared.folders.SourceFile.{SourceFile}
use Rattle.sj_split.proofs.Members.{at_first, further, cons_cases}
use Rattle.sj_world.proofs.OneWorld.{one_world}
use Rattle.sj_world.specs.Known.{Classes}
use Rattle.sj_world.specs.Refusals.{IsWorldOf}
use Rattle.worklist.proofs.Inserted.{nothing_in}
use Rattle.declared_pieces.proofs.Firsts.{standing, same_lists}
use Rattle.declared_pieces.specs.Stages.{AreRead}
use Rattle.declared_pieces.specs.Verdicts.{accepted}
use Rattle.declared_pieces.specs.Accepted.{IsAccepted}
use Rattle.declared_pieces.specs.Bodies.{AreBodies}
use Rattle.linked_folders.proofs.One.{same_bodies}

module _ (entries : List EntryPoint) (files : List SourceFile) where
  same_classes : (classes others : Classes) → AreRead files classes → AreRead files others → classes ≡ others
  same_classes classes others are too = same_lists classes others (are.whole ∙ sym too.whole) (λ i class other at at_too. (let s = standing files classes i class (sym are.whole) at in (one_answer s.item.bytes).one_class class other (are.each i s.item class s.at at) (too.each i s.item other s.at at_too)))

  -- an accepted folder has one world
  pub same_world : (w u : Classes) → IsAccepted entries files w → IsAccepted entries files u → w ≡ u
  same_world w u a b = one_world a.classes w u a.world (subst (λ (c : Classes). IsWorldOf c u) (same_classes b.classes a.classes b.read a.read) b.world)

  -- the world of the classes that are read
  pub world_is : (classes w u : Classes) → IsAccepted entries files w → AreRead files classes → IsWorldOf classes u → w ≡ u
  world_is classes w u a are world = one_world a.classes w u a.world (subst (λ (c : Classes). IsWorldOf c u) (same_classes classes a.classes are a.read) world)

-- a list without one of its things
data Without {X : Type 0} (x : X) : List X → List X → Type 0 where
  without_first : (xs : List X) → Without x (x ∷ xs) xs
  without_later : (y : X) (xs ys : List X) → Without x xs ys → Without x (y ∷ xs) (y ∷ ys)

record Rest {X : Type 0} (x : X) (xs : List X) : Type 0 where
  rest : List X
  is : Without x xs rest

rest_of : {X : Type 0} (x : X) (xs : List X) → Contains xs x → Rest x xs
rest_of x [] h = nothing_in x h
rest_of {X} x (y ∷ xs) h = go (cons_cases y x xs h) (rest_of x xs)
  where
    go : (y ≡ x) ⊎ Contains xs x → (Contains xs x → Rest x xs) → Rest x (y ∷ xs)
    go (inl e) f = subst (λ (z : X). Rest x (z ∷ xs)) (sym e) (record { rest = xs; is = without_first xs })
    go (inr later) f = let r = f later in record { rest = y ∷ r.rest; is = without_later y xs r.rest r.is }

one_fewer : {X : Type 0} (x : X) (xs ys : List X) → Without x xs ys → length xs ≡ suc (length ys)
one_fewer x _ _ (without_first xs) = refl
one_fewer x _ _ (without_later y xs ys w) = ap suc (one_fewer x xs ys w)

still_there : {X : Type 0} (x y : X) (xs ys : List X) → Without x xs ys → Contains xs y → (x ≡ y) ⊎ Contains ys y
still_there x y _ _ (without_first xs) h = cons_cases x y xs h
still_there {X} x y _ _ (without_later z xs ys w) h = go (cons_cases z y xs h) (still_there x y xs ys w)
  where
    go : (z ≡ y) ⊎ Contains xs y → (Contains xs y → (x ≡ y) ⊎ Contains ys y) → (x ≡ y) ⊎ Contains (z ∷ ys) y
    go (inl e) f = inr (subst (λ (a : X). Contains (a ∷ ys) y) (sym e) (at_first y ys))
    go (inr later) f = after (f later)
      where
        after : (x ≡ y) ⊎ Contains ys y → (x ≡ y) ⊎ Contains (z ∷ ys) y
        after (inl e) = inl e
        after (inr l) = inr (further z y ys l)

-- each thing differs from those behind it
abbrev pub Differ : {X : Type 0} → List X → Type 0
Differ [] = Unit {0}
Differ {X} (x ∷ xs) = ((y : X) → Contains xs y → x ≡ y → ⊥) × Differ xs

-- things that differ are no more than those that they are all among
pub no_more : {X : Type 0} (xs ys : List X) → Differ xs → ((x : X) → Contains xs x → Contains ys x) → length xs ≤ length ys
no_more [] ys differ each = omega arith
no_more {X} (x ∷ xs) ys differ each =
    let r = rest_of x ys (each x (at_first x xs)) in
    let l = no_more xs r.rest differ.1 (λ y h. other r.rest y h (still_there x y ys r.rest r.is (each y (further x y xs h)))) in
    omega (arith, l, one_fewer x ys r.rest r.is)
  where
    other : (rest : List X) (y : X) → Contains xs y → (x ≡ y) ⊎ Contains rest y → Contains rest y
    other rest y h (inl same) = absurd (differ.0 y h same)
    other rest y h (inr later) = later

own_differ : (es : List EmittedMethod) → HaveOwnMembers es → Differ es
own_differ [] own = tt
own_differ (e ∷ es) own = (λ o h same. own.0 o h (ap (λ (x : EmittedMethod). x.member) same), own_differ es own.1)

pub as_many : (w : Classes) (entries : List EntryPoint) (all more : List EmittedMethod) → AreBodies w entries all → AreBodies w entries more → length all ≡ length more
as_many w entries all more one other =
    let to = no_more all more (own_differ all one.own) (same_bodies w entries all more one other) in
    let back = no_more more all (own_differ more other.own) (same_bodies w entries more all other one) in
    omega (arith, to, back)
