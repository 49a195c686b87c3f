-- Where no class stands above itself, the chain of superclasses that is worked out has each class to which superclasses lead.
use Rattle.std.proofs.Common.{◌≡◌, ◌≤◌, ◌<◌, ℕ, zero, suc, length, Bool, true, false, ◌||◌, List, [], ◌∷◌, Contains, Option, Some, None, refl, sym, subst, arith, if◌then◌else◌}
use Rattle.std.specs.List.{list_any}
use Rattle.std.proofs.lemmas.List.Elements.{Contains-append_left}
use Rattle.agree_early_errors.proofs.Lists.{at_front}
use Rattle.agree_early_errors.proofs.Plain.{plain_world}
use Rattle.agree_soundness.proofs.Chains.{stands_itself}
use Rattle.agree_soundness.specs.Worlds.{AreClassesKept}
use Rattle.dispatch_laws.specs.Dispatch.{chain_from, chain_of, longest}
use Rattle.sj_names.proofs.Same.{impossible, text-same, text-refl}
use Rattle.sj_names.specs.Same.{is_same_text}
use Rattle.sj_trees.specs.declared.classes.ClassDef.{ClassDef}
use Rattle.dispatch_laws.proofs.LawsHold.{joined}
use Rattle.dispatch_laws.specs.Ancestors.{listed, written_in, superclass_in, next_on_chain, IsWritten, IsNext, IsOnChain}
use Rattle.dispatch_laws.specs.Known.{Name, Classes, is_same, class_of, is_hijacked, object}
use Rattle.dispatch_laws.specs.SjWorldLaws.{IsPlain}
use Rattle.dispatch_laws.specs.Paths.{Path, stay, on}
use Rattle.dispatch_laws.specs.Refusals.{HasNoCycle}

-- the classes whose names aren't among these
abbrev pub unseen : List Name → Classes → ℕ
unseen seen [] = 0
unseen seen (k ∷ w) = if list_any (is_same k.name) seen then unseen seen w else suc (unseen seen w)

either_counted : (a b : Bool) (m n : ℕ) → m ≤ n → (if (a || b) then m else suc m) ≤ (if b then n else suc n)
either_counted true true m n h = h
either_counted true false m n h = omega (arith, h)
either_counted false true m n h = h
either_counted false false m n h = omega (arith, h)

fewer : (d : Name) (seen : List Name) (w : Classes) → unseen (d ∷ seen) w ≤ unseen seen w
fewer d seen [] = omega arith
fewer d seen (k ∷ w) = either_counted (is_same k.name d) (list_any (is_same k.name) seen) (unseen (d ∷ seen) w) (unseen seen w) (fewer d seen w)

same_counted : (b : Bool) (m n : ℕ) → m < n → (if b then m else suc m) < (if b then n else suc n)
same_counted true m n h = h
same_counted false m n h = omega (arith, h)

-- a class of the world that is seen now is one of them fewer
pub less : (d : Name) (seen : List Name) (w : Classes) (k : ClassDef) → class_of w d ≡ Some k → list_any (is_same d) seen ≡ false → unseen (d ∷ seen) w < unseen seen w
less d seen [] k e new = impossible (cc)
less d seen (c ∷ w) k e new = go (is_same c.name d) refl e (less d seen w k)
  where
    go : (b : Bool) → is_same c.name d ≡ b → (if b then Some c else class_of w d) ≡ Some k → (class_of w d ≡ Some k → list_any (is_same d) seen ≡ false → unseen (d ∷ seen) w < unseen seen w) → (if (is_same c.name d || list_any (is_same c.name) seen) then unseen (d ∷ seen) w else suc (unseen (d ∷ seen) w)) < (if list_any (is_same c.name) seen then unseen seen w else suc (unseen seen w))
    go true i f later = subst (λ (q : Bool). (if (q || list_any (is_same c.name) seen) then unseen (d ∷ seen) w else suc (unseen (d ∷ seen) w)) < (if list_any (is_same c.name) seen then unseen seen w else suc (unseen seen w))) (sym i) (subst (λ (q : Bool). unseen (d ∷ seen) w < (if q then unseen seen w else suc (unseen seen w))) (sym (subst (λ (n : Name). list_any (is_same n) seen ≡ false) (sym (text-same c.name d i)) new)) (let fit = fewer d seen w in omega (arith, fit)))
    go false i f later = subst (λ (q : Bool). (if (q || list_any (is_same c.name) seen) then unseen (d ∷ seen) w else suc (unseen (d ∷ seen) w)) < (if list_any (is_same c.name) seen then unseen seen w else suc (unseen seen w))) (sym i) (same_counted (list_any (is_same c.name) seen) (unseen (d ∷ seen) w) (unseen seen w) (later f new))

pub all_unseen : (w : Classes) → unseen [] w ≤ length w
all_unseen [] = omega arith
all_unseen (k ∷ w) = let rest = all_unseen w in omega (arith, rest)

or_later : (a b : Bool) → b ≡ true → (a || b) ≡ true
or_later true b h = refl
or_later false b h = h

module _ (w : Classes) (kept : AreClassesKept w) (acyclic : HasNoCycle w) where
  plain : IsPlain w
  plain = plain_world w kept.superclass kept.hijacked

  -- steps of superclasses, from the first on
  data Up (c : Name) : Name → Type 0 where
    done : Up c c
    step : (d e : Name) → IsNext w d e → Up c e → Up c d

  up_on : (c b d : Name) → Up b d → IsNext w b c → Up c d
  up_on c b _ done s = step b c s done
  up_on c b _ (step d e first rest) s = step d e first (up_on c b e rest s)

  from_path : (d c : Name) → IsOnChain w d c → Up c d
  from_path d _ stay = done
  from_path d _ (on b c path s) = up_on c b d (from_path d b path) s

  -- a class that isn't hijacked and has a next one stands in the world, and writes it
  record Step (a b : Name) : Type 0 where
    pub class : ClassDef
    pub found : class_of w a ≡ Some class
    pub up : IsWritten w a b
    pub free : is_hijacked b ≡ false

  one_step : (a b : Name) → is_hijacked a ≡ false → IsNext w a b → Step a b
  one_step a b free s = go (class_of w a) refl (subst (λ (n : Name). superclass_in (class_of w n) n ≡ Some b) (stands_itself a free) s)
    where
      go : (o : Option ClassDef) → class_of w a ≡ o → superclass_in o a ≡ Some b → Step a b
      go None e f = impossible (cc (subst (λ (q : Bool). (if q then Some object else None) ≡ Some b) free f))
      go (Some k) e f = let up : IsWritten w a b = subst (λ (o : Option ClassDef). Contains (written_in o) b) (sym e) (Contains-append_left (listed k.superclass) k.interfaces b (subst (λ (o : Option Name). Contains (listed o) b) (sym f) (at_front b []))) in record { class = k; found = e; up = up; free = plain.apart a b up }

  written_path : (a b : Name) → is_hijacked a ≡ false → Path (IsNext w) a b → Path (IsWritten w) a b × (is_hijacked b ≡ false)
  written_path a _ free stay = (stay, free)
  written_path a _ free (on b c path s) = let before = written_path a b free path in let its = one_step b c before.1 s in (on b c before.0 its.up, its.free)

  -- no class is behind itself
  pub not_behind : (d e x : Name) → is_hijacked d ≡ false → IsNext w d e → Path (IsNext w) e x → is_same x d ≡ false
  not_behind d e x free s path = go (is_same x d) refl
    where
      go : (b : Bool) → is_same x d ≡ b → is_same x d ≡ false
      go false i = i
      go true i = let its = one_step d e free s in absurd (acyclic.none d (record { parent = e; up = its.up; back = subst (Path (IsWritten w) e) (text-same x d i) (written_path e x its.free path).0 }))

  chain_has : (n : ℕ) (seen : List Name) (c d : Name) → Up c d → is_hijacked d ≡ false → ((x : Name) → Path (IsNext w) d x → list_any (is_same x) seen ≡ false) → unseen seen w < n → list_any (is_same_text c) (chain_from w n seen d) ≡ true
  chain_has zero seen c d up free new room = absurd (omega (arith, room))
  chain_has (suc n) seen c _ done free new room = subst (λ (b : Bool). list_any (is_same_text c) (if b then [] else (c ∷ elim (next_on_chain w c) as (λ o. List Name) [ None ↦ [] | Some e ↦ chain_from w n (c ∷ seen) e ])) ≡ true) (sym (new c stay)) (first_there (is_same_text c c) (list_any (is_same_text c) (elim (next_on_chain w c) as (λ o. List Name) [ None ↦ [] | Some e ↦ chain_from w n (c ∷ seen) e ])) (text-refl c))
    where
      first_there : (a b : Bool) → a ≡ true → (a || b) ≡ true
      first_there true b h = refl
      first_there false b h = impossible h
  chain_has (suc n) seen c _ (step d e s rest) free new room = subst (λ (b : Bool). list_any (is_same_text c) (if b then [] else (d ∷ elim (next_on_chain w d) as (λ o. List Name) [ None ↦ [] | Some f ↦ chain_from w n (d ∷ seen) f ])) ≡ true) (sym (new d stay)) (or_later (is_same_text c d) (list_any (is_same_text c) (elim (next_on_chain w d) as (λ o. List Name) [ None ↦ [] | Some f ↦ chain_from w n (d ∷ seen) f ])) (subst (λ (o : Option Name). list_any (is_same_text c) (elim o as (λ o. List Name) [ None ↦ [] | Some f ↦ chain_from w n (d ∷ seen) f ]) ≡ true) (sym s) (chain_has n (d ∷ seen) c e rest (one_step d e free s).free (λ x path. unseen_yet x (not_behind d e x free s path) (new x (joined (IsNext w) d e x (on d e stay s) path))) (let fall = less d seen w (one_step d e free s).class (one_step d e free s).found (new d stay) in omega (arith, fall, room)))))
    where
      unseen_yet : (x : Name) → is_same x d ≡ false → list_any (is_same x) seen ≡ false → (is_same x d || list_any (is_same x) seen) ≡ false
      unseen_yet x a b = subst (λ (q : Bool). (q || list_any (is_same x) seen) ≡ false) (sym a) b

  pub chain_of_has : (c d : Name) → is_hijacked d ≡ false → IsOnChain w d c → list_any (is_same_text c) (chain_of w d) ≡ true
  chain_of_has c d free path = chain_has (longest w) [] c d (from_path d c path) free (λ x p. refl) (let all = all_unseen w in omega (arith, all))
