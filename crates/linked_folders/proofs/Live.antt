-- The live classes of a linked world are those whose pieces have a class.
use Rattle.std.proofs.Common.{◌≡◌, ◌↔◌, ◌⊎◌, Bool, true, false, List, [], ◌∷◌, Some, None, inl, inr, refl, sym, subst, ◌∙◌, Contains}
use Rattle.declared_pieces.specs.Entries.{IsLive}
use Rattle.js_tree.specs.Terms.{Piece}
use Rattle.declared_pieces.specs.Pieces.{Block, AreBlocks, AreLinkedPieces}
use Rattle.declared_pieces.specs.Classes.{AreClassPieces, absent, present}
use Rattle.sj_names.proofs.Same.{impossible}
use Rattle.declared_pieces.specs.EmittedMethods.{EmittedMethod}
use Rattle.sj_split.proofs.Members.{at_first, further, cons_cases}
use Rattle.sj_trees.specs.declared.classes.ClassDef.{ClassDef}
use Rattle.sj_world.specs.Known.{Name, class_of}
use Rattle.sj_world.specs.Linked.{Linked}
use Rattle.worklist.proofs.Inserted.{nothing_in}
use Rattle.declared_pieces.proofs.Blocks.{in_classes}

-- with the name, if it is marked
abbrev with_live : Name → Bool → List Name → List Name
with_live c true cs = c ∷ cs
with_live c false cs = cs

kept_behind : (c x : Name) (b : Bool) (cs : List Name) → Contains cs x → Contains (with_live c b cs) x
kept_behind c x true cs h = further c x cs h
kept_behind c x false cs h = h

put_first : (c : Name) (b : Bool) (cs : List Name) → b ≡ true → Contains (with_live c b cs) c
put_first c true cs h = at_first c cs
put_first c false cs h = impossible h

first_or_behind : (c x : Name) (b : Bool) (cs : List Name) → Contains (with_live c b cs) x → ((b ≡ true) × (c ≡ x)) ⊎ Contains cs x
first_or_behind c x false cs h = inr h
first_or_behind c x true cs h = go (cons_cases c x cs h)
  where
    go : (c ≡ x) ⊎ Contains cs x → ((true ≡ true) × (c ≡ x)) ⊎ Contains cs x
    go (inl e) = inl (refl, e)
    go (inr i) = inr i

module _ (l : Linked) (all : List EmittedMethod) (there : (c : Name) → IsLive l.world l.facts c → (k : ClassDef) × (class_of l.world c ≡ Some k)) where
  abbrev Lives : Name → Type 0
  Lives = IsLive l.world l.facts

  -- whether the pieces of a class have its class
  abbrev has_class : (c : Name) (ps : List Piece) → AreClassPieces l c ps → Bool
  has_class c ps (absent none is) = false
  has_class c ps (present p are is) = p.is_live

  from_class : (c : Name) (ps : List Piece) (h : AreClassPieces l c ps) → has_class c ps h ≡ true → Lives c
  from_class c ps (absent none is) e = impossible e
  from_class c ps (present p are is) e = are.live.0 e

  to_class : (c : Name) (ps : List Piece) (h : AreClassPieces l c ps) → Lives c → has_class c ps h ≡ true
  to_class c ps (present p are is) h = are.live.1 h
  to_class c ps (absent none is) h = let k = there c h in no_class k.0 (sym none ∙ k.1)
    where
      no_class : (k : ClassDef) → None ≡ Some k → false ≡ true
      no_class k e = absurd (cc)

  abbrev live_of : (cs : List Name) (bs : List Block) → AreBlocks l all cs bs → List Name
  live_of [] [] h = []
  live_of [] (b ∷ bs) h = []
  live_of (c ∷ cs) [] h = []
  live_of (c ∷ cs) (b ∷ bs) h = with_live c (has_class c b.own h.0.own) (live_of cs bs h.1)

  live_is : (cs : List Name) (bs : List Block) (h : AreBlocks l all cs bs) (x : Name) → Contains (live_of cs bs h) x → Lives x
  live_is [] [] h x i = nothing_in x i
  live_is [] (b ∷ bs) h x i = nothing_in x i
  live_is (c ∷ cs) [] h x i = nothing_in x i
  live_is (c ∷ cs) (b ∷ bs) h x i = go (first_or_behind c x (has_class c b.own h.0.own) (live_of cs bs h.1) i) (live_is cs bs h.1 x)
    where
      go : ((has_class c b.own h.0.own ≡ true) × (c ≡ x)) ⊎ Contains (live_of cs bs h.1) x → (Contains (live_of cs bs h.1) x → Lives x) → Lives x
      go (inl e) rest = subst Lives e.1 (from_class c b.own h.0.own e.0)
      go (inr j) rest = rest j

  live_in : (cs : List Name) (bs : List Block) (h : AreBlocks l all cs bs) (x : Name) → Contains cs x → Lives x → Contains (live_of cs bs h) x
  live_in [] bs h x i lives = nothing_in x i
  live_in (c ∷ cs) [] h x i lives = absurd h
  live_in (c ∷ cs) (b ∷ bs) h x i lives = go (cons_cases c x cs i) (live_in cs bs h.1 x)
    where
      go : (c ≡ x) ⊎ Contains cs x → (Contains cs x → Lives x → Contains (live_of cs bs h.1) x) → Contains (with_live c (has_class c b.own h.0.own) (live_of cs bs h.1)) x
      go (inl e) rest = subst (Contains (with_live c (has_class c b.own h.0.own) (live_of cs bs h.1))) e (put_first c (has_class c b.own h.0.own) (live_of cs bs h.1) (to_class c b.own h.0.own (subst Lives (sym e) lives)))
      go (inr j) rest = kept_behind c x (has_class c b.own h.0.own) (live_of cs bs h.1) (rest j lives)

  module _ (ps : List Piece) (p : AreLinkedPieces l all ps) where
    -- the classes that are live
    abbrev pub live : List Name
    live = live_of p.classes p.blocks p.are_blocks

    pub are_live : (c : Name) → Contains live c ↔ Lives c
    are_live c = (live_is p.classes p.blocks p.are_blocks c, λ h. let k = there c h in live_in p.classes p.blocks p.are_blocks c (in_classes l all ps p c k.0 k.1) h)
