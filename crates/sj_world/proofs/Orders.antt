-- The order of names.
use Rattle.std.proofs.Common.{◌≡◌, Bool, true, false, refl, sym, ap, ◌∙◌}
use Rattle.std.specs.declared.cmp.Ordering.{Ordering}
use Rattle.std.specs.declared.cmp.Ordering.TheVariants.{Less, Equal, Greater}
use Rattle.std.specs.Ordering.{nat_cmp, is_lt, is_eq, ordering_reverse}
use Rattle.std.specs.Cmp.Lexicographic.{slice_cmp, texts_ties, nat_list_cmp_total}
use Rattle.std.proofs.lemmas.Slice.Eq.{bytes_eq-Decides}
use Rattle.std.proofs.lemmas.Cmp.{tied_itself}
use Rattle.sj_world.specs.Known.{Name, is_same}
use Rattle.sj_world.specs.Refusals.{is_before}

abbrev pub compared : Name → Name → Ordering
compared a b = slice_cmp nat_cmp a b

lt-reversed : (o p : Ordering) → p ≡ ordering_reverse o → is_lt o ≡ true → is_lt p ≡ false
lt-reversed Less p e h = ap is_lt e
lt-reversed Equal p e h = cc
lt-reversed Greater p e h = cc

pub before_not_after : (a b : Name) → is_before a b ≡ true → is_before b a ≡ false
before_not_after a b h = lt-reversed (compared a b) (compared b a) (nat_list_cmp_total.antisymm b a) h

pub same_name : (a b : Name) → is_same a b ≡ true → a ≡ b
same_name a b = (bytes_eq-Decides a b).0

pub is_same_itself : (a : Name) → is_same a a ≡ true
is_same_itself a = (bytes_eq-Decides a a).1 refl

pub same_compared : (a b : Name) → compared a b ≡ Equal → is_same a b ≡ true
same_compared a b e = texts_ties a b ∙ ap is_eq e

pub not_before_itself : (a : Name) → is_before a a ≡ false
not_before_itself a = ap is_lt (tied_itself nat_list_cmp_total a)

pub before_differs : (a b : Name) → is_before a b ≡ true → is_same a b ≡ false
before_differs a b h = texts_ties a b ∙ go (compared a b) h
  where
    go : (o : Ordering) → is_lt o ≡ true → is_eq o ≡ false
    go Less e = refl
    go Equal e = cc
    go Greater e = refl

pub differs_less : (a b : Name) → compared a b ≡ Less → is_same a b ≡ false
differs_less a b e = texts_ties a b ∙ ap is_eq e

pub differs_greater : (a b : Name) → compared a b ≡ Greater → is_same a b ≡ false
differs_greater a b e = texts_ties a b ∙ ap is_eq e

lt-less : (o : Ordering) → is_lt o ≡ true → o ≡ Less
lt-less Less e = refl
lt-less Equal e = cc
lt-less Greater e = cc

pub before_trans : (a b c : Name) → is_before a b ≡ true → is_before b c ≡ true → is_before a c ≡ true
before_trans a b c h k = ap is_lt (nat_list_cmp_total.trans a b c (lt-less (compared a b) h) (lt-less (compared b c) k))

-- a name that can't stand before another doesn't
pub before_or_not : (a b : Name) → (is_before a b ≡ true → ⊥) → is_before a b ≡ false
before_or_not a b h = go (is_before a b) refl
  where
    go : (v : Bool) → is_before a b ≡ v → is_before a b ≡ false
    go true e = absurd (h e)
    go false e = e

-- of two names that don't fall and differ, the first stands before the second
pub differs_after : (a b : Name) → is_before b a ≡ false → is_same a b ≡ false → is_before a b ≡ true
differs_after a b h d = go (compared a b) refl
  where
    back : (o p : Ordering) → p ≡ ordering_reverse o → is_lt p ≡ false → is_eq o ≡ false → is_lt o ≡ true
    back Less p e low differs = refl
    back Equal p e low differs = cc
    back Greater p e low differs = cc

    go : (o : Ordering) → compared a b ≡ o → is_before a b ≡ true
    go o e = back (compared a b) (compared b a) (nat_list_cmp_total.antisymm b a) h (sym (texts_ties a b) ∙ d)
