-- A call resolves in one way.
use Rattle.std.proofs.Common.{◌≡◌, true, false, Some, refl, sym, ap, ◌∙◌, subst, inl, inr}
use Rattle.std.specs.Prelude.{◌⊎◌}
use Rattle.std.specs.declared.cmp.Ordering.{Ordering}
use Rattle.std.specs.declared.cmp.Ordering.TheVariants.{Less, Equal, Greater}
use Rattle.std.specs.Ordering.{is_lt, ordering_reverse}
use Rattle.std.specs.Cmp.Lexicographic.{nat_list_cmp_total}
use Rattle.sj_names.specs.declared.method_names.MethodName.{MethodName}
use Rattle.sj_trees.specs.declared.classes.MethodDef.{MethodDef}
use Rattle.sj_world.specs.Known.{Name, Classes}
use Rattle.sj_world.specs.Paths.{stay, on}
use Rattle.sj_world.specs.Ancestors.{IsAncestor, IsNext, IsOnChain}
use Rattle.sj_world.specs.Refusals.{is_before}
use Rattle.sj_world.specs.Resolution.{IsBodyAt, HasNoBody, Passes, begin, up, IsNearest, IsDefault, IsLeastCandidate, Answer, target, ResolvesAbove, by_default, undeclared, declared, by_chain, by_ancestors}
use Rattle.sj_world.specs.Laws.{ResolvesOnce}
use Rattle.sj_world.proofs.Orders.{compared, same_name, same_compared}
use Rattle.sj_world.proofs.LawsHold.{same_body}

not_before_each : (a b : Name) → is_before a b ≡ false → is_before b a ≡ false → a ≡ b
not_before_each a b h k = same_name a b (same_compared a b (go (compared a b) refl))
  where
    tied : (o p : Ordering) → p ≡ ordering_reverse o → is_lt o ≡ false → is_lt p ≡ false → o ≡ Equal
    tied Less p e f g = cc
    tied Equal p e f g = refl
    tied Greater p e f g = let t : is_lt p ≡ true = ap is_lt e in cc

    go : (o : Ordering) → compared a b ≡ o → compared a b ≡ Equal
    go o e = tied (compared a b) (compared b a) (nat_list_cmp_total.antisymm b a) h k

module _ (w : Classes) (m : MethodName) where
  -- the way up a chain from its front
  data Front : Name → Name → Type 0 where
    here : (c : Name) → Front c c
    further : (c d o : Name) → HasNoBody w m c → IsNext w c d → Front d o → Front c o

  longer : (c b d : Name) → Front c b → HasNoBody w m b → IsNext w b d → Front c d
  longer c b d (here _) none next = further c d d none next (here d)
  longer c b d (further _ e _ lacks step rest) none next = further c e d lacks step (longer e b d rest none next)

  from_front : (c o : Name) → Passes w (HasNoBody w m) c o → Front c o
  from_front c o begin = here c
  from_front c o (up b d before none next) = longer c b o (from_front c b before) none next

  on_chain : (c o : Name) → Passes w (HasNoBody w m) c o → IsOnChain w c o
  on_chain c o begin = stay
  on_chain c o (up b d before none next) = on b o (on_chain c b before) next

  record Goes (c o : Name) : Type 0 where
    to : Name
    none : HasNoBody w m c
    next : IsNext w c to
    rest : Front to o

  first_step : (c o : Name) → Front c o → (c ≡ o) ⊎ Goes c o
  first_step c o (here _) = inl refl
  first_step c o (further _ d _ none next rest) = inr (record { to = d; none = none; next = next; rest = rest })

  one_end : (c o p : Name) (d e : MethodDef) → Front c o → Front c p → IsBodyAt w m o d → IsBodyAt w m p e → o ≡ p
  one_end c o p d e (here _) second h k = elim (first_step c p second) [ inl same ↦ same | inr goes ↦ absurd (goes.none.none d h) ]
  one_end c o p d e (further _ x _ none next rest) second h k = go (λ y f s. one_end x o p d e rest (subst (λ (z : Name). Front z p) s f) h k) (first_step c p second)
    where
      go : ((y : Name) → Front y p → y ≡ x → o ≡ p) → (c ≡ p) ⊎ Goes c p → o ≡ p
      go below (inl same) = absurd (none.none e (subst (λ (z : Name). IsBodyAt w m z e) (sym same) k))
      go below (inr goes) = let s : Some goes.to ≡ Some x = sym goes.next ∙ next in let t : goes.to ≡ x = cc in below goes.to goes.rest t

  one_nearest : (c o p : Name) (d e : MethodDef) → IsNearest w c m d o → IsNearest w c m e p → target d o ≡ target e p
  one_nearest c o p d e h k =
      let same : o ≡ p = one_end c o p d e (from_front c o h.passes) (from_front c p k.passes) h.body k.body in
      let body : d ≡ e = same_body w m p d e (subst (λ (z : Name). IsBodyAt w m z d) same h.body) k.body in
      cc

  default_body : (n : Name) (d : MethodDef) → IsDefault w m n d → IsBodyAt w m n d
  default_body n d h = record { class = h.class; is_class = h.is_class; first = h.first }

  one_least : (Above : Name → Type 0) (o p : Name) (d e : MethodDef) → IsLeastCandidate w Above m d o → IsLeastCandidate w Above m e p → target d o ≡ target e p
  one_least Above o p d e h k =
      let same : o ≡ p = not_before_each o p (k.least o d h.candidate) (h.least p e k.candidate) in
      let body : d ≡ e = same_body w m p d e (subst (λ (z : Name). IsBodyAt w m z d) same (default_body o d h.candidate.default)) (default_body p e k.candidate.default) in
      cc

  one_above : (Above : Name → Type 0) (r s : Answer) → ResolvesAbove w Above m r → ResolvesAbove w Above m s → r ≡ s
  one_above Above r s (by_default d o h) (by_default e p k) = one_least Above o p d e h k
  one_above Above r s (by_default d o h) (undeclared n _) = absurd (n.none o d h.candidate)
  one_above Above r s (by_default d o h) (declared n _) = absurd (n.none o d h.candidate)
  one_above Above r s (undeclared n _) (by_default e p k) = absurd (n.none p e k.candidate)
  one_above Above r s (undeclared _ _) (undeclared _ _) = refl
  one_above Above r s (undeclared _ lacks) (declared _ has) = absurd (lacks has)
  one_above Above r s (declared n _) (by_default e p k) = absurd (n.none p e k.candidate)
  one_above Above r s (declared _ has) (undeclared _ lacks) = absurd (lacks has)
  one_above Above r s (declared _ _) (declared _ _) = refl

pub resolves_once : ResolvesOnce
resolves_once w c m r s (by_chain d o h) (by_chain e p k) = one_nearest w m c o p d e h k
resolves_once w c m r s (by_chain d o h) (by_ancestors _ none _) = absurd ((none.none o (on_chain w m c o h.passes)).none d h.body)
resolves_once w c m r s (by_ancestors _ none _) (by_chain e p k) = absurd ((none.none p (on_chain w m c p k.passes)).none e k.body)
resolves_once w c m r s (by_ancestors _ _ h) (by_ancestors _ _ k) = one_above w m (IsAncestor w c) r s h k
