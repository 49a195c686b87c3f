-- The names of the methods of a class that reflective calls reach.
use Rattle.std.proofs.Common.{◌≡◌, ℕ, ◌+◌, ◌≤◌, ◌<◌, true, false, List, [], ◌∷◌, ◌++◌, Contains, slice_get, Some, None, refl, sym, ap, ◌∙◌, subst, length, arith, inl, inr}
use Rattle.std.specs.Prelude.{◌⊎◌, ◌↔◌}
use Rattle.std.proofs.lemmas.List.Elements.{Contains-append_left, Contains-push, Contains-push_cases}
use Rattle.worklist.proofs.Inserted.{nothing_in}
use Rattle.sj_names.specs.declared.method_names.MethodName.{MethodName}
use Rattle.sj_names.specs.MethodNames.{spelled_method}
use Rattle.sj_trees.specs.declared.classes.ClassDef.{ClassDef}
use Rattle.sj_trees.specs.declared.classes.MethodDef.{MethodDef}
use Rattle.sj_world.specs.Ancestors.{IsNext, IsOnChain}
use Rattle.sj_world.specs.Paths.{stay, on}
use Rattle.sj_world.specs.Calls.{IsNamedBy, IsNarrowest, IsLeastNamed, IsChosen, narrowest, least, HasNoneNamed, HasNoProxyTarget, IsChosenAt, IsProxyTarget}
use Rattle.sj_world.specs.Known.{Name, Classes, class_of}
use Rattle.sj_world.specs.Resolution.{Passes, begin, up}
use Rattle.sj_world.proofs.Orders.{before_or_not}
use Rattle.sj_world.proofs.Searches.{stands_at, contains_at}
use Rattle.proxy_targets.specs.Proxies.{IsNameOf, AreNamesOf, PutsName, IsNarrow, IsLeastOf}
use Rattle.proxy_targets.specs.Proxies.{IsTargetName}

-- the name of one of the first methods
pub record IsNameFirst (Has : MethodDef → Type 0) (methods : List MethodDef) (n : ℕ) (m : MethodName) : Type 0 where
  pub place : ℕ
  pub early : place < n
  pub definition : MethodDef
  pub stands : slice_get methods place ≡ Some definition
  pub has : Has definition
  pub name_is : definition.name ≡ m

pub record NamesFirst (Has : MethodDef → Type 0) (methods : List MethodDef) (n : ℕ) (names : List MethodName) : Type 0 where
  pub exact : (m : MethodName) → Contains names m ↔ IsNameFirst Has methods n m

module _ (Has : MethodDef → Type 0) (methods : List MethodDef) where
  pub names_begin : NamesFirst Has methods 0 []
  names_begin = record { exact = λ m. (λ h. nothing_in m h, λ q. let l : q.place < 0 = q.early in absurd (omega arith)) }

  pub names_go_on : (n : ℕ) (d : MethodDef) (old new : List MethodName) → slice_get methods n ≡ Some d → NamesFirst Has methods n old → PutsName Has d old new → NamesFirst Has methods (n + 1) new
  names_go_on n d old new at before puts = record { exact = λ m. (λ h. into m ((puts.exact m).0 h), λ q. (puts.exact m).1 (from m q (split q.place q.early))) }
    where
      into : (m : MethodName) → Contains old m ⊎ (Has d × (d.name ≡ m)) → IsNameFirst Has methods (n + 1) m
      into m (inl h) = let q = (before.exact m).0 h in record { place = q.place; early = (let l : q.place < n = q.early in omega arith); definition = q.definition; stands = q.stands; has = q.has; name_is = q.name_is }
      into m (inr q) = record { place = n; early = omega arith; definition = d; stands = at; has = q.0; name_is = q.1 }

      split : (i : ℕ) → i < n + 1 → (i < n) ⊎ (i ≡ n)
      split i l = grind arith

      here : (m : MethodName) (e : MethodDef) → Some d ≡ Some e → Has e → e.name ≡ m → Has d × (d.name ≡ m)
      here m e s h k = let t : e ≡ d = cc in (subst Has t h, subst (λ (z : MethodDef). z.name ≡ m) t k)

      from : (m : MethodName) (q : IsNameFirst Has methods (n + 1) m) → ((q.place < n) ⊎ (q.place ≡ n)) → Contains old m ⊎ (Has d × (d.name ≡ m))
      from m q (inl l) = inl ((before.exact m).1 (record { place = q.place; early = l; definition = q.definition; stands = q.stands; has = q.has; name_is = q.name_is }))
      from m q (inr e) = inr (here m q.definition (sym at ∙ ap (slice_get methods) (sym e) ∙ q.stands) q.has q.name_is)

-- a name is put, or not
pub puts_name : (Has : MethodDef → Type 0) (d : MethodDef) (old new : List MethodName) → Has d → new ≡ old ++ d.name ∷ [] → PutsName Has d old new
puts_name Has d old new has e = record { exact = λ m. (λ h. into m (Contains-push_cases old d.name m (subst (λ (l : List MethodName). Contains l m) e h)), λ q. subst (λ (l : List MethodName). Contains l m) (sym e) (from m q)) }
  where
    into : (m : MethodName) → Contains old m ⊎ (d.name ≡ m) → Contains old m ⊎ (Has d × (d.name ≡ m))
    into m (inl h) = inl h
    into m (inr k) = inr (has, k)

    from : (m : MethodName) → Contains old m ⊎ (Has d × (d.name ≡ m)) → Contains (old ++ d.name ∷ []) m
    from m (inl h) = Contains-append_left old (d.name ∷ []) m h
    from m (inr q) = subst (λ (z : MethodName). Contains (old ++ d.name ∷ []) z) q.1 (Contains-push old d.name)

pub puts_none : (Has : MethodDef → Type 0) (d : MethodDef) (names : List MethodName) → (Has d → ⊥) → PutsName Has d names names
puts_none Has d names not = record { exact = λ m. (λ h. inl h, λ q. from m q) }
  where
    from : (m : MethodName) → Contains names m ⊎ (Has d × (d.name ≡ m)) → Contains names m
    from m (inl h) = h
    from m (inr q) = absurd (not q.0)

pub named_narrowest : (w : Classes) (p : MethodName) (methods : List MethodDef) (n : ℕ) (names : List MethodName) → length methods ≤ n → NamesFirst (IsNarrow w p methods) methods n names → AreNamesOf (IsNarrowest w p methods) names
named_narrowest w p methods n names over f = record { exact = λ m. (λ h. into m ((f.exact m).0 h), λ q. (f.exact m).1 (from m q)) }
  where
    into : (m : MethodName) → IsNameFirst (IsNarrow w p methods) methods n m → IsNameOf (IsNarrowest w p methods) m
    into m q = record { definition = q.definition; has = record { among = contains_at methods q.place q.definition q.stands; named = q.has.named; narrow = q.has.narrow }; name_is = q.name_is }

    from : (m : MethodName) → IsNameOf (IsNarrowest w p methods) m → IsNameFirst (IsNarrow w p methods) methods n m
    from m q = record { place = q.has.among.0; early = (let l : q.has.among.0 < length methods = q.has.among.1 in omega arith); definition = q.definition; stands = stands_at methods q.definition q.has.among; has = record { named = q.has.named; narrow = q.has.narrow }; name_is = q.name_is }

least_named : (p : MethodName) (methods : List MethodDef) (d : MethodDef) → Contains methods d → IsLeastOf p methods d → IsLeastNamed p methods d
least_named p methods d among h = record { among = among; named = h.named; least = λ other c k. before_or_not (spelled_method other.name) (spelled_method d.name) (λ b. h.least.none other c (record { named = k; before = b })) }

not_both : {A : Type 0} → true ≡ false → A
not_both e = cc

least_of : (p : MethodName) (methods : List MethodDef) (d : MethodDef) → IsLeastNamed p methods d → IsLeastOf p methods d
least_of p methods d h = record { named = h.named; least = record { none = λ other c k. not_both (sym k.before ∙ h.least other c k.named) } }

pub named_least : (p : MethodName) (methods : List MethodDef) (n : ℕ) (names : List MethodName) → length methods ≤ n → NamesFirst (IsLeastOf p methods) methods n names → AreNamesOf (IsLeastNamed p methods) names
named_least p methods n names over f = record { exact = λ m. (λ h. into m ((f.exact m).0 h), λ q. (f.exact m).1 (from m q)) }
  where
    into : (m : MethodName) → IsNameFirst (IsLeastOf p methods) methods n m → IsNameOf (IsLeastNamed p methods) m
    into m q = record { definition = q.definition; has = least_named p methods q.definition (contains_at methods q.place q.definition q.stands) q.has; name_is = q.name_is }

    from : (m : MethodName) → IsNameOf (IsLeastNamed p methods) m → IsNameFirst (IsLeastOf p methods) methods n m
    from m q = record { place = q.has.among.0; early = (let l : q.has.among.0 < length methods = q.has.among.1 in omega arith); definition = q.definition; stands = stands_at methods q.definition q.has.among; has = least_of p methods q.definition q.has; name_is = q.name_is }

-- where there are narrowest, they are chosen; else the least
has_name : (names : List MethodName) → 0 < length names → (m : MethodName) × Contains names m
has_name [] l = absurd (omega arith)
has_name (m ∷ names) l = (m, Contains-append_left (m ∷ []) names m (Contains-push [] m))

pub chosen_narrowest : (w : Classes) (p : MethodName) (methods : List MethodDef) (names : List MethodName) → 0 < length names → AreNamesOf (IsNarrowest w p methods) names → AreNamesOf (IsChosen w p methods) names
chosen_narrowest w p methods names some f = record { exact = λ m. (λ h. into m ((f.exact m).0 h), λ q. (f.exact m).1 (from m q.definition q.has q.name_is)) }
  where
    into : (m : MethodName) → IsNameOf (IsNarrowest w p methods) m → IsNameOf (IsChosen w p methods) m
    into m q = record { definition = q.definition; has = narrowest q.has; name_is = q.name_is }

    from : (m : MethodName) (d : MethodDef) → IsChosen w p methods d → d.name ≡ m → IsNameOf (IsNarrowest w p methods) m
    from m d (narrowest h) e = record { definition = d; has = h; name_is = e }
    from m d (least none h) e = let one = has_name names some in let q = (f.exact one.0).0 one.1 in absurd (none.none q.definition q.has)

pub chosen_least : (w : Classes) (p : MethodName) (methods : List MethodDef) (narrow names : List MethodName) → length narrow ≤ 0 → AreNamesOf (IsNarrowest w p methods) narrow → AreNamesOf (IsLeastNamed p methods) names → AreNamesOf (IsChosen w p methods) names
chosen_least w p methods narrow names none n f = record { exact = λ m. (λ h. into m ((f.exact m).0 h), λ q. (f.exact m).1 (from m q.definition q.has q.name_is)) }
  where
    not_narrowest : (d : MethodDef) → IsNarrowest w p methods d → ⊥
    not_narrowest d h = let c = (n.exact d.name).1 (record { definition = d; has = h; name_is = refl }) in let l : c.0 < length narrow = c.1 in omega arith

    into : (m : MethodName) → IsNameOf (IsLeastNamed p methods) m → IsNameOf (IsChosen w p methods) m
    into m q = record { definition = q.definition; has = least (record { none = not_narrowest }) q.has; name_is = q.name_is }

    from : (m : MethodName) (d : MethodDef) → IsChosen w p methods d → d.name ≡ m → IsNameOf (IsLeastNamed p methods) m
    from m d (narrowest h) e = absurd (not_narrowest d h)
    from m d (least _ h) e = record { definition = d; has = h; name_is = e }

-- the first class on a chain that has something is one
module _ (w : Classes) (Lacks Has : Name → Type 0) (apart : (n : Name) → Lacks n → Has n → ⊥) where
  data Front : Name → Name → Type 0 where
    here : (c : Name) → Front c c
    further : (c d o : Name) → Lacks c → IsNext w c d → Front d o → Front c o

  longer : (c b d : Name) → Front c b → Lacks b → IsNext w b d → Front c d
  longer c b d (here _) none next = further c d d none next (here d)
  longer c b d (further _ e _ lacks step rest) none next = further c e d lacks step (longer e b d rest none next)

  from_front : (c o : Name) → Passes w Lacks c o → Front c o
  from_front c o begin = here c
  from_front c o (up b d before none next) = longer c b o (from_front c b before) none next

  record Goes (c o : Name) : Type 0 where
    to : Name
    none : Lacks c
    next : IsNext w c to
    rest : Front to o

  first_step : (c o : Name) → Front c o → (c ≡ o) ⊎ Goes c o
  first_step c o (here _) = inl refl
  first_step c o (further _ d _ none next rest) = inr (record { to = d; none = none; next = next; rest = rest })

  one_end : (c o p : Name) → Front c o → Front c p → Has o → Has p → o ≡ p
  one_end c o p (here _) second h k = elim (first_step c p second) [ inl same ↦ same | inr goes ↦ absurd (apart c goes.none h) ]
  one_end c o p (further _ x _ none next rest) second h k = go (λ y f s. one_end x o p rest (subst (λ (z : Name). Front z p) s f) h k) (first_step c p second)
    where
      go : ((y : Name) → Front y p → y ≡ x → o ≡ p) → (c ≡ p) ⊎ Goes c p → o ≡ p
      go below (inl same) = absurd (apart c none (subst Has (sym same) k))
      go below (inr goes) = let s : Some goes.to ≡ Some x = sym goes.next ∙ next in let t : goes.to ≡ x = cc in below goes.to goes.rest t

  pub one_passed : (c o p : Name) → Passes w Lacks c o → Passes w Lacks c p → Has o → Has p → o ≡ p
  one_passed c o p a b h k = one_end c o p (from_front c o a) (from_front c p b) h k

pub record SomeChosen (w : Classes) (p : MethodName) (name : Name) : Type 0 where
  pub definition : MethodDef
  pub chosen : IsChosenAt w p name definition

pub chosen_named : (w : Classes) (p : MethodName) (methods : List MethodDef) (d : MethodDef) → IsChosen w p methods d → Contains methods d × IsNamedBy p d
chosen_named w p methods d (narrowest h) = (h.among, h.named)
chosen_named w p methods d (least _ h) = (h.among, h.named)

pub not_lacking : (w : Classes) (p : MethodName) (n : Name) → HasNoneNamed w p n → SomeChosen w p n → ⊥
not_lacking w p n none h = let k = chosen_named w p h.chosen.class.methods h.definition h.chosen.chosen in (none.none h.chosen.class h.chosen.is_class).none k.0.0 h.definition (stands_at h.chosen.class.methods h.definition k.0) k.1

pub same_class : (a b : ClassDef) → Some a ≡ Some b → a ≡ b
same_class a b e = cc

-- the names of what is chosen in the class of one target are those of all targets
pub target_names : (w : Classes) (c : Name) (p : MethodName) (d : MethodDef) (owner : Name) (class : ClassDef) (names : List MethodName) → IsProxyTarget w c p d owner → class_of w owner ≡ Some class → AreNamesOf (IsChosen w p class.methods) names → (m : MethodName) → Contains names m ↔ IsTargetName w c p m
target_names w c p d owner class names t is f m = (λ h. into ((f.exact m).0 h), λ q. (f.exact m).1 (from q))
  where
    into : IsNameOf (IsChosen w p class.methods) m → IsTargetName w c p m
    into q = record { definition = q.definition; owner = owner; is_target = record { passes = t.passes; chosen = record { class = class; is_class = is; chosen = q.has } }; name_is = q.name_is }

    same_owner : (q : IsTargetName w c p m) → q.owner ≡ owner
    same_owner q = one_passed w (HasNoneNamed w p) (SomeChosen w p) (not_lacking w p) c q.owner owner q.is_target.passes t.passes (record { definition = q.definition; chosen = q.is_target.chosen }) (record { definition = d; chosen = t.chosen })

    from : IsTargetName w c p m → IsNameOf (IsChosen w p class.methods) m
    from q = record { definition = q.definition; has = subst (λ (k : ClassDef). IsChosen w p k.methods q.definition) (same_class q.is_target.chosen.class class (sym q.is_target.chosen.is_class ∙ ap (class_of w) (same_owner q) ∙ is)) q.is_target.chosen.chosen; name_is = q.name_is }

-- the class of an owner is there, and it is the one of its name
pub chosen_class : (w : Classes) (c : Name) (p : MethodName) (d : MethodDef) (owner : Name) → IsProxyTarget w c p d owner → class_of w owner ≡ None → ⊥
chosen_class w c p d owner t none = let s : Some t.chosen.class ≡ None = sym t.chosen.is_class ∙ none in absurd (let b : ⊥ = cc in b)

pub no_names : (w : Classes) (c : Name) (p : MethodName) (names : List MethodName) → names ≡ [] → HasNoProxyTarget w c p → (m : MethodName) → Contains names m ↔ IsTargetName w c p m
no_names w c p names none lacks m = (λ h. nothing_in m (subst (λ (l : List MethodName). Contains l m) none h), λ q. absurd (not_lacking w p q.owner (lacks.none q.owner (on_chain q.owner q.is_target.passes)) (record { definition = q.definition; chosen = q.is_target.chosen })))
  where
    on_chain : (o : Name) → Passes w (HasNoneNamed w p) c o → IsOnChain w c o
    on_chain o begin = stay
    on_chain o (up b d before none next) = on b d (on_chain b before) next

-- the same, of a list that is the class's methods
pub names_of_class : (w : Classes) (c : Name) (p : MethodName) (d : MethodDef) (owner : Name) (class : ClassDef) (methods : List MethodDef) (names : List MethodName) → IsProxyTarget w c p d owner → Some class ≡ class_of w owner → methods ≡ class.methods → AreNamesOf (IsChosen w p methods) names → (m : MethodName) → Contains names m ↔ IsTargetName w c p m
names_of_class w c p d owner class methods names t is same f = target_names w c p d owner class names t (sym is) (subst (λ (ms : List MethodDef). AreNamesOf (IsChosen w p ms) names) same f)
