-- What is kept of the facts that were gone through.
use Rattle.std.proofs.Common.{◌≡◌, ℕ, ◌+◌, ◌≤◌, List, [], ◌∷◌, ◌++◌, Some, Contains, slice_get, refl, sym, ap, ◌∙◌, subst, length, inl, inr, if◌then◌else◌}
use Rattle.std.specs.Prelude.{◌⊎◌, ◌↔◌}
use Rattle.std.proofs.lemmas.List.Elements.{Contains-append_left, Contains-push, Contains-push_cases}
use Rattle.indexmap.specs.IndexSet.{insert_key}
use Rattle.worklist.proofs.Inserted.{nothing_in, only_one, from-insert_all, into-insert_all, each-insert_all}
use Rattle.class_lists.specs.Lists.{items_at}
use Rattle.class_lists.specs.declared.lists.Lists.{Lists}
use Rattle.sj_names.specs.declared.entry_points.EntryPoint.{EntryPoint}
use Rattle.sj_names.specs.declared.method_names.Member.{Member}
use Rattle.sj_names.specs.declared.method_names.MethodName.{MethodName}
use Rattle.sj_names.specs.contracts.method_names.MethodNamePartialEq.TheImpl as method_eq
use Rattle.sj_trees.specs.declared.classes.MethodDef.{MethodDef}
use Rattle.sj_world.specs.Members.{IsMethodOf}
use Rattle.sj_reach_spec.proofs.One.{one_method}
use Rattle.sj_infos.specs.Infos.{asked_by}
use Rattle.sj_infos.specs.Once.{FirstsOf}
use Rattle.sj_infos.specs.declared.infos.Info.{Info}
use Rattle.sj_infos.specs.declared.infos.Info.TheVariants.{Reflective}
use Rattle.sj_world.specs.Ancestors.{IsAncestor}
use Rattle.sj_world.specs.Known.{Name, Classes, is_same}
use Rattle.sj_world.specs.declared.facts.Fact.{Fact}
use Rattle.sj_world.specs.declared.facts.Fact.TheVariants as fact
use Rattle.sj_reach_spec.specs.Rules.{Reads}
use Rattle.sj_reach_spec.proofs.Grows.{reads-grow}
use Rattle.sj_reach.specs.Seen.{IsEmpty, SeesMade, SeesCalled, SeesNames, SeesReflective, SeesInfo, SeesInfos, IsReadIn, SeesBody, SeesFact, IsSeen}
use Rattle.sj_reach.specs.declared.seen.Seen.{Seen}
use Rattle.sj_world.proofs.Kept.{put_exact, IsOneOfFirst, first_split, first_join, no_first, all_first, first_in}
use Rattle.sj_names.proofs.Equal.{method_decides}
use Rattle.sj_reach.proofs.Arms.{stands_in_all, stands_once}

pub sees_called : (old new : Lists MethodName) (c : Name) (item m : MethodName) → item ≡ m → ((other : Name) → items_at new other ≡ (if is_same c other then items_at old other ++ item ∷ [] else items_at old other)) → (d : Name) (x : MethodName) → Contains (items_at new d) x ↔ (Contains (items_at old d) x ⊎ ((c ≡ d) × (m ≡ x)))
sees_called old new c item m same puts d x = subst (λ (z : MethodName). Contains (items_at new d) x ↔ (Contains (items_at old d) x ⊎ ((c ≡ d) × (z ≡ x)))) same (put_exact old new c item puts d x)

-- reflective calls are seen
pub sees_name : (old new : List MethodName) (item p : MethodName) → item ≡ p → new ≡ insert_key method_eq.ghosts.eq old item → (q : MethodName) → Contains new q ↔ (Contains old q ⊎ (p ≡ q))
sees_name old new item p same put q = (λ h. into (from-insert_all method_eq.ghosts.eq old (item ∷ []) q (subst (λ (l : List MethodName). Contains l q) put h)), λ h. subst (λ (l : List MethodName). Contains l q) (sym put) (from h))
  where
    into : Contains old q ⊎ Contains (item ∷ []) q → Contains old q ⊎ (p ≡ q)
    into (inl h) = inl h
    into (inr h) = inr (sym same ∙ only_one item q h)

    from : Contains old q ⊎ (p ≡ q) → Contains (insert_key method_eq.ghosts.eq old item) q
    from (inl h) = into-insert_all method_eq.ghosts.eq old (item ∷ []) q h
    from (inr e) = subst (λ (z : MethodName). Contains (insert_key method_eq.ghosts.eq old item) z) (same ∙ e) (each-insert_all method_eq.ghosts.eq (λ a b k. (method_decides a b).0 k) old (item ∷ []) item (Contains-push [] item))

pub sees_as : (P Q : MethodName → Type 0) (a b : Seen) → ((m : MethodName) → P m → Q m) → ((m : MethodName) → Q m → P m) → SeesNames P a b → SeesNames Q a b
sees_as P Q a b f g s = record { made = s.made; below = s.below; called = s.called; reflective = λ m. (λ h. into m ((s.reflective m).0 h), λ q. (s.reflective m).1 (from m q)) }
  where
    into : (m : MethodName) → Contains a.reflective.keys m ⊎ P m → Contains a.reflective.keys m ⊎ Q m
    into m (inl h) = inl h
    into m (inr p) = inr (f m p)

    from : (m : MethodName) → Contains a.reflective.keys m ⊎ Q m → Contains a.reflective.keys m ⊎ P m
    from m (inl h) = inl h
    from m (inr q) = inr (g m q)

pub sees_none : (P : MethodName → Type 0) (a : Seen) → ((m : MethodName) → P m → ⊥) → SeesNames P a a
sees_none P a none = record { made = refl; below = refl; called = refl; reflective = λ m. (λ h. inl h, λ q. from m q) }
  where
    from : (m : MethodName) → Contains a.reflective.keys m ⊎ P m → Contains a.reflective.keys m
    from m (inl h) = h
    from m (inr p) = absurd (none m p)

same_call : (p q : MethodName) → Reflective p ≡ Reflective q → p ≡ q
same_call p q e = cc

pub sees_info : (i : Info) (p : MethodName) (a b : Seen) → i ≡ Reflective p → SeesReflective p a b → SeesInfo i a b
sees_info i p a b is s = sees_as (λ q. p ≡ q) (λ q. i ≡ Reflective q) a b (λ q e. is ∙ ap Reflective e) (λ q e. same_call p q (sym is ∙ e)) s

pub infos_begin : (infos : List Info) (a : Seen) → SeesNames (λ q. IsOneOfFirst infos 0 (Reflective q)) a a
infos_begin infos a = sees_none _ a (λ m q. no_first infos (Reflective m) q)

pub infos_go_on : (infos : List Info) (n : ℕ) (i : Info) (a b e : Seen) → slice_get infos n ≡ Some i → SeesNames (λ q. IsOneOfFirst infos n (Reflective q)) a b → SeesInfo i b e → SeesNames (λ q. IsOneOfFirst infos (n + 1) (Reflective q)) a e
infos_go_on infos n i a b e at f g = record { made = g.made ∙ f.made; below = g.below ∙ f.below; called = g.called ∙ f.called; reflective = λ m. (λ h. into m ((g.reflective m).0 h), λ q. (g.reflective m).1 (from m q)) }
  where
    older : (m : MethodName) → Contains a.reflective.keys m ⊎ IsOneOfFirst infos n (Reflective m) → Contains a.reflective.keys m ⊎ IsOneOfFirst infos (n + 1) (Reflective m)
    older m (inl h) = inl h
    older m (inr q) = inr (first_join infos n i (Reflective m) at (inl q))

    into : (m : MethodName) → Contains b.reflective.keys m ⊎ (i ≡ Reflective m) → Contains a.reflective.keys m ⊎ IsOneOfFirst infos (n + 1) (Reflective m)
    into m (inl h) = older m ((f.reflective m).0 h)
    into m (inr k) = inr (first_join infos n i (Reflective m) at (inr k))

    newer : (m : MethodName) → IsOneOfFirst infos n (Reflective m) ⊎ (i ≡ Reflective m) → Contains b.reflective.keys m ⊎ (i ≡ Reflective m)
    newer m (inl q) = inl ((f.reflective m).1 (inr q))
    newer m (inr k) = inr k

    from : (m : MethodName) → Contains a.reflective.keys m ⊎ IsOneOfFirst infos (n + 1) (Reflective m) → Contains b.reflective.keys m ⊎ (i ≡ Reflective m)
    from m (inl h) = inl ((f.reflective m).1 (inl h))
    from m (inr q) = newer m (first_split infos n i (Reflective m) at q)

pub infos_end : (infos : List Info) (n : ℕ) (a b : Seen) → length infos ≤ n → SeesNames (λ q. IsOneOfFirst infos n (Reflective q)) a b → SeesInfos infos a b
infos_end infos n a b over f = sees_as _ (λ q. Contains infos (Reflective q)) a b (λ q h. first_in infos n (Reflective q) h) (λ q h. all_first infos n (Reflective q) over h) f

pub sees_asked : (all once infos : List Info) (a b : Seen) → FirstsOf all once → infos ≡ once → SeesInfos infos a b → SeesInfos all a b
sees_asked all once infos a b firsts same f = sees_as _ (λ q. Contains all (Reflective q)) a b (λ q h. stands_in_all all once (Reflective q) firsts (subst (λ (l : List Info). Contains l (Reflective q)) same h)) (λ q h. subst (λ (l : List Info). Contains l (Reflective q)) (sym same) (stands_once all once (Reflective q) firsts h)) f

pub sees_body : (w : Classes) (k : Member) (d : MethodDef) (a b : Seen) → IsMethodOf w k d → SeesInfos (asked_by d) a b → SeesBody w k a b
sees_body w k d a b m f = sees_as _ (λ q. IsReadIn w k (Reflective q)) a b (λ q h. record { definition = d; defined = m; asked = h }) (λ q r. subst (λ (e : MethodDef). Contains (asked_by e) (Reflective q)) (one_method w k r.definition d r.defined m) r.asked) f

pub sees_no_body : (w : Classes) (k : Member) (a : Seen) → ((d : MethodDef) → IsMethodOf w k d → ⊥) → SeesBody w k a a
sees_no_body w k a none = sees_none (λ q. IsReadIn w k (Reflective q)) a (λ q r. none r.definition r.defined)

-- what a fact changes
record Sees (w : Classes) (f : Fact) (old new : Seen) : Type 0 where
  made : (c : Name) → Contains new.made.items c ↔ (Contains old.made.items c ⊎ (f ≡ fact.Made c))
  below : (d c : Name) → Contains (items_at new.below d) c ↔ (Contains (items_at old.below d) c ⊎ ((f ≡ fact.Made c) × IsAncestor w c d))
  called : (d : Name) (m : MethodName) → Contains (items_at new.called d) m ↔ (Contains (items_at old.called d) m ⊎ (f ≡ fact.Called d m))
  reflective : (p : MethodName) → Contains new.reflective.keys p ↔ (Contains old.reflective.keys p ⊎ ((k : Member) × (f ≡ fact.Body k) × IsReadIn w k (Reflective p)))

kept : {X : Type 0} (x : X) (old new : List X) (P : Type 0) → new ≡ old → (P → ⊥) → Contains new x ↔ (Contains old x ⊎ P)
kept {X} x old new P same none = (λ h. inl (subst (λ (l : List X). Contains l x) same h), λ q. subst (λ (l : List X). Contains l x) (sym same) (from q))
  where
    from : Contains old x ⊎ P → Contains old x
    from (inl h) = h
    from (inr p) = absurd (none p)

sees_nothing : (w : Classes) (f : Fact) (old new : Seen) → new ≡ old → ((c : Name) → f ≡ fact.Made c → ⊥) → ((d : Name) (m : MethodName) → f ≡ fact.Called d m → ⊥) → ((k : Member) → f ≡ fact.Body k → ⊥) → Sees w f old new
sees_nothing w f old new same made called body = record {
  made = λ c. kept c old.made.items new.made.items _ (ap (λ (s : Seen). s.made.items) same) (made c);
  below = λ d c. kept c (items_at old.below d) (items_at new.below d) _ (ap (λ (s : Seen). items_at s.below d) same) (λ q. made c q.0);
  called = λ d m. kept m (items_at old.called d) (items_at new.called d) _ (ap (λ (s : Seen). items_at s.called d) same) (called d m);
  reflective = λ p. kept p old.reflective.keys new.reflective.keys _ (ap (λ (s : Seen). s.reflective.keys) same) (λ q. body q.0 q.1);
}

same_made : (c d : Name) → fact.Made c ≡ fact.Made d → c ≡ d
same_made c d e = cc

same_called_class : (c d : Name) (m n : MethodName) → fact.Called c m ≡ fact.Called d n → c ≡ d
same_called_class c d m n e = cc

same_called_method : (c d : Name) (m n : MethodName) → fact.Called c m ≡ fact.Called d n → m ≡ n
same_called_method c d m n e = cc

same_body : (k l : Member) → fact.Body k ≡ fact.Body l → k ≡ l
same_body k l e = cc

sees_made : (w : Classes) (c : Name) (old new : Seen) → SeesMade w c old new → Sees w (fact.Made c) old new
sees_made w c old new s = record {
  made = λ d. (λ h. into d (Contains-push_cases old.made.items c d (subst (λ (l : List Name). Contains l d) s.made h)), λ q. subst (λ (l : List Name). Contains l d) (sym s.made) (from d q));
  below = λ d x. (λ h. under d x ((s.below.exact d x).0 h), λ q. (s.below.exact d x).1 (over d x q));
  called = λ d m. kept m (items_at old.called d) (items_at new.called d) _ (ap (λ (l : Lists MethodName). items_at l d) s.called) (λ e. cc);
  reflective = λ p. kept p old.reflective.keys new.reflective.keys _ s.reflective (λ q. let e : fact.Made c ≡ fact.Body q.0 = q.1 in cc);
}
  where
    into : (d : Name) → Contains old.made.items d ⊎ (c ≡ d) → Contains old.made.items d ⊎ (fact.Made c ≡ fact.Made d)
    into d (inl h) = inl h
    into d (inr e) = inr (ap fact.Made e)

    from : (d : Name) → Contains old.made.items d ⊎ (fact.Made c ≡ fact.Made d) → Contains (old.made.items ++ c ∷ []) d
    from d (inl h) = Contains-append_left old.made.items (c ∷ []) d h
    from d (inr e) = subst (λ (x : Name). Contains (old.made.items ++ c ∷ []) x) (same_made c d e) (Contains-push old.made.items c)

    under : (d x : Name) → Contains (items_at old.below d) x ⊎ (IsAncestor w c d × (c ≡ x)) → Contains (items_at old.below d) x ⊎ ((fact.Made c ≡ fact.Made x) × IsAncestor w x d)
    under d x (inl h) = inl h
    under d x (inr q) = inr (ap fact.Made q.1, subst (λ (y : Name). IsAncestor w y d) q.1 q.0)

    over : (d x : Name) → Contains (items_at old.below d) x ⊎ ((fact.Made c ≡ fact.Made x) × IsAncestor w x d) → Contains (items_at old.below d) x ⊎ (IsAncestor w c d × (c ≡ x))
    over d x (inl h) = inl h
    over d x (inr q) = let e : c ≡ x = same_made c x q.0 in inr (subst (λ (y : Name). IsAncestor w y d) (sym e) q.1, e)

sees_call : (w : Classes) (c : Name) (m : MethodName) (old new : Seen) → SeesCalled c m old new → Sees w (fact.Called c m) old new
sees_call w c m old new s = record {
  made = λ d. kept d old.made.items new.made.items _ s.made (λ e. cc);
  below = λ d x. kept x (items_at old.below d) (items_at new.below d) _ (ap (λ (l : Lists Name). items_at l d) s.below) (λ q. let e : fact.Called c m ≡ fact.Made x = q.0 in cc);
  called = λ d x. (λ h. into d x ((s.called d x).0 h), λ q. (s.called d x).1 (from d x q));
  reflective = λ p. kept p old.reflective.keys new.reflective.keys _ s.reflective (λ q. let e : fact.Called c m ≡ fact.Body q.0 = q.1 in cc);
}
  where
    into : (d : Name) (x : MethodName) → Contains (items_at old.called d) x ⊎ ((c ≡ d) × (m ≡ x)) → Contains (items_at old.called d) x ⊎ (fact.Called c m ≡ fact.Called d x)
    into d x (inl h) = inl h
    into d x (inr q) = inr (let e : c ≡ d = q.0 in let k : m ≡ x = q.1 in cc)

    from : (d : Name) (x : MethodName) → Contains (items_at old.called d) x ⊎ (fact.Called c m ≡ fact.Called d x) → Contains (items_at old.called d) x ⊎ ((c ≡ d) × (m ≡ x))
    from d x (inl h) = inl h
    from d x (inr e) = inr (same_called_class c d m x e, same_called_method c d m x e)

sees_bodies : (w : Classes) (k : Member) (old new : Seen) → SeesBody w k old new → Sees w (fact.Body k) old new
sees_bodies w k old new s = record {
  made = λ d. kept d old.made.items new.made.items _ s.made (λ e. cc);
  below = λ d x. kept x (items_at old.below d) (items_at new.below d) _ (ap (λ (l : Lists Name). items_at l d) s.below) (λ q. let e : fact.Body k ≡ fact.Made x = q.0 in cc);
  called = λ d x. kept x (items_at old.called d) (items_at new.called d) _ (ap (λ (l : Lists MethodName). items_at l d) s.called) (λ e. cc);
  reflective = λ p. (λ h. into p ((s.reflective p).0 h), λ q. (s.reflective p).1 (from p q));
}
  where
    into : (p : MethodName) → Contains old.reflective.keys p ⊎ IsReadIn w k (Reflective p) → Contains old.reflective.keys p ⊎ ((l : Member) × (fact.Body k ≡ fact.Body l) × IsReadIn w l (Reflective p))
    into p (inl h) = inl h
    into p (inr r) = inr (k, refl, r)

    from : (p : MethodName) → Contains old.reflective.keys p ⊎ ((l : Member) × (fact.Body k ≡ fact.Body l) × IsReadIn w l (Reflective p)) → Contains old.reflective.keys p ⊎ IsReadIn w k (Reflective p)
    from p (inl h) = inl h
    from p (inr q) = inr (subst (λ (l : Member). IsReadIn w l (Reflective p)) (sym (same_body k q.0 q.1)) q.2)

sees : (w : Classes) (f : Fact) (old new : Seen) → SeesFact w f old new → Sees w f old new
sees w (fact.Needed c) old new s = sees_nothing w (fact.Needed c) old new s (λ d e. cc) (λ d m e. cc) (λ k e. cc)
sees w (fact.Made c) old new s = sees_made w c old new s
sees w (fact.CellUsed c) old new s = sees_nothing w (fact.CellUsed c) old new s (λ d e. cc) (λ d m e. cc) (λ k e. cc)
sees w (fact.NeededField c f b) old new s = sees_nothing w (fact.NeededField c f b) old new s (λ d e. cc) (λ d m e. cc) (λ k e. cc)
sees w (fact.Body k) old new s = sees_bodies w k old new s
sees w (fact.Called d m) old new s = sees_call w d m old new s

pub seen_begins : (w : Classes) (entries : List EntryPoint) (seen : Seen) → IsEmpty seen → IsSeen w entries (Contains []) seen
seen_begins w entries seen e = record {
  made = λ c. (λ h. nothing_in c (subst (λ (l : List Name). Contains l c) e.made h), λ h. nothing_in (fact.Made c) h);
  below = λ d c. (λ h. nothing_in c (subst (λ (l : List Name). Contains l c) (e.below d) h), λ h. nothing_in (fact.Made c) h.0);
  called = λ d m. (λ h. nothing_in m (subst (λ (l : List MethodName). Contains l m) (e.called d) h), λ h. nothing_in (fact.Called d m) h);
  reflective = λ p. (λ h. nothing_in p (subst (λ (l : List MethodName). Contains l p) e.reflective h), λ r. nothing_in (fact.Body r.member) r.needed);
}

-- what is kept goes on to be that of the facts that were gone through
module _ (w : Classes) (entries : List EntryPoint) (front : List Fact) (f : Fact) where
  abbrev Now : Fact → Type 0
  Now = Contains (front ++ f ∷ [])

  pub grown : (g : Fact) → Contains front g → Now g
  grown g h = Contains-append_left front (f ∷ []) g h

  pub latest : (g : Fact) → f ≡ g → Now g
  latest g e = subst Now e (Contains-push front f)

  pub reads_old : (i : Info) → Reads w entries (Contains front) i → Reads w entries Now i
  reads_old i r = reads-grow w entries (Contains front) Now grown i r

  pub seen_goes_on : (old new : Seen) → IsSeen w entries (Contains front) old → SeesFact w f old new → IsSeen w entries Now new
  seen_goes_on old new was step = record {
    made = λ c. (λ h. made_in c ((s.made c).0 h), λ h. (s.made c).1 (made_out c (Contains-push_cases front f (fact.Made c) h)));
    below = λ d c. (λ h. below_in d c ((s.below d c).0 h), λ q. (s.below d c).1 (below_out d c q.1 (Contains-push_cases front f (fact.Made c) q.0)));
    called = λ d m. (λ h. called_in d m ((s.called d m).0 h), λ h. (s.called d m).1 (called_out d m (Contains-push_cases front f (fact.Called d m) h)));
    reflective = λ p. (λ h. read_in p ((s.reflective p).0 h), λ r. (s.reflective p).1 (read_out p r (Contains-push_cases front f (fact.Body r.member) r.needed)));
  }
    where
      s : Sees w f old new
      s = sees w f old new step

      made_in : (c : Name) → Contains old.made.items c ⊎ (f ≡ fact.Made c) → Now (fact.Made c)
      made_in c (inl h) = grown (fact.Made c) ((was.made c).0 h)
      made_in c (inr e) = latest (fact.Made c) e

      made_out : (c : Name) → Contains front (fact.Made c) ⊎ (f ≡ fact.Made c) → Contains old.made.items c ⊎ (f ≡ fact.Made c)
      made_out c (inl h) = inl ((was.made c).1 h)
      made_out c (inr e) = inr e

      below_in : (d c : Name) → Contains (items_at old.below d) c ⊎ ((f ≡ fact.Made c) × IsAncestor w c d) → Now (fact.Made c) × IsAncestor w c d
      below_in d c (inl h) = let q = (was.below d c).0 h in (grown (fact.Made c) q.0, q.1)
      below_in d c (inr q) = (latest (fact.Made c) q.0, q.1)

      below_out : (d c : Name) → IsAncestor w c d → Contains front (fact.Made c) ⊎ (f ≡ fact.Made c) → Contains (items_at old.below d) c ⊎ ((f ≡ fact.Made c) × IsAncestor w c d)
      below_out d c a (inl h) = inl ((was.below d c).1 (h, a))
      below_out d c a (inr e) = inr (e, a)

      called_in : (d : Name) (m : MethodName) → Contains (items_at old.called d) m ⊎ (f ≡ fact.Called d m) → Now (fact.Called d m)
      called_in d m (inl h) = grown (fact.Called d m) ((was.called d m).0 h)
      called_in d m (inr e) = latest (fact.Called d m) e

      called_out : (d : Name) (m : MethodName) → Contains front (fact.Called d m) ⊎ (f ≡ fact.Called d m) → Contains (items_at old.called d) m ⊎ (f ≡ fact.Called d m)
      called_out d m (inl h) = inl ((was.called d m).1 h)
      called_out d m (inr e) = inr e

      read_in : (p : MethodName) → Contains old.reflective.keys p ⊎ ((k : Member) × (f ≡ fact.Body k) × IsReadIn w k (Reflective p)) → Reads w entries Now (Reflective p)
      read_in p (inl h) = reads_old (Reflective p) ((was.reflective p).0 h)
      read_in p (inr q) = record { member = q.0; needed = latest (fact.Body q.0) q.1; definition = q.2.definition; defined = q.2.defined; asked = q.2.asked }

      read_out : (p : MethodName) (r : Reads w entries Now (Reflective p)) → Contains front (fact.Body r.member) ⊎ (f ≡ fact.Body r.member) → Contains old.reflective.keys p ⊎ ((k : Member) × (f ≡ fact.Body k) × IsReadIn w k (Reflective p))
      read_out p r (inl h) = inl ((was.reflective p).1 (record { member = r.member; needed = h; definition = r.definition; defined = r.defined; asked = r.asked }))
      read_out p r (inr e) = inr (r.member, e, record { definition = r.definition; defined = r.defined; asked = r.asked })

pub sees_called_step : (old new : Seen) (c : Name) (item m : MethodName) → item ≡ m → ((other : Name) → items_at new.called other ≡ (if is_same c other then items_at old.called other ++ item ∷ [] else items_at old.called other)) → new.made.items ≡ old.made.items → new.below ≡ old.below → new.reflective.keys ≡ old.reflective.keys → SeesCalled c m old new
sees_called_step old new c item m same puts made below reflective = record { made = made; below = below; called = sees_called old.called new.called c item m same puts; reflective = reflective }
