-- The bodies of an accepted folder can be listed.
use Rattle.std.proofs.Common.{◌≡◌, Bool, true, false, List, [], ◌∷◌, Option, Some, None, refl, sym, ap, subst, ◌∙◌, ⊎_elim, Contains, inl, inr}
use Rattle.std.specs.Prelude.{◌⊎◌}
use Rattle.std.proofs.lemmas.List.Sorted.{Contains-permutation, IsPermutation-sym}
use Rattle.agree_classes.specs.EmittedMethods.{EmittedMethod, HasFunction, HaveOwnMembers}
use Rattle.agree_classes.proofs.Found.{here, there}
use Rattle.sj_local.specs.Broken.{FirstBroken}
use Rattle.sj_names.proofs.Same.{impossible}
use Rattle.sj_names.specs.declared.entry_points.EntryPoint.{EntryPoint}
use Rattle.sj_names.specs.declared.method_names.Member.{Member}
use Rattle.agree_classes.proofs.Same.{has_function-is}
use Rattle.agree_classes.specs.Linked.{has_function}
use Rattle.sj_trees.specs.Term.{Term}
use Rattle.sj_trees.specs.declared.classes.ClassDef.{ClassDef}
use Rattle.sj_trees.specs.declared.classes.MethodDef.{MethodDef}
use Rattle.sj_world.specs.Known.{Classes}
use Rattle.sj_world.specs.Members.{IsMethodOf}
use Rattle.sj_world.specs.declared.facts.Fact.{Fact}
use Rattle.sj_world.specs.declared.facts.Fact.TheVariants.{Body}
use Rattle.folder_judging_spec.specs.Reachable.{Reachable, Unresolved}
use Rattle.folder_judging_spec.specs.Refusals.{Refusal}
use Rattle.folder_judging_spec.proofs.Defined.{reached_is_defined, has_body}
use Rattle.folder_judging_spec.proofs.EachTyped.{Candidate, candidates, listed}
use Rattle.folder_judging_spec.proofs.Undenied.{Undenied, granted, and_so, decided, first_or_later}
use Rattle.worklist.proofs.Inserted.{nothing_in}
use Rattle.accepted_folders.specs.Bodies.{IsFound, AreBodies}
use Rattle.accepted_folders.specs.Laws.{AcceptedFoldersHaveBodies}
use Rattle.accepted_folders.proofs.Members.{has_function-from, found-member}

module _ (w : Classes) (entries : List EntryPoint) (keeps : (c : ClassDef) → Contains w c → FirstBroken c None) (resolved : (r : Refusal) → Unresolved w entries r → ⊥) where
  abbrev R : Fact → Type 0
  R = Reachable w entries

  abbrev Defined : Member → Type 0
  Defined k = (d : MethodDef) × IsMethodOf w k d

  -- each body that is needed is defined
  body-is-defined : (k : Member) → R (Body k) → Defined k
  body-is-defined k r = let d = reached_is_defined w entries keeps resolved k r in (d.definition, d.defined)

  abbrev HasBody : MethodDef → Type 0
  HasBody d = (b : Term) × (d.body ≡ Some b)

  -- a method that is needed as a body
  abbrev IsGood : Candidate → Type 0
  IsGood x = R (Body x.member) × IsMethodOf w x.member x.definition

  its-body : (x : Candidate) → IsGood x → HasBody x.definition
  its-body x g = go x.definition.body refl
    where
      go : (o : Option Term) → x.definition.body ≡ o → HasBody x.definition
      go None e = absurd (has_body w entries keeps resolved x.member g.0 x.definition g.1 e)
      go (Some b) e = (b, e)

  -- the bodies among these methods, each once
  record Part (xs : List Candidate) : Type 0 where
    fs : List EmittedMethod
    needed : (e : EmittedMethod) → Contains fs e → R (Body e.member)
    found : (e : EmittedMethod) → Contains fs e → IsFound w e
    own : HaveOwnMembers fs
    whole : (x : Candidate) → Contains xs x → IsGood x → HasFunction fs x.member

  module _ (x : Candidate) (xs : List Candidate) (p : Part xs) where
    passed : (IsGood x → HasFunction p.fs x.member) → Part (x ∷ xs)
    passed has = record { fs = p.fs; needed = p.needed; found = p.found; own = p.own; whole = λ y i g. ⊎_elim (λ same. subst (λ (z : Candidate). HasFunction p.fs z.member) same (has (subst IsGood (sym same) g))) (λ after. p.whole y after g) (first_or_later x xs y i) }

    put : (g : IsGood x) → HasBody x.definition → has_function p.fs x.member ≡ false → Part (x ∷ xs)
    put g b new = record {
      fs = e ∷ p.fs;
      needed = λ f i. ⊎_elim (λ same. subst (λ (z : EmittedMethod). R (Body z.member)) same g.0) (λ after. p.needed f after) (first_or_later e p.fs f i);
      found = λ f i. ⊎_elim (λ same. subst (IsFound w) same (record { found = found-member w x.member x.definition g.1; has_body = b.1 })) (λ after. p.found f after) (first_or_later e p.fs f i);
      own = (apart, p.own);
      whole = λ y i h. ⊎_elim (λ same. record { method = e; listed = here e p.fs; is = ap (λ (z : Candidate). z.member) same }) (λ after. behind y (p.whole y after h)) (first_or_later x xs y i);
    }
      where
        e : EmittedMethod
        e = record { member = x.member; definition = x.definition; its_body = b.0 }

        apart : (o : EmittedMethod) → Contains p.fs o → x.member ≡ o.member → ⊥
        apart o i s = impossible (sym new ∙ has_function-from p.fs x.member (record { method = o; listed = i; is = sym s }))

        behind : (y : Candidate) → HasFunction p.fs y.member → HasFunction (e ∷ p.fs) y.member
        behind y h = record { method = h.method; listed = there e p.fs h.method h.listed; is = h.is }

    with-good : (g : IsGood x) (b : Bool) → has_function p.fs x.member ≡ b → Part (x ∷ xs)
    with-good g true h = passed (λ k. has_function-is p.fs x.member h)
    with-good g false h = put g (its-body x g) h

    with-one : IsGood x ⊎ (IsGood x → ⊥) → Part (x ∷ xs)
    with-one (inl g) = with-good g (has_function p.fs x.member) refl
    with-one (inr n) = passed (λ g. absurd (n g))

  parts : (xs : List Candidate) → Undenied (Part xs)
  parts [] = granted (record { fs = []; needed = λ e i. nothing_in e i; found = λ e i. nothing_in e i; own = tt; whole = λ x i g. nothing_in x i })
  parts (x ∷ xs) = and_so (parts xs) (λ p. and_so (decided (IsGood x)) (λ d. granted (with-one x xs p d)))

  are-bodies : (p : Part (candidates w)) → AreBodies w entries p.fs
  are-bodies p = record { exact = λ k. (λ h. subst (λ (j : Member). R (Body j)) h.is (p.needed h.method h.listed), λ r. by-definition k r (body-is-defined k r)); found = p.found; own = p.own }
    where
      by-definition : (k : Member) → R (Body k) → Defined k → HasFunction p.fs k
      by-definition k r m = p.whole (record { member = k; definition = m.0 }) (listed w k m.0 m.1) (r, m.1)

pub have_bodies : AcceptedFoldersHaveBodies
have_bodies entries files w a none = parts w entries keeps a.resolved (candidates w) (λ p. none p.fs (are-bodies w entries keeps a.resolved p))
  where
    keeps : (c : ClassDef) → Contains w c → FirstBroken c None
    keeps c h = a.kept c (Contains-permutation w a.classes c (IsPermutation-sym a.classes w a.world.sorted.same) h)
