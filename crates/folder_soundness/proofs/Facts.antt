-- The facts that are reachable in an accepted folder can be listed: each is one of those that its classes and its bodies can tell.
use Rattle.std.proofs.Common.{◌≡◌, ◌↔◌, ◌⊎◌, inl, inr, List, [], ◌∷◌, ◌++◌, Some, None, map, Contains, refl, sym, subst, ⊎_elim}
use Rattle.std.specs.List.{flat_map}
use Rattle.std.proofs.lemmas.List.Elements.{Contains-append_left, Contains-append_right}
use Rattle.declared_pieces.proofs.Defined.{last, reached_is_defined}
use Rattle.declared_pieces.proofs.Derivations.{closed}
use Rattle.declared_pieces.proofs.EachTyped.{Candidate, candidate_of, methods_of, candidates, in_all, in_map, listed}
use Rattle.declared_pieces.proofs.Made as made
use Rattle.declared_pieces.proofs.Plain.{class_found}
use Rattle.declared_pieces.specs.Reachable.{Reachable, Unresolved}
use Rattle.declared_pieces.specs.Refusals.{Refusal}
use Rattle.declared_pieces.specs.Rules.{Rule, Reads, load_needed, load_used, field_needed, call, reflective}
use Rattle.folder_judging_spec.proofs.Undenied.{Undenied, granted, and_so, decided, here, there, first_or_later}
use Rattle.object_helpers.specs.Worlds.{AreClassesKept}
use Rattle.sj_infos.specs.Infos.{asked_by}
use Rattle.sj_infos.specs.declared.infos.Info.{Info}
use Rattle.sj_infos.specs.declared.infos.Info.TheVariants as infos
use Rattle.sj_local.specs.Broken.{FirstBroken}
use Rattle.sj_names.specs.declared.entry_points.EntryPoint.{EntryPoint}
use Rattle.sj_names.specs.declared.method_names.Member.{Member}
use Rattle.sj_names.specs.declared.method_names.MethodName.{MethodName}
use Rattle.sj_trees.specs.declared.classes.ClassDef.{ClassDef}
use Rattle.sj_trees.specs.declared.classes.MethodDef.{MethodDef}
use Rattle.sj_world.specs.Calls.{IsChosen, IsProxyTarget, narrowest, least}
use Rattle.sj_world.specs.Known.{Name, Classes, class_of}
use Rattle.sj_world.specs.Paths.{stay}
use Rattle.sj_world.specs.declared.facts.Fact.{Fact}
use Rattle.sj_world.specs.declared.facts.Fact.TheVariants.{Needed, Made, CellUsed, NeededField, Body, Called}
use Rattle.worklist.proofs.Inserted.{nothing_in, only_one}

-- those of a list of which it holds
pub record Chosen {X : Type 0} (P : X → Type 0) (xs : List X) : Type 0 where
  pub those : List X
  pub right : (x : X) → Contains those x → P x
  pub whole : (x : X) → Contains xs x → P x → Contains those x

pub chosen : {X : Type 0} (P : X → Type 0) (xs : List X) → Undenied (Chosen P xs)
chosen P [] = granted (record { those = []; right = λ x i. nothing_in x i; whole = λ x i p. nothing_in x i })
chosen {X} P (y ∷ ys) = and_so (chosen P ys) (λ rest. and_so (decided (P y)) (λ d. granted (with_first rest d)))
  where
    with_first : Chosen P ys → P y ⊎ (P y → ⊥) → Chosen P (y ∷ ys)
    with_first rest (inl p) = record {
      those = y ∷ rest.those;
      right = λ x i. ⊎_elim (λ e. subst P e p) (λ later. rest.right x later) (first_or_later y rest.those x i);
      whole = λ x i q. ⊎_elim (λ e. subst (Contains (y ∷ rest.those)) e (here y rest.those)) (λ later. there y rest.those x (rest.whole x later q)) (first_or_later y ys x i);
    }
    with_first rest (inr deny) = record { those = rest.those; right = rest.right; whole = λ x i q. ⊎_elim (λ e. absurd (deny (subst P (sym e) q))) (λ later. rest.whole x later q) (first_or_later y ys x i) }

-- exactly those of which it holds, where all of these stand in a list
pub all_chosen : {X : Type 0} (P : X → Type 0) (xs : List X) → ((x : X) → P x → Contains xs x) → (c : Chosen P xs) → (x : X) → Contains c.those x ↔ P x
all_chosen P xs stands c x = (c.right x, λ p. c.whole x (stands x p) p)

abbrev name_of : ClassDef → Name
name_of c = c.name

abbrev pub names_of : Classes → List Name
names_of = map name_of

-- a class that is there has its name among those of the classes
pub name_stands : (w : Classes) (c : Name) → (k : ClassDef) × (class_of w c ≡ Some k) → Contains (names_of w) c
name_stands w c k = let found = class_found w c k.0 k.1 in subst (Contains (names_of w)) found.1 (in_map name_of w k.0 found.0)

-- a class of which objects are made is there
pub made_there : (w : Classes) (entries : List EntryPoint) (resolved : (r : Refusal) → Unresolved w entries r → ⊥) (kept : AreClassesKept w) (c : Name) → Reachable w entries (Made c) → (k : ClassDef) × (class_of w c ≡ Some k)
made_there w entries resolved kept c r = made.live_there w entries resolved kept (Made c ∷ []) (λ f i. subst (Reachable w entries) (only_one (Made c) f i) r) c (record { made = c; is_made = here (Made c) []; on_chain = stay })

module _ (w : Classes) (entries : List EntryPoint) (keeps : (c : ClassDef) → Contains w c → FirstBroken c None) (resolved : (r : Refusal) → Unresolved w entries r → ⊥) (kept : AreClassesKept w) where
  -- what can be told of a class, and by what a body asks for
  abbrev of_method : Name → Candidate → Fact
  of_method c x = Called c x.definition.name

  abbrev of_class : Name → List Fact
  of_class c = Needed c ∷ Made c ∷ CellUsed c ∷ map (of_method c) (candidates w)

  abbrev of_info : Info → List Fact
  of_info (infos.Field c f s) = NeededField c f s ∷ []
  of_info (infos.Called c m) = Called c m ∷ []
  of_info _ = []

  abbrev of_body : Candidate → List Fact
  of_body x = Body x.member ∷ flat_map of_info (asked_by x.definition)

  abbrev classes_tell : List Fact
  classes_tell = flat_map of_class (names_of w)

  abbrev bodies_tell : List Fact
  bodies_tell = flat_map of_body (candidates w)

  abbrev can_be_told : List Fact
  can_be_told = classes_tell ++ bodies_tell

  by_class : (c : Name) (f : Fact) → (k : ClassDef) × (class_of w c ≡ Some k) → Contains (of_class c) f → Contains can_be_told f
  by_class c f k i = Contains-append_left classes_tell bodies_tell f (in_all of_class (names_of w) c f (name_stands w c k) i)

  by_body : (k : Member) (d : MethodDef) (f : Fact) → Contains (candidates w) (record { member = k; definition = d }) → Contains (of_body (record { member = k; definition = d })) f → Contains can_be_told f
  by_body k d f listed_there i = Contains-append_right classes_tell bodies_tell f (in_all of_body (candidates w) (record { member = k; definition = d }) f listed_there i)

  by_reading : (o : Info) (f : Fact) → Reads w entries (Reachable w entries) o → Contains (of_info o) f → Contains can_be_told f
  by_reading o f r i = by_body r.member r.definition f (listed w r.member r.definition r.defined) (there (Body r.member) (flat_map of_info (asked_by r.definition)) f (in_all of_info (asked_by r.definition) o f r.asked i))

  needed_there : (c : Name) → Reachable w entries (Needed c) → (k : ClassDef) × (class_of w c ≡ Some k)
  needed_there = made.present w entries resolved kept

  chosen_among : (p : MethodName) (methods : List MethodDef) (d : MethodDef) → IsChosen w p methods d → Contains methods d
  chosen_among p methods d (narrowest its) = its.among
  chosen_among p methods d (least none its) = its.among

  -- the method that a reflective call reaches is one of the world's
  method_there : (c : Name) (p : MethodName) (d : MethodDef) (owner : Name) → IsProxyTarget w c p d owner → (x : Candidate) × Contains (candidates w) x × (x.definition ≡ d)
  method_there c p d owner t =
      let k = t.chosen.class in
      let x = candidate_of k d in
      (x, in_all methods_of w k x (class_found w owner k t.chosen.is_class).0 (in_map (candidate_of k) k.methods d (chosen_among p k.methods d t.chosen.chosen)), refl)

  stands : (f : Fact) → Reachable w entries f → Contains can_be_told f
  stands (Needed c) r = by_class c (Needed c) (needed_there c r) (here (Needed c) (Made c ∷ CellUsed c ∷ map (of_method c) (candidates w)))
  stands (Made c) r = by_class c (Made c) (made_there w entries resolved kept c r) (there (Needed c) (Made c ∷ CellUsed c ∷ map (of_method c) (candidates w)) (Made c) (here (Made c) (CellUsed c ∷ map (of_method c) (candidates w))))
  stands (CellUsed c) r = go (last w entries (CellUsed c) r)
    where
      go : Rule w entries (Reachable w entries) (CellUsed c) → Contains can_be_told (CellUsed c)
      go (load_used _ h) = by_class c (CellUsed c) (needed_there c (closed w entries (Needed c) (load_needed c h))) (there (Needed c) (Made c ∷ CellUsed c ∷ map (of_method c) (candidates w)) (CellUsed c) (there (Made c) (CellUsed c ∷ map (of_method c) (candidates w)) (CellUsed c) (here (CellUsed c) (map (of_method c) (candidates w)))))
  stands (NeededField c f s) r = go (last w entries (NeededField c f s) r)
    where
      go : Rule w entries (Reachable w entries) (NeededField c f s) → Contains can_be_told (NeededField c f s)
      go (field_needed _ _ _ h) = by_reading (infos.Field c f s) (NeededField c f s) h (here (NeededField c f s) [])
  stands (Body k) r = let d = reached_is_defined w entries keeps resolved k r in by_body k d.definition (Body k) (listed w k d.definition d.defined) (here (Body k) (flat_map of_info (asked_by d.definition)))
  stands (Called c m) r = go (last w entries (Called c m) r)
    where
      told : (x : Candidate) → Contains (candidates w) x → Contains (of_class c) (of_method c x)
      told x i = there (Needed c) (Made c ∷ CellUsed c ∷ map (of_method c) (candidates w)) (of_method c x) (there (Made c) (CellUsed c ∷ map (of_method c) (candidates w)) (of_method c x) (there (CellUsed c) (map (of_method c) (candidates w)) (of_method c x) (in_map (of_method c) (candidates w) x i)))

      go : Rule w entries (Reachable w entries) (Called c m) → Contains can_be_told (Called c m)
      go (call _ _ h free) = by_reading (infos.Called c m) (Called c m) h (here (Called c m) [])
      go (reflective _ p d owner h is_made its) = let x = method_there c p d owner its in by_class c (Called c d.name) (made_there w entries resolved kept c is_made) (subst (λ (e : MethodDef). Contains (of_class c) (Called c e.name)) x.2 (told x.0 x.1))

  -- the facts
  pub record Listed : Type 0 where
    pub facts : List Fact
    pub exact : (f : Fact) → Contains facts f ↔ Reachable w entries f

  pub facts_listed : Undenied Listed
  facts_listed = and_so (chosen (Reachable w entries) can_be_told) (λ c. granted (record { facts = c.those; exact = all_chosen (Reachable w entries) can_be_told stands c }))
