-- No world that resolves is without a verdict on its types.
use Rattle.std.proofs.Common.{◌≡◌, ℕ, List, [], ◌∷◌, Option, Some, None, map, Contains, refl, sym, ◌∙◌, subst, inl, inr}
use Rattle.std.specs.Prelude.{◌⊎◌}
use Rattle.std.specs.List.{All, flat_map}
use Rattle.std.proofs.lemmas.List.Elements.{Contains-append_left, Contains-append_right}
use Rattle.sj_names.specs.declared.entry_points.EntryPoint.{EntryPoint}
use Rattle.sj_names.specs.declared.method_names.Member.{Member}
use Rattle.sj_trees.specs.Term.{Term}
use Rattle.sj_trees.specs.declared.classes.ClassDef.{ClassDef}
use Rattle.sj_trees.specs.declared.classes.MethodDef.{MethodDef}
use Rattle.sj_local.specs.Broken.{FirstBroken}
use Rattle.sj_world.specs.Known.{Classes}
use Rattle.sj_world.specs.Members.{IsMethodOf}
use Rattle.sj_world.specs.declared.facts.Fact.TheVariants as fact
use Rattle.sj_world.proofs.ByName.{name_of_class}
use Rattle.sj_world.proofs.Searches.{contains_at}
use Rattle.sj_typing_verdicts.specs.Nodes.{nodes}
use Rattle.sj_typing_verdicts.specs.Rules.{Yields}
use Rattle.sj_typing_verdicts.specs.Typed.{MeetsThere, IsTyped, IsUntyped, a_tree, the_body, tag}
use Rattle.sj_typing_verdicts.specs.Sizes.{in_32_bits}
use Rattle.sj_typing_verdicts.proofs.OneVerdict.{has_one_verdict}
use Rattle.sj_reach.specs.Reachable.{Reachable, Unresolved}
use Rattle.sj_reach.specs.Refusals.{Refusal, spelled_member}
use Rattle.sj_reach.specs.Answers.{comes_first}
use Rattle.sj_reach.specs.declared.findings.Report.{Report}
use Rattle.worklist.proofs.Inserted.{nothing_in}
use Rattle.folder_judging_spec.specs.Stages.{rule_at, IsUntypedBody}
use Rattle.folder_judging_spec.specs.Verdicts.{Verdict, accepted, ByTypes, untyped, typed}
use Rattle.folder_judging_spec.proofs.Defined.{found_in, has_body}
use Rattle.folder_judging_spec.proofs.Undenied as undenied
use Rattle.folder_judging_spec.proofs.Undenied.{Undenied, granted, and_so, decided, each_undenied, Gathered, gathered, Failing, all_or_failing, Least, NoneAmong, Any, least_or_none, first_or_later}
use Rattle.sj_reach.proofs.Once.{first_itself, first_trans}

-- a thing of what is made of a thing in a list
pub in_all : {X Y : Type 0} (f : X → List Y) (xs : List X) (x : X) (y : Y) → Contains xs x → Contains (f x) y → Contains (flat_map f xs) y
in_all f [] x y h k = nothing_in x h
in_all {X} {Y} f (a ∷ xs) x y h k = elim (first_or_later a xs x h) [
  | inl same ↦ Contains-append_left (f a) (flat_map f xs) y (subst (λ (z : X). Contains (f z) y) (sym same) k)
  | inr after ↦ Contains-append_right (f a) (flat_map f xs) y (in_all f xs x y after k)
]

pub in_map : {X Y : Type 0} (f : X → Y) (xs : List X) (x : X) → Contains xs x → Contains (map f xs) (f x)
in_map f [] x h = nothing_in x h
in_map {X} {Y} f (a ∷ xs) x h = elim (first_or_later a xs x h) [
  | inl same ↦ subst (λ (z : X). Contains (map f (a ∷ xs)) (f z)) same (undenied.here (f a) (map f xs))
  | inr after ↦ undenied.there (f a) (map f xs) (f x) (in_map f xs x after)
]

-- ---- the methods of a world

pub record Candidate : Type 0 where
  pub member : Member
  pub definition : MethodDef

abbrev pub candidate_of : ClassDef → MethodDef → Candidate
candidate_of c d = record { member = record { class = c.name; namespace = d.namespace; method = d.name }; definition = d }

abbrev pub methods_of : ClassDef → List Candidate
methods_of c = map (candidate_of c) c.methods

abbrev pub candidates : Classes → List Candidate
candidates = flat_map methods_of

candidate_is : (w : Classes) (k : Member) (d : MethodDef) (m : IsMethodOf w k d) → candidate_of m.class d ≡ record { member = k; definition = d }
candidate_is w k d m =
    let class = name_of_class w k.class m.class m.is_class in
    let space = m.first.has.namespace_is in
    let name = m.first.has.name_is in
    λ i. record { member = record { class = class i; namespace = space i; method = name i }; definition = d }

pub listed : (w : Classes) (k : Member) (d : MethodDef) → IsMethodOf w k d → Contains (candidates w) (record { member = k; definition = d })
listed w k d m = subst (λ (x : Candidate). Contains (candidates w) x) (candidate_is w k d m) (in_all methods_of w m.class (candidate_of m.class d) (found_in w k.class m.class m.is_class) (in_map (candidate_of m.class) m.class.methods d (contains_at m.class.methods m.first.place d m.first.stands)))

-- what is told of a method that isn't typed
record Says (w : Classes) (x : Candidate) (r : Report) : Type 0 where
  at_node : ℕ
  untyped : IsUntyped w x.definition r.code at_node
  spelled : spelled_member x.member ≡ r.place

says_once : (w : Classes) (x : Candidate) (r s : Report) → Says w x r → Says w x s → r ≡ s
says_once w x r s h k =
    let code : r.code ≡ s.code = ((has_one_verdict w x.definition).one_fault r.code s.code h.at_node k.at_node h.untyped k.untyped).0 in
    let place : r.place ≡ s.place = sym h.spelled ∙ k.spelled in
    λ i. record { code = code i; place = place i }

-- a method with a body is typed, or fails first somewhere
abbrev Fault : Classes → MethodDef → Type 0
Fault w d = (rule : ℕ) × (place : ℕ) × IsUntyped w d rule place

judged : (w : Classes) (d : MethodDef) → (d.body ≡ None → ⊥) → Undenied (IsTyped w d ⊎ Fault w d)
judged w d some = go d.body refl
  where
    tell : (b : Term) → d.body ≡ Some b → All (MeetsThere w d.namespace) (nodes [] 0 b) ⊎ Failing (MeetsThere w d.namespace) (nodes [] 0 b) → Yields w b d.result ⊎ (Yields w b d.result → ⊥) → IsTyped w d ⊎ Fault w d
    tell b e (inl all) (inl y) = inl (record { body = b; has_body = e; met = all; yields = y })
    tell b e (inl all) (inr n) = inr (0, 0, record { body = b; has_body = e; first = the_body all n })
    tell b e (inr f) y = inr (tag f.item.tree, in_32_bits f.item.number, record { body = b; has_body = e; first = a_tree f.item (record { before = f.before; behind = f.behind; parts = f.parts; met = f.met; fails = f.fails }) })

    go : (o : Option Term) → d.body ≡ o → Undenied (IsTyped w d ⊎ Fault w d)
    go None e = absurd (some e)
    go (Some b) e = and_so (all_or_failing (MeetsThere w d.namespace) (nodes [] 0 b)) (λ met. and_so (decided (Yields w b d.result)) (λ y. granted (tell b e met y)))

module _ (w : Classes) (entries : List EntryPoint) (keeps : (c : ClassDef) → Contains w c → FirstBroken c None) (resolved : (r : Refusal) → Unresolved w entries r → ⊥) where
  abbrev Told : Report → Type 0
  Told r = IsUntypedBody w entries r.place r.code

  abbrev HasVerdict : Type 0
  HasVerdict = (v : Verdict) × ByTypes entries w v

  abbrev IsFine : Candidate → Type 0
  IsFine x = Reachable w entries (fact.Body x.member) → IsMethodOf w x.member x.definition → IsTyped w x.definition

  abbrev IsAsked_for : Candidate → Type 0
  IsAsked_for x = Reachable w entries (fact.Body x.member) × IsMethodOf w x.member x.definition

  whole : (g : Gathered (Says w) (candidates w)) (r : Report) → Told r → Contains g.all r
  whole g r h = g.whole (record { member = h.member; definition = h.definition }) r (listed w h.member h.definition h.defined) (record { at_node = h.place; untyped = h.untyped; spelled = h.spelled_is })

  module _ (none : NoneAmong comes_first first_itself first_trans Told (Any comes_first first_itself first_trans Told)) where
    typed_too : (x : Candidate) (q : IsAsked_for x) → IsTyped w x.definition ⊎ Fault w x.definition → IsFine x
    typed_too x q (inl t) r m = t
    typed_too x q (inr u) r m = absurd (none (rule_at u.0 (spelled_member x.member)) tt (record { member = x.member; needed = q.0; definition = x.definition; defined = q.1; spelled_is = refl; place = u.1; untyped = u.2 }))

    fine : (x : Candidate) → IsAsked_for x ⊎ (IsAsked_for x → ⊥) → Undenied (IsFine x)
    fine x (inl q) = and_so (judged w x.definition (has_body w entries keeps resolved x.member q.0 x.definition q.1)) (λ t. granted (typed_too x q t))
    fine x (inr n) = granted (λ r m. absurd (n (r, m)))

    all_fine : Undenied ((x : Candidate) → Contains (candidates w) x → IsFine x)
    all_fine = each_undenied IsFine (candidates w) (λ x i. and_so (decided (IsAsked_for x)) (fine x))

  by_least : Least comes_first first_itself first_trans Told (Any comes_first first_itself first_trans Told) ⊎ NoneAmong comes_first first_itself first_trans Told (Any comes_first first_itself first_trans Told) → Undenied HasVerdict
  by_least (inl l) = granted (_, untyped l.item.place l.item.code (record { untyped = l.has; least = λ other another h. l.least (rule_at another other) tt h }))
  by_least (inr none) = and_so (all_fine none) (λ all. granted (accepted, typed (λ k d r m. all (record { member = k; definition = d }) (listed w k d m) r m)))

  -- a world that resolves has a verdict on its types
  pub types_are_told : Undenied HasVerdict
  types_are_told = and_so (gathered (Says w) (says_once w) (candidates w)) (λ g. and_so (least_or_none comes_first first_itself first_trans Told g.all (whole g)) by_least)
