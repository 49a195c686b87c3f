-- The classes of an accepted folder have one list of pieces.
use Rattle.std.proofs.Common.{◌≡◌, ◌↔◌, ℕ, Bool, true, false, List, Some, None, refl, sym, ap, subst, ◌∙◌, Contains}
use Rattle.std.proofs.lemmas.List.Sorted.{Contains-permutation, IsPermutation-sym}
use Rattle.ir_mean.specs.World.{member_of}
use Rattle.js_tree.specs.Rules.{IsModule}
use Rattle.js_tree.specs.Spelling.{Spells}
use Rattle.js_tree.specs.Terms.{Module, Piece}
use Rattle.js_tree.proofs.Kept.{module_kept}
use Rattle.js_tree.proofs.TextLaws.{module_spelled}
use Rattle.declared_pieces.proofs.One.{are_one as pieces_are_one}
use Rattle.declared_pieces.proofs.LinkedEntriesOne.{one_method}
use Rattle.declared_pieces.specs.ToldPieces.{HasOneTarget}
use Rattle.declared_pieces.specs.LinkedPiecesLaws.{AreAlike}
use Rattle.declared_pieces.proofs.LinkedEntriesOne.{entries_one}
use Rattle.declared_pieces.specs.EmittedMethods.{EmittedMethod, HasFunction}
use Rattle.sj_graph.specs.declared.graphs.Reference.{Reference}
use Rattle.sj_local.specs.Broken.{FirstBroken}
use Rattle.sj_names.specs.declared.entry_points.EntryPoint.{EntryPoint}
use Rattle.sj_names.specs.declared.folders.SourceFile.{SourceFile}
use Rattle.sj_names.specs.declared.method_names.Member.{Member}
use Rattle.sj_split.specs.Walks.{References, Walk}
use Rattle.sj_trees.specs.declared.classes.ClassDef.{ClassDef}
use Rattle.sj_world.specs.Known.{Name, Classes}
use Rattle.sj_world.specs.declared.facts.Fact.{Fact}
use Rattle.worklist.specs.Paths.{stay, on}
use Rattle.declared_pieces.specs.Accepted.{IsAccepted}
use Rattle.declared_pieces.specs.Bodies.{IsFound, AreBodies}
use Rattle.linked_folders.specs.Link.{ArePieces}
use Rattle.linked_folders.specs.Laws.{PiecesAreOne}

-- what is found for a member is one
one_found : (w : Classes) (e f : EmittedMethod) → e.member ≡ f.member → IsFound w e → IsFound w f → e ≡ f
one_found w e f same one other =
    let found : Some e.definition ≡ Some f.definition = sym one.found ∙ ap (λ (m : Member). member_of w m.class m.namespace m.method) same ∙ other.found in
    let definition : e.definition ≡ f.definition = cc in
    let body : Some e.its_body ≡ Some f.its_body = sym one.has_body ∙ ap (λ d. d.body) definition ∙ other.has_body in
    let its_body : e.its_body ≡ f.its_body = cc in
    (λ i. record { member = same i; definition = definition i; its_body = its_body i })

module _ (w : Classes) (entries : List EntryPoint) where
  pub same_bodies : (all more : List EmittedMethod) → AreBodies w entries all → AreBodies w entries more → (e : EmittedMethod) → Contains all e → Contains more e
  same_bodies all more one other e i =
      let f : HasFunction more e.member = (other.exact e.member).1 ((one.exact e.member).0 (record { method = e; listed = i; is = refl })) in
      subst (Contains more) (one_found w f.method e f.is (other.found f.method f.listed) (one.found e i)) f.listed

-- graphs of the same pieces have the same references, and so the same walks
pub same_walk : (one other : References) → ((r : Reference) → Contains one r → Contains other r) → (a b : Name) → Walk one a b → Walk other a b
same_walk one other each a b stay = stay
same_walk one other each a b (on c _ path step) = on c b (same_walk one other each a c path) (each _ step)

-- a test that is passed by the same things
pub same_test : (a b : Bool) → (a ≡ true → b ≡ true) → (b ≡ true → a ≡ true) → a ≡ b
same_test true b to back = sym (to refl)
same_test false true to back = back refl
same_test false false to back = refl

-- the pieces of the classes of an accepted folder are one list
module _ (entries : List EntryPoint) (files : List SourceFile) (w : Classes) (accepted : IsAccepted entries files w) where
  kept : (c : ClassDef) → Contains w c → FirstBroken c None
  kept c i = accepted.kept c (Contains-permutation w accepted.classes c (IsPermutation-sym accepted.classes w accepted.world.sorted.same) i)

  pub one_pieces : (ps qs : List Piece) → ArePieces w entries ps → ArePieces w entries qs → ps ≡ qs
  one_pieces ps qs one other = pieces_are_one one.linked other.linked one.all other.all ps qs of_world of_names alike (λ e. (same_bodies w entries one.all other.all one.bodies other.bodies e, same_bodies w entries other.all one.all other.bodies one.bodies e)) one.are other.are
    where
      of_world : (c : ClassDef) → Contains one.linked.world c → FirstBroken c None
      of_world = subst (λ (u : Classes). (c : ClassDef) → Contains u c → FirstBroken c None) (sym one.is_linked.world) kept

      of_names : HasOneTarget one.linked.world
      of_names = subst HasOneTarget (sym one.is_linked.world) (one_method entries files w accepted)

      same_facts : (f : Fact) → Contains one.facts f ↔ Contains other.facts f
      same_facts f = (λ i. (other.are_facts f).1 ((one.are_facts f).0 i), λ i. (one.are_facts f).1 ((other.are_facts f).0 i))

      alike : AreAlike one.linked other.linked
      alike = record {
        world = one.is_linked.world ∙ sym other.is_linked.world;
        facts = subst (λ (gs : List Fact). (f : Fact) → Contains one.linked.facts f ↔ Contains gs f) (sym other.is_linked.facts_are) (subst (λ (fs : List Fact). (f : Fact) → Contains fs f ↔ Contains other.facts f) (sym one.is_linked.facts_are) same_facts);
        entries = entries_one entries files w accepted one.facts other.facts (λ f i. (one.are_facts f).0 i) same_facts one.linked.entries other.linked.entries one.is_linked.entries other.is_linked.entries;
      }

pub spelled_once : (m : Module) (one other : List ℕ) → Spells m one → Spells m other → one ≡ other
spelled_once m one other s t = let kept : IsModule m = module_kept m one s in (module_spelled m kept one).0 s ∙ sym ((module_spelled m kept other).0 t)

pub pieces_one : PiecesAreOne
pieces_one entries files w ps qs accepted one other = one_pieces entries files w accepted ps qs one other
