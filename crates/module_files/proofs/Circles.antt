-- The imports of a plan go in no circle.
use Rattle.std.proofs.Common.{◌≡◌, List, [], ◌∷◌, Some, Contains, inl, inr, refl, sym, ap, subst, ◌∙◌, map}
use Rattle.std.specs.Prelude.{◌⊎◌, codes}
use Rattle.std.specs.List.{IsDistinct}
use Rattle.std.proofs.lemmas.List.{append_cancel_right}
use Rattle.std.proofs.lemmas.List.Elements.{Contains-append_left}
use Rattle.js_tree.specs.Terms.{Piece}
use Rattle.js_tree.specs.declared.items.Binding.{Binding}
use Rattle.sj_emit_module_spec.proofs.Lines.{in_module}
use Rattle.sj_emit_module_spec.specs.Laws.{Uses, by_piece, by_call, IsSource}
use Rattle.sj_emit_module_spec.specs.Modules.{file_with}
use Rattle.sj_split_laws.proofs.Apart.{apart_head, apart_tail, new_is_not}
use Rattle.sj_split_laws.proofs.Names.{names_differ}
use Rattle.sj_split_laws.proofs.Placing.{modules_are_components, modules_are_tags}
use Rattle.sj_split_laws.specs.Laws.{name_of}
use Rattle.sj_graph.specs.References.{IsGraph, object, reference, reference_by}
use Rattle.sj_graph.specs.declared.graphs.Graph.{Graph}
use Rattle.sj_names.specs.declared.entry_points.EntryPoint.{EntryPoint}
use Rattle.sj_split.proofs.Members.{cons_cases, into_map}
use Rattle.sj_split.specs.Modules.{file}
use Rattle.sj_split.specs.Orders.{Bytes, is_same}
use Rattle.sj_split.specs.Walks.{Name, Id, Refers, Reaches, Walk}
use Rattle.sj_split.specs.declared.plans.PlannedModule.{PlannedModule}
use Rattle.sj_split.specs.declared.plans.Style.TheVariants.{Fewest, Smallest}
use Rattle.worklist.proofs.Inserted.{nothing_in}
use Rattle.worklist.specs.Paths.{Path, stay, on}
use Rattle.module_files.proofs.Entries.{tags_of_calls, none_beside_calls}
use Rattle.module_files.specs.Laws.{ImportsGoInNoCircle}

-- modules of one name are one
pub one_named : (ms : List PlannedModule) (m n : PlannedModule) → IsDistinct is_same (map name_of ms) → Contains ms m → Contains ms n → m.name ≡ n.name → m ≡ n
one_named [] m n d h i e = nothing_in m h
one_named (o ∷ ms) m n d h i e = go (cons_cases o m ms h) (cons_cases o n ms i) (λ j k. one_named ms m n (apart_tail o.name (map name_of ms) d) j k e)
  where
    clash : (p : PlannedModule) → Contains ms p → o.name ≡ p.name → ⊥
    clash p j f = new_is_not o.name (map name_of ms) p.name (apart_head o.name (map name_of ms) d) (into_map name_of ms p j) f

    go : (o ≡ m) ⊎ Contains ms m → (o ≡ n) ⊎ Contains ms n → (Contains ms m → Contains ms n → m ≡ n) → m ≡ n
    go (inl a) (inl b) rest = sym a ∙ b
    go (inl a) (inr j) rest = absurd (clash n j (ap name_of a ∙ e))
    go (inr j) (inl b) rest = absurd (clash m j (ap name_of b ∙ sym e))
    go (inr j) (inr k) rest = rest j k

joined : {X : Type 0} (Step : X → X → Type 0) (a b c : X) → Path Step a b → Path Step b c → Path Step a c
joined Step a b _ h stay = h
joined Step a b _ h (on x y path step) = on x y (joined Step a b x h path) step

-- what holds along references and within modules holds along imports
module _ (graph : Graph) (modules : List PlannedModule) (ps : List Piece) (is_graph : IsGraph ps graph) (apart : IsDistinct is_same (map name_of modules))
    (Leads : Name → Name → Type 0)
    (then : (a b c : Name) → Leads a b → Leads b c → Leads a c)
    (refers : (a b : Name) → Refers graph.references a b → Leads a b)
    (inside : (m : PlannedModule) (a b : Name) → Contains modules m → Contains m.classes a → Contains m.classes b → Leads a b)
    (calls : (m : PlannedModule) (e : EntryPoint) (a : Name) → Contains modules m → Contains m.initializers e → Contains m.classes a → Leads a e.class) where
  within : (f : Bytes) (a b : Name) → file_with modules a ≡ Some f → file_with modules b ≡ Some f → Leads a b
  within f a b p q =
      let i = in_module modules a f p in
      let j = in_module modules b f q in
      let same : i.planned ≡ j.planned = one_named modules i.planned j.planned apart i.among j.among (append_cancel_right i.planned.name j.planned.name (codes ".js") (i.named ∙ sym j.named)) in
      inside j.planned a b j.among (subst (λ (m : PlannedModule). Contains m.classes a) same i.inside) j.inside

  -- a class that stands in the file
  record HasClass (f : Bytes) : Type 0 where
    class : Name
    stands : file_with modules class ≡ Some f

  last_class : (f g : Bytes) → Path (IsSource modules ps) f g → (f ≡ g) ⊎ HasClass g
  last_class f _ stay = inl refl
  last_class f _ (on before after path source) = inr (record { class = source.uses.binding.owner; stands = source.uses.bound })

  -- a class that stands in the file, to which this one leads
  record Led (a : Name) (f : Bytes) : Type 0 where
    class : Name
    stands : file_with modules class ≡ Some f
    leads : Leads a class

  step : (f : Bytes) (a : Name) (b : Binding) → file_with modules a ≡ Some f → Uses modules ps f b → Leads a b.owner
  step f a _ stands (by_piece p b h there u) =
      let refers_to : Refers graph.references p.owner b.owner = (is_graph.references (reference p.owner b.owner)).1 (record { piece = p; among = h; refers = Contains-append_left (map (reference_by p.owner) p.uses) (reference p.owner object ∷ []) (reference p.owner b.owner) (into_map (reference_by p.owner) p.uses b u) }) in
      then a p.owner b.owner (within f a p.owner stands there) (refers p.owner b.owner refers_to)
  step f a _ stands (by_call m e h named i) =
      let j = in_module modules a f stands in
      let same : j.planned ≡ m = one_named modules j.planned m apart j.among h (append_cancel_right j.planned.name m.name (codes ".js") (j.named ∙ sym named)) in
      calls m e a h i (subst (λ (n : PlannedModule). Contains n.classes a) same j.inside)

  along : (f g : Bytes) → Path (IsSource modules ps) f g → (a b : Name) → file_with modules a ≡ Some f → file_with modules b ≡ Some g → Leads a b
  along f _ stay a b p q = within f a b p q
  along f _ (on before after path source) a b p q = go (last_class f before path) (λ c stands. along f before path a c p stands)
    where
      to : Led a before → Leads a b
      to l = then a l.class b l.leads (then l.class source.uses.binding.owner b (step before l.class source.uses.binding l.stands source.uses.used) (within after source.uses.binding.owner b source.uses.bound q))

      go : (f ≡ before) ⊎ HasClass before → ((c : Name) → file_with modules c ≡ Some before → Leads a c) → Leads a b
      go (inl e) rest = let here : file_with modules a ≡ Some before = p ∙ ap Some e in to (record { class = a; stands = here; leads = within before a a here here })
      go (inr c) rest = to (record { class = c.class; stands = c.stands; leads = rest c.class c.stands })

  -- so files from which imports lead to each other are one, where this tells modules apart
  together : ((m n : PlannedModule) (a b : Name) → Contains modules m → Contains modules n → Contains m.classes a → Contains n.classes b → Leads a b → Leads b a → m ≡ n) → (f g : Bytes) → Path (IsSource modules ps) f g → Path (IsSource modules ps) g f → f ≡ g
  together tells f g forth back = go (last_class f g forth) (last_class g f back)
    where
      both : HasClass g → HasClass f → f ≡ g
      both c d =
          let i = in_module modules d.class f d.stands in
          let j = in_module modules c.class g c.stands in
          let same : i.planned ≡ j.planned = tells i.planned j.planned d.class c.class i.among j.among i.inside j.inside (along f g forth d.class c.class d.stands c.stands) (along g f back c.class d.class c.stands d.stands) in
          sym i.named ∙ ap file same ∙ j.named

      go : (f ≡ g) ⊎ HasClass g → (g ≡ f) ⊎ HasClass f → f ≡ g
      go (inl e) other = e
      go (inr c) (inl e) = sym e
      go (inr c) (inr d) = both c d

pub imports_go_in_no_circle : ImportsGoInNoCircle
imports_go_in_no_circle digest_of graph entries Fewest modules ps valid keep is_graph is =
    let apart = names_differ digest_of graph entries Fewest modules keep is in
    together graph modules ps is_graph apart (λ a b. (id : Id) → Reaches graph.references entries id a → Reaches graph.references entries id b) (λ a b c p q id r. q id (p id r)) (λ a b s id r. record { entry = r.entry; among = r.among; in_module = r.in_module; walk = on a b r.walk s }) (λ m a b h i j id. ((modules_are_tags digest_of graph entries modules valid is a b m m h h i j).0 refl id).0) (tags_of_calls digest_of graph entries modules is) (λ m n a b h k i j p q. (modules_are_tags digest_of graph entries modules valid is a b m n h k i j).1 (λ id. (p id, q id)))
imports_go_in_no_circle digest_of graph entries Smallest modules ps valid keep is_graph is =
    let apart = names_differ digest_of graph entries Smallest modules keep is in
    together graph modules ps is_graph apart (Walk graph.references) (joined (Refers graph.references)) (λ a b s. on a b stay s) (λ m a b h i j. ((modules_are_components digest_of graph entries modules is a b m m h h i j).0 refl).there) (λ m e a h i j. absurd (none_beside_calls digest_of graph entries modules is m e a h i j)) (λ m n a b h k i j p q. (modules_are_components digest_of graph entries modules is a b m n h k i j).1 (record { there = p; back = q }))
