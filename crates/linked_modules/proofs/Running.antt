-- The classes that stand in the files that run use no others.
use Rattle.std.proofs.Common.{◌≡◌, ◌++◌, ◌⊎◌, Bool, true, false, List, [], ◌∷◌, Some, inl, inr, refl, sym, ap, subst, ◌∙◌, Contains, map}
use Rattle.std.specs.Prelude.{◌↔◌, filter}
use Rattle.std.specs.List.{flat_map}
use Rattle.std.proofs.lemmas.List.Elements.{Contains-append_left, Contains-append_right}
use Rattle.std.proofs.lemmas.Slice.Eq.{bytes_eq-Decides}
use Rattle.declared_modules.proofs.Forms.{in_one}
use Rattle.declared_modules.specs.Placed.{Placed, placed, items_until}
use Rattle.declared_modules.proofs.EachTyped.{in_all}
use Rattle.declared_modules.specs.Closed.{IsClosed}
use Rattle.js_mean.specs.Files.{module_among, items_in}
use Rattle.js_mean.specs.Proper.{is_among}
use Rattle.js_mean.specs.States.{Program}
use Rattle.js_tree.specs.Terms.{Name, Item, Piece}
use Rattle.js_tree.specs.declared.items.Binding.{Binding}
use Rattle.declared_modules.proofs.Found.{among_is, is_in}
use Rattle.declared_modules.specs.Files.{AreWhole}
use Rattle.sj_emit_module_spec.specs.Laws.{IsIn, IsSource, Uses, by_piece}
use Rattle.sj_emit_module_spec.specs.Modules.{file_with}
use Rattle.sj_split.proofs.Members.{cons_cases, into_map, into_filter, from_filter}
use Rattle.sj_split.specs.Modules.{file}
use Rattle.sj_split.specs.Orders.{Bytes, is_same}
use Rattle.sj_split.specs.declared.plans.PlannedModule.{PlannedModule}
use Rattle.worklist.proofs.Inserted.{nothing_in}

-- a list around one of its items
record Around (xs : List Name) (x : Name) : Type 0 where
  front : List Name
  behind : List Name
  is : xs ≡ front ++ x ∷ behind

around : (xs : List Name) (x : Name) → Contains xs x → Around xs x
around [] x h = nothing_in x h
around (y ∷ ys) x h = go (cons_cases y x ys h) (around ys x)
  where
    go : (y ≡ x) ⊎ Contains ys x → (Contains ys x → Around ys x) → Around (y ∷ ys) x
    go (inl e) rest = record { front = []; behind = ys; is = ap (λ (z : Name). z ∷ ys) e }
    go (inr i) rest = let r = rest i in record { front = y ∷ r.front; behind = r.behind; is = ap (λ (zs : List Name). y ∷ zs) r.is }

abbrev classes_of : PlannedModule → List Name
classes_of m = m.classes

-- the file of a module is among these
abbrev runs_in : List Name → PlannedModule → Bool
runs_in order m = is_among order (file m)

-- the classes of the modules whose files run
abbrev pub written_in : List PlannedModule → List Name → List Name
written_in modules order = flat_map classes_of (filter (runs_in order) modules)

-- the class stands in a file that runs
pub record RunsIn (modules : List PlannedModule) (order : List Name) (class : Name) : Type 0 where
  pub its_file : Bytes
  pub is : file_with modules class ≡ Some its_file
  pub runs : Contains order its_file

module _ (modules : List PlannedModule) (ps : List Piece) (order : List Name)
    (stands : (class : Name) (f : Bytes) → (file_with modules class ≡ Some f) ↔ IsIn modules class f)
    (whole : AreWhole modules ps)
    (first : (front behind : List Name) (f g : Name) → order ≡ front ++ f ∷ behind → IsSource modules ps f g → Contains front g) where
  into_written : (class : Name) (f : Bytes) → file_with modules class ≡ Some f → Contains order f → Contains (written_in modules order) class
  into_written class f e i =
      let m = (stands class f).0 e in
      let runs : runs_in order m.planned ≡ true = subst (λ (g : Bytes). is_among order g ≡ true) (sym m.named) (among_is order f i) in
      in_all classes_of (filter (runs_in order) modules) m.planned class (into_filter (runs_in order) modules m.planned m.among runs) m.inside

  pub from_written : (class : Name) → Contains (written_in modules order) class → RunsIn modules order class
  from_written class h =
      let o = in_one classes_of (filter (runs_in order) modules) class h in
      let p = from_filter (runs_in order) modules o.item o.among in
      record { its_file = file o.item; is = (stands class (file o.item)).1 (record { planned = o.item; among = p.among; inside = o.within; named = refl }); runs = is_in order (file o.item) p.passes }

  -- the file of what a file that runs uses runs
  used_runs : (f g : Bytes) (b : Binding) → Contains order f → Uses modules ps f b → file_with modules b.owner ≡ Some g → Contains order g
  used_runs f g b i u bound = go (is_same f g) refl
    where
      apart : is_same f g ≡ false → f ≡ g → ⊥
      apart e same = let w : true ≡ false = sym ((bytes_eq-Decides f g).1 same) ∙ e in cc

      go : (t : Bool) → is_same f g ≡ t → Contains order g
      go true e = subst (Contains order) ((bytes_eq-Decides f g).0 e) i
      go false e =
          let r = around order f i in
          let source : IsSource modules ps f g = record { other = apart e; name = b.name; uses = record { binding = b; used = u; bound = bound; named = refl } } in
          subst (λ (fs : List Name). Contains fs g) (sym r.is) (Contains-append_left r.front (f ∷ r.behind) g (first r.front r.behind f g r.is source))

  pub use_written : (f : Bytes) (b : Binding) → Contains order f → Uses modules ps f b → Contains (written_in modules order) b.owner
  use_written f b i u = let s = whole f b u in into_written b.owner s.its_file s.is (used_runs f s.its_file b i u s.is)

  pub written_closed : IsClosed ps (written_in modules order)
  written_closed q i h b u = let r = from_written q.owner h in use_written r.its_file b r.runs (by_piece q b i r.is u)

-- an item of a file that runs in front is among those that run
pub item_in_front : (p : Program) (fs : List Name) (last : Name) (is : List Item) (f : Name) (i : Item) → Contains fs f → Contains (items_in (module_among p f)) i → Contains (items_until p fs last is) (placed f i)
item_in_front p [] last is f i h k = nothing_in f h
item_in_front p (g ∷ gs) last is f i h k = go (cons_cases g f gs h) (λ later. item_in_front p gs last is f i later k)
  where
    its : List Placed
    its = map (placed g) (items_in (module_among p g))

    here : g ≡ f → Contains its (placed f i)
    here e = subst (λ (n : Name). Contains its (placed n i)) e (into_map (placed g) (items_in (module_among p g)) i (subst (λ (n : Name). Contains (items_in (module_among p n)) i) (sym e) k))

    go : (g ≡ f) ⊎ Contains gs f → (Contains gs f → Contains (items_until p gs last is) (placed f i)) → Contains (its ++ items_until p gs last is) (placed f i)
    go (inl e) rest = Contains-append_left its (items_until p gs last is) (placed f i) (here e)
    go (inr later) rest = Contains-append_right its (items_until p gs last is) (placed f i) (rest later)

-- and so is one of the last
pub item_in_last : (p : Program) (fs : List Name) (last : Name) (is : List Item) (i : Item) → Contains is i → Contains (items_until p fs last is) (placed last i)
item_in_last p [] last is i h = into_map (placed last) is i h
item_in_last p (g ∷ gs) last is i h = Contains-append_right (map (placed g) (items_in (module_among p g))) (items_until p gs last is) (placed last i) (item_in_last p gs last is i h)
