-- Which bindings are imported and exported.
use Rattle.std.proofs.Common.{◌≡◌, Bool, true, false, Option, Some, None, List, [], ◌∷◌, ◌++◌, Contains, inl, inr, refl, sym, ap, subst, ◌∙◌, map}
use Rattle.std.specs.Prelude.{◌⊎◌, not, filter}
use Rattle.std.specs.List.{cons_option, flat_map}
use Rattle.std.proofs.lemmas.List.Elements.{Contains-append_left, Contains-append_right, Contains-append_cases}
use Rattle.std.proofs.lemmas.Slice.Eq.{bytes_eq-Decides}
use Rattle.js_tree.specs.Terms.{Name, Piece}
use Rattle.js_tree.specs.declared.items.Binding.{Binding}
use Rattle.sj_split.proofs.Members.{at_first, further, cons_cases, into_map, from_map, into_filter, from_filter}
use Rattle.sj_names.specs.declared.entry_points.EntryPoint.{EntryPoint}
use Rattle.sj_split.specs.Modules.{file}
use Rattle.sj_split.specs.Orders.{Bytes, is_same}
use Rattle.sj_split.specs.declared.plans.PlannedModule.{PlannedModule}
use Rattle.worklist.proofs.Inserted.{nothing_in}
use Rattle.sj_emit_module_spec.specs.Calls.{called}
use Rattle.sj_emit_module_spec.specs.Laws.{Uses, by_piece, by_call, IsUse, IsSource, IsWanted}
use Rattle.sj_emit_module_spec.specs.Modules.{file_with, is_this, is_another, initializers_of, called_in, called_elsewhere, uses_of, name_of, is_owned_in, is_owned_elsewhere, is_bound_in, is_bound_elsewhere, imported, exported, files_of, names_in}

pub this_is : (f : Bytes) (o : Option Bytes) → is_this f o ≡ true → o ≡ Some f
this_is f None e = cc
this_is f (Some g) e = ap Some (sym ((bytes_eq-Decides f g).0 e))

pub is_it : (f : Bytes) (o : Option Bytes) → o ≡ Some f → is_this f o ≡ true
is_it f o e = ap (is_this f) e ∙ (bytes_eq-Decides f f).1 refl

-- another file than this one
pub record Another (f : Bytes) (o : Option Bytes) : Type 0 where
  pub file : Bytes
  pub is : o ≡ Some file
  pub other : f ≡ file → ⊥

pub another_is : (f : Bytes) (o : Option Bytes) → is_another f o ≡ true → Another f o
another_is f None e = cc
another_is f (Some g) e = record { file = g; is = refl; other = λ s. apart (is_same f g) e ((bytes_eq-Decides f g).1 s) }
  where
    apart : (b : Bool) → not b ≡ true → b ≡ true → ⊥
    apart true n y = cc
    apart false n y = cc

same_some : (f g : Bytes) → Some f ≡ Some g → f ≡ g
same_some f g e = cc

pub differs : (f g : Bytes) → (f ≡ g → ⊥) → is_same f g ≡ false
differs f g other = go (is_same f g) refl
  where
    go : (b : Bool) → is_same f g ≡ b → is_same f g ≡ false
    go true e = absurd (other ((bytes_eq-Decides f g).0 e))
    go false e = e

pub is_other : (f g : Bytes) (o : Option Bytes) → o ≡ Some g → (f ≡ g → ⊥) → is_another f o ≡ true
is_other f g o e other = ap (is_another f) e ∙ ap not (differs f g other)

pub record Used (ps : List Piece) (b : Binding) : Type 0 where
  pub piece : Piece
  pub among : Contains ps piece
  pub used : Contains piece.uses b

pub from_uses : (ps : List Piece) (b : Binding) → Contains (flat_map uses_of ps) b → Used ps b
from_uses [] b h = nothing_in b h
from_uses (p ∷ ps) b h = elim (Contains-append_cases p.uses (flat_map uses_of ps) b h) [ inl here ↦ record { piece = p; among = at_first p ps; used = here } | inr later ↦ on (from_uses ps b later) ]
  where
    on : Used ps b → Used (p ∷ ps) b
    on u = record { piece = u.piece; among = further p u.piece ps u.among; used = u.used }

pub into_uses : (ps : List Piece) (p : Piece) (b : Binding) → Contains ps p → Contains p.uses b → Contains (flat_map uses_of ps) b
into_uses [] p b h u = nothing_in p h
into_uses (q ∷ ps) p b h u = elim (cons_cases q p ps h) [ inl e ↦ Contains-append_left q.uses (flat_map uses_of ps) b (subst (λ (r : Piece). Contains r.uses b) (sym e) u) | inr later ↦ Contains-append_right q.uses (flat_map uses_of ps) b (into_uses ps p b later u) ]

-- the file of one of these bindings
pub record OfBinding (file_of : Name → Option Bytes) (bs : List Binding) (f : Bytes) : Type 0 where
  pub binding : Binding
  pub among : Contains bs binding
  pub bound : file_of binding.owner ≡ Some f

module _ (file_of : Name → Option Bytes) where
  pub from_files : (bs : List Binding) (f : Bytes) → Contains (files_of file_of bs) f → OfBinding file_of bs f
  from_files [] f h = nothing_in f h
  from_files (b ∷ bs) f h = go (file_of b.owner) refl (from_files bs f) h
    where
      on : OfBinding file_of bs f → OfBinding file_of (b ∷ bs) f
      on o = record { binding = o.binding; among = further b o.binding bs o.among; bound = o.bound }

      first : (g : Bytes) → file_of b.owner ≡ Some g → g ≡ f → OfBinding file_of (b ∷ bs) f
      first g e s = record { binding = b; among = at_first b bs; bound = e ∙ ap Some s }

      go : (o : Option Bytes) → file_of b.owner ≡ o → (Contains (files_of file_of bs) f → OfBinding file_of bs f) → Contains (cons_option o (files_of file_of bs)) f → OfBinding file_of (b ∷ bs) f
      go None e rest i = on (rest i)
      go (Some g) e rest i = elim (cons_cases g f (files_of file_of bs) i) [ inl s ↦ first g e s | inr later ↦ on (rest later) ]

  pub into_files : (bs : List Binding) (b : Binding) (f : Bytes) → Contains bs b → file_of b.owner ≡ Some f → Contains (files_of file_of bs) f
  into_files [] b f h e = nothing_in b h
  into_files (c ∷ bs) b f h e = elim (cons_cases c b bs h) [ inl s ↦ here (subst (λ (d : Binding). file_of d.owner ≡ Some f) (sym s) e) | inr later ↦ behind (file_of c.owner) (into_files bs b f later e) ]
    where
      here : file_of c.owner ≡ Some f → Contains (files_of file_of (c ∷ bs)) f
      here s = subst (λ (o : Option Bytes). Contains (cons_option o (files_of file_of bs)) f) (sym s) (at_first f (files_of file_of bs))

      behind : (o : Option Bytes) → Contains (files_of file_of bs) f → Contains (cons_option o (files_of file_of bs)) f
      behind None i = i
      behind (Some g) i = further g f (files_of file_of bs) i

-- a name of a binding
pub record IsNamed (bs : List Binding) (x : Name) : Type 0 where
  pub binding : Binding
  pub among : Contains bs binding
  pub named : binding.name ≡ x

pub from_names : (bs : List Binding) (x : Name) → Contains (map name_of bs) x → IsNamed bs x
from_names bs x h = let m = from_map name_of bs x h in record { binding = m.item; among = m.among; named = m.is }

pub into_names : (bs : List Binding) (x : Name) → IsNamed bs x → Contains (map name_of bs) x
into_names bs x n = subst (Contains (map name_of bs)) n.named (into_map name_of bs n.binding n.among)

-- an initializer of a module that passes a test
record Calling (test : PlannedModule → Bool) (modules : List PlannedModule) (b : Binding) : Type 0 where
  planned : PlannedModule
  among : Contains modules planned
  passes : test planned ≡ true
  entry : EntryPoint
  inside : Contains planned.initializers entry
  is : called entry ≡ b

record HasEntry (modules : List PlannedModule) (e : EntryPoint) : Type 0 where
  planned : PlannedModule
  among : Contains modules planned
  inside : Contains planned.initializers e

from_entries : (ms : List PlannedModule) (e : EntryPoint) → Contains (flat_map initializers_of ms) e → HasEntry ms e
from_entries [] e h = nothing_in e h
from_entries (m ∷ ms) e h = elim (Contains-append_cases m.initializers (flat_map initializers_of ms) e h) [ inl here ↦ record { planned = m; among = at_first m ms; inside = here } | inr later ↦ on (from_entries ms e later) ]
  where
    on : HasEntry ms e → HasEntry (m ∷ ms) e
    on u = record { planned = u.planned; among = further m u.planned ms u.among; inside = u.inside }

into_entries : (ms : List PlannedModule) (m : PlannedModule) (e : EntryPoint) → Contains ms m → Contains m.initializers e → Contains (flat_map initializers_of ms) e
into_entries [] m e h i = nothing_in m h
into_entries (n ∷ ms) m e h i = elim (cons_cases n m ms h) [ inl s ↦ Contains-append_left n.initializers (flat_map initializers_of ms) e (subst (λ (o : PlannedModule). Contains o.initializers e) (sym s) i) | inr later ↦ Contains-append_right n.initializers (flat_map initializers_of ms) e (into_entries ms m e later i) ]

from_calls : (test : PlannedModule → Bool) (ms : List PlannedModule) (b : Binding) → Contains (map called (flat_map initializers_of (filter test ms))) b → Calling test ms b
from_calls test ms b h =
    let m = from_map called (flat_map initializers_of (filter test ms)) b h in
    let e = from_entries (filter test ms) m.item m.among in
    let p = from_filter test ms e.planned e.among in
    record { planned = e.planned; among = p.among; passes = p.passes; entry = m.item; inside = e.inside; is = m.is }

into_calls : (test : PlannedModule → Bool) (ms : List PlannedModule) (m : PlannedModule) (e : EntryPoint) → Contains ms m → test m ≡ true → Contains m.initializers e → Contains (map called (flat_map initializers_of (filter test ms))) (called e)
into_calls test ms m e h t i = into_map called (flat_map initializers_of (filter test ms)) e (into_entries (filter test ms) m e (into_filter test ms m h t) i)

module _ (modules : List PlannedModule) (ps : List Piece) where
  abbrev file_of : Name → Option Bytes
  file_of = file_with modules

  -- what a file uses
  abbrev pub used_in : Bytes → List Binding
  used_in f = flat_map uses_of (filter (is_owned_in file_of f) ps) ++ called_in modules f

  pub from_own : (f : Bytes) (b : Binding) → Contains (used_in f) b → Uses modules ps f b
  from_own f b h = go (Contains-append_cases (flat_map uses_of (filter (is_owned_in file_of f) ps)) (called_in modules f) b h)
    where
      go : Contains (flat_map uses_of (filter (is_owned_in file_of f) ps)) b ⊎ Contains (called_in modules f) b → Uses modules ps f b
      go (inl i) = let u = from_uses (filter (is_owned_in file_of f) ps) b i in let p = from_filter (is_owned_in file_of f) ps u.piece u.among in by_piece u.piece b p.among (this_is f (file_of u.piece.owner) p.passes) u.used
      go (inr i) = let c = from_calls (λ m. is_this f (Some (file m))) modules b i in subst (Uses modules ps f) c.is (by_call c.planned c.entry c.among (same_some (file c.planned) f (this_is f (Some (file c.planned)) c.passes)) c.inside)

  pub into_own : (f : Bytes) (b : Binding) → Uses modules ps f b → Contains (used_in f) b
  into_own f _ (by_piece p b h stands u) = Contains-append_left (flat_map uses_of (filter (is_owned_in file_of f) ps)) (called_in modules f) b (into_uses (filter (is_owned_in file_of f) ps) p b (into_filter (is_owned_in file_of f) ps p h (is_it f (file_of p.owner) stands)) u)
  into_own f _ (by_call m e h is i) = Contains-append_right (flat_map uses_of (filter (is_owned_in file_of f) ps)) (called_in modules f) (called e) (into_calls (λ n. is_this f (Some (file n))) modules m e h (is_it f (Some (file m)) (ap Some is)) i)

  -- what another file uses
  pub record UsesElsewhere (f : Bytes) (b : Binding) : Type 0 where
    pub from : Bytes
    pub other : from ≡ f → ⊥
    pub uses : Uses modules ps from b

  abbrev used_elsewhere : Bytes → List Binding
  used_elsewhere f = flat_map uses_of (filter (is_owned_elsewhere file_of f) ps) ++ called_elsewhere modules f

  from_others : (f : Bytes) (b : Binding) → Contains (used_elsewhere f) b → UsesElsewhere f b
  from_others f b h = go (Contains-append_cases (flat_map uses_of (filter (is_owned_elsewhere file_of f) ps)) (called_elsewhere modules f) b h)
    where
      go : Contains (flat_map uses_of (filter (is_owned_elsewhere file_of f) ps)) b ⊎ Contains (called_elsewhere modules f) b → UsesElsewhere f b
      go (inl i) =
          let u = from_uses (filter (is_owned_elsewhere file_of f) ps) b i in
          let p = from_filter (is_owned_elsewhere file_of f) ps u.piece u.among in
          let a = another_is f (file_of u.piece.owner) p.passes in
          record { from = a.file; other = λ e. a.other (sym e); uses = by_piece u.piece b p.among a.is u.used }
      go (inr i) =
          let c = from_calls (λ m. is_another f (Some (file m))) modules b i in
          let a = another_is f (Some (file c.planned)) c.passes in
          record { from = a.file; other = λ e. a.other (sym e); uses = subst (Uses modules ps a.file) c.is (by_call c.planned c.entry c.among (same_some (file c.planned) a.file a.is) c.inside) }

  into_others : (f from : Bytes) (b : Binding) → (from ≡ f → ⊥) → Uses modules ps from b → Contains (used_elsewhere f) b
  into_others f from _ other (by_piece p b h stands u) = Contains-append_left (flat_map uses_of (filter (is_owned_elsewhere file_of f) ps)) (called_elsewhere modules f) b (into_uses (filter (is_owned_elsewhere file_of f) ps) p b (into_filter (is_owned_elsewhere file_of f) ps p h (is_other f from (file_of p.owner) stands (λ e. other (sym e)))) u)
  into_others f from _ other (by_call m e h is i) = Contains-append_right (flat_map uses_of (filter (is_owned_elsewhere file_of f) ps)) (called_elsewhere modules f) (called e) (into_calls (λ n. is_another f (Some (file n))) modules m e h (is_other f from (Some (file m)) (ap Some is) (λ s. other (sym s))) i)

  abbrev pub imports_of : Bytes → List Binding
  imports_of f = imported file_of f ps (called_in modules f)

  abbrev pub exports_of : Bytes → List Binding
  exports_of f = exported file_of f ps (called_elsewhere modules f)

  -- what a file imports from another it uses of it
  pub from_imported : (from to : Bytes) (x : Name) → Contains (names_in file_of to (imports_of from)) x → IsUse modules ps from to x
  from_imported from to x h =
      let n = from_names (filter (is_bound_in file_of to) (imports_of from)) x h in
      let t = from_filter (is_bound_in file_of to) (imports_of from) n.binding n.among in
      let c = from_filter (is_bound_elsewhere file_of from) (used_in from) n.binding t.among in
      record { binding = n.binding; used = from_own from n.binding c.among; bound = this_is to (file_of n.binding.owner) t.passes; named = n.named }

  into_imports : (from to : Bytes) (x : Name) → (from ≡ to → ⊥) → (u : IsUse modules ps from to x) → Contains (imports_of from) u.binding
  into_imports from to x other u = into_filter (is_bound_elsewhere file_of from) (used_in from) u.binding (into_own from u.binding u.used) (is_other from to (file_of u.binding.owner) u.bound other)

  pub into_imported : (from to : Bytes) (x : Name) → (from ≡ to → ⊥) → IsUse modules ps from to x → Contains (names_in file_of to (imports_of from)) x
  into_imported from to x other u = into_names (filter (is_bound_in file_of to) (imports_of from)) x (record { binding = u.binding; among = into_filter (is_bound_in file_of to) (imports_of from) u.binding (into_imports from to x other u) (is_it to (file_of u.binding.owner) u.bound); named = u.named })

  pub from_sources : (from to : Bytes) → Contains (files_of file_of (imports_of from)) to → IsSource modules ps from to
  from_sources from to h =
      let o = from_files file_of (imports_of from) to h in
      let c = from_filter (is_bound_elsewhere file_of from) (used_in from) o.binding o.among in
      let a = another_is from (file_of o.binding.owner) c.passes in
      let is : a.file ≡ to = same_some a.file to (sym a.is ∙ o.bound) in
      record { other = λ e. a.other (e ∙ sym is); name = o.binding.name; uses = record { binding = o.binding; used = from_own from o.binding c.among; bound = o.bound; named = refl } }

  pub into_sources : (from to : Bytes) → IsSource modules ps from to → Contains (files_of file_of (imports_of from)) to
  into_sources from to s = into_files file_of (imports_of from) s.uses.binding to (into_imports from to s.name s.other s.uses) s.uses.bound

  pub from_exported : (to : Bytes) (x : Name) → Contains (map name_of (exports_of to)) x → IsWanted modules ps to x
  from_exported to x h =
      let n = from_names (exports_of to) x h in
      let c = from_filter (is_bound_in file_of to) (used_elsewhere to) n.binding n.among in
      let u = from_others to n.binding c.among in
      record { from = u.from; other = u.other; uses = record { binding = n.binding; used = u.uses; bound = this_is to (file_of n.binding.owner) c.passes; named = n.named } }

  pub into_exported : (to : Bytes) (x : Name) → IsWanted modules ps to x → Contains (map name_of (exports_of to)) x
  into_exported to x w = let u = w.uses in into_names (exports_of to) x (record { binding = u.binding; among = into_filter (is_bound_in file_of to) (used_elsewhere to) u.binding (into_others to w.from u.binding w.other u.used) (is_it to (file_of u.binding.owner) u.bound); named = u.named })

  -- a class stands in the file, or a module has it
  pub data UseFile (f : Bytes) : Type 0 where
    of_class : (class : Name) → file_of class ≡ Some f → UseFile f
    of_module : (m : PlannedModule) → Contains modules m → file m ≡ f → UseFile f

  -- what a file is that uses something
  pub use_file : (f : Bytes) (b : Binding) → Uses modules ps f b → UseFile f
  use_file f _ (by_piece p b h stands u) = of_class p.owner stands
  use_file f _ (by_call m e h is i) = of_module m h is
