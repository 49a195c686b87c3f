-- What the files of a plan import and export, as the meaning finds it.
use Rattle.std.proofs.Common.{◌≡◌, Bool, true, false, List, [], ◌∷◌, Some, None, Contains, inl, inr, refl, sym, ap, subst, ◌∙◌, map, if◌then◌else◌}
use Rattle.std.specs.Prelude.{◌⊎◌, not}
use Rattle.std.specs.Cmp.Lexicographic.{nat_list_eq_equiv}
use Rattle.std.proofs.lemmas.Bool.{and_parts}
use Rattle.std.proofs.lemmas.Map.Views.{Contains-from_any, list_any-from_Contains}
use Rattle.std.proofs.lemmas.Slice.Eq.{bytes_eq-Decides}
use Rattle.file_tops.proofs.Standing.{owners_found}
use Rattle.js_mean.specs.Files.{module_among, imports_in, exports_in, imported_from, owner}
use Rattle.js_mean.specs.Proper.{is_among, are_distinct}
use Rattle.js_mean.specs.States.{Program}
use Rattle.js_tree.specs.Names.{is_same_text}
use Rattle.js_tree.specs.Terms.{Name, Piece}
use Rattle.js_tree.specs.declared.items.JsImport.{JsImport}
use Rattle.sj_emit_module_spec.proofs.Chosen.{UseFile, of_class, of_module, use_file}
use Rattle.sj_emit_module_spec.proofs.Lines.{imports_are, exports_are, in_module}
use Rattle.sj_emit_module_spec.specs.Laws.{AreImportLines, IsDeclared, IsUse, IsSource, source_of}
use Rattle.sj_emit_module_spec.specs.Modules.{file_with, called_in, called_elsewhere, name_of, imported, exported, import_lines, module_of}
use Rattle.sj_emit_module_spec.specs.Order.{each_once_in_order}
use Rattle.sj_split.proofs.Members.{at_first, further, cons_cases, into_map, from_map}
use Rattle.sj_split.specs.Modules.{file}
use Rattle.sj_split.specs.Orders.{Bytes}
use Rattle.sj_split.specs.declared.plans.PlannedModule.{PlannedModule}
use Rattle.worklist.proofs.Inserted.{nothing_in}
use Rattle.module_files.specs.Files as files
use Rattle.module_files.specs.Files.{program_of, piece_name, HaveOwnNames, StandTogether}
use Rattle.module_files.specs.Laws.{NamesAreOwned, UsesAreOwned}

same_is : (a b : Name) → is_same_text a b ≡ true → a ≡ b
same_is a b = (bytes_eq-Decides a b).0

pub among_is : (xs : List Name) (x : Name) → Contains xs x → is_among xs x ≡ true
among_is xs x h = list_any-from_Contains nat_list_eq_equiv x xs h

pub is_in : (xs : List Name) (x : Name) → is_among xs x ≡ true → Contains xs x
is_in xs x e = Contains-from_any same_is x xs e

-- a name that no line has, and one that only lines from one file have
pub not_imported : (lines : List JsImport) (x : Name) → ((line : JsImport) → Contains lines line → Contains line.names x → ⊥) → imported_from lines x ≡ None
not_imported [] x none = refl
not_imported (l ∷ ls) x none = go (is_among l.names x) refl (not_imported ls x (λ line h i. none line (further l line ls h) i))
  where
    go : (b : Bool) → is_among l.names x ≡ b → imported_from ls x ≡ None → (if b then Some l.file else imported_from ls x) ≡ None
    go true e rest = absurd (none l (at_first l ls) (is_in l.names x e))
    go false e rest = rest

pub imported_by : (lines : List JsImport) (x : Name) (g : Bytes) (line : JsImport) → Contains lines line → Contains line.names x → ((other : JsImport) → Contains lines other → Contains other.names x → other.file ≡ g) → imported_from lines x ≡ Some g
imported_by [] x g line h i only = nothing_in line h
imported_by (l ∷ ls) x g line h i only = go (is_among l.names x) refl (cons_cases l line ls h) (λ later. imported_by ls x g line later i (λ other j k. only other (further l other ls j) k))
  where
    here : l ≡ line → is_among l.names x ≡ false → ⊥
    here e f = let w : true ≡ false = sym (among_is l.names x (subst (λ (m : JsImport). Contains m.names x) (sym e) i)) ∙ f in cc

    go : (b : Bool) → is_among l.names x ≡ b → (l ≡ line) ⊎ Contains ls line → (Contains ls line → imported_from ls x ≡ Some g) → (if b then Some l.file else imported_from ls x) ≡ Some g
    go true e one rest = ap Some (only l (at_first l ls) (is_in l.names x e))
    go false e (inl same) rest = absurd (here same e)
    go false e (inr later) rest = rest later

module _ (p : Piece) (ps : List Piece) (own : HaveOwnNames (p ∷ ps)) where
  parts : (not (is_among (map piece_name ps) p.name) ≡ true) × HaveOwnNames ps
  parts = and_parts (not (is_among (map piece_name ps) p.name)) (are_distinct (map piece_name ps)) own

  apart : (b : Bool) → not b ≡ true → b ≡ true → ⊥
  apart true n y = cc
  apart false n y = cc

  -- the first piece has another name than those behind it
  pub first_differs : (q : Piece) → Contains ps q → p.name ≡ q.name → ⊥
  first_differs q h e = apart (is_among (map piece_name ps) p.name) parts.0 (among_is (map piece_name ps) p.name (subst (Contains (map piece_name ps)) (sym e) (into_map piece_name ps q h)))

  pub rest_own : HaveOwnNames ps
  rest_own = parts.1

-- pieces of one name are one
same_piece : (ps : List Piece) → HaveOwnNames ps → (p q : Piece) → Contains ps p → Contains ps q → p.name ≡ q.name → p ≡ q
same_piece [] own p q h i e = nothing_in p h
same_piece (r ∷ rs) own p q h i e = go (cons_cases r p rs h) (cons_cases r q rs i) (λ j k. same_piece rs (rest_own r rs own) p q j k e)
  where
    go : (r ≡ p) ⊎ Contains rs p → (r ≡ q) ⊎ Contains rs q → (Contains rs p → Contains rs q → p ≡ q) → p ≡ q
    go (inl a) (inl b) rest = sym a ∙ b
    go (inl a) (inr j) rest = absurd (first_differs r rs own q j (ap piece_name a ∙ e))
    go (inr j) (inl b) rest = absurd (first_differs r rs own p j (ap piece_name b ∙ sym e))
    go (inr j) (inr k) rest = rest j k

-- a module that is found under a file
pub record Found (modules : List PlannedModule) (ps : List Piece) (p : Program) (f : Bytes) : Type 0 where
  pub planned : PlannedModule
  pub among : Contains modules planned
  pub named : file planned ≡ f
  pub is : module_among p f ≡ Some (module_of modules planned ps)

module _ (modules : List PlannedModule) (ps : List Piece) where
  abbrev pub program : Program
  program = program_of modules ps

  abbrev pub lines_of : Bytes → List JsImport
  lines_of f = import_lines (file_with modules) (imported (file_with modules) f ps (called_in modules f))

  abbrev pub exports_of : Bytes → List Name
  exports_of f = each_once_in_order (map name_of (exported (file_with modules) f ps (called_elsewhere modules f)))

  found_among : (ms : List PlannedModule) (m : PlannedModule) (f : Bytes) → Contains ms m → file m ≡ f → ((n : PlannedModule) → Contains ms n → Contains modules n) → Found modules ps (map (files.source_of modules ps) ms) f
  found_among [] m f h e all = nothing_in m h
  found_among (n ∷ ms) m f h e all = go (is_same_text f (file n)) refl (cons_cases n m ms h) (λ later. found_among ms m f later e (λ o i. all o (further n o ms i)))
    where
      first : is_same_text f (file n) ≡ true → Found modules ps (map (files.source_of modules ps) (n ∷ ms)) f
      first s = record { planned = n; among = all n (at_first n ms); named = sym (same_is f (file n) s); is = ap (λ b. if b then Some (module_of modules n ps) else module_among (map (files.source_of modules ps) ms) f) s }

      on : is_same_text f (file n) ≡ false → Found modules ps (map (files.source_of modules ps) ms) f → Found modules ps (map (files.source_of modules ps) (n ∷ ms)) f
      on s r = record { planned = r.planned; among = r.among; named = r.named; is = ap (λ b. if b then Some (module_of modules n ps) else module_among (map (files.source_of modules ps) ms) f) s ∙ r.is }

      itself : n ≡ m → is_same_text f (file n) ≡ false → ⊥
      itself s t = let w : true ≡ false = sym ((bytes_eq-Decides f (file n)).1 (sym e ∙ sym (ap file s))) ∙ t in cc

      go : (b : Bool) → is_same_text f (file n) ≡ b → (n ≡ m) ⊎ Contains ms m → (Contains ms m → Found modules ps (map (files.source_of modules ps) ms) f) → Found modules ps (map (files.source_of modules ps) (n ∷ ms)) f
      go true s one rest = first s
      go false s (inl is) rest = absurd (itself is s)
      go false s (inr later) rest = on s (rest later)

  pub found : (m : PlannedModule) (f : Bytes) → Contains modules m → file m ≡ f → Found modules ps program f
  found m f h e = found_among modules m f h e (λ n i. i)

  found_class : (class : Name) (f : Bytes) → file_with modules class ≡ Some f → Found modules ps program f
  found_class class f e = let i = in_module modules class f e in found i.planned f i.among i.named

  found_use : (f : Bytes) → UseFile modules ps f → Found modules ps program f
  found_use f (of_class class e) = found_class class f e
  found_use f (of_module m h e) = found m f h e

  pub imports_found : (f : Bytes) → Found modules ps program f → imports_in (module_among program f) ≡ lines_of f
  imports_found f m = ap imports_in m.is ∙ ap lines_of m.named

  exports_found : (f : Bytes) → Found modules ps program f → exports_in (module_among program f) ≡ exports_of f
  exports_found f m = ap exports_in m.is ∙ ap exports_of m.named

  pub same_owner : StandTogether modules ps → (p q : Piece) → Contains ps p → Contains ps q → p.name ≡ q.name → p.owner ≡ q.owner
  same_owner together p q h i e = ap (λ (r : Piece). r.owner) (same_piece ps together.names p q h i e)

  -- two uses of one name are of one owner
  use_owner : StandTogether modules ps → (f g : Bytes) (x : Name) (u : IsUse modules ps f g x) (q : Piece) → Contains ps q → q.name ≡ x → file_with modules q.owner ≡ Some g
  use_owner together f g x u q h e =
      let d = together.closed f u.binding u.used in
      ap (file_with modules) (same_owner together q d.piece h d.among (e ∙ sym u.named ∙ sym d.named) ∙ d.owned) ∙ u.bound

  one_file : (f g : Bytes) → Some f ≡ Some g → f ≡ g
  one_file f g e = cc

  -- a file uses one name of one file
  pub one_source : StandTogether modules ps → (f g h : Bytes) (x : Name) → IsUse modules ps f g x → IsUse modules ps f h x → g ≡ h
  one_source together f g h x u v =
      let d = together.closed f u.binding u.used in
      one_file g h (sym (use_owner together f g x u d.piece d.among (d.named ∙ u.named)) ∙ use_owner together f h x v d.piece d.among (d.named ∙ u.named))

  -- a file imports no name that a piece of it has
  pub not_from_elsewhere : StandTogether modules ps → (p : Piece) (f : Bytes) → Contains ps p → file_with modules p.owner ≡ Some f → (line : JsImport) → Contains (lines_of f) line → Contains line.names p.name → ⊥
  not_from_elsewhere together p f h stands line i j =
      let lines : AreImportLines modules ps f (lines_of f) = imports_are modules ps f in
      let s = (lines.sources.exact line.file).0 (into_map source_of (lines_of f) line i) in
      let u = ((lines.names line i).exact p.name).0 j in
      s.other (one_file f line.file (sym stands ∙ use_owner together f line.file p.name u p h refl))

  own : StandTogether modules ps → (p : Piece) (f : Bytes) → Contains ps p → file_with modules p.owner ≡ Some f → imported_from (imports_in (module_among program f)) p.name ≡ None
  own together p f h stands = ap (λ (l : List JsImport). imported_from l p.name) (imports_found f (found_class p.owner f stands)) ∙ not_imported (lines_of f) p.name (not_from_elsewhere together p f h stands)

  pub name_owned : StandTogether modules ps → (p : Piece) (f : Bytes) → Contains ps p → file_with modules p.owner ≡ Some f → owner program f p.name ≡ Some f
  name_owned together p f h stands = owners_found.own program f p.name (own together p f h stands)

  -- a name of another file is imported from there
  imported_is : StandTogether modules ps → (f g : Bytes) (x : Name) → (f ≡ g → ⊥) → IsUse modules ps f g x → imported_from (lines_of f) x ≡ Some g
  imported_is together f g x other u =
      let lines : AreImportLines modules ps f (lines_of f) = imports_are modules ps f in
      let source : IsSource modules ps f g = record { other = other; name = x; uses = u } in
      let m = from_map source_of (lines_of f) g ((lines.sources.exact g).1 source) in
      imported_by (lines_of f) x g m.item m.among (((lines.names m.item m.among).exact x).1 (subst (λ (h : Bytes). IsUse modules ps f h x) (sym m.is) u)) (λ line i j. one_source together f line.file g x (((lines.names line i).exact x).0 j) u)

  other_owned : StandTogether modules ps → (f g : Bytes) (x : Name) → (f ≡ g → ⊥) → IsUse modules ps f g x → owner program f x ≡ Some g
  other_owned together f g x other u =
      let d = together.closed f u.binding u.used in
      let here = found_use f (use_file modules ps f u.binding u.used) in
      let there = found_class u.binding.owner g u.bound in
      let stands : file_with modules d.piece.owner ≡ Some g = ap (file_with modules) d.owned ∙ u.bound in
      let named : d.piece.name ≡ x = d.named ∙ u.named in
      owners_found.imported program f g x (module_of modules here.planned ps) here.is
      (ap (λ (h : Bytes). imported_from (lines_of h) x) here.named ∙ imported_is together f g x other u)
      (ap (λ (l : List Name). is_among l x) (exports_found g there) ∙ among_is (exports_of g) x (((exports_are modules ps g).exact x).1 (record { from = f; other = other; uses = u })))
      (subst (λ (y : Name). imported_from (imports_in (module_among program g)) y ≡ None) named (own together d.piece g d.among stands))

  pub use_owned : StandTogether modules ps → (f g : Bytes) (x : Name) → IsUse modules ps f g x → owner program f x ≡ Some g
  use_owned together f g x u = go (is_same_text f g) refl
    where
      d : IsDeclared ps u.binding
      d = together.closed f u.binding u.used

      one : f ≡ g → owner program f x ≡ Some g
      one e = subst (λ (y : Name). owner program f y ≡ Some g) (d.named ∙ u.named) (name_owned together d.piece f d.among (ap (file_with modules) d.owned ∙ u.bound ∙ ap Some (sym e)) ∙ ap Some e)

      apart : is_same_text f g ≡ false → f ≡ g → ⊥
      apart e s = let w : true ≡ false = sym ((bytes_eq-Decides f g).1 s) ∙ e in cc

      go : (b : Bool) → is_same_text f g ≡ b → owner program f x ≡ Some g
      go true e = one (same_is f g e)
      go false e = other_owned together f g x (apart e) u

pub names_are_owned : NamesAreOwned
names_are_owned modules ps together p f h stands = name_owned modules ps together p f h stands

pub uses_are_owned : UsesAreOwned
uses_are_owned modules ps together f g b u bound = use_owned modules ps together f g b.name (record { binding = b; used = u; bound = bound; named = refl })
