-- Laws of the lines of modules.
use Rattle.std.proofs.Common.{◌≡◌, Bool, true, false, Option, Some, None, List, [], ◌∷◌, Contains, inl, inr, refl, sym, ap, subst, ◌∙◌, map}
use Rattle.std.specs.Prelude.{◌⊎◌, filter, if◌then◌else◌}
use Rattle.std.proofs.lemmas.List.Elements.{Contains-append_left}
use Rattle.std.specs.Cmp.Lexicographic.{nat_list_eq_equiv}
use Rattle.std.proofs.lemmas.Map.Views.{Contains-from_any, list_any-from_Contains}
use Rattle.std.proofs.lemmas.Slice.Eq.{bytes_eq-Decides}
use Rattle.js_tree.specs.Terms.{Name, Piece}
use Rattle.js_tree.specs.declared.items.Binding.{Binding}
use Rattle.js_tree.specs.declared.items.JsImport.{JsImport}
use Rattle.sj_split.proofs.Members.{at_first, further, cons_cases, into_map, from_map, into_filter, Mapped}
use Rattle.sj_split.proofs.OnePlace.{classes_have_one_place}
use Rattle.sj_split.specs.Modules.{file, is_among}
use Rattle.sj_split.specs.Orders.{Bytes}
use Rattle.sj_split.specs.declared.plans.PlannedModule.{PlannedModule}
use Rattle.worklist.proofs.Inserted.{nothing_in}
use Rattle.sj_emit_module_spec.proofs.Chosen.{is_it, from_imported, into_imported, from_sources, into_sources, from_exported, into_exported}
use Rattle.sj_emit_module_spec.proofs.InOrder.{are_these, from_each}
use Rattle.sj_emit_module_spec.specs.Calls.{call_item_of}
use Rattle.sj_emit_module_spec.specs.Laws.{ModulesAreOne, IsIn, FilesAreThoseOfPlans, AreThese, IsUse, IsSource, IsWanted, source_of, AreImportLines, ModulesHaveTheirLines, ImportsFindExports, ExportsAreDeclared}
use Rattle.sj_emit_module_spec.specs.Modules.{file_with, called_in, called_elsewhere, item_of, name_of, is_owned_in, imported, exported, files_of, names_in, import_line, import_lines, module_of}
use Rattle.sj_emit_module_spec.specs.Order.{each_once_in_order}

one_some : {X : Type 0} (x y : X) → Some x ≡ Some y → x ≡ y
one_some x y e = cc

pub modules_are_one : ModulesAreOne
modules_are_one modules which ps m n a b = a.is ∙ ap (λ (p : PlannedModule). module_of modules p ps) (one_some a.planned b.planned (sym a.stands ∙ b.stands)) ∙ sym b.is

-- the sources of lines are what they are made for
sources_are : (file_of : Name → Option Bytes) (bs : List Binding) (fs : List Bytes) → map source_of (map (import_line file_of bs) fs) ≡ fs
sources_are file_of bs [] = refl
sources_are file_of bs (f ∷ fs) = ap (λ (l : List Bytes). f ∷ l) (sources_are file_of bs fs)

module _ (modules : List PlannedModule) (ps : List Piece) (f : Bytes) where
  abbrev bindings : List Binding
  bindings = imported (file_with modules) f ps (called_in modules f)

  abbrev lines : List JsImport
  lines = import_lines (file_with modules) bindings

  sources_of_lines : map source_of lines ≡ each_once_in_order (files_of (file_with modules) bindings)
  sources_of_lines = sources_are (file_with modules) bindings (each_once_in_order (files_of (file_with modules) bindings))

  -- a line with what it is made for
  line_is : (line : JsImport) → Contains lines line → Mapped (import_line (file_with modules) bindings) (each_once_in_order (files_of (file_with modules) bindings)) line
  line_is line h = from_map (import_line (file_with modules) bindings) (each_once_in_order (files_of (file_with modules) bindings)) line h

  source : (line : JsImport) → Contains lines line → IsSource modules ps f line.file
  source line h = let m = line_is line h in from_sources modules ps f line.file (from_each (files_of (file_with modules) bindings) line.file (subst (λ (l : JsImport). Contains (each_once_in_order (files_of (file_with modules) bindings)) l.file) m.is m.among))

  names_of_line : (line : JsImport) → Contains lines line → AreThese (IsUse modules ps f line.file) line.names
  names_of_line line h =
      let m = line_is line h in
      let s = source line h in
      let names : line.names ≡ each_once_in_order (names_in (file_with modules) line.file bindings) = ap (λ (l : JsImport). l.names) (sym m.is) ∙ ap (λ (l : JsImport). each_once_in_order (names_in (file_with modules) l.file bindings)) m.is in
      subst (AreThese (IsUse modules ps f line.file)) (sym names) (are_these (IsUse modules ps f line.file) (names_in (file_with modules) line.file bindings) (λ x. (λ i. from_imported modules ps f line.file x i, λ u. into_imported modules ps f line.file x s.other u)))

  pub imports_are : AreImportLines modules ps f lines
  imports_are = record {
    sources = subst (AreThese (IsSource modules ps f)) (sym sources_of_lines) (are_these (IsSource modules ps f) (files_of (file_with modules) bindings) (λ to. (λ i. from_sources modules ps f to i, λ s. into_sources modules ps f to s)));
    names = names_of_line;
  }

  pub exports_are : AreThese (IsWanted modules ps f) (each_once_in_order (map name_of (exported (file_with modules) f ps (called_elsewhere modules f))))
  exports_are = are_these (IsWanted modules ps f) (map name_of (exported (file_with modules) f ps (called_elsewhere modules f))) (λ x. (λ i. from_exported modules ps f x i, λ w. into_exported modules ps f x w))

pub modules_have_their_lines : ModulesHaveTheirLines
modules_have_their_lines modules planned ps = record { imports = imports_are modules ps (file planned); exports = exports_are modules ps (file planned) }

-- the class stands in some file
pub record Stands (modules : List PlannedModule) (class : Name) : Type 0 where
  pub file_is : Bytes
  pub is : file_with modules class ≡ Some file_is

-- a class that stands in a file is in a module with this file
among_further : (first : PlannedModule) (modules : List PlannedModule) (class : Name) (f : Bytes) → IsIn modules class f → IsIn (first ∷ modules) class f
among_further first modules class f i = record { planned = i.planned; among = further first i.planned modules i.among; inside = i.inside; named = i.named }

is_member : (names : List Name) (x : Name) → is_among names x ≡ true → Contains names x
is_member names x e = Contains-from_any (λ a b. (bytes_eq-Decides a b).0) x names e

member_is : (names : List Name) (x : Name) → Contains names x → is_among names x ≡ true
member_is names x h = list_any-from_Contains nat_list_eq_equiv x names h

pub in_module : (modules : List PlannedModule) (class : Name) (f : Bytes) → file_with modules class ≡ Some f → IsIn modules class f
in_module [] class f e = let w : None ≡ Some f = e in cc
in_module (m ∷ ms) class f e = go (is_among m.classes class) refl e (in_module ms class f)
  where
    go : (b : Bool) → is_among m.classes class ≡ b → (if b then Some (file m) else file_with ms class) ≡ Some f → (file_with ms class ≡ Some f → IsIn ms class f) → IsIn (m ∷ ms) class f
    go true e is rest = record { planned = m; among = at_first m ms; inside = is_member m.classes class e; named = one_some (file m) f is }
    go false e is rest = among_further m ms class f (rest is)

-- a class of a module stands in some file
pub stands_somewhere : (modules : List PlannedModule) (class : Name) (m : PlannedModule) → Contains modules m → Contains m.classes class → Stands modules class
stands_somewhere [] class m h i = nothing_in m h
stands_somewhere (n ∷ ms) class m h i = go (is_among n.classes class) refl (cons_cases n m ms h) (λ later. stands_somewhere ms class m later i)
  where
    here : n ≡ m → is_among n.classes class ≡ false → ⊥
    here e f = let w : true ≡ false = sym (member_is n.classes class (subst (λ (p : PlannedModule). Contains p.classes class) (sym e) i)) ∙ f in cc

    go : (b : Bool) → is_among n.classes class ≡ b → (n ≡ m) ⊎ Contains ms m → (Contains ms m → Stands ms class) → Stands (n ∷ ms) class
    go true e one rest = record { file_is = file n; is = ap (λ b. if b then Some (file n) else file_with ms class) e }
    go false e (inl same) rest = absurd (here same e)
    go false e (inr later) rest = let s = rest later in record { file_is = s.file_is; is = ap (λ b. if b then Some (file n) else file_with ms class) e ∙ s.is }

pub files_are_those_of_plans : FilesAreThoseOfPlans
files_are_those_of_plans digest_of graph entries style modules is class f = (λ e. in_module modules class f e, back)
  where
    back : IsIn modules class f → file_with modules class ≡ Some f
    back i =
        let s = stands_somewhere modules class i.planned i.among i.inside in
        let o = in_module modules class s.file_is s.is in
        let same : o.planned ≡ i.planned = classes_have_one_place digest_of graph entries style modules is o.planned i.planned class o.among i.among o.inside i.inside in
        s.is ∙ ap Some (sym o.named ∙ ap file same ∙ i.named)

pub imports_find_exports : ImportsFindExports
imports_find_exports modules planned ps line x h i =
    let s = source modules ps (file planned) line h in
    let u = ((names_of_line modules ps (file planned) line h).exact x).0 i in
    let there = in_module modules s.uses.binding.owner line.file s.uses.bound in
    record {
      there = record { planned = there.planned; among = there.among; named = there.named };
      exports = λ exporter is. subst (λ (f : Bytes). Contains (each_once_in_order (map name_of (exported (file_with modules) f ps (called_elsewhere modules f)))) x) (sym is) (((exports_are modules ps line.file).exact x).1 (record { from = file planned; other = s.other; uses = u }));
    }

pub exports_are_declared : ExportsAreDeclared
exports_are_declared modules planned ps x closed h =
    let w = ((exports_are modules ps (file planned)).exact x).0 h in
    let u = w.uses in
    let d = closed w.from u.binding u.used in
    let stands : file_with modules d.piece.owner ≡ Some (file planned) = ap (file_with modules) d.owned ∙ u.bound in
    record {
      piece = d.piece;
      among = d.among;
      stands = stands;
      named = d.named ∙ u.named;
      written = Contains-append_left (map item_of (filter (is_owned_in (file_with modules) (file planned)) ps)) (map call_item_of planned.initializers) d.piece.item (into_map item_of (filter (is_owned_in (file_with modules) (file planned)) ps) d.piece (into_filter (is_owned_in (file_with modules) (file planned)) ps d.piece d.among (is_it (file planned) (file_with modules d.piece.owner) stands)));
    }
