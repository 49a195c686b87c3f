-- The module of a plan that has no other.
use Rattle.std.proofs.Common.{◌≡◌, Bool, true, false, Option, Some, None, List, [], ◌∷◌, ◌++◌, Contains, inl, inr, refl, sym, ap, ◌∙◌, map}
use Rattle.std.specs.Prelude.{filter, if◌then◌else◌}
use Rattle.js_tree.specs.Terms.{Name, Piece}
use Rattle.sj_names.proofs.Same.{text-refl}
use Rattle.sj_split.proofs.Members.{at_first, cons_cases}
use Rattle.worklist.proofs.Inserted.{nothing_in}
use Rattle.sj_split.specs.Modules.{file, is_among}
use Rattle.sj_split.specs.Orders.{Bytes}
use Rattle.sj_split.specs.declared.plans.PlannedModule.{PlannedModule}
use Rattle.sj_emit_module_spec.proofs.Chosen.{from_sources, from_exported, use_file, UseFile, of_class, of_module}
use Rattle.sj_emit_module_spec.specs.Calls.{call_item_of}
use Rattle.sj_emit_module_spec.specs.Laws.{LoneModulesHaveNoLines, is_owned, module_alone}
use Rattle.sj_emit_module_spec.specs.Modules.{file_with, called_in, called_elsewhere, is_this, item_of, name_of, is_owned_in, imported, exported, files_of, import_line, import_lines, module_of}
use Rattle.sj_emit_module_spec.specs.Order.{each_once_in_order}

only_one : (m n : PlannedModule) → Contains (m ∷ []) n → m ≡ n
only_one m n h = elim (cons_cases m n [] h) [ inl e ↦ e | inr none ↦ nothing_in n none ]

no_members : (xs : List Bytes) → ((x : Bytes) → Contains xs x → ⊥) → xs ≡ []
no_members [] none = refl
no_members (x ∷ xs) none = absurd (none x (at_first x xs))

module _ (planned : PlannedModule) (ps : List Piece) where
  abbrev file_of : Name → Option Bytes
  file_of = file_with (planned ∷ [])

  -- there is no other file
  only_file : (class : Name) (f : Bytes) → file_of class ≡ Some f → file planned ≡ f
  only_file class f e = go (is_among planned.classes class) e
    where
      go : (b : Bool) → (if b then Some (file planned) else None) ≡ Some f → file planned ≡ f
      go true is = cc
      go false is = let w : None ≡ Some f = is in cc

  only_use : (f : Bytes) → UseFile (planned ∷ []) ps f → file planned ≡ f
  only_use f (of_class class e) = only_file class f e
  only_use f (of_module m h is) = ap file (only_one planned m h) ∙ is

  no_sources : files_of file_of (imported file_of (file planned) ps (called_in (planned ∷ []) (file planned))) ≡ []
  no_sources = no_members (files_of file_of (imported file_of (file planned) ps (called_in (planned ∷ []) (file planned)))) (λ f h. let s = from_sources (planned ∷ []) ps (file planned) f h in s.other (only_file s.uses.binding.owner f s.uses.bound))

  no_exports : map name_of (exported file_of (file planned) ps (called_elsewhere (planned ∷ []) (file planned))) ≡ []
  no_exports = no_members (map name_of (exported file_of (file planned) ps (called_elsewhere (planned ∷ []) (file planned)))) (λ x h. let w = from_exported (planned ∷ []) ps (file planned) x h in w.other (sym (only_use w.from (use_file (planned ∷ []) ps w.from w.uses.binding w.uses.used))))

  owned_is : (p : Piece) → is_owned_in file_of (file planned) p ≡ is_owned planned.classes p
  owned_is p = go (is_among planned.classes p.owner)
    where
      go : (b : Bool) → is_this (file planned) (if b then Some (file planned) else None) ≡ b
      go true = text-refl (file planned)
      go false = refl

  lines_are : import_lines file_of (imported file_of (file planned) ps (called_in (planned ∷ []) (file planned))) ≡ []
  lines_are = no_lines (each_once_in_order (files_of file_of (imported file_of (file planned) ps (called_in (planned ∷ []) (file planned))))) (ap each_once_in_order no_sources)
    where
      no_lines : (fs : List Bytes) → fs ≡ [] → map (import_line file_of (imported file_of (file planned) ps (called_in (planned ∷ []) (file planned)))) fs ≡ []
      no_lines fs e = ap (map (import_line file_of (imported file_of (file planned) ps (called_in (planned ∷ []) (file planned))))) e

  pub alone : module_of (planned ∷ []) planned ps ≡ module_alone planned.classes ps planned.initializers
  alone = λ i. record {
    imports = lines_are i;
    items = map item_of (filter (λ p. owned_is p i) ps) ++ map call_item_of planned.initializers;
    exports = each_once_in_order (no_exports i);
  }

pub lone_modules_have_no_lines : LoneModulesHaveNoLines
lone_modules_have_no_lines planned ps = alone planned ps
