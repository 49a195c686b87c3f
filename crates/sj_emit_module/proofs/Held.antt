-- Groups that hold names of bindings.
use Rattle.std.proofs.Common.{◌≡◌, Bool, true, false, List, [], ◌∷◌, ◌++◌, Option, Some, inl, inr, refl, sym, ap, subst, ◌∙◌, map, cond, Contains, append-nil}
use Rattle.std.specs.Prelude.{◌⊎◌, filter, if◌then◌else◌}
use Rattle.std.specs.List.{cons_option}
use Rattle.std.specs.Cmp.Lexicographic.{nat_list_eq_equiv}
use Rattle.std.proofs.lemmas.List.{map-append}
use Rattle.std.proofs.lemmas.List.Elements.{filter-append, filter_map-append}
use Rattle.std.proofs.lemmas.Slice.Eq.{bytes_eq-Decides}
use Rattle.indexmap.specs.IndexSet.{insert_all, insert_key}
use Rattle.js_tree.specs.Terms.{Name}
use Rattle.js_tree.specs.declared.items.Binding.{Binding}
use Rattle.sj_emit_module_spec.proofs.InOrder.{same_in_order}
use Rattle.sj_emit_module_spec.specs.Modules.{name_of, is_this, is_bound_in, is_bound_elsewhere, files_of, names_in}
use Rattle.sj_emit_module_spec.specs.Order.{each_once_in_order}
use Rattle.sj_emit_module.specs.Groups.{HoldNames, names_at}
use Rattle.sj_emit_module.specs.declared.groups.NameGroups.{NameGroups}
use Rattle.sj_split.specs.Orders.{Bytes, is_same}
use Rattle.worklist.proofs.Inserted.{nothing_in, insert_all-append, from-insert_all, each-insert_all}

-- what was put into a set stands in order as it was listed
pub set_in_order : (keys xs : List Bytes) → keys ≡ insert_all is_same [] xs → each_once_in_order keys ≡ each_once_in_order xs
set_in_order keys xs made = same_in_order keys xs (λ t. (λ h. of_list t (from-insert_all is_same [] xs t (subst (λ (l : List Bytes). Contains l t) made h)), λ h. subst (λ (l : List Bytes). Contains l t) (sym made) (each-insert_all is_same (λ a b. (bytes_eq-Decides a b).0) [] xs t h)))
  where
    of_list : (t : Bytes) → Contains [] t ⊎ Contains xs t → Contains xs t
    of_list t (inl none) = nothing_in t none
    of_list t (inr there) = there

module _ (file_of : Name → Option Bytes) where
  pub holds_none : (groups : NameGroups) → groups.files.keys ≡ [] → ((f : Bytes) → names_at groups f ≡ []) → HoldNames file_of [] groups
  holds_none groups files names = record { names = names; files = files }

  names_join : (f : Bytes) (bs cs : List Binding) → names_in file_of f (bs ++ cs) ≡ names_in file_of f bs ++ names_in file_of f cs
  names_join f bs cs = ap (map name_of) (filter-append (is_bound_in file_of f) bs cs) ∙ map-append name_of (filter (is_bound_in file_of f) bs) (filter (is_bound_in file_of f) cs)

  -- one binding more
  pub holds_one : (bs : List Binding) (old new : NameGroups) (b : Binding) (other : Bytes) → file_of b.owner ≡ Some other
      → new.files.keys ≡ insert_key is_same old.files.keys other
      → ((f : Bytes) → names_at new f ≡ (if is_same other f then insert_key is_same (names_at old f) b.name else names_at old f))
      → HoldNames file_of bs old
      → HoldNames file_of (bs ++ b ∷ []) new
  holds_one bs old new b other is files names held = record { names = its_names; files = its_files }
    where
      its_files : new.files.keys ≡ insert_all is_same [] (files_of file_of (bs ++ b ∷ []))
      its_files =
          files
          ∙ ap (λ (l : List Bytes). insert_key is_same l other) held.files
          ∙ sym (insert_all-append is_same [] (files_of file_of bs) (other ∷ []))
          ∙ ap (λ (l : List Bytes). insert_all is_same [] (files_of file_of bs ++ l)) (sym (ap (λ (o : Option Bytes). cons_option o []) is))
          ∙ ap (insert_all is_same []) (sym (filter_map-append (λ (c : Binding). file_of c.owner) bs (b ∷ [])))

      own : (f : Bytes) → is_bound_in file_of f b ≡ is_same other f
      own f = ap (is_this f) is ∙ nat_list_eq_equiv.symm f other

      put : (f : Bytes) (t : Bool) → (if t then insert_key is_same (names_at old f) b.name else names_at old f) ≡ insert_all is_same (names_at old f) (map name_of (cond t (b ∷ []) []))
      put f true = refl
      put f false = refl

      its_names : (f : Bytes) → names_at new f ≡ insert_all is_same [] (names_in file_of f (bs ++ b ∷ []))
      its_names f =
          names f
          ∙ put f (is_same other f)
          ∙ ap (λ t. insert_all is_same (names_at old f) (map name_of (cond t (b ∷ []) []))) (sym (own f))
          ∙ ap (λ (l : List Name). insert_all is_same l (names_in file_of f (b ∷ []))) (held.names f)
          ∙ sym (insert_all-append is_same [] (names_in file_of f bs) (names_in file_of f (b ∷ [])))
          ∙ ap (insert_all is_same []) (sym (names_join f bs (b ∷ [])))

  -- a binding that the test leaves out, or takes in
  pub holds_chosen : (f : Bytes) (bs : List Binding) (groups : NameGroups) (b : Binding) → is_bound_elsewhere file_of f b ≡ true → HoldNames file_of (bs ++ b ∷ []) groups → HoldNames file_of (bs ++ filter (is_bound_elsewhere file_of f) (b ∷ [])) groups
  holds_chosen f bs groups b is held = subst (λ (t : Bool). HoldNames file_of (bs ++ cond t (b ∷ []) []) groups) (sym is) held

  pub holds_still : (f : Bytes) (bs : List Binding) (groups : NameGroups) (b : Binding) → is_bound_elsewhere file_of f b ≡ false → HoldNames file_of bs groups → HoldNames file_of (bs ++ filter (is_bound_elsewhere file_of f) (b ∷ [])) groups
  holds_still f bs groups b is held = subst (λ (t : Bool). HoldNames file_of (bs ++ cond t (b ∷ []) []) groups) (sym is) (subst (λ (l : List Binding). HoldNames file_of l groups) (sym (append-nil bs)) held)
