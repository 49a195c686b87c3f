-- What is used of what is there is among it.
use Rattle.std.proofs.Common.{◌≡◌, ◌&&◌, ◌⊎◌, inl, inr, true, refl}
use Rattle.std.specs.List.{list_all}
use Rattle.std.proofs.lemmas.Bool.{and_parts, or_cases, or_left, or_right}
use Rattle.running_modules.specs.Built.{Usable, has_cell}
use Rattle.sj_emit_help_spec.specs.Helpers.{helper_name}
use Rattle.js_tree.specs.declared.items.Binding.{Binding}
use Rattle.sj_emit_expr_spec.specs.Uses.{object_binding, function_binding, class_use, static_use, setter_use, load_use, store_use, test_uses, cast_uses, base_uses, looked_up_uses, call_uses}
use Rattle.sj_desugar_spec.specs.CalleeVariants as callees
use Rattle.running_modules.specs.Settings.{Top, a_function, a_method, a_constructor, a_dispatch, a_reflection, a_class, some_constants, a_static, a_setter, a_cell, a_loader, a_storer, a_test, a_cast, a_helper, is_usable}
use Rattle.module_uses.specs.Laws.{RestrictedIsAmong}
use Rattle.sj_names.specs.declared.references.BaseRef.{BaseRef}
use Rattle.module_uses.specs.Used.{restricted}
use Rattle.std.specs.Prelude.{Bool, ◌||◌}

tops : (has : Usable) (uses : Binding → Bool) (t : Top) → is_usable (restricted has uses) t ≡ true → is_usable has t ≡ true
tops has uses (a_function m) h = (and_parts (has.linked m) (uses (function_binding m)) h).0
tops has uses (a_method m) h = (and_parts (has.received m) (uses (function_binding m)) h).0
tops has uses (a_dispatch m) h = (and_parts (has.dispatched m) (list_all uses (looked_up_uses true m)) h).0
tops has uses (a_reflection m) h = (and_parts (has.reflected m) (list_all uses (call_uses has.lookup (callees.Reflective m))) h).0
tops has uses (a_constructor m) h = (and_parts (has.built m) (uses (function_binding m)) h).0
tops has uses (a_class c) h = (and_parts (has.live c) (uses (class_use c)) h).0
tops has uses (some_constants c) h = go (or_cases (has.live c && uses (class_use c)) (has.bases c && list_all uses (base_uses (BaseRef.Class c))) h)
  where
    go : ((has.live c && uses (class_use c)) ≡ true) ⊎ ((has.bases c && list_all uses (base_uses (BaseRef.Class c))) ≡ true) → (has.live c || has.bases c) ≡ true
    go (inl q) = or_left (has.live c) (has.bases c) (and_parts (has.live c) (uses (class_use c)) q).0
    go (inr q) = or_right (has.live c) (has.bases c) (and_parts (has.bases c) (list_all uses (base_uses (BaseRef.Class c))) q).0
tops has uses (a_static c f t) h = (and_parts (has.static_field c f t) (uses (static_use c f)) h).0
tops has uses (a_setter c f t) h = (and_parts (has.static_setter c f t) (uses (setter_use c f)) h).0
tops has uses (a_cell c) h = go (or_cases (has.modules c && uses (load_use c)) (has.stored c && uses (store_use c)) h)
  where
    go : ((has.modules c && uses (load_use c)) ≡ true) ⊎ ((has.stored c && uses (store_use c)) ≡ true) → has_cell has c ≡ true
    go (inl q) = or_left (has.modules c) (has.stored c) (and_parts (has.modules c) (uses (load_use c)) q).0
    go (inr q) = or_right (has.modules c) (has.stored c) (and_parts (has.stored c) (uses (store_use c)) q).0
tops has uses (a_loader c) h = (and_parts (has.modules c) (uses (load_use c)) h).0
tops has uses (a_storer c) h = (and_parts (has.stored c) (uses (store_use c)) h).0
tops has uses (a_test t) h = (and_parts (has.tests t) (list_all uses (test_uses t)) h).0
tops has uses (a_cast t) h = (and_parts (has.casts t) (list_all uses (cast_uses t)) h).0
tops has uses (a_helper x) h = (and_parts (has.helper (helper_name x)) (uses (object_binding (helper_name x))) h).0

pub among_all : RestrictedIsAmong
among_all has uses = record { tops = tops has uses; made = λ c h. (and_parts (has.made c) (uses (class_use c)) h).0; fields = λ c f t h. h; targets = λ m. refl }
