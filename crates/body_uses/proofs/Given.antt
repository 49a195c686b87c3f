-- Each body of the forms with objects is built with what it is given.
use Rattle.sj_core.specs.Lookup.{Lookup}
use Rattle.std.proofs.Common.{◌≡◌, ℕ, Bool, true, false, List, [], ◌∷◌, ◌||◌, ◌⊎◌, inl, inr, None, refl, sym, subst, codes, Contains, if◌then◌else◌}
use Rattle.std.specs.List.{All, list_any}
use Rattle.std.proofs.lemmas.Bool.{and_parts, and_from}
use Rattle.std.proofs.lemmas.List.Elements.{All-nil, All-cons}
use Rattle.js_tree.specs.declared.items.Binding.{Binding}
use Rattle.sj_core.specs.Terms as core
use Rattle.sj_desugar_spec.specs.Desugar.{desugared_member, body_code, completed, is_mutable_in, result_destination}
use Rattle.sj_emit_expr_spec.specs.Uses.{uses_of_all, is_same_binding, once_each, uses}
use Rattle.sj_infos.specs.Trees.{trees}
use Rattle.object_folders.proofs.Found.{here, there}
use Rattle.sj_names.proofs.Same.{impossible, text-same}
use Rattle.sj_names.specs.Same.{is_same_text}
use Rattle.sj_names.specs.declared.method_names.MethodName.{MethodName}
use Rattle.sj_names.specs.declared.method_names.Namespace.{Namespace}
use Rattle.sj_names.specs.declared.method_names.Namespace.TheVariants.{Public, PublicStatic, Private, PrivateStatic, Constructor}
use Rattle.object_folders.specs.Typing.{may_check, is_built_with}
use Rattle.object_folders.specs.Built.{Usable, can_box, may_make, is_built, any_object, body_boxes, is_object_body}
use Rattle.sj_trees.specs.Term.{Term, Terms, new_object, new_array, array_value, load_module, store_module, select, select_static, apply_statically, apply_static, is_instance_of, as_instance_of, binary_op, apply}
use Rattle.sj_trees.specs.declared.classes.MethodDef.{MethodDef}
use Rattle.sj_trees.specs.declared.positions.Position.{Position}
use Rattle.sj_trees.specs.declared.types.IrType.{IrType}
use Rattle.sure_receivers.specs.Sure.{sure_locals}
use Rattle.worklist.proofs.Inserted.{nothing_in}
use Rattle.object_folders.proofs.Undenied.{first_or_later}
use Rattle.body_uses.specs.Given.{Given, HelpersGiven}
use Rattle.body_uses.specs.Laws.{BodiesUseWhatIsGiven, used_by}
use Rattle.body_uses.proofs.Boxes.{box_used}
use Rattle.body_uses.proofs.Uses.{Gives, GivesReceived, in_helpers, followed_parts, or_first, or_second, tree}

pub same_binding : (a b : Binding) → is_same_binding a b ≡ true → a ≡ b
same_binding a b h = let q = and_parts (is_same_text a.owner b.owner) (is_same_text a.name b.name) h in (λ i. record { owner = text-same a.owner b.owner q.0 i; name = text-same a.name b.name q.1 i })

-- a binding is there already, or it is kept
abbrev pub IsKept : List Binding → List Binding → Binding → Type 0
IsKept seen bs b = (list_any (is_same_binding b) seen ≡ true) ⊎ Contains (once_each seen bs) b

kept_step : (c : Binding) (bs seen : List Binding) (b : Binding) (p : Bool) → list_any (is_same_binding c) seen ≡ p → (c ≡ b) ⊎ Contains bs b → (Contains bs b → IsKept seen bs b) → (Contains bs b → IsKept (c ∷ seen) bs b) → (list_any (is_same_binding b) seen ≡ true) ⊎ Contains (if p then once_each seen bs else (c ∷ once_each (c ∷ seen) bs)) b
kept_step c bs seen b true e (inl same) f g = inl (subst (λ (x : Binding). list_any (is_same_binding x) seen ≡ true) same e)
kept_step c bs seen b true e (inr after) f g = f after
kept_step c bs seen b false e (inl same) f g = inr (subst (Contains (c ∷ once_each (c ∷ seen) bs)) same (here c (once_each (c ∷ seen) bs)))
kept_step c bs seen b false e (inr after) f g = later (g after)
  where
    first : (q : Bool) → is_same_binding b c ≡ q → (q || list_any (is_same_binding b) seen) ≡ true → (list_any (is_same_binding b) seen ≡ true) ⊎ Contains (c ∷ once_each (c ∷ seen) bs) b
    first true t h = inr (subst (Contains (c ∷ once_each (c ∷ seen) bs)) (sym (same_binding b c t)) (here c (once_each (c ∷ seen) bs)))
    first false t h = inl h

    later : IsKept (c ∷ seen) bs b → (list_any (is_same_binding b) seen ≡ true) ⊎ Contains (c ∷ once_each (c ∷ seen) bs) b
    later (inl h) = first (is_same_binding b c) refl h
    later (inr k) = inr (there c (once_each (c ∷ seen) bs) b k)

pub kept : (bs seen : List Binding) (b : Binding) → Contains bs b → IsKept seen bs b
kept [] seen b h = nothing_in b h
kept (c ∷ bs) seen b h = kept_step c bs seen b (list_any (is_same_binding c) seen) refl (first_or_later c bs b h) (kept bs seen b) (kept bs (c ∷ seen) b)

pub in_uses : (runs : Lookup) (ss : core.Statements) (b : Binding) → Contains (uses_of_all runs ss) b → Contains (uses runs ss) b
in_uses runs ss b h = go (kept (uses_of_all runs ss) [] b h)
  where
    go : IsKept [] (uses_of_all runs ss) b → Contains (uses runs ss) b
    go (inl t) = impossible t
    go (inr k) = k

pub all_from : {X : Type 0} (P : X → Type 0) (xs : List X) → ((x : X) → Contains xs x → P x) → All P xs
all_from P [] h = All-nil P
all_from P (x ∷ xs) h = All-cons P x xs (h x (here x xs)) (all_from P xs (λ y i. h y (there x xs y i)))

pub completed_uses : (U : Binding → Type 0) (runs : Lookup) (n : Namespace) (ss : core.Statements) → All U (uses_of_all runs (completed n ss)) → All U (uses_of_all runs ss)
completed_uses U runs Constructor ss h = (followed_parts U runs ss (core.statement (core.return_of None (core.variable_use core.receiver)) core.no_statements) h).0
completed_uses U runs Public ss h = h
completed_uses U runs PublicStatic ss h = h
completed_uses U runs Private ss h = h
completed_uses U runs PrivateStatic ss h = h

module _ (has : Usable) (used : List Binding) where
  abbrev U : Binding → Type 0
  U = Contains used

  call_given : (p : Position) (e : Term) (c : List ℕ) (n : Namespace) (m : MethodName) (ts : Terms) (t : IrType) → Given has used (apply_statically p e c n m ts t) → GivesReceived U has.lookup any_object has n c m t
  call_given p e c Constructor m ts t g = (λ h u. g.0 h u, λ value h u. g.1 value u)
  call_given p e c Private m ts t g = λ h u. g u
  call_given p e c Public m ts t g = λ h u. g u
  call_given p e c n m ts t g = tt

  gives : (t : Term) → Given has used t → Gives U has.lookup any_object has t
  gives (apply_static p c n m ts t) g = λ h u. g u
  gives (apply p e m ts t) g = (λ c same h u. g.0 c same u, (λ c same h u. g.1.0 c same h u, (λ same h. g.1.1.0 same, λ n h u. g.1.1.1 n u)))
  gives (apply_statically p e c n m ts t) g = call_given p e c n m ts t g
  gives (new_object p c m ts) g = λ h k f u. g k f u
  gives (select p e c f t) g = λ h. g
  gives (select_static p c f t) g = (λ h u. g.0 u, λ h u. g.1 u)
  gives (load_module p c) g = λ h u. g u
  gives (store_module p c e) g = λ h u. g u
  gives (new_array p r e) g = (λ h u. g.0 u, g.1)
  gives (array_value p r ts) g = (λ h u. g.0 u, g.1)
  gives (is_instance_of p e t) g = g
  gives (as_instance_of p e t) g = g
  gives (binary_op p o e d) g = λ h. g
  gives t g = tt

-- objects that hold chars can be made, or the code makes none
pub may_make_those : (has : Usable) (boxed : Bool) → (boxed ≡ true → can_box has ≡ true) → may_make has boxed ≡ true
may_make_those has true h = or_first (can_box has) false (h refl)
may_make_those has false h = or_second (can_box has) true refl

body_given : (has : Usable) (d : MethodDef) (e : Term) → has.objects ≡ true → is_object_body d e ≡ true → HelpersGiven has (used_by has.lookup d e) → ((t : Term) → Contains (trees e) t → Given has (used_by has.lookup d e) t) → is_built_with has d e ≡ true
body_given has d e objects k helpers given =
    let sure = sure_locals e in
    let used = used_by has.lookup d e in
    let code = body_code (is_mutable_in d e) d.result e in
    let within = completed_uses (Contains used) has.lookup d.namespace code (all_from (Contains used) (uses_of_all has.lookup (desugared_member d e).body) (in_uses has.lookup (desugared_member d e).body)) in
    let each = all_from (Gives (Contains used) has.lookup any_object has) (trees e) (λ t i. gives has used t (given t i)) in
    let made = may_make_those has (body_boxes d e) (λ h. helpers (codes "$C") (in_helpers (codes "$C") refl) (box_used (Contains used) has.lookup sure (is_mutable_in d e) e [] (result_destination d.result) 1 within h)) in
    and_from (may_make has (body_boxes d e)) (is_built has (may_check has sure) e) made (tree (Contains used) has.lookup any_object has (λ e. true) sure (λ h. objects) (λ x i f u. helpers x i u) (λ e h n. refl) (is_mutable_in d e) e [] (result_destination d.result) 1 k each within)

pub given : BodiesUseWhatIsGiven
given has d e = body_given has d e
