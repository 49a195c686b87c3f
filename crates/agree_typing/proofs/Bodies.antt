-- A body that is typed and of the forms that are built, and of which no tree breaks the local rules, keeps the rules over trees.
use Rattle.std.proofs.Common.{◌≡◌, ℕ, ◌+◌, ◌^◌, arith, Bool, true, false, ◌||◌, ◌&&◌, not, List, [], ◌∷◌, ◌++◌, Some, Option, refl, sym, ◌∙◌, subst, inl}
use Rattle.std.specs.List.{All}
use Rattle.std.proofs.lemmas.Bool.{and_parts, and_from}
use Rattle.std.proofs.lemmas.List.Elements.{All-nil, All-cons, All-head, All-tail}
use Rattle.agree_local_rules.specs.Built.{Usable, stands, may_make, is_operation, is_based, can_cast, is_built, are_built, are_built_cases, body_boxes, is_built_method}
use Rattle.sj_text_spec.specs.Rules.{IsListedTree, AreListedTrees, AreListedCases}
use Rattle.agree_local_rules.specs.Sizes.{size, size_of_cases}
use Rattle.agree_local_rules.specs.Desugar.{member, has_no_value}
use Rattle.agree_local_rules.proofs.Kept.{Keeps, AllKeep, keep-front, keep-behind, SameScope, scope-behind, scope-nothing, not_false, local-is, variable-is}
use Rattle.agree_local_rules.proofs.Methods.{keep, distinct, body_once, body_keeps, params-same}
use Rattle.agree_local_rules.proofs.Types.{empty-is}
use Rattle.agree_local_rules.specs.Kept.{KeepsTreeRules}
use Rattle.sj_local.specs.Names.{is_empty_type}
use Rattle.sj_local.specs.Nodes.{Context, node, inside, in_a_block, with_label, with_local, caught, behind, below, statements_below, all_below, cases_below}
use Rattle.sj_local.specs.Nodes as local
use Rattle.sj_local.specs.TreeRules.{innermost, has_type, is_mutable, has_no_terms, outermost}
use Rattle.sj_names.proofs.Same.{impossible}
use Rattle.sj_names.specs.declared.method_names.Namespace.{Namespace}
use Rattle.agree_local_rules.specs.Typing.{Scene, may_check, IsResult, catching, in_label, Typed, TypedBlock, TypedAll, TypedCases}
use Rattle.agree_local_rules.specs.Locals.{local_of, HasValue}
use Rattle.agree_local_rules.specs.Typing as scenes
use Rattle.agree_local_rules.specs.Once.{Once, OnceAll, OnceCases}
use Rattle.agree_local_rules.specs.Methods.{scene_of, KeepsRules}
use Rattle.sj_trees.specs.Term.{Term, Terms, no_terms, more_terms, Cases, no_cases, more_cases, var_def, skip, block_of, labeled, assign, return_to, if_then, while_loop, do_while, throw, try_catch, try_finally, match_on, new_object, select, select_static, apply, apply_statically, apply_static, unary_op, binary_op, is_instance_of, as_instance_of, undefined_literal, null_literal, boolean_literal, char_literal, byte_literal, short_literal, int_literal, long_literal, string_literal, var_ref, this_ref, log_line, load_module, store_module, new_array, array_value, array_length, array_select}
use Rattle.sj_trees.specs.declared.classes.ClassDef.{ClassDef}
use Rattle.sj_trees.specs.declared.classes.MethodDef.{MethodDef}
use Rattle.sj_trees.specs.declared.classes.ParamDef.{ParamDef}
use Rattle.sj_trees.specs.declared.types.IrType.{IrType}
use Rattle.sj_trees.specs.declared.types.IrType.TheVariants.{Any}
use Rattle.sure_receivers.specs.Sure.{sure_locals}
use Rattle.agree_typing.proofs.Dimensions.{listed_dimensions, tree_dimensions}
use Rattle.agree_typing.proofs.Values.{all_have_values, fits, fits_long}
use Rattle.sj_world.specs.Known.{Classes}
use Rattle.agree_local_rules.specs.Nodes.{Node, nodes, nodes_of_all, nodes_of_cases}
use Rattle.agree_local_rules.specs.Nodes as typing
use Rattle.agree_local_rules.specs.Rules.{CasesYield, Meets, Yields}
use Rattle.agree_local_rules.specs.Typed.{MeetsThere, IsTyped}
use Rattle.agree_local_rules.specs.Label.{Label}

-- a definition has a type with values
defined-value : (b : Bool) (t : IrType) → (not b || is_empty_type t) ≡ false → has_no_value t ≡ false
defined-value true t h = empty-is t ∙ h
defined-value false t h = impossible (sym h)

abbrev At : Context → Term → List local.Node
At x t = node x t ∷ below x t

-- three lists one behind the other
three : (owner : List ℕ) (space : Namespace) (xs ys zs : List local.Node) → AllKeep owner space (xs ++ ys ++ zs) → AllKeep owner space xs × AllKeep owner space ys × AllKeep owner space zs
three owner space xs ys zs h = let m = keep-front owner space (xs ++ ys) zs h in (keep-front owner space xs ys m, keep-behind owner space xs ys m, keep-behind owner space (xs ++ ys) zs h)

module _ (w : Classes) (has : Usable) where
  abbrev Met : Namespace → List Node → Type 0
  Met space xs = All (MeetsThere w space) xs

  front : (space : Namespace) (xs ys : List Node) → Met space (xs ++ ys) → Met space xs
  front space [] ys h = All-nil (MeetsThere w space)
  front space (x ∷ xs) ys h = All-cons (MeetsThere w space) x xs (All-head (MeetsThere w space) x (xs ++ ys) h) (front space xs ys (All-tail (MeetsThere w space) x (xs ++ ys) h))

  back : (space : Namespace) (xs ys : List Node) → Met space (xs ++ ys) → Met space ys
  back space [] ys h = h
  back space (x ∷ xs) ys h = back space xs ys (All-tail (MeetsThere w space) x (xs ++ ys) h)

  -- the rule of a tree itself, and those of the trees in it
  own : (space : Namespace) (ls : List Label) (n : ℕ) (t : Term) → Met space (nodes ls n t) → Meets w space ls t
  own space ls n t h = All-head (MeetsThere w space) (typing.node n ls t) [] (back space (typing.below ls n t) (typing.node n ls t ∷ []) h)

  inner : (space : Namespace) (ls : List Label) (n : ℕ) (t : Term) → Met space (nodes ls n t) → Met space (typing.below ls n t)
  inner space ls n t h = front space (typing.below ls n t) (typing.node n ls t ∷ []) h

  -- of two trees one behind the other
  one : (space : Namespace) (ls : List Label) (n : ℕ) (a b : Term) → Met space (nodes ls n a ++ nodes ls (n + size a) b) → Met space (nodes ls n a)
  one space ls n a b h = front space (nodes ls n a) (nodes ls (n + size a) b) h

  other : (space : Namespace) (ls : List Label) (n : ℕ) (a b : Term) → Met space (nodes ls n a ++ nodes ls (n + size a) b) → Met space (nodes ls (n + size a) b)
  other space ls n a b h = back space (nodes ls n a) (nodes ls (n + size a) b) h

  mutual
    -- a tree that stands where `x` tells, and the trees in it
    typed : (t : Term) (x y : Context) (s : Scene) (around : List (List ℕ)) (n : ℕ) → y.scope ≡ x.scope → SameScope x.scope s.locals → Keeps s.owner s.space (node y t) → AllKeep s.owner s.space (below x t) → Once around t → is_built has (may_check has s.sure) t ≡ true → IsListedTree t → Met s.space (nodes s.labels n t) → Typed w has s t
    typed (var_def p v t m e) x y s a n z c k h o built listed all =
        (record { meets = own s.space s.labels n (var_def p v t m e) all; built = refl; finds = (defined-value y.in_block t k.definition, o.0) }, typed e x x s a (n + 1) refl c h.0 h.1 o.1 built listed.2 (inner s.space s.labels n (var_def p v t m e) all))
    typed (skip p) x y s a n z c k h o built listed all = record { meets = tt; built = refl; finds = tt }
    typed (block_of p ts) x y s a n z c k h o built listed all = typed_block ts (in_a_block x) s a (n + 1) c h o k.definition built listed (inner s.space s.labels n (block_of p ts) all)
    typed (labeled p l t e) x y s a n z c k h o built listed all =
        (record { meets = own s.space s.labels n (labeled p l t e) all; built = refl; finds = tt }, typed e (with_label l x) (with_label l x) (in_label l t s) (l ∷ a) (n + 1) refl c h.0 h.1 o.1 built listed.2 (inner s.space s.labels n (labeled p l t e) all))
    typed (assign p (var_ref r v t) e) x y s a n z c k h o built listed all =
        let met = inner s.space s.labels n (assign p (var_ref r v t) e) all in
        (record { meets = own s.space s.labels n (assign p (var_ref r v t) e) all; built = refl; finds = variable-is s v t (innermost x.scope v) (local_of s.locals v) refl (c.same v) (not_false (has_type t (innermost x.scope v)) h.0.variable) (not_false (is_mutable (innermost x.scope v)) (subst (λ i. not (is_mutable (innermost i v)) ≡ false) z k.variable)) }, typed e x x s a (n + 1 + size (var_ref r v t)) refl c h.1.0 h.1.1 o built listed.1 (other s.space s.labels (n + 1) (var_ref r v t) e met))
    typed (assign p (select r d cn f t) e) x y s a n z c k h o built listed all =
        let met = inner s.space s.labels n (assign p (select r d cn f t) e) all in
        let later = keep-behind s.owner s.space (At x (select r d cn f t)) (At x e) h in
        let q = and_parts (stands has (may_check has s.sure) (assign p (select r d cn f t) e)) (is_built has (may_check has s.sure) d && is_built has (may_check has s.sure) e) built in
        let parts = and_parts (is_built has (may_check has s.sure) d) (is_built has (may_check has s.sure) e) q.1 in
        let read = and_from (stands has (may_check has s.sure) (select r d cn f t)) (is_built has (may_check has s.sure) d) q.0 parts.0 in
        (record { meets = own s.space s.labels n (assign p (select r d cn f t) e) all; built = q.0; finds = tt }, typed (select r d cn f t) x x s a (n + 1) refl c h.0 (keep-front s.owner s.space (below x (select r d cn f t)) (At x e) h.1) o.0 read listed.0 (one s.space s.labels (n + 1) (select r d cn f t) e met), typed e x x s a (n + 1 + size (select r d cn f t)) refl c later.0 later.1 o.1 parts.1 listed.1 (other s.space s.labels (n + 1) (select r d cn f t) e met))
    typed (assign p (select_static r cn f t) e) x y s a n z c k h o built listed all =
        let met = inner s.space s.labels n (assign p (select_static r cn f t) e) all in
        let q = and_parts (has.static_setter cn f t) (is_built has (may_check has s.sure) e) built in
        (record { meets = own s.space s.labels n (assign p (select_static r cn f t) e) all; built = q.0; finds = tt }, own s.space s.labels (n + 1) (select_static r cn f t) (one s.space s.labels (n + 1) (select_static r cn f t) e met), typed e x x s a (n + 1 + size (select_static r cn f t)) refl c h.1.0 h.1.1 o q.1 listed.1 (other s.space s.labels (n + 1) (select_static r cn f t) e met))
    typed (assign p (array_select r d i t) e) x y s a n z c k h o built listed all =
        let met = inner s.space s.labels n (assign p (array_select r d i t) e) all in
        let later = keep-behind s.owner s.space (At x (array_select r d i t)) (At x e) h in
        let front_kept = keep-front s.owner s.space (below x (array_select r d i t)) (At x e) h.1 in
        let index_kept = keep-behind s.owner s.space (At x d) (At x i) front_kept in
        let its = one s.space s.labels (n + 1) (array_select r d i t) e met in
        let inside_it = inner s.space s.labels (n + 1) (array_select r d i t) its in
        let q = and_parts (stands has (may_check has s.sure) (assign p (array_select r d i t) e)) (is_built has (may_check has s.sure) d && (is_built has (may_check has s.sure) i && is_built has (may_check has s.sure) e)) built in
        let parts = and_parts (is_built has (may_check has s.sure) d) (is_built has (may_check has s.sure) i && is_built has (may_check has s.sure) e) q.1 in
        let last = and_parts (is_built has (may_check has s.sure) i) (is_built has (may_check has s.sure) e) parts.1 in (
          record { meets = own s.space s.labels n (assign p (array_select r d i t) e) all; built = q.0; finds = tree_dimensions d listed.0.0 },
          own s.space s.labels (n + 1) (array_select r d i t) its,
          typed d x x s a (n + 1 + 1) refl c front_kept.0 (keep-front s.owner s.space (below x d) (At x i) front_kept.1) o.0 parts.0 listed.0.0 (one s.space s.labels (n + 1 + 1) d i inside_it),
          typed i x x s a (n + 1 + 1 + size d) refl c index_kept.0 index_kept.1 o.1 last.0 listed.0.1 (other s.space s.labels (n + 1 + 1) d i inside_it),
          typed e x x s a (n + 1 + size (array_select r d i t)) refl c later.0 later.1 o.2 last.1 listed.1 (other s.space s.labels (n + 1) (array_select r d i t) e met),
        )
    typed (throw p e) x y s a n z c k h o built listed all =
        let q = and_parts has.objects (is_built has (may_check has s.sure) e) built in
        (record { meets = own s.space s.labels n (throw p e) all; built = q.0; finds = tt }, typed e x x s a (n + 1) refl c h.0 h.1 o q.1 listed (inner s.space s.labels n (throw p e) all))
    typed (return_to p e l) x y s a n z c k h o built listed all =
        (record { meets = own s.space s.labels n (return_to p e l) all; built = refl; finds = tt }, typed e x x s a (n + 1) refl c h.0 h.1 o.1 built listed.0 (inner s.space s.labels n (return_to p e l) all))
    typed (if_then p d e f t) x y s a n z c k h o built listed all =
        let met = inner s.space s.labels n (if_then p d e f t) all in
        let rest : Met s.space (nodes s.labels (n + 1 + size d) e ++ nodes s.labels (n + 1 + size d + size e) f) = back s.space (nodes s.labels (n + 1) d) (nodes s.labels (n + 1 + size d) e ++ nodes s.labels (n + 1 + size d + size e) f) met in
        let kept = three s.owner s.space (At x d) (At x e) (At x f) h in
        let parts = and_parts (is_built has (may_check has s.sure) d) (is_built has (may_check has s.sure) e && is_built has (may_check has s.sure) f) built in
        let branches = and_parts (is_built has (may_check has s.sure) e) (is_built has (may_check has s.sure) f) parts.1 in
        (record { meets = own s.space s.labels n (if_then p d e f t) all; built = refl; finds = tt }, typed d x x s a (n + 1) refl c kept.0.0 kept.0.1 o.0 parts.0 listed.0 (front s.space (nodes s.labels (n + 1) d) (nodes s.labels (n + 1 + size d) e ++ nodes s.labels (n + 1 + size d + size e) f) met), typed e x x s a (n + 1 + size d) refl c kept.1.0 kept.1.1 o.1 branches.0 listed.1 (one s.space s.labels (n + 1 + size d) e f rest), typed f x x s a (n + 1 + size d + size e) refl c kept.2.0 kept.2.1 o.2 branches.1 listed.2 (other s.space s.labels (n + 1 + size d) e f rest))
    typed (while_loop p d e) x y s a n z c k h o built listed all =
        let met = inner s.space s.labels n (while_loop p d e) all in
        let later = keep-behind s.owner s.space (At x d) (At x e) h in
        let parts = and_parts (is_built has (may_check has s.sure) d) (is_built has (may_check has s.sure) e) built in
        (record { meets = own s.space s.labels n (while_loop p d e) all; built = refl; finds = tt }, typed d x x s a (n + 1) refl c h.0 (keep-front s.owner s.space (below x d) (At x e) h.1) o.0 parts.0 listed.0 (one s.space s.labels (n + 1) d e met), typed e x x s a (n + 1 + size d) refl c later.0 later.1 o.1 parts.1 listed.1 (other s.space s.labels (n + 1) d e met))
    typed (do_while p d e) x y s a n z c k h o built listed all =
        let met = inner s.space s.labels n (do_while p d e) all in
        let later = keep-behind s.owner s.space (At x d) (At x e) h in
        let parts = and_parts (is_built has (may_check has s.sure) d) (is_built has (may_check has s.sure) e) built in
        (record { meets = own s.space s.labels n (do_while p d e) all; built = refl; finds = tt }, typed d x x s a (n + 1) refl c h.0 (keep-front s.owner s.space (below x d) (At x e) h.1) o.0 parts.0 listed.0 (one s.space s.labels (n + 1) d e met), typed e x x s a (n + 1 + size d) refl c later.0 later.1 o.1 parts.1 listed.1 (other s.space s.labels (n + 1) d e met))
    typed (try_catch p e v d t) x y s a n z c k h o built listed all =
        let met = inner s.space s.labels n (try_catch p e v d t) all in
        let handler = with_local (caught v) x in
        let first = keep-front s.owner s.space (At x e) (At handler d) h in
        let later = keep-behind s.owner s.space (At x e) (At handler d) h in
        let q = and_parts has.objects (is_built has (may_check has s.sure) e && is_built has (may_check has s.sure) d) built in
        let parts = and_parts (is_built has (may_check has s.sure) e) (is_built has (may_check has s.sure) d) q.1 in
        (record { meets = own s.space s.labels n (try_catch p e v d t) all; built = q.0; finds = o.1 }, typed e x x s a (n + 1) refl c first.0 first.1 o.2 parts.0 listed.0 (one s.space s.labels (n + 1) e d met), typed d handler handler (catching v s) a (n + 1 + size e) refl (scope-behind x.scope s.locals (record { name = v; «mutable» = false; tpe = Any }) c) later.0 later.1 o.3 parts.1 listed.2 (other s.space s.labels (n + 1) e d met))
    typed (try_finally p e d) x y s a n z c k h o built listed all =
        let met = inner s.space s.labels n (try_finally p e d) all in
        let later = keep-behind s.owner s.space (At x e) (At x d) h in
        let parts = and_parts (is_built has (may_check has s.sure) e) (is_built has (may_check has s.sure) d) built in
        (record { meets = own s.space s.labels n (try_finally p e d) all; built = refl; finds = tt }, typed e x x s a (n + 1) refl c h.0 (keep-front s.owner s.space (below x e) (At x d) h.1) o.0 parts.0 listed.0 (one s.space s.labels (n + 1) e d met), typed d x x s a (n + 1 + size e) refl c later.0 later.1 o.1 parts.1 listed.1 (other s.space s.labels (n + 1) e d met))
    typed (match_on p e cs d t) x y s a n z c k h o built listed all =
        let met = inner s.space s.labels n (match_on p e cs d t) all in
        let i = n + 1 + size e in
        let rest : Met s.space (nodes_of_cases s.labels i cs ++ nodes s.labels (i + size_of_cases cs) d) = back s.space (nodes s.labels (n + 1) e) (nodes_of_cases s.labels i cs ++ nodes s.labels (i + size_of_cases cs) d) met in
        let its = own s.space s.labels n (match_on p e cs d t) all in
        let kept = three s.owner s.space (At x e) (cases_below x cs) (At x d) h in
        let parts = and_parts (is_built has (may_check has s.sure) e) (are_built_cases has (may_check has s.sure) cs && is_built has (may_check has s.sure) d) built in
        let branches = and_parts (are_built_cases has (may_check has s.sure) cs) (is_built has (may_check has s.sure) d) parts.1 in
        (record { meets = its; built = refl; finds = tt }, typed e x x s a (n + 1) refl c kept.0.0 kept.0.1 o.0 parts.0 listed.0 (front s.space (nodes s.labels (n + 1) e) (nodes_of_cases s.labels i cs ++ nodes s.labels (i + size_of_cases cs) d) met), typed_cases cs x s a t i c kept.1 o.1 branches.0 listed.1 its.1 (front s.space (nodes_of_cases s.labels i cs) (nodes s.labels (i + size_of_cases cs) d) rest), typed d x x s a (i + size_of_cases cs) refl c kept.2.0 kept.2.1 o.2 branches.1 listed.2 (back s.space (nodes_of_cases s.labels i cs) (nodes s.labels (i + size_of_cases cs) d) rest))
    typed (new_object p cn m ts) x y s a n z c k h o built listed all =
        let q = and_parts (stands has (may_check has s.sure) (new_object p cn m ts)) (are_built has (may_check has s.sure) ts) built in
        (record { meets = own s.space s.labels n (new_object p cn m ts) all; built = q.0; finds = all_have_values m.params listed.1.0.params }, typed_all ts x s a (n + 1) c h o q.1 listed.2 (inner s.space s.labels n (new_object p cn m ts) all))
    typed (select p e cn f t) x y s a n z c k h o built listed all =
        let q = and_parts (stands has (may_check has s.sure) (select p e cn f t)) (is_built has (may_check has s.sure) e) built in
        (record { meets = own s.space s.labels n (select p e cn f t) all; built = q.0; finds = tt }, typed e x x s a (n + 1) refl c h.0 h.1 o q.1 listed.0 (inner s.space s.labels n (select p e cn f t) all))
    typed (apply p e m ts t) x y s a n z c k h o built listed all =
        let met = inner s.space s.labels n (apply p e m ts t) all in
        let q = and_parts (stands has (may_check has s.sure) (apply p e m ts t)) (is_built has (may_check has s.sure) e && are_built has (may_check has s.sure) ts) built in
        let parts = and_parts (is_built has (may_check has s.sure) e) (are_built has (may_check has s.sure) ts) q.1 in
        (record { meets = own s.space s.labels n (apply p e m ts t) all; built = q.0; finds = all_have_values m.params listed.1.0.params }, typed e x x s a (n + 1) refl c h.0 (keep-front s.owner s.space (below x e) (all_below x ts) h.1) o.0 parts.0 listed.0 (front s.space (nodes s.labels (n + 1) e) (nodes_of_all s.labels (n + 1 + size e) ts) met), typed_all ts x s a (n + 1 + size e) c (keep-behind s.owner s.space (At x e) (all_below x ts) h) o.1 parts.1 listed.2 (back s.space (nodes s.labels (n + 1) e) (nodes_of_all s.labels (n + 1 + size e) ts) met))
    typed (apply_statically p e cn ns m ts t) x y s a n z c k h o built listed all =
        let met = inner s.space s.labels n (apply_statically p e cn ns m ts t) all in
        let q = and_parts (stands has (may_check has s.sure) (apply_statically p e cn ns m ts t)) (is_built has (may_check has s.sure) e && are_built has (may_check has s.sure) ts) built in
        let parts = and_parts (is_built has (may_check has s.sure) e) (are_built has (may_check has s.sure) ts) q.1 in
        (record { meets = own s.space s.labels n (apply_statically p e cn ns m ts t) all; built = q.0; finds = all_have_values m.params listed.2.0.params }, typed e x x s a (n + 1) refl c h.0 (keep-front s.owner s.space (below x e) (all_below x ts) h.1) o.0 parts.0 listed.0 (front s.space (nodes s.labels (n + 1) e) (nodes_of_all s.labels (n + 1 + size e) ts) met), typed_all ts x s a (n + 1 + size e) c (keep-behind s.owner s.space (At x e) (all_below x ts) h) o.1 parts.1 listed.3 (back s.space (nodes s.labels (n + 1) e) (nodes_of_all s.labels (n + 1 + size e) ts) met))
    typed (apply_static p cn ns m ts t) x y s a n z c k h o built listed all =
        let q = and_parts (has.linked (member cn ns m)) (are_built has (may_check has s.sure) ts) built in
        (record { meets = own s.space s.labels n (apply_static p cn ns m ts t) all; built = q.0; finds = all_have_values m.params listed.1.0.params }, typed_all ts x s a (n + 1) c h o q.1 listed.2 (inner s.space s.labels n (apply_static p cn ns m ts t) all))
    typed (unary_op p op e) x y s a n z c k h o built listed all = (record { meets = own s.space s.labels n (unary_op p op e) all; built = refl; finds = tt }, typed e x x s a (n + 1) refl c h.0 h.1 o built listed (inner s.space s.labels n (unary_op p op e) all))
    typed (binary_op p op d e) x y s a n z c k h o built listed all =
        let met = inner s.space s.labels n (binary_op p op d e) all in
        let later = keep-behind s.owner s.space (At x d) (At x e) h in
        let q = and_parts (is_operation has op e) (is_built has (may_check has s.sure) d && is_built has (may_check has s.sure) e) built in
        let parts = and_parts (is_built has (may_check has s.sure) d) (is_built has (may_check has s.sure) e) q.1 in
        (record { meets = own s.space s.labels n (binary_op p op d e) all; built = q.0; finds = tt }, typed d x x s a (n + 1) refl c h.0 (keep-front s.owner s.space (below x d) (At x e) h.1) o.0 parts.0 listed.0 (one s.space s.labels (n + 1) d e met), typed e x x s a (n + 1 + size d) refl c later.0 later.1 o.1 parts.1 listed.1 (other s.space s.labels (n + 1) d e met))
    typed (new_array p r e) x y s a n z c k h o built listed all =
        let q = and_parts (stands has (may_check has s.sure) (new_array p r e)) (is_built has (may_check has s.sure) e) built in
        (record { meets = own s.space s.labels n (new_array p r e) all; built = q.0; finds = (listed.0.0.0, listed.0.0.1) }, typed e x x s a (n + 1) refl c h.0 h.1 o q.1 listed.1 (inner s.space s.labels n (new_array p r e) all))
    typed (array_value p r ts) x y s a n z c k h o built listed all =
        let q = and_parts (stands has (may_check has s.sure) (array_value p r ts)) (are_built has (may_check has s.sure) ts) built in
        (record { meets = own s.space s.labels n (array_value p r ts) all; built = q.0; finds = (listed.0.0.0, listed.0.0.1) }, typed_all ts x s a (n + 1) c h o q.1 listed.1 (inner s.space s.labels n (array_value p r ts) all))
    typed (array_length p e) x y s a n z c k h o built listed all =
        let q = and_parts (stands has (may_check has s.sure) (array_length p e)) (is_built has (may_check has s.sure) e) built in
        (record { meets = own s.space s.labels n (array_length p e) all; built = q.0; finds = tt }, typed e x x s a (n + 1) refl c h.0 h.1 o q.1 listed (inner s.space s.labels n (array_length p e) all))
    typed (array_select p d e t) x y s a n z c k h o built listed all =
        let met = inner s.space s.labels n (array_select p d e t) all in
        let later = keep-behind s.owner s.space (At x d) (At x e) h in
        let q = and_parts (stands has (may_check has s.sure) (array_select p d e t)) (is_built has (may_check has s.sure) d && is_built has (may_check has s.sure) e) built in
        let parts = and_parts (is_built has (may_check has s.sure) d) (is_built has (may_check has s.sure) e) q.1 in
        (record { meets = own s.space s.labels n (array_select p d e t) all; built = q.0; finds = tree_dimensions d listed.0 }, typed d x x s a (n + 1) refl c h.0 (keep-front s.owner s.space (below x d) (At x e) h.1) o.0 parts.0 listed.0 (one s.space s.labels (n + 1) d e met), typed e x x s a (n + 1 + size d) refl c later.0 later.1 o.1 parts.1 listed.1 (other s.space s.labels (n + 1) d e met))
    typed (is_instance_of p e t) x y s a n z c k h o built listed all =
        let q = and_parts (has.tests t && is_based has t) (is_built has (may_check has s.sure) e) built in
        (record { meets = own s.space s.labels n (is_instance_of p e t) all; built = q.0; finds = listed_dimensions t listed.1 }, typed e x x s a (n + 1) refl c h.0 h.1 o q.1 listed.0 (inner s.space s.labels n (is_instance_of p e t) all))
    typed (as_instance_of p e t) x y s a n z c k h o built listed all =
        let q = and_parts (can_cast has t && is_based has t) (is_built has (may_check has s.sure) e) built in
        (record { meets = own s.space s.labels n (as_instance_of p e t) all; built = q.0; finds = listed_dimensions t listed.1 }, typed e x x s a (n + 1) refl c h.0 h.1 o q.1 listed.0 (inner s.space s.labels n (as_instance_of p e t) all))
    typed (undefined_literal p) x y s a n z c k h o built listed all = record { meets = tt; built = refl; finds = tt }
    typed (null_literal p) x y s a n z c k h o built listed all = record { meets = tt; built = refl; finds = tt }
    typed (boolean_literal p b) x y s a n z c k h o built listed all = record { meets = tt; built = refl; finds = tt }
    typed (char_literal p u) x y s a n z c k h o built listed all = record { meets = tt; built = refl; finds = listed }
    typed (byte_literal p u) x y s a n z c k h o built listed all = record { meets = tt; built = refl; finds = fits (2 ^ 7) u (omega arith) listed }
    typed (short_literal p u) x y s a n z c k h o built listed all = record { meets = tt; built = refl; finds = fits (2 ^ 15) u (omega arith) listed }
    typed (int_literal p u) x y s a n z c k h o built listed all = record { meets = tt; built = refl; finds = fits (2 ^ 31) u (omega arith) listed }
    typed (long_literal p u) x y s a n z c k h o built listed all = record { meets = tt; built = refl; finds = fits_long u listed }
    typed (string_literal p us) x y s a n z c k h o built listed all = record { meets = tt; built = refl; finds = tt }
    typed (var_ref p v t) x y s a n z c k h o built listed all = record { meets = tt; built = refl; finds = local-is s v t (innermost x.scope v) (local_of s.locals v) refl (c.same v) (not_false (has_type t (innermost x.scope v)) (subst (λ i. not (has_type t (innermost i v)) ≡ false) z k.variable)) }
    typed (load_module p cn) x y s a n z c k h o built listed all = record { meets = own s.space s.labels n (load_module p cn) all; built = built; finds = tt }
    typed (store_module p cn e) x y s a n z c k h o built listed all =
        let q = and_parts (has.stored cn) (is_built has (may_check has s.sure) e) built in
        (record { meets = own s.space s.labels n (store_module p cn e) all; built = q.0; finds = tt }, typed e x x s a (n + 1) refl c h.0 h.1 o q.1 listed.1 (inner s.space s.labels n (store_module p cn e) all))
    typed (select_static p cn f t) x y s a n z c k h o built listed all = record { meets = own s.space s.labels n (select_static p cn f t) all; built = built; finds = tt }
    typed (this_ref p t) x y s a n z c k h o built listed all = record { meets = tt; built = built; finds = k.this }
    typed (log_line p e) x y s a n z c k h o built listed all = (record { meets = own s.space s.labels n (log_line p e) all; built = refl; finds = tt }, typed e x x s a (n + 1) refl c h.0 h.1 o built listed (inner s.space s.labels n (log_line p e) all))
    typed _ x y s a n z c k h o built listed all = impossible built

    typed_block : (ts : Terms) (x : Context) (s : Scene) (around : List (List ℕ)) (n : ℕ) → SameScope x.scope s.locals → AllKeep s.owner s.space (statements_below x ts) → OnceAll around ts → has_no_terms ts ≡ false → are_built has (may_check has s.sure) ts ≡ true → AreListedTrees ts → Met s.space (nodes_of_all s.labels n ts) → TypedBlock w has s ts
    typed_block no_terms x s a n c h o e built listed all = impossible (sym e)
    typed_block (more_terms t no_terms) x s a n c h o e built listed all = typed t (inside x) x s a n refl c h.0 (keep-front s.owner s.space (below (inside x) t) [] h.1) o.0 (and_parts (is_built has (may_check has s.sure) t) true built).0 listed.0 (front s.space (nodes s.labels n t) [] all)
    typed_block (more_terms (var_def p v t m d) (more_terms u us)) x s a n c h o e built listed all =
        let q = and_parts (is_built has (may_check has s.sure) (var_def p v t m d)) (are_built has (may_check has s.sure) (more_terms u us)) built in
        (typed (var_def p v t m d) (inside x) x s a n refl c h.0 (keep-front s.owner s.space (below (inside x) (var_def p v t m d)) (statements_below (behind (var_def p v t m d) x) (more_terms u us)) h.1) o.0 q.0 listed.0 (front s.space (nodes s.labels n (var_def p v t m d)) (nodes_of_all s.labels (n + size (var_def p v t m d)) (more_terms u us)) all), (λ y i k. o.2 y (inl i) k), typed_block (more_terms u us) (behind (var_def p v t m d) x) (scenes.behind (var_def p v t m d) s) a (n + size (var_def p v t m d)) (scope-behind x.scope s.locals (record { name = v; «mutable» = m; tpe = t }) c) (keep-behind s.owner s.space (below (inside x) (var_def p v t m d)) (statements_below (behind (var_def p v t m d) x) (more_terms u us)) h.1) o.1 refl q.1 listed.1 (back s.space (nodes s.labels n (var_def p v t m d)) (nodes_of_all s.labels (n + size (var_def p v t m d)) (more_terms u us)) all))
    typed_block (more_terms t (more_terms u us)) x s a n c h o e built listed all =
        let q = and_parts (is_built has (may_check has s.sure) t) (are_built has (may_check has s.sure) (more_terms u us)) built in
        (typed t (inside x) x s a n refl c h.0 (keep-front s.owner s.space (below (inside x) t) (statements_below (behind t x) (more_terms u us)) h.1) o.0 q.0 listed.0 (front s.space (nodes s.labels n t) (nodes_of_all s.labels (n + size t) (more_terms u us)) all), (λ y i k. absurd i), typed_block (more_terms u us) (behind t x) s a (n + size t) (scope-nothing x.scope s.locals c) (keep-behind s.owner s.space (below (inside x) t) (statements_below (behind t x) (more_terms u us)) h.1) o.1 refl q.1 listed.1 (back s.space (nodes s.labels n t) (nodes_of_all s.labels (n + size t) (more_terms u us)) all))

    typed_all : (ts : Terms) (x : Context) (s : Scene) (around : List (List ℕ)) (n : ℕ) → SameScope x.scope s.locals → AllKeep s.owner s.space (all_below x ts) → OnceAll around ts → are_built has (may_check has s.sure) ts ≡ true → AreListedTrees ts → Met s.space (nodes_of_all s.labels n ts) → TypedAll w has s ts
    typed_all no_terms x s a n c h o built listed all = tt
    typed_all (more_terms t ts) x s a n c h o built listed all =
        let q = and_parts (is_built has (may_check has s.sure) t) (are_built has (may_check has s.sure) ts) built in
        (typed t x x s a n refl c h.0 (keep-front s.owner s.space (below x t) (all_below x ts) h.1) o.0 q.0 listed.0 (front s.space (nodes s.labels n t) (nodes_of_all s.labels (n + size t) ts) all), typed_all ts x s a (n + size t) c (keep-behind s.owner s.space (At x t) (all_below x ts) h) o.1 q.1 listed.1 (back s.space (nodes s.labels n t) (nodes_of_all s.labels (n + size t) ts) all))

    typed_cases : (cs : Cases) (x : Context) (s : Scene) (around : List (List ℕ)) (t : IrType) (n : ℕ) → SameScope x.scope s.locals → AllKeep s.owner s.space (cases_below x cs) → OnceCases around cs → are_built_cases has (may_check has s.sure) cs ≡ true → AreListedCases cs → CasesYield w cs t → Met s.space (nodes_of_cases s.labels n cs) → TypedCases w has s t cs
    typed_cases no_cases x s a t n c h o built listed its all = tt
    typed_cases (more_cases [] e cs) x s a t n c h o built listed its all = typed_cases cs x s a t (n + size e) c (keep-behind s.owner s.space (At x e) (cases_below x cs) h) o.1 built listed.2 its.1 (back s.space (nodes s.labels n e) (nodes_of_cases s.labels (n + size e) cs) all)
    typed_cases (more_cases (key ∷ keys) e cs) x s a t n c h o built listed its all =
        let parts = and_parts (is_built has (may_check has s.sure) e) (are_built_cases has (may_check has s.sure) cs) built in
        (its.0, typed e x x s a n refl c h.0 (keep-front s.owner s.space (below x e) (cases_below x cs) h.1) o.0 parts.0 listed.1 (front s.space (nodes s.labels n e) (nodes_of_cases s.labels (n + size e) cs) all), typed_cases cs x s a t (n + size e) c (keep-behind s.owner s.space (At x e) (cases_below x cs) h) o.1 parts.1 listed.2 its.1 (back s.space (nodes s.labels n e) (nodes_of_cases s.labels (n + size e) cs) all))

one_body : {o : Option Term} {e d : Term} → o ≡ Some e → o ≡ Some d → e ≡ d
one_body e d = cc

pub rules_kept : (w : Classes) (has : Usable) (c : ClassDef) (d : MethodDef) (e : Term) → d.body ≡ Some e → KeepsTreeRules c d → IsTyped w d → is_built_method has (may_check has (sure_locals e)) d e ≡ true → IsListedTree e → IsResult d.result → ((x : List ℕ) (p : ParamDef) → local_of d.params x ≡ Some p → HasValue p.tpe) → KeepsRules w has c.name d e
rules_kept w has c d e is kept judged built listed result values =
    let same : judged.body ≡ e = one_body judged.has_body is in
    let q = and_parts (may_make has (body_boxes d e)) (is_built has (may_check has (sure_locals e)) e) built in
    record {
      typed = typed w has e (outermost d) (outermost d) (scene_of c.name d e) [] 0 refl (record { same = params-same d.params (distinct c d e is kept) }) (keep c d e is kept).0 (keep c d e is kept).1 (body_once c d e is kept) q.1 listed (subst (λ (b : Term). All (MeetsThere w d.namespace) (nodes [] 0 b)) same judged.met);
      yields = subst (λ (b : Term). Yields w b d.result) same judged.yields;
      boxed = q.0;
      result = result;
      values = values;
      once = body_keeps c d e is kept;
    }
