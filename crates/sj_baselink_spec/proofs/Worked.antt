-- The method entries of a small world.
use Rattle.std.proofs.Common.{◌≡◌, zero, suc, ◌<◌, true, false, List, [], ◌∷◌, Some, None, Contains, slice_get, refl, sym, ap, ◌∙◌, subst, arith, lit<, inl, inr, codes}
use Rattle.std.specs.Prelude.{◌⊎◌}
use Rattle.sj_names.specs.WellKnown.{is_same_text}
use Rattle.sj_names.specs.declared.method_names.Member.{Member}
use Rattle.sj_names.specs.declared.method_names.MethodName.{MethodName}
use Rattle.sj_trees.specs.declared.classes.ClassDef.{ClassDef}
use Rattle.sj_trees.specs.declared.classes.ClassKind.TheVariants.{Class, Interface}
use Rattle.sj_trees.specs.declared.classes.MethodDef.{MethodDef}
use Rattle.sj_trees.specs.declared.types.IrType.TheVariants.{NoType}
use Rattle.sj_reach_spec.specs.Forms.{forms_by}
use Rattle.sj_reach_spec.specs.BodyFormVariants.{Reflective}
use Rattle.proxy_targets.specs.Ancestors.{IsAncestor, IsParent, IsNext, IsOnChain, Way, by_path, is_object, parents, next_on_chain}
use Rattle.proxy_targets.specs.Calls.{IsNamedBy, IsProxyTarget, HasNoneNamed, narrowest}
use Rattle.proxy_targets.specs.Known.{Name, class_of, object}
use Rattle.proxy_targets.specs.Members.{IsMethod, IsMethodOf}
use Rattle.proxy_targets.specs.Paths.{Path, stay, on, IsFirst}
use Rattle.proxy_targets.specs.Resolution.{IsBody, IsBodyAt, HasNoBody, HasNoneOnChain, IsDefault, by_chain, by_ancestors, by_default, begin, up}
use Rattle.proxy_targets.specs.Subtypes.{IsSub, equal}
use Rattle.proxy_targets.specs.FactVariants.{Made, Body, Called}
use Rattle.proxy_targets.specs.MethodEntry.{MethodEntry}
use Rattle.sj_trees.specs.Erase.{nowhere}
use Rattle.proxy_targets.specs.Refusals.{is_before}
use Rattle.proxy_targets.proofs.Searches.{contains_at}
use Rattle.sj_reach_spec.proofs.One.{one_method}
use Rattle.worklist.proofs.Inserted.{nothing_in, only_one}
use Rattle.sj_reach_spec.specs.Rows.{proxy, call_by_proxy}
use Rattle.sj_reach_spec.specs.Rules.{public_member}
use Rattle.sj_reach_spec.proofs.First.{first_of}
use Rattle.sj_reach_spec.proofs.Lacking.{main_is_not_m, not_some, same_some}
use Rattle.sj_baselink_spec.specs.Entries.{IsTarget, IsLive, IsWanted, IsInherited, IsDirect, IsReflective, IsMethodEntry, direct}
use Rattle.sj_baselink_spec.specs.Entries as entries
use Rattle.sj_baselink_spec.specs.Rows.{m, body_of_m, main_method, main_member, world, entry_for_m, calling, CalledIsThere, UncalledIsNot, SuperclassHasIt, InheritedIsNot, OverridingIsThere, DefaultIsThere, ReflectiveIsThere}
use Rattle.sj_baselink_spec.proofs.Owners.{one_owner}

-- names that differ
apart : (a b : Name) → is_same_text a b ≡ false → is_same_text a a ≡ true → a ≡ b → ⊥
apart a b h k e = let t : true ≡ false = sym k ∙ ap (is_same_text a) e ∙ h in let z : ⊥ = cc in z

-- where `m` is run
body_at : (c : Name) (class : ClassDef) → class_of world c ≡ Some class → class.methods ≡ body_of_m ∷ [] → IsBodyAt world m c body_of_m
body_at c class is methods = record { class = class; is_class = is; first = subst (λ (l : List MethodDef). IsFirst (IsBody m) l body_of_m) (sym methods) (first_of (IsBody m) body_of_m [] (record { is_public = record { namespace_is = refl; name_is = refl }; has_body = refl })) }

has_none : (c : Name) (class : ClassDef) → class_of world c ≡ Some class → class.methods ≡ [] → HasNoBody world m c
has_none c class is methods = record { none = λ d b. let e : class ≡ b.class = same_some class b.class (sym is ∙ b.is_class) in not_some d (subst (λ (l : List MethodDef). slice_get l b.first.place ≡ Some d) (sym (ap (λ (k : ClassDef). k.methods) e) ∙ methods) b.first.stands) }

a_runs_a : IsTarget world (codes "A") m (codes "A")
a_runs_a = record { body = body_of_m; resolves = by_chain _ _ (record { passes = begin; body = body_at (codes "A") _ refl refl }) }

b_runs_a : IsTarget world (codes "B") m (codes "A")
b_runs_a = record { body = body_of_m; resolves = by_chain _ _ (record { passes = up (codes "B") (codes "A") begin (has_none (codes "B") _ refl refl) refl; body = body_at (codes "A") _ refl refl }) }

c_runs_c : IsTarget world (codes "C") m (codes "C")
c_runs_c = record { body = body_of_m; resolves = by_chain _ _ (record { passes = begin; body = body_at (codes "C") _ refl refl }) }

-- nothing but itself stands above `java.lang.Object`
above_object : (d : Name) → Path (IsParent world) object d → object ≡ d
above_object d stay = refl
above_object d (on b e path step) = nothing_in e (subst (λ (n : Name). IsParent world n e) (sym (above_object b path)) step)

only_object : (d : Name) → IsAncestor world object d → object ≡ d
only_object d a = go a.way
  where
    go : Way world object d → object ≡ d
    go (by_path path) = above_object d path
    go (is_object e) = sym e

-- the facts of a call
same_called : (a b : Name) (n k : MethodName) → Called a n ≡ Called b k → a ≡ b
same_called a b n k e = cc

only_called : (made called owner receiver : Name) (n : MethodName) → Contains (calling made called owner) (Called receiver n) → called ≡ receiver
only_called made called owner receiver n (zero, l, e) = absurd (let z : ⊥ = cc in z)
only_called made called owner receiver n (suc zero, l, e) = same_called called receiver m n e
only_called made called owner receiver n (suc (suc zero), l, e) = absurd (let z : ⊥ = cc in z)
only_called made called owner receiver n (suc (suc (suc i)), l, e) = let k : suc (suc (suc i)) < 3 = l in absurd (omega arith)

-- a class right below `java.lang.Object` inherits nothing that is called on another class
not_from_object : (made called owner c o : Name) → next_on_chain world c ≡ Some object → (object ≡ called → ⊥) → IsInherited world (calling made called owner) c m o → ⊥
not_from_object made called owner c o next differ h =
    let e : object ≡ h.superclass = same_some object h.superclass (sym next ∙ h.is_next) in
    let r : called ≡ h.wanted.receiver = only_called made called owner h.wanted.receiver m h.wanted.called in
    differ (only_object h.wanted.receiver (subst (λ (n : Name). IsAncestor world n h.wanted.receiver) (sym e) h.wanted.below) ∙ sym r)

made_there : (made called owner : Name) → Contains (calling made called owner) (Made made)
made_there made called owner = (0, lit< tt, refl)

called_there : (made called owner : Name) → Contains (calling made called owner) (Called called m)
called_there made called owner = (1, lit< tt, refl)

needed_there : (made called owner : Name) → Contains (calling made called owner) (Body (public_member owner m))
needed_there made called owner = (2, lit< tt, refl)

pub called_is_there : CalledIsThere
called_is_there = direct (codes "A") (codes "A") m (record {
  live = record { made = codes "A"; is_made = made_there _ _ _; on_chain = stay };
  wanted = record { receiver = codes "A"; called = called_there _ _ _; below = record { known = refl; way = by_path stay } };
  is_target = a_runs_a;
  reached = needed_there _ _ _;
  not_inherited = not_from_object _ _ _ (codes "A") (codes "A") refl (apart object (codes "A") refl refl);
})

pub superclass_has_it : SuperclassHasIt
superclass_has_it = direct (codes "A") (codes "A") m (record {
  live = record { made = codes "B"; is_made = made_there _ _ _; on_chain = on (codes "B") (codes "A") stay refl };
  wanted = record { receiver = codes "A"; called = called_there _ _ _; below = record { known = refl; way = by_path stay } };
  is_target = a_runs_a;
  reached = needed_there _ _ _;
  not_inherited = not_from_object _ _ _ (codes "A") (codes "A") refl (apart object (codes "A") refl refl);
})

pub overriding_is_there : OverridingIsThere
overriding_is_there = direct (codes "C") (codes "C") m (record {
  live = record { made = codes "C"; is_made = made_there _ _ _; on_chain = stay };
  wanted = record { receiver = codes "A"; called = called_there _ _ _; below = record { known = refl; way = by_path (on (codes "C") (codes "A") stay (0, lit< tt, refl)) } };
  is_target = c_runs_c;
  reached = needed_there _ _ _;
  not_inherited = λ h. apart (codes "A") (codes "C") refl refl (one_owner world (codes "A") m (codes "A") (codes "C") a_runs_a (subst (λ (n : Name). IsTarget world n m (codes "C")) (sym (same_some (codes "A") h.superclass h.is_next)) h.is_target));
})

-- no body calls by a reflective name
same_body : (k l : Member) → Body k ≡ Body l → k ≡ l
same_body k l e = cc

no_forms : (c : Name) (class : ClassDef) (k : Member) (d : MethodDef) (p : MethodName) → class_of world c ≡ Some class → class.methods ≡ body_of_m ∷ [] → public_member c m ≡ k → IsMethodOf world k d → Contains (forms_by d) (Reflective p) → ⊥
no_forms c class k d p is methods same of calls =
    let here : IsMethodOf world (public_member c m) body_of_m = record { class = class; is_class = is; first = subst (λ (l : List MethodDef). IsFirst (IsMethod (public_member c m)) l body_of_m) (sym methods) (first_of _ body_of_m [] (record { namespace_is = refl; name_is = refl })) } in
    nothing_in (Reflective p) (subst (λ (e : MethodDef). Contains (forms_by e) (Reflective p)) (one_method world (public_member c m) d body_of_m (subst (λ (j : Member). IsMethodOf world j d) (sym same) of) here) calls)

uncalled_reflective : (p : MethodName) → IsReflective world (Made (codes "A") ∷ Body (public_member (codes "A") m) ∷ []) p → ⊥
uncalled_reflective p r = go r.needed
  where
    go : Contains (Made (codes "A") ∷ Body (public_member (codes "A") m) ∷ []) (Body r.member) → ⊥
    go (zero, l, e) = let z : ⊥ = cc in z
    go (suc zero, l, e) = no_forms (codes "A") _ r.member r.definition p refl refl (same_body _ r.member e) r.defined r.calls
    go (suc (suc i), l, e) = let k : suc (suc i) < 2 = l in absurd (omega arith)

uncalled_wanted : (receiver : Name) (n : MethodName) → Contains (Made (codes "A") ∷ Body (public_member (codes "A") m) ∷ []) (Called receiver n) → ⊥
uncalled_wanted receiver n (zero, l, e) = let z : ⊥ = cc in z
uncalled_wanted receiver n (suc zero, l, e) = let z : ⊥ = cc in z
uncalled_wanted receiver n (suc (suc i), l, e) = let k : suc (suc i) < 2 = l in absurd (omega arith)

pub uncalled_is_not : UncalledIsNot
uncalled_is_not _ (direct c owner n q) = uncalled_wanted q.wanted.receiver n q.wanted.called
uncalled_is_not _ (entries.proxy c p t q) = uncalled_reflective p q.reflective

calling_reflective : (p : MethodName) → IsReflective world (calling (codes "B") (codes "A") (codes "A")) p → ⊥
calling_reflective p r = go r.needed
  where
    go : Contains (calling (codes "B") (codes "A") (codes "A")) (Body r.member) → ⊥
    go (zero, l, e) = let z : ⊥ = cc in z
    go (suc zero, l, e) = let z : ⊥ = cc in z
    go (suc (suc zero), l, e) = no_forms (codes "A") _ r.member r.definition p refl refl (same_body _ r.member e) r.defined r.calls
    go (suc (suc (suc i)), l, e) = let k : suc (suc (suc i)) < 3 = l in absurd (omega arith)

b_inherits : IsInherited world (calling (codes "B") (codes "A") (codes "A")) (codes "B") m (codes "A")
b_inherits = record { superclass = codes "A"; is_next = refl; wanted = record { receiver = codes "A"; called = called_there _ _ _; below = record { known = refl; way = by_path stay } }; is_target = a_runs_a }

no_direct : (c n_owner : Name) (n : MethodName) → c ≡ codes "B" → n ≡ m → n_owner ≡ codes "A" → IsDirect world (calling (codes "B") (codes "A") (codes "A")) c n n_owner → ⊥
no_direct c o n e f g d = d.not_inherited (subst (λ (x : Name). IsInherited world (calling (codes "B") (codes "A") (codes "A")) x n o) (sym e) (subst (λ (x : MethodName). IsInherited world (calling (codes "B") (codes "A") (codes "A")) (codes "B") x o) (sym f) (subst (λ (x : Name). IsInherited world (calling (codes "B") (codes "A") (codes "A")) (codes "B") m x) (sym g) b_inherits)))

no_entry : (e : MethodEntry) → IsMethodEntry world (calling (codes "B") (codes "A") (codes "A")) e → e ≡ entry_for_m (codes "B") (codes "A") → ⊥
no_entry _ (direct c owner n q) same = no_direct c owner n (ap (λ (e : MethodEntry). e.class) same) (ap (λ (e : MethodEntry). e.name) same) (ap (λ (e : MethodEntry). e.target.class) same) q
no_entry _ (entries.proxy c p t q) same = calling_reflective p q.reflective

pub inherited_is_not : InheritedIsNot
inherited_is_not h = no_entry _ h refl

-- `D` has no class with `m` on its chain, and of what stands above it only `I` is an interface with `m`
chain_of_d : (d : Name) → IsOnChain world (codes "D") d → (d ≡ codes "D") ⊎ (d ≡ object)
chain_of_d d stay = inl refl
chain_of_d d (on b e path next) = go (chain_of_d b path)
  where
    go : (b ≡ codes "D") ⊎ (b ≡ object) → (e ≡ codes "D") ⊎ (e ≡ object)
    go (inl k) = let s : Some object ≡ Some e = subst (λ (n : Name). IsNext world n e) k next in inr (sym (same_some object e s))
    go (inr k) = let s : None ≡ Some e = subst (λ (n : Name). IsNext world n e) k next in not_some e s

object_has_none : HasNoBody world m object
object_has_none = record { none = λ d b. none d b (same_some _ b.class b.is_class) }
  where
    none : (d : MethodDef) (b : IsBodyAt world m object d) → record { pos = nowhere; files = [] ∷ []; name = object; kind = Class; superclass = None; interfaces = []; fields = []; methods = main_method ∷ [] } ≡ b.class → ⊥
    none d b e = main_is_not_m call_by_proxy d (only_one main_method d (subst (λ (k : ClassDef). Contains k.methods d) (sym e) (contains_at b.class.methods b.first.place d b.first.stands))) b.first.has.is_public.name_is

none_on_chain_of_d : HasNoneOnChain world (codes "D") m
none_on_chain_of_d = record { none = λ d on_chain. go d (chain_of_d d on_chain) }
  where
    go : (d : Name) → (d ≡ codes "D") ⊎ (d ≡ object) → HasNoBody world m d
    go d (inl e) = subst (λ (n : Name). HasNoBody world m n) (sym e) (has_none (codes "D") _ refl refl)
    go d (inr e) = subst (λ (n : Name). HasNoBody world m n) (sym e) object_has_none

abbrev IsAboveD : Name → Type 0
IsAboveD d = (d ≡ codes "D") ⊎ ((d ≡ object) ⊎ (d ≡ codes "I"))

path_from_d : (d : Name) → Path (IsParent world) (codes "D") d → IsAboveD d
path_from_d d stay = inl refl
path_from_d d (on b e path step) = go (path_from_d b path)
  where
    parent_of_d : Contains (object ∷ codes "I" ∷ []) e → IsAboveD e
    parent_of_d (zero, l, k) = inr (inl (sym k))
    parent_of_d (suc zero, l, k) = inr (inr (sym k))
    parent_of_d (suc (suc i), l, k) = let n : suc (suc i) < 2 = l in absurd (omega arith)

    go : IsAboveD b → IsAboveD e
    go (inl k) = parent_of_d (subst (λ (n : Name). Contains (parents world n) e) k step)
    go (inr (inl k)) = nothing_in e (subst (λ (n : Name). Contains (parents world n) e) k step)
    go (inr (inr k)) = nothing_in e (subst (λ (n : Name). Contains (parents world n) e) k step)

above_d : (d : Name) → IsAncestor world (codes "D") d → IsAboveD d
above_d d a = go a.way
  where
    go : Way world (codes "D") d → IsAboveD d
    go (by_path path) = path_from_d d path
    go (is_object e) = inr (inl e)

no_interface : (k : ClassDef) (class : ClassDef) → Some k ≡ Some class → k.kind ≡ Class → class.kind ≡ Interface → ⊥
no_interface k class s is other = let e : Class ≡ Interface = sym is ∙ ap (λ (x : ClassDef). x.kind) (same_some k class s) ∙ other in let z : ⊥ = cc in z

only_i : (d : Name) (e : MethodDef) → IsAboveD d → IsDefault world m d e → d ≡ codes "I"
only_i d e (inl k) h = absurd (no_interface _ h.class (subst (λ (n : Name). class_of world n ≡ Some h.class) k h.is_class) refl h.is_interface)
only_i d e (inr (inl k)) h = absurd (no_interface _ h.class (subst (λ (n : Name). class_of world n ≡ Some h.class) k h.is_class) refl h.is_interface)
only_i d e (inr (inr k)) h = k

default_of_i : IsDefault world m (codes "I") body_of_m
default_of_i = record { class = _; is_class = refl; is_interface = refl; first = first_of _ body_of_m [] (record { is_public = record { namespace_is = refl; name_is = refl }; has_body = refl }) }

i_above_d : IsAncestor world (codes "D") (codes "I")
i_above_d = record { known = refl; way = by_path (on (codes "D") (codes "I") stay (1, lit< tt, refl)) }

d_runs_i : IsTarget world (codes "D") m (codes "I")
d_runs_i = record {
  body = body_of_m;
  resolves = by_ancestors _ none_on_chain_of_d (by_default _ _ (record {
    candidate = record { above = i_above_d; default = default_of_i; not_overridden = λ h. h.override.apart (only_i h.other h.override.method (above_d h.other h.above) h.override.is_default) };
    least = λ other e h. subst (λ (n : Name). is_before n (codes "I") ≡ false) (sym (only_i other e (above_d other h.above) h.default)) refl;
  }));
}

pub default_is_there : DefaultIsThere
default_is_there = direct (codes "D") (codes "I") m (record {
  live = record { made = codes "D"; is_made = made_there _ _ _; on_chain = stay };
  wanted = record { receiver = codes "I"; called = called_there _ _ _; below = i_above_d };
  is_target = d_runs_i;
  reached = needed_there _ _ _;
  not_inherited = not_from_object _ _ _ (codes "D") (codes "I") refl (apart object (codes "I") refl refl);
})

-- the reflective call of `m` on a `B` reaches the `m` of `A`
b_has_none_named : HasNoneNamed world proxy (codes "B")
b_has_none_named = record { none = λ class is. record { none = λ i d at. not_some d (subst (λ (k : ClassDef). slice_get k.methods i ≡ Some d) (sym (same_some _ class is)) at) } }

narrow : (other : MethodDef) → Contains (body_of_m ∷ []) other → IsNamedBy proxy other → IsSub world NoType other.result
narrow other h named = subst (λ (d : MethodDef). IsSub world NoType d.result) (only_one body_of_m other h) (equal refl)

proxy_of_b : IsProxyTarget world (codes "B") proxy body_of_m (codes "A")
proxy_of_b = record {
  passes = up (codes "B") (codes "A") begin b_has_none_named refl;
  chosen = record { class = _; is_class = refl; chosen = narrowest (record { among = (0, lit< tt, refl); named = record { namespace_is = refl; simple_is = refl; params_are = refl }; narrow = record { below = narrow } }) };
}

pub reflective_is_there : ReflectiveIsThere
reflective_is_there = entries.proxy (codes "B") proxy m (record {
  is_made = (0, lit< tt, refl);
  reflective = record { member = main_member; needed = (1, lit< tt, refl); definition = main_method; defined = record { class = _; is_class = refl; first = first_of _ main_method [] (record { namespace_is = refl; name_is = refl }) }; calls = (0, lit< tt, refl) };
  is_target = record { definition = body_of_m; owner = codes "A"; is_target = proxy_of_b; name_is = refl };
})
