-- The method that is found for a member stands in a class of that name, and has the member's own name.
use Rattle.std.proofs.Common.{◌≡◌, ℕ, Bool, true, false, List, [], ◌∷◌, ◌&&◌, Option, Some, None, refl, ap, subst, ◌∙◌, Contains, if◌then◌else◌}
use Rattle.std.proofs.lemmas.List.Elements.{Contains-append_left, Contains-append_right, Contains-push}
use Rattle.sj_names.specs.Same.{is_same_text, is_same_namespace, is_same_method}
use Rattle.sj_agree.specs.World.{World, class_of, method_among, method_in, member_of}
use Rattle.sj_names.specs.declared.method_names.Member.{Member}
use Rattle.sj_names.specs.declared.method_names.MethodName.{MethodName}
use Rattle.sj_names.specs.declared.method_names.Namespace.{Namespace}
use Rattle.sj_trees.specs.declared.classes.ClassDef.{ClassDef}
use Rattle.sj_trees.specs.declared.classes.MethodDef.{MethodDef}
use Rattle.agree_programs.proofs.Equal.{is-equal}
use Rattle.agree_programs.proofs.Same.{member-same}

pub record OwnerOf (w : World) (m : Member) (d : MethodDef) : Type 0 where
  pub owner : ClassDef
  pub in_world : Contains w owner
  pub class_is : m.class ≡ owner.name
  pub listed : Contains owner.methods d
  pub named : m.method ≡ d.name

pub here : {X : Type 0} (x : X) (xs : List X) → Contains (x ∷ xs) x
here x xs = Contains-append_left (x ∷ []) xs x (Contains-push [] x)

pub there : {X : Type 0} (y : X) (xs : List X) (x : X) → Contains xs x → Contains (y ∷ xs) x
there y xs x h = Contains-append_right (y ∷ []) xs x h

abbrev in_namespace : Namespace → MethodName → Member
in_namespace n m = record { class = []; namespace = n; method = m }

method_found : (ds : List MethodDef) (n : Namespace) (m : MethodName) (d : MethodDef) → method_among ds n m ≡ Some d → Contains ds d × (m ≡ d.name)
method_found [] n m d e = absurd cc
method_found (x ∷ xs) n m d e = go (is_same_namespace n x.namespace && is_same_method m x.name) refl e (λ k. method_found xs n m d k)
  where
    go : (b : Bool) → (is_same_namespace n x.namespace && is_same_method m x.name) ≡ b → (if b then Some x else method_among xs n m) ≡ Some d → (method_among xs n m ≡ Some d → Contains xs d × (m ≡ d.name)) → Contains (x ∷ xs) d × (m ≡ d.name)
    go true k f later = let same : x ≡ d = cc in (subst (λ (z : MethodDef). Contains (x ∷ xs) z) same (here x xs), ap (λ (z : Member). z.method) (member-same (in_namespace n m) (in_namespace x.namespace x.name) k) ∙ ap (λ (z : MethodDef). z.name) same)
    go false k f later = let found = later f in (there x xs d found.0, found.1)

class_found : (w : World) (name : List ℕ) (c : ClassDef) → class_of w name ≡ Some c → Contains w c × (name ≡ c.name)
class_found [] name c e = absurd cc
class_found (x ∷ xs) name c e = go (is_same_text name x.name) refl e (λ k. class_found xs name c k)
  where
    go : (b : Bool) → is_same_text name x.name ≡ b → (if b then Some x else class_of xs name) ≡ Some c → (class_of xs name ≡ Some c → Contains xs c × (name ≡ c.name)) → Contains (x ∷ xs) c × (name ≡ c.name)
    go true k f later = let same : x ≡ c = cc in (subst (λ (z : ClassDef). Contains (x ∷ xs) z) same (here x xs), is-equal name x.name k ∙ ap (λ (z : ClassDef). z.name) same)
    go false k f later = let found = later f in (there x xs c found.0, found.1)

pub owner_of : (w : World) (m : Member) (d : MethodDef) → member_of w m.class m.namespace m.method ≡ Some d → OwnerOf w m d
owner_of w m d e = go (class_of w m.class) refl e
  where
    go : (o : Option ClassDef) → class_of w m.class ≡ o → method_in o m.namespace m.method ≡ Some d → OwnerOf w m d
    go None k f = absurd cc
    go (Some c) k f = let class = class_found w m.class c k in let method = method_found c.methods m.namespace m.method d f in record { owner = c; in_world = class.0; class_is = class.1; listed = method.0; named = method.1 }
