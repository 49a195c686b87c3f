-- A public member that a class has with a body is the target of a call in the class.
use Rattle.std.proofs.Common.{◌≡◌, ℕ, suc, ◌+◌, Bool, true, false, ◌&&◌, List, [], ◌∷◌, length, Option, Some, None, refl, sym, ap, ◌∙◌, subst, if◌then◌else◌, arith}
use Rattle.std.specs.Prelude.{filter, is_some}
use Rattle.ir_mean.specs.Dispatch.{chain_from, longest, Found, is_body, first_of, methods_in, body_at, or_found, nearest, or_default}
use Rattle.ir_mean.specs.Meaning.{method_found, target_in, static_target}
use Rattle.ir_mean.specs.World as world
use Rattle.ir_mean.specs.World.{World, member_of, method_among, method_in}
use Rattle.sj_names.proofs.Same.{impossible, text-same, text-refl}
use Rattle.sj_names.specs.Same.{is_same_text, is_same_method, is_same_namespace}
use Rattle.sj_names.specs.declared.method_names.MethodName.{MethodName}
use Rattle.sj_names.specs.declared.method_names.Namespace.{Namespace}
use Rattle.sj_names.specs.declared.method_names.Namespace.TheVariants.{Public, PublicStatic, Private, PrivateStatic, Constructor}
use Rattle.sj_trees.specs.Term.{Term}
use Rattle.sj_trees.specs.declared.classes.ClassDef.{ClassDef}
use Rattle.sj_trees.specs.declared.classes.MethodDef.{MethodDef}
use Rattle.sj_world.specs.Ancestors.{next_on_chain}
use Rattle.sj_world.specs.Known.{Name, Classes, class_of}

turned : (a b : List ℕ) → is_same_text a b ≡ is_same_text b a
turned a b = go (is_same_text a b) (is_same_text b a) refl refl
  where
    go : (p q : Bool) → is_same_text a b ≡ p → is_same_text b a ≡ q → p ≡ q
    go true true f g = refl
    go false false f g = refl
    go true false f g = impossible (sym g ∙ subst (λ (x : List ℕ). is_same_text b x ≡ true) (sym (text-same a b f)) (text-refl b))
    go false true f g = impossible (sym f ∙ subst (λ (x : List ℕ). is_same_text a x ≡ true) (sym (text-same b a g)) (text-refl a))

-- a class is found by the same name on both ways
pub class-same : (w : Classes) (name : Name) → world.class_of w name ≡ class_of w name
class-same [] name = refl
class-same (c ∷ w) name = ap (λ (b : Bool). if b then Some c else world.class_of w name) (turned name c.name) ∙ ap (λ (o : Option ClassDef). if is_same_text c.name name then Some c else o) (class-same w name)

public_turned : (n : Namespace) → is_same_namespace n Public ≡ is_same_namespace Public n
public_turned Public = refl
public_turned PublicStatic = refl
public_turned Private = refl
public_turned PrivateStatic = refl
public_turned Constructor = refl

-- the first method of the name has a body: then it is the first body of the name
first_body : (ds : List MethodDef) (m : MethodName) (d : MethodDef) (e : Term) → d.body ≡ Some e → method_among ds Public m ≡ Some d → first_of (filter (is_body m) ds) ≡ Some d
first_body [] m d e has found = impossible (cc)
first_body (x ∷ xs) m d e has found = go (is_same_namespace Public x.namespace && is_same_method m x.name) refl found (first_body xs m d e has)
  where
    is_it : is_body m x ≡ ((is_same_namespace Public x.namespace && is_same_method m x.name) && is_some x.body)
    is_it = ap (λ (b : Bool). b && is_same_method m x.name && is_some x.body) (public_turned x.namespace)

    here : (b : Bool) → is_body m x ≡ b → first_of (filter (is_body m) (x ∷ xs)) ≡ first_of (if b then (x ∷ filter (is_body m) xs) else filter (is_body m) xs)
    here b i = ap (λ (q : Bool). first_of (if q then (x ∷ filter (is_body m) xs) else filter (is_body m) xs)) i

    go : (b : Bool) → (is_same_namespace Public x.namespace && is_same_method m x.name) ≡ b → (if b then Some x else method_among xs Public m) ≡ Some d → (method_among xs Public m ≡ Some d → first_of (filter (is_body m) xs) ≡ Some d) → first_of (filter (is_body m) (x ∷ xs)) ≡ Some d
    go true i f later = let same : x ≡ d = cc in here true (is_it ∙ ap (λ (b : Bool). b && is_some x.body) i ∙ ap (λ (z : MethodDef). is_some z.body) same ∙ ap is_some has) ∙ f
    go false i f later = here false (is_it ∙ ap (λ (b : Bool). b && is_some x.body) i) ∙ later f

in_class : (o : Option ClassDef) (m : MethodName) (d : MethodDef) (e : Term) → d.body ≡ Some e → method_in o Public m ≡ Some d → first_of (filter (is_body m) (methods_in o)) ≡ Some d
in_class None m d e has found = impossible (cc)
in_class (Some c) m d e has found = first_body c.methods m d e has found

body_there : (w : Classes) (c : Name) (m : MethodName) (d : MethodDef) (e : Term) → d.body ≡ Some e → member_of w c Public m ≡ Some d → body_at w m c ≡ Some d
body_there w c m d e has found = in_class (class_of w c) m d e has (subst (λ (o : Option ClassDef). method_in o Public m ≡ Some d) (class-same w c) found)

-- a chain begins with its class
begins : (w : Classes) (c : Name) (m : MethodName) (d : MethodDef) (n : ℕ) → body_at w m c ≡ Some d → nearest w m (chain_from w (suc n) [] c) ≡ Some (record { owner = c; method = d })
begins w c m d n e = ap (λ (o : Option MethodDef). or_found o c (nearest w m (elim (next_on_chain w c) as (λ o. List Name) [ None ↦ [] | Some b ↦ chain_from w n (c ∷ []) b ]))) e

public_target : (w : Classes) (c : Name) (m : MethodName) (d : MethodDef) → body_at w m c ≡ Some d → target_in w (Some c) m ≡ Some d
public_target w c m d e = ap (λ (o : Option Found). method_found (or_default w m c o)) (ap (λ (n : ℕ). nearest w m (chain_from w n [] c)) long ∙ begins w c m d (length w + 9) e)
  where
    long : longest w ≡ suc (length w + 9)
    long = omega arith

-- a member that a class has with a body is what a call in the class names
pub target_found : (w : World) (c : Name) (n : Namespace) (m : MethodName) (d : MethodDef) (e : Term) → d.body ≡ Some e → member_of w c n m ≡ Some d → static_target w c n m ≡ Some d
target_found w c Public m d e has found = public_target w c m d (body_there w c m d e has found)
target_found w c PublicStatic m d e has found = found
target_found w c Private m d e has found = found
target_found w c PrivateStatic m d e has found = found
target_found w c Constructor m d e has found = found
