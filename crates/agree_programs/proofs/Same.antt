-- Members that are told to be the same are.
use Rattle.std.proofs.Common.{◌≡◌, Bool, true, false, List, [], ◌∷◌, ◌&&◌, ◌||◌, refl, sym}
use Rattle.std.proofs.lemmas.Bool.{and_parts}
use Rattle.std.proofs.lemmas.List.Elements.{Contains-append_left, Contains-append_right, Contains-push}
use Rattle.sj_names.specs.Same.{is_same_text, is_same_method, is_same_namespace}
use Rattle.sj_names.specs.declared.method_names.Member.{Member}
use Rattle.sj_names.proofs.Same.{impossible, text-same, method-same, namespace-same}
use Rattle.agree_soundness.specs.EmittedMethods.{EmittedMethod, HasFunction}
use Rattle.agree_programs.specs.Linked.{is_same_member, has_function}

pub member-same : (m k : Member) → is_same_member m k ≡ true → m ≡ k
member-same m k h =
    let p = and_parts (is_same_text m.class k.class && is_same_namespace m.namespace k.namespace) (is_same_method m.method k.method) h in
    let q = and_parts (is_same_text m.class k.class) (is_same_namespace m.namespace k.namespace) p.0 in
    let e = text-same m.class k.class q.0 in
    let f = namespace-same m.namespace k.namespace q.1 in
    let g = method-same m.method k.method p.1 in
    λ i. record { class = e i; namespace = f i; method = g i }

behind : (g : EmittedMethod) (gs : List EmittedMethod) (m : Member) → HasFunction gs m → HasFunction (g ∷ gs) m
behind g gs m h = record { method = h.method; listed = Contains-append_right (g ∷ []) gs h.method h.listed; is = h.is }

-- a member that has one of the functions
pub has_function-is : (fs : List EmittedMethod) (m : Member) → has_function fs m ≡ true → HasFunction fs m
has_function-is [] m h = impossible h
has_function-is (g ∷ gs) m h = go (is_same_member m g.member) refl h (has_function-is gs m)
  where
    go : (b : Bool) → is_same_member m g.member ≡ b → (b || has_function gs m) ≡ true → (has_function gs m ≡ true → HasFunction gs m) → HasFunction (g ∷ gs) m
    go true e k later = record { method = g; listed = Contains-append_left (g ∷ []) gs g (Contains-push [] g); is = sym (member-same m g.member e) }
    go false e k later = behind g gs m (later k)
