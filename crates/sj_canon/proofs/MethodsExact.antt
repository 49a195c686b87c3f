-- The law of canonical bytes.
use Rattle.std.proofs.Common.{◌≡◌, ℕ, List, [], ◌∷◌, ◌++◌, Option, Some, None, refl, ap, option_map, Bool}
use Rattle.sj_names.specs.declared.method_names.MethodName.{MethodName}
use Rattle.sj_names.specs.declared.method_names.Namespace.{Namespace}
use Rattle.sj_trees.specs.Term.{Term}
use Rattle.sj_trees.specs.Erase.{nowhere, erase}
use Rattle.sj_trees.specs.declared.types.IrType.{IrType}
use Rattle.sj_trees.specs.declared.classes.ParamDef.{ParamDef}
use Rattle.sj_trees.specs.declared.classes.MethodDef.{MethodDef}
use Rattle.tree_sameness.specs.Apart.{method_apart}
use Rattle.sj_canon.specs.Numbers.{mark_byte, text_bytes, list_bytes, option_bytes}
use Rattle.sj_canon.specs.Names.{type_bytes, method_name_bytes, namespace_byte}
use Rattle.sj_canon.specs.Terms.{term_bytes}
use Rattle.sj_canon.specs.Methods.{param_bytes, canonical, CanonicalBytesDecide}
use Rattle.sj_canon.proofs.Exact.{Shows, IsExact, both, two, of_part, seen_as, text_exact, list_exact, option_shows}
use Rattle.sj_canon.proofs.NamesExact.{type_exact, method_name_exact, namespace_shows}
use Rattle.sj_canon.proofs.OwnExact.{mark_shows}
use Rattle.sj_canon.proofs.TermsExact.{term_shows, written_alike}

param_with : (Bool × List ℕ) × IrType → ParamDef
param_with p = record { name = p.0.1; mutable = p.0.0; tpe = p.1 }

param_is : (p : ParamDef) → param_with ((p.mutable, p.name), p.tpe) ≡ p
unfolding param_with
param_is p = refl

param_exact : IsExact param_bytes
unfolding param_bytes
param_exact = seen_as (λ (p : ParamDef). two (two p.mutable p.name) p.tpe) (λ p. p) param_with param_bytes param_is
    (both (λ (p : ParamDef). two p.mutable p.name) (λ (p : ParamDef). p.tpe) (λ (p : ParamDef). mark_byte p.mutable ∷ text_bytes p.name) (λ (p : ParamDef). type_bytes p.tpe)
    (both (λ (p : ParamDef). p.mutable) (λ (p : ParamDef). p.name) (λ (p : ParamDef). mark_byte p.mutable ∷ []) (λ (p : ParamDef). text_bytes p.name) (of_part (λ (p : ParamDef). p.mutable) (λ m. m) (λ (m : Bool). mark_byte m ∷ []) mark_shows) (of_part (λ (p : ParamDef). p.name) (λ t. t) text_bytes text_exact))
    (of_part (λ (p : ParamDef). p.tpe) (λ t. t) type_bytes type_exact))

apart_with : (((Namespace × MethodName) × List ParamDef) × IrType) × Option Term → MethodDef
apart_with v = record { pos = nowhere; namespace = v.0.0.0.0; name = v.0.0.0.1; params = v.0.0.1; result = v.0.1; body = v.1; hash = None }

apart_is : (m : MethodDef) → apart_with ((((m.namespace, m.name), m.params), m.result), option_map erase m.body) ≡ method_apart m
unfolding apart_with
apart_is m = refl

canonical_shows : Shows method_apart canonical
unfolding canonical
canonical_shows = seen_as (λ (m : MethodDef). two (two (two (two m.namespace m.name) m.params) m.result) (option_map erase m.body)) method_apart apart_with canonical apart_is
    (both (λ (m : MethodDef). two (two (two m.namespace m.name) m.params) m.result) (λ (m : MethodDef). option_map erase m.body) (λ (m : MethodDef). namespace_byte m.namespace ∷ method_name_bytes m.name ++ list_bytes param_bytes m.params ++ type_bytes m.result) (λ (m : MethodDef). option_bytes term_bytes m.body)
    (both (λ (m : MethodDef). two (two m.namespace m.name) m.params) (λ (m : MethodDef). m.result) (λ (m : MethodDef). namespace_byte m.namespace ∷ method_name_bytes m.name ++ list_bytes param_bytes m.params) (λ (m : MethodDef). type_bytes m.result)
    (both (λ (m : MethodDef). two m.namespace m.name) (λ (m : MethodDef). m.params) (λ (m : MethodDef). namespace_byte m.namespace ∷ method_name_bytes m.name) (λ (m : MethodDef). list_bytes param_bytes m.params)
    (both (λ (m : MethodDef). m.namespace) (λ (m : MethodDef). m.name) (λ (m : MethodDef). namespace_byte m.namespace ∷ []) (λ (m : MethodDef). method_name_bytes m.name) (of_part (λ (m : MethodDef). m.namespace) (λ n. n) (λ (n : Namespace). namespace_byte n ∷ []) namespace_shows) (of_part (λ (m : MethodDef). m.name) (λ n. n) method_name_bytes method_name_exact))
    (of_part (λ (m : MethodDef). m.params) (λ p. p) (list_bytes param_bytes) (list_exact param_bytes param_exact)))
    (of_part (λ (m : MethodDef). m.result) (λ t. t) type_bytes type_exact))
    (of_part (λ (m : MethodDef). m.body) (option_map erase) (option_bytes term_bytes) (option_shows erase term_bytes term_shows)))

body_alike : (b c : Option Term) → option_map erase b ≡ option_map erase c → option_bytes term_bytes b ≡ option_bytes term_bytes c
body_alike None None e = refl
body_alike None (Some u) e = cc
body_alike (Some t) None e = cc
body_alike (Some t) (Some u) e = let same : erase t ≡ erase u = cc in ap (λ (x : List ℕ). 1 ∷ x) (written_alike t u same)

canonical_alike : (m d : MethodDef) → method_apart m ≡ method_apart d → canonical m ≡ canonical d
unfolding canonical
canonical_alike m d e =
    let body = body_alike m.body d.body (ap (λ (x : MethodDef). x.body) e) in
    λ i. namespace_byte (e i).namespace ∷ method_name_bytes (e i).name ++ list_bytes param_bytes (e i).params ++ type_bytes (e i).result ++ body i

pub canonical_bytes : CanonicalBytesDecide
canonical_bytes = record { same = λ m d. (λ e. (canonical_shows.same m d [] [] (ap (λ (x : List ℕ). x ++ []) e)).0, canonical_alike m d) }
