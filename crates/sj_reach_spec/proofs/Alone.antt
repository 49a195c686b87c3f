-- A member of a class that isn't there isn't told.
use Rattle.std.proofs.Common.{◌≡◌, [], Some, refl, ap, subst, codes}
use Rattle.sj_names.specs.declared.method_names.Member.{Member}
use Rattle.sj_names.specs.declared.method_names.MethodName.{MethodName}
use Rattle.sj_names.specs.declared.method_names.Namespace.TheVariants.{Public, PublicStatic}
use Rattle.sj_trees.specs.declared.classes.ClassDef.{ClassDef}
use Rattle.sj_ask.specs.Known.{Name, Classes, class_of}
use Rattle.sj_reach_spec.specs.Reachable.{Unresolved}
use Rattle.sj_reach_spec.specs.Refusals.{Refusal, missing_method, no_class, no_member, no_body, no_field, no_class_above, no_interface_above, no_class_made, no_module, no_exception, no_target, no_target_body, no_method, no_hijacked_body, no_dispatched_body, no_dispatched_method, no_reflective_body}
use Rattle.sj_reach_spec.specs.Rows.{folder, static_call, main_entries, gone, IsToldByItsClassAlone}
use Rattle.sj_reach_spec.specs.Rules.{public_member}

abbrev w : Classes
w = folder (static_call (codes "Gone") (codes "go")) []

not_there : (c : ClassDef) → class_of w gone.class ≡ Some c → ⊥
not_there c e = cc

not_public : (c : Name) (m : MethodName) → missing_method (public_member c m) ≡ missing_method gone → ⊥
not_public c m q = let k : public_member c m ≡ gone = cc in let n : Public ≡ PublicStatic = ap (λ (x : Member). x.namespace) k in cc

told : (r : Refusal) → Unresolved w main_entries r → r ≡ missing_method gone → ⊥
told _ (no_class c h e) q = cc
told _ (no_member k a u) q = let s : k ≡ gone = cc in not_there u.class (subst (λ (x : Member). class_of w x.class ≡ Some u.class) s u.is_class)
told _ (no_body k a b) q = cc
told _ (no_field c f s r l) q = cc
told _ (no_class_above c d k p e s o) q = cc
told _ (no_interface_above c d k p e s o) q = cc
told _ (no_class_made c m r o) q = cc
told _ (no_module c r o) q = cc
told _ (no_exception c r o) q = cc
told _ (no_target c m r p s) q = not_public c m q
told _ (no_target_body c m r p s) q = cc
told _ (no_method c m r p s) q = not_public c m q
told _ (no_hijacked_body c m r p h s) q = cc
told _ (no_dispatched_body c m o s) q = cc
told _ (no_dispatched_method c m o s) q = cc
told _ (no_reflective_body c p d o r h t s) q = cc

pub told_alone : IsToldByItsClassAlone
told_alone h = told (missing_method gone) h refl
