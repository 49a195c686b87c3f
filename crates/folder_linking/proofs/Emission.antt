-- What the emission of a body gives, and that its targets have names of bytes.
use Rattle.std.proofs.Common.{◌≡◌, Bool, true, false, List, [], ◌∷◌, Option, Some, None, Result, Ok, Err, IfOk, All, filter, refl, subst, if◌then◌else◌}
use Rattle.std.proofs.lemmas.List.Elements.{All-head, All-tail}
use Rattle.dispatch_laws.proofs.Emission.{emission_finds_targets}
use Rattle.dispatch_laws.specs.Targets.{at_owner, target_from, lookup_in}
use Rattle.sj_emit_expr_questions.specs.Laws.{AsEmitted}
use Rattle.sj_emit_expr_questions.specs.Task.{emitted, emitted_view}
use Rattle.ir_mean.specs.Dispatch.{Found, body_at, first_of, methods_in, is_body, or_found, nearest, or_default, default_of, least_class, candidates, chain_of, resolved}
use Rattle.js_tree.specs.declared.items.JsMember.{JsMember}
use Rattle.sj_ask.specs.Answers.{IsAnswer}
use Rattle.sj_ask.specs.Stands.{Stand}
use Rattle.sj_ask.specs.Told.{Told}
use Rattle.sj_core.specs.Terms.{Method}
use Rattle.sj_names.specs.declared.memory.NoMemory.{NoMemory}
use Rattle.sj_names.specs.declared.method_names.Member.{Member}
use Rattle.sj_names.specs.declared.method_names.MethodName.{MethodName}
use Rattle.sj_names.specs.declared.method_names.Namespace.{Namespace}
use Rattle.sj_names.specs.declared.method_names.Namespace.TheVariants.{Public}
use Rattle.sj_emit_expr_pieces.specs.Fits.{TargetsFit}
use Rattle.sj_emit_expr_pieces.specs.Ranges.{AreBytes, FitsMember}
use Rattle.sj_trees.specs.declared.classes.ClassDef.{ClassDef}
use Rattle.sj_trees.specs.declared.classes.MethodDef.{MethodDef}
use Rattle.sj_world.proofs.Orders.{same_name}
use Rattle.sj_world.specs.Known.{Name, Classes, class_of, is_same, names_of}
use Rattle.sj_world.specs.Refusals.{IsInOrder}

-- emission by the answers of a world gives the function whose calls run the targets of the world
found_there : (s : Stand) → IsInOrder s.classes → (m : Method) (r : Result JsMember NoMemory) (before after : Told) → AsEmitted (IsAnswer s) m r before after → IfOk r (λ e. emitted_view e ≡ emitted (lookup_in s.classes) m)
found_there s sorted m (Ok e) before after ran = emission_finds_targets s sorted m (emitted_view e) ran.log ran.comes
found_there s sorted m (Err e) before after ran = tt

pub function_found : (s t : Stand) → s ≡ t → IsInOrder t.classes → (m : Method) (r : Result JsMember NoMemory) (before after : Told) → AsEmitted (IsAnswer s) m r before after → IfOk r (λ e. emitted_view e ≡ emitted (lookup_in t.classes) m)
function_found s t same sorted m r before after ran = found_there t sorted m r before after (subst (λ (o : Stand). AsEmitted (IsAnswer o) m r before after) same ran)

-- a name under which a class is found is one of the names of the classes
found_fits : (w : Classes) (c : Name) (class : ClassDef) → class_of w c ≡ Some class → All AreBytes (names_of w) → AreBytes c
found_fits [] c class e h = absurd (cc)
found_fits (k ∷ w) c class e h = go (is_same k.name c) refl e (λ found. found_fits w c class found (All-tail AreBytes k.name (names_of w) h))
  where
    go : (b : Bool) → is_same k.name c ≡ b → (if b then Some k else class_of w c) ≡ Some class → (class_of w c ≡ Some class → AreBytes c) → AreBytes c
    go true same found later = subst AreBytes (same_name k.name c same) (All-head AreBytes k.name (names_of w) h)
    go false other found later = later found

module _ (w : Classes) (names : All AreBytes (names_of w)) (m : MethodName) where
  -- a class that has a body is one of the world
  owner_fits : (c : Name) (d : MethodDef) → body_at w m c ≡ Some d → AreBytes c
  owner_fits c d e = go (class_of w c) refl e
    where
      go : (o : Option ClassDef) → class_of w c ≡ o → first_of (filter (is_body m) (methods_in o)) ≡ Some d → AreBytes c
      go None none found = absurd (cc)
      go (Some class) is found = found_fits w c class is names

  abbrev Fit : Option Found → Type 0
  Fit None = Unit {0}
  Fit (Some f) = AreBytes f.owner

  here_or : (c : Name) (other : Option Found) → Fit other → Fit (or_found (body_at w m c) c other)
  here_or c other fits = go (body_at w m c) refl
    where
      go : (o : Option MethodDef) → body_at w m c ≡ o → Fit (or_found o c other)
      go None e = fits
      go (Some d) e = owner_fits c d e

  nearest_fits : (cs : List Name) → Fit (nearest w m cs)
  nearest_fits [] = tt
  nearest_fits (c ∷ cs) = here_or c (nearest w m cs) (nearest_fits cs)

  default_fits : (o : Option ClassDef) → Fit (default_of w m o)
  default_fits None = tt
  default_fits (Some k) = here_or k.name None tt

  resolved_fits : (c : Name) → Fit (resolved w c m)
  resolved_fits c = go (nearest w m (chain_of w c)) (nearest_fits (chain_of w c))
    where
      go : (o : Option Found) → Fit o → Fit (or_default w m c o)
      go (Some f) fits = fits
      go None fits = default_fits (least_class (candidates w m c))

-- the target of a member whose names are texts of bytes has such names, where those of the classes are
target_fits : (w : Classes) → All AreBytes (names_of w) → (n : Namespace) (k : Member) → FitsMember k → FitsMember (target_from w n k)
target_fits w names Public k fits = go (resolved w k.class k.method) (resolved_fits w names k.method k.class)
  where
    go : (o : Option Found) → Fit w names k.method o → FitsMember (at_owner k o)
    go None f = fits
    go (Some f) owner = (owner, fits.1)
target_fits w names _ k fits = fits

pub targets_fit : (w : Classes) → All AreBytes (names_of w) → (m : Method) → TargetsFit (lookup_in w) m
targets_fit w names m = λ k called fits. target_fits w names k.namespace k fits
