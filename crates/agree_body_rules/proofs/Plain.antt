-- A world whose classes keep the rules on superclasses and on hijacked classes writes no hijacked class, and nothing above `java.lang.Object`.
use Rattle.std.proofs.Common.{◌≡◌, Bool, true, false, List, [], ◌∷◌, ◌++◌, ◌&&◌, Contains, Option, Some, None, refl, sym, subst, inl, inr, if◌then◌else◌}
use Rattle.std.specs.Prelude.{not, is_some}
use Rattle.std.specs.List.{list_any}
use Rattle.std.proofs.lemmas.Bool.{and_parts}
use Rattle.std.proofs.lemmas.List.Elements.{Contains-append_cases}
use Rattle.agree_body_rules.proofs.Lists.{nothing_in, in_front_or_behind, at_front, further_on}
use Rattle.agree_body_rules.proofs.RulesGive.{when_not, neither}
use Rattle.sj_local.specs.ClassRules.{is_empty, is_class, is_interface, is_rightly_hijacked, is_right_number, keeps_superclass, keeps_hijacked}
use Rattle.sj_local.specs.Names.{is_some_name}
use Rattle.sj_names.proofs.Same.{impossible, text-same}
use Rattle.sj_names.specs.WellKnown.{is_object}
use Rattle.sj_trees.specs.declared.classes.ClassDef.{ClassDef}
use Rattle.sj_emit_expr_spec.specs.Ancestors.{listed, written, written_in}
use Rattle.sj_emit_expr_spec.specs.Known.{Name, Classes, is_same, class_of, is_hijacked, object}
use Rattle.sj_emit_expr_spec.specs.Laws.{IsPlain}

-- the class that is found by a name has it
pub class_found : (w : Classes) (n : Name) (c : ClassDef) → class_of w n ≡ Some c → Contains w c × (c.name ≡ n)
class_found [] n c e = impossible (cc)
class_found (d ∷ w) n c e = go (is_same d.name n) refl e (class_found w n c)
  where
    go : (b : Bool) → is_same d.name n ≡ b → (if b then Some d else class_of w n) ≡ Some c → (class_of w n ≡ Some c → Contains w c × (c.name ≡ n)) → Contains (d ∷ w) c × (c.name ≡ n)
    go true i k later = let same : d ≡ c = cc in subst (λ (x : ClassDef). Contains (d ∷ w) x × (x.name ≡ n)) same (at_front d w, text-same d.name n i)
    go false i k later = let found = later k in (further_on d w c found.0, found.1)

-- `java.lang.Object` writes nothing above itself
object_alone : (c : ClassDef) → keeps_superclass c ≡ true → is_object c.name ≡ true → written c ≡ []
object_alone c h i = go c.superclass c.interfaces (subst (λ (b : Bool). (if b then top else others) ≡ true) i h)
  where
    top : Bool
    top = is_class c.kind && not (is_some c.superclass) && is_empty c.interfaces

    others : Bool
    others = if is_interface c.kind then not (is_some c.superclass) else is_some c.superclass

    go : (above : Option Name) (faces : List Name) → (is_class c.kind && not (is_some above) && is_empty faces) ≡ true → listed above ++ faces ≡ []
    go None [] k = refl
    go None (f ∷ fs) k = let p = and_parts (is_class c.kind && true) false k in impossible p.1
    go (Some d) faces k = let p = and_parts (is_class c.kind && false) (is_empty faces) k in impossible (and_parts (is_class c.kind) false p.0).1

none_of : (xs : List Name) (d : Name) → not (list_any is_hijacked xs) ≡ true → Contains xs d → is_hijacked d ≡ false
none_of [] d h i = nothing_in d i
none_of (x ∷ xs) d h i = let apart = neither (is_hijacked x) (list_any is_hijacked xs) h in elim (in_front_or_behind x xs d i) [ inl e ↦ subst (λ (n : Name). is_hijacked n ≡ false) e (when_not (is_hijacked x) apart.0) | inr later ↦ none_of xs d apart.1 later ]

superclass_not : (s : Option Name) (d : Name) → not (is_some_name is_hijacked s) ≡ true → Contains (listed s) d → is_hijacked d ≡ false
superclass_not None d h i = nothing_in d i
superclass_not (Some s) d h i = elim (in_front_or_behind s [] d i) [ inl e ↦ subst (λ (n : Name). is_hijacked n ≡ false) e (when_not (is_hijacked s) h) | inr none ↦ nothing_in d none ]

writes_none : (c : ClassDef) → keeps_hijacked c ≡ true → (d : Name) → Contains (written c) d → is_hijacked d ≡ false
writes_none c h d i =
    let faces = and_parts (is_rightly_hijacked c && is_right_number c && not (is_some_name is_hijacked c.superclass)) (not (list_any is_hijacked c.interfaces)) h in
    let above = and_parts (is_rightly_hijacked c && is_right_number c) (not (is_some_name is_hijacked c.superclass)) faces.0 in
    elim (Contains-append_cases (listed c.superclass) c.interfaces d i) [ inl first ↦ superclass_not c.superclass d above.1 first | inr rest ↦ none_of c.interfaces d faces.1 rest ]

pub plain_world : (w : Classes) → ((c : ClassDef) → Contains w c → keeps_superclass c ≡ true) → ((c : ClassDef) → Contains w c → keeps_hijacked c ≡ true) → IsPlain w
plain_world w above hijacked = record { topped = λ d i. top d (class_of w object) refl i; apart = λ c d i. apart c d (class_of w c) refl i }
  where
    top : (d : Name) (o : Option ClassDef) → class_of w object ≡ o → Contains (written_in o) d → ⊥
    top d None e i = nothing_in d i
    top d (Some c) e i = let found = class_found w object c e in nothing_in d (subst (λ (xs : List Name). Contains xs d) (object_alone c (above c found.0) (subst (λ (n : Name). is_object n ≡ true) (sym found.1) refl)) i)

    apart : (c d : Name) (o : Option ClassDef) → class_of w c ≡ o → Contains (written_in o) d → is_hijacked d ≡ false
    apart c d None e i = nothing_in d i
    apart c d (Some k) e i = writes_none k (hijacked k (class_found w c k e).0) d i
