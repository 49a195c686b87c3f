-- A class breaks none of the local rules, by computation.
use Rattle.std.proofs.Common.{◌≡◌, ℕ, suc, Bool, true, false, List, [], ◌∷◌, ◌++◌, ◌&&◌, ◌||◌, not, None, map, length, refl, sym, ap, ◌∙◌, subst, ⊎_elim, Contains}
use Rattle.std.specs.Prelude.{option_map}
use Rattle.std.specs.List.{list_any, list_all}
use Rattle.std.proofs.lemmas.Bool.{and_parts}
use Rattle.sj_names.specs.Same.{is_same_text}
use Rattle.agree_body_rules.proofs.Equal.{equals}
use Rattle.agree_body_rules.proofs.Lists.{nothing_in, in_front_or_behind}
use Rattle.sj_names.proofs.Same.{impossible}
use Rattle.sj_local.specs.Broken.{at_member, unless, method_place, constructors_place, TreeBreaks, FirstTree, Breaks, FirstBroken, all_rules}
use Rattle.sj_local.specs.ClassRules.{keeps_superclass, keeps_hijacked}
use Rattle.sj_local.specs.Firsts.{first_where, FirstRepeat, nothing_left, later, FirstAnswer, none_left, a_later_one}
use Rattle.sj_local.specs.MemberRules.{field_key, method_key, breaks_field}
use Rattle.sj_local.specs.TreeRules.{breaks, declared_in}
use Rattle.sj_local.specs.WalkParts.{findings_in, no_findings}
use Rattle.sj_local.proofs.FindingSteps.{no_tree as unbroken_by, definition-first, variable-first, return_label-first, this-first, store_module-first, target-first, keys-first}
use Rattle.sj_local.specs.declared.findings.Findings.{Findings}
use Rattle.sj_local.specs.declared.members.MethodKey.{MethodKey}
use Rattle.sj_local.specs.declared.rules.Rule.{Rule}
use Rattle.sj_local.specs.declared.rules.Rule.TheVariants as rules
use Rattle.sj_local.specs.declared.walks.Declaration.{Declaration}
use Rattle.sj_local.specs.declared.walks.Declaration.TheVariants as declaration
use Rattle.sj_local.specs.declared.walks.Declared.{Declared}
use Rattle.sj_trees.specs.declared.classes.ClassDef.{ClassDef}
use Rattle.sj_trees.specs.declared.classes.MethodDef.{MethodDef}

first_too : (a b : Bool) → a ≡ true → (a || b) ≡ true
first_too true b h = refl
first_too false b h = impossible h

second_too : (a b : Bool) → b ≡ true → (a || b) ≡ true
second_too true b h = refl
second_too false b h = h

pub opposite : (b : Bool) → not b ≡ true → b ≡ true → ⊥
opposite true h k = impossible h
opposite false h k = impossible k

-- no key passes the test with one before it, behind others that are given
abbrev pub are_new : {K : Type 0} → (K → K → Bool) → List K → List K → Bool
are_new same earlier [] = true
are_new same earlier (k ∷ ks) = not (list_any (same k) earlier) && are_new same (earlier ++ k ∷ []) ks

-- a test that each key passes with itself
module _ {K : Type 0} (same : K → K → Bool) (itself : (k : K) → same k k ≡ true) where
  finds : (ks : List K) (k : K) → Contains ks k → list_any (same k) ks ≡ true
  finds [] k h = nothing_in k h
  finds (x ∷ xs) k h = ⊎_elim (λ e. first_too (same k x) (list_any (same k) xs) (subst (λ z. same k z ≡ true) (sym e) (itself k))) (λ i. second_too (same k x) (list_any (same k) xs) (finds xs k i)) (in_front_or_behind x xs k h)

  no_repeat : (earlier ks : List K) → are_new same earlier ks ≡ true → FirstRepeat earlier ks None
  no_repeat earlier [] h = nothing_left earlier
  no_repeat earlier (k ∷ ks) h = let p = and_parts (not (list_any (same k) earlier)) (are_new same (earlier ++ k ∷ []) ks) h in later earlier k ks None (λ i. opposite (list_any (same k) earlier) p.0 (finds earlier k i)) (no_repeat (earlier ++ k ∷ []) ks p.1)

-- methods with other simple names are others
abbrev pub like_named : MethodKey → MethodKey → Bool
like_named k j = is_same_text k.name.simple j.name.simple

abbrev pub same_declaration : Declaration → Declaration → Bool
same_declaration (declaration.Local x) (declaration.Local y) = is_same_text x y
same_declaration (declaration.Label x) (declaration.Label y) = is_same_text x y
same_declaration _ _ = false

declaration_itself : (d : Declaration) → same_declaration d d ≡ true
declaration_itself (declaration.Local x) = equals x
declaration_itself (declaration.Label x) = equals x

-- the declarations of a method are new, each
abbrev pub declares_once : MethodDef → Bool
declares_once m = are_new same_declaration [] (map (λ (d : Declared). d.declaration) (declared_in m))

-- what is computed of a class
pub record Computed (c : ClassDef) : Type 0 where
  pub superclass : keeps_superclass c ≡ true
  pub hijacked : keeps_hijacked c ≡ true
  pub interfaces : are_new is_same_text [] c.interfaces ≡ true
  pub fields : map field_key c.fields ≡ []
  pub methods : are_new like_named [] (map method_key c.methods) ≡ true
  pub field : first_where (breaks_field c) c.fields ≡ None
  pub name : method_place c rules.MethodName ≡ None
  pub signature : method_place c rules.Signature ≡ None
  pub missing_body : method_place c rules.MissingBody ≡ None
  pub constructors : constructors_place c ≡ None
  pub declarations : list_all declares_once c.methods ≡ true
  pub findings : map (findings_in c) c.methods ≡ map (λ (m : MethodDef). no_findings) c.methods

module _ (c : ClassDef) (h : Computed c) where
  tree_keeps : (m : MethodDef) → declares_once m ≡ true → findings_in c m ≡ no_findings → (r : Rule) → TreeBreaks r c m None
  tree_keeps m new none rules.DeclaredTwice = record { index = None; first = no_repeat same_declaration declaration_itself [] (map (λ (d : Declared). d.declaration) (declared_in m)) new; is_tree = refl }
  tree_keeps m new none rules.Definition = sym (ap (λ (f : Findings). f.definition) none) ∙ definition-first c m
  tree_keeps m new none rules.Variable = sym (ap (λ (f : Findings). f.variable) none) ∙ variable-first c m
  tree_keeps m new none rules.ReturnLabel = sym (ap (λ (f : Findings). f.return_label) none) ∙ return_label-first c m
  tree_keeps m new none rules.This = sym (ap (λ (f : Findings). f.this) none) ∙ this-first c m
  tree_keeps m new none rules.StoreModule = sym (ap (λ (f : Findings). f.store_module) none) ∙ store_module-first c m
  tree_keeps m new none rules.Target = sym (ap (λ (f : Findings). f.target) none) ∙ target-first c m
  tree_keeps m new none rules.Keys = sym (ap (λ (f : Findings). f.keys) none) ∙ keys-first c m
  tree_keeps m new none rules.Superclass = unbroken_by (breaks rules.Superclass c m.namespace) (λ x. refl) m
  tree_keeps m new none rules.Hijacked = unbroken_by (breaks rules.Hijacked c m.namespace) (λ x. refl) m
  tree_keeps m new none rules.InterfaceTwice = unbroken_by (breaks rules.InterfaceTwice c m.namespace) (λ x. refl) m
  tree_keeps m new none rules.MemberTwice = unbroken_by (breaks rules.MemberTwice c m.namespace) (λ x. refl) m
  tree_keeps m new none rules.Field = unbroken_by (breaks rules.Field c m.namespace) (λ x. refl) m
  tree_keeps m new none rules.MethodName = unbroken_by (breaks rules.MethodName c m.namespace) (λ x. refl) m
  tree_keeps m new none rules.Signature = unbroken_by (breaks rules.Signature c m.namespace) (λ x. refl) m
  tree_keeps m new none rules.MissingBody = unbroken_by (breaks rules.MissingBody c m.namespace) (λ x. refl) m
  tree_keeps m new none rules.Constructors = unbroken_by (breaks rules.Constructors c m.namespace) (λ x. refl) m

  no_tree : (r : Rule) (n : ℕ) (ms : List MethodDef) → list_all declares_once ms ≡ true → map (findings_in c) ms ≡ map (λ (m : MethodDef). no_findings) ms → FirstAnswer (TreeBreaks r c) n ms None
  no_tree r n [] new none = none_left n
  no_tree r n (m ∷ ms) new none =
      let k = and_parts (declares_once m) (list_all declares_once ms) new in
      let its : findings_in c m ≡ no_findings = cc in
      let others : map (findings_in c) ms ≡ map (λ (m : MethodDef). no_findings) ms = cc in
      a_later_one n m ms None (tree_keeps m k.0 its r) (no_tree r (suc n) ms k.1 others)

  first_tree : (r : Rule) → FirstTree r c None
  first_tree r = record { found = None; first = no_tree r (length c.fields) c.methods h.declarations h.findings; is_place = refl }

  breaks_none : (r : Rule) → Breaks c r None
  breaks_none rules.Superclass = ap unless (sym h.superclass)
  breaks_none rules.Hijacked = ap unless (sym h.hijacked)
  breaks_none rules.InterfaceTwice = record { index = None; first = no_repeat is_same_text equals [] c.interfaces h.interfaces; is_place = refl }
  breaks_none rules.MemberTwice = record { field = None; method = None; first_field = subst (λ ks. FirstRepeat [] ks None) (sym h.fields) (nothing_left []); first_method = no_repeat like_named (λ k. equals k.name.simple) [] (map method_key c.methods) h.methods; is_place = refl }
  breaks_none rules.Field = sym (ap (option_map at_member) h.field)
  breaks_none rules.MethodName = sym h.name
  breaks_none rules.Signature = sym h.signature
  breaks_none rules.MissingBody = sym h.missing_body
  breaks_none rules.Constructors = sym h.constructors
  breaks_none rules.DeclaredTwice = first_tree rules.DeclaredTwice
  breaks_none rules.Definition = first_tree rules.Definition
  breaks_none rules.Variable = first_tree rules.Variable
  breaks_none rules.ReturnLabel = first_tree rules.ReturnLabel
  breaks_none rules.This = first_tree rules.This
  breaks_none rules.StoreModule = first_tree rules.StoreModule
  breaks_none rules.Target = first_tree rules.Target
  breaks_none rules.Keys = first_tree rules.Keys

  from_rule : (n : ℕ) (rs : List Rule) → FirstAnswer (Breaks c) n rs None
  from_rule n [] = none_left n
  from_rule n (r ∷ rs) = a_later_one n r rs None (breaks_none r) (from_rule (suc n) rs)

  pub unbroken : FirstBroken c None
  unbroken = from_rule 1 all_rules
