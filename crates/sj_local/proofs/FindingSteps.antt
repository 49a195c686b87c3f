-- What a walk notes of a rule is the first tree that breaks it.
use Rattle.std.proofs.Common.{◌≡◌, ℕ, suc, ◌+◌, ◌-◌, ◌^◌, ◌≤◌, Bool, true, false, List, [], ◌∷◌, Option, Some, None, cond, refl, sym, ap, ◌∙◌, arith}
use Rattle.std.specs.Prelude.{option_map}
use Rattle.sj_names.specs.declared.method_names.Namespace.{Namespace}
use Rattle.sj_trees.specs.declared.classes.ClassDef.{ClassDef}
use Rattle.sj_trees.specs.declared.classes.MethodDef.{MethodDef}
use Rattle.sj_local.specs.declared.findings.Findings.{Findings}
use Rattle.sj_local.specs.declared.rules.Rule.TheVariants as rules
use Rattle.sj_local.specs.Firsts.{in_32_bits, first_where}
use Rattle.sj_local.specs.Nodes.{Node}
use Rattle.sj_local.specs.TreeRules.{breaks, method_nodes}
use Rattle.sj_local.specs.WalkParts.{judgement, noted, with_judgement, findings_from, findings_in, no_findings}

-- what is noted of one rule
abbrev noted_from : (Node → Bool) → ℕ → List Node → Option ℕ → Option ℕ
noted_from test n [] o = o
noted_from test n (x ∷ xs) o = noted_from test (in_32_bits (n + 1)) xs (noted n (test x) o)

stays : (test : Node → Bool) (n k : ℕ) (xs : List Node) → noted_from test n xs (Some k) ≡ Some k
stays test n k [] = refl
stays test n k (x ∷ xs) = stays test (in_32_bits (n + 1)) k xs

numbered : (n k : ℕ) → in_32_bits (in_32_bits (n + 1) + k) ≡ in_32_bits (n + suc k)
numbered n k = omega arith

later : (n : ℕ) (o : Option ℕ) → option_map (λ k. in_32_bits (in_32_bits (n + 1) + k)) o ≡ option_map (λ k. in_32_bits (n + k)) (option_map suc o)
later n None = refl
later n (Some k) = ap Some (numbered n k)

at_number : (n : ℕ) → n ≤ 2 ^ 32 - 1 → n ≡ in_32_bits (n + 0)
at_number n le = omega arith

within : (n : ℕ) → in_32_bits n ≤ 2 ^ 32 - 1
within n = omega arith

first_noted : (test : Node → Bool) (xs : List Node) (n : ℕ) → n ≤ 2 ^ 32 - 1 → noted_from test n xs None ≡ option_map (λ k. in_32_bits (n + k)) (first_where test xs)
first_noted test [] n le = refl
first_noted test (x ∷ xs) n le = go (first_noted test xs (in_32_bits (n + 1)) (within (n + 1))) (test x) refl
  where
    go : noted_from test (in_32_bits (n + 1)) xs None ≡ option_map (λ k. in_32_bits (in_32_bits (n + 1) + k)) (first_where test xs) → (b : Bool) → test x ≡ b → noted_from test n (x ∷ xs) None ≡ option_map (λ k. in_32_bits (n + k)) (first_where test (x ∷ xs))
    go rest true e = ap (λ (b : Bool). noted_from test (in_32_bits (n + 1)) xs (noted n b None)) e ∙ stays test (in_32_bits (n + 1)) n xs ∙ ap Some (at_number n le) ∙ sym (ap (λ (b : Bool). option_map (λ k. in_32_bits (n + k)) (cond b (Some 0) (option_map suc (first_where test xs)))) e)
    go rest false e = ap (λ (b : Bool). noted_from test (in_32_bits (n + 1)) xs (noted n b None)) e ∙ rest ∙ later n (first_where test xs) ∙ sym (ap (λ (b : Bool). option_map (λ k. in_32_bits (n + k)) (cond b (Some 0) (option_map suc (first_where test xs)))) e)

from_the_first : (o : Option ℕ) → option_map (λ k. in_32_bits (0 + k)) o ≡ option_map in_32_bits o
from_the_first None = refl
from_the_first (Some k) = let e : in_32_bits (0 + k) ≡ in_32_bits k = omega arith in ap Some e

first_one : (test : Node → Bool) (xs : List Node) → noted_from test 0 xs None ≡ option_map in_32_bits (first_where test xs)
first_one test xs = first_noted test xs 0 (omega arith) ∙ from_the_first (first_where test xs)

never : (test : Node → Bool) → ((x : Node) → test x ≡ false) → (xs : List Node) → first_where test xs ≡ None
never test none [] = refl
never test none (x ∷ xs) = ap (λ (b : Bool). cond b (Some 0) (option_map suc (first_where test xs))) (none x) ∙ ap (option_map suc) (never test none xs)

-- where no tree breaks a rule
pub no_tree : (test : Node → Bool) → ((x : Node) → test x ≡ false) → (m : MethodDef) → None ≡ option_map in_32_bits (first_where test (method_nodes m))
no_tree test none m = sym (ap (option_map in_32_bits) (never test none (method_nodes m)))

module _ (c : ClassDef) (space : Namespace) where
  definition-noted : (xs : List Node) (n : ℕ) (f : Findings) → (findings_from c space n xs f).definition ≡ noted_from (breaks rules.Definition c space) n xs f.definition
  definition-noted [] n f = refl
  definition-noted (x ∷ xs) n f = definition-noted xs (in_32_bits (n + 1)) (with_judgement n (judgement c space x) f)

  variable-noted : (xs : List Node) (n : ℕ) (f : Findings) → (findings_from c space n xs f).variable ≡ noted_from (breaks rules.Variable c space) n xs f.variable
  variable-noted [] n f = refl
  variable-noted (x ∷ xs) n f = variable-noted xs (in_32_bits (n + 1)) (with_judgement n (judgement c space x) f)

  return_label-noted : (xs : List Node) (n : ℕ) (f : Findings) → (findings_from c space n xs f).return_label ≡ noted_from (breaks rules.ReturnLabel c space) n xs f.return_label
  return_label-noted [] n f = refl
  return_label-noted (x ∷ xs) n f = return_label-noted xs (in_32_bits (n + 1)) (with_judgement n (judgement c space x) f)

  this-noted : (xs : List Node) (n : ℕ) (f : Findings) → (findings_from c space n xs f).this ≡ noted_from (breaks rules.This c space) n xs f.this
  this-noted [] n f = refl
  this-noted (x ∷ xs) n f = this-noted xs (in_32_bits (n + 1)) (with_judgement n (judgement c space x) f)

  store_module-noted : (xs : List Node) (n : ℕ) (f : Findings) → (findings_from c space n xs f).store_module ≡ noted_from (breaks rules.StoreModule c space) n xs f.store_module
  store_module-noted [] n f = refl
  store_module-noted (x ∷ xs) n f = store_module-noted xs (in_32_bits (n + 1)) (with_judgement n (judgement c space x) f)

  target-noted : (xs : List Node) (n : ℕ) (f : Findings) → (findings_from c space n xs f).target ≡ noted_from (breaks rules.Target c space) n xs f.target
  target-noted [] n f = refl
  target-noted (x ∷ xs) n f = target-noted xs (in_32_bits (n + 1)) (with_judgement n (judgement c space x) f)

  keys-noted : (xs : List Node) (n : ℕ) (f : Findings) → (findings_from c space n xs f).keys ≡ noted_from (breaks rules.Keys c space) n xs f.keys
  keys-noted [] n f = refl
  keys-noted (x ∷ xs) n f = keys-noted xs (in_32_bits (n + 1)) (with_judgement n (judgement c space x) f)

module _ (c : ClassDef) (m : MethodDef) where
  pub definition-first : (findings_in c m).definition ≡ option_map in_32_bits (first_where (breaks rules.Definition c m.namespace) (method_nodes m))
  definition-first = definition-noted c m.namespace (method_nodes m) 0 no_findings ∙ first_one (breaks rules.Definition c m.namespace) (method_nodes m)

  pub variable-first : (findings_in c m).variable ≡ option_map in_32_bits (first_where (breaks rules.Variable c m.namespace) (method_nodes m))
  variable-first = variable-noted c m.namespace (method_nodes m) 0 no_findings ∙ first_one (breaks rules.Variable c m.namespace) (method_nodes m)

  pub return_label-first : (findings_in c m).return_label ≡ option_map in_32_bits (first_where (breaks rules.ReturnLabel c m.namespace) (method_nodes m))
  return_label-first = return_label-noted c m.namespace (method_nodes m) 0 no_findings ∙ first_one (breaks rules.ReturnLabel c m.namespace) (method_nodes m)

  pub this-first : (findings_in c m).this ≡ option_map in_32_bits (first_where (breaks rules.This c m.namespace) (method_nodes m))
  this-first = this-noted c m.namespace (method_nodes m) 0 no_findings ∙ first_one (breaks rules.This c m.namespace) (method_nodes m)

  pub store_module-first : (findings_in c m).store_module ≡ option_map in_32_bits (first_where (breaks rules.StoreModule c m.namespace) (method_nodes m))
  store_module-first = store_module-noted c m.namespace (method_nodes m) 0 no_findings ∙ first_one (breaks rules.StoreModule c m.namespace) (method_nodes m)

  pub target-first : (findings_in c m).target ≡ option_map in_32_bits (first_where (breaks rules.Target c m.namespace) (method_nodes m))
  target-first = target-noted c m.namespace (method_nodes m) 0 no_findings ∙ first_one (breaks rules.Target c m.namespace) (method_nodes m)

  pub keys-first : (findings_in c m).keys ≡ option_map in_32_bits (first_where (breaks rules.Keys c m.namespace) (method_nodes m))
  keys-first = keys-noted c m.namespace (method_nodes m) 0 no_findings ∙ first_one (breaks rules.Keys c m.namespace) (method_nodes m)
