-- The first method whose findings have a tree.
use Rattle.std.proofs.Common.{◌≡◌, ℕ, zero, suc, ◌+◌, ◌≤◌, ◌<◌, List, [], ◌∷◌, ◌++◌, drop, take, length, get_or, Option, Some, None, refl, sym, ap, ◌∙◌, subst, arith}
use Rattle.std.specs.List.{AllZip}
use Rattle.std.proofs.Math.Seq.{drop-cons, drop-nil, take-suc}
use Rattle.std.proofs.lemmas.List.{drop_all}
use Rattle.indexmap.proofs.SetLemmas.{AllZip-push}
use Rattle.sj_trees.specs.declared.classes.ClassDef.{ClassDef}
use Rattle.sj_trees.specs.declared.classes.MethodDef.{MethodDef}
use Rattle.sj_local.specs.declared.rules.Rule.{Rule}
use Rattle.sj_local.specs.declared.rules.Rule.TheVariants as rules
use Rattle.sj_local.specs.declared.findings.Findings.{Findings}
use Rattle.sj_local.specs.declared.findings.MethodFindings.{MethodFindings}
use Rattle.sj_local.specs.Firsts.{in_32_bits, FirstAnswer, none_left, this_one, a_later_one}
use Rattle.sj_local.specs.MethodParts.{finding_of, HasFindings}
use Rattle.sj_local.specs.TreeRules.{breaks}
use Rattle.sj_local.specs.Broken.{TreeBreaks, FirstTree}
use Rattle.sj_local.proofs.FindingSteps.{no_tree, definition-first, variable-first, return_label-first, this-first, store_module-first, target-first, keys-first}

breaks_so : (rule : Rule) (c : ClassDef) (m : MethodDef) (f : MethodFindings) → HasFindings c m f → TreeBreaks rule c m (finding_of rule f)
breaks_so rules.DeclaredTwice c m f h = h.declared
breaks_so rules.Definition c m f h = ap (λ (x : Findings). x.definition) h.findings ∙ definition-first c m
breaks_so rules.Variable c m f h = ap (λ (x : Findings). x.variable) h.findings ∙ variable-first c m
breaks_so rules.ReturnLabel c m f h = ap (λ (x : Findings). x.return_label) h.findings ∙ return_label-first c m
breaks_so rules.This c m f h = ap (λ (x : Findings). x.this) h.findings ∙ this-first c m
breaks_so rules.StoreModule c m f h = ap (λ (x : Findings). x.store_module) h.findings ∙ store_module-first c m
breaks_so rules.Target c m f h = ap (λ (x : Findings). x.target) h.findings ∙ target-first c m
breaks_so rules.Keys c m f h = ap (λ (x : Findings). x.keys) h.findings ∙ keys-first c m
breaks_so rules.Superclass c m f h = no_tree (breaks rules.Superclass c m.namespace) (λ x. refl) m
breaks_so rules.Hijacked c m f h = no_tree (breaks rules.Hijacked c m.namespace) (λ x. refl) m
breaks_so rules.InterfaceTwice c m f h = no_tree (breaks rules.InterfaceTwice c m.namespace) (λ x. refl) m
breaks_so rules.MemberTwice c m f h = no_tree (breaks rules.MemberTwice c m.namespace) (λ x. refl) m
breaks_so rules.Field c m f h = no_tree (breaks rules.Field c m.namespace) (λ x. refl) m
breaks_so rules.MethodName c m f h = no_tree (breaks rules.MethodName c m.namespace) (λ x. refl) m
breaks_so rules.Signature c m f h = no_tree (breaks rules.Signature c m.namespace) (λ x. refl) m
breaks_so rules.MissingBody c m f h = no_tree (breaks rules.MissingBody c m.namespace) (λ x. refl) m
breaks_so rules.Constructors c m f h = no_tree (breaks rules.Constructors c m.namespace) (λ x. refl) m

-- what the rest says of all
abbrev pub Leads : Rule → ClassDef → ℕ → Type 0
Leads rule c i = (found : Option (ℕ × ℕ)) → FirstAnswer (TreeBreaks rule c) (length c.fields + i) (drop i c.methods) found → FirstAnswer (TreeBreaks rule c) (length c.fields) c.methods found

abbrev pub Pairs : ClassDef → List MethodFindings → ℕ → Type 0
Pairs c fs i = AllZip (HasFindings c) (drop i c.methods) (drop i fs)

-- a method and its findings, and those behind
record Next (c : ClassDef) (f : MethodFindings) (ms : List MethodDef) (rest : List MethodFindings) : Type 0 where
  method : MethodDef
  others : List MethodDef
  parts : ms ≡ method ∷ others
  has : HasFindings c method f
  behind : AllZip (HasFindings c) others rest

next_of : (c : ClassDef) (f : MethodFindings) (ms : List MethodDef) (rest : List MethodFindings) → AllZip (HasFindings c) ms (f ∷ rest) → Next c f ms rest
next_of c f [] rest h = absurd h
next_of c f (m ∷ ms) rest h = record { method = m; others = ms; parts = refl; has = h.0; behind = h.1 }

next_at : (c : ClassDef) (fs : List MethodFindings) (i : ℕ) (d : MethodFindings) → Pairs c fs i → i < length fs → Next c (get_or fs i d) (drop i c.methods) (drop (suc i) fs)
next_at c fs i d pairs within = next_of c (get_or fs i d) (drop i c.methods) (drop (suc i) fs) (subst (AllZip (HasFindings c) (drop i c.methods)) (drop-cons fs i d within) pairs)

tail_of : {A : Type 0} (xs : List A) (i : ℕ) (x : A) (rest : List A) → drop i xs ≡ x ∷ rest → drop (suc i) xs ≡ rest
tail_of [] i x rest h = let f : [] ≡ x ∷ rest = sym (drop-nil i) ∙ h in cc
tail_of (y ∷ ys) zero x rest h = cc
tail_of (y ∷ ys) (suc i) x rest h = tail_of ys i x rest h

pub tree_hit : (rule : Rule) (c : ClassDef) (fs : List MethodFindings) (i : ℕ) (d : MethodFindings) (tree : ℕ) → Leads rule c i → Pairs c fs i → i < length fs → Some tree ≡ finding_of rule (get_or fs i d) → FirstTree rule c (Some (record { member = in_32_bits (length c.fields + i); tree = tree }))
tree_hit rule c fs i d tree leads pairs within is =
    let n = next_at c fs i d pairs within in
    let breaks : TreeBreaks rule c n.method (Some tree) = subst (TreeBreaks rule c n.method) (sym is) (breaks_so rule c n.method (get_or fs i d) n.has) in
    record {
      found = Some (length c.fields + i, tree);
      first = leads (Some (length c.fields + i, tree)) (subst (λ (ms : List MethodDef). FirstAnswer (TreeBreaks rule c) (length c.fields + i) ms (Some (length c.fields + i, tree))) (sym n.parts) (this_one (length c.fields + i) n.method n.others tree breaks));
      is_place = refl;
    }

pub tree_miss : (rule : Rule) (c : ClassDef) (fs : List MethodFindings) (i : ℕ) (d : MethodFindings) → Leads rule c i → Pairs c fs i → i < length fs → None ≡ finding_of rule (get_or fs i d) → Leads rule c (i + 1)
tree_miss rule c fs i d leads pairs within is found h =
    let n = next_at c fs i d pairs within in
    let breaks : TreeBreaks rule c n.method None = subst (TreeBreaks rule c n.method) (sym is) (breaks_so rule c n.method (get_or fs i d) n.has) in
    let index : i + 1 ≡ suc i = omega arith in
    let number : length c.fields + (i + 1) ≡ suc (length c.fields + i) = omega arith in
    let rest : drop (i + 1) c.methods ≡ n.others = ap (λ (k : ℕ). drop k c.methods) index ∙ tail_of c.methods i n.method n.others n.parts in
    let later : FirstAnswer (TreeBreaks rule c) (suc (length c.fields + i)) n.others found = subst (λ (ms : List MethodDef). FirstAnswer (TreeBreaks rule c) (suc (length c.fields + i)) ms found) rest (subst (λ (k : ℕ). FirstAnswer (TreeBreaks rule c) k (drop (i + 1) c.methods) found) number h) in
    leads found (subst (λ (ms : List MethodDef). FirstAnswer (TreeBreaks rule c) (length c.fields + i) ms found) (sym n.parts) (a_later_one (length c.fields + i) n.method n.others found breaks later))

pub pairs_behind : (c : ClassDef) (fs : List MethodFindings) (i : ℕ) (d : MethodFindings) → Pairs c fs i → i < length fs → Pairs c fs (i + 1)
pairs_behind c fs i d pairs within =
    let n = next_at c fs i d pairs within in
    let index : suc i ≡ i + 1 = omega arith in
    let rest : n.others ≡ drop (suc i) c.methods = sym (tail_of c.methods i n.method n.others n.parts) in
    subst (λ (k : ℕ). Pairs c fs k) index (subst (λ (ms : List MethodDef). AllZip (HasFindings c) ms (drop (suc i) fs)) rest n.behind)

none_behind : (c : ClassDef) (ms : List MethodDef) → AllZip (HasFindings c) ms [] → ms ≡ []
none_behind c [] h = refl
none_behind c (m ∷ ms) h = absurd h

pub tree_end : (rule : Rule) (c : ClassDef) (fs : List MethodFindings) (i : ℕ) → Leads rule c i → Pairs c fs i → length fs ≤ i → FirstTree rule c None
tree_end rule c fs i leads pairs past =
    let none : drop i c.methods ≡ [] = none_behind c (drop i c.methods) (subst (AllZip (HasFindings c) (drop i c.methods)) (drop_all i fs past) pairs) in
    record {
      found = None;
      first = leads None (subst (λ (ms : List MethodDef). FirstAnswer (TreeBreaks rule c) (length c.fields + i) ms None) (sym none) (none_left (length c.fields + i)));
      is_place = refl;
    }

item_at : {A : Type 0} (xs zs : List A) (i : ℕ) (x : A) → zs ≡ xs → x ≡ get_or zs i x → x ≡ get_or xs i x
item_at xs zs i x same at = at ∙ ap (λ ys. get_or ys i x) same

pub zip_more : {A B : Type 0} (R : A → B → Type 0) (xs zs : List A) (ys new : List B) (i : ℕ) (x : A) (y : B) → AllZip R (take i xs) ys → zs ≡ xs → i < length zs → x ≡ get_or zs i x → R x y → new ≡ ys ++ y ∷ [] → AllZip R (take (i + 1) xs) new
zip_more R xs zs ys new i x y so_far same within at has pushed =
    let index : suc i ≡ i + 1 = omega arith in
    let inside : i < length xs = subst (λ ls. i < length ls) same within in
    let more : take (i + 1) xs ≡ take i xs ++ x ∷ [] = ap (λ (k : ℕ). take k xs) (sym index) ∙ take-suc xs i x inside ∙ ap (λ z. take i xs ++ z ∷ []) (sym (item_at xs zs i x same at)) in
    subst (AllZip R (take (i + 1) xs)) (sym pushed) (subst (λ ls. AllZip R ls (ys ++ y ∷ [])) (sym more) (AllZip-push R (take i xs) ys x y so_far has))
