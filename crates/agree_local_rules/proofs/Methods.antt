-- What the local rules say of a method.
use Rattle.std.proofs.Common.{◌≡◌, ℕ, suc, Bool, true, false, List, [], ◌∷◌, ◌++◌, map, Some, None, Option, refl, sym, ap, ◌∙◌, subst, inl, inr, Contains, if◌then◌else◌, slice_get}
use Rattle.std.specs.Prelude.{◌+◌, option_map, option_and_then, nat_eq}
use Rattle.std.specs.Cmp.Lexicographic.{pointwise}
use Rattle.std.proofs.lemmas.List.{map-append}
use Rattle.std.proofs.lemmas.List.Elements.{Contains-append_left, Contains-push}
use Rattle.agree_early_errors.specs.Desugar.{names_of}
use Rattle.sj_local.specs.declared.walks.Local.{Local}
use Rattle.sj_local.specs.declared.walks.Declaration.{Declaration}
use Rattle.sj_local.specs.declared.walks.Declaration.TheVariants as declaration
use Rattle.sj_local.specs.declared.walks.Declared.{Declared}
use Rattle.sj_local.specs.declared.rules.Rule.TheVariants as rule
use Rattle.sj_local.specs.Firsts.{FirstRepeat, nothing_left, here, later, in_32_bits, first_where}
use Rattle.sj_local.specs.Nodes.{Node, node, below}
use Rattle.sj_local.specs.TreeRules.{last_some, innermost, declarations, declared_by, declared_from, declared_param, declared_in, DeclaresTwice, breaks, outermost, method_nodes, body_nodes}
use Rattle.sj_local.specs.TreeRules as rules
use Rattle.sj_names.specs.declared.method_names.Namespace.{Namespace}
use Rattle.sj_trees.specs.Term.{Term}
use Rattle.sj_trees.specs.declared.classes.ClassDef.{ClassDef}
use Rattle.sj_trees.specs.declared.classes.MethodDef.{MethodDef}
use Rattle.sj_trees.specs.declared.classes.ParamDef.{ParamDef}
use Rattle.agree_early_errors.proofs.Equal.{is-equal}
use Rattle.sj_names.proofs.Same.{impossible}
use Rattle.agree_early_errors.specs.Locals.{IsParameter, local_of}
use Rattle.agree_early_errors.specs.Once.{IsAmong, Once, AreDistinct, DefinesOnce, NamesOnce}
use Rattle.agree_local_rules.specs.Kept.{KeepsTreeRules}
use Rattle.agree_local_rules.proofs.Distinct.{Has, NoRepeat, declares, own-declares, repeat-parts, once}
use Rattle.agree_local_rules.proofs.Names.{told, names-once}
use Rattle.agree_local_rules.proofs.Kept.{AllKeep, keeps_this, SameLocal, neither, both_have}

suc-none : (o : Option ℕ) → option_map suc o ≡ None → o ≡ None
suc-none None h = refl
suc-none (Some n) h = impossible (cc)

-- where none of two or more passes a test, the first doesn't
first-fails : (test : Node → Bool) (x : Node) (xs : List Node) → first_where test (x ∷ xs) ≡ None → (test x ≡ false) × (first_where test xs ≡ None)
first-fails test x xs h = go (test x) refl h
  where
    go : (b : Bool) → test x ≡ b → (if b then Some 0 else option_map suc (first_where test xs)) ≡ None → (test x ≡ false) × (first_where test xs ≡ None)
    go true e k = impossible (cc)
    go false e k = (e, suc-none (first_where test xs) k)

all-keep : (c : ClassDef) (space : Namespace) (xs : List Node) → first_where (breaks rule.Definition c space) xs ≡ None → first_where (breaks rule.Variable c space) xs ≡ None → first_where (breaks rule.ReturnLabel c space) xs ≡ None → first_where (breaks rule.This c space) xs ≡ None → AllKeep c.name space xs
all-keep c space [] d v j o = tt
all-keep c space (x ∷ xs) d v j o =
    let e = first-fails (breaks rule.Definition c space) x xs d in
    let w = first-fails (breaks rule.Variable c space) x xs v in
    let k = first-fails (breaks rule.ReturnLabel c space) x xs j in
    let r = first-fails (breaks rule.This c space) x xs o in
    (record { definition = e.0; variable = w.0; jump = k.0; this = keeps_this c space x.tree r.0 }, all-keep c space xs e.1 w.1 k.1 r.1)

-- a repeat that has no tree is none
no-index : (earlier : List Declaration) (ds : List Declared) (r : Option ℕ) → FirstRepeat earlier (map (λ (d : Declared). d.declaration) ds) r → option_and_then (λ n. option_map (λ (d : Declared). d.tree) (slice_get ds n)) r ≡ None → r ≡ None
no-index earlier [] _ (nothing_left _) h = refl
no-index earlier (d ∷ ds) _ (here _ _ _ there) h = impossible (cc)
no-index earlier (d ∷ ds) _ (later _ _ _ index not_there rest) h = go index rest h (no-index (earlier ++ d.declaration ∷ []) ds index rest)
  where
    go : (index : Option ℕ) → FirstRepeat (earlier ++ d.declaration ∷ []) (map (λ (d : Declared). d.declaration) ds) index → option_and_then (λ n. option_map (λ (d : Declared). d.tree) (slice_get (d ∷ ds) n)) (option_map suc index) ≡ None → (option_and_then (λ n. option_map (λ (d : Declared). d.tree) (slice_get ds n)) index ≡ None → index ≡ None) → option_map suc index ≡ None
    go None rest h next = refl
    go (Some n) rest h next = ap (option_map suc) (next h)

not-earlier : (earlier keys : List Declaration) (r : Option ℕ) → FirstRepeat earlier keys r → r ≡ None → (d : Declaration) → Has keys d → Contains earlier d → ⊥
not-earlier earlier _ _ (nothing_left _) e d h k = h
not-earlier earlier _ _ (here _ key keys there) e d h k = impossible (cc)
not-earlier earlier _ _ (later _ key keys index not_there rest) e d (inl same) k = not_there (subst (Contains earlier) same k)
not-earlier earlier _ _ (later _ key keys index not_there rest) e d (inr h) k = not-earlier (earlier ++ key ∷ []) keys index rest (suc-none index e) d h (Contains-append_left earlier (key ∷ []) d k)

no-repeat : (earlier keys : List Declaration) (r : Option ℕ) → FirstRepeat earlier keys r → r ≡ None → NoRepeat keys
no-repeat earlier _ _ (nothing_left _) e = tt
no-repeat earlier _ _ (here _ key keys there) e = impossible (cc)
no-repeat earlier _ _ (later _ key keys index not_there rest) e = ((λ h. not-earlier (earlier ++ key ∷ []) keys index rest (suc-none index e) key h (Contains-push earlier key)), no-repeat (earlier ++ key ∷ []) keys index rest (suc-none index e))

-- the declarations of a method: its parameters, and those of its nodes
abbrev pub param_declarations : List ParamDef → List Declaration
param_declarations [] = []
param_declarations (p ∷ ps) = declaration.Local p.name ∷ param_declarations ps

by-itself : (n : ℕ) (ds : List Declaration) → map (λ (d : Declared). d.declaration) (map (λ (d : Declaration). record { declaration = d; tree = n }) ds) ≡ ds
by-itself n [] = refl
by-itself n (d ∷ ds) = ap (λ es. d ∷ es) (by-itself n ds)

from-nodes : (n : ℕ) (xs : List Node) → map (λ (d : Declared). d.declaration) (declared_from n xs) ≡ declares xs
from-nodes n [] = refl
from-nodes n (x ∷ xs) = map-append (λ (d : Declared). d.declaration) (declared_by n x.tree) (declared_from (in_32_bits (n + 1)) xs) ∙ (λ i. by-itself n (declarations x.tree) i ++ from-nodes (in_32_bits (n + 1)) xs i)

from-params : (ps : List ParamDef) → map (λ (d : Declared). d.declaration) (map declared_param ps) ≡ param_declarations ps
from-params [] = refl
from-params (p ∷ ps) = ap (λ ds. declaration.Local p.name ∷ ds) (from-params ps)

keys-are : (m : MethodDef) → map (λ (d : Declared). d.declaration) (declared_in m) ≡ param_declarations m.params ++ declares (method_nodes m)
keys-are m = map-append (λ (d : Declared). d.declaration) (map declared_param m.params) (declared_from 0 (method_nodes m)) ∙ (λ i. from-params m.params i ++ from-nodes 0 (method_nodes m) i)

method-distinct : (m : MethodDef) → DeclaresTwice m None → NoRepeat (param_declarations m.params ++ declares (method_nodes m))
method-distinct m h = subst NoRepeat (keys-are m) (no-repeat [] (map (λ (d : Declared). d.declaration) (declared_in m)) h.index h.first (no-index [] (declared_in m) h.index h.first (sym h.is_tree)))

param-among : (ps : List ParamDef) (x : List ℕ) → IsAmong (names_of ps) x → Has (param_declarations ps) (declaration.Local x)
param-among [] x h = h
param-among (p ∷ ps) x (inl e) = inl (ap declaration.Local e)
param-among (p ∷ ps) x (inr h) = inr (param-among ps x h)

param-is : (ps : List ParamDef) (x : List ℕ) → IsParameter ps x → IsAmong (names_of ps) x
param-is [] x h = h
param-is (p ∷ ps) x (inl e) = inl e
param-is (p ∷ ps) x (inr h) = inr (param-is ps x h)

params-distinct : (ps : List ParamDef) → NoRepeat (param_declarations ps) → AreDistinct (names_of ps)
params-distinct [] h = tt
params-distinct (p ∷ ps) h = ((λ i. h.0 (param-among ps p.name i)), params-distinct ps h.1)

-- parameters are the same locals whichever end they are looked up from
last-none : (o : Option Local) → last_some None o ≡ o
last-none None = refl
last-none (Some l) = refl

none-there : (ds : List ParamDef) (y : List ℕ) → (IsAmong (names_of ds) y → ⊥) → local_of ds y ≡ None
none-there [] y h = refl
none-there (d ∷ ds) y h = go (pointwise nat_eq y d.name) refl (none-there ds y (λ i. h (inr i)))
  where
    go : (b : Bool) → pointwise nat_eq y d.name ≡ b → local_of ds y ≡ None → (if b then Some d else local_of ds y) ≡ None
    go true e k = absurd (h (inl (is-equal y d.name e)))
    go false e k = k

same-none : (o : Option Local) (q : Option ParamDef) → SameLocal o q → q ≡ None → o ≡ None
same-none _ _ neither e = refl
same-none _ _ (both_have d) e = impossible (cc)

abbrev locals_of : List ParamDef → List Local
locals_of ps = map rules.local_of ps

pub params-same : (ps : List ParamDef) → AreDistinct (names_of ps) → (y : List ℕ) → SameLocal (innermost (locals_of ps) y) (local_of ps y)
params-same [] h y = neither
params-same (p ∷ ps) h y = go (pointwise nat_eq y p.name) refl (params-same ps h.1 y)
  where
    go : (b : Bool) → pointwise nat_eq y p.name ≡ b → SameLocal (innermost (locals_of ps) y) (local_of ps y) → SameLocal (last_some (if b then Some (rules.local_of p) else None) (innermost (locals_of ps) y)) (if b then Some p else local_of ps y)
    go true e k = subst (λ o. SameLocal (last_some (Some (rules.local_of p)) o) (Some p)) (sym (same-none (innermost (locals_of ps) y) (local_of ps y) k (none-there ps y (λ i. h.0 (subst (IsAmong (names_of ps)) (is-equal y p.name e) i))))) (both_have p)
    go false e k = subst (λ o. SameLocal o (local_of ps y)) (sym (last-none (innermost (locals_of ps) y))) k

module _ (c : ClassDef) (d : MethodDef) (e : Term) (body : d.body ≡ Some e) (kept : KeepsTreeRules c d) where
  twice : DeclaresTwice d None
  twice = kept.declared

  nodes-are : method_nodes d ≡ node (outermost d) e ∷ below (outermost d) e
  nodes-are = ap (body_nodes d) body

  pub keep : AllKeep c.name d.namespace (node (outermost d) e ∷ below (outermost d) e)
  keep = subst (AllKeep c.name d.namespace) nodes-are (all-keep c d.namespace (method_nodes d) kept.definition kept.variable kept.jump kept.this)

  pub apart : NoRepeat (param_declarations d.params) × NoRepeat (declares (node (outermost d) e ∷ below (outermost d) e)) × ((q : Declaration) → Has (param_declarations d.params) q → Has (declares (node (outermost d) e ∷ below (outermost d) e)) q → ⊥)
  apart = repeat-parts (param_declarations d.params) (declares (node (outermost d) e ∷ below (outermost d) e)) (subst (λ xs. NoRepeat (param_declarations d.params ++ declares xs)) nodes-are (method-distinct d twice))

  pub distinct : AreDistinct (names_of d.params)
  distinct = params-distinct d.params apart.0

  pub body_once : Once [] e
  body_once = once c.name d.namespace e (outermost d) (outermost d) [] refl (record { known = λ l h. impossible h }) keep.0 keep.1 apart.1 (λ l i k. i)

  pub body_keeps : DefinesOnce d e
  body_keeps = record { once = body_once; parameters = distinct; fresh = λ x o i. apart.2 (declaration.Local x) (param-among d.params x (param-is d.params x i)) (own-declares e (outermost d) x o) }

  -- also in forms that aren't built
  pub names_keep : NamesOnce d e
  names_keep = record { once = names-once e (outermost d) apart.1; fresh = λ x n i. apart.2 (declaration.Local x) (param-among d.params x (param-is d.params x i)) (told e (outermost d) x n) }
