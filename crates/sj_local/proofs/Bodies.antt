-- A walk over the body of a method.
use Rattle.std.proofs.Common.{◌≡◌, ℕ, false, List, [], ◌++◌, map, Some, sym, ap, ◌∙◌}
use Rattle.sj_trees.specs.declared.classes.ClassDef.{ClassDef}
use Rattle.sj_trees.specs.declared.classes.MethodDef.{MethodDef}
use Rattle.sj_trees.specs.declared.classes.ParamDef.{ParamDef}
use Rattle.sj_trees.specs.Term.{Term}
use Rattle.sj_local.specs.declared.walks.Local.{Local}
use Rattle.sj_local.specs.Nodes.{Context, nodes}
use Rattle.sj_local.specs.TreeRules.{declared_from, declared_in, method_nodes, body_nodes, outermost, local_of, declared_param}
use Rattle.sj_local.specs.WalkParts.{findings_from, findings_in, no_findings}
use Rattle.sj_local.specs.WalkParts.{Trace, after}
use Rattle.sj_local.proofs.Traces.{after-findings, after-declared}

-- where a walk begins
abbrev begun : MethodDef → Trace
begun m = record { count = 0; declared = map declared_param m.params; findings = no_findings }

pub outermost_is : (m : MethodDef) (params : List ParamDef) (scope : List Local) (labels : List (List ℕ)) → params ≡ m.params → scope ≡ map local_of params → labels ≡ [] → record { scope = scope; labels = labels; in_block = false } ≡ outermost m
outermost_is m params scope labels p s l = let q : scope ≡ map local_of m.params = s ∙ ap (map local_of) p in λ i. record { scope = q i; labels = l i; in_block = false }

pub begun_is : (m : MethodDef) (params : List ParamDef) (r : Trace) → params ≡ m.params → r ≡ record { count = 0; declared = map declared_param params; findings = no_findings } → r ≡ begun m
begun_is m params r p h = h ∙ ap (λ (ps : List ParamDef). record { count = 0; declared = map declared_param ps; findings = no_findings }) p

nodes_is : (m : MethodDef) (x : Context) (t body : Term) → x ≡ outermost m → t ≡ body → m.body ≡ Some body → nodes x t ≡ method_nodes m
nodes_is m x t body h e b = (λ i. nodes (h i) (e i)) ∙ sym (ap (body_nodes m) b)

pub body-declared : (owner : ClassDef) (m : MethodDef) (x : Context) (t body : Term) (r q : Trace) → x ≡ outermost m → t ≡ body → m.body ≡ Some body → r ≡ begun m → q ≡ after owner m.namespace x t r → q.declared ≡ declared_in m
body-declared owner m x t body r q h e b g k =
    ap (λ (w : Trace). w.declared) k ∙ after-declared owner m.namespace x t r
    ∙ (λ i. (g i).declared ++ declared_from (g i).count (nodes_is m x t body h e b i))

pub body-findings : (owner : ClassDef) (m : MethodDef) (x : Context) (t body : Term) (r q : Trace) → x ≡ outermost m → t ≡ body → m.body ≡ Some body → r ≡ begun m → q ≡ after owner m.namespace x t r → q.findings ≡ findings_in owner m
body-findings owner m x t body r q h e b g k =
    ap (λ (w : Trace). w.findings) k ∙ after-findings owner m.namespace x t r
    ∙ (λ i. findings_from owner m.namespace (g i).count (nodes_is m x t body h e b i) (g i).findings)
