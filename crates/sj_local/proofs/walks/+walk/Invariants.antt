use Rattle.std.proofs.Common.{◌≡◌, ◌++◌, drop, true, false}
use Rattle.sj_trees.specs.View.{terms_view, cases_view}
use Rattle.sj_local.specs.WalkParts.{context, trace, after_all, after_cases, after_statements, all_defined}
use Rattle.sj_local.proofs.walks.+walk.Given as goal

abbrev pub invariant-visit_all-loop-tree : goal.invariant-visit_all-loop-tree
invariant-visit_all-loop-tree l =
    record {
      trace : after_all l.method.class.now l.method.namespace (context l.walk false) (terms_view (drop l.tree-index l.trees)) (trace l.walk) ≡ after_all l.fn.method.class.now l.fn.method.namespace (context l.fn.walk false) (terms_view l.trees) (trace l.fn.walk);
      scope : l.walk.scope.items ≡ l.fn.walk.scope.items;
      labels : l.walk.labels.items ≡ l.fn.walk.labels.items;
    }

abbrev pub invariant-visit_cases-loop-case : goal.invariant-visit_cases-loop-case
invariant-visit_cases-loop-case l =
    record {
      trace : after_cases l.method.class.now l.method.namespace (context l.walk false) (cases_view (drop l.case-index l.cases)) (trace l.walk) ≡ after_cases l.fn.method.class.now l.fn.method.namespace (context l.fn.walk false) (cases_view l.cases) (trace l.fn.walk);
      scope : l.walk.scope.items ≡ l.fn.walk.scope.items;
      labels : l.walk.labels.items ≡ l.fn.walk.labels.items;
    }

abbrev pub invariant-visit_block-loop-tree : goal.invariant-visit_block-loop-tree
invariant-visit_block-loop-tree l =
    record {
      trace : after_statements l.method.class.now l.method.namespace (context l.walk true) (terms_view (drop l.tree-index l.trees)) (trace l.walk) ≡ after_statements l.fn.method.class.now l.fn.method.namespace (context l.fn.walk true) (terms_view l.trees) (trace l.fn.walk);
      scope : l.walk.scope.items ++ all_defined (terms_view (drop l.tree-index l.trees)) ≡ l.fn.walk.scope.items ++ all_defined (terms_view l.trees);
      labels : l.walk.labels.items ≡ l.fn.walk.labels.items;
    }
