-- Methods of the core in which each case of a switch has a key.
use Rattle.std.specs.Prelude.{not, IsTrue}
use Rattle.js_tree.specs.Names.{is_empty}
use Rattle.sj_core.specs.Terms.{Statement, if_of, while_of, loop_of, labeled_of, switch_of, try_of, finally_of, Statements, no_statements, statement, Cases, no_cases, switch_case, Method}

abbrev mutual
  pub IsKeyed : Statement → Type 0
  IsKeyed (if_of p c ss ts) = AreKeyed ss × AreKeyed ts
  IsKeyed (while_of p c ss) = AreKeyed ss
  IsKeyed (loop_of p ss) = AreKeyed ss
  IsKeyed (labeled_of p l ss) = AreKeyed ss
  IsKeyed (switch_of p e cs ss) = HaveKeys cs × AreKeyed ss
  IsKeyed (try_of p ss x ts) = AreKeyed ss × AreKeyed ts
  IsKeyed (finally_of p ss ts) = AreKeyed ss × AreKeyed ts
  IsKeyed _ = Unit {0}

  pub AreKeyed : Statements → Type 0
  AreKeyed no_statements = Unit {0}
  AreKeyed (statement s ss) = IsKeyed s × AreKeyed ss

  pub HaveKeys : Cases → Type 0
  HaveKeys no_cases = Unit {0}
  HaveKeys (switch_case ks ss cs) = IsTrue (not (is_empty ks)) × AreKeyed ss × HaveKeys cs

-- each case of a switch has a key, as in what desugaring gives
abbrev pub HasKeys : Method → Type 0
HasKeys m = AreKeyed m.body
