-- Where fields and lengths are read, fields are set and methods are looked up: in the core, and in the trees of which desugaring makes it.
use Rattle.std.specs.Prelude.{◌≡◌, false, [], ◌∷◌, Option, None, Some, IsTrue}
use Rattle.js_tree.specs.Rules.{is_receiver}
use Rattle.sj_core.specs.Lookup.{Lookup}
use Rattle.sj_core.specs.Terms as core
use Rattle.sj_core.specs.declared.callees.Callee.{Callee}
use Rattle.sj_core.specs.declared.callees.Callee.TheVariants as callees
use Rattle.sj_emit_expr_spec.specs.Names.{variable_name, label_name}
use Rattle.sj_emit_expr_spec.specs.Templates.{expression_template}
use Rattle.sj_trees.specs.Term.{Term, Terms, no_terms, more_terms, Cases, no_cases, more_cases, var_def, block_of, labeled, assign, return_to, if_then, while_loop, do_while, throw, try_catch, try_finally, match_on, new_object, store_module, select, select_static, apply, apply_statically, apply_static, unary_op, binary_op, new_array, array_value, array_length, array_select, is_instance_of, as_instance_of, var_ref, log_line}
use Rattle.sj_trees.specs.TypeOf.{type_of_term}
use Rattle.sure_receivers.specs.Sure.{is_sure_type}

-- the emitted text may stand before `.`, as that of a number can't, whatever is known of the classes
abbrev pub MayOwn : core.Expression → Type 0
MayOwn e = (known : Lookup) → IsTrue (is_receiver (expression_template variable_name label_name known e))

-- what is called on the expression may be called on it: a method of its own is written behind `.`
abbrev pub MayCall : Callee → core.Expression → Type 0
MayCall (callees.Member m) e = Unit {0}
MayCall (callees.LookedUp c m) e = MayOwn e
MayCall (callees.OfArray m) e = MayOwn e
MayCall (callees.Reflective m) e = Unit {0}

abbrev mutual
  -- each field and each length in the expression is one of what may stand before `.`, and so is each method that is looked up
  pub HasOwners : core.Expression → Type 0
  HasOwners (core.boxed_char e) = HasOwners e
  HasOwners (core.char_text e) = HasOwners e
  HasOwners (core.value_text e) = HasOwners e
  HasOwners (core.choice_of c e g) = HasOwners c × HasOwners e × HasOwners g
  HasOwners (core.static_call m es) = HaveOwners es
  HasOwners (core.field_of e c f) = MayOwn e × HasOwners e
  HasOwners (core.checked_value e) = HasOwners e
  HasOwners (core.made_of m es) = HaveOwners es
  HasOwners (core.receiver_call k e es) = MayCall k e × HasOwners e × HaveOwners es
  HasOwners (core.test_of t e) = HasOwners e
  HasOwners (core.cast_of t e) = HasOwners e
  HasOwners (core.new_array_of r e) = HasOwners e
  HasOwners (core.array_of r es) = HaveOwners es
  HasOwners (core.length_of e) = MayOwn e × HasOwners e
  HasOwners (core.element_of e i) = HasOwners e × HasOwners i
  HasOwners (core.unary_of o e) = HasOwners e
  HasOwners (core.binary_of o e g) = HasOwners e × HasOwners g
  HasOwners _ = Unit {0}

  pub HaveOwners : core.Expressions → Type 0
  HaveOwners core.no_expressions = Unit {0}
  HaveOwners (core.expression e es) = HasOwners e × HaveOwners es

abbrev mutual
  pub IsOwned : core.Statement → Type 0
  IsOwned (core.constant_of p x e) = HasOwners e
  IsOwned (core.define_of p x e) = HasOwners e
  IsOwned (core.declare_of p x) = Unit {0}
  IsOwned (core.assign_to p x e) = HasOwners e
  IsOwned (core.evaluate_of p e) = HasOwners e
  IsOwned (core.return_of p e) = HasOwners e
  IsOwned (core.log_of p e) = HasOwners e
  IsOwned (core.assign_field p e c f g) = MayOwn e × HasOwners e × HasOwners g
  IsOwned (core.assign_static p c f e) = HasOwners e
  IsOwned (core.assign_element p t e i g) = HasOwners e × HasOwners i × HasOwners g
  IsOwned (core.store_module_of p c e) = HasOwners e
  IsOwned (core.throw_of p e) = HasOwners e
  IsOwned (core.leave_label p l) = Unit {0}
  IsOwned (core.break_nearest p) = Unit {0}
  IsOwned (core.if_of p c ss ts) = HasOwners c × AreOwned ss × AreOwned ts
  IsOwned (core.while_of p c ss) = HasOwners c × AreOwned ss
  IsOwned (core.loop_of p ss) = AreOwned ss
  IsOwned (core.labeled_of p l ss) = AreOwned ss
  IsOwned (core.switch_of p e cs ss) = HasOwners e × CasesOwned cs × AreOwned ss
  IsOwned (core.try_of p ss x ts) = AreOwned ss × AreOwned ts
  IsOwned (core.finally_of p ss ts) = AreOwned ss × AreOwned ts

  pub AreOwned : core.Statements → Type 0
  AreOwned core.no_statements = Unit {0}
  AreOwned (core.statement s ss) = IsOwned s × AreOwned ss

  pub CasesOwned : core.Cases → Type 0
  CasesOwned core.no_cases = Unit {0}
  CasesOwned (core.switch_case ks ss cs) = AreOwned ss × CasesOwned cs

-- each field and each length in the method is one of what may stand before `.`, and so is each method that is looked up
abbrev pub FieldsHaveOwners : core.Method → Type 0
FieldsHaveOwners m = AreOwned m.body

abbrev mutual
  -- no field, element or length in the tree is one of a tree of a primitive type other than null, as in each tree that is typed; a case without keys is left out
  pub OnObjects : Term → Type 0
  OnObjects (var_def p x t b e) = OnObjects e
  OnObjects (block_of p ts) = AllOnObjects ts
  OnObjects (labeled p l t e) = OnObjects e
  OnObjects (assign p (var_ref q x t) e) = OnObjects e
  OnObjects (assign p (select q d c f t) e) = (is_sure_type (type_of_term d) ≡ false) × OnObjects d × OnObjects e
  OnObjects (assign p (select_static q c f t) e) = OnObjects e
  OnObjects (assign p (array_select q d i t) e) = (is_sure_type (type_of_term d) ≡ false) × OnObjects d × OnObjects i × OnObjects e
  OnObjects (return_to p e l) = OnObjects e
  OnObjects (if_then p c a b t) = OnObjects c × OnObjects a × OnObjects b
  OnObjects (while_loop p c b) = OnObjects c × OnObjects b
  OnObjects (do_while p b c) = OnObjects b × OnObjects c
  OnObjects (store_module p c e) = OnObjects e
  OnObjects (try_catch p e x d t) = OnObjects e × OnObjects d
  OnObjects (try_finally p e d) = OnObjects e × OnObjects d
  OnObjects (throw p e) = OnObjects e
  OnObjects (match_on p e cs d t) = OnObjects e × CasesOnObjects cs × OnObjects d
  OnObjects (new_object p c m ts) = AllOnObjects ts
  OnObjects (select p e c f t) = (is_sure_type (type_of_term e) ≡ false) × OnObjects e
  OnObjects (apply p e m ts t) = OnObjects e × AllOnObjects ts
  OnObjects (apply_statically p e c n m ts t) = OnObjects e × AllOnObjects ts
  OnObjects (apply_static p c n m ts t) = AllOnObjects ts
  OnObjects (unary_op p o e) = OnObjects e
  OnObjects (is_instance_of p e t) = OnObjects e
  OnObjects (as_instance_of p e t) = OnObjects e
  OnObjects (new_array p r e) = OnObjects e
  OnObjects (array_value p r ts) = AllOnObjects ts
  OnObjects (array_length p e) = (is_sure_type (type_of_term e) ≡ false) × OnObjects e
  OnObjects (array_select p e i t) = (is_sure_type (type_of_term e) ≡ false) × OnObjects e × OnObjects i
  OnObjects (binary_op p o e d) = OnObjects e × OnObjects d
  OnObjects (log_line p e) = OnObjects e
  OnObjects _ = Unit {0}

  pub AllOnObjects : Terms → Type 0
  AllOnObjects no_terms = Unit {0}
  AllOnObjects (more_terms t ts) = OnObjects t × AllOnObjects ts

  pub CasesOnObjects : Cases → Type 0
  CasesOnObjects no_cases = Unit {0}
  CasesOnObjects (more_cases [] t cs) = CasesOnObjects cs
  CasesOnObjects (more_cases (z ∷ zs) t cs) = OnObjects t × CasesOnObjects cs

-- the same of a body, if there is one
abbrev pub BodyOnObjects : Option Term → Type 0
BodyOnObjects None = Unit {0}
BodyOnObjects (Some e) = OnObjects e
