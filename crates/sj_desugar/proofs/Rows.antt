-- What is written for each form, by what its operands come to.
use Rattle.std.proofs.Common.{◌≡◌, ◌∙◌, ℕ, suc, Bool, true, false, ◌&&◌, List, [], ◌∷◌, ap, sym, refl, Some}
use Rattle.sj_core.specs.Terms.{named, assign_to, log_of, while_of, loop_of, boolean_value}
use Rattle.sj_core.specs.Terms as core
use Rattle.sj_core.specs.declared.callees.Callee.{Callee}
use Rattle.sj_desugar_spec.specs.Coercions.{coerced, coerced_arguments, coerced_receiver}
use Rattle.sj_core.specs.Views.{expressions_of}
use Rattle.sj_desugar_spec.specs.Desugar.{Targets, into, expression_of, cases, member, types_of, operand, operands, branched, wrapped, break_unless, switched, finish, first_of, second_of, third_of, rest_of, received, receiver, position_of, branches, switch_code, Branches, tried, finished, target_of}
use Rattle.sj_desugar_spec.specs.Finalizers.{kept, keep_all, give_all_back, finalizer_code}
use Rattle.sj_desugar_spec.specs.Plain.{is_plain, are_plain}
use Rattle.sj_desugar_spec.specs.Spill.{Destination, discard, to_variable, Code, one, put_first, joined, Spilled, spill, then_use}
use Rattle.sj_desugar_spec.specs.Texts.{operand_of}
use Rattle.sj_desugar_forms.specs.Arguments.{with_arguments, with_items}
use Rattle.sj_desugar_forms.specs.Forms.{behind}
use Rattle.sj_desugar.specs.Operands.{comes_to, comes_received, owner_place, index_place, assigned_code}
use Rattle.sj_desugar_forms.specs.Placing.{Placed, placed, placed_case, brought}
use Rattle.sj_desugar.proofs.Spilling.{use-one, use-two, use-three, use-first}
use Rattle.sj_desugar.proofs.Runs.{operands-plain}
use Rattle.sj_names.specs.declared.method_names.MethodName.{MethodName}
use Rattle.sj_names.specs.declared.method_names.Namespace.{Namespace}
use Rattle.sj_names.specs.declared.references.ArrayRef.{ArrayRef}
use Rattle.sj_trees.specs.Term.{Term, Terms, Cases, var_def, apply_static, throw, store_module, select, select_static, assign, var_ref, if_then, while_loop, do_while, try_catch, try_finally, match_on, unary_op, binary_op, new_array, array_value, array_length, array_select, is_instance_of, as_instance_of, log_line}
use Rattle.sj_trees.specs.TypeOf.{type_of_term, unary_result, binary_result}
use Rattle.sj_trees.specs.Types.{class_type, element_type}
use Rattle.sj_trees.specs.declared.operators.BinaryOp.{BinaryOp}
use Rattle.sj_trees.specs.declared.operators.UnaryOp.{UnaryOp}
use Rattle.sj_trees.specs.declared.positions.Position.{Position}
use Rattle.sj_trees.specs.declared.types.IrType.{IrType}
use Rattle.sj_trees.specs.declared.types.IrType.TheVariants.{Any, Array, Boolean, Int}
use Rattle.sure_receivers.specs.Sure.{is_sure}

module _ (m s : List ℕ → Bool) (ls : Targets) (k : Destination) (j : ℕ) (p : Position) where
  assign-row : (q : Position) (x : List ℕ) (t : IrType) (e : Term) → into m s ls k j (assign p (var_ref q x t) e) ≡ behind (comes_to m s ls true j e) (λ g. one (assign_to (Some p) (named x) (coerced t (type_of_term e) g)))
  unfolding comes_to
  assign-row q x t e = use-one (operand m s e (λ k j. into m s ls k j e)) j (λ es. one (assign_to (Some p) (named x) (coerced t (type_of_term e) (first_of es))))

  pub if-row : (c a b : Term) (t : IrType) → into m s ls k j (if_then p c a b t) ≡ behind (comes_to m s ls true j c) (λ g i. branched p g (into m s ls k i a) (into m s ls k (into m s ls k i a).next b))
  unfolding comes_to
  if-row c a b t = use-one (operand m s c (λ k j. into m s ls k j c)) j (λ es i. branches p (first_of es) (into m s ls k i a) (λ i. into m s ls k i b))

  pub log-row : (e : Term) → into m s ls k j (log_line p e) ≡ behind (comes_to m s ls true j e) (λ g. one (log_of (Some p) g))
  unfolding comes_to
  log-row e = use-one (operand m s e (λ k j. into m s ls k j e)) j (λ es. one (log_of (Some p) (first_of es)))

  pub unary-row : (o : UnaryOp) (e : Term) → into m s ls k j (unary_op p o e) ≡ behind (comes_to m s ls true j e) (λ g. finish k p (unary_result o) false (core.unary_of o g))
  unfolding comes_to
  unary-row o e = use-one (operand m s e (λ k j. into m s ls k j e)) j (λ es. finish k p (unary_result o) false (core.unary_of o (first_of es)))

  pub binary-row : (o : BinaryOp) (e d : Term) → into m s ls k j (binary_op p o e d) ≡ behind (comes_to m s ls (is_plain d) j e) (λ g i. behind (comes_to m s ls true i d) (λ h. finish k p (binary_result o) false (core.binary_of o (operand_of o (type_of_term e) g) (operand_of o (type_of_term d) h))))
  unfolding comes_to
  binary-row o e d = use-two (operand m s e (λ k j. into m s ls k j e)) (operand m s d (λ k j. into m s ls k j d)) j (λ es. finish k p (binary_result o) false (core.binary_of o (operand_of o (type_of_term e) (first_of es)) (operand_of o (type_of_term d) (second_of es))))

  pub match-row : (e : Term) (cs : Cases) (d : Term) (t : IrType) → into m s ls k j (match_on p e cs d t) ≡ behind (comes_to m s ls true j e) (λ g i. switched p g (cases m s ls k i cs) (into m s ls k (cases m s ls k i cs).next d))
  unfolding comes_to
  match-row e cs d t = use-one (operand m s e (λ k j. into m s ls k j e)) j (λ es i. switch_code p (first_of es) (cases m s ls k i cs) (λ i. into m s ls k i d))

  pub turn-row : (c b : Term) → is_plain c ≡ false → into m s ls k j (while_loop p c b) ≡ wrapped (while_of (Some p) (boolean_value true)) (behind (comes_to m s ls true j c) (λ g i. put_first (break_unless g) (into m s ls discard i b)))
  unfolding comes_to
  turn-row c b h = ap (λ (plain : Bool). elim plain [ true ↦ wrapped (while_of (Some p) (expression_of s c)) (into m s ls discard j b) | false ↦ wrapped (while_of (Some p) (boolean_value true)) (then_use (spill (operand m s c (λ k j. into m s ls k j c) ∷ []) j) (λ es i. put_first (break_unless (first_of es)) (into m s ls discard i b))) ]) h ∙ ap (wrapped (while_of (Some p) (boolean_value true))) (use-one (operand m s c (λ k j. into m s ls k j c)) j (λ es i. put_first (break_unless (first_of es)) (into m s ls discard i b)))

  pub loop-row : (b c : Term) → into m s ls k j (do_while p b c) ≡ wrapped (loop_of (Some p)) (joined (into m s ls discard j b) (behind (comes_to m s ls true (into m s ls discard j b).next c) (λ g. one (break_unless g))))
  unfolding comes_to
  loop-row b c = ap (λ d. wrapped (loop_of (Some p)) (joined (into m s ls discard j b) d)) (use-one (operand m s c (λ k j. into m s ls k j c)) (into m s ls discard j b).next (λ es. one (break_unless (first_of es))))

  -- the same where the parts are known by other names
  pub try-joins : (u v : Code) (a : Term) (x : List ℕ) (b : Term) (t : IrType) → u ≡ into m s ls k j a → v ≡ into m s ls k u.next b → into m s ls k j (try_catch p a x b t) ≡ tried p x u v
  try-joins u v a x b t h g = ap (λ (c : Code). tried p x c (into m s ls k c.next b)) (sym h) ∙ ap (tried p x u) (sym g)

  pub finally-joins : (u f v : Code) (a b : Term) → u ≡ into m s ls k j a → f ≡ keep_all (kept (target_of ls) b) u.next → v ≡ into m s ls discard f.next b → into m s ls k j (try_finally p a b) ≡ finished p u (joined (joined f v) (give_all_back (kept (target_of ls) b) u.next v.next))
  finally-joins u f v a b h g e =
      let xs = kept (target_of ls) b in
      ap (λ (c : Code). finished p c (finalizer_code (target_of ls) b c.next (λ i. into m s ls discard i b))) (sym h) ∙ ap (λ (c : Code). finished p u (joined (joined c (into m s ls discard c.next b)) (give_all_back xs u.next (into m s ls discard c.next b).next))) (sym g) ∙ ap (λ (c : Code). finished p u (joined (joined f c) (give_all_back xs u.next c.next))) (sym e)

  pub if-joins : (o : Placed) (u v : Code) (c a b : Term) (t : IrType) → o ≡ comes_to m s ls true j c → u ≡ into m s ls k o.next a → v ≡ into m s ls k u.next b → into m s ls k j (if_then p c a b t) ≡ behind o (λ g i. branched p g u v)
  if-joins o u v c a b t h hy hn =
      let e1 : into m s ls k (comes_to m s ls true j c).next a ≡ u = ap (λ (r : Placed). into m s ls k r.next a) (sym h) ∙ sym hy in
      let e2 : into m s ls k (into m s ls k (comes_to m s ls true j c).next a).next b ≡ v = ap (λ (r : Code). into m s ls k r.next b) e1 ∙ sym hn in
      if-row c a b t ∙ (λ i. behind (sym h i) (λ g x. branched p g (e1 i) (e2 i)))

  pub log-joins : (o : Placed) (e : Term) → o ≡ comes_to m s ls true j e → into m s ls k j (log_line p e) ≡ behind o (λ g. one (log_of (Some p) g))
  log-joins o e h = log-row e ∙ (λ i. behind (sym h i) (λ g. one (log_of (Some p) g)))

  pub unary-joins : (o : Placed) (u : UnaryOp) (e : Term) → o ≡ comes_to m s ls true j e → into m s ls k j (unary_op p u e) ≡ behind o (λ g. finish k p (unary_result u) false (core.unary_of u g))
  unary-joins o u e h = unary-row u e ∙ (λ i. behind (sym h i) (λ g. finish k p (unary_result u) false (core.unary_of u g)))

  pub binary-joins : (o r : Placed) (u : BinaryOp) (e d : Term) (rest : Bool) → rest ≡ is_plain d → o ≡ comes_to m s ls rest j e → r ≡ comes_to m s ls true o.next d → into m s ls k j (binary_op p u e d) ≡ behind o (λ g i. behind r (λ h. finish k p (binary_result u) false (core.binary_of u (operand_of u (type_of_term e) g) (operand_of u (type_of_term d) h))))
  binary-joins o r u e d rest hr h hd =
      let e1 : comes_to m s ls (is_plain d) j e ≡ o = ap (λ b. comes_to m s ls b j e) (sym hr) ∙ sym h in
      let e2 : comes_to m s ls true (comes_to m s ls (is_plain d) j e).next d ≡ r = ap (λ (x : Placed). comes_to m s ls true x.next d) e1 ∙ sym hd in
      binary-row u e d ∙ (λ i. behind (e1 i) (λ g x. behind (e2 i) (λ h. finish k p (binary_result u) false (core.binary_of u (operand_of u (type_of_term e) g) (operand_of u (type_of_term d) h)))))

  pub match-joins : (o : Placed) (bs : Branches) (d : Code) (e : Term) (cs : Cases) (t : Term) (tpe : IrType) → o ≡ comes_to m s ls true j e → bs ≡ cases m s ls k o.next cs → d ≡ into m s ls k bs.next t → into m s ls k j (match_on p e cs t tpe) ≡ behind o (λ g i. switched p g bs d)
  match-joins o bs d e cs t tpe h hb hd =
      let e1 : cases m s ls k (comes_to m s ls true j e).next cs ≡ bs = ap (λ (r : Placed). cases m s ls k r.next cs) (sym h) ∙ sym hb in
      let e2 : into m s ls k (cases m s ls k (comes_to m s ls true j e).next cs).next t ≡ d = ap (λ (r : Branches). into m s ls k r.next t) e1 ∙ sym hd in
      match-row e cs t tpe ∙ (λ i. behind (sym h i) (λ g x. switched p g (e1 i) (e2 i)))

  pub turn-joins : (o : Placed) (w u : Code) (c b : Term) → is_plain c ≡ false → o ≡ comes_to m s ls true j c → w ≡ into m s ls discard o.next b → u ≡ behind o (λ g i. put_first (break_unless g) w) → into m s ls k j (while_loop p c b) ≡ wrapped (while_of (Some p) (boolean_value true)) u
  turn-joins o w u c b f h hw hu =
      let e1 : into m s ls discard (comes_to m s ls true j c).next b ≡ w = ap (λ (r : Placed). into m s ls discard r.next b) (sym h) ∙ sym hw in
      turn-row c b f ∙ (λ i. wrapped (while_of (Some p) (boolean_value true)) (behind (sym h i) (λ g x. put_first (break_unless g) (e1 i)))) ∙ ap (wrapped (while_of (Some p) (boolean_value true))) (sym hu)

  -- a local that is declared in front of what brings its value to it
  pub declared-joins : (d : Destination) (w : Code) (x : List ℕ) (t : IrType) (b : Bool) (e : Term) → is_plain e ≡ false → d ≡ to_variable (named x) t → w ≡ into m s ls d j e → into m s ls k j (var_def p x t b e) ≡ put_first (core.declare_of (Some p) (named x)) w
  declared-joins d w x t b e f hd hw =
      let e1 : into m s ls (to_variable (named x) t) j e ≡ w = ap (λ c. into m s ls c j e) (sym hd) ∙ sym hw in
      ap (λ (plain : Bool). elim plain [ true ↦ one (core.define_of (Some p) (named x) (coerced t (type_of_term e) (expression_of s e))) j | false ↦ put_first (core.declare_of (Some p) (named x)) (into m s ls (to_variable (named x) t) j e) ]) f ∙ ap (put_first (core.declare_of (Some p) (named x))) e1

  pub loop-joins : (w : Code) (o : Placed) (b c : Term) → w ≡ into m s ls discard j b → o ≡ comes_to m s ls true w.next c → into m s ls k j (do_while p b c) ≡ wrapped (loop_of (Some p)) (joined w (behind o (λ g. one (break_unless g))))
  loop-joins w o b c hw h =
      let e1 : comes_to m s ls true (into m s ls discard j b).next c ≡ o = ap (λ (r : Code). comes_to m s ls true r.next c) (sym hw) ∙ sym h in
      loop-row b c ∙ (λ i. wrapped (loop_of (Some p)) (joined (sym hw i) (behind (e1 i) (λ g. one (break_unless g)))))

  pub call-joins : (r : Spilled) (c : List ℕ) (n : Namespace) (f : MethodName) (ts : Terms) (t : IrType) → r ≡ with_arguments f.params (types_of ts) (spill (operands m s ls ts) j) → into m s ls k j (apply_static p c n f ts t) ≡ then_use r (λ es. finish k p t false (core.static_call (member c n f) (expressions_of es)))
  call-joins r c n f ts t h = ap (λ (x : Spilled). then_use x (λ es. finish k p t false (core.static_call (member c n f) (expressions_of es)))) (sym h)

  -- receivers
  pub received-sure : (rest : Bool) (t : Term) → is_sure s t ≡ true → comes_to m s ls rest j t ≡ comes_received m s ls rest j t
  unfolding comes_to comes_received
  received-sure rest t h = ap (λ b. placed rest (received b (operand m s t (λ k j. into m s ls k j t))) j) (sym h)

  pub received-checked : (rest : Bool) (t : Term) → is_sure s t ≡ false → placed rest (received false (operand m s t (λ k j. into m s ls k j t))) j ≡ comes_received m s ls rest j t
  unfolding comes_received
  received-checked rest t h = ap (λ b. placed rest (received b (operand m s t (λ k j. into m s ls k j t))) j) (sym h)

  pub checked-brought : (rest : Bool) (t : Term) → is_plain t ≡ false → placed rest (received false (operand m s t (λ k j. into m s ls k j t))) j ≡ brought (position_of t) j (behind (comes_to m s ls true (suc j) t) (λ e. finish (to_variable (core.numbered j) (type_of_term t)) (position_of t) (type_of_term t) false (core.checked_value e)))
  unfolding comes_to
  checked-brought rest t h = ap (λ b. placed_case (b && rest) false b (received false (operand m s t (λ k j. into m s ls k j t))) j) h ∙ ap (brought (position_of t) j) (use-one (operand m s t (λ k j. into m s ls k j t)) (suc j) (λ es. finish (to_variable (core.numbered j) (type_of_term t)) (position_of t) (type_of_term t) false (core.checked_value (first_of es))))

  pub throw-joins : (o : Placed) (e : Term) → o ≡ comes_to m s ls true j e → into m s ls k j (throw p e) ≡ behind o (λ g. one (core.throw_of (Some p) (coerced Any (type_of_term e) g)))
  unfolding comes_to
  throw-joins o e h = use-one (operand m s e (λ k j. into m s ls k j e)) j (λ es. one (core.throw_of (Some p) (coerced Any (type_of_term e) (first_of es)))) ∙ (λ i. behind (sym h i) (λ g. one (core.throw_of (Some p) (coerced Any (type_of_term e) g))))

  pub store-joins : (o : Placed) (c : List ℕ) (e : Term) → o ≡ comes_to m s ls true j e → into m s ls k j (store_module p c e) ≡ behind o (λ g. one (core.store_module_of (Some p) c (coerced (class_type c) (type_of_term e) g)))
  unfolding comes_to
  store-joins o c e h = use-one (operand m s e (λ k j. into m s ls k j e)) j (λ es. one (core.store_module_of (Some p) c (coerced (class_type c) (type_of_term e) (first_of es)))) ∙ (λ i. behind (sym h i) (λ g. one (core.store_module_of (Some p) c (coerced (class_type c) (type_of_term e) g))))

  pub test-joins : (o : Placed) (e : Term) (t : IrType) → o ≡ comes_to m s ls true j e → into m s ls k j (is_instance_of p e t) ≡ behind o (λ g. finish k p Boolean false (core.test_of t (coerced Any (type_of_term e) g)))
  unfolding comes_to
  test-joins o e t h = use-one (operand m s e (λ k j. into m s ls k j e)) j (λ es. finish k p Boolean false (core.test_of t (coerced Any (type_of_term e) (first_of es)))) ∙ (λ i. behind (sym h i) (λ g. finish k p Boolean false (core.test_of t (coerced Any (type_of_term e) g))))

  pub cast-joins : (o : Placed) (e : Term) (t : IrType) → o ≡ comes_to m s ls true j e → into m s ls k j (as_instance_of p e t) ≡ behind o (λ g. finish k p t false (core.cast_of t (coerced Any (type_of_term e) g)))
  unfolding comes_to
  cast-joins o e t h = use-one (operand m s e (λ k j. into m s ls k j e)) j (λ es. finish k p t false (core.cast_of t (coerced Any (type_of_term e) (first_of es)))) ∙ (λ i. behind (sym h i) (λ g. finish k p t false (core.cast_of t (coerced Any (type_of_term e) g))))

  pub field-joins : (o : Placed) (e : Term) (c f : List ℕ) (t : IrType) → o ≡ comes_received m s ls true j e → into m s ls k j (select p e c f t) ≡ behind o (λ g. finish k p t false (core.field_of g c f))
  unfolding comes_received
  field-joins o e c f t h = use-one (receiver m s e (λ k j. into m s ls k j e)) j (λ es. finish k p t false (core.field_of (first_of es) c f)) ∙ (λ i. behind (sym h i) (λ g. finish k p t false (core.field_of g c f)))

  -- arrays
  pub new-array-joins : (o : Placed) (r : ArrayRef) (e : Term) → o ≡ comes_to m s ls true j e → into m s ls k j (new_array p r e) ≡ behind o (λ g. finish k p (Array r) false (core.new_array_of r g))
  unfolding comes_to
  new-array-joins o r e h = use-one (operand m s e (λ k j. into m s ls k j e)) j (λ es. finish k p (Array r) false (core.new_array_of r (first_of es))) ∙ (λ i. behind (sym h i) (λ g. finish k p (Array r) false (core.new_array_of r g)))

  pub items-joins : (w : Spilled) (r : ArrayRef) (ts : Terms) (t : IrType) → t ≡ element_type r → w ≡ with_items t (types_of ts) (spill (operands m s ls ts) j) → into m s ls k j (array_value p r ts) ≡ then_use w (λ es. finish k p (Array r) false (core.array_of r (expressions_of es)))
  items-joins w r ts t h hw =
      let e1 : with_items (element_type r) (types_of ts) (spill (operands m s ls ts) j) ≡ w = ap (λ x. with_items x (types_of ts) (spill (operands m s ls ts) j)) (sym h) ∙ sym hw in
      ap (λ (x : Spilled). then_use x (λ es. finish k p (Array r) false (core.array_of r (expressions_of es)))) e1

  pub length-joins : (o : Placed) (e : Term) → o ≡ comes_received m s ls true j e → into m s ls k j (array_length p e) ≡ behind o (λ g. finish k p Int false (core.length_of g))
  unfolding comes_received
  length-joins o e h = use-one (receiver m s e (λ k j. into m s ls k j e)) j (λ es. finish k p Int false (core.length_of (first_of es))) ∙ (λ i. behind (sym h i) (λ g. finish k p Int false (core.length_of g)))

  element-row : (e d : Term) (t : IrType) → into m s ls k j (array_select p e d t) ≡ behind (comes_received m s ls (is_plain d) j e) (λ g i. behind (comes_to m s ls true i d) (λ h. finish k p t false (core.element_of g h)))
  unfolding comes_to comes_received
  element-row e d t = use-two (receiver m s e (λ k j. into m s ls k j e)) (operand m s d (λ k j. into m s ls k j d)) j (λ es. finish k p t false (core.element_of (first_of es) (second_of es)))

  pub element-joins : (o r : Placed) (e d : Term) (t : IrType) (rest : Bool) → rest ≡ is_plain d → o ≡ comes_received m s ls rest j e → r ≡ comes_to m s ls true o.next d → into m s ls k j (array_select p e d t) ≡ behind o (λ g i. behind r (λ h. finish k p t false (core.element_of g h)))
  element-joins o r e d t rest hr h hd =
      let e1 : comes_received m s ls (is_plain d) j e ≡ o = ap (λ b. comes_received m s ls b j e) (sym hr) ∙ sym h in
      let e2 : comes_to m s ls true (comes_received m s ls (is_plain d) j e).next d ≡ r = ap (λ (x : Placed). comes_to m s ls true x.next d) e1 ∙ sym hd in
      element-row e d t ∙ (λ i. behind (e1 i) (λ g x. behind (e2 i) (λ h. finish k p t false (core.element_of g h))))

  -- assignments
  static-row : (q : Position) (c f : List ℕ) (t : IrType) (e : Term) → into m s ls k j (assign p (select_static q c f t) e) ≡ behind (comes_to m s ls true j e) (λ g. one (core.assign_static (Some p) c f (coerced t (type_of_term e) g)))
  unfolding comes_to
  static-row q c f t e = use-one (operand m s e (λ k j. into m s ls k j e)) j (λ es. one (core.assign_static (Some p) c f (coerced t (type_of_term e) (first_of es))))

  set-row : (q : Position) (d : Term) (c f : List ℕ) (t : IrType) (e : Term) → into m s ls k j (assign p (select q d c f t) e) ≡ behind (comes_received m s ls (is_plain e) j d) (λ g i. behind (comes_to m s ls true i e) (λ h. one (core.assign_field (Some p) g c f (coerced t (type_of_term e) h))))
  unfolding comes_to comes_received
  set-row q d c f t e = use-two (receiver m s d (λ k j. into m s ls k j d)) (operand m s e (λ k j. into m s ls k j e)) j (λ es. one (core.assign_field (Some p) (first_of es) c f (coerced t (type_of_term e) (second_of es))))

  item-row : (q : Position) (d i : Term) (t : IrType) (e : Term) → into m s ls k j (assign p (array_select q d i t) e) ≡ behind (comes_received m s ls (is_plain i && is_plain e) j d) (λ g n. behind (comes_to m s ls (is_plain e) n i) (λ h x. behind (comes_to m s ls true x e) (λ v. one (core.assign_element (Some p) t g h (coerced t (type_of_term e) v)))))
  unfolding comes_to comes_received
  item-row q d i t e = use-three (receiver m s d (λ k j. into m s ls k j d)) (operand m s i (λ k j. into m s ls k j i)) (operand m s e (λ k j. into m s ls k j e)) j (λ es. one (core.assign_element (Some p) t (first_of es) (second_of es) (coerced t (type_of_term e) (third_of es))))

  assignment-row : (t e : Term) → into m s ls k j (assign p t e) ≡ (let o = owner_place m s ls (is_plain e) j t in assigned_code m s ls j p t e o (index_place m s ls (is_plain e) o.next t))
  assignment-row (var_ref q x t) e = assign-row q x t e
  assignment-row (select q d c f t) e = set-row q d c f t e
  assignment-row (select_static q c f t) e = static-row q c f t e
  assignment-row (array_select q d i t) e = item-row q d i t e
  assignment-row _ e = refl

  pub assignment-joins : (o i : Placed) (t e : Term) (rest : Bool) → rest ≡ is_plain e → o ≡ owner_place m s ls rest j t → i ≡ index_place m s ls rest o.next t → into m s ls k j (assign p t e) ≡ assigned_code m s ls j p t e o i
  assignment-joins o i t e rest hr h hi =
      let e1 : owner_place m s ls (is_plain e) j t ≡ o = ap (λ b. owner_place m s ls b j t) (sym hr) ∙ sym h in
      let e2 : index_place m s ls (is_plain e) (owner_place m s ls (is_plain e) j t).next t ≡ i = ap (λ (x : Placed). index_place m s ls (is_plain e) x.next t) e1 ∙ ap (λ b. index_place m s ls b o.next t) (sym hr) ∙ sym hi in
      assignment-row t e ∙ (λ x. assigned_code m s ls j p t e (e1 x) (e2 x))

  -- what is written for a call of this callee on a receiver, with these arguments
  abbrev pub call_of : Callee → Term → MethodName → Terms → IrType → Code
  call_of u e f ts t = then_use (spill (receiver m s e (λ k j. into m s ls k j e) ∷ operands m s ls ts) j) (λ es. finish k p t false (core.receiver_call u (coerced_receiver (type_of_term e) (first_of es)) (expressions_of (coerced_arguments f.params (types_of ts) (rest_of es)))))

  receive-row : (u : Callee) (e : Term) (f : MethodName) (ts : Terms) (t : IrType) → call_of u e f ts t ≡ behind (comes_received m s ls (are_plain ts) j e) (λ g i. then_use (spill (operands m s ls ts) i) (λ es. finish k p t false (core.receiver_call u (coerced_receiver (type_of_term e) g) (expressions_of (coerced_arguments f.params (types_of ts) es)))))
  unfolding comes_received
  receive-row u e f ts t = use-first (receiver m s e (λ k j. into m s ls k j e)) (operands m s ls ts) j (λ es. finish k p t false (core.receiver_call u (coerced_receiver (type_of_term e) (first_of es)) (expressions_of (coerced_arguments f.params (types_of ts) (rest_of es))))) ∙ ap (λ b. behind (placed b (receiver m s e (λ k j. into m s ls k j e)) j) (λ g i. then_use (spill (operands m s ls ts) i) (λ es. finish k p t false (core.receiver_call u (coerced_receiver (type_of_term e) g) (expressions_of (coerced_arguments f.params (types_of ts) es)))))) (operands-plain m s ls ts)

  pub receive-joins : (o : Placed) (r : Spilled) (u : Callee) (e : Term) (f : MethodName) (ts : Terms) (t : IrType) (rest : Bool) → rest ≡ are_plain ts → o ≡ comes_received m s ls rest j e → r ≡ with_arguments f.params (types_of ts) (spill (operands m s ls ts) o.next) → call_of u e f ts t ≡ behind o (λ g i. then_use r (λ es. finish k p t false (core.receiver_call u (coerced_receiver (type_of_term e) g) (expressions_of es))))
  receive-joins o r u e f ts t rest hr h ha =
      let e1 : comes_received m s ls (are_plain ts) j e ≡ o = ap (λ b. comes_received m s ls b j e) (sym hr) ∙ sym h in
      receive-row u e f ts t ∙ ap (λ (x : Placed). behind x (λ g i. then_use (with_arguments f.params (types_of ts) (spill (operands m s ls ts) i)) (λ es. finish k p t false (core.receiver_call u (coerced_receiver (type_of_term e) g) (expressions_of es))))) e1 ∙ ap (λ (x : Spilled). behind o (λ g i. then_use x (λ es. finish k p t false (core.receiver_call u (coerced_receiver (type_of_term e) g) (expressions_of es))))) (sym ha)
