-- A class without positions and source files names its source files.
use Rattle.std.proofs.Common.{ℕ, Bool, true, false, List, [], ◌∷◌, map, Option, Some, None}
use Rattle.std.specs.Prelude.{option_map}
use Rattle.std.specs.Int.{w32}
use Rattle.sj_names.specs.declared.references.ArrayRef.{ArrayRef}
use Rattle.sj_names.specs.declared.references.BaseRef.{BaseRef}
use Rattle.sj_trees.specs.Erase.{nowhere, erase, erase_all, erase_cases}
use Rattle.sj_trees.specs.Term.{Term, Terms, Cases, no_terms, more_terms, no_cases, more_cases, var_def, skip, block_of, labeled, assign, return_to, if_then, while_loop, do_while, try_catch, try_finally, throw, match_on, new_object, load_module, store_module, select, select_static, apply, apply_statically, apply_static, unary_op, binary_op, new_array, array_value, array_length, array_select, is_instance_of, as_instance_of, undefined_literal, null_literal, boolean_literal, char_literal, byte_literal, short_literal, int_literal, long_literal, string_literal, var_ref, this_ref, log_line}
use Rattle.sj_trees.specs.declared.classes.ParamDef.{ParamDef}
use Rattle.sj_trees.specs.declared.classes.FieldDef.{FieldDef}
use Rattle.sj_trees.specs.declared.classes.MethodDef.{MethodDef}
use Rattle.sj_trees.specs.declared.classes.ClassDef.{ClassDef}
use Rattle.sj_trees.specs.declared.types.IrType.{IrType}
use Rattle.sj_text_spec.specs.Rules.{bare, bare_field, bare_method}
use Rattle.sj_write_spec.specs.Fields.{Fields, HasFiles, name_field, mark, signed, each, option_fields, position_fields}
use Rattle.sj_write_spec.specs.References.{base_fields, array_fields, type_fields}
use Rattle.sj_write_spec.specs.Trees.{term_fields, each_term, each_case}
use Rattle.sj_write_spec.specs.Classes.{param_fields, field_fields, method_fields, NamesItsFiles}

-- the one source file, which has the empty name
abbrev sources : List (List ℕ)
sources = [] ∷ []

here : HasFiles (position_fields sources nowhere)
here = (tt, (tt, tt))

of_mark : (b : Bool) → HasFiles (mark b)
of_mark false = tt
of_mark true = tt

of_base : (b : BaseRef) → HasFiles (base_fields b)
of_base BaseRef.Boolean = tt
of_base BaseRef.Char = tt
of_base BaseRef.Byte = tt
of_base BaseRef.Short = tt
of_base BaseRef.Int = tt
of_base BaseRef.Long = tt
of_base (BaseRef.Class c) = (tt, tt)

of_array : (a : ArrayRef) → HasFiles (array_fields a)
of_array a = (tt, (tt, of_base a.base))

of_type : (t : IrType) → HasFiles (type_fields t)
of_type IrType.Any = tt
of_type IrType.Nothing = tt
of_type IrType.Undefined = tt
of_type IrType.Boolean = tt
of_type IrType.Char = tt
of_type IrType.Byte = tt
of_type IrType.Short = tt
of_type IrType.Int = tt
of_type IrType.Long = tt
of_type IrType.String = tt
of_type IrType.Null = tt
of_type (IrType.Class c) = (tt, tt)
of_type (IrType.Array a) = (tt, of_array a)
of_type IrType.NoType = tt

of_each : {A : Type 0} (fields : A → Fields) → ((x : A) → HasFiles (fields x)) → (xs : List A) → HasFiles (each fields xs)
of_each fields one [] = tt
of_each fields one (x ∷ xs) = (one x, of_each fields one xs)

of_option : {A : Type 0} (fields : A → Fields) → ((x : A) → HasFiles (fields x)) → (o : Option A) → HasFiles (option_fields fields o)
of_option fields one None = tt
of_option fields one (Some x) = (tt, one x)

mutual
  of_tree : (t : Term) → HasFiles (term_fields sources (erase t))
  of_tree (var_def p name tpe mutable value) = (tt, (here, (tt, (of_type tpe, (of_mark mutable, of_tree value)))))
  of_tree (skip p) = (tt, (here, tt))
  of_tree (block_of p trees) = (tt, (here, (tt, of_trees trees)))
  of_tree (labeled p label tpe body) = (tt, (here, (tt, (of_type tpe, of_tree body))))
  of_tree (assign p target value) = (tt, (here, (of_tree target, of_tree value)))
  of_tree (return_to p value label) = (tt, (here, (of_tree value, tt)))
  of_tree (if_then p condition consequent alternative tpe) = (tt, (here, (of_tree condition, (of_tree consequent, (of_tree alternative, of_type tpe)))))
  of_tree (while_loop p condition body) = (tt, (here, (of_tree condition, of_tree body)))
  of_tree (do_while p body condition) = (tt, (here, (of_tree body, of_tree condition)))
  of_tree (try_catch p block name handler tpe) = (tt, (here, (of_tree block, (tt, (of_tree handler, of_type tpe)))))
  of_tree (try_finally p block finalizer) = (tt, (here, (of_tree block, of_tree finalizer)))
  of_tree (throw p value) = (tt, (here, of_tree value))
  of_tree (match_on p selector cases default tpe) = (tt, (here, (of_tree selector, ((tt, of_cases cases), (of_tree default, of_type tpe)))))
  of_tree (new_object p class method arguments) = (tt, (here, (tt, (tt, (tt, of_trees arguments)))))
  of_tree (load_module p class) = (tt, (here, tt))
  of_tree (store_module p class value) = (tt, (here, (tt, of_tree value)))
  of_tree (select p qualifier class field tpe) = (tt, (here, (of_tree qualifier, (tt, (tt, of_type tpe)))))
  of_tree (select_static p class field tpe) = (tt, (here, (tt, (tt, of_type tpe))))
  of_tree (apply p receiver method arguments tpe) = (tt, (here, (of_tree receiver, (tt, ((tt, of_trees arguments), of_type tpe)))))
  of_tree (apply_statically p receiver class namespace method arguments tpe) = (tt, (here, (of_tree receiver, (tt, (tt, (tt, ((tt, of_trees arguments), of_type tpe)))))))
  of_tree (apply_static p class namespace method arguments tpe) = (tt, (here, (tt, (tt, (tt, ((tt, of_trees arguments), of_type tpe))))))
  of_tree (unary_op p operator operand) = (tt, (here, (tt, of_tree operand)))
  of_tree (binary_op p operator left right) = (tt, (here, (tt, (of_tree left, of_tree right))))
  of_tree (new_array p array length) = (tt, (here, (of_array array, of_tree length)))
  of_tree (array_value p array items) = (tt, (here, (of_array array, (tt, of_trees items))))
  of_tree (array_length p array) = (tt, (here, of_tree array))
  of_tree (array_select p array index tpe) = (tt, (here, (of_tree array, (of_tree index, of_type tpe))))
  of_tree (is_instance_of p value tpe) = (tt, (here, (of_tree value, of_type tpe)))
  of_tree (as_instance_of p value tpe) = (tt, (here, (of_tree value, of_type tpe)))
  of_tree (undefined_literal p) = (tt, (here, tt))
  of_tree (null_literal p) = (tt, (here, tt))
  of_tree (boolean_literal p value) = (tt, (here, of_mark value))
  of_tree (char_literal p value) = (tt, (here, tt))
  of_tree (byte_literal p value) = (tt, (here, tt))
  of_tree (short_literal p value) = (tt, (here, tt))
  of_tree (int_literal p value) = (tt, (here, tt))
  of_tree (long_literal p value) = (tt, (here, tt))
  of_tree (string_literal p value) = (tt, (here, tt))
  of_tree (var_ref p name tpe) = (tt, (here, (tt, of_type tpe)))
  of_tree (this_ref p tpe) = (tt, (here, of_type tpe))
  of_tree (log_line p value) = (tt, (here, of_tree value))

  of_trees : (ts : Terms) → HasFiles (each_term sources (erase_all ts))
  of_trees no_terms = tt
  of_trees (more_terms t ts) = (of_tree t, of_trees ts)

  of_cases : (cs : Cases) → HasFiles (each_case sources (erase_cases cs))
  of_cases no_cases = tt
  of_cases (more_cases keys t cs) = (((tt, of_each (signed w32 4) (λ z. tt) keys), of_tree t), of_cases cs)

of_body : (o : Option Term) → HasFiles (option_fields (term_fields sources) (option_map erase o))
of_body None = tt
of_body (Some t) = (tt, of_tree t)

of_param : (p : ParamDef) → HasFiles (param_fields p)
of_param p = (tt, (of_mark p.mutable, of_type p.tpe))

of_field : (f : FieldDef) → HasFiles (field_fields sources (bare_field f))
of_field f = (tt, (here, (of_mark f.is_static, (of_mark f.mutable, (tt, of_type f.tpe)))))

of_method : (m : MethodDef) → HasFiles (method_fields sources (bare_method m))
of_method m = (tt, (here, (tt, (tt, ((tt, of_each param_fields of_param m.params), (of_type m.result, (of_body m.body, tt)))))))

of_fields : (fs : List FieldDef) → HasFiles (each (field_fields sources) (map bare_field fs))
of_fields [] = tt
of_fields (f ∷ fs) = (of_field f, of_fields fs)

of_methods : (ms : List MethodDef) → HasFiles (each (method_fields sources) (map bare_method ms))
of_methods [] = tt
of_methods (m ∷ ms) = (of_method m, of_methods ms)

pub bare_names_its_files : (c : ClassDef) → NamesItsFiles (bare c)
bare_names_its_files c = (here, (tt, (tt, (of_option name_field (λ x. tt) c.superclass, ((tt, of_each name_field (λ x. tt) c.interfaces), (tt, (of_fields c.fields, of_methods c.methods)))))))
