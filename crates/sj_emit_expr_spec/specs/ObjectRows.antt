-- Methods with objects, and the functions that are written for them.
use Rattle.std.specs.Prelude.{ℕ, false, List, [], ◌∷◌, pos, codes, Some, None, if◌then◌else◌}
use Rattle.js_tree.specs.Terms.{Piece}
use Rattle.sj_desugar_spec.specs.Lookup.{Lookup, own_targets}
use Rattle.sj_desugar_spec.specs.Desugar.{desugared_member}
use Rattle.sj_emit_expr_spec.specs.Members.{member_piece}
use Rattle.sj_mangling.specs.Same.{is_same_text}
use Rattle.sj_mangling.specs.Member.{Member}
use Rattle.sj_mangling.specs.MethodName.{MethodName}
use Rattle.sj_mangling.specs.Namespace.{Namespace}
use Rattle.sj_mangling.specs.NamespaceVariants.{Public, PublicStatic, Private, PrivateStatic, Constructor}
use Rattle.sj_mangling.specs.BaseRef.{BaseRef}
use Rattle.sj_names.specs.declared.references.ArrayRef.{ArrayRef}
use Rattle.sj_mangling.specs.TypeRef.{TypeRef}
use Rattle.sj_desugar_spec.specs.Erase.{nowhere}
use Rattle.sj_desugar_spec.specs.Term.{Term, Terms, no_terms, more_terms, var_def, skip, block_of, assign, throw, try_catch, new_object, load_module, store_module, select, select_static, apply, apply_statically, new_array, array_value, array_length, array_select, is_instance_of, as_instance_of, null_literal, int_literal, long_literal, var_ref, this_ref, binary_op}
use Rattle.sj_desugar_spec.specs.ParamDef.{ParamDef}
use Rattle.sj_desugar_spec.specs.BinaryOpVariants.{IntAdd, IntDivide, LongRemainder}
use Rattle.sj_desugar_spec.specs.IrType.{IrType}
use Rattle.sj_desugar_spec.specs.IrTypeVariants as Types

abbrev pub a_name : List ℕ
a_name = codes "A"

abbrev pub a_class : IrType
a_class = Types.Class a_name

abbrev pub named : List ℕ → List TypeRef → TypeRef → MethodName
named simple params result = record { simple = simple; params = params; result = Some result }

-- a constructor of the class A that takes an int, and that of java.lang.Object
abbrev pub from_int : MethodName
from_int = named (codes "<init>") (TypeRef.Int ∷ []) TypeRef.Void

abbrev pub from_nothing : MethodName
from_nothing = named (codes "<init>") [] TypeRef.Void

abbrev pub number : ℕ → Term
number n = int_literal nowhere (pos n)

abbrev pub use_of : List ℕ → IrType → Term
use_of x t = var_ref nowhere x t

abbrev pub param : List ℕ → IrType → ParamDef
param x t = record { name = x; «mutable» = false; tpe = t }

-- its field `f`, an int
abbrev pub field : Term → Term
field e = select nowhere e a_name (codes "f") Types.Int

abbrev pub this : Term
this = this_ref nowhere a_class

-- the piece of a method of the class A with this body, by what is known of the classes
abbrev pub piece_by : Lookup → Namespace → MethodName → List ParamDef → IrType → Term → Piece
piece_by known n m params result body = member_piece known (record { class = a_name; namespace = n; method = m }) (desugared_member (record { pos = nowhere; namespace = n; name = m; params = params; result = result; body = Some body; hash = None }) body)

-- the same where each member is its own target
abbrev pub piece : Namespace → MethodName → List ParamDef → IrType → Term → Piece
piece = piece_by own_targets

abbrev pub block : List Term → Term
block ts = block_of nowhere (all ts)
  where
    all : List Term → Terms
    all [] = no_terms
    all (t ∷ ts) = more_terms t (all ts)

-- it calls the constructor of java.lang.Object on This, and sets the field
abbrev pub constructor_piece : Piece
constructor_piece = piece Constructor from_int (param (codes "x") Types.Int ∷ []) Types.NoType (block (apply_statically nowhere this (codes "java.lang.Object") Constructor from_nothing no_terms Types.NoType ∷ assign nowhere (field this) (use_of (codes "x") Types.Int) ∷ []))

-- a public method without parameters gives the field of This
abbrev pub field_piece : Piece
field_piece = piece Public (named (codes "get") [] TypeRef.Int) [] Types.Int (field this)

-- a private static method gives its parameter, and has no receiver
abbrev pub same_piece : Piece
same_piece = piece PrivateStatic (named (codes "same") (TypeRef.Int ∷ []) TypeRef.Int) (param (codes "x") Types.Int ∷ []) Types.Int (use_of (codes "x") Types.Int)

-- `q.f + a.f`, where `a` is a new object: of the two receivers `q` alone may be null
abbrev pub sum_piece : Piece
sum_piece = piece PublicStatic (named (codes "sum") (TypeRef.Class a_name ∷ []) TypeRef.Int) (param (codes "q") a_class ∷ []) Types.Int (block (var_def nowhere (codes "a") a_class false (new_object nowhere a_name from_int (more_terms (number 1) no_terms)) ∷ binary_op nowhere IntAdd (field (use_of (codes "q") a_class)) (field (use_of (codes "a") a_class)) ∷ []))

-- a value that isn't plain, behind a receiver with its check and behind one that is sure
abbrev pub sets_piece : Piece
sets_piece = piece Private (named (codes "sets") (TypeRef.Class a_name ∷ []) TypeRef.Void) (param (codes "q") a_class ∷ []) Types.NoType (block (assign nowhere (field (use_of (codes "q") a_class)) (block (skip nowhere ∷ number 2 ∷ [])) ∷ assign nowhere (field this) (block (skip nowhere ∷ number 3 ∷ [])) ∷ []))

-- a receiver that isn't plain, with its check
abbrev pub gets_piece : Piece
gets_piece = piece PublicStatic (named (codes "gets") (TypeRef.Class a_name ∷ []) TypeRef.Int) (param (codes "q") a_class ∷ []) Types.Int (field (block (skip nowhere ∷ use_of (codes "q") a_class ∷ [])))

-- a static field, a call on a receiver, divisions by locals, and a throw
abbrev pub others_piece : Piece
others_piece = piece PublicStatic (named (codes "others") (TypeRef.Class a_name ∷ TypeRef.Int ∷ TypeRef.Long ∷ []) TypeRef.Void) (param (codes "q") a_class ∷ param (codes "i") Types.Int ∷ param (codes "j") Types.Long ∷ []) Types.NoType (block (assign nowhere static (binary_op nowhere IntDivide static (use_of (codes "i") Types.Int)) ∷ binary_op nowhere LongRemainder (long_literal nowhere (pos 7)) (use_of (codes "j") Types.Long) ∷ apply_statically nowhere (use_of (codes "q") a_class) a_name Private (named (codes "m") (TypeRef.Int ∷ []) TypeRef.Void) (more_terms (number 4) no_terms) Types.NoType ∷ throw nowhere (use_of (codes "q") a_class) ∷ []))
  where
    static : Term
    static = select_static nowhere a_name (codes "s") Types.Int

-- calls of a public method of a class that inherits it, of one that is its own target, and of a private one
abbrev pub inherited : Member → Member
inherited m = if is_same_text m.class (codes "B") then record m { class = a_name } else m

abbrev pub called_piece : Piece
called_piece = piece_by (record own_targets { target = inherited }) PublicStatic (named (codes "called") (TypeRef.Class a_name ∷ []) TypeRef.Void) (param (codes "q") a_class ∷ []) Types.NoType (block (call (codes "B") Public ∷ call (codes "C") Public ∷ call (codes "B") Private ∷ []))
  where
    call : List ℕ → Namespace → Term
    call c n = apply_statically nowhere (use_of (codes "q") a_class) c n (named (codes "m") [] TypeRef.Void) no_terms Types.NoType

-- calls that are looked up: on an object of a class, on any value, on a number, on a value of a hijacked class, on an array, on a char by a name without a
-- result, and on one that isn't plain; a hijacked class stands below `java.lang.Object` alone
abbrev pub looks_up_piece : Piece
looks_up_piece = piece_by (record { target = inherited; has_hijacked = is_same_text (codes "java.lang.Object") }) PublicStatic (named (codes "calls") [] TypeRef.Void) [] Types.NoType (block (on a_class ∷ on Types.Any ∷ on Types.Int ∷ on (Types.Class (codes "java.lang.Byte")) ∷ on (Types.Array (record { base = BaseRef.Int; dimensions = 1 })) ∷ call (use_of (codes "q") Types.Char) proxy ∷ call (block (skip nowhere ∷ use_of (codes "q") a_class ∷ [])) (named (codes "m") [] TypeRef.Void) ∷ []))
  where
    call : Term → MethodName → Term
    call e m = apply nowhere e m no_terms Types.NoType

    on : IrType → Term
    on t = call (use_of (codes "q") t) (named (codes "m") [] TypeRef.Void)

    proxy : MethodName
    proxy = record { simple = codes "m"; params = []; result = None }

-- the one object of the class: it is stored, a field of it is read without a null check, and it is loaded for itself
abbrev pub loads_piece : Piece
loads_piece = piece Constructor from_nothing [] Types.NoType (block (store_module nowhere a_name this ∷ store_module nowhere a_name (block (skip nowhere ∷ this ∷ [])) ∷ assign nowhere (field this) (field loaded) ∷ loaded ∷ []))
  where
    loaded : Term
    loaded = load_module nowhere a_name

-- what is thrown where a field of null is read is caught
abbrev pub catches_piece : Piece
catches_piece = piece PublicStatic (named (codes "catches") (TypeRef.Class a_name ∷ []) TypeRef.Int) (param (codes "q") a_class ∷ []) Types.Int (try_catch nowhere (field (use_of (codes "q") a_class)) (codes "e") (number 0) Types.Int)

-- an array of ints is made, and one of arrays of the class with an item; a length, an element, elements that are set, and a test and a cast to types of arrays
abbrev pub arrays_piece : Piece
arrays_piece = piece PublicStatic (named (codes "arrays") [] TypeRef.Void) [] Types.NoType (block (new_array nowhere ints (number 2) ∷ array_value nowhere (of_objects 2) (more_terms b no_terms) ∷ array_length nowhere a ∷ first a Types.Int ∷ assign nowhere (first a Types.Int) (number 1) ∷ assign nowhere (first b a_class) (null_literal nowhere) ∷ is_instance_of nowhere b (Types.Array (of_objects 2)) ∷ as_instance_of nowhere a (Types.Array ints) ∷ []))
  where
    ints : ArrayRef
    ints = record { base = BaseRef.Int; dimensions = 1 }

    of_objects : ℕ → ArrayRef
    of_objects n = record { base = BaseRef.Class a_name; dimensions = n }

    a : Term
    a = use_of (codes "a") (Types.Array ints)

    b : Term
    b = use_of (codes "b") (Types.Array (of_objects 1))

    first : Term → IrType → Term
    first e t = array_select nowhere e (number 0) t
