-- Where calls look and what values are instances of, worked out: chains, ancestors, subtypes and targets as a world has them.
use Rattle.std.specs.Prelude.{ℕ, zero, suc, ◌+◌, Bool, true, false, not, List, [], ◌∷◌, ◌&&◌, ◌||◌, ◌==◌, nat_lt, ℤ, pos, negsuc, int_le, length, filter, codes, is_some, Option, Some, None, if◌then◌else◌}
use Rattle.std.specs.List.{list_all, list_any}
use Rattle.sj_names.specs.MethodNames.{spelled_method}
use Rattle.sj_names.specs.declared.method_names.MethodName.{MethodName}
use Rattle.sj_names.specs.declared.method_names.Namespace.{Namespace}
use Rattle.sj_names.specs.declared.references.ArrayRef.{ArrayRef}
use Rattle.sj_names.specs.declared.references.BaseRef.{BaseRef}
use Rattle.sj_trees.specs.declared.classes.ClassDef.{ClassDef}
use Rattle.sj_trees.specs.declared.classes.ClassKind.{ClassKind}
use Rattle.sj_trees.specs.declared.classes.MethodDef.{MethodDef}
use Rattle.sj_trees.specs.declared.types.IrType.{IrType}
use Rattle.sj_world.specs.Ancestors.{parents, next_on_chain}
use Rattle.sj_world.specs.Known.{Name, Classes, is_same, object, class_of, is_known}
use Rattle.sj_world.specs.Refusals.{is_before}
use Rattle.sj_world.specs.Subtypes.{hijacked_class}
use Rattle.sj_names.specs.Same.{is_same_base, is_same_method, is_same_namespace, is_same_reference, is_same_text}
use Rattle.sj_trees.specs.SameTypes.{is_same_type}
use Rattle.std.specs.Cmp.Lexicographic.{pointwise}

-- no way without a repeat through the known classes is longer: those of the world, the eight that each world has, and one that is absent
abbrev pub longest : Classes → ℕ
longest w = length w + 10

abbrev pub chain_from : Classes → ℕ → List Name → Name → List Name
chain_from w zero seen c = []
chain_from w (suc k) seen c = if list_any (is_same c) seen then [] else (c ∷ elim (next_on_chain w c) [ None ↦ [] | Some d ↦ chain_from w k (c ∷ seen) d ])

-- a class, its superclass, and so on; a chain ends before a class that stands on it already
abbrev pub chain_of : Classes → Name → List Name
chain_of w c = chain_from w (longest w) [] c

-- so many steps of parents lead from the one to the other, or fewer
abbrev pub leads : Classes → ℕ → Name → Name → Bool
leads w zero c d = is_same c d
leads w (suc k) c d = is_same c d || list_any (λ p. leads w k p d) (parents w c)

abbrev pub is_ancestor : Classes → Name → Name → Bool
is_ancestor w c d = is_known w c && (is_same d object || leads w (longest w) c d)

abbrev pub is_ancestor_of_any : Classes → Option Name → Name → Bool
is_ancestor_of_any w None d = false
is_ancestor_of_any w (Some c) d = is_ancestor w c d

abbrev pub is_base_below : Classes → BaseRef → BaseRef → Bool
is_base_below w (BaseRef.Class c) (BaseRef.Class d) = is_same c d || is_ancestor w c d
is_base_below w a b = is_same_base a b

-- one array type is a subtype of another: of equal dimensions by their bases, of more dimensions where the other's base is `java.lang.Object`
abbrev pub is_array_below : Classes → ArrayRef → ArrayRef → Bool
is_array_below w a b = (a.dimensions == b.dimensions && is_base_below w a.base b.base) || (nat_lt b.dimensions a.dimensions && is_same_base b.base (BaseRef.Class object))

abbrev pub is_below_class : Classes → IrType → Name → Bool
is_below_class w IrType.Null d = true
is_below_class w (IrType.Class c) d = is_ancestor w c d
is_below_class w t d = is_ancestor_of_any w (hijacked_class t) d

abbrev pub is_under : Classes → IrType → IrType → Bool
is_under w s IrType.Any = not (is_same_type s IrType.NoType)
is_under w s (IrType.Class d) = is_below_class w s d
is_under w IrType.Null (IrType.Array b) = true
is_under w (IrType.Array a) (IrType.Array b) = is_array_below w a b
is_under w s t = false

abbrev pub is_sub : Classes → IrType → IrType → Bool
is_sub w s t = is_same_type s t || is_same_type s IrType.Nothing || is_under w s t

-- a target: a method, and the class that has it
pub record Found : Type 0 where
  pub owner : Name
  pub method : MethodDef

abbrev pub is_public : MethodDef → Bool
is_public d = is_same_namespace d.namespace Namespace.Public

abbrev pub is_body : MethodName → MethodDef → Bool
is_body m d = is_public d && is_same_method m d.name && is_some d.body

abbrev pub first_of : List MethodDef → Option MethodDef
first_of [] = None
first_of (d ∷ ds) = Some d

abbrev pub methods_in : Option ClassDef → List MethodDef
methods_in None = []
methods_in (Some c) = c.methods

-- the body that the class of this name has for a method
abbrev pub body_at : Classes → MethodName → Name → Option MethodDef
body_at w m c = first_of (filter (is_body m) (methods_in (class_of w c)))

abbrev pub or_found : Option MethodDef → Name → Option Found → Option Found
or_found None c other = other
or_found (Some d) c other = Some (record { owner = c; method = d })

-- the first of these classes with a body
abbrev pub nearest : Classes → MethodName → List Name → Option Found
nearest w m [] = None
nearest w m (c ∷ cs) = or_found (body_at w m c) c (nearest w m cs)

abbrev pub is_interface : ClassKind → Bool
is_interface ClassKind.Interface = true
is_interface _ = false

-- an interface of the world with a body
abbrev pub is_default : MethodName → ClassDef → Bool
is_default m c = is_interface c.kind && list_any (is_body m) c.methods

-- another of these stands below it
abbrev pub is_overridden : Classes → List ClassDef → ClassDef → Bool
is_overridden w cs c = list_any (λ d. not (is_same d.name c.name) && is_ancestor w d.name c.name) cs

abbrev pub candidates_among : Classes → List ClassDef → List ClassDef
candidates_among w cs = filter (λ c. not (is_overridden w cs c)) cs

-- the interfaces above a class with a body that none of the others overrides
abbrev pub candidates : Classes → MethodName → Name → List ClassDef
candidates w m c = candidates_among w (filter (λ d. is_default m d && is_ancestor w c d.name) w)

abbrev pub lesser_class : ClassDef → Option ClassDef → Option ClassDef
lesser_class c None = Some c
lesser_class c (Some d) = if is_before d.name c.name then Some d else Some c

-- the one whose name is least in the order of bytes
abbrev pub least_class : List ClassDef → Option ClassDef
least_class [] = None
least_class (c ∷ cs) = lesser_class c (least_class cs)

abbrev pub default_of : Classes → MethodName → Option ClassDef → Option Found
default_of w m None = None
default_of w m (Some c) = or_found (body_at w m c.name) c.name None

abbrev pub or_default : Classes → MethodName → Name → Option Found → Option Found
or_default w m c (Some found) = Some found
or_default w m c None = default_of w m (least_class (candidates w m c))

-- what a call of a public method runs on an instance of a class: the nearest body on the chain, else the least of the candidates above; there is
-- none where the method is abstract or isn't declared
abbrev pub resolved : Classes → Name → MethodName → Option Found
resolved w c m = or_default w m c (nearest w m (chain_of w c))

-- a public method with the simple name and the parameters of a reflective name
abbrev pub is_named_by : MethodName → MethodDef → Bool
is_named_by p d = is_public d && is_same_text p.simple d.name.simple && pointwise is_same_reference p.params d.name.params

abbrev pub is_narrowest : Classes → List MethodDef → MethodDef → Bool
is_narrowest w ds d = list_all (λ e. is_sub w d.result e.result) ds

abbrev pub lesser_method : MethodDef → Option MethodDef → Option MethodDef
lesser_method d None = Some d
lesser_method d (Some e) = if is_before (spelled_method e.name) (spelled_method d.name) then Some e else Some d

abbrev pub least_method : List MethodDef → Option MethodDef
least_method [] = None
least_method (d ∷ ds) = lesser_method d (least_method ds)

abbrev pub or_least : List MethodDef → Option MethodDef → Option MethodDef
or_least ds (Some d) = Some d
or_least ds None = least_method ds

-- of the methods of one class that a reflective name names: the one whose result is a subtype of the results of all, else the least
abbrev pub chosen : Classes → List MethodDef → Option MethodDef
chosen w ds = or_least ds (first_of (filter (is_narrowest w ds) ds))

abbrev pub or_further : Option MethodDef → Option MethodDef → Option MethodDef
or_further None other = other
or_further (Some d) other = Some d

-- what a reflective call reaches from a class on: in the first class of the chain that declares a method so named
abbrev pub proxy_among : Classes → MethodName → List Name → Option MethodDef
proxy_among w p [] = None
proxy_among w p (c ∷ cs) = or_further (chosen w (filter (is_named_by p) (methods_in (class_of w c)))) (proxy_among w p cs)

abbrev pub proxy_target : Classes → Name → MethodName → Option MethodDef
proxy_target w c p = proxy_among w p (chain_of w c)

-- a number in the range of bytes or shorts, and their class
abbrev pub is_small : ℤ → Name → Bool
is_small z d = (is_same d (codes "java.lang.Byte") && int_le (negsuc 127) z && int_le z (pos 127)) || (is_same d (codes "java.lang.Short") && int_le (negsuc 32767) z && int_le z (pos 32767))
