-- Where calls look: the class of a receiver, the target of a reflective call, and whether a value is an instance of a class.
use Rattle.std.specs.Prelude.{◌≡◌, ◌⊎◌, ℕ, ◌<◌, ℤ, pos, negsuc, ◌≤ℤ◌, List, Option, Some, None, Contains, false, codes, slice_get, if◌then◌else◌}
use Rattle.sj_names.specs.declared.method_names.MethodName.{MethodName}
use Rattle.sj_names.specs.declared.method_names.Namespace.TheVariants.{Public}
use Rattle.sj_names.specs.MethodNames.{spelled_method, spelled_result}
use Rattle.sj_trees.specs.declared.types.IrType.{IrType}
use Rattle.sj_trees.specs.declared.types.IrType.TheVariants.{Any, Class, Array}
use Rattle.sj_trees.specs.declared.classes.ClassDef.{ClassDef}
use Rattle.sj_trees.specs.declared.classes.MethodDef.{MethodDef}
use Rattle.sj_world.specs.Known.{Name, Classes, class_of, object}
use Rattle.sj_world.specs.Ancestors.{IsAncestor, IsOnChain}
use Rattle.sj_world.specs.Paths.{HasNone}
use Rattle.sj_world.specs.Refusals.{is_before}
use Rattle.sj_world.specs.Subtypes.{IsSub, hijacked_class}
use Rattle.sj_world.specs.Resolution.{Passes}

-- the class in which a call on a receiver of this type is looked up; null, nothing and no type have none
abbrev pub receiver_class : IrType → Option Name
receiver_class Any = Some object
receiver_class (Array _) = Some object
receiver_class (Class c) = Some c
receiver_class t = hijacked_class t

-- a public method with the simple name and the parameters of a reflective name
pub record IsNamedBy (p : MethodName) (d : MethodDef) : Type 0 where
  pub namespace_is : d.namespace ≡ Public
  pub simple_is : d.name.simple ≡ p.simple
  pub params_are : d.name.params ≡ p.params

-- a type is a subtype of the results of all of them
pub record IsBelowAll (w : Classes) (p : MethodName) (methods : List MethodDef) (t : IrType) : Type 0 where
  pub below : (other : MethodDef) → Contains methods other → IsNamedBy p other → IsSub w t other.result

-- the one whose result is a subtype of the results of all
pub record IsNarrowest (w : Classes) (p : MethodName) (methods : List MethodDef) (d : MethodDef) : Type 0 where
  pub among : Contains methods d
  pub named : IsNamedBy p d
  pub narrow : IsBelowAll w p methods d.result

-- the one least in the order of bytes
pub record IsLeastNamed (p : MethodName) (methods : List MethodDef) (d : MethodDef) : Type 0 where
  pub among : Contains methods d
  pub named : IsNamedBy p d
  pub least : (other : MethodDef) → Contains methods other → IsNamedBy p other → is_before (spelled_method other.name) (spelled_method d.name) ≡ false

pub record HasNoNarrowest (w : Classes) (p : MethodName) (methods : List MethodDef) : Type 0 where
  pub none : (d : MethodDef) → IsNarrowest w p methods d → ⊥

-- the one whose result is less, where the first is there, and the first where they are equal
abbrev pub lesser : Option MethodDef → MethodDef → MethodDef
lesser None d = d
lesser (Some least) d = if is_before (spelled_result d.name.result) (spelled_result least.name.result) then d else least

-- of the methods of one class the narrowest, and where none is, the least
pub data IsChosen (w : Classes) (p : MethodName) (methods : List MethodDef) (d : MethodDef) : Type 0 where
  narrowest : IsNarrowest w p methods d → IsChosen w p methods d
  least : HasNoNarrowest w p methods → IsLeastNamed p methods d → IsChosen w p methods d

-- no class of this name declares a method that the reflective name names
pub record HasNoneNamed (w : Classes) (p : MethodName) (name : Name) : Type 0 where
  pub none : (class : ClassDef) → class_of w name ≡ Some class → HasNone (IsNamedBy p) class.methods

-- the class of this name declares such a method, and d is chosen of them
pub record IsChosenAt (w : Classes) (p : MethodName) (name : Name) (d : MethodDef) : Type 0 where
  pub class : ClassDef
  pub is_class : class_of w name ≡ Some class
  pub chosen : IsChosen w p class.methods d

-- what a reflective call of p reaches from C: in the first class on its chain that declares a method which p names
pub record IsProxyTarget (w : Classes) (c : Name) (p : MethodName) (d : MethodDef) (owner : Name) : Type 0 where
  pub passes : Passes w (HasNoneNamed w p) c owner
  pub chosen : IsChosenAt w p owner d

-- a reflective call of p reaches nothing from C: no class on its chain declares a method which p names
pub record HasNoProxyTarget (w : Classes) (c : Name) (p : MethodName) : Type 0 where
  pub none : (name : Name) → IsOnChain w c name → HasNoneNamed w p name

-- the first of names whose class declares a method that p names, and which of them is chosen
pub record IsFirstChosen (w : Classes) (p : MethodName) (names : List Name) (d : MethodDef) (owner : Name) : Type 0 where
  pub place : ℕ
  pub stands : slice_get names place ≡ Some owner
  pub chosen : IsChosenAt w p owner d
  pub none_before : (i : ℕ) (n : Name) → i < place → slice_get names i ≡ Some n → HasNoneNamed w p n

-- none of the classes of these names declares a method that p names
pub record HaveNoneNamed (w : Classes) (p : MethodName) (names : List Name) : Type 0 where
  pub none : (i : ℕ) (n : Name) → slice_get names i ≡ Some n → HasNoneNamed w p n

-- a number in the range of bytes, and their class
pub record IsByte (n : ℤ) (d : Name) : Type 0 where
  pub low : negsuc 127 ≤ℤ n
  pub high : n ≤ℤ pos 127
  pub class_is : d ≡ codes "java.lang.Byte"

-- a number in the range of shorts, and their class
pub record IsShort (n : ℤ) (d : Name) : Type 0 where
  pub low : negsuc 32767 ≤ℤ n
  pub high : n ≤ℤ pos 32767
  pub class_is : d ≡ codes "java.lang.Short"

-- a number, if it is one, that is a byte or a short besides the int that it is
abbrev pub IsSmall : Option ℤ → Name → Type 0
IsSmall None d = ⊥
IsSmall (Some n) d = IsByte n d ⊎ IsShort n d

-- a value of this class, and a number where it is one, is an instance of D
abbrev pub IsInstance : Classes → Name → Option ℤ → Name → Type 0
IsInstance w class number d = IsAncestor w class d ⊎ IsSmall number d
