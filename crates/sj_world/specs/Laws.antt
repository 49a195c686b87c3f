-- Laws of worlds.
use Rattle.std.specs.Prelude.{◌≡◌, ◌<◌, false, List, length}
use Rattle.sj_names.specs.declared.method_names.MethodName.{MethodName}
use Rattle.sj_trees.specs.declared.types.IrType.{IrType}
use Rattle.sj_trees.specs.declared.classes.MethodDef.{MethodDef}
use Rattle.sj_world.specs.declared.worlds.WorldError.{WorldError}
use Rattle.sj_world.specs.declared.worlds.WorldError.TheVariants.{NoMemory}
use Rattle.sj_world.specs.Known.{Name, Classes, object, is_hijacked}
use Rattle.sj_world.specs.Ancestors.{IsAncestor, IsNext, IsWritten}
use Rattle.sj_world.specs.Refusals.{HasNoCycle, IsWorldOf, IsRefused}
use Rattle.sj_world.specs.Tables.{AreAncestors}
use Rattle.sj_world.specs.Subtypes.{IsSub}
use Rattle.sj_world.specs.Resolution.{HasNoBody, IsNearest, Answer, Resolves}

-- nothing stands above `java.lang.Object`
pub record IsTopped (w : Classes) : Type 0 where
  pub top : (d : Name) → IsAncestor w object d → d ≡ object

-- an ancestor's ancestor is an ancestor
abbrev pub AncestorsRise : Type 0
AncestorsRise = (w : Classes) → IsTopped w → (a b c : Name) → IsAncestor w a b → IsAncestor w b c → IsAncestor w a c

abbrev pub SubtypesReflexive : Type 0
SubtypesReflexive = (w : Classes) (t : IrType) → IsSub w t t

abbrev pub SubtypesTransitive : Type 0
SubtypesTransitive = (w : Classes) → IsTopped w → (s t u : IrType) → IsSub w s t → IsSub w t u → IsSub w s u

-- a class without a body for m takes that of its superclass
abbrev pub BodiesInherited : Type 0
BodiesInherited = (w : Classes) (c d : Name) (m : MethodName) (body : MethodDef) (owner : Name) → HasNoBody w m c → IsNext w c d → IsNearest w d m body owner → IsNearest w c m body owner

-- a call resolves in one way
abbrev pub ResolvesOnce : Type 0
ResolvesOnce = (w : Classes) (c : Name) (m : MethodName) (r s : Answer) → Resolves w c m r → Resolves w c m s → r ≡ s

-- the same classes make one world
abbrev pub OneWorld : Type 0
OneWorld = (given v w : Classes) → IsWorldOf given v → IsWorldOf given w → v ≡ w

-- while there is memory they are refused for one reason
abbrev pub OneRefusal : Type 0
OneRefusal = (given : Classes) (e f : WorldError) → IsRefused given e → IsRefused given f → (e ≡ NoMemory → ⊥) → (f ≡ NoMemory → ⊥) → e ≡ f

-- classes that make a world are refused for want of memory alone
abbrev pub WorldOrRefusal : Type 0
WorldOrRefusal = (given w : Classes) (e : WorldError) → IsWorldOf given w → IsRefused given e → e ≡ NoMemory

-- no folder's class writes a hijacked class or stands above `java.lang.Object`
pub record IsPlain (w : Classes) : Type 0 where
  pub topped : (d : Name) → IsWritten w object d → ⊥
  pub apart : (c d : Name) → IsWritten w c d → is_hijacked d ≡ false

-- a class has more ancestors than its superclass
abbrev pub AncestorsGrow : Type 0
AncestorsGrow = (w : Classes) → HasNoCycle w → IsPlain w → (c d : Name) (below above : List Name) → IsNext w c d → AreAncestors w c below → AreAncestors w d above → length above < length below
