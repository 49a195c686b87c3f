-- Trees that break none of the local rules, and the locals in scope as they tell them.
use Rattle.std.proofs.Common.{◌≡◌, ℕ, Bool, true, false, ◌||◌, not, List, [], ◌∷◌, ◌++◌, Some, None, Option, refl, sym, ap, ◌∙◌, subst, append-nil, if◌then◌else◌}
use Rattle.std.specs.Prelude.{nat_eq}
use Rattle.std.specs.Cmp.Lexicographic.{pointwise}
use Rattle.sj_local.specs.declared.walks.Local.{Local}
use Rattle.sj_local.specs.Nodes.{Node}
use Rattle.sj_local.specs.TreeRules.{last_some, named, innermost, has_type, is_mutable, is_static, is_type_of, breaks_definition, breaks_variable, breaks_return, breaks_this}
use Rattle.sj_names.specs.declared.method_names.Namespace.{Namespace}
use Rattle.sj_trees.specs.Term.{Term, this_ref}
use Rattle.sj_trees.specs.Types.{class_type}
use Rattle.sj_trees.specs.declared.classes.ClassDef.{ClassDef}
use Rattle.sj_trees.specs.declared.classes.ParamDef.{ParamDef}
use Rattle.sj_trees.specs.declared.types.IrType.{IrType}
use Rattle.sj_names.proofs.Same.{impossible}
use Rattle.agree_early_errors.specs.Typing.{Scene, IsLocal, IsVariable, RunsOnObject}
use Rattle.agree_early_errors.specs.Locals.{local_of}
use Rattle.sj_trees.proofs.SameTypes.{type-same}

-- This stands in no static method, and has the type of the class
abbrev pub KeepsThis : List ℕ → Namespace → Term → Type 0
KeepsThis owner space (this_ref p t) = RunsOnObject space × (t ≡ class_type owner)
KeepsThis owner space _ = Unit {0}

pub not_false : (b : Bool) → not b ≡ false → b ≡ true
not_false true h = refl
not_false false h = impossible (sym h)

both_false : (a b : Bool) → (a || b) ≡ false → (a ≡ false) × (b ≡ false)
both_false true b h = impossible (sym h)
both_false false b h = (refl, h)

runs : (n : Namespace) → is_static n ≡ false → RunsOnObject n
runs Namespace.PublicStatic h = impossible (sym h)
runs Namespace.PrivateStatic h = impossible (sym h)
runs _ h = tt

pub keeps_this : (c : ClassDef) (space : Namespace) (t : Term) → breaks_this c space t ≡ false → KeepsThis c.name space t
keeps_this c space (this_ref p t) h = let parts = both_false (is_static space) (not (is_type_of t c.name)) h in (runs space parts.0, type-same t (class_type c.name) (not_false (is_type_of t c.name) parts.1))
keeps_this c space _ h = tt

-- no tree of these, in a method of this class and this namespace, breaks the rules on definitions, variables, jumps and This
pub record Keeps (owner : List ℕ) (space : Namespace) (x : Node) : Type 0 where
  pub definition : breaks_definition x.context.in_block x.tree ≡ false
  pub variable : breaks_variable x.context.scope x.tree ≡ false
  pub jump : breaks_return x.context.labels x.tree ≡ false
  pub this : KeepsThis owner space x.tree

abbrev pub AllKeep : List ℕ → Namespace → List Node → Type 0
AllKeep owner space [] = Unit {0}
AllKeep owner space (x ∷ xs) = Keeps owner space x × AllKeep owner space xs

pub keep-front : (owner : List ℕ) (space : Namespace) (xs ys : List Node) → AllKeep owner space (xs ++ ys) → AllKeep owner space xs
keep-front owner space [] ys h = tt
keep-front owner space (x ∷ xs) ys h = (h.0, keep-front owner space xs ys h.1)

pub keep-behind : (owner : List ℕ) (space : Namespace) (xs ys : List Node) → AllKeep owner space (xs ++ ys) → AllKeep owner space ys
keep-behind owner space [] ys h = h
keep-behind owner space (x ∷ xs) ys h = keep-behind owner space xs ys h.1

-- a local of the rules and one of a scene
pub data SameLocal : Option Local → Option ParamDef → Type 0 where
  neither : SameLocal None None
  both_have : (d : ParamDef) → SameLocal (Some (record { name = d.name; tpe = d.tpe; mutable = d.«mutable» })) (Some d)

-- the locals in scope are the same on both sides
pub record SameScope (x : List Local) (ds : List ParamDef) : Type 0 where
  pub same : (y : List ℕ) → SameLocal (innermost x y) (local_of ds y)

pub innermost-behind : (ls : List Local) (l : Local) (y : List ℕ) → innermost (ls ++ l ∷ []) y ≡ (if pointwise nat_eq y l.name then Some l else innermost ls y)
innermost-behind [] l y = go (pointwise nat_eq y l.name)
  where
    go : (b : Bool) → last_some (if b then Some l else None) None ≡ (if b then Some l else None)
    go true = refl
    go false = refl
innermost-behind (m ∷ ms) l y = ap (last_some (named y m)) (innermost-behind ms l y) ∙ go (pointwise nat_eq y l.name)
  where
    go : (b : Bool) → last_some (named y m) (if b then Some l else innermost ms y) ≡ (if b then Some l else last_some (named y m) (innermost ms y))
    go true = refl
    go false = refl

pub scope-behind : (ls : List Local) (ds : List ParamDef) (d : ParamDef) → SameScope ls ds → SameScope (ls ++ record { name = d.name; tpe = d.tpe; mutable = d.«mutable» } ∷ []) (d ∷ ds)
scope-behind ls ds d h = record { same = λ y. subst (λ o. SameLocal o (local_of (d ∷ ds) y)) (sym (innermost-behind ls (record { name = d.name; tpe = d.tpe; mutable = d.«mutable» }) y)) (go y (pointwise nat_eq y d.name)) }
  where
    go : (y : List ℕ) (b : Bool) → SameLocal (if b then Some (record { name = d.name; tpe = d.tpe; mutable = d.«mutable» }) else innermost ls y) (if b then Some d else local_of ds y)
    go y true = both_have d
    go y false = h.same y

pub scope-nothing : (ls : List Local) (ds : List ParamDef) → SameScope ls ds → SameScope (ls ++ []) ds
scope-nothing ls ds h = subst (λ q. SameScope q ds) (sym (append-nil ls)) h

pub local-is : (s : Scene) (y : List ℕ) (t : IrType) (o : Option Local) (q : Option ParamDef) → local_of s.locals y ≡ q → SameLocal o q → has_type t o ≡ true → IsLocal s y t
local-is s y t _ _ e neither h = impossible h
local-is s y t _ _ e (both_have d) h = record { local = d; is = e; type_is = sym (type-same t d.tpe h) }

pub variable-is : (s : Scene) (y : List ℕ) (t : IrType) (o : Option Local) (q : Option ParamDef) → local_of s.locals y ≡ q → SameLocal o q → has_type t o ≡ true → is_mutable o ≡ true → IsVariable s y t
variable-is s y t _ _ e neither h k = impossible h
variable-is s y t _ _ e (both_have d) h k = record { local = d; is = e; type_is = sym (type-same t d.tpe h); «mutable» = k }
