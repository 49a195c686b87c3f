-- The first rule that a class breaks, and where.
use Rattle.std.specs.Prelude.{◌≡◌, ℕ, ◌+◌, ◌&&◌, Bool, true, false, List, [], ◌∷◌, not, map, length, Option, Some, None, option_map, Result, Ok, Err, if◌then◌else◌}
use Rattle.sj_trees.specs.declared.classes.ClassDef.{ClassDef}
use Rattle.sj_trees.specs.declared.classes.MethodDef.{MethodDef}
use Rattle.sj_local.specs.declared.rules.Rule.{Rule}
use Rattle.sj_local.specs.declared.rules.Rule.TheVariants as rules
use Rattle.sj_local.specs.declared.rules.Where.{Where}
use Rattle.sj_local.specs.declared.rules.LocalError.{LocalError}
use Rattle.sj_local.specs.declared.rules.LocalError.TheVariants.{Broken, NoMemory}
use Rattle.sj_local.specs.Firsts.{in_32_bits, first_where, FirstRepeat, FirstAnswer}
use Rattle.sj_local.specs.ClassRules.{is_class, keeps_superclass, keeps_hijacked}
use Rattle.sj_local.specs.MemberRules.{field_key, method_key, breaks_field, breaks_method, is_a_constructor, exactly_one}
use Rattle.sj_local.specs.TreeRules.{is_module, breaks, method_nodes, DeclaresTwice}

-- the place of what concerns no member
abbrev pub no_member : Where
no_member = record { member = 0; tree = 0 }

-- fields are numbered first, and methods behind them
abbrev pub at_member : ℕ → Where
at_member n = record { member = in_32_bits n; tree = 0 }

abbrev pub at_method : ClassDef → ℕ → Where
at_method c n = at_member (length c.fields + n)

abbrev pub unless : Bool → Option Where
unless true = None
unless false = Some no_member

-- the first repeat among fields, else among methods
abbrev pub repeat_place : ClassDef → Option ℕ → Option ℕ → Option Where
repeat_place c (Some n) methods = Some (at_member n)
repeat_place c None methods = option_map (at_method c) methods

pub record MemberRepeats (c : ClassDef) (place : Option Where) : Type 0 where
  pub field : Option ℕ
  pub method : Option ℕ
  pub first_field : FirstRepeat [] (map field_key c.fields) field
  pub first_method : FirstRepeat [] (map method_key c.methods) method
  pub is_place : place ≡ repeat_place c field method

pub record InterfaceRepeats (c : ClassDef) (place : Option Where) : Type 0 where
  pub index : Option ℕ
  pub first : FirstRepeat [] c.interfaces index
  pub is_place : place ≡ option_map (λ n. no_member) index

-- the first method that breaks a rule on methods
abbrev pub method_place : ClassDef → Rule → Option Where
method_place c rule = option_map (at_method c) (first_where (breaks_method c rule) c.methods)

-- A module class has exactly one constructor, `<init>` without parameters. Any other class has them only if its kind is Class.
abbrev pub constructors_place : ClassDef → Option Where
constructors_place c =
    if is_class c.kind then None else
    if is_module c.kind && not (exactly_one is_a_constructor c.methods) then Some no_member else
    method_place c rules.Constructors

-- the first tree of a method that breaks a rule on trees
abbrev pub TreeBreaks : Rule → ClassDef → MethodDef → Option ℕ → Type 0
TreeBreaks rules.DeclaredTwice c m tree = DeclaresTwice m tree
TreeBreaks rule c m tree = tree ≡ option_map in_32_bits (first_where (breaks rule c m.namespace) (method_nodes m))

abbrev pub tree_place : ℕ × ℕ → Where
tree_place found = record { member = in_32_bits found.0; tree = found.1 }

-- the first method with such a tree, and that tree
pub record FirstTree (rule : Rule) (c : ClassDef) (place : Option Where) : Type 0 where
  pub found : Option (ℕ × ℕ)
  pub first : FirstAnswer (TreeBreaks rule c) (length c.fields) c.methods found
  pub is_place : place ≡ option_map tree_place found

-- where a class first breaks a rule
abbrev pub Breaks : ClassDef → Rule → Option Where → Type 0
Breaks c rules.Superclass place = place ≡ unless (keeps_superclass c)
Breaks c rules.Hijacked place = place ≡ unless (keeps_hijacked c)
Breaks c rules.InterfaceTwice place = InterfaceRepeats c place
Breaks c rules.MemberTwice place = MemberRepeats c place
Breaks c rules.Field place = place ≡ option_map at_member (first_where (breaks_field c) c.fields)
Breaks c rules.MethodName place = place ≡ method_place c rules.MethodName
Breaks c rules.Signature place = place ≡ method_place c rules.Signature
Breaks c rules.MissingBody place = place ≡ method_place c rules.MissingBody
Breaks c rules.Constructors place = place ≡ constructors_place c
Breaks c tree_rule place = FirstTree tree_rule c place

-- the rules in order
abbrev pub all_rules : List Rule
all_rules = rules.Superclass ∷ rules.Hijacked ∷ rules.InterfaceTwice ∷ rules.MemberTwice ∷ rules.Field ∷ rules.MethodName ∷ rules.Signature ∷ rules.MissingBody ∷ rules.Constructors ∷ rules.DeclaredTwice ∷ rules.Definition ∷ rules.Variable ∷ rules.ReturnLabel ∷ rules.This ∷ rules.StoreModule ∷ rules.Target ∷ rules.Keys ∷ []

-- the first rule that a class breaks, by its number, and where
abbrev pub FirstBroken : ClassDef → Option (ℕ × Where) → Type 0
FirstBroken c = FirstAnswer (Breaks c) 1 all_rules

-- the number of a rule
abbrev pub number : Rule → ℕ
number rules.Superclass = 1
number rules.Hijacked = 2
number rules.InterfaceTwice = 3
number rules.MemberTwice = 4
number rules.Field = 5
number rules.MethodName = 6
number rules.Signature = 7
number rules.MissingBody = 8
number rules.Constructors = 9
number rules.DeclaredTwice = 10
number rules.Definition = 11
number rules.Variable = 12
number rules.ReturnLabel = 13
number rules.This = 14
number rules.StoreModule = 15
number rules.Target = 16
number rules.Keys = 17

-- what the check of a class answers, unless memory ran out
abbrev pub IsCheck : ClassDef → Result (Unit {0}) LocalError → Type 0
IsCheck c (Ok _) = FirstBroken c None
IsCheck c (Err (Broken rule place)) = FirstBroken c (Some (number rule, place))
IsCheck c (Err NoMemory) = Unit {0}
