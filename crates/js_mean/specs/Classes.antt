-- Classes as they are written. Sections are those of ECMA-262, 11th edition (2020).
use Rattle.std.specs.Prelude.{Bool, true, false, List, [], ◌∷◌, Option, Some, None, if◌then◌else◌}
use Rattle.js_tree.specs.Names.{is_same_text}
use Rattle.js_tree.specs.Terms.{Name, Statements, no_statements, statement, super_call, Member, constructor_of, method_of, Item, class_item, subclass_item, Module}
use Rattle.js_mean.specs.Files.{module_among}
use Rattle.js_mean.specs.States.{Value, ClassLink, Program}

-- a function or a method: its parameters and its statements
pub record Code : Type 0 where
  pub parameters : List Name
  pub body : Statements

-- the method of this name: of two the later (14.6.13)
abbrev pub or_code : Option Code → Option Code → Option Code
or_code None earlier = earlier
or_code (Some c) earlier = Some c

abbrev pub method_among : List Member → Name → Option Code
method_among [] x = None
method_among (constructor_of xs ss ∷ ms) x = method_among ms x
method_among (method_of y xs ss ∷ ms) x = or_code (method_among ms x) (if is_same_text x y then Some (record { parameters = xs; body = ss }) else None)

-- the constructor; one that isn't written takes no parameters, and of a class that extends another it hands its values on (14.6.13)
abbrev pub unwritten : List ClassLink → Code
unwritten [] = record { parameters = []; body = no_statements }
unwritten (l ∷ ls) = record { parameters = []; body = statement super_call no_statements }

abbrev pub constructor_among : List ClassLink → List Member → Code
constructor_among above [] = unwritten above
constructor_among above (constructor_of xs ss ∷ ms) = record { parameters = xs; body = ss }
constructor_among above (method_of y xs ss ∷ ms) = constructor_among above ms

abbrev pub is_written : List Member → Bool
is_written [] = false
is_written (constructor_of xs ss ∷ ms) = true
is_written (method_of y xs ss ∷ ms) = is_written ms

-- what is handed on by `super()`: nothing, where the constructor is written
abbrev pub handed_on : List Member → List Value → List Value
handed_on ms vs = if is_written ms then [] else vs

-- the members of the class of this name at the top of a file
abbrev pub members_among : List Item → Name → Option (List Member)
members_among [] x = None
members_among (class_item y ms ∷ is) x = if is_same_text x y then Some ms else members_among is x
members_among (subclass_item y z ms ∷ is) x = if is_same_text x y then Some ms else members_among is x
members_among (i ∷ is) x = members_among is x

abbrev pub members_in : Option Module → Name → Option (List Member)
members_in None x = None
members_in (Some m) x = members_among m.items x

abbrev pub members_of : Program → ClassLink → Option (List Member)
members_of p l = members_in (module_among p l.file) l.name

abbrev pub method_in : Option (List Member) → Name → Option Code
method_in None x = None
method_in (Some ms) x = method_among ms x

-- the code of a method of a class
abbrev pub method_code : Program → ClassLink → Name → Option Code
method_code p l x = method_in (members_of p l) x
