-- What makes a file wrong before anything runs: the early errors of ECMA-262, 11th edition (2020), that a text of the subset can have.
use Rattle.std.specs.Prelude.{Bool, true, false, List, [], ◌∷◌, ◌++◌, ◌&&◌, not}
use Rattle.std.specs.List.{list_all, list_any}
use Rattle.js_tree.specs.Names.{is_same_text}
use Rattle.js_tree.specs.Terms.{Name, Statement, const_of, let_of, declare_of, super_call, break_nearest, break_to, if_only, if_else, while_of, do_forever, labeled_of, try_catch, try_finally, switch_on, Statements, no_statements, statement, Cases, no_cases, switch_case, Member, constructor_of, method_of, Item, const_item, object_item, let_item, expression_item, function_item, class_item, subclass_item, Module}
use Rattle.js_tree.specs.declared.items.JsImport.{JsImport}

abbrev pub is_among : List Name → Name → Bool
is_among xs x = list_any (is_same_text x) xs

abbrev pub are_distinct : List Name → Bool
are_distinct [] = true
are_distinct (x ∷ xs) = not (is_among xs x) && are_distinct xs

-- the names that a list of statements declares (13.2.5)
abbrev pub declared : Statements → List Name
declared no_statements = []
declared (statement (const_of x e) ss) = x ∷ declared ss
declared (statement (let_of x e) ss) = x ∷ declared ss
declared (statement (declare_of x) ss) = x ∷ declared ss
declared (statement _ ss) = declared ss

-- where a statement stands: inside these labels, inside a loop or a switch, in the constructor of a class with `extends`
pub record Place : Type 0 where
  pub labels : List Name
  pub breakable : Bool
  pub super_allowed : Bool

-- inside a loop or a switch
abbrev pub in_loop : Place → Place
in_loop at = record at { breakable = true }

abbrev pub in_label : Name → Place → Place
in_label x at = record at { labels = x ∷ at.labels }

abbrev mutual
  -- no block declares a name twice (13.2.1), no label stands inside itself (13.13.2, 14.1.2), each break has a target (13.9.1, 14.1.2),
  -- a catch variable counts with its block (13.15.1), and `super()` stands where it may (14.3.1, 14.6.1)
  pub is_proper : Place → Statement → Bool
  is_proper at super_call = at.super_allowed
  is_proper at break_nearest = at.breakable
  is_proper at (break_to x) = is_among at.labels x
  is_proper at (if_only c ss) = are_distinct (declared ss) && are_proper at ss
  is_proper at (if_else c ss ts) = are_distinct (declared ss) && are_proper at ss && are_distinct (declared ts) && are_proper at ts
  is_proper at (while_of c ss) = are_distinct (declared ss) && are_proper (in_loop at) ss
  is_proper at (do_forever ss) = are_distinct (declared ss) && are_proper (in_loop at) ss
  is_proper at (labeled_of x ss) = not (is_among at.labels x) && are_distinct (declared ss) && are_proper (in_label x at) ss
  is_proper at (try_catch ss x ts) = are_distinct (declared ss) && are_proper at ss && are_distinct (x ∷ declared ts) && are_proper at ts
  is_proper at (try_finally ss ts) = are_distinct (declared ss) && are_proper at ss && are_distinct (declared ts) && are_proper at ts
  is_proper at (switch_on e cs ss) = are_proper_cases (in_loop at) cs && are_distinct (declared ss) && are_proper (in_loop at) ss
  is_proper at _ = true

  pub are_proper : Place → Statements → Bool
  are_proper at no_statements = true
  are_proper at (statement s ss) = is_proper at s && are_proper at ss

  pub are_proper_cases : Place → Cases → Bool
  are_proper_cases at no_cases = true
  are_proper_cases at (switch_case ks ss cs) = are_distinct (declared ss) && are_proper at ss && are_proper_cases at cs

-- the body of a function, whose parameters count with its own names (14.1.2)
abbrev pub is_proper_function : Bool → List Name → Statements → Bool
is_proper_function super_allowed xs ss = are_distinct (xs ++ declared ss) && are_proper (record { labels = []; breakable = false; super_allowed = super_allowed }) ss

abbrev pub is_proper_member : Bool → Member → Bool
is_proper_member extends (constructor_of xs ss) = is_proper_function extends xs ss
is_proper_member extends (method_of p xs ss) = is_proper_function false xs ss

abbrev pub is_constructor : Member → Bool
is_constructor (constructor_of xs ss) = true
is_constructor (method_of p xs ss) = false

-- a class has no two constructors (14.6.1)
abbrev pub has_one_constructor : List Member → Bool
has_one_constructor [] = true
has_one_constructor (constructor_of xs ss ∷ ms) = not (list_any is_constructor ms)
has_one_constructor (method_of p xs ss ∷ ms) = has_one_constructor ms

abbrev pub is_proper_item : Item → Bool
is_proper_item (function_item x xs ss) = is_proper_function false xs ss
is_proper_item (class_item x ms) = has_one_constructor ms && list_all (is_proper_member false) ms
is_proper_item (subclass_item x y ms) = has_one_constructor ms && list_all (is_proper_member true) ms
is_proper_item _ = true

-- the names that items declare: a function at the top of a module counts with the others (15.2.1.11)
abbrev pub item_names : List Item → List Name
item_names [] = []
item_names (const_item x e ∷ is) = x ∷ item_names is
item_names (object_item x ps ∷ is) = x ∷ item_names is
item_names (let_item x e ∷ is) = x ∷ item_names is
item_names (expression_item e ∷ is) = item_names is
item_names (function_item x xs ss ∷ is) = x ∷ item_names is
item_names (class_item x ms ∷ is) = x ∷ item_names is
item_names (subclass_item x y ms ∷ is) = x ∷ item_names is

abbrev pub imported_names : List JsImport → List Name
imported_names [] = []
imported_names (i ∷ is) = i.names ++ imported_names is

abbrev pub top_names : Module → List Name
top_names m = imported_names m.imports ++ item_names m.items

-- a module: no name is declared twice, none is exported twice or without being declared (15.2.1.1), and its items are proper
abbrev pub is_proper_module : Module → Bool
is_proper_module m = are_distinct (top_names m) && are_distinct m.exports && list_all (is_among (top_names m)) m.exports && list_all is_proper_item m.items
