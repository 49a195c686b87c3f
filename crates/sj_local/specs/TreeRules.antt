-- The rules on the trees of a body.
use Rattle.std.specs.Prelude.{◌≡◌, ℕ, ℤ, ◌+◌, Bool, true, false, List, [], ◌∷◌, ◌++◌, ◌&&◌, ◌||◌, not, map, slice_get, Option, Some, None, option_map, option_and_then, if◌then◌else◌}
use Rattle.std.specs.Ordering.{int_eq}
use Rattle.std.specs.List.{list_any}
use Rattle.sj_names.specs.declared.method_names.Namespace.{Namespace}
use Rattle.sj_names.specs.declared.method_names.Namespace.TheVariants.{PublicStatic, PrivateStatic, Constructor}
use Rattle.sj_trees.specs.declared.types.IrType.{IrType}
use Rattle.sj_trees.specs.declared.classes.ClassKind.{ClassKind}
use Rattle.sj_trees.specs.declared.classes.ClassKind.TheVariants.{ModuleClass}
use Rattle.sj_trees.specs.declared.classes.ClassDef.{ClassDef}
use Rattle.sj_trees.specs.declared.classes.MethodDef.{MethodDef}
use Rattle.sj_trees.specs.declared.classes.ParamDef.{ParamDef}
use Rattle.sj_trees.specs.Types.{class_type}
use Rattle.sj_trees.specs.Term.{Term, Terms, Cases, no_terms, more_terms, no_cases, more_cases, var_def, block_of, labeled, assign, return_to, try_catch, match_on, store_module, select, select_static, array_select, var_ref, this_ref}
use Rattle.sj_local.specs.declared.walks.Local.{Local}
use Rattle.sj_local.specs.declared.walks.Declaration.{Declaration}
use Rattle.sj_local.specs.declared.walks.Declaration.TheVariants as declaration
use Rattle.sj_local.specs.declared.walks.Declared.{Declared}
use Rattle.sj_local.specs.declared.rules.Rule.{Rule}
use Rattle.sj_local.specs.declared.rules.Rule.TheVariants as rules
use Rattle.sj_local.specs.Firsts.{in_32_bits, FirstRepeat}
use Rattle.sj_local.specs.Names.{is_same_text, is_same_type, is_empty_type}
use Rattle.sj_local.specs.Nodes.{Context, Node, nodes}

-- the last of these that is there
abbrev pub last_some : {A : Type 0} → Option A → Option A → Option A
last_some earlier None = earlier
last_some earlier (Some x) = Some x

abbrev pub named : List ℕ → Local → Option Local
named name l = if is_same_text name l.name then Some l else None

-- the innermost local of a name
abbrev pub innermost : List Local → List ℕ → Option Local
innermost [] name = None
innermost (l ∷ ls) name = last_some (named name l) (innermost ls name)

abbrev pub has_type : IrType → Option Local → Bool
has_type t None = false
has_type t (Some l) = is_same_type t l.tpe

abbrev pub is_mutable : Option Local → Bool
is_mutable None = false
is_mutable (Some l) = l.mutable

abbrev pub has_no_terms : Terms → Bool
has_no_terms no_terms = true
has_no_terms (more_terms t ts) = false

-- A definition stands directly in a block, and not with a type that has no value. A block isn't empty.
abbrev pub breaks_definition : Bool → Term → Bool
breaks_definition in_block (var_def p x t m e) = not in_block || is_empty_type t
breaks_definition in_block (block_of p ts) = has_no_terms ts
breaks_definition in_block _ = false

-- what is assigned to, if it is a variable, is a mutable one
abbrev pub is_immutable : List Local → Term → Bool
is_immutable scope (var_ref p x t) = not (is_mutable (innermost scope x))
is_immutable scope _ = false

-- A variable is in scope, with its type. What is assigned is a mutable one.
abbrev pub breaks_variable : List Local → Term → Bool
breaks_variable scope (var_ref p x t) = not (has_type t (innermost scope x))
breaks_variable scope (assign p a e) = is_immutable scope a
breaks_variable scope _ = false

-- A Return names a label around it.
abbrev pub breaks_return : List (List ℕ) → Term → Bool
breaks_return labels (return_to p e l) = not (list_any (is_same_text l) labels)
breaks_return labels _ = false

abbrev pub is_static : Namespace → Bool
is_static PublicStatic = true
is_static PrivateStatic = true
is_static _ = false

abbrev pub is_constructor : Namespace → Bool
is_constructor Constructor = true
is_constructor _ = false

-- the type is that of the class
abbrev pub is_type_of : IrType → List ℕ → Bool
is_type_of t class = is_same_type t (class_type class)

-- This doesn't stand in a static method, and has the type of the class.
abbrev pub breaks_this : ClassDef → Namespace → Term → Bool
breaks_this c space (this_ref p t) = is_static space || not (is_type_of t c.name)
breaks_this c space _ = false

abbrev pub is_module : ClassKind → Bool
is_module ModuleClass = true
is_module _ = false

abbrev pub is_this : Term → Bool
is_this (this_ref p t) = true
is_this _ = false

abbrev pub is_module_constructor : ClassDef → Namespace → Bool
is_module_constructor c space = is_module c.kind && is_constructor space

-- A module is stored only in the constructor of the module class that is named, and what is stored is This.
abbrev pub breaks_store : ClassDef → Namespace → Term → Bool
breaks_store c space (store_module p d e) = not (is_module_constructor c space && is_same_text d c.name && is_this e)
breaks_store c space _ = false

abbrev pub is_target : Term → Bool
is_target (var_ref p x t) = true
is_target (select p e d f t) = true
is_target (select_static p d f t) = true
is_target (array_select p a i t) = true
is_target _ = false

-- What is assigned to is a variable, a field or an item of an array.
abbrev pub breaks_target : Term → Bool
breaks_target (assign p a e) = not (is_target a)
breaks_target _ = false

-- whether one comes that came before, behind others that are given
abbrev pub has_repeat : List ℤ → List ℤ → Bool
has_repeat earlier [] = false
has_repeat earlier (k ∷ ks) = list_any (int_eq k) earlier || has_repeat (earlier ++ k ∷ []) ks

-- the same of the keys of cases
abbrev pub have_repeat : List ℤ → Cases → Bool
have_repeat earlier no_cases = false
have_repeat earlier (more_cases ks t cs) = has_repeat earlier ks || have_repeat (earlier ++ ks) cs

-- No key stands twice in a match.
abbrev pub breaks_keys : Term → Bool
breaks_keys (match_on p s cs d t) = have_repeat [] cs
breaks_keys _ = false

-- a tree breaks a rule where it stands
abbrev pub breaks : Rule → ClassDef → Namespace → Node → Bool
breaks rules.Definition c space n = breaks_definition n.context.in_block n.tree
breaks rules.Variable c space n = breaks_variable n.context.scope n.tree
breaks rules.ReturnLabel c space n = breaks_return n.context.labels n.tree
breaks rules.This c space n = breaks_this c space n.tree
breaks rules.StoreModule c space n = breaks_store c space n.tree
breaks rules.Target c space n = breaks_target n.tree
breaks rules.Keys c space n = breaks_keys n.tree
breaks other c space n = false

abbrev pub local_of : ParamDef → Local
local_of p = record { name = p.name; tpe = p.tpe; mutable = p.mutable }

-- where the tree of a body stands
abbrev pub outermost : MethodDef → Context
outermost m = record { scope = map local_of m.params; labels = []; in_block = false }

abbrev pub body_nodes : MethodDef → Option Term → List Node
body_nodes m None = []
body_nodes m (Some t) = nodes (outermost m) t

-- the trees of a method
abbrev pub method_nodes : MethodDef → List Node
method_nodes m = body_nodes m m.body

-- what a tree declares
abbrev pub declarations : Term → List Declaration
declarations (var_def p x t m e) = declaration.Local x ∷ []
declarations (try_catch p b x h t) = declaration.Local x ∷ []
declarations (labeled p l t e) = declaration.Label l ∷ []
declarations _ = []

-- what the tree of this number declares
abbrev pub declared_by : ℕ → Term → List Declared
declared_by n t = map (λ d. record { declaration = d; tree = n }) (declarations t)

-- what trees declare that are numbered from n
abbrev pub declared_from : ℕ → List Node → List Declared
declared_from n [] = []
declared_from n (x ∷ xs) = declared_by n x.tree ++ declared_from (in_32_bits (n + 1)) xs

abbrev pub declared_param : ParamDef → Declared
declared_param p = record { declaration = declaration.Local p.name; tree = 0 }

-- what a method declares: its parameters, at tree 0, and what its trees declare
abbrev pub declared_in : MethodDef → List Declared
declared_in m = map declared_param m.params ++ declared_from 0 (method_nodes m)

-- the tree of the first declaration of a name or a label that was declared already
pub record DeclaresTwice (m : MethodDef) (tree : Option ℕ) : Type 0 where
  pub index : Option ℕ
  pub first : FirstRepeat [] (map (λ (d : Declared). d.declaration) (declared_in m)) index
  pub is_tree : tree ≡ option_and_then (λ n. option_map (λ (d : Declared). d.tree) (slice_get (declared_in m) n)) index
