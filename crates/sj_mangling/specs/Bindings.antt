-- The names of bindings in the emitted code.
use Rattle.std.specs.Prelude.{◌≡◌, ℕ, List, ◌++◌, codes, IsTrue}
use Rattle.sj_names.specs.Grammar.{is_class_name}
use Rattle.sj_names.specs.MethodNames.{spelled_method, IsMethodName}
use Rattle.sj_names.specs.declared.method_names.MethodName.{MethodName}
use Rattle.sj_names.specs.declared.method_names.Namespace.{Namespace}
use Rattle.sj_names.specs.declared.method_names.Namespace.TheVariants.{Public, PublicStatic, Private, PrivateStatic, Constructor}
use Rattle.sj_mangling.specs.Mangling.{mangled}
use Rattle.sj_mangling.specs.declared.bindings.ClassBinding.{ClassBinding}
use Rattle.sj_mangling.specs.declared.bindings.ClassBinding.TheVariants.{Constants, Class, Instance, LoadModule, StoreModule, IsInstance, AsInstance, Marker}
use Rattle.sj_mangling.specs.declared.bindings.FieldBinding.{FieldBinding}
use Rattle.sj_mangling.specs.declared.bindings.FieldBinding.TheVariants.{Property, Variable, Setter}
use Rattle.sj_mangling.specs.declared.bindings.MethodBinding.{MethodBinding}
use Rattle.sj_mangling.specs.declared.bindings.MethodBinding.TheVariants.{Entry, Dispatch, Reflective}
use Rattle.sj_mangling.specs.declared.bindings.LocalBinding.{LocalBinding}
use Rattle.sj_mangling.specs.declared.bindings.LocalBinding.TheVariants.{Local, Label}

-- the prefix of a function of this namespace
abbrev pub function_prefix : Namespace → List ℕ
function_prefix Public = codes "f"
function_prefix PublicStatic = codes "s"
function_prefix Private = codes "p"
function_prefix PrivateStatic = codes "ps"
function_prefix Constructor = codes "ct"

-- the function of a method: its namespace, class and name
abbrev pub function_name : Namespace → List ℕ → MethodName → List ℕ
function_name namespace class method = function_prefix namespace ++ codes "_" ++ mangled class ++ codes "__" ++ mangled (spelled_method method)

-- functions of two members have two names
abbrev pub FunctionNamesDiffer : Type 0
FunctionNamesDiffer = (one other : Namespace) (class another : List ℕ) (method further : MethodName) →
    IsTrue (is_class_name class) → IsTrue (is_class_name another) → IsMethodName method → IsMethodName further →
    function_name one class method ≡ function_name other another further → (one ≡ other) × (class ≡ another) × (method ≡ further)

-- the other bindings: of a class, of a field of a class, of a method name, of a local variable or label
abbrev pub class_prefix : ClassBinding → List ℕ
class_prefix Constants = codes "k_"
class_prefix Class = codes "c_"
class_prefix Instance = codes "n_"
class_prefix LoadModule = codes "g_"
class_prefix StoreModule = codes "q_"
class_prefix IsInstance = codes "is_"
class_prefix AsInstance = codes "as_"
class_prefix Marker = codes "i_"

abbrev pub class_binding : ClassBinding → List ℕ → List ℕ
class_binding binding class = class_prefix binding ++ mangled class

abbrev pub field_prefix : FieldBinding → List ℕ
field_prefix Property = codes "f_"
field_prefix Variable = codes "t_"
field_prefix Setter = codes "u_"

abbrev pub field_binding : FieldBinding → List ℕ → List ℕ → List ℕ
field_binding binding class field = field_prefix binding ++ mangled class ++ codes "__" ++ mangled field

abbrev pub method_prefix : MethodBinding → List ℕ
method_prefix Entry = codes "m_"
method_prefix Dispatch = codes "d_"
method_prefix Reflective = codes "r_"

abbrev pub method_binding : MethodBinding → MethodName → List ℕ
method_binding binding method = method_prefix binding ++ mangled (spelled_method method)

abbrev pub local_prefix : LocalBinding → List ℕ
local_prefix Local = codes "v_"
local_prefix Label = codes "l_"

abbrev pub local_binding : LocalBinding → List ℕ → List ℕ
local_binding binding name = local_prefix binding ++ mangled name
