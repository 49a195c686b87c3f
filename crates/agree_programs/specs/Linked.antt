-- Programs of methods that keep the rules.
use Rattle.std.specs.Prelude.{Bool, List, ◌&&◌, IsTrue}
use Rattle.std.specs.List.{list_all, list_any}
use Rattle.sj_names.specs.Grammar.{is_class_name}
use Rattle.sj_names.specs.MethodNames.{IsMethodName}
use Rattle.sj_names.specs.Same.{is_same_text, is_same_namespace, is_same_method}
use Rattle.agree_soundness.specs.World.{World}
use Rattle.sj_names.specs.declared.entry_points.EntryPoint.{EntryPoint}
use Rattle.sj_names.specs.declared.method_names.Member.{Member}
use Rattle.agree_soundness.specs.EmittedMethods.{EmittedMethod}
use Rattle.agree_soundness.specs.Emitted.{initializer_member}
use Rattle.agree_calls.specs.Files.{IsEmitted}
use Rattle.agree_soundness.specs.Built.{Usable, members_alone}

abbrev pub is_same_member : Member → Member → Bool
is_same_member m k = is_same_text m.class k.class && is_same_namespace m.namespace k.namespace && is_same_method m.method k.method

-- one of these methods is that of the member
abbrev pub has_function : List EmittedMethod → Member → Bool
has_function fs m = list_any (λ (e : EmittedMethod). is_same_member m e.member) fs

-- what there is where just these functions are
abbrev pub functions_of : List EmittedMethod → Usable
functions_of fs = members_alone (has_function fs)

-- each of these initializers calls one of these methods
abbrev pub have_functions : List EmittedMethod → List EntryPoint → Bool
have_functions fs es = list_all (λ (e : EntryPoint). has_function fs (initializer_member e)) es

-- the method is that of its member in the classes, with the types that its name tells; its body keeps the rules by the second classes, where calls are of
-- these methods
abbrev pub IsRight : World → World → List EmittedMethod → EmittedMethod → Type 0
IsRight w typing fs e = IsEmitted w typing (functions_of fs) e

-- and its class and name are in their grammar
pub record IsWhole (w typing : World) (fs : List EmittedMethod) (e : EmittedMethod) : Type 0 where
  pub right : IsRight w typing fs e
  pub class_name : IsTrue (is_class_name e.member.class)
  pub method_name : IsMethodName e.member.method
