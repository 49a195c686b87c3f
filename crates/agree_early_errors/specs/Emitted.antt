-- The functions of methods that are emitted, and a module of these functions that calls initializers.
use Rattle.std.specs.Prelude.{List, [], ◌++◌, map, Some, IsTrue}
use Rattle.agree_early_errors.specs.EmittedMethods.{EmittedMethod}
use Rattle.agree_early_errors.specs.Once.{DefinesOnce}
use Rattle.js_mean.specs.Terms.{call_of, no_expressions, Item, expression_item, Piece, Module}
use Rattle.agree_body_rules.specs.Lookup.{own_targets}
use Rattle.agree_body_rules.specs.Desugar.{desugared}
use Rattle.agree_body_rules.specs.Pieces.{piece_of}
use Rattle.agree_body_rules.specs.Templates.{member_name}
use Rattle.sj_names.specs.Grammar.{is_class_name}
use Rattle.sj_names.specs.MethodNames.{IsMethodName}
use Rattle.sj_names.specs.declared.entry_points.EntryPoint.{EntryPoint}
use Rattle.sj_names.specs.declared.method_names.Member.{Member}
use Rattle.sj_names.specs.declared.method_names.Namespace.TheVariants.{PublicStatic}
use Rattle.sj_names.specs.declared.references.TypeRef.TheVariants.{Void}

-- its piece, where each member that is called on a receiver is its own target, and the item in it
abbrev pub piece_of_method : EmittedMethod → Piece
piece_of_method e = piece_of own_targets e.member (desugared e.definition e.its_body)

abbrev pub function_item_of : EmittedMethod → Item
function_item_of e = (piece_of_method e).item

-- the member that an initializer calls
abbrev pub initializer_member : EntryPoint → Member
initializer_member e = record { class = e.class; namespace = PublicStatic; method = record { simple = e.method; params = []; result = Some Void } }

abbrev pub call_item_of : EntryPoint → Item
call_item_of e = expression_item (call_of (member_name (initializer_member e)) no_expressions)

-- the functions of these methods in this order, and the calls of these initializers
abbrev pub module_with : List EmittedMethod → List EntryPoint → Module
module_with fs es = record { imports = []; items = map function_item_of fs ++ map call_item_of es; exports = [] }

-- the locals and parameters of the method are defined once, and its class and name are in their grammar
pub record IsNamed (e : EmittedMethod) : Type 0 where
  pub once : DefinesOnce e.definition e.its_body
  pub class_name : IsTrue (is_class_name e.member.class)
  pub method_name : IsMethodName e.member.method
