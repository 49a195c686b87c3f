-- The calls of initializers.
use Rattle.std.specs.Prelude.{ℕ, List, [], Some}
use Rattle.js_tree.specs.Terms.{Item, call_of, no_expressions, expression_item}
use Rattle.js_tree.specs.declared.items.Binding.{Binding}
use Rattle.sj_mangling.specs.Bindings.{function_name}
use Rattle.sj_names.specs.declared.entry_points.EntryPoint.{EntryPoint}
use Rattle.sj_names.specs.declared.method_names.Member.{Member}
use Rattle.sj_names.specs.declared.method_names.Namespace.TheVariants.{PublicStatic}
use Rattle.sj_names.specs.declared.references.TypeRef.TheVariants.{Void}

-- the member that an initializer calls: it takes and gives nothing
abbrev pub initializer : EntryPoint → Member
initializer e = record { class = e.class; namespace = PublicStatic; method = record { simple = e.method; params = []; result = Some Void } }

abbrev pub function_of : Member → List ℕ
function_of m = function_name m.namespace m.class m.method

abbrev pub call_item_of : EntryPoint → Item
call_item_of e = expression_item (call_of (function_of (initializer e)) no_expressions)

-- the binding that the call uses
abbrev pub called : EntryPoint → Binding
called e = record { owner = e.class; name = function_of (initializer e) }
