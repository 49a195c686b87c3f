-- The numbers of the codes, and the names of the reserved forms.
use Rattle.std.specs.Prelude.{ℕ, List, Option, Some, None, codes}
use Rattle.sj_trees.specs.declared.refusals.Reserved.{Reserved}
use Rattle.sj_trees.specs.declared.refusals.Reserved.TheVariants.{FloatLiteral, DoubleLiteral, Closure, JsNew, JsSelect, JsFunctionApply, JsMethodApply, JsObjectConstr, JsArrayConstr, JsImportCall, JsGlobalRef, ForIn, Debugger, ClassOf, GetClass, RecordValue, JsClass, JsModuleClass, NativeJsClass, NativeJsModuleClass, AbstractJsType, StaticConstructor, JsMethodDef, JsPropertyDef, FloatType, DoubleType, RecordType, Operator}
use Rattle.sj_trees.specs.declared.refusals.Code.{Code}
use Rattle.sj_trees.specs.declared.refusals.Code.TheVariants.{BadMagic, BadVersion, Truncated, BadIndex, BadTag, BadName, BadText, Unsupported, TooDeep, Trailing}

abbrev pub name_of : Reserved → List ℕ
name_of FloatLiteral = codes "FloatLiteral"
name_of DoubleLiteral = codes "DoubleLiteral"
name_of Closure = codes "Closure"
name_of JsNew = codes "JSNew"
name_of JsSelect = codes "JSSelect"
name_of JsFunctionApply = codes "JSFunctionApply"
name_of JsMethodApply = codes "JSMethodApply"
name_of JsObjectConstr = codes "JSObjectConstr"
name_of JsArrayConstr = codes "JSArrayConstr"
name_of JsImportCall = codes "JSImportCall"
name_of JsGlobalRef = codes "JSGlobalRef"
name_of ForIn = codes "ForIn"
name_of Debugger = codes "Debugger"
name_of ClassOf = codes "ClassOf"
name_of GetClass = codes "GetClass"
name_of RecordValue = codes "RecordValue"
name_of JsClass = codes "JSClass"
name_of JsModuleClass = codes "JSModuleClass"
name_of NativeJsClass = codes "NativeJSClass"
name_of NativeJsModuleClass = codes "NativeJSModuleClass"
name_of AbstractJsType = codes "AbstractJSType"
name_of StaticConstructor = codes "StaticConstructor"
name_of JsMethodDef = codes "JSMethodDef"
name_of JsPropertyDef = codes "JSPropertyDef"
name_of FloatType = codes "float"
name_of DoubleType = codes "double"
name_of RecordType = codes "record"
name_of Operator = codes "operator"

abbrev pub number_of : Code → ℕ
number_of BadMagic = 1
number_of BadVersion = 2
number_of Truncated = 3
number_of BadIndex = 4
number_of BadTag = 5
number_of BadName = 6
number_of BadText = 7
number_of (Unsupported form) = 8
number_of TooDeep = 9
number_of Trailing = 10

-- the form that isn't supported
abbrev pub reserved_of : Code → Option Reserved
reserved_of (Unsupported form) = Some form
reserved_of _ = None
