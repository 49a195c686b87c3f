-- The module of methods: its items, the rules of printing, and the bytes that spell it.
use Rattle.std.proofs.Common.{◌≡◌, ℕ, true, List, [], ◌∷◌, ◌++◌, map, Some, refl, ap, subst, ⊎_elim, Contains}
use Rattle.std.specs.List.{All}
use Rattle.std.proofs.lemmas.List.Elements.{All-nil, All-cons, All-head, All-tail, All-append, Contains-append_left, Contains-append_right, Contains-push}
use Rattle.sj_agree.specs.Shows.{initializers}
use Rattle.sj_agree.specs.World.{World}
use Rattle.js_mean.specs.Shows as js_showing
use Rattle.js_tree.specs.Rules.{IsName, IsImport, IsItem, IsPiece, IsModule}
use Rattle.js_tree.specs.Spelling.{Spells}
use Rattle.js_tree.specs.Terms.{Item}
use Rattle.sj_agree.specs.Agrees.{Agrees}
use Rattle.agree_programs.specs.EmittedMethods.{EmittedMethod, HasFunction, HaveOwnMembers}
use Rattle.agree_programs.specs.Emitted.{piece_of_method, function_item_of, initializer_member, call_item_of, module_with}
use Rattle.agree_programs.specs.Files.{program_with}
use Rattle.agree_programs.proofs.Lists.{nothing_in, in_front_or_behind}
use Rattle.agree_programs.specs.Templates.{member_name}
use Rattle.sj_names.specs.declared.entry_points.EntryPoint.{EntryPoint}
use Rattle.sj_names.specs.declared.method_names.Member.{Member}
use Rattle.agree_programs.specs.Linked.{have_functions}
use Rattle.agree_programs.proofs.Same.{has_function-is}
use Rattle.agree_programs.proofs.Whole.{called}
use Rattle.sj_trees.specs.declared.classes.ClassDef.{ClassDef}
use Rattle.agree_classes.specs.Judged.{IsJudgedClass, IsJudgedMethod}
use Rattle.agree_classes.specs.Written.{items_of, items_with}
use Rattle.agree_classes.proofs.Judged.{judged_agree}

items_are : (fs : List EmittedMethod) → map function_item_of fs ≡ items_of (map piece_of_method fs)
items_are [] = refl
items_are (f ∷ fs) = ap (λ (is : List Item). function_item_of f ∷ is) (items_are fs)

pub modules_are : (fs : List EmittedMethod) (es : List EntryPoint) → (module_with fs es).items ≡ items_with (map piece_of_method fs) es
modules_are fs es = ap (λ (is : List Item). is ++ map call_item_of es) (items_are fs)

function_items : (fs : List EmittedMethod) → All IsPiece (map piece_of_method fs) → All IsItem (map function_item_of fs)
function_items [] h = All-nil IsItem
function_items (f ∷ fs) h = All-cons IsItem (function_item_of f) (map function_item_of fs) (All-head IsPiece (piece_of_method f) (map piece_of_method fs) h).2 (function_items fs (All-tail IsPiece (piece_of_method f) (map piece_of_method fs) h))

named : (fs : List EmittedMethod) → All IsPiece (map piece_of_method fs) → (g : EmittedMethod) → Contains fs g → IsName (member_name g.member)
named [] h g i = nothing_in g i
named (f ∷ fs) h g i = ⊎_elim (λ same. subst (λ (e : EmittedMethod). IsName (member_name e.member)) same (All-head IsPiece (piece_of_method f) (map piece_of_method fs) h).0) (λ later. named fs (All-tail IsPiece (piece_of_method f) (map piece_of_method fs) h) g later) (in_front_or_behind f fs g i)

call_items : (fs : List EmittedMethod) → All IsPiece (map piece_of_method fs) → (es : List EntryPoint) → ((e : EntryPoint) → Contains es e → HasFunction fs (initializer_member e)) → All IsItem (map call_item_of es)
call_items fs h [] has = All-nil IsItem
call_items fs h (e ∷ es) has =
    let f = has e (Contains-append_left (e ∷ []) es e (Contains-push [] e)) in
    All-cons IsItem (call_item_of e) (map call_item_of es) (subst (λ (m : Member). IsName (member_name m)) f.is (named fs h f.method f.listed), tt) (call_items fs h es (λ d i. has d (Contains-append_right (e ∷ []) es d i)))

pub modules_keep : (fs : List EmittedMethod) (es : List EntryPoint) → All IsPiece (map piece_of_method fs) → have_functions fs es ≡ true → IsModule (module_with fs es)
modules_keep fs es h all = (All-nil IsImport, All-append IsItem (map function_item_of fs) (map call_item_of es) (function_items fs h) (call_items fs h es (λ e i. has_function-is fs (initializer_member e) (called fs es all e i))), All-nil IsName)

pub files_agree : (w : World) (entries : List EntryPoint) (id : List ℕ) (fs : List EmittedMethod) (bytes : List ℕ) → ((c : ClassDef) → Contains w c → IsJudgedClass c) → ((e : EmittedMethod) → Contains fs e → IsJudgedMethod w fs e) → HaveOwnMembers fs → have_functions fs (initializers entries id) ≡ true → Spells (module_with fs (initializers entries id)) bytes → Agrees w entries (record { name = js_showing.file_of id; bytes = bytes } ∷ []) id
files_agree w entries id fs bytes classes methods own called spelled = record {
  program = program_with id fs (initializers entries id);
  read = js_showing.one_more (record { name = js_showing.file_of id; bytes = bytes }) (Some (module_with fs (initializers entries id))) [] [] spelled js_showing.no_files;
  agree = judged_agree w entries id fs classes methods own called;
}
