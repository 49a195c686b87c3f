-- The classes of files have listings.
use Rattle.std.proofs.Common.{Bool, true, false, List, [], ◌∷◌}
use Rattle.std.specs.Prelude.{MatchOption}
use Rattle.sj_names.specs.Grammar.{is_plain_name, is_class_name}
use Rattle.sj_read_spec.specs.declared.members.MemberDef.{MemberDef}
use Rattle.sj_read_spec.specs.declared.members.MemberDef.TheVariants.{Field, Method}
use Rattle.sj_read_spec.specs.declared.codes.MemberTag.{MemberTag}
use Rattle.sj_read_spec.specs.declared.codes.MemberTag.TheVariants as tags
use Rattle.exact_place.specs.Grammar.{Spelling}
use Rattle.sj_read_spec.specs.Tables.{Tables}
use Rattle.sj_read_spec.specs.Types.{IsOption, IsOptionOf}
use Rattle.sj_read_spec.specs.Classes.{IsBody, IsParam, IsField, IsMethod, IsMemberOf, IsMember, fields_in, methods_in, IsClass}
use Rattle.sj_read_spec.specs.Files.{IsTables, IsContents, FileIs}
use Rattle.sj_text_spec.specs.Rules.{IsListedTree, IsListedParam, IsListedField, IsListedMethod, HasListing}
use Rattle.sj_text_files.specs.Listed.{EachFileIsListed}
use Rattle.sj_text_files.proofs.Ensures.{AllOf, Ensures, anything, behind, gives, listed, entry, all_none, all_more, all_first, all_others}
use Rattle.sj_text_files.proofs.ListedNames.{AreWell, a_name, a_text, a_string, a_method_name, a_type}
use Rattle.sj_text_files.proofs.ListedTrees.{a_tree}

option_behind : {A : Type 0} {Q : A → Type 0} {P : Spelling A} → Ensures Q P → (there : Bool) → Ensures (λ o. MatchOption o (Unit {0}) Q) (IsOptionOf P there)
option_behind p true = behind p (λ x q. gives q)
option_behind p false = gives tt

option : {A : Type 0} {Q : A → Type 0} {P : Spelling A} → Ensures Q P → Ensures (λ o. MatchOption o (Unit {0}) Q) (IsOption P)
option p = behind (anything _) (λ there k. option_behind p there)

a_body : (t : Tables) → AreWell t → Ensures IsListedTree (IsBody t)
unfolding IsBody
a_body t w = a_tree 200 t w

a_param : (t : Tables) → AreWell t → Ensures IsListedParam (IsParam t)
unfolding IsParam
a_param t w = behind (a_name is_plain_name t.names w.names) (λ x a. behind (anything _) (λ m k. behind (a_type t.names w.names) (λ y b. gives (a, b))))

a_field : (t : Tables) → AreWell t → Ensures IsListedField (IsField t)
unfolding IsField
a_field t w = behind (anything _) (λ p k. behind (anything _) (λ s k. behind (anything _) (λ m k. behind (a_name is_plain_name t.names w.names) (λ x a. behind (a_type t.names w.names) (λ y b. gives (a, b))))))

a_method : (t : Tables) → AreWell t → Ensures IsListedMethod (IsMethod t)
unfolding IsMethod
a_method t w = behind (anything _) (λ p k. behind (anything _) (λ n k. behind (entry t.methods w.methods) (λ m a. behind (listed (a_param t w)) (λ ps all. behind (a_type t.names w.names) (λ y b. behind (option (a_body t w)) (λ o d. behind (anything _) (λ h k. gives (a, all.at, b, d))))))))

abbrev IsListedMember : MemberDef → Type 0
IsListedMember (Field f) = IsListedField f
IsListedMember (Method m) = IsListedMethod m

member_behind : (t : Tables) → AreWell t → (tag : MemberTag) → Ensures IsListedMember (IsMemberOf t tag)
member_behind t w tags.Field = behind (a_field t w) (λ f a. gives a)
member_behind t w tags.Method = behind (a_method t w) (λ m a. gives a)

a_member : (t : Tables) → AreWell t → Ensures IsListedMember (IsMember t)
unfolding IsMember
a_member t w = behind (anything _) (λ tag k. member_behind t w tag)

fields_meet : (ms : List MemberDef) → AllOf IsListedMember ms → AllOf IsListedField (fields_in ms)
fields_meet [] all = all_none
fields_meet (Field f ∷ ms) all = all_more (all_first (Field f) ms all) (fields_meet ms (all_others (Field f) ms all))
fields_meet (Method m ∷ ms) all = fields_meet ms (all_others (Method m) ms all)

methods_meet : (ms : List MemberDef) → AllOf IsListedMember ms → AllOf IsListedMethod (methods_in ms)
methods_meet [] all = all_none
methods_meet (Field f ∷ ms) all = methods_meet ms (all_others (Field f) ms all)
methods_meet (Method m ∷ ms) all = all_more (all_first (Method m) ms all) (methods_meet ms (all_others (Method m) ms all))

a_class : (t : Tables) → AreWell t → Ensures HasListing (IsClass t)
unfolding IsClass
a_class t w = behind (anything _) (λ p k. behind (a_name is_class_name t.names w.names) (λ x a. behind (anything _) (λ kind k. behind (option (a_name is_class_name t.names w.names)) (λ s b. behind (listed (a_name is_class_name t.names w.names)) (λ is d. behind (listed (a_member t w)) (λ ms all. gives (record { name = a; superclass = b; interfaces = d.at; fields = (fields_meet ms all).at; methods = (methods_meet ms all).at })))))))

tables_meet : Ensures AreWell IsTables
unfolding IsTables
tables_meet = behind (listed a_text) (λ files k. behind (listed a_text) (λ names utf8. behind (listed (a_method_name names utf8)) (λ methods are. behind (listed a_string) (λ strings texts. gives (record { names = utf8; methods = are; strings = texts })))))

contents_meet : Ensures HasListing IsContents
unfolding IsContents
contents_meet = behind (anything _) (λ magic k. behind (anything _) (λ version k. behind tables_meet (λ t w. a_class t w)))

pub file_is_listed : EachFileIsListed
unfolding FileIs
file_is_listed bytes class is = contents_meet.meets class bytes is
