-- No folder is without a verdict.
use Rattle.std.proofs.Common.{◌≡◌, ℕ, zero, suc, List, [], ◌∷◌, ◌++◌, Option, Some, None, map, Contains, slice_get, refl, sym, ap, ◌∙◌, subst, length, inl, inr}
use Rattle.std.specs.Prelude.{◌⊎◌, option_map}
use Rattle.std.proofs.lemmas.Option.{slice_get_within, same_Some}
use Rattle.folder_sizes.specs.Sizes.{IsTooLarge}
use Rattle.sj_names.specs.declared.entry_points.EntryPoint.{EntryPoint}
use Rattle.sj_names.specs.declared.folders.SourceFile.{SourceFile}
use Rattle.sj_trees.specs.declared.classes.ClassDef.{ClassDef}
use Rattle.sj_trees.specs.declared.classes.MethodDef.{MethodDef}
use Rattle.sj_trees.specs.declared.refusals.Code.{Code}
use Rattle.sj_read_spec.specs.Files.{FileIs, Fails}
use Rattle.sj_read_spec.proofs.ExactFiles.{one_answer}
use Rattle.sj_local.specs.declared.rules.Rule.{Rule}
use Rattle.sj_local.specs.declared.rules.Rule.TheVariants as rules
use Rattle.sj_local.specs.declared.rules.Where.{Where}
use Rattle.sj_local.specs.declared.walks.Declared.{Declared}
use Rattle.sj_local.specs.Broken.{TreeBreaks, FirstTree, Breaks, FirstBroken, all_rules}
use Rattle.sj_local.specs.Firsts.{FirstRepeat, nothing_left, here, later, FirstAnswer, none_left, this_one, a_later_one}
use Rattle.sj_local.specs.MemberRules.{field_key, method_key}
use Rattle.sj_local.specs.TreeRules.{declared_in}
use Rattle.sj_local.proofs.Once.{checks_once}
use Rattle.sj_world.specs.Known.{Name, Classes, is_same, names_of}
use Rattle.sj_world.specs.Refusals.{IsTwice, is_before}
use Rattle.sj_world.proofs.Counts.{two_counted}
use Rattle.sj_world.proofs.Orders.{same_name, not_before_itself, before_trans}
use Rattle.sj_world.proofs.Searches.{contains_at}
use Rattle.sj_reach.specs.Answers.{comes_first}
use Rattle.sj_reach.specs.declared.findings.Report.{Report}
use Rattle.sj_reach.proofs.Once.{first_itself, first_trans}
use Rattle.worklist.proofs.Inserted.{nothing_in}
use Rattle.folder_judging_spec.specs.Laws.{NoFolderIsWithout}
use Rattle.folder_sizes.specs.Files.{sizes}
use Rattle.folder_judging_spec.specs.Stages.{HasFault, AreRead, rule_at, IsBroken, KeepRules}
use Rattle.folder_judging_spec.specs.Verdicts.{Verdict, ByLocalRules, broken, kept, ByNames, twice, apart, ByFiles, faulty, read, IsVerdict, too_large, small}
use Rattle.folder_judging_spec.proofs.EachSorted.{AreApart, cycles_are_told}
use Rattle.folder_judging_spec.proofs.Firsts.{standing}
use Rattle.folder_judging_spec.proofs.Undenied as undenied
use Rattle.folder_judging_spec.proofs.Undenied.{Undenied, granted, and_so, decided, FirstPlace, NoneBelow, first_place, each_undenied, Gathered, gathered, Least, NoneAmong, Any, least_or_none, first_or_later}

-- ---- each class keeps the local rules or breaks one first

abbrev Repeats : {K : Type 0} → List K → List K → Type 0
Repeats earlier keys = (o : Option ℕ) × FirstRepeat earlier keys o

repeat_told : {K : Type 0} (earlier keys : List K) → Undenied (Repeats earlier keys)
repeat_told earlier [] = granted (None, nothing_left earlier)
repeat_told earlier (k ∷ ks) = and_so (repeat_told (earlier ++ k ∷ []) ks) (λ rest. and_so (decided (Contains earlier k)) (λ d. granted (with_first rest d)))
  where
    with_first : Repeats (earlier ++ k ∷ []) ks → Contains earlier k ⊎ (Contains earlier k → ⊥) → Repeats earlier (k ∷ ks)
    with_first rest (inl h) = (Some 0, here earlier k ks h)
    with_first rest (inr n) = (option_map suc rest.0, later earlier k ks rest.0 n rest.1)

module _ {A R : Type 0} (Answers : A → Option R → Type 0) where
  abbrev Answered : ℕ → List A → Type 0
  Answered n xs = (o : Option (ℕ × R)) × FirstAnswer Answers n xs o

  with_one : (n : ℕ) (x : A) (xs : List A) → Answered (suc n) xs → (o : Option R) → Answers x o → Answered n (x ∷ xs)
  with_one n x xs rest (Some r) a = (Some (n, r), this_one n x xs r a)
  with_one n x xs rest None a = (rest.0, a_later_one n x xs rest.0 a rest.1)

  answer_told : ((x : A) → Undenied ((o : Option R) × Answers x o)) → (n : ℕ) (xs : List A) → Undenied (Answered n xs)
  answer_told each n [] = granted (None, none_left n)
  answer_told each n (x ∷ xs) = and_so (answer_told each (suc n) xs) (λ rest. and_so (each x) (λ one. granted (with_one n x xs rest one.0 one.1)))

tree_told : (rule : Rule) (c : ClassDef) (m : MethodDef) → Undenied ((o : Option ℕ) × TreeBreaks rule c m o)
tree_told rules.DeclaredTwice c m = and_so (repeat_told [] (map (λ (d : Declared). d.declaration) (declared_in m))) (λ r. granted (_, record { index = r.0; first = r.1; is_tree = refl }))
tree_told rules.Definition c m = granted (_, refl)
tree_told rules.Variable c m = granted (_, refl)
tree_told rules.ReturnLabel c m = granted (_, refl)
tree_told rules.This c m = granted (_, refl)
tree_told rules.StoreModule c m = granted (_, refl)
tree_told rules.Target c m = granted (_, refl)
tree_told rules.Keys c m = granted (_, refl)
tree_told rules.Superclass c m = granted (_, refl)
tree_told rules.Hijacked c m = granted (_, refl)
tree_told rules.InterfaceTwice c m = granted (_, refl)
tree_told rules.MemberTwice c m = granted (_, refl)
tree_told rules.Field c m = granted (_, refl)
tree_told rules.MethodName c m = granted (_, refl)
tree_told rules.Signature c m = granted (_, refl)
tree_told rules.MissingBody c m = granted (_, refl)
tree_told rules.Constructors c m = granted (_, refl)

trees_told : (rule : Rule) (c : ClassDef) → Undenied ((o : Option Where) × FirstTree rule c o)
trees_told rule c = and_so (answer_told (TreeBreaks rule c) (tree_told rule c) (length c.fields) c.methods) (λ f. granted (_, record { found = f.0; first = f.1; is_place = refl }))

rule_told : (c : ClassDef) (rule : Rule) → Undenied ((o : Option Where) × Breaks c rule o)
rule_told c rules.Superclass = granted (_, refl)
rule_told c rules.Hijacked = granted (_, refl)
rule_told c rules.InterfaceTwice = and_so (repeat_told [] c.interfaces) (λ r. granted (_, record { index = r.0; first = r.1; is_place = refl }))
rule_told c rules.MemberTwice = and_so (repeat_told [] (map field_key c.fields)) (λ f. and_so (repeat_told [] (map method_key c.methods)) (λ m. granted (_, record { field = f.0; method = m.0; first_field = f.1; first_method = m.1; is_place = refl })))
rule_told c rules.Field = granted (_, refl)
rule_told c rules.MethodName = granted (_, refl)
rule_told c rules.Signature = granted (_, refl)
rule_told c rules.MissingBody = granted (_, refl)
rule_told c rules.Constructors = granted (_, refl)
rule_told c rules.DeclaredTwice = trees_told rules.DeclaredTwice c
rule_told c rules.Definition = trees_told rules.Definition c
rule_told c rules.Variable = trees_told rules.Variable c
rule_told c rules.ReturnLabel = trees_told rules.ReturnLabel c
rule_told c rules.This = trees_told rules.This c
rule_told c rules.StoreModule = trees_told rules.StoreModule c
rule_told c rules.Target = trees_told rules.Target c
rule_told c rules.Keys = trees_told rules.Keys c

abbrev Checked : ClassDef → Type 0
Checked c = (o : Option (ℕ × Where)) × FirstBroken c o

class_told : (c : ClassDef) → Undenied (Checked c)
class_told c = answer_told (Breaks c) (rule_told c) 1 all_rules

-- what is told of a class that breaks a rule
record Says (c : ClassDef) (r : Report) : Type 0 where
  place : Where
  first : FirstBroken c (Some (r.code, place))
  name_is : c.name ≡ r.place

abbrev rule_in : Option (ℕ × Where) → ℕ
rule_in None = 0
rule_in (Some answer) = answer.0

abbrev found : ℕ → Where → Option (ℕ × Where)
found rule place = Some (rule, place)

same_rule : (rule another : ℕ) (p q : Where) → found rule p ≡ found another q → rule ≡ another
same_rule rule another p q e = ap rule_in e

says_once : (c : ClassDef) (r s : Report) → Says c r → Says c s → r ≡ s
says_once c r s h k =
    let code : r.code ≡ s.code = same_rule r.code s.code h.place k.place (checks_once c (Some (r.code, h.place)) (Some (s.code, k.place)) h.first k.first) in
    let place : r.place ≡ s.place = sym h.name_is ∙ k.name_is in
    λ i. record { code = code i; place = place i }

module _ (entries : List EntryPoint) (classes : Classes) (are_apart : AreApart classes) where
  abbrev Breaks_one : Report → Type 0
  Breaks_one r = IsBroken classes r.place r.code

  abbrev ByRules : Type 0
  ByRules = (v : Verdict) × ByLocalRules entries classes v

  broken_whole : (g : Gathered Says classes) (r : Report) → Breaks_one r → Contains g.all r
  broken_whole g r h = g.whole h.class r h.among (record { place = h.place; first = h.first; name_is = h.name_is })

  module _ (none : NoneAmong comes_first first_itself first_trans Breaks_one (Any comes_first first_itself first_trans Breaks_one)) where
    keeps : (c : ClassDef) → Contains classes c → (o : Option (ℕ × Where)) → FirstBroken c o → FirstBroken c None
    keeps c i None f = f
    keeps c i (Some r) f = absurd (none (rule_at r.0 c.name) tt (record { class = c; among = i; name_is = refl; place = r.1; first = f }))

    all_keep : ((c : ClassDef) → Contains classes c → Checked c) → KeepRules classes
    all_keep all c i = let told = all c i in keeps c i told.0 told.1

    by_cycles : KeepRules classes → Undenied ByRules
    by_cycles all = and_so (cycles_are_told entries classes all are_apart) (λ t. granted (t.0, kept t.0 all t.1))

  by_rules : Least comes_first first_itself first_trans Breaks_one (Any comes_first first_itself first_trans Breaks_one) ⊎ NoneAmong comes_first first_itself first_trans Breaks_one (Any comes_first first_itself first_trans Breaks_one) → Undenied ByRules
  by_rules (inl l) = granted (_, broken l.item.place l.item.code (record { broken = l.has; least = λ other another h. l.least (rule_at another other) tt h }))
  by_rules (inr none) = and_so (each_undenied Checked classes (λ c i. class_told c)) (λ all. by_cycles none (all_keep none all))

  rules_are_told : Undenied ByRules
  rules_are_told = and_so (gathered Says says_once classes) (λ g. and_so (least_or_none comes_first first_itself first_trans Breaks_one g.all (broken_whole g)) by_rules)

-- ---- names

name_among : (w : Classes) (c : ClassDef) → Contains w c → Contains (names_of w) c.name
name_among [] c h = nothing_in c h
name_among (d ∷ w) c h = elim (first_or_later d w c h) [
  | inl same ↦ subst (λ (x : ClassDef). Contains (names_of (d ∷ w)) x.name) same (undenied.here d.name (names_of w))
  | inr after ↦ undenied.there d.name (names_of w) c.name (name_among w c after)
]

module _ (entries : List EntryPoint) (classes : Classes) where
  abbrev ByTheNames : Type 0
  ByTheNames = (v : Verdict) × ByNames entries classes v

  twice_among : (name : Name) → IsTwice classes name → Contains (names_of classes) name
  twice_among name h = let t = two_counted (λ (c : ClassDef). is_same c.name name) classes h in subst (λ (n : Name). Contains (names_of classes) n) (same_name t.item.name name t.passes) (name_among classes t.item (contains_at classes t.place t.item t.at))

  by_names : Least is_before not_before_itself before_trans (IsTwice classes) (Any is_before not_before_itself before_trans (IsTwice classes)) ⊎ NoneAmong is_before not_before_itself before_trans (IsTwice classes) (Any is_before not_before_itself before_trans (IsTwice classes)) → Undenied ByTheNames
  by_names (inl l) = granted (_, twice l.item (record { twice = l.has; least = λ other h. l.least other tt h }))
  by_names (inr none) = and_so (rules_are_told entries classes (λ name h. none name tt h)) (λ t. granted (t.0, apart t.0 (λ name h. none name tt h) t.1))

  names_are_told : Undenied ByTheNames
  names_are_told = and_so (least_or_none is_before not_before_itself before_trans (IsTwice classes) (names_of classes) twice_among) by_names

-- ---- files

-- a file that has a fault stands here
abbrev FaultAt : List SourceFile → ℕ → Type 0
FaultAt files i = (file : SourceFile) × (slice_get files i ≡ Some file) × HasFault file

abbrev ReadAll : List SourceFile → Type 0
ReadAll files = (classes : Classes) × AreRead files classes

all_read : (files : List SourceFile) → ((i : ℕ) (file : SourceFile) → slice_get files i ≡ Some file → HasFault file → ⊥) → ReadAll files
all_read [] none = ([], record { whole = refl; each = λ i file class at is. cc })
all_read (f ∷ fs) none = with_first (one_answer f.bytes).some (all_read fs (λ i file at h. none (suc i) file at h))
  where
    with_class : (c : ClassDef) → FileIs f.bytes c → (cs : Classes) → AreRead fs cs → AreRead (f ∷ fs) (c ∷ cs)
    with_class c is cs rest = record { whole = ap suc rest.whole; each = each }
      where
        each : (i : ℕ) (file : SourceFile) (class : ClassDef) → slice_get (f ∷ fs) i ≡ Some file → slice_get (c ∷ cs) i ≡ Some class → FileIs file.bytes class
        each zero file class at there = subst (λ (x : ClassDef). FileIs file.bytes x) (same_Some c class there) (subst (λ (x : SourceFile). FileIs x.bytes c) (same_Some f file at) is)
        each (suc i) file class at there = rest.each i file class at there

    with_first : ((class : ClassDef) × FileIs f.bytes class) ⊎ ((code : Code) × (place : ℕ) × Fails f.bytes code place) → ReadAll fs → ReadAll (f ∷ fs)
    with_first (inl one) rest = (one.0 ∷ rest.0, with_class one.0 one.1 rest.0 rest.1)
    with_first (inr fault) rest = absurd (none 0 f refl (record { code = fault.0; place = fault.1; fails = fault.2 }))

module _ (entries : List EntryPoint) (files : List SourceFile) where
  abbrev ByTheFiles : Type 0
  ByTheFiles = (v : Verdict) × ByFiles entries files v

  with_classes : ReadAll files → Undenied ByTheFiles
  with_classes r = and_so (names_are_told entries r.0) (λ t. granted (t.0, read r.0 t.0 r.1 t.1))

  by_files : FirstPlace (FaultAt files) ⊎ NoneBelow (FaultAt files) (length files) → Undenied ByTheFiles
  by_files (inl f) = granted (_, faulty f.has.0 f.has.2 (record { place = f.place; stands = f.has.1; has = f.has.2; none_before = λ i y l at h. f.none_before i l (y, at, h) }))
  by_files (inr none) = with_classes (all_read files (λ i file at h. none i (slice_get_within files i file at) (file, at, h)))

  files_are_told : Undenied ByTheFiles
  files_are_told = and_so (first_place (FaultAt files) (length files)) by_files

  -- ---- sizes

  abbrev HasVerdict : Type 0
  HasVerdict = (v : Verdict) × IsVerdict entries files v

  as_long : (fs : List SourceFile) → length (sizes fs) ≡ length fs
  as_long [] = refl
  as_long (f ∷ fs) = ap suc (as_long fs)

  by_sizes : FirstPlace (IsTooLarge (sizes files)) ⊎ NoneBelow (IsTooLarge (sizes files)) (length (sizes files)) → Undenied HasVerdict
  by_sizes (inl f) = let s = standing files (sizes files) f.place f.has.size (sym (as_long files)) f.has.at in granted (_, too_large f.place s.item (record { too_large = f.has; first = f.none_before }) s.at)
  by_sizes (inr none) = and_so files_are_told (λ t. granted (t.0, small t.0 (λ place h. none place (slice_get_within (sizes files) place h.size h.at) h) t.1))

  sizes_are_told : Undenied HasVerdict
  sizes_are_told = and_so (first_place (IsTooLarge (sizes files)) (length (sizes files))) by_sizes

pub none_without : NoFolderIsWithout
none_without entries files none = sizes_are_told entries files (λ t. none t.0 t.1)
