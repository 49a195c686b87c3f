-- The bodies of a class together have no more trees than its file has bytes.
use Rattle.std.proofs.Common.{◌≡◌, ◌≤◌, ◌+◌, ℕ, Bool, true, false, List, [], ◌∷◌, Option, Some, None, Contains, refl, ap, arith, ◌⊎◌, inl, inr, ⊎_elim}
use Rattle.std.proofs.lemmas.List.Elements.{Contains-append_cases, Contains-push_cases}
use Rattle.sj_read_spec.specs.Classes.{IsBody, IsMethod, IsMemberOf, IsMember, methods_in, IsClass}
use Rattle.sj_read_spec.specs.Files.{IsContents, FileIs}
use Rattle.exact_place.specs.Grammar.{Spelling}
use Rattle.sj_read_spec.specs.Tables.{Tables}
use Rattle.sj_read_spec.specs.Types.{IsOption, IsOptionOf}
use Rattle.sj_read_spec.specs.declared.codes.MemberTag.{MemberTag}
use Rattle.sj_read_spec.specs.declared.codes.MemberTag.TheVariants as tags
use Rattle.sj_read_spec.specs.declared.members.MemberDef.{MemberDef}
use Rattle.sj_read_spec.specs.declared.members.MemberDef.TheVariants.{Field, Method}
use Rattle.sj_trees.specs.Term.{Term}
use Rattle.sj_trees.specs.declared.classes.ClassDef.{ClassDef}
use Rattle.sj_trees.specs.declared.classes.MethodDef.{MethodDef}
use Rattle.tree_parts.specs.Sizes.{size}
use Rattle.sj_read_sizes.proofs.TreeSizes.{tree_weighs}
use Rattle.sj_read_sizes.proofs.Weighs.{Weighs, sum_of, behind, skipping, gives, listed}
use Rattle.sj_read_sizes.specs.Sizes.{EachBodyIsSmall}

abbrev body_size : Option Term → ℕ
body_size None = 0
body_size (Some e) = size e

abbrev method_size : MethodDef → ℕ
method_size m = body_size m.body

abbrev member_size : MemberDef → ℕ
member_size (Field f) = 0
member_size (Method m) = method_size m

abbrev class_size : ClassDef → ℕ
class_size c = sum_of method_size c.methods

body_weighs : (t : Tables) → Weighs size 0 (IsBody t)
unfolding IsBody
body_weighs t = tree_weighs 200 t

option_behind : {P : Spelling Term} → Weighs size 0 P → (there : Bool) → Weighs body_size 0 (IsOptionOf P there)
option_behind p true = behind p (λ e. gives (omega arith))
option_behind p false = gives (omega arith)

option_weighs : {P : Spelling Term} → Weighs size 0 P → Weighs body_size 0 (IsOption P)
option_weighs p = skipping _ (λ there. option_behind p there)

method_weighs : (t : Tables) → Weighs method_size 0 (IsMethod t)
unfolding IsMethod
method_weighs t = skipping _ (λ p. skipping _ (λ n. skipping _ (λ m. skipping _ (λ ps. skipping _ (λ y. behind (option_weighs (body_weighs t)) (λ o. skipping _ (λ h. gives (omega arith))))))))

member_behind : (t : Tables) (tag : MemberTag) → Weighs member_size 0 (IsMemberOf t tag)
member_behind t tags.Field = skipping _ (λ f. gives (omega arith))
member_behind t tags.Method = behind (method_weighs t) (λ m. gives (omega arith))

member_weighs : (t : Tables) → Weighs member_size 0 (IsMember t)
unfolding IsMember
member_weighs t = skipping _ (λ tag. member_behind t tag)

methods_sum : (ms : List MemberDef) → sum_of method_size (methods_in ms) ≡ sum_of member_size ms
methods_sum [] = refl
methods_sum (Field f ∷ ms) = let rest = methods_sum ms in omega (arith, rest)
methods_sum (Method m ∷ ms) = ap (λ n. method_size m + n) (methods_sum ms)

class_weighs : (t : Tables) → Weighs class_size 0 (IsClass t)
unfolding IsClass
class_weighs t = skipping _ (λ p. skipping _ (λ x. skipping _ (λ kind. skipping _ (λ s. skipping _ (λ is. behind (listed (member_weighs t)) (λ ms. gives (let all = methods_sum ms in omega (arith, all))))))))

contents_weigh : Weighs class_size 0 IsContents
unfolding IsContents
contents_weigh = skipping _ (λ magic. skipping _ (λ version. skipping _ (λ t. class_weighs t)))

only_one : (n m : MethodDef) → Contains (n ∷ []) m → n ≡ m
only_one n m i = ⊎_elim (λ none. absurd (omega (arith, none.1))) (λ e. e) (Contains-push_cases [] n m i)

-- each is among the sum
each_among : (ms : List MethodDef) (m : MethodDef) → Contains ms m → method_size m ≤ sum_of method_size ms
each_among [] m i = absurd (omega (arith, i.1))
each_among (n ∷ ms) m i = go (each_among ms m) (Contains-append_cases (n ∷ []) ms m i)
  where
    go : (Contains ms m → method_size m ≤ sum_of method_size ms) → Contains (n ∷ []) m ⊎ Contains ms m → method_size m ≤ method_size n + sum_of method_size ms
    go rest (inl first) = let same : method_size n ≡ method_size m = ap method_size (only_one n m first) in omega (arith, same)
    go rest (inr later) = let few = rest later in omega (arith, few)

pub bodies_are_small : EachBodyIsSmall
unfolding FileIs
bodies_are_small bytes class is m among e has =
    let whole = contents_weigh.most class bytes is in
    let one = each_among class.methods m among in
    let its : method_size m ≡ size e = ap body_size has in
    omega (arith, whole, one, its)
