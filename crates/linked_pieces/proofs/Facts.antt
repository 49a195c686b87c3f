-- What is told of the facts of a world: which classes are made, and which methods are called.
use Rattle.std.proofs.Common.{◌≡◌, Bool, true, List, refl, sym, ap, subst, ◌∙◌}
use Rattle.std.specs.List.{Contains, list_any}
use Rattle.std.proofs.lemmas.Bool.{and_parts, and_from}
use Rattle.std.proofs.lemmas.List.Folds.{Any-from_list_any, list_any_at}
use Rattle.linked_pieces.specs.Used.{makes, calls_on, calls}
use Rattle.sj_names.proofs.Same.{impossible, text-same, text-refl, method-same}
use Rattle.sj_names.specs.Same.{is_same_text, is_same_method}
use Rattle.sj_names.specs.declared.method_names.MethodName.{MethodName}
use Rattle.agree_programs.proofs.SameNames.{method-itself}
use Rattle.sj_world.specs.Known.{Name}
use Rattle.sj_world.specs.declared.facts.Fact.{Fact}
use Rattle.sj_world.specs.declared.facts.Fact.TheVariants.{Made, Called}

pub told_of : {X : Type 0} (p : X → Bool) (xs : List X) (x : X) → Contains xs x → p x ≡ true → list_any p xs ≡ true
told_of {X} p xs x h t = list_any_at p xs h.0 x h.1 (subst (λ (y : X). p y ≡ true) (sym h.2) t)

made_is : (c : Name) (f : Fact) → makes c f ≡ true → f ≡ Made c
made_is c (Made d) h = ap Made (sym (text-same c d h))
made_is c _ h = impossible h

pub made_known : (facts : List Fact) (c : Name) → list_any (makes c) facts ≡ true → Contains facts (Made c)
made_known facts c h = let f = Any-from_list_any (makes c) facts h in subst (Contains facts) (made_is c f.1 f.4) (f.0, f.2, f.3)

pub made_told : (facts : List Fact) (c : Name) → Contains facts (Made c) → list_any (makes c) facts ≡ true
made_told facts c i = told_of (makes c) facts (Made c) i (text-refl c)

call_is : (c : Name) (m : MethodName) (f : Fact) → calls_on c m f ≡ true → f ≡ Called c m
call_is c m (Called d n) h = let q = and_parts (is_same_text c d) (is_same_method m n) h in ap (λ (k : Name). Called k n) (sym (text-same c d q.0)) ∙ ap (Called c) (sym (method-same m n q.1))
call_is c m _ h = impossible h

pub called_known : (facts : List Fact) (c : Name) (m : MethodName) → list_any (calls_on c m) facts ≡ true → Contains facts (Called c m)
called_known facts c m h = let f = Any-from_list_any (calls_on c m) facts h in subst (Contains facts) (call_is c m f.1 f.4) (f.0, f.2, f.3)

pub called_told : (facts : List Fact) (c : Name) (m : MethodName) → Contains facts (Called c m) → list_any (calls_on c m) facts ≡ true
called_told facts c m i = told_of (calls_on c m) facts (Called c m) i (and_from (is_same_text c c) (is_same_method m m) (text-refl c) (method-itself m))

-- a class on whose receivers the method is called
pub record IsCalled (facts : List Fact) (m : MethodName) : Type 0 where
  pub receiver : Name
  pub called : Contains facts (Called receiver m)

-- the fact of a call
record IsCallOf (m : MethodName) (f : Fact) : Type 0 where
  receiver : Name
  is : f ≡ Called receiver m

some_call_is : (m : MethodName) (f : Fact) → calls m f ≡ true → IsCallOf m f
some_call_is m (Called d n) h = record { receiver = d; is = ap (Called d) (sym (method-same m n h)) }
some_call_is m _ h = impossible h

pub some_call_known : (facts : List Fact) (m : MethodName) → list_any (calls m) facts ≡ true → IsCalled facts m
some_call_known facts m h =
    let f = Any-from_list_any (calls m) facts h in
    let k = some_call_is m f.1 f.4 in
    record { receiver = k.receiver; called = subst (Contains facts) k.is (f.0, f.2, f.3) }

pub some_call_told : (facts : List Fact) (c : Name) (m : MethodName) → Contains facts (Called c m) → list_any (calls m) facts ≡ true
some_call_told facts c m i = told_of (calls m) facts (Called c m) i (method-itself m)
