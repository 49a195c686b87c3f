-- The environment stands on.
use Rattle.std.proofs.Common.{◌≡◌, ℕ, zero, suc, ◌<◌, Bool, true, false, List, [], ◌∷◌, ◌++◌, length, slice_get, Option, Some, None, refl, ap, ◌∙◌, cond, arith}
use Rattle.std.proofs.lemmas.Slice.Eq.{bytes_eq-Decides}
use Rattle.std.proofs.lemmas.Option.{slice_get_within}
use Rattle.std.specs.Prelude.{set}
use Rattle.js_tree.specs.Names.{is_same_text}
use Rattle.js_tree.specs.Terms.{Name, Module}
use Rattle.js_mean.specs.Files.{module_among, imports_in, exports_in, imported_from, origin}
use Rattle.js_mean.specs.Proper.{is_among}
use Rattle.js_mean.specs.States.{Stored, plain, Program}
use Rattle.file_tops.specs.Kept.{StandsOn, OwnersFound}
use Rattle.file_tops.proofs.Run.{start_elsewhere}

same_is : (a b : Name) → is_same_text a b ≡ true → a ≡ b
same_is a b = (bytes_eq-Decides a b).0

-- what stands in front stays
get_in_front : (h : List Stored) (y z : Stored) (a : ℕ) → slice_get h a ≡ Some y → slice_get (h ++ z ∷ []) a ≡ Some y
get_in_front [] y z a e = cc
get_in_front (x ∷ h) y z zero e = e
get_in_front (x ∷ h) y z (suc a) e = get_in_front h y z a e

get_apart : (h : List Stored) (a b : ℕ) (y : Stored) → a < b → slice_get (set h b y) a ≡ slice_get h a
get_apart [] a b y lt = refl
get_apart (x ∷ h) a zero y lt = absurd (omega (arith, lt))
get_apart (x ∷ h) zero (suc b) y lt = refl
get_apart (x ∷ h) (suc a) (suc b) y lt = get_apart h a b y (omega (arith, lt))

module _ (Variable : Name → Name → Bool) where
  no_variable : (f x : Name) (g y : Name) → Variable f x ≡ true → Variable g y ≡ false → is_same_text g f ≡ true → is_same_text y x ≡ false
  no_variable f x g y h k e = go (is_same_text y x) refl
    where
      go : (b : Bool) → is_same_text y x ≡ b → is_same_text y x ≡ false
      go true d = let t : Variable g y ≡ true = ap (λ (z : Name). Variable z y) (same_is g f e) ∙ ap (Variable f) (same_is y x d) ∙ h in cc
      go false d = d

  pub stands_on : StandsOn Variable
  stands_on = record {
    at_once = λ t. record { names = λ f x h. refl; constants = λ a y h. h };
    made = λ t s ls own h. record { names = h.names; constants = λ a y e. get_in_front s.heap y (plain ls own) a (h.constants a y e) };
    set = λ t s a y le h. record { names = h.names; constants = λ b z e. get_apart s.heap b a y (omega (arith, le, slice_get_within t.heap b z e)) ∙ h.constants b z e };
    variable = λ t s f x v is h. record { names = λ g y free. start_elsewhere [] f g y false x v s (no_variable f x g y is free) ∙ h.names g y free; constants = h.constants };
  }

own_name : (p : Program) (f x : Name) (o : Option Name) → imported_from (imports_in (module_among p f)) x ≡ o → (k : ℕ) → o ≡ None → origin p (suc k) f x ≡ Some f
own_name p f x o e k n = ap (λ (o : Option Name). elim o [ None ↦ Some f | Some g ↦ cond (is_among (exports_in (module_among p g)) x) (origin p k g x) None ]) (e ∙ n)

some_file : (p : Program) (f : Name) (m : Module) → module_among p f ≡ Some m → (k : ℕ) × (length p ≡ suc k)
some_file [] f m h = cc
some_file (y ∷ p) f m h = (length p, refl)

pub owners_found : OwnersFound
owners_found = record {
  own = λ p f x h. own_name p f x None h (length p) refl;
  imported = λ p f g x m here from exported own.
      let n = some_file p f m here in
      ap (λ (o : Option Name). elim o [ None ↦ Some f | Some h ↦ cond (is_among (exports_in (module_among p h)) x) (origin p (length p) h x) None ]) (ap (λ (o : Option Module). imported_from (imports_in o) x) here ∙ from)
      ∙ ap (λ (b : Bool). cond b (origin p (length p) g x) None) exported
      ∙ ap (λ (k : ℕ). origin p k g x) n.1
      ∙ own_name p g x None own n.0 refl;
}
