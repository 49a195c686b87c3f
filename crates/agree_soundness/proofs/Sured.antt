-- A sure local is defined as what is never null, and nothing else defines it.
use Rattle.std.proofs.Common.{◌≡◌, ℕ, Bool, true, false, ◌&&◌, ◌||◌, List, [], ◌∷◌, ◌++◌, refl, sym, ◌∙◌, subst, ◌⊎◌, inl, inr, ⊎_elim}
use Rattle.std.specs.Prelude.{not}
use Rattle.std.proofs.lemmas.Bool.{and_parts}
use Rattle.agree_early_errors.proofs.Equal.{differs, is-equal}
use Rattle.agree_early_errors.proofs.RulesGive.{when_not}
use Rattle.sj_names.proofs.Same.{impossible}
use Rattle.sj_names.specs.Same.{is_same_text}
use Rattle.sj_trees.specs.Term.{Term, new_object, new_array, array_value, load_module, var_ref, this_ref}
use Rattle.agree_early_errors.specs.Once.{Names, AreOnce}
use Rattle.sure_receivers.specs.Sure.{is_sure_type, is_sure, Definition, definitions, sure_behind, sure_locals}

-- each of these definitions that makes a sure local has a sure right side, and the local is immutable
abbrev pub Sured : (List ℕ → Bool) → List Definition → Type 0
Sured sure [] = Unit {0}
Sured sure (d ∷ ds) = (sure d.name ≡ true → (d.is_mutable ≡ false) × (is_sure sure d.value ≡ true)) × Sured sure ds

pub sured-parts : (sure : List ℕ → Bool) (xs ys : List Definition) → Sured sure (xs ++ ys) → Sured sure xs × Sured sure ys
sured-parts sure [] ys h = (tt, h)
sured-parts sure (x ∷ xs) ys h = let r = sured-parts sure xs ys h.1 in ((h.0, r.0), r.1)

-- what is sure stays so where more locals are
abbrev More : (List ℕ → Bool) → (List ℕ → Bool) → Type 0
More old new = (x : List ℕ) → old x ≡ true → new x ≡ true

or-more : (a b c : Bool) → (a ≡ true → b ≡ true) → (a || c) ≡ true → (b || c) ≡ true
or-more true true c h k = refl
or-more true false c h k = impossible (h refl)
or-more false true c h k = refl
or-more false false c h k = k

sure-more : (old new : List ℕ → Bool) → More old new → (t : Term) → is_sure old t ≡ true → is_sure new t ≡ true
sure-more old new more (this_ref p t) h = refl
sure-more old new more (new_object p c m ts) h = refl
sure-more old new more (new_array p r e) h = refl
sure-more old new more (array_value p r ts) h = refl
sure-more old new more (load_module p c) h = refl
sure-more old new more (var_ref p x t) h = or-more (old x) (new x) (is_sure_type t) (more x) h
sure-more old new more _ h = h

or-first : (a b : Bool) → a ≡ true → (a || b) ≡ true
or-first true b h = refl
or-first false b h = impossible h

or-either : (a b : Bool) → (a || b) ≡ true → (a ≡ true) ⊎ (b ≡ true)
or-either true b h = inl refl
or-either false b h = inr h

or-none : (a b : Bool) → a ≡ false → b ≡ false → (a || b) ≡ false
or-none true b h k = impossible (sym h)
or-none false b h k = k

-- the sure locals behind one definition
abbrev one_more : (List ℕ → Bool) → Definition → List ℕ → Bool
one_more sure d y = sure y || (is_same_text y d.name && not d.is_mutable && is_sure sure d.value)

behind-more : (sure : List ℕ → Bool) (ds : List Definition) → More sure (sure_behind sure ds)
behind-more sure [] x h = h
behind-more sure (d ∷ ds) x h = behind-more (one_more sure d) ds x (or-first (sure x) (is_same_text x d.name && not d.is_mutable && is_sure sure d.value) h)

-- a local that is sure behind definitions was so, or is defined in them
one-named : (sure : List ℕ → Bool) (d : Definition) (x : List ℕ) → one_more sure d x ≡ true → (sure x ≡ true) ⊎ (d.name ≡ x)
one-named sure d x h = ⊎_elim (λ i. inl i) (λ i. inr (sym (is-equal x d.name (and_parts (is_same_text x d.name) (not d.is_mutable) (and_parts (is_same_text x d.name && not d.is_mutable) (is_sure sure d.value) i).0).0))) (or-either (sure x) (is_same_text x d.name && not d.is_mutable && is_sure sure d.value) h)

behind-named : (sure : List ℕ → Bool) (ds : List Definition) (x : List ℕ) → sure_behind sure ds x ≡ true → (sure x ≡ true) ⊎ Names ds x
behind-named sure [] x h = inl h
behind-named sure (d ∷ ds) x h = ⊎_elim (λ i. ⊎_elim (λ j. inl j) (λ j. inr (inl j)) (one-named sure d x i)) (λ i. inr (inr i)) (behind-named (one_more sure d) ds x h)

pub sure-named : (e : Term) (x : List ℕ) → sure_locals e x ≡ true → Names (definitions e) x
sure-named e x h = ⊎_elim (λ i. impossible i) (λ i. i) (behind-named (λ y. false) (definitions e) x h)

and-none : (a b c : Bool) → a ≡ false → (a && b && c) ≡ false
and-none true b c h = impossible (sym h)
and-none false b c h = refl

defined-sure : (sure : List ℕ → Bool) (d : Definition) (ds : List Definition) → (Names ds d.name → ⊥) → sure d.name ≡ false → sure_behind (one_more sure d) ds d.name ≡ true → (d.is_mutable ≡ false) × (is_sure (sure_behind (one_more sure d) ds) d.value ≡ true)
defined-sure sure d ds once new h = ⊎_elim here (λ i. absurd (once i)) (behind-named (one_more sure d) ds d.name h)
  where
    here : one_more sure d d.name ≡ true → (d.is_mutable ≡ false) × (is_sure (sure_behind (one_more sure d) ds) d.value ≡ true)
    here i = ⊎_elim (λ j. impossible (sym new ∙ j)) (λ j. let parts = and_parts (is_same_text d.name d.name && not d.is_mutable) (is_sure sure d.value) j in (when_not d.is_mutable (and_parts (is_same_text d.name d.name) (not d.is_mutable) parts.0).1, sure-more sure (sure_behind (one_more sure d) ds) (λ x k. behind-more (one_more sure d) ds x (or-first (sure x) (is_same_text x d.name && not d.is_mutable && is_sure sure d.value) k)) d.value parts.1)) (or-either (sure d.name) (is_same_text d.name d.name && not d.is_mutable && is_sure sure d.value) i)

all-sured : (sure : List ℕ → Bool) (ds : List Definition) → AreOnce ds → ((x : List ℕ) → Names ds x → sure x ≡ false) → Sured (sure_behind sure ds) ds
all-sured sure [] once new = tt
all-sured sure (d ∷ ds) once new = (defined-sure sure d ds once.0 (new d.name (inl refl)), all-sured (one_more sure d) ds once.1 later)
  where
    later : (x : List ℕ) → Names ds x → one_more sure d x ≡ false
    later x i = or-none (sure x) (is_same_text x d.name && not d.is_mutable && is_sure sure d.value) (new x (inr i)) (and-none (is_same_text x d.name) (not d.is_mutable) (is_sure sure d.value) (differs x d.name (λ e. once.0 (subst (Names ds) e i))))

pub body-sured : (e : Term) → AreOnce (definitions e) → Sured (sure_locals e) (definitions e)
body-sured e once = all-sured (λ y. false) (definitions e) once (λ x i. refl)
