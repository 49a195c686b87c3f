-- Cases for kinds of receivers are one list where the same is known of each kind.
use Rattle.std.proofs.Common.{◌≡◌, List, [], ◌∷◌, refl}
use Rattle.sj_emit_help_spec.specs.declared.kinds.Kind.{Kind}

-- the kinds that have a case, each with it, from the last on
pub data Tells {T : Type 0} (Has : Kind → T → Type 0) : List Kind → List T → Type 0 where
  none_tells : Tells Has [] []
  tells : (k : Kind) (t : T) (ks : List Kind) (ts : List T) → Has k t → Tells Has ks ts → Tells Has (k ∷ ks) (t ∷ ts)
  passes : (k : Kind) (ks : List Kind) (ts : List T) → ((t : T) → Has k t → ⊥) → Tells Has ks ts → Tells Has (k ∷ ks) ts

pub one_telling : {T : Type 0} (P Q : Kind → T → Type 0) → ((k : Kind) (a b : T) → P k a → Q k b → a ≡ b) → ((k : Kind) (a : T) → P k a → Q k a) → ((k : Kind) (a : T) → Q k a → P k a) → (ks : List Kind) (xs ys : List T) → Tells P ks xs → Tells Q ks ys → xs ≡ ys
one_telling P Q same to from _ _ _ none_tells none_tells = refl
one_telling P Q same to from _ _ _ (tells k t ks ts h p) (tells _ u _ us g q) = λ i. same k t u h g i ∷ one_telling P Q same to from ks ts us p q i
one_telling P Q same to from _ _ _ (tells k t ks ts h p) (passes _ _ us g q) = absurd (g t (to k t h))
one_telling P Q same to from _ _ _ (passes k ks ts h p) (tells _ u _ us g q) = absurd (h u (from k u g))
one_telling P Q same to from _ _ _ (passes k ks ts h p) (passes _ _ us g q) = one_telling P Q same to from ks ts us p q
