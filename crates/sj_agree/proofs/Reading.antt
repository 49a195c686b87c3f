-- Files are read in one way, since bytes spell at most one module.
use Rattle.std.proofs.Common.{◌≡◌, ℕ, List, ◌∷◌, refl, ap, Option, Some, None}
use Rattle.js_tree.specs.Terms.{Module}
use Rattle.js_mean.specs.States.{Program}
use Rattle.js_mean.specs.Shows.{File, IsContent, IsRead, no_files, one_more}
use Rattle.sj_agree.specs.Agrees.{SpellsOne}

same_content : SpellsOne → (bytes : List ℕ) (c d : Option Module) → IsContent bytes c → IsContent bytes d → c ≡ d
same_content one bytes (Some m) (Some k) h g = ap Some (one m k bytes h g)
same_content one bytes (Some m) None h g = absurd (g m h)
same_content one bytes None (Some k) h g = absurd (h k g)
same_content one bytes None None h g = refl

pub read_once : SpellsOne → (files : List File) (p q : Program) → IsRead files p → IsRead files q → p ≡ q
read_once one _ _ _ no_files no_files = refl
read_once one _ _ _ (one_more f c fs p h r) (one_more _ d _ q g s) = λ i. record { file = f.name; content = same_content one f.bytes c d h g i } ∷ read_once one fs p q r s i
