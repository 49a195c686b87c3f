-- Reading a tree where trees may stand in it.
use Rattle.std.proofs.Common.{◌≡◌, ℕ, zero, suc, ◌-◌, List, length, Ok, Err, refl, sym, ap, ◌∙◌, arith}
use Rattle.sj_trees.specs.declared.positions.Position.{Position}
use Rattle.sj_trees.specs.declared.forms.Form.{Form}
use Rattle.sj_read_spec.specs.Codes.{reserved_trees}
use Rattle.sj_trees.specs.Forms.{among, form_codes}
use Rattle.exact_place.specs.Reading.{◌>>=◌}
use Rattle.sj_read_spec.specs.Reading.{Reading}
use Rattle.sj_read_spec.specs.Tables.{Tables}
use Rattle.sj_read_spec.specs.Types.{code_at, position_at}
use Rattle.sj_read_spec.specs.Trees.{form_at, tree_at}
use Rattle.sj_read_trees.specs.declared.stops.Stop.{Stop}
use Rattle.sj_read_trees.specs.declared.stops.Stop.TheVariants.{NoMemory, Bad}
use Rattle.sj_read_trees.specs.Stops.{StopsAs}

abbrev pub tag_read : List ℕ → Reading Form
tag_read bytes = code_at (among form_codes) (among reserved_trees) bytes

-- the tag, the position, and the parts with one level less
pub tree_more : (depth : ℕ) (tables : Tables) (bytes : List ℕ) → (depth ≡ 0 → ⊥)
    → tree_at depth tables bytes ≡ (tag_read bytes >>= λ tag. position_at (length tables.files) tag.1 >>= λ p. form_at (tree_at (depth - 1) tables) tables tag.0 p.0 p.1)
unfolding tree_at
tree_more zero tables bytes some = absurd (some refl)
tree_more (suc depth) tables bytes some =
    let less : depth ≡ suc depth - 1 = omega arith in
    ap (λ (d : ℕ). tag_read bytes >>= λ tag. position_at (length tables.files) tag.1 >>= λ p. form_at (tree_at d tables) tables tag.0 p.0 p.1) less

pub tag_stops : (depth : ℕ) (tables : Tables) (bytes : List ℕ) (e : Stop) → (depth ≡ 0 → ⊥) → StopsAs e (tag_read bytes) → StopsAs e (tree_at depth tables bytes)
tag_stops depth tables bytes NoMemory some h = tt
tag_stops depth tables bytes (Bad f) some h =
    tree_more depth tables bytes some ∙ ap (λ (r : Reading Form). r >>= λ tag. position_at (length tables.files) tag.1 >>= λ p. form_at (tree_at (depth - 1) tables) tables tag.0 p.0 p.1) h

tag_found : (depth : ℕ) (tables : Tables) (bytes : List ℕ) (tag : Form) (rest : List ℕ) → (depth ≡ 0 → ⊥) → tag_read bytes ≡ Ok (tag, rest)
    → tree_at depth tables bytes ≡ (position_at (length tables.files) rest >>= λ p. form_at (tree_at (depth - 1) tables) tables tag p.0 p.1)
tag_found depth tables bytes tag rest some h =
    tree_more depth tables bytes some ∙ ap (λ (r : Reading Form). r >>= λ tag. position_at (length tables.files) tag.1 >>= λ p. form_at (tree_at (depth - 1) tables) tables tag.0 p.0 p.1) h

pub position_stops : (depth : ℕ) (tables : Tables) (bytes : List ℕ) (tag : Form) (rest : List ℕ) (count : ℕ) (e : Stop) → (depth ≡ 0 → ⊥) → tag_read bytes ≡ Ok (tag, rest)
    → count ≡ length tables.files → StopsAs e (position_at count rest) → StopsAs e (tree_at depth tables bytes)
position_stops depth tables bytes tag rest count NoMemory some one all h = tt
position_stops depth tables bytes tag rest count (Bad f) some one all h =
    let k : position_at (length tables.files) rest ≡ Err f = ap (λ (n : ℕ). position_at n rest) (sym all) ∙ h in
    tag_found depth tables bytes tag rest some one ∙ ap (λ (r : Reading Position). r >>= λ p. form_at (tree_at (depth - 1) tables) tables tag p.0 p.1) k

pub form_found : (depth : ℕ) (tables : Tables) (bytes : List ℕ) (tag : Form) (rest : List ℕ) (count : ℕ) (p : Position) (after : List ℕ) (form : Form) → (depth ≡ 0 → ⊥)
    → tag_read bytes ≡ Ok (tag, rest) → count ≡ length tables.files → position_at count rest ≡ Ok (p, after) → tag ≡ form
    → tree_at depth tables bytes ≡ form_at (tree_at (depth - 1) tables) tables form p after
form_found depth tables bytes tag rest count p after form some one all two is =
    let k : position_at (length tables.files) rest ≡ Ok (p, after) = ap (λ (n : ℕ). position_at n rest) (sym all) ∙ two in
    tag_found depth tables bytes tag rest some one ∙ ap (λ (r : Reading Position). r >>= λ p. form_at (tree_at (depth - 1) tables) tables tag p.0 p.1) k
    ∙ ap (λ (t : Form). form_at (tree_at (depth - 1) tables) tables t p after) is
