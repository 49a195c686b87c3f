-- Reading an indentation two spaces after the other, as a loop does.
use Rattle.std.proofs.Common.{◌≡◌, ℕ, suc, ◌+◌, ◌*◌, ◌-◌, ◌<◌, ◌≤◌, Bool, true, false, cond, eqb, List, [], ◌∷◌, length, Ok, Err, refl, sym, ap, ◌∙◌, arith, codes}
use Rattle.std.proofs.Math.ListN.{replicate}
use Rattle.exact_place.specs.Reading.{Reading, ◌>>=◌, literal_at, stopped}
use Rattle.exact_place.proofs.Steps.{good_is}
use Rattle.js_tree.specs.Written.{indent}
use Rattle.text_scan.specs.declared.stop.Stop.{Stop}
use Rattle.text_scan.specs.declared.stop.Stop.TheVariants as stops
use Rattle.text_scan.specs.Gives.{Fails}

indent_next : (k : ℕ) → indent (suc k) ≡ 32 ∷ 32 ∷ indent k
indent_next k = let two : 2 * suc k ≡ suc (suc (2 * k)) = omega arith in ap (λ (n : ℕ). replicate n 32) two

two_first : (ws bytes : List ℕ) → literal_at (32 ∷ 32 ∷ ws) bytes ≡ (literal_at (32 ∷ 32 ∷ []) bytes >>= λ x. literal_at ws x.1)
unfolding literal_at
two_first ws [] = refl
two_first ws (c ∷ bytes) = by (eqb c 32) bytes
  where
    by : (b : Bool) (bytes : List ℕ) → cond b (literal_at (32 ∷ ws) bytes) (stopped (c ∷ bytes)) ≡ (cond b (literal_at (32 ∷ []) bytes) (stopped (c ∷ bytes)) >>= λ x. literal_at ws x.1)
    by false bytes = refl
    by true [] = refl
    by true (d ∷ bytes) = also (eqb d 32)
      where
        also : (b : Bool) → cond b (literal_at ws bytes) (stopped (d ∷ bytes)) ≡ (cond b (literal_at [] bytes) (stopped (d ∷ bytes)) >>= λ x. literal_at ws x.1)
        also true = refl
        also false = refl

indent_step : (k : ℕ) (bytes : List ℕ) → literal_at (indent (suc k)) bytes ≡ (literal_at (codes "  ") bytes >>= λ x. literal_at (indent k) x.1)
indent_step k bytes = ap (λ (ws : List ℕ). literal_at ws bytes) (indent_next k) ∙ two_first (indent k) bytes

pub indent_goes : (level i : ℕ) (bytes after : List ℕ) (total : Reading (Unit {0})) → i < level → literal_at (codes "  ") bytes ≡ Ok (tt, after)
    → literal_at (indent (level - i)) bytes ≡ total → literal_at (indent (level - (i + 1))) after ≡ total
indent_goes level i bytes after total lt is so_far =
    let k : level - i ≡ suc (level - (i + 1)) = omega arith in
    let one : literal_at (indent (level - i)) bytes ≡ literal_at (indent (level - (i + 1))) after = ap (λ (n : ℕ). literal_at (indent n) bytes) k ∙ (indent_step (level - (i + 1)) bytes ∙ ap (λ (r : Reading (Unit {0})). r >>= λ x. literal_at (indent (level - (i + 1))) x.1) is) in
    sym one ∙ so_far

pub indent_fails : (stop : Stop) (level i : ℕ) (bytes : List ℕ) (total : Reading (Unit {0})) → i < level → Fails stop (literal_at (codes "  ") bytes)
    → literal_at (indent (level - i)) bytes ≡ total → Fails stop total
indent_fails stops.NoMemory level i bytes total lt is so_far = tt
indent_fails (stops.Bad left) level i bytes total lt is so_far =
    let k : level - i ≡ suc (level - (i + 1)) = omega arith in
    let one : literal_at (indent (level - i)) bytes ≡ Err left = ap (λ (n : ℕ). literal_at (indent n) bytes) k ∙ (indent_step (level - (i + 1)) bytes ∙ ap (λ (r : Reading (Unit {0})). r >>= λ x. literal_at (indent (level - (i + 1))) x.1) is) in
    sym so_far ∙ one

pub indent_done : (level i : ℕ) (bytes : List ℕ) (total : Reading (Unit {0})) → level ≤ i → literal_at (indent (level - i)) bytes ≡ total → total ≡ Ok (tt, bytes)
unfolding literal_at
indent_done level i bytes total le so_far =
    let k : level - i ≡ 0 = omega arith in
    let one : literal_at (indent (level - i)) bytes ≡ Ok (tt, bytes) = ap (λ (n : ℕ). literal_at (indent n) bytes) k in
    sym so_far ∙ one

pub two_shorter : (bytes after : List ℕ) → literal_at (codes "  ") bytes ≡ Ok (tt, after) → length bytes ≡ 2 + length after
unfolding literal_at
two_shorter [] after e = absurd (cc e)
two_shorter (c ∷ bytes) after e = by (eqb c 32) bytes e
  where
    by : (b : Bool) (bytes : List ℕ) → cond b (literal_at (32 ∷ []) bytes) (stopped (c ∷ bytes)) ≡ Ok (tt, after) → length (c ∷ bytes) ≡ 2 + length after
    by false bytes e = absurd (cc e)
    by true [] e = absurd (cc e)
    by true (d ∷ bytes) e = also (eqb d 32) e
      where
        also : (b : Bool) → cond b (literal_at [] bytes) (stopped (d ∷ bytes)) ≡ Ok (tt, after) → length (c ∷ d ∷ bytes) ≡ 2 + length after
        also false e = absurd (cc e)
        also true e = let same : bytes ≡ after = (good_is {A = Unit {0}} tt tt bytes after e).rest in omega (arith, ap length same)

-- a line feed and the indentation behind it
pub break_goes : (k : ℕ) (bytes after : List ℕ) → literal_at (codes "\n") bytes ≡ Ok (tt, after) → literal_at (10 ∷ indent k) bytes ≡ literal_at (indent k) after
unfolding literal_at
break_goes k [] after e = absurd (cc e)
break_goes k (c ∷ bytes) after e = by (eqb c 10) e
  where
    by : (b : Bool) → cond b (literal_at [] bytes) (stopped (c ∷ bytes)) ≡ Ok (tt, after) → cond b (literal_at (indent k) bytes) (stopped (c ∷ bytes)) ≡ literal_at (indent k) after
    by false e = absurd (cc e)
    by true e = ap (λ (r : List ℕ). literal_at (indent k) r) (good_is {A = Unit {0}} tt tt bytes after e).rest

pub break_fails : (stop : Stop) (k : ℕ) (bytes : List ℕ) → Fails stop (literal_at (codes "\n") bytes) → Fails stop (literal_at (10 ∷ indent k) bytes)
unfolding literal_at
break_fails stops.NoMemory k bytes e = tt
break_fails (stops.Bad left) k [] e = e
break_fails (stops.Bad left) k (c ∷ bytes) e = by (eqb c 10) e
  where
    by : (b : Bool) → cond b (literal_at [] bytes) (stopped (c ∷ bytes)) ≡ Err left → cond b (literal_at (indent k) bytes) (stopped (c ∷ bytes)) ≡ Err left
    by false e = e
    by true e = absurd (cc e)
