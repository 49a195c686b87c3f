-- Reading the lines of a module one after the other, as a loop does.
use Rattle.std.proofs.Common.{◌≡◌, ℕ, suc, ◌+◌, ◌-◌, ◌<◌, ◌≤◌, true, false, List, [], ◌∷◌, ◌++◌, length, Ok, Err, refl, sym, ap, ◌∙◌, append_assoc, append-nil, arith}
use Rattle.exact_place.specs.Reading.{Reading, ◌>>=◌, passes, walk_at, end_at, map_at}
use Rattle.js_tree.specs.Terms.{Name, Item, Module}
use Rattle.js_tree.specs.declared.items.JsImport.{JsImport}
use Rattle.js_read_spec.specs.declared.words.Stage.{Stage}
use Rattle.js_read_spec.specs.declared.words.Stage.TheVariants as stages
use Rattle.js_read_spec.specs.Modules.{Line, import_line, item_line, export_line, line_at, is_imports, goes_on, stage_after, module_of, module_lines_at, module_at}
use Rattle.text_scan.specs.declared.stop.Stop.{Stop}
use Rattle.text_scan.specs.declared.stop.Stop.TheVariants as stops
use Rattle.js_read.specs.declared.modules.Reached.{Reached}
use Rattle.js_read.specs.declared.modules.Reached.TheVariants as reached
use Rattle.js_read.specs.Fronts.{stage_of, exports_onto}
use Rattle.text_scan.specs.Gives.{Fails}

abbrev pub onto : List JsImport → List Item → Reached → Module → Module
onto is ts r m = record { imports = is ++ m.imports; items = ts ++ m.items; exports = exports_onto r m.exports }

pub import_onto : (is : List JsImport) (ts : List Item) (r : Reached) (i : JsImport) (ls : List Line) → onto (is ++ i ∷ []) ts r (module_of ls) ≡ onto is ts r (module_of (import_line i ∷ ls))
unfolding module_of
import_onto is ts r i ls = ap (λ (js : List JsImport). record { imports = js; items = ts ++ (module_of ls).items; exports = exports_onto r (module_of ls).exports }) (append_assoc is (i ∷ []) (module_of ls).imports)

pub item_onto : (is : List JsImport) (ts : List Item) (r : Reached) (t : Item) (ls : List Line) → goes_on (stage_of r) 0 ≡ true → onto is (ts ++ t ∷ []) reached.Items (module_of ls) ≡ onto is ts r (module_of (item_line t ∷ ls))
unfolding module_of
item_onto is ts reached.Imports t ls go = ap (λ (us : List Item). record { imports = is ++ (module_of ls).imports; items = us; exports = (module_of ls).exports }) (append_assoc ts (t ∷ []) (module_of ls).items)
item_onto is ts reached.Items t ls go = ap (λ (us : List Item). record { imports = is ++ (module_of ls).imports; items = us; exports = (module_of ls).exports }) (append_assoc ts (t ∷ []) (module_of ls).items)
item_onto is ts (reached.Exports xs) t ls go = absurd (cc go)

pub exports_put : (is : List JsImport) (ts : List Item) (r : Reached) (xs : List Name) (ls : List Line) → goes_on (stage_of r) 0 ≡ true → onto is ts (reached.Exports xs) (module_of ls) ≡ onto is ts r (module_of (export_line xs ∷ ls))
unfolding module_of
exports_put is ts reached.Imports xs ls go = refl
exports_put is ts reached.Items xs ls go = refl
exports_put is ts (reached.Exports ys) xs ls go = absurd (cc go)

-- the same, where the lists are known by equations
pub import_put : (is js : List JsImport) (ts : List Item) (r : Reached) (i : JsImport) (ls : List Line) → js ≡ is ++ i ∷ [] → onto js ts r (module_of ls) ≡ onto is ts r (module_of (import_line i ∷ ls))
import_put is js ts r i ls e = ap (λ (ks : List JsImport). onto ks ts r (module_of ls)) e ∙ import_onto is ts r i ls

pub item_put : (is : List JsImport) (ts us : List Item) (r : Reached) (t : Item) (ls : List Line) → us ≡ ts ++ t ∷ [] → goes_on (stage_of r) 0 ≡ true → onto is us reached.Items (module_of ls) ≡ onto is ts r (module_of (item_line t ∷ ls))
item_put is ts us r t ls e go = ap (λ (vs : List Item). onto is vs reached.Items (module_of ls)) e ∙ item_onto is ts r t ls go

pub onto_start : (is : List JsImport) (ts : List Item) → is ≡ [] → ts ≡ [] → (m : Module) → onto is ts reached.Imports m ≡ m
onto_start is ts e f m = rw (e, f) refl

pub onto_nothing : (is : List JsImport) (ts : List Item) (r : Reached) → onto is ts r (module_of []) ≡ record { imports = is; items = ts; exports = exports_onto r [] }
unfolding module_of
onto_nothing is ts r = ap (λ (js : List JsImport). record { imports = js; items = ts ++ []; exports = exports_onto r [] }) (append-nil is) ∙ ap (λ (us : List Item). record { imports = is; items = us; exports = exports_onto r [] }) (append-nil ts)

pub stage_goes : (s : Stage) (bytes : List ℕ) → passes (goes_on s) bytes ≡ true → goes_on s 0 ≡ true
stage_goes s [] go = absurd (cc go)
stage_goes stages.Imports (c ∷ bytes) go = refl
stage_goes stages.Items (c ∷ bytes) go = refl
stage_goes stages.End (c ∷ bytes) go = absurd (cc go)

-- what the lines that are left make of the module so far
abbrev pub finished : (Module → Module) → Reading (List Line) → Reading Module
finished join read = read >>= λ ls. (end_at ls.1 >>= λ u. Ok (join (module_of ls.0), u.1))

abbrev pub lines_left : ℕ → ℕ → Stage → List ℕ → Reading (List Line)
lines_left n count s bytes = walk_at count goes_on (λ t. line_at n (is_imports t)) stage_after s bytes

regroup : (join also : Module → Module) (l : Line) (read : Reading (List Line)) → ((ls : List Line) → also (module_of ls) ≡ join (module_of (l ∷ ls))) → finished join (read >>= λ ls. Ok (l ∷ ls.0, ls.1)) ≡ finished also read
regroup join also l (Ok ls) same = ap (λ (m : Module). end_at ls.1 >>= λ u. Ok (m, u.1)) (sym (same ls.0))
regroup join also l (Err e) same = refl

module _ (n : ℕ) where
  pub line_goes : (join also : Module → Module) (s t : Stage) (count i : ℕ) (bytes : List ℕ) (l : Line) (after : List ℕ) (total : Reading Module) → i < count → passes (goes_on s) bytes ≡ true → line_at n (is_imports s) bytes ≡ Ok (l, after)
      → t ≡ stage_after s l → ((ls : List Line) → also (module_of ls) ≡ join (module_of (l ∷ ls)))
      → finished join (lines_left n (count - i) s bytes) ≡ total → finished also (lines_left n (count - (i + 1)) t after) ≡ total
  unfolding walk_at
  line_goes join also s t count i bytes l after total lt go is next same so_far =
      let k : count - i ≡ suc (count - (i + 1)) = omega arith in
      let one : finished join (lines_left n (count - i) s bytes) ≡ finished also (lines_left n (count - (i + 1)) (stage_after s l) after) = rw (k, go, is) (regroup join also l (lines_left n (count - (i + 1)) (stage_after s l) after) same) in
      ap (λ (r : Stage). finished also (lines_left n (count - (i + 1)) r after)) next ∙ (sym one ∙ so_far)

  pub line_fails : (stop : Stop) (join : Module → Module) (s : Stage) (count i : ℕ) (bytes : List ℕ) (total : Reading Module) → i < count → passes (goes_on s) bytes ≡ true → Fails stop (line_at n (is_imports s) bytes)
      → finished join (lines_left n (count - i) s bytes) ≡ total → Fails stop total
  unfolding walk_at
  line_fails stops.NoMemory join s count i bytes total lt go is so_far = tt
  line_fails (stops.Bad left) join s count i bytes total lt go is so_far =
      let k : count - i ≡ suc (count - (i + 1)) = omega arith in
      let one : finished join (lines_left n (count - i) s bytes) ≡ Err left = rw (k, go, is) refl in
      sym so_far ∙ one

  pub line_stops : (join : Module → Module) (s : Stage) (count i : ℕ) (bytes : List ℕ) (total : Reading Module) → i < count → passes (goes_on s) bytes ≡ false
      → finished join (lines_left n (count - i) s bytes) ≡ total → total ≡ map_at (λ u. join (module_of [])) end_at bytes
  unfolding walk_at
  line_stops join s count i bytes total lt go so_far =
      let k : count - i ≡ suc (count - (i + 1)) = omega arith in
      let one : finished join (lines_left n (count - i) s bytes) ≡ map_at (λ u. join (module_of [])) end_at bytes = rw (k, go) refl in
      sym so_far ∙ one

  pub line_out : (join : Module → Module) (s : Stage) (count i : ℕ) (bytes : List ℕ) (total : Reading Module) → count ≤ i
      → finished join (lines_left n (count - i) s bytes) ≡ total → total ≡ Err (length bytes)
  unfolding walk_at
  line_out join s count i bytes total le so_far =
      let k : count - i ≡ 0 = omega arith in
      let one : finished join (lines_left n (count - i) s bytes) ≡ Err (length bytes) = rw k refl in
      sym so_far ∙ one

pub loop_start : (n : ℕ) (bytes : List ℕ) (join : Module → Module) → ((m : Module) → join m ≡ m) → finished join (lines_left n (n - 0) stages.Imports bytes) ≡ module_at n bytes
unfolding module_at module_lines_at
loop_start n bytes join same =
    let k : n - 0 ≡ n = omega arith in
    ap (λ (i : ℕ). finished join (lines_left n i stages.Imports bytes)) k ∙ by (lines_left n n stages.Imports bytes)
  where
    by : (read : Reading (List Line)) → finished join read ≡ (read >>= λ ls. map_at (λ u. module_of ls.0) end_at ls.1)
    by (Ok ls) = ap (λ (m : Module). end_at ls.1 >>= λ u. Ok (m, u.1)) (same (module_of ls.0))
    by (Err e) = refl
