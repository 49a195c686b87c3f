-- Code that declares each variable once and has no early error, piece by piece.
use Rattle.std.proofs.Common.{◌≡◌, ◌≤◌, ◌<◌, ℕ, suc, Bool, true, false, ◌&&◌, List, [], ◌∷◌, Some, None, refl, sym, subst, arith, ⊎_elim}
use Rattle.std.specs.Prelude.{ℤ}
use Rattle.agree_body_rules.specs.Terms as core
use Rattle.agree_body_rules.specs.Coercions.{coerced}
use Rattle.agree_body_rules.specs.Desugar.{finish, has_no_value, branches, tries, finishes, break_unless, Branches, one_case, switch_code}
use Rattle.agree_body_rules.specs.Spill.{Destination, discard, to_variable, to_result, Code, no_code, one, put_first, joined, Operand, all_plain, Spilled, spill, spill_case, then_use}
use Rattle.sj_desugar_spec.specs.Finalizers.{kept, keep_all, give_all_back, finalizer_code}
use Rattle.sj_trees.specs.Term.{Term}
use Rattle.sj_trees.specs.declared.positions.Position.{Position}
use Rattle.sj_trees.specs.declared.types.IrType.{IrType}
use Rattle.agree_early_errors.proofs.Declared.{DeclaresOne, Declares, declares-followed}
use Rattle.agree_early_errors.specs.Once.{Apart}
use Rattle.agree_early_errors.proofs.Core.{Distinct, distinct-followed, ProperOne, Proper, ProperCases, proper-followed}

-- one of these locals, or a numbered variable in this range
abbrev pub IsIn : (List ℕ → Type 0) → ℕ → ℕ → core.Variable → Type 0
IsIn own j n (core.named x) = own x
IsIn own j n (core.numbered k) = (j ≤ k) × (k < n)
IsIn own j n core.receiver = ⊥

pub record Good (own : List ℕ → Type 0) (ls : List (List ℕ)) (b : Bool) (j : ℕ) (c : Code) : Type 0 where
  pub onward : j ≤ c.next
  pub fresh : (y : core.Variable) → Declares c.statements y → IsIn own j c.next y
  pub distinct : Distinct c.statements
  pub proper : Proper ls b c.statements

abbrev pub Part : (List ℕ → Type 0) → (List ℕ → Type 0) → Type 0
Part small large = (x : List ℕ) → small x → large x

abbrev pub no_name : List ℕ → Type 0
no_name x = ⊥

in-wider : (own more : List ℕ → Type 0) (i j n m : ℕ) (y : core.Variable) → Part own more → j ≤ i → n ≤ m → IsIn own i n y → IsIn more j m y
in-wider own more i j n m (core.named x) h l k d = h x d
in-wider own more i j n m (core.numbered q) h l k d = let a = d.0 in let c = d.1 in (omega arith, omega arith)
in-wider own more i j n m core.receiver h l k d = d

pub good-widen : (own more : List ℕ → Type 0) (ls : List (List ℕ)) (b : Bool) (j : ℕ) (c : Code) → Part own more → Good own ls b j c → Good more ls b j c
good-widen own more ls b j c h g = record { onward = g.onward; fresh = λ y d. in-wider own more j j c.next c.next y h (omega arith) (omega arith) (g.fresh y d); distinct = g.distinct; proper = g.proper }

pub good-none : (own : List ℕ → Type 0) (ls : List (List ℕ)) (b : Bool) (j : ℕ) → Good own ls b j (no_code j)
good-none own ls b j = record { onward = omega arith; fresh = λ y d. absurd d; distinct = tt; proper = tt }

-- a statement that declares nothing
pub good-one : (own : List ℕ → Type 0) (ls : List (List ℕ)) (b : Bool) (j n : ℕ) (s : core.Statement) → j ≤ n → ((y : core.Variable) → DeclaresOne s y → ⊥) → ProperOne ls b s → Good own ls b j (record { statements = core.statement s core.no_statements; next = n })
good-one own ls b j n s l h p = record { onward = l; fresh = λ y d. ⊎_elim (λ i. absurd (h y i)) (λ i. absurd i) d; distinct = ((λ y d e. e), tt); proper = (p, tt) }

apart-in : (own other : List ℕ → Type 0) (i j n m : ℕ) (y : core.Variable) → Apart own other → n ≤ j → IsIn own i n y → IsIn other j m y → ⊥
apart-in own other i j n m (core.named x) h l d e = h x d e
apart-in own other i j n m (core.numbered q) h l d e = let a = d.1 in let c = e.0 in omega arith
apart-in own other i j n m core.receiver h l d e = d

pub good-joined : (one other own : List ℕ → Type 0) (ls : List (List ℕ)) (b : Bool) (j : ℕ) (c d : Code) → Good one ls b j c → Good other ls b c.next d → Apart one other → Part one own → Part other own → Good own ls b j (joined c d)
good-joined one other own ls b j c d g h apart sub more = record {
  onward = let a = g.onward in let e = h.onward in omega arith;
  fresh = λ y i. ⊎_elim (λ k. in-wider one own j j c.next d.next y sub (omega arith) h.onward (g.fresh y k)) (λ k. in-wider other own c.next j d.next d.next y more g.onward (omega arith) (h.fresh y k)) (declares-followed c.statements d.statements y i);
  distinct = distinct-followed c.statements d.statements g.distinct h.distinct (λ y i k. apart-in one other j c.next c.next d.next y apart (omega arith) (g.fresh y i) (h.fresh y k));
  proper = proper-followed ls b c.statements d.statements g.proper h.proper;
}

not_itself : (own : List ℕ → Type 0) (j n : ℕ) (y : core.Variable) → core.numbered j ≡ y → IsIn own (suc j) n y → ⊥
not_itself own j n y e d = let h = subst (IsIn own (suc j) n) (sym e) d in let a = h.0 in omega arith

-- the variable of this number in front
pub good-first : (own : List ℕ → Type 0) (ls : List (List ℕ)) (b : Bool) (j : ℕ) (s : core.Statement) (c : Code) → ((y : core.Variable) → DeclaresOne s y → core.numbered j ≡ y) → ProperOne ls b s → Good own ls b (suc j) c → Good own ls b j (put_first s c)
good-first own ls b j s c h p g = record {
  onward = let a = g.onward in omega arith;
  fresh = λ y d. ⊎_elim (λ i. subst (IsIn own j c.next) (h y i) (let a = g.onward in (omega arith, omega arith))) (λ i. in-wider own own (suc j) j c.next c.next y (λ x o. o) (omega arith) (omega arith) (g.fresh y i)) d;
  distinct = ((λ y d e. not_itself own j c.next y (h y d) (g.fresh y e)), g.distinct);
  proper = (p, g.proper);
}

-- a local in front
pub good-named : (one own : List ℕ → Type 0) (ls : List (List ℕ)) (b : Bool) (j : ℕ) (x : List ℕ) (s : core.Statement) (c : Code) → ((y : core.Variable) → DeclaresOne s y → core.named x ≡ y) → ProperOne ls b s → own x → Part one own → (one x → ⊥) → Good one ls b j c → Good own ls b j (put_first s c)
good-named one own ls b j x s c h p o sub fresh g = record {
  onward = g.onward;
  fresh = λ y d. ⊎_elim (λ i. subst (IsIn own j c.next) (h y i) o) (λ i. in-wider one own j j c.next c.next y sub (omega arith) (omega arith) (g.fresh y i)) d;
  distinct = ((λ y d e. fresh (subst (IsIn one j c.next) (sym (h y d)) (g.fresh y e))), g.distinct);
  proper = (p, g.proper);
}

-- a statement that declares nothing in front
pub good-front : (own : List ℕ → Type 0) (ls : List (List ℕ)) (b : Bool) (j : ℕ) (s : core.Statement) (c : Code) → ((y : core.Variable) → DeclaresOne s y → ⊥) → ProperOne ls b s → Good own ls b j c → Good own ls b j (put_first s c)
good-front own ls b j s c h p g = record { onward = g.onward; fresh = λ y d. ⊎_elim (λ i. absurd (h y i)) (g.fresh y) d; distinct = ((λ y d e. h y d), g.distinct); proper = (p, g.proper) }

abbrev pub spilled : Spilled → Code
spilled r = record { statements = r.statements; next = r.next }

case-good : (one other own : List ℕ → Type 0) (ls : List (List ℕ)) (b : Bool) (a f p : Bool) (o : Operand) (os : List Operand) (j : ℕ) → ((k : Destination) (j : ℕ) → Good one ls b j (o.code k j)) → ((j : ℕ) → Good other ls b j (spilled (spill os j))) → Apart one other → Part one own → Part other own → Good own ls b j (spilled (spill_case a f p o os (spill os) j))
case-good one other own ls b true f p o os j code rest apart sub more = good-none own ls b j
case-good one other own ls b false true p o os j code rest apart sub more = good-widen other own ls b j (spilled (spill os j)) more (rest j)
case-good one other own ls b false false true o os j code rest apart sub more = good-first own ls b j (core.constant_of (Some o.at) (core.numbered j) o.text) (spilled (spill os (suc j))) (λ y d. d) tt (good-widen other own ls b (suc j) (spilled (spill os (suc j))) more (rest (suc j)))
case-good one other own ls b false false false o os j code rest apart sub more = let c : Code = o.code (to_variable (core.numbered j) o.tpe) (suc j) in good-first own ls b j (core.declare_of (Some o.at) (core.numbered j)) (joined c (spilled (spill os c.next))) (λ y d. d) tt (good-joined one other own ls b (suc j) c (spilled (spill os c.next)) (code (to_variable (core.numbered j) o.tpe) (suc j)) (rest c.next) apart sub more)

-- an operand in front of others, each with the locals that it defines
pub operand-good : (one other own : List ℕ → Type 0) (ls : List (List ℕ)) (b : Bool) (o : Operand) (os : List Operand) → ((k : Destination) (j : ℕ) → Good one ls b j (o.code k j)) → ((j : ℕ) → Good other ls b j (spilled (spill os j))) → Apart one other → Part one own → Part other own → (j : ℕ) → Good own ls b j (spilled (spill (o ∷ os) j))
operand-good one other own ls b o os code rest apart sub more j = case-good one other own ls b (o.plain && all_plain os) o.fixed o.plain o os j code rest apart sub more

-- operands, and what is made of them
pub good-use : (one other own : List ℕ → Type 0) (ls : List (List ℕ)) (b : Bool) (os : List Operand) (made : List core.Expression → ℕ → Code) (j : ℕ) → Good one ls b j (spilled (spill os j)) → ((es : List core.Expression) (i : ℕ) → Good other ls b i (made es i)) → Apart one other → Part one own → Part other own → Good own ls b j (then_use (spill os j) made)
good-use one other own ls b os made j g h apart sub more = good-joined one other own ls b j (spilled (spill os j)) (made (spill os j).expressions (spill os j).next) g (h (spill os j).expressions (spill os j).next) apart sub more

finish-value : (own : List ℕ → Type 0) (ls : List (List ℕ)) (b v : Bool) (p : Position) (e : core.Expression) (s : core.Statement) (j : ℕ) → ((y : core.Variable) → DeclaresOne s y → ⊥) → ProperOne ls b s → Good own ls b j (elim v as (λ v. Code) [ true ↦ one (core.evaluate_of (Some p) e) j | false ↦ one s j ])
finish-value own ls b true p e s j h k = good-one own ls b j j (core.evaluate_of (Some p) e) (omega arith) (λ y d. d) tt
finish-value own ls b false p e s j h k = good-one own ls b j j s (omega arith) h k

pub finish-good : (own : List ℕ → Type 0) (ls : List (List ℕ)) (b : Bool) (k : Destination) (p : Position) (t : IrType) (q : Bool) (e : core.Expression) (j : ℕ) → Good own ls b j (finish k p t q e j)
finish-good own ls b discard p t true e j = good-none own ls b j
finish-good own ls b discard p t false e j = good-one own ls b j j (core.evaluate_of (Some p) e) (omega arith) (λ y d. d) tt
finish-good own ls b (to_variable x i) p t q e j = finish-value own ls b (has_no_value t) p e (core.assign_to (Some p) x (coerced i t e)) j (λ y d. d) tt
finish-good own ls b (to_result i) p t q e j = finish-value own ls b (has_no_value t) p e (core.return_of (Some p) (coerced i t e)) j (λ y d. d) tt

-- a choice, whose branches are lists of their own
pub branches-good : (one other own : List ℕ → Type 0) (ls : List (List ℕ)) (b : Bool) (p : Position) (e : core.Expression) (c : Code) (d : ℕ → Code) (j : ℕ) → Good one ls b j c → Good other ls b c.next (d c.next) → Good own ls b j (branches p e c d)
branches-good one other own ls b p e c d j g h = good-one own ls b j (d c.next).next (core.if_of (Some p) e c.statements (d c.next).statements) (let a = g.onward in let k = h.onward in omega arith) (λ y i. i) (g.distinct, g.proper, h.distinct, h.proper)

-- a block, and the handler of what it throws, which doesn't define the name of that: lists of their own
pub tries-good : (one other own : List ℕ → Type 0) (ls : List (List ℕ)) (b : Bool) (p : Position) (x : List ℕ) (c : Code) (d : ℕ → Code) (j : ℕ) → Good one ls b j c → (other x → ⊥) → Good other ls b c.next (d c.next) → Good own ls b j (tries p x c d)
tries-good one other own ls b p x c d j g fresh h = good-one own ls b j (d c.next).next (core.try_of (Some p) c.statements (core.named x) (d c.next).statements) (let a = g.onward in let k = h.onward in omega arith) (λ y i. i) (g.distinct, g.proper, (λ i. fresh (h.fresh (core.named x) i)), h.distinct, h.proper)

-- a block, and its finalizer: lists of their own
pub finishes-good : (one other own : List ℕ → Type 0) (ls : List (List ℕ)) (b : Bool) (p : Position) (c : Code) (d : ℕ → Code) (j : ℕ) → Good one ls b j c → Good other ls b c.next (d c.next) → Good own ls b j (finishes p c d)
finishes-good one other own ls b p c d j g h = good-one own ls b j (d c.next).next (core.finally_of (Some p) c.statements (d c.next).statements) (let a = g.onward in let k = h.onward in omega arith) (λ y i. i) (g.distinct, g.proper, h.distinct, h.proper)

-- what is kept is in variables of the next numbers
keep-good : (own : List ℕ → Type 0) (ls : List (List ℕ)) (b : Bool) (xs : List core.Variable) (j : ℕ) → Good own ls b j (keep_all xs j)
keep-good own ls b [] j = good-none own ls b j
keep-good own ls b (x ∷ xs) j = good-first own ls b j (core.constant_of None (core.numbered j) (core.variable_use x)) (keep_all xs (suc j)) (λ y d. d) tt (keep-good own ls b xs (suc j))

give-good : (own : List ℕ → Type 0) (ls : List (List ℕ)) (b : Bool) (xs : List core.Variable) (j next : ℕ) → Good own ls b next (give_all_back xs j next)
give-good own ls b [] j next = good-none own ls b next
give-good own ls b (x ∷ xs) j next = good-front own ls b next (core.assign_to None x (core.variable_use (core.numbered j))) (give_all_back xs (suc j) next) (λ y d. d) tt (give-good own ls b xs (suc j) next)

-- what a finalizer does, between what keeps variables and what gives them back
pub finalizer-good : (own : List ℕ → Type 0) (ls : List (List ℕ)) (b : Bool) (goes_to : List ℕ → Destination) (f : Term) (j : ℕ) (body : ℕ → Code) → ((i : ℕ) → Good own ls b i (body i)) → Good own ls b j (finalizer_code goes_to f j body)
finalizer-good own ls b goes_to f j body h = good-joined own no_name own ls b j (joined first second) (give_all_back xs j second.next) (good-joined no_name own own ls b j first second (keep-good no_name ls b xs j) (h first.next) (λ x i k. i) (λ x i. absurd i) (λ x i. i)) (give-good no_name ls b xs j second.next) (λ x i k. k) (λ x i. i) (λ x i. absurd i)
  where
    xs : List core.Variable
    xs = kept goes_to f

    first : Code
    first = keep_all xs j

    second : Code
    second = body first.next

-- `if (!c) { break; }` in front, inside a loop
pub break-good : (own : List ℕ → Type 0) (ls : List (List ℕ)) (j : ℕ) (e : core.Expression) (c : Code) → Good own ls true j c → Good own ls true j (put_first (break_unless e) c)
break-good own ls j e c g = good-front own ls true j (break_unless e) c (λ y d. d) (((λ y d i. i), tt), (refl, tt), tt, tt) g

-- cases of a switch
pub record GoodCases (ls : List (List ℕ)) (j : ℕ) (bs : Branches) : Type 0 where
  pub onward : j ≤ bs.next
  pub proper : ProperCases ls bs.cases

pub case-good-in : (own : List ℕ → Type 0) (ls : List (List ℕ)) (j : ℕ) (ks : List ℤ) (c : Code) (rest : ℕ → Branches) → Good own ls true j c → GoodCases ls c.next (rest c.next) → GoodCases ls j (one_case ks c rest)
case-good-in own ls j ks c rest g h = record {
  onward = let a = g.onward in let k = h.onward in omega arith;
  proper = (distinct-followed c.statements (core.statement (core.break_nearest None) core.no_statements) g.distinct ((λ y d i. i), tt) (λ y d i. ⊎_elim (λ e. e) (λ e. e) i), proper-followed ls true c.statements (core.statement (core.break_nearest None) core.no_statements) g.proper (refl, tt), h.proper);
}

pub switch-good : (own other : List ℕ → Type 0) (ls : List (List ℕ)) (b : Bool) (p : Position) (e : core.Expression) (bs : Branches) (d : ℕ → Code) (j : ℕ) → GoodCases ls j bs → Good other ls true bs.next (d bs.next) → Good own ls b j (switch_code p e bs d)
switch-good own other ls b p e bs d j g h = good-one own ls b j (d bs.next).next (core.switch_of (Some p) e bs.cases (d bs.next).statements) (let a = g.onward in let k = h.onward in omega arith) (λ y i. i) (g.proper, h.distinct, h.proper)
