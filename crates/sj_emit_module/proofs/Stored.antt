-- The files of classes, class after class.
use Rattle.std.proofs.Common.{◌≡◌, ◌+◌, ℕ, Bool, true, false, List, [], ◌∷◌, ◌++◌, Option, Some, None, refl, sym, ap, ◌∙◌, take, slice_get}
use Rattle.std.specs.Prelude.{◌||◌, if◌then◌else◌}
use Rattle.std.proofs.lemmas.List.Folds.{list_any-append}
use Rattle.js_tree.specs.Terms.{Name}
use Rattle.sj_emit_module_spec.specs.Modules.{file_with}
use Rattle.sj_emit_module.proofs.Added.{more_taken}
use Rattle.sj_emit_module.specs.Files.{first_of}
use Rattle.sj_split.specs.Modules.{file, is_among}
use Rattle.sj_split.specs.Orders.{Bytes, is_same}
use Rattle.sj_split.specs.declared.plans.PlannedModule.{PlannedModule}

first_twice : (o : Option Bytes) (p q : Bool) (f : Bytes) → first_of (first_of o (if p then Some f else None)) (if q then Some f else None) ≡ first_of o (if (p || (q || false)) then Some f else None)
first_twice (Some g) p q f = refl
first_twice None true q f = refl
first_twice None false true f = refl
first_twice None false false f = refl

pub none_put : (o : Option Bytes) → o ≡ first_of o None
none_put None = refl
none_put (Some f) = refl

-- one class more
pub class_more : (classes : List Name) (n : ℕ) (c class : Name) (f : Bytes) (old mid new : Option Bytes) → slice_get classes n ≡ Some c → mid ≡ first_of old (if is_among (take n classes) class then Some f else None) → new ≡ first_of mid (if is_same class c then Some f else None) → new ≡ first_of old (if is_among (take (n + 1) classes) class then Some f else None)
class_more classes n c class f old mid new at h e =
    e
    ∙ ap (λ o. first_of o (if is_same class c then Some f else None)) h
    ∙ first_twice old (is_among (take n classes) class) (is_same class c) f
    ∙ ap (λ b. first_of old (if b then Some f else None)) (sym (list_any-append (is_same class) (take n classes) (c ∷ [])))
    ∙ ap (λ (l : List Name). first_of old (if is_among l class then Some f else None)) (sym (more_taken classes n c at))

file_behind : (ms : List PlannedModule) (m : PlannedModule) (class : Name) → file_with (ms ++ m ∷ []) class ≡ first_of (file_with ms class) (if is_among m.classes class then Some (file m) else None)
file_behind [] m class = refl
file_behind (n ∷ ms) m class = go (is_among n.classes class) (file_behind ms m class)
  where
    go : (b : Bool) → file_with (ms ++ m ∷ []) class ≡ first_of (file_with ms class) (if is_among m.classes class then Some (file m) else None) → (if b then Some (file n) else file_with (ms ++ m ∷ []) class) ≡ first_of (if b then Some (file n) else file_with ms class) (if is_among m.classes class then Some (file m) else None)
    go true rest = refl
    go false rest = rest

-- one module more
pub module_more : (ms : List PlannedModule) (n : ℕ) (m : PlannedModule) (class : Name) (f : Bytes) (mid new : Option Bytes) → slice_get ms n ≡ Some m → f ≡ file m → mid ≡ file_with (take n ms) class → new ≡ first_of mid (if is_among m.classes class then Some f else None) → new ≡ file_with (take (n + 1) ms) class
module_more ms n m class f mid new at named h e =
    e
    ∙ ap (λ o. first_of o (if is_among m.classes class then Some f else None)) h
    ∙ ap (λ g. first_of (file_with (take n ms) class) (if is_among m.classes class then Some g else None)) named
    ∙ sym (file_behind (take n ms) m class)
    ∙ ap (λ (l : List PlannedModule). file_with l class) (sym (more_taken ms n m at))
