-- A static field that can be read, or set, can be used, and so can the cell of a class whose one object can be loaded, or stored.
use Rattle.std.proofs.Common.{◌≡◌, ◌⊎◌, inl, inr, ℕ, List, true}
use Rattle.std.proofs.lemmas.Bool.{or_cases, or_left, or_right}
use Rattle.agree_body_forms.specs.Built.{Usable, has_static, has_cell}
use Rattle.sj_trees.specs.declared.types.IrType.{IrType}

pub read_static : (has : Usable) (c f : List ℕ) (t : IrType) → has.static_field c f t ≡ true → has_static has c f t ≡ true
read_static has c f t h = or_left (has.static_field c f t) (has.static_setter c f t) h

pub set_static : (has : Usable) (c f : List ℕ) (t : IrType) → has.static_setter c f t ≡ true → has_static has c f t ≡ true
set_static has c f t h = or_right (has.static_field c f t) (has.static_setter c f t) h

-- what can be used of static fields here can be used there
pub static_among : (has all : Usable) (c f : List ℕ) (t : IrType) → (has.static_field c f t ≡ true → all.static_field c f t ≡ true) → (has.static_setter c f t ≡ true → all.static_setter c f t ≡ true) → has_static has c f t ≡ true → has_static all c f t ≡ true
static_among has all c f t read set h = go (or_cases (has.static_field c f t) (has.static_setter c f t) h)
  where
    go : (has.static_field c f t ≡ true) ⊎ (has.static_setter c f t ≡ true) → has_static all c f t ≡ true
    go (inl l) = read_static all c f t (read l)
    go (inr l) = set_static all c f t (set l)

pub load_cell : (has : Usable) (c : List ℕ) → has.modules c ≡ true → has_cell has c ≡ true
load_cell has c h = or_left (has.modules c) (has.stored c) h

pub store_cell : (has : Usable) (c : List ℕ) → has.stored c ≡ true → has_cell has c ≡ true
store_cell has c h = or_right (has.modules c) (has.stored c) h

-- what can be used of cells here can be used there
pub cell_among : (has all : Usable) (c : List ℕ) → (has.modules c ≡ true → all.modules c ≡ true) → (has.stored c ≡ true → all.stored c ≡ true) → has_cell has c ≡ true → has_cell all c ≡ true
cell_among has all c load store h = go (or_cases (has.modules c) (has.stored c) h)
  where
    go : (has.modules c ≡ true) ⊎ (has.stored c ≡ true) → has_cell all c ≡ true
    go (inl l) = load_cell all c (load l)
    go (inr l) = store_cell all c (store l)
