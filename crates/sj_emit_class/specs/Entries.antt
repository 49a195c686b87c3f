-- Method entries under the names of their classes.
use Rattle.std.specs.Prelude.{◌≡◌, List, map}
use Rattle.std.specs.List.{filter}
use Rattle.class_lists.specs.Lists.{items_at}
use Rattle.class_lists.specs.declared.lists.Lists.{Lists}
use Rattle.sj_world.specs.Known.{Name, is_same}
use Rattle.sj_world.specs.declared.linked.MethodEntry.{MethodEntry}
use denote.Ref.{Bor}

-- under the name of each class are its entries, in their order
pub record AreByClass (entries : List MethodEntry) (lists : Lists (Bor MethodEntry)) : Type 0 where
  pub exact : (c : Name) → map (λ e. e.now) (items_at lists c) ≡ filter (λ e. is_same e.class c) entries
