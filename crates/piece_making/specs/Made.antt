-- What makers are handed, and what they give: a part that was made, or want of memory.
use Rattle.std.specs.Prelude.{◌≡◌, IfOk, Result}
use Rattle.sj_names.specs.declared.memory.NoMemory.{NoMemory}

-- what was made, if memory sufficed, is seen as this
pub record Makes {A E : Type 0} (view : A → E) (made : Result A NoMemory) (e : E) : Type 0 where
  pub is_seen : IfOk made (λ x. view x ≡ e)
