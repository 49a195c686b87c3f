-- What is known of the classes of a program where its calls are written.
use Rattle.std.specs.Prelude.{Bool, false, List, ℕ}
use Rattle.sj_names.specs.declared.method_names.Member.{Member}

-- the member that a call of a public one runs, and whether a hijacked class stands below a class
pub record Lookup : Type 0 where
  pub target : Member → Member
  pub has_hijacked : List ℕ → Bool

-- each member is its own target, and no class stands above a hijacked one
abbrev pub own_targets : Lookup
own_targets = record { target = λ m. m; has_hijacked = λ c. false }
