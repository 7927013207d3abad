-- What a realm is made with.
use Rattle.std.specs.Prelude.{ℕ, List}
use Rattle.realm_machine.specs.declared.config.Limits.{Limits}

pub record Config : Type 0 where
  pub name : List ℕ
  pub limits : Limits
