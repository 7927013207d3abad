-- What clauses see of the frames that wait to be written.
use Rattle.std.specs.Prelude.{ℕ, List}

-- the longest payload that the client takes, and the octets of the frames
pub record WaitingFrames : Type 0 where
  pub limit : ℕ
  pub octets : List ℕ
