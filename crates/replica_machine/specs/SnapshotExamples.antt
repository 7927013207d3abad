-- A log that is kept as octets, computed by hand, for the examples of the module `laws`.
use Rattle.std.specs.Prelude.{ℕ, List, [], ◌∷◌, ◌++◌, Option, Some, None, Result, Ok, Err}
use Rattle.std.specs.Int.{bytes_high_first}
use Rattle.command_codec.specs.declared.fault.CodecFault.{CodecFault}
use Rattle.command_codec.specs.Entry.{whole}
use Rattle.command_codec.specs.Number.{number_reading}
use Rattle.replica_machine.specs.declared.roll.Standing.TheVariants.{Unknown, Live}
use Rattle.replica_machine.specs.Snapshot.{Kept}

-- a machine whose content is a number below 2^40, as eight octets
abbrev pub eight : ℕ → List ℕ
eight n = bytes_high_first 8 n

abbrev pub found : Result ℕ CodecFault → Option ℕ
found (Ok n) = Some n
found (Err fault) = None

abbrev pub of_eight : List ℕ → Option ℕ
of_eight octets = found (whole (number_reading (record { width = 8; low = 0; high = 1099511627775 }) octets))

-- what is kept of the log `lost_and_back`, and of one whose only node is lost
abbrev pub summed : Kept ℕ
summed = record {
  floor = 12;
  standings = Live 1 1 ∷ Unknown ∷ Live 2 1 ∷ Unknown ∷ Unknown ∷ Unknown ∷ Unknown ∷ [];
  content = 100;
}

-- a number below 256 in eight octets; a node that is unknown; one that is live in a boot after Items of it
abbrev pub small : ℕ → List ℕ
small n = 0 ∷ 0 ∷ 0 ∷ 0 ∷ 0 ∷ 0 ∷ 0 ∷ n ∷ []

abbrev pub unknown : List ℕ
unknown = small 0 ++ (0 ∷ small 0)

abbrev pub live : ℕ → ℕ → List ℕ
live boot taken = small boot ++ (1 ∷ small taken)

-- its octets, as the layout has them
abbrev pub summed_octets : List ℕ
summed_octets =
    small 12 ++ (live 1 1 ++ (unknown ++ (live 2 1 ++ (unknown ++ (unknown ++ (unknown ++ (unknown ++ small 100)))))))

-- octets that keep no log, for one cause each: a boot that is live at 0; Items of a boot that is not live; a flag that is none; a floor
-- that is no slot
abbrev pub with_first : List ℕ → List ℕ
with_first first = small 12 ++ (first ++ (unknown ++ (live 2 1 ++ (unknown ++ (unknown ++ (unknown ++ (unknown ++ small 100)))))))

abbrev pub live_at_none : List ℕ
live_at_none = with_first (small 0 ++ (1 ∷ small 0))

abbrev pub counts_lost : List ℕ
counts_lost = with_first (small 1 ++ (0 ∷ small 1))

abbrev pub no_flag : List ℕ
no_flag = with_first (small 1 ++ (2 ∷ small 1))

abbrev pub no_slot : List ℕ
no_slot =
    (0 ∷ 0 ∷ 1 ∷ 0 ∷ 0 ∷ 0 ∷ 0 ∷ 0 ∷ [])
    ++ (live 1 1 ++ (unknown ++ (live 2 1 ++ (unknown ++ (unknown ++ (unknown ++ (unknown ++ small 100)))))))
