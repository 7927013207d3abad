-- What a store of rows finds.
use Rattle.std.specs.Prelude.{◌≡◌, ◌⊎◌}
use Rattle.paxos_packets.specs.Rows.{bare_rows}
use Rattle.paxos_packets.specs.declared.rows.Rows.{Rows}

-- the rows of a node that was never started
abbrev pub no_rows : {B : Type 0} → Rows B
no_rows = bare_rows 0

-- what a store may find after a call that was to make `next` of what it held: all that it might find before, and that
abbrev pub FindsOr : {K R : Type 0} → (K → R → Type 0) → K → K → R → Type 0
FindsOr {K} {R} Finds old new next = (x : R) → Finds new x → Finds old x ⊎ (x ≡ next)

-- what a store may find after a call that wrote nothing
abbrev pub FindsNoMore : {K R : Type 0} → (K → R → Type 0) → K → K → Type 0
FindsNoMore {K} {R} Finds old new = (x : R) → Finds new x → Finds old x
