use Rattle.std.proofs.Common.{◌≡◌, ◌⊎◌, [], vec_len}
use Rattle.std.specs.Prelude.{All}
use Rattle.cluster_world.specs.Has.{Has}
use Rattle.mail_table.specs.Seats.{parts_of}
use Rattle.mail_table.specs.declared.part.Part.{Part}
use Rattle.mail_table.proofs.gathering.take_in.Given as goal

-- each part of all seats is one of a seat that is left, or taken in
abbrev pub invariant-loop-next : goal.invariant-loop-next
invariant-loop-next g l =
    All (λ s. (s.office ≡ l.mark.seen.book) × (s.table ≡ l.mark.number)) l.seats.items × (l.gatherer.table_id ≡ l.table.shared.table_id)
    × (l.gatherer.me.1 ≡ [])
    × ((x : Part _) → Has (parts_of l.initial.seats.items) x ⊎ Has l.initial.gatherer.me.0 x
    → Has (parts_of l.seats.items) x ⊎ Has l.gatherer.me.0 x)

abbrev pub decreases-loop-next : goal.decreases-loop-next
decreases-loop-next g l = vec_len l.seats
