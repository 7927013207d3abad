-- A packet is a snapshot, or one of the other kinds, which the parts of a node go by.
use Rattle.std.proofs.Common.{◌≡◌, ◌⊎◌, inl, inr, ℕ, Bool, refl}
use Rattle.paxos_packets.specs.Snapshot as taken
use Rattle.paxos_packets.specs.declared.packet.Kind.{Kind}
use Rattle.paxos_packets.specs.declared.packet.Kind.TheVariants.{Prepare, Promise, Accept, Accepted, Nack, Forward, Ask, Learned, Snapshot}
use Rattle.paxos_planning.specs.Node.{Plan}
use Rattle.paxos_planning.specs.Replies.{on_packet}
use Rattle.paxos_node.specs.Events.{deliver}

abbrev pub IsOther : {B : Type 0} → (B → B → Bool) → ℕ → ℕ → ℕ → Kind B → Type 0
IsOther {B} same members n from kind = (t : Plan B) → deliver same members n from kind t ≡ on_packet same members n from kind t

pub by_kind : {B : Type 0} (same : B → B → Bool) (members n from : ℕ) (kind : Kind B)
    → ((s : taken.Snapshot) × (kind ≡ Snapshot s)) ⊎ IsOther same members n from kind
by_kind same members n from (Prepare b first) = inr (λ t. refl)
by_kind same members n from (Promise b floor votes) = inr (λ t. refl)
by_kind same members n from (Accept v) = inr (λ t. refl)
by_kind same members n from (Accepted v) = inr (λ t. refl)
by_kind same members n from (Nack b p) = inr (λ t. refl)
by_kind same members n from (Forward es) = inr (λ t. refl)
by_kind same members n from (Ask slot) = inr (λ t. refl)
by_kind same members n from (Learned slot e) = inr (λ t. refl)
by_kind same members n from (Snapshot s) = inl (s, refl)
