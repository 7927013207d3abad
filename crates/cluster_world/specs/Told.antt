-- The transports that were handed something in a world (docs/CONSENSUS.md, "The world").
use Rattle.std.specs.Prelude.{◌≡◌, ◌≢◌, List, []}
use Rattle.std.specs.List.{flat_map}
use Rattle.paxos_packets.specs.declared.transport.Transport.{Transport}
use Rattle.replica_machine.specs.Replay.{Machine}
use Rattle.replica_follower.specs.Handed.{tellings, AreInOrder}
use Rattle.cluster_world.specs.Has.{Has}
use Rattle.cluster_world.specs.Members.{MemberState}
use Rattle.cluster_world.specs.World.{World, handed}

-- these are the transports that were handed something, by node, boot and number, each with all of it, oldest first
pub record WereHanded {B S Y : Type 0} (m : Machine B S Y) (w : World B) (told : List (Transport × List Y)) : Type 0 where
  pub in_order : AreInOrder told
  pub only : (t : Transport) (ys : List Y) → Has told (t, ys) → (ys ≡ handed m t w) × (ys ≢ [])
  pub each : (t : Transport) → handed m t w ≢ [] → Has told (t, handed m t w)

-- of a world there is one such list
abbrev pub HandedIsOne : Type 0 → Type 0 → Type 0 → Type 0
HandedIsOne B S Y = (m : Machine B S Y) (w : World B) (a b : List (Transport × List Y)) → WereHanded m w a → WereHanded m w b → a ≡ b

-- what the machines of these members hand out, one member after the other
abbrev pub tell_members : {B M Y : Type 0} → List (MemberState B M Y) → List (Transport × List Y)
tell_members list = flat_map (λ s. tellings s.machine.told) list
