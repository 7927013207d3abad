-- An entry's identity: the entry without the transport and the body of an item.
use Rattle.std.proofs.Common.{Bool, true, false, ◌&&◌}
use Rattle.std.proofs.Math.Bool.{beq}
use Rattle.std.specs.Prelude.{◌==◌}
use Rattle.paxos_packets.specs.declared.entry.Entry.{Entry}
use Rattle.paxos_packets.specs.declared.entry.Entry.TheVariants.{Noop, Boot, Lost, Item}
use Rattle.paxos_proposer.specs.declared.identity.Identity.{Identity}

abbrev pub identity_of : {B : Type 0} → Entry B → Identity
identity_of Noop = record { node = 0; boot = 0; seq = 0; is_lost = false }
identity_of (Boot n b) = record { node = n; boot = b; seq = 0; is_lost = false }
identity_of (Lost n b) = record { node = n; boot = b; seq = 0; is_lost = true }
identity_of (Item n b q t x) = record { node = n; boot = b; seq = q; is_lost = false }

abbrev pub same_identity : Identity → Identity → Bool
same_identity k l = (k.node == l.node) && ((k.boot == l.boot) && ((k.seq == l.seq) && beq k.is_lost l.is_lost))
