use Rattle.std.proofs.Common.{◌≡◌}
use Rattle.cluster_world.specs.Has.{Has}
use Rattle.mail_table.specs.Seats.{Owns}
use Rattle.actor_tests.proofs.mail_threads.post_to_second.Given as goal

abbrev pub invariant-loop : goal.invariant-loop
invariant-loop l =
    Owns l.mail l.one × (l.one.part.me ≡ l.fn.one.part.me) × (l.one.part.seen ≡ l.fn.one.part.seen) × Has l.fn.one.part.seen.sent l.packet
    × (l.packet.addressee ≡ 2)
