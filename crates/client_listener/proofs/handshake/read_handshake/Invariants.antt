use Rattle.std.proofs.Common.{◌≡◌, take, length}
use Rattle.std.specs.Io.KnownBytes.{Consumes}
use Rattle.client_listener.proofs.handshake.read_handshake.Given as goal

abbrev pub invariant-loop-at : goal.invariant-loop-at
invariant-loop-at g l = Consumes (g.R.Read.remaining l.fn.reader) (g.R.Read.remaining l.reader) (take l.at l.octets) × (length l.octets ≡ 4)
