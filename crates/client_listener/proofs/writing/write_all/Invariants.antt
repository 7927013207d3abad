use Rattle.std.proofs.Common.{◌≡◌, ◌++◌, ℕ, List}
use Rattle.std.specs.Io.KnownBytes.{Appends}
use Rattle.client_listener.proofs.writing.write_all.Given as goal

abbrev pub invariant-loop-try : goal.invariant-loop-try
invariant-loop-try g l = record {
  written : (written : List ℕ) × (l.fn.outbox.octets ≡ written ++ l.outbox.octets)
      × Appends (g.W.Write.contents l.fn.writer) (g.W.Write.contents l.writer) written;
  limit : l.outbox.limit ≡ l.fn.outbox.limit;
}
