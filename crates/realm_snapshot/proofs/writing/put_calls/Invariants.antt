use Rattle.std.proofs.Common.{◌≡◌, ◌++◌, drop}
use Rattle.std.specs.List.{flat_map}
use Rattle.realm_snapshot.specs.Writing.{call_octets, list_octets}
use Rattle.realm_snapshot.specs.Reading.{call_reading}
use Rattle.realm_snapshot.specs.Snapshot.{Backs}
use Rattle.realm_snapshot.proofs.RoundTrip.{Each}
use Rattle.realm_snapshot.proofs.writing.put_calls.Given as goal

abbrev pub invariant-loop-call : goal.invariant-loop-call
invariant-loop-call l =
    (l.out.items ++ flat_map call_octets (drop l.call-index l.calls) ≡ l.fn.out.items ++ list_octets call_octets l.calls)
    × (Each (λ x. Backs call_reading (call_octets x) x) (drop l.call-index l.calls)
    → Each (λ x. Backs call_reading (call_octets x) x) l.calls)
