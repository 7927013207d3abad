use Rattle.std.proofs.Common.{◌≡◌, ◌++◌, drop}
use Rattle.std.specs.List.{flat_map}
use Rattle.realm_snapshot.specs.Writing.{eight_octets, list_octets}
use Rattle.realm_snapshot.specs.Reading.{id_reading}
use Rattle.realm_snapshot.specs.Snapshot.{Backs}
use Rattle.realm_snapshot.proofs.RoundTrip.{Each}
use Rattle.realm_snapshot.proofs.writing_parts.put_ids.Given as goal

abbrev pub invariant-loop-id : goal.invariant-loop-id
invariant-loop-id l =
    (l.out.items ++ flat_map eight_octets (drop l.id-index l.ids) ≡ l.fn.out.items ++ list_octets eight_octets l.ids)
    × (Each (λ x. Backs id_reading (eight_octets x) x) (drop l.id-index l.ids) → Each (λ x. Backs id_reading (eight_octets x) x) l.ids)
