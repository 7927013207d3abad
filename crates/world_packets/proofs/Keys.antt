-- The test of keys is equality.
use Rattle.std.proofs.Common.{◌≡◌, Bool, true, false, eqb, refl}
use Rattle.std.proofs.Math.Bool.{beq}
use Rattle.std.proofs.lemmas.Bool.{eqb-true, and_parts}
use Rattle.paxos_packets.specs.Ballot.{same_ballot, ballot_sound}
use Rattle.world_packets.specs.declared.numbers.EntryNumbers.{EntryNumbers}
use Rattle.world_packets.specs.declared.numbers.Key.{Key}
use Rattle.world_packets.specs.declared.numbers.Numbers.{Numbers}
use Rattle.world_packets.specs.Numbers.{same_entry_numbers, same_numbers, same_key}

off : false ≡ true → ⊥
off e = cc

beq_sound : (a b : Bool) → beq a b ≡ true → a ≡ b
beq_sound true true e = refl
beq_sound true false e = absurd (off e)
beq_sound false true e = absurd (off e)
beq_sound false false e = refl

entry_numbers_sound : (m n : EntryNumbers) → same_entry_numbers m n ≡ true → m ≡ n
entry_numbers_sound m n e =
    let a = and_parts (eqb m.node n.node) _ e in
    let b = and_parts (eqb m.boot n.boot) _ a.1 in
    let p = eqb-true m.node n.node a.0 in
    let q = eqb-true m.boot n.boot b.0 in
    let r = eqb-true m.seq n.seq b.1 in
    λ i. record { node = p i; boot = q i; seq = r i }

numbers_sound : (m n : Numbers) → same_numbers m n ≡ true → m ≡ n
numbers_sound m n e =
    let a = and_parts (eqb m.sender n.sender) _ e in
    let b = and_parts (eqb m.addressee n.addressee) _ a.1 in
    let c = and_parts (same_ballot m.ballot n.ballot) _ b.1 in
    let d = and_parts (same_ballot m.promised n.promised) _ c.1 in
    let f = and_parts (eqb m.slot n.slot) _ d.1 in
    let g = and_parts (beq m.is_cast n.is_cast) _ f.1 in
    let h = and_parts (eqb m.from n.from) _ g.1 in
    let o = and_parts (eqb m.floor n.floor) _ h.1 in
    let k = and_parts (eqb m.count n.count) _ o.1 in
    let l = and_parts (same_entry_numbers m.first n.first) _ k.1 in
    let sender = eqb-true m.sender n.sender a.0 in
    let addressee = eqb-true m.addressee n.addressee b.0 in
    let ballot = ballot_sound m.ballot n.ballot c.0 in
    let promised = ballot_sound m.promised n.promised d.0 in
    let slot = eqb-true m.slot n.slot f.0 in
    let cast = beq_sound m.is_cast n.is_cast g.0 in
    let from = eqb-true m.from n.from h.0 in
    let floor = eqb-true m.floor n.floor o.0 in
    let count = eqb-true m.count n.count k.0 in
    let first = entry_numbers_sound m.first n.first l.0 in
    let last = entry_numbers_sound m.last n.last l.1 in
    λ i. record {
      sender = sender i;
      addressee = addressee i;
      ballot = ballot i;
      promised = promised i;
      slot = slot i;
      is_cast = cast i;
      from = from i;
      floor = floor i;
      count = count i;
      first = first i;
      last = last i;
    }

pub key_sound : (k l : Key) → same_key k l ≡ true → k ≡ l
key_sound k l e =
    let a = and_parts (same_numbers k.numbers l.numbers) _ e in
    let n = numbers_sound k.numbers l.numbers a.0 in
    let o = eqb-true k.ordinal l.ordinal a.1 in
    λ i. record { numbers = n i; ordinal = o i }
