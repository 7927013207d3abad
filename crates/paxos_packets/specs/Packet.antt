-- Packets: which are equal, given a test for bodies, and those from one member to others.
use Rattle.std.proofs.Common.{◌≡◌, ℕ, Bool, true, false, ◌&&◌, eqb, List, map}
use Rattle.std.specs.Prelude.{◌==◌}
use Rattle.std.specs.Cmp.Lexicographic.{pointwise}
use Rattle.std.proofs.lemmas.Bool.{eqb-true, and_parts, and_from}
use Rattle.paxos_packets.specs.Ballot.{same_ballot, ballot_same, ballot_sound}
use Rattle.paxos_packets.specs.Body.{IsEquality, number_same, numbers_joined}
use Rattle.paxos_packets.specs.Entry.{same_entry, entry_equality, entries_equality}
use Rattle.paxos_packets.specs.Members.{others}
use Rattle.paxos_packets.specs.Snapshot.{same_snapshot, snapshot_same, snapshot_sound}
use Rattle.paxos_packets.specs.Vote.{same_vote, vote_equality, votes_equality}
use Rattle.paxos_packets.specs.declared.packet.Kind.{Kind}
use Rattle.paxos_packets.specs.declared.packet.Kind.TheVariants.{Prepare, Promise, Accept, Accepted, Nack, Forward, Learned, Ask, Snapshot}
use Rattle.paxos_packets.specs.declared.packet.Packet.{Packet}

abbrev pub packet : {B : Type 0} → ℕ → Kind B → ℕ → Packet B
packet me kind to = record { sender = me; addressee = to; kind = kind }

-- one to each of the other members, by ascending number
abbrev pub to_others : {B : Type 0} → ℕ → ℕ → Kind B → List (Packet B)
to_others members me kind = map (packet me kind) (others me members)

-- equality of packets

abbrev pub same_kind : {B : Type 0} → (B → B → Bool) → Kind B → Kind B → Bool
same_kind same (Prepare b f) (Prepare c g) = same_ballot b c && (f == g)
same_kind same (Promise b f vs) (Promise c g ws) = same_ballot b c && ((f == g) && pointwise (same_vote same) vs ws)
same_kind same (Accept v) (Accept w) = same_vote same v w
same_kind same (Accepted v) (Accepted w) = same_vote same v w
same_kind same (Nack b p) (Nack c q) = same_ballot b c && same_ballot p q
same_kind same (Forward ds) (Forward es) = pointwise (same_entry same) ds es
same_kind same (Learned s d) (Learned t e) = (s == t) && same_entry same d e
same_kind same (Ask f) (Ask g) = f == g
same_kind same (Snapshot s) (Snapshot t) = same_snapshot s t
same_kind same _ _ = false

abbrev pub same_packet : {B : Type 0} → (B → B → Bool) → Packet B → Packet B → Bool
same_packet same p q = (p.sender == q.sender) && ((p.addressee == q.addressee) && same_kind same p.kind q.kind)

-- the test is equality
pub kind_equality : {B : Type 0} (same : B → B → Bool) → IsEquality same → IsEquality (same_kind same)
kind_equality {B} same ok = record { reflexive = all; sound = equal }
  where
    all : (x : Kind B) → same_kind same x x ≡ true
    all (Prepare b f) = and_from _ _ (ballot_same b) (number_same f)
    all (Promise b f vs) =
        and_from _ _ (ballot_same b) (and_from _ _ (number_same f) ((votes_equality same ok).reflexive vs))
    all (Accept v) = (vote_equality same ok).reflexive v
    all (Accepted v) = (vote_equality same ok).reflexive v
    all (Nack b p) = and_from _ _ (ballot_same b) (ballot_same p)
    all (Forward es) = (entries_equality same ok).reflexive es
    all (Learned s e) = and_from _ _ (number_same s) ((entry_equality same ok).reflexive e)
    all (Ask f) = number_same f
    all (Snapshot s) = snapshot_same s

    equal : (x y : Kind B) → same_kind same x y ≡ true → x ≡ y
    equal (Prepare b f) (Prepare c g) h =
        let k = and_parts (same_ballot b c) (eqb f g) h in
        let p = ballot_sound b c k.0 in
        let q = eqb-true f g k.1 in
        λ i. Prepare (p i) (q i)
    equal (Promise b f vs) (Promise c g ws) h =
        let k = and_parts (same_ballot b c) ((f == g) && pointwise (same_vote same) vs ws) h in
        let p = ballot_sound b c k.0 in
        let l = numbers_joined f g (pointwise (same_vote same) vs ws) k.1 in
        let q = (votes_equality same ok).sound vs ws l.1 in
        λ i. Promise (p i) (l.0 i) (q i)
    equal (Accept v) (Accept w) h = let p = (vote_equality same ok).sound v w h in λ i. Accept (p i)
    equal (Accepted v) (Accepted w) h = let p = (vote_equality same ok).sound v w h in λ i. Accepted (p i)
    equal (Nack b p) (Nack c q) h =
        let k = and_parts (same_ballot b c) (same_ballot p q) h in
        let l = ballot_sound b c k.0 in
        let m = ballot_sound p q k.1 in
        λ i. Nack (l i) (m i)
    equal (Forward ds) (Forward es) h = let p = (entries_equality same ok).sound ds es h in λ i. Forward (p i)
    equal (Learned s d) (Learned t e) h =
        let k = numbers_joined s t (same_entry same d e) h in
        let p = (entry_equality same ok).sound d e k.1 in
        λ i. Learned (k.0 i) (p i)
    equal (Ask f) (Ask g) h = let p = eqb-true f g h in λ i. Ask (p i)
    equal (Snapshot s) (Snapshot t) h = let p = snapshot_sound s t h in λ i. Snapshot (p i)
    equal _ _ h = cc

pub packet_equality : {B : Type 0} (same : B → B → Bool) → IsEquality same → IsEquality (same_packet same)
packet_equality {B} same ok = record { reflexive = all; sound = equal }
  where
    all : (p : Packet B) → same_packet same p p ≡ true
    all p = and_from _ _ (number_same p.sender) (and_from _ _ (number_same p.addressee) ((kind_equality same ok).reflexive p.kind))

    equal : (p q : Packet B) → same_packet same p q ≡ true → p ≡ q
    equal p q h =
        let k = numbers_joined p.sender q.sender _ h in
        let l = numbers_joined p.addressee q.addressee _ k.1 in
        let m = (kind_equality same ok).sound p.kind q.kind l.1 in
        λ i. record { sender = k.0 i; addressee = l.0 i; kind = m i }
