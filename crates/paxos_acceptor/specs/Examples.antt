-- A worked example of changes that are planned one after another: two slots are voted in, one of them twice, and one was voted in before.
use Rattle.std.specs.Prelude.{ℕ, Some, None, [], ◌∷◌}
use Rattle.paxos_packets.specs.declared.ballot.Ballot.{Ballot}
use Rattle.paxos_packets.specs.declared.entry.Entry.TheVariants.{Noop, Boot}
use Rattle.paxos_packets.specs.declared.rows.Change.{Change}
use Rattle.paxos_packets.specs.declared.rows.Rows.{Rows}
use Rattle.paxos_packets.specs.declared.vote.Vote.{Vote}
use Rattle.paxos_acceptor.specs.Acceptor.{adopted}
use Rattle.paxos_acceptor.specs.Ahead.{none_noted, with_change, Noted}

abbrev pub ballot_of : ℕ → Ballot
ballot_of round = record { round = round; node = 1 }

abbrev pub vote_for : ℕ → ℕ → Vote ℕ
vote_for slot round = record { slot = slot; ballot = ballot_of round; entry = Boot 1 round }

-- the rows have votes in the slots 1 and 3
abbrev pub rows_before : Rows ℕ
rows_before = record { boot = 1; promised = Some (ballot_of 1); snapshot = None; votes = vote_for 1 1 ∷ vote_for 3 1 ∷ [] }

-- the first change has a vote in slot 2, the second one votes in 2 and 3
abbrev pub first_change : Change ℕ
first_change = record { promised = Some (ballot_of 2); snapshot = None; votes = vote_for 2 2 ∷ [] }

abbrev pub second_change : Change ℕ
second_change = record { promised = Some (ballot_of 3); snapshot = None; votes = vote_for 2 3 ∷ vote_for 3 3 ∷ [] }

abbrev pub rows_between : Rows ℕ
rows_between = adopted rows_before first_change

abbrev pub rows_after : Rows ℕ
rows_after = adopted rows_between second_change

abbrev pub noted_once : Noted ℕ
noted_once = with_change first_change rows_before.votes (none_noted rows_before.promised)

abbrev pub noted_twice : Noted ℕ
noted_twice = with_change second_change rows_between.votes noted_once
