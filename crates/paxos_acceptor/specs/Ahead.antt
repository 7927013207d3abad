-- Rows that are ahead of what is committed, by changes that are planned: the sum of these, and what the rows had in their place.
use Rattle.std.specs.Prelude.{◌≡◌, ℕ, Option, Some, None, List, [], ◌∷◌, ◌++◌, map}
use Rattle.std.specs.Option.{option_or}
use Rattle.paxos_packets.specs.Rows.{no_change}
use Rattle.paxos_packets.specs.Vote.{put_back, put_votes, vote_in}
use Rattle.paxos_packets.specs.declared.ballot.Ballot.{Ballot}
use Rattle.paxos_packets.specs.declared.rows.Change.{Change}
use Rattle.paxos_packets.specs.declared.rows.Rows.{Rows}
use Rattle.paxos_packets.specs.declared.vote.Vote.{Vote}
use Rattle.paxos_acceptor.specs.Acceptor.{adopted}
use Rattle.paxos_acceptor.specs.declared.ahead.Replaced.{Replaced}
use Rattle.paxos_acceptor.specs.declared.ahead.Replaced.TheVariants.{Nothing, Held}

-- two changes, one after the other, of which the later one has no snapshot
abbrev pub both : {B : Type 0} → Change B → Change B → Change B
both a b = record a { promised = option_or b.promised a.promised; votes = put_votes b.votes a.votes }

-- what a slot has, by what was found there
abbrev pub had : {B : Type 0} → ℕ → Option (Vote B) → Replaced B
had slot None = Nothing slot
had slot (Some v) = Held v

-- what votes replace
abbrev pub replaced_by : {B : Type 0} → List (Vote B) → List (Vote B) → List (Replaced B)
replaced_by votes held = map (λ v. had v.slot (vote_in v.slot held)) votes

-- it is put back

abbrev pub put_had : {B : Type 0} → Replaced B → List (Vote B) → List (Vote B)
put_had (Nothing slot) votes = put_back slot None votes
put_had (Held v) votes = put_back v.slot (Some v) votes

-- what was replaced last comes first
abbrev pub put_all_back : {B : Type 0} → List (Replaced B) → List (Vote B) → List (Vote B)
put_all_back [] votes = votes
put_all_back (r ∷ rs) votes = put_had r (put_all_back rs votes)

-- what callers see of changes that are planned
pub record Noted (B : Type 0) : Type 0 where
  -- their sum
  pub change : Change B
  -- what was promised before them
  pub promised : Option Ballot
  -- what each vote replaced, oldest first
  pub replaced : List (Replaced B)

-- none is planned
abbrev pub none_noted : {B : Type 0} → Option Ballot → Noted B
none_noted promised = record { change = no_change; promised = promised; replaced = [] }

-- one change more, without a snapshot, of rows with these votes
abbrev pub with_change : {B : Type 0} → Change B → List (Vote B) → Noted B → Noted B
with_change c held p =
    record { change = both p.change c; promised = p.promised; replaced = p.replaced ++ replaced_by c.votes held }

-- the rows before all of them
abbrev pub taken_back : {B : Type 0} → Noted B → Rows B → Rows B
taken_back p rows = record rows { promised = p.promised; votes = put_all_back p.replaced rows.votes }

-- the rows are ahead of these by what is planned: they have its sum, and without it they are these
pub record IsAhead {B : Type 0} (kept : Rows B) (p : Noted B) (rows : Rows B) : Type 0 where
  pub adds : adopted kept p.change ≡ rows
  pub back : taken_back p rows ≡ kept
