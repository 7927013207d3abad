use Rattle.std.proofs.Common.{◌≡◌, drop}
use Rattle.std.specs.List.{list_all}
use Rattle.store_rows.specs.Changes.{is_placed}
use Rattle.store_rows.proofs.changes.are_placed.Given as goal

abbrev pub invariant-loop-vote : goal.invariant-loop-vote
invariant-loop-vote g l = list_all (is_placed l.promised l.floor) (drop l.vote-index l.votes) ≡ list_all (is_placed l.promised l.floor) l.votes
