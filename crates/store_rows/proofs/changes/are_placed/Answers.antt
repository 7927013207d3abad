use Rattle.std.proofs.Common.{◌≡◌, ◌∙◌, ◌+◌, ◌<◌, ◌&&◌, ℕ, List, ◌∷◌, Bool, length, drop, get_or, Option, true, false, sym, ap}
use Rattle.std.specs.List.{list_all}
use Rattle.std.proofs.lemmas.List.{drop_more}
use Rattle.paxos_packets.specs.declared.ballot.Ballot.{Ballot}
use Rattle.paxos_packets.specs.declared.vote.Vote.{Vote}
use Rattle.store_rows.specs.Changes.{is_placed}
use Rattle.store_rows.proofs.changes.are_placed.Goals as goal

-- one vote, and those after it
placed : {B : Type 0} (promised : Option Ballot) (floor : ℕ) (votes : List (Vote B)) (i : ℕ) (v : Vote B) → i < length votes → v ≡ get_or votes i v
    → list_all (is_placed promised floor) (drop i votes) ≡ list_all (is_placed promised floor) votes → (b : Bool) → is_placed promised floor v ≡ b
    → (b && list_all (is_placed promised floor) (drop (i + 1) votes)) ≡ list_all (is_placed promised floor) votes
placed promised floor votes i v low is was b placed_is =
    ap (λ x. x && list_all (is_placed promised floor) (drop (i + 1) votes)) (sym placed_is)
    ∙ ap (λ w. list_all (is_placed promised floor) (w ∷ drop (i + 1) votes)) is ∙ ap (list_all (is_placed promised floor)) (sym (drop_more votes i v low)) ∙ was

pub loop-vote-preserved : goal.loop-vote-preserved
loop-vote-preserved g c =
    placed c.args.promised.now c.args.floor c.args.votes.now c.loop-vote.vote-index c.vote-item.result c.loop-vote-test.true c.vote-item.is
    c.loop-vote.invariant true (sym c.is_placed.ensures ∙ c.if-not-is_placed.false)

pub returns-then-not-is_placed : goal.returns-then-not-is_placed
returns-then-not-is_placed g c =
    placed c.args.promised.now c.args.floor c.args.votes.now c.loop-vote.vote-index c.vote-item.result c.loop-vote-test.true c.vote-item.is
    c.loop-vote.invariant false (sym c.is_placed.ensures ∙ c.if-not-is_placed.true)
