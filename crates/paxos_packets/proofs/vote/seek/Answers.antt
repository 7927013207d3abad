use Rattle.std.proofs.Common.{◌≤◌, length, sym, arith}
use Rattle.std.proofs.lemmas.Bool.{ltb-false}
use Rattle.paxos_packets.proofs.Ascending.{ascends}
use Rattle.paxos_packets.proofs.Placing.{seen, seen_other, seen_none}
use Rattle.paxos_packets.proofs.vote.seek.Goals as goal

pub returns-in-Some-clause-which : goal.returns-in-Some-clause-which
returns-in-Some-clause-which g c =
    sym
    (seen c.args.slot c.place_of-place.result c.in-Some.vote.now c.args.votes.now c.place_of-place.ensures.place
    c.in-Some.ensures.lookup.3.0 c.in-Some.ensures.lookup.1 (omega arith))

pub returns-in_default-clause-which : goal.returns-in_default-clause-which
returns-in_default-clause-which g c =
    sym
    (seen_other c.args.slot c.place_of-place.result c.in-Some.vote.now c.args.votes.now (ascends _ c.requires)
    c.place_of-place.ensures.place
    c.in-Some.ensures.lookup.1 (λ e. omega arith))

pub returns-in_default-2-clause-which : goal.returns-in_default-2-clause-which
returns-in_default-2-clause-which g c =
    let past : length c.args.votes.now ≤ c.place_of-place.result = ltb-false _ _ (sym (rw c.in_default.is at c.get.ensures.lookup.0)) in
    sym (seen_none c.args.slot c.place_of-place.result c.args.votes.now (ascends _ c.requires) c.place_of-place.ensures.place past)
