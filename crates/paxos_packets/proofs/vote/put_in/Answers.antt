use Rattle.std.proofs.Common.{sym}
use Rattle.paxos_packets.proofs.Ascending.{ascends, ascending}
use Rattle.paxos_packets.proofs.Placing.{put_found, put_free, put_ascending}
use Rattle.paxos_packets.proofs.vote.put_in.Goals as goal

pub returns-in-Ok-clause-ok : goal.returns-in-Ok-clause-ok
returns-in-Ok-clause-ok g c =
    let found = rw (c.get.ensures.value, c.deref.ensures.value) at (sym c.in-Ok.ensures.which) in
    rw (c.in-Ok.ensures.found, c.get.ensures.value, c.deref.ensures.value)
    (put_found c.args.vote c.args.votes.now.items (ascends _ c.requires) found)

pub returns-in_ok-insert-in-Err-clause-ok : goal.returns-in_ok-insert-in-Err-clause-ok
returns-in_ok-insert-in-Err-clause-ok g c =
    let free = rw (c.get.ensures.value, c.deref.ensures.value) at (sym c.in-Err.ensures.which) in
    rw (c.in_ok-insert-in-Err.ensures.items, c.in-Err.ensures.free, c.get.ensures.value, c.deref.ensures.value)
    (put_free c.args.vote c.args.votes.now.items free)

pub returns-in-Ok-clause-ascending : goal.returns-in-Ok-clause-ascending
returns-in-Ok-clause-ascending g c =
    rw (returns-in-Ok-clause-ok g c) (ascending _ (put_ascending c.args.vote c.args.votes.now.items (ascends _ c.requires)))

pub returns-in_ok-insert-in-Err-clause-ascending : goal.returns-in_ok-insert-in-Err-clause-ascending
returns-in_ok-insert-in-Err-clause-ascending g c =
    rw (returns-in_ok-insert-in-Err-clause-ok g c) (ascending _ (put_ascending c.args.vote c.args.votes.now.items (ascends _ c.requires)))
