use Rattle.std.proofs.Common.{◌≡◌, ◌++◌, map}
use Rattle.std.specs.Vec.Iter.{into_iter_items}
use Rattle.paxos_planning.specs.Drafting.{told_to}
use Rattle.paxos_planning.proofs.replies.put_told.Given as goal

-- with what is still to be reported, what is there is what was there with all of it
abbrev pub invariant-loop-one : goal.invariant-loop-one
invariant-loop-one g l =
    l.packets.items ++ map (told_to l.me l.to) (into_iter_items l.one-iterator) ≡ l.initial.packets.items ++ map (told_to l.me l.to) l.fn.told.items
