-- The log goes on with all entries.
use Rattle.std.proofs.Common.{◌≡◌, sym, ap, ◌∙◌, subst, ℕ, ◌++◌, List, length}
use Rattle.paxos_packets.specs.declared.entry.Entry.{Entry}
use Rattle.replica_machine.specs.Log.{machine_from}
use Rattle.replica_follower.specs.Following.{Followed, Follows, handed_to}
use Rattle.replica_follower.specs.Handed.{said_in}
use Rattle.replica_follower.proofs.Holding.{all_of, out_of, into}
use Rattle.replica_follower.proofs.follower.Follower.follow.Goals as goal

pub returns-in-Ok-clause-follows : goal.returns-in-Ok-clause-follows
returns-in-Ok-clause-follows g c = λ first under follows alive.
    let machine = g.M.Machine in
    let m = machine_from machine.steps first in
    let was = subst (λ (v : Followed g.row.M-Body.Denot g.row.M.Denot g.row.M-Say.Denot). Follows machine.content m under v)
    (sym c.self.view_is) follows c.if-self.false in
    into machine.steps machine.content first under (length c.applied.result.now) c.tell.new.applied
    (ap (λ es. length es) (sym c.applied.ensures))
    (c.in-Ok.ensures.goes_on first under
    (out_of machine.steps machine.content first under c.self.inside.stands c.self.inside.applied
    (c.self.invariant.whole c.if-self.false) was))

pub returns-in-Ok-clause-ok_handed : goal.returns-in-Ok-clause-ok_handed
returns-in-Ok-clause-ok_handed g c = λ first under follows t.
    let machine = g.M.Machine in
    let m = machine_from machine.steps first in
    let now = c.args.self.now in
    let log = c.self.inside.applied.applied in
    let was = subst (λ (v : Followed g.row.M-Body.Denot g.row.M.Denot g.row.M-Say.Denot). Follows machine.content m under v)
    (sym c.self.view_is) follows c.if-self.false in
    let log_is : log ≡ now.log.applied = sym (all_of c.self.inside.stands log (c.self.invariant.whole c.if-self.false))
    ∙ ap (λ (v : Followed g.row.M-Body.Denot g.row.M.Denot g.row.M-Say.Denot). v.log.applied) c.self.view_is in
    let node_is : c.self.inside.node ≡ now.node
    = ap (λ (v : Followed g.row.M-Body.Denot g.row.M.Denot g.row.M-Say.Denot). v.node) c.self.view_is in
    c.in-Ok.ensures.told first under
    (out_of machine.steps machine.content first under c.self.inside.stands c.self.inside.applied
    (c.self.invariant.whole c.if-self.false) was) t
    ∙ ap (λ (v : Followed g.row.M-Body.Denot g.row.M.Denot g.row.M-Say.Denot).
    said_in t v.told ++ handed_to m t c.self.inside.node c.args.boot (under ++ log) c.in_ok-copies.copies.items) c.self.view_is
    ∙ ap (λ (z : ℕ × List (Entry g.row.M-Body.Denot) × List (Entry g.row.M-Body.Denot)).
    said_in t now.told ++ handed_to m t z.0 c.args.boot (under ++ z.1) z.2) (λ i. (node_is i, log_is i, c.in_ok-copies.ensures i))
