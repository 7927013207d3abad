-- The log is what the octets stand for, and then the entries.
use Rattle.std.proofs.Common.{◌≡◌, sym, ap, ◌∙◌, subst, ℕ, ◌++◌, [], List, length}
use Rattle.std.proofs.lemmas.List.{append-nil}
use Rattle.paxos_packets.specs.declared.entry.Entry.{Entry}
use Rattle.replica_machine.specs.Log.{machine_from}
use Rattle.replica_machine.specs.Snapshot.{loaded_log}
use Rattle.replica_follower.specs.Following.{Followed, handed_to}
use Rattle.replica_follower.specs.Handed.{said_in}
use Rattle.replica_follower.proofs.Holding.{all_of, into}
use Rattle.replica_follower.proofs.Loading.{made_stands, loaded_ahead, loaded_applied}
use Rattle.replica_follower.proofs.follower.Follower.take.Goals as goal

pub tell-requires : goal.tell-requires
tell-requires g c = record {
  ahead = loaded_ahead g.M.Machine.content (loaded_log g.M.Machine.loaded c.args.octets.now) c.in-Ok.made c.in-Ok.ensures.loaded;
}

pub returns-clause-ok_log : goal.returns-clause-ok_log
returns-clause-ok_log g c =
    let none = loaded_applied g.M.Machine.content (loaded_log g.M.Machine.loaded c.args.octets.now) c.in-Ok.made c.in-Ok.ensures.loaded in
    all_of (length c.applied.result.now) c.tell.new.applied.applied (ap (λ es. length es) (sym c.applied.ensures))
    ∙ c.in-Ok-tell.ensures.applied ∙ ap (λ es. es ++ c.in_ok-rest.rest.items) none ∙ c.in_ok-rest.ensures

pub returns-clause-ok_follows : goal.returns-clause-ok_follows
returns-clause-ok_follows g c = λ first under given loads alive.
    let machine = g.M.Machine in
    into machine.steps machine.content first under (length c.applied.result.now) c.tell.new.applied
    (ap (λ es. length es) (sym c.applied.ensures))
    (c.in-Ok-tell.ensures.goes_on first under
    (made_stands machine.steps machine.content first under (loaded_log machine.loaded c.args.octets.now) c.in-Ok.made given loads
    c.in-Ok.ensures.loaded))

pub returns-clause-ok_handed : goal.returns-clause-ok_handed
returns-clause-ok_handed g c = λ first under given loads t.
    let machine = g.M.Machine in
    let m = machine_from machine.steps first in
    let now = c.args.self.now in
    let made = loaded_log machine.loaded c.args.octets.now in
    let log = c.in-Ok.made.applied in
    let under_is : under ++ log ≡ under
    = ap (λ es. under ++ es) (loaded_applied machine.content made c.in-Ok.made c.in-Ok.ensures.loaded) ∙ append-nil under in
    let node_is : c.self.inside.node ≡ now.node
    = ap (λ (v : Followed g.row.M-Body.Denot g.row.M.Denot g.row.M-Say.Denot). v.node) c.self.view_is in
    c.in-Ok-tell.ensures.told first under
    (made_stands machine.steps machine.content first under made c.in-Ok.made given loads c.in-Ok.ensures.loaded) t
    ∙ ap (λ (v : Followed g.row.M-Body.Denot g.row.M.Denot g.row.M-Say.Denot).
    said_in t v.told ++ handed_to m t c.self.inside.node c.args.boot (under ++ log) c.in_ok-rest.rest.items) c.self.view_is
    ∙ ap (λ (z : ℕ × List (Entry g.row.M-Body.Denot) × List (Entry g.row.M-Body.Denot)).
    said_in t now.told ++ handed_to m t z.0 c.args.boot z.1 z.2) (λ i. (node_is i, under_is i, c.in_ok-rest.ensures i))
