-- The node adopts what it planned, and the event is kept.
use Rattle.std.proofs.Common.{◌++◌, ◌∷◌, [], List, ap, sym, subst, ◌∙◌}
use Rattle.paxos_acceptor.specs.Ahead.{IsAhead, Noted}
use Rattle.paxos_node.specs.Adopting.{adopted}
use Rattle.paxos_node.specs.Held.{Held}
use Rattle.actor_parts.specs.Parts.{Parted}
use Rattle.actor_parts.specs.Tried.{Staged}
use Rattle.actor_parts.specs.declared.tried.Tried.{Tried}
use Rattle.actor_parts.proofs.Carrying.{next_same}
use Rattle.actor_parts.proofs.Trying.{tries}
use Rattle.actor_parts.proofs.parts.Parts.try_event.Goals as goal

pub returns-clause-ok : goal.returns-clause-ok
returns-clause-ok g c =
    let o = c.in-Ok-plan_ahead.outcome in
    let done = c.in-Ok-plan_ahead.ensures in
    let old = c.args.self.now in
    let new : Parted g.row.M-Body.Denot g.row.M.Denot g.row.K.Denot = record {
      node = c.adopt_in_room-packets.new.self;
      keeper = c.self.inside.keeper;
      waiting = c.self.inside.outboxes;
      log = c.self.inside.log;
      failed = c.self.inside.failed;
      spoiled = c.self.inside.spoiled;
    } in
    let now : Staged g.row.M-Body.Denot = record { ahead = c.plan_ahead.new.ahead; tried = c.push_reserved.new.self.items } in
    let one : Tried g.row.M-Body.Denot = record {
      event = c.args.event;
      log = c.log-log.result;
      packets = c.adopt_in_room-packets.result.0;
      applied = c.adopt_in_room-packets.result.1;
    } in
    tries g.M.Body.Body.same old.node.me old.node.members c.args.event o old new c.args.staged.now now c.requires.own done.planned done.up done.snapshot
    done.taken.0 done.taken.1 one.log one.packets one.applied c.log-log.ensures c.adopt_in_room-packets.ensures.packets
    c.adopt_in_room-packets.ensures.applied
    (c.push_reserved.ensures.items ∙ ap (λ (ts : List (Tried g.row.M-Body.Denot)). ts ++ one ∷ [])
    (c.reserve.ensures.items ∙ ap (λ (s : Staged g.row.M-Body.Denot). s.tried) c.staged.view_is))
    (c.adopt_in_room-packets.ensures.state
    ∙ ap (λ (n : Held g.row.M-Body.Denot). adopted n.me n.members o n.state)
    (ap (λ (v : Parted g.row.M-Body.Denot g.row.M.Denot g.row.K.Denot). v.node) c.self.view_is)
    ∙ next_same o old c.plan_ahead.new.self c.plan_ahead.ensures.me c.plan_ahead.ensures.members c.plan_ahead.ensures.state)
    (λ kept h. done.noted kept (subst (λ (p : Noted g.row.M-Body.Denot). IsAhead kept p old.node.state.rows)
    (sym (ap (λ (s : Staged g.row.M-Body.Denot). s.ahead) c.staged.view_is)) h))
