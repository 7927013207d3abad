use Rattle.std.proofs.Common.{◌≡◌, ◌<◌, ◌+◌, ◌^◌, List, length, Some, sym, ap, refl, ◌∙◌, subst, rules}
use Rattle.std.specs.Prelude.{filter}
use Rattle.paxos_packets.specs.declared.entry.Entry.{Entry}
use Rattle.paxos_node.specs.Adopting.{pending_behind}
use Rattle.paxos_node.specs.Applying.{stands_at}
use Rattle.replica_machine.specs.Roll.{HasStandings, is_wanted_by, standings_from}
use Rattle.world_rescue.proofs.Lacking.{is_no}
use Rattle.world_rescue.proofs.Levelling.{rides_is, slot_fits}
use Rattle.world_rescue.proofs.reaching.rides.Goals as goal

pub returns-in_default-clause-room : goal.returns-in_default-clause-room
returns-in_default-clause-room g c = λ h.
    let at : c.get.result ≡ c.args.snapshot.now.floor = search rules in
    absurd (is_no (c.in_default.ensures.valid.1
    (subst (λ k. k + length c.args.run.now < 2 ^ 40) (sym at)
    (subst (λ (es : List (Entry g.row.B.Denot)). c.args.snapshot.now.floor + length es < 2 ^ 40) (sym c.requires.run) (slot_fits _ h)))))

pub returns-clause-level : goal.returns-clause-level
returns-clause-level g c =
    let s = c.args.snapshot.now in
    let log : c.in-Some.log ≡ s.floor + length c.args.run.now = search rules in
    rides_is _ c.args.own.now.me c.args.own.now.state s c.args.run.now c.requires.run c.boot.ensures c.requires.round refl log
    (c.in_ok-pending.ensures.pending (stands_at (Some s)) c.roll_at.ensures
    ∙ ap (λ (es : List (Entry g.row.B.Denot)). pending_behind (stands_at (Some s)) c.args.run.now (filter (is_wanted_by (stands_at (Some s))) es))
    c.pending.ensures) c.taken.ensures

pub returns-clause-roll : goal.returns-clause-roll
returns-clause-roll g c =
    let s = c.args.snapshot.now in
    subst (λ (es : List (Entry g.row.B.Denot)). HasStandings (standings_from (stands_at (Some s)) es) c.wanted_after.new.roll) c.requires.run
    (c.in_ok-pending.ensures.roll (stands_at (Some s)) c.roll_at.ensures)
