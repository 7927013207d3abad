-- The same of the value that the actor shows.
use Rattle.std.proofs.Common.{◌≡◌, ◌<◌, ◌++◌, ◌∙◌, ℕ, List, false, ap, length, subst, sym}
use Rattle.std.specs.Prelude.{OnOk, nat_lt}
use Rattle.paxos_packets.specs.declared.entry.Entry.{Entry}
use Rattle.paxos_node.specs.Applying.{base}
use Rattle.paxos_node.specs.Snapshots.{may_cut}
use Rattle.replica_machine.specs.Given.{AreGiven}
use Rattle.replica_machine.specs.Log.{IsLogOf, machine_from}
use Rattle.replica_machine.specs.Roll.{standing}
use Rattle.cluster_world.specs.MemberSnapshots.{own_cut, LoadsSaved}
use Rattle.actor_parts.specs.Snapshots.{is_no_log}
use Rattle.node_actor.specs.Actor.{Acting, acting}
use Rattle.node_actor.proofs.Cutting.{own_may}
use Rattle.node_actor.proofs.Since.{cut_rests}
use Rattle.node_actor.proofs.Viewing.{cuts_seen}
use Rattle.node_actor.proofs.actor.Actor.cut.Goals as goal

pub returns-clause-cuts : goal.returns-clause-cuts
returns-clause-cuts g c =
    cuts_seen _ _ _ _ _ _ _ (λ log. own_cut g.M.Machine.saved g.M.Machine.content log) c.self.inside.last c.self.inside.parts c.self.inside.seat
    c.args.self.now (acting c.make_cut.new.parts c.make_cut.new.seat) c.make_cut.result c.self.view_is c.make_cut.ensures.cuts

pub returns-clause-rests : goal.returns-clause-rests
returns-clause-rests g c = λ none.
    cut_rests c.self.inside.last c.self.inside.parts c.make_cut.new.parts c.self.inside.seat c.make_cut.new.seat c.args.self.now
    c.make_cut.result c.self.view_is
    (c.make_cut.ensures.rests (ap (λ (a : Acting g.row.M-Body.Denot g.row.M.Denot g.row.K.Denot). a.node.state.applied) c.self.view_is ∙ none))

pub returns-clause-whole : goal.returns-clause-whole
returns-clause-whole g c = λ first under fresh h.
    let is = c.self.view_is in
    let alive = c.self.invariant.0.serves (ap (λ (a : Acting g.row.M-Body.Denot g.row.M.Denot g.row.K.Denot). a.spoiled) is ∙ fresh) in
    subst (λ (a : Acting g.row.M-Body.Denot g.row.M.Denot g.row.K.Denot).
    may_cut (own_cut g.M.Machine.saved g.M.Machine.content a.log) a.node.state ≡ nat_lt 0 (length a.node.state.applied)) is
    (own_may g.M.Machine.steps g.M.Machine.content g.M.Machine.saved g.K.Keeper.holds g.K.Keeper.is_failed c.self.inside.parts alive
    c.fits_slots.ensures first under (subst (λ (a : Acting g.row.M-Body.Denot g.row.M.Denot g.row.K.Denot).
    IsLogOf g.M.Machine.steps g.M.Machine.content first under a.log) (sym is) h.log)
    (subst (λ (a : Acting g.row.M-Body.Denot g.row.M.Denot g.row.K.Denot). (k : ℕ) → base a.node.state.rows k ≡ standing k under) (sym is)
    h.stands)
    (subst (λ (a : Acting g.row.M-Body.Denot g.row.M.Denot g.row.K.Denot). AreGiven (under ++ a.log.applied)) (sym is) h.given))

pub returns-clause-brings : goal.returns-clause-brings
returns-clause-brings g c =
    let machine = g.M.Machine in
    subst (λ (a : Acting g.row.M-Body.Denot g.row.M.Denot g.row.K.Denot). (first : machine.Content) → (under : List (Entry g.row.M-Body.Denot))
    → IsLogOf machine.steps machine.content first under a.log → AreGiven (under ++ a.log.applied)
    → OnOk c.make_cut.result (0 < length a.log.applied
    → LoadsSaved machine.saved machine.loaded (machine_from machine.steps first) (under ++ a.log.applied))) c.self.view_is
    c.make_cut.ensures.brings

pub returns-clause-loads : goal.returns-clause-loads
returns-clause-loads g c =
    let machine = g.M.Machine in
    subst (λ (a : Acting g.row.M-Body.Denot g.row.M.Denot g.row.K.Denot). (first : machine.Content) → (under : List (Entry g.row.M-Body.Denot))
    → IsLogOf machine.steps machine.content first under a.log → machine.is_sound first → AreGiven (under ++ a.log.applied)
    → OnOk c.make_cut.result (0 < length a.log.applied
    → is_no_log machine.loaded (own_cut machine.saved machine.content a.log) ≡ false)) c.self.view_is c.make_cut.ensures.loads
