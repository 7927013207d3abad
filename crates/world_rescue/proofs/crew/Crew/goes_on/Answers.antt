use Rattle.std.proofs.Common.{◌≡◌, ◌<◌, ◌^◌, suc, true, List, [], ◌∷◌, ◌++◌, sym, ap, ◌∙◌, subst, rules}
use Rattle.std.specs.Prelude.{filter}
use Rattle.paxos_packets.specs.declared.entry.Entry.{Entry}
use Rattle.paxos_packets.specs.declared.entry.Entry.TheVariants.{Item}
use Rattle.paxos_proposer.specs.State.{role_in}
use Rattle.replica_machine.specs.Roll.{is_wanted_by}
use Rattle.world_rescue.proofs.Coursing.{stays, act_fits}
use Rattle.world_rescue.proofs.Lacking.{handed}
use Rattle.world_rescue.proofs.Listing.{from_ok, on_ok}
use Rattle.world_rescue.specs.Course.{Crew, Act, act, take, item_of, propose_new}
use Rattle.world_rescue.specs.Level.{Level, crew_by}
use Rattle.world_rescue.specs.Room.{has_slots}
use Rattle.world_rescue.proofs.crew.Crew.goes_on.Goals as goal

pub returns-clause-course : goal.returns-clause-course
returns-clause-course g c = λ stands is acts.
    let crew : Crew g.row.B.Denot = c.args.self.now in
    let l : Level g.row.B.Denot = c.args.level.now in
    let a : Act g.row.B.Denot = act c.args.number c.args.body.now in
    let takes : c.take.new.events.items ≡ c.args.events.now.items ++ take crew.own.number a ∷ [] =
    from_ok c.take.result c.in_ok-take.field-0 c.in_ok-take.was c.take.ensures in
    let own : c.as_slice.result.now ≡ l.pending = search rules in
    let kept : c.in_ok-pending.pending ≡ filter (is_wanted_by stands) c.as_slice.result.now = c.in_ok-pending.ensures stands is in
    let count = ap (λ (v : Level g.row.B.Denot). v.taken) c.level.view_is in
    let boot = ap (λ (v : Level g.row.B.Denot). v.boot) c.level.view_is in
    let seq : c.next.result ≡ suc l.taken = c.next.ensures (subst (λ k. k < 2 ^ 48) (sym count) (act_fits l.taken acts)) ∙ ap suc count in
    let waits = from_ok c.wait.result c.in_ok-wait.field-0 c.in_ok-wait.was c.wait.ensures in
    let item : c.wait.new.pending ≡ c.in_ok-pending.pending ++ item_of crew.own.number l.boot l.taken a ∷ [] =
    waits ∙ (λ i. c.in_ok-pending.pending ++ Item crew.own.number (boot i) (seq i) c.args.number c.args.body.now ∷ []) in
    let role : role_in c.propose_new.new.proposer ≡ propose_new g.B.Body.same c.args.log c.wait.new.pending (role_in c.args.proposer.now) = search rules in
    on_ok c.pass.result
    (stays g.B.Body.same (crew_by crew l) a stands c.args.log (role_in c.args.proposer.now) (role_in c.propose_new.new.proposer) c.args.events.now.items
    c.take.new.events.items c.pass.new.events.items c.in_ok-pending.pending c.as_slice.result.now c.wait.new.pending c.proposed_after.result.now
    takes own kept item role c.proposed_after.ensures.behind)
    c.pass.ensures.events

pub returns-in_err-propose_new-clause-room : goal.returns-in_err-propose_new-clause-room
returns-in_err-propose_new-clause-room g c = λ stands is all.
    let crew : Crew g.row.B.Denot = c.args.self.now in
    let l : Level g.row.B.Denot = c.args.level.now in
    let own : c.as_slice.result.now ≡ l.pending = search rules in
    let kept : c.in_ok-pending.pending ≡ filter (is_wanted_by stands) c.as_slice.result.now = c.in_ok-pending.ensures stands is in
    let waits : c.wait.new.pending ≡ c.in_ok-pending.pending
    ++ Item crew.own.number c.level.inside.boot c.next.result c.args.number c.args.body.now ∷ [] =
    from_ok c.wait.result c.in_ok-wait.field-0 c.in_ok-wait.was c.wait.ensures in
    let listed : c.as_slice-2.result.now ≡ c.wait.new.pending = search rules in
    let pending : c.as_slice-2.result.now ≡ filter (is_wanted_by stands) l.pending
    ++ Item crew.own.number c.level.inside.boot c.next.result c.args.number c.args.body.now ∷ [] =
    listed ∙ waits ∙ ap (λ (es : List (Entry g.row.B.Denot)). es ++ Item crew.own.number c.level.inside.boot c.next.result c.args.number c.args.body.now ∷ [])
    (kept ∙ ap (λ (es : List (Entry g.row.B.Denot)). filter (is_wanted_by stands) es) own) in
    handed c.from_residual-in_err-propose_new.result c.in_err-propose_new.field-0.0 c.from_residual-in_err-propose_new.ensures.1
    (c.in_err-propose_new.ensures.room
    (subst (λ (es : List (Entry g.row.B.Denot)). has_slots (propose_new g.B.Body.same c.args.log es (role_in c.args.proposer.now)) ≡ true) (sym pending)
    (all (Item crew.own.number c.level.inside.boot c.next.result c.args.number c.args.body.now))))
