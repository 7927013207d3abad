use Rattle.std.proofs.Common.{◌≡◌, ◌<◌, ◌^◌, suc, ◌+◌, true, List, [], ◌∷◌, ◌++◌, sym, ap, refl, ◌∙◌, subst, arith, rules}
use Rattle.paxos_packets.specs.declared.entry.Entry.{Entry}
use Rattle.paxos_packets.specs.declared.entry.Entry.TheVariants.{Boot, Item}
use Rattle.paxos_node.specs.declared.event.Event.TheVariants.{Restart}
use Rattle.paxos_proposer.specs.Proposer.{own_ballot, round_end}
use Rattle.paxos_proposer.specs.Role.{Role}
use Rattle.paxos_proposer.specs.State.{State, role_in}
use Rattle.world_rescue.proofs.Coursing.{returns_to, number_over, votes_over}
use Rattle.world_rescue.proofs.Lacking.{handed, led_same, saw_below}
use Rattle.world_rescue.proofs.Listing.{from_ok, on_ok}
use Rattle.world_rescue.specs.Course.{Crew, Act, act, take, item_of, votes_then, lead, fetch_again, source_again, own_again, floor_again}
use Rattle.world_rescue.specs.Level.{Level, crew_by}
use Rattle.world_rescue.specs.Parts.{led_by}
use Rattle.world_rescue.specs.Room.{has_slots}
use Rattle.world_rescue.specs.declared.fault.CourseFault.TheVariants as fault
use Rattle.world_rescue.proofs.crew.Crew.comes_back.Goals as goal

pub returns-clause-course : goal.returns-clause-course
returns-clause-course g c = λ boots.
    let crew : Crew g.row.B.Denot = c.args.self.now in
    let l : Level g.row.B.Denot = c.args.level.now in
    let k : Crew g.row.B.Denot = crew_by crew l in
    let a : Act g.row.B.Denot = act c.args.number c.args.body.now in
    let p = c.proposer-proposer.result.state in
    let n = c.get-applied.result in
    let starts : c.happen.new.events.items ≡ c.args.events.now.items ++ Restart crew.own.number ∷ [] = search rules in
    let gets : c.fetch_again.new.events.items ≡ c.happen.new.events.items ++ fetch_again k = c.in_ok-floor.ensures.events in
    let floor : n ≡ floor_again k = c.get-applied.ensures.value ∙ c.in_ok-floor.ensures.floor in
    let takes : c.take.new.events.items ≡ c.fetch_again.new.events.items ++ take crew.own.number a ∷ [] =
    from_ok c.take.result c.in_ok-take.field-0 c.in_ok-take.was c.take.ensures in
    let count = ap (λ (v : Level g.row.B.Denot). v.boot) c.level.view_is in
    let boot : c.next-boot.result ≡ suc l.boot = c.next-boot.ensures (subst (λ b. b < 2 ^ 48) (sym count) boots) ∙ ap suc count in
    let me : c.me-node.result ≡ crew.own.number = search rules in
    let first : c.push.new.self ≡ Boot c.me-node.result c.next-boot.result ∷ [] = search rules in
    let waits : c.wait.new.pending ≡ c.push.new.self ++ item_of crew.own.number c.next-boot.result 0 a ∷ [] =
    from_ok c.wait.result c.in_ok-wait.field-0 c.in_ok-wait.was c.wait.ensures in
    let pending : c.wait.new.pending ≡ Boot crew.own.number (suc l.boot) ∷ item_of crew.own.number (suc l.boot) 0 a ∷ [] =
    waits ∙ (λ i. (first ∙ (λ j. Boot (me j) (boot j) ∷ [])) i ++ item_of crew.own.number (boot i) 0 a ∷ []) in
    let next : n + 1 ≡ suc n = omega arith in
    let leads : c.lead.new.events.items ≡ c.take.new.events.items ++ lead (own_ballot crew.own.number p.proposer) (suc n) c.args.cast.now crew.helpers =
    search rules in
    let listed : c.as_slice.result.now ≡ c.wait.new.pending = search rules in
    let role : role_in c.lead.new.proposer ≡ led_by g.B.Body.same p.members n c.wait.new.pending (own_ballot crew.own.number p.proposer) (suc n)
    c.args.cast.now crew.own.number n (votes_then (suc n) c.args.cast.now crew.own) crew.helpers =
    subst (λ (v : Crew g.row.B.Denot). role_in c.lead.new.proposer ≡ led_by g.B.Body.same p.members n c.as_slice.result.now (own_ballot v.own.number p.proposer)
    (n + 1) c.args.cast.now v.own.number c.in_ok-floor.floor (votes_then (n + 1) c.args.cast.now v.own) v.helpers) c.self.view_is c.in_ok-lead.ensures.role
    ∙ led_same g.B.Body.same p.members p.members n n c.as_slice.result.now c.wait.new.pending (own_ballot crew.own.number p.proposer)
    (own_ballot crew.own.number p.proposer) (n + 1) (suc n) c.args.cast.now c.args.cast.now crew.own.number crew.own.number c.in_ok-floor.floor n
    (votes_then (n + 1) c.args.cast.now crew.own) (votes_then (suc n) c.args.cast.now crew.own) crew.helpers crew.helpers refl refl listed refl next refl refl
    (sym c.get-applied.ensures.value) (ap (λ f. votes_then f c.args.cast.now crew.own) next) refl in
    on_ok c.pass.result
    (returns_to g.B.Body.same k a c.args.ballot c.args.cast.now c.proposed_after.result.now c.args.events.now.items c.happen.new.events.items
    c.fetch_again.new.events.items c.take.new.events.items c.lead.new.events.items c.pass.new.events.items c.wait.new.pending p n
    (role_in c.lead.new.proposer) starts gets floor takes pending c.proposer-proposer.ensures leads role c.proposed_after.ensures.behind)
    c.pass.ensures.events

pub returns-in_err-lead-clause-room : goal.returns-in_err-lead-clause-room
returns-in_err-lead-clause-room g c = λ round all.
    let crew : Crew g.row.B.Denot = c.args.self.now in
    let l : Level g.row.B.Denot = c.args.level.now in
    let k : Crew g.row.B.Denot = crew_by crew l in
    let p = c.proposer-proposer.result.state in
    let b = own_ballot crew.own.number p.proposer in
    let n = c.get-applied.result in
    let floor : n ≡ floor_again k = c.get-applied.ensures.value ∙ c.in_ok-floor.ensures.floor in
    let d : Entry g.row.B.Denot = Boot c.me-node.result c.next-boot.result in
    let e : Entry g.row.B.Denot = Item crew.own.number c.next-boot.result 1 c.args.number c.args.body.now in
    let first : c.push.new.self ≡ d ∷ [] = search rules in
    let waits : c.wait.new.pending ≡ c.push.new.self ++ e ∷ [] =
    from_ok c.wait.result c.in_ok-wait.field-0 c.in_ok-wait.was c.wait.ensures in
    let listed : c.as_slice.result.now ≡ c.wait.new.pending = search rules in
    let pending : c.as_slice.result.now ≡ d ∷ e ∷ [] = listed ∙ waits ∙ ap (λ (es : List (Entry g.row.B.Denot)). es ++ e ∷ []) first in
    let seen : suc p.proposer.seen < round_end =
    saw_below crew.own.number crew.members c.args.ballot.round c.args.ballot.round round_end p c.proposer-proposer.ensures refl round in
    let next : n + 1 ≡ suc (floor_again k) = omega (arith, floor) in
    handed c.from_residual-in_err-lead.result c.in_err-lead.field-0.0 c.from_residual-in_err-lead.ensures.1
    (subst (λ (v : Crew g.row.B.Denot). has_slots (led_by g.B.Body.same p.members n c.as_slice.result.now (own_ballot v.own.number p.proposer) (n + 1)
    c.args.cast.now v.own.number c.in_ok-floor.floor (votes_then (n + 1) c.args.cast.now v.own) v.helpers) ≡ true → c.in_err-lead.field-0.0 ≡ fault.Memory)
    c.self.view_is (c.in_err-lead.ensures.room seen)
    (ap (λ (r : Role g.row.B.Denot). has_slots r)
    (led_same g.B.Body.same p.members crew.members n (floor_again k) c.as_slice.result.now (d ∷ e ∷ []) b b (n + 1) (suc (floor_again k)) c.args.cast.now
    c.args.cast.now crew.own.number (own_again k).number c.in_ok-floor.floor (floor_again k) (votes_then (n + 1) c.args.cast.now crew.own)
    (votes_then (suc (floor_again k)) c.args.cast.now (own_again k)) crew.helpers crew.helpers
    (ap (λ (s : State g.row.B.Denot). s.members) c.proposer-proposer.ensures) floor pending refl next refl
    (sym (number_over (source_again k) k.own)) c.in_ok-floor.ensures.floor
    (ap (λ f. votes_then f c.args.cast.now k.own) next ∙ sym (votes_over (suc (floor_again k)) c.args.cast.now (source_again k) k.own)) refl)
    ∙ all b d e))
