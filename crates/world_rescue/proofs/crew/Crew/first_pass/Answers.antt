use Rattle.std.proofs.Common.{◌≡◌, suc, ◌+◌, true, [], refl, ap, ◌∙◌, subst, arith, rules}
use Rattle.paxos_packets.specs.Snapshot.{floor_in}
use Rattle.paxos_proposer.specs.Proposer.{own_ballot}
use Rattle.paxos_proposer.specs.Role.{Role}
use Rattle.paxos_proposer.specs.State.{role_in}
use Rattle.world_rescue.proofs.Lacking.{handed, led_same}
use Rattle.world_rescue.specs.Course.{Crew, votes_then}
use Rattle.world_rescue.specs.Level.{Level}
use Rattle.world_rescue.specs.Parts.{led_by}
use Rattle.world_rescue.specs.Room.{has_slots}
use Rattle.world_rescue.specs.declared.fault.CourseFault.TheVariants as fault
use Rattle.world_rescue.proofs.crew.Crew.first_pass.Goals as goal

pub returns-clause-role : goal.returns-clause-role
returns-clause-role g c =
    let crew : Crew g.row.B.Denot = c.args.self.now in
    let l : Level g.row.B.Denot = c.args.level.now in
    let p = c.args.proposer.now.state in
    let b = own_ballot crew.own.number p.proposer in
    let n = c.get-applied.result in
    let applied : n ≡ l.log = search rules in
    let next : n + 1 ≡ suc l.log = omega (arith, applied) in
    let pending : c.as_slice.result.now ≡ l.pending = search rules in
    let floor = c.floor_at.ensures ∙ ap (λ (v : Level g.row.B.Denot). floor_in v.snapshot) c.level.view_is in
    subst (λ (v : Crew g.row.B.Denot). role_in c.lead.new.proposer ≡ led_by g.B.Body.same p.members n c.as_slice.result.now (own_ballot v.own.number p.proposer)
    (n + 1) [] v.own.number c.floor_at.result (votes_then (n + 1) [] v.own) v.helpers) c.self.view_is c.in_ok-ballot.ensures.role
    ∙ led_same g.B.Body.same p.members crew.members n l.log c.as_slice.result.now l.pending b b (n + 1) (suc l.log) [] [] crew.own.number crew.own.number
    c.floor_at.result (floor_in l.snapshot) (votes_then (n + 1) [] crew.own) (votes_then (suc l.log) [] crew.own) crew.helpers crew.helpers
    c.requires.members applied pending refl next refl refl floor (ap (λ f. votes_then f [] crew.own) next) refl

pub returns-in_err-ballot-clause-room : goal.returns-in_err-ballot-clause-room
returns-in_err-ballot-clause-room g c = λ round h.
    let crew : Crew g.row.B.Denot = c.args.self.now in
    let l : Level g.row.B.Denot = c.args.level.now in
    let p = c.args.proposer.now.state in
    let b = own_ballot crew.own.number p.proposer in
    let n = c.get-applied.result in
    let applied : n ≡ l.log = search rules in
    let next : n + 1 ≡ suc l.log = omega (arith, applied) in
    let pending : c.as_slice.result.now ≡ l.pending = search rules in
    let floor = c.floor_at.ensures ∙ ap (λ (v : Level g.row.B.Denot). floor_in v.snapshot) c.level.view_is in
    handed c.from_residual.result c.in_err-ballot.field-0.0 c.from_residual.ensures.1
    (subst (λ (v : Crew g.row.B.Denot). has_slots (led_by g.B.Body.same p.members n c.as_slice.result.now (own_ballot v.own.number p.proposer)
    (n + 1) [] v.own.number c.floor_at.result (votes_then (n + 1) [] v.own) v.helpers) ≡ true → c.in_err-ballot.field-0.0 ≡ fault.Memory) c.self.view_is
    (c.in_err-ballot.ensures.room round)
    (ap (λ (r : Role g.row.B.Denot). has_slots r)
    (led_same g.B.Body.same p.members crew.members n l.log c.as_slice.result.now l.pending b b (n + 1) (suc l.log) [] [] crew.own.number crew.own.number
    c.floor_at.result (floor_in l.snapshot) (votes_then (n + 1) [] crew.own) (votes_then (suc l.log) [] crew.own) crew.helpers crew.helpers
    c.requires.members applied pending refl next refl refl floor (ap (λ f. votes_then f [] crew.own) next) refl) ∙ h))
