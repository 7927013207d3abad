use Rattle.std.proofs.Common.{◌≡◌, ℕ, ◌<◌, suc, ◌+◌, true, false, ◌++◌, length, sym, ap, refl, ◌∙◌, subst, rules}
use Rattle.paxos_packets.specs.declared.ballot.Ballot.{Ballot}
use Rattle.paxos_proposer.specs.Proposals.{behind}
use Rattle.paxos_proposer.specs.Proposer.{own_ballot, round_end}
use Rattle.paxos_proposer.specs.Proposing.{proposals_of}
use Rattle.paxos_proposer.specs.State.{begun, saw, role_in}
use Rattle.replica_machine.specs.Roll.{HasStandings, standings_from, standing_in}
use Rattle.replica_machine.specs.declared.roll.Standing.{Standing}
use Rattle.paxos_node.specs.Applying.{standing_of, has_end}
use Rattle.paxos_node.specs.Events.{last_number}
use Rattle.world_rescue.proofs.Coursing.{looked, level_first, level_down, level_up, boot_low, boot_is}
use Rattle.world_rescue.proofs.Fitting.{own_round, lead_rounds, first_slots, second_slots, again_slots}
use Rattle.world_rescue.proofs.Lacking.{handed, saw_below, saw_again}
use Rattle.world_rescue.proofs.Listing.{on_ok}
use Rattle.world_rescue.specs.Course.{Crew, Act, act, look, seen_then, seen, falls, entries_of}
use Rattle.world_rescue.specs.Level.{Level, crew_by, with_own}
use Rattle.world_rescue.specs.Parts.{next_ballot}
use Rattle.world_rescue.proofs.crew.Crew.level_course.Goals as goal

pub returns-then-falls-clause-course : goal.returns-then-falls-clause-course
returns-then-falls-clause-course g c = λ x is stood boots acts.
    let crew : Crew g.row.B.Denot = c.args.self.now in
    let a : Act g.row.B.Denot = act c.args.number c.args.body.now in
    let l : Level g.row.B.Denot = c.args.level.now in
    let saw_level = c.proposer-proposer.ensures ∙ ap (λ (v : Level g.row.B.Denot). saw v.seen (begun crew.own.number crew.members)) c.level.view_is in
    let now : c.look.new.proposer.state ≡ saw (seen_then (own_ballot crew.own.number c.proposer-proposer.result.state.proposer) crew.helpers)
    c.proposer-proposer.result.state = search rules in
    let after = looked crew.own.number crew.members l.seen crew.helpers c.proposer-proposer.result.state c.look.new.proposer.state saw_level now in
    let looks : c.look.new.events.items
    ≡ c.args.events.now.items ++ look (own_ballot crew.own.number c.proposer-proposer.result.state.proposer) (suc l.log) crew.helpers = search rules in
    let first = level_first g.B.Body.same crew a l x is boots c.args.events.now.items c.look.new.events.items c.first_pass.new.events.items
    (seen_then (next_ballot crew.own.number l.seen) crew.helpers) c.look.new.proposer.state (role_in c.first_pass.new.proposer)
    (looks ∙ ap (λ b. c.args.events.now.items ++ look b (suc l.log) crew.helpers) after.0) refl after.1 (search rules) (search rules) in
    let ballot : c.in_ok-ballot.ballot ≡ own_ballot crew.own.number c.look.new.proposer.state.proposer = search rules in
    let applied : c.get-applied.result ≡ l.log = search rules in
    let me : c.me.result ≡ crew.own.number = search rules in
    let boot = ap (λ (v : Level g.row.B.Denot). v.boot) c.level.view_is ∙ boot_is g.B.Body.same crew a l x is boots in
    let cast = c.proposed_after-cast.ensures.behind ∙ ap (λ k. behind k (proposals_of (role_in c.first_pass.new.proposer))) applied ∙ first.3 in
    let down : true ≡ falls g.B.Body.same (with_own crew x) a =
    c.if-falls.ensures.ended (standing_of x) stood ∙ (λ i. has_end (me i) (boot i) (standing_of x (me i)) (entries_of (cast i))) in
    on_ok c.comes_back.result
    (level_down g.B.Body.same crew a l x is boots c.args.events.now.items c.first_pass.new.events.items c.comes_back.new.events.items c.in_ok-ballot.ballot
    c.proposed_after-cast.result.now first.0 (ballot ∙ first.2) cast down)
    (c.comes_back.ensures.course (boot_low g.B.Body.same crew a l x is boots))

pub returns-then-falls-clause-room : goal.returns-then-falls-clause-room
returns-then-falls-clause-room g c = λ round slot most low fits room.
    let crew : Crew g.row.B.Denot = c.args.self.now in
    let a : Act g.row.B.Denot = act c.args.number c.args.body.now in
    let l : Level g.row.B.Denot = c.args.level.now in
    let p = c.look.new.proposer.state in
    let b : Ballot = own_ballot crew.own.number p.proposer in
    let ballot : c.in_ok-ballot.ballot ≡ b = search rules in
    let applied : c.get-applied.result ≡ l.log = search rules in
    let cast : c.proposed_after-cast.result.now ≡ behind l.log (proposals_of (role_in c.first_pass.new.proposer)) =
    c.proposed_after-cast.ensures.behind ∙ ap (λ k. behind k (proposals_of (role_in c.first_pass.new.proposer))) applied in
    let saw_level = c.proposer-proposer.ensures ∙ ap (λ (v : Level g.row.B.Denot). saw v.seen (begun crew.own.number crew.members)) c.level.view_is in
    let now : c.look.new.proposer.state ≡ saw (seen_then (own_ballot crew.own.number c.proposer-proposer.result.state.proposer) crew.helpers)
    c.proposer-proposer.result.state = search rules in
    let after = looked crew.own.number crew.members l.seen crew.helpers c.proposer-proposer.result.state c.look.new.proposer.state saw_level now in
    let rounds = lead_rounds g.B.Body.same (crew_by crew l) a round slot most low room in
    c.comes_back.ensures.room
    (subst (λ (k : Ballot). suc k.round < round_end) (sym ballot)
    (saw_again crew.own.number crew.members (seen_then (next_ballot crew.own.number l.seen) crew.helpers) (seen g.B.Body.same (crew_by crew l) a)
    round_end p after.1 refl rounds.1))
    (λ k d e. again_slots g.B.Body.same (crew_by crew l) a round slot most low room b l.log fits (role_in c.first_pass.new.proposer) (search rules) k
    c.proposed_after-cast.result.now cast d e)

pub returns-clause-course : goal.returns-clause-course
returns-clause-course g c = λ x is stood boots acts.
    let crew : Crew g.row.B.Denot = c.args.self.now in
    let a : Act g.row.B.Denot = act c.args.number c.args.body.now in
    let l : Level g.row.B.Denot = c.args.level.now in
    let saw_level = c.proposer-proposer.ensures ∙ ap (λ (v : Level g.row.B.Denot). saw v.seen (begun crew.own.number crew.members)) c.level.view_is in
    let now : c.look.new.proposer.state ≡ saw (seen_then (own_ballot crew.own.number c.proposer-proposer.result.state.proposer) crew.helpers)
    c.proposer-proposer.result.state = search rules in
    let after = looked crew.own.number crew.members l.seen crew.helpers c.proposer-proposer.result.state c.look.new.proposer.state saw_level now in
    let looks : c.look.new.events.items
    ≡ c.args.events.now.items ++ look (own_ballot crew.own.number c.proposer-proposer.result.state.proposer) (suc l.log) crew.helpers = search rules in
    let first = level_first g.B.Body.same crew a l x is boots c.args.events.now.items c.look.new.events.items c.first_pass.new.events.items
    (seen_then (next_ballot crew.own.number l.seen) crew.helpers) c.look.new.proposer.state (role_in c.first_pass.new.proposer)
    (looks ∙ ap (λ b. c.args.events.now.items ++ look b (suc l.log) crew.helpers) after.0) refl after.1 (search rules) (search rules) in
    let applied : c.get-applied.result ≡ l.log = search rules in
    let me : c.me.result ≡ crew.own.number = search rules in
    let boot = ap (λ (v : Level g.row.B.Denot). v.boot) c.level.view_is ∙ boot_is g.B.Body.same crew a l x is boots in
    let cast = c.proposed_after-cast.ensures.behind ∙ ap (λ k. behind k (proposals_of (role_in c.first_pass.new.proposer))) applied ∙ first.3 in
    let up : false ≡ falls g.B.Body.same (with_own crew x) a =
    c.if-falls.ensures.ended (standing_of x) stood ∙ (λ i. has_end (me i) (boot i) (standing_of x (me i)) (entries_of (cast i))) in
    let over : HasStandings (standings_from (standing_of x) (entries_of c.proposed_after-cast.result.now)) c.falls.new.roll =
    c.if-falls.ensures.roll (standing_of x) stood in
    on_ok c.goes_on.result
    (level_up g.B.Body.same crew a l x is boots c.args.events.now.items c.first_pass.new.events.items c.goes_on.new.events.items
    (c.get-applied.result + length c.proposed_after-cast.result.now) c.proposed_after-cast.result.now (role_in c.first_pass.new.proposer) first.0
    (ap (λ k. k + length c.proposed_after-cast.result.now) applied) first.1 cast up)
    (c.goes_on.ensures.course (standings_from (standing_of x) (entries_of c.proposed_after-cast.result.now)) over
    (subst (λ k. k < last_number) (sym is.taken) acts))

pub returns-clause-room : goal.returns-clause-room
returns-clause-room g c = λ round slot most low fits room.
    let crew : Crew g.row.B.Denot = c.args.self.now in
    let a : Act g.row.B.Denot = act c.args.number c.args.body.now in
    let l : Level g.row.B.Denot = c.args.level.now in
    let p = c.look.new.proposer.state in
    let stands : ℕ → Standing = λ n. standing_in c.args.roll.now n in
    c.goes_on.ensures.room (standings_from stands (entries_of c.proposed_after-cast.result.now))
    (c.if-falls.ensures.roll stands (λ n h. refl))
    (λ e. second_slots g.B.Body.same (crew_by crew l) a round slot most low room (own_ballot crew.own.number p.proposer) l.log fits
    (role_in c.first_pass.new.proposer) (search rules) (standings_from stands (entries_of c.proposed_after-cast.result.now))
    (c.get-applied.result + length c.proposed_after-cast.result.now) e)

pub returns-in_err-look-clause-room : goal.returns-in_err-look-clause-room
returns-in_err-look-clause-room g c = λ round slot most low fits room.
    let crew : Crew g.row.B.Denot = c.args.self.now in
    let l : Level g.row.B.Denot = c.args.level.now in
    let saw_level = c.proposer-proposer.ensures ∙ ap (λ (v : Level g.row.B.Denot). saw v.seen (begun crew.own.number crew.members)) c.level.view_is in
    handed c.from_residual.result c.in_err-look.field-0.0 c.from_residual.ensures.1
    (c.in_err-look.ensures.room
    (saw_below crew.own.number crew.members l.seen l.seen round_end c.proposer-proposer.result.state saw_level refl
    (own_round g.B.Body.same (crew_by crew l) (act c.args.number c.args.body.now) round slot most low room)))

pub returns-in_err-ballot-clause-room : goal.returns-in_err-ballot-clause-room
returns-in_err-ballot-clause-room g c = λ round slot most low fits room.
    let crew : Crew g.row.B.Denot = c.args.self.now in
    let a : Act g.row.B.Denot = act c.args.number c.args.body.now in
    let l : Level g.row.B.Denot = c.args.level.now in
    let p = c.look.new.proposer.state in
    let saw_level = c.proposer-proposer.ensures ∙ ap (λ (v : Level g.row.B.Denot). saw v.seen (begun crew.own.number crew.members)) c.level.view_is in
    let now : c.look.new.proposer.state ≡ saw (seen_then (own_ballot crew.own.number c.proposer-proposer.result.state.proposer) crew.helpers)
    c.proposer-proposer.result.state = search rules in
    let after = looked crew.own.number crew.members l.seen crew.helpers c.proposer-proposer.result.state c.look.new.proposer.state saw_level now in
    handed c.from_residual-in_err-ballot.result c.in_err-ballot.field-0.0 c.from_residual-in_err-ballot.ensures.1
    (c.in_err-ballot.ensures.room
    (saw_below crew.own.number crew.members (seen_then (next_ballot crew.own.number l.seen) crew.helpers) (seen g.B.Body.same (crew_by crew l) a)
    round_end p after.1 refl
    (lead_rounds g.B.Body.same (crew_by crew l) a round slot most low room).0)
    (first_slots g.B.Body.same (crew_by crew l) a round slot most low room (own_ballot crew.own.number p.proposer) l.log fits))
