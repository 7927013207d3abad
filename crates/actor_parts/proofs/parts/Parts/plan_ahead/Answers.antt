-- It is what the node planned, which stays as it is.
use Rattle.std.proofs.Common.{◌≡◌, true, false, ap, sym, subst, rules}
use Rattle.paxos_node.specs.Adopting.{Fits, Planned}
use Rattle.paxos_node.specs.Events.{is_full_refused, is_round_refused}
use Rattle.paxos_node.specs.Held.{Held}
use Rattle.paxos_node.specs.Plans.{plans}
use Rattle.actor_parts.specs.Parts.{Parted}
use Rattle.actor_parts.proofs.Trying.{fits_still}
use Rattle.actor_parts.proofs.parts.Parts.plan_ahead.Goals as goal

pub returns-clause-planned : goal.returns-clause-planned
returns-clause-planned g c =
    let is = ap (λ (v : Parted g.row.M-Body.Denot g.row.M.Denot g.row.K.Denot). v.node) c.self.view_is in
    let own : plans c.self.inside.node.me c.args.event.now c.self.inside.node.state ≡ true =
    subst (λ (n : Held g.row.M-Body.Denot). plans n.me c.args.event.now n.state ≡ true) (sym is) c.requires.own in
    let found = c.in-Ok.ensures.planned own in
    subst (λ (n : Held g.row.M-Body.Denot). Planned g.M.Body.Body.same n.members c.args.event.now n.state c.in-Ok.outcome) is found.3

pub returns-clause-taken : goal.returns-clause-taken
returns-clause-taken g c =
    let is = ap (λ (v : Parted g.row.M-Body.Denot g.row.M.Denot g.row.K.Denot). v.node) c.self.view_is in
    let own : plans c.self.inside.node.me c.args.event.now c.self.inside.node.state ≡ true =
    subst (λ (n : Held g.row.M-Body.Denot). plans n.me c.args.event.now n.state ≡ true) (sym is) c.requires.own in
    let found = c.in-Ok.ensures.planned own in
    subst (λ (n : Held g.row.M-Body.Denot). (is_round_refused c.args.event.now n.state ≡ false)
    × (is_full_refused g.M.Body.Body.same c.args.event.now n.state ≡ false)) is (found.0, found.1)

pub returns-clause-fits : goal.returns-clause-fits
returns-clause-fits g c =
    let is = ap (λ (v : Parted g.row.M-Body.Denot g.row.M.Denot g.row.K.Denot). v.node) c.self.view_is in
    let old = c.args.self.now.node in
    let new = c.make_room_for.new.self.node in
    let me : new.me ≡ old.me = search rules in
    let members : new.members ≡ old.members = search rules in
    let state : new.state ≡ old.state = search rules in
    fits_still c.in-Ok.outcome old new me members state
    (subst (λ (n : Held g.row.M-Body.Denot). Fits n.me n.members c.in-Ok.outcome n.state) is c.in-Ok.ensures.fits)
