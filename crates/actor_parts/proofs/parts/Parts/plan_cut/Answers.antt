-- The node cuts exactly if the outcome commits a snapshot.
use Rattle.std.proofs.Common.{◌≡◌, true, false, ap, sym, subst, ◌∙◌}
use Rattle.paxos_packets.specs.Snapshot.{snapshot_of}
use Rattle.paxos_node.specs.Adopting.{Fits, Planned}
use Rattle.paxos_node.specs.Held.{Held}
use Rattle.paxos_node.specs.Snapshots.{may_cut}
use Rattle.paxos_node.specs.declared.event.Event.TheVariants.{Cut}
use Rattle.paxos_planning.specs.Node.{log_length}
use Rattle.actor_parts.specs.Parts.{Parted}
use Rattle.actor_parts.proofs.Planning.{cuts_so, cut_planned, cut_commits}
use Rattle.actor_parts.proofs.parts.Parts.plan_cut.Goals as goal

pub returns-then-is_none-clause-exactly : goal.returns-then-is_none-clause-exactly
returns-then-is_none-clause-exactly g c =
    let h = c.self.inside.node in
    let is : h ≡ c.args.self.now.node = ap (λ (v : Parted g.row.M-Body.Denot g.row.M.Denot g.row.K.Denot). v.node) c.self.view_is in
    let up : h.state.up ≡ true = subst (λ (n : Held g.row.M-Body.Denot). n.state.up ≡ true) (sym is) c.requires.up in
    let s = snapshot_of c.args.octets.now in
    let so = cuts_so g.M.Body.Body.same h.me h.members (log_length h.state) h.state c.in-Ok.outcome up s c.in-Ok.ensures.planned
    c.in-Ok.ensures.nothing in
    subst (λ (n : Held g.row.M-Body.Denot). false ≡ may_cut s n.state) is (sym (sym so ∙ c.if-is_none.ensures))

pub returns-clause-exactly : goal.returns-clause-exactly
returns-clause-exactly g c =
    let h = c.self.inside.node in
    let is : h ≡ c.args.self.now.node = ap (λ (v : Parted g.row.M-Body.Denot g.row.M.Denot g.row.K.Denot). v.node) c.self.view_is in
    let up : h.state.up ≡ true = subst (λ (n : Held g.row.M-Body.Denot). n.state.up ≡ true) (sym is) c.requires.up in
    let s = snapshot_of c.args.octets.now in
    let so = cuts_so g.M.Body.Body.same h.me h.members (log_length h.state) h.state c.in-Ok.outcome up s c.in-Ok.ensures.planned
    c.in-Ok.ensures.nothing in
    subst (λ (n : Held g.row.M-Body.Denot). true ≡ may_cut s n.state) is (sym (sym so ∙ c.if-is_none.ensures))

pub returns-clause-planned : goal.returns-clause-planned
returns-clause-planned g c =
    let h = c.self.inside.node in
    let is : h ≡ c.args.self.now.node = ap (λ (v : Parted g.row.M-Body.Denot g.row.M.Denot g.row.K.Denot). v.node) c.self.view_is in
    let up : h.state.up ≡ true = subst (λ (n : Held g.row.M-Body.Denot). n.state.up ≡ true) (sym is) c.requires.up in
    let s = snapshot_of c.args.octets.now in
    let so = cuts_so g.M.Body.Body.same h.me h.members (log_length h.state) h.state c.in-Ok.outcome up s c.in-Ok.ensures.planned
    c.in-Ok.ensures.nothing in
    subst (λ (n : Held g.row.M-Body.Denot). Planned g.M.Body.Body.same n.members (Cut n.me s) n.state c.in-Ok.outcome) is
    (cut_planned g.M.Body.Body.same h.me h.members (log_length h.state) h.state c.in-Ok.outcome up s c.in-Ok.ensures.planned
    (sym so ∙ c.if-is_none.ensures))

pub returns-clause-rests : goal.returns-clause-rests
returns-clause-rests g c =
    let h = c.self.inside.node in
    let is : h ≡ c.args.self.now.node = ap (λ (v : Parted g.row.M-Body.Denot g.row.M.Denot g.row.K.Denot). v.node) c.self.view_is in
    let up : h.state.up ≡ true = subst (λ (n : Held g.row.M-Body.Denot). n.state.up ≡ true) (sym is) c.requires.up in
    let s = snapshot_of c.args.octets.now in
    let so = cuts_so g.M.Body.Body.same h.me h.members (log_length h.state) h.state c.in-Ok.outcome up s c.in-Ok.ensures.planned
    c.in-Ok.ensures.nothing in
    cut_commits g.M.Body.Body.same h.me h.members (log_length h.state) h.state c.in-Ok.outcome up s c.in-Ok.ensures.planned
    (sym so ∙ c.if-is_none.ensures)

pub returns-clause-fits : goal.returns-clause-fits
returns-clause-fits g c =
    let is = ap (λ (v : Parted g.row.M-Body.Denot g.row.M.Denot g.row.K.Denot). v.node) c.self.view_is in
    subst (λ (n : Held g.row.M-Body.Denot). Fits n.me n.members c.in-Ok.outcome n.state) is c.in-Ok.ensures.fits
