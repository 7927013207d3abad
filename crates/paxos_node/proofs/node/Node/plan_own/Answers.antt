use Rattle.std.proofs.Common.{ap}
use Rattle.paxos_node.proofs.Answering.{of_take, of_tick, of_start, of_suspect, of_packet, of_cut, cut_may}
use Rattle.paxos_node.proofs.Making.{makes_nothing, makes_act, makes_lost}
use Rattle.paxos_node.specs.Events.{made_by}
use Rattle.paxos_node.specs.declared.event.Event.{Event}
use Rattle.paxos_node.proofs.node.Node.plan_own.Goals as goal

pub returns-in-Take-clause-answered : goal.returns-in-Take-clause-answered
returns-in-Take-clause-answered g c =
    of_take g.B.Body.same c.args.self.now.me c.args.self.now.members c.args.self.now.state c.plan_take.result c.args.event.now c.in-Take.node
    c.in-Take.transport c.in-Take.body c.in-Take.is c.requires.own c.plan_take.ensures.answered

pub returns-in-Tick-clause-answered : goal.returns-in-Tick-clause-answered
returns-in-Tick-clause-answered g c =
    of_tick g.B.Body.same c.args.self.now.me c.args.self.now.members c.args.self.now.state c.plan_tick.result c.args.event.now c.in-Tick.node
    c.in-Tick.is c.requires.own c.plan_tick.ensures.answered

pub returns-in-Start-clause-answered : goal.returns-in-Start-clause-answered
returns-in-Start-clause-answered g c =
    of_start g.B.Body.same c.args.self.now.me c.args.self.now.members c.args.self.now.state c.plan_start.result c.args.event.now c.in-Start.node
    c.in-Start.is c.requires.own c.plan_start.ensures.answered

pub returns-in-Suspect-clause-answered : goal.returns-in-Suspect-clause-answered
returns-in-Suspect-clause-answered g c =
    of_suspect g.B.Body.same c.args.self.now.me c.args.self.now.members c.args.self.now.state c.plan_suspect.result c.args.event.now c.in-Suspect.node
    c.in-Suspect.other c.in-Suspect.is c.requires.own c.plan_suspect.ensures.answered

pub returns-in-Deliver-clause-answered : goal.returns-in-Deliver-clause-answered
returns-in-Deliver-clause-answered g c =
    of_packet g.B.Body.same c.args.self.now.me c.args.self.now.members c.args.self.now.state c.plan_packet.result c.args.event.now c.in-Deliver.packet
    c.in-Deliver.is c.requires.own c.plan_packet.ensures.answered

pub plan_own_cut-requires-clause-cuts : goal.plan_own_cut-requires-clause-cuts
plan_own_cut-requires-clause-cuts g c =
    cut_may c.args.event.now c.in-Cut.node c.in-Cut.snapshot c.args.self.now.state c.in-Cut.is c.requires.possible

pub returns-in-Cut-clause-answered : goal.returns-in-Cut-clause-answered
returns-in-Cut-clause-answered g c =
    of_cut g.B.Body.same c.args.self.now.me c.args.self.now.members c.args.self.now.state c.plan_own_cut.result c.args.event.now c.in-Cut.node
    c.in-Cut.snapshot c.in-Cut.is c.plan_own_cut.ensures.answered

pub returns-in-Take-clause-made : goal.returns-in-Take-clause-made
returns-in-Take-clause-made g c =
    makes_act g.B.Body.same c.args.self.now.me c.args.self.now.state c.plan_take.result c.args.event.now c.in-Take.node c.in-Take.transport
    c.in-Take.body c.in-Take.is c.requires.own c.plan_take.ensures.made

pub returns-in-Suspect-clause-made : goal.returns-in-Suspect-clause-made
returns-in-Suspect-clause-made g c =
    makes_lost g.B.Body.same c.args.self.now.me c.args.self.now.state c.plan_suspect.result c.args.event.now c.in-Suspect.node c.in-Suspect.other
    c.in-Suspect.is c.requires.own c.plan_suspect.ensures.made

pub returns-in-Tick-clause-made : goal.returns-in-Tick-clause-made
returns-in-Tick-clause-made g c =
    makes_nothing g.B.Body.same c.args.self.now.me c.args.self.now.state c.plan_tick.result c.args.event.now
    (ap (λ (e : Event g.row.B.Denot). made_by g.B.Body.same e c.args.self.now.state) c.in-Tick.is) c.plan_tick.ensures.added

pub returns-in-Start-clause-made : goal.returns-in-Start-clause-made
returns-in-Start-clause-made g c =
    makes_nothing g.B.Body.same c.args.self.now.me c.args.self.now.state c.plan_start.result c.args.event.now
    (ap (λ (e : Event g.row.B.Denot). made_by g.B.Body.same e c.args.self.now.state) c.in-Start.is) c.plan_start.ensures.added

pub returns-in-Deliver-clause-made : goal.returns-in-Deliver-clause-made
returns-in-Deliver-clause-made g c =
    makes_nothing g.B.Body.same c.args.self.now.me c.args.self.now.state c.plan_packet.result c.args.event.now
    (ap (λ (e : Event g.row.B.Denot). made_by g.B.Body.same e c.args.self.now.state) c.in-Deliver.is) c.plan_packet.ensures.added

pub returns-in-Cut-clause-made : goal.returns-in-Cut-clause-made
returns-in-Cut-clause-made g c =
    makes_nothing g.B.Body.same c.args.self.now.me c.args.self.now.state c.plan_own_cut.result c.args.event.now
    (ap (λ (e : Event g.row.B.Denot). made_by g.B.Body.same e c.args.self.now.state) c.in-Cut.is) c.plan_own_cut.ensures.added
