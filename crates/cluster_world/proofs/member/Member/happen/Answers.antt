-- A crash and a restart apply nothing; a cut has what its machine saves; all else is planned.
use Rattle.std.proofs.Common.{refl, sym, subst}
use Rattle.std.specs.Prelude.{OnOk}
use Rattle.replica_machine.specs.Log.{machine_from}
use Rattle.cluster_world.specs.Members.{Goes, GoesOn}
use Rattle.cluster_world.proofs.Attends.{crash_moves, crash_happens, crashed, restarts_down, restart_moves, restart_unmoved, restart_happens}
use Rattle.cluster_world.proofs.Attends.{restart_rests, restarted, no_restart, no_restart_then, restart_then, no_cut, no_cut_then, cut_then}
use Rattle.cluster_world.proofs.Attends.{goes, goes_on, goes_here, goes_on_here}
use Rattle.cluster_world.proofs.MemberEvents.{its_crash, its_restart, possible_crash, possible_restart}
use Rattle.cluster_world.proofs.MemberCuts.{cut_up, cut_goes, cut_happens, cut_unmoved, cut_given_up, cut_rests}
use Rattle.cluster_world.proofs.member.Member.happen.Goals as goal

pub returns-in-Take-clause-alive : goal.returns-in-Take-clause-alive
returns-in-Take-clause-alive g c = no_cut_then _ c.do_event.result c.args.event.now _ c.in-Take.is refl

pub returns-in-Take-clause-loads : goal.returns-in-Take-clause-loads
returns-in-Take-clause-loads g c = λ first under _ _ _. no_cut_then _ c.do_event.result c.args.event.now _ c.in-Take.is refl

pub returns-in-Take-clause-renewed : goal.returns-in-Take-clause-renewed
returns-in-Take-clause-renewed g c = no_restart_then _ _ c.do_event.result c.args.event.now _ c.in-Take.is refl

pub returns-in-Tick-clause-alive : goal.returns-in-Tick-clause-alive
returns-in-Tick-clause-alive g c = no_cut_then _ c.do_event-in-Tick.result c.args.event.now _ c.in-Tick.is refl

pub returns-in-Tick-clause-loads : goal.returns-in-Tick-clause-loads
returns-in-Tick-clause-loads g c = λ first under _ _ _. no_cut_then _ c.do_event-in-Tick.result c.args.event.now _ c.in-Tick.is refl

pub returns-in-Tick-clause-renewed : goal.returns-in-Tick-clause-renewed
returns-in-Tick-clause-renewed g c = no_restart_then _ _ c.do_event-in-Tick.result c.args.event.now _ c.in-Tick.is refl

pub returns-in-Start-clause-alive : goal.returns-in-Start-clause-alive
returns-in-Start-clause-alive g c = no_cut_then _ c.do_event-in-Start.result c.args.event.now _ c.in-Start.is refl

pub returns-in-Start-clause-loads : goal.returns-in-Start-clause-loads
returns-in-Start-clause-loads g c = λ first under _ _ _. no_cut_then _ c.do_event-in-Start.result c.args.event.now _ c.in-Start.is refl

pub returns-in-Start-clause-renewed : goal.returns-in-Start-clause-renewed
returns-in-Start-clause-renewed g c = no_restart_then _ _ c.do_event-in-Start.result c.args.event.now _ c.in-Start.is refl

pub returns-in-Suspect-clause-alive : goal.returns-in-Suspect-clause-alive
returns-in-Suspect-clause-alive g c = no_cut_then _ c.do_event-in-Suspect.result c.args.event.now _ c.in-Suspect.is refl

pub returns-in-Suspect-clause-loads : goal.returns-in-Suspect-clause-loads
returns-in-Suspect-clause-loads g c = λ first under _ _ _. no_cut_then _ c.do_event-in-Suspect.result c.args.event.now _ c.in-Suspect.is refl

pub returns-in-Suspect-clause-renewed : goal.returns-in-Suspect-clause-renewed
returns-in-Suspect-clause-renewed g c = no_restart_then _ _ c.do_event-in-Suspect.result c.args.event.now _ c.in-Suspect.is refl

pub returns-in-Deliver-clause-alive : goal.returns-in-Deliver-clause-alive
returns-in-Deliver-clause-alive g c = no_cut_then _ c.do_event-in-Deliver.result c.args.event.now _ c.in-Deliver.is refl

pub returns-in-Deliver-clause-loads : goal.returns-in-Deliver-clause-loads
returns-in-Deliver-clause-loads g c = λ first under _ _ _. no_cut_then _ c.do_event-in-Deliver.result c.args.event.now _ c.in-Deliver.is refl

pub returns-in-Deliver-clause-renewed : goal.returns-in-Deliver-clause-renewed
returns-in-Deliver-clause-renewed g c = no_restart_then _ _ c.do_event-in-Deliver.result c.args.event.now _ c.in-Deliver.is refl

pub returns-in-Crash-clause-ok : goal.returns-in-Crash-clause-ok
returns-in-Crash-clause-ok g c =
    let same = g.M.Body.Body.same in
    let event = c.args.event.now in
    let sent = c.args.sent.now.packets in
    let made = c.args.made.now.items in
    let n = c.in-Crash.node in
    subst (λ e. Goes same e c.args.self.now c.crash.new.self sent sent made made)
    (sym (its_crash g.M.Machine.saved g.M.Machine.content c.args.self.now.machine event n c.in-Crash.is))
    (goes_here same event c.args.self.now c.crash.new.self sent sent made made
    (possible_crash event n c.args.self.now.node c.in-Crash.is c.requires.may)
    (crash_moves same event n c.args.self.now c.crash.new.self sent made c.in-Crash.is c.crash.ensures.node))

pub returns-in-Crash-clause-alive : goal.returns-in-Crash-clause-alive
returns-in-Crash-clause-alive g c = no_cut c.args.event.now _ c.in-Crash.is refl

pub returns-in-Crash-clause-loads : goal.returns-in-Crash-clause-loads
returns-in-Crash-clause-loads g c = λ first under _ _ _. no_cut c.args.event.now _ c.in-Crash.is refl

pub returns-in-Crash-clause-given_up : goal.returns-in-Crash-clause-given_up
returns-in-Crash-clause-given_up g c = λ _ h. crashed c.args.self.now.node c.crash.new.self.node c.crash.ensures.node h

pub returns-in-Crash-clause-happens : goal.returns-in-Crash-clause-happens
returns-in-Crash-clause-happens g c = λ first under over _ _ h.
    let same = g.M.Body.Body.same in
    let content = g.M.Machine.content in
    let m = machine_from g.M.Machine.steps first in
    let event = c.args.event.now in
    let n = c.in-Crash.node in
    subst (λ e. GoesOn same content m e under over c.args.self.now c.crash.new.self)
    (sym (its_crash g.M.Machine.saved content c.args.self.now.machine event n c.in-Crash.is))
    (goes_on_here same content m event under over c.args.self.now c.crash.new.self
    (possible_crash event n c.args.self.now.node c.in-Crash.is c.requires.may)
    (crash_happens same content m event n under over c.args.self.now c.crash.new.self c.in-Crash.is c.crash.ensures.machine h))

pub returns-in-Crash-clause-renewed : goal.returns-in-Crash-clause-renewed
returns-in-Crash-clause-renewed g c = no_restart c.args.event.now _ c.in-Crash.is refl

pub returns-in-Restart-clause-ok : goal.returns-in-Restart-clause-ok
returns-in-Restart-clause-ok g c =
    let same = g.M.Body.Body.same in
    let event = c.args.event.now in
    let sent = c.args.sent.now.packets in
    let made = c.args.made.now.items in
    let more = c.restart.new.made.items in
    let n = c.in-Restart.node in
    subst (λ e. OnOk c.restart.result (Goes same e c.args.self.now c.restart.new.self sent sent made more))
    (sym (its_restart g.M.Machine.saved g.M.Machine.content c.args.self.now.machine event n c.in-Restart.is))
    (goes same c.restart.result event c.args.self.now c.restart.new.self sent sent made more
    (possible_restart event n c.args.self.now.node c.in-Restart.is c.requires.may)
    (restart_moves same c.restart.result event n c.args.self.now c.restart.new.self sent made more c.in-Restart.is c.requires.own
    c.restart.ensures.node c.restart.ensures.made c.restart.ensures.log))

pub returns-in-Restart-clause-alive : goal.returns-in-Restart-clause-alive
returns-in-Restart-clause-alive g c = no_cut_then _ c.restart.result c.args.event.now _ c.in-Restart.is refl

pub returns-in-Restart-clause-loads : goal.returns-in-Restart-clause-loads
returns-in-Restart-clause-loads g c = λ first under _ _ _. no_cut_then _ c.restart.result c.args.event.now _ c.in-Restart.is refl

pub returns-in-Restart-clause-err : goal.returns-in-Restart-clause-err
returns-in-Restart-clause-err g c =
    let n = c.in-Restart.node in
    restart_unmoved g.M.Body.Body.same c.restart.result c.args.self.now c.restart.new.self c.args.sent.now.packets c.args.made.now.items
    c.restart.new.made.items
    (restarts_down c.args.event.now n c.args.self.now.node c.in-Restart.is
    (possible_restart c.args.event.now n c.args.self.now.node c.in-Restart.is c.requires.may)).0
    c.restart.ensures.err_node c.restart.ensures.err_made

pub returns-in-Restart-clause-given_up : goal.returns-in-Restart-clause-given_up
returns-in-Restart-clause-given_up g c = λ _ h.
    let n = c.in-Restart.node in
    restarted c.restart.result c.args.self.now.me c.args.self.now.node c.restart.new.self.node
    (restarts_down c.args.event.now n c.args.self.now.node c.in-Restart.is
    (possible_restart c.args.event.now n c.args.self.now.node c.in-Restart.is c.requires.may)).0
    c.restart.ensures.node c.restart.ensures.err_node h

pub returns-in-Restart-clause-happens : goal.returns-in-Restart-clause-happens
returns-in-Restart-clause-happens g c = λ first under over at _ h.
    let same = g.M.Body.Body.same in
    let content = g.M.Machine.content in
    let m = machine_from g.M.Machine.steps first in
    let event = c.args.event.now in
    let n = c.in-Restart.node in
    subst (λ e. OnOk c.restart.result (GoesOn same content m e under over c.args.self.now c.restart.new.self))
    (sym (its_restart g.M.Machine.saved content c.args.self.now.machine event n c.in-Restart.is))
    (goes_on same content m c.restart.result event under over c.args.self.now c.restart.new.self
    (possible_restart event n c.args.self.now.node c.in-Restart.is c.requires.may)
    (restart_happens same content m c.restart.result event n under over c.args.self.now c.restart.new.self c.in-Restart.is
    c.restart.ensures.told (c.restart.ensures.follows first under at h)))

pub returns-in-Restart-clause-rests : goal.returns-in-Restart-clause-rests
returns-in-Restart-clause-rests g c = λ first under at h.
    restart_rests g.M.Body.Body.same g.M.Machine.content (machine_from g.M.Machine.steps first) c.restart.result
    under c.args.self.now c.restart.new.self c.restart.ensures.told (c.restart.ensures.follows first under at h)

pub returns-in-Restart-clause-renewed : goal.returns-in-Restart-clause-renewed
returns-in-Restart-clause-renewed g c = restart_then _ c.args.event.now c.restart.result c.restart.ensures.renewed

pub cut-requires-clause-up : goal.cut-requires-clause-up
cut-requires-clause-up g c = cut_up c.args.event.now _ _ c.args.self.now.node c.in-Cut.is c.requires.may

pub returns-in-Cut-clause-ok : goal.returns-in-Cut-clause-ok
returns-in-Cut-clause-ok g c =
    cut_goes g.M.Body.Body.same g.M.Machine.saved g.M.Machine.content c.args.event.now c.in-Cut.node c.in-Cut.snapshot c.in-Cut.is c.args.self.now
    c.cut.new.self c.requires.own c.requires.may c.cut.result c.args.sent.now.packets c.args.made.now.items c.requires.rests c.cut.ensures.ok

pub returns-in-Cut-clause-alive : goal.returns-in-Cut-clause-alive
returns-in-Cut-clause-alive g c = cut_then _ c.args.event.now c.cut.result c.cut.ensures.alive

pub returns-in-Cut-clause-loads : goal.returns-in-Cut-clause-loads
returns-in-Cut-clause-loads g c = λ first under follows given short.
    cut_then _ c.args.event.now c.cut.result (c.cut.ensures.loads first under follows given short)

pub returns-in-Cut-clause-err : goal.returns-in-Cut-clause-err
returns-in-Cut-clause-err g c =
    cut_unmoved c.args.self.now c.cut.new.self c.cut.result c.args.sent.now.packets c.args.made.now.items c.cut.ensures.err_node
    c.cut.ensures.err_machine c.requires.log

pub returns-in-Cut-clause-given_up : goal.returns-in-Cut-clause-given_up
returns-in-Cut-clause-given_up g c = λ given_up _.
    cut_given_up c.args.self.now c.cut.new.self c.cut.result c.cut.ensures.alive c.cut.ensures.err_machine given_up

pub returns-in-Cut-clause-happens : goal.returns-in-Cut-clause-happens
returns-in-Cut-clause-happens g c = λ first under over _ _ h.
    cut_happens g.M.Body.Body.same g.M.Machine.saved g.M.Machine.content c.args.event.now c.in-Cut.node c.in-Cut.snapshot c.in-Cut.is c.args.self.now
    c.cut.new.self c.requires.own c.requires.may c.cut.result (machine_from g.M.Machine.steps first) under over c.requires.rests
    c.cut.ensures.ok (c.cut.ensures.follows first under h)

pub returns-in-Cut-clause-rests : goal.returns-in-Cut-clause-rests
returns-in-Cut-clause-rests g c = λ first under _ h.
    cut_rests c.args.self.now c.cut.new.self c.cut.result g.M.Machine.content (machine_from g.M.Machine.steps first) under
    c.cut.ensures.err_machine h

pub returns-in-Cut-clause-renewed : goal.returns-in-Cut-clause-renewed
returns-in-Cut-clause-renewed g c = no_restart_then _ _ c.cut.result c.args.event.now _ c.in-Cut.is refl
