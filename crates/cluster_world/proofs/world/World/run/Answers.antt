-- The laws at the world that the run leaves.
use Rattle.std.proofs.Common.{◌≤◌, ◌++◌, sym, subst}
use Rattle.replica_machine.specs.Log.{machine_from}
use Rattle.cluster_world.proofs.Headline.{agree, logs_agree, whole_logs_agree, answers, machines, took_effect_once, losses, none_disagrees}
use Rattle.cluster_world.proofs.world.World.run.Goals as goal

pub returns-clause-agreement : goal.returns-clause-agreement
returns-clause-agreement g c =
    let l = c.leads.ensures.leads in
    let ran = c.run_all.ensures.shows l.0 l.1 in
    agree g.M.Body.Body.same (record { reflexive = g.met.M.Body.Body.reflexive; sound = g.met.M.Body.Body.sound }) c.run_all.new.self (l.0 ++ ran.0)
    (subst (λ n. 3 ≤ n) (sym c.run_all.ensures.members) c.leads.ensures.many) ran.1

pub returns-clause-log_agreement : goal.returns-clause-log_agreement
returns-clause-log_agreement g c =
    let l = c.leads.ensures.leads in
    let ran = c.run_all.ensures.shows l.0 l.1 in
    logs_agree g.M.Body.Body.same (record { reflexive = g.met.M.Body.Body.reflexive; sound = g.met.M.Body.Body.sound })
    c.args.self.now c.run_all.new.self l.0 ran.0 c.leads.ensures.many c.run_all.ensures.members l.1 ran.1

pub returns-clause-prefixes : goal.returns-clause-prefixes
returns-clause-prefixes g c =
    whole_logs_agree g.M.Body.Body.same (record { reflexive = g.met.M.Body.Body.reflexive; sound = g.met.M.Body.Body.sound })
    c.args.self.now c.run_all.new.self c.leads.ensures.many c.run_all.ensures.members

pub returns-clause-answers : goal.returns-clause-answers
returns-clause-answers g c = λ first es h.
    answers g.M.Body.Body.same (record { reflexive = g.met.M.Body.Body.reflexive; sound = g.met.M.Body.Body.sound }) g.M.Machine.content
    g.M.Machine.saved g.M.Machine.loaded (machine_from g.M.Machine.steps first) c.run_all.new.self es h
    (subst (λ n. n ≤ 7) (sym c.run_all.ensures.members) c.leads.ensures.few)

pub returns-clause-machines : goal.returns-clause-machines
returns-clause-machines g c = λ first es h.
    machines g.M.Body.Body.same (record { reflexive = g.met.M.Body.Body.reflexive; sound = g.met.M.Body.Body.sound }) g.M.Machine.content
    g.M.Machine.saved g.M.Machine.loaded (machine_from g.M.Machine.steps first) c.run_all.new.self es h

pub returns-clause-at_most_once : goal.returns-clause-at_most_once
returns-clause-at_most_once g c = λ es h.
    took_effect_once g.M.Body.Body.same (record { reflexive = g.met.M.Body.Body.reflexive; sound = g.met.M.Body.Body.sound }) c.run_all.new.self es
    (subst (λ n. 3 ≤ n) (sym c.run_all.ensures.members) c.leads.ensures.many) h

pub returns-clause-losses : goal.returns-clause-losses
returns-clause-losses g c = λ es h.
    losses g.M.Body.Body.same (record { reflexive = g.met.M.Body.Body.reflexive; sound = g.met.M.Body.Body.sound }) c.run_all.new.self es
    (subst (λ n. 3 ≤ n) (sym c.run_all.ensures.members) c.leads.ensures.many) h
    (subst (λ n. n ≤ 7) (sym c.run_all.ensures.members) c.leads.ensures.few)

pub returns-clause-no_disagreement : goal.returns-clause-no_disagreement
returns-clause-no_disagreement g c =
    let l = c.leads.ensures.leads in
    let ran = c.run_all.ensures.shows l.0 l.1 in
    none_disagrees g.M.Body.Body.same (record { reflexive = g.met.M.Body.Body.reflexive; sound = g.met.M.Body.Body.sound }) c.run_all.new.self (l.0 ++ ran.0)
    (subst (λ n. 3 ≤ n) (sym c.run_all.ensures.members) c.leads.ensures.many) ran.1
