-- The node as it was before room was made.
use Rattle.std.proofs.Common.{ℕ, refl, sym, ap, ◌∙◌, subst, ◌++◌, List}
use Rattle.paxos_packets.specs.declared.entry.Entry.{Entry}
use Rattle.paxos_planning.specs.Node.{NodeState}
use Rattle.paxos_node.specs.Adopting.{Fits}
use Rattle.replica_machine.specs.Log.{machine_from}
use Rattle.world_nodes.specs.Nodes.{node_of}
use Rattle.cluster_world.specs.MemberSnapshots.{base_of, above_of}
use Rattle.cluster_world.proofs.Attending.{on_err, handed_so}
use Rattle.cluster_world.proofs.member.carry_out.Goals as goal

pub commit-requires-clause-fits : goal.commit-requires-clause-fits
commit-requires-clause-fits g c =
    subst (λ (z : ℕ × ℕ × NodeState _). Fits z.0 z.1 c.args.outcome z.2)
    (λ i. (sym c.prepare.ensures.me i, sym c.prepare.ensures.members i, sym c.prepare.ensures.node i)) c.requires.fits

pub returns-in_err-added-clause-err_handed : goal.returns-in_err-added-clause-err_handed
returns-in_err-added-clause-err_handed g c = on_err c.from_residual.result (λ t. refl)

pub returns-in_err-go_on-clause-err_follows : goal.returns-in_err-go_on-clause-err_follows
returns-in_err-go_on-clause-err_follows g c = λ first under h. on_err c.from_residual-in_err-go_on.result (c.in_err-go_on.ensures.err_follows first under h)

pub returns-clause-log : goal.returns-clause-log
returns-clause-log g c =
    c.in_ok-go_on.ensures.log ∙ ap (λ l. above_of c.args.outcome.change.snapshot l ++ c.args.outcome.applied) c.requires.log

pub returns-clause-follows : goal.returns-clause-follows
returns-clause-follows g c = λ first under over h b. c.in_ok-go_on.ensures.follows first under over h b

pub returns-clause-handed : goal.returns-clause-handed
returns-clause-handed g c = λ first under over h b.
    let over_log : List (Entry _) → List (Entry _) = λ l. base_of c.args.outcome.change.snapshot under over ++ above_of c.args.outcome.change.snapshot l in
    handed_so (machine_from g.M.Machine.steps first) c.boot.result (node_of c.args.node.now).rows.boot
    (over_log c.args.follower.now.log.applied) (over_log (node_of c.args.node.now).applied) c.args.outcome.applied c.args.outcome.applied
    c.args.follower.now c.go_on.new.follower (c.boot.ensures ∙ ap (λ (x : NodeState _). x.rows.boot) c.prepare.ensures.node)
    (ap over_log c.requires.log) refl (c.in_ok-go_on.ensures.handed first under over h b)

pub returns-in_err-added-clause-err_given_up : goal.returns-in_err-added-clause-err_given_up
returns-in_err-added-clause-err_given_up g c = on_err c.from_residual.result (λ h. (h, refl))

pub returns-in_err-go_on-clause-err_given_up : goal.returns-in_err-go_on-clause-err_given_up
returns-in_err-go_on-clause-err_given_up g c = on_err c.from_residual-in_err-go_on.result c.in_err-go_on.ensures.err_given_up
