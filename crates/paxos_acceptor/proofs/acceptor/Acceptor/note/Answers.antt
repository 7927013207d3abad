use Rattle.std.proofs.Common.{◌≡◌, ◌∙◌, ap, refl, subst, sym}
use Rattle.paxos_packets.specs.Vote.{IsAscending}
use Rattle.paxos_acceptor.specs.Acceptor.{adopted, State}
use Rattle.paxos_acceptor.specs.Ahead.{IsAhead, with_change}
use Rattle.paxos_acceptor.proofs.GoingAhead.{goes_ahead, on_ok, stays_ahead}
use Rattle.paxos_acceptor.proofs.acceptor.Acceptor.note.Goals as goal

pub returns-then-has_all-clause-ok : goal.returns-then-has_all-clause-ok
returns-then-has_all-clause-ok g c = λ kept a.
    stays_ahead kept c.args.self.now.rows c.args.ahead.now c.args.change.now (c.if-has_all.ensures.same refl) a

pub returns-clause-ok : goal.returns-clause-ok
returns-clause-ok g c = λ kept a.
    on_ok c.add.result (c.add.new.self ≡ with_change c.args.change.now c.self.inside.votes.votes c.args.ahead.now)
    (IsAhead kept c.add.new.self (adopted c.args.self.now.rows c.args.change.now)) c.add.ensures.ok
    (λ is. subst (λ p. IsAhead kept p (adopted c.args.self.now.rows c.args.change.now))
    (sym (is ∙ ap (λ (s : State g.row.B.Denot). with_change c.args.change.now s.rows.votes c.args.ahead.now) c.self.view_is))
    (goes_ahead kept c.args.self.now.rows c.args.ahead.now c.args.change.now c.requires c.add.ensures.sum c.add.ensures.new
    (subst (λ (s : State g.row.B.Denot). IsAscending s.rows.votes) c.self.view_is c.add.ensures.held) a))
