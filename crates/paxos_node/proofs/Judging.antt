-- A node treats Prepare and Accept as its acceptor does: what is applied at the end changes no row, and sends nothing.
use Rattle.std.proofs.Common.{◌≡◌, ℕ, suc, Bool, true, false, cond, refl, Option, Some, None, List, [], ◌∷◌}
use Rattle.std.proofs.lemmas.Bool.{cond_both}
use Rattle.paxos_packets.specs.Packet.{packet}
use Rattle.paxos_packets.specs.Snapshot.{Snapshot}
use Rattle.paxos_packets.specs.declared.ballot.Ballot.{Ballot}
use Rattle.paxos_packets.specs.declared.entry.Entry.{Entry}
use Rattle.paxos_packets.specs.declared.packet.Kind.TheVariants.{Prepare, Accept}
use Rattle.paxos_packets.specs.declared.packet.Packet.{Packet}
use Rattle.paxos_packets.specs.declared.rows.Rows.{Rows}
use Rattle.paxos_packets.specs.declared.vote.Vote.{Vote}
use Rattle.paxos_acceptor.specs.declared.verdict.Verdict.{Verdict}
use Rattle.paxos_acceptor.specs.declared.verdict.Answer.TheVariants.{ToSender}
use Rattle.paxos_acceptor.specs.Acceptor.{may_promise, may_accept, adopted, answers, judged, refused, promise_of, given_by, cast_or_shown}
use Rattle.paxos_packets.specs.Rows.{promise_change}
use Rattle.paxos_learner.specs.Learner.{run_from}
use Rattle.paxos_planning.specs.Node.{NodeState, Plan, log_length}
use Rattle.paxos_planning.specs.Plan.{begun, send, promise}
use Rattle.paxos_planning.specs.Replies.{saw, refuse, cast_or_show}
use Rattle.paxos_node.specs.Applying.{note, ends, go_down, apply_all, settle}
use Rattle.paxos_node.specs.Laws.{IsJudged, JudgesAsAnAcceptor}

-- a plan that gives this verdict on these rows
record Gives {B : Type 0} (members me sender : ℕ) (rows : Rows B) (j : Verdict B) (t : Plan B) : Type 0 where
  pub change : t.change ≡ j.change
  pub packets : t.packets ≡ answers members me sender j.answer
  pub now : t.node.rows ≡ adopted rows j.change

module _ {B : Type 0} (members me sender : ℕ) (rows : Rows B) (j : Verdict B) where
  abbrev G : Plan B → Type 0
  G t = Gives members me sender rows j t

  applying : (es : List (Entry B)) (t : Plan B) → G t → G (apply_all me es t)
  applying [] t g = g
  applying (e ∷ es) t g =
      cond_both (ends me t.node e) (go_down (note e t)) (apply_all me es (note e t)) (λ u. G u)
      (λ d. record { change = g.change; packets = g.packets; now = g.now })
      (λ d. applying es (note e t) (record { change = g.change; packets = g.packets; now = g.now }))

  settling : (t : Plan B) → G t → G (settle me t)
  settling t g = applying (run_from (suc (log_length t.node)) t.node.learner.learned) t g

abbrev at : {B : Type 0} (x : NodeState B) (p : Packet B) → Plan B
at x p = record (begun x) { node = saw p.kind x }

pub judges : {B : Type 0} → JudgesAsAnAcceptor B
judges {B} = (prepares, accepts)
  where
    prepares : (same : B → B → Bool) (members me sender : ℕ) (b : Ballot) (first : ℕ) (x : NodeState B)
        → IsJudged same members (packet sender (Prepare b first) me) x
    prepares same members me sender b first x =
        let g = settling members me sender x.rows (judged x.rows (Prepare b first)) _ (of (may_promise x.rows.promised b)) in
        record { change = g.change; packets = g.packets; rows = g.now }
      where
        t : Plan B
        t = at x (packet sender (Prepare b first) me)

        of : (c : Bool) → Gives members me sender x.rows
            (cond c (record { change = promise_change b; answer = ToSender (promise_of x.rows b first) }) (refused x.rows b))
            (cond c (send (packet me (promise_of x.rows b first) sender ∷ []) (promise b t)) (refuse me sender b t))
        of true = record { change = refl; packets = refl; now = refl }
        of false = record { change = refl; packets = refl; now = refl }

    accepts : (same : B → B → Bool) (members me sender : ℕ) (v : Vote B) (x : NodeState B)
        → IsJudged same members (packet sender (Accept v) me) x
    accepts same members me sender v x =
        let g = settling members me sender x.rows (judged x.rows (Accept v)) _ (of (may_accept x.rows.promised v.ballot)) in
        record { change = g.change; packets = g.packets; rows = g.now }
      where
        t : Plan B
        t = at x (packet sender (Accept v) me)

        given : (s : Option Snapshot)
            → Gives members me sender x.rows (cast_or_shown s v) (cast_or_show same members me sender s v t)
        given None = record { change = refl; packets = refl; now = refl }
        given (Some s) = record { change = refl; packets = refl; now = refl }

        of : (c : Bool) → Gives members me sender x.rows
            (cond c (cast_or_shown (given_by x.rows.snapshot v.slot) v) (refused x.rows v.ballot))
            (cond c (cast_or_show same members me sender (given_by x.rows.snapshot v.slot) v t) (refuse me sender v.ballot t))
        of true = given (given_by x.rows.snapshot v.slot)
        of false = record { change = refl; packets = refl; now = refl }
