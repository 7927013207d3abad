-- An actor that begins is sound.
use Rattle.std.proofs.Common.{◌≡◌, ◌∙◌, ℕ, Bool, List, Option, refl, sym, ap, subst}
use Rattle.paxos_packets.specs.Members.{IsMember}
use Rattle.paxos_packets.specs.declared.rows.Rows.{Rows}
use Rattle.actor_outboxes.specs.Outboxes.{Waiting}
use Rattle.paxos_node.specs.Held.{Held}
use Rattle.mail_table.specs.Seats.{Seated}
use Rattle.replica_machine.specs.Log.{LogState}
use Rattle.actor_parts.proofs.Carrying.{prefix_whole}
use Rattle.actor_parts.specs.Parts.{first_parts, IsSound}
use Rattle.node_actor.specs.Posts.{Posted}
use Rattle.node_actor.specs.Beginning.{Begins}
use Rattle.node_actor.specs.Snapshots.{IsFirstLog}
use Rattle.node_actor.proofs.Starting.{first_shows}

module _ {B M K S : Type 0} (same : B → B → Bool) (content : M → S) (loaded : List ℕ → Option S) (holds : K → Rows B → Type 0)
    (is_faithful : K → Type 0) (is_failed : K → Bool) where
  pub sound_first : (p : Posted B) (old keeper : K) (h : Held B) (w : Waiting B) (s : Seated B) (machine : M) (log : LogState B M)
      → IsMember p.members p.me
      → Begins same holds is_faithful is_failed p old keeper h w s → IsFirstLog content loaded machine h.state.rows.snapshot log
      → IsSound same holds is_failed (first_parts h keeper w log)
  sound_first p old keeper h w s machine log member b begins =
      let shows = first_shows content loaded machine h.state.rows.snapshot log begins in
      let followed : log.applied ≡ h.state.applied = shows.1 ∙ ap (λ x. x.applied) (sym b.node.state) in
      record {
        me = b.empty.me ∙ sym b.node.me;
        members = b.empty.members ∙ sym b.node.members;
        member = subst (λ n. IsMember n h.me) (sym b.node.members) (subst (IsMember p.members) (sym b.node.me) member);
        serves = λ e. record {
          up = ap (λ x. x.up) b.node.state;
          held = subst (λ x. holds keeper x.rows) (sym b.node.state) b.renews.boots.held;
          floor = shows.0;
          whole = b.whole;
          followed = followed;
          alive = shows.2;
          committed = refl;
          ahead = shows.3;
        };
        front = λ up. prefix_whole log.applied h.state.applied followed;
      }
