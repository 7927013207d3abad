-- Each majority holds what is chosen, and a ballot that its own node has not promised is fresh.
use Rattle.std.proofs.Common.{◌≡◌, ℕ, Bool, true, subst, arith, List, Option, Some, None}
use Rattle.cluster_world.proofs.Active.{is_high}
use Rattle.paxos_packets.proofs.Meeting.{common_member}
use Rattle.cluster_world.proofs.Agreeing.{chosen_in}
use Rattle.cluster_world.proofs.EveryWorld.{WorldOk, world_ok}
use Rattle.cluster_world.proofs.Invariant.{vote, Sent, Known, Tops, IsChosen, Inv, promises}
use Rattle.cluster_world.proofs.OneChosen.{later_same}
use Rattle.cluster_world.proofs.Order.{Le, Reaches, reach, le_trans, lt_not_le, lt_from_test, le_from_test}
use Rattle.paxos_acceptor.specs.Acceptor.{may_promise}
use Rattle.paxos_packets.specs.Body.{IsEquality}
use Rattle.paxos_packets.specs.Members.{IsMember}
use Rattle.paxos_packets.specs.declared.ballot.Ballot.{Ballot}
use Rattle.paxos_packets.specs.declared.packet.Kind.{Kind}
use Rattle.paxos_packets.specs.declared.packet.Kind.TheVariants.{Accept}
use Rattle.paxos_packets.specs.declared.packet.Packet.{Packet}
use Rattle.paxos_packets.specs.declared.vote.Vote.{Vote}
use Rattle.cluster_world.specs.Chosen.{WasSent}
use Rattle.cluster_world.specs.Majorities.{HasVote, MajoritiesHold, NewBallotsAreFresh}
use Rattle.cluster_world.specs.World.{World, node_at, played}

-- a ballot that may be promised is not reached yet
not_reached : (p : Option Ballot) (b : Ballot) → may_promise p b ≡ true → Reaches p b → ⊥
not_reached None b t h = elim h [ ]
not_reached (Some p) b t (reach {p = q} {b = c} h) = lt_not_le (lt_from_test p b t) h

sent_in : {B : Type 0} {sent : List (Packet B)} {k : ℕ} {kind : Kind B} → WasSent sent k kind → Sent sent k kind
sent_in s = record { to = s.0; is = s.1 }

known_in : {B : Type 0} {sent : List (Packet B)} {k : ℕ} {kind : Kind B} → WasSent sent k kind → Known sent kind
known_in {k = k} s = record { by = k; is = sent_in s }

module _ {B : Type 0} (same : B → B → Bool) (equal : IsEquality same) where
  pub majorities_hold : MajoritiesHold B same
  majorities_hold members l events slot e c set most high =
      record {
        node = k.0;
        member = k.1;
        within = k.2;
        ballot = t.best.ballot;
        has = subst (λ (v : Vote B). HasVote w.nodes k.0 v)
            (λ i. record { slot = t.slot i; ballot = t.best.ballot; entry = entry k.0 t.best t.is t.slot t.high i }) t.is;
        above = λ j v h s b. entry j v h s (le_trans t.high (le_from_test v.ballot t.best.ballot b));
      }
    where
      w : World B
      w = played same members events

      ok : WorldOk members w
      ok = world_ok same equal members (omega arith) events

      inv : Inv members (node_at w.nodes) w.sent
      inv = ok.inv

      d : IsChosen members w.sent slot e
      d = chosen_in members w.sent slot e c

      k : (k : ℕ) × IsMember members k × (set k ≡ true) × (d.quorum k ≡ true)
      k = common_member members set d.quorum most d.most

      t : Tops (node_at w.nodes k.0).rows.votes (vote slot d.ballot e)
      t = (inv.nodes k.0).rows.tops (vote slot d.ballot e) (d.voted k.0 k.1 k.3)
          (is_high (node_at w.nodes k.0).rows.snapshot slot (high k.0 k.1 k.2))

      entry : (j : ℕ) (v : Vote B) → HasVote w.nodes j v → v.slot ≡ slot → Le d.ballot v.ballot → v.entry ≡ e
      entry j v h s a =
          later_same members (promises (node_at w.nodes)) w.sent inv.packets slot e d v.ballot a v.entry
          (subst (λ z. Known w.sent (Accept z)) (λ i. record { slot = s i; ballot = v.ballot; entry = v.entry }) ((inv.nodes j).rows.known v h))

  pub new_ballots_are_fresh : NewBallotsAreFresh B same
  new_ballots_are_fresh members l events b may =
      record {
        unasked = λ k first s. not_reached (promises (node_at w.nodes) b.node) b may (inv.packets.asked_low b first (known_in s));
        unproposed = λ k v s i. unknown v (known_in s) i;
        uncast = λ k v s i. unknown v (inv.packets.voted k v (sent_in s)) i;
        unheld = λ k v h i. unknown v ((inv.nodes k).rows.known v h) i;
        unheard = λ k j t h q i.
            let o = (inv.nodes k).heard t h j q in
            unknown (vote t.0.slot t.0.ballot o.entry) (inv.packets.voted j (vote t.0.slot t.0.ballot o.entry) o.is) i;
      }
    where
      w : World B
      w = played same members events

      inv : Inv members (node_at w.nodes) w.sent
      inv = (world_ok same equal members (omega arith) events).inv

      unknown : (v : Vote B) → Known w.sent (Accept v) → v.ballot ≡ b → ⊥
      unknown v h i =
          not_reached (promises (node_at w.nodes) b.node) b may
          (subst (λ z. Reaches (promises (node_at w.nodes) z.node) z) i (inv.packets.low v h))
