-- Each event in every world makes of its node what it would make of one that applies at once.
use Rattle.std.proofs.Common.{◌≡◌, ⊎_elim, ℕ, suc, ◌+◌, ◌<◌, ◌-◌, ◌≤◌, Bool, true, false, not, ◌&&◌, refl, sym, ap, subst, arith}
use Rattle.std.proofs.Common.{List, [], ◌∷◌, ◌++◌, length, Option, Some, None}
use Rattle.std.specs.Prelude.{if◌then◌else◌}
use Rattle.std.proofs.lemmas.Bool.{cond_both, and_parts, cases_eq}
use Rattle.cluster_world.proofs.Invariant.{Sent, PreparingOk, promises}
use Rattle.cluster_world.proofs.InvariantKept.{sent_left}
use Rattle.cluster_world.proofs.Growth.{tells_grows}
use Rattle.cluster_world.proofs.WithNode.{with_node}
use Rattle.cluster_world.proofs.Reports.{all_called, lowest_has}
use Rattle.cluster_world.proofs.Proposals.{State, FreeAt}
use Rattle.cluster_world.proofs.Events.{Way, role_path, free_same, propose_new_step, lead_step, promised_ok, mine, sends, again_quiet, pending_step}
use Rattle.cluster_world.proofs.EveryWorld.{WorldOk, world_ok, start_good, among_has, within, node_same, node_other, plain_at}
use Rattle.cluster_world.proofs.Taking.{by_next}
use Rattle.cluster_world.proofs.Taking.{in_every}
use Rattle.cluster_world.proofs.AtOnce.{AtRest, settle_rest, cut_rest, rest_settled, apply_send, Calm, calm_here, calm_rest, Agrees, agrees_here, then_agrees, end_agrees}
use Rattle.cluster_world.proofs.AtOnce.{proposes, recovers}
use Rattle.paxos_packets.specs.Ballot.{ballot_sound, same_ballot}
use Rattle.paxos_packets.specs.Members.{is_majority}
use Rattle.paxos_packets.specs.Packet.{packet, to_others}
use Rattle.paxos_packets.specs.Snapshot.{floor_in}
use Rattle.paxos_packets.specs.Snapshot as taken
use Rattle.paxos_packets.specs.declared.ballot.Ballot.{Ballot}
use Rattle.paxos_packets.specs.declared.entry.Entry.{Entry}
use Rattle.paxos_packets.specs.declared.packet.Kind.{Kind}
use Rattle.paxos_packets.specs.declared.packet.Packet.{Packet}
use Rattle.paxos_packets.specs.declared.vote.Vote.{Vote}
use Rattle.paxos_packets.specs.declared.packet.Kind.TheVariants.{Prepare, Promise, Accept, Accepted, Nack, Forward, Ask, Learned, Snapshot}
use Rattle.paxos_acceptor.specs.Acceptor.{may_promise, may_accept, promise_of, given_by}
use Rattle.paxos_proposer.specs.declared.promises.CountedPromise.{CountedPromise}
use Rattle.paxos_proposer.specs.Role.{Role, Idle, Preparing, Leading}
use Rattle.paxos_proposer.specs.Proposer.{new_ballot, is_leading}
use Rattle.paxos_proposer.specs.Promises.{lowest}
use Rattle.paxos_proposer.specs.Reports.{is_counted, reports, past_reports, called_for}
use Rattle.paxos_learner.specs.Learner.{run_from}
use Rattle.paxos_node.specs.declared.event.Event.{Event}
use Rattle.paxos_node.specs.declared.event.Event.TheVariants.{Take, Tick, Start, Suspect, Deliver, Cut, Crash, Restart}
use Rattle.paxos_planning.specs.Node.{NodeState, Plan, log_length}
use Rattle.paxos_planning.specs.Plan.{with_role, with_pending, begun, send, promise, vote as vote_at_end, count as count_at_end}
use Rattle.paxos_planning.specs.Proposals.{stands, forwarded, propose as propose_at_end, propose_new as propose_new_at_end, lead as lead_at_end}
use Rattle.paxos_planning.specs.Proposals.{propose_each as propose_each_at_end, push as push_at_end}
use Rattle.paxos_planning.specs.Replies.{saw, refuse, show, cast_or_show as cast_or_show_at_end, answer_ask, on_nack, count_promise as count_promise_at_end, on_promise_as as on_promise_as_at_end}
use Rattle.paxos_node.specs.Events.{takes, with_item, has_room, new_lost, deliver, on_event, owner, possible, outcome_of}
use Rattle.paxos_node.specs.Snapshots.{may_cut}
use Rattle.paxos_planning.specs.Ticking.{again, ask}
use Rattle.paxos_planning.specs.Starting.{begin, starts, on_start}
use Rattle.paxos_node.specs.Events.{on_take as on_take_at_end, suspected as suspected_at_end}
use Rattle.paxos_planning.specs.Ticking.{on_tick as on_tick_at_end}
use Rattle.paxos_node.specs.Applying.{settle}
use Rattle.cluster_world.specs.AtOnce as now
use Rattle.cluster_world.specs.Has.{Has}
use Rattle.cluster_world.specs.AtOnce.{AppliesAsAtOnce}
use Rattle.cluster_world.specs.World.{World, node_at, put_node, first_world, was_sent, next, played}
use Rattle.paxos_packets.specs.Body.{IsEquality}

module _ {B : Type 0} (same : B → B → Bool) (equal : IsEquality same) (members : ℕ) (many : 2 ≤ members) (at : ℕ → NodeState B) (n : ℕ)
    (before : List (Packet B)) where
  abbrev St : Plan B → Type 0
  St t = State same equal members many at n before t

  abbrev Fr : Plan B → Type 0
  Fr t = FreeAt same equal members many at n before t

  abbrev all : Plan B → List (Packet B)
  all t = before ++ t.packets

  proposes_new : (e : Entry B) (t : Plan B) → St t → AtRest t.node
      → Agrees t (now.propose_new same members n e t) (propose_new_at_end same members n e t)
  proposes_new e t inv rest =
      let a = proposes same equal members many at n before e t inv rest in
      record {
        is = ap (λ u. if stands same (log_length t.node) t.node.proposer.role e then t else u) a.is;
        calm = cond_both (stands same (log_length t.node) t.node.proposer.role e) t (propose_at_end same members n e t) (λ u. Calm t u)
            (λ d. calm_here t) (λ d. a.calm);
      }

  proposes_each : (es : List (Entry B)) (t : Plan B) → St t → Fr t → AtRest t.node
      → Agrees t (now.propose_each same members n es t) (propose_each_at_end same members n es t)
  proposes_each [] t inv free rest = agrees_here t
  proposes_each (e ∷ es) t inv free rest =
      let a = proposes_new e t inv rest in
      let s = propose_new_step same equal members many at n before e t inv free in
      then_agrees (λ z. now.propose_each same members n es z) a
      (proposes_each es (propose_new_at_end same members n e t) s.path.going.inv s.free (calm_rest a.calm rest))

  pub pushes : (t : Plan B) → St t → Fr t → AtRest t.node → Agrees t (now.push same members n t) (push_at_end same members n t)
  pushes t inv free rest =
      let a = proposes_each t.node.pending t inv free rest in
      record {
        is = ap (λ u. if is_leading t.node.proposer.role then u else send (forwarded n t.node.rows.promised t.node.pending) t) a.is;
        calm = cond_both (is_leading t.node.proposer.role) (propose_each_at_end same members n t.node.pending t)
            (send (forwarded n t.node.rows.promised t.node.pending) t) (λ u. Calm t u)
            (λ d. a.calm) (λ d. record { base = refl; learned = refl; log = refl; pending = refl });
      }

  -- packets

  abbrev own : Plan B → ℕ
  own t = floor_in t.node.rows.snapshot

  leads : (t : Plan B) (b : Ballot) (first : ℕ) (cs : List (CountedPromise B)) → St t
      → PreparingOk (promises (with_node at n t.node)) t.node.rows.promised (all t) n b first cs → is_majority members (is_counted cs) ≡ true
      → AtRest t.node
      → Agrees t (now.lead same members n b (lowest first (own t) cs) (reports cs) t)
      (lead_at_end same members n b (lowest first (own t) cs) (reports cs) t)
  leads t b first cs inv ok most rest =
      let a =
      recovers same equal members many at n before (called_for low (reports cs)) u b low [] g.going.inv refl
      (all_called members (promises (with_node at n u.node)) (all u) b first cs most (λ c h. tells_grows g.going.grows (ok.kept c h)) low is.0
      is.2 (past_reports low (reports cs) - low) low (omega arith)) rest in
      record { is = a.is; calm = record { base = a.calm.base; learned = a.calm.learned; log = a.calm.log; pending = a.calm.pending } }
    where
      low : ℕ
      low = lowest first (own t) cs

      is : (first ≤ low) × (own t < low) × ((c : CountedPromise B) → Has cs c → c.floor < low)
      is = lowest_has first (own t) cs

      u : Plan B
      u = record t { node = with_role (Leading b low []) t.node }

      g : Way same equal members many at n before t.node.taken t u
      g =
          role_path same equal members many at n before t inv (Leading b low []) t.node.proposer.seen
          (record {
            owner = ok.owner;
            exact = ok.exact;
            high = is.1;
            made = λ v p e. absurd (ok.none v p e);
            own = λ v h. absurd (elim h [ ]);
            owned = λ v h. absurd (elim h [ ]);
          })

  counts_promise : (t : Plan B) (b : Ballot) (first : ℕ) (cs : List (CountedPromise B)) → St t
      → PreparingOk (promises (with_node at n t.node)) t.node.rows.promised (all t) n b first cs → AtRest t.node
      → Agrees t (now.count_promise same members n b first (own t) cs t) (count_promise_at_end same members n b first (own t) cs t)
  counts_promise t b first cs inv ok rest = go (is_majority members (is_counted cs)) refl
    where
      low : ℕ
      low = lowest first (own t) cs

      go : (m : Bool) → is_majority members (is_counted cs) ≡ m
          → Agrees t
          (if m then now.push same members n (now.lead same members n b low (reports cs) t)
          else record t { node = with_role (Preparing b first cs) t.node })
          (if m then push_at_end same members n (lead_at_end same members n b low (reports cs) t)
          else record t { node = with_role (Preparing b first cs) t.node })
      go true e =
          let a = leads t b first cs inv ok e rest in
          let s = lead_step same equal members many at n before t b first cs inv ok e in
          then_agrees (λ z. now.push same members n z) a
          (pushes (lead_at_end same members n b low (reports cs) t) s.path.going.inv s.free (calm_rest a.calm rest))
      go false e = record { is = refl; calm = record { base = refl; learned = refl; log = refl; pending = refl } }

  hears_promise : (t : Plan B) (from : ℕ) (b : Ballot) (floor : ℕ) (votes : List (Vote B)) → St t → Sent (all t) from (Promise b floor votes)
      → AtRest t.node → (r : Role B) → t.node.proposer.role ≡ r
      → Agrees t (now.on_promise_as same members n from b floor votes r t) (on_promise_as_at_end same members n from b floor votes r t)
  hears_promise t from b floor votes inv s rest Idle is = agrees_here t
  hears_promise t from b floor votes inv s rest (Leading c next table) is = agrees_here t
  hears_promise t from b floor votes inv s rest (Preparing c first cs) is = go (same_ballot b c && not (is_counted cs from)) refl
    where
      more : List (CountedPromise B)
      more = cs ++ record { node = from; floor = floor; votes = votes } ∷ []

      go : (m : Bool) → (same_ballot b c && not (is_counted cs from)) ≡ m
          → Agrees t (if m then now.count_promise same members n c first (own t) more t else t)
          (if m then count_promise_at_end same members n c first (own t) more t else t)
      go true e =
          counts_promise t c first more inv
          (promised_ok same equal members many at n before t from b floor votes inv s c first cs is
          (ballot_sound b c (and_parts (same_ballot b c) (not (is_counted cs from)) e).0)) rest
      go false e = agrees_here t

  -- at the end it is the same
  abbrev Ends : Plan B → Plan B → Type 0
  Ends u v = settle n v ≡ u

  refuses : (t : Plan B) (from : ℕ) (b : Ballot) → AtRest t.node → Ends (refuse n from b t) (refuse n from b t)
  refuses t from b rest = settle_rest n (refuse n from b t) rest

  ends_packet : (t : Plan B) (from : ℕ) (kind : Kind B) → St t → Fr t → Sent (all t) from kind → AtRest t.node
      → Ends (now.on_packet same members n from kind t) (deliver same members n from kind t)
  ends_packet t from (Prepare b first) inv free s rest =
      cond_both (may_promise t.node.rows.promised b) (send (packet n (promise_of t.node.rows b first) from ∷ []) (promise b t))
      (refuse n from b t) (λ u. Ends u u)
      (λ e. settle_rest n (send (packet n (promise_of t.node.rows b first) from ∷ []) (promise b t)) rest)
      (λ e. refuses t from b rest)
  ends_packet t from (Promise b floor votes) inv free s rest =
      end_agrees n rest (hears_promise t from b floor votes inv s rest t.node.proposer.role refl)
  ends_packet t from (Accept v) inv free s rest = go (may_accept t.node.rows.promised v.ballot) (given_by t.node.rows.snapshot v.slot)
    where
      counted : Plan B
      counted = count_at_end same members n v (vote_at_end v t)

      go : (m : Bool) (given : Option taken.Snapshot)
          → Ends (if m then now.cast_or_show same members n from given v t else refuse n from v.ballot t)
          (if m then cast_or_show_at_end same members n from given v t else refuse n from v.ballot t)
      go true None =
          apply_send n (to_others members n (Accepted v)) (run_from (suc (log_length counted.node)) counted.node.learner.learned) counted
      go true (Some k) = settle_rest n (show n from k t) rest
      go false given = refuses t from v.ballot rest
  ends_packet t from (Accepted v) inv free s rest = refl
  ends_packet t from (Nack b p) inv free s rest = settle_rest n (on_nack b p t) rest
  ends_packet t from (Forward es) inv free s rest =
      let a = proposes_each es t inv free rest in
      end_agrees n rest
      (record {
        is = ap (λ u. if is_leading t.node.proposer.role then u else t) a.is;
        calm = cond_both (is_leading t.node.proposer.role) (propose_each_at_end same members n es t) t (λ u. Calm t u) (λ d. a.calm)
            (λ d. calm_here t);
      })
  ends_packet t from (Ask slot) inv free s rest = answered (given_by t.node.rows.snapshot slot)
    where
      answered : (given : Option taken.Snapshot) → Ends (answer_ask n from slot given t) (answer_ask n from slot given t)
      answered None = settle_rest n (answer_ask n from slot None t) rest
      answered (Some k) = settle_rest n (answer_ask n from slot (Some k) t) rest
  ends_packet t from (Snapshot k) inv free s rest = refl
  ends_packet t from (Learned slot e) inv free s rest = refl

  pub ends_deliver : (t : Plan B) (from : ℕ) (kind : Kind B) → St t → Fr t → Sent (all t) from kind → AtRest t.node
      → Ends (now.on_packet same members n from kind (record t { node = saw kind t.node }))
      (deliver same members n from kind (record t { node = saw kind t.node }))
  ends_deliver t from kind inv free s rest =
      let g =
      role_path same equal members many at n before t inv t.node.proposer.role (saw kind t.node).proposer.seen
      (mine same equal members many at n before t inv).role in
      ends_packet (record t { node = saw kind t.node }) from kind g.going.inv
      (free_same same equal members many at n before t (record t { node = saw kind t.node }) g.going refl free) s rest

  -- other events

  pub ends_start : (t : Plan B) → AtRest t.node → Ends (on_start members n t) (on_start members n t)
  ends_start t rest =
      cond_both (starts n t.node) (begin members n b first t) t (λ u. Ends u u) (λ e. settle_rest n (begin members n b first t) rest)
      (λ e. settle_rest n t rest)
    where
      b : Ballot
      b = new_ballot n t.node.rows.promised t.node.proposer

      first : ℕ
      first = suc (log_length t.node)

  pub ends_tick : (t : Plan B) → St t → Fr t → AtRest t.node
      → Ends (now.on_tick same members n t) (on_tick_at_end same members n t)
  ends_tick t inv free rest =
      let a =
      sends same equal members many at n before t (again members n t.node.proposer.role t.node.learner) inv free
      (again_quiet same equal members many at n before (promises (with_node at n t.node)) t.node.rows.promised (own t) (all t)
      t.node.learner t.node.proposer.role (mine same equal members many at n before t inv).role) in
      let u = send (again members n t.node.proposer.role t.node.learner) t in
      let p = pushes u a.path.going.inv a.free rest in
      end_agrees {t = u} n rest
      (then_agrees (λ z. ask members n z) p
      (record { is = refl; calm = record { base = refl; learned = refl; log = refl; pending = refl } }))

  -- more is pending, and pushed
  pub ends_pending : (t : Plan B) (pending : List (Entry B)) (taken : ℕ) → St t → Fr t → AtRest t.node
      → Agrees (record t { node = record t.node { pending = pending; taken = taken } })
      (now.push same members n (record t { node = record t.node { pending = pending; taken = taken } }))
      (push_at_end same members n (record t { node = record t.node { pending = pending; taken = taken } }))
  ends_pending t pending taken inv free rest =
      let a = pending_step same equal members many at n before t inv free pending taken in
      pushes (record t { node = record t.node { pending = pending; taken = taken } }) a.path.going.inv a.free rest

  pub ends_take : (t : Plan B) (transport : ℕ) (body : B) → St t → Fr t → AtRest t.node
      → Ends (now.on_take same members n transport body t) (on_take_at_end same members n transport body t)
  ends_take t transport body inv free rest = go (takes t.node)
    where
      u : Plan B
      u = record t { node = with_item n transport body t.node }

      go : (m : Bool) → Ends (if m then now.push same members n u else t) (if m then push_at_end same members n u else t)
      go true = end_agrees {t = u} n rest (ends_pending t u.node.pending (suc t.node.taken) inv free rest)
      go false = settle_rest n t rest

  pub ends_suspect : (t : Plan B) (lost : Option (Entry B)) → St t → Fr t → AtRest t.node
      → Ends (now.suspected same members n lost t) (suspected_at_end same members n lost t)
  ends_suspect t None inv free rest = settle_rest n t rest
  ends_suspect t (Some lost) inv free rest = go (has_room t.node)
    where
      u : Plan B
      u = record t { node = with_pending (t.node.pending ++ lost ∷ []) t.node }

      go : (m : Bool) → Ends (if m then now.push same members n u else t) (if m then push_at_end same members n u else t)
      go true = end_agrees {t = u} n rest (ends_pending t u.node.pending t.node.taken inv free rest)
      go false = settle_rest n t rest

-- every world

module _ {B : Type 0} (same : B → B → Bool) (members : ℕ) where
  abbrev pub AllRest : World B → Type 0
  AllRest w = (k : ℕ) → AtRest (node_at w.nodes k)

  next_rest : (w : World B) (e : Event B) → AllRest w → AllRest (next same members w e)
  next_rest w e all =
      by_next same members (λ z. AllRest z) w e all
      (λ m k. ⊎_elim
      (λ (i : k ≡ owner e). subst (λ j. AtRest (node_at (put_node w.nodes (owner e) o.node) j)) (sym i)
      (subst (λ x. AtRest x) (sym (node_same w.nodes (owner e) o.node (within w.nodes e (owner e) m.1)))
      (rest_settled (owner e) (on_event same members e (begun (node_at w.nodes (owner e)))))))
      (λ i. subst (λ x. AtRest x) (sym (node_other w.nodes (owner e) o.node k i)) (all k))
      (cases_eq k (owner e)))
    where
      o : Plan B
      o = outcome_of same members e (node_at w.nodes (owner e))

  pub all_rest : (events : List (Event B)) → AllRest (played same members events)
  all_rest events =
      in_every same members (λ w. AllRest w) next_rest events (first_world members)
      (λ k. (λ i. run_from (suc (floor_in ((plain_at {B = B} members k).snapshot i) + length ((plain_at {B = B} members k).applied i)))
      ((plain_at {B = B} members k).learned i)))

module _ {B : Type 0} (same : B → B → Bool) (equal : IsEquality same) where
  as_at_once : (members : ℕ) (many : 2 ≤ members) (w : World B) (e : Event B) → WorldOk members w → AtRest (node_at w.nodes (owner e))
      → was_sent same e w.sent ≡ true → possible e (node_at w.nodes (owner e)) ≡ true
      → outcome_of same members e (node_at w.nodes (owner e)) ≡ now.outcome_at_once same members e (node_at w.nodes (owner e))
  as_at_once members many w (Take k t body) ok rest s p =
      let g = start_good same equal members many w k ok in
      ends_take same equal members many (node_at w.nodes) k w.sent (begun (node_at w.nodes k)) t body g.inv g.free rest
  as_at_once members many w (Tick k) ok rest s p =
      let g = start_good same equal members many w k ok in
      ends_tick same equal members many (node_at w.nodes) k w.sent (begun (node_at w.nodes k)) g.inv g.free rest
  as_at_once members many w (Start k) ok rest s p =
      ends_start same equal members many (node_at w.nodes) k w.sent (begun (node_at w.nodes k)) rest
  as_at_once members many w (Suspect k j) ok rest s p =
      let g = start_good same equal members many w k ok in
      ends_suspect same equal members many (node_at w.nodes) k w.sent (begun (node_at w.nodes k)) (new_lost same k j (node_at w.nodes k))
      g.inv g.free rest
  as_at_once members many w (Deliver q) ok rest s p =
      let g = start_good same equal members many w q.addressee ok in
      ends_deliver same equal members many (node_at w.nodes) q.addressee w.sent (begun (node_at w.nodes q.addressee)) q.sender q.kind
      g.inv g.free (sent_left [] (record { to = q.addressee; is = among_has same equal q w.sent s })) rest
  as_at_once members many w (Cut k o) ok rest s p =
      cut_rest k (begun (node_at w.nodes k)) o
      (and_parts (node_at w.nodes k).up (may_cut o (node_at w.nodes k)) p).1 rest
  as_at_once members many w (Crash k) ok rest s p = refl
  as_at_once members many w (Restart k) ok rest s p = refl

  pub applies_as_at_once : AppliesAsAtOnce B same
  applies_as_at_once members l events e t =
      let w = played same members events in
      as_at_once members (omega arith) w e (world_ok same equal members (omega arith) events) (all_rest same members events (owner e))
      (and_parts (was_sent same e w.sent) (possible e (node_at w.nodes (owner e))) t).0
      (and_parts (was_sent same e w.sent) (possible e (node_at w.nodes (owner e))) t).1
