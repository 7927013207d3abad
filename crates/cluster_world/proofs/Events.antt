-- The node's part of each event keeps the invariant.
use Rattle.std.proofs.Common.{◌≡◌, ⊎_elim, ℕ, suc, ◌+◌, ◌-◌, ◌<◌, ◌≤◌, Bool, true, false, not, ◌&&◌, ◌||◌, eqb, ltb, refl, sym, ap, ◌∙◌, subst, arith, List, []}
use Rattle.std.proofs.Common.{◌∷◌, ◌++◌, append_assoc, Option, Some, None}
use Rattle.std.specs.Prelude.{filter, if◌then◌else◌, nat_lt, nat_le, max, take}
use Rattle.std.proofs.lemmas.Bool.{cond_both, and_parts, lt-ltb}
use Rattle.cluster_world.proofs.Lists.{has_one, has_cases}
use Rattle.paxos_packets.specs.Ballot.{ballot_sound, below, same_ballot}
use Rattle.cluster_world.proofs.Invariant.{Sent, Known, Tells, IsChosen, RoleOk, PreparingOk, RoleFree, NodeOk, promises}
use Rattle.cluster_world.proofs.Growth.{tells_grows, role_free_grows}
use Rattle.cluster_world.proofs.InvariantKept.{sent_cases}
use Rattle.cluster_world.proofs.WithNode.{with_node, Kept, mine_ok}
use Rattle.cluster_world.proofs.Quiet.{QuietKind, quiet_moved}
use Rattle.cluster_world.proofs.AcceptorTests.{sent_nil, sent_one, sent_to_others, sent_to_some}
use Rattle.cluster_world.proofs.Active.{promise_moved, begin_moved, not_given}
use Rattle.cluster_world.proofs.Learner.{learner_of, with_learner_ok, learn_ok, agrees, vote_agrees}
use Rattle.cluster_world.proofs.Proposals.{silent, counted_ok, cast_kept, cast_agrees, neither, State, Going, FreeAt, Path, StepTo, Step, step_on, stay}
use Rattle.cluster_world.proofs.Proposals.{propose_step, recover_step}
use Rattle.cluster_world.proofs.Reports.{all_called, past_free, length-called_in, lowest_has}
use Rattle.cluster_world.specs.Has.{Has, here, there}
use Rattle.paxos_packets.specs.Members.{is_majority, others}
use Rattle.paxos_packets.specs.Packet.{packet, to_others}
use Rattle.paxos_packets.specs.Snapshot.{floor_in}
use Rattle.paxos_packets.specs.Snapshot as taken
use Rattle.paxos_packets.specs.declared.ballot.Ballot.{Ballot}
use Rattle.paxos_packets.specs.declared.entry.Entry.{Entry}
use Rattle.paxos_packets.specs.declared.packet.Kind.{Kind}
use Rattle.paxos_packets.specs.declared.packet.Packet.{Packet}
use Rattle.paxos_packets.specs.declared.vote.Vote.{Vote}
use Rattle.paxos_packets.specs.declared.packet.Kind.TheVariants.{Prepare, Promise, Accept, Accepted, Nack, Forward, Ask, Learned, Snapshot}
use Rattle.paxos_acceptor.specs.Acceptor.{may_promise, may_accept, promise_of, given_by}
use Rattle.std.specs.Option.{unwrap_or}
use Rattle.paxos_proposer.specs.declared.promises.CountedPromise.{CountedPromise}
use Rattle.paxos_proposer.specs.Role.{Role, Idle, Preparing, Leading}
use Rattle.paxos_proposer.specs.Proposer.{round_of, new_ballot, step_down, nacked, is_leading}
use Rattle.paxos_proposer.specs.Promises.{lowest}
use Rattle.paxos_proposer.specs.Reports.{is_counted, reports, past_reports, called_for}
use Rattle.paxos_learner.specs.declared.learned.LearnedEntry.{LearnedEntry}
use Rattle.paxos_learner.specs.Learner.{LearnerState, is_known, learn, disagrees, vote_disagrees}
use Rattle.paxos_planning.specs.Node.{NodeState, Plan, log_length}
use Rattle.paxos_planning.specs.Plan.{with_role, with_pending, with_learner, promised_at, counted_at, send, promise, count, hear_learned, cast}
use Rattle.paxos_planning.specs.Proposals.{propose, lead, stands, propose_new, propose_each, forwarded, push}
use Rattle.paxos_planning.specs.Replies.{saw, refuse, show, cast_or_show, on_prepare, on_accept, answer_ask, count_promise, on_promise_as, on_nack, on_forward, told_from, on_packet}
use Rattle.paxos_node.specs.Events.{takes, with_item, on_take, has_room, suspected}
use Rattle.paxos_planning.specs.Ticking.{accepts_again, again, ask, on_tick}
use Rattle.paxos_planning.specs.Starting.{begin, starts, on_start}
use Rattle.paxos_packets.specs.Body.{IsEquality}

module _ {B : Type 0} (same : B → B → Bool) (equal : IsEquality same) (members : ℕ) (many : 2 ≤ members) (at : ℕ → NodeState B) (n : ℕ)
    (before : List (Packet B)) where
  abbrev St : Plan B → Type 0
  St t = State same equal members many at n before t

  abbrev Fr : Plan B → Type 0
  Fr t = FreeAt same equal members many at n before t

  abbrev Go : Plan B → Plan B → Type 0
  Go t u = Going same equal members many at n before t u

  abbrev pub Way : ℕ → Plan B → Plan B → Type 0
  Way k t u = Path same equal members many at n before k t u

  abbrev pub ToBy : ℕ → Plan B → Plan B → Type 0
  ToBy k t u = StepTo same equal members many at n before k t u

  abbrev pub To : Plan B → Plan B → Type 0
  To t u = Step same equal members many at n before t u

  abbrev all : Plan B → List (Packet B)
  all t = before ++ t.packets

  -- its floor
  abbrev own : Plan B → ℕ
  own t = floor_in t.node.rows.snapshot

  abbrev now : Plan B → ℕ → Option Ballot
  now t = promises (with_node at n t.node)

  stood : (t : Plan B) → St t → Fr t → To t t
  stood t inv free = stay same equal members many at n before t inv free

  pub then_to : {k : ℕ} {t u v : Plan B} → ToBy k t u → To u v → ToBy k t v
  then_to s r = step_on same equal members many at n before s.path r

  -- a role that is no leader's, or the same
  pub free_same : (t u : Plan B) → Go t u → u.node.proposer.role ≡ t.node.proposer.role → Fr t → Fr u
  free_same t u g e f = subst (λ r. RoleFree members (now u) (all u) r) (sym e) (role_free_grows members g.grows t.node.proposer.role f)

  -- packets that promise and propose nothing new
  pub sends : (t : Plan B) (new : List (Packet B)) → St t → Fr t → ((k : ℕ) (kind : Kind B) → Sent new k kind → (k ≡ n) × QuietKind members (all t) n kind)
      → To t (send new t)
  sends t new inv free quiet =
      let g : Go t (send new t) = subst (λ l. Kept members at n t.node (all t) t.node l) (append_assoc before t.packets new)
      (quiet_moved members at n t.node t.node (all t) new inv refl (mine_ok members at n t.node (all t) inv) quiet) in
      record {
        path = record { going = g; agrees = λ e. e; stays = record { boot = refl; base = refl; up = refl; log = refl; news = refl; cut = refl; acts = refl } };
        free = free_same t (send new t) g refl free;
      }

  -- another node, and nothing sent
  pub turns : (t : Plan B) (y : NodeState B) → St t → t.node.rows.promised ≡ y.rows.promised → NodeOk members (now t) (all t) n y
      → Go t (record t { node = y })
  turns t y inv same_promise ok = silent members many at n t.node y (all t) inv same_promise ok

  pub mine : (t : Plan B) → St t → NodeOk members (now t) (all t) n t.node
  mine t inv = mine_ok members at n t.node (all t) inv

  -- another role
  with_role_ok : (t : Plan B) → St t → (r : Role B) (seen : ℕ) → RoleOk (now t) t.node.rows.promised (own t) (all t) n r
      → NodeOk members (now t) (all t) n (record t.node { proposer = record { role = r; seen = seen } })
  with_role_ok t inv r seen ok = let m = mine t inv in record { rows = m.rows; role = ok; heard = m.heard; learned = m.learned }

  pub role_path : (t : Plan B) → St t → (r : Role B) (seen : ℕ) → RoleOk (now t) t.node.rows.promised (own t) (all t) n r
      → Way t.node.taken t (record t { node = record t.node { proposer = record { role = r; seen = seen } } })
  role_path t inv r seen ok =
      record {
        going = turns t (record t.node { proposer = record { role = r; seen = seen } }) inv refl (with_role_ok t inv r seen ok);
        agrees = λ e. e;
        stays = record { boot = refl; base = refl; up = refl; log = refl; news = refl; cut = refl; acts = refl };
      }

  -- other pending entries
  pending_ok : (t : Plan B) → St t → (pending : List (Entry B)) (taken : ℕ)
      → NodeOk members (now t) (all t) n (record t.node { pending = pending; taken = taken })
  pending_ok t inv pending taken = let m = mine t inv in record { rows = m.rows; role = m.role; heard = m.heard; learned = m.learned }

  pub pending_step : (t : Plan B) → St t → Fr t → (pending : List (Entry B)) (taken : ℕ)
      → ToBy taken t (record t { node = record t.node { pending = pending; taken = taken } })
  pending_step t inv free pending taken =
      let g : Go t (record t { node = record t.node { pending = pending; taken = taken } }) =
      turns t (record t.node { pending = pending; taken = taken }) inv refl (pending_ok t inv pending taken) in
      record {
        path = record { going = g; agrees = λ e. e; stays = record { boot = refl; base = refl; up = refl; log = refl; news = refl; cut = refl; acts = refl } };
        free = free_same t (record t { node = record t.node { pending = pending; taken = taken } }) g refl free;
      }

  -- Prepare

  step_down_free : (promised : ℕ → Option Ballot) (sent : List (Packet B)) (b : Ballot) (r : Role B) → RoleFree members promised sent r
      → RoleFree members promised sent (step_down b r)
  step_down_free promised sent b Idle f = tt
  step_down_free promised sent b (Preparing c floor ps) f =
      cond_both (below c b) Idle (Preparing c floor ps) (λ r. RoleFree members promised sent r) (λ e. tt) (λ e. tt)
  step_down_free promised sent b (Leading c next table) f =
      cond_both (below c b) Idle (Leading c next table) (λ r. RoleFree members promised sent r) (λ e. tt) (λ e. f)

  refuse_step : (t : Plan B) (from : ℕ) (b : Ballot) → St t → Fr t → To t (refuse n from b t)
  refuse_step t from b inv free =
      sends t (packet n (Nack b p) from ∷ []) inv free
      (λ k kind s. let o = sent_one n from (Nack b p) k kind s in (o.0, subst (λ z. QuietKind members (all t) n z) o.1 tt))
    where
      p : Ballot
      p = unwrap_or t.node.rows.promised b

  prepare_step : (t : Plan B) (from : ℕ) (b : Ballot) (floor : ℕ) → St t → Fr t → Known (all t) (Prepare b floor) → To t (on_prepare n from b floor t)
  prepare_step t from b floor inv free known =
      cond_both (may_promise t.node.rows.promised b) u (refuse n from b t) (λ v. To t v)
      (λ e.
      let g : Go t u =
      subst (λ l. Kept members at n t.node (all t) (promised_at b t.node) l) (append_assoc before t.packets _)
      (promise_moved members at n t.node (all t) from b floor inv e known) in
      record {
        path = record { going = g; agrees = λ d. d; stays = record { boot = refl; base = refl; up = refl; log = refl; news = refl; cut = refl; acts = refl } };
        free = step_down_free (now u) (all u) b t.node.proposer.role (role_free_grows members g.grows t.node.proposer.role free);
      })
      (λ e. refuse_step t from b inv free)
    where
      u : Plan B
      u = send (packet n (promise_of t.node.rows b floor) from ∷ []) (promise b t)

  -- Accept

  show_step : (t : Plan B) (from : ℕ) (s : taken.Snapshot) → St t → Fr t → To t (show n from s t)
  show_step t from s inv free =
      sends t (packet n (Snapshot s) from ∷ []) inv free
      (λ k kind p. let o = sent_one n from (Snapshot s) k kind p in (o.0, subst (λ z. QuietKind members (all t) n z) o.1 tt))

  cast_step : (t : Plan B) (v : Vote B) → St t → Fr t → may_accept t.node.rows.promised v.ballot ≡ true
      → ((s : taken.Snapshot) → t.node.rows.snapshot ≡ Some s → s.floor < v.slot) → Known (all t) (Accept v) → To t (cast same members n v t)
  cast_step t v inv free may high known =
      let g : Go t (cast same members n v t) =
      subst (λ l. Kept members at n t.node (all t) (cast same members n v t).node l) (append_assoc before t.packets _)
      (cast_kept members many at n t.node (all t) v inv may high known) in
      record {
        path = record {
          going = g;
          agrees =
              λ d.
              neither t.disagrees (vote_disagrees same members n v t.node.learner) d
              (cast_agrees members many at n same equal t.node (all t) v inv may high known);
          stays = record { boot = refl; base = refl; up = refl; log = refl; news = refl; cut = refl; acts = refl };
        };
        free =
            step_down_free (now (cast same members n v t)) (all (cast same members n v t)) v.ballot t.node.proposer.role
            (role_free_grows members g.grows t.node.proposer.role free);
      }

  accept_step : (t : Plan B) (from : ℕ) (v : Vote B) → St t → Fr t → Known (all t) (Accept v) → To t (on_accept same members n from v t)
  accept_step t from v inv free known =
      cond_both (may_accept t.node.rows.promised v.ballot) (cast_or_show same members n from (given_by t.node.rows.snapshot v.slot) v t)
      (refuse n from v.ballot t) (λ u. To t u)
      (λ e. either e (given_by t.node.rows.snapshot v.slot) refl)
      (λ e. refuse_step t from v.ballot inv free)
    where
      either : may_accept t.node.rows.promised v.ballot ≡ true → (s : Option taken.Snapshot) → given_by t.node.rows.snapshot v.slot ≡ s
          → To t (cast_or_show same members n from s v t)
      either may None e = cast_step t v inv free may (not_given t.node.rows.snapshot v.slot e) known
      either may (Some s) e = show_step t from s inv free

  -- proposals and push

  pub propose_new_step : (e : Entry B) (t : Plan B) → St t → Fr t → To t (propose_new same members n e t)
  propose_new_step e t inv free =
      cond_both (stands same (log_length t.node) t.node.proposer.role e) t (propose same members n e t) (λ z. To t z)
      (λ d. stood t inv free)
      (λ d. propose_step same equal members many at n before t e inv free)

  propose_each_step : (es : List (Entry B)) (t : Plan B) → St t → Fr t → To t (propose_each same members n es t)
  propose_each_step [] t inv free = stood t inv free
  propose_each_step (e ∷ es) t inv free =
      let a = propose_new_step e t inv free in then_to a (propose_each_step es (propose_new same members n e t) a.path.going.inv a.free)

  forward_quiet : (sent : List (Packet B)) (o : Option Ballot) (es : List (Entry B)) (k : ℕ) (kind : Kind B) → Sent (forwarded n o es) k kind
      → (k ≡ n) × QuietKind members sent n kind
  forward_quiet sent None es k kind s = absurd (sent_nil k kind s)
  forward_quiet sent (Some p) [] k kind s = absurd (sent_nil k kind s)
  forward_quiet sent (Some p) (e ∷ es) k kind s =
      cond_both (eqb p.node n) [] (packet n (Forward (take 64 (e ∷ es))) p.node ∷ []) (λ l. Sent l k kind → (k ≡ n) × QuietKind members sent n kind)
      (λ t z. absurd (sent_nil k kind z))
      (λ t z. let o = sent_one n p.node (Forward (take 64 (e ∷ es))) k kind z in (o.0, subst (λ y. QuietKind members sent n y) o.1 tt))
      s

  pub push_step : (t : Plan B) → St t → Fr t → To t (push same members n t)
  push_step t inv free =
      cond_both (is_leading t.node.proposer.role) (propose_each same members n t.node.pending t) (send (forwarded n t.node.rows.promised t.node.pending) t)
      (λ z. To t z)
      (λ d. propose_each_step t.node.pending t inv free)
      (λ d. sends t (forwarded n t.node.rows.promised t.node.pending) inv free (forward_quiet (all t) t.node.rows.promised t.node.pending))

  -- Promise

  pub lead_step : (t : Plan B) (b : Ballot) (first : ℕ) (cs : List (CountedPromise B)) → St t
      → PreparingOk (now t) t.node.rows.promised (all t) n b first cs → is_majority members (is_counted cs) ≡ true
      → To t (lead same members n b (lowest first (own t) cs) (reports cs) t)
  lead_step t b first cs inv ok most =
      step_on same equal members many at n before g
      (recover_step same equal members many at n before (called_for low (reports cs)) u b low [] g.going.inv refl
      (all_called members (now u) (all u) b first cs most kept low is.0 is.2 (past_reports low (reports cs) - low) low (omega arith))
      (λ slot a z. past_free members (now u) (all u) b first cs most kept low is.0 is.2 slot (omega arith)
      (past slot (subst (λ l. low + l ≤ slot) (length-called_in (reports cs) low (past_reports low (reports cs) - low)) a))))
    where
      low : ℕ
      low = lowest first (own t) cs

      is : (first ≤ low) × (own t < low) × ((c : CountedPromise B) → Has cs c → c.floor < low)
      is = lowest_has first (own t) cs

      u : Plan B
      u = record t { node = with_role (Leading b low []) t.node }

      g : Way t.node.taken t u
      g =
          role_path t inv (Leading b low []) t.node.proposer.seen
          (record {
            owner = ok.owner;
            exact = ok.exact;
            high = is.1;
            made = λ v p e. absurd (ok.none v p e);
            own = λ v h. absurd (elim h [ ]);
            owned = λ v h. absurd (elim h [ ]);
          })

      kept : (c : CountedPromise B) → Has cs c → Tells (now u) (all u) c.node b first c.floor c.votes
      kept c h = tells_grows g.going.grows (ok.kept c h)

      past : (slot : ℕ) → low + (past_reports low (reports cs) - low) ≤ slot → past_reports low (reports cs) ≤ slot
      past slot a = omega arith

  count_promise_step : (t : Plan B) (b : Ballot) (first : ℕ) (cs : List (CountedPromise B)) → St t
      → PreparingOk (now t) t.node.rows.promised (all t) n b first cs → To t (count_promise same members n b first (own t) cs t)
  count_promise_step t b first cs inv ok =
      cond_both (is_majority members (is_counted cs)) (push same members n (lead same members n b (lowest first (own t) cs) (reports cs) t))
      (record t { node = with_role (Preparing b first cs) t.node }) (λ u. To t u)
      (λ e. let a = lead_step t b first cs inv ok e in
      then_to a (push_step (lead same members n b (lowest first (own t) cs) (reports cs) t) a.path.going.inv a.free))
      (λ e. record { path = role_path t inv (Preparing b first cs) t.node.proposer.seen ok; free = tt })

  -- one promise more
  pub promised_ok : (t : Plan B) (from : ℕ) (b : Ballot) (floor : ℕ) (votes : List (Vote B)) → St t → Sent (all t) from (Promise b floor votes)
      → (c : Ballot) (first : ℕ) (cs : List (CountedPromise B)) → t.node.proposer.role ≡ Preparing c first cs → b ≡ c
      → PreparingOk (now t) t.node.rows.promised (all t) n c first (cs ++ record { node = from; floor = floor; votes = votes } ∷ [])
  promised_ok t from b floor votes inv s c first cs is e =
      record {
        owner = ok.owner;
        exact = ok.exact;
        only = ok.only;
        asked = ok.asked;
        none = ok.none;
        kept =
            λ d h. ⊎_elim (λ o. ok.kept d o)
            (λ o. subst (λ (z : CountedPromise B). Tells (now t) (all t) z.node c first z.floor z.votes) (has_one o) tells)
            (has_cases cs (record { node = from; floor = floor; votes = votes } ∷ []) h);
      }
    where
      ok : PreparingOk (now t) t.node.rows.promised (all t) n c first cs
      ok = subst (λ r. RoleOk (now t) t.node.rows.promised (own t) (all t) n r) is (mine t inv).role

      tells : Tells (now t) (all t) from c first floor votes
      tells =
          let told = inv.packets.told from b floor votes s in
          let here' = subst (λ z. Known (all t) (Prepare z told.first)) e told.asked in
          subst (λ f. Tells (now t) (all t) from c f floor votes) (ok.only told.first here')
          (subst (λ z. Tells (now t) (all t) from z told.first floor votes) e told.tells)

  promise_step : (t : Plan B) (from : ℕ) (b : Ballot) (floor : ℕ) (votes : List (Vote B)) → St t → Fr t
      → Sent (all t) from (Promise b floor votes) → (r : Role B) → t.node.proposer.role ≡ r
      → To t (on_promise_as same members n from b floor votes r t)
  promise_step t from b floor votes inv free s Idle is = stood t inv free
  promise_step t from b floor votes inv free s (Leading c next table) is = stood t inv free
  promise_step t from b floor votes inv free s (Preparing c first cs) is =
      cond_both (same_ballot b c && not (is_counted cs from)) (count_promise same members n c first (own t) more t) t
      (λ u. To t u)
      (λ e. count_promise_step t c first more inv
      (promised_ok t from b floor votes inv s c first cs is (ballot_sound b c (and_parts (same_ballot b c) (not (is_counted cs from)) e).0)))
      (λ e. stood t inv free)
    where
      more : List (CountedPromise B)
      more = cs ++ record { node = from; floor = floor; votes = votes } ∷ []

  -- Nack

  nacked_ok : (promised : ℕ → Option Ballot) (m : Option Ballot) (f : ℕ) (sent : List (Packet B)) (b p : Ballot) (r : Role B) → RoleOk promised m f sent n r
      → RoleOk promised m f sent n (nacked b p r)
  nacked_ok promised m f sent b p Idle ok = tt
  nacked_ok promised m f sent b p (Preparing c floor cs) ok =
      cond_both (same_ballot b c && below c p) Idle (Preparing c floor cs) (λ r. RoleOk promised m f sent n r) (λ e. tt) (λ e. ok)
  nacked_ok promised m f sent b p (Leading c next table) ok =
      cond_both (same_ballot b c && below c p) Idle (Leading c next table) (λ r. RoleOk promised m f sent n r) (λ e. tt) (λ e. ok)

  nacked_free : (promised : ℕ → Option Ballot) (sent : List (Packet B)) (b p : Ballot) (r : Role B) → RoleFree members promised sent r
      → RoleFree members promised sent (nacked b p r)
  nacked_free promised sent b p Idle f = tt
  nacked_free promised sent b p (Preparing c floor ps) f =
      cond_both (same_ballot b c && below c p) Idle (Preparing c floor ps) (λ r. RoleFree members promised sent r) (λ e. tt) (λ e. tt)
  nacked_free promised sent b p (Leading c next table) f =
      cond_both (same_ballot b c && below c p) Idle (Leading c next table) (λ r. RoleFree members promised sent r) (λ e. tt) (λ e. f)

  nack_step : (t : Plan B) (b p : Ballot) → St t → Fr t → To t (on_nack b p t)
  nack_step t b p inv free =
      let g =
      role_path t inv (nacked b p t.node.proposer.role) t.node.proposer.seen
      (nacked_ok (now t) t.node.rows.promised (own t) (all t) b p t.node.proposer.role (mine t inv).role) in
      record {
        path = g;
        free = nacked_free (now (on_nack b p t)) (all t) b p t.node.proposer.role (role_free_grows members g.going.grows t.node.proposer.role free);
      }

  -- Accepted, Learned, Ask, Forward

  accepted_step : (t : Plan B) (from : ℕ) (v : Vote B) → St t → Fr t → Sent (all t) from (Accepted v) → To t (count same members from v t)
  accepted_step t from v inv free s =
      let g : Go t (count same members from v t) =
      turns t (counted_at members from v t.node) inv refl (counted_ok members many at n t.node (all t) from v inv s) in
      record {
        path = record {
          going = g;
          agrees =
              λ d.
              neither t.disagrees (vote_disagrees same members from v t.node.learner) d
              (vote_agrees members (now t) (all t) n same equal t.node.learner from v inv.packets
              (learner_of members (now t) (all t) n t.node (mine t inv)) s);
          stays = record { boot = refl; base = refl; up = refl; log = refl; news = refl; cut = refl; acts = refl };
        };
        free = free_same t (count same members from v t) g refl free;
      }

  learned_step : (t : Plan B) (slot : ℕ) (e : Entry B) → St t → Fr t → Known (all t) (Learned slot e) → To t (hear_learned same slot e t)
  learned_step t slot e inv free known =
      let chosen = inv.packets.learned slot e known in
      let lo = learner_of members (now t) (all t) n t.node (mine t inv) in
      let g : Go t (hear_learned same slot e t) = turns t (with_learner (learn slot e t.node.learner) t.node) inv refl
      (with_learner_ok members (now t) (all t) n t.node (learn slot e t.node.learner) (mine t inv)
      (learn_ok members (now t) (all t) n t.node.learner slot e lo chosen))
      in
      record {
        path = record {
          going = g;
          agrees =
              λ d.
              neither t.disagrees (disagrees same slot e t.node.learner) d
              (agrees members (now t) (all t) n same equal t.node.learner slot e inv.packets lo chosen);
          stays = record { boot = refl; base = refl; up = refl; log = refl; news = refl; cut = refl; acts = refl };
        };
        free = free_same t (hear_learned same slot e t) g refl free;
      }

  told_quiet : (sent : List (Packet B)) (to slot : ℕ) (fs : List (LearnedEntry B))
      → ((f : LearnedEntry B) → Has fs f → IsChosen members sent f.slot f.entry) → (k : ℕ) (kind : Kind B) → Sent (told_from n to slot fs) k kind
      → (k ≡ n) × QuietKind members sent n kind
  told_quiet sent to slot [] ok k kind s = absurd (sent_nil k kind s)
  told_quiet sent to slot (f ∷ fs) ok k kind s =
      ⊎_elim
      (λ a. cond_both (nat_le slot f.slot && nat_lt f.slot (slot + 64)) (packet n (Learned f.slot f.entry) to ∷ []) []
      (λ l. Sent l k kind → (k ≡ n) × QuietKind members sent n kind)
      (λ e c. let o = sent_one n to (Learned f.slot f.entry) k kind c in (o.0, subst (λ z. QuietKind members sent n z) o.1 (ok f here)))
      (λ e c. absurd (sent_nil k kind c))
      a)
      (λ b. told_quiet sent to slot fs (λ g h. ok g (there h)) k kind b)
      (sent_cases (if nat_le slot f.slot && nat_lt f.slot (slot + 64) then packet n (Learned f.slot f.entry) to ∷ [] else []) (told_from n to slot fs) s)

  tell_step : (t : Plan B) (from slot : ℕ) → St t → Fr t → To t (send (told_from n from slot t.node.learner.learned) t)
  tell_step t from slot inv free =
      sends t (told_from n from slot t.node.learner.learned) inv free (told_quiet (all t) from slot t.node.learner.learned (mine t inv).learned)

  ask_step : (t : Plan B) (from slot : ℕ) → St t → Fr t → (s : Option taken.Snapshot) → To t (answer_ask n from slot s t)
  ask_step t from slot inv free None = tell_step t from slot inv free
  ask_step t from slot inv free (Some s) =
      let a = show_step t from s inv free in then_to a (tell_step (show n from s t) from (suc s.floor) a.path.going.inv a.free)

  forward_step : (t : Plan B) (es : List (Entry B)) → St t → Fr t → To t (on_forward same members n es t)
  forward_step t es inv free =
      cond_both (is_leading t.node.proposer.role) (propose_each same members n es t) t (λ z. To t z) (λ d. propose_each_step es t inv free)
      (λ d. stood t inv free)

  packet_step : (t : Plan B) (from : ℕ) (kind : Kind B) → St t → Fr t → Sent (all t) from kind → To t (on_packet same members n from kind t)
  packet_step t from (Prepare b floor) inv free s = prepare_step t from b floor inv free (record { by = from; is = s })
  packet_step t from (Promise b floor votes) inv free s = promise_step t from b floor votes inv free s t.node.proposer.role refl
  packet_step t from (Accept v) inv free s = accept_step t from v inv free (record { by = from; is = s })
  packet_step t from (Accepted v) inv free s = accepted_step t from v inv free s
  packet_step t from (Nack b p) inv free s = nack_step t b p inv free
  packet_step t from (Forward es) inv free s = forward_step t es inv free
  packet_step t from (Ask slot) inv free s = ask_step t from slot inv free (given_by t.node.rows.snapshot slot)
  packet_step t from (Snapshot k) inv free s = stood t inv free
  packet_step t from (Learned slot e) inv free s = learned_step t slot e inv free (record { by = from; is = s })

  -- Deliver

  pub saw_step : (t : Plan B) (kind : Kind B) → St t → Fr t → To t (record t { node = saw kind t.node })
  saw_step t kind inv free =
      let g = role_path t inv t.node.proposer.role (saw kind t.node).proposer.seen (mine t inv).role in
      record { path = g; free = free_same t (record t { node = saw kind t.node }) g.going refl free }

  pub deliver_step : (t : Plan B) (from : ℕ) (kind : Kind B) → St t → Fr t → Sent (all t) from kind
      → To t (on_packet same members n from kind (record t { node = saw kind t.node }))
  deliver_step t from kind inv free s =
      let a = saw_step t kind inv free in
      then_to a (packet_step (record t { node = saw kind t.node }) from kind a.path.going.inv a.free s)

  -- Start

  start_may : (o : Option Ballot) (seen : ℕ) → may_promise o (record { round = suc (max seen (round_of o)); node = n }) ≡ true
  start_may None seen = refl
  start_may (Some p) seen = or_left' (eqb p.round (suc (max seen p.round)) && ltb p.node n) (lt-ltb p.round (suc (max seen p.round)) (omega arith))
    where
      or_left' : {a : Bool} (b : Bool) → a ≡ true → (a || b) ≡ true
      or_left' b e = rw e refl

  pub start_step : (t : Plan B) → St t → Fr t → To t (on_start members n t)
  start_step t inv free =
      cond_both (starts n t.node) (begin members n b floor t) t (λ u. To t u)
      (λ e. record {
        path = record {
          going = subst (λ l. Kept members at n t.node (all t) (begin members n b floor t).node l) (append_assoc before t.packets _)
              (begin_moved members at n t.node (all t) b floor many inv (start_may t.node.rows.promised t.node.proposer.seen) refl);
          agrees = λ d. d;
          stays = record { boot = refl; base = refl; up = refl; log = refl; news = refl; cut = refl; acts = refl };
        };
        free = tt;
      })
      (λ e. stood t inv free)
    where
      b : Ballot
      b = new_ballot n t.node.rows.promised t.node.proposer

      floor : ℕ
      floor = suc (log_length t.node)

  -- Tick

  offers_quiet : (sent : List (Packet B)) (l : LearnerState B) (vs : List (Vote B))
      → ((v : Vote B) → Has vs v → (v.ballot.node ≡ n) × Known sent (Accept v)) → (k : ℕ) (kind : Kind B) → Sent (accepts_again members n l vs) k kind
      → (k ≡ n) × QuietKind members sent n kind
  offers_quiet sent l [] ok k kind s = absurd (sent_nil k kind s)
  offers_quiet sent l (v ∷ vs) ok k kind s =
      ⊎_elim
      (λ b. cond_both (is_known v.slot l) [] (to_others members n (Accept v)) (λ ps. Sent ps k kind → (k ≡ n) × QuietKind members sent n kind)
      (λ t c. absurd (sent_nil k kind c))
      (λ t c. let o = sent_to_others members n (Accept v) k kind c in (o.0, subst (λ z. QuietKind members sent n z) o.1 (ok v here)))
      b)
      (λ a. offers_quiet sent l vs (λ w h. ok w (there h)) k kind a)
      (sent_cases (if is_known v.slot l then [] else to_others members n (Accept v)) (accepts_again members n l vs) s)

  pub again_quiet : (promised : ℕ → Option Ballot) (o : Option Ballot) (f : ℕ) (sent : List (Packet B)) (l : LearnerState B) (r : Role B)
      → RoleOk promised o f sent n r → (k : ℕ) (kind : Kind B) → Sent (again members n r l) k kind → (k ≡ n) × QuietKind members sent n kind
  again_quiet promised o f sent l Idle ok k kind s = absurd (sent_nil k kind s)
  again_quiet promised o f sent l (Preparing b floor cs) ok k kind s =
      let z = sent_to_some n (filter (λ j. not (is_counted cs j)) (others n members)) (Prepare b floor) k kind s in
      (z.0, subst (λ y. QuietKind members sent n y) z.1 (ok.owner, ok.asked))
  again_quiet promised o f sent l (Leading b next table) ok k kind s =
      offers_quiet sent l table (λ v h. (ap (λ (z : Ballot). z.node) (ok.owned v h) ∙ ok.owner, ok.own v h)) k kind s

  asks_step : (t : Plan B) → St t → Fr t → To t (ask members n t)
  asks_step t inv free =
      sends t (to_others members n (Ask slot)) inv free
      (λ k kind s. let o = sent_to_others members n (Ask slot) k kind s in (o.0, subst (λ y. QuietKind members (all t) n y) o.1 tt))
    where
      slot : ℕ
      slot = suc (log_length t.node)

  pub tick_step : (t : Plan B) → St t → Fr t → To t (on_tick same members n t)
  tick_step t inv free =
      let a =
      sends t (again members n t.node.proposer.role t.node.learner) inv free
      (again_quiet (now t) t.node.rows.promised (own t) (all t) t.node.learner t.node.proposer.role (mine t inv).role) in
      let b = push_step (send (again members n t.node.proposer.role t.node.learner) t) a.path.going.inv a.free in
      then_to a (then_to b (asks_step (push same members n (send (again members n t.node.proposer.role t.node.learner) t)) b.path.going.inv b.free))

  -- Take and Suspect

  pub take_step : (t : Plan B) (transport : ℕ) (body : B) → St t → Fr t
      → ToBy (if takes t.node then suc t.node.taken else t.node.taken) t (on_take same members n transport body t)
  take_step t transport body inv free = go (takes t.node) refl
    where
      u : Plan B
      u = record t { node = with_item n transport body t.node }

      go : (b : Bool) → takes t.node ≡ b → ToBy (if b then suc t.node.taken else t.node.taken) t (if b then push same members n u else t)
      go true e =
          let a = pending_step t inv free (with_item n transport body t.node).pending (suc t.node.taken) in then_to a (push_step u a.path.going.inv a.free)
      go false e = stood t inv free

  pub suspect_step : (t : Plan B) (lost : Option (Entry B)) → St t → Fr t → To t (suspected same members n lost t)
  suspect_step t None inv free = stood t inv free
  suspect_step t (Some lost) inv free =
      cond_both (has_room t.node) (push same members n u) t (λ z. To t z)
      (λ d. let a = pending_step t inv free (t.node.pending ++ lost ∷ []) t.node.taken in then_to a (push_step u a.path.going.inv a.free))
      (λ d. stood t inv free)
    where
      u : Plan B
      u = record t { node = with_pending (t.node.pending ++ lost ∷ []) t.node }
