-- A member alone, or none: nothing is ever sent, learned or applied.
use Rattle.std.proofs.Common.{◌≡◌, ⊎_elim, ℕ, suc, ◌<◌, ◌≤◌, Bool, true, false, not, ◌&&◌, eqb, refl, sym, ap, ◌∙◌, subst, arith}
use Rattle.std.proofs.Common.{List, [], ◌∷◌, ◌++◌, length, map, Option, Some, None}
use Rattle.std.specs.Prelude.{filter, take, nat_lt, ◌==◌}
use Rattle.std.proofs.lemmas.Bool.{cond_both, cond-true, cases_eq, and_parts, eq-eqb}
use Rattle.cluster_world.proofs.EveryWorld.{within, node_same, node_other}
use Rattle.cluster_world.proofs.Lists.{has_nil, has_one, has_cases}
use Rattle.cluster_world.proofs.Taking.{May, by_next, in_every, next_length, founded_length, founded_each}
use Rattle.cluster_world.specs.Answers.{log_after}
use Rattle.cluster_world.specs.Has.{Has, here, there}
use Rattle.cluster_world.specs.World.{Applied, World, absent, node_at, put_node, first_world, was_sent, next, played, under, log_of}
use Rattle.cluster_world.specs.World.{log_before, handed_at, handed_in, handed}
use Rattle.paxos_packets.specs.Members.{others}
use Rattle.paxos_packets.specs.Packet.{packet, to_others}
use Rattle.paxos_packets.specs.Rows.{raised, first_rows}
use Rattle.paxos_packets.specs.Snapshot as taken
use Rattle.paxos_packets.specs.Transport.{same_transport}
use Rattle.paxos_packets.specs.declared.ballot.Ballot.{Ballot}
use Rattle.paxos_packets.specs.declared.entry.Entry.{Entry}
use Rattle.paxos_packets.specs.declared.packet.Kind.TheVariants.{Prepare, Forward, Ask}
use Rattle.paxos_packets.specs.declared.packet.Packet.{Packet}
use Rattle.paxos_packets.specs.declared.transport.Transport.{Transport}
use Rattle.paxos_learner.specs.Learner.{LearnerState, run_from}
use Rattle.paxos_proposer.specs.Proposer.{is_leading, new_ballot}
use Rattle.paxos_proposer.specs.Role.{Role, Idle, Preparing, Leading}
use Rattle.paxos_proposer.specs.Reports.{is_counted}
use Rattle.replica_machine.specs.Replay.{Machine, sayings_behind}
use Rattle.replica_machine.specs.Snapshot.{head_at}
use Rattle.paxos_node.specs.declared.event.Event.{Event}
use Rattle.paxos_node.specs.declared.event.Event.TheVariants.{Take, Tick, Start, Suspect, Deliver, Cut, Crash, Restart}
use Rattle.paxos_node.specs.Applying.{started, go_down, apply_all, settle}
use Rattle.paxos_node.specs.Events.{takes, with_item, has_room, new_lost, suspected, owner, possible, on_event, outcome_of}
use Rattle.paxos_node.specs.Snapshots.{is_head_of, may_cut}
use Rattle.paxos_planning.specs.Node.{NodeState, Plan, log_length}
use Rattle.paxos_planning.specs.Plan.{with_pending, begun, send}
use Rattle.paxos_planning.specs.Proposals.{propose_each, forwarded, push}
use Rattle.paxos_planning.specs.Starting.{begin, starts, on_start}
use Rattle.paxos_planning.specs.Ticking.{again, ask}

off : false ≡ true → ⊥
off e = cc

-- a node that leads no one: it promised no ballot but its own, and has learned nothing
pub record Idles {B : Type 0} (k : ℕ) (x : NodeState B) : Type 0 where
  pub role : is_leading x.proposer.role ≡ false
  pub promised : (p : Ballot) → x.rows.promised ≡ Some p → p.node ≡ k
  pub snapshot : x.rows.snapshot ≡ None
  pub learned : x.learner.learned ≡ []
  pub applied : x.applied ≡ []

record IdlePlan {B : Type 0} (k : ℕ) (t : Plan B) : Type 0 where
  node : Idles k t.node
  packets : t.packets ≡ []
  applied : t.applied ≡ []

no_ballot : (p : Ballot) → ◌≡◌ {A = Option Ballot} None (Some p) → ⊥
no_ballot p e = cc

none_started : {B : Type 0} (k : ℕ) → Idles {B = B} k (started k first_rows)
none_started k = record { role = refl; promised = λ p e. absurd (no_ballot p e); snapshot = refl; learned = refl; applied = refl }

none_absent : {B : Type 0} (k : ℕ) → Idles {B = B} k absent
none_absent k = record { role = refl; promised = λ p e. absurd (no_ballot p e); snapshot = refl; learned = refl; applied = refl }

module _ {B : Type 0} (same : B → B → Bool) (members : ℕ) where
  begun_idle : (k : ℕ) (x : NodeState B) → Idles k x → IdlePlan k (begun x)
  begun_idle k x i = record { node = i; packets = refl; applied = refl }

  forwards_none : (k : ℕ) (o : Option Ballot) (es : List (Entry B)) → ((p : Ballot) → o ≡ Some p → p.node ≡ k) → forwarded k o es ≡ []
  forwards_none k None es h = refl
  forwards_none k (Some p) [] h = refl
  forwards_none k (Some p) (e ∷ es) h =
      cond-true (eqb p.node k) [] (packet k (Forward (take 64 (e ∷ es))) p.node ∷ []) (eq-eqb p.node k (h p refl))

  sends_none : (k : ℕ) (ps : List (Packet B)) (t : Plan B) → ps ≡ [] → IdlePlan k t → IdlePlan k (send ps t)
  sends_none k ps t none i =
      record { node = i.node; packets = ap (λ l. l ++ ps) i.packets ∙ none; applied = i.applied }

  pushes_none : (k : ℕ) (t : Plan B) → IdlePlan k t → IdlePlan k (push same members k t)
  pushes_none k t i =
      cond_both (is_leading t.node.proposer.role) (propose_each same members k t.node.pending t)
      (send (forwarded k t.node.rows.promised t.node.pending) t) (λ u. IdlePlan k u)
      (λ e. absurd (off (sym i.node.role ∙ e)))
      (λ e. sends_none k (forwarded k t.node.rows.promised t.node.pending) t
      (forwards_none k t.node.rows.promised t.node.pending i.node.promised) i)

  settles_none : (k : ℕ) (t : Plan B) → IdlePlan k t → IdlePlan k (settle k t)
  settles_none k t i =
      subst (λ u. IdlePlan k u) (sym (ap (λ fs. apply_all k (run_from (suc (log_length t.node)) fs) t) i.node.learned)) i

  pending_idle : (k : ℕ) (pending : List (Entry B)) (count : ℕ) (t : Plan B) → IdlePlan k t
      → IdlePlan k (record t { node = record t.node { pending = pending; taken = count } })
  pending_idle k pending count t i =
      record {
        node =
            record {
              role = i.node.role;
              promised = i.node.promised;
              snapshot = i.node.snapshot;
              learned = i.node.learned;
              applied = i.node.applied;
            };
        packets = i.packets;
        applied = i.applied;
      }

  -- to no others
  module _ (k : ℕ) (alone : others k members ≡ []) where
    again_none : (r : Role B) (l : LearnerState B) → is_leading r ≡ false → again members k r l ≡ []
    again_none Idle l h = refl
    again_none (Preparing b first promises) l h = ap (λ ks. map (packet k (Prepare b first)) (filter (λ j. not (is_counted promises j)) ks)) alone
    again_none (Leading b next table) l h = absurd (off (sym h))

    event_idle : (e : Event B) (x : NodeState B) → owner e ≡ k → ((p : Packet B) → e ≡ Deliver p → ⊥) → possible e x ≡ true → Idles k x
        → IdlePlan k (outcome_of same members e x)
    event_idle e x is undelivered may i = go e is undelivered may
      where
        start : IdlePlan k (begun x)
        start = begun_idle k x i

        at : (n : ℕ) (t : Plan B) → n ≡ k → IdlePlan k t → IdlePlan k (settle n t)
        at n t j h = subst (λ m. IdlePlan k (settle m t)) (sym j) (settles_none k t h)

        pushed : (n : ℕ) (t : Plan B) → n ≡ k → IdlePlan k t → IdlePlan k (push same members n t)
        pushed n t j h = subst (λ m. IdlePlan k (push same members m t)) (sym j) (pushes_none k t h)

        asked : (n : ℕ) (t : Plan B) → n ≡ k → IdlePlan k t → IdlePlan k (ask members n t)
        asked n t j h =
            subst (λ m. IdlePlan k (ask members m t)) (sym j)
            (sends_none k (to_others members k (Ask (suc (log_length t.node)))) t
            (ap (λ ks. map (packet k (Ask (suc (log_length t.node)))) ks) alone) h)

        again_sent : (n : ℕ) → n ≡ k → IdlePlan k (send (again members n x.proposer.role x.learner) (begun x))
        again_sent n j =
            subst (λ m. IdlePlan k (send (again members m x.proposer.role x.learner) (begun x))) (sym j)
            (sends_none k (again members k x.proposer.role x.learner) (begun x) (again_none x.proposer.role x.learner i.role) start)

        takes_none : (n t : ℕ) (body : B) → n ≡ k → IdlePlan k (on_event same members (Take n t body) (begun x))
        takes_none n t body j =
            cond_both (takes x) (push same members n (record (begun x) { node = with_item n t body x })) (begun x) (λ u. IdlePlan k u)
            (λ h. pushed n (record (begun x) { node = with_item n t body x }) j
            (pending_idle k (with_item n t body x).pending (suc x.taken) (begun x) start))
            (λ h. start)

        suspects_none : (n : ℕ) (o : Option (Entry B)) → n ≡ k → IdlePlan k (suspected same members n o (begun x))
        suspects_none n None j = start
        suspects_none n (Some l) j =
            cond_both (has_room x) (push same members n (record (begun x) { node = with_pending (x.pending ++ l ∷ []) x })) (begun x)
            (λ u. IdlePlan k u)
            (λ h. pushed n (record (begun x) { node = with_pending (x.pending ++ l ∷ []) x }) j
            (pending_idle k (x.pending ++ l ∷ []) x.taken (begun x) start))
            (λ h. start)

        begins_none : (n : ℕ) → n ≡ k → IdlePlan k (on_start members n (begun x))
        begins_none n j =
            cond_both (starts n x) (begin members n b first (begun x)) (begun x) (λ u. IdlePlan k u)
            (λ h. record {
              node =
                  record {
                    role = refl;
                    promised = λ p d. ap (λ (z : Ballot). z.node) (sym (same_ballot p d)) ∙ j;
                    snapshot = i.snapshot;
                    learned = i.learned;
                    applied = i.applied;
                  };
              packets = ap (λ m. map (packet n (Prepare b first)) (others m members)) j ∙ ap (λ ks. map (packet n (Prepare b first)) ks) alone;
              applied = refl;
            })
            (λ h. start)
          where
            b : Ballot
            b = new_ballot n x.rows.promised x.proposer

            first : ℕ
            first = suc (log_length x)

            same_ballot : (p : Ballot) → Some b ≡ Some p → b ≡ p
            same_ballot p d = cc

        cannot_cut : (o : Option taken.Snapshot) → may_cut o x ≡ true → ⊥
        cannot_cut None h = off h
        cannot_cut (Some s) h =
            off
            (sym (ap (λ l. nat_lt 0 (length l)) i.applied)
            ∙ (and_parts (nat_lt 0 (length x.applied)) ((s.floor == log_length x) && is_head_of x (head_at s.octets)) h).0)

        go : (f : Event B) → owner f ≡ k → ((p : Packet B) → f ≡ Deliver p → ⊥) → possible f x ≡ true → IdlePlan k (outcome_of same members f x)
        go (Take n t body) j d p = at n (on_event same members (Take n t body) (begun x)) j (takes_none n t body j)
        go (Tick n) j d p =
            at n (on_event same members (Tick n) (begun x)) j
            (asked n (push same members n (send (again members n x.proposer.role x.learner) (begun x))) j
            (pushed n (send (again members n x.proposer.role x.learner) (begun x)) j (again_sent n j)))
        go (Start n) j d p = at n (on_event same members (Start n) (begun x)) j (begins_none n j)
        go (Suspect n other) j d p =
            at n (on_event same members (Suspect n other) (begun x)) j (suspects_none n (new_lost same n other x) j)
        go (Deliver q) j d p = absurd (d q refl)
        go (Cut n o) j d p = absurd (cannot_cut o (and_parts x.up (may_cut o x) p).1)
        go (Crash n) j d p =
            at n (go_down (begun x)) j
            (record {
              node = record { role = refl; promised = i.promised; snapshot = i.snapshot; learned = refl; applied = refl };
              packets = refl;
              applied = refl;
            })
        go (Restart n) j d p =
            at n (record (begun x) { node = started n (raised x.rows) }) j
            (record {
              node = record { role = refl; promised = i.promised; snapshot = i.snapshot; learned = refl; applied = refl };
              packets = refl;
              applied = refl;
            })

  -- a world of one node, or none

  pub record AllIdle (w : World B) : Type 0 where
    pub nodes : length w.nodes ≡ members
    pub each : (k : ℕ) → Idles k (node_at w.nodes k)
    pub sent : w.sent ≡ []
    pub applied : (a : Applied B) → Has w.applied a → a.entries ≡ []

  pub undelivered : (w : World B) (e : Event B) → w.sent ≡ [] → was_sent same e w.sent ≡ true → (p : Packet B) → e ≡ Deliver p → ⊥
  undelivered w e none s p i = off (sym (ap (λ ps. was_sent same (Deliver p) ps) none) ∙ (ap (λ f. was_sent same f w.sent) (sym i) ∙ s))

  module _ (few : members ≤ 1) where
    no_others : (k i : ℕ) → k ≡ suc i → i < members → others k members ≡ []
    no_others k i is l = ap (λ j. others k j) one ∙ cond-true (eqb 1 k) [] (1 ∷ []) (eq-eqb 1 k (first i members is l few))
      where
        one : members ≡ 1
        one = omega arith

        first : (j m : ℕ) → k ≡ suc j → j < m → m ≤ 1 → 1 ≡ k
        first j m a b c = omega arith

    idle_at : (w : World B) (e : Event B) → AllIdle w → May same members w e → IdlePlan (owner e) (outcome_of same members e (node_at w.nodes (owner e)))
    idle_at w e all m =
        let l = within w.nodes e (owner e) m.1 in
        event_idle (owner e) (no_others (owner e) l.i l.is (subst (λ n. l.i < n) all.nodes l.low)) e (node_at w.nodes (owner e)) refl
        (undelivered w e all.sent m.0) m.1 (all.each (owner e))

    next_idle : (w : World B) (e : Event B) → AllIdle w → AllIdle (next same members w e)
    next_idle w e all =
        by_next same members (λ z. length z.nodes ≡ members → AllIdle z) w e (λ n. all)
        (λ m n. let t = idle_at w e all m in
        record {
          nodes = n;
          each = λ k. ⊎_elim
              (λ (i : k ≡ owner e). subst (λ j. Idles j (node_at (put_node w.nodes (owner e) (goes m).node) j)) (sym i)
              (subst (λ x. Idles (owner e) x) (sym (node_same w.nodes (owner e) (goes m).node (within w.nodes e (owner e) m.1))) t.node))
              (λ i. subst (λ x. Idles k x) (sym (node_other w.nodes (owner e) (goes m).node k i)) (all.each k))
              (cases_eq k (owner e));
          sent = ap (λ ps. ps ++ (goes m).packets) all.sent ∙ t.packets;
          applied = λ a h. ⊎_elim (λ i. all.applied a i) (λ i. ap (λ (b : Applied B). b.entries) (sym (has_one i)) ∙ t.applied)
              (has_cases w.applied _ h);
        })
        (next_length same members w e all.nodes)
      where
        goes : May same members w e → Plan B
        goes m = outcome_of same members e (node_at w.nodes (owner e))

    pub all_idle : (events : List (Event B)) → AllIdle (played same members events)
    all_idle events =
        in_every same members (λ w. AllIdle w) next_idle events (first_world members)
        (record {
          nodes = founded_length same members members;
          each = λ k. founded_each (λ j x. Idles j x) (λ j. none_started (suc j)) (λ j. none_absent j) members k;
          sent = refl;
          applied = λ a h. absurd (has_nil h);
        })

    idle_log : (w : World B) → AllIdle w → (k : ℕ) → log_of w k ≡ []
    idle_log w all k =
        cond_both (node_at w.nodes k).up (under w.cuts (node_at w.nodes k).rows.snapshot ++ (node_at w.nodes k).applied) [] (λ l. l ≡ [])
        (λ u. (λ i. under w.cuts ((all.each k).snapshot i) ++ (all.each k).applied i)) (λ u. refl)

    pub nothing_logged : (events : List (Event B)) (k : ℕ) → log_of (played same members events) k ≡ []
    nothing_logged events k = idle_log (played same members events) (all_idle events) k

    pub nothing_after : (events : List (Event B)) (e : Event B) → May same members (played same members events) e
        → log_after same members (played same members events) e ≡ []
    nothing_after events e m =
        let all = all_idle events in
        let t = idle_at (played same members events) e all m in
        (λ i. before e (undelivered (played same members events) e all.sent m.0) i ++ t.applied i)
      where
        w : World B
        w = played same members events

        before : (f : Event B) → ((p : Packet B) → f ≡ Deliver p → ⊥) → log_before w f (node_at w.nodes (owner f)) (outcome_of same members f (node_at w.nodes (owner f))) ≡ []
        before (Take n t body) d = nothing_logged events n
        before (Tick n) d = nothing_logged events n
        before (Start n) d = nothing_logged events n
        before (Suspect n other) d = nothing_logged events n
        before (Deliver q) d = absurd (d q refl)
        before (Cut n o) d = nothing_logged events n
        before (Crash n) d = nothing_logged events n
        before (Restart n) d = nothing_logged events n

    module _ {S Y : Type 0} (m : Machine B S Y) (t : Transport) where
      none_handed : (as' : List (Applied B)) → ((a : Applied B) → Has as' a → a.entries ≡ []) → handed_in m t as' ≡ []
      none_handed [] h = refl
      none_handed (a ∷ as') h = (λ i. none (h a here) i ++ none_handed as' (λ b g. h b (there g)) i)
        where
          none : a.entries ≡ [] → handed_at m t a ≡ []
          none e =
              cond_both (eqb a.node t.node && eqb a.boot t.boot) (filter (λ y. same_transport (m.to y) t) (sayings_behind m a.log a.entries)) []
              (λ l. l ≡ []) (λ d. ap (λ es. filter (λ y. same_transport (m.to y) t) (sayings_behind m a.log es)) e) (λ d. refl)

      pub nothing_handed : (events : List (Event B)) → handed m t (played same members events) ≡ []
      nothing_handed events = none_handed (played same members events).applied (all_idle events).applied
