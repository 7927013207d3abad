-- The first ballot of a rescue: the node comes to see the rounds that its helpers promised.
use Rattle.std.proofs.Common.{◌≡◌, ◌⊎◌, inl, inr, ⊎_elim, ℕ, ◌<◌, ◌≤◌, Bool, true, false, refl, sym, ap, ◌∙◌, subst, arith, List, [], ◌∷◌}
use Rattle.std.proofs.Common.{Option, Some, None}
use Rattle.std.specs.Prelude.{max, if◌then◌else◌}
use Rattle.std.specs.List.{flat_map}
use Rattle.std.specs.Option.{unwrap_or}
use Rattle.std.proofs.lemmas.Bool.{cond-true, cond-false, cases_Bool}
use Rattle.cluster_world.proofs.AtOnce.{AtRest, settle_rest}
use Rattle.cluster_world.proofs.EveryWorld.{all_stay}
use Rattle.cluster_world.proofs.Order.{le_from_test}
use Rattle.cluster_world.proofs.Playing.{stepped, Moved, reached, answers, Visited, AllVisited, all_visited}
use Rattle.cluster_world.specs.Has.{Has, here}
use Rattle.paxos_packets.specs.Ballot.{below}
use Rattle.paxos_packets.specs.Body.{IsEquality}
use Rattle.paxos_packets.specs.Packet.{packet}
use Rattle.paxos_packets.specs.declared.ballot.Ballot.{Ballot}
use Rattle.paxos_packets.specs.declared.packet.Kind.TheVariants.{Prepare, Nack}
use Rattle.paxos_packets.specs.declared.packet.Packet.{Packet}
use Rattle.paxos_acceptor.specs.Acceptor.{may_promise, promise_of}
use Rattle.paxos_proposer.specs.Proposer.{nacked}
use Rattle.paxos_proposer.specs.Role.{Role}
use Rattle.paxos_node.specs.declared.event.Event.{Event}
use Rattle.paxos_node.specs.declared.event.Event.TheVariants.{Deliver}
use Rattle.paxos_node.specs.Applying.{settle}
use Rattle.paxos_node.specs.Events.{outcome_of}
use Rattle.paxos_planning.specs.Node.{NodeState, Plan}
use Rattle.paxos_planning.specs.Plan.{begun, send, promise}
use Rattle.paxos_planning.specs.Replies.{saw, refuse, on_nack}
use Rattle.cluster_world.specs.World.{World, node_at, next, play}
use Rattle.world_rescue.specs.Course.{Seat, refusal, refused_round, asked_in_vain, seen_then}
use Rattle.cluster_world.specs.Rescue.{Apart}

module _ {B : Type 0} (same : B → B → Bool) (members : ℕ) where
  -- what is delivered to a node that is up
  pub up_stepped : (p : Packet B) (x : NodeState B) → x.up ≡ true
      → stepped same members (Deliver p) x ≡ (outcome_of same members (Deliver p) x).node
  up_stepped p x u = cond-true x.up (outcome_of same members (Deliver p) x).node x u

  -- a node that is asked for a promise
  abbrev pub seeing : ℕ → Ballot → NodeState B → Plan B
  seeing first b x = record (begun x) { node = saw (Prepare b first) x }

  pub promises_it : (n k first : ℕ) (b : Ballot) (x : NodeState B) → AtRest x → may_promise x.rows.promised b ≡ true
      → outcome_of same members (Deliver (packet n (Prepare b first) k)) x
      ≡ send (packet k (promise_of x.rows b first) n ∷ []) (promise b (seeing first b x))
  promises_it n k first b x rest may =
      ap (λ (o : Plan B). settle k o) (cond-true (may_promise x.rows.promised b) yes (refuse k n b (seeing first b x)) may)
      ∙ settle_rest k yes rest
    where
      yes : Plan B
      yes = send (packet k (promise_of x.rows b first) n ∷ []) (promise b (seeing first b x))

  pub refuses_it : (n k first : ℕ) (b : Ballot) (x : NodeState B) → AtRest x → may_promise x.rows.promised b ≡ false
      → outcome_of same members (Deliver (packet n (Prepare b first) k)) x ≡ refuse k n b (seeing first b x)
  refuses_it n k first b x rest may =
      ap (λ (o : Plan B). settle k o)
      (cond-false (may_promise x.rows.promised b)
      (send (packet k (promise_of x.rows b first) n ∷ []) (promise b (seeing first b x))) no may)
      ∙ settle_rest k no rest
    where
      no : Plan B
      no = refuse k n b (seeing first b x)

  -- a node that was asked for a promise: but for its promise and what it sees it is as it was
  pub record WasAsked (b : Ballot) (x y : NodeState B) : Type 0 where
    pub up : y.up ≡ x.up
    pub boot : y.rows.boot ≡ x.rows.boot
    pub snapshot : y.rows.snapshot ≡ x.rows.snapshot
    pub votes : y.rows.votes ≡ x.rows.votes
    pub learner : y.learner ≡ x.learner
    pub log : y.applied ≡ x.applied
    pub promised : (y.rows.promised ≡ Some b)
        ⊎ ((p : Ballot) × (x.rows.promised ≡ Some p) × (y.rows.promised ≡ Some p) × (below p b ≡ false))

  had : (q : Option Ballot) (b : Ballot) → may_promise q b ≡ false → (p : Ballot) × (q ≡ Some p) × (below p b ≡ false)
  had None b may = absurd (cc)
  had (Some p) b may = (p, refl, may)

  pub was_asked : (n k first : ℕ) (b : Ballot) (x : NodeState B) → x.up ≡ true → AtRest x
      → WasAsked b x (stepped same members (Deliver (packet n (Prepare b first) k)) x)
  was_asked n k first b x u rest =
      subst (λ y. WasAsked b x y) (sym (up_stepped (packet n (Prepare b first) k) x u))
      (⊎_elim yes no (cases_Bool (may_promise x.rows.promised b)))
    where
      o : Plan B
      o = outcome_of same members (Deliver (packet n (Prepare b first) k)) x

      yes : may_promise x.rows.promised b ≡ true → WasAsked b x o.node
      yes may =
          subst (λ (z : Plan B). WasAsked b x z.node) (sym (promises_it n k first b x rest may))
          (record { up = refl; boot = refl; snapshot = refl; votes = refl; learner = refl; log = refl; promised = inl refl })

      no : may_promise x.rows.promised b ≡ false → WasAsked b x o.node
      no may =
          let h = had x.rows.promised b may in
          subst (λ (z : Plan B). WasAsked b x z.node) (sym (refuses_it n k first b x rest may))
          (record { up = refl; boot = refl; snapshot = refl; votes = refl; learner = refl; log = refl; promised = inr (h.0, h.1, h.1, h.2) })

  -- the node that asks: but for its role and the round that it sees it is this one
  pub record Looked (y : NodeState B) (seen : ℕ) (x : NodeState B) : Type 0 where
    pub role : Role B
    pub is : x ≡ record y { proposer = record { role = role; seen = seen } }

  module _ (equal : IsEquality same) (n first : ℕ) (b : Ballot) (own : b.node ≡ n) (y : NodeState B) (up : y.up ≡ true)
      (rest : AtRest y) where
    abbrev pub question : Seat B → Packet B
    question s = packet b.node (Prepare b first) s.number

    -- what is known of it after some visits: the greatest round that it saw, which is not below that of its ballot
    pub record Sees (w : World B) (seen : ℕ) : Type 0 where
      pub least : b.round ≤ seen
      pub node : Looked y seen (node_at w.nodes n)

    abbrev pub look_then : Seat B → NodeState B
    look_then s = stepped same members (Deliver (question s)) s.node

    abbrev pub look_turn : Seat B → ℕ → ℕ
    look_turn s r = max r (refused_round b s.node.rows.promised)

    pub record Due (w : World B) (s : Seat B) : Type 0 where
      pub asked : Has w.sent (question s)
      pub up_is : s.node.up ≡ true
      pub rests : AtRest s.node

    -- a refusal comes back
    abbrev nack : ℕ → Ballot → Packet B
    nack k p = packet k (Nack b p) b.node

    joined : (c p r : ℕ) → c ≤ p → max r (max c p) ≡ max r p
    joined c p r l = omega arith

    above : (p : Ballot) → below p b ≡ false → b.round ≤ p.round
    above p t = go (le_from_test p b t).is
      where
        go : (b.round < p.round) ⊎ ((b.round ≡ p.round) × (b.node ≤ p.node)) → b.round ≤ p.round
        go h = grind arith

    refused : (k r : ℕ) (p : Ballot) (x : NodeState B) → below p b ≡ false → Looked y r x
        → Looked y (max r p.round) (stepped same members (Deliver (nack k p)) x)
    refused k r p x t ok =
        record {
          role = nacked b p ok.role;
          is = up_stepped (nack k p) x (ap (λ (z : NodeState B). z.up) ok.is ∙ up)
              ∙ (ap (λ (o : Plan B). o.node)
              (settle_rest b.node (on_nack b p (record (begun x) { node = saw (Nack b p) x })) (subst (λ z. AtRest z) (sym ok.is) rest))
              ∙ (ap after ok.is
              ∙ (λ i. record y { proposer = record { role = nacked b p ok.role; seen = joined b.round p.round r (above p t) i } })));
        }
      where
        after : NodeState B → NodeState B
        after z = record z { proposer = record { role = nacked b p z.proposer.role; seen = max z.proposer.seen (max b.round p.round) } }

    same_node : {w v : World B} {r : ℕ} → node_at v.nodes n ≡ node_at w.nodes n → Sees w r → Sees v r
    same_node {r = r} e k = record { least = k.least; node = subst (λ x. Looked y r x) (sym e) k.node }

    abbrev Visit : World B → World B → Seat B → ℕ → Type 0
    Visit w v s r = Visited same members n Sees (λ s. s.node) look_then (asked_in_vain b first) look_turn Due s r w v

    look_visit : (w : World B) (s : Seat B) (r : ℕ) → (s.number ≡ n → ⊥) → Due w s → node_at w.nodes s.number ≡ s.node → Sees w r
        → Visit w (play same members (asked_in_vain b first s) w) s (look_turn s r)
    look_visit w s r apart due is knows = go s.node.rows.promised refl
      where
        k : ℕ
        k = s.number

        u : World B
        u = next same members w (Deliver (question s))

        m : Moved same members w u (Deliver (question s))
        m = reached same members equal w (question s) due.asked

        helper : node_at u.nodes k ≡ look_then s
        helper = m.mine ∙ ap (λ x. stepped same members (Deliver (question s)) x) is

        alone : (c : ℕ) → c ≡ 0 → Visit w u s (max r c)
        alone c e =
            record {
              helper = helper;
              own = subst (λ z. Sees u z) (sum c e) (same_node (m.others n (λ i. apart (sym i))) knows);
              others = λ j d g. m.others j g;
            }
          where
            sum : (c : ℕ) → c ≡ 0 → r ≡ max r c
            sum c e = omega arith

        go : (q : Option Ballot) → s.node.rows.promised ≡ q
            → Visit w (play same members (Deliver (question s) ∷ refusal b k q) w) s (max r (refused_round b q))
        go None e = alone 0 refl
        go (Some p) e = tested (below p b) refl
          where
            v : World B
            v = next same members u (Deliver (nack k p))

            sent : below p b ≡ false → Has u.sent (nack k p)
            sent t =
                answers same members equal w (question s) (nack k p) due.asked (ap (λ (x : NodeState B). x.up) is ∙ due.up_is)
                (subst (λ x. Has (outcome_of same members (Deliver (question s)) x).packets (nack k p)) (sym is)
                (subst (λ (o : Plan B). Has o.packets (nack k p))
                (sym (refuses_it b.node k first b s.node due.rests (ap (λ q. may_promise q b) e ∙ t)))
                (subst (λ q. Has (packet k (Nack b (unwrap_or q b)) b.node ∷ []) (nack k p)) (sym e) here)))

            back : below p b ≡ false → Visit w v s (max r p.round)
            back t =
                record {
                  helper = m'.others k (λ i. apart (i ∙ own)) ∙ helper;
                  own =
                      record {
                        least = more knows.least;
                        node =
                            subst (λ x. Looked y (max r p.round) x)
                            (sym (subst (λ j. node_at v.nodes j ≡ stepped same members (Deliver (nack k p)) (node_at u.nodes j)) own m'.mine
                            ∙ ap (λ x. stepped same members (Deliver (nack k p)) x) (m.others n (λ i. apart (sym i)))))
                            (refused k r p (node_at w.nodes n) t knows.node);
                      };
                  others = λ j d g. m'.others j (λ i. d (i ∙ own)) ∙ m.others j g;
                }
              where
                m' : Moved same members u v (Deliver (nack k p))
                m' = reached same members equal u (nack k p) (sent t)

                more : b.round ≤ r → b.round ≤ max r p.round
                more l = omega arith

            tested : (g : Bool) → below p b ≡ g
                → Visit w (play same members (Deliver (question s) ∷ (if g then [] else Deliver (nack k p) ∷ [])) w) s
                (max r (if g then 0 else p.round))
            tested true t = alone 0 refl
            tested false t = back t

    due_on : (w : World B) (s : Seat B) (es : List (Event B)) → Due w s → Due (play same members es w) s
    due_on w s es d = record { asked = all_stay same members es w (question s) d.asked; up_is = d.up_is; rests = d.rests }

    -- all helpers were asked
    pub looks : (seats : List (Seat B)) (w : World B) → Apart n seats → ((s : Seat B) → Has seats s → Due w s)
        → ((s : Seat B) → Has seats s → node_at w.nodes s.number ≡ s.node) → Sees w b.round
        → AllVisited same members n Sees (λ s. s.node) look_then (asked_in_vain b first) look_turn Due seats (seen_then b seats) w
        (play same members (flat_map (asked_in_vain b first) seats) w)
    looks seats w apart due is knows =
        all_visited same members n Sees (λ s. s.node) look_then (asked_in_vain b first) look_turn Due due_on look_visit seats w b.round
        apart due is knows
