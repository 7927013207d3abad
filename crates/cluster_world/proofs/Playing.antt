-- Events of a few nodes, played one after the other: what each node becomes by those that are its own.
use Rattle.std.proofs.Common.{◌≡◌, ◌⊎◌, inl, inr, ⊎_elim, ℕ, Bool, true, false, ◌&&◌, refl, sym, ap, ◌∙◌, subst, List, [], ◌∷◌, ◌++◌}
use Rattle.std.specs.Prelude.{fold, if◌then◌else◌}
use Rattle.std.specs.List.{flat_map}
use Rattle.std.proofs.lemmas.Bool.{cond-true, cond-false, and_from, cases_Bool, cases_eq}
use Rattle.cluster_world.proofs.EveryWorld.{within, node_same, node_other, play_on}
use Rattle.cluster_world.proofs.Lists.{has_nil, has_cons, has_left, has_right}
use Rattle.cluster_world.proofs.Stepping.{has_among}
use Rattle.cluster_world.specs.Has.{Has, here, there}
use Rattle.paxos_packets.specs.Body.{IsEquality}
use Rattle.paxos_packets.specs.declared.packet.Packet.{Packet}
use Rattle.paxos_node.specs.declared.event.Event.{Event}
use Rattle.paxos_node.specs.declared.event.Event.TheVariants.{Deliver}
use Rattle.paxos_node.specs.Events.{owner, possible, outcome_of}
use Rattle.paxos_planning.specs.Node.{NodeState, Plan}
use Rattle.cluster_world.specs.World.{World, node_at, was_sent, done, next, play}
use Rattle.world_rescue.specs.Course.{Seat}
use Rattle.cluster_world.specs.Rescue.{Apart}

module _ {B : Type 0} (same : B → B → Bool) (members : ℕ) where
  -- what an event makes of its node, if it is possible there
  abbrev pub stepped : Event B → NodeState B → NodeState B
  stepped e x = if possible e x then (outcome_of same members e x).node else x

  -- an event that may be delivered moves its own node alone, and sends its packets
  pub record Moved (w v : World B) (e : Event B) : Type 0 where
    pub mine : node_at v.nodes (owner e) ≡ stepped e (node_at w.nodes (owner e))
    pub others : (k : ℕ) → (k ≡ owner e → ⊥) → node_at v.nodes k ≡ node_at w.nodes k
    pub sends : possible e (node_at w.nodes (owner e)) ≡ true
        → v.sent ≡ w.sent ++ (outcome_of same members e (node_at w.nodes (owner e))).packets
    pub stay : (p : Packet B) → Has w.sent p → Has v.sent p

  pub moved : (w : World B) (e : Event B) → was_sent same e w.sent ≡ true → Moved w (next same members w e) e
  moved w e s = ⊎_elim goes rests (cases_Bool (possible e x))
    where
      x : NodeState B
      x = node_at w.nodes (owner e)

      o : Plan B
      o = outcome_of same members e x

      goes : possible e x ≡ true → Moved w (next same members w e) e
      goes t =
          subst (λ v. Moved w v e) (sym (cond-true (was_sent same e w.sent && possible e x) (done same w e x o) w (and_from _ _ s t)))
          (record {
            mine = node_same w.nodes (owner e) o.node (within w.nodes e (owner e) t) ∙ sym (cond-true (possible e x) o.node x t);
            others = λ k d. node_other w.nodes (owner e) o.node k d;
            sends = λ u. refl;
            stay = λ p h. has_left o.packets h;
          })

      rests : possible e x ≡ false → Moved w (next same members w e) e
      rests t =
          subst (λ v. Moved w v e) (sym (cond-false (was_sent same e w.sent && possible e x) (done same w e x o) w (neither s t)))
          (record {
            mine = sym (cond-false (possible e x) o.node x t);
            others = λ k d. refl;
            sends = λ u. absurd (apart (sym u ∙ t));
            stay = λ p h. h;
          })
        where
          apart : true ≡ false → ⊥
          apart e = cc

          neither : {a b : Bool} → a ≡ true → b ≡ false → (a && b) ≡ false
          neither {a} {b} p q = (λ i. p i && b) ∙ q

  -- what a packet that was sent brings about
  module _ (equal : IsEquality same) where
    pub reached : (w : World B) (q : Packet B) → Has w.sent q → Moved w (next same members w (Deliver q)) (Deliver q)
    reached w q h = moved w (Deliver q) (has_among same equal q w.sent h)

    -- it sends what its event sends
    pub answers : (w : World B) (q r : Packet B) → Has w.sent q → possible (Deliver q) (node_at w.nodes q.addressee) ≡ true
        → Has (outcome_of same members (Deliver q) (node_at w.nodes q.addressee)).packets r → Has (next same members w (Deliver q)).sent r
    answers w q r h may a = subst (λ l. Has l r) (sym ((reached w q h).sends may)) (has_right w.sent a)

-- a node with a seat, or without
pub seat_or_not : {B : Type 0} (seats : List (Seat B)) (j : ℕ)
    → ((s : Seat B) × Has seats s × (s.number ≡ j)) ⊎ ((s : Seat B) → Has seats s → j ≡ s.number → ⊥)
seat_or_not [] j = inr (λ s h e. has_nil h)
seat_or_not {B} (t ∷ seats) j =
    ⊎_elim (λ e. inl (t, here, e))
    (λ d. ⊎_elim (λ r. inl (r.0, there r.1, r.2))
    (λ g. inr (λ s h e. ⊎_elim (λ (i : t ≡ s). d (ap (λ (z : Seat B). z.number) i ∙ sym e)) (λ i. g s i e) (has_cons h)))
    (seat_or_not seats j))
    (cases_eq t.number j)

pub none_is : {B : Type 0} (n : ℕ) (seats : List (Seat B)) → Apart n seats → (s : Seat B) → Has seats s → s.number ≡ n → ⊥
none_is n [] a s h e = has_nil h
none_is {B} n (t ∷ seats) a s h e =
    ⊎_elim (λ (i : t ≡ s). a.0 (ap (λ (z : Seat B). z.number) i ∙ e)) (λ i. none_is n seats a.2 s i e) (has_cons h)

-- visits of the helpers, one after the other: a helper goes from one state to another, and what is known of node n goes along
module _ {B : Type 0} (same : B → B → Bool) (members n : ℕ) {X : Type 0} (Knows : World B → X → Type 0) (now after : Seat B → NodeState B)
    (events : Seat B → List (Event B)) (turn : Seat B → X → X) (Due : World B → Seat B → Type 0) where
  pub record Visited (s : Seat B) (r : X) (w v : World B) : Type 0 where
    pub helper : node_at v.nodes s.number ≡ after s
    pub own : Knows v r
    pub others : (j : ℕ) → (j ≡ n → ⊥) → (j ≡ s.number → ⊥) → node_at v.nodes j ≡ node_at w.nodes j

  pub record AllVisited (seats : List (Seat B)) (r : X) (w v : World B) : Type 0 where
    pub helpers : (s : Seat B) → Has seats s → node_at v.nodes s.number ≡ after s
    pub own : Knows v r
    pub others : (j : ℕ) → (j ≡ n → ⊥) → ((s : Seat B) → Has seats s → j ≡ s.number → ⊥) → node_at v.nodes j ≡ node_at w.nodes j

  module _ (due_on : (w : World B) (s : Seat B) (es : List (Event B)) → Due w s → Due (play same members es w) s)
      (visit : (w : World B) (s : Seat B) (r : X) → (s.number ≡ n → ⊥) → Due w s → node_at w.nodes s.number ≡ now s → Knows w r
      → Visited s (turn s r) w (play same members (events s) w)) where
    pub all_visited : (seats : List (Seat B)) (w : World B) (r : X) → Apart n seats → ((s : Seat B) → Has seats s → Due w s)
        → ((s : Seat B) → Has seats s → node_at w.nodes s.number ≡ now s) → Knows w r
        → AllVisited seats (fold (λ z s. turn s z) r seats) w (play same members (flat_map events seats) w)
    all_visited [] w r apart due is knows = record { helpers = λ s h. absurd (has_nil h); own = knows; others = λ j d g. refl }
    all_visited (s ∷ seats) w r apart due is knows =
        joined
        (all_visited seats u (turn s r) apart.2 (λ t h. due_on w t (events s) (due t (there h)))
        (λ t h. first.others t.number (none_is n seats apart.2 t h) (λ e. apart.1 t h e) ∙ is t (there h)) first.own)
      where
        u : World B
        u = play same members (events s) w

        first : Visited s (turn s r) w u
        first = visit w s r apart.0 (due s here) (is s here) knows

        joined : AllVisited seats (fold (λ z s. turn s z) (turn s r) seats) u (play same members (flat_map events seats) u)
            → AllVisited (s ∷ seats) (fold (λ z s. turn s z) (turn s r) seats) w (play same members (flat_map events (s ∷ seats)) w)
        joined rest =
            subst (λ v. AllVisited (s ∷ seats) (fold (λ z s. turn s z) (turn s r) seats) w v)
            (sym (play_on same members (events s) (flat_map events seats) w))
            (record {
              helpers = λ t h. ⊎_elim
                  (λ (e : s ≡ t). subst (λ z. node_at (play same members (flat_map events seats) u).nodes z.number ≡ after z) e
                  (rest.others s.number apart.0 (λ z i e. apart.1 z i (sym e)) ∙ first.helper))
                  (λ i. rest.helpers t i) (has_cons h);
              own = rest.own;
              others = λ j d g. rest.others j d (λ t i. g t (there i)) ∙ first.others j d (g s here);
            })
