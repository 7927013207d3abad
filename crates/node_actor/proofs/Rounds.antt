-- A packet is fetched, from one peer after another.
use Rattle.std.proofs.Common.{◌≡◌, inl, inr, ℕ, suc, ◌<◌, ◌+◌, ◌-◌}
use Rattle.std.proofs.Common.{eqb, Bool, true, false, Option, Some, None, List, [], ◌∷◌, ◌++◌}
use Rattle.std.proofs.Common.{arith, sym, ap, subst, ◌∙◌, refl}
use Rattle.std.specs.Prelude.{◌==◌, filter, if◌then◌else◌}
use Rattle.std.proofs.lemmas.Bool.{eq-eqb, ne_eqb, false≢true}
use Rattle.std.proofs.lemmas.List.{append-nil}
use Rattle.std.proofs.lemmas.List.Elements.{filter-append}
use Rattle.cluster_world.specs.Has.{Has, here, there}
use Rattle.paxos_packets.specs.Members.{IsMember}
use Rattle.paxos_packets.specs.declared.packet.Packet.{Packet}
use Rattle.paxos_node.specs.declared.event.Event.{Event}
use Rattle.paxos_node.specs.declared.event.Event.TheVariants.{Deliver}
use Rattle.paxos_node.specs.Events.{packet_in}
use Rattle.actor_parts.proofs.Carrying.{some_same}
use Rattle.mail_table.specs.Boxes.{Received}
use Rattle.mail_table.specs.Seats.{Seated, knows}
use Rattle.mail_table.specs.Views.{box_of, through, receiving, lost}
use Rattle.mail_table.specs.declared.part.Part.{Part}
use Rattle.mail_table.proofs.Parcels.{through_more}
use Rattle.node_actor.specs.Calls.{turn_event}
use Rattle.node_actor.specs.Turns.{after, others_from, passed_by, Fetches, packet_got, Reaches}
use Rattle.node_actor.specs.Views.{is_for, packets_of, received_from, received_by}

-- members

pub member_after : (members k : ℕ) → IsMember members k → IsMember members (after members k)
member_after members k m = by_last (eqb k members) refl
  where
    by_last : (b : Bool) → eqb k members ≡ b → IsMember members (if b then 1 else suc k)
    by_last true e = (omega arith, omega (arith, m.0, m.1))
    by_last false e = (omega arith, omega (arith, m.1, not_last e))
      where
        not_last : eqb k members ≡ false → k ≡ members → ⊥
        not_last e is = absurd (false≢true (sym e ∙ eq-eqb k members is))

module _ {B : Type 0} where
  -- the tries that are left, after one that was lost
  pub behind_lost : (n me k m : ℕ) (x y : Part B) (got : Option (ℕ × Packet B)) → x.me ≡ me
      → Fetches n (others_from me n (after n k) m) (passed_by n k x) got y → Fetches n (others_from me n k (suc m)) x got y
  behind_lost n me k m x y got is h = by_self (eqb k me) refl
    where
      by_self : (b : Bool) → eqb k me ≡ b → Fetches n (others_from me n k (suc m)) x got y
      by_self true e =
          rw e (subst (λ z. Fetches n (others_from me n (after n k) m) z got y) (passed_self e) h)
        where
          passed_self : eqb k me ≡ true → passed_by n k x ≡ x
          passed_self e = rw (ap (eqb k) is ∙ e) refl
      by_self false e = rw e (lost_first got (subst (λ z. Fetches n (others_from me n (after n k) m) z got y) (passed_other e) h))
        where
          passed_other : eqb k me ≡ false → passed_by n k x ≡ lost (box_of n k x.me) x
          passed_other e = rw (ap (eqb k) is ∙ e) refl

          lost_first : (g : Option (ℕ × Packet B)) → Fetches n (others_from me n (after n k) m) (lost (box_of n k x.me) x) g y
              → Fetches n (k ∷ others_from me n (after n k) m) x g y
          lost_first None f = f
          lost_first (Some w) f = inr f

  -- and one that won
  pub behind_won : (n me k m : ℕ) (x : Part B) (p : Packet B) → x.me ≡ me → (k ≡ me → ⊥)
      → Fetches n (others_from me n k (suc m)) x (Some (k, p)) (receiving (box_of n k x.me) p x)
  behind_won n me k m x p is d = rw (ne_eqb k me d) (inl (refl, refl))

-- what a view shares with its seat once it was fetched

module _ {B : Type 0} where
  -- one packet more was received
  more_packets : (at : ℕ) (p : Packet B) (x : Part B) → packets_of (receiving at p x).received ≡ packets_of x.received ++ p ∷ []
  more_packets at p x = map_last x.received
    where
      map_last : (qs : List _) → packets_of (qs ++ record { at = at; packet = p } ∷ []) ≡ packets_of qs ++ p ∷ []
      map_last [] = refl
      map_last (q ∷ qs) = ap (λ l. q.packet ∷ l) (map_last qs)

  -- of which those for the node from other members are what the event receives
  event_packets : (me members : ℕ) (p : Packet B) → filter (is_for me members) (p ∷ []) ≡ received_by (turn_event me members (Some p))
  event_packets me members p = by_test (is_for me members p) refl
    where
      by_test : (b : Bool) → is_for me members p ≡ b → filter (is_for me members) (p ∷ []) ≡ received_by (turn_event me members (Some p))
      by_test true e = rw e refl
      by_test false e = rw e refl

  received_more : (v s : Seated B) (p : Packet B) → s.members ≡ v.members → s.part.me ≡ v.part.me
      → packets_of s.part.received ≡ packets_of v.part.received ++ p ∷ [] → (k : ℕ)
      → received_from k s ≡ received_from k v ++ filter (λ q. q.sender == k) (received_by (turn_event v.part.me v.members (Some p)))
  received_more v s p members me more k =
      let own : Packet B → Bool = is_for v.part.me v.members in
      let by : Packet B → Bool = λ q. q.sender == k in
      (λ i. filter by (filter (is_for (me i) (members i)) (packets_of s.part.received)))
      ∙ ap (λ ps. filter by (filter own ps)) more ∙ ap (filter by) (filter-append own (packets_of v.part.received) (p ∷ []))
      ∙ filter-append by (filter own (packets_of v.part.received)) (filter own (p ∷ []))
      ∙ ap (λ ps. received_from k v ++ filter by ps) (event_packets v.part.me v.members p)

  -- what tries leave as it was
  record Still (x y : Part B) : Type 0 where
    pub me : y.me ≡ x.me
    pub seen : y.seen ≡ x.seen
    pub events : y.events ≡ x.events
    pub posted : y.posted ≡ x.posted

  still_on : (x y z : Part B) → Still x y → Still y z → Still x z
  still_on x y z a b = record { me = b.me ∙ a.me; seen = b.seen ∙ a.seen; events = b.events ∙ a.events; posted = b.posted ∙ a.posted }

  -- none came
  none_came : (n : ℕ) (ks : List ℕ) (x y : Part B) → Fetches n ks x None y → Still x y × (y.received ≡ x.received)
  none_came n [] x y h = (
    record { me = ap (λ z. z.me) h; seen = ap (λ z. z.seen) h; events = ap (λ z. z.events) h; posted = ap (λ z. z.posted) h },
    ap (λ z. z.received) h,
  )
  none_came n (k ∷ ks) x y h =
      let rest = none_came n ks (lost (box_of n k x.me) x) y h in
      (still_on x (lost (box_of n k x.me) x) y (record { me = refl; seen = refl; events = refl; posted = refl }) rest.0, rest.1)

  -- one came, through a box to the node
  one_came : (n : ℕ) (ks : List ℕ) (x y : Part B) (got : ℕ × Packet B) → Fetches n ks x (Some got) y
      → Still x y × (packets_of y.received ≡ packets_of x.received ++ got.1 ∷ []) × Has (through (box_of n got.0 y.me) y.received) got.1
  one_came n [] x y got h = absurd h
  one_came n (k ∷ ks) x y got (inl h) =
      subst (λ z. Still x z × (packets_of z.received ≡ packets_of x.received ++ got.1 ∷ [])
      × Has (through (box_of n got.0 z.me) z.received) got.1) (sym h.1)
      (subst (λ j. Still x (receiving (box_of n k x.me) got.1 x)
      × (packets_of (receiving (box_of n k x.me) got.1 x).received ≡ packets_of x.received ++ got.1 ∷ [])
      × Has (through (box_of n j x.me) (receiving (box_of n k x.me) got.1 x).received) got.1) (sym h.0) (
        record { me = refl; seen = refl; events = refl; posted = refl },
        more_packets (box_of n k x.me) got.1 x,
        subst (λ l. Has l got.1) (sym (through_more (box_of n k x.me) x.received (got.1 ∷ [])))
            (last_has (through (box_of n k x.me) x.received) got.1),
      ))
    where
      last_has : (xs : List (Packet B)) (p : Packet B) → Has (xs ++ p ∷ []) p
      last_has [] p = here
      last_has (z ∷ zs) p = there (last_has zs p)
  one_came n (k ∷ ks) x y got (inr h) =
      let rest = one_came n ks (lost (box_of n k x.me) x) y got h in
      (still_on x (lost (box_of n k x.me) x) y (record { me = refl; seen = refl; events = refl; posted = refl }) rest.0, rest.1, rest.2)

  no_packet : (p : Packet B) → ◌≡◌ {A = Option (Packet B)} (Some p) None → ⊥
  no_packet p e = cc

  -- an event that a turn makes has its packet
  never_alone : (me members : ℕ) (p : Packet B) (x : Event B) → turn_event me members (Some p) ≡ Some x → packet_in x ≡ None → ⊥
  never_alone me members p x is none = by_test (is_for me members p) refl
    where
      by_test : (b : Bool) → is_for me members p ≡ b → ⊥
      by_test true e =
          let made : ◌≡◌ {A = Option (Event B)} (Some (Deliver p)) (Some x) = sym (rw e refl) ∙ is in
          no_packet p (ap packet_in (some_same (Deliver p) x made) ∙ none)
      by_test false e = let made : ◌≡◌ {A = Option (Event B)} None (Some x) = sym (rw e refl) ∙ is in absurd (let off = made in cc)

  pub reaches_got : (ended : Bool) (ks : List ℕ) (v s : Seated B) (got : Option (ℕ × Packet B)) → ended ≡ false → s ≡ knows s.part v
      → Fetches v.members ks v.part got s.part → Reaches ended (turn_event v.part.me v.members (packet_got got)) v s
  reaches_got ended ks v s None fresh table h =
      let c = none_came v.members ks v.part s.part h in
      let members : s.members ≡ v.members = ap (λ (z : Seated B). z.members) table in
      record {
        table = table;
        me = c.0.me;
        seen = c.0.seen;
        events = c.0.events;
        posted = c.0.posted;
        received = λ k. (λ i. filter (λ q. q.sender == k) (filter (is_for (c.0.me i) (members i)) (packets_of (c.1 i))))
            ∙ sym (append-nil (received_from k v));
        ended = λ e. absurd (false≢true (sym fresh ∙ e));
        alone = λ x is none. absurd (let off : ◌≡◌ {A = Option (Event B)} None (Some x) = is in cc);
      }
  reaches_got ended ks v s (Some got) fresh table h =
      let c = one_came v.members ks v.part s.part got h in
      record {
        table = table;
        me = c.0.me;
        seen = c.0.seen;
        events = c.0.events;
        posted = c.0.posted;
        received = received_more v s got.1 (ap (λ (z : Seated B). z.members) table) c.0.me c.1;
        ended = λ e. absurd (false≢true (sym fresh ∙ e));
        alone = λ x is none. absurd (never_alone v.part.me v.members got.1 x is none);
      }

  pub received_got : (ks : List ℕ) (v s : Seated B) (got : ℕ × Packet B) → s ≡ knows s.part v → IsMember v.members got.0
      → Fetches v.members ks v.part (Some got) s.part → Received s.members s.part (Deliver got.1)
  received_got ks v s got table member h =
      let members : v.members ≡ s.members = ap (λ (z : Seated B). z.members) (sym table) in (
        got.0,
        subst (λ n. IsMember n got.0) members member,
        subst (λ n. Has (through (box_of n got.0 s.part.me) s.part.received) got.1)
            members
            (one_came v.members ks v.part s.part got h).2,
      )

  -- the seat shows what it showed
  pub seen_got : (ks : List ℕ) (v s : Seated B) (got : Option (ℕ × Packet B)) → Fetches v.members ks v.part got s.part
      → (s.part.me ≡ v.part.me) × (s.part.seen ≡ v.part.seen)
  seen_got ks v s None h = let c = none_came v.members ks v.part s.part h in (c.0.me, c.0.seen)
  seen_got ks v s (Some got) h = let c = one_came v.members ks v.part s.part got h in (c.0.me, c.0.seen)

-- a loop over the peers

one_less : (n step : ℕ) → step < n → n - step ≡ suc (n - (step + 1))
one_less n step left = omega (arith, left)

module _ {B : Type 0} (n me k step : ℕ) where
  pub wins_now : (s t : Seated B) (p : Packet B) → step < n → s.members ≡ n → s.part.me ≡ me → (k ≡ s.part.me → ⊥)
      → t ≡ knows (receiving (box_of s.members k s.part.me) p s.part) s
      → Fetches n (others_from me n k (n - step)) s.part (Some (k, p)) t.part
  wins_now s t p left members is other won =
      subst (λ m. Fetches n (others_from me n k m) s.part (Some (k, p)) t.part) (sym (one_less n step left))
      (subst (λ y. Fetches n (others_from me n k (suc (n - (step + 1)))) s.part (Some (k, p)) y)
      (ap (λ m. receiving (box_of m k s.part.me) p s.part) (sym members) ∙ ap (λ (z : Seated B). z.part) (sym won))
      (behind_won n me k (n - (step + 1)) s.part p is (λ e. other (e ∙ sym is))))

  pub passes_on : (first s t : Seated B) → step < n → s.members ≡ n → s.part.me ≡ first.part.me → s ≡ knows s.part first
      → t ≡ knows (passed_by s.members k s.part) s → me ≡ first.part.me
      → (t ≡ knows t.part first) × (t.part.me ≡ first.part.me)
      × ((got : Option (ℕ × Packet B)) (y : Part B) → Fetches n (others_from me n (after n k) (n - (step + 1))) t.part got y
      → Fetches n (others_from me n k (n - step)) s.part got y)
  passes_on first s t left members is table passed own =
      let part : t.part ≡ passed_by n k s.part = ap (λ (z : Seated B). z.part) passed ∙ ap (λ m. passed_by m k s.part) members in
      let still : (passed_by s.members k s.part).me ≡ s.part.me = by_self (eqb k s.part.me) in (
        passed ∙ ap (knows (passed_by s.members k s.part)) table ∙ ap (λ x. knows x first) (sym (ap (λ (z : Seated B). z.part) passed)),
        ap (λ (z : Seated B). z.part.me) passed ∙ still ∙ is,
        λ got y h. subst (λ m. Fetches n (others_from me n k m) s.part got y) (sym (one_less n step left))
            (behind_lost n me k (n - (step + 1)) s.part y got (is ∙ sym own)
            (subst (λ x. Fetches n (others_from me n (after n k) (n - (step + 1))) x got y) part h)),
      )
    where
      by_self : (b : Bool) → (if b then s.part else lost (box_of s.members k s.part.me) s.part).me ≡ s.part.me
      by_self true = refl
      by_self false = refl
