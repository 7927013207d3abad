-- Which events a round makes, one after another.
use Rattle.std.proofs.Common.{◌≡◌, ℕ, Bool, true, false, List, [], ◌∷◌, ◌++◌, refl}
use Rattle.std.specs.Prelude.{if◌then◌else◌}
use Rattle.std.proofs.lemmas.Bool.{false≢true}
use Rattle.paxos_packets.specs.declared.packet.Packet.{Packet}
use Rattle.paxos_node.specs.declared.event.Event.{Event}
use Rattle.paxos_node.specs.declared.event.Event.TheVariants.{Take, Tick, Start, Suspect, Deliver, Cut, Crash, Restart}
use Rattle.paxos_node.specs.Events.{outcome_of, is_round_refused, is_full_refused}
use Rattle.paxos_planning.specs.Node.{NodeState}
use Rattle.node_actor.specs.Rounds.{held_from, held_own, is_treated, made_of, made_own, with_event}

-- an event for which there is no room is none for which no round is left
pub full_no_round : {B : Type 0} (same : B → B → Bool) (e : Event B) (x : NodeState B) → is_full_refused same e x ≡ true
    → is_round_refused e x ≡ false
full_no_round same (Take n t body) x full = refl
full_no_round same (Tick n) x full = refl
full_no_round same (Start n) x full = absurd (false≢true full)
full_no_round same (Suspect n other) x full = refl
full_no_round same (Deliver p) x full = refl
full_no_round same (Cut n snapshot) x full = refl
full_no_round same (Crash n) x full = refl
full_no_round same (Restart n) x full = refl

module _ {B : Type 0} (same : B → B → Bool) (members : ℕ) where
  -- own events

  module _ (e : Event B) (es : List (Event B)) (x : NodeState B) where
    -- the first one is made
    pub makes_own : is_round_refused e x ≡ false → is_full_refused same e x ≡ false
        → made_own same members (e ∷ es) x ≡ e ∷ made_own same members es (outcome_of same members e x).node
    makes_own some room =
        λ i. with_event (some i) (room i) e (made_own same members es (if some i then x else (outcome_of same members e x).node))

    pub holds_own : is_round_refused e x ≡ false → is_full_refused same e x ≡ false
        → held_own same members (e ∷ es) x ≡ held_own same members es (outcome_of same members e x).node
    holds_own some room =
        λ i. held_from (some i) (room i) (e ∷ es) (held_own same members es (if some i then x else (outcome_of same members e x).node))

    -- no round is left for it
    pub passes_own : is_round_refused e x ≡ true → made_own same members (e ∷ es) x ≡ made_own same members es x
    passes_own none =
        λ i. with_event (none i) (is_full_refused same e x) e
        (made_own same members es (if none i then x else (outcome_of same members e x).node))

    pub passes_held : is_round_refused e x ≡ true → held_own same members (e ∷ es) x ≡ held_own same members es x
    passes_held none =
        λ i. held_from (none i) (is_full_refused same e x) (e ∷ es)
        (held_own same members es (if none i then x else (outcome_of same members e x).node))

    -- there is no room for it
    pub ends_own : is_full_refused same e x ≡ true → made_own same members (e ∷ es) x ≡ []
    ends_own full =
        let some = full_no_round same e x full in
        λ i. with_event (some i) (full i) e (made_own same members es (if some i then x else (outcome_of same members e x).node))

    pub all_held : is_full_refused same e x ≡ true → held_own same members (e ∷ es) x ≡ e ∷ es
    all_held full =
        let some = full_no_round same e x full in
        λ i. held_from (some i) (full i) (e ∷ es) (held_own same members es (if some i then x else (outcome_of same members e x).node))

  -- packets

  module _ (me : ℕ) (p : Packet B) (ps : List (Packet B)) (x : NodeState B) where
    -- the first one is treated
    pub makes_of : is_treated me members p x ≡ true
        → made_of same members me (p ∷ ps) x ≡ Deliver p ∷ made_of same members me ps (outcome_of same members (Deliver p) x).node
    makes_of is =
        λ i. (if is i then Deliver p ∷ [] else [])
        ++ made_of same members me ps (if is i then (outcome_of same members (Deliver p) x).node else x)

    -- it is passed over
    pub passes_of : is_treated me members p x ≡ false → made_of same members me (p ∷ ps) x ≡ made_of same members me ps x
    passes_of is =
        λ i. (if is i then Deliver p ∷ [] else [])
        ++ made_of same members me ps (if is i then (outcome_of same members (Deliver p) x).node else x)
