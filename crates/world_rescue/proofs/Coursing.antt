-- The parts of a course, one after the other, are the course.
use Rattle.std.proofs.Common.{◌≡◌, ℕ, suc, ◌+◌, ◌<◌, ◌≤◌, ◌^◌, max, Bool, true, false, Option, Some, None, List, [], ◌∷◌, ◌++◌, length, refl, sym, ap, ◌∙◌, subst, arith, append_assoc}
use Rattle.std.proofs.lemmas.Bool.{leb-true}
use Rattle.std.specs.Prelude.{filter, fold, if◌then◌else◌}
use Rattle.paxos_packets.specs.Snapshot.{Snapshot, floor_in}
use Rattle.paxos_packets.specs.Vote.{put_votes, votes_from}
use Rattle.paxos_packets.specs.declared.ballot.Ballot.{Ballot}
use Rattle.paxos_packets.specs.declared.entry.Entry.{Entry}
use Rattle.paxos_packets.specs.declared.entry.Entry.TheVariants.{Boot}
use Rattle.paxos_packets.specs.declared.vote.Vote.{Vote}
use Rattle.paxos_proposer.specs.Proposals.{behind}
use Rattle.paxos_proposer.specs.Proposer.{own_ballot, resting}
use Rattle.paxos_proposer.specs.Proposing.{proposals_of}
use Rattle.paxos_proposer.specs.Role.{Role}
use Rattle.paxos_proposer.specs.State.{State, begun, saw}
use Rattle.paxos_node.specs.Events.{last_number}
use Rattle.paxos_node.specs.declared.event.Event.{Event}
use Rattle.paxos_node.specs.declared.event.Event.TheVariants.{Restart}
use Rattle.paxos_node.specs.Applying.{standing_of}
use Rattle.replica_machine.specs.declared.roll.Standing.{Standing}
use Rattle.replica_machine.specs.Roll.{standings_from, is_wanted_by}
use Rattle.world_rescue.proofs.Casting.{each}
use Rattle.world_rescue.proofs.Fitting.{highest_more}
use Rattle.world_rescue.proofs.Lacking.{led_same}
use Rattle.world_rescue.proofs.Listing.{joined}
use Rattle.world_rescue.specs.Course.{Crew, Act, take, item_of, look, lead, led, pass, propose_new, entries_of, seen, ballot_after, first_role, first_votes}
use Rattle.world_rescue.specs.Casting.{put_each_from}
use Rattle.world_rescue.specs.Course.{first_pass, falls, length_then, goes_on, comes_back, level_course}
use Rattle.world_rescue.specs.Course.{Seat, floor_of, votes_then, refused_round, seen_then, fetch_by, fetch_again, source_again, seat_over, own_again, floor_again}
use Rattle.world_rescue.specs.Level.{Level, IsLevelOf, seat_by, crew_by, with_own}
use Rattle.world_rescue.specs.Parts.{next_ballot, led_by, goes_on_from, role_again, comes_back_from}
use Rattle.world_rescue.specs.Reaching.{Source, floor_or, highest}
use Rattle.paxos_planning.specs.Node.{NodeState, log_length}

-- the limits

pub act_fits : (n : ℕ) → n < last_number → n < 2 ^ 48
unfolding last_number
act_fits n l = go 281474976710655 281474976710656 l (leb-true 281474976710655 281474976710656 refl)
  where
    go : (a b : ℕ) → n < a → a ≤ b → n < b
    go a b l h = omega arith

least_round : (r : ℕ) → max 0 r ≡ r
least_round r = omega arith

pub next_of : {B : Type 0} (n members r : ℕ) (s : State B) → s ≡ saw r (begun n members) → own_ballot n s.proposer ≡ record { round = suc r; node = n }
next_of {B} n members r s p =
    ap (λ (z : ℕ). record { round = suc z; node = n }) (ap (λ (t : State B). t.proposer.seen) p ∙ least_round r)

-- a proposer that saw this round begins the ballot after it, and once it saw the rounds that the helpers promised, it saw all that came before

seen_more : {B : Type 0} (b : Ballot) (r : ℕ) (seats : List (Seat B)) → r ≤ fold (λ k s. max k (refused_round b s.node.rows.promised)) r seats
seen_more b r [] = go r
  where
    go : (r : ℕ) → r ≤ r
    go r = omega arith
seen_more {B} b r (s ∷ ss) = go r (refused_round b s.node.rows.promised) _ (seen_more b (max r (refused_round b s.node.rows.promised)) ss)
  where
    go : (r k m : ℕ) → max r k ≤ m → r ≤ m
    go r k m l = omega arith

pub looked : {B : Type 0} (n members round : ℕ) (seats : List (Seat B)) (s t : State B) → s ≡ saw round (begun n members)
    → t ≡ saw (seen_then (own_ballot n s.proposer) seats) s
    → (own_ballot n s.proposer ≡ next_ballot n round) × (t ≡ saw (seen_then (next_ballot n round) seats) (begun n members))
looked {B} n members round seats s t is now = (
  ballot,
  now ∙ (λ i. saw (seen_then (ballot i) seats) (is i))
      ∙ ap at (go round (seen_then (next_ballot n round) seats) (seen_more (next_ballot n round) (suc round) seats)),
)
  where
    ballot : own_ballot n s.proposer ≡ next_ballot n round
    ballot = next_of n members round s is

    at : ℕ → State B
    at k = record { me = n; members = members; proposer = resting k }

    go : (r k : ℕ) → suc r ≤ k → max (max 0 r) k ≡ max 0 k
    go r k l = omega arith

-- a node that rests on another's snapshot has its number and its votes

pub number_over : {B : Type 0} (o : Option Source) (s : Seat B) → (seat_over o s).number ≡ s.number
number_over None s = refl
number_over (Some t) s = refl

pub votes_over : {B : Type 0} (first : ℕ) (cast : List (Vote B)) (o : Option Source) (s : Seat B)
    → votes_then first cast (seat_over o s) ≡ votes_then first cast s
votes_over first cast None s = refl
votes_over first cast (Some t) s = refl

pub floor_over : {B : Type 0} (o : Option Source) (s : Seat B) → floor_of (seat_over o s) ≡ floor_or (floor_of s) o
floor_over None s = refl
floor_over (Some t) s = refl

-- two things after another
joined_three : {X : Type 0} (e0 e1 e2 e3 xs ys zs : List X) → e1 ≡ e0 ++ xs → e2 ≡ e1 ++ ys → e3 ≡ e2 ++ zs → e3 ≡ e0 ++ (xs ++ (ys ++ zs))
joined_three {X} e0 e1 e2 e3 xs ys zs p q r =
    joined e0 e2 e3 (xs ++ ys) zs (joined e0 e1 e2 xs ys p q) r ∙ ap (λ (ws : List X). e0 ++ ws) (append_assoc xs ys zs)

-- what it reports depends on its votes from that slot on alone
votes_same : {B : Type 0} (first : ℕ) (cast vs us : List (Vote B)) → votes_from first vs ≡ votes_from first us
    → votes_from first (put_votes cast vs) ≡ votes_from first (put_votes cast us)
votes_same {B} first cast vs us h =
    sym (each first cast vs) ∙ ap (λ (ws : List (Vote B)). put_each_from first cast ws) h ∙ each first cast us

module _ {B : Type 0} (same : B → B → Bool) (c : Crew B) (a : Act B) where
  -- the node stays up
  pub stays : (stands : ℕ → Standing) (log : ℕ) (r role : Role B) (e0 e1 e2 : List (Event B)) (kept own pending : List (Entry B)) (votes : List (Vote B))
      → e1 ≡ e0 ++ take c.own.number a ∷ [] → own ≡ c.own.node.pending → kept ≡ filter (is_wanted_by stands) own
      → pending ≡ kept ++ item_of c.own.number c.own.node.rows.boot c.own.node.taken a ∷ [] → role ≡ propose_new same log pending r
      → votes ≡ behind log (proposals_of role) → e2 ≡ e1 ++ pass c.own.number c.helpers votes → e2 ≡ e0 ++ goes_on_from same c a stands log r
  stays stands log r role e0 e1 e2 kept own pending votes p q k w h v e =
      joined e0 e1 e2 (take c.own.number a ∷ []) (pass c.own.number c.helpers votes) p e
      ∙ ap (λ (vs : List (Vote B)). e0 ++ take c.own.number a ∷ pass c.own.number c.helpers vs)
      (v ∙ ap (λ (x : Role B). behind log (proposals_of x))
      (h ∙ ap (λ (es : List (Entry B)). propose_new same log es r)
      (w ∙ ap (λ (es : List (Entry B)). es ++ item_of c.own.number c.own.node.rows.boot c.own.node.taken a ∷ [])
      (k ∙ ap (λ (es : List (Entry B)). filter (is_wanted_by stands) es) q))))

  -- the node goes down, and comes back: it rests on a snapshot first, up to this floor
  pub returns_to : (b : Ballot) (cast votes : List (Vote B)) (e0 e1 ef e2 e3 e4 : List (Event B)) (pending : List (Entry B)) (s : State B) (floor : ℕ)
      (role : Role B) → e1 ≡ e0 ++ Restart c.own.number ∷ [] → ef ≡ e1 ++ fetch_again c → floor ≡ floor_again c → e2 ≡ ef ++ take c.own.number a ∷ []
      → pending ≡ Boot c.own.number (suc c.own.node.rows.boot) ∷ item_of c.own.number (suc c.own.node.rows.boot) 0 a ∷ []
      → s ≡ saw b.round (begun c.own.number c.members) → e3 ≡ e2 ++ lead (own_ballot c.own.number s.proposer) (suc floor) cast c.helpers
      → role ≡ led_by same s.members floor pending (own_ballot c.own.number s.proposer) (suc floor) cast c.own.number floor
      (votes_then (suc floor) cast c.own) c.helpers
      → votes ≡ behind floor (proposals_of role) → e4 ≡ e3 ++ pass c.own.number c.helpers votes → e4 ≡ e0 ++ comes_back_from same c a b cast
  returns_to b cast votes e0 e1 ef e2 e3 e4 pending s floor role h1 hf is h2 hp hs h3 hr hv h4 =
      joined e0 e3 e4 (gets ++ (take c.own.number a ∷ [] ++ lead b0 (suc floor) cast c.helpers)) (pass c.own.number c.helpers votes)
      (joined_three e0 ef e2 e3 gets (take c.own.number a ∷ []) (lead b0 (suc floor) cast c.helpers)
      (joined e0 e1 ef (Restart c.own.number ∷ []) (fetch_again c) h1 hf) h2 h3) h4
      ∙ (λ i. e0 ++ ((gets ++ (take c.own.number a ∷ lead (next i) (suc (is i)) cast c.helpers)) ++ pass c.own.number c.helpers (all i)))
    where
      gets : List (Event B)
      gets = Restart c.own.number ∷ fetch_again c

      b0 : Ballot
      b0 = own_ballot c.own.number s.proposer

      next : b0 ≡ record { round = suc b.round; node = c.own.number }
      next = next_of c.own.number c.members b.round s hs

      all : votes ≡ behind (floor_again c) (proposals_of (role_again same c a b cast))
      all =
          hv
          ∙ (λ i. behind (is i) (proposals_of
          ((hr ∙ led_same same s.members c.members floor (floor_again c) pending
          (Boot c.own.number (suc c.own.node.rows.boot) ∷ item_of c.own.number (suc c.own.node.rows.boot) 0 a ∷ []) b0
          (record { round = suc b.round; node = c.own.number }) (suc floor) (suc (floor_again c)) cast cast c.own.number (own_again c).number floor
          (floor_again c) (votes_then (suc floor) cast c.own) (votes_then (suc (floor_again c)) cast (own_again c)) c.helpers c.helpers
          (ap (λ (t : State B). t.members) hs) is hp next (ap suc is) refl (sym (number_over (source_again c) c.own)) is
          (ap (λ (f : ℕ). votes_then (suc f) cast c.own) is ∙ sym (votes_over (suc (floor_again c)) cast (source_again c) c.own)) refl) i)))

  -- the first pass
  pub passes_first : (e0 e1 e2 : List (Event B)) (applied round : ℕ) (s : State B) (role : Role B) → applied ≡ log_length c.own.node
      → e1 ≡ e0 ++ look (own_ballot c.own.number c.own.node.proposer) (suc applied) c.helpers → round ≡ seen same c a
      → s ≡ saw round (begun c.own.number c.members)
      → role ≡ led same c.members applied c.own.node.pending (own_ballot c.own.number s.proposer) (suc applied) [] c.own c.helpers
      → e2 ≡ e1 ++ (lead (own_ballot c.own.number s.proposer) (suc applied) [] c.helpers
      ++ pass c.own.number c.helpers (behind applied (proposals_of role)))
      → (e2 ≡ e0 ++ first_pass same c a) × (role ≡ first_role same c a) × (own_ballot c.own.number s.proposer ≡ ballot_after same c a (seen same c a))
      × (behind applied (proposals_of role) ≡ first_votes same c a)
  passes_first e0 e1 e2 applied round s role ha h1 hr hs hl h2 = (
    joined e0 e1 e2 (look fb (suc applied) c.helpers) (lead b0 (suc applied) [] c.helpers ++ pass c.own.number c.helpers votes) h1 h2
        ∙ (λ i. e0 ++ (look fb (suc (ha i)) c.helpers ++ (lead (next i) (suc (ha i)) [] c.helpers ++ pass c.own.number c.helpers (cast i))))
        ∙ ap (λ (es : List (Event B)). e0 ++ es)
        (sym (append_assoc (look fb (suc (log_length c.own.node)) c.helpers)
        (lead (ballot_after same c a (seen same c a)) (suc (log_length c.own.node)) [] c.helpers) (pass c.own.number c.helpers (first_votes same c a)))),
    leads,
    next,
    cast,
  )
    where
      fb : Ballot
      fb = own_ballot c.own.number c.own.node.proposer

      b0 : Ballot
      b0 = own_ballot c.own.number s.proposer

      votes : List (Vote B)
      votes = behind applied (proposals_of role)

      next : b0 ≡ ballot_after same c a (seen same c a)
      next = next_of c.own.number c.members round s hs ∙ ap (λ (z : ℕ). record { round = suc z; node = c.own.number }) hr

      leads : role ≡ first_role same c a
      leads = hl ∙ (λ i. led same c.members (ha i) c.own.node.pending (next i) (suc (ha i)) [] c.own c.helpers)

      cast : votes ≡ first_votes same c a
      cast = λ i. behind (ha i) (proposals_of (leads i))

  -- all together

  pub goes_down : (e0 e2 e3 : List (Event B)) (b : Ballot) (cast : List (Vote B)) → e2 ≡ e0 ++ first_pass same c a
      → b ≡ ballot_after same c a (seen same c a) → cast ≡ first_votes same c a → true ≡ falls same c a → e3 ≡ e2 ++ comes_back_from same c a b cast
      → e3 ≡ e0 ++ level_course same c a
  goes_down e0 e2 e3 b cast p hb hc hf h =
      joined e0 e2 e3 (first_pass same c a) (comes_back_from same c a b cast) p h
      ∙ (λ i. e0 ++ (first_pass same c a ++ comes_back_from same c a (hb i) (hc i)))
      ∙ ap (λ (t : Bool). e0 ++ (first_pass same c a ++ (if t then comes_back same c a else goes_on same c a))) hf

  pub goes_up : (e0 e2 e3 : List (Event B)) (applied log : ℕ) (cast : List (Vote B)) (r : Role B) → e2 ≡ e0 ++ first_pass same c a
      → applied ≡ log_length c.own.node → log ≡ applied + length cast → r ≡ first_role same c a → cast ≡ first_votes same c a
      → false ≡ falls same c a → e3 ≡ e2 ++ goes_on_from same c a (standings_from (standing_of c.own.node) (entries_of cast)) log r
      → e3 ≡ e0 ++ level_course same c a
  goes_up e0 e2 e3 applied log cast r p ha hl hr hc hf h =
      joined e0 e2 e3 (first_pass same c a) (goes_on_from same c a (standings_from (standing_of c.own.node) (entries_of cast)) log r) p h
      ∙ (λ i. e0 ++ (first_pass same c a
      ++ goes_on_from same c a (standings_from (standing_of c.own.node) (entries_of (hc i))) (whole i) (hr i)))
      ∙ ap (λ (t : Bool). e0 ++ (first_pass same c a ++ (if t then comes_back same c a else goes_on same c a))) hf
    where
      whole : log ≡ length_then same c a
      whole = hl ∙ (λ i. ha i + length (hc i))

-- ---- by what is known of a node that is level, as by the node

module _ {B : Type 0} (same : B → B → Bool) (c : Crew B) (a : Act B) (l : Level B) (x : NodeState B) (is : IsLevelOf c.own.node.rows.votes l x)
    (boots : x.rows.boot < 2 ^ 48) where
  in_time : x.rows.boot ≤ 2 ^ 48
  in_time = go x.rows.boot (2 ^ 48) boots
    where
      go : (k end : ℕ) → k < end → k ≤ end
      go k end h = omega arith

  pub boot_is : l.boot ≡ x.rows.boot
  boot_is = is.boot in_time

  pending_is : l.pending ≡ x.pending
  pending_is = is.pending in_time

  pub boot_low : l.boot < 2 ^ 48
  boot_low = subst (λ (k : ℕ). k < 2 ^ 48) (sym boot_is) boots

  votes_are : (first : ℕ) (cast : List (Vote B)) → floor_in x.rows.snapshot < first
      → votes_then first cast (seat_by c.own l) ≡ votes_then first cast (with_own c x).own
  votes_are first cast h = votes_same first cast c.own.node.rows.votes x.rows.votes (is.votes first h)

  above_log : floor_in x.rows.snapshot < suc l.log
  above_log = go (floor_in x.rows.snapshot) (length x.applied) l.log is.log
    where
      go : (f k n : ℕ) → n ≡ f + k → f < suc n
      go f k n e = omega arith

  pub level_first : (e0 e1 e2 : List (Event B)) (round : ℕ) (s : State B) (role : Role B)
      → e1 ≡ e0 ++ look (next_ballot c.own.number l.seen) (suc l.log) c.helpers → round ≡ seen_then (next_ballot c.own.number l.seen) c.helpers
      → s ≡ saw round (begun c.own.number c.members)
      → role ≡ led same c.members l.log l.pending (own_ballot c.own.number s.proposer) (suc l.log) [] (seat_by c.own l) c.helpers
      → e2 ≡ e1 ++ (lead (own_ballot c.own.number s.proposer) (suc l.log) [] c.helpers
      ++ pass c.own.number c.helpers (behind l.log (proposals_of role)))
      → (e2 ≡ e0 ++ first_pass same (with_own c x) a) × (role ≡ first_role same (with_own c x) a)
      × (own_ballot c.own.number s.proposer ≡ ballot_after same (with_own c x) a (seen same (with_own c x) a))
      × (behind l.log (proposals_of role) ≡ first_votes same (with_own c x) a)
  level_first e0 e1 e2 round s role h1 hr hs hl h2 =
      passes_first same (with_own c x) a e0 e1 e2 l.log round s role is.log
      (h1 ∙ (λ i. e0 ++ look (next_ballot c.own.number (is.seen i)) (suc l.log) c.helpers))
      (hr ∙ (λ i. seen_then (next_ballot c.own.number (is.seen i)) c.helpers)) hs
      (hl ∙ led_same same c.members c.members l.log l.log l.pending x.pending b b (suc l.log) (suc l.log) [] [] c.own.number c.own.number
      (floor_in l.snapshot) (floor_in x.rows.snapshot) (votes_then (suc l.log) [] (seat_by c.own l)) (votes_then (suc l.log) [] (with_own c x).own)
      c.helpers c.helpers refl refl pending_is refl refl refl refl (ap (λ (o : Option Snapshot). floor_in o) is.snapshot)
      (votes_are (suc l.log) [] above_log) refl) h2
    where
      b : Ballot
      b = own_ballot c.own.number s.proposer

  goes_same : (stands : ℕ → Standing) (log : ℕ) (r : Role B) → goes_on_from same (crew_by c l) a stands log r ≡ goes_on_from same (with_own c x) a stands log r
  goes_same stands log r =
      λ i. take c.own.number a ∷ pass c.own.number c.helpers (behind log (proposals_of (propose_new same log
      (filter (is_wanted_by stands) (pending_is i) ++ item_of c.own.number (boot_is i) (is.taken i) a ∷ []) r)))

  -- the floor after a restart

  again_is : floor_again (crew_by c l) ≡ floor_again (with_own c x)
  again_is =
      floor_over (source_again (crew_by c l)) (seat_by c.own l)
      ∙ ap (λ (o : Option Snapshot). floor_or (floor_in o) (highest (floor_in o) c.helpers)) is.snapshot
      ∙ sym (floor_over (source_again (with_own c x)) (with_own c x).own)

  above_again : floor_in x.rows.snapshot < suc (floor_again (with_own c x))
  above_again =
      go (floor_in x.rows.snapshot) (floor_again (with_own c x)) (floor_or (floor_in x.rows.snapshot) (highest (floor_in x.rows.snapshot) c.helpers))
      (floor_over (source_again (with_own c x)) (with_own c x).own) (highest_more (floor_in x.rows.snapshot) c.helpers)
    where
      go : (f g h : ℕ) → g ≡ h → f ≤ h → f < suc g
      go f g h e m = omega arith

  role_same : (b : Ballot) (cast : List (Vote B)) → role_again same (crew_by c l) a b cast ≡ role_again same (with_own c x) a b cast
  role_same b cast =
      led_same same c.members c.members (floor_again (crew_by c l)) (floor_again (with_own c x)) (pending_at l.boot) (pending_at x.rows.boot) next next
      (suc (floor_again (crew_by c l))) (suc (floor_again (with_own c x))) cast cast (own_again (crew_by c l)).number (own_again (with_own c x)).number
      (floor_again (crew_by c l)) (floor_again (with_own c x)) (votes_then (suc (floor_again (crew_by c l))) cast (own_again (crew_by c l)))
      (votes_then (suc (floor_again (with_own c x))) cast (own_again (with_own c x))) c.helpers c.helpers refl again_is
      (ap (λ (k : ℕ). pending_at k) boot_is) refl (ap suc again_is) refl
      (number_over (source_again (crew_by c l)) (seat_by c.own l) ∙ sym (number_over (source_again (with_own c x)) (with_own c x).own)) again_is
      (votes_over (suc (floor_again (crew_by c l))) cast (source_again (crew_by c l)) (seat_by c.own l)
      ∙ ap (λ (f : ℕ). votes_then (suc f) cast (seat_by c.own l)) again_is ∙ votes_are (suc (floor_again (with_own c x))) cast above_again
      ∙ sym (votes_over (suc (floor_again (with_own c x))) cast (source_again (with_own c x)) (with_own c x).own)) refl
    where
      next : Ballot
      next = record { round = suc b.round; node = c.own.number }

      pending_at : ℕ → List (Entry B)
      pending_at k = Boot c.own.number (suc k) ∷ item_of c.own.number (suc k) 0 a ∷ []

  back_same : (b : Ballot) (cast : List (Vote B)) → comes_back_from same (crew_by c l) a b cast ≡ comes_back_from same (with_own c x) a b cast
  back_same b cast =
      λ i. Restart c.own.number ∷ fetch_by c.own.number (suc (floor_in (is.snapshot i))) (highest (floor_in (is.snapshot i)) c.helpers) ++ take c.own.number a
      ∷ lead (record { round = suc b.round; node = c.own.number }) (suc (again_is i)) cast c.helpers
      ++ pass c.own.number c.helpers (behind (again_is i) (proposals_of (role_same b cast i)))

  pub level_down : (e0 e2 e3 : List (Event B)) (b : Ballot) (cast : List (Vote B)) → e2 ≡ e0 ++ first_pass same (with_own c x) a
      → b ≡ ballot_after same (with_own c x) a (seen same (with_own c x) a) → cast ≡ first_votes same (with_own c x) a
      → true ≡ falls same (with_own c x) a → e3 ≡ e2 ++ comes_back_from same (crew_by c l) a b cast
      → e3 ≡ e0 ++ level_course same (with_own c x) a
  level_down e0 e2 e3 b cast p hb hc hf h =
      goes_down same (with_own c x) a e0 e2 e3 b cast p hb hc hf (h ∙ ap (λ (es : List (Event B)). e2 ++ es) (back_same b cast))

  pub level_up : (e0 e2 e3 : List (Event B)) (log : ℕ) (cast : List (Vote B)) (r : Role B) → e2 ≡ e0 ++ first_pass same (with_own c x) a
      → log ≡ l.log + length cast → r ≡ first_role same (with_own c x) a → cast ≡ first_votes same (with_own c x) a
      → false ≡ falls same (with_own c x) a
      → e3 ≡ e2 ++ goes_on_from same (crew_by c l) a (standings_from (standing_of x) (entries_of cast)) log r
      → e3 ≡ e0 ++ level_course same (with_own c x) a
  level_up e0 e2 e3 log cast r p hl hr hc hf h =
      goes_up same (with_own c x) a e0 e2 e3 l.log log cast r p is.log hl hr hc hf
      (h ∙ ap (λ (es : List (Event B)). e2 ++ es) (goes_same (standings_from (standing_of x) (entries_of cast)) log r))
