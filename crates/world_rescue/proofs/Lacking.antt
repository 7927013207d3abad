-- Where what a caller proposes to its end had rounds and slots, so had what it calls: the premise of a caller's clause gives that of the call's.
use Rattle.std.proofs.Common.{◌≡◌, inl, inr, ℕ, suc, ◌+◌, ◌<◌, max, Bool, true, false, sym, ap, ◌∙◌, subst, arith}
use Rattle.std.proofs.Common.{List, [], ◌∷◌, drop, length, get_or, Option, Some, Result}
use Rattle.std.specs.Prelude.{IsErrAnd, IsOkUnless, fold, map, if◌then◌else◌}
use Rattle.std.proofs.lemmas.Bool.{cases_Bool}
use Rattle.std.proofs.lemmas.Result.{err_from_is_err_and}
use Rattle.paxos_packets.specs.declared.ballot.Ballot.{Ballot}
use Rattle.paxos_packets.specs.declared.entry.Entry.{Entry}
use Rattle.paxos_packets.specs.declared.vote.Vote.{Vote}
use Rattle.paxos_proposer.specs.Promises.{called_by}
use Rattle.paxos_proposer.specs.Proposals.{stands}
use Rattle.paxos_proposer.specs.Proposer.{own_ballot, is_leading, slots_spent, submitted}
use Rattle.paxos_proposer.specs.Role.{Role}
use Rattle.paxos_proposer.specs.State.{State, begun, saw, started, after_promise, with_role}
use Rattle.world_rescue.proofs.Fitting.{none_left, new_back, hears_now}
use Rattle.world_rescue.proofs.Listing.{rest}
use Rattle.world_rescue.specs.Course.{Seat, floor_of, votes_then, propose_all, propose_new, proposes, hears}
use Rattle.world_rescue.specs.Parts.{led_by}
use Rattle.world_rescue.specs.Room.{has_slots}
use Rattle.world_rescue.specs.declared.fault.CourseFault.{CourseFault}
use Rattle.world_rescue.specs.declared.fault.CourseFault.TheVariants as fault

-- the fault of a call is handed on
pub handed : {A : Type 0} (r : Result A CourseFault) (e : CourseFault) → IsErrAnd r (λ y. y ≡ e) → e ≡ fault.Memory → IsOkUnless r fault.Memory
handed {A} r e h m =
    let told = err_from_is_err_and r h in
    subst (λ (s : Result A CourseFault). IsOkUnless s fault.Memory) (sym told.1) (told.2 ∙ m)

-- a call that had to succeed did not
pub is_no : false ≡ true → ⊥
is_no e = cc

module _ {B : Type 0} where
  -- a leader has a slot for what it proposes
  pub no_slot : (e : Entry B) (r : Role B) → is_leading r ≡ true → (slots_spent r ≡ false → ⊥) → has_slots (submitted e r) ≡ true → ⊥
  no_slot e r l free h = elim (cases_Bool (slots_spent r)) [
    | inl t ↦ none_left e r l t h
    | inr f ↦ free f
  ]

  module _ (same : B → B → Bool) where
    pub unless_new : (applied : ℕ) (e copy : Entry B) (r : Role B) → stands same applied r e ≡ false → copy ≡ e
        → has_slots (propose_new same applied (e ∷ []) r) ≡ true → has_slots (submitted copy r) ≡ true
    unless_new applied e copy r stays is h =
        ap (λ (x : Entry B). has_slots (submitted x r)) is ∙ (ap (λ (t : Bool). has_slots (if t then r else submitted e r)) (sym stays) ∙ h)

    pub proposes_first : (applied : ℕ) (pending : List (Entry B)) (called : Option (List (Entry B))) (es : List (Entry B)) (r : Role B) → called ≡ Some es
        → has_slots (proposes same applied pending called r) ≡ true → has_slots (propose_all es r) ≡ true
    proposes_first applied pending called es r is h =
        new_back same applied pending (propose_all es r)
        (ap (λ (o : Option (List (Entry B))). has_slots (proposes same applied pending o r)) (sym is) ∙ h)

    pub proposes_then : (applied : ℕ) (pending : List (Entry B)) (called : Option (List (Entry B))) (es : List (Entry B)) (r : Role B) (old new : State B)
        → called ≡ Some es → new ≡ with_role (propose_all es r) old → has_slots (proposes same applied pending called r) ≡ true
        → has_slots (propose_new same applied pending new.proposer.role) ≡ true
    proposes_then applied pending called es r old new is at h =
        ap (λ (s : State B). has_slots (propose_new same applied pending s.proposer.role)) at
        ∙ (ap (λ (o : Option (List (Entry B))). has_slots (proposes same applied pending o r)) (sym is) ∙ h)

    pub hears_then : (applied : ℕ) (pending : List (Entry B)) (b : Ballot) (k me floor at_floor : ℕ) (votes told : List (Vote B)) (own : ℕ)
        (called : Option (List (Entry B))) (old new : State B) → k ≡ me → floor ≡ at_floor → votes ≡ told
        → called ≡ called_by old.members k b floor votes own old.proposer.role → new ≡ after_promise k b floor votes own old
        → has_slots (hears same old.members applied pending b me at_floor told own old.proposer.role) ≡ true
        → has_slots (proposes same applied pending called new.proposer.role) ≡ true
    hears_then applied pending b k me floor at_floor votes told own called old new p f q is at h =
        (λ i. has_slots (proposes same applied pending (is i) (at i).proposer.role))
        ∙ ((λ i. has_slots (hears same old.members applied pending b (p i) (f i) (q i) own old.proposer.role)) ∙ h)

    -- at one of the helpers
    pub hears_at : {X : Type 0} (xs : List X) (seat : X → Seat B) (index : ℕ) (x : X) (applied : ℕ) (pending : List (Entry B)) (b : Ballot)
        (votes : Seat B → List (Vote B)) (own members0 members : ℕ) (r0 r : Role B) (s0 s : State B) → index < length xs → x ≡ get_or xs index x
        → with_role (fold (λ r s. hears same members applied pending b s.number (floor_of s) (votes s) own r) r (map seat (drop index xs))) s
        ≡ with_role (fold (λ r s. hears same members0 applied pending b s.number (floor_of s) (votes s) own r) r0 (map seat xs)) s0
        → has_slots (fold (λ r s. hears same members0 applied pending b s.number (floor_of s) (votes s) own r) r0 (map seat xs)) ≡ true
        → has_slots (hears same members applied pending b (seat x).number (floor_of (seat x)) (votes (seat x)) own r) ≡ true
    hears_at {X} xs seat index x applied pending b votes own members0 members r0 r s0 s l is so_far h =
        hears_now same applied pending b votes own members0 members (map seat xs) (map seat (drop index xs)) (map seat (drop (index + 1) xs)) (seat x) r0 r
        s0 s so_far (ap (λ (ys : List X). map seat ys) (rest xs index x l is)) h

    pub led_then : (applied : ℕ) (pending : List (Entry B)) (b : Ballot) (first : ℕ) (cast : List (Vote B)) (n floor : ℕ) (votes told : List (Vote B))
        (helpers : List (Seat B)) (old new : State B) → old.me ≡ n → b ≡ own_ballot old.me old.proposer → votes ≡ told
        → new ≡ started first floor votes old
        → has_slots (led_by same old.members applied pending (own_ballot n old.proposer) first cast n floor told helpers) ≡ true
        → has_slots (fold (λ r s. hears same new.members applied pending b s.number (floor_of s) (votes_then first cast s) floor r)
        new.proposer.role helpers) ≡ true
    led_then applied pending b first cast n floor votes told helpers old new me is same_votes at h =
        (λ i. has_slots (fold (λ r s. hears same (at i).members applied pending (is i) s.number (floor_of s) (votes_then first cast s) floor r)
        (at i).proposer.role helpers))
        ∙ ((λ i. has_slots (led_by same old.members applied pending (own_ballot (me i) old.proposer) first cast (me i) floor (same_votes i) helpers))
        ∙ h)

    -- what the node leads by, as its caller knows it
    pub led_same : (members m applied log : ℕ) (pending ps : List (Entry B)) (b c : Ballot) (first f : ℕ) (cast vs : List (Vote B)) (n k floor o : ℕ)
        (votes us : List (Vote B)) (helpers hs : List (Seat B)) → members ≡ m → applied ≡ log → pending ≡ ps → b ≡ c → first ≡ f → cast ≡ vs → n ≡ k
        → floor ≡ o → votes ≡ us → helpers ≡ hs
        → led_by same members applied pending b first cast n floor votes helpers ≡ led_by same m log ps c f vs k o us hs
    led_same members m applied log pending ps b c first f cast vs n k floor o votes us helpers hs p q r s t u v w x y =
        λ i. led_by same (p i) (q i) (r i) (s i) (t i) (u i) (v i) (w i) (x i) (y i)

-- a round that was seen
pub saw_below : {B : Type 0} (n members round low end : ℕ) (s : State B) → s ≡ saw round (begun n members) → round ≡ low → suc low < end
    → suc s.proposer.seen < end
saw_below {B} n members round low end s is same l =
    subst (λ (t : State B). suc t.proposer.seen < end) (sym is) (go round low same l)
  where
    go : (r k : ℕ) → r ≡ k → suc k < end → suc (max 0 r) < end
    go r k e g = omega arith

-- and the ballot in which the node led then
pub saw_again : {B : Type 0} (n members round low end : ℕ) (s : State B) → s ≡ saw round (begun n members) → round ≡ low → suc (suc low) < end
    → suc (own_ballot n s.proposer).round < end
saw_again {B} n members round low end s is same l =
    subst (λ (t : State B). suc (suc t.proposer.seen) < end) (sym is) (go round low same l)
  where
    go : (r k : ℕ) → r ≡ k → suc (suc k) < end → suc (suc (max 0 r)) < end
    go r k e g = omega arith
