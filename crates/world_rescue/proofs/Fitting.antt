-- A course finds the rounds and slots that it needs, if those that its crew holds leave room.
use Rattle.std.proofs.Common.{◌≡◌, ℕ, zero, suc, ◌+◌, ◌-◌, ◌<◌, ◌≤◌, max, Bool, true, false, not, ◌&&◌, refl, sym, ap, ◌∙◌, subst, arith}
use Rattle.std.proofs.Common.{List, [], ◌∷◌, ◌++◌, length, length-append, Option, Some, None}
use Rattle.std.specs.Prelude.{All, fold, filter, nat_lt, nat_le, ◌==◌, if◌then◌else◌}
use Rattle.std.proofs.lemmas.Bool.{cond_both, leb-true, ltb-true, le-leb, lt-ltb}
use Rattle.std.proofs.lemmas.List.Elements.{All-nil, All-cons, All-head, All-tail, All-append, All-weaker, All-filter}
use Rattle.paxos_packets.specs.Ballot.{below, same_ballot}
use Rattle.paxos_packets.specs.Members.{is_majority}
use Rattle.paxos_packets.specs.Snapshot.{Snapshot, floor_in}
use Rattle.paxos_packets.specs.Vote.{put_vote, put_votes}
use Rattle.paxos_packets.specs.declared.ballot.Ballot.{Ballot}
use Rattle.paxos_packets.specs.declared.entry.Entry.{Entry}
use Rattle.paxos_packets.specs.declared.vote.Vote.{Vote}
use Rattle.paxos_proposer.specs.declared.promises.CountedPromise.{CountedPromise}
use Rattle.paxos_proposer.specs.Promises.{calls, with_promises, and_promise_of, above_floors, lowest}
use Rattle.paxos_proposer.specs.Proposals.{stands, behind}
use Rattle.paxos_proposer.specs.Proposer.{round_of, round_end, slot_end, own_ballot, is_spent, is_leading, slots_spent, asking, next_vote, submitted}
use Rattle.paxos_proposer.specs.Proposing.{proposals_of}
use Rattle.paxos_proposer.specs.Reports.{is_counted, reports, past_reports, called_in, called_for}
use Rattle.paxos_proposer.specs.Role.{Role, Idle, Preparing, Leading, ProposerState}
use Rattle.paxos_proposer.specs.State.{State, with_role, after_submit}
use Rattle.replica_machine.specs.declared.roll.Standing.{Standing}
use Rattle.replica_machine.specs.Roll.{is_wanted_by}
use Rattle.world_rescue.specs.Course.{Seat, Crew, Act, floor_of, refused_round, votes_then, propose_all, propose_new, proposes, hears, led}
use Rattle.world_rescue.specs.Course.{seen, source_again, seat_over, own_again, floor_again}
use Rattle.world_rescue.specs.Reaching.{Source, floor_or, higher_by, higher, highest}
use Rattle.world_rescue.specs.Room.{has_slots, HoldsUpTo, IsUpTo, LeavesRoom}

-- ---- what came to a slot had the slots before it

module _ {B : Type 0} where
  pub submits_back : (e : Entry B) (r : Role B) → has_slots (submitted e r) ≡ true → has_slots r ≡ true
  submits_back e Idle h = refl
  submits_back e (Preparing b first cs) h = refl
  submits_back e (Leading b next table) h = le-leb next slot_end (go slot_end (leb-true (suc next) slot_end h))
    where
      go : (end : ℕ) → suc next ≤ end → next ≤ end
      go end l = omega arith

  pub all_back : (es : List (Entry B)) (r : Role B) → has_slots (propose_all es r) ≡ true → has_slots r ≡ true
  all_back [] r h = h
  all_back (e ∷ es) r h = submits_back e r (all_back es (submitted e r) h)

  -- a leader without a slot left cannot have proposed one more
  pub none_left : (e : Entry B) (r : Role B) → is_leading r ≡ true → slots_spent r ≡ true → has_slots (submitted e r) ≡ true → ⊥
  none_left e Idle l s h = cc
  none_left e (Preparing b first cs) l s h = cc
  none_left e (Leading b next table) l s h = off (ap not (sym (lt-ltb next slot_end (go slot_end (leb-true (suc next) slot_end h)))) ∙ s)
    where
      off : false ≡ true → ⊥
      off q = cc

      go : (end : ℕ) → suc next ≤ end → next < end
      go end l = omega arith

  -- one that does not lead proposes nothing
  pub not_leading : (e : Entry B) (s : State B) → is_leading s.proposer.role ≡ false → s ≡ after_submit e s
  not_leading e s h = ap (λ (r : Role B). with_role r s) (go s.proposer.role h)
    where
      go : (r : Role B) → is_leading r ≡ false → r ≡ submitted e r
      go Idle h = refl
      go (Preparing b first cs) h = refl
      go (Leading b next table) h = cc

  module _ (same : B → B → Bool) where
    pub new_back : (applied : ℕ) (es : List (Entry B)) (r : Role B) → has_slots (propose_new same applied es r) ≡ true → has_slots r ≡ true
    new_back applied [] r h = h
    new_back applied (e ∷ es) r h =
        cond_both (stands same applied r e) r (submitted e r) (λ (s : Role B). has_slots s ≡ true → has_slots r ≡ true) (λ t g. g)
        (λ t g. submits_back e r g) (new_back applied es (if stands same applied r e then r else submitted e r) h)

    pub proposes_back : (applied : ℕ) (pending : List (Entry B)) (called : Option (List (Entry B))) (r : Role B)
        → has_slots (proposes same applied pending called r) ≡ true → has_slots r ≡ true
    proposes_back applied pending None r h = h
    proposes_back applied pending (Some es) r h = all_back es r (new_back applied pending (propose_all es r) h)

    pub hears_back : (members applied : ℕ) (pending : List (Entry B)) (b : Ballot) (k floor : ℕ) (votes : List (Vote B)) (own : ℕ) (r : Role B)
        → has_slots (hears same members applied pending b k floor votes own r) ≡ true → has_slots r ≡ true
    hears_back members applied pending b k floor votes own Idle h = refl
    hears_back members applied pending b k floor votes own (Preparing c first cs) h = refl
    hears_back members applied pending b k floor votes own (Leading c next table) h = h

    pub folds_back : (members applied : ℕ) (pending : List (Entry B)) (b : Ballot) (votes : Seat B → List (Vote B)) (own : ℕ) (seats : List (Seat B)) (r : Role B)
        → has_slots (fold (λ r s. hears same members applied pending b s.number (floor_of s) (votes s) own r) r seats) ≡ true → has_slots r ≡ true
    folds_back members applied pending b votes own [] r h = h
    folds_back members applied pending b votes own (s ∷ seats) r h =
        hears_back members applied pending b s.number (floor_of s) (votes s) own r
        (folds_back members applied pending b votes own seats
        (hears same members applied pending b s.number (floor_of s) (votes s) own r) h)

-- ---- in the midst of a list, what is proposed to its end had slots

module _ {B : Type 0} where
  pub all_now : (es rest more : List (Entry B)) (e : Entry B) (r0 r : Role B) (s0 s : State B)
      → with_role (propose_all rest r) s ≡ with_role (propose_all es r0) s0 → rest ≡ e ∷ more → has_slots (propose_all es r0) ≡ true
      → has_slots (submitted e r) ≡ true
  all_now es rest more e r0 r s0 s so_far is h =
      all_back more (submitted e r)
      (ap (λ (l : List (Entry B)). has_slots (propose_all l r)) (sym is) ∙ (ap (λ (t : State B). has_slots t.proposer.role) so_far ∙ h))

  module _ (same : B → B → Bool) (applied : ℕ) where
    pub new_now : (es rest more : List (Entry B)) (e : Entry B) (r0 r : Role B) (s0 s : State B)
        → with_role (propose_new same applied rest r) s ≡ with_role (propose_new same applied es r0) s0 → rest ≡ e ∷ more
        → has_slots (propose_new same applied es r0) ≡ true → has_slots (propose_new same applied (e ∷ []) r) ≡ true
    new_now es rest more e r0 r s0 s so_far is h =
        new_back same applied more (propose_new same applied (e ∷ []) r)
        (ap (λ (l : List (Entry B)). has_slots (propose_new same applied l r)) (sym is)
        ∙ (ap (λ (t : State B). has_slots t.proposer.role) so_far ∙ h))

    pub hears_now : (pending : List (Entry B)) (b : Ballot) (votes : Seat B → List (Vote B)) (own members0 members : ℕ) (seats rest more : List (Seat B))
        (x : Seat B) (r0 r : Role B) (s0 s : State B)
        → with_role (fold (λ r s. hears same members applied pending b s.number (floor_of s) (votes s) own r) r rest) s
        ≡ with_role (fold (λ r s. hears same members0 applied pending b s.number (floor_of s) (votes s) own r) r0 seats) s0
        → rest ≡ x ∷ more → has_slots (fold (λ r s. hears same members0 applied pending b s.number (floor_of s) (votes s) own r) r0 seats) ≡ true
        → has_slots (hears same members applied pending b x.number (floor_of x) (votes x) own r) ≡ true
    hears_now pending b votes own members0 members seats rest more x r0 r s0 s so_far is h =
        folds_back same members applied pending b votes own more
        (hears same members applied pending b x.number (floor_of x) (votes x) own r)
        (ap (λ (l : List (Seat B)). has_slots (fold (λ r s. hears same members applied pending b s.number (floor_of s) (votes s) own r) r l)) (sym is)
        ∙ (ap (λ (t : State B). has_slots t.proposer.role) so_far ∙ h))

pub not_spent : {B : Type 0} (p : ProposerState B) → suc p.seen < round_end → is_spent p ≡ false
not_spent p l = ap not (lt-ltb (suc p.seen) round_end l)

-- ---- votes below a slot

abbrev pub AreBelow : {B : Type 0} → ℕ → List (Vote B) → Type 0
AreBelow {B} past votes = All (λ (v : Vote B). v.slot < past) votes

module _ {B : Type 0} where
  below_more : (past more : ℕ) (votes : List (Vote B)) → past ≤ more → AreBelow past votes → AreBelow more votes
  below_more past more votes l h = All-weaker (λ (v : Vote B). v.slot < past) (λ v. v.slot < more) (λ v g. go v.slot g) votes h
    where
      go : (a : ℕ) → a < past → a < more
      go a g = omega arith

  below_up : (slot : ℕ) (votes : List (Vote B)) → All (λ (v : Vote B). v.slot ≤ slot) votes → AreBelow (suc slot) votes
  below_up slot votes h = All-weaker (λ (v : Vote B). v.slot ≤ slot) (λ v. v.slot < suc slot) (λ v g. go v.slot g) votes h
    where
      go : (a : ℕ) → a ≤ slot → a < suc slot
      go a g = omega arith

  below_put : (past : ℕ) (v : Vote B) (votes : List (Vote B)) → v.slot < past → AreBelow past votes → AreBelow past (put_vote v votes)
  below_put past v [] l h = All-cons (λ (w : Vote B). w.slot < past) v [] l h
  below_put past v (w ∷ ws) l h =
      let P : Vote B → Type 0 = λ u. u.slot < past in
      let head = All-head P w ws h in
      let tail = All-tail P w ws h in
      cond_both (v.slot == w.slot) (v ∷ ws) (if nat_lt v.slot w.slot then v ∷ (w ∷ ws) else w ∷ put_vote v ws) (λ us. AreBelow past us)
      (λ t. All-cons P v ws l tail)
      (λ t. cond_both (nat_lt v.slot w.slot) (v ∷ (w ∷ ws)) (w ∷ put_vote v ws) (λ us. AreBelow past us) (λ t. All-cons P v (w ∷ ws) l h)
      (λ t. All-cons P w (put_vote v ws) head (below_put past v ws l tail)))

  below_puts : (past : ℕ) (cast votes : List (Vote B)) → AreBelow past cast → AreBelow past votes → AreBelow past (put_votes cast votes)
  below_puts past [] votes c h = h
  below_puts past (v ∷ cast) votes c h =
      below_puts past cast (put_vote v votes) (All-tail (λ (u : Vote B). u.slot < past) v cast c)
      (below_put past v votes (All-head (λ (u : Vote B). u.slot < past) v cast c) h)

  -- what a node reports, once it cast these as well
  below_then : (past first : ℕ) (cast : List (Vote B)) (s : Seat B) → AreBelow past cast → AreBelow past s.node.rows.votes
      → AreBelow past (votes_then first cast s)
  below_then past first cast s c h =
      All-filter (λ (v : Vote B). nat_le first v.slot) (λ (v : Vote B). v.slot < past) (put_votes cast s.node.rows.votes)
      (below_puts past cast s.node.rows.votes c h)

  past_low : (first past : ℕ) (votes : List (Vote B)) → first ≤ past → AreBelow past votes → past_reports first votes ≤ past
  past_low first past [] l h = l
  past_low first past (v ∷ votes) l h =
      both v.slot (past_reports first votes) (All-head (λ (u : Vote B). u.slot < past) v votes h)
      (past_low first past votes l (All-tail (λ (u : Vote B). u.slot < past) v votes h))
    where
      both : (a c : ℕ) → a < past → c ≤ past → max (suc a) c ≤ past
      both a c g i = omega arith

  past_first : (first : ℕ) (votes : List (Vote B)) → first ≤ past_reports first votes
  past_first first [] = omega arith
  past_first first (v ∷ votes) = more v.slot (past_reports first votes) (past_first first votes)
    where
      more : (a c : ℕ) → first ≤ c → first ≤ max (suc a) c
      more a c l = omega arith

  called_length : (votes : List (Vote B)) (slot k : ℕ) → length (called_in votes slot k) ≡ k
  called_length votes slot zero = refl
  called_length votes slot (suc k) = ap suc (called_length votes (suc slot) k)

-- floors below a slot

abbrev pub AreFloorsBelow : {B : Type 0} → ℕ → List (CountedPromise B) → Type 0
AreFloorsBelow {B} past cs = All (λ (c : CountedPromise B). c.floor < past) cs

module _ {B : Type 0} where
  above_low : (slot past : ℕ) (cs : List (CountedPromise B)) → slot ≤ past → AreFloorsBelow past cs → above_floors slot cs ≤ past
  above_low slot past [] l h = l
  above_low slot past (c ∷ cs) l h =
      above_low (max slot (suc c.floor)) past cs (both c.floor (All-head (λ (d : CountedPromise B). d.floor < past) c cs h))
      (All-tail (λ (d : CountedPromise B). d.floor < past) c cs h)
    where
      both : (a : ℕ) → a < past → max slot (suc a) ≤ past
      both a g = omega arith

  lowest_low : (first own past : ℕ) (cs : List (CountedPromise B)) → first ≤ past → own < past → AreFloorsBelow past cs
      → lowest first own cs ≤ past
  lowest_low first own past cs l g h = above_low (max first (suc own)) past cs (both first own l g) h
    where
      both : (a c : ℕ) → a ≤ past → c < past → max a (suc c) ≤ past
      both a c i j = omega arith

-- ---- a role keeps below a slot

-- a leader proposes in a slot up to `most` next, and has proposed before it; who asks for votes asks, and was told, of slots and floors below
-- `past`
abbrev pub Fits : {B : Type 0} → ℕ → ℕ → Role B → Type 0
Fits past most Idle = Unit {0}
Fits past most (Preparing b first cs) = (first ≤ past) × AreBelow past (reports cs) × AreFloorsBelow past cs
Fits past most (Leading b next table) = (next ≤ most) × AreBelow most table

module _ {B : Type 0} where
  fits_more : (past most more : ℕ) (r : Role B) → most ≤ more → Fits past most r → Fits past more r
  fits_more past most more Idle l f = f
  fits_more past most more (Preparing b first cs) l f = f
  fits_more past most more (Leading b next table) l f = (go next f.0, below_more most more table l f.1)
    where
      go : (a : ℕ) → a ≤ most → a ≤ more
      go a g = omega arith

  submits : (past most : ℕ) (e : Entry B) (r : Role B) → Fits past most r → Fits past (suc most) (submitted e r)
  submits past most e Idle f = f
  submits past most e (Preparing b first cs) f = f
  submits past most e (Leading b next table) f = (
    up next f.0,
    All-append (λ (v : Vote B). v.slot < suc most) table (next_vote b next e ∷ []) (below_more most (suc most) table (step most) f.1)
        (All-cons (λ (v : Vote B). v.slot < suc most) (next_vote b next e) [] (in_turn next f.0) (All-nil (λ (v : Vote B). v.slot < suc most))),
  )
    where
      up : (a : ℕ) → a ≤ most → suc a ≤ suc most
      up a g = omega arith

      step : (a : ℕ) → a ≤ suc a
      step a = omega arith

      in_turn : (a : ℕ) → a ≤ most → a < suc most
      in_turn a g = omega arith

  submits_all : (past most : ℕ) (es : List (Entry B)) (r : Role B) → Fits past most r → Fits past (most + length es) (propose_all es r)
  submits_all past most [] r f = fits_more past most (most + 0) r (omega arith) f
  submits_all past most (e ∷ es) r f =
      fits_more past (suc most + length es) (most + suc (length es)) (propose_all es (submitted e r)) (same (length es))
      (submits_all past (suc most) es (submitted e r) (submits past most e r f))
    where
      same : (k : ℕ) → suc most + k ≤ most + suc k
      same k = omega arith

  submits_new : (same : B → B → Bool) (applied past most : ℕ) (es : List (Entry B)) (r : Role B) → Fits past most r
      → Fits past (most + length es) (propose_new same applied es r)
  submits_new same applied past most [] r f = fits_more past most (most + 0) r (omega arith) f
  submits_new same applied past most (e ∷ es) r f =
      fits_more past (suc most + length es) (most + suc (length es)) (propose_new same applied es one) (equal (length es))
      (submits_new same applied past (suc most) es one
      (cond_both (stands same applied r e) r (submitted e r) (λ (s : Role B). Fits past (suc most) s)
      (λ t. fits_more past most (suc most) r (step most) f) (λ t. submits past most e r f)))
    where
      one : Role B
      one = if stands same applied r e then r else submitted e r

      equal : (k : ℕ) → suc most + k ≤ most + suc k
      equal k = omega arith

      step : (a : ℕ) → a ≤ suc a
      step a = omega arith

  below_reports : (past k floor : ℕ) (votes : List (Vote B)) (cs : List (CountedPromise B)) → AreBelow past (reports cs) → AreBelow past votes
      → AreBelow past (reports (and_promise_of k floor votes cs))
  below_reports past k floor votes [] h l = All-append (λ (v : Vote B). v.slot < past) votes [] l h
  below_reports past k floor votes (c ∷ cs) h l =
      go (reports cs) (reports (and_promise_of k floor votes cs)) h (λ g. below_reports past k floor votes cs g l)
    where
      P : Vote B → Type 0
      P v = v.slot < past

      go : (old new : List (Vote B)) → All P (c.votes ++ old) → (All P old → All P new) → All P (c.votes ++ new)
      go old new a f = All-append P c.votes new (front c.votes old a) (f (back c.votes old a))
        where
          front : (xs ys : List (Vote B)) → All P (xs ++ ys) → All P xs
          front [] ys a = All-nil P
          front (x ∷ xs) ys a = All-cons P x xs (All-head P x (xs ++ ys) a) (front xs ys (All-tail P x (xs ++ ys) a))

          back : (xs ys : List (Vote B)) → All P (xs ++ ys) → All P ys
          back [] ys a = a
          back (x ∷ xs) ys a = back xs ys (All-tail P x (xs ++ ys) a)

  -- what the promises call for is in slots below `past`, and what is pending after it
  leads : (same : B → B → Bool) (applied past most first : ℕ) (pending : List (Entry B)) (b : Ballot) (cs : List (CountedPromise B))
      → first ≤ past → AreBelow past (reports cs) → past + length pending ≤ most
      → Fits past most (propose_new same applied pending (propose_all (called_for first (reports cs)) (Leading b first [])))
  leads same applied past most first pending b cs l h room =
      fits_more past (past + length pending) most (propose_new same applied pending (propose_all called (Leading b first []))) room
      (submits_new same applied past past pending (propose_all called (Leading b first []))
      (fits_more past (first + length called) past (propose_all called (Leading b first [])) whole
      (submits_all past first called (Leading b first []) (itself first, All-nil (λ (v : Vote B). v.slot < first)))))
    where
      called : List (Entry B)
      called = called_for first (reports cs)

      itself : (a : ℕ) → a ≤ a
      itself a = omega arith

      whole : first + length called ≤ past
      whole =
          go (past_reports first (reports cs)) (length called) (called_length (reports cs) first (past_reports first (reports cs) - first))
          (past_first first (reports cs)) (past_low first past (reports cs) l h)
        where
          go : (a c : ℕ) → c ≡ a - first → first ≤ a → a ≤ past → first + c ≤ past
          go a c e g i = omega arith

  hears_one : (same : B → B → Bool) (members applied past most : ℕ) (pending : List (Entry B)) (b : Ballot) (k floor : ℕ) (votes : List (Vote B))
      (own : ℕ) (r : Role B) → past + length pending ≤ most → AreBelow past votes → floor < past → own < past → Fits past most r
      → Fits past most (hears same members applied pending b k floor votes own r)
  hears_one same members applied past most pending b k floor votes own Idle room v g o f = f
  hears_one same members applied past most pending b k floor votes own (Leading c next table) room v g o f = f
  hears_one same members applied past most pending b k floor votes own (Preparing c first cs) room v g o f =
      go (same_ballot b c && not (is_counted cs k))
    where
      one : CountedPromise B
      one = record { node = k; floor = floor; votes = votes }

      more : List (CountedPromise B)
      more = and_promise_of k floor votes cs

      told : AreBelow past (reports more)
      told = below_reports past k floor votes cs f.1 v

      floors : AreFloorsBelow past more
      floors =
          All-append (λ (d : CountedPromise B). d.floor < past) cs (one ∷ []) f.2
          (All-cons (λ (d : CountedPromise B). d.floor < past) one [] g (All-nil (λ (d : CountedPromise B). d.floor < past)))

      low : ℕ
      low = lowest first own more

      enough : (m : Bool) → Fits past most
          (proposes same applied pending (if m then Some (called_for low (reports more)) else None) (if m then Leading c low [] else Preparing c first more))
      enough true = leads same applied past most low pending c more (lowest_low first own past more f.0 o floors) told room
      enough false = (f.0, told, floors)

      go : (m : Bool) → Fits past most
          (proposes same applied pending (if m then calls members first own more else None)
          (if m then with_promises members c first own more else Preparing c first cs))
      go true = enough (is_majority members (is_counted more))
      go false = f

  hears_each : (same : B → B → Bool) (members applied past most : ℕ) (pending : List (Entry B)) (b : Ballot) (votes : Seat B → List (Vote B))
      (own : ℕ) (seats : List (Seat B)) (r : Role B) → past + length pending ≤ most → own < past
      → All (λ (s : Seat B). AreBelow past (votes s)) seats → All (λ (s : Seat B). floor_of s < past) seats → Fits past most r
      → Fits past most (fold (λ r s. hears same members applied pending b s.number (floor_of s) (votes s) own r) r seats)
  hears_each same members applied past most pending b votes own [] r room o v g f = f
  hears_each same members applied past most pending b votes own (s ∷ seats) r room o v g f =
      hears_each same members applied past most pending b votes own seats
      (hears same members applied pending b s.number (floor_of s) (votes s) own r) room o
      (All-tail (λ (s : Seat B). AreBelow past (votes s)) s seats v) (All-tail (λ (s : Seat B). floor_of s < past) s seats g)
      (hears_one same members applied past most pending b s.number (floor_of s) (votes s) own r room
      (All-head (λ (s : Seat B). AreBelow past (votes s)) s seats v) (All-head (λ (s : Seat B). floor_of s < past) s seats g) o f)

  -- so the node leads in such slots
  pub led_fits : (same : B → B → Bool) (members applied past most first : ℕ) (pending : List (Entry B)) (b : Ballot) (cast : List (Vote B)) (own : Seat B)
      (helpers : List (Seat B)) → first ≤ past → past + length pending ≤ most → AreBelow past cast → AreBelow past own.node.rows.votes
      → floor_of own < past → All (λ (s : Seat B). AreBelow past s.node.rows.votes) helpers → All (λ (s : Seat B). floor_of s < past) helpers
      → Fits past most (led same members applied pending b first cast own helpers)
  led_fits same members applied past most first pending b cast own helpers low room c o f h g =
      hears_each same members applied past most pending b (λ s. votes_then first cast s) (floor_of own) helpers
      (asking own.number b first (floor_of own) (votes_then first cast own)) room f
      (All-weaker (λ (s : Seat B). AreBelow past s.node.rows.votes) (λ s. AreBelow past (votes_then first cast s)) (λ s g. below_then past first cast s c g)
      helpers h) g (
        low,
        All-append (λ (v : Vote B). v.slot < past) (votes_then first cast own) [] (below_then past first cast own c o)
            (All-nil (λ (v : Vote B). v.slot < past)),
        All-cons (λ (d : CountedPromise B). d.floor < past) (record { node = own.number; floor = floor_of own; votes = votes_then first cast own }) []
            f (All-nil (λ (d : CountedPromise B). d.floor < past)),
      )

  pub fits_slots : (past most : ℕ) (r : Role B) → most ≤ slot_end → Fits past most r → has_slots r ≡ true
  fits_slots past most Idle l f = refl
  fits_slots past most (Preparing b first cs) l f = refl
  fits_slots past most (Leading b next table) l f = le-leb next slot_end (go slot_end l f.0)
    where
      go : (end : ℕ) → most ≤ end → next ≤ most → next ≤ end
      go end l g = omega arith

  fits_votes : (past most applied : ℕ) (r : Role B) → Fits past most r → AreBelow most (behind applied (proposals_of r))
  fits_votes past most applied Idle f = All-nil (λ (v : Vote B). v.slot < most)
  fits_votes past most applied (Preparing b first cs) f = All-nil (λ (v : Vote B). v.slot < most)
  fits_votes past most applied (Leading b next table) f = All-filter (λ (v : Vote B). nat_lt applied v.slot) (λ (v : Vote B). v.slot < most) table f.1

filter_few : {A : Type 0} (p : A → Bool) (xs : List A) → length (filter p xs) ≤ length xs
filter_few p [] = omega arith
filter_few {A} p (x ∷ xs) =
    cond_both (p x) (x ∷ filter p xs) (filter p xs) (λ (l : List A). length l ≤ suc (length xs)) (λ t. one (length (filter p xs)) (filter_few p xs))
    (λ t. none (length (filter p xs)) (filter_few p xs))
  where
    one : (a : ℕ) → a ≤ length xs → suc a ≤ suc (length xs)
    one a l = omega arith

    none : (a : ℕ) → a ≤ length xs → a ≤ suc (length xs)
    none a l = omega arith

-- ---- the snapshot that is found

-- its floor is none above the greatest one
pub highest_low : {B : Type 0} (floor slot : ℕ) (seats : List (Seat B)) → floor ≤ slot → All (λ (s : Seat B). floor_of s ≤ slot) seats
    → floor_or floor (highest floor seats) ≤ slot
highest_low {B} floor slot seats l h = go None seats l h
  where
    go : (found : Option Source) (seats : List (Seat B)) → floor_or floor found ≤ slot → All (λ (s : Seat B). floor_of s ≤ slot) seats
        → floor_or floor (fold (higher floor) found seats) ≤ slot
    go found [] l h = l
    go found (s ∷ seats) l h =
        go (higher floor found s) seats (one s.node.rows.snapshot (All-head (λ (s : Seat B). floor_of s ≤ slot) s seats h))
        (All-tail (λ (s : Seat B). floor_of s ≤ slot) s seats h)
      where
        one : (o : Option Snapshot) → floor_in o ≤ slot → floor_or floor (higher_by floor found s.number o) ≤ slot
        one None g = l
        one (Some t) g =
            cond_both (nat_lt (floor_or floor found) t.floor) (Some (record { number = s.number; snapshot = t })) found
            (λ (x : Option Source). floor_or floor x ≤ slot) (λ e. g) (λ e. l)

-- and not below this one
pub highest_more : {B : Type 0} (floor : ℕ) (seats : List (Seat B)) → floor ≤ floor_or floor (highest floor seats)
highest_more {B} floor seats = go None seats (itself floor)
  where
    itself : (k : ℕ) → k ≤ k
    itself k = omega arith

    over : (a c e : ℕ) → a ≤ c → c < e → a ≤ e
    over a c e l m = omega arith

    go : (found : Option Source) (seats : List (Seat B)) → floor ≤ floor_or floor found → floor ≤ floor_or floor (fold (higher floor) found seats)
    go found [] l = l
    go found (s ∷ seats) l = go (higher floor found s) seats (one s.node.rows.snapshot)
      where
        one : (o : Option Snapshot) → floor ≤ floor_or floor (higher_by floor found s.number o)
        one None = l
        one (Some t) =
            cond_both (nat_lt (floor_or floor found) t.floor) (Some (record { number = s.number; snapshot = t })) found
            (λ (x : Option Source). floor ≤ floor_or floor x) (λ e. over floor (floor_or floor found) t.floor l (ltb-true (floor_or floor found) t.floor e))
            (λ e. l)

-- ---- a crew that leaves room

module _ {B : Type 0} (same : B → B → Bool) (c : Crew B) (a : Act B) (round slot most : ℕ) (low : IsUpTo round slot most c)
    (room : LeavesRoom round slot most) where
  pub own_round : suc c.own.node.proposer.seen < round_end
  own_round = go c.own.node.proposer.seen round_end low.seen room.rounds
    where
      go : (s end : ℕ) → s ≤ round → suc (suc (suc round)) < end → suc s < end
      go s end l h = omega arith

  refused_low : (s : Seat B) → HoldsUpTo round slot s → refused_round (own_ballot c.own.number c.own.node.proposer) s.node.rows.promised ≤ round
  refused_low s h = of s.node.rows.promised h.promised
    where
      of : (p : Option Ballot) → round_of p ≤ round → refused_round (own_ballot c.own.number c.own.node.proposer) p ≤ round
      of None l = l
      of (Some p) l =
          cond_both (below p (own_ballot c.own.number c.own.node.proposer)) 0 p.round (λ r. r ≤ round) (λ t. least round) (λ t. l)
        where
          least : (k : ℕ) → 0 ≤ k
          least k = omega arith

  seen_most : (f : Seat B → ℕ) (seats : List (Seat B)) (r : ℕ) → r ≤ suc round → All (λ (s : Seat B). f s ≤ round) seats
      → fold (λ m s. max m (f s)) r seats ≤ suc round
  seen_most f [] r l h = l
  seen_most f (s ∷ seats) r l h =
      seen_most f seats (max r (f s)) (both (f s) (All-head (λ (s : Seat B). f s ≤ round) s seats h)) (All-tail (λ (s : Seat B). f s ≤ round) s seats h)
    where
      both : (k : ℕ) → k ≤ round → max r k ≤ suc round
      both k g = omega arith

  seen_low : seen same c a ≤ suc round
  seen_low =
      seen_most (λ s. refused_round (own_ballot c.own.number c.own.node.proposer) s.node.rows.promised) c.helpers (suc c.own.node.proposer.seen)
      (up c.own.node.proposer.seen low.seen)
      (All-weaker (λ (s : Seat B). HoldsUpTo round slot s)
      (λ s. refused_round (own_ballot c.own.number c.own.node.proposer) s.node.rows.promised ≤ round) (λ s h. refused_low s h) c.helpers low.helpers)
    where
      up : (k : ℕ) → k ≤ round → suc k ≤ suc round
      up k l = omega arith

  -- the ballots in which it leads
  pub lead_rounds : (suc (seen same c a) < round_end) × (suc (suc (seen same c a)) < round_end)
  lead_rounds = go (seen same c a) round_end seen_low room.rounds
    where
      go : (s end : ℕ) → s ≤ suc round → suc (suc (suc round)) < end → (suc s < end) × (suc (suc s) < end)
      go s end l h = (omega arith, omega arith)

  others_low : All (λ (s : Seat B). AreBelow (suc slot) s.node.rows.votes) c.helpers
  others_low =
      All-weaker (λ (s : Seat B). HoldsUpTo round slot s) (λ s. AreBelow (suc slot) s.node.rows.votes) (λ s h. below_up slot s.node.rows.votes h.votes)
      c.helpers low.helpers

  own_low : floor_of c.own < suc slot
  own_low = step (floor_of c.own) low.floor
    where
      step : (k : ℕ) → k ≤ slot → k < suc slot
      step k l = omega arith

  floors_low : All (λ (s : Seat B). floor_of s < suc slot) c.helpers
  floors_low =
      All-weaker (λ (s : Seat B). HoldsUpTo round slot s) (λ s. floor_of s < suc slot) (λ s h. step (floor_of s) h.floor) c.helpers low.helpers
    where
      step : (k : ℕ) → k ≤ slot → k < suc slot
      step k l = omega arith

  abbrev top : ℕ
  top = suc slot + most

  -- the first pass, in any ballot
  first_fits : (b : Ballot) (applied : ℕ) → applied ≤ slot
      → Fits (suc slot) top (led same c.members applied c.own.node.pending b (suc applied) [] c.own c.helpers)
  first_fits b applied is =
      led_fits same c.members applied (suc slot) top (suc applied) c.own.node.pending b [] c.own c.helpers
      (up applied is) (few (length c.own.node.pending) low.pending) (All-nil (λ (v : Vote B). v.slot < suc slot))
      (below_up slot c.own.node.rows.votes low.votes) own_low others_low floors_low
    where
      up : (k : ℕ) → k ≤ slot → suc k ≤ suc slot
      up k g = omega arith

      few : (k : ℕ) → k ≤ most → suc slot + k ≤ suc slot + most
      few k l = omega arith

  top_fits : (more : ℕ) → more ≤ most + 2 → top + more ≤ slot_end
  top_fits more l = go slot_end room.slots
    where
      go : (end : ℕ) → slot + (most + most + 3) ≤ end → suc slot + most + more ≤ end
      go end h = omega arith

  pub first_slots : (b : Ballot) (applied : ℕ) → applied ≤ slot
      → has_slots (led same c.members applied c.own.node.pending b (suc applied) [] c.own c.helpers) ≡ true
  first_slots b applied is =
      fits_slots (suc slot) top (led same c.members applied c.own.node.pending b (suc applied) [] c.own c.helpers) whole (first_fits b applied is)
    where
      whole : top ≤ slot_end
      whole = go slot_end (top_fits 0 (least (most + 2)))
        where
          go : (end : ℕ) → top + 0 ≤ end → top ≤ end
          go end h = omega arith

          least : (k : ℕ) → 0 ≤ k
          least k = omega arith

  -- then what is wanted of what is pending, and the act
  pub second_slots : (b : Ballot) (applied : ℕ) → applied ≤ slot → (r : Role B)
      → r ≡ led same c.members applied c.own.node.pending b (suc applied) [] c.own c.helpers → (stands : ℕ → Standing) (log : ℕ) (e : Entry B)
      → has_slots (propose_new same log (filter (is_wanted_by stands) c.own.node.pending ++ e ∷ []) r) ≡ true
  second_slots b applied fits r is stands log e =
      subst (λ (q : Role B). has_slots (propose_new same log es q) ≡ true) (sym is)
      (fits_slots (suc slot) (top + length es) (propose_new same log es (led same c.members applied c.own.node.pending b (suc applied) [] c.own c.helpers))
      (top_fits (length es) (few (length (filter (is_wanted_by stands) c.own.node.pending)) (length c.own.node.pending) (length es)
      (filter_few (is_wanted_by stands) c.own.node.pending) low.pending (length-append (filter (is_wanted_by stands) c.own.node.pending) (e ∷ []))))
      (submits_new same log (suc slot) top es (led same c.members applied c.own.node.pending b (suc applied) [] c.own c.helpers)
      (first_fits b applied fits)))
    where
      es : List (Entry B)
      es = filter (is_wanted_by stands) c.own.node.pending ++ e ∷ []

      few : (k p l : ℕ) → k ≤ p → p ≤ most → l ≡ k + 1 → l ≤ most + 2
      few k p l g h i = omega arith

  -- or, after a restart, two entries, over any snapshot of the crew
  pub again_slots : (b0 : Ballot) (applied : ℕ) → applied ≤ slot → (r : Role B)
      → r ≡ led same c.members applied c.own.node.pending b0 (suc applied) [] c.own c.helpers → (b : Ballot) (cast : List (Vote B))
      → cast ≡ behind applied (proposals_of r) → (d e : Entry B)
      → has_slots (led same c.members (floor_again c) (d ∷ e ∷ []) b (suc (floor_again c)) cast (own_again c) c.helpers) ≡ true
  again_slots b0 applied fits r at b cast is d e = go (source_again c) (highest_low (floor_of c.own) slot c.helpers low.floor helpers_low)
    where
      helpers_low : All (λ (s : Seat B). floor_of s ≤ slot) c.helpers
      helpers_low = All-weaker (λ (s : Seat B). HoldsUpTo round slot s) (λ s. floor_of s ≤ slot) (λ s h. h.floor) c.helpers low.helpers

      one : (f : ℕ) → f ≤ slot → suc f ≤ suc slot + most
      one f l = omega arith

      itself : (k : ℕ) → k ≤ k
      itself k = omega arith

      wider : (k l : ℕ) → suc k ≤ suc k + l
      wider k l = omega arith

      further : (k : ℕ) → k < suc slot → k < suc slot + most
      further k l = omega arith

      up_to : (k : ℕ) → k ≤ slot → k < suc slot
      up_to k l = omega arith

      two : (k : ℕ) → 2 ≤ k + 2
      two k = omega arith

      cast_low : AreBelow top cast
      cast_low =
          subst (λ vs. AreBelow top vs) (sym (is ∙ ap (λ (q : Role B). behind applied (proposals_of q)) at))
          (fits_votes (suc slot) top applied (led same c.members applied c.own.node.pending b0 (suc applied) [] c.own c.helpers)
          (first_fits b0 applied fits))

      by_seat : (o : Seat B) → floor_of o ≤ slot → AreBelow top o.node.rows.votes
          → has_slots (led same c.members (floor_of o) (d ∷ e ∷ []) b (suc (floor_of o)) cast o c.helpers) ≡ true
      by_seat o f v =
          fits_slots top (top + 2) (led same c.members (floor_of o) (d ∷ e ∷ []) b (suc (floor_of o)) cast o c.helpers) (top_fits 2 (two most))
          (led_fits same c.members (floor_of o) top (top + 2) (suc (floor_of o)) (d ∷ e ∷ []) b cast o c.helpers (one (floor_of o) f) (itself (top + 2))
          cast_low v (further (floor_of o) (up_to (floor_of o) f))
          (All-weaker (λ (s : Seat B). AreBelow (suc slot) s.node.rows.votes) (λ s. AreBelow top s.node.rows.votes)
          (λ s h. below_more (suc slot) top s.node.rows.votes (wider slot most) h) c.helpers others_low)
          (All-weaker (λ (s : Seat B). floor_of s < suc slot) (λ s. floor_of s < top) (λ s h. further (floor_of s) h) c.helpers floors_low))

      own_votes : AreBelow top c.own.node.rows.votes
      own_votes = below_more (suc slot) top c.own.node.rows.votes (wider slot most) (below_up slot c.own.node.rows.votes low.votes)

      go : (o : Option Source) → floor_or (floor_of c.own) o ≤ slot
          → has_slots (led same c.members (floor_of (seat_over o c.own)) (d ∷ e ∷ []) b (suc (floor_of (seat_over o c.own))) cast (seat_over o c.own) c.helpers)
          ≡ true
      go None f = by_seat c.own f own_votes
      go (Some t) f = by_seat (seat_over (Some t) c.own) f own_votes
