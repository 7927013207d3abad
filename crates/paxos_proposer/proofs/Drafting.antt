-- What a proposer would be to which one thing more is done.
use Rattle.std.proofs.Common.{◌≡◌, ℕ, suc, max, ◌+◌, ◌<◌, ◌≤◌, Bool, true, false, cond, not, ◌&&◌, ◌||◌, Option, Some, None, is_some, List, [], ◌∷◌, ◌++◌}
use Rattle.std.proofs.Common.{refl, sym, ap, ◌∙◌, subst, arith}
use Rattle.std.specs.Prelude.{nat_lt, Result, Ok, Err, is_err, OnOk}
use Rattle.std.proofs.lemmas.Bool.{ltb-true, not-false}
use Rattle.std.proofs.lemmas.List.{append-nil, append_assoc}
use Rattle.std.proofs.lemmas.List.Folds.{list_any-append}
use Rattle.paxos_packets.specs.Members.{is_majority}
use Rattle.paxos_packets.specs.Entry.{same_entry}
use Rattle.paxos_packets.specs.declared.ballot.Ballot.{Ballot}
use Rattle.paxos_packets.specs.declared.entry.Entry.{Entry}
use Rattle.paxos_packets.specs.declared.vote.Vote.{Vote}
use Rattle.paxos_proposer.specs.declared.phase.Phase.{Phase}
use Rattle.paxos_proposer.specs.declared.phase.Phase.TheVariants as Kept
use Rattle.paxos_proposer.specs.declared.promises.CountedPromise.{CountedPromise}
use Rattle.paxos_proposer.specs.declared.moves.Move.{Move}
use Rattle.paxos_proposer.specs.declared.proposing.Offer.{Offer}
use Rattle.paxos_proposer.specs.Moves.{after_move, after_moves, IsPossible, ArePossible}
use Rattle.paxos_proposer.specs.Proposer.{step_down, nacked, submitted, is_below, is_refused, is_leading, slots_spent, next_vote, slot_end, round_end, is_spent}
use Rattle.paxos_proposer.specs.Promises.{promised, called_by, counts, and_promise_of, lowest}
use Rattle.paxos_proposer.specs.Proposals.{stands, stands_among}
use Rattle.paxos_proposer.specs.Reports.{is_counted, reports, called_for}
use Rattle.paxos_proposer.specs.Role.{Role, Idle, Preparing, Leading}
use Rattle.paxos_proposer.specs.State.{State, role_of, IsAboveNone, with_role, saw, started, after_promise, after_submit}
use Rattle.paxos_proposer.specs.Proposing.{Draft, after, role_then, and_move, offer_of, promises_of, proposals_of, earlier, led, led_from, IsTold}

-- one is done last

pub done_last : {B : Type 0} (ms : List (Move B)) (m : Move B) (s : State B) → after_moves (ms ++ m ∷ []) s ≡ after_move m (after_moves ms s)
done_last [] m s = refl
done_last (n ∷ ns) m s = done_last ns m (after_move n s)

pub possible_last : {B : Type 0} (ms : List (Move B)) (m : Move B) (s : State B) → ArePossible ms s → IsPossible m (after_moves ms s)
    → ArePossible (ms ++ m ∷ []) s
possible_last [] m s a p = (p, tt)
possible_last (n ∷ ns) m s a p = (a.0, possible_last ns m (after_move n s) a.1 p)

pub after_more : {B : Type 0} (ms ns : List (Move B)) (m : Move B) (s : State B) → ns ≡ ms ++ m ∷ [] → after_moves ns s ≡ after_move m (after_moves ms s)
after_more {B} ms ns m s e = ap (λ (l : List (Move B)). after_moves l s) e ∙ done_last ms m s

pub told_more : {B : Type 0} (seen : ℕ) (phase : Phase) (goes_on : Bool) (votes : List (Vote B)) (ms ns : List (Move B)) (m : Move B) (s : State B)
    → ns ≡ ms ++ m ∷ [] → ArePossible ms s → IsPossible m (after_moves ms s)
    → IsTold seen phase goes_on votes s (after_move m (after_moves ms s))
    → IsTold seen phase goes_on votes s (after_moves ns s) × ArePossible ns s
told_more {B} seen phase goes_on votes ms ns m s e a p t = (
  subst (λ (u : State B). IsTold seen phase goes_on votes s u) (sym (after_more ms ns m s e)) t,
  subst (λ (l : List (Move B)). ArePossible l s) (sym e) (possible_last ms m s a p),
)

-- what callers see of it, with one thing more and with none

pub and_one : {B : Type 0} (s : State B) (ms ns : List (Move B)) (m : Move B) (d : Draft B) → ns ≡ ms ++ m ∷ []
    → record { before = s; moves = ms } ≡ d → record { before = s; moves = ns } ≡ and_move m d
and_one {B} s ms ns m d e v = (λ i. record { before = s; moves = e i }) ∙ ap (λ (a : Draft B). and_move m a) v

pub as_it_was : {B : Type 0} (s : State B) (ms ns : List (Move B)) (d : Draft B) → ns ≡ ms → record { before = s; moves = ms } ≡ d
    → record { before = s; moves = ns } ≡ d
as_it_was s ms ns d e v = (λ i. record { before = s; moves = e i }) ∙ v

pub told_still : {B : Type 0} (seen : ℕ) (phase : Phase) (goes_on : Bool) (votes : List (Vote B)) (ms ns : List (Move B)) (s : State B) → ns ≡ ms
    → IsTold seen phase goes_on votes s (after_moves ms s) × ArePossible ms s → IsTold seen phase goes_on votes s (after_moves ns s) × ArePossible ns s
told_still {B} seen phase goes_on votes ms ns s e t =
    subst (λ (l : List (Move B)). IsTold seen phase goes_on votes s (after_moves l s) × ArePossible l s) (sym e) t

-- what a call promises if it returns `Ok`
pub where_ok : {T E P : Type 0} (r : Result T E) → false ≡ is_err r → OnOk r P → P
where_ok (Ok x) h p = p
where_ok (Err e) h p = absurd (cc)

-- a phase and lists give the role

pub rejoined : {B : Type 0} (p : Phase) (cs : List (CountedPromise B)) (vs : List (Vote B))
    → role_of p cs vs ≡ role_of p (promises_of (role_of p cs vs)) (proposals_of (role_of p cs vs))
rejoined Kept.Idle cs vs = refl
rejoined (Kept.Preparing b first) cs vs = refl
rejoined (Kept.Leading b next) cs vs = refl

pub told_first : {B : Type 0} (seen : ℕ) (phase : Phase) (votes : List (Vote B)) (ms : List (Move B)) (s : State B) → votes ≡ [] → ms ≡ []
    → seen ≡ s.proposer.seen → s.proposer.role ≡ role_of phase (promises_of s.proposer.role) (proposals_of s.proposer.role) → IsAboveNone phase
    → IsTold seen phase true votes s (after_moves ms s) × ArePossible ms s
told_first {B} seen phase votes ms s v m p q a = (
  subst (λ (l : List (Move B)). IsTold seen phase true votes s (after_moves l s)) (sym m)
      (record {
        me_is = refl;
        members_is = refl;
        seen_is = sym p;
        promises = promises_of s.proposer.role;
        role_is =
            q ∙ ap (λ (vs : List (Vote B)). role_of phase (promises_of s.proposer.role) vs)
            (sym (append-nil (proposals_of s.proposer.role)) ∙ ap (λ (ws : List (Vote B)). proposals_of s.proposer.role ++ ws) (sym v));
        above = a;
      }),
  subst (λ (l : List (Move B)). ArePossible l s) (sym m) tt,
)

-- a ballot that isn't below stays

pub stays_up : {B : Type 0} (b : Ballot) (r : Role B) → is_below b r ≡ false → r ≡ step_down b r
stays_up b Idle h = refl
stays_up b (Preparing c first promises) h = rw h refl
stays_up b (Leading c next proposed) h = rw h refl

pub goes_down : {B : Type 0} (b : Ballot) (r : Role B) → is_below b r ≡ true → step_down b r ≡ Idle
goes_down b Idle h = refl
goes_down b (Preparing c first promises) h = rw h refl
goes_down b (Leading c next proposed) h = rw h refl

pub stays_so : {B : Type 0} (b p : Ballot) (r : Role B) → is_refused b p r ≡ false → r ≡ nacked b p r
stays_so b p Idle h = refl
stays_so b p (Preparing c first promises) h = rw h refl
stays_so b p (Leading c next proposed) h = rw h refl

pub is_over : {B : Type 0} (b p : Ballot) (r : Role B) → is_refused b p r ≡ true → nacked b p r ≡ Idle
is_over b p Idle h = refl
is_over b p (Preparing c first promises) h = rw h refl
is_over b p (Leading c next proposed) h = rw h refl

-- what is proposed stands

pub standing : {B : Type 0} (same : B → B → Bool) (n : ℕ) (r : Role B) (e : Entry B) → stands same n r e ≡ stands_among same n e (proposals_of r)
standing same n Idle e = refl
standing same n (Preparing b first promises) e = refl
standing same n (Leading b next proposed) e = refl

pub stands_either : {B : Type 0} (same : B → B → Bool) (n : ℕ) (e : Entry B) (vs ws : List (Vote B))
    → stands_among same n e (vs ++ ws) ≡ (stands_among same n e vs || stands_among same n e ws)
stands_either same n e vs ws = list_any-append (λ v. nat_lt n v.slot && same_entry same v.entry e) vs ws

led_above : (slot : ℕ) (p : Phase) → 1 ≤ slot → IsAboveNone p → IsAboveNone (led slot p)
led_above slot Kept.Idle l a = tt
led_above slot (Kept.Preparing c first) l a = l
led_above slot (Kept.Leading c next) l a = a

-- a phase in which a slot is left to propose in

abbrev pub IsOffering : Phase → Type 0
IsOffering Kept.Idle = ⊥
IsOffering (Kept.Preparing b first) = ⊥
IsOffering (Kept.Leading b next) = (1 ≤ next) × (next < slot_end)

pub offering_leads : (p : Phase) → IsOffering p → ((b : Ballot) (next : ℕ) → p ≡ Kept.Leading b next → ⊥) → ⊥
offering_leads Kept.Idle o f = o
offering_leads (Kept.Preparing b first) o f = o
offering_leads (Kept.Leading b next) o f = f b next refl

is_offering : {B : Type 0} (p : Phase) (cs : List (CountedPromise B)) (vs : List (Vote B)) → IsAboveNone p → is_some (offer_of (role_of p cs vs)) ≡ true → IsOffering p
is_offering Kept.Idle cs vs a h = absurd (cc)
is_offering (Kept.Preparing b first) cs vs a h = absurd (cc)
is_offering (Kept.Leading b next) cs vs a h = (a, ltb-true next slot_end (go (nat_lt next slot_end) h))
  where
    go : (x : Bool) → is_some {T = Offer} (cond x (Some (record { ballot = b; slot = next })) None) ≡ true → x ≡ true
    go true f = refl
    go false f = absurd (cc)

-- what is new after each move

module _ {B : Type 0} where
  pub told_saw : (seen round later : ℕ) (phase : Phase) (goes_on : Bool) (votes : List (Vote B)) (old new : State B)
      → IsTold seen phase goes_on votes old new → later ≡ max seen round → IsTold later phase goes_on votes old (saw round new)
  told_saw seen round later phase goes_on votes old new t is =
      record {
        me_is = t.me_is;
        members_is = t.members_is;
        seen_is = ap (λ (n : ℕ). max n round) t.seen_is ∙ sym is;
        promises = t.promises;
        role_is = t.role_is;
        above = t.above;
      }

  pub told_rest : (seen : ℕ) (phase : Phase) (goes_on : Bool) (votes more : List (Vote B)) (old new : State B) (r : Role B)
      → IsTold seen phase goes_on votes old new → r ≡ Idle → IsTold seen Kept.Idle false more old (with_role r new)
  told_rest seen phase goes_on votes more old new r t e =
      record { me_is = t.me_is; members_is = t.members_is; seen_is = t.seen_is; promises = []; role_is = e; above = tt }

  pub told_start : (seen node first floor : ℕ) (phase : Phase) (goes_on : Bool) (votes more : List (Vote B)) (old new : State B) (reported : List (Vote B))
      → IsTold seen phase goes_on votes old new → 1 ≤ first → node ≡ old.me
      → IsTold (seen + 1) (Kept.Preparing (record { round = seen + 1; node = node }) first) false more old (started first floor reported new)
  told_start seen node first floor phase goes_on votes more old new reported t l is =
      let s : new.proposer.seen ≡ seen = t.seen_is in
      let m : new.me ≡ node = t.me_is ∙ sym is in
      let n : suc new.proposer.seen ≡ seen + 1 = omega arith in
      record {
        me_is = t.me_is;
        members_is = t.members_is;
        seen_is = omega arith;
        promises = record { node = new.me; floor = floor; votes = reported } ∷ [];
        role_is = λ i. Preparing (record { round = n i; node = m i }) first (record { node = new.me; floor = floor; votes = reported } ∷ []);
        above = l;
      }

  pub round_left : (seen : ℕ) (phase : Phase) (goes_on : Bool) (votes : List (Vote B)) (old new : State B) → IsTold seen phase goes_on votes old new
      → is_spent new.proposer ≡ false → suc seen < round_end
  round_left seen phase goes_on votes old new t h =
      subst (λ (n : ℕ). suc n < round_end) t.seen_is
      (ltb-true (suc new.proposer.seen) round_end (not-false (nat_lt (suc new.proposer.seen) round_end) h))

  -- a promise that calls for nothing leaves the phase as it was

  still : (members node : ℕ) (b : Ballot) (floor : ℕ) (reported : List (Vote B)) (own : ℕ) (p : Phase) (cs : List (CountedPromise B)) (vs : List (Vote B))
      → called_by members node b floor reported own (role_of p cs vs) ≡ None
      → (ds : List (CountedPromise B)) × (promised members node b floor reported own (role_of p cs vs) ≡ role_of p ds vs)
  still members node b floor reported own Kept.Idle cs vs h = (cs, refl)
  still members node b floor reported own (Kept.Leading c next) cs vs h = (cs, refl)
  still members node b floor reported own (Kept.Preparing c first) cs vs h =
      go (lowest first own (and_promise_of node floor reported cs)) (counts node b (Preparing c first cs))
      (is_majority members (is_counted (and_promise_of node floor reported cs))) h
    where
      go : (low : ℕ) (x y : Bool) → cond x (cond y (Some (called_for low (reports (and_promise_of node floor reported cs)))) None) None ≡ None
          → (ds : List (CountedPromise B))
          × (cond x (cond y (Leading c low []) (Preparing c first (and_promise_of node floor reported cs))) (Preparing c first cs) ≡ Preparing c first ds)
      go low true true f = absurd (cc)
      go low true false f = (and_promise_of node floor reported cs, refl)
      go low false y f = (cs, refl)

  pub told_count : (seen node : ℕ) (b : Ballot) (floor : ℕ) (reported : List (Vote B)) (own : ℕ) (phase : Phase) (goes_on : Bool) (votes : List (Vote B)) (old new : State B)
      → IsTold seen phase goes_on votes old new → called_by new.members node b floor reported own new.proposer.role ≡ None
      → IsTold seen phase goes_on votes old (after_promise node b floor reported own new)
  told_count seen node b floor reported own phase goes_on votes old new t h =
      let k : called_by new.members node b floor reported own (role_of phase t.promises (earlier goes_on old.proposer.role ++ votes)) ≡ None =
      subst (λ (r : Role B). called_by new.members node b floor reported own r ≡ None) t.role_is h in
      let s = still new.members node b floor reported own phase t.promises (earlier goes_on old.proposer.role ++ votes) k in
      record {
        me_is = t.me_is;
        members_is = t.members_is;
        seen_is = t.seen_is;
        promises = s.0;
        role_is = ap (λ (r : Role B). promised new.members node b floor reported own r) t.role_is ∙ s.1;
        above = t.above;
      }

  -- and one that calls for entries makes the proposer lead

  leads : (members node : ℕ) (b : Ballot) (floor : ℕ) (reported : List (Vote B)) (own : ℕ) (p : Phase) (cs : List (CountedPromise B)) (vs : List (Vote B)) (es : List (Entry B))
      → called_by members node b floor reported own (role_of p cs vs) ≡ Some es
      → promised members node b floor reported own (role_of p cs vs) ≡ role_of (led (led_from node floor reported own (role_of p cs vs)) p) [] []
  leads members node b floor reported own Kept.Idle cs vs es h = absurd (cc)
  leads members node b floor reported own (Kept.Leading c next) cs vs es h = absurd (cc)
  leads members node b floor reported own (Kept.Preparing c first) cs vs es h =
      go (lowest first own (and_promise_of node floor reported cs)) (counts node b (Preparing c first cs))
      (is_majority members (is_counted (and_promise_of node floor reported cs))) h
    where
      go : (low : ℕ) (x y : Bool)
          → cond x (cond y (Some (called_for low (reports (and_promise_of node floor reported cs)))) None) None ≡ Some es
          → cond x (cond y (Leading c low []) (Preparing c first (and_promise_of node floor reported cs))) (Preparing c first cs) ≡ Leading c low []
      go low true true f = refl
      go low true false f = absurd (cc)
      go low false y f = absurd (cc)

  -- what is called for is stated by the proposer as it is, if nothing was done to its role

  pub called_still : (s : State B) (ms : List (Move B)) (d : Draft B) (node : ℕ) (b : Ballot) (floor : ℕ) (reported : List (Vote B)) (own : ℕ) (called answered : Option (List (Entry B)))
      → record { before = s; moves = ms } ≡ d → role_then d ≡ d.before.proposer.role → (after_moves ms s).members ≡ s.members
      → called ≡ called_by s.members node b floor reported own s.proposer.role → called ≡ answered
      → answered ≡ called_by (after d).members node b floor reported own (role_then d)
  called_still s ms d node b floor reported own called answered v same m is as_is =
      let role : s.proposer.role ≡ (after_moves ms s).proposer.role =
      ap (λ (a : Draft B). a.before.proposer.role) v ∙ sym same ∙ sym (ap (λ (a : Draft B). role_then a) v) in
      sym as_is ∙ is
      ∙ (λ i. called_by (sym m i) node b floor reported own (role i))
      ∙ ap (λ (a : Draft B). called_by (after a).members node b floor reported own (role_then a)) v

  pub told_lead : (seen node : ℕ) (b : Ballot) (floor : ℕ) (reported : List (Vote B)) (own : ℕ) (phase : Phase) (goes_on : Bool) (votes more : List (Vote B)) (old new : State B)
      (es : List (Entry B)) → IsTold seen phase goes_on votes old new → called_by new.members node b floor reported own new.proposer.role ≡ Some es → more ≡ []
      → (slot : ℕ) → slot ≡ led_from node floor reported own new.proposer.role → 1 ≤ slot
      → IsTold seen (led slot phase) false more old (after_promise node b floor reported own new)
  told_lead seen node b floor reported own phase goes_on votes more old new es t h none slot from least =
      let k : called_by new.members node b floor reported own (role_of phase t.promises (earlier goes_on old.proposer.role ++ votes)) ≡ Some es =
      subst (λ (r : Role B). called_by new.members node b floor reported own r ≡ Some es) t.role_is h in
      record {
        me_is = t.me_is;
        members_is = t.members_is;
        seen_is = t.seen_is;
        promises = [];
        role_is =
            ap (λ (r : Role B). promised new.members node b floor reported own r) t.role_is
            ∙ leads new.members node b floor reported own phase t.promises (earlier goes_on old.proposer.role ++ votes) es k
            ∙ ap (λ (n : ℕ). role_of (led n phase) [] [])
            (sym (from ∙ ap (λ (r : Role B). led_from node floor reported own r) t.role_is))
            ∙ ap (λ (vs : List (Vote B)). role_of (led slot phase) [] vs) (sym none);
        above = led_above slot phase least t.above;
      }

  -- a proposal

  pub may_submit : (r : Role B) → is_some (offer_of r) ≡ true → (is_leading r ≡ true) × (slots_spent r ≡ false)
  may_submit Idle h = absurd (cc)
  may_submit (Preparing c first promises) h = absurd (cc)
  may_submit (Leading c next proposed) h = (refl, go (nat_lt next slot_end) h)
    where
      go : (x : Bool) → is_some {T = Offer} (cond x (Some (record { ballot = c; slot = next })) None) ≡ true → not x ≡ false
      go true f = refl
      go false f = absurd (cc)

  pub offering : (seen : ℕ) (phase : Phase) (goes_on : Bool) (votes : List (Vote B)) (old new : State B) → IsTold seen phase goes_on votes old new
      → is_some (offer_of new.proposer.role) ≡ true → IsOffering phase
  offering seen phase goes_on votes old new t h =
      is_offering phase t.promises (earlier goes_on old.proposer.role ++ votes) t.above (subst (λ (r : Role B). is_some {T = Offer} (offer_of r) ≡ true) t.role_is h)

  pub told_submit : (seen : ℕ) (b : Ballot) (next : ℕ) (goes_on : Bool) (votes more : List (Vote B)) (old new : State B) (e : Entry B)
      → IsTold seen (Kept.Leading b next) goes_on votes old new → more ≡ votes ++ next_vote b next e ∷ []
      → IsTold seen (Kept.Leading b (next + 1)) goes_on more old (after_submit e new)
  told_submit seen b next goes_on votes more old new e t is =
      let n : suc next ≡ next + 1 = omega arith in
      let vs = append_assoc (earlier goes_on old.proposer.role) votes (next_vote b next e ∷ [])
      ∙ ap (λ (ws : List (Vote B)). earlier goes_on old.proposer.role ++ ws) (sym is) in
      let l : 1 ≤ next = t.above in
      record {
        me_is = t.me_is;
        members_is = t.members_is;
        seen_is = t.seen_is;
        promises = [];
        role_is = ap (λ (r : Role B). submitted e r) t.role_is ∙ (λ i. Leading b (n i) (vs i));
        above = omega arith;
      }
