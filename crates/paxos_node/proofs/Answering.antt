-- What a node returns for an event, from what it planned.
use Rattle.std.proofs.Common.{◌≡◌, ◌<◌, ◌≤◌, ◌+◌, ◌^◌, ℕ, suc, max, Bool, true, false, cond, not, ◌&&◌, Result, Ok, Err, Option, Some, None, List, [], ◌∷◌, ◌++◌, length, refl, ap, sym, ◌∙◌, subst, append-nil, arith}
use Rattle.std.proofs.lemmas.Bool.{ltb-true, eqb-true, and_parts, le-leb}
use Rattle.std.proofs.lemmas.Bool.Decides.{nat_tests}
use Rattle.replica_machine.specs.declared.head.Head.{Head}
use Rattle.std.specs.Prelude.{is_some, is_none, nat_lt, nat_le, IfOk, IsOkUnless, ◌==◌}
use Rattle.paxos_packets.specs.Snapshot.{floor_in}
use Rattle.paxos_packets.specs.Snapshot as taken
use Rattle.paxos_packets.specs.declared.entry.Entry.{Entry}
use Rattle.paxos_packets.specs.declared.entry.Entry.TheVariants.{Lost}
use Rattle.paxos_packets.specs.declared.packet.Kind.{Kind}
use Rattle.paxos_packets.specs.declared.packet.Kind.TheVariants.{Snapshot as Shown}
use Rattle.paxos_packets.specs.declared.packet.Packet.{Packet}
use Rattle.paxos_learner.specs.Learned.{Begins}
use Rattle.replica_machine.specs.Roll.{live_in}
use Rattle.replica_machine.specs.Snapshot.{head_at}
use Rattle.paxos_node.specs.declared.event.Event.{Event}
use Rattle.paxos_node.specs.declared.event.Event.TheVariants.{Take, Tick, Start, Suspect, Deliver, Cut, Crash, Restart}
use Rattle.paxos_node.specs.declared.fault.NodeFault.{NodeFault}
use Rattle.paxos_node.specs.declared.fault.NodeFault.TheVariants.{Rounds, Full, Disagree, Memory}
use Rattle.paxos_node.specs.declared.outcome.Outcome.{Outcome}
use Rattle.paxos_planning.specs.Node.{NodeState, Plan, log_length}
use Rattle.paxos_planning.specs.Plan.{begun, with_pending}
use Rattle.paxos_planning.specs.Parts.{taken_with}
use Rattle.paxos_planning.proofs.Standing.{no_front}
use Rattle.paxos_node.specs.Applying.{standing_of, settle}
use Rattle.paxos_node.specs.Adopting.{pending_behind, Fits, Settled}
use Rattle.paxos_planning.specs.Drafting.{with_pending_entry, seeing}
use Rattle.paxos_node.specs.Events.{last_number, owner, possible, deliver, on_event, takes, new_item, with_item, on_take, has_room}
use Rattle.paxos_node.specs.Snapshots.{is_head_of, may_cut, on_cut, rest_on, has_boot, lacks_boot, take_in, on_snapshot, is_damaged, is_new, new_snapshot}
use Rattle.paxos_node.proofs.Ending.{settled_disagrees}
use Rattle.paxos_planning.specs.Ticking.{on_tick}
use Rattle.paxos_planning.specs.Starting.{starts, begin, on_start}
use Rattle.paxos_node.specs.Events.{new_lost, new_lost_of, is_pending, suspected, on_suspect, is_round_refused, is_full_refused}
use Rattle.paxos_node.specs.Plans.{is_planned, plans, unchanged, delivers_other, Answers, Answered}
use Rattle.paxos_planning.specs.Proposals.{push}
use Rattle.paxos_planning.specs.Replies.{on_packet, round_in, brings_other}
use Rattle.paxos_proposer.specs.Proposer.{new_ballot}

not_le : (m n : ℕ) → n < m → nat_le m n ≡ false
not_le m n l = grind (arith, nat_tests)

pub told_none : {A : Type 0} (o : Option A) (b : Bool) → is_some o ≡ not b → b ≡ is_none o
told_none None true p = refl
told_none None false p = absurd (cc)
told_none (Some x) true p = absurd (cc)
told_none (Some x) false p = refl

pub not_longer : (n m : ℕ) (b : Bool) → n ≤ m → false ≡ (not (nat_le n m) && b)
not_longer n m b l = ap (λ (t : Bool). not t && b) (sym (le-leb n m l))

pub is_longer : (n m : ℕ) (b : Bool) → m < n → b ≡ (not (nat_le n m) && b)
is_longer n m b l = ap (λ (t : Bool). not t && b) (sym (not_le n m l))

-- an act is taken under a number below the last

pub takes_below : {B : Type 0} (x : NodeState B) → takes x ≡ true → x.taken < 281474976710655
unfolding last_number
takes_below x t = go (has_room x) (nat_lt x.taken 281474976710655) refl t
  where
    go : (a b : Bool) → nat_lt x.taken 281474976710655 ≡ b → a && b ≡ true → x.taken < 281474976710655
    go true true p q = ltb-true x.taken 281474976710655 p
    go true false p q = absurd (cc)
    go false b p q = absurd (cc)

module _ {B : Type 0} (same : B → B → Bool) (me members : ℕ) (x : NodeState B) (r : Result (Outcome B) NodeFault) where
  -- an act

  pub take_answered : (transport : ℕ) (body : B) (e : Entry B) → takes x ≡ true → e ≡ new_item me transport body x
      → Answered me members x false false (push same members me (begun (with_pending_entry (Some e) x))) r
      → Answered me members x false (not (takes x)) (on_take same members me transport body (begun x)) r
  take_answered transport body e t p a =
      subst (λ (b : Bool). Answered me members x false (not b)
      (cond b (push same members me (record (begun x) { node = with_item me transport body x })) (begun x)) r) (sym t)
      (subst (λ (d : Entry B). Answered me members x false false (push same members me (begun (with_pending_entry (Some d) x))) r) p a)

  -- a ballot

  pub start_answered : starts me x ≡ true
      → Answered me members x false false (begin members me (new_ballot me x.rows.promised x.proposer) (suc (log_length x)) (begun x)) r
      → Answered me members x (not (starts me x)) false (on_start members me (begun x)) r
  start_answered t a =
      subst (λ (b : Bool). Answered me members x (not b) false
      (cond b (begin members me (new_ballot me x.rows.promised x.proposer) (suc (log_length x)) (begun x)) (begun x)) r) (sym t) a

  -- a suspicion

  lost_counts_none : (other : ℕ) (lost : Entry B) (n : ℕ) → ◌≡◌ {A = Option (Entry B)} (new_lost same me other x) (Some lost) → taken_with lost n ≡ n
  lost_counts_none other lost n p = go (other == me) p
    where
      of_live : (b : ℕ) (t : Bool) → ◌≡◌ {A = Option (Entry B)} (cond t None (Some (Lost other b))) (Some lost) → taken_with lost n ≡ n
      of_live b true q = absurd (cc)
      of_live b false q = let l : ◌≡◌ {A = Entry B} (Lost other b) lost = cc in ap (λ (e : Entry B). taken_with e n) (sym l)

      live : (o : Option ℕ) → ◌≡◌ {A = Option (Entry B)} (new_lost_of same other o x.pending) (Some lost) → taken_with lost n ≡ n
      live None q = absurd (cc)
      live (Some b) q = of_live b (is_pending same x.pending (Lost other b)) q

      go : (t : Bool) → ◌≡◌ {A = Option (Entry B)} (cond t None (new_lost_of same other (live_in (standing_of x other)) x.pending)) (Some lost)
          → taken_with lost n ≡ n
      go true q = absurd (cc)
      go false q = live (live_in (standing_of x other)) q

  pub none_answered : (other : ℕ) → ◌≡◌ {A = Option (Entry B)} None (new_lost same me other x) → Answered me members x false false (begun x) r
      → Answered me members x false (is_some (new_lost same me other x) && not (has_room x)) (on_suspect same members me other (begun x)) r
  none_answered other p a =
      subst (λ (l : Option (Entry B)). Answered me members x false (is_some l && not (has_room x)) (suspected same members me l (begun x)) r) p a

  pub lost_answered : (other : ℕ) (lost : Entry B) → ◌≡◌ {A = Option (Entry B)} (Some lost) (new_lost same me other x) → has_room x ≡ true
      → Answered me members x false false (push same members me (begun (with_pending_entry (Some lost) x))) r
      → Answered me members x false (is_some (new_lost same me other x) && not (has_room x)) (on_suspect same members me other (begun x)) r
  lost_answered other lost p t a =
      subst (λ (l : Option (Entry B)). Answered me members x false (is_some l && not (has_room x)) (suspected same members me l (begun x)) r) p
      (subst (λ (b : Bool). Answered me members x false (true && not b)
      (cond b (push same members me (record (begun x) { node = with_pending (x.pending ++ lost ∷ []) x })) (begun x)) r) (sym t)
      (subst (λ (n : ℕ). Answered me members x false false (push same members me (begun (record x { pending = x.pending ++ lost ∷ []; taken = n }))) r)
      (lost_counts_none other lost x.taken (sym p)) a))

  -- each event of this node

  pub of_take : (e : Event B) (n t : ℕ) (body : B) → e ≡ Take n t body → owner e ≡ me
      → Answered me members x false (not (takes x)) (on_take same members me t body (begun x)) r
      → Answered me members x (is_round_refused e x) (is_full_refused same e x) (on_event same members e (begun x)) r
  of_take e n t body p q a =
      subst (λ (f : Event B). Answered me members x (is_round_refused f x) (is_full_refused same f x) (on_event same members f (begun x)) r) (sym p)
      (subst (λ (k : ℕ). Answered me members x false (not (takes x)) (on_take same members k t body (begun x)) r) (sym q ∙ ap owner p) a)

  pub of_tick : (e : Event B) (n : ℕ) → e ≡ Tick n → owner e ≡ me → Answered me members x false false (on_tick same members me (begun x)) r
      → Answered me members x (is_round_refused e x) (is_full_refused same e x) (on_event same members e (begun x)) r
  of_tick e n p q a =
      subst (λ (f : Event B). Answered me members x (is_round_refused f x) (is_full_refused same f x) (on_event same members f (begun x)) r) (sym p)
      (subst (λ (k : ℕ). Answered me members x false false (on_tick same members k (begun x)) r) (sym q ∙ ap owner p) a)

  pub of_start : (e : Event B) (n : ℕ) → e ≡ Start n → owner e ≡ me
      → Answered me members x (not (starts me x)) false (on_start members me (begun x)) r
      → Answered me members x (is_round_refused e x) (is_full_refused same e x) (on_event same members e (begun x)) r
  of_start e n p q a =
      subst (λ (f : Event B). Answered me members x (is_round_refused f x) (is_full_refused same f x) (on_event same members f (begun x)) r) (sym p)
      (subst (λ (k : ℕ). Answered me members x (not (starts k x)) false (on_start members k (begun x)) r) (sym q ∙ ap owner p) a)

  pub of_suspect : (e : Event B) (n other : ℕ) → e ≡ Suspect n other → owner e ≡ me
      → Answered me members x false (is_some (new_lost same me other x) && not (has_room x)) (on_suspect same members me other (begun x)) r
      → Answered me members x (is_round_refused e x) (is_full_refused same e x) (on_event same members e (begun x)) r
  of_suspect e n other p q a =
      subst (λ (f : Event B). Answered me members x (is_round_refused f x) (is_full_refused same f x) (on_event same members f (begun x)) r) (sym p)
      (subst (λ (k : ℕ). Answered me members x false (is_some (new_lost same k other x) && not (has_room x))
      (on_suspect same members k other (begun x)) r) (sym q ∙ ap owner p) a)

  pub of_packet : (e : Event B) (packet : Packet B) → e ≡ Deliver packet → owner e ≡ me
      → Answered me members x false false (deliver same members me packet.sender packet.kind (seeing (round_in packet.kind) (begun x))) r
      → Answered me members x (is_round_refused e x) (is_full_refused same e x) (on_event same members e (begun x)) r
  of_packet e packet p q a =
      subst (λ (f : Event B). Answered me members x (is_round_refused f x) (is_full_refused same f x) (on_event same members f (begun x)) r) (sym p)
      (subst (λ (k : ℕ). Answered me members x false false
      (deliver same members k packet.sender packet.kind (seeing (round_in packet.kind) (begun x))) r) (sym q ∙ ap owner p) a)

  pub of_cut : (e : Event B) (n : ℕ) (s : Option taken.Snapshot) → e ≡ Cut n s → Answered me members x false false (on_cut s (begun x)) r
      → Answered me members x (is_round_refused e x) (is_full_refused same e x) (on_event same members e (begun x)) r
  of_cut e n s p a =
      subst (λ (f : Event B). Answered me members x (is_round_refused f x) (is_full_refused same f x) (on_event same members f (begun x)) r) (sym p) a

-- an event that is planned is of this node, which is up

pub is_own : {B : Type 0} (me : ℕ) (e : Event B) (x : NodeState B) → plans me e x ≡ true → owner e ≡ me
is_own me e x p = go (owner e == me) (eqb-true (owner e) me) p
  where
    go : (b : Bool) → (b ≡ true → owner e ≡ me) → b && (is_planned e && possible e x) ≡ true → owner e ≡ me
    go true h q = h refl
    go false h q = absurd (cc)

may_be_planned : {B : Type 0} (me : ℕ) (e : Event B) (x : NodeState B) → plans me e x ≡ true → is_planned e && possible e x ≡ true
may_be_planned me e x p = go (owner e == me) p
  where
    go : (b : Bool) → b && (is_planned e && possible e x) ≡ true → is_planned e && possible e x ≡ true
    go true q = q
    go false q = absurd (cc)

pub is_one_planned : {B : Type 0} (me : ℕ) (e : Event B) (x : NodeState B) → plans me e x ≡ true → is_planned e ≡ true
is_one_planned me e x p = go (is_planned e) (may_be_planned me e x p)
  where
    go : (b : Bool) → b && possible e x ≡ true → b ≡ true
    go true q = refl
    go false q = q

pub is_then_possible : {B : Type 0} (me : ℕ) (e : Event B) (x : NodeState B) → plans me e x ≡ true → possible e x ≡ true
is_then_possible me e x p = go (is_planned e) (may_be_planned me e x p)
  where
    go : (b : Bool) → b && possible e x ≡ true → possible e x ≡ true
    go true q = q
    go false q = absurd (cc)

-- a cut that is possible

pub cut_may : {B : Type 0} (e : Event B) (n : ℕ) (s : Option taken.Snapshot) (x : NodeState B) → e ≡ Cut n s → possible e x ≡ true → may_cut s x ≡ true
cut_may {B} e n s x p q = go x.up (subst (λ (f : Event B). possible f x ≡ true) p q)
  where
    go : (b : Bool) → b && may_cut s x ≡ true → may_cut s x ≡ true
    go true r = r
    go false r = absurd (cc)

pub cut_floor : {B : Type 0} (s : taken.Snapshot) (x : NodeState B) → may_cut (Some s) x ≡ true → log_length x ≤ s.floor
cut_floor s x h =
    let parts = and_parts (nat_lt 0 (length x.applied)) ((s.floor == log_length x) && is_head_of x (head_at s.octets)) h in
    let same : s.floor ≡ log_length x =
    eqb-true s.floor (log_length x) (and_parts (s.floor == log_length x) (is_head_of x (head_at s.octets)) parts.1).0 in
    omega arith

pub is_then_up : {B : Type 0} (me : ℕ) (e : Event B) (x : NodeState B) → plans me e x ≡ true → x.up ≡ true
is_then_up {B} me e x p = of e (may_be_planned me e x p)
  where
    first : (a b : Bool) → a && b ≡ true → a ≡ true
    first true b q = refl
    first false b q = q

    of : (f : Event B) → is_planned f && possible f x ≡ true → x.up ≡ true
    of (Take n t body) q = first x.up (nat_lt 0 t) q
    of (Cut n s) q = first x.up (may_cut s x) q
    of (Crash n) q = absurd (cc)
    of (Restart n) q = absurd (cc)
    of _ q = q

-- what the node returns is what its event's owner does

pub owner_answers : {B : Type 0} (same : B → B → Bool) (me members : ℕ) (e : Event B) (x : NodeState B) (r : Result (Outcome B) NodeFault) → owner e ≡ me
    → Answered me members x (is_round_refused e x) (is_full_refused same e x) (on_event same members e (begun x)) r
    → Answered (owner e) members x (is_round_refused e x) (is_full_refused same e x) (on_event same members e (begun x)) r
owner_answers {B} same me members e x r q a =
    subst (λ (k : ℕ). Answered k members x (is_round_refused e x) (is_full_refused same e x) (on_event same members e (begun x)) r) (sym q) a

-- what changes nothing fits

pub nothing_fits : {B : Type 0} (me members n : ℕ) (x : NodeState B) → n ≡ log_length x → n < 2 ^ 40 → x.learner.floor ≡ floor_in x.rows.snapshot
    → Begins (floor_in x.rows.snapshot) x.applied x.learner.learned → Fits me members (unchanged n) x
nothing_fits {B} me members n x p l f b =
    record {
      moves = tt;
      rises = omega arith;
      applied =
          subst (λ (es : List (Entry B)). Begins x.learner.floor es x.learner.learned) (sym (append-nil x.applied))
          (subst (λ (k : ℕ). Begins k x.applied x.learner.learned) (sym f) b);
      within = omega arith;
      front = no_front (log_length x + 0) x.proposer.role (pending_behind (standing_of x) [] x.pending);
    }

pub planned_fits : {B : Type 0} (me members : ℕ) (x : NodeState B) (rounds full other : Bool) (t : Plan B) (r : Result (Outcome B) NodeFault)
    → Answers rounds full other (λ o. Settled me members x t o) r → IfOk r (λ o. Fits me members o x)
planned_fits me members x rounds full other t (Ok o) a = a.3.fits
planned_fits me members x rounds full other t (Err f) a = tt

-- what is planned or runs out of memory

pub unless_memory : {B : Type 0} (me members : ℕ) (x : NodeState B) (t : Plan B) (r : Result (Outcome B) NodeFault)
    → IfOk r (λ o. Settled me members x t o) → IsOkUnless r Memory → Answered me members x false false t r
unless_memory me members x t (Ok o) p m = (refl, refl, p.agrees, p)
unless_memory me members x t (Err Rounds) p m = absurd (cc)
unless_memory me members x t (Err Full) p m = absurd (cc)
unless_memory me members x t (Err Disagree) p m = absurd (cc)
unless_memory me members x t (Err Memory) p m = (refl, refl)

-- a packet that is no snapshot, and a snapshot

seen_nothing : {B : Type 0} (x : NodeState B) → seeing 0 (begun x) ≡ begun x
seen_nothing {B} x = λ i. begun (record x { proposer = record { role = x.proposer.role; seen = none_more x.proposer.seen i } })
  where
    none_more : (n : ℕ) → max n 0 ≡ n
    none_more n = omega arith

-- a new snapshot that comes in a packet: octets that begin with no head disagree, and the node rests on any other

module _ {B : Type 0} (me members : ℕ) (x : NodeState B) (s : taken.Snapshot) where
  pub damaged_answered : is_damaged s x ≡ true → Answered me members x false false (on_snapshot me s (seeing 0 (begun x))) (Err Disagree)
  damaged_answered d = (refl, refl, settled_disagrees me (on_snapshot me s (seeing 0 (begun x))) ∙ go (nat_le s.floor (log_length x)) (head_at s.octets) d)
    where
      go : (b : Bool) (h : Option Head) → (not b && is_none h) ≡ true
          → (cond b (seeing 0 (begun x)) (take_in me s h (seeing 0 (begun x)))).disagrees ≡ true
      go true h d = absurd (cc)
      go false None d = refl
      go false (Some head) d = absurd (cc)

  pub taken_answered : (r : Result (Outcome B) NodeFault) → is_new me s x ≡ true → is_damaged s x ≡ false
      → Answered me members x false false (rest_on true s (begun x)) r → Answered me members x false false (on_snapshot me s (seeing 0 (begun x))) r
  taken_answered r new whole a =
      subst (λ (t : Plan B). Answered me members x false false t r)
      (ap (λ (t : Plan B). rest_on true s t) (sym (seen_nothing x)) ∙ go (nat_le s.floor (log_length x)) (head_at s.octets) new whole) a
    where
      by : (head : Head) (k : Bool) → not k ≡ true → rest_on true s (seeing 0 (begun x)) ≡ cond k (seeing 0 (begun x)) (rest_on true s (seeing 0 (begun x)))
      by head true p = absurd (cc)
      by head false p = refl

      go : (b : Bool) (h : Option Head) → (not b && lacks_boot me x h) ≡ true → (not b && is_none h) ≡ false
          → rest_on true s (seeing 0 (begun x)) ≡ cond b (seeing 0 (begun x)) (take_in me s h (seeing 0 (begun x)))
      go true h new whole = absurd (cc)
      go false None new whole = absurd (cc)
      go false (Some head) new whole = by head (has_boot me x head) new

-- a cut names no refusal, and disagrees with nothing

pub answers_ok : {A : Type 0} (rounds full other : Bool) (P : A → Type 0) (r : Result A NodeFault) → Answers rounds full other P r → IfOk r P
answers_ok rounds full other P (Ok x) a = a.3
answers_ok rounds full other P (Err f) a = tt

cut_agrees : {B : Type 0} (me : ℕ) (s : Option taken.Snapshot) (x : NodeState B) → (settle me (on_cut s (begun x))).disagrees ≡ false
cut_agrees me None x = settled_disagrees me (begun x)
cut_agrees me (Some s) x = settled_disagrees me (rest_on false s (begun x))

pub cut_memory : {B A : Type 0} (me : ℕ) (s : Option taken.Snapshot) (x : NodeState B) (P : A → Type 0) (r : Result A NodeFault)
    → Answers false false (settle me (on_cut s (begun x))).disagrees P r → IsOkUnless r Memory
cut_memory me s x P (Ok y) a = tt
cut_memory me s x P (Err Rounds) a = absurd (cc)
cut_memory me s x P (Err Full) a = absurd (cc)
cut_memory me s x P (Err Disagree) a = absurd (let other = a.2 in let same = cut_agrees me s x in cc)
cut_memory me s x P (Err Memory) a = refl

pub nothing_memory : {A : Type 0} (r : Result A NodeFault) (y : A) → r ≡ Ok y → IsOkUnless r Memory
nothing_memory (Ok z) y p = tt
nothing_memory (Err f) y p = absurd (cc)

pub nothing_ok : {A : Type 0} (r : Result A NodeFault) (y : A) → r ≡ Ok y → IfOk r (λ z. z ≡ y)
nothing_ok (Ok z) y p = cc
nothing_ok (Err f) y p = tt

-- a packet with no new snapshot is planned on a draft

module _ {B : Type 0} (me : ℕ) (x : NodeState B) where
  pub is_drafted : (same : B → B → Bool) (members from : ℕ) (k : Kind B) → new_snapshot me k x ≡ None
      → on_packet same members me from k (seeing (round_in k) (begun x)) ≡ deliver same members me from k (seeing (round_in k) (begun x))
  is_drafted same members from (Shown s) p = go (nat_le s.floor (log_length x)) (head_at s.octets) p
    where
      by : (k : Bool) → ◌≡◌ {A = Option taken.Snapshot} (cond (not k) (Some s) None) None
          → seeing 0 (begun x) ≡ cond k (seeing 0 (begun x)) (rest_on true s (seeing 0 (begun x)))
      by true p = refl
      by false p = absurd (cc)

      go : (b : Bool) (h : Option Head) → ◌≡◌ {A = Option taken.Snapshot} (cond (not b && lacks_boot me x h) (Some s) None) None
          → seeing 0 (begun x) ≡ cond b (seeing 0 (begun x)) (take_in me s h (seeing 0 (begun x)))
      go true h p = refl
      go false None p = absurd (cc)
      go false (Some head) p = by (has_boot me x head) p
  is_drafted same members from _ p = refl

  pub shows_new : (k : Kind B) (s : taken.Snapshot) → new_snapshot me k x ≡ Some s → (◌≡◌ {A = Kind B} k (Shown s)) × (is_new me s x ≡ true)
  shows_new (Shown t) s p = go (is_new me t x) refl p
    where
      go : (b : Bool) → is_new me t x ≡ b → ◌≡◌ {A = Option taken.Snapshot} (cond b (Some t) None) (Some s)
          → (◌≡◌ {A = Kind B} (Shown t) (Shown s)) × (is_new me s x ≡ true)
      go true e p = (cc, subst (λ (u : taken.Snapshot). is_new me u x ≡ true) (cc) e)
      go false e p = absurd (cc)
  shows_new _ s p = absurd (cc)

pub is_brought : {B : Type 0} (same : B → B → Bool) (members me from : ℕ) (k : Kind B) (x : NodeState B)
    → ((s : taken.Snapshot) → ◌≡◌ {A = Kind B} k (Shown s) → ⊥) → brings_other same members me from k x ≡ delivers_other same members me from k x
is_brought same members me from (Shown s) x f = absurd (f s refl)
is_brought same members me from _ x f = refl
