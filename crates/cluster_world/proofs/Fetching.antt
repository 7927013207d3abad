-- A node that does not lead asks another one for its snapshot, and gets it. But for what the node makes of the snapshot, no node changes.
use Rattle.std.proofs.Common.{◌≡◌, ⊎_elim, ℕ, suc, ◌+◌, ◌<◌, ◌≤◌, Bool, true, false, refl, sym, ap, ◌∙◌, subst, arith, List, [], ◌∷◌, ◌++◌, Some, None}
use Rattle.std.specs.Prelude.{◌||◌, max, nat_le, take, if◌then◌else◌}
use Rattle.std.proofs.lemmas.Bool.{cond-true, cond-false, cases_eq, le-leb, lt-leb, lt-ltb}
use Rattle.cluster_world.proofs.AtOnce.{AtRest, settle_rest, run_above}
use Rattle.cluster_world.proofs.Casting.{sent_to}
use Rattle.cluster_world.proofs.Lists.{has_left, has_right}
use Rattle.cluster_world.proofs.Looking.{up_stepped}
use Rattle.cluster_world.proofs.Playing.{stepped, Moved, moved, reached, answers}
use Rattle.cluster_world.specs.Has.{Has, here}
use Rattle.cluster_world.specs.World.{World, node_at, next, play}
use Rattle.paxos_packets.specs.Body.{IsEquality}
use Rattle.paxos_packets.specs.Members.{IsMember}
use Rattle.paxos_packets.specs.Packet.{packet}
use Rattle.paxos_packets.specs.Snapshot as taken
use Rattle.paxos_packets.specs.Rows.{raised}
use Rattle.paxos_packets.specs.declared.entry.Entry.{Entry}
use Rattle.paxos_packets.specs.declared.entry.Entry.TheVariants.{Boot}
use Rattle.paxos_packets.specs.declared.packet.Kind.{Kind}
use Rattle.paxos_packets.specs.declared.packet.Kind.TheVariants.{Ask, Snapshot}
use Rattle.paxos_packets.specs.declared.packet.Packet.{Packet}
use Rattle.paxos_acceptor.specs.Acceptor.{given_by, with_snapshot}
use Rattle.paxos_proposer.specs.Proposer.{is_leading}
use Rattle.paxos_learner.specs.Learned.{learned_above}
use Rattle.paxos_learner.specs.Learner.{run_from}
use Rattle.paxos_node.specs.Applying.{stands_by, stands_at, started, settle, apply_all, down, ends_boot, has_end, count_to_end}
use Rattle.paxos_node.specs.Events.{outcome_of}
use Rattle.paxos_node.specs.Snapshots.{boot_in, has_boot, rest_on, take_in}
use Rattle.paxos_node.specs.declared.event.Event.TheVariants.{Tick, Deliver}
use Rattle.paxos_node.proofs.Ending.{noted, ended, applied_at_once}
use Rattle.paxos_planning.specs.Node.{NodeState, Plan, log_length}
use Rattle.paxos_planning.specs.Plan.{begun, send}
use Rattle.paxos_planning.specs.Proposals.{push, propose_each, forwarded}
use Rattle.paxos_planning.specs.Replies.{saw, round_in, show, told_from, answer_ask}
use Rattle.paxos_planning.specs.Ticking.{again, ask}
use Rattle.replica_machine.specs.Roll.{is_new_boot, is_wanted_by, standing_after}
use Rattle.replica_machine.specs.declared.head.Head.{Head}
use Rattle.replica_machine.specs.declared.roll.Standing.{Standing}
use Rattle.replica_machine.specs.declared.roll.Standing.TheVariants.{Unknown, Live, Gone}
use Rattle.replica_machine.specs.Snapshot.{head_at}
use Rattle.world_rescue.specs.Reaching.{Source, fetch, learned_after, goes_over, begins_over, falls_after}

-- a packet without a ballot shows a node no round
saw_none : {B : Type 0} (kind : Kind B) (x : NodeState B) → round_in kind ≡ 0 → saw kind x ≡ x
saw_none kind x e = λ i. record x { proposer = record { role = x.proposer.role; seen = greatest i } }
  where
    greatest : max x.proposer.seen (round_in kind) ≡ x.proposer.seen
    greatest = ap (λ r. max x.proposer.seen r) e ∙ least x.proposer.seen
      where
        least : (a : ℕ) → max a 0 ≡ a
        least a = omega arith

-- without its end a boot goes over the whole list
all_of : {B : Type 0} (me boot : ℕ) (s : Standing) (es : List (Entry B)) → has_end me boot s es ≡ false
    → take (count_to_end me boot s es) es ≡ es
all_of me boot s [] h = refl
all_of {B} me boot s (e ∷ es) h = go (ends_boot me boot s e) h (all_of me boot (standing_after me s e) es)
  where
    off : true ≡ false → ⊥
    off e = cc

    go : (b : Bool) → (b || has_end me boot (standing_after me s e) es) ≡ false
        → (has_end me boot (standing_after me s e) es ≡ false
        → take (count_to_end me boot (standing_after me s e) es) es ≡ es)
        → take (if b then 1 else suc (count_to_end me boot (standing_after me s e) es)) (e ∷ es) ≡ e ∷ es
    go true h rest = absurd (off h)
    go false h rest = ap (λ l. e ∷ l) (rest h)

module _ {B : Type 0} (same : B → B → Bool) (equal : IsEquality same) (members n : ℕ) (t : Source) (apart : t.number ≡ n → ⊥)
    (member : IsMember members t.number) where
  abbrev pub back : Packet B
  back = packet t.number (Snapshot t.snapshot) n

  -- the node, which was x, made of the snapshot what it does, and the packet that brought it is there
  pub record Fetched (x : NodeState B) (w v : World B) : Type 0 where
    pub own : node_at v.nodes n ≡ stepped same members (Deliver back) x
    pub others : (k : ℕ) → (k ≡ n → ⊥) → node_at v.nodes k ≡ node_at w.nodes k
    pub sent : Has v.sent back

  module _ (w : World B) (x y : NodeState B) (at : node_at w.nodes n ≡ x) (at' : node_at w.nodes t.number ≡ y) (up : x.up ≡ true)
      (rest : AtRest x) (idle : is_leading x.proposer.role ≡ false) (up' : y.up ≡ true) (rest' : AtRest y)
      (has : y.rows.snapshot ≡ Some t.snapshot) (more : log_length x < t.snapshot.floor) where
    abbrev first : ℕ
    first = suc (log_length x)

    -- the tick
    abbrev prompted : Plan B
    prompted = send (again members n x.proposer.role x.learner) (begun x)

    abbrev pushed : Plan B
    pushed = send (forwarded n x.rows.promised x.pending) prompted

    pushes : push same members n prompted ≡ pushed
    pushes = cond-false (is_leading x.proposer.role) (propose_each same members n x.pending prompted) pushed idle

    ticks : outcome_of same members (Tick n) x ≡ ask members n pushed
    ticks = ap (λ (o : Plan B). settle n (ask members n o)) pushes ∙ settle_rest n (ask members n pushed) rest

    abbrev w1 : World B
    w1 = next same members w (Tick n)

    m1 : Moved same members w w1 (Tick n)
    m1 = moved same members w (Tick n) refl

    at1 : node_at w1.nodes n ≡ x
    at1 =
        m1.mine
        ∙ (ap (λ z. stepped same members (Tick n) z) at
        ∙ (cond-true x.up (outcome_of same members (Tick n) x).node x up ∙ ap (λ (o : Plan B). o.node) ticks))

    abbrev question : Packet B
    question = packet n (Ask first) t.number

    sent1 : Has w1.sent question
    sent1 =
        subst (λ l. Has l question)
        (sym (m1.sends (ap (λ (z : NodeState B). z.up) at ∙ up)
        ∙ (ap (λ z. w.sent ++ (outcome_of same members (Tick n) z).packets) at ∙ ap (λ (o : Plan B). w.sent ++ o.packets) ticks)))
        (has_right w.sent (has_right pushed.packets (sent_to members n t.number (Ask first) member apart)))

    -- the question
    abbrev asked : Plan B
    asked = record (begun y) { node = saw (Ask first) y }

    abbrev answered : Plan B
    answered = send (told_from t.number n (suc t.snapshot.floor) y.learner.learned) (show t.number n t.snapshot asked)

    given : given_by y.rows.snapshot first ≡ Some t.snapshot
    given =
        ap (λ o. given_by o first) has
        ∙ cond-true (nat_le first t.snapshot.floor) (Some t.snapshot) None
        (le-leb first t.snapshot.floor (next (log_length x) t.snapshot.floor more))
      where
        next : (a c : ℕ) → a < c → suc a ≤ c
        next a c l = omega arith

    asks : outcome_of same members (Deliver question) y ≡ answered
    asks =
        ap (λ o. settle t.number (answer_ask t.number n first o asked)) given
        ∙ settle_rest t.number answered rest'

    abbrev w2 : World B
    w2 = next same members w1 (Deliver question)

    m2 : Moved same members w1 w2 (Deliver question)
    m2 = reached same members equal w1 question sent1

    y1 : node_at w1.nodes t.number ≡ y
    y1 = m1.others t.number apart ∙ at'

    at2 : node_at w2.nodes t.number ≡ y
    at2 =
        m2.mine
        ∙ (ap (λ z. stepped same members (Deliver question) z) y1
        ∙ (up_stepped same members question y up' ∙ (ap (λ (o : Plan B). o.node) asks ∙ saw_none (Ask first) y refl)))

    sent2 : Has w2.sent back
    sent2 =
        answers same members equal w1 question back sent1 (ap (λ (z : NodeState B). z.up) y1 ∙ up')
        (subst (λ z. Has (outcome_of same members (Deliver question) z).packets back) (sym y1)
        (subst (λ (o : Plan B). Has o.packets back) (sym asks)
        (has_left (told_from t.number n (suc t.snapshot.floor) y.learner.learned) (here {xs = []}))))

    -- the answer
    abbrev w3 : World B
    w3 = next same members w2 (Deliver back)

    m3 : Moved same members w2 w3 (Deliver back)
    m3 = reached same members equal w2 back sent2

    pub fetches : Fetched x w (play same members (fetch n first t) w)
    fetches =
        record {
          own = m3.mine ∙ ap (λ z. stepped same members (Deliver back) z) (m2.others n (λ e. apart (sym e)) ∙ at1);
          others = λ k d. m3.others k d ∙ before k d;
          sent = m3.stay back sent2;
        }
      where
        before : (k : ℕ) → (k ≡ n → ⊥) → node_at w2.nodes k ≡ node_at w.nodes k
        before k d =
            ⊎_elim (λ (e : k ≡ t.number). subst (λ j. node_at w2.nodes j ≡ node_at w.nodes j) (sym e) (at2 ∙ sym at'))
            (λ g. m2.others k g ∙ m1.others k d) (cases_eq k t.number)

-- ---- what a node makes of a snapshot

module _ {B : Type 0} (same : B → B → Bool) (members n from : ℕ) (s : taken.Snapshot) (head : Head) (reads : head_at s.octets ≡ Some head)
    (x : NodeState B) (up : x.up ≡ true) (more : log_length x < s.floor) where
  abbrev brought : Packet B
  brought = packet from (Snapshot s) n

  abbrev seeing : Plan B
  seeing = begun (saw (Snapshot s) x)

  brings : outcome_of same members (Deliver brought) x ≡ settle n (take_in n s (Some head) (begun x))
  brings =
      ap (λ (o : Plan B). settle n o)
      (cond-false (nat_le s.floor (log_length x)) seeing (take_in n s (head_at s.octets) seeing) (lt-leb s.floor (log_length x) more))
      ∙ ((λ i. settle n (take_in n s (reads i) seeing)) ∙ ap (λ y. settle n (take_in n s (Some head) (begun y))) (saw_none (Snapshot s) x refl))

  -- it has the node's boot
  pub refuses : AtRest x → has_boot n x head ≡ true → stepped same members (Deliver brought) x ≡ x
  refuses rest boot =
      up_stepped same members brought x up
      ∙ ap (λ (o : Plan B). o.node)
      (brings
      ∙ (ap (λ (o : Plan B). settle n o) (cond-true (has_boot n x head) (begun x) (rest_on true s (begun x)) boot)
      ∙ settle_rest n (begun x) rest))

  abbrev run : List (Entry B)
  run = learned_after s x

  -- it has not: what was learned above it is applied, up to the loss of the node's boot
  pub goes : has_boot n x head ≡ false
      → stepped same members (Deliver brought) x
      ≡ (ended (falls_after n s x) (noted (take (count_to_end n x.rows.boot (stands_at (Some s) n) run) run) (rest_on true s (begun x)))).node
  goes boot =
      up_stepped same members brought x up
      ∙ ap (λ (o : Plan B). o.node)
      (brings
      ∙ (ap (λ (o : Plan B). settle n o) (cond-false (has_boot n x head) (begun x) over boot)
      ∙ (ap (λ (es : List (Entry B)). apply_all n es over) run_is ∙ applied_at_once n x.rows.boot run (stands_at (Some s) n) over refl refl)))
    where
      over : Plan B
      over = rest_on true s (begun x)

      run_is : run_from (suc (log_length over.node)) over.node.learner.learned ≡ run
      run_is =
          ap (λ a. run_from (suc a) (learned_above s.floor x.learner.learned)) (none_more s.floor)
          ∙ run_above s.floor x.learner.learned (suc s.floor) (next s.floor)
        where
          none_more : (a : ℕ) → a + 0 ≡ a
          none_more a = omega arith

          next : (a : ℕ) → a < suc a
          next a = omega arith

  -- it stays up
  pub rides : has_boot n x head ≡ false → falls_after n s x ≡ false → stepped same members (Deliver brought) x ≡ goes_over s x
  rides boot stays =
      goes boot
      ∙ ((λ i. (ended (stays i) (noted (take (count_to_end n x.rows.boot (stands_at (Some s) n) run) run) (rest_on true s (begun x)))).node)
      ∙ (λ i. (noted (all_of n x.rows.boot (stands_at (Some s) n) run stays i) (rest_on true s (begun x))).node))

  -- or goes down
  pub falls : has_boot n x head ≡ false → falls_after n s x ≡ true
      → stepped same members (Deliver brought) x ≡ down (with_snapshot s x.rows)
  falls boot ends =
      goes boot
      ∙ (λ i. (ended (ends i) (noted (take (count_to_end n x.rows.boot (stands_at (Some s) n) run) run) (rest_on true s (begun x)))).node)

-- ---- a node that has just begun a boot

-- a boot is new wherever no later one is known
new_boot : (s : Standing) (b : ℕ) → boot_in s ≤ b → is_new_boot s (suc b) ≡ true
new_boot Unknown b l = refl
new_boot (Live c q) b l = lt-ltb c (suc b) (next c b l)
  where
    next : (c b : ℕ) → c ≤ b → c < suc b
    next c b l = omega arith
new_boot (Gone c) b l = lt-ltb c (suc b) (next c b l)
  where
    next : (c b : ℕ) → c ≤ b → c < suc b
    next c b l = omega arith

-- so it rests on a snapshot that has not that boot, and gives more than its own
pub begun_over : {B : Type 0} (same : B → B → Bool) (members n from : ℕ) (s : taken.Snapshot) (head : Head) → head_at s.octets ≡ Some head
    → (y : NodeState B) → boot_in (stands_at (Some s) n) ≤ y.rows.boot → taken.floor_in y.rows.snapshot < s.floor
    → stepped same members (Deliver (packet from (Snapshot s) n)) (started n (raised y.rows)) ≡ begins_over n s y
begun_over {B} same members n from s head reads y told more =
    rides same members n from s head reads began refl (further (taken.floor_in y.rows.snapshot) more) newer refl
    ∙ (λ i. record (begins_over n s y) {
      pending =
          cond-true (is_wanted_by {B = B} (stands_at (Some s)) (Boot n (suc y.rows.boot))) (Boot n (suc y.rows.boot) ∷ []) [] wanted i;
    })
  where
    began : NodeState B
    began = started n (raised y.rows)

    further : (a : ℕ) → a < s.floor → a + 0 < s.floor
    further a l = omega arith

    newer : has_boot n began head ≡ false
    newer =
        (λ i. nat_le (suc y.rows.boot) (boot_in (stands_by (sym reads i) n)))
        ∙ lt-leb (suc y.rows.boot) (boot_in (stands_at (Some s) n)) (next_of told)
      where
        next_of : {a c : ℕ} → a ≤ c → a < suc c
        next_of l = omega arith

    wanted : is_wanted_by {B = B} (stands_at (Some s)) (Boot n (suc y.rows.boot)) ≡ true
    wanted = new_boot (stands_at (Some s) n) y.rows.boot told
