-- The invariant holds in the first world, and each event keeps it.
use Rattle.std.proofs.Common.{◌≡◌, ⊎_elim, ℕ, zero, suc, ◌+◌, ◌<◌, ◌≤◌, Bool, true, false, not, ◌&&◌, refl, sym, ap, ◌∙◌, subst, arith, List, [], ◌∷◌}
use Rattle.std.proofs.Common.{◌++◌, length, length-append, append_assoc, Option, Some, None}
use Rattle.std.proofs.Math.Path.{fun_ext}
use Rattle.std.specs.Prelude.{slice_index_or, slice_get, nat_lt, nat_le, ◌==◌, if◌then◌else◌}
use Rattle.std.proofs.lemmas.List.{append-nil, get_or-set_same, get_or-set_other, get_or_past}
use Rattle.std.proofs.lemmas.Bool.{cond_both, cond-true, cases_eq, cases_lt, ltb-true, leb-false, eqb-true, and_parts, or_cases}
use Rattle.cluster_world.proofs.Lists.{has_nil, has_one, has_cases, has_first, has_left, has_right}
use Rattle.cluster_world.proofs.Invariant.{Known, IsChosen, RoleFree, NodeOk, Inv, promises}
use Rattle.cluster_world.proofs.OneChosen.{chosen_one}
use Rattle.cluster_world.proofs.Growth.{role_free_grows, chosen_grows}
use Rattle.cluster_world.proofs.InvariantKept.{sent_left}
use Rattle.cluster_world.proofs.AcceptorTests.{sent_nil}
use Rattle.cluster_world.proofs.WithNode.{with_node, with_node_mine, with_node_other}
use Rattle.cluster_world.proofs.Events.{ToBy, take_step, tick_step, start_step, suspect_step, saw_step, deliver_step}
use Rattle.cluster_world.proofs.Settling.{Logged, logged_nil, UpFrom, settles_from, settle_rows, settle_change, Good, Goes, goes_on, good_of, down_goes}
use Rattle.cluster_world.proofs.Settling.{start_goes, arrives, rest_goes, settled_goes, settled_logged}
use Rattle.cluster_world.proofs.Cuts.{IsCut, RestsOnCut, cut_more, under_found, under_kept, under_same}
use Rattle.cluster_world.proofs.Delivering.{IsOther, by_kind}
use Rattle.cluster_world.proofs.Sources.{KindGood, RoleGood, NodeGood, PlanGood, EventGood, outcome_good}
use Rattle.cluster_world.specs.Has.{Has, here, there}
use Rattle.paxos_packets.specs.Body.{IsEquality}
use Rattle.paxos_packets.specs.Packet.{packet_equality, same_packet}
use Rattle.paxos_packets.specs.Rows.{last_boot, first_rows, raised}
use Rattle.paxos_packets.specs.Snapshot.{floor_in}
use Rattle.paxos_packets.specs.Snapshot as taken
use Rattle.paxos_packets.specs.declared.entry.Entry.{Entry}
use Rattle.paxos_packets.specs.declared.packet.Kind.{Kind}
use Rattle.paxos_packets.specs.declared.packet.Kind.TheVariants.{Prepare, Promise, Accept, Accepted, Nack, Forward, Ask, Learned, Snapshot}
use Rattle.paxos_packets.specs.declared.packet.Packet.{Packet}
use Rattle.paxos_packets.specs.declared.rows.Change.{Change}
use Rattle.paxos_packets.specs.declared.rows.Rows.{Rows}
use Rattle.paxos_proposer.specs.Role.{Role, Idle, Preparing, Leading}
use Rattle.replica_machine.specs.declared.head.Head.{Head}
use Rattle.replica_machine.specs.Snapshot.{head_at}
use Rattle.paxos_node.specs.declared.event.Event.{Event}
use Rattle.paxos_node.specs.declared.event.Event.TheVariants.{Take, Tick, Start, Suspect, Deliver, Cut, Crash, Restart}
use Rattle.paxos_planning.specs.Node.{NodeState, Plan, log_length}
use Rattle.paxos_planning.specs.Plan.{begun}
use Rattle.paxos_planning.specs.Replies.{saw}
use Rattle.paxos_node.specs.Applying.{started, go_down, settle}
use Rattle.paxos_node.specs.Snapshots.{is_head_of, may_cut, rest_on, on_cut, has_boot, take_in, on_snapshot}
use Rattle.paxos_node.specs.Events.{owner, possible, outcome_of, new_lost, deliver}
use Rattle.cluster_world.specs.World.{World, absent, node_at, put_node, founded, first_world, is_among, was_sent, done, next, play, played}
use Rattle.cluster_world.specs.World as worlds
use Rattle.cluster_world.specs.World.{under, whole_log, log_of, log_over, log_before, cut_from, cut_by}

-- each snapshot that a node has, or that a packet brings, was cut
pub record Found {B : Type 0} (w : World B) : Type 0 where
  pub nodes : (k : ℕ) → RestsOnCut w.cuts (node_at w.nodes k).rows.snapshot
  pub shown : (p : Packet B) → Has w.sent p → (s : taken.Snapshot) → p.kind ≡ Snapshot s → IsCut w.cuts s

-- and of those that were cut each is as long as its log, which is chosen, and its octets begin with a head
pub record CutsOk {B : Type 0} (members : ℕ) (w : World B) : Type 0 where
  pub some : (c : worlds.Cut B) → Has w.cuts c → 1 ≤ c.snapshot.floor
  pub long : (c : worlds.Cut B) → Has w.cuts c → length c.log ≡ c.snapshot.floor
  pub logged : (c : worlds.Cut B) → Has w.cuts c → Logged members w.sent c.log
  pub reads : (c : worlds.Cut B) → Has w.cuts c → (h : Head) × (head_at c.snapshot.octets ≡ Some h)
  pub found : Found w

-- the log of a node, also of one that is down: up to its floor, and all of it
abbrev pub under_of : {B : Type 0} → World B → ℕ → List (Entry B)
under_of w k = under w.cuts (node_at w.nodes k).rows.snapshot

abbrev pub stood : {B : Type 0} → World B → ℕ → List (Entry B)
stood w k = under_of w k ++ (node_at w.nodes k).applied

pub record WorldOk {B : Type 0} (members : ℕ) (w : World B) : Type 0 where
  pub inv : Inv members (node_at w.nodes) w.sent
  pub free : (k : ℕ) → RoleFree members (promises (node_at w.nodes)) w.sent (node_at w.nodes k).proposer.role
  pub log : (k : ℕ) → Logged members w.sent (stood w k)
  pub cuts : CutsOk members w

-- a node whose floor is 0 has no snapshot
pub floor_none : {B : Type 0} {members : ℕ} {w : World B} → CutsOk members w → (o : Option taken.Snapshot) → RestsOnCut w.cuts o → floor_in o ≡ 0
    → o ≡ None
floor_none ok None r e = refl
floor_none {B} {members} {w} ok (Some s) r e =
    let c = r s refl in absurd (never (ap (λ (z : taken.Snapshot). z.floor) c.same ∙ e) (ok.some c.cut c.has))
  where
    never : {a : ℕ} → a ≡ 0 → 1 ≤ a → ⊥
    never e l = omega arith

pub under_long : {B : Type 0} {members : ℕ} {w : World B} → CutsOk members w → (o : Option taken.Snapshot) → RestsOnCut w.cuts o
    → length (under w.cuts o) ≡ floor_in o
under_long ok None h = refl
under_long {w = w} ok (Some s) h =
    let f = under_found w.cuts s (h s refl) in
    ap (λ l. length l) f.3 ∙ (ok.long f.0 f.1 ∙ ap (λ (z : taken.Snapshot). z.floor) f.2)

pub under_logged : {B : Type 0} {members : ℕ} {w : World B} → CutsOk members w → (o : Option taken.Snapshot) → RestsOnCut w.cuts o
    → Logged members w.sent (under w.cuts o)
under_logged {members = members} {w = w} ok None h = logged_nil members w.sent
under_logged {members = members} {w = w} ok (Some s) h =
    let f = under_found w.cuts s (h s refl) in subst (λ l. Logged members w.sent l) (sym f.3) (ok.logged f.0 f.1)

-- the first world

-- a node that has done nothing yet
pub record Plain {B : Type 0} (x : NodeState B) : Type 0 where
  pub votes : x.rows.votes ≡ []
  pub snapshot : x.rows.snapshot ≡ None
  pub role : x.proposer.role ≡ Idle
  pub floor : x.learner.floor ≡ 0
  pub heard : x.learner.heard ≡ []
  pub learned : x.learner.learned ≡ []
  pub applied : x.applied ≡ []

plain_absent : {B : Type 0} → Plain {B = B} absent
plain_absent = record { votes = refl; snapshot = refl; role = refl; floor = refl; heard = refl; learned = refl; applied = refl }

plain_push : {B : Type 0} (xs : List (NodeState B)) (x : NodeState B) → Plain x → ((k : ℕ) → Plain (slice_index_or xs k absent)) → (k : ℕ)
    → Plain (slice_index_or (xs ++ x ∷ []) k absent)
plain_push [] x p h zero = p
plain_push [] x p h (suc k) = plain_absent
plain_push (y ∷ ys) x p h zero = h zero
plain_push (y ∷ ys) x p h (suc k) = plain_push ys x p (λ j. h (suc j)) k

plain_founded : {B : Type 0} (n k : ℕ) → Plain {B = B} (slice_index_or (founded n) k absent)
plain_founded zero k = plain_absent
plain_founded (suc n) k =
    plain_push (founded n) (started (suc n) first_rows) (record { votes = refl; snapshot = refl; role = refl; floor = refl; heard = refl; learned = refl; applied = refl })
    (λ j. plain_founded n j) k

pub plain_at : {B : Type 0} (n k : ℕ) → Plain {B = B} (node_at (founded n) k)
plain_at n zero = plain_absent
plain_at n (suc k) = plain_founded n k

nothing_sent : {B : Type 0} {kind : Kind B} → Known [] kind → ⊥
nothing_sent p = sent_nil p.by _ p.is

in_none : {A : Type 0} (xs : List A) (x : A) → xs ≡ [] → Has xs x → ⊥
in_none xs x e h = go (subst (λ l. Has l x) e h)
  where
    go : Has [] x → ⊥
    go g = elim g [ ]

plain_ok : {B : Type 0} (members : ℕ) (promised : ℕ → Option _) (k : ℕ) (x : NodeState B) → Plain x → NodeOk members promised [] k x
plain_ok members promised k x p =
    record {
      rows =
          record {
            reached = λ w s. absurd (sent_nil k _ s);
            tops = λ w s l. absurd (sent_nil k _ s);
            above = λ s e u h. absurd (in_none x.rows.votes u p.votes h);
            low = λ u h. absurd (in_none x.rows.votes u p.votes h);
            known = λ u h. absurd (in_none x.rows.votes u p.votes h);
          };
      role = subst (λ r. Rattle.cluster_world.proofs.Invariant.RoleOk promised x.rows.promised (floor_in x.rows.snapshot) [] k r) (sym p.role) tt;
      heard = λ t i j q. absurd (in_none x.learner.heard t p.heard i);
      learned = λ f i. absurd (in_none x.learner.learned f p.learned i);
    }

pub first_found : {B : Type 0} (members : ℕ) → Found {B = B} (first_world members)
first_found {B} members =
    record { nodes = λ k s e. absurd (never s (sym (plain_at {B = B} members k).snapshot ∙ e)); shown = λ p h. absurd (has_nil h) }
  where
    never : (s : taken.Snapshot) → ◌≡◌ {A = Option taken.Snapshot} None (Some s) → ⊥
    never s e = cc

pub first_ok : {B : Type 0} (members : ℕ) → WorldOk {B = B} members (first_world members)
first_ok {B} members =
    record {
      inv = record {
        packets = record {
          safe = λ v p. absurd (nothing_sent p);
          one = λ v w p q s b. absurd (nothing_sent p);
          low = λ v p. absurd (nothing_sent p);
          voted = λ k v s. absurd (sent_nil k _ s);
          asked_one = λ b f g p q. absurd (nothing_sent p);
          asked_low = λ b f p. absurd (nothing_sent p);
          told = λ k b floor votes s. absurd (sent_nil k _ s);
          learned = λ s e p. absurd (nothing_sent p);
        };
        nodes =
            λ k.
            plain_ok members (promises {B = B} (node_at (founded members))) k (node_at (founded members) k) (plain_at {B = B} members k);
      };
      free =
          λ k.
          subst (λ (r : Role B). RoleFree members (promises {B = B} (node_at (founded members))) [] r)
          (sym (plain_at {B = B} members k).role) tt;
      log = λ k. let p = plain_at {B = B} members k in
          subst (λ (z : Option taken.Snapshot × List (Entry B)). Logged members [] (under [] z.0 ++ z.1))
          (λ i. (sym p.snapshot i, sym p.applied i)) (logged_nil members []);
      cuts = record {
        some = λ c h. absurd (has_nil h);
        long = λ c h. absurd (has_nil h);
        logged = λ c h. absurd (has_nil h);
        reads = λ c h. absurd (has_nil h);
        found = first_found members;
      };
    }

-- what is among the packets sent was sent
pub among_has : {B : Type 0} (same : B → B → Bool) → IsEquality same → (p : Packet B) (sent : List (Packet B)) → is_among same p sent ≡ true
    → Has sent p
among_has same equal p [] e = absurd (cc)
among_has {B} same equal p (q ∷ qs) e =
    ⊎_elim (λ t. has_first qs ((packet_equality same equal).sound q p t)) (λ t. there (among_has same equal p qs t))
    (or_cases (same_packet same q p) (is_among same p qs) e)

-- one node of the list

-- the place of a node
pub record Within {B : Type 0} (nodes : List (NodeState B)) (k : ℕ) : Type 0 where
  pub i : ℕ
  pub is : k ≡ suc i
  pub low : i < length nodes

pub node_same : {B : Type 0} (nodes : List (NodeState B)) (k : ℕ) (y : NodeState B) → Within nodes k → node_at (put_node nodes k y) k ≡ y
node_same nodes k y h = subst (λ j. node_at (put_node nodes j y) j ≡ y) (sym h.is) (get_or-set_same nodes h.i y absent h.low)

pub node_other : {B : Type 0} (nodes : List (NodeState B)) (k : ℕ) (y : NodeState B) (j : ℕ) → (j ≡ k → ⊥)
    → node_at (put_node nodes k y) j ≡ node_at nodes j
node_other nodes zero y j d = refl
node_other nodes (suc i) y zero d = refl
node_other nodes (suc i) y (suc j) d = get_or-set_other nodes i j y absent (λ e. d (ap suc e))

nodes_put : {B : Type 0} (nodes : List (NodeState B)) (k : ℕ) (y : NodeState B) → Within nodes k
    → node_at (put_node nodes k y) ≡ with_node (node_at nodes) k y
nodes_put {B} nodes k y h = fun_ext (λ j. ⊎_elim
    (λ (e : j ≡ k). subst (λ i. node_at (put_node nodes k y) i ≡ with_node (node_at nodes) k y i) (sym e)
    (node_same nodes k y h ∙ sym (with_node_mine (node_at nodes) k y)))
    (λ d. node_other nodes k y j d ∙ sym (with_node_other (node_at nodes) k y j d))
    (cases_eq j k))

with_node_itself : {B : Type 0} (at : ℕ → NodeState B) (n : ℕ) → with_node at n (at n) ≡ at
with_node_itself at n =
    fun_ext
    (λ k. ⊎_elim (λ (e : k ≡ n). subst (λ j. with_node at n (at n) j ≡ at j) (sym e) (with_node_mine at n (at n)))
    (λ d. with_node_other at n (at n) k d) (cases_eq k n))

-- nothing is possible if there is no node
off : false ≡ true → ⊥
off e = cc

absent_cannot : {B : Type 0} (e : Event B) → possible e absent ≡ true → ⊥
absent_cannot (Restart n) h = let l = ltb-true last_boot last_boot h in omega arith
absent_cannot _ h = off h

pub within : {B : Type 0} (nodes : List (NodeState B)) (e : Event B) (k : ℕ) → possible e (node_at nodes k) ≡ true → Within nodes k
within nodes e zero h = absurd (absent_cannot e h)
within nodes e (suc i) h =
    ⊎_elim (λ l. record { i = i; is = refl; low = l })
    (λ l. absurd (absent_cannot e (subst (λ x. possible e x ≡ true) (get_or_past nodes i absent l) h))) (cases_lt i (length nodes))

-- lists that agree wherever both have an element, and are of one length
same_lists : {A : Type 0} (xs ys : List A) → length xs ≡ length ys
    → ((i : ℕ) (d e : A) → slice_get xs i ≡ Some d → slice_get ys i ≡ Some e → d ≡ e) → xs ≡ ys
same_lists [] [] l h = refl
same_lists [] (y ∷ ys) l h = absurd (omega arith)
same_lists (x ∷ xs) [] l h = absurd (omega arith)
same_lists (x ∷ xs) (y ∷ ys) l h =
    let p = h zero x y refl refl in
    let q = same_lists xs ys (less (length xs) (length ys) l) (λ i d e. h (suc i) d e) in
    λ i. p i ∷ q i
  where
    less : (a b : ℕ) → suc a ≡ suc b → a ≡ b
    less a b e = omega arith

-- a packet's kind, or a node, of which nothing is asked but that its snapshot is such a one

module _ {B : Type 0} (F : taken.Snapshot → Type 0) where
  abbrev anything : Entry B → Type 0
  anything e = Unit {0}

  kind_plain : (kind : Kind B) → ((s : taken.Snapshot) → kind ≡ Snapshot s → F s) → KindGood anything F kind
  kind_plain (Prepare b first) f = tt
  kind_plain (Promise b floor votes) f = λ v h. tt
  kind_plain (Accept v) f = tt
  kind_plain (Accepted v) f = tt
  kind_plain (Nack b p) f = tt
  kind_plain (Forward es) f = λ e h. tt
  kind_plain (Ask slot) f = tt
  kind_plain (Learned slot e) f = tt
  kind_plain (Snapshot s) f = f s refl

  role_plain : (r : Role B) → RoleGood anything F r
  role_plain Idle = tt
  role_plain (Preparing b first promises) = λ c h v i. tt
  role_plain (Leading b next table) = λ v h. tt

  node_plain : (x : NodeState B) → ((s : taken.Snapshot) → x.rows.snapshot ≡ Some s → F s) → NodeGood anything F x
  node_plain x f =
      record {
        based = f;
        votes = λ v h. tt;
        role = role_plain x.proposer.role;
        learned = λ l h. tt;
        applied = λ e h. tt;
        pending = λ e h. tt;
      }

-- the log of a node that is up
pub whole_is : {B : Type 0} (cuts : List (worlds.Cut B)) (x : NodeState B) → x.up ≡ true → whole_log cuts x ≡ under cuts x.rows.snapshot ++ x.applied
whole_is cuts x u = cond-true x.up (under cuts x.rows.snapshot ++ x.applied) [] u

module _ {B : Type 0} (same : B → B → Bool) (equal : IsEquality same) (members : ℕ) where
  -- each snapshot that a node has after an event, or that it sent, was cut
  module _ (w : World B) (e : Event B) (ok : Found w) (sent : was_sent same e w.sent ≡ true) where
    abbrev later_cuts : List (worlds.Cut B)
    later_cuts = w.cuts ++ cut_by w e

    brings : (f : Event B) → was_sent same f w.sent ≡ true → EventGood (anything (IsCut (w.cuts ++ cut_by w f))) (IsCut (w.cuts ++ cut_by w f)) f
    brings (Take n t body) s = tt
    brings (Tick n) s = tt
    brings (Start n) s = tt
    brings (Suspect n other) s = tt
    brings (Deliver p) s =
        kind_plain (IsCut (w.cuts ++ [])) p.kind (λ k i. cut_more w.cuts [] k (ok.shown p (among_has same equal p w.sent s) k i))
    brings (Cut n o) s =
        λ k i. subst (λ z. IsCut (w.cuts ++ cut_from w n z) k) (sym i)
        (record { cut = record { snapshot = k; log = log_of w n }; has = has_right w.cuts here; same = refl })
    brings (Crash n) s = tt
    brings (Restart n) s = tt

    goes_good : PlanGood (anything (IsCut later_cuts)) (IsCut later_cuts) (outcome_of same members e (node_at w.nodes (owner e)))
    goes_good =
        outcome_good (anything (IsCut later_cuts)) (IsCut later_cuts) same members tt e (node_at w.nodes (owner e))
        (node_plain (IsCut later_cuts) (node_at w.nodes (owner e))
        (λ s i. cut_more w.cuts (cut_by w e) s (ok.nodes (owner e) s i)))
        (brings e sent) (λ y h. tt)

    pub node_cut : RestsOnCut later_cuts (outcome_of same members e (node_at w.nodes (owner e))).node.rows.snapshot
    node_cut s i = goes_good.node.based s i

    pub packet_cut : (p : Packet B) → Has (outcome_of same members e (node_at w.nodes (owner e))).packets p → (s : taken.Snapshot)
        → p.kind ≡ Snapshot s → IsCut later_cuts s
    packet_cut p h s i =
        subst (λ k. KindGood (anything (IsCut later_cuts)) (IsCut later_cuts) k) i (goes_good.out p h)

    pub done_found : Within w.nodes (owner e)
        → Found (done same w e (node_at w.nodes (owner e)) (outcome_of same members e (node_at w.nodes (owner e))))
    done_found l =
        record {
          nodes = λ j. ⊎_elim
              (λ (s : j ≡ k). subst (λ i. RestsOnCut later_cuts (node_at (put_node w.nodes k o.node) i).rows.snapshot) (sym s)
              (subst (λ (x : NodeState B). RestsOnCut later_cuts x.rows.snapshot) (sym (node_same w.nodes k o.node l)) node_cut))
              (λ s. subst (λ (x : NodeState B). RestsOnCut later_cuts x.rows.snapshot) (sym (node_other w.nodes k o.node j s))
              (λ z i. cut_more w.cuts (cut_by w e) z (ok.nodes j z i)))
              (cases_eq j k);
          shown = λ p h s i. ⊎_elim (λ a. cut_more w.cuts (cut_by w e) s (ok.shown p a s i)) (λ a. packet_cut p a s i)
              (has_cases w.sent o.packets h);
        }
      where
        k : ℕ
        k = owner e

        o : Plan B
        o = outcome_of same members e (node_at w.nodes (owner e))

  next_found : (w : World B) (e : Event B) → Found w → Found (next same members w e)
  next_found w e ok =
      cond_both (was_sent same e w.sent && possible e (node_at w.nodes (owner e)))
      (done same w e (node_at w.nodes (owner e)) (outcome_of same members e (node_at w.nodes (owner e)))) w (λ z. Found z)
      (λ t. let p = and_parts (was_sent same e w.sent) (possible e (node_at w.nodes (owner e))) t in
      done_found w e ok p.0 (within w.nodes e (owner e) p.1))
      (λ t. ok)

  play_found : (events : List (Event B)) (w : World B) → Found w → Found (play same members events w)
  play_found [] w ok = ok
  play_found (e ∷ events) w ok = play_found events (next same members w e) (next_found w e ok)

  pub found_all : (events : List (Event B)) → Found (played same members events)
  found_all events = play_found events (first_world members) (first_found members)

module _ {B : Type 0} (same : B → B → Bool) (equal : IsEquality same) (members : ℕ) (many : 2 ≤ members) where
  -- an outcome at a node of the world, with which `more` is cut: where the node goes, and what its log is up to its floor then; what it had
  -- applied with it, after `before`; and so its log if it stays up
  pub record From (w : World B) (k : ℕ) (more : List (worlds.Cut B)) (before : List (Entry B)) (o : Plan B) : Type 0 where
    pub base : List (Entry B)
    pub goes : Goes same equal members many (node_at w.nodes) k w.sent base (begun (node_at w.nodes k)) o
    pub is : under (w.cuts ++ more) o.node.rows.snapshot ≡ base
    pub logged : Logged members (w.sent ++ o.packets) (before ++ o.applied)
    pub on : (node_at w.nodes k).up ≡ true → o.node.up ≡ true → base ++ o.node.applied ≡ before ++ o.applied
    pub cut : (c : worlds.Cut B) → Has more c
        → (1 ≤ c.snapshot.floor) × (length c.log ≡ c.snapshot.floor) × Logged members w.sent c.log × ((h : Head) × (head_at c.snapshot.octets ≡ Some h))

  pub start_good : (w : World B) (k : ℕ) → WorldOk members w
      → Good same equal members many (node_at w.nodes) k w.sent (under_of w k) (begun (node_at w.nodes k))
  start_good w k ok =
      record {
        inv =
            subst (λ at. Inv members at (w.sent ++ [])) (sym (with_node_itself (node_at w.nodes) k))
            (subst (λ l. Inv members (node_at w.nodes) l) (sym (append-nil w.sent)) ok.inv);
        free =
            subst (λ at. RoleFree members (promises at) (w.sent ++ []) (node_at w.nodes k).proposer.role)
            (sym (with_node_itself (node_at w.nodes) k))
            (subst (λ l. RoleFree members (promises (node_at w.nodes)) l (node_at w.nodes k).proposer.role) (sym (append-nil w.sent))
            (ok.free k));
        log = subst (λ l. Logged members l (stood w k)) (sym (append-nil w.sent)) (ok.log k);
        floor = under_long ok.cuts (node_at w.nodes k).rows.snapshot (ok.cuts.found.nodes k);
      }

  -- what was learned in it is applied
  by_plan : (w : World B) (k : ℕ) (more : List (worlds.Cut B)) (base before : List (Entry B)) (u : Plan B)
      → Goes same equal members many (node_at w.nodes) k w.sent base (begun (node_at w.nodes k)) u
      → under (w.cuts ++ more) u.node.rows.snapshot ≡ base → base ++ u.node.applied ≡ before → u.applied ≡ [] → u.node.up ≡ true
      → ((c : worlds.Cut B) → Has more c
      → (1 ≤ c.snapshot.floor) × (length c.log ≡ c.snapshot.floor) × Logged members w.sent c.log × ((h : Head) × (head_at c.snapshot.octets ≡ Some h)))
      → From w k more before (settle k u)
  by_plan w k more base before u g is whole none up cut =
      record {
        base = base;
        goes = settled_goes same equal members many (node_at w.nodes) k w.sent (begun (node_at w.nodes k)) u g;
        is = ap (λ (r : Rows B). under (w.cuts ++ more) r.snapshot) (settle_rows k u) ∙ is;
        logged = settled_logged same equal members many (node_at w.nodes) k w.sent before (begun (node_at w.nodes k)) u g
            (whole ∙ sym (ap (λ l. before ++ l) none ∙ append-nil before));
        on = λ a b. ⊎_elim
            (λ (c : UpFrom u.node.rows.snapshot u.node.applied u.node.taken (settle k u)). ap (λ l. base ++ l) c.log
            ∙ (sym (append_assoc base u.node.applied (settle k u).applied) ∙ ap (λ l. l ++ (settle k u).applied) whole))
            (λ c. absurd (off (sym c.0 ∙ b)))
            (settles_from k u u.node.rows.boot u.node.taken up none refl refl).case;
        cut = cut;
      }

  no_cut : (w : World B) (c : worlds.Cut B) → Has [] c
      → (1 ≤ c.snapshot.floor) × (length c.log ≡ c.snapshot.floor) × Logged members w.sent c.log × ((h : Head) × (head_at c.snapshot.octets ≡ Some h))
  no_cut w c h = absurd (has_nil h)

  by_step : {j : ℕ} (w : World B) (k : ℕ) (before : List (Entry B)) (u : Plan B) → WorldOk members w
      → ToBy same equal members many (node_at w.nodes) k w.sent j (begun (node_at w.nodes k)) u → (node_at w.nodes k).up ≡ true
      → before ≡ whole_log w.cuts (node_at w.nodes k) → From w k [] before (settle k u)
  by_step w k before u ok s up is =
      by_plan w k [] (under_of w k) before u
      (arrives same equal members many (node_at w.nodes) k w.sent (begun (node_at w.nodes k)) u (start_good w k ok) s)
      (under_same w.cuts u.node.rows.snapshot ∙ ap (λ o. under w.cuts o) s.path.stays.base)
      (ap (λ l. under_of w k ++ l) s.path.stays.log ∙ sym (is ∙ whole_is w.cuts (node_at w.nodes k) up))
      s.path.stays.news (s.path.stays.up ∙ up) (no_cut w)

  -- a packet that is no snapshot, or one that changes nothing
  by_packet : {j : ℕ} (w : World B) (k : ℕ) (u : Plan B) → WorldOk members w
      → ToBy same equal members many (node_at w.nodes) k w.sent j (begun (node_at w.nodes k)) u → (node_at w.nodes k).up ≡ true
      → From w k [] (log_over w (node_at w.nodes k) true (settle k u).change.snapshot) (settle k u)
  by_packet w k u ok s up =
      by_step w k (log_over w (node_at w.nodes k) true (settle k u).change.snapshot) u ok s up
      (ap (λ (c : Change B). log_over w (node_at w.nodes k) true c.snapshot) (settle_change k u)
      ∙ ap (λ o. log_over w (node_at w.nodes k) true o) s.path.stays.cut)

  -- a node that goes down, or comes back, with its floor
  bare_from : (w : World B) (k : ℕ) (before : List (Entry B)) (o : Plan B) → WorldOk members w
      → Goes same equal members many (node_at w.nodes) k w.sent (under_of w k) (begun (node_at w.nodes k)) o
      → o.node.rows.snapshot ≡ (node_at w.nodes k).rows.snapshot → o.packets ≡ [] → o.applied ≡ [] → Logged members w.sent before
      → ((node_at w.nodes k).up ≡ true → o.node.up ≡ true → ⊥) → From w k [] before o
  bare_from w k before o ok g is none nothing logged off' =
      record {
        base = under_of w k;
        goes = g;
        is = under_same w.cuts o.node.rows.snapshot ∙ ap (λ s. under w.cuts s) is;
        logged =
            subst (λ (z : List (Packet B) × List (Entry B)). Logged members z.0 z.1)
            (λ i. (sym (ap (λ l. w.sent ++ l) none ∙ append-nil w.sent) i, sym (ap (λ l. before ++ l) nothing ∙ append-nil before) i)) logged;
        on = λ a b. absurd (off' a b);
        cut = no_cut w;
      }

  pub whole_logged : (w : World B) (k : ℕ) → WorldOk members w → Logged members w.sent (log_of w k)
  whole_logged w k ok =
      cond_both (node_at w.nodes k).up (stood w k) [] (λ l. Logged members w.sent l) (λ t. ok.log k) (λ t. logged_nil members w.sent)

  -- a cut more has the log that it was made from
  pub cut_is : (w : World B) (k : ℕ) (s : taken.Snapshot) (log : List (Entry B)) → WorldOk members w → log ≡ stood w k → length (stood w k) ≡ s.floor
      → under (w.cuts ++ record { snapshot = s; log = log } ∷ []) (Some s) ≡ stood w k
  cut_is w k s log ok is long =
      let f = under_found (w.cuts ++ c ∷ []) s (record { cut = c; has = has_right w.cuts here; same = refl }) in
      f.3
      ∙ ⊎_elim (λ h. old f.0 h f.2) (λ h. ap (λ (d : worlds.Cut B). d.log) (sym (has_one h)) ∙ is) (has_cases w.cuts (c ∷ []) f.1)
    where
      c : worlds.Cut B
      c = record { snapshot = s; log = log }

      old : (d : worlds.Cut B) → Has w.cuts d → d.snapshot ≡ s → d.log ≡ stood w k
      old d h i =
          same_lists d.log (stood w k) (ok.cuts.long d h ∙ (ap (λ (z : taken.Snapshot). z.floor) i ∙ sym long))
          (λ j a b p q. chosen_one members (promises (node_at w.nodes)) w.sent ok.inv.packets (suc j) a b ((ok.cuts.logged d h).at j a p)
          ((ok.log k).at j b q))

  -- Cut
  cut_goes : (w : World B) (k : ℕ) (s : taken.Snapshot) → WorldOk members w → (node_at w.nodes k).up ≡ true
      → may_cut (Some s) (node_at w.nodes k) ≡ true
      → From w k (cut_from w k (Some s)) (log_of w k) (settle k (on_cut (Some s) (begun (node_at w.nodes k))))
  cut_goes w k s ok up may =
      by_plan w k (cut_from w k (Some s)) (stood w k) (log_of w k) (rest_on false s (begun x))
      (rest_goes same equal members many (node_at w.nodes) k w.sent (stood w k) false s (begun x) g
      (rises (floor_in x.rows.snapshot) (length x.applied) floor_is) long g.log)
      (cut_is w k s (log_of w k) ok whole long)
      (append-nil (stood w k) ∙ sym whole)
      refl up
      (λ c h. subst (λ (d : worlds.Cut B). (1 ≤ d.snapshot.floor) × (length d.log ≡ d.snapshot.floor) × Logged members w.sent d.log
      × ((h : Head) × (head_at d.snapshot.octets ≡ Some h))) (has_one h)
      (least (floor_in x.rows.snapshot) (length x.applied) (ltb-true 0 (length x.applied) tests.0) floor_is, ap (λ l. length l) whole ∙ long, whole_logged w k ok, reads (head_at s.octets) (and_parts (s.floor == log_length x) (is_head_of x (head_at s.octets)) tests.1).1))
    where
      x : NodeState B
      x = node_at w.nodes k

      g : Good same equal members many (node_at w.nodes) k w.sent (under_of w k) (begun x)
      g = start_good w k ok

      whole : log_of w k ≡ stood w k
      whole = whole_is w.cuts x up

      tests : (nat_lt 0 (length x.applied) ≡ true) × (((s.floor == log_length x) && is_head_of x (head_at s.octets)) ≡ true)
      tests = and_parts (nat_lt 0 (length x.applied)) ((s.floor == log_length x) && is_head_of x (head_at s.octets)) may

      floor_is : s.floor ≡ log_length x
      floor_is = eqb-true s.floor (log_length x) (and_parts (s.floor == log_length x) (is_head_of x (head_at s.octets)) tests.1).0

      long : length (stood w k) ≡ s.floor
      long =
          length-append (under_of w k) x.applied
          ∙ (ap (λ j. j + length x.applied) (under_long ok.cuts x.rows.snapshot (ok.cuts.found.nodes k)) ∙ sym floor_is)

      rises : (a b : ℕ) {c : ℕ} → c ≡ a + b → a ≤ c
      rises a b e = omega arith

      least : (a b : ℕ) {c : ℕ} → 0 < b → c ≡ a + b → 1 ≤ c
      least a b l e = omega arith

      reads : (o : Option Head) → is_head_of x o ≡ true → (h : Head) × (o ≡ Some h)
      reads None e = absurd (off e)
      reads (Some h) e = (h, refl)

  -- a snapshot is delivered
  snapshot_goes : (w : World B) (k : ℕ) (s : taken.Snapshot) → WorldOk members w → (node_at w.nodes k).up ≡ true → IsCut w.cuts s
      → From w k []
      (log_over w (node_at w.nodes k) true
      (settle k (on_snapshot k s (record (begun (node_at w.nodes k)) { node = saw (Snapshot s) (node_at w.nodes k) }))).change.snapshot)
      (settle k (on_snapshot k s (record (begun (node_at w.nodes k)) { node = saw (Snapshot s) (node_at w.nodes k) })))
  snapshot_goes w k s ok up cut =
      let f = under_found w.cuts s cut in
      let r = ok.cuts.reads f.0 f.1 in
      by_head (head_at s.octets) (r.0, ap (λ (z : taken.Snapshot). head_at z.octets) (sym f.2) ∙ r.1)
    where
      x : NodeState B
      x = node_at w.nodes k

      t : Plan B
      t = record (begun x) { node = saw (Snapshot s) x }

      g : Good same equal members many (node_at w.nodes) k w.sent (under_of w k) (begun x)
      g = start_good w k ok

      seen : ToBy same equal members many (node_at w.nodes) k w.sent x.taken (begun x) t
      seen = saw_step same equal members many (node_at w.nodes) k w.sent (begun x) (Snapshot s) g.inv g.free

      Goal : Plan B → Type 0
      Goal u = From w k [] (log_over w x true (settle k u).change.snapshot) (settle k u)

      stays' : Goal t
      stays' = by_packet w k t ok seen up

      grown : Logged members w.sent (under w.cuts (Some s)) → Logged members (w.sent ++ []) (under w.cuts (Some s))
      grown l = subst (λ ps. Logged members ps (under w.cuts (Some s))) (sym (append-nil w.sent)) l

      only : RestsOnCut w.cuts (Some s)
      only z e = subst (λ y. IsCut w.cuts y) (same_one z e) cut
        where
          same_one : (z : taken.Snapshot) → Some s ≡ Some z → s ≡ z
          same_one z e = cc

      takes : log_length x < s.floor → Goal (rest_on true s t)
      takes high =
          let a = arrives same equal members many (node_at w.nodes) k w.sent (begun x) t g seen in
          let u = rest_on true s t in
          by_plan w k [] (under w.cuts (Some s)) (log_over w x true (settle k u).change.snapshot) u
          (goes_on same equal members many (node_at w.nodes) k w.sent a
          (rest_goes same equal members many (node_at w.nodes) k w.sent (under w.cuts (Some s)) true s t
          (good_of same equal members many (node_at w.nodes) k w.sent a)
          (rises (floor_in x.rows.snapshot) (length x.applied) high)
          (under_long ok.cuts (Some s) only) (grown (under_logged ok.cuts (Some s) only))))
          (under_same w.cuts (Some s))
          (append-nil (under w.cuts (Some s))
          ∙ sym (ap (λ (c : Change B). log_over w x true c.snapshot) (settle_change k u)))
          refl up (no_cut w)
        where
          rises : (a b : ℕ) {c : ℕ} → a + b < c → a ≤ c
          rises a b e = omega arith

      by_head : (o : Option Head) → (h : Head) × (o ≡ Some h)
          → Goal (if nat_le s.floor (log_length x) then t else take_in k s o t)
      by_head None h = absurd (never h.0 h.1)
        where
          never : (h : Head) → ◌≡◌ {A = Option Head} None (Some h) → ⊥
          never h e = cc
      by_head (Some head) h =
          cond_both (nat_le s.floor (log_length x)) t (take_in k s (Some head) t) (λ u. Goal u) (λ e. stays')
          (λ e. cond_both (has_boot k t.node head) t (rest_on true s t) (λ u. Goal u) (λ b. stays')
          (λ b. takes (leb-false s.floor (log_length x) e)))

  -- the node's part of each event
  pub event_goes : (w : World B) (e : Event B) → WorldOk members w → was_sent same e w.sent ≡ true
      → possible e (node_at w.nodes (owner e)) ≡ true
      → From w (owner e) (cut_by w e)
      (log_before w e (node_at w.nodes (owner e)) (outcome_of same members e (node_at w.nodes (owner e))))
      (outcome_of same members e (node_at w.nodes (owner e)))
  event_goes w (Take k t body) ok s p =
      let g = start_good w k ok in
      by_step w k (log_of w k) _ ok
      (take_step same equal members many (node_at w.nodes) k w.sent (begun (node_at w.nodes k)) t body g.inv g.free)
      (and_parts (node_at w.nodes k).up (nat_lt 0 t) p).0 refl
  event_goes w (Tick k) ok s p =
      let g = start_good w k ok in
      by_step w k (log_of w k) _ ok (tick_step same equal members many (node_at w.nodes) k w.sent (begun (node_at w.nodes k)) g.inv g.free) p refl
  event_goes w (Start k) ok s p =
      let g = start_good w k ok in
      by_step w k (log_of w k) _ ok (start_step same equal members many (node_at w.nodes) k w.sent (begun (node_at w.nodes k)) g.inv g.free) p refl
  event_goes w (Suspect k j) ok s p =
      let g = start_good w k ok in
      by_step w k (log_of w k) _ ok
      (suspect_step same equal members many (node_at w.nodes) k w.sent (begun (node_at w.nodes k)) (new_lost same k j (node_at w.nodes k))
      g.inv g.free) p refl
  event_goes w (Deliver q) ok s p =
      ⊎_elim
      (λ (z : (s : taken.Snapshot) × (q.kind ≡ Snapshot s)). subst (λ kind. Goal kind) (sym z.1)
      (snapshot_goes w k z.0 ok p (ok.cuts.found.shown q (among_has same equal q w.sent s) z.0 z.1)))
      (λ (z : IsOther same members k q.sender q.kind).
      subst (λ (u : Plan B). From w k [] (log_over w x true (settle k u).change.snapshot) (settle k u)) (sym (z (t q.kind)))
      (by_packet w k _ ok
      (deliver_step same equal members many (node_at w.nodes) k w.sent (begun x) q.sender q.kind g.inv g.free
      (sent_left [] (record { to = q.addressee; is = among_has same equal q w.sent s }))) p))
      (by_kind same members k q.sender q.kind)
    where
      k : ℕ
      k = q.addressee

      x : NodeState B
      x = node_at w.nodes k

      g : Good same equal members many (node_at w.nodes) k w.sent (under_of w k) (begun x)
      g = start_good w k ok

      t : Kind B → Plan B
      t kind = record (begun x) { node = saw kind x }

      Goal : Kind B → Type 0
      Goal kind =
          From w k [] (log_over w x true (settle k (deliver same members k q.sender kind (t kind))).change.snapshot)
          (settle k (deliver same members k q.sender kind (t kind)))
  event_goes w (Cut k None) ok s p = absurd (off (and_parts (node_at w.nodes k).up false p).1)
  event_goes w (Cut k (Some c)) ok s p =
      let q = and_parts (node_at w.nodes k).up (may_cut (Some c) (node_at w.nodes k)) p in cut_goes w k c ok q.0 q.1
  event_goes w (Crash k) ok s p =
      bare_from w k (log_of w k) _ ok
      (settled_goes same equal members many (node_at w.nodes) k w.sent (begun (node_at w.nodes k)) (go_down (begun (node_at w.nodes k)))
      (down_goes same equal members many (node_at w.nodes) k w.sent (under_of w k) (begun (node_at w.nodes k)) (start_good w k ok)))
      refl refl refl (whole_logged w k ok) (λ a b. off b)
  event_goes w (Restart k) ok s p =
      bare_from w k (log_of w k) _ ok
      (settled_goes same equal members many (node_at w.nodes) k w.sent (begun x) (record (begun x) { node = started k (raised x.rows) })
      (start_goes same equal members many (node_at w.nodes) k w.sent (under_of w k) (begun x) (start_good w k ok)))
      refl refl refl (whole_logged w k ok)
      (λ a b. off (sym (ap not a) ∙ (and_parts (not x.up) (nat_lt x.rows.boot last_boot) p).0))
    where
      x : NodeState B
      x = node_at w.nodes k

  done_ok : (w : World B) (e : Event B) → Within w.nodes (owner e) → WorldOk members w → was_sent same e w.sent ≡ true
      → From w (owner e) (cut_by w e)
      (log_before w e (node_at w.nodes (owner e)) (outcome_of same members e (node_at w.nodes (owner e))))
      (outcome_of same members e (node_at w.nodes (owner e)))
      → WorldOk members (done same w e (node_at w.nodes (owner e)) (outcome_of same members e (node_at w.nodes (owner e))))
  done_ok w e l ok sent g =
      record {
        inv = subst (λ at. Inv members at later) (sym is) g.goes.going.inv;
        free = λ j. subst (λ (at : ℕ → NodeState B). RoleFree members (promises at) later (at j).proposer.role) (sym is) (free j);
        log = λ j. ⊎_elim
            (λ (s : j ≡ k). subst (λ i. LogOk (node_at (put_node w.nodes k o.node) i)) (sym s)
            (subst (λ x. LogOk x) (sym (node_same w.nodes k o.node l))
            (subst (λ z. Logged members later (z ++ o.node.applied)) (sym g.is) g.goes.log)))
            (λ s. subst (λ x. LogOk x) (sym (node_other w.nodes k o.node j s))
            (subst (λ z. Logged members later (z ++ (node_at w.nodes j).applied))
            (sym (under_kept w.cuts more (node_at w.nodes j).rows.snapshot (ok.cuts.found.nodes j))) (grown (stood w j) (ok.log j))))
            (cases_eq j k);
        cuts = record {
          some = λ c h. ⊎_elim (λ i. ok.cuts.some c i) (λ i. (g.cut c i).0) (has_cases w.cuts more h);
          long = λ c h. ⊎_elim (λ i. ok.cuts.long c i) (λ i. (g.cut c i).1) (has_cases w.cuts more h);
          logged = λ c h. grown c.log (⊎_elim (λ i. ok.cuts.logged c i) (λ i. (g.cut c i).2) (has_cases w.cuts more h));
          reads = λ c h. ⊎_elim (λ i. ok.cuts.reads c i) (λ i. (g.cut c i).3) (has_cases w.cuts more h);
          found = done_found same equal members w e ok.cuts.found sent l;
        };
      }
    where
      k : ℕ
      k = owner e

      o : Plan B
      o = outcome_of same members e (node_at w.nodes (owner e))

      more : List (worlds.Cut B)
      more = cut_by w e

      later : List (Packet B)
      later = w.sent ++ o.packets

      LogOk : NodeState B → Type 0
      LogOk x = Logged members later (under (w.cuts ++ more) x.rows.snapshot ++ x.applied)

      is : node_at (put_node w.nodes k o.node) ≡ with_node (node_at w.nodes) k o.node
      is = nodes_put w.nodes k o.node l

      chosen_later : {s : ℕ} {f : Entry B} → IsChosen members w.sent s f → IsChosen members (w.sent ++ []) s f
      chosen_later {s} {f} c = subst (λ l. IsChosen members l s f) (sym (append-nil w.sent)) c

      grown : (log : List (Entry B)) → Logged members w.sent log → Logged members later log
      grown log a = record { at = λ i f h. chosen_grows g.goes.going.grows (chosen_later (a.at i f h)) }

      other_free : (j : ℕ) → RoleFree members (promises (with_node (node_at w.nodes) k o.node)) later (node_at w.nodes j).proposer.role
      other_free j =
          role_free_grows members g.goes.going.grows (node_at w.nodes j).proposer.role
          (subst (λ at. RoleFree members (promises at) (w.sent ++ []) (node_at w.nodes j).proposer.role)
          (sym (with_node_itself (node_at w.nodes) k))
          (subst (λ l. RoleFree members (promises (node_at w.nodes)) l (node_at w.nodes j).proposer.role) (sym (append-nil w.sent))
          (ok.free j)))

      free : (j : ℕ)
          → RoleFree members (promises (with_node (node_at w.nodes) k o.node)) later (with_node (node_at w.nodes) k o.node j).proposer.role
      free j =
          ⊎_elim
          (λ (s : j ≡ k). subst (λ (x : NodeState B). RoleFree members (promises (with_node (node_at w.nodes) k o.node)) later
          x.proposer.role) (sym (ap (λ i. with_node (node_at w.nodes) k o.node i) s ∙ with_node_mine (node_at w.nodes) k o.node))
          g.goes.free)
          (λ s. subst (λ (x : NodeState B). RoleFree members (promises (with_node (node_at w.nodes) k o.node)) later x.proposer.role)
          (sym (with_node_other (node_at w.nodes) k o.node j s)) (other_free j))
          (cases_eq j k)

  pub next_ok : (w : World B) (e : Event B) → WorldOk members w → WorldOk members (next same members w e)
  next_ok w e ok =
      cond_both (was_sent same e w.sent && possible e (node_at w.nodes (owner e)))
      (done same w e (node_at w.nodes (owner e)) (outcome_of same members e (node_at w.nodes (owner e)))) w (λ z. WorldOk members z)
      (λ t. let p = and_parts (was_sent same e w.sent) (possible e (node_at w.nodes (owner e))) t in
      done_ok w e (within w.nodes e (owner e) p.1) ok p.0 (event_goes w e ok p.0 p.1))
      (λ t. ok)

  play_ok : (events : List (Event B)) (w : World B) → WorldOk members w → WorldOk members (play same members events w)
  play_ok [] w ok = ok
  play_ok (e ∷ events) w ok = play_ok events (next same members w e) (next_ok w e ok)

  pub world_ok : (events : List (Event B)) → WorldOk members (played same members events)
  world_ok events = play_ok events (first_world members) (first_ok members)

-- packets stay

pub stays : {B : Type 0} (same : B → B → Bool) (members : ℕ) (w : World B) (e : Event B) (p : Packet B) → Has w.sent p
    → Has (next same members w e).sent p
stays {B} same members w e p h =
    cond_both (was_sent same e w.sent && possible e (node_at w.nodes (owner e)))
    (done same w e (node_at w.nodes (owner e)) (outcome_of same members e (node_at w.nodes (owner e)))) w
    (λ (z : World B). Has z.sent p)
    (λ t. has_left _ h) (λ t. h)

pub all_stay : {B : Type 0} (same : B → B → Bool) (members : ℕ) (events : List (Event B)) (w : World B) (p : Packet B) → Has w.sent p
    → Has (play same members events w).sent p
all_stay same members [] w p h = h
all_stay same members (e ∷ events) w p h = all_stay same members events (next same members w e) p (stays same members w e p h)

pub play_on : {B : Type 0} (same : B → B → Bool) (members : ℕ) (early later : List (Event B)) (w : World B)
    → play same members (early ++ later) w ≡ play same members later (play same members early w)
play_on same members [] later w = refl
play_on same members (e ∷ early) later w = play_on same members early later (next same members w e)
