-- The boot of a node, whether it is up, its log and what is pending through an event.
use Rattle.std.proofs.Common.{◌≡◌, ◌⊎◌, inl, inr, ⊎_elim, ℕ, suc, ◌<◌, Bool, true, false, not, ◌&&◌, refl, sym, ap, ◌∙◌, subst, List, [], ◌∷◌, ◌++◌}
use Rattle.std.proofs.Common.{Option, Some, None}
use Rattle.std.specs.Prelude.{if◌then◌else◌, nat_lt, nat_le, filter}
use Rattle.std.proofs.lemmas.List.{append-nil}
use Rattle.std.proofs.lemmas.Bool.{cond_both, and_parts, leb-false}
use Rattle.cluster_world.proofs.Delivering.{IsOther, by_kind}
use Rattle.cluster_world.proofs.Proposals.{Stays, stays_on}
use Rattle.cluster_world.proofs.Settling.{UpFrom, From, settles_from}
use Rattle.paxos_packets.specs.Members.{is_majority}
use Rattle.paxos_packets.specs.Ballot.{same_ballot}
use Rattle.paxos_packets.specs.Packet.{packet}
use Rattle.paxos_packets.specs.Rows.{raised, last_boot}
use Rattle.paxos_packets.specs.Snapshot.{floor_in}
use Rattle.paxos_packets.specs.Snapshot as taken
use Rattle.paxos_packets.specs.declared.ballot.Ballot.{Ballot}
use Rattle.paxos_packets.specs.declared.entry.Entry.{Entry}
use Rattle.paxos_packets.specs.declared.packet.Kind.{Kind}
use Rattle.paxos_packets.specs.declared.packet.Packet.{Packet}
use Rattle.paxos_packets.specs.declared.vote.Vote.{Vote}
use Rattle.paxos_packets.specs.declared.packet.Kind.TheVariants.{Prepare, Promise, Accept, Accepted, Nack, Forward, Ask, Learned, Snapshot}
use Rattle.paxos_acceptor.specs.Acceptor.{may_promise, may_accept, promise_of, given_by}
use Rattle.paxos_proposer.specs.declared.promises.CountedPromise.{CountedPromise}
use Rattle.paxos_proposer.specs.Role.{Role, Idle, Preparing, Leading}
use Rattle.paxos_proposer.specs.Proposer.{slot_end, next_vote, new_ballot, is_leading}
use Rattle.paxos_proposer.specs.Promises.{lowest}
use Rattle.paxos_proposer.specs.Reports.{is_counted, reports, called_for}
use Rattle.paxos_node.specs.declared.event.Event.{Event}
use Rattle.paxos_node.specs.declared.event.Event.TheVariants.{Take, Tick, Start, Suspect, Deliver, Cut, Crash, Restart}
use Rattle.paxos_planning.specs.Node.{NodeState, Plan, log_length}
use Rattle.paxos_planning.specs.Plan.{with_role, with_pending, begun, send, promise, cast}
use Rattle.paxos_planning.specs.Proposals.{offer, propose_as, propose, propose_all, lead, stands, propose_new, propose_each, forwarded, push}
use Rattle.paxos_planning.specs.Replies.{saw, refuse, cast_or_show, answer_ask, count_promise, on_promise_as, on_packet}
use Rattle.paxos_node.specs.Events.{takes, new_item, with_item, on_take, has_room, suspected, new_lost, taken_by, suspected_by}
use Rattle.paxos_planning.specs.Ticking.{again, on_tick}
use Rattle.paxos_planning.specs.Starting.{begin, starts, on_start}
use Rattle.paxos_node.specs.Events.{owner, deliver, on_event, outcome_of, possible, made_by}
use Rattle.paxos_node.specs.Applying.{stands_at, started}
use Rattle.paxos_node.specs.Snapshots.{may_cut, has_boot, rest_on, take_in, on_cut, on_snapshot}
use Rattle.replica_machine.specs.declared.head.Head.{Head}
use Rattle.replica_machine.specs.Roll.{is_wanted_by}
use Rattle.replica_machine.specs.Snapshot.{head_at}

-- boot, log and whether it is up stay; this many acts are taken, and this is pending
pub record Leaves {B : Type 0} (taken : ℕ) (waits : List (Entry B)) (t u : Plan B) : Type 0 where
  pub stays : Stays taken t u
  pub pending : u.node.pending ≡ waits

leaves_on : {B : Type 0} {k : ℕ} {es : List (Entry B)} {t u v : Plan B} → Leaves k es t u → Leaves u.node.taken u.node.pending u v → Leaves k es t v
leaves_on s r = record { stays = stays_on s.stays r.stays; pending = r.pending ∙ s.pending }

abbrev pub Same : {B : Type 0} → Plan B → Plan B → Type 0
Same t u = Leaves t.node.taken t.node.pending t u

pub same_here : {B : Type 0} (t : Plan B) → Same t t
same_here t = record { stays = record { boot = refl; base = refl; up = refl; log = refl; news = refl; cut = refl; acts = refl }; pending = refl }

module _ {B : Type 0} (same : B → B → Bool) (members n : ℕ) where
  proposes_as : (r : Role B) (e : Entry B) (t : Plan B) → Same t (propose_as same members n r e t)
  proposes_as Idle e t = same_here t
  proposes_as (Preparing b floor cs) e t = same_here t
  proposes_as (Leading b next table) e t =
      cond_both (nat_lt next slot_end) (cast same members n (next_vote b next e) (offer members n b next table e t)) t (λ u. Same t u)
      (λ l. record { stays = record { boot = refl; base = refl; up = refl; log = refl; news = refl; cut = refl; acts = refl }; pending = refl }) (λ l. same_here t)

  proposes : (e : Entry B) (t : Plan B) → Same t (propose same members n e t)
  proposes e t = proposes_as t.node.proposer.role e t

  proposes_all : (es : List (Entry B)) (t : Plan B) → Same t (propose_all same members n es t)
  proposes_all [] t = same_here t
  proposes_all (e ∷ es) t = leaves_on (proposes e t) (proposes_all es (propose same members n e t))

  proposes_new : (e : Entry B) (t : Plan B) → Same t (propose_new same members n e t)
  proposes_new e t =
      cond_both (stands same (log_length t.node) t.node.proposer.role e) t (propose same members n e t) (λ u. Same t u)
      (λ d. same_here t) (λ d. proposes e t)

  proposes_each : (es : List (Entry B)) (t : Plan B) → Same t (propose_each same members n es t)
  proposes_each [] t = same_here t
  proposes_each (e ∷ es) t = leaves_on (proposes_new e t) (proposes_each es (propose_new same members n e t))

  pub pushes : (t : Plan B) → Same t (push same members n t)
  pushes t =
      cond_both (is_leading t.node.proposer.role) (propose_each same members n t.node.pending t)
      (send (forwarded n t.node.rows.promised t.node.pending) t) (λ u. Same t u)
      (λ d. proposes_each t.node.pending t)
      (λ d. record { stays = record { boot = refl; base = refl; up = refl; log = refl; news = refl; cut = refl; acts = refl }; pending = refl })

  leads : (b : Ballot) (floor : ℕ) (vs : List (Vote B)) (t : Plan B) → Same t (lead same members n b floor vs t)
  leads b floor vs t =
      let s = proposes_all (called_for floor vs) (record t { node = with_role (Leading b floor []) t.node }) in
      record {
        stays = record { boot = s.stays.boot; base = s.stays.base; up = s.stays.up; log = s.stays.log; news = s.stays.news; cut = s.stays.cut; acts = s.stays.acts };
        pending = s.pending;
      }

  promises_as : (from : ℕ) (b : Ballot) (floor : ℕ) (votes : List (Vote B)) (r : Role B) (t : Plan B)
      → Same t (on_promise_as same members n from b floor votes r t)
  promises_as from b floor votes Idle t = same_here t
  promises_as from b floor votes (Leading c next table) t = same_here t
  promises_as from b floor votes (Preparing c first cs) t =
      cond_both (same_ballot b c && not (is_counted cs from)) (count_promise same members n c first own more t) t (λ u. Same t u)
      (λ e. cond_both (is_majority members (is_counted more))
      (push same members n (lead same members n c (lowest first own more) (reports more) t))
      (record t { node = with_role (Preparing c first more) t.node }) (λ u. Same t u)
      (λ m. leaves_on (leads c (lowest first own more) (reports more) t)
      (pushes (lead same members n c (lowest first own more) (reports more) t)))
      (λ m. record { stays = record { boot = refl; base = refl; up = refl; log = refl; news = refl; cut = refl; acts = refl }; pending = refl }))
      (λ e. same_here t)
    where
      own : ℕ
      own = floor_in t.node.rows.snapshot

      more : List (CountedPromise B)
      more = cs ++ record { node = from; floor = floor; votes = votes } ∷ []

  casts_or_shows : (from : ℕ) (given : Option taken.Snapshot) (v : Vote B) (t : Plan B)
      → Same t (cast_or_show same members n from given v t)
  casts_or_shows from None v t = record { stays = record { boot = refl; base = refl; up = refl; log = refl; news = refl; cut = refl; acts = refl }; pending = refl }
  casts_or_shows from (Some s) v t = record { stays = record { boot = refl; base = refl; up = refl; log = refl; news = refl; cut = refl; acts = refl }; pending = refl }

  answers_ask : (from slot : ℕ) (given : Option taken.Snapshot) (t : Plan B) → Same t (answer_ask n from slot given t)
  answers_ask from slot None t = record { stays = record { boot = refl; base = refl; up = refl; log = refl; news = refl; cut = refl; acts = refl }; pending = refl }
  answers_ask from slot (Some s) t = record { stays = record { boot = refl; base = refl; up = refl; log = refl; news = refl; cut = refl; acts = refl }; pending = refl }

  hears_packet : (from : ℕ) (kind : Kind B) (t : Plan B) → Same t (on_packet same members n from kind t)
  hears_packet from (Prepare b first) t =
      cond_both (may_promise t.node.rows.promised b) (send (packet n (promise_of t.node.rows b first) from ∷ []) (promise b t))
      (refuse n from b t) (λ u. Same t u)
      (λ e. record { stays = record { boot = refl; base = refl; up = refl; log = refl; news = refl; cut = refl; acts = refl }; pending = refl })
      (λ e. record { stays = record { boot = refl; base = refl; up = refl; log = refl; news = refl; cut = refl; acts = refl }; pending = refl })
  hears_packet from (Promise b floor votes) t = promises_as from b floor votes t.node.proposer.role t
  hears_packet from (Accept v) t =
      cond_both (may_accept t.node.rows.promised v.ballot) (cast_or_show same members n from (given_by t.node.rows.snapshot v.slot) v t)
      (refuse n from v.ballot t) (λ u. Same t u)
      (λ e. casts_or_shows from (given_by t.node.rows.snapshot v.slot) v t)
      (λ e. record { stays = record { boot = refl; base = refl; up = refl; log = refl; news = refl; cut = refl; acts = refl }; pending = refl })
  hears_packet from (Accepted v) t = record { stays = record { boot = refl; base = refl; up = refl; log = refl; news = refl; cut = refl; acts = refl }; pending = refl }
  hears_packet from (Nack b p) t = record { stays = record { boot = refl; base = refl; up = refl; log = refl; news = refl; cut = refl; acts = refl }; pending = refl }
  hears_packet from (Forward es) t =
      cond_both (is_leading t.node.proposer.role) (propose_each same members n es t) t (λ u. Same t u) (λ d. proposes_each es t)
      (λ d. same_here t)
  hears_packet from (Ask slot) t = answers_ask from slot (given_by t.node.rows.snapshot slot) t
  hears_packet from (Snapshot s) t = same_here t
  hears_packet from (Learned slot e) t = record { stays = record { boot = refl; base = refl; up = refl; log = refl; news = refl; cut = refl; acts = refl }; pending = refl }

  pub delivers : (from : ℕ) (kind : Kind B) (t : Plan B) → Same t (on_packet same members n from kind (record t { node = saw kind t.node }))
  delivers from kind t =
      let s = hears_packet from kind (record t { node = saw kind t.node }) in
      record {
        stays = record { boot = s.stays.boot; base = s.stays.base; up = s.stays.up; log = s.stays.log; news = s.stays.news; cut = s.stays.cut; acts = s.stays.acts };
        pending = s.pending;
      }

  pub begins : (t : Plan B) → Same t (on_start members n t)
  begins t =
      cond_both (starts n t.node) (begin members n (new_ballot n t.node.rows.promised t.node.proposer) (suc (log_length t.node)) t) t
      (λ u. Same t u)
      (λ e. record { stays = record { boot = refl; base = refl; up = refl; log = refl; news = refl; cut = refl; acts = refl }; pending = refl }) (λ e. same_here t)

  pub ticks : (t : Plan B) → Same t (on_tick same members n t)
  ticks t =
      let s = pushes (send (again members n t.node.proposer.role t.node.learner) t) in
      record {
        stays = record { boot = s.stays.boot; base = s.stays.base; up = s.stays.up; log = s.stays.log; news = s.stays.news; cut = s.stays.cut; acts = s.stays.acts };
        pending = s.pending;
      }

  pub suspects : (lost : Option (Entry B)) (t : Plan B)
      → Leaves t.node.taken (t.node.pending ++ suspected_by lost t.node) t (suspected same members n lost t)
  suspects None t = record { stays = (same_here t).stays; pending = sym (append-nil t.node.pending) }
  suspects (Some lost) t = go (has_room t.node) refl
    where
      u : Plan B
      u = record t { node = with_pending (t.node.pending ++ lost ∷ []) t.node }

      go : (b : Bool) → has_room t.node ≡ b
          → Leaves t.node.taken (t.node.pending ++ (if b then lost ∷ [] else [])) t (if b then push same members n u else t)
      go true e = let s = pushes u in
          record {
            stays = record { boot = s.stays.boot; base = s.stays.base; up = s.stays.up; log = s.stays.log; news = s.stays.news; cut = s.stays.cut; acts = s.stays.acts };
            pending = s.pending;
          }
      go false e = record { stays = (same_here t).stays; pending = sym (append-nil t.node.pending) }

  pub takes_act : (transport : ℕ) (body : B) (t : Plan B)
      → Leaves (if takes t.node then suc t.node.taken else t.node.taken) (t.node.pending ++ taken_by n transport body t.node) t
      (on_take same members n transport body t)
  takes_act transport body t = go (takes t.node) refl
    where
      item : Entry B
      item = new_item n transport body t.node

      u : Plan B
      u = record t { node = with_item n transport body t.node }

      go : (b : Bool) → takes t.node ≡ b
          → Leaves (if b then suc t.node.taken else t.node.taken) (t.node.pending ++ (if b then item ∷ [] else [])) t
          (if b then push same members n u else t)
      go true e = let s = pushes u in
          record {
            stays = record { boot = s.stays.boot; base = s.stays.base; up = s.stays.up; log = s.stays.log; news = s.stays.news; cut = s.stays.cut; acts = s.stays.acts };
            pending = s.pending;
          }
      go false e = record { stays = (same_here t).stays; pending = sym (append-nil t.node.pending) }

-- how many acts a node has taken after an event
abbrev pub acts_after : {B : Type 0} → Event B → NodeState B → ℕ
acts_after (Take n t body) x = if takes x then suc x.taken else x.taken
acts_after _ x = x.taken

-- what an event leaves to a node that is up, before what was learned is applied: its snapshot and what it had applied above it, ..
pub record Keeps {B : Type 0} (same : B → B → Bool) (e : Event B) (x : NodeState B) (u : Plan B) : Type 0 where
  pub base : u.node.rows.snapshot ≡ x.rows.snapshot
  pub log : u.node.applied ≡ x.applied
  pub cut : u.change.snapshot ≡ None
  pub pending : u.node.pending ≡ x.pending ++ made_by same e x

-- .. or it cuts, ..
pub record Cuts {B : Type 0} (e : Event B) (x : NodeState B) (u : Plan B) : Type 0 where
  pub snapshot : taken.Snapshot
  pub event : e ≡ Cut (owner e) (Some snapshot)
  pub may : may_cut (Some snapshot) x ≡ true
  pub base : u.node.rows.snapshot ≡ Some snapshot
  pub log : u.node.applied ≡ []
  pub pending : u.node.pending ≡ x.pending

-- .. or it takes another's snapshot, which has not its present boot
pub record Takes {B : Type 0} (e : Event B) (x : NodeState B) (u : Plan B) : Type 0 where
  pub snapshot : taken.Snapshot
  pub packet : Packet B
  pub event : e ≡ Deliver packet
  pub kind : packet.kind ≡ Snapshot snapshot
  pub head : Head
  pub reads : head_at snapshot.octets ≡ Some head
  pub newer : has_boot (owner e) x head ≡ false
  pub more : log_length x < snapshot.floor
  pub base : u.node.rows.snapshot ≡ Some snapshot
  pub log : u.node.applied ≡ []
  pub cut : u.change.snapshot ≡ Some snapshot
  pub pending : u.node.pending ≡ filter (is_wanted_by (stands_at (Some snapshot))) x.pending

-- boot and whether it is up stay, and nothing is applied yet
pub record Turned {B : Type 0} (same : B → B → Bool) (e : Event B) (x : NodeState B) (u : Plan B) : Type 0 where
  pub boot : u.node.rows.boot ≡ x.rows.boot
  pub up : u.node.up ≡ x.up
  pub news : u.applied ≡ []
  pub acts : u.node.taken ≡ acts_after e x
  pub turn : Keeps same e x u ⊎ (Cuts e x u ⊎ Takes e x u)

-- the node's part of an event that is no crash
module _ {B : Type 0} (same : B → B → Bool) (members : ℕ) (x : NodeState B) (up : x.up ≡ true) where
  off : false ≡ true → ⊥
  off e = cc

  as_it_was : (e : Event B) (u : Plan B) → acts_after e x ≡ x.taken → made_by same e x ≡ [] → Same (begun x) u → Turned same e x u
  as_it_was e u acts none s =
      record {
        boot = s.stays.boot;
        up = s.stays.up;
        news = s.stays.news;
        acts = s.stays.acts ∙ sym acts;
        turn = inl (record {
          base = s.stays.base;
          log = s.stays.log;
          cut = s.stays.cut;
          pending = s.pending ∙ sym (ap (λ l. x.pending ++ l) none ∙ append-nil x.pending);
        });
      }

  with_more : (e : Event B) (u : Plan B) → Leaves (acts_after e x) (x.pending ++ made_by same e x) (begun x) u → Turned same e x u
  with_more e u s =
      record {
        boot = s.stays.boot;
        up = s.stays.up;
        news = s.stays.news;
        acts = s.stays.acts;
        turn = inl (record { base = s.stays.base; log = s.stays.log; cut = s.stays.cut; pending = s.pending });
      }

  cut_turns : (n : ℕ) (o : Option taken.Snapshot) → may_cut o x ≡ true → Turned same (Cut n o) x (on_cut o (begun x))
  cut_turns n None may = absurd (off may)
  cut_turns n (Some s) may =
      record {
        boot = refl;
        up = refl;
        news = refl;
        acts = refl;
        turn = inr (inl (record { snapshot = s; event = refl; may = may; base = refl; log = refl; pending = refl }));
      }

  snapshot_turns : (p : Packet B) (s : taken.Snapshot) → p.kind ≡ Snapshot s
      → Turned same (Deliver p) x (on_snapshot p.addressee s (record (begun x) { node = saw p.kind x }))
  snapshot_turns p s is = by_length (nat_le s.floor (log_length x)) refl
    where
      t : Plan B
      t = record (begun x) { node = saw p.kind x }

      still : (u : Plan B) → u.node ≡ t.node → u.applied ≡ [] → u.change.snapshot ≡ None → Turned same (Deliver p) x u
      still u i none cut =
          record {
            boot = ap (λ (y : NodeState B). y.rows.boot) i;
            up = ap (λ (y : NodeState B). y.up) i;
            news = none;
            acts = ap (λ (y : NodeState B). y.taken) i;
            turn = inl (record {
              base = ap (λ (y : NodeState B). y.rows.snapshot) i;
              log = ap (λ (y : NodeState B). y.applied) i;
              cut = cut;
              pending = ap (λ (y : NodeState B). y.pending) i ∙ sym (append-nil x.pending);
            });
          }

      by_boot : (head : Head) → head_at s.octets ≡ Some head → log_length x < s.floor → (b : Bool) → has_boot p.addressee x head ≡ b
          → Turned same (Deliver p) x (if b then t else rest_on true s t)
      by_boot head reads more true b = still t refl refl refl
      by_boot head reads more false b =
          record {
            boot = refl;
            up = refl;
            news = refl;
            acts = refl;
            turn = inr (inr (record {
              snapshot = s;
              packet = p;
              event = refl;
              kind = is;
              head = head;
              reads = reads;
              newer = b;
              more = more;
              base = refl;
              log = refl;
              cut = refl;
              pending = refl;
            }));
          }

      by_head : (o : Option Head) → head_at s.octets ≡ o → log_length x < s.floor → Turned same (Deliver p) x (take_in p.addressee s o t)
      by_head None reads more = still (record t { disagrees = true }) refl refl refl
      by_head (Some head) reads more = by_boot head reads more (has_boot p.addressee x head) refl

      by_length : (b : Bool) → nat_le s.floor (log_length x) ≡ b
          → Turned same (Deliver p) x (if b then t else take_in p.addressee s (head_at s.octets) t)
      by_length true b = still t refl refl refl
      by_length false b = by_head (head_at s.octets) refl (leb-false s.floor (log_length x) b)

  pub turns : (e : Event B) → possible e x ≡ true → ((n : ℕ) → e ≡ Crash n → ⊥) → Turned same e x (on_event same members e (begun x))
  turns (Take n t body) p d = with_more (Take n t body) _ (takes_act same members n t body (begun x))
  turns (Tick n) p d = as_it_was (Tick n) _ refl refl (ticks same members n (begun x))
  turns (Start n) p d = as_it_was (Start n) _ refl refl (begins same members n (begun x))
  turns (Suspect n other) p d = with_more (Suspect n other) _ (suspects same members n (new_lost same n other x) (begun x))
  turns (Deliver q) p d =
      ⊎_elim
      (λ (z : (s : taken.Snapshot) × (q.kind ≡ Snapshot s)).
      subst (λ kind. Turned same (Deliver q) x (deliver same members q.addressee q.sender kind (record (begun x) { node = saw q.kind x }))) (sym z.1)
      (snapshot_turns q z.0 z.1))
      (λ (z : IsOther same members q.addressee q.sender q.kind). subst (λ u. Turned same (Deliver q) x u) (sym (z _))
      (as_it_was (Deliver q) _ refl refl (delivers same members q.addressee q.sender q.kind (begun x))))
      (by_kind same members q.addressee q.sender q.kind)
  turns (Cut n o) p d = cut_turns n o (and_parts x.up (may_cut o x) p).1
  turns (Crash n) p d = absurd (d n refl)
  turns (Restart n) p d = absurd (off (sym (ap not up) ∙ (and_parts (not x.up) (nat_lt x.rows.boot last_boot) p).0))

  by_turn : (e : Event B) → Turned same e x (on_event same members e (begun x))
      → From (on_event same members e (begun x)).node.rows.snapshot (on_event same members e (begun x)).node.applied x.rows.boot (acts_after e x)
      (outcome_of same members e x)
  by_turn e t =
      settles_from (owner e) (on_event same members e (begun x)) x.rows.boot (acts_after e x) (t.up ∙ up) t.news t.boot t.acts

  -- it stays up, with what it applied after that, or it goes down
  pub up_from : (e : Event B) → possible e x ≡ true
      → From (on_event same members e (begun x)).node.rows.snapshot (on_event same members e (begun x)).node.applied x.rows.boot (acts_after e x)
      (outcome_of same members e x)
  up_from (Crash n) p = record { boot_is = refl; case = inr (refl, refl) }
  up_from (Take n t body) p = by_turn (Take n t body) (turns (Take n t body) p (λ m i. cc))
  up_from (Tick n) p = by_turn (Tick n) (turns (Tick n) p (λ m i. cc))
  up_from (Start n) p = by_turn (Start n) (turns (Start n) p (λ m i. cc))
  up_from (Suspect n other) p = by_turn (Suspect n other) (turns (Suspect n other) p (λ m i. cc))
  up_from (Deliver q) p = by_turn (Deliver q) (turns (Deliver q) p (λ m i. cc))
  up_from (Cut n o) p = by_turn (Cut n o) (turns (Cut n o) p (λ m i. cc))
  up_from (Restart n) p = by_turn (Restart n) (turns (Restart n) p (λ m i. cc))

-- what an event does to the node that it is possible at: one that is up, or a restart of one that is down
pub record Began {B : Type 0} (same : B → B → Bool) (members : ℕ) (e : Event B) (x : NodeState B) : Type 0 where
  pub was : x.up ≡ false
  pub is : (outcome_of same members e x).node ≡ started (owner e) (raised x.rows)
  pub news : (outcome_of same members e x).applied ≡ []

pub record Ran {B : Type 0} (same : B → B → Bool) (members : ℕ) (e : Event B) (x : NodeState B) : Type 0 where
  pub was : x.up ≡ true
  pub from : From (on_event same members e (begun x)).node.rows.snapshot (on_event same members e (begun x)).node.applied x.rows.boot
      (acts_after e x) (outcome_of same members e x)

-- how it went on, if it stays up
abbrev pub OnFrom : {B : Type 0} → (B → B → Bool) → ℕ → Event B → NodeState B → Type 0
OnFrom same members e x =
    UpFrom (on_event same members e (begun x)).node.rows.snapshot (on_event same members e (begun x)).node.applied (acts_after e x)
    (outcome_of same members e x)

pub event_cases : {B : Type 0} (same : B → B → Bool) (members : ℕ) (e : Event B) (x : NodeState B) → possible e x ≡ true
    → Ran same members e x ⊎ Began same members e x
event_cases {B} same members (Take n t body) x p =
    let u = (and_parts x.up (nat_lt 0 t) p).0 in inl (record { was = u; from = up_from same members x u (Take n t body) p })
event_cases same members (Tick n) x p = inl (record { was = p; from = up_from same members x p (Tick n) p })
event_cases same members (Start n) x p = inl (record { was = p; from = up_from same members x p (Start n) p })
event_cases same members (Suspect n other) x p = inl (record { was = p; from = up_from same members x p (Suspect n other) p })
event_cases same members (Deliver q) x p = inl (record { was = p; from = up_from same members x p (Deliver q) p })
event_cases same members (Cut n o) x p =
    let u = (and_parts x.up (may_cut o x) p).0 in inl (record { was = u; from = up_from same members x u (Cut n o) p })
event_cases same members (Crash n) x p = inl (record { was = p; from = up_from same members x p (Crash n) p })
event_cases same members (Restart n) x p =
    inr (record { was = down x.up (and_parts (not x.up) (nat_lt x.rows.boot last_boot) p).0; is = refl; news = refl })
  where
    down : (b : Bool) → not b ≡ true → b ≡ false
    down true e = absurd (never e)
      where
        never : false ≡ true → ⊥
        never e = cc
    down false e = refl
