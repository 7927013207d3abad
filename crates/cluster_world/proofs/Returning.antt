-- A node that went down in its first pass begins its next boot, takes the act, and learns the log anew: it ends with the act's Item.
use Rattle.std.proofs.Common.{◌≡◌, ◌⊎◌, inl, inr, ⊎_elim, ℕ, suc, ◌+◌, ◌<◌, ◌≤◌, Bool, true, false, refl, sym, ap, ◌∙◌, subst, arith}
use Rattle.std.proofs.Common.{List, [], ◌∷◌, ◌++◌, length, append_assoc, Some}
use Rattle.std.specs.Prelude.{nat_lt, fold, slice_get}
use Rattle.std.proofs.lemmas.Bool.{cond-true, cases_lt, and_from, lt-ltb}
use Rattle.cluster_world.proofs.AcceptorTests.{has_from}
use Rattle.cluster_world.proofs.Booting.{boot_made}
use Rattle.cluster_world.proofs.Casting.{HeardOwn}
use Rattle.cluster_world.proofs.Chaining.{Finished, finishes, all_shape}
use Rattle.cluster_world.proofs.Concluding.{put_all_cases, slots_within}
use Rattle.cluster_world.proofs.Cuts.{RestsOnCut}
use Rattle.cluster_world.proofs.EventsAtOnce.{all_rest}
use Rattle.cluster_world.proofs.EveryWorld.{found_all, play_on, whole_is}
use Rattle.cluster_world.proofs.Going.{last_effective}
use Rattle.cluster_world.proofs.Heads.{HeadsOk, heads_ok, standing_on, stands_under}
use Rattle.cluster_world.proofs.Leading.{AreBelow}
use Rattle.cluster_world.proofs.Limits.{first_most, second_most, slots_fit, room_for_two, first_number}
use Rattle.cluster_world.proofs.Lists.{has_nil}
use Rattle.cluster_world.proofs.OnePass as pass_of
use Rattle.cluster_world.proofs.Leaving.{Kept, kept_of, long_of, RodeOn, WentDown, PassDone, IsVoteOf}
use Rattle.cluster_world.proofs.Owing.{Early, early_unknown, early_live}
use Rattle.cluster_world.proofs.Passing.{among, counted_by}
use Rattle.cluster_world.proofs.Playing.{stepped, Moved, moved, none_is}
use Rattle.cluster_world.proofs.Reached.{round_below, all_eights, heard_none}
use Rattle.cluster_world.proofs.Staying.{BootsBelow, early_on}
use Rattle.cluster_world.proofs.Taking.{acts_ok, votes_good}
use Rattle.cluster_world.specs.Has.{Has}
use Rattle.cluster_world.specs.Origins.{Act}
use Rattle.paxos_packets.specs.Ballot.{below}
use Rattle.paxos_packets.specs.Body.{IsEquality}
use Rattle.paxos_packets.specs.Members.{IsMember, is_majority}
use Rattle.paxos_packets.specs.Snapshot.{floor_in}
use Rattle.paxos_packets.specs.Vote.{votes_from, put_votes}
use Rattle.paxos_packets.specs.declared.ballot.Ballot.{Ballot}
use Rattle.paxos_packets.specs.declared.entry.Entry.{Entry}
use Rattle.paxos_packets.specs.declared.entry.Entry.TheVariants.{Noop, Boot, Item}
use Rattle.paxos_packets.specs.declared.rows.Rows.{Rows}
use Rattle.paxos_packets.specs.declared.vote.Vote.{Vote}
use Rattle.paxos_acceptor.specs.Acceptor.{may_promise}
use Rattle.paxos_proposer.specs.Proposals.{behind}
use Rattle.paxos_proposer.specs.Proposer.{round_of, round_end, next_vote}
use Rattle.paxos_proposer.specs.Proposing.{proposals_of}
use Rattle.paxos_proposer.specs.Role.{Role, Leading}
use Rattle.paxos_node.specs.Applying.{stands_at, started, settle, has_end}
use Rattle.paxos_node.specs.Events.{takes, with_item, last_number, most_pending, possible, outcome_of}
use Rattle.paxos_node.specs.Snapshots.{boot_in}
use Rattle.paxos_node.specs.declared.event.Event.{Event}
use Rattle.paxos_node.specs.declared.event.Event.TheVariants.{Take, Start}
use Rattle.paxos_planning.specs.Node.{NodeState, Plan, log_length}
use Rattle.paxos_planning.specs.Plan.{begun}
use Rattle.paxos_planning.specs.Proposals.{push}
use Rattle.replica_machine.specs.Effects.{is_effective}
use Rattle.replica_machine.specs.declared.roll.Standing.{Standing}
use Rattle.replica_machine.specs.declared.roll.Standing.TheVariants.{Unknown, Live, Gone}
use Rattle.replica_machine.specs.Roll.{standing, standing_from}
use Rattle.cluster_world.specs.World.{World, node_at, first_world, next, play, played, under}
use Rattle.cluster_world.specs.Rescue.{Apart, EndsWithAct, last_rescue_slot}
use Rattle.world_rescue.specs.Course.{Seat, floor_of, votes_then, lead, led, pass, entries_of, propose_all, propose_new}

-- ---- what nodes hold of a boot to come: nothing

-- each Boot and each Item of node n is of this boot or an earlier one
pub record NotLater {B : Type 0} (n b : ℕ) (e : Entry B) : Type 0 where
  pub boots : (c : ℕ) → e ≡ Boot n c → c ≤ b
  pub items : (c q t : ℕ) (x : B) → e ≡ Item n c q t x → c ≤ b

pub noop_is : {B : Type 0} (n b : ℕ) → NotLater {B = B} n b Noop
noop_is {B} n b = record { boots = λ c e. absurd (no_boot c e); items = λ c q t x e. absurd (no_item c q t x e) }
  where
    no_boot : (c : ℕ) → ◌≡◌ {A = Entry B} Noop (Boot n c) → ⊥
    no_boot c e = cc

    no_item : (c q t : ℕ) (x : B) → ◌≡◌ {A = Entry B} Noop (Item n c q t x) → ⊥
    no_item c q t x e = cc

pub votes_not_later : {B : Type 0} (same : B → B → Bool) (equal : IsEquality same) (members : ℕ) (events : List (Event B)) (n k : ℕ)
    (v : Vote B)
    → Has (node_at (played same members events).nodes k).rows.votes v
    → NotLater n (node_at (played same members events).nodes n).rows.boot v.entry
votes_not_later {B} same equal members events n k v h =
    votes_good same members equal (λ e. NotLater n b e) (noop_is n b) events
    (λ e g. record {
      boots = λ c i. boot_made same members events n c (subst (λ z. Has w.made z) i g);
      items = λ c q t x i. ⊎_elim (λ l. l) (λ l. absurd (none c q t x l (subst (λ z. Has w.made z) i g))) (low_or c);
    })
    k v h
  where
    w : World B
    w = played same members events

    b : ℕ
    b = (node_at w.nodes n).rows.boot

    low_or : (c : ℕ) → (c ≤ b) ⊎ (b < c)
    low_or c = ⊎_elim (λ l. inr l) (λ l. inl l) (cases_lt b c)

    none : (c q t : ℕ) (x : B) → b < c → Has w.made (Item n c q t x) → ⊥
    none c q t x l g =
        let r = (acts_ok same members events).taken n c q t x g in
        nothing (record { transport = t; body = x }) r.0 (ap (λ as'. slice_get as' r.0)
        (sym (((acts_ok same members events).counts n).later c l)) ∙ r.2)
      where
        nothing : (a : Act B) (j : ℕ) → slice_get {X = Act B} [] j ≡ Some a → ⊥
        nothing a j e = cc

-- a boot after all that are known of a node
pub early_by : (b : ℕ) (s : Standing) → boot_in s < b → Early b s
early_by b Unknown l = early_unknown b
early_by b (Live c q) l = early_live b c q l
early_by b (Gone c) l = record { fresh = lt-ltb c b l; untaken = λ i. refl; not_live = refl }

-- the node, which went down after `before`, began its next boot with these rows after `again`, and is this seat
module _ {B : Type 0} (same : B → B → Bool) (equal : IsEquality same) (members : ℕ) (three : 3 ≤ members) (few : members ≤ 7)
    (two : 2 ≤ members) (n : ℕ) (member : IsMember members n) (low : n < 8) (before : List (Event B)) (seen : ℕ)
    (rounds : suc (suc seen) < round_end) (seats : List (Seat B)) (apart : Apart n seats)
    (others : (s : Seat B) → Has seats s → IsMember members s.number) (lows : (s : Seat B) → Has seats s → s.number < 8)
    (enough_first : is_majority members (among (fold (λ ks s. s.number ∷ ks) (n ∷ []) seats)) ≡ true)
    (enough : is_majority members (among (n ∷ counted_by seats)) ≡ true) (k : Kept B) (had : Seat B → List (Vote B)) (role : Role B)
    (vs : List (Vote B))
    (d : PassDone same equal members two n member (suc seen) seats k had first_most role vs (played same members before))
    (had_is : (s : Seat B) → Has seats s → had s ≡ s.node.rows.votes)
    (slots : (s : Seat B) → Has seats s → (v : Vote B) → Has s.node.rows.votes v → v.slot ≤ last_rescue_slot)
    (again : List (Event B)) (rows : Rows B) (own : Seat B) (number : own.number ≡ n)
    (at_r : node_at (played same members again).nodes n ≡ started n rows)
    (others_r : (j : ℕ) → (j ≡ n → ⊥) → node_at (played same members again).nodes j ≡ node_at (played same members before).nodes j)
    (boot_is : rows.boot ≡ suc (node_at (played same members before).nodes n).rows.boot)
    (promised_was : rows.promised ≡ (node_at (played same members before).nodes n).rows.promised)
    (votes_were : (v : Vote B) → Has rows.votes v → Has (node_at (played same members before).nodes n).rows.votes v)
    (base : rows.snapshot ≡ own.node.rows.snapshot)
    (own_votes : votes_from (suc (floor_of own)) rows.votes ≡ votes_then (suc (floor_of own)) vs own)
    (own_slots : (v : Vote B) → Has own.node.rows.votes v → v.slot ≤ last_rescue_slot)
    (level : (s : Seat B) → Has seats s → floor_of s ≤ floor_of own) (low_floor : floor_of own ≤ last_rescue_slot)
    (told : boot_in (stands_at rows.snapshot n) ≤ (node_at (played same members before).nodes n).rows.boot) (transport : ℕ) (body : B)
    (positive : 1 ≤ transport) where
  abbrev q : World B
  q = played same members before

  abbrev z : NodeState B
  z = node_at q.nodes n

  -- ---- it takes the act

  abbrev began : NodeState B
  began = started n rows

  abbrev r : World B
  r = played same members again

  abbrev boot : ℕ
  boot = rows.boot

  abbrev pub item : Entry B
  item = Item n boot 1 transport body

  abbrev took : NodeState B
  took = with_item n transport body began

  abbrev act : Event B
  act = Take n transport body

  abbrev t : World B
  t = next same members r act

  mt : Moved same members r t act
  mt = moved same members r act refl

  takes_is : takes began ≡ true
  takes_is = and_from (nat_lt 1 most_pending) (nat_lt 0 last_number) (lt-ltb 1 most_pending (more most_pending room_for_two)) first_number
    where
      more : (a : ℕ) → 2 ≤ a → 1 < a
      more a l = omega arith

  took_is : stepped same members act began ≡ took
  took_is =
      cond-true (possible act began) (outcome_of same members act began).node began (lt-ltb 0 transport positive)
      ∙ ap (λ (o : Plan B). (settle n o).node)
      (cond-true (takes began) (push same members n (record (begun began) { node = took })) (begun began) takes_is)

  at_t : node_at t.nodes n ≡ took
  at_t = mt.mine ∙ (ap (λ x. stepped same members act x) at_r ∙ took_is)

  abbrev pub taken_events : List (Event B)
  taken_events = again ++ act ∷ []

  abbrev pub u : World B
  u = played same members taken_events

  u_is : u ≡ t
  u_is = play_on same members again (act ∷ []) (first_world members)

  x_is : node_at u.nodes n ≡ took
  x_is = ap (λ (w : World B). node_at w.nodes n) u_is ∙ at_t

  abbrev now : Seat B → NodeState B
  now s = node_at q.nodes s.number

  are : (s : Seat B) → Has seats s → node_at u.nodes s.number ≡ now s
  are s h =
      ap (λ (w : World B). node_at w.nodes s.number) u_is
      ∙ (mt.others s.number (none_is n seats apart s h) ∙ others_r s.number (none_is n seats apart s h))

  -- ---- the pass

  abbrev ballot : Ballot
  ballot = record { round = suc (suc seen); node = n }

  abbrev old_ballot : Ballot
  old_ballot = record { round = suc seen; node = n }

  ballots : below old_ballot ballot ≡ true
  ballots = round_below old_ballot ballot (up_one (suc seen))
    where
      up_one : (a : ℕ) → a < suc a
      up_one a = omega arith

  promised_is : (node_at u.nodes n).rows.promised ≡ Some old_ballot
  promised_is = ap (λ (x : NodeState B). x.rows.promised) x_is ∙ (promised_was ∙ d.promised)

  heard_at : (j : ℕ) → HeardOwn ballot j (node_at u.nodes j).learner
  heard_at j = heard_none same members taken_events equal three ballot (ap (λ p. may_promise p ballot) promised_is ∙ ballots) j

  votes_below : (from : ℕ) (votes : List (Vote B)) → ((v : Vote B) → Has votes v → v.slot ≤ last_rescue_slot) → AreBelow first_most
      (votes_from from (put_votes vs votes))
  votes_below from votes low' =
      record {
        each = λ v h. ⊎_elim (λ i. early v.slot d.next (long_of k + length vs)
            (slots_within (long_of k) vs v d.after i) d.next_is d.bound)
            (λ i. late v.slot (low' v i)) (put_all_cases vs votes v (has_from from (put_votes vs votes) v h));
      }
    where
      early : (s nx c : ℕ) → s ≤ c → nx ≡ suc c → nx ≤ first_most → s < first_most
      early s nx c g e l = omega arith

      late : (s : ℕ) → s ≤ last_rescue_slot → s < first_most
      late s l = go s last_rescue_slot most_pending l
        where
          go : (s a p : ℕ) → s ≤ a → s < suc a + p
          go s a p l = omega arith

  abbrev first : ℕ
  first = suc (log_length (node_at u.nodes n))

  -- its log is that of its snapshot
  long_is : log_length took ≡ floor_of own
  long_is = none_more (floor_in rows.snapshot) ∙ ap (λ o. floor_in o) base
    where
      none_more : (a : ℕ) → a + 0 ≡ a
      none_more a = omega arith

  first_is : first ≡ suc (floor_of own)
  first_is = ap (λ (x : NodeState B). suc (log_length x)) x_is ∙ ap suc long_is

  seen_is : (node_at u.nodes n).proposer.seen ≡ suc seen
  seen_is = ap (λ (x : NodeState B). x.proposer.seen) x_is ∙ ap (λ p. round_of p) (promised_was ∙ d.promised)

  sees_is : round_of (node_at u.nodes n).rows.promised ≤ suc seen
  sees_is = subst (λ p. round_of p ≤ suc seen) (sym promised_is) (itself (suc seen))
    where
      itself : (a : ℕ) → a ≤ a
      itself a = omega arith

  pending_is : (node_at (next same members u (Start n)).nodes n).pending ≡ took.pending
  pending_is =
      ap (λ (x : NodeState B). x.pending)
      (pass_of.y_is same equal members three two n member low taken_events own number seats apart others lows now are
      (λ s h. (d.helpers s h).up)
      (λ s h. (d.helpers s h).rests) (ap (λ (x : NodeState B). x.up) x_is) (all_rest same members taken_events n)
      (suc seen) seen_is sees_is rounds vs
      first_most second_most)
      ∙ ap (λ (x : NodeState B). x.pending) x_is

  abbrev role_of : NodeState B → Role B
  role_of a = led same members (log_length a) a.pending ballot (suc (log_length a)) vs own seats

  abbrev votes_of : NodeState B → List (Vote B)
  votes_of a = behind (log_length a) (proposals_of (role_of a))

  abbrev had2 : Seat B → List (Vote B)
  had2 s = (now s).rows.votes

  abbrev final_of : NodeState B → World B
  final_of a = play same members (pass n seats (votes_of a)) (play same members (lead ballot (suc (log_length a)) vs seats) u)

  abbrev DoneAs : NodeState B → Type 0
  DoneAs a =
      PassDone same equal members two n member (suc (suc seen)) seats (kept_of a) had2 second_most (role_of a) (votes_of a) (final_of a)

  abbrev StillAs : NodeState B → Type 0
  StillAs a = (j : ℕ) → (j ≡ n → ⊥) → (node_at u.nodes j).up ≡ true → (node_at (final_of a).nodes j).up ≡ true

  whole_u : DoneAs (node_at u.nodes n) × StillAs (node_at u.nodes n)
  whole_u =
      pass_of.whole same equal members three two n member low taken_events own number seats apart others lows now are
      (λ s h. (d.helpers s h).up)
      (λ s h. (d.helpers s h).rests) (ap (λ (x : NodeState B). x.up) x_is) (all_rest same members taken_events n)
      (suc seen) seen_is sees_is rounds vs
      first_most second_most
      (subst (λ c. c ≤ first_most) (sym first_is) (fits (floor_of own) last_rescue_slot most_pending low_floor))
      (subst (λ (l : List (Entry B)). first_most + length l ≤ second_most) (sym pending_is) (two_more first_most most_pending room_for_two))
      slots_fit (λ s h. ap (λ p. may_promise p ballot) (d.helpers s h).promised ∙ ballots)
      (λ s h. (d.helpers s h).votes_are ∙ ap (λ l. put_votes vs l) (had_is s h))
      (ap (λ (x : NodeState B). votes_from first x.rows.votes) x_is
      ∙ subst (λ c. votes_from c rows.votes ≡ votes_then c vs own) (sym first_is) own_votes)
      (λ s h. (d.helpers s h).given_is) (ap (λ (x : NodeState B). x.rows.snapshot) x_is ∙ base)
      (λ s h. subst (λ c. floor_of s ≤ c) (sym (ap (λ (x : NodeState B). log_length x) x_is ∙ long_is)) (level s h))
      (λ s h. votes_below first s.node.rows.votes (slots s h)) (votes_below first own.node.rows.votes own_slots)
      (heard_at n) (all_eights same members taken_events n)
      (λ s h. subst (λ (x : NodeState B). HeardOwn ballot s.number x.learner) (are s h) (heard_at s.number)) enough_first enough
    where
      fits : (f a p : ℕ) → f ≤ a → suc f ≤ suc a + p
      fits f a p l = omega arith

      two_more : (a p : ℕ) → 2 ≤ p → a + 2 ≤ a + p
      two_more a p l = omega arith

  whole_x : DoneAs took × StillAs took
  whole_x = subst (λ a. DoneAs a × StillAs a) x_is whole_u

  abbrev d2 : DoneAs took
  d2 = whole_x.0

  -- each other node that was up stays up
  still : (j : ℕ) → (j ≡ n → ⊥) → (node_at q.nodes j).up ≡ true → (node_at (final_of took).nodes j).up ≡ true
  still j e h = whole_x.1 j e (ap (λ (w : World B). (node_at w.nodes j).up) u_is
      ∙ (ap (λ (x : NodeState B). x.up) (mt.others j e ∙ others_r j e) ∙ h))

  -- ---- what was proposed

  reported : (e : Entry B) → Has d2.called e → NotLater n z.rows.boot e
  reported e h =
      ⊎_elim (λ i. subst (λ f. NotLater n z.rows.boot f) (sym i) (noop_is n z.rows.boot))
      (λ v. subst (λ f. NotLater n z.rows.boot f) v.2 (of v.0 v.1)) (d2.reported e h)
    where
      of : (v : Vote B) → IsVoteOf (kept_of took) seats had2 v → NotLater n z.rows.boot v.entry
      of v i =
          ⊎_elim (λ g. votes_not_later same equal members before n n v (votes_were v g))
          (λ s. votes_not_later same equal members before n (s.0).number v s.2) i

  -- where it stands at its floor
  abbrev stand : Standing
  stand = stands_at rows.snapshot n

  abbrev long : ℕ
  long = log_length took

  abbrev shape : (later : ℕ) × (ws : List (Vote B))
      × (propose_all d2.called (Leading ballot (suc long) []) ≡ Leading ballot later ([] ++ ws))
      × (entries_of ws ≡ d2.called)
  shape = all_shape same equal long d2.called ballot (suc long) []

  abbrev ws0 : List (Vote B)
  ws0 = shape.1

  -- no Boot of a boot to come
  called_below : BootsBelow n boot (entries_of ws0)
  called_below c h = less ((reported (Boot n c) (subst (λ l. Has l (Boot n c)) shape.3 h)).boots c refl)
    where
      less : c ≤ z.rows.boot → c < boot
      less l = go c z.rows.boot boot boot_is l
        where
          go : (c a e : ℕ) → e ≡ suc a → c ≤ a → c < e
          go c a e i l = omega arith

  early : Early boot (standing_from n stand (entries_of ws0)) × (has_end n boot stand (entries_of ws0) ≡ false)
  early = early_on n boot (entries_of ws0) stand (early_by boot stand (less (boot_in stand) z.rows.boot boot boot_is told)) called_below
    where
      less : (c a e : ℕ) → e ≡ suc a → c ≤ a → c < e
      less c a e i l = omega arith

  old : (v : Vote B) → Has {A = Vote B} [] v → v.slot ≤ long
  old v h = absurd (has_nil h)

  -- nothing of this boot was proposed
  none_of : (c : ℕ) → c ≡ boot → c ≤ z.rows.boot → ⊥
  none_of c i l = high c z.rows.boot boot boot_is i l
    where
      high : (c a e : ℕ) → e ≡ suc a → c ≡ e → c ≤ a → ⊥
      high c a e i j l = omega arith

  abbrev Ended : Role B → Type 0
  Ended a = Finished same equal long n boot 0 ballot [] old stand transport body a

  f : Ended (role_of took)
  f =
      subst (λ a. Ended a) (sym (d2.made ∙ ap (λ (a : Role B). propose_new same long took.pending a) shape.2))
      (finishes same equal long n boot 0 ballot [] old stand transport body (Boot n boot ∷ [])
      (standing_from n stand (entries_of ws0)) shape.0 ws0
      (record { node = refl; boot = refl; early = early.0 }, refl)
      (record {
        stands_is = refl;
        settles = record {
          boots = λ h. absurd (none_of boot refl ((reported (Boot n boot) (subst (λ l. Has l (Boot n boot)) shape.3 h)).boots boot refl));
          items = λ a b c h. absurd (none_of boot refl
              ((reported (Item n boot a b c) (subst (λ l. Has l (Item n boot a b c)) shape.3 h)).items boot a b c refl));
        };
        ends = early.1;
      }))

  votes_is : votes_of took ≡ f.ws ++ next_vote ballot f.slot item ∷ []
  votes_is = ap (λ (a : Role B). proposals_of a) (sym d2.role_is ∙ f.is)

  entries_is : entries_of (votes_of took) ≡ entries_of f.ws ++ item ∷ []
  entries_is = ap (λ l. entries_of l) votes_is ∙ f.entries

  abbrev final : World B
  final = final_of took

  abbrev last : NodeState B
  last = node_at final.nodes n

  -- up to the floor the log is what the snapshot stands for, and there the nodes stand as its head tells
  abbrev below' : List (Entry B)
  below' = under final.cuts last.rows.snapshot

  abbrev Told : World B → Type 0
  Told w = HeadsOk w × RestsOnCut w.cuts (node_at w.nodes n).rows.snapshot

  told_last : Told final
  told_last =
      subst (λ w. Told w)
      (play_on same members taken_events (leading ++ passing) (first_world members) ∙ play_on same members leading passing u) (
        heads_ok same equal members few (taken_events ++ (leading ++ passing)),
        (found_all same equal members (taken_events ++ (leading ++ passing))).nodes n,
      )
    where
      leading : List (Event B)
      leading = lead ballot (suc long) vs seats

      passing : List (Event B)
      passing = pass n seats (votes_of took)

  stood : standing n (below' ++ entries_of f.ws) ≡ Live boot 0
  stood =
      standing_on n Unknown below' (entries_of f.ws)
      ∙ (ap (λ s. standing_from n s (entries_of f.ws)) (sym (stands_under final told_last.0 last.rows.snapshot told_last.1 n))
      ∙ ((λ i. standing_from n (stands_at (d2.base i) n) (entries_of f.ws)) ∙ f.stands_is))

  came_back : EndsWithAct final n transport body
  came_back = ⊎_elim rode down_again d2.fate
    where
      off : false ≡ true → ⊥
      off e = cc

      down_again : WentDown same equal members two n member (suc (suc seen)) seats (kept_of took) (votes_of took) last
          → EndsWithAct final n transport body
      down_again g = absurd (off (sym f.ends ∙ (ap (λ l. has_end n boot stand (entries_of l)) (sym votes_is) ∙ g.ends)))

      rode : RodeOn same equal members two n member (suc (suc seen)) seats (kept_of took) (role_of took) (votes_of took) last
          → EndsWithAct final n transport body
      rode g =
          record {
            before = below' ++ entries_of f.ws;
            item = 1;
            is = whole_is final.cuts last g.up
                ∙ (ap (λ l. below' ++ l) (g.log ∙ entries_is)
                ∙ (sym (append_assoc below' (entries_of f.ws) (item ∷ []))
                ∙ ap (λ b. (below' ++ entries_of f.ws) ++ Item n b 1 transport body ∷ []) (sym d2.boot)));
            takes_effect = ap (λ b. is_effective (below' ++ entries_of f.ws) (Item n b 1 transport body)) d2.boot
                ∙ last_effective n boot 0 transport body (below' ++ entries_of f.ws) stood;
          }

  -- in the terms of its floor
  abbrev pub final_at : ℕ → World B
  final_at a =
      play same members (pass n seats (behind a (proposals_of (led same members a took.pending ballot (suc a) vs own seats))))
      (play same members (lead ballot (suc a) vs seats) u)

  pub leads_back : EndsWithAct (final_at (floor_of own)) n transport body
      × ((j : ℕ) → (j ≡ n → ⊥) → (node_at q.nodes j).up ≡ true → (node_at (final_at (floor_of own)).nodes j).up ≡ true)
  leads_back =
      subst
      (λ a. EndsWithAct (final_at a) n transport body
      × ((j : ℕ) → (j ≡ n → ⊥) → (node_at q.nodes j).up ≡ true → (node_at (final_at a).nodes j).up ≡ true))
      long_is (came_back, still)
