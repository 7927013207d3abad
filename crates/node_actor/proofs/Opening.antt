-- An actor begins, and goes on from what is left of one.
use Rattle.std.proofs.Common.{◌≡◌, inl, inr, ℕ, Bool, true, false, Option, None, Some, refl, sym, ap, subst, ◌∙◌}
use Rattle.std.specs.Prelude.{All, Contains, List}
use Rattle.std.proofs.lemmas.Bool.{false≢true}
use Rattle.std.proofs.lemmas.List.Elements.{All-nil}
use Rattle.paxos_packets.specs.declared.rows.Rows.{Rows}
use Rattle.actor_outboxes.specs.Outboxes.{Waiting, waiting}
use Rattle.replica_machine.specs.Log.{LogState}
use Rattle.paxos_planning.specs.Node.{NodeState}
use Rattle.actor_parts.specs.Snapshots.{is_no_log}
use Rattle.actor_parts.specs.declared.tried.FailedCommit.{FailedCommit}
use Rattle.actor_parts.specs.declared.tried.FailedCommit.TheVariants.{One, Round}
use Rattle.node_actor.specs.Snapshots.{IsFirstLog}
use Rattle.node_actor.proofs.Starting.{first_follows}
use Rattle.replica_machine.specs.Replay.{Steps}
use Rattle.paxos_node.specs.Applying.{started}
use Rattle.paxos_node.specs.Held.{Held}
use Rattle.paxos_node.specs.declared.view.Opened.{Opened}
use Rattle.paxos_node.specs.declared.view.Opened.TheVariants.{Never, With}
use Rattle.mail_table.specs.Seats.{Seated}
use Rattle.mail_table.specs.Views.{opened_with}
use Rattle.actor_parts.specs.Parts.{first_parts}
use Rattle.node_actor.specs.Posts.{Posted, IsLeft, LeftOf, renewed}
use Rattle.node_actor.specs.Beginning.{Begins, seat_before}
use Rattle.node_actor.specs.Preparing.{Returns, HasOthers}
use Rattle.node_actor.proofs.Renewing.{left_renewed}
use Rattle.node_actor.proofs.Restarting.{returns_of}
use Rattle.node_actor.proofs.TriedEvents.{advanced_stays}
use Rattle.node_actor.specs.Actor.{Acting, acting, IsSeated}
use Rattle.node_actor.specs.Restarts.{Opens, OpensFirst, Resumes}
use Rattle.node_actor.specs.Views.{View, posted_to, received_from, StandsFor}

node_at : {B : Type 0} (same : B → B → Bool) (p : Posted B) (r : Rows B) (meant : Bool) (f : Option (FailedCommit B)) → p.seat.part.me ≡ p.me
    → (renewed r (seat_before same meant f p.seat)).part.seen.node ≡ started p.me r
node_at same p r true (Some (One o)) e = ap (λ n. started n r) e
node_at same p r true (Some (Round c ts)) e = ap (λ n. started n r) ((advanced_stays same ts p.seat).me ∙ e)
node_at same p r true None e = ap (λ n. started n r) e
node_at same p r false f e = ap (λ n. started n r) e

module _ {B M K : Type 0} (same : B → B → Bool) (holds : K → Rows B → Type 0) (is_faithful : K → Type 0) (is_failed : K
    → Bool) (p : Posted B)
    (old keeper : K) (h : Held B) (w : Waiting B) (s : Seated B) (log : LogState B M) (left : IsLeft same p)
    (b : Begins same holds is_faithful is_failed p old keeper h w s) where
  node_is : s.part.seen.node ≡ h.state
  node_is = ap (λ z. z.part.seen.node) b.renews.seat ∙ node_at same p b.renews.rows b.renews.meant p.failed left.me ∙ sym b.node.state

  none_waits : (k : ℕ) → All (Contains s.part.seen.sent) (waiting k w)
  none_waits k = subst (All (Contains s.part.seen.sent)) (sym (b.empty.waits k)) (All-nil (Contains s.part.seen.sent))

  pub seated_first : IsSeated same (acting (first_parts h keeper w log) s)
  seated_first =
      let on = left_renewed same p b.renews.rows b.renews.meant s p.me p.members left refl refl b.renews.seat in
      record {
        me = on.me ∙ sym b.node.me;
        members = on.members ∙ sym b.node.members;
        node = λ up. node_is;
        same_rows = ap (λ x. x.rows) node_is;
        rows = on.rows.1.0;
        opened = on.rows.1.1;
        waits = λ k peer. none_waits k;
        failed = λ o e. absurd cc;
      }

  pub opens_first : {S Y : Type 0} (steps : Steps B S Y) (content : M → S) (loaded : List ℕ → Option S) (machine : M)
      → IsFirstLog content loaded machine h.state.rows.snapshot log
      → Opens same steps content loaded holds is_faithful p machine old (acting (first_parts h keeper w log) s)
  opens_first steps content loaded machine begins =
      let begun : IsFirstLog content loaded machine b.renews.rows.snapshot log =
      subst (λ (x : NodeState B). IsFirstLog content loaded machine x.rows.snapshot log) b.node.state begins in
      record {
        renews = b.renews;
        stands = record { seat = refl; node = λ up. sym node_is; rows = ap (λ x. x.rows) (sym node_is); waits = λ k peer. none_waits k };
        node = b.node.state;
        who = (b.node.me, b.node.members);
        waits = b.empty.waits;
        last = refl;
        fresh = refl;
        log = begun;
        follows = λ first under after. first_follows steps content loaded machine first b.renews.rows.snapshot under log begun after;
      }

-- the view goes on

module _ {B M K : Type 0} (same : B → B → Bool) (p : Posted B) (v : View B) (r : Rows B) (a : Acting B M K) where
  resumed : StandsFor a a.seat → Returns same p r v a.seat → Resumes same p v r a
  resumed stands n =
      record {
        events = n.events;
        comes = n.comes;
        possible = n.possible;
        next = a.seat;
        stands = stands;
        moved = n.moved;
        posted = λ k i. posted_to k (record {
          office = v.office;
          table = v.table;
          members = n.members i;
          part = record v.part
              { me = n.me i; posted = n.posted i };
        });
        received = λ k i. received_from k (record {
          office = v.office;
          table = v.table;
          members = n.members i;
          part = record v.part
              { me = n.me i; received = n.received i };
        });
      }

  pub resumes_of : {S Y : Type 0} (steps : Steps B S Y) (content : M → S) (loaded : List ℕ → Option S) (holds : K → Rows B → Type 0)
      (is_faithful : K → Type 0) (machine : M)
      (keeper : K) → IsLeft same p → LeftOf same p v → Opens same steps content loaded holds is_faithful p machine keeper a → holds keeper r
      → is_faithful a.keeper
      → Resumes same p v r a
  resumes_of steps content loaded holds is_faithful machine keeper left of n held true_to =
      resumed n.stands (returns_of same p left a.seat r n.renews.rows (n.renews.boots.booted true_to r held) n.renews.boots.within v of
      n.renews.meant n.renews.may
      n.renews.seat)

-- the node was never opened

-- so none of its rows are others, if a log is made of their snapshot
pub never_others : {B S : Type 0} (same : B → B → Bool) (loaded : List ℕ → Option S) (p : Posted B) (r : Rows B) → p.rows ≡ None
    → is_no_log loaded r.snapshot ≡ false → HasOthers same loaded p r → ⊥
never_others {B} same loaded p r first none (inl e) = false≢true (sym none ∙ e)
never_others {B} same loaded p r first none (inr h) = absurd (let off : ◌≡◌ {A = Option (Rows B)} None (Some h.0) = sym first ∙ h.1 in cc)

opened_first : {B : Type 0} (r : Rows B) (o : Opened B) → o ≡ Never → opened_with r o ≡ With r
opened_first r o e = subst (λ x. opened_with r x ≡ With r) (sym e) refl

first_seat : {B : Type 0} (same : B → B → Bool) (meant : Bool) (s : Seated B) → seat_before same meant None s ≡ s
first_seat same true s = refl
first_seat same false s = refl

pub first_of : {B M K S Y : Type 0} (same : B → B → Bool) (steps : Steps B S Y) (content : M → S) (loaded : List ℕ → Option S) (holds : K → Rows B → Type 0)
    (is_faithful : K → Type 0) (me members : ℕ) (s : Seated B) (machine : M) (keeper : K) (a : Acting B M K) → s.part.me ≡ me → s.part.seen.opened ≡ Never
    → Opens same steps content loaded holds is_faithful (record { me = me; members = members; rows = None; failed = None; seat = s }) machine keeper a
    → OpensFirst holds me s a
first_of same steps content loaded holds is_faithful me members s machine keeper a is never n =
    let seat : a.seat ≡ renewed n.renews.rows s = n.renews.seat ∙ ap (renewed n.renews.rows) (first_seat same n.renews.meant s) in
    record {
      rows = n.renews.rows;
      held = n.renews.boots.held;
      opened = ap (λ z. z.part.seen) seat
          ∙ (λ i. record {
            opened = opened_first n.renews.rows s.part.seen.opened never i;
            node = started (is i) n.renews.rows;
            sent =
                s.part.seen.sent;
          });
    }
