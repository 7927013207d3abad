-- A seat from which a node goes on.
use Rattle.std.proofs.Common.{◌≡◌, ◌<◌, ◌≤◌, ◌+◌, ◌^◌, ◌∙◌, ℕ, Bool, true, false, Option, Some, None, refl, sym, ap, subst}
use Rattle.std.proofs.lemmas.Bool.{false≢true}
use Rattle.paxos_packets.specs.Rows.{last_boot}
use Rattle.paxos_packets.specs.declared.rows.Rows.{Rows}
use Rattle.paxos_acceptor.specs.Acceptor as accepting
use Rattle.paxos_node.specs.View.{Viewed}
use Rattle.paxos_node.specs.declared.view.Opened.{Opened}
use Rattle.paxos_node.specs.declared.view.Opened.TheVariants.{Never, With}
use Rattle.paxos_planning.specs.Node.{NodeState}
use Rattle.actor_parts.specs.Tried.{change_of}
use Rattle.actor_parts.specs.declared.tried.FailedCommit.{FailedCommit}
use Rattle.actor_parts.specs.declared.tried.FailedCommit.TheVariants.{One, Round}
use Rattle.mail_table.specs.Covered.{MayRenew}
use Rattle.mail_table.specs.Seats.{Seated}
use Rattle.mail_table.specs.Views.{opened_with}
use Rattle.node_actor.specs.Posts.{Posted, IsLeft, AreRowsOf, MayYet, renewed, stepped}
use Rattle.node_actor.specs.Beginning.{IsLater, MayBegin, first_time, from_left, from_meant, seat_before}
use Rattle.node_actor.specs.Preparing.{count_in}
use Rattle.node_actor.proofs.StepsMeant.{Leads, leads_on, node_moved, opened_still}
use Rattle.node_actor.proofs.TriedEvents.{advanced_stays}

may_renew : {B : Type 0} (o : Opened B) (first r : Rows B) (x : NodeState B) → o ≡ With first → IsLater x.rows r → r.boot ≤ last_boot
    → MayRenew o x r
may_renew o first r x e l within = subst (λ q. MayRenew q x r) (sym e) (l.rows, l.later, within)

never_renews : {B : Type 0} (o : Opened B) (r : Rows B) (x : NodeState B) → o ≡ Never → MayRenew o x r
never_renews o r x e = subst (λ q. MayRenew q x r) (sym e) tt

rows_of_never : {B : Type 0} (rows : Option (Rows B)) (s : Viewed B) → rows ≡ None → AreRowsOf rows s → s.opened ≡ Never
rows_of_never rows s e h = subst (λ q. AreRowsOf q s) e h

pub rows_of_some : {B : Type 0} (rows : Option (Rows B)) (k : Rows B) (s : Viewed B) → rows ≡ Some k → AreRowsOf rows s
    → (s.node.rows ≡ k) × ((first : Rows B) × (s.opened ≡ With first))
rows_of_some rows k s e h = subst (λ q. AreRowsOf q s) e h

-- what the failed commit was to leave leads the post's seat on
pub leads_at : {B : Type 0} (same : B → B → Bool) (p : Posted B) → IsLeft same p → (m : FailedCommit B) → p.failed ≡ Some m
    → Leads same p.me p.members m p.seat
leads_at same p left m failed = leads_on same p.me p.members m p.seat left.me left.members (left.failed m failed).0

module _ {B : Type 0} (same : B → B → Bool) (p : Posted B) (left : IsLeft same p) (r : Rows B) (meant : Bool) where
  pub may_begin_renews : MayBegin p r meant → r.boot ≤ last_boot
      → MayRenew (seat_before same meant p.failed p.seat).part.seen.opened (seat_before same meant p.failed p.seat).part.seen.node r
  may_begin_renews (first_time none is counts) within =
      subst (λ m. MayRenew (seat_before same m p.failed p.seat).part.seen.opened (seat_before same m p.failed p.seat).part.seen.node r) (sym is)
      (never_renews _ r _ (rows_of_never p.rows p.seat.part.seen none left.rows))
  may_begin_renews (from_left k some is later counts) within =
      let rows = rows_of_some p.rows k p.seat.part.seen some left.rows in
      subst (λ m. MayRenew (seat_before same m p.failed p.seat).part.seen.opened (seat_before same m p.failed p.seat).part.seen.node r) (sym is)
      (may_renew _ rows.1.0 r _ rows.1.1 (subst (λ q. IsLater q r) (sym rows.0) later) within)
  may_begin_renews (from_meant k m some failed is later counts) within =
      let rows = rows_of_some p.rows k p.seat.part.seen some left.rows in
      let on = leads_at same p left m failed in
      let opened : (stepped same m p.seat).part.seen.opened ≡ With rows.1.0 =
      ap (λ (z : Viewed B). z.opened) on.sees ∙ opened_still same p.members on.events p.seat.part.seen ∙ rows.1.1 in
      let behind : accepting.adopted k (change_of m) ≡ (stepped same m p.seat).part.seen.node.rows =
      ap (λ q. accepting.adopted q (change_of m)) (sym rows.0)
      ∙ sym (ap (λ (z : Viewed B). z.node.rows) on.sees
      ∙ ap (λ (x : NodeState B). x.rows) (node_moved same p.members on.events p.seat.part.seen) ∙ on.rows) in
      subst (λ b. MayRenew (seat_before same b p.failed p.seat).part.seen.opened (seat_before same b p.failed p.seat).part.seen.node r) (sym is)
      (subst (λ f. MayRenew (seat_before same true f p.seat).part.seen.opened (seat_before same true f p.seat).part.seen.node r) (sym failed)
      (may_renew _ rows.1.0 r _ opened (subst (λ q. IsLater q r) behind later) within))

  -- the word counts the events
  pub may_begin_counts : MayBegin p r meant → (seat_before same meant p.failed p.seat).part.events < 2 ^ 62
  may_begin_counts (first_time none is counts) = subst (λ m. (seat_before same m p.failed p.seat).part.events < 2 ^ 62) (sym is) counts
  may_begin_counts (from_left k some is later counts) = subst (λ m. (seat_before same m p.failed p.seat).part.events < 2 ^ 62) (sym is) counts
  may_begin_counts (from_meant k m some failed is later counts) =
      subst (λ b. (seat_before same b p.failed p.seat).part.events < 2 ^ 62) (sym is)
      (subst (λ f. (seat_before same true f p.seat).part.events < 2 ^ 62) (sym failed)
      (subst (λ n. n < 2 ^ 62) (sym (leads_at same p left m failed).counted) counts))

  -- and those of the failed commit, if their steps come first
  pub may_begin_first : MayBegin p r meant → meant ≡ true → p.seat.part.events + count_in p.failed < 2 ^ 62
  may_begin_first (first_time none is counts) on = absurd (false≢true (sym is ∙ on))
  may_begin_first (from_left k some is later counts) on = absurd (false≢true (sym is ∙ on))
  may_begin_first (from_meant k m some failed is later counts) on =
      subst (λ f. p.seat.part.events + count_in f < 2 ^ 62) (sym failed) counts

-- a renewed seat's node has its rows

opened_behind : {B : Type 0} (r : Rows B) (o : Opened B) → (first : Rows B) × (opened_with r o ≡ With first)
opened_behind r Never = (r, refl)
opened_behind r (With q) = (q, refl)

before_me : {B : Type 0} (same : B → B → Bool) (meant : Bool) (f : Option (FailedCommit B)) (s : Seated B)
    → ((seat_before same meant f s).part.me ≡ s.part.me) × ((seat_before same meant f s).members ≡ s.members)
before_me same true (Some (One o)) s = (refl, refl)
before_me {B} same true (Some (Round c ts)) s =
    let stays = advanced_stays same ts s in
    (stays.me, ap (λ (z : Seated B). z.members) stays.table)
before_me same true None s = (refl, refl)
before_me same false f s = (refl, refl)

pub left_renewed : {B : Type 0} (same : B → B → Bool) (p : Posted B) (r : Rows B) (meant : Bool) (s : Seated B) (me members : ℕ)
    → IsLeft same p → me ≡ p.me → members ≡ p.members
    → s ≡ renewed r (seat_before same meant p.failed p.seat) → IsLeft same
    (record { me = me; members = members; rows = Some r; failed = None; seat = s })
left_renewed {B} same p r meant s me members left is_me is_members e =
    subst (λ (q : Seated B). IsLeft same (record { me = me; members = members; rows = Some r; failed = None; seat = q })) (sym e)
    (record {
      member = rw (is_me, is_members) left.member;
      me = (before_me same meant p.failed p.seat).0 ∙ left.me ∙ sym is_me;
      members = (before_me same meant p.failed p.seat).1 ∙ left.members ∙ sym is_members;
      rows = (refl, opened_behind r (seat_before same meant p.failed p.seat).part.seen.opened);
      failed = λ o is. absurd cc;
    })

-- the steps of what the failed commit was to leave may be taken at the post's seat
pub may_at : {B : Type 0} (same : B → B → Bool) (p : Posted B) → IsLeft same p → (n : ℕ) → p.seat.members ≡ n → (s : Seated B)
    → s ≡ p.seat → (m : FailedCommit B)
    → p.failed ≡ Some m → MayYet same n s.part m
may_at {B} same p left n e s is m failed =
    subst (λ (q : Seated B). MayYet same n q.part m) (sym is) (subst (λ k. MayYet same k p.seat.part m) (sym left.members
    ∙ e) (left.failed m failed).1)
