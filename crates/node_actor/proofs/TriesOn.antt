-- One event more is tried, or none.
use Rattle.std.proofs.Common.{◌≡◌, ◌≤◌, ℕ, suc, ◌+◌, ◌^◌, Bool, List, [], ◌∷◌, ◌++◌, length, length-append, ap, sym, subst, ◌∙◌, refl, arith}
use Rattle.std.proofs.Common.{⊎_elim, Result, Ok, Err}
use Rattle.std.specs.Prelude.{IfErr, OnOk}
use Rattle.cluster_world.proofs.Lists.{has_cons, has_nil}
use Rattle.cluster_world.specs.Has.{Has, here, there}
use Rattle.paxos_packets.specs.Members.{IsMember}
use Rattle.paxos_packets.specs.declared.rows.Rows.{Rows}
use Rattle.paxos_acceptor.specs.Ahead.{IsAhead}
use Rattle.replica_machine.specs.Log.{LogState}
use Rattle.paxos_node.specs.Events.{outcome_of}
use Rattle.paxos_node.specs.declared.event.Event.{Event}
use Rattle.paxos_planning.specs.Node.{NodeState}
use Rattle.actor_outboxes.specs.Outboxes.{Waiting}
use Rattle.actor_parts.specs.Parts.{IsPrefixOf, IsSound, Parted}
use Rattle.actor_parts.specs.Steps.{OnlyNode, StaysWho}
use Rattle.actor_parts.specs.Tried.{AreTried, IsTried, Staged, Tries, events_in, node_behind}
use Rattle.actor_parts.specs.declared.tried.Tried.{Tried}
use Rattle.actor_parts.proofs.Trying.{behind_more, tried_more}
use Rattle.mail_table.specs.Boxes.{Received}
use Rattle.mail_table.specs.Seats.{Seated}
use Rattle.node_actor.specs.Actor.{IsSeated}
use Rattle.node_actor.specs.Trying.{acting_before, parts_before, Trying}
use Rattle.node_actor.proofs.Seating.{MayLeave, none_meant, seated_still}

-- what holds of events that were tried and of one more holds of all
holds_more : {B : Type 0} (P : Event B → Type 0) (ts : List (Tried B)) (t : Tried B) → ((e : Event B) → Has (events_in ts) e → P e)
    → P t.event → (e : Event B) → Has (events_in (ts ++ t ∷ [])) e → P e
holds_more {B} P [] t each one e h = ⊎_elim (λ is. subst P is one) (λ k. absurd (has_nil k)) (has_cons h)
holds_more {B} P (s ∷ ss) t each one e h =
    ⊎_elim (λ is. subst P is (each s.event here)) (λ k. holds_more P ss t (λ d i. each d (there i)) one e k) (has_cons h)

module _ {B M K : Type 0} (same : B → B → Bool) (holds : K → Rows B → Type 0) (is_failed : K → Bool) (p q : Parted B M K) (s : Seated B)
    (g : Staged B) (tr : Trying same holds is_failed p s g) (me : q.node.me ≡ p.node.me) (members : q.node.members ≡ p.node.members)
    (only : OnlyNode p q) where
  abbrev first : NodeState B
  first = s.part.seen.node

  who : StaysWho (parts_before p s) (parts_before q s)
  who =
      record {
        me = me;
        members = members;
        waits_me = ap (λ (w : Waiting B). w.me) only.waiting;
        waits_members = ap (λ (w : Waiting B). w.members) only.waiting;
      }

  at_who : (P : ℕ → ℕ → Type 0) → P p.node.me p.node.members → P q.node.me q.node.members
  at_who P h = subst (λ (z : ℕ × ℕ). P z.0 z.1) (λ i. (sym me i, sym members i)) h

  sound_before : IsSound same holds is_failed (parts_before q s)
  sound_before =
      let so = tr.sound in
      record {
        me = who.waits_me ∙ so.me ∙ sym me;
        members = who.waits_members ∙ so.members ∙ sym members;
        member = at_who (λ k n. IsMember n k) so.member;
        serves = λ e. let v = so.serves (sym only.spoiled ∙ e) in record {
          up = v.up;
          held = subst (λ k. holds k first.rows) (sym only.keeper) v.held;
          floor = ap (λ (l : LogState B M). l.floor) only.log ∙ v.floor;
          whole = ap is_failed only.keeper ∙ v.whole;
          followed = ap (λ (l : LogState B M). l.applied) only.log ∙ v.followed;
          alive = ap (λ (l : LogState B M). l.failed) only.log ∙ v.alive;
          committed = only.failed ∙ v.committed;
          ahead = ap (λ (l : LogState B M). l.ahead) only.log ∙ v.ahead;
        };
        front = λ up. subst (λ (l : LogState B M). IsPrefixOf l.applied first.applied) (sym only.log) (so.front up);
      }

  seated_before : IsSeated same (acting_before q s)
  seated_before =
      seated_still same (parts_before p s) (parts_before q s) s who refl only.waiting
      (none_meant (MayLeave same (parts_before q s).node s) q.failed (only.failed ∙ (tr.sound.serves tr.fresh).committed)) tr.seated

  -- none is tried
  pub trying_still : (h : Staged B) → q.node.state ≡ p.node.state → h ≡ g → Trying same holds is_failed q s h
  trying_still h state is =
      subst (λ (z : Staged B). Trying same holds is_failed q s z) (sym is) (record {
        sound = sound_before;
        seated = seated_before;
        fresh = only.spoiled ∙ tr.fresh;
        tried = at_who (λ k n. AreTried same k n g.tried first) tr.tried;
        node = at_who (λ k n. q.node.state ≡ node_behind same k n g.tried first) (state ∙ tr.node);
        ahead = subst (λ (x : NodeState B). IsAhead first.rows g.ahead x.rows) (sym state) tr.ahead;
        received = tr.received;
        counts = tr.counts;
      })

  -- one is
  pub trying_on : (e : Event B) (h : Staged B) → Tries same p.node.me p.node.members e p q g h → Received s.members s.part e
      → s.part.events + suc (length g.tried) ≤ 2 ^ 62 → Trying same holds is_failed q s h
  trying_on e h t got counts =
      let k : ℕ = p.node.me in
      let n : ℕ = p.node.members in
      let last : NodeState B = node_behind same k n g.tried first in
      let one : IsTried same k n t.one last = subst (λ (x : NodeState B). IsTried same k n t.one x) tr.node t.tried in
      let node : q.node.state ≡ node_behind same k n h.tried first =
      t.node ∙ ((λ i. (outcome_of same n (sym t.is i) (tr.node i)).node)
      ∙ (sym (behind_more same k n g.tried t.one first) ∙ ap (λ ts. node_behind same k n ts first) (sym t.all))) in
      let size : length h.tried ≡ length g.tried + length (t.one ∷ []) = ap length t.all ∙ length-append g.tried (t.one ∷ []) in
      let counted : s.part.events + length h.tried ≤ 2 ^ 62 = omega (arith, size, counts) in
      record {
        sound = sound_before;
        seated = seated_before;
        fresh = only.spoiled ∙ tr.fresh;
        tried = at_who (λ j m. AreTried same j m h.tried first)
            (subst (λ (ts : List (Tried B)). AreTried same k n ts first) (sym t.all) (tried_more same k n g.tried t.one first tr.tried one));
        node = at_who (λ j m. q.node.state ≡ node_behind same j m h.tried first) node;
        ahead = t.ahead first.rows tr.ahead;
        received = subst (λ (ts : List (Tried B)). (d : Event B) → Has (events_in ts) d → Received s.members s.part d) (sym t.all)
            (holds_more (Received s.members s.part) g.tried t.one tr.received (subst (Received s.members s.part) (sym t.is) got));
        counts = λ some. counted;
      }

  -- by what the call returns that tries it
  pub trying_by : (e : Event B) (h : Staged B) → Received s.members s.part e → s.part.events + suc (length g.tried) ≤ 2 ^ 62
      → (r : Result (Unit {0}) (Event B)) → OnOk r (Tries same p.node.me p.node.members e p q g h)
      → IfErr r (λ back. (back ≡ e) × (h ≡ g) × (q.node.state ≡ p.node.state)) → Trying same holds is_failed q s h
  trying_by e h got counts (Ok u) ok err = trying_on e h ok got counts
  trying_by e h got counts (Err back) ok err = trying_still h err.2 err.1
