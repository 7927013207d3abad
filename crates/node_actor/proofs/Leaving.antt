-- An actor ends, or shows its log.
use Rattle.std.proofs.Common.{◌≡◌, Bool, true, false, Some, [], sym, ap, subst, ◌∙◌, refl}
use Rattle.std.specs.Prelude.{if◌then◌else◌}
use Rattle.paxos_packets.specs.Members.{IsMember}
use Rattle.paxos_packets.specs.declared.rows.Rows.{Rows}
use Rattle.node_actor.specs.Posts.{LeftOf, IsLeft, MayYet}
use Rattle.mail_table.specs.Seats.{Seated}
use Rattle.actor_parts.specs.Parts.{Parted, IsPrefixOf, IsSound}
use Rattle.actor_parts.specs.Tried.{IsMeant}
use Rattle.actor_parts.proofs.Carrying.{prefix_to}
use Rattle.node_actor.specs.Actor.{acting, acting_since, IsSeated}
use Rattle.node_actor.specs.declared.turning.LastTurn.{LastTurn}
use Rattle.node_actor.specs.Views.{View, seen, StandsFor}

module _ {B M K : Type 0} where
  -- what is left of an actor is what is left of its view
  pub left_of : (same : B → B → Bool) (holds : K → Rows B → Type 0) (is_failed : K → Bool) (l : LastTurn) (p : Parted B M K) (s : Seated B)
      (v : View B)
      → IsSound same holds is_failed p → IsSeated same (acting p s) → StandsFor (acting_since l p s) v
      → LeftOf same (record { me = p.waiting.me; members = p.waiting.members; rows = Some p.node.state.rows; failed = p.failed; seat = s })
      v
  left_of same holds is_failed l p s v sound seated stands =
      record {
        seat = stands.seat;
        rows = ap Some stands.rows;
        failed = λ m e.
            subst (λ (z : Seated B). IsMeant same p.waiting.me p.waiting.members z.part.seen.node m) stands.seat
            (subst (λ n. IsMeant same p.waiting.me n s.part.seen.node m) (sym sound.members)
            (subst (λ n. IsMeant same n p.node.members s.part.seen.node m) (sym sound.me) (seated.failed m e).0));
      }

  -- and a post is made of it
  pub left_is : (same : B → B → Bool) (holds : K → Rows B → Type 0) (is_failed : K → Bool) (p : Parted B M K) (s : Seated B)
      → IsSound same holds is_failed p → IsSeated same (acting p s)
      → IsLeft same (record { me = p.waiting.me; members = p.waiting.members; rows = Some p.node.state.rows; failed = p.failed; seat = s })
  left_is same holds is_failed p s sound seated =
      record {
        member = subst (λ n. IsMember n p.waiting.me) (sym sound.members) (subst (IsMember p.node.members) (sym sound.me) sound.member);
        me = seated.me ∙ sym sound.me;
        members = seated.members ∙ sym sound.members;
        rows = (seated.same_rows, (seated.rows, seated.opened));
        failed = λ m e. (
          subst (λ n. IsMeant same p.waiting.me n s.part.seen.node m) (sym sound.members)
              (subst (λ n. IsMeant same n p.node.members s.part.seen.node m) (sym sound.me) (seated.failed m e).0),
          subst (λ n. MayYet same n s.part m) (seated.members ∙ sym sound.members) (seated.failed m e).1,
        );
      }

  -- what an actor shows of its log is a beginning of the view's
  pub shown_front : (same : B → B → Bool) (holds : K → Rows B → Type 0) (is_failed : K
      → Bool) (l : LastTurn) (p : Parted B M K) (s : Seated B) (v : View B)
      → IsSound same holds is_failed p → StandsFor (acting_since l p s) v → IsPrefixOf (if p.node.state.up then p.log.applied else [])
      (seen v).node.applied
  shown_front same holds is_failed l p s v sound stands = by_up p.node.state.up refl
    where
      by_up : (b : Bool) → p.node.state.up ≡ b → IsPrefixOf (if b then p.log.applied else []) (seen v).node.applied
      by_up true e = prefix_to p.log.applied p.node.state.applied (seen v).node.applied (sound.front e) (ap (λ x. x.applied) (stands.node e))
      by_up false e = ((seen v).node.applied, refl)

  -- and all of it, if the actor goes on
  pub shown_whole : (same : B → B → Bool) (holds : K → Rows B → Type 0) (is_failed : K → Bool) (l : LastTurn) (p : Parted B M K) (s : Seated B)
      (v : View B) → IsSound same holds is_failed p → StandsFor (acting_since l p s) v → p.spoiled ≡ false
      → (if p.node.state.up then p.log.applied else []) ≡ (seen v).node.applied
  shown_whole same holds is_failed l p s v sound stands fresh =
      let serving = sound.serves fresh in
      ap (λ b. if b then p.log.applied else []) serving.up ∙ (serving.followed ∙ ap (λ x. x.applied) (stands.node serving.up))
