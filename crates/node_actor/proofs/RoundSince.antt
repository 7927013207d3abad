-- What an actor shows of its last round is no part of what a fault makes of the rest.
use Rattle.std.proofs.Common.{◌≡◌, ◌∙◌, ℕ, Bool, false, Option, List, ◌∷◌, ◌++◌, sym, Err}
use Rattle.std.proofs.lemmas.Bool.{false≢true}
use Rattle.paxos_packets.specs.declared.rows.Rows.{Rows}
use Rattle.replica_machine.specs.Replay.{Steps}
use Rattle.paxos_node.specs.declared.event.Event.{Event}
use Rattle.actor_parts.specs.declared.fault.ActorFault.{ActorFault}
use Rattle.actor_parts.specs.declared.fault.ActorFault.TheVariants.{Failed, Rounds, Full, Keeper, Disagree, LostHere, Worn, Memory}
use Rattle.node_actor.specs.Actor.{Acting}
use Rattle.node_actor.specs.Rounds.{Look, Walks, Breaks, Ends, IsOther, IsWorn, RoundOf}
use Rattle.node_actor.specs.Views.{View}
use Rattle.node_actor.specs.declared.turning.LastTurn.{LastTurn}
use Rattle.node_actor.proofs.Since.{since, stands_since}

module _ {B S Y M K : Type 0} (same : B → B → Bool) (steps : Steps B S Y) (content : M → S) (loaded : List ℕ → Option S)
    (holds : K → Rows B → Type 0) (finds : K → Rows B → Type 0) (failures : K → ℕ) (l m : LastTurn) (old new : Acting B M K) (v : View B) where
  pub walks_since : (made : List (Event B)) (looks : List (Look B)) (next : View B)
      → Walks same steps content loaded holds finds failures made looks old new v next
      → Walks same steps content loaded holds finds failures made looks (since l old) (since m new) v next
  walks_since made looks next w =
      record {
        stands = stands_since m new next w.stands;
        table = w.table;
        me = w.me;
        moved = w.moved;
        received = w.received;
        tries = w.tries;
        events = w.events;
        counted = w.counted;
      }

  breaks_since : (own made rest : List (Event B)) → Breaks same steps content loaded holds finds failures own made rest old new v
      → Breaks same steps content loaded holds finds failures own made rest (since l old) (since m new) v
  breaks_since own made rest b =
      record { next = b.next; looks = b.looks; all = b.all; walks = walks_since made b.looks b.next b.walks; posts = b.posts }

  ends_since : (cause : Event B → View B → Type 0) (own : List (Event B)) (said : List Y)
      → Ends same steps content loaded holds finds failures cause own old new v said
      → Ends same steps content loaded holds finds failures cause own (since l old) (since m new) v said
  unfolding breaks_since
  ends_since cause own said e =
      record {
        made = e.made;
        event = e.event;
        rest = e.rest;
        breaks = breaks_since own e.made (e.event ∷ e.rest) e.breaks;
        agree = e.agree;
        says = e.says;
        rows = e.rows;
        is_cause = e.is_cause;
      }

  pub round_since : (own : List (Event B)) (said : List Y) (fault : ActorFault Y) → old.spoiled ≡ false
      → RoundOf same steps content loaded holds finds failures own old new v said (Err fault)
      → RoundOf same steps content loaded holds finds failures own (since l old) (since m new) v said (Err fault)
  unfolding breaks_since
  round_since own said Failed fresh h = absurd (false≢true (sym fresh ∙ h.0))
  round_since own said Rounds fresh h = absurd h
  round_since own said Full fresh h = absurd h
  round_since own said Disagree fresh h = (h.0, h.1, ends_since (IsOther same steps content loaded holds finds failures old.node.members) own said h.2)
  round_since own said Worn fresh h = (h.0, h.1, ends_since (IsWorn same steps content loaded holds finds failures) own said h.2)
  round_since own said Memory fresh h =
      let f = h.2 in
      (h.0, h.1, record { made = f.made; rest = f.rest; breaks = breaks_since own f.made f.rest f.breaks; says = f.says; rows = f.rows })
  round_since own said (LostHere says) fresh h =
      let f = h.3 in (
        h.0,
        h.1,
        h.2,
        record {
          made = f.made;
          rest = f.rest;
          breaks = breaks_since own f.made f.rest f.breaks;
          agree = f.agree;
          waits = f.waits;
          says = f.says;
          follows = f.follows;
          rows = f.rows;
          up = f.up;
          down = f.down;
        },
      )
  round_since own said (Keeper fault) fresh h =
      let f = h.2 in (
        h.0,
        h.1,
        record {
          made = f.made;
          tried = f.tried;
          rest = f.rest;
          breaks = breaks_since own f.made (f.tried ++ f.rest) f.breaks;
          agree = f.agree;
          waits = f.waits;
          says = f.says;
          follows = f.follows;
          some = f.some;
          found = f.found;
          cause = f.cause;
        },
      )
