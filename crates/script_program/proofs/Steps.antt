-- A player goes on as its script does.
use Rattle.std.proofs.Common.{◌≡◌, ℕ, ◌+◌, ◌<◌, ◌≤◌, Bool, true, false, cond, List, [], ◌∷◌, ◌++◌, length, drop, refl, sym, ap, subst}
use Rattle.std.proofs.Common.{◌∙◌, arith}
use Rattle.std.specs.Prelude.{◌&&◌, ◌||◌}
use Rattle.std.proofs.lemmas.Bool.{ne_eqb}
use Rattle.std.proofs.Math.Seq.{drop-append_seam}
use Rattle.std.proofs.lemmas.List.{length-append, append-nil}
use Rattle.std.proofs.lemmas.List.Sums.{fold-append}
use Rattle.paxos_packets.specs.declared.packet.Packet.{Packet}
use Rattle.paxos_node.specs.declared.event.Event.{Event}
use Rattle.paxos_node.specs.Events.{owner, possible, outcome_of}
use Rattle.paxos_planning.specs.Node.{NodeState}
use Rattle.realm_acts.specs.declared.act.Act.{Act}
use Rattle.realm_acts.specs.Act.{same_act}
use Rattle.realm_machine.specs.Config.{Config}
use Rattle.realm_machine.specs.Laws.{live_realm}
use Rattle.realm_snapshot.specs.Writing.{saved}
use Rattle.cluster_world.specs.Saving.{told, next_of}
use Rattle.cluster_world.specs.Scripts.{Stage, is_delivered}
use Rattle.cluster_world.specs.World.{World, first_world, next, done, was_sent, node_at}
use Rattle.script_program.specs.declared.player.Player.{Player}
use Rattle.script_program.specs.Player.{IsAt, waits_from, send_all}
use Rattle.script_program.specs.Playing.{IsBehind, happen, world_behind}
use Rattle.script_program.specs.Waiting.{mark_at, with_delivered}
use Rattle.script_program.proofs.Waits.{count, sent_more, members_stay, marked}

-- what an event sends comes after what was sent
sends : (members : ℕ) (w : World Act) (e : Event Act) → (more : List (Packet Act)) × ((next same_act members w e).sent ≡ w.sent ++ more)
sends members w e = go (was_sent same_act e w.sent && possible e x)
  where
    x : NodeState Act
    x = node_at w.nodes (owner e)

    go : (b : Bool) → (more : List (Packet Act))
        × ((cond b (done same_act w e (node_at w.nodes (owner e)) (outcome_of same_act members e (node_at w.nodes (owner e)))) w).sent ≡ w.sent ++ more)
    go true = (_, refl)
    go false = ([], sym (append-nil w.sent))

-- the player is where the script is after an event, once its world has played it and what was sent waits
pub happened : (config : Config) (members : ℕ) (old new : Player) (s : Stage Act) (e : Event Act) → IsAt config members old s
    → new.world.members ≡ old.world.members
    → IsBehind config new.world (s.events ++ e ∷ [])
    → new.waiting ≡ send_all (drop (length old.waiting.sent) (world_behind config new.world.members (s.events ++ e ∷ [])).sent) old.waiting
    → IsAt config members new (happen config members e s)
happened config members old new s e at stay stands sent =
    record {
      members_are = stay ∙ at.members_are;
      stands = stands;
      is_played = is_played;
      few = ap (λ w. w.members) sent ∙ members_stay more old.waiting ∙ at.few;
      waits = waits;
      fresh = λ number l. at.fresh number (let k = ap length more_is.1 ∙ length-append s.world.sent more_is.0 in omega (arith, l, k));
    }
  where
    -- the world after it
    after : World Act → World Act
    after w = next_of saved (live_realm config) same_act members w e

    is_played : after s.world ≡ world_behind config members (s.events ++ e ∷ [])
    is_played =
        ap (λ w. after w) at.is_played
        ∙ sym (fold-append (next_of saved (live_realm config) same_act members) (first_world members) s.events (e ∷ []))

    more_is : (more : List (Packet Act)) × ((after s.world).sent ≡ s.world.sent ++ more)
    more_is = sends members s.world (told saved (live_realm config) s.world e)

    more : List (Packet Act)
    more = drop (length old.waiting.sent) (world_behind config new.world.members (s.events ++ e ∷ [])).sent

    held : length old.waiting.sent ≡ length s.world.sent
    held = ap length at.waits ∙ count 1 s.delivered s.world.sent

    now_sent : (world_behind config new.world.members (s.events ++ e ∷ [])).sent ≡ s.world.sent ++ more_is.0
    now_sent = ap (λ k. (world_behind config k (s.events ++ e ∷ [])).sent) (stay ∙ at.members_are)
        ∙ sym (ap (λ w. w.sent) is_played) ∙ more_is.1

    behind : more ≡ more_is.0
    behind = (λ i. drop (held i) (now_sent i)) ∙ drop-append_seam s.world.sent more_is.0

    waits : new.waiting.sent ≡ waits_from 1 s.delivered (after s.world).sent
    waits =
        ap (λ w. w.sent) sent ∙ ap (λ ps. (send_all ps old.waiting).sent) behind
        ∙ sent_more s.delivered s.world.sent more_is.0 old.waiting at.fresh at.waits ∙ ap (waits_from 1 s.delivered) (sym more_is.1)

pub grown : (config : Config) (members : ℕ) (e : Event Act) (s : Stage Act)
    → length s.world.sent ≤ length (happen config members e s).world.sent
grown config members e s =
    let more = sends members s.world (told saved (live_realm config) s.world e) in
    let k = ap length more.1 ∙ length-append s.world.sent more.0 in
    omega (arith, k)

-- and after a delivery, once the packet is marked
pub has_delivered : (config : Config) (members : ℕ) (old new : Player) (s : Stage Act) (place : ℕ) → place < length s.world.sent
    → IsAt config members old s → new.world ≡ old.world → new.waiting ≡ with_delivered place old.waiting
    → IsAt config members new (record { world = s.world; events = s.events; delivered = (place + 1) ∷ s.delivered })
has_delivered config members old new s place within at stay marks =
    record {
      members_are = ap (λ w. w.members) stay ∙ at.members_are;
      stands = subst (λ w. IsBehind config w s.events) (sym stay) at.stands;
      is_played = at.is_played;
      few = ap (λ w. w.members) marks ∙ at.few;
      waits = ap (λ w. w.sent) marks ∙ ap (mark_at place) at.waits ∙ marked 1 place s.delivered s.world.sent
          ∙ ap (λ n. waits_from 1 (n ∷ s.delivered) s.world.sent) (let z : 1 + place ≡ place + 1 = omega arith in z);
      fresh = λ number l. ap (λ b. b || is_delivered s.delivered number)
          (ne_eqb (place + 1) number (λ e. omega (arith, l, within, e))) ∙ at.fresh number l;
    }
