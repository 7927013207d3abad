-- A script's world is the one that its events lead to.
use Rattle.std.proofs.Common.{◌≡◌, ℕ, zero, suc, ◌-◌, Bool, List, [], ◌∷◌, ◌++◌, Option, Some, None, refl, sym, ap, ◌∙◌}
use Rattle.std.specs.Prelude.{slice_get}
use Rattle.std.proofs.lemmas.List.Sums.{fold-append}
use Rattle.paxos_packets.specs.declared.packet.Packet.{Packet}
use Rattle.paxos_node.specs.declared.event.Event.{Event}
use Rattle.paxos_node.specs.declared.event.Event.TheVariants.{Deliver}
use Rattle.cluster_world.specs.Saving.{next_of, played_of}
use Rattle.cluster_world.specs.World.{first_world}
use Rattle.replica_machine.specs.Replay.{Machine}
use Rattle.cluster_world.specs.Scripts.{Line, Happens, Packet_no, Flush, Stage, ScriptsArePlayed, first_stage, deliver, deliver_no, first_due}
use Rattle.cluster_world.specs.Scripts.{deliver_first, flush, most_deliveries, take_line, stage_behind, run_script}

module _ {B S Y : Type 0} (saved : S → List ℕ) (m : Machine B S Y) (same : B → B → Bool) (members : ℕ) where
  abbrev IsPlayed : Stage B → Type 0
  IsPlayed s = s.world ≡ played_of saved m same members s.events

  more : (e : Event B) (s : Stage B) → IsPlayed s → next_of saved m same members s.world e ≡ played_of saved m same members (s.events ++ e ∷ [])
  more e s h =
      ap (λ w. next_of saved m same members w e) h
      ∙ sym (fold-append (next_of saved m same members) (first_world members) s.events (e ∷ []))

  first_played : (o : Option (ℕ × Packet B)) (s : Stage B) (go : Stage B → Stage B) → ((z : Stage B) → IsPlayed z → IsPlayed (go z)) → IsPlayed s
      → IsPlayed (deliver_first same members o s go)
  first_played None s go goes h = h
  first_played (Some e) s go goes h = goes (deliver same members e.0 e.1 s) (more (Deliver e.1) s h)

  flush_played : (among : List Bool) (most : ℕ) (s : Stage B) → IsPlayed s → IsPlayed (flush same members among most s)
  flush_played among zero s h = h
  flush_played among (suc k) s h = first_played (first_due members among s) s _ (λ z. flush_played among k z) h

  no_played : (number : ℕ) (o : Option (Packet B)) (s : Stage B) → IsPlayed s → IsPlayed (deliver_no same members number o s)
  no_played number None s h = h
  no_played number (Some p) s h = more (Deliver p) s h

  line_played : (s : Stage B) (l : Line B) → IsPlayed s → IsPlayed (take_line saved m same members s l)
  line_played s (Happens e) h = more e s h
  line_played s (Packet_no number) h = no_played number (slice_get s.world.sent (number - 1)) s h
  line_played s (Flush among) h = flush_played among most_deliveries s h

  lines_played : (lines : List (Line B)) (s : Stage B) → IsPlayed s → IsPlayed (stage_behind saved m same members lines s)
  lines_played [] s h = h
  lines_played (l ∷ ls) s h = lines_played ls (take_line saved m same members s l) (line_played s l h)

  pub script_played : (lines : List (Line B)) → IsPlayed (run_script saved m same members lines)
  script_played lines = lines_played lines (first_stage members) refl

pub scripts_are_played : {B S Y : Type 0} (same : B → B → Bool) → ScriptsArePlayed B same S Y
scripts_are_played same saved m members lines = script_played saved m same members lines
