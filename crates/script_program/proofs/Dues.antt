-- The first packet that is due, by its place among those that wait and by its number.
use Rattle.std.proofs.Common.{◌≡◌, ℕ, suc, ◌+◌, Bool, true, false, cond, List, [], ◌∷◌, Option, Some, None, ap, ◌∙◌, arith}
use Rattle.std.specs.Prelude.{slice_get}
use Rattle.std.specs.List.{enumerate_from, find}
use Rattle.paxos_packets.specs.declared.packet.Packet.{Packet}
use Rattle.realm_acts.specs.declared.act.Act.{Act}
use Rattle.script_program.specs.Waiting as waiting
use Rattle.cluster_world.specs.Scripts.{is_due}
use Rattle.script_program.specs.Player.{waits_from}

-- none is, or one that is at this place and has the next number
abbrev pub Finds : List (Packet Act) → Option ℕ → Option (ℕ × Packet Act) → Type 0
Finds sent None None = Unit {0}
Finds sent None (Some e) = ⊥
Finds sent (Some place) None = ⊥
Finds sent (Some place) (Some e) = (e.0 ≡ place + 1) × (slice_get sent place ≡ Some e.1)

module _ (sent : List (Packet Act)) (members : ℕ) (among : List Bool) (d : List ℕ) where
  pub finds : (place number : ℕ) (ps : List (Packet Act)) → number ≡ place + 1 → ((k : ℕ) → slice_get sent (place + k) ≡ slice_get ps k)
      → Finds sent (waiting.first_from (waiting.is_due members among) place (waits_from number d ps))
      (find (λ e. is_due members among d e.0 e.1) (enumerate_from number ps))
  finds place number [] e at = tt
  finds place number (p ∷ ps) e at = go (is_due members among d number p) (finds (suc place) (number + 1) ps (omega (arith, e)) behind)
    where
      behind : (k : ℕ) → slice_get sent (suc place + k) ≡ slice_get ps k
      behind k = ap (slice_get sent) (let z : suc place + k ≡ place + suc k = omega arith in z) ∙ at (suc k)

      here : slice_get sent place ≡ Some p
      here = ap (slice_get sent) (let z : place ≡ place + 0 = omega arith in z) ∙ at 0

      go : (b : Bool)
          → Finds sent (waiting.first_from (waiting.is_due members among) (suc place) (waits_from (number + 1) d ps))
          (find (λ e. is_due members among d e.0 e.1) (enumerate_from (number + 1) ps))
          → Finds sent (cond b (Some place) (waiting.first_from (waiting.is_due members among) (suc place) (waits_from (number + 1) d ps)))
          (cond b (Some (number, p)) (find (λ e. is_due members among d e.0 e.1) (enumerate_from (number + 1) ps)))
      go true later = (e, here)
      go false later = later
