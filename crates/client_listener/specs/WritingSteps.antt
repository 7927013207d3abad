-- The state of the writing between its steps. This is for private clauses.
use Rattle.std.specs.Prelude.{◌≡◌, ◌≤◌, ◌+◌, ℕ, Bool, true, false, List, [], ◌++◌, length, Option, Result, Ok, Err}
use Rattle.std.specs.List.{list_all}
use Rattle.std.specs.Io.KnownBytes.{Appends}
use Rattle.rtrb.specs.Fifo.{Allowed}
use Rattle.client_listener.specs.declared.fault.ListenFault.{ListenFault}
use Rattle.client_listener.specs.declared.fault.ListenFault.TheVariants as fault
use Rattle.client_listener.specs.declared.items.ToClient.{ToClient}
use Rattle.client_listener.specs.Outbox.{goes}
use Rattle.client_listener.specs.Writing.{written_of, Takes}

-- this much was taken and written; no item that the consumer knew of was lost
pub record Underway (allows : List ToClient → ToClient → Type 0) (limit known : ℕ) (before after : List ToClient) (here : ℕ)
    (old now : Option (List ℕ)) : Type 0 where
  pub took : List ToClient
  pub are_taken : after ≡ before ++ took
  pub are_allowed : Allowed allows before took
  pub all_go : list_all (goes limit) took ≡ true
  pub are_written : Appends old now (written_of took)
  pub are_known : known + length before ≤ here + length after

-- it goes on, with nothing that waits, or ended
abbrev pub Steps : (List ToClient → ToClient → Type 0) → ℕ → ℕ → Result Bool ListenFault → List ToClient → List ToClient → ℕ
    → Option (List ℕ) → Option (List ℕ) → List ℕ → Type 0
Steps allows limit known (Ok true) before after here old now waiting = Underway allows limit known before after here old now × (waiting ≡ [])
Steps allows limit known (Ok false) before after here old now waiting = Takes allows limit known (Ok tt) before after old now
Steps allows limit known (Err other) before after here old now waiting = Takes allows limit known (Err other) before after old now

-- all that waited was written, or the writer failed and took a prefix of it
abbrev pub Clears : Result (Unit {0}) ListenFault → List ℕ → List ℕ → Option (List ℕ) → Option (List ℕ) → Type 0
Clears (Ok x) waiting left old now = (left ≡ []) × Appends old now waiting
Clears (Err other) waiting left old now = (other ≡ fault.Write)
    × ((written : List ℕ) × (waiting ≡ written ++ left) × Appends old now written)
