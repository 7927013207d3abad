-- What a run returns if its actor returned a fault.
use Rattle.std.specs.Prelude.{◌≡◌, Bool, true, false, Option, Some, None, Result, Ok, Err, List, [], ◌++◌}
use Rattle.std.specs.declared.vec.Vec.{Vec}
use Rattle.std.specs.declared.alloc.Global.{Global}
use Rattle.paxos_node.specs.declared.event.Event.{Event}
use Rattle.actor_parts.specs.declared.fault.ActorFault.{ActorFault}
use Rattle.actor_parts.specs.declared.fault.ActorFault.TheVariants.{Failed, Rounds, Full, Keeper, Disagree, LostHere, Worn, Memory}

-- the faults that leave an actor as it was
abbrev pub is_refusal : {Y : Type 0} → ActorFault Y → Bool
is_refusal Failed = false
is_refusal Rounds = true
is_refusal Full = true
is_refusal (Keeper fault) = false
is_refusal Disagree = false
is_refusal (LostHere says) = false
is_refusal Worn = false
is_refusal Memory = false

-- the sayings in a fault
abbrev pub says_of : {Y : Type 0} → ActorFault Y → List Y
says_of Failed = []
says_of Rounds = []
says_of Full = []
says_of (Keeper fault) = []
says_of Disagree = []
says_of (LostHere says) = says.items
says_of Worn = []
says_of Memory = []

-- the same fault, without sayings
abbrev pub IsQuiet : {Y : Type 0} → ActorFault Y → ActorFault Y → Type 0
IsQuiet {Y} (LostHere says) fault = (none : Vec Y Global) × (none.items ≡ []) × (fault ≡ LostHere none)
IsQuiet Failed fault = fault ≡ Failed
IsQuiet Rounds fault = fault ≡ Rounds
IsQuiet Full fault = fault ≡ Full
IsQuiet (Keeper cause) fault = fault ≡ Keeper cause
IsQuiet Disagree fault = fault ≡ Disagree
IsQuiet Worn fault = fault ≡ Worn
IsQuiet Memory fault = fault ≡ Memory

module _ {B Y F : Type 0} (saw : F → List (Event B) → List Y → Type 0) where
  -- the feed was handed these
  abbrev pub Gets : List Y → F → F → Type 0
  Gets says old new = (given : List (Event B)) (got : List Y) → saw old given got → saw new given (got ++ says)

  -- of a fault at an event: no round drops the event, no room holds it back, and any other ends the run, once all sayings are handed out
  abbrev pub Answered : ActorFault Y → Event B → F → F → Result (Option (Event B)) (ActorFault Y) → Type 0
  Answered fault e old new (Ok None) = (fault ≡ Rounds) × (new ≡ old)
  Answered fault e old new (Ok (Some held)) = (fault ≡ Full) × (held ≡ e) × (new ≡ old)
  Answered fault e old new (Err answer) = (is_refusal fault ≡ false) × IsQuiet fault answer × Gets (says_of fault) old new
