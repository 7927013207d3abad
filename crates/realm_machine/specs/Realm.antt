-- A realm as a machine: what it holds, and what a call of it returns.
use Rattle.std.specs.Prelude.{◌≡◌, ℕ, Option, None, Some, Result, Ok, Err}
use Rattle.std.specs.declared.vec.Vec.{Vec}
use Rattle.std.specs.declared.alloc.Global.{Global}
use Rattle.paxos_packets.specs.declared.transport.Transport.{Transport}
use Rattle.realm_acts.specs.declared.act.Act.{Act}
use Rattle.realm_machine.specs.declared.sayings.say.Say.{Say}
use Rattle.realm_machine.specs.Config.{Config}
use Rattle.realm_machine.specs.Content.{Content, limits_in}
use Rattle.realm_machine.specs.Leaving.{gone}
use Rattle.realm_machine.specs.Step.{next, says}

-- a realm: its configuration, and its content, unknown once it has failed because memory ran out
pub record State : Type 0 where
  pub config : Config
  pub content : Option Content

-- a content that is there is held to the limits of the configuration
abbrev pub IsLimited : Config → Option Content → Type 0
IsLimited config None = Unit {0}
IsLimited config (Some c) = limits_in c ≡ config.limits

-- what the call `act` returns, and how it leaves the content: it fails only if memory runs out, and the realm has failed then
abbrev pub Acts : {E : Type 0} → Config → Option Content → Transport → Act → Result (Vec Say Global) E → Option Content → Type 0
Acts config None t act (Ok list) new = ⊥
Acts config None t act (Err e) new = new ≡ None
Acts config (Some c) t act (Ok list) new = (list.items ≡ says config c t act) × (new ≡ Some (next config c t act))
Acts config (Some c) t act (Err e) new = new ≡ None

-- what the call `gone` returns, and how it leaves the content
abbrev pub Goes : {E : Type 0} → Option Content → ℕ → Result (Vec Say Global) E → Option Content → Type 0
Goes None node (Ok list) new = ⊥
Goes None node (Err e) new = new ≡ None
Goes (Some c) node (Ok list) new = (list.items ≡ (gone c node).says) × (new ≡ Some (gone c node).content)
Goes (Some c) node (Err e) new = new ≡ None
