-- The realm that octets are, and which realms are saved and loaded (docs/PROTOCOL.md, "Snapshots").
use Rattle.std.specs.Prelude.{◌≡◌, ℕ, true, List, ◌++◌, All, Option, None, Some, option_map, Result, Ok, Err, IfOk}
use Rattle.command_codec.specs.declared.fault.CodecFault.{CodecFault}
use Rattle.command_codec.specs.Entry.{whole}
use Rattle.command_codec.specs.Number.{Reading}
use Rattle.realm_sessions.specs.declared.links.Link.{Link}
use Rattle.realm_sessions.specs.Restoring.{is_numbered}
use Rattle.realm_machine.specs.Content.{Content}
use Rattle.realm_machine.specs.Realm.{State}
use Rattle.realm_machine.specs.Machine.{Live}
use Rattle.realm_machine.specs.Parts.{lists_of, content_of}
use Rattle.realm_snapshot.specs.Reading.{Made, made_reading}

-- the realm that is made so, unless no realm is
abbrev pub realm_of : Made → Option Live
realm_of made = option_map (λ (c : Content). record { config = made.config; content = c }) (content_of made.config.limits made.lists)

abbrev pub found : Result Made CodecFault → Option Live
found (Ok made) = realm_of made
found (Err fault) = None

-- the realm that these octets are, no more and no less, unless they are none
abbrev pub loaded : List ℕ → Option Live
loaded octets = found (whole (made_reading octets))

-- a realm that has not failed
abbrev pub state_of : Live → State
state_of live = record { config = live.config; content = Some live.content }

-- the transports are ones: of nodes 1 to 7, in boots 1 to 2^48 - 1, numbered from 1
abbrev pub AreNumbered : List Link → Type 0
AreNumbered links = All (λ (link : Link). is_numbered link.transport ≡ true) links

-- the lists of its content are such that a realm is made of them
abbrev pub IsSavable : Live → Type 0
IsSavable live = content_of live.config.limits (lists_of live.content) ≡ Some live.content

-- a reading takes these octets back, whatever follows
abbrev pub Backs : {A : Type 0} → (List ℕ → Reading A) → List ℕ → A → Type 0
Backs reading octets value = (rest : List ℕ) → reading (octets ++ rest) ≡ Ok (value, rest)

-- what a reading takes of these octets, if it takes anything, is this value, and it leaves what follows, whatever that is
abbrev pub ReadsNoOther : {A : Type 0} → (List ℕ → Reading A) → List ℕ → A → Type 0
ReadsNoOther reading octets value = (rest : List ℕ) → IfOk (reading (octets ++ rest)) (λ read. read ≡ (value, rest))
