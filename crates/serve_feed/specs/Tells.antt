-- What the feed of a node has given of its clients: the acts under the number of each connection that is there are the requests that were
-- taken from it, in order, but for a Connect that is held until an act may be given; a connection that is gone has ended with a Hung exactly
-- if its Connect was given.
use Rattle.std.specs.Prelude.{◌≡◌, ◌<◌, ◌≤◌, ◌==◌, ℕ, Bool, true, false, List, [], ◌∷◌, ◌++◌, Option, None, Some, slice_get, if◌then◌else◌, ⊤}
use Rattle.std.specs.List.{All, AllPairs, flat_map, list_any, remove}
use Rattle.realm_acts.specs.declared.act.Act.{Act}
use Rattle.realm_acts.specs.declared.act.Act.TheVariants as done
use Rattle.client_listener.specs.declared.items.FromClient.{FromClient}
use Rattle.client_listener.specs.declared.items.FromClient.TheVariants as put
use Rattle.serve_connections.specs.Taken.{taken_by}
use Rattle.serve_feed.specs.declared.sources.Source.{Source}
use Rattle.serve_feed.specs.declared.sources.Sources.{Sources}
use Rattle.serve_feed.specs.declared.sources.Aside.{Aside}
use Rattle.serve_feed.specs.declared.sources.Aside.TheVariants as aside
use Rattle.serve_feed.specs.declared.sources.Next.{Next}
use Rattle.serve_feed.specs.declared.sources.Next.TheVariants as next

-- the request that an act is made of, its draw aside
abbrev pub request_of : Act → FromClient
request_of done.Connect = put.Connect
request_of (done.Said draw read) = put.Read read
request_of done.Hung = put.Hung

-- a request if it becomes an act: all do but a Ping, which the node answers by itself
abbrev pub act_of : FromClient → List FromClient
act_of put.Connect = put.Connect ∷ []
act_of (put.Read read) = put.Read read ∷ []
act_of (put.Ping payload) = []
act_of put.Hung = put.Hung ∷ []

abbrev pub acts_of : List FromClient → List FromClient
acts_of requests = flat_map act_of requests

-- the acts under a transport's number, among acts each with its transport's number

abbrev pub is_under : ℕ → ℕ × Act → List FromClient
is_under number given = if given.0 == number then request_of given.1 ∷ [] else []

abbrev pub under : ℕ → List (ℕ × Act) → List FromClient
under number given = flat_map (is_under number) given

abbrev pub is_connect : FromClient → Bool
is_connect put.Connect = true
is_connect (put.Read read) = false
is_connect (put.Ping payload) = false
is_connect put.Hung = false

abbrev pub is_hung : FromClient → Bool
is_hung put.Connect = false
is_hung (put.Read read) = false
is_hung (put.Ping payload) = false
is_hung put.Hung = true

-- whether a Connect was taken, once this was
abbrev pub known_with : FromClient → Bool → Bool
known_with put.Connect known = true
known_with (put.Read read) known = known
known_with (put.Ping payload) known = known
known_with put.Hung known = known

-- what was taken from a connection and waits until an act may be given
abbrev pub held : Source → List FromClient
held source = if source.is_held then put.Connect ∷ [] else []

-- these acts, and then what is held, are the requests that were taken from a connection
abbrev pub IsGiven : List FromClient → Source → Type 0
IsGiven acts source = acts ++ held source ≡ acts_of (taken_by source.requests)

-- the acts under the number of this connection are the requests that were taken from it, in order, but for what is held; it is known if a
-- Connect is among them, and no Hung is
pub record IsTold (given : List (ℕ × Act)) (source : Source) : Type 0 where
  pub acts : IsGiven (under source.number given) source
  pub known : source.is_known ≡ list_any is_connect (under source.number given)
  pub none : list_any is_hung (under source.number given) ≡ false

-- the acts of a connection that is gone: a Hung is the last one, and there is no other, exactly if a Connect is among them
pub data AreEnded : List FromClient → Type 0 where
  HungUp : (acts : List FromClient) → list_any is_connect acts ≡ true → list_any is_hung acts ≡ false → AreEnded (acts ++ put.Hung ∷ [])
  NeverCame : (acts : List FromClient) → list_any is_connect acts ≡ false → list_any is_hung acts ≡ false → AreEnded acts

-- the numbers of connections rise, from 1 on; none is above the last that was given
pub record AreNumbered (sources : List Source) (last : ℕ) : Type 0 where
  pub rise : AllPairs (λ (a b : Source). a.number < b.number) sources
  pub first : All (λ (source : Source). 0 < source.number) sources
  pub up_to : All (λ (source : Source). source.number ≤ last) sources

-- no connection has this number
abbrev pub IsGone : ℕ → List Source → Type 0
IsGone number sources = All (λ (source : Source). source.number ≡ number → ⊥) sources

-- each connection that is there is told, each that is gone has ended, and no act is under a number that none has had
pub record TellsOf (sources : List Source) (last : ℕ) (given : List (ℕ × Act)) : Type 0 where
  pub numbers : AreNumbered sources last
  pub told : All (IsTold given) sources
  pub gone : (number : ℕ) → IsGone number sources → AreEnded (under number given)
  pub none : (number : ℕ) → last < number → under number given ≡ []

abbrev pub Tells : Sources → List (ℕ × Act) → Type 0
Tells sources given = TellsOf sources.list.items sources.last given

abbrev pub knows : Option Source → Bool
knows None = false
knows (Some source) = source.is_known

-- whether a Connect was taken of the connection at a place
abbrev pub known_at : List Source → ℕ → Bool
known_at sources place = knows (slice_get sources place)

-- the others are told once the connection of this number is gone: after a Hung if it is known
abbrev pub Closes : Bool → ℕ → List Source → ℕ → List (ℕ × Act) → Type 0
Closes true number others last given = TellsOf others last (given ++ (number, done.Hung) ∷ [])
Closes false number others last given = TellsOf others last given

-- the connection at a place may go
abbrev pub TellsWithout : ℕ → ℕ → Sources → List (ℕ × Act) → Type 0
TellsWithout place number sources given = (0 < number)
    × Closes (known_at sources.list.items place) number (remove sources.list.items place) sources.last given

-- a request was taken: it is told once its act is given, or its connection is gone
abbrev pub Owes : ℕ → ℕ → FromClient → Sources → List (ℕ × Act) → Type 0
Owes place number put.Connect sources given = (0 < number) × Tells sources (given ++ (number, done.Connect) ∷ [])
Owes place number (put.Read read) sources given = TellsWithout place number sources given
    × ((draw : ℕ) → Tells sources (given ++ (number, done.Said draw read) ∷ []))
Owes place number (put.Ping payload) sources given = Tells sources given
Owes place number put.Hung sources given = TellsWithout place number sources given

-- what is found at a place
abbrev pub Finds : ℕ → Next → Sources → List (ℕ × Act) → Type 0
Finds place next.Nothing sources given = Tells sources given
Finds place (next.End number) sources given = TellsWithout place number sources given
Finds place (next.Request number request) sources given = Owes place number request sources given

-- whether a Connect was taken, after this was found
abbrev pub known_after : Next → Bool → Bool
known_after next.Nothing known = known
known_after (next.End number) known = known
known_after (next.Request number request) known = known_with request known

-- a connection's next request, or that there is none; if it is given, all that was taken is
abbrev pub Takes : Next → Source → Source → Type 0
Takes next.Nothing old new = (acts : List FromClient) → IsGiven acts old → IsGiven acts new
Takes (next.End number) old new = (number ≡ old.number) × ((acts : List FromClient) → IsGiven acts old → IsGiven acts new)
Takes (next.Request number request) old new =
    (number ≡ old.number) × ((acts : List FromClient) → IsGiven acts old → IsGiven (acts ++ act_of request) new)

-- what is found at a place while no act may be given: the connection may go if nothing of it was given
abbrev pub FindsAside : ℕ → Aside → Sources → List (ℕ × Act) → Type 0
FindsAside place aside.Nothing sources given = Tells sources given
FindsAside place (aside.Ping payload) sources given = Tells sources given
FindsAside place aside.Gone sources given = TellsOf (remove sources.list.items place) sources.last given

-- a connection is found gone only if nothing of it was given
abbrev pub Forgets : Aside → Bool → Type 0
Forgets aside.Nothing known = ⊤
Forgets (aside.Ping payload) known = ⊤
Forgets aside.Gone known = known ≡ false
