-- Promises are counted, and with a majority of them the member leads (Lamport 2001, section 2.2, phase 2 (a)).
use Rattle.std.specs.Prelude.{ℕ, suc, max, Bool, false, not, ◌&&◌, Option, Some, None, List, [], ◌∷◌, ◌++◌, fold, if◌then◌else◌}
use Rattle.paxos_packets.specs.Ballot.{same_ballot}
use Rattle.paxos_packets.specs.Members.{is_majority}
use Rattle.paxos_packets.specs.declared.ballot.Ballot.{Ballot}
use Rattle.paxos_packets.specs.declared.entry.Entry.{Entry}
use Rattle.paxos_packets.specs.declared.vote.Vote.{Vote}
use Rattle.paxos_proposer.specs.declared.promises.CountedPromise.{CountedPromise}
use Rattle.paxos_proposer.specs.Role.{Role, Idle, Preparing, Leading}
use Rattle.paxos_proposer.specs.Reports.{is_counted, reports, called_for}

-- a promise of this ballot by this node is to be counted: the ballot is being prepared, and none of the node was counted
abbrev pub counts : {B : Type 0} → ℕ → Ballot → Role B → Bool
counts node b Idle = false
counts node b (Preparing c first promises) = same_ballot b c && not (is_counted promises node)
counts node b (Leading c next proposed) = false

abbrev pub and_promise_of : {B : Type 0} → ℕ → ℕ → List (Vote B) → List (CountedPromise B) → List (CountedPromise B)
and_promise_of node floor votes promises = promises ++ record { node = node; floor = floor; votes = votes } ∷ []

-- the slot, or the first one above each floor that was reported, whichever is later
abbrev pub above_floors : {B : Type 0} → ℕ → List (CountedPromise B) → ℕ
above_floors slot promises = fold (λ s c. max s (suc c.floor)) slot promises

-- the first slot in which a new leader proposes: the first one that it asked for, but above its own floor and each one that was reported
abbrev pub lowest : {B : Type 0} → ℕ → ℕ → List (CountedPromise B) → ℕ
lowest first own promises = above_floors (max first (suc own)) promises

-- with a majority of promises the member leads, in that slot
abbrev pub with_promises : {B : Type 0} → ℕ → Ballot → ℕ → ℕ → List (CountedPromise B) → Role B
with_promises members b first own promises =
    if is_majority members (is_counted promises) then Leading b (lowest first own promises) [] else Preparing b first promises

-- and it is to propose what the reports call for
abbrev pub calls : {B : Type 0} → ℕ → ℕ → ℕ → List (CountedPromise B) → Option (List (Entry B))
calls members first own promises =
    if is_majority members (is_counted promises) then Some (called_for (lowest first own promises) (reports promises)) else None

-- what a promise makes of the role of a member with this floor of its own
abbrev pub promised : {B : Type 0} → ℕ → ℕ → Ballot → ℕ → List (Vote B) → ℕ → Role B → Role B
promised members node b floor votes own Idle = Idle
promised members node b floor votes own (Preparing c first promises) =
    if counts node b (Preparing c first promises) then with_promises members c first own (and_promise_of node floor votes promises)
    else Preparing c first promises
promised members node b floor votes own (Leading c next proposed) = Leading c next proposed

-- the entries that it calls for, if it makes the member lead
abbrev pub called_by : {B : Type 0} → ℕ → ℕ → Ballot → ℕ → List (Vote B) → ℕ → Role B → Option (List (Entry B))
called_by members node b floor votes own Idle = None
called_by members node b floor votes own (Preparing c first promises) =
    if counts node b (Preparing c first promises) then calls members first own (and_promise_of node floor votes promises)
    else None
called_by members node b floor votes own (Leading c next proposed) = None
