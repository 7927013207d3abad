-- The votes from a slot on.
use Rattle.std.proofs.Common.{◌≡◌, ℕ, ◌-◌, List, length, take, drop, ◌∙◌, ap, subst, sym}
use Rattle.std.proofs.lemmas.List.{take_rest}
use Rattle.paxos_packets.proofs.Ascending.{Ascends}
use Rattle.paxos_packets.specs.Vote.{place, votes_from}
use Rattle.paxos_packets.specs.declared.vote.Vote.{Vote}
use Rattle.paxos_packets.proofs.Placing.{from_place, ascending_drop}

pub behind : {B : Type 0} (slot i : ℕ) (vs us : List (Vote B)) → Ascends vs → i ≡ place slot vs → us ≡ take (length vs - i) (drop i vs)
    → us ≡ votes_from slot vs
behind slot i vs us h p e = e ∙ (take_rest vs i ∙ (ap (λ (k : ℕ). drop k vs) p ∙ from_place slot vs h))

pub behind_ascending : {B : Type 0} (i : ℕ) (vs us : List (Vote B)) → Ascends vs → us ≡ take (length vs - i) (drop i vs)
    → Ascends us
behind_ascending {B = B} i vs us h e = subst (λ (ws : List (Vote B)). Ascends ws) (sym (e ∙ take_rest vs i)) (ascending_drop i vs h)

-- they ascend, too
pub from_ascending : {B : Type 0} (slot : ℕ) (vs : List (Vote B)) → Ascends vs → Ascends (votes_from slot vs)
from_ascending {B = B} slot vs h =
    subst (λ (ws : List (Vote B)). Ascends ws) (from_place slot vs h) (ascending_drop (place slot vs) vs h)
