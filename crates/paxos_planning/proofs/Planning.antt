-- What one thing more makes of an event that is being planned.
use Rattle.std.proofs.Common.{◌≡◌, ◌<◌, ◌≤◌, ℕ, zero, suc, Bool, true, false, cond, ◌&&◌, ◌+◌, map, Option, Some, None, List, [], ◌∷◌, ◌++◌, take, length, refl, ap, ◌∙◌, arith}
use Rattle.std.specs.Prelude.{nat_lt, nat_le}
use Rattle.paxos_packets.specs.declared.packet.Packet.{Packet}
use Rattle.paxos_packets.specs.declared.rows.Change.{Change}
use Rattle.paxos_acceptor.specs.Acceptor.{adopted}
use Rattle.paxos_proposer.specs.State as proposing
use Rattle.paxos_packets.specs.declared.packet.Kind.TheVariants.{Accept}
use Rattle.paxos_packets.specs.Packet.{to_others}
use Rattle.paxos_packets.specs.declared.entry.Entry.{Entry}
use Rattle.paxos_packets.specs.declared.vote.Vote.{Vote}
use Rattle.paxos_learner.specs.declared.hearing.News.TheVariants.{Cast, Told}
use Rattle.paxos_learner.specs.Hearing.{Draft, and_news, after}
use Rattle.paxos_learner.specs.Learner.{State, LearnerState, learn, count_vote, learned_within}
use Rattle.paxos_proposer.specs.declared.proposing.Offer.{Offer}
use Rattle.paxos_proposer.specs.Role.{Role, Idle, Preparing, Leading}
use Rattle.paxos_proposer.specs.Proposer.{slot_end, next_vote, submitted}
use Rattle.paxos_proposer.specs.Proposing.{offer_of}
use Rattle.paxos_planning.specs.Parts.{pending_with, counted_with}
use Rattle.paxos_planning.specs.Drafting.{told_to}
use Rattle.paxos_planning.specs.Replies.{told_from}
use Rattle.paxos_learner.specs.declared.learned.LearnedEntry.{LearnedEntry}
use Rattle.paxos_planning.specs.Node.{NodeState, Plan}
use Rattle.paxos_planning.specs.Proposals.{offer, propose_as}
use Rattle.paxos_planning.specs.Plan.{with_role, send, cast}
use Rattle.paxos_learner.proofs.Overlay.{heard_last}
use Rattle.paxos_planning.proofs.Staying.{heard_stay}

-- one is heard last

pub counted : {B : Type 0} (node : ℕ) (v : Vote B) (old new : Draft B) → new ≡ and_news (Cast node v) old
    → (after new).learner ≡ count_vote old.before.members node v (after old).learner
counted {B} node v old new e =
    ap (λ (d : Draft B). (after d).learner) e ∙ ap (λ (s : State B). s.learner) (heard_last old.news (Cast node v) old.before)
    ∙ ap (λ (m : ℕ). count_vote m node v (after old).learner) (heard_stay old.news old.before)

pub members_then : {B : Type 0} (d : Draft B) → (after d).members ≡ d.before.members
members_then d = heard_stay d.news d.before

pub told_then : {B : Type 0} (slot : ℕ) (e : Entry B) (old new : Draft B) → new ≡ and_news (Told slot e) old
    → (after new).learner ≡ learn slot e (after old).learner
told_then {B} slot e old new p =
    ap (λ (d : Draft B). (after d).learner) p ∙ ap (λ (s : State B). s.learner) (heard_last old.news (Told slot e) old.before)

-- an entry is proposed where the proposer offers to

pub proposes_one : {B : Type 0} (same : B → B → Bool) (members me : ℕ) (e : Entry B) (r : Role B) (o : Plan B) (f : Offer) → offer_of r ≡ Some f
    → propose_as same members me r e o
    ≡ cast same members me (next_vote f.ballot f.slot e)
    (send (to_others members me (Accept (next_vote f.ballot f.slot e))) (record o { node = with_role (submitted e r) o.node }))
proposes_one same members me e Idle o f h = absurd (cc)
proposes_one same members me e (Preparing b first promises) o f h = absurd (cc)
proposes_one {B} same members me e (Leading b next proposed) o f h = go (nat_lt next slot_end) h
  where
    whole : Offer → Plan B
    whole f = cast same members me (next_vote f.ballot f.slot e)
        (send (to_others members me (Accept (next_vote f.ballot f.slot e)))
        (record o { node = with_role (submitted e (Leading b next proposed)) o.node }))

    of_some : Option Offer → Plan B
    of_some None = o
    of_some (Some f) = whole f

    go : (t : Bool) → ◌≡◌ {A = Option Offer} (cond t (Some (record { ballot = b; slot = next })) None) (Some f)
        → cond t (cast same members me (next_vote b next e) (offer members me b next proposed e o)) o ≡ whole f
    go true k = ap of_some k
    go false k = absurd (cc)

-- the first of what is pending, if one more entry may become so

take_none : {X : Type 0} (n : ℕ) → take {A = X} n [] ≡ []
take_none zero = refl
take_none (suc n) = refl

pub first_full : {B : Type 0} (n : ℕ) (added : Option (Entry B)) (es : List (Entry B)) → n ≤ length es → take n (pending_with added es) ≡ take n es
first_full n None es l = refl
first_full zero (Some e) es l = refl
first_full (suc n) (Some e) [] l = absurd (omega arith)
first_full {B} (suc n) (Some e) (d ∷ es) l = ap (λ (ds : List (Entry B)). d ∷ ds) (first_full n (Some e) es (omega arith))

pub first_last : {B : Type 0} (n : ℕ) (e : Entry B) (es : List (Entry B)) → length es < n → take n (es ++ e ∷ []) ≡ take n es ++ e ∷ []
first_last zero e es l = absurd (omega arith)
first_last {B} (suc n) e [] l = ap (λ (ds : List (Entry B)). e ∷ ds) (take_none n)
first_last {B} (suc n) e (d ∷ es) l = ap (λ (ds : List (Entry B)). d ∷ ds) (first_last n e es (omega arith))

-- what is reported of the slots from one on

pub told_alike : {B : Type 0} (me to first : ℕ) (ls : List (LearnedEntry B))
    → map (told_to me to) (learned_within first (first + 64) ls) ≡ told_from me to first ls
told_alike me to first [] = refl
told_alike {B} me to first (l ∷ ls) = go (nat_le first l.slot && nat_lt l.slot (first + 64)) (told_alike me to first ls)
  where
    go : (t : Bool) → map (told_to me to) (learned_within first (first + 64) ls) ≡ told_from me to first ls
        → map (told_to me to) (cond t (l ∷ learned_within first (first + 64) ls) (learned_within first (first + 64) ls))
        ≡ cond t (told_to me to l ∷ []) [] ++ told_from me to first ls
    go true h = ap (λ (ps : List (Packet B)). told_to me to l ∷ ps) h
    go false h = h

-- what is planned of a node, by its parts; its proposer last

abbrev pub turn_with : {B : Type 0} → NodeState B → Change B → List (Packet B) → LearnerState B → Option (Entry B) → Bool → proposing.State B → Plan B
turn_with x change packets learner added other p =
    record {
      node = record {
        rows = adopted x.rows change;
        up = x.up;
        proposer = p.proposer;
        learner = learner;
        applied = x.applied;
        pending = pending_with added x.pending;
        taken = counted_with added x.taken;
      };
      change = change;
      packets = packets;
      applied = [];
      disagrees = other;
    }
