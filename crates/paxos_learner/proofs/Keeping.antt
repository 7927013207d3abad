-- Room that is kept: no slot loses its place.
use Rattle.std.proofs.Common.{◌≡◌, ℕ, suc, ◌+◌, ◌<◌, ◌≤◌, true, List, [], ◌∷◌, length, get_or, drop, sym, ap, subst, add-one, drop-cons, arith}
use Rattle.paxos_learner.specs.declared.hearing.News.{News}
use Rattle.paxos_learner.specs.Hearing.{slot_of, HavePlaces, HasRoomFor}
use Rattle.paxos_learner.specs.Learner.{Held, has_room_at, KeepsRoom}

pub kept_places : {B : Type 0} (ns : List (News B)) (old new : Held B) → KeepsRoom old new → HavePlaces ns old → HavePlaces ns new
kept_places [] old new k h = tt
kept_places (n ∷ ns) old new k h = (k (slot_of n) h.0, kept_places ns old new k h.1)

-- the next one has its place: if the rest has places later, too, the rest with it has
pub places_with : {B : Type 0} (news : List (News B)) (i : ℕ) (n : News B) (now later : Held B) → i < length news → n ≡ get_or news i n
    → has_room_at (slot_of n) now ≡ true → KeepsRoom now later → HavePlaces (drop (i + 1) news) later → HavePlaces (drop i news) later
places_with {B} news i n now later within is here kept rest =
    let next : drop i news ≡ n ∷ drop (i + 1) news =
    rw (add-one, drop-cons news i n) (ap (λ (m : News B). m ∷ drop (suc i) news) (sym is)) in
    subst (λ (ns : List (News B)). HavePlaces ns later) (sym next) (kept (slot_of n) here, rest)

-- what is next has room for its vote, and its place
pub next_vote : {B : Type 0} (news rest : List (News B)) (n : News B) (l : Held B) → news ≡ n ∷ rest → HasRoomFor news l → 0 < l.room.votes
next_vote {B} news rest n l is room =
    let left : suc (length rest) ≤ l.room.votes = (subst (λ (ns : List (News B)). HasRoomFor ns l) is room).votes in omega (arith, left)

pub next_place : {B : Type 0} (news rest : List (News B)) (n : News B) (l : Held B) → news ≡ n ∷ rest → HasRoomFor news l
    → has_room_at (slot_of n) l ≡ true
next_place {B} news rest n l is room = (subst (λ (ns : List (News B)). HasRoomFor ns l) is room).places.0
