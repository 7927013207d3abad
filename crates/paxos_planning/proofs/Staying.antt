-- The owner of a proposer and of a learner stays as it is.
use Rattle.std.proofs.Common.{◌≡◌, List, [], ◌∷◌, ◌∙◌, refl}
use Rattle.paxos_proposer.specs.declared.moves.Move.{Move}
use Rattle.paxos_proposer.specs.declared.moves.Move.TheVariants.{Saw, Started, Promised, Nacked, SteppedDown, Submitted, Raised}
use Rattle.paxos_proposer.specs.Moves.{after_move, after_moves}
use Rattle.paxos_proposer.specs.State as proposing
use Rattle.paxos_learner.specs.declared.hearing.News.{News}
use Rattle.paxos_learner.specs.declared.hearing.News.TheVariants.{Cast, Told}
use Rattle.paxos_learner.specs.Hearing.{hear_news, hear_all}
use Rattle.paxos_learner.specs.Learner as learning

me_one : {B : Type 0} (m : Move B) (s : proposing.State B) → (after_move m s).me ≡ s.me
me_one (Saw round) s = refl
me_one (Started first floor votes) s = refl
me_one (Promised node b floor votes own) s = refl
me_one (Nacked b p) s = refl
me_one (SteppedDown b) s = refl
me_one (Submitted e) s = refl
me_one (Raised floor) s = refl

pub me_stays : {B : Type 0} (ms : List (Move B)) (s : proposing.State B) → (after_moves ms s).me ≡ s.me
me_stays [] s = refl
me_stays (m ∷ ms) s = me_stays ms (after_move m s) ∙ me_one m s

members_one : {B : Type 0} (m : Move B) (s : proposing.State B) → (after_move m s).members ≡ s.members
members_one (Saw round) s = refl
members_one (Started first floor votes) s = refl
members_one (Promised node b floor votes own) s = refl
members_one (Nacked b p) s = refl
members_one (SteppedDown b) s = refl
members_one (Submitted e) s = refl
members_one (Raised floor) s = refl

pub members_stay : {B : Type 0} (ms : List (Move B)) (s : proposing.State B) → (after_moves ms s).members ≡ s.members
members_stay [] s = refl
members_stay (m ∷ ms) s = members_stay ms (after_move m s) ∙ members_one m s

heard_one : {B : Type 0} (n : News B) (s : learning.State B) → (hear_news n s).members ≡ s.members
heard_one (Cast node v) s = refl
heard_one (Told slot e) s = refl

pub heard_stay : {B : Type 0} (ns : List (News B)) (s : learning.State B) → (hear_all ns s).members ≡ s.members
heard_stay [] s = refl
heard_stay (n ∷ ns) s = heard_stay ns (hear_news n s) ∙ heard_one n s
