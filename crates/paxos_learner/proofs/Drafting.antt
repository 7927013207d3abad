-- A draft, by what is to be heard in it.
use Rattle.std.proofs.Common.{◌≡◌, List, [], ◌∷◌, ◌++◌, Result, Ok, Err, OnErr, ◌∙◌, ap, sym, subst}
use Rattle.paxos_learner.specs.declared.hearing.News.{News}
use Rattle.paxos_learner.specs.declared.learned.LearnedEntry.{LearnedEntry}
use Rattle.paxos_learner.specs.Tallies.{Heard}
use Rattle.paxos_learner.specs.Learner.{State}
use Rattle.paxos_learner.specs.Hearing.{Draft, IsOver, hear_all, and_news}
use Rattle.paxos_learner.proofs.Overlay.{over_same}

abbrev draft : {B : Type 0} → State B → List (News B) → Draft B
draft s news = record { before = s; news = news }

-- it is the one of before
pub drafted : {B : Type 0} (s : State B) (now before : List (News B)) (d : Draft B) → now ≡ before → draft s before ≡ d → draft s now ≡ d
drafted {B} s now before d same is = ap (λ (news : List (News B)). draft s news) same ∙ is

-- or with one more
pub drafted_more : {B : Type 0} (s : State B) (now before : List (News B)) (n : News B) (d : Draft B) → now ≡ before ++ n ∷ []
    → draft s before ≡ d → draft s now ≡ and_news n d
drafted_more {B} s now before n d more is =
    ap (λ (news : List (News B)). draft s news) more ∙ ap (λ (d : Draft B). and_news n d) is

-- the overlays are those of before
pub over_kept : {B : Type 0} (changed c : Heard) (gained g : List (LearnedEntry B)) (s : State B) (now before : List (News B))
    → c ≡ changed → g ≡ gained → now ≡ before → IsOver changed gained s.learner (hear_all before s).learner
    → IsOver c g s.learner (hear_all now s).learner
over_kept {B} changed c gained g s now before same_changed same_gained same is =
    subst (λ (news : List (News B)). IsOver c g s.learner (hear_all news s).learner) (sym same)
    (over_same changed c gained g s.learner (hear_all before s).learner same_changed same_gained is)

-- of what failed
pub on_err : {T E : Type 0} (r : Result T E) (P : Type 0) → P → OnErr r P
on_err (Ok x) P p = tt
on_err (Err y) P p = p
