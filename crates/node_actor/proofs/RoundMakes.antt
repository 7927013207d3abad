-- What one event of a round makes of the actor, by what its call returns.
use Rattle.std.proofs.Common.{◌≡◌, inl, inr, ℕ, Bool, true, false, Option, List, [], ◌++◌, ap, sym, subst, ◌∙◌, refl, Some, Result, Ok, Err}
use Rattle.std.proofs.lemmas.Bool.{false≢true}
use Rattle.std.specs.declared.vec.Vec.{Vec}
use Rattle.std.specs.declared.alloc.Global.{Global}
use Rattle.paxos_packets.specs.declared.rows.Rows.{Rows}
use Rattle.store_keeper.specs.declared.fault.KeeperFault.{KeeperFault}
use Rattle.replica_machine.specs.Replay.{Steps}
use Rattle.paxos_node.specs.declared.event.Event.{Event}
use Rattle.actor_parts.specs.declared.fault.ActorFault.{ActorFault}
use Rattle.actor_parts.specs.declared.fault.ActorFault.TheVariants.{Failed, Rounds, Full, Keeper, Disagree, LostHere, Worn, Memory}
use Rattle.actor_parts.specs.Parts.{Parted}
use Rattle.mail_table.specs.Seats.{Seated}
use Rattle.node_actor.specs.Actor.{Acting, acting}
use Rattle.node_actor.specs.Calls.{ActsWith}
use Rattle.node_actor.specs.MidRound.{MakesOne, SeatGoes}
use Rattle.node_actor.specs.Views.{View, seen, StandsFor}

module _ {B S Y M K : Type 0} (same : B → B → Bool) (steps : Steps B S Y) (content : M → S) (loaded : List ℕ → Option S)
    (holds : K → Rows B → Type 0) (finds : K → Rows B → Type 0) (failures : K → ℕ) (e : Event B) (p q : Parted B M K) (s t : Seated B) where
  -- what the event's call makes of the actor, with the seat as its view
  abbrev Acted : Result (Vec Y Global) (ActorFault Y) → Type 0
  Acted result = ActsWith same steps content loaded holds finds failures [] (Some e) (acting p s) (acting q t) s result

  abbrev Moved : Result (Vec Y Global) (ActorFault Y) → Type 0
  Moved result = SeatGoes same p.node.members e s t result

  abbrev Makes : Acting B M K → List Y → List Y → Result (Unit {0}) (ActorFault Y) → Type 0
  Makes new was now result = MakesOne same steps content loaded holds finds failures e (acting p s) new was now result

  seat_stands : (next : View B) → StandsFor (acting q t) next → StandsFor (acting q t) t
  seat_stands next st = subst (StandsFor (acting q t)) (sym st.seat) st

  seat_rows : (next : View B) → StandsFor (acting q t) next → holds q.keeper (seen next).node.rows → holds q.keeper (seen t).node.rows
  seat_rows next st held = subst (λ (z : View B). holds q.keeper (seen z).node.rows) (sym st.seat) held

  -- the event was made, and what it says is said; or there was no memory for that

  pub made_says : (more : Vec Y Global) (u : Unit {0}) (was now : List Y) → Acted (Ok more) → Moved (Ok more) → now ≡ was ++ more.items
      → Makes (acting q t) was now (Ok u)
  made_says more u was now h g is = (h.1, inr (more.items, record { agreed = h.2; goes = h.4; seat = g }, h.3, is))

  pub made_silent : (more : Vec Y Global) (was now : List Y) → Acted (Ok more) → Moved (Ok more) → now ≡ was
      → Makes (acting (record q { spoiled = true }) t) was now (Err Memory)
  made_silent more was now h g is =
      let st = seat_stands h.4.next h.4.stands in
      let stands : StandsFor (acting (record q { spoiled = true }) t) t =
      record { seat = refl; node = st.node; rows = st.rows; waits = st.waits } in
      (refl, stands, h.2.2, inr g, seat_rows h.4.next h.4.stands h.4.held, is, h.2.0)

  -- the node was lost by it, and the same

  module _ (fault : ActorFault Y) (more : Vec Y Global) (is_lost : fault ≡ LostHere more) (acted : Acted (Err fault)) (went : Moved (Err fault)) where
    lost_acts : Acted (Err (LostHere more))
    lost_acts = subst (λ f. Acted (Err f)) is_lost acted

    lost_goes : Moved (Err (LostHere more))
    lost_goes = subst (λ f. Moved (Err f)) is_lost went

    pub lost_says : (none : Vec Y Global) → none.items ≡ [] → (was now : List Y) → now ≡ was ++ more.items
        → Makes (acting q t) was now (Err (LostHere none))
    lost_says none empty was now is =
        let h = lost_acts in
        (h.1, empty, (more.items, record { agreed = h.2; goes = h.4; seat = lost_goes }, h.3, is))

    pub lost_silent : (was now : List Y) → now ≡ was → Makes (acting q t) was now (Err Memory)
    lost_silent was now is =
        let h = lost_acts in
        (h.1, seat_stands h.4.next h.4.stands, h.2.2, inr lost_goes, seat_rows h.4.next h.4.stands h.4.held, is, h.2.0)

  -- nothing is said, and nothing was before

  module _ (fault : ActorFault Y) (acted : Acted (Err fault)) (went : Moved (Err fault)) (was : List Y) where
    pub no_round : (u : Unit {0}) → fault ≡ Rounds → p.spoiled ≡ false → Makes (acting q t) was was (Ok u)
    no_round u is fresh =
        let h : Acted (Err Rounds) = subst (λ f. Acted (Err f)) is acted in
        (ap (λ (a : Acting B M K). a.spoiled) h.2 ∙ fresh, inl (h.1, h.2, refl))

    pub no_room : fault ≡ Full → Makes (acting q t) was was (Err Full)
    no_room is = let h : Acted (Err Full) = subst (λ f. Acted (Err f)) is acted in (h.1, h.2, refl)

    pub ended_before : fault ≡ Failed → p.spoiled ≡ false → Makes (acting q t) was was (Err Failed)
    ended_before is fresh = let h : Acted (Err Failed) = subst (λ f. Acted (Err f)) is acted in absurd (false≢true (sym fresh ∙ h.0))

    pub not_kept : (f : KeeperFault) → fault ≡ Keeper f → Makes (acting q t) was was (Err (Keeper f))
    not_kept f is =
        let h : Acted (Err (Keeper f)) = subst (λ f. Acted (Err f)) is acted in
        (h.1, h.2, h.3, subst (λ f. Moved (Err f)) is went, refl)

    pub is_other : fault ≡ Disagree → Makes (acting q t) was was (Err Disagree)
    is_other is =
        let h : Acted (Err Disagree) = subst (λ f. Acted (Err f)) is acted in
        (h.1, h.3, h.4, subst (λ f. Moved (Err f)) is went, refl, h.2)

    pub is_worn_out : fault ≡ Worn → Makes (acting q t) was was (Err Worn)
    is_worn_out is =
        let h : Acted (Err Worn) = subst (λ f. Acted (Err f)) is acted in
        (h.1, h.4, h.5, subst (λ f. Moved (Err f)) is went, refl, h.2)

    pub no_memory : fault ≡ Memory → Makes (acting q t) was was (Err Memory)
    no_memory is =
        let h : Acted (Err Memory) = subst (λ f. Acted (Err f)) is acted in
        (h.1, seat_stands h.3.next h.3.stands, h.2.2, subst (λ f. Moved (Err f)) is went, seat_rows h.3.next h.3.stands h.3.held, refl, h.2.0)
