-- What the loops of a round that looks into members' boxes hand on.
use Rattle.std.proofs.Common.{◌≡◌, ◌≤◌, ◌<◌, ◌-◌, ◌+◌, ◌^◌, arith, ⊎_elim, ℕ, Bool, true, false, not, eqb, ap, sym, subst, ◌∙◌, refl}
use Rattle.std.proofs.Common.{Option, Some, None, Result, Ok, Err, List, [], ◌∷◌, ◌++◌, length}
use Rattle.std.specs.Prelude.{IfErr, IsErr, MatchOption, MatchResult, if◌then◌else◌, ◌==◌}
use Rattle.std.proofs.lemmas.Bool.{and_from, and_parts, cases_eq, cases_lt, false≢true}
use Rattle.cluster_world.specs.Has.{Has}
use Rattle.cluster_world.proofs.Lists.{has_left}
use Rattle.paxos_packets.specs.Members.{IsMember}
use Rattle.paxos_packets.specs.declared.packet.Packet.{Packet}
use Rattle.paxos_packets.specs.declared.rows.Rows.{Rows}
use Rattle.paxos_acceptor.specs.Ahead.{IsAhead}
use Rattle.replica_machine.specs.Replay.{Steps}
use Rattle.actor_outboxes.specs.Outboxes.{IsPeer}
use Rattle.paxos_node.specs.declared.event.Event.{Event}
use Rattle.paxos_node.specs.declared.event.Event.TheVariants.{Deliver}
use Rattle.paxos_node.specs.Events.{packet_in}
use Rattle.paxos_node.specs.Plans.{plans}
use Rattle.paxos_node.specs.View.{Viewed}
use Rattle.paxos_planning.specs.Node.{NodeState}
use Rattle.actor_parts.specs.declared.fault.ActorFault.{ActorFault}
use Rattle.actor_parts.specs.Parts.{IsSound, Parted, is_late}
use Rattle.actor_parts.specs.Steps.{StaysWho}
use Rattle.actor_parts.specs.Tried.{AreTried, Staged, events_in, node_behind}
use Rattle.actor_parts.proofs.Trying.{up_stays}
use Rattle.mail_table.specs.Seats.{Seated, knows}
use Rattle.mail_table.specs.Views.{box_of, parcels, through}
use Rattle.mail_table.specs.declared.part.Parcel.{Parcel}
use Rattle.mail_table.specs.declared.part.Part.{Part}
use Rattle.node_actor.specs.Actor.{Acting, acting, IsSeated}
use Rattle.node_actor.specs.EventLists.{behind}
use Rattle.node_actor.specs.Heard.{heard_in}
use Rattle.node_actor.specs.MidRound.{Amid, Ended, Heads, IsNext, MakesNext}
use Rattle.node_actor.specs.Rounds.{Look, found_in, is_treated, look_at, made_of}
use Rattle.node_actor.specs.Trying.{acting_before, parts_before, Trying}
use Rattle.node_actor.specs.Views.{View, seen, is_for}
use Rattle.node_actor.specs.declared.hearing.Hearing.{Hearing}
use Rattle.node_actor.proofs.Looking.{behind_append, look_still}
use Rattle.node_actor.proofs.PacketsNext.{delivered, looked_into, looked_once, packet_due, passed}
use Rattle.node_actor.proofs.Seating.{seated_at}
use Rattle.node_actor.proofs.TriedEvents.{node_after}

-- a call that returns a fault, of which this holds
pub over_err : {A F : Type 0} (r : Result A F) (Q : A → Type 0) (P : F → Type 0) → IsErr r → IfErr r P → MatchResult r Q P
over_err (Ok x) Q P is h = absurd (false≢true is)
over_err (Err e) Q P is h = h

-- what came through boxes before a look

joined : {A : Type 0} (b : Bool) (x : A) (ys zs ws : List A) → ys ≡ zs ++ ws → (if b then x ∷ ys else ys) ≡ (if b then x ∷ zs else zs) ++ ws
joined true x ys zs ws e = ap (λ l. x ∷ l) e
joined false x ys zs ws e = e

through_append : {B : Type 0} (at : ℕ) (qs rs : List (Parcel B)) → through at (qs ++ rs) ≡ through at qs ++ through at rs
through_append at [] rs = refl
through_append at (q ∷ qs) rs = joined (q.at == at) q.packet (through at (qs ++ rs)) (through at qs) (through at rs) (through_append at qs rs)

abbrev CameIn : {B : Type 0} → ℕ → Part B → Option (Packet B) → Type 0
CameIn n x o = MatchOption o (Unit {0}) (λ p. (a : ℕ) × IsMember n a × Has (through (box_of n a x.me) x.received) p)

came_before : {B : Type 0} (n k : ℕ) (x : Part B) (o : Option (Packet B)) (r : Option (List (Packet B))) → CameIn n x o → CameIn n (look_at n k r x) o
came_before n k x None r h = tt
came_before n k x (Some p) None h = h
came_before n k x (Some p) (Some ps) h =
    let at : ℕ = box_of n h.0 x.me in
    let new : List (Parcel _) = parcels (box_of n k x.me) ps in
    (h.0, h.1, subst (λ qs. Has qs p) (sym (through_append at x.received new)) (has_left (through at new) h.2))

-- an actor whose last events are tried only
module _ {B M K : Type 0} (same : B → B → Bool) (holds : K → Rows B → Type 0) (is_failed : K → Bool) (p : Parted B M K) (s : Seated B) (g : Staged B)
    (tr : Trying same holds is_failed p s g) where
  abbrev me : ℕ
  me = p.node.me

  abbrev n : ℕ
  n = p.node.members

  -- the parts, if this is what the seat knows
  abbrev at_node : Viewed B → Parted B M K
  at_node z = record p { node = record p.node { state = z.node } }

  -- its seat has looked

  module _ (t : Seated B) (from : ℕ) (r : Option (List (Packet B))) (is : t ≡ knows (look_at s.members from r s.part) s) where
    abbrev y : Part B
    y = look_at s.members from r s.part

    seen_still : s.part.seen ≡ y.seen
    seen_still = sym (look_still s.members from r s.part).seen

    seen_there : s.part.seen ≡ t.part.seen
    seen_there = seen_still ∙ ap (λ (z : Seated B). z.part.seen) (sym is)

    acting_looked : acting (parts_before p s) t ≡ acting_before p t
    acting_looked = ap (λ z. acting (at_node z) t) seen_there

    seated_looked : IsSeated same (acting (at_node s.part.seen) (knows y s))
    seated_looked =
        let still = look_still s.members from r s.part in
        seated_at same (parts_before p s) s (knows y s) (tr.sound.serves tr.fresh).committed refl still.me still.seen tr.seated

    pub trying_looked : Trying same holds is_failed p t g
    trying_looked =
        subst (λ z. Trying same holds is_failed p z g) (sym is) (record {
          sound = subst (λ z. IsSound same holds is_failed (at_node z)) seen_still tr.sound;
          seated = subst (λ z. IsSeated same (acting (at_node z) (knows y s))) seen_still seated_looked;
          fresh = tr.fresh;
          tried = subst (λ (z : Viewed B). AreTried same me n g.tried z.node) seen_still tr.tried;
          node = tr.node ∙ ap (λ (z : Viewed B). node_behind same me n g.tried z.node) seen_still;
          ahead = subst (λ (z : Viewed B). IsAhead z.node.rows g.ahead p.node.state.rows) seen_still tr.ahead;
          received = λ e h. came_before s.members from s.part (packet_in e) r (tr.received e h);
          counts = λ some. subst (λ k. k + length g.tried ≤ 2 ^ 62) (sym (look_still s.members from r s.part).events) (tr.counts some);
        })

    -- and what came is left to be treated
    pub looked_here : {S Y : Type 0} (steps : Steps B S Y) (content : M → S) (loaded : List ℕ → Option S) (finds : K → Rows B → Type 0)
        (failures : K → ℕ) (own : List (Event B)) (old : Acting B M K) (v : View B) (start : List Y) (at : List ℕ) (last : ℕ) (says : List Y)
        (noted : List Hearing) → IsPeer me n from
        → Amid same steps content loaded holds finds failures own old v start at last [] (events_in g.tried) (acting_before p s) says noted
        → Amid same steps content loaded holds finds failures own old v start (from ∷ at) from (found_in r) (events_in g.tried) (acting_before p t)
        says noted
    looked_here steps content loaded finds failures own old v start at last says noted peer a =
        subst (λ z. Amid same steps content loaded holds finds failures own old v start (from ∷ at) from (found_in r) (events_in g.tried) z says
        noted) acting_looked
        (looked_into same steps content loaded holds finds failures own old v start at last from (events_in g.tried) (parts_before p s) s says noted a
        tr.seated tr.sound.member peer r t is)

  -- a packet for the node is its event
  pub plans_packet : (q : Packet B) → is_treated p.waiting.me p.waiting.members q p.node.state ≡ true → plans me (Deliver q) p.node.state ≡ true
  plans_packet q on =
      let for_it : is_for p.waiting.me p.waiting.members q ≡ true =
      (and_parts (is_for p.waiting.me p.waiting.members q) (not (is_late q p.node.state)) on).0 in
      let mine : eqb q.addressee p.waiting.me ≡ true = (and_parts (eqb q.addressee p.waiting.me) _ for_it).0 in
      let up : p.node.state.up ≡ true =
      ap (λ (x : NodeState B). x.up) tr.node ∙ up_stays same me n g.tried s.part.seen.node tr.tried (tr.sound.serves tr.fresh).up in
      and_from _ _ (subst (λ k. eqb q.addressee k ≡ true) tr.sound.me mine) (and_from _ _ refl up)

  -- its node is where the events lead that a round came to
  pub node_here : {S Y : Type 0} (steps : Steps B S Y) (content : M → S) (loaded : List ℕ → Option S) (finds : K → Rows B → Type 0) (failures : K → ℕ)
      (old : Acting B M K) (v : View B) (start : List Y) (all : List (Event B)) (looks : List (Look B)) (says : List Y)
      → Heads same steps content loaded holds finds failures old v start all (events_in g.tried) looks (acting_before p s) says
      → p.node.state ≡ (behind same old.node.members all (seen v)).node
  node_here steps content loaded finds failures old v start all looks says h =
      let u = h.under in
      let es : List (Event B) = events_in g.tried in
      let members : n ≡ old.node.members = u.members in
      let moved : seen s ≡ behind same old.node.members h.made (seen v) = u.walks.moved in
      tr.node ∙ sym (node_after same me n g.tried (seen s)) ∙ ap (λ k. (behind same k es (seen s)).node) members
      ∙ ap (λ z. (behind same old.node.members es z).node) moved
      ∙ ap (λ (z : Viewed B). z.node) (sym (behind_append same old.node.members h.made es (seen v)))
      ∙ ap (λ l. (behind same old.node.members l (seen v)).node) (sym h.all_are)

  -- a packet that comes to it in the midst of a round

  module _ {S Y : Type 0} (steps : Steps B S Y) (content : M → S) (loaded : List ℕ → Option S) (finds : K → Rows B → Type 0) (failures : K → ℕ)
      (own : List (Event B)) (old : Acting B M K) (v : View B) (start : List Y) (at : List ℕ) (from : ℕ) (q : Packet B) (left : List (Packet B))
      (says : List Y) (noted : List Hearing) (a : Amid same steps content loaded holds finds failures own old v start at from (q ∷ left)
      (events_in g.tried) (acting_before p s) says noted) where
    abbrev to_treat : Bool
    to_treat = is_treated p.waiting.me p.waiting.members q p.node.state

    abbrev shows : List Hearing
    shows = noted ++ record { from = from; heard = heard_in q.kind } ∷ []

    me_there : p.waiting.me ≡ old.node.me
    me_there = tr.sound.me ∙ a.heads.under.me

    members_there : p.waiting.members ≡ old.node.members
    members_there = tr.sound.members ∙ a.heads.under.members

    node_there : p.node.state ≡ (behind same old.node.members a.all (seen v)).node
    node_there = node_here steps content loaded finds failures old v start a.all a.looks says a.heads

    -- it is passed over
    pub passed_here : to_treat ≡ false
        → Amid same steps content loaded holds finds failures own old v start at from left (events_in g.tried) (acting_before p s) says shows
    passed_here off =
        passed same steps content loaded holds finds failures own old v start at from q left (events_in g.tried) (acting_before p s) says noted a
        p.waiting.me p.waiting.members p.node.state me_there members_there node_there off

    -- what is to be made with it
    abbrev pub to_make : List (Event B)
    to_make = made_of same old.node.members old.node.me (q ∷ left) (behind same old.node.members a.all (seen v)).node

    -- it is what comes next
    pub next_here : to_treat ≡ true → IsNext same steps content loaded holds finds failures (Deliver q) own a.all to_make a.looks old v
    next_here on =
        packet_due same steps content loaded holds finds failures own old v start at from q left (events_in g.tried) (acting_before p s) says noted a
        p.waiting.me p.waiting.members p.node.state me_there members_there node_there on

    -- and it is made, or tried
    pub delivered_here : (tried : List (Event B)) (now : Acting B M K) (more : List Y) → to_treat ≡ true → (held : Option (Event B))
        → MakesNext same steps content loaded holds finds failures (Deliver q) own old v start a.all a.looks tried now more (Ok held)
        → Amid same steps content loaded holds finds failures own old v start at from left tried now more shows
    delivered_here tried now more on held made =
        delivered same steps content loaded holds finds failures own old v start at from q left (events_in g.tried) (acting_before p s) says noted a
        p.waiting.me p.waiting.members p.node.state me_there members_there node_there tried now more on (Ok held) made

-- whatever a round is that is in its midst

module _ {B S Y M K : Type 0} (same : B → B → Bool) (steps : Steps B S Y) (content : M → S) (loaded : List ℕ → Option S)
    (holds : K → Rows B → Type 0) (finds : K → Rows B → Type 0) (failures : K → ℕ) (from : ℕ) where
  -- if packets of a member are left of it at an actor, these are left of it at another
  abbrev pub Leads : List (Packet B) → List (Event B) → Acting B M K → List Y → List Hearing → List (Packet B) → List (Event B) → Acting B M K
      → List Y → List Hearing → Type 0
  Leads ps was_tried first was noted qs tried now says shown =
      (own : List (Event B)) (old : Acting B M K) (v : View B) (start : List Y) (at : List ℕ)
      → Amid same steps content loaded holds finds failures own old v start at from ps was_tried first was noted
      → Amid same steps content loaded holds finds failures own old v start at from qs tried now says shown

  -- one look at the member
  abbrev pub LooksOnce : List (Event B) → Acting B M K → List Y → List Hearing → List (Event B) → Acting B M K → List Y → List Hearing → Type 0
  LooksOnce was_tried first was noted tried now says shown =
      (own : List (Event B)) (old : Acting B M K) (v : View B) (start : List Y) (at : List ℕ) (last : ℕ)
      → Amid same steps content loaded holds finds failures own old v start at last [] was_tried first was noted
      → Amid same steps content loaded holds finds failures own old v start (from ∷ at) from [] tried now says shown

  -- looks at it, if so much of the room for packets is left; there was none if all is
  abbrev pub Looks : ℕ → ℕ → List (Event B) → Acting B M K → List Y → List Hearing → List (Event B) → Acting B M K → List Y → List Hearing → Type 0
  Looks all room was_tried first was noted tried now says shown =
      (own : List (Event B)) (old : Acting B M K) (v : View B) (start : List Y) (at : List ℕ) (last : ℕ)
      → Amid same steps content loaded holds finds failures own old v start at last [] was_tried first was noted
      → (room ≡ all → Amid same steps content loaded holds finds failures own old v start at last [] tried now says shown)
      × (room < all → Amid same steps content loaded holds finds failures own old v start (from ∷ at) from [] tried now says shown)

  pub looks_first : (all : ℕ) (was_tried : List (Event B)) (first : Acting B M K) (was : List Y) (noted : List Hearing)
      → Looks all all was_tried first was noted was_tried first was noted
  looks_first all was_tried first was noted own old v start at last a = (λ is. a, λ less. absurd (omega (arith, less)))

  module _ (all room : ℕ) (was_tried mid_tried tried : List (Event B)) (first mid now : Acting B M K) (was said says : List Y)
      (noted heard shown : List Hearing) (f : Looks all room was_tried first was noted mid_tried mid said heard) where
    -- a look more, from where the looks have come
    pub looks_on : (most : room ≤ all) → LooksOnce mid_tried mid said heard tried now says shown
        → LooksOnce was_tried first was noted tried now says shown
    looks_on most look own old v start at last a =
        let both = f own old v start at last a in
        ⊎_elim (λ e. look own old v start at last (both.0 e))
        (λ d. looked_once same steps content loaded holds finds failures own old v start at from tried now says shown
        (look own old v start (from ∷ at) from (both.1 (⊎_elim (λ l. l) (λ m. absurd (d (omega (arith, most, m)))) (cases_lt room all)))))
        (cases_eq room all)

    pub looks_next : (found : ℕ) → room ≤ all → 0 < room → (found ≡ 0 → ⊥) → LooksOnce mid_tried mid said heard tried now says shown
        → Looks all (room - found) was_tried first was noted tried now says shown
    looks_next found most left some look own old v start at last a = (
      λ is. absurd (some (omega (arith, is, most, left))),
      λ less. looks_on most look own old v start at last a,
    )

  -- a fault in a look ends the round
  pub looks_over : (all room : ℕ) (was_tried mid_tried : List (Event B)) (first mid now : Acting B M K) (was said says : List Y)
      (noted heard : List Hearing) → Looks all room was_tried first was noted mid_tried mid said heard → room ≤ all → (fault : ActorFault Y)
      → ((own : List (Event B)) (old : Acting B M K) (v : View B) (start : List Y) (at : List ℕ) (last : ℕ)
      → Amid same steps content loaded holds finds failures own old v start at last [] mid_tried mid said heard
      → Ended same steps content loaded holds finds failures own old v start now says fault)
      → (own : List (Event B)) (old : Acting B M K) (v : View B) (start : List Y) (at : List ℕ) (last : ℕ)
      → Amid same steps content loaded holds finds failures own old v start at last [] was_tried first was noted
      → Ended same steps content loaded holds finds failures own old v start now says fault
  looks_over all room was_tried mid_tried first mid now was said says noted heard f most fault look own old v start at last a =
      let both = f own old v start at last a in
      ⊎_elim (λ e. look own old v start at last (both.0 e))
      (λ d. look own old v start (from ∷ at) from (both.1 (⊎_elim (λ l. l) (λ m. absurd (d (omega (arith, most, m)))) (cases_lt room all))))
      (cases_eq room all)

  pub looks_last : (all room : ℕ) (was_tried tried : List (Event B)) (first now : Acting B M K) (was says : List Y) (noted shown : List Hearing)
      → 0 < all → room ≡ 0 → Looks all room was_tried first was noted tried now says shown → LooksOnce was_tried first was noted tried now says shown
  looks_last all room was_tried tried first now was says noted shown some none f own old v start at last a =
      (f own old v start at last a).1 (omega (arith, some, none))

-- a peer is one still
pub peer_still : {B M K : Type 0} (p q : Parted B M K) (k : ℕ) → StaysWho p q → IsPeer p.node.me p.node.members k
    → IsPeer q.node.me q.node.members k
peer_still p q k who peer =
    subst (λ (z : ℕ × ℕ). IsPeer z.0 z.1 k) (λ i. (sym who.me i, sym who.members i)) peer
