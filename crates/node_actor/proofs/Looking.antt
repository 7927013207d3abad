-- What a look into a member's box makes of what a seat knows, and of the packets that came in the looks before it.
use Rattle.std.proofs.Common.{◌≡◌, ℕ, Bool, true, false, Option, Some, None, List, [], ◌∷◌, ◌++◌, ap, sym, subst, ◌∙◌, refl}
use Rattle.std.specs.Prelude.{MatchOption, if◌then◌else◌, map, ◌==◌}
use Rattle.std.proofs.lemmas.List.{append-nil, append_assoc}
use Rattle.cluster_world.specs.Has.{Has, here}
use Rattle.cluster_world.proofs.Lists.{has_left, has_right}
use Rattle.paxos_packets.specs.Members.{IsMember}
use Rattle.paxos_packets.specs.declared.packet.Packet.{Packet}
use Rattle.paxos_node.specs.declared.event.Event.{Event}
use Rattle.paxos_node.specs.declared.event.Event.TheVariants.{Deliver}
use Rattle.paxos_node.specs.Events.{outcome_of}
use Rattle.paxos_node.specs.View.{Viewed}
use Rattle.mail_table.specs.Boxes.{Received}
use Rattle.mail_table.specs.Seats.{Seated, knows}
use Rattle.mail_table.specs.Views.{box_of, lost, parcels, receiving_all, through}
use Rattle.mail_table.specs.declared.part.Parcel.{Parcel}
use Rattle.mail_table.specs.declared.part.Part.{Part}
use Rattle.mail_table.specs.declared.part.Try.{Try}
use Rattle.mail_table.proofs.Parcels.{through_more}
use Rattle.node_actor.specs.EventLists.{behind}
use Rattle.node_actor.specs.Heard.{heard_in}
use Rattle.node_actor.specs.Rounds.{Look, came, found_in, hearings, is_treated, look_at, looked, made_of, tries_from}
use Rattle.node_actor.specs.Turns.{StaysAt, tries_at}
use Rattle.node_actor.specs.Views.{moved_by}
use Rattle.node_actor.specs.declared.hearing.Hearing.{Hearing}
use Rattle.node_actor.proofs.MadeEvents.{makes_of, passes_of}
use Rattle.node_actor.proofs.Tries.{tries_else}

-- what a look leaves as it was

joined : (b : Bool) (x : Bool) (ys zs ws : List Bool) → ys ≡ zs ++ ws → (if b then x ∷ ys else ys) ≡ (if b then x ∷ zs else zs) ++ ws
joined true x ys zs ws e = ap (λ l. x ∷ l) e
joined false x ys zs ws e = e

tries_append : (at : ℕ) (ts us : List Try) → tries_at at (ts ++ us) ≡ tries_at at ts ++ tries_at at us
tries_append at [] us = refl
tries_append at (t ∷ ts) us = joined (t.at == at) t.won (tries_at at (ts ++ us)) (tries_at at ts) (tries_at at us) (tries_append at ts us)

module _ {B : Type 0} (n k : ℕ) where
  -- of what the seat knows, the packets that came and the tries alone are others, and of the tries those at the box alone
  pub record Still (x y : Part B) : Type 0 where
    pub me : y.me ≡ x.me
    pub seen : y.seen ≡ x.seen
    pub events : y.events ≡ x.events
    pub posted : y.posted ≡ x.posted
    pub tried : (at : ℕ) → (at ≡ box_of n k x.me → ⊥) → tries_at at y.tried ≡ tries_at at x.tried

  pub look_still : (r : Option (List (Packet B))) (x : Part B) → Still x (look_at n k r x)
  look_still None x =
      record { me = refl; seen = refl; events = refl; posted = refl; tried = λ at d. tries_else at (box_of n k x.me) false x.tried d }
  look_still (Some ps) x =
      record { me = refl; seen = refl; events = refl; posted = refl; tried = λ at d. tries_else at (box_of n k x.me) true x.tried d }

  -- a look into two boxes that agree

  pub look_received : (r : Option (List (Packet B))) (x y : Part B) → x.me ≡ y.me → x.received ≡ y.received
      → (look_at n k r x).received ≡ (look_at n k r y).received
  look_received None x y me are = are
  look_received (Some ps) x y me are = λ i. are i ++ parcels (box_of n k (me i)) ps

  pub look_tries : (r : Option (List (Packet B))) (j : ℕ) (x y : Part B) → x.me ≡ y.me → tries_from n x j ≡ tries_from n y j
      → tries_from n (look_at n k r x) j ≡ tries_from n (look_at n k r y) j
  look_tries None j x y me are =
      tries_append (box_of n j x.me) x.tried (record { at = box_of n k x.me; won = false } ∷ [])
      ∙ (λ i. are i ++ tries_at (box_of n j (me i)) (record { at = box_of n k (me i); won = false } ∷ []))
      ∙ sym (tries_append (box_of n j y.me) y.tried (record { at = box_of n k y.me; won = false } ∷ []))
  look_tries (Some ps) j x y me are =
      tries_append (box_of n j x.me) x.tried (record { at = box_of n k x.me; won = true } ∷ [])
      ∙ (λ i. are i ++ tries_at (box_of n j (me i)) (record { at = box_of n k (me i); won = true } ∷ []))
      ∙ sym (tries_append (box_of n j y.me) y.tried (record { at = box_of n k y.me; won = true } ∷ []))

  -- the seat after a look, by what it found
  pub look_is : (m : ℕ) (s t : Seated B) (r : Option (List (Packet B))) → m ≡ n
      → MatchOption r (t ≡ knows (lost (box_of m k s.part.me) s.part) s) (λ b. t ≡ knows (receiving_all (box_of m k s.part.me) b s.part) s)
      → t ≡ knows (look_at n k r s.part) s
  look_is m s t None same h = subst (λ i. t ≡ knows (lost (box_of i k s.part.me) s.part) s) same h
  look_is m s t (Some b) same h = subst (λ i. t ≡ knows (receiving_all (box_of i k s.part.me) b s.part) s) same h

module _ {B : Type 0} where
  -- a look more

  pub looked_more : (n : ℕ) (ls : List (Look B)) (l : Look B) (x : Part B) → looked n (ls ++ l ∷ []) x ≡ look_at n l.0 l.1 (looked n ls x)
  looked_more n [] l x = refl
  looked_more n (m ∷ ls) l x = looked_more n ls l (look_at n m.0 m.1 x)

  pub looked_me : (n : ℕ) (ls : List (Look B)) (x : Part B) → (looked n ls x).me ≡ x.me
  looked_me n [] x = refl
  looked_me n (l ∷ ls) x = looked_me n ls (look_at n l.0 l.1 x) ∙ (look_still n l.0 l.1 x).me

  pub came_more : (ls : List (Look B)) (l : Look B) → came (ls ++ l ∷ []) ≡ came ls ++ found_in l.1
  came_more [] l = append-nil (found_in l.1)
  came_more (m ∷ ls) l = ap (λ ps. found_in m.1 ++ ps) (came_more ls l) ∙ sym (append_assoc (found_in m.1) (came ls) (found_in l.1))

  abbrev pub shown_in : ℕ → List (Packet B) → List Hearing
  shown_in from ps = map (λ p. record { from = from; heard = heard_in p.kind }) ps

  pub hearings_more : (ls : List (Look B)) (l : Look B) → hearings (ls ++ l ∷ []) ≡ hearings ls ++ shown_in l.0 (found_in l.1)
  hearings_more [] l = append-nil (shown_in l.0 (found_in l.1))
  hearings_more (m ∷ ls) l =
      ap (λ hs. shown_in m.0 (found_in m.1) ++ hs) (hearings_more ls l)
      ∙ sym (append_assoc (shown_in m.0 (found_in m.1)) (hearings ls) (shown_in l.0 (found_in l.1)))

  -- at which members

  members_more : (ls : List (Look B)) (l : Look B) → map (λ (z : Look B). z.0) (ls ++ l ∷ []) ≡ map (λ (z : Look B). z.0) ls ++ l.0 ∷ []
  members_more [] l = refl
  members_more (m ∷ ls) l = ap (λ ks. m.0 ∷ ks) (members_more ls l)

  pub looked_at : (ls : List (Look B)) (l : Look B) → Has (map (λ (z : Look B). z.0) (ls ++ l ∷ [])) l.0
  looked_at ls l = subst (λ ks. Has ks l.0) (sym (members_more ls l)) (has_right (map (λ (z : Look B). z.0) ls) here)

  pub looked_before : (ls : List (Look B)) (l : Look B) (k : ℕ) → Has (map (λ (z : Look B). z.0) ls) k
      → Has (map (λ (z : Look B). z.0) (ls ++ l ∷ [])) k
  looked_before ls l k h = subst (λ ks. Has ks k) (sym (members_more ls l)) (has_left (l.0 ∷ []) h)

  -- the packets of a batch came through the box

  pub batch_came : (s t : Seated B) (k : ℕ) (ps : List (Packet B)) → IsMember s.members k → t ≡ knows (look_at s.members k (Some ps) s.part) s
      → (p : Packet B) → Has ps p → Received t.members t.part (Deliver p)
  batch_came s t k ps member is p h =
      subst (λ (z : Seated B). Received z.members z.part (Deliver p)) (sym is) (
        k,
        member,
        subst (λ qs. Has qs p) (sym (through_more (box_of s.members k s.part.me) s.part.received ps))
            (has_right (through (box_of s.members k s.part.me) s.part.received) h),
      )

  pub came_still : (s t : Seated B) → StaysAt s t → (p : Packet B) → Received s.members s.part (Deliver p) → Received t.members t.part (Deliver p)
  came_still s t stays p h =
      let members : s.members ≡ t.members = ap (λ (z : Seated B). z.members) (sym stays.table) in
      let me : s.part.me ≡ t.part.me = sym stays.me in
      let received : s.part.received ≡ t.part.received = sym stays.received in
      subst (λ (z : ℕ × ℕ × List (Parcel B)). (a : ℕ) × IsMember z.0 a × Has (through (box_of z.0 a z.1) z.2) p)
      (λ i. (members i, me i, received i)) h

module _ {B : Type 0} (same : B → B → Bool) (n : ℕ) where
  -- events after others
  pub behind_append : (xs ys : List (Event B)) (s : Viewed B) → behind same n (xs ++ ys) s ≡ behind same n ys (behind same n xs s)
  behind_append [] ys s = refl
  behind_append (x ∷ xs) ys s = behind_append xs ys (moved_by same n (Some x) s)

  -- what is made of packets that came after others
  pub made_append : (me : ℕ) (ps qs : List (Packet B)) (s : Viewed B)
      → made_of same n me (ps ++ qs) s.node
      ≡ made_of same n me ps s.node ++ made_of same n me qs (behind same n (made_of same n me ps s.node) s).node
  made_append me [] qs s = refl
  made_append me (p ∷ ps) qs s = by_test (is_treated me n p s.node) refl (made_append me ps qs s)
      (made_append me ps qs (moved_by same n (Some (Deliver p)) s))
    where
      by_test : (b : Bool) → is_treated me n p s.node ≡ b
          → made_of same n me (ps ++ qs) s.node
          ≡ made_of same n me ps s.node ++ made_of same n me qs (behind same n (made_of same n me ps s.node) s).node
          → made_of same n me (ps ++ qs) (outcome_of same n (Deliver p) s.node).node
          ≡ made_of same n me ps (outcome_of same n (Deliver p) s.node).node
          ++ made_of same n me qs (behind same n (made_of same n me ps (outcome_of same n (Deliver p) s.node).node)
          (moved_by same n (Some (Deliver p)) s)).node
          → made_of same n me (p ∷ (ps ++ qs)) s.node
          ≡ made_of same n me (p ∷ ps) s.node ++ made_of same n me qs (behind same n (made_of same n me (p ∷ ps) s.node) s).node
      by_test true is passed treated =
          makes_of same n me p (ps ++ qs) s.node is ∙ ap (λ es. Deliver p ∷ es) treated
          ∙ ap (λ es. es ++ made_of same n me qs (behind same n es s).node) (sym (makes_of same n me p ps s.node is))
      by_test false is passed treated =
          passes_of same n me p (ps ++ qs) s.node is ∙ passed
          ∙ ap (λ es. es ++ made_of same n me qs (behind same n es s).node) (sym (passes_of same n me p ps s.node is))
