-- Batches of one packet.
use Rattle.std.proofs.Common.{◌≡◌, ◌≤◌, ◌∙◌, ℕ, List, [], ◌∷◌, length, ap, arith, subst, sym}
use Rattle.cluster_world.proofs.Lists.{has_one}
use Rattle.cluster_world.specs.Has.{Has, here}
use Rattle.paxos_packets.specs.declared.packet.Packet.{Packet}
use Rattle.mail_table.specs.Boxes.{AreTo}
use Rattle.mail_table.specs.Seats.{Seated, knows}
use Rattle.mail_table.specs.Views.{posting, posting_all, receiving, receiving_all}

module _ {B : Type 0} where
  -- what was sent with one packet was sent with all of its batch
  pub one_sent : (sent batch : List (Packet B)) (p : Packet B) → batch ≡ p ∷ [] → Has sent p → (q : Packet B) → Has batch q → Has sent q
  one_sent sent batch p is has q h = subst (λ x. Has sent x) (has_one (subst (λ ps. Has ps q) is h)) has

  pub one_to : (k : ℕ) (batch : List (Packet B)) (p : Packet B) → batch ≡ p ∷ [] → p.addressee ≡ k → AreTo k batch
  one_to k batch p is to q h = subst (λ x. x.addressee ≡ k) (has_one (subst (λ ps. Has ps q) is h)) to

  pub to_one : (k : ℕ) (batch : List (Packet B)) (p : Packet B) → batch ≡ p ∷ [] → AreTo k batch → p.addressee ≡ k
  to_one k batch p is to = to p (subst (λ ps. Has ps p) (sym is) here)

  -- one is at most one
  pub one_short : (batch given : List (Packet B)) (p : Packet B) → batch ≡ given → given ≡ p ∷ [] → length batch ≤ 1
  one_short batch given p same is = let e = ap length same ∙ ap length is in omega (arith, e)

  abbrev first_or : Packet B → List (Packet B) → Packet B
  first_or p [] = p
  first_or p (q ∷ qs) = q

  pub same_one : (batch given : List (Packet B)) (p q : Packet B) → batch ≡ given → given ≡ p ∷ [] → batch ≡ q ∷ [] → q ≡ p
  same_one batch given p q same is out = ap (first_or p) (sym out ∙ same ∙ is)

  pub posted_one : (at : ℕ) (batch : List (Packet B)) (p : Packet B) (new old : Seated B) → batch ≡ p ∷ []
      → new ≡ knows (posting_all at batch old.part) old → new ≡ knows (posting at p old.part) old
  posted_one at batch p new old is went = subst (λ ps. new ≡ knows (posting_all at ps old.part) old) is went

  pub received_one : (at : ℕ) (batch : List (Packet B)) (p : Packet B) (new old : Seated B) → batch ≡ p ∷ []
      → new ≡ knows (receiving_all at batch old.part) old → new ≡ knows (receiving at p old.part) old
  received_one at batch p new old is went = subst (λ ps. new ≡ knows (receiving_all at ps old.part) old) is went
