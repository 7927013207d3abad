-- The seats that a table is founded with are its own, and no node was opened at them.
use Rattle.std.proofs.Common.{◌≡◌, ℕ, zero, suc, refl, sym, subst, arith, List, [], ◌∷◌}
use Rattle.std.proofs.lemmas.List.Elements.{All-append}
use Rattle.std.specs.Prelude.{All}
use Rattle.paxos_node.specs.declared.view.Opened.TheVariants.{Never}
use Rattle.mail_table.specs.Seats.{Mailed, Owns, Seated, new_seats}

all_one : {A : Type 0} (P : A → Type 0) (x : A) → P x → All P (x ∷ [])
all_one P x p zero d l = p
all_one P x p (suc k) d l = absurd (omega arith)

pub seats_fresh : {B : Type 0} (m : Mailed) (k : ℕ) (seats : List (Seated B)) → seats ≡ new_seats m k
    → All (λ (s : Seated B). Owns m s × (s.part.seen.opened ≡ Never)) seats
seats_fresh {B} m k seats e = subst (All (λ (s : Seated B). Owns m s × (s.part.seen.opened ≡ Never))) (sym e) (all k)
  where
    all : (k : ℕ) → All (λ (s : Seated B). Owns m s × (s.part.seen.opened ≡ Never)) (new_seats {B = B} m k)
    all zero = λ i d l. absurd (omega arith)
    all (suc k) =
        All-append (λ (s : Seated B). Owns m s × (s.part.seen.opened ≡ Never)) (new_seats m k) _ (all k)
        (all_one (λ (s : Seated B). Owns m s × (s.part.seen.opened ≡ Never)) _ ((refl, refl, refl), refl))
