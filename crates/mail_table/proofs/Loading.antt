-- A load leaves the table as it was.
use Rattle.std.proofs.Common.{◌≡◌, ℕ, ◌==◌, Bool, true, false, refl, subst, List, [], ◌∷◌, set}
use Rattle.std.proofs.lemmas.List.{set-get_or}
use Rattle.std.specs.Prelude.{slice_index, MatchBool}
use mathlib.Core.Option.{some}
use lib.ListN.{get_elem?}
use Rattle.atomic_table.specs.Table.{State}
use Rattle.paxos_packets.specs.Members.{IsMember}
use Rattle.mail_table.proofs.Posting.{loses, rests}
use Rattle.mail_table.specs.declared.part.Part.{Part}
use Rattle.mail_table.specs.Boxes.{Kept, Placed, Sat, sits}
use Rattle.mail_table.specs.Laws.{LoadsLeaveTheTable}
use Rattle.mail_table.specs.Views.{box_of, lost}

module _ {B : Type 0} (same : B → B → Bool) (n most : ℕ) (x : Part B) (id i : ℕ) (s : State (Placed B) (List (Part B)))
    (kept : Kept same n most s) (at : get_elem? s.views id ≡ some (x ∷ [])) where
  leaves : (a b : ℕ) → IsMember n a → IsMember n b → i ≡ box_of n a b → IsMember n x.me → (found : Bool)
      → (w : Sat B) × MatchBool found (w ≡ sits x []) (w ≡ sits (lost i x) [])
      × Kept same n most (record { words = s.words; homes = s.homes; views = set s.views id w.0 })
  leaves a b ma mb is mx true = (
    sits x [],
    refl,
    subst (λ words. Kept same n most (record { words = words; homes = s.homes; views = set s.views id (x ∷ []) })) (set-get_or s.words i 0)
        (rests same n most x id i s kept at a b ma mb is mx),
  )
  leaves a b ma mb is mx false = (
    sits (lost i x) [],
    refl,
    subst (λ words. Kept same n most (record { words = words; homes = s.homes; views = set s.views id (lost i x ∷ []) })) (set-get_or s.words i 0)
        (loses same n most x id i s kept at a b ma mb is mx),
  )

pub loads_leave : {B : Type 0} → LoadsLeaveTheTable B
loads_leave same n most slots wanted id a b x s ma mb mx kept at =
    let i = box_of n a b in leaves same n most x id i s kept at a b ma mb refl mx (slice_index s.words i == wanted)
