-- A node takes a step of the core, or begins anew: its word counts one event more.
use Rattle.std.proofs.Common.{◌≡◌, ℕ, suc, ◌+◌, ◌*◌, ◌%◌, ◌^◌, ◌<◌, Bool, true, refl}
use Rattle.std.proofs.Common.{sym, ap, ◌∙◌, subst, arith, List, [], ◌∷◌, ◌++◌, length, set}
use Rattle.std.proofs.Math.Nat.{mod-eq_of_lt}
use Rattle.std.proofs.lemmas.List.{get_or-set_same, get_or-set_other}
use Rattle.std.specs.Prelude.{slice_index}
use mathlib.Core.Option.{some, none}
use lib.ListN.{get_elem?}
use Rattle.atomic_table.specs.Table.{State, step, keeps, Allows}
use Rattle.cluster_world.proofs.Lists.{has_left}
use Rattle.cluster_world.specs.Has.{Has}
use Rattle.paxos_node.specs.Adopting.{adopted}
use Rattle.paxos_node.specs.Events.{owner, possible, outcome_of}
use Rattle.paxos_node.specs.View.{Viewed, moved}
use Rattle.paxos_node.specs.declared.event.Event.{Event}
use Rattle.paxos_node.specs.declared.event.Event.TheVariants.{Deliver}
use Rattle.paxos_node.specs.declared.outcome.Outcome.{Outcome}
use Rattle.paxos_node.specs.declared.view.Opened.TheVariants.{With}
use Rattle.paxos_packets.specs.Body.{IsEquality}
use Rattle.paxos_packets.specs.Members.{IsMember}
use Rattle.paxos_packets.specs.declared.packet.Packet.{Packet}
use Rattle.paxos_packets.specs.declared.rows.Rows.{Rows}
use Rattle.paxos_planning.specs.Node.{NodeState}
use Rattle.mail_table.proofs.Covering.{covered_advance, covered_renewed}
use Rattle.mail_table.proofs.Going.{Sends, Takes, Owed, goes, mine, box_taken}
use Rattle.mail_table.proofs.Parcels.{box_ahead}
use Rattle.mail_table.proofs.Places.{at_both, apart, word_tells, word_below}
use Rattle.mail_table.proofs.Posting.{Next}
use Rattle.mail_table.specs.Boxes.{Kept, Placed, Posted, Received, Follows, MayMake, Sat, sits, IsAhead, Advances, Renews, word_of}
use Rattle.mail_table.specs.Covered.{Covered, Fed, MayRenew, with_at}
use Rattle.mail_table.specs.Views.{box_of, only, through, moving, renewing, reopened}
use Rattle.mail_table.specs.declared.part.Part.{Part}

pub behind_has : {B : Type 0} (most : ℕ) (posted received : List (Packet B)) (p : Packet B) → IsAhead most posted received → Has received p
    → Has posted p
behind_has most posted received p a h = subst (λ z. Has z p) (sym a.2) (has_left a.0 h)

module _ {B : Type 0} (same : B → B → Bool) (n most : ℕ) (x : Part B) (id i : ℕ) (member : IsMember n x.me) (is : i ≡ word_of n x.me)
    (room : x.events < 2 ^ 62) where
  -- any step that leaves the boxes alone, and after which the views are covered
  counts : (s : State (Placed B) (List (Part B))) (kept : Kept same n most s) → get_elem? s.views id ≡ some (x ∷ []) → (y : Part B)
      → y.me ≡ x.me → ((j : ℕ) → Sends j y x) → ((j : ℕ) → Takes j y x) → y.events ≡ suc x.events
      → Covered same n (with_at (λ k. (kept.part k).seen) x.me y.seen) → (Posted n x.me x → Posted n x.me y)
      → Next same n most s id [] i ((slice_index s.words i + 1) % 2 ^ 64) (λ w. w ≡ sits y [])
  counts s kept at y me sends takes events covered posted =
      let low : i < length s.words = subst (λ z. z < length s.words) (sym is) (subst (λ z. word_of n x.me < z) (sym kept.wide)
      (word_below n x.me member)) in
      let m : ℕ = (slice_index s.words i + 1) % 2 ^ 64 in
      let found : slice_index s.words i ≡ x.events =
      ap (slice_index s.words) is ∙ (kept.counted x.me member ∙ ap (λ (z : Part B). z.events) (mine same n most s kept id x y at me)) in
      let small : slice_index s.words i + 1 < 2 ^ 64 = omega (arith, found, room) in
      let more : m ≡ suc x.events = mod-eq_of_lt small ∙ omega (arith, found) in (
        y ∷ [],
        keeps,
        tt,
        goes same n most s kept id x y at me i m s.homes low
            (record {
              high = refl;
              else_home = λ j d. refl;
              sends = λ j d. sends j;
              takes = λ j d. takes j;
              box = λ c d mc md e. absurd (apart n c d x.me mc md (e ∙ is));
              covered = covered;
              posted = posted (subst (Posted n x.me) (mine same n most s kept id x y at me) (kept.posted x.me member));
              counted = at_both kept.part x.me y (λ k z. IsMember n k → slice_index (set s.words i m) (word_of n k) ≡ z.events)
                  (λ _. subst (λ j. slice_index (set s.words i m) j ≡ y.events) is (get_or-set_same s.words i m 0 low ∙ (more ∙ sym
                  events)))
                  (λ k d mk. get_or-set_other s.words i (word_of n k) m 0 (λ e. d (word_tells n k x.me mk member (e ∙ is))) ∙
                  kept.counted k mk);
            }),
        refl,
      )

  -- a packet that this node received is one that its sender's view has sent
  fed : (s : State (Placed B) (List (Part B))) (kept : Kept same n most s) → get_elem? s.views id ≡ some (x ∷ []) → (e : Event B)
      → Received n x e → Fed n (λ k. (kept.part k).seen) e
  fed s kept at (Deliver p) r =
      let b = box_ahead most s.homes (box_of n r.0 x.me) _ _ _ _ _ (box_taken same n most s kept id x x at refl r.0 (box_of n r.0 x.me) r.1
      member refl) in (
        r.0,
        r.1,
        (kept.posted r.0 r.1 x.me p member (behind_has most (through (box_of n r.0 x.me) (kept.part r.0).posted) (through (box_of n
            r.0 x.me) x.received) p b r.2)).0,
      )
  fed s kept at _ r = tt

  module _ (equal : IsEquality same) where
    moved_covered : (s : State (Placed B) (List (Part B))) (kept : Kept same n most s) → get_elem? s.views id ≡ some (x ∷ [])
        → (e : Event B)
        (q : Rows B) → x.seen.opened ≡ With q → owner e ≡ x.me → possible e x.seen.node ≡ true → Received n x e
        → Covered same n (with_at (λ k. (kept.part k).seen) x.me
        (moved (outcome_of same n e x.seen.node).node (outcome_of same n e x.seen.node).packets x.seen))
    moved_covered s kept at e q opened own may received =
        let seen : ℕ → Viewed B = λ k. (kept.part k).seen in
        let P : Viewed B → Type 0 = λ z. z.opened ≡ With q → possible e z.node ≡ true
        → Covered same n (with_at seen x.me (moved (outcome_of same n e z.node).node (outcome_of same n e z.node).packets z)) in
        subst P (ap (λ (z : Part B). z.seen) (mine same n most s kept id x x at refl))
        (λ o c. covered_advance same equal n seen x.me e q kept.covered member o own c (fed s kept at e received)) opened may

    renewed_covered : (s : State (Placed B) (List (Part B))) (kept : Kept same n most s) → get_elem? s.views id ≡ some (x ∷ [])
        → (r : Rows B) → MayRenew x.seen.opened x.seen.node r
        → Covered same n (with_at (λ k. (kept.part k).seen) x.me (reopened x.me r x.seen))
    renewed_covered s kept at r may =
        let seen : ℕ → Viewed B = λ k. (kept.part k).seen in
        let P : Viewed B → Type 0 = λ z. MayRenew z.opened z.node r → Covered same n (with_at seen x.me (reopened x.me r z)) in
        subst P (ap (λ (z : Part B). z.seen) (mine same n most s kept id x x at refl)) (λ m. covered_renewed same equal n seen x.me r
        kept.covered member m) may

    advances_by : (slots : ℕ) (e : Event B) (node : NodeState B) (packets : List (Packet B)) → MayMake n x e
        → node ≡ (outcome_of same n e x.seen.node).node → packets ≡ (outcome_of same n e x.seen.node).packets
        → Allows (Kept same n most) slots id (sits x []) i (λ m. (m + 1) % 2 ^ 64) (Advances node packets (step slots i 1 0 none) (sits x []))
    advances_by slots e node packets f node_is packets_are s kept len at fits =
        counts s kept at (moving node packets x) refl (λ j. record { doing = refl; posted = refl }) (λ j. record {
          doing = refl;
          received = refl;
        }) refl
        (subst (λ (z : NodeState B × List (Packet B)). Covered same n (with_at (λ k. (kept.part k).seen) x.me (moved z.0 z.1 x.seen)))
        (λ j. (sym node_is j, sym packets_are j)) (moved_covered s kept at e f.rows f.opened f.own f.may f.received))
        (λ old k p mk h. let z = old k p mk h in (has_left packets z.0, z.1))

    advances : (slots : ℕ) (o : Outcome B) (node : NodeState B) (packets : List (Packet B)) → Follows same n x o
        → node ≡ adopted x.me n o x.seen.node → packets ≡ o.packets
        → Allows (Kept same n most) slots id (sits x []) i (λ m. (m + 1) % 2 ^ 64) (Advances node packets (step slots i 1 0 none) (sits x []))
    advances slots o node packets f node_is packets_are =
        advances_by slots f.event node packets
        (record { rows = f.rows; opened = f.opened; own = f.own; may = f.may; received = f.received })
        (node_is ∙ (ap (λ k. adopted k n o x.seen.node) (sym f.own) ∙ f.is.node)) (packets_are ∙ f.is.packets)

    renews : (slots : ℕ) (r : Rows B) → MayRenew x.seen.opened x.seen.node r
        → Allows (Kept same n most) slots id (sits x []) i (λ m. (m + 1) % 2 ^ 64) (Renews r (step slots i 1 0 none) (sits x []))
    renews slots r may s kept len at fits =
        counts s kept at (renewing r x) refl (λ j. record { doing = refl; posted = refl }) (λ j. record {
          doing = refl;
          received = refl;
        }) refl
        (renewed_covered s kept at r may) (λ old. old)

-- by what is known of a seat
module _ {B : Type 0} (same : B → B → Bool) (equal : IsEquality same) (n most slots id i : ℕ) where
  pub advances_at : (me : Sat B) (o : Outcome B) (node : NodeState B) (packets : List (Packet B)) → me ≡ sits (only me.0) []
      → IsMember n (only me.0).me → i ≡ word_of n (only me.0).me → (only me.0).events < 2 ^ 62 → Follows same n (only me.0) o
      → node ≡ adopted (only me.0).me n o (only me.0).seen.node → packets ≡ o.packets
      → Allows (Kept same n most) slots id me i (λ m. (m + 1) % 2 ^ 64) (Advances node packets (step slots i 1 0 none) me)
  advances_at me o node packets e member is room f node_is packets_are =
      subst (λ z. Allows (Kept same n most) slots id z i (λ m. (m + 1) % 2 ^ 64) (Advances node packets (step slots i 1 0 none) z)) (sym e)
      (advances same n most (only me.0) id i member is room equal slots o node packets f node_is packets_are)

  pub advances_by_at : (me : Sat B) (e : Event B) (node : NodeState B) (packets : List (Packet B)) → me ≡ sits (only me.0) []
      → IsMember n (only me.0).me → i ≡ word_of n (only me.0).me → (only me.0).events < 2 ^ 62 → MayMake n (only me.0) e
      → node ≡ (outcome_of same n e (only me.0).seen.node).node → packets ≡ (outcome_of same n e (only me.0).seen.node).packets
      → Allows (Kept same n most) slots id me i (λ m. (m + 1) % 2 ^ 64) (Advances node packets (step slots i 1 0 none) me)
  advances_by_at me e node packets at member is room f node_is packets_are =
      subst (λ z. Allows (Kept same n most) slots id z i (λ m. (m + 1) % 2 ^ 64) (Advances node packets (step slots i 1 0 none) z)) (sym at)
      (advances_by same n most (only me.0) id i member is room equal slots e node packets f node_is packets_are)

  pub renews_at : (me : Sat B) (r : Rows B) → me ≡ sits (only me.0) [] → IsMember n (only me.0).me → i ≡ word_of n (only me.0).me
      → (only me.0).events < 2 ^ 62 → MayRenew (only me.0).seen.opened (only me.0).seen.node r
      → Allows (Kept same n most) slots id me i (λ m. (m + 1) % 2 ^ 64) (Renews r (step slots i 1 0 none) me)
  renews_at me r e member is room may =
      subst (λ z. Allows (Kept same n most) slots id z i (λ m. (m + 1) % 2 ^ 64) (Renews r (step slots i 1 0 none) z)) (sym e)
      (renews same n most (only me.0) id i member is room equal slots r may)
