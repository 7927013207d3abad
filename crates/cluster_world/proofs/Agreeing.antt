-- Agreement, log agreement and no disagreement, from the invariant.
use Rattle.std.proofs.Common.{◌≡◌, ◌⊎◌, inl, inr, ⊎_elim, ℕ, zero, suc, ◌≤◌, refl, sym, subst, arith, List, [], ◌∷◌, ◌++◌, Bool, Some}
use Rattle.std.specs.Prelude.{slice_get}
use Rattle.cluster_world.proofs.Invariant.{IsChosen, promises}
use Rattle.cluster_world.proofs.OneChosen.{chosen_one}
use Rattle.cluster_world.proofs.EveryWorld.{event_goes, world_ok, whole_logged, all_stay, play_on}
use Rattle.cluster_world.specs.Has.{Has}
use Rattle.paxos_packets.specs.declared.entry.Entry.{Entry}
use Rattle.paxos_packets.specs.declared.packet.Packet.{Packet}
use Rattle.paxos_node.specs.declared.event.Event.{Event}
use Rattle.cluster_world.specs.World.{World, node_at, first_world, played, log_of}
use Rattle.cluster_world.specs.Chosen.{Chosen}
use Rattle.cluster_world.specs.Laws.{LearnedIsChosen, ChosenIsOne, ToldIsChosen, LearnedIsOne, NeverDisagrees, LogIsChosen, IsPrefixOf}
use Rattle.cluster_world.specs.Laws.{LogsArePrefixes}
use Rattle.paxos_packets.specs.Body.{IsEquality}

pub chosen_out : {B : Type 0} (members : ℕ) (sent : List (Packet B)) (slot : ℕ) (e : Entry B) → IsChosen members sent slot e
    → Chosen members sent slot e
chosen_out members sent slot e c = (c.ballot, c.quorum, c.most, λ k m q. let s = c.voted k m q in (s.to, s.is))

pub chosen_in : {B : Type 0} (members : ℕ) (sent : List (Packet B)) (slot : ℕ) (e : Entry B) → Chosen members sent slot e
    → IsChosen members sent slot e
chosen_in members sent slot e c =
    record { ballot = c.0; quorum = c.1; most = c.2; voted = λ k m q. let s = c.3 k m q in record { to = s.0; is = s.1 } }

-- lists that agree wherever both have an element
pub prefixes : {A : Type 0} (xs ys : List A) → ((i : ℕ) (d e : A) → slice_get xs i ≡ Some d → slice_get ys i ≡ Some e → d ≡ e)
    → IsPrefixOf xs ys ⊎ IsPrefixOf ys xs
prefixes [] ys h = inl (ys, refl)
prefixes (x ∷ xs) [] h = inr (x ∷ xs, refl)
prefixes {A} (x ∷ xs) (y ∷ ys) h =
    ⊎_elim
    (λ (p : IsPrefixOf xs ys). inl (p.0, λ i. h zero x y refl refl i ∷ p.1 i))
    (λ (p : IsPrefixOf ys xs). inr (p.0, λ i. sym (h zero x y refl refl) i ∷ p.1 i))
    (prefixes xs ys (λ i d e. h (suc i) d e))

module _ {B : Type 0} (same : B → B → Bool) (equal : IsEquality same) where
  pub learned_is_chosen : LearnedIsChosen B same
  learned_is_chosen members l events k f h =
      let w = played same members events in
      chosen_out members w.sent f.slot f.entry (((world_ok same equal members (omega arith) events).inv.nodes k).learned f h)

  -- of one world
  pub one : (members : ℕ) → 3 ≤ members → (events : List (Event B)) (slot : ℕ) (d e : Entry B)
      → IsChosen members (played same members events).sent slot d → IsChosen members (played same members events).sent slot e → d ≡ e
  one members l events slot d e a b =
      let w = played same members events in
      chosen_one members (promises (node_at w.nodes)) w.sent (world_ok same equal members (omega arith) events).inv.packets slot d e a b

  pub chosen_is_one : ChosenIsOne B same
  chosen_is_one members l events slot d e a b =
      let w = played same members events in
      one members l events slot d e (chosen_in members w.sent slot d a) (chosen_in members w.sent slot e b)

  pub told_is_chosen : ToldIsChosen B same
  told_is_chosen members l events k slot e s =
      let w = played same members events in
      chosen_out members w.sent slot e
      ((world_ok same equal members (omega arith) events).inv.packets.learned slot e
      (record { by = k; is = record { to = s.0; is = s.1 } }))

  pub log_is_chosen : LogIsChosen B same
  log_is_chosen members l events k i e h =
      let w = played same members events in
      chosen_out members w.sent (suc i) e ((whole_logged same equal members (omega arith) w k (world_ok same equal members (omega arith) events)).at i e h)

  -- what was chosen stays chosen
  pub chosen_on : (members : ℕ) (early later : List (Event B)) (slot : ℕ) (e : Entry B)
      → IsChosen members (played same members early).sent slot e → IsChosen members (played same members (early ++ later)).sent slot e
  chosen_on members early later slot e c =
      record {
        ballot = c.ballot;
        quorum = c.quorum;
        most = c.most;
        voted = λ n m q. let s = c.voted n m q in record { to = s.to; is = there _ s.is };
      }
    where
      there : (p : Packet B) → Has (played same members early).sent p → Has (played same members (early ++ later)).sent p
      there p h =
          subst (λ (z : World B). Has z.sent p) (sym (play_on same members early later (first_world members)))
          (all_stay same members later (played same members early) p h)

  pub learned_is_one : LearnedIsOne B same
  learned_is_one members l early later j k f g a b s =
      let many : 2 ≤ members = omega arith in
      let w = world_ok same equal members many early in
      let v = world_ok same equal members many (early ++ later) in
      one members l (early ++ later) g.slot f.entry g.entry
      (subst (λ z. IsChosen members (played same members (early ++ later)).sent z f.entry) s
      (chosen_on members early later f.slot f.entry ((w.inv.nodes j).learned f a)))
      ((v.inv.nodes k).learned g b)

  pub logs_are_prefixes : LogsArePrefixes B same
  logs_are_prefixes members l early later j k =
      prefixes (log_of (played same members early) j) (log_of (played same members (early ++ later)) k) agree
    where
      many : 2 ≤ members
      many = omega arith

      agree : (i : ℕ) (d e : Entry B) → slice_get (log_of (played same members early) j) i ≡ Some d
          → slice_get (log_of (played same members (early ++ later)) k) i ≡ Some e → d ≡ e
      agree i d e a b =
          one members l (early ++ later) (suc i) d e
          (chosen_on members early later (suc i) d ((whole_logged same equal members many (played same members early) j (world_ok same equal members many early)).at i d a))
          ((whole_logged same equal members many (played same members (early ++ later)) k (world_ok same equal members many (early ++ later))).at i e b)

  pub never_disagrees : NeverDisagrees B same
  never_disagrees members l events e s p =
      let many : 2 ≤ members = omega arith in
      (event_goes same equal members many (played same members events) e (world_ok same equal members many events) s p).goes.agrees refl
