-- A Lost in a log comes from a suspicion, and was pending after it at the node that suspected.
use Rattle.std.proofs.Common.{◌≡◌, ⊎_elim, ℕ, suc, ◌<◌, ◌≤◌, Bool, true, false, eqb, refl, sym, ap, ◌∙◌, subst, arith, List, [], ◌∷◌, ◌++◌}
use Rattle.std.proofs.Common.{append_assoc, Option, Some, None}
use Rattle.std.specs.Prelude.{option_and_then, if◌then◌else◌}
use Rattle.std.proofs.lemmas.List.{append-nil}
use Rattle.std.proofs.lemmas.Bool.{cond_both, cond-true, cases_lt, eq-eqb, eqb-true}
use Rattle.cluster_world.proofs.Lists.{has_nil, has_one, has_first, has_cases, has_right}
use Rattle.cluster_world.proofs.EveryWorld.{WorldOk, world_ok, start_good, Within, within, node_same, play_on}
use Rattle.cluster_world.proofs.Taking.{May, by_next, nodes_length, log_was_made}
use Rattle.cluster_world.proofs.Booting.{MadeLost, made_lost, boot_was_had, first_no_lost}
use Rattle.cluster_world.proofs.Heads.{stands}
use Rattle.cluster_world.proofs.AtOnce.{AtRest, settle_rest, calm_rest, Agrees}
use Rattle.cluster_world.proofs.EventsAtOnce.{ends_pending, all_rest}
use Rattle.cluster_world.specs.Has.{Has, here, there}
use Rattle.cluster_world.specs.AtOnce.{push as push_at_once}
use Rattle.paxos_packets.specs.declared.entry.Entry.{Entry}
use Rattle.paxos_packets.specs.declared.entry.Entry.TheVariants.{Noop, Boot, Lost, Item}
use Rattle.paxos_node.specs.declared.event.Event.{Event}
use Rattle.paxos_node.specs.declared.event.Event.TheVariants.{Suspect}
use Rattle.paxos_planning.specs.Node.{NodeState, Plan}
use Rattle.paxos_planning.specs.Plan.{with_pending, begun}
use Rattle.paxos_node.specs.Applying.{standing_of, settle}
use Rattle.paxos_planning.specs.Proposals.{push}
use Rattle.paxos_node.specs.Events.{has_room, new_lost, new_lost_of, suspected, suspected_by, owner, outcome_of, made_by}
use Rattle.replica_machine.specs.Effects.{boots_of, greatest, lost_since, live_boot}
use Rattle.replica_machine.specs.Roll.{standing, live_in}
use Rattle.replica_machine.proofs.Places.{live_boot_is}
use Rattle.cluster_world.specs.World.{World, node_at, first_world, done, next, played, log_of}
use Rattle.cluster_world.specs.Origins.{Suspected, LostsWereSuspected}
use Rattle.paxos_packets.specs.Body.{IsEquality}

pub suspected_is : {B : Type 0} (x : NodeState B) (o : Option (Entry B)) (l : Entry B) → Has (suspected_by o x) l
    → (o ≡ Some l) × (has_room x ≡ true)
suspected_is x None l h = absurd (has_nil h)
suspected_is x (Some k) l h =
    cond_both (has_room x) (k ∷ []) [] (λ z. Has z l → (Some k ≡ Some l) × (has_room x ≡ true))
    (λ t g. (ap Some (has_one g), t)) (λ t g. absurd (has_nil g)) h

module _ {B : Type 0} (same : B → B → Bool) where
  pub not_itself : (by n : ℕ) (x : NodeState B) (l : Entry B) → new_lost same by n x ≡ Some l → by ≡ n → ⊥
  not_itself by n x l h e = never (sym nothing ∙ h)
    where
      nothing : new_lost same by n x ≡ None
      nothing =
          cond-true (eqb n by) None (new_lost_of same n (live_in (standing_of x n)) x.pending) (eq-eqb n by (sym e))

      never : ◌≡◌ {A = Option (Entry B)} None (Some l) → ⊥
      never e = cc

  module _ (equal : IsEquality same) (members : ℕ) (seven : members ≤ 7) where
    -- after the suspicion it is pending
    pends : 2 ≤ members → (w : World B) (by n : ℕ) (l : Entry B) → WorldOk members w → AtRest (node_at w.nodes by)
        → new_lost same by n (node_at w.nodes by) ≡ Some l → has_room (node_at w.nodes by) ≡ true
        → Has (outcome_of same members (Suspect by n) (node_at w.nodes by)).node.pending l
    pends many w by n l ok rest is room = subst (λ (z : Plan B). Has z.node.pending l) (sym goes) there
      where
        x : NodeState B
        x = node_at w.nodes by

        u : Plan B
        u = record (begun x) { node = with_pending (x.pending ++ l ∷ []) x }

        a : Agrees u (push_at_once same members by u) (push same members by u)
        a =
            let g = start_good same equal members many w by ok in
            ends_pending same equal members many (node_at w.nodes) by w.sent (begun x) (x.pending ++ l ∷ []) x.taken g.inv g.free rest

        goes : outcome_of same members (Suspect by n) x ≡ push same members by u
        goes =
            ap (λ o. settle by (suspected same members by o (begun x))) is
            ∙ ap (λ z. settle by z) (cond-true (has_room x) (push same members by u) (begun x) room)
            ∙ settle_rest by (push same members by u) (calm_rest a.calm rest)

        there : Has (push same members by u).node.pending l
        there = subst (λ es. Has es l) (sym a.calm.pending) (has_right x.pending here)

    -- a suspicion in the midst of fewer than two members finds no live boot of another
    no_boots : (n : ℕ) (log : List (Entry B)) → ((c : ℕ) → Has log (Boot n c) → ⊥) → boots_of n log ≡ []
    no_boots n [] h = refl
    no_boots n (Noop ∷ es) h = no_boots n es (λ c i. h c (there i))
    no_boots n (Boot k c ∷ es) h = go (no_boots n es (λ d i. h d (there i))) (eqb k n) refl
      where
        go : boots_of n es ≡ [] → (z : Bool) → eqb k n ≡ z → boots_of n (Boot k c ∷ es) ≡ []
        go rest true e = absurd (h c (has_first es (ap (λ j. Boot j c) (eqb-true k n e))))
        go rest false e = rw e rest
    no_boots n (Lost k c ∷ es) h = no_boots n es (λ d i. h d (there i))
    no_boots n (Item k c q t x ∷ es) h = no_boots n es (λ d i. h d (there i))

    one_is_alone : (early : List (Event B)) (by n b : ℕ) → members ≤ 1 → Within (played same members early).nodes by
        → live_boot n (log_of (played same members early) by) ≡ Some b → (by ≡ n → ⊥) → ⊥
    one_is_alone early by n b few w live other = never (sym nothing ∙ live)
      where
        log : List (Entry B)
        log = log_of (played same members early) by

        alone : (c : ℕ) → Has log (Boot n c) → ⊥
        alone c h =
            let m = (boot_was_had same members equal early by n c h).0 in
            other (w.is ∙ one w.i n (subst (λ l. w.i < l) (nodes_length same members early) w.low) m.0 m.1)
          where
            one : (i k : ℕ) → i < members → 1 ≤ k → k ≤ members → suc i ≡ k
            one i k a b c = omega arith

        nothing : live_boot n log ≡ None
        nothing = ap (λ bs. option_and_then (λ c. if lost_since n c log then None else Some c) (greatest bs)) (no_boots n log alone)

        never : ◌≡◌ {A = Option ℕ} None (Some b) → ⊥
        never e = cc

    abbrev AllSuspected : List (Event B) → List (Entry B) → Type 0
    AllSuspected events made = (n b : ℕ) → Has made (Lost n b) → Suspected same members events n b

    suspected_later : (events more : List (Event B)) (n b : ℕ) → Suspected same members events n b → Suspected same members (events ++ more) n b
    suspected_later events more n b p =
        record {
          early = p.early;
          by = p.by;
          later = p.later ++ more;
          is = ap (λ l. l ++ more) p.is ∙ append_assoc p.early (Suspect p.by n ∷ p.later) more;
          other = p.other;
          live = p.live;
          room = p.room;
          made = p.made;
          pending = p.pending;
        }

    -- what a possible suspicion makes
    suspects : (early : List (Event B)) (by n b : ℕ) → May same members (played same members early) (Suspect by n)
        → Has (made_by same (Suspect by n) (node_at (played same members early).nodes by)) (Lost n b)
        → live_in (standing n (log_of (played same members early) by)) ≡ Some b
        → done same (played same members early) (Suspect by n) (node_at (played same members early).nodes by)
        (outcome_of same members (Suspect by n) (node_at (played same members early).nodes by))
        ≡ played same members (early ++ Suspect by n ∷ [])
        → Suspected same members (early ++ Suspect by n ∷ []) n b
    suspects early by n b m i l g =
        record {
          early = early;
          by = by;
          later = [];
          is = refl;
          other = other;
          live = live;
          room = s.1;
          made = ap (λ o. suspected_by o x) s.0 ∙ cond-true (has_room x) (Lost n b ∷ []) [] s.1;
          pending =
              subst (λ (z : World B). Has (node_at z.nodes by).pending (Lost n b)) g
              (subst (λ (y : NodeState B). Has y.pending (Lost n b))
              (sym (node_same w.nodes by (outcome_of same members (Suspect by n) x).node inside))
              (⊎_elim
              (λ (many : 1 < members). pends many w by n (Lost n b) (world_ok same equal members (two many) early) (all_rest same members early by)
              s.0 s.1)
              (λ (few : members ≤ 1). absurd (one_is_alone early by n b few inside live other))
              (cases_lt 1 members)));
        }
      where
        w : World B
        w = played same members early

        x : NodeState B
        x = node_at w.nodes by

        s : (new_lost same by n x ≡ Some (Lost n b)) × (has_room x ≡ true)
        s = suspected_is x (new_lost same by n x) (Lost n b) i

        other : by ≡ n → ⊥
        other = not_itself by n x (Lost n b) s.0

        live : live_boot n (log_of w by) ≡ Some b
        live = live_boot_is n (log_of w by) ∙ l

        inside : Within w.nodes by
        inside = within w.nodes (Suspect by n) by m.1

        two : 1 < members → 2 ≤ members
        two l = omega arith

    suspected_next : (early : List (Event B)) (e : Event B) → AllSuspected early (played same members early).made
        → AllSuspected (early ++ e ∷ []) (played same members (early ++ e ∷ [])).made
    suspected_next early e h =
        subst (λ (z : World B). AllSuspected (early ++ e ∷ []) z.made) (sym on)
        (by_next same members (λ z. z ≡ next same members w e → AllSuspected (early ++ e ∷ []) z.made) w e
        (λ g n b i. suspected_later early (e ∷ []) n b (h n b i))
        (λ m g n b i. ⊎_elim (λ o. suspected_later early (e ∷ []) n b (h n b o))
        (λ o. new m (g ∙ sym on) n b (made_lost same e (node_at w.nodes (owner e)) n b o) o)
        (has_cases w.made (made_by same e (node_at w.nodes (owner e))) i))
        refl)
      where
        w : World B
        w = played same members early

        on : played same members (early ++ e ∷ []) ≡ next same members w e
        on = play_on same members early (e ∷ []) (first_world members)

        Goal : Event B → ℕ → ℕ → Type 0
        Goal f n b =
            May same members w f → done same w f (node_at w.nodes (owner f)) (outcome_of same members f (node_at w.nodes (owner f)))
            ≡ played same members (early ++ f ∷ []) → Has (made_by same f (node_at w.nodes (owner f))) (Lost n b)
            → live_in (standing_of (node_at w.nodes (owner f)) n) ≡ Some b → Suspected same members (early ++ f ∷ []) n b

        new : May same members w e → done same w e (node_at w.nodes (owner e)) (outcome_of same members e (node_at w.nodes (owner e)))
            ≡ played same members (early ++ e ∷ []) → (n b : ℕ) → MadeLost e (node_at w.nodes (owner e)) n b
            → Has (made_by same e (node_at w.nodes (owner e))) (Lost n b) → Suspected same members (early ++ e ∷ []) n b
        new m g n b made i = subst (λ f. Goal f n b) (sym made.is) (λ m g i l. suspects early made.by n b m i
            (ap (λ s. live_in s) (sym (stands same equal members seven early made.by m.1 n)) ∙ l) g) m g i made.live

    suspected_play : (todo early : List (Event B)) → AllSuspected early (played same members early).made
        → AllSuspected (early ++ todo) (played same members (early ++ todo)).made
    suspected_play [] early h =
        subst (λ l. AllSuspected l (played same members l).made) (sym (append-nil early)) h
    suspected_play (e ∷ todo) early h =
        subst (λ l. AllSuspected l (played same members l).made) (append_assoc early (e ∷ []) todo)
        (suspected_play todo (early ++ e ∷ []) (suspected_next early e h))

    pub lost_was_suspected : (events : List (Event B)) (k n b : ℕ) → Has (log_of (played same members events) k) (Lost n b)
        → Suspected same members events n b
    lost_was_suspected events k n b h =
        ⊎_elim (λ e. absurd (differ e)) (λ a. suspected_play events [] (λ m c i. absurd (first_no_lost same members members m c i)) n b a)
        (log_was_made same members equal events k (Lost n b) h)
      where
        differ : ◌≡◌ {A = Entry B} (Lost n b) Noop → ⊥
        differ e = cc

pub losts_were_suspected : {B : Type 0} (same : B → B → Bool) → IsEquality same → LostsWereSuspected B same
losts_were_suspected same equal members seven events k n b h = lost_was_suspected same equal members seven events k n b h
