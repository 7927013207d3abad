-- Whatever nodes applied is chosen, and of two such lists one is a prefix of the other.
use Rattle.std.proofs.Common.{◌≡◌, ◌⊎◌, inl, inr, ⊎_elim, ℕ, suc, ◌≤◌, Bool, true, false, refl, sym, ap, ◌∙◌, subst, arith, List, [], ◌∷◌, ◌++◌}
use Rattle.std.proofs.Common.{append_assoc, append-nil, Option, Some, None}
use Rattle.std.specs.Prelude.{if◌then◌else◌}
use Rattle.std.proofs.lemmas.Bool.{cond-true, cond-false, cases_eq}
use Rattle.cluster_world.proofs.Lists.{has_nil, has_one, has_cases, has_left, has_right}
use Rattle.cluster_world.proofs.Invariant.{IsChosen}
use Rattle.cluster_world.proofs.Settling.{Logged}
use Rattle.cluster_world.proofs.Cuts.{under_kept, under_each}
use Rattle.cluster_world.proofs.EveryWorld.{Found, WorldOk, first_found, found_all, first_ok, next_ok, event_goes, whole_is, within, node_same, node_other}
use Rattle.cluster_world.proofs.EveryWorld.{plain_at, play_on}
use Rattle.cluster_world.proofs.Agreeing.{prefixes, chosen_out, one, chosen_on}
use Rattle.cluster_world.proofs.Standing.{Keeps, Cuts, Takes, Turned, turns, Ran, Began, OnFrom, event_cases}
use Rattle.cluster_world.proofs.Logs.{whole_kept, whole_taken}
use Rattle.cluster_world.proofs.Taking.{May, by_next, in_every}
use Rattle.cluster_world.proofs.AtOnce.{AtRest, cut_rest}
use Rattle.cluster_world.proofs.EventsAtOnce.{AllRest, all_rest}
use Rattle.cluster_world.specs.Has.{Has, here}
use Rattle.paxos_packets.specs.Snapshot as taken
use Rattle.paxos_packets.specs.declared.entry.Entry.{Entry}
use Rattle.paxos_packets.specs.declared.packet.Packet.{Packet}
use Rattle.paxos_node.specs.declared.event.Event.{Event}
use Rattle.paxos_node.specs.declared.event.Event.TheVariants.{Take, Tick, Start, Suspect, Deliver, Cut, Crash, Restart}
use Rattle.paxos_planning.specs.Node.{NodeState, Plan}
use Rattle.paxos_planning.specs.Plan.{begun}
use Rattle.paxos_node.specs.Applying.{settle}
use Rattle.paxos_node.specs.Events.{owner, possible, on_event, outcome_of}
use Rattle.cluster_world.specs.World.{Applied, World, node_at, put_node, founded, first_world, done, next, played, under, whole_log, log_of}
use Rattle.cluster_world.specs.World.{log_before, cut_by}
use Rattle.cluster_world.specs.World as worlds
use Rattle.cluster_world.specs.Steps.{may}
use Rattle.cluster_world.specs.Laws.{applied_behind, AppliedIsChosen, AppliedArePrefixes, LogAfterIsApplied, LogIsApplied}
use Rattle.paxos_packets.specs.Body.{IsEquality}

-- what was chosen stays so as more is sent
logged_more : {B : Type 0} (members : ℕ) (sent new : List (Packet B)) (log : List (Entry B)) → Logged members sent log
    → Logged members (sent ++ new) log
logged_more {B} members sent new log ok = record { at = λ i e h. chosen_more (ok.at i e h) }
  where
    chosen_more : {s : ℕ} {e : Entry B} → IsChosen members sent s e → IsChosen members (sent ++ new) s e
    chosen_more c =
        record {
          ballot = c.ballot;
          quorum = c.quorum;
          most = c.most;
          voted = λ k m q. let s = c.voted k m q in record { to = s.to; is = has_left new s.is };
        }

-- what an event applies, with the log before it
abbrev new : {B : Type 0} → (B → B → Bool) → ℕ → World B → Event B → Applied B
new same members w e =
    let x = node_at w.nodes (owner e) in
    let o = outcome_of same members e x in
    record { node = owner e; boot = x.rows.boot; log = log_before w e x o; entries = o.applied }

module _ {B : Type 0} (same : B → B → Bool) (equal : IsEquality same) (members : ℕ) (many : 2 ≤ members) where
  abbrev EachLogged : World B → Type 0
  EachLogged w = (a : Applied B) → Has w.applied a → Logged members w.sent (applied_behind a)

  record AllLogged (w : World B) : Type 0 where
    ok : WorldOk members w
    each : EachLogged w

  next_logged : (w : World B) (e : Event B) → AllLogged w → AllLogged (next same members w e)
  next_logged w e all =
      record {
        ok = next_ok same equal members many w e all.ok;
        each = by_next same members (λ z. EachLogged z) w e all.each
            (λ m a h. ⊎_elim (λ i. logged_more members w.sent _ (applied_behind a) (all.each a i))
            (λ i. subst (λ z. Logged members (w.sent ++ (outcome_of same members e (node_at w.nodes (owner e))).packets)
            (applied_behind z)) (has_one i) (event_goes same equal members many w e all.ok m.0 m.1).logged)
            (has_cases w.applied (new same members w e ∷ []) h));
      }

  pub applied_logged : (events : List (Event B)) (a : Applied B) → Has (played same members events).applied a
      → Logged members (played same members events).sent (applied_behind a)
  applied_logged events =
      (in_every same members (λ w. AllLogged w) next_logged events (first_world members)
      (record { ok = first_ok members; each = λ a h. absurd (has_nil h) })).each

module _ {B : Type 0} (same : B → B → Bool) (equal : IsEquality same) where
  pub applied_is_chosen : AppliedIsChosen B same
  applied_is_chosen members l events a i e h g =
      chosen_out members (played same members events).sent (suc i) e
      ((applied_logged same equal members (omega arith) events a h).at i e g)

  pub applied_are_prefixes : AppliedArePrefixes B same
  applied_are_prefixes members l early later a b h g =
      prefixes (applied_behind a) (applied_behind b)
      (λ i d e p q. one same equal members l (early ++ later) (suc i) d e
      (chosen_on same equal members early later (suc i) d ((applied_logged same equal members (omega arith) early a h).at i d p))
      ((applied_logged same equal members (omega arith) (early ++ later) b g).at i e q))

module _ {B : Type 0} (same : B → B → Bool) where
  pub log_after_is_applied : LogAfterIsApplied B same
  log_after_is_applied members events e t =
      (new same members w e, subst (λ (z : World B). Has z.applied (new same members w e)) (sym goes) (has_right w.applied here), refl)
    where
      w : World B
      w = played same members events

      goes : played same members (events ++ e ∷ [])
          ≡ done same w e (node_at w.nodes (owner e)) (outcome_of same members e (node_at w.nodes (owner e)))
      goes = play_on same members events (e ∷ []) (first_world members) ∙ cond-true (may same w e) _ w t

  module _ (members : ℕ) where
    abbrev Stands : List (Applied B) → List (Entry B) → Type 0
    Stands as' log = (log ≡ []) ⊎ ((a : Applied B) × Has as' a × (applied_behind a ≡ log))

    -- each log, and each one that was cut
    record LogsStand (w : World B) : Type 0 where
      found : Found w
      rest : (k : ℕ) → AtRest (node_at w.nodes k)
      nodes : (k : ℕ) → Stands w.applied (log_of w k)
      cuts : (c : worlds.Cut B) → Has w.cuts c → Stands w.applied c.log

    stands_on : (as' more : List (Applied B)) (log : List (Entry B)) → Stands as' log → Stands (as' ++ more) log
    stands_on as' more log s = ⊎_elim (λ e. inl e) (λ h. inr (h.0, has_left more h.1, h.2)) s

    next_stand : (w : World B) (e : Event B) → LogsStand w → Found (next same members w e) → AllRest same members (next same members w e)
        → LogsStand (next same members w e)
    next_stand w e all = by_next same members (λ z. Found z → AllRest same members z → LogsStand z) w e (λ g r. all) go
      where
        x : NodeState B
        x = node_at w.nodes (owner e)

        u : Plan B
        u = on_event same members e (begun x)

        o : Plan B
        o = outcome_of same members e x

        cuts' : List (worlds.Cut B)
        cuts' = w.cuts ++ cut_by w e

        later : List (Applied B)
        later = w.applied ++ new same members w e ∷ []

        made : (f : Event B) (c : worlds.Cut B) → Has (cut_by w f) c → Stands later c.log
        made (Cut n None) c h = absurd (has_nil h)
        made (Cut n (Some s)) c h =
            subst (λ (d : worlds.Cut B). Stands later d.log) (has_one h) (stands_on w.applied (new same members w e ∷ []) (log_of w n) (all.nodes n))
        made (Deliver p) c h = absurd (has_nil h)
        made (Take n t body) c h = absurd (has_nil h)
        made (Tick n) c h = absurd (has_nil h)
        made (Start n) c h = absurd (has_nil h)
        made (Suspect n other) c h = absurd (has_nil h)
        made (Crash n) c h = absurd (has_nil h)
        made (Restart n) c h = absurd (has_nil h)

        cuts_stand : (c : worlds.Cut B) → Has cuts' c → Stands later c.log
        cuts_stand c h =
            ⊎_elim (λ i. stands_on w.applied (new same members w e ∷ []) c.log (all.cuts c i)) (λ i. made e c i) (has_cases w.cuts (cut_by w e) h)

        under_stands : (s : Option taken.Snapshot) → Stands later (under cuts' s ++ [])
        under_stands s =
            subst (λ l. Stands later l) (sym (append-nil (under cuts' s))) (under_each (λ l. Stands later l) (inl refl) cuts' cuts_stand s)

        is_new : log_before w e x o ++ o.applied ≡ whole_log cuts' o.node → Stands later (whole_log cuts' o.node)
        is_new i = inr (new same members w e, has_right w.applied here, i)

        -- nothing waits after a cut
        cut_alone : possible e x ≡ true → Cuts e x u → o.applied ≡ []
        cut_alone p c =
            ap (λ (z : Plan B). z.applied)
            (subst (λ f. owner e ≡ owner f → settle (owner f) (on_event same members f (begun x)) ≡ on_event same members f (begun x)) (sym c.event)
            (λ i. cut_rest (owner e) (begun x) (Some c.snapshot) c.may (all.rest (owner e))) refl)
            ∙ ap (λ (f : Event B). (on_event same members f (begun x)).applied) c.event

        up_stands : possible e x ≡ true → x.up ≡ true → OnFrom same members e x → Turned same e x u → Stands later (whole_log cuts' o.node)
        up_stands p up f t =
            ⊎_elim
            (λ (k : Keeps same e x u). is_new (sym (whole_kept same members w e all.found f up k)))
            (λ r. ⊎_elim
            (λ (c : Cuts e x u). subst (λ l. Stands later l)
            (sym (whole_is cuts' o.node f.up ∙ ap (λ l. under cuts' o.node.rows.snapshot ++ l) (f.log ∙ (λ i. c.log i ++ cut_alone p c i))))
            (under_stands o.node.rows.snapshot))
            (λ (k : Takes e x u). is_new (sym (whole_taken same members w e f k)))
            r)
            t.turn

        down_stands : (y : NodeState B) → y.up ≡ false → Stands later (whole_log cuts' y)
        down_stands y d = inl (cond-false y.up (under cuts' y.rows.snapshot ++ y.applied) [] d)

        mine : May same members w e → Stands later (whole_log cuts' o.node)
        mine m =
            ⊎_elim
            (λ (r : Ran same members e x). ⊎_elim
            (λ (c : OnFrom same members e x). up_stands m.1 r.was c (turns same members x r.was e m.1 (still c.up)))
            (λ c. down_stands o.node c.0) r.from.case)
            (λ (r : Began same members e x). subst (λ y. Stands later (whole_log cuts' y)) (sym r.is) (under_stands x.rows.snapshot))
            (event_cases same members e x m.1)
          where
            off : false ≡ true → ⊥
            off q = cc

            still : o.node.up ≡ true → (n : ℕ) → e ≡ Crash n → ⊥
            still up n i = off (subst (λ f. (outcome_of same members f x).node.up ≡ true) i up)

        go : May same members w e → Found (done same w e x o) → AllRest same members (done same w e x o) → LogsStand (done same w e x o)
        go m g r =
            record {
              found = g;
              rest = r;
              nodes = λ k. ⊎_elim
                  (λ (i : k ≡ owner e). subst (λ j. Stands later (whole_log cuts' (node_at (put_node w.nodes (owner e) o.node) j))) (sym i)
                  (subst (λ y. Stands later (whole_log cuts' y))
                  (sym (node_same w.nodes (owner e) o.node (within w.nodes e (owner e) m.1))) (mine m)))
                  (λ i. subst (λ y. Stands later (whole_log cuts' y)) (sym (node_other w.nodes (owner e) o.node k i))
                  (subst (λ l. Stands later (if (node_at w.nodes k).up then l ++ (node_at w.nodes k).applied else []))
                  (sym (under_kept w.cuts (cut_by w e) (node_at w.nodes k).rows.snapshot (all.found.nodes k)))
                  (stands_on w.applied (new same members w e ∷ []) (log_of w k) (all.nodes k))))
                  (cases_eq k (owner e));
              cuts = cuts_stand;
            }

module _ {B : Type 0} (same : B → B → Bool) (equal : IsEquality same) where
  logs_stand : (members : ℕ) (todo early : List (Event B)) → LogsStand same members (played same members early)
      → LogsStand same members (played same members (early ++ todo))
  logs_stand members [] early h = subst (λ l. LogsStand same members (played same members l)) (sym (append-nil early)) h
  logs_stand members (e ∷ todo) early h =
      subst (λ l. LogsStand same members (played same members l)) (append_assoc early (e ∷ []) todo)
      (logs_stand members todo (early ++ e ∷ [])
      (subst (λ (z : World B). LogsStand same members z) (sym on)
      (next_stand same members (played same members early) e h
      (subst (λ (z : World B). Found z) on (found_all same equal members (early ++ e ∷ [])))
      (subst (λ (z : World B). AllRest same members z) on (all_rest same members (early ++ e ∷ []))))))
    where
      on : played same members (early ++ e ∷ []) ≡ next same members (played same members early) e
      on = play_on same members early (e ∷ []) (first_world members)

  pub log_is_applied : LogIsApplied B same
  log_is_applied members events k =
      (logs_stand members events []
      (record {
        found = first_found members;
        rest = all_rest same members [];
        nodes = λ j. inl (first_log j);
        cuts = λ c h. absurd (has_nil h);
      })).nodes k
    where
      first_log : (j : ℕ) → log_of {B = B} (first_world members) j ≡ []
      first_log j =
          let p = plain_at {B = B} members j in
          (λ i. if (node_at {B = B} (founded members) j).up then under [] (p.snapshot i) ++ p.applied i else [])
          ∙ nothing (node_at {B = B} (founded members) j).up
        where
          nothing : (b : Bool) → ◌≡◌ {A = List (Entry B)} (if b then [] else []) []
          nothing true = refl
          nothing false = refl
