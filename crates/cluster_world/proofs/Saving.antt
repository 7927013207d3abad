-- A world whose Cuts have what is saved is one that events lead to, and each of its cuts has the octets of its log.
use Rattle.std.proofs.Common.{◌≡◌, ⊎_elim, ℕ, suc, ◌<◌, ◌≤◌, ◌^◌, Bool, true, false, ◌&&◌, refl, sym, ap, ◌∙◌, subst, arith, List, [], ◌∷◌, ◌++◌}
use Rattle.std.proofs.Common.{length, Option, Some, None}
use Rattle.std.specs.Int.{bytes_high_first}
use Rattle.std.specs.Prelude.{fold, nat_lt, nat_le, option_map}
use Rattle.std.proofs.lemmas.Bool.{and_from, cond-true, cond-false, le-leb, lt-ltb}
use Rattle.std.proofs.lemmas.Nat.{from_be_bytes-to_be_bytes_8}
use Rattle.cluster_world.proofs.Lists.{has_nil, has_one, has_cases}
use Rattle.cluster_world.proofs.Taking.{by_next}
use Rattle.cluster_world.specs.Has.{Has}
use Rattle.cluster_world.specs.Saving.{kept_after, saved_of, told, next_of, played_of, tell_all}
use Rattle.cluster_world.specs.MemberSnapshots.{own_cut, with_octets, its_event, LoadsSaved}
use Rattle.cluster_world.specs.World.{World, first_world, log_of, play, played, cut_by, cut_from}
use Rattle.cluster_world.specs.World as worlds
use Rattle.paxos_packets.specs.Snapshot.{Snapshot, number_at, is_floor, floor_at, floor_end, snapshot_of}
use Rattle.paxos_packets.specs.declared.entry.Entry.{Entry}
use Rattle.paxos_node.specs.declared.event.Event.{Event}
use Rattle.paxos_node.specs.declared.event.Event.TheVariants.{Take, Tick, Start, Suspect, Deliver, Cut, Crash, Restart}
use Rattle.paxos_node.specs.Events.{owner}
use Rattle.replica_follower.specs.Following.{Followed, Follows, LoadsAs}
use Rattle.replica_machine.proofs.Snapshots.{kept_whole}
use Rattle.replica_machine.specs.Log.{steps_of}
use Rattle.replica_machine.specs.Replay.{Machine}
use Rattle.replica_machine.specs.Snapshot.{kept_octets, standings_octets}

-- octets that begin with a floor

module _ (n : ℕ) (xs ys : List ℕ) where
  abbrev octets : List ℕ
  octets = (bytes_high_first 8 n ++ xs) ++ ys

  number_read : n < 2 ^ 40 → number_at octets ≡ n
  unfolding number_at
  number_read l = from_be_bytes-to_be_bytes_8 n (omega (arith, l))

  in_slots : n < 2 ^ 40 → n < floor_end
  unfolding floor_end
  in_slots l = omega (arith, l)

  floor_read : 1 ≤ n → n < 2 ^ 40 → floor_at octets ≡ Some n
  floor_read some l =
      cond-true (nat_le 8 (length octets) && is_floor (number_at octets)) (Some (number_at octets)) None
      (and_from (nat_le 8 (length octets)) (is_floor (number_at octets)) (le-leb 8 (length octets) (eight (length (xs ++ ys))))
      (subst (λ k. is_floor k ≡ true) (sym (number_read l))
      (and_from (nat_le 1 n) (nat_lt n floor_end) (le-leb 1 n some) (lt-ltb n floor_end (in_slots l)))))
      ∙ ap (λ k. Some k) (number_read l)
    where
      eight : (k : ℕ) → 8 ≤ suc (suc (suc (suc (suc (suc (suc (suc k)))))))
      eight k = omega arith

  -- none begins with 0
  floor_none : n ≡ 0 → floor_at octets ≡ None
  floor_none is =
      cond-false (nat_le 8 (length octets) && is_floor (number_at octets)) (Some (number_at octets)) None
      (off_second (nat_le 8 (length octets)) (is_floor (number_at octets))
      (ap (λ k. is_floor k) (number_read (low is) ∙ is)))
    where
      low : n ≡ 0 → n < 2 ^ 40
      low e = omega (arith, e)

      off_second : (a b : Bool) → b ≡ false → (a && b) ≡ false
      off_second true b e = e
      off_second false b e = refl

module _ {B S Y : Type 0} (saved : S → List ℕ) (m : Machine B S Y) (same : B → B → Bool) (members : ℕ) where
  -- the events, as they happen
  told_from : (events : List (Event B)) (w : World B)
      → fold (next_of saved m same members) w events ≡ play same members (tell_all saved m same members w events) w
  told_from [] w = refl
  told_from (e ∷ es) w = told_from es (next_of saved m same members w e)

  pub plays_told : (events : List (Event B)) → played_of saved m same members events
      ≡ played same members (tell_all saved m same members (first_world members) events)
  plays_told events = told_from events (first_world members)

  -- what was cut
  abbrev pub IsSaved : worlds.Cut B → Type 0
  IsSaved c = Some c.snapshot ≡ saved_of saved m c.log

  abbrev AreSaved : World B → Type 0
  AreSaved w = (c : worlds.Cut B) → Has w.cuts c → IsSaved c

  cut_saved : (w : World B) (n : ℕ) (o : Option Snapshot) → o ≡ saved_of saved m (log_of w n) → (c : worlds.Cut B) → Has (cut_from w n o) c
      → IsSaved c
  cut_saved w n None e c h = absurd (has_nil h)
  cut_saved w n (Some s) e c h = subst (λ d. IsSaved d) (has_one h) e

  told_saved : (w : World B) (e : Event B) (c : worlds.Cut B) → Has (cut_by w (told saved m w e)) c → IsSaved c
  told_saved w (Take n t body) c h = absurd (has_nil h)
  told_saved w (Tick n) c h = absurd (has_nil h)
  told_saved w (Start n) c h = absurd (has_nil h)
  told_saved w (Suspect n other) c h = absurd (has_nil h)
  told_saved w (Deliver p) c h = absurd (has_nil h)
  told_saved w (Cut n o) c h = cut_saved w n (saved_of saved m (log_of w n)) refl c h
  told_saved w (Crash n) c h = absurd (has_nil h)
  told_saved w (Restart n) c h = absurd (has_nil h)

  next_saved : (w : World B) (e : Event B) → AreSaved w → AreSaved (next_of saved m same members w e)
  next_saved w e all =
      by_next same members (λ z. AreSaved z) w (told saved m w e) all
      (λ k c h. ⊎_elim (λ i. all c i) (λ i. told_saved w e c i) (has_cases w.cuts (cut_by w (told saved m w e)) h))

  all_saved : (events : List (Event B)) (w : World B) → AreSaved w → AreSaved (fold (next_of saved m same members) w events)
  all_saved [] w all = all
  all_saved (e ∷ es) w all = all_saved es (next_of saved m same members w e) (next_saved w e all)

  pub cuts_saved : (events : List (Event B)) (c : worlds.Cut B) → Has (played_of saved m same members events).cuts c → IsSaved c
  cuts_saved events c h = all_saved events (first_world members) (λ d i. absurd (has_nil i)) c h

  -- so its octets are those of its log
  octets_of : (log : List (Entry B)) (s : Snapshot) → Some s ≡ saved_of saved m log → s.octets ≡ kept_octets saved (kept_after m log)
  octets_of [] s e = absurd (never e)
    where
      never : Some s ≡ None → ⊥
      never e = cc
  octets_of (x ∷ log) s e = ap (λ (z : Snapshot). z.octets) (some_is e)
    where
      some_is : Some s ≡ Some (record { floor = length (x ∷ log); octets = kept_octets saved (kept_after m (x ∷ log)) })
          → s ≡ record { floor = length (x ∷ log); octets = kept_octets saved (kept_after m (x ∷ log)) }
      some_is e = cc

  pub cut_octets : (events : List (Event B)) (c : worlds.Cut B) → Has (played_of saved m same members events).cuts c
      → c.snapshot.octets ≡ kept_octets saved (kept_after m c.log)
  cut_octets events c h = octets_of c.log c.snapshot (cuts_saved events c h)

  -- of a world, a cut more loads as its log if what is saved of that does
  cut_loads : (loaded : List ℕ → Option S) (w : World B) (n : ℕ) (o : Option Snapshot) → o ≡ saved_of saved m (log_of w n)
      → LoadsSaved saved loaded m (log_of w n) → (c : worlds.Cut B) → Has (cut_from w n o) c → LoadsAs loaded (kept_after m c.log) c.snapshot.octets
  cut_loads loaded w n None e h c i = absurd (has_nil i)
  cut_loads loaded w n (Some s) e h c i =
      subst (λ (d : worlds.Cut B). LoadsAs loaded (kept_after m d.log) d.snapshot.octets) (has_one i)
      (subst (λ octets. LoadsAs loaded (kept_after m (log_of w n)) octets) (sym (octets_of (log_of w n) s e)) h)

  pub told_loads : (loaded : List ℕ → Option S) (w : World B) (e : Event B)
      → ((n : ℕ) (o : Option Snapshot) → e ≡ Cut n o → LoadsSaved saved loaded m (log_of w (owner e)))
      → (c : worlds.Cut B) → Has (cut_by w (told saved m w e)) c → LoadsAs loaded (kept_after m c.log) c.snapshot.octets
  told_loads loaded w (Take n t body) h c i = absurd (has_nil i)
  told_loads loaded w (Tick n) h c i = absurd (has_nil i)
  told_loads loaded w (Start n) h c i = absurd (has_nil i)
  told_loads loaded w (Suspect n other) h c i = absurd (has_nil i)
  told_loads loaded w (Deliver p) h c i = absurd (has_nil i)
  told_loads loaded w (Cut n o) h c i = cut_loads loaded w n (saved_of saved m (log_of w n)) refl (h n o refl) c i
  told_loads loaded w (Crash n) h c i = absurd (has_nil i)
  told_loads loaded w (Restart n) h c i = absurd (has_nil i)

  -- one event more
  fold_more : (events : List (Event B)) (e : Event B) (w : World B)
      → fold (next_of saved m same members) w (events ++ e ∷ []) ≡ next_of saved m same members (fold (next_of saved m same members) w events) e
  fold_more [] e w = refl
  fold_more (d ∷ events) e w = fold_more events e (next_of saved m same members w d)

  pub plays_more : (events : List (Event B)) (e : Event B)
      → played_of saved m same members (events ++ e ∷ []) ≡ next_of saved m same members (played_of saved m same members events) e
  plays_more events e = fold_more events e (first_world members)

module _ {B S Y : Type 0} (saved : S → List ℕ) (m : Machine B S Y) where
  -- the event has the octets of its node's log, if it is a Cut
  pub told_is : (w : World B) (e : Event B) → told saved m w e ≡ with_octets (saved_of saved m (log_of w (owner e))) e
  told_is w (Take n t body) = refl
  told_is w (Tick n) = refl
  told_is w (Start n) = refl
  told_is w (Suspect n other) = refl
  told_is w (Deliver p) = refl
  told_is w (Cut n o) = refl
  told_is w (Crash n) = refl
  told_is w (Restart n) = refl

  -- what is saved of a log is its snapshot
  pub snapshot_saved : (log : List (Entry B)) → length log < 2 ^ 40 → snapshot_of (kept_octets saved (kept_after m log)) ≡ saved_of saved m log
  snapshot_saved [] l =
      let k = kept_after m [] in
      ap (λ o. option_map (λ floor. record { floor = floor; octets = kept_octets saved k }) o)
      (floor_none 0 (standings_octets k.standings) (saved k.content) refl)
  snapshot_saved (e ∷ es) l =
      let k = kept_after m (e ∷ es) in
      ap (λ o. option_map (λ floor. record { floor = floor; octets = kept_octets saved k }) o)
      (floor_read (length (e ∷ es)) (standings_octets k.standings) (saved k.content) (some (length es)) l)
    where
      some : (k : ℕ) → 1 ≤ suc k
      some k = omega arith

  module _ {M : Type 0} (content : M → S) (f : Followed B M Y) (under : List (Entry B)) (alive : f.given_up ≡ false) (h : Follows content m under f) where
    -- so a machine that is not given up cuts to the snapshot of its whole log
    pub own_is : length (under ++ f.log.applied) < 2 ^ 40 → own_cut saved content f.log ≡ saved_of saved m (under ++ f.log.applied)
    own_is l =
        ap (λ k. snapshot_of (kept_octets saved k)) (kept_whole (steps_of m) content m.first under f.log (h alive))
        ∙ snapshot_saved (under ++ f.log.applied) l

  -- and the event happens at a member as it does in the world
  pub its_told : {M : Type 0} (content : M → S) (f : Followed B M Y) (w : World B) (e : Event B)
      → ((n : ℕ) (o : Option Snapshot) → e ≡ Cut n o → own_cut saved content f.log ≡ saved_of saved m (log_of w (owner e)))
      → its_event saved content f e ≡ told saved m w e
  its_told content f w (Take n t body) h = refl
  its_told content f w (Tick n) h = refl
  its_told content f w (Start n) h = refl
  its_told content f w (Suspect n other) h = refl
  its_told content f w (Deliver p) h = refl
  its_told content f w (Cut n o) h = ap (λ s. Cut n s) (h n o refl)
  its_told content f w (Crash n) h = refl
  its_told content f w (Restart n) h = refl
