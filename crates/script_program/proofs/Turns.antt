-- What a player's calls find at its script's stage, and how a flush goes on.
use Rattle.std.proofs.Common.{◌≡◌, ℕ, zero, suc, ◌+◌, ◌-◌, ◌<◌, ◌≤◌, Bool, true, false, cond, List, [], ◌∷◌, ◌++◌, length, get_or}
use Rattle.std.proofs.Common.{take, drop, Option, Some, None, refl, sym, ap, subst, ◌∙◌, arith}
use Rattle.std.specs.Prelude.{slice_get, nat_le, All}
use Rattle.std.proofs.lemmas.Bool.{le-leb}
use Rattle.std.proofs.lemmas.Grind.{take_at_read, flat_map-append}
use Rattle.std.proofs.Math.ListN.{drop_of_length-le}
use Rattle.std.proofs.lemmas.List.{append-nil}
use Rattle.std.proofs.lemmas.List.Elements.{All-push}
use Rattle.std.proofs.lemmas.List.Sums.{fold-append}
use Rattle.std.proofs.lemmas.Option.{slice_get_within, get_or_from_slice_get}
use Rattle.paxos_packets.specs.declared.packet.Packet.{Packet}
use Rattle.realm_acts.specs.declared.act.Act.{Act}
use Rattle.realm_acts.specs.Act.{same_act}
use Rattle.realm_machine.specs.Config.{Config}
use Rattle.realm_machine.specs.Content.{empty}
use Rattle.realm_machine.specs.Laws.{live_realm}
use Rattle.realm_machine.specs.Machine.{begun, live_of}
use Rattle.realm_machine.specs.Realm.{State}
use Rattle.script_program.specs.declared.lines.line.Line.{Line}
use Rattle.script_program.specs.declared.lines.line.Line.TheVariants as line
use Rattle.script_program.specs.Waiting as waiting
use Rattle.cluster_world.specs.Scripts.{Stage, first_stage, first_due, deliver, deliver_no, deliver_first, flush, most_deliveries}
use Rattle.cluster_world.specs.Scripts.{take_line}
use Rattle.realm_snapshot.specs.Writing.{saved}
use Rattle.cluster_world.specs.StandsAt.{HaveContent}
use Rattle.script_program.specs.declared.player.Player.{Player}
use Rattle.script_program.specs.Playing.{IsBehind, in_script, script_of, stage_behind, world_behind}
use Rattle.script_program.specs.Player.{IsAt, DeliversFirst, IsFlushing, first_realm, send_if, send_all, waits_from}
use Rattle.script_program.proofs.Dues.{Finds, finds}

-- ---- the first world, and packets by their places

pub have_content : (config : Config) (realms : List State) → All (λ realm. realm ≡ first_realm config) realms
    → HaveContent live_of (begun config) realms
have_content config realms all i a e =
    ap live_of (sym (get_or_from_slice_get realms i a a e) ∙ all i a (slice_get_within realms i a e))

pub put_realm : (config : Config) (realms new : List State) (realm : State) (of : Config)
    → new ≡ realms ++ realm ∷ [] → realm.config ≡ of → of ≡ config
    → realm.content ≡ Some (empty config.limits) → All (λ r. r ≡ first_realm config) realms → All (λ r. r ≡ first_realm config) new
put_realm config realms new realm of put named is content all =
    let first : realm ≡ first_realm config = λ i. record { config = (named ∙ is) i; content = content i } in
    subst (All (λ r. r ≡ first_realm config)) (sym put) (All-push (λ r. r ≡ first_realm config) realms realm all first)

-- a player before the first line
pub begins : (config : Config) (members : ℕ) (p : Player) → p.world.members ≡ members
    → IsBehind config p.world []
    → p.waiting.members ≡ members → p.waiting.sent ≡ [] → IsAt config members p (first_stage members)
begins config members p are stands few none =
    record { members_are = are; stands = stands; is_played = refl; few = few; waits = none; fresh = λ number l. refl }

pub by_number : (place : ℕ) (sent : List (Packet Act))
    → (cond (nat_le 1 (place + 1)) (slice_get sent (place + 1 - 1)) None) ≡ slice_get sent place
by_number place sent =
    (λ i. cond (le-leb 1 (place + 1) (omega arith) i) (slice_get sent (place + 1 - 1)) None)
    ∙ ap (slice_get sent) (let z : place + 1 - 1 ≡ place = omega arith in z)

send_one_more : (place : ℕ) (sent : List (Packet Act)) (w : waiting.Packets)
    → send_all (drop (suc place) sent) (send_if (slice_get sent place) w) ≡ send_all (drop place sent) w
send_one_more zero [] w = refl
send_one_more zero (p ∷ ps) w = refl
send_one_more (suc k) [] w = refl
send_one_more (suc k) (p ∷ ps) w = send_one_more k ps w

pub send_next : (place : ℕ) (sent : List (Packet Act)) (o : Option (Packet Act)) (old new all : waiting.Packets) → new ≡ send_if o old
    → o ≡ slice_get sent place → send_all (drop place sent) old ≡ all → send_all (drop (place + 1) sent) new ≡ all
send_next place sent o old new all step at rest =
    (λ i. send_all (drop (next i) sent) (step i)) ∙ ap (λ o. send_all (drop (suc place) sent) (send_if o old)) at
    ∙ send_one_more place sent old ∙ rest
  where
    next : place + 1 ≡ suc place
    next = omega arith

pub send_ends : (place : ℕ) (sent : List (Packet Act)) (w all : waiting.Packets) → length sent ≤ place
    → send_all (drop place sent) w ≡ all → w ≡ all
send_ends place sent w all past rest = sym (ap (λ ps. send_all ps w) (drop_of_length-le sent past)) ∙ rest

pub sent_is : (config : Config) (members : ℕ) (p : Player) (s : Stage Act) → IsAt config members p s
    → (world_behind config p.world.members s.events).sent ≡ s.world.sent
sent_is config members p s at = ap (λ k. (world_behind config k s.events).sent) at.members_are ∙ sym (ap (λ w. w.sent) at.is_played)

-- ---- a delivery by number

pub at_number : (config : Config) (members place : ℕ) (s : Stage Act)
    → stage_behind config members (in_script (line.Deliver (suc place))) s
    ≡ deliver_no same_act members (place + 1) (slice_get s.world.sent place) s
at_number config members place s = λ i. deliver_no same_act members (number i) (slice_get s.world.sent (below i)) s
  where
    number : suc place ≡ place + 1
    number = omega arith

    below : suc place - 1 ≡ place
    below = omega arith

-- ---- the first packet that is due

due_at : (config : Config) (members : ℕ) (among : List Bool) (p : Player) (s : Stage Act) → IsAt config members p s
    → Finds s.world.sent (waiting.first_due among p.waiting) (first_due members among s)
due_at config members among p s at =
    subst (λ o. Finds s.world.sent o (first_due members among s)) same
    (finds s.world.sent members among s.delivered 0 1 s.world.sent (omega arith)
    (λ k. ap (slice_get s.world.sent) (let z : 0 + k ≡ k = omega arith in z)))
  where
    same : waiting.first_from (waiting.is_due members among) 0 (waits_from 1 s.delivered s.world.sent) ≡ waiting.first_due among p.waiting
    same = λ i. waiting.first_from (waiting.is_due (sym at.few i) among) 0 (sym at.waits i)

pub none_due : (config : Config) (members : ℕ) (among : List Bool) (p : Player) (s : Stage Act) → IsAt config members p s
    → waiting.first_due among p.waiting ≡ None → first_due members among s ≡ None
none_due config members among p s at none =
    go (first_due members among s) (subst (λ o. Finds s.world.sent o (first_due members among s)) none (due_at config members among p s at))
  where
    go : (o : Option (ℕ × Packet Act)) → Finds s.world.sent None o → o ≡ None
    go None found = refl
    go (Some e) found = absurd found

pub one_due : (config : Config) (members : ℕ) (among : List Bool) (p : Player) (s : Stage Act) (place : ℕ)
    → IsAt config members p s → waiting.first_due among p.waiting ≡ Some place
    → (packet : Packet Act) × (first_due members among s ≡ Some (place + 1, packet)) × (slice_get s.world.sent place ≡ Some packet)
one_due config members among p s place at some =
    go (first_due members among s) (subst (λ o. Finds s.world.sent o (first_due members among s)) some (due_at config members among p s at))
  where
    go : (o : Option (ℕ × Packet Act)) → Finds s.world.sent (Some place) o
        → (packet : Packet Act) × (o ≡ Some (place + 1, packet)) × (slice_get s.world.sent place ≡ Some packet)
    go None found = absurd found
    go (Some e) found = (e.1, ap (λ n. Some (n, e.1)) found.0, found.1)

-- ---- a flush

pub flush_on : (config : Config) (members : ℕ) (among : List Bool) (k : ℕ) (p new : Player) (whole : Stage Act)
    → (f : IsFlushing config members among (suc k) p whole) → DeliversFirst config members among true f.stage new
    → IsFlushing config members among k new whole
flush_on config members among k p new whole f (e, due, at) =
    record {
      stage = deliver same_act members e.0 e.1 f.stage;
      is_at = at;
      rest = ap (λ o. deliver_first same_act members o f.stage (λ z. flush same_act members among k z)) (sym due) ∙ f.rest;
    }

pub flush_ends : (config : Config) (members : ℕ) (among : List Bool) (more : ℕ) (p new : Player) (whole : Stage Act)
    → (f : IsFlushing config members among more p whole) → DeliversFirst config members among false f.stage new
    → IsAt config members new whole
flush_ends config members among zero p new whole f (none, at) = subst (IsAt config members new) f.rest at
flush_ends config members among (suc k) p new whole f (none, at) =
    subst (IsAt config members new)
    (ap (λ o. deliver_first same_act members o f.stage (λ z. flush same_act members among k z)) (sym none) ∙ f.rest) at

pub flush_begins : (config : Config) (members : ℕ) (among : List Bool) (p : Player) (s : Stage Act) → IsAt config members p s
    → (more : ℕ) × (more + 0 ≡ 100000) × IsFlushing config members among more p (flush same_act members among most_deliveries s)
unfolding most_deliveries
flush_begins config members among p s at = (100000, omega arith, record { stage = s; is_at = at; rest = refl })

pub flush_goes : (config : Config) (members : ℕ) (among : List Bool) (more turn : ℕ) (p new : Player) (whole : Stage Act)
    → turn < 100000 → more + turn ≡ 100000 → (f : IsFlushing config members among more p whole)
    → DeliversFirst config members among true f.stage new
    → (k : ℕ) × (k + (turn + 1) ≡ 100000) × IsFlushing config members among k new whole
flush_goes config members among zero turn p new whole below e f d = absurd (omega (arith, below, e))
flush_goes config members among (suc k) turn p new whole below e f d = (k, omega (arith, e), flush_on config members among k p new whole f d)

pub flush_stops : (config : Config) (members : ℕ) (among : List Bool) (more turn : ℕ) (p : Player) (whole : Stage Act) → 100000 ≤ turn
    → more + turn ≡ 100000 → IsFlushing config members among more p whole → IsAt config members p whole
flush_stops config members among zero turn p whole past e f = subst (IsAt config members p) f.rest f.is_at
flush_stops config members among (suc k) turn p whole past e f = absurd (omega (arith, past, e))

-- ---- all lines

pub line_more : (config : Config) (members : ℕ) (lines : List Line) (i : ℕ) (x : Line) (s : Stage Act) → i < length lines → x ≡ get_or lines i x
    → stage_behind config members (in_script x) (stage_behind config members (script_of (take i lines)) s)
    ≡ stage_behind config members (script_of (take (i + 1) lines)) s
line_more config members lines i x s within is = sym (
    ap (λ ls. stage_behind config members (script_of ls) s)
    ((take_at_read lines i x within).1 ∙ ap (λ y. take i lines ++ y ∷ []) (sym is))
    ∙ ap (λ ls. stage_behind config members ls s)
    (flat_map-append in_script (take i lines) (x ∷ []) ∙ ap (λ ls. script_of (take i lines) ++ ls) (append-nil (in_script x)))
    ∙ fold-append (take_line saved (live_realm config) same_act members) s (script_of (take i lines)) (in_script x)
    )
