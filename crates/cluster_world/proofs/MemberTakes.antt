-- A machine goes on with its node: after its log, or from a snapshot.
use Rattle.std.proofs.Common.{◌≡◌, ℕ, true, sym, ap, ◌∙◌, subst, List, ◌++◌, Option, None, Some}
use Rattle.std.specs.Prelude.{Result, Ok, Err, IfOk, OnOk, OnErr}
use Rattle.std.proofs.lemmas.List.{append-nil}
use Rattle.paxos_packets.specs.Snapshot.{Snapshot}
use Rattle.paxos_packets.specs.declared.entry.Entry.{Entry}
use Rattle.paxos_packets.specs.declared.transport.Transport.{Transport}
use Rattle.replica_machine.specs.Given.{AreGiven}
use Rattle.replica_machine.specs.Replay.{Machine}
use Rattle.replica_machine.specs.Snapshot.{kept_after}
use Rattle.replica_follower.specs.Following.{Followed, LoadsAs, handed_to}
use Rattle.replica_follower.specs.Handed.{said_in}
use Rattle.replica_machine.specs.Log.{LogState}
use Rattle.cluster_world.specs.Members.{IsGivenUp}
use Rattle.cluster_world.specs.MemberSnapshots.{base_of, above_of, Brings}

pub on_ok : {R E P : Type 0} (r : Result R E) → P → OnOk r P
on_ok (Ok x) p = p
on_ok (Err x) p = tt

pub on_err : {R E P : Type 0} (r : Result R E) → P → OnErr r P
on_err (Ok x) p = tt
on_err (Err x) p = p

pub if_ok : {R E P : Type 0} (r : Result R E) → P → IfOk r (λ _. P)
if_ok (Ok x) p = p
if_ok (Err x) p = tt

-- a machine that stays as it was, or its log does

pub given_as_was : {B M Y R E : Type 0} (r : Result R E) (f g : Followed B M Y) → OnErr r (g.log ≡ f.log) → OnErr r (g.given_up ≡ f.given_up)
    → OnErr r (f.given_up ≡ true → IsGivenUp f.log.applied g)
given_as_was (Ok x) f g log up = tt
given_as_was (Err x) f g log up = λ h. (up ∙ h, ap (λ (l : LogState _ _). l.applied) log)

pub given_with_log : {B M Y R E : Type 0} (r : Result R E) (f g : Followed B M Y) → OnErr r (g.log.applied ≡ f.log.applied)
    → (f.given_up ≡ true → g.given_up ≡ true) → OnErr r (f.given_up ≡ true → IsGivenUp f.log.applied g)
given_with_log (Ok x) f g log up = tt
given_with_log (Err x) f g log up = λ h. (up h, log)

-- what is known of a snapshot that there is
pub brought : {B S Y : Type 0} (loaded : List ℕ → Option S) (m : Machine B S Y) (over : List (Entry B)) (o : Option Snapshot) (s : Snapshot)
    → o ≡ Some s → Brings loaded m over o → AreGiven over × LoadsAs loaded (kept_after m over) s.octets
brought loaded m over o s is b = subst (λ z. Brings loaded m over z) is b

pub gone : {P : Type 0} (o : Option Snapshot) (s : Snapshot) → o ≡ Some s → o ≡ None → P
gone o s is none = let z : ◌≡◌ {A = Option Snapshot} (Some s) None = sym is ∙ none in absurd (cc)

-- the entries that it goes on from

pub above_snapshot : {B : Type 0} (o : Option Snapshot) (s : Snapshot) (new old es : List (Entry B)) → o ≡ Some s → new ≡ es
    → new ≡ above_of o old ++ es
above_snapshot o s new old es is h = subst (λ z. new ≡ above_of z old ++ es) (sym is) h

pub above_log : {B : Type 0} (o : Option Snapshot) (new old es : List (Entry B)) → o ≡ None → new ≡ old ++ es → new ≡ above_of o old ++ es
above_log o new old es is h = subst (λ z. new ≡ above_of z old ++ es) (sym is) h

module _ {B M S Y : Type 0} (m : Machine B S Y) (under over : List (Entry B)) (o : Option Snapshot) (f g : Followed B M Y) where
  -- what it was handed then
  abbrev pub Hands : ℕ → ℕ → List (Entry B) → List (Entry B) → Type 0
  Hands node boot log es = (t : Transport) → said_in t g.told ≡ said_in t f.told ++ handed_to m t node boot log es

  pub hands_snapshot : (s : Snapshot) (node boot : ℕ) (old es : List (Entry B)) → o ≡ Some s → Hands node boot over es
      → Hands node boot (base_of o under over ++ above_of o old) es
  hands_snapshot s node boot old es is h =
      subst (λ z. Hands node boot (base_of z under over ++ above_of z old) es) (sym is)
      (subst (λ log. Hands node boot log es) (sym (append-nil over)) h)

  pub hands_log : (node boot : ℕ) (old es : List (Entry B)) → o ≡ None → Hands node boot (under ++ old) es
      → Hands node boot (base_of o under over ++ above_of o old) es
  hands_log node boot old es is h = subst (λ z. Hands node boot (base_of z under over ++ above_of z old) es) (sym is) h
