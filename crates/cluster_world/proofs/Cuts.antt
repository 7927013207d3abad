-- What a snapshot stands for: the log of the first cut that made it, which later cuts leave as it is.
use Rattle.std.proofs.Common.{◌≡◌, ⊎_elim, Bool, true, false, refl, sym, ap, ◌∙◌, List, [], ◌∷◌, ◌++◌, Option, Some, None}
use Rattle.std.proofs.Common.{append-nil}
use Rattle.std.specs.List.{find}
use Rattle.std.specs.Option.{option_map_or}
use Rattle.std.proofs.lemmas.Bool.{cond_both, cond-true, cond-false}
use Rattle.cluster_world.proofs.Lists.{has_cons, has_nil, has_left}
use Rattle.cluster_world.specs.Has.{Has, here, there}
use Rattle.cluster_world.specs.World.{Cut, under}
use Rattle.paxos_packets.specs.Snapshot.{Snapshot, same_snapshot, snapshot_same, snapshot_sound}
use Rattle.paxos_packets.specs.declared.entry.Entry.{Entry}

off : false ≡ true → ⊥
off e = cc

-- the snapshot was cut
pub record IsCut {B : Type 0} (cuts : List (Cut B)) (s : Snapshot) : Type 0 where
  pub cut : Cut B
  pub has : Has cuts cut
  pub same : cut.snapshot ≡ s

-- it has none, or one that was cut
abbrev pub RestsOnCut : {B : Type 0} → List (Cut B) → Option Snapshot → Type 0
RestsOnCut cuts o = (s : Snapshot) → o ≡ Some s → IsCut cuts s

pub cut_more : {B : Type 0} (cuts more : List (Cut B)) (s : Snapshot) → IsCut cuts s → IsCut (cuts ++ more) s
cut_more cuts more s h = record { cut = h.cut; has = has_left more h.has; same = h.same }

-- one that is not the first
later : {B : Type 0} (c : Cut B) (cs : List (Cut B)) (s : Snapshot) → same_snapshot c.snapshot s ≡ false → IsCut (c ∷ cs) s → IsCut cs s
later {B} c cs s t h =
    ⊎_elim
    (λ (e : c ≡ h.cut). absurd (off (sym t ∙ (ap (λ z. same_snapshot z s) (ap (λ (d : Cut B). d.snapshot) e ∙ h.same) ∙ snapshot_same s))))
    (λ r. record { cut = h.cut; has = r; same = h.same })
    (has_cons h.has)

abbrev logs_in : {B : Type 0} → Option (Cut B) → List (Entry B)
logs_in o = option_map_or (λ c. c.log) o []

-- the first one is found
pub under_found : {B : Type 0} (cuts : List (Cut B)) (s : Snapshot) → IsCut cuts s
    → (c : Cut B) × Has cuts c × (c.snapshot ≡ s) × (under cuts (Some s) ≡ c.log)
under_found [] s h = absurd (has_nil h.has)
under_found {B} (c ∷ cs) s h =
    cond_both (same_snapshot c.snapshot s) (Some c) (find (λ (d : Cut B). same_snapshot d.snapshot s) cs)
    (λ o. (d : Cut B) × Has (c ∷ cs) d × (d.snapshot ≡ s) × (logs_in o ≡ d.log))
    (λ t. (c, here, snapshot_sound c.snapshot s t, refl))
    (λ t. let r = under_found cs s (later c cs s t h) in (r.0, there r.1, r.2, r.3))

pub under_grows : {B : Type 0} (cuts more : List (Cut B)) (s : Snapshot) → IsCut cuts s → under (cuts ++ more) (Some s) ≡ under cuts (Some s)
under_grows [] more s h = absurd (has_nil h.has)
under_grows {B} (c ∷ cs) more s h = go (same_snapshot c.snapshot s) refl (λ t. under_grows cs more s (later c cs s t h))
  where
    test : Cut B → Bool
    test d = same_snapshot d.snapshot s

    go : (b : Bool) → same_snapshot c.snapshot s ≡ b
        → (same_snapshot c.snapshot s ≡ false → under (cs ++ more) (Some s) ≡ under cs (Some s))
        → under ((c ∷ cs) ++ more) (Some s) ≡ under (c ∷ cs) (Some s)
    go true t rest =
        ap logs_in (cond-true (same_snapshot c.snapshot s) (Some c) (find test (cs ++ more)) t)
        ∙ sym (ap logs_in (cond-true (same_snapshot c.snapshot s) (Some c) (find test cs) t))
    go false t rest =
        ap logs_in (cond-false (same_snapshot c.snapshot s) (Some c) (find test (cs ++ more)) t)
        ∙ (rest t ∙ sym (ap logs_in (cond-false (same_snapshot c.snapshot s) (Some c) (find test cs) t)))

pub under_kept : {B : Type 0} (cuts more : List (Cut B)) (o : Option Snapshot) → RestsOnCut cuts o → under (cuts ++ more) o ≡ under cuts o
under_kept cuts more None h = refl
under_kept cuts more (Some s) h = under_grows cuts more s (h s refl)

-- no cut more
pub under_same : {B : Type 0} (cuts : List (Cut B)) (o : Option Snapshot) → under (cuts ++ []) o ≡ under cuts o
under_same cuts o = ap (λ l. under l o) (append-nil cuts)

-- what holds of the empty log and of each one that was cut holds of it
pub under_each : {B : Type 0} (P : List (Entry B) → Type 0) → P [] → (cuts : List (Cut B)) → ((c : Cut B) → Has cuts c → P c.log)
    → (o : Option Snapshot) → P (under cuts o)
under_each P none cuts each None = none
under_each P none [] each (Some s) = none
under_each {B} P none (c ∷ cs) each (Some s) =
    cond_both (same_snapshot c.snapshot s) (Some c) (find (λ (d : Cut B). same_snapshot d.snapshot s) cs) (λ o. P (logs_in o))
    (λ t. each c here) (λ t. under_each P none cs (λ d h. each d (there h)) (Some s))
