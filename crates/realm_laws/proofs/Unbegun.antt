-- A realm that follows a log without a boot's Boot is told no act of that boot's transports, so it says nothing to them.
use Rattle.std.proofs.Common.{◌≡◌, ⊎_elim, ℕ, ◌+◌, ◌==◌, Bool, true, false, not, ◌&&◌, refl, ap, ◌∙◌, subst}
use Rattle.std.proofs.Common.{List, [], ◌∷◌, ◌++◌, filter, Option, None, Some, if◌then◌else◌}
use Rattle.std.specs.List.{filter_map, cons_option}
use Rattle.std.proofs.lemmas.Bool.{cond_both, cond-false, false≢true, false_from_ne_true, not_from_true, and_parts, and_from, eqb-true}
use Rattle.std.proofs.lemmas.Bool.{eq-eqb, both_ways}
use Rattle.paxos_packets.specs.declared.entry.Entry.{Entry}
use Rattle.paxos_packets.specs.declared.entry.Entry.TheVariants.{Noop, Boot, Lost, Item}
use Rattle.paxos_packets.specs.declared.transport.Transport.{Transport}
use Rattle.paxos_packets.specs.Transport.{same_transport}
use Rattle.replica_machine.specs.declared.input.Input.{Input}
use Rattle.replica_machine.specs.declared.roll.Standing.{Standing}
use Rattle.replica_machine.specs.declared.roll.Standing.TheVariants.{Unknown, Live, Gone}
use Rattle.replica_machine.specs.Effects.{is_boot, effective}
use Rattle.replica_machine.specs.Replay.{input_of, inputs, sayings, sayings_from}
use Rattle.replica_machine.specs.Roll.{is_new_boot, is_live, is_next, gone, standing, standing_after, standing_from, takes_effect}
use Rattle.replica_machine.specs.Roll.{effective_behind}
use Rattle.replica_machine.proofs.Places.{effective_append}
use Rattle.realm_acts.specs.declared.act.Act.{Act}
use Rattle.realm_machine.specs.declared.sayings.say.Say.{Say}
use Rattle.realm_machine.specs.Config.{Config}
use Rattle.realm_machine.specs.Content.{Content, empty}
use Rattle.realm_machine.specs.Step.{after_input, said_at}
use Rattle.realm_machine.specs.Machine.{realm_of}
use Rattle.realm_sessions.proofs.SoundLinks.{same_is}
use Rattle.realm_laws.specs.Unbegun.{UnbegunAreToldNothing}
use Rattle.realm_laws.proofs.Has.{Has, in_front, further, has_cons, has_nil, has_either, has_last, some_is, All-has}
use Rattle.realm_laws.proofs.Known.{AreFor, for_none, for_both}
use Rattle.realm_laws.proofs.Minding.{Knows}
use Rattle.realm_laws.proofs.Minded.{IsOf, input_minds}

-- ---- a boot that has not begun is not live

-- no entry is its Boot
abbrev Unbegun : ℕ → ℕ → List (Entry Act) → Type 0
Unbegun n b log = (e : Entry Act) → Has log e → is_boot n b e ≡ false

boot_live : (n b k c : ℕ) (s : Standing) → ((k == n) && (c == b)) ≡ false → is_live s b ≡ false
    → is_live (if (k == n) && is_new_boot s c then Live c 0 else s) b ≡ false
boot_live n b k c s off not_yet =
    cond_both ((k == n) && is_new_boot s c) (Live c 0) s (λ (z : Standing). is_live z b ≡ false)
    (λ t. false_from_ne_true (c == b)
    (λ e. both_ways ((k == n) && (c == b)) off (and_from (k == n) (c == b) (and_parts (k == n) (is_new_boot s c) t).0 e)))
    (λ _. not_yet)

gone_live : (s : Standing) (b : ℕ) → is_live (gone s) b ≡ false
gone_live Unknown b = refl
gone_live (Live c taken) b = refl
gone_live (Gone c) b = refl

item_live : (s : Standing) (b c q : ℕ) → is_next s c q ≡ true → is_live s b ≡ false → is_live (Live c q) b ≡ false
item_live Unknown b c q h off = absurd (false≢true h)
item_live (Live d taken) b c q h off =
    let same : d ≡ c = eqb-true d c (and_parts (d == c) (q == taken + 1) h).0 in
    subst (λ (m : ℕ). (m == b) ≡ false) same off
item_live (Gone d) b c q h off = absurd (false≢true h)

live_after : (n b : ℕ) (s : Standing) (e : Entry Act) → is_boot n b e ≡ false → is_live s b ≡ false
    → is_live (standing_after n s e) b ≡ false
live_after n b s Noop off not_yet = not_yet
live_after n b s (Boot k c) off not_yet = boot_live n b k c s off not_yet
live_after n b s (Lost k c) off not_yet =
    cond_both ((k == n) && is_live s c) (gone s) s (λ (z : Standing). is_live z b ≡ false) (λ _. gone_live s b) (λ _. not_yet)
live_after n b s (Item k c q t x) off not_yet =
    cond_both ((k == n) && is_next s c q) (Live c q) s (λ (z : Standing). is_live z b ≡ false)
    (λ h. item_live s b c q (and_parts (k == n) (is_next s c q) h).1 not_yet) (λ _. not_yet)

not_live_from : (n b : ℕ) (s : Standing) (log : List (Entry Act)) → Unbegun n b log → is_live s b ≡ false
    → is_live (standing_from n s log) b ≡ false
not_live_from n b s [] off not_yet = not_yet
not_live_from n b s (e ∷ log) off not_yet =
    not_live_from n b (standing_after n s e) log (λ x h. off x (further h)) (live_after n b s e (off e in_front) not_yet)

next_live : (s : Standing) (b q : ℕ) → is_next s b q ≡ true → is_live s b ≡ true
next_live Unknown b q h = absurd (false≢true h)
next_live (Live c taken) b q h = (and_parts (c == b) (q == taken + 1) h).0
next_live (Gone c) b q h = absurd (false≢true h)

-- ---- so no input is an act of its transports

-- not of this node and boot
abbrev is_foreign : ℕ → ℕ → Transport → Bool
is_foreign n b u = not ((u.node == n) && (u.boot == b))

entry_foreign : (n b : ℕ) (before : List (Entry Act)) (e : Entry Act) (i : Input Act) → Unbegun n b before
    → takes_effect before e ≡ true → input_of e ≡ Some i → IsOf (is_foreign n b) i
entry_foreign n b before Noop i off h is = absurd (false≢true h)
entry_foreign n b before (Boot k c) i off h is = subst (IsOf (is_foreign n b)) (some_is is) tt
entry_foreign n b before (Lost k c) i off h is = subst (IsOf (is_foreign n b)) (some_is is) tt
entry_foreign n b before (Item k c q t x) i off h is =
    subst (IsOf (is_foreign n b)) (some_is is)
    (ap not (false_from_ne_true ((k == n) && (c == b))
    (λ e.
    let parts = and_parts (k == n) (c == b) e in
    let moved : is_next (standing n before) b q ≡ true =
    subst (λ (m : ℕ). is_next (standing n before) m q ≡ true) (eqb-true c b parts.1)
    (subst (λ (m : ℕ). is_next (standing m before) c q ≡ true) (eqb-true k n parts.0) h) in
    both_ways (is_live (standing n before) b) (not_live_from n b Unknown before off refl)
    (next_live (standing n before) b q moved))))

abbrev AllOf : (Transport → Bool) → List (Input Act) → Type 0
AllOf P is = (i : Input Act) → Has is i → IsOf P i

has_mapped : {A B : Type 0} (f : A → Option B) (xs : List A) {y : B} → Has (filter_map f xs) y → (x : A) × Has xs x × (f x ≡ Some y)
has_mapped f [] h = absurd (has_nil h)
has_mapped {A} {B} f (x ∷ xs) {y} h = by (f x) refl (λ g. has_mapped f xs g) h
  where
    by : (o : Option B) → f x ≡ o → (Has (filter_map f xs) y → (x : A) × Has xs x × (f x ≡ Some y))
        → Has (cons_option o (filter_map f xs)) y → (z : A) × Has (x ∷ xs) z × (f z ≡ Some y)
    by None e rest g = let z = rest g in (z.0, further z.1, z.2)
    by (Some w) e rest g =
        ⊎_elim (λ s. (x, in_front, e ∙ ap (λ (v : B). Some v) s)) (λ r. let z = rest r in (z.0, further z.1, z.2)) (has_cons g)

behind_foreign : (n b : ℕ) (before es : List (Entry Act)) → Unbegun n b before → Unbegun n b es
    → (e : Entry Act) → Has (effective_behind before es) e → (i : Input Act) → input_of e ≡ Some i → IsOf (is_foreign n b) i
behind_foreign n b before [] old off e h i is = absurd (has_nil h)
behind_foreign n b before (first ∷ rest) old off e h i is =
    ⊎_elim
    (λ a. cond_both (takes_effect before first) (first ∷ []) [] (λ (l : List (Entry Act)). Has l e → IsOf (is_foreign n b) i)
    (λ t g. ⊎_elim (λ s. entry_foreign n b before first i old t (ap input_of s ∙ is)) (λ r. absurd (has_nil r)) (has_cons g))
    (λ _ g. absurd (has_nil g)) a)
    (λ r. behind_foreign n b (before ++ first ∷ []) rest
    (λ x g. ⊎_elim (λ o. old x o) (λ s. subst (λ (y : Entry Act). is_boot n b y ≡ false) s (off first in_front)) (has_last before first g))
    (λ x g. off x (further g)) e r i is)
    (has_either (if takes_effect before first then first ∷ [] else []) (effective_behind (before ++ first ∷ []) rest) h)

inputs_foreign : (n b : ℕ) (log : List (Entry Act)) → Unbegun n b log → AllOf (is_foreign n b) (inputs log)
inputs_foreign n b log off i h =
    let from = has_mapped input_of (effective log) h in
    behind_foreign n b [] log (λ e g. absurd (has_nil g)) off from.0
    (subst (λ (l : List (Entry Act)). Has l from.0) (effective_append [] log) from.1) i from.2

-- ---- so nothing is said to them

said_from : (P : Transport → Bool) (config : Config) (c : Content) (is : List (Input Act)) → AllOf P is → Knows P c
    → AreFor P (sayings_from (realm_of config) c is)
said_from P config c [] all it = for_none P
said_from P config c (i ∷ is) all it =
    let minds = input_minds P config c i (all i in_front) it in
    for_both P (said_at config c i) (sayings_from (realm_of config) (after_input config c i) is) minds.says
    (said_from P config (after_input config c i) is (λ j h. all j (further h)) minds.knows)

knows_nobody : (P : Transport → Bool) (config : Config) → Knows P (empty config.limits)
knows_nobody P config = record {
  links = λ link h. absurd (has_nil h);
  registrations = λ it h. absurd (has_nil h);
  subscriptions = λ it h. absurd (has_nil h);
}

none_kept : {A : Type 0} (test : A → Bool) (xs : List A) → ((x : A) → Has xs x → test x ≡ false) → filter test xs ≡ []
none_kept test [] h = refl
none_kept test (x ∷ xs) h =
    cond-false (test x) (x ∷ filter test xs) (filter test xs) (h x in_front) ∙ none_kept test xs (λ y g. h y (further g))

-- a transport is of its own node and boot
own : (t : Transport) → is_foreign t.node t.boot t ≡ false
own t =
    not_from_true ((t.node == t.node) && (t.boot == t.boot))
    (and_from (t.node == t.node) (t.boot == t.boot) (eq-eqb t.node t.node refl) (eq-eqb t.boot t.boot refl))

pub unbegun_told_nothing : UnbegunAreToldNothing
unbegun_told_nothing config log t off =
    let P : Transport → Bool = is_foreign t.node t.boot in
    let foreign = said_from P config (empty config.limits) (inputs log)
    (inputs_foreign t.node t.boot log (λ e h. All-has (λ (x : Entry Act). is_boot t.node t.boot x ≡ false) off h))
    (knows_nobody P config) in
    none_kept (λ (y : Say). same_transport y.transport t) (sayings (realm_of config) log)
    (λ it h. false_from_ne_true (same_transport it.transport t)
    (λ e. both_ways (P t) (own t) (subst (λ (u : Transport). P u ≡ true) (same_is it.transport t e) (foreign it h))))
