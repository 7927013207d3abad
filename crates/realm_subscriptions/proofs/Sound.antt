-- What each change keeps: ids rise, each text and match has one subscription, and each subscription its members, each of them once.
use Rattle.std.proofs.Common.{◌≡◌, ◌≢◌, ℕ, ◌+◌, ◌<◌, ◌≤◌, ◌==◌, Bool, true, false, not, nat_lt, List, [], ◌∷◌, length, map, filter}
use Rattle.std.proofs.Common.{find, Option, None, Some, Ok, Err, refl, sym, ap, subst, ◌∙◌, arith, length-append, if◌then◌else◌}
use Rattle.std.specs.List.{All, AllPairs}
use Rattle.std.proofs.lemmas.Bool.{cond_both, both_ways, eqb-false, ltb-true, cond-true, cond-false, or_parts, not-false}
use Rattle.std.proofs.lemmas.List.Elements.{All-nil, All-cons, All-head, All-tail, All-map, All-weaker, All-push, All-filter}
use Rattle.std.proofs.lemmas.List.Kept.{AllPairs-cons, AllPairs-filter}
use Rattle.std.proofs.lemmas.List.Quantifiers.{all_pairs_push}
use Rattle.wamp_ids.specs.Id.{last_id}
use Rattle.wamp_ids.specs.Pattern.{PatternValue}
use Rattle.wamp_patterns.proofs.Order.{kept_as_one}
use Rattle.realm_sessions.specs.declared.fault.RealmFault.TheVariants.{Limit}
use Rattle.realm_sessions.proofs.Pairs.{AllPairs-nil, AllPairs-head, AllPairs-tail, AllPairs-map, All-none, All-not_found}
use Rattle.realm_subscriptions.specs.declared.subscription.Subscription.{Subscription}
use Rattle.realm_subscriptions.specs.Subscription.{is_on, is_member, is_held, is_kept, with_member, without_member}
use Rattle.realm_subscriptions.specs.Subscriptions.{Subscriptions, with_list, subscription_on, count_of, is_full}
use Rattle.realm_subscriptions.specs.Subscriptions.{put_first, change_first}
use Rattle.realm_subscriptions.specs.Subscribing.{Subscribed, join, add, unless_full, subscribe_to}
use Rattle.realm_subscriptions.specs.Leaving.{left}
use Rattle.realm_subscriptions.specs.Laws.{IsSoundSubscription, AreSoundSubscriptions, NoneAreSound, SubscribeKeepsSound}
use Rattle.realm_subscriptions.specs.Laws.{UnsubscribeKeepsSound, LeaveKeepsSound}

some_is : {X : Type 0} {x y : X} → Some x ≡ Some y → x ≡ y
some_is h = cc

none_is : {X : Type 0} {x : X} → None ≡ Some x → ⊥
none_is h = cc

abbrev Rise : Subscription → Subscription → Type 0
Rise a b = a.id < b.id

abbrev Differ : Subscription → Subscription → Type 0
Differ a b = a.pattern ≢ b.pattern

abbrev AreApart : ℕ → ℕ → Type 0
AreApart a b = a ≢ b

pub nothing_sound : NoneAreSound
nothing_sound limit = record {
  ids = AllPairs-nil Rise;
  handed_out = All-nil (λ (s : Subscription). s.id ≤ 0);
  last = omega arith;
  one_each = AllPairs-nil Differ;
  each = All-nil IsSoundSubscription;
}

-- ---- the first that passes a test is changed, or taken out

module _ (test : Subscription → Bool) (change : Subscription → Option Subscription) where
  All-put : (P : Subscription → Type 0) (o : Option Subscription) (rest : List Subscription) → ((y : Subscription) → o ≡ Some y → P y)
      → All P rest → All P (put_first o rest)
  All-put P None rest made each = each
  All-put P (Some y) rest made each = All-cons P y rest (made y refl) each

  All-changed : (P : Subscription → Type 0) (xs : List Subscription)
      → ((x y : Subscription) → find test xs ≡ Some x → change x ≡ Some y → P x → P y) → All P xs → All P (change_first test change xs)
  All-changed P [] made each = each
  All-changed P (x ∷ xs) made each =
      cond_both (test x) (put_first (change x) xs) (x ∷ change_first test change xs) (All P)
      (λ yes. All-put P (change x) xs (λ y is. made x y (cond-true (test x) (Some x) (find test xs) yes) is (All-head P x xs each))
      (All-tail P x xs each))
      (λ no. All-cons P x (change_first test change xs) (All-head P x xs each)
      (All-changed P xs (λ y z is. made y z (cond-false (test x) (Some x) (find test xs) no ∙ is)) (All-tail P x xs each)))

  AllPairs-put : (R : Subscription → Subscription → Type 0) (x : Subscription) (o : Option Subscription) (rest : List Subscription)
      → ((y b : Subscription) → o ≡ Some y → R x b → R y b) → AllPairs R (x ∷ rest) → AllPairs R (put_first o rest)
  AllPairs-put R x None rest made pairs = AllPairs-tail R x rest pairs
  AllPairs-put R x (Some y) rest made pairs =
      AllPairs-cons R y rest (All-weaker (R x) (R y) (λ b. made y b refl) rest (AllPairs-head R x rest pairs)) (AllPairs-tail R x rest pairs)

  AllPairs-changed : (R : Subscription → Subscription → Type 0) (xs : List Subscription)
      → ((a x y : Subscription) → change x ≡ Some y → R a x → R a y) → ((x y b : Subscription) → change x ≡ Some y → R x b → R y b)
      → AllPairs R xs → AllPairs R (change_first test change xs)
  AllPairs-changed R [] after before pairs = pairs
  AllPairs-changed R (x ∷ xs) after before pairs =
      cond_both (test x) (put_first (change x) xs) (x ∷ change_first test change xs) (AllPairs R)
      (λ _. AllPairs-put R x (change x) xs (before x) pairs)
      (λ _. AllPairs-cons R x (change_first test change xs)
      (All-changed (R x) xs (λ y z _ is. after x y z is) (AllPairs-head R x xs pairs))
      (AllPairs-changed R xs after before (AllPairs-tail R x xs pairs)))

-- a change of members alone
record KeepsNames (change : Subscription → Option Subscription) : Type 0 where
  id : (x y : Subscription) → change x ≡ Some y → y.id ≡ x.id
  pattern : (x y : Subscription) → change x ≡ Some y → y.pattern ≡ x.pattern

changed_sound : (s : Subscriptions) (test : Subscription → Bool) (change : Subscription → Option Subscription) → KeepsNames change
    → ((x y : Subscription) → find test s.list ≡ Some x → change x ≡ Some y → IsSoundSubscription x → IsSoundSubscription y)
    → AreSoundSubscriptions s → AreSoundSubscriptions (with_list s (change_first test change s.list))
changed_sound s test change keeps each ok = record {
  ids = AllPairs-changed test change Rise s.list
      (λ a x y is h. let same = keeps.id x y is in omega (arith, same, h))
      (λ x y b is h. let same = keeps.id x y is in omega (arith, same, h)) ok.ids;
  handed_out = All-changed test change (λ (x : Subscription). x.id ≤ s.last) s.list
      (λ x y _ is h. let same = keeps.id x y is in omega (arith, same, h)) ok.handed_out;
  last = ok.last;
  one_each = AllPairs-changed test change Differ s.list
      (λ a x y is apart same. apart (same ∙ keeps.pattern x y is))
      (λ x y b is apart same. apart (sym (keeps.pattern x y is) ∙ same)) ok.one_each;
  each = All-changed test change IsSoundSubscription s.list each ok.each;
}

-- ---- a session comes

-- a member more, which was none before
one_more : (session : ℕ) (s : Subscription) → is_member session s ≡ false → IsSoundSubscription s
    → IsSoundSubscription (with_member session s)
one_more session s new ok =
    let apart : All (λ (m : ℕ). m ≢ session) s.members = All-weaker (λ (m : ℕ). (m == session) ≡ false) (λ (m : ℕ). m ≢ session)
    (λ m off. eqb-false m session off) s.members (All-none (λ (m : ℕ). m == session) s.members new) in
    record {
      members = all_pairs_push AreApart s.members session ok.members (λ k d within. apart k d within);
      held = let long = length-append s.members (session ∷ []) in omega arith;
    }

joined_sound : (s : Subscriptions) (session : ℕ) (pattern : PatternValue) (found : Subscription)
    → subscription_on s pattern ≡ Some found → is_member session found ≡ false → AreSoundSubscriptions s
    → AreSoundSubscriptions (join s session pattern)
joined_sound s session pattern found is new ok =
    changed_sound s (is_on pattern) (λ x. Some (with_member session x))
    (record {
      id = λ x y made. ap (λ (z : Subscription). z.id) (sym (some_is made));
      pattern = λ x y made. ap (λ (z : Subscription). z.pattern) (sym (some_is made));
    })
    (λ x y first made fine. subst IsSoundSubscription (some_is made)
    (one_more session x (subst (λ z. is_member session z ≡ false) (some_is (sym is ∙ first)) new) fine)) ok

alone : (session : ℕ) → AllPairs AreApart (session ∷ [])
alone session i j d before within = absurd (omega arith)

on_pattern : (pattern : PatternValue) (s : Subscription) → s.pattern ≡ pattern → is_on pattern s ≡ true
on_pattern pattern s h = (kept_as_one s.pattern pattern).1 h

added_sound : (s : Subscriptions) (session : ℕ) (pattern : PatternValue) → subscription_on s pattern ≡ None → s.last < last_id
    → AreSoundSubscriptions s → AreSoundSubscriptions (add s session pattern)
added_sound s session pattern none room ok =
    let new : Subscription = record { id = s.last + 1; pattern = pattern; members = session ∷ [] } in
    let below : All (λ (x : Subscription). x.id ≤ s.last + 1) s.list =
    All-weaker (λ (x : Subscription). x.id ≤ s.last) (λ (x : Subscription). x.id ≤ s.last + 1) (λ x h. omega arith) s.list ok.handed_out in
    let rise : All (λ (x : Subscription). Rise x new) s.list =
    All-weaker (λ (x : Subscription). x.id ≤ s.last) (λ (x : Subscription). Rise x new) (λ x h. omega arith) s.list ok.handed_out in
    let differ : All (λ (x : Subscription). Differ x new) s.list =
    All-weaker (λ (x : Subscription). is_on pattern x ≡ false) (λ (x : Subscription). Differ x new)
    (λ x off same. both_ways (is_on pattern x) off (on_pattern pattern x same)) s.list (All-not_found (is_on pattern) s.list none) in
    record {
      ids = all_pairs_push Rise s.list new ok.ids (λ k d within. rise k d within);
      handed_out = All-push (λ (x : Subscription). x.id ≤ s.last + 1) s.list new below (omega arith);
      last = omega arith;
      one_each = all_pairs_push Differ s.list new ok.one_each (λ k d within. differ k d within);
      each = All-push IsSoundSubscription s.list new ok.each (record { members = alone session; held = omega arith });
    }

-- if a session may have one more, an id is left
id_left : (s : Subscriptions) (session : ℕ) → is_full s session ≡ false → s.last < last_id
id_left s session h =
    let parts = or_parts (not (nat_lt (count_of s session) s.limit)) (not (nat_lt s.last last_id)) h in
    ltb-true s.last last_id (not-false (nat_lt s.last last_id) parts.1)

unless_full_sound : (s : Subscriptions) (session id : ℕ) (changed : Subscriptions)
    → (is_full s session ≡ false → AreSoundSubscriptions changed) → AreSoundSubscriptions s
    → AreSoundSubscriptions (unless_full s session id changed).subscriptions
unless_full_sound s session id changed more ok =
    cond_both (is_full s session) (record { subscriptions = s; answer = Err Limit }) (record { subscriptions = changed; answer = Ok id })
    (λ (d : Subscribed). AreSoundSubscriptions d.subscriptions) (λ _. ok) more

subscribe_to_sound : (s : Subscriptions) (session : ℕ) (pattern : PatternValue) (o : Option Subscription) → subscription_on s pattern ≡ o
    → AreSoundSubscriptions s → AreSoundSubscriptions (subscribe_to s session pattern o).subscriptions
subscribe_to_sound s session pattern None none ok =
    unless_full_sound s session (s.last + 1) (add s session pattern)
    (λ room. added_sound s session pattern none (id_left s session room) ok) ok
subscribe_to_sound s session pattern (Some found) is ok =
    cond_both (is_member session found) (record { subscriptions = s; answer = Ok found.id })
    (unless_full s session found.id (join s session pattern)) (λ (d : Subscribed). AreSoundSubscriptions d.subscriptions) (λ _. ok)
    (λ new. unless_full_sound s session found.id (join s session pattern)
    (λ _. joined_sound s session pattern found is new ok) ok)

pub subscribe_sound : SubscribeKeepsSound
subscribe_sound s session pattern ok = subscribe_to_sound s session pattern (subscription_on s pattern) refl ok

-- ---- a session leaves

-- what is left of a subscription, if anything is
what_left : (session : ℕ) (x y : Subscription) → left session x ≡ Some y
    → (without_member session x ≡ y) × (is_kept (without_member session x) ≡ true)
what_left session x y = go (is_kept (without_member session x)) refl
  where
    go : (b : Bool) → is_kept (without_member session x) ≡ b → (if b then Some (without_member session x) else None) ≡ Some y
        → (without_member session x ≡ y) × (is_kept (without_member session x) ≡ true)
    go true e h = (some_is h, e)
    go false e h = absurd (none_is h)

once_less : (session : ℕ) (x : Subscription) → IsSoundSubscription x → AllPairs AreApart (without_member session x).members
once_less session x ok = AllPairs-filter AreApart (λ member. not (member == session)) x.members ok.members

less_sound : (session : ℕ) (x : Subscription) → is_kept (without_member session x) ≡ true → IsSoundSubscription x
    → IsSoundSubscription (without_member session x)
less_sound session x kept ok =
    record { members = once_less session x ok; held = ltb-true 0 (length (without_member session x).members) kept }

pub unsubscribe_sound : UnsubscribeKeepsSound
unsubscribe_sound s session id ok =
    changed_sound s (is_held session id) (left session)
    (record {
      id = λ x y made. ap (λ (z : Subscription). z.id) (sym (what_left session x y made).0);
      pattern = λ x y made. ap (λ (z : Subscription). z.pattern) (sym (what_left session x y made).0);
    })
    (λ x y _ made fine. let is = what_left session x y made in
    subst IsSoundSubscription is.0 (less_sound session x is.1 fine)) ok

-- what passes a test is as it was, and passes it
All-passed : {X : Type 0} (test : X → Bool) (P : X → Type 0) (xs : List X) → All P xs
    → All (λ x. P x × (test x ≡ true)) (filter test xs)
All-passed test P [] h = All-nil (λ x. P x × (test x ≡ true))
All-passed test P (x ∷ xs) h =
    let rest = All-passed test P xs (All-tail P x xs h) in
    cond_both (test x) (x ∷ filter test xs) (filter test xs) (All (λ x. P x × (test x ≡ true)))
    (λ passes. All-cons (λ x. P x × (test x ≡ true)) x (filter test xs) (All-head P x xs h, passes) rest) (λ _. rest)

-- each member is in it once
abbrev HasEachOnce : Subscription → Type 0
HasEachOnce s = AllPairs AreApart s.members

pub leave_sound : LeaveKeepsSound
leave_sound s session ok =
    let f = without_member session in
    let low = λ (x : Subscription). x.id ≤ s.last in
    let once : All HasEachOnce (map f s.list) =
    All-map HasEachOnce f s.list (All-weaker IsSoundSubscription (λ (x : Subscription). HasEachOnce (f x))
    (λ x fine. once_less session x fine) s.list ok.each) in
    record {
      ids = AllPairs-filter Rise is_kept (map f s.list) (AllPairs-map f low Rise Rise (λ a b _ _ h. h) s.list ok.handed_out ok.ids);
      handed_out = All-filter is_kept low (map f s.list) (All-map low f s.list (All-weaker low (λ x. low (f x)) (λ x h. h) s.list ok.handed_out));
      last = ok.last;
      one_each = AllPairs-filter Differ is_kept (map f s.list)
          (AllPairs-map f low Differ Differ (λ a b _ _ h. h) s.list ok.handed_out ok.one_each);
      each = All-weaker (λ (x : Subscription). HasEachOnce x × (is_kept x ≡ true)) IsSoundSubscription
          (λ x h. record { members = h.0; held = ltb-true 0 (length x.members) h.1 }) (filter is_kept (map f s.list))
          (All-passed is_kept HasEachOnce (map f s.list) once);
    }
