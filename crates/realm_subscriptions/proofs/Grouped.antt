-- What the calls over groups of members leave is what subscriptions are defined to be left as.
use Rattle.std.proofs.Common.{◌≡◌, ℕ, ◌==◌, Bool, true, false, not, cond, ◌&&◌, List}
use Rattle.std.proofs.Common.{[], ◌∷◌, map, filter, find, Option, None, Some, refl, sym, ap, ◌∙◌}
use Rattle.std.specs.List.{All, list_any}
use Rattle.std.proofs.lemmas.Bool.{cond-true, cond-false, or_parts, false≢true}
use Rattle.std.proofs.lemmas.List.Elements.{All-head, All-tail}
use Rattle.realm_sessions.specs.Members.{has_member, others}
use Rattle.realm_groups.specs.Groups as groups
use Rattle.realm_subscriptions.specs.declared.subscription.Subscription.{Subscription}
use Rattle.realm_subscriptions.specs.Subscription.{is_held, is_kept, is_member, without_member}
use Rattle.realm_subscriptions.specs.Subscriptions.{Subscriptions, change_first, put_first, subscription_on}
use Rattle.realm_subscriptions.specs.Subscribing.{is_subscribed}
use Rattle.realm_subscriptions.specs.Leaving.{left}
use Rattle.wamp_ids.specs.Pattern.{PatternValue}

abbrev pub members_of : Subscription → List ℕ
members_of s = s.members

put_same : (o : Option Subscription) (rest : List Subscription) → groups.put_first o rest ≡ put_first o rest
put_same None rest = refl
put_same (Some x) rest = refl

pub same_change : (test : Subscription → Bool) (change : Subscription → Option Subscription) (list : List Subscription)
    → groups.change_first test change list ≡ change_first test change list
same_change test change [] = refl
same_change test change (x ∷ xs) =
    ap (λ (first : List Subscription). cond (test x) first (x ∷ groups.change_first test change xs)) (put_same (change x) xs)
    ∙ ap (λ (rest : List Subscription). cond (test x) (put_first (change x) xs) (x ∷ rest)) (same_change test change xs)

others_all : (session : ℕ) (xs : List ℕ) → has_member session xs ≡ false → others session xs ≡ xs
others_all session [] none = refl
others_all session (x ∷ xs) none =
    let parts = or_parts (x == session) (list_any (λ m. m == session) xs) none in
    cond-true (not (x == session)) (x ∷ others session xs) (others session xs) (ap not parts.0)
    ∙ ap (λ (ys : List ℕ). x ∷ ys) (others_all session xs parts.1)

abbrev gone : ℕ → Subscription → Option Subscription
gone session s = groups.departed members_of without_member session s

left_is : (session : ℕ) (x : Subscription) → is_member session x ≡ true → gone session x ≡ left session x
left_is session x on = cond-true (is_member session x) (groups.if_held members_of (without_member session x)) (Some x) on

left_step : (session : ℕ) (x : Subscription) (xs more rest : List Subscription) (b : Bool) (m : Bool) → is_member session x ≡ m
    → (b ≡ true → m ≡ true) → (b ≡ false → more ≡ rest)
    → cond b (groups.put_first (gone session x) xs) (x ∷ more) ≡ cond (b && m) (put_first (left session x) xs) (x ∷ rest)
left_step session x xs more rest true true is here same =
    ap (λ o. groups.put_first o xs) (left_is session x is) ∙ put_same (left session x) xs
left_step session x xs more rest true false is here same = absurd (false≢true (here refl))
left_step session x xs more rest false m is here same = ap (λ (ys : List Subscription). x ∷ ys) (same refl)

-- the session leaves the subscription of this id, of which it is a member
pub left_same : (session id : ℕ) (list : List Subscription)
    → groups.found_session members_of session (find (λ s. s.id == id) list) ≡ true
    → groups.change_first (λ s. s.id == id) (gone session) list ≡ change_first (is_held session id) (left session) list
left_same session id [] found = refl
left_same session id (x ∷ xs) found =
    let test : Subscription → Bool = λ s. s.id == id in
    left_step session x xs (groups.change_first test (gone session) xs) (change_first (is_held session id) (left session) xs) (x.id == id)
    (is_member session x) refl
    (λ h. sym (ap (groups.found_session members_of session) (cond-true (x.id == id) (Some x) (find test xs) h)) ∙ found)
    (λ h. left_same session id xs
    (sym (ap (groups.found_session members_of session) (cond-false (x.id == id) (Some x) (find test xs) h)) ∙ found))

-- or is none of its members
pub none_left : (test : Subscription → Bool) (change : Subscription → Option Subscription) (list : List Subscription)
    → list_any test list ≡ false → change_first test change list ≡ list
none_left test change [] none = refl
none_left test change (x ∷ xs) none =
    let parts = or_parts (test x) (list_any test xs) none in
    cond-false (test x) (put_first (change x) xs) (x ∷ change_first test change xs) parts.0
    ∙ ap (λ (ys : List Subscription). x ∷ ys) (none_left test change xs parts.1)

put_held : (x : Subscription) (xs ys : List Subscription) (b : Bool) → xs ≡ ys
    → groups.put_first (cond b (Some x) None) xs ≡ cond b (x ∷ ys) ys
put_held x xs ys true same = ap (λ (zs : List Subscription). x ∷ zs) same
put_held x xs ys false same = same

each_step : (session : ℕ) (x : Subscription) (more rest : List Subscription) (b : Bool) → is_member session x ≡ b → is_kept x ≡ true
    → more ≡ rest
    → groups.put_first (cond b (groups.if_held members_of (without_member session x)) (Some x)) more
    ≡ cond (is_kept (without_member session x)) (without_member session x ∷ rest) rest
each_step session x more rest true on held same = put_held (without_member session x) more rest (is_kept (without_member session x)) same
each_step session x more rest false off held same =
    let stays : without_member session x ≡ x =
    ap (λ (members : List ℕ). record x { members = members }) (others_all session x.members off) in
    ap (λ (ys : List Subscription). x ∷ ys) same
    ∙ sym (ap (λ (s : Subscription). cond (is_kept s) (s ∷ rest) rest) stays ∙ cond-true (is_kept x) (x ∷ rest) rest held)

-- the session leaves all of them
pub each_same : (session : ℕ) (list : List Subscription) → All (λ (s : Subscription). is_kept s ≡ true) list
    → groups.each (gone session) list ≡ filter is_kept (map (without_member session) list)
each_same session [] held = refl
each_same session (x ∷ xs) held =
    let Held : Subscription → Type 0 = λ s. is_kept s ≡ true in
    each_step session x (groups.each (gone session) xs) (filter is_kept (map (without_member session) xs)) (is_member session x) refl
    (All-head Held x xs held) (each_same session xs (All-tail Held x xs held))

pub not_subscribed : (subscriptions : Subscriptions) (session : ℕ) (pattern : PatternValue) → subscription_on subscriptions pattern ≡ None
    → is_subscribed subscriptions session pattern ≡ false
not_subscribed subscriptions session pattern none = rw none refl

pub subscribed_is : (subscriptions : Subscriptions) (session : ℕ) (pattern : PatternValue) (found : Subscription)
    → subscription_on subscriptions pattern ≡ Some found → is_subscribed subscriptions session pattern ≡ is_member session found
subscribed_is subscriptions session pattern found is = rw is refl
