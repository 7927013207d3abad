-- No packet lowers a promise.
use Rattle.std.proofs.Common.{◌≡◌, ℕ, Bool, true, false, not, ◌&&◌, ◌||◌, cond, ltb, eqb, Option, Some, None, refl, subst, arith}
use Rattle.std.proofs.lemmas.Bool.Decides.{nat_tests}
use Rattle.paxos_packets.specs.Ballot.{below}
use Rattle.paxos_packets.specs.Rows.{promise_change}
use Rattle.paxos_packets.specs.Snapshot as taken
use Rattle.paxos_packets.specs.declared.ballot.Ballot.{Ballot}
use Rattle.paxos_packets.specs.declared.vote.Vote.{Vote}
use Rattle.paxos_packets.specs.declared.packet.Kind.{Kind}
use Rattle.paxos_packets.specs.declared.packet.Kind.TheVariants.{Prepare, Promise, Accept, Accepted, Nack, Forward, Learned, Ask, Snapshot}
use Rattle.paxos_packets.specs.declared.rows.Rows.{Rows}
use Rattle.paxos_acceptor.specs.declared.verdict.Verdict.{Verdict}
use Rattle.paxos_acceptor.specs.declared.verdict.Answer.TheVariants.{ToSender}
use Rattle.std.specs.Option.{option_or}
use Rattle.paxos_acceptor.specs.Acceptor.{may_promise, may_accept, refused, promise_of, given_by, cast_or_shown, judged}

none : (m i : ℕ) → (ltb m m || (eqb m m && ltb i i)) ≡ false
none m i = grind (arith, nat_tests)

other_way : (m n i j : ℕ) → (ltb m n || (eqb m n && ltb i j)) ≡ true → (ltb n m || (eqb n m && ltb j i)) ≡ false
other_way m n i j e = grind (arith, nat_tests)

allowed : (b : Bool) → not b ≡ true → b ≡ false
allowed true e = cc
allowed false e = refl

abbrev Rises : {B : Type 0} → Rows B → Ballot → Verdict B → Type 0
Rises rows old v = (new : Ballot) × (option_or v.change.promised rows.promised ≡ Some new) × (below new old ≡ false)

stays : {B : Type 0} (rows : Rows B) (old : Ballot) → rows.promised ≡ Some old
    → (new : Ballot) × (rows.promised ≡ Some new) × (below new old ≡ false)
stays rows old p = (old, p, none old.round old.node)

on_prepare : {B : Type 0} (rows : Rows B) (b old : Ballot) (first : ℕ) → rows.promised ≡ Some old → (c : Bool)
    → may_promise rows.promised b ≡ c
    → Rises rows old
    (cond c (record { change = promise_change b; answer = ToSender (promise_of rows b first) }) (refused rows b))
on_prepare rows b old first p true e =
    let above : below old b ≡ true = subst (λ (o : Option Ballot). may_promise o b ≡ true) p e in
    (b, refl, other_way old.round b.round old.node b.node above)
on_prepare rows b old first p false e = stays rows old p

on_accept : {B : Type 0} (rows : Rows B) (v : Vote B) (old : Ballot) → rows.promised ≡ Some old → (c : Bool)
    → may_accept rows.promised v.ballot ≡ c
    → Rises rows old (cond c (cast_or_shown (given_by rows.snapshot v.slot) v) (refused rows v.ballot))
on_accept {B} rows v old p true e = either (given_by rows.snapshot v.slot)
  where
    either : (s : Option taken.Snapshot) → Rises rows old (cast_or_shown s v)
    either None =
        (v.ballot, refl, allowed (below v.ballot old) (subst (λ (o : Option Ballot). may_accept o v.ballot ≡ true) p e))
    either (Some s) = stays rows old p
on_accept rows v old p false e = stays rows old p

pub rises : {B : Type 0} (rows : Rows B) (kind : Kind B) (old : Ballot) → rows.promised ≡ Some old → Rises rows old (judged rows kind)
rises rows (Prepare b first) old p = on_prepare rows b old first p (may_promise rows.promised b) refl
rises rows (Promise b floor votes) old p = stays rows old p
rises rows (Accept v) old p = on_accept rows v old p (may_accept rows.promised v.ballot) refl
rises rows (Accepted v) old p = stays rows old p
rises rows (Nack b q) old p = stays rows old p
rises rows (Forward es) old p = stays rows old p
rises rows (Learned s e) old p = stays rows old p
rises rows (Ask first) old p = stays rows old p
rises rows (Snapshot s) old p = stays rows old p
