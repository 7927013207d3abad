-- Two chosen entries of one slot are equal.
use Rattle.std.proofs.Common.{◌≡◌, ⊎_elim, ℕ, refl, sym, subst, List, Option}
use Rattle.cluster_world.proofs.Order.{Lt, Le, le_cases, cases, ballot_induction, lt_le, le_refl}
use Rattle.paxos_packets.proofs.Meeting.{common_member}
use Rattle.cluster_world.proofs.Invariant.{vote, Known, PacketsOk, IsChosen}
use Rattle.paxos_packets.specs.declared.ballot.Ballot.{Ballot}
use Rattle.paxos_packets.specs.declared.packet.Packet.{Packet}
use Rattle.paxos_packets.specs.declared.packet.Kind.TheVariants.{Accept}
use Rattle.paxos_packets.specs.declared.entry.Entry.{Entry}

-- whatever is proposed above a chosen entry is that entry
pub later_same : {B : Type 0} (members : ℕ) (promised : ℕ → Option Ballot) (sent : List (Packet B)) → PacketsOk members promised sent
    → (slot : ℕ) (e : Entry B) (c : IsChosen members sent slot e) (b : Ballot) → Le c.ballot b → (d : Entry B)
    → Known sent (Accept (vote slot b d)) → d ≡ e
later_same {B} members promised sent ok slot e c =
    ballot_induction (λ b. Le c.ballot b → (d : Entry B) → Known sent (Accept (vote slot b d)) → d ≡ e)
    (λ b lower h d p. ⊎_elim (λ l. above b lower l d p) (λ s. same b s d p) (le_cases h))
  where
    same : (b : Ballot) → c.ballot ≡ b → (d : Entry B) → Known sent (Accept (vote slot b d)) → d ≡ e
    same b s d p =
        let k = common_member members c.quorum c.quorum c.most c.most in
        ok.one (vote slot b d) (vote slot c.ballot e) p (ok.voted k.0 (vote slot c.ballot e) (c.voted k.0 k.1 k.2)) refl (sym s)

    above : (b : Ballot) → ((a : Ballot) → Lt a b → Le c.ballot a → (d : Entry B) → Known sent (Accept (vote slot a d)) → d ≡ e)
        → Lt c.ballot b → (d : Entry B) → Known sent (Accept (vote slot b d)) → d ≡ e
    above b lower l d p =
        let safe = ok.safe (vote slot b d) p in
        let k = common_member members c.quorum safe.quorum c.most safe.most in
        let a = (safe.backs k.0 k.1 k.3).carries (vote slot c.ballot e) refl l (c.voted k.0 k.1 k.2) in
        lower a.ballot a.under a.above d a.known

in_order : {B : Type 0} (members : ℕ) (promised : ℕ → Option Ballot) (sent : List (Packet B)) → PacketsOk members promised sent
    → (slot : ℕ) (d e : Entry B) (a : IsChosen members sent slot d) (b : IsChosen members sent slot e) → Le a.ballot b.ballot → d ≡ e
in_order members promised sent ok slot d e a b h =
    let k = common_member members b.quorum b.quorum b.most b.most in
    sym (later_same members promised sent ok slot d a b.ballot h e (ok.voted k.0 (vote slot b.ballot e) (b.voted k.0 k.1 k.2)))

pub chosen_one : {B : Type 0} (members : ℕ) (promised : ℕ → Option Ballot) (sent : List (Packet B)) → PacketsOk members promised sent
    → (slot : ℕ) (d e : Entry B) → IsChosen members sent slot d → IsChosen members sent slot e → d ≡ e
chosen_one members promised sent ok slot d e a b =
    ⊎_elim (λ l. in_order members promised sent ok slot d e a b (lt_le l))
    (λ r. ⊎_elim (λ (s : a.ballot ≡ b.ballot). in_order members promised sent ok slot d e a b
    (subst (λ x. Le a.ballot x) s (le_refl a.ballot))) (λ l. sym (in_order members promised sent ok slot e d b a (lt_le l))) r)
    (cases a.ballot b.ballot)
