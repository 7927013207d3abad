use Rattle.std.proofs.Common.{◌≡◌, [], ◌∷◌, ◌++◌, take, sym, ◌∙◌, option_copied, arith, rules}
use Rattle.paxos_planning.proofs.Planning.{first_full, first_last}
use Rattle.paxos_planning.proofs.proposals.first_pending.Goals as goal

pub returns-then-pending-ge64 : goal.returns-then-pending-ge64
returns-then-pending-ge64 g c =
    let copied : c.copy_first.new.entries ≡ take 64 c.args.pending.now = search rules in
    record { ok = copied ∙ sym (first_full 64 (option_copied c.args.added) c.args.pending.now (omega arith)) }

pub returns-in-None : goal.returns-in-None
returns-in-None g c =
    let copied : c.copy_first.new.entries ≡ take 64 c.args.pending.now = search rules in
    rw c.in-None.is (record { ok = copied })

pub returns-in_ok-push_copy-in-Some : goal.returns-in_ok-push_copy-in-Some
returns-in_ok-push_copy-in-Some g c =
    let copied : c.push_copy.new.entries ≡ take 64 c.args.pending.now ++ c.in-Some.entry.now ∷ [] = search rules in
    rw c.in-Some.is (record { ok = copied ∙ sym (first_last 64 c.in-Some.entry.now c.args.pending.now (omega arith)) })
