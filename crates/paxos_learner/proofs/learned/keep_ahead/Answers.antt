use Rattle.std.proofs.Common.{◌≡◌, ◌+◌, true, false, length, None, arith, nat_cmp, is_some, rules}
use Rattle.std.specs.Map.{lookup}
use Rattle.std.specs.BTreeMap.{is_at}
use Rattle.paxos_learner.proofs.Ahead.{rising_put, kept_behind, keeps_behind, has_behind, has_put, none_of}
use Rattle.paxos_learner.proofs.learned.keep_ahead.Goals as goal

pub returns-then-contains_key-clause-ok : goal.returns-then-contains_key-clause-ok
returns-then-contains_key-clause-ok g c =
    let there : is_some (lookup (is_at (nat_cmp c.args.slot)) c.args.ahead.now.entries) ≡ true = search rules in
    has_behind c.args.floor c.args.slot c.args.run.now c.args.ahead.now.entries (omega (arith, c.requires.behind)) there

pub returns-clause-ok : goal.returns-clause-ok
returns-clause-ok g c = rw c.in-Ok.ensures.entries
    (has_put c.args.floor c.args.slot c.args.run.now c.args.ahead.now.entries (omega (arith, c.requires.behind)))

pub returns-clause-rising : goal.returns-clause-rising
returns-clause-rising g c = rw c.in-Ok.ensures.entries
    (rising_put (c.args.floor + length c.args.run.now) c.args.slot None c.args.ahead.now.entries c.requires.behind c.requires.most c.requires.rising)

pub returns-clause-learned : goal.returns-clause-learned
returns-clause-learned g c =
    let no : is_some (lookup (is_at (nat_cmp c.args.slot)) c.args.ahead.now.entries) ≡ false = search rules in
    rw c.in-Ok.ensures.entries
    (kept_behind c.args.floor c.args.slot c.args.run.now c.args.ahead.now.entries (omega (arith, c.requires.behind)) (none_of _ no))

pub returns-clause-places : goal.returns-clause-places
returns-clause-places g c =
    let no : is_some (lookup (is_at (nat_cmp c.args.slot)) c.args.ahead.now.entries) ≡ false = search rules in
    rw c.in-Ok.ensures.entries
    (keeps_behind c.args.floor c.args.slot c.args.run.now c.args.ahead.now.entries (omega (arith, c.requires.behind)) (none_of _ no))
