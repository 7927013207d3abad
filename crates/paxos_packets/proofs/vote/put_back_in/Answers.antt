use Rattle.std.proofs.Common.{◌≡◌, ◌+◌, ◌++◌, ◌∙◌, ap, arith, drop, is_some, set, suc, sym, take, true}
use Rattle.paxos_packets.specs.Vote.{place, put_back, vote_in}
use Rattle.paxos_packets.proofs.Ascending.{ascends, ascending}
use Rattle.paxos_packets.proofs.PuttingBack.{back_ascending, back_none, cut_back, set_back}
use Rattle.paxos_packets.proofs.vote.put_back_in.Goals as goal

pub returns-in_default-clause-votes : goal.returns-in_default-clause-votes
returns-in_default-clause-votes g c =
    let free = rw c.deref.ensures.value at (sym c.in_default.ensures.which) in
    sym (back_none c.args.slot c.args.other c.args.votes.now.items free)

pub returns-in-Some-clause-votes : goal.returns-in-Some-clause-votes
returns-in-Some-clause-votes g c =
    let vs = c.args.votes.now.items in
    let found : is_some (vote_in c.args.slot vs) ≡ true = rw c.deref.ensures.value at (sym c.in-Ok.ensures.which) in
    let at : c.in-Ok.place ≡ place c.args.slot vs = rw c.deref.ensures.value at c.in-Ok.ensures.found in
    ap (λ k. set vs k c.in-Some.vote) at
    ∙ (set_back c.args.slot c.in-Some.vote vs (ascends vs c.requires.ascends) found ∙ ap (λ o. put_back c.args.slot o vs) (sym c.in-Some.is))

pub returns-in-Some-clause-ascending : goal.returns-in-Some-clause-ascending
returns-in-Some-clause-ascending g c =
    rw (returns-in-Some-clause-votes g c)
    (ascending _ (back_ascending c.args.slot c.args.other c.args.votes.now.items c.requires.slot (ascends _ c.requires.ascends)))

pub returns-in-None-clause-votes : goal.returns-in-None-clause-votes
returns-in-None-clause-votes g c =
    let vs = c.args.votes.now.items in
    let found : is_some (vote_in c.args.slot vs) ≡ true = rw c.deref.ensures.value at (sym c.in-Ok.ensures.which) in
    let at : c.in-Ok.place ≡ place c.args.slot vs = rw c.deref.ensures.value at c.in-Ok.ensures.found in
    let k = place c.args.slot vs in
    let more : k + 1 ≡ suc k = omega arith in
    c.remove.ensures.by_index.2
    ∙ (ap (λ j. take j vs ++ drop (j + 1) vs) at
    ∙ (ap (λ j. take k vs ++ drop j vs) more
    ∙ (cut_back c.args.slot vs (ascends vs c.requires.ascends) found ∙ ap (λ o. put_back c.args.slot o vs) (sym c.in-None.is))))

pub returns-in-None-clause-ascending : goal.returns-in-None-clause-ascending
returns-in-None-clause-ascending g c =
    rw (returns-in-None-clause-votes g c)
    (ascending _ (back_ascending c.args.slot c.args.other c.args.votes.now.items c.requires.slot (ascends _ c.requires.ascends)))
