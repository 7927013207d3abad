use Rattle.std.proofs.Common.{◌≡◌, ◌∷◌, ◌++◌, ◌∙◌, [], ap, length, rules, sym}
use Rattle.std.proofs.lemmas.List.{nil_from_length}
use Rattle.paxos_acceptor.specs.Ahead.{put_all_back}
use Rattle.paxos_acceptor.proofs.GoingAhead.{back_more}
use Rattle.paxos_acceptor.proofs.acceptor.put_all_back.Goals as goal

pub loop-had-preserved : goal.loop-had-preserved
loop-had-preserved g c =
    let left = c.pop.new.self.items in
    let all : c.loop-had.replaced.items ≡ left ++ c.in-Some.had ∷ [] = c.in-Some.ensures.items in
    ap (put_all_back left) c.put_back.ensures
    ∙ (sym (back_more left (c.in-Some.had ∷ []) c.loop-had.votes.votes)
    ∙ (ap (λ rs. put_all_back rs c.loop-had.votes.votes) (sym all) ∙ c.loop-had.invariant))

pub returns : goal.returns
returns g c =
    let gone : length c.loop-had.replaced.items ≡ 0 = search rules in
    ap (λ rs. put_all_back rs c.loop-had.votes.votes) (sym (nil_from_length c.loop-had.replaced.items gone)) ∙ c.loop-had.invariant
