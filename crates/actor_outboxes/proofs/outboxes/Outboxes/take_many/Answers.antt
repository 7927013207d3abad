use Rattle.std.proofs.Common.{◌≡◌, [], ◌∙◌, subst, rules}
use Rattle.actor_outboxes.specs.Outboxes.{waiting}
use Rattle.actor_outboxes.proofs.Dues.{some_taken, none_taken, first_taken}
use Rattle.actor_outboxes.proofs.outboxes.Outboxes.take_many.Goals as goal

pub returns-in-Some-clause-some : goal.returns-in-Some-clause-some
returns-in-Some-clause-some g c =
    some_taken c.args.peer c.args.most c.take_into.new.list.items c.remove_first.new.list.items c.in-Some.first c.args.self.now
    c.take_into.new.self c.in-Some.ensures c.take_into.ensures.taken

pub returns-in_default-take_for-clause-none : goal.returns-in_default-take_for-clause-none
returns-in_default-take_for-clause-none g c =
    let none : c.take_into.new.list.items ≡ [] = search rules in
    let same = none_taken c.args.peer c.args.most c.take_into.new.list.items c.args.self.now c.take_into.new.self none c.take_into.ensures.taken in
    let still : c.take_for.new.self ≡ c.take_into.new.self = search rules in
    let empty : waiting c.args.peer c.take_into.new.self ≡ [] = search rules in
    (still ∙ same, subst (λ w. waiting c.args.peer w ≡ []) same empty)

pub returns-clause-some : goal.returns-clause-some
returns-clause-some g c =
    let none : c.take_into.new.list.items ≡ [] = search rules in
    let alone : c.remove_first.new.list.items ≡ [] = search rules in
    first_taken c.args.peer c.args.most c.take_into.new.list.items c.remove_first.new.list.items c.in-Some-take_for.packet c.args.self.now
    c.take_into.new.self c.take_for.new.self c.requires.some none alone c.take_into.ensures.taken c.in-Some-take_for.ensures.some
