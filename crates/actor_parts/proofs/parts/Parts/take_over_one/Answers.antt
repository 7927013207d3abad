use Rattle.std.proofs.Common.{refl}
use Rattle.actor_parts.proofs.Carrying.{prefix_whole}
use Rattle.actor_parts.proofs.TakingOver.{ended_before, ends_here, goes_on}
use Rattle.actor_parts.proofs.parts.Parts.take_over_one.Goals as goal

pub returns-in_default-clause-takes : goal.returns-in_default-clause-takes
returns-in_default-clause-takes g c before first was me members h =
    ended_before g.M.Machine.steps g.M.Machine.content c.args.boot before c.args.one first c.args.self.now c.file.new.self me members
    c.file.ensures.waits c.file.ensures.rest c.args.so_far c.in_default.field-0 was c.args.says.now.items c.args.says.now.items c.in_default.is h refl

pub returns-in_default-apply-clause-takes : goal.returns-in_default-apply-clause-takes
returns-in_default-apply-clause-takes g c before first was me members h =
    ends_here g.M.Machine.steps g.M.Machine.content c.args.boot before c.args.one first c.args.self.now c.file.new.self me members
    c.file.ensures.waits c.file.ensures.rest c.apply.new.self c.apply.ensures.rest c.args.so_far c.in-Ok.field-0 was c.args.says.now.items
    c.args.says.now.items c.in-Ok.is h c.in_default-apply.ensures.err refl

pub returns-in_default-append-clause-takes : goal.returns-in_default-append-clause-takes
returns-in_default-append-clause-takes g c before first was me members h =
    ends_here g.M.Machine.steps g.M.Machine.content c.args.boot before c.args.one first c.args.self.now c.file.new.self me members
    c.file.ensures.waits c.file.ensures.rest c.apply.new.self c.apply.ensures.rest c.args.so_far c.in-Ok.field-0 was c.args.says.now.items
    c.append.new.self.items c.in-Ok.is h (prefix_whole _ _ c.in-Ok-apply.ensures.ok.applied) c.in_default-append.ensures.items

pub returns-clause-takes : goal.returns-clause-takes
returns-clause-takes g c before first was me members h =
    goes_on g.M.Machine.steps g.M.Machine.content c.args.boot before c.args.one first c.args.self.now c.file.new.self me members c.file.ensures.waits
    c.file.ensures.rest c.apply.new.self c.apply.ensures.rest c.args.so_far c.in-Ok.field-0 was c.args.says.now.items c.append.new.self.items
    c.in-Ok-apply.more.items c.in-Ok.is h c.in-Ok-apply.ensures.ok c.apply.ensures.end c.in-Ok-append.ensures.items
