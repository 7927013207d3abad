use Rattle.std.proofs.Common.{◌∙◌}
use Rattle.realm_lists.proofs.Places.{put_last}
use Rattle.realm_lists.proofs.ordered_list.OrderedList.push.Goals as goal

pub returns-clause-ok : goal.returns-clause-ok
returns-clause-ok g c =
    let above = rw (← c.self.view_is) at c.requires in
    rw (← c.self.view_is) (c.in-Ok.ensures.entries ∙ put_last _ _ _ above)
