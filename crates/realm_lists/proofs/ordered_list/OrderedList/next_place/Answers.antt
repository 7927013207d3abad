use Rattle.realm_lists.proofs.Places.{above_last}
use Rattle.realm_lists.proofs.ordered_list.OrderedList.next_place.Goals as goal

pub returns-clause-above : goal.returns-clause-above
returns-clause-above g c = rw (← c.self.view_is) (above_last _ _ c.in-Some.ensures.all_up_to)
