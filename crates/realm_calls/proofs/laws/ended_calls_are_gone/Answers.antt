use Rattle.realm_calls.proofs.EndedCalls.{answered_once, ended_gone, leaving_ends_all, leaving_names_all}
use Rattle.realm_calls.proofs.laws.ended_calls_are_gone.Goals as goal

pub returns : goal.returns
returns c = record { answered = answered_once; ended = ended_gone; left = leaving_ends_all; named = leaving_names_all }
