use Rattle.realm_sessions.proofs.FreeInvocations.{free_invocation_free, next_is_free, none_all_taken, due_is_next}
use Rattle.realm_sessions.proofs.Invoking.{invoked_places}
use Rattle.realm_sessions.proofs.laws.invocation_ids_are_found.Goals as goal

pub returns : goal.returns
returns c = record { free = free_invocation_free; next = next_is_free; none = none_all_taken; due = due_is_next; places = invoked_places }
