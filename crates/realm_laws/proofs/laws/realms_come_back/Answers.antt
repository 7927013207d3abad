use Rattle.realm_laws.proofs.Kept.{empty_kept, input_calls, input_numbered, input_kept, comes_back}
use Rattle.realm_laws.proofs.laws.realms_come_back.Goals as goal

pub returns : goal.returns
returns c = record {
  empty = empty_kept;
  calls = input_calls;
  numbered = input_numbered;
  each_input = input_kept;
  back = comes_back;
}
