use Rattle.std.proofs.Common.{List, ap, ◌∙◌}
use Rattle.realm_calls.specs.declared.calls.Open.{Open}
use Rattle.realm_calls.specs.Indexed.{end_all}
use Rattle.realm_calls.proofs.Ending.{ended_of}
use Rattle.realm_calls.proofs.open_calls.OpenCalls.end_all_of.Goals as goal

pub returns : goal.returns
returns c =
    c.end_all.ensures ∙ ap (λ (ended : List Open). end_all c.args.self.now ended) c.requires
    ∙ ended_of c.args.session c.args.self.now c.are_apart.ensures
