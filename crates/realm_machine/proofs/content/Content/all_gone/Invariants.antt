use Rattle.std.proofs.Common.{◌≡◌, ◌++◌, drop}
use Rattle.realm_machine.specs.Leaving.{all_gone}
use Rattle.realm_machine.proofs.content.Content.all_gone.Given as goal

-- what is said so far and what the transports that are left bring is all of it, and they leave the content that all leave
abbrev pub invariant-loop-transport : goal.invariant-loop-transport
invariant-loop-transport l =
    (l.says.items ++ (all_gone (drop l.transport-index l.transports) l.self).says ≡ (all_gone l.transports l.initial.self).says)
    × ((all_gone (drop l.transport-index l.transports) l.self).content ≡ (all_gone l.transports l.initial.self).content)
