use Rattle.std.proofs.Common.{◌≡◌, suc, length}
use Rattle.std.specs.Option.{option_map_or, option_map}
use Rattle.paxos_packets.specs.Members.{no_nodes}
use Rattle.script_program.specs.Line.{words, words_behind, listed}
use Rattle.script_program.proofs.lines.line.listed.Given as goal

abbrev pub invariant-words : goal.invariant-words
invariant-words l = listed l.members l.set (words_behind (option_map (λ text. text.now) l.rest)) ≡ listed l.members no_nodes (words l.fn.text)

abbrev pub decreases-words : goal.decreases-words
decreases-words l = option_map_or (λ text. suc (length text.now)) l.rest 0
