-- The seats that are left are of those that were there.
use Rattle.std.proofs.Common.{◌≡◌, arith, subst}
use Rattle.std.specs.Prelude.{All, option_to_list}
use Rattle.std.proofs.lemmas.List.{get_or_append_left, length-append}
use Rattle.paxos_node.specs.declared.view.Opened.TheVariants.{Never}
use Rattle.mail_table.specs.Seats.{Seated, Owns}
use Rattle.serve_program.proofs.nodes.station_of.Goals as goal

pub returns-clause-fresh : goal.returns-clause-fresh
returns-clause-fresh g c = λ k d l.
    let new = c.pop-2.new.self.items in
    let rest = option_to_list c.pop-2.result in
    let long = length-append new rest in
    let fresh = subst (λ xs. All (λ (s : Seated _). Owns c.args.mail.now s × (s.part.seen.opened ≡ Never)) xs) c.pop-2.ensures.items c.requires.fresh in
    subst (λ (s : Seated _). Owns c.args.mail.now s × (s.part.seen.opened ≡ Never)) (get_or_append_left new rest d k l)
    (fresh k d (omega (arith, l, long)))
