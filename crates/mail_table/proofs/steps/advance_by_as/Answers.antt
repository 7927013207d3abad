use Rattle.std.proofs.Common.{◌≡◌, ◌<◌, ◌∙◌, sym, subst}
use Rattle.mail_table.proofs.Moving.{advances_by_at}
use Rattle.mail_table.proofs.Places.{word_low}
use Rattle.mail_table.specs.Views.{only}
use Rattle.mail_table.proofs.steps.advance_by_as.Goals as goal

pub fetch_add-requires : goal.fetch_add-requires
fetch_add-requires g c = (
  c.requires.table,
  word_low c.args.table.now.shared.key.nodes c.args.table.now.shared.table_id.words (only c.args.seat.now.me.0).me c.args.at
      c.requires.sized.words c.requires.member c.requires.word,
  advances_by_at g.B.Body.same (record { reflexive = g.met.B.Body.reflexive; sound = g.met.B.Body.sound }) c.args.table.now.shared.key.nodes
      c.args.table.now.shared.key.most c.args.table.now.shared.table_id.slots c.args.seat.now.id c.args.at
      c.args.seat.now.me c.args.event.now g.J.Telling.node g.J.Telling.packets c.requires.alone c.requires.member c.requires.word
      c.requires.room c.requires.may c.requires.node c.requires.packets,
)
