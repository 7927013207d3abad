use Rattle.std.proofs.Common.{◌≡◌, []}
use Rattle.mail_table.proofs.Posting.{seek_low, seeks_at, seat_stays}
use Rattle.mail_table.specs.Boxes.{sits}
use Rattle.mail_table.specs.Views.{only, lost}
use Rattle.mail_table.proofs.steps.is_empty.Goals as goal

pub load-requires : goal.load-requires
load-requires g c = (
  c.requires.table,
  seek_low c.args.table.now.shared.key.nodes c.args.table.now.shared.table_id.words (only c.args.seat.now.me.0) c.args.at
      c.requires.sized.words c.requires.may,
  seeks_at g.B.Body.same c.args.table.now.shared.key.nodes c.args.table.now.shared.key.most c.args.table.now.shared.table_id.slots 0
      c.args.seat.now.id c.args.at c.args.seat.now.me (only c.args.seat.now.me.0).me c.requires.may.to c.requires.alone c.requires.may.from
      c.requires.may.other c.requires.may.box c.requires.may.from,
)

pub returns-clause-found : goal.returns-clause-found
returns-clause-found g c =
    seat_stays (c.load.new.seat.me ≡ c.args.seat.now.me) (c.load.new.seat ≡ c.args.seat.now)
    (c.load.new.seat.me ≡ sits (lost c.args.at (only c.args.seat.now.me.0)) []) _ c.load.ensures.2
    (λ e i. record c.args.seat.now { table_id = c.load.ensures.0 i; id = c.load.ensures.1 i; me = e i })
