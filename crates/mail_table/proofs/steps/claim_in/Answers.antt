use Rattle.std.proofs.Common.{◌≡◌, ◌<◌, ◌+◌, ◌*◌, ◌∙◌, ℕ, List, [], ◌∷◌, rules, sym, ap, subst, arith, Some, None}
use Rattle.mail_table.proofs.Places.{box_below}
use Rattle.mail_table.proofs.Posting.{claims_at, delivers_at, seek_low}
use Rattle.mail_table.specs.Views.{only, claiming}
use Rattle.mail_table.specs.Boxes.{sits}
use Rattle.mail_table.proofs.steps.claim_in.Goals as goal

pub compare_exchange-found-requires : goal.compare_exchange-found-requires
compare_exchange-found-requires g c = (
  c.requires.table,
  seek_low c.args.table.now.shared.key.nodes c.args.table.now.shared.table_id.words (only c.args.seat.now.me.0) c.args.at
      c.requires.sized.words c.requires.may.seek,
  claims_at g.B.Body.same c.args.table.now.shared.key.nodes c.args.table.now.shared.key.most c.args.table.now.shared.table_id.slots c.args.seat.now.id c.args.at
      c.args.seat.now.me c.args.batch c.requires.alone c.requires.may,
)

pub store-requires : goal.store-requires
store-requires g c = (
  search rules,
  seek_low c.args.table.now.shared.key.nodes c.args.table.now.shared.table_id.words (only c.args.seat.now.me.0) c.args.at
      c.requires.sized.words c.requires.may.seek,
  delivers_at g.B.Body.same c.args.table.now.shared.key.nodes c.args.table.now.shared.key.most c.args.table.now.shared.table_id.slots c.exchange.new.seat.id c.args.at (only
      c.args.seat.now.me.0) c.exchange.new.seat.me c.args.batch (search rules) c.requires.may,
)

pub returns-then-found-ne-EMPTY-clause-posted : goal.returns-then-found-ne-EMPTY-clause-posted
returns-then-found-ne-EMPTY-clause-posted g c = search rules
