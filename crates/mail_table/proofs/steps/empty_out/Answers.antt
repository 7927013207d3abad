use Rattle.std.proofs.Common.{◌≡◌, ◌≤◌, [], length, rules, sym, subst, Some}
use Rattle.std.specs.Prelude.{◌==◌, MatchOption, IfSome}
use mathlib.Core.Option.{none}
use prog.Atomic.{either}
use Rattle.atomic_table.specs.Table.{Allows, step}
use Rattle.mail_table.proofs.Fetching.{fetches_at, clears_at, fetch_low, fetched_here, carried, emptied_hand, taken_out}
use Rattle.mail_table.specs.Boxes.{AreTo, Fetches, Kept, Placed, sits}
use Rattle.mail_table.specs.Views.{only, fetching, lost, receiving_all}
use Rattle.mail_table.proofs.steps.empty_out.Goals as goal

pub compare_exchange-found-requires : goal.compare_exchange-found-requires
compare_exchange-found-requires g c = (
  c.requires.table,
  fetch_low c.args.table.now.shared.key.nodes c.args.table.now.shared.table_id.words (only c.args.seat.now.me.0) c.args.at
      c.requires.sized.words c.requires.may,
  subst (λ m. Allows (Kept g.B.Body.same c.args.table.now.shared.key.nodes c.args.table.now.shared.key.most) c.args.table.now.shared.table_id.slots
      c.args.seat.now.id c.args.seat.now.me c.args.at (λ w. either (w == 2) 3 w)
      (Fetches m (step c.args.table.now.shared.table_id.slots c.args.at 2 3 none) c.args.seat.now.me)) (sym c.requires.most)
      (fetches_at g.B.Body.same c.args.table.now.shared.key.nodes c.args.table.now.shared.key.most c.args.table.now.shared.table_id.slots
      c.args.seat.now.id c.args.at c.args.seat.now.me c.requires.alone c.requires.may),
)

pub exchange-batch-requires : goal.exchange-batch-requires
exchange-batch-requires g c =
    let two : c.compare_exchange-found.result ≡ 2 = search rules in
    let x = only c.args.seat.now.me.0 in
    let f = fetched_here g.J.Holding.most c.args.table.now.shared.table_id.slots c.args.at c.compare_exchange-found.result c.args.seat.now.me
    c.compare_exchange-found.new.seat.me two c.compare_exchange-found.ensures.2 in
    (search rules, (Some f.0, carried c.args.at (fetching c.args.at f.0 x) f.0 c.compare_exchange-found.new.seat.me f.3))

pub store-requires : goal.store-requires
store-requires g c =
    let two : c.compare_exchange-found.result ≡ 2 = search rules in
    let x = only c.args.seat.now.me.0 in
    let f = fetched_here g.J.Holding.most c.args.table.now.shared.table_id.slots c.args.at c.compare_exchange-found.result c.args.seat.now.me
    c.compare_exchange-found.new.seat.me two c.compare_exchange-found.ensures.2 in (
      search rules,
      fetch_low c.args.table.now.shared.key.nodes c.args.table.now.shared.table_id.words x c.args.at c.requires.sized.words c.requires.may,
      clears_at g.B.Body.same c.args.table.now.shared.key.nodes c.args.table.now.shared.key.most c.args.table.now.shared.table_id.slots c.exchange-batch.new.seat.id
          c.args.at x c.exchange-batch.new.seat.me f.0
          (emptied_hand c.args.at (fetching c.args.at f.0 x) f.0 c.compare_exchange-found.new.seat.me c.exchange-batch.new.seat.me f.3
          c.exchange-batch.ensures.3) c.requires.may,
    )

pub returns-clause-fetched : goal.returns-clause-fetched
returns-clause-fetched g c =
    let two : c.compare_exchange-found.result ≡ 2 = search rules in
    let x = only c.args.seat.now.me.0 in
    let f = fetched_here g.J.Holding.most c.args.table.now.shared.table_id.slots c.args.at c.compare_exchange-found.result c.args.seat.now.me
    c.compare_exchange-found.new.seat.me two c.compare_exchange-found.ensures.2 in
    let out = taken_out c.args.at x f.0 c.exchange-batch.result c.compare_exchange-found.new.seat.me c.exchange-batch.new.seat.me c.store.new.seat.me
    f.3 c.exchange-batch.ensures.2 c.exchange-batch.ensures.3 c.store.ensures.2 in
    subst (λ (o : Placed g.row.B.Denot). MatchOption o (c.store.new.seat.me ≡ sits (lost c.args.at x) [])
    (λ b. AreTo x.me b × (c.store.new.seat.me ≡ sits (receiving_all c.args.at b x) []))) (sym out.0) (f.2, out.1)

pub returns-clause-short : goal.returns-clause-short
returns-clause-short g c =
    let two : c.compare_exchange-found.result ≡ 2 = search rules in
    let x = only c.args.seat.now.me.0 in
    let f = fetched_here g.J.Holding.most c.args.table.now.shared.table_id.slots c.args.at c.compare_exchange-found.result c.args.seat.now.me
    c.compare_exchange-found.new.seat.me two c.compare_exchange-found.ensures.2 in
    let out = taken_out c.args.at x f.0 c.exchange-batch.result c.compare_exchange-found.new.seat.me c.exchange-batch.new.seat.me c.store.new.seat.me
    f.3 c.exchange-batch.ensures.2 c.exchange-batch.ensures.3 c.store.ensures.2 in
    subst (λ (o : Placed g.row.B.Denot). IfSome o (λ b. length b ≤ g.J.Holding.most)) (sym out.0) f.1
