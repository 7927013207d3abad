use Rattle.std.proofs.Common.{refl, ap, sym, ◌∙◌}
use Rattle.rtrb.specs.Ring.{received, known_items, all_sent}
use Rattle.serve_connections.proofs.Handing.{none_known, none_left}
use Rattle.serve_connections.proofs.requests.RequestReceiver.next.Goals as goal

pub returns-then-not-is_abandoned-clause-finds : goal.returns-then-not-is_abandoned-clause-finds
returns-then-not-is_abandoned-clause-finds c = (
  c.is_abandoned.ensures.1 ∙ c.in_default.ensures.empty.0,
  none_known (known_items c.args.self.now.ring) c.in_default.ensures.succeeds,
)

pub returns-then-slots_after-eq0-clause-finds : goal.returns-then-slots_after-eq0-clause-finds
returns-then-slots_after-eq0-clause-finds c =
    let ring = c.slots_after.new.self in
    let put = none_left (received ring) (known_items ring) (all_sent c.in-Some.finished) (all_sent c.slots_after.new.finished)
    (sym c.slots_after.ensures.value ∙ c.if-slots_after-eq0.true) c.slots_after.ensures.fifo c.slots_after.ensures.finished.1 in (
      c.slots_after.ensures.looked.1 ∙ ap received c.take_last.ensures ∙ c.is_abandoned.ensures.1 ∙ c.in_default.ensures.empty.0,
      (c.slots_after.new.finished, refl, (c.slots_after.ensures.finished.0, put)),
    )
