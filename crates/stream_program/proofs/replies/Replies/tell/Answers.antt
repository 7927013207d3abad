use Rattle.std.proofs.Common.{sym, arith, ◌∙◌}
use Rattle.stream_program.proofs.Telling.{told_next}
use Rattle.stream_program.proofs.replies.Replies.tell.Goals as goal

pub loop-say-preserved : goal.loop-say-preserved
loop-say-preserved c = (
  told_next c.args.self.now.limit c.args.says.now c.loop-say.say-index c.say-item.result c.args.self.now.octets c.loop-say.self.octets
      c.hear.new.self.octets c.loop-say.self.limit c.in_ok-hear.field-0
      (omega arith) c.say-item.is (sym c.is_client.ensures ∙ c.if-not-is_client.false) c.loop-say.invariant.0 c.loop-say.invariant.1
      c.in_default.not-Closed c.in_ok-hear.ensures.puts,
  c.hear.ensures.limit ∙ c.loop-say.invariant.1,
)
