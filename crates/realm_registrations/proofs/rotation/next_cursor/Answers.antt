use Rattle.std.proofs.Common.{arith}
use Rattle.realm_registrations.proofs.Cursor.{seen_turned}
use Rattle.realm_registrations.proofs.rotation.next_cursor.Goals as goal

pub returns-then-cursor-list-clause-turned : goal.returns-then-cursor-list-clause-turned
returns-then-cursor-list-clause-turned c = seen_turned c.args.cursor c.args.list.now (omega (arith, c.if-cursor-list.true))
