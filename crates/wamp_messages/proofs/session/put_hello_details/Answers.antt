use Rattle.wamp_messages.proofs.session.put_hello_details.Goals as goal

pub returns-then-canceling : goal.returns-then-canceling
returns-then-canceling c = rw c.if-canceling.true c.put_canceling.ensures
