-- What `publish` says is what the request's case says, since the message is a PUBLISH.
use Rattle.realm_machine.proofs.content.Content.on_request.Goals as goal

pub returns-in-Publish : goal.returns-in-Publish
returns-in-Publish c = rw c.in-Publish.is c.publish.ensures
