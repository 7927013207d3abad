-- What a node has taken of a client's requests.
use Rattle.std.specs.Prelude.{List}
use Rattle.rtrb.specs.Ring.{received}
use Rattle.client_listener.specs.declared.items.FromClient.{FromClient}
use Rattle.serve_connections.specs.declared.requests.RequestReceiver.{RequestReceiver}

-- the requests that this end has given, oldest first
abbrev pub taken_by : RequestReceiver → List FromClient
taken_by requests = received requests.ring
