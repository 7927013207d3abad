-- A payload that is held once, or by one alone: it is that payload.
use Rattle.std.specs.Arc.{arc_value}
use Rattle.serde_json.specs.Data.{Data}
use Rattle.wamp_values.specs.declared.held.Held.{Held}
use Rattle.wamp_values.specs.declared.held.Held.TheVariants.{Together, Alone}

abbrev pub held_data : Held → Data
held_data (Together payload) = arc_value payload
held_data (Alone payload) = payload
