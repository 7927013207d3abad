-- What is known of the nodes' logs at the end of a cluster (docs/GUARANTEES.md).
use Rattle.std.specs.Prelude.{◌≡◌, ℕ, true}
use Rattle.mail_table.specs.Gathered.{LearnersAgree, LogsAgree}
use Rattle.mail_table.specs.Seats.{all_sit, lengths_of, parts_of}
use Rattle.realm_acts.specs.Act.{same_act}
use Rattle.serve_program.specs.declared.cluster_end.ClusterEnd.{ClusterEnd}

-- each node's seat is there, and the logs have these lengths; and if the rows with which the nodes were opened agree, of each two logs one is
-- a prefix of the other, and no node has learned another entry than the one that a node was told of
pub record AgreesAtEnd (members : ℕ) (end : ClusterEnd) : Type 0 where
  pub whole : all_sit members end.seats.value.items ≡ true
  pub lengths : end.lengths ≡ lengths_of end.seats.value.items
  pub logs : LogsAgree same_act members (parts_of end.seats.value.items)
  pub learners : LearnersAgree same_act members (parts_of end.seats.value.items)
