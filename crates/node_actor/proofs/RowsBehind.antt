-- The rows of a node after an outcome.
use Rattle.std.proofs.Common.{◌≡◌, ℕ, Bool, true, false, refl}
use Rattle.paxos_acceptor.specs.Acceptor as accepting
use Rattle.paxos_node.specs.Adopting.{adopted}
use Rattle.paxos_node.specs.declared.outcome.Outcome.{Outcome}
use Rattle.paxos_planning.specs.Node.{NodeState}

-- they are those before it, with its change
pub rows_behind : {B : Type 0} (me members : ℕ) (o : Outcome B) (x : NodeState B)
    → (adopted me members o x).rows ≡ accepting.adopted x.rows o.change
rows_behind me members o x = go o.is_down refl
  where
    go : (b : Bool) → o.is_down ≡ b → (adopted me members o x).rows ≡ accepting.adopted x.rows o.change
    go true e = rw e refl
    go false e = rw e refl
