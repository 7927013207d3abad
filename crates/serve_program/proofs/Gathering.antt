-- What is known of seats that were gathered.
use Rattle.std.proofs.Common.{◌≡◌, true, List, sym, subst}
use Rattle.mail_table.proofs.Collecting.{whole_sits}
use Rattle.mail_table.specs.Gathered.{LearnersAgree, LogsAgree}
use Rattle.mail_table.specs.Seats.{Mailed, Seated, all_sit, is_whole, lengths_of, parts_of}
use Rattle.realm_acts.specs.Act.{same_act}
use Rattle.realm_acts.specs.declared.act.Act.{Act}
use Rattle.serve_program.specs.declared.cluster_end.ClusterEnd.{ClusterEnd}
use Rattle.serve_program.specs.ClusterEnd.{AgreesAtEnd}

pub agrees : (m : Mailed) (end : ClusterEnd) (seats : List (Seated Act)) → end.seats.value.items ≡ seats → true ≡ is_whole m seats
    → end.lengths ≡ lengths_of seats → LogsAgree same_act m.members (parts_of seats) → LearnersAgree same_act m.members (parts_of seats)
    → AgreesAtEnd m.members end
agrees m end seats known whole lengths logs learners = record {
  whole = subst (λ xs. all_sit m.members xs ≡ true) (sym known) (whole_sits m seats (sym whole));
  lengths = subst (λ xs. end.lengths ≡ lengths_of xs) (sym known) lengths;
  logs = subst (λ xs. LogsAgree same_act m.members (parts_of xs)) (sym known) logs;
  learners = subst (λ xs. LearnersAgree same_act m.members (parts_of xs)) (sym known) learners;
}
