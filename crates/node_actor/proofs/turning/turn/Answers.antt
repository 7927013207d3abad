use Rattle.std.proofs.Common.{◌≡◌, [], ℕ, false, Option, Some, None, sym, ap, subst, ◌∙◌, refl}
use Rattle.paxos_packets.specs.Members.{IsMember}
use Rattle.paxos_packets.specs.declared.packet.Packet.{Packet}
use Rattle.mail_table.specs.Seats.{Seated}
use Rattle.node_actor.specs.Turns.{Fetches, round}
use Rattle.node_actor.proofs.Rounds.{received_got}
use Rattle.node_actor.proofs.Seating.{stays_there}
use Rattle.node_actor.proofs.OneTurn.{turns, seated_fetched}
use Rattle.node_actor.proofs.turning.turn.Goals as goal

pub pass-requires-clause-seated : goal.pass-requires-clause-seated
pass-requires-clause-seated g c =
    let members : c.members-members.result ≡ c.send_waiting-posted.new.seat.members =
    c.members-members.ensures ∙ c.requires.sound.members ∙ sym c.requires.seated.members
    ∙ ap (λ (z : Seated g.row.M-Body.Denot). z.members) (sym c.send_waiting-posted.ensures.posts.beside.table) in
    let got : Option (ℕ × Packet g.row.M-Body.Denot) = None in
    let fetches : Fetches c.send_waiting-posted.new.seat.members (round c.send_waiting-posted.new.seat.part.me c.send_waiting-posted.new.seat.members
    c.args.first.now)
    c.send_waiting-posted.new.seat.part got c.fetch_round.new.seat.part =
    subst (λ n. Fetches n (round c.send_waiting-posted.new.seat.part.me n c.args.first.now) c.send_waiting-posted.new.seat.part got
    c.fetch_round.new.seat.part)
    members c.in-None.ensures.fetches in
    let fresh : c.send_waiting-posted.new.parts.spoiled ≡ false = c.send_waiting-posted.ensures.posts.beside.only.spoiled ∙ c.requires.serving in
    seated_fetched g.M.Body.Body.same c.send_waiting-posted.new.parts c.send_waiting-posted.new.seat c.fetch_round.new.seat
    (round c.send_waiting-posted.new.seat.part.me c.send_waiting-posted.new.seat.members c.args.first.now) got c.send_waiting-posted.ensures.seated
    (c.send_waiting-posted.ensures.sound.serves fresh).committed c.fetch_round.ensures.table fetches

pub returns-in-None-clause-seated : goal.returns-in-None-clause-seated
returns-in-None-clause-seated g c =
    let members : c.members-members.result ≡ c.send_waiting-posted.new.seat.members =
    c.members-members.ensures ∙ c.requires.sound.members ∙ sym c.requires.seated.members
    ∙ ap (λ (z : Seated g.row.M-Body.Denot). z.members) (sym c.send_waiting-posted.ensures.posts.beside.table) in
    let got : Option (ℕ × Packet g.row.M-Body.Denot) = None in
    let fetches : Fetches c.send_waiting-posted.new.seat.members (round c.send_waiting-posted.new.seat.part.me c.send_waiting-posted.new.seat.members
    c.args.first.now)
    c.send_waiting-posted.new.seat.part got c.fetch_round.new.seat.part =
    subst (λ n. Fetches n (round c.send_waiting-posted.new.seat.part.me n c.args.first.now) c.send_waiting-posted.new.seat.part got
    c.fetch_round.new.seat.part)
    members c.in-None.ensures.fetches in
    let fresh : c.send_waiting-posted.new.parts.spoiled ≡ false = c.send_waiting-posted.ensures.posts.beside.only.spoiled ∙ c.requires.serving in
    seated_fetched g.M.Body.Body.same c.send_waiting-posted.new.parts c.send_waiting-posted.new.seat c.fetch_round.new.seat
    (round c.send_waiting-posted.new.seat.part.me c.send_waiting-posted.new.seat.members c.args.first.now) got c.send_waiting-posted.ensures.seated
    (c.send_waiting-posted.ensures.sound.serves fresh).committed c.fetch_round.ensures.table fetches

pub deliver-requires-clause-seated : goal.deliver-requires-clause-seated
deliver-requires-clause-seated g c =
    let members : c.members-members.result ≡ c.send_waiting-posted.new.seat.members =
    c.members-members.ensures ∙ c.requires.sound.members ∙ sym c.requires.seated.members
    ∙ ap (λ (z : Seated g.row.M-Body.Denot). z.members) (sym c.send_waiting-posted.ensures.posts.beside.table) in
    let got : Option (ℕ × Packet g.row.M-Body.Denot) = Some (c.in-Some.from, c.in-Some.packet) in
    let fetches : Fetches c.send_waiting-posted.new.seat.members (round c.send_waiting-posted.new.seat.part.me c.send_waiting-posted.new.seat.members
    c.args.first.now)
    c.send_waiting-posted.new.seat.part got c.fetch_round.new.seat.part =
    subst (λ n. Fetches n (round c.send_waiting-posted.new.seat.part.me n c.args.first.now) c.send_waiting-posted.new.seat.part got
    c.fetch_round.new.seat.part)
    members c.in-Some.ensures.fetches in
    let fresh : c.send_waiting-posted.new.parts.spoiled ≡ false = c.send_waiting-posted.ensures.posts.beside.only.spoiled ∙ c.requires.serving in
    seated_fetched g.M.Body.Body.same c.send_waiting-posted.new.parts c.send_waiting-posted.new.seat c.fetch_round.new.seat
    (round c.send_waiting-posted.new.seat.part.me c.send_waiting-posted.new.seat.members c.args.first.now) got c.send_waiting-posted.ensures.seated
    (c.send_waiting-posted.ensures.sound.serves fresh).committed c.fetch_round.ensures.table fetches

pub deliver-requires-clause-received : goal.deliver-requires-clause-received
deliver-requires-clause-received g c =
    let members : c.members-members.result ≡ c.send_waiting-posted.new.seat.members =
    c.members-members.ensures ∙ c.requires.sound.members ∙ sym c.requires.seated.members
    ∙ ap (λ (z : Seated g.row.M-Body.Denot). z.members) (sym c.send_waiting-posted.ensures.posts.beside.table) in
    let got : Option (ℕ × Packet g.row.M-Body.Denot) = Some (c.in-Some.from, c.in-Some.packet) in
    let fetches : Fetches c.send_waiting-posted.new.seat.members (round c.send_waiting-posted.new.seat.part.me c.send_waiting-posted.new.seat.members
    c.args.first.now)
    c.send_waiting-posted.new.seat.part got c.fetch_round.new.seat.part =
    subst (λ n. Fetches n (round c.send_waiting-posted.new.seat.part.me n c.args.first.now) c.send_waiting-posted.new.seat.part got
    c.fetch_round.new.seat.part)
    members c.in-Some.ensures.fetches in
    received_got (round c.send_waiting-posted.new.seat.part.me c.send_waiting-posted.new.seat.members c.args.first.now)
    c.send_waiting-posted.new.seat
    c.fetch_round.new.seat (c.in-Some.from, c.in-Some.packet) c.fetch_round.ensures.table
    (subst (λ n. IsMember n c.in-Some.from) members c.in-Some.ensures.from) fetches

pub returns-in-None-clause-turns : goal.returns-in-None-clause-turns
returns-in-None-clause-turns g c =
    let members : c.members-members.result ≡ c.send_waiting-posted.new.seat.members =
    c.members-members.ensures ∙ c.requires.sound.members ∙ sym c.requires.seated.members
    ∙ ap (λ (z : Seated g.row.M-Body.Denot). z.members) (sym c.send_waiting-posted.ensures.posts.beside.table) in
    let got : Option (ℕ × Packet g.row.M-Body.Denot) = None in
    let fetches : Fetches c.send_waiting-posted.new.seat.members (round c.send_waiting-posted.new.seat.part.me c.send_waiting-posted.new.seat.members
    c.args.first.now)
    c.send_waiting-posted.new.seat.part got c.fetch_round.new.seat.part =
    subst (λ n. Fetches n (round c.send_waiting-posted.new.seat.part.me n c.args.first.now) c.send_waiting-posted.new.seat.part got
    c.fetch_round.new.seat.part)
    members c.in-None.ensures.fetches in
    let fresh : c.send_waiting-posted.new.parts.spoiled ≡ false = c.send_waiting-posted.ensures.posts.beside.only.spoiled ∙ c.requires.serving in
    rw c.note.ensures (turns g.M.Body.Body.same g.M.Machine.steps g.M.Machine.content g.M.Machine.loaded g.K.Keeper.holds
    g.K.Keeper.finds g.K.Keeper.failures c.args.last.now
    (record { from = None; heard = None; posted = c.send_waiting-posted.result; came = [] })
    c.args.parts.now c.send_waiting-posted.new.parts c.send_waiting-posted.new.parts c.args.seat.now
    c.send_waiting-posted.new.seat
    c.fetch_round.new.seat c.fetch_round.new.seat c.send_waiting-posted.ensures.seated c.send_waiting-posted.ensures.posts
    (c.send_waiting-posted.ensures.posts.beside.me ∙ c.requires.seated.me)
    (ap (λ (z : Seated g.row.M-Body.Denot). z.members) c.send_waiting-posted.ensures.posts.beside.table ∙ c.requires.seated.members)
    c.args.first.now c.requires.first got c.fetch_round.ensures.table fetches c.pass.result fresh
    (stays_there c.fetch_round.new.seat) (refl, refl) c.pass.ensures.acts)

pub returns-in-Some-clause-turns : goal.returns-in-Some-clause-turns
returns-in-Some-clause-turns g c =
    let members : c.members-members.result ≡ c.send_waiting-posted.new.seat.members =
    c.members-members.ensures ∙ c.requires.sound.members ∙ sym c.requires.seated.members
    ∙ ap (λ (z : Seated g.row.M-Body.Denot). z.members) (sym c.send_waiting-posted.ensures.posts.beside.table) in
    let got : Option (ℕ × Packet g.row.M-Body.Denot) = Some (c.in-Some.from, c.in-Some.packet) in
    let fetches : Fetches c.send_waiting-posted.new.seat.members (round c.send_waiting-posted.new.seat.part.me c.send_waiting-posted.new.seat.members
    c.args.first.now)
    c.send_waiting-posted.new.seat.part got c.fetch_round.new.seat.part =
    subst (λ n. Fetches n (round c.send_waiting-posted.new.seat.part.me n c.args.first.now) c.send_waiting-posted.new.seat.part got
    c.fetch_round.new.seat.part)
    members c.in-Some.ensures.fetches in
    let fresh : c.send_waiting-posted.new.parts.spoiled ≡ false = c.send_waiting-posted.ensures.posts.beside.only.spoiled ∙ c.requires.serving in
    rw c.note-in-Some.ensures (turns g.M.Body.Body.same g.M.Machine.steps g.M.Machine.content g.M.Machine.loaded g.K.Keeper.holds
    g.K.Keeper.finds g.K.Keeper.failures c.args.last.now
    (record { from = Some c.in-Some.from; heard = Some c.heard_in-heard.result; posted = c.send_waiting-posted.result; came = [] })
    c.args.parts.now c.send_waiting-posted.new.parts c.deliver.new.parts c.args.seat.now
    c.send_waiting-posted.new.seat
    c.fetch_round.new.seat c.deliver.new.seat c.send_waiting-posted.ensures.seated c.send_waiting-posted.ensures.posts
    (c.send_waiting-posted.ensures.posts.beside.me ∙ c.requires.seated.me)
    (ap (λ (z : Seated g.row.M-Body.Denot). z.members) c.send_waiting-posted.ensures.posts.beside.table ∙ c.requires.seated.members)
    c.args.first.now c.requires.first got c.fetch_round.ensures.table fetches c.deliver.result fresh c.deliver.ensures.stays
    (refl, ap Some c.heard_in-heard.ensures) c.deliver.ensures.acts)
