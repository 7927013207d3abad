-- What transports were handed, piece by piece.
use Rattle.std.proofs.Common.{◌≡◌, ℕ, ◌+◌, ◌<◌, List, ◌∷◌, ◌++◌, length, get_or, drop, map, ap, sym, ◌∙◌}
use Rattle.std.proofs.lemmas.List.{drop_more}
use Rattle.paxos_packets.specs.declared.transport.Transport.{Transport}
use Rattle.realm_machine.specs.declared.sayings.say.Say.{Say}
use Rattle.script_program.specs.Text.{said_text, handed_text}

pub said_step : (t : Transport) (says : List Say) (i : ℕ) (say : Say) → i < length says → say ≡ get_or says i say
    → handed_text t (map (λ s. s.out) (drop i says)) ≡ said_text t say.out ++ handed_text t (map (λ s. s.out) (drop (i + 1) says))
said_step t says i say within read =
    let cut : drop i says ≡ say ∷ drop (i + 1) says = drop_more says i say within ∙ ap (λ x. x ∷ drop (i + 1) says) (sym read) in
    ap (λ (xs : List Say). handed_text t (map (λ s. s.out) xs)) cut
