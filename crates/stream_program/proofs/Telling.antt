-- What was said to the client, saying by saying.
use Rattle.std.proofs.Common.{◌≡◌, ℕ, suc, ◌+◌, ◌<◌, true, List, ◌∷◌, drop, get_or, length, Ok, sym, ap, add-one, drop-cons}
use Rattle.realm_machine.specs.declared.sayings.say.Say.{Say}
use Rattle.paxos_packets.specs.Transport.{same_transport}
use Rattle.stream_program.specs.declared.progress.Progress.{Progress}
use Rattle.stream_program.specs.declared.progress.Progress.TheVariants.{Onward, Closed}
use Rattle.stream_program.specs.Stream.{Run, client, heard, told}
use Rattle.stream_program.specs.Replies.{Puts}
use Rattle.stream_program.proofs.Putting.{puts_then, puts_open}

-- of the sayings these are left; what the others say to the client was put after the replies
abbrev pub Told : ℕ → List Say → List Say → List ℕ → List ℕ → Type 0
Told limit says left old new = (after : Run) → Puts (Ok Onward) (told limit says after) (told limit left after) old new

-- what a saying says to the client was put
told_onward : (limit : ℕ) (says : List Say) (say : Say) (others : List Say) (old mid new : List ℕ)
    → same_transport say.transport client ≡ true → Told limit says (say ∷ others) old mid
    → ((after : Run) → Puts (Ok Onward) (heard limit say.out after) after mid new) → Told limit says others old new
told_onward limit says say others old mid new e t p after =
    puts_then (Ok Onward) (told limit says after) (told limit (say ∷ others) after) (told limit others after) old mid new (t after)
    (rw e (p (told limit others after)))

-- the sayings from one on
drop_at : (says : List Say) (i : ℕ) (say : Say) → i < length says → say ≡ get_or says i say → drop i says ≡ say ∷ drop (i + 1) says
drop_at says i say lt e = rw (add-one, drop-cons says i say) (ap (λ (first : Say). first ∷ drop (suc i) says) (sym e))

Told_at : (limit : ℕ) (says left left' : List Say) (old new : List ℕ) → left ≡ left' → Told limit says left old new → Told limit says left' old new
Told_at limit says left left' old new e t = rw (← e) t

-- one saying further, if it is to the client
pub told_next : (limit : ℕ) (says : List Say) (i : ℕ) (say : Say) (old mid new : List ℕ) (here : ℕ) (progress : Progress) → i < length says
    → say ≡ get_or says i say → same_transport say.transport client ≡ true → Told limit says (drop i says) old mid → here ≡ limit
    → (progress ≡ Closed → ⊥) → ((after : Run) → Puts (Ok progress) (heard here say.out after) after mid new)
    → Told limit says (drop (i + 1) says) old new
told_next limit says i say old mid new here progress lt is e t same stays p =
    told_onward limit says say (drop (i + 1) says) old mid new e
    (Told_at limit says (drop i says) (say ∷ drop (i + 1) says) old mid (drop_at says i say lt is) t)
    (λ after. puts_open progress (heard limit say.out after) after mid new stays (rw (← same) (p after)))
