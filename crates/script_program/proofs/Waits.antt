-- The packets that wait, as lines deliver some and as more are sent.
use Rattle.std.proofs.Common.{◌≡◌, ℕ, zero, suc, ◌+◌, ◌<◌, Bool, true, false, List, [], ◌∷◌, ◌++◌, length, refl, sym, ap, ◌∙◌}
use Rattle.std.proofs.Common.{append_assoc, arith}
use Rattle.std.specs.Prelude.{◌||◌}
use Rattle.std.proofs.Math.Dec.{eqb}
use Rattle.std.proofs.lemmas.Bool.{ne_eqb, eq-eqb}
use Rattle.std.proofs.lemmas.List.{length-append, append-nil}
use Rattle.paxos_packets.specs.declared.packet.Packet.{Packet}
use Rattle.realm_acts.specs.declared.act.Act.{Act}
use Rattle.script_program.specs.declared.player.waiting.Sent.{Sent}
use Rattle.script_program.specs.Waiting.{Packets, mark_at}
use Rattle.cluster_world.specs.Scripts.{is_delivered}
use Rattle.script_program.specs.Player.{wait_of, waits_from, send_one, send_all}

abbrev wait_as : Packet Act → Bool → Sent
wait_as p b = record { sender = p.sender; addressee = p.addressee; is_delivered = b }

-- ---- more are sent

pub count : (n : ℕ) (d : List ℕ) (ps : List (Packet Act)) → length (waits_from n d ps) ≡ length ps
count n d [] = refl
count n d (p ∷ ps) = ap suc (count (n + 1) d ps)

last : (n : ℕ) (d : List ℕ) (ps : List (Packet Act)) (p : Packet Act)
    → waits_from n d (ps ++ p ∷ []) ≡ waits_from n d ps ++ wait_of d (n + length ps, p) ∷ []
last n d [] p = ap (λ k. wait_of d (k, p) ∷ []) (let z : n ≡ n + 0 = omega arith in z)
last n d (q ∷ ps) p =
    ap (λ ws. wait_of d (n, q) ∷ ws)
    (last (n + 1) d ps p
    ∙ ap (λ k. waits_from (n + 1) d ps ++ wait_of d (k, p) ∷ []) (let z : n + 1 + length ps ≡ n + suc (length ps) = omega arith in z))

new_one : (d : List ℕ) (number : ℕ) (p : Packet Act) → is_delivered d number ≡ false
    → wait_of d (number, p) ≡ wait_as p false
new_one d number p e = λ i. wait_as p (e i)

pub sent_more : (d : List ℕ) (sent more : List (Packet Act)) (w : Packets)
    → ((number : ℕ) → length sent < number → is_delivered d number ≡ false)
    → w.sent ≡ waits_from 1 d sent → (send_all more w).sent ≡ waits_from 1 d (sent ++ more)
sent_more d sent [] w fresh h = h ∙ ap (waits_from 1 d) (sym (append-nil sent))
sent_more d sent (p ∷ ps) w fresh h =
    sent_more d (sent ++ p ∷ []) ps (send_one w p)
    (λ number l. fresh number (let e = length-append sent (p ∷ []) in omega (arith, e, l)))
    (ap (λ ws. ws ++ wait_as p false ∷ []) h
    ∙ ap (λ x. waits_from 1 d sent ++ x ∷ []) (sym (new_one d (1 + length sent) p (fresh (1 + length sent) (omega arith))))
    ∙ sym (last 1 d sent p))
    ∙ ap (waits_from 1 d) (append_assoc sent (p ∷ []) ps)

pub members_stay : (more : List (Packet Act)) (w : Packets) → (send_all more w).members ≡ w.members
members_stay [] w = refl
members_stay (p ∷ ps) w = members_stay ps (send_one w p)

-- ---- one is delivered

pub before : (n k : ℕ) (d : List ℕ) (ps : List (Packet Act)) → k < n → waits_from n (k ∷ d) ps ≡ waits_from n d ps
before n k d [] l = refl
before n k d (p ∷ ps) l = λ i. wait_as p (unlike i || is_delivered d n) ∷ before (n + 1) k d ps (omega (arith, l)) i
  where
    unlike : eqb k n ≡ false
    unlike = ne_eqb k n (λ e. omega (arith, l, e))

pub marked : (n k : ℕ) (d : List ℕ) (ps : List (Packet Act)) → mark_at k (waits_from n d ps) ≡ waits_from n ((n + k) ∷ d) ps
marked n k d [] = refl
marked n zero d (p ∷ ps) = λ i. wait_as p (alike i || is_delivered d n) ∷ behind i
  where
    alike : true ≡ eqb (n + 0) n
    alike = sym (eq-eqb (n + 0) n (omega arith))

    behind : waits_from (n + 1) d ps ≡ waits_from (n + 1) ((n + 0) ∷ d) ps
    behind = sym (before (n + 1) (n + 0) d ps (omega arith))
marked n (suc k) d (p ∷ ps) = λ i. wait_as p (unlike i || is_delivered d n) ∷ (marked (n + 1) k d ps ∙ further) i
  where
    unlike : false ≡ eqb (n + suc k) n
    unlike = sym (ne_eqb (n + suc k) n (λ e. omega (arith, e)))

    further : waits_from (n + 1) ((n + 1 + k) ∷ d) ps ≡ waits_from (n + 1) ((n + suc k) ∷ d) ps
    further = ap (λ m. waits_from (n + 1) (m ∷ d) ps) (let z : n + 1 + k ≡ n + suc k = omega arith in z)
