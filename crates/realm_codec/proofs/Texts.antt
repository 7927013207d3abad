-- A message's text after its length: how it is put, and what is read of it.
use Rattle.std.specs.Prelude.{◌≢◌, Result, Err, IfOk, IfErr, OnOk}
use Rattle.std.specs.Result.{result_and}
use Rattle.command_codec.specs.declared.fault.CodecFault.{CodecFault}
use Rattle.command_codec.specs.declared.fault.CodecFault.TheVariants.{Range, Memory}
use Rattle.std.proofs.Common.{◌≡◌, ℕ, suc, ◌+◌, ◌-◌, ◌<◌, Bool, true, false, ◌&&◌, cond, leb, refl, sym, ap, ◌∙◌, arith, List, ◌∷◌, [], ◌++◌, length}
use Rattle.std.proofs.Common.{take, drop, Some, None}
use Rattle.std.proofs.Common.{Ok, subst}
use Rattle.std.proofs.Math.Bool.{and-false}
use Rattle.std.proofs.lemmas.Bool.{and_from, le-leb, leb-true}
use Rattle.std.proofs.lemmas.List.{append_assoc, length-append}
use Rattle.std.proofs.Math.Seq.{take-append_seam, drop-append_seam}
use Rattle.command_codec.specs.Coder.{Puts}
use Rattle.command_codec.specs.Number.{is_within}
use Rattle.wamp_message_types.specs.declared.message.Message.{Message}
use Rattle.wamp_message_types.specs.declared.read_result.Read.{Read}
use Rattle.wamp_message_types.specs.declared.read_result.Read.TheVariants.{Good}
use Rattle.wamp_messages.specs.Reading.{read_of}
use Rattle.wamp_messages.specs.Writing.{text_of}
use Rattle.realm_acts.specs.Act.{same_read, read_itself}
use Rattle.realm_codec.specs.Parts.{tagged, length_form}
use Rattle.realm_codec.specs.Text.{text_octets, text_spelling, is_written, text_reading}

-- what was read is taken if it is written as its text
pub text_taken : (text : List ℕ) (read : Read) (checked : Result (Unit {0}) CodecFault) → read ≡ read_of text
    → OnOk checked (is_written text read ≡ true) → IfOk (result_and checked (Ok read)) (λ r. text_reading text ≡ Ok r)
unfolding text_reading
text_taken text read (Ok u) is t =
    ap (λ r. cond (is_written text r) (Ok r) (Err Range)) (sym is) ∙ ap (λ b. cond b (Ok read) (Err Range)) t
text_taken text read (Err f) is t = tt

pub text_refused : (text : List ℕ) (read : Read) (checked : Result (Unit {0}) CodecFault) → read ≡ read_of text
    → IfErr checked (λ f. f ≢ Memory → (f ≡ Range) × (is_written text read ≡ false))
    → IfErr (result_and checked (Ok read)) (λ f. f ≢ Memory → text_reading text ≡ Err f)
unfolding text_reading
text_refused text read (Ok u) is h = tt
text_refused text read (Err f) is h = λ other.
    let p = h other in
    ap (λ r. cond (is_written text r) (Ok r) (Err Range)) (sym is)
    ∙ ap (λ b. cond b (Ok read) (Err Range)) p.1
    ∙ ap (λ g. Err g) (sym p.0)

leb-above : (n most : ℕ) → (n < suc most → ⊥) → leb n most ≡ false
leb-above n most over = go (leb n most) refl
  where
    go : (b : Bool) → leb n most ≡ b → b ≡ false
    go true t = absurd (over (let h = leb-true n most t in omega arith))
    go false t = refl

-- what was put after a list is as long as its text
pub text_length : (mid items text : List ℕ) (all begin : ℕ) → items ≡ mid ++ text → all ≡ length items → begin ≡ length mid
    → all - begin ≡ length text
text_length mid items text all begin is a b =
    let long : length items ≡ length mid + length text = ap (λ l. length l) is ∙ length-append mid text in
    omega arith

-- a text that is too long has no spelling
pub no_text : (m : Message) → (length (text_of m) < 4294967296 → ⊥) → tagged 0 (text_spelling m) ≡ None
unfolding text_spelling
no_text m long =
    let n = length (text_of m) in
    let same = same_read (read_of (text_of m)) (Good m) in
    let over : leb n 4294967295 ≡ false = leb-above n 4294967295 long in
    ap (λ b. tagged 0 (cond (same && (leb 0 n && b)) (Some (text_octets m)) None)) over
    ∙ ap (λ b. tagged 0 (cond (same && b) (Some (text_octets m)) None)) (and-false (leb 0 n))
    ∙ ap (λ b. tagged 0 (cond b (Some (text_octets m)) None)) (and-false same)

-- a text that is read as its message, and is not too long, is put
pub text_put : (m : Message) (old new : List ℕ) → read_of (text_of m) ≡ Good m → length (text_of m) < 4294967296
    → new ≡ old ++ (0 ∷ text_octets m) → Puts (Ok tt) (tagged 0 (text_spelling m)) old new
unfolding text_spelling
text_put m old new again short put =
    let n = length (text_of m) in
    let same = ap (λ r. same_read r (Good m)) again ∙ read_itself (Good m) in
    let within = and_from (leb 0 n) (leb n 4294967295) (le-leb 0 n (omega arith)) (le-leb n 4294967295 (omega arith)) in
    let test = and_from (same_read (read_of (text_of m)) (Good m)) (is_within length_form n) same within in
    subst (λ b. Puts (Ok tt) (tagged 0 (cond b (Some (text_octets m)) None)) old new) (sym test) put

-- the length over the octets that were kept for it
pub filled : (old number text items : List ℕ) (start : ℕ) → items ≡ (old ++ 0 ∷ 0 ∷ 0 ∷ 0 ∷ 0 ∷ []) ++ text → start ≡ length old
    → take (start + 1) items ++ (number ++ drop (start + 1 + 4) items) ≡ old ++ (0 ∷ (number ++ text))
filled old number text items start is at =
    let front = old ++ 0 ∷ [] in
    let room : List ℕ = 0 ∷ 0 ∷ 0 ∷ 0 ∷ [] in
    let long : length front ≡ start + 1 = length-append old (0 ∷ []) ∙ (let z : length old + 1 ≡ start + 1 = omega arith in z) in
    let spread : items ≡ front ++ (room ++ text) = is ∙ simp append_assoc in
    let wide : length (front ++ room) ≡ start + 1 + 4 = length-append front room ∙ (let z : length front + 4 ≡ start + 1 + 4 = omega arith in z) in
    let parted : items ≡ (front ++ room) ++ text = spread ∙ sym (append_assoc front room text) in
    let first : take (start + 1) items ≡ front =
    ap (λ n. take n items) (sym long) ∙ ap (λ l. take (length front) l) spread ∙ take-append_seam front (room ++ text) in
    let last : drop (start + 1 + 4) items ≡ text =
    ap (λ n. drop n items) (sym wide) ∙ ap (λ l. drop (length (front ++ room)) l) parted ∙ drop-append_seam (front ++ room) text in
    ap (λ l. l ++ (number ++ drop (start + 1 + 4) items)) first
    ∙ ap (λ l. front ++ (number ++ l)) last
    ∙ append_assoc old (0 ∷ []) (number ++ text)

-- what is taken back, and what stays
pub cut_back : (old front text mid items : List ℕ) (start : ℕ) → mid ≡ old ++ front → items ≡ mid ++ text → start ≡ length old
    → take start items ≡ old
cut_back old front text mid items start first is at =
    ap (λ n. take n items) at
    ∙ ap (λ l. take (length old) l) (is ∙ ap (λ l. l ++ text) first ∙ append_assoc old front text)
    ∙ take-append_seam old (front ++ text)

pub all_stands : (whole behind : List ℕ) (n : ℕ) → length whole ≡ n → take n (whole ++ behind) ≡ whole
all_stands whole behind n long = ap (λ k. take k (whole ++ behind)) (sym long) ∙ take-append_seam whole behind
