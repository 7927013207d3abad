-- What follows the first word: at least one word, and the rest of the line again.
use Rattle.std.proofs.Common.{◌≡◌, ℕ, Bool, true, false, cond, eqb, List, [], ◌∷◌, None, refl, ap, sym, ◌∙◌}
use Rattle.std.specs.Str.{IsUtf8, is_utf8}
use Rattle.std.proofs.lemmas.Str.{IsUtf8-from_is_utf8, is_utf8-from_IsUtf8}
use Rattle.std.specs.List.{slice_split, onto_first}
use Rattle.std.proofs.lemmas.List.Splits.{join_with_byte-slice_split}
use Rattle.paxos_packets.specs.Members.{no_nodes}
use Rattle.script_program.specs.Line.{words, one_in, listed, among_in, said_in, act_in, line_of_words, line_of}

-- a cut list has a first part
part_of : (p : ℕ → Bool) (xs : List ℕ) → (part : List ℕ × List (List ℕ)) × (slice_split p xs ≡ part.0 ∷ part.1)
part_of p [] = (([], []), refl)
part_of p (x ∷ xs) = go (p x) (slice_split p xs)
  where
    onto : (parts : List (List ℕ)) → (part : List ℕ × List (List ℕ)) × (onto_first x parts ≡ part.0 ∷ part.1)
    onto [] = ((x ∷ [], []), refl)
    onto (part ∷ parts) = ((x ∷ part, parts), refl)

    go : (b : Bool) (parts : List (List ℕ)) → (part : List ℕ × List (List ℕ)) × (cond b ([] ∷ parts) (onto_first x parts) ≡ part.0 ∷ part.1)
    go true parts = (([], parts), refl)
    go false parts = onto parts

pub one_more : (most : ℕ) (word rest : List ℕ) → None ≡ one_in most (word ∷ words rest)
one_more most word rest = let k = part_of (λ octet. eqb octet 32) rest in rw k.1 refl

pub among_words : (members : ℕ) (rest : List ℕ) → listed members no_nodes (words rest) ≡ among_in members (words rest)
among_words members rest = let k = part_of (λ octet. eqb octet 32) rest in rw k.1 refl

pub said_words : (draw : ℕ) (what text : List ℕ) → said_in draw what text ≡ act_in draw (what ∷ words text)
said_words draw what text =
    let k = part_of (λ octet. eqb octet 32) text in
    ap (said_in draw what) (sym (join_with_byte-slice_split 32 text)) ∙ rw k.1 refl

-- octets that are not UTF-8 are not a line, and a text is the line of its words

pub no_text : (members draw : ℕ) (octets : List ℕ) → (IsUtf8 octets → ⊥) → None ≡ line_of members draw octets
unfolding line_of
no_text members draw octets none = go (is_utf8 octets) refl
  where
    go : (b : Bool) → is_utf8 octets ≡ b → None ≡ cond b (line_of_words members draw (words octets)) None
    go true e = absurd (none (IsUtf8-from_is_utf8 octets e))
    go false e = refl

pub text_line : (members draw : ℕ) (octets : List ℕ) → IsUtf8 octets → line_of members draw octets ≡ line_of_words members draw (words octets)
unfolding line_of
text_line members draw octets text = rw (is_utf8-from_IsUtf8 octets text) refl
