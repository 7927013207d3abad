-- What a node draws: ids out of a key stream of ChaCha20 (RFC 8439, with a 64-bit counter and nonce; WAMP specification, "IDs": ids of the
-- global scope are drawn at random).
use Rattle.std.specs.Prelude.{ℕ, ◌+◌, ◌*◌, ◌%◌, ◌^◌, List, ◌++◌, replicate}
use Rattle.std.specs.Int.{w64, to_be_bytes}
use Rattle.rand_chacha.specs.ChaCha.{ChaCha, key_of, next_word}

-- the seed of a key: its eight octets, high first, and 24 zero octets
abbrev pub seed_of : ℕ → List ℕ
seed_of key = to_be_bytes w64 key ++ replicate 24 0

-- the stream of a node in a boot; boots are below 2^48 and nodes below 8, so no two have one stream
abbrev pub stream_of : ℕ → ℕ → ℕ
stream_of node boot = (8 * boot + node) % 2 ^ 64

-- what a node draws from, before its first draw in a boot
abbrev pub first_draws : ℕ → ℕ → ℕ → ChaCha
first_draws key node boot = record { key = key_of (seed_of key); stream = stream_of node boot; word_pos = 0 }

-- a draw out of two words: the first one high, the low 53 bits, plus 1
abbrev pub draw_of : ℕ → ℕ → ℕ
draw_of high low = (high * 2 ^ 32 + low) % 2 ^ 53 + 1

-- the draw of the next two words, and what is drawn from after it
abbrev pub next_draw : ChaCha → ℕ × ChaCha
next_draw words =
    let first = next_word 10 words in
    let second = next_word 10 first.1 in
    (draw_of first.0 second.0, second.1)
