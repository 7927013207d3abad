-- What is at the front of a stream.
use Rattle.std.proofs.Common.{◌≡◌, ℕ, ◌/◌, ◌%◌, ◌<◌, ◌≤◌, ◌^◌, List, [], ◌∷◌, ◌++◌, length, Result, Ok, Err, refl, sym, subst, arith}
use Rattle.std.proofs.lemmas.List.{take-append-le, drop-append-le, length-append, take-append-drop, length-take-le}
use Rattle.std.proofs.Math.Seq.{take-append_seam, drop-append_seam}
use Rattle.wamp_rawsocket.specs.declared.fault.FrameFault.{FrameFault}
use Rattle.wamp_rawsocket.specs.declared.frame.FrameKind.{FrameKind}
use Rattle.wamp_rawsocket.specs.declared.frame.FrameKind.TheVariants.{Message, Ping, Pong}
use Rattle.wamp_rawsocket.specs.Frame.{header_of, length_of, code_of, length_octets, inbound_limit}
use Rattle.wamp_rawsocket.specs.Splitter.{partial, whole, faulty, IsWhole, behind}
use Rattle.wamp_rawsocket.specs.Laws.{WholeStays, FaultStays, FrameIsReadBack, WholeIsItsOctets}

behind_whole-more : (header : Result FrameKind FrameFault) (len : ℕ) (held more payload rest : List ℕ) (kind : FrameKind)
    → behind header len held ≡ whole kind payload rest → behind header len (held ++ more) ≡ whole kind payload (rest ++ more)
behind_whole-more (Err fault) len held more payload rest kind e = cc
behind_whole-more (Ok told) len held more payload rest kind e = grind (arith, take-append-le, drop-append-le, length-append)

pub front_whole_more : WholeStays
front_whole_more (octet ∷ high ∷ middle ∷ low ∷ held) payload rest more kind e =
    let len : ℕ = length_of high middle low in
    behind_whole-more (header_of octet len) len held more payload rest kind e
front_whole_more (octet ∷ high ∷ middle ∷ []) payload rest more kind e = cc
front_whole_more (octet ∷ high ∷ []) payload rest more kind e = cc
front_whole_more (octet ∷ []) payload rest more kind e = cc
front_whole_more [] payload rest more kind e = cc

behind_faulty-more : (header : Result FrameKind FrameFault) (len : ℕ) (held more : List ℕ) (fault : FrameFault)
    → behind header len held ≡ faulty fault → behind header len (held ++ more) ≡ faulty fault
behind_faulty-more (Err shown) len held more fault e = e
behind_faulty-more (Ok told) len held more fault e = grind arith

pub front_fault_more : FaultStays
front_fault_more (octet ∷ high ∷ middle ∷ low ∷ held) more fault e =
    let len : ℕ = length_of high middle low in
    behind_faulty-more (header_of octet len) len held more fault e
front_fault_more (octet ∷ high ∷ middle ∷ []) more fault e = cc
front_fault_more (octet ∷ high ∷ []) more fault e = cc
front_fault_more (octet ∷ []) more fault e = cc
front_fault_more [] more fault e = cc

-- three octets spell the number that they are of
length_of-length_octets : (n : ℕ) → length_of (n / 65536) (n / 256 % 256) (n % 256) ≡ n
length_of-length_octets n = omega arith

-- the first octet of a frame and a length that is received show its kind
header_of-code_of : (kind : FrameKind) (len : ℕ) → len ≤ inbound_limit → header_of (code_of kind) len ≡ Ok kind
header_of-code_of Message len fits = grind arith
header_of-code_of Ping len fits = grind arith
header_of-code_of Pong len fits = grind arith

-- a payload is read back as what has its length
behind-payload : (kind : FrameKind) (len : ℕ) (payload rest : List ℕ) → len ≡ length payload
    → behind (Ok kind) len (payload ++ rest) ≡ whole kind payload rest
behind-payload kind len payload rest e = rw e (grind (arith, take-append_seam, drop-append_seam, length-append))

pub front_read_back : FrameIsReadBack
front_read_back kind payload rest fits =
    let n : ℕ = length payload in
    rw (length_of-length_octets n, header_of-code_of kind n fits) (behind-payload kind n payload rest refl)

-- what a whole frame at the front says of the octets after the first four, and of what those show
behind_whole-kind : (header : Result FrameKind FrameFault) (len : ℕ) (held payload rest : List ℕ) (kind : FrameKind)
    → behind header len held ≡ whole kind payload rest → header ≡ Ok kind
behind_whole-kind (Err fault) len held payload rest kind e = cc
behind_whole-kind (Ok told) len held payload rest kind e = grind arith

behind_whole-length : (header : Result FrameKind FrameFault) (len : ℕ) (held payload rest : List ℕ) (kind : FrameKind)
    → behind header len held ≡ whole kind payload rest → length payload ≡ len
behind_whole-length (Err fault) len held payload rest kind e = cc
behind_whole-length (Ok told) len held payload rest kind e = grind (arith, length-take-le)

behind_whole-held : (header : Result FrameKind FrameFault) (len : ℕ) (held payload rest : List ℕ) (kind : FrameKind)
    → behind header len held ≡ whole kind payload rest → held ≡ payload ++ rest
behind_whole-held (Err fault) len held payload rest kind e = cc
behind_whole-held (Ok told) len held payload rest kind e = grind (arith, take-append-drop)

-- what a header that shows a kind says of its octet and its length
header_of_ok-octet : (octet len : ℕ) (kind : FrameKind) → header_of octet len ≡ Ok kind → octet ≡ code_of kind
header_of_ok-octet octet len Message e = grind arith
header_of_ok-octet octet len Ping e = grind arith
header_of_ok-octet octet len Pong e = grind arith

header_of_ok-len : (octet len : ℕ) (kind : FrameKind) → header_of octet len ≡ Ok kind → len ≤ inbound_limit
header_of_ok-len octet len kind e = grind arith

-- the number that three octets spell is spelled by them
length_octets-length_of : (high middle low n : ℕ) → middle < 2 ^ 8 → low < 2 ^ 8 → n ≡ length_of high middle low
    → length_octets n ≡ high ∷ middle ∷ low ∷ []
length_octets-length_of high middle low n middle_fits low_fits e =
    let first : n / 65536 ≡ high = omega arith in
    let second : n / 256 % 256 ≡ middle = omega arith in
    let third : n % 256 ≡ low = omega arith in
    rw (first, second, third) refl

-- too few octets are no whole frame
pub partial-not_whole : (kind : FrameKind) (payload rest : List ℕ) → partial ≡ whole kind payload rest → ⊥
partial-not_whole kind payload rest e = subst IsWhole (sym e) tt

pub front_whole_octets : WholeIsItsOctets
front_whole_octets (octet ∷ high ∷ middle ∷ low ∷ held) payload rest kind bytes e =
    let len : ℕ = length_of high middle low in
    let header : header_of octet len ≡ Ok kind = behind_whole-kind (header_of octet len) len held payload rest kind e in
    let long : length payload ≡ len = behind_whole-length (header_of octet len) len held payload rest kind e in
    let behind_it : held ≡ payload ++ rest = behind_whole-held (header_of octet len) len held payload rest kind e in
    let told : octet ≡ code_of kind = header_of_ok-octet octet len kind header in
    let fits : len ≤ inbound_limit = header_of_ok-len octet len kind header in
    let spelled : length_octets (length payload) ≡ high ∷ middle ∷ low ∷ [] = length_octets-length_of high middle low (length payload)
    (bytes 2 middle (omega arith)) (bytes 3 low (omega arith)) long in
    (cc, rw long fits)
front_whole_octets (octet ∷ high ∷ middle ∷ []) payload rest kind bytes e = absurd (partial-not_whole kind payload rest e)
front_whole_octets (octet ∷ high ∷ []) payload rest kind bytes e = absurd (partial-not_whole kind payload rest e)
front_whole_octets (octet ∷ []) payload rest kind bytes e = absurd (partial-not_whole kind payload rest e)
front_whole_octets [] payload rest kind bytes e = absurd (partial-not_whole kind payload rest e)
