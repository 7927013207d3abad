-- The frames of a whole stream.
use Rattle.std.proofs.Common.{◌≡◌, ℕ, zero, suc, ◌<◌, ◌≤◌, ◌^◌, List, [], ◌∷◌, ◌++◌, length, Result, Ok, Err, refl, ap, sym, subst, ◌∙◌}
use Rattle.std.proofs.Common.{arith, All, append_assoc}
use Rattle.std.proofs.lemmas.List.{length-drop}
use Rattle.std.proofs.lemmas.List.Elements.{All-tail, All-same}
use Rattle.wamp_rawsocket.specs.declared.fault.FrameFault.{FrameFault}
use Rattle.wamp_rawsocket.specs.declared.frame.FrameKind.{FrameKind}
use Rattle.wamp_rawsocket.specs.Frame.{header_of, length_of, frame_octets}
use Rattle.wamp_rawsocket.specs.Splitter.{Front, partial, whole, faulty, IsWhole, front_of, behind, Frames, frame, cut_at, cut_within}
use Rattle.wamp_rawsocket.specs.Splitter.{frames_of, octets_of, end_of}
use Rattle.wamp_rawsocket.specs.Laws.{WholeLeavesLess, FramesAtWhole, FramesAtFault, FramesAtEnd, FramesReadBack, StreamIsItsFrames}
use Rattle.wamp_rawsocket.proofs.Fronts.{partial-not_whole, front_whole_more, front_fault_more, front_read_back, front_whole_octets}

behind_whole-shorter : (header : Result FrameKind FrameFault) (len : ℕ) (held payload rest : List ℕ) (kind : FrameKind)
    → behind header len held ≡ whole kind payload rest → length rest ≤ length held
behind_whole-shorter (Err fault) len held payload rest kind e = absurd (subst IsWhole (sym e) tt)
behind_whole-shorter (Ok told) len held payload rest kind e = grind (arith, length-drop)

pub whole_leaves_less : WholeLeavesLess
whole_leaves_less (octet ∷ high ∷ middle ∷ low ∷ held) payload rest kind e =
    let len : ℕ = length_of high middle low in
    let shorter : length rest ≤ length held = behind_whole-shorter (header_of octet len) len held payload rest kind e in
    omega arith
whole_leaves_less (octet ∷ high ∷ middle ∷ []) payload rest kind e = absurd (partial-not_whole kind payload rest e)
whole_leaves_less (octet ∷ high ∷ []) payload rest kind e = absurd (partial-not_whole kind payload rest e)
whole_leaves_less (octet ∷ []) payload rest kind e = absurd (partial-not_whole kind payload rest e)
whole_leaves_less [] payload rest kind e = absurd (partial-not_whole kind payload rest e)

-- two ways to cut that agree on what is shorter than the stream cut it alike
cut_at-agree : (octets : List ℕ) (front : Front) → front_of octets ≡ front → (f g : List ℕ → Frames)
    → ((rest : List ℕ) → length rest < length octets → f rest ≡ g rest) → cut_at front f ≡ cut_at front g
cut_at-agree octets partial e f g alike = refl
cut_at-agree octets (whole kind payload rest) e f g alike = ap (frame kind payload) (alike rest (whole_leaves_less octets payload rest kind e))
cut_at-agree octets (faulty fault) e f g alike = refl

-- room for more frames than there are octets changes nothing
cut_within-enough : (n m : ℕ) (octets : List ℕ) → length octets ≤ n → length octets ≤ m → cut_within n octets ≡ cut_within m octets
cut_within-enough zero zero octets short enough = refl
cut_within-enough zero (suc m) [] short enough = refl
cut_within-enough zero (suc m) (octet ∷ octets) short enough = absurd (omega arith)
cut_within-enough (suc n) zero [] short enough = refl
cut_within-enough (suc n) zero (octet ∷ octets) short enough = absurd (omega arith)
cut_within-enough (suc n) (suc m) octets short enough =
    cut_at-agree octets (front_of octets) refl (cut_within n) (cut_within m) (λ rest less. cut_within-enough n m rest (omega arith) (omega arith))

-- the frames of a stream are what its front shows, with the frames of what follows
pub frames_of-front : (octets : List ℕ) → frames_of octets ≡ cut_at (front_of octets) frames_of
unfolding frames_of
frames_of-front [] = refl
frames_of-front (octet ∷ octets) =
    let all : List ℕ = octet ∷ octets in
    cut_at-agree all (front_of all) refl (cut_within (length octets)) (λ rest. cut_within (length rest) rest)
    (λ rest less. cut_within-enough (length octets) (length rest) rest (omega arith) (omega arith))

pub frames_at_whole : FramesAtWhole
frames_at_whole octets payload rest more kind e =
    let front : front_of (octets ++ more) ≡ whole kind payload (rest ++ more) = front_whole_more octets payload rest more kind e in
    frames_of-front (octets ++ more) ∙ ap (λ f. cut_at f frames_of) front

pub frames_at_fault : FramesAtFault
frames_at_fault octets more fault e =
    let front : front_of (octets ++ more) ≡ faulty fault = front_fault_more octets more fault e in
    frames_of-front (octets ++ more) ∙ ap (λ f. cut_at f frames_of) front

pub frames_at_end : FramesAtEnd
frames_at_end octets e = frames_of-front octets ∙ ap (λ f. cut_at f frames_of) e

pub frames_read_back : FramesReadBack
frames_read_back kind payload more fits =
    frames_of-front (frame_octets kind payload ++ more) ∙ ap (λ f. cut_at f frames_of) (front_read_back kind payload more fits)

-- a fact of each element of two lists in a row holds of the second's
All-behind : (P : ℕ → Type 0) (front rest : List ℕ) → All P (front ++ rest) → All P rest
All-behind P [] rest all = all
All-behind P (octet ∷ front) rest all = All-behind P front rest (All-tail P octet (front ++ rest) all)

-- the cut of a stream, whose frames and rest are its octets
abbrev IsCut : List ℕ → Frames → Type 0
IsCut octets frames = (rest : List ℕ) × (octets ≡ octets_of frames ++ rest) × (front_of rest ≡ end_of frames)

cut_at-is_cut : (octets : List ℕ) (front : Front) → front_of octets ≡ front → (cut : List ℕ → Frames) → All (λ octet. octet < 2 ^ 8) octets
    → ((rest : List ℕ) → length rest < length octets → All (λ octet. octet < 2 ^ 8) rest → IsCut rest (cut rest))
    → IsCut octets (cut_at front cut)
cut_at-is_cut octets partial e cut bytes others = (octets, refl, e)
cut_at-is_cut octets (faulty fault) e cut bytes others = (octets, refl, e)
cut_at-is_cut octets (whole kind payload rest) e cut bytes others =
    let first : octets ≡ frame_octets kind payload ++ rest = (front_whole_octets octets payload rest kind bytes e).0 in
    let rest_bytes : All (λ octet. octet < 2 ^ 8) rest =
    All-behind (λ octet. octet < 2 ^ 8) (frame_octets kind payload) rest
    (All-same (λ octet. octet < 2 ^ 8) (frame_octets kind payload ++ rest) octets (sym first) bytes) in
    let behind_it : IsCut rest (cut rest) = others rest (whole_leaves_less octets payload rest kind e) rest_bytes in (
      behind_it.0,
      first ∙ ap (λ r. frame_octets kind payload ++ r) behind_it.1 ∙
          sym (append_assoc (frame_octets kind payload) (octets_of (cut rest)) behind_it.0),
      behind_it.2,
    )

cut_within-is_cut : (n : ℕ) (octets : List ℕ) → length octets ≤ n → All (λ octet. octet < 2 ^ 8) octets → IsCut octets (cut_within n octets)
cut_within-is_cut zero [] short bytes = ([], refl, refl)
cut_within-is_cut zero (octet ∷ octets) short bytes = absurd (omega arith)
cut_within-is_cut (suc n) octets short bytes =
    cut_at-is_cut octets (front_of octets) refl (cut_within n) bytes (λ rest less rest_bytes. cut_within-is_cut n rest (omega arith) rest_bytes)

pub stream_frames : StreamIsItsFrames
unfolding frames_of
stream_frames octets bytes = cut_within-is_cut (length octets) octets (omega arith) bytes
