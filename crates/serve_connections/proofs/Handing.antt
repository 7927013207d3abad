-- What was said of a ring's ends holds of them after a look, and of what was handed over once more is.
use Rattle.std.specs.Prelude.{◌≡◌, ◌<◌, ◌++◌, ◌∷◌, [], List, Some, length, true, false}
use Rattle.std.proofs.Common.{arith, ◌∙◌, ap, refl, subst, sym}
use Rattle.std.proofs.lemmas.Bool.{false≢true}
use Rattle.std.proofs.lemmas.List.{append-nil, nil_from_length}
use Rattle.std.proofs.lemmas.Option.{same_Some}
use Rattle.std.specs.Option.{ForSome}
use Rattle.std.specs.declared.alloc.Global.{Global}
use Rattle.rtrb.specs.Ends.{SameRing}
use Rattle.rtrb.specs.Ring.{received, IsFinishedOf}
use Rattle.rtrb.specs.declared.end.End.{End}
use Rattle.rtrb.specs.declared.producer.Producer.{Producer}
use Rattle.rtrb.specs.declared.consumer.Consumer.{Consumer}
use Rattle.rtrb.specs.declared.finished.Finished.{Finished}
use Rattle.rtrb.specs.declared.AnyItems.{AnyItems}
use Rattle.client_listener.specs.declared.items.FromClient.{FromClient}
use Rattle.serve_connections.specs.declared.requests.Handed.{Handed}
use Rattle.serve_connections.specs.declared.requests.Handed.TheVariants.{Ring, Last}
use Rattle.serve_connections.specs.declared.requests.OneRing.{OneRing}
use Rattle.serve_connections.specs.Handing.{RingFirst, MayCome}
use Rattle.serve_connections.specs.Requests.{HandsOver, IsHanded}

same_ring : {T A P : Type 0} (a b c : End T A P) → SameRing a b → SameRing b c → SameRing a c
same_ring a b c (words, slots, names, heap) (words', slots', names', heap') = (words' ∙ words, slots' ∙ slots, names' ∙ names, heap' ∙ heap)

-- the porter's ring is the same after something was put
pub hands_over : (old new : Producer FromClient Global AnyItems) (handing : Producer Handed Global OneRing)
    → SameRing old.end new.end → HandsOver old handing → HandsOver new handing
hands_over old new handing same (room, shows) =
    (room, λ finished is. shows finished (same_ring old.end new.end finished.end same is))

-- the node's ring is the same after something was taken
pub finished_of : (old new : Consumer FromClient Global AnyItems) (finished : Finished FromClient Global AnyItems)
    → SameRing old.end new.end → IsFinishedOf finished old → IsFinishedOf finished new
finished_of old new finished same is = same_ring finished.end old.end new.end is same

pub is_handed : (old new : Consumer FromClient Global AnyItems) (handed : Consumer Handed Global OneRing)
    → SameRing old.end new.end → IsHanded old handed → IsHanded new handed
is_handed old new handed same is finished may = finished_of old new finished same (is finished may)

-- what may come after more was handed over may come before
earlier : (before more : List Handed) (finished : Finished FromClient Global AnyItems)
    → MayCome (before ++ more) (Last finished) → MayCome before (Last finished)
earlier before more finished may ring (others, is) = may ring (others ++ more, ap (λ handed. handed ++ more) is)

pub is_handed_later : (ring : Consumer FromClient Global AnyItems) (old new : Consumer Handed Global OneRing) (more : List Handed)
    → received new ≡ received old ++ more → IsHanded ring old → IsHanded ring new
is_handed_later ring old new more are is finished may =
    is finished (earlier (received old) more finished (subst (λ handed. MayCome handed (Last finished)) are may))

-- what was handed over last is of the node's ring
pub shows_this : (ring : Consumer FromClient Global AnyItems) (handed : Consumer Handed Global OneRing)
    (finished : Finished FromClient Global AnyItems) → MayCome (received handed) (Last finished) → IsHanded ring handed
    → ForSome (Some finished) (λ last. IsFinishedOf last ring)
shows_this ring handed finished may is last same = subst (λ it. IsFinishedOf it ring) (same_Some finished last same) (is finished may)

pub of_first : (ring : Consumer FromClient Global AnyItems) (handed : Consumer Handed Global OneRing)
    → received handed ≡ Ring ring ∷ [] → IsHanded ring handed
of_first ring handed is finished may = may ring ([], is)

-- a look at the handed ring that finds nothing leaves what was said of it
pub is_handed_still : (ring : Consumer FromClient Global AnyItems) (old new : Consumer Handed Global OneRing)
    → received new ≡ received old → IsHanded ring old → IsHanded ring new
is_handed_still ring old new are is finished may = is finished (subst (λ handed. MayCome handed (Last finished)) are may)

-- a ring that gave nothing had no known item
pub none_known : {T : Type 0} (known : List T) → (0 < length known → false ≡ true) → known ≡ []
none_known [] none = refl
none_known (item ∷ known) none = absurd (false≢true (none (omega arith)))

-- if no item is left in the ring, all that was put was taken
pub none_left : {T : Type 0} (taken known put put' : List T) → length known ≡ 0 → taken ++ known ≡ put → put' ≡ put → put' ≡ taken
none_left taken known put put' none is same =
    same ∙ sym is ∙ ap (λ left. taken ++ left) (nil_from_length known none) ∙ append-nil taken
