use Rattle.std.proofs.Common.{◌≡◌, ◌<◌, length, get_or, sym, refl, rules}
use Rattle.std.proofs.lemmas.List.{get_or_read}
use Rattle.serve_feed.proofs.Giving.{found_aside}
use Rattle.serve_feed.proofs.sources.Sources.next_aside.Goals as goal

pub returns-in-Some : goal.returns-in-Some
returns-in-Some c =
    let items = c.args.self.now.list.items in
    let within : c.args.place < length items = search rules in
    let read : c.in-Some.source.now ≡ get_or items c.args.place c.in-Some.source.now = c.in-Some.ensures.value in
    record {
      finds = λ given. found_aside c.next_aside.result c.args.self.now _ c.args.place given c.in-Some.source.now c.next_aside.new.self within
          (λ d. sym (get_or_read items c.args.place c.in-Some.source.now within read d)) refl refl c.next_aside.ensures.number
          c.next_aside.ensures.keeps c.next_aside.ensures.known c.next_aside.ensures.forgets;
      last = refl;
    }
