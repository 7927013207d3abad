use Rattle.std.proofs.Common.{◌<◌, ◌+◌, ◌∷◌, [], ◌++◌, length, drop, take, ap, ◌∙◌, sym, subst}
use Rattle.command_codec.specs.Number.{number_octets}
use Rattle.wamp_messages.specs.Writing.{text_of}
use Rattle.realm_codec.specs.Parts.{length_form}
use Rattle.realm_codec.proofs.Texts.{text_length, no_text, text_put, filled, cut_back, all_stands}
use Rattle.realm_codec.proofs.text.put_text.Goals as goal

pub returns-in_default-try_from : goal.returns-in_default-try_from
returns-in_default-try_from c =
    let old = c.args.out.now.items in
    let text = text_of c.args.message.now in
    let mid = c.extend_from_slice.new.self.items in
    let items = c.write_into.new.out.items in
    let long =
    text_length mid items text c.len.result c.len-begin.result c.in-Ok.ensures.spelled (c.len.ensures ∙ c.write_into.new.out.ok.0)
    (c.len-begin.ensures ∙ c.extend_from_slice.new.self.ok.0) in (
      no_text c.args.message.now (λ short. c.in_default-try_from.ensures (subst (λ n. n < 4294967296) (sym long) short)),
      c.truncate-in_default-try_from.ensures.items
          ∙ cut_back old (0 ∷ 0 ∷ 0 ∷ 0 ∷ 0 ∷ []) text mid items c.len-start.result c.in_ok-extend_from_slice.ensures.items
          c.in-Ok.ensures.spelled (c.len-start.ensures ∙ c.args.out.now.ok.0),
    )

pub returns : goal.returns
returns c =
    let old = c.args.out.now.items in
    let text = text_of c.args.message.now in
    let mid = c.extend_from_slice.new.self.items in
    let items = c.write_into.new.out.items in
    let start = c.len-start.result in
    let whole = c.fill_in.new.octets in
    let number = number_octets length_form c.in-Ok-try_from.length in
    let long =
    text_length mid items text c.len.result c.len-begin.result c.in-Ok.ensures.spelled (c.len.ensures ∙ c.write_into.new.out.ok.0)
    (c.len-begin.ensures ∙ c.extend_from_slice.new.self.ok.0) in
    let is = c.in-Ok.ensures.spelled ∙ ap (λ l. l ++ text) c.in_ok-extend_from_slice.ensures.items in
    text_put c.args.message.now old _ c.in-Ok.ensures.read_again (subst (λ n. n < 4294967296) long c.in-Ok-try_from.ensures.0)
    (all_stands whole (drop (length whole) items) c.write_into.new.out.len (c.fill_in.auto.octets ∙ c.deref_mut.ensures.len)
    ∙ c.fill_in.ensures
    ∙ ap (λ l. take (start + 1) l ++ (number ++ drop (start + 1 + 4) l)) c.deref_mut.ensures.value
    ∙ filled old number text items start is (c.len-start.ensures ∙ c.args.out.now.ok.0)
    ∙ ap (λ n. old ++ (0 ∷ (number_octets length_form n ++ text))) (c.in-Ok-try_from.ensures.1 ∙ long))
