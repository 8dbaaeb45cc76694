use Rattle.std.proofs.Common.{rules, ◌≡◌, ◌∙◌, ◌+◌, List, Some, length, take, sym, ap, ℕ, arith}
use Rattle.std.specs.Prelude.{slice_get}
use Rattle.std.specs.FinMap.{values}
use Rattle.std.proofs.lemmas.List.{length_push}
use Rattle.std.proofs.lemmas.Option.{slice_get_within}
use Rattle.told_values.specs.Told.{texts_told}
use Rattle.told_values.specs.Reading.{consumers_in}
use Rattle.told_values.proofs.Grouped.{all_read, consumer_is, text_more}
use Rattle.told_values.proofs.groups.read_consumers.Goals as goal

pub consumers-preserved : goal.consumers-preserved
consumers-preserved c =
    let found = slice_get (values c.args.stream.now.groups) c.args.at in
    let list = consumers_in found in
    let names = c.consumers.names.items in
    let text = c.in_ok-text.text in
    let len : c.len.result ≡ length names = search rules in
    let here : slice_get list (length names) ≡ Some text.items =
    ap (slice_get list) (sym len) ∙ sym (consumer_is found c.len.result) ∙ sym c.in-Some.ensures ∙ ap (λ (t : List ℕ). Some t) (sym c.in_ok-text.ensures.items) in
    let more : length c.push.new.self.items ≡ length names + 1 = ap length c.in_ok-push.ensures.items ∙ length_push names text in
    ap texts_told c.in_ok-push.ensures.items ∙ text_more list (length names) names text here c.consumers.invariant ∙ ap (λ (k : ℕ). take k list) (sym more)

pub consumers-smaller : goal.consumers-smaller
consumers-smaller c =
    let found = slice_get (values c.args.stream.now.groups) c.args.at in
    let list = consumers_in found in
    let names = c.consumers.names.items in
    let len : c.len.result ≡ length names = search rules in
    let here : slice_get list (length names) ≡ Some c.in-Some.name.now = ap (slice_get list) (sym len) ∙ sym (consumer_is found c.len.result) ∙ sym c.in-Some.ensures in
    let more : length c.push.new.self.items ≡ length names + 1 = ap length c.in_ok-push.ensures.items ∙ length_push names c.in_ok-text.text in
    omega (arith, more, slice_get_within list (length names) c.in-Some.name.now here)

pub returns : goal.returns
returns c =
    let found = slice_get (values c.args.stream.now.groups) c.args.at in
    let list = consumers_in found in
    let len : c.len.result ≡ length c.consumers.names.items = search rules in
    c.consumers.invariant ∙ all_read list (length c.consumers.names.items) (ap (slice_get list) (sym len) ∙ sym (consumer_is found c.len.result) ∙ sym c.in_default.ensures)
