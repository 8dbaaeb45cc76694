use Rattle.std.proofs.Common.{◌≡◌, ◌≤◌, ◌^◌, ◌/◌, ◌%◌, length, ap, subst, ◌∙◌, arith}
use Rattle.std.specs.Prelude.{OnOk}
use Rattle.plain_world.specs.Words.{Words, IsRequest}
use Rattle.resp_frames.specs.Frames.{request_bytes}
use Rattle.generator.specs.Commands.{kind_of, words_of}
use Rattle.generator.proofs.Short.{is_request, is_short}
use Rattle.generator.proofs.Ways.{drawn_two}
use Rattle.generator.proofs.drawing.draw_request.Goals as goal

pub returns-clause-request : goal.returns-clause-request
returns-clause-request c =
    let two = drawn_two c.args.dice.now _ _ c.next_word-first.result c.next_word-second.result c.next_word-first.ensures c.next_word-second.ensures in
    let P : Words → Type 0 = λ words. OnOk c.put_command.result (c.put_command.new.bytes.items ≡ request_bytes words) in
    subst P (ap (λ k. words_of k (c.next_word-first.result / 16 % 1000) c.next_word-second.result) c.kind_of.ensures ∙ two.0) c.put_command.ensures

pub returns-clause-dice : goal.returns-clause-dice
returns-clause-dice c =
    (drawn_two c.args.dice.now _ _ c.next_word-first.result c.next_word-second.result c.next_word-first.ensures c.next_word-second.ensures).1

pub returns-clause-sound : goal.returns-clause-sound
returns-clause-sound c =
    let two = drawn_two c.args.dice.now _ _ c.next_word-first.result c.next_word-second.result c.next_word-first.ensures c.next_word-second.ensures in
    subst IsRequest two.0 (is_request (kind_of c.next_word-first.result) (c.next_word-first.result / 16 % 1000) c.next_word-second.result (omega arith) (omega (arith, c.next_word-second.type_inv)))

pub returns-clause-short : goal.returns-clause-short
returns-clause-short c =
    let two = drawn_two c.args.dice.now _ _ c.next_word-first.result c.next_word-second.result c.next_word-first.ensures c.next_word-second.ensures in
    let P : Words → Type 0 = λ words. length (request_bytes words) ≤ 2 ^ 62 in
    subst P two.0 (is_short (kind_of c.next_word-first.result) (c.next_word-first.result / 16 % 1000) c.next_word-second.result (omega arith) (omega (arith, c.next_word-second.type_inv)))
