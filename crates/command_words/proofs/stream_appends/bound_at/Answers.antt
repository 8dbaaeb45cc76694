use Rattle.std.proofs.Common.{◌≡◌, ◌≤◌, ◌+◌, ◌-◌, length, drop, drop-drop, length-drop, ◌∙◌, ap, arith}
use Rattle.plain_model.specs.StreamWords.{own_words}
use Rattle.command_words.proofs.AppendWords.{unmarked_at, unmarked_none}
use Rattle.command_words.proofs.stream_appends.bound_at.Goals as goal

pub returns-then-own-left-clause-none : goal.returns-then-own-left-clause-none
returns-then-own-left-clause-none c =
    let words = c.args.request.now in
    unmarked_none (drop c.args.from words) (omega (arith, c.if-own-left.true, c.len.ensures.len, c.own_words-own.ensures.same, length-drop c.args.from words))

pub returns-clause-some : goal.returns-clause-some
returns-clause-some c =
    let words = c.args.request.now in
    let from = c.args.from in
    let rest = drop from words in
    let own = own_words rest in
    let same = c.own_words-own.ensures.same in
    let least = c.own_words-own.ensures.some in
    let enough : own ≤ length rest = omega (arith, c.if-own-left.false, c.len.ensures.len, same, length-drop from words) in
    let place : from + (own - 1) ≡ from + c.own_words-own.result - 1 = omega (arith, same, least) in (
      omega (arith, same, least, enough, length-drop from words),
      unmarked_at rest (omega (arith, enough, same, least)) enough ∙ drop-drop (own - 1) from words ∙ ap (λ n. drop n words) place,
    )
