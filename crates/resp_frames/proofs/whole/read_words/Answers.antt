use Rattle.std.proofs.Common.{◌≡◌, length, vec_len, rules, ◌∙◌}
use Rattle.resp_frames.proofs.Wholes.{word_last}
use Rattle.resp_frames.proofs.whole.read_words.Goals as goal

pub returns-then-len-words : goal.returns-then-len-words
returns-then-len-words c =
    let new = c.push.new.self in
    let all : vec_len new ≡ length new.items = search rules in
    word_last c.args.bytes.now c.words.at c.args.words c.in-Some.word c.words.spans.items new.items c.words.invariant c.in-Some.ensures c.in_ok-push.ensures.items c.len.result
    (c.len.ensures ∙ all) c.if-len-words.true
