use Rattle.std.proofs.Common.{List, ℕ, ◌++◌, length, sym, subst}
use Rattle.plain_world.specs.Spelling.{line_end}
use Rattle.resp_frames.proofs.Putting.{one_digit, two_digits}
use Rattle.serving.specs.Output.{pending_bytes, Gathers}
use Rattle.serving.proofs.short.append_bulk.Goals as goal

pub returns-then-len-lt10 : goal.returns-then-len-lt10
returns-then-len-lt10 c =
    let word = c.args.word.now in
    let P : List ℕ → Type 0 = λ head. Gathers (pending_bytes c.args.pending.now) (pending_bytes c.append_headed.new.pending) (head ++ word ++ line_end) c.append_headed.result in
    subst P (sym (one_digit 36 (length word) c.if-len-lt10.true)) c.append_headed.ensures

pub returns-then-len-lt100 : goal.returns-then-len-lt100
returns-then-len-lt100 c =
    let word = c.args.word.now in
    let a = c.append_headed-then-len-lt100 in
    let P : List ℕ → Type 0 = λ head. Gathers (pending_bytes c.args.pending.now) (pending_bytes a.new.pending) (head ++ word ++ line_end) a.result in
    subst P (sym (two_digits 36 (length word) c.if-len-lt10.false c.if-len-lt100.true)) a.ensures
