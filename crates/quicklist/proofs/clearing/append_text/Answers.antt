use Rattle.std.proofs.Common.{arith}
use Rattle.quicklist.proofs.Rising.{on_ok_three}
use Rattle.quicklist.proofs.Written.{appended_is, alone_len}
use Rattle.quicklist.proofs.clearing.append_text.Goals as goal

pub returns-clause-packed : goal.returns-clause-packed
returns-clause-packed c =
    on_ok_three c.append.result
    (λ e is same. appended_is c.args.pack.now.items c.append.new.pack.items c.args.text.now _ c.requires.packed (omega (arith, c.requires.room, alone_len c.args.text.now)) e is)
    c.append.ensures.entries c.append.ensures.list c.append.ensures.list
