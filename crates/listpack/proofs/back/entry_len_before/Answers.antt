use Rattle.std.proofs.Common.{arith}
use Rattle.listpack.proofs.Backs.{ends}
use Rattle.listpack.proofs.back.entry_len_before.Goals as goal

pub returns-then-a-lt128 : goal.returns-then-a-lt128
returns-then-a-lt128 c = λ front size e. let h = ends front c.args.bytes.now size e in grind arith

pub returns : goal.returns
returns c = λ front size e. let h = ends front c.args.bytes.now size e in grind arith

pub returns-then-b-lt128 : goal.returns-then-b-lt128
returns-then-b-lt128 c = λ front size e. let h = ends front c.args.bytes.now size e in grind arith

pub returns-then-c-lt128 : goal.returns-then-c-lt128
returns-then-c-lt128 c = λ front size e. let h = ends front c.args.bytes.now size e in grind arith

pub returns-then-d-lt128 : goal.returns-then-d-lt128
returns-then-d-lt128 c = λ front size e. let h = ends front c.args.bytes.now size e in grind arith

pub from_end-a-requires-clause-inside : goal.from_end-a-requires-clause-inside
from_end-a-requires-clause-inside c = let h = ends c.requires.0 c.args.bytes.now c.requires.1 c.requires.2 in grind arith

pub from_end-b-requires-clause-inside : goal.from_end-b-requires-clause-inside
from_end-b-requires-clause-inside c = let h = ends c.requires.0 c.args.bytes.now c.requires.1 c.requires.2 in grind arith

pub from_end-c-requires-clause-inside : goal.from_end-c-requires-clause-inside
from_end-c-requires-clause-inside c = let h = ends c.requires.0 c.args.bytes.now c.requires.1 c.requires.2 in grind arith

pub from_end-d-requires-clause-inside : goal.from_end-d-requires-clause-inside
from_end-d-requires-clause-inside c = let h = ends c.requires.0 c.args.bytes.now c.requires.1 c.requires.2 in grind arith

pub from_end-e-requires-clause-inside : goal.from_end-e-requires-clause-inside
from_end-e-requires-clause-inside c = let h = ends c.requires.0 c.args.bytes.now c.requires.1 c.requires.2 in grind arith
