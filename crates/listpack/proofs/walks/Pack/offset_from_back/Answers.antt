use Rattle.std.proofs.Common.{◌≡◌, ◌-◌, ◌+◌, length, ap, ◌∙◌, arith}
use Rattle.listpack.specs.Pack.{offset_of, texts}
use Rattle.listpack.proofs.Offsets.{length_texts, offset_end}
use Rattle.listpack.proofs.walks.Pack.offset_from_back.Goals as goal

pub loop-init : goal.loop-init
loop-init c =
    let bytes = c.args.self.now.bytes.now in
    let n = length (texts bytes) in
    let all : n - 0 ≡ n = omega arith in
    let far = offset_end bytes n c.args.self.now.packed (omega (arith, length_texts bytes)) in
    omega (arith, far, ap (offset_of bytes) all)

pub before-at-requires : goal.before-at-requires
before-at-requires c = (length (texts c.args.self.now.bytes.now) - c.loop.counter, omega arith, omega arith, c.loop.invariant)

pub loop-preserved : goal.loop-preserved
loop-preserved c =
    let bytes = c.args.self.now.bytes.now in
    let n = length (texts bytes) in
    let back : n - c.loop.counter - 1 ≡ n - (c.loop.counter + 1) = omega arith in
    c.before-at.ensures (n - c.loop.counter) (omega arith) (omega arith) c.loop.invariant ∙ ap (offset_of bytes) back
