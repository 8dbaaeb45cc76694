use Rattle.std.proofs.Common.{◌∙◌}
use Rattle.listpack.proofs.Offsets.{counted, no_region_fault}
use Rattle.listpack.proofs.walks.Pack.len.Goals as goal

pub unreachable-requires : goal.unreachable-requires
unreachable-requires c = no_region_fault c.args.self.now.bytes.now _ c.args.self.now.packed c.in-Err.ensures.err

pub returns : goal.returns
returns c = let ok = c.in-Ok.ensures.ok in ok.2 ∙ counted c.args.self.now.bytes.now ok.0 c.args.self.now.packed ok.1
