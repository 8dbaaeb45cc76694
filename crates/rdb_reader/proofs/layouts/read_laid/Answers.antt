use Rattle.rdb_reader.proofs.Unpacked.{suits}
use Rattle.rdb_reader.proofs.layouts.read_laid.Goals as goal

pub returns-in-Elements-clause-fills : goal.returns-in-Elements-clause-fills
returns-in-Elements-clause-fills g c = rw c.in-Elements.is c.fill.ensures.fills

pub read_payload-requires-clause-suits : goal.read_payload-requires-clause-suits
read_payload-requires-clause-suits g c = suits c.in-Packed.packed c.args.value.now (rw c.in-Packed.is at c.requires.kind)

pub returns-in-Packed-clause-fills : goal.returns-in-Packed-clause-fills
returns-in-Packed-clause-fills g c = rw c.in-Packed.is c.read_payload.ensures.fills

pub read_nodes-requires-clause-kind : goal.read_nodes-requires-clause-kind
read_nodes-requires-clause-kind g c = rw c.in-Nodes.is at c.requires.kind

pub returns-in-Nodes-clause-fills : goal.returns-in-Nodes-clause-fills
returns-in-Nodes-clause-fills g c = rw c.in-Nodes.is c.read_nodes.ensures.fills

pub read_whole-requires-clause-kind : goal.read_whole-requires-clause-kind
read_whole-requires-clause-kind g c = rw c.in-Stream.is at c.requires.kind

pub read_whole-requires-clause-begun : goal.read_whole-requires-clause-begun
read_whole-requires-clause-begun g c = rw c.in-Stream.is at c.requires.begun

pub returns-in-Stream-clause-fills : goal.returns-in-Stream-clause-fills
returns-in-Stream-clause-fills g c = rw c.in-Stream.is c.read_whole.ensures.fills
