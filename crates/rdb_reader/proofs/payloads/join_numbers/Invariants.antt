use Rattle.std.proofs.Common.{map}
use Rattle.int_text.specs.Decimal.{canonical}
use Rattle.blocks.specs.Blocks.{Changes, Served}
use Rattle.object_codec.specs.Forms.{IsLeast}
use Rattle.plain_world.specs.Worlds.{SetOf}
use Rattle.set_object.specs.Members.{members, refs, form_of, IsMembers, KeepsSettings}
use Rattle.set_object.specs.Strings.{FitsMembers}
use Rattle.rdb_grammar.specs.Payloads.{with_text}
use Rattle.rdb_reader.proofs.Unpacked.{PutSoFar}
use Rattle.rdb_reader.proofs.payloads.join_numbers.Given as goal

abbrev pub invariant-loop-index : goal.invariant-loop-index
invariant-loop-index g l =
    let blocks = g.B.BlockStore.blocks in
    let first = SetOf (members (blocks l.fn.store) l.fn.members) in
    record {
      turns : PutSoFar with_text first (map canonical l.numbers) l.index (SetOf (members (blocks l.store) l.members));
      sound : IsMembers (blocks l.store) l.members;
      settings : KeepsSettings l.fn.members l.members;
      form : IsLeast (FitsMembers l.fn.members.limits (members (blocks l.fn.store) l.fn.members)) (form_of l.fn.members)
          → IsLeast (FitsMembers l.fn.members.limits (members (blocks l.store) l.members)) (form_of l.members);
      changes : Changes (blocks l.fn.store) (blocks l.store) (refs l.fn.members) (refs l.members);
      served : Served g.B.BlockStore.step l.fn.store l.store;
    }
