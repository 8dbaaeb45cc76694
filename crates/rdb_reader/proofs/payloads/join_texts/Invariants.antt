use Rattle.std.proofs.Common.{◌≡◌, length}
use Rattle.std.specs.Prelude.{MatchOption}
use Rattle.blocks.specs.Blocks.{Changes, Served}
use Rattle.object_codec.specs.Forms.{IsLeast}
use Rattle.plain_world.specs.Worlds.{SetOf}
use Rattle.set_object.specs.Members.{members, refs, form_of, IsMembers, KeepsSettings}
use Rattle.set_object.specs.Strings.{FitsMembers}
use Rattle.rdb_grammar.specs.Payloads.{with_text}
use Rattle.rdb_reader.proofs.Unpacked.{PutSoFar}
use Rattle.listpack.specs.Pack.{IsAt, texts}
use Rattle.rdb_reader.proofs.payloads.join_texts.Given as goal

abbrev pub invariant-loop : goal.invariant-loop
invariant-loop g l =
    let blocks = g.B.BlockStore.blocks in
    let first = SetOf (members (blocks l.fn.store) l.fn.members) in
    record {
      place : MatchOption l.next (l.counter ≡ length (texts l.pack.bytes.now)) (λ at. IsAt l.pack.bytes.now l.counter at);
      turns : PutSoFar with_text first (texts l.pack.bytes.now) l.counter (SetOf (members (blocks l.store) l.members));
      sound : IsMembers (blocks l.store) l.members;
      settings : KeepsSettings l.fn.members l.members;
      form : IsLeast (FitsMembers l.fn.members.limits (members (blocks l.fn.store) l.fn.members)) (form_of l.fn.members)
          → IsLeast (FitsMembers l.fn.members.limits (members (blocks l.store) l.members)) (form_of l.members);
      changes : Changes (blocks l.fn.store) (blocks l.store) (refs l.fn.members) (refs l.members);
      served : Served g.B.BlockStore.step l.fn.store l.store;
    }
