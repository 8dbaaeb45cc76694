use Rattle.std.proofs.Common.{refl, ap, subst, unwrap_or, []}
use Rattle.class_heap.specs.Entries.{block_in, HasRoom}
use Rattle.class_heap.proofs.Lengthening.{filled_up}
use Rattle.class_heap.proofs.entry.Entry.lengthen.Goals as goal

pub returns : goal.returns
returns c =
    let room = subst (λ e. HasRoom c.args.len e) c.in-Large.is c.requires.room in
    let was = ap (λ e. unwrap_or (block_in e 0) []) c.in-Large.is in
    record {
      lengthened = record {
        block = c.resize.new.self;
        is = refl;
        holds = filled_up c.in-Large.bytes c.args.len (unwrap_or (block_in c.args.self.now 0) []) c.resize.new.self.items _ was c.requires.longer (c.resize.ensures.succeeds room)
            c.resize.ensures.items;
      };
    }
