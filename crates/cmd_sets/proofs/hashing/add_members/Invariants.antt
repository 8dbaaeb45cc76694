use Rattle.std.proofs.Common.{◌≡◌, ◌≤◌, length, take}
use Rattle.std.specs.Prelude.{MatchOption}
use Rattle.set_object.specs.Members.{IsMembers, listed, members}
use Rattle.set_object.specs.Items.{IsCursor}
use Rattle.plain_model.specs.SetSteps.{add_all}
use Rattle.cmd_sets.proofs.hashing.add_members.Given as goal

abbrev pub invariant-loop-index : goal.invariant-loop-index
invariant-loop-index g l =
    let m = g.A.BlockStore.blocks l.store in
    record {
      next : MatchOption l.place (length (listed m l.set) ≤ l.index) (λ cursor. IsCursor m l.set cursor × (cursor.index ≡ l.index));
      sound : IsMembers (g.B.BlockStore.blocks l.own) l.all;
      so_far : members (g.B.BlockStore.blocks l.own) l.all ≡ add_all (members (g.B.BlockStore.blocks l.fn.own) l.fn.all) (take l.index (listed m l.set));
    }
