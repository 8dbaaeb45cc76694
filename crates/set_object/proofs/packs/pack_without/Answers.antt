use Rattle.std.proofs.Common.{◌≡◌, ℕ, List, sym, ap, ◌∙◌, subst}
use Rattle.std.specs.List.{remove as removed}
use Rattle.listpack.specs.Pack.{texts}
use Rattle.set_object.specs.Members.{IsPackOf}
use Rattle.set_object.specs.Strings.{IsOnce, set_of}
use Rattle.set_object.proofs.Sets.{set_removed, has_among, stands_get}
use Rattle.set_object.proofs.Packing.{pack_removed}
use Rattle.set_object.proofs.Taking.{texts_once}
use Rattle.set_object.proofs.packs.pack_without.Goals as goal

pub returns-in_ok-pack-in-Some-clause-there : goal.returns-in_ok-pack-in-Some-clause-there
returns-in_ok-pack-in-Some-clause-there c =
    sym (has_among (texts c.args.bytes.now) c.args.member.now ∙ stands_get (texts c.args.bytes.now) c.in-Some.index c.args.member.now c.in-Some.ensures.found)

pub returns-in_ok-pack-in-Some-clause-left : goal.returns-in_ok-pack-in-Some-clause-left
returns-in_ok-pack-in-Some-clause-left c =
    let list = texts c.args.bytes.now in
    let old : IsPackOf list c.in_ok-pack-in-Some.pack.items = subst (IsPackOf list) (sym c.in_ok-pack-in-Some.ensures.items) c.requires.pack in
    let left : texts c.remove.new.pack.items ≡ removed list c.in-Some.index =
    subst (λ (bs : List ℕ). texts c.remove.new.pack.items ≡ removed (texts bs) c.in-Some.index) c.in_ok-pack-in-Some.ensures.items c.remove.ensures.list in
    let new = pack_removed list c.in_ok-pack-in-Some.pack.items c.remove.new.pack.items c.in-Some.index _ old c.remove.ensures.entries c.remove.ensures.list in
    record {
      pack = subst (λ xs. IsPackOf xs c.remove.new.pack.items) (sym new.texts_are) new;
      once = subst IsOnce (sym left) (texts_once list c.in-Some.index c.args.member.now c.requires.once c.in-Some.ensures.found);
      members_are = ap set_of left ∙ set_removed list c.in-Some.index c.args.member.now c.requires.once c.in-Some.ensures.found;
    }
