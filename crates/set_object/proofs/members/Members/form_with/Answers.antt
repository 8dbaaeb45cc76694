use Rattle.std.proofs.Common.{◌≡◌, ℕ, List, Option, [], unwrap_or, sym, ap, subst}
use Rattle.std.specs.FinMap.{insert}
use Rattle.blocks.specs.Blocks.{bytes_at}
use Rattle.object_codec.specs.declared.form.Form.TheVariants.{Intset}
use Rattle.set_object.specs.Strings.{set_of, IsRisen}
use Rattle.set_object.specs.Members.{number_texts}
use Rattle.set_object.proofs.Placing.{empty_risen, numbers_risen, pack_risen}
use Rattle.set_object.proofs.members.Members.form_with.Goals as goal

pub returns-in-Empty : goal.returns-in-Empty
returns-in-Empty g c =
    let self = c.args.self.now in
    empty_risen (g.B.BlockStore.blocks c.args.store.now) self.limits self.seed self.body c.args.member.now c.requires.absent c.set_form.result c.is_number.result c.in-Empty.is
    c.is_number.ensures c.set_form.ensures

pub returns-in-Numbers : goal.returns-in-Numbers
returns-in-Numbers g c =
    let m = g.B.BlockStore.blocks c.args.store.now in
    let self = c.args.self.now in
    let x = c.args.member.now in
    let same : bytes_at m c.in-Numbers.packed.at ≡ c.bytes.result.now = ap (λ (o : Option (List ℕ)). unwrap_or o []) c.bytes.ensures in
    numbers_risen m self.limits self.seed self.body x c.requires.absent c.form_of_numbers.result c.in-Numbers.packed c.in-Numbers.is
    (subst (λ (bs : List ℕ). IsRisen self.limits Intset (insert (set_of (number_texts bs)) x tt) c.form_of_numbers.result) (sym same) c.form_of_numbers.ensures)

pub returns-in-Pack : goal.returns-in-Pack
returns-in-Pack g c =
    let self = c.args.self.now in
    pack_risen (g.B.BlockStore.blocks c.args.store.now) self.limits self.seed self.body c.args.member.now c.requires.absent c.set_form-in-Pack.result c.in-Pack.packed c.in-Pack.is
    c.requires.sound.body c.set_form-in-Pack.ensures
