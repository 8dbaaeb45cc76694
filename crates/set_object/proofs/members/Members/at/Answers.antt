use Rattle.std.proofs.Common.{◌∙◌, sym, subst, ap, unwrap_or, Some, [], List, ℕ, Option}
use Rattle.listpack.specs.Pack.{IsAt}
use Rattle.set_object.proofs.Ranks.{Spot, pack_spot, other_spot}
use Rattle.set_object.proofs.members.Members.at.Goals.{in-Pack, in_default}
use Rattle.set_object.proofs.members.Members.at.Goals as goal

pub element_at-requires-clause-place : goal.element_at-requires-clause-place
element_at-requires-clause-place g c =
    let m = g.B.BlockStore.blocks c.args.store.now in
    let b = c.args.self.now.body in
    let item = c.args.item in
    let spot : Spot m b item c.match-self.place = elim c.match-self.branch [
      | in-Pack w ↦ subst (Spot m b item) (sym w.place-is)
          (pack_spot m b w.in-Pack.packed item w.offset_of-place.result w.in-Pack.is
          (subst (λ (bs : List ℕ). IsAt bs item w.offset_of-place.result) (sym (ap (λ (o : Option (List ℕ)). unwrap_or o []) w.bytes.ensures)) w.offset_of-place.ensures)
          c.requires.entry)
      | in_default w ↦ subst (Spot m b item) (sym w.place-is) (other_spot m b item w.in_default.not-Pack c.requires.entry)
    ] in
    (spot.0, spot.1)

pub returns : goal.returns
returns g c =
    let m = g.B.BlockStore.blocks c.args.store.now in
    let b = c.args.self.now.body in
    let item = c.args.item in
    let spot : Spot m b item c.match-self.place = elim c.match-self.branch [
      | in-Pack w ↦ subst (Spot m b item) (sym w.place-is)
          (pack_spot m b w.in-Pack.packed item w.offset_of-place.result w.in-Pack.is
          (subst (λ (bs : List ℕ). IsAt bs item w.offset_of-place.result) (sym (ap (λ (o : Option (List ℕ)). unwrap_or o []) w.bytes.ensures)) w.offset_of-place.ensures)
          c.requires.entry)
      | in_default w ↦ subst (Spot m b item) (sym w.place-is) (other_spot m b item w.in_default.not-Pack c.requires.entry)
    ] in
    spot.2 ∙ ap Some (sym (c.element_at.ensures spot.0 spot.1))
