use Rattle.std.proofs.Common.{◌≡◌, List, map, refl, subst, arith}
use Rattle.std.specs.Prelude.{IfOk}
use Rattle.plain_world.specs.Streams.{StreamEntry}
use Rattle.stream_node.specs.declared.id.Id.{Id}
use Rattle.stream_node.specs.Ids.{IsId}
use Rattle.stream_object.specs.Ranges.{taken}
use Rattle.stream_object.specs.Streams.{stream_of}
use Rattle.stream_object.proofs.Rises.{stream_fits}
use Rattle.told_values.proofs.Between.{all_in_range}
use Rattle.told_values.proofs.streams.read_entries.Goals as goal

abbrev bottom : Id
bottom = record { ms = 0; seq = 0 }

abbrev top : Id
top = record { ms = 18446744073709551615; seq = 18446744073709551615 }

pub returns : goal.returns
returns g c =
    let m = g.B.BlockStore.blocks c.args.store.now in
    let s = c.args.stream.now in
    let least : IsId bottom = record { ms = omega arith; seq = omega arith } in
    let greatest : IsId top = record { ms = omega arith; seq = omega arith } in
    subst (λ (es : List StreamEntry). IfOk c.range.result (λ found. map taken found.items ≡ es))
    (all_in_range bottom top least greatest refl refl (stream_of m s) c.len-count.result (stream_fits m s c.requires) (omega (arith, c.len-count.ensures m c.requires))) c.range.ensures
