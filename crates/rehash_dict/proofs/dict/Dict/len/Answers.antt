use Rattle.std.proofs.Common.{ap, sym, ◌∙◌}
use Rattle.rehash_dict.specs.Table.{table_len}
use Rattle.rehash_dict.proofs.MapOf.{len_map_of}
use Rattle.rehash_dict.proofs.dict.Dict.len.Goals as goal

pub returns-clause-map : goal.returns-clause-map
returns-clause-map g c blocks k = c.len.ensures ∙ ap table_len c.self.view_is ∙ sym (len_map_of blocks (λ v. v) c.args.self.now k)
