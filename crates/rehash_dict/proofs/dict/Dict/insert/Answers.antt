use Rattle.std.proofs.Common.{◌∙◌, sym, ap}
use Rattle.std.specs.Prelude.{unwrap_or, []}
use Rattle.rehash_dict.specs.Keyed.{hash_of}
use Rattle.rehash_dict.proofs.MapOf.{content_adds}
use Rattle.rehash_dict.proofs.dict.Dict.insert.Goals as goal

pub returns-clause-map : goal.returns-clause-map
returns-clause-map g c =
    content_adds (g.B.BlockStore.blocks c.args.store.now) c.args.self.now c.insert_hashed.new.self (record { key = c.args.key; hash = c.hash-hash.result; value = c.args.value }) c.insert_hashed.result
    c.requires.keyed c.requires.live (c.hash-hash.ensures ∙ sym (ap (λ o. hash_of c.args.self.now.seed (unwrap_or o [])) c.bytes.ensures)) c.requires.absent c.insert_hashed.ensures.added
