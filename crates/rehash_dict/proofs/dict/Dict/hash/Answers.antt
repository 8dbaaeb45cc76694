use Rattle.std.proofs.Common.{◌∙◌, ap, ◌^◌, ◌-◌}
use Rattle.rehash_dict.specs.Keyed.{hash_of}
use Rattle.digests.specs.Siphash.{sip}
use Rattle.rehash_dict.proofs.dict.Dict.hash.Goals as goal

pub returns : goal.returns
unfolding hash_of
returns g c = c.sip.ensures ∙ ap (λ t. sip 1 2 t.seed (2 ^ 64 - 1 - t.seed) c.args.key.now) c.self.view_is
