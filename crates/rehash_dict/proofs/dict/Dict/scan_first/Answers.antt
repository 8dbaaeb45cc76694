use Rattle.rehash_dict.proofs.Scanning.{first_all}
use Rattle.rehash_dict.proofs.dict.Dict.scan_first.Goals as goal

pub returns : goal.returns
returns g c = first_all c.chains.result.now c.args.self.now.position c.args.self.now.seed c.args.self.now.top c.args.self.now c.args.cursor c.chains.ensures.value c.chains.ensures.placed
    c.first_from.result c.first_from.ensures
