use Rattle.std.proofs.Common.{rules, ◌≡◌, subst, sym, ap}
use Rattle.rehash_dict.specs.Steps.{Adds}
use Rattle.rehash_dict.proofs.Edited.{table_of, adds}
use Rattle.rehash_dict.specs.Keyed.{hash_of, key_tables}
use Rattle.rehash_dict.proofs.Growing.{grown_insert, grown_same}
use Rattle.rehash_dict.proofs.dict.Dict.insert_hashed.Goals as goal

pub returns-clause-added : goal.returns-clause-added
returns-clause-added g c =
    subst
    (λ old. Adds old (table_of c.add-at.new.self c.step_if_rehashing-self-inside.result c.self.inside.seed c.max-self-inside.result) c.add-at.result
    (record { key = c.args.key; hash = c.args.hash; value = c.args.value })) c.self.view_is
    (subst
    (λ top. Adds (table_of c.self.inside.chains c.self.inside.position c.self.inside.seed c.self.inside.top)
    (table_of c.add-at.new.self c.step_if_rehashing-self-inside.result c.self.inside.seed top) c.add-at.result (record { key = c.args.key; hash = c.args.hash; value = c.args.value }))
    (sym c.max-self-inside.ensures)
    (adds c.self.inside.chains c.make_room.new.chains c.step_if_rehashing-self-inside.new.chains c.add-at.new.self c.self.inside.position c.step_if_rehashing-self-inside.result
    c.self.inside.seed c.self.inside.top c.add-at.result _ c.side_for_new-side.result c.self.invariant
    c.in_default.ensures.items c.in_default.ensures.tables c.step_if_rehashing-self-inside.ensures.rebuilds c.step_if_rehashing-self-inside.ensures.tables c.side_for_new-side.ensures
    c.add-at.ensures.adds))

pub returns-clause-grown : goal.returns-clause-grown
returns-clause-grown g c blocks k live hashed lacks =
    grown_insert blocks c.args.self.now (table_of c.add-at.new.self c.step_if_rehashing-self-inside.result c.self.inside.seed c.max-self-inside.result) _ k lacks
    ((returns-clause-added g c).keyed blocks k live hashed lacks).1

pub returns-in-Err-clause-grown : goal.returns-in-Err-clause-grown
returns-in-Err-clause-grown g c blocks k live hashed lacks =
    let same : table_of c.make_room.new.chains c.self.inside.position c.self.inside.seed c.self.inside.top ≡ c.args.self.now = search rules in
    grown_same (hash_of c.args.self.now.seed) (key_tables blocks c.args.self.now) _ (ap (key_tables blocks) same)
