use Rattle.std.proofs.Common.{◌≡◌, ◌<◌, ◌∙◌, length, sym, ap, subst, arith, map}
use Rattle.rehash_dict.specs.Tables.{rehashed}
use Rattle.rehash_dict.specs.Table.{item}
use Rattle.rehash_dict.specs.Keyed.{hash_of, key_of, Keyed, key_tables}
use Rattle.rehash_dict.specs.Sides.{held_tables}
use Rattle.std.proofs.lemmas.List.{length-map}
use Rattle.rehash_dict.proofs.Rooms.{going_yes, going_no, rehashed_going, rehashed_not}
use Rattle.rehash_dict.proofs.Keys.{key_tables_rehashed}
use Rattle.rehash_dict.proofs.Edited.{table_of}
use Rattle.rehash_dict.proofs.MapOf.{map_of_items}
use Rattle.rehash_dict.proofs.dict.Dict.rehash_step.Goals as goal

pub returns-then-buckets-eq0-clause-tables : goal.returns-then-buckets-eq0-clause-tables
returns-then-buckets-eq0-clause-tables g c blocks k =
    sym (rehashed_not (hash_of c.args.self.now.seed) (key_tables blocks c.args.self.now)
    (going_no (key_tables blocks c.args.self.now)
    (omega (
      arith,
      length-map c.args.self.now.newer (λ row. map (λ at. key_of blocks (item c.args.self.now at)) row),
      ap (λ t. length t.newer) c.self.view_is,
      c.buckets.ensures,
      c.if-buckets-eq0.true,
    ))))

pub returns-clause-tables : goal.returns-clause-tables
returns-clause-tables g c blocks k =
    let going : 0 < length c.self.inside.chains.newer = omega (arith, c.buckets.ensures, c.if-buckets-eq0.false) in
    subst
    (λ old. key_tables blocks (table_of c.step-self-inside.new.chains c.step-self-inside.result c.self.inside.seed c.self.inside.top) ≡ rehashed (hash_of old.seed)
    (key_tables blocks old) 1) c.self.view_is
    (key_tables_rehashed blocks (table_of c.self.inside.chains c.self.inside.position c.self.inside.seed c.self.inside.top)
    (table_of c.step-self-inside.new.chains c.step-self-inside.result c.self.inside.seed c.self.inside.top)
    (subst (λ t. Keyed blocks t) (sym c.self.view_is) k) c.step-self-inside.ensures.rebuilds.items
    (λ names agrees. c.step-self-inside.ensures.tables names agrees
    ∙ sym (rehashed_going names (held_tables c.self.inside.chains c.self.inside.position) (going_yes (held_tables c.self.inside.chains c.self.inside.position) going))))

pub returns-clause-map : goal.returns-clause-map
returns-clause-map g c blocks = map_of_items blocks (λ v. v) c.args.self.now _ (c.step-self-inside.ensures.rebuilds.items ∙ ap (λ t. t.items) c.self.view_is)
