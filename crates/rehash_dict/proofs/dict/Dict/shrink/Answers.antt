use Rattle.std.proofs.Common.{◌≡◌, ◌≤◌, ◌*◌, ◌+◌, ◌∙◌, [], max, length, sym, ap, subst, refl, arith, true, false, vec_len}
use Rattle.rehash_dict.specs.Tables.{count, wants_shrink, shrunk, begun, least_power}
use Rattle.rehash_dict.specs.Table.{tables}
use Rattle.rehash_dict.specs.Placed.{IsSize}
use Rattle.rehash_dict.specs.Sides.{held_tables}
use Rattle.rehash_dict.specs.Keyed.{key_tables}
use Rattle.rehash_dict.proofs.Powers.{less_size}
use Rattle.rehash_dict.proofs.Rooms.{no_rows, wants_yes, wants_going, wants_small, wants_filled}
use Rattle.rehash_dict.proofs.Keys.{key_tables_shrunk}
use Rattle.rehash_dict.proofs.Edited.{table_of, shrinks, shrinks_not}
use Rattle.rehash_dict.specs.Keyed.{hash_of}
use Rattle.rehash_dict.proofs.Growing.{grown_shrink, grown_same}
use Rattle.rehash_dict.proofs.MapOf.{map_of_items}
use Rattle.rehash_dict.proofs.dict.Dict.shrink.Goals as goal
use Rattle.rehash_dict.proofs.dict.Dict.shrink.Goals.{then-buckets-gt0-via-then-buckets-gt0, then-buckets-gt0-via-else-buckets-gt0+then-buckets-le-FIRST_SIZE}
use Rattle.rehash_dict.proofs.dict.Dict.shrink.Goals.{then-buckets-gt0-via-else-buckets-gt0+else-buckets-le-FIRST_SIZE+then-saturating_mul-buckets}

pub returns-then-buckets-gt0-clause-value : goal.returns-then-buckets-gt0-clause-value
returns-then-buckets-gt0-clause-value g c =
    let older : c.buckets-buckets.result ≡ length c.args.self.now.older = c.buckets-buckets.ensures ∙ ap (λ t. length t.older) c.self.view_is in
    let newer : c.buckets.result ≡ length c.args.self.now.newer = c.buckets.ensures ∙ ap (λ t. length t.newer) c.self.view_is in
    let none : wants_shrink (tables c.args.self.now) ≡ false = elim c.then-buckets-gt0.branch [
      | then-buckets-gt0-via-then-buckets-gt0 w ↦ wants_going (tables c.args.self.now) (omega arith)
      | then-buckets-gt0-via-else-buckets-gt0+then-buckets-le-FIRST_SIZE w ↦ wants_small (tables c.args.self.now) (omega arith)
      | then-buckets-gt0-via-else-buckets-gt0+else-buckets-le-FIRST_SIZE+then-saturating_mul-buckets w ↦
          (let none : c.self.inside.chains.newer ≡ [] = no_rows c.self.inside.chains.newer (omega (arith, c.buckets.ensures, w.if-buckets-gt0.false)) in
          let all : c.len-len.result ≡ count c.args.self.now.older = c.len-len.ensures ∙ sym c.self.invariant.kept.stand.counted
          ∙ ap (λ rows. count c.self.inside.chains.older + count rows) none ∙ (omega arith) ∙ ap (λ t. count t.older) c.self.view_is in
          let over : c.buckets-buckets.result ≤ c.len-len.result * 10 = omega (arith, w.saturating_mul.ensures, w.if-saturating_mul-buckets.true) in
          wants_filled (tables c.args.self.now) (omega arith))
    ] in
    sym none

pub returns-then-buckets-gt0-clause-settled : goal.returns-then-buckets-gt0-clause-settled
returns-then-buckets-gt0-clause-settled g c = sym (returns-then-buckets-gt0-clause-value g c)

pub returns-then-buckets-gt0-clause-tables : goal.returns-then-buckets-gt0-clause-tables
returns-then-buckets-gt0-clause-tables g c blocks =
    key_tables_shrunk blocks c.args.self.now c.args.self.now refl (sym (shrinks_not (tables c.args.self.now) (sym (returns-then-buckets-gt0-clause-value g c))))

pub begin-requires-clause-size : goal.begin-requires-clause-size
begin-requires-clause-size g c = subst IsSize (sym c.in_ok-heads.ensures.len)
    (less_size c.len-len.result c.next_power_of_two.result c.max.result c.next_power_of_two.ensures.power c.next_power_of_two.ensures.lower_bound c.next_power_of_two.ensures.upper_bound
    c.next_power_of_two.type_inv c.max.ensures).size

pub returns-clause-tables : goal.returns-clause-tables
returns-clause-tables g c blocks =
    let still : length c.self.inside.chains.newer ≤ 0 = omega (arith, c.buckets.ensures, c.if-buckets-gt0.false) in
    let start : c.self.inside.position ≡ 0 = c.self.invariant.kept.begins (omega arith) in
    let none : c.self.inside.chains.newer ≡ [] = no_rows c.self.inside.chains.newer still in
    let all : c.len-len.result ≡ count c.self.inside.chains.older = c.len-len.ensures ∙ sym c.self.invariant.kept.stand.counted
    ∙ ap (λ rows. count c.self.inside.chains.older + count rows) none ∙ (omega arith) in
    let wanted = wants_yes (held_tables c.self.inside.chains c.self.inside.position) still (omega (arith, c.buckets-buckets.ensures, c.if-buckets-le-FIRST_SIZE.false))
    (omega (arith, c.buckets-buckets.ensures, c.buckets-buckets.type_inv, c.saturating_mul.ensures, c.if-saturating_mul-buckets.false)) in
    let size : vec_len c.in_ok-heads.heads ≡ max 4 (least_power (count c.self.inside.chains.older))
    = c.in_ok-heads.ensures.len ∙
    (less_size c.len-len.result c.next_power_of_two.result c.max.result c.next_power_of_two.ensures.power c.next_power_of_two.ensures.lower_bound
    c.next_power_of_two.ensures.upper_bound c.next_power_of_two.type_inv c.max.ensures).least ∙ ap (λ n. max 4 (least_power n)) all in
    subst (λ old. key_tables blocks (table_of c.begin.new.chains c.self.inside.position c.self.inside.seed c.self.inside.top) ≡ shrunk (key_tables blocks old)) c.self.view_is
    (key_tables_shrunk blocks (table_of c.self.inside.chains c.self.inside.position c.self.inside.seed c.self.inside.top)
    (table_of c.begin.new.chains c.self.inside.position c.self.inside.seed c.self.inside.top) c.begin.ensures.rebuilds.items
    (ap (held_tables c.begin.new.chains) start ∙ c.begin.ensures.tables ∙ ap (begun (held_tables c.self.inside.chains 0)) size
    ∙ sym (shrinks (held_tables c.self.inside.chains c.self.inside.position) wanted)))

pub returns-clause-value : goal.returns-clause-value
returns-clause-value g c =
    let still : length c.self.inside.chains.newer ≤ 0 = omega (arith, c.buckets.ensures, c.if-buckets-gt0.false) in
    let none : c.self.inside.chains.newer ≡ [] = no_rows c.self.inside.chains.newer still in
    let all : c.len-len.result ≡ count c.self.inside.chains.older = c.len-len.ensures ∙ sym c.self.invariant.kept.stand.counted
    ∙ ap (λ rows. count c.self.inside.chains.older + count rows) none ∙ (omega arith) in
    let wanted = wants_yes (held_tables c.self.inside.chains c.self.inside.position) still (omega (arith, c.buckets-buckets.ensures, c.if-buckets-le-FIRST_SIZE.false))
    (omega (arith, c.buckets-buckets.ensures, c.buckets-buckets.type_inv, c.saturating_mul.ensures, c.if-saturating_mul-buckets.false)) in
    sym (subst (λ t. wants_shrink (tables t) ≡ true) c.self.view_is wanted)

pub returns-clause-map : goal.returns-clause-map
returns-clause-map g c blocks = map_of_items blocks (λ v. v) c.args.self.now _ (c.begin.ensures.rebuilds.items ∙ ap (λ t. t.items) c.self.view_is)

pub returns-then-buckets-gt0-clause-grown : goal.returns-then-buckets-gt0-clause-grown
returns-then-buckets-gt0-clause-grown g c blocks = grown_same (hash_of c.args.self.now.seed) _ _ refl

pub returns-in_err-heads-clause-grown : goal.returns-in_err-heads-clause-grown
returns-in_err-heads-clause-grown g c blocks = grown_same (hash_of c.args.self.now.seed) _ _ refl

pub returns-clause-grown : goal.returns-clause-grown
returns-clause-grown g c blocks = grown_shrink (hash_of c.args.self.now.seed) _ _ (returns-clause-tables g c blocks)
