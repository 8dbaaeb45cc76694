use Rattle.std.proofs.Common.{◌≡◌, ◌<◌, ◌≤◌, ◌+◌, ◌∙◌, [], length, is_some, count_by, refl, sym, ap, subst, arith, vec_len}
use Rattle.rehash_dict.specs.Tables.{count, begun, least_power}
use Rattle.rehash_dict.specs.Placed.{IsSize, IsKept}
use Rattle.rehash_dict.specs.Sides.{held_tables}
use Rattle.rehash_dict.proofs.Powers.{size_four, size_some, great_size}
use Rattle.rehash_dict.proofs.Rooms.{going_no, no_rows, room_going, room_less, room_first, room_full, some_rows}
use Rattle.rehash_dict.proofs.tables.make_room.Goals as goal

pub open-requires-clause-size : goal.open-requires-clause-size
open-requires-clause-size g c = subst IsSize (sym c.in_ok-heads.ensures.len) size_four

pub begin-requires-clause-size : goal.begin-requires-clause-size
begin-requires-clause-size g c =
    let some : 4 ≤ length c.args.chains.now.older = size_some (length c.args.chains.now.older) c.requires.stand.older_size
    (omega (arith, c.buckets-buckets.ensures, c.if-buckets-eq0.false, ap (λ h. length h.older) c.in_ok-reserve.ensures.kept)) in
    let more : 4 ≤ c.next_power_of_two.result = omega
    (arith, c.buckets-buckets.ensures, c.if-len-buckets.true, c.next_power_of_two.ensures.lower_bound, ap (λ h. length h.older) c.in_ok-reserve.ensures.kept) in
    subst IsSize (sym c.in_ok-heads-2.ensures.len)
    (great_size (c.len-len.result + 1) c.next_power_of_two.result c.next_power_of_two.ensures.power c.next_power_of_two.ensures.lower_bound c.next_power_of_two.ensures.upper_bound
    c.next_power_of_two.type_inv more).size

pub returns-in_ok-heads-2-clause-tables : goal.returns-in_ok-heads-2-clause-tables
returns-in_ok-heads-2-clause-tables g c =
    let same = c.in_ok-reserve.ensures.kept in
    let still : length c.args.chains.now.newer ≤ 0 = omega (arith, c.buckets.ensures, c.if-buckets-gt0.false, ap (λ h. length h.newer) c.in_ok-reserve.ensures.kept) in
    let start : c.args.position ≡ 0 = c.requires.begins (omega arith) in
    let none : c.args.chains.now.newer ≡ [] = no_rows c.args.chains.now.newer still in
    let buckets : c.buckets-buckets.result ≡ length c.args.chains.now.older = c.buckets-buckets.ensures ∙ ap (λ h. length h.older) c.in_ok-reserve.ensures.kept in
    let some : 4 ≤ length c.args.chains.now.older = size_some (length c.args.chains.now.older) c.requires.stand.older_size (omega (arith, c.if-buckets-eq0.false)) in
    let more : 4 ≤ c.next_power_of_two.result = omega (arith, c.if-len-buckets.true, c.next_power_of_two.ensures.lower_bound) in
    let all : c.len-len.result ≡ count c.args.chains.now.older = c.len-len.ensures ∙ ap (λ h. count_by is_some h.items) c.in_ok-reserve.ensures.kept ∙ sym c.requires.stand.counted
    ∙ ap (λ rows. count c.args.chains.now.older + count rows) none ∙ (omega arith) in
    let least : least_power (c.len-len.result + 1) ≡ c.next_power_of_two.result =
    (great_size (c.len-len.result + 1) c.next_power_of_two.result c.next_power_of_two.ensures.power c.next_power_of_two.ensures.lower_bound c.next_power_of_two.ensures.upper_bound
    c.next_power_of_two.type_inv more).least in
    let size : vec_len c.in_ok-heads-2.heads ≡ least_power (count c.args.chains.now.older + 1) = c.in_ok-heads-2.ensures.len ∙ sym least ∙ ap (λ n. least_power (n + 1)) all in
    ap (held_tables c.begin.new.chains) start ∙ c.begin.ensures.tables
    ∙ ap (λ h. begun (held_tables h 0) (vec_len c.in_ok-heads-2.heads)) same ∙ ap (begun (held_tables c.args.chains.now 0)) size
    ∙ sym (room_full (held_tables c.args.chains.now c.args.position) (going_no (held_tables c.args.chains.now c.args.position) still) (omega arith) (omega (arith, c.if-len-buckets.true)))

pub returns-then-buckets-gt0-clause-tables : goal.returns-then-buckets-gt0-clause-tables
returns-then-buckets-gt0-clause-tables g c =
    let same = c.in_ok-reserve.ensures.kept in
    ap (λ h. held_tables h c.args.position) same
    ∙ sym (room_going (held_tables c.args.chains.now c.args.position) (omega (arith, c.buckets.ensures, c.if-buckets-gt0.true, ap (λ h. length h.newer) same)))

pub returns-then-buckets-gt0-clause-kept : goal.returns-then-buckets-gt0-clause-kept
returns-then-buckets-gt0-clause-kept g c = subst (λ h. IsKept h.items h.older h.newer c.args.position) (sym c.in_ok-reserve.ensures.kept) c.requires

pub returns-then-buckets-gt0-clause-table : goal.returns-then-buckets-gt0-clause-table
returns-then-buckets-gt0-clause-table g c =
    let same = c.in_ok-reserve.ensures.kept in
    let some : 0 < length c.args.chains.now.older
    = some_rows c.args.chains.now.older (c.requires.waits (omega (arith, c.buckets.ensures, c.if-buckets-gt0.true, ap (λ h. length h.newer) same))) in
    omega (arith, some, ap (λ h. length h.older) same)

pub returns-then-buckets-eq0-clause-tables : goal.returns-then-buckets-eq0-clause-tables
returns-then-buckets-eq0-clause-tables g c =
    let same = c.in_ok-reserve.ensures.kept in
    let still : length c.args.chains.now.newer ≤ 0 = omega (arith, c.buckets.ensures, c.if-buckets-gt0.false, ap (λ h. length h.newer) same) in
    let none : length c.args.chains.now.older ≡ 0 = omega (arith, c.buckets-buckets.ensures, c.if-buckets-eq0.true, ap (λ h. length h.older) same) in
    room_first (held_tables c.args.chains.now c.args.position) (held_tables c.open.new.self c.args.position) (vec_len c.in_ok-heads.heads) still none (c.requires.begins (omega arith))
    c.open.ensures.rows.0 c.in_ok-heads.ensures.len (c.open.ensures.rows.1 ∙ ap (λ h. h.newer) same ∙ no_rows c.args.chains.now.newer still) refl

pub returns-then-buckets-eq0-clause-kept : goal.returns-then-buckets-eq0-clause-kept
returns-then-buckets-eq0-clause-kept g c =
    let same = c.in_ok-reserve.ensures.kept in
    let still : length c.args.chains.now.newer ≤ 0 = omega (arith, c.buckets.ensures, c.if-buckets-gt0.false, ap (λ h. length h.newer) same) in
    let start : c.args.position ≡ 0 = c.requires.begins (omega arith) in
    let none : length c.open.new.self.newer ≡ length c.args.chains.now.newer = ap length c.open.ensures.rows.1 ∙ ap (λ h. length h.newer) same in
    record {
      stand = c.open.ensures.stand;
      waits = λ going. absurd (omega (arith, going, none));
      passed = λ k before. absurd (omega (arith, before, start));
      begins = λ one. start;
    }

pub returns-else-len-buckets-clause-tables : goal.returns-else-len-buckets-clause-tables
returns-else-len-buckets-clause-tables g c =
    let same = c.in_ok-reserve.ensures.kept in
    let still : length c.args.chains.now.newer ≤ 0 = omega (arith, c.buckets.ensures, c.if-buckets-gt0.false, ap (λ h. length h.newer) same) in
    let all : c.len-len.result ≡ count c.args.chains.now.older = c.len-len.ensures ∙ ap (λ h. count_by is_some h.items) same ∙ sym c.requires.stand.counted
    ∙ ap (λ rows. count c.args.chains.now.older + count rows) (no_rows c.args.chains.now.newer still) ∙ (omega arith) in
    let few : count c.args.chains.now.older < length c.args.chains.now.older
    = omega (arith, all, c.if-len-buckets.false, c.buckets-buckets.ensures, ap (λ h. length h.older) same) in
    ap (λ h. held_tables h c.args.position) same ∙ sym (room_less (held_tables c.args.chains.now c.args.position) still few)

pub returns-else-len-buckets-clause-kept : goal.returns-else-len-buckets-clause-kept
returns-else-len-buckets-clause-kept g c = subst (λ h. IsKept h.items h.older h.newer c.args.position) (sym c.in_ok-reserve.ensures.kept) c.requires
