use Rattle.std.proofs.Common.{◌≡◌, ℕ, List, true, false, not, sym, ap, subst, ◌∙◌}
use Rattle.std.specs.Prelude.{is_none, ◌==◌}
use Rattle.std.specs.FinMap.{get, len}
use Rattle.stream_groups.specs.Groups.{Groups}
use Rattle.stream_object.specs.declared.stream.Stream.{Stream as Log}
use Rattle.rdb_grammar.specs.Places.{Stands}
use Rattle.rdb_grammar.specs.StreamParts.{with_group}
use Rattle.rdb_grammar.specs.Strings.{string}
use Rattle.rdb_streams.specs.Grouped.{begun_in}
use Rattle.rdb_streams.proofs.Claimed.{name_fails, name_twice, group_fails, group_put, group_unclaimed}
use Rattle.rdb_streams.proofs.Grouped.{last_told}
use Rattle.rdb_streams.proofs.groups.read_group.Goals as goal

pub returns-in-Err-clause-reads : goal.returns-in-Err-clause-reads
returns-in-Err-clause-reads c =
    rw c.refused.ensures (name_fails c.args.stream_type c.args.stream.now.groups c.args.bytes.now c.args.at c.in-Err.fault.kind c.in-Err.fault.at c.in-Err.ensures.fault)

pub returns-then-is_some-clause-reads : goal.returns-then-is_some-clause-reads
returns-then-is_some-clause-reads c =
    let bytes = c.args.bytes.now in
    let groups = c.args.stream.now.groups in
    let name = c.text-name.result.now in
    let s = subst (λ (text : List ℕ). Stands string text bytes c.args.at c.in-Ok.read.1) (sym c.text-name.ensures) c.in-Ok.ensures.string in
    let old : is_none (get groups name) ≡ false = last_told (get groups name) c.group_last.result c.is_some.result c.group_last.ensures c.is_some.ensures ∙ ap not c.if-is_some.true in
    rw c.no_group.ensures (name_twice c.args.stream_type groups bytes c.args.at c.in-Ok.read.1 name s old)

pub returns-then-is_empty-clause-reads : goal.returns-then-is_empty-clause-reads
returns-then-is_empty-clause-reads c =
    let bytes = c.args.bytes.now in
    let groups = c.args.stream.now.groups in
    let name = c.text-name.result.now in
    let s = subst (λ (text : List ℕ). Stands string text bytes c.args.at c.in-Ok.read.1) (sym c.text-name.ensures) c.in-Ok.ensures.string in
    let free : is_none (get groups name) ≡ true = last_told (get groups name) c.group_last.result c.is_some.result c.group_last.ensures c.is_some.ensures ∙ ap not c.if-is_some.false in
    let made = begun_in c.read_behind_name.new.stream.groups name c.read_behind_name.new.unclaimed in
    let last = c.in-Ok-read_behind_name.next in
    let none : (len made.unclaimed == 0) ≡ true = sym c.is_empty.ensures ∙ c.if-is_empty.true in
    subst (λ (m : Groups). Stands (with_group c.args.stream_type groups) m bytes c.args.at last) (sym (ap (λ (s : Log). s.groups) c.in-Ok-read_behind_name.ensures.added))
    (group_put c.args.stream_type groups bytes c.args.at c.in-Ok.read.1 name s free made last c.in-Ok-read_behind_name.ensures.reads none)

pub returns-in-Ok-read_behind_name-clause-reads : goal.returns-in-Ok-read_behind_name-clause-reads
returns-in-Ok-read_behind_name-clause-reads c =
    let bytes = c.args.bytes.now in
    let groups = c.args.stream.now.groups in
    let name = c.text-name.result.now in
    let s = subst (λ (text : List ℕ). Stands string text bytes c.args.at c.in-Ok.read.1) (sym c.text-name.ensures) c.in-Ok.ensures.string in
    let free : is_none (get groups name) ≡ true = last_told (get groups name) c.group_last.result c.is_some.result c.group_last.ensures c.is_some.ensures ∙ ap not c.if-is_some.false in
    let made = begun_in c.read_behind_name.new.stream.groups name c.read_behind_name.new.unclaimed in
    let some : (len made.unclaimed == 0) ≡ false = sym c.is_empty.ensures ∙ c.if-is_empty.false in
    rw c.no_group-else-is_empty.ensures
    (group_unclaimed c.args.stream_type groups bytes c.args.at c.in-Ok.read.1 name s free made c.in-Ok-read_behind_name.next c.in-Ok-read_behind_name.ensures.reads some)

pub returns-clause-reads : goal.returns-clause-reads
returns-clause-reads c =
    let bytes = c.args.bytes.now in
    let groups = c.args.stream.now.groups in
    let name = c.text-name.result.now in
    let s = subst (λ (text : List ℕ). Stands string text bytes c.args.at c.in-Ok.read.1) (sym c.text-name.ensures) c.in-Ok.ensures.string in
    let free : is_none (get groups name) ≡ true = last_told (get groups name) c.group_last.result c.is_some.result c.group_last.ensures c.is_some.ensures ∙ ap not c.if-is_some.false in
    let new = c.read_behind_name.new.stream.groups in
    let made = begun_in new name c.read_behind_name.new.unclaimed in
    group_fails c.args.stream_type groups bytes c.args.at c.in-Ok.read.1 name s free (name, made) new c.in-Err-read_behind_name.fault c.in-Err-read_behind_name.ensures.reads
