use Rattle.std.proofs.Common.{◌∙◌, ◌++◌, Bool, map, take, sym, ap}
use Rattle.std.specs.List.{filter}
use Rattle.listpack.specs.Pack.{texts}
use Rattle.stream_node.specs.Entries.{entries_of}
use Rattle.stream_node.proofs.Written.{when_ok}
use Rattle.stream_object.specs.Parts.{live_of}
use Rattle.stream_object.specs.Ranges.{is_between, seen, taken, turned}
use Rattle.stream_object.proofs.picking.take_wanted.Goals as goal

pub returns-then-wanted-clause-found : goal.returns-then-wanted-clause-found
returns-then-wanted-clause-found c =
    let w = c.args.wanted in
    when_ok c.take_up.result
    (λ has. has ∙ ap (λ es. take w.limit (map taken c.args.found.now.items ++ turned w.back es)) (ap (map seen) c.deref.ensures.value ∙ c.in_ok-picked.ensures))
    c.take_up.ensures.found

pub returns-clause-found : goal.returns-clause-found
returns-clause-found c =
    let w = c.args.wanted in
    let es = filter (is_between w.from w.to) (live_of (entries_of c.args.key (texts c.args.bytes.now))) in
    when_ok c.take_forth.result (λ has. has ∙ ap (λ (b : Bool). take w.limit (map taken c.args.found.now.items ++ turned b es)) (sym c.if-wanted.false)) c.take_forth.ensures.found
