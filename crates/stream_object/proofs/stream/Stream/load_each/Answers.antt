use Rattle.std.proofs.Common.{◌≡◌, false, ◌∙◌, ◌<◌, ◌≤◌, [], ◌∷◌, ◌++◌, length, map, refl, sym, ap, subst, arith}
use Rattle.std.proofs.lemmas.List.{append-nil, map-append}
use Rattle.blocks.specs.Blocks.{no_step}
use Rattle.blocks.proofs.Serve.{served_then}
use Rattle.listpack.specs.Pack.{texts}
use Rattle.stream_node.specs.Entries.{entries_of}
use Rattle.stream_node.specs.Entry.{Stored}
use Rattle.stream_node.specs.Ids.{id_number}
use Rattle.stream_node.specs.Room.{alone_len}
use Rattle.stream_node.specs.View.{stored}
use Rattle.stream_node.specs.Views.{left_of}
use Rattle.rax_packed.proofs.Entries.{all_back, all_front}
use Rattle.stream_object.specs.Loading.{AreAbove, AreLiveUpto, loaded}
use Rattle.stream_object.specs.Streams.{IsChanged, nodes, stream_of}
use Rattle.stream_object.proofs.Alone.{alone_short, node_some}
use Rattle.stream_object.proofs.Loads.{above_more, behind_above, behind_one, first_ones, loaded_none, loaded_then, stopped}
use Rattle.stream_object.proofs.Losing.{node_sorted}
use Rattle.stream_object.proofs.Marking.{walked}
use Rattle.stream_object.proofs.Shortest.{bytes_from}
use Rattle.stream_object.proofs.Trims.{told_err}
use Rattle.stream_object.proofs.stream.Stream.load_each.Goals as goal

pub loop-entry-init : goal.loop-entry-init
loop-entry-init g c =
    let m = g.B.BlockStore.blocks c.args.store.now in
    let all = ap left_of c.into_iter-entry-iterator.ensures.into_iter_gives ∙ c.listed-entry-items.ensures in
    record {
      joined = refl;
      changed = loaded_none m c.args.self.now c.requires.is_stream;
      above = subst (AreAbove (nodes m c.args.self.now)) (sym all) c.requires.above;
      upto = λ id old live. old;
      served = no_step;
    }

pub load_entry-requires-clause-is_stream : goal.load_entry-requires-clause-is_stream
load_entry-requires-clause-is_stream g c = c.loop-entry.invariant.changed.is_stream

pub load_entry-requires-clause-below : goal.load_entry-requires-clause-below
load_entry-requires-clause-below g c =
    (subst (AreAbove (nodes (g.B.BlockStore.blocks c.loop-entry.store) c.loop-entry.self)) c.in-Some.ensures.steps c.loop-entry.invariant.above).0

pub load_entry-requires-clause-some : goal.load_entry-requires-clause-some
load_entry-requires-clause-some g c =
    let all = ap left_of c.into_iter-entry-iterator.ensures.into_iter_gives ∙ c.listed-entry-items.ensures in
    let list = texts c.args.pack.now in
    behind_one (λ e. 0 < length e.pairs) c.loop-entry.yielded c.in-Some.entry (left_of c.loop-entry.entry-iterator) (left_of c.next.new.self) (entries_of c.args.key list)
    (c.loop-entry.invariant.joined ∙ all) c.in-Some.ensures.steps (node_some c.args.key list c.requires.is_node.node)

pub load_entry-requires-clause-short : goal.load_entry-requires-clause-short
load_entry-requires-clause-short g c =
    let all = ap left_of c.into_iter-entry-iterator.ensures.into_iter_gives ∙ c.listed-entry-items.ensures in
    let pack = c.args.pack.now in
    let is = c.requires.is_node in
    let bytes = bytes_from pack (λ i. omega (arith, c.type_inv.pack i)) in
    let few = behind_one (λ e. alone_len e.id e.pairs ≤ length pack) c.loop-entry.yielded c.in-Some.entry (left_of c.loop-entry.entry-iterator) (left_of c.next.new.self)
    (entries_of c.args.key (texts pack))
    (c.loop-entry.invariant.joined ∙ all) c.in-Some.ensures.steps (alone_short c.args.key pack is.pack bytes is.node is.short) in
    omega (arith, few, is.short)

pub loop-entry-preserved : goal.loop-entry-preserved
loop-entry-preserved g c =
    let m = g.B.BlockStore.blocks c.args.store.now in
    let mid = g.B.BlockStore.blocks c.loop-entry.store in
    let after = g.B.BlockStore.blocks c.load_entry.new.store in
    let all = ap left_of c.into_iter-entry-iterator.ensures.into_iter_gives ∙ c.listed-entry-items.ensures in
    let list = texts c.args.pack.now in
    let i = c.loop-entry.invariant in
    let e = stored c.in-Some.entry in
    let then = loaded_then m mid after c.args.self.now c.loop-entry.self c.load_entry.new.self (map stored c.loop-entry.yielded) e i.changed c.in_ok-load_entry.ensures.loaded in
    let sorted = node_sorted c.args.key list c.requires.is_node.node in
    record {
      joined = walked c.loop-entry.yielded c.in-Some.entry (left_of c.loop-entry.entry-iterator) (left_of c.next.new.self) (left_of c.into_iter-entry-iterator.result) i.joined c.in-Some.ensures.steps;
      changed = subst (λ es. IsChanged m after c.args.self.now c.load_entry.new.self (loaded (stream_of m c.args.self.now) es))
          (sym (map-append stored c.loop-entry.yielded (c.in-Some.entry ∷ []))) then;
      above = above_more after c.load_entry.new.self e.id then.is_stream c.in_ok-load_entry.ensures.last (left_of c.next.new.self)
          (behind_above c.loop-entry.yielded c.in-Some.entry (left_of c.loop-entry.entry-iterator) (left_of c.next.new.self) (entries_of c.args.key list) (i.joined ∙ all)
          c.in-Some.ensures.steps sorted);
      upto = λ id old live.
          let each = subst (AreLiveUpto id) (map-append stored c.loop-entry.yielded (c.in-Some.entry ∷ [])) live in
          c.in_ok-load_entry.ensures.upto id (i.upto id old (all_front (λ (x : Stored). x.deleted ≡ false → id_number x.id ≤ id_number id) (map stored c.loop-entry.yielded) (e ∷ []) each))
          (all_back (λ (x : Stored). x.deleted ≡ false → id_number x.id ≤ id_number id) (map stored c.loop-entry.yielded) (e ∷ []) each);
      served = served_then _ _ _ i.served c.load_entry.ensures.served;
    }

pub returns-in_err-load_entry-clause-served : goal.returns-in_err-load_entry-clause-served
returns-in_err-load_entry-clause-served g c = served_then _ _ _ c.loop-entry.invariant.served c.load_entry.ensures.served

pub returns-in_err-load_entry-clause-err_some : goal.returns-in_err-load_entry-clause-err_some
returns-in_err-load_entry-clause-err_some g c =
    let m = g.B.BlockStore.blocks c.args.store.now in
    let all = ap left_of c.into_iter-entry-iterator.ensures.into_iter_gives ∙ c.listed-entry-items.ensures in
    let es = map stored c.loop-entry.yielded in
    let first = first_ones c.loop-entry.yielded (left_of c.loop-entry.entry-iterator) (entries_of c.args.key (texts c.args.pack.now)) (c.loop-entry.invariant.joined ∙ all) in
    let here = stopped m (g.B.BlockStore.blocks c.loop-entry.store) (g.B.BlockStore.blocks c.load_entry.new.store) c.args.self.now c.loop-entry.self c.load_entry.new.self es
    c.loop-entry.invariant.changed c.in_err-load_entry.ensures.err_stream c.in_err-load_entry.ensures.err_blocks in
    told_err c.from_residual.result (
      length es,
      first.0,
      subst (λ xs. IsChanged m (g.B.BlockStore.blocks c.load_entry.new.store) c.args.self.now c.load_entry.new.self (loaded (stream_of m c.args.self.now) xs))
          (sym first.1) here,
    )

pub returns-clause-loaded : goal.returns-clause-loaded
returns-clause-loaded g c =
    let m = g.B.BlockStore.blocks c.args.store.now in
    let all = ap left_of c.into_iter-entry-iterator.ensures.into_iter_gives ∙ c.listed-entry-items.ensures in
    let es = map stored c.loop-entry.yielded in
    let seen : es ≡ entries_of c.args.key (texts c.args.pack.now) = sym (append-nil es) ∙ ap (λ xs. es ++ xs) (sym c.in-None.ensures.steps.0) ∙ c.loop-entry.invariant.joined ∙ all in
    subst (λ xs. IsChanged m (g.B.BlockStore.blocks c.loop-entry.store) c.args.self.now c.loop-entry.self (loaded (stream_of m c.args.self.now) xs)) seen c.loop-entry.invariant.changed

pub returns-clause-upto : goal.returns-clause-upto
returns-clause-upto g c =
    let all = ap left_of c.into_iter-entry-iterator.ensures.into_iter_gives ∙ c.listed-entry-items.ensures in
    let es = map stored c.loop-entry.yielded in
    let seen : es ≡ entries_of c.args.key (texts c.args.pack.now) = sym (append-nil es) ∙ ap (λ xs. es ++ xs) (sym c.in-None.ensures.steps.0) ∙ c.loop-entry.invariant.joined ∙ all in
    λ id old live. c.loop-entry.invariant.upto id old (subst (AreLiveUpto id) (sym seen) live)
