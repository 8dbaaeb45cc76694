use Rattle.std.proofs.Common.{◌≡◌, ◌+◌, ◌≤◌, ◌∷◌, [], length, ap, sym, ◌∙◌, arith, length-append}
use Rattle.listpack.specs.Element.{element_text}
use Rattle.quicklist.specs.Chain.{elements}
use Rattle.plain_model.specs.ListSteps.{from_end, index_from, at_most}
use Rattle.cmd_lists.proofs.Places.{met_size, found_other, found_before, found_more, all_told, enough_told, matches_are}
use Rattle.cmd_lists.proofs.positions.find_matches.Goals as goal

pub loop-met-preserved-then-not-is_text : goal.loop-met-preserved-then-not-is_text
loop-met-preserved-then-not-is_text g c =
    let so_far = c.loop-met.invariant in
    let meets = rw c.there-cursor.ensures at so_far.next in
    let found = found_other c.end_of-end.result (g.B.BlockStore.blocks c.args.store.now) c.args.list.now c.loop-met.met c.before-first.result c.loop-met.skipped c.there-cursor.result
    (element_text c.element.result) c.args.text.now
    c.loop-met.found.items meets c.element.ensures so_far.skips so_far.finds (sym c.is_text.ensures ∙ c.if-not-is_text.true) in
    record { next = c.met_behind-place.ensures c.loop-met.met meets; skips = found.0; finds = found.1; fewer = so_far.fewer }

pub loop-met-preserved-then-skipped-gt0 : goal.loop-met-preserved-then-skipped-gt0
loop-met-preserved-then-skipped-gt0 g c =
    let so_far = c.loop-met.invariant in
    let meets = rw c.there-cursor.ensures at so_far.next in
    let found = found_before c.end_of-end.result (g.B.BlockStore.blocks c.args.store.now) c.args.list.now c.loop-met.met c.before-first.result c.loop-met.skipped c.there-cursor.result
    (element_text c.element.result) c.args.text.now
    c.loop-met.found.items meets c.element.ensures so_far.skips so_far.finds (sym c.is_text.ensures ∙ c.if-not-is_text.false) c.if-skipped-gt0.true in
    record { next = c.met_behind-place.ensures c.loop-met.met meets; skips = found.0; finds = found.1; fewer = so_far.fewer }

pub loop-met-preserved : goal.loop-met-preserved
loop-met-preserved g c =
    let so_far = c.loop-met.invariant in
    let meets = rw c.there-cursor.ensures at so_far.next in
    let more = c.in_ok-push.ensures.items in
    let found = found_more c.end_of-end.result (g.B.BlockStore.blocks c.args.store.now) c.args.list.now c.loop-met.met c.before-first.result c.loop-met.skipped c.there-cursor.result
    (element_text c.element.result) c.args.text.now
    c.loop-met.found.items meets c.element.ensures so_far.skips so_far.finds c.index.result c.push.new.self.items (sym c.is_text.ensures ∙ c.if-not-is_text.false)
    (omega (arith, c.if-skipped-gt0.false)) c.index.ensures more in
    let size = ap length more ∙ length-append c.loop-met.found.items (c.index.result ∷ []) in
    record {
      next = c.met_behind-place.ensures c.loop-met.met meets;
      skips = found.0;
      finds = found.1;
      fewer = λ h. omega (arith, so_far.fewer h, size, c.if-len-wanted.false, c.len-in-loop-met.ensures, c.push.new.self.ok.0);
    }

pub returns-then-len-wanted : goal.returns-then-len-wanted
returns-then-len-wanted g c =
    let xs = elements (g.B.BlockStore.blocks c.args.store.now) c.args.list.now in
    let end = c.end_of-end.result in
    let k = c.loop-met.met in
    let first = c.before-first.result in
    let looked = c.looked_at-looked.result in
    let so_far = c.loop-met.invariant in
    let meets = rw c.there-cursor.ensures at so_far.next in
    let more = c.in_ok-push.ensures.items in
    let after = c.push.new.self.items in
    let found = found_more end (g.B.BlockStore.blocks c.args.store.now) c.args.list.now k first c.loop-met.skipped c.there-cursor.result (element_text c.element.result) c.args.text.now
    c.loop-met.found.items meets c.element.ensures so_far.skips so_far.finds c.index.result after (sym c.is_text.ensures ∙ c.if-not-is_text.false) (omega (arith, c.if-skipped-gt0.false))
    c.index.ensures more in
    let size : length after ≡ length c.loop-met.found.items + 1 = ap length more ∙ length-append c.loop-met.found.items (c.index.result ∷ []) in
    let len : length xs ≡ c.len.result = omega (arith, c.len.ensures, c.requires.quick.counted) in
    let enough : length after ≡ c.args.wanted = omega (arith, c.if-len-wanted.true, c.len-in-loop-met.ensures, c.push.new.self.ok.0) in
    let met : k + 1 ≤ length (from_end end xs) = omega (arith, meets.inside, met_size end xs) in
    enough_told (index_from end (length xs)) c.args.text.now (from_end end xs) first (k + 1) looked c.args.wanted after (omega (arith, c.loop-met-test.true)) met found.1 (omega (arith, size)) enough
    ∙ ap (at_most c.args.wanted)
    (matches_are c.args.options.rank c.args.options.most c.args.text.now xs end first looked c.end_of-end.ensures c.before-first.ensures
    (c.looked_at-looked.ensures.looked (from_end end xs) (met_size end xs ∙ len)))

pub returns : goal.returns
returns g c =
    let xs = elements (g.B.BlockStore.blocks c.args.store.now) c.args.list.now in
    let end = c.end_of-end.result in
    let first = c.before-first.result in
    let looked = c.looked_at-looked.result in
    let all : c.loop-met.met ≡ looked = omega (arith, c.loop-met-test.false, c.loop-met.auto.met-end) in
    let len : length xs ≡ c.len.result = omega (arith, c.len.ensures, c.requires.quick.counted) in
    all_told c.args.wanted c.loop-met.found.items c.loop-met.invariant.fewer
    ∙ ap (at_most c.args.wanted) (rw all at c.loop-met.invariant.finds)
    ∙ ap (at_most c.args.wanted)
    (matches_are c.args.options.rank c.args.options.most c.args.text.now xs end first looked c.end_of-end.ensures c.before-first.ensures
    (c.looked_at-looked.ensures.looked (from_end end xs) (met_size end xs ∙ len)))
