use Rattle.std.proofs.Common.{◌∙◌, List, [], refl, sym, subst}
use Rattle.std.specs.Prelude.{true}
use Rattle.std.specs.List.{AllByRecursion}
use Rattle.blocks.specs.Blocks.{no_step}
use Rattle.blocks.proofs.Serve.{served_then}
use Rattle.stream_object.specs.Copied.{AreSame}
use Rattle.stream_object.specs.Found.{IsNear, Misses}
use Rattle.stream_object.specs.Parts.{Part, part, parts_of}
use Rattle.stream_object.specs.Streams.{nodes}
use Rattle.stream_object.proofs.Clears.{exchanges_none}
use Rattle.stream_object.proofs.Copies.{behind_none, behind_all, behind_next, last_place, fewer_ahead, still, nodes_still, made_more, same_more}
use Rattle.stream_object.proofs.Parts.{parts_are, its_own}
use Rattle.stream_object.proofs.stream.Stream.copy_nodes.Goals as goal

pub nodes-init : goal.nodes-init
nodes-init g c =
    let m = g.B.BlockStore.blocks c.args.store.now in
    let tree = c.args.tree.now in
    record {
      made = exchanges_none m tree (parts_of m tree) (its_own m tree [] c.requires.blank);
      same = subst (λ (ps : List Part). AreSame ps (parts_of m tree)) (sym (behind_none _ refl refl (nodes m c.args.self.now)))
          (subst (λ (qs : List Part). AreSame [] qs) (sym (parts_are m tree [] c.requires.blank)) tt);
      served = no_step;
    }

pub near-requires : goal.near-requires
near-requires g c =
    let m = g.B.BlockStore.blocks c.args.store.now in
    let mid = g.B.BlockStore.blocks c.nodes.store in
    record { parts = (still m mid c.args.self.now c.requires.is_stream c.args.tree.now c.nodes.tree c.requires.none (parts_of mid c.nodes.tree) c.nodes.invariant.made).parts }

pub returns-in_err-put_last-clause-served : goal.returns-in_err-put_last-clause-served
returns-in_err-put_last-clause-served g c = served_then _ _ _ c.nodes.invariant.served c.put_last.ensures.served

pub nodes-preserved : goal.nodes-preserved
nodes-preserved g c =
    let m = g.B.BlockStore.blocks c.args.store.now in
    let mid = g.B.BlockStore.blocks c.nodes.store in
    let after = g.B.BlockStore.blocks c.put_last.new.store in
    let s = c.args.self.now in
    let is = c.requires.is_stream in
    let old = c.args.tree.now in
    let tree = c.nodes.tree in
    let i = c.nodes.invariant in
    let spot = c.in-Some.spot in
    let p : Part = part spot.key spot.at spot.bytes.now in
    let same_nodes = nodes_still m mid s is old tree c.requires.none (parts_of mid tree) i.made in
    let n : IsNear true (nodes m s) c.nodes.at p = subst (λ (ps : List Part). IsNear true ps c.nodes.at p) same_nodes c.in-Some.ensures.some in
    let bytes = c.deref.ensures.value ∙ c.in_ok-bytes.ensures.items in
    record {
      made = made_more m mid s is old tree c.requires.none (parts_of mid tree) i.made c.nodes.at p n i.same after c.put_last.new.tree spot.key c.deref.result.now refl bytes refl
          c.in_ok-put_last.field-0 c.in_ok-put_last.ensures.placed;
      same = subst (λ (ps : List Part). AreSame ps (parts_of after c.put_last.new.tree)) (sym (behind_next m s is c.nodes.at p n c.in-Some-next.next c.in-Some-next.ensures.some))
          (same_more m mid s is old tree c.requires.none (parts_of mid tree) i.made c.nodes.at p n i.same after c.put_last.new.tree spot.key c.deref.result.now refl bytes refl
          c.in_ok-put_last.field-0 c.in_ok-put_last.ensures.placed);
      served = served_then _ _ _ i.served c.put_last.ensures.served;
    }

pub nodes-smaller : goal.nodes-smaller
nodes-smaller g c =
    let m = g.B.BlockStore.blocks c.args.store.now in
    let mid = g.B.BlockStore.blocks c.nodes.store in
    let s = c.args.self.now in
    let is = c.requires.is_stream in
    let spot = c.in-Some.spot in
    let p : Part = part spot.key spot.at spot.bytes.now in
    let same_nodes = nodes_still m mid s is c.args.tree.now c.nodes.tree c.requires.none (parts_of mid c.nodes.tree) c.nodes.invariant.made in
    let n : IsNear true (nodes m s) c.nodes.at p = subst (λ (ps : List Part). IsNear true ps c.nodes.at p) same_nodes c.in-Some.ensures.some in
    fewer_ahead m s is c.nodes.at p n c.in-Some-next.next c.in-Some-next.ensures.some

pub returns-in-None-clause-made : goal.returns-in-None-clause-made
returns-in-None-clause-made g c =
    let m = g.B.BlockStore.blocks c.args.store.now in
    let mid = g.B.BlockStore.blocks c.nodes.store in
    let after = g.B.BlockStore.blocks c.put_last.new.store in
    let s = c.args.self.now in
    let is = c.requires.is_stream in
    let old = c.args.tree.now in
    let tree = c.nodes.tree in
    let i = c.nodes.invariant in
    let spot = c.in-Some.spot in
    let p : Part = part spot.key spot.at spot.bytes.now in
    let same_nodes = nodes_still m mid s is old tree c.requires.none (parts_of mid tree) i.made in
    let n : IsNear true (nodes m s) c.nodes.at p = subst (λ (ps : List Part). IsNear true ps c.nodes.at p) same_nodes c.in-Some.ensures.some in
    made_more m mid s is old tree c.requires.none (parts_of mid tree) i.made c.nodes.at p n i.same after c.put_last.new.tree spot.key c.deref.result.now refl
    (c.deref.ensures.value ∙ c.in_ok-bytes.ensures.items) refl c.in_ok-put_last.field-0 c.in_ok-put_last.ensures.placed

pub returns-in-None-clause-copied : goal.returns-in-None-clause-copied
returns-in-None-clause-copied g c =
    let m = g.B.BlockStore.blocks c.args.store.now in
    let mid = g.B.BlockStore.blocks c.nodes.store in
    let after = g.B.BlockStore.blocks c.put_last.new.store in
    let s = c.args.self.now in
    let is = c.requires.is_stream in
    let old = c.args.tree.now in
    let tree = c.nodes.tree in
    let i = c.nodes.invariant in
    let spot = c.in-Some.spot in
    let p : Part = part spot.key spot.at spot.bytes.now in
    let same_nodes = nodes_still m mid s is old tree c.requires.none (parts_of mid tree) i.made in
    let n : IsNear true (nodes m s) c.nodes.at p = subst (λ (ps : List Part). IsNear true ps c.nodes.at p) same_nodes c.in-Some.ensures.some in
    subst (λ (ps : List Part). AreSame ps (parts_of after c.put_last.new.tree)) (sym (last_place m s is c.nodes.at p n c.in-None.ensures.none))
    (same_more m mid s is old tree c.requires.none (parts_of mid tree) i.made c.nodes.at p n i.same after c.put_last.new.tree spot.key c.deref.result.now refl
    (c.deref.ensures.value ∙ c.in_ok-bytes.ensures.items) refl c.in_ok-put_last.field-0 c.in_ok-put_last.ensures.placed)

pub returns-in-None-clause-served : goal.returns-in-None-clause-served
returns-in-None-clause-served g c = served_then _ _ _ c.nodes.invariant.served c.put_last.ensures.served

pub returns-clause-copied : goal.returns-clause-copied
returns-clause-copied g c =
    let m = g.B.BlockStore.blocks c.args.store.now in
    let mid = g.B.BlockStore.blocks c.nodes.store in
    let s = c.args.self.now in
    let i = c.nodes.invariant in
    let same_nodes = nodes_still m mid s c.requires.is_stream c.args.tree.now c.nodes.tree c.requires.none (parts_of mid c.nodes.tree) i.made in
    let miss = subst (λ (ps : List Part). AllByRecursion (Misses true c.nodes.at) ps) same_nodes c.in_default.ensures.none in
    subst (λ (ps : List Part). AreSame ps (parts_of mid c.nodes.tree)) (behind_all c.nodes.at (nodes m s) miss) i.same
