-- A map and its copy in one store.
use Rattle.std.proofs.Common.{[], ◌++◌, sym, subst, arith}
use Rattle.blocks.specs.Blocks.{Blocks, times, Changes, Owned}
use Rattle.blocks.proofs.Times.{times-append}
use Rattle.blocks.proofs.Change.{changes_beside, changes_owned}
use Rattle.rax_packed.specs.declared.tree.PackedTree.{PackedTree}
use Rattle.rax_packed.specs.Laws.{Stays}
use Rattle.rax_packed.specs.Maps.{refs_of, IsSound}
use Rattle.rax_packed.proofs.Depends.{packed_laws_hold}

module _ (a mid : Blocks) (tree copy : PackedTree) (s : IsSound a tree) (p : Changes a mid [] (refs_of mid copy)) where
  original : Stays a mid tree
  original = packed_laws_hold.others a mid tree [] (refs_of mid copy) (λ r. omega (arith, s.owned r, times-append r (refs_of a tree) [])) p

  -- the original still stands
  pub original_sound : IsSound mid tree
  original_sound = original.sound s

  -- no block is named by both
  both : Owned (refs_of mid copy ++ refs_of mid tree) mid
  both =
      subst (λ l. Owned (refs_of mid copy ++ l) mid) (sym original.refs_are)
      (changes_owned a mid (refs_of a tree) (refs_of mid copy ++ refs_of a tree)
      (changes_beside a mid [] (refs_of mid copy) (refs_of a tree) (refs_of mid copy ++ refs_of a tree) p s.owned (λ r. times r (refs_of a tree)) (λ r. omega arith)
      (λ r. times-append r (refs_of mid copy) (refs_of a tree))))

  -- the copy stands when the original is given back
  pub copy_sound : (after : Blocks) → IsSound mid copy → Changes mid after (refs_of mid tree) [] → IsSound after copy
  copy_sound after k q = (packed_laws_hold.others mid after copy (refs_of mid tree) [] both q).sound k
