-- The last of some nodes, and what is kept of it.
use Rattle.std.proofs.Common.{◌≡◌, ◌≢◌, ◌∙◌, ℕ, ◌-◌, ◌^◌, List, [], ◌∷◌, ◌++◌, length, drop, Option, Some, None, sym, ap, subst, arith, length-append}
use Rattle.std.specs.Prelude.{false, IfSome}
use Rattle.std.proofs.lemmas.List.{append_assoc, same_from_push}
use Rattle.blocks.specs.Blocks.{Blocks}
use Rattle.rax_packed.specs.declared.tree.PackedTree.{PackedTree}
use Rattle.stream_node.specs.declared.id.Id.{Id}
use Rattle.stream_object.specs.declared.tail.Tail.{Tail}
use Rattle.stream_object.specs.Block.{Holds}
use Rattle.stream_object.specs.Found.{IsNear}
use Rattle.stream_object.specs.Parts.{Part, part, IsPart, HasParts, parts_of}
use Rattle.stream_object.specs.Tail.{IsEnd, IsTail, IsKept}
use Rattle.stream_object.proofs.Holdings.{holds_one}
use Rattle.stream_object.proofs.Grows.{last_place, near_part}

-- what stands behind a node ends as all does, unless that node is the last
behind_ends : (all before behind : List Part) (p last : Part) → last ≢ p → before ++ p ∷ behind ≡ all ++ last ∷ [] → IsEnd behind last
behind_ends [] [] [] p last apart is = absurd (apart (sym (same_from_push [] [] p last is).1))
behind_ends [] [] (x ∷ behind) p last apart is = absurd (omega (arith, ap length is))
behind_ends [] (x ∷ before) behind p last apart is = absurd (omega (arith, ap length is, length-append before (p ∷ behind)))
behind_ends (y ∷ all) [] behind p last apart is = record { before = all; place = ap (drop 1) is }
behind_ends (y ∷ all) (x ∷ before) behind p last apart is = behind_ends all before behind p last apart (ap (drop 1) is)

-- what was kept still is, or nothing, where the node of a key has changed or gone
abbrev pub IsLeft : Option Tail → Option Tail → Id → Type 0
IsLeft old new key = IfSome new (λ tail. (old ≡ Some tail) × (tail.key ≢ key))

pub kept_beside : (ps qs before front behind : List Part) (p : Part) (key : Id) (old new : Option Tail) → p.key ≡ key → ps ≡ before ++ p ∷ behind → qs ≡ front ++ behind → IsKept ps old
    → IsLeft old new key → IsKept qs new
kept_beside ps qs before front behind p key old None name place stays kept left = tt
kept_beside ps qs before front behind p key old (Some tail) name place stays kept left =
    let is : IsTail ps tail = subst (IsKept ps) left.0 kept in
    let last = part tail.key tail.at is.0 in
    let end = behind_ends is.1.before before behind p last (λ same. left.1 (ap (λ (q : Part). q.key) same ∙ name)) (sym place ∙ is.1.place) in
    (is.0, record { before = front ++ end.before; place = stays ∙ ap (λ xs. front ++ xs) end.place ∙ sym (append_assoc front end.before (last ∷ [])) })

-- where nothing is kept
pub kept_none : (ps : List Part) (tail : Option Tail) → tail ≡ None → IsKept ps tail
kept_none ps tail none = subst (IsKept ps) (sym none) tt

-- the last node as its block has it
pub tail_part : (m : Blocks) (tree : PackedTree) (tail : Tail) → HasParts m tree (parts_of m tree) → (is : IsTail (parts_of m tree) tail) → IsPart m (part tail.key tail.at is.0)
tail_part m tree tail h is = near_part m tree (parts_of m tree) is.1.before [] (part tail.key tail.at is.0) h is.1.place

pub tail_read : (m : Blocks) (tree : PackedTree) (tail : Tail) → HasParts m tree (parts_of m tree) → IsTail (parts_of m tree) tail → (bytes : List ℕ) → Holds m tail.at bytes
    → IsEnd (parts_of m tree) (part tail.key tail.at bytes)
tail_read m tree tail h is bytes block =
    let same : bytes ≡ is.0 = holds_one m tail.at bytes is.0 block (tail_part m tree tail h is).block in
    subst (λ b. IsEnd (parts_of m tree) (part tail.key tail.at b)) (sym same) is.1

-- the node that is the nearest to the greatest id is the last one
pub near_end : (m : Blocks) (tree : PackedTree) (top : Id) (p : Part) → top.ms ≡ 2 ^ 64 - 1 → top.seq ≡ 2 ^ 64 - 1 → HasParts m tree (parts_of m tree)
    → IsNear false (parts_of m tree) top p → IsEnd (parts_of m tree) p
near_end m tree top p a b h n = record { before = n.before; place = last_place m tree top p a b h n }
