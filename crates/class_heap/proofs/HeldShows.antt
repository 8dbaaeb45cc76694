-- What a `&` to the fields of an owner shows of each. Assumes `Logic`.
use mathlib.Core.List.{[], ◌∷◌}
use Prim.Native.Nat.{ℕ, ◌+◌}
use seplogic.Ra.Ura.{Ura}
use base.Logic.{ent, sep}
use base.Fml.{Lft, Fml}
use prog.Memory.{align, up}
use types.Logic.{Logic, sem}
use types.Kit.{‵, ◌$◌, ◌∵◌, !, qed, keep, drop, fsplit, done}
use denote.RattleType.{RattleType, RowLaws}
use denote.Memory.{hidden_shr}
use denote.Opens.{shr_dup, unhide, hide}
use denote.RawPtr.{RawPtr, ptr_row_laws}
use denote.Struct.Struct.{Struct, Struct-row_laws}
use denote.Struct.Owning.{shape}
use Rattle.std.proofs.alloc.Calls.{α}
use Rattle.class_heap.proofs.HeldForm.{Bx, P, D, owning}

abbrev pub heap_at : Bx → ℕ
heap_at E = up (align (α E.al)) 8

module _ (E : Bx) {M : Type 1} {𝓤 : Ura M} (𝓛 : Logic 𝓤) (κ : Lft) (b o : ℕ) (d : D E) where
  abbrev Words : RattleType
  Words = Struct (shape (owning E))

  abbrev fields : Words.Denot
  fields = (d.at, (d.alloc, tt))

  abbrev S : Fml
  S = hidden_shr Words κ fields b o

  laws : RowLaws Words
  laws = Struct-row_laws (shape (owning E)) (ptr_row_laws, (E.al.laws.shr_laws, tt))

  pub shows_ptr : ent 𝓤 (sem 𝓛 S) (sep 𝓤 (sem 𝓛 (hidden_shr RawPtr κ d.at b (o + 0))) (sem 𝓛 S))
  shows_ptr = qed 𝓛 (‵ S ∷ []) ∵ shr_dup ! Words laws fields b o κ $ unhide ! $ fsplit ! $ fsplit ! $ hide ! $ keep ! (0 ∷ 3 ∷ []) $ done !

  pub shows_heap : ent 𝓤 (sem 𝓛 S) (sep 𝓤 (sem 𝓛 (hidden_shr (P E) κ d.alloc b (o + heap_at E))) (sem 𝓛 S))
  shows_heap = qed 𝓛 (‵ S ∷ []) ∵ shr_dup ! Words laws fields b o κ $ unhide ! $ fsplit ! $ fsplit ! $ drop ! $ fsplit ! $ hide ! $ keep ! (0 ∷ 3 ∷ []) $ done !
