-- An owner of a value behind a pointer at its type parameters, under short names, which call it a box.
--     Bx, args     the parameter's row with its laws, and what a call passes for it
--     R, B         the element and the box as rows.        box_ty, ref_ty, word     the box's MIR type, a `&mut` to one (an instance leaves what stands behind a reference as it is
--                                               written), and its machine value at the handle's
--     P, handle    the allocator as a row, and what a handle owns at its machine value
use mathlib.Core.List.{List, [], ◌∷◌}
use Prim.Native.Nat.{ℕ}
use lib.Dec.{T}
use seplogic.Ra.Ura.{Ura}
use mir.Syntax.{Ty, Args, a_type, named, mut, ty_ptr, ty_ref, ty_param, ty_named, ty_struct, tnil, tcons, dnil, dcons}
use mir.Val.{Val, vptr, vstruct, vnil, vcons, has_ty, WT}
use base.Fml.{Fml}
use types.Logic.{Logic}
use denote.RattleType.{RattleType, RowLaws}
use denote.Laws.{Lawful}
use denote.Param.{layout, bounded, param}
use denote.Param.Laws.{Laws, param_laws}
use denote.Struct.Owning.{Owning, shape}
use Rattle.class_heap.specs.declared.held.Held.{Held as Box}
use Rattle.class_heap.specs.contracts.held.Held as B-type
use Rattle.std.proofs.alloc.Calls.{Al, α, Fits}
use Rattle.std.proofs.ResultValues.{and_tt}
use denote.SharingLaws.{beside_shr_laws}
use denote.RawPtr.{ptr_row_laws}
use denote.Struct.Struct.{Struct, Struct-row_laws}
use denote.Struct.Lending.{lent_at, lent_at_shr_laws}

pub record Bx : Type 2 where
  pub row : RattleType
  pub laws : Laws row
  pub al : Al

module _ (E : Bx) where
  abbrev pub args : Args
  args = bounded (a_type ∷ a_type ∷ []) (E.row, (E.al.row, tt)) (dcons E.al.d (dcons E.al.drops dnil))

  abbrev pub X : Type 0
  X = E.row.Denot

  abbrev pub D : Type 0
  D = Box X E.al.row.Denot

  abbrev pub τ : Ty
  τ = layout E.row

  abbrev pub own : X → List Val → Fml
  own = E.row.own_val

  abbrev pub R : RattleType
  R = param 0 E.row

  abbrev pub lawful : {M : Type 1} {𝓤 : Ura M} (𝓛 : Logic 𝓤) → Lawful 𝓛 R
  lawful 𝓛 = (param_laws 0 E.row E.laws).lawful 𝓛

  abbrev pub Good : Val → Type 0
  Good v = T (has_ty τ v) × WT v

  abbrev pub P : RattleType
  P = param 1 E.al.row

  abbrev pub handle : E.al.row.Denot → Val → Fml
  handle a hv = P.own_val a (hv ∷ [])

  abbrev pub owning : Owning
  owning = B-type.the_type R P E.al.g

  abbrev pub B : RattleType
  B = B-type.the_row R P E.al.g

  pub box_row_laws : RowLaws B
  box_row_laws d b o = beside_shr_laws ((Struct (shape owning)).shr_at (d.at, (d.alloc, tt)) b o) (lent_at R d.at d.value)
      (Struct-row_laws (shape owning) (ptr_row_laws, (E.al.laws.shr_laws, tt)) (d.at, (d.alloc, tt)) b o) (lent_at_shr_laws R E.laws.shr_laws d.at d.value)

  abbrev pub box_ty : Ty
  box_ty = ty_struct owning.name (tcons ty_ptr (tcons (α E.al) tnil))

  abbrev pub ref_ty : Ty
  ref_ty = ty_ref (named 0) mut (ty_named (owning.name, []) (tcons (ty_param 0) (tcons (ty_param 1) tnil)))

  abbrev pub word : Val → ℕ → ℕ → Val
  word hv b o = vstruct (vcons (vptr b o) (vcons hv vnil))

  pub box_typed : (hv : Val) (b o : ℕ) → Fits E.al hv → T (has_ty box_ty (word hv b o)) × WT (word hv b o)
  box_typed hv b o fa = (and_tt (has_ty (α E.al) hv) fa.0, (tt, (fa.1, tt)))
