-- What the proofs of an owner's functions share, which call it a box. Assumes `Logic`.
--     el_out, el_in, el_room     the element in memory is a cell and what the element owns, and it is let go
--     el_tells                   what is owned of an element is one machine value, of its type
--     box_out, box_in            a box by value is [the element in memory; the token; the handle]
--     box_opens, box_closes      the same behind a `&mut`: [the element; the token with the handle; the word; the open borrow; obs; auth]
use mathlib.Core.Path.{◌≡◌, refl, sym, ap, subst}
use Prim.Native.Nat.{ℕ}
use mathlib.Core.List.{List, [], ◌∷◌, ◌++◌}
use seplogic.Ra.Ura.{Ura}
use base.Fraction.{full_share}
use mir.Val.{Val, vptr, vstruct, of_list}
use base.Logic.{ent, sep, ex, guard, fst∗, never}
use base.Stored.{Gv}
use base.Fml.{Lft, GName, Share, ftrue, fsep, fat, flft, fobs, fauth, fbor, fobor}
use types.Logic.{Logic, sem}
use types.Kit.{Goal, Soaks, Step, step, Seq, Item, ‵, ◌⊛◌, some, ◌$◌, ◌∵◌, !, qed, by, move, keep, drop, use1, pick, split, show, check, rewrite, fsplit, fjoin, fpick, fpack, feq_l, feq_i, done}
use types.SemTy.{Body as Borrowed}
use denote.RattleType.{Valss}
use denote.Laws.{Is, shows}
use denote.Memory.{cell_at, part_at, mem}
use denote.RawPtr.{Ptr, RawPtr, block_ptr, ptr_val, in_a_block, null_ptr}
use denote.Steps.{opens, closes, peeks, nothing}
use denote.Struct.Struct.{within}
use denote.Struct.Owning.{shape}
use borrow.Table.OneValue.{part_out, part_in}
use Rattle.std.specs.Box.Ownership.{box_owns}
use Rattle.class_heap.proofs.HeldForm.{Bx, X, D, τ, own, lawful, R, P, B, Good, owning, word, handle}
use Rattle.std.proofs.alloc.Calls.{token, Fits, handle_tells}
use mir.Raw.{raw as bare}

module _ (E : Bx) {M : Type 1} {𝓤 : Ura M} (𝓛 : Logic 𝓤) where
  open 𝓛 use {H}

  pub el_out : (x : X E) (b o : ℕ) → ent 𝓤 (sem 𝓛 (part_at (R E) full_share x b o)) (ex 𝓤 (λ (v : Val). guard 𝓤 (Good E v) (sep 𝓤 (H.at full_share (τ E) b o v) (sem 𝓛 (own E x (v ∷ []))))))
  el_out x b o = qed 𝓛 (‵ (part_at (R E) full_share x b o) ∷ []) ∵
      use1 𝓛 (some (λ (v : Val). ‵ (fat full_share (τ E) b o v) ⊛ ‵ (own E x (v ∷ [])))) (part_out 𝓛 (R E) refl full_share x b o) $ pick ! (λ v. split ! $ move ! (1 ∷ []) $
      peeks ! (R E) (Is (R E)) (shows 𝓛 (R E)) x (v ∷ []) (λ p.
      show ! (λ (w : Val). guard 𝓤 (Good E w) (sep 𝓤 (H.at full_share (τ E) b o w) (sem 𝓛 (own E x (w ∷ []))))) v $ check ! ((lawful E 𝓛).typed x (v ∷ []) p).0 $ move ! (1 ∷ 0 ∷ []) $ done !))

  pub el_in : (x : X E) (b o : ℕ) (v : Val) → ent 𝓤 (sep 𝓤 (H.at full_share (τ E) b o v) (sem 𝓛 (own E x (v ∷ [])))) (sem 𝓛 (part_at (R E) full_share x b o))
  el_in x b o v = part_in 𝓛 (R E) refl full_share x b o v

  pub el_room : (x : X E) (b o : ℕ) → ent 𝓤 (sem 𝓛 (part_at (R E) full_share x b o)) (H.room (τ E) b o)
  el_room x b o = qed 𝓛 (‵ (part_at (R E) full_share x b o) ∷ []) ∵
      use1 𝓛 (some (λ (v : Val). ‵ (fat full_share (τ E) b o v) ⊛ ‵ (own E x (v ∷ [])))) (part_out 𝓛 (R E) refl full_share x b o) $ pick !
      (λ v. split ! $ keep ! (0 ∷ []) $ by ! (𝓛.laws.at_room (τ E) b o v))

module _ (E : Bx) {M : Type 1} {𝓤 : Ura M} {𝓛 : Logic 𝓤} {K : Type 0} {Γ : List (Item 𝓤)} {G : Goal 𝓤 𝓛.H} where
  pub el_tells : K → (x : X E) (vs : List Val) → ((v : Val) → vs ≡ v ∷ [] → Good E v → Seq K 𝓛 (‵ (own E x (v ∷ [])) ∷ Γ) G) → Seq K 𝓛 (‵ (own E x vs) ∷ Γ) G
  el_tells = handle_tells (record { row = E.row; laws = E.laws; g = record { dealloc_token = λ a σ p. ftrue }; d = E.al.d; drops = E.al.drops })

  pub box_out : K → (d : D E) (vs : List Val)
      → ((b o : ℕ) (hv : Val) → d.at ≡ block_ptr b o → vs ≡ word E hv b o ∷ [] → Fits E.al hv
      → Seq K 𝓛 (‵ (part_at (R E) full_share d.value b o) ∷ ‵ (token E.al d.alloc (bare (τ E)) (block_ptr b o)) ∷ ‵ (handle E d.alloc hv) ∷ Γ) G)
      → Seq K 𝓛 (‵ ((B E).own_val d vs) ∷ Γ) G
  box_out t d vs k =
      fsplit t $ fpick t (λ vss. fsplit t $ feq_l t (λ ev. fsplit t $ feq_l t (λ ep. fsplit t $ handle_tells E.al t d.alloc vss.1.0 (λ hv ea fa. move t (1 ∷ []) $ drop t $ move t (1 ∷ []) $
      in_a_block t d.at (λ p. box_owns (token E.al d.alloc) (R E) p d.value) (fst∗ 𝓤 (never 𝓤) (sem 𝓛 (token E.al d.alloc (bare (τ E)) null_ptr))) (λ b o e. fsplit t $ k b o hv e
      (subst (λ (p : Ptr). vs ≡ vstruct (of_list (ptr_val p ∷ hv ∷ [])) ∷ []) e
      (subst (λ (ws : List Val). vs ≡ vstruct (of_list (ptr_val d.at ∷ (ws ++ []))) ∷ []) ea (subst (λ (ps : List Val). vs ≡ vstruct (of_list (ps ++ (vss.1.0 ++ []))) ∷ []) ep ev))) fa)))))

  pub box_in : K → {hv : Val} (d : D E) (b o : ℕ) (x : X E) → d.at ≡ block_ptr b o → d.value ≡ x
      → Step K 𝓛 (‵ ((B E).own_val d (word E hv b o ∷ [])) ∷ Γ) G (‵ (part_at (R E) full_share x b o) ∷ ‵ (token E.al d.alloc (bare (τ E)) (block_ptr b o)) ∷ ‵ (handle E d.alloc hv) ∷ Γ) G
  box_in t {hv} d b o x e f = step (λ s.
      fjoin t $ rewrite t 0 (λ (y : X E). ‵ (box_owns (token E.al d.alloc) (R E) (block_ptr b o) y)) (sym f) refl $ rewrite t 0
      (λ (p : Ptr). ‵ (box_owns (token E.al d.alloc) (R E) p d.value)) (sym e) refl $
      nothing t $ move t (2 ∷ 0 ∷ []) $ fjoin t $ feq_i t (List Val) (vptr b o ∷ []) (ptr_val d.at ∷ []) (ap (λ (p : Ptr). ptr_val p ∷ []) (sym e)) $ fjoin t $
      feq_i t (List Val) (word E hv b o ∷ []) (word E hv b o ∷ []) refl $ fjoin t $
      fpack t (Valss (RawPtr ∷ P E ∷ [])) (within (shape (owning E)) (d.at, (d.alloc, tt)) (word E hv b o ∷ [])) (vptr b o ∷ [], (hv ∷ [], tt)) $ fjoin t $ s)

module _ (E : Bx) {M : Type 1} {𝓤 : Ura M} {𝓛 : Logic 𝓤} {K : Type 0} {Γ : List (Item 𝓤)} {G : Goal 𝓤 𝓛.H} where
  pub box_opens : K → Soaks G → {κ : Lft} {q : Share} {γ : GName} (d : D E) (rb ro : ℕ)
      →
      ((b o : ℕ) (hv : Val) → d.at ≡ block_ptr b o → Seq K 𝓛
      (‵ (part_at (R E) full_share d.value b o) ∷ ‵ (fsep (token E.al d.alloc (bare (τ E)) (block_ptr b o)) (handle E d.alloc hv))
      ∷ ‵ (cell_at full_share (B E).mir (word E hv b o ∷ []) rb ro)
      ∷ ‵ (fobor κ q (Borrowed (mem (B E)) rb ro γ)) ∷ ‵ (fobs γ ((B E).coded.code d)) ∷ ‵ (fauth γ ((B E).coded.code d)) ∷ Γ) G)
      → Seq K 𝓛 (‵ (fobs γ ((B E).coded.code d)) ∷ ‵ (fbor κ (Borrowed (mem (B E)) rb ro γ)) ∷ ‵ (flft κ q) ∷ Γ) G
  box_opens t z d rb ro k =
      opens t z (B E) {h = d} rb ro (λ vs. move t (1 ∷ []) $ box_out E t d vs (λ b o hv e ws fa. move t (1 ∷ 2 ∷ []) $ fjoin t $ move t (1 ∷ []) $
      rewrite t 2 (λ (us : List Val). ‵ (cell_at full_share (B E).mir us rb ro)) ws refl $ k b o hv e))

  pub box_closes : K → Soaks G → {κ : Lft} {q : Share} {v w : Gv} {γ : GName} {hv : Val} (d : D E) (b o : ℕ) (x : X E) (rb ro : ℕ) → d.at ≡ block_ptr b o → d.value ≡ x
      → Step K 𝓛 (‵ (fobs γ ((B E).coded.code d)) ∷ ‵ (fbor κ (Borrowed (mem (B E)) rb ro γ)) ∷ ‵ (flft κ q) ∷ Γ) G
      (‵ (part_at (R E) full_share x b o) ∷ ‵ (fsep (token E.al d.alloc (bare (τ E)) (block_ptr b o)) (handle E d.alloc hv)) ∷ ‵ (cell_at full_share (B E).mir (word E hv b o ∷ []) rb ro)
      ∷ ‵ (fobor κ q (Borrowed (mem (B E)) rb ro γ)) ∷ ‵ (fobs γ v) ∷ ‵ (fauth γ w) ∷ Γ) G
  box_closes t z {hv = hv} d b o x rb ro e f = step
      (λ s. move t (1 ∷ []) $ fsplit t $ move t (2 ∷ []) $ box_in E t d b o x e f $ move t (1 ∷ 0 ∷ []) $ closes t z (B E) d (word E hv b o ∷ []) rb ro $ s)
