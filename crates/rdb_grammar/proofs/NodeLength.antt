-- The string of a stream's node is no longer than the longest one.
use Rattle.std.proofs.Common.{◌≡◌, ◌⊎◌, inl, inr, ℕ, ◌≤◌, ◌==◌, Bool, true, false, ltb, List, length, refl, sym, ap, subst, arith}
use Rattle.std.specs.Prelude.{ℤ, FitsSigned}
use Rattle.std.specs.Int.{Width, w8, w16, w32, w64, from_le_bytes, cast_signed}
use Rattle.std.specs.Fmt.{signed_decimal}
use Rattle.std.proofs.lemmas.Bool.{leb-true, ltb-true}
use Rattle.int_text.proofs.Signed.{canonical_length}
use Rattle.rdb_grammar.specs.declared.fault.LoadKind.TheVariants as kinds
use Rattle.rdb_grammar.specs.Codes as code
use Rattle.rdb_grammar.specs.Format.{Branch, Goes, Refuses, BranchSpells, pick, turned}
use Rattle.rdb_grammar.specs.Lengths.{length_behind}
use Rattle.rdb_grammar.specs.Strings.{Head, Len, Num, head_behind, body}
use Rattle.rdb_grammar.specs.StreamParts.{longest_node, is_node_short, node_string}
use Rattle.rdb_grammar.specs.Places.{Stands}

-- ---- numbers of strings have 32 bits at most

abbrev IsNarrow : Width → Type 0
IsNarrow w = (w ≡ w8) ⊎ ((w ≡ w16) ⊎ (w ≡ w32))

abbrev IsSmall : Head → Type 0
IsSmall (Len n) = Unit {0}
IsSmall (Num w) = IsNarrow w

abbrev AllSmall : Branch Head → Type 0
AllSmall branch = (h : Head) (word : List ℕ) → BranchSpells branch h word → IsSmall h

small_as : (h k : Head) → h ≡ k → IsSmall k → IsSmall h
small_as h k e s = subst IsSmall (sym e) s

pick_small : (test : Bool) (one other : Branch Head) → AllSmall one → AllSmall other → AllSmall (pick test one other)
pick_small true one other f g = f
pick_small false one other f g = g

turned_small : (branch : Branch ℕ) → AllSmall (turned Len branch)
turned_small (Goes one) h word s = small_as h (Len s.0) s.5.0 tt
turned_small (Refuses is) h word s = absurd s

head_small : (b : ℕ) → AllSmall (head_behind b)
head_small b =
    pick_small (b == code.int8) _ _ (λ h word s. small_as h (Num w8) s.0 (inl refl))
    (pick_small (b == code.int16) _ _ (λ h word s. small_as h (Num w16) s.0 (inr (inl refl)))
    (pick_small (b == code.int32) _ _ (λ h word s. small_as h (Num w32) s.0 (inr (inr refl)))
    (pick_small (b == code.lzf) _ _ (λ h word s. absurd s) (turned_small (length_behind kinds.SpecialString b)))))

fits_8 : (n : ℕ) (below : Bool) → ltb n 128 ≡ below → FitsSigned w64 (cast_signed w8 n)
fits_8 n true e = rw e (record { sfits = omega (arith, ltb-true n 128 e) })
fits_8 n false e = rw e (record { sfits = omega arith })

fits_16 : (n : ℕ) (below : Bool) → ltb n 32768 ≡ below → FitsSigned w64 (cast_signed w16 n)
fits_16 n true e = rw e (record { sfits = omega (arith, ltb-true n 32768 e) })
fits_16 n false e = rw e (record { sfits = omega arith })

fits_32 : (n : ℕ) (below : Bool) → ltb n 2147483648 ≡ below → FitsSigned w64 (cast_signed w32 n)
fits_32 n true e = rw e (record { sfits = omega (arith, ltb-true n 2147483648 e) })
fits_32 n false e = rw e (record { sfits = omega arith })

narrow_fits : (w : Width) (n : ℕ) → IsNarrow w → FitsSigned w64 (cast_signed w n)
narrow_fits w n (inl e) = subst (λ (v : Width). FitsSigned w64 (cast_signed v n)) (sym e) (fits_8 n (ltb n 128) refl)
narrow_fits w n (inr (inl e)) = subst (λ (v : Width). FitsSigned w64 (cast_signed v n)) (sym e) (fits_16 n (ltb n 32768) refl)
narrow_fits w n (inr (inr e)) = subst (λ (v : Width). FitsSigned w64 (cast_signed v n)) (sym e) (fits_32 n (ltb n 2147483648) refl)

-- ---- the string

text_short : (h : Head) (text back : List ℕ) → IsSmall h → is_node_short h ≡ true → (body h).Spells text back → length text ≤ longest_node
text_short (Len n) text back small e b = omega (arith, leb-true n longest_node e, b.1)
text_short (Num w) text back small e b =
    let z : ℤ = cast_signed w (from_le_bytes w b.0) in
    let few : length (signed_decimal z) ≤ 20 = (canonical_length z (narrow_fits w (from_le_bytes w b.0) small)).1 in
    omega (arith, few, ap length b.5.0)

-- as loading a node asks
pub node_short : (text bytes : List ℕ) (at next : ℕ) → Stands node_string text bytes at next → length text ≤ longest_node
node_short text bytes at next s =
    let h = s.spelled.0 in
    let begins = s.spelled.4.0 in
    text_short h text s.spelled.2 (head_small begins.0 h begins.1 begins.3) s.spelled.4.1 s.spelled.5
