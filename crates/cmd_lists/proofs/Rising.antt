-- The forms of a list into which elements are put, one after the other.
use Rattle.std.proofs.Common.{◌≡◌, inl, inr, ◌⊎◌, ℕ, ◌≤◌, ◌<◌, List, [], ◌∷◌, length, sym, ap, subst, ◌∙◌, arith}
use Rattle.object_codec.specs.Forms.{IsLeastFrom, FitsList}
use Rattle.object_codec.specs.declared.form.Form.{Form}
use Rattle.object_codec.specs.declared.form.Form.TheVariants.{Intset, Listpack, Hashtable, Skiplist, Quicklist, Stream}
use Rattle.quicklist.specs.Nodes.{pack_len}
use Rattle.blocks.specs.Blocks.{Blocks}
use Rattle.quicklist.specs.Chain.{Chain, IsWritten, IsRisen, elements}
use Rattle.quicklist.proofs.Written.{pack_len_append, alone_len}
use Rattle.plain_model.specs.declared.list_command.ListEnd.{ListEnd}
use Rattle.plain_model.specs.declared.list_command.ListEnd.TheVariants.{Head, Tail}
use Rattle.plain_model.specs.ListSteps.{added}

-- what fits more bytes fits fewer
fits_fewer : (few many : ℕ) → few ≤ many → (form : Form) → FitsList many form → FitsList few form
fits_fewer few many le Intset h = h
fits_fewer few many le Listpack h = omega (arith, le, h)
fits_fewer few many le Hashtable h = h
fits_fewer few many le Skiplist h = h
fits_fewer few many le Quicklist h = h
fits_fewer few many le Stream h = h

risen_then : (a b c : Form) (few many : ℕ) → few ≤ many → IsLeastFrom a (FitsList few) b → IsLeastFrom b (FitsList many) c → IsLeastFrom a (FitsList many) c
risen_then a b c few many le p q = record {
  fitting = q.fitting;
  from_old = omega (arith, p.from_old, q.from_old);
  least = λ other fits from. q.least other fits (p.least other (fits_fewer few many le other fits) from);
}

len_added : (end : ListEnd) (xs : List (List ℕ)) (x : List ℕ) → pack_len xs ≤ pack_len (added end xs (x ∷ []))
len_added Head xs x = omega (arith, pack_len_append (x ∷ []) xs, alone_len x)
len_added Tail xs x = omega (arith, pack_len_append xs (x ∷ []), alone_len x)

-- no element was put in so far, or the form is the one of what is there now
abbrev pub RisesSoFar : List (List ℕ) → List (List ℕ) → Form → List (List ℕ) → Form → Type 0
RisesSoFar words rest old list new = ((rest ≡ words) × (new ≡ old)) ⊎ IsRisen old list new

pub rises_on : (end : ListEnd) (words rest : List (List ℕ)) (a b c : Form) (xs ys : List (List ℕ)) (x : List ℕ) → RisesSoFar words rest a xs b → ys ≡ added end xs (x ∷ []) → IsRisen b ys c
    → IsRisen a ys c
rises_on end words rest a b c xs ys x so_far is q = elim so_far [
  | inl none ↦ subst (λ f. IsRisen f ys c) none.1 q
  | inr p ↦ risen_then a b c (pack_len xs) (pack_len ys) (omega (arith, len_added end xs x, ap pack_len is)) p q
]

pub rises_last : (words rest : List (List ℕ)) (a b : Form) (xs : List (List ℕ)) → RisesSoFar words rest a xs b → rest ≡ [] → 0 < length words → IsRisen a xs b
rises_last words rest a b xs so_far is some = elim so_far [
  | inl none ↦ absurd (omega (arith, some, ap length (sym none.0 ∙ is)))
  | inr p ↦ p
]

-- the form of a list that was written
pub written_form : (before after : Blocks) (old new : Chain) (list : List (List ℕ)) → IsWritten before after old new list → IsRisen old.form (elements after new) new.form
written_form before after old new list w = subst (λ l. IsRisen old.form l new.form) (sym w.list_is) w.form
