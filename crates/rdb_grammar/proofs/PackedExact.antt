-- Packed collections are decided: each string is one value's, or has one first fault.
use Rattle.std.proofs.Common.{◌≡◌, ◌⊎◌, inl, inr, ℕ, zero, suc, ◌+◌, ◌*◌, ◌≤◌, Bool, true, false, cond, List, [], ◌∷◌, length, map, Result, Ok, Err, refl, sym, ap, subst, ◌∙◌, arith}
use Rattle.std.specs.Prelude.{ℤ, int_lt, ◌<ℤ◌, ◌==◌, ◌&&◌, ◌||◌, nat_le, Decides}
use Rattle.std.proofs.lemmas.Bool.{leb-true, le-leb}
use Rattle.std.proofs.lemmas.Bool.Decides.{Decides-and, Decides-or, Decides-eqb}
use Rattle.std.proofs.lemmas.Int.{ints}
use Rattle.int_text.specs.Decimal.{canonical}
use Rattle.intset.specs.Intset.{IsIntset, HasLength, IsWidth, width_of, count_of, numbers_of}
use Rattle.intset.specs.Places.{RisesBelow}
use Rattle.intset.proofs.Halves.{rises_rising}
use Rattle.listpack.specs.declared.fault.PackFault.{PackFault}
use Rattle.listpack.specs.Pack.{Packs, IsFault}
use Rattle.listpack.proofs.Laws.{exactly_one}
use Rattle.plain_world.specs.Worlds.{Value}
use Rattle.rdb_grammar.specs.declared.fault.LoadKind.{LoadKind}
use Rattle.rdb_grammar.specs.declared.fault.LoadKind.TheVariants as kinds
use Rattle.rdb_grammar.specs.Payloads.{texts_or, texts_in, rises, is_intset, numbers_in, paired, scored, pairs_in, scores_in, numbers_on, texts_on, pairs_on, scores_on}
use Rattle.rdb_grammar.proofs.PayloadsExact.{Decided, told_decided, refined_decided}

-- ---- listpacks

abbrev Told : Type 0
Told = Result (List (List ℕ)) LoadKind

-- a list, and no fault
abbrev of_list : List (List ℕ) → Told
of_list list = Ok list

-- a fault, and no list
abbrev of_fault : LoadKind → Told
of_fault kind = Err kind

list_is : (x y : List (List ℕ)) → of_list x ≡ of_list y → x ≡ y
list_is x y e = cc

kind_is : (x y : LoadKind) → of_fault x ≡ of_fault y → x ≡ y
kind_is x y e = cc

module _ (bytes : List ℕ) where
  abbrev Either : Type 0
  Either = ((list : List (List ℕ)) × Packs bytes list) ⊎ ((fault : PackFault) × IsFault bytes fault)

  texts_means : (e : Either) (list : List (List ℕ)) → texts_or bytes e ≡ Ok list → Packs bytes list
  texts_means (inl p) list h = subst (λ (x : List (List ℕ)). Packs bytes x) (list_is p.0 list h) p.1
  texts_means (inr f) list h = absurd cc

  texts_again : (e : Either) (list : List (List ℕ)) → Packs bytes list → texts_or bytes e ≡ Ok list
  texts_again (inl p) list h =
      let law = exactly_one bytes in
      ap of_list ((law.read p.0 p.1).1 ∙ sym (law.read list h).1)
  texts_again (inr f) list h = absurd ((exactly_one bytes).not_both list f.0 h f.1)

  texts_breaks : (e : Either) (kind : LoadKind) → texts_or bytes e ≡ Err kind → ((fault : PackFault) × IsFault bytes fault) × (kind ≡ kinds.Listpack)
  texts_breaks (inl p) kind h = absurd cc
  texts_breaks (inr f) kind h = (f, sym (kind_is kinds.Listpack kind h))

  texts_first : (e : Either) (kind : LoadKind) → ((fault : PackFault) × IsFault bytes fault) × (kind ≡ kinds.Listpack) → texts_or bytes e ≡ Err kind
  texts_first (inl p) kind h = absurd ((exactly_one bytes).not_both p.0 h.0.0 p.1 h.0.1)
  texts_first (inr f) kind h = ap of_fault (sym h.1)

pub texts_in_decided : Decided texts_in
texts_in_decided = record {
  means = λ bytes list h. texts_means bytes (exactly_one bytes).either list h;
  again = λ bytes list h. texts_again bytes (exactly_one bytes).either list h;
  breaks = λ bytes kind h. texts_breaks bytes (exactly_one bytes).either kind h;
  first = λ bytes kind h. texts_first bytes (exactly_one bytes).either kind h;
}

-- ---- intsets

int_lt_decides : (a b : ℤ) → Decides (int_lt a b) (a <ℤ b)
int_lt_decides a b = (λ e. omega (arith, ints), by (int_lt a b) refl)
  where
    by : (t : Bool) → int_lt a b ≡ t → a <ℤ b → t ≡ true
    by true e h = refl
    by false e h = absurd (omega (arith, ints))

rises_decides : (xs : List ℤ) → Decides (rises xs) (RisesBelow xs (length xs))
rises_decides [] = (λ e k d lt. absurd (omega arith), λ h. refl)
rises_decides (x ∷ []) = (λ e k d lt. absurd (omega arith), λ h. refl)
rises_decides (x ∷ y ∷ xs) =
    let both = Decides-and (int_lt x y) (rises (y ∷ xs)) (int_lt_decides x y) (rises_decides (y ∷ xs)) in
    (λ e. there (both.0 e).0 (both.0 e).1, λ h. both.1 (h 0 x (omega arith), λ k d lt. h (suc k) d (omega arith)))
  where
    there : x <ℤ y → RisesBelow (y ∷ xs) (length (y ∷ xs)) → RisesBelow (x ∷ y ∷ xs) (length (x ∷ y ∷ xs))
    there first more zero d lt = first
    there first more (suc k) d lt = more k d (omega arith)

module _ (bytes : List ℕ) where
  abbrev width : ℕ
  width = width_of bytes

  abbrev Parts : Type 0
  Parts = (4 ≤ length bytes) × (IsWidth width × (HasLength bytes × RisesBelow (numbers_of bytes) (length (numbers_of bytes))))

  abbrev is_wide : Bool
  is_wide = width == 2 || (width == 4 || width == 8)

  abbrev is_long : Bool
  is_long = length bytes == 8 + width * count_of bytes

  abbrev does_rise : Bool
  does_rise = rises (numbers_of bytes)

  parts : Decides (is_intset bytes) Parts
  parts =
      Decides-and (nat_le 4 (length bytes)) (is_wide && (is_long && does_rise)) (leb-true 4 (length bytes), le-leb 4 (length bytes))
      (Decides-and is_wide (is_long && does_rise)
      (Decides-or (width == 2) (width == 4 || width == 8) (Decides-eqb width 2) (Decides-or (width == 4) (width == 8) (Decides-eqb width 4) (Decides-eqb width 8)))
      (Decides-and is_long does_rise (Decides-eqb (length bytes) (8 + width * count_of bytes)) (rises_decides (numbers_of bytes))))

  whole : Parts → IsIntset bytes (numbers_of bytes)
  whole p = record {
    width = record { told = p.0; width = p.1.0 };
    length = p.1.1.0;
    listed = refl;
    rising = rises_rising (numbers_of bytes) (length (numbers_of bytes)) (omega arith) p.1.1.1;
  }

  taken : IsIntset bytes (numbers_of bytes) → Parts
  taken h = (h.width.told, (h.width.width, (h.length, λ k d lt. h.rising k (suc k) d (omega arith) (omega arith))))

  abbrev numbers_or : Bool → Told
  numbers_or b = cond b (Ok (map canonical (numbers_of bytes))) (Err kinds.Intset)

  numbers_means : (b : Bool) → is_intset bytes ≡ b → (list : List (List ℕ)) → numbers_or b ≡ Ok list → IsIntset bytes (numbers_of bytes) × (list ≡ map canonical (numbers_of bytes))
  numbers_means true is list h = (whole (parts.0 is), sym (list_is _ list h))
  numbers_means false is list h = absurd cc

  numbers_again : (b : Bool) → is_intset bytes ≡ b → (list : List (List ℕ)) → IsIntset bytes (numbers_of bytes) × (list ≡ map canonical (numbers_of bytes)) → numbers_or b ≡ Ok list
  numbers_again true is list h = ap of_list (sym h.1)
  numbers_again false is list h = let yes : is_intset bytes ≡ true = parts.1 (taken h.0) in absurd cc

  numbers_breaks : (b : Bool) → is_intset bytes ≡ b → (kind : LoadKind) → numbers_or b ≡ Err kind → ¬ (IsIntset bytes (numbers_of bytes)) × (kind ≡ kinds.Intset)
  numbers_breaks true is kind h = absurd cc
  numbers_breaks false is kind h = (λ i. let yes : is_intset bytes ≡ true = parts.1 (taken i) in cc, sym (kind_is kinds.Intset kind h))

  numbers_first : (b : Bool) → is_intset bytes ≡ b → (kind : LoadKind) → ¬ (IsIntset bytes (numbers_of bytes)) × (kind ≡ kinds.Intset) → numbers_or b ≡ Err kind
  numbers_first true is kind h = absurd (h.0 (whole (parts.0 is)))
  numbers_first false is kind h = ap of_fault (sym h.1)

pub numbers_in_decided : Decided numbers_in
numbers_in_decided = record {
  means = λ bytes list h. numbers_means bytes (is_intset bytes) refl list h;
  again = λ bytes list h. numbers_again bytes (is_intset bytes) refl list h;
  breaks = λ bytes kind h. numbers_breaks bytes (is_intset bytes) refl kind h;
  first = λ bytes kind h. numbers_first bytes (is_intset bytes) refl kind h;
}

-- ---- values

pub pairs_in_decided : Decided pairs_in
pairs_in_decided = refined_decided _ _ texts_in_decided (told_decided paired)

pub scores_in_decided : Decided scores_in
scores_in_decided = refined_decided _ _ pairs_in_decided (told_decided scored)

pub numbers_on_decided : (made : Value) → Decided (numbers_on made)
numbers_on_decided made = refined_decided _ _ numbers_in_decided (told_decided _)

pub texts_on_decided : (made : Value) → Decided (texts_on made)
texts_on_decided made = refined_decided _ _ texts_in_decided (told_decided _)

pub pairs_on_decided : (made : Value) → Decided (pairs_on made)
pairs_on_decided made = refined_decided _ _ pairs_in_decided (told_decided _)

pub scores_on_decided : (made : Value) → Decided (scores_on made)
scores_on_decided made = refined_decided _ _ scores_in_decided (told_decided _)
