-- Items out of the bytes.
use Rattle.std.proofs.Common.{◌≡◌, ℕ, ◌<◌, List, [], ◌∷◌, ◌++◌, length, drop, length-append, arith, sym, ap, ◌∙◌, refl}
use Rattle.std.specs.Prelude.{flat_map}
use Rattle.std.specs.List.{AllByRecursion}
use Rattle.std.proofs.lemmas.List.{append_assoc, append-nil}
use Rattle.std.proofs.lemmas.List.Concat.{flat_map-append}
use Rattle.plain_world.specs.Words.{Words}
use Rattle.resp_frames.specs.Frames.{Item, Asked, Passed, Line, item_bytes, IsItem, Framed, requests, asked}
use Rattle.resp_frames.specs.Feeding.{GivesRequests}
use Rattle.resp_frames.specs.RequestRead.{IsRequestAt, IsPassedAt, words_at}
use Rattle.resp_frames.specs.declared.span.Span.{Span}

module _ {X : Type 0} (P : X → Type 0) where
  pub all_append : (xs ys : List X) → AllByRecursion P xs → AllByRecursion P ys → AllByRecursion P (xs ++ ys)
  all_append [] ys h p = p
  all_append (x ∷ xs) ys h p = (h.0, all_append xs ys h.1 p)

pub framed_append : (a b c : List ℕ) (xs ys : List Item) → Framed a xs b → Framed b ys c → Framed a (xs ++ ys) c
framed_append a b c xs ys f g = record {
  whole = f.whole ∙ ap (λ l. flat_map item_bytes xs ++ l) g.whole ∙ sym (append_assoc (flat_map item_bytes xs) (flat_map item_bytes ys) c)
      ∙ ap (λ l. l ++ c) (sym (flat_map-append item_bytes xs ys));
  each = all_append IsItem xs ys f.each g.each;
}

pub gives_append : (a b c : List ℕ) (p q : List Words) → GivesRequests a b p → GivesRequests b c q → GivesRequests a c (p ++ q)
gives_append a b c p q f g = record {
  items = f.items ++ g.items;
  framed = framed_append a b c f.items g.items f.framed g.framed;
  are = flat_map-append asked f.items g.items ∙ ap (λ l. l ++ requests g.items) f.are ∙ ap (λ l. p ++ l) g.are;
}

pub gives_none : (a : List ℕ) → GivesRequests a a []
gives_none a = record { items = []; framed = record { whole = refl; each = tt }; are = refl }

one_item : (a b : List ℕ) (item : Item) → IsItem item → a ≡ item_bytes item ++ b → Framed a (item ∷ []) b
one_item a b item sound whole = record { whole = whole ∙ ap (λ l. l ++ b) (sym (append-nil (item_bytes item))); each = (sound, tt) }

pub gives_request : (bytes : List ℕ) (end : ℕ) (spans : List Span) → IsRequestAt bytes end spans → GivesRequests bytes (drop end bytes) (words_at bytes spans ∷ [])
gives_request bytes end spans h = record { items = h.item ∷ []; framed = one_item bytes (drop end bytes) h.item h.good h.whole; are = append-nil (asked h.item) ∙ h.asks }

pub gives_passed : (bytes : List ℕ) (end : ℕ) (spans : List Span) → IsPassedAt bytes end spans → GivesRequests bytes (drop end bytes) []
gives_passed bytes end spans h = record { items = h.item ∷ []; framed = one_item bytes (drop end bytes) h.item h.good h.whole; are = append-nil (asked h.item) ∙ h.asks }

item_some : (item : Item) → 0 < length (item_bytes item)
item_some (Asked words) = omega arith
item_some (Passed text) = omega arith
item_some (Line text) = omega (arith, length-append text (10 ∷ []))

framed_fewer : (a b : List ℕ) (x : Item) (xs : List Item) → Framed a (x ∷ xs) b → length b < length a
framed_fewer a b x xs f =
    let n : length a ≡ length (item_bytes x ++ flat_map item_bytes xs ++ b) = ap length f.whole in
    omega (arith, n, item_some x, length-append (item_bytes x ++ flat_map item_bytes xs) b, length-append (item_bytes x) (flat_map item_bytes xs))

fewer_items : (a b : List ℕ) (words : Words) (items : List Item) → Framed a items b → requests items ≡ words ∷ [] → length b < length a
fewer_items a b words [] f e = cc
fewer_items a b words (x ∷ xs) f e = framed_fewer a b x xs f

pub gives_fewer : (a b : List ℕ) (words : Words) → GivesRequests a b (words ∷ []) → length b < length a
gives_fewer a b words g = fewer_items a b words g.items g.framed g.are
