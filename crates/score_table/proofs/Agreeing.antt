-- A dictionary and a list that have the same members, after an edit of both.
use Rattle.std.proofs.Common.{◌≡◌, ◌≢◌, inl, inr, ℕ, ℤ, List, Option, Some, None, refl, sym, ap, ◌∙◌}
use Rattle.std.proofs.lemmas.Bool.{cases_eq}
use Rattle.blocks.specs.Blocks.{Blocks}
use Rattle.rehash_dict.specs.Table.{Table, Element, item, Updates}
use Rattle.rehash_dict.specs.Keyed.{Keyed}
use Rattle.rehash_dict.specs.Steps.{Holds}
use Rattle.score_list.specs.Linked.{Element as Scored}
use Rattle.score_table.specs.Scored.{Agree}
use Rattle.score_table.proofs.Among.{among_contained, contained_among, Follows}

-- a dictionary's element as one of the list
abbrev pub entry_of : Option (Element ℤ) → Option Scored
entry_of None = None
entry_of (Some e) = Some (e.value, e.key)

entry_some : (o : Option (Element ℤ)) (x : Scored) → entry_of o ≡ Some x → (e : Element ℤ) × (o ≡ Some e) × ((e.value, e.key) ≡ x)
entry_some None x h = cc
entry_some (Some e) x h = (e, refl, some_same (e.value, e.key) x h)
  where
    some_same : (a b : Scored) → Some a ≡ Some b → a ≡ b
    some_same a b h = cc

pub holds_of : (t : Table ℤ) (at : ℕ) (e : Element ℤ) (x : Scored) → item t at ≡ Some e → (e.value, e.key) ≡ x → Holds t at x.1 x.0
holds_of t at e x found same = record { hash = e.hash; found = found ∙ (λ i. Some (record { key = (same i).1; hash = e.hash; value = (same i).0 })) }

-- one item number of the dictionary changes, and so does the list
module _ (m : Blocks) (old new : Table ℤ) (xs ys : List Scored) (at : ℕ) (element : Option (Element ℤ)) (k : Keyed m old) (u : Updates old.items new.items at element)
    (agree : Agree old xs) (f : Follows xs ys (entry_of (item old at)) (entry_of element)) where
  -- another element isn't the one that was there
  another : (other : ℕ) (e : Element ℤ) → other ≢ at → item old other ≡ Some e → entry_of (item old at) ≢ Some (e.value, e.key)
  another other e apart there same =
      let p = entry_some (item old at) (e.value, e.key) same in
      apart (k.apart other at e p.0 there p.1 (ap (λ (x : Scored). m x.1) (sym p.2)))

  pub agree_follows : Agree new ys
  agree_follows = record {
    listed = λ i e there. elim (cases_eq i at) [
      | inl here ↦ contained_among ys (e.value, e.key) (f.with_new (e.value, e.key) (ap entry_of (sym u.changed ∙ ap (item new) (sym here) ∙ there)))
      | inr other ↦ let was : item old i ≡ Some e = sym (u.others i other) ∙ there in
          contained_among ys (e.value, e.key) (f.with_old (e.value, e.key) (among_contained xs (e.value, e.key) (agree.listed i e was)) (another i e other was))
    ];
    named = λ x h. elim (f.onto x (among_contained ys x h)) [
      | inl is ↦ let p = entry_some element x is in (at, holds_of new at p.0 x (u.changed ∙ p.1) p.2)
      | inr was ↦ let p = agree.named x (contained_among xs x was.0) in
          (p.0, record { hash = p.1.hash; found = u.others p.0 (λ same. was.1 (ap (λ i. entry_of (item old i)) (sym same) ∙ ap entry_of p.1.found)) ∙ p.1.found })
    ];
  }
