-- An element and a dictionary's model as data.
use Rattle.std.specs.Prelude.{ℕ, List, Option, refl}
use Rattle.std.specs.Coded.{Coded, code_by, coded×, coded_ℕ, coded_list, coded_option}
use Rattle.blocks.specs.declared.BlockRef.{BlockRef}
use Rattle.rehash_dict.specs.Table.{Element, Table, Chaining}

abbrev pub ref_code : Coded BlockRef
ref_code = code_by (ℕ × ℕ) (coded× coded_ℕ coded_ℕ) (λ r. (r.slab, r.slot)) (λ p. record { slab = p.0; slot = p.1 })
    (λ _. refl)

abbrev pub element_code : {V : Type 0} → Coded V → Coded (Element V)
element_code {V} code =
    code_by (BlockRef × (ℕ × V)) (coded× ref_code (coded× coded_ℕ code)) (λ e. (e.key, (e.hash, e.value)))
    (λ p. record { key = p.0; hash = p.1.0; value = p.1.1 }) (λ _. refl)

abbrev pub rows_code : Coded (List (List ℕ))
rows_code = coded_list (coded_list coded_ℕ)

abbrev pub held_code : {V : Type 0} → Coded V → Coded (Chaining V)
held_code {V} code =
    code_by (List (Option (Element V)) × (List (List ℕ) × (List (List ℕ) × ℕ)))
    (coded× (coded_list (coded_option (element_code code))) (coded× rows_code (coded× rows_code coded_ℕ)))
    (λ h. (h.items, (h.older, (h.newer, h.capacity))))
    (λ p. record { items = p.0; older = p.1.0; newer = p.1.1.0; capacity = p.1.1.1 })
    (λ _. refl)

abbrev pub table_code : {V : Type 0} → Coded V → Coded (Table V)
table_code {V} code =
    code_by (List (Option (Element V)) × (List (List ℕ) × (List (List ℕ) × (ℕ × (ℕ × ℕ)))))
    (coded× (coded_list (coded_option (element_code code)))
    (coded× rows_code (coded× rows_code (coded× coded_ℕ (coded× coded_ℕ coded_ℕ)))))
    (λ t. (t.items, (t.older, (t.newer, (t.position, (t.seed, t.top))))))
    (λ p. record {
      items = p.0;
      older = p.1.0;
      newer = p.1.1.0;
      position = p.1.1.1.0;
      seed = p.1.1.1.1.0;
      top = p.1.1.1.1.1;
    })
    (λ _. refl)
