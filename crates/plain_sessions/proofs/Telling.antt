-- Units tell their sessions and what is told.
use Rattle.std.proofs.Common.{◌≡◌, ℕ, ◌<◌, ◌^◌, List, ◌++◌, length, sym, ap, ◌∙◌, append_assoc}
use Rattle.std.proofs.lemmas.List.{append_cancel_left}
use Rattle.byteorder.specs.Endian.{little_bytes, little_number}
use Rattle.byteorder.specs.Numbers.{little_number-reads_back}
use Rattle.plain_world.proofs.Lines.{same_length}
use Rattle.plain_sessions.specs.Units.{unit}
use Rattle.plain_sessions.specs.Laws.{UnitsAreApart}

-- a number at the front is told, and so is what stands behind it
number_apart : (n x y : ℕ) (A B : List ℕ) → x < 256 ^ n → y < 256 ^ n → little_bytes n x ++ A ≡ little_bytes n y ++ B → (x ≡ y) × (A ≡ B)
number_apart n x y A B p q e =
    let same : x ≡ y = sym (little_number-reads_back n x A p) ∙ ap (little_number n) e ∙ little_number-reads_back n y B q in
    (same, append_cancel_left (little_bytes n y) A B (ap (λ z. little_bytes n z ++ A) (sym same) ∙ e))

unit_first : (session : ℕ) (told behind : List ℕ) → unit session told ++ behind ≡ little_bytes 2 session ++ (little_bytes 8 (length told) ++ (told ++ behind))
unit_first session told behind =
    append_assoc (little_bytes 2 session) (little_bytes 8 (length told) ++ told) behind ∙ ap (λ l. little_bytes 2 session ++ l) (append_assoc (little_bytes 8 (length told)) told behind)

pub units_apart : UnitsAreApart
units_apart session session' told told' behind behind' small small' short short' e =
    let f = sym (unit_first session told behind) ∙ e ∙ unit_first session' told' behind' in
    let one = number_apart 2 session session' (little_bytes 8 (length told) ++ (told ++ behind)) (little_bytes 8 (length told') ++ (told' ++ behind')) small small' f in
    let two = number_apart 8 (length told) (length told') (told ++ behind) (told' ++ behind') short short' one.1 in
    let three = same_length told told' behind behind' two.0 two.1 in
    (one.0, three.0, three.1)
