-- A whole file, from the making of its name on.
use Rattle.std.proofs.Common.{◌≡◌, ℕ, ◌<◌, ◌^◌, List, [], ◌++◌, Option, None, Some, Ok, Err, subst, ◌∙◌}
use Rattle.std.proofs.lemmas.List.{append-nil}
use Rattle.digests.specs.Crc.{crc_of}
use Rattle.blocks.specs.Blocks.{Blocks}
use Rattle.plain_world.specs.Worlds.{World, new_world}
use Rattle.keyspace.specs.Databases.{Bases}
use Rattle.keyspace.specs.Sound.{IsArranged}
use Rattle.outside.specs.Counts.{Rose}
use Rattle.outside.specs.Files.{Files, ShelfSeen, Has, IsMade, KeepsOthers, Makes, Keeps}
use Rattle.rdb_grammar.specs.Files.{IsFile, file_world}
use Rattle.rdb_parts.specs.declared.pen.Pen.{Pen}
use Rattle.rdb_parts.specs.Shelves.{PutsAll, Loses}
use Rattle.rdb_parts.specs.Pens.{gathered, Adds, Closes}
use Rattle.rdb_parts.specs.Words.{header_word, ended, whole_word}
use Rattle.rdb_parts.specs.Leading.{between}
use Rattle.rdb_parts.proofs.Shelved.{all_then, loses_then, others_then, kept_all, kept_lost}
use Rattle.rdb_parts.proofs.Penned.{adds_then, closes}
use Rattle.rdb_parts.proofs.Led.{file_is}
use Rattle.rdb_writer.specs.Saving.{saved, Saves, IsPut, HasNow, IsSaved}
use Rattle.rdb_writer.proofs.Saved.{nothing_saved, all_saved}

-- the header, all databases, the end and the sum are a file of the world
pub file_put : (bases : Bases) (blocks : Blocks) (moment : ℕ) → IsArranged bases blocks → (o m n q : ShelfSeen) (first mid last : Pen) (word : List ℕ) → gathered first ≡ [] → first.sum ≡ 0
    → Adds o m first mid header_word → Adds m n mid last word → Saves bases blocks moment 0 0 0 16 0 0 word
    → Closes {T = Unit {0}} {E = Unit {0}} n q last (Ok tt) → (bytes : List ℕ) × PutsAll o q bytes × IsFile bytes moment (saved bases blocks moment)
file_put bases blocks moment arranged o m n q first mid last word none zero head items saves close =
    let all = adds_then o m n first mid last header_word word head items in
    let puts = closes o n q first last (header_word ++ word) none zero all close.0 in
    let fits : crc_of 0 (ended (header_word ++ word)) < 2 ^ 64 = subst (λ s. s < 2 ^ 64) puts.1 close.1 in
    let made = saves new_world (nothing_saved bases blocks moment arranged) in
    let file : IsFile (whole_word (header_word ++ word)) moment (file_world (between made.0)) = file_is moment (between made.0) word made.2 fits in
    (whole_word (header_word ++ word), puts.0, subst (λ w. IsFile (whole_word (header_word ++ word)) moment w) (all_saved bases blocks moment arranged made.0 made.1) file)

has_now : (o m n : Files) (made : Option (List ℕ)) (name bytes : List ℕ) → KeepsOthers o m name → IsMade m made name
    → (made ≡ Some name → Has m name [] → Has n name bytes) → HasNow o n name bytes
has_now None m n made name bytes k i grown = tt
has_now (Some o) None n made name bytes k i grown = absurd k
has_now (Some o) (Some m) n made name bytes k i grown = grown i.0 i.1

others_kept : (o m n : Files) (made : Option (List ℕ)) (name : List ℕ) → KeepsOthers o m name → IsMade m made name → (made ≡ Some name → KeepsOthers m n name) → KeepsOthers o n name
others_kept None m n made name k i others = tt
others_kept (Some o) None n made name k i others = absurd k
others_kept (Some o) (Some m) n made name k i others = others_then (Some o) (Some m) n name k (others i.0)

-- what was put is kept, or the shelf fails there

pub file_kept : {E : Type 0} (m n p : ShelfSeen) (moment : ℕ) (world : World) → IsPut m n moment world → Keeps {E = E} n p (Ok tt) → IsPut m p moment world
file_kept m n p moment world f k = (f.0, subst (λ l. PutsAll m p l) (append-nil f.0) (all_then m n p f.0 [] f.1 (kept_all n p k)), f.2)

pub file_lost : {E : Type 0} (m n p : ShelfSeen) (moment : ℕ) (world : World) (fault : E) → IsPut m n moment world → Keeps n p (Err fault) → Loses m p
file_lost m n p moment world fault f k = loses_then m n p f.0 f.1 (kept_lost n p fault k)

-- the name is made, and a file of the world is put, or the shelf fails there
module _ {D : Type 0} (o m n : ShelfSeen) (name : List ℕ) (makes : Makes {E = D} o m name (Ok tt)) where
  pub lost_rose : Loses m n → Rose o.faults n.faults
  lost_rose q = subst (λ f. Rose f n.faults) makes.tally.ok q.rose

  pub lost_keeps : Loses m n → KeepsOthers o.files n.files name
  lost_keeps q = others_kept o.files m.files n.files m.made name makes.others makes.made (q.others name)

  module _ (moment : ℕ) (world : World) (q : IsPut m n moment world) where
    pub file_saved : IsSaved o.files n.files name moment world × (n.faults ≡ o.faults)
    file_saved = (
      record {
        bytes = q.0;
        has = has_now o.files m.files n.files m.made name q.0 makes.others makes.made (λ made has. q.1.grown name [] made has);
        file = q.2;
      },
      q.1.faults ∙ makes.tally.ok,
    )

    pub file_keeps : KeepsOthers o.files n.files name
    file_keeps = others_kept o.files m.files n.files m.made name makes.others makes.made (q.1.others name)
