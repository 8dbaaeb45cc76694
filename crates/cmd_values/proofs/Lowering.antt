-- A string is lifted, changed and lowered again.
use Rattle.std.proofs.Common.{◌≡◌, ℕ, List, [], ◌++◌, Option, Some, None, refl, sym, ap, subst, ◌∙◌}
use Rattle.blocks.specs.declared.BlockRef.{BlockRef}
use Rattle.blocks.specs.Blocks.{Blocks, Changes}
use Rattle.string_object.specs.declared.text.Text.{Text}
use Rattle.string_object.specs.Text.{text_bytes, text_refs}
use Rattle.plain_world.specs.Worlds.{Str, Entry, look, put, live, deadline_of}
use Rattle.plain_world.specs.Worlds as model
use Rattle.plain_model.specs.StringSteps.{change}
use Rattle.plain_model.specs.declared.ctx.Ctx.{Ctx}
use Rattle.keyspace.specs.declared.value.Value.TheVariants as values
use Rattle.keyspace.specs.Calls.{Lifted}
use Rattle.keyspace.specs.Values.{value_of, value_refs, IsText}
use Rattle.keyspace.specs.Databases.{Bases, means}
use Rattle.keyspace.specs.Sound.{IsIntactWith, Sound, SoundBeside}
use Rattle.held.specs.Calls.{HasOnly}
use Rattle.keyspace.specs.Calls.{Lifts, IsPlace, AreParts}
use Rattle.keyspace.specs.Commands.{seen}
use Rattle.keyspace.specs.Scopes.{one_key, Within}
use Rattle.keyspace.proofs.Uses.{lower_intact, lower_sound, lower_has, lower_within, lower_means}
use Rattle.cmd_values.specs.Found.{Becomes, IsThere, IsString}

-- the string of a value, and of what stands at a key
abbrev value_string : model.Value → List ℕ
value_string (Str bytes) = bytes
value_string other = []

abbrev string_of : Option Entry → List ℕ
string_of None = []
string_of (Some entry) = value_string entry.value

module _ (at : Ctx) (old mid : Bases) (m own after : Blocks) (key : List ℕ) (lifted : Lifted) (text changed : Text) (is : lifted.value ≡ values.Text text) (same : own ≡ m)
    (lifts : Lifts old mid m at.db key at.moment lifted) (sound : SoundBeside mid m (value_refs m lifted.value ++ [])) (p : Changes own after (text_refs text) (text_refs changed)) where
  abbrev lowered : Lifted
  lowered = record { db = lifted.db; item = lifted.item; value = values.Text changed }

  changes : Changes m after (value_refs m lifted.value) (value_refs after lowered.value)
  changes = subst (λ b. Changes b after (value_refs m lifted.value) (text_refs changed)) same (subst (λ v. Changes own after (value_refs m v) (text_refs changed)) (sym is) p)

  pub text_intact : IsIntactWith mid after (values.Text changed)
  text_intact = lower_intact old mid m after at.db at.moment key lifted lowered [] lifts sound changes refl refl tt

  module _ (new : Bases) (later : Blocks) (stays : later ≡ after) where
    pub text_sound : ((all out : List BlockRef) → SoundBeside mid after all → AreParts all (text_refs changed) out → SoundBeside new after out) → Sound new later
    text_sound clause = subst (λ b. Sound new b) (sym stays) (lower_sound old mid m after at.db at.moment key lifted lowered [] lifts sound changes refl refl new clause)

    -- from the clauses `within` of `lift` and `lower`
    pub text_within : Within (one_key at.db key) old mid m m →
        ((k : List ℕ) (deadline : Option ℕ) → IsPlace mid after lifted.db lifted.item k deadline → Within (one_key lifted.db k) mid new after after)
        → Within (one_key at.db key) old new m later
    text_within taken clause = subst (Within (one_key at.db key) old new m) (sym stays)
        (lower_within old mid m after at.db at.moment key lifted lowered [] lifts sound changes refl refl new taken clause)

    -- from the clause `has` of `lower`
    pub text_has : ((k : List ℕ) (deadline : Option ℕ) → IsPlace mid after lifted.db lifted.item k deadline → HasOnly new after lifted.db k (values.Text changed))
        → HasOnly new later at.db key (values.Text changed)
    text_has clause = subst (λ b. HasOnly new b at.db key (values.Text changed)) (sym stays) (lower_has old mid m after at.db at.moment key lifted lowered [] lifts sound changes refl refl new clause)

    pub text_becomes :
        ((k : List ℕ) (deadline : Option ℕ) → IsPlace mid after lifted.db lifted.item k deadline
        → means lifted.db new after ≡ put (means lifted.db mid after) k (record { value = value_of after (values.Text changed); deadline = deadline }))
        → (next : List ℕ → List ℕ) → text_bytes after changed ≡ next (text_bytes own text)
        → Becomes (seen at old m) key next (seen at new later)
    text_becomes clause next e bytes there =
        let world = lower_means old mid m after at.db at.moment key lifted lowered [] lifts sound changes refl refl new clause in
        let deadline : lifts.deadline ≡ deadline_of (look (seen at old m) key) = sym (ap deadline_of lifts.stands) in
        let was : text_bytes own text ≡ bytes = ap (λ b. text_bytes b text) same ∙ ap (λ v. value_string (value_of m v)) (sym is) ∙ sym (ap string_of lifts.stands) ∙ ap string_of there.stands in
        ap (λ b. live (means at.db new b) at.moment) stays ∙ world
        ∙ ap (λ d. put (seen at old m) key (record { value = Str (text_bytes after changed); deadline = d })) deadline
        ∙ ap (λ b. change (seen at old m) key b) (e ∙ ap next was)

-- ---- a value that means a string is one

-- it is a string
string_kind : (m : Blocks) (value : values.the_data) → IsString (value_of m value) → IsText value
string_kind m (values.Text text) is = tt
string_kind m (values.List b) is = absurd is
string_kind m (values.Set b) is = absurd is
string_kind m (values.Hash b) is = absurd is
string_kind m (values.Zset b) is = absurd is
string_kind m (values.Stream b) is = absurd is

-- the value that was lifted from a key where a string stands is one
pub lifted_string : (old mid : Bases) (m : Blocks) (at : Ctx) (key : List ℕ) (lifted : Lifted) → Lifts old mid m at.db key at.moment lifted
    → ((entry : Entry) → look (seen at old m) key ≡ Some entry → IsString entry.value) → IsText lifted.value
lifted_string old mid m at key lifted lifts is = string_kind m lifted.value (is (record { value = value_of m lifted.value; deadline = lifts.deadline }) lifts.stands)

-- the value that was lifted from a key where these bytes stand is a string
pub lifted_there : (old mid : Bases) (m : Blocks) (at : Ctx) (key bytes : List ℕ) (lifted : Lifted) → Lifts old mid m at.db key at.moment lifted → IsThere (seen at old m) key bytes
    → IsText lifted.value
lifted_there old mid m at key bytes lifted lifts there = lifted_string old mid m at key lifted lifts
    (λ entry stands. subst IsString (sym (entry_of there.deadline entry (sym there.stands ∙ stands))) tt)
  where
    value_in : Option Entry → model.Value
    value_in None = Str []
    value_in (Some entry) = entry.value

    entry_of : (deadline : Option ℕ) (entry : Entry) → Some (record { value = Str bytes; deadline = deadline }) ≡ Some entry → entry.value ≡ Str bytes
    entry_of deadline entry same = sym (ap value_in same)
