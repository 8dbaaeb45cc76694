-- What the reading of whole requests tells.
use Rattle.std.specs.Prelude.{◌≡◌, ℕ, ◌<◌, ◌≤◌, List, ◌++◌, length, take, drop, decimal, slice_index}
use Rattle.plain_world.specs.Words.{longest}
use Rattle.resp_frames.specs.Frames.{header}
use Rattle.resp_frames.specs.RequestRead.{Stands, IsWholeBody, IsRequestAt}
use Rattle.resp_frames.specs.declared.span.Span.{Span}
use Rattle.resp_frames.specs.declared.whole.Numbered.{Numbered}
use Rattle.resp_frames.specs.declared.whole.Ahead.{Ahead}
use Rattle.resp_frames.specs.declared.whole.Ahead.TheVariants as ahead

-- a number before a CR
pub record IsNumberLine (most : ℕ) (bytes : List ℕ) (n : Numbered) : Type 0 where
  pub within : n.len < length bytes
  pub some : 0 < n.number
  pub few : n.number ≤ most
  pub text : take n.len bytes ≡ decimal n.number
  pub end : slice_index bytes n.len ≡ 13

-- a whole header of such a number
pub record IsHeaded (mark most : ℕ) (bytes : List ℕ) (h : Numbered) : Type 0 where
  pub further : 0 < h.len
  pub within : h.len ≤ length bytes
  pub some : 0 < h.number
  pub few : h.number ≤ most
  pub whole : bytes ≡ header mark (decimal h.number) ++ drop h.len bytes

-- a whole bulk string, and where its word stands
pub record IsWholeWord (bytes : List ℕ) (read : ℕ) (word : Span) : Type 0 where
  pub further : read < word.start
  pub within : word.start ≤ length bytes
  pub small : word.len ≤ longest
  pub headed : drop read bytes ≡ header 36 (decimal word.len) ++ drop word.start bytes
  pub body : IsWholeBody (drop word.start bytes) word.len

abbrev pub ReadsAhead : List ℕ → List Span → Ahead → Type 0
ReadsAhead bytes spans (ahead.Request end) = IsRequestAt bytes end spans
ReadsAhead bytes spans (ahead.Rest p) = Stands bytes p.read spans p.due
