-- What the octets of a line ask for.
use Rattle.std.specs.Prelude.{◌≡◌, ◌≢◌, ℕ, List, [], ◌∷◌, Some, None, Option, Err, Result, IsOk, slice_index, ⊤}
use Rattle.std.specs.Iterator.{DrainsIf}
use Rattle.std.specs.Str.{IsUtf8}
use Rattle.std.specs.Str.Iter.{split_whitespace_rest, split_whitespace_steps}
use Rattle.std.specs.declared.str.SplitWhitespace.{SplitWhitespace}
use Rattle.script.specs.Forms.{Words, ReadsCall, ReadsCut, ReadsDeed, ReadsMemory, ReadsProbing, ReadsQuestion, ReadsSetting, AnyForm}
use Rattle.script.specs.declared.line.Line.{Line}
use Rattle.script.specs.declared.line.Line.TheVariants.{Memory, Setting, Probing, Call}
use Rattle.script.specs.declared.wrong.Wrong.{Wrong}
use Rattle.script.specs.declared.wrong.Wrong.TheVariants.{NotText}

-- What the words of a line give.
pub record ReadsLine (ws : Words) (r : Result Line Wrong) : Type 0 where
  pub memory : ReadsMemory ws r Memory
  pub setting : ReadsSetting ws r Setting
  pub probing : ReadsProbing ws r Probing
  pub deed : ReadsDeed ws r Call
  pub question : ReadsQuestion ws r Call
  pub call : ReadsCall ws r Call
  pub cut : ReadsCut ws r
  pub others : IsOk r → AnyForm ws

-- The words of a text, between white space.
abbrev pub IsWordsOf : List ℕ → Words → Type 0
IsWordsOf text ws = (it : SplitWhitespace) × (split_whitespace_rest it ≡ text) × DrainsIf split_whitespace_steps ⊤ it ws

-- A line without a word is silent.
abbrev pub Speaks : Words → Option (Result Line Wrong) → Type 0
Speaks [] r = r ≡ None
Speaks (w ∷ ws) r = (line : Result Line Wrong) × (r ≡ Some line) × ReadsLine (w ∷ ws) line

-- A line that begins with # is silent, and one that is no text is no call.
pub record Asks (octets : List ℕ) (r : Option (Result Line Wrong)) : Type 0 where
  pub comment : slice_index octets 0 ≡ 35 → r ≡ None
  pub no-text : slice_index octets 0 ≢ 35 → ¬ (IsUtf8 octets) → r ≡ Some (Err NotText)
  pub text : slice_index octets 0 ≢ 35 → IsUtf8 octets → (ws : Words) × IsWordsOf octets ws × Speaks ws r
