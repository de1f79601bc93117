-- Message files, and the first fault of a text that is none.
use Rattle.std.specs.Prelude.{◌≡◌, ◌≢◌, ℕ, ◌+◌, ◌<◌, ◌≤◌, List, [], ◌∷◌, ◌++◌, length, All, flat_map}
use Rattle.audit.specs.declared.message_file.TheConstants.{MAX_LINE, MAX_LINES, LINE_FEED}
use Rattle.audit.specs.declared.faults.ReadFault.{ReadFault}
use Rattle.audit.specs.declared.faults.ReadFault.TheVariants.{NoMemory, Device, LineTooLong, NoFinalNewline, TooMany, TooLong}

-- a line: at most 1,024 bytes, none of them a line feed
pub record IsLine (line : List ℕ) : Type 0 where
  pub short : length line ≤ MAX_LINE
  pub plain : All (λ b. b ≢ LINE_FEED) line

-- these lines, each ended by a line feed
abbrev pub text_of : List (List ℕ) → List ℕ
text_of lines = flat_map (λ line. line ++ LINE_FEED ∷ []) lines

-- the text is a message file of these lines
pub record IsMessageFile (text : List ℕ) (lines : List (List ℕ)) : Type 0 where
  pub whole : text ≡ text_of lines
  pub each : All IsLine lines
  pub few : length lines ≤ MAX_LINES

-- what a fault needs of the lines that have ended, the line that has begun, and the bytes that follow
abbrev pub Shows : ReadFault → List (List ℕ) → List ℕ → List ℕ → Type 0
Shows NoMemory lines begun more = Unit {0}
Shows Device lines begun more = more ≡ []
Shows (LineTooLong n) lines begun more = (n ≡ length lines + 1) × (length lines < MAX_LINES) × (length begun ≡ MAX_LINE) × (b : ℕ) × (rest : List ℕ) × (b ≢ LINE_FEED) × (more ≡ b ∷ rest)
Shows NoFinalNewline lines begun more = (0 < length begun) × (length lines < MAX_LINES) × (more ≡ [])
Shows TooMany lines begun more = (length lines ≡ MAX_LINES) × (begun ≡ []) × (0 < length more)
Shows TooLong lines begun more = more ≡ []

-- the first fault of these bytes: up to it stand whole lines and the beginning of one
pub record IsFirstFault (fault : ReadFault) (bytes : List ℕ) : Type 0 where
  pub lines : List (List ℕ)
  pub begun : List ℕ
  pub more : List ℕ
  pub whole : bytes ≡ text_of lines ++ begun ++ more
  pub each : All IsLine lines
  pub last : IsLine begun
  pub few : length lines ≤ MAX_LINES
  pub shown : Shows fault lines begun more
