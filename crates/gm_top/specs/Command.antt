-- The commands, the words that ask for them, and the bytes that they are given.
--   texts words                 the bytes of each word of a command line
--   IsCommand command words     the words ask for a command
--   AskForNone words            they ask for no command
--   CanBeAsked command          some words ask for the command
--   reads command               the command reads an input
--   Reads words                 so does a command that the words ask for
--   input_of command left       the bytes that a command is given, where they are told
use Rattle.std.specs.Prelude.{◌≡◌, ◌<◌, ◌≤◌, ◌^◌, ℕ, Bool, true, false, List, [], ◌∷◌, Option, Some, codes, decimal, map, string_bytes, ⊤}
use Rattle.std.specs.declared.string.String.{String}
use Rattle.gm_top.specs.declared.commands.Command.{Command}
use Rattle.gm_top.specs.declared.commands.Command.TheVariants.{Translate, Generate, Sample}

-- the bytes of each word of a command line
abbrev pub texts : {Z : Type 0} → List (String Z) → List (List ℕ)
texts words = map string_bytes words

-- the words ask for a command: `translate`, `generate` and the decimal of a seed below 2^64, or `sample` and that of a
-- number from 1 to 100
abbrev pub IsCommand : Command → List (List ℕ) → Type 0
IsCommand Translate words = words ≡ codes "translate" ∷ []
IsCommand (Generate seed) words = (seed < 2 ^ 64) × (words ≡ codes "generate" ∷ decimal seed ∷ [])
IsCommand (Sample k) words = (1 ≤ k) × (k ≤ 100) × (words ≡ codes "sample" ∷ decimal k ∷ [])

-- the words ask for no command
abbrev pub AskForNone : List (List ℕ) → Type 0
AskForNone words = (command : Command) → ¬ IsCommand command words

-- some words ask for it: its number is in its range
abbrev pub CanBeAsked : Command → Type 0
CanBeAsked Translate = ⊤
CanBeAsked (Generate seed) = seed < 2 ^ 64
CanBeAsked (Sample k) = (1 ≤ k) × (k ≤ 100)

-- all but `sample` read an input
abbrev pub reads : Command → Bool
reads Translate = true
reads (Generate seed) = true
reads (Sample k) = false

-- the words ask for a command that reads an input
abbrev pub Reads : List (List ℕ) → Type 0
Reads words = (command : Command) × IsCommand command words × (reads command ≡ true)

-- the bytes that a command is given, where they are told: those that the source has left, or none where it reads no input
abbrev pub input_of : Command → Option (List ℕ) → Option (List ℕ)
input_of Translate left = left
input_of (Generate seed) left = left
input_of (Sample k) left = Some []
