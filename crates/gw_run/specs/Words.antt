-- The words of a command (this project's own).
use Rattle.std.specs.Prelude.{◌≡◌, ◌≢◌, ℕ, ◌<◌, ◌≤◌, Bool, true, ◌||◌, ◌==◌, List, [], ◌∷◌, length, codes, All}
use Rattle.std.specs.Char.{is_ascii_alphanumeric}
use Rattle.gw_depot.specs.Files.{IsName}
use Rattle.gw_run.specs.declared.words.Command.{Command}
use Rattle.gw_run.specs.declared.words.Command.TheVariants.{Run, Check}

-- a letter, a digit, `_`, `-` or `.`
abbrev pub is_name_byte : ℕ → Bool
is_name_byte b = is_ascii_alphanumeric b || b == 95 || b == 45 || b == 46

-- a file's name: 1 to 64 letters, digits, `_`, `-` and `.`, and neither `.` nor `..`
pub record IsFileName (name : List ℕ) : Type 0 where
  pub some : 0 < length name
  pub short : length name ≤ 64
  pub spelled : All (λ b. is_name_byte b ≡ true) name
  pub not_here : name ≢ codes "."
  pub not_above : name ≢ codes ".."

-- the words `run CONFIG REPORT`, with two names that differ
pub record IsRun (words : List (List ℕ)) (config report : List ℕ) : Type 0 where
  pub shape : words ≡ codes "run" ∷ config ∷ report ∷ []
  pub config_name : IsFileName config
  pub report_name : IsFileName report
  pub differ : config ≢ report

-- the words `check CONFIG`
pub record IsCheck (words : List (List ℕ)) (config : List ℕ) : Type 0 where
  pub shape : words ≡ codes "check" ∷ config ∷ []
  pub config_name : IsFileName config

-- the words have no shape of a command
abbrev pub AreShapeless : List (List ℕ) → Type 0
AreShapeless words = ((config report : List ℕ) → ¬ IsRun words config report) × ((config : List ℕ) → ¬ IsCheck words config)

-- the words ask for this command
abbrev pub IsCommand : List (List ℕ) → Command → Type 0
IsCommand words (Run files) = IsRun words files.config.now files.report.now
IsCommand words (Check config) = IsCheck words config.now

-- the command's files have names
abbrev pub HasNames : Command → Type 0
HasNames (Run files) = IsName files.config.now × IsName files.report.now
HasNames (Check config) = IsName config.now
