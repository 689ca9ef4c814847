-- The command line: the command set as `clap` defines one, and what its words ask for.
use Rattle.std.specs.Prelude.{◌≡◌, ◌≢◌, ◌≤◌, ◌⊎◌, ◌&&◌, Bool, true, false, codes, Option, Some, None, IsSome, IsSomeAnd, option_and_then, unwrap_or, ℕ, List}
use Rattle.std.specs.Prelude.{[], ◌∷◌, Result, Ok, Err, fold, if◌then◌else◌, length, map, nat_le, option_map}
use Rattle.std.specs.Str.Parse.{digits_value, without_leading_plus}
use Rattle.clap.specs.ValueTests.{is_numeral}
use Rattle.clap.specs.Words.{App, IsAmong, Kinds, Row, Rule, Text, all_of, first_of, new_app, new_rule, one_of, subcommand_of, takes, with_rule}
use Rattle.clap.specs.Words.{with_subcommand}
use Rattle.clap.specs.declared.builder.action.ArgAction.TheVariants.{Append}
use Rattle.clap.specs.declared.builder.value_parser.ValueParser.TheVariants.{Unsigned}
use Rattle.clap.specs.declared.error.kind.ErrorKind.{ErrorKind}
use Rattle.clap.specs.declared.error.kind.ErrorKind.TheVariants.{DisplayHelp, DisplayVersion, OutOfMemory}
use Rattle.zl_command.specs.declared.command.Asked.{Asked}
use Rattle.zl_command.specs.declared.command.Asked.TheVariants as asked
use Rattle.zl_command.specs.declared.command.Task.{Task}
use Rattle.zl_command.specs.declared.command.Task.TheVariants.{Assemble, Check, Explore, Input, Step, Replay, Run}
use Rattle.zl_command.specs.declared.command.WordFault.{WordFault}
use Rattle.zl_command.specs.declared.command.WordFault.TheVariants.{Usage, NoMemory}

-- a word that must be there, told by its place
abbrev pub needed : Text → Rule
needed word = record (new_rule word) { required = true }

-- an option that must be there, whose value is a number from least to most
abbrev pub numbered : Text → ℕ → ℕ → Rule
numbered word least most = record (needed word) {
  long = Some word;
  value_names = 1;
  parser = Some (Unsigned least most);
}

-- an option that may be left out
abbrev pub optional : Rule → Rule
optional rule = record rule { required = false }

-- an option that may stand several times, and each time takes a word
abbrev pub repeated : Text → Rule
repeated word = record (new_rule word) {
  long = Some word;
  value_names = 1;
  action = Some Append;
}

-- an option that may stand once, and takes a word
abbrev pub single : Text → Rule
single word = record (new_rule word) { long = Some word; value_names = 1 }

-- a command of this name, whose words must all be there
abbrev pub command_of : Text → List Text → App
command_of name words = fold (λ made word. with_rule made (needed word)) (new_app name) words

-- the program has a version, and its own name isn't among the words
abbrev pub program : App
program = record {
  top = record (new_app (codes "zlab")).top { no_binary_name = true; has_version = true };
  subs = [];
}

-- asm IN OUT
abbrev pub assembling : App
assembling = command_of (codes "asm") (codes "IN" ∷ codes "OUT" ∷ [])

-- check IMAGE
abbrev pub checking : App
checking = command_of (codes "check") (codes "IMAGE" ∷ [])

-- step SCENARIO SCHEDULE
abbrev pub stepping : App
stepping = command_of (codes "step") (codes "SCENARIO" ∷ codes "SCHEDULE" ∷ [])

-- replay SCENARIO TRACE
abbrev pub replaying : App
replaying = command_of (codes "replay") (codes "SCENARIO" ∷ codes "TRACE" ∷ [])

-- run SCENARIO --workers N --limit M [--burst K]
abbrev pub running : App
running = fold with_rule (command_of (codes "run") (codes "SCENARIO" ∷ []))
    (numbered (codes "workers") 1 64 ∷ numbered (codes "limit") 0 1000000 ∷ optional (numbered (codes "burst") 1 1000000) ∷ [])

-- explore SCENARIO [--worlds N] [--bad WORDS].. [--part K/N] [--from D]
abbrev pub exploring : App
exploring = fold with_rule (command_of (codes "explore") (codes "SCENARIO" ∷ []))
    (optional (numbered (codes "worlds") 1 1000000000) ∷ repeated (codes "bad") ∷ single (codes "part")
    ∷ optional (numbered (codes "from") 0 1000) ∷ [])

-- the command set: no words, or those of one of the commands
abbrev pub commands : App
commands = fold (λ made command. with_subcommand made command.top) program
    (assembling ∷ checking ∷ stepping ∷ replaying ∷ running ∷ exploring ∷ [])

-- clap finds a value of this name
abbrev pub HasValue : List Row → Text → Type 0
HasValue rows name = IsSome (first_of name rows)

-- the number that a text has in decimal digits, where a + may stand first
abbrev pub number : Text → Option ℕ
number text = if is_numeral (without_leading_plus text) then Some (digits_value 10 (without_leading_plus text)) else None

-- the number that clap reads of this name
abbrev pub number_of : Text → List Row → Option ℕ
number_of name rows = option_and_then number (one_of name rows)

-- clap reads a number of this name, from least to most
abbrev pub HasNumber : List Row → Text → ℕ → ℕ → Type 0
HasNumber rows name least most = IsSomeAnd (number_of name rows) (λ n. (least ≤ n) × (n ≤ most))

-- clap finds nothing of this name, or reads a number from least to most
abbrev pub MayHaveNumber : List Row → Text → ℕ → ℕ → Type 0
MayHaveNumber rows name least most = (one_of name rows ≡ None) ⊎ HasNumber rows name least most

-- the words of each `--bad`, in the order in which they stand
abbrev pub bad_of : List Row → List Text
bad_of rows = unwrap_or (all_of (codes "bad") rows) []

-- what clap finds has `--bad` at most 16 times
abbrev pub is_within : Option (Text × List Row) → Bool
is_within None = true
is_within (Some found) = nat_le (length (bad_of found.1)) 16

-- the words are accepted: clap takes them for the command set, and they have `--bad` at most 16 times
abbrev pub are_accepted : List Text → Bool
are_accepted words = takes commands words && is_within (subcommand_of commands words)

-- the command of this name has its values
abbrev pub HasItsValues : Text → List Row → Type 0
HasItsValues name rows =
    ((name ≡ codes "asm") × HasValue rows (codes "IN") × HasValue rows (codes "OUT"))
    ⊎ (((name ≡ codes "check") × HasValue rows (codes "IMAGE"))
    ⊎ (((name ≡ codes "step") × HasValue rows (codes "SCENARIO") × HasValue rows (codes "SCHEDULE"))
    ⊎ (((name ≡ codes "replay") × HasValue rows (codes "SCENARIO") × HasValue rows (codes "TRACE"))
    ⊎ (((name ≡ codes "run") × HasValue rows (codes "SCENARIO") × HasNumber rows (codes "workers") 1 64
    × HasNumber rows (codes "limit") 0 1000000 × MayHaveNumber rows (codes "burst") 1 1000000)
    ⊎ ((name ≡ codes "explore") × HasValue rows (codes "SCENARIO") × MayHaveNumber rows (codes "worlds") 1 1000000000
    × MayHaveNumber rows (codes "from") 0 1000)))))

-- clap finds no subcommand, or one of the command set with its values
abbrev pub HasValues : Option (Text × List Row) → Type 0
HasValues None = Unit {0}
HasValues (Some found) = HasItsValues found.0 found.1

-- the subcommand that clap finds, with its values, asks for the task
abbrev pub AsksFor : Option (Text × List Row) → Task → Type 0
AsksFor None Input = Unit {0}
AsksFor (Some found) (Assemble text image) = (found.0 ≡ codes "asm")
    × (first_of (codes "IN") found.1 ≡ Some text.now)
    × (first_of (codes "OUT") found.1 ≡ Some image.now)
AsksFor (Some found) (Check image) = (found.0 ≡ codes "check")
    × (first_of (codes "IMAGE") found.1 ≡ Some image.now)
AsksFor (Some found) (Step scenario schedule) = (found.0 ≡ codes "step")
    × (first_of (codes "SCENARIO") found.1 ≡ Some scenario.now)
    × (first_of (codes "SCHEDULE") found.1 ≡ Some schedule.now)
AsksFor (Some found) (Replay scenario trace) = (found.0 ≡ codes "replay")
    × (first_of (codes "SCENARIO") found.1 ≡ Some scenario.now)
    × (first_of (codes "TRACE") found.1 ≡ Some trace.now)
AsksFor (Some found) (Run scenario workers limit burst) = (found.0 ≡ codes "run")
    × (first_of (codes "SCENARIO") found.1 ≡ Some scenario.now)
    × (number_of (codes "workers") found.1 ≡ Some workers) × (1 ≤ workers) × (workers ≤ 64)
    × (number_of (codes "limit") found.1 ≡ Some limit) × (limit ≤ 1000000)
    × (burst ≡ unwrap_or (number_of (codes "burst") found.1) 256) × (1 ≤ burst) × (burst ≤ 1000000)
AsksFor (Some found) (Explore scenario worlds bad part from) = (found.0 ≡ codes "explore")
    × (first_of (codes "SCENARIO") found.1 ≡ Some scenario.now)
    × (worlds ≡ unwrap_or (number_of (codes "worlds") found.1) 1000000) × (1 ≤ worlds) × (worlds ≤ 1000000000)
    × (map (λ words. words.now) bad.items ≡ bad_of found.1) × (length bad.items ≤ 16)
    × (option_map (λ text. text.now) part ≡ first_of (codes "part") found.1)
    × (from ≡ unwrap_or (number_of (codes "from") found.1) 6) × (from ≤ 1000)
AsksFor _ _ = ⊥

-- of an answer that is a task, the task has the fact
abbrev pub IfTask : (Task → Type 0) → Asked → Type 0
IfTask P (asked.Task task) = P task
IfTask P (asked.Text text) = Unit {0}

-- where an answer is a text, the fact holds
abbrev pub IfText : Type 0 → Asked → Type 0
IfText P (asked.Text text) = P
IfText P (asked.Task task) = Unit {0}

-- a text is answered, unless memory is refused
abbrev pub GivesText : Result Asked WordFault → Type 0
GivesText (Ok (asked.Text text)) = Unit {0}
GivesText (Ok (asked.Task task)) = ⊥
GivesText (Err fault) = fault ≡ NoMemory

-- clap answers with its text: the help or the version
abbrev pub IsShown : ErrorKind → Type 0
IsShown kind = (kind ≡ DisplayHelp) ⊎ (kind ≡ DisplayVersion)

-- clap's error of this kind is answered with its text where that is shown, and else is a fault
abbrev pub AnswersError : ErrorKind → Result Asked WordFault → Type 0
AnswersError kind (Ok (asked.Text text)) = IsShown kind
AnswersError kind (Ok (asked.Task task)) = ⊥
AnswersError kind (Err fault) = fault ≡ Usage → (kind ≢ OutOfMemory) × (IsShown kind → ⊥)

-- clap may answer with the help or with the version
abbrev pub MayAskForHelp : Kinds → Type 0
MayAskForHelp kinds = IsAmong DisplayHelp kinds ⊎ IsAmong DisplayVersion kinds
