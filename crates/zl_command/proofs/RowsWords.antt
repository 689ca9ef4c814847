-- Command lines, as clap's definitions read them.
use Rattle.zl_command.proofs.Common.{List, None, Option, Some, Text, [], are_accepted, bad_of, codes, commands, false, fault_of, first_of, is_simple_and_free}
use Rattle.zl_command.proofs.Common.{number_of, option_map, refl, subcommand_of, suc, takes, true, zero, ℕ, ◌++◌, ◌∷◌, ◌≡◌}
use Rattle.clap.specs.declared.error.kind.ErrorKind.TheVariants as kind
use Rattle.clap.proofs.OnLiterals.{clap_on_literals}

abbrev files : List Text → Option (Text × Option Text × Option Text)
files words = option_map (λ found. (found.0, first_of (codes "IN") found.1, first_of (codes "OUT") found.1)) (subcommand_of commands words)

abbrev image : List Text → Option (Text × Option Text)
image words = option_map (λ found. (found.0, first_of (codes "IMAGE") found.1)) (subcommand_of commands words)

abbrev turns : List Text → Option (Text × Option Text × Option Text)
turns words = option_map (λ found. (found.0, first_of (codes "SCENARIO") found.1, first_of (codes "SCHEDULE") found.1)) (subcommand_of commands words)

abbrev history : List Text → Option (Text × Option Text × Option Text)
history words = option_map (λ found. (found.0, first_of (codes "SCENARIO") found.1, first_of (codes "TRACE") found.1)) (subcommand_of commands words)

abbrev threads : List Text → Option (Text × Option Text × Option ℕ × Option ℕ × Option ℕ)
threads words = option_map (λ found. (
  found.0,
  first_of (codes "SCENARIO") found.1,
  number_of (codes "workers") found.1,
  number_of (codes "limit") found.1,
  number_of (codes "burst") found.1,
)) (subcommand_of commands words)

abbrev orders : List Text → Option (Text × Option Text × Option ℕ)
orders words =
    option_map (λ found. (found.0, first_of (codes "SCENARIO") found.1, number_of (codes "worlds") found.1)) (subcommand_of commands words)

-- the words of each `--bad` of a search, in order
abbrev bads : List Text → Option (List Text)
bads words = option_map (λ found. bad_of found.1) (subcommand_of commands words)

-- the words are accepted, for a search over the scenario `a`, over so many worlds if it is said, for these patterns
abbrev SearchesFor : List Text → Option ℕ → List Text → Type 0
SearchesFor words worlds wanted =
    (are_accepted words ≡ true) × (orders words ≡ Some (codes "explore", Some (codes "a"), worlds)) × (bads words ≡ Some wanted)

abbrev times : ℕ → List Text → List Text
times zero words = []
times (suc n) words = words ++ times n words

-- a search with so many patterns
abbrev with_so_many : ℕ → List Text
with_so_many n = codes "explore" ∷ codes "a" ∷ times n (codes "--bad=x" ∷ [])

abbrev with_worlds : Text → List Text
with_worlds worlds = codes "explore" ∷ codes "a" ∷ codes "--worlds" ∷ worlds ∷ []

-- the words are taken, for a search over the scenario `a`, over so many worlds if it is said
abbrev SearchesBy : List Text → Option ℕ → Type 0
SearchesBy words worlds = (takes commands words ≡ true) × (orders words ≡ Some (codes "explore", Some (codes "a"), worlds))

abbrev with_turns : Text → List Text
with_turns turns = codes "explore" ∷ codes "a" ∷ codes "--from" ∷ turns ∷ []

-- the text of `--part` of a search, and how many turns tell it, if these are said
abbrev shares : List Text → Option (Option Text × Option ℕ)
shares words = option_map (λ found. (first_of (codes "part") found.1, number_of (codes "from") found.1)) (subcommand_of commands words)

-- the words are accepted, for a search over the scenario `a`, of this part that so many turns tell, if these are said
abbrev SearchesIn : List Text → Option Text → Option ℕ → Type 0
SearchesIn words part from =
    (are_accepted words ≡ true) × (orders words ≡ Some (codes "explore", Some (codes "a"), None)) × (shares words ≡ Some (part, from))

abbrev with_both : Text → Text → List Text
with_both workers limit = codes "run" ∷ codes "a" ∷ codes "--workers" ∷ workers ∷ codes "--limit" ∷ limit ∷ []

abbrev with_all : Text → List Text
with_all burst = with_both (codes "4") (codes "1000") ++ (codes "--burst" ∷ burst ∷ [])

-- the words are taken, for a run of the scenario `a` on so many threads up to this limit, with bursts of this length if it is said
abbrev RunsBy : List Text → ℕ → ℕ → Option ℕ → Type 0
RunsBy words workers limit burst = (takes commands words ≡ true) × (threads words ≡ Some (codes "run", Some (codes "a"), Some workers, Some limit, burst))

abbrev Runs : List Text → ℕ → ℕ → Type 0
Runs words workers limit = RunsBy words workers limit None

clap_defines_them : is_simple_and_free commands ≡ true
clap_defines_them = refl

no_words : (takes commands [] ≡ true) × (subcommand_of commands [] ≡ None)
unfolding clap_on_literals
no_words = (refl, refl)

two_files : (takes commands (codes "asm" ∷ codes "a" ∷ codes "b" ∷ []) ≡ true)
    × (files (codes "asm" ∷ codes "a" ∷ codes "b" ∷ []) ≡ Some (codes "asm", Some (codes "a"), Some (codes "b")))
unfolding clap_on_literals
two_files = (refl, refl)

behind_hyphens : files (codes "asm" ∷ codes "--" ∷ codes "-a" ∷ codes "b" ∷ []) ≡ Some (codes "asm", Some (codes "-a"), Some (codes "b"))
unfolding clap_on_literals
behind_hyphens = refl

one_file : fault_of commands (codes "asm" ∷ codes "a" ∷ []) ≡ kind.MissingRequiredArgument ∷ []
unfolding clap_on_literals
one_file = refl

three_files : fault_of commands (codes "asm" ∷ codes "a" ∷ codes "b" ∷ codes "c" ∷ []) ≡ kind.UnknownArgument ∷ []
unfolding clap_on_literals
three_files = refl

an_image : image (codes "check" ∷ codes "a" ∷ []) ≡ Some (codes "check", Some (codes "a"))
unfolding clap_on_literals
an_image = refl

no_image : fault_of commands (codes "check" ∷ []) ≡ kind.MissingRequiredArgument ∷ []
unfolding clap_on_literals
no_image = refl

two_images : fault_of commands (codes "check" ∷ codes "a" ∷ codes "b" ∷ []) ≡ kind.UnknownArgument ∷ []
unfolding clap_on_literals
two_images = refl

a_schedule : turns (codes "step" ∷ codes "a" ∷ codes "b" ∷ []) ≡ Some (codes "step", Some (codes "a"), Some (codes "b"))
unfolding clap_on_literals
a_schedule = refl

no_schedule : fault_of commands (codes "step" ∷ codes "a" ∷ []) ≡ kind.MissingRequiredArgument ∷ []
unfolding clap_on_literals
no_schedule = refl

two_schedules : fault_of commands (codes "step" ∷ codes "a" ∷ codes "b" ∷ codes "c" ∷ []) ≡ kind.UnknownArgument ∷ []
unfolding clap_on_literals
two_schedules = refl

an_unknown_word : fault_of commands (codes "walk" ∷ codes "a" ∷ []) ≡ kind.UnknownArgument ∷ kind.InvalidSubcommand ∷ []
unfolding clap_on_literals
an_unknown_word = refl

asks_help : (fault_of commands (codes "--help" ∷ []) ≡ kind.DisplayHelp ∷ []) × (fault_of commands (codes "asm" ∷ codes "-h" ∷ []) ≡ kind.DisplayHelp ∷ [])
unfolding clap_on_literals
asks_help = (refl, refl)

asks_version : fault_of commands (codes "--version" ∷ []) ≡ kind.DisplayVersion ∷ []
unfolding clap_on_literals
asks_version = refl

a_trace : history (codes "replay" ∷ codes "a" ∷ codes "b" ∷ []) ≡ Some (codes "replay", Some (codes "a"), Some (codes "b"))
unfolding clap_on_literals
a_trace = refl

no_trace : fault_of commands (codes "replay" ∷ codes "a" ∷ []) ≡ kind.MissingRequiredArgument ∷ []
unfolding clap_on_literals
no_trace = refl

on_threads : Runs (with_both (codes "4") (codes "1000")) 4 1000
unfolding clap_on_literals
on_threads = (refl, refl)

limit_first : Runs (codes "run" ∷ codes "--limit" ∷ codes "1000" ∷ codes "--workers" ∷ codes "4" ∷ codes "a" ∷ []) 4 1000
unfolding clap_on_literals
limit_first = (refl, refl)

behind_equals_signs : Runs (codes "run" ∷ codes "--workers=4" ∷ codes "a" ∷ codes "--limit=1000" ∷ []) 4 1000
unfolding clap_on_literals
behind_equals_signs = (refl, refl)

the_least : Runs (with_both (codes "1") (codes "0")) 1 0
unfolding clap_on_literals
the_least = (refl, refl)

the_most : Runs (with_both (codes "64") (codes "1000000")) 64 1000000
unfolding clap_on_literals
the_most = (refl, refl)

a_plus_and_zeros : Runs (with_both (codes "+4") (codes "007")) 4 7
unfolding clap_on_literals
a_plus_and_zeros = (refl, refl)

no_thread : fault_of commands (with_both (codes "0") (codes "1000")) ≡ kind.ValueValidation ∷ []
unfolding clap_on_literals
no_thread = refl

one_thread_too_many : fault_of commands (with_both (codes "65") (codes "1000")) ≡ kind.ValueValidation ∷ []
unfolding clap_on_literals
one_thread_too_many = refl

one_item_too_many : fault_of commands (with_both (codes "4") (codes "1000001")) ≡ kind.ValueValidation ∷ []
unfolding clap_on_literals
one_item_too_many = refl

no_number : (fault_of commands (with_both (codes "four") (codes "1000")) ≡ kind.ValueValidation ∷ [])
    × (fault_of commands (with_both (codes "4") []) ≡ kind.ValueValidation ∷ [])
unfolding clap_on_literals
no_number = (refl, refl)

no_value : fault_of commands (codes "run" ∷ codes "a" ∷ codes "--limit" ∷ codes "1000" ∷ codes "--workers" ∷ []) ≡ kind.InvalidValue ∷ []
unfolding clap_on_literals
no_value = refl

no_workers : fault_of commands (codes "run" ∷ codes "a" ∷ codes "--limit" ∷ codes "1000" ∷ []) ≡ kind.MissingRequiredArgument ∷ []
unfolding clap_on_literals
no_workers = refl

no_limit : fault_of commands (codes "run" ∷ codes "a" ∷ codes "--workers" ∷ codes "4" ∷ []) ≡ kind.MissingRequiredArgument ∷ []
unfolding clap_on_literals
no_limit = refl

workers_twice : fault_of commands (codes "run" ∷ codes "a" ∷ codes "--workers" ∷ codes "4" ∷ codes "--limit" ∷ codes "1000" ∷ codes "--workers=4" ∷ [])
    ≡ kind.ArgumentConflict ∷ []
unfolding clap_on_literals
workers_twice = refl

limit_twice : fault_of commands (codes "run" ∷ codes "a" ∷ codes "--workers" ∷ codes "4" ∷ codes "--limit" ∷ codes "1000" ∷ codes "--limit=9" ∷ [])
    ≡ kind.ArgumentConflict ∷ []
unfolding clap_on_literals
limit_twice = refl

no_scenario : fault_of commands (codes "run" ∷ codes "--workers" ∷ codes "4" ∷ codes "--limit" ∷ codes "1000" ∷ []) ≡ kind.MissingRequiredArgument ∷ []
unfolding clap_on_literals
no_scenario = refl

two_scenarios : fault_of commands (codes "run" ∷ codes "a" ∷ codes "b" ∷ codes "--workers" ∷ codes "4" ∷ codes "--limit" ∷ codes "1000" ∷ [])
    ≡ kind.UnknownArgument ∷ []
unfolding clap_on_literals
two_scenarios = refl

in_bursts : RunsBy (with_all (codes "4096")) 4 1000 (Some 4096)
unfolding clap_on_literals
in_bursts = (refl, refl)

bursts_behind_an_equals_sign : RunsBy (codes "run" ∷ codes "--burst=7" ∷ codes "a" ∷ codes "--limit=1000" ∷ codes "--workers=4" ∷ []) 4 1000 (Some 7)
unfolding clap_on_literals
bursts_behind_an_equals_sign = (refl, refl)

the_shortest_bursts : RunsBy (with_all (codes "1")) 4 1000 (Some 1)
unfolding clap_on_literals
the_shortest_bursts = (refl, refl)

the_longest_bursts : RunsBy (with_all (codes "1000000")) 4 1000 (Some 1000000)
unfolding clap_on_literals
the_longest_bursts = (refl, refl)

no_such_bursts : (fault_of commands (with_all (codes "0")) ≡ kind.ValueValidation ∷ [])
    × (fault_of commands (with_all (codes "1000001")) ≡ kind.ValueValidation ∷ [])
    × (fault_of commands (with_all (codes "18446744073709551616")) ≡ kind.ValueValidation ∷ [])
    × (fault_of commands (with_all (codes "long")) ≡ kind.ValueValidation ∷ [])
    × (fault_of commands (with_all []) ≡ kind.ValueValidation ∷ [])
unfolding clap_on_literals
no_such_bursts = (refl, refl, refl, refl, refl)

bursts_without_a_number : fault_of commands (with_both (codes "4") (codes "1000") ++ (codes "--burst" ∷ [])) ≡ kind.InvalidValue ∷ []
unfolding clap_on_literals
bursts_without_a_number = refl

bursts_twice : fault_of commands (with_all (codes "256") ++ (codes "--burst=256" ∷ [])) ≡ kind.ArgumentConflict ∷ []
unfolding clap_on_literals
bursts_twice = refl

over_all_orders : SearchesBy (codes "explore" ∷ codes "a" ∷ []) None
unfolding clap_on_literals
over_all_orders = (refl, refl)

over_so_many_worlds : SearchesBy (with_worlds (codes "5000")) (Some 5000)
unfolding clap_on_literals
over_so_many_worlds = (refl, refl)

worlds_first : SearchesBy (codes "explore" ∷ codes "--worlds=+07" ∷ codes "a" ∷ []) (Some 7)
unfolding clap_on_literals
worlds_first = (refl, refl)

the_fewest_worlds : SearchesBy (with_worlds (codes "1")) (Some 1)
unfolding clap_on_literals
the_fewest_worlds = (refl, refl)

the_most_worlds : SearchesBy (with_worlds (codes "1000000000")) (Some 1000000000)
unfolding clap_on_literals
the_most_worlds = (refl, refl)

no_such_worlds : (fault_of commands (with_worlds (codes "0")) ≡ kind.ValueValidation ∷ [])
    × (fault_of commands (with_worlds (codes "1000000001")) ≡ kind.ValueValidation ∷ [])
    × (fault_of commands (with_worlds (codes "18446744073709551616")) ≡ kind.ValueValidation ∷ [])
    × (fault_of commands (with_worlds (codes "x")) ≡ kind.ValueValidation ∷ [])
    × (fault_of commands (with_worlds []) ≡ kind.ValueValidation ∷ [])
unfolding clap_on_literals
no_such_worlds = (refl, refl, refl, refl, refl)

worlds_without_a_number : fault_of commands (codes "explore" ∷ codes "a" ∷ codes "--worlds" ∷ []) ≡ kind.InvalidValue ∷ []
unfolding clap_on_literals
worlds_without_a_number = refl

worlds_twice : fault_of commands (with_worlds (codes "7") ++ (codes "--worlds=7" ∷ [])) ≡ kind.ArgumentConflict ∷ []
unfolding clap_on_literals
worlds_twice = refl

nothing_to_search : fault_of commands (codes "explore" ∷ []) ≡ kind.MissingRequiredArgument ∷ []
unfolding clap_on_literals
nothing_to_search = refl

two_to_search : fault_of commands (codes "explore" ∷ codes "a" ∷ codes "b" ∷ []) ≡ kind.UnknownArgument ∷ []
unfolding clap_on_literals
two_to_search = refl

workers_of_a_search : fault_of commands (codes "explore" ∷ codes "a" ∷ codes "--workers" ∷ codes "4" ∷ []) ≡ kind.UnknownArgument ∷ []
unfolding clap_on_literals
workers_of_a_search = refl

worlds_of_a_run : fault_of commands (with_both (codes "4") (codes "1000") ++ (codes "--worlds" ∷ codes "7" ∷ [])) ≡ kind.UnknownArgument ∷ []
unfolding clap_on_literals
worlds_of_a_run = refl

no_pattern : SearchesFor (codes "explore" ∷ codes "a" ∷ []) None []
unfolding clap_on_literals
no_pattern = (refl, refl, refl)

a_pattern : SearchesFor (codes "explore" ∷ codes "a" ∷ codes "--bad" ∷ codes "* blocked" ∷ []) None (codes "* blocked" ∷ [])
unfolding clap_on_literals
a_pattern = (refl, refl, refl)

patterns_in_order : SearchesFor (codes "explore" ∷ codes "--bad" ∷ codes "y" ∷ codes "a" ∷ codes "--bad=x" ∷ codes "--worlds=7" ∷ codes "--bad=z" ∷ [])
    (Some 7) (codes "y" ∷ codes "x" ∷ codes "z" ∷ [])
unfolding clap_on_literals
patterns_in_order = (refl, refl, refl)

an_empty_pattern : SearchesFor (codes "explore" ∷ codes "a" ∷ codes "--bad=" ∷ codes "--bad" ∷ [] ∷ []) None ([] ∷ [] ∷ [])
unfolding clap_on_literals
an_empty_pattern = (refl, refl, refl)

a_pattern_with_a_hyphen : SearchesFor (codes "explore" ∷ codes "a" ∷ codes "--bad=-x" ∷ codes "--bad" ∷ codes "-" ∷ []) None (codes "-x" ∷ codes "-" ∷ [])
unfolding clap_on_literals
a_pattern_with_a_hyphen = (refl, refl, refl)

the_most_patterns : SearchesFor (with_so_many 16) None (times 16 (codes "x" ∷ []))
unfolding clap_on_literals
the_most_patterns = (refl, refl, refl)

one_pattern_too_many : (are_accepted (with_so_many 17) ≡ false) × (fault_of commands (with_so_many 17) ≡ [])
unfolding clap_on_literals
one_pattern_too_many = (refl, refl)

patterns_without_words : (fault_of commands (codes "explore" ∷ codes "a" ∷ codes "--bad" ∷ []) ≡ kind.InvalidValue ∷ [])
    × (fault_of commands (codes "explore" ∷ codes "a" ∷ codes "--bad" ∷ codes "--worlds=7" ∷ []) ≡ kind.InvalidValue ∷ [])
unfolding clap_on_literals
patterns_without_words = (refl, refl)

an_option_as_a_pattern : fault_of commands (codes "explore" ∷ codes "a" ∷ codes "--bad" ∷ codes "-x" ∷ []) ≡ kind.UnknownArgument ∷ []
unfolding clap_on_literals
an_option_as_a_pattern = refl

patterns_alone : fault_of commands (codes "explore" ∷ codes "--bad" ∷ codes "* blocked" ∷ []) ≡ kind.MissingRequiredArgument ∷ []
unfolding clap_on_literals
patterns_alone = refl

patterns_of_a_run : fault_of commands (with_both (codes "4") (codes "1000") ++ (codes "--bad" ∷ codes "* blocked" ∷ [])) ≡ kind.UnknownArgument ∷ []
unfolding clap_on_literals
patterns_of_a_run = refl

no_part : SearchesIn (codes "explore" ∷ codes "a" ∷ []) None None
unfolding clap_on_literals
no_part = (refl, refl, refl)

a_part : SearchesIn (codes "explore" ∷ codes "a" ∷ codes "--part" ∷ codes "2/4" ∷ []) (Some (codes "2/4")) None
unfolding clap_on_literals
a_part = (refl, refl, refl)

a_part_of_so_many_turns : SearchesIn (codes "explore" ∷ codes "--from=+03" ∷ codes "a" ∷ codes "--part=2/4" ∷ []) (Some (codes "2/4")) (Some 3)
unfolding clap_on_literals
a_part_of_so_many_turns = (refl, refl, refl)

whatever_a_part_says : SearchesIn (codes "explore" ∷ codes "a" ∷ codes "--part=" ∷ []) (Some []) None
    × SearchesIn (codes "explore" ∷ codes "a" ∷ codes "--part" ∷ codes "x" ∷ []) (Some (codes "x")) None
unfolding clap_on_literals
whatever_a_part_says = ((refl, refl, refl), (refl, refl, refl))

the_fewest_turns : SearchesIn (with_turns (codes "0")) None (Some 0)
unfolding clap_on_literals
the_fewest_turns = (refl, refl, refl)

the_most_turns : SearchesIn (with_turns (codes "1000")) None (Some 1000)
unfolding clap_on_literals
the_most_turns = (refl, refl, refl)

no_such_turns : (fault_of commands (with_turns (codes "1001")) ≡ kind.ValueValidation ∷ [])
    × (fault_of commands (with_turns (codes "18446744073709551616")) ≡ kind.ValueValidation ∷ [])
    × (fault_of commands (with_turns (codes "x")) ≡ kind.ValueValidation ∷ [])
    × (fault_of commands (with_turns []) ≡ kind.ValueValidation ∷ [])
unfolding clap_on_literals
no_such_turns = (refl, refl, refl, refl)

turns_without_a_number : fault_of commands (codes "explore" ∷ codes "a" ∷ codes "--from" ∷ []) ≡ kind.InvalidValue ∷ []
unfolding clap_on_literals
turns_without_a_number = refl

turns_twice : fault_of commands (with_turns (codes "3") ++ (codes "--from=3" ∷ [])) ≡ kind.ArgumentConflict ∷ []
unfolding clap_on_literals
turns_twice = refl

a_part_twice : fault_of commands (codes "explore" ∷ codes "a" ∷ codes "--part=1/2" ∷ codes "--part" ∷ codes "1/2" ∷ []) ≡ kind.ArgumentConflict ∷ []
unfolding clap_on_literals
a_part_twice = refl

a_part_without_words : (fault_of commands (codes "explore" ∷ codes "a" ∷ codes "--part" ∷ []) ≡ kind.InvalidValue ∷ [])
    × (fault_of commands (codes "explore" ∷ codes "a" ∷ codes "--part" ∷ codes "--from=3" ∷ []) ≡ kind.InvalidValue ∷ [])
unfolding clap_on_literals
a_part_without_words = (refl, refl)

a_part_of_a_run : (fault_of commands (with_both (codes "4") (codes "1000") ++ (codes "--part" ∷ codes "1/2" ∷ [])) ≡ kind.UnknownArgument ∷ [])
    × (fault_of commands (with_both (codes "4") (codes "1000") ++ (codes "--from" ∷ codes "3" ∷ [])) ≡ kind.UnknownArgument ∷ [])
unfolding clap_on_literals
a_part_of_a_run = (refl, refl)
