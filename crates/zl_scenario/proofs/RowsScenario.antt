-- Worked texts: what they say and their first faults, by computation.
use Rattle.zl_scenario.proofs.Common.{◌≡◌, ℕ, true, false, List, [], ◌∷◌, ◌++◌, Option, Some, None, Err, replicate, refl, codes, flat_map, row_of, first_fault}
use Rattle.zl_scenario.proofs.Common.{header_fault, instr_fault, pieces, is_word, number_of, digits_of, bytes_of_digits, hex_digits_of_byte, Scenario, Listed}
use Rattle.zl_scenario.proofs.Common.{Reading, refused_at, reading_of, reading_from, line_said, statement_said, block_said, body_said, digits_spelled}
use Rattle.zl_scenario.proofs.Common.{program_said, turns_said, body_named, limit_said, process_said, object_named, all_of, handle_of, rights_named, map}
use Rattle.zl_scenario.proofs.Common.{pair_said, is_end, digits_in, text_in, mark_named, whole_at, whole_in, at, Statements, Block, Hex}
use Rattle.zl_code.specs.declared.boot.Grant.{Grant}
use Rattle.zl_code.specs.declared.boot.Statement.{Statement}
use Rattle.zl_code.specs.declared.boot.Statement.TheVariants as statement
use Rattle.zl_code.proofs.Stored.{bytes}
use Rattle.zl_scenario.specs.Handles.{handles_of}
unfoldable use Rattle.zl_code.specs.Blocks.{all_nest, all_stay, blocks_at}
unfoldable use Rattle.zl_scenario.specs.Scenario.{job_said}
use Rattle.zl_scenario.specs.declared.cause.Cause.{Cause}
use Rattle.zl_scenario.specs.declared.cause.Cause.TheVariants as cause

-- a raw program of these bytes
abbrev raw : List ℕ → Listed
raw bytes = record { checked = false; bytes = bytes }

abbrev said : List Listed → List Statement → List ℕ → ℕ → List (ℕ × ℕ) → Scenario
said programs statements lines limit schedule =
    record { programs = programs; statements = statements; lines = lines; limit = limit; schedule_line = None; schedule = schedule }

-- the same with a schedule, which this line begins
abbrev scheduled : ℕ → Scenario → Scenario
scheduled line s = record s { schedule_line = Some line }

-- nothing is said, and no line is at fault
abbrev nothing : Scenario
nothing = said [] [] [] 1000 []

abbrev whole : Scenario → Reading
whole s = record { said = s; fault = None }

-- the image of no instruction
abbrev empty_image : List ℕ
empty_image = 0x5a ∷ 0x4c ∷ 0x41 ∷ 0x42 ∷ 1 ∷ 1 ∷ 0 ∷ 0 ∷ 0 ∷ 0 ∷ 0 ∷ 0 ∷ 1 ∷ 0 ∷ 0 ∷ 0 ∷ 0 ∷ 0 ∷ 0 ∷ 0 ∷ []

-- ---- texts without a fault

empty : reading_of [] ≡ whole nothing
unfolding reading_from line_said statement_said mark_named body_named limit_said process_said
empty = refl

blank_lines_and_comments : reading_of (codes "\n   \n# process 1\n#--\n") ≡ whole nothing
unfolding reading_from line_said statement_said mark_named body_named limit_said process_said
blank_lines_and_comments = refl

last_limit_counts : reading_of (codes "limit 1000000\n  limit   0010  \n\nlimit 7") ≡ whole (said [] [] [] 7 [])
unfolding reading_from line_said statement_said mark_named body_named limit_said process_said is_word number_of
last_limit_counts = refl

turns : reading_of (codes "--\n2 20\n\n# no turn\n  9 0 \n18446744073709551615 1000000")
    ≡ whole (scheduled 1 (said [] [] [] 1000 ((2, 20) ∷ (9, 0) ∷ (18446744073709551615, 1000000) ∷ [])))
unfolding reading_from line_said statement_said mark_named body_named limit_said process_said turns_said pair_said is_word number_of
turns = refl

abbrev empty_program : List ℕ
empty_program = codes "program raw hex\n5a4c4142 0101 0000\n# a comment\n\n 00000000 0 1\n000000 00000000\nend\n"

a_program : reading_of empty_program ≡ whole (said (raw empty_image ∷ []) [] [] 1000 [])
unfolding reading_from line_said statement_said mark_named body_named limit_said process_said block_said is_end program_said digits_spelled body_said is_word
    digits_of bytes_of_digits first_fault header_fault pieces all_nest all_stay
a_program = refl

-- a checked program beside a raw one
abbrev checked : List ℕ → Listed
checked bytes = record { checked = true; bytes = bytes }

abbrev empty_checked_program : List ℕ
empty_checked_program = codes "program checked hex\n5a4c4142010100000000000001000000 00000000\nend\n"

two_programs : reading_of (empty_checked_program ++ empty_program) ≡ whole (said (checked empty_image ∷ raw empty_image ∷ []) [] [] 1000 [])
unfolding reading_from line_said statement_said mark_named body_named limit_said process_said block_said is_end program_said digits_spelled body_said is_word
    digits_of bytes_of_digits first_fault header_fault pieces all_nest all_stay
two_programs = refl

processes : reading_of (empty_program ++ codes "process 1 0 5\n\nprocess 77 0 0")
    ≡ whole (said (raw empty_image ∷ []) (statement.Process 1 0 5 [] ∷ statement.Process 77 0 0 [] ∷ []) (8 ∷ 10 ∷ []) 1000 [])
unfolding reading_from line_said statement_said mark_named body_named limit_said process_said all_of block_said is_end program_said digits_spelled body_said
    is_word number_of digits_of bytes_of_digits first_fault header_fault pieces all_nest all_stay
processes = refl

-- ---- handles of a process

abbrev handle : ℕ → Option ℕ → Grant
handle koid rights = record { koid = koid; rights = rights }

-- rights are a number of 64 bits, or those of the kind; what a kind gives is no matter of the text
named_handles : handles_of (codes "2:5" ∷ codes "1:*" ∷ codes "0003:00" ∷ codes "1025:4294967296" ∷ codes "18446744073709551615:18446744073709551615" ∷ [])
    ≡ Some (handle 2 (Some 5) ∷ handle 1 None ∷ handle 3 (Some 0) ∷ handle 1025 (Some 4294967296)
    ∷ handle 18446744073709551615 (Some 18446744073709551615) ∷ [])
unfolding all_of handle_of rights_named is_word number_of
named_handles = refl

-- without a colon, without one of the two, with more than both, and with what is no number
no_handles : map handle_of (codes "2" ∷ codes ":" ∷ codes "2:" ∷ codes ":5" ∷ codes "2:5:6" ∷ codes "2:*:" ∷ codes "2:*x" ∷ codes "2:**" ∷ codes "*:5"
    ∷ codes "2:-5" ∷ codes "+2:5" ∷ codes "2:0x5" ∷ codes "2:18446744073709551616" ∷ codes "18446744073709551616:5" ∷ [])
    ≡ replicate 14 None
unfolding handle_of rights_named is_word number_of
no_handles = refl

-- objects, and a process with handles to them, one of which isn't there: that is found by the boot
objects_and_handles : reading_of (empty_program ++ codes "event\nchannel\n\n  port  \nprocess 1 0 7 3:8 2:* 9:*")
    ≡ whole (said (raw empty_image ∷ [])
    (statement.Event ∷ statement.Channel ∷ statement.Port ∷ statement.Process 1 0 7 (handle 3 (Some 8) ∷ handle 2 None ∷ handle 9 None ∷ []) ∷ [])
    (8 ∷ 9 ∷ 11 ∷ 12 ∷ []) 1000 [])
unfolding reading_from line_said statement_said mark_named body_named limit_said process_said object_named all_of handle_of rights_named block_said is_end
    program_said digits_spelled body_said is_word number_of digits_of bytes_of_digits first_fault header_fault pieces all_nest all_stay
objects_and_handles = refl

-- so is that eight handles are too many
eight_handles : reading_of (empty_program ++ codes "process 1 0 0 1:* 1:* 1:* 1:* 1:* 1:* 1:* 1:*")
    ≡ whole (said (raw empty_image ∷ []) (statement.Process 1 0 0 (replicate 8 (handle 1 None)) ∷ []) (8 ∷ []) 1000 [])
unfolding reading_from line_said statement_said mark_named body_named limit_said process_said all_of handle_of rights_named block_said is_end program_said
    digits_spelled body_said is_word number_of digits_of bytes_of_digits first_fault header_fault pieces all_nest all_stay
eight_handles = refl

-- the stored run
stored_run : reading_of
    (codes "program raw hex\n5a4c41420101080000000000640000000000 0000\n46020300000000000000000000000000\n01050000000000000800000000000000\n47020300050000000000000000000000\n41020304000000000000008000000000\n40020300000000000000000000000000\n40020400000000000000000000000000\n40020400000000000000000000000000\n53000000000000000000000000000000\nend\nprocess 1 0 0\n--\n2 20\n")
    ≡ whole (scheduled 13 (said (raw bytes ∷ []) (statement.Process 1 0 0 [] ∷ []) (12 ∷ []) 1000 ((2, 20) ∷ [])))
unfolding reading_from line_said statement_said mark_named body_named limit_said process_said all_of block_said is_end program_said digits_spelled body_said
    turns_said pair_said is_word number_of digits_of bytes_of_digits first_fault header_fault instr_fault row_of pieces all_nest all_stay blocks_at
stored_run = refl

-- ---- first faults

abbrev fails : Scenario → ℕ → Cause → Reading
fails = refused_at

unknown_words : reading_of (codes "limit 1\nprocess 1 0\nlimit 2") ≡ fails (said [] [] [] 1 []) 2 cause.Syntax
unfolding reading_from line_said statement_said mark_named body_named limit_said process_said is_word number_of
unknown_words = refl

rows_of_first_faults :
    -- tabs and carriage returns are parts of words
    (reading_of (codes "limit 1\r\n") ≡ fails nothing 1 cause.Syntax)
    -- `#` counts as the first byte of a line only
    × (reading_of (codes "\n #") ≡ fails nothing 2 cause.Syntax)
unfolding reading_from line_said statement_said mark_named body_named limit_said process_said object_named is_word number_of
rows_of_first_faults = (refl, refl)

outside_ascii : reading_of (codes "\n# " ++ (195 ∷ 169 ∷ [])) ≡ fails nothing 2 cause.Syntax
unfolding reading_from line_said statement_said mark_named body_named limit_said process_said is_word number_of
outside_ascii = refl

large_number : reading_of (codes "limit 18446744073709551616") ≡ fails nothing 1 cause.Syntax
unfolding reading_from line_said statement_said mark_named body_named limit_said process_said is_word number_of
large_number = refl

signed_number : reading_of (codes "limit -1") ≡ fails nothing 1 cause.Syntax
unfolding reading_from line_said statement_said mark_named body_named limit_said process_said is_word number_of
signed_number = refl

large_limit : reading_of (codes "limit 1000001\nlimit 1\n--\n") ≡ fails nothing 1 cause.Limit
unfolding reading_from line_said statement_said mark_named body_named limit_said process_said is_word number_of
large_limit = refl

missing_program : reading_of (codes "process 1 0 0\n") ≡ fails nothing 1 cause.Unknown
unfolding reading_from line_said statement_said mark_named body_named limit_said process_said all_of is_word number_of
missing_program = refl

-- a wrong number comes before a missing program
wrong_number_first : reading_of (codes "process 1 0 x\n") ≡ fails nothing 1 cause.Syntax
unfolding reading_from line_said statement_said mark_named body_named limit_said process_said is_word number_of
wrong_number_first = refl

-- a wrong handle does too, wherever it stands
wrong_handle_first : reading_of (codes "process 1 0 0 1:* 1\n") ≡ fails nothing 1 cause.Syntax
unfolding reading_from line_said statement_said mark_named body_named limit_said process_said all_of handle_of rights_named is_word number_of
wrong_handle_first = refl

missing_program_with_handles : reading_of (codes "process 1 0 0 1:*\n") ≡ fails nothing 1 cause.Unknown
unfolding reading_from line_said statement_said mark_named body_named limit_said process_said all_of handle_of rights_named is_word number_of
missing_program_with_handles = refl

-- nothing stands behind the name of an object
rows_of_objects :
    (reading_of (codes "event\nevent 1\n") ≡ fails (said [] (statement.Event ∷ []) (1 ∷ []) 1000 []) 2 cause.Syntax)
    × (reading_of (codes "port\nchannel 1 2\n") ≡ fails (said [] (statement.Port ∷ []) (1 ∷ []) 1000 []) 2 cause.Syntax)
    × (reading_of (codes "channel\nports\n") ≡ fails (said [] (statement.Channel ∷ []) (1 ∷ []) 1000 []) 2 cause.Syntax)
unfolding reading_from line_said statement_said mark_named body_named limit_said process_said object_named is_word number_of
rows_of_objects = (refl, refl, refl)

-- a block that no line ends, and `--` in a block
open_block : reading_of (codes "\nprogram raw hex\n5a\n") ≡ fails nothing 2 cause.Syntax
unfolding reading_from line_said statement_said mark_named body_named limit_said process_said block_said is_end program_said digits_spelled body_said is_word
    digits_of bytes_of_digits first_fault
open_block = refl

dashes_in_block : reading_of (codes "\nprogram raw hex\n5a\n--\nend\n") ≡ fails nothing 2 cause.Syntax
unfolding reading_from line_said statement_said mark_named body_named limit_said process_said block_said is_end program_said digits_spelled body_said is_word
    digits_of bytes_of_digits first_fault
dashes_in_block = refl

capital_digit : reading_of (codes "program raw hex\n5A\nend\n") ≡ fails nothing 1 cause.Syntax
unfolding reading_from line_said statement_said mark_named body_named limit_said process_said block_said is_end program_said digits_spelled body_said is_word
    digits_of bytes_of_digits first_fault
capital_digit = refl

odd_digits : reading_of (codes "program raw hex\n5a 4\nend\n") ≡ fails nothing 1 cause.Syntax
unfolding reading_from line_said statement_said mark_named body_named limit_said process_said block_said is_end program_said digits_spelled body_said is_word
    digits_of bytes_of_digits first_fault
odd_digits = refl

outside_ascii_in_block : reading_of (codes "program raw hex\n# " ++ (195 ∷ 169 ∷ codes "\nend\n")) ≡ fails nothing 1 cause.Syntax
unfolding reading_from line_said statement_said mark_named body_named limit_said process_said block_said is_end program_said digits_spelled body_said is_word
    digits_of bytes_of_digits first_fault
outside_ascii_in_block = refl

no_image : reading_of (codes "limit 5\nprogram raw hex\n5a\nend\nnonsense") ≡ fails (said [] [] [] 5 []) 2 cause.Program
unfolding reading_from line_said statement_said mark_named body_named limit_said process_said block_said is_end program_said digits_spelled body_said is_word
    number_of digits_of bytes_of_digits first_fault header_fault pieces all_nest all_stay
no_image = refl

-- no block is opened by a wrong line
rows_of_wrong_openings :
    (reading_of (codes "program foo hex\nend\n") ≡ fails nothing 1 cause.Syntax)
    × (reading_of (codes "program checked bin\nend\n") ≡ fails nothing 1 cause.Syntax)
    × (reading_of (codes "\nprogram checked\nend\n") ≡ fails nothing 2 cause.Syntax)
unfolding reading_from line_said statement_said mark_named body_named limit_said job_said process_said is_word number_of
rows_of_wrong_openings = (refl, refl, refl)

second_dashes : reading_of (codes "--\n2 1\n--\n") ≡ fails (scheduled 1 (said [] [] [] 1000 ((2, 1) ∷ []))) 3 cause.Syntax
unfolding reading_from line_said statement_said mark_named body_named limit_said process_said turns_said pair_said is_word number_of
second_dashes = refl

statement_in_schedule : reading_of (codes "--\nlimit 1\n") ≡ fails (scheduled 1 nothing) 2 cause.Syntax
unfolding reading_from line_said statement_said mark_named body_named limit_said process_said turns_said pair_said is_word number_of
statement_in_schedule = refl

many_turns : reading_of (codes "--\n2 1000001\n") ≡ fails (scheduled 1 nothing) 2 cause.Syntax
unfolding reading_from line_said statement_said mark_named body_named limit_said process_said turns_said pair_said is_word number_of
many_turns = refl

-- ---- the 257th program

abbrev full : Scenario
full = said (replicate 256 (raw empty_image)) [] [] 1000 []

abbrev empty_digits : List ℕ
empty_digits = flat_map hex_digits_of_byte empty_image

too_many_programs : program_said full false (digits_spelled empty_digits) ≡ Err cause.Limit
unfolding program_said digits_spelled body_said bytes_of_digits first_fault header_fault pieces all_nest all_stay
too_many_programs = refl

-- it is Syntax or Program before
odd_digits_first : program_said full false (digits_spelled (1 ∷ [])) ≡ Err cause.Syntax
unfolding program_said digits_spelled body_said
odd_digits_first = refl

no_image_first : program_said full false (digits_spelled (1 ∷ 1 ∷ [])) ≡ Err cause.Program
unfolding program_said digits_spelled body_said bytes_of_digits first_fault header_fault pieces all_nest all_stay
no_image_first = refl

-- that it is one is asked of a checked program too, and only then whether the rules refuse it
too_many_checked : program_said full true (digits_spelled empty_digits) ≡ Err cause.Limit
unfolding program_said digits_spelled body_said bytes_of_digits first_fault header_fault pieces all_nest all_stay
too_many_checked = refl

whole_before_limit : whole_at (at full (Block 9 true (Hex empty_digits))) (codes " end ") ≡ Some (checked empty_image)
unfolding whole_at whole_in digits_spelled is_end is_word bytes_of_digits first_fault header_fault pieces all_nest all_stay
whole_before_limit = refl

no_image_is_not_whole : whole_at (at full (Block 9 true (Hex (1 ∷ 1 ∷ [])))) (codes "end") ≡ None
unfolding whole_at whole_in digits_spelled is_end is_word bytes_of_digits first_fault header_fault pieces all_nest all_stay
no_image_is_not_whole = refl

-- only the line `end` makes a program whole
rows_of_not_whole :
    (whole_at (at full (Block 9 true (Hex empty_digits))) (codes "# end") ≡ None)
    × (whole_at (at full (Block 9 true (Hex empty_digits))) (codes "5a") ≡ None)
    × (whole_at (at full Statements) (codes "end") ≡ None)
unfolding whole_at whole_in is_end is_word
rows_of_not_whole = (refl, refl, refl)

-- ---- the digits and the text of lines

digits_of_lines : digits_in (codes "5a 4c4" ∷ codes "# 11" ∷ codes "" ∷ codes " 1" ∷ []) ≡ Some (5 ∷ 10 ∷ 4 ∷ 12 ∷ 4 ∷ 1 ∷ [])
unfolding digits_in digits_of is_end is_word
digits_of_lines = refl

no_digits : digits_in (codes "5a" ∷ codes "5g" ∷ []) ≡ None
unfolding digits_in digits_of is_end is_word
no_digits = refl

past_the_end : digits_in (codes "5a" ∷ codes " end " ∷ []) ≡ None
unfolding digits_in digits_of is_end is_word
past_the_end = refl

text_of_lines : text_in (codes "  .raw" ∷ codes "# a comment" ∷ codes "" ∷ codes "end:" ∷ []) ≡ Some (codes "  .raw\n\nend:\n")
unfolding text_in is_end is_word
text_of_lines = refl
