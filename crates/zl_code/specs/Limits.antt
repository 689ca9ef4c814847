-- The limits of an image and the sizes of its format, each by one name.
use Rattle.std.specs.Prelude.{ℕ}

-- the most instructions of an image
abbrev pub most_instructions : ℕ
most_instructions = 4096

-- the largest data memory, in bytes
abbrev pub most_memory : ℕ
most_memory = 65536

-- the largest budget
abbrev pub most_budget : ℕ
most_budget = 1000000

-- the most blocks that an instruction is in
abbrev pub most_blocks : ℕ
most_blocks = 4

-- the most times that a block is gone round
abbrev pub most_turns : ℕ
most_turns = 1000000

-- the most handles with which a process starts
abbrev pub most_starts : ℕ
most_starts = 7

-- the most slot arrays
abbrev pub most_slot_arrays : ℕ
most_slot_arrays = 8

-- the most places of a slot array
abbrev pub most_places : ℕ
most_places = 256

-- the registers of a process
abbrev pub register_count : ℕ
register_count = 32

-- the most registers that the fields of an instruction name
abbrev pub most_registers : ℕ
most_registers = 7

-- the most handles of a list or of a room
abbrev pub most_handles : ℕ
most_handles = 8

-- the byte of a place without a register
abbrev pub no_register : ℕ
no_register = 0xff

-- the least opcode of a system call
abbrev pub first_call : ℕ
first_call = 64

-- the bytes of a header
abbrev pub header_length : ℕ
header_length = 20

-- the bytes of a declaration
abbrev pub declaration_length : ℕ
declaration_length = 8

-- the bytes of an instruction
abbrev pub instruction_length : ℕ
instruction_length = 16

-- the largest number that a register holds
abbrev pub most_word : ℕ
most_word = 0xffff_ffff_ffff_ffff
