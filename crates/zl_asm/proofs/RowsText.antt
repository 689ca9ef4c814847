-- Worked examples of the assembler's text, by computation.
use Rattle.zl_asm.proofs.Common.{Denotes, List, None, Some, [], all_of, code_lines_from, codes, digit_of, directive_of, false, hex_bytes, instr_fault, is_name}
use Rattle.zl_asm.proofs.Common.{is_word, joined, kind_of, label_of, labels_from, line_of, listing_from, listing_of, local_parts, names_once, none_behind}
use Rattle.zl_asm.proofs.Common.{number_of, operands_after, operands_of, refl, register_of, rights_of, row_named, row_of, source_of, tail_of, tail_texts}
use Rattle.zl_asm.proofs.Common.{end_among, lines_from, paired_from, text_of, true, unknown_of, words_from, ℕ, ◌++◌, ◌∷◌, ◌≡◌}
use Rattle.std.specs.Fmt.{digits}
use Rattle.zl_rights.specs.declared.kind.Kind.TheVariants as kind
use Rattle.zl_rights.specs.declared.policy.Condition.TheVariants as condition
use Rattle.zl_rights.specs.Names.{kind_named, condition_named}
use Rattle.zl_code.specs.Blocks.{all_nest, all_stay, blocks_at}
use Rattle.zl_code.proofs.Called.{called}
use Rattle.zl_code.proofs.Stored.{image}
use Rattle.zl_code.specs.declared.history.CallName.TheVariants as call
use Rattle.zl_code.specs.declared.image.SlotArray.{SlotArray}
use Rattle.zl_code.specs.declared.image.Version.TheVariants as version
use Rattle.zl_code.specs.declared.instr.Instr.TheVariants as instr
use Rattle.zl_code.specs.declared.instr.LocalInstr.TheVariants as local
use Rattle.zl_asm.specs.Denotes.{image_bytes_of}

-- all that the reading of a text unfolds
unfoldable pub reading : Unit {0}
unfolding is_word words_from digit_of number_of register_of is_name hex_bytes kind_of directive_of operands_after operands_of
    all_of tail_of source_of unknown_of label_of line_of none_behind labels_from names_once lines_from
    end_among blocks_at all_nest all_stay paired_from listing_from listing_of
    row_of row_named instr_fault kind_named condition_named local_parts
reading = tt

abbrev stored : List ℕ
stored =
    codes ".raw\n.budget 100\nevent_create r2, r3\nconst r5, 8\nsignal r2, r3, r0, r5\ndup r2, r3, r4, 2147483648\nclose r2, r3\nclose r2, r4\nclose r2, r4\nprocess_exit r0\n"

-- The text of eight instructions denotes the image of the stored run.
stored_text_denotes_image : Denotes stored image
unfolding reading
stored_text_denotes_image = record { fields = refl; in_range = refl }

-- The disassembler writes it with both numbers.
stored_image_has_text : text_of image
    ≡ codes ".raw\n.memory 0\n.budget 100\nevent_create r2, r3\nconst r5, 8\nsignal r2, r3, r0, r5\ndup r2, r3, r4, 2147483648\nclose r2, r3\nclose r2, r4\nclose r2, r4\nprocess_exit r0\n"
unfolding reading joined tail_texts code_lines_from text_of digits
stored_image_has_text = refl

-- Spaces, comments, capital digits and the order of directives don't count; labels are numbers of instructions.
abbrev a_loop : List ℕ
a_loop =
    codes "; a loop\n  .budget 0x1F ; twice .raw\n.slots any 2 0\n.need NEW_PORT\n.need NEW_EVENT\n.start channel 16388\n.raw\n\nconst r2 ,  3\nloop:\nagain_2:\n  addi r2,r2,0xffffffff\njnz r2, loop\njeq r31, 7, end\n.bytes c8000000000000000000000000000000\njmp 9\nend:"

a_loop_says : listing_of a_loop ≡ Some (record {
  version = version.One;
  raw = true;
  memory = 0;
  budget = 31;
  needs = condition.NewEvent ∷ condition.NewPort ∷ [];
  starts = record { kind = Some kind.Channel; rights = rights_of 16388 } ∷ [];
  slots = record { kind = None; length = 2; rights = rights_of 0 } ∷ [];
  code =
      (1 ∷ 2 ∷ 0 ∷ 0 ∷ 0 ∷ 0 ∷ 0 ∷ 0 ∷ 3 ∷ 0 ∷ 0 ∷ 0 ∷ 0 ∷ 0 ∷ 0 ∷ 0 ∷ [])
      ∷ (4 ∷ 2 ∷ 2 ∷ 0 ∷ 0 ∷ 0 ∷ 0 ∷ 0 ∷ 255 ∷ 255 ∷ 255 ∷ 255 ∷ 0 ∷ 0 ∷ 0 ∷ 0 ∷ [])
      ∷ (19 ∷ 2 ∷ 0 ∷ 0 ∷ 0 ∷ 0 ∷ 0 ∷ 0 ∷ 0 ∷ 0 ∷ 0 ∷ 0 ∷ 1 ∷ 0 ∷ 0 ∷ 0 ∷ [])
      ∷ (20 ∷ 31 ∷ 0 ∷ 0 ∷ 0 ∷ 0 ∷ 0 ∷ 0 ∷ 7 ∷ 0 ∷ 0 ∷ 0 ∷ 6 ∷ 0 ∷ 0 ∷ 0 ∷ [])
      ∷ (200 ∷ 0 ∷ 0 ∷ 0 ∷ 0 ∷ 0 ∷ 0 ∷ 0 ∷ 0 ∷ 0 ∷ 0 ∷ 0 ∷ 0 ∷ 0 ∷ 0 ∷ 0 ∷ [])
      ∷ (17 ∷ 0 ∷ 0 ∷ 0 ∷ 0 ∷ 0 ∷ 0 ∷ 0 ∷ 0 ∷ 0 ∷ 0 ∷ 0 ∷ 9 ∷ 0 ∷ 0 ∷ 0 ∷ [])
      ∷ [];
})
unfolding reading
a_loop_says = refl

-- The lists of chan_write and the room of chan_read_etc.
lists_say : listing_of (codes "chan_write r2, r3, r0, r0, r6, r7\nchan_read_etc r2, r0, r10, r10, r11, r12, r13, 1\nchan_write r2, r3, r0, r0") ≡ Some (record {
  version = version.One;
  raw = false;
  memory = 0;
  budget = 1;
  needs = [];
  starts = [];
  slots = [];
  code =
      (68 ∷ 2 ∷ 3 ∷ 0 ∷ 0 ∷ 0 ∷ 0 ∷ 0 ∷ 6 ∷ 7 ∷ 255 ∷ 255 ∷ 255 ∷ 255 ∷ 255 ∷ 255 ∷ [])
      ∷ (69 ∷ 2 ∷ 0 ∷ 10 ∷ 10 ∷ 11 ∷ 12 ∷ 13 ∷ 1 ∷ 0 ∷ 0 ∷ 0 ∷ 0 ∷ 0 ∷ 0 ∷ 0 ∷ [])
      ∷ (68 ∷ 2 ∷ 3 ∷ 0 ∷ 0 ∷ 0 ∷ 0 ∷ 0 ∷ 255 ∷ 255 ∷ 255 ∷ 255 ∷ 255 ∷ 255 ∷ 255 ∷ 255 ∷ [])
      ∷ [];
})
unfolding reading
lists_say = refl

-- The version stands behind blank lines and comments only, and in the bytes of the image.
version_2_bytes : image_bytes_of (codes "; blocks\n\n .version 0x2 ; two\n.budget 8\nprocess_exit r2")
    ≡ Some (0x5a ∷ 0x4c ∷ 0x41 ∷ 0x42 ∷ 2 ∷ 0 ∷ 1 ∷ 0 ∷ 0 ∷ 0 ∷ 0 ∷ 0 ∷ 8 ∷ 0 ∷ 0 ∷ 0 ∷ 0 ∷ 0 ∷ 0 ∷ 0
    ∷ 83 ∷ 2 ∷ 0 ∷ 0 ∷ 0 ∷ 0 ∷ 0 ∷ 0 ∷ 0 ∷ 0 ∷ 0 ∷ 0 ∷ 0 ∷ 0 ∷ 0 ∷ 0 ∷ [])
unfolding reading
version_2_bytes = refl

version_2_text : text_of (record image { version = version.Two; code = [] }) ≡ codes ".version 2\n.raw\n.memory 0\n.budget 100\n"
unfolding reading joined tail_texts code_lines_from text_of digits
version_2_text = refl

-- ---- counted blocks

-- A rep and its endrep are written without targets, and lead to each other.
abbrev counted : List ℕ
counted = codes ".version 2\n.budget 8\nconst r2, 0\nrep 3\naddi r2, r2, 5\nendrep\nprocess_exit r2"

counted_says : listing_of counted ≡ Some (record {
  version = version.Two;
  raw = false;
  memory = 0;
  budget = 8;
  needs = [];
  starts = [];
  slots = [];
  code =
      (1 ∷ 2 ∷ 0 ∷ 0 ∷ 0 ∷ 0 ∷ 0 ∷ 0 ∷ 0 ∷ 0 ∷ 0 ∷ 0 ∷ 0 ∷ 0 ∷ 0 ∷ 0 ∷ [])
      ∷ (0x1a ∷ 0 ∷ 0 ∷ 0 ∷ 0 ∷ 0 ∷ 0 ∷ 0 ∷ 3 ∷ 0 ∷ 0 ∷ 0 ∷ 3 ∷ 0 ∷ 0 ∷ 0 ∷ [])
      ∷ (4 ∷ 2 ∷ 2 ∷ 0 ∷ 0 ∷ 0 ∷ 0 ∷ 0 ∷ 5 ∷ 0 ∷ 0 ∷ 0 ∷ 0 ∷ 0 ∷ 0 ∷ 0 ∷ [])
      ∷ (0x1b ∷ 0 ∷ 0 ∷ 0 ∷ 0 ∷ 0 ∷ 0 ∷ 0 ∷ 0 ∷ 0 ∷ 0 ∷ 0 ∷ 1 ∷ 0 ∷ 0 ∷ 0 ∷ [])
      ∷ (83 ∷ 2 ∷ 0 ∷ 0 ∷ 0 ∷ 0 ∷ 0 ∷ 0 ∷ 0 ∷ 0 ∷ 0 ∷ 0 ∷ 0 ∷ 0 ∷ 0 ∷ 0 ∷ [])
      ∷ [];
})
unfolding reading
counted_says = refl

-- So the disassembler writes them, and no label.
counted_text : text_of (record image { version = version.Two; code = instr.Local (local.Rep 3 1) ∷ instr.Local (local.EndRep 0) ∷ [] })
    ≡ codes ".version 2\n.raw\n.memory 0\n.budget 100\nrep 3\nendrep\n"
unfolding reading joined tail_texts code_lines_from text_of digits
counted_text = refl

-- Version 1 doesn't know them, and so has their bytes under the mark.
bytes_of_a_rep : image_bytes_of (codes ".raw\n.bytes 1a000000000000000300000003000000")
    ≡ Some (0x5a ∷ 0x4c ∷ 0x41 ∷ 0x42 ∷ 1 ∷ 1 ∷ 1 ∷ 0 ∷ 0 ∷ 0 ∷ 0 ∷ 0 ∷ 1 ∷ 0 ∷ 0 ∷ 0 ∷ 0 ∷ 0 ∷ 0 ∷ 0
    ∷ 0x1a ∷ 0 ∷ 0 ∷ 0 ∷ 0 ∷ 0 ∷ 0 ∷ 0 ∷ 3 ∷ 0 ∷ 0 ∷ 0 ∷ 3 ∷ 0 ∷ 0 ∷ 0 ∷ [])
unfolding reading
bytes_of_a_rep = refl

-- ---- calls of version 2

-- The number of a slot array stands behind the registers.
abbrev slot_calls : List ℕ
slot_calls = codes "chan_write_slots r2, r3, r0, r0, r6, 0\nchan_read_slots r2, r4, r0, r0, r7, r8, 0\nhandle_info r2, r9, r10, r11\n"

abbrev any_64 : SlotArray
any_64 = record { kind = None; length = 64; rights = rights_of 0 }

slot_calls_say : listing_of (codes ".version 2\n.raw\n.slots any 64 0\n" ++ slot_calls) ≡ Some (record {
  version = version.Two;
  raw = true;
  memory = 0;
  budget = 1;
  needs = [];
  starts = [];
  slots = any_64 ∷ [];
  code =
      (88 ∷ 2 ∷ 3 ∷ 0 ∷ 0 ∷ 6 ∷ 0 ∷ 0 ∷ 0 ∷ 0 ∷ 0 ∷ 0 ∷ 0 ∷ 0 ∷ 0 ∷ 0 ∷ [])
      ∷ (89 ∷ 2 ∷ 4 ∷ 0 ∷ 0 ∷ 7 ∷ 8 ∷ 0 ∷ 0 ∷ 0 ∷ 0 ∷ 0 ∷ 0 ∷ 0 ∷ 0 ∷ 0 ∷ [])
      ∷ (90 ∷ 2 ∷ 9 ∷ 10 ∷ 11 ∷ 0 ∷ 0 ∷ 0 ∷ 0 ∷ 0 ∷ 0 ∷ 0 ∷ 0 ∷ 0 ∷ 0 ∷ 0 ∷ [])
      ∷ [];
})
unfolding reading
slot_calls_say = refl

-- So the disassembler writes them.
slot_calls_text : text_of (record image {
  version = version.Two;
  slots = any_64 ∷ [];
  code =
      instr.Call (called call.ChanWriteSlots (2 ∷ 3 ∷ 0 ∷ 0 ∷ 6 ∷ []) 0)
      ∷ instr.Call (called call.ChanReadSlots (2 ∷ 4 ∷ 0 ∷ 0 ∷ 7 ∷ 8 ∷ []) 0)
      ∷ instr.Call (called call.HandleInfo (2 ∷ 9 ∷ 10 ∷ 11 ∷ []) 0)
      ∷ [];
}) ≡ codes ".version 2\n.raw\n.memory 0\n.budget 100\n.slots any 64 0\n" ++ slot_calls
unfolding reading joined tail_texts code_lines_from text_of digits
slot_calls_text = refl

-- ---- texts that denote no image

abbrev DenotesNone : List ℕ → Type 0
DenotesNone text = listing_of text ≡ None

register_32 : DenotesNone (codes "const r32, 1")
unfolding reading
register_32 = refl

budget_twice : DenotesNone (codes ".budget 2\n.budget 2")
unfolding reading
budget_twice = refl

directive_behind_code : DenotesNone (codes "jmp 0\n.budget 2")
unfolding reading
directive_behind_code = refl

version_elsewhere : DenotesNone (codes ".budget 2\n.version 2") × DenotesNone (codes "jmp 0\n.version 2") × DenotesNone (codes ".version 2\n.version 2")
unfolding reading
version_elsewhere = (refl, refl, refl)

other_version : DenotesNone (codes ".version 1") × DenotesNone (codes ".version 3") × DenotesNone (codes ".version") × DenotesNone (codes ".version 2, 3")
unfolding reading
other_version = (refl, refl, refl, refl)

version_1_and_rep : DenotesNone (codes ".raw\nrep 1\nendrep") × DenotesNone (codes ".version 2\n.raw\n.bytes 1a000000000000000100000001000000")
unfolding reading
version_1_and_rep = (refl, refl)

version_1_and_slots : DenotesNone (codes ".raw\n.slots any 64 0\nchan_write_slots r2, r3, r0, r0, r6, 0")
    × DenotesNone (codes ".raw\n.slots any 64 0\nchan_read_slots r2, r4, r0, r0, r7, r8, 0")
    × DenotesNone (codes ".raw\nhandle_info r2, r9, r10, r11")
unfolding reading
version_1_and_slots = (refl, refl, refl)

operands_of_slots : DenotesNone (codes ".version 2\nchan_write_slots r2, r3, r0, r0, r6")
    × DenotesNone (codes ".version 2\nchan_write_slots r2, r3, r0, r0, r6, r0")
    × DenotesNone (codes ".version 2\nchan_read_slots r2, r4, r0, r0, r7, r8, 0, 0")
    × DenotesNone (codes ".version 2\nhandle_info r2, r9, r10, r11, 0")
unfolding reading
operands_of_slots = (refl, refl, refl, refl)

jump_out_of_a_block : DenotesNone (codes ".version 2\n.budget 8\nconst r2, 0\nrep 3\njmp 4\nendrep\nprocess_exit r2")
unfolding reading
jump_out_of_a_block = refl

blocks_apart : DenotesNone (codes ".version 2\nrep 1") × DenotesNone (codes ".version 2\nendrep") × DenotesNone (codes ".version 2\nrep 0\nendrep")
unfolding reading
blocks_apart = (refl, refl, refl)

operands_of_blocks : DenotesNone (codes ".version 2\nrep 1, 1\nendrep") × DenotesNone (codes ".version 2\nrep 1\nendrep 0")
unfolding reading
operands_of_blocks = (refl, refl)

label_twice : DenotesNone (codes "l:\njmp l\nl:")
unfolding reading
label_twice = refl

label_missing : DenotesNone (codes "jmp l")
unfolding reading
label_missing = refl

register_with_a_zero : DenotesNone (codes "const r02, 1")
unfolding reading
register_with_a_zero = refl

no_comma : DenotesNone (codes "const r2 1")
unfolding reading
no_comma = refl

comma_at_the_end : DenotesNone (codes "const r2, 1,")
unfolding reading
comma_at_the_end = refl

number_too_large : DenotesNone (codes "const r2, 4294967296")
unfolding reading
number_too_large = refl

no_digit_behind_0x : DenotesNone (codes "const r2, 0x")
unfolding reading
no_digit_behind_0x = refl

letter_in_a_decimal_number : DenotesNone (codes "const r2, 1a")
unfolding reading
letter_in_a_decimal_number = refl

unknown_without_the_mark : DenotesNone (codes ".bytes c8000000000000000000000000000000")
unfolding reading
unknown_without_the_mark = refl

known_bytes : DenotesNone (codes ".raw\n.bytes 01020000000000000300000000000000")
unfolding reading
known_bytes = refl

room_too_large : DenotesNone (codes "chan_read_etc r2, r0, r10, r10, r11, r12, r30, 1")
unfolding reading
room_too_large = refl

nine_handles : DenotesNone (codes "chan_write r2, r3, r0, r0, r1, r1, r1, r1, r1, r1, r1, r1, r1")
unfolding reading
nine_handles = refl

label_apart : DenotesNone (codes "name :")
unfolding reading
label_apart = refl

not_ascii : DenotesNone (59 ∷ 200 ∷ [])
unfolding reading
not_ascii = refl
