-- The grammar of the assembler: which image a text denotes.
use Rattle.std.specs.Prelude.{ℕ, ◌≡◌, List, ◌++◌, map, length, Option, Some, IsTrue}
use Rattle.std.specs.Option.{option_map}
use Rattle.zl_code.specs.Common.{Image, instr_bytes, spelling, is_in_range}
use Rattle.std.specs.List.{concat}
use Rattle.zl_code.specs.Spells.{header_bytes, body_bytes}
use Rattle.zl_asm.specs.Listing.{Listing, listing_of}

-- what a text has to give, so that it denotes the image
abbrev pub fields_of : Image → Listing
fields_of i = record {
  version = i.version;
  raw = i.raw;
  memory = i.memory;
  budget = i.budget;
  needs = i.needs;
  starts = i.starts;
  slots = i.slots;
  code = map instr_bytes i.code;
}

-- the text denotes the image
pub record Denotes (text : List ℕ) (i : Image) : Type 0 where
  pub fields : listing_of text ≡ Some (fields_of i)
  pub in_range : IsTrue (is_in_range i)

-- the bytes of an image with these fields
abbrev pub listing_bytes : Listing → List ℕ
listing_bytes l =
    header_bytes l.version l.raw (length l.code) l.memory l.budget l.needs (length l.starts) (length l.slots)
    ++ body_bytes l.starts l.slots (concat l.code)

-- the bytes of the image that a text denotes, if it denotes one
abbrev pub image_bytes_of : List ℕ → Option (List ℕ)
image_bytes_of text = option_map listing_bytes (listing_of text)

-- no text denotes two images
abbrev pub NoTextDenotesTwo : Type 0
NoTextDenotesTwo = (text : List ℕ) (i j : Image) → Denotes text i → Denotes text j → i ≡ j

-- where a text denotes an image, the bytes of the text are those of the image
abbrev pub EachTextGivesBytes : Type 0
EachTextGivesBytes = (text : List ℕ) (i : Image) → Denotes text i → image_bytes_of text ≡ Some (spelling i)
