-- Abstract values: their order, and the least value above two.
use Rattle.std.specs.Prelude.{ℕ, min, Bool, true, false, ◌&&◌, ◌||◌, not, ◌==◌, nat_le, Option, Some, None, bit_and, if◌then◌else◌}
use Rattle.zl_rights.specs.declared.kind.Kind.{Kind}
use Rattle.zl_rights.specs.Numbers.{bits, rights_of, within, same_kind}
use Rattle.zl_abs.specs.declared.value.AbsVal.{AbsVal}
use Rattle.zl_abs.specs.declared.value.AbsVal.TheVariants.{Word, Has, KindOf, RightsOf}

-- the largest number that a register holds
abbrev pub ANY : ℕ
ANY = 0xffff_ffff_ffff_ffff

-- the number, where a register holds it, else the largest
abbrev pub capped : ℕ → ℕ
capped n = min n ANY

-- the smaller of the two, and the larger
abbrev pub smaller : ℕ → ℕ → ℕ
smaller m n = if nat_le m n then m else n

abbrev pub larger : ℕ → ℕ → ℕ
larger m n = if nat_le m n then n else m

-- ---- the order

-- what is known of the kind is known too on the other side
abbrev pub kind_below : Option Kind → Option Kind → Bool
kind_below k None = true
kind_below None (Some b) = false
kind_below (Some a) (Some b) = same_kind a b

-- whatever the first describes, the second describes
unfoldable pub below : AbsVal → AbsVal → Bool
below (Word m) (Word n) = nat_le m n
below (Word m) (Has maybe k r) = (m == 0) && maybe
below (Has a k r) (Has b j q) = (not a || b) && (kind_below k j && within (bits q) (bits r))
below (KindOf r) (KindOf s) = r == s
below (KindOf r) (Word n) = nat_le ANY n
below (RightsOf r) (RightsOf s) = r == s
below (RightsOf r) (Word n) = nat_le ANY n
below _ _ = false

-- ---- the join

-- the kind that both have, if they have one
abbrev pub kind_joined : Option Kind → Option Kind → Option Kind
kind_joined (Some a) (Some b) = if same_kind a b then Some a else None
kind_joined _ _ = None

-- the least value above both, or nothing where none is
unfoldable pub joined : AbsVal → AbsVal → Option AbsVal
joined (Word m) (Word n) = Some (Word (larger m n))
joined (Word m) (Has maybe k r) = if m == 0 then Some (Has true k r) else None
joined (Has maybe k r) (Word m) = if m == 0 then Some (Has true k r) else None
joined (Has a k r) (Has b j q) = Some (Has (a || b) (kind_joined k j) (rights_of (bit_and (bits r) (bits q))))
joined (Has a k r) _ = None
joined _ (Has a k r) = None
joined (Word m) _ = Some (Word (larger m ANY))
joined _ (Word m) = Some (Word (larger m ANY))
joined (KindOf r) (KindOf s) = Some (if r == s then KindOf r else Word ANY)
joined (RightsOf r) (RightsOf s) = Some (if r == s then RightsOf r else Word ANY)
joined _ _ = Some (Word ANY)

-- ---- tests

-- a live handle, or 0 where it may be
abbrev pub is_has : AbsVal → Bool
is_has (Has maybe k r) = true
is_has _ = false

-- what a word operand may be at most, a tag counting as any word; nothing for a handle
abbrev pub bound_of : AbsVal → Option ℕ
bound_of (Word m) = Some m
bound_of (Has maybe k r) = None
bound_of _ = Some ANY

-- the value, where it is no tag that names the register
abbrev pub untagged : ℕ → AbsVal → AbsVal
untagged r (KindOf s) = if s == r then Word ANY else KindOf s
untagged r (RightsOf s) = if s == r then Word ANY else RightsOf s
untagged r v = v

-- a tag that names b follows to a
abbrev pub retagged : ℕ → ℕ → AbsVal → AbsVal
retagged b a (KindOf r) = if r == b then KindOf a else KindOf r
retagged b a (RightsOf r) = if r == b then RightsOf a else RightsOf r
retagged b a v = v
