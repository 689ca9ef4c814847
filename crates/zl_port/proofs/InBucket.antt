-- In which bucket a packet lies.
use Rattle.zl_rights.proofs.Common.{◌≡◌, ℕ, ◌<◌, Bool, true, false, Option, Some, None, IfSome, and_parts, false≢true, ◌&&◌}
use Rattle.zl_rights.proofs.Common.{refl, arith, eqb, eqb-true, eq-eqb, sym, ap, ◌∙◌, cond, true≢false}
use Rattle.zl_rights.specs.World.{Packet, Source}
use Rattle.zl_port.specs.Packets.{is_from, same_source, has_source}
use Rattle.zl_port.specs.Buckets.{bucket, bucket_by, bucket_of, is_bucket, lies_in}

-- a bucket is one of so many
pub bucket_within : (buckets : ℕ) (source : Source) (key : ℕ) → 0 < buckets → bucket buckets source key < buckets
unfolding bucket
bucket_within buckets source key some = omega arith

-- so is that of a source
by_within : (buckets key : ℕ) (source : Option Source) → 0 < buckets → IfSome (bucket_by buckets key source) (λ place. place < buckets)
by_within buckets key None some = tt
by_within buckets key (Some source) some = bucket_within buckets source key some

-- and that of a packet
pub is_within : (buckets : ℕ) (x : Packet) → 0 < buckets → IfSome (bucket_of buckets x) (λ place. place < buckets)
is_within buckets x some =
    elim (eqb x.kind 1) as (λ t. IfSome (cond t (bucket_by buckets x.key x.source) None) (λ place. place < buckets)) [
      | true ↦ by_within buckets x.key x.source some
      | false ↦ tt
    ]

-- it is just this bucket
pub bucket_is : (place : ℕ) (o : Option ℕ) → is_bucket place o ≡ true → o ≡ Some place
bucket_is place None is = absurd (false≢true is)
bucket_is place (Some other) is = ap Some (sym (eqb-true place other is))

-- a packet lies in one bucket
pub one_bucket : (place other : ℕ) (o : Option ℕ) → is_bucket place o ≡ true → is_bucket other o ≡ true → other ≡ place
one_bucket place other None is also = absurd (false≢true is)
one_bucket place other (Some own) is also = eqb-true other own also ∙ sym (eqb-true place own is)

-- the sources are one
same_true : (a b : Source) → same_source a b ≡ true → a ≡ b
same_true a b same =
    let pid = and_parts (eqb a.pid b.pid) (eqb a.value b.value && eqb a.object b.object) same in
    let rest = and_parts (eqb a.value b.value) (eqb a.object b.object) pid.1 in
    λ i. record { pid = eqb-true a.pid b.pid pid.0 i; value = eqb-true a.value b.value rest.0 i; object = eqb-true a.object b.object rest.1 i }

-- a source that is the same has the same bucket
has_bucket : (buckets : ℕ) (source : Source) (key : ℕ) (o : Option Source) → has_source source o ≡ true
    → bucket_by buckets key o ≡ Some (bucket buckets source key)
has_bucket buckets source key None has = absurd (false≢true has)
has_bucket buckets source key (Some own) has = ap (λ s. Some (bucket buckets s key)) (same_true own source has)

-- a packet that a wait of the source gave with the key has the bucket of these
from_bucket : (buckets : ℕ) (source : Source) (key : ℕ) (x : Packet) → is_from source key x ≡ true
    → bucket_of buckets x ≡ Some (bucket buckets source key)
from_bucket buckets source key x from =
    let kind = and_parts (eqb x.kind 1) (eqb x.key key && has_source source x.source) from in
    let rest = and_parts (eqb x.key key) (has_source source x.source) kind.1 in
    rw (kind.0, eqb-true x.key key rest.0) (has_bucket buckets source key x.source rest.1)

-- what doesn't lie in the bucket of these isn't one of them
pub not_from : (buckets own : ℕ) (source : Source) (key : ℕ) (x : Packet) → own ≡ bucket buckets source key
    → lies_in buckets own x ≡ false → is_from source key x ≡ false
not_from buckets own source key x here apart = by (is_from source key x) refl
  where
    by : (t : Bool) → is_from source key x ≡ t → t ≡ false
    by false from = refl
    by true from = absurd (true≢false (sym (rw (from_bucket buckets source key x from) (eq-eqb own (bucket buckets source key) here)) ∙ apart))
