-- What a call that is answered OK gives fits what its rule says.
use Rattle.zl_verify.proofs.Common.{ANY, AbsVal, AllByRecursion, Bool, CallInstr, CallName, DUPLICATE, Describes, Entry, Has, Holds, Image, IsAs, IsSizedPacket}
use Rattle.zl_verify.proofs.Common.{IsSound, IsState, KNOWN_RIGHTS, Kind, KindOf, Library, List, None, Ok, Operand, Option, Packet, Process, QueuesAreSized}
use Rattle.zl_verify.proofs.Common.{Request, RightsOf, SAME_RIGHTS, Site, SlotArray, Some, State, Table, Uses, Word, World, [], active, answer_if, any, ap}
use Rattle.zl_verify.proofs.Common.{arith, array_fault, bit_and, bits, both, can_be_named, cannot_keep, chan_read_etc, chan_read_slots, copy_of}
use Rattle.zl_verify.proofs.Common.{default_rights_of, dup, entering_at, entry_at, eq-eqb, eqb-true, examined_all, false, false≢true, fault_of, first_bytes}
use Rattle.zl_verify.proofs.Common.{first_handles, first_values, get, get_or-set_other, get_or_from_slice_get, gives_ok, handle_operands, has_one}
use Rattle.zl_verify.proofs.Common.{if◌then◌else◌, info_of, inl, inr, is_empty, is_has, is_some, kept_by, kind_in, kind_number, length, listed, listed_none}
use Rattle.zl_verify.proofs.Common.{may_choose, may_get_all, narrowed_value, nat_le, nat_tests, needs, new, new_entry, new_handles, number_at, object_at}
use Rattle.zl_verify.proofs.Common.{packets_at, process_start, process_with, queue_at, refl, refusal, reg, register_count, replace, rights_in, rights_of}
use Rattle.zl_verify.proofs.Common.{room_in, rounded, site_of, sizes_of, slice_get, slice_index, slice_index_or, slice_set, slots_filled, subst, suc, sym}
use Rattle.zl_verify.proofs.Common.{taken_handles, taking, test_fails, test_passes, told_of, triple_results, true, uses_of, value_at, with_rights, with_value}
use Rattle.zl_verify.proofs.Common.{within, written, zero, zeros_in_front, ℕ, ◌&&◌, ◌*◌, ◌+◌, ◌<◌, ◌==◌, ◌∙◌, ◌∷◌, ◌≡◌, ◌≢◌, ◌≤◌}
use Rattle.zl_rights.specs.declared.kind.Kind.TheVariants as kind
use Rattle.zl_rights.specs.declared.status.Status.TheVariants as status
use Rattle.zl_code.specs.declared.history.CallName.TheVariants as name
use Rattle.zl_abs.specs.declared.cause.Cause.TheVariants as cause
use Rattle.std.proofs.lemmas.Bool.{and_parts, or_parts}
use Rattle.zl_verify.proofs.Agreeing.{above}
use Rattle.zl_verify.proofs.Emptying.{left_slots}
use Rattle.zl_verify.proofs.Examining.{IsLive, parts, passes_live}
use Rattle.zl_verify.proofs.Fitting.{Fits}
use Rattle.zl_verify.proofs.Giving.{HasFewRights, kind_few, long_thrice, wide_thrice, status_fits, zeros_fit, IsFreeLast, AllAs, getting, getting_all}
use Rattle.zl_verify.proofs.Giving.{handles_fit, triples_fit}
use Rattle.zl_verify.proofs.OwnTable.{losing_all, losing, own_handles, MayGetOwn}
use Rattle.zl_verify.proofs.Keeping.{as_many, filled_is, getting_more, keeping_holds}
use Rattle.zl_verify.proofs.Owners.{is_has-untagged, value_at-with}
use Rattle.zl_verify.proofs.Sites.{call, AtSite, of_site}
use Rattle.zl_verify.proofs.Aligned.{places_end}
use Rattle.zl_verify.proofs.Standing.{Stands, reads_own}
use Rattle.zl_verify.proofs.Calm.{entry_rights, signals_few, first_sizes, packets_at_sized, first_rights}
use Rattle.zl_abs.proofs.Order.{within_left}

-- ---- a copy of a handle

-- the first operand is a live handle, as its value says
named_as : (a : AbsVal) (f : Table) (xs : List ℕ) (x : ℕ) (o : Operand) → o.may_be_zero ≡ false → fault_of o a ≡ None → Describes f xs a x
    → (asked d : ℕ) (e : Option Entry) → f x ≡ e → is_empty (copy_of e asked) ≡ false → AllAs ((d, narrowed_value a asked) ∷ []) (copy_of e asked)
named_as (Word m) f xs x o some ok l asked d e is one = cc (rw some at ok)
named_as (Has maybe kind rights) f xs x o some ok (inl (m, z)) asked d e is one = cc (rw (m, some) at ok)
named_as (Has maybe kind rights) f xs x o some ok (inr l) asked d None is one = cc
named_as (Has maybe kind rights) f xs x o some ok (inr l) asked d (Some y) is one =
    by (asked == SAME_RIGHTS) (within asked (bits y.rights)) (subst (IsAs kind rights) is l) one
  where
    by : (b c : Bool) → IsAs kind rights (Some y) → is_empty (with_rights y (if b then Some y.rights else (if c then Some (rights_of asked) else None))) ≡ false
        → AllAs ((d, Has true kind (if b then rights else rights_of (bit_and asked KNOWN_RIGHTS))) ∷ [])
        (with_rights y (if b then Some y.rights else (if c then Some (rights_of asked) else None)))
    by true c (k, r) e = ((k, r), tt)
    by false true (k, r) e = ((k, within_left asked KNOWN_RIGHTS), tt)
    by false false h e = cc
named_as _ f xs x o some ok l asked d e is one = cc

-- a handle that is copied stands at a value other than 0
some_value : (x : ℕ) (f : Table) (e : Option Entry) (asked : ℕ) → f 0 ≡ None → f x ≡ e → is_empty (copy_of e asked) ≡ false → 0 < x
some_value zero f None asked none is one = cc
some_value zero f (Some y) asked none is one = let bad : ◌≡◌ {A = Option Entry} (Some y) None = sym is ∙ none in cc
some_value (suc n) f e asked none is one = omega arith

-- a handle that left its table isn't there
is_gone : (q : Process) (x : ℕ) → get (losing_all (x ∷ []) q).handles x ≡ None
is_gone q x = ap (λ f. f x) (losing x q) ∙ rw (eq-eqb x x refl) refl

-- the value of a handle that is replaced comes back, with other rights
replaced_as : (a : AbsVal) (f : Table) (xs : List ℕ) (x : ℕ) (o : Operand) → o.may_be_zero ≡ false → fault_of o a ≡ None → Describes f xs a x
    → (asked d : ℕ) (e : Option Entry) → f x ≡ e → is_empty (copy_of e asked) ≡ false
    → f 0 ≡ None → x ≤ ANY → (q1 : Process) → get q1.handles x ≡ None → (s : State) (ys : List ℕ)
    → Fits (get q1.handles) s ys ((d, narrowed_value a asked) ∷ []) (x ∷ []) (get (getting_all (copy_of e asked) (x ∷ []) q1).handles)
replaced_as a f xs x o some ok l asked d e is one none few q1 gone s ys = by a (copy_of e asked) one (named_as a f xs x o some ok l asked d e is one)
  where
    live : 0 < x
    live = some_value x f e asked none is one

    by : (a : AbsVal) (es : List Entry) → is_empty es ≡ false → AllAs ((d, narrowed_value a asked) ∷ []) es
        → Fits (get q1.handles) s ys ((d, narrowed_value a asked) ∷ []) (x ∷ []) (get (getting_all es (x ∷ []) q1).handles)
    by a [] one all = cc
    by (Has maybe kind rights) (y ∷ []) one (fits, more) = (get (process_with x y q1).handles, inr (y, few, live, gone, fits, getting x y q1), refl)
    by (Has maybe kind rights) (y ∷ z ∷ es) one (fits, more) = absurd more
    by _ (y ∷ es) one all = absurd all

-- ---- packets and messages

pub packets_fit : (bounds : List ℕ) (packets : List Packet) → AllByRecursion IsSizedPacket packets → (f : Table) (s : State) (xs : List ℕ) (d e g h : ℕ)
    → Fits f s xs ((d, Word ANY) ∷ (e, Word (rounded bounds 1)) ∷ (g, Word ANY) ∷ (h, Word ANY) ∷ []) (first_values packets) f
packets_fit bounds [] x f s xs d e g h = zeros_fit f s xs ((d, Word ANY) ∷ (e, Word (rounded bounds 1)) ∷ (g, Word ANY) ∷ (h, Word ANY) ∷ []) refl
packets_fit bounds (y ∷ rest) (x, more) f s xs d e g h = (
  f,
  (x.key, x.key, refl),
  (
    f,
    (above bounds y.kind 1 x.kind (omega (arith, x.kind)), omega (arith, x.kind), refl),
    (f, (x.trigger, x.trigger, refl), (f, (x.observed, x.observed, refl), refl)),
  ),
)

has_places : (room places : ℕ) (a b : ℕ) → (nat_le a room && nat_le b places) ≡ true → (a ≤ room) × (b ≤ places)
has_places room places a b e =
    let two = both (nat_le a room) (nat_le b places) e in
    let first : nat_le a room ≡ true = two.0 in
    let second : nat_le b places ≡ true = two.1 in
    (grind (arith, nat_tests), grind (arith, nat_tests))

-- the message that is read has room where it is to go
pub message_fits : (lib : Library) (w : World) (p h address room places : ℕ) → refusal lib w p (chan_read_etc h address room places) ≡ None
    → (length (first_bytes (queue_at w p h)) ≤ room) × (length (first_handles (queue_at w p h)) ≤ places)
unfolding listed
message_fits lib w p h address room places none =
    has_places room places (length (first_bytes (queue_at w p h))) (length (first_handles (queue_at w p h)))
    (test_passes _ status.BufferTooSmall (listed_none lib w p (chan_read_etc h address room places) none).1.1.0)

-- so has one that is read into slots
pub slots_fit : (lib : Library) (w : World) (p h address room array places : ℕ) → refusal lib w p (chan_read_slots h address room array places) ≡ None
    → (length (first_bytes (queue_at w p h)) ≤ room) × (length (first_handles (queue_at w p h)) ≤ places)
unfolding listed
slots_fit lib w p h address room array places none =
    has_places room places (length (first_bytes (queue_at w p h))) (length (first_handles (queue_at w p h)))
    (test_passes _ status.BufferTooSmall (listed_none lib w p (chan_read_slots h address room array places) none).1.1.0)

-- ---- what is told of a handle

-- a value that passes as a handle other than 0 is that of one
has_value : (o : Operand) (a : AbsVal) → o.may_be_zero ≡ false → fault_of o a ≡ None → is_has a ≡ true
has_value o (Word m) some e = cc (rw some at e)
has_value o (Has maybe kind rights) some e = refl
has_value o _ some e = cc

has_named : (a : AbsVal) → is_has a ≡ true → can_be_named a ≡ true
has_named (Has maybe kind rights) e = refl
has_named _ e = cc

-- an operand that isn't consumed leaves the state as it was
same_left : (s t : State) (o : Operand) → o.is_taken ≡ false → examined_all s (o ∷ []) ≡ Ok t → s ≡ t
unfolding examined_all
same_left s t o named e = by o.is_taken named (parts s t o [] e).1
  where
    by : (b : Bool) → b ≡ false → examined_all (if b then with_value s o.value (Word 0) else s) [] ≡ Ok t → s ≡ t
    by false is k = cc
    by true is k = cc

-- the handle that such an operand names
live_there : (f : Table) (o : Operand) (x : ℕ) → o.may_be_zero ≡ false → IsLive f o x → (e : Entry) × (f x ≡ Some e)
live_there f o x some (inl z) = absurd (false≢true (sym some ∙ (and_parts o.may_be_zero (x == 0) z).0))
live_there f o x some (inr (e, there, kind, rights)) = (e, there)

-- a register with a handle is none without one
has_apart : (s : State) (b r : ℕ) → is_has (value_at s b) ≡ true → is_has (value_at s r) ≡ false → b ≢ r
has_apart s b r has free same = false≢true (sym free ∙ (ap (λ k. is_has (value_at s k)) (sym same) ∙ has))

three_free : (s : State) (a b c : ℕ) (x y z : AbsVal) → has_one s ((a, x) ∷ (b, y) ∷ (c, z) ∷ []) ≡ false
    → (is_has (value_at s a) ≡ false) × (is_has (value_at s b) ≡ false) × (is_has (value_at s c) ≡ false)
three_free s a b c x y z free =
    let first = or_parts (is_has (value_at s a)) (has_one s ((b, y) ∷ (c, z) ∷ [])) free in
    let second = or_parts (is_has (value_at s b)) (has_one s ((c, z) ∷ [])) first.1 in
    (first.0, second.0, (or_parts (is_has (value_at s c)) false second.1).0)

-- its kind and its rights
info_fits : (f : Table) (s : State) (xs : List ℕ) (b c d : ℕ) (e : Entry) → is_has (value_at s b) ≡ true → b ≢ c → b ≢ d → f (slice_index xs b) ≡ Some e
    → HasFewRights e → Fits f s xs ((c, KindOf b) ∷ (d, RightsOf b) ∷ []) (info_of (Some e)) f
info_fits f s xs b c d e has at_c at_d there few = (
  f,
  (λ z. at_c z, has_named (value_at s b) has, kind_few e.kind, sym (ap kind_in there), refl),
  (f, (λ z. at_d z, has_named (value_at (with_value s c (KindOf b)) b) still, few, sym (ap rights_in (ap f read ∙ there)), refl), refl),
)
  where
    still : is_has (value_at (with_value s c (KindOf b)) b) ≡ true
    still = ap is_has (value_at-with s c b (KindOf b) at_c) ∙ (is_has-untagged c (value_at s b) ∙ has)

    read : slice_index (slice_set xs c (kind_number e.kind)) b ≡ slice_index xs b
    read = get_or-set_other xs c b (kind_number e.kind) 0 at_c

-- a handle to a new object is as the rule says
new_as : (koid : ℕ) (k : Kind) → IsAs (Some k) (rights_of (default_rights_of k)) (Some (new_entry koid k))
new_as koid kind.Process = (refl, refl)
new_as koid _ = (refl, refl)

-- an array in which a handle is kept of which nothing is known
can_keep : (o : Option SlotArray) → cannot_keep o ≡ None → (t : SlotArray) × (o ≡ Some t) × (t.kind ≡ None) × (bits t.rights ≡ 0)
can_keep None e = cc
can_keep (Some t) e = by t.kind refl (bits t.rights == 0) refl e
  where
    by : (k : Option Kind) → t.kind ≡ k → (b : Bool) → (bits t.rights == 0) ≡ b
        → (if is_some k then Some cause.WrongKind else if b then None else Some cause.LacksRight) ≡ None
        → (u : SlotArray) × (Some t ≡ Some u) × (u.kind ≡ None) × (bits u.rights ≡ 0)
    by None is true bare e = (t, refl, is, eqb-true (bits t.rights) 0 bare)
    by None is false bare e = cc
    by (Some k) is b bare e = cc

-- room for handles is room in front
room_few : (slots : List (List ℕ)) (n : ℕ) → room_in (slice_get slots n) ≤ zeros_in_front (slice_index_or slots n [])
room_few slots n = by (slice_get slots n) refl
  where
    by : (o : Option (List ℕ)) → slice_get slots n ≡ o → room_in o ≤ zeros_in_front (slice_index_or slots n [])
    by None is = omega arith
    by (Some places) is = subst (λ l. room_in (Some places) ≤ zeros_in_front l) (sym (get_or_from_slice_get slots n places [] is)) (omega arith)

all_fit : (a b : ℕ) → a ≡ b → {room front : ℕ} → b ≤ room → room ≤ front → a ≤ front
all_fit a b same fits few = omega arith

-- what may be chosen for the new handles, where they enter the caller's own table
pub own_chosen : (r : Request) (w u : World) (p : ℕ) (q : Process) (vs : List ℕ) → get u.processes p ≡ Some q → may_choose w u p r vs ≡ true
    → MayGetOwn w p q r vs
unfolding may_choose
own_chosen (process_start process h word) w u p q vs there may = tt
own_chosen _ w u p q vs there may = rw there at may

-- ---- each call

-- the table of q without the handles that the request consumes, and with those that it gives
abbrev pub taken_from_table : Process → Request → Table
taken_from_table q r = get (losing_all (taken_handles r) q).handles

abbrev pub given_to_table : World → ℕ → Process → Request → List ℕ → Table
given_to_table w p q r vs = get (getting_all (own_handles w p r) (entering_at r vs) (losing_all (taken_handles r) q)).handles

-- the table once values are kept in slots: with what is given, where that is kept there
abbrev pub kept_in_table : World → ℕ → Process → Request → List ℕ → Table
kept_in_table w p q (chan_read_slots c address room array places) vs = given_to_table w p q (chan_read_slots c address room array places) vs
kept_in_table w p q r vs = taken_from_table q r

-- the answer OK of the request gives what fits these uses
abbrev pub Works : World → ℕ → Process → State → List ℕ → Request → List ℕ → Uses → Type 0
Works w p q s xs r vs u = Fits (kept_in_table w p q r vs) s xs u.results (0 ∷ gives_ok w p r vs) (given_to_table w p q r vs)

module _ (lib : Library) (w : World) (p : ℕ) (q : Process) (sound : IsSound w) (sized : QueuesAreSized w) (free : IsFreeLast q) (none : get q.handles 0 ≡ None)
    (s : State) (xs : List ℕ) (long : length s ≡ register_count) (wide : length xs ≡ length s) (vs : List ℕ) where
  -- a status, and then these
  told : (f : Table) (a : ℕ) (ds : List (ℕ × AbsVal)) (ys : List ℕ) (g : Table) → Fits f (with_value s a (Word 30)) (slice_set xs a 0) ds ys g
      → Fits f s xs ((a, Word 30) ∷ ds) (0 ∷ ys) g
  told f a ds ys g later = status_fits f s xs a ds 0 ys g (omega arith) later

  -- nothing more
  alone_told : (f : Table) (a : ℕ) (ys : List ℕ) → Fits f s xs ((a, Word 30) ∷ []) (0 ∷ ys) f
  alone_told f a ys = told f a [] ys f refl

  -- new handles behind it
  new_told : (a : ℕ) (ds : List (ℕ × AbsVal)) (es : List Entry) → may_get_all q es vs ≡ true → AllAs ds es
      → Fits (get q.handles) s xs ((a, Word 30) ∷ ds) (0 ∷ vs) (get (getting_all es vs q).handles)
  new_told a ds es may all =
      told (get q.handles) a ds vs (get (getting_all es vs q).handles) (handles_fit ds es vs q (with_value s a (Word 30)) (slice_set xs a 0) free may all)

  -- a handle to a new object in this register
  one_told : (a d : ℕ) (k : Kind) → may_get_all q (new_entry w.next_koid k ∷ []) vs ≡ true
      → Fits (get q.handles) s xs ((a, Word 30) ∷ (d, new k) ∷ []) (0 ∷ vs) (get (getting_all (new_entry w.next_koid k ∷ []) vs q).handles)
  one_told a d k may = new_told a ((d, new k) ∷ []) (new_entry w.next_koid k ∷ []) may (new_as w.next_koid k, tt)

  -- a number of 32 bits behind it
  signals_told : (f : Table) (a d k : ℕ) → Fits f s xs ((a, Word 30) ∷ (d, Word 0xffff_ffff) ∷ []) (0 ∷ active w k ∷ []) f
  signals_told f a d k = told f a ((d, Word 0xffff_ffff) ∷ []) (active w k ∷ []) f (f, (signals_few w sound k, few (signals_few w sound k), refl), refl)
    where
      few : {n : ℕ} → n ≤ 0xffff_ffff → n ≤ ANY
      few le = omega arith

  packet_told : (bounds : List ℕ) (f : Table) (h a d e g j : ℕ)
      → Fits f s xs ((a, Word 30) ∷ (d, Word ANY) ∷ (e, Word (rounded bounds 1)) ∷ (g, Word ANY) ∷ (j, Word ANY) ∷ []) (0 ∷ first_values (packets_at w p h)) f
  packet_told bounds f h a d e g j =
      told f a ((d, Word ANY) ∷ (e, Word (rounded bounds 1)) ∷ (g, Word ANY) ∷ (j, Word ANY) ∷ []) (first_values (packets_at w p h)) f
      (packets_fit bounds (packets_at w p h) (packets_at_sized w sized p h) f (with_value s a (Word 30)) (slice_set xs a 0) d e g j)

  -- the sizes of a message
  sizes_told : (f : Table) (h a d e : ℕ) → Fits f s xs ((a, Word 30) ∷ (d, Word 65536) ∷ (e, Word 64) ∷ []) (0 ∷ sizes_of (queue_at w p h)) f
  sizes_told f h a d e =
      let sizes = first_sizes w sized p h in
      told f a ((d, Word 65536) ∷ (e, Word 64) ∷ []) (sizes_of (queue_at w p h)) f
      (f, (sizes.0, few sizes.0, refl), (f, (sizes.1, fewer sizes.1, refl), refl))
    where
      few : {n : ℕ} → n ≤ 65536 → n ≤ ANY
      few le = omega arith

      fewer : {n : ℕ} → n ≤ 64 → n ≤ ANY
      fewer le = omega arith

  -- the kind and the rights of a handle
  info_told : (a b c d : ℕ) → is_has (value_at s b) ≡ true → b ≢ a → b ≢ c → b ≢ d → (h : ℕ) → slice_index xs b ≡ h → (e : Entry)
      → get q.handles h ≡ Some e → HasFewRights e
      → Fits (get q.handles) s xs ((a, Word 30) ∷ (c, KindOf b) ∷ (d, RightsOf b) ∷ []) (0 ∷ info_of (Some e)) (get q.handles)
  info_told a b c d has at_a at_c at_d h read e there few =
      told (get q.handles) a ((c, KindOf b) ∷ (d, RightsOf b) ∷ []) (info_of (Some e)) (get q.handles)
      (info_fits (get q.handles) (with_value s a (Word 30)) (slice_set xs a 0) b c d e still at_c at_d
      (ap (get q.handles) (get_or-set_other xs a b 0 0 at_a ∙ read) ∙ there) few)
    where
      still : is_has (value_at (with_value s a (Word 30)) b) ≡ true
      still = ap is_has (value_at-with s a b (Word 30) at_a) ∙ (is_has-untagged a (value_at s b) ∙ has)

  -- the sizes of a message, and its handles
  message_told : (h a d e g n : ℕ) → g + 3 * n ≤ register_count → length (first_handles (queue_at w p h)) ≤ n
      → may_get_all q (first_handles (queue_at w p h)) vs ≡ true
      → Fits (get q.handles) s xs ((a, Word 30) ∷ (d, Word 65536) ∷ (e, Word 64) ∷ triple_results g n)
      (0 ∷ length (first_bytes (queue_at w p h)) ∷ length (first_handles (queue_at w p h)) ∷ told_of (first_handles (queue_at w p h)) vs)
      (get (getting_all (first_handles (queue_at w p h)) vs q).handles)
  message_told h a d e g n ends fits may =
      let sizes = first_sizes w sized p h in
      told (get q.handles) a ((d, Word 65536) ∷ (e, Word 64) ∷ triple_results g n)
      (length (first_bytes (queue_at w p h)) ∷ length (first_handles (queue_at w p h)) ∷ told_of (first_handles (queue_at w p h)) vs)
      (get (getting_all (first_handles (queue_at w p h)) vs q).handles) (
        get q.handles,
        (sizes.0, few sizes.0, refl),
        (
          get q.handles,
          (sizes.1, fewer sizes.1, refl),
          triples_fit n g (first_handles (queue_at w p h)) vs q s3 xs3 (subst (λ m. g + 3 * n ≤ m) (sym (long3 ∙ long)) ends)
              (wide3 ∙ (wide ∙ sym long3)) fits none free may (first_rights w sound p h),
        ),
      )
    where
      few : {n : ℕ} → n ≤ 65536 → n ≤ ANY
      few le = omega arith

      fewer : {n : ℕ} → n ≤ 64 → n ≤ ANY
      fewer le = omega arith

      s3 : State
      s3 = with_value (with_value (with_value s a (Word 30)) d (Word 65536)) e (Word 64)

      xs3 : List ℕ
      xs3 = slice_set (slice_set (slice_set xs a 0) d (length (first_bytes (queue_at w p h)))) e (length (first_handles (queue_at w p h)))

      long3 : length s3 ≡ length s
      long3 = long_thrice s a d e (Word 30) (Word 65536) (Word 64)

      wide3 : length xs3 ≡ length xs
      wide3 = wide_thrice xs a d e 0 (length (first_bytes (queue_at w p h))) (length (first_handles (queue_at w p h)))

  module _ (before : State) (arrays : List SlotArray) (bounds : List ℕ) where
    -- the answer OK of the call at the site fits, where xs are the registers once those of consumed operands are 0
    abbrev pub IsWorking : CallInstr → Site → Type 0
    IsWorking x t =
        xs ≡ written q.cpu.registers t.consumed [] → Stands w p q x t before arrays bounds s
        → MayGetOwn w p (losing_all (taken_handles t.request) q) t.request vs → refusal lib w p t.request ≡ None
        → Works w p q s xs t.request vs (uses_of bounds before x)

    -- a live handle that the first operand names
    live_at : {x : CallInstr} {t : Site} (k : Stands w p q x t before arrays bounds s) (h : ℕ) → get q.handles h ≡ entry_at w p h
    live_at k h = sym (ap (λ f. f h) (reads_own k))

    first_passes : (o : Operand) (rest : List Operand) → examined_all before (o ∷ rest) ≡ Ok s → fault_of o (value_at before o.value) ≡ None
    first_passes o rest e = (parts before s o rest e).0

    is_copied : (e : Option Entry) (rights : ℕ) → answer_if (is_empty (copy_of e rights)) status.InvalidArgs ≡ None → is_empty (copy_of e rights) ≡ false
    is_copied e rights none = test_fails _ status.InvalidArgs none

    works_by : (n : CallName) (rs last : List ℕ) → AtSite q.cpu (call n rs last) (IsWorking (call n rs last))
    unfolding uses_of gives_ok new_handles taken_handles handle_operands listed
    works_by name.Dup rs last = λ read k may passes.
        let at : ℕ → ℕ = slice_index rs in
        let imm : ℕ = number_at last 0 4 in
        let h : ℕ = reg q.cpu (at 1) in
        let ok = first_passes (needs (at 1) any DUPLICATE) [] k.operands in
        let one = is_copied (entry_at w p h) imm (listed_none lib w p (dup h imm) passes).0 in
        new_told (at 0) ((at 2, narrowed_value (value_at before (at 1)) imm) ∷ []) (copy_of (entry_at w p h) imm) may
        (named_as (value_at before (at 1)) (get q.handles) q.cpu.registers h (needs (at 1) any DUPLICATE) refl ok (k.holds.described (at 1)) imm (at 2)
        (entry_at w p h) (live_at k h) one)
    works_by name.Replace rs last = λ read k may passes.
        let at : ℕ → ℕ = slice_index rs in
        let imm : ℕ = number_at last 0 4 in
        let h : ℕ = reg q.cpu (at 1) in
        let lost : Process = losing_all (h ∷ []) q in
        let ok = first_passes (taking (at 1) any 0) [] k.operands in
        let one = is_copied (entry_at w p h) imm (listed_none lib w p (replace h imm) passes).0 in
        told (get lost.handles) (at 0) ((at 2, narrowed_value (value_at before (at 1)) imm) ∷ []) (h ∷ [])
        (get (getting_all (copy_of (entry_at w p h) imm) (h ∷ []) lost).handles)
        (replaced_as (value_at before (at 1)) (get q.handles) q.cpu.registers h (taking (at 1) any 0) refl ok (k.holds.described (at 1)) imm (at 2)
        (entry_at w p h) (live_at k h) one
        none (k.holds.small (at 1)) lost (is_gone q h) (with_value s (at 0) (Word 30)) (slice_set xs (at 0) 0))
    works_by name.ChanCreate rs last = λ read k may passes.
        new_told (slice_index rs 0) ((slice_index rs 1, new kind.Channel) ∷ (slice_index rs 2, new kind.Channel) ∷ [])
        (new_entry w.next_koid kind.Channel ∷ new_entry (w.next_koid + 1) kind.Channel ∷ []) may ((refl, refl), ((refl, refl), tt))
    works_by name.ChanReadEtc rs last = λ read k may passes.
        let at : ℕ → ℕ = slice_index rs in
        let places : ℕ = number_at last 0 4 in
        let h : ℕ = reg q.cpu (at 1) in
        message_told h (at 0) (at 4) (at 5) (at 6) places (places_end rs last k.in_range)
        (message_fits lib w p h (reg q.cpu (at 2)) (reg q.cpu (at 3)) places passes).1 may
    works_by name.ChanReadSlots rs last = λ read k may passes.
        let at : ℕ → ℕ = slice_index rs in sizes_told _ (reg q.cpu (at 1)) (at 0) (at 4) (at 5)
    works_by name.HandleInfo rs last = λ read k may passes.
        let at : ℕ → ℕ = slice_index rs in
        let h : ℕ = reg q.cpu (at 1) in
        let named : Operand = needs (at 1) any 0 in
        let ok = first_passes named [] k.operands in
        let is = same_left before s named refl k.operands in
        let has = ap (λ t. is_has (value_at t (at 1))) (sym is) ∙ has_value named (value_at before (at 1)) refl ok in
        let (e, there) = live_there (get q.handles) named h refl
        (passes_live (get q.handles) q.cpu.registers named (value_at before (at 1)) h ok (k.holds.described (at 1))) in
        let free = three_free s (at 0) (at 2) (at 3) (Word 30) (KindOf (at 1)) (RightsOf (at 1)) k.free in
        let here : entry_at w p h ≡ Some e = sym (live_at k h) ∙ there in
        subst (λ o. Fits (get q.handles) s xs ((at 0, Word 30) ∷ (at 2, KindOf (at 1)) ∷ (at 3, RightsOf (at 1)) ∷ []) (0 ∷ info_of o) (get q.handles))
        (sym here)
        (info_told (at 0) (at 1) (at 2) (at 3) has (has_apart s (at 1) (at 0) has free.0) (has_apart s (at 1) (at 2) has free.1)
        (has_apart s (at 1) (at 3) has free.2) h (ap (λ ys. slice_index ys (at 1)) read) e there (entry_rights w sound p h e here))
    works_by name.EventCreate rs last = λ read k may passes. one_told (slice_index rs 0) (slice_index rs 1) kind.Event may
    works_by name.WaitOne rs last = λ read k may passes. signals_told _ (slice_index rs 0) (slice_index rs 3) (object_at w p (reg q.cpu (slice_index rs 1)))
    works_by name.WaitPoll rs last = λ read k may passes. signals_told _ (slice_index rs 0) (slice_index rs 3) (object_at w p (reg q.cpu (slice_index rs 1)))
    works_by name.PortCreate rs last = λ read k may passes. one_told (slice_index rs 0) (slice_index rs 1) kind.Port may
    works_by name.PortWait rs last =
        λ read k may passes. let at : ℕ → ℕ = slice_index rs in packet_told bounds _ (reg q.cpu (at 1)) (at 0) (at 2) (at 3) (at 4) (at 5)
    works_by name.PortPoll rs last =
        λ read k may passes. let at : ℕ → ℕ = slice_index rs in packet_told bounds _ (reg q.cpu (at 1)) (at 0) (at 2) (at 3) (at 4) (at 5)
    works_by name.ProcessCreate rs last = λ read k may passes. one_told (slice_index rs 0) (slice_index rs 3) kind.Process may
    works_by name.ProcessStart rs last = λ read k may passes. alone_told _ (slice_index rs 0) []
    works_by name.ProcessExit rs last = λ read k may passes. refl
    works_by name.JobCreate rs last = λ read k may passes. one_told (slice_index rs 0) (slice_index rs 2) kind.Job may
    works_by name.EventpairCreate rs last = λ read k may passes.
        new_told (slice_index rs 0) ((slice_index rs 1, new kind.Eventpair) ∷ (slice_index rs 2, new kind.Eventpair) ∷ [])
        (new_entry w.next_koid kind.Eventpair ∷ new_entry (w.next_koid + 1) kind.Eventpair ∷ []) may ((refl, refl), ((refl, refl), tt))
    works_by _ rs last = λ read k may passes. alone_told _ (slice_index rs 0) vs

    -- What the state describes is so beside the table and the slots of which values are kept in slots, if it was so of those from which places are emptied.
    abbrev pub IsKeeping : (i : Image) → CallInstr → Site → Type 0
    IsKeeping i x t =
        array_fault i (uses_of bounds before x).array ≡ None → MayGetOwn w p (losing_all (taken_handles t.request) q) t.request vs
        → refusal lib w p t.request ≡ None
        → Holds (taken_from_table q t.request) s xs i.slots (left_slots q.cpu.slots t.emptied)
        → Holds (kept_in_table w p q t.request vs) s xs i.slots
        (left_slots (slots_filled q.cpu.slots (kept_by t.request vs)) t.emptied)

    keeps_by : (i : Image) → IsState s → (n : CallName) (rs last : List ℕ) → AtSite q.cpu (call n rs last) (IsKeeping i (call n rs last))
    unfolding uses_of new_handles taken_handles handle_operands
    keeps_by i states name.ChanReadSlots rs last = λ fault may passes h.
        let at : ℕ → ℕ = slice_index rs in
        let n : ℕ = number_at last 0 4 in
        let c : ℕ = reg q.cpu (at 1) in
        let es : List Entry = first_handles (queue_at w p c) in
        let (t, there, any_kind, no_rights) = can_keep (slice_get i.slots n) fault in
        let fits = (slots_fit lib w p c (reg q.cpu (at 2)) (reg q.cpu (at 3)) n (room_in (slice_get q.cpu.slots n)) passes).1 in
        let g : Table = get (getting_all es vs q).handles in
        let more = getting_more es vs q free may in
        subst (Holds g s xs i.slots) (sym (filled_is h states g vs more n t there any_kind no_rights))
        (keeping_holds h states g vs more n t there any_kind no_rights
        (all_fit (length vs) (length es) (as_many es vs q may) fits (room_few q.cpu.slots n)))
    keeps_by i states _ rs last = λ fault may passes h. h

    pub keeps : (i : Image) → IsState s → (x : CallInstr) (t : Site) → site_of x q.cpu ≡ Some t → IsKeeping i x t
    keeps i states x t site = of_site q.cpu x t site (IsKeeping i x) (keeps_by i states x.name x.registers x.last)

    pub works : (x : CallInstr) (t : Site) → site_of x q.cpu ≡ Some t → IsWorking x t
    works x t site = of_site q.cpu x t site (IsWorking x) (works_by x.name x.registers x.last)
