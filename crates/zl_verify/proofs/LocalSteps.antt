-- The law of the local steps of a process that conforms.
use Rattle.zl_verify.proofs.Common.{Bool, CallInstr, CallName, Cause, Condition, Conforms, Cpu, Edge, Entry, Err, HandlesAreSound, Holds, Image, Instr, IsAble}
use Rattle.zl_verify.proofs.Common.{IsAbove, IsMemory, IsStuck, IsTrue, IsTyping, KNOWN_RIGHTS, Kind, List, LocalInstr, Moves, Next, None, Ok, OneOf, Option}
use Rattle.zl_verify.proofs.Common.{Process, Ready, Result, RuleHolds, Site, Some, StandsBy, State, Table, WaitsAt, World, [], and_then, ap, bits, both}
use Rattle.zl_verify.proofs.Common.{bounds_of, call_at, call_rule, calls_at, creates, default_rights_of, edge_to, edges, false, get, if◌then◌else◌, in_range_at}
use Rattle.zl_verify.proofs.Common.{inl, inr, instr_at, is_among, is_in_range, is_known, is_local_in_range, is_some, leads, leads_on, length, local_effect}
use Rattle.zl_verify.proofs.Common.{local_parts, local_rule, moves, nat_lt, next_at, next_of, on_process, ranges, refl, rule_by, rule_with, site_of, subst, sym}
use Rattle.zl_verify.proofs.Common.{target_of, targets_of, true, within, within_trans, ℕ, ◌++◌, ◌+◌, ◌∙◌, ◌∷◌, ◌≡◌, ◌≢◌, ◌⊎◌}
use Rattle.zl_abs.specs.Outcome.{Outcome}
use Rattle.zl_verify.specs.LocalLaws.{GoesOn}
use Rattle.zl_rights.specs.declared.kind.Kind.TheVariants as kind
use Rattle.zl_code.specs.declared.instr.Instr.TheVariants as instr
use Rattle.zl_abs.specs.declared.cause.Cause.TheVariants as cause
use Rattle.zl_verify.proofs.Weakening.{weaken}
use Rattle.zl_verify.proofs.Refining.{Known}
use Rattle.zl_verify.proofs.Agreeing.{Arrives, agrees}
use Rattle.zl_verify.proofs.CallSites.{IsGiven, memory_there}
use Rattle.zl_verify.proofs.Sites.{has_site}
use Rattle.zl_verify.proofs.Blocks.{can_turn, follows_along}
use Rattle.zl_verify.proofs.Suiting.{counted_there, typed_leads}

-- ---- facts of an image and of a world

defaults_known : (k : Kind) → within (default_rights_of k) KNOWN_RIGHTS ≡ true
defaults_known kind.Process = refl
defaults_known _ = refl

-- ---- the end of a followed edge

-- the typing has a state there, as which the process is, and an edge leads there
pub record Reaches (t : ℕ → Option State) (f : Table) (i : Image) (c : Cpu) (targets : List ℕ) : Type 0 where
  pub state : State
  pub stands : t c.counter ≡ Some state
  pub holds : Holds f state c.registers i.slots c.slots
  pub follows : OneOf (λ n. c.counter ≡ n) targets

module _ (t : ℕ → Option State) (f : Table) (i : Image) (c : Cpu) where
  arrived : (m : ℕ) (s : State) (targets : List ℕ) → c.counter ≡ m → IsAbove (t m) s → Holds f s c.registers i.slots c.slots
      → OneOf (λ n. c.counter ≡ n) targets → Reaches t f i c targets
  arrived m s targets e above h follows = by (t m) refl above
    where
      by : (o : Option State) → t m ≡ o → IsAbove o s → Reaches t f i c targets
      by None is bad = absurd bad
      by (Some u) is le = record { state = u; stands = ap t e ∙ is; holds = weaken u h le; follows = follows }

  module _ (size n target : ℕ) where
    -- an edge, and both, where these states stand on them
    abbrev one_edge : Bool → Cause → ℕ → Option State → Result (List Edge) Cause
    one_edge x c m None = Ok []
    one_edge x c m (Some s) = if x then Ok ((m, s) ∷ []) else Err c

    abbrev both_edges : Bool → Bool → Option State → Option State → Result (List Edge) Cause
    both_edges x y j o = and_then (one_edge x cause.BadJump target j) (λ xs. and_then (one_edge y cause.FallsOff (n + 1) o) (λ ys. Ok (xs ++ ys)))

    abbrev StandsAt : Option State → Option State → Type 0
    StandsAt j o = ((c.counter ≡ target) × Known f c.registers i.slots c.slots j) ⊎ ((c.counter ≡ n + 1) × Known f c.registers i.slots c.slots o)

    reached_by : (x y : Bool) (j o : Option State) → RuleHolds t (both_edges x y j o) → StandsAt j o → Reaches t f i c (targets_of (both_edges x y j o))
    reached_by x y None None k (inl (e, bad)) = absurd bad
    reached_by x y None None k (inr (e, bad)) = absurd bad
    reached_by x y None (Some s) k (inl (e, bad)) = absurd bad
    reached_by x true None (Some s) k (inr (e, h)) = arrived (n + 1) s _ e k.0 h (inl e)
    reached_by x false None (Some s) k (inr (e, h)) = absurd k
    reached_by x y (Some s) None k (inr (e, bad)) = absurd bad
    reached_by true y (Some s) None k (inl (e, h)) = arrived target s _ e k.0 h (inl e)
    reached_by false y (Some s) None k (inl (e, h)) = absurd k
    reached_by false y (Some s) (Some u) k at = absurd k
    reached_by true false (Some s) (Some u) k at = absurd k
    reached_by true true (Some s) (Some u) k (inl (e, h)) = arrived target s _ e k.0 h (inl e)
    reached_by true true (Some s) (Some u) k (inr (e, h)) = arrived (n + 1) u _ e k.1.0 h (inr (inl e))

    reached_with : (j o : Option State)
        → RuleHolds t (and_then (edge_to size cause.BadJump target j) (λ xs. and_then (edge_to size cause.FallsOff (n + 1) o) (λ ys. Ok (xs ++ ys))))
        → StandsAt j o → Reaches t f i c
        (targets_of (and_then (edge_to size cause.BadJump target j) (λ xs. and_then (edge_to size cause.FallsOff (n + 1) o) (λ ys. Ok (xs ++ ys)))))
    reached_with None None = reached_by (nat_lt target size) (nat_lt (n + 1) size) None None
    reached_with None (Some u) = reached_by (nat_lt target size) (nat_lt (n + 1) size) None (Some u)
    reached_with (Some s) None = reached_by (nat_lt target size) (nat_lt (n + 1) size) (Some s) None
    reached_with (Some s) (Some u) = reached_by (nat_lt target size) (nat_lt (n + 1) size) (Some s) (Some u)

    pub reached : (w : Result Outcome Cause) → RuleHolds t (and_then w (edges size n target)) → Arrives f i n target w (Some c)
        → IsMemory i c.memory × Reaches t f i c (targets_of (and_then w (edges size n target)))
    reached (Err x) k at = absurd k
    reached (Ok w) k at = (at.0, reached_with w.jumped w.passed k at.1)

-- an effect is there, where the rule holds
effect_there : (t : ℕ → Option State) (f : Table) (i : Image) (size n target : ℕ) (w : Result Outcome Cause) → RuleHolds t (and_then w (edges size n target))
    → Arrives f i n target w None → ⊥
effect_there t f i size n target (Err x) k at = absurd k
effect_there t f i size n target (Ok w) k at = absurd at

call_is_given : (t : ℕ → Option State) (size n target : ℕ) (w : Result Outcome Cause) → RuleHolds t (and_then w (edges size n target)) → IsGiven w
call_is_given t size n target (Err x) k = absurd k
call_is_given t size n target (Ok w) k = tt

abbrev moved_to : Cpu → Next → Cpu
moved_to d (Moves c) = c
moved_to d _ = d

-- ---- a Cpu by itself

module _ (i : Image) (t : ℕ → Option State) (range : IsTrue (is_in_range i)) (typing : IsTyping i t) (f : Table)
    (known : (v : ℕ) (e : Entry) → f v ≡ Some e → within (bits e.rights) KNOWN_RIGHTS ≡ true) (c0 : Cpu) (k : StandsBy i t f c0) where
  holds_at : (o : Option Instr) → instr_at i c0.counter ≡ o → RuleHolds t (rule_by (bounds_of i.code) i c0.counter k.state o)
  unfolding rule_with
  holds_at o is = rw is at (typing.holds c0.counter k.state k.stands)

  local_range : (x : LocalInstr) → instr_at i c0.counter ≡ Some (instr.Local x) → is_local_in_range x ≡ true
  local_range x is =
      (both (is_known i.version (local_parts x).opcode) (is_local_in_range x)
      (rw is at (in_range_at i.version i.raw i.code c0.counter (ranges i range).code))).1

  arrives : (x : LocalInstr) → instr_at i c0.counter ≡ Some (instr.Local x)
      → Arrives f i c0.counter (target_of x) (local_rule (bounds_of i.code) i x k.state) (local_effect x c0)
  arrives x is = agrees c0 k.holds (typing.state c0.counter k.state k.stands) k.memory known (bounds_of i.code) x (local_range x is)
      (can_turn i range c0 k.counters x is)

  leads_here : (x : LocalInstr) → instr_at i c0.counter ≡ Some (instr.Local x)
      → targets_of (and_then (local_rule (bounds_of i.code) i x k.state) (edges (length i.code) c0.counter (target_of x))) ≡ leads i t c0.counter
  unfolding rule_with
  leads_here x is = rw (k.stands, is) refl

  -- the Cpu stands at the end of a followed edge, as the typing says there
  abbrev GoesTo : Cpu → Type 0
  GoesTo c = OneOf (λ s. (c.counter, c.counters) ≡ s) (leads_on i t (c0.counter, c0.counters)) × StandsBy i t f c

  stepped : (x : LocalInstr) → instr_at i c0.counter ≡ Some (instr.Local x) → (c : Cpu) → local_effect x c0 ≡ Some c → GoesTo c
  stepped x is c effect =
      let r = reached t f i c (length i.code) c0.counter (target_of x) (local_rule (bounds_of i.code) i x k.state) (holds_at (Some (instr.Local x)) is)
      (rw effect at (arrives x is)) in
      let so = typed_leads i range c0.counter (t c0.counter) in
      let follows = follows_along i range c0 k.counters c x is effect (leads i t c0.counter) so
      (subst (OneOf (λ n. c.counter ≡ n)) (leads_here x is) r.1.follows) in (
        follows,
        record {
          state = r.1.state;
          stands = r.1.stands;
          holds = r.1.holds;
          memory = r.0;
          counters = counted_there i range c0.counter c0.counters (leads i t c0.counter) (c.counter, c.counters) so k.counters follows;
        },
      )

  -- a local instruction leads along a followed edge
  pub moves_on : (c : Cpu) → next_at i c0 ≡ Moves c → GoesTo c
  unfolding next_at
  moves_on c = by (instr_at i c0.counter) refl
    where
      one : (x : LocalInstr) → instr_at i c0.counter ≡ Some (instr.Local x) → (o : Option Cpu) → local_effect x c0 ≡ o → moves o ≡ Moves c → GoesTo c
      one x is None effect e = cc
      one x is (Some d) effect e = stepped x is c (effect ∙ ap Some (ap (moved_to d) e))

      no_move : (call : CallName) (o : Option Site) → calls_at call o ≡ Moves c → ⊥
      no_move call None e = cc
      no_move call (Some s) e = cc

      by : (o : Option Instr) → instr_at i c0.counter ≡ o → next_of o c0 ≡ Moves c → GoesTo c
      by (Some (instr.Local x)) is e = one x is (local_effect x c0) refl e
      by (Some (instr.Call x)) is e = absurd (no_move x.name (site_of x c0) e)
      by _ is e = cc

  call_goes : (x : CallInstr) → instr_at i c0.counter ≡ Some (instr.Call x) → (o : Option Site) → site_of x c0 ≡ o → calls_at x.name o ≢ IsStuck
  call_goes x is (Some s) site e = cc
  call_goes x is None site e =
      let given = call_is_given t (length i.code) c0.counter 0 (call_rule (bounds_of i.code) i x k.state) (holds_at (Some (instr.Call x)) is) in
      let bad : false ≡ true = sym (ap is_some site) ∙ (has_site x c0 ∙ memory_there c0 k.holds k.memory (bounds_of i.code) x given) in
      cc

  pub never_stuck : next_at i c0 ≢ IsStuck
  unfolding next_at
  never_stuck = by (instr_at i c0.counter) refl
    where
      one : (x : LocalInstr) → instr_at i c0.counter ≡ Some (instr.Local x) → (o : Option Cpu) → local_effect x c0 ≡ o → moves o ≢ IsStuck
      one x is None effect e =
          effect_there t f i (length i.code) c0.counter (target_of x) (local_rule (bounds_of i.code) i x k.state) (holds_at (Some (instr.Local x)) is)
          (rw effect at (arrives x is))
      one x is (Some d) effect e = cc

      by : (o : Option Instr) → instr_at i c0.counter ≡ o → next_of o c0 ≢ IsStuck
      by None is e = holds_at None is
      by (Some (instr.Local x)) is e = one x is (local_effect x c0) refl e
      by (Some (instr.Call x)) is e = call_goes x is (site_of x c0) refl e
      by (Some (instr.Unknown bytes)) is e = holds_at (Some (instr.Unknown bytes)) is

-- ---- the law of a Cpu

pub able_goes : (i : Image) (c : Cpu) → IsTrue (is_in_range i) → IsAble i c → next_at i c ≢ IsStuck
able_goes i c range a = never_stuck i a.typing range a.types a.table a.known c a.by

pub able_still : (i : Image) (c d : Cpu) → IsTrue (is_in_range i) → IsAble i c → next_at i c ≡ Moves d → IsAble i d
able_still i c d range a next =
    record { typing = a.typing; types = a.types; table = a.table; known = a.known; by = (moves_on i a.typing range a.types a.table a.known c a.by d next).1 }

-- ---- the law

module _ (i : Image) (t : ℕ → Option State) (w : World) (p : ℕ) (q : Process) (range : IsTrue (is_in_range i)) (typing : IsTyping i t)
    (sound : HandlesAreSound w)
    (is_there : get w.processes p ≡ Some q) (k : Conforms i t w p q) where
  known : (v : ℕ) (e : Entry) → get q.handles v ≡ Some e → within (bits e.rights) KNOWN_RIGHTS ≡ true
  known v e is = within_trans KNOWN_RIGHTS (default_rights_of e.kind) (bits e.rights) (defaults_known e.kind) (sound.rights p v q e is_there is)

  stands_by : StandsBy i t (get q.handles) q.cpu
  stands_by = record { state = k.state; stands = k.stands; holds = k.holds; memory = k.memory; counters = k.counters }

  -- its Cpu by itself is so too
  pub able_of : IsAble i q.cpu
  able_of = record { typing = t; types = typing; table = get q.handles; known = known; by = stands_by }

  still_allowed : (c : Cpu) (condition : Condition) → IsTrue (is_among i.needs condition)
      → creates (on_process w p (λ x. record x { cpu = c })) p condition ≡ None
  unfolding creates on_process
  still_allowed c condition e = k.allowed condition e

  waits_nowhere : (c : Cpu) → q.state ≡ Ready → WaitsAt q.state (call_at i c.counter)
  waits_nowhere c ready = rw ready tt

  pub goes_on : q.state ≡ Ready → (c : Cpu) → next_at i q.cpu ≡ Moves c → GoesOn i t w p q c
  goes_on ready c next =
      let (follows, s) = moves_on i t range typing (get q.handles) known q.cpu stands_by c next in
      record {
        follows = follows;
        conforms = record {
          state = s.state;
          stands = s.stands;
          holds = s.holds;
          memory = s.memory;
          counters = s.counters;
          allowed = still_allowed c;
          waits = waits_nowhere c ready;
        };
      }

  pub not_stuck : next_at i q.cpu ≢ IsStuck
  not_stuck = never_stuck i t range typing (get q.handles) known q.cpu stands_by
