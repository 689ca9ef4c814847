-- What becomes of the list and the marks: a process is taken out, put back, forgotten, or did something.
use Rattle.zl_sched.proofs.Common.{Bool, IsSound, IsTrue, Library, List, Listed, None, Process, Step, TraceItem, World, [], ap, arith, cases_Bool, eqb-true}
use Rattle.zl_sched.proofs.Common.{false, false≢true, get, if◌then◌else◌, inl, inr, is_in, is_process, is_ready, is_ready_or_over, length, length-append, lives}
use Rattle.zl_sched.proofs.Common.{nat_tests, not, on_process, others_of, queued_after, refl, subst, suc, sym, times-other, times_in, true, ℕ, ◌&&◌, ◌++◌, ◌+◌}
use Rattle.zl_sched.proofs.Common.{◌==◌, ◌∙◌, ◌∷◌, ◌≡◌, ◌≤◌}
use Rattle.zl_sched.proofs.Common.{drop, get_or, ◌<◌}
use Rattle.zl_calls.proofs.lists.Positions.{times-append}
use Rattle.zl_sched.proofs.Marked.{some_mark, no_mark, counted_mark, listed_but, listed_by, self_unmarked, others_marked, fewer_marks, left_marked}
use Rattle.zl_sched.proofs.Marked.{shorter, times_self, times_none}
use Rattle.zl_sched.proofs.MarksKept.{marked_stays, marked_known, over_not_ready, state_kept, ready_passes}
use Rattle.zl_sched.proofs.Queued.{Before, queued_ready, queued_room}
use Rattle.zl_verify.proofs.OwnTable.{other_way}

-- a list is its first and what is behind that
pub parted : (xs rest : List ℕ) (x d : ℕ) → 0 < length xs → x ≡ get_or xs 0 d → rest ≡ drop 1 xs → xs ≡ x ∷ rest
parted [] rest x d some of_x of_rest = absurd (omega (arith, some))
parted (y ∷ ys) rest x d some of_x of_rest = λ i. sym of_x i ∷ sym of_rest i

-- ---- taken, forgotten, put back

module _ (w : World) (ready out : List ℕ) (listed : Listed w ready out) (p : ℕ) where
  -- who is first in the list is ready
  pub first_ready : (rest : List ℕ) → ready ≡ p ∷ rest → is_process w is_ready p ≡ true
  first_ready rest first = elim (cases_Bool (is_process w is_ready p)) as (λ _. is_process w is_ready p ≡ true) [
    | inl is ↦ is
    | inr busy ↦
        let split : times_in p ready ≡ times_in p (p ∷ []) + times_in p rest = ap (times_in p) first ∙ times-append p (p ∷ []) rest in
        absurd (omega (arith, listed.alone p busy, split, times_self p))
  ]

  pub takes_listed : (rest : List ℕ) → ready ≡ p ∷ rest → Listed w rest (out ++ (p ∷ []))
  takes_listed rest first = record {
    once = λ k is. omega (arith, listed.once k is, split k, behind k);
    alone = λ k busy. omega (arith, listed.alone k busy, split k);
    marks = λ k. elim (cases_Bool (is_process w is_ready k)) as (λ _. times_in k (out ++ (p ∷ [])) ≤ 1) [
      | inl is ↦ omega (arith, listed.once k is, split k, behind k)
      | inr busy ↦ omega (arith, listed.alone k busy, split k, behind k, listed.marks k)
    ];
    marked = λ k is. elim (cases_Bool (k == p)) as (λ _. IsTrue (is_process w is_ready_or_over k)) [
      | inl here ↦ subst (λ (j : ℕ). IsTrue (is_process w is_ready_or_over j)) (sym (eqb-true k p here)) (ready_passes w p (first_ready rest first))
      | inr apart ↦ listed.marked k (counted_mark k out (omega (arith, some_mark k (out ++ (p ∷ [])) is, behind k, times_none p k apart)))
    ];
  }
    where
      split : (k : ℕ) → times_in k ready ≡ times_in k (p ∷ []) + times_in k rest
      split k = ap (times_in k) first ∙ times-append k (p ∷ []) rest

      behind : (k : ℕ) → times_in k (out ++ (p ∷ [])) ≡ times_in k out + times_in k (p ∷ [])
      behind k = times-append k out (p ∷ [])

  pub taken_room : (rest : List ℕ) → ready ≡ p ∷ rest → length rest + length (out ++ (p ∷ [])) ≡ length ready + length out
  taken_room rest first =
      let one : length (p ∷ []) ≡ 1 = refl in
      omega (arith, ap length first, length-append (p ∷ []) rest, length-append out (p ∷ []), one)

  others : (k : ℕ) → (k == p) ≡ false → times_in k (others_of p out) ≡ times_in k out
  others k apart = times-other p k (other_way k p apart) out

  pub forgets_listed : is_process w lives p ≡ false → Listed w ready (others_of p out)
  forgets_listed over = record {
    once = λ k is. elim (cases_Bool (k == p)) as (λ _. times_in k ready + times_in k (others_of p out) ≡ 1) [
      | inl here ↦ absurd (false≢true (sym (over_not_ready w p over) ∙ (ap (λ (j : ℕ). is_process w is_ready j) (sym (eqb-true k p here)) ∙ is)))
      | inr apart ↦ omega (arith, listed.once k is, others k apart)
    ];
    alone = listed.alone;
    marks = λ k. omega (arith, fewer_marks p k out, listed.marks k);
    marked = λ k is. listed.marked k ((left_marked p k out is).1);
  }

  -- a process that is out and ready has one mark, and isn't in the list
  module _ (marked : is_in p out ≡ true) (is : is_process w is_ready p ≡ true) where
    one_mark : times_in p out ≡ 1
    one_mark = omega (arith, some_mark p out marked, listed.marks p)

    pub not_listed : times_in p ready ≡ 0
    not_listed = omega (arith, one_mark, listed.once p is)

    itself : times_in p (others_of p out) ≡ 0
    itself = no_mark p (others_of p out) (self_unmarked p out)

    pub puts_back_listed : Listed w (ready ++ (p ∷ [])) (others_of p out)
    puts_back_listed = record {
      once = λ k now. elim (cases_Bool (k == p)) as (λ _. times_in k (ready ++ (p ∷ [])) + times_in k (others_of p out) ≡ 1) [
        | inl here ↦ subst (λ (j : ℕ). times_in j (ready ++ (p ∷ [])) + times_in j (others_of p out) ≡ 1) (sym (eqb-true k p here))
            (omega (arith, times-append p ready (p ∷ []), not_listed, times_self p, itself))
        | inr apart ↦ omega (arith, times-append k ready (p ∷ []), times_none p k apart, others k apart, listed.once k now)
      ];
      alone = λ k busy. elim (cases_Bool (k == p)) as (λ _. times_in k (ready ++ (p ∷ [])) ≡ 0) [
        | inl here ↦ absurd (false≢true (sym busy ∙ (ap (λ (j : ℕ). is_process w is_ready j) (eqb-true k p here) ∙ is)))
        | inr apart ↦ omega (arith, times-append k ready (p ∷ []), times_none p k apart, listed.alone k busy)
      ];
      marks = λ k. omega (arith, fewer_marks p k out, listed.marks k);
      marked = λ k there. listed.marked k ((left_marked p k out there).1);
    }

    pub put_back_room : length (ready ++ (p ∷ [])) + length (others_of p out) ≡ length ready + length out
    put_back_room =
        let one : length (p ∷ []) ≡ 1 = refl in
        omega (arith, length-append ready (p ∷ []), one, shorter p out, one_mark)

    pub out_shorter : length (others_of p out) + 1 ≡ length out
    out_shorter = omega (arith, shorter p out, one_mark)

-- ---- p did something

-- of the others who is ready or over stays so, and doesn't become ready
abbrev pub OthersStay : World → ℕ → World → Type 0
OthersStay w p after = (k : ℕ) → (k == p) ≡ false → IsTrue (is_process w is_ready_or_over k)
    → IsTrue (is_process after is_ready_or_over k) × (is_process after is_ready k ≡ true → is_process w is_ready k ≡ true)

pub step_stays : (lib : Library) (w : World) (p : ℕ) (x : TraceItem) (after : World) → IsSound w → Step lib w p x after → OthersStay w p after
step_stays lib w p x after sound step k apart passes = marked_stays lib w p x after sound step k (other_way k p apart) passes

pub local_stays : (w : World) (p : ℕ) (f : Process → Process) → ((y : Process) → (f y).state ≡ y.state) → OthersStay w p (on_process w p f)
local_stays w p f keeps k apart passes = (state_kept w p f keeps is_ready_or_over k ∙ passes, λ now. sym (state_kept w p f keeps is_ready k) ∙ now)

pub stays_then : (w mid after : World) (p : ℕ) → OthersStay w p mid → OthersStay mid p after → OthersStay w p after
stays_then w mid after p first rest k apart passes =
    let one = first k apart passes in
    let two = rest k apart one.0 in
    (two.0, λ now. one.1 (two.1 now))

-- p is ready, and the marks are left are those of others
pub record LeavesMarks (p : ℕ) (out left : List ℕ) : Type 0 where
  pub none : is_in p left ≡ false
  pub same : (k : ℕ) → (k == p) ≡ false → is_in k left ≡ is_in k out
  pub fewer : (k : ℕ) → times_in k left ≤ times_in k out

pub all_left : (p : ℕ) (out : List ℕ) → is_in p out ≡ false → LeavesMarks p out out
all_left p out none = record { none = none; same = λ k apart. refl; fewer = λ k. omega arith }

pub others_left : (p : ℕ) (out : List ℕ) → LeavesMarks p out (others_of p out)
others_left p out = record { none = self_unmarked p out; same = λ k apart. others_marked p k out apart; fewer = λ k. fewer_marks p k out }

module _ (w after : World) (p : ℕ) (ready out left : List ℕ) (listed : Listed w ready out) (itself : is_process w is_ready p ≡ true)
    (leaves : LeavesMarks p out left) (others : OthersStay w p after) where
  another : (k : ℕ) → is_in k left ≡ true → (k == p) ≡ false
  another k is = elim (cases_Bool (k == p)) as (λ _. (k == p) ≡ false) [
    | inl here ↦ absurd (false≢true (sym leaves.none ∙ (ap (λ (j : ℕ). is_in j left) (sym (eqb-true k p here)) ∙ is)))
    | inr apart ↦ apart
  ]

  was_marked : (k : ℕ) → is_in k left ≡ true → IsTrue (is_process w is_ready_or_over k)
  was_marked k is = listed.marked k (sym (leaves.same k (another k is)) ∙ is)

  pub before : Before w after p ready left
  before = record {
    ready = itself;
    unmarked = leaves.none;
    others = λ k apart. listed_but w ready out listed k ∙ ap (λ (b : Bool). if is_process w is_ready k && not b then 1 else 0) (sym (leaves.same k apart));
    stay = λ k is now. (others k (another k is) (was_marked k is)).1 now;
  }

  pub after_listed : IsSound after → Listed after (queued_after w p after ready) left
  after_listed sound = listed_by after (queued_after w p after ready) left (queued_ready w after p ready left before sound)
      (λ k. omega (arith, leaves.fewer k, listed.marks k)) (λ k is. (others k (another k is) (was_marked k is)).0)

  pub after_room : IsSound after → ((q : ℕ) → get w.processes q ≡ None → is_process after is_ready q ≡ false)
      → length (queued_after w p after ready) + length left ≤ length w.processes
  after_room sound fresh = queued_room w after p ready left before sound fresh known (λ k. omega (arith, leaves.fewer k, listed.marks k))
    where
      known : (q : ℕ) → get w.processes q ≡ None → is_in q left ≡ false
      known q free = elim (cases_Bool (is_in q left)) as (λ _. is_in q left ≡ false) [
        | inl is ↦ absurd (false≢true (sym (marked_known w q free) ∙ was_marked q is))
        | inr none ↦ none
      ]

-- ---- nobody is ready

-- a list that holds the ready ones and is there has one
pub empty_where_idle : (w : World) (ready out : List ℕ) → Listed w ready out → (is_empty : Bool) → is_empty ≡ (length ready == 0)
    → ((k : ℕ) → is_process w is_ready k ≡ false) → IsTrue is_empty
empty_where_idle w [] out listed is_empty is none = rw is refl
empty_where_idle w (x ∷ rest) out listed is_empty is none =
    let there : times_in x (x ∷ rest) ≡ times_in x (x ∷ []) + times_in x rest = times-append x (x ∷ []) rest in
    absurd (omega (arith, there, times_self x, listed.alone x (none x)))

-- where the list is empty and nobody has a mark, nobody is ready
pub idle_where_empty : (w : World) (ready out : List ℕ) → Listed w ready out → ready ≡ [] → out ≡ [] → (k : ℕ) → is_process w is_ready k ≡ false
idle_where_empty w ready out listed none_ready none_out k = elim (cases_Bool (is_process w is_ready k)) as (λ _. is_process w is_ready k ≡ false) [
  | inl is ↦
      let none_here : times_in k ready ≡ 0 = ap (times_in k) none_ready in
      let none_there : times_in k out ≡ 0 = ap (times_in k) none_out in
      absurd (omega (arith, listed.once k is, none_here, none_there))
  | inr busy ↦ busy
]

pub empty_by : (xs : List ℕ) (is_empty : Bool) → is_empty ≡ (length xs == 0) → is_empty ≡ true → xs ≡ []
empty_by [] is_empty is so = refl
empty_by (x ∷ xs) is_empty is so = absurd (false≢true (sym (is ∙ grind (arith, nat_tests)) ∙ so))

pub empty_there : (xs : List ℕ) (is_empty : Bool) → is_empty ≡ (length xs == 0) → xs ≡ [] → is_empty ≡ true
empty_there [] is_empty is none = is
empty_there (x ∷ xs) is_empty is none = absurd (let long : suc (length xs) ≡ 0 = ap length none in omega (arith, long))
