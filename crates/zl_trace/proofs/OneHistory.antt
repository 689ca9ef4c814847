-- A trace text tells one history: no two items have the same words, and a line ends where its words do.
use Rattle.zl_trace.proofs.Common.{AreLinesOf, Bool, FitsSigned, List, None, Some, TraceItem, [], and_parts, ap, append_assoc, arith, call_name, cases_Bool}
use Rattle.zl_trace.proofs.Common.{codes, decimal, decimal_injective, drop, end_line, ends_items, false, flat_map, history_text, inl, inr, item_line}
use Rattle.zl_trace.proofs.Common.{item_lines_of, item_words, length, length-append, lines_of, pos, refl, same_Some, says_nothing, signed_decimal, state_line}
use Rattle.zl_trace.proofs.Common.{status_name, subst, suc, sym, true, w32, words_of, ℕ, ℤ, ◌++◌, ◌+◌, ◌<◌, ◌==◌, ◌^◌, ◌∙◌, ◌∷◌, ◌≡◌, ◌≢◌, ◌≤◌}
use Rattle.zl_code.proofs.Common.{All, All-append, All-cons, All-nil, AllByRecursion, Status, calls, filter, find, ltb-true, nat_lt, ne_eqb}
use Rattle.zl_code.proofs.Common.{negsuc, not, pid_of, ◌%◌, ◌&&◌}
use Rattle.std.proofs.lemmas.Fmt.{decimal_by_steps, signed_decimal_injective}
use Rattle.zl_code.proofs.CallList.{call_among}
use Rattle.zl_rights.proofs.Named.{by_name, missing, status_among}
use Rattle.zl_code.specs.declared.history.CallName.{CallName}
use Rattle.zl_code.specs.declared.history.CallName.TheVariants as call
use Rattle.zl_code.specs.declared.history.Outcome.{Outcome}
use Rattle.zl_code.specs.declared.history.Outcome.TheVariants as outcome
use Rattle.zl_code.specs.declared.history.TraceItem.TheVariants as item
use Rattle.zl_code.specs.declared.history.ProcState.{ProcState}
use Rattle.zl_code.specs.declared.history.ProcState.TheVariants as state
use Rattle.zl_rights.specs.declared.status.Status.TheVariants as status
use Rattle.zl_sched.specs.declared.system.End.{End}
use Rattle.zl_sched.specs.declared.system.End.TheVariants as end
use Rattle.std.proofs.lemmas.List.Splits.{slice_split-cons_no, slice_split-cons_yes, slice_split_at, slice_split_none}
use Rattle.zl_lines.specs.Lines.{is_comment}
unfoldable use Rattle.zl_trace.proofs.Common.{item_lines_from}
use Rattle.zl_trace.proofs.ReadOn.{coming, ending}
use Rattle.zl_trace.specs.Reading.{HasCode, HasLine, doing_words, outcome_words}
unfoldable use Rattle.zl_trace.specs.Reading.{spaced}
use Rattle.zl_trace.proofs.Digits.{small}
use Rattle.zl_rights.specs.Statuses.{all_statuses}
use Rattle.zl_trace.proofs.WordsOfLines.{lines_are_words}

-- ---- names tell what they name

call_told : (c : CallName) → find (by_name call_name calls (call_name c)) calls ≡ Some c
call_told call.Close = refl
call_told _ = refl

same_calls : (c d : CallName) → call_name c ≡ call_name d → c ≡ d
same_calls c d is = same_Some c d (sym (call_told c) ∙ ap (λ word. find (by_name call_name calls word) calls) is ∙ call_told d)

not_run : (c : CallName) → codes "run" ≢ call_name c
not_run = missing call_name calls (codes "run") call_among None refl

not_stuck : (c : CallName) → codes "stuck" ≢ call_name c
not_stuck = missing call_name calls (codes "stuck") call_among None refl

status_told : (s : Status) → find (by_name status_name all_statuses (status_name s)) all_statuses ≡ Some s
status_told status.Ok = refl
status_told _ = refl

same_statuses : (s t : Status) → status_name s ≡ status_name t → s ≡ t
same_statuses s t is = same_Some s t (sym (status_told s) ∙ ap (λ word. find (by_name status_name all_statuses word) all_statuses) is ∙ status_told t)

not_blocked : (s : Status) → codes "blocked" ≢ status_name s
not_blocked = missing status_name all_statuses (codes "blocked") status_among None refl

same_outcomes : (o u : Outcome) → HasCode o → HasCode u → outcome_words o ≡ outcome_words u → o ≡ u
same_outcomes (outcome.Answered s) (outcome.Answered t) a b is = ap outcome.Answered (same_statuses s t cc)
same_outcomes (outcome.Answered s) outcome.Blocked a b is = absurd (not_blocked s cc)
same_outcomes outcome.Blocked (outcome.Answered t) a b is = absurd (not_blocked t cc)
same_outcomes outcome.Blocked outcome.Blocked a b is = refl
same_outcomes (outcome.Ended c) (outcome.Ended d) a b is = ap outcome.Ended (signed_decimal_injective c d (small c a) (small d b) cc)
same_outcomes _ _ a b is = absurd cc

-- the process of an item with a line has 64 bits
wide : (x : TraceItem) → HasLine x → pid_of x < 2 ^ 64
wide (item.Run pid count) h = h.0
wide (item.Call pid c o) h = h.0
wide (item.Stuck pid) h = h

-- what a process does tells it, and who does it
same_doing : (x y : TraceItem) → HasLine x → HasLine y → pid_of x ≡ pid_of y → doing_words x ≡ doing_words y → x ≡ y
same_doing (item.Run p m) (item.Run q n) a b who is = let same : m ≡ n = decimal_injective m n (omega (arith, a.2)) (omega (arith, b.2)) cc in cc
same_doing (item.Run p m) (item.Call q d u) a b who is = absurd (not_run d cc)
same_doing (item.Run p m) (item.Stuck q) a b who is = absurd cc
same_doing (item.Call p c o) (item.Run q n) a b who is = absurd (not_run c cc)
same_doing (item.Call p c o) (item.Call q d u) a b who is =
    let calls : c ≡ d = same_calls c d cc in
    let ends : o ≡ u = same_outcomes o u a.1 b.1 cc in
    cc
same_doing (item.Call p c o) (item.Stuck q) a b who is = absurd (not_stuck c cc)
same_doing (item.Stuck p) (item.Run q n) a b who is = absurd cc
same_doing (item.Stuck p) (item.Call q d u) a b who is = absurd (not_stuck d cc)
same_doing (item.Stuck p) (item.Stuck q) a b who is = ap item.Stuck who

same_words : (x y : TraceItem) → HasLine x → HasLine y → item_words x ≡ item_words y → x ≡ y
same_words x y a b is =
    let who : decimal (pid_of x) ≡ decimal (pid_of y) = cc in
    let doing : doing_words x ≡ doing_words y = cc in
    same_doing x y a b (decimal_injective (pid_of x) (pid_of y) (wide x a) (wide y b) who) doing

-- what is read of a text is one list of items
pub one_reading : (lines : List (ℕ × List ℕ)) (xs ys : List TraceItem) → AreLinesOf lines xs → AreLinesOf lines ys → xs ≡ ys
one_reading [] [] [] a b = refl
one_reading [] [] (y ∷ ys) a b = absurd b
one_reading [] (x ∷ xs) ys a b = absurd a
one_reading (line ∷ lines) [] ys a b = absurd a
one_reading (line ∷ lines) (x ∷ xs) [] a b = absurd b
one_reading (line ∷ lines) (x ∷ xs) (y ∷ ys) a b =
    let first : x ≡ y = same_words x y a.0.has_line b.0.has_line (sym a.0.same ∙ b.0.same) in
    let rest : xs ≡ ys = one_reading lines xs ys a.1 b.1 in
    cc

-- ---- words of a line

-- something stands in it, and neither a space nor an end of line
IsWord : List ℕ → Type 0
IsWord word = (0 < length word) × AllByRecursion (λ b. 32 < b) word

-- the same, told by looking
looks_so : List ℕ → Bool
looks_so [] = false
looks_so (b ∷ []) = nat_lt 32 b
looks_so (b ∷ word) = nat_lt 32 b && looks_so word

is_word : (word : List ℕ) → looks_so word ≡ true → IsWord word
unfolding IsWord looks_so
is_word [] h = absurd cc
is_word (b ∷ []) h = (omega arith, (ltb-true 32 b h, tt))
is_word (b ∷ c ∷ word) h = let p = and_parts (nat_lt 32 b) (looks_so (c ∷ word)) h in (omega arith, (ltb-true 32 b p.0, (is_word (c ∷ word) p.1).1))

call_word : (c : CallName) → looks_so (call_name c) ≡ true
unfolding looks_so
call_word call.Close = refl
call_word _ = refl

status_word : (s : Status) → looks_so (status_name s) ≡ true
unfolding looks_so
status_word status.Ok = refl
status_word _ = refl

decimal_word : (n : ℕ) → n < 2 ^ 64 → IsWord (decimal n)
unfolding IsWord
decimal_word = decimal_by_steps (λ m ds. (0 < length ds) × AllByRecursion (λ b. 32 < b) ds) (λ m small. (omega arith, (omega arith, tt)))
    (λ m ds large h. (omega (arith, length-append ds ((48 + m % 10) ∷ [])), followed ds (48 + m % 10) (omega arith) h.1))
  where
    followed : (a : List ℕ) (b : ℕ) → 32 < b → AllByRecursion (λ b. 32 < b) a → AllByRecursion (λ b. 32 < b) (a ++ (b ∷ []))
    followed [] b high p = (high, tt)
    followed (c ∷ a) b high p = (p.0, followed a b high p.1)

code_word : (z : ℤ) → FitsSigned w32 z → IsWord (signed_decimal z)
unfolding IsWord
code_word (pos n) fits = decimal_word n (omega (arith, small (pos n) fits))
code_word (negsuc n) fits = (omega arith, (omega arith, (decimal_word (suc n) (omega (arith, small (negsuc n) fits))).1))

outcome_words_are : (o : Outcome) → HasCode o → AllByRecursion IsWord (outcome_words o)
unfolding looks_so
outcome_words_are (outcome.Answered s) fits = (is_word (status_name s) (status_word s), tt)
outcome_words_are outcome.Blocked fits = (is_word (codes "blocked") refl, tt)
outcome_words_are (outcome.Ended code) fits = (is_word (codes "ended") refl, (code_word code fits, tt))

doing_words_are : (x : TraceItem) → HasLine x → AllByRecursion IsWord (doing_words x)
unfolding looks_so
doing_words_are (item.Run pid count) h = (is_word (codes "run") refl, (decimal_word count (omega (arith, h.2)), tt))
doing_words_are (item.Call pid c o) h = (is_word (call_name c) (call_word c), outcome_words_are o h.1)
doing_words_are (item.Stuck pid) h = (is_word (codes "stuck") refl, tt)

words_are : (x : TraceItem) → HasLine x → AllByRecursion IsWord (item_words x)
words_are x h = (decimal_word (pid_of x) (wide x h), doing_words_are x h)

-- each byte is another than this one
others : (word : List ℕ) (d : ℕ) → d ≤ 32 → IsWord word → All (λ b. (b == d) ≡ false) word
unfolding IsWord
others word d low is = by word is.1
  where
    by : (word : List ℕ) → AllByRecursion (λ b. 32 < b) word → All (λ b. (b == d) ≡ false) word
    by [] p = All-nil (λ b. (b == d) ≡ false)
    by (b ∷ word) p = All-cons (λ b. (b == d) ≡ false) b word (ne_eqb b d (λ same. omega (arith, same, low, p.0))) (by word p.1)

-- the words of a line of words are these
words_back : (ws : List (List ℕ)) → AllByRecursion IsWord ws → words_of (spaced ws) ≡ ws
unfolding IsWord spaced
words_back [] are = refl
words_back (w ∷ []) are =
    ap (filter (λ word. not (length word == 0))) (slice_split_none (λ b. b == 32) w (others w 32 (omega arith) are.0))
    ∙ rw (ne_eqb (length w) 0 (λ none. omega (arith, none, are.0.0))) refl
words_back (w ∷ v ∷ ws) are =
    ap (filter (λ word. not (length word == 0))) (slice_split_at (λ b. b == 32) w 32 (spaced (v ∷ ws)) (others w 32 (omega arith) are.0) refl)
    ∙ rw (ne_eqb (length w) 0 (λ none. omega (arith, none, are.0.0))) (ap (λ (l : List (List ℕ)). w ∷ l) (words_back (v ∷ ws) are.1))

-- no end of line stands between them
one_line : (ws : List (List ℕ)) → AllByRecursion IsWord ws → All (λ b. (b == 10) ≡ false) (spaced ws)
unfolding spaced
one_line [] are = All-nil (λ b. (b == 10) ≡ false)
one_line (w ∷ []) are = others w 10 (omega arith) are.0
one_line (w ∷ v ∷ ws) are =
    All-append (λ b. (b == 10) ≡ false) w (codes " " ++ spaced (v ∷ ws)) (others w 10 (omega arith) are.0)
    (All-cons (λ b. (b == 10) ≡ false) 32 (spaced (v ∷ ws)) refl (one_line (v ∷ ws) are.1))

-- ---- the lines of a text

-- a number begins with a digit
digit_first : (n : ℕ) → n < 2 ^ 64 → (c : ℕ) × (cs : List ℕ) × (decimal n ≡ c ∷ cs) × (47 < c) × (c < 58)
digit_first = decimal_by_steps (λ m ds. (c : ℕ) × (cs : List ℕ) × (ds ≡ c ∷ cs) × (47 < c) × (c < 58)) (λ m small. (48 + m, [], refl, omega arith, omega arith))
    (λ m ds large h. (h.0, h.1 ++ ((48 + m % 10) ∷ []), ap (λ (l : List ℕ). l ++ ((48 + m % 10) ∷ [])) h.2, h.3, h.4))

-- so the line of an item is none of a process, nor the last, nor a comment
goes_on : (c : ℕ) (line : List ℕ) → 47 < c → c < 58 → (ends_items (c ∷ line) ≡ false) × (is_comment (c ∷ line) ≡ false)
goes_on c line low high = (
  rw (ne_eqb 112 c (λ same. omega (arith, same, high)), ne_eqb 101 c (λ same. omega (arith, same, high))) refl,
  rw (ne_eqb 35 c (λ same. omega (arith, same, low))) refl,
)

-- two words at least
two_words : (x : TraceItem) → (v : List ℕ) × (ws : List (List ℕ)) × (doing_words x ≡ v ∷ ws)
two_words (item.Run pid count) = (codes "run", decimal count ∷ [], refl)
two_words (item.Call pid c o) = (call_name c, outcome_words o, refl)
two_words (item.Stuck pid) = (codes "stuck", [], refl)

-- the line of an item is read as one
line_goes_on : (x : TraceItem) → HasLine x → (ends_items (spaced (item_words x)) ≡ false) × (says_nothing (spaced (item_words x)) ≡ false)
unfolding spaced
line_goes_on x has =
    let (c, cs, first, low, high) = digit_first (pid_of x) (wide x has) in
    let (v, ws, doing) = two_words x in
    let line : spaced (item_words x) ≡ c ∷ (cs ++ (codes " " ++ spaced (v ∷ ws))) =
    ap (λ (more : List (List ℕ)). spaced (decimal (pid_of x) ∷ more)) doing ∙ ap (λ (l : List ℕ). l ++ (codes " " ++ spaced (v ∷ ws))) first in
    let goes = goes_on c (cs ++ (codes " " ++ spaced (v ∷ ws))) low high in (
      ap ends_items line ∙ goes.0,
      rw (ap is_comment line ∙ goes.1, words_back (item_words x) (words_are x has)) refl,
    )

next_line : (n : ℕ) (x : TraceItem) (rest : List ℕ) → HasLine x
    → item_lines_from n (lines_of (item_line x ++ rest)) ≡ (n, spaced (item_words x)) ∷ item_lines_from (n + 1) (lines_of rest)
next_line n x rest has =
    let parts : lines_of (item_line x ++ rest) ≡ spaced (item_words x) ∷ lines_of rest =
    ap (λ (l : List ℕ). lines_of (l ++ rest)) (lines_are_words x) ∙ ap lines_of (append_assoc (spaced (item_words x)) (codes "\n") rest)
    ∙ slice_split_at (λ b. b == 10) (spaced (item_words x)) 10 rest (one_line (item_words x) (words_are x has)) refl in
    let goes = line_goes_on x has in
    ap (item_lines_from n) parts ∙ coming n (spaced (item_words x)) (lines_of rest) goes.0 goes.1

-- there is a first line
first_line : (text : List ℕ) → (line : List ℕ) × (lines : List (List ℕ)) × (lines_of text ≡ line ∷ lines)
first_line [] = ([], [], refl)
first_line (b ∷ text) =
    let (line, lines, is) = first_line text in elim (cases_Bool (b == 10)) [
      | inl end ↦ ([], lines_of text, slice_split-cons_yes (λ b. b == 10) b text end)
      | inr more ↦ (b ∷ line, lines, slice_split-cons_no (λ b. b == 10) b text more ∙ rw is refl)
    ]

no_more : (n : ℕ) (text : List ℕ) → item_lines_from n (lines_of (codes "process" ++ text)) ≡ []
no_more n text =
    let (line, lines, is) = first_line text in
    let parts : lines_of (codes "process" ++ text) ≡ (codes "process" ++ line) ∷ lines = rw is refl in
    ap (item_lines_from n) parts ∙ ending n (codes "process" ++ line) lines refl

a_process : (pid : ℕ) (s : ProcState) → state_line pid s ≡ codes "process" ++ drop 7 (state_line pid s)
a_process pid state.Created = refl
a_process pid _ = refl

over : (n : ℕ) (states : List (ℕ × ProcState)) (e : End) → item_lines_from n (lines_of (flat_map (λ p. state_line p.0 p.1) states ++ end_line e)) ≡ []
unfolding item_lines_from
over n [] end.Schedule = refl
over n [] _ = refl
over n (p ∷ states) e =
    let more : List ℕ = flat_map (λ (p : ℕ × ProcState). state_line p.0 p.1) states ++ end_line e in
    ap (λ (l : List ℕ). item_lines_from n (lines_of l))
    (append_assoc (state_line p.0 p.1) (flat_map (λ (p : ℕ × ProcState). state_line p.0 p.1) states) (end_line e)
    ∙ ap (λ (l : List ℕ). l ++ more) (a_process p.0 p.1))
    ∙ no_more n (drop 7 (state_line p.0 p.1) ++ more)

reads_on : (n : ℕ) (items : List TraceItem) (rest : List ℕ) → ((m : ℕ) → item_lines_from m (lines_of rest) ≡ []) → AllByRecursion HasLine items
    → AreLinesOf (item_lines_from n (lines_of (flat_map item_line items ++ rest))) items
reads_on n [] rest none has = rw (none n) tt
reads_on n (x ∷ items) rest none has =
    let next : item_lines_from n (lines_of ((item_line x ++ flat_map item_line items) ++ rest))
    ≡ (n, spaced (item_words x)) ∷ item_lines_from (n + 1) (lines_of (flat_map item_line items ++ rest)) =
    ap (λ (l : List ℕ). item_lines_from n (lines_of l)) (append_assoc (item_line x) (flat_map item_line items) rest)
    ∙ next_line n x (flat_map item_line items ++ rest) has.0 in
    subst (λ (lines : List (ℕ × List ℕ)). AreLinesOf lines (x ∷ items)) (sym next)
    (record { has_line = has.0; same = words_back (item_words x) (words_are x has.0) }, reads_on (n + 1) items rest none has.1)

-- what is written of items is read as these
pub reads_back : (items : List TraceItem) (states : List (ℕ × ProcState)) (e : End) → AllByRecursion HasLine items
    → AreLinesOf (item_lines_of (history_text items states e)) items
unfolding history_text
reads_back items states e has = reads_on 1 items _ (λ n. over n states e) has

pub one_writing : (items others : List TraceItem) (states more : List (ℕ × ProcState)) (e last : End) → AllByRecursion HasLine items
    → AllByRecursion HasLine others → history_text items states e ≡ history_text others more last → items ≡ others
one_writing items others states more e last has have is =
    one_reading (item_lines_of (history_text items states e)) items others (reads_back items states e has)
    (subst (λ text. AreLinesOf (item_lines_of text) others) (sym is) (reads_back others more last have))
