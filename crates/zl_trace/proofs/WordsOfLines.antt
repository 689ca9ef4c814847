-- The line of an item is its words with a space between them.
use Rattle.zl_trace.proofs.Common.{List, TraceItem, ap, append_assoc, call_name, codes, decimal, item_line, item_words, signed_decimal, status_name, sym}
use Rattle.zl_trace.proofs.Common.{ℕ, ◌++◌, ◌∙◌, ◌≡◌}
use Rattle.zl_code.specs.declared.history.Outcome.TheVariants as outcome
use Rattle.zl_code.specs.declared.history.TraceItem.TheVariants as item
unfoldable use Rattle.zl_trace.specs.Reading.{spaced}

-- three words, the first of which is no literal
three : (a b c : List ℕ) → a ++ (codes " " ++ (b ++ (codes " " ++ (c ++ codes "\n")))) ≡ (a ++ (codes " " ++ (b ++ (codes " " ++ c)))) ++ codes "\n"
three a b c = sym (append_assoc a (codes " " ++ (b ++ (codes " " ++ c))) (codes "\n")
    ∙ ap (λ (l : List ℕ). a ++ (codes " " ++ l)) (append_assoc b (codes " " ++ c) (codes "\n")))

pub lines_are_words : (x : TraceItem) → item_line x ≡ spaced (item_words x) ++ codes "\n"
unfolding spaced
lines_are_words (item.Run pid count) = three (decimal pid) (codes "run") (decimal count)
lines_are_words (item.Stuck pid) = sym (append_assoc (decimal pid) (codes " stuck") (codes "\n"))
lines_are_words (item.Call pid c (outcome.Answered status)) = three (decimal pid) (call_name c) (status_name status)
lines_are_words (item.Call pid c outcome.Blocked) = three (decimal pid) (call_name c) (codes "blocked")
lines_are_words (item.Call pid c (outcome.Ended code)) =
    ap (λ (l : List ℕ). decimal pid ++ (codes " " ++ l)) (three (call_name c) (codes "ended") (signed_decimal code))
    ∙ sym (append_assoc (decimal pid) (codes " " ++ (call_name c ++ (codes " ended " ++ signed_decimal code))) (codes "\n"))
