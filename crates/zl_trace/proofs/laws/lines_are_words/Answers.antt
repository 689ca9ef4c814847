use Rattle.zl_trace.proofs.WordsOfLines.{lines_are_words}
use Rattle.zl_trace.proofs.laws.lines_are_words.Goals as goal

pub returns : goal.returns
returns c = lines_are_words
