use Rattle.zlab.proofs.Common.{◌≡◌, ◌-◌, ◌≤◌, length, vec_len, Consumes}
use Rattle.zlab.specs.declared.input.TheConstants.{BLOCK}
use Rattle.zlab.proofs.input.read_front.Given as goal

abbrev pub invariant-loop-block : goal.invariant-loop-block
invariant-loop-block g l = record {
  at_most : vec_len l.text ≤ l.most;
  consumed : Consumes (g.R.Read.remaining l.initial.reader) (g.R.Read.remaining l.reader) l.text.items;
  whole_block : length l.block ≡ BLOCK;
}

abbrev pub decreases-loop-block : goal.decreases-loop-block
decreases-loop-block g l = l.most - vec_len l.text
