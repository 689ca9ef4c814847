use Rattle.zl_code.proofs.Common.{List, ap, rules, ℕ, ◌++◌, ◌∙◌, ◌∷◌}
use Rattle.zl_code.proofs.ImageCells.{cells_7, cells_8}
use Rattle.zl_code.proofs.instr_bytes.InstrBytes.join.Goals as goal

pub returns : goal.returns
returns c =
    ap (λ (x : List ℕ). c.args.self.opcode ∷ x)
    (cells_7 c.args.self.registers _ (search rules) ∙ ap (λ (x : List ℕ). c.args.self.registers ++ x) (cells_8 c.args.self.last (search rules)))
