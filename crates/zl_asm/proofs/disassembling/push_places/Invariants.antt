use Rattle.zl_asm.proofs.Common.{behind, string_bytes, take, ◌++◌, ◌≡◌}
use Rattle.zl_asm.proofs.Joined.{texts, between_now}
use Rattle.zl_asm.proofs.disassembling.push_places.Given as goal

abbrev pub invariant-loop-place : goal.invariant-loop-place
invariant-loop-place l = record {
  written : string_bytes l.text ≡ string_bytes l.fn.text ++ behind l.fn.separator (texts (take l.place-index l.places));
  next : l.between ≡ between_now l.fn.separator (texts (take l.place-index l.places));
}
