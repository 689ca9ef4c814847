use Rattle.zl_code.proofs.Common.{ap, arith, err_from_is_err_and, first_some, inl, inr, instr_fault, map, slot_fault, start_fault, sym, ◌∙◌}
use Rattle.zl_code.proofs.Common.{Bool, Instr, List, false, instr_bytes, is_instr_in_range, list_all, true, code_pieces, ℕ, ◌≡◌}
use Rattle.zl_code.specs.Blocks.{are_blocks, marks_of}
use Rattle.zl_code.specs.Jumps.{jump_of}
use Rattle.zl_code.specs.Spells.{keep_blocks, version_at}
use Rattle.zl_code.specs.declared.image.Version.{Version}
use Rattle.zl_code.proofs.BlockBytes.{blocks_again}
use Rattle.zl_code.proofs.ImageWhole.{few_read, first_fault-blocks}
use Rattle.zl_code.proofs.ImageNeeds.{are_needs-value}
use Rattle.zl_code.proofs.ImageWhole.{starts_read, slots_read, code_read, spells_read, first_fault-header, first_fault-starts, first_fault-slots}
use Rattle.zl_code.proofs.ImageWhole.{first_fault-code}
use Rattle.zl_code.proofs.decoding.image_of.Goals as goal

pub returns-in_err-header-clause-first : goal.returns-in_err-header-clause-first
returns-in_err-header-clause-first c =
    let p = err_from_is_err_and c.from_residual.result c.from_residual.ensures.1 in
    rw (p.1, p.2) (inr (first_fault-header c.args.bytes.now _ c.in_err-header.ensures.fault))

pub returns-in_err-starts-clause-first : goal.returns-in_err-starts-clause-first
returns-in_err-starts-clause-first c =
    let p = err_from_is_err_and c.from_residual-in_err-starts.result c.from_residual-in_err-starts.ensures.1 in
    let bytes = c.args.bytes.now in
    let e = c.in_ok-header.ensures in
    let starts = c.declarations_at.ensures ∙ starts_read bytes _ e.starts in
    rw (p.1, p.2) (elim c.in_err-starts.ensures.fault [
      | inl memory ↦ inl memory
      | inr first ↦ inr (first_fault-starts bytes _ e.fault (sym (ap (λ r. first_some (map start_fault r)) starts) ∙ first))
    ])

pub returns-in_err-slots-clause-first : goal.returns-in_err-slots-clause-first
returns-in_err-slots-clause-first c =
    let p = err_from_is_err_and c.from_residual-in_err-slots.result c.from_residual-in_err-slots.ensures.1 in
    let bytes = c.args.bytes.now in
    let e = c.in_ok-header.ensures in
    let starts = c.declarations_at.ensures ∙ starts_read bytes _ e.starts in
    let slots = c.declarations_at-2.ensures ∙ slots_read bytes _ _ e.starts e.slots in
    let no_start = sym (ap (λ r. first_some (map start_fault r)) starts) ∙ c.in_ok-starts.ensures.none in
    rw (p.1, p.2) (elim c.in_err-slots.ensures.fault [
      | inl memory ↦ inl memory
      | inr first ↦ inr (first_fault-slots bytes _ e.fault no_start (sym (ap (λ r. first_some (map slot_fault r)) slots) ∙ first))
    ])

pub returns-in_err-code-clause-first : goal.returns-in_err-code-clause-first
returns-in_err-code-clause-first c =
    let p = err_from_is_err_and c.from_residual-in_err-code.result c.from_residual-in_err-code.ensures.1 in
    let bytes = c.args.bytes.now in
    let e = c.in_ok-header.ensures in
    let starts = c.declarations_at.ensures ∙ starts_read bytes _ e.starts in
    let slots = c.declarations_at-2.ensures ∙ slots_read bytes _ _ e.starts e.slots in
    let code = c.instrs_at.ensures ∙ code_read bytes _ _ _ e.starts e.slots e.count in
    let no_start = sym (ap (λ r. first_some (map start_fault r)) starts) ∙ c.in_ok-starts.ensures.none in
    let no_slot = sym (ap (λ r. first_some (map slot_fault r)) slots) ∙ c.in_ok-slots.ensures.none in
    rw (p.1, p.2) (elim c.in_err-code.ensures.fault [
      | inl memory ↦ inl memory
      | inr first ↦ inr (first_fault-code bytes _ e.fault no_start no_slot (sym (λ k. first_some (map (instr_fault (e.version k) (e.raw k)) (code k))) ∙ first))
    ])

pub are_blocks-requires : goal.are_blocks-requires
are_blocks-requires c =
    let e = c.in_ok-header.ensures in
    let code = c.in_ok-code.ensures.bytes ∙ c.instrs_at.ensures ∙ code_read c.args.bytes.now _ _ _ e.starts e.slots e.count in
    rw c.deref.ensures.value (few_read c.args.bytes.now c.in_ok-code.code.items e.fault code)

-- the first fault of bytes whose instructions have none by themselves
module _ (bytes : List ℕ) (v : Version) (raw : Bool) (code : List Instr) (is : v ≡ version_at bytes) (spelled : map instr_bytes code ≡ code_pieces bytes)
    (in_range : list_all (is_instr_in_range v raw) code ≡ true) (keep : Bool) (kept : keep ≡ are_blocks (marks_of code) (map jump_of code)) where
  same_keep : keep_blocks (version_at bytes) (code_pieces bytes) ≡ keep
  same_keep = sym (λ k. keep_blocks (is k) (spelled k)) ∙ (blocks_again v raw code in_range ∙ sym kept)

pub returns-then-not-keeps-clause-first : goal.returns-then-not-keeps-clause-first
returns-then-not-keeps-clause-first c =
    let bytes = c.args.bytes.now in
    let e = c.in_ok-header.ensures in
    let starts = c.declarations_at.ensures ∙ starts_read bytes _ e.starts in
    let slots = c.declarations_at-2.ensures ∙ slots_read bytes _ _ e.starts e.slots in
    let code = c.instrs_at.ensures ∙ code_read bytes _ _ _ e.starts e.slots e.count in
    let no_start = sym (ap (λ r. first_some (map start_fault r)) starts) ∙ c.in_ok-starts.ensures.none in
    let no_slot = sym (ap (λ r. first_some (map slot_fault r)) slots) ∙ c.in_ok-slots.ensures.none in
    let no_instr = sym (λ k. first_some (map (instr_fault (e.version k) (e.raw k)) (code k))) ∙ c.in_ok-code.ensures.none in
    let kept : c.in_ok-keeps.keeps ≡ are_blocks (marks_of c.in_ok-code.code.items) (map jump_of c.in_ok-code.code.items) =
    rw c.deref.ensures.value at c.in_ok-keeps.ensures in
    rw c.at.ensures (inr (first_fault-blocks bytes false e.fault no_start no_slot no_instr
    (same_keep bytes _ _ c.in_ok-code.code.items e.version (c.in_ok-code.ensures.bytes ∙ code)
    c.in_ok-code.ensures.in_range false (sym c.if-not-keeps.true ∙ kept))))

pub returns-clause-found : goal.returns-clause-found
returns-clause-found c =
    let bytes = c.args.bytes.now in
    let e = c.in_ok-header.ensures in
    let kept : c.in_ok-keeps.keeps ≡ are_blocks (marks_of c.in_ok-code.code.items) (map jump_of c.in_ok-code.code.items) =
    rw c.deref.ensures.value at c.in_ok-keeps.ensures in
    spells_read bytes _ (λ i. omega (arith, c.type_inv.bytes i)) e.fault (record {
      version = e.version;
      raw = e.raw;
      memory = e.memory;
      budget = e.budget;
      needs = e.needs;
      needs_in_range = are_needs-value _;
      starts = c.in_ok-starts.ensures.bytes ∙ c.declarations_at.ensures ∙ starts_read bytes _ e.starts;
      starts_in_range = c.in_ok-starts.ensures.in_range;
      slots = c.in_ok-slots.ensures.bytes ∙ c.declarations_at-2.ensures ∙ slots_read bytes _ _ e.starts e.slots;
      slots_in_range = c.in_ok-slots.ensures.in_range;
      code = c.in_ok-code.ensures.bytes ∙ c.instrs_at.ensures ∙ code_read bytes _ _ _ e.starts e.slots e.count;
      code_in_range = c.in_ok-code.ensures.in_range;
      blocks = sym kept ∙ c.if-not-keeps.false;
    })

pub returns-clause-first : goal.returns-clause-first
returns-clause-first c =
    let bytes = c.args.bytes.now in
    let e = c.in_ok-header.ensures in
    let starts = c.declarations_at.ensures ∙ starts_read bytes _ e.starts in
    let slots = c.declarations_at-2.ensures ∙ slots_read bytes _ _ e.starts e.slots in
    let code = c.instrs_at.ensures ∙ code_read bytes _ _ _ e.starts e.slots e.count in
    let no_start = sym (ap (λ r. first_some (map start_fault r)) starts) ∙ c.in_ok-starts.ensures.none in
    let no_slot = sym (ap (λ r. first_some (map slot_fault r)) slots) ∙ c.in_ok-slots.ensures.none in
    let no_instr = sym (λ k. first_some (map (instr_fault (e.version k) (e.raw k)) (code k))) ∙ c.in_ok-code.ensures.none in
    let kept : c.in_ok-keeps.keeps ≡ are_blocks (marks_of c.in_ok-code.code.items) (map jump_of c.in_ok-code.code.items) =
    rw c.deref.ensures.value at c.in_ok-keeps.ensures in
    first_fault-blocks bytes true e.fault no_start no_slot no_instr
    (same_keep bytes _ _ c.in_ok-code.code.items e.version (c.in_ok-code.ensures.bytes ∙ code)
    c.in_ok-code.ensures.in_range true (sym c.if-not-keeps.false ∙ kept))

pub invariant_of-result : goal.invariant_of-result
invariant_of-result c = (returns-clause-found c).in_range
