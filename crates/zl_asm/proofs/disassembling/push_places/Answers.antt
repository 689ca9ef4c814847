use Rattle.zl_asm.proofs.Common.{List, ap, append_assoc, arith, behind, eqb, false, get_or, nat_tests, not, register_text, string_bytes, sym, take, true, ℕ}
use Rattle.zl_asm.proofs.Common.{◌++◌, ◌∙◌, ◌≡◌}
use Rattle.zl_asm.proofs.Joined.{texts, between_now, place_written, place_after, place_passed}
use Rattle.zl_asm.proofs.disassembling.push_places.Goals as goal
use Rattle.zl_asm.proofs.disassembling.push_places.Goals.{then-place+in_ok-push_register, else-place}

pub loop-place-preserved : goal.loop-place-preserved
loop-place-preserved c =
    let i = c.loop-place.place-index in
    let places = c.args.places.now in
    let separator = c.args.separator.now in
    let pushed = between_now separator (texts (take i places)) ++ register_text (get_or places i 0) in
    elim c.if-place.branch [
      | then-place+in_ok-push_register w ↦
          let has : not (eqb (get_or places i 0) 255) ≡ true = grind (arith, nat_tests, w.if-place.true) in
          rw (w.text-is, w.between-is) (record {
            written =
                rw c.loop-place.invariant.next at (w.in_ok-push_register.ensures {u = tt})
                ∙ ap (λ (x : List ℕ). x ++ pushed) c.loop-place.invariant.written
                ∙ append_assoc (string_bytes c.args.text.now) (behind separator (texts (take i places))) pushed
                ∙ ap (λ (x : List ℕ). string_bytes c.args.text.now ++ x) (sym (place_written separator places i 0 c.loop-place-test.true has));
            next = sym (place_after separator places i 0 c.loop-place-test.true has);
          })
      | else-place w ↦
          let hasnt : not (eqb (get_or places i 0) 255) ≡ false = grind (arith, nat_tests, w.if-place.false) in
          rw (w.text-is, w.between-is, place_passed separator places i 0 c.loop-place-test.true hasnt) c.loop-place.invariant
    ]
