-- The whole text of a trace, piece by piece: what is gathered so far, and what is written where the writer fails or memory is refused.
use Rattle.zl_trace.proofs.Common.{Appends, AppendsBeginning, Gathers, List, Option, System, [], ap, append-nil, append_assoc, end_line, flat_map, history_text}
use Rattle.zl_trace.proofs.Common.{item_line, states_of, subst, sym, trace_text, ℕ, ◌++◌, ◌∙◌, ◌≡◌}
use Rattle.zl_sched.specs.declared.system.End.{End}
use Rattle.zl_trace.proofs.KnownOutput.{gathers_both, begun_after}
use Rattle.zl_trace.proofs.Pages.{begins_longer}
use Rattle.zl_trace.proofs.States.{line_of}

-- ---- pieces

-- with an empty block behind it, all is written
all_written : (a e : Option (List ℕ)) (b more : List ℕ) → Gathers a b e [] more → Appends a e (b ++ more)
all_written a e b more g = subst (Appends a e) (sym (g.gathered ∙ append-nil g.written)) g.appended

-- what is gathered begins with what is written
gathered_begins : (a e : Option (List ℕ)) (b d more rest : List ℕ) → Gathers a b e d more → AppendsBeginning a e ((b ++ more) ++ rest)
gathered_begins a e b d more rest g = record {
  written = g.written;
  rest = d ++ rest;
  appended = g.appended;
  beginning = sym (append_assoc g.written d rest) ∙ ap (λ (x : List ℕ). x ++ rest) (sym g.gathered);
}

-- ---- the whole text

module _ (s : System) (e : End) (block : List ℕ) where
  abbrev items_text : List ℕ
  items_text = flat_map item_line s.items

  abbrev states_text : List ℕ
  states_text = flat_map line_of (states_of s.machine.world)

  abbrev whole : List ℕ
  whole = block ++ trace_text s e

  -- the block, both lists of lines and the end, in the order of the text
  in_order : (rest : List ℕ) → block ++ ((items_text ++ states_text) ++ rest) ≡ block ++ (items_text ++ (states_text ++ rest))
  in_order rest = ap (λ (x : List ℕ). block ++ x) (append_assoc items_text states_text rest)

  module _ (a b : Option (List ℕ)) where
    -- the writer failed at an item
    pub items_begun : AppendsBeginning a b (block ++ items_text) → AppendsBeginning a b whole
    unfolding history_text
    items_begun begun =
        subst (AppendsBeginning a b) (append_assoc block items_text (states_text ++ end_line e))
        (begins_longer a b (block ++ items_text) (states_text ++ end_line e) begun)

    module _ (d : List ℕ) (items : Gathers a block b d items_text) (c : Option (List ℕ)) where
      -- the writer failed at a state
      pub states_begun : AppendsBeginning b c (d ++ states_text) → AppendsBeginning a c whole
      unfolding history_text
      states_begun begun = begun_after a b c block d items_text states_text (end_line e) items begun

      module _ (f : List ℕ) (states : Gathers b d c f states_text) where
        both : Gathers a block c f (items_text ++ states_text)
        both = gathers_both a b c block d f items_text states_text items states

        -- memory was refused for the last line
        pub end_wanting : AppendsBeginning a c whole
        unfolding history_text
        end_wanting =
            subst (AppendsBeginning a c) (append_assoc block (items_text ++ states_text) (end_line e) ∙ in_order (end_line e))
            (gathered_begins a c block f (items_text ++ states_text) (end_line e) both)

        module _ (g : List ℕ) (grown : g ≡ f ++ end_line e) (z : Option (List ℕ)) where
          -- the writer failed at the last block
          pub end_begun : AppendsBeginning c z g → AppendsBeginning a z whole
          unfolding history_text
          end_begun begun =
              subst (AppendsBeginning a z) (ap (λ (x : List ℕ). block ++ ((items_text ++ states_text) ++ x)) (append-nil (end_line e)) ∙ in_order (end_line e))
              (begun_after a c z block f (items_text ++ states_text) (end_line e) [] both (subst (AppendsBeginning c z) grown begun))

          -- all is written, and the block is empty
          pub all_gathered : (last : List ℕ) → Gathers c g z last [] → last ≡ [] → Appends a z whole
          unfolding history_text
          all_gathered last last_block empty =
              subst (Appends a z) (in_order (end_line e)) (all_written a z block ((items_text ++ states_text) ++ end_line e)
              (gathers_both a c z block f [] (items_text ++ states_text) (end_line e) both ended))
            where
              ended : Gathers c f z [] (end_line e)
              ended = record {
                written = last_block.written;
                appended = last_block.appended;
                gathered = sym grown ∙ (sym (append-nil g) ∙ (last_block.gathered ∙ ap (λ (x : List ℕ). last_block.written ++ x) empty));
              }
