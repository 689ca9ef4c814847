-- The block rule of an image in range: where its instructions lead by the code alone suits its blocks.
use Rattle.zl_verify.proofs.Common.{AllByRecursion, Bool, IfSome, Image, Instr, IsNested, IsTrue, List, LocalInstr, Mark, None, Option, Some, Suits, Targets}
use Rattle.zl_verify.proofs.Common.{[], ahead, ap, arith, blocks_at, call_at, false, head_of, if◌then◌else◌, imm_of, inl, inr, is_in_range, is_pause, length}
use Rattle.zl_verify.proofs.Common.{local_at, local_in, map, mark_of, marks_of, nat_le, nat_lt, nat_tests, onward, option_map, option_to_list, place_within}
use Rattle.zl_verify.proofs.Common.{places, places_at, ranges, refl, slice_get, slice_get-map, subst, suc, sym, then_some, true, unless_pause, ℕ, ◌&&◌, ◌++◌}
use Rattle.zl_verify.proofs.Common.{◌+◌, ◌<◌, ◌∙◌, ◌∷◌, ◌≡◌, ◌≤◌, ◌⊎◌}
use Rattle.std.proofs.lemmas.Option.{slice_get_within}
use Rattle.zl_code.specs.declared.blocks.Mark.TheVariants as mark
use Rattle.zl_code.specs.declared.instr.Instr.TheVariants as instr
use Rattle.zl_code.specs.declared.instr.LocalInstr.TheVariants as local
use Rattle.zl_code.specs.Blocks.{all_nest, all_stay, opened, tail_of}
use Rattle.zl_code.specs.Jumps.{jump, jump_of}
use Rattle.zl_code.proofs.Common.{and_parts}
use Rattle.zl_code.proofs.Nested.{begins, blocks, jumps_stay}
use Rattle.zl_verify.specs.Nested.{IsPacked}
use Rattle.zl_verify.proofs.Walking.{blocks_next}

pub count_marks : (code : List Instr) → length (marks_of code) ≡ length code
count_marks [] = refl
count_marks (x ∷ code) = ap suc (count_marks code)

-- ---- places to which an instruction with this mark may lead

-- a rep into its block, an endrep on, and back where its block is gone round again, each also nowhere, and any other within its blocks
abbrev pub LeadSo : List Mark → Option Mark → ℕ → List ℕ → Type 0
LeadSo marks (Some (mark.Rep imm e)) n ms = (ms ≡ []) ⊎ (ms ≡ (n + 1) ∷ [])
LeadSo marks (Some (mark.EndRep r)) n ms = (ms ≡ []) ⊎ (ms ≡ option_to_list (then_some (nat_le 2 (imm_of marks r)) (r + 1)) ++ ((n + 1) ∷ []))
LeadSo marks _ n ms = AllByRecursion (λ m. blocks_at marks m ≡ blocks_at marks n) ms

pub nowhere_so : (marks : List Mark) (k : Option Mark) (n : ℕ) → LeadSo marks k n []
nowhere_so marks None n = tt
nowhere_so marks (Some mark.Plain) n = tt
nowhere_so marks (Some (mark.Rep imm e)) n = inl refl
nowhere_so marks (Some (mark.EndRep r)) n = inl refl

one_turn : (imm : ℕ) → nat_le 2 imm ≡ false → imm ≤ 1
one_turn imm h = grind (arith, nat_tests)

-- an endrep leads back where its block is gone round again
pub back_or_not : (imm r : ℕ) → (then_some (nat_le 2 imm) (r + 1) ≡ Some (r + 1)) ⊎ (then_some (nat_le 2 imm) (r + 1) ≡ None) × (imm ≤ 1)
back_or_not imm r = by (nat_le 2 imm) refl
  where
    by : (b : Bool) → nat_le 2 imm ≡ b → (then_some b (r + 1) ≡ Some (r + 1)) ⊎ (then_some b (r + 1) ≡ None) × (imm ≤ 1)
    by true h = inl refl
    by false h = inr (refl, one_turn imm h)

suits_none : (marks : List Mark) (k : Option Mark) (n : ℕ) → Suits marks k n None
suits_none marks None n = tt
suits_none marks (Some mark.Plain) n = tt
suits_none marks (Some (mark.Rep imm e)) n = tt
suits_none marks (Some (mark.EndRep r)) n = tt

-- kept one by one, they suit the blocks
suits_kept : (marks : List Mark) (k : Option Mark) (n : ℕ) (x : Targets) → IsPacked (Some x) → LeadSo marks k n (places x) → Suits marks k n (Some x)
suits_kept marks None n x p h = h
suits_kept marks (Some mark.Plain) n x p h = h
suits_kept marks (Some (mark.Rep imm e)) n x p h = by x.jump x.next p h
  where
    by : (j o : Option ℕ) → (o ≡ None → j ≡ None) → (option_to_list j ++ option_to_list o ≡ []) ⊎ (option_to_list j ++ option_to_list o ≡ (n + 1) ∷ [])
        → (j ≡ None) × ((o ≡ None) ⊎ (o ≡ Some (n + 1)))
    by None None p h = (refl, inl refl)
    by None (Some m) p (inl e) = cc
    by None (Some m) p (inr e) = (refl, inr (ap head_of e))
    by (Some j) None p h = let z : Some j ≡ None = p refl in cc
    by (Some j) (Some m) p (inl e) = cc
    by (Some j) (Some m) p (inr e) = cc
suits_kept marks (Some (mark.EndRep r)) n x p h = by (nat_le 2 (imm_of marks r)) refl x.jump x.next p h
  where
    by : (b : Bool) → nat_le 2 (imm_of marks r) ≡ b → (j o : Option ℕ) → (o ≡ None → j ≡ None)
        → (option_to_list j ++ option_to_list o ≡ []) ⊎ (option_to_list j ++ option_to_list o ≡ option_to_list (then_some b (r + 1)) ++ ((n + 1) ∷ []))
        → ((j ≡ None) × (o ≡ None)) ⊎ ((o ≡ Some (n + 1)) × ((j ≡ Some (r + 1)) ⊎ (j ≡ None) × (imm_of marks r ≤ 1)))
    by b t None None p h = inl (refl, refl)
    by b t (Some j) None p h = let z : Some j ≡ None = p refl in cc
    by b t None (Some m) p (inl e) = cc
    by true t None (Some m) p (inr e) = cc
    by false t None (Some m) p (inr e) = inr (ap head_of e, inr (refl, one_turn (imm_of marks r) t))
    by b t (Some j) (Some m) p (inl e) = cc
    by true t (Some j) (Some m) p (inr e) = inr (ap head_of (ap tail_of e), inl (ap head_of e))
    by false t (Some j) (Some m) p (inr e) = cc

-- ---- an image in range

module _ (i : Image) (range : IsTrue (is_in_range i)) where
  abbrev marks : List Mark
  marks = marks_of i.code

  pub nest : all_nest (marks_of i.code) (length (marks_of i.code)) ≡ true
  nest = (and_parts (all_nest marks (length marks)) (all_stay marks (map jump_of i.code) (length marks)) (ranges i range).blocks).0

  -- targets that are kept of places where the instructions lead so
  pub nested : (targets : List Targets) (ends : ℕ → List ℕ) → length targets ≡ length i.code → ((n : ℕ) → n < length targets → places_at targets n ≡ ends n)
      → ((n : ℕ) → n < length targets → IsPacked (slice_get targets n)) → ((n : ℕ) → LeadSo (marks_of i.code) (slice_get (marks_of i.code) n) n (ends n))
      → IsNested (marks_of i.code) targets
  nested targets ends long same packed so = record {
    long = long ∙ sym (count_marks i.code);
    block = blocks marks nest;
    begin = begins marks nest;
    suits = λ n. by n (slice_get targets n) refl;
  }
    where
      by : (n : ℕ) (o : Option Targets) → slice_get targets n ≡ o → Suits marks (slice_get marks n) n o
      by n None q = suits_none marks (slice_get marks n) n
      by n (Some x) q =
          let l = slice_get_within targets n x q in
          let e : places x ≡ ends n = rw q at (same n l) in
          suits_kept marks (slice_get marks n) n x (rw q at (packed n l)) (subst (λ ms. LeadSo marks (slice_get marks n) n ms) (sym e) (so n))

  -- ---- by the code alone

  module _ (n : ℕ) where
    abbrev InSame : ℕ → Type 0
    InSame m = blocks_at marks m ≡ blocks_at marks n

    both : (j o : Option ℕ) → IfSome j InSame → IfSome o InSame → AllByRecursion InSame (option_to_list j ++ option_to_list o)
    both None None h g = tt
    both None (Some m) h g = (g, tt)
    both (Some j) None h g = (h, tt)
    both (Some j) (Some m) h g = (h, (g, tt))

    inside : (size : ℕ) (j : Option ℕ) → IfSome j InSame → IfSome (place_within size j) InSame
    inside size None h = tt
    inside size (Some m) h = by (nat_lt m size)
      where
        by : (b : Bool) → IfSome (if b then Some m else None) InSame
        by true = h
        by false = tt

    -- what neither begins a block nor ends one, and jumps so
    plain : (x : Option Instr) → slice_get i.code n ≡ x → ((rs : List ℕ) → opened (option_map mark_of x) n rs ≡ rs) → (j : Option ℕ) → IfSome j InSame
        → AllByRecursion InSame (option_to_list (place_within (length i.code) j) ++ option_to_list (place_within (length i.code) (Some (n + 1))))
    plain x q same j h =
        let on : blocks_at marks (n + 1) ≡ blocks_at marks n =
        blocks_next marks n ∙ rw (slice_get-map mark_of i.code n, q) (same (blocks_at marks n)) in
        both (place_within (length i.code) j) (place_within (length i.code) (Some (n + 1))) (inside (length i.code) j h)
        (inside (length i.code) (Some (n + 1)) on)

    jumped : (x : LocalInstr) → slice_get i.code n ≡ Some (instr.Local x) → (j : Option ℕ) → jump x ≡ j → IfSome j InSame
    jumped x q None e = tt
    jumped x q (Some m) e =
        sym (jumps_stay marks (map jump_of i.code) (ranges i range).blocks n m
        (let l = slice_get_within i.code n (instr.Local x) q in omega (arith, count_marks i.code)) (rw (slice_get-map jump_of i.code n, q) e))

    onward_so : (o : Option Instr) → slice_get i.code n ≡ o → LeadSo marks (option_map mark_of o) n (onward i n (local_in o))
    onward_so None q = plain None q (λ rs. refl) None tt
    onward_so (Some (instr.Call x)) q = plain (Some (instr.Call x)) q (λ rs. refl) None tt
    onward_so (Some (instr.Unknown bytes)) q = plain (Some (instr.Unknown bytes)) q (λ rs. refl) None tt
    onward_so (Some (instr.Local (local.Rep imm e))) q = by (nat_lt (n + 1) (length i.code))
      where
        by : (b : Bool) → (option_to_list (if b then Some (n + 1) else None) ≡ []) ⊎ (option_to_list (if b then Some (n + 1) else None) ≡ (n + 1) ∷ [])
        by true = inr refl
        by false = inl refl
    onward_so (Some (instr.Local (local.EndRep r))) q = by (nat_lt (n + 1) (length i.code)) refl (nat_le 2 (imm_of marks r))
      where
        size : ℕ
        size = length i.code

        back_inside : nat_lt (n + 1) (length i.code) ≡ true → nat_lt (r + 1) (length i.code) ≡ true
        back_inside h =
            let b = (blocks marks nest r (imm_of marks r) n (begins marks nest n r (slice_get-map mark_of i.code n ∙ rw q refl))).before in
            grind (arith, nat_tests)

        by : (b : Bool) → nat_lt (n + 1) (length i.code) ≡ b → (c : Bool)
            → (option_to_list (place_within (length i.code) (then_some (b && c) (r + 1))) ++ option_to_list (if b then Some (n + 1) else None) ≡ [])
            ⊎ (option_to_list (place_within (length i.code) (then_some (b && c) (r + 1))) ++ option_to_list (if b then Some (n + 1) else None)
            ≡ option_to_list (then_some c (r + 1)) ++ ((n + 1) ∷ []))
        by false h c = inl refl
        by true h false = inr refl
        by true h true = inr (rw (back_inside h) refl)
    onward_so (Some (instr.Local x)) q = plain (Some (instr.Local x)) q (λ rs. refl) (jump x) (jumped x q (jump x) refl)

    pub onward_leads : LeadSo (marks_of i.code) (slice_get (marks_of i.code) n) n (onward i n (local_at i n))
    onward_leads = rw (slice_get-map mark_of i.code n) (onward_so (slice_get i.code n) refl)

  pub ahead_leads : (n : ℕ) → LeadSo (marks_of i.code) (slice_get (marks_of i.code) n) n (ahead i n)
  ahead_leads n = by (is_pause (call_at i n))
    where
      by : (b : Bool) → LeadSo marks (slice_get marks n) n (unless_pause b (onward i n (local_at i n)))
      by true = nowhere_so marks (slice_get marks n) n
      by false = onward_leads n
