-- The law of parts: all together they are the whole.
use Rattle.std.proofs.Common.{List, Option, [], ap, arith, false, if◌then◌else◌, nat_lt, refl, subst, sym, true, ℕ, ◌+◌, ◌++◌, ◌<◌, ◌∙◌, ◌∷◌, ◌≡◌, ◌≤◌}
use Rattle.std.proofs.lemmas.Bool.Decides.{nat_tests}
use Rattle.std.proofs.lemmas.Bool.{cases_Bool, false≢true}
use Rattle.std.proofs.lemmas.List.{append_assoc}
use Rattle.std.proofs.lemmas.Nat.{mod_below}
use mathlib.Core.Logic.{inl, inr}
use Rattle.zl_code.specs.declared.history.TraceItem.{TraceItem}
use Rattle.zl_explore.specs.Bad.{IsQuiet}
use Rattle.zl_explore.specs.AllParts.{part_of}
use Rattle.zl_explore.specs.Part.{gone_along, gone_by, goes_on, is_of, none_gone}
use Rattle.zl_explore.specs.Parts.{AllComeOn, AreAllOf, HasNoneOf}
use Rattle.zl_explore.specs.Paths.{IsIn, IsPath, after}
use Rattle.zl_explore.specs.Sights.{IsClear, Sights, StaysClearOf}
use Rattle.zl_explore.specs.declared.bad.Bad.{Bad}
use Rattle.zl_explore.specs.declared.fact.Fact.{Fact}
use Rattle.zl_explore.specs.declared.part.Gone.{Gone}
use Rattle.zl_explore.proofs.Ending.{Ends}
use Rattle.zl_explore.proofs.Parts.{after_both, gone_both, gone_stays, path_behind}

module _ (parts from : ℕ) (some : 0 < parts) where
  rest_below : (turns : List ℕ) (g : Gone) → g.rest < parts → (gone_along parts from g turns).rest < parts
  unfolding gone_along
  rest_below [] g below = below
  rest_below (p ∷ turns) g below = rest_below turns (gone_by parts from g p) (elim (cases_Bool (nat_lt g.turns from)) [
    | inl few ↦ rw few (mod_below (g.rest + p) parts some)
    | inr many ↦ rw many below
  ])

  -- the number of the part to which an order belongs, of which that is known
  abbrev number_of : Gone → ℕ
  number_of g = if nat_lt g.turns from then 1 else g.rest + 1

  -- it is that of a part, to which it belongs
  belongs : (g : Gone) → g.rest < parts → (1 ≤ number_of g) × (number_of g ≤ parts) × (is_of (part_of parts from (number_of g)) g ≡ true)
      × (goes_on (part_of parts from (number_of g)) g ≡ true)
  belongs g below = elim (cases_Bool (nat_lt g.turns from)) [
    | inl few ↦ rw few (omega arith, omega (arith, some), refl, refl)
    | inr many ↦ rw many (omega arith, omega (arith, below), grind (arith, nat_tests), grind (arith, nat_tests))
  ]

  module _ {S : Type 0} (ready : S → List ℕ) (next : S → ℕ → S) (start : S) where
    abbrev gone : List ℕ → Gone
    gone turns = gone_along parts from none_gone turns

    abbrev number : List ℕ → ℕ
    number turns = number_of (gone turns)

    is_one : (turns : List ℕ) → (1 ≤ number turns) × (number turns ≤ parts) × (is_of (part_of parts from (number turns)) (gone turns) ≡ true)
        × (goes_on (part_of parts from (number turns)) (gone turns) ≡ true)
    is_one turns = belongs (gone turns) (rest_below turns none_gone some)

    -- an order that comes to an end comes to one of those of its part
    pub all_parts : {X : Type 0} (states : S → X) (ends : List X)
        → ((k : ℕ) → 1 ≤ k → k ≤ parts → AreAllOf ready next start (part_of parts from k) states ends)
        → (turns : List ℕ) → IsPath ready next start turns → ready (after ready next start turns) ≡ [] → IsIn ends (states (after ready next start turns))
    all_parts states ends are turns path nobody =
        let one = is_one turns in are (number turns) one.0 one.1 turns path nobody one.2

    -- an item that none has in any part, none has
    pub none_parts : (tells : S → ℕ → Option TraceItem) (bad : List Bad)
        → ((k : ℕ) → 1 ≤ k → k ≤ parts → HasNoneOf ready next start (part_of parts from k) tells bad)
        → (turns : List ℕ) → IsPath ready next start turns → (p : ℕ) → IsIn (ready (after ready next start turns)) p
        → IsQuiet bad (tells (after ready next start turns) p)
    none_parts tells bad have turns path =
        let one = is_one turns in have (number turns) one.0 one.1 turns path one.3

    -- nor does one lead to where is seen at once what is in none of any part
    pub clear_parts : (sights : S → Sights) (never : List (List Fact))
        → ((k : ℕ) → 1 ≤ k → k ≤ parts → StaysClearOf ready next start (part_of parts from k) sights never)
        → (turns : List ℕ) → IsPath ready next start turns → IsClear never (sights (after ready next start turns))
    clear_parts sights never have turns path =
        let one = is_one turns in have (number turns) one.0 one.1 turns path one.3

    -- where all come on in each part, each comes to an end
    pub come_parts : ((k : ℕ) → 1 ≤ k → k ≤ parts → AllComeOn ready next start (part_of parts from k))
        → (turns : List ℕ) → IsPath ready next start turns → Ends ready next (after ready next start turns)
    come_parts come turns path =
        let one = is_one turns in
        let first = come (number turns) one.0 one.1 turns path one.3 in
        elim first.is [
          | inl nobody ↦ ends turns first.more first.is_path nobody
          | inr off ↦
              let longer = turns ++ first.more in
              let two = is_one longer in
              let second = come (number longer) two.0 two.1 longer first.is_path two.3 in
              let many = enough (gone longer) (number turns) off in
              let stays = gone_both parts from longer second.more none_gone ∙ gone_stays parts from second.more (gone longer) many in
              elim second.is [
                | inl nobody ↦
                    ends turns (first.more ++ second.more) (subst (IsPath ready next start) (append_assoc turns first.more second.more) second.is_path)
                    (subst (λ (x : List ℕ). ready (after ready next start x) ≡ []) (append_assoc turns first.more second.more) nobody)
                | inr out ↦ absurd (false≢true (sym out ∙ (ap (goes_on (part_of parts from (number longer))) stays ∙ two.3)))
              ]
        ]
      where
        ends : (turns more : List ℕ) → IsPath ready next start (turns ++ more) → ready (after ready next start (turns ++ more)) ≡ []
            → Ends ready next (after ready next start turns)
        ends turns more path nobody = record {
          turns = more;
          is_path = path_behind ready next turns more start path;
          nobody = ap ready (sym (after_both ready next turns more start)) ∙ nobody;
        }

        enough : (g : Gone) (k : ℕ) → goes_on (part_of parts from k) g ≡ false → nat_lt g.turns from ≡ false
        enough g k off = elim (cases_Bool (nat_lt g.turns from)) [
          | inl few ↦ absurd (false≢true (sym off ∙ rw few refl))
          | inr many ↦ many
        ]
