-- A history tells of a process what the single steps tell that it stands for.
use Rattle.zl_code.proofs.Common.{AllByRecursion, Bool, EndsItself, GoesWell, HasNoFault, Image, IsNotStuck, IsSomeAnd, KeepsBudget, List, None, Option, Some}
use Rattle.zl_code.proofs.Common.{TraceItem, [], ap, arith, executed, false, flat_map, flat_map-cons, if◌then◌else◌, left_behind, nat_le, nat_tests, pid_of}
use Rattle.zl_code.proofs.Common.{refl, replicate, single, subst, suc, sym, true, zero, ℕ, ◌++◌, ◌-◌, ◌==◌, ◌↔◌, ◌∙◌, ◌∷◌, ◌≡◌}
use Rattle.zl_code.specs.declared.history.TraceItem.TheVariants as item

-- ---- what is asked of each item, and is true of local instructions

module _ (P : TraceItem → Type 0) (free : (pid n : ℕ) → P (item.Run pid n)) where
  of_runs : (pid n : ℕ) → AllByRecursion P (replicate n (item.Run pid 1))
  of_runs pid zero = tt
  of_runs pid (suc n) = (free pid 1, of_runs pid n)

  of_one : (x : TraceItem) → P x → AllByRecursion P (single x)
  of_one (item.Run pid count) h = of_runs pid count
  of_one (item.Call pid called o) h = (h, tt)
  of_one (item.Stuck pid) h = (h, tt)

  before : (xs ys : List TraceItem) → AllByRecursion P xs → AllByRecursion P ys → AllByRecursion P (xs ++ ys)
  before [] ys h more = more
  before (x ∷ xs) ys (one, h) more = (one, before xs ys h more)

  behind : (xs ys : List TraceItem) → AllByRecursion P (xs ++ ys) → AllByRecursion P ys
  behind [] ys h = h
  behind (x ∷ xs) ys h = behind xs ys h.1

  of_first : (x : TraceItem) (ys : List TraceItem) → AllByRecursion P (single x ++ ys) → P x
  of_first (item.Run pid count) ys h = free pid count
  of_first (item.Call pid called o) ys h = h.0
  of_first (item.Stuck pid) ys h = h.0

  pub to_single : (xs : List TraceItem) → AllByRecursion P xs → AllByRecursion P (flat_map single xs)
  to_single [] h = tt
  to_single (x ∷ xs) (one, more) =
      subst (AllByRecursion P) (sym (flat_map-cons single x xs)) (before (single x) (flat_map single xs) (of_one x one) (to_single xs more))

  pub to_joined : (xs : List TraceItem) → AllByRecursion P (flat_map single xs) → AllByRecursion P xs
  to_joined [] h = tt
  to_joined (x ∷ xs) h =
      let k : AllByRecursion P (single x ++ flat_map single xs) = subst (AllByRecursion P) (flat_map-cons single x xs) h in
      (of_first x (flat_map single xs) k, to_joined xs (behind (single x) (flat_map single xs) k))

-- ---- the budget

module _ (budget p : ℕ) where
  -- what is left for the items ys, where b says whether so many instructions are those of p
  abbrev Behind : Bool → (n left : ℕ) → List TraceItem → Type 0
  Behind b n left ys = IsSomeAnd (if b then left_behind budget left (Some n) else Some left) (λ more. KeepsBudget budget p more ys)

  none_done : (left : ℕ) → left_behind budget left (Some 0) ≡ Some left
  none_done left =
      let room : nat_le 0 left ≡ true = grind (arith, nat_tests) in
      let same : ◌≡◌ {A = ℕ} (left - 0) left = omega arith in
      rw room (ap Some same)

  -- one more, where there is room for one
  one_more : (n left : ℕ) → nat_le 1 left ≡ true → left_behind budget (left - 1) (Some n) ≡ left_behind budget left (Some (suc n))
  one_more n left room = by (nat_le n (left - 1)) refl
    where
      by : (b : Bool) → nat_le n (left - 1) ≡ b → (if b then Some (left - 1 - n) else None) ≡ left_behind budget left (Some (suc n))
      by true e =
          let more : nat_le (suc n) left ≡ true = grind (arith, nat_tests, e, room) in
          let same : ◌≡◌ {A = ℕ} (left - 1 - n) (left - suc n) = omega arith in
          rw more (ap Some same)
      by false e =
          let more : nat_le (suc n) left ≡ false = grind (arith, nat_tests, e, room) in
          rw more refl

  too_many : (n left : ℕ) → nat_le 1 left ≡ false → left_behind budget left (Some (suc n)) ≡ None
  too_many n left none = let more : nat_le (suc n) left ≡ false = grind (arith, nat_tests, none) in rw more refl

  -- so many local instructions one by one count as they do together
  runs_count : (q : ℕ) (b : Bool) → (q == p) ≡ b → (n left : ℕ) (ys : List TraceItem)
      → ◌≡◌ {A = Type 0} (KeepsBudget budget p left (replicate n (item.Run q 1) ++ ys)) (Behind b n left ys)
  runs_count q false e zero left ys = refl
  runs_count q true e zero left ys = ap (λ (o : Option ℕ). IsSomeAnd o (λ more. KeepsBudget budget p more ys)) (sym (none_done left))
  runs_count q false e (suc n) left ys = ap (λ (b : Bool). Behind b 1 left (replicate n (item.Run q 1) ++ ys)) e ∙ runs_count q false e n left ys
  runs_count q true e (suc n) left ys =
      ap (λ (b : Bool). Behind b 1 left (replicate n (item.Run q 1) ++ ys)) e ∙ by (λ k. runs_count q true e n k ys) (nat_le 1 left) refl
    where
      by : ((k : ℕ) → ◌≡◌ {A = Type 0} (KeepsBudget budget p k (replicate n (item.Run q 1) ++ ys)) (Behind true n k ys)) → (b : Bool) → nat_le 1 left ≡ b
          → ◌≡◌ {A = Type 0} (Behind true 1 left (replicate n (item.Run q 1) ++ ys)) (Behind true (suc n) left ys)
      by rest true room =
          ap (λ (b : Bool). IsSomeAnd (if b then Some (left - 1) else None) (λ more. KeepsBudget budget p more (replicate n (item.Run q 1) ++ ys))) room
          ∙ (rest (left - 1) ∙ ap (λ (o : Option ℕ). IsSomeAnd o (λ more. KeepsBudget budget p more ys)) (one_more n left room))
      by rest false none =
          ap (λ (b : Bool). IsSomeAnd (if b then Some (left - 1) else None) (λ more. KeepsBudget budget p more (replicate n (item.Run q 1) ++ ys))) none
          ∙ ap (λ (o : Option ℕ). IsSomeAnd o (λ more. KeepsBudget budget p more ys)) (sym (too_many n left none))

  one_counts : (x : TraceItem) (left : ℕ) (ys : List TraceItem)
      → ◌≡◌ {A = Type 0} (KeepsBudget budget p left (single x ++ ys)) (KeepsBudget budget p left (x ∷ ys))
  one_counts (item.Run q count) left ys = runs_count q (q == p) refl count left ys
  one_counts _ left ys = refl

  pub counts_alike : (xs : List TraceItem) (left : ℕ) → ◌≡◌ {A = Type 0} (KeepsBudget budget p left (flat_map single xs)) (KeepsBudget budget p left xs)
  counts_alike [] left = refl
  counts_alike (x ∷ xs) left =
      ap (KeepsBudget budget p left) (flat_map-cons single x xs) ∙ one_counts x left (flat_map single xs)
      ∙ (λ k. IsSomeAnd (if pid_of x == p then left_behind budget left (executed x) else Some left) (λ more. counts_alike xs more k))

-- ---- all of it

pub joined_go_well : (i : Image) (p : ℕ) (history : List TraceItem) → (GoesWell i p history ↔ GoesWell i p (flat_map single history))
joined_go_well i p history = (
  λ g. record {
    no_fault = to_single (HasNoFault p) (λ q n. tt) history g.no_fault;
    ends_itself = to_single (EndsItself p) (λ q n. tt) history g.ends_itself;
    not_stuck = to_single (IsNotStuck p) (λ q n. tt) history g.not_stuck;
    budget = subst (λ (T : Type 0). T) (sym (counts_alike i.budget p history i.budget)) g.budget;
  },
  λ g. record {
    no_fault = to_joined (HasNoFault p) (λ q n. tt) history g.no_fault;
    ends_itself = to_joined (EndsItself p) (λ q n. tt) history g.ends_itself;
    not_stuck = to_joined (IsNotStuck p) (λ q n. tt) history g.not_stuck;
    budget = subst (λ (T : Type 0). T) (counts_alike i.budget p history i.budget) g.budget;
  },
)
