-- What an answer says of its value.
use Rattle.zl_asm.proofs.Common.{Err, IfErr, IfOk, IsErr, None, Ok, Option, Result, Some, inr, option_map, refl, result_ok, ◌≡◌, ◌⊎◌}

-- a fault has no value
pub no_answer : {T E : Type 0} (r : Result T E) → IsErr r → result_ok r ≡ None
no_answer (Ok x) h = absurd (cc)
no_answer (Err e) h = refl

-- the whole is the value of the answer
pub value_if_ok : {S T E : Type 0} (r : Result S E) (f : S → T) (whole : Option T) → whole ≡ option_map f (result_ok r) → IfOk r (λ x. whole ≡ Some (f x))
value_if_ok (Ok x) f whole e = e
value_if_ok (Err c) f whole e = tt

-- and nothing for a fault
pub none_if_err : {S T E : Type 0} (r : Result S E) (f : S → T) (whole : Option T) (P : E → Type 0) → whole ≡ option_map f (result_ok r)
    → IfErr r (λ c. P c ⊎ (whole ≡ None))
none_if_err (Ok x) f whole P e = tt
none_if_err (Err c) f whole P e = inr e
