-- What the test of the length says, granted and refused.
use Rattle.std.proofs.Common.{◌≡◌, ℕ, ◌*◌, cond, List, is_ok, Ok, Err, sym, ap, arith}
use Rattle.std.proofs.lemmas.Bool.{cond-true, cond-false}
use Rattle.std.proofs.lemmas.Bool.Decides.{nat_tests}
use Rattle.refusal.specs.declared.Refusal.{Refusal}
use Rattle.image.specs.Image.{image_answer}

pub eight_each : (n m : ℕ) → Ok tt ≡ image_answer n m → n ≡ 8 * m
eight_each n m e = grind (arith, nat_tests)

pub granted : (n m : ℕ) (a b : List ℕ) → Ok tt ≡ image_answer n m → a ≡ cond (is_ok (image_answer n m)) a b
granted n m a b e = sym (cond-true (is_ok (image_answer n m)) a b (sym (ap is_ok e)))

pub refused : (n m : ℕ) (x : Refusal) (a b : List ℕ) → Err x ≡ image_answer n m → b ≡ cond (is_ok (image_answer n m)) a b
refused n m x a b e = sym (cond-false (is_ok (image_answer n m)) a b (sym (ap is_ok e)))
