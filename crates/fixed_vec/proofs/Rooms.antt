-- Where there is room, all is taken.
use Rattle.std.proofs.Common.{◌≡◌, ℕ, ◌+◌, ◌<◌, ◌≤◌, true, cond, leb, List, ◌++◌, length, Ok, Err, Result, arith, rules}
use Rattle.std.proofs.lemmas.Bool.{cond-true, le-leb}
use Rattle.std.specs.Result.{IsOk}
use Rattle.fixed_vec.specs.Items.{joined, room}
use Rattle.fixed_vec.specs.declared.list.Full.{Full}

pub joined_all : {T : Type 0} (n : ℕ) (xs ys : List T) → length xs + length ys ≤ n → joined n xs ys ≡ xs ++ ys
joined_all n xs ys h = cond-true _ _ _ (le-leb (length xs + length ys) n h)

pub granted : {T : Type 0} {r : Result (Unit {0}) Full} (n : ℕ) (xs ys : List T) → r ≡ room n xs ys → length xs + length ys ≤ n → IsOk r
granted n xs ys is h = let full : leb (length xs + length ys) n ≡ true = le-leb (length xs + length ys) n h in search rules

-- One item more.
pub one_granted : {T : Type 0} {r : Result (Unit {0}) Full} (n : ℕ) (xs : List T) → r ≡ cond (leb (length xs + 1) n) (Ok tt) (Err (record {})) → length xs < n → IsOk r
one_granted n xs is h = let full : leb (length xs + 1) n ≡ true = le-leb (length xs + 1) n (omega arith) in search rules
