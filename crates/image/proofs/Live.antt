-- A memory that is as it was, read at a word that it has.
use Rattle.std.proofs.Common.{◌≡◌, ℕ, ◌<◌, get_or, Ok, Err, arith}
use Rattle.std.proofs.lemmas.Bool.{lt-leb}
use Rattle.refusal.specs.declared.Refusal.{Refusal}
use Rattle.memory.specs.Meaning.{Words, read_answer, size_of}

pub read_granted : (m was : Words) (i w : ℕ) → m ≡ was → i < size_of was → Ok w ≡ read_answer m i → w ≡ get_or was.live i 0
read_granted m was i w same h e = let inside = lt-leb (size_of was) i h in cc

pub never_refused : (m was : Words) (i : ℕ) (x : Refusal) → m ≡ was → i < size_of was → Err x ≡ read_answer m i → ⊥
never_refused m was i x same h e = let inside = lt-leb (size_of was) i h in let z : ◌≡◌ {A = ℕ} 0 1 = cc in omega arith
