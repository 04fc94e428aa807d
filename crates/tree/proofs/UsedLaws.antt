-- Whether a leaf is used: it is one of some numbers, or of an index.
use Rattle.std.proofs.Common.{◌≡◌, ℕ, ◌||◌, ◌==◌, List, [], ◌∷◌, ◌++◌, Ok, Result, refl, arith}
use Rattle.std.proofs.lemmas.Bool.Decides.{nat_tests}
use Rattle.std.specs.List.{list_any}
use Rattle.refusal.specs.declared.Refusal.{Refusal}
use Rattle.leaves.specs.Opening.{member}
use Rattle.index.specs.declared.node.Entry.{Entry}
use Rattle.index.specs.Nodes.{holds, numbers}

pub held_is : (leaf : ℕ) (es : List Entry) → member leaf (numbers es) ≡ holds leaf es
held_is leaf [] = refl
held_is leaf (e ∷ es) = let ih = held_is leaf es in grind (arith, nat_tests)

pub used_is : (leaf : ℕ) (ks : List ℕ) (es : List Entry) → member leaf (ks ++ numbers es) ≡ (list_any (λ k. k == leaf) ks || holds leaf es)
used_is leaf [] es = held_is leaf es
used_is leaf (k ∷ ks) es = let ih = used_is leaf ks es in grind (arith, nat_tests)

pub same_number : (a b : ℕ) → ◌≡◌ {A = Result ℕ Refusal} (Ok a) (Ok b) → a ≡ b
same_number a b e = cc
