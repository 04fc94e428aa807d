-- When words open to a list of leaves, said leaf by leaf.
use Rattle.std.specs.Prelude.{◌≡◌, ℕ, ◌+◌, ◌*◌, ◌<◌, ◌≤◌, Bool, true, false, ◌⊎◌, List, [], ◌∷◌, length, None, Ok, Option}
use Rattle.keys.specs.InWords.{WordKind}
use Rattle.leaves.specs.Layout.{word, element, next_of, count_of, form_of}
use Rattle.leaves.specs.Pairs.{pairs}
use Rattle.leaves.specs.Opening.{good, greatest, member, open_answer}

-- From a link on, next by next, these leaves and no more.
abbrev pub Leads : List ℕ → ℕ → List ℕ → Type 0
Leads m link [] = link ≡ 0
Leads m link (k ∷ ks) = (link ≡ k) × (1 ≤ k) × Leads m (next_of m k) ks

-- No leaf has a number above n.
abbrev pub UpTo : ℕ → List ℕ → Type 0
UpTo n [] = Unit {0}
UpTo n (k ∷ ks) = (k ≤ n) × UpTo n ks

-- No leaf stands twice.
abbrev pub Distinct : List ℕ → Type 0
Distinct [] = Unit {0}
Distinct (k ∷ ks) = (member k ks ≡ false) × Distinct ks

-- A leaf without fault after a bound; an empty one stands alone.
pub record Fine (o : WordKind) (m : List ℕ) (alone : Bool) (bound : Option (ℕ × ℕ)) (k : ℕ) : Type 0 where
  pub few : count_of m k ≤ 16
  pub form : form_of m k ≡ 0
  pub some : (alone ≡ true) ⊎ (0 < count_of m k)
  pub each : (s : ℕ) → s < count_of m k → good o bound (pairs o m k s) (element m k s) ≡ true

-- Each leaf without fault after the greatest key of the one before.
abbrev pub AllFine : WordKind → List ℕ → Bool → Option (ℕ × ℕ) → List ℕ → Type 0
AllFine o m alone bound [] = Unit {0}
AllFine o m alone bound (k ∷ ks) = Fine o m alone bound k × AllFine o m alone (greatest o m k (count_of m k)) ks

-- There is one leaf and no other.
abbrev pub lone : List ℕ → Bool
lone [] = false
lone (k ∷ []) = true
lone (k ∷ l ∷ ks) = false

-- Words open to these leaves: the head is that of a book of this kind, and the leaves are the chain from word 2, not all that there are, each without fault.
pub record Opens (o : WordKind) (m : List ℕ) (ks : List ℕ) : Type 0 where
  pub long : 152 ≤ length m
  pub mark : word m 0 ≡ 30366
  pub code : word m 1 ≡ o.code
  pub least : 2 ≤ word m 3
  pub most : word m 3 ≤ 64
  pub fits : 8 + 72 * word m 3 ≤ length m
  pub some : 0 < length ks
  pub spare : length ks < word m 3
  pub leads : Leads m (word m 2) ks
  pub within : UpTo (word m 3) ks
  pub distinct : Distinct ks
  pub fine : AllFine o m (lone ks) None ks

-- Opening answers these leaves just where this holds.
abbrev pub OpeningIs : Type 0
OpeningIs = (o : WordKind) (m ks : List ℕ) → (open_answer o m ≡ Ok ks → Opens o m ks) × (Opens o m ks → open_answer o m ≡ Ok ks)
