-- Opening and the book rest on the footprint alone.
use Rattle.std.proofs.Common.{◌≡◌, ℕ, zero, suc, ◌+◌, ◌-◌, ◌<◌, ◌≤◌, Bool, true, false, cond, ◌&&◌, ◌||◌, T, eqb, ltb, List, [], ◌∷◌, ◌++◌, get_or, None, Err, Option, refl, ap, ◌∙◌, add-zero, arith}
use Rattle.std.proofs.lemmas.Bool.{and_from, or_left, or_right, le-leb, lt-ltb}
use Rattle.keys.specs.InWords.{WordKind}
use Rattle.leaves.specs.Layout.{word, leaf_at, slot_at, element, next_of, count_of, form_of}
use Rattle.leaves.specs.Pairs.{pairs}
use Rattle.leaves.specs.Opening.{bad_link_of}
use Rattle.leaves.specs.Opening.{good, first_bad, leaf_fault, greatest, ended, checked, member, walk}
use Rattle.leaves.specs.Ascent.{chain, all_pairs}
use Rattle.books.specs.Footprint.{linked, in_leaf, in_leaves, Depends}

pub holds : (b : Bool) → b ≡ true → T b
holds b e = rw e tt

-- leaf k reads alike in two lists of words
pub record SameLeaf (a b : List ℕ) (k : ℕ) : Type 0 where
  pub next : next_of a k ≡ next_of b k
  pub count : count_of a k ≡ count_of b k
  pub form : form_of a k ≡ form_of b k
  pub each : (s : ℕ) → s < count_of b k → element a k s ≡ element b k s

-- the same of all but its next
pub record KeptLeaf (a b : List ℕ) (k : ℕ) : Type 0 where
  pub count : count_of a k ≡ count_of b k
  pub form : form_of a k ≡ form_of b k
  pub each : (s : ℕ) → s < count_of b k → element a k s ≡ element b k s

pub kept_of : {a b : List ℕ} {k : ℕ} → SameLeaf a b k → KeptLeaf a b k
kept_of h = record { count = h.count; form = h.form; each = h.each }

abbrev pub KeptLeaves : List ℕ → List ℕ → List ℕ → Type 0
KeptLeaves a b [] = Unit {0}
KeptLeaves a b (k ∷ ks) = KeptLeaf a b k × KeptLeaves a b ks

abbrev pub SameLeaves : List ℕ → List ℕ → List ℕ → Type 0
SameLeaves a b [] = Unit {0}
SameLeaves a b (k ∷ ks) = SameLeaf a b k × SameLeaves a b ks

pub all_kept_of : (a b ks : List ℕ) → SameLeaves a b ks → KeptLeaves a b ks
all_kept_of a b [] h = tt
all_kept_of a b (k ∷ ks) h = (kept_of h.0, all_kept_of a b ks h.1)

module _ (a b : List ℕ) where
  leaf_alike : (k : ℕ) → ((i : ℕ) → in_leaf b k i ≡ true → get_or a i 0 ≡ get_or b i 0) → SameLeaf a b k
  leaf_alike k same = record {
    next = rw add-zero at (head 0 (omega arith));
    count = head 1 (omega arith);
    form = head 2 (omega arith);
    each = λ s h.
        let x : get_or a (slot_at k s) 0 ≡ get_or b (slot_at k s) 0 = rw add-zero at (slot s 0 h (omega arith)) in
        let y = slot s 1 h (omega arith) in
        let z = slot s 2 h (omega arith) in
        let u = slot s 3 h (omega arith) in cc;
  }
    where
      head : (j : ℕ) → j < 3 → get_or a (leaf_at k + j) 0 ≡ get_or b (leaf_at k + j) 0
      head j h = same _ (or_left _ _ (and_from _ _ (le-leb (leaf_at k) (leaf_at k + j) (omega arith)) (lt-ltb (leaf_at k + j) (leaf_at k + 3) (omega arith))))

      slot : (s j : ℕ) → s < count_of b k → j < 4 → get_or a (slot_at k s + j) 0 ≡ get_or b (slot_at k s + j) 0
      slot s j h l = same _ (or_right _ _ (and_from _ _ (le-leb (slot_at k 0) (slot_at k s + j) (omega arith)) (lt-ltb (slot_at k s + j) (slot_at k (count_of b k)) (omega arith))))

  pub leaves_alike : (ks : List ℕ) → ((i : ℕ) → in_leaves b ks i ≡ true → get_or a i 0 ≡ get_or b i 0) → SameLeaves a b ks
  leaves_alike [] same = tt
  leaves_alike (k ∷ ks) same = (leaf_alike k (λ i h. same i (or_left _ _ h)), leaves_alike ks (λ i h. same i (or_right (in_leaf b k i) _ h)))

module _ (o : WordKind) (a b : List ℕ) where
  pub pairs_upto : (k n : ℕ) → ((s : ℕ) → s < n → element a k s ≡ element b k s) → pairs o a k n ≡ pairs o b k n
  pairs_upto k zero h = refl
  pairs_upto k (suc n) h = let e = h n (omega arith) in let more = pairs_upto k n (λ s l. h s (omega arith)) in cc

  pub greatest_upto : (k n : ℕ) → ((s : ℕ) → s < n → element a k s ≡ element b k s) → greatest o a k n ≡ greatest o b k n
  greatest_upto k zero h = refl
  greatest_upto k (suc n) h = let e = h n (omega arith) in let more = greatest_upto k n (λ s l. h s (omega arith)) in cc

  module _ (k : ℕ) (same : SameLeaf a b k) where
    pub pairs_same : (n : ℕ) → n ≤ count_of b k → pairs o a k n ≡ pairs o b k n
    pairs_same n h = pairs_upto k n (λ s l. same.each s (omega arith))

    pub greatest_same : (n : ℕ) → n ≤ count_of b k → greatest o a k n ≡ greatest o b k n
    greatest_same n h = greatest_upto k n (λ s l. same.each s (omega arith))

    first_bad_same : (bound : Option (ℕ × ℕ)) (s n : ℕ) → s + n ≤ count_of b k → first_bad o a bound k s n ≡ first_bad o b bound k s n
    first_bad_same bound s zero h = refl
    first_bad_same bound s (suc n) h =
        let e = ap (good o bound (pairs o a k s)) (same.each s (omega arith)) in
        let f = ap (λ ps. good o bound ps (element b k s)) (pairs_same s (omega arith)) in
        let more = first_bad_same bound (s + 1) n (omega arith) in cc

    leaf_fault_same : (bound : Option (ℕ × ℕ)) (alone : Bool) → leaf_fault o a bound alone k ≡ leaf_fault o b bound alone k
    leaf_fault_same bound alone = rw (same.count, same.form, first_bad_same bound 0 (count_of b k) (omega arith))

  pub all_pairs_kept : (ks : List ℕ) → KeptLeaves a b ks → all_pairs o a ks ≡ all_pairs o b ks
  all_pairs_kept [] same = refl
  all_pairs_kept (k ∷ ks) same = rw (same.0.count, pairs_upto k (count_of b k) same.0.each, all_pairs_kept ks same.1)

  pub all_pairs_same : (ks : List ℕ) → SameLeaves a b ks → all_pairs o a ks ≡ all_pairs o b ks
  all_pairs_same ks same = all_pairs_kept ks (all_kept_of a b ks same)

  pub chain_same : (n link : ℕ) → SameLeaves a b (chain b n link) → chain a n link ≡ chain b n link
  chain_same zero link same = refl
  chain_same (suc n) link same = at (eqb link 0) (chain_same n (next_of b link)) same
    where
      at : (t : Bool) → (SameLeaves a b (chain b n (next_of b link)) → chain a n (next_of b link) ≡ chain b n (next_of b link)) → SameLeaves a b (cond t [] (link ∷ chain b n (next_of b link))) → cond t [] (link ∷ chain a n (next_of a link)) ≡ cond t [] (link ∷ chain b n (next_of b link))
      at true go h = refl
      at false go h = ap (λ xs. link ∷ xs) (ap (chain a n) h.0.next ∙ go h.1)

  walk_same : (n : ℕ) (used : List ℕ) (bound : Option (ℕ × ℕ)) (from link : ℕ) → word a 3 ≡ word b 3 → SameLeaves a b (chain b n link) → walk o a n used bound from link ≡ walk o b n used bound from link
  walk_same zero used bound from link e same = refl
  walk_same (suc n) used bound from link e same = at (eqb link 0) (walk_same n (used ++ (link ∷ [])) (greatest o b link (count_of b link)) link (next_of b link) e) same
    where
      at : (t : Bool) → (SameLeaves a b (chain b n (next_of b link)) → walk o a n (used ++ (link ∷ [])) (greatest o b link (count_of b link)) link (next_of b link) ≡ walk o b n (used ++ (link ∷ [])) (greatest o b link (count_of b link)) link (next_of b link))
          → SameLeaves a b (cond t [] (link ∷ chain b n (next_of b link)))
          → cond t (ended from used) (cond (ltb (word a 3) link || member link used) (Err (bad_link_of from)) (checked link (leaf_fault o a bound (eqb from 0 && eqb (next_of a link) 0) link) (walk o a n (used ++ (link ∷ [])) (greatest o a link (count_of a link)) link (next_of a link))))
          ≡ cond t (ended from used) (cond (ltb (word b 3) link || member link used) (Err (bad_link_of from)) (checked link (leaf_fault o b bound (eqb from 0 && eqb (next_of b link) 0) link) (walk o b n (used ++ (link ∷ [])) (greatest o b link (count_of b link)) link (next_of b link))))
      at true go h = refl
      at false go h =
          let fault = leaf_fault_same link h.0 bound (eqb from 0 && eqb (next_of b link) 0) in
          let top = greatest_same link h.0 (count_of b link) (omega arith) in
          rw (e, h.0.next, fault, h.0.count, top, go h.1)

pub depends_holds : Depends
depends_holds o m words h =
    let head : (i : ℕ) → i < 4 → get_or words i 0 ≡ get_or m i 0 = λ i l. h.1 i (holds _ (or_left _ _ (lt-ltb i 4 l))) in
    let leaves : SameLeaves words m (linked m) = leaves_alike words m (linked m) (λ i t. h.1 i (holds _ (or_right (ltb i 4) _ t))) in
    let w0 = head 0 (omega arith) in
    let w1 = head 1 (omega arith) in
    let w2 = head 2 (omega arith) in
    let w3 = head 3 (omega arith) in
    let chain-is = chain_same o words m (word m 3 - 1) (word m 2) leaves in (
      rw (h.0, w0, w1, w2, w3, walk_same o words m (word m 3 - 1) [] None 0 (word m 2) w3 leaves),
      rw (w2, w3, chain-is) (all_pairs_same o words m (linked m) leaves),
    )
