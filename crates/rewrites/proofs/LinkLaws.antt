-- The words that link leaves: following them, changing one, and where the last of some stands.
use Rattle.std.proofs.Common.{◌≡◌, ℕ, ◌+◌, ◌<◌, ◌≤◌, true, false, eqb, ltb, ◌⊎◌, List, [], ◌∷◌, ◌++◌, length, sym, refl, ◌∙◌, inl, inr, arith}
use Rattle.std.proofs.lemmas.Bool.{and_from, or_parts, or_left, or_right, le-leb, lt-ltb, eqb-false}
use Rattle.leaves.specs.Layout.{word, leaf_at}
use Rattle.leaves.specs.Opening.{member}
use Rattle.books.specs.Footprint.{linked, in_leaf, in_leaves, footprint}
use Rattle.books.specs.Opens.{Leads}
use Rattle.appends.proofs.AppendLaws.{Sized}
use Rattle.rewrites.specs.Rewrite.{Filling, leaf_numbers, first_leaf, link_at, Fillings}
use Rattle.rewrites.proofs.LeafLists.{member_parts}

-- The words before the last on the way along some leaves stay.
abbrev pub Links : List ℕ → List ℕ → ℕ → List ℕ → Type 0
Links a b at [] = Unit {0}
Links a b at (k ∷ ks) = (word a at ≡ word b at) × Links a b (leaf_at k) ks

-- A chain with its last link changed leads to other leaves from there on.
pub leads_relinked : (a b : List ℕ) (at : ℕ) (pre rest other : List ℕ) → Links a b at pre → Leads b (word b at) (pre ++ rest) → Leads a (word a (link_at at pre)) other → Leads a (word a at) (pre ++ other)
leads_relinked a b at [] rest other links h new = new
leads_relinked a b at (k ∷ pre) rest other links h new = (links.0 ∙ h.0, h.1, leads_relinked a b (leaf_at k) pre rest other links.1 h.2 new)

-- What comes after some leaves of a chain.
pub leads_rest : (m : List ℕ) (at : ℕ) (pre rest : List ℕ) → Leads m (word m at) (pre ++ rest) → Leads m (word m (link_at at pre)) rest
leads_rest m at [] rest h = h
leads_rest m at (k ∷ pre) rest h = leads_rest m (leaf_at k) pre rest h.2

pub leads_first : (m : List ℕ) (link : ℕ) (ks : List ℕ) → Leads m link ks → link ≡ first_leaf ks
leads_first m link [] h = h
leads_first m link (k ∷ ks) h = h.0

-- After a leaf, the linking word is the next of one of the leaves.
pub link_leaf : (m : List ℕ) (k : ℕ) (ks : List ℕ) → Sized m (k ∷ ks) → (p : ℕ) × (1 ≤ p) × (p ≤ word m 3) × (link_at (leaf_at k) ks ≡ leaf_at p) × (member p (k ∷ ks) ≡ false → ⊥)
link_leaf m k [] h = (k, h.0, h.1, refl, λ e. eqb-false k k (or_parts (eqb k k) _ e).0 refl)
link_leaf m k (j ∷ ks) h =
    let (p, some, near, is, in_it) = link_leaf m j ks h.3 in
    (p, some, near, is, λ e. in_it (or_parts (eqb p k) _ e).1)

-- Where the linking word stands: in the head, or as the next of a leaf of the list.
abbrev pub LinkPlace : List ℕ → ℕ → List ℕ → Type 0
LinkPlace m at ks = (link_at at ks ≡ at) ⊎ ((p : ℕ) × (1 ≤ p) × (p ≤ word m 3) × (link_at at ks ≡ leaf_at p) × (member p ks ≡ false → ⊥))

pub link_place : (m : List ℕ) (at : ℕ) (ks : List ℕ) → Sized m ks → LinkPlace m at ks
link_place m at [] h = inl refl
link_place m at (k ∷ ks) h = inr (link_leaf m k ks h)

pub link_in : (m : List ℕ) (k : ℕ) (ks rest : List ℕ) → in_leaves m ((k ∷ ks) ++ rest) (link_at (leaf_at k) ks) ≡ true
link_in m k [] rest = or_left _ _ (or_left _ _ (and_from _ _ (le-leb (leaf_at k) (leaf_at k) (omega arith)) (lt-ltb (leaf_at k) (leaf_at k + 3) (omega arith))))
link_in m k (j ∷ ks) rest = or_right (in_leaf m k (link_at (leaf_at j) ks)) _ (link_in m j ks rest)

pub link_footprint : (m pre rest : List ℕ) → linked m ≡ pre ++ rest → footprint m (link_at 2 pre) ≡ true
link_footprint m [] rest is = refl
link_footprint m (k ∷ ks) rest is = or_right (ltb (link_at (leaf_at k) ks) 4) _ (rw is (link_in m k ks rest))

-- The old link names a leaf that goes, the new one a leaf that was free.
pub link_differs : (m : List ℕ) (link : ℕ) (pre old post : List ℕ) (fs : List Filling) → 0 < length old → 0 < length fs → Leads m link (old ++ post) → Fillings (λ f. member f.leaf (pre ++ (old ++ post)) ≡ false) fs → link ≡ first_leaf (leaf_numbers fs ++ post) → ⊥
link_differs m link pre [] post fs a b leads free e = omega arith
link_differs m link pre (x ∷ old) post [] a b leads free e = omega arith
link_differs m link pre (x ∷ old) post (f ∷ fs) a b leads free e =
    let (_, in_rest) = member_parts f.leaf pre ((x ∷ old) ++ post) free.0 in
    eqb-false f.leaf x (or_parts (eqb f.leaf x) _ in_rest).0 (sym e ∙ leads.0)
