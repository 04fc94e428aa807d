-- Lists of leaves taken apart and put together.
use Rattle.std.proofs.Common.{◌≡◌, ℕ, ◌≤◌, false, eqb, List, [], ◌∷◌, ◌++◌, refl}
use Rattle.std.proofs.lemmas.Bool.{or_parts, or_from}
use Rattle.leaves.specs.Opening.{member}
use Rattle.books.specs.Opens.{UpTo, Distinct}
use Rattle.appends.proofs.AppendLaws.{Sized}
use Rattle.rewrites.specs.Rewrite.{Filling, leaf_numbers, Fillings}
use Rattle.books.proofs.OpensLaws.{unlike, Apart}

pub member_parts : (x : ℕ) (xs ys : List ℕ) → member x (xs ++ ys) ≡ false → (member x xs ≡ false) × (member x ys ≡ false)
member_parts x [] ys h = (refl, h)
member_parts x (y ∷ xs) ys h =
    let (here, more) = or_parts (eqb x y) _ h in
    let (a, b) = member_parts x xs ys more in
    (or_from _ _ here a, b)

pub member_from : (x : ℕ) (xs ys : List ℕ) → member x xs ≡ false → member x ys ≡ false → member x (xs ++ ys) ≡ false
member_from x [] ys h k = k
member_from x (y ∷ xs) ys h k = let (here, more) = or_parts (eqb x y) _ h in or_from _ _ here (member_from x xs ys more k)

pub distinct_split : (xs ys : List ℕ) → Distinct (xs ++ ys) → Distinct xs × Distinct ys × Apart ys xs
distinct_split [] ys h = (tt, h, tt)
distinct_split (x ∷ xs) ys h =
    let (a, b) = member_parts x xs ys h.0 in
    let (p, q, r) = distinct_split xs ys h.1 in
    ((a, p), q, (b, r))

pub distinct_join : (xs ys : List ℕ) → Distinct xs → Distinct ys → Apart ys xs → Distinct (xs ++ ys)
distinct_join [] ys p q r = q
distinct_join (x ∷ xs) ys p q r = (member_from x xs ys p.0 r.0, distinct_join xs ys p.1 q r.1)

pub apart_nil : (xs : List ℕ) → Apart [] xs
apart_nil [] = tt
apart_nil (x ∷ xs) = (refl, apart_nil xs)

pub apart_cons : (y : ℕ) (ys xs : List ℕ) → member y xs ≡ false → Apart ys xs → Apart (y ∷ ys) xs
apart_cons y ys [] h k = tt
apart_cons y ys (x ∷ xs) h k = let (here, more) = or_parts (eqb y x) _ h in (or_from _ _ (unlike y x here) k.0, apart_cons y ys xs more k.1)

pub apart_swap : (xs ys : List ℕ) → Apart ys xs → Apart xs ys
apart_swap [] ys h = apart_nil ys
apart_swap (x ∷ xs) ys h = apart_cons x xs ys h.0 (apart_swap xs ys h.1)

pub apart_parts : (us vs xs : List ℕ) → Apart (us ++ vs) xs → Apart us xs × Apart vs xs
apart_parts us vs [] h = (tt, tt)
apart_parts us vs (x ∷ xs) h =
    let (a, b) = member_parts x us vs h.0 in
    let (p, q) = apart_parts us vs xs h.1 in
    ((a, p), (b, q))

pub apart_from : (us vs xs : List ℕ) → Apart us xs → Apart vs xs → Apart (us ++ vs) xs
apart_from us vs [] h k = tt
apart_from us vs (x ∷ xs) h k = (member_from x us vs h.0 k.0, apart_from us vs xs h.1 k.1)

-- Other leaves in place of some, none of them in the list before.
pub distinct_replaced : (pre old post new : List ℕ) → Distinct (pre ++ (old ++ post)) → Distinct new → Apart (pre ++ (old ++ post)) new → Distinct (pre ++ (new ++ post))
distinct_replaced pre old post new h d free =
    let (in_pre, in_rest, apart) = distinct_split pre (old ++ post) h in
    let (_, in_post, _) = distinct_split old post in_rest in
    let (_, post_pre) = apart_parts old post pre apart in
    let (new_pre, new_rest) = apart_parts pre (old ++ post) new free in
    let (_, new_post) = apart_parts old post new new_rest in
    distinct_join pre (new ++ post) in_pre (distinct_join new post d in_post new_post) (apart_from new post pre (apart_swap new pre new_pre) post_pre)

pub up_to_left : (n : ℕ) (xs ys : List ℕ) → UpTo n (xs ++ ys) → UpTo n xs
up_to_left n [] ys h = tt
up_to_left n (x ∷ xs) ys h = (h.0, up_to_left n xs ys h.1)

pub up_to_right : (n : ℕ) (xs ys : List ℕ) → UpTo n (xs ++ ys) → UpTo n ys
up_to_right n [] ys h = h
up_to_right n (x ∷ xs) ys h = up_to_right n xs ys h.1

pub up_to_from : (n : ℕ) (xs ys : List ℕ) → UpTo n xs → UpTo n ys → UpTo n (xs ++ ys)
up_to_from n [] ys h k = k
up_to_from n (x ∷ xs) ys h k = (h.0, up_to_from n xs ys h.1 k)

pub sized_left : (m xs ys : List ℕ) → Sized m (xs ++ ys) → Sized m xs
sized_left m [] ys h = tt
sized_left m (x ∷ xs) ys h = (h.0, h.1, h.2, sized_left m xs ys h.3)

pub sized_right : (m xs ys : List ℕ) → Sized m (xs ++ ys) → Sized m ys
sized_right m [] ys h = h
sized_right m (x ∷ xs) ys h = sized_right m xs ys h.3

pub fillings_map : (P Q : Filling → Type 0) → ((f : Filling) → P f → Q f) → (fs : List Filling) → Fillings P fs → Fillings Q fs
fillings_map P Q g [] h = tt
fillings_map P Q g (f ∷ fs) h = (g f h.0, fillings_map P Q g fs h.1)

pub free_apart : (ks : List ℕ) (fs : List Filling) → Fillings (λ f. member f.leaf ks ≡ false) fs → Apart ks (leaf_numbers fs)
free_apart ks [] h = tt
free_apart ks (f ∷ fs) h = (h.0, free_apart ks fs h.1)

pub numbers_up_to : (n : ℕ) (fs : List Filling) → Fillings (λ f. (1 ≤ f.leaf) × (f.leaf ≤ n)) fs → UpTo n (leaf_numbers fs)
numbers_up_to n [] h = tt
numbers_up_to n (f ∷ fs) h = (h.0.1, numbers_up_to n fs h.1)
