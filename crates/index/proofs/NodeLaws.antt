-- Filling and searching one node.
use Rattle.std.proofs.Common.{◌≡◌, ℕ, zero, suc, ◌+◌, ◌-◌, ◌<◌, true, false, cond, Option, List, [], ◌∷◌, ◌++◌, length, get_or, take, take_all, drop, set, sym, refl, ap, ◌∙◌, arith, length-append, length-take}
use lib.ListN.{length-map}
use Rattle.std.proofs.lemmas.List.{take_more}
use Rattle.std.proofs.lemmas.Iterator.{index_from_first}
use Rattle.std.specs.List.{AllWithin, HoldsAt}
use Rattle.std.specs.Option.{MatchOption, unwrap_or}
use Rattle.std.proofs.lemmas.Bool.{cond-true, cond-false}
use Rattle.keys.specs.InWords.{WordKind}
use Rattle.index.specs.declared.node.Entry.{Entry}
use Rattle.index.specs.Nodes.{bounds, entry, parted, renamed}
use Rattle.index.specs.Search.{search}

-- Another leaf in the place of one.
pub renamed_at : (es : List Entry) (s leaf : ℕ) (d : Entry) → s < length es → renamed es s leaf ≡ set es s (entry leaf (get_or es s d).bound)
renamed_at [] s leaf d h = absurd (omega arith)
renamed_at (e ∷ es) zero leaf d h = refl
renamed_at (e ∷ es) (suc s) leaf d h = ap (λ xs. e ∷ xs) (renamed_at es s leaf d (omega arith))

pub parted_at : (es : List Entry) (s left : ℕ) (b : ℕ × ℕ) (right : ℕ) (d : Entry) → s < length es → parted es s left b right ≡ take s es ++ (entry left b ∷ entry right (get_or es s d).bound ∷ drop (s + 1) es)
parted_at [] s left b right d h = absurd (omega arith)
parted_at (e ∷ es) zero left b right d h = refl
parted_at (e ∷ es) (suc s) left b right d h = ap (λ xs. e ∷ xs) (parted_at es s left b right d (omega arith)) ∙ (let k : suc s + 1 ≡ suc (s + 1) = omega arith in rw k)

-- The search of more than one bound.
pub cons_search : (o : WordKind) (key b : ℕ × ℕ) (bs : List (ℕ × ℕ)) → 0 < length bs → search o key (b ∷ bs) ≡ cond (o.before b key) (suc (search o key bs)) 0
cons_search o key b [] h = absurd (omega arith)
cons_search o key b (c ∷ bs) h = refl

-- The search comes to the first place whose bound is not before the key, of all but the last, otherwise to the last.
pub search_first : (o : WordKind) (key : ℕ × ℕ) (es : List Entry) (r : Option ℕ) → 0 < length es → let front = take (length es - 1) es in
    MatchOption r (AllWithin (λ e. o.before e.bound key ≡ true) front 0 (length front)) (λ i. (i < length front) × HoldsAt (λ e. o.before e.bound key ≡ false) front i × AllWithin (λ e. o.before e.bound key ≡ true) front 0 i)
    → unwrap_or r (length es - 1) ≡ search o key (bounds es)
search_first o key es r some first =
    let last = get_or es (length es - 1) (entry 0 (0, 0)) in
    let front = take (length es - 1) es in
    let more : (x : Entry) (xs : List Entry) → search o key (bounds ((x ∷ xs) ++ (last ∷ []))) ≡ cond (o.before x.bound key) (suc (search o key (bounds (xs ++ (last ∷ []))))) 0 = λ x xs.
    cons_search o key x.bound (bounds (xs ++ (last ∷ []))) (simp (length-map, length-append) (omega arith)) in
    let place = index_from_first (λ xs. search o key (bounds (xs ++ (last ∷ [])))) (λ e. o.before e.bound key ≡ false) (λ e. o.before e.bound key ≡ true) refl
    (λ x xs yes. more x xs ∙ cond-false _ _ _ yes) (λ x xs no. more x xs ∙ cond-true _ _ _ no ∙ omega arith) front r first in
    let all : front ++ (last ∷ []) ≡ es = sym (take_more es (length es - 1) (entry 0 (0, 0)) (omega arith)) ∙ take_all (length es - 1 + 1) es (omega arith) in
    let long : length front ≡ length es - 1 = simp length-take (omega arith) in
    sym (ap (λ xs. search o key (bounds xs)) (sym all) ∙ place ∙ ap (unwrap_or r) long)
